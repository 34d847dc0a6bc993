-- A load of a word of a tree's snapshot page names the page below.
use Rattle.std.proofs.Common.{◌≡◌, ◌≢◌, ◌⊎◌, inl, inr, ℕ, zero, suc, ◌+◌, ◌-◌, ◌/◌, ◌%◌, ◌^◌, ◌<◌, ◌≤◌, Bool, true, false, List, [], ◌∷◌}
use Rattle.std.proofs.Common.{length, get_or, refl, sym, ap, ◌∙◌, subst, arith, Some}
use Rattle.std.proofs.lemmas.Bool.Decides.{nat_tests}
use Rattle.std.specs.Prelude.{if◌then◌else◌, nat_lt}
use Rattle.std.specs.List.{AllByRecursion, slice_get}
use Rattle.atomic_table.specs.Table.{Me, Allows}
use Rattle.lists.specs.Elements.{at_in, in_cases}
use Rattle.lists.specs.Fronts.{front_length}
use Rattle.serial_model.specs.declared.decl.Decl.TheVariants.{Tree}
use Rattle.homes.specs.declared.places.Span.{Span}
use Rattle.wire_form.specs.declared.page.PageKind.TheVariants.{TreeInner, TreeLeaf}
use Rattle.wire_form.specs.Pages.{Children, HasKind, IsChild, IsSeparator, IsTreeInner, device_header}
use Rattle.snapshot_store.specs.declared.place.PagePlace.{PagePlace}
use Rattle.snapshot_store.specs.Content.{IsPageOf}
use Rattle.snapshot_store.specs.Places.{StandsTo, page as page_words}
use Rattle.snapshot_store.specs.TreePages.{IsTreePage, children, node_below, node_of, tree_format}
use Rattle.engine_rule.specs.Reading.{name_of, span_of}
use Rattle.engine_pages.specs.declared.layout.Layout.{Layout}
use Rattle.engine_pages.specs.declared.view.Lead.{Lead}
use Rattle.engine_pages.specs.declared.view.View.{View}
use Rattle.engine_pages.specs.Layout.{snap_at}
use Rattle.engine_pages.specs.Pages.{is_tree, part_high, part_low}
use Rattle.engine_pages.specs.Resident.{IsNamed, place_for, tree_below}
use Rattle.engine_pages.specs.Rule.{IsLead, Shows}
use Rattle.engine_pages.specs.Views.{IsActive, seat_number}
use Rattle.engine_pages.proofs.Dealing.{rests_all}
use Rattle.engine_pages.proofs.Joint.{Laws}
use Rattle.engine_pages.proofs.Looks.{look_stride}
use Rattle.engine_pages.proofs.Named.{page_longer}
use Rattle.engine_pages.proofs.Seats.{is_at}
use Rattle.engine_pages.proofs.Turns.{allows_at}
use Rattle.dual_pointer.proofs.TreePages.{IsTreeEntry, tree_entry}
use Rattle.tree_heads.proofs.InnerWords.{below_is, child_at, child_place, children_many, pointer_word, separator_word}
use Rattle.pointer_swings.specs.Children.{CanDescendTree, HasDescendedTree, IsPartOf, begin_in, descended_tree, end_in}
use Rattle.pointer_swings.proofs.Descending.{named_there}

-- ---- the words of an interior page

less_test : (a c : ℕ) → a < c → nat_lt a c ≡ true
less_test a c low = grind (arith, low, nat_tests)

more_test : (a c : ℕ) → c ≤ a → nat_lt a c ≡ false
more_test a c high = grind (arith, high, nat_tests)

pub child_in : (number : ℕ) (ns : List ℕ) (j : ℕ) → AllByRecursion (IsChild 1 number) ns → j < length ns → IsChild 1 number (get_or ns j 0)
child_in number [] j all less = absurd (omega (arith, less))
child_in number (n ∷ ns) zero all less = all.0
child_in number (n ∷ ns) (suc j) all less = child_in number ns j all.1 (omega (arith, less))

separator_in : (low high : ℕ) (ss : List ℕ) (j : ℕ) → AllByRecursion (IsSeparator low high) ss → j < length ss
    → IsSeparator low high (get_or ss j 0)
separator_in low high [] j all less = absurd (omega (arith, less))
separator_in low high (s ∷ ss) zero all less = all.0
separator_in low high (s ∷ ss) (suc j) all less = separator_in low high ss j all.1 (omega (arith, less))

-- each of at least two children has a part of the keys
part_inside : (sp : Span) (ss ns : List ℕ) (j : ℕ) → AllByRecursion (IsSeparator sp.low sp.high) ss → 0 < length ss → j ≤ length ss
    → IsPartOf sp (child_place sp ss ns j)
part_inside sp ss ns zero all some most =
    let s = separator_in sp.low sp.high ss 0 all some in
    let one = s.0 in
    let two = s.1 in
    let high : part_high sp ss 0 ≡ get_or ss 0 0 - 1 =
    ap (λ (c : Bool). if c then get_or ss 0 0 - 1 else sp.high) (less_test 0 (length ss) some) in
    record { from = omega arith; to = omega (arith, high, one, two); less = inr (omega (arith, high, one, two)) }
part_inside sp ss ns (suc i) all some most =
    let s = separator_in sp.low sp.high ss i all (omega (arith, most)) in
    let one = s.0 in record { from = omega (arith, one); to = by_test (nat_lt (suc i) (length ss)) refl; less = inl one }
  where
    by_test : (c : Bool) → nat_lt (suc i) (length ss) ≡ c → (if c then get_or ss (suc i) 0 - 1 else sp.high) ≤ sp.high
    by_test true e =
        let here = separator_in sp.low sp.high ss (suc i) all (let less : suc i < length ss = grind (arith, nat_tests) in less) in
        let two = here.1 in omega (arith, two)
    by_test false e = omega arith

-- where a child begins and ends, by the words
begin_is : (sp : Span) (words ss : List ℕ) (j : ℕ) → ((i : ℕ) → i < length ss → get_or words (34 + i) 0 ≡ get_or ss i 0)
    → j ≤ length ss → part_low sp ss j ≡ begin_in words sp j
begin_is sp words ss zero at most = refl
begin_is sp words ss (suc i) at most = sym (at i (omega (arith, most)))

end_is : (sp : Span) (words ss : List ℕ) (j : ℕ) → ((i : ℕ) → i < length ss → get_or words (34 + i) 0 ≡ get_or ss i 0)
    → get_or words 0 0 % 2 ^ 8 ≡ length ss + 1 → part_high sp ss j ≡ end_in words sp j
end_is sp words ss j at count = by_test (nat_lt j (length ss)) refl
  where
    by_test : (c : Bool) → nat_lt j (length ss) ≡ c → (if c then get_or ss j 0 - 1 else sp.high) ≡ end_in words sp j
    by_test true e =
        let low : j < length ss = grind (arith, nat_tests) in
        ap (λ (n : ℕ). n - 1) (sym (at j low))
        ∙ ap (λ (c : Bool). if c then get_or words (34 + j) 0 - 1 else sp.high)
        (sym (less_test (j + 1) (get_or words 0 0 % 2 ^ 8) (omega (arith, low, count))))
    by_test false e =
        let high : length ss ≤ j = grind (arith, nat_tests) in
        ap (λ (c : Bool). if c then get_or words (34 + j) 0 - 1 else sp.high)
        (sym (more_test (j + 1) (get_or words 0 0 % 2 ^ 8) (omega (arith, high, count))))

-- the child with this index, which has a lower number
record IsChildWord (sp : Span) (number j : ℕ) (words : List ℕ) : Type 0 where
  q : PagePlace
  at : slice_get (node_below sp.low sp.high (node_of words)) j ≡ Some q
  count : length (node_below sp.low sp.high (node_of words)) ≡ get_or words 0 0 % 2 ^ 8
  word : get_or words (4 + j) 0 ≡ q.number
  begin : q.low ≡ begin_in words sp j
  end : q.high ≡ end_in words sp j
  part : IsPartOf sp q
  some : 0 < q.number
  less : q.number < number
  few : j < 30

child_word : (sp : Span) (number j : ℕ) (words : List ℕ) → IsTreePage (place_for sp number) words → 0 < number
    → (get_or words 0 0 / 2 ^ 8) % 2 ^ 8 ≢ 1 → j < get_or words 0 0 % 2 ^ 8 → IsChildWord sp number j words
child_word sp number j words is some other index = by_kind (is.page some)
  where
    by_kind : HasKind (TreeLeaf sp.low sp.high) number words ⊎ HasKind (TreeInner sp.low sp.high) number words
        → IsChildWord sp number j words
    by_kind (inl h) =
        let few = h.1.most in
        let first : get_or words 0 0 ≡ device_header 1 (length h.0) = ap (λ (ws : List ℕ). get_or ws 0 0) h.2 in
        absurd (other (let kind : (get_or words 0 0 / 2 ^ 8) % 2 ^ 8 ≡ 1 = omega (arith, first, few) in kind))
    by_kind (inr h) =
        let c : Children = h.0 in
        let inner : IsTreeInner sp.low sp.high number c = h.1 in
        let most = inner.most in
        let two = inner.some in
        let between = inner.between in
        let first : get_or words 0 0 ≡ device_header 2 (length c.pointers) = ap (λ (ws : List ℕ). get_or ws 0 0) h.2 in
        let counted : get_or words 0 0 % 2 ^ 8 ≡ length c.pointers = omega (arith, first, most) in
        let less : j < length c.pointers = omega (arith, index, counted) in
        let within : j ≤ length c.separators = omega (arith, less, between) in
        let below : node_below sp.low sp.high (node_of words) ≡ children sp.low sp.high c.separators c.pointers =
        ap (λ (ws : List ℕ). node_below sp.low sp.high (node_of ws)) h.2 ∙ below_is sp.low sp.high number c inner in
        let place = child_at sp c.separators c.pointers j between less in
        let one = child_in number c.pointers j inner.each less in
        let read : (i : ℕ) → i < length c.separators → get_or words (34 + i) 0 ≡ get_or c.separators i 0 =
        λ i low. ap (λ (ws : List ℕ). get_or ws (34 + i) 0) h.2 ∙ separator_word sp.low sp.high number c inner i low in record {
          q = child_place sp c.separators c.pointers j;
          at = ap (λ (qs : List PagePlace). slice_get qs j) below ∙ place;
          count = ap (λ (qs : List PagePlace). length qs) below
              ∙ (children_many sp.low sp.high c.separators c.pointers between ∙ sym counted);
          word = ap (λ (ws : List ℕ). get_or ws (4 + j) 0) h.2 ∙ pointer_word sp.low sp.high number c inner j less;
          begin = begin_is sp words c.separators j read within;
          end = end_is sp words c.separators j read (omega (arith, counted, between));
          part = part_inside sp c.separators c.pointers j inner.within (omega (arith, two, between)) within;
          some = let least = one.0 in omega (arith, least);
          less = one.1;
          few = omega (arith, less, most);
        }

pub page_right : (pages : List (List ℕ)) (sp : Span) (number depth : ℕ)
    → StandsTo tree_format (IsPageOf (Tree sp.storage)) pages depth (place_for sp number)
    → IsTreePage (place_for sp number) (page_words pages number)
page_right pages sp number zero stands = absurd stands
page_right pages sp number (suc depth) stands = stands.right

-- ---- the step

pub descends_tree : Laws → (l : Layout) (slots id : ℕ) (me : Me (Unit {0}) View) (sp : Span) (number j : ℕ)
    → IsActive me.0.role → me.0.layout ≡ l → CanDescendTree me.0 sp number j
    → Allows (λ s. Shows l s.words s.views) slots id me (snap_at l.slots number (4 + j)) (λ k. k)
    (λ k now. (now.1 ≡ me.1) × HasDescendedTree sp number j me.0 k now.0)
descends_tree laws l slots id me sp number j active same can =
    allows_at laws l slots id me (snap_at l.slots number (4 + j)) (λ k. k) (λ v k w. HasDescendedTree sp number j v k w) active
    (λ words views s b.
    let v = me.0 in
    let at = snap_at l.slots number (4 + j) in
    let k : ℕ = get_or words at 0 in
    let front = b.pages.resident in
    let long = front_length v.pages s.resident.pages front in
    let known = can.known in
    let longer = page_longer v.pages s.resident.pages number front known in
    let x = can.lead.0 in
    let lead : IsLead s.resident x = b.pages.leads x can.lead.1 in
    let named : IsNamed s.resident.places sp number x.name =
    subst (λ (z : Span). IsNamed s.resident.places z number x.name) can.lead.2
    (subst (λ n. IsNamed s.resident.places x.span n x.name) can.lead.3 lead.named) in
    let tree : is_tree l.decls sp.storage ≡ true = ap (λ (z : Layout). is_tree z.decls sp.storage) (sym same) ∙ can.tree in
    let entry : IsTreeEntry s.resident.places sp number x.name =
    tree_entry l.decls s.resident s.table sp number x.name b.sound.declared b.sound.named named tree can.some in
    let stand = b.sound.named.stand entry.index (Tree sp.storage, place_for sp number) entry.at in
    let child = child_word sp number j (page_words v.pages number)
    (subst (λ (ws : List ℕ). IsTreePage (place_for sp number) ws) longer
    (page_right s.resident.pages sp number stand.depth stand.stands)) can.some can.inner can.index in
    let q = child.q in
    let here : slice_get (tree_below s.resident.pages sp number) j ≡ Some q =
    ap (λ (ws : List ℕ). slice_get (node_below sp.low sp.high (node_of ws)) j) longer ∙ child.at in
    let few = child.few in
    let word : k ≡ get_or (page_words s.resident.pages number) (4 + j) 0 =
    b.sound.shown.resident number (4 + j) can.some (omega arith) (omega (arith, few)) in
    let says : k ≡ q.number = word ∙ (ap (λ (ws : List ℕ). get_or ws (4 + j) 0) longer ∙ child.word) in
    let name = name_of s.resident.places (Tree sp.storage) q in
    let over : Span = span_of sp.storage q in
    let whole : IsNamed s.resident.places over q.number name = record {
      decl = Tree sp.storage;
      storage = refl;
      is = refl;
      there = λ some.
          b.sound.named.below entry.index (Tree sp.storage, place_for sp number) entry.at q
          (at_in (tree_below s.resident.pages sp number) j q here) some;
    } in
    let below : IsNamed s.resident.places over k name = subst (λ n. IsNamed s.resident.places over n name) (sym says) whole in
    let most : k ≤ length s.resident.pages = named_there l words views s id v over k name b below in
    let room : length s.resident.pages ≤ l.resident = b.sound.within in
    let all : l.resident ≤ 65536 = b.sound.few.2 in
    let one : Lead = record { span = over; page = k; name = name } in
    let w = descended_tree sp number j q name k v in
    look_stride l words views s id v active b at (λ k. k) w (λ v k w. HasDescendedTree sp number j v k w) refl
    record { layout = refl; role = refl; made = refl; past = refl; parked = refl; epoch = refl; mine = refl; draws = refl; due = refl; seat = refl; checked = refl; took = refl; loaded = refl; met = refl; heard = refl; history = refl; decided = refl; versions = refl }
    refl
    record {
      within = b.pages.within;
      ways = b.pages.ways;
      drafts = b.pages.drafts;
      copies = b.pages.copies;
      blanks = b.pages.blanks;
      resident = b.pages.resident;
      leads = λ z has. elim (in_cases z one v.leads has) [
        | inl new ↦ subst (IsLead s.resident) new record { page = most; named = below }
        | inr old ↦ b.pages.leads z old
      ];
      fills = b.pages.fills;
      known = b.pages.treed.known;
      heads = b.pages.treed.heads (seat_number v.role) (is_at v.role active);
      moved = b.pages.treed.moved;
      sealed = b.pages.treed.sealed (seat_number v.role) (is_at v.role active);
      inners = b.pages.treed.inners;
      new_leaves = b.pages.treed.new_leaves;
      new_inners = b.pages.treed.new_inners;
      shuts = b.pages.shuts (seat_number v.role) (is_at v.role active);
    }
    (rests_all l words views s id v b w
    record { role = refl; ways = refl; took = refl; gone = refl; touched = refl; blamed = refl; locks = refl } refl)
    record {
      child = q;
      at = child.at;
      count = child.count;
      begin = child.begin;
      end = child.end;
      part = child.part;
      name = name;
      is = refl;
      says = says;
      few = subst (λ (y : Layout). k ≤ y.resident) (sym same) (omega (arith, most, room));
      small = omega (arith, most, room, all);
      some = subst (λ n. 0 < n) (sym says) child.some;
      below = subst (λ n. n < number) (sym says) child.less;
    })
