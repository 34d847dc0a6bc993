-- An owned slot is published as a copy of a tree's interior page.
use Rattle.std.proofs.Common.{◌≡◌, inl, inr, ℕ, zero, suc, ◌+◌, ◌-◌, ◌/◌, ◌%◌, ◌^◌, ◌<◌, ◌≤◌, Bool, true, false, List, [], ◌∷◌, length}
use Rattle.std.proofs.Common.{ltb, get_or, refl, sym, ap, ◌∙◌, subst, arith, Some, None}
use Rattle.std.specs.Prelude.{◌⊎◌, if◌then◌else◌}
use Rattle.std.specs.List.{Contains, slice_get}
use Rattle.std.proofs.lemmas.Bool.Decides.{nat_tests}
use Rattle.std.proofs.lemmas.Option.{slice_get_within}
use Rattle.atomic_table.specs.Table.{Me, Allows}
use Rattle.lists.specs.Elements.{in_cases, in_head, in_tail}
use Rattle.lists.specs.Fronts.{front_length}
use Rattle.serial_model.specs.declared.decl.Decl.{Decl}
use Rattle.serial_model.specs.declared.decl.Decl.TheVariants.{Tree}
use Rattle.homes.specs.declared.places.At.{At}
use Rattle.homes.specs.declared.places.Holder.TheVariants.{Free, Held}
use Rattle.homes.specs.declared.places.Span.{Span}
use Rattle.wire_form.specs.declared.page.PageKind.TheVariants.{TreeInner, TreeLeaf}
use Rattle.wire_form.specs.Pages.{Children, HasKind, IsTreeInner, device_header, tree_inner_words}
use Rattle.snapshot_store.specs.declared.place.PagePlace.{PagePlace}
use Rattle.snapshot_store.specs.Content.{IsPageOf}
use Rattle.snapshot_store.specs.Places.{StandsTo, page as page_words}
use Rattle.snapshot_store.specs.TreePages.{IsTreePage, children, node_below, node_of, tree_format}
use Rattle.drop_core.specs.declared.grip.Grip.{Grip}
use Rattle.drop_core.specs.declared.table.Page.TheVariants.{Inner}
use Rattle.drop_core.specs.declared.table.Pointer.{Pointer}
use Rattle.drop_core.specs.declared.table.Slot.{Slot}
use Rattle.drop_core.specs.declared.table.SlotState.TheVariants.{Published as Shown}
use Rattle.drop_core.specs.declared.table.Table.{Table}
use Rattle.drop_core.specs.Event.{is_published, with_slot}
use Rattle.drop_core.specs.Table.{at_index, has_slot, pointer_of, slot_of}
use Rattle.engine_rule.specs.Reading.{name_of}
use Rattle.engine_pages.specs.declared.layout.Layout.{Layout}
use Rattle.engine_pages.specs.declared.view.Draft.{Draft}
use Rattle.engine_pages.specs.declared.view.NewInner.{NewInner}
use Rattle.engine_pages.specs.declared.view.View.{View}
use Rattle.engine_pages.specs.Layout.{slot_at, page_at}
use Rattle.engine_pages.specs.Pages.{Fenced, is_tree, part_high, part_low}
use Rattle.engine_pages.specs.Resident.{IsNamed, place_for, tree_below}
use Rattle.engine_pages.specs.Rule.{Shared, IsCopiedChild, IsDraft, IsNewInner, Shows}
use Rattle.engine_pages.specs.Views.{IsActive, seat_number}
use Rattle.engine_pages.specs.Words.{ShowsChild, ShowsPointer, child_high, child_low, tree_child}
use Rattle.engine_pages.proofs.Copying.{NewPage, publish_stride, slot_new, page_new, tree_new, old_copy, old_blank}
use Rattle.engine_pages.proofs.Copying.{old_leaf, old_inner}
use Rattle.engine_pages.proofs.Joint.{Laws}
use Rattle.engine_pages.proofs.Named.{page_longer}
use Rattle.engine_pages.proofs.PointerLaws.{named_stands, standing_there}
use Rattle.engine_pages.proofs.Turns.{Begins, Stride, allows_at}
use Rattle.views.specs.ByNumber.{put_at}
use Rattle.dual_pointer.proofs.FilledPointers.{fill_pointers, pointer_filled, pointer_unfilled, pointers_sound}
use Rattle.dual_pointer.proofs.TreePages.{IsTreeEntry, tree_entry}
use Rattle.tree_heads.specs.NewPages.{IsInnerDraft, published_inner}
use Rattle.tree_heads.proofs.InnerWords.{below_is, child_at, child_place, children_many, pointer_word, separator_word}
use Rattle.tree_heads.proofs.TreeAt.{SaysOf}

less_test : (a c : ℕ) → a < c → ltb a c ≡ true
less_test a c low = grind (arith, nat_tests)

more_test : (a c : ℕ) → c ≤ a → ltb a c ≡ false
more_test a c high = grind (arith, nat_tests)

-- what stands at a place of a list is in it
at_in : {A : Type 0} (xs : List A) (i : ℕ) (x : A) → slice_get xs i ≡ Some x → Contains xs x
at_in [] i x at = absurd (cc)
at_in (y ∷ xs) zero x at = let same : y ≡ x = cc in subst (λ z. Contains (y ∷ xs) z) same (in_head y xs)
at_in (y ∷ xs) (suc i) x at = in_tail x y xs (at_in xs i x at)

-- the words that a page has are those of an interior page, by their kind
pub record InnerIs (p : PagePlace) (words : List ℕ) : Type 0 where
  pub of : Children
  pub is : IsTreeInner p.low p.high p.number of
  pub words_are : words ≡ tree_inner_words p.low p.high of

inner_is : (p : PagePlace) (words : List ℕ) → IsTreePage p words → 0 < p.number → get_or words 0 0 / 256 ≡ 2 → InnerIs p words
inner_is p words is some kind = by_kind (is.page some)
  where
    by_kind : HasKind (TreeLeaf p.low p.high) p.number words ⊎ HasKind (TreeInner p.low p.high) p.number words → InnerIs p words
    by_kind (inr h) = record { of = h.0; is = h.1; words_are = h.2 }
    by_kind (inl h) =
        let few = h.1.most in
        let first : get_or words 0 0 ≡ device_header 1 (length h.0) = ap (λ (ws : List ℕ). get_or ws 0 0) h.2 in
        absurd (omega (arith, kind, first, few))

module _ (laws : Laws) (l : Layout) (words : List ℕ) (views : List View) (s : Shared) (id : ℕ) (v : View)
    (active : IsActive v.role) (b : Begins l words views s id v) (x : Draft) (has : Contains v.drafts x) (sp : Span) (n : ℕ)
    (nd : IsInnerDraft v x.words sp n) where
  abbrev t : ℕ
  t = x.slot

  abbrev p : ℕ
  p = seat_number v.role

  abbrev d : Table
  d = s.table

  abbrev ws : List ℕ
  ws = page_words s.resident.pages n

  abbrev names : List (Decl × PagePlace)
  names = s.resident.places

  draft : IsDraft words l.slots d v.grip.made x
  draft = b.pages.drafts x has

  made : has_slot (s.grips p).made t ≡ true
  made = ap (λ (g : Grip). has_slot g.made t) (sym b.grip) ∙ draft.made

  long : n ≤ length s.resident.pages
  long = let more = front_length v.pages s.resident.pages b.pages.resident in let low = nd.there in omega arith

  same : ws ≡ page_words v.pages n
  same = page_longer v.pages s.resident.pages n b.pages.resident nd.there

  tree : is_tree l.decls sp.storage ≡ true
  tree = ap (λ (y : Layout). is_tree y.decls sp.storage) (sym b.own.layout) ∙ nd.tree

  -- a word of the slot's page is that of the snapshot page
  word_is : (i : ℕ) → i < 64 → get_or words (page_at l.slots t i) 0 ≡ get_or ws i 0
  word_is i less = draft.is i less ∙ (nd.same i less ∙ ap (λ (z : List ℕ). get_or z i 0) (sym same))

  named : IsNamed names sp n nd.lead.name
  named =
      subst (λ (z : Span). IsNamed names z n nd.lead.name) nd.over
      (subst (λ k. IsNamed names nd.lead.span k nd.lead.name) nd.number (b.pages.leads nd.lead nd.has).named)

  entry : IsTreeEntry names sp n nd.lead.name
  entry = tree_entry l.decls s.resident d sp n nd.lead.name b.sound.declared b.sound.named named tree nd.some

  page-is : IsTreePage (place_for sp n) ws
  page-is =
      let st = b.sound.named.stand entry.index (Tree sp.storage, place_for sp n) entry.at in
      right_of st.depth st.stands
    where
      right_of : (depth : ℕ) → StandsTo tree_format (IsPageOf (Tree sp.storage)) s.resident.pages depth (place_for sp n)
          → IsTreePage (place_for sp n) ws
      right_of zero stands = absurd stands
      right_of (suc depth) stands = stands.right

  inner : InnerIs (place_for sp n) ws
  inner =
      inner_is (place_for sp n) ws page-is nd.some
      (ap (λ k. k / 256) (ap (λ (z : List ℕ). get_or z 0 0) same ∙ sym (nd.same 0 (omega arith))) ∙ nd.inner)

  abbrev ns : List ℕ
  ns = inner.of.pointers

  abbrev ss : List ℕ
  ss = inner.of.separators

  abbrev count : ℕ
  count = length ns

  below-is : tree_below s.resident.pages sp n ≡ children sp.low sp.high ss ns
  below-is =
      ap (λ (z : List ℕ). node_below sp.low sp.high (node_of z)) inner.words_are
      ∙ below_is sp.low sp.high n inner.of inner.is

  many : count ≤ 30
  many = inner.is.most

  -- the child with this index
  abbrev place : ℕ → PagePlace
  place j = child_place sp ss ns j

  abbrev part : ℕ → Span
  part j = record { storage = sp.storage; low = part_low sp ss j; high = part_high sp ss j }

  abbrev name : ℕ → ℕ
  name j = name_of names (Tree sp.storage) (place j)

  child-named : (j : ℕ) → j < count → IsNamed names (part j) (get_or ns j 0) (name j)
  child-named j less = record {
    decl = Tree sp.storage;
    storage = refl;
    is = refl;
    there = λ some.
        b.sound.named.below entry.index (Tree sp.storage, place_for sp n) entry.at (place j)
        (at_in (tree_below s.resident.pages sp n) j (place j)
        (ap (λ (z : List PagePlace). slice_get z j) below-is ∙ child_at sp ss ns j inner.is.between less)) some;
  }

  small : (j : ℕ) → j < count → get_or ns j 0 ≤ 65536
  small j less = by_number (get_or ns j 0) (child-named j less)
    where
      by_number : (k : ℕ) → IsNamed names (part j) k (name j) → k ≤ 65536
      by_number zero is = omega arith
      by_number (suc k) is =
          let stands = named_stands l words views s id v (part j) (suc k) (name j) b is (omega arith) in
          let there = standing_there l.decls s.resident.pages (part j) (suc k) stands in
          let within = b.sound.within in
          let few = b.sound.few.2 in omega arith

  abbrev pointer : ℕ → Pointer
  pointer j = record { span = part j; slot = None; page = name j; holder = Free }

  abbrev pointers' : List (At × Pointer)
  pointers' = fill_pointers t pointer count d.pointers

  abbrev d0 : Table
  d0 = record d { pointers = pointers' }

  abbrev fence : Fenced
  fence = record { span = sp; keys = [] }

  pointer-word : (j : ℕ) → j < count → get_or words (page_at l.slots t (4 + j)) 0 ≡ get_or ns j 0
  pointer-word j less =
      word_is (4 + j) (omega (arith, less, many))
      ∙ (ap (λ (z : List ℕ). get_or z (4 + j) 0) inner.words_are ∙ pointer_word sp.low sp.high n inner.of inner.is j less)

  separator-word : (j : ℕ) → j < length ss → get_or words (page_at l.slots t (34 + j)) 0 ≡ get_or ss j 0
  separator-word j less =
      let between = inner.is.between in
      word_is (34 + j) (omega (arith, less, many, between))
      ∙ (ap (λ (z : List ℕ). get_or z (34 + j) 0) inner.words_are ∙ separator_word sp.low sp.high n inner.of inner.is j less)

  -- a child's keys are those that the words tell
  part-is : (j : ℕ) → j < count → part j ≡ tree_child words l.slots t sp count j
  part-is j less =
      ap (λ z. let q : Span = record { storage = sp.storage; low = z; high = part_high sp ss j } in q) (low-is j less)
      ∙ ap (λ z. let q : Span = record { storage = sp.storage; low = child_low words l.slots t sp j; high = z } in q) (high-is j less)
    where
      low-is : (j : ℕ) → j < count → part_low sp ss j ≡ child_low words l.slots t sp j
      low-is zero less = refl
      low-is (suc j) less = sym (separator-word j (let between = inner.is.between in omega (arith, less, between)))

      high-is : (j : ℕ) → j < count → part_high sp ss j ≡ child_high words l.slots t sp count j
      high-is j less = by_last (ltb j (length ss)) refl
        where
          by_last : (c : Bool) → ltb j (length ss) ≡ c → part_high sp ss j ≡ child_high words l.slots t sp count j
          by_last true more =
              let low : j < length ss = grind (arith, nat_tests) in
              let between = inner.is.between in
              let here : ltb (j + 1) count ≡ true = less_test (j + 1) count (omega (arith, low, between)) in
              ap (λ c. if c then get_or ss j 0 - 1 else sp.high) more
              ∙ (ap (λ z. z - 1) (sym (separator-word j low))
              ∙ ap (λ c. if c then get_or words (page_at l.slots t (34 + j)) 0 - 1 else sp.high) (sym here))
          by_last false last =
              let high : length ss ≤ j = grind (arith, nat_tests) in
              let between = inner.is.between in
              let here : ltb (j + 1) count ≡ false = more_test (j + 1) count (omega (arith, high, between)) in
              ap (λ c. if c then get_or ss j 0 - 1 else sp.high) last
              ∙ ap (λ c. if c then get_or words (page_at l.slots t (34 + j)) 0 - 1 else sp.high) (sym here)

  filled : (j : ℕ) → j < count → pointer_of d0 (at_index t j) ≡ pointer j
  filled j less = pointer_filled t pointer count d.pointers j less

  shown-child : (j : ℕ) → j < count → ShowsChild names words l.slots t sp count d0 j
  shown-child j less = (
    subst (ShowsPointer names words (page_at l.slots t (4 + j))) (sym (filled j less)) record {
      number = get_or ns j 0;
      word = pointer-word j less ∙ (omega arith);
      page = small j less;
      slot = tt;
      named = child-named j less;
      keepers = λ q held. absurd (not_held q held);
    },
    ap (λ (q : Pointer). q.span) (filled j less) ∙ part-is j less,
  )
    where
      not_held : (q : ℕ) → Free ≡ Held q → ⊥
      not_held q e = absurd (cc)

  shown : SaysOf l words names s.story d0 t fence (Inner count)
  shown =
      let front : (i : ℕ) → i < 64 → get_or words (page_at l.slots t i) 0 ≡ get_or (tree_inner_words sp.low sp.high inner.of) i 0 = λ i less.
      word_is i less ∙ ap (λ (z : List ℕ). get_or z i 0) inner.words_are in
      let some = inner.is.some in (
        refl,
        front 0 (omega arith) ∙ (omega arith),
        omega (arith, some),
        many,
        front 1 (omega arith),
        front 2 (omega arith),
        shown-child,
        draft.header,
      )

  abbrev made-page : NewPage l words s t
  made-page = record {
    page = Inner count;
    places = s.story.places;
    pointers = pointers';
    headers = d.headers;
    fence = Some fence;
    filled = pointers_sound laws l s p t pointer b.few draft.owned made b.sound.joint count;
    other_places = λ y other. refl;
    other_pointers = λ y other. pointer_unfilled t pointer count d.pointers y other;
    other_headers = λ u other. refl;
    shown = shown;
  }

  abbrev new : NewInner
  new = record { slot = t; span = sp; page = n }

  abbrev e : Table
  e = with_slot (record d0 { pages = (t, Inner count) ∷ d.pages }) t (record (slot_of d t) { state = Shown })

  is_new : IsNewInner l e (put_at s.trees t (Some fence)) s.resident v.grip.made new
  is_new = record {
    slot = draft.slot;
    made = draft.made;
    state = ap (λ (k : Slot). is_published k.state)
        (slot_new laws l words views s id v active b x has made-page v.copies v.blanks v.new_leaves (new ∷ v.new_inners));
    kind = tree;
    some = nd.some;
    page = long;
    count = page_new laws l words views s id v active b x has made-page v.copies v.blanks v.new_leaves (new ∷ v.new_inners)
        ∙ ap Inner (sym (children_many sp.low sp.high ss ns inner.is.between) ∙ ap (λ (z : List PagePlace). length z) (sym below-is));
    there = tree_new laws l words views s id v active b x has made-page v.copies v.blanks v.new_leaves (new ∷ v.new_inners);
    pointers = λ j below at.
        let here : slice_get (children sp.low sp.high ss ns) j ≡ Some below =
        ap (λ (z : List PagePlace). slice_get z j) (sym below-is) ∙ at in
        let less : j < count =
        let low = slice_get_within (children sp.low sp.high ss ns) j below here in
        let all = children_many sp.low sp.high ss ns inner.is.between in omega (arith, low, all) in
        let same : place j ≡ below = some_place (place j) below (sym (child_at sp ss ns j inner.is.between less) ∙ here) in
        subst (λ (z : PagePlace). IsCopiedChild names sp.storage z (pointer_of e (at_index t j))) same
        (subst (IsCopiedChild names sp.storage (place j)) (sym (filled j less))
        record { span = refl; slot = refl; free = refl; named = child-named j less });
  }
    where
      some_place : (a c : PagePlace) → Some a ≡ Some c → a ≡ c
      some_place a c same = cc

  pub inner_stride : Stride l words views s p v (slot_at t) (λ i. (i + 65536) % 2 ^ 64)
      (λ v _ w. w ≡ published_inner x.slot sp n v)
  inner_stride =
      let inners' : List NewInner = new ∷ v.new_inners in
      publish_stride laws l words views s id v active b x has made-page v.copies v.blanks v.new_leaves inners'
      (λ z there. old_copy laws l words views s id v active b x has made-page v.copies v.blanks v.new_leaves inners' z there)
      (λ u there. old_blank laws l words views s id v active b x has made-page v.copies v.blanks v.new_leaves inners' u there)
      (old_leaf laws l words views s id v active b x has made-page v.copies v.blanks v.new_leaves inners')
      (λ z there. elim (in_cases z new v.new_inners there) [
        | inl is ↦ subst (IsNewInner l e (put_at s.trees t (Some fence)) s.resident v.grip.made) is is_new
        | inr old ↦ old_inner laws l words views s id v active b x has made-page v.copies v.blanks v.new_leaves inners' z old
      ])
      (λ v _ w. w ≡ published_inner x.slot sp n v) refl

pub publishes_inner : Laws → (l : Layout) (slots id : ℕ) (me : Me (Unit {0}) View) (x : Draft) (sp : Span) (n : ℕ)
    → IsActive me.0.role → Contains me.0.drafts x → IsInnerDraft me.0 x.words sp n
    → Allows (λ s. Shows l s.words s.views) slots id me (slot_at x.slot) (λ i. (i + 65536) % 2 ^ 64)
    (λ _ now. (now.1 ≡ me.1) × (now.0 ≡ published_inner x.slot sp n me.0))
publishes_inner laws l slots id me x sp n active has nd =
    allows_at laws l slots id me (slot_at x.slot) (λ i. (i + 65536) % 2 ^ 64) (λ v _ w. w ≡ published_inner x.slot sp n v) active
    (λ words views s b. inner_stride laws l words views s id me.0 active b x has sp n nd)
