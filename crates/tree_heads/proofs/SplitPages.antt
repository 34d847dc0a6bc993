-- What the pass knows of pages once it has split a leaf: the leaf is moved, and its halves are led to.
use Rattle.std.proofs.Common.{◌≡◌, ◌≢◌, ◌⊎◌, inl, inr, ℕ, suc, ◌<◌, Bool, true, false, true≢false, cond, List}
use Rattle.std.proofs.Common.{◌∷◌, get_or, length, set}
use Rattle.std.proofs.Common.{refl, sym, ap, ◌∙◌, subst, arith, None}
use Rattle.std.specs.List.{Contains}
use Rattle.lists.specs.Elements.{in_cases}
use Rattle.lists.specs.Fronts.{front_refl}
use Rattle.serial_model.specs.declared.key.Key.{Key}
use Rattle.homes.specs.declared.places.At.{At}
use Rattle.homes.specs.declared.places.At.TheVariants.{Root, In}
use Rattle.homes.specs.declared.places.Span.{Span}
use Rattle.homes.specs.Homes.{moves_to}
use Rattle.commit_core.specs.declared.story.Story.{Story}
use Rattle.commit_core.specs.Moves.{with_moves}
use Rattle.commit_core.specs.Places.{home_of}
use Rattle.drop_core.specs.declared.event.Twins.{Twins}
use Rattle.drop_core.specs.declared.grip.Grip.{Grip}
use Rattle.drop_core.specs.declared.table.Led.TheVariants.{From}
use Rattle.drop_core.specs.declared.table.Page.{Page}
use Rattle.drop_core.specs.declared.table.Page.TheVariants.{Leaf, Inner as InnerPage, Split}
use Rattle.drop_core.specs.declared.table.Pointer.{Pointer}
use Rattle.drop_core.specs.declared.table.Slot.{Slot}
use Rattle.drop_core.specs.declared.table.Table.{Table}
use Rattle.drop_core.specs.Event.{is_owned, is_published, twin_home, twinned, with_slot, without}
use Rattle.drop_core.specs.Law.{IsMade, LeavesMade}
use Rattle.drop_core.specs.Table.{at_index, has_pointer, has_slot, is_never, page_of, pointer_of, slot_of}
use Rattle.engine_pages.specs.declared.layout.Layout.{Layout}
use Rattle.engine_pages.specs.declared.view.Copied.{Copied}
use Rattle.engine_pages.specs.declared.view.Head.{Head}
use Rattle.engine_pages.specs.declared.view.Known.{Known}
use Rattle.engine_pages.specs.declared.view.Moved.{Moved}
use Rattle.engine_pages.specs.declared.view.NewInner.{NewInner}
use Rattle.engine_pages.specs.declared.view.NewLeaf.{NewLeaf}
use Rattle.engine_pages.specs.declared.view.View.{View}
use Rattle.engine_pages.specs.declared.view.Way.{Way}
use Rattle.engine_pages.specs.Layout.{page_at, snap_at}
use Rattle.engine_pages.specs.Pages.{decl_of}
use Rattle.engine_pages.specs.Rule.{IsCopy, IsKnownLeaf, IsMoved, IsNewInner, IsNewLeaf, IsWay, IsWithin}
use Rattle.engine_pages.specs.Rule.{Shared, all_seats}
use Rattle.engine_pages.specs.Slots.{other_copies, other_inners, other_leaves}
use Rattle.engine_pages.specs.Stays.{IsKnown}
use Rattle.engine_pages.specs.Views.{IsActive, seat_number}
use Rattle.engine_pages.proofs.EachSeat.{at_seat}
use Rattle.engine_pages.proofs.Joint.{Laws, shared_now}
use Rattle.engine_pages.proofs.Named.{more_same}
use Rattle.engine_pages.proofs.PagesStay.{copy_stays}
use Rattle.engine_pages.proofs.Seats.{is_at}
use Rattle.engine_pages.proofs.SlotFacts.{draft_same, head_same, known_same, moved_same, shut_same, slot_other}
use Rattle.engine_pages.proofs.SlotFacts.{slot_same}
use Rattle.engine_pages.proofs.Slotlists.{at_others, without_other, without_same}
use Rattle.engine_pages.proofs.SlotSteps.{PagesNow}
use Rattle.engine_pages.proofs.TreeFacts.{inner_at, new_inner_at, new_leaf_at, same_fence, sealed_at}
use Rattle.engine_pages.proofs.Turns.{Begins}
use Rattle.dual_pointer.proofs.InstallFacts.{by_published}
use Rattle.tree_heads.specs.Splits.{CanSplit, half_known, split_at}
use Rattle.tree_heads.proofs.LeafSteps.{PageStep}
use Rattle.tree_heads.proofs.SplitAllows.{half, leaf as is_leaf, never as is_unled, page as is_page}
use Rattle.tree_heads.proofs.SplitLayout.{laid_now, laid_tree, owned_apart, page_word, slot_stays}
use Rattle.tree_heads.proofs.SplitWords.{head_word_at, page_now, place_other, split_page}
use Rattle.tree_heads.proofs.TreeAt.{AtTree}
use Rattle.tree_heads.proofs.TreeWays.{twin_list, twins_cases}

-- what is known of a leaf that is added is that, if it is
known_cases : (c : Bool) (x : Known) (known : List Known) (z : Known) → Contains (cond c (x ∷ known) known) z
    → ((c ≡ true) × (x ≡ z)) ⊎ Contains known z
known_cases false x known z has = inr has
known_cases true x known z has = elim (in_cases z x known has) [ inl new ↦ inl (refl, new) | inr old ↦ inr old ]

-- what is among the slots but for two of them
record AmongOthers (slots : List ℕ) (one two u : ℕ) : Type 0 where
  first : u ≢ one
  second : u ≢ two
  has : has_slot slots u ≡ true

among_others : (slots : List ℕ) (one two u : ℕ) → has_slot (without (without slots one) two) u ≡ true
    → AmongOthers slots one two u
among_others slots one two u has =
    let second : u ≢ two =
    λ same. true≢false (sym has ∙ (ap (has_slot (without (without slots one) two)) same ∙ without_same (without slots one) two)) in
    let rest : has_slot (without slots one) u ≡ true = sym (without_other (without slots one) two u second) ∙ has in
    let first : u ≢ one = λ same. true≢false (sym rest ∙ (ap (has_slot (without slots one)) same ∙ without_same slots one)) in
    record { first = first; second = second; has = sym (without_other slots one u first) ∙ rest }

module _ (laws : Laws) (l : Layout) (words : List ℕ) (views : List View) (s : Shared) (id : ℕ) (v : View)
    (active : IsActive v.role) (b : Begins l words views s id v) (t : ℕ) (sp : Span) (lower upper : NewLeaf)
    (keys : List Key) (separator n : ℕ) (can : CanSplit v t sp lower upper keys separator n) where
  abbrev p : ℕ
  p = seat_number v.role

  abbrev m : Story
  m = s.story

  abbrev d : Table
  d = s.table

  abbrev at : ℕ
  at = page_at l.slots t 0

  abbrev twins : Twins
  twins = record { slot = t; minor = lower.slot; major = upper.slot; separator = separator; keys = keys }

  abbrev next : Story
  next = with_moves m (moves_to (twin_home d sp twins) keys)

  abbrev e : Table
  e = twinned d sp twins

  abbrev words' : List ℕ
  words' = set words at n

  abbrev w : View
  w = split_at t sp lower upper keys separator at n v

  abbrev holds : List ℕ
  holds = v.grip.holds

  abbrev pg : AtTree l words s v t sp
  pg = is_page laws l words views s id v active b t sp lower upper keys separator n can

  abbrev step : PageStep l words words' s next e s.trees t 0
  step = split_page laws l words views s id v active b t sp lower upper keys separator n can

  leaf : page_of d t ≡ Leaf can.head.keys
  leaf = is_leaf laws l words views s id v active b t sp lower upper keys separator n can

  low : IsNewLeaf l m d s.trees v.grip.made lower
  low = half laws l words views s id v active b t sp lower upper keys separator n can lower can.lower_made

  high : IsNewLeaf l m d s.trees v.grip.made upper
  high = half laws l words views s id v active b t sp lower upper keys separator n can upper can.upper_made

  -- ---- slots

  stays : (u : ℕ) → u ≢ lower.slot → u ≢ upper.slot → slot_of e u ≡ slot_of d u
  stays u one two = slot_stays laws l words views s id v active b t sp lower upper keys separator n can u one two

  unled : (y : NewLeaf) → Contains v.new_leaves y → (u : ℕ) → IsKnown d u → u ≢ y.slot
  unled y has u known same =
      true≢false (sym (is_unled laws l words views s id v active b t sp lower upper keys separator n can y has)
      ∙ (ap (λ i. is_never (slot_of d i).led) (sym same) ∙ known))

  -- a slot to which something had led is another one than the halves'
  known_led : (u : ℕ) → IsKnown d u → (slot_of e u).led ≡ (slot_of d u).led
  known_led u known =
      ap (λ (z : Slot). z.led) (stays u (unled lower can.lower_made u known) (unled upper can.upper_made u known))

  known_now : (u : ℕ) → IsKnown d u → IsKnown e u
  known_now u known = ap is_never (known_led u known) ∙ known

  abbrev first_slot : Slot
  first_slot = record (slot_of d lower.slot) { led = From (at_index t 0) }

  abbrev second_slot : Slot
  second_slot = record (slot_of d upper.slot) { led = From (at_index t 1) }

  first_known : IsKnown e lower.slot
  first_known = ap (λ (z : Slot). is_never z.led) (slot_same (with_slot d upper.slot second_slot) lower.slot first_slot)

  second_known : IsKnown e upper.slot
  second_known =
      ap (λ (z : Slot). is_never z.led)
      (slot_other (with_slot d upper.slot second_slot) lower.slot upper.slot first_slot (λ same. can.apart (sym same))
      ∙ slot_same d upper.slot second_slot)

  -- what the pass made is another slot than the leaf's
  made_apart : (u : ℕ) → has_slot v.grip.made u ≡ true → u ≢ t
  made_apart u made same =
      let is : IsMade d (all_seats s.grips) p u =
      laws.made (home_of m.homes) d (all_seats s.grips) p u (s.grips p) b.sound.joint.pages (at_seat s.grips p b.few)
      (subst (λ (z : Grip). has_slot z.made u ≡ true) b.grip made) in
      true≢false (sym (ap is_never is.never) ∙ (ap (λ y. is_never (slot_of d y).led) same ∙ pg.known))

  -- and is still the pass's, where it is another one than the halves'
  made_now : (u : ℕ) → u ≢ lower.slot → u ≢ upper.slot → has_slot v.grip.made u ≡ true → has_slot w.grip.made u ≡ true
  made_now u one two made =
      without_other (without v.grip.made lower.slot) upper.slot u two ∙ (without_other v.grip.made lower.slot u one ∙ made)

  made_stays : (u : ℕ) → u ≢ t → u ≢ lower.slot → u ≢ upper.slot → LeavesMade p d e u
  made_stays u other one two = record {
    state = step.state u;
    times = step.times u;
    led = ap (λ (z : Slot). z.led) (stays u one two);
    page = step.pages u other;
    header = step.headers u other;
    pointers = λ j free. step.pointers u j other;
  }

  words_stay : (u : ℕ) → u ≢ t → (j : ℕ) → j < 64 → get_or words' (page_at l.slots u j) 0 ≡ get_or words (page_at l.slots u j) 0
  words_stay u other j less = page_word laws l words views s id v active b t sp lower upper keys separator n can u j less other

  -- a page of another kind is another one
  apart_page : (u : ℕ) (page : Page) → page_of d u ≡ page → ((ks : List Key) → page ≡ Leaf ks → ⊥) → u ≢ t
  apart_page u page is other same = other can.head.keys (sym is ∙ (ap (page_of d) same ∙ leaf))

  no_split : (ks : List Key) → Split ≡ Leaf ks → ⊥
  no_split ks same = absurd (cc)

  no_inner : (c : ℕ) (ks : List Key) → InnerPage c ≡ Leaf ks → ⊥
  no_inner c ks same = absurd (cc)

  -- ---- ways

  half_way_now : (y : NewLeaf) → IsNewLeaf l m d s.trees v.grip.made y → IsKnown e y.slot → has_slot holds y.slot ≡ true
      → IsWay l e s.trees holds (record { slot = y.slot; span = y.span })
  half_way_now y is known held = record {
    within = is.slot;
    held = held;
    known = known;
    over = laid_tree (decl_of l.decls y.span.storage) s.trees e y.slot y.span is.kind
        (record { span = y.span; keys = y.keys }, is.there, refl);
  }

  abbrev more : List Way
  more = twin_list holds lower.slot lower.span upper.slot upper.span v.ways

  pub ways_now : (z : Way) → Contains more z → IsWay l e s.trees holds z
  ways_now z has = elim (twins_cases holds lower.slot lower.span upper.slot upper.span v.ways z has) [
    | inl one ↦ subst (IsWay l e s.trees holds) one.1 (half_way_now lower low first_known one.0)
    | inr rest ↦ elim rest [
      | inl two ↦ subst (IsWay l e s.trees holds) two.1 (half_way_now upper high second_known two.0)
      | inr old ↦
          let was = b.pages.ways z old in record {
            within = was.within;
            held = was.held;
            known = known_now z.slot was.known;
            over = laid_now laws l words views s id v active b t sp lower upper keys separator n can
                (decl_of l.decls z.span.storage) z.slot z.span was.over;
          }
    ]
  ]

  -- ---- what is known of trees

  half_known_now : (y : NewLeaf) → IsNewLeaf l m d s.trees v.grip.made y → IsKnown e y.slot → has_slot holds y.slot ≡ true
      → IsKnownLeaf l e s.trees holds (record { slot = y.slot; keys = y.keys })
  half_known_now y is known held = record {
    within = is.slot;
    held = held;
    known = known;
    fence = record { span = y.span; keys = y.keys };
    there = is.there;
    front = front_refl y.keys;
  }

  knows_now : (x : Known) → Contains w.known x → IsKnownLeaf l e s.trees holds x
  knows_now x has =
      elim (known_cases (has_slot holds lower.slot) (record { slot = lower.slot; keys = lower.keys }) (half_known v upper v.known) x has) [
        | inl one ↦ subst (IsKnownLeaf l e s.trees holds) one.1 (half_known_now lower low first_known one.0)
        | inr rest ↦ elim (known_cases (has_slot holds upper.slot) (record { slot = upper.slot; keys = upper.keys }) v.known x rest) [
          | inl two ↦ subst (IsKnownLeaf l e s.trees holds) two.1 (half_known_now upper high second_known two.0)
          | inr old ↦
              let was = b.pages.treed.known x old in
              known_same l s.trees d e holds holds x was.held (known_led x.slot was.known) was
        ]
      ]

  moved_now : (x : Moved) → Contains w.moved x → IsMoved l words' e s.trees holds x
  moved_now x has =
      let one : Moved = record { slot = t; minor = lower.slot; major = upper.slot; separator = separator } in
      elim (in_cases x one v.moved has) [
        | inl new ↦ subst (IsMoved l words' e s.trees holds) new record {
          within = pg.within;
          held = pg.held;
          known = known_now t pg.known;
          split = page_now laws l words views s id v active b t sp lower upper keys separator n can;
          fence = pg.fence;
          there = pg.there;
          minor = head_word_at laws l words views s id v active b t sp lower upper keys separator n can 3 (omega arith) (omega arith) refl
              ∙ can.to_minor;
          major = head_word_at laws l words views s id v active b t sp lower upper keys separator n can 4 (omega arith) (omega arith) refl
              ∙ can.to_major;
          separator = head_word_at laws l words views s id v active b t sp lower upper keys separator n can 5 (omega arith) (omega arith) refl
              ∙ can.separates;
        }
        | inr old ↦
            let was = b.pages.treed.moved x old in
            let other = apart_page x.slot Split was.split no_split in
            moved_same l words words' s.trees d e holds holds x was.held (known_led x.slot was.known) (step.pages x.slot other)
            (λ j less. words_stay x.slot other j less) was
      ]

  -- a pointer is in a page as before
  within_now : (x : At) → IsWithin d holds x → IsWithin e holds x
  within_now (Root y) was = tt
  within_now (In y) was =
      let other : y.slot ≢ t = λ same.
      true≢false (sym was.2 ∙ (ap (λ u. has_pointer (page_of d u) y.index) same ∙ ap (λ (z : Page). has_pointer z y.index) leaf)) in (
        was.0,
        known_now y.slot was.1,
        ap (λ (z : Page). has_pointer z y.index) (step.pages y.slot other) ∙ was.2,
      )

  pointer_now : (x : At) → IsWithin d holds x → pointer_of e x ≡ pointer_of d x
  pointer_now (Root y) was = step.roots y
  pointer_now (In y) was =
      step.pointers y.slot y.index (λ same.
      true≢false (sym was.2 ∙ (ap (λ u. has_pointer (page_of d u) y.index) same ∙ ap (λ (z : Page). has_pointer z y.index) leaf)))

  -- ---- what it made

  -- an owned slot isn't a half's
  unowned : (y : NewLeaf) → IsNewLeaf l m d s.trees v.grip.made y → (u : ℕ) → is_owned (slot_of d u).state ≡ true → u ≢ y.slot
  unowned y is u owned same =
      let shown = by_published (slot_of d y.slot).state is.state in
      true≢false (sym owned ∙ (ap (λ i. is_owned (slot_of d i).state) same ∙ ap is_owned shown))

  -- what it had published in a slot other than the halves'
  pub record IsElsewhere (u : ℕ) : Type 0 where
    pub first : u ≢ lower.slot
    pub second : u ≢ upper.slot
    pub leaf : u ≢ t
    pub made : has_slot w.grip.made u ≡ true

  elsewhere : (u : ℕ) → u ≢ lower.slot → u ≢ upper.slot → has_slot v.grip.made u ≡ true → IsElsewhere u
  elsewhere u one two made =
      record { first = one; second = two; leaf = made_apart u made; made = made_now u one two made }

  copies_now : (x : Copied) → Contains w.copies x → (s.trees x.slot ≡ None) × IsCopy l next e s.resident w.grip.made x
  copies_now x has =
      let one = at_others (λ (z : Copied). z.slot) lower.slot (other_copies upper.slot v.copies) x has in
      let two = at_others (λ (z : Copied). z.slot) upper.slot v.copies x one.0 in
      let was = b.pages.copies x two.0 in
      let o = elsewhere x.slot one.1 two.1 was.1.made in
      let c = copy_stays l m next d e s.resident s.resident p v.grip.made x (made_stays x.slot o.leaf o.first o.second)
      (λ j. place_other laws l words views s id v active b t sp lower upper keys separator n can x.slot j o.leaf)
      (more_same s.resident) was.1 in (
        was.0,
        record {
          slot = c.slot;
          made = o.made;
          state = c.state;
          over = c.over;
          page = c.page;
          exact = c.exact;
          records = c.records;
          pointers = c.pointers;
        },
      )

  new_leaves_now : (x : NewLeaf) → Contains w.new_leaves x → IsNewLeaf l next e s.trees w.grip.made x
  new_leaves_now x has =
      let one = at_others (λ (z : NewLeaf). z.slot) lower.slot (other_leaves upper.slot v.new_leaves) x has in
      let two = at_others (λ (z : NewLeaf). z.slot) upper.slot v.new_leaves x one.0 in
      let was = b.pages.treed.new_leaves x two.0 in
      let o = elsewhere x.slot one.1 two.1 was.made in
      new_leaf_at l m next d e s.trees s.trees v.grip.made w.grip.made x o.made (step.state x.slot) (step.headers x.slot o.leaf)
      (step.pages x.slot o.leaf) refl
      (λ j. place_other laws l words views s id v active b t sp lower upper keys separator n can x.slot j o.leaf) was

  new_inners_now : (x : NewInner) → Contains w.new_inners x → IsNewInner l e s.trees s.resident w.grip.made x
  new_inners_now x has =
      let one = at_others (λ (z : NewInner). z.slot) lower.slot (other_inners upper.slot v.new_inners) x has in
      let two = at_others (λ (z : NewInner). z.slot) upper.slot v.new_inners x one.0 in
      let was = b.pages.treed.new_inners x two.0 in
      let o = elsewhere x.slot one.1 two.1 was.made in
      new_inner_at l d e s.trees s.trees s.resident s.resident v.grip.made w.grip.made x o.made (step.state x.slot)
      (step.pages x.slot o.leaf) refl (λ j free. step.pointers x.slot j o.leaf) (more_same s.resident) was

  -- ---- all of it

  pub split_now : PagesNow l words' (shared_now s p next e s.trees s.resident w) w
  split_now = record {
    within = b.pages.within;
    ways = ways_now;
    drafts = λ x has.
        let was = b.pages.drafts x has in
        let other = owned_apart laws l words views s id v active b t sp lower upper keys separator n can x.slot was.owned in
        let one = unowned lower low x.slot was.owned in
        let two = unowned upper high x.slot was.owned in
        draft_same words words' l.slots d e v.grip.made w.grip.made x (made_now x.slot one two was.made) (step.state x.slot)
        (step.headers x.slot other) (λ j less. words_stay x.slot other j less) was;
    copies = copies_now;
    blanks = λ u has.
        let o = among_others v.blanks lower.slot upper.slot u has in
        let was = b.pages.blanks u o.has in record {
          slot = was.slot;
          made = made_now u o.first o.second was.made;
          state = ap is_published (step.state u) ∙ was.state;
        };
    resident = b.pages.resident;
    leads = b.pages.leads;
    fills = λ x has.
        let was = b.pages.fills x has in (
          was.0,
          record {
            above = was.1.above;
            within = was.1.within;
            is = λ j less.
                step.others (snap_at l.slots x.page j) (λ q. let few = step.few in let low = was.1.above in omega arith)
                ∙ was.1.is j less;
          },
        );
    known = knows_now;
    heads = λ x has.
        let o = at_others (λ (z : Head). z.slot) t v.heads x has in
        head_same l words words' s.trees d e p x (step.headers x.slot o.1) (step.pages x.slot o.1)
        (λ j less. words_stay x.slot o.1 j less) (b.pages.treed.heads p (is_at v.role active) x o.0);
    moved = moved_now;
    sealed = λ u has.
        let was = b.pages.treed.sealed p (is_at v.role active) u has in
        let other = apart_page u Split was.split no_split in
        sealed_at l d e p u (step.headers u other) (step.pages u other) was;
    inners = λ x has.
        let was = b.pages.treed.inners x has in
        let other = apart_page x.slot (InnerPage (suc (length x.separators))) was.page (no_inner (suc (length x.separators))) in
        inner_at l s.trees s.trees d e holds holds x was.held (known_now x.slot was.known) (step.pages x.slot other)
        (same_fence s.trees s.trees x.slot refl)
        (λ j there. ap (λ (q : Pointer). q.span) (step.pointers x.slot j other)) was;
    new_leaves = new_leaves_now;
    new_inners = new_inners_now;
    shuts = λ x has.
        let was = b.pages.shuts p (is_at v.role active) x has in
        shut_same d e s.resident p holds holds x (within_now x.at) (pointer_now x.at was.within) was;
  }
