-- After a split each page is still laid out for the keys of the pointer that leads to it, and others rely on the same words.
use Rattle.std.proofs.Common.{◌≡◌, ◌≢◌, ◌⊎◌, inl, inr, ℕ, ◌<◌, true, false, true≢false, ltb, List, get_or, set, zero, suc, refl, sym, ap, ◌∙◌, subst, arith, Option, Some, None}
use Rattle.std.proofs.lemmas.Bool.{and_from, and_parts}
use Rattle.std.proofs.lemmas.Bool.Decides.{nat_tests}
use Rattle.serial_model.specs.declared.decl.Decl.{Decl}
use Rattle.serial_model.specs.declared.decl.Decl.TheVariants.{Array, Tree}
use Rattle.serial_model.specs.declared.key.Key.{Key}
use Rattle.homes.specs.declared.places.At.{At}
use Rattle.homes.specs.declared.places.At.TheVariants.{Root, In}
use Rattle.homes.specs.declared.places.Holder.TheVariants.{Held}
use Rattle.homes.specs.declared.places.Span.{Span}
use Rattle.homes.specs.declared.places.Spot.{Spot}
use Rattle.homes.specs.Homes.{moves_to}
use Rattle.commit_core.specs.Moves.{with_moves}
use Rattle.drop_core.specs.declared.event.Twins.{Twins}
use Rattle.drop_core.specs.declared.table.Led.TheVariants.{From}
use Rattle.drop_core.specs.declared.table.Page.{Page}
use Rattle.drop_core.specs.declared.table.Page.TheVariants.{Leaf, Split}
use Rattle.drop_core.specs.declared.table.Pointer.{Pointer}
use Rattle.drop_core.specs.declared.table.Slot.{Slot}
use Rattle.drop_core.specs.declared.table.Table.{Table}
use Rattle.drop_core.specs.Event.{is_owned, lower_span, twin_home, twinned, upper_span, with_slot}
use Rattle.drop_core.specs.Sound.{span_at}
use Rattle.drop_core.specs.Table.{at_index, has_pointer, header_of, is_led, is_live, is_never, page_of, pointer_of, slot_of}
use Rattle.engine_pages.specs.declared.layout.Layout.{Layout}
use Rattle.engine_pages.specs.declared.view.NewLeaf.{NewLeaf}
use Rattle.engine_pages.specs.declared.view.View.{View}
use Rattle.engine_pages.specs.Layout.{page_at, snap_at}
use Rattle.engine_pages.specs.Pages.{AreLaidOut, Fenced, IsFenced, IsLaidOut, IsLaidOutFor, decl_of, is_tree, is_tree_kind}
use Rattle.engine_pages.specs.Rule.{Shared, IsNewLeaf}
use Rattle.engine_pages.specs.Views.{IsActive, seat_number}
use Rattle.engine_pages.proofs.Filling.{owned_never}
use Rattle.engine_pages.proofs.Joint.{Laws}
use Rattle.engine_pages.proofs.PagesStay.{WordsStay}
use Rattle.engine_pages.proofs.Records.{over_at}
use Rattle.engine_pages.proofs.Seats.{by_equal}
use Rattle.engine_pages.proofs.SlotFacts.{slot_other}
use Rattle.engine_pages.proofs.Turns.{Begins}
use Rattle.tree_heads.specs.Splits.{CanSplit}
use Rattle.tree_heads.proofs.LeafSteps.{PageStep}
use Rattle.tree_heads.proofs.SplitAllows.{half, leaf as is_leaf, locked as is_locked, page as is_page}
use Rattle.tree_heads.proofs.SplitWords.{page_now as split_now, pointer_first as first_is, pointer_second as second_is, split_page}
use Rattle.tree_heads.proofs.TreeAt.{AtTree}

-- a tree's page is laid out for the keys of its fence
pub laid_tree : (o : Option Decl) (k : ℕ → Option Fenced) (d : Table) (u : ℕ) (sp : Span) → is_tree_kind o ≡ true
    → IsFenced (k u) sp → IsLaidOut o k d u sp
laid_tree None k d u sp is fenced = absurd (true≢false (sym is))
laid_tree (Some (Array id size)) k d u sp is fenced = absurd (true≢false (sym is))
laid_tree (Some (Tree id)) k d u sp is fenced = fenced

module _ (laws : Laws) (l : Layout) (words : List ℕ) (views : List View) (s : Shared) (id : ℕ) (v : View)
    (active : IsActive v.role) (b : Begins l words views s id v) (t : ℕ) (sp : Span) (lower upper : NewLeaf)
    (keys : List Key) (separator n : ℕ) (can : CanSplit v t sp lower upper keys separator n) where
  abbrev d : Table
  d = s.table

  abbrev twins : Twins
  twins = record { slot = t; minor = lower.slot; major = upper.slot; separator = separator; keys = keys }

  abbrev e : Table
  e = twinned d sp twins

  abbrev pg : AtTree l words s v t sp
  pg = is_page laws l words views s id v active b t sp lower upper keys separator n can

  abbrev step : PageStep l words (set words (page_at l.slots t 0) n) s (with_moves s.story (moves_to (twin_home d sp twins) keys)) e s.trees t 0
  step = split_page laws l words views s id v active b t sp lower upper keys separator n can

  low : IsNewLeaf l s.story d s.trees v.grip.made lower
  low = half laws l words views s id v active b t sp lower upper keys separator n can lower can.lower_made

  high : IsNewLeaf l s.story d s.trees v.grip.made upper
  high = half laws l words views s id v active b t sp lower upper keys separator n can upper can.upper_made

  tree-kind : is_tree l.decls sp.storage ≡ true
  tree-kind = ap (λ (y : Layout). is_tree y.decls sp.storage) (sym b.own.layout) ∙ can.page.tree

  -- a page that was laid out still is
  pub laid_now : (o : Option Decl) (u : ℕ) (z : Span) → IsLaidOut o s.trees d u z → IsLaidOut o s.trees e u z
  laid_now None u z laid = laid
  laid_now (Some (Array i size)) u z laid =
      let other : u ≢ t = λ same. let no : None ≡ Some pg.fence = sym laid.0 ∙ (ap s.trees same ∙ pg.there) in absurd (cc) in (
        laid.0,
        over_at d e u z (step.pages u other) (step.headers u other) (λ j. step.pointers u j other) laid.1,
      )
  laid_now (Some (Tree i)) u z laid = laid

  -- the pages of both halves are leaves still
  half_leaf : (u : ℕ) → (u ≡ lower.slot) ⊎ (u ≡ upper.slot) → (j : ℕ) → has_pointer (page_of d u) j ≡ true → ⊥
  half_leaf u (inl is) j has =
      true≢false (sym has ∙ (ap (λ i. has_pointer (page_of d i) j) is ∙ ap (λ (z : Page). has_pointer z j) low.page))
  half_leaf u (inr is) j has =
      true≢false (sym has ∙ (ap (λ i. has_pointer (page_of d i) j) is ∙ ap (λ (z : Page). has_pointer z j) high.page))

  -- any other slot is what it was
  pub slot_stays : (u : ℕ) → u ≢ lower.slot → u ≢ upper.slot → slot_of e u ≡ slot_of d u
  slot_stays u one two =
      slot_other (with_slot d upper.slot (record (slot_of d upper.slot) { led = From (at_index t 1) })) lower.slot u
      (record (slot_of d lower.slot) { led = From (at_index t 0) }) one
      ∙ slot_other d upper.slot u (record (slot_of d upper.slot) { led = From (at_index t 1) }) two

  -- a live pointer of another page was one
  was_live : (y : Spot) → y.slot ≢ t → is_live e (In y) ≡ true → is_live d (In y) ≡ true
  was_live y other live =
      let both = and_parts (is_led (slot_of e y.slot).led) (has_pointer (page_of e y.slot) y.index) live in
      let has : has_pointer (page_of d y.slot) y.index ≡ true =
      ap (λ (z : Page). has_pointer z y.index) (sym (step.pages y.slot other)) ∙ both.1 in
      and_from (is_led (slot_of d y.slot).led) (has_pointer (page_of d y.slot) y.index)
      (ap (λ (z : Slot). is_led z.led)
      (sym (slot_stays y.slot (λ is. half_leaf y.slot (inl is) y.index has) (λ is. half_leaf y.slot (inr is) y.index has)))
      ∙ both.0) has

  -- both halves are laid out for their parts of the keys
  laid_half : (y : NewLeaf) → IsNewLeaf l s.story d s.trees v.grip.made y → (part : Span) → y.span ≡ part
      → part.storage ≡ sp.storage → (x : At) (u : ℕ) (q : Pointer) → pointer_of e x ≡ q → q.span ≡ part → q.slot ≡ Some y.slot
      → (pointer_of e x).slot ≡ Some u → IsLaidOutFor l.decls s.trees e u (span_at e x)
  laid_half y is part over same x u q there span leads to-u =
      let at-u : Some y.slot ≡ Some u = sym leads ∙ (sym (ap (λ (z : Pointer). z.slot) there) ∙ to-u) in
      let slots : y.slot ≡ u = cc in
      let spans : part ≡ span_at e x = sym span ∙ sym (ap (λ (z : Pointer). z.span) there) in
      subst (λ i. IsLaidOutFor l.decls s.trees e i (span_at e x)) slots
      (subst (λ (z : Span). IsLaidOutFor l.decls s.trees e y.slot z) spans
      (laid_tree (decl_of l.decls part.storage) s.trees e y.slot part (ap (is_tree l.decls) same ∙ tree-kind)
      (record { span = y.span; keys = y.keys }, is.there, over)))

  by_index : (i u : ℕ) → i < 2 → (pointer_of e (at_index t i)).slot ≡ Some u
      → IsLaidOutFor l.decls s.trees e u (span_at e (at_index t i))
  by_index zero u less leads =
      laid_half lower low (lower_span sp separator) can.lower_span_is refl (at_index t 0) u (pointer_of e (at_index t 0)) refl
      (ap (λ (q : Pointer). q.span) (first_is laws l words views s id v active b t sp lower upper keys separator n can))
      (ap (λ (q : Pointer). q.slot) (first_is laws l words views s id v active b t sp lower upper keys separator n can)) leads
  by_index (suc zero) u less leads =
      laid_half upper high (upper_span sp separator) can.upper_span_is refl (at_index t 1) u (pointer_of e (at_index t 1)) refl
      (ap (λ (q : Pointer). q.span) (second_is laws l words views s id v active b t sp lower upper keys separator n can))
      (ap (λ (q : Pointer). q.slot) (second_is laws l words views s id v active b t sp lower upper keys separator n can)) leads
  by_index (suc (suc i)) u less leads = absurd (omega (arith, less))

  pub split_laid : AreLaidOut l.decls s.trees e
  split_laid (Root r) u live leads =
      laid_now (decl_of l.decls (span_at d (Root r)).storage) u (span_at d (Root r)) (b.sound.laid_out (Root r) u refl leads)
  split_laid (In y) u live leads =
      by_equal y.slot t (λ i. i ≡ y.slot → IsLaidOutFor l.decls s.trees e u (span_at e (In y))) here away refl
    where
      here : t ≡ y.slot → IsLaidOutFor l.decls s.trees e u (span_at e (In y))
      here is =
          let both = and_parts (is_led (slot_of e y.slot).led) (has_pointer (page_of e y.slot) y.index) live in
          let two : ltb y.index 2 ≡ true =
          sym (ap (λ i. has_pointer (page_of e i) y.index) (sym is)
          ∙ ap (λ (z : Page). has_pointer z y.index) (split_now laws l words views s id v active b t sp lower upper keys separator n can))
          ∙ both.1 in
          let less : y.index < 2 = grind (arith, nat_tests) in
          let same : at_index t y.index ≡ In y = ap (λ i. at_index i y.index) is in
          subst (λ (x : At). IsLaidOutFor l.decls s.trees e u (span_at e x)) same
          (by_index y.index u less (ap (λ (x : At). (pointer_of e x).slot) same ∙ leads))

      away : y.slot ≢ t → y.slot ≡ y.slot → IsLaidOutFor l.decls s.trees e u (span_at e (In y))
      away other is =
          let pointer = step.pointers y.slot y.index other in
          subst (λ (z : Span). IsLaidOutFor l.decls s.trees e u z) (sym (ap (λ (q : Pointer). q.span) pointer))
          (laid_now (decl_of l.decls (span_at d (In y)).storage) u (span_at d (In y))
          (b.sound.laid_out (In y) u (was_live y other live) (sym (ap (λ (q : Pointer). q.slot) pointer) ∙ leads)))

  -- ---- the words that others rely on

  abbrev words' : List ℕ
  words' = set words (page_at l.slots t 0) n

  pub page_word : (u j : ℕ) → j < 64 → u ≢ t → get_or words' (page_at l.slots u j) 0 ≡ get_or words (page_at l.slots u j) 0
  page_word u j less other = step.others (page_at l.slots u j) (λ q. other (omega arith))

  leaf : page_of d t ≡ Leaf can.head.keys
  leaf = is_leaf laws l words views s id v active b t sp lower upper keys separator n can

  locked : header_of d t ≡ Held (seat_number v.role)
  locked = is_locked laws l words views s id v active b t sp lower upper keys separator n can

  -- an owned slot is another one
  pub owned_apart : (u : ℕ) → is_owned (slot_of d u).state ≡ true → u ≢ t
  owned_apart u owned same =
      true≢false (sym (owned_never d u (slot_of d u).state (slot_of d u).led owned
      (b.sound.joint.pages.table.holds_counted.led u)) ∙ (ap (λ y. is_never (slot_of d y).led) same ∙ pg.known))

  pub split_frame : WordsStay l words words' s (seat_number v.role)
  split_frame = record {
    drafts = λ u few unmade own j less. page_word u j less (owned_apart u own);
    spare = λ u q ks few known held other is-leaf j less is.
        page_word u j less (λ same.
        let both : Held q ≡ Held (seat_number v.role) = sym held ∙ (ap (header_of d) same ∙ locked) in
        other (same_holder q (seat_number v.role) both));
    twins = λ u few known split j from to.
        page_word u j (omega arith) (λ same. no_split u (ap (page_of d) same ∙ leaf) split);
    fills = λ other y j some less. step.others (snap_at l.slots y j) (λ q. let few = step.few in let at = step.index in omega arith);
  }
    where
      same_holder : (a c : ℕ) → Held a ≡ Held c → a ≡ c
      same_holder a c same = cc

      no_split : (u : ℕ) → page_of d u ≡ Leaf can.head.keys → page_of d u ≡ Split → ⊥
      no_split u leaf split = let no : Leaf can.head.keys ≡ Split = sym leaf ∙ split in absurd (cc)
