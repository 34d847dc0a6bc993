-- The step of a swing of a tree's interior page: the pass has shut each of its pointers.
use Rattle.std.proofs.Common.{◌≡◌, ℕ, zero, suc, ◌+◌, ◌<◌, ◌≤◌, ◌^◌, true, false, eqb, eq-eqb, ltb, List, [], ◌∷◌, length}
use Rattle.std.proofs.Common.{get_or, refl, sym, ap, ◌∙◌, subst, arith, Option, Some, None}
use Rattle.std.specs.Prelude.{◌&&◌, is_none, map}
use Rattle.std.specs.List.{Contains, list_all, slice_get}
use Rattle.std.specs.Option.{option_map_or}
use Rattle.std.proofs.lemmas.Bool.{and_from, and_parts}
use Rattle.std.proofs.lemmas.List.{length-map}
use Rattle.lists.specs.Elements.{at_below, at_in}
use Rattle.serial_model.specs.declared.decl.Decl.{Decl}
use Rattle.serial_model.specs.declared.decl.Decl.TheVariants.{Tree}
use Rattle.serial_model.specs.Keys.{id_of}
use Rattle.homes.specs.declared.places.At.{At}
use Rattle.homes.specs.declared.places.Holder.TheVariants.{Free, Held}
use Rattle.homes.specs.declared.places.Span.{Span}
use Rattle.homes.specs.Homes.{holder_is, moves_to, same_span}
use Rattle.wire_form.specs.Words.{slot_field}
use Rattle.snapshot_store.specs.declared.place.PagePlace.{PagePlace}
use Rattle.snapshot_store.specs.Places.{page as page_words}
use Rattle.snapshot_store.specs.TreePages.{node_below, node_of}
use Rattle.commit_core.specs.declared.story.Story.{Story}
use Rattle.commit_core.specs.CoreState.{can_begin}
use Rattle.commit_core.specs.Event.{moved as moved_as}
use Rattle.commit_core.specs.Places.{place_of}
use Rattle.drop_core.specs.declared.event.Act.TheVariants.{Swing}
use Rattle.drop_core.specs.declared.table.Page.{Page}
use Rattle.drop_core.specs.declared.table.Page.TheVariants.{Inner, Split}
use Rattle.drop_core.specs.declared.table.Pointer.{Pointer}
use Rattle.drop_core.specs.declared.table.SnapPage.TheVariants.{Children}
use Rattle.drop_core.specs.declared.table.Table.{Table}
use Rattle.drop_core.specs.Event.{all_below, child, has_children, is_child_at, is_closed_to_others, is_like, is_right}
use Rattle.drop_core.specs.Event.{is_right_child, is_same_at, is_same_child, is_stood_for, is_tile, keys_in}
use Rattle.drop_core.specs.Event.{keys_pass, leaf_keys, moves, tile, is_allowed as page_allows}
use Rattle.drop_core.specs.Table.{at_index, is_never, page_of, pointer_of, slot_of, snap_home, snap_of}
use Rattle.engine_rule.specs.declared.event.JointAct.TheVariants.{Turn as TurnPages}
use Rattle.engine_rule.specs.Event.{absences_are_old, after_moves, commit_lets, holds_all, may_move}
use Rattle.engine_rule.specs.Reading.{children_at, name_of, page_from, span_of}
use Rattle.engine_pages.specs.declared.layout.Layout.{Layout}
use Rattle.engine_pages.specs.declared.view.View.{View}
use Rattle.engine_pages.specs.Pages.{decl_of, is_tree, part_between, Fenced}
use Rattle.engine_pages.specs.Resident.{IsNamed, place_for, tree_below}
use Rattle.engine_pages.specs.Rule.{Shared, IsInner, IsShut}
use Rattle.engine_pages.specs.Views.{IsActive, seat_number}
use Rattle.engine_pages.specs.Words.{IsOverwritten, lock_field, ShowsTree}
use Rattle.engine_pages.proofs.Joint.{Laws, may_do}
use Rattle.engine_pages.proofs.Named.{page_longer}
use Rattle.engine_pages.proofs.PointerLaws.{known_shown, one_fence, tree_over}
use Rattle.engine_pages.proofs.Seats.{is_at}
use Rattle.engine_pages.proofs.Turns.{Stride, Begins}
use Rattle.dual_pointer.proofs.Names.{low_name, named_same}
use Rattle.dual_pointer.proofs.TreeInners.{AreChildrenOf, kids_like, kids_stand}
use Rattle.dual_pointer.proofs.TreePages.{IsTreeEntry, tree_entry}
use Rattle.pointer_swings.specs.Shuts.{shut_of}
use Rattle.pointer_swings.specs.Swings.{CanSwing}
use Rattle.pointer_swings.specs.TreeSwings.{IsTreeInnerAs}
use Rattle.pointer_swings.proofs.SwingFacts.{IsClosed, Target, aims, led, none_buried, one_slot}
use Rattle.pointer_swings.proofs.SwingInner.{all_true, below_same, freed-look, open_table}
use Rattle.pointer_swings.proofs.Swinging.{Point, begins, laid-out, leads-to, pages_allow, point, seat-is}
use Rattle.pointer_swings.proofs.Swinging.{stride_with, to as target_of, w as swung_view}

-- a page that has places below it has children
children_there : (places : List (Decl × PagePlace)) (decl : Decl) (words : List ℕ) (p : PagePlace) (below : List PagePlace)
    → 0 < length below → page_from places decl words p below ≡ Children (span_of (id_of decl) p) (children_at places decl below)
children_there places decl words p [] some = absurd (omega arith)
children_there places decl words p (q ∷ below) some = refl

-- what stands at an index of a list's image
mapped_at : {A B : Type 0} (f : A → B) (xs : List A) (j : ℕ) (y : B) → slice_get (map f xs) j ≡ Some y
    → (a : A) × (slice_get xs j ≡ Some a) × (f a ≡ y)
mapped_at f [] j y is = absurd (cc)
mapped_at f (x ∷ xs) zero y is = (x, refl, cc)
mapped_at f (x ∷ xs) (suc j) y is = mapped_at f xs j y is

-- one of a list's places
there_is : (list : List PagePlace) (j : ℕ) → j < length list → (y : PagePlace) × (slice_get list j ≡ Some y)
there_is [] j less = absurd (omega arith)
there_is (z ∷ list) zero less = (z, refl)
there_is (z ∷ list) (suc j) less = there_is list j (omega arith)

module _ (laws : Laws) (l : Layout) (words : List ℕ) (views : List View) (s : Shared) (id : ℕ) (v : View)
    (active : IsActive v.role) (b : Begins l words views s id v) (x : At) (sp : Span) (at t number expected : ℕ)
    (c : CanSwing v x sp at t number expected) (n-is : get_or words at 0 ≡ expected) (a : IsTreeInnerAs v t sp number) where
  abbrev d : Table
  d = s.table

  abbrev m : Story
  m = s.story

  abbrev p : ℕ
  p = seat_number v.role

  abbrev q : Pointer
  q = pointer_of d x

  abbrev to : Target laws l words views s id v active b x sp at t number expected (aims c) n-is
  to = target_of laws l words views s id v active b x sp at t number expected c n-is

  abbrev separators : List ℕ
  separators = (a.inner).separators

  abbrev count : ℕ
  count = suc (length separators)

  -- ---- the page in the slot

  inner-is : IsInner l d s.trees v.grip.holds a.inner
  inner-is = b.pages.treed.inners a.inner a.has

  page-is : page_of d t ≡ Inner count
  page-is = ap (page_of d) (sym a.slot) ∙ inner-is.page

  tree : is_tree l.decls sp.storage ≡ true
  tree = ap (λ (y : Layout). is_tree y.decls sp.storage) (sym b.own.layout) ∙ a.tree

  fence : (f : Fenced) × (s.trees t ≡ Some f) × (f.span ≡ sp)
  fence =
      tree_over (decl_of l.decls sp.storage) s.trees d t sp tree
      (laid-out laws l words views s id v active b x sp at t number expected c n-is)

  inner-span : (inner-is.fence).span ≡ sp
  inner-span =
      ap (λ (f : Fenced). f.span)
      (one_fence (s.trees t) inner-is.fence fence.0 (ap s.trees (sym a.slot) ∙ inner-is.there) fence.1) ∙ fence.2

  shows : ShowsTree s.resident.places words l.slots t fence.0 (IsOverwritten m) (place_of m.places) d (Inner count)
  shows =
      let from = led laws l words views s id v active b x sp at t number expected (aims c) n-is in
      let known = known_shown d t (slot_of d t).state (slot_of d t).led (ap is_never from) (b.sound.joint.pages.table.holds_counted.led t) in
      subst (ShowsTree s.resident.places words l.slots t fence.0 (IsOverwritten m) (place_of m.places) d) page-is
      (b.sound.shown.treed t fence.0 (subst (λ u. u < l.slots) a.slot inner-is.within) known fence.1)

  closed : IsClosed d p t
  closed = record {
    closed = ap (is_closed_to_others p) shows.7;
    unsplit = λ split. let no : Inner count ≡ Split = sym page-is ∙ split in absurd (cc);
  }

  -- ---- the snapshot page

  abbrev places : List (Decl × PagePlace)
  places = s.resident.places

  abbrev decl : Decl
  decl = Tree sp.storage

  abbrev below : List PagePlace
  below = tree_below s.resident.pages sp number

  same_below : below ≡ tree_below v.pages sp number
  same_below =
      ap (λ (ws : List ℕ). node_below sp.low sp.high (node_of ws))
      (page_longer v.pages s.resident.pages number b.pages.resident c.there)

  below_long : length below ≡ count
  below_long = ap (λ (list : List PagePlace). length list) same_below ∙ a.count

  abbrev kids : List (Span × ℕ)
  kids = children_at places decl below

  kids_long : length kids ≡ count
  kids_long = length-map below (λ (y : PagePlace). let z : Span × ℕ = (span_of (id_of decl) y, name_of places decl y) in z) ∙ below_long

  entry : IsTreeEntry places sp number to.name
  entry = tree_entry l.decls s.resident d sp number to.name b.sound.declared b.sound.named to.named tree a.some

  snap_is : snap_of d to.name ≡ Children sp kids
  snap_is =
      ap (snap_of d) entry.is
      ∙ (b.sound.named.says entry.index (decl, place_for sp number) entry.at
      ∙ children_there places decl (page_words s.resident.pages number) (place_for sp number) below
      (let long = below_long in omega (arith, long)))

  -- ---- each pointer

  module _ (j : ℕ) (y : PagePlace) (is : slice_get below j ≡ Some y) where
    asked : (y.number < 2 ^ 32) × Contains v.shuts (shut_of (at_index t j) y.number)
        × (record { storage = sp.storage; low = y.low; high = y.high } ≡ part_between sp separators j)
    asked = a.pointers j y (ap (λ (list : List PagePlace). slice_get list j) (sym same_below) ∙ is)

    shut : IsShut d s.resident p v.grip.holds (shut_of (at_index t j) y.number)
    shut = b.pages.shuts p (is_at v.role active) (shut_of (at_index t j) y.number) asked.1

    slotless : (pointer_of d (at_index t j)).slot ≡ None
    slotless = by_slot (pointer_of d (at_index t j)).slot refl
      where
        by_slot : (o : Option ℕ) → (pointer_of d (at_index t j)).slot ≡ o → o ≡ None
        by_slot None none = refl
        by_slot (Some u) some =
            let word = shut.word in
            let few = asked.0 in
            let field : slot_field (pointer_of d (at_index t j)).slot ≡ u + 1 = ap slot_field some in
            absurd (omega (arith, word, few, field))

    index : j ≤ length separators
    index =
        let less = at_below below j y is in
        let long = below_long in omega (arith, less, long)

    over : (pointer_of d (at_index t j)).span ≡ span_of sp.storage y
    over =
        ap (λ u. (pointer_of d (at_index u j)).span) (sym a.slot)
        ∙ (inner-is.parts j index ∙ (ap (λ (z : Span). part_between z separators j) inner-span ∙ sym asked.2))

    child_named : IsNamed places (span_of sp.storage y) y.number (pointer_of d (at_index t j)).page
    child_named =
        let word = shut.word in
        let none : slot_field (pointer_of d (at_index t j)).slot ≡ 0 = ap slot_field slotless in
        let same : shut.number ≡ y.number = omega (arith, word, none) in
        subst (λ (z : Span). IsNamed places z y.number (pointer_of d (at_index t j)).page) over
        (subst (λ n. IsNamed places (pointer_of d (at_index t j)).span n (pointer_of d (at_index t j)).page) same shut.named)

    child_name : (pointer_of d (at_index t j)).page ≡ name_of places decl y
    child_name =
        named_same places (span_of sp.storage y) y.number (pointer_of d (at_index t j)).page (name_of places decl y) child_named
        record {
          decl = decl;
          storage = refl;
          is = refl;
          there = λ some. b.sound.named.below entry.index (decl, place_for sp number) entry.at y (at_in below j y is) some;
        }

    child_freed : child (open_table d) t j
        ≡ record { span = span_of sp.storage y; slot = None; page = name_of places decl y; holder = Free }
    child_freed =
        freed-look d.pointers (at_index t j) p shut.shut
        ∙ (ap (λ (z : Span). let f : Pointer = record { span = z; slot = (pointer_of d (at_index t j)).slot; page = (pointer_of d (at_index t j)).page; holder = Free } in f) over
        ∙ (ap (λ (o : Option ℕ). let f : Pointer = record { span = span_of sp.storage y; slot = o; page = (pointer_of d (at_index t j)).page; holder = Free } in f) slotless
        ∙ ap (λ (n : ℕ). let f : Pointer = record { span = span_of sp.storage y; slot = None; page = n; holder = Free } in f) child_name))

  shut-at : (j : ℕ) → j < count → (pointer_of d (at_index t j)).holder ≡ Held p
  shut-at j less =
      let long = below_long in
      let y = there_is below j (omega (arith, less, long)) in (shut j y.0 y.1).shut

  freed-at : (j : ℕ) → j < count → child (open_table d) t j ≡ record (pointer_of d (at_index t j)) { holder = Free }
  freed-at j less = freed-look d.pointers (at_index t j) p (shut-at j less)

  are_children : AreChildrenOf (open_table d) t sp to.name kids
  are_children = record {
    some = let long = kids_long in omega (arith, long);
    past = to.most;
    page = snap_is;
    tiles =
        let right : is_right (snap_of d) (snap_of d to.name) ≡ true =
        b.sound.joint.pages.published.right to.name (let e = entry.is in omega arith) to.most in
        (and_parts (tile sp kids) (list_all (is_right_child (snap_of d)) kids) (sym (ap (is_right (snap_of d)) snap_is) ∙ right)).0;
    low = λ j e has.
        let of = mapped_at (λ (y : PagePlace). let z : Span × ℕ = (span_of (id_of decl) y, name_of places decl y) in z) below j e has in
        subst (λ n. n ≤ d.published) (child_name j of.0 of.1 ∙ ap (λ (z : Span × ℕ). z.1) of.2)
        (low_name l.decls s.resident d b.sound.named (span_of sp.storage of.0) (of.0).number
        (pointer_of d (at_index t j)).page (child_named j of.0 of.1));
    is = λ j e has.
        let of = mapped_at (λ (y : PagePlace). let z : Span × ℕ = (span_of (id_of decl) y, name_of places decl y) in z) below j e has in
        child_freed j of.0 of.1
        ∙ ap (λ (z : Span × ℕ). let f : Pointer = record { span = z.0; slot = None; page = z.1; holder = Free } in f) of.2;
  }

  -- ---- the tests, which don't ask who has shut the pointers

  same_children : all_below count (is_same_child d t to.name) ≡ true
  same_children =
      let n = length kids in
      let all = kids_stand (open_table d) b.sound.named.none b.sound.joint.pages.published.down t sp to.name kids are_children in
      let one = and_parts (ltb 0 n) _ all in
      let two = and_parts (all_below n (is_tile (open_table d) t sp n)) _ one.1 in
      let three = and_parts (all_below n (is_same_child (open_table d) t to.name)) _ two.1 in
      below_same count (is_same_child d t to.name) (is_same_child (open_table d) t to.name)
      (λ j less. sym (ap (λ (z : Pointer). is_none z.slot && keys_pass (is_same_at d z.span z.page to.name) d.snaps) (freed-at j less)))
      ∙ (ap (λ k. all_below k (is_same_child (open_table d) t to.name)) (sym kids_long) ∙ three.0)

  stood : (all_below count (is_same_child d t to.name) && all_below count (λ j. holder_is p (child d t j).holder)) ≡ true
  stood =
      and_from (all_below count (is_same_child d t to.name)) (all_below count (λ j. holder_is p (child d t j).holder)) same_children
      (all_true count (λ j. holder_is p (child d t j).holder) (λ j less. ap (holder_is p) (shut-at j less) ∙ eq-eqb p p refl))

  like : has_children d t count (snap_of d to.name) ≡ true
  like =
      let opened = kids_like (open_table d) b.sound.named.none b.sound.joint.pages.published.down t sp to.name kids are_children in
      let parts = and_parts (eqb (length kids) (length kids)) (all_below (length kids) (is_child_at (open_table d) t kids))
      (sym (ap (has_children (open_table d) t (length kids)) snap_is) ∙ opened) in
      ap (has_children d t count) snap_is
      ∙ and_from (eqb (length kids) count) (all_below count (is_child_at d t kids)) (eq-eqb (length kids) count kids_long)
      (below_same count (is_child_at d t kids) (is_child_at (open_table d) t kids)
      (λ j less. sym (ap (λ (z : Pointer). option_map_or (λ e. same_span z.span e.0 && eqb z.page e.1) (slice_get kids j) false) (freed-at j less)))
      ∙ (ap (λ k. all_below k (is_child_at (open_table d) t kids)) (sym kids_long) ∙ parts.1))

  -- ---- the step

  none-moved : moves d (Swing x to.name) ≡ []
  none-moved =
      ap (λ o. moves_to (snap_home d to.name) (keys_in d o)) (leads-to laws l words views s id v active b x sp at t number expected c n-is)
      ∙ ap (λ (z : Page). moves_to (snap_home d to.name) (leaf_keys z)) page-is

  branch-point : Point laws l words views s id v active b x sp at t number expected c n-is m.places m.homes m.horizon
  branch-point =
      point laws l words views s id v active b x sp at t number expected c n-is closed m.places m.homes m.horizon
      (λ u j k lost is less.
      let here : t ≡ u = one_slot t u lost in
      let same : Inner k ≡ Inner count = sym is ∙ (ap (page_of d) (sym here) ∙ page-is) in
      let many : k ≡ count = cc in
      ap (λ i. lock_field (pointer_of d (at_index i j)).holder) (sym here) ∙ ap lock_field (shut-at j (omega (arith, less, many))))
      (none_buried m (t ∷ []))

  moved-none : after_moves p m (s.seats p) (moves d (Swing x to.name))
      ≡ record { story = m; seat = record v.seat { locks = [] } }
  moved-none =
      ap (after_moves p m (s.seats p)) none-moved
      ∙ (ap (moved_as m) (seat-is laws l words views s id v active b x sp at t number expected c n-is)
      ∙ ap (λ ks. moved_as m (record v.seat { locks = ks })) a.unlocked)

  may-branch : may_do s p (TurnPages (Swing x to.name)) ≡ true
  may-branch =
      let lets : commit_lets p m (s.seats p) d (Swing x to.name) ≡ true =
      and_from (can_begin (s.seats p).stage) _ (begins laws l words views s id v active b x sp at t number expected c n-is)
      (ap (λ ks. holds_all p m ks && absences_are_old m ks) no-keys) in
      and_from (page_allows p d (s.grips p) (Swing x to.name))
      (commit_lets p m (s.seats p) d (Swing x to.name) && may_move p m (s.seats p) (moves d (Swing x to.name)))
      (pages_allow laws l words views s id v active b x sp at t number expected c n-is closed
      (ap (λ (z : Page). is_like d t z (snap_of d to.name)) page-is ∙ like)
      (ap (λ (z : Page). is_stood_for p d t to.name q.span z) page-is ∙ stood))
      (and_from (commit_lets p m (s.seats p) d (Swing x to.name)) (may_move p m (s.seats p) (moves d (Swing x to.name))) lets
      (ap (may_move p m (s.seats p)) none-moved))
    where
      no-keys : keys_in d q.slot ≡ []
      no-keys =
          ap (keys_in d) (leads-to laws l words views s id v active b x sp at t number expected c n-is) ∙ ap leaf_keys page-is

  pub branch_turns : (f : ℕ → ℕ) (tells : View → ℕ → View → Type 0) → f (get_or words at 0) ≡ number
      → tells v (get_or words at 0) (swung_view laws l words views s id v active b x sp at t number expected c n-is)
      → Stride l words views s p v at f tells
  branch_turns f tells f-is tells-so =
      stride_with laws l words views s id v active b x sp at t number expected c n-is m.places m.homes m.horizon f tells closed
      branch-point f-is may-branch moved-none tells-so
