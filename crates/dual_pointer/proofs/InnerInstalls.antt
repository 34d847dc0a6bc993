-- A slot with an interior page of a tree that says what a snapshot page does may be put in.
use Rattle.std.proofs.Common.{◌≡◌, ℕ, zero, suc, ◌<◌, ◌≤◌, ◌^◌, true, List, [], ◌∷◌}
use Rattle.std.proofs.Common.{length, get_or, refl, sym, ap, ◌∙◌, subst, arith, Option, Some, None, ltb}
use Rattle.std.specs.Prelude.{map}
use Rattle.std.specs.List.{list_all, slice_get}
use Rattle.std.proofs.lemmas.Bool.{and_from, and_parts}
use Rattle.std.proofs.lemmas.Bool.Decides.{nat_tests}
use Rattle.std.proofs.lemmas.List.{length-map}
use Rattle.lists.specs.Elements.{at_in}
use Rattle.serial_model.specs.declared.decl.Decl.{Decl}
use Rattle.serial_model.specs.declared.decl.Decl.TheVariants.{Tree}
use Rattle.serial_model.specs.Keys.{id_of}
use Rattle.homes.specs.declared.places.At.{At}
use Rattle.homes.specs.declared.places.Holder.{Holder}
use Rattle.homes.specs.declared.places.Holder.TheVariants.{Free}
use Rattle.homes.specs.declared.places.Move.{Move}
use Rattle.homes.specs.declared.places.Span.{Span}
use Rattle.homes.specs.Homes.{moves_to}
use Rattle.snapshot_store.specs.declared.place.PagePlace.{PagePlace}
use Rattle.snapshot_store.specs.Places.{page as page_words}
use Rattle.commit_core.specs.declared.story.Story.{Story}
use Rattle.commit_core.specs.Moves.{is_left}
use Rattle.commit_core.specs.Places.{place_of}
use Rattle.drop_core.specs.declared.event.Act.TheVariants.{Install}
use Rattle.drop_core.specs.declared.table.Page.{Page}
use Rattle.drop_core.specs.declared.table.Page.TheVariants.{Inner}
use Rattle.drop_core.specs.declared.table.Pointer.{Pointer}
use Rattle.drop_core.specs.declared.table.SnapPage.TheVariants.{Children}
use Rattle.drop_core.specs.declared.table.Table.{Table}
use Rattle.drop_core.specs.Event.{is_inner_for, is_like, is_right, is_right_child, leaf_keys, moves, stands_for, tile}
use Rattle.drop_core.specs.Table.{at_index, has_pointer, is_live, leaf_home, page_of, pointer_of, slot_of, snap_of}
use Rattle.engine_rule.specs.Event.{may_move}
use Rattle.engine_rule.specs.Reading.{children_at, name_of, page_from, span_of}
use Rattle.engine_pages.specs.declared.layout.Layout.{Layout}
use Rattle.engine_pages.specs.declared.view.NewInner.{NewInner}
use Rattle.engine_pages.specs.declared.view.View.{View}
use Rattle.engine_pages.specs.Pages.{decl_of, is_array, Fenced, IsLaidOut}
use Rattle.engine_pages.specs.Pointers.{IsPointerAt, page_half}
use Rattle.engine_pages.specs.Resident.{IsNamed, place_for, tree_below}
use Rattle.engine_pages.specs.Rule.{Shared, IsNewInner}
use Rattle.engine_pages.specs.Views.{seat_number}
use Rattle.engine_pages.specs.Words.{IsOverwritten, ShowsTree, is_shown}
use Rattle.engine_pages.proofs.Joint.{Laws}
use Rattle.engine_pages.proofs.PointerLaws.{PointerIs}
use Rattle.engine_pages.proofs.Turns.{Begins}
use Rattle.dual_pointer.specs.Installs.{IsInnerFor}
use Rattle.dual_pointer.proofs.InstallFacts.{Installable, by_published, there, live, named}
use Rattle.dual_pointer.proofs.Names.{low_name, named_same}
use Rattle.dual_pointer.proofs.Stands.{array_over, over_tree}
use Rattle.dual_pointer.proofs.TreeInners.{AreChildrenOf, kids_like, kids_stand}
use Rattle.dual_pointer.proofs.TreePages.{IsTreeEntry, tree_entry}

-- a page that has places below it has children
children_there : (places : List (Decl × PagePlace)) (decl : Decl) (words : List ℕ) (p : PagePlace) (below : List PagePlace)
    → 0 < length below → page_from places decl words p below ≡ Children (span_of (id_of decl) p) (children_at places decl below)
children_there places decl words p [] some = absurd (omega arith)
children_there places decl words p (q ∷ below) some = refl

-- what stands at an index of a list's image
mapped_at : {A B : Type 0} (f : A → B) (xs : List A) (j : ℕ) (y : B) → slice_get (map f xs) j ≡ Some y
    → (a : A) × (slice_get xs j ≡ Some a) × (f a ≡ y)
mapped_at f [] j y is = absurd (cc)
mapped_at f (x ∷ xs) zero y is = (x, refl, cc)
mapped_at f (x ∷ xs) (suc j) y is = mapped_at f xs j y is

-- a pointer is its parts
pointer_as : (a : Pointer) (z : Span) (n : ℕ) → a.span ≡ z → a.slot ≡ None → a.page ≡ n → a.holder ≡ Free
    → a ≡ record { span = z; slot = None; page = n; holder = Free }
pointer_as a z n span slot page holder =
    ap (λ (y : Span). let r : Pointer = record { span = y; slot = a.slot; page = a.page; holder = a.holder } in r) span
    ∙ (ap (λ (y : Option ℕ). let r : Pointer = record { span = z; slot = y; page = a.page; holder = a.holder } in r) slot
    ∙ (ap (λ (y : ℕ). let r : Pointer = record { span = z; slot = None; page = y; holder = a.holder } in r) page
    ∙ ap (λ (y : Holder). let r : Pointer = record { span = z; slot = None; page = n; holder = y } in r) holder))

module _ (laws : Laws) (l : Layout) (words : List ℕ) (views : List View) (s : Shared) (id : ℕ) (v : View)
    (b : Begins l words views s id v) (x : At) (sp : Span) (at t expected : ℕ) (here : IsPointerAt v x sp at)
    (low : expected < 2 ^ 32) (n-is : get_or words at 0 ≡ expected) (c : IsInnerFor v sp t (page_half expected)) where
  abbrev m : Story
  m = s.story

  abbrev d : Table
  d = s.table

  abbrev p : ℕ
  p = seat_number v.role

  abbrev q : Pointer
  q = pointer_of d x

  abbrev number : ℕ
  number = page_half expected

  abbrev decl : Decl
  decl = Tree sp.storage

  abbrev places : List (Decl × PagePlace)
  places = s.resident.places

  abbrev below : List PagePlace
  below = tree_below s.resident.pages sp number

  abbrev kids : List (Span × ℕ)
  kids = children_at places decl below

  abbrev new : NewInner
  new = record { slot = t; span = sp; page = number }

  is : IsNewInner l d s.trees s.resident v.grip.made new
  is = b.pages.treed.new_inners new c.has

  pointer-there : PointerIs l words s v x sp at
  pointer-there = there laws l words views s id v b x sp at expected here low n-is

  pointer-live : is_live d x ≡ true
  pointer-live = live laws l words views s id v b x sp at expected here low n-is

  pointer-named : IsNamed places sp number q.page
  pointer-named = named laws l words views s id v b x sp at expected here low n-is

  past : q.page ≤ d.published
  past = b.sound.joint.pages.table.snapshots_fixed.pointers x pointer-live

  entry : IsTreeEntry places sp number q.page
  entry =
      tree_entry l.decls s.resident d sp number q.page b.sound.declared b.sound.named pointer-named is.kind is.some

  -- an interior page has children
  some_below : 0 < length below
  some_below =
      let shown = b.sound.shown.treed t (record { span = sp; keys = [] }) is.slot
      (ap is_shown (by_published (slot_of d t).state is.state)) is.there in
      let here = subst (ShowsTree places words l.slots t (record { span = sp; keys = [] }) (IsOverwritten m) (place_of m.places) d) is.count shown in
      here.2

  page_is : snap_of d q.page ≡ Children sp kids
  page_is =
      ap (snap_of d) entry.is
      ∙ (b.sound.named.says entry.index (decl, place_for sp number) entry.at
      ∙ children_there places decl (page_words s.resident.pages number) (place_for sp number) below some_below)

  kids_length : length kids ≡ length below
  kids_length =
      length-map below (λ (y : PagePlace). let z : Span × ℕ = (span_of (id_of decl) y, name_of places decl y) in z)

  -- the name of a child is that of its pointer
  child_name : (j : ℕ) (y : PagePlace) → slice_get below j ≡ Some y
      → (pointer_of d (at_index t j)).page ≡ name_of places decl y
  child_name j y has =
      let child = is.pointers j y has in
      named_same places (span_of sp.storage y) y.number (pointer_of d (at_index t j)).page (name_of places decl y)
      (subst (λ (z : Span). IsNamed places z y.number (pointer_of d (at_index t j)).page) child.span child.named)
      record {
        decl = decl;
        storage = refl;
        is = refl;
        there = λ some.
            b.sound.named.below entry.index (decl, place_for sp number) entry.at y (at_in below j y has) some;
      }

  are_children : AreChildrenOf d t sp q.page kids
  are_children = record {
    some = let count = kids_length in let some = some_below in omega arith;
    past = past;
    page = page_is;
    tiles =
        let right : is_right (snap_of d) (snap_of d q.page) ≡ true =
        b.sound.joint.pages.published.right q.page (let e = entry.is in omega arith) past in
        (and_parts (tile sp kids) (list_all (is_right_child (snap_of d)) kids) (sym (ap (is_right (snap_of d)) page_is) ∙ right)).0;
    low = λ j e has.
        let of = mapped_at (λ (y : PagePlace). let z : Span × ℕ = (span_of (id_of decl) y, name_of places decl y) in z) below j e has in
        let child = is.pointers j of.0 of.1 in
        subst (λ n. n ≤ d.published) (child_name j of.0 of.1 ∙ ap (λ (z : Span × ℕ). z.1) of.2)
        (low_name l.decls s.resident d b.sound.named (pointer_of d (at_index t j)).span (of.0).number
        (pointer_of d (at_index t j)).page child.named);
    is = λ j e has.
        let of = mapped_at (λ (y : PagePlace). let z : Span × ℕ = (span_of (id_of decl) y, name_of places decl y) in z) below j e has in
        let child = is.pointers j of.0 of.1 in
        pointer_as (pointer_of d (at_index t j)) e.0 e.1 (child.span ∙ ap (λ (z : Span × ℕ). z.0) of.2) child.slot
        (child_name j of.0 of.1 ∙ ap (λ (z : Span × ℕ). z.1) of.2) child.free;
  }

  page-there : page_of d t ≡ Inner (length kids)
  page-there = is.count ∙ ap (λ (k : ℕ). let z : Page = Inner k in z) (sym kids_length)

  moves-none : moves d (Install x t) ≡ []
  moves-none = ap (λ (z : Page). moves_to (leaf_home t 0 (leaf_keys z)) (leaf_keys z)) page-there

  -- none of its pointers leads to a slot
  alone : (j u : ℕ) → has_pointer (page_of d t) j ≡ true → (pointer_of d (at_index t j)).slot ≡ Some u → ⊥
  alone j u has leads = at_place (sym (ap (λ (z : Page). has_pointer z j) is.count) ∙ has)
    where
      none_led : (z : Pointer) → z.slot ≡ None → z.slot ≡ Some u → ⊥
      none_led z none some = absurd (cc)

      there_is : (list : List PagePlace) (j : ℕ) → j < length list → (y : PagePlace) × (slice_get list j ≡ Some y)
      there_is [] j less = absurd (omega arith)
      there_is (z ∷ list) zero less = (z, refl)
      there_is (z ∷ list) (suc j) less = there_is list j (omega arith)

      below_count : (i n : ℕ) → ltb i n ≡ true → i < n
      below_count i n is = grind (arith, nat_tests)

      at_place : has_pointer (Inner (length below)) j ≡ true → ⊥
      at_place has =
          let y = there_is below j (below_count j (length below) has) in
          none_led (pointer_of d (at_index t j)) (is.pointers j y.0 y.1).slot leads

  no_tree : (span : Span) → is_array l.decls span.storage ≡ true
      → IsLaidOut (decl_of l.decls span.storage) s.trees d t span → ⊥
  no_tree span kind over =
      no_both (record { span = sp; keys = [] }) (array_over (decl_of l.decls span.storage) s.trees d t span kind over).0 is.there
    where
      no_both : (f : Fenced) → s.trees t ≡ None → s.trees t ≡ Some f → ⊥
      no_both f none some = let no : None ≡ Some f = sym none ∙ some in absurd (cc)

  pub inner_installs : Installable laws l words views s id v b x sp at expected here low n-is t
  inner_installs =
      let zero-is = b.sound.named.none in
      let down = b.sound.joint.pages.published.down in record {
        slot = is.slot;
        made = is.made;
        state = is.state;
        laid = over_tree (decl_of l.decls sp.storage) s.trees d t sp is.kind (record { span = sp; keys = [] }, is.there, refl);
        fits = and_from (is_like d t (page_of d t) (snap_of d q.page)) (stands_for d t q.page q.span (page_of d t))
            (ap (λ (z : Page). is_like d t z (snap_of d q.page)) page-there
            ∙ kids_like d zero-is down t sp q.page kids are_children)
            (ap (λ (z : Page). stands_for d t q.page q.span z) page-there
            ∙ (ap (λ (z : Span). is_inner_for d t q.page z (length kids)) pointer-there.span
            ∙ kids_stand d zero-is down t sp q.page kids are_children));
        alone = alone;
        moving = ap (may_move p m (s.seats p)) moves-none;
        unleft = λ y. ap (λ (list : List Move). is_left list m.homes y) moves-none;
        low_words = λ span i less kind leaf over. absurd (no_tree span kind over);
      }
