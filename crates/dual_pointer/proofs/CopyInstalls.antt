-- A slot with a copy of a snapshot page of an array may be put in.
use Rattle.std.proofs.Common.{◌≡◌, ◌⊎◌, inl, inr, ℕ, zero, suc, ◌+◌, ◌*◌, ◌^◌, ◌<◌, true, false, true≢false}
use Rattle.std.proofs.Common.{eqb, eq-eqb, leb, ltb, List, [], length, get_or, refl, sym, ap, ◌∙◌, subst}
use Rattle.std.proofs.Common.{arith, Option, Some, None}
use Rattle.std.specs.Prelude.{◌&&◌}
use Rattle.std.specs.List.{slice_get}
use Rattle.std.proofs.lemmas.Bool.{and_from, cases_Bool}
use Rattle.std.proofs.lemmas.Bool.Decides.{nat_tests}
use Rattle.serial_model.specs.declared.decl.Decl.{Decl}
use Rattle.serial_model.specs.declared.decl.Decl.TheVariants.{Array}
use Rattle.serial_model.specs.declared.key.Key.{Key}
use Rattle.homes.specs.declared.places.At.{At}
use Rattle.homes.specs.declared.places.Content.{Content}
use Rattle.homes.specs.declared.places.Holder.{Holder}
use Rattle.homes.specs.declared.places.Holder.TheVariants.{Free}
use Rattle.homes.specs.declared.places.Home.{Home}
use Rattle.homes.specs.declared.places.Move.{Move}
use Rattle.homes.specs.declared.places.Span.{Span}
use Rattle.homes.specs.declared.places.Spot.{Spot}
use Rattle.homes.specs.Homes.{in_span, moves_to}
use Rattle.snapshot_store.specs.Places.{page as page_words}
use Rattle.commit_core.specs.declared.place.Place.{Place}
use Rattle.commit_core.specs.declared.story.Story.{Story}
use Rattle.commit_core.specs.CoreState.{can_begin}
use Rattle.commit_core.specs.Moves.{is_left}
use Rattle.commit_core.specs.Places.{place_of, home_of, spot_of}
use Rattle.drop_core.specs.declared.event.Act.TheVariants.{Install}
use Rattle.drop_core.specs.declared.table.Page.{Page}
use Rattle.drop_core.specs.declared.table.Page.TheVariants.{Leaf, Inner}
use Rattle.drop_core.specs.declared.table.Pointer.{Pointer}
use Rattle.drop_core.specs.declared.table.SnapPage.TheVariants.{Missing, Children}
use Rattle.drop_core.specs.declared.table.Table.{Table}
use Rattle.drop_core.specs.Event.{is_leaf_for, leaf_keys, is_like, is_inner_for, stands_for}
use Rattle.drop_core.specs.Event.{moves}
use Rattle.drop_core.specs.Table.{slot_of, page_of, pointer_of, snap_of, snap_home, leaf_home, at_index}
use Rattle.drop_core.specs.Table.{has_pointer, is_never, is_live}
use Rattle.engine_rule.specs.Event.{may_move}
use Rattle.engine_rule.specs.Reading.{name_of}
use Rattle.engine_pages.specs.declared.layout.Layout.{Layout}
use Rattle.engine_pages.specs.declared.view.Copied.{Copied}
use Rattle.engine_pages.specs.declared.view.View.{View}
use Rattle.engine_pages.specs.Layout.{page_at}
use Rattle.engine_pages.specs.Pages.{keys_from, is_array, is_leaf_span, child_span, decl_of, IsLaidOut}
use Rattle.engine_pages.specs.Pointers.{IsPointerAt, page_half}
use Rattle.dual_pointer.specs.Installs.{IsCopyFor}
use Rattle.dual_pointer.proofs.InstallFacts.{Installable, by_published, there, live, named, homes, made_never}
use Rattle.engine_pages.specs.Resident.{IsNamed, place_for}
use Rattle.engine_pages.specs.Rule.{Shared, IsCopy, IsCopiedPointer}
use Rattle.engine_pages.specs.Views.{seat_number}
use Rattle.engine_pages.specs.Words.{ShowsPage, is_shown}
use Rattle.engine_pages.specs.Words.{lock_field, spot}
use Rattle.engine_pages.proofs.Joint.{Laws}
use Rattle.engine_pages.proofs.PagesStay.{leaf_shape, inner_shape}
use Rattle.engine_pages.proofs.PointerLaws.{PointerIs}
use Rattle.engine_pages.proofs.Seats.{home_known}
use Rattle.engine_pages.proofs.Turns.{Begins}
use Rattle.dual_pointer.proofs.InnerStands.{IsInnerCopy, inner_like, inner_stands, parted}
use Rattle.dual_pointer.proofs.Names.{array_entry, low_name, named_same}
use Rattle.dual_pointer.proofs.Rows.{key_of, length_keys, none_left}
use Rattle.dual_pointer.proofs.Stands.{array_over, over_array}
use Rattle.dual_pointer.proofs.SnapWords.{LeafSays, child_at, child_named, children, children_length, inner_page_is, leaf_says}
use Rattle.dual_pointer.proofs.Moves.{CanMoveIn, may_move_in, leaf_stands, snap_unspotted}

module _ (laws : Laws) (l : Layout) (words : List ℕ) (views : List View) (s : Shared) (id : ℕ) (v : View)
    (b : Begins l words views s id v) (x : At) (sp : Span) (at t expected : ℕ) (here : IsPointerAt v x sp at)
    (low : expected < 2 ^ 32) (n-is : get_or words at 0 ≡ expected) (c : IsCopyFor v sp t (page_half expected)) where
  abbrev m : Story
  m = s.story

  abbrev d : Table
  d = s.table

  abbrev p : ℕ
  p = seat_number v.role

  abbrev q : Pointer
  q = pointer_of d x

  abbrev number : ℕ
  number = page_half expected

  abbrev keys : List Key
  keys = keys_from sp.storage sp.low 32

  abbrev to : Key → Home
  to = leaf_home t 0 keys

  abbrev leaf-moves : List Move
  leaf-moves = moves_to to keys

  abbrev mv : List Move
  mv = moves d (Install x t)

  abbrev copied : Copied
  copied = record { slot = t; span = sp; page = number }

  copy : IsCopy l m d s.resident v.grip.made copied
  copy = (b.pages.copies copied c.copied).1

  untreed : s.trees t ≡ None
  untreed = (b.pages.copies copied c.copied).0

  exact : is_leaf_span sp ≡ true → sp.high ≡ sp.low + 31
  exact leaf = copy.exact leaf

  array : is_array l.decls sp.storage ≡ true
  array = ap (λ (y : Layout). is_array y.decls sp.storage) (sym b.own.layout) ∙ c.array

  -- what is known of the pointer
  pointer-there : PointerIs l words s v x sp at
  pointer-there = there laws l words views s id v b x sp at expected here low n-is

  pointer-live : is_live d x ≡ true
  pointer-live = live laws l words views s id v b x sp at expected here low n-is

  pointer-named : IsNamed s.resident.places sp number q.page
  pointer-named = named laws l words views s id v b x sp at expected here low n-is

  page-homes : (k : Key) → in_span sp k ≡ true → home_of m.homes k ≡ snap_home d q.page k
  page-homes = homes laws l words views s id v b x sp at expected here low n-is

  never : is_never (slot_of d t).led ≡ true
  never = made_never laws l words views s id v b x sp at expected here low n-is t copy.made

  says : is_leaf_span sp ≡ true → LeafSays d q.page sp (page_words s.resident.pages number)
  says leaf = leaf_says l.decls s.resident d sp number q.page b.sound.declared b.sound.named pointer-named array (exact leaf)

  leaf-page : is_leaf_span sp ≡ true → page_of d t ≡ Leaf keys
  leaf-page leaf = copy.over.page ∙ leaf_shape sp leaf

  inner-page : is_leaf_span sp ≡ false → page_of d t ≡ Inner 64
  inner-page inner = copy.over.page ∙ inner_shape sp inner

  can : is_leaf_span sp ≡ true → CanMoveIn m d t sp q.page
  can leaf = record {
    homes = page-homes;
    places = λ i few.
        copy.records leaf i few
        ∙ ap (λ (y : Content). let z : Place = record { content = y; holder = Free } in z) (sym ((says leaf).says i few));
    nobody = λ k i home. true≢false (sym never ∙ home_known l s k (spot t i) b.sound.joint home);
  }

  moves-leaf : is_leaf_span sp ≡ true → mv ≡ leaf-moves
  moves-leaf leaf = ap (λ (z : Page). moves_to (leaf_home t 0 (leaf_keys z)) (leaf_keys z)) (leaf-page leaf)

  moves-inner : is_leaf_span sp ≡ false → mv ≡ []
  moves-inner inner = ap (λ (z : Page). moves_to (leaf_home t 0 (leaf_keys z)) (leaf_keys z)) (inner-page inner)

  -- the pointers of a copied interior page lead where the snapshot page's children are
  inner-copy : is_leaf_span sp ≡ false → IsInnerCopy d t sp q.page
  inner-copy inner = record {
    page = λ j. (pointer_of d (at_index t j)).page;
    parted = parted sp c.height c.exact inner;
    past = b.sound.joint.pages.table.snapshots_fixed.pointers x pointer-live;
    low = λ j less. low_name l.decls s.resident d b.sound.named (child_span sp j)
        (get_or (page_words s.resident.pages number) j 0) (pointer_of d (at_index t j)).page (copied-pointer inner j less).named;
    is = λ j less.
        let was = copied-pointer inner j less in
        pointer_as (pointer_of d (at_index t j)) (child_span sp j) was.span was.slot was.free;
    from = by_number number refl;
  }
    where
      copied-pointer : is_leaf_span sp ≡ false → (j : ℕ) → j < 64
          → IsCopiedPointer s.resident.places sp j (get_or (page_words s.resident.pages number) j 0) (pointer_of d (at_index t j))
      copied-pointer inner j less = copy.pointers inner j less

      pointer_as : (a : Pointer) (z : Span) → a.span ≡ z → a.slot ≡ None → a.holder ≡ Free
          → a ≡ record { span = z; slot = None; page = a.page; holder = Free }
      pointer_as a z span slot holder =
          ap (λ (y : Span). let r : Pointer = record { span = y; slot = a.slot; page = a.page; holder = a.holder } in r) span
          ∙ (ap (λ (y : Option ℕ). let r : Pointer = record { span = z; slot = y; page = a.page; holder = a.holder } in r) slot
          ∙ ap (λ (y : Holder). let r : Pointer = record { span = z; slot = None; page = a.page; holder = y } in r) holder)

      by_number : (k : ℕ) → number ≡ k
          → ((snap_of d q.page ≡ Missing) × ((j : ℕ) → j < 64 → (pointer_of d (at_index t j)).page ≡ 0))
          ⊎ ((kids : List (Span × ℕ)) × (snap_of d q.page ≡ Children sp kids) × (length kids ≡ 64)
          × ((j : ℕ) → j < 64 → slice_get kids j ≡ Some (child_span sp j, (pointer_of d (at_index t j)).page)))
      by_number zero none = inl (
        ap (snap_of d) (named_zero sp number q.page none pointer-named) ∙ b.sound.named.none,
        (λ j less.
            named_zero (child_span sp j) (get_or (page_words s.resident.pages number) j 0) (pointer_of d (at_index t j)).page
            (ap (λ k. get_or (page_words s.resident.pages k) j 0) none) (copied-pointer inner j less).named),
      )
        where
          named_zero : (z : Span) (k name : ℕ) → k ≡ 0 → IsNamed s.resident.places z k name → name ≡ 0
          named_zero z zero name is named = named.is
          named_zero z (suc k) name is named = absurd (omega (arith, is))
      by_number (suc k) some =
          let there = array_entry l.decls s.resident d sp number q.page b.sound.declared b.sound.named pointer-named array (omega (arith, some)) in
          let decl : Decl = Array sp.storage there.size in
          let words : List ℕ = page_words s.resident.pages number in
          inr (
            children s.resident.places decl words sp,
            ap (snap_of d) there.is
                ∙ (b.sound.named.says there.index (decl, place_for sp number) there.at
                ∙ inner_page_is s.resident.pages s.resident.places sp there.size number inner),
            children_length s.resident.places decl words sp,
            (λ j less.
                child_at s.resident.places there.size words sp j less
                ∙ ap (λ (z : ℕ). let o : Option (Span × ℕ) = Some (child_span sp j, z) in o)
                (named_same s.resident.places (child_span sp j) (get_or words j 0)
                (name_of s.resident.places decl (place_for (child_span sp j) (get_or words j 0)))
                (pointer_of d (at_index t j)).page
                (child_named l.decls s.resident d sp number q.page j b.sound.named there inner less)
                (copied-pointer inner j less).named)),
          )

  fits : (is_like d t (page_of d t) (snap_of d q.page) && stands_for d t q.page q.span (page_of d t)) ≡ true
  fits = elim (cases_Bool (is_leaf_span sp)) [
    | inl leaf ↦
        and_from (is_like d t (page_of d t) (snap_of d q.page)) (stands_for d t q.page q.span (page_of d t))
        (ap (λ (z : Page). is_like d t z (snap_of d q.page)) (leaf-page leaf) ∙ (says leaf).leaf)
        (ap (λ (z : Page). stands_for d t q.page q.span z) (leaf-page leaf)
        ∙ (ap (λ (z : Span). is_leaf_for d q.page z keys) pointer-there.span ∙ leaf_stands d q.page sp (exact leaf)))
    | inr inner ↦
        let zero-is = b.sound.named.none in
        let down = b.sound.joint.pages.published.down in
        and_from (is_like d t (page_of d t) (snap_of d q.page)) (stands_for d t q.page q.span (page_of d t))
        (ap (λ (z : Page). is_like d t z (snap_of d q.page)) (inner-page inner)
        ∙ inner_like d zero-is down t sp q.page (inner-copy inner))
        (ap (λ (z : Page). stands_for d t q.page q.span z) (inner-page inner)
        ∙ (ap (λ (z : Span). is_inner_for d t q.page z 64) pointer-there.span
        ∙ inner_stands d zero-is down t sp q.page (inner-copy inner)))
  ]

  moving : may_move p m (s.seats p) mv ≡ true
  moving = elim (cases_Bool (is_leaf_span sp)) [
    | inl leaf ↦
        ap (may_move p m (s.seats p)) (moves-leaf leaf)
        ∙ may_move_in p (can_begin (s.seats p).stage) m d t sp q.page (exact leaf) (can leaf)
    | inr inner ↦ ap (may_move p m (s.seats p)) (moves-inner inner)
  ]

  in_leaf : is_leaf_span sp ≡ true → (i : ℕ) → i < 32 → in_span sp (key_of sp.storage (sp.low + i)) ≡ true
  in_leaf leaf i few =
      let end = exact leaf in
      and_from (eqb sp.storage sp.storage) (leb sp.low (sp.low + i) && leb (sp.low + i) sp.high) (eq-eqb sp.storage sp.storage refl)
      (and_from (leb sp.low (sp.low + i)) (leb (sp.low + i) sp.high) (grind (arith, nat_tests)) (grind (arith, nat_tests)))

  unleft : (z : Spot) → is_left mv m.homes z ≡ false
  unleft z = elim (cases_Bool (is_leaf_span sp)) [
    | inl leaf ↦
        ap (λ (list : List Move). is_left list m.homes z) (moves-leaf leaf)
        ∙ none_left to m.homes sp.storage sp.low 32 z
        (λ i few. ap spot_of (page-homes (key_of sp.storage (sp.low + i)) (in_leaf leaf i few)) ∙ snap_unspotted d q.page (key_of sp.storage (sp.low + i)))
    | inr inner ↦ ap (λ (list : List Move). is_left list m.homes z) (moves-inner inner)
  ]

  none_led : (z : Pointer) (u : ℕ) → z.slot ≡ None → z.slot ≡ Some u → ⊥
  none_led z u none some = absurd (cc)

  -- none of the copy's own pointers leads to a slot
  copy_leads : (j u : ℕ) → has_pointer (page_of d t) j ≡ true → (pointer_of d (at_index t j)).slot ≡ Some u → ⊥
  copy_leads j u has leads = elim (cases_Bool (is_leaf_span sp)) [
    | inl leaf ↦ true≢false (sym has ∙ ap (λ (z : Page). has_pointer z j) (leaf-page leaf))
    | inr inner ↦
        let there : ltb j 64 ≡ true = sym (ap (λ (z : Page). has_pointer z j) (inner-page inner)) ∙ has in
        none_led (pointer_of d (at_index t j)) u (copy.pointers inner j (grind (arith, nat_tests))).slot leads
  ]

  -- a record of the copy has no lock
  low_word : (i : ℕ) → i < 32 → is_leaf_span sp ≡ true → get_or words (page_at l.slots t (2 * i)) 0 < 2 ^ 60
  low_word i less leaf =
      let shown = subst (ShowsPage s.resident.places words l.slots t (place_of m.places) d) (leaf-page leaf)
      (b.sound.shown.pages t copy.slot (ap is_shown (by_published (slot_of d t).state copy.state)) untreed) in
      let many : i < length keys = let count = length_keys sp.storage sp.low 32 in omega arith in
      let record-is = shown.1 i many in
      let word = record-is.word in
      let none : lock_field (place_of m.places (spot t i)).holder ≡ 0 =
      ap (λ (z : Place). lock_field z.holder) (copy.records leaf i less) in
      let draw = record-is.small.draw in
      let epoch = record-is.small.epoch in omega arith

  leaf_there : (span : Span) → is_array l.decls span.storage ≡ true → is_leaf_span span ≡ true
      → IsLaidOut (decl_of l.decls span.storage) s.trees d t span → is_leaf_span sp ≡ true
  leaf_there span kind leaf over = elim (cases_Bool (is_leaf_span sp)) [
    | inl is ↦ is
    | inr inner ↦
        let array = array_over (decl_of l.decls span.storage) s.trees d t span kind over in
        let no : Leaf (keys_from span.storage span.low 32) ≡ Inner 64 =
        sym (array.1.page ∙ leaf_shape span leaf) ∙ inner-page inner in absurd (cc)
  ]

  pub copy_installs : Installable laws l words views s id v b x sp at expected here low n-is t
  copy_installs = record {
    slot = copy.slot;
    made = copy.made;
    state = copy.state;
    laid = over_array (decl_of l.decls sp.storage) s.trees d t sp array untreed copy.over;
    fits = fits;
    alone = copy_leads;
    moving = moving;
    unleft = unleft;
    low_words = λ span i less kind leaf over. low_word i less (leaf_there span kind leaf over);
  }
