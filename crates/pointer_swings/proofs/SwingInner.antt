-- An interior page whose pointers the pass has shut is swung from: it may be stood for by the snapshot page that leads
-- where they lead.
use Rattle.std.proofs.Common.{◌≡◌, ◌⊎◌, inl, inr, ℕ, zero, suc, ◌+◌, ◌<◌, ◌≤◌, ◌^◌, Bool, true, false, eqb, eq-eqb}
use Rattle.std.proofs.Common.{ltb, List, [], ◌∷◌, length, get_or, refl, sym, ap, ◌∙◌, subst, arith, Option, Some, None}
use Rattle.std.specs.Prelude.{◌&&◌, map, is_none}
use Rattle.std.specs.List.{slice_get}
use Rattle.std.specs.Option.{option_map_or}
use Rattle.std.proofs.lemmas.Bool.{and_from, and_parts, cond-true, cond-false}
use Rattle.std.proofs.lemmas.Bool.Decides.{nat_tests}
use Rattle.lists.specs.Elements.{at_below}
use Rattle.serial_model.specs.declared.decl.Decl.{Decl}
use Rattle.serial_model.specs.declared.decl.Decl.TheVariants.{Array}
use Rattle.homes.specs.declared.places.At.{At}
use Rattle.homes.specs.declared.places.Holder.TheVariants.{Free, Held, Dead}
use Rattle.homes.specs.declared.places.Span.{Span}
use Rattle.homes.specs.Homes.{look, same_at, same_span, holder_is}
use Rattle.wire_form.specs.Words.{slot_field}
use Rattle.snapshot_store.specs.Places.{page as page_words}
use Rattle.drop_core.specs.declared.table.Page.{Page}
use Rattle.drop_core.specs.declared.table.Pointer.{Pointer}
use Rattle.drop_core.specs.declared.table.SnapPage.{SnapPage}
use Rattle.drop_core.specs.declared.table.SnapPage.TheVariants.{Missing, Entries, Children}
use Rattle.drop_core.specs.declared.table.Table.{Table}
use Rattle.drop_core.specs.Event.{all_below, child, has_children, is_child_at, is_same_at, is_same_child, is_tile, keys_pass}
use Rattle.drop_core.specs.Table.{at_index, has_pointer, no_pointer, pointer_of, snap_of}
use Rattle.engine_rule.specs.Reading.{name_of}
use Rattle.engine_pages.specs.declared.layout.Layout.{Layout}
use Rattle.engine_pages.specs.declared.view.View.{View}
use Rattle.engine_pages.specs.Pages.{child_span, is_array, is_leaf_span, IsOver}
use Rattle.engine_pages.specs.Resident.{IsNamed, place_for}
use Rattle.engine_pages.specs.Rule.{Shared, IsShut}
use Rattle.engine_pages.specs.Views.{seat_number}
use Rattle.engine_pages.proofs.Named.{page_longer}
use Rattle.engine_pages.proofs.PagesStay.{inner_shape}
use Rattle.engine_pages.proofs.PointerLaws.{named_entry}
use Rattle.engine_pages.proofs.Turns.{Begins}
use Rattle.dual_pointer.proofs.InnerStands.{IsInnerCopy, IsParted, inner_like, inner_stands}
use Rattle.dual_pointer.proofs.Names.{array_entry, named_same}
use Rattle.dual_pointer.proofs.SnapWords.{child_at, child_named, children, children_length, inner_page_is}
use Rattle.pointer_swings.specs.Shuts.{shut_of}

-- ---- a table with open pointers

-- the pointer, as nobody's
abbrev pub freed : At × Pointer → At × Pointer
freed e = (e.0, record e.1 { holder = Free })

-- the same table with all pointers open
abbrev pub open_table : Table → Table
open_table d = record d { pointers = map freed d.pointers }

pub freed-look : (ps : List (At × Pointer)) (y : At) (p : ℕ) → (look same_at no_pointer ps y).holder ≡ Held p
    → look same_at no_pointer (map freed ps) y ≡ record (look same_at no_pointer ps y) { holder = Free }
freed-look [] y p held = let no : Dead ≡ Held p = held in absurd (cc)
freed-look (e ∷ more) y p held = by_test (same_at e.0 y) refl (freed-look more y p)
  where
    by_test : (c : Bool) → same_at e.0 y ≡ c
        → ((look same_at no_pointer more y).holder ≡ Held p
        → look same_at no_pointer (map freed more) y ≡ record (look same_at no_pointer more y) { holder = Free })
        → look same_at no_pointer (map freed (e ∷ more)) y ≡ record (look same_at no_pointer (e ∷ more) y) { holder = Free }
    by_test true hit rest =
        cond-true (same_at e.0 y) (record e.1 { holder = Free }) (look same_at no_pointer (map freed more) y) hit
        ∙ ap (λ (z : Pointer). let f : Pointer = record z { holder = Free } in f)
        (sym (cond-true (same_at e.0 y) e.1 (look same_at no_pointer more y) hit))
    by_test false miss rest =
        let one : look same_at no_pointer (e ∷ more) y ≡ look same_at no_pointer more y =
        cond-false (same_at e.0 y) e.1 (look same_at no_pointer more y) miss in
        cond-false (same_at e.0 y) (record e.1 { holder = Free }) (look same_at no_pointer (map freed more) y) miss
        ∙ (rest (ap (λ (z : Pointer). z.holder) (sym one) ∙ held)
        ∙ ap (λ (z : Pointer). let f : Pointer = record z { holder = Free } in f) (sym one))

-- tests that agree below a number
pub below_same : (n : ℕ) (f g : ℕ → Bool) → ((j : ℕ) → j < n → f j ≡ g j) → all_below n f ≡ all_below n g
below_same zero f g same = refl
below_same (suc n) f g same =
    ap (λ (c : Bool). c && all_below n f) (same n (omega arith))
    ∙ ap (λ (c : Bool). g n && c) (below_same n f g (λ j less. same j (omega arith)))

pub all_true : (n : ℕ) (f : ℕ → Bool) → ((j : ℕ) → j < n → f j ≡ true) → all_below n f ≡ true
all_true zero f each = refl
all_true (suc n) f each = and_from (f n) (all_below n f) (each n (omega arith)) (all_true n f (λ j less. each j (omega arith)))

-- ---- the page

module _ (l : Layout) (words : List ℕ) (views : List View) (s : Shared) (id : ℕ) (v : View)
    (b : Begins l words views s id v) (t : ℕ) (sp : Span) (number name : ℕ) (over : IsOver s.table t sp)
    (inner : is_leaf_span sp ≡ false) (parts : IsParted sp) (there : number ≤ length v.pages)
    (named : IsNamed s.resident.places sp number name) (array : is_array l.decls sp.storage ≡ true)
    (most : name ≤ s.table.published)
    (shut : (j : ℕ) → j < 64
    → IsShut s.table s.resident (seat_number v.role) v.grip.holds (shut_of (at_index t j) (get_or (page_words v.pages number) j 0)))
    (low : (j : ℕ) → j < 64 → get_or (page_words v.pages number) j 0 < 2 ^ 32) where
  abbrev d : Table
  d = s.table

  abbrev p : ℕ
  p = seat_number v.role

  abbrev page_at : ℕ → ℕ
  page_at j = (pointer_of d (at_index t j)).page

  words-same : page_words s.resident.pages number ≡ page_words v.pages number
  words-same = page_longer v.pages s.resident.pages number b.pages.resident there

  span-is : (j : ℕ) → j < 64 → (pointer_of d (at_index t j)).span ≡ child_span sp j
  span-is j less =
      over.spans j (ap (λ (z : Page). has_pointer z j) (inner_shape sp inner) ∙ (let few = less in grind (arith, nat_tests)))

  slotless : (j : ℕ) → j < 64 → (pointer_of d (at_index t j)).slot ≡ None
  slotless j less = by_slot (pointer_of d (at_index t j)).slot refl
    where
      by_slot : (o : Option ℕ) → (pointer_of d (at_index t j)).slot ≡ o → o ≡ None
      by_slot None is = refl
      by_slot (Some u) is =
          let z = shut j less in
          let word = z.word in
          let few = low j less in
          let field : slot_field (pointer_of d (at_index t j)).slot ≡ u + 1 = ap slot_field is in
          absurd (omega (arith, word, few, field))

  child-named : (j : ℕ) → j < 64 → IsNamed s.resident.places (child_span sp j) (get_or (page_words s.resident.pages number) j 0) (page_at j)
  child-named j less =
      let z = shut j less in
      let word = z.word in
      let none : slot_field (pointer_of d (at_index t j)).slot ≡ 0 = ap slot_field (slotless j less) in
      let same : z.number ≡ get_or (page_words s.resident.pages number) j 0 =
      (let plain : z.number ≡ get_or (page_words v.pages number) j 0 = omega (arith, word, none) in plain)
      ∙ ap (λ (ws : List ℕ). get_or ws j 0) (sym words-same) in
      subst (λ n. IsNamed s.resident.places (child_span sp j) n (page_at j)) same
      (subst (λ (k : Span). IsNamed s.resident.places k z.number (page_at j)) (span-is j less) z.named)

  low_name : (z : Span) (k other : ℕ) → IsNamed s.resident.places z k other → other ≤ d.published
  low_name z zero other is = let none : other ≡ 0 = is.is in omega arith
  low_name z (suc k) other is =
      let e = named_entry s.resident.places z (suc k) other is (omega arith) in
      let less = at_below s.resident.places e.index (e.decl, place_for z (suc k)) e.at in
      let at-e = e.is in
      let count = b.sound.named.count in omega arith

  named_zero : (z : Span) (k other : ℕ) → k ≡ 0 → IsNamed s.resident.places z k other → other ≡ 0
  named_zero z zero other is h = h.is
  named_zero z (suc k) other is h = absurd (omega (arith, is))

  pointer_as : (a : Pointer) (z : Span) → a.span ≡ z → a.slot ≡ None
      → (let f : Pointer = record a { holder = Free } in f) ≡ record { span = z; slot = None; page = a.page; holder = Free }
  pointer_as a z span slot =
      ap (λ (y : Span). let f : Pointer = record { span = y; slot = a.slot; page = a.page; holder = Free } in f) span
      ∙ ap (λ (y : Option ℕ). let f : Pointer = record { span = z; slot = y; page = a.page; holder = Free } in f) slot

  freed-is : (j : ℕ) → j < 64 → child (open_table d) t j ≡ record (pointer_of d (at_index t j)) { holder = Free }
  freed-is j less = freed-look d.pointers (at_index t j) p (shut j less).shut

  copy : IsInnerCopy (open_table d) t sp name
  copy = record {
    page = page_at;
    parted = parts;
    past = most;
    low = λ j less. low_name (child_span sp j) (get_or (page_words s.resident.pages number) j 0) (page_at j) (child-named j less);
    is = λ j less. freed-is j less ∙ pointer_as (pointer_of d (at_index t j)) (child_span sp j) (span-is j less) (slotless j less);
    from = by_number number refl;
  }
    where
      by_number : (k : ℕ) → number ≡ k
          → ((snap_of d name ≡ Missing) × ((j : ℕ) → j < 64 → page_at j ≡ 0))
          ⊎ ((kids : List (Span × ℕ)) × (snap_of d name ≡ Children sp kids) × (length kids ≡ 64)
          × ((j : ℕ) → j < 64 → slice_get kids j ≡ Some (child_span sp j, page_at j)))
      by_number zero none = inl (
        ap (snap_of d) (named_zero sp number name none named) ∙ b.sound.named.none,
        (λ j less.
            named_zero (child_span sp j) (get_or (page_words s.resident.pages number) j 0) (page_at j)
            (ap (λ k. get_or (page_words s.resident.pages k) j 0) none) (child-named j less)),
      )
      by_number (suc k) some =
          let entry = array_entry l.decls s.resident d sp number name b.sound.declared b.sound.named named array (omega (arith, some)) in
          let decl : Decl = Array sp.storage entry.size in
          let ws : List ℕ = page_words s.resident.pages number in
          inr (
            children s.resident.places decl ws sp,
            ap (snap_of d) entry.is
                ∙ (b.sound.named.says entry.index (decl, place_for sp number) entry.at
                ∙ inner_page_is s.resident.pages s.resident.places sp entry.size number inner),
            children_length s.resident.places decl ws sp,
            (λ j less.
                child_at s.resident.places entry.size ws sp j less
                ∙ ap (λ (z : ℕ). let o : Option (Span × ℕ) = Some (child_span sp j, z) in o)
                (named_same s.resident.places (child_span sp j) (get_or ws j 0)
                (name_of s.resident.places decl (place_for (child_span sp j) (get_or ws j 0))) (page_at j)
                (child_named l.decls s.resident d sp number name j b.sound.named entry inner less) (child-named j less))),
          )

  -- ---- the tests, which don't ask who has shut the pointers

  same_children : all_below 64 (is_same_child d t name) ≡ true
  same_children =
      let all = inner_stands (open_table d) b.sound.named.none b.sound.joint.pages.published.down t sp name copy in
      let one = and_parts (ltb 0 64) _ all in
      let two = and_parts (all_below 64 (is_tile (open_table d) t sp 64)) _ one.1 in
      let three = and_parts (all_below 64 (is_same_child (open_table d) t name)) _ two.1 in
      below_same 64 (is_same_child d t name) (is_same_child (open_table d) t name)
      (λ j less. sym (ap (λ (z : Pointer). is_none z.slot && keys_pass (is_same_at d z.span z.page name) d.snaps) (freed-is j less)))
      ∙ three.0

  pub shut_stood : (all_below 64 (is_same_child d t name) && all_below 64 (λ j. holder_is p (child d t j).holder)) ≡ true
  shut_stood =
      and_from (all_below 64 (is_same_child d t name)) (all_below 64 (λ j. holder_is p (child d t j).holder)) same_children
      (all_true 64 (λ j. holder_is p (child d t j).holder) (λ j less. ap (holder_is p) (shut j less).shut ∙ eq-eqb p p refl))

  pub shut_like : has_children d t 64 (snap_of d name) ≡ true
  shut_like =
      same_like (snap_of d name)
      ∙ inner_like (open_table d) b.sound.named.none b.sound.joint.pages.published.down t sp name copy
    where
      same_like : (z : SnapPage) → has_children d t 64 z ≡ has_children (open_table d) t 64 z
      same_like Missing =
          below_same 64 (λ j. eqb (child d t j).page 0) (λ j. eqb (child (open_table d) t j).page 0)
          (λ j less. sym (ap (λ (z : Pointer). eqb z.page 0) (freed-is j less)))
      same_like (Entries span entries) = refl
      same_like (Children span kids) =
          ap (λ (c : Bool). eqb (length kids) 64 && c)
          (below_same 64 (is_child_at d t kids) (is_child_at (open_table d) t kids)
          (λ j less. sym (ap (λ (z : Pointer). option_map_or (λ e. same_span z.span e.0 && eqb z.page e.1) (slice_get kids j) false) (freed-is j less))))
