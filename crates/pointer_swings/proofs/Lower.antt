-- A page to which an array's interior page leads has a lower number.
use Rattle.std.proofs.Common.{◌≡◌, ℕ, zero, suc, ◌+◌, ◌-◌, ◌<◌, ◌≤◌, false, List, [], ◌∷◌, ◌++◌, length, get_or, refl, sym, subst, arith}
use Rattle.std.specs.Prelude.{replicate}
use Rattle.std.specs.List.{AllByRecursion}
use Rattle.std.proofs.lemmas.Bool.{lt-leb}
use Rattle.serial_model.specs.declared.decl.Decl.{Decl}
use Rattle.serial_model.specs.declared.decl.Decl.TheVariants.{Array}
use Rattle.homes.specs.declared.places.Span.{Span}
use Rattle.wire_form.specs.Pages.{IsChild}
use Rattle.snapshot_store.specs.declared.place.PagePlace.{PagePlace}
use Rattle.snapshot_store.specs.ArrayPages.{IsArrayPage, leaf_room}
use Rattle.snapshot_store.specs.Content.{IsPageOf, format_of}
use Rattle.snapshot_store.specs.Places.{StandsTo, page as page_words}
use Rattle.drop_core.specs.declared.table.Table.{Table}
use Rattle.engine_pages.specs.Pages.{is_leaf_span}
use Rattle.engine_pages.specs.Resident.{ArePages, Published, place_for}
use Rattle.dual_pointer.proofs.Names.{IsArrayEntry}
use Rattle.dual_pointer.proofs.SnapWords.{wide_range}

zeros_at : (n i : ℕ) → ◌≡◌ {A = ℕ} (get_or (replicate n 0) i 0) 0
zeros_at zero i = refl
zeros_at (suc n) zero = refl
zeros_at (suc n) (suc i) = zeros_at n i

pointer_at : (number : ℕ) (pointers : List ℕ) (n i : ℕ) → AllByRecursion (IsChild 0 number) pointers → 0 < number
    → get_or (pointers ++ replicate n 0) i 0 < number
pointer_at number [] n i all some = omega (arith, zeros_at n i, some)
pointer_at number (p ∷ ps) n zero all some = all.0.1
pointer_at number (p ∷ ps) n (suc i) all some = pointer_at number ps n i all.1 some

-- in a page over more keys than a leaf's
pointer_below : (size : ℕ) (p : PagePlace) (words : List ℕ) (j : ℕ) → 0 < p.number → 32 ≤ p.high - p.low
    → IsArrayPage size p words → get_or words j 0 < p.number
unfolding leaf_room
pointer_below size p words j some wide right =
    let kind = rw (lt-leb (p.high + 1 - p.low) 32 (omega arith)) at (right.page some) in
    subst (λ (ws : List ℕ). get_or ws j 0 < p.number) (sym kind.2)
    (pointer_at p.number kind.0 (64 - length kind.0) j kind.1.each some)

stands_below : (pages : List (List ℕ)) (sp : Span) (size number j depth : ℕ) → is_leaf_span sp ≡ false → 0 < number
    → StandsTo (format_of (Array sp.storage size)) (IsPageOf (Array sp.storage size)) pages depth (place_for sp number)
    → get_or (page_words pages number) j 0 < number
stands_below pages sp size number j zero inner some so = absurd so
stands_below pages sp size number j (suc depth) inner some so =
    pointer_below size (place_for sp number) (page_words pages number) j some (wide_range sp inner) so.right

pub child_lower : (decls : List Decl) (r : Published) (d : Table) (sp : Span) (number name j : ℕ) → ArePages decls r d
    → (there : IsArrayEntry r.places sp number name) → is_leaf_span sp ≡ false → 0 < number
    → get_or (page_words r.pages number) j 0 < number
child_lower decls r d sp number name j h there inner some =
    let stands = h.stand there.index (Array sp.storage there.size, place_for sp number) there.at in
    stands_below r.pages sp there.size number j stands.depth inner some stands.stands
