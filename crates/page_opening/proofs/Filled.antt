-- Pages that are put one after another.
use Rattle.std.proofs.Common.{◌≡◌, ℕ, zero, suc, ◌+◌, ◌*◌, ◌<◌, ◌≤◌, Bool, true, false, List, [], ◌∷◌, length, get_or}
use Rattle.std.proofs.Common.{refl, ap, ◌∙◌, subst, arith}
use Rattle.std.specs.Prelude.{nat_lt, slice_index_or}
use Rattle.std.proofs.lemmas.Bool.Decides.{nat_tests}
use Rattle.wire_form.specs.declared.page.Page.{Page}
use Rattle.snapshot_store.specs.Content.{words_of as words_of_pages}
use Rattle.page_opening.specs.Making.{ArePaged, ArePut}

-- a page's words, as they are read
pub page_read : (pages : List Page) (i : ℕ) (d : Page) → i < length pages
    → Page.words (get_or pages i d) ≡ slice_index_or (words_of_pages pages) i []
page_read [] i d less = absurd (omega (arith, less))
page_read (p ∷ pages) zero d less = refl
page_read (p ∷ pages) (suc i) d less = page_read pages i d (omega (arith, less))

-- one page more
pub paged_next : (old mid new : List ℕ) (at : ℕ) (pages : List Page) (i : ℕ) (page : List ℕ) → ArePaged old mid at pages i
    → ArePut mid new (at + 64 * i) page 64 → page ≡ slice_index_or (words_of_pages pages) i []
    → ArePaged old new at pages (i + 1)
paged_next old mid new at pages i page h put is = record {
  long = put.long ∙ h.long;
  low = λ j low. put.low j (omega arith) ∙ h.low j low;
  here = λ n k less few. by_test n k less few (nat_lt n i) refl;
}
  where
    by_test : (n k : ℕ) → n < i + 1 → k < 64 → (b : Bool) → nat_lt n i ≡ b
        → get_or new ((at + 64 * n) + k) 0 ≡ get_or (slice_index_or (words_of_pages pages) n []) k 0
    by_test n k less few true before =
        let below : n < i = grind (arith, nat_tests) in
        put.low ((at + 64 * n) + k) (omega arith) ∙ h.here n k below few
    by_test n k less few false last =
        let most : i ≤ n = grind (arith, nat_tests) in
        let same : i ≡ n = omega arith in
        subst (λ y. get_or new ((at + 64 * y) + k) 0 ≡ get_or (slice_index_or (words_of_pages pages) y []) k 0) same
        (put.here k few ∙ ap (λ (p : List ℕ). get_or p k 0) is)
