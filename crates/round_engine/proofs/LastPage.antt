-- The last page of a store, as its words stand.
use Rattle.std.proofs.Common.{◌≡◌, ◌∙◌, ◌<◌, ◌-◌, ap, arith, length, List, [], ◌∷◌, Some, ℕ, zero, suc, sym, subst, get_or}
use Rattle.std.specs.Prelude.{◌^◌, slice_get}
use Rattle.std.proofs.lemmas.Option.{same_Some}
use Rattle.wire_form.specs.Pages.{catalogue_words, Contents}
use Rattle.wire_form.specs.declared.page.Page.{Page}
use Rattle.snapshot_store.specs.Content.{CatalogueAt, words_of}
use Rattle.snapshot_store.specs.Places.{page}

at_words : (pages : List Page) (i : ℕ) (p : Page) → slice_get pages i ≡ Some p → get_or (words_of pages) i [] ≡ p.words
at_words [] i p at = absurd (let no = at in cc)
at_words (q ∷ pages) zero p at = ap (λ (x : Page). x.words) (same_Some q p at)
at_words (q ∷ pages) (suc i) p at = at_words pages i p at

last_at : (pages : List Page) (p : Page) (n : ℕ) → slice_get pages (n - 1) ≡ Some p → n ≡ length pages
    → page (words_of pages) n ≡ p.words
last_at [] p n at many = absurd (let no = at in cc)
last_at (q ∷ pages) p zero at many = absurd (omega (arith, many))
last_at (q ∷ pages) p (suc n) at many =
    let same : suc n - 1 ≡ n = omega arith in
    at_words (q ∷ pages) n p (subst (λ k. slice_get (q ∷ pages) k ≡ Some p) same at)

pub last_words : (pages : List Page) (count : ℕ) (p : Page) (contents : Contents) → count ≡ length pages
    → slice_get pages (count - 1) ≡ Some p → CatalogueAt (words_of pages) (length pages) contents
    → p.words ≡ catalogue_words contents
last_words pages count p contents many at here =
    sym (last_at pages p count at many) ∙ ap (λ n. page (words_of pages) n) many ∙ here.words

pub small_epoch : (n : ℕ) (contents : Contents) {pages : List (List ℕ)} {number : ℕ} → CatalogueAt pages number contents
    → n ≡ contents.epoch → n < 2 ^ 32
small_epoch n contents here is = omega (arith, here.catalogue.epoch, is)
