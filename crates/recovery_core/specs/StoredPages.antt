-- Pages that were read from a device stand there.
use Rattle.std.proofs.Common.{◌≡◌, ℕ, ◌+◌, ◌-◌, ◌*◌, ◌^◌, ◌<◌, ◌≤◌, ◌++◌, zero, suc, List, [], ◌∷◌, length}
use Rattle.std.proofs.Common.{take, drop, get_or, refl, sym, ap, ◌∙◌, arith}
use Rattle.std.specs.List.{AllByRecursion}
use Rattle.std.proofs.lemmas.List.{length-map, length-append}
use Rattle.std.proofs.Math.Seq.{take-append_seam, drop-append-add}
use Rattle.lists.specs.Fronts.{IsFront}
use Rattle.wire_form.specs.Bytes.{bytes_of}
use Rattle.wire_form.specs.Device.{HasWords}
use Rattle.wire_form.specs.declared.page.Page.{Page}
use Rattle.snapshot_store.specs.Places.{page}
use Rattle.snapshot_store.specs.Content.{words_of}
use Rattle.snapshot_store.specs.Store.{IsWhole, bytes_of_page, bytes_of_pages}
use Rattle.recovery_core.specs.Catalogues.{HasPages}
use Rattle.recovery_core.specs.RecoverableLaws.{page_in_front}

-- whole pages have 512 bytes each
pub whole_size : (pages : List Page) → AllByRecursion IsWhole pages → length (bytes_of_pages pages)
    ≡ 512 * length pages
whole_size [] whole = refl
whole_size (p ∷ ps) whole =
    omega (arith, length-append (bytes_of_page p) (bytes_of_pages ps), whole.0, whole_size ps whole.1)

-- so each begins behind those before it
bytes_at : (pages : List Page) (k : ℕ) → AllByRecursion IsWhole pages → k < length pages
    → take 512 (drop (512 * k) (bytes_of_pages pages)) ≡ bytes_of (get_or (words_of pages) k [])
bytes_at [] k whole below = absurd (omega (arith, below))
bytes_at (p ∷ ps) zero whole below =
    ap (λ n. take n (bytes_of_page p ++ bytes_of_pages ps)) (sym whole.0)
    ∙ take-append_seam (bytes_of_page p) (bytes_of_pages ps)
bytes_at (p ∷ ps) (suc k) whole below =
    let past : 512 * suc k ≡ length (bytes_of_page p) + 512 * k = omega (arith, whole.0) in
    ap (take 512) (ap (λ n. drop n (bytes_of_page p ++ bytes_of_pages ps)) past
    ∙ drop-append-add (bytes_of_page p) (bytes_of_pages ps) (512 * k))
    ∙ bytes_at ps k whole.1 (omega (arith, below))

-- the words of each have 64 bits
fit_at : (words : List (List ℕ)) (k : ℕ) → AllByRecursion (AllByRecursion (λ w. w < 2 ^ 64)) words → k < length words
    → AllByRecursion (λ w. w < 2 ^ 64) (get_or words k [])
fit_at [] k fit below = absurd (omega (arith, below))
fit_at (w ∷ ws) zero fit below = fit.0
fit_at (w ∷ ws) (suc k) fit below = fit_at ws k fit.1 (omega (arith, below))

-- each page stands among its bytes
has_words : (pages : List Page) (n : ℕ) → AllByRecursion IsWhole pages
    → AllByRecursion (AllByRecursion (λ w. w < 2 ^ 64)) (words_of pages)
    → 1 ≤ n → n ≤ length pages → HasWords (bytes_of_pages pages) n (page (words_of pages) n)
has_words pages zero whole fit first last = absurd (omega (arith, first))
has_words pages (suc k) whole fit first last =
    let index : suc k - 1 ≡ k = omega arith in
    record {
      first = first;
      inside = omega (arith, whole_size pages whole, last);
      fit = fit_at (words_of pages) k fit (omega (arith, last, length-map pages Page.words));
      spelled = rw index (bytes_at pages k whole (omega (arith, last)));
    }

-- and on the device that begins with these
pub has_pages : (pages : List Page) (count : ℕ) (file : List ℕ) → AllByRecursion IsWhole pages
    → AllByRecursion (AllByRecursion (λ w. w < 2 ^ 64)) (words_of pages) → length pages ≡ count
    → bytes_of_pages pages ≡ take (512 * count) file → HasPages file count (words_of pages)
has_pages pages count file whole fit size read =
    let bytes : length (bytes_of_pages pages) ≡ 512 * count = whole_size pages whole ∙ ap (λ k. 512 * k) size in
    let front : IsFront (bytes_of_pages pages) file = ap (λ k. take k file) bytes ∙ sym read in
    record {
      count_is = length-map pages Page.words ∙ size;
      each = λ number first last.
          page_in_front (bytes_of_pages pages) file number _ front
          (has_words pages number whole fit first (omega (arith, last, size)));
    }
