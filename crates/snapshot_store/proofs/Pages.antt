-- Lists of pages: their numbers, and their bytes.
use Rattle.std.proofs.Common.{◌≡◌, ℕ, ◌+◌, ◌-◌, ◌*◌, ◌<◌, zero, suc, List, [], ◌∷◌, ◌++◌, length, get_or, take, drop, refl, sym, ap, subst, ◌∙◌, arith}
use Rattle.std.specs.List.{AllByRecursion}
use Rattle.std.proofs.lemmas.List.{length-append, length_push, append-nil}
use Rattle.std.proofs.Math.Seq.{take-add}
use Rattle.std.proofs.lemmas.Grind.{flat_map-append}
use Rattle.lists.specs.Fronts.{IsFront}
use Rattle.wire_form.specs.declared.page.Page.{Page}
use Rattle.snapshot_store.specs.Store.{bytes_of_page, bytes_of_pages, NumberedFrom, IsWhole}

-- the number of the page at an index
pub numbered_at : (first : ℕ) (pages : List Page) (i : ℕ) (d : Page) → NumberedFrom first pages → i < length pages → (get_or pages i d).number ≡ first + i
numbered_at first [] i d all h = absurd (omega (arith, h))
numbered_at first (p ∷ ps) zero d all h = all.0 ∙ omega arith
numbered_at first (p ∷ ps) (suc i) d all h = numbered_at (first + 1) ps i d all.1 (omega (arith, h)) ∙ omega arith

-- pages, and more that go on
pub numbered_append : (first next : ℕ) (a b : List Page) → next ≡ first + length a → NumberedFrom first a → NumberedFrom next b → NumberedFrom first (a ++ b)
numbered_append first next [] b e all more = subst (λ (n : ℕ). NumberedFrom n b) (omega (arith, e)) more
numbered_append first next (p ∷ ps) b e all more = (all.0, numbered_append (first + 1) next ps b (omega (arith, e)) all.1 more)

-- the bytes of whole pages
pub length-bytes_of_pages : (pages : List Page) → AllByRecursion IsWhole pages → length (bytes_of_pages pages) ≡ 512 * length pages
length-bytes_of_pages [] all = refl
length-bytes_of_pages (p ∷ ps) all = omega (arith, length-append (bytes_of_page p) (bytes_of_pages ps), all.0, length-bytes_of_pages ps all.1)

pub bytes_of_pages-append : (a b : List Page) → bytes_of_pages (a ++ b) ≡ bytes_of_pages a ++ bytes_of_pages b
bytes_of_pages-append a b = flat_map-append bytes_of_page a b

pub bytes_of_pages-push : (pages : List Page) (p : Page) → bytes_of_pages (pages ++ p ∷ []) ≡ bytes_of_pages pages ++ bytes_of_page p
bytes_of_pages-push pages p = bytes_of_pages-append pages (p ∷ []) ∙ ap (λ l. bytes_of_pages pages ++ l) (append-nil (bytes_of_page p))

pub numbered_push : (first : ℕ) (pages : List Page) (p : Page) → NumberedFrom first pages → p.number ≡ first + length pages → NumberedFrom first (pages ++ p ∷ [])
numbered_push first pages p all is = numbered_append first (first + length pages) pages (p ∷ []) refl all (is, tt)

pub length_pushed : (pages : List Page) (p : Page) (n : ℕ) → length pages ≡ n → length (pages ++ p ∷ []) ≡ n + 1
length_pushed pages p n is = length_push pages p ∙ omega (arith, is)

-- one more page was read
pub read_push : (i : ℕ) (pages : List Page) (p : Page) (file : List ℕ) → bytes_of_pages pages ≡ take (512 * i) file
    → bytes_of_page p ≡ take 512 (drop (512 * (i + 1 - 1)) file) → bytes_of_pages (pages ++ p ∷ []) ≡ take (512 * (i + 1)) file
read_push i pages p file front next =
    let here : i + 1 - 1 ≡ i = omega arith in
    let more : 512 * (i + 1) ≡ 512 * i + 512 = omega arith in
    rw (more, take-add (512 * i) 512 file, bytes_of_pages-push pages p, front, next, here) refl

-- what was read of a device is what it begins with
pub front_of_read : (count : ℕ) (pages : List Page) (file : List ℕ) → AllByRecursion IsWhole pages → length pages ≡ count
    → bytes_of_pages pages ≡ take (512 * count) file → IsFront (bytes_of_pages pages) file
front_of_read count pages file whole size bytes =
    let long : length (bytes_of_pages pages) ≡ 512 * count = omega (arith, length-bytes_of_pages pages whole, size) in
    ap (λ n. take n file) long ∙ sym bytes

-- the page at an index is whole
pub whole_at : (pages : List Page) (i : ℕ) (d : Page) → AllByRecursion IsWhole pages → i < length pages → IsWhole (get_or pages i d)
whole_at [] i d all h = absurd (omega (arith, h))
whole_at (p ∷ ps) zero d all h = all.0
whole_at (p ∷ ps) (suc i) d all h = whole_at ps i d all.1 (omega (arith, h))
