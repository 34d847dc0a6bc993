-- The leaf of an array that stands in a snapshot has records: so a copy of it may be published with no look at each word.
use Rattle.std.proofs.Common.{◌≡◌, ℕ, zero, suc, ◌+◌, ◌-◌, ◌*◌, ◌/◌, ◌^◌, ◌≤◌, Bool, true, cond, List, [], ◌∷◌, ◌++◌}
use Rattle.std.proofs.Common.{length, get_or, refl, sym, ap, subst, arith, Option, Some, None}
use Rattle.std.specs.Prelude.{replicate, min, IfSome, IfNone}
use Rattle.std.specs.List.{flat_map, AllByRecursion}
use Rattle.serial_model.specs.declared.decl.Decl.TheVariants.{Array}
use Rattle.serial_model.specs.declared.number.Number.{Number}
use Rattle.serial_model.specs.Numbers.{IsNumber, last_epoch}
use Rattle.wire_form.specs.declared.page.PageKind.{PageKind}
use Rattle.wire_form.specs.declared.page.PageKind.TheVariants.{ArrayLeaf, ArrayInner}
use Rattle.wire_form.specs.declared.records.ArrayRecord.{ArrayRecord}
use Rattle.wire_form.specs.Pages.{HasKind, IsArrayRecord, array_record_words}
use Rattle.wire_form.specs.Words.{number_field}
use Rattle.snapshot_store.specs.ArrayPages.{span_of, leaf_room, fan, parts_of, array_kind, IsArrayPage}
use Rattle.snapshot_store.specs.Content.{format_of, IsPageOf}
use Rattle.snapshot_store.specs.declared.place.PagePlace.{PagePlace}
use Rattle.snapshot_store.specs.Places.{StandsTo, words_at}
use Rattle.std.specs.Prelude.{nat_le}
use Rattle.engine_pages.specs.Resident.{AreRecords, array_word, array_value}

-- the word of a number, and a value that is 0 where it is 0
record AreFit (word value : ℕ) : Type 0 where
  epoch : word / 2 ^ 40 ≤ last_epoch
  blank : word ≡ 0 → value ≡ 0

-- so many zeros
abbrev zeros : ℕ → List ℕ
zeros n = replicate n 0

none_there : (n i : ℕ) → get_or (zeros n) i 0 ≡ 0
none_there zero i = refl
none_there (suc n) zero = refl
none_there (suc n) (suc i) = none_there n i

field_fits : (n : Option Number) (value : ℕ) → IfSome n IsNumber → IfNone n (value ≡ 0) → AreFit (number_field n) value
field_fits None value number never = record { epoch = omega arith; blank = λ _. never }
field_fits (Some n) value number never =
    let epoch = number.most_epoch in
    let some = number.some_epoch in
    let draw = number.most_draw in
    record { epoch = omega arith; blank = λ none. absurd (omega arith) }

fits_at : (rs : List ArrayRecord) (n i : ℕ) → AllByRecursion IsArrayRecord rs
    → AreFit (get_or (flat_map array_record_words rs ++ zeros n) (2 * i) 0)
    (get_or (flat_map array_record_words rs ++ zeros n) (2 * i + 1) 0)
fits_at [] n i all = record {
  epoch = subst (λ k. k / 2 ^ 40 ≤ last_epoch) (sym (none_there n (2 * i))) (omega arith);
  blank = λ _. none_there n (2 * i + 1);
}
fits_at (r ∷ rs) n zero all = field_fits r.number r.value all.0.number all.0.never
fits_at (r ∷ rs) n (suc i) all =
    let words : List ℕ = flat_map array_record_words (r ∷ rs) ++ zeros n in
    let one : suc (suc (2 * i)) ≡ 2 * suc i = omega arith in
    let two : suc (suc (2 * i + 1)) ≡ 2 * suc i + 1 = omega arith in
    subst (λ j. AreFit (get_or words j 0) (get_or words (2 * suc i + 1) 0)) one
    (subst (λ j. AreFit (get_or words (suc (suc (2 * i))) 0) (get_or words j 0)) two (fits_at rs n i all.1))

-- the words of a leaf are records
pub leaf_records : (used number : ℕ) (words : List ℕ) → HasKind (ArrayLeaf used) number words → AreRecords words
leaf_records used number words h =
    let fits : (i : ℕ) → AreFit (array_word words i) (array_value words i) = λ i.
    subst (λ (ws : List ℕ). AreFit (array_word ws i) (array_value ws i)) (sym h.2)
    (fits_at h.0 (64 - length (flat_map array_record_words h.0)) i h.1.each) in
    record { epochs = λ i few. (fits i).epoch; blank = λ i few. (fits i).blank }

-- and where there is no page, there are none
pub no_records : AreRecords []
no_records = record { epochs = λ i few. omega arith; blank = λ i few none. refl }

-- so are those of an array's page for a leaf's range, or of none
pub page_records : (size : ℕ) (p : PagePlace) (words : List ℕ) → nat_le (span_of p.low p.high) leaf_room ≡ true
    → IsArrayPage size p words → AreRecords words
page_records size p words leaf page = by_number p.number refl
  where
    kind : array_kind size p.low p.high ≡ ArrayLeaf (min leaf_room (size - p.low))
    kind =
        let inner = ArrayInner (min fan (parts_of (size - p.low) (span_of p.low p.high / fan))) in
        ap (λ (b : Bool). cond b (ArrayLeaf (min leaf_room (size - p.low))) inner) leaf

    by_number : (k : ℕ) → p.number ≡ k → AreRecords words
    by_number zero e = subst AreRecords (sym (page.none e)) no_records
    by_number (suc k) e =
        leaf_records (min leaf_room (size - p.low)) p.number words
        (subst (λ (z : PageKind). HasKind z p.number words) kind (page.page (omega (arith, e))))

-- so are those of what stands for a leaf's range of an array
pub standing_records : (id size : ℕ) (pages : List (List ℕ)) (depth : ℕ) (p : PagePlace)
    → nat_le (span_of p.low p.high) leaf_room ≡ true
    → StandsTo (format_of (Array id size)) (IsPageOf (Array id size)) pages depth p → AreRecords (words_at pages p)
standing_records id size pages zero p leaf stands = absurd stands
standing_records id size pages (suc depth) p leaf stands = page_records size p (words_at pages p) leaf stands.right
