-- What the two places of a save device hold while one of them is written.
use Rattle.std.proofs.Common.{min, replicate, slice_index, ◌≡◌, ◌≢◌, ◌⊎◌, inl, inr, ℕ, ◌+◌, ◌-◌, ◌*◌, ◌%◌, ◌<◌, ◌≤◌, List, ◌∷◌, ◌++◌, Option, Some, None, length, get_or, take, drop, refl, sym, ◌∙◌, ap, subst, arith}
use Rattle.std.proofs.lemmas.List.{drop_more, take-take, drop-drop, drop-take, append-nil}
use Rattle.std.proofs.lemmas.Bool.{cases_eq, cases_lt}
use Rattle.std.proofs.lemmas.Bool.Decides.{nat_tests}
use Rattle.wire_form.specs.declared.savepoint.Savepoint.{Savepoint}
use Rattle.std.specs.Prelude.{IfSome}
use Rattle.wire_form.specs.Items.{IsSpelled}
use Rattle.std.specs.Option.{option_map}
use Rattle.wire_form.specs.Savepoint.{IsSavepoint, IsSavepointOf, place_bytes, valid_byte}
use Rattle.outside.specs.Disk.{Torn}
use Rattle.log_writer.specs.Points.{IsSaved, saved_of, point_saved, sequence_of}
use Rattle.log_writer.specs.Save.{place_in, HasPoint, newer, Names}

-- equal fronts have equal shorter fronts
pub take_kept : (j k : ℕ) (c file : List ℕ) → j ≤ k → take k c ≡ take k file → take j c ≡ take j file
take_kept j k c file le same = sym (take-take j k c le) ∙ ap (λ (l : List ℕ). take j l) same ∙ take-take j k file le

-- equal rests have equal shorter rests
pub drop_kept : (j k : ℕ) (c file : List ℕ) → k ≤ j → drop k c ≡ drop k file → drop j c ≡ drop j file
drop_kept j k c file le same =
    let is : k + (j - k) ≡ j = omega arith in
    sym (ap (λ i. drop i c) is) ∙ sym (drop-drop (j - k) k c) ∙ ap (λ (l : List ℕ). drop (j - k) l) same ∙ drop-drop (j - k) k file ∙ ap (λ i. drop i file) is

-- the one place and the other
pub record Pair (place other : ℕ) : Type 0 where
  pub either : ((place ≡ 0) × (other ≡ 1)) ⊎ ((place ≡ 1) × (other ≡ 0))

-- a place that a sequence is stored in has another
pub pair : (place sequence : ℕ) → place + sequence % 2 ≡ 1 → Pair place (1 - place)
pair place sequence stands = record {
  either = elim (cases_eq place 0) [
    | inl first ↦ inl (first, omega arith)
    | inr second ↦ inr (omega arith, omega arith)
  ];
}

-- what stands behind the valid byte of a place
abbrev pub behind_valid : List ℕ → ℕ → List ℕ
behind_valid file place = take 511 (drop (512 * place + 1) file)

-- a place is its valid byte and what stands behind it
pub place_parts : (file : List ℕ) (place : ℕ) → 512 * place < length file → place_in file place ≡ get_or file (512 * place) 0 ∷ behind_valid file place
place_parts file place lt = ap (λ (l : List ℕ). take 512 l) (drop_more file (512 * place) 0 lt)

-- the first byte of a place is its valid byte
pub place_first : (file : List ℕ) (place : ℕ) → 512 * place < length file → get_or (place_in file place) 0 0 ≡ get_or file (512 * place) 0
place_first file place lt = ap (λ (l : List ℕ). get_or l 0 0) (place_parts file place lt)

-- what is written within a place leaves the other
pub other_kept : {place other : ℕ} → Pair place other → (at count : ℕ) (file c : List ℕ) → 512 * place ≤ at → at + count ≤ 512 * place + 512 → Torn at count file c → place_in c other ≡ place_in file other
other_kept {place} {other} places at count file c from to torn = elim places.either [
  | inl is ↦ ap (λ (l : List ℕ). take 512 l) (drop_kept (512 * other) (at + count) c file (omega (arith, is.0, is.1)) torn.after)
  | inr is ↦ sym (drop-take (512 * other) 512 c) ∙ ap (λ (l : List ℕ). drop (512 * other) l) (take_kept (512 * other + 512) at c file (omega (arith, is.0, is.1)) torn.before) ∙ drop-take (512 * other) 512 file
]

-- a write within the device leaves its size
pub size_kept : {place other : ℕ} → Pair place other → (at count : ℕ) (file c : List ℕ) → length file ≡ 1024 → at + count ≤ 512 * place + 512 → Torn at count file c → length c ≡ 1024
size_kept places at count file c size to torn = elim places.either [
  | inl is ↦ omega (arith, is.0, torn.no_shorter, torn.no_longer)
  | inr is ↦ omega (arith, is.0, torn.no_shorter, torn.no_longer)
]

-- the valid byte of a place lies within the device
pub place_within : {place other : ℕ} → Pair place other → (file : List ℕ) → length file ≡ 1024 → 512 * place < length file
place_within places file size = elim places.either [ inl is ↦ omega (arith, is.0) | inr is ↦ omega (arith, is.0) ]

-- a newest savepoint of even sequence is the one of the second place
in_second_place : (first second : Option Savepoint) (x y : List ℕ) → HasPoint 0 x first → HasPoint 1 y second → sequence_of (newer first second) % 2 ≡ 0 → newer first second ≡ second
in_second_place None second x y in_first in_second even = refl
in_second_place (Some a) None x y in_first in_second even = absurd (omega (arith, in_first.0.stands, even))
in_second_place (Some a) (Some b) x y in_first in_second even = elim (cases_lt a.sequence b.sequence) [
  | inl lt ↦ grind (arith, nat_tests)
  | inr ge ↦
      let is : newer (Some a) (Some b) ≡ Some a = grind (arith, nat_tests) in
      absurd (omega (arith, in_first.0.stands, even, ap sequence_of is))
]

-- a newest savepoint of odd sequence is the one of the first place
in_first_place : (first second : Option Savepoint) (x y : List ℕ) → HasPoint 0 x first → HasPoint 1 y second → sequence_of (newer first second) % 2 ≡ 1 → newer first second ≡ first
in_first_place None None x y in_first in_second odd = absurd (omega (arith, odd))
in_first_place None (Some b) x y in_first in_second odd = absurd (omega (arith, in_second.0.stands, odd))
in_first_place (Some a) None x y in_first in_second odd = refl
in_first_place (Some a) (Some b) x y in_first in_second odd = elim (cases_lt a.sequence b.sequence) [
  | inl lt ↦
      let is : newer (Some a) (Some b) ≡ Some b = grind (arith, nat_tests) in
      absurd (omega (arith, in_second.0.stands, odd, ap sequence_of is))
  | inr ge ↦ grind (arith, nat_tests)
]

-- the newest savepoint stands in the place that the next one is not stored in
pub newest_stands : {place other : ℕ} → Pair place other → (file : List ℕ) (newest : Option Savepoint) → Names file newest → place + (sequence_of newest + 1) % 2 ≡ 1 → HasPoint other (place_in file other) newest
newest_stands {place} {other} places file newest names next = elim places.either [
  | inl is ↦
      let even : sequence_of (newer names.first names.second) % 2 ≡ 0 = omega (arith, next, is.0, ap sequence_of names.counts) in
      let same : newest ≡ names.second = names.counts ∙ in_second_place names.first names.second (place_in file 0) (place_in file 1) names.in_first names.in_second even in
      subst (λ q. HasPoint q (place_in file q) newest) (sym is.1) (subst (HasPoint 1 (place_in file 1)) (sym same) names.in_second)
  | inr is ↦
      let odd : sequence_of (newer names.first names.second) % 2 ≡ 1 = omega (arith, next, is.0, ap sequence_of names.counts) in
      let same : newest ≡ names.first = names.counts ∙ in_first_place names.first names.second (place_in file 0) (place_in file 1) names.in_first names.in_second odd in
      subst (λ q. HasPoint q (place_in file q) newest) (sym is.1) (subst (HasPoint 0 (place_in file 0)) (sym same) names.in_first)
]

-- beside none the newer one is the other
newer-none : (a : Option Savepoint) → newer a None ≡ a
newer-none None = refl
newer-none (Some a) = refl

-- the one of greater sequence is the newer one
newer-greater : (older : Option Savepoint) (point : Savepoint) → sequence_of older < point.sequence → (newer older (Some point) ≡ Some point) × (newer (Some point) older ≡ Some point)
newer-greater None point lt = (refl, refl)
newer-greater (Some a) point lt = (grind (arith, nat_tests), grind (arith, nat_tests))

-- where one place is closed, the device has what the other holds
pub closed_names : {place other : ℕ} → Pair place other → (c : List ℕ) (newest : Option Savepoint) → length c ≡ 1024 → get_or c (512 * place) 0 ≢ valid_byte → HasPoint other (place_in c other) newest → Names c newest
closed_names {place} {other} places c newest size shut holds =
    let none : HasPoint place (place_in c place) None = λ is. shut (sym (place_first c place (place_within places c size)) ∙ is) in
    elim places.either [
      | inl is ↦ record {
        size = size;
        first = None;
        second = newest;
        in_first = subst (λ p. HasPoint p (place_in c p) None) is.0 none;
        in_second = subst (λ q. HasPoint q (place_in c q) newest) is.1 holds;
        counts = refl;
      }
      | inr is ↦ record {
        size = size;
        first = newest;
        second = None;
        in_first = subst (λ q. HasPoint q (place_in c q) newest) is.1 holds;
        in_second = subst (λ p. HasPoint p (place_in c p) None) is.0 none;
        counts = sym (newer-none newest);
      }
    ]

-- where one place has a savepoint of greater sequence than the other's, the device has that one
pub open_names : {place other : ℕ} → Pair place other → (c : List ℕ) (older : Option Savepoint) (point : Savepoint) → length c ≡ 1024 → sequence_of older < point.sequence → HasPoint place (place_in c place) (Some point) → HasPoint other (place_in c other) older → Names c (Some point)
open_names {place} {other} places c older point size lt holds_next holds = elim places.either [
  | inl is ↦ record {
    size = size;
    first = Some point;
    second = older;
    in_first = subst (λ p. HasPoint p (place_in c p) (Some point)) is.0 holds_next;
    in_second = subst (λ q. HasPoint q (place_in c q) older) is.1 holds;
    counts = sym (newer-greater older point lt).1;
  }
  | inr is ↦ record {
    size = size;
    first = older;
    second = Some point;
    in_first = subst (λ q. HasPoint q (place_in c q) older) is.1 holds;
    in_second = subst (λ p. HasPoint p (place_in c p) (Some point)) is.0 holds_next;
    counts = sym (newer-greater older point lt).0;
  }
]

-- a device with the same two places has the same
pub names_kept : {place other : ℕ} → Pair place other → (file c : List ℕ) (newest : Option Savepoint) → length c ≡ 1024 → place_in c place ≡ place_in file place → place_in c other ≡ place_in file other → Names file newest → Names c newest
names_kept {place} {other} places file c newest size same same_other names = elim places.either [
  | inl is ↦ record {
    size = size;
    first = names.first;
    second = names.second;
    in_first = subst (λ l. HasPoint 0 l names.first) (sym (subst (λ p. place_in c p ≡ place_in file p) is.0 same)) names.in_first;
    in_second = subst (λ l. HasPoint 1 l names.second) (sym (subst (λ p. place_in c p ≡ place_in file p) is.1 same_other)) names.in_second;
    counts = names.counts;
  }
  | inr is ↦ record {
    size = size;
    first = names.first;
    second = names.second;
    in_first = subst (λ l. HasPoint 0 l names.first) (sym (subst (λ p. place_in c p ≡ place_in file p) is.1 same_other)) names.in_first;
    in_second = subst (λ l. HasPoint 1 l names.second) (sym (subst (λ p. place_in c p ≡ place_in file p) is.0 same)) names.in_second;
    counts = names.counts;
  }
]

-- a read of a place's bytes gives the place
pub place_read : (place at count : ℕ) (file bytes : List ℕ) → place ≤ 1 → at ≡ 512 * place → length file ≡ 1024 → count ≡ min 512 (length file - at) → bytes ≡ take count (drop at file) ++ drop count (replicate 512 0) → bytes ≡ place_in file place
place_read place at count file bytes within begins size counted is =
    let whole : count ≡ 512 = omega arith in
    is ∙ ap (λ n. take n (drop at file) ++ drop n (replicate 512 0)) whole ∙ append-nil (take 512 (drop at file)) ∙ ap (λ i. take 512 (drop i file)) begins

-- what a place was read as, it holds
pub place_holds : (place : ℕ) (bytes : List ℕ) (found : Option Savepoint) → ((found ≡ None) → slice_index bytes 0 ≢ valid_byte) → IfSome found (IsSpelled (IsSavepointOf place) place_bytes bytes) → HasPoint place bytes found
place_holds place bytes None shut spelled = shut refl
place_holds place bytes (Some point) shut spelled = (spelled.valid, sym spelled.spelled)

-- the newer of two savepoints is one of them
pub newer_either : (P : Savepoint → Type 0) (first second : Option Savepoint) → IfSome first P → IfSome second P → IfSome (newer first second) P
newer_either P None second is_first is_second = is_second
newer_either P (Some a) None is_first is_second = is_first
newer_either P (Some a) (Some b) is_first is_second = elim (cases_lt a.sequence b.sequence) [
  | inl lt ↦
      let is : newer (Some a) (Some b) ≡ Some b = grind (arith, nat_tests) in
      subst (λ (found : Option Savepoint). IfSome found P) (sym is) is_second
  | inr ge ↦
      let is : newer (Some a) (Some b) ≡ Some a = grind (arith, nat_tests) in
      subst (λ (found : Option Savepoint). IfSome found P) (sym is) is_first
]

-- what the newest savepoint says is what a savepoint says
pub newest_saved : (newest : Option Savepoint) → IfSome newest IsSavepoint → IfSome (option_map saved_of newest) IsSaved
newest_saved None none = tt
newest_saved (Some point) is = point_saved point is
