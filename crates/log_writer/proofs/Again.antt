-- A byte that is written again in the place that doesn't count: what a stop leaves meanwhile.
use Rattle.std.proofs.Common.{◌≡◌, ◌≢◌, ◌⊎◌, ◌∙◌, ◌<◌, ◌+◌, ◌-◌, ◌*◌, ◌%◌, min, inl, inr, ℕ, List, [], ◌∷◌, ◌++◌, Option, length, get_or, slice_index, take, drop}
use Rattle.std.proofs.Common.{refl, sym, ap, subst, arith, drop-cons}
use Rattle.wire_form.specs.Savepoint.{valid_byte}
use Rattle.outside.specs.Disk.{Torn, Same, Goes, Only, Runs}
use Rattle.outside.specs.Moments.{only_same, runs_step, runs_then, runs_weaker}
use Rattle.wire_form.specs.declared.savepoint.Savepoint.{Savepoint}
use Rattle.log_writer.specs.Points.{sequence_of}
use Rattle.log_writer.specs.Save.{Names}
use Rattle.log_writer.proofs.Closing.{runs_same}
use Rattle.log_writer.proofs.Places.{drop_kept, newest_stands, pair, place_within, take_kept}
use Rattle.log_writer.proofs.Stages.{close_stop, fill_stop}

-- it is the place's valid byte where that stands there, else its last byte
abbrev pub IsBeside : ℕ → ℕ → List ℕ → Type 0
IsBeside place at file = ((at ≡ place) × (slice_index file place ≡ valid_byte))
    ⊎ ((at ≡ place + 511) × (slice_index file place ≢ valid_byte))

-- the last byte of a range is torn within the range
torn_within : (place : ℕ) (file c : List ℕ) → Torn (place + 511) 1 file c → Torn (place + 1) 511 file c
torn_within place file c torn = record {
  before = take_kept (place + 1) (place + 511) c file (omega arith) torn.before;
  after = drop_kept (place + 1 + 511) (place + 511 + 1) c file (omega arith) torn.after;
  no_shorter = torn.no_shorter;
  no_longer = omega (arith, torn.no_longer);
}

module _ {D : Type 0} {clock : D → ℕ} {image_at : D → ℕ → List ℕ → Type 0} where
  -- looks leave a device as it is
  pub looks_name : {old new : D} (newest : Option Savepoint) (file : List ℕ) → Names file newest → Only clock image_at old file
      → Goes clock image_at Same old new → Runs clock image_at old new (λ left. Names left newest)
  looks_name newest file names only look = runs_weaker (λ c is. subst (λ l. Names l newest) (sym is) names) (runs_same look only)

  -- also two of them
  pub both_name : {old mid new : D} (newest : Option Savepoint) (file : List ℕ) → Names file newest → Only clock image_at old file
      → Goes clock image_at Same old mid → Goes clock image_at Same mid new
      → Runs clock image_at old new (λ left. Names left newest)
  both_name newest file names only look read =
      runs_then (looks_name newest file names only look) (looks_name newest file names (only_same look only) read)

-- the one byte that was read of a file
pub read_one : (at n : ℕ) (file buf : List ℕ) → n ≡ min 1 (length file - at) → n ≢ 0
    → buf ≡ take n (drop at file) ++ drop n (0 ∷ []) → (at < length file) × (buf ≡ get_or file at 0 ∷ [])
read_one at n file buf many some filled =
    let one : n ≡ 1 = omega (arith, many, some) in
    let within : at < length file = omega (arith, many, some) in (
      within,
      filled ∙ ap (λ k. take k (drop at file) ++ drop k (0 ∷ [])) one ∙ ap (λ (l : List ℕ). take 1 l ++ []) (drop-cons file at 0 within),
    )

module _ (which : ℕ) (newest : Option Savepoint) (next : which + (sequence_of newest + 1) % 2 ≡ 1) (file : List ℕ) (names : Names file newest) where
  -- the place is within the device
  pub place_begins : 512 * which < length file
  place_begins = place_within (pair which (sequence_of newest + 1) next) file names.size

  -- whatever a stop leaves of that byte, the device names the same savepoint
  pub beside_stop : (at : ℕ) (c : List ℕ) → IsBeside (512 * which) at file → Torn at 1 file c → Names c newest
  beside_stop at c beside torn =
      let places = pair which (sequence_of newest + 1) next in
      let holds = newest_stands places file newest names next in
      elim beside [
        | inl opened ↦ close_stop which (1 - which) places newest file c names holds
            (inr (opened.1, subst (λ a. Torn a 1 file c) opened.0 torn))
        | inr shut ↦ fill_stop which (1 - which) places newest 511 file c refl
            (record { size = names.size; byte = shut.1; holds = holds })
            (torn_within (512 * which) file c (subst (λ a. Torn a 1 file c) shut.0 torn))
      ]

  -- and so it is through the looks and the write behind them
  pub again_names : {D : Type 0} {clock : D → ℕ} {image_at : D → ℕ → List ℕ → Type 0} {old mid last new : D} (at : ℕ)
      → Only clock image_at old file → IsBeside (512 * which) at file
      → Goes clock image_at Same old mid → Goes clock image_at Same mid last → Goes clock image_at (Torn at 1) last new
      → Runs clock image_at old new (λ left. Names left newest)
  again_names at only beside look read write =
      runs_then (both_name newest file names only look read)
      (runs_weaker (λ c torn. beside_stop at c beside torn) (runs_step (only_same read (only_same look only)) write))
