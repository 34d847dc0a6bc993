-- The closing of a place: what is read of it, and what a stop leaves meanwhile.
use Rattle.std.proofs.Common.{◌≡◌, ◌⊎◌, ◌∙◌, ◌<◌, ◌-◌, ◌==◌, inl, inr, ℕ, min, Bool, true, false, List, [], ◌∷◌, ◌++◌}
use Rattle.std.proofs.Common.{Option, Result, Ok, Err, OnOk, length, get_or, slice_index, take, drop}
use Rattle.std.proofs.Common.{sym, ap, subst, arith}
use Rattle.std.proofs.Common.{eqb-true, drop-cons}
use Rattle.std.proofs.lemmas.Bool.{eqb-false}
use Rattle.std.proofs.lemmas.Option.{same_Some}
use Rattle.wire_form.specs.Savepoint.{valid_byte}
use Rattle.outside.specs.Disk.{IfTold, Same, Goes, Only, Runs, Torn, written}
use Rattle.outside.specs.Faults.{HasCause}
use Rattle.outside.specs.Moments.{runs_then, runs_weaker, runs_call, runs_step, only_same}
use Rattle.log_writer.specs.Save.{closed, ClosedOrTorn}
use Rattle.log_writer.specs.Stores.{RoseTwice}
use Rattle.log_writer.proofs.Stages.{closed_open, closed_shut}

-- the byte that is read of a file that has one there
pub read_byte : (at n : ℕ) (file buf : List ℕ) → at < length file → n ≡ min 1 (length file - at)
    → buf ≡ take n (drop at file) ++ drop n (0 ∷ []) → get_or buf 0 0 ≡ get_or file at 0
read_byte at n file buf within many filled =
    let one : n ≡ 1 = omega (arith, many, within) in
    ap (λ (l : List ℕ). get_or l 0 0) (filled ∙ ap (λ k. take k (drop at file) ++ drop k (0 ∷ [])) one
    ∙ ap (λ (l : List ℕ). take 1 l ++ []) (drop-cons file at 0 within))

module _ {A E : Type 0} (Q : List ℕ → Type 0) (told mid : Option (List ℕ)) (at : ℕ) (b : Bool) where
  -- an open place is closed by the write of a zero
  pub closed_by : (r : Result A E) → mid ≡ told → IfTold told (λ file. b ≡ (slice_index file at == valid_byte))
      → b ≡ true
      → OnOk r (IfTold mid (λ file. Q (written at (0 ∷ []) file))) → OnOk r (IfTold told (λ file. Q (closed at file)))
  closed_by (Ok x) same found is_open done = λ file is.
      subst Q (sym (closed_open at file (eqb-true _ _ (sym (found file is) ∙ is_open)))) (done file (same ∙ is))
  closed_by (Err e) same found is_open done = tt

  -- and a closed one stays as it is
  pub closed_already : (r : Result A E) → mid ≡ told → IfTold told (λ file. b ≡ (slice_index file at == valid_byte))
      → b ≡ false → OnOk r (IfTold mid Q) → OnOk r (IfTold told (λ file. Q (closed at file)))
  closed_already (Ok x) same found shut done = λ file is.
      subst Q (sym (closed_shut at file (eqb-false _ _ (sym (found file is) ∙ shut)))) (done file (same ∙ is))
  closed_already (Err e) same found shut done = tt

-- the byte that was there is there still, or the count rose twice
abbrev pub IsThereOrTwice : ℕ → ℕ → ℕ → List ℕ → List ℕ → Type 0
IsThereOrTwice at before now file left = (slice_index left at ≡ slice_index file at) ⊎ RoseTwice before now

-- what tells the same has that byte
pub still_there : {told now : Option (List ℕ)} (at before after : ℕ) → now ≡ told
    → IfTold told (λ file. IfTold now (IsThereOrTwice at before after file))
still_there at before after same file is left left_is =
    inl (ap (λ (l : List ℕ). slice_index l at) (same_Some left file (sym left_is ∙ same ∙ is)))

-- and so has an open place whose valid byte is written again
pub opened_again : {told mid now : Option (List ℕ)} {before between after : ℕ} (at : ℕ) (b : Bool) → mid ≡ told
    → IfTold told (λ file. b ≡ (slice_index file at == valid_byte)) → b ≡ true → between ≡ before
    → IfTold mid (λ file. IfTold now (λ left. (slice_index left at ≡ valid_byte) ⊎ RoseTwice between after))
    → IfTold told (λ file. IfTold now (IsThereOrTwice at before after file))
opened_again {after = after} at b same found is_open quiet back file is left left_is =
    elim (back file (same ∙ is) left left_is) [
      | inl again ↦ inl (again ∙ sym (eqb-true _ _ (sym (found file is) ∙ is_open)))
      | inr twice ↦ inr (subst (λ n. RoseTwice n after) quiet twice)
    ]

module _ {D : Type 0} {clock : D → ℕ} {image_at : D → ℕ → List ℕ → Type 0} where
  -- a call that changes nothing, where a stop could leave one content
  pub runs_same : {old new : D} {file : List ℕ} → Goes clock image_at Same old new → Only clock image_at old file
      → Runs clock image_at old new (λ c. c ≡ file)
  runs_same goes only = runs_call (λ d c was is. sym is ∙ only d was) goes

  -- a look leaves the device as it was
  pub looked_at : {old mid : D} (at : ℕ) (file : List ℕ) → Goes clock image_at Same old mid
      → Only clock image_at old file → Runs clock image_at old mid (ClosedOrTorn at file)
  looked_at at file look only = runs_weaker (λ c is. inl is) (runs_same look only)

  -- and so does a sync behind it
  pub synced_then : {old mid new : D} (at : ℕ) (file : List ℕ) → Goes clock image_at Same old mid
      → Goes clock image_at Same mid new → Only clock image_at old file
      → Runs clock image_at old new (ClosedOrTorn at file)
  synced_then at file look sync only =
      runs_then (looked_at at file look only) (runs_weaker (λ c is. inl is) (runs_same sync (only_same look only)))

  -- a write of one byte leaves that byte torn, where the place was open
  pub written_then : {old mid new : D} (at : ℕ) (file : List ℕ) (b : Bool) → b ≡ (slice_index file at == valid_byte)
      → b ≡ true → Goes clock image_at Same old mid → Goes clock image_at (Torn at 1) mid new
      → Only clock image_at old file → Runs clock image_at old new (ClosedOrTorn at file)
  written_then at file b found is_open look write only =
      runs_then (looked_at at file look only)
      (runs_weaker (λ c torn. inr (eqb-true _ _ (sym found ∙ is_open), torn)) (runs_step (only_same look only) write))

-- what holds once something was done holds where it failed
pub none_done : {T E : Type 0} (P : Type 0) (r : Result T E) (y : E) → r ≡ Err y → OnOk r P
none_done P (Ok x) y is = absurd cc
none_done P (Err z) y is = tt

module _ {T U E : Type 0} where
  -- a fault that is handed on has its cause
  pub cause_handed : (before now : ℕ) (r : Result U E) (e y : E) → r ≡ Err y
      → (let answer : Result T E = Err e in HasCause before now answer) → HasCause before now r
  cause_handed before now (Ok x) e y is cause = absurd cc
  cause_handed before now (Err z) e y is cause = record { later = cause.later; quiet = tt; failed = cause.failed }

  -- and so has what was done, told otherwise
  pub cause_told : (before now : ℕ) (x : T) (z : U)
      → (let answer : Result T E = Ok x in HasCause before now answer)
      → let answer : Result U E = Ok z in HasCause before now answer
  cause_told before now x z cause = record { later = cause.later; quiet = cause.quiet; failed = tt }
