-- A byte that is written, and then the one that was there: what a stop leaves meanwhile, and what reads give.
use Rattle.std.proofs.Common.{◌≡◌, ◌⊎◌, ◌∙◌, ◌<◌, ◌≤◌, ◌+◌, inl, inr, ℕ, List, [], ◌∷◌, ◌++◌, Option, Some, None, Result, Ok, Err, OnOk, OnErr}
use Rattle.std.proofs.Common.{is_some, length, get_or, slice_index, drop, refl, sym, ap, subst, arith}
use Rattle.std.proofs.lemmas.Bool.{cases_lt}
use Rattle.std.proofs.lemmas.List.{take_more, take-append-drop}
use Rattle.std.proofs.lemmas.Option.{same_Some}
use Rattle.outside.specs.Disk.{IfTold, Goes, Torn, written}
use Rattle.outside.specs.Faults.{HasCause, Rose}
use Rattle.outside.specs.Moments.{left_after}
use Rattle.outside.specs.Ranges.{torn_written}
use Rattle.log_writer.specs.Stores.{RoseTwice}
use Rattle.log_writer.proofs.Flushes.{was_told}
use Rattle.log_writer.proofs.Stages.{byte_written}

-- a range that is written twice is torn as by one write
pub torn_twice : (at count : ℕ) (file mid c : List ℕ) → Torn at count file mid → Torn at count mid c → Torn at count file c
torn_twice at count file mid c first next = record {
  before = next.before ∙ first.before;
  after = next.after ∙ first.after;
  no_shorter = omega (arith, first.no_shorter, next.no_shorter);
  no_longer = omega (arith, first.no_longer, next.no_longer);
}

-- two calls that may be done in part, where what both leave is what one may
pub goes_twice : {D : Type 0} {clock : D → ℕ} {image_at : D → ℕ → List ℕ → Type 0} {step : List ℕ → List ℕ → Type 0} {old mid new : D}
    → ((a b c : List ℕ) → step a b → step b c → step a c) → Goes clock image_at step old mid
    → Goes clock image_at step mid new → Goes clock image_at step old new
goes_twice {clock = clock} {mid = mid} both first next = record {
  later = omega (arith, first.later, next.later);
  kept = λ m c le left. next.kept m c (omega (arith, first.later)) (first.kept m c le left);
  no_new = λ m c le left. first.no_new m c le (next.no_new m c (omega (arith, first.later)) left);
  from = λ m c gt le left. elim (cases_lt (clock mid) m) [
    | inl past ↦
        let was = next.from m c past le left in
        elim (left_after was.0 first was.1) [
          | inl before ↦ (was.0, before, was.2)
          | inr within ↦ (within.0, within.1, both within.0 was.0 c within.2 was.2)
        ]
    | inr within ↦ first.from m c gt within (next.no_new m c within left)
  ];
}

-- the range is within what the first write left
pub still_within : {told mid : Option (List ℕ)} {at : ℕ} → is_some mid ≡ is_some told → IfTold told (λ file. at < length file)
    → IfTold told (λ file. IfTold mid (Torn at 1 file)) → IfTold mid (λ file. at ≤ length file)
still_within {told = told} {mid = mid} same within torn left is =
    let was = was_told told mid same left is in
    omega (arith, within was.0 was.1, (torn was.0 was.1 left is).no_shorter)

module _ {told mid now : Option (List ℕ)} {at : ℕ} where
  -- what the two writes left
  pub torn_again : {T E : Type 0} (was : ℕ) (r : Result T E) → is_some now ≡ is_some mid
      → IfTold told (λ file. IfTold mid (Torn at 1 file)) → IfTold mid (λ file. at ≤ length file)
      → OnOk r (IfTold mid (λ file. now ≡ Some (written at (was ∷ []) file)))
      → OnErr r (IfTold mid (λ file. IfTold now (Torn at 1 file)))
      → IfTold told (λ file. IfTold now (Torn at 1 file))
  torn_again was (Ok done) same torn within written_so torn_so file told_so left is =
      let between = was_told mid now same left is in
      torn_twice at 1 file between.0 left (torn file told_so between.0 between.1)
      (subst (Torn at 1 between.0) (same_Some _ _ (sym (written_so between.0 between.1) ∙ is))
      (torn_written at (was ∷ []) between.0 (within between.0 between.1)))
  torn_again was (Err failed) same torn within written_so torn_so file told_so left is =
      let between = was_told mid now same left is in
      torn_twice at 1 file between.0 left (torn file told_so between.0 between.1) (torn_so between.0 between.1 left is)

  -- the byte that was there is there again, or the second write failed, too
  pub there_again : {T E : Type 0} (was before between after : ℕ) (r : Result T E) → is_some now ≡ is_some mid
      → IfTold mid (λ file. at ≤ length file)
      → OnOk r (IfTold mid (λ file. now ≡ Some (written at (was ∷ []) file)))
      → Rose before between → HasCause between after r
      → IfTold told (λ file. IfTold now (λ left. (slice_index left at ≡ was) ⊎ RoseTwice before after))
  there_again was before between after (Ok done) same within written_so rose cause file told_so left is =
      let mid_so = was_told mid now same left is in
      inl (subst (λ l. slice_index l at ≡ was) (same_Some _ _ (sym (written_so mid_so.0 mid_so.1) ∙ is))
      (byte_written at was mid_so.0 (within mid_so.0 mid_so.1)))
  there_again was before between after (Err failed) same within written_so rose cause file told_so left is =
      inr (between, rose, cause.failed)

-- a fault that a later call didn't take back
pub rose_on : {T U E : Type 0} (before between after : ℕ) (e : E) (r : Result U E)
    → (let answer : Result T E = Err e in HasCause before between answer) → HasCause between after r
    → let answer : Result T E = Err e in HasCause before after answer
rose_on before between after e r first next = record {
  later = omega (arith, first.later, next.later);
  quiet = tt;
  failed = let rose = first.failed in omega (arith, rose, next.later);
}

-- a byte that is written as it is leaves the file
pub written_same : (at : ℕ) (file : List ℕ) → at < length file → written at (get_or file at 0 ∷ []) file ≡ file
written_same at file within =
    ap (λ l. l ++ drop (at + 1) file) (sym (take_more file at 0 within)) ∙ take-append-drop (at + 1) file

-- what tells bytes still, and tells them as before where it tells any, tells the same
pub told_again : (old new : Option (List ℕ)) → is_some new ≡ is_some old → IfTold old (λ file. new ≡ Some file) → new ≡ old
told_again (Some file) new same is = is file refl
told_again None (Some left) same is = absurd cc
told_again None None same is = refl
