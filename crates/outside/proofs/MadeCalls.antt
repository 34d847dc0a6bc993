-- How the crash images of a disk in memory go on at a call.
use Rattle.std.proofs.Common.{◌≡◌, inl, inr, ℕ, ◌+◌, ◌-◌, ◌*◌, ◌<◌, ◌≤◌, ◌^◌, Bool, List, [], ◌∷◌, ◌++◌, length, length-append, Result, Ok, Err, sym, ap, subst, arith}
use Rattle.outside.specs.declared.call.Call.{Call}
use Rattle.outside.specs.declared.memory_disk.MemDisk.{MemDisk}
use Rattle.outside.specs.Disk.{Goes, LeavesEach, Calls}
use Rattle.outside.specs.Faults.{Rose}
use Rattle.outside.specs.MemoryDisk.{clock_of, image_of, faults_of}
use Rattle.outside.specs.Replay.{step_of, IsLoose, read_through, LeftAfter, LeavesLast, IsImage, moments_of}
use Rattle.outside.proofs.Replays.{turn, more, goes_more, each_within, each_more, left_last}

-- a call that was refused before it began
pub goes_none : (step : List ℕ → List ℕ → Type 0) (old new : MemDisk)
    → new.first ≡ old.first → new.calls.items ≡ old.calls.items → Goes clock_of image_of step old new
goes_none step old new first calls = record {
  later = omega (arith, ap length calls);
  kept = λ m c le left. turn (λ i. IsImage (sym first i).items (sym calls i) m c) left;
  no_new = λ m c le left. turn (λ i. IsImage (first i).items (calls i) m c) left;
  from = λ m c gt le left. absurd (omega (arith, ap length calls));
}

-- it has no moment of its own
pub each_none : (step : List ℕ → List ℕ → Type 0) (old new : MemDisk)
    → new.calls.items ≡ old.calls.items → (end : ℕ) → end ≤ clock_of new
    → LeavesEach clock_of image_of step old new end
each_none step old new calls end le = record {
  each = λ m d c gt to was step. absurd (omega (arith, ap length calls));
}

-- what such a call does
pub calls_none : {T E : Type 0} (error : E) (step : List ℕ → List ℕ → Type 0) (old new : MemDisk) (end : ℕ)
    → new.first ≡ old.first → new.calls.items ≡ old.calls.items → end ≤ clock_of new
    → old.faults ≤ new.faults → Rose old.faults new.faults
    → let answer : Result T E = Err error in Calls clock_of image_of faults_of step end old new answer
calls_none error step old new end first calls le later rose = record {
  moments = goes_none step old new first calls;
  each = each_none step old new calls end le;
  ticks = record { ok = tt; err = inr (ap (λ (l : List _). 2 * length l) calls); counted = tt };
  cause = record { later = later; quiet = tt; failed = rose };
}

-- A call that was recorded.
module _ (call : Call) (failed : Bool) (old new : MemDisk) (first : new.first ≡ old.first) (calls : new.calls.items ≡ old.calls.items ++ record { call = call; failed = failed } ∷ []) where
  abbrev recorded : ℕ → List ℕ → Type 0
  recorded m c = IsImage old.first.items (more old.first.items old.calls.items call failed) m c

  to_new : (m : ℕ) (c : List ℕ) → recorded m c → image_of new m c
  to_new m c left = turn (λ i. IsImage (sym first i).items (sym calls i) m c) left

  of_new : (m : ℕ) (c : List ℕ) → image_of new m c → recorded m c
  of_new m c left = turn (λ i. IsImage (first i).items (calls i) m c) left

  pub goes_made : Goes clock_of image_of (step_of call) old new
  goes_made =
      let goes = goes_more old.first.items old.calls.items call failed in
      record {
        later = omega (arith, ap length calls, goes.later);
        kept = λ m c le left. to_new m c (goes.kept m c le left);
        no_new = λ m c le left. goes.no_new m c le (of_new m c left);
        from = λ m c gt le left. goes.from m c gt (omega (arith, ap length calls)) (of_new m c left);
      }

  pub each_in_made : LeavesEach clock_of image_of (step_of call) old new (clock_of new - 1)
  each_in_made =
      let all = each_within old.first.items old.calls.items call failed in
      record {
        each = λ m d c gt le was step. to_new m c (all.each m d c gt (omega (arith, ap length calls)) was step);
      }

  pub each_made : IsLoose call failed → LeavesEach clock_of image_of (step_of call) old new (clock_of new)
  each_made loose =
      let all = each_more old.first.items old.calls.items call failed loose in
      record {
        each = λ m d c gt le was step. to_new m c (all.each m d c gt (omega (arith, ap length calls)) was step);
      }

  pub last_made : (file : List ℕ) → file ≡ read_through old.calls.items old.first.items
      → LeavesLast clock_of image_of (LeftAfter call failed file) old new
  last_made file read = record {
    last = λ c left.
        let here = subst (λ k. recorded k c) (ap moments_of calls) (of_new (clock_of new) c left) in
        let was = left_last old.first.items old.calls.items call failed c here in
        subst (λ f. LeftAfter call failed f (image_of old (clock_of old)) c) (sym read) was;
  }

  two_more : clock_of new ≡ clock_of old + 2
  two_more = omega (arith, ap length calls, length-append old.calls.items (record { call = call; failed = failed } ∷ []))

  -- one that failed
  pub calls_failed : {T E : Type 0} (error : E) (end : ℕ) → end ≡ clock_of new - 1 → old.faults ≤ new.faults → Rose old.faults new.faults
      → let answer : Result T E = Err error in Calls clock_of image_of faults_of (step_of call) end old new answer
  calls_failed error end last later rose = record {
    moments = goes_made;
    each = subst (λ k. LeavesEach clock_of image_of (step_of call) old new k) (sym last) each_in_made;
    ticks = record { ok = tt; err = inl two_more; counted = tt };
    cause = record { later = later; quiet = tt; failed = rose };
  }

  -- and one that was done
  pub calls_done : {T E : Type 0} (value : T) (end : ℕ) → end ≡ clock_of new - 1 → new.faults ≡ old.faults → clock_of new < 2 ^ 64
      → let answer : Result T E = Ok value in Calls clock_of image_of faults_of (step_of call) end old new answer
  calls_done value end last quiet counted = record {
    moments = goes_made;
    each = subst (λ k. LeavesEach clock_of image_of (step_of call) old new k) (sym last) each_in_made;
    ticks = record { ok = two_more; err = tt; counted = counted };
    cause = record { later = omega arith; quiet = quiet; failed = tt };
  }
