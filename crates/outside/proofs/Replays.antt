-- One call more of a disk in memory.
use Rattle.std.proofs.Common.{◌≡◌, ◌⊎◌, inl, inr, ℕ, zero, suc, ◌+◌, ◌-◌, ◌*◌, ◌<◌, ◌≤◌, Bool, true, false, List, [], ◌∷◌, ◌++◌, length, refl, sym, subst, arith, length-append}
use Rattle.std.proofs.lemmas.Bool.{cases_eq}
use Rattle.outside.specs.declared.call.Call.{Call}
use Rattle.outside.specs.declared.call.Call.TheVariants.{Len, Read, Write, Cut, Sync}
use Rattle.outside.specs.declared.call.Made.{Made}
use Rattle.outside.specs.Disk.{Goes, LeavesEach}
use Rattle.outside.specs.Replay.{step_of, IsLoose, read_after, read_through, LeftDuring, LeftAfter, LeftAt, moments_of, IsImage}
use Rattle.outside.specs.Replayed.{reads_as_left}

-- the last call works on what those before it left
pub read_through_push : (calls : List Made) (made : Made) (file : List ℕ)
    → read_through (calls ++ made ∷ []) file ≡ read_after made (read_through calls file)
read_through_push [] made file = refl
read_through_push (first ∷ calls) made file = read_through_push calls made (read_after first file)

-- what may be left within a call is a step from what could be left as it began
during_from : (call : Call) (before : List ℕ → Type 0) (c : List ℕ)
    → LeftDuring call before c → (d : List ℕ) × before d × step_of call d c
during_from (Write at bytes) before c left = left
during_from (Cut len) before c left = left
during_from Len before c left = (c, left, refl)
during_from Read before c left = (c, left, refl)
during_from Sync before c left = (c, left, refl)

-- and so is what may be left after it
after_from : (call : Call) (failed : Bool) (file : List ℕ) (before : List ℕ → Type 0) (c : List ℕ)
    → before file → LeftAfter call failed file before c
    → (d : List ℕ) × before d × step_of call d c
after_from Sync false file before c is left = (file, is, sym left)
after_from Sync true file before c is left = (c, left, refl)
after_from (Write at bytes) failed file before c is left = left
after_from (Cut len) failed file before c is left = left
after_from Len failed file before c is left = (c, left, refl)
after_from Read failed file before c is left = (c, left, refl)

-- each step may be left within a call
during_each : (call : Call) (before : List ℕ → Type 0) (d c : List ℕ)
    → before d → step_of call d c → LeftDuring call before c
during_each (Write at bytes) before d c was step = (d, was, step)
during_each (Cut len) before d c was step = (d, was, step)
during_each Len before d c was step = subst before step was
during_each Read before d c was step = subst before step was
during_each Sync before d c was step = subst before step was

-- and after it, but for a sync that was done
after_each : (call : Call) (failed : Bool) (file : List ℕ) (before : List ℕ → Type 0) (d c : List ℕ)
    → IsLoose call failed → before d → step_of call d c → LeftAfter call failed file before c
after_each Sync false file before d c loose was step = absurd loose
after_each Sync true file before d c loose was step = subst before step was
after_each (Write at bytes) failed file before d c loose was step = (d, was, step)
after_each (Cut len) failed file before d c loose was step = (d, was, step)
after_each Len failed file before d c loose was step = subst before step was
after_each Read failed file before d c loose was step = subst before step was

-- a fact under another name
pub turn : {S T : Type 0} → S ≡ T → S → T
turn e s = subst (λ (T : Type 0). T) e s

-- a call more leaves the moments before it as they were
earlier : (m : ℕ) (calls : List Made) (made : Made) (file : List ℕ) (before : List ℕ → Type 0) (c : List ℕ)
    → m ≤ 2 * length calls → LeftAt m calls file before c ≡ LeftAt m (calls ++ made ∷ []) file before c
earlier zero calls made file before c le = refl
earlier (suc m) [] made file before c le = absurd (omega arith)
earlier (suc zero) (first ∷ calls) made file before c le = refl
earlier (suc (suc m)) (first ∷ calls) made file before c le =
    earlier m calls made (read_after first file) (LeftAfter first.call first.failed file before) c (omega arith)

-- the next moment lies within it
within : (m : ℕ) (calls : List Made) (made : Made) (file : List ℕ) (before : List ℕ → Type 0) (c : List ℕ)
    → m ≡ 2 * length calls
    → LeftAt (suc m) (calls ++ made ∷ []) file before c ≡ LeftDuring made.call (LeftAt m calls file before) c
within zero [] made file before c is = refl
within (suc m) [] made file before c is = absurd (omega arith)
within zero (first ∷ calls) made file before c is = absurd (omega arith)
within (suc zero) (first ∷ calls) made file before c is = absurd (omega arith)
within (suc (suc m)) (first ∷ calls) made file before c is =
    within m calls made (read_after first file) (LeftAfter first.call first.failed file before) c (omega arith)

-- and the one after that behind it
behind : (m : ℕ) (calls : List Made) (made : Made) (file : List ℕ) (before : List ℕ → Type 0) (c : List ℕ)
    → m ≡ 2 * length calls
    → LeftAt (suc (suc m)) (calls ++ made ∷ []) file before c ≡ LeftAfter made.call made.failed (read_through calls file) (LeftAt m calls file before) c
behind zero [] made file before c is = refl
behind (suc m) [] made file before c is = absurd (omega arith)
behind zero (first ∷ calls) made file before c is = absurd (omega arith)
behind (suc zero) (first ∷ calls) made file before c is = absurd (omega arith)
behind (suc (suc m)) (first ∷ calls) made file before c is =
    behind m calls made (read_after first file) (LeftAfter first.call first.failed file before) c (omega arith)

-- A list of calls, seen as a disk that began with this file.
module _ (file : List ℕ) (calls : List Made) (call : Call) (failed : Bool) where
  abbrev pub more : List Made
  more = calls ++ record { call = call; failed = failed } ∷ []

  pub moments_more : moments_of more ≡ moments_of calls + 2
  moments_more = omega (arith, length-append calls (record { call = call; failed = failed } ∷ []))

  -- a later moment is the one within the call or the one after it
  which : (m : ℕ) → moments_of calls < m → m ≤ moments_of more
      → (m ≡ suc (moments_of calls)) ⊎ (m ≡ suc (suc (moments_of calls)))
  which m gt le = elim (cases_eq m (suc (moments_of calls))) [
    | inl first ↦ inl first
    | inr other ↦ inr (omega (arith, moments_more))
  ]

  in_call : (c : List ℕ) → IsImage file more (suc (moments_of calls)) c
      ≡ LeftDuring call (IsImage file calls (moments_of calls)) c
  in_call c = within (moments_of calls) calls (record { call = call; failed = failed }) file (λ b. b ≡ file) c refl

  pub past_call : (c : List ℕ) → IsImage file more (suc (suc (moments_of calls))) c
      ≡ LeftAfter call failed (read_through calls file) (IsImage file calls (moments_of calls)) c
  past_call c = behind (moments_of calls) calls (record { call = call; failed = failed }) file (λ b. b ≡ file) c refl

  -- each step may be left at the moment within the call
  left_in : (m : ℕ) (d c : List ℕ) → m ≡ suc (moments_of calls)
      → IsImage file calls (moments_of calls) d → step_of call d c → IsImage file more m c
  left_in m d c is was step =
      let left = during_each call (IsImage file calls (moments_of calls)) d c was step in
      subst (λ k. IsImage file more k c) (sym is) (turn (sym (in_call c)) left)

  -- and at the one behind it
  left_behind : (m : ℕ) (d c : List ℕ) → IsLoose call failed → m ≡ suc (suc (moments_of calls))
      → IsImage file calls (moments_of calls) d → step_of call d c → IsImage file more m c
  left_behind m d c loose is was step =
      let left = after_each call failed (read_through calls file) (IsImage file calls (moments_of calls)) d c loose was step in
      subst (λ k. IsImage file more k c) (sym is) (turn (sym (past_call c)) left)

  pub goes_more : Goes moments_of (IsImage file) (step_of call) calls more
  goes_more = record {
    later = omega (arith, moments_more);
    kept = λ m c le left. turn (earlier m calls (record { call = call; failed = failed }) file (λ b. b ≡ file) c le) left;
    no_new = λ m c le left. turn (sym (earlier m calls (record { call = call; failed = failed }) file (λ b. b ≡ file) c le)) left;
    from = λ m c gt le left. elim (which m gt le) [
      | inl is ↦ during_from call (IsImage file calls (moments_of calls)) c (turn (in_call c) (subst (λ k. IsImage file more k c) is left))
      | inr is ↦ after_from call failed (read_through calls file) (IsImage file calls (moments_of calls)) c (reads_as_left calls file) (turn (past_call c) (subst (λ k. IsImage file more k c) is left))
    ];
  }

  pub each_within : LeavesEach moments_of (IsImage file) (step_of call) calls more (moments_of more - 1)
  each_within = record {
    each = λ m d c gt le was step. left_in m d c (omega (arith, moments_more)) was step;
  }

  pub each_more : IsLoose call failed → LeavesEach moments_of (IsImage file) (step_of call) calls more (moments_of more)
  each_more loose = record {
    each = λ m d c gt le was step. elim (which m gt le) [
      | inl is ↦ left_in m d c is was step
      | inr is ↦ left_behind m d c loose is was step
    ];
  }

-- what the moment after the call leaves
pub left_last : (file : List ℕ) (calls : List Made) (call : Call) (failed : Bool) (c : List ℕ)
    → IsImage file (more file calls call failed) (moments_of (more file calls call failed)) c
    → LeftAfter call failed (read_through calls file) (IsImage file calls (moments_of calls)) c
left_last file calls call failed c left =
    let is : moments_of (more file calls call failed) ≡ suc (suc (moments_of calls)) = omega (arith, moments_more file calls call failed) in
    turn (past_call file calls call failed c) (subst (λ k. IsImage file (more file calls call failed) k c) is left)
