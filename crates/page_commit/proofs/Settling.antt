-- How a seat comes to rest.
use Rattle.std.proofs.Common.{◌≡◌, ℕ, Bool, true, false, true≢false, cond, eqb, List, [], ◌∷◌, length}
use Rattle.std.proofs.Common.{refl, sym, ap, ◌∙◌, arith}
use Rattle.std.proofs.lemmas.Bool.Decides.{nat_tests}
use Rattle.serial_model.specs.declared.key.Key.{Key}
use Rattle.commit_core.specs.declared.seat.Seat.{Seat}
use Rattle.commit_core.specs.declared.seat.Stage.{Stage}
use Rattle.commit_core.specs.declared.seat.Stage.TheVariants.{Idle, Trying, Ended, Decided}
use Rattle.commit_core.specs.CoreState.{can_begin, settled, settled_at}

pub settled_locks : (s : Seat) → (settled s).locks ≡ s.locks
settled_locks s = by_lock (eqb (length s.locks) 0)
  where
    by_stage : (stage : Stage) → (settled_at stage s).locks ≡ s.locks
    by_stage Idle = refl
    by_stage (Trying i) = refl
    by_stage Ended = refl
    by_stage (Decided i) = refl

    by_lock : (b : Bool) → (cond b (settled_at s.stage s) s).locks ≡ s.locks
    by_lock true = by_stage s.stage
    by_lock false = refl

pub settled_marks : (s : Seat) → (settled s).marks ≡ s.marks
settled_marks s = by_lock (eqb (length s.locks) 0)
  where
    by_stage : (stage : Stage) → (settled_at stage s).marks ≡ s.marks
    by_stage Idle = refl
    by_stage (Trying i) = refl
    by_stage Ended = refl
    by_stage (Decided i) = refl

    by_lock : (b : Bool) → (cond b (settled_at s.stage s) s).marks ≡ s.marks
    by_lock true = by_stage s.stage
    by_lock false = refl

-- with locks left nothing changes
pub settled_open : (s : Seat) (k : Key) (more : List Key) → s.locks ≡ k ∷ more → settled s ≡ s
settled_open s k more e =
    ap (λ (l : List Key). cond (eqb (length l) 0) (settled_at s.stage s) s) e
    ∙ (let some : eqb (length (k ∷ more)) 0 ≡ false = grind (arith, nat_tests) in
    ap (λ (b : Bool). cond b (settled_at s.stage s) s) some)

-- without locks a decided attempt is over
pub settled_last : (s : Seat) (i : ℕ) → s.locks ≡ [] → s.stage ≡ Decided i
    → settled s ≡ record s { kept = []; put = []; stage = Idle }
settled_last s i none stage =
    ap (λ (l : List Key). cond (eqb (length l) 0) (settled_at s.stage s) s) none
    ∙ ap (λ (y : Stage). settled_at y s) stage

pub settled_begin : (s : Seat) → can_begin s.stage ≡ true → can_begin (settled s).stage ≡ true
settled_begin s e = by_lock (eqb (length s.locks) 0)
  where
    by_stage : (stage : Stage) → stage ≡ s.stage → can_begin (settled_at stage s).stage ≡ true
    by_stage Idle is = e
    by_stage (Trying i) is = e
    by_stage Ended is = refl
    by_stage (Decided i) is = refl

    by_lock : (b : Bool) → can_begin (cond b (settled_at s.stage s) s).stage ≡ true
    by_lock true = by_stage s.stage refl
    by_lock false = e

pub settled_ends : (s : Seat) → s.locks ≡ [] → can_begin s.stage ≡ true → (settled s).stage ≡ Idle
settled_ends s none e =
    ap (λ (l : List Key). (cond (eqb (length l) 0) (settled_at s.stage s) s).stage) none ∙ by_stage s.stage refl e
  where
    by_stage : (stage : Stage) → stage ≡ s.stage → can_begin stage ≡ true → (settled_at stage s).stage ≡ Idle
    by_stage Idle is e = sym is
    by_stage (Trying i) is e = absurd (true≢false (sym e))
    by_stage Ended is e = refl
    by_stage (Decided i) is e = absurd (true≢false (sym e))
