-- One log after another is flushed.
use Rattle.std.specs.Prelude.{◌≢◌, Result, Ok, Err, OnOk, OnErr, slice_get, slice_set}
use Rattle.std.proofs.Common.{◌≡◌, ◌≤◌, ◌<◌, ◌+◌, inl, inr, ℕ, zero, suc, List, [], ◌∷◌, Option, Some, length}
use Rattle.std.proofs.Common.{◌-◌, get_or, refl, sym, ◌∙◌, ap, subst, arith}
use Rattle.std.proofs.lemmas.Bool.{cases_eq}
use Rattle.std.proofs.lemmas.Option.{same_Some}
use Rattle.lists.specs.Elements.{at_below, at_set_same}
use Rattle.log_writer.specs.Journal.{Reaches}
use Rattle.log_writer.specs.declared.journal.LogFault.{LogFault}
use Rattle.log_writer.specs.declared.journal.LogFault.TheVariants.{Limit}
use Rattle.worker_logs.specs.Logs.{LogState, IsJoined}
use Rattle.worker_logs.specs.Moves.{MovesLog, refusal}
use Rattle.worker_logs.specs.FlushAll.{AllReach, WentSo, IsLeft, MarksLog, RefusesFlush, FlushedAs, FlushedTo}
use Rattle.worker_logs.specs.FlushAll.{FlushesAll}

-- ---- lists

-- an index within a list has an element
item_at : {X : Type 0} (xs : List X) (i : ℕ) → i < length xs → (x : X) × (slice_get xs i ≡ Some x)
item_at [] i within = absurd (omega (arith, within))
item_at (x ∷ xs) zero within = (x, refl)
item_at (x ∷ xs) (suc i) within = item_at xs i (omega (arith, within))

-- the element at an index is one
same_item : {X : Type 0} (xs : List X) (i : ℕ) (x y : X) → slice_get xs i ≡ Some x → slice_get xs i ≡ Some y → x ≡ y
same_item xs i x y first second = same_Some x y (sym first ∙ second)

-- whatever else is given where there is none
item_read : {X : Type 0} (xs : List X) (i : ℕ) (x other : X) → slice_get xs i ≡ Some x → get_or xs i other ≡ x
item_read [] i x other there = absurd cc
item_read (z ∷ zs) zero x other there = same_Some z x there
item_read (z ∷ zs) (suc i) x other there = item_read zs i x other there

-- ---- one log

module _ {D : Type 0} where
  -- the log and the log file at an index were replaced
  pub went_at : (R : LogState → LogState → D → D → Type 0) (logs : List LogState) (banks : List D) (worker : ℕ)
      (was log : LogState) (bank_was bank : D) → R (get_or logs worker was) log (get_or banks worker bank_was) bank
      → WentSo R worker logs (slice_set logs worker log) banks (slice_set banks worker bank)
  went_at R logs banks worker was log bank_was bank went w l b c at_w at_l at_b at_c =
      let same_log : log ≡ l =
      same_item (slice_set logs worker log) worker log l (at_set_same logs worker w log at_w) at_l in
      let same_bank : bank ≡ c =
      same_item (slice_set banks worker bank) worker bank c (at_set_same banks worker b bank at_b) at_c in
      subst (λ (x : LogState). R x l b c) (item_read logs worker w was at_w)
      (subst (λ (x : LogState). R (get_or logs worker was) x b c) same_log
      (subst (λ (x : D). R (get_or logs worker was) log x c) (item_read banks worker b bank_was at_b)
      (subst (λ (x : D). R (get_or logs worker was) log (get_or banks worker bank_was) x) same_bank went)))

  -- where the logs and the log files at an index are those of other lists
  went_as : (R : LogState → LogState → D → D → Type 0) (worker : ℕ) (old mid new : List LogState)
      (before between now : List D)
      → slice_get new worker ≡ slice_get mid worker → slice_get now worker ≡ slice_get between worker
      → WentSo R worker old mid before between → WentSo R worker old new before now
  went_as R worker old mid new before between now same same_bank went was log bank_was bank at_was at_log at_bank_was
      at_bank =
      went was log bank_was bank at_was (sym same ∙ at_log) at_bank_was (sym same_bank ∙ at_bank)

  -- where nothing came of a log before
  went_then : (R : LogState → LogState → D → D → Type 0) (worker : ℕ) (old mid new : List LogState)
      (before between now : List D)
      → length mid ≡ length old → length between ≡ length before → WentSo IsLeft worker old mid before between
      → WentSo R worker mid new between now → WentSo R worker old new before now
  went_then R worker old mid new before between now many many_banks left went was log bank_was bank at_was at_log
      at_bank_was at_bank =
      let here = item_at mid worker (omega (arith, at_below old worker was at_was, many)) in
      let there = item_at between worker (omega (arith, at_below before worker bank_was at_bank_was, many_banks)) in
      let same = left was here.0 bank_was there.0 at_was here.1 at_bank_was there.1 in
      subst (λ (b : D). R was log b bank) same.1
      (subst (λ (w : LogState). R w log there.0 bank) same.0
      (went here.0 log there.0 bank here.1 at_log there.1 at_bank))

  -- a log that was left alone reaches to what is durable
  pub left_reaches : (tells : D → Option (List ℕ)) (worker : ℕ) (old mid : List LogState) (before between : List D)
      → length mid ≡ length old → length between ≡ length before → AllReach tells old before
      → WentSo IsLeft worker old mid before between → (log : LogState) (bank : D) → slice_get mid worker ≡ Some log
      → slice_get between worker ≡ Some bank → Reaches tells bank log.journal
  left_reaches tells worker old mid before between many many_banks reaches left log bank at_log at_bank =
      let was = item_at old worker (omega (arith, at_below mid worker log at_log, many)) in
      let bank_was = item_at before worker (omega (arith, at_below between worker bank at_bank, many_banks)) in
      let same = left was.0 log bank_was.0 bank was.1 at_log bank_was.1 at_bank in
      subst (λ (b : D). Reaches tells b log.journal) (sym same.1)
      (subst (λ (l : LogState). Reaches tells bank_was.0 l.journal) (sym same.0)
      (reaches worker was.0 bank_was.0 was.1 bank_was.1))

-- ---- one after another

module _ {D : Type 0} {tells : D → Option (List ℕ)} {clock : D → ℕ} {image_at : D → ℕ → List ℕ → Type 0}
    {faults : D → ℕ} where
  -- a log was flushed and marked, or refused
  pub flushed_as : {T : Type 0} {was log : LogState} {bank_was bank : D} (epoch : ℕ) (result : Result T LogFault)
      → MovesLog tells clock image_at faults (epoch - 1) was log bank_was bank (refusal result)
      → OnOk result (IsJoined epoch log) → OnErr result (log.mark ≡ was.mark)
      → ((length : ℕ) → result ≢ Err (Limit length))
      → (was.journal.lines ≡ [] → log.journal ≡ was.journal)
      → FlushedAs tells clock image_at faults epoch result was log bank_was bank
  flushed_as epoch (Ok done) moves joined kept not_full nothing = record { moves = moves; joined = joined }
  flushed_as epoch (Err fault) moves joined kept not_full nothing = record {
    fault = fault;
    moves = moves;
    not_full = λ length is. not_full length (ap Err is);
    mark = kept;
    nothing = nothing;
  }

module _ {D : Type 0} {tells : D → Option (List ℕ)} {clock : D → ℕ} {image_at : D → ℕ → List ℕ → Type 0}
    {faults : D → ℕ} {epoch : ℕ} where
  -- one more was flushed and marked
  pub flushed_next : {old mid new : List LogState} {before between now : List D} {count : ℕ}
      → FlushedTo tells clock image_at faults epoch count old mid before between
      → ((other : ℕ) → other ≢ count → slice_get new other ≡ slice_get mid other)
      → ((other : ℕ) → other ≢ count → slice_get now other ≡ slice_get between other)
      → length new ≡ length mid → length now ≡ length between
      → WentSo (MarksLog tells clock image_at faults epoch) count mid new between now
      → FlushedTo tells clock image_at faults epoch (count + 1) old new before now
  flushed_next {old = old} {mid = mid} {new = new} {before = before} {between = between} {now = now} {count = count}
      to logs banks many_logs many_banks one = record {
        as_many_logs = many_logs ∙ to.as_many_logs;
        as_many_banks = many_banks ∙ to.as_many_banks;
        done = λ worker less. elim (cases_eq worker count) [
          | inl last ↦ subst (λ k. WentSo (MarksLog tells clock image_at faults epoch) k old new before now) (sym last)
              (went_then (MarksLog tells clock image_at faults epoch) count old mid new before between now
              to.as_many_logs to.as_many_banks (to.left count (omega arith)) one)
          | inr other ↦ went_as (MarksLog tells clock image_at faults epoch) worker old mid new before between now
              (logs worker other) (banks worker other) (to.done worker (omega (arith, less, other)))
        ];
        left = λ worker least. went_as IsLeft worker old mid new before between now
            (logs worker (λ is. omega (arith, least, is))) (banks worker (λ is. omega (arith, least, is)))
            (to.left worker (omega (arith, least)));
      }

  -- or it refused, and ends it
  pub flushed_failed : {T : Type 0} {old mid new : List LogState} {before between now : List D} {count : ℕ}
      → FlushedTo tells clock image_at faults epoch count old mid before between
      → ((other : ℕ) → other ≢ count → slice_get new other ≡ slice_get mid other)
      → ((other : ℕ) → other ≢ count → slice_get now other ≡ slice_get between other)
      → length new ≡ length mid → length now ≡ length between → count < length old
      → WentSo (RefusesFlush tells clock image_at faults epoch) count mid new between now
      → let result : Result T ℕ = Err count in FlushesAll tells clock image_at faults epoch old new before now result
  flushed_failed {old = old} {mid = mid} {new = new} {before = before} {between = between} {now = now} {count = count}
      to logs banks many_logs many_banks within one = record {
        as_many_logs = many_logs ∙ to.as_many_logs;
        as_many_banks = many_banks ∙ to.as_many_banks;
        within = λ failed is. let same : count ≡ failed = cc in subst (λ k. k < length old) same within;
        done = λ worker less. went_as (MarksLog tells clock image_at faults epoch) worker old mid new before between now
            (logs worker (λ is. omega (arith, less, is))) (banks worker (λ is. omega (arith, less, is)))
            (to.done worker less);
        failed = λ worker is. let same : count ≡ worker = cc in
            subst (λ k. WentSo (RefusesFlush tells clock image_at faults epoch) k old new before now) same
            (went_then (RefusesFlush tells clock image_at faults epoch) count old mid new before between now
            to.as_many_logs to.as_many_banks (to.left count (omega arith)) one);
        left = λ failed worker is later. let same : count ≡ failed = cc in
            went_as IsLeft worker old mid new before between now
            (logs worker (λ here. omega (arith, later, here, same)))
            (banks worker (λ here. omega (arith, later, here, same))) (to.left worker (omega (arith, later, same)));
      }

  -- all were flushed and marked
  pub flushed_all : {T : Type 0} {old new : List LogState} {before now : List D} {count : ℕ} (given : T)
      → FlushedTo tells clock image_at faults epoch count old new before now → length old ≤ count
      → let result : Result T ℕ = Ok given in FlushesAll tells clock image_at faults epoch old new before now result
  flushed_all {old = old} given to all = record {
    as_many_logs = to.as_many_logs;
    as_many_banks = to.as_many_banks;
    within = λ failed is. absurd cc;
    done = λ worker front was log bank_was bank at_was.
        to.done worker (omega (arith, all, at_below old worker was at_was)) was log bank_was bank at_was;
    failed = λ worker is. absurd cc;
    left = λ failed worker is. absurd cc;
  }
