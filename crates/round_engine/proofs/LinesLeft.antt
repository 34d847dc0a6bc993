-- What the lines of a round leave of each log, whether they were all run or only some first ones.
use Rattle.std.proofs.Common.{◌≡◌, ◌∙◌, ◌≤◌, ◌+◌, ◌∷◌, sym, ap, subst, refl, ℕ, zero, suc, List, []}
use Rattle.std.proofs.Common.{get_or, length, map, Option, Some, None, arith}
use Rattle.std.specs.Prelude.{slice_get}
use Rattle.std.specs.List.{AllByRecursion}
use Rattle.std.proofs.lemmas.Option.{same_Some}
use Rattle.lists.specs.Each.{all_at}
use Rattle.lists.specs.Fronts.{IsFront}
use Rattle.log_writer.specs.declared.vault.Vault.{Vault}
use Rattle.serial_model.specs.declared.number.Commit.{Commit}
use Rattle.serial_model.specs.declared.op.Op.{Op}
use Rattle.wire_form.specs.LogFile.{lines_bytes}
use Rattle.script_grammar.specs.Script.{Round, lines_of_worker}
use Rattle.log_writer.specs.Journal.{Reaches, end_of}
use Rattle.worker_logs.specs.Logs.{IsJoined, LogGoesOn, LogState, log_limit}
use Rattle.worker_logs.specs.Rows.{AreLogsUp, Blames, KeepsMarkIn}
use Rattle.worker_logs.specs.Shown.{LogShows, Stood}
use Rattle.shared_rounds.specs.Shares.{shown_epochs}
use Rattle.round_engine.specs.Logs.{IsFirstAt, IsLongerBy}
use Rattle.round_engine.specs.Shares.{Share, logged_in}
use Rattle.round_engine.specs.Sides.{growing_in}
use Rattle.round_engine.specs.Standing.{AreUp, RuntimeState, Standing, StandsOn}
use Rattle.round_engine.specs.Workers.{RunsOver, idled}
use Rattle.round_engine.proofs.LogsLeft.{goes_none, worker_leaves}
use Rattle.round_engine.proofs.Numbered.{growing_at}
use Rattle.round_engine.proofs.SharesRun.{logged_some}
use Rattle.round_engine.proofs.Whole.{LogsTotal, below_8}
use Rattle.round_engine.proofs.Places.{item_at}

-- a front of nothing is nothing
pub front_nothing : {X : Type 0} (xs ys : List X) → IsFront xs ys → ys ≡ [] → xs ≡ []
front_nothing [] ys front is = refl
front_nothing (x ∷ xs) [] front is = absurd cc
front_nothing (x ∷ xs) (y ∷ ys) front is = absurd cc

-- the logs as they are where nothing is down
pub logs_up : {D : Type 0} {tells : D → Option (List ℕ)} {clock : D → ℕ} {image_at : D → ℕ → List ℕ → Type 0}
    {r : RuntimeState} {vault : Vault D} → StandsOn tells clock image_at r vault → AreUp r
    → AreLogsUp tells r.logs (growing_in r.side vault)
logs_up {r = r} {vault = vault} stands up w log bank at bank_at = record {
  up = all_at (λ (l : LogState). l.journal.down ≡ None) r.logs w log up.logs at;
  limit = all_at (λ (l : LogState). l.journal.limit ≡ log_limit) r.logs w log stands.limits at;
  reaches = stands.reaches w log bank at (growing_at r.side vault w ∙ bank_at);
}

-- ---- the marks that were shown

-- those of the worker of this number
abbrev pub shown_in : List Share → ℕ → List Stood
shown_in [] n = []
shown_in (share ∷ shares) zero = share.marks
shown_in (share ∷ shares) (suc n) = shown_in shares n

pub shown_some : (shares : List Share) (n : ℕ) (p : Share) → slice_get shares n ≡ Some p → shown_in shares n ≡ p.marks
shown_some [] n p at = absurd cc
shown_some (q ∷ shares) zero p at = ap (λ (x : Share). x.marks) (same_Some q p at)
shown_some (q ∷ shares) (suc n) p at = shown_some shares n p at

pub shown_get : (shares : List Share) (w : ℕ)
    → get_or (map (λ (share : Share). share.marks) shares) w [] ≡ shown_in shares w
shown_get [] w = refl
shown_get (q ∷ shares) zero = refl
shown_get (q ∷ shares) (suc w) = shown_get shares w

-- and their epochs
pub shown_told : (shares : List Share) (w : ℕ) (epochs : List (Option ℕ))
    → slice_get (map shown_epochs (map (λ (share : Share). share.marks) shares)) w ≡ Some epochs
    → shown_epochs (shown_in shares w) ≡ epochs
shown_told [] w epochs at = absurd cc
shown_told (q ∷ shares) zero epochs at = same_Some (shown_epochs q.marks) epochs at
shown_told (q ∷ shares) (suc w) epochs at = shown_told shares w epochs at

module _ {D : Type 0} (tells : D → Option (List ℕ)) (clock : D → ℕ) (image_at : D → ℕ → List ℕ → Type 0)
    (faults : D → ℕ) where
  -- what the lines did to it, at epochs of the clock from the first of these to the last
  pub record LinesAt (low high : ℕ) (logged : List Commit) (shown : List Stood) (old new : LogState) (before now : D)
      : Type 0 where
    pub shows : LogShows tells clock image_at low high logged shown old new before now
    pub longer : IsLongerBy logged old new
    pub first : IsFirstAt (clock before) shown
    pub mark : KeepsMarkIn low high old new
    pub blames : Blames faults before now new.journal
    pub reaches : Reaches tells now new.journal
    pub limit : new.journal.limit ≡ old.journal.limit

  -- what comes behind the lines, which ran at epochs of the clock from the first of these to the last: the join, or
  -- nothing
  pub record LastStep (begin end : ℕ) (lines log : LogState) (between now : D) : Type 0 where
    pub epoch : ℕ
    pub later : begin ≤ epoch + 1
    pub most : end ≤ epoch + 1
    pub goes : LogGoesOn tells clock image_at epoch lines log between now
    pub stays : end_of log.journal ≡ end_of lines.journal
    pub blames : (first : D) → Blames faults first between lines.journal → Blames faults first now log.journal
    pub reaches : Reaches tells between lines.journal → Reaches tells now log.journal

-- a worker without a line has the log file that it had
idled_end : (lines : List (List Op)) (log : LogState) → end_of (idled lines log).journal ≡ end_of log.journal
idled_end [] log = refl
idled_end (ops ∷ lines) log = refl

module _ {D : Type 0} {tells : D → Option (List ℕ)} {clock : D → ℕ} {image_at : D → ℕ → List ℕ → Type 0}
    {faults : D → ℕ} where
  -- ---- one log

  pub lines_at : {tries : ℕ} {s t : Standing} {shares : List Share} {logs_was logs : List LogState}
      {banks_was banks : List D} (w : ℕ) {old new : LogState} {before now : D}
      → RunsOver tells clock image_at faults tries s t shares logs_was logs banks_was banks
      → length logs_was ≡ 8
      → slice_get logs_was w ≡ Some old → slice_get logs w ≡ Some new
      → slice_get banks_was w ≡ Some before → slice_get banks w ≡ Some now
      → LinesAt tells clock image_at faults s.clock.epoch t.clock.epoch (logged_in shares w) (shown_in shares w) old new
      before now
  lines_at {s = s} {t = t} {shares = shares} {logs_was = logs_was} w {old = old} {new = new} {before = before} {now = now} over
      many was is bank_was bank_is =
      let p = item_at shares w (omega (arith, below_8 logs_was w old was many, over.runs.workers)) in
      let left = over.each w p.0 old new before now p.1 was is bank_was bank_is in
      subst (λ l. LinesAt tells clock image_at faults s.clock.epoch t.clock.epoch l
      (shown_in shares w) old new before now)
      (sym (logged_some shares w p.0 p.1))
      (subst (λ m. LinesAt tells clock image_at faults s.clock.epoch t.clock.epoch p.0.logged m old new before now)
      (sym (shown_some shares w p.0 p.1))
      (record {
        shows = left.shows;
        longer = left.longer;
        first = left.first;
        mark = left.mark;
        blames = left.blames;
        reaches = left.reaches;
        limit = left.limit;
      }))

  pub last_none : (begin end : ℕ) (log : LogState) (bank : D) → begin ≤ end
      → LastStep tells clock image_at faults begin end log log bank bank
  last_none begin end log bank rises = record {
    epoch = end;
    later = omega (arith, rises);
    most = omega arith;
    goes = goes_none end log bank;
    stays = refl;
    blames = λ first blames. blames;
    reaches = λ reaches. reaches;
  }

  -- ---- all logs

  pub logs_total : (round : Round) {tries : ℕ} {s t : Standing} {shares : List Share} {start old mid new : List LogState}
      {before between now : List D}
      → RunsOver tells clock image_at faults tries s t shares start mid before between
      → length start ≡ 8 → length old ≡ 8 → length new ≡ 8 → length before ≡ 8 → length now ≡ 8
      → 1 ≤ s.clock.epoch
      → AllByRecursion (IsJoined s.clock.epoch) old
      → ((w : ℕ) (log : LogState) → slice_get old w ≡ Some log → slice_get start w ≡ Some (idled (lines_of_worker round w) log))
      → ((w : ℕ) → lines_of_worker round w ≡ [] → logged_in shares w ≡ [])
      → ((w : ℕ) (lines log : LogState) (was is : D) → slice_get mid w ≡ Some lines → slice_get new w ≡ Some log
      → slice_get between w ≡ Some was → slice_get now w ≡ Some is
      → LastStep tells clock image_at faults s.clock.epoch t.clock.epoch lines log was is)
      → LogsTotal tells clock image_at faults (logged_in shares) (shown_in shares) old new before now
  logs_total round {s = s} {t = t} {shares = shares} {start = start} {old = old} {mid = mid} {new = new}
      {before = before} {between = between} {now = now} over start_many old_many new_many before_many now_many some
      joined idle none last =
      record {
        old_many = old_many;
        new_many = new_many;
        before_many = before_many;
        now_many = now_many;
        each = λ w was log bank_was bank at_was at_log at_bank_was at_bank.
            let below = below_8 old w was at_was old_many in
            let begins = item_at start w (omega (arith, below, start_many)) in
            let lines = item_at mid w (omega (arith, below, over.logs_length, start_many)) in
            let mid_bank = item_at between w (omega (arith, below, over.banks_length, before_many)) in
            let one = lines_at w over start_many begins.1 lines.1 at_bank_was mid_bank.1 in
            let step = last w lines.0 log mid_bank.0 bank lines.1 at_log mid_bank.1 at_bank in
            let begins_is : idled (lines_of_worker round w) was ≡ begins.0 =
            same_Some _ begins.0 (sym (idle w was at_was) ∙ begins.1) in
            record {
              leaves = λ commits durable is.
                  worker_leaves some step.later (omega (arith, over.runs.epoch, step.most))
                  (all_at (IsJoined s.clock.epoch) old w was joined at_was) (none w)
                  (subst (λ x. LogShows tells clock image_at s.clock.epoch t.clock.epoch (logged_in shares w)
                  (shown_in shares w) x lines.0 bank_was mid_bank.0) (sym begins_is) one.shows)
                  step.goes commits durable is;
              longer = step.stays ∙ subst (λ n. end_of lines.0.journal ≡ n + length (lines_bytes (logged_in shares w)))
                  (ap (λ (l : LogState). end_of l.journal) (sym begins_is) ∙ idled_end (lines_of_worker round w) was)
                  one.longer;
              first = one.first;
              blames = step.blames bank_was one.blames;
              reaches = step.reaches one.reaches;
            };
      }
