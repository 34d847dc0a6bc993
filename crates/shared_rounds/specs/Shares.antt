-- What the workers' lines of a round come to: what came of each line, and an order in which the commits are serial.
-- Nothing is said of the order in which the workers ran: their commits may lie among each other, in any order of their
-- numbers.
use Rattle.std.specs.Prelude.{◌≡◌, ◌<◌, ◌≤◌, ◌+◌, ◌-◌, ◌++◌, ℕ, zero, suc, List, [], ◌∷◌, length, map, Option}
use Rattle.std.specs.Prelude.{None, Some}
use Rattle.std.specs.List.{AllByRecursion}
use Rattle.std.specs.List.Sorted.{IsPermutation}
use Rattle.serial_model.specs.History.{Entry, InOrder, IsSerialRun, Rises, state_after_all}
use Rattle.serial_model.specs.declared.decl.Decl.{Decl}
use Rattle.serial_model.specs.declared.number.Commit.{Commit}
use Rattle.serial_model.specs.declared.op.Op.{Op}
use Rattle.wire_form.specs.LogFile.{IsLineOf}
use Rattle.tx_script.specs.Causes.{UnrunLast}
use Rattle.tx_script.specs.Causes.{IsTryCause}
use Rattle.tx_script.specs.Conflicts.{WorkersMet}
use Rattle.tx_script.specs.Draws.{commit_count, lost_of}
use Rattle.tx_script.specs.Run.{IsBetween, LogRefusal, TryRefusal, entries_of_workers, of_worker}
use Rattle.tx_script.specs.Readied.{AreReadied, Readied}
use Rattle.tx_script.specs.Seen.{AreMarksInOrder}
use Rattle.tx_script.specs.Tries.{AllCome}
use Rattle.tx_script.specs.declared.outcome.Outcome.{Outcome}
use Rattle.worker_logs.specs.Shown.{Stood}
use Rattle.shared_rounds.specs.Changes.{AreLogged}
use Rattle.shared_rounds.specs.Refusals.{AreWordsTold, causes_of}
use Rattle.shared_rounds.specs.Standing.{Standing}

-- A worker's share of a round: its lines, what came of each of them, the refusals of the tries of each, what refused
-- its log, if anything did, and what its commits logged; the marks of its log that others were shown meanwhile, and
-- what it had as each line began that was run. The engine has each of the refusals (`RunsShares.refused`).
pub record Share : Type 0 where
  pub lines : List (List Op)
  pub outcomes : List Outcome
  pub tries_refused : List (List TryRefusal)
  pub refusal : Option LogRefusal
  pub logged : List Commit
  pub marks : List Stood
  pub readied : List Readied

-- the epochs of marks that were shown
abbrev pub shown_epochs : List Stood → List (Option ℕ)
shown_epochs marks = map (λ (m : Stood). m.mark.epoch) marks

-- what the worker of this number logged
abbrev pub logged_in : List Share → ℕ → List Commit
logged_in [] n = []
logged_in (share ∷ shares) zero = share.logged
logged_in (share ∷ shares) (suc n) = logged_in shares n

-- The marks of a worker with these lines begin so, in a round that began in this epoch: without a line it has one,
-- which is idle; else the first one is of the epoch before.
abbrev pub BeginsAt : ℕ → List (List Op) → List Stood → Type 0
BeginsAt epoch lines [] = ⊥
BeginsAt epoch [] (m ∷ more) = (m.mark.epoch ≡ None) × (more ≡ [])
BeginsAt epoch (ops ∷ lines) (m ∷ more) = m.mark.epoch ≡ Some (epoch - 1)

-- A worker's share, of a round that began in this epoch: each line has an outcome with its cause, behind a line that
-- was left out none was run, and what was logged are log lines. The epochs of its marks never fall; as each line began
-- that was run, its mark was at least the clock's epoch that it had loaded for the line, less 1.
pub record IsShare (decls : List Decl) (epoch first last tries : ℕ) (share : Share) : Type 0 where
  pub one_each : length share.outcomes ≡ length share.lines
  pub come : AllCome first last tries share.refusal share.outcomes share.tries_refused
  pub unrun_last : UnrunLast share.outcomes
  pub lines_are : AllByRecursion (IsLineOf decls) share.logged
  pub none : share.lines ≡ [] → share.logged ≡ []
  pub rise : AreMarksInOrder (shown_epochs share.marks)
  pub readied : AreReadied epoch 0 (shown_epochs share.marks) share.readied share.outcomes

-- ---- the commits

-- the commits of the shares in a round of this index, one worker after another
abbrev pub entries_in : ℕ → List Share → List Entry
entries_in index shares =
    entries_of_workers index 0 (map (λ (share : Share). share.outcomes) shares)
    (map (λ (share : Share). share.lines) shares)

-- In one order of them the commits are a serial run from s to t, with numbers that rise and lie between the clocks.
-- Each worker's numbers rise along its lines, and its log has what its own commits changed, in that order.
pub record AreOrdered (index : ℕ) (s t : Standing) (shares : List Share) : Type 0 where
  pub ordered : List Entry
  pub same : IsPermutation (entries_in index shares) ordered
  pub serial : IsSerialRun s.decls s.state ordered
  pub draws : InOrder (λ e f. e.number.draw < f.number.draw) ordered
  pub after : t.state ≡ state_after_all s.decls s.state ordered
  pub numbers : AllByRecursion (λ e. IsBetween s.clock t.clock e.number) ordered
  pub workers : (worker : ℕ) → Rises (of_worker worker (entries_in index shares))
  pub logged : (worker : ℕ) → worker < 8 → AreLogged s.decls worker s.state ordered (logged_in shares worker)

-- The lines of eight workers were run from s to t, each with so many tries. Contents, clock, the attempts that count
-- and the refusals change alone, and which marks were met, which pages are published, and what drops came to; the clock
-- may be in a later epoch then, where the maintenance thread's lines ran beside them. Each number was drawn for a
-- commit of theirs, or for a try of theirs that was refused behind its draw. The engine has each refusal that is told
-- of a try, whole, and no others: worker by worker, line by line and try by try. Each conflict that is told of a line
-- at a record of an array is with a line of another worker, or pages were dropped meanwhile; one on the way to a key is
-- of a line that touches it, at a word that is on the way there; a line that was to be given a slot may change some
-- key. Where a try found no slot usable, the words of all slots are told; where one filled a set, its line has an
-- operation on a tree.
pub record RunsShares (tries : ℕ) (s t : Standing) (shares : List Share) : Type 0 where
  pub workers : length shares ≡ 8
  pub only : t ≡ record s {
    state = t.state;
    clock = t.clock;
    mine = t.mine;
    refused = t.refused;
    met = t.met;
    pages = t.pages;
    drops = t.drops;
  }
  pub epoch : s.clock.epoch ≤ t.clock.epoch
  pub draw : t.clock.draw ≡ s.clock.draw + commit_count (map (λ (share : Share). share.outcomes) shares)
      + lost_of (map (λ (share : Share). share.tries_refused) shares)
  pub met : WorkersMet s.decls (map (λ (share : Share). share.lines) shares) (t.drops ≡ s.drops → ⊥) 0
      (map (λ (share : Share). share.lines) shares) (map (λ (share : Share). share.tries_refused) shares)
  pub caused : AllByRecursion (λ (share : Share).
      AllByRecursion (AllByRecursion (IsTryCause s.slots)) share.tries_refused) shares
  pub words : AreWordsTold s.decls s.slots (map (λ (share : Share). share.tries_refused) shares)
  pub refused : t.refused ≡ s.refused ++ causes_of (map (λ (share : Share). share.tries_refused) shares)
  pub each : AllByRecursion (IsShare s.decls s.clock.epoch s.clock.draw t.clock.draw tries) shares
  pub ordered : (index : ℕ) → AreOrdered index s t shares
