-- Histories: committed transactions, and when a list of them is a serial run.
use Rattle.std.specs.Prelude.{◌≡◌, ℕ, ◌≤◌, List, [], ◌∷◌, fold, filter, nat_le, ⊤}
use Rattle.serial_model.specs.Numbers.{IsBelow}
use Rattle.serial_model.specs.State.{State}
use Rattle.serial_model.specs.Step.{step}
use Rattle.serial_model.specs.declared.decl.Decl.{Decl}
use Rattle.serial_model.specs.declared.op.Op.{Op}
use Rattle.serial_model.specs.declared.number.Number.{Number}
use Rattle.serial_model.specs.declared.reply.Reply.{Reply}
use Rattle.serial_model.specs.declared.reply.Verdict.{Verdict}

-- a committed transaction: whose line it is and in which round, its operations, and what was answered
pub record Entry : Type 0 where
  pub round : ℕ
  pub worker : ℕ
  pub line : ℕ
  pub ops : List Op
  pub verdict : Verdict
  pub number : Number
  pub replies : List Reply

-- the entry has R to each of these
abbrev pub Precedes : (Entry → Entry → Type 0) → Entry → List Entry → Type 0
Precedes R e [] = ⊤
Precedes R e (f ∷ fs) = R e f × Precedes R e fs

-- each entry has R to all that come after it, along the list
abbrev pub InOrder : (Entry → Entry → Type 0) → List Entry → Type 0
InOrder R [] = ⊤
InOrder R (e ∷ es) = Precedes R e es × InOrder R es

-- the numbers rise strictly along the list
abbrev pub Rises : List Entry → Type 0
Rises = InOrder (λ e f. IsBelow e.number f.number)

-- the epochs never fall along the list
abbrev pub EpochsNeverFall : List Entry → Type 0
EpochsNeverFall = InOrder (λ e f. e.number.epoch ≤ f.number.epoch)

-- the verdict and all replies are those of the transaction alone on the state
pub record AnswersAt (decls : List Decl) (s : State) (e : Entry) : Type 0 where
  pub verdict : e.verdict ≡ (step decls s e.ops).verdict
  pub replies : e.replies ≡ (step decls s e.ops).replies

-- the state that an entry's transaction leaves
abbrev pub state_after : List Decl → State → Entry → State
state_after decls s e = (step decls s e.ops).state

-- each entry's answers are those on the state which the ones before it leave, the first one's on s
abbrev pub AnswersAlong : List Decl → List Entry → State → Type 0
AnswersAlong decls [] s = ⊤
AnswersAlong decls (e ∷ es) s = AnswersAt decls s e × AnswersAlong decls es (state_after decls s e)

-- the entries, in this order, are a serial run from the state
pub record IsSerialRun (decls : List Decl) (s : State) (entries : List Entry) : Type 0 where
  pub rising : Rises entries
  pub epochs : EpochsNeverFall entries
  pub answers : AnswersAlong decls entries s

-- the state after a run, from s
abbrev pub state_after_all : List Decl → State → List Entry → State
state_after_all decls s entries = fold (state_after decls) s entries

-- the state as of an epoch: after the entries with epochs up to it
abbrev pub as_of : List Decl → State → List Entry → ℕ → State
as_of decls s entries epoch = state_after_all decls s (filter (λ e. nat_le e.number.epoch epoch) entries)
