-- Outcomes as they lie in memory: a head for each, and the words of all replies in one list.
use Rattle.std.specs.Prelude.{◌≡◌, ℕ, ◌≤◌, Bool, List, [], ◌∷◌, length, take, drop}
use Rattle.serial_model.specs.ReplyWords.{AreReplyWords, replies_of}
use Rattle.serial_model.specs.declared.number.Number.{Number}
use Rattle.serial_model.specs.declared.reply.Reply.{Reply}
use Rattle.tx_script.specs.declared.outcome.Outcome.{Outcome}
use Rattle.tx_script.specs.declared.outcome.Outcome.TheVariants.{Committed, Conflict, Full, Wide, Limit, Unrun}
use Rattle.tx_script.specs.declared.outcome.LentOutcome.{LentOutcome}
use Rattle.tx_script.specs.declared.outcome.LentOutcome.TheVariants as lent
use Rattle.tx_script.specs.declared.outcomes.Head.{Head}
use Rattle.tx_script.specs.declared.outcomes.Kind.{Kind}
use Rattle.tx_script.specs.declared.outcomes.Kind.TheVariants as kinds
use Rattle.tx_script.specs.declared.outcomes.Refused.{Refused}
use Rattle.tx_script.specs.declared.outcomes.Refused.TheVariants as refusals
use Rattle.tx_script.specs.Run.{is_limit}

-- the outcome that is read
abbrev pub outcome_lent : LentOutcome → Outcome
outcome_lent (lent.Committed verdict number replies) = Committed verdict number replies
outcome_lent lent.Conflict = Conflict
outcome_lent lent.Full = Full
outcome_lent lent.Wide = Wide
outcome_lent lent.Limit = Limit
outcome_lent lent.Unrun = Unrun

-- the outcome of a line that was not committed
abbrev pub outcome_refused : Refused → Outcome
outcome_refused refusals.Conflict = Conflict
outcome_refused refusals.Full = Full
outcome_refused refusals.Wide = Wide
outcome_refused refusals.Limit = Limit
outcome_refused refusals.Unrun = Unrun

-- the outcome of this kind
abbrev pub outcome_of : Kind → Number → List Reply → Outcome
outcome_of (kinds.Committed verdict) number replies = Committed verdict number replies
outcome_of (kinds.Refused refused) number replies = outcome_refused refused

-- the outcome of a head whose replies lie in these words
abbrev pub outcome_in : Head → List ℕ → Outcome
outcome_in head words = outcome_of head.kind (record { epoch = head.epoch; draw = head.draw }) (replies_of words)

-- the outcomes of the heads, whose replies lie in the words one after another
abbrev pub outcomes_in : List Head → List ℕ → List Outcome
outcomes_in [] words = []
outcomes_in (head ∷ heads) words = outcome_in head (take head.count words) ∷ outcomes_in heads (drop head.count words)

-- each head has the words of some replies, and no words are left
abbrev pub AreOutcomeWords : List Head → List ℕ → Type 0
AreOutcomeWords [] words = words ≡ []
AreOutcomeWords (head ∷ heads) words =
    (head.count ≤ length words) × AreReplyWords (take head.count words) × AreOutcomeWords heads (drop head.count words)

-- the head is of a line that was refused a number
abbrev pub is_refused : Head → Bool
is_refused head = is_limit (outcome_of head.kind (record { epoch = head.epoch; draw = head.draw }) [])
