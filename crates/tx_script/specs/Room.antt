-- Room for the outcomes of one worker's lines.
use Rattle.std.specs.Prelude.{ℕ, ◌+◌, ◌-◌, List, [], ◌∷◌, ◌++◌}
use Rattle.serial_model.specs.declared.op.Op.{Op}
pub use Rattle.script_grammar.specs.ReplyRoom.{most_words, words_for}
use Rattle.tx_script.specs.declared.outcome.Outcome.{Outcome}

-- What room was told, for how many more lines it is enough, and for how many more words of their replies.
pub record RoomState : Type 0 where
  pub told : List Outcome
  pub left : ℕ
  pub space : ℕ

-- it was told one outcome more, with so many words of replies
abbrev pub told_one : RoomState → Outcome → ℕ → RoomState
told_one room outcome words =
    record { told = room.told ++ outcome ∷ []; left = room.left - 1; space = room.space - words }

-- the words that the replies of lines take at most
abbrev pub all_words : List (List Op) → ℕ
all_words [] = 0
all_words (ops ∷ lines) = most_words ops + all_words lines
