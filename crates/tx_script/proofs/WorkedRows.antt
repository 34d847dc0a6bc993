-- Worked rows: what a few rounds print, how their epochs go, and the lines of a state's keys.
use Rattle.std.proofs.Common.{◌≡◌, refl, [], ◌∷◌, ◌++◌, Some}
use Rattle.std.specs.Prelude.{codes}
use Rattle.std.specs.Fmt.{digits}
use Rattle.serial_model.specs.declared.reply.Reply.TheVariants.{Value, Absent, Rows}
use Rattle.serial_model.specs.declared.reply.Verdict.TheVariants.{Done, Short}
use Rattle.tx_script.specs.declared.answer.Answer.TheVariants as answers
use Rattle.tx_script.specs.declared.outcome.Outcome.TheVariants.{Committed, Limit}
use Rattle.tx_script.specs.Run.{AdvancesTo}
use Rattle.tx_script.specs.Text.{lines_text}
use Rattle.tx_script.specs.StateText.{key_lines}
use Rattle.serial_model.specs.declared.decl.Decl.TheVariants.{Array, Tree}

-- two workers' lines, the keeper's and a durable epoch
two_workers : lines_text (
    (Committed Done (record { epoch = 1; draw = 1 }) (Value 7 ∷ Absent ∷ []) ∷ Limit ∷ [])
    ∷ []
    ∷ (Committed Short (record { epoch = 1; draw = 2 }) (Rows ((1, 10) ∷ (5, 50) ∷ []) ∷ Rows [] ∷ []) ∷ [])
    ∷ []
    ) (answers.Snap 1 2 ∷ answers.Drop 3 4 ∷ answers.Empty ∷ []) (Some 1)
    ≡ codes "0.0 ok 1:1 7 -" ++ 10 ∷ codes "0.1 limit" ++ 10 ∷ codes "2.0 short 1:2 1=10,5=50 ." ++ 10 ∷ codes "k.0 snap 1 new 2" ++ 10 ∷ codes "k.1 drop 3 kept 4" ++ 10 ∷ codes "k.2 none" ++ 10 ∷ codes "durable 1" ++ 10 ∷ []
unfolding digits
two_workers = refl

-- a round of `k epoch` and `k save`, which begins in epoch 1
epoch_and_save : lines_text ([] ∷ []) (answers.Epoch 2 ∷ answers.Save 1 ∷ []) (Some 2) ≡ codes "k.0 epoch 2" ++ 10 ∷ codes "k.1 save 1" ++ 10 ∷ codes "durable 2" ++ 10 ∷ []
unfolding digits
epoch_and_save = refl

epoch_and_save_advance : AdvancesTo 1 (answers.Epoch 2 ∷ answers.Save 1 ∷ []) 2
epoch_and_save_advance = (refl, refl)

-- of an array the keys whose value isn't 0, and of a tree those that are present
keys_of_both : key_lines (Array 1 4 ∷ Tree 2 ∷ []) (
    (record { storage = 1; key = 0 }, 0)
    ∷ (record { storage = 1; key = 2 }, 7)
    ∷ (record { storage = 2; key = 0 }, 0)
    ∷ (record { storage = 2; key = 5 }, 50)
    ∷ []
    ) ≡ codes "1 2 7" ++ 10 ∷ codes "2 0 0" ++ 10 ∷ codes "2 5 50" ++ 10 ∷ []
unfolding digits
keys_of_both = refl
