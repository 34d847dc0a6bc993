-- Room was told one outcome more.
use Rattle.std.proofs.Common.{◌≡◌, ◌∙◌, ◌-◌, ◌++◌, ◌∷◌, ap, ℕ, List, []}
use Rattle.tx_script.specs.declared.outcome.Outcome.{Outcome}
use Rattle.tx_script.specs.Room.{RoomState, told_one}

-- room that was told this and is enough for so many lines and words
abbrev pub room_of : List Outcome → ℕ → ℕ → RoomState
room_of told left space = record { told = told; left = left; space = space }

pub one_more : (room : RoomState) (outcome : Outcome) (words : ℕ) (told : List Outcome) (left space : ℕ)
    → told ≡ room.told ++ outcome ∷ [] → left ≡ room.left - 1 → space ≡ room.space - words
    → room_of told left space ≡ told_one room outcome words
one_more room outcome words told left space more less fewer =
    ap (λ t. room_of t left space) more
    ∙ (ap (λ n. room_of (room.told ++ outcome ∷ []) n space) less
    ∙ ap (λ n. room_of (room.told ++ outcome ∷ []) (room.left - 1) n) fewer)
