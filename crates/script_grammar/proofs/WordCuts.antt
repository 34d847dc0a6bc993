-- Words by their index, as a loop goes over them.
use Rattle.std.proofs.Common.{◌≡◌, ℕ, Bool, true, false, cond, List, [], ◌∷◌, None, refl}
use Rattle.std.specs.Prelude.{◌==◌}
use Rattle.std.specs.List.{onto_first}
use Rattle.script_grammar.specs.Script.{Bytes}
use Rattle.script_grammar.specs.Words.{words}
use Rattle.script_grammar.specs.Reading.{op_in, decl_at}

-- a byte before words begins a word or ends one
before_words : (space : Bool) (b : ℕ) (ws : List Bytes) → (first : Bytes) × (others : List Bytes) × (cond space ([] ∷ ws) (onto_first b ws) ≡ first ∷ others)
before_words true b ws = ([], ws, refl)
before_words false b [] = (b ∷ [], [], refl)
before_words false b (w ∷ ws) = (b ∷ w, ws, refl)

-- there is some word
some_word : (bs : Bytes) → (first : Bytes) × (others : List Bytes) × (words bs ≡ first ∷ others)
some_word [] = ([], [], refl)
some_word (b ∷ bs) = before_words (b == 32) b (words bs)

-- a declaration has no fourth word
pub no_fourth : (line a b c rest : Bytes) → words line ≡ a ∷ b ∷ c ∷ words rest → decl_at line ≡ None
unfolding decl_at
no_fourth line a b c rest e = let more = some_word rest in rw (e, more.2) refl

-- an operation has no fifth word
pub no_fifth : (part a b c d rest : Bytes) → words part ≡ a ∷ b ∷ c ∷ d ∷ words rest → op_in (words part) ≡ None
no_fifth part a b c d rest e = let more = some_word rest in rw (e, more.2) refl
