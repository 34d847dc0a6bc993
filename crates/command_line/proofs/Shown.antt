-- The words of `snap`: each is a value of its one argument, but for one `--`.
use Rattle.std.proofs.Common.{◌≡◌, ◌∙◌, refl, sym, ap, subst, ℕ, ◌+◌, ◌≤◌, ◌==◌, Bool, true, false, List, [], ◌∷◌, ◌++◌, length, Some, None, inl, inr, arith, append-nil}
use Rattle.std.specs.Prelude.{codes, fold, option_and_then, ◌⊎◌}
use Rattle.std.specs.Str.{bytes_eq}
use Rattle.clap.specs.Kinds.{Kinds}
use Rattle.clap.specs.Walk.{Held, Row, Step, Text, Walk, idle, after_step, finished, nothing_held, rows_after, settled, walk, walk_from, walked, word_met}
use Rattle.clap.specs.Faults.{check_fault, defaults_fault, level_fault, settle_fault, step_fault, turn_fault, walk_fault, word_fault}
use Rattle.clap.proofs.OnLiterals.{clap_on_literals}
use Rattle.command_line.specs.Options.{epoch_of, epoch_range, snapshot, within}
use Rattle.command_line.proofs.Help.{IsFaulty, first_is, second_is}
use Rattle.command_line.proofs.Runs.{joined, one_turn}
use Rattle.command_line.proofs.Steps.{argument_row, showing}
use Rattle.command_line.proofs.Values.{HasBad, IsPlainWord, IsValue, bad_without, met_value, no_dash}

-- ---- where the walk stands

-- what is held after these values
abbrev held_after : List Text → Held
held_after [] = nothing_held
held_after (a ∷ more) = record { rows = []; pending = Some (codes "epoch", a ∷ []); skip = 0 }

-- the walk after these values, and after `--` or before it
abbrev after : Bool → List Text → Walk
after is_trailing values = record {
  held = held_after values;
  waiting = idle;
  position = length values + 1;
  is_trailing = is_trailing;
  stopped = None;
}

-- ---- one word

value_walk : (t : Bool) (word : Text) → IsValue t word → walked showing.rules [] (after t []) word ≡ after t (word ∷ [])
unfolding walked
value_walk true word is = refl
value_walk false word is =
    let w = after false [] in
    ap (λ (met : Held × Step). after_step showing.rules word w met.0 met.1) (met_value snapshot tt false 1 word w.held refl is)

-- a second value is a fault
stray_turn : (t : Bool) (a word : Text) → IsValue t word → IsFaulty (turn_fault showing [] (after t (a ∷ [])) word)
stray_turn true a word is = tt
stray_turn false a word is =
    let w = after false (a ∷ []) in
    let strays : Held × Step → Kinds = λ met. step_fault showing 2 met.0 met.1 in
    second_is (word_fault showing [] false idle word w.held) (strays (word_met showing.rules [] false idle 2 word w.held))
    (subst (λ (met : Held × Step). IsFaulty (strays met)) (sym (met_value snapshot tt false 2 word w.held refl is)) tt)

dash_walk : (values : List Text) (word : Text) → bytes_eq word (codes "--") ≡ true → walked showing.rules [] (after false values) word ≡ after true values
unfolding walked
dash_walk values word is = rw is refl

plain_turn : (d : ℕ) (ds : Text) → (d == 45) ≡ false → turn_fault showing [] (after false []) (d ∷ ds) ≡ []
unfolding clap_on_literals
plain_turn d ds e = rw (e, e) refl

-- ---- one plain word

turn_is : (word : Text) → IsPlainWord word → turn_fault showing [] (after false []) word ≡ []
turn_is word p = ap (turn_fault showing [] (after false [])) p.is ∙ plain_turn p.first p.more p.no_hyphen

walk_is : (word : Text) → IsPlainWord word → walked showing.rules [] (after false []) word ≡ after false (word ∷ [])
walk_is word p = value_walk false word (inr (no_dash word p))

one_word : (a : Text) → IsPlainWord a → walk_fault showing [] (walk_from nothing_held) (a ∷ []) ≡ []
unfolding walk_fault
one_word a p = one_turn showing (after false []) (after false (a ∷ [])) a [] (turn_is a p) (walk_is a p)

-- what clap keeps of the value
abbrev pub one_row : Text → List Row
one_row a = argument_row (codes "epoch") a ∷ []

one_end : (a : Text) → settle_fault showing.rules false (held_after (a ∷ [])) ≡ []
one_end a = refl

one_default : (a : Text) → defaults_fault (settled showing.rules (held_after (a ∷ []))).rows showing.rules ≡ []
unfolding clap_on_literals
one_default a = refl

one_check : (a : Text) → check_fault showing (finished showing.rules (held_after (a ∷ []))) false ≡ []
one_check a = refl

pub one_fault : (a : Text) → IsPlainWord a → level_fault showing [] nothing_held (a ∷ []) false [] ≡ []
one_fault a p =
    let end = (walk showing.rules [] nothing_held (a ∷ [])).held in
    let ends : end ≡ held_after (a ∷ []) = ap (λ (w : Walk). w.held) (walk_is a p) in
    joined (walk_fault showing [] (walk_from nothing_held) (a ∷ [])) (settle_fault showing.rules false end)
    (defaults_fault (settled showing.rules end).rows showing.rules) (check_fault showing (finished showing.rules end) false)
    (one_word a p)
    (ap (settle_fault showing.rules false) ends ∙ one_end a)
    (ap (λ (h : Held). defaults_fault (settled showing.rules h).rows showing.rules) ends ∙ one_default a)
    (ap (λ (h : Held). check_fault showing (finished showing.rules h) false) ends ∙ one_check a)

pub one_row_is : (a : Text) → IsPlainWord a → rows_after showing.rules [] (a ∷ []) ≡ one_row a
one_row_is a p = ap (λ (w : Walk). finished showing.rules w.held) (walk_is a p)

-- ---- words that are no numbers

-- the walk ends after at most one value, and that is no number
pub record EndsBadly (end : Walk) : Type 0 where
  pub is_trailing : Bool
  pub values : List Text
  pub few : length values ≤ 1
  pub bad : HasBad values
  pub is : end ≡ after is_trailing values

Spoils : Walk → List Text → Type 0
Spoils w words = IsFaulty (walk_fault showing [] w words) ⊎ EndsBadly (fold (walked showing.rules []) w words)

goes_on : (w v : Walk) (word : Text) (rest : List Text) → walked showing.rules [] w word ≡ v → Spoils v rest → Spoils w (word ∷ rest)
unfolding walk_fault Spoils
goes_on w v word rest is (inl faulty) =
    inl (second_is (turn_fault showing [] w word) _ (subst (λ (x : Walk). IsFaulty (walk_fault showing [] x rest)) (sym is) faulty))
goes_on w v word rest is (inr ends) = inr (subst (λ (x : Walk). EndsBadly (fold (walked showing.rules []) x rest)) (sym is) ends)

stops_here : (t : Bool) (a word : Text) (rest : List Text) → IsValue t word → Spoils (after t (a ∷ [])) (word ∷ rest)
unfolding walk_fault Spoils
stops_here t a word rest is = inl (first_is (turn_fault showing [] (after t (a ∷ [])) word) _ (stray_turn t a word is))

at_end : (t : Bool) (values : List Text) → length values ≤ 1 → HasBad values → Spoils (after t values) []
unfolding Spoils
at_end t values few bad = inr (record { is_trailing = t; values = values; few = few; bad = bad; is = refl })

no_more : (values : List Text) → HasBad (values ++ []) → HasBad values
no_more values has = subst HasBad (append-nil values) has

-- what the word makes of the walk
spoils_by : (t : Bool) (values : List Text) (word : Text) (rest : List Text) → length values ≤ 1 → IsValue t word
    → HasBad (values ++ word ∷ rest) → ((more : List Text) → length more ≤ 1 → HasBad (more ++ rest) → Spoils (after t more) rest)
    → Spoils (after t values) (word ∷ rest)
spoils_by t [] word rest few is has next = goes_on (after t []) (after t (word ∷ [])) word rest (value_walk t word is) (next (word ∷ []) (omega arith) has)
spoils_by t (a ∷ []) word rest few is has next = stops_here t a word rest is
spoils_by t (a ∷ b ∷ more) word rest few is has next = absurd (omega arith)

-- what the first word makes of the walk, by what the others do
spoils_on : (t : Bool) (values : List Text) (word : Text) (rest : List Text) → length values ≤ 1 → HasBad (values ++ word ∷ rest)
    → ((u : Bool) (more : List Text) → length more ≤ 1 → HasBad (more ++ rest) → Spoils (after u more) rest) → Spoils (after t values) (word ∷ rest)
spoils_on t values word rest few has others = go t (bytes_eq word (codes "--")) refl
  where
    go : (u b : Bool) → bytes_eq word (codes "--") ≡ b → Spoils (after u values) (word ∷ rest)
    go true b is = spoils_by true values word rest few (inl refl) has (others true)
    go false true is = goes_on (after false values) (after true values) word rest (dash_walk values word is) (others true values few (bad_without values word rest is has))
    go false false is = spoils_by false values word rest few (inr is) has (others false)

spoils : (words : List Text) (t : Bool) (values : List Text) → length values ≤ 1 → HasBad (values ++ words) → Spoils (after t values) words
spoils [] t values few has = at_end t values few (no_more values has)
spoils (word ∷ rest) t values few has = spoils_on t values word rest few has (spoils rest)

-- ---- no snapshot is asked for

-- the rows at the end, which are of at most one value
rows_of_values : List Text → List Row
rows_of_values values = finished showing.rules (held_after values)

no_epoch : (values : List Text) → length values ≤ 1 → HasBad values → epoch_of (rows_of_values values) ≡ None
unfolding rows_of_values
no_epoch [] few has = absurd has
no_epoch (a ∷ []) few (inl bad) = ap (option_and_then (within epoch_range)) bad.no_number
no_epoch (a ∷ []) few (inr has) = absurd has
no_epoch (a ∷ b ∷ more) few has = absurd (omega arith)

-- words among which one is no number are in no order for clap, or no snapshot is asked for
pub bad_epoch : (words : List Text) → HasBad words
    → IsFaulty (level_fault showing [] nothing_held words false []) ⊎ (epoch_of (rows_after showing.rules [] words) ≡ None)
unfolding Spoils rows_of_values
bad_epoch words has = go (spoils words false [] (omega arith) has)
  where
    go : IsFaulty (walk_fault showing [] (walk_from nothing_held) words) ⊎ EndsBadly (fold (walked showing.rules []) (walk_from nothing_held) words)
        → IsFaulty (level_fault showing [] nothing_held words false []) ⊎ (epoch_of (rows_after showing.rules [] words) ≡ None)
    go (inl faulty) = inl (first_is (walk_fault showing [] (walk_from nothing_held) words) _ faulty)
    go (inr ends) =
        inr (ap (λ (w : Walk). epoch_of (finished showing.rules w.held)) ends.is ∙ no_epoch ends.values ends.few ends.bad)
