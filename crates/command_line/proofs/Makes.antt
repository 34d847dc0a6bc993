-- The words of `make`: each is a value of the next argument, but for one `--`.
use Rattle.std.proofs.Common.{◌≡◌, ◌∙◌, refl, sym, ap, subst, ℕ, ◌+◌, ◌≤◌, ◌==◌, Bool, true, false, List, [], ◌∷◌, ◌++◌, length, Option, Some, None, inl, inr, arith, append_assoc, append-nil, length-append}
use Rattle.std.specs.Prelude.{codes, fold, option_and_then, option_map, ◌⊎◌}
use Rattle.std.specs.Str.{bytes_eq}
use Rattle.clap.specs.Kinds.{Kinds}
use Rattle.clap.specs.Walk.{Held, Row, Step, Text, Walk, idle, after_step, finished, nothing_held, rows_after, settled, walk, walk_from, walked, word_met}
use Rattle.clap.specs.Faults.{check_fault, defaults_fault, level_fault, settle_fault, step_fault, turn_fault, walk_fault, word_fault}
use Rattle.clap.proofs.OnLiterals.{clap_on_literals}
use Rattle.command_line.specs.Options.{arguments_of, lines_range, number_in, seed_range, within, workers_range}
use Rattle.command_line.specs.declared.command.MakeArguments.{MakeArguments}
use Rattle.command_line.specs.declared.number.Range.{Range}
use Rattle.command_line.proofs.Help.{IsFaulty, first_is, second_is}
use Rattle.command_line.proofs.Runs.{joined, one_turn}
use Rattle.command_line.specs.Options.{make}
use Rattle.command_line.proofs.Steps.{argument_row, making}
use Rattle.command_line.proofs.Values.{HasBad, IsBad, IsPlainWord, IsValue, bad_without, met_value, no_dash}

-- ---- where the walk stands

-- what is held after these values
abbrev pub held_after : List Text → Held
held_after [] = nothing_held
held_after (a ∷ []) = record { rows = []; pending = Some (codes "seed", a ∷ []); skip = 0 }
held_after (a ∷ b ∷ []) = record { rows = argument_row (codes "seed") a ∷ []; pending = Some (codes "workers", b ∷ []); skip = 0 }
held_after (a ∷ b ∷ c ∷ more) = record {
  rows = argument_row (codes "seed") a ∷ argument_row (codes "workers") b ∷ [];
  pending = Some (codes "lines", c ∷ []);
  skip = 0;
}

-- the walk after these values, and after `--` or before it
abbrev pub after : Bool → List Text → Walk
after is_trailing values = record {
  held = held_after values;
  waiting = idle;
  position = length values + 1;
  is_trailing = is_trailing;
  stopped = None;
}

-- ---- one word

value_walk : (t : Bool) (values : List Text) (word : Text) → length values ≤ 2 → IsValue t word
    → walked making.rules [] (after t values) word ≡ after t (values ++ word ∷ [])
unfolding walked
value_walk true [] word few is = refl
value_walk true (a ∷ []) word few is = refl
value_walk true (a ∷ b ∷ []) word few is = refl
value_walk false [] word few is =
    let w = after false [] in
    ap (λ (met : Held × Step). after_step making.rules word w met.0 met.1) (met_value make tt false 1 word w.held refl is)
value_walk false (a ∷ []) word few is =
    let w = after false (a ∷ []) in
    ap (λ (met : Held × Step). after_step making.rules word w met.0 met.1) (met_value make tt false 2 word w.held refl is)
value_walk false (a ∷ b ∷ []) word few is =
    let w = after false (a ∷ b ∷ []) in
    ap (λ (met : Held × Step). after_step making.rules word w met.0 met.1) (met_value make tt false 3 word w.held refl is)
value_walk t (a ∷ b ∷ c ∷ more) word few is = absurd (omega arith)

-- a fourth value is a fault
stray_turn : (t : Bool) (a b c word : Text) → IsValue t word → IsFaulty (turn_fault making [] (after t (a ∷ b ∷ c ∷ [])) word)
stray_turn true a b c word is = tt
stray_turn false a b c word is =
    let w = after false (a ∷ b ∷ c ∷ []) in
    let strays : Held × Step → Kinds = λ met. step_fault making 4 met.0 met.1 in
    second_is (word_fault making [] false idle word w.held) (strays (word_met making.rules [] false idle 4 word w.held))
    (subst (λ (met : Held × Step). IsFaulty (strays met)) (sym (met_value make tt false 4 word w.held refl is)) tt)

dash_walk : (values : List Text) (word : Text) → bytes_eq word (codes "--") ≡ true → walked making.rules [] (after false values) word ≡ after true values
unfolding walked
dash_walk values word is = rw is refl

plain_turn : (values : List Text) (d : ℕ) (ds : Text) → (d == 45) ≡ false → length values ≤ 2 → turn_fault making [] (after false values) (d ∷ ds) ≡ []
unfolding clap_on_literals
plain_turn [] d ds e few = rw (e, e) refl
plain_turn (a ∷ []) d ds e few = rw (e, e) refl
plain_turn (a ∷ b ∷ []) d ds e few = rw (e, e) refl
plain_turn (a ∷ b ∷ c ∷ more) d ds e few = absurd (omega arith)

-- ---- three plain words

turn_is : (values : List Text) (word : Text) → IsPlainWord word → length values ≤ 2 → turn_fault making [] (after false values) word ≡ []
turn_is values word p few = ap (turn_fault making [] (after false values)) p.is ∙ plain_turn values p.first p.more p.no_hyphen few

walk_is : (values : List Text) (word : Text) → IsPlainWord word → length values ≤ 2 → walked making.rules [] (after false values) word ≡ after false (values ++ word ∷ [])
walk_is values word p few = value_walk false values word few (inr (no_dash word p))

three_walk : (a b c : Text) → IsPlainWord a → IsPlainWord b → IsPlainWord c
    → fold (walked making.rules []) (walk_from nothing_held) (a ∷ b ∷ c ∷ []) ≡ after false (a ∷ b ∷ c ∷ [])
three_walk a b c pa pb pc =
    ap (λ (w : Walk). walked making.rules [] (walked making.rules [] w b) c) (walk_is [] a pa (omega arith))
    ∙ ap (λ (w : Walk). walked making.rules [] w c) (walk_is (a ∷ []) b pb (omega arith))
    ∙ walk_is (a ∷ b ∷ []) c pc (omega arith)

three_turns : (a b c : Text) → IsPlainWord a → IsPlainWord b → IsPlainWord c → walk_fault making [] (walk_from nothing_held) (a ∷ b ∷ c ∷ []) ≡ []
unfolding walk_fault
three_turns a b c pa pb pc =
    one_turn making (after false []) (after false (a ∷ [])) a (b ∷ c ∷ []) (turn_is [] a pa (omega arith)) (walk_is [] a pa (omega arith))
    ∙ one_turn making (after false (a ∷ [])) (after false (a ∷ b ∷ [])) b (c ∷ []) (turn_is (a ∷ []) b pb (omega arith)) (walk_is (a ∷ []) b pb (omega arith))
    ∙ one_turn making (after false (a ∷ b ∷ [])) (after false (a ∷ b ∷ c ∷ [])) c [] (turn_is (a ∷ b ∷ []) c pc (omega arith)) (walk_is (a ∷ b ∷ []) c pc (omega arith))

-- what clap keeps of three values
abbrev pub three_rows : Text → Text → Text → List Row
three_rows a b c = argument_row (codes "seed") a ∷ argument_row (codes "workers") b ∷ argument_row (codes "lines") c ∷ []

three_end : (a b c : Text) → settle_fault making.rules false (held_after (a ∷ b ∷ c ∷ [])) ≡ []
three_end a b c = refl

three_defaults : (a b c : Text) → defaults_fault (settled making.rules (held_after (a ∷ b ∷ c ∷ []))).rows making.rules ≡ []
unfolding clap_on_literals
three_defaults a b c = refl

three_checks : (a b c : Text) → check_fault making (finished making.rules (held_after (a ∷ b ∷ c ∷ []))) false ≡ []
three_checks a b c = refl

pub three_fault : (a b c : Text) → IsPlainWord a → IsPlainWord b → IsPlainWord c → level_fault making [] nothing_held (a ∷ b ∷ c ∷ []) false [] ≡ []
three_fault a b c pa pb pc =
    let end = (walk making.rules [] nothing_held (a ∷ b ∷ c ∷ [])).held in
    let ends : end ≡ held_after (a ∷ b ∷ c ∷ []) = ap (λ (w : Walk). w.held) (three_walk a b c pa pb pc) in
    joined (walk_fault making [] (walk_from nothing_held) (a ∷ b ∷ c ∷ [])) (settle_fault making.rules false end)
    (defaults_fault (settled making.rules end).rows making.rules) (check_fault making (finished making.rules end) false)
    (three_turns a b c pa pb pc)
    (ap (settle_fault making.rules false) ends ∙ three_end a b c)
    (ap (λ (h : Held). defaults_fault (settled making.rules h).rows making.rules) ends ∙ three_defaults a b c)
    (ap (λ (h : Held). check_fault making (finished making.rules h) false) ends ∙ three_checks a b c)

pub three_rows_are : (a b c : Text) → IsPlainWord a → IsPlainWord b → IsPlainWord c → rows_after making.rules [] (a ∷ b ∷ c ∷ []) ≡ three_rows a b c
three_rows_are a b c pa pb pc = ap (λ (w : Walk). finished making.rules w.held) (three_walk a b c pa pb pc)

-- ---- words that are no numbers

-- the walk ends after at most three values, one of which is no number
pub record EndsBadly (end : Walk) : Type 0 where
  pub is_trailing : Bool
  pub values : List Text
  pub few : length values ≤ 3
  pub bad : HasBad values
  pub is : end ≡ after is_trailing values

Spoils : Walk → List Text → Type 0
Spoils w words = IsFaulty (walk_fault making [] w words) ⊎ EndsBadly (fold (walked making.rules []) w words)

goes_on : (w v : Walk) (word : Text) (rest : List Text) → walked making.rules [] w word ≡ v → Spoils v rest → Spoils w (word ∷ rest)
unfolding walk_fault Spoils
goes_on w v word rest is (inl faulty) =
    inl (second_is (turn_fault making [] w word) _ (subst (λ (x : Walk). IsFaulty (walk_fault making [] x rest)) (sym is) faulty))
goes_on w v word rest is (inr ends) = inr (subst (λ (x : Walk). EndsBadly (fold (walked making.rules []) x rest)) (sym is) ends)

stops_here : (t : Bool) (a b c word : Text) (rest : List Text) → IsValue t word → Spoils (after t (a ∷ b ∷ c ∷ [])) (word ∷ rest)
unfolding walk_fault Spoils
stops_here t a b c word rest is = inl (first_is (turn_fault making [] (after t (a ∷ b ∷ c ∷ [])) word) _ (stray_turn t a b c word is))

at_end : (t : Bool) (values : List Text) → length values ≤ 3 → HasBad values → Spoils (after t values) []
unfolding Spoils
at_end t values few bad = inr (record { is_trailing = t; values = values; few = few; bad = bad; is = refl })

no_more : (values : List Text) → HasBad (values ++ []) → HasBad values
no_more values has = subst HasBad (append-nil values) has

-- what the word makes of the walk
spoils_by : (t : Bool) (values : List Text) (word : Text) (rest : List Text) → length values ≤ 3 → IsValue t word
    → (length values ≤ 2 → Spoils (after t (values ++ word ∷ [])) rest) → Spoils (after t values) (word ∷ rest)
spoils_by t [] word rest few is next = goes_on (after t []) (after t (word ∷ [])) word rest (value_walk t [] word (omega arith) is) (next (omega arith))
spoils_by t (a ∷ []) word rest few is next = goes_on (after t (a ∷ [])) _ word rest (value_walk t (a ∷ []) word (omega arith) is) (next (omega arith))
spoils_by t (a ∷ b ∷ []) word rest few is next = goes_on (after t (a ∷ b ∷ [])) _ word rest (value_walk t (a ∷ b ∷ []) word (omega arith) is) (next (omega arith))
spoils_by t (a ∷ b ∷ c ∷ []) word rest few is next = stops_here t a b c word rest is
spoils_by t (a ∷ b ∷ c ∷ d ∷ more) word rest few is next = absurd (omega arith)

one_longer : (values : List Text) (word : Text) → length values ≤ 2 → length (values ++ word ∷ []) ≤ 3
one_longer values word few = let n = length-append values (word ∷ []) in omega arith

-- what the first word makes of the walk, by what the others do
spoils_on : (t : Bool) (values : List Text) (word : Text) (rest : List Text) → length values ≤ 3 → HasBad (values ++ word ∷ rest)
    → ((u : Bool) (more : List Text) → length more ≤ 3 → HasBad (more ++ rest) → Spoils (after u more) rest) → Spoils (after t values) (word ∷ rest)
spoils_on t values word rest few has others = go t (bytes_eq word (codes "--")) refl
  where
    value_on : (u : Bool) → IsValue u word → Spoils (after u values) (word ∷ rest)
    value_on u is =
        spoils_by u values word rest few is
        (λ short. others u (values ++ word ∷ []) (one_longer values word short) (subst HasBad (sym (append_assoc values (word ∷ []) rest)) has))

    go : (u b : Bool) → bytes_eq word (codes "--") ≡ b → Spoils (after u values) (word ∷ rest)
    go true b is = value_on true (inl refl)
    go false true is = goes_on (after false values) (after true values) word rest (dash_walk values word is) (others true values few (bad_without values word rest is has))
    go false false is = value_on false (inr is)

spoils : (words : List Text) (t : Bool) (values : List Text) → length values ≤ 3 → HasBad (values ++ words) → Spoils (after t values) words
spoils [] t values few has = at_end t values few (no_more values has)
spoils (word ∷ rest) t values few has = spoils_on t values word rest few has (spoils rest)

-- ---- no script is made of them

-- the rows at the end, which are of at most three values
rows_of_values : List Text → List Row
rows_of_values values = finished making.rules (held_after values)

chain : Option ℕ → Option ℕ → Option ℕ → Option MakeArguments
chain s w l = option_and_then (λ seed. option_and_then (λ workers. option_map (λ lines. record { seed = seed; workers = workers; lines = lines }) l) w) s

no_lines : (s w : Option ℕ) → chain s w None ≡ None
unfolding chain
no_lines None w = refl
no_lines (Some seed) None = refl
no_lines (Some seed) (Some workers) = refl

no_workers : (s l : Option ℕ) → chain s None l ≡ None
unfolding chain
no_workers None l = refl
no_workers (Some seed) l = refl

is_none : (range : Range) (word : Text) → IsBad word → number_in range word ≡ None
is_none range word bad = ap (option_and_then (within range)) bad.no_number

no_arguments : (values : List Text) → length values ≤ 3 → HasBad values → arguments_of (rows_of_values values) ≡ None
unfolding chain rows_of_values
no_arguments [] few has = absurd has
no_arguments (a ∷ []) few has = no_workers (number_in seed_range a) None
no_arguments (a ∷ b ∷ []) few has = no_lines (number_in seed_range a) (number_in workers_range b)
no_arguments (a ∷ b ∷ c ∷ []) few (inl bad) =
    ap (λ (s : Option ℕ). chain s (number_in workers_range b) (number_in lines_range c)) (is_none seed_range a bad)
no_arguments (a ∷ b ∷ c ∷ []) few (inr (inl bad)) =
    ap (λ (w : Option ℕ). chain (number_in seed_range a) w (number_in lines_range c)) (is_none workers_range b bad)
    ∙ no_workers (number_in seed_range a) (number_in lines_range c)
no_arguments (a ∷ b ∷ c ∷ []) few (inr (inr (inl bad))) =
    ap (λ (l : Option ℕ). chain (number_in seed_range a) (number_in workers_range b) l) (is_none lines_range c bad)
    ∙ no_lines (number_in seed_range a) (number_in workers_range b)
no_arguments (a ∷ b ∷ c ∷ []) few (inr (inr (inr has))) = absurd has
no_arguments (a ∷ b ∷ c ∷ d ∷ more) few has = absurd (omega arith)

-- words among which one is no number are in no order for clap, or no script is made of them
pub bad_words : (words : List Text) → HasBad words
    → IsFaulty (level_fault making [] nothing_held words false []) ⊎ (arguments_of (rows_after making.rules [] words) ≡ None)
unfolding Spoils rows_of_values
bad_words words has = go (spoils words false [] (omega arith) has)
  where
    go : IsFaulty (walk_fault making [] (walk_from nothing_held) words) ⊎ EndsBadly (fold (walked making.rules []) (walk_from nothing_held) words)
        → IsFaulty (level_fault making [] nothing_held words false []) ⊎ (arguments_of (rows_after making.rules [] words) ≡ None)
    go (inl faulty) = inl (first_is (walk_fault making [] (walk_from nothing_held) words) _ faulty)
    go (inr ends) =
        inr (ap (λ (w : Walk). arguments_of (finished making.rules w.held)) ends.is ∙ no_arguments ends.values ends.few ends.bad)
