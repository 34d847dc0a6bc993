-- Plain words are taken, and hold their numbers.
use Rattle.std.proofs.Common.{◌≡◌, ◌∙◌, refl, sym, ap, cond, ℕ, ◌<◌, ◌^◌, Bool, true, false, ◌||◌, List, [], ◌∷◌, ◌++◌, map, Some, None, append_assoc, append-nil}
use Rattle.std.specs.Prelude.{codes, decimal, fold, is_some, ⊤}
use Rattle.clap.specs.Kinds.{Kinds, or_else}
use Rattle.clap.specs.Walk.{default_rows, is_empty, more_values, reading_by, Held, Row, Rule, Text, Walk, finished, has_row, settled, walk, walk_from, walked, with_default, with_values, nothing_held, rows_after}
use Rattle.clap.specs.Simple.{App, Shape, built, entered, filled, names_of, subcommand_of}
use Rattle.clap.specs.Faults.{check_fault, defaults_fault, entered_fault, given_default_fault, settle_fault, turn_fault, walk_fault, fault_of, level_fault}
use Rattle.clap.specs.declared.parser.matches.ValueSource.TheVariants.{DefaultValue}
use Rattle.clap.proofs.OnLiterals.{clap_on_literals}
use Rattle.clap.proofs.WalkLemmas.{walk_stopped}
use Rattle.clap.proofs.FaultLemmas.{stopped_fault}
use Rattle.command_line.specs.Commands.{option_rule, program}
use Rattle.command_line.specs.Options.{Verb, run, dump, snaps, snapshot, make}
use Rattle.command_line.specs.Plain.{Choice, Setting, brief, flag_of, sets, slots, snap, tries, words_of}
use Rattle.command_line.proofs.Numbers.{begins}
use Rattle.command_line.proofs.Steps.{word_of, shape_of, name_of, pending_at, ready, row_of, waiting_for, flag_turn, flag_walk, text_turn, text_walk, used_absent, settle_absent, at_row_absent, between, brief_row, brief_rule, brief_turn, brief_walk}

-- ---- the walk over the words of choices

-- the name by which clap keeps a choice
abbrev pub id_of : Choice → Text
id_of (sets s n) = name_of s
id_of brief = codes "brief"

abbrev pub row_at : Choice → Row
row_at (sets s n) = row_of s (decimal n)
row_at brief = brief_row

-- the choice's words were the last
abbrev pub state : List Row → Choice → Held
state rows (sets s n) = record { rows = rows; pending = Some (name_of s, decimal n ∷ []); skip = 0 }
state rows brief = between (rows ++ brief_row ∷ [])

-- the number, if there is one, is not too long
abbrev pub IsSmall : Choice → Type 0
IsSmall (sets s n) = n < 2 ^ 64
IsSmall brief = ⊤

-- no choice is among the rows or the choices before it, and no number is too long
abbrev pub Fresh : List Row → List Choice → Type 0
Fresh rows [] = ⊤
Fresh rows (c ∷ rest) = (has_row (id_of c) rows ≡ false) × IsSmall c × Fresh (rows ++ row_at c ∷ []) rest

state_settles : (rows : List Row) (c : Choice) → has_row (id_of c) rows ≡ false → settled ready.rules (state rows c) ≡ between (rows ++ row_at c ∷ [])
state_settles rows (sets s n) absent = used_absent s (decimal n) rows absent
state_settles rows brief absent = refl

state_has_no_fault : (rows : List Row) (c : Choice) → has_row (id_of c) rows ≡ false → settle_fault ready.rules false (state rows c) ≡ []
state_has_no_fault rows (sets s n) absent = settle_absent s (decimal n) rows absent
state_has_no_fault rows brief absent = refl

-- a word without a fault
pub one_turn : (shape : Shape) (w v : Walk) (word : Text) (rest : List Text) → turn_fault shape [] w word ≡ [] → walked shape.rules [] w word ≡ v
    → walk_fault shape [] w (word ∷ rest) ≡ walk_fault shape [] v rest
unfolding walk_fault
one_turn shape w v word rest none e =
    ap (λ (k : Kinds). or_else k (walk_fault shape [] (walked shape.rules [] w word) rest)) none
    ∙ ap (λ (x : Walk). walk_fault shape [] x rest) e

number_turn : (q : Setting) (h : Held) (n : ℕ) → n < 2 ^ 64 → turn_fault ready [] (waiting_for q h) (decimal n) ≡ []
number_turn q h n small =
    let b = begins n small in
    ap (turn_fault ready [] (waiting_for q h)) b.is ∙ text_turn q h b.first b.more b.no_hyphen

number_walk : (q : Setting) (h : Held) (n : ℕ) → n < 2 ^ 64 → walked ready.rules [] (waiting_for q h) (decimal n) ≡ walk_from (pending_at q (decimal n) h)
number_walk q h n small =
    let b = begins n small in
    ap (walked ready.rules [] (waiting_for q h)) b.is ∙ text_walk q h b.first b.more b.no_hyphen
    ∙ ap (λ (t : Text). walk_from (pending_at q t h)) (sym b.is)

-- the words of a choice, after what was settled before them
choice_fault : (h : Held) (rows : List Row) (c : Choice) (rest : List Choice) → settle_fault ready.rules false h ≡ [] → settled ready.rules h ≡ between rows
    → has_row (id_of c) rows ≡ false → IsSmall c
    → walk_fault ready [] (walk_from h) (words_of (c ∷ rest)) ≡ walk_fault ready [] (walk_from (state rows c)) (words_of rest)
choice_fault h rows (sets s n) rest none is absent small =
    one_turn ready (walk_from h) (waiting_for s (between rows)) (flag_of s) (decimal n ∷ words_of rest)
    (flag_turn s h ∙ ap (λ (k : Kinds). or_else k []) none) (flag_walk s h ∙ ap (waiting_for s) is)
    ∙ one_turn ready (waiting_for s (between rows)) (walk_from (state rows (sets s n))) (decimal n) (words_of rest)
    (number_turn s (between rows) n small) (number_walk s (between rows) n small)
choice_fault h rows brief rest none is absent small =
    one_turn ready (walk_from h) (walk_from (state rows brief)) (codes "--brief") (words_of rest) (brief_turn h rows none is absent) (brief_walk h rows is absent)

choice_walk : (h : Held) (rows : List Row) (c : Choice) (rest : List Choice) → settled ready.rules h ≡ between rows → has_row (id_of c) rows ≡ false → IsSmall c
    → fold (walked ready.rules []) (walk_from h) (words_of (c ∷ rest)) ≡ fold (walked ready.rules []) (walk_from (state rows c)) (words_of rest)
choice_walk h rows (sets s n) rest is absent small =
    ap (λ (w : Walk). fold (walked ready.rules []) w (words_of rest))
    (ap (λ (w : Walk). walked ready.rules [] w (decimal n)) (flag_walk s h ∙ ap (waiting_for s) is)
    ∙ number_walk s (between rows) n small)
choice_walk h rows brief rest is absent small = ap (λ (w : Walk). fold (walked ready.rules []) w (words_of rest)) (brief_walk h rows is absent)

abbrev last_state : List Row → Choice → List Choice → Held
last_state rows c [] = state rows c
last_state rows c (q ∷ rest) = last_state (rows ++ row_at c ∷ []) q rest

run_fault : (rows : List Row) (c : Choice) (rest : List Choice) → Fresh rows (c ∷ rest) → walk_fault ready [] (walk_from (state rows c)) (words_of rest) ≡ []
unfolding walk_fault
run_fault rows c [] f = refl
run_fault rows c (q ∷ rest) f =
    choice_fault (state rows c) (rows ++ row_at c ∷ []) q rest (state_has_no_fault rows c f.0) (state_settles rows c f.0) f.2.0 f.2.1
    ∙ run_fault (rows ++ row_at c ∷ []) q rest f.2

run_walk : (rows : List Row) (c : Choice) (rest : List Choice) → Fresh rows (c ∷ rest)
    → fold (walked ready.rules []) (walk_from (state rows c)) (words_of rest) ≡ walk_from (last_state rows c rest)
run_walk rows c [] f = refl
run_walk rows c (q ∷ rest) f =
    choice_walk (state rows c) (rows ++ row_at c ∷ []) q rest (state_settles rows c f.0) f.2.0 f.2.1 ∙ run_walk (rows ++ row_at c ∷ []) q rest f.2

last_settles : (rows : List Row) (c : Choice) (rest : List Choice) → Fresh rows (c ∷ rest) → settle_fault ready.rules false (last_state rows c rest) ≡ []
last_settles rows c [] f = state_has_no_fault rows c f.0
last_settles rows c (q ∷ rest) f = last_settles (rows ++ row_at c ∷ []) q rest f.2

last_rows : (rows : List Row) (c : Choice) (rest : List Choice) → Fresh rows (c ∷ rest)
    → (settled ready.rules (last_state rows c rest)).rows ≡ rows ++ map row_at (c ∷ rest)
last_rows rows c [] f = ap (λ (h : Held). h.rows) (state_settles rows c f.0)
last_rows rows c (q ∷ rest) f = last_rows (rows ++ row_at c ∷ []) q rest f.2 ∙ append_assoc rows (row_at c ∷ []) (map row_at (q ∷ rest))

-- ---- after the walk

-- the defaults of the rules are in order
Harmless : List Rule → Type 0
Harmless [] = ⊤
Harmless (a ∷ rest) = (given_default_fault a a.defaults ≡ []) × Harmless rest

either_way : (b : Bool) (k : Kinds) → k ≡ [] → cond b [] k ≡ []
either_way true k e = refl
either_way false k e = e

no_faults : (rows : List Row) (rules : List Rule) → Harmless rules → defaults_fault rows rules ≡ []
unfolding clap_on_literals Harmless
no_faults rows [] h = refl
no_faults rows (a ∷ rest) h =
    ap (λ (k : Kinds). or_else k (defaults_fault (with_default rows a) rest))
    (either_way (has_row a.id rows || is_empty a.defaults) (given_default_fault a a.defaults) h.0)
    ∙ no_faults (with_default rows a) rest h.1

harmless_here : Harmless ready.rules
unfolding Harmless
harmless_here = (refl, (refl, (refl, (refl, tt))))

same_either : (b : Bool) (rows : List Row) → cond b rows rows ≡ rows
same_either true rows = refl
same_either false rows = refl

-- a rule without a default adds no row
no_default : (rows : List Row) (a : Rule) → a.defaults ≡ [] → with_default rows a ≡ rows
no_default rows a none =
    ap (λ (ts : List Text). cond (has_row a.id rows) rows (default_rows a.id (reading_by a) ts rows)) none ∙ same_either (has_row a.id rows) rows

-- what clap keeps of `--brief` where it isn't given
abbrev pub absent_row : Row
absent_row = record { id = codes "brief"; values = codes "false" ∷ []; count = None; source = Some DefaultValue; reading = reading_by brief_rule }

abbrev pub default_of : Bool → List Row
default_of true = []
default_of false = absent_row ∷ []

brief_default : (rows : List Row) → with_default rows brief_rule ≡ rows ++ default_of (has_row (codes "brief") rows)
brief_default rows = go (has_row (codes "brief") rows) refl
  where
    go : (b : Bool) → has_row (codes "brief") rows ≡ b
        → cond b rows (with_values (codes "brief") (reading_by brief_rule) DefaultValue (codes "false" ∷ []) rows) ≡ rows ++ default_of b
    go true e = sym (append-nil rows)
    go false e = at_row_absent (codes "brief") (more_values DefaultValue (codes "false" ∷ [])) (absent_row ∷ []) rows e

abbrev number_rule : Setting → Rule
number_rule s = filled (option_rule (name_of s))

-- of all rules `--brief` alone has a default
all_defaults : (rows : List Row) → fold with_default rows ready.rules ≡ rows ++ default_of (has_row (codes "brief") rows)
all_defaults rows =
    ap (λ (rs : List Row). with_default (with_default (with_default rs (number_rule slots)) (number_rule snap)) brief_rule) (no_default rows (number_rule tries) refl)
    ∙ ap (λ (rs : List Row). with_default (with_default rs (number_rule snap)) brief_rule) (no_default rows (number_rule slots) refl)
    ∙ ap (λ (rs : List Row). with_default rs brief_rule) (no_default rows (number_rule snap) refl)
    ∙ brief_default rows

pub joined : (a b c d : Kinds) → a ≡ [] → b ≡ [] → c ≡ [] → d ≡ [] → or_else a (or_else [] (or_else b (or_else c d))) ≡ []
joined a b c d ea eb ec ed = rw (ea, eb, ec, ed) refl

-- ---- `run` with its choices

leaf_end : (c : Choice) (rest : List Choice) → Fresh [] (c ∷ rest) → (walk ready.rules [] nothing_held (words_of (c ∷ rest))).held ≡ last_state [] c rest
leaf_end c rest f = ap (λ (w : Walk). w.held) (choice_walk nothing_held [] c rest refl f.0 f.1 ∙ run_walk [] c rest f)

pub leaf_fault : (choices : List Choice) → Fresh [] choices → level_fault ready [] nothing_held (words_of choices) false [] ≡ []
unfolding clap_on_literals
leaf_fault [] f = refl
leaf_fault (c ∷ rest) f =
    let end = (walk ready.rules [] nothing_held (words_of (c ∷ rest))).held in
    joined (walk_fault ready [] (walk_from nothing_held) (words_of (c ∷ rest))) (settle_fault ready.rules false end)
    (defaults_fault (settled ready.rules end).rows ready.rules) (check_fault ready (finished ready.rules end) false)
    (choice_fault nothing_held [] c rest refl refl f.0 f.1 ∙ run_fault [] c rest f)
    (ap (settle_fault ready.rules false) (leaf_end c rest f) ∙ last_settles [] c rest f)
    (no_faults (settled ready.rules end).rows ready.rules harmless_here) refl

-- the rows of choices, and that of `--brief` where it isn't among them
abbrev pub rows_of_choices : List Choice → List Row
rows_of_choices choices = map row_at choices ++ default_of (has_row (codes "brief") (map row_at choices))

pub leaf_rows : (choices : List Choice) → Fresh [] choices → rows_after ready.rules [] (words_of choices) ≡ rows_of_choices choices
leaf_rows [] f = refl
leaf_rows (c ∷ rest) f =
    let end = (walk ready.rules [] nothing_held (words_of (c ∷ rest))).held in
    all_defaults (settled ready.rules end).rows
    ∙ ap (λ (rs : List Row). rs ++ default_of (has_row (codes "brief") rs))
    (ap (λ (h : Held). (settled ready.rules h).rows) (leaf_end c rest f) ∙ last_rows [] c rest f)

-- ---- the program

abbrev whole : App
whole = built program

abbrev entry : Verb → List Text → Walk
entry v words = record (walk_from nothing_held) { stopped = Some (word_of v, words) }

enters : (v : Verb) → walked whole.top.rules (names_of whole) (walk_from nothing_held) (word_of v) ≡ entry v []
unfolding clap_on_literals
enters run = refl
enters dump = refl
enters snaps = refl
enters snapshot = refl
enters make = refl

program_walk : (v : Verb) (rest : List Text) → walk whole.top.rules (names_of whole) nothing_held (word_of v ∷ rest) ≡ entry v rest
program_walk v rest =
    ap (λ (w : Walk). fold (walked whole.top.rules (names_of whole)) w rest) (enters v)
    ∙ sym (walk_stopped whole.top.rules (names_of whole) (walk_from nothing_held) (word_of v) [] rest)

or_nothing : (k : Kinds) → or_else k [] ≡ k
or_nothing [] = refl
or_nothing (k ∷ ks) = refl

program_words : (v : Verb) (rest : List Text) → walk_fault whole.top (names_of whole) (walk_from nothing_held) (word_of v ∷ rest) ≡ []
unfolding clap_on_literals
program_words run rest = stopped_fault whole.top (names_of whole) (walk_from nothing_held) (codes "run", []) rest
program_words dump rest = stopped_fault whole.top (names_of whole) (walk_from nothing_held) (codes "dump", []) rest
program_words snaps rest = stopped_fault whole.top (names_of whole) (walk_from nothing_held) (codes "snaps", []) rest
program_words snapshot rest = stopped_fault whole.top (names_of whole) (walk_from nothing_held) (codes "snap", []) rest
program_words make rest = stopped_fault whole.top (names_of whole) (walk_from nothing_held) (codes "make", []) rest

abbrev ended : Kinds → Walk → Kinds
ended first w = or_else first
    (or_else (entered_fault whole w.stopped) (or_else (settle_fault whole.top.rules whole.top.args_override_self w.held)
    (or_else (defaults_fault (settled whole.top.rules w.held).rows whole.top.rules)
    (check_fault whole.top (finished whole.top.rules w.held) (is_some (entered whole w.stopped))))))

-- what the program's own level finds is what the command's does
ended_by : (v : Verb) (rest : List Text) → ended [] (entry v rest) ≡ or_else (level_fault (shape_of v) [] nothing_held rest false []) []
unfolding clap_on_literals
ended_by run rest = refl
ended_by dump rest = refl
ended_by snaps rest = refl
ended_by snapshot rest = refl
ended_by make rest = refl

pub program_fault : (v : Verb) (name : Text) (rest : List Text)
    → fault_of program (name ∷ word_of v ∷ rest) ≡ level_fault (shape_of v) [] nothing_held rest false []
unfolding clap_on_literals
program_fault v name rest =
    let first = walk_fault whole.top (names_of whole) (walk_from nothing_held) (word_of v ∷ rest) in
    ap (λ (w : Walk). ended first w) (program_walk v rest)
    ∙ ap (λ (k : Kinds). ended k (entry v rest)) (program_words v rest)
    ∙ ended_by v rest
    ∙ or_nothing (level_fault (shape_of v) [] nothing_held rest false [])

-- what the program finds of the command
entered_by : (v : Verb) (rest : List Text) → entered whole (Some (word_of v, rest)) ≡ Some (word_of v, rows_after (shape_of v).rules [] rest)
unfolding clap_on_literals
entered_by run rest = refl
entered_by dump rest = refl
entered_by snaps rest = refl
entered_by snapshot rest = refl
entered_by make rest = refl

pub program_rows : (v : Verb) (name : Text) (rest : List Text)
    → subcommand_of program (name ∷ word_of v ∷ rest) ≡ Some (word_of v, rows_after (shape_of v).rules [] rest)
program_rows v name rest = ap (λ (w : Walk). entered whole w.stopped) (program_walk v rest) ∙ entered_by v rest

-- `snaps` alone is in order
pub snaps_fault : level_fault (shape_of snaps) [] nothing_held [] false [] ≡ []
unfolding clap_on_literals
snaps_fault = refl

-- `dump` alone is in order
pub dump_fault : level_fault (shape_of dump) [] nothing_held [] false [] ≡ []
unfolding clap_on_literals
dump_fault = refl
