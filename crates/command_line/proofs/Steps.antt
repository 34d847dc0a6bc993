-- What clap's walk does at the words of one option.
use Rattle.std.proofs.Common.{◌≡◌, ◌∙◌, refl, ap, ℕ, Bool, true, false, ◌==◌, List, [], ◌∷◌, ◌++◌, Some, None, append-nil}
use Rattle.std.specs.Prelude.{codes}
use Rattle.std.specs.Str.{bytes_eq}
use Rattle.clap.specs.Kinds.{Kinds, or_else}
use Rattle.clap.specs.Walk.{Held, Row, Rule, Text, Walk, option, at_row, has_row, more_values, reacted, used, with_values, without, settled, walk_from, walked, reading_by}
use Rattle.clap.specs.Simple.{Shape, built, built_leaf, filled, inherited}
use Rattle.clap.specs.Faults.{settle_fault, turn_fault, use_fault}
use Rattle.clap.specs.declared.builder.value_parser.Reading.{Reading}
use Rattle.clap.specs.declared.parser.matches.ValueSource.TheVariants.{CommandLine}
use Rattle.clap.proofs.OnLiterals.{clap_on_literals}
use Rattle.command_line.specs.Commands.{argument_rule, dump_shape, flag_rule, make_shape, option_rule, program, run_shape, snap_shape, snaps_shape}
use Rattle.command_line.specs.Options.{Verb, run, dump, snaps, snapshot, make}
use Rattle.command_line.specs.Plain.{Setting, tries, slots, snap, flag_of}

-- `run` as clap builds it
abbrev pub ready : Shape
ready = built_leaf (inherited (built program).top run_shape)

-- `make` as clap builds it
abbrev pub making : Shape
making = built_leaf (inherited (built program).top make_shape)

-- `snap` as clap builds it
abbrev pub showing : Shape
showing = built_leaf (inherited (built program).top snap_shape)

-- the word that names a command
abbrev pub word_of : Verb → Text
word_of run = codes "run"
word_of dump = codes "dump"
word_of snaps = codes "snaps"
word_of snapshot = codes "snap"
word_of make = codes "make"

-- a command as clap builds it
abbrev pub shape_of : Verb → Shape
shape_of run = ready
shape_of dump = built_leaf (inherited (built program).top dump_shape)
shape_of snaps = built_leaf (inherited (built program).top snaps_shape)
shape_of snapshot = showing
shape_of make = making

subs_are : (built program).subs ≡ shape_of run ∷ shape_of dump ∷ shape_of snaps ∷ shape_of snapshot ∷ shape_of make ∷ []
subs_are = refl

-- ---- an option with a number

abbrev pub name_of : Setting → Text
name_of tries = codes "tries"
name_of slots = codes "slots"
name_of snap = codes "snap"

-- an option's word was read, and it waits for its value
abbrev pub waiting_for : Setting → Held → Walk
waiting_for q h = record (walk_from (record h { pending = Some (name_of q, []) })) { waiting = option (name_of q) }

abbrev pub pending_at : Setting → Text → Held → Held
pending_at q t h = record h { pending = Some (name_of q, t ∷ []) }

pub flag_turn : (q : Setting) (h : Held) → turn_fault ready [] (walk_from h) (flag_of q) ≡ or_else (settle_fault ready.rules false h) []
unfolding clap_on_literals
flag_turn tries h = refl
flag_turn slots h = refl
flag_turn snap h = refl

pub flag_walk : (q : Setting) (h : Held) → walked ready.rules [] (walk_from h) (flag_of q) ≡ waiting_for q (settled ready.rules h)
unfolding clap_on_literals
flag_walk tries h = refl
flag_walk slots h = refl
flag_walk snap h = refl

pub text_turn : (q : Setting) (h : Held) (d : ℕ) (ds : Text) → (d == 45) ≡ false → turn_fault ready [] (waiting_for q h) (d ∷ ds) ≡ []
unfolding clap_on_literals
text_turn tries h d ds e = rw (e, e) refl
text_turn slots h d ds e = rw (e, e) refl
text_turn snap h d ds e = rw (e, e) refl

pub text_walk : (q : Setting) (h : Held) (d : ℕ) (ds : Text) → (d == 45) ≡ false
    → walked ready.rules [] (waiting_for q h) (d ∷ ds) ≡ walk_from (pending_at q (d ∷ ds) h)
unfolding clap_on_literals
text_walk tries h d ds e = rw (e, e) refl
text_walk slots h d ds e = rw (e, e) refl
text_walk snap h d ds e = rw (e, e) refl

-- ---- rows

-- what clap keeps of an option with its value
abbrev pub row_for : Text → Reading → Text → Row
row_for id reading t = record {
  id = id;
  values = t ∷ [];
  count = None;
  source = Some CommandLine;
  reading = reading;
}

pub at_row_absent : (id : Text) (change : Row → List Row) (missing rows : List Row) → has_row id rows ≡ false → at_row id change missing rows ≡ rows ++ missing
at_row_absent id change missing [] h = refl
at_row_absent id change missing (r ∷ rs) h = go (bytes_eq r.id id) refl (at_row_absent id change missing rs)
  where
    go : (b : Bool) → bytes_eq r.id id ≡ b → (has_row id rs ≡ false → at_row id change missing rs ≡ rs ++ missing)
        → at_row id change missing (r ∷ rs) ≡ (r ∷ rs) ++ missing
    go true e next = let bad : true ≡ false = rw e at h in cc
    go false e next = rw e (ap (λ (xs : List Row). r ∷ xs) (next (rw e at h)))

-- the first use of an option adds its row
pub first_use : (id : Text) (how : Reading) (t : Text) (rows : List Row) → has_row id rows ≡ false
    → with_values id how CommandLine (t ∷ []) (without id rows) ≡ rows ++ row_for id how t ∷ []
first_use id how t rows h =
    ap (with_values id how CommandLine (t ∷ [])) (at_row_absent id (λ _. []) [] rows h ∙ append-nil rows)
    ∙ at_row_absent id (more_values CommandLine (t ∷ [])) (row_for id how t ∷ []) rows h

-- ---- what is kept of an option with a number

abbrev pub row_of : Setting → Text → Row
row_of q t = row_for (name_of q) (reading_by (option_rule (name_of q))) t

used_row : (q : Setting) (t : Text) (rows : List Row) → has_row (name_of q) rows ≡ false
    → with_values (name_of q) (reading_by (option_rule (name_of q))) CommandLine (t ∷ []) (without (name_of q) rows) ≡ rows ++ row_of q t ∷ []
used_row q t rows h = first_use (name_of q) (reading_by (option_rule (name_of q))) t rows h

pub used_absent : (q : Setting) (t : Text) (rows : List Row) → has_row (name_of q) rows ≡ false
    → settled ready.rules (record { rows = rows; pending = Some (name_of q, t ∷ []); skip = 0 })
    ≡ record { rows = rows ++ row_of q t ∷ []; pending = None; skip = 0 }
used_absent tries t rows h = let f : List Row → Held = λ rs. record { rows = rs; pending = None; skip = 0 } in ap f (used_row tries t rows h)
used_absent slots t rows h = let f : List Row → Held = λ rs. record { rows = rs; pending = None; skip = 0 } in ap f (used_row slots t rows h)
used_absent snap t rows h = let f : List Row → Held = λ rs. record { rows = rs; pending = None; skip = 0 } in ap f (used_row snap t rows h)

pub settle_absent : (q : Setting) (t : Text) (rows : List Row) → has_row (name_of q) rows ≡ false
    → settle_fault ready.rules false (record { rows = rows; pending = Some (name_of q, t ∷ []); skip = 0 }) ≡ []
settle_absent tries t rows h = rw h refl
settle_absent slots t rows h = rw h refl
settle_absent snap t rows h = rw h refl

-- ---- `--brief`

-- `--brief` as clap builds it
abbrev pub brief_rule : Rule
brief_rule = filled (flag_rule (codes "brief"))

abbrev pub brief_row : Row
brief_row = row_for (codes "brief") (reading_by brief_rule) (codes "true")

brief_turn_is : (h : Held)
    → turn_fault ready [] (walk_from h) (codes "--brief") ≡ or_else (or_else (settle_fault ready.rules false h) (use_fault false brief_rule [] (settled ready.rules h).rows)) []
unfolding clap_on_literals
brief_turn_is h = refl

brief_walk_is : (h : Held) → walked ready.rules [] (walk_from h) (codes "--brief") ≡ walk_from (reacted ready.rules brief_rule [] h)
unfolding clap_on_literals
brief_walk_is h = refl

brief_use : (rows : List Row) → has_row (codes "brief") rows ≡ false → use_fault false brief_rule [] rows ≡ []
brief_use rows h = rw h refl

-- nothing waits, and this is kept
abbrev pub between : List Row → Held
between rows = record { rows = rows; pending = None; skip = 0 }

pub brief_turn : (h : Held) (rows : List Row) → settle_fault ready.rules false h ≡ [] → settled ready.rules h ≡ between rows
    → has_row (codes "brief") rows ≡ false → turn_fault ready [] (walk_from h) (codes "--brief") ≡ []
brief_turn h rows none is absent =
    brief_turn_is h
    ∙ ap (λ (k : Kinds). or_else (or_else k (use_fault false brief_rule [] (settled ready.rules h).rows)) []) none
    ∙ ap (λ (k : Kinds). or_else k []) (ap (λ (g : Held). use_fault false brief_rule [] g.rows) is ∙ brief_use rows absent)

pub brief_walk : (h : Held) (rows : List Row) → settled ready.rules h ≡ between rows → has_row (codes "brief") rows ≡ false
    → walked ready.rules [] (walk_from h) (codes "--brief") ≡ walk_from (between (rows ++ brief_row ∷ []))
brief_walk h rows is absent =
    let after : Held → Held = λ g. record g { rows = used brief_rule [] g.rows; pending = None } in
    brief_walk_is h
    ∙ ap (λ (g : Held). walk_from (after g)) is
    ∙ ap (λ (rs : List Row). walk_from (between rs)) (first_use (codes "brief") (reading_by brief_rule) (codes "true") rows absent)

-- ---- arguments

-- what clap keeps of an argument
abbrev pub argument_row : Text → Text → Row
argument_row id t = row_for id (reading_by (argument_rule id)) t
