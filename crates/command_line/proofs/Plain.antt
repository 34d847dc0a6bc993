-- Plain words ask for their command with its numbers, and what an answer of clap's says of the words.
use Rattle.std.proofs.Common.{◌≡◌, ◌∙◌, refl, sym, ap, ap₂, subst, cond, nat_le, ◌&&◌, ℕ, ◌<◌, ◌≤◌, ◌^◌, Bool, true, false, List, [], ◌∷◌, ◌++◌, map, Option, Some, None, inl, inr, arith}
use Rattle.std.specs.Prelude.{codes, decimal, ◌⊎◌, option_and_then, option_map, ⊤}
use Rattle.std.specs.Str.{bytes_eq}
use Rattle.std.proofs.lemmas.Bool.{leb-true}
use Rattle.decimals.specs.Numbers.{digits_number, number_of}
use Rattle.clap.specs.Kinds.{IsAmong, Kinds}
use Rattle.clap.specs.Walk.{Row, Text, first_of, has_row, nothing_held}
use Rattle.clap.specs.Simple.{App, HasMatchesOf, subcommand_of, subcommand_rows_of}
use Rattle.clap.specs.Faults.{fault_of, is_simple_and_free, level_fault}
use Rattle.clap.specs.declared.error.kind.ErrorKind.{ErrorKind}
use Rattle.clap.specs.declared.error.kind.ErrorKind.TheVariants.{OutOfMemory}
use Rattle.clap.specs.declared.parser.matches.ArgMatches.{ArgMatches}
use Rattle.clap.proofs.OnLiterals.{clap_on_literals}
use Rattle.command_line.specs.Commands.{program}
use Rattle.command_line.specs.Options.{AreInRange, AreMadeInRange, IsNoCommand, IsWithin, LacksNumbers, Refuses, arguments_of, asked, asked_by, within, command_of, epoch_of, epoch_range, is_set, lines_range, make_with, number_given, number_in, number_or, options_of, run_with, seed_range, slots_range, snap_range, snap_with, tries_range, unless_fault, usual, verb_of, workers_range}
use Rattle.command_line.specs.Options.{Verb, run, dump, snaps, snapshot, make}
use Rattle.command_line.specs.Plain.{AsksForHelp, HasHelpFlag, IsHelp, IsHelpFlag, CommandAsksForHelp, AreChoices, Choice, IsLeftOut, IsPlain, IsPlainDump, IsPlainMake, IsPlainSnap, IsPlainSnaps, Setting, brief, sets, tries, slots, snap, is_brief, is_same, is_same_setting, number_chosen, options_chosen, range_of, usual_of, words_of}
use Rattle.command_line.specs.declared.command.Command.{Command}
use Rattle.command_line.specs.declared.command.Command.TheVariants.{Run, Dump, Snaps, Snap, Make, Refused}
use Rattle.command_line.specs.declared.command.MakeArguments.{MakeArguments}
use Rattle.command_line.specs.declared.command.RunOptions.{RunOptions}
use Rattle.command_line.specs.declared.number.Range.{Range}
use Rattle.command_line.proofs.Numbers.{begins, number_in_range}
use Rattle.command_line.proofs.Help.{IsFaulty, TakesNone, flag_is_faulty}
use Rattle.command_line.proofs.Makes.{bad_words, three_fault, three_rows, three_rows_are}
use Rattle.command_line.proofs.Shown.{bad_epoch, one_fault, one_row_is}
use Rattle.command_line.proofs.Values.{HasBad, IsBad, IsPlainWord}
use Rattle.command_line.proofs.Runs.{Fresh, default_of, dump_fault, id_of, leaf_fault, leaf_rows, program_fault, program_rows, row_at, rows_of_choices, snaps_fault}
use Rattle.command_line.proofs.Steps.{word_of, shape_of, name_of}

-- ---- choices are fresh

settings_differ : (a b : Setting) → is_same_setting a b ≡ false → bytes_eq (name_of a) (name_of b) ≡ false
settings_differ tries tries h = h
settings_differ tries slots h = refl
settings_differ tries snap h = refl
settings_differ slots tries h = refl
settings_differ slots slots h = h
settings_differ slots snap h = refl
settings_differ snap tries h = refl
settings_differ snap slots h = refl
settings_differ snap snap h = h

no_setting_is_brief : (s : Setting) → (bytes_eq (name_of s) (codes "brief") ≡ false) × (bytes_eq (codes "brief") (name_of s) ≡ false)
no_setting_is_brief tries = (refl, refl)
no_setting_is_brief slots = (refl, refl)
no_setting_is_brief snap = (refl, refl)

names_differ : (c d : Choice) → is_same c d ≡ false → bytes_eq (row_at c).id (id_of d) ≡ false
names_differ (sets s n) (sets t m) h = settings_differ s t h
names_differ (sets s n) brief h = (no_setting_is_brief s).0
names_differ brief (sets t m) h = (no_setting_is_brief t).1
names_differ brief brief h = h

Absent : List Row → List Choice → Type 0
Absent rows [] = ⊤
Absent rows (c ∷ rest) = (has_row (id_of c) rows ≡ false) × Absent rows rest

one_more_row : (id : Text) (r : Row) (rows : List Row) → has_row id rows ≡ false → bytes_eq r.id id ≡ false → has_row id (rows ++ r ∷ []) ≡ false
one_more_row id r [] h e = rw e refl
one_more_row id r (x ∷ rows) h e = go (bytes_eq x.id id) refl (one_more_row id r rows)
  where
    go : (b : Bool) → bytes_eq x.id id ≡ b → (has_row id rows ≡ false → bytes_eq r.id id ≡ false → has_row id (rows ++ r ∷ []) ≡ false)
        → has_row id ((x ∷ rows) ++ r ∷ []) ≡ false
    go true at next = let bad : true ≡ false = rw at at h in cc
    go false at next = rw at (next (rw at at h) e)

still_absent : (c : Choice) (rows : List Row) (rest : List Choice) → IsLeftOut c rest → Absent rows rest → Absent (rows ++ row_at c ∷ []) rest
unfolding Absent
still_absent c rows [] out h = tt
still_absent c rows (q ∷ rest) out h =
    (one_more_row (id_of q) (row_at c) rows h.0 (names_differ c q out.0), still_absent c rows rest out.1 h.1)

most_below : (s : Setting) → (range_of s).most < 2 ^ 64
most_below tries = omega arith
most_below slots = omega arith
most_below snap = omega arith

small : (s : Setting) (n : ℕ) → n ≤ (range_of s).most → n < 2 ^ 64
small s n h = let most = most_below s in omega arith

fresh_from : (rows : List Row) (choices : List Choice) → AreChoices choices → Absent rows choices → Fresh rows choices
unfolding Absent
fresh_from rows [] a h = tt
fresh_from rows (sets s n ∷ rest) a h =
    (h.0, small s n a.1.1, fresh_from (rows ++ row_at (sets s n) ∷ []) rest a.2 (still_absent (sets s n) rows rest a.0 h.1))
fresh_from rows (brief ∷ rest) a h =
    (h.0, tt, fresh_from (rows ++ row_at brief ∷ []) rest a.2 (still_absent brief rows rest a.0 h.1))

none_absent : (choices : List Choice) → Absent [] choices
unfolding Absent
none_absent [] = tt
none_absent (c ∷ rest) = (refl, none_absent rest)

fresh : (choices : List Choice) → AreChoices choices → Fresh [] choices
fresh choices a = fresh_from [] choices a (none_absent choices)

-- ---- the numbers of choices

number_here : (s : Setting) (n : ℕ) → (range_of s).least ≤ n → n ≤ (range_of s).most → number_or (usual_of s) (range_of s) (Some (decimal n)) ≡ Some n
number_here s n low high = number_in_range (range_of s) n low high (small s n high)

chosen : (s : Setting) (choices : List Choice) (b : Bool) → AreChoices choices
    → number_or (usual_of s) (range_of s) (first_of (name_of s) (map row_at choices ++ default_of b)) ≡ Some (number_chosen s choices)
chosen tries [] true a = refl
chosen tries [] false a = refl
chosen slots [] true a = refl
chosen slots [] false a = refl
chosen snap [] true a = refl
chosen snap [] false a = refl
chosen tries (sets tries n ∷ rest) b a = number_here tries n a.1.0 a.1.1
chosen tries (sets slots n ∷ rest) b a = chosen tries rest b a.2
chosen tries (sets snap n ∷ rest) b a = chosen tries rest b a.2
chosen tries (brief ∷ rest) b a = chosen tries rest b a.2
chosen slots (sets tries n ∷ rest) b a = chosen slots rest b a.2
chosen slots (sets slots n ∷ rest) b a = number_here slots n a.1.0 a.1.1
chosen slots (sets snap n ∷ rest) b a = chosen slots rest b a.2
chosen slots (brief ∷ rest) b a = chosen slots rest b a.2
chosen snap (sets tries n ∷ rest) b a = chosen snap rest b a.2
chosen snap (sets slots n ∷ rest) b a = chosen snap rest b a.2
chosen snap (sets snap n ∷ rest) b a = number_here snap n a.1.0 a.1.1
chosen snap (brief ∷ rest) b a = chosen snap rest b a.2

-- `--brief` is kept where it is among the choices
brief_kept : (choices : List Choice) → is_set (first_of (codes "brief") (rows_of_choices choices)) ≡ is_brief choices
brief_kept [] = refl
brief_kept (sets tries n ∷ rest) = brief_kept rest
brief_kept (sets slots n ∷ rest) = brief_kept rest
brief_kept (sets snap n ∷ rest) = brief_kept rest
brief_kept (brief ∷ rest) = refl

options_from : (rows : List Row) (t s p : ℕ) (b : Bool) → number_or usual.tries tries_range (first_of (codes "tries") rows) ≡ Some t
    → number_or usual.slots slots_range (first_of (codes "slots") rows) ≡ Some s → number_or usual.snap snap_range (first_of (codes "snap") rows) ≡ Some p
    → is_set (first_of (codes "brief") rows) ≡ b → options_of rows ≡ Some (record { tries = t; slots = s; snap = p; brief = b })
options_from rows t s p b et es ep eb = rw (et, es, ep, eb) refl

-- ---- plain words

choices_ask : (name : Text) (choices : List Choice) → AreChoices choices → command_of (name ∷ codes "run" ∷ words_of choices) ≡ Run (options_chosen choices)
unfolding command_of
choices_ask name choices a =
    let rows = rows_of_choices choices in
    let b : Bool = has_row (codes "brief") (map row_at choices) in
    let held = program_rows run name (words_of choices) ∙ ap (λ (rs : List Row). Some (codes "run", rs)) (leaf_rows choices (fresh choices a)) in
    ap₂ unless_fault (program_fault run name (words_of choices) ∙ leaf_fault choices (fresh choices a)) (ap asked held)
    ∙ ap run_with (options_from rows (number_chosen tries choices) (number_chosen slots choices) (number_chosen snap choices) (is_brief choices)
    (chosen tries choices b a) (chosen slots choices b a) (chosen snap choices b a) (brief_kept choices))

pub plain_ask : (words : List Text) (options : RunOptions) → IsPlain words options → command_of words ≡ Run options
plain_ask words options p = ap command_of p.words ∙ choices_ask p.name p.choices p.choices_are ∙ ap Run (sym p.options)

-- `dump` alone asks for a dump
dump_asks : (name : Text) → command_of (name ∷ codes "dump" ∷ []) ≡ Dump
unfolding command_of
dump_asks name = ap₂ unless_fault (program_fault dump name [] ∙ dump_fault) (ap asked (program_rows dump name []))

pub plain_dump_asks : (words : List Text) → IsPlainDump words → command_of words ≡ Dump
plain_dump_asks words p = ap command_of p.words ∙ dump_asks p.name

-- `snaps` alone asks for the list of snapshots
snaps_asks : (name : Text) → command_of (name ∷ codes "snaps" ∷ []) ≡ Snaps
unfolding command_of
snaps_asks name = ap₂ unless_fault (program_fault snaps name [] ∙ snaps_fault) (ap asked (program_rows snaps name []))

pub plain_snaps_asks : (words : List Text) → IsPlainSnaps words → command_of words ≡ Snaps
plain_snaps_asks words p = ap command_of p.words ∙ snaps_asks p.name

-- a number is a word without a hyphen
plain_word : (n : ℕ) → n < 2 ^ 64 → IsPlainWord (decimal n)
plain_word n h = let b = begins n h in record { first = b.first; more = b.more; is = b.is; no_hyphen = b.no_hyphen }

-- `snap` with an epoch asks for the snapshot of this epoch
epoch_asks : (name : Text) (e : ℕ) → IsWithin epoch_range e → command_of (name ∷ codes "snap" ∷ decimal e ∷ []) ≡ Snap e
unfolding command_of
epoch_asks name e h =
    let words = decimal e ∷ [] in
    let below : e < 2 ^ 64 = omega (arith, h.1) in
    let plain = plain_word e below in
    let held = program_rows snapshot name words ∙ ap (λ (rs : List Row). Some (codes "snap", rs)) (one_row_is (decimal e) plain) in
    ap₂ unless_fault (program_fault snapshot name words ∙ one_fault (decimal e) plain) (ap asked held)
    ∙ ap snap_with (number_in_range epoch_range e h.0 h.1 below)

pub plain_snap_asks : (words : List Text) (epoch : ℕ) → IsPlainSnap words epoch → command_of words ≡ Snap epoch
plain_snap_asks words epoch p = ap command_of p.words ∙ epoch_asks p.name epoch p.range

arguments_from : (rows : List Row) (s w l : ℕ) → number_given seed_range (first_of (codes "seed") rows) ≡ Some s
    → number_given workers_range (first_of (codes "workers") rows) ≡ Some w → number_given lines_range (first_of (codes "lines") rows) ≡ Some l
    → arguments_of rows ≡ Some (record { seed = s; workers = w; lines = l })
arguments_from rows s w l es ew el = rw (es, ew, el) refl

-- `make` with its numbers asks for a script
numbers_ask : (name : Text) (s w l : ℕ) → IsWithin seed_range s → IsWithin workers_range w → IsWithin lines_range l
    → command_of (name ∷ codes "make" ∷ decimal s ∷ decimal w ∷ decimal l ∷ []) ≡ Make (record { seed = s; workers = w; lines = l })
unfolding command_of
numbers_ask name s w l hs hw hl =
    let words = decimal s ∷ decimal w ∷ decimal l ∷ [] in
    let bs : s < 2 ^ 64 = omega (arith, hs.1) in
    let bw : w < 2 ^ 64 = omega (arith, hw.1) in
    let bl : l < 2 ^ 64 = omega (arith, hl.1) in
    let ps = plain_word s bs in
    let pw = plain_word w bw in
    let pl = plain_word l bl in
    let held = program_rows make name words ∙ ap (λ (rs : List Row). Some (codes "make", rs)) (three_rows_are (decimal s) (decimal w) (decimal l) ps pw pl) in
    ap₂ unless_fault (program_fault make name words ∙ three_fault (decimal s) (decimal w) (decimal l) ps pw pl) (ap asked held)
    ∙ ap make_with (arguments_from (three_rows (decimal s) (decimal w) (decimal l)) s w l
    (number_in_range seed_range s hs.0 hs.1 bs) (number_in_range workers_range w hw.0 hw.1 bw) (number_in_range lines_range l hl.0 hl.1 bl))

pub plain_make_asks : (words : List Text) (arguments : MakeArguments) → IsPlainMake words arguments → command_of words ≡ Make arguments
plain_make_asks words arguments p =
    ap command_of p.words ∙ numbers_ask p.name arguments.seed arguments.workers arguments.lines p.ranges.0 p.ranges.1 p.ranges.2

-- ---- help

refused_by : (words : List Text) (kind : ErrorKind) (more : Kinds) → fault_of program words ≡ kind ∷ more → command_of words ≡ Refused
unfolding command_of
refused_by words kind more e = ap (λ (k : Kinds). unless_fault k (asked (subcommand_of program words))) e

first_help : (name word : Text) (rest : List Text) → IsHelp word → command_of (name ∷ word ∷ rest) ≡ Refused
unfolding clap_on_literals
first_help name word rest (inl e) = rw e (refused_by (name ∷ codes "help" ∷ rest) _ _ refl)
first_help name word rest (inr (inl e)) = rw e (refused_by (name ∷ codes "--help" ∷ rest) _ _ refl)
first_help name word rest (inr (inr e)) = rw e (refused_by (name ∷ codes "-h" ∷ rest) _ _ refl)

-- words with a fault are refused
refused_if : (words : List Text) → IsFaulty (fault_of program words) → command_of words ≡ Refused
unfolding command_of
refused_if words faulty = go (fault_of program words) faulty
  where
    go : (kinds : Kinds) → IsFaulty kinds → unless_fault kinds (asked (subcommand_of program words)) ≡ Refused
    go [] h = absurd h
    go (k ∷ ks) h = refl

-- `help` right behind a command without arguments is a fault
help_is_faulty : (v : Verb) → TakesNone v → (rest : List Text) → IsFaulty (level_fault (shape_of v) [] nothing_held (codes "help" ∷ rest) false [])
unfolding clap_on_literals
help_is_faulty run none rest = tt
help_is_faulty dump none rest = tt
help_is_faulty snaps none rest = tt
help_is_faulty snapshot none rest = absurd none
help_is_faulty make none rest = absurd none

command_help : (v : Verb) → TakesNone v → (name : Text) (rest : List Text) → CommandAsksForHelp rest → command_of (name ∷ word_of v ∷ rest) ≡ Refused
command_help v none name [] h = absurd h
command_help v none name (word ∷ rest) (inl e) =
    rw e (refused_if (name ∷ word_of v ∷ codes "help" ∷ rest)
    (subst IsFaulty (sym (program_fault v name (codes "help" ∷ rest))) (help_is_faulty v none rest)))
command_help v none name (word ∷ rest) (inr has) =
    refused_if (name ∷ word_of v ∷ word ∷ rest) (subst IsFaulty (sym (program_fault v name (word ∷ rest))) (flag_is_faulty v none (word ∷ rest) has))

-- calls for help are no numbers
help_word : IsBad (codes "help")
unfolding number_of digits_number
help_word = record { no_number = refl; no_dash = refl }

long_flag_word : IsBad (codes "--help")
unfolding number_of digits_number
long_flag_word = record { no_number = refl; no_dash = refl }

short_flag_word : IsBad (codes "-h")
unfolding number_of digits_number
short_flag_word = record { no_number = refl; no_dash = refl }

flag_word : (word : Text) → IsHelpFlag word → IsBad word
flag_word word (inl e) = subst IsBad (sym e) long_flag_word
flag_word word (inr e) = subst IsBad (sym e) short_flag_word

flags_are_bad : (words : List Text) → HasHelpFlag words → HasBad words
flags_are_bad [] has = absurd has
flags_are_bad (word ∷ rest) (inl is) = inl (flag_word word is)
flags_are_bad (word ∷ rest) (inr has) = inr (flags_are_bad rest has)

help_is_bad : (words : List Text) → CommandAsksForHelp words → HasBad words
help_is_bad [] h = absurd h
help_is_bad (word ∷ rest) (inl e) = inl (subst IsBad (sym e) help_word)
help_is_bad (word ∷ rest) (inr has) = flags_are_bad (word ∷ rest) has

refused_anyway : (kinds : Kinds) → unless_fault kinds Refused ≡ Refused
refused_anyway [] = refl
refused_anyway (k ∷ ks) = refl

make_help : (name : Text) (rest : List Text) → CommandAsksForHelp rest → command_of (name ∷ codes "make" ∷ rest) ≡ Refused
unfolding command_of
make_help name rest asks =
    elim (bad_words rest (help_is_bad rest asks)) [
      | inl faulty ↦ refused_if (name ∷ codes "make" ∷ rest) (subst IsFaulty (sym (program_fault make name rest)) faulty)
      | inr none ↦
          ap (λ (o : Option (Text × List Row)). unless_fault (fault_of program (name ∷ codes "make" ∷ rest)) (asked o)) (program_rows make name rest)
          ∙ ap (λ (a : Option MakeArguments). unless_fault (fault_of program (name ∷ codes "make" ∷ rest)) (make_with a)) none
          ∙ refused_anyway (fault_of program (name ∷ codes "make" ∷ rest))
    ]

snap_help : (name : Text) (rest : List Text) → CommandAsksForHelp rest → command_of (name ∷ codes "snap" ∷ rest) ≡ Refused
unfolding command_of
snap_help name rest asks =
    elim (bad_epoch rest (help_is_bad rest asks)) [
      | inl faulty ↦ refused_if (name ∷ codes "snap" ∷ rest) (subst IsFaulty (sym (program_fault snapshot name rest)) faulty)
      | inr none ↦
          ap (λ (o : Option (Text × List Row)). unless_fault (fault_of program (name ∷ codes "snap" ∷ rest)) (asked o)) (program_rows snapshot name rest)
          ∙ ap (λ (a : Option ℕ). unless_fault (fault_of program (name ∷ codes "snap" ∷ rest)) (snap_with a)) none
          ∙ refused_anyway (fault_of program (name ∷ codes "snap" ∷ rest))
    ]

pub help_refused : (words : List Text) → AsksForHelp words → command_of words ≡ Refused
help_refused [] h = absurd h
help_refused (name ∷ []) h = absurd h
help_refused (name ∷ word ∷ rest) (inl h) = first_help name word rest h
help_refused (name ∷ word ∷ rest) (inr h) = by_name h.0 h.1
  where
    by_name : (word ≡ codes "run") ⊎ ((word ≡ codes "dump") ⊎ ((word ≡ codes "snaps") ⊎ ((word ≡ codes "snap") ⊎ (word ≡ codes "make")))) → CommandAsksForHelp rest → command_of (name ∷ word ∷ rest) ≡ Refused
    by_name (inl e) asks = rw e (command_help run tt name rest asks)
    by_name (inr (inl e)) asks = rw e (command_help dump tt name rest asks)
    by_name (inr (inr (inl e))) asks = rw e (command_help snaps tt name rest asks)
    by_name (inr (inr (inr (inl e)))) asks = rw e (snap_help name rest asks)
    by_name (inr (inr (inr (inr e)))) asks = rw e (make_help name rest asks)

-- ---- what clap's answer says

simple : is_simple_and_free program ≡ true
simple = refl

pub taken : (a : App) (words : List Text) (m : ArgMatches) → a ≡ program → (is_simple_and_free a ≡ true → fault_of a words ≡ [])
    → HasMatchesOf a words m → asked (subcommand_rows_of m) ≡ command_of words
unfolding command_of
taken a words m same none h =
    let held : HasMatchesOf program words m = subst (λ (b : App). HasMatchesOf b words m) same h in
    let no_fault : fault_of program words ≡ [] = ap (λ (b : App). fault_of b words) (sym same) ∙ none (ap is_simple_and_free same ∙ simple) in
    ap asked (held refl).1 ∙ ap (λ (k : Kinds). unless_fault k (asked (subcommand_of program words))) (sym no_fault)

pub fails : (words : List Text) (kind : ErrorKind) → IsAmong kind (fault_of program words) → Refused ≡ command_of words
unfolding command_of
fails words kind among = go (fault_of program words) among
  where
    go : (kinds : Kinds) → IsAmong kind kinds → Refused ≡ unless_fault kinds (asked (subcommand_of program words))
    go [] h = absurd h
    go (k ∷ ks) h = refl

-- a kind of fault that clap gave, and that is not want of memory, is one of the definition's
pub among : (a : App) (words : List Text) (kind : ErrorKind) → a ≡ program
    → (is_simple_and_free a ≡ true → (kind ≡ OutOfMemory) ⊎ IsAmong kind (fault_of a words)) → (kind ≡ OutOfMemory → ⊥)
    → IsAmong kind (fault_of program words)
among a words kind same has other =
    elim (has (ap is_simple_and_free same ∙ simple)) [
      | inl e ↦ absurd (other e)
      | inr is ↦ subst (λ (b : App). IsAmong kind (fault_of b words)) same is
    ]

-- ---- why words are refused

no_options : (o : Option RunOptions) → run_with o ≡ Refused → o ≡ None
no_options (Some options) h = absurd (cc)
no_options None h = refl

no_arguments : (o : Option MakeArguments) → make_with o ≡ Refused → o ≡ None
no_arguments (Some arguments) h = absurd (cc)
no_arguments None h = refl

no_epoch : (o : Option ℕ) → snap_with o ≡ Refused → o ≡ None
no_epoch (Some epoch) h = absurd (cc)
no_epoch None h = refl

-- a command that is refused
lacks : (v : Verb) (rows : List Row) → asked_by v rows ≡ Refused → LacksNumbers v rows
lacks run rows none = no_options (options_of rows) none
lacks dump rows none = absurd (cc)
lacks snaps rows none = absurd (cc)
lacks snapshot rows none = no_epoch (epoch_of rows) none
lacks make rows none = no_arguments (arguments_of rows) none

-- what clap found of the words is no command
no_command : (o : Option (Text × List Row)) → asked o ≡ Refused → IsNoCommand o
no_command None h = tt
no_command (Some p) h = lacks (verb_of p.0) p.1 h

-- clap took the words, and the command is refused
pub refused_numbers : (a : App) (words : List Text) (m : ArgMatches) → a ≡ program → HasMatchesOf a words m → asked (subcommand_rows_of m) ≡ Refused → Refuses words
refused_numbers a words m same h e =
    let held : HasMatchesOf program words m = subst (λ (b : App). HasMatchesOf b words m) same h in
    inr (no_command (subcommand_of program words) (ap asked (sym (held refl).1) ∙ e))

-- ---- the numbers of a run are in their ranges

within_is : (range : Range) (n m : ℕ) → within range n ≡ Some m → IsWithin range m
within_is range n m h = go (nat_le range.least n) (nat_le n range.most) refl refl h
  where
    go : (a b : Bool) → nat_le range.least n ≡ a → nat_le n range.most ≡ b → cond (a && b) (Some n) None ≡ Some m → IsWithin range m
    go true true low high e =
        let same : n ≡ m = cc in
        subst (IsWithin range) same (leb-true range.least n low, leb-true n range.most high)
    go true false low high e = absurd (cc)
    go false b low high e = absurd (cc)

number_in_is : (range : Range) (text : Text) (n : ℕ) → number_in range text ≡ Some n → IsWithin range n
number_in_is range text n h = go (number_of text) h
  where
    go : (o : Option ℕ) → option_and_then (within range) o ≡ Some n → IsWithin range n
    go None e = absurd (cc)
    go (Some m) e = within_is range m n e

number_or_is : (most : ℕ) (range : Range) (text : Option Text) (n : ℕ) → IsWithin range most → number_or most range text ≡ Some n → IsWithin range n
number_or_is most range None n is h = let same : most ≡ n = cc in subst (IsWithin range) same is
number_or_is most range (Some text) n is h = number_in_is range text n h

number_given_is : (range : Range) (text : Option Text) (n : ℕ) → number_given range text ≡ Some n → IsWithin range n
number_given_is range None n h = absurd (cc)
number_given_is range (Some text) n h = number_in_is range text n h

numbers_of : (f : Bool) (a b c : Option ℕ) (options : RunOptions)
    → option_and_then (λ t. option_and_then (λ s. option_map (λ p. record { tries = t; slots = s; snap = p; brief = f }) c) b) a ≡ Some options
    → (a ≡ Some options.tries) × (b ≡ Some options.slots) × (c ≡ Some options.snap)
numbers_of f None b c options h = absurd (cc)
numbers_of f (Some t) None c options h = absurd (cc)
numbers_of f (Some t) (Some s) None options h = absurd (cc)
numbers_of f (Some t) (Some s) (Some p) options h =
    let made : RunOptions = record { tries = t; slots = s; snap = p; brief = f } in
    let same : made ≡ options = cc in
    (ap (λ (o : RunOptions). Some o.tries) same, ap (λ (o : RunOptions). Some o.slots) same, ap (λ (o : RunOptions). Some o.snap) same)

options_in_range : (rows : List Row) (options : RunOptions) → options_of rows ≡ Some options → AreInRange options
options_in_range rows options h =
    let p = numbers_of (is_set (first_of (codes "brief") rows)) (number_or usual.tries tries_range (first_of (codes "tries") rows))
    (number_or usual.slots slots_range (first_of (codes "slots") rows)) (number_or usual.snap snap_range (first_of (codes "snap") rows)) options h in (
      number_or_is usual.tries tries_range (first_of (codes "tries") rows) options.tries (omega arith, omega arith) p.0,
      number_or_is usual.slots slots_range (first_of (codes "slots") rows) options.slots (omega arith, omega arith) p.1,
      number_or_is usual.snap snap_range (first_of (codes "snap") rows) options.snap (omega arith, omega arith) p.2,
    )

made_of : (a b c : Option ℕ) (arguments : MakeArguments)
    → option_and_then (λ s. option_and_then (λ w. option_map (λ l. record { seed = s; workers = w; lines = l }) c) b) a ≡ Some arguments
    → (a ≡ Some arguments.seed) × (b ≡ Some arguments.workers) × (c ≡ Some arguments.lines)
made_of None b c arguments h = absurd (cc)
made_of (Some s) None c arguments h = absurd (cc)
made_of (Some s) (Some w) None arguments h = absurd (cc)
made_of (Some s) (Some w) (Some l) arguments h =
    let made : MakeArguments = record { seed = s; workers = w; lines = l } in
    let same : made ≡ arguments = cc in
    (ap (λ (o : MakeArguments). Some o.seed) same, ap (λ (o : MakeArguments). Some o.workers) same, ap (λ (o : MakeArguments). Some o.lines) same)

arguments_in_range : (rows : List Row) (arguments : MakeArguments) → arguments_of rows ≡ Some arguments → AreMadeInRange arguments
arguments_in_range rows arguments h =
    let p = made_of (number_given seed_range (first_of (codes "seed") rows)) (number_given workers_range (first_of (codes "workers") rows))
    (number_given lines_range (first_of (codes "lines") rows)) arguments h in (
      number_given_is seed_range (first_of (codes "seed") rows) arguments.seed p.0,
      number_given_is workers_range (first_of (codes "workers") rows) arguments.workers p.1,
      number_given_is lines_range (first_of (codes "lines") rows) arguments.lines p.2,
    )

ran : (o : Option RunOptions) (options : RunOptions) → run_with o ≡ Run options → o ≡ Some options
ran None options e = absurd (cc)
ran (Some x) options e = let same : x ≡ options = cc in ap (λ (y : RunOptions). Some y) same

no_run : (o : Option MakeArguments) (options : RunOptions) → make_with o ≡ Run options → ⊥
no_run None options e = absurd (cc)
no_run (Some x) options e = absurd (cc)

no_run_shown : (o : Option ℕ) (options : RunOptions) → snap_with o ≡ Run options → ⊥
no_run_shown None options e = absurd (cc)
no_run_shown (Some x) options e = absurd (cc)

made : (o : Option MakeArguments) (arguments : MakeArguments) → make_with o ≡ Make arguments → o ≡ Some arguments
made None arguments e = absurd (cc)
made (Some x) arguments e = let same : x ≡ arguments = cc in ap (λ (y : MakeArguments). Some y) same

no_make : (o : Option RunOptions) (arguments : MakeArguments) → run_with o ≡ Make arguments → ⊥
no_make None arguments e = absurd (cc)
no_make (Some x) arguments e = absurd (cc)

no_make_shown : (o : Option ℕ) (arguments : MakeArguments) → snap_with o ≡ Make arguments → ⊥
no_make_shown None arguments e = absurd (cc)
no_make_shown (Some x) arguments e = absurd (cc)

shown : (o : Option ℕ) (epoch : ℕ) → snap_with o ≡ Snap epoch → o ≡ Some epoch
shown None epoch e = absurd (cc)
shown (Some x) epoch e = let same : x ≡ epoch = cc in ap (λ (y : ℕ). Some y) same

no_snap_run : (o : Option RunOptions) (epoch : ℕ) → run_with o ≡ Snap epoch → ⊥
no_snap_run None epoch e = absurd (cc)
no_snap_run (Some x) epoch e = absurd (cc)

no_snap_made : (o : Option MakeArguments) (epoch : ℕ) → make_with o ≡ Snap epoch → ⊥
no_snap_made None epoch e = absurd (cc)
no_snap_made (Some x) epoch e = absurd (cc)

-- a property of commands that refused words have, and each command that is asked for, is one of what the words ask for
of_asked : (P : Command → Type 0) → P Refused → ((v : Verb) (rows : List Row) → P (asked_by v rows)) → (words : List Text) → P (command_of words)
unfolding command_of
of_asked P refused each words = go (fault_of program words) (subcommand_of program words)
  where
    go : (kinds : Kinds) (o : Option (Text × List Row)) → P (unless_fault kinds (asked o))
    go (k ∷ ks) o = refused
    go [] None = refused
    go [] (Some p) = each (verb_of p.0) p.1

RunsInRange : Command → Type 0
RunsInRange command = (options : RunOptions) → command ≡ Run options → AreInRange options

run_in_range : (v : Verb) (rows : List Row) → RunsInRange (asked_by v rows)
unfolding RunsInRange
run_in_range run rows options is = options_in_range rows options (ran (options_of rows) options is)
run_in_range dump rows options is = absurd (cc)
run_in_range snaps rows options is = absurd (cc)
run_in_range snapshot rows options is = absurd (no_run_shown (epoch_of rows) options is)
run_in_range make rows options is = absurd (no_run (arguments_of rows) options is)

MakesInRange : Command → Type 0
MakesInRange command = (arguments : MakeArguments) → command ≡ Make arguments → AreMadeInRange arguments

make_in_range : (v : Verb) (rows : List Row) → MakesInRange (asked_by v rows)
unfolding MakesInRange
make_in_range run rows arguments is = absurd (no_make (options_of rows) arguments is)
make_in_range dump rows arguments is = absurd (cc)
make_in_range snaps rows arguments is = absurd (cc)
make_in_range snapshot rows arguments is = absurd (no_make_shown (epoch_of rows) arguments is)
make_in_range make rows arguments is = arguments_in_range rows arguments (made (arguments_of rows) arguments is)

ShowsInRange : Command → Type 0
ShowsInRange command = (epoch : ℕ) → command ≡ Snap epoch → IsWithin epoch_range epoch

snap_in_range : (v : Verb) (rows : List Row) → ShowsInRange (asked_by v rows)
unfolding ShowsInRange
snap_in_range run rows epoch is = absurd (no_snap_run (options_of rows) epoch is)
snap_in_range dump rows epoch is = absurd (cc)
snap_in_range snaps rows epoch is = absurd (cc)
snap_in_range snapshot rows epoch is = number_given_is epoch_range (first_of (codes "epoch") rows) epoch (shown (epoch_of rows) epoch is)
snap_in_range make rows epoch is = absurd (no_snap_made (arguments_of rows) epoch is)

-- what an answer of the command says
pub record Answer (words : List Text) (command : Command) : Type 0 where
  pub plain : (options : RunOptions) → IsPlain words options → command ≡ Run options
  pub plain_dump : IsPlainDump words → command ≡ Dump
  pub plain_snaps : IsPlainSnaps words → command ≡ Snaps
  pub plain_snap : (epoch : ℕ) → IsPlainSnap words epoch → command ≡ Snap epoch
  pub plain_make : (arguments : MakeArguments) → IsPlainMake words arguments → command ≡ Make arguments
  pub epoch_range : (epoch : ℕ) → command ≡ Snap epoch → IsWithin epoch_range epoch
  pub made_ranges : (arguments : MakeArguments) → command ≡ Make arguments → AreMadeInRange arguments
  pub ranges : (options : RunOptions) → command ≡ Run options → AreInRange options
  pub help : AsksForHelp words → command ≡ Refused

pub answer : (words : List Text) (command : Command) → command ≡ command_of words → Answer words command
unfolding RunsInRange MakesInRange ShowsInRange
answer words command is = record {
  plain = λ options p. is ∙ plain_ask words options p;
  plain_dump = λ p. is ∙ plain_dump_asks words p;
  plain_snaps = λ p. is ∙ plain_snaps_asks words p;
  plain_snap = λ epoch p. is ∙ plain_snap_asks words epoch p;
  plain_make = λ arguments p. is ∙ plain_make_asks words arguments p;
  made_ranges = λ arguments e. of_asked MakesInRange (λ arguments e. absurd (cc)) make_in_range words arguments (sym is ∙ e);
  ranges = λ options e. of_asked RunsInRange (λ options e. absurd (cc)) run_in_range words options (sym is ∙ e);
  epoch_range = λ epoch e. of_asked ShowsInRange (λ epoch e. absurd (cc)) snap_in_range words epoch (sym is ∙ e);
  help = λ h. is ∙ help_refused words h;
}
