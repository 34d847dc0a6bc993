-- A flag for help is refused at whatever place after a command without arguments it stands.
use Rattle.std.proofs.Common.{◌≡◌, refl, sym, subst, cond, ℕ, zero, suc, ◌&&◌, Bool, true, false, List, [], ◌∷◌, length, Option, Some, None, inl, inr}
use Rattle.std.specs.Prelude.{codes, drop, encode_utf8, slice_get, ⊤}
use Rattle.std.specs.Str.{bytes_eq, chars}
use Rattle.clap.specs.Kinds.{Kinds, or_else}
use Rattle.clap.specs.Lexer.{long_of, short_of}
use Rattle.clap.specs.Walk.{Held, Outcome, Rule, Step, Text, Waiting, Walk, done, waits, plain, refused, idle, option, positional, next, trailing, subcommand, value, after_flag, after_step, arg_by_id, arg_by_index, arg_by_long, arg_by_short, attached_value, bundle, bundle_met, bundle_step, flag_met, is_pending, long_met, long_or_other, nothing_held, option_met, option_word, plain_word, pushed, reacted, settled, short_met, short_or_plain, subcommand_met, subcommand_or_other, takes_several, takes_values, to_positional, walk_from, walked, walked_from, word_met}
use Rattle.clap.specs.Faults.{level_fault, step_fault, turn_fault, walk_fault, word_fault}
use Rattle.clap.proofs.OnLiterals.{clap_on_literals}
use Rattle.command_line.specs.Plain.{HasHelpFlag, IsHelpFlag}
use Rattle.command_line.specs.Options.{Verb, run, dump, snaps, snapshot, make}
use Rattle.command_line.proofs.Steps.{shape_of}

-- ---- the walk goes on

-- no command was met, and no flag is to be passed over
pub record IsOpen (w : Walk) : Type 0 where
  pub stopped : w.stopped ≡ None
  pub skip : w.held.skip ≡ 0

-- the word names no command
NamesNone : Step → Type 0
NamesNone (subcommand name) = ⊥
NamesNone _ = ⊤

option_keeps : (c : List Rule) (a : Rule) (v : Option Text) (h : Held) → h.skip ≡ 0 → (option_met c a v h).0.skip ≡ 0
option_keeps c a None h e = e
option_keeps c a (Some v) h e = e

flag_keeps : (c : List Rule) (a : Rule) (v : Option Text) (h : Held) → h.skip ≡ 0 → (flag_met c a v h).0.skip ≡ 0
flag_keeps c a None h e = e
flag_keeps c a (Some v) h e = e

long_keeps : (c : List Rule) (a : Option Rule) (v : Option Text) (h : Held) → h.skip ≡ 0 → (long_met c a v h).0.skip ≡ 0
long_keeps c None v h e = e
long_keeps c (Some a) v h e = go (takes_values a)
  where
    go : (b : Bool) → (cond b (option_met c a v h) (flag_met c a v h)).0.skip ≡ 0
    go true = option_keeps c a v h e
    go false = flag_keeps c a v h e

Keeps : (Text → ℕ → Outcome → Held → Held × Outcome) → Type 0
Keeps more = (flags : Text) (skip : ℕ) (so_far : Outcome) (h : Held) → h.skip ≡ 0 → (more flags skip so_far h).0.skip ≡ 0

short_keeps : (c : List Rule) (a : Option Rule) (rest : Text) (h : Held) (more : Text → ℕ → Outcome → Held → Held × Outcome) → Keeps more → h.skip ≡ 0
    → (short_met c a rest h (more rest 0 done)).0.skip ≡ 0
unfolding Keeps
short_keeps c None rest h more keeps e = e
short_keeps c (Some a) rest h more keeps e = go (takes_values a)
  where
    go : (b : Bool) → (cond b (option_met c a (attached_value rest) h) (more rest 0 done (reacted c a [] h))).0.skip ≡ 0
    go true = option_keeps c a (attached_value rest) h e
    go false = keeps rest 0 done (reacted c a [] h) e

step_keeps : (c : List Rule) (x : Option ℕ) (flags : Text) (skip : ℕ) (so_far : Outcome) (h : Held) (more : Text → ℕ → Outcome → Held → Held × Outcome) → Keeps more → h.skip ≡ 0
    → (bundle_step c x flags skip so_far h more).0.skip ≡ 0
unfolding Keeps
step_keeps c None flags skip so_far h more keeps e = e
step_keeps c (Some x) flags zero so_far h more keeps e =
    short_keeps c (arg_by_short c x) (drop (length (encode_utf8 x)) flags) h more keeps e
step_keeps c (Some x) flags (suc skip) so_far h more keeps e = keeps (drop (length (encode_utf8 x)) flags) skip so_far h e

bundle_keeps : (c : List Rule) (k : ℕ) → Keeps (bundle_met c k)
unfolding Keeps bundle_met
bundle_keeps c zero flags skip so_far h e = e
bundle_keeps c (suc k) flags skip so_far h e = step_keeps c (slice_get (chars flags) 0) flags skip so_far h (bundle_met c k) (bundle_keeps c k) e

-- what a word leaves, and what it was
Goes : Held × Step → Type 0
Goes met = (met.0.skip ≡ 0) × NamesNone met.1

plain_goes : (c : List Rule) (waiting : Waiting) (word : Text) (h : Held) → h.skip ≡ 0 → Goes (plain_word c waiting word h)
unfolding Goes NamesNone
plain_goes c idle word h e = (e, tt)
plain_goes c positional word h e = (e, tt)
plain_goes c (option id) word h e = (go (arg_by_id c id), tt)
  where
    go : (a : Option Rule) → (option_word a id word h).0.skip ≡ 0
    go None = e
    go (Some a) = e

flag_goes : (c : List Rule) (waiting : Waiting) (word : Text) (h : Held) (met : Outcome) → h.skip ≡ 0 → Goes (after_flag c waiting word h met)
unfolding Goes NamesNone
flag_goes c waiting word h done e = (e, tt)
flag_goes c waiting word h (waits id) e = (e, tt)
flag_goes c waiting word h plain e = plain_goes c waiting word h e
flag_goes c waiting word h refused e = plain_goes c waiting word h e

other_goes : (c : List Rule) (waiting : Waiting) (word : Text) (long : Option (Text × Option Text)) (h : Held) → h.skip ≡ 0 → Goes (long_or_other c waiting word long h)
unfolding Keeps
other_goes c waiting word (Some p) h e =
    flag_goes c waiting word (long_met c (arg_by_long c p.0) p.1 h).0 (long_met c (arg_by_long c p.0) p.1 h).1 (long_keeps c (arg_by_long c p.0) p.1 h e)
other_goes c waiting word None h e = go (short_of word)
  where
    go : (short : Option Text) → Goes (short_or_plain c waiting word short h)
    go None = plain_goes c waiting word h e
    go (Some flags) = flag_goes c waiting word (bundle c flags h).0 (bundle c flags h).1 (bundle_keeps c (length flags) flags h.skip plain (record h { skip = 0 }) refl)

none_met : (waiting : Waiting) (word : Text) → subcommand_met [] waiting word ≡ None
none_met idle word = refl
none_met (option id) word = refl
none_met positional word = refl

word_goes : (c : List Rule) (is_trailing : Bool) (waiting : Waiting) (position : ℕ) (word : Text) (h : Held) → h.skip ≡ 0 → Goes (word_met c [] is_trailing waiting position word h)
unfolding Goes NamesNone
word_goes c true waiting position word h e = (e, tt)
word_goes c false waiting position word h e =
    subst (λ (name : Option Text). Goes (subcommand_or_other c name waiting position word h)) (sym (none_met waiting word)) (go (bytes_eq word (45 ∷ 45 ∷ [])))
  where
    go : (b : Bool) → Goes (cond b (h, trailing position) (long_or_other c waiting word (long_of word) h))
    go true = (e, tt)
    go false = other_goes c waiting word (long_of word) h e

positional_goes : (c : List Rule) (a : Option Rule) (word : Text) (w : Walk) (h : Held) → w.stopped ≡ None → h.skip ≡ 0 → IsOpen (to_positional c a word w h)
positional_goes c None word w h none e = record { stopped = none; skip = e }
positional_goes c (Some a) word w h none e = record { stopped = refl; skip = go (is_pending a h.pending && takes_several a) }
  where
    go : (b : Bool) → (pushed a.id word (cond b h (settled c h))).skip ≡ 0
    go true = e
    go false = e

after_goes : (c : List Rule) (word : Text) (w : Walk) (h : Held) (step : Step) → w.stopped ≡ None → h.skip ≡ 0 → NamesNone step → IsOpen (after_step c word w h step)
unfolding NamesNone
after_goes c word w h (next waiting) none e names = record { stopped = none; skip = e }
after_goes c word w h (trailing position) none e names = record { stopped = none; skip = e }
after_goes c word w h (subcommand name) none e names = absurd names
after_goes c word w h value none e names = positional_goes c (arg_by_index c w.position) word w h none e

-- a walk that names no commands goes on after each word
goes_on : (c : List Rule) (w : Walk) (word : Text) → IsOpen w → IsOpen (walked c [] w word)
unfolding walked Goes
goes_on c w word open_ =
    let met = word_met c [] w.is_trailing w.waiting w.position word w.held in
    let goes = word_goes c w.is_trailing w.waiting w.position word w.held open_.skip in
    subst (λ (s : Option (Text × List Text)). IsOpen (walked_from c [] s w word)) (sym open_.stopped)
    (after_goes c word w met.0 met.1 open_.stopped goes.0 goes.1)

-- ---- a flag for help is a fault

-- there is a fault
abbrev pub IsFaulty : Kinds → Type 0
IsFaulty [] = ⊥
IsFaulty (k ∷ ks) = ⊤

pub first_is : (a b : Kinds) → IsFaulty a → IsFaulty (or_else a b)
first_is [] b f = absurd f
first_is (k ∷ ks) b f = tt

pub second_is : (a b : Kinds) → IsFaulty b → IsFaulty (or_else a b)
second_is [] b f = f
second_is (k ∷ ks) b f = tt

-- the command takes no arguments
abbrev pub TakesNone : Verb → Type 0
TakesNone run = ⊤
TakesNone dump = ⊤
TakesNone snaps = ⊤
TakesNone snapshot = ⊥
TakesNone make = ⊥

-- the fault of a word, by the parts of the walk
abbrev word_part : Verb → Text → Bool → Waiting → ℕ → Held → Kinds
word_part v word is_trailing waiting position h =
    let met = word_met (shape_of v).rules [] is_trailing waiting position word h in
    or_else (word_fault (shape_of v) [] is_trailing waiting word h) (step_fault (shape_of v) position met.0 met.1)

long_flag : (v : Verb) → TakesNone v → (t : Bool) (waiting : Waiting) (position : ℕ) (h : Held) → IsFaulty (word_part v (codes "--help") t waiting position h)
unfolding clap_on_literals
long_flag run none true waiting position h = tt
long_flag run none false idle position h = tt
long_flag run none false (option id) position h = tt
long_flag run none false positional position h = tt
long_flag dump none true waiting position h = tt
long_flag dump none false idle position h = tt
long_flag dump none false (option id) position h = tt
long_flag dump none false positional position h = tt
long_flag snaps none true waiting position h = tt
long_flag snaps none false idle position h = tt
long_flag snaps none false (option id) position h = tt
long_flag snaps none false positional position h = tt
long_flag snapshot none t waiting position h = absurd none
long_flag make none t waiting position h = absurd none

short_flag : (v : Verb) → TakesNone v → (t : Bool) (waiting : Waiting) (position : ℕ) (h : Held) → h.skip ≡ 0
    → IsFaulty (word_part v (codes "-h") t waiting position h)
unfolding clap_on_literals
short_flag run none true waiting position h e = tt
short_flag run none false idle position h e = rw e tt
short_flag run none false (option id) position h e = rw e tt
short_flag run none false positional position h e = rw e tt
short_flag dump none true waiting position h e = tt
short_flag dump none false idle position h e = rw e tt
short_flag dump none false (option id) position h e = rw e tt
short_flag dump none false positional position h e = rw e tt
short_flag snaps none true waiting position h e = tt
short_flag snaps none false idle position h e = rw e tt
short_flag snaps none false (option id) position h e = rw e tt
short_flag snaps none false positional position h e = rw e tt
short_flag snapshot none t waiting position h e = absurd none
short_flag make none t waiting position h e = absurd none

flag_turn : (v : Verb) → TakesNone v → (w : Walk) (word : Text) → IsOpen w → IsHelpFlag word → IsFaulty (turn_fault (shape_of v) [] w word)
flag_turn v none w word open_ (inl e) = rw (e, open_.stopped) (long_flag v none w.is_trailing w.waiting w.position w.held)
flag_turn v none w word open_ (inr e) = rw (e, open_.stopped) (short_flag v none w.is_trailing w.waiting w.position w.held open_.skip)

walk_is_faulty : (v : Verb) → TakesNone v → (w : Walk) (words : List Text) → IsOpen w → HasHelpFlag words → IsFaulty (walk_fault (shape_of v) [] w words)
unfolding walk_fault
walk_is_faulty v none w [] open_ has = absurd has
walk_is_faulty v none w (word ∷ rest) open_ (inl is) =
    first_is (turn_fault (shape_of v) [] w word) (walk_fault (shape_of v) [] (walked (shape_of v).rules [] w word) rest)
    (flag_turn v none w word open_ is)
walk_is_faulty v none w (word ∷ rest) open_ (inr has) =
    second_is (turn_fault (shape_of v) [] w word) (walk_fault (shape_of v) [] (walked (shape_of v).rules [] w word) rest)
    (walk_is_faulty v none (walked (shape_of v).rules [] w word) rest (goes_on (shape_of v).rules w word open_) has)

pub flag_is_faulty : (v : Verb) → TakesNone v → (words : List Text) → HasHelpFlag words → IsFaulty (level_fault (shape_of v) [] nothing_held words false [])
flag_is_faulty v none words has =
    first_is (walk_fault (shape_of v) [] (walk_from nothing_held) words) _
    (walk_is_faulty v none (walk_from nothing_held) words (record { stopped = refl; skip = refl }) has)
