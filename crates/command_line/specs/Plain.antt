-- Plain words, and calls for help.
use Rattle.std.specs.Prelude.{◌≡◌, ◌⊎◌, ℕ, Bool, true, false, List, [], ◌∷◌, codes, decimal, if◌then◌else◌, ⊤}
use Rattle.clap.specs.Walk.{Text}
use Rattle.command_line.specs.Options.{AreMadeInRange, IsWithin, epoch_range, slots_range, snap_range, tries_range}
use Rattle.command_line.specs.Options.{usual}
use Rattle.command_line.specs.declared.command.MakeArguments.{MakeArguments}
use Rattle.command_line.specs.declared.command.RunOptions.{RunOptions}
use Rattle.command_line.specs.declared.number.Range.{Range}

-- the options of `run` that have a number
pub data Setting : Type 0 where
  tries : Setting
  slots : Setting
  snap : Setting

-- the word that names such an option
abbrev pub flag_of : Setting → Text
flag_of tries = codes "--tries"
flag_of slots = codes "--slots"
flag_of snap = codes "--snap"

-- which numbers it takes
abbrev pub range_of : Setting → Range
range_of tries = tries_range
range_of slots = slots_range
range_of snap = snap_range

-- the number that stands for it where it is left out
abbrev pub usual_of : Setting → ℕ
usual_of tries = usual.tries
usual_of slots = usual.slots
usual_of snap = usual.snap

-- two such options are one
abbrev pub is_same_setting : Setting → Setting → Bool
is_same_setting tries tries = true
is_same_setting slots slots = true
is_same_setting snap snap = true
is_same_setting _ _ = false

-- an option as it is given: with its number, or `--brief`
pub data Choice : Type 0 where
  sets : Setting → ℕ → Choice
  brief : Choice

-- each option is a word, and its number the word after it
abbrev pub words_of : List Choice → List Text
words_of [] = []
words_of (sets s n ∷ rest) = flag_of s ∷ decimal n ∷ words_of rest
words_of (brief ∷ rest) = codes "--brief" ∷ words_of rest

-- two choices are of one option
abbrev pub is_same : Choice → Choice → Bool
is_same (sets s n) (sets t m) = is_same_setting s t
is_same brief brief = true
is_same _ _ = false

-- the option is none of these
abbrev pub IsLeftOut : Choice → List Choice → Type 0
IsLeftOut c [] = ⊤
IsLeftOut c (d ∷ rest) = (is_same c d ≡ false) × IsLeftOut c rest

-- the number, if there is one, is in its range
abbrev pub IsInRange : Choice → Type 0
IsInRange (sets s n) = IsWithin (range_of s) n
IsInRange brief = ⊤

-- each option at most once, and each number in its range
abbrev pub AreChoices : List Choice → Type 0
AreChoices [] = ⊤
AreChoices (c ∷ rest) = IsLeftOut c rest × IsInRange c × AreChoices rest

-- the number of an option, or the usual one where it is left out
abbrev pub number_chosen : Setting → List Choice → ℕ
number_chosen s [] = usual_of s
number_chosen s (sets t n ∷ rest) = if is_same_setting s t then n else number_chosen s rest
number_chosen s (brief ∷ rest) = number_chosen s rest

-- `--brief` is given
abbrev pub is_brief : List Choice → Bool
is_brief [] = false
is_brief (sets s n ∷ rest) = is_brief rest
is_brief (brief ∷ rest) = true

-- what a run is asked for with these options
abbrev pub options_chosen : List Choice → RunOptions
options_chosen choices = record {
  tries = number_chosen tries choices;
  slots = number_chosen slots choices;
  snap = number_chosen snap choices;
  brief = is_brief choices;
}

-- any name of the program, then `run`, and the options in any order
pub record IsPlain (call : List Text) (numbers : RunOptions) : Type 0 where
  pub name : Text
  pub choices : List Choice
  pub words : call ≡ name ∷ codes "run" ∷ words_of choices
  pub choices_are : AreChoices choices
  pub options : numbers ≡ options_chosen choices

-- any name of the program, and then `dump`
pub record IsPlainDump (call : List Text) : Type 0 where
  pub name : Text
  pub words : call ≡ name ∷ codes "dump" ∷ []

-- any name of the program, and then `snaps`
pub record IsPlainSnaps (call : List Text) : Type 0 where
  pub name : Text
  pub words : call ≡ name ∷ codes "snaps" ∷ []

-- any name of the program, then `snap`, and the epoch
pub record IsPlainSnap (call : List Text) (epoch : ℕ) : Type 0 where
  pub name : Text
  pub words : call ≡ name ∷ codes "snap" ∷ decimal epoch ∷ []
  pub range : IsWithin epoch_range epoch

-- any name of the program, then `make`, and its three numbers
pub record IsPlainMake (call : List Text) (numbers : MakeArguments) : Type 0 where
  pub name : Text
  pub words : call ≡ name ∷ codes "make" ∷ decimal numbers.seed ∷ decimal numbers.workers
      ∷ decimal numbers.lines ∷ []
  pub ranges : AreMadeInRange numbers

-- ---- help

-- a flag for help
abbrev pub IsHelpFlag : Text → Type 0
IsHelpFlag word = (word ≡ codes "--help") ⊎ (word ≡ codes "-h")

-- `help`, or a flag for it
abbrev pub IsHelp : Text → Type 0
IsHelp word = (word ≡ codes "help") ⊎ IsHelpFlag word

-- a flag for help is among the words
abbrev pub HasHelpFlag : List Text → Type 0
HasHelpFlag [] = ⊥
HasHelpFlag (word ∷ rest) = IsHelpFlag word ⊎ HasHelpFlag rest

-- the word names a command
abbrev pub IsCommandName : Text → Type 0
IsCommandName word = (word ≡ codes "run") ⊎ ((word ≡ codes "dump") ⊎ ((word ≡ codes "snaps")
    ⊎ ((word ≡ codes "snap") ⊎ (word ≡ codes "make"))))

-- what follows a command is `help`, or a flag for help comes at some place after it, as behind options
abbrev pub CommandAsksForHelp : List Text → Type 0
CommandAsksForHelp [] = ⊥
CommandAsksForHelp (word ∷ rest) = (word ≡ codes "help") ⊎ HasHelpFlag (word ∷ rest)

-- the word after the name is a call for help, or it is a command, and what follows calls for help
abbrev pub AsksForHelp : List Text → Type 0
AsksForHelp (name ∷ word ∷ rest) = IsHelp word ⊎ (IsCommandName word × CommandAsksForHelp rest)
AsksForHelp _ = ⊥
