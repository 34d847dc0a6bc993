-- The numbers of options and arguments, and what the words ask for.
use Rattle.std.specs.Prelude.{◌≡◌, ◌≢◌, ◌⊎◌, ℕ, ◌≤◌, ◌&&◌, Bool, false, List, [], ◌∷◌, codes, Option, Some, None}
use Rattle.std.specs.Prelude.{nat_le, if◌then◌else◌, option_map, option_and_then, ⊤}
use Rattle.std.specs.Str.{bytes_eq}
use Rattle.decimals.specs.Numbers.{number_of}
use Rattle.clap.specs.Walk.{Row, Text, first_of}
use Rattle.clap.specs.Kinds.{IsAmong, Kinds}
use Rattle.clap.specs.Faults.{fault_of}
use Rattle.clap.specs.Simple.{subcommand_of}
use Rattle.clap.specs.declared.error.kind.ErrorKind.{ErrorKind}
use Rattle.clap.specs.declared.error.kind.ErrorKind.TheVariants.{OutOfMemory}
use Rattle.command_line.specs.Commands.{program}
use Rattle.command_line.specs.declared.command.Command.{Command}
use Rattle.command_line.specs.declared.command.Command.TheVariants.{Run, Dump, Snaps, Snap, Make, Refused}
use Rattle.command_line.specs.declared.command.MakeArguments.{MakeArguments}
use Rattle.command_line.specs.declared.command.RunOptions.{RunOptions}
use Rattle.command_line.specs.declared.number.Range.{Range}

-- ---- ranges

-- how often a transaction is tried
abbrev pub tries_range : Range
tries_range = record { least = 1; most = 1000000 }

-- how many slots there are
abbrev pub slots_range : Range
slots_range = record { least = 4; most = 4096 }

-- how many pages of snapshots stay in memory
abbrev pub snap_range : Range
snap_range = record { least = 1; most = 65536 }

-- where the generator of scripts begins: a number below 2^31
abbrev pub seed_range : Range
seed_range = record { least = 0; most = 2147483647 }

-- how many workers a script that is made has
abbrev pub workers_range : Range
workers_range = record { least = 1; most = 8 }

-- how many transactions it has
abbrev pub lines_range : Range
lines_range = record { least = 1; most = 65536 }

-- the epochs that a snapshot may be asked of
abbrev pub epoch_range : Range
epoch_range = record { least = 0; most = 1048575 }

-- the number is in the range, whose ends count
abbrev pub IsWithin : Range → ℕ → Type 0
IsWithin range n = (range.least ≤ n) × (n ≤ range.most)

-- each number of a run is in its range
abbrev pub AreInRange : RunOptions → Type 0
AreInRange options = IsWithin tries_range options.tries × IsWithin slots_range options.slots
    × IsWithin snap_range options.snap

-- each number of a script to be made is in its range
abbrev pub AreMadeInRange : MakeArguments → Type 0
AreMadeInRange arguments = IsWithin seed_range arguments.seed × IsWithin workers_range arguments.workers
    × IsWithin lines_range arguments.lines

-- what stands for options that are left out
abbrev pub usual : RunOptions
usual = record { tries = 1000; slots = 256; snap = 4096; brief = false }

-- ---- numbers and flags, from the texts of their values

-- the number, if it is in the range
abbrev pub within : Range → ℕ → Option ℕ
within range n = if nat_le range.least n && nat_le n range.most then Some n else None

-- the number that the text is, if it is in the range
abbrev pub number_in : Range → Text → Option ℕ
number_in range text = option_and_then (within range) (number_of text)

-- the number of an option, or the usual one where it is left out
abbrev pub number_or : ℕ → Range → Option Text → Option ℕ
number_or otherwise range None = Some otherwise
number_or otherwise range (Some text) = number_in range text

-- the number of an argument, if it is given
abbrev pub number_given : Range → Option Text → Option ℕ
number_given range None = None
number_given range (Some text) = number_in range text

-- the flag was given
abbrev pub is_set : Option Text → Bool
is_set None = false
is_set (Some text) = bytes_eq text (codes "true")

-- the options of a run, if each number is in its range
abbrev pub options_of : List Row → Option RunOptions
options_of rows =
    option_and_then (λ tries. option_and_then (λ slots. option_map (λ snap. record {
      tries = tries;
      slots = slots;
      snap = snap;
      brief = is_set (first_of (codes "brief") rows);
    })
    (number_or usual.snap snap_range (first_of (codes "snap") rows)))
    (number_or usual.slots slots_range (first_of (codes "slots") rows)))
    (number_or usual.tries tries_range (first_of (codes "tries") rows))

-- the epoch of `snap`, if it is in its range
abbrev pub epoch_of : List Row → Option ℕ
epoch_of rows = number_given epoch_range (first_of (codes "epoch") rows)

-- the arguments of `make`, if each number is in its range
abbrev pub arguments_of : List Row → Option MakeArguments
arguments_of rows =
    option_and_then (λ seed. option_and_then (λ workers. option_map (λ lines. record {
      seed = seed;
      workers = workers;
      lines = lines;
    })
    (number_given lines_range (first_of (codes "lines") rows)))
    (number_given workers_range (first_of (codes "workers") rows)))
    (number_given seed_range (first_of (codes "seed") rows))

-- ---- what the words ask for

-- a run with these options, if there are any
abbrev pub run_with : Option RunOptions → Command
run_with (Some options) = Run options
run_with None = Refused

-- a script with these arguments, if there are any
abbrev pub make_with : Option MakeArguments → Command
make_with (Some arguments) = Make arguments
make_with None = Refused

-- the snapshot of this epoch, if there is one
abbrev pub snap_with : Option ℕ → Command
snap_with (Some epoch) = Snap epoch
snap_with None = Refused

-- the commands
pub data Verb : Type 0 where
  run : Verb
  dump : Verb
  snaps : Verb
  snapshot : Verb
  make : Verb

-- the command of this name: clap lets only names of commands through, so one that is none of the others is `run`
abbrev pub verb_of : Text → Verb
verb_of name = if bytes_eq name (codes "dump") then dump
    else (if bytes_eq name (codes "snaps") then snaps
    else (if bytes_eq name (codes "snap") then snapshot
    else (if bytes_eq name (codes "make") then make else run)))

-- what a command asks for, by what its words hold
abbrev pub asked_by : Verb → List Row → Command
asked_by run rows = run_with (options_of rows)
asked_by dump rows = Dump
asked_by snaps rows = Snaps
asked_by snapshot rows = snap_with (epoch_of rows)
asked_by make rows = make_with (arguments_of rows)

-- the command that the words name, if they name one
abbrev pub asked : Option (Text × List Row) → Command
asked None = Refused
asked (Some p) = asked_by (verb_of p.0) p.1

-- the command, or refused where there is a kind of fault
abbrev pub unless_fault : Kinds → Command → Command
unless_fault [] command = command
unless_fault (k ∷ ks) command = Refused

-- What the words ask for. They are refused where clap's definition finds a fault in them (help is
-- a fault too), or where a number is none or out of its range.
unfoldable pub command_of : List Text → Command
command_of words = unless_fault (fault_of program words) (asked (subcommand_of program words))

-- the command has numbers, and not every one is in its range
abbrev pub LacksNumbers : Verb → List Row → Type 0
LacksNumbers run rows = options_of rows ≡ None
LacksNumbers dump rows = ⊥
LacksNumbers snaps rows = ⊥
LacksNumbers snapshot rows = epoch_of rows ≡ None
LacksNumbers make rows = arguments_of rows ≡ None

-- the words name no command, or one with numbers, of which not every one is in its range
abbrev pub IsNoCommand : Option (Text × List Row) → Type 0
IsNoCommand None = ⊤
IsNoCommand (Some p) = LacksNumbers (verb_of p.0) p.1

-- why words are refused: clap's definition has a kind of fault for them that is not want of memory
-- (a call for help is an unknown word, option or command), or they are in order for clap, and name
-- no command with its numbers
abbrev pub Refuses : List Text → Type 0
Refuses words =
    ((kind : ErrorKind) × IsAmong kind (fault_of program words) × (kind ≢ OutOfMemory))
    ⊎ IsNoCommand (subcommand_of program words)
