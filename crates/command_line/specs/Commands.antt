-- The program as clap's definition.
use Rattle.std.specs.Prelude.{◌≡◌, [], ◌∷◌, codes, true, false, Some}
use Rattle.clap.specs.Walk.{Rule, Text}
use Rattle.clap.specs.Simple.{App, Shape, app_of, new_rule, new_shape}
use Rattle.clap.specs.declared.builder.action.ArgAction.TheVariants.{Set, SetTrue}
use Rattle.clap.specs.declared.builder.command.Command.{Command}
use Rattle.clap.specs.declared.builder.command.Command.TheViews.{out-Command}

-- an option with one value
abbrev pub option_rule : Text → Rule
option_rule name = record (new_rule name) { long = Some name; action = Some Set }

-- an option without a value
abbrev pub flag_rule : Text → Rule
flag_rule name = record (new_rule name) { long = Some name; action = Some SetTrue }

-- a word that has to be given
abbrev pub argument_rule : Text → Rule
argument_rule name = record (new_rule name) { required = true }

-- `run`, which has four options and no flag for help
abbrev pub run_shape : Shape
run_shape = record (new_shape (codes "run")) {
  disable_help_flag = true;
  rules = option_rule (codes "tries") ∷ option_rule (codes "slots") ∷ option_rule (codes "snap")
      ∷ flag_rule (codes "brief") ∷ [];
}

-- `dump`, which has neither options nor a flag for help
abbrev pub dump_shape : Shape
dump_shape = record (new_shape (codes "dump")) { disable_help_flag = true }

-- `snaps`, which has neither options nor a flag for help
abbrev pub snaps_shape : Shape
snaps_shape = record (new_shape (codes "snaps")) { disable_help_flag = true }

-- `snap`, which has one argument, and neither options nor a flag for help
abbrev pub snap_shape : Shape
snap_shape = record (new_shape (codes "snap")) {
  disable_help_flag = true;
  rules = argument_rule (codes "epoch") ∷ [];
}

-- `make`, which has three arguments, and neither options nor a flag for help
abbrev pub make_shape : Shape
make_shape = record (new_shape (codes "make")) {
  disable_help_flag = true;
  rules = argument_rule (codes "seed") ∷ argument_rule (codes "workers") ∷ argument_rule (codes "lines") ∷ [];
}

-- the program, which has to be told a command, and has neither a flag nor a command for help
abbrev pub program : App
program = record {
  top = record (new_shape (codes "foedus")) {
    disable_help_flag = true;
    disable_help_subcommand = true;
    subcommand_required = true;
    is_leaf = false;
  };
  subs = run_shape ∷ dump_shape ∷ snaps_shape ∷ snap_shape ∷ make_shape ∷ [];
}

-- ---- how it is put together

-- the command has this definition, and no argument that is for the commands below it too
unfoldable pub HasApp : App → Command → Type 0
HasApp app command = (app_of command ≡ app) × ((out-Command command).has_globals ≡ false)

-- a command of this shape, with no command below it
abbrev pub leaf : Shape → App
leaf shape = record { top = shape; subs = [] }

-- a command of this name, which has neither arguments nor a flag for help
abbrev pub bare : Text → App
bare name = leaf (record (new_shape name) { disable_help_flag = true })

-- the program without its commands
abbrev pub bare_program : App
bare_program = leaf (record (new_shape (codes "foedus")) {
  disable_help_flag = true;
  disable_help_subcommand = true;
  subcommand_required = true;
})
