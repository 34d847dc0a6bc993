-- What a setting, an argument and a command add to the definition of a command.
use Rattle.std.proofs.Common.{◌≡◌, ◌∙◌, ap, ap₂, Bool, true, false}
use Rattle.std.specs.Prelude.{◌||◌}
use Rattle.clap.specs.Words.{AddsArg, AddsSubcommand, App, Rule, Shape, app_of, rule_of, with_rule, with_subcommand}
use Rattle.clap.specs.Simple.{app_of_fields, on_top}
use Rattle.clap.specs.declared.builder.arg.Arg.{Arg}
use Rattle.clap.specs.declared.builder.command.Command.{Command}
use Rattle.clap.specs.declared.builder.command.Command.TheOpen.{Command-F}
use Rattle.clap.specs.declared.builder.command.Command.TheViews.{out-Command}
use Rattle.command_line.specs.Commands.{HasApp, leaf}

-- a command that was made has its definition
pub app_made : (command : Command) (app : App) → app_of command ≡ app → (out-Command command).has_globals ≡ false
    → HasApp app command
unfolding HasApp
app_made command app is local = (is, local)

pub app_is : (command : Command) (app : App) → HasApp app command → app_of command ≡ app
unfolding HasApp
app_is command app has = has.0

pub without_help : (old new : Command) (app : App)
    → out-Command new ≡ record (out-Command old) { disable_help_flag = true } → HasApp app old
    → HasApp (on_top (λ (s : Shape). record s { disable_help_flag = true }) app) new
unfolding HasApp
without_help old new app is has = (
  ap app_of_fields is ∙ ap (on_top (λ (s : Shape). record s { disable_help_flag = true })) has.0,
  ap (λ (f : Command-F Command). f.has_globals) is ∙ has.1,
)

pub without_help_command : (old new : Command) (app : App)
    → out-Command new ≡ record (out-Command old) { disable_help_subcommand = true } → HasApp app old
    → HasApp (on_top (λ (s : Shape). record s { disable_help_subcommand = true }) app) new
unfolding HasApp
without_help_command old new app is has = (
  ap app_of_fields is ∙ ap (on_top (λ (s : Shape). record s { disable_help_subcommand = true })) has.0,
  ap (λ (f : Command-F Command). f.has_globals) is ∙ has.1,
)

pub wanting_command : (old new : Command) (app : App)
    → out-Command new ≡ record (out-Command old) { subcommand_required = true } → HasApp app old
    → HasApp (on_top (λ (s : Shape). record s { subcommand_required = true }) app) new
unfolding HasApp
wanting_command old new app is has = (
  ap app_of_fields is ∙ ap (on_top (λ (s : Shape). record s { subcommand_required = true })) has.0,
  ap (λ (f : Command-F Command). f.has_globals) is ∙ has.1,
)

pub argument_added : (old new : Command) (argument : Arg) (app : App) (rule : Rule) → AddsArg old argument new
    → HasApp app old → rule_of argument ≡ rule → argument.global ≡ false → HasApp (with_rule app rule) new
unfolding HasApp
argument_added old new argument app rule adds has is local = (
  adds.shape local ∙ ap₂ with_rule has.0 is,
  adds.globals ∙ ap₂ (λ (x y : Bool). x || y) has.1 local,
)

pub command_added : (old below new : Command) (app : App) (shape : Shape) → AddsSubcommand old below new
    → HasApp app old → HasApp (leaf shape) below → HasApp (with_subcommand app shape) new
unfolding HasApp
command_added old below new app shape adds has is = (
  adds.shape is.1 ∙ ap₂ with_subcommand has.0 (ap (λ (a : App). a.top) is.0),
  adds.globals ∙ ap₂ (λ (x y : Bool). x || y) has.1 is.1,
)
