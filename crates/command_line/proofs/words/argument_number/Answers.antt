use Rattle.std.proofs.Common.{◌∙◌, ap}
use Rattle.clap.specs.Words.{found_of}
use Rattle.clap.proofs.WalkLemmas.{first_value-rows}
use Rattle.command_line.specs.Options.{number_given}
use Rattle.command_line.proofs.words.argument_number.Goals as goal

pub returns-clause-number : goal.returns-clause-number
returns-clause-number c =
    c.number_in.ensures.number
    ∙ ap (number_given c.args.range) (c.in_ok-get_str.ensures ∙ first_value-rows (found_of c.args.matches.now) c.args.name.now)

pub returns-in_err-get_str-clause-number : goal.returns-in_err-get_str-clause-number
returns-in_err-get_str-clause-number c =
    c.from_residual.ensures
    ∙ ap (number_given c.args.range) (c.in_err-get_str.ensures ∙ first_value-rows (found_of c.args.matches.now) c.args.name.now)
