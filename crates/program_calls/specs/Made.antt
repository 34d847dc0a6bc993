-- What a call of `make` comes to, whatever its source tells: the script of its numbers, told as text.
use Rattle.std.specs.Prelude.{◌≡◌, []}
use Rattle.command_line.specs.declared.command.MakeArguments.{MakeArguments}
use Rattle.script_grammar.specs.Script.{Bytes}
use Rattle.script_maker.specs.Generator.{script_text}
use Rattle.program_calls.specs.declared.ending.Ending.{Ending}
use Rattle.program_calls.specs.declared.ending.Ending.TheVariants.{Finished, NoMemory}

-- How it may end, and what it prints before its last line: the script; or nothing, where memory was wanting.
abbrev pub MakeComes : MakeArguments → Bytes → Ending → Type 0
MakeComes arguments text Finished = text ≡ script_text arguments.seed arguments.workers arguments.lines
MakeComes arguments text NoMemory = text ≡ []
MakeComes arguments text _ = ⊥

-- There are a text and an ending that may come so, and this is shown of both.
pub record Makes (arguments : MakeArguments) (Shows : Bytes → Ending → Type 0) : Type 0 where
  pub text : Bytes
  pub ending : Ending
  pub comes : MakeComes arguments text ending
  pub shown : Shows text ending
