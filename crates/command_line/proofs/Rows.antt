-- Rows of what the words ask for, and that there are plain words and calls for help.
use Rattle.std.proofs.Common.{◌≡◌, refl, sym, ap₂, true, List, [], ◌∷◌, inl, inr, arith}
use Rattle.std.specs.Prelude.{codes}
use Rattle.std.proofs.lemmas.Fmt.{decimal_digit}
use Rattle.clap.specs.Walk.{Text}
use Rattle.command_line.specs.Options.{command_of, usual}
use Rattle.command_line.specs.Plain.{AsksForHelp, IsPlain, brief, sets, snap, tries}
use Rattle.command_line.specs.declared.command.Command.TheVariants.{Run, Dump}
use Rattle.command_line.specs.declared.command.RunOptions.{RunOptions}
use Rattle.command_line.proofs.Plain.{plain_ask, plain_dump_asks}

run_alone : IsPlain (codes "foedus" ∷ codes "run" ∷ []) usual
run_alone = record { name = codes "foedus"; choices = []; words = refl; choices_are = tt; options = refl }

abbrev two : RunOptions
two = record { tries = 7; slots = 256; snap = 9; brief = true }

abbrev two_words : List Text
two_words = codes "x" ∷ codes "run" ∷ codes "--snap" ∷ codes "9" ∷ codes "--brief" ∷ codes "--tries" ∷ codes "7" ∷ []

two_options : IsPlain two_words two
two_options = record {
  name = codes "x";
  choices = sets snap 9 ∷ brief ∷ sets tries 7 ∷ [];
  words = ap₂ (λ (a b : Text). codes "x" ∷ codes "run" ∷ codes "--snap" ∷ a ∷ codes "--brief" ∷ codes "--tries" ∷ b ∷ [])
      (sym (decimal_digit 9 (omega arith))) (sym (decimal_digit 7 (omega arith)));
  choices_are = ((refl, (refl, tt)), (omega arith, omega arith), ((refl, tt), tt, (tt, (omega arith, omega arith), tt)));
  options = refl;
}

run_row : command_of (codes "foedus" ∷ codes "run" ∷ []) ≡ Run usual
run_row = plain_ask (codes "foedus" ∷ codes "run" ∷ []) usual run_alone

dump_row : command_of (codes "foedus" ∷ codes "dump" ∷ []) ≡ Dump
dump_row = plain_dump_asks (codes "foedus" ∷ codes "dump" ∷ []) (record { name = codes "foedus"; words = refl })

two_row : command_of two_words ≡ Run two
two_row = plain_ask two_words two two_options

-- a call for help behind an option
late_help : AsksForHelp (codes "foedus" ∷ codes "run" ∷ codes "--tries" ∷ codes "5" ∷ codes "--help" ∷ [])
late_help = inr (inl refl, inr (inr (inr (inl (inl refl)))))
