-- The refusals of a round's lines by their kinds, one before another.
use Rattle.std.proofs.Common.{◌≡◌, refl, Option, Some, None}
use Rattle.std.specs.Option.{option_or}
use Rattle.round_engine.specs.Ends.{first_of}
use Rattle.round_engine.specs.declared.report.End.{End}

pub by_kinds : (device damage draw full sequence memory : Option End)
    → option_or (option_or (option_or device damage) (option_or (option_or draw full) sequence)) memory
    ≡ first_of device (first_of damage (first_of draw (first_of full (first_of sequence memory))))
by_kinds (Some x) damage draw full sequence memory = refl
by_kinds None (Some x) draw full sequence memory = refl
by_kinds None None (Some x) full sequence memory = refl
by_kinds None None None (Some x) sequence memory = refl
by_kinds None None None None (Some x) memory = refl
by_kinds None None None None None (Some x) = refl
by_kinds None None None None None None = refl
