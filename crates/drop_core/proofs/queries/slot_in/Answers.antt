-- What was found is what is looked up.
use Rattle.std.proofs.Common.{◌∙◌, sym}
use Rattle.std.specs.Prelude.{◌==◌}
use Rattle.drop_core.specs.Table.{fresh_slot}
use Rattle.drop_core.proofs.Lookups.{looked-up, looked-none}
use Rattle.drop_core.proofs.queries.slot_in.Goals as goal

pub returns-in-Some : goal.returns-in-Some
returns-in-Some c =
    looked-up (λ a b. a == b) fresh_slot c.args.slots.now c.args.slot c.in-Some.entry (sym c.find_slot.ensures ∙ c.in-Some.is)

pub returns-in-None : goal.returns-in-None
returns-in-None c =
    looked-none (λ a b. a == b) fresh_slot c.args.slots.now c.args.slot (sym c.find_slot.ensures ∙ c.in-None.is)
