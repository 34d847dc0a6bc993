-- What was found is what is looked up.
use Rattle.std.proofs.Common.{◌∙◌, sym}
use Rattle.std.specs.Prelude.{◌==◌}
use Rattle.homes.specs.declared.places.Holder.TheVariants.{Dead}
use Rattle.drop_core.proofs.Lookups.{looked-up, looked-none, found_in}
use Rattle.drop_core.proofs.table.Table.header.Goals as goal

pub returns-in-Some : goal.returns-in-Some
returns-in-Some c =
    looked-up (λ a b. a == b) Dead c.args.self.now.headers c.args.slot c.in-Some.entry
    (found_in (λ e. e.0 == c.args.slot) c.as_slice.ensures (sym c.find_header.ensures ∙ c.in-Some.is))

pub returns-in-None : goal.returns-in-None
returns-in-None c =
    looked-none (λ a b. a == b) Dead c.args.self.now.headers c.args.slot
    (found_in (λ e. e.0 == c.args.slot) c.as_slice.ensures (sym c.find_header.ensures ∙ c.in-None.is))
