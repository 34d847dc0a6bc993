-- What was found is what is looked up.
use Rattle.std.proofs.Common.{◌∙◌, sym, ap}
use Rattle.std.specs.Prelude.{◌==◌}
use Rattle.std.specs.Option.{option_copied}
use Rattle.drop_core.specs.declared.table.SnapPage.TheVariants.{Missing}
use Rattle.drop_core.proofs.Lookups.{looked-up, looked-none, found_in}
use Rattle.drop_core.proofs.table.Table.snap.Goals as goal

pub returns-in-Some : goal.returns-in-Some
returns-in-Some c =
    looked-up (λ a b. a == b) Missing c.args.self.now.snaps c.args.number c.in-Some.entry.now
    (found_in (λ e. e.0 == c.args.number) c.as_slice.ensures (sym c.find_snap.ensures ∙ ap option_copied c.in-Some.is))

pub returns-in-None : goal.returns-in-None
returns-in-None c =
    looked-none (λ a b. a == b) Missing c.args.self.now.snaps c.args.number
    (found_in (λ e. e.0 == c.args.number) c.as_slice.ensures (sym c.find_snap.ensures ∙ ap option_copied c.in-None.is))
