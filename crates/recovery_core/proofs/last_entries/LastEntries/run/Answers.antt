use Rattle.std.proofs.Common.{List, sym, ◌∙◌, subst}
use Rattle.wire_form.specs.declared.bucket.Entry.{Entry}
use Rattle.recovery_core.specs.EntriesRun.{IsRunOf}
use Rattle.recovery_core.proofs.EntriesInOrder.{values_run}
use Rattle.recovery_core.proofs.last_entries.LastEntries.run.Goals as goal

pub returns : goal.returns
returns c own =
    subst (λ (run : List Entry). IsRunOf c.args.self.now run)
    (sym c.in_ok-entries_of.ensures.entries ∙ sym c.from_vec.ensures)
    (values_run c.self.inside.map c.args.self.now c.self.view_is c.in_ok-entries_of.ensures.ordered own)
