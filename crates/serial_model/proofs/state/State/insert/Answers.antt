use Rattle.std.proofs.Common.{◌∙◌, sym, ap}
use Rattle.std.proofs.lemmas.Result.{err_from_is_err_and}
use Rattle.std.specs.FinMap as finite
use Rattle.serial_model.proofs.FromEntries.{get_key, one_given}
use Rattle.serial_model.proofs.state.State.insert.Goals as goal

pub returns-clause-before : goal.returns-clause-before
returns-clause-before c =
    let same = sym (get_key c.self.inside.map.entries c.args.key) ∙ ap (λ m. finite.get m c.args.key) c.self.view_is in
    c.in_ok-insert.ensures.old ∙ same

pub returns-clause-ok : goal.returns-clause-ok
returns-clause-ok c =
    one_given c.self.inside.map.entries c.insert.new.self.entries c.args.key c.args.value c.in_ok-insert.ensures.updates.0
    ∙ ap (λ m. finite.insert m c.args.key c.args.value) c.self.view_is

pub returns-in_err-insert-clause-absent : goal.returns-in_err-insert-clause-absent
returns-in_err-insert-clause-absent c =
    let same = sym (get_key c.self.inside.map.entries c.args.key) ∙ ap (λ m. finite.get m c.args.key) c.self.view_is in
    let p = err_from_is_err_and c.from_residual.result c.from_residual.ensures.1 in
    rw p.1 (sym same ∙ c.in_err-insert.ensures.absent)
