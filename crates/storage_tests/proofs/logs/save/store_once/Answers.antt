-- A vault without log files has nothing that could count.
use Rattle.std.proofs.Common.{◌∙◌, ap}
use Rattle.log_writer.specs.Cuts.{no_bank}
use Rattle.storage_tests.proofs.logs.save.store_once.Goals as goal

pub store_in-requires-clause-counted : goal.store_in-requires-clause-counted
store_in-requires-clause-counted g c always n bank there =
    absurd (no_bank c.args.vault.now c.requires.even c.requires.odd n bank there)

pub store_in-requires-in-Err-Device-clause-counted : goal.store_in-requires-in-Err-Device-clause-counted
store_in-requires-in-Err-Device-clause-counted g c always n bank there =
    let left = c.store_in.ensures.others in
    absurd (no_bank c.store_in.new.vault (ap (λ v. v.items) left.1 ∙ c.requires.even)
    (ap (λ v. v.items) left.2 ∙ c.requires.odd) n bank there)
