use Rattle.std.proofs.Common.{◌∷◌, refl, ap}
use Rattle.std.proofs.lemmas.Result.{err_from_is_err_and}
use Rattle.wire_form.specs.Pages.{Contents}
use Rattle.snapshot_store.specs.Content.{words_of}
use Rattle.recovery_core.proofs.Exits.{handed_on}
use Rattle.recovery_core.proofs.Recovering.{snapshot_is, no_snapshot}
use Rattle.recovery_core.proofs.newest.read_snapshot.Goals as goal

pub returns-in_err-decls-clause-breaks : goal.returns-in_err-decls-clause-breaks
returns-in_err-decls-clause-breaks c at same =
    let p = err_from_is_err_and c.from_residual-in_err-decls.result c.from_residual-in_err-decls.ensures.1 in
    let chain = c.in_ok-chain.ensures.chain in
    let newest = c.in_ok-chain.chain.newest in
    no_snapshot c.args.epoch c.args.number newest.epoch newest chain.0 newest.storages (words_of c.args.store.pages) at
    refl refl chain.1 (c.in_err-decls.ensures.breaks at (handed_on _ _ _ p.0 p.1 p.2 same))

pub returns-clause-snapshot : goal.returns-clause-snapshot
returns-clause-snapshot c =
    let chain = c.in_ok-chain.ensures.chain in
    let newest = c.in_ok-chain.chain.newest in (
      newest ∷ chain.0,
      snapshot_is c.args.epoch c.args.number newest.epoch newest chain.0 newest.storages _ refl refl
          (ap (λ (x : Contents). x.epoch) c.newest.view_is) chain.1 chain.2 c.in_ok-decls.ensures.stands
          c.in_ok-decls.ensures.decls c.in_ok-decls.ensures.state,
    )
