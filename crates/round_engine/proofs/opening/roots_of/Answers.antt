-- One more root is told.
use Rattle.std.proofs.Common.{◌++◌, ◌∷◌, [], map, sym, ap, ◌∙◌, take_all, arith}
use Rattle.std.proofs.lemmas.List.{length-map}
use Rattle.round_engine.proofs.Taking.{take_get}
use Rattle.round_engine.specs.FirstRecords.{root_in}
use Rattle.round_engine.proofs.opening.roots_of.Goals as goal

pub loop-i-preserved : goal.loop-i-preserved
loop-i-preserved c =
    c.in_ok-push.ensures.ok ∙ ap (λ l. l ++ c.root_at.result ∷ []) c.loop-i.invariant
    ∙ sym (take_get (map root_in c.args.storages.now) c.loop-i.i c.root_at.result c.root_at.ensures)

pub returns : goal.returns
returns c =
    c.loop-i.invariant
    ∙ take_all c.loop-i.i (map root_in c.args.storages.now)
    (omega (arith, length-map c.args.storages.now root_in, c.loop-i-test.false))
