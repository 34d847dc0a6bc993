use Rattle.std.proofs.Common.{◌<◌, length, sym, subst, take, take_all, arith}
use Rattle.std.specs.List.{AllByRecursion}
use Rattle.std.proofs.lemmas.List.{take_more}
use Rattle.lists.specs.Each.{all_push}
use Rattle.checkpoints.specs.Written.{FitsDevice}
use Rattle.checkpoints.proofs.settlement.new_pages_fit.Goals as goal

pub loop-i-preserved : goal.loop-i-preserved
loop-i-preserved c =
    let i = c.loop-i.i in
    let here : i < length c.args.pages.now = omega arith in
    subst (AllByRecursion FitsDevice) (sym (take_more c.args.pages.now i _ here))
    (all_push FitsDevice (take i c.args.pages.now) _ c.loop-i.invariant c.page_fits.ensures)

pub returns : goal.returns
returns c = subst (AllByRecursion FitsDevice) (take_all c.loop-i.i c.args.pages.now (omega arith)) c.loop-i.invariant
