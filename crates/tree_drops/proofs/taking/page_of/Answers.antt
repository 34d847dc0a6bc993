use Rattle.std.proofs.Common.{arith}
use Rattle.tree_drops.proofs.HeadUnits.{page_first, page_half}
use Rattle.tree_drops.proofs.taking.page_of.Goals as goal

pub returns-then-place-halves : goal.returns-then-place-halves
returns-then-place-halves c =
    record { page = page_first c.args.root c.args.halves.now c.args.headers.now c.args.index c.requires.same c.if-place-halves.true }

pub returns : goal.returns
returns c =
    let within = c.requires.within in
    let other = c.if-place-halves.false in
    record {
      page = page_half c.args.root c.args.halves.now c.args.headers.now c.args.index (record { slot = 0; low = 0; high = 0 }) 0
          c.requires.same (omega (arith, within, other));
    }
