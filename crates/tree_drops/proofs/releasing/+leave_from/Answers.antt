use Rattle.std.proofs.Common.{◌+◌, ◌-◌, length, get_or, arith}
use Rattle.engine_pages.specs.Passes.{view}
use Rattle.chain_steps.specs.declared.halves.Half.{Half}
use Rattle.tree_drops.proofs.Covers.{index_less}
use Rattle.tree_drops.proofs.SlotRows.{leave_first, leave_rest, left_keeper, left_more}
use Rattle.tree_drops.proofs.releasing.+leave_from.Goals as goal

abbrev none : Half
none = record { slot = 0; low = 0; high = 0 }

pub leave-requires-clause-slot : goal.leave-requires-clause-slot
leave-requires-clause-slot t c =
    (leave_first c.args.halves.now c.args.index none (view c.args.pass.now)
    (index_less c.args.index (length c.args.halves.now) c.requires.index c.if-index-halves.false) c.requires.may).1

pub leave-requires-clause-held : goal.leave-requires-clause-held
leave-requires-clause-held t c =
    (leave_first c.args.halves.now c.args.index none (view c.args.pass.now)
    (index_less c.args.index (length c.args.halves.now) c.requires.index c.if-index-halves.false) c.requires.may).0

pub leave-requires-clause-unkept : goal.leave-requires-clause-unkept
leave-requires-clause-unkept t c =
    (leave_first c.args.halves.now c.args.index none (view c.args.pass.now)
    (index_less c.args.index (length c.args.halves.now) c.requires.index c.if-index-halves.false) c.requires.may).2

pub leave_from-requires : goal.leave_from-requires
leave_from-requires t c =
    let v = view c.args.pass.now in
    let u = view c.leave.new.pass in
    let less = index_less c.args.index (length c.args.halves.now) c.requires.index c.if-index-halves.false in (
      omega (arith, less),
      (
        c.leave.ensures.of,
        (
          left_keeper (get_or c.args.halves.now c.args.index none).slot v u c.leave.ensures.leaves c.requires.keeper,
          (omega (arith, less), leave_rest c.args.halves.now c.args.index none v u less c.leave.ensures.leaves c.requires.may),
        ),
      ),
    )

pub returns-clause-leaves : goal.returns-clause-leaves
returns-clause-leaves t c =
    left_more c.args.halves.now c.args.index none (view c.args.pass.now) (view c.leave.new.pass) (view c.leave_from.new.pass)
    (index_less c.args.index (length c.args.halves.now) c.requires.index c.if-index-halves.false) c.leave.ensures.leaves
    c.leave_from.ensures.leaves
