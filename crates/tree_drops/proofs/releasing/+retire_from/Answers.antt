use Rattle.std.proofs.Common.{◌+◌, ◌-◌, length, get_or, arith}
use Rattle.engine_pages.specs.Passes.{view}
use Rattle.chain_steps.specs.declared.halves.Half.{Half}
use Rattle.tree_drops.proofs.Covers.{index_less}
use Rattle.tree_drops.proofs.SlotRows.{retire_first, retire_rest, retired_keeper, retired_more}
use Rattle.tree_drops.proofs.releasing.+retire_from.Goals as goal

abbrev none : Half
none = record { slot = 0; low = 0; high = 0 }

pub retire-requires-clause-slot : goal.retire-requires-clause-slot
retire-requires-clause-slot t c =
    (retire_first c.args.halves.now c.args.index none (view c.args.pass.now)
    (index_less c.args.index (length c.args.halves.now) c.requires.index c.if-index-halves.false) c.requires.may).1

pub retire-requires-clause-may : goal.retire-requires-clause-may
retire-requires-clause-may t c =
    (retire_first c.args.halves.now c.args.index none (view c.args.pass.now)
    (index_less c.args.index (length c.args.halves.now) c.requires.index c.if-index-halves.false) c.requires.may).0

pub retire_from-requires : goal.retire_from-requires
retire_from-requires t c =
    let v = view c.args.pass.now in
    let u = view c.retire.new.pass in
    let less = index_less c.args.index (length c.args.halves.now) c.requires.index c.if-index-halves.false in (
      omega (arith, less),
      (
        c.retire.ensures.of,
        (
          retired_keeper (get_or c.args.halves.now c.args.index none).slot v u c.retire.ensures.retires c.requires.keeper,
          (omega (arith, less), retire_rest c.args.halves.now c.args.index none v u less c.retire.ensures.retires c.requires.may),
        ),
      ),
    )

pub returns-clause-retires : goal.returns-clause-retires
returns-clause-retires t c =
    retired_more c.args.halves.now c.args.index none (view c.args.pass.now) (view c.retire.new.pass) (view c.retire_from.new.pass)
    (index_less c.args.index (length c.args.halves.now) c.requires.index c.if-index-halves.false) c.retire.ensures.retires
    c.retire_from.ensures.retires
