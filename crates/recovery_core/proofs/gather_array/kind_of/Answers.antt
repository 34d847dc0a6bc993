use Rattle.std.proofs.Common.{◌+◌, ◌-◌, ◌/◌, ap, ◌∙◌, arith}
use Rattle.std.specs.Prelude.{min}
use Rattle.std.specs.Int.{div_ceil}
use Rattle.recovery_core.proofs.GatherArrayLaws.{kind_leaf, kind_inner, level_some}
use Rattle.recovery_core.proofs.gather_array.kind_of.Goals as goal

pub returns-then-span-le32 : goal.returns-then-span-le32
returns-then-span-le32 c =
    kind_leaf c.args.size c.args.low c.args.high c.min-used.result c.if-span-le32.true
    (level_some 3 c.args.low c.args.high c.requires.level).1
    (omega (arith, c.min-used.ensures, c.saturating_sub-rest.ensures))

pub returns : goal.returns
returns c =
    kind_inner c.args.size c.args.low c.args.high c.min-used-2.result (omega (arith, c.if-span-le32.false))
    (level_some 3 c.args.low c.args.high c.requires.level).1
    (c.min-used-2.ensures
    ∙ ap (λ n. min n 64)
    (c.div_ceil.ensures ∙ ap
    (λ rest. div_ceil rest ((c.args.high - c.args.low + 1) / 64)) c.saturating_sub-rest.ensures))
