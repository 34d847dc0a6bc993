use Rattle.std.proofs.Common.{refl, arith}
use Rattle.engine_pages.specs.Passes.{view}
use Rattle.tree_writes.proofs.Falling.{added_falls, falls_can, falls_so, Falls}
use Rattle.tree_writes.proofs.GrowCans.{can_add_key}
use Rattle.tree_writes.proofs.GrownSo.{added_grows, added_steps}
use Rattle.tree_writes.proofs.growing.add_to.Goals as goal

pub add_key-requires-clause-can : goal.add_key-requires-clause-can
add_key-requires-clause-can c =
    can_add_key c.args.sets.now c.args.key c.args.leaf (view c.args.pass.now) c.requires.live c.requires.lacking.0
    c.requires.lacking.1 c.requires.unlocked c.requires.few

pub returns-in-Ok-clause-grows : goal.returns-in-Ok-clause-grows
returns-in-Ok-clause-grows c =
    added_grows c.args.sets.now c.keep_added.new.sets c.args.key c.args.leaf c.in-Ok.at c.args.head (view c.args.pass.now)
    (view c.add_key.new.pass) c.requires.live c.requires.lacking.0 c.requires.lacking.1 c.in-Ok.ensures.added
    c.requires.head c.requires.kept c.keep_added.ensures

pub refuse_on-requires-clause-can : goal.refuse_on-requires-clause-can
refuse_on-requires-clause-can c =
    let v = view c.args.pass.now in
    let w = view c.add_key.new.pass in
    falls_can c.args.sets.now c.args.sets.now.holds c.args.key c.in-Err.why v w
    (added_falls c.in-Err.why c.args.sets.now c.args.key c.args.leaf v w c.requires.live c.requires.lacking.0
    c.in-Err.ensures.cause)

pub refuse_on-requires-clause-due : goal.refuse_on-requires-clause-due
refuse_on-requires-clause-due c =
    let v = view c.args.pass.now in
    let w = view c.add_key.new.pass in
    let f : Falls c.args.sets.now c.args.sets.now.holds c.args.key c.in-Err.why v w =
    added_falls c.in-Err.why c.args.sets.now c.args.key c.args.leaf v w c.requires.live c.requires.lacking.0
    c.in-Err.ensures.cause in
    f.stopped.due

pub refuse_on-requires-clause-on : goal.refuse_on-requires-clause-on
refuse_on-requires-clause-on c =
    let v = view c.args.pass.now in
    let w = view c.add_key.new.pass in
    let f : Falls c.args.sets.now c.args.sets.now.holds c.args.key c.in-Err.why v w =
    added_falls c.in-Err.why c.args.sets.now c.args.key c.args.leaf v w c.requires.live c.requires.lacking.0
    c.in-Err.ensures.cause in
    f.stopped.on

pub returns-in-Err-clause-grows : goal.returns-in-Err-clause-grows
returns-in-Err-clause-grows c =
    let v = view c.args.pass.now in
    let w = view c.add_key.new.pass in
    let one = added_steps c.in-Err.why c.args.leaf.slot c.args.leaf.header v w c.in-Err.ensures.cause in
    let two = c.refuse_on.ensures.most in
    falls_so c.args.sets.now c.args.sets.now c.args.sets.now.holds c.args.key c.in-Err.why c.refuse_on.result v w
    (view c.refuse_on.new.pass) c.refuse_on.ensures.why
    (added_falls c.in-Err.why c.args.sets.now c.args.key c.args.leaf v w c.requires.live c.requires.lacking.0
    c.in-Err.ensures.cause)
    c.refuse_on.ensures.gives_up refl c.requires.unwritten c.requires.room (omega (arith, one, two))
