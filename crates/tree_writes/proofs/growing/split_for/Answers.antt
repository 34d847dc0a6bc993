use Rattle.std.proofs.Common.{List, ℕ, refl, sym, subst, arith}
use Rattle.engine_pages.specs.Passes.{view}
use Rattle.page_commit.specs.Needs.{IsRefusedOn}
use Rattle.page_commit.specs.Steps.{CanRefuse}
use Rattle.tree_writes.proofs.Falling.{falls_can, falls_so, split_falls, Falls}
use Rattle.tree_writes.proofs.GrowCans.{can_split_leaf, full_keys}
use Rattle.tree_writes.proofs.growing.split_for.Goals as goal

pub split-requires-clause-can : goal.split-requires-clause-can
split-requires-clause-can c =
    can_split_leaf c.args.sets.now c.args.key c.args.leaf (view c.args.pass.now) c.requires.live c.requires.lacking.0
    c.requires.lacking.1 c.requires.unlocked c.requires.full

pub end_split-requires-clause-split : goal.end_split-requires-clause-split
end_split-requires-clause-split c = (
  c.args.sets.now,
  view c.args.pass.now,
  record {
    live = c.requires.live;
    on = c.requires.lacking.0;
    full = full_keys c.args.sets.now c.args.key c.args.leaf (view c.args.pass.now) c.requires.lacking.0 c.requires.full;
    lacks = c.requires.lacking.1;
    split = c.in-Ok.ensures.split;
    now = c.split.ensures.holds;
    others = record { reads = refl; pointers = refl; headers = refl; writes = refl };
  },
  c.requires.unwritten,
  c.requires.room,
  c.requires.head,
)

pub returns-in-Ok-clause-grows : goal.returns-in-Ok-clause-grows
returns-in-Ok-clause-grows c =
    c.end_split.ensures.grows c.args.sets.now (view c.args.pass.now) record {
      live = c.requires.live;
      on = c.requires.lacking.0;
      full = full_keys c.args.sets.now c.args.key c.args.leaf (view c.args.pass.now) c.requires.lacking.0 c.requires.full;
      lacks = c.requires.lacking.1;
      split = c.in-Ok.ensures.split;
      now = c.split.ensures.holds;
      others = record { reads = refl; pointers = refl; headers = refl; writes = refl };
    } c.requires.unwritten c.requires.room c.requires.head

pub refuse_on-requires-clause-can : goal.refuse_on-requires-clause-can
refuse_on-requires-clause-can c =
    let v = view c.args.pass.now in
    let w = view c.split.new.pass in
    subst (λ (l : List ℕ). CanRefuse l w) (sym c.in-Err.ensures.kept)
    (falls_can c.args.sets.now c.args.sets.now.holds c.args.key c.in-Err.why v w
    (split_falls c.in-Err.why c.args.sets.now c.args.key c.args.leaf v w c.requires.live c.requires.lacking.0
    (full_keys c.args.sets.now c.args.key c.args.leaf v c.requires.lacking.0 c.requires.full) c.requires.lacking.1 c.in-Err.ensures.missed))

pub refuse_on-requires-clause-due : goal.refuse_on-requires-clause-due
refuse_on-requires-clause-due c =
    let v = view c.args.pass.now in
    let w = view c.split.new.pass in
    let f : Falls c.args.sets.now c.args.sets.now.holds c.args.key c.in-Err.why v w =
    split_falls c.in-Err.why c.args.sets.now c.args.key c.args.leaf v w c.requires.live c.requires.lacking.0
    (full_keys c.args.sets.now c.args.key c.args.leaf v c.requires.lacking.0 c.requires.full) c.requires.lacking.1 c.in-Err.ensures.missed in
    f.stopped.due

pub refuse_on-requires-clause-on : goal.refuse_on-requires-clause-on
refuse_on-requires-clause-on c =
    let v = view c.args.pass.now in
    let w = view c.split.new.pass in
    let f : Falls c.args.sets.now c.args.sets.now.holds c.args.key c.in-Err.why v w =
    split_falls c.in-Err.why c.args.sets.now c.args.key c.args.leaf v w c.requires.live c.requires.lacking.0
    (full_keys c.args.sets.now c.args.key c.args.leaf v c.requires.lacking.0 c.requires.full) c.requires.lacking.1 c.in-Err.ensures.missed in
    subst (λ (l : List ℕ). IsRefusedOn c.in-Err.why c.args.key (record c.args.sets.now { holds = l }) w)
    (sym c.in-Err.ensures.kept) f.stopped.on

pub returns-in-Err-clause-grows : goal.returns-in-Err-clause-grows
returns-in-Err-clause-grows c =
    let v = view c.args.pass.now in
    let w = view c.split.new.pass in
    let one = c.in-Err.ensures.missed.most in
    let two = c.refuse_on.ensures.most in
    falls_so c.args.sets.now (record c.args.sets.now { holds = c.split.new.holds }) c.args.sets.now.holds c.args.key
    c.in-Err.why c.refuse_on.result v w (view c.refuse_on.new.pass) c.refuse_on.ensures.why
    (split_falls c.in-Err.why c.args.sets.now c.args.key c.args.leaf v w c.requires.live c.requires.lacking.0
    (full_keys c.args.sets.now c.args.key c.args.leaf v c.requires.lacking.0 c.requires.full) c.requires.lacking.1 c.in-Err.ensures.missed)
    c.refuse_on.ensures.gives_up c.in-Err.ensures.kept c.requires.unwritten c.requires.room (omega (arith, one, two))
