use Rattle.std.proofs.Common.{refl, sym, subst, arith}
use Rattle.engine_pages.specs.declared.view.RefusalCause.{RefusalCause}
use Rattle.engine_pages.specs.declared.view.RefusalCause.TheVariants as refusals
use Rattle.engine_pages.specs.declared.view.SetName.TheVariants.{Writes}
use Rattle.engine_pages.specs.Passes.{view}
use Rattle.tx_sets.specs.declared.sets.Sets.{Sets}
use Rattle.page_commit.specs.Refusing.{HasRefused}
use Rattle.page_commit.proofs.WriteLaws.{writes_full, writes_room}
use Rattle.tree_writes.specs.Causes.{RefusesTreeWrite}
use Rattle.tree_writes.proofs.Falling.{falls_can, full_falls_here, made_falls, Falls}
use Rattle.tree_writes.proofs.MadeLaws.{can_make, has_made}
use Rattle.tree_writes.proofs.Stopping.{refused_end, wide_end, write_end}
use Rattle.tree_writes.proofs.making.bring.Goals as goal

-- ---- the write set was full

pub refuse_on-requires-clause-can : goal.refuse_on-requires-clause-can
refuse_on-requires-clause-can c =
    let v = view c.args.pass.now in
    falls_can c.args.sets.now c.args.sets.now.holds c.args.key (refusals.Wide Writes) v v
    (full_falls_here c.args.sets.now c.args.key v c.requires.live
    (writes_full c.is_full.result _ c.is_full.ensures.value c.if-is_full.true) c.requires.unwritten)

pub refuse_on-requires-clause-on : goal.refuse_on-requires-clause-on
refuse_on-requires-clause-on c =
    (writes_full c.is_full.result _ c.is_full.ensures.value c.if-is_full.true, c.requires.unwritten)

pub returns-then-is_full-clause-cause : goal.returns-then-is_full-clause-cause
returns-then-is_full-clause-cause c =
    let v = view c.args.pass.now in
    let f = full_falls_here c.args.sets.now c.args.key v c.requires.live
    (writes_full c.is_full.result _ c.is_full.ensures.value c.if-is_full.true) c.requires.unwritten in
    subst (λ (r : RefusalCause). RefusesTreeWrite c.args.sets.now c.args.sets.now c.args.key r v (view c.refuse_on.new.pass))
    (sym c.refuse_on.ensures.why)
    (wide_end c.args.sets.now c.args.sets.now c.args.sets.now.holds c.args.key v v (view c.refuse_on.new.pass) f.only
    f.stopped c.refuse_on.ensures.gives_up (writes_full c.is_full.result _ c.is_full.ensures.value c.if-is_full.true)
    c.requires.unwritten)

pub returns-then-is_full-clause-refused : goal.returns-then-is_full-clause-refused
returns-then-is_full-clause-refused c =
    let v = view c.args.pass.now in
    let f = full_falls_here c.args.sets.now c.args.key v c.requires.live
    (writes_full c.is_full.result _ c.is_full.ensures.value c.if-is_full.true) c.requires.unwritten in
    subst (λ (r : RefusalCause). HasRefused r v (view c.refuse_on.new.pass)) (sym c.refuse_on.ensures.why)
    (refused_end (refusals.Wide Writes) c.args.sets.now c.args.sets.now.holds c.args.key v v (view c.refuse_on.new.pass) f.only
    f.stopped c.refuse_on.ensures.gives_up f.live f.holds f.agree f.trees)

-- ---- the pages were brought into memory

pub make_volatile-requires-clause-can : goal.make_volatile-requires-clause-can
make_volatile-requires-clause-can c = can_make c.args.sets.now (view c.args.pass.now) c.requires.live

pub returns-in-Ok-clause-room : goal.returns-in-Ok-clause-room
returns-in-Ok-clause-room c =
    writes_room c.is_full.result _ c.is_full.ensures.value c.is_full.ensures.bound c.if-is_full.false

pub returns-in-Ok-clause-makes : goal.returns-in-Ok-clause-makes
returns-in-Ok-clause-makes c = record {
  makes = has_made c.args.sets.now (record c.args.sets.now { holds = c.make_volatile.new.holds }) (view c.args.pass.now)
      (view c.make_volatile.new.pass) c.args.key c.requires.live c.make_volatile.ensures.makes.went.walked
      c.make_volatile.ensures.makes.went.can
      c.make_volatile.ensures.makes.went.kept c.make_volatile.ensures.makes.went.words
      c.make_volatile.ensures.makes.went.met c.make_volatile.ensures.makes.paths
      c.in-Ok.ensures.makes.led c.in-Ok.ensures.makes.keeps refl refl refl refl;
  at = c.in-Ok.ensures.makes.came;
}

-- ---- they weren't

pub refuse_on-requires-in-Err-clause-can : goal.refuse_on-requires-in-Err-clause-can
refuse_on-requires-in-Err-clause-can c =
    let v = view c.args.pass.now in
    let w = view c.make_volatile.new.pass in
    falls_can c.args.sets.now c.make_volatile.new.holds c.args.key c.in-Err.why v w
    (made_falls c.in-Err.why c.args.sets.now c.make_volatile.new.holds c.args.key v w c.requires.live
    c.make_volatile.ensures.makes.went.walked c.make_volatile.ensures.makes.went.can c.in-Err.ensures.makes.cause)

pub refuse_on-requires-in-Err-clause-due : goal.refuse_on-requires-in-Err-clause-due
refuse_on-requires-in-Err-clause-due c =
    let v = view c.args.pass.now in
    let w = view c.make_volatile.new.pass in
    let f : Falls c.args.sets.now c.make_volatile.new.holds c.args.key c.in-Err.why v w =
    made_falls c.in-Err.why c.args.sets.now c.make_volatile.new.holds c.args.key v w c.requires.live
    c.make_volatile.ensures.makes.went.walked c.make_volatile.ensures.makes.went.can c.in-Err.ensures.makes.cause in
    f.stopped.due

pub refuse_on-requires-in-Err-clause-on : goal.refuse_on-requires-in-Err-clause-on
refuse_on-requires-in-Err-clause-on c =
    let v = view c.args.pass.now in
    let w = view c.make_volatile.new.pass in
    let f : Falls c.args.sets.now c.make_volatile.new.holds c.args.key c.in-Err.why v w =
    made_falls c.in-Err.why c.args.sets.now c.make_volatile.new.holds c.args.key v w c.requires.live
    c.make_volatile.ensures.makes.went.walked c.make_volatile.ensures.makes.went.can c.in-Err.ensures.makes.cause in
    f.stopped.on

pub returns-in-Err-clause-cause : goal.returns-in-Err-clause-cause
returns-in-Err-clause-cause c =
    let v = view c.args.pass.now in
    let w = view c.make_volatile.new.pass in
    let new : Sets = record c.args.sets.now { holds = c.make_volatile.new.holds } in
    let f : Falls c.args.sets.now c.make_volatile.new.holds c.args.key c.in-Err.why v w =
    made_falls c.in-Err.why c.args.sets.now c.make_volatile.new.holds c.args.key v w c.requires.live
    c.make_volatile.ensures.makes.went.walked c.make_volatile.ensures.makes.went.can c.in-Err.ensures.makes.cause in
    subst (λ (r : RefusalCause). RefusesTreeWrite c.args.sets.now new c.args.key r v (view c.refuse_on-in-Err.new.pass))
    (sym c.refuse_on-in-Err.ensures.why)
    (write_end c.in-Err.why c.args.sets.now new c.make_volatile.new.holds c.args.key v w (view c.refuse_on-in-Err.new.pass)
    f.only f.stopped c.refuse_on-in-Err.ensures.gives_up refl c.requires.unwritten
    (writes_room c.is_full.result _ c.is_full.ensures.value c.is_full.ensures.bound c.if-is_full.false) f.locks)

pub returns-in-Err-clause-refused : goal.returns-in-Err-clause-refused
returns-in-Err-clause-refused c =
    let v = view c.args.pass.now in
    let w = view c.make_volatile.new.pass in
    let f : Falls c.args.sets.now c.make_volatile.new.holds c.args.key c.in-Err.why v w =
    made_falls c.in-Err.why c.args.sets.now c.make_volatile.new.holds c.args.key v w c.requires.live
    c.make_volatile.ensures.makes.went.walked c.make_volatile.ensures.makes.went.can c.in-Err.ensures.makes.cause in
    subst (λ (r : RefusalCause). HasRefused r v (view c.refuse_on-in-Err.new.pass)) (sym c.refuse_on-in-Err.ensures.why)
    (refused_end c.in-Err.why c.args.sets.now c.make_volatile.new.holds c.args.key v w (view c.refuse_on-in-Err.new.pass)
    f.only f.stopped c.refuse_on-in-Err.ensures.gives_up f.live f.holds f.agree f.trees)

-- ---- steps

pub returns-then-is_full-clause-most : goal.returns-then-is_full-clause-most
returns-then-is_full-clause-most c = let one = c.refuse_on.ensures.most in omega (arith, one)

pub returns-in-Ok-clause-most : goal.returns-in-Ok-clause-most
returns-in-Ok-clause-most c = let one = c.make_volatile.ensures.makes.went.most in omega (arith, one)

pub returns-in-Err-clause-most : goal.returns-in-Err-clause-most
returns-in-Err-clause-most c =
    let one = c.make_volatile.ensures.makes.went.most in let two = c.refuse_on-in-Err.ensures.most in
    omega (arith, one, two)
