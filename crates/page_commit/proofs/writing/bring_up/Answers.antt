use Rattle.std.proofs.Common.{refl, sym, subst, arith}
use Rattle.engine_pages.specs.declared.view.RefusalCause.{RefusalCause}
use Rattle.engine_pages.specs.declared.view.RefusalCause.TheVariants as refusals
use Rattle.engine_pages.specs.declared.view.SetName.TheVariants.{Writes}
use Rattle.engine_pages.specs.Passes.{view}
use Rattle.tx_sets.specs.declared.sets.Sets.{Sets}
use Rattle.array_pages.proofs.WalkLaws.{walked_self}
use Rattle.page_commit.specs.Calls.{RefusesWrite}
use Rattle.page_commit.specs.Refusing.{HasRefused}
use Rattle.page_commit.proofs.BroughtLaws.{brought}
use Rattle.page_commit.proofs.DueLaws.{make_cause, make_due, make_told, writes_cause, Walked}
use Rattle.page_commit.proofs.RefuseLaws.{can_refuse, walked_refused}
use Rattle.page_commit.proofs.WideLaws.{make_wide_due}
use Rattle.page_commit.proofs.WalkedLaws.{can_make, only_walked, walked_holds}
use Rattle.page_commit.proofs.WriteLaws.{writes_full, writes_room}
use Rattle.page_commit.proofs.writing.bring_up.Goals as goal

-- ---- the write set was full

pub refuse-requires-clause-can : goal.refuse-requires-clause-can
refuse-requires-clause-can c =
    let v = view c.args.pass.now in
    can_refuse c.args.sets.now c.args.sets.now.holds v v c.requires.live (only_walked v v (walked_self v))
    c.requires.live.holds

pub refuse-requires-clause-wide : goal.refuse-requires-clause-wide
refuse-requires-clause-wide c = writes_full c.is_full.result _ c.is_full.ensures.value c.if-is_full.true

pub returns-then-is_full-clause-cause : goal.returns-then-is_full-clause-cause
returns-then-is_full-clause-cause c =
    let v = view c.args.pass.now in
    let h : Walked c.args.sets.now v v = record {
      live = c.requires.live;
      walk = walked_self v;
      agree = c.requires.live.agree;
      decls = c.requires.live.decls;
    } in
    subst (λ (r : RefusalCause). RefusesWrite c.args.sets.now c.args.sets.now c.args.key r v (view c.refuse.new.pass))
    (sym c.refuse.ensures.why)
    (writes_cause c.args.sets.now c.args.sets.now c.args.key v (view c.refuse.new.pass) h c.requires.unwritten
    (writes_full c.is_full.result _ c.is_full.ensures.value c.if-is_full.true) c.refuse.ensures.gives_up)

pub returns-then-is_full-clause-refused : goal.returns-then-is_full-clause-refused
returns-then-is_full-clause-refused c =
    let v = view c.args.pass.now in
    subst (λ (r : RefusalCause). HasRefused r v (view c.refuse.new.pass)) (sym c.refuse.ensures.why)
    (walked_refused (refusals.Wide Writes) c.args.sets.now c.args.sets.now.holds v v (view c.refuse.new.pass) c.requires.live
    (only_walked v v (walked_self v)) c.requires.live.holds c.requires.live.agree c.requires.live.trees (λ met told. told) c.refuse.ensures.gives_up)

-- ---- a page was made

pub make_volatile-requires-clause-can : goal.make_volatile-requires-clause-can
make_volatile-requires-clause-can c = can_make c.args.sets.now (view c.args.pass.now) c.requires.live

pub returns-in-Ok-clause-room : goal.returns-in-Ok-clause-room
returns-in-Ok-clause-room c =
    writes_room c.is_full.result _ c.is_full.ensures.value c.is_full.ensures.bound c.if-is_full.false

pub returns-in-Ok-clause-brings : goal.returns-in-Ok-clause-brings
returns-in-Ok-clause-brings c =
    brought c.args.sets.now _ (view c.args.pass.now) (view c.make_volatile.new.pass) c.args.key c.in-Ok.at
    c.requires.live c.make_volatile.ensures.makes.walked c.make_volatile.ensures.makes.can
    c.make_volatile.ensures.makes.kept
    c.make_volatile.ensures.makes.words c.make_volatile.ensures.makes.only c.in-Ok.ensures.makes.led
    c.in-Ok.ensures.makes.made refl refl refl refl

-- ---- it was not

pub refuse-requires-in-Err-clause-can : goal.refuse-requires-in-Err-clause-can
refuse-requires-in-Err-clause-can c =
    let v = view c.args.pass.now in
    let w = view c.make_volatile.new.pass in
    can_refuse c.args.sets.now c.make_volatile.new.holds v w c.requires.live
    (only_walked v w c.make_volatile.ensures.makes.walked)
    (walked_holds c.args.sets.now.holds c.make_volatile.new.holds v w c.requires.live.holds
    c.make_volatile.ensures.makes.walked
    c.make_volatile.ensures.makes.can.walks)

pub refuse-requires-in-Err-clause-due : goal.refuse-requires-in-Err-clause-due
refuse-requires-in-Err-clause-due c =
    let v = view c.args.pass.now in
    let w = view c.make_volatile.new.pass in
    let h : Walked c.args.sets.now v w = record {
      live = c.requires.live;
      walk = c.make_volatile.ensures.makes.walked;
      agree = c.make_volatile.ensures.makes.can.walks.agree;
      decls = c.make_volatile.ensures.makes.can.walks.declared;
    } in
    make_due c.in-Err.why c.args.sets.now c.make_volatile.new.holds c.args.key v w h c.in-Err.ensures.makes.cause

pub refuse-requires-in-Err-clause-wide : goal.refuse-requires-in-Err-clause-wide
refuse-requires-in-Err-clause-wide c =
    make_wide_due c.in-Err.why (record c.args.sets.now { holds = c.make_volatile.new.holds }) c.args.key
    (view c.args.pass.now) (view c.make_volatile.new.pass) c.in-Err.ensures.makes.cause

pub returns-in-Err-clause-cause : goal.returns-in-Err-clause-cause
returns-in-Err-clause-cause c =
    let v = view c.args.pass.now in
    let w = view c.make_volatile.new.pass in
    let h : Walked c.args.sets.now v w = record {
      live = c.requires.live;
      walk = c.make_volatile.ensures.makes.walked;
      agree = c.make_volatile.ensures.makes.can.walks.agree;
      decls = c.make_volatile.ensures.makes.can.walks.declared;
    } in
    let new : Sets = record c.args.sets.now { holds = c.make_volatile.new.holds } in
    subst (λ (r : RefusalCause). RefusesWrite c.args.sets.now new c.args.key r v (view c.refuse-in-Err.new.pass))
    (sym c.refuse-in-Err.ensures.why)
    (make_cause c.in-Err.why c.args.sets.now new c.args.key v w (view c.refuse-in-Err.new.pass) h
    (writes_room c.is_full.result _ c.is_full.ensures.value c.is_full.ensures.bound c.if-is_full.false) c.requires.unwritten
    c.in-Err.ensures.makes.cause c.refuse-in-Err.ensures.gives_up)

pub returns-in-Err-clause-refused : goal.returns-in-Err-clause-refused
returns-in-Err-clause-refused c =
    let v = view c.args.pass.now in
    let w = view c.make_volatile.new.pass in
    let h : Walked c.args.sets.now v w = record {
      live = c.requires.live;
      walk = c.make_volatile.ensures.makes.walked;
      agree = c.make_volatile.ensures.makes.can.walks.agree;
      decls = c.make_volatile.ensures.makes.can.walks.declared;
    } in
    subst (λ (r : RefusalCause). HasRefused r v (view c.refuse-in-Err.new.pass)) (sym c.refuse-in-Err.ensures.why)
    (walked_refused c.in-Err.why c.args.sets.now c.make_volatile.new.holds v w (view c.refuse-in-Err.new.pass) c.requires.live
    (only_walked v w c.make_volatile.ensures.makes.walked)
    (walked_holds c.args.sets.now.holds c.make_volatile.new.holds v w c.requires.live.holds
    c.make_volatile.ensures.makes.walked
    c.make_volatile.ensures.makes.can.walks)
    c.make_volatile.ensures.makes.can.walks.agree c.make_volatile.ensures.makes.can.walks.trees
    (λ met told.
    make_told c.in-Err.why c.args.sets.now c.make_volatile.new.holds c.args.key v w met h c.in-Err.ensures.makes.cause
    told)
    c.refuse-in-Err.ensures.gives_up)

-- ---- steps

pub returns-then-is_full-clause-most : goal.returns-then-is_full-clause-most
returns-then-is_full-clause-most c = let one = c.refuse.ensures.most in omega (arith, one)

pub returns-in-Ok-clause-most : goal.returns-in-Ok-clause-most
returns-in-Ok-clause-most c = let one = c.make_volatile.ensures.makes.most in omega (arith, one)

pub returns-in-Err-clause-most : goal.returns-in-Err-clause-most
returns-in-Err-clause-most c =
    let one = c.make_volatile.ensures.makes.most in let two = c.refuse-in-Err.ensures.most in omega (arith, one, two)
