use Rattle.std.proofs.Common.{refl, sym, subst, arith}
use Rattle.engine_pages.specs.declared.view.RefusalCause.{RefusalCause}
use Rattle.engine_pages.specs.declared.view.RefusalCause.TheVariants as refusals
use Rattle.engine_pages.specs.declared.view.SetName.TheVariants.{Reads}
use Rattle.engine_pages.specs.Passes.{view}
use Rattle.page_commit.specs.Calls.{RefusesRead}
use Rattle.page_commit.specs.Refusing.{HasRefused}
use Rattle.page_commit.proofs.DueLaws.{find_cause, find_due, find_told, Walked}
use Rattle.page_commit.proofs.FoundLaws.{meets_found, room_found, value_found, wide_cause}
use Rattle.page_commit.proofs.RefuseLaws.{can_refuse, walked_refused}
use Rattle.page_commit.proofs.WideLaws.{entry_wide_due, find_wide_due}
use Rattle.page_commit.proofs.WalkedLaws.{can_walk, only_walked, walked_holds}
use Rattle.page_commit.proofs.reading.read_anew.Goals as goal

-- the transaction and its view behind `find`, in both branches
pub find-requires-clause-can : goal.find-requires-clause-can
find-requires-clause-can c = can_walk c.args.sets.now (view c.args.pass.now) c.requires.live

-- ---- the key was found

pub keep-requires-clause-room : goal.keep-requires-clause-room
keep-requires-clause-room c =
    room_found c.in-Ok.found c.is_wide.result c.args.sets.now c.is_wide.ensures
    c.if-is_wide.false

pub keep-requires-clause-met : goal.keep-requires-clause-met
keep-requires-clause-met c =
    meets_found c.in-Ok.found c.args.sets.now.pointers c.args.key (view c.args.pass.now) (view c.find.new.pass)
    c.in-Ok.ensures.finds.found

pub returns-else-is_wide-clause-value : goal.returns-else-is_wide-clause-value
returns-else-is_wide-clause-value c =
    value_found c.in-Ok.found c.keep.result c.args.sets.now (record c.args.sets.now { holds = c.find.new.holds })
    c.keep.new.sets (view c.args.pass.now)
    (view c.find.new.pass) c.args.key refl refl refl refl c.requires.live c.find.ensures.finds.walked
    c.find.ensures.finds.can c.requires.fits
    c.find.ensures.finds.only c.in-Ok.ensures.finds.led c.in-Ok.ensures.finds.keeps c.in-Ok.ensures.finds.found
    c.requires.unread
    (room_found c.in-Ok.found c.is_wide.result c.args.sets.now c.is_wide.ensures c.if-is_wide.false)
    c.keep.ensures.keeps

-- ---- there was no room for its entry

pub refuse-requires-clause-can : goal.refuse-requires-clause-can
refuse-requires-clause-can c =
    let v = view c.args.pass.now in
    let w = view c.find.new.pass in
    can_refuse c.args.sets.now c.find.new.holds v w c.requires.live (only_walked v w c.find.ensures.finds.walked)
    (walked_holds c.args.sets.now.holds c.find.new.holds v w c.requires.live.holds c.find.ensures.finds.walked
    c.find.ensures.finds.can)

pub refuse-requires-clause-wide : goal.refuse-requires-clause-wide
refuse-requires-clause-wide c =
    entry_wide_due c.in-Ok.found c.is_wide.result (record c.args.sets.now { holds = c.find.new.holds })
    (view c.find.new.pass) c.is_wide.ensures c.if-is_wide.true

pub returns-then-is_wide-clause-cause : goal.returns-then-is_wide-clause-cause
returns-then-is_wide-clause-cause c =
    let v = view c.args.pass.now in
    let w = view c.find.new.pass in
    let h : Walked c.args.sets.now v w = record {
      live = c.requires.live;
      walk = c.find.ensures.finds.walked;
      agree = c.find.ensures.finds.can.agree;
      decls = c.find.ensures.finds.can.declared;
    } in
    subst
    (λ (r : RefusalCause). RefusesRead c.args.sets.now (record c.args.sets.now { holds = c.find.new.holds }) c.args.key r v
    (view c.refuse.new.pass)) (sym c.refuse.ensures.why)
    (wide_cause c.in-Ok.found c.is_wide.result c.args.sets.now
    (record c.args.sets.now { holds = c.find.new.holds }) c.args.key v w (view c.refuse.new.pass) h c.requires.unread
    c.requires.unwritten c.in-Ok.ensures.finds.found c.is_wide.ensures c.if-is_wide.true c.refuse.ensures.gives_up)

pub returns-then-is_wide-clause-refused : goal.returns-then-is_wide-clause-refused
returns-then-is_wide-clause-refused c =
    let v = view c.args.pass.now in
    let w = view c.find.new.pass in
    subst (λ (r : RefusalCause). HasRefused r v (view c.refuse.new.pass)) (sym c.refuse.ensures.why)
    (walked_refused (refusals.Wide Reads) c.args.sets.now c.find.new.holds v w (view c.refuse.new.pass) c.requires.live
    (only_walked v w c.find.ensures.finds.walked)
    (walked_holds c.args.sets.now.holds c.find.new.holds v w c.requires.live.holds c.find.ensures.finds.walked
    c.find.ensures.finds.can)
    c.find.ensures.finds.can.agree c.find.ensures.finds.can.trees (λ met told. told) c.refuse.ensures.gives_up)

-- ---- the walk was refused

pub refuse-requires-in-Err-clause-can : goal.refuse-requires-in-Err-clause-can
refuse-requires-in-Err-clause-can c =
    let v = view c.args.pass.now in
    let w = view c.find.new.pass in
    can_refuse c.args.sets.now c.find.new.holds v w c.requires.live (only_walked v w c.find.ensures.finds.walked)
    (walked_holds c.args.sets.now.holds c.find.new.holds v w c.requires.live.holds c.find.ensures.finds.walked
    c.find.ensures.finds.can)

pub refuse-requires-in-Err-clause-due : goal.refuse-requires-in-Err-clause-due
refuse-requires-in-Err-clause-due c =
    let v = view c.args.pass.now in
    let w = view c.find.new.pass in
    let h : Walked c.args.sets.now v w = record {
      live = c.requires.live;
      walk = c.find.ensures.finds.walked;
      agree = c.find.ensures.finds.can.agree;
      decls = c.find.ensures.finds.can.declared;
    } in
    find_due c.in-Err.why c.args.sets.now c.find.new.holds c.args.key v w h c.requires.unread
    c.in-Err.ensures.finds.cause

pub refuse-requires-in-Err-clause-wide : goal.refuse-requires-in-Err-clause-wide
refuse-requires-in-Err-clause-wide c =
    find_wide_due c.in-Err.why (record c.args.sets.now { holds = c.find.new.holds }) c.args.key (view c.args.pass.now)
    (view c.find.new.pass) c.in-Err.ensures.finds.cause

pub returns-in-Err-clause-cause : goal.returns-in-Err-clause-cause
returns-in-Err-clause-cause c =
    let v = view c.args.pass.now in
    let w = view c.find.new.pass in
    let h : Walked c.args.sets.now v w = record {
      live = c.requires.live;
      walk = c.find.ensures.finds.walked;
      agree = c.find.ensures.finds.can.agree;
      decls = c.find.ensures.finds.can.declared;
    } in
    subst (λ (r : RefusalCause). RefusesRead c.args.sets.now (record c.args.sets.now { holds = c.find.new.holds }) c.args.key r v (view c.refuse-in-Err.new.pass))
    (sym c.refuse-in-Err.ensures.why)
    (find_cause c.in-Err.why c.args.sets.now (record c.args.sets.now { holds = c.find.new.holds }) c.args.key v w (view c.refuse-in-Err.new.pass) h c.requires.unread
    c.requires.unwritten c.in-Err.ensures.finds.cause c.refuse-in-Err.ensures.gives_up)

pub returns-in-Err-clause-refused : goal.returns-in-Err-clause-refused
returns-in-Err-clause-refused c =
    let v = view c.args.pass.now in
    let w = view c.find.new.pass in
    let h : Walked c.args.sets.now v w = record {
      live = c.requires.live;
      walk = c.find.ensures.finds.walked;
      agree = c.find.ensures.finds.can.agree;
      decls = c.find.ensures.finds.can.declared;
    } in
    subst (λ (r : RefusalCause). HasRefused r v (view c.refuse-in-Err.new.pass)) (sym c.refuse-in-Err.ensures.why)
    (walked_refused c.in-Err.why c.args.sets.now c.find.new.holds v w (view c.refuse-in-Err.new.pass) c.requires.live
    (only_walked v w c.find.ensures.finds.walked)
    (walked_holds c.args.sets.now.holds c.find.new.holds v w c.requires.live.holds c.find.ensures.finds.walked
    c.find.ensures.finds.can)
    c.find.ensures.finds.can.agree c.find.ensures.finds.can.trees
    (λ met told. find_told c.in-Err.why c.args.sets.now c.find.new.holds c.args.key v w met h
    c.in-Err.ensures.finds.cause told)
    c.refuse-in-Err.ensures.gives_up)

-- ---- steps

pub returns-then-is_wide-clause-most : goal.returns-then-is_wide-clause-most
returns-then-is_wide-clause-most c =
    let one = c.find.ensures.finds.most in let two = c.refuse.ensures.most in omega (arith, one, two)

pub returns-in-Err-clause-most : goal.returns-in-Err-clause-most
returns-in-Err-clause-most c =
    let one = c.find.ensures.finds.most in let two = c.refuse-in-Err.ensures.most in omega (arith, one, two)
