use Rattle.std.proofs.Common.{refl, sym, ap, ◌∙◌, subst, arith}
use Rattle.homes.specs.declared.places.Spot.{Spot}
use Rattle.engine_pages.specs.declared.view.RefusalCause.{RefusalCause}
use Rattle.engine_pages.specs.declared.view.RefusalCause.TheVariants as refusals
use Rattle.engine_pages.specs.declared.view.SetName.TheVariants.{Reads}
use Rattle.engine_pages.specs.Passes.{view}
use Rattle.page_commit.specs.Calls.{RefusesRead}
use Rattle.page_commit.specs.Refusing.{HasRefused}
use Rattle.page_commit.proofs.DueLaws.{find_cause, find_due, find_told, Walked}
use Rattle.page_commit.proofs.FoundLaws.{meets_found, room_found, value_found, wide_cause}
use Rattle.page_commit.proofs.PlaceLaws.{spot_here, spot_is}
use Rattle.page_commit.proofs.RefuseLaws.{can_refuse, walked_refused}
use Rattle.page_commit.proofs.WideLaws.{entry_wide_due, find_wide_due}
use Rattle.page_commit.proofs.WalkedLaws.{can_walk, only_walked, walked_holds}
use Rattle.page_commit.proofs.reading.read_held.Goals as goal

pub read_at-requires-clause-active : goal.read_at-requires-clause-active
read_at-requires-clause-active c = (can_walk c.args.sets.now (view c.args.pass.now) c.requires.live).active

pub read_at-requires-clause-rest : goal.read_at-requires-clause-rest
read_at-requires-clause-rest c = (can_walk c.args.sets.now (view c.args.pass.now) c.requires.live).rest

pub read_at-requires-clause-place : goal.read_at-requires-clause-place
read_at-requires-clause-place c =
    spot_is c.args.engine.now c.args.pass.now c.args.key c.args.at c.spot_of-spot.result c.requires.of
    c.spot_of-spot.ensures c.requires.place

pub read_at-requires-clause-index : goal.read_at-requires-clause-index
read_at-requires-clause-index c =
    ap (λ (y : Spot). y.index)
    (spot_here c.args.engine.now c.args.pass.now c.args.at c.spot_of-spot.result c.requires.of c.spot_of-spot.ensures)
    ∙ c.requires.index

-- ---- the key was found

pub keep-requires-clause-room : goal.keep-requires-clause-room
keep-requires-clause-room c =
    room_found c.in-Ok.found c.is_wide.result c.args.sets.now c.is_wide.ensures
    c.if-is_wide.false

pub keep-requires-clause-met : goal.keep-requires-clause-met
keep-requires-clause-met c =
    let ok = c.in-Ok.ensures.finds c.args.sets.now.holds
    (can_walk c.args.sets.now (view c.args.pass.now) c.requires.live) c.args.sets.now.pointers in
    meets_found c.in-Ok.found c.args.sets.now.pointers c.args.key (view c.args.pass.now) (view c.read_at.new.pass)
    ok.found

pub returns-else-is_wide-clause-value : goal.returns-else-is_wide-clause-value
returns-else-is_wide-clause-value c =
    let f = c.read_at.ensures.finds c.args.sets.now.holds
    (can_walk c.args.sets.now (view c.args.pass.now) c.requires.live) c.args.sets.now.pointers in
    let ok = c.in-Ok.ensures.finds c.args.sets.now.holds
    (can_walk c.args.sets.now (view c.args.pass.now) c.requires.live) c.args.sets.now.pointers in
    value_found c.in-Ok.found c.keep.result c.args.sets.now c.args.sets.now
    c.keep.new.sets (view c.args.pass.now)
    (view c.read_at.new.pass) c.args.key refl refl refl refl c.requires.live f.walked f.can c.requires.fits
    f.only ok.led ok.keeps ok.found c.requires.unread
    (room_found c.in-Ok.found c.is_wide.result c.args.sets.now c.is_wide.ensures c.if-is_wide.false)
    c.keep.ensures.keeps

-- ---- there was no room for its entry

pub refuse-requires-clause-can : goal.refuse-requires-clause-can
refuse-requires-clause-can c =
    let f = c.read_at.ensures.finds c.args.sets.now.holds
    (can_walk c.args.sets.now (view c.args.pass.now) c.requires.live) c.args.sets.now.pointers in
    let v = view c.args.pass.now in
    let w = view c.read_at.new.pass in
    can_refuse c.args.sets.now c.args.sets.now.holds v w c.requires.live (only_walked v w f.walked)
    (walked_holds c.args.sets.now.holds c.args.sets.now.holds v w c.requires.live.holds f.walked f.can)

pub refuse-requires-clause-wide : goal.refuse-requires-clause-wide
refuse-requires-clause-wide c =
    entry_wide_due c.in-Ok.found c.is_wide.result c.args.sets.now (view c.read_at.new.pass) c.is_wide.ensures
    c.if-is_wide.true

pub returns-then-is_wide-clause-cause : goal.returns-then-is_wide-clause-cause
returns-then-is_wide-clause-cause c =
    let f = c.read_at.ensures.finds c.args.sets.now.holds
    (can_walk c.args.sets.now (view c.args.pass.now) c.requires.live) c.args.sets.now.pointers in
    let ok = c.in-Ok.ensures.finds c.args.sets.now.holds
    (can_walk c.args.sets.now (view c.args.pass.now) c.requires.live) c.args.sets.now.pointers in
    let v = view c.args.pass.now in
    let w = view c.read_at.new.pass in
    let h : Walked c.args.sets.now v w = record {
      live = c.requires.live;
      walk = f.walked;
      agree = f.can.agree;
      decls = f.can.declared;
    } in
    subst
    (λ (r : RefusalCause). RefusesRead c.args.sets.now c.args.sets.now c.args.key r v
    (view c.refuse.new.pass)) (sym c.refuse.ensures.why)
    (wide_cause c.in-Ok.found c.is_wide.result c.args.sets.now
    c.args.sets.now c.args.key v w (view c.refuse.new.pass) h c.requires.unread
    c.requires.unwritten ok.found c.is_wide.ensures c.if-is_wide.true c.refuse.ensures.gives_up)

pub returns-then-is_wide-clause-refused : goal.returns-then-is_wide-clause-refused
returns-then-is_wide-clause-refused c =
    let f = c.read_at.ensures.finds c.args.sets.now.holds
    (can_walk c.args.sets.now (view c.args.pass.now) c.requires.live) c.args.sets.now.pointers in
    let v = view c.args.pass.now in
    let w = view c.read_at.new.pass in
    subst (λ (r : RefusalCause). HasRefused r v (view c.refuse.new.pass)) (sym c.refuse.ensures.why)
    (walked_refused (refusals.Wide Reads) c.args.sets.now c.args.sets.now.holds v w (view c.refuse.new.pass) c.requires.live
    (only_walked v w f.walked)
    (walked_holds c.args.sets.now.holds c.args.sets.now.holds v w c.requires.live.holds f.walked f.can)
    f.can.agree f.can.trees (λ met told. told) c.refuse.ensures.gives_up)

-- ---- the walk was refused

pub refuse-requires-in-Err-clause-can : goal.refuse-requires-in-Err-clause-can
refuse-requires-in-Err-clause-can c =
    let f = c.read_at.ensures.finds c.args.sets.now.holds
    (can_walk c.args.sets.now (view c.args.pass.now) c.requires.live) c.args.sets.now.pointers in
    let v = view c.args.pass.now in
    let w = view c.read_at.new.pass in
    can_refuse c.args.sets.now c.args.sets.now.holds v w c.requires.live (only_walked v w f.walked)
    (walked_holds c.args.sets.now.holds c.args.sets.now.holds v w c.requires.live.holds f.walked f.can)

pub refuse-requires-in-Err-clause-due : goal.refuse-requires-in-Err-clause-due
refuse-requires-in-Err-clause-due c =
    let f = c.read_at.ensures.finds c.args.sets.now.holds
    (can_walk c.args.sets.now (view c.args.pass.now) c.requires.live) c.args.sets.now.pointers in
    let err = c.in-Err.ensures.finds c.args.sets.now.holds
    (can_walk c.args.sets.now (view c.args.pass.now) c.requires.live) c.args.sets.now.pointers in
    let v = view c.args.pass.now in
    let w = view c.read_at.new.pass in
    let h : Walked c.args.sets.now v w = record {
      live = c.requires.live;
      walk = f.walked;
      agree = f.can.agree;
      decls = f.can.declared;
    } in
    find_due c.in-Err.why c.args.sets.now c.args.sets.now.holds c.args.key v w h c.requires.unread err.cause

pub refuse-requires-in-Err-clause-wide : goal.refuse-requires-in-Err-clause-wide
refuse-requires-in-Err-clause-wide c =
    let err = c.in-Err.ensures.finds c.args.sets.now.holds
    (can_walk c.args.sets.now (view c.args.pass.now) c.requires.live) c.args.sets.now.pointers in
    find_wide_due c.in-Err.why c.args.sets.now c.args.key (view c.args.pass.now) (view c.read_at.new.pass) err.cause

pub returns-in-Err-clause-cause : goal.returns-in-Err-clause-cause
returns-in-Err-clause-cause c =
    let f = c.read_at.ensures.finds c.args.sets.now.holds
    (can_walk c.args.sets.now (view c.args.pass.now) c.requires.live) c.args.sets.now.pointers in
    let err = c.in-Err.ensures.finds c.args.sets.now.holds
    (can_walk c.args.sets.now (view c.args.pass.now) c.requires.live) c.args.sets.now.pointers in
    let v = view c.args.pass.now in
    let w = view c.read_at.new.pass in
    let h : Walked c.args.sets.now v w = record {
      live = c.requires.live;
      walk = f.walked;
      agree = f.can.agree;
      decls = f.can.declared;
    } in
    subst (λ (r : RefusalCause). RefusesRead c.args.sets.now c.args.sets.now c.args.key r v (view c.refuse-in-Err.new.pass))
    (sym c.refuse-in-Err.ensures.why)
    (find_cause c.in-Err.why c.args.sets.now c.args.sets.now c.args.key v w (view c.refuse-in-Err.new.pass) h c.requires.unread
    c.requires.unwritten err.cause c.refuse-in-Err.ensures.gives_up)

pub returns-in-Err-clause-refused : goal.returns-in-Err-clause-refused
returns-in-Err-clause-refused c =
    let f = c.read_at.ensures.finds c.args.sets.now.holds
    (can_walk c.args.sets.now (view c.args.pass.now) c.requires.live) c.args.sets.now.pointers in
    let err = c.in-Err.ensures.finds c.args.sets.now.holds
    (can_walk c.args.sets.now (view c.args.pass.now) c.requires.live) c.args.sets.now.pointers in
    let v = view c.args.pass.now in
    let w = view c.read_at.new.pass in
    let h : Walked c.args.sets.now v w = record {
      live = c.requires.live;
      walk = f.walked;
      agree = f.can.agree;
      decls = f.can.declared;
    } in
    subst (λ (r : RefusalCause). HasRefused r v (view c.refuse-in-Err.new.pass)) (sym c.refuse-in-Err.ensures.why)
    (walked_refused c.in-Err.why c.args.sets.now c.args.sets.now.holds v w (view c.refuse-in-Err.new.pass) c.requires.live
    (only_walked v w f.walked)
    (walked_holds c.args.sets.now.holds c.args.sets.now.holds v w c.requires.live.holds f.walked f.can)
    f.can.agree f.can.trees
    (λ met told. find_told c.in-Err.why c.args.sets.now c.args.sets.now.holds c.args.key v w met h err.cause told)
    c.refuse-in-Err.ensures.gives_up)

-- ---- steps

pub returns-then-is_wide-clause-most : goal.returns-then-is_wide-clause-most
returns-then-is_wide-clause-most c =
    let f = c.read_at.ensures.finds c.args.sets.now.holds
    (can_walk c.args.sets.now (view c.args.pass.now) c.requires.live) c.args.sets.now.pointers in
    let one = f.most in let two = c.refuse.ensures.most in omega (arith, one, two)

pub returns-in-Err-clause-most : goal.returns-in-Err-clause-most
returns-in-Err-clause-most c =
    let f = c.read_at.ensures.finds c.args.sets.now.holds
    (can_walk c.args.sets.now (view c.args.pass.now) c.requires.live) c.args.sets.now.pointers in
    let one = f.most in let two = c.refuse-in-Err.ensures.most in omega (arith, one, two)

pub returns-else-is_wide-clause-most : goal.returns-else-is_wide-clause-most
returns-else-is_wide-clause-most c =
    let f = c.read_at.ensures.finds c.args.sets.now.holds
    (can_walk c.args.sets.now (view c.args.pass.now) c.requires.live) c.args.sets.now.pointers in
    let one = f.most in omega (arith, one)
