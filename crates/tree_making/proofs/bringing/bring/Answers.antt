use Rattle.std.proofs.Common.{◌≡◌, ℕ, ◌+◌, ◌<◌, ◌≤◌, Bool, false, [], length, eqb-true, refl, sym, ◌∙◌, subst, arith}
use Rattle.std.specs.Prelude.{◌==◌}
use Rattle.std.proofs.lemmas.Bool.Decides.{nat_tests}
use Rattle.std.proofs.lemmas.Result.{err_from_is_err_and}
use Rattle.engine_pages.specs.declared.layout.Layout.{Layout}
use Rattle.engine_pages.specs.Layout.{words_of}
use Rattle.engine_pages.specs.Passes.{view}
use Rattle.tree_walks.proofs.StepLaws.{active_stays, layout_stays, place_stays}
use Rattle.tree_making.proofs.BringLaws.{bring_done, bring_full, bring_missed, bring_none, bring_refused, can_page}
use Rattle.tree_making.proofs.bringing.bring.Goals as goal

-- there is room for one slot more
room_left : (n : ℕ) (full : Bool) → full ≡ (n == 128) → n ≤ 128 → full ≡ false → n < 128
room_left n full is most left = grind (arith, nat_tests)

pub returns-then-is_full-clause-brings : goal.returns-then-is_full-clause-brings
returns-then-is_full-clause-brings c k headers on =
    let v = view c.args.pass.now in
    bring_full k c.args.pointers.now headers c.args.holds.now c.args.bare (v.layout.slots + 135) v c.requires.can on
    (eqb-true (length c.args.holds.now) 128 (sym c.is_full.ensures.value ∙ c.if-is_full.true))

pub make_page-requires-clause-can : goal.make_page-requires-clause-can
make_page-requires-clause-can c =
    can_page c.requires.bare.0 c.args.pointers.now c.args.holds.now c.args.bare (view c.args.pass.now) c.requires.can
    c.requires.bare.1

pub returns-in_err-slot-clause-brings : goal.returns-in_err-slot-clause-brings
returns-in_err-slot-clause-brings c k headers on =
    let p = err_from_is_err_and c.from_residual.result c.from_residual.ensures.1 in
    rw (p.1, p.2)
    (bring_none k c.args.pointers.now headers c.args.holds.now _ (view c.args.pass.now) (view c.make_page.new.pass)
    c.requires.can c.in_err-slot.ensures.missed)

pub lead_to-requires-clause-room : goal.lead_to-requires-clause-room
lead_to-requires-clause-room c =
    room_left (length c.args.holds.now) c.is_full.result c.is_full.ensures.value c.is_full.ensures.bound
    c.if-is_full.false

pub lead_to-requires-clause-made : goal.lead_to-requires-clause-made
lead_to-requires-clause-made c = (
  c.requires.bare.0,
  c.args.pointers.now,
  view c.args.pass.now,
  c.requires.can,
  c.requires.bare.1,
  c.in_ok-slot.ensures.made,
)

pub returns-in_err-lead_to-clause-brings : goal.returns-in_err-lead_to-clause-brings
returns-in_err-lead_to-clause-brings c k headers on =
    let p = err_from_is_err_and c.from_residual-in_err-lead_to.result
    c.from_residual-in_err-lead_to.ensures.1 in
    rw (p.1, p.2)
    (bring_missed k c.args.pointers.now headers c.lead_to.new.holds c.args.bare c.in_ok-slot.slot _
    (view c.args.pass.now) (view c.lead_to.new.pass)
    (c.in_err-lead_to.ensures.puts k c.args.pointers.now headers (view c.args.pass.now) c.requires.can on
    c.in_ok-slot.ensures.made))

pub check_moved-requires-clause-active : goal.check_moved-requires-clause-active
check_moved-requires-clause-active c =
    let puts = c.in_ok-lead_to.ensures.puts c.requires.bare.0 c.args.pointers.now [] (view c.args.pass.now)
    c.requires.can c.requires.bare.1 c.in_ok-slot.ensures.made in
    active_stays (view c.args.pass.now) (view c.lead_to.new.pass) puts.went.walked c.requires.can.walks.active

pub check_moved-requires-clause-place : goal.check_moved-requires-clause-place
check_moved-requires-clause-place c =
    let puts = c.in_ok-lead_to.ensures.puts c.requires.bare.0 c.args.pointers.now [] (view c.args.pass.now)
    c.requires.can c.requires.bare.1 c.in_ok-slot.ensures.made in
    place_stays (view c.args.pass.now) (view c.lead_to.new.pass) c.args.bare.place c.args.bare.span
    c.args.bare.pointer.at puts.went.walked c.requires.bare.1.is

pub check_moved-requires-clause-word : goal.check_moved-requires-clause-word
check_moved-requires-clause-word c =
    let puts = c.in_ok-lead_to.ensures.puts c.requires.bare.0 c.args.pointers.now [] (view c.args.pass.now)
    c.requires.can c.requires.bare.1 c.in_ok-slot.ensures.made in
    subst (λ (y : Layout). c.args.bare.pointer.at < words_of y)
    (sym (layout_stays (view c.args.pass.now) (view c.lead_to.new.pass) puts.went.walked)) c.requires.bare.1.within

pub returns-in_err-check_moved-clause-brings : goal.returns-in_err-check_moved-clause-brings
returns-in_err-check_moved-clause-brings c k headers on =
    let p = err_from_is_err_and c.from_residual-in_err-check_moved.result
    c.from_residual-in_err-check_moved.ensures.1 in
    rw (p.1, p.2)
    (bring_refused k c.args.pointers.now headers c.lead_to.new.holds c.args.bare c.in_ok-slot.slot
    (view c.args.pass.now) (view c.lead_to.new.pass) on
    (c.in_ok-lead_to.ensures.puts k c.args.pointers.now headers (view c.args.pass.now) c.requires.can on
    c.in_ok-slot.ensures.made) _ (view c.check_moved.new.pass) c.in_err-check_moved.ensures.checks)

pub returns-clause-brings : goal.returns-clause-brings
returns-clause-brings c k headers on =
    (bring_done k c.args.pointers.now headers c.lead_to.new.holds c.args.bare c.in_ok-slot.slot
    (view c.args.pass.now) (view c.lead_to.new.pass) on
    (c.in_ok-lead_to.ensures.puts k c.args.pointers.now headers (view c.args.pass.now) c.requires.can on
    c.in_ok-slot.ensures.made) (record { slot = c.in_ok-slot.slot; span = c.args.bare.span })
    (view c.check_moved.new.pass) refl c.in_ok-check_moved.ensures.checks).0

pub returns-clause-more : goal.returns-clause-more
returns-clause-more c =
    (bring_done c.requires.bare.0 c.args.pointers.now [] c.lead_to.new.holds c.args.bare c.in_ok-slot.slot
    (view c.args.pass.now) (view c.lead_to.new.pass) c.requires.bare.1
    (c.in_ok-lead_to.ensures.puts c.requires.bare.0 c.args.pointers.now [] (view c.args.pass.now) c.requires.can
    c.requires.bare.1 c.in_ok-slot.ensures.made) (record { slot = c.in_ok-slot.slot; span = c.args.bare.span })
    (view c.check_moved.new.pass) refl c.in_ok-check_moved.ensures.checks).1
