use Rattle.std.proofs.Common.{◌≡◌}
use Rattle.std.proofs.lemmas.Result.{err_from_is_err_and}
use Rattle.std.specs.Prelude.{Err}
use Rattle.engine_pages.specs.Passes.{view}
use Rattle.tree_drops.proofs.EnterSteps.{active_five, active_three, all_ends, can_glanced, first_ends, known_four}
use Rattle.tree_drops.proofs.EnterSteps.{known_six, page_four, page_six, role_four, role_six, second_ends, seen_four}
use Rattle.tree_drops.proofs.EnterSteps.{seen_six, slot_five, slot_three, third_ends, unheld_five, unheld_three}
use Rattle.tree_drops.proofs.chains.enter_halves.Goals as goal

pub half_of-lower-requires-clause-enter : goal.half_of-lower-requires-clause-enter
half_of-lower-requires-clause-enter c =
    can_glanced c.args.split (view c.args.pass.now) (view c.half_of-upper.new.pass) c.half_of-upper.ensures.half.0 c.requires.enter

pub returns-in_err-meet-clause-enters : goal.returns-in_err-meet-clause-enters
returns-in_err-meet-clause-enters c =
    let p = err_from_is_err_and c.from_residual.result c.from_residual.ensures.1 in
    let told : c.from_residual.result ≡ Err c.in_err-meet.field-0.0 = let a = p.1 in let b = p.2 in cc in
    rw told (first_ends c.args.split (view c.args.pass.now) c.requires.enter c.half_of-upper.result c.half_of-lower.result
    (view c.half_of-upper.new.pass) (view c.half_of-lower.new.pass) c.half_of-upper.ensures.half c.half_of-lower.ensures.half
    c.args.halves.now.items c.in_err-meet.field-0.0 (view c.meet.new.pass) c.in_err-meet.ensures.meets)

pub enter-requires-clause-pass : goal.enter-requires-clause-pass
enter-requires-clause-pass c =
    active_three c.args.split (view c.args.pass.now) c.requires.enter c.half_of-upper.result c.half_of-lower.result
    (view c.half_of-upper.new.pass) (view c.half_of-lower.new.pass) c.half_of-upper.ensures.half c.half_of-lower.ensures.half
    (view c.meet.new.pass) c.in_ok-meet.ensures.meets

pub enter-requires-clause-slot : goal.enter-requires-clause-slot
enter-requires-clause-slot c =
    slot_three c.args.split (view c.args.pass.now) c.requires.enter c.half_of-upper.result c.half_of-lower.result
    (view c.half_of-upper.new.pass) (view c.half_of-lower.new.pass) c.half_of-upper.ensures.half c.half_of-lower.ensures.half
    (view c.meet.new.pass) c.in_ok-meet.ensures.meets

pub enter-requires-clause-unheld : goal.enter-requires-clause-unheld
enter-requires-clause-unheld c =
    unheld_three c.args.split (view c.args.pass.now) c.requires.enter c.half_of-upper.result c.half_of-lower.result
    (view c.half_of-upper.new.pass) (view c.half_of-lower.new.pass) c.half_of-upper.ensures.half c.half_of-lower.ensures.half
    (view c.meet.new.pass) c.in_ok-meet.ensures.meets

pub meet-requires-2-clause-keeper : goal.meet-requires-2-clause-keeper
meet-requires-2-clause-keeper c =
    role_four c.args.split (view c.args.pass.now) c.requires.enter c.half_of-upper.result c.half_of-lower.result
    (view c.half_of-upper.new.pass) (view c.half_of-lower.new.pass) c.half_of-upper.ensures.half c.half_of-lower.ensures.half
    (view c.meet.new.pass) c.in_ok-meet.ensures.meets (view c.enter.new.pass) c.enter.ensures.enters

pub meet-requires-2-clause-page : goal.meet-requires-2-clause-page
meet-requires-2-clause-page c =
    page_four c.args.split (view c.args.pass.now) c.requires.enter c.half_of-upper.result c.half_of-lower.result
    (view c.half_of-upper.new.pass) (view c.half_of-lower.new.pass) c.half_of-upper.ensures.half c.half_of-lower.ensures.half
    (view c.meet.new.pass) c.in_ok-meet.ensures.meets (view c.enter.new.pass) c.enter.ensures.enters

pub meet-requires-2-clause-known : goal.meet-requires-2-clause-known
meet-requires-2-clause-known c =
    known_four c.args.split (view c.args.pass.now) c.requires.enter c.half_of-upper.result c.half_of-lower.result
    (view c.half_of-upper.new.pass) (view c.half_of-lower.new.pass) c.half_of-upper.ensures.half c.half_of-lower.ensures.half
    (view c.meet.new.pass) c.in_ok-meet.ensures.meets (view c.enter.new.pass) c.enter.ensures.enters

pub meet-requires-2-clause-seen : goal.meet-requires-2-clause-seen
meet-requires-2-clause-seen c =
    seen_four c.args.split (view c.args.pass.now) c.requires.enter c.half_of-upper.result c.half_of-lower.result
    (view c.half_of-upper.new.pass) (view c.half_of-lower.new.pass) c.half_of-upper.ensures.half c.half_of-lower.ensures.half
    (view c.meet.new.pass) c.in_ok-meet.ensures.meets (view c.enter.new.pass) c.enter.ensures.enters

pub returns-in_err-meet-2-clause-enters : goal.returns-in_err-meet-2-clause-enters
returns-in_err-meet-2-clause-enters c =
    let p = err_from_is_err_and c.from_residual-in_err-meet-2.result c.from_residual-in_err-meet-2.ensures.1 in
    let told : c.from_residual-in_err-meet-2.result ≡ Err c.in_err-meet-2.field-0.0 = let a = p.1 in let b = p.2 in cc in
    rw told (second_ends c.args.split (view c.args.pass.now) c.requires.enter c.half_of-upper.result c.half_of-lower.result
    (view c.half_of-upper.new.pass) (view c.half_of-lower.new.pass) c.half_of-upper.ensures.half c.half_of-lower.ensures.half
    (view c.meet.new.pass) c.in_ok-meet.ensures.meets (view c.enter.new.pass) c.enter.ensures.enters
    c.args.halves.now.items c.push.new.self.items c.in_err-meet-2.field-0.0 (view c.meet-2.new.pass) c.push.ensures.items
    c.in_err-meet-2.ensures.meets)

pub enter-requires-2-clause-pass : goal.enter-requires-2-clause-pass
enter-requires-2-clause-pass c =
    active_five c.args.split (view c.args.pass.now) c.requires.enter c.half_of-upper.result c.half_of-lower.result
    (view c.half_of-upper.new.pass) (view c.half_of-lower.new.pass) c.half_of-upper.ensures.half c.half_of-lower.ensures.half
    (view c.meet.new.pass) c.in_ok-meet.ensures.meets (view c.enter.new.pass) c.enter.ensures.enters
    (view c.meet-2.new.pass) c.in_ok-meet-2.ensures.meets

pub enter-requires-2-clause-slot : goal.enter-requires-2-clause-slot
enter-requires-2-clause-slot c =
    slot_five c.args.split (view c.args.pass.now) c.requires.enter c.half_of-upper.result c.half_of-lower.result
    (view c.half_of-upper.new.pass) (view c.half_of-lower.new.pass) c.half_of-upper.ensures.half c.half_of-lower.ensures.half
    (view c.meet.new.pass) c.in_ok-meet.ensures.meets (view c.enter.new.pass) c.enter.ensures.enters
    (view c.meet-2.new.pass) c.in_ok-meet-2.ensures.meets

pub enter-requires-2-clause-unheld : goal.enter-requires-2-clause-unheld
enter-requires-2-clause-unheld c =
    unheld_five c.args.split (view c.args.pass.now) c.requires.enter c.half_of-upper.result c.half_of-lower.result
    (view c.half_of-upper.new.pass) (view c.half_of-lower.new.pass) c.half_of-upper.ensures.half c.half_of-lower.ensures.half
    (view c.meet.new.pass) c.in_ok-meet.ensures.meets (view c.enter.new.pass) c.enter.ensures.enters
    (view c.meet-2.new.pass) c.in_ok-meet-2.ensures.meets

pub meet-requires-3-clause-keeper : goal.meet-requires-3-clause-keeper
meet-requires-3-clause-keeper c =
    role_six c.args.split (view c.args.pass.now) c.requires.enter c.half_of-upper.result c.half_of-lower.result
    (view c.half_of-upper.new.pass) (view c.half_of-lower.new.pass) c.half_of-upper.ensures.half c.half_of-lower.ensures.half
    (view c.meet.new.pass) c.in_ok-meet.ensures.meets (view c.enter.new.pass) c.enter.ensures.enters
    (view c.meet-2.new.pass) c.in_ok-meet-2.ensures.meets (view c.enter-2.new.pass) c.enter-2.ensures.enters

pub meet-requires-3-clause-page : goal.meet-requires-3-clause-page
meet-requires-3-clause-page c =
    page_six c.args.split (view c.args.pass.now) c.requires.enter c.half_of-upper.result c.half_of-lower.result
    (view c.half_of-upper.new.pass) (view c.half_of-lower.new.pass) c.half_of-upper.ensures.half c.half_of-lower.ensures.half
    (view c.meet.new.pass) c.in_ok-meet.ensures.meets (view c.enter.new.pass) c.enter.ensures.enters
    (view c.meet-2.new.pass) c.in_ok-meet-2.ensures.meets (view c.enter-2.new.pass) c.enter-2.ensures.enters

pub meet-requires-3-clause-known : goal.meet-requires-3-clause-known
meet-requires-3-clause-known c =
    known_six c.args.split (view c.args.pass.now) c.requires.enter c.half_of-upper.result c.half_of-lower.result
    (view c.half_of-upper.new.pass) (view c.half_of-lower.new.pass) c.half_of-upper.ensures.half c.half_of-lower.ensures.half
    (view c.meet.new.pass) c.in_ok-meet.ensures.meets (view c.enter.new.pass) c.enter.ensures.enters
    (view c.meet-2.new.pass) c.in_ok-meet-2.ensures.meets (view c.enter-2.new.pass) c.enter-2.ensures.enters

pub meet-requires-3-clause-seen : goal.meet-requires-3-clause-seen
meet-requires-3-clause-seen c =
    seen_six c.args.split (view c.args.pass.now) c.requires.enter c.half_of-upper.result c.half_of-lower.result
    (view c.half_of-upper.new.pass) (view c.half_of-lower.new.pass) c.half_of-upper.ensures.half c.half_of-lower.ensures.half
    (view c.meet.new.pass) c.in_ok-meet.ensures.meets (view c.enter.new.pass) c.enter.ensures.enters
    (view c.meet-2.new.pass) c.in_ok-meet-2.ensures.meets (view c.enter-2.new.pass) c.enter-2.ensures.enters

pub returns-in_err-meet-3-clause-enters : goal.returns-in_err-meet-3-clause-enters
returns-in_err-meet-3-clause-enters c =
    let p = err_from_is_err_and c.from_residual-in_err-meet-3.result c.from_residual-in_err-meet-3.ensures.1 in
    let told : c.from_residual-in_err-meet-3.result ≡ Err c.in_err-meet-3.field-0.0 = let a = p.1 in let b = p.2 in cc in
    rw told (third_ends c.args.split (view c.args.pass.now) c.requires.enter c.half_of-upper.result c.half_of-lower.result
    (view c.half_of-upper.new.pass) (view c.half_of-lower.new.pass) c.half_of-upper.ensures.half c.half_of-lower.ensures.half
    (view c.meet.new.pass) c.in_ok-meet.ensures.meets (view c.enter.new.pass) c.enter.ensures.enters
    (view c.meet-2.new.pass) c.in_ok-meet-2.ensures.meets (view c.enter-2.new.pass) c.enter-2.ensures.enters
    c.args.halves.now.items c.push.new.self.items c.push-2.new.self.items c.in_err-meet-3.field-0.0 (view c.meet-3.new.pass)
    c.push.ensures.items c.push-2.ensures.items c.in_err-meet-3.ensures.meets)

pub returns-clause-enters : goal.returns-clause-enters
returns-clause-enters c =
    all_ends c.args.split (view c.args.pass.now) c.requires.enter c.half_of-upper.result c.half_of-lower.result
    (view c.half_of-upper.new.pass) (view c.half_of-lower.new.pass) c.half_of-upper.ensures.half c.half_of-lower.ensures.half
    (view c.meet.new.pass) c.in_ok-meet.ensures.meets (view c.enter.new.pass) c.enter.ensures.enters
    (view c.meet-2.new.pass) c.in_ok-meet-2.ensures.meets (view c.enter-2.new.pass) c.enter-2.ensures.enters
    c.args.halves.now.items c.push.new.self.items c.push-2.new.self.items (view c.meet-3.new.pass)
    c.push.ensures.items c.push-2.ensures.items c.in_ok-meet-3.ensures.meets
