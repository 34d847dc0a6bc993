use Rattle.std.proofs.Common.{◌≡◌, ℕ, suc, ◌+◌, ◌-◌, ◌*◌, ◌<◌, ◌≤◌, get_or, ap, ◌∙◌, subst, arith}
use Rattle.engine_pages.specs.declared.layout.Layout.{Layout}
use Rattle.engine_pages.specs.Layout.{page_at}
use Rattle.engine_pages.specs.Passes.{view}
use Rattle.foster_tree.specs.Entries.{key_of}
use Rattle.foster_tree.specs.Filling.{no_entry}
use Rattle.foster_tree.specs.Locking.{AreLocked}
use Rattle.foster_tree.proofs.LockLaws.{worked_then}
use Rattle.foster_tree.proofs.OpenMany.{can_open_last, last_one, layout_one, locked_leaf, opened_all, opened_less, steps_one}
use Rattle.foster_tree.proofs.OpenMany.{still_one, touched_one}
use Rattle.foster_tree.proofs.locking.open_records.Goals as goal

pub open_one-requires-clause-can : goal.open_one-requires-clause-can
open_one-requires-clause-can c =
    let u = view c.loop-left.pass in
    let so = c.loop-left.invariant in
    let keys = c.requires.can.0 in
    let from = c.requires.can.1 in
    let some = c.loop-left-test.true in
    let within = so.within in
    let most = c.requires.few in
    let next : c.loop-left.left ≡ suc (c.loop-left.left - 1) = omega (arith, some) in
    let few : suc (c.loop-left.left - 1) ≤ 16 = omega (arith, some, within, most) in
    let now : AreLocked c.args.slot keys c.args.entries.now (suc (c.loop-left.left - 1)) from u =
    subst (λ (n : ℕ). AreLocked c.args.slot keys c.args.entries.now n from u) next
    (so.locked keys from c.requires.can.2 c.requires.can.3) in (
      keys,
      locked_leaf c.args.slot (suc (c.loop-left.left - 1)) c.args.span keys c.args.entries.now from u c.requires.can.2 now,
      can_open_last c.args.slot (c.loop-left.left - 1) c.args.span keys c.args.entries.now from u c.requires.can.2 few now,
    )

pub loop-left-preserved : goal.loop-left-preserved
loop-left-preserved c =
    let v = view c.args.pass.now in
    let u = view c.loop-left.pass in
    let w = view c.open_one.new.pass in
    let so = c.loop-left.invariant in
    let one = c.open_one.ensures.opened in
    let e = get_or c.args.entries.now (c.loop-left.left - 1) no_entry in
    let key = key_of c.args.span.storage (get_or c.args.entries.now (c.loop-left.left - 1) no_entry) in
    let some = c.loop-left-test.true in
    let within = so.within in
    let most = c.requires.few in
    let next : c.loop-left.left ≡ suc (c.loop-left.left - 1) = omega (arith, some) in
    let few : suc (c.loop-left.left - 1) ≤ 16 = omega (arith, some, within, most) in
    let less : c.loop-left.left - 1 < c.args.count = omega (arith, some, within) in
    let step = steps_one c.args.slot (c.loop-left.left - 1) key e u w one in
    let steps = so.steps in
    record {
      of = c.open_one.ensures.of;
      within = omega (arith, within);
      worked = worked_then c.args.slot v u w so.layout so.worked one.worked;
      touched = touched_one c.args.slot (c.loop-left.left - 1) key e u w one ∙ so.touched;
      layout = layout_one c.args.slot (c.loop-left.left - 1) key e u w one ∙ so.layout;
      steps = omega (arith, step, steps, next);
      last = last_one c.args.slot (c.loop-left.left - 1) key e u w one ∙ so.last;
      still = λ r has apart.
          still_one c.args.slot (c.loop-left.left - 1) key e u w one r (so.still r has apart)
          (λ same. apart (c.loop-left.left - 1) less
          (same ∙ ap (λ (y : Layout). page_at y.slots c.args.slot (1 + (16 + 3 * (c.loop-left.left - 1)))) so.layout));
      locked = λ keys from can are.
          opened_less c.args.slot (c.loop-left.left - 1) c.args.span keys c.args.entries.now from u w can few
          (subst (λ (n : ℕ). AreLocked c.args.slot keys c.args.entries.now n from u) next (so.locked keys from can are)) one;
    }

pub returns-clause-opened : goal.returns-clause-opened
returns-clause-opened c =
    let v = view c.args.pass.now in
    let u = view c.loop-left.pass in
    let so = c.loop-left.invariant in
    let none = c.loop-left-test.false in
    let zero_left : c.loop-left.left ≡ 0 = omega (arith, none) in
    let keys = c.requires.can.0 in
    let from = c.requires.can.1 in
    let steps = so.steps in
    record {
      worked = so.worked;
      touched = so.touched;
      steps = omega (arith, steps, zero_left);
      last = so.last;
      still = so.still;
      is = opened_all c.args.slot c.args.count keys c.args.entries.now from v u c.requires.can.3
          (subst (λ (n : ℕ). AreLocked c.args.slot keys c.args.entries.now n from u) zero_left
          (so.locked keys from c.requires.can.2 c.requires.can.3));
    }
