use Rattle.std.proofs.Common.{◌≡◌, ℕ, suc, ◌+◌, ◌<◌, length, get_or, ◌∙◌, subst, arith}
use Rattle.std.specs.Prelude.{slice_set}
use Rattle.std.proofs.lemmas.List.{length-set}
use Rattle.engine_pages.specs.Passes.{view}
use Rattle.foster_tree.specs.Locking.{no_key, HasLockedSome}
use Rattle.foster_tree.proofs.LockLists.{there}
use Rattle.foster_tree.proofs.LockMany.{locked_more, not_locked, some_leaf}
use Rattle.foster_tree.proofs.locking.lock_records.Goals as goal

pub returns-in-Err-clause-missed : goal.returns-in-Err-clause-missed
returns-in-Err-clause-missed c =
    let so = c.loop-index.invariant in
    not_locked c.args.slot c.loop-index.index c.args.span c.requires.can.0 c.loop-index.entries c.in-Err.why
    (view c.args.pass.now) (view c.loop-index.pass) (view c.lock_one.new.pass) (view c.open_records.new.pass)
    c.requires.can.1 c.loop-index-test.true (so.locked c.requires.can.0 c.requires.can.1) c.in-Err.ensures.missed
    c.open_records.ensures.opened

pub loop-index-preserved : goal.loop-index-preserved
loop-index-preserved c =
    let so = c.loop-index.invariant in
    let v = view c.args.pass.now in
    let u = view c.loop-index.pass in
    let w = view c.lock_one.new.pass in
    let less = c.loop-index-test.true in
    let next : suc c.loop-index.index ≡ c.loop-index.index + 1 = omega arith in
    record {
      of = c.lock_one.ensures.of;
      long = length-set c.loop-index.entries c.loop-index.index c.in-Ok.entry ∙ so.long;
      locked = λ keys can.
          let full = can.leaf.full in
          let within : c.loop-index.index < length keys = omega (arith, less, full) in
          let at = there keys c.loop-index.index no_key within in
          let some = so.locked keys can in
          subst (λ (n : ℕ). HasLockedSome c.args.slot keys
          (slice_set c.loop-index.entries c.loop-index.index c.in-Ok.entry) n v w) next
          (locked_more c.args.slot c.loop-index.index keys c.loop-index.entries c.in-Ok.entry
          (get_or keys c.loop-index.index no_key) v u w so.long less within at some
          (c.in-Ok.ensures.locked keys (get_or keys c.loop-index.index no_key)
          (some_leaf c.args.slot c.loop-index.index c.args.span keys c.loop-index.entries v u can some) at));
    }

pub returns-clause-locked : goal.returns-clause-locked
returns-clause-locked c keys can =
    let so = c.loop-index.invariant in
    let last = c.loop-index.auto.index-end in
    let over = c.loop-index-test.false in
    let whole : c.loop-index.index ≡ 16 = omega (arith, last, over) in
    subst (λ (n : ℕ). HasLockedSome c.args.slot keys c.loop-index.entries n (view c.args.pass.now) (view c.loop-index.pass))
    whole (so.locked keys can)
