use Rattle.std.proofs.Common.{rules, ℕ, ◌≡◌, ◌∙◌, ◌+◌, ◌-◌, [], ◌∷◌, ◌++◌, length, vec_len, arith, ap, sym}
use Rattle.std.proofs.Common.{subst}
use Rattle.std.specs.List.{AllByRecursion}
use Rattle.engine_pages.specs.Passes.{view}
use Rattle.engine_pages.specs.declared.view.Role.{Role}
use Rattle.engine_pages.specs.declared.view.Role.TheVariants.{Worker}
use Rattle.engine_pages.specs.declared.view.View.{View}
use Rattle.engine_seats.specs.Cuts.{worker_of}
use Rattle.worker_cells.specs.Below.{over_done}
use Rattle.shared_rounds.specs.Ended.{EndedSoFar}
use Rattle.shared_rounds.specs.Seated.{MayEnd}
use Rattle.shared_rounds.proofs.Backward.{all_push}
use Rattle.shared_rounds.proofs.Claimed.{owns_behind}
use Rattle.shared_rounds.proofs.Looked.{ended_looked}
use Rattle.shared_rounds.proofs.Onward.{ends_all_is, ends_begin_is, ends_next_is}
use Rattle.shared_rounds.proofs.ends.end_all.Goals as goal

pub loop-cell-init : goal.loop-cell-init
loop-cell-init g c =
    let many : vec_len c.args.cells ≡ 8 = c.requires.cells.0 in
    let logs_none : vec_len c.args.logs.now ≡ 0 = c.requires.empty.0 in
    let banks_none : vec_len c.args.growing.now ≡ 0 = c.requires.empty.1 in
    let told_none : vec_len c.args.told ≡ 0 = c.requires.told.0 in record {
      of = c.requires.of;
      keeper = c.requires.keeper;
      few = omega (arith, many);
      logs_len = omega (arith, many, logs_none);
      banks_len = omega (arith, many, banks_none);
      ends_len = ap (λ l. length l + vec_len c.args.cells) c.new-ends.ensures ∙ omega (arith, many);
      told_len = omega (arith, many, told_none);
      desks_len = omega (arith, many, c.requires.desks.0);
      desks_room = c.requires.desks.1;
      logs_room = c.requires.room.0;
      banks_room = c.requires.room.1;
      told_room = c.requires.told.2;
      cells = c.requires.cells.1;
      ended = λ tries round was logs_was banks_was stands ran.
          ends_begin_is g.D.Disk.tells g.D.Disk.clock g.D.Disk.image_at g.D.Disk.faults tries round c.args.engine.now
          was
          (view c.args.keeper.now) (8 - vec_len c.args.cells) c.args.cells.items logs_was c.args.logs.now.items
          banks_was
          c.args.growing.now.items c.args.told.items c.new-ends.result.items (omega (arith, many))
          c.requires.empty.2 c.requires.empty.3 c.requires.told.1 c.new-ends.ensures stands ran;
    }

pub end-requires-clause-of : goal.end-requires-clause-of
end-requires-clause-of g c =
    let is : c.loop-cell.cells.items ≡ c.pop.new.self.items ++ c.in-Some.cell ∷ [] = search rules in
    let may = (all_push (MayEnd c.args.engine.now) c.pop.new.self.items c.in-Some.cell
    (subst (AllByRecursion (MayEnd c.args.engine.now)) is c.loop-cell.invariant.cells)).1 in
    (c.loop-cell.invariant.of, may.of)

worker_is : (r : Role) (w : ℕ) → r ≡ Worker w → r ≡ Worker (worker_of r)
worker_is r w is = is ∙ ap (λ (x : Role). Worker (worker_of x)) (sym is)

pub end-requires-clause-worker : goal.end-requires-clause-worker
end-requires-clause-worker g c =
    let is : c.loop-cell.cells.items ≡ c.pop.new.self.items ++ c.in-Some.cell ∷ [] = search rules in
    let may = (all_push (MayEnd c.args.engine.now) c.pop.new.self.items c.in-Some.cell
    (subst (AllByRecursion (MayEnd c.args.engine.now)) is c.loop-cell.invariant.cells)).1 in
    worker_is (view c.in-Some.cell.pass).role _ may.over.worker

pub end-requires-clause-over : goal.end-requires-clause-over
end-requires-clause-over g c =
    let is : c.loop-cell.cells.items ≡ c.pop.new.self.items ++ c.in-Some.cell ∷ [] = search rules in
    let may = (all_push (MayEnd c.args.engine.now) c.pop.new.self.items c.in-Some.cell
    (subst (AllByRecursion (MayEnd c.args.engine.now)) is c.loop-cell.invariant.cells)).1 in
    over_done (view c.in-Some.cell.pass) may.over

pub loop-cell-preserved : goal.loop-cell-preserved
loop-cell-preserved g c =
    let inv = c.loop-cell.invariant in
    let is : c.loop-cell.cells.items ≡ c.pop.new.self.items ++ c.in-Some.cell ∷ [] = search rules in
    let less : vec_len c.pop.new.self + 1 ≡ vec_len c.loop-cell.cells = search rules in
    let logs_more : vec_len c.push_reserved.new.self ≡ vec_len c.loop-cell.logs + 1 = search rules in
    let banks_more : vec_len c.push_reserved-in-Some.new.self ≡ vec_len c.loop-cell.growing + 1 = search rules in
    let told_more : vec_len c.push_reserved-in-Some-2.new.self ≡ vec_len c.loop-cell.told + 1 = search rules in
    let told_is : c.push_reserved-in-Some-2.new.self.items ≡ c.loop-cell.told.items
    ++ c.in-Some.cell.outcomes.told ∷ [] = c.push_reserved-in-Some-2.ensures.items
    ∙ ap (λ o. c.loop-cell.told.items ++ o ∷ []) c.into_outcomes.ensures in
    let ends_more : length c.push.new.self.items ≡ length c.loop-cell.ends.items + 1 = search rules in
    let desks_more : vec_len c.push_reserved-in-Some-3.new.self ≡ vec_len c.loop-cell.desks + 1 = search rules in
    let timed = c.end.ensures.keeper in
    record {
      of = c.end.ensures.of;
      keeper = ap (λ (v : View). v.role) timed.1.is ∙ inv.keeper;
      few = omega (arith, less, inv.few);
      logs_len = omega (arith, less, logs_more, inv.logs_len);
      banks_len = omega (arith, less, banks_more, inv.banks_len);
      ends_len = omega (arith, less, ends_more, inv.ends_len);
      told_len = omega (arith, less, told_more, inv.told_len);
      desks_len = omega (arith, less, desks_more, inv.desks_len);
      desks_room = search rules;
      logs_room = search rules;
      banks_room = search rules;
      told_room = search rules;
      cells = (all_push (MayEnd c.args.engine.now) c.pop.new.self.items c.in-Some.cell
          (subst (AllByRecursion (MayEnd c.args.engine.now)) is inv.cells)).0;
      ended = λ tries round was logs_was banks_was stands ran.
          ends_next_is g.D.Disk.tells g.D.Disk.clock g.D.Disk.image_at g.D.Disk.faults tries round c.args.engine.now was
          (view c.args.keeper.now) (view c.loop-cell.keeper) (view c.end.new.keeper) timed.0
          (8 - vec_len c.loop-cell.cells)
          (8 - vec_len c.pop.new.self) c.loop-cell.cells.items c.pop.new.self.items c.in-Some.cell logs_was
          c.loop-cell.logs.items c.push_reserved.new.self.items banks_was c.loop-cell.growing.items
          c.push_reserved-in-Some.new.self.items c.loop-cell.told.items c.push_reserved-in-Some-2.new.self.items
          c.loop-cell.ends.items c.push.new.self.items is (omega (arith, less, inv.few))
          c.push_reserved.ensures.items c.push_reserved-in-Some.ensures.items c.push.ensures.items told_is
          (inv.ended tries round was logs_was banks_was stands ran) timed.1 c.end.ensures.seen.0 c.end.ensures.seen.1;
    }

pub returns-clause-ended : goal.returns-clause-ended
returns-clause-ended g c = λ tries round was logs_was banks_was stands ran.
    let inv = c.loop-cell.invariant in
    let none : c.loop-cell.cells.items ≡ [] = search rules in
    let len : vec_len c.loop-cell.cells ≡ 0 = search rules in
    ended_looked g.D.Disk.tells g.D.Disk.clock g.D.Disk.image_at g.D.Disk.faults tries round was
    (view c.args.keeper.now) (view c.loop-cell.keeper) (view c.look_at_pages.new.pass) logs_was c.loop-cell.logs.items
    banks_was
    c.loop-cell.growing.items c.from_vec.result c.loop-cell.ends.items c.look_at_pages.result
    c.look_at_pages.ensures.looks.is
    (subst (λ l. EndedSoFar g.D.Disk.tells g.D.Disk.clock g.D.Disk.image_at g.D.Disk.faults tries round was
    (view c.args.keeper.now) (view c.loop-cell.keeper) 8 logs_was c.loop-cell.logs.items banks_was
    c.loop-cell.growing.items l
    c.loop-cell.ends.items) (sym c.from_vec.ensures)
    (ends_all_is g.D.Disk.tells g.D.Disk.clock g.D.Disk.image_at g.D.Disk.faults tries round c.args.engine.now was
    (view c.args.keeper.now) (view c.loop-cell.keeper) (8 - vec_len c.loop-cell.cells) c.loop-cell.cells.items logs_was
    c.loop-cell.logs.items banks_was c.loop-cell.growing.items c.loop-cell.told.items c.loop-cell.ends.items
    (omega (arith, len)) none (inv.ended tries round was logs_was banks_was stands ran)))

pub returns-clause-keeper : goal.returns-clause-keeper
returns-clause-keeper g c = ap (λ (v : View). v.role) c.look_at_pages.ensures.looks.is ∙ c.loop-cell.invariant.keeper

pub returns-clause-behind : goal.returns-clause-behind
returns-clause-behind g c =
    owns_behind (view c.loop-cell.keeper) (view c.look_at_pages.new.pass) c.look_at_pages.result
    c.look_at_pages.ensures.looks

pub returns-clause-desks : goal.returns-clause-desks
returns-clause-desks g c =
    let len : vec_len c.loop-cell.cells ≡ 0 = search rules in
    omega (arith, c.loop-cell.invariant.desks_len, len)
