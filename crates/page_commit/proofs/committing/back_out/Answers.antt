use Rattle.tx_sets.specs.Entries.{writes_at}
use Rattle.std.proofs.Common.{◌≡◌, false, ℕ, List, sym, ap, subst, length, take, arith}
use Rattle.engine_pages.specs.Passes.{view}
use Rattle.page_commit.specs.Places.{ground}
use Rattle.page_commit.specs.Live.{IsWriteOf}
use Rattle.page_commit.specs.Steps.{HasLocks, HasGivenUp}
use Rattle.page_commit.proofs.LockLaws.{take_count, held_within}
use Rattle.page_commit.proofs.Lists.{all_some, ascending_take}
use Rattle.page_commit.proofs.committing.back_out.Goals as goal

pub give_up-requires-clause-places : goal.give_up-requires-clause-places
give_up-requires-clause-places c =
    all_some (IsWriteOf (ground (view c.args.pass.now))) c.args.writes.now (length c.as_slice-held.result.now)
    c.requires.places

pub give_up-requires-clause-ascending : goal.give_up-requires-clause-ascending
give_up-requires-clause-ascending c = ascending_take c.args.writes.now (length c.as_slice-held.result.now)
    c.requires.ascending

pub give_up-requires-clause-locked : goal.give_up-requires-clause-locked
give_up-requires-clause-locked c =
    subst (λ (l : List ℕ). HasLocks (take (length l) c.args.writes.now) l (view c.args.pass.now))
    (sym c.as_slice-held.ensures)
    c.requires.locked

pub returns-clause-gives_up : goal.returns-clause-gives_up
returns-clause-gives_up c =
    subst (λ (l : List ℕ). HasGivenUp (take (length l) c.args.writes.now) c.give_up.result (view c.args.pass.now)
    (view c.give_up.new.pass))
    c.as_slice-held.ensures c.give_up.ensures.gives_up

pub returns-clause-steps : goal.returns-clause-steps
returns-clause-steps c =
    let count = take_count c.args.writes.now (length c.as_slice-held.result.now)
    (held_within c.args.writes.now c.args.found.now c.as_slice-held.result.now c.as_slice-held.ensures
    c.requires.within) in
    let same = ap (λ (l : List ℕ). length l) c.as_slice-held.ensures in
    let steps = c.give_up.ensures.steps in omega (arith, count, same, steps)

pub give_up-requires-clause-apart : goal.give_up-requires-clause-apart
give_up-requires-clause-apart c =
    subst (λ (l : List ℕ). writes_at c.args.conflict.word (take (length l) c.args.writes.now) ≡ false)
    (sym c.as_slice-held.ensures)
    c.requires.apart
