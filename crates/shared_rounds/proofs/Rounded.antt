-- What a round comes to.
use Rattle.std.proofs.Common.{◌≡◌, ◌∙◌, sym, ap, refl, subst, ℕ, ◌+◌, ◌<◌, ◌≤◌, Bool, List, [], ◌∷◌}
use Rattle.std.proofs.Common.{◌++◌, length, take, drop, arith}
use Rattle.std.proofs.Common.{Option}
use Rattle.std.specs.Prelude.{get_or, map, slice_index_or}
use Rattle.commit_core.specs.declared.seat.Seat.{Seat}
use Rattle.engine_pages.specs.Views.{IsResting, bare_seat}
use Rattle.engine_seats.specs.Cuts.{HasSeen}
use Rattle.resident_pages.specs.Fills.{AreClaimed}
use Rattle.worker_cells.specs.InARow.{seen_then}
use Rattle.serial_model.specs.Numbers.{IsNumber}
use Rattle.serial_model.specs.declared.number.Number.{Number}
use Rattle.script_grammar.specs.Script.{Round}
use Rattle.engine_pages.specs.Passes.{IsPassOf, Pass, view}
use Rattle.engine_seats.specs.Counts.{HasAudited}
use Rattle.engine_pages.specs.declared.engine.Engine.{Engine}
use Rattle.engine_pages.specs.declared.layout.Layout.{Layout}
use Rattle.engine_pages.specs.declared.view.View.{View}
use Rattle.serial_model.specs.declared.decl.Decl.{Decl}
use Rattle.tx_script.specs.declared.outcome.Outcome.{Outcome}
use Rattle.worker_cells.specs.declared.cell.Cell.{Cell}
use Rattle.worker_cells.specs.declared.cell.LogEnd.{LogEnd}
use Rattle.worker_logs.specs.Logs.{LogState}
use Rattle.shared_rounds.specs.Ended.{EndedSoFar, OwnsBehind}
use Rattle.shared_rounds.specs.Lines.{LinesCome}
use Rattle.shared_rounds.specs.Marks.{AreMarksBehind}
use Rattle.shared_rounds.specs.Parts.{IsClockOf, clock_number}
use Rattle.shared_rounds.specs.Beside.{Went}
use Rattle.shared_rounds.specs.First.{SetsMarks}
use Rattle.shared_rounds.specs.Shares.{Share}
use Rattle.shared_rounds.specs.Seated.{AreRan, AreSeated, HasRun, backward}
use Rattle.engine_pages.specs.declared.view.Dropped.{Dropped}
use Rattle.lists.specs.Fronts.{IsFront}
use Rattle.shared_rounds.specs.Seating.{CanSeat, StandsFor, seats_from, with_made}
use Rattle.shared_rounds.specs.SharedState.{AreKept, HoldsNothing, IsKept, marks_of}
use Rattle.shared_rounds.specs.declared.ends.WorkersRan.{WorkersRan}
use Rattle.shared_rounds.proofs.Backward.{AreBegun, cells_ran}
use Rattle.shared_rounds.proofs.Counted.{now_layout}
use Rattle.shared_rounds.proofs.Joined.{shares_of}
use Rattle.shared_rounds.proofs.Claimed.{claimed_still, same_pages}
use Rattle.shared_rounds.proofs.Renewed.{clock_now, clock_now_draws, clock_stands, kept_now}
use Rattle.shared_rounds.proofs.Whole.{marks_so, round_is, stands, workers_run}

-- between two rounds workers may be seated
pub may_seat : (v : View) → IsKept v → CanSeat v
may_seat v kept = record {
  role = kept.role;
  made = kept.made;
  locks = kept.rests.locks;
  decls = kept.decls;
  draws = kept.first.some_draw;
  parked = kept.parked;
}

-- the clock as it is kept
pub clock_so : (v : View) (clock : Number) → IsKept v → clock.epoch ≡ v.epoch
    → clock.draw ≡ v.layout.first.draw + v.draws → IsClockOf clock v
clock_so v clock kept epoch draw = record { epoch = epoch; draw = omega (arith, draw, kept.draws) }

-- behind what is done beside the lines
pub stand_for : (was first seated now : View) → SetsMarks was first → seated ≡ with_made (seats_from 8 0) first
    → Went seated now → StandsFor was now
stand_for was first seated now sets is went = record {
  role = went.role ∙ ap (λ (v : View). v.role) is ∙ sets.role;
  made = went.made ∙ ap (λ (v : View). v.made) is;
  layout = went.layout ∙ ap (λ (v : View). v.layout) is ∙ sets.layout;
  epoch = omega (arith, went.epoch, ap (λ (v : View). v.epoch) is, sets.epoch);
  seen = let since = subst (λ (v : View). HasSeen v now) is went.seen in
      seen_then was first now sets.seen (record { history = since.history; decided = since.decided });
  seat = went.seat ∙ ap (λ (v : View). v.seat) is ∙ sets.seat;
  mine = went.mine ∙ ap (λ (v : View). v.mine) is ∙ sets.mine;
  draws = went.draws ∙ ap (λ (v : View). v.draws) is ∙ sets.draws;
  refused = went.refused ∙ ap (λ (v : View). v.refused) is ∙ sets.refused;
  drops = subst (λ (l : List Dropped). IsFront l now.drops) (ap (λ (v : View). v.drops) is ∙ sets.drops) went.drops;
  touched = λ same.
      went.touched (same ∙ sym (ap (λ (v : View). v.drops) is ∙ sets.drops)) ∙ ap (λ (v : View). v.touched) is;
  blamed = went.blamed ∙ ap (λ (v : View). v.blamed) is;
  parked_are = ap (λ (l : List Seat). length l) (went.parked ∙ ap (λ (v : View). v.parked) is) ∙ sets.parked_are;
  parked = λ worker few. subst (λ (l : List Seat). IsResting (get_or l worker bare_seat))
      (sym (went.parked ∙ ap (λ (v : View). v.parked) is)) (sets.parked worker few);
}

module _ {D : Type 0} (tells : D → Option (List ℕ)) (clock : D → ℕ) (image_at : D → ℕ → List ℕ → Type 0)
    (faults : D → ℕ) where
  -- the engine is kept
  pub round_kept : (tries : ℕ) (round : Round) (words : Engine) (was behind ended : View) (now : Pass)
      (decls : List Decl)
      (logs_was logs : List LogState) (banks_was banks : List D) (outcomes : List (List Outcome)) (ends : List LogEnd)
      → EndedSoFar tells clock image_at faults tries round was behind ended 8 logs_was logs banks_was banks
      outcomes ends
      → IsKept was → (word count : ℕ) → HasAudited ended word count (view now) → IsPassOf words now
      → decls ≡ was.layout.decls → (first : Number) → IsNumber first → first.epoch ≡ was.epoch → OwnsBehind ended
      → behind.layout ≡ was.layout → AreClaimed behind → HoldsNothing behind
      → AreKept words now decls (clock_number word)
  round_kept tries round words was behind ended now decls logs_was logs banks_was banks outcomes ends so kept word count
      audited of decls_are first number epoch owns laid claimed nothing =
      let layout = so.layout ∙ sym laid in
      let r = round_is tells clock image_at faults tries round was behind ended (view now) logs_was logs banks_was banks
      outcomes ends so kept word count audited in record {
        of = of;
        kept = kept_now tries was (view now) so.parts r kept so.seat so.parked_are so.parked
            (claimed_still behind ended claimed layout so.fills
            (same_pages behind ended claimed owns layout so.fills so.pages)) (so.free nothing);
        decls_are = decls_are ∙ sym (ap (λ (l : Layout). l.decls) (now_layout tries was (view now) so.parts r));
        number = clock_now tries was (view now) so.parts r first kept number epoch;
        epoch = clock_stands tries was (view now) so.parts r;
        draw = clock_now_draws tries was (view now) so.parts r;
      }

  -- and the lines have come to this
  pub round_comes : (tries : ℕ) (round : Round) (was behind ended now : View) (logs_was logs : List LogState)
      (banks_was banks : List D) (ran : WorkersRan)
      → (so : EndedSoFar tells clock image_at faults tries round was behind ended 8 logs_was logs banks_was banks
      ran.outcomes ran.ends.items)
      → IsKept was → (word count : ℕ) → HasAudited ended word count now → (first : Number) → IsClockOf first was
      → (done : Bool) → 1 ≤ tries
      → LinesCome tells clock image_at faults tries round (stands was first done) (stands now (clock_number word) done)
      (map (λ (share : Share). share.marks) (shares_of so.parts))
      (map (λ (share : Share). share.readied) (shares_of so.parts)) logs_was logs banks_was banks ran
  round_comes tries round was behind ended now logs_was logs banks_was banks ran so kept word count audited first at
      done some =
      record {
        come = workers_run tells clock image_at faults tries round was behind ended now logs_was logs banks_was banks
            ran.outcomes ran.ends.items so kept word count audited first at done some;
      }

  -- and the marks on the words are these
  pub round_marks : (tries : ℕ) (round : Round) (was behind ended now : View) (logs_was logs : List LogState)
      (banks_was banks : List D) (ran : WorkersRan)
      → EndedSoFar tells clock image_at faults tries round was behind ended 8 logs_was logs banks_was banks ran.outcomes
      ran.ends.items
      → IsKept was → (word count : ℕ) → HasAudited ended word count now
      → AreMarksBehind round logs (marks_of now.parked)
  round_marks tries round was behind ended now logs_was logs banks_was banks ran so kept word count audited =
      marks_so tells clock image_at faults tries round was behind ended now logs_was logs banks_was banks ran.outcomes
      ran.ends.items so kept word count audited

-- what a slice that was lent gives back
pub given_back : {X : Type 0} (new old : List X) → length new ≡ length old
    → take (length old) (new ++ drop (length new) old) ≡ new
given_back [] [] same = refl
given_back [] (y ∷ old) same = absurd (omega (arith, same))
given_back (x ∷ new) [] same = absurd (omega (arith, same))
given_back (x ∷ new) (y ∷ old) same = ap (λ l. x ∷ l) (given_back new old (omega (arith, same)))

-- what threads made of cells that were lent to them as a slice
module _ {D : Type 0} (tells : D → Option (List ℕ)) (clock : D → ℕ) (image_at : D → ℕ → List ℕ → Type 0)
    (faults : D → ℕ) where
  pub lent_ran : (tries : ℕ) (round : Round) (words : Engine) (was mid : View) (counts spaces : List ℕ)
      (olds news lent : List (Cell D)) (len : ℕ) (logs : List LogState) (banks : List D)
      → AreBegun round was mid 0 logs
      → length news ≡ length olds → len ≡ length olds → lent ≡ olds
      → AreSeated tells words mid counts spaces 0 (backward olds) logs banks
      → ((k : ℕ) (d : Cell D) → k < length lent → HasRun tells clock image_at faults tries round words
      (slice_index_or lent k d) (slice_index_or news k d))
      → AreRan tells clock image_at faults tries round words was 0
      (backward (take len (news ++ drop (length news) olds))) logs banks
  lent_ran tries round words was mid counts spaces olds news lent len logs banks begun same count is seated each =
      subst (λ l. AreRan tells clock image_at faults tries round words was 0 (backward l) logs banks)
      (sym (ap (λ n. take n (news ++ drop (length news) olds)) count ∙ given_back news olds same))
      (cells_ran tells clock image_at faults tries round words was mid counts spaces olds news logs banks begun same seated
      (subst (λ (l : List (Cell D)). (k : ℕ) (d : Cell D) → k < length l
      → HasRun tells clock image_at faults tries round
      words (slice_index_or l k d) (slice_index_or news k d)) is each))
