-- Behind the last seat the keeper looks how many pages are published.
use Rattle.std.proofs.Common.{◌≡◌, refl, sym, subst, ℕ, List, Option}
use Rattle.lists.specs.Fronts.{front_refl}
use Rattle.script_grammar.specs.Script.{Round}
use Rattle.engine_pages.specs.Layout.{published_at}
use Rattle.engine_pages.specs.Steps.{glanced}
use Rattle.engine_pages.specs.declared.view.View.{View}
use Rattle.tx_script.specs.declared.outcome.Outcome.{Outcome}
use Rattle.worker_cells.specs.declared.cell.LogEnd.{LogEnd}
use Rattle.worker_logs.specs.Logs.{LogState}
use Rattle.shared_rounds.specs.Ended.{EndedSoFar}
use Rattle.shared_rounds.proofs.Claimed.{free_still}
use Rattle.shared_rounds.proofs.Shared.{parts_later}

module _ {D : Type 0} (tells : D → Option (List ℕ)) (clock : D → ℕ) (image_at : D → ℕ → List ℕ → Type 0)
    (faults : D → ℕ) (tries : ℕ) (round : Round) (was behind mid now : View) (logs_was logs : List LogState)
    (banks_was banks : List D) (outcomes : List (List Outcome)) (ends : List LogEnd) where
  -- the load changes nothing of what the seats left
  pub ended_looked : (count : ℕ) → now ≡ glanced published_at count mid
      → EndedSoFar tells clock image_at faults tries round was behind mid 8 logs_was logs banks_was banks outcomes ends
      → EndedSoFar tells clock image_at faults tries round was behind now 8 logs_was logs banks_was banks outcomes ends
  ended_looked count is so =
      subst (λ (v : View). EndedSoFar tells clock image_at faults tries round was behind v 8 logs_was logs
      banks_was banks
      outcomes ends) (sym is) (record {
        parts = so.parts;
        many = so.many;
        are = parts_later tries was mid (glanced published_at count mid) 0 so.parts
            (record { history = front_refl mid.history; decided = front_refl mid.decided }) so.are;
        seen = record { history = so.seen.history; decided = so.seen.decided };
        role = so.role;
        seat = so.seat;
        layout = so.layout;
        pages = so.pages;
        fills = so.fills;
        low = so.low;
        epoch = so.epoch;
        met = so.met;
        made = so.made;
        gathers = so.gathers;
        refused = so.refused;
        draws = so.draws;
        drops = so.drops;
        dropped = so.dropped;
        touched = so.touched;
        free = λ nothing. free_still mid (glanced published_at count mid) refl refl refl refl refl (so.free nothing);
        blamed = so.blamed;
        parked_are = so.parked_are;
        parked = so.parked;
        taken = so.taken;
        left = so.left;
        told = so.told;
        many_outcomes = so.many_outcomes;
        calls = so.calls;
      })
