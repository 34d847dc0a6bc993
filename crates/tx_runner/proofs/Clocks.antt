-- The clock, as it was loaded, and marks.
use Rattle.std.proofs.Common.{arith, ◌≡◌, ℕ, ◌+◌, ◌/◌, ◌^◌, ◌≤◌, ◌<◌, List, [], ◌∷◌, ◌++◌, Option, Some, None, false}
use Rattle.std.proofs.Common.{inl, inr, refl, sym}
use Rattle.std.proofs.Common.{ap, ◌∙◌, subst}
use Rattle.serial_model.specs.declared.number.Number.{Number}
use Rattle.serial_model.specs.Numbers.{IsBelow, last_epoch}
use Rattle.wire_form.specs.Words.{number_word}
use Rattle.commit_core.specs.declared.seat.Mark.{Mark}
use Rattle.commit_core.specs.CoreState.{mark_of, is_trying}
use Rattle.engine_pages.specs.declared.view.Role.TheVariants.{Keeper}
use Rattle.engine_pages.specs.declared.view.View.{View}
use Rattle.engine_pages.specs.Words.{IsSmall}
use Rattle.engine_seats.specs.Clock.{advanced, marked}
use Rattle.engine_pages.specs.Times.{past_at, HasTimed}
use Rattle.page_commit.specs.Live.{IsOver}
use Rattle.tx_runner.specs.Epochs.{HasAdvanced, HasSeenEpoch, IsLastEpoch, IsMarkedUpTo}

-- the clock's word has the epoch of the number that it is
word_epoch : (n : Number) (word : ℕ) → IsSmall n → number_word n ≡ word → word / 2 ^ 40 ≡ n.epoch
word_epoch n word small is = let draw = small.draw in omega (arith, draw, is)

-- a number below another one is of no later epoch
epoch_below : (a b : Number) → IsBelow a b → a.epoch ≤ b.epoch
epoch_below a b (inl earlier) = omega (arith, earlier)
epoch_below a b (inr same) = omega (arith, same.0)

-- the clock was loaded, in this epoch
pub seen_epoch : (v w : View) (clock epoch : ℕ) → HasTimed v clock w → epoch ≡ clock / 2 ^ 40 → HasSeenEpoch epoch v w
seen_epoch v w clock epoch a is =
    let word = word_epoch a.number clock a.small a.found in record {
      now = ap (λ (x : View). x.epoch) a.is ∙ sym is;
      rises = omega (arith, a.epoch, is);
      few = omega (arith, is, word, a.small.epoch);
      keepers = λ keeper. is ∙ a.keepers keeper;
      marked = omega (arith, a.marked, is);
      drawn = λ attempt has.
          let most = epoch_below attempt.number a.number (a.below attempt has) in omega (arith, most, word, is);
      steps = ap (λ (x : View). x.steps) a.is;
      looked = (clock, ap (λ (x : View). x.last) a.is, sym is);
      seen = record { history = a.history; decided = a.decided };
      layout = ap (λ (x : View). x.layout) a.is;
      role = ap (λ (x : View). x.role) a.is;
      made = ap (λ (x : View). x.made) a.is;
      past = ap (λ (x : View). x.past) a.is ∙ ap (λ e. past_at v.role v.made v.past e) (sym is);
      parked = ap (λ (x : View). x.parked) a.is;
      mine = ap (λ (x : View). x.mine) a.is;
      draws = ap (λ (x : View). x.draws) a.is;
      due = ap (λ (x : View). x.due) a.is;
      seat = ap (λ (x : View). x.seat) a.is;
      took = ap (λ (x : View). x.took) a.is;
      refused = ap (λ (x : View). x.refused) a.is;
      touched = ap (λ (x : View). x.touched) a.is;
      blamed = ap (λ (x : View). x.blamed) a.is;
      met = ap (λ (x : View). x.met) a.is;
      grip = ap (λ (x : View). x.grip) a.is;
      ways = ap (λ (x : View). x.ways) a.is;
      drafts = ap (λ (x : View). x.drafts) a.is;
      copies = ap (λ (x : View). x.copies) a.is;
      blanks = ap (λ (x : View). x.blanks) a.is;
      leaves = ap (λ (x : View). x.new_leaves) a.is;
      inners = ap (λ (x : View). x.new_inners) a.is;
      heads = ap (λ (x : View). x.heads) a.is;
      known = ap (λ (x : View). x.known) a.is;
      branches = ap (λ (x : View). x.inners) a.is;
      pages = ap (λ (x : View). x.pages) a.is;
      fills = ap (λ (x : View). x.fills) a.is;
      shuts = ap (λ (x : View). x.shuts) a.is;
      leads = ap (λ (x : View). x.leads) a.is;
      drops = ap (λ (x : View). x.drops) a.is;
    }

-- the keeper's clock is in the epoch that it knows
pub keeper_epoch : (v w : View) (clock epoch : ℕ) → v.role ≡ Keeper → HasTimed v clock w → epoch ≡ clock / 2 ^ 40
    → epoch ≡ v.epoch
keeper_epoch v w clock epoch keeper a is = is ∙ a.keepers keeper

-- and was moved on
pub advanced_epoch : (v u w : View) (clock epoch : ℕ) → v.role ≡ Keeper → HasTimed v clock u → epoch ≡ clock / 2 ^ 40
    → epoch < last_epoch → w ≡ advanced u → HasAdvanced (epoch + 1) v w
advanced_epoch v u w clock epoch keeper a is low next =
    let same = keeper_epoch v u clock epoch keeper a is in record {
      loaded = u;
      seen = subst (λ e. HasSeenEpoch e v u) same (seen_epoch v u clock epoch a is);
      low = omega (arith, same, low);
      next = ap (λ e. e + 1) same;
      is = next;
    }

-- or is in the last epoch
pub last_one : (v w : View) (clock epoch : ℕ) → HasTimed v clock w → epoch ≡ clock / 2 ^ 40 → last_epoch ≤ epoch
    → IsLastEpoch clock v w
last_one v w clock epoch a is high =
    let word = word_epoch a.number clock a.small a.found in record {
      timed = a;
      last = omega (arith, is, high, word, a.small.epoch);
    }

-- ---- marks

-- a pass without a transaction is trying nothing
pub not_trying : (v : View) → IsOver v → is_trying v.seat.stage ≡ false
not_trying v over = ap is_trying over.seat.stage

-- and has none once it has set a mark
pub marked_over : (mark : Mark) (v w : View) → IsOver v → w ≡ marked mark v → IsOver w
marked_over mark v w over is = subst IsOver (sym is) record {
  decls = over.decls;
  worker = over.worker;
  due = over.due;
  took = over.took;
  seat = record { kept = over.seat.kept; locks = over.seat.locks; stage = over.seat.stage };
  agree = over.agree;
  trees = record {
    known = over.trees.known;
    inners = over.trees.inners;
    apart = over.trees.apart;
    spans = over.trees.spans;
  };
  holds = record {
    holds = over.holds.holds;
    within = over.holds.within;
    made = over.holds.made;
    taken = over.holds.taken;
    drafts = over.holds.drafts;
    copies = over.holds.copies;
    blanks = over.holds.blanks;
    leaves = over.holds.leaves;
    inners = over.holds.inners;
    heads = over.holds.heads;
  };
}

-- the last mark counts
mark_of_last : (marks : List Mark) (mark : Mark) (low : Option ℕ)
    → Rattle.std.specs.Prelude.fold (λ (_ : Option ℕ) (m : Mark). m.epoch) low (marks ++ mark ∷ []) ≡ mark.epoch
mark_of_last [] mark low = refl
mark_of_last (m ∷ marks) mark low = mark_of_last marks mark m.epoch

pub marked_up : (clock epoch length : ℕ) (v w : View)
    → w ≡ marked (record { epoch = Some epoch; length = length }) v → clock ≤ epoch + 1 → IsMarkedUpTo clock w
marked_up clock epoch length v w is late = record {
  epoch = epoch;
  mark = ap (λ (x : View). mark_of x.seat.marks) is
      ∙ mark_of_last v.seat.marks (record { epoch = Some epoch; length = length }) None;
  late = late;
}
