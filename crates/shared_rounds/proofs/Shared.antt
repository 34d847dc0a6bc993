-- The shares of a round's workers.
use Rattle.std.proofs.Common.{◌≡◌, ◌∙◌, sym, ap, subst, refl, ℕ, zero, suc, ◌+◌, ◌%◌, ◌^◌, ◌≤◌, Bool, List, [], ◌∷◌}
use Rattle.std.proofs.Common.{◌++◌, length, arith, Some}
use Rattle.std.specs.Prelude.{slice_get}
use Rattle.std.proofs.lemmas.Option.{same_Some}
use Rattle.std.specs.List.{AllByRecursion}
use Rattle.lists.specs.Fronts.{front_length}
use Rattle.serial_model.specs.declared.number.Number.{Number}
use Rattle.serial_model.specs.declared.op.Op.{Op}
use Rattle.serial_model.specs.State.{State}
use Rattle.commit_core.specs.Keys.{content_at}
use Rattle.serial_bridge.specs.Bridge.{Agrees, after_attempts}
use Rattle.engine_seats.specs.Cuts.{HasSeen}
use Rattle.engine_pages.specs.declared.layout.Layout.{Layout}
use Rattle.engine_pages.specs.declared.view.View.{View}
use Rattle.tx_script.specs.Readied.{AreReadied}
use Rattle.worker_cells.specs.Cells.{epochs_of}
use Rattle.worker_cells.specs.Rows.{LineRan, lines_of, logged_of, outcomes_of, readied_of, unrun}
use Rattle.shared_rounds.specs.Contents.{after_commits}
use Rattle.shared_rounds.specs.Parts.{AreParts, IsClockOf, IsPart, IsRound, Part, clock_number, share_of}
use Rattle.shared_rounds.specs.Shares.{BeginsAt, IsShare, RunsShares, Share}
use Rattle.tx_script.specs.Causes.{IsTryCause}
use Rattle.shared_rounds.proofs.Comes.{row_comes, row_each, row_last}
use Rattle.shared_rounds.proofs.WordsTold.{words_told}
use Rattle.shared_rounds.proofs.Counted.{split}
use Rattle.shared_rounds.proofs.Joined.{shares_of}
use Rattle.shared_rounds.proofs.Made.{seen_then}
use Rattle.shared_rounds.proofs.Draws.{parts_drawn}
use Rattle.shared_rounds.proofs.Meets.{all_met}
use Rattle.shared_rounds.proofs.Numbers.{ended_draws, later_epoch}
use Rattle.shared_rounds.proofs.Renewed.{clock_draws}
use Rattle.shared_rounds.proofs.Ordered.{ordered_so, standing_at}
use Rattle.shared_rounds.proofs.TriesCaused.{row_caused}

no_lines : (ran : List LineRan) (left : List (List Op)) → lines_of ran ++ left ≡ [] → logged_of ran ≡ []
no_lines [] left none = refl
no_lines (r ∷ ran) left none = absurd cc

part_share : (epoch first tries last : ℕ) (was ended : View) (worker : ℕ) (p : Part) → was.epoch ≡ epoch → 1 ≤ tries
    → first ≤ was.layout.first.draw + length was.history → was.layout.first.draw + length ended.history ≤ last
    → IsPart tries was ended worker p
    → IsShare was.layout.decls epoch first last tries (share_of p)
part_share epoch first tries last was ended worker p same some from below part =
    let start : p.from.layout.first.draw ≡ was.layout.first.draw =
    ap (λ (l : Layout). l.first.draw) part.seated.layout in
    let begun = front_length was.history p.from.history part.seated.seen.history in
    let long = front_length p.to.history ended.history part.seen.history in record {
      one_each = row_each p.ran p.left;
      come = row_comes first tries last p.refusal p.from p.ran p.left p.to some (omega (arith, start, begun, from))
          (omega (arith, start, long, below)) part.all part.row;
      unrun_last = row_last tries p.from p.ran p.left p.to part.row;
      lines_are = part.lines_are;
      none = no_lines p.ran p.left;
      rise = part.rise;
      readied = subst (λ e. AreReadied e 0 (epochs_of p.marks) (readied_of p.from p.ran)
          (outcomes_of p.ran ++ unrun p.left)) same part.readied;
    }

-- the first marks of the shares
pub shares_begin : (tries : ℕ) (was ended : View) (worker : ℕ) (parts : List Part)
    → AreParts tries was ended worker parts → (i : ℕ) (share : Share) → slice_get (shares_of parts) i ≡ Some share
    → BeginsAt was.epoch share.lines share.marks
shares_begin tries was ended worker [] are i share at = absurd cc
shares_begin tries was ended worker (p ∷ parts) are zero share at =
    subst (λ (q : Share). BeginsAt was.epoch q.lines q.marks) (same_Some (share_of p) share at) are.0.begins
shares_begin tries was ended worker (p ∷ parts) are (suc i) share at =
    shares_begin tries was ended (worker + 1) parts are.1 i share at

parts_share : (epoch first tries last : ℕ) (was ended : View) (worker : ℕ) (parts : List Part) → was.epoch ≡ epoch
    → 1 ≤ tries → first ≤ was.layout.first.draw + length was.history
    → was.layout.first.draw + length ended.history ≤ last
    → AreParts tries was ended worker parts
    → AllByRecursion (IsShare was.layout.decls epoch first last tries) (shares_of parts)
parts_share epoch first tries last was ended worker [] same some from below are = tt
parts_share epoch first tries last was ended worker (p ∷ parts) same some from below are = (
  part_share epoch first tries last was ended worker p same some from below are.0,
  parts_share epoch first tries last was ended (worker + 1) parts same some from below are.1,
)

share_count : (parts : List Part) → length (shares_of parts) ≡ length parts
share_count [] = refl
share_count (p ∷ parts) = ap suc (share_count parts)

-- each try that was refused has its cause
parts_caused : (tries : ℕ) (was ended : View) (worker : ℕ) (parts : List Part) → AreParts tries was ended worker parts
    → AllByRecursion (λ (share : Share).
    AllByRecursion (AllByRecursion (IsTryCause was.layout.slots)) share.tries_refused) (shares_of parts)
parts_caused tries was ended worker [] are = tt
parts_caused tries was ended worker (p ∷ parts) are = (
  row_caused was.layout.slots tries p.from p.ran p.left p.to
      (ap (λ (l : Layout). l.slots) are.0.seated.layout) are.0.row,
  parts_caused tries was ended (worker + 1) parts are.1,
)

-- The lines of a round on seats are run from the standing that the engine had to the one that the count behind them
-- tells.
pub round_runs : (tries : ℕ) (was now : View) (parts : List Part) (r : IsRound tries was now parts) (state : State)
    (clock : Number) (done : Bool) → 1 ≤ tries
    → Agrees was.layout.decls state (after_attempts (content_at was.layout.opening) was.mine) → IsClockOf clock was
    → was.draws ≡ length was.history
    → RunsShares tries (standing_at was state clock was.mine was.refused was.met was.pages was.drops done)
    (standing_at was (after_commits state (split tries was now parts r).new) (clock_number r.clock) now.mine
    now.refused now.met now.pages now.drops done) (shares_of parts)
round_runs tries was now parts r state clock done some agrees at drew =
    let ends = ended_draws tries was now parts r in
    let begins = at.draw in
    let long = front_length was.history r.ended.history r.seen.history in record {
      workers = share_count parts ∙ r.eight;
      only = refl;
      epoch = let later = later_epoch tries was now parts r in omega (arith, later, at.epoch);
      draw =
          let clock_is = clock_draws tries was now parts r in
          let drawn = r.draws in
          omega (arith, clock_is, drawn, begins, drew, parts_drawn parts);
      met = all_met tries was now parts r;
      caused = parts_caused tries was r.ended 0 parts r.parts_are;
      words = record {
        layout = was.layout;
        decls_are = refl;
        slots_are = refl;
        each = words_told tries was r.ended 0 parts r.parts_are;
      };
      refused = ap (λ (v : View). v.refused) r.audited.2.is ∙ ap (λ (v : View). v.refused) r.audited.1.is ∙ r.refused;
      each = parts_share clock.epoch clock.draw tries (r.clock % 2 ^ 40) was r.ended 0 parts (sym at.epoch) some
          (omega (arith, begins)) ends r.parts_are;
      ordered = λ index. ordered_so tries was now parts r index state clock was.mine now.mine was.refused
          now.refused was.met now.met was.pages now.pages was.drops now.drops done agrees at;
    }

-- ---- part by part

-- the parts as the keeper has seen more
pub parts_later : (tries : ℕ) (was ended later : View) (worker : ℕ) (parts : List Part) → HasSeen ended later
    → AreParts tries was ended worker parts → AreParts tries was later worker parts
parts_later tries was ended later worker [] seen are = tt
parts_later tries was ended later worker (p ∷ parts) seen are = (
  record {
    seated = are.0.seated;
    row = are.0.row;
    since = are.0.since;
    lines_are = are.0.lines_are;
    all = are.0.all;
    seen = seen_then p.to ended later are.0.seen seen;
    words = are.0.words;
    small = are.0.small;
    begins = are.0.begins;
    rise = are.0.rise;
    readied = are.0.readied;
  },
  parts_later tries was ended later (worker + 1) parts seen are.1,
)

-- one more of them
pub parts_push : (tries : ℕ) (was ended : View) (worker next : ℕ) (parts : List Part) (p : Part)
    → next ≡ worker + length parts → AreParts tries was ended worker parts → IsPart tries was ended next p
    → AreParts tries was ended worker (parts ++ p ∷ [])
parts_push tries was ended worker next [] p is are part =
    let same : next ≡ worker = omega (arith, is) in
    (subst (λ w. IsPart tries was ended w p) same part, tt)
parts_push tries was ended worker next (q ∷ parts) p is are part =
    (are.0, parts_push tries was ended (worker + 1) next parts p (omega (arith, is)) are.1 part)
