-- Each worker's mark is set on the words as a round begins.
use Rattle.std.proofs.Common.{◌≡◌, ◌∙◌, sym, ap, subst, refl, ℕ, zero, suc, ◌+◌, ◌-◌, ◌<◌, ◌≤◌, ◌/◌, ◌^◌, List, []}
use Rattle.std.proofs.Common.{◌∷◌, ◌++◌, ◌⊎◌, inl, inr, length, append-nil, arith, Option, Some, None, get_or}
use Rattle.std.specs.Prelude.{IfSome, slice_get, slice_set}
use Rattle.serial_model.specs.Numbers.{last_epoch}
use Rattle.std.specs.List.{AllByRecursion}
use Rattle.lists.specs.Each.{all_at}
use Rattle.std.proofs.lemmas.Bool.{cases_order}
use Rattle.std.proofs.lemmas.Option.{same_Some}
use Rattle.lists.specs.Elements.{at_below, in_head, in_tail}
use Rattle.serial_model.specs.Decls.{AreDecls}
use Rattle.serial_model.specs.declared.op.Op.{Op}
use Rattle.engine_pages.specs.declared.layout.Layout.{Layout}
use Rattle.lists.specs.Fronts.{front_refl}
use Rattle.commit_core.specs.declared.seat.Seat.{Seat}
use Rattle.views.specs.Sums.{without}
use Rattle.engine_pages.specs.Layout.{published_at}
use Rattle.engine_pages.specs.Steps.{glanced}
use Rattle.engine_pages.specs.Times.{HasTimed, past_at}
use Rattle.engine_pages.specs.Views.{IsResting, bare_seat}
use Rattle.engine_pages.specs.declared.view.RefusalCause.{RefusalCause}
use Rattle.engine_pages.specs.declared.view.Role.{Role}
use Rattle.engine_pages.specs.declared.view.Role.TheVariants.{Keeper, Worker}
use Rattle.engine_pages.specs.declared.view.View.{View}
use Rattle.engine_seats.specs.Clock.{marked}
use Rattle.engine_seats.specs.Cuts.{HasSeen, ended, gathered, heard_of, seated, worker_of, worker_view}
use Rattle.commit_core.specs.declared.attempt.Attempt.{Attempt}
use Rattle.script_grammar.specs.Script.{Round, lines_of_worker}
use Rattle.worker_cells.specs.Below.{IsOver}
use Rattle.worker_cells.specs.Cells.{ShowsFirst, core_mark}
use Rattle.worker_cells.specs.InARow.{seen_then}
use Rattle.worker_cells.specs.Rows.{Goes}
use Rattle.worker_logs.specs.Logs.{LogState}
use Rattle.worker_logs.specs.Moves.{MovesLog}
use Rattle.worker_logs.specs.Rows.{AreLogsUp}
use Rattle.log_writer.specs.Journal.{JournalState, Reaches}
use Rattle.tx_script.specs.declared.outcome.Outcome.{Outcome}
use Rattle.worker_cells.specs.declared.cell.LogEnd.{LogEnd}
use Rattle.shared_rounds.specs.Ended.{AreLeft, AreTold, EndedSoFar}
use Rattle.shared_rounds.specs.Left.{LeavesLog}
use Rattle.shared_rounds.specs.First.{MarkedFor, SetsAt, SetsMarks, SetsOne, SetsSeat, ShowsMarks, ShowsOne}
use Rattle.shared_rounds.specs.Parts.{Part}
use Rattle.shared_rounds.specs.Rooms.{AreCounts}
use Rattle.shared_rounds.specs.Seated.{IsBegun}
use Rattle.shared_rounds.specs.Seating.{CanSeat}
use Rattle.shared_rounds.specs.FirstLaws.{idle_by, journal_by, left_by_first, marked_at, named_by, no_items}
use Rattle.shared_rounds.specs.FirstLaws.{out_first, same_by, same_lists, there_at}
use Rattle.shared_rounds.proofs.Backward.{AreBegun}
use Rattle.shared_rounds.proofs.Claimed.{free_still}
use Rattle.shared_rounds.proofs.Ending.{longer_then, seats_less, set_here}

-- ---- lists of seats

set_long : (xs : List Seat) (i : ℕ) (x : Seat) → length (slice_set xs i x) ≡ length xs
set_long [] zero x = refl
set_long [] (suc i) x = refl
set_long (y ∷ xs) zero x = refl
set_long (y ∷ xs) (suc i) x = ap suc (set_long xs i x)

set_rests : (xs : List Seat) (i : ℕ) (x : Seat) (worker : ℕ) → IsResting x → IsResting (get_or xs worker bare_seat)
    → IsResting (get_or (slice_set xs i x) worker bare_seat)
set_rests [] zero x worker rest was = was
set_rests [] (suc i) x worker rest was = was
set_rests (y ∷ xs) zero x zero rest was = rest
set_rests (y ∷ xs) zero x (suc worker) rest was = was
set_rests (y ∷ xs) (suc i) x zero rest was = was
set_rests (y ∷ xs) (suc i) x (suc worker) rest was = set_rests xs i x worker rest was

set_apart : (xs : List Seat) (i j : ℕ) (x : Seat) → (j ≡ i → ⊥)
    → get_or (slice_set xs i x) j bare_seat ≡ get_or xs j bare_seat
set_apart [] zero j x apart = refl
set_apart [] (suc i) j x apart = refl
set_apart (y ∷ xs) zero zero x apart = absurd (apart refl)
set_apart (y ∷ xs) zero (suc j) x apart = refl
set_apart (y ∷ xs) (suc i) zero x apart = refl
set_apart (y ∷ xs) (suc i) (suc j) x apart = set_apart xs i j x (λ same. apart (ap suc same))

-- ---- views and lists

sets_then : (u v w : View) → SetsMarks u v → SetsMarks v w → SetsMarks u w
sets_then u v w first next = record {
  role = next.role;
  made = next.made;
  layout = next.layout ∙ first.layout;
  epoch = next.epoch ∙ first.epoch;
  seen = seen_then u v w first.seen next.seen;
  seat = next.seat ∙ first.seat;
  mine = next.mine ∙ first.mine;
  draws = next.draws ∙ first.draws;
  refused = next.refused ∙ first.refused;
  pages = more_pages u.pages v.pages w.pages first.pages next.pages;
  fills = next.fills ∙ first.fills;
  met = next.met ∙ first.met;
  drops = next.drops ∙ first.drops;
  parked_are = next.parked_are;
  parked = next.parked;
  free = λ nothing. next.free (first.free nothing);
}
  where
    more_pages : (a b c : List (List ℕ)) → (b ≡ a) ⊎ (length a < length b) → (c ≡ b) ⊎ (length b < length c)
        → (c ≡ a) ⊎ (length a < length c)
    more_pages a b c (inl same) (inl equal) = inl (equal ∙ same)
    more_pages a b c (inl same) (inr more) =
        let long : length b ≡ length a = ap (λ (l : List (List ℕ)). length l) same in inr (omega (arith, long, more))
    more_pages a b c (inr more) (inl equal) =
        let long : length c ≡ length b = ap (λ (l : List (List ℕ)). length l) equal in inr (omega (arith, long, more))
    more_pages a b c (inr more) (inr then) = inr (omega (arith, more, then))

-- the keeper that may seat workers still may
pub sets_can : (v w : View) → SetsMarks v w → CanSeat v → CanSeat w
sets_can v w sets can = record {
  role = sets.role;
  made = sets.made;
  locks = ap (λ (s : Seat). s.locks) sets.seat ∙ can.locks;
  decls = subst (λ (l : Layout). AreDecls l.decls) (sym sets.layout) can.decls;
  draws = subst (λ (l : Layout). 1 ≤ l.first.draw) (sym sets.layout) can.draws;
  parked = sets.parked;
}

-- what holds at each place holds of all
each_all : {X : Type 0} (P : X → Type 0) (xs : List X) → ((i : ℕ) (x : X) → slice_get xs i ≡ Some x → P x)
    → AllByRecursion P xs
each_all P [] each = tt
each_all P (x ∷ xs) each = (each 0 x refl, each_all P xs (λ i y at. each (suc i) y at))

-- ---- what is told of the lines, by the logs as the round began

told_all : (round : Round) (worker : ℕ) (parts : List Part) (outcomes : List (List Outcome)) (ends : List LogEnd)
    (firsts olds news : List LogState) → length firsts ≡ length olds
    → ((i : ℕ) (first old : LogState) → slice_get firsts i ≡ Some first → slice_get olds i ≡ Some old
    → lines_of_worker round (worker + i) ≡ [] → old ≡ first)
    → AreTold round worker parts outcomes ends olds news → AreTold round worker parts outcomes ends firsts news
told_all round worker [] [] [] [] [] [] many each are = tt
told_all round worker [] [] [] (f ∷ fs) [] [] many each are = absurd (omega (arith, many))
told_all round worker [] [] [] fs [] (n ∷ ns) many each are = absurd are
told_all round worker [] [] [] fs (o ∷ os) ns many each are = absurd are
told_all round worker [] [] (e ∷ es) fs os ns many each are = absurd are
told_all round worker [] (x ∷ xs) es fs os ns many each are = absurd are
told_all round worker (p ∷ ps) [] es fs os ns many each are = absurd are
told_all round worker (p ∷ ps) (x ∷ xs) [] fs os ns many each are = absurd are
told_all round worker (p ∷ ps) (x ∷ xs) (e ∷ es) fs [] ns many each are = absurd are
told_all round worker (p ∷ ps) (x ∷ xs) (e ∷ es) fs (o ∷ os) [] many each are = absurd are
told_all round worker (p ∷ ps) (x ∷ xs) (e ∷ es) [] (o ∷ os) (n ∷ ns) many each are = absurd (omega (arith, many))
told_all round worker (p ∷ ps) (x ∷ xs) (e ∷ es) (f ∷ fs) (o ∷ os) (n ∷ ns) many each are =
    let one = are.0 in
    let first : worker ≡ worker + 0 = omega arith in (
      record {
        lines_are = one.lines_are;
        told = one.told;
        refusal = one.refusal;
        idle = λ none. one.idle none ∙ each 0 f o refl refl (ap (lines_of_worker round) (sym first) ∙ none);
        failed = one.failed;
        flushed = one.flushed;
        last = one.last;
        rests = one.rests;
      },
      told_all round (worker + 1) ps xs es fs os ns (omega (arith, many))
          (λ i first old was is none.
          let next : worker + suc i ≡ (worker + 1) + i = omega arith in
          each (suc i) first old was is (ap (lines_of_worker round) next ∙ none)) are.1,
    )

module _ {D : Type 0} (tells : D → Option (List ℕ)) (clock : D → ℕ) (image_at : D → ℕ → List ℕ → Type 0)
    (faults : D → ℕ) where
  left_first : (low high lines : ℕ) (p : Part) (first old new : LogState) (before now : D) → 1 ≤ low → low ≤ high
      → MarkedFor tells clock image_at faults lines low first old before
      → LeavesLog tells clock image_at faults low high p old new before now
      → LeavesLog tells clock image_at faults low high p first new before now
  left_first low high lines p first old new before now some up is left = record {
    left_by = left_by_first low high lines some up is left.left_by;
    left_out = out_first low lines some is left.left_out;
  }

  left_all : (low high worker : ℕ) (counts : List ℕ) (parts : List Part) (firsts olds news : List LogState)
      (banks_was banks : List D) → 1 ≤ low → low ≤ high → length firsts ≡ length olds
      → ((i : ℕ) (first old : LogState) (bank : D) → slice_get firsts i ≡ Some first → slice_get olds i ≡ Some old
      → slice_get banks_was i ≡ Some bank
      → MarkedFor tells clock image_at faults (get_or counts (worker + i) 0) low first old bank)
      → AreLeft tells clock image_at faults low high parts olds news banks_was banks
      → AreLeft tells clock image_at faults low high parts firsts news banks_was banks
  left_all low high worker counts [] [] [] [] [] [] some up many each are = tt
  left_all low high worker counts [] (f ∷ fs) [] [] [] [] some up many each are = absurd (omega (arith, many))
  left_all low high worker counts [] fs (o ∷ os) ns bw bs some up many each are = absurd are
  left_all low high worker counts [] fs [] (n ∷ ns) bw bs some up many each are = absurd are
  left_all low high worker counts [] fs [] [] (b ∷ bw) bs some up many each are = absurd are
  left_all low high worker counts [] fs [] [] [] (b ∷ bs) some up many each are = absurd are
  left_all low high worker counts (p ∷ parts) [] (o ∷ os) ns bw bs some up many each are = absurd (omega (arith, many))
  left_all low high worker counts (p ∷ parts) fs [] ns bw bs some up many each are = absurd are
  left_all low high worker counts (p ∷ parts) (f ∷ fs) (o ∷ os) [] bw bs some up many each are = absurd are
  left_all low high worker counts (p ∷ parts) (f ∷ fs) (o ∷ os) (n ∷ ns) [] bs some up many each are = absurd are
  left_all low high worker counts (p ∷ parts) (f ∷ fs) (o ∷ os) (n ∷ ns) (b ∷ bw) [] some up many each are = absurd are
  left_all low high worker counts (p ∷ parts) (f ∷ fs) (o ∷ os) (n ∷ ns) (b ∷ bw) (c ∷ bs) some up many each are =
      let first : worker + 0 ≡ worker = omega arith in (
        left_first low high (get_or counts worker 0) p f o n b c some up
            (subst (λ k. MarkedFor tells clock image_at faults (get_or counts k 0) low f o b) first
            (each 0 f o b refl refl refl)) are.0,
        left_all low high (worker + 1) counts parts fs os ns bw bs some up (omega (arith, many))
            (λ i old new bank was is at.
            let next : worker + suc i ≡ (worker + 1) + i = omega arith in
            subst (λ k. MarkedFor tells clock image_at faults (get_or counts k 0) low old new bank) next
            (each (suc i) old new bank was is at)) are.1,
      )

module _ {D : Type 0} {tells : D → Option (List ℕ)} {clock : D → ℕ} {image_at : D → ℕ → List ℕ → Type 0}
    {faults : D → ℕ} where
  -- ---- on the worker's pass

  -- with some lines
  pub busy_set : (lines : ℕ) {v w : View} {old new : LogState} {before now : D} → 0 < lines
      → ShowsFirst tells clock image_at faults v w old new before now
      → SetsSeat tells clock image_at faults lines v w old new before now
  busy_set zero some first = absurd (omega (arith, some))
  busy_set (suc n) {w = w} {old = old} {new = new} {before = before} some first = record {
    goes = first.goes;
    over = first.over;
    rises = first.rises;
    small = first.small;
    marks = first.marks;
    log = record {
      moves = subst (λ b. MovesLog tells clock image_at faults (w.epoch - 1) old new before b None) first.bank
          first.moves;
      named = first.epoch;
      journal = first.journal;
    };
    bank = first.bank;
  }

  -- and with none
  pub idle_set : (lines : ℕ) {v w : View} {log : LogState} {bank : D} → (0 < lines → ⊥) → log.mark.epoch ≡ None
      → log.mark.length < 2 ^ 40 → (size : ℕ) → size ≡ log.mark.length
      → w ≡ marked (record { epoch = None; length = size }) v → IsOver w
      → SetsSeat tells clock image_at faults lines v w log log bank bank
  idle_set (suc n) none idle counted size same is over = absurd (none (omega arith))
  idle_set zero {v = v} {w = w} {log = log} none idle counted size same is over = record {
    goes = subst (Goes v) (sym is) (record {
      seen = record { history = front_refl v.history; decided = front_refl v.decided };
      layout = refl;
      role = refl;
      mine = refl;
      refused = refl;
      draws = refl;
      touched = refl;
      blamed = refl;
    });
    over = over;
    rises = subst (λ (x : View). v.epoch ≤ x.epoch) (sym is) (omega arith);
    small = record {
      length = counted;
      epoch = subst (λ (e : Option ℕ). IfSome e (λ n. n ≤ last_epoch)) (sym idle) tt;
    };
    marks = ap (λ (x : View). x.seat.marks) is
        ∙ ap (λ n. v.seat.marks ++ record { epoch = None; length = n } ∷ []) same
        ∙ ap (λ (e : Option ℕ). v.seat.marks ++ record { epoch = e; length = log.mark.length } ∷ []) (sym idle);
    log = (refl, idle);
    bank = refl;
  }

  -- ---- as the keeper takes it in again

  pub taken_in : (lines worker n : ℕ) (v mid u w : View) {old new : LogState} {before now : D} → CanSeat v
      → length v.parked ≡ 8 → worker < 8 → mid ≡ seated worker v
      → SetsSeat tells clock image_at faults lines (worker_view worker v) u old new before now
      → HasTimed (ended mid u) n w → HasSeen mid w
      → SetsOne tells clock image_at faults lines worker v w old new before now
  taken_in lines worker n v mid u w {old = old} {new = new} {before = before} {now = now} can long few is set timed
      seen =
      let t = subst (λ (x : View). HasTimed (ended x u) n w) is timed in
      let sees = subst (λ (x : View). HasSeen x w) is seen in
      let role : u.role ≡ Worker worker = set.goes.role in
      let clock_is : n / 2 ^ 40 ≡ v.epoch = t.keepers can.role in
      let heard = (t.heard (heard_of u) (in_tail (heard_of u) (heard_of (seated worker v)) (heard_of u ∷ [])
      (in_head (heard_of u) []))).2 in
      let same_epoch : u.epoch ≡ v.epoch = omega (arith, set.rises, heard, clock_is) in
      let left : without (worker_of u.role) (v.made ++ worker ∷ []) ≡ [] =
      ap (λ (r : Role). without (worker_of r) (v.made ++ worker ∷ [])) role
      ∙ ap (λ (l : List ℕ). without worker (l ++ worker ∷ [])) can.made ∙ seats_less 0 worker in
      let parked : w.parked ≡ slice_set v.parked worker u.seat =
      ap (λ (x : View). x.parked) t.is ∙ ap (λ (r : Role). slice_set v.parked (worker_of r) u.seat) role in
      record {
        sets = record {
          role = ap (λ (x : View). x.role) t.is ∙ can.role;
          made = ap (λ (x : View). x.made) t.is ∙ left;
          layout = ap (λ (x : View). x.layout) t.is;
          epoch = ap (λ (x : View). x.epoch) t.is ∙ clock_is;
          seen = record { history = sees.history; decided = sees.decided };
          seat = ap (λ (x : View). x.seat) t.is;
          mine = ap (λ (x : View). x.mine) t.is ∙ ap (λ (l : List Attempt). gathered v.mine l) set.goes.mine;
          draws = let drew : w.draws ≡ v.draws + u.draws = ap (λ (x : View). x.draws) t.is in
              let none : u.draws ≡ 0 = set.goes.draws in omega (arith, drew, none);
          refused = ap (λ (x : View). x.refused) t.is
              ∙ ap (λ (l : List RefusalCause). v.refused ++ l) set.goes.refused ∙ append-nil v.refused;
          pages = longer_then v.pages v.pages u.pages w.pages (inl refl) (ap (λ (x : View). x.pages) t.is);
          fills = ap (λ (x : View). x.fills) t.is;
          met = ap (λ (x : View). x.met) t.is;
          drops = ap (λ (x : View). x.drops) t.is;
          parked_are = ap (λ (l : List Seat). length l) parked ∙ set_long v.parked worker u.seat ∙ long;
          parked = λ other less. subst (λ (l : List Seat). IsResting (get_or l other bare_seat)) (sym parked)
              (set_rests v.parked worker u.seat other set.over.seat (can.parked other less));
          free = free_still v w (ap (λ (x : View). x.grip) t.is) (ap (λ (x : View). x.ways) t.is)
              (ap (λ (x : View). x.took) t.is) (ap (λ (x : View). x.shuts) t.is) (ap (λ (x : View). x.heads) t.is);
        };
        past = ap (λ (x : View). x.past) t.is
            ∙ ap (λ (r : Role). past_at r (without (worker_of u.role) (v.made ++ worker ∷ [])) v.past (n / 2 ^ 40))
            can.role
            ∙ ap (λ (l : List ℕ). past_at Keeper l v.past (n / 2 ^ 40)) left ∙ ap (λ k. k - 1) clock_is;
        shows = record {
          small = set.small;
          marks = ap (λ (l : List Seat). (get_or l worker bare_seat).marks) parked
              ∙ ap (λ (x : Seat). x.marks) (set_here v.parked worker u.seat (omega (arith, few, long)))
              ∙ set.marks;
          log = marked_at tells clock image_at faults lines u.epoch v.epoch old new before same_epoch set.log;
        };
        bank = set.bank;
        others = λ other apart. ap (λ (l : List Seat). get_or l other bare_seat) parked
            ∙ set_apart v.parked worker other u.seat apart;
      }

  -- ---- one worker after another

  -- nothing was done yet
  pub none_shown : (counts : List ℕ) (v : View) (logs : List LogState) (banks : List D) → CanSeat v
      → length v.parked ≡ 8
      → ShowsMarks tells clock image_at faults counts 0 v v logs logs banks banks
  none_shown counts v logs banks can long = record {
    sets = record {
      role = can.role;
      made = can.made;
      layout = refl;
      epoch = refl;
      seen = record { history = front_refl v.history; decided = front_refl v.decided };
      seat = refl;
      mine = refl;
      draws = refl;
      refused = refl;
      pages = inl refl;
      fills = refl;
      met = refl;
      drops = refl;
      parked_are = long;
      parked = can.parked;
      free = λ nothing. nothing;
    };
    past = λ some. absurd (some refl);
    logs_many = refl;
    banks_are = refl;
    each = λ worker old new bank less was is at. absurd (omega (arith, less));
    rest = λ worker more. (refl, refl);
  }

  -- that of one worker more
  pub more_shown : (counts : List ℕ) (count : ℕ) (v u w : View) (logs_was mid logs : List LogState)
      (banks_was between banks : List D)
      → ShowsMarks tells clock image_at faults counts count v u logs_was mid banks_was between
      → SetsAt tells clock image_at faults (get_or counts count 0) count u w mid logs between banks
      → ShowsMarks tells clock image_at faults counts (count + 1) v w logs_was logs banks_was banks
  more_shown counts count v u w logs_was mid logs banks_was between banks so one = record {
    sets = sets_then v u w so.sets one.sets.sets;
    past = λ some. one.sets.past ∙ ap (λ n. n - 1) so.sets.epoch;
    logs_many = one.logs_many ∙ so.logs_many;
    banks_are = same_lists banks between (λ i. same_bank i (cases_order i count)) ∙ so.banks_are;
    each = λ worker old new bank less was is at. by_place worker old new bank (cases_order worker count) less was is at;
    rest = λ worker more.
        let before = so.rest worker (omega (arith, more)) in
        let apart : worker ≡ count → ⊥ = λ same. omega (arith, same, more) in
        (one.other_logs worker apart ∙ before.0, one.sets.others worker apart ∙ before.1);
  }
    where
      here : (i : ℕ) → i ≡ count → slice_get banks i ≡ slice_get between i
      here i same =
          ap (slice_get banks) same ∙ one.bank ∙ ap Some one.sets.bank ∙ sym one.bank_was
          ∙ ap (slice_get between) (sym same)

      same_bank : (i : ℕ) → (i ≡ count) ⊎ ((i < count) ⊎ (count < i)) → slice_get banks i ≡ slice_get between i
      same_bank i (inl same) = here i same
      same_bank i (inr (inl less)) = one.other_banks i (λ same. omega (arith, same, less))
      same_bank i (inr (inr more)) = one.other_banks i (λ same. omega (arith, same, more))

      by_place : (worker : ℕ) (old new : LogState) (bank : D) → (worker ≡ count) ⊎ ((worker < count) ⊎ (count < worker))
          → worker < count + 1 → slice_get logs_was worker ≡ Some old → slice_get logs worker ≡ Some new
          → slice_get banks worker ≡ Some bank
          → ShowsOne tells clock image_at faults (get_or counts worker 0) v w worker old new bank
      by_place worker old new bank (inl same) less was is at =
          let unset = so.rest count (omega arith) in
          let old_is : one.old ≡ old = same_Some one.old old
          (sym one.log_was ∙ unset.0 ∙ ap (slice_get logs_was) (sym same) ∙ was) in
          let new_is : one.new ≡ new = same_Some one.new new (sym one.log ∙ ap (slice_get logs) (sym same) ∙ is) in
          let bank_is : one.before ≡ bank = same_Some one.before bank
          (ap Some (sym one.sets.bank) ∙ sym one.bank ∙ ap (slice_get banks) (sym same) ∙ at) in
          subst (λ k. ShowsOne tells clock image_at faults (get_or counts k 0) v w k old new bank) (sym same)
          (subst (λ b. ShowsOne tells clock image_at faults (get_or counts count 0) v w count old new b) bank_is
          (subst (λ l. ShowsOne tells clock image_at faults (get_or counts count 0) v w count old l one.before) new_is
          (subst (λ l. ShowsOne tells clock image_at faults (get_or counts count 0) v w count l one.new one.before)
          old_is
          (record {
            small = one.sets.shows.small;
            marks = one.sets.shows.marks
                ∙ ap (λ (s : Seat). s.marks ++ core_mark one.new.mark ∷ []) unset.1;
            log = marked_at tells clock image_at faults
                (get_or counts count 0) u.epoch v.epoch one.old one.new one.before
                so.sets.epoch one.sets.shows.log;
          }))))
      by_place worker old new bank (inr (inl before)) less was is at =
          let apart : worker ≡ count → ⊥ = λ same. omega (arith, same, before) in
          let shown = so.each worker old new bank before was (sym (one.other_logs worker apart) ∙ is)
          (sym (one.other_banks worker apart) ∙ at) in
          record {
            small = shown.small;
            marks = ap (λ (s : Seat). s.marks) (one.sets.others worker apart) ∙ shown.marks;
            log = shown.log;
          }
      by_place worker old new bank (inr (inr after)) less was is at = absurd (omega (arith, after, less))

  -- a load of the count of pages changes nothing of it
  pub shown_looked : (counts : List ℕ) (count seen : ℕ) (v u w : View) (logs_was logs : List LogState)
      (banks_was banks : List D) → w ≡ glanced published_at seen u
      → ShowsMarks tells clock image_at faults counts count v u logs_was logs banks_was banks
      → ShowsMarks tells clock image_at faults counts count v w logs_was logs banks_was banks
  shown_looked counts count seen v u w logs_was logs banks_was banks is so =
      subst (λ (x : View). ShowsMarks tells clock image_at faults counts count v x logs_was logs banks_was banks)
      (sym is)
      (record {
        sets = record {
          role = so.sets.role;
          made = so.sets.made;
          layout = so.sets.layout;
          epoch = so.sets.epoch;
          seen = record { history = so.sets.seen.history; decided = so.sets.seen.decided };
          seat = so.sets.seat;
          mine = so.sets.mine;
          draws = so.sets.draws;
          refused = so.sets.refused;
          pages = so.sets.pages;
          fills = so.sets.fills;
          met = so.sets.met;
          drops = so.sets.drops;
          parked_are = so.sets.parked_are;
          parked = so.sets.parked;
          free = λ nothing. free_still u (glanced published_at seen u) refl refl refl refl refl (so.sets.free nothing);
        };
        past = so.past;
        logs_many = so.logs_many;
        banks_are = so.banks_are;
        each = λ worker old new bank less was is at.
            let one = so.each worker old new bank less was is at in
            record { small = one.small; marks = one.marks; log = one.log };
        rest = so.rest;
      })

  -- ---- how the workers begin then

  begun_one : (round : Round) (counts : List ℕ) (v w : View) (worker : ℕ) (old new : LogState) (bank : D)
      → AreCounts round counts → worker < 8 → SetsMarks v w
      → ShowsOne tells clock image_at faults (get_or counts worker 0) v w worker old new bank
      → IsBegun round v worker (worker_view worker w) new
  begun_one round counts v w worker old new bank counted few sets shows = record {
    seated = record {
      role = refl;
      epoch = sets.epoch;
      layout = sets.layout;
      seen = record { history = sets.seen.history; decided = sets.seen.decided };
      mine = refl;
      draws = refl;
      refused = refl;
      touched = refl;
      blamed = refl;
    };
    marks = shows.marks;
    named = λ some. named_by tells clock image_at faults (get_or counts worker 0) v.epoch old new bank shows.log
        (λ none. some (no_items (lines_of_worker round worker) (sym (counted.each worker few) ∙ none)));
    small = shows.small;
    idle = λ none. idle_by tells clock image_at faults (get_or counts worker 0) v.epoch old new bank shows.log
        (counted.each worker few ∙ ap (λ (l : List (List Op)). length l) none);
  }

  begun_from : (round : Round) (counts : List ℕ) (v w : View) (worker : ℕ) (logs_was logs : List LogState)
      (banks : List D) → AreCounts round counts → SetsMarks v w → length logs_was ≡ length logs
      → length banks ≡ length logs → worker + length logs ≡ 8
      → ((i : ℕ) (old new : LogState) (bank : D) → slice_get logs_was i ≡ Some old → slice_get logs i ≡ Some new
      → slice_get banks i ≡ Some bank
      → ShowsOne tells clock image_at faults (get_or counts (worker + i) 0) v w (worker + i) old new bank)
      → AreBegun round v w worker logs
  begun_from round counts v w worker [] [] [] counted sets many as_many eight each = tt
  begun_from round counts v w worker [] [] (b ∷ banks) counted sets many as_many eight each = tt
  begun_from round counts v w worker (a ∷ logs_was) [] banks counted sets many as_many eight each = tt
  begun_from round counts v w worker [] (l ∷ logs) banks counted sets many as_many eight each =
      absurd (omega (arith, many))
  begun_from round counts v w worker (a ∷ logs_was) (l ∷ logs) [] counted sets many as_many eight each =
      absurd (omega (arith, as_many))
  begun_from round counts v w worker (a ∷ logs_was) (l ∷ logs) (b ∷ banks) counted sets many as_many eight each =
      let first : worker + 0 ≡ worker = omega arith in (
        begun_one round counts v w worker a l b counted (omega (arith, eight)) sets
            (subst (λ k. ShowsOne tells clock image_at faults (get_or counts k 0) v w k a l b) first
            (each 0 a l b refl refl refl)),
        begun_from round counts v w (worker + 1) logs_was logs banks counted sets (omega (arith, many))
            (omega (arith, as_many)) (omega (arith, eight))
            (λ i old new bank was is at.
            let next : worker + suc i ≡ (worker + 1) + i = omega arith in
            subst (λ k. ShowsOne tells clock image_at faults (get_or counts k 0) v w k old new bank) next
            (each (suc i) old new bank was is at)),
      )

  -- they begin with the marks that stand on the words
  pub begun_all : (round : Round) (counts : List ℕ) (v w : View) (logs_was logs : List LogState)
      (banks_was banks : List D)
      → AreCounts round counts → length logs_was ≡ 8 → length banks_was ≡ 8
      → ShowsMarks tells clock image_at faults counts 8 v w logs_was logs banks_was banks
      → AreBegun round v w 0 logs
  begun_all round counts v w logs_was logs banks_was banks counted eight banks_eight so =
      let many = so.logs_many in
      let as_many : length banks ≡ length banks_was = ap (λ (l : List D). length l) so.banks_are in
      begun_from round counts v w 0 logs_was logs banks counted so.sets (sym many)
      (omega (arith, many, eight, banks_eight, as_many)) (omega (arith, many, eight))
      (λ i old new bank was is at.
      let here : i ≡ 0 + i = omega arith in
      subst (λ k. ShowsOne tells clock image_at faults (get_or counts k 0) v w k old new bank) here
      (so.each i old new bank (omega (arith, at_below logs_was i old was, eight)) was is at))

  -- ---- the logs then

  -- which log it was, whose journal is as it was
  journal_first : (counts : List ℕ) (v w : View) (firsts olds : List LogState) (banks_first banks : List D)
      → ShowsMarks tells clock image_at faults counts 8 v w firsts olds banks_first banks → length firsts ≡ 8
      → length banks_first ≡ 8 → (worker : ℕ) (log : LogState) → slice_get olds worker ≡ Some log
      → (first : LogState) × (slice_get firsts worker ≡ Some first) × (log.journal ≡ first.journal)
  journal_first counts v w firsts olds banks_first banks shows eight banks_eight worker log at =
      let many = shows.logs_many in
      let small : worker < 8 = omega (arith, at_below olds worker log at, many, eight) in
      let first = there_at firsts worker (omega (arith, small, eight)) in
      let long : length banks ≡ 8 = ap (λ (l : List D). length l) shows.banks_are ∙ banks_eight in
      let bank = there_at banks worker (omega (arith, small, long)) in (
        first.0,
        first.1,
        journal_by tells clock image_at faults (get_or counts worker 0) v.epoch first.0 log bank.0
            (shows.each worker first.0 log bank.0 small first.1 at bank.1).log,
      )

  pub up_first : (counts : List ℕ) (v w : View) (firsts olds : List LogState) (banks_first banks : List D)
      → ShowsMarks tells clock image_at faults counts 8 v w firsts olds banks_first banks → length firsts ≡ 8
      → length banks_first ≡ 8 → AreLogsUp tells firsts banks_first → AreLogsUp tells olds banks
  up_first counts v w firsts olds banks_first banks shows eight banks_eight up worker log bank at there =
      let first = journal_first counts v w firsts olds banks_first banks shows eight banks_eight worker log at in
      let was = up worker first.0 bank first.1
      (ap (λ (l : List D). slice_get l worker) (sym shows.banks_are) ∙ there) in
      record {
        up = ap (λ (j : JournalState). j.down) first.2 ∙ was.up;
        limit = ap (λ (j : JournalState). j.limit) first.2 ∙ was.limit;
        reaches = subst (Reaches tells bank) (sym first.2) was.reaches;
      }

  pub flushed_first : (counts : List ℕ) (v w : View) (firsts olds : List LogState) (banks_first banks : List D)
      → ShowsMarks tells clock image_at faults counts 8 v w firsts olds banks_first banks → length firsts ≡ 8
      → length banks_first ≡ 8 → AllByRecursion (λ (log : LogState). log.journal.lines ≡ []) firsts
      → AllByRecursion (λ (log : LogState). log.journal.lines ≡ []) olds
  flushed_first counts v w firsts olds banks_first banks shows eight banks_eight flushed =
      each_all (λ (log : LogState). log.journal.lines ≡ []) olds
      (λ worker log at.
      let first = journal_first counts v w firsts olds banks_first banks shows eight banks_eight worker log at in
      ap (λ (j : JournalState). j.lines) first.2
      ∙ all_at (λ (l : LogState). l.journal.lines ≡ []) firsts worker first.0 flushed first.1)

  -- ---- what the lines left, by the logs as the round began

  -- What the round has come to, by the logs as it began.
  pub ended_first : (tries : ℕ) (round : Round) (counts : List ℕ) (was mid behind now : View)
      (firsts olds news : List LogState) (banks_first banks_was banks : List D) (outcomes : List (List Outcome))
      (ends : List LogEnd) → AreCounts round counts → 1 ≤ was.epoch → length firsts ≡ 8 → length banks_first ≡ 8
      → ShowsMarks tells clock image_at faults counts 8 was mid firsts olds banks_first banks_was
      → EndedSoFar tells clock image_at faults tries round was behind now 8 olds news banks_was banks outcomes ends
      → EndedSoFar tells clock image_at faults tries round was behind now 8 firsts news banks_first banks outcomes ends
  ended_first tries round counts was mid behind now firsts olds news banks_first banks_was banks outcomes ends counted
      some eight banks_eight shows so =
      let many : length firsts ≡ length olds = sym shows.logs_many in
      record {
        parts = so.parts;
        many = so.many;
        are = so.are;
        seen = so.seen;
        role = so.role;
        seat = so.seat;
        layout = so.layout;
        pages = so.pages;
        fills = so.fills;
        low = so.low;
        epoch = so.epoch;
        met = so.met;
        made = so.made;
        gathers = so.gathers;
        refused = so.refused;
        draws = so.draws;
        drops = so.drops;
        dropped = so.dropped;
        touched = so.touched;
        free = so.free;
        blamed = so.blamed;
        parked_are = so.parked_are;
        parked = so.parked;
        taken = so.taken;
        left = subst (λ b. AreLeft tells clock image_at faults was.epoch behind.epoch so.parts firsts news b banks)
            shows.banks_are
            (left_all tells clock image_at faults was.epoch behind.epoch 0 counts so.parts firsts olds news banks_was
            banks some so.low many
            (λ i first old bank at is there.
            let here : i ≡ 0 + i = omega arith in
            subst (λ k. MarkedFor tells clock image_at faults (get_or counts k 0) was.epoch first old bank) here
            (shows.each i first old bank (omega (arith, at_below firsts i first at, eight)) at is there).log) so.left);
        told = told_all round 0 so.parts outcomes ends firsts olds news many
            (λ i first old at is none.
            let small : i < 8 = omega (arith, at_below firsts i first at, eight) in
            let here : 0 + i ≡ i = omega arith in
            let long : length banks_was ≡ 8 = ap (λ (l : List D). length l) shows.banks_are ∙ banks_eight in
            let bank = there_at banks_was i (omega (arith, small, long)) in
            same_by tells clock image_at faults (get_or counts i 0) was.epoch first old bank.0
            (shows.each i first old bank.0 small at is bank.1).log
            (counted.each i small
            ∙ ap (λ (l : List (List Op)). length l) (ap (lines_of_worker round) (sym here) ∙ none))) so.told;
        many_outcomes = so.many_outcomes;
        calls = so.calls;
      }
