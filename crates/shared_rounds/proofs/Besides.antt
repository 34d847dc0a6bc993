-- What is told of the maintenance thread's part beside the workers' lines.
use Rattle.std.proofs.Common.{◌≡◌, ◌∙◌, sym, ap, subst, refl, ℕ, zero, suc, ◌+◌, ◌-◌, ◌<◌, ◌≤◌, List, [], ◌∷◌, ◌++◌}
use Rattle.std.proofs.Common.{length, length-append, map, arith, get_or, Option, Some}
use Rattle.std.specs.Prelude.{Contains, slice_get}
use Rattle.std.specs.List.{AllByRecursion}
use Rattle.lists.specs.Each.{all_at}
use Rattle.wire_form.specs.Words.{IsMark}
use Rattle.std.proofs.lemmas.Option.{same_Some}
use Rattle.serial_model.specs.Decls.{AreDecls}
use Rattle.serial_model.specs.declared.number.Number.{Number}
use Rattle.script_grammar.specs.Script.{Round}
use Rattle.commit_core.specs.declared.seat.Mark.{Mark}
use Rattle.commit_core.specs.declared.seat.Seat.{Seat}
use Rattle.engine_pages.specs.Passes.{Pass, view}
use Rattle.engine_pages.specs.Views.{IsResting, bare_seat}
use Rattle.engine_pages.specs.Words.{word_of_mark}
use Rattle.engine_pages.specs.declared.layout.Layout.{Layout}
use Rattle.engine_pages.specs.declared.view.Met.{Met}
use Rattle.engine_pages.specs.declared.view.Role.TheVariants.{Keeper}
use Rattle.engine_pages.specs.declared.view.View.{View}
use Rattle.engine_seats.specs.Clock.{IsMetAt}
use Rattle.engine_seats.specs.Counts.{HasAudited}
use Rattle.resident_pages.specs.Fills.{AreClaimed}
use Rattle.tx_script.specs.declared.outcome.Outcome.{Outcome}
use Rattle.views.specs.Sums.{times}
use Rattle.worker_cells.specs.Cells.{core_mark, core_of}
use Rattle.worker_cells.specs.declared.cell.LogEnd.{LogEnd}
use Rattle.worker_logs.specs.Logs.{LogState}
use Rattle.worker_logs.specs.Shown.{Stood}
use Rattle.shared_rounds.specs.Beside.{BeginsBeside, BeginsOn, BesideRan}
use Rattle.shared_rounds.specs.Ended.{OwnsBehind}
use Rattle.shared_rounds.specs.First.{SetsMarks, ShowsMarks}
use Rattle.shared_rounds.specs.FirstLaws.{there_at}
use Rattle.shared_rounds.specs.Parts.{AreParts, Part, clock_number, marks_parked}
use Rattle.shared_rounds.specs.Seating.{seats_from, with_made}
use Rattle.shared_rounds.specs.SharedState.{IsKept, shared_by}
use Rattle.shared_rounds.specs.Shares.{Share}
use Rattle.shared_rounds.specs.Together.{RanSeated}
use Rattle.shared_rounds.proofs.Joined.{shares_of}
use Rattle.shared_rounds.proofs.Claimed.{claimed_still, free_still, same_pages}
use Rattle.shared_rounds.proofs.Told.{words_at}

-- ---- as the lines begin

-- the pages are those that were published before
pub first_pages : (was mid : View) → AreClaimed was → OwnsBehind mid → SetsMarks was mid → mid.pages ≡ was.pages
first_pages was mid claims owns sets = same_pages was mid claims owns sets.layout sets.fills sets.pages

pub begins_on : (was mid seated : View) → IsKept was → 1 ≤ was.epoch → SetsMarks was mid
    → mid.past ≡ was.epoch - 1 → OwnsBehind mid → seated ≡ with_made (seats_from 8 0) mid → BeginsOn was seated
begins_on was mid seated kept some sets past owns is =
    let pages = first_pages was mid kept.claimed owns sets in
    subst (BeginsOn was) (sym is) (record {
      role = sets.role;
      made = λ none. absurd (let no : seats_from 8 0 ≡ [] = none in cc);
      epoch = sets.epoch;
      past = omega (arith, past, some);
      layout = sets.layout;
      few = subst (λ (l : Layout). l.resident ≤ 65536) (sym sets.layout) kept.few;
      pages = pages;
      claimed = seated_claims mid (claimed_still was mid kept.claimed sets.layout sets.fills pages);
      rests = subst (λ (s : Seat). IsResting s) (sym sets.seat) kept.rests;
      declared = subst (λ (l : Layout). AreDecls l.decls) (sym sets.layout) kept.decls;
      drops = sets.drops;
      met = sets.met;
      free = free_still mid (with_made (seats_from 8 0) mid) refl refl refl refl refl (sets.free kept.free);
    })
  where
    seated_claims : (v : View) → AreClaimed v → AreClaimed (with_made (seats_from 8 0) v)
    seated_claims v claims = record { has = claims.has; long = claims.long }

-- on an engine
pub begins_beside : (keeper : Pass) (clock : Number) (v : View) → clock.epoch ≡ (view keeper).epoch
    → BeginsOn (view keeper) v → BeginsBeside (shared_by keeper clock) v
begins_beside keeper clock v epoch on = record {
  role = on.role;
  made = on.made;
  epoch = on.epoch ∙ sym epoch;
  past = on.past ∙ sym epoch;
  decls = ap (λ (l : Layout). l.decls) on.layout;
  slots = ap (λ (l : Layout). l.slots) on.layout;
  resident = ap (λ (l : Layout). l.resident) on.layout;
  few = on.few;
  pages = on.pages;
  claimed = on.claimed;
  rests = on.rests;
  declared = on.declared;
  drops = on.drops;
  met = on.met;
  free = on.free;
}

-- ---- the marks that were met

-- what stands behind a front, among the marks that were shown
behind_front : (front : List Mark) (shown : List Stood) (place : ℕ) (mark : Mark) → length front ≤ place
    → slice_get (front ++ map core_of shown) place ≡ Some mark
    → (m : Stood) × (slice_get shown (place - length front) ≡ Some m) × (core_of m ≡ mark)
behind_front [] shown place mark past there =
    let none : place - 0 ≡ place = omega arith in
    let at = in_shown shown place there in
    (at.0, ap (slice_get shown) none ∙ at.1, at.2)
  where
    in_shown : (ms : List Stood) (i : ℕ) → slice_get (map core_of ms) i ≡ Some mark
        → (m : Stood) × (slice_get ms i ≡ Some m) × (core_of m ≡ mark)
    in_shown [] i at = absurd cc
    in_shown (m ∷ ms) zero at = (m, refl, same_Some (core_of m) mark at)
    in_shown (m ∷ ms) (suc i) at = in_shown ms i at
behind_front (f ∷ front) shown zero mark past there = absurd (omega (arith, past))
behind_front (f ∷ front) shown (suc place) mark past there =
    let same : suc place - length (f ∷ front) ≡ place - length front = omega arith in
    let at = behind_front front shown place mark (omega (arith, past)) there in
    (at.0, ap (slice_get shown) same ∙ at.1, at.2)

-- they fit their words
small_at : (tries : ℕ) (was ended : View) (worker : ℕ) (parts : List Part) → AreParts tries was ended worker parts
    → (i : ℕ) (p : Part) → slice_get parts i ≡ Some p → AllByRecursion (λ (m : Stood). IsMark m.mark) p.marks
small_at tries was ended worker [] are i p at = absurd cc
small_at tries was ended worker (q ∷ parts) are zero p at =
    subst (λ (x : Part). AllByRecursion (λ (m : Stood). IsMark m.mark) x.marks) (same_Some q p at) are.0.small
small_at tries was ended worker (q ∷ parts) are (suc i) p at = small_at tries was ended (worker + 1) parts are.1 i p at

-- the marks of the part at a place
marks_at : (parts : List Part) (i : ℕ) (mine : List Stood)
    → slice_get (map (λ (share : Share). share.marks) (shares_of parts)) i ≡ Some mine
    → (p : Part) × (slice_get parts i ≡ Some p) × (p.marks ≡ mine)
marks_at [] i mine at = absurd cc
marks_at (p ∷ parts) zero mine at = (p, refl, same_Some p.marks mine at)
marks_at (p ∷ parts) (suc i) mine at = marks_at parts i mine at

module _ {D : Type 0} (tells : D → Option (List ℕ)) (clock : D → ℕ) (image_at : D → ℕ → List ℕ → Type 0)
    (faults : D → ℕ) where
  -- how many marks the keeper knew of each worker
  pub known_marks : (counts : List ℕ) (was mid seated : View) (firsts olds : List LogState)
      (banks_first banks_mid : List D)
      → ShowsMarks tells clock image_at faults counts 8 was mid firsts olds banks_first banks_mid
      → seated ≡ with_made (seats_from 8 0) mid → length firsts ≡ 8 → length banks_first ≡ 8
      → (worker : ℕ) → worker < 8
      → length (get_or seated.parked worker bare_seat).marks ≡ length (marks_parked was worker) + 1
  known_marks counts was mid seated firsts olds banks_first banks_mid shows is eight banks_eight worker small =
      let at = there_at firsts worker (omega (arith, small, eight)) in
      let many = shows.logs_many in
      let there = there_at olds worker (omega (arith, small, eight, many)) in
      let long : length banks_mid ≡ 8 = ap (λ (l : List D). length l) shows.banks_are ∙ banks_eight in
      let bank = there_at banks_mid worker (omega (arith, small, long)) in
      let one = shows.each worker at.0 there.0 bank.0 small at.1 there.1 bank.1 in
      ap (λ (v : View). length (get_or v.parked worker bare_seat).marks) is
      ∙ ap (λ (l : List Mark). length l) one.marks
      ∙ length-append (marks_parked was worker) (core_mark there.0.mark ∷ [])

  pub beside_ran : (did : View → View → Type 0) (tries : ℕ) (round : Round) (keeper now : Pass) (first : Number)
      (ended : View) (logs_was logs : List LogState) (banks_was banks : List D) (outcomes : List (List Outcome))
      (ends : List LogEnd) → first.epoch ≡ (view keeper).epoch
      → (ran : RanSeated tells clock image_at faults did tries round (view keeper) ended logs_was logs banks_was banks
      outcomes ends) → (word count : ℕ) → HasAudited ended word count (view now) → OwnsBehind ended
      → BesideRan did (map (λ (share : Share). share.marks) (shares_of ran.ended.parts)) (shared_by keeper first)
      (shared_by now (clock_number word))
  beside_ran did tries round keeper now first ended logs_was logs banks_was banks outcomes ends epoch ran word count
      audited owns =
      let was = view keeper in
      let so = ran.ended in
      let behind = ran.behind in
      let timed = audited.0 in
      let layout : ended.layout ≡ behind.layout = so.layout ∙ sym (ran.went.layout ∙ ran.begins.layout) in
      record {
        from = ran.seated;
        to = behind;
        begins = begins_beside keeper first ran.seated epoch ran.begins;
        went = ran.went;
        did_so = ran.did_so;
        epoch = audited.1.keepers so.role ∙ so.epoch;
        pages = ap (λ (v : View). v.pages) audited.2.is ∙ ap (λ (v : View). v.pages) audited.1.is
            ∙ same_pages behind ended (ran.went.claimed ran.begins.claimed) owns layout so.fills so.pages;
        drops = ap (λ (v : View). v.drops) audited.2.is ∙ ap (λ (v : View). v.drops) audited.1.is ∙ so.drops;
        marks_met = ap (λ (v : View). v.met) audited.2.is ∙ ap (λ (v : View). v.met) audited.1.is ∙ so.met;
        known = λ worker small. omega (arith, ran.known worker small);
        met = λ x has small mine there low.
            let p = marks_at so.parts x.worker mine there in
            let role : timed.role ≡ Keeper = ap (λ (v : View). v.role) audited.1.is ∙ so.role in
            let made : timed.made ≡ [] = ap (λ (v : View). v.made) audited.1.is ∙ so.made in
            let met : timed.met ≡ behind.met = ap (λ (v : View). v.met) audited.1.is ∙ so.met in
            let at : IsMetAt (get_or timed.parked x.worker bare_seat).marks x =
            audited.2.met role x (subst (λ (l : List Met). Contains l x) (sym met) has) small
            (ap (times x.worker) made) in
            let words = words_at tries was ended 0 so.parts so.are x.worker x.worker p.0 (omega arith) p.1 in
            let seat : (get_or timed.parked x.worker bare_seat).marks
            ≡ marks_parked was x.worker ++ map core_of mine =
            ap (λ (v : View). (get_or v.parked x.worker bare_seat).marks) audited.1.is
            ∙ ap (λ (s : Seat). s.marks) (so.taken x.worker p.0 p.1) ∙ words
            ∙ ap (λ (l : List Stood). marks_parked was x.worker ++ map core_of l) p.2 in
            let many = ran.known x.worker small in
            let among = behind_front (marks_parked was x.worker) mine x.place at.0 (omega (arith, low, many))
            (ap (λ (l : List Mark). slice_get l x.place) (sym seat) ∙ at.1) in
            let place : x.place - (length (get_or ran.seated.parked x.worker bare_seat).marks - 1)
            ≡ x.place - length (marks_parked was x.worker) = omega (arith, many) in
            let small = small_at tries was ended 0 so.parts so.are x.worker p.0 p.1 in (
              among.0,
              ap (slice_get mine) place ∙ among.1,
              all_at (λ (m : Stood). IsMark m.mark) mine
                  (x.place - length (marks_parked was x.worker)) among.0
                  (subst (AllByRecursion (λ (m : Stood). IsMark m.mark)) p.2 small) among.1,
              at.2 ∙ ap word_of_mark (sym among.2),
            );
      }
