-- The marks of a round's workers, as the causes and the saves speak of them.
use Rattle.std.proofs.Common.{◌≡◌, ◌∙◌, ◌≤◌, ◌<◌, ◌+◌, ◌-◌, ◌∷◌, sym, ap, subst, refl, ℕ, zero, suc, List, []}
use Rattle.std.proofs.Common.{arith, get_or, length, map, Option, Some, None}
use Rattle.std.specs.Prelude.{Contains, replicate, slice_get, ⊤}
use Rattle.std.specs.List.{AllByRecursion}
use Rattle.std.proofs.lemmas.Option.{same_Some}
use Rattle.lists.specs.Elements.{at_in}
use Rattle.serial_model.specs.declared.op.Op.{Op}
use Rattle.wire_form.specs.declared.clock.Mark.{Mark}
use Rattle.tx_script.specs.Causes.{AreMarksOf}
use Rattle.tx_script.specs.Run.{Ran}
use Rattle.tx_script.specs.Seen.{AllInOrder, AreAt, AreEpochs, AreMarksInOrder, NeverBack}
use Rattle.tx_script.specs.SeenLaws.{seen_no_less}
use Rattle.worker_logs.specs.Shown.{Stood}
use Rattle.shared_rounds.specs.Shares.{BeginsAt, shown_epochs}
use Rattle.shared_rounds.specs.Workers.{IsEpochBefore}
use Rattle.round_engine.specs.Keeping.{AreSeenFrom, GoOn, epochs_in}
use Rattle.round_engine.specs.RanRound.{AreRoundMarks}
use Rattle.round_engine.specs.SideLines.{AllStoodAt, AreStoodAt}
use Rattle.round_engine.proofs.SideSeen.{stood_at}

-- a mark of this epoch at least, or of an idle worker
abbrev pub IsAtLeast : ℕ → Option ℕ → Type 0
IsAtLeast low None = ⊤
IsAtLeast low (Some epoch) = low ≤ epoch

-- ---- what saves saw

-- a mark that stands at a place is one of the worker's
at_marks : (marks : List (List (Option ℕ))) (places : List ℕ) (seen : List (Option ℕ)) → AreAt marks places seen
    → AreMarksOf marks seen
at_marks [] [] [] all = tt
at_marks [] [] (m ∷ seen) all = absurd all
at_marks [] (p ∷ places) seen all = absurd all
at_marks (mine ∷ marks) [] seen all = absurd all
at_marks (mine ∷ marks) (p ∷ places) [] all = absurd all
at_marks (mine ∷ marks) (p ∷ places) (m ∷ seen) all = (at_in mine p m all.0, at_marks marks places seen all.1)

-- so it is of all that saves saw
pub stood_marks : (marks : List (List Stood)) (places : List (List ℕ)) (seen : List (List Mark))
    → AllStoodAt marks places seen
    → AllByRecursion (λ (these : List Mark). AreMarksOf (map shown_epochs marks) (epochs_in these)) seen
stood_marks marks [] [] all = tt
stood_marks marks [] (m ∷ seen) all = absurd all
stood_marks marks (p ∷ places) [] all = absurd all
stood_marks marks (p ∷ places) (m ∷ seen) all = (
  at_marks (map shown_epochs marks) p (epochs_in m) (stood_at marks p m all.0),
  stood_marks marks places seen all.1,
)

pub stood_long : (marks : List (List Stood)) (places : List (List ℕ)) (seen : List (List Mark))
    → AllStoodAt marks places seen → length places ≡ length seen
stood_long marks [] [] all = refl
stood_long marks [] (m ∷ seen) all = absurd all
stood_long marks (p ∷ places) [] all = absurd all
stood_long marks (p ∷ places) (m ∷ seen) all = ap suc (stood_long marks places seen all.1)

-- The places are told of the run, save by save.
pub stood_from : (ran : Ran) (marks : List (List Stood)) (index : ℕ) (places : List (List ℕ)) (seen : List (List Mark))
    → ran.beside.marks ≡ map shown_epochs marks
    → ((i : ℕ) → slice_get ran.beside.seen (index + i) ≡ slice_get places i)
    → AllStoodAt marks places seen → AreSeenFrom ran index seen
stood_from ran marks index [] [] are told all = tt
stood_from ran marks index [] (m ∷ seen) are told all = absurd all
stood_from ran marks index (p ∷ places) [] are told all = absurd all
stood_from ran marks index (p ∷ places) (m ∷ seen) are told all = (
  record {
    places = p;
    told = subst (λ n. slice_get ran.beside.seen n ≡ Some p) (plus_zero index) (told 0);
    stood = subst (λ l. AreAt l p (epochs_in m)) (sym are) (stood_at marks p m all.0);
  },
  stood_from ran marks (index + 1) places seen are
      (λ i. subst (λ n. slice_get ran.beside.seen n ≡ slice_get places i) (plus_suc index i) (told (suc i))) all.1,
)
  where
    plus_zero : (n : ℕ) → n + 0 ≡ n
    plus_zero n = omega arith

    plus_suc : (n i : ℕ) → n + suc i ≡ (n + 1) + i
    plus_suc n i = omega arith

-- Of each worker what a save saw is one of the marks that were shown.
pub stood_shown : (marks : List (List Stood)) (places : List ℕ) (seen : List Mark) → AreStoodAt marks places seen
    → (w : ℕ) (m : Mark) → slice_get seen w ≡ Some m → (s : Stood) × Contains (get_or marks w []) s × (s.mark ≡ m)
stood_shown [] [] [] all w m at = absurd (let no = at in cc)
stood_shown [] [] (x ∷ seen) all w m at = absurd all
stood_shown [] (p ∷ places) seen all w m at = absurd all
stood_shown (mine ∷ marks) [] seen all w m at = absurd all
stood_shown (mine ∷ marks) (p ∷ places) [] all w m at = absurd all
stood_shown (mine ∷ marks) (p ∷ places) (x ∷ seen) all zero m at =
    (all.0.0, at_in mine p all.0.0 all.0.1, all.0.2 ∙ same_Some x m at)
stood_shown (mine ∷ marks) (p ∷ places) (x ∷ seen) all (suc w) m at = stood_shown marks places seen all.1 w m at

pub stood_many : (marks : List (List Stood)) (places : List ℕ) (seen : List Mark) → AreStoodAt marks places seen
    → length seen ≡ length marks
stood_many [] [] [] all = refl
stood_many [] [] (x ∷ seen) all = absurd all
stood_many [] (p ∷ places) seen all = absurd all
stood_many (mine ∷ marks) [] seen all = absurd all
stood_many (mine ∷ marks) (p ∷ places) [] all = absurd all
stood_many (mine ∷ marks) (p ∷ places) (x ∷ seen) all = ap suc (stood_many marks places seen all.1)

-- one of these lists stood at some places
pub stood_one : (marks : List (List Stood)) (places : List (List ℕ)) (seen : List (List Mark)) (these : List Mark)
    → AllStoodAt marks places seen → Contains seen these → (p : List ℕ) × AreStoodAt marks p these
stood_one marks [] [] these all has = absurd (omega (arith, has.1))
stood_one marks [] (m ∷ seen) these all has = absurd all
stood_one marks (p ∷ places) [] these all has = absurd all
stood_one marks (p ∷ places) (m ∷ seen) these all (zero, below, same) = (p, subst (AreStoodAt marks p) same all.0)
stood_one marks (p ∷ places) (m ∷ seen) these all (suc k, below, same) =
    stood_one marks places seen these all.1 (k, omega (arith, below), same)

-- and of the places of one save it is those that it saw
pub stood_two : (marks : List (List Stood)) (places : List (List ℕ)) (seen : List (List Mark)) (k : ℕ) (p : List ℕ)
    (these : List Mark) → AllStoodAt marks places seen → slice_get places k ≡ Some p → slice_get seen k ≡ Some these
    → AreStoodAt marks p these
stood_two marks [] [] k p these all at there = absurd (let no = at in cc)
stood_two marks [] (m ∷ seen) k p these all at there = absurd all
stood_two marks (q ∷ places) [] k p these all at there = absurd all
stood_two marks (q ∷ places) (m ∷ seen) zero p these all at there =
    subst (λ l. AreStoodAt marks l these) (same_Some q p at)
    (subst (AreStoodAt marks q) (same_Some m these there) all.0)
stood_two marks (q ∷ places) (m ∷ seen) (suc k) p these all at there =
    stood_two marks places seen k p these all.1 at there

pub stood_place : (marks : List (List Stood)) (places : List ℕ) (seen : List Mark) → AreStoodAt marks places seen
    → (w place : ℕ) → slice_get places w ≡ Some place
    → (s : Stood) × (slice_get (get_or marks w []) place ≡ Some s) × (slice_get seen w ≡ Some s.mark)
stood_place [] [] seen all w place at = absurd (let no = at in cc)
stood_place [] (p ∷ places) seen all w place at = absurd all
stood_place (mine ∷ marks) [] seen all w place at = absurd (let no = at in cc)
stood_place (mine ∷ marks) (p ∷ places) [] all w place at = absurd all
stood_place (mine ∷ marks) (p ∷ places) (x ∷ seen) all zero place at = (
  all.0.0,
  subst (λ n. slice_get mine n ≡ Some all.0.0) (same_Some p place at) all.0.1,
  ap Some (sym all.0.2),
)
stood_place (mine ∷ marks) (p ∷ places) (x ∷ seen) all (suc w) place at = stood_place marks places seen all.1 w place at

-- ---- from save to save

-- No save holds an epoch back that one before it had left.
pub stood_on : (marks : List (List Stood)) (low : List ℕ) (from : List Mark) (places : List (List ℕ))
    (seen : List (List Mark)) → AllInOrder (map shown_epochs marks)
    → AreAt (map shown_epochs marks) low (epochs_in from) → NeverBack low places → AllStoodAt marks places seen
    → GoOn from seen
stood_on marks low from [] [] order stood back all = tt
stood_on marks low from [] (m ∷ seen) order stood back all = absurd all
stood_on marks low from (p ∷ places) [] order stood back all = absurd all
stood_on marks low from (p ∷ places) (m ∷ seen) order stood back all =
    let at = stood_at marks p m all.0 in (
      seen_no_less (map shown_epochs marks) low p (epochs_in from) (epochs_in m) order stood at back.0,
      stood_on marks p m places seen order at back.1 all.1,
    )

-- ---- the first marks

-- the first that was shown of a worker
abbrev pub first_of : List Stood → Mark
first_of [] = record { epoch = None; length = 0 }
first_of (s ∷ mine) = s.mark

-- and of each
abbrev pub firsts : List (List Stood) → List Mark
firsts marks = map first_of marks

-- there is one of each
pub first_at : (marks : List (List Stood))
    → ((w : ℕ) (mine : List Stood) → slice_get marks w ≡ Some mine → mine ≡ [] → ⊥)
    → AreAt (map shown_epochs marks) (replicate (length marks) 0) (epochs_in (firsts marks))
first_at [] some = tt
first_at ([] ∷ marks) some = absurd (some 0 [] refl refl)
first_at ((s ∷ mine) ∷ marks) some = (refl, first_at marks (λ w l at. some (suc w) l at))

-- as a round begins they hold back no epoch that is before its own
pub begins_low : (lines : List (List Op)) (mine : List Stood) (epoch low : ℕ) → low < epoch → BeginsAt epoch lines mine
    → IsAtLeast low (first_of mine).epoch
begins_low lines [] epoch low above begins = absurd begins
begins_low [] (m ∷ mine) epoch low above begins = subst (IsAtLeast low) (sym begins.0) tt
begins_low (ops ∷ lines) (m ∷ mine) epoch low above begins = subst (IsAtLeast low) (sym begins) (omega (arith, above))

pub begins_some : (lines : List (List Op)) (mine : List Stood) (epoch : ℕ) → BeginsAt epoch lines mine → mine ≡ [] → ⊥
begins_some lines [] epoch begins none = begins
begins_some lines (m ∷ mine) epoch begins none = cc

-- ---- the marks of one worker

-- epochs that never fall are some epochs, none of them below the first
epochs_set : (low : ℕ) (epochs : List (Option ℕ)) → AreEpochs low epochs
    → (set : List ℕ) × (epochs ≡ map Some set) × AllByRecursion (λ (e : ℕ). low ≤ e) set
epochs_set low [] all = ([], refl, tt)
epochs_set low (None ∷ epochs) all = absurd all
epochs_set low (Some e ∷ epochs) all =
    let rest = epochs_set e epochs all.1 in
    (e ∷ rest.0, ap (λ l. Some e ∷ l) rest.1, (all.0, lower e rest.0 all.0 rest.2))
  where
    lower : (e : ℕ) (set : List ℕ) → low ≤ e → AllByRecursion (λ (x : ℕ). e ≤ x) set
        → AllByRecursion (λ (x : ℕ). low ≤ x) set
    lower e [] le all = tt
    lower e (x ∷ set) le all = (omega (arith, le, all.0), lower e set le all.1)

-- and each is before the last
set_below : (high : ℕ) (marks : List Stood) (set : List ℕ) → shown_epochs marks ≡ map Some set
    → AllByRecursion (λ (m : Stood). IsEpochBefore high m.mark.epoch) marks → 1 ≤ high
    → AllByRecursion (λ (e : ℕ). e + 1 ≤ high) set
set_below high [] [] same below some = tt
set_below high [] (e ∷ set) same below some = absurd cc
set_below high (m ∷ marks) [] same below some = absurd cc
set_below high (m ∷ marks) (e ∷ set) same below some =
    let is : m.mark.epoch ≡ Some e = cc in
    let less = subst (IsEpochBefore high) is below.0 in
    (omega (arith, less, some), set_below high marks set (cc) below.1 some)

both_clocks : (first last : ℕ) (set : List ℕ) → AllByRecursion (λ (e : ℕ). first - 1 ≤ e) set
    → AllByRecursion (λ (e : ℕ). e + 1 ≤ last) set
    → AllByRecursion (λ (e : ℕ). (first ≤ e + 1) × (e + 1 ≤ last)) set
both_clocks first last [] low high = tt
both_clocks first last (e ∷ set) low high =
    ((omega (arith, low.0), high.0), both_clocks first last set low.1 high.1)

-- The marks that were shown of a worker are those of the round: the one that it had at its begin, and others.
pub worker_marks : (lines : List (List Op)) (had : Option ℕ) (first high last : ℕ) (shown : List Stood) → 1 ≤ first
    → first ≤ high → high ≤ last → ((lines ≡ [] → ⊥) → had ≡ Some (first - 1)) → BeginsAt first lines shown
    → AreMarksInOrder (shown_epochs shown)
    → AllByRecursion (λ (m : Stood). IsEpochBefore high m.mark.epoch) shown
    → AreRoundMarks lines had first last (shown_epochs shown)
worker_marks lines had first high last [] some up end joined begins order below = absurd begins
worker_marks [] had first high last (m ∷ more) some up end joined begins order below = record {
  idle = λ none. ap (λ e. e ∷ shown_epochs more) begins.0 ∙ ap (λ l. None ∷ shown_epochs l) begins.1;
  set = [];
  begins = λ not. absurd (not refl);
  clocks = tt;
}
worker_marks (ops ∷ lines) had first high last (m ∷ more) some up end joined begins order below =
    let rest : AreEpochs (first - 1) (shown_epochs more) =
    subst (λ e. AreMarksInOrder (e ∷ shown_epochs more)) begins order in
    let set = epochs_set (first - 1) (shown_epochs more) rest in
    let less = set_below high more set.0 set.1 below.1 (omega (arith, some, up)) in
    record {
      idle = λ none. absurd (let no = none in cc);
      set = set.0;
      begins = λ not. ap (λ e. e ∷ shown_epochs more) (begins ∙ sym (joined not)) ∙ ap (λ l. had ∷ l) set.1;
      clocks = both_clocks first last set.0 set.2 (all_most set.0 less);
    }
  where
    all_most : (set : List ℕ) → AllByRecursion (λ (e : ℕ). e + 1 ≤ high) set
        → AllByRecursion (λ (e : ℕ). e + 1 ≤ last) set
    all_most [] all = tt
    all_most (e ∷ set) all = (omega (arith, all.0, end), all_most set all.1)
