-- The marks that the maintenance thread met beside running workers are those that their logs showed.
use Rattle.std.proofs.Common.{◌≡◌, ◌∙◌, ◌≤◌, ◌<◌, ◌+◌, ◌-◌, ◌*◌, ◌^◌, ◌∷◌, sym, ap, subst, refl, ℕ, zero, suc, List, []}
use Rattle.std.proofs.Common.{arith, get_or, length, map, Option, Some, None}
use Rattle.std.specs.Prelude.{Contains, IfSome, slice_get}
use Rattle.std.specs.List.{AllByRecursion}
use Rattle.std.proofs.lemmas.Option.{same_Some}
use Rattle.lists.specs.Elements.{in_head, in_tail}
use Rattle.serial_model.specs.Numbers.{last_epoch}
use Rattle.wire_form.specs.Words.{IsMark, mark_epoch, mark_word}
use Rattle.wire_form.specs.declared.clock.Mark.{Mark}
use Rattle.engine_pages.specs.Views.{bare_seat}
use Rattle.engine_pages.specs.declared.view.Met.{Met}
use Rattle.engine_pages.specs.declared.view.View.{View}
use Rattle.tx_script.specs.Seen.{AreAt, NeverBack, NoneBefore, first_places}
use Rattle.worker_logs.specs.Shown.{Stood}
use Rattle.shared_rounds.specs.Below.{met_at, mets_of}
use Rattle.shared_rounds.specs.Shares.{shown_epochs}
use Rattle.round_engine.specs.Keeping.{epochs_in}
use Rattle.round_engine.specs.SavesMet.{AreEights, AreSince, places_since}
use Rattle.round_engine.specs.SideLines.{all_met, AllMetAt, AllStoodAt, AreStoodAt, HasSeenMarks}
use Rattle.round_engine.proofs.SideSteps.{first_before, in_left, in_right}

-- ---- a mark's word has the mark

epoch_field : (one two : Option ℕ) → IfSome one (λ e. e ≤ last_epoch) → IfSome two (λ e. e ≤ last_epoch)
    → mark_epoch one ≡ mark_epoch two → one ≡ two
epoch_field None None le less same = refl
epoch_field None (Some e) le less same = absurd (omega (arith, same, less))
epoch_field (Some e) None le less same = absurd (omega (arith, same, le))
epoch_field (Some e) (Some f) le less same = ap Some same

-- the fields of a word
fields_low : (l m e f : ℕ) → l < 2 ^ 40 → m < 2 ^ 40 → l * 2 ^ 0 + e * 2 ^ 40 ≡ m * 2 ^ 0 + f * 2 ^ 40 → l ≡ m
fields_low l m e f low less same = omega (arith, low, less, same)

fields_high : (l m e f : ℕ) → l < 2 ^ 40 → m < 2 ^ 40 → l * 2 ^ 0 + e * 2 ^ 40 ≡ m * 2 ^ 0 + f * 2 ^ 40 → e ≡ f
fields_high l m e f low less same = omega (arith, low, less, same)

pub same_word : (one two : Mark) → IsMark one → IsMark two → mark_word one ≡ mark_word two → one ≡ two
same_word one two small other same =
    ap (λ (e : Option ℕ). let m : Mark = record { epoch = e; length = one.length } in m)
    (epoch_field one.epoch two.epoch small.epoch other.epoch
    (fields_high one.length two.length (mark_epoch one.epoch) (mark_epoch two.epoch) small.length other.length same))
    ∙ ap (λ (n : ℕ). let m : Mark = record { epoch = two.epoch; length = n } in m)
    (fields_low one.length two.length (mark_epoch one.epoch) (mark_epoch two.epoch) small.length other.length same)

-- ---- places among the marks of a round

-- how many marks of a worker stood before the round's, of which the last is its first
abbrev pub before_of : View → ℕ → ℕ
before_of v worker = length (get_or v.parked worker bare_seat).marks - 1

-- places from the worker of this number on, among the marks of the round
abbrev pub places_from : View → ℕ → List ℕ → List ℕ
places_from v worker places = places_since (before_of v) worker places

abbrev pub round_places : View → List (List ℕ) → List (List ℕ)
round_places v places = map (places_from v 0) places

from_long : (v : View) (worker : ℕ) (places : List ℕ) → length (places_from v worker places) ≡ length places
from_long v worker [] = refl
from_long v worker (p ∷ places) = ap suc (from_long v (worker + 1) places)

from_none : (v : View) (worker : ℕ) (these others : List ℕ) → NoneBefore these others
    → NoneBefore (places_from v worker these) (places_from v worker others)
from_none v worker [] [] none = tt
from_none v worker [] (q ∷ others) none = none
from_none v worker (p ∷ these) [] none = none
from_none v worker (p ∷ these) (q ∷ others) none = (omega (arith, none.0), from_none v (worker + 1) these others none.1)

from_back : (v : View) (low : List ℕ) (places : List (List ℕ)) → NeverBack low places
    → NeverBack (places_from v 0 low) (round_places v places)
from_back v low [] back = tt
from_back v low (these ∷ places) back = (from_none v 0 low these back.0, from_back v these places back.1)

-- there is a place of each worker
abbrev pub AllLong : List (List ℕ) → Type 0
AllLong places = AllByRecursion (λ (these : List ℕ). length these ≡ 8) places

-- from the first places on
pub round_back : (v : View) (places : List (List ℕ)) → NeverBack first_places places → AllLong places
    → NeverBack first_places (round_places v places)
round_back v [] back long = tt
round_back v (these ∷ places) back long =
    (first_before 8 (places_from v 0 these) (from_long v 0 these ∙ long.0), from_back v these places back.1)

zero_plus : (n : ℕ) → 0 + n ≡ n
zero_plus n = omega arith

module _ (v : View) (marks : List (List Stood)) (all : List Met)
    -- each mark that was met is one of those that the round's logs showed, at its place among them
    (among : (x : Met) → Contains all x → x.worker < 8 → (mine : List Stood) → slice_get marks x.worker ≡ Some mine
    → length (get_or v.parked x.worker bare_seat).marks ≤ x.place + 1
    → (m : Stood) × (slice_get mine (x.place - before_of v x.worker) ≡ Some m) × IsMark m.mark
    × (x.word ≡ mark_word m.mark)) where
  -- of one list, from a worker on
  stood_from : (worker : ℕ) (these : List Mark) (places : List ℕ) (shown : List (List Stood)) → worker + length these ≡ 8
      → length places ≡ length these → length shown ≡ length these
      → ((j : ℕ) → slice_get marks (worker + j) ≡ slice_get shown j)
      → AllByRecursion IsMark these
      → ((j place : ℕ) → slice_get places j ≡ Some place
      → length (get_or v.parked (worker + j) bare_seat).marks ≤ place + 1)
      → ((x : Met) → Contains (mets_of worker these places) x → Contains all x)
      → AreStoodAt shown (places_from v worker places) these
  stood_from worker [] [] [] end many long here small begun in_all = tt
  stood_from worker [] (p ∷ places) shown end many long here small begun in_all = absurd (omega (arith, many))
  stood_from worker [] [] (mine ∷ shown) end many long here small begun in_all = absurd (omega (arith, long))
  stood_from worker (m ∷ these) [] shown end many long here small begun in_all = absurd (omega (arith, many))
  stood_from worker (m ∷ these) (p ∷ places) [] end many long here small begun in_all = absurd (omega (arith, long))
  stood_from worker (m ∷ these) (p ∷ places) (mine ∷ shown) end many long here small begun in_all =
      let at : slice_get marks worker ≡ Some mine = subst (λ n. slice_get marks n ≡ Some mine) (plus_zero worker) (here 0) in
      let one = among (met_at worker (mark_word m) p)
      (in_all (met_at worker (mark_word m) p) (in_head (met_at worker (mark_word m) p) (mets_of (worker + 1) these places)))
      (omega (arith, end)) mine at
      (subst (λ n. length (get_or v.parked n bare_seat).marks ≤ p + 1) (plus_zero worker) (begun 0 p refl)) in (
        (one.0, one.1, sym (same_word m one.0.mark small.0 one.2 one.3)),
        stood_from (worker + 1) these places shown (omega (arith, end)) (omega (arith, many)) (omega (arith, long))
            (λ j. subst (λ n. slice_get marks n ≡ slice_get shown j) (plus_suc worker j) (here (suc j)))
            small.1
            (λ j place there. subst (λ n. length (get_or v.parked n bare_seat).marks ≤ place + 1) (plus_suc worker j)
            (begun (suc j) place there))
            (λ x has. in_all x (in_tail x (met_at worker (mark_word m) p) (mets_of (worker + 1) these places) has)),
      )
    where
      plus_zero : (n : ℕ) → n + 0 ≡ n
      plus_zero n = omega arith

      plus_suc : (n j : ℕ) → n + suc j ≡ (n + 1) + j
      plus_suc n j = omega arith

  -- list by list
  stood_all : (seen : List (List Mark)) (places : List (List ℕ)) → length marks ≡ 8 → AllMetAt v seen places
      → ((x : Met) → Contains (all_met seen places) x → Contains all x) → AllStoodAt marks (round_places v places) seen
  stood_all [] [] eight met in_all = tt
  stood_all [] (t ∷ places) eight met in_all = absurd met
  stood_all (m ∷ seen) [] eight met in_all = absurd met
  stood_all (m ∷ seen) (t ∷ places) eight met in_all = (
    stood_from 0 m t marks (omega (arith, met.0.eight)) (met.0.count ∙ sym met.0.eight) (eight ∙ sym met.0.eight)
        (λ j. ap (λ n. slice_get marks n) (zero_plus j)) met.0.each
        (λ j place there. subst (λ n. length (get_or v.parked n bare_seat).marks ≤ place + 1) (sym (zero_plus j))
        (met.0.begun j place there))
        (λ x has. in_all x (in_left (mets_of 0 m t) (all_met seen places) x has)),
    stood_all seen places eight met.1 (λ x has. in_all x (in_right (mets_of 0 m t) (all_met seen places) x has)),
  )

  -- What was seen stood there.
  pub stood_seen : (seen : List (List Mark)) (w : View) → length marks ≡ 8 → w.met ≡ all → (s : HasSeenMarks seen v w)
      → AllStoodAt marks (round_places v s.places) seen
  stood_seen seen w eight same s = stood_all seen s.places eight s.all (λ x has.
      subst (λ l. Contains l x) (sym s.met ∙ same) (in_right v.met (all_met seen s.places) x has))

-- ---- eight marks of each save, all of them of the round

-- each is one of the round
since_from : (v : View) (worker : ℕ) (places : List ℕ)
    → ((j place : ℕ) → slice_get places j ≡ Some place
    → length (get_or v.parked (worker + j) bare_seat).marks ≤ place + 1)
    → AreSince (before_of v) worker places
since_from v worker [] begun = tt
since_from v worker (p ∷ places) begun =
    let low = subst (λ n. length (get_or v.parked n bare_seat).marks ≤ p + 1) (plus_zero worker) (begun 0 p refl) in (
      omega (arith, low),
      since_from v (worker + 1) places (λ j place there.
          subst (λ n. length (get_or v.parked n bare_seat).marks ≤ place + 1) (plus_suc worker j)
          (begun (suc j) place there)),
    )
  where
    plus_zero : (n : ℕ) → n + 0 ≡ n
    plus_zero n = omega arith

    plus_suc : (n j : ℕ) → n + suc j ≡ (n + 1) + j
    plus_suc n j = omega arith

pub met_eights : (v : View) (seen : List (List Mark)) (places : List (List ℕ)) → AllMetAt v seen places
    → AreEights (before_of v) seen places
met_eights v [] [] all = tt
met_eights v [] (t ∷ places) all = absurd all
met_eights v (m ∷ seen) [] all = absurd all
met_eights v (m ∷ seen) (t ∷ places) all = (
  all.0.eight,
  all.0.count,
  since_from v 0 t (λ j place there. subst (λ n. length (get_or v.parked n bare_seat).marks ≤ place + 1)
      (sym (zero_plus j)) (all.0.begun j place there)),
  met_eights v seen places all.1,
)

-- ---- the epochs of marks that stood there

at_epochs : (mine : List Stood) (p : ℕ) (s : Stood) → slice_get mine p ≡ Some s
    → slice_get (shown_epochs mine) p ≡ Some s.mark.epoch
at_epochs [] p s at = absurd (let none = at in cc)
at_epochs (x ∷ mine) zero s at =
    let same : x ≡ s = same_Some x s at in
    ap (λ (y : Stood). Some y.mark.epoch) same
at_epochs (x ∷ mine) (suc p) s at = at_epochs mine p s at

pub stood_at : (marks : List (List Stood)) (places : List ℕ) (seen : List Mark) → AreStoodAt marks places seen
    → AreAt (map shown_epochs marks) places (epochs_in seen)
stood_at [] [] [] all = tt
stood_at [] [] (m ∷ seen) all = all
stood_at [] (p ∷ places) seen all = absurd (nothing places seen all)
  where
    nothing : (places : List ℕ) (seen : List Mark) → AreStoodAt [] (p ∷ places) seen → ⊥
    nothing places [] stood = stood
    nothing places (m ∷ seen) stood = stood
stood_at (mine ∷ marks) [] seen all = absurd (nothing seen all)
  where
    nothing : (seen : List Mark) → AreStoodAt (mine ∷ marks) [] seen → ⊥
    nothing [] stood = stood
    nothing (m ∷ seen) stood = stood
stood_at (mine ∷ marks) (p ∷ places) [] all = all
stood_at (mine ∷ marks) (p ∷ places) (m ∷ seen) all = (
  at_epochs mine p all.0.0 all.0.1 ∙ ap (λ (x : Mark). Some x.epoch) all.0.2,
  stood_at marks places seen all.1,
)
