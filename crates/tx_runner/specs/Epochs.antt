-- The clock's epochs, and workers' marks.
use Rattle.std.specs.Prelude.{◌≡◌, ℕ, ◌+◌, ◌/◌, ◌^◌, ◌≤◌, ◌<◌, List, [], ◌∷◌, ◌++◌, length, get_or, Some}
use Rattle.std.specs.Prelude.{Contains, Option, slice_get, ⊤}
use Rattle.std.specs.List.{AllByRecursion}
use Rattle.serial_model.specs.Numbers.{last_epoch}
use Rattle.wire_form.specs.declared.clock.Mark.{Mark}
use Rattle.wire_form.specs.Words.{IsMark, mark_word}
use Rattle.commit_core.specs.CoreState.{mark_of, last_marked}
use Rattle.commit_core.specs.declared.attempt.Attempt.{Attempt}
use Rattle.commit_core.specs.declared.seat.Mark as core
use Rattle.engine_pages.specs.declared.view.Glance.{Glance}
use Rattle.engine_pages.specs.declared.view.Met.{Met}
use Rattle.engine_pages.specs.declared.view.Role.TheVariants.{Keeper}
use Rattle.engine_pages.specs.declared.view.View.{View}
use Rattle.engine_seats.specs.Clock.{advanced, met_at, IsLast}
use Rattle.engine_seats.specs.Cuts.{HasSeen}
use Rattle.engine_pages.specs.Layout.{clock_at, mark_at}
use Rattle.engine_pages.specs.Words.{word_of_mark}
use Rattle.engine_pages.specs.Views.{bare_seat}
use Rattle.views.specs.Sums.{times}
use Rattle.engine_pages.specs.Steps.{glance}
use Rattle.engine_pages.specs.Times.{past_at, HasTimed}

-- ---- the clock

-- The pass saw the clock in this epoch, which is none below the one that it saw before, and for the keeper that one; it
-- is above the last that the pass's seat marked, and no number was drawn of a later one. That was the last word that it
-- loaded, with one step. Of its own nothing has changed.
pub record HasSeenEpoch (epoch : ℕ) (v w : View) : Type 0 where
  pub now : w.epoch ≡ epoch
  pub rises : v.epoch ≤ epoch
  pub few : epoch ≤ last_epoch
  pub keepers : v.role ≡ Keeper → epoch ≡ v.epoch
  pub marked : last_marked v.seat.marks < epoch
  pub drawn : (a : Attempt) → Contains w.history a → a.number.epoch ≤ epoch
  pub steps : w.steps ≡ v.steps + 1
  pub looked : (n : ℕ) × (w.last ≡ Some (glance v.steps clock_at n)) × (n / 2 ^ 40 ≡ epoch)
  pub seen : HasSeen v w
  pub layout : w.layout ≡ v.layout
  pub role : w.role ≡ v.role
  pub made : w.made ≡ v.made
  pub past : w.past ≡ past_at v.role v.made v.past epoch
  pub parked : w.parked ≡ v.parked
  pub mine : w.mine ≡ v.mine
  pub draws : w.draws ≡ v.draws
  pub due : w.due ≡ v.due
  pub seat : w.seat ≡ v.seat
  pub took : w.took ≡ v.took
  pub refused : w.refused ≡ v.refused
  pub touched : w.touched ≡ v.touched
  pub blamed : w.blamed ≡ v.blamed
  pub met : w.met ≡ v.met
  pub grip : w.grip ≡ v.grip
  pub ways : w.ways ≡ v.ways
  pub known : w.known ≡ v.known
  pub branches : w.inners ≡ v.inners
  pub drafts : w.drafts ≡ v.drafts
  pub copies : w.copies ≡ v.copies
  pub blanks : w.blanks ≡ v.blanks
  pub leaves : w.new_leaves ≡ v.new_leaves
  pub inners : w.new_inners ≡ v.new_inners
  pub heads : w.heads ≡ v.heads
  pub pages : w.pages ≡ v.pages
  pub fills : w.fills ≡ v.fills
  pub shuts : w.shuts ≡ v.shuts
  pub leads : w.leads ≡ v.leads
  pub drops : w.drops ≡ v.drops

-- the keeper saw the clock in its epoch, which was not the last, and has moved it on to this one
pub record HasAdvanced (epoch : ℕ) (v w : View) : Type 0 where
  pub loaded : View
  pub seen : HasSeenEpoch v.epoch v loaded
  pub low : v.epoch < last_epoch
  pub next : epoch ≡ v.epoch + 1
  pub is : w ≡ advanced loaded

-- the keeper saw the clock, which had this word, in the last epoch
pub record IsLastEpoch (clock : ℕ) (v w : View) : Type 0 where
  pub timed : HasTimed v clock w
  pub last : clock / 2 ^ 40 ≡ last_epoch

-- ---- marks

-- The pass's mark holds back no epoch before this one: it isn't idle, and has the epoch before or a later one.
pub record IsMarkedUpTo (clock : ℕ) (v : View) : Type 0 where
  pub epoch : ℕ
  pub mark : mark_of v.seat.marks ≡ Some epoch
  pub late : clock ≤ epoch + 1

-- the marks of the workers from this one on, as they are met, each at its place among those of its seat
abbrev pub mets_of : ℕ → List Mark → List ℕ → List Met
mets_of worker [] places = []
mets_of worker (mark ∷ marks) [] = []
mets_of worker (mark ∷ marks) (place ∷ places) =
    met_at worker (mark_word mark) place ∷ mets_of (worker + 1) marks places

-- the last load behind those of the marks of the workers from this one on
abbrev pub last_of : ℕ → ℕ → List Mark → Option Glance → Option Glance
last_of step worker [] last = last
last_of step worker (mark ∷ marks) last =
    last_of (step + 1) (worker + 1) marks (Some (glance step (mark_at worker) (mark_word mark)))

-- the mark is the last of those that the seat has
pub record IsLastOf (mark : Mark) (marks : List core.Mark) : Type 0 where
  pub set : core.Mark
  pub last : IsLast set marks
  pub word : word_of_mark set ≡ mark_word mark

-- what is parked at the keeper's of the workers from this one on, where they aren't seated, has these marks last
abbrev pub AreLast : View → ℕ → List Mark → Type 0
AreLast v worker [] = ⊤
AreLast v worker (mark ∷ marks) =
    (times worker v.made ≡ 0 → IsLastOf mark (get_or v.parked worker bare_seat).marks) × AreLast v (worker + 1) marks

-- The marks of the first workers were loaded, one for each, in one load each, and each stands at its place among those
-- of its seat: no mark of the worker that the pass had met stands behind it, nor does any that the keeper knew of as it
-- seated the worker. For the keeper, that of a worker which isn't seated is the last that it set. Nothing else of the
-- pass has changed.
pub record HasMetAll (marks : List Mark) (v w : View) : Type 0 where
  pub each : AllByRecursion IsMark marks
  pub parked : v.role ≡ Keeper → AreLast v 0 marks
  pub places : List ℕ
  pub count : length places ≡ length marks
  pub rises : (x : Met) → Contains v.met x → (place : ℕ) → slice_get places x.worker ≡ Some place → x.place ≤ place
  pub begun : v.role ≡ Keeper → (worker place : ℕ) → slice_get places worker ≡ Some place
      → length (get_or v.parked worker bare_seat).marks ≤ place + 1
  pub is : w ≡ record v {
    steps = v.steps + length marks;
    last = last_of v.steps 0 marks v.last;
    met = v.met ++ mets_of 0 marks places;
  }
