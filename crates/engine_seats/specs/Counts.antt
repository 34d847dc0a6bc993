-- What a load of the count of decisions tells.
use Rattle.std.specs.Prelude.{◌≡◌, ℕ, ◌<◌, ◌≤◌, true, filter, List, [], length, get_or, Contains}
use Rattle.atomic_table.specs.Table.{Step}
use Rattle.lists.specs.Fronts.{IsFront}
use Rattle.serial_model.specs.declared.key.Key.{Key}
use Rattle.serial_model.specs.declared.number.Number.{Number}
use Rattle.homes.specs.declared.places.Content.{Content}
use Rattle.commit_core.specs.declared.attempt.Attempt.{Attempt}
use Rattle.commit_core.specs.CoreState.{clock_of, is_decided}
use Rattle.commit_core.specs.Serial.{ReadsAreSerial, ReadsFrom, state_below}
use Rattle.commit_core.specs.Sound.Numbers.{EachOnce, OrderedNumbers}
use Rattle.commit_core.specs.Sound.Reads.{PartsArePast}
use Rattle.views.specs.Sums.{times, total}
use Rattle.engine_pages.specs.declared.view.Met.{Met}
use Rattle.engine_pages.specs.declared.view.Role.TheVariants.{Keeper}
use Rattle.engine_pages.specs.declared.view.View.{View}
use Rattle.engine_pages.specs.Layout.{decisions_at}
use Rattle.engine_pages.specs.Steps.{glanced}
use Rattle.engine_pages.specs.Times.{HasTimed}
use Rattle.engine_pages.specs.Touches.{touch, AreBlamed}
use Rattle.engine_pages.specs.Views.{bare_seat}
use Rattle.engine_seats.specs.Clock.{IsMetAt}

-- The decided attempts, in order of number, read serially from the opening, and each read what the state below it has.
pub record AreSerial (opening : List (Key × Content)) (history : List Attempt) (decided : List Number) : Type 0 where
  pub run : ReadsAreSerial opening (filter (λ a. is_decided decided a.number) history)
  pub reads : (a : Attempt) → Contains history a → is_decided decided a.number ≡ true
      → ReadsFrom (state_below opening history decided a.number) a

-- All draws and decisions are now seen, and so many attempts count, each of which was drawn and counts once. They are
-- serial from what stood at keys at first. Where no worker is seated, they are the keeper's own, it drew as many
-- numbers as there are, and wherever a transaction was refused with Conflict at a record since somebody was first
-- seated, another seat has taken a lock of that key since then. Each mark that the keeper met of a worker who isn't
-- seated now stands at its place among those that the worker's seat has set.
pub record HasCounted (v : View) (n : ℕ) (w : View) : Type 0 where
  pub history : IsFront v.history w.history
  pub decided : IsFront v.decided w.decided
  pub count : length w.decided ≡ n
  pub drawn : (number : Number) → is_decided w.decided number ≡ true
      → (a : Attempt) × Contains w.history a × (a.number ≡ number)
  pub once : EachOnce w.decided
  -- The numbers of all that were drawn rise strictly, above those of what stood at keys at first, and are below the
  -- clock's; that is in an epoch which is none below the one that was seen, and for the keeper in that one.
  pub epoch : ℕ
  pub later : v.epoch ≤ epoch
  pub keepers : v.role ≡ Keeper → epoch ≡ v.epoch
  pub ordered : OrderedNumbers v.layout.opening w.history w.decided (clock_of v.layout.first.draw epoch w.history)
  -- Each attempt, decided or not, had read what stood at first or was written with a number below its own.
  pub past : PartsArePast v.layout.opening w.history
  pub serial : AreSerial v.layout.opening w.history w.decided
  pub all : v.role ≡ Keeper → v.made ≡ [] → (h : Number → ℕ) → total (λ a. h a.number) v.mine ≡ total h w.decided
  pub draws : v.role ≡ Keeper → v.made ≡ [] → v.draws ≡ length w.history
  pub blamed : v.role ≡ Keeper → v.made ≡ [] → AreBlamed (λ q k. Contains v.touched (touch q k)) v.blamed
  pub met : v.role ≡ Keeper → (x : Met) → Contains v.met x → x.worker < 8 → times x.worker v.made ≡ 0
      → IsMetAt (get_or v.parked x.worker bare_seat).marks x
  pub is : w ≡ record (glanced decisions_at n v) { history = w.history; decided = w.decided }

-- the same of the step
abbrev pub Counts : Step (Unit {0}) → View → ℕ → View → Type 0
Counts s v n w = HasCounted v n w

-- the clock was seen, and then the count of decisions
abbrev pub HasAudited : View → ℕ → ℕ → View → Type 0
HasAudited v clock n w = (timed : View) × HasTimed v clock timed × HasCounted timed n w
