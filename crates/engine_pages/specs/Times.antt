-- What a load of the clock tells.
use Rattle.std.specs.Prelude.{◌≡◌, ℕ, ◌+◌, ◌-◌, ◌/◌, ◌%◌, ◌^◌, ◌<◌, ◌≤◌, List, [], ◌∷◌, length, Contains}
use Rattle.atomic_table.specs.Table.{Step}
use Rattle.lists.specs.Fronts.{IsFront}
use Rattle.serial_model.specs.declared.number.Number.{Number}
use Rattle.serial_model.specs.Numbers.{IsBelow}
use Rattle.wire_form.specs.Words.{number_word}
use Rattle.commit_core.specs.declared.attempt.Attempt.{Attempt}
use Rattle.commit_core.specs.CoreState.{last_marked}
use Rattle.engine_pages.specs.declared.view.Heard.{Heard}
use Rattle.engine_pages.specs.declared.view.Role.{Role}
use Rattle.engine_pages.specs.declared.view.Role.TheVariants.{Keeper, Worker, Note, Spent}
use Rattle.engine_pages.specs.declared.view.View.{View}
use Rattle.engine_pages.specs.Layout.{clock_at}
use Rattle.engine_pages.specs.Steps.{glanced}
use Rattle.engine_pages.specs.Words.{IsSmall}

-- the epoch before the clock's is over, where the keeper has seated nobody; else the one that was known to be over
abbrev pub past_at : Role → List ℕ → ℕ → ℕ → ℕ
past_at Keeper [] past epoch = epoch - 1
past_at Keeper (worker ∷ more) past epoch = past
past_at (Worker w) made past epoch = past
past_at Note made past epoch = past
past_at Spent made past epoch = past

-- the clock had this word, and these draws and decisions were made
abbrev pub timed : List Attempt → List Number → ℕ → View → View
timed all chosen n v = record (glanced clock_at n v) {
  history = all;
  decided = chosen;
  heard = [];
  epoch = n / 2 ^ 40;
  past = past_at v.role v.made v.past (n / 2 ^ 40);
}

-- The clock was seen, and with it all draws and decisions: it counts the draws from the first one on, and is the next
-- number, above all that were drawn. It is in no epoch below the one that was seen, and for the keeper, who alone
-- advances it, in that one. What was heard stands at the beginning of what is seen, in an epoch that is none above it.
-- The last epoch that the pass's seat marked, whichever pass had the seat then, is below the clock's. Where no worker
-- is seated, the keeper drew as many numbers as there are.
pub record HasTimed (v : View) (n : ℕ) (w : View) : Type 0 where
  pub history : IsFront v.history w.history
  pub decided : IsFront v.decided w.decided
  pub heard : (x : Heard) → Contains v.heard x
      → IsFront x.history w.history × IsFront x.decided w.decided × (x.epoch ≤ n / 2 ^ 40)
  pub draws : n % 2 ^ 40 ≡ v.layout.first.draw + length w.history
  pub number : Number
  pub found : number_word number ≡ n
  pub small : IsSmall number
  pub below : (a : Attempt) → Contains w.history a → IsBelow a.number number
  pub epoch : v.epoch ≤ n / 2 ^ 40
  pub keepers : v.role ≡ Keeper → n / 2 ^ 40 ≡ v.epoch
  pub marked : last_marked v.seat.marks < n / 2 ^ 40
  pub own : v.role ≡ Keeper → v.made ≡ [] → v.draws ≡ length w.history
  pub is : w ≡ timed w.history w.decided n v

-- the same of the step
abbrev pub Times : Step (Unit {0}) → View → ℕ → View → Type 0
Times s v n w = HasTimed v n w
