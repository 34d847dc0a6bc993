-- What is done beside the workers' lines of a round, on the pass of the maintenance thread.
use Rattle.std.proofs.Common.{◌≡◌, ◌∙◌, ap, refl, subst, sym, arith}
use Rattle.std.specs.Prelude.{◌<◌, ◌≤◌, ◌+◌, ◌-◌, ℕ, List, [], Contains, get_or, length, slice_get, Some}
use Rattle.lists.specs.Fronts.{IsFront, front_length, front_refl, front_same, front_then}
use Rattle.serial_model.specs.Decls.{AreDecls}
use Rattle.engine_pages.specs.Views.{IsResting, bare_seat}
use Rattle.wire_form.specs.Words.{IsMark, mark_word}
use Rattle.engine_pages.specs.declared.view.Dropped.{Dropped}
use Rattle.engine_pages.specs.declared.view.Met.{Met}
use Rattle.engine_pages.specs.declared.view.Role.TheVariants.{Keeper}
use Rattle.engine_pages.specs.declared.view.View.{View}
use Rattle.engine_seats.specs.Cuts.{HasSeen}
use Rattle.resident_pages.specs.Fills.{AreClaimed}
use Rattle.worker_cells.specs.InARow.{seen_then}
use Rattle.worker_logs.specs.Shown.{Stood}
use Rattle.shared_rounds.specs.SharedState.{SharedState}
pub use Rattle.shared_rounds.specs.SharedState.{HoldsNothing}

-- The pass that seats workers went on beside them. Whoever is seated stays seated, and no seat of a worker changes. It
-- draws no number, is refused nothing, and has no commit more; it takes locks only for drops of pages, which it counts,
-- and keeps none. The clock may come further, and more pages may be published, as long as all room for such pages is its
-- own.
pub record Went (v w : View) : Type 0 where
  pub role : w.role ≡ v.role
  pub layout : w.layout ≡ v.layout
  pub made : w.made ≡ v.made
  pub parked : w.parked ≡ v.parked
  pub past : (v.made ≡ [] → ⊥) → w.past ≡ v.past
  pub seat : w.seat ≡ v.seat
  pub mine : w.mine ≡ v.mine
  pub draws : w.draws ≡ v.draws
  pub refused : w.refused ≡ v.refused
  pub drops : IsFront v.drops w.drops
  pub touched : w.drops ≡ v.drops → w.touched ≡ v.touched
  pub blamed : w.blamed ≡ v.blamed
  pub seen : HasSeen v w
  pub epoch : v.epoch ≤ w.epoch
  pub met : IsFront v.met w.met
  pub claimed : AreClaimed v → AreClaimed w
  pub free : HoldsNothing v → HoldsNothing w

-- nothing was done
pub went_none : (v : View) → Went v v
went_none v = record {
  role = refl;
  layout = refl;
  made = refl;
  parked = refl;
  past = λ some. refl;
  seat = refl;
  mine = refl;
  draws = refl;
  refused = refl;
  drops = front_refl v.drops;
  touched = λ same. refl;
  blamed = refl;
  seen = record { history = front_refl v.history; decided = front_refl v.decided };
  epoch = omega arith;
  met = front_refl v.met;
  claimed = λ claims. claims;
  free = λ nothing. nothing;
}

-- what stands between two equal lists, each the front of the next one
between : (a b c : List Dropped) → IsFront a b → IsFront b c → c ≡ a → b ≡ a
between a b c first next same =
    let low = front_length a b first in
    let high = front_length b c next in
    let long : length c ≡ length a = ap (λ (l : List Dropped). length l) same in
    sym (front_same a b c (front_then a b c first next) next (omega (arith, low, high, long)))

-- one thing after another
pub went_then : (u v w : View) → Went u v → Went v w → Went u w
went_then u v w first next = record {
  role = next.role ∙ first.role;
  layout = next.layout ∙ first.layout;
  made = next.made ∙ first.made;
  parked = next.parked ∙ first.parked;
  past = λ some. next.past (λ none. some (sym_made none)) ∙ first.past some;
  seat = next.seat ∙ first.seat;
  mine = next.mine ∙ first.mine;
  draws = next.draws ∙ first.draws;
  refused = next.refused ∙ first.refused;
  drops = front_then u.drops v.drops w.drops first.drops next.drops;
  touched = λ same.
      let mid = between u.drops v.drops w.drops first.drops next.drops same in
      next.touched (same ∙ sym mid) ∙ first.touched mid;
  blamed = next.blamed ∙ first.blamed;
  seen = seen_then u v w first.seen next.seen;
  epoch = omega (arith, first.epoch, next.epoch);
  met = front_then u.met v.met w.met first.met next.met;
  claimed = λ claims. next.claimed (first.claimed claims);
  free = λ nothing. next.free (first.free nothing);
}
  where
    sym_made : v.made ≡ [] → u.made ≡ []
    sym_made none = subst (λ l. l ≡ []) first.made none

-- The keeper's view as the lines of a round begin, and the one that it had as the round began: all workers are seated,
-- and the epoch before the clock's is over. All room for pages that are not published yet is its own, and it has nothing
-- of the pages in memory.
pub record BeginsOn (was v : View) : Type 0 where
  pub role : v.role ≡ Keeper
  pub made : v.made ≡ [] → ⊥
  pub epoch : v.epoch ≡ was.epoch
  pub past : v.past + 1 ≡ was.epoch
  pub layout : v.layout ≡ was.layout
  pub few : v.layout.resident ≤ 65536
  pub pages : v.pages ≡ was.pages
  pub claimed : AreClaimed v
  pub rests : IsResting v.seat
  pub declared : AreDecls v.layout.decls
  pub drops : v.drops ≡ was.drops
  pub met : v.met ≡ was.met
  pub free : HoldsNothing v

-- the same on an engine, of which nothing else is known
pub record BeginsBeside (s : SharedState) (v : View) : Type 0 where
  pub role : v.role ≡ Keeper
  pub made : v.made ≡ [] → ⊥
  pub epoch : v.epoch ≡ s.clock.epoch
  pub past : v.past + 1 ≡ s.clock.epoch
  pub decls : v.layout.decls ≡ s.decls
  pub slots : v.layout.slots ≡ s.slots
  pub resident : v.layout.resident ≡ s.resident
  pub few : v.layout.resident ≤ 65536
  pub pages : v.pages ≡ s.pages
  pub claimed : AreClaimed v
  pub rests : IsResting v.seat
  pub declared : AreDecls v.layout.decls
  pub drops : v.drops ≡ s.drops
  pub met : v.met ≡ s.met
  pub free : HoldsNothing v

-- The mark that was met of a worker, of whom the keeper knew so many marks as the lines began, is one of these, which
-- the words showed from the last of those on: it stands at its place among them.
abbrev pub IsMetAmong : ℕ → List Stood → Met → Type 0
IsMetAmong known marks met = (m : Stood) × (slice_get marks (met.place - (known - 1)) ≡ Some m)
    × IsMark m.mark × (met.word ≡ mark_word m.mark)

-- Beside the lines the maintenance thread did this on its own pass. What it met of marks is kept. Of each worker the
-- words showed these marks meanwhile, and each mark that it met from the round's begin on is one of them.
pub record BesideRan (did : View → View → Type 0) (marks : List (List Stood)) (was now : SharedState) : Type 0 where
  pub from : View
  pub to : View
  pub begins : BeginsBeside was from
  pub went : Went from to
  pub did_so : did from to
  pub epoch : now.clock.epoch ≡ to.epoch
  pub pages : now.pages ≡ to.pages
  pub drops : now.drops ≡ to.drops
  pub marks_met : now.met ≡ to.met
  pub known : (worker : ℕ) → worker < 8 → 1 ≤ length (get_or from.parked worker bare_seat).marks
  pub met : (x : Met) → Contains to.met x → x.worker < 8 → (mine : List Stood) → slice_get marks x.worker ≡ Some mine
      → length (get_or from.parked x.worker bare_seat).marks ≤ x.place + 1
      → IsMetAmong (length (get_or from.parked x.worker bare_seat).marks) mine x
