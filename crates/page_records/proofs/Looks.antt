-- Loads that are no act, where the view may have another value loaded, or see more of what stood at keys.
use Rattle.std.proofs.Common.{◌≡◌, ℕ, List, get_or, sym, subst, IfSome}
use Rattle.std.specs.List.{Contains}
use Rattle.lists.specs.Fronts.{IsFront, front_refl}
use Rattle.serial_model.specs.declared.number.Number.{Number}
use Rattle.commit_core.specs.declared.attempt.Attempt.{Attempt}
use Rattle.engine_pages.specs.declared.layout.Layout.{Layout}
use Rattle.engine_pages.specs.declared.view.Version.{Version}
use Rattle.engine_pages.specs.declared.view.View.{View}
use Rattle.engine_pages.specs.Rule.{Shared, IsOneOf, StillLoaded}
use Rattle.engine_pages.specs.Views.{IsActive, seat_number}
use Rattle.engine_pages.proofs.Facing.{Deals}
use Rattle.engine_pages.proofs.Joint.{shared_now}
use Rattle.engine_pages.proofs.Looking.{seen_fits}
use Rattle.engine_pages.proofs.Looks.{load_stride, room_same}
use Rattle.engine_pages.proofs.Seats.{is_at}
use Rattle.engine_pages.proofs.SlotSteps.{PagesNow}
use Rattle.engine_pages.proofs.Turns.{Stride, Begins}

-- the view has the same part of the commits, but for the value that it loaded and what it saw to have stood at keys
pub record SameRest (v w : View) : Type 0 where
  pub layout : w.layout ≡ v.layout
  pub role : w.role ≡ v.role
  pub made : w.made ≡ v.made
  pub past : w.past ≡ v.past
  pub parked : w.parked ≡ v.parked
  pub epoch : w.epoch ≡ v.epoch
  pub mine : w.mine ≡ v.mine
  pub draws : w.draws ≡ v.draws
  pub due : w.due ≡ v.due
  pub seat : w.seat ≡ v.seat
  pub checked : w.checked ≡ v.checked
  pub took : w.took ≡ v.took
  pub met : w.met ≡ v.met
  pub heard : w.heard ≡ v.heard
  pub history : w.history ≡ v.history
  pub decided : w.decided ≡ v.decided

module _ (l : Layout) (words : List ℕ) (views : List View) (s : Shared) (id : ℕ) (v : View) (active : IsActive v.role)
    (b : Begins l words views s id v) where
  -- what the view knows of pages, where none of that changes
  pub pages_same : PagesNow l words (shared_now s (seat_number v.role) s.story s.table s.trees s.resident v) v
  pages_same = record {
    within = b.pages.within;
    ways = b.pages.ways;
    drafts = b.pages.drafts;
    copies = b.pages.copies;
    blanks = b.pages.blanks;
    resident = b.pages.resident;
    leads = b.pages.leads;
    fills = b.pages.fills;
    known = b.pages.treed.known;
    shuts = b.pages.shuts (seat_number v.role) (is_at v.role active);
    heads = b.pages.treed.heads (seat_number v.role) (is_at v.role active);
    moved = b.pages.treed.moved;
    sealed = b.pages.treed.sealed (seat_number v.role) (is_at v.role active);
    inners = b.pages.treed.inners;
    new_leaves = b.pages.treed.new_leaves;
    new_inners = b.pages.treed.new_inners;
  }

module _ (l : Layout) (words : List ℕ) (views : List View) (s : Shared) (id : ℕ) (v : View) (active : IsActive v.role)
    (b : Begins l words views s id v) (i : ℕ) (f : ℕ → ℕ) (w : View) where
  pub look_loaded : (tells : View → ℕ → View → Type 0) → f (get_or words i 0) ≡ get_or words i 0 → SameRest v w
      → IfSome w.loaded (StillLoaded s.story.history s.story.decided s.story.places v.seat.kept)
      → ((x : Version) → Contains w.versions x → IsOneOf l.decls l.opening s.story.history x)
      → w.grip ≡ v.grip → PagesNow l words (shared_now s (seat_number v.role) s.story s.table s.trees s.resident w) w
      → Deals l words words s (seat_number v.role) views v w → tells v (get_or words i 0) w
      → Stride l words views s (seat_number v.role) v i f tells
  look_loaded tells keeps same loaded versions grip now deals tells-so =
      let m = s.story in
      load_stride l words views s id v active b i f w tells keeps record {
        role = same.role;
        made = same.made;
        seat = same.seat;
        grip = grip;
        mine = same.mine;
        draws = same.draws;
        fits = seen_fits l m s.seats v w active b.fits same.layout same.role same.made same.past same.parked same.epoch
            same.mine same.due same.seat same.checked same.took loaded same.met same.heard
            versions
            (subst (λ (x : List Attempt). IsFront v.history x) (sym same.history) (front_refl v.history))
            (subst (λ (x : List Number). IsFront v.decided x) (sym same.decided) (front_refl v.decided))
            (subst (λ (x : List Attempt). IsFront x m.history) (sym same.history) b.fits.history)
            (subst (λ (x : List Number). IsFront x m.decided) (sym same.decided) b.fits.decided);
        room = room_same l words views s id v active b i f w same.due;
        now = now;
        deals = deals;
      } tells-so
