-- The load that notes pages as kept with another one.
use Rattle.std.proofs.Common.{◌≡◌, ℕ, get_or, refl, sym, subst}
use Rattle.atomic_table.specs.Table.{Me, Allows}
use Rattle.engine_pages.specs.declared.layout.Layout.{Layout}
use Rattle.engine_pages.specs.declared.view.Role.{Role}
use Rattle.engine_pages.specs.declared.view.Role.TheVariants.{Keeper}
use Rattle.engine_pages.specs.declared.view.View.{View}
use Rattle.engine_pages.specs.Rule.{Shows}
use Rattle.engine_pages.specs.Views.{IsActive, seat_number}
use Rattle.engine_pages.proofs.Dealing.{rests_all}
use Rattle.engine_pages.proofs.Joint.{Laws}
use Rattle.engine_pages.proofs.Looks.{look_stride}
use Rattle.engine_pages.proofs.Seats.{is_at}
use Rattle.engine_pages.proofs.Turns.{allows_at}
use Rattle.chain_steps.specs.Notes.{noted_again}

-- the maintenance thread's pass has a seat
keeper_active : (role : Role) → role ≡ Keeper → IsActive role
keeper_active role is = subst IsActive (sym is) tt

pub notes_again : Laws → (l : Layout) (slots id : ℕ) (me : Me (Unit {0}) View) (count : ℕ) → me.0.role ≡ Keeper
    → Allows (λ s. Shows l s.words s.views) slots id me 0 (λ n. n)
    (λ n now. (now.1 ≡ me.1) × (now.0 ≡ noted_again count n me.0))
notes_again laws l slots id me count keeper =
    let active = keeper_active me.0.role keeper in
    allows_at laws l slots id me 0 (λ n. n) (λ v n w. w ≡ noted_again count n v) active (λ words views s b.
    let v = me.0 in
    let w = noted_again count (get_or words 0 0) v in
    look_stride l words views s id v active b 0 (λ n. n) w (λ v n w. w ≡ noted_again count n v) refl
    record { layout = refl; role = refl; made = refl; past = refl; parked = refl; epoch = refl; mine = refl; draws = refl; due = refl; seat = refl; checked = refl; took = refl; loaded = refl; met = refl; heard = refl; history = refl; decided = refl; versions = refl }
    refl
    record {
      within = b.pages.within;
      ways = b.pages.ways;
      drafts = b.pages.drafts;
      copies = b.pages.copies;
      blanks = b.pages.blanks;
      resident = b.pages.resident;
      leads = b.pages.leads;
      fills = b.pages.fills;
      known = b.pages.treed.known;
      heads = b.pages.treed.heads (seat_number v.role) (is_at v.role active);
      moved = b.pages.treed.moved;
      sealed = b.pages.treed.sealed (seat_number v.role) (is_at v.role active);
      inners = b.pages.treed.inners;
      new_leaves = b.pages.treed.new_leaves;
      new_inners = b.pages.treed.new_inners;
      shuts = b.pages.shuts (seat_number v.role) (is_at v.role active);
    }
    (rests_all l words views s id v b w
    record { role = refl; ways = refl; took = refl; gone = refl; touched = refl; blamed = refl; locks = refl } refl)
    refl)
