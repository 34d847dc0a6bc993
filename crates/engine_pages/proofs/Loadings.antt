-- Loads of words of snapshot pages.
use Rattle.std.proofs.Common.{◌≡◌, ℕ, ◌<◌, ◌≤◌, List, length, get_or, refl, sym, ap, ◌∙◌, arith}
use Rattle.atomic_table.specs.Table.{Me, Allows}
use Rattle.lists.specs.Fronts.{front_length}
use Rattle.snapshot_store.specs.Places.{page as page_words}
use Rattle.engine_pages.specs.declared.layout.Layout.{Layout}
use Rattle.engine_pages.specs.declared.view.View.{View}
use Rattle.engine_pages.specs.Layout.{snap_at}
use Rattle.engine_pages.specs.Loads.{HasLoaded}
use Rattle.engine_pages.specs.Rule.{Shows}
use Rattle.engine_pages.specs.Steps.{glanced}
use Rattle.engine_pages.specs.Views.{IsActive, seat_number}
use Rattle.engine_pages.proofs.Dealing.{rests_all}
use Rattle.engine_pages.proofs.Joint.{Laws}
use Rattle.engine_pages.proofs.Looks.{look_stride}
use Rattle.engine_pages.proofs.Named.{page_longer}
use Rattle.engine_pages.proofs.Seats.{is_at}
use Rattle.engine_pages.proofs.Turns.{allows_at}

pub loads_resident : Laws → (l : Layout) (slots id : ℕ) (me : Me (Unit {0}) View) (n i : ℕ) → IsActive me.0.role
    → me.0.layout ≡ l → 0 < n → n ≤ length me.0.pages → i < 64
    → Allows (λ s. Shows l s.words s.views) slots id me (snap_at l.slots n i) (λ k. k)
    (λ k now. (now.1 ≡ me.1) × HasLoaded n i me.0 k now.0)
loads_resident laws l slots id me n i active same some known few =
    allows_at laws l slots id me (snap_at l.slots n i) (λ k. k) (λ v k w. HasLoaded n i v k w) active
    (λ words views s b.
    let v = me.0 in
    let at = snap_at l.slots n i in
    let k : ℕ = get_or words at 0 in
    let w = glanced at k v in
    let front = b.pages.resident in
    let long = front_length v.pages s.resident.pages front in
    let word : k ≡ get_or (page_words v.pages n) i 0 =
    b.sound.shown.resident n i some (omega arith) few
    ∙ ap (λ (z : List ℕ). get_or z i 0) (page_longer v.pages s.resident.pages n front known) in
    look_stride l words views s id v active b at (λ k. k) w (λ v k w. HasLoaded n i v k w) refl
    record { layout = refl; role = refl; made = refl; past = refl; parked = refl; epoch = refl; mine = refl; draws = refl; due = refl; seat = refl; checked = refl; took = refl; loaded = refl; met = refl; heard = refl; history = refl; decided = refl; versions = refl }
    refl
    record {
      within = b.pages.within;
      ways = b.pages.ways;
      drafts = b.pages.drafts;
      copies = b.pages.copies;
      blanks = b.pages.blanks;
      resident = b.pages.resident;
      leads = b.pages.leads;
      fills = b.pages.fills;
      known = b.pages.treed.known;
      heads = b.pages.treed.heads (seat_number v.role) (is_at v.role active);
      moved = b.pages.treed.moved;
      sealed = b.pages.treed.sealed (seat_number v.role) (is_at v.role active);
      inners = b.pages.treed.inners;
      new_leaves = b.pages.treed.new_leaves;
      new_inners = b.pages.treed.new_inners;
      shuts = b.pages.shuts (seat_number v.role) (is_at v.role active);
    }
    (rests_all l words views s id v b w
    record { role = refl; ways = refl; took = refl; gone = refl; touched = refl; blamed = refl; locks = refl } refl)
    (ap (λ (y : Layout). glanced (snap_at y.slots n i) k v) (sym same), word))
