-- The loads with which a call begins and ends.
use Rattle.std.proofs.Common.{◌≡◌, ℕ, get_or, inl, true≢false, refl, sym, ◌∙◌, arith}
use Rattle.atomic_table.specs.Table.{Me, Allows}
use Rattle.engine_pages.specs.declared.layout.Layout.{Layout}
use Rattle.engine_pages.specs.declared.view.Dropped.{Dropped as Counts}
use Rattle.engine_pages.specs.declared.view.Role.{Role}
use Rattle.engine_pages.specs.declared.view.Role.TheVariants.{Keeper, Worker}
use Rattle.engine_pages.specs.declared.view.View.{View}
use Rattle.engine_pages.specs.Rule.{Shows}
use Rattle.engine_pages.specs.Views.{seat_number}
use Rattle.engine_pages.proofs.Dealing.{blamed, rests_all}
use Rattle.engine_pages.proofs.Facing.{takes_same}
use Rattle.engine_pages.proofs.Joint.{Laws}
use Rattle.engine_pages.proofs.Looks.{look_stride}
use Rattle.engine_pages.proofs.Seats.{is_at}
use Rattle.engine_pages.proofs.Turns.{allows_at}
use Rattle.page_drops.specs.Calls.{begun, counted}
use Rattle.page_drops.proofs.Notes.{keeper_active}

no_worker : (role : Role) (worker : ℕ) → role ≡ Keeper → role ≡ Worker worker → ⊥
no_worker role worker keeper is = let other : Keeper ≡ Worker worker = sym keeper ∙ is in absurd (cc)

-- what was read, left and kept before is let go of
pub begins : Laws → (l : Layout) (slots id : ℕ) (me : Me (Unit {0}) View) → me.0.role ≡ Keeper
    → Allows (λ s. Shows l s.words s.views) slots id me 0 (λ n. n)
    (λ n now. (now.1 ≡ me.1) × (now.0 ≡ begun n me.0))
begins laws l slots id me keeper =
    let active = keeper_active me.0.role keeper in
    allows_at laws l slots id me 0 (λ n. n) (λ v n w. w ≡ begun n v) active (λ words views s b.
    let v = me.0 in
    let w = begun (get_or words 0 0) v in
    look_stride l words views s id v active b 0 (λ n. n) w (λ v n w. w ≡ begun n v) refl
    record { layout = refl; role = refl; made = refl; past = refl; parked = refl; epoch = refl; mine = refl; draws = refl; due = refl; seat = refl; checked = refl; took = refl; loaded = refl; met = refl; heard = refl; history = refl; decided = refl; versions = refl }
    refl
    record {
      within = b.pages.within;
      ways = b.pages.ways;
      drafts = b.pages.drafts;
      copies = b.pages.copies;
      blanks = b.pages.blanks;
      resident = b.pages.resident;
      leads = b.pages.leads;
      fills = b.pages.fills;
      known = b.pages.treed.known;
      heads = b.pages.treed.heads (seat_number v.role) (is_at v.role active);
      moved = b.pages.treed.moved;
      sealed = λ t has. absurd (true≢false (sym has));
      inners = b.pages.treed.inners;
      new_leaves = b.pages.treed.new_leaves;
      new_inners = b.pages.treed.new_inners;
      shuts = b.pages.shuts (seat_number v.role) (is_at v.role active);
    }
    record {
      touched = λ q k. omega (arith, takes_same q k v w refl);
      locks = λ k has. inl has;
      changes = λ k x at is. inl refl;
      facing = λ worker is. absurd (no_worker v.role worker keeper is);
      blamed = blamed l words views s id v b;
    }
    refl)

-- the counts of a call are noted
pub counts : Laws → (l : Layout) (slots id : ℕ) (me : Me (Unit {0}) View) (tally : Counts) → me.0.role ≡ Keeper
    → Allows (λ s. Shows l s.words s.views) slots id me 0 (λ n. n)
    (λ n now. (now.1 ≡ me.1) × (now.0 ≡ counted tally n me.0))
counts laws l slots id me tally keeper =
    let active = keeper_active me.0.role keeper in
    allows_at laws l slots id me 0 (λ n. n) (λ v n w. w ≡ counted tally n v) active (λ words views s b.
    let v = me.0 in
    let w = counted tally (get_or words 0 0) v in
    look_stride l words views s id v active b 0 (λ n. n) w (λ v n w. w ≡ counted tally n v) refl
    record { layout = refl; role = refl; made = refl; past = refl; parked = refl; epoch = refl; mine = refl; draws = refl; due = refl; seat = refl; checked = refl; took = refl; loaded = refl; met = refl; heard = refl; history = refl; decided = refl; versions = refl }
    refl
    record {
      within = b.pages.within;
      ways = b.pages.ways;
      drafts = b.pages.drafts;
      copies = b.pages.copies;
      blanks = b.pages.blanks;
      resident = b.pages.resident;
      leads = b.pages.leads;
      fills = b.pages.fills;
      known = b.pages.treed.known;
      heads = b.pages.treed.heads (seat_number v.role) (is_at v.role active);
      moved = b.pages.treed.moved;
      sealed = b.pages.treed.sealed (seat_number v.role) (is_at v.role active);
      inners = b.pages.treed.inners;
      new_leaves = b.pages.treed.new_leaves;
      new_inners = b.pages.treed.new_inners;
      shuts = b.pages.shuts (seat_number v.role) (is_at v.role active);
    }
    (rests_all l words views s id v b w
    record { role = refl; ways = refl; took = refl; gone = refl; touched = refl; blamed = refl; locks = refl } refl)
    refl)
