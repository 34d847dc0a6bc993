-- The keeper loads the count of published pages: a page above it is its own to fill, with the words that stand there.
use Rattle.std.proofs.Common.{◌≡◌, inl, inr, ℕ, ◌<◌, ◌≤◌, Bool, true, false, ltb, List, length, get_or, refl, sym, subst}
use Rattle.std.proofs.Common.{arith}
use Rattle.std.specs.Prelude.{Contains, MatchBool}
use Rattle.std.proofs.lemmas.Bool.Decides.{nat_tests}
use Rattle.atomic_table.specs.Table.{Me, Allows}
use Rattle.lists.specs.Elements.{in_cases}
use Rattle.lists.specs.Fronts.{front_length}
use Rattle.engine_pages.specs.declared.layout.Layout.{Layout}
use Rattle.engine_pages.specs.declared.view.Filled.{Filled}
use Rattle.engine_pages.specs.declared.view.Role.TheVariants.{Keeper}
use Rattle.engine_pages.specs.declared.view.View.{View}
use Rattle.engine_pages.specs.Layout.{published_at, snap_at}
use Rattle.engine_pages.specs.Rule.{Shared, Shows, IsFilled}
use Rattle.engine_pages.specs.Steps.{glanced}
use Rattle.engine_pages.specs.Views.{IsActive, seat_number}
use Rattle.engine_pages.proofs.Dealing.{rests_all}
use Rattle.engine_pages.proofs.Joint.{Laws}
use Rattle.engine_pages.proofs.Looks.{look_stride}
use Rattle.engine_pages.proofs.Seats.{is_at}
use Rattle.engine_pages.proofs.Slotlists.{at_others, tab, length_tab, get_tab}
use Rattle.engine_pages.proofs.Turns.{Begins, Stride, allows_at}
use Rattle.resident_pages.specs.Fills.{HasClaimed, IsClaimed, claimed, other_fills}

pub claims_page : Laws → (l : Layout) (slots id : ℕ) (me : Me (Unit {0}) View) (n : ℕ) → me.0.role ≡ Keeper
    → me.0.layout ≡ l → n ≤ l.resident
    → Allows (λ s. Shows l s.words s.views) slots id me published_at (λ k. k)
    (λ k now. (now.1 ≡ me.1) × HasClaimed n me.0 k now.0)
claims_page laws l slots id me n keeper same room =
    allows_at laws l slots id me published_at (λ k. k) (λ v k w. HasClaimed n v k w) active
    (λ words views s b. by_test words views s b (ltb (get_or words published_at 0) n) refl)
  where
    active : IsActive me.0.role
    active = subst IsActive (sym keeper) tt

    most : (words : List ℕ) (views : List View) (s : Shared) → Begins l words views s id me.0
        → get_or words published_at 0 ≤ me.0.layout.resident
    most words views s b =
        subst (λ (y : Layout). get_or words published_at 0 ≤ y.resident) (sym same)
        (let count = b.sound.shown.published in let within = b.sound.within in omega arith)

    known : (words : List ℕ) (views : List View) (s : Shared) → Begins l words views s id me.0
        → length me.0.pages ≤ get_or words published_at 0
    known words views s b =
        let front = front_length me.0.pages s.resident.pages b.pages.resident in
        let count = b.sound.shown.published in omega arith

    above : (words : List ℕ) (views : List View) (s : Shared) → Begins l words views s id me.0 → (x : Filled)
        → Contains me.0.fills x → get_or words published_at 0 < x.page
    above words views s b x has =
        let count = b.sound.shown.published in
        let behind = (b.pages.fills x has).1.above in omega (arith, count, behind)

    by_test : (words : List ℕ) (views : List View) (s : Shared) → Begins l words views s id me.0 → (t : Bool)
        → ltb (get_or words published_at 0) n ≡ t
        → Stride l words views s (seat_number me.0.role) me.0 published_at (λ k. k) (λ v k w. HasClaimed n v k w)
    by_test words views s b false low =
        let v = me.0 in
        let k = get_or words published_at 0 in
        let w : View = glanced published_at k v in
        look_stride l words views s id v active b published_at (λ k. k) w (λ v k w. HasClaimed n v k w) refl
        record { layout = refl; role = refl; made = refl; past = refl; parked = refl; epoch = refl; mine = refl; draws = refl; due = refl; seat = refl; checked = refl; took = refl; loaded = refl; met = refl; heard = refl; history = refl; decided = refl; versions = refl }
        refl
        record {
          within = b.pages.within;
          ways = b.pages.ways;
          drafts = b.pages.drafts;
          copies = b.pages.copies;
          blanks = b.pages.blanks;
          resident = b.pages.resident;
          leads = b.pages.leads;
          fills = b.pages.fills;
          known = b.pages.treed.known;
          heads = b.pages.treed.heads (seat_number v.role) (is_at v.role active);
          moved = b.pages.treed.moved;
          sealed = b.pages.treed.sealed (seat_number v.role) (is_at v.role active);
          inners = b.pages.treed.inners;
          new_leaves = b.pages.treed.new_leaves;
          new_inners = b.pages.treed.new_inners;
          shuts = b.pages.shuts (seat_number v.role) (is_at v.role active);
        }
        (rests_all l words views s id v b w
        record { role = refl; ways = refl; took = refl; gone = refl; touched = refl; blamed = refl; locks = refl } refl)
        record {
          most = most words views s b;
          known = known words views s b;
          above = above words views s b;
          is = subst (λ c. MatchBool c (IsClaimed n v k w) (w ≡ glanced published_at k v)) (sym low) refl;
        }
    by_test words views s b true low =
        let v = me.0 in
        let k = get_or words published_at 0 in
        let less : k < n = grind (arith, nat_tests) in
        let at : ℕ → ℕ = λ i. get_or words (snap_at l.slots n i) 0 in
        let ws : List ℕ = tab at 64 in
        let w : View = claimed n ws k v in
        look_stride l words views s id v active b published_at (λ k. k) w (λ v k w. HasClaimed n v k w) refl
        record { layout = refl; role = refl; made = refl; past = refl; parked = refl; epoch = refl; mine = refl; draws = refl; due = refl; seat = refl; checked = refl; took = refl; loaded = refl; met = refl; heard = refl; history = refl; decided = refl; versions = refl }
        refl
        record {
          within = b.pages.within;
          ways = b.pages.ways;
          drafts = b.pages.drafts;
          copies = b.pages.copies;
          blanks = b.pages.blanks;
          resident = b.pages.resident;
          leads = b.pages.leads;
          fills = λ z there. elim (in_cases z (record { page = n; words = ws }) (other_fills n v.fills) there) [
            | inl new ↦ subst (λ (y : Filled). (v.role ≡ Keeper) × IsFilled l words s.resident y) new (
              keeper,
              record {
                above = let count = b.sound.shown.published in omega arith;
                within = room;
                is = λ i few. sym (get_tab at 64 i few);
              },
            )
            | inr old ↦ b.pages.fills z (at_others (λ (y : Filled). y.page) n v.fills z old).0
          ];
          known = b.pages.treed.known;
          heads = b.pages.treed.heads (seat_number v.role) (is_at v.role active);
          moved = b.pages.treed.moved;
          sealed = b.pages.treed.sealed (seat_number v.role) (is_at v.role active);
          inners = b.pages.treed.inners;
          new_leaves = b.pages.treed.new_leaves;
          new_inners = b.pages.treed.new_inners;
          shuts = b.pages.shuts (seat_number v.role) (is_at v.role active);
        }
        (rests_all l words views s id v b w
        record { role = refl; ways = refl; took = refl; gone = refl; touched = refl; blamed = refl; locks = refl } refl)
        record {
          most = most words views s b;
          known = known words views s b;
          above = above words views s b;
          is = subst (λ c. MatchBool c (IsClaimed n v k w) (w ≡ glanced published_at k v)) (sym low) (ws, length_tab at 64, refl);
        }
