-- A worker's pass begins without a transaction, and where it has none it can be taken into the keeper's.
use Rattle.std.proofs.Common.{◌≡◌, ℕ, List, [], ◌∷◌, get_or, true, false, true≢false, refl, sym, ap, ◌∙◌, eqb, eq-eqb}
use Rattle.lists.specs.Elements.{any_in, in_head, in_none}
use Rattle.serial_model.specs.Decls.{AreDecls}
use Rattle.drop_core.specs.Table.{has_slot}
use Rattle.drop_core.specs.declared.grip.Grip.{Grip}
use Rattle.engine_pages.specs.Views.{IsResting, bare_grip, bare_seat}
use Rattle.engine_pages.specs.declared.view.View.{View}
use Rattle.engine_seats.specs.Cuts.{worker_view, IsDone}
use Rattle.page_commit.specs.Live.{IsOver}

pub seat_over : (keeper : View) (worker : ℕ) → AreDecls keeper.layout.decls
    → IsResting (get_or keeper.parked worker bare_seat) → IsOver (worker_view worker keeper)
seat_over keeper worker decls rests = record {
  decls = decls;
  worker = refl;
  due = refl;
  took = refl;
  seat = rests;
  agree = λ a b has. absurd (in_none a has);
  trees = record {
    known = λ a b has. absurd (in_none a has);
    inners = λ a b has. absurd (in_none a has);
    apart = λ a b has. absurd (in_none a has);
    spans = λ a b has. absurd (in_none a has);
  };
  holds = record {
    holds = λ s. refl;
    within = λ s has. absurd (true≢false (sym has));
    made = refl;
    taken = refl;
    drafts = refl;
    copies = refl;
    blanks = refl;
    leaves = refl;
    inners = refl;
    heads = refl;
  };
}

no_slots : (slots : List ℕ) → ((t : ℕ) → has_slot slots t ≡ false) → slots ≡ []
no_slots [] none = refl
no_slots (x ∷ slots) none =
    absurd (true≢false (sym (any_in (λ (t : ℕ). eqb t x) (x ∷ slots) x (in_head x slots) (eq-eqb x x refl)) ∙ none x))

bare_of : (g : Grip) → g.holds ≡ [] → g.made ≡ [] → g.taken ≡ [] → g ≡ bare_grip
bare_of g holds made taken =
    ap (λ (l : List ℕ). let x : Grip = record { holds = l; made = g.made; taken = g.taken } in x) holds
    ∙ ap (λ (l : List ℕ). let x : Grip = record { holds = []; made = l; taken = g.taken } in x) made
    ∙ ap (λ (l : List ℕ). let x : Grip = record { holds = []; made = []; taken = l } in x) taken

pub over_done : (v : View) → IsOver v → IsDone v
over_done v over = record {
  due = over.due;
  resting = over.seat;
  grip = bare_of v.grip (no_slots v.grip.holds (λ t. sym (over.holds.holds t))) over.holds.made over.holds.taken;
  heads = over.holds.heads;
}
