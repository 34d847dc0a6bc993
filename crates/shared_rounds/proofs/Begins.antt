-- An engine begins with the contents of the pages that it is given.
use Rattle.std.proofs.Common.{◌≡◌, ℕ, zero, suc, ◌-◌, ◌<◌, ◌≤◌, length, true, true≢false, List, [], ◌∷◌}
use Rattle.std.proofs.Common.{Some}
use Rattle.std.proofs.Common.{get_or, replicate, refl, sym, ap, ◌∙◌, subst}
use Rattle.lists.specs.Elements.{in_none}
use Rattle.serial_model.specs.declared.number.Number.{Number}
use Rattle.commit_core.specs.Opening.{fresh_seat}
use Rattle.engine_pages.specs.declared.layout.Layout.{Layout}
use Rattle.engine_pages.specs.declared.view.View.{View}
use Rattle.page_opening.specs.Making.{CanMake}
use Rattle.resident_pages.specs.Fills.{AreClaimed}
use Rattle.resident_pages.specs.Publishes.{OnlyFilled}
use Rattle.engine_pages.specs.Passes.{view, Pass}
use Rattle.engine_pages.specs.Views.{bare_seat, opening_view, IsResting}
use Rattle.shared_rounds.specs.SharedState.{marks_of, opened, shared_by}
use Rattle.shared_rounds.specs.SharedState.{state_of, IsKept, SharedState}
use Rattle.shared_rounds.proofs.Contents.{opened_is}
use Rattle.shared_rounds.proofs.Declared.{OpensDeclared}

-- ---- what the pass knows

rests : (first : Number) (n i : ℕ) → IsResting (get_or (replicate n (fresh_seat first)) i bare_seat)
rests first zero i = record { kept = refl; locks = refl; stage = refl }
rests first (suc n) zero = record { kept = refl; locks = refl; stage = refl }
rests first (suc n) (suc i) = rests first n i

-- an engine of these, on which nothing was run
abbrev pub unused : Layout → Number → SharedState
unused l clock = record {
  decls = l.decls;
  state = opened l.opening;
  opening = l.opening;
  clock = clock;
  mine = [];
  refused = [];
  met = [];
  marks = replicate 8 (record { epoch = Some (l.first.epoch - 1); length = 0 });
  slots = l.slots;
  pages = l.pages;
  resident = l.resident;
  drops = [];
}

pub first_shared : (l : Layout) (clock : Number) (keeper : Pass) → OnlyFilled (opening_view l) (view keeper)
    → clock ≡ l.first
    → shared_by keeper clock ≡ unused l l.first
first_shared l clock keeper is same =
    ap (λ (v : View). record {
      decls = v.layout.decls;
      state = state_of v;
      opening = v.layout.opening;
      clock = clock;
      mine = v.mine;
      refused = v.refused;
      met = v.met;
      marks = marks_of v.parked;
      slots = v.layout.slots;
      pages = v.pages;
      resident = v.layout.resident;
      drops = v.drops;
    }) is
    ∙ ap (unused l) same

pub first_kept : (l : Layout) (v : View) → CanMake l → OpensDeclared l
    → OnlyFilled (opening_view l) v → AreClaimed v → IsKept v
first_kept l v can none is claims = subst IsKept (sym is) record {
  role = refl;
  made = refl;
  decls = can.opens.declared;
  first = can.opens.number;
  records = λ k outside. opened_is l.opening k ∙ none k outside;
  counted = record { own = refl; all = λ h. refl; drawn = λ n is. absurd (true≢false (sym is)) };
  draws = refl;
  once = tt;
  serial = record { run = record { rising = λ k. tt; reads = tt }; reads = λ a has. absurd (in_none a has) };
  parked_are = refl;
  parked = λ worker few. rests l.first 8 worker;
  rests = record { kept = refl; locks = refl; stage = refl };
  some_slots = can.some;
  few = can.resident;
  claimed = record {
    has = λ n less most.
        claims.has n (subst (λ (w : View). length w.pages < n) (sym is) less)
        (subst (λ (w : View). n ≤ w.layout.resident) (sym is) most);
    long = claims.long;
  };
  free = record { holds = refl; made = refl; taken = refl; ways = refl; took = refl; heads = refl; shuts = refl };
}
