-- A compare_exchange of a pointer that found another word.
use Rattle.std.proofs.Common.{◌≡◌, ℕ, List, get_or, refl}
use Rattle.homes.specs.declared.places.At.{At}
use Rattle.homes.specs.declared.places.Span.{Span}
use Rattle.engine_pages.specs.declared.layout.Layout.{Layout}
use Rattle.engine_pages.specs.declared.view.View.{View}
use Rattle.engine_pages.specs.Pointers.{IsPointerAt}
use Rattle.engine_pages.specs.Rule.{Shared}
use Rattle.engine_pages.specs.Steps.{kept_at, read_at, seen_at}
use Rattle.engine_pages.specs.Views.{IsActive, seat_number}
use Rattle.engine_pages.proofs.Dealing.{meets}
use Rattle.engine_pages.proofs.Looks.{look_stride}
use Rattle.engine_pages.proofs.Seats.{is_at}
use Rattle.engine_pages.proofs.Turns.{Stride, Begins}
use Rattle.dual_pointer.proofs.Stands.{way_to}

-- the word stays, and was met
pub missed : (l : Layout) (words : List ℕ) (views : List View) (s : Shared) (id : ℕ) (v : View) → IsActive v.role
    → Begins l words views s id v → (x : At) (sp : Span) (at : ℕ) → IsPointerAt v x sp at → (f : ℕ → ℕ)
    (tells : View → ℕ → View → Type 0) → f (get_or words at 0) ≡ get_or words at 0
    → tells v (get_or words at 0) (read_at at (get_or words at 0) v) → Stride l words views s (seat_number v.role) v at f tells
missed l words views s id v active b x sp at place f tells keeps tells-so =
    let n : ℕ = get_or words at 0 in
    let w = read_at at n v in
    look_stride l words views s id v active b at f w tells keeps
    record { layout = refl; role = refl; made = refl; past = refl; parked = refl; epoch = refl; mine = refl; draws = refl; due = refl; seat = refl; checked = refl; took = refl; loaded = refl; met = refl; heard = refl; history = refl; decided = refl; versions = refl }
    refl
    record {
      within = b.pages.within;
      ways = b.pages.ways;
      drafts = b.pages.drafts;
      copies = b.pages.copies;
      blanks = b.pages.blanks;
      resident = b.pages.resident;
      leads = b.pages.leads;
      fills = b.pages.fills;
      known = b.pages.treed.known;
      heads = b.pages.treed.heads (seat_number v.role) (is_at v.role active);
      moved = b.pages.treed.moved;
      sealed = b.pages.treed.sealed (seat_number v.role) (is_at v.role active);
      inners = b.pages.treed.inners;
      new_leaves = b.pages.treed.new_leaves;
      new_inners = b.pages.treed.new_inners;
      shuts = b.pages.shuts (seat_number v.role) (is_at v.role active);
    }
    (meets l words views s id v b w at
    record { role = refl; ways = refl; took = refl; gone = refl; touched = refl; blamed = refl; locks = refl }
    record {
      new = record { word = at; seen = n; was = seen_at v.reads at; kept = kept_at v.reads at };
      word = refl;
      seen = refl;
      was = refl;
      is = refl;
    }
    (λ u i less few word here. way_to l words views s id v b x sp at place u i less few word))
    tells-so
