-- Steps that change one pointer and take nothing away: no key moves, and no slot is gone.
use Rattle.std.proofs.Common.{◌≡◌, inl, inr, ℕ, Bool, false, true≢false, cond, List, [], get_or, refl, sym, ap, ◌∙◌}
use Rattle.homes.specs.declared.places.At.{At}
use Rattle.homes.specs.declared.places.At.TheVariants.{Root, In}
use Rattle.homes.specs.declared.places.Span.{Span}
use Rattle.homes.specs.Laws.{same_at-self}
use Rattle.drop_core.specs.declared.table.Pointer.{Pointer}
use Rattle.drop_core.specs.declared.table.Table.{Table}
use Rattle.drop_core.specs.Event.{is_in, with_pointer}
use Rattle.drop_core.specs.Table.{pointer_of}
use Rattle.engine_pages.specs.declared.layout.Layout.{Layout}
use Rattle.engine_pages.specs.declared.view.View.{View}
use Rattle.engine_pages.specs.Pointers.{IsPointerAt}
use Rattle.engine_pages.specs.Rule.{Shared}
use Rattle.engine_pages.specs.Views.{IsActive}
use Rattle.engine_pages.specs.Words.{ShowsPointer}
use Rattle.engine_pages.proofs.Joint.{Laws}
use Rattle.engine_pages.proofs.Turns.{Begins}
use Rattle.dual_pointer.proofs.Stands.{at_cases}
use Rattle.pointer_swings.proofs.Repoints.{Repointed}

pub in_none_gone : (y : At) → is_in [] y ≡ false
in_none_gone (Root r) = refl
in_none_gone (In y) = refl

module _ (laws : Laws) (l : Layout) (words : List ℕ) (views : List View) (s : Shared) (id : ℕ) (v : View)
    (active : IsActive v.role) (b : Begins l words views s id v) (x : At) (sp : Span) (at value : ℕ)
    (here : IsPointerAt v x sp at) (r : Pointer) where
  abbrev d : Table
  d = s.table

  abbrev q : Pointer
  q = pointer_of d x

  abbrev pub e : Table
  e = with_pointer d x r

  pub pointer_new : pointer_of e x ≡ r
  pointer_new = ap (λ (c : Bool). cond c r (pointer_of d x)) (same_at-self x)

  pub pointer_old : (y : At) → (x ≡ y → ⊥) → pointer_of e y ≡ pointer_of d y
  pointer_old y other = elim (at_cases x y) [
    | inl same ↦ absurd (other same)
    | inr apart ↦ ap (λ (c : Bool). cond c r (pointer_of d y)) apart.1
  ]

  -- over the same keys, with no new slot
  pub repointed : r.span ≡ q.span → r.slot ≡ q.slot
      → ((ws : List ℕ) → get_or ws at 0 ≡ value → ShowsPointer s.resident.places ws at r)
      → Repointed laws l words views s id v active b x sp at value here s.story.places s.story.homes s.story.horizon e r []
  repointed span slot shown = record {
    pages = λ u. refl;
    headers = λ u left. refl;
    closed = λ u. refl;
    buried = λ u dead. refl;
    room = refl;
    named = let was = b.sound.named in record { count = was.count; none = was.none; says = was.says; stand = was.stand; below = was.below };
    there = pointer_new;
    span = span;
    shown = shown;
    leads = λ u is. sym slot ∙ is;
    keeps = λ u left. refl;
    away = λ u lost. absurd (true≢false (sym lost));
    same = λ y other left. pointer_old y other;
    dead = λ y other lost. absurd (true≢false (sym lost ∙ in_none_gone y));
    shut = λ u j k lost is less. absurd (true≢false (sym lost));
    kept-places = λ y left. refl;
    contents = λ y. refl;
    locked = λ y. refl;
    freed = λ y free. free;
    still-dead = λ y dead. dead;
  }
