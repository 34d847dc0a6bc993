-- Slots that are away and the pointers of their pages, which are dead.
use Rattle.std.proofs.Common.{◌≡◌, ℕ, Bool, true, false, true≢false, eqb, ◌||◌, inl, inr, List, [], ◌∷◌, refl, sym, ap, ◌∙◌}
use Rattle.std.specs.Prelude.{◌==◌}
use Rattle.std.proofs.lemmas.Bool.{cases_Bool, or_left, cond-true, cond-false}
use Rattle.homes.specs.declared.places.Holder.TheVariants.{Dead}
use Rattle.homes.specs.declared.places.At.{At}
use Rattle.homes.specs.Homes.{same_at, look}
use Rattle.homes.specs.Laws.{same_at-true, number_or_other}
use Rattle.drop_core.specs.declared.table.Led.TheVariants.{Away}
use Rattle.drop_core.specs.declared.table.Slot.{Slot}
use Rattle.drop_core.specs.declared.table.Pointer.{Pointer}
use Rattle.drop_core.specs.Table.{fresh_slot, no_pointer, has_slot}
use Rattle.drop_core.specs.Event.{is_in, away_slots, bury, buried_pointers}

abbrev slot_in : List (ℕ × Slot) → ℕ → Slot
slot_in slots t = look (λ a b. a == b) fresh_slot slots t

abbrev away : Slot → Slot
away q = record q { led = Away }

-- a slot other than those is as it was
pub away-other : (gone : List ℕ) (slots : List (ℕ × Slot)) (t : ℕ) → has_slot gone t ≡ false → slot_in (away_slots gone slots) t ≡ slot_in slots t
away-other [] slots t e = refl
away-other (g ∷ more) slots t e =
    elim (number_or_other g t) [
      | inl is ↦ absurd (true≢false (sym (or_left (eqb g t) (has_slot more t) is.1) ∙ e))
      | inr o ↦ away-other more ((g, away (slot_in slots g)) ∷ slots) t (sym (ap (λ (b : Bool). b || has_slot more t) o.1) ∙ e)
          ∙ cond-false (eqb g t) (away (slot_in slots g)) (slot_in slots t) o.1
    ]

-- one of those is away, and else as it was
away-again : (gone : List ℕ) (slots : List (ℕ × Slot)) (t : ℕ) (q : Slot) → slot_in slots t ≡ away q → slot_in (away_slots gone slots) t ≡ away q
away-again [] slots t q e = e
away-again (g ∷ more) slots t q e =
    away-again more ((g, away (slot_in slots g)) ∷ slots) t q
    (elim (number_or_other g t) [
      | inl is ↦ cond-true (eqb g t) (away (slot_in slots g)) (slot_in slots t) is.1 ∙ ap (λ (u : ℕ). away (slot_in slots u)) is.0 ∙ ap away e
      | inr o ↦ cond-false (eqb g t) (away (slot_in slots g)) (slot_in slots t) o.1 ∙ e
    ])

pub away-same : (gone : List ℕ) (slots : List (ℕ × Slot)) (t : ℕ) → has_slot gone t ≡ true → slot_in (away_slots gone slots) t ≡ away (slot_in slots t)
away-same [] slots t e = absurd (true≢false (sym e))
away-same (g ∷ more) slots t e =
    elim (number_or_other g t) [
      | inl is ↦ away-again more ((g, away (slot_in slots g)) ∷ slots) t (slot_in slots t)
          (cond-true (eqb g t) (away (slot_in slots g)) (slot_in slots t) is.1 ∙ ap (λ (u : ℕ). away (slot_in slots u)) is.0)
      | inr o ↦ away-same more ((g, away (slot_in slots g)) ∷ slots) t (sym (ap (λ (b : Bool). b || has_slot more t) o.1) ∙ e)
          ∙ ap away (cond-false (eqb g t) (away (slot_in slots g)) (slot_in slots t) o.1)
    ]

-- each pointer is buried where it stands
nothing_buried : (gone : List ℕ) (y : At) → no_pointer ≡ bury gone y no_pointer
nothing_buried gone y = elim (cases_Bool (is_in gone y)) [
  | inl e ↦ sym (cond-true (is_in gone y) no_pointer no_pointer e)
  | inr e ↦ sym (cond-false (is_in gone y) no_pointer no_pointer e)
]

pub buried-look : (gone : List ℕ) (pointers : List (At × Pointer)) (y : At) → look same_at no_pointer (buried_pointers gone pointers) y ≡ bury gone y (look same_at no_pointer pointers y)
buried-look gone [] y = nothing_buried gone y
buried-look gone (e ∷ more) y =
    elim (cases_Bool (same_at e.0 y)) [
      | inl is ↦ cond-true (same_at e.0 y) (bury gone e.0 e.1) (look same_at no_pointer (buried_pointers gone more) y) is
          ∙ ap (λ (z : At). bury gone z e.1) (same_at-true e.0 y is) ∙ ap (bury gone y) (sym (cond-true (same_at e.0 y) e.1 (look same_at no_pointer more y) is))
      | inr o ↦ cond-false (same_at e.0 y) (bury gone e.0 e.1) (look same_at no_pointer (buried_pointers gone more) y) o
          ∙ buried-look gone more y ∙ ap (bury gone y) (sym (cond-false (same_at e.0 y) e.1 (look same_at no_pointer more y) o))
    ]

-- what doesn't read the holder stays
pub bury-part : {A : Type 0} (f : Pointer → A) → ((q : Pointer) → f (record q { holder = Dead }) ≡ f q) → (gone : List ℕ) (y : At) (q : Pointer) → f (bury gone y q) ≡ f q
bury-part f same gone y q =
    elim (cases_Bool (is_in gone y)) [
      | inl e ↦ ap f (cond-true (is_in gone y) (record q { holder = Dead }) q e) ∙ same q
      | inr e ↦ ap f (cond-false (is_in gone y) (record q { holder = Dead }) q e)
    ]

pub bury-dead : (gone : List ℕ) (y : At) (q : Pointer) → is_in gone y ≡ true → (bury gone y q).holder ≡ Dead
bury-dead gone y q e = ap (λ (z : Pointer). z.holder) (cond-true (is_in gone y) (record q { holder = Dead }) q e)

pub bury-stays : (gone : List ℕ) (y : At) (q : Pointer) → q.holder ≡ Dead → (bury gone y q).holder ≡ Dead
bury-stays gone y q dead =
    elim (cases_Bool (is_in gone y)) [
      | inl e ↦ bury-dead gone y q e
      | inr e ↦ ap (λ (z : Pointer). z.holder) (cond-false (is_in gone y) (record q { holder = Dead }) q e) ∙ dead
    ]
