-- One pointer leads elsewhere, from or to a leaf: what stays so of slots, pointers, and what is live.
use Rattle.std.proofs.Common.{◌≡◌, ℕ, Bool, true, false, not, eqb, eq-eqb, eqb-true, ◌&&◌, inl, inr, List, refl, sym, ap, ◌∙◌, subst, Option, Some, None}
use Rattle.std.proofs.lemmas.Bool.{and_from, cond-true, cond-false, false_from_ne_true}
use Rattle.serial_model.specs.declared.key.Key.{Key}
use Rattle.homes.specs.declared.places.At.{At}
use Rattle.homes.specs.declared.places.At.TheVariants.{Root, In}
use Rattle.homes.specs.declared.places.Span.{Span}
use Rattle.homes.specs.declared.places.Home.{Home}
use Rattle.homes.specs.Homes.{same_at, has_key, in_span}
use Rattle.homes.specs.Laws.{same_at-self, same_at-true, at_or_other, number_or_other}
use Rattle.drop_core.specs.declared.table.Led.{Led}
use Rattle.drop_core.specs.declared.table.Slot.{Slot}
use Rattle.drop_core.specs.declared.table.Page.{Page}
use Rattle.drop_core.specs.declared.table.Page.TheVariants.{Blank, Leaf, Inner, Split}
use Rattle.drop_core.specs.declared.table.Pointer.{Pointer}
use Rattle.drop_core.specs.declared.table.Table.{Table}
use Rattle.drop_core.specs.Table.{slot_of, page_of, pointer_of, is_led, has_pointer, is_live, is_inner, is_last_to, is_last}
use Rattle.drop_core.specs.Event.{repointed}
use Rattle.drop_core.specs.Sound.{TiesPage, TiesTo, Ties, Apart}

and_false : (a : Bool) → (a && false) ≡ false
and_false true = refl
and_false false = refl

module _ (d : Table) (x : At) (s : ℕ) (led : Led) (slot : Option ℕ) (page : ℕ) where
  abbrev now : Table
  now = repointed d x s led slot page

  abbrev new_pointer : Pointer
  new_pointer = record (pointer_of d x) { slot = slot; page = page }

  pub slot-same : slot_of now s ≡ record (slot_of d s) { led = led }
  slot-same = cond-true (eqb s s) (record (slot_of d s) { led = led }) (slot_of d s) (eq-eqb s s refl)

  pub slot-other : (t : ℕ) → (s ≡ t → ⊥) → slot_of now t ≡ slot_of d t
  slot-other t other = cond-false (eqb s t) (record (slot_of d s) { led = led }) (slot_of d t) (false_from_ne_true (eqb s t) (λ e. other (eqb-true s t e)))

  pub passes-same : (t : ℕ) → (slot_of now t).passes ≡ (slot_of d t).passes
  passes-same t =
      elim (number_or_other s t) [
        | inl e ↦ subst (λ (u : ℕ). (slot_of now u).passes ≡ (slot_of d u).passes) e.0 (ap (λ (y : Slot). y.passes) slot-same)
        | inr o ↦ ap (λ (y : Slot). y.passes) (slot-other t o.0)
      ]

  pub pointer-same : pointer_of now x ≡ new_pointer
  pointer-same = cond-true (same_at x x) new_pointer (pointer_of d x) (same_at-self x)

  pub pointer-other : (y : At) → (x ≡ y → ⊥) → pointer_of now y ≡ pointer_of d y
  pointer-other y other = cond-false (same_at x y) new_pointer (pointer_of d y) (false_from_ne_true (same_at x y) (λ e. other (same_at-true x y e)))

  pub span-same : (y : At) → (pointer_of now y).span ≡ (pointer_of d y).span
  span-same y =
      elim (at_or_other x y) [
        | inl e ↦ subst (λ (z : At). (pointer_of now z).span ≡ (pointer_of d z).span) e.0 (ap (λ (q : Pointer). q.span) pointer-same)
        | inr o ↦ ap (λ (q : Pointer). q.span) (pointer-other y o.0)
      ]

  pub holder-same : (y : At) → (pointer_of now y).holder ≡ (pointer_of d y).holder
  holder-same y =
      elim (at_or_other x y) [
        | inl e ↦ subst (λ (z : At). (pointer_of now z).holder ≡ (pointer_of d z).holder) e.0 (ap (λ (q : Pointer). q.holder) pointer-same)
        | inr o ↦ ap (λ (q : Pointer). q.holder) (pointer-other y o.0)
      ]

  -- the slot's page is a leaf, so no pointer becomes live by it or ceases to be
  pub live-same : (keys : List Key) → page_of d s ≡ Leaf keys → (y : At) → is_live now y ≡ is_live d y
  live-same keys leaf (Root r) = refl
  live-same keys leaf (In z) =
      elim (number_or_other s z.slot) [
        | inl e ↦
            let none : has_pointer (page_of d z.slot) z.index ≡ false = ap (λ (u : ℕ). has_pointer (page_of d u) z.index) (sym e.0) ∙ ap (λ (q : Page). has_pointer q z.index) leaf in
            ap (λ (b : Bool). is_led (slot_of now z.slot).led && b) none ∙ and_false (is_led (slot_of now z.slot).led)
            ∙ sym (ap (λ (b : Bool). is_led (slot_of d z.slot).led && b) none ∙ and_false (is_led (slot_of d z.slot).led))
        | inr o ↦ ap (λ (q : Slot). is_led q.led && has_pointer (page_of d z.slot) z.index) (slot-other z.slot o.0)
      ]

  pub last-same : (keys : List Key) → page_of d s ≡ Leaf keys → is_last_to d slot ≡ is_last_to d (pointer_of d x).slot → (y : At) → is_last now y ≡ is_last d y
  last-same keys leaf to y =
      elim (at_or_other x y) [
        | inl e ↦ subst (λ (z : At). is_last now z ≡ is_last d z) e.0
            (ap (λ (b : Bool). b && is_last_to now (pointer_of now x).slot) (live-same keys leaf x)
            ∙ ap (λ (b : Bool). is_live d x && b) (ap (λ (q : Pointer). is_last_to d q.slot) pointer-same ∙ to))
        | inr o ↦ ap (λ (b : Bool). b && is_last_to now (pointer_of now y).slot) (live-same keys leaf y)
            ∙ ap (λ (b : Bool). is_live d y && b) (ap (λ (q : Pointer). is_last_to d q.slot) (pointer-other y o.0))
      ]

  -- ---- 7: the ways end apart

  pub apart_repointed : (keys : List Key) → page_of d s ≡ Leaf keys → is_last_to d slot ≡ is_last_to d (pointer_of d x).slot → Apart d → Apart now
  apart_repointed keys leaf to apart = λ y z ly lz k iny inz.
      apart y z (sym (last-same keys leaf to y) ∙ ly) (sym (last-same keys leaf to z) ∙ lz) k
      (sym (ap (λ (w : Span). in_span w k) (span-same y)) ∙ iny) (sym (ap (λ (w : Span). in_span w k) (span-same z)) ∙ inz)

  -- ---- 7: what the live pointers lead to, where the keys that moved are below x

  module _ (homes homes' : Key → Home) (keys : List Key) where
    abbrev Kept : At → Type 0
    Kept y = (k : Key) → in_span (pointer_of d y).span k ≡ true → homes' k ≡ homes k

    kept_below : is_last d x ≡ true → ((k : Key) → has_key keys k ≡ true → in_span (pointer_of d x).span k ≡ true)
        → ((k : Key) → has_key keys k ≡ false → homes' k ≡ homes k) → Apart d → (y : At) → (x ≡ y → ⊥) → is_last d y ≡ true → Kept y
    kept_below last within others apart y other lasty = λ k inside.
        others k (false_from_ne_true (has_key keys k) (λ hit. other (apart x y last lasty k (within k hit) inside)))

    ties_page : (y : At) (t : ℕ) (pg : Page) → page_of d t ≡ pg → (is_inner pg ≡ false → Kept y) → TiesPage homes d (pointer_of d y).span t pg → TiesPage homes' now (pointer_of d y).span t pg
    ties_page y t Blank e kept ties = ties
    ties_page y t (Leaf ks) e kept ties = (λ k inside. kept refl k inside ∙ ties.0 k inside, ties.1, ties.2)
    ties_page y t (Inner n) e kept ties = (
      λ k inside. let r = ties.0 k inside in (r.0, r.1, ap (λ (w : Span). in_span w k) (span-same (In (record { slot = t; index = r.0 }))) ∙ r.2),
      λ j k there inside. ties.1 j k there (sym (ap (λ (w : Span). in_span w k) (span-same (In (record { slot = t; index = j })))) ∙ inside),
    )
    ties_page y t Split e kept ties = (
      λ k inside. let r = ties.0 k inside in (r.0, r.1, ap (λ (w : Span). in_span w k) (span-same (In (record { slot = t; index = r.0 }))) ∙ r.2),
      λ j k there inside. ties.1 j k there (sym (ap (λ (w : Span). in_span w k) (span-same (In (record { slot = t; index = j })))) ∙ inside),
    )

    ties_to : (y : At) (o : Option ℕ) (n : ℕ) → (is_last_to d o ≡ true → Kept y) → TiesTo homes d (pointer_of d y).span n o → TiesTo homes' now (pointer_of d y).span n o
    ties_to y None n kept ties = λ k inside. kept refl k inside ∙ ties k inside
    ties_to y (Some t) n kept ties = ties_page y t (page_of d t) refl (λ e. kept (ap not e)) ties

    pub ties_repointed : (leaf : page_of d s ≡ Leaf keys) → is_last d x ≡ true → ((k : Key) → has_key keys k ≡ true → in_span (pointer_of d x).span k ≡ true)
        → ((k : Key) → has_key keys k ≡ false → homes' k ≡ homes k) → TiesTo homes' now (pointer_of d x).span page slot
        → Apart d → Ties homes d → Ties homes' now
    ties_repointed leaf last within others new apart ties = λ y live.
        let was : is_live d y ≡ true = sym (live-same keys leaf y) ∙ live in
        elim (at_or_other x y) [
          | inl e ↦ subst (λ (z : At). TiesTo homes' now (pointer_of now z).span (pointer_of now z).page (pointer_of now z).slot) e.0
              (subst (λ (q : Pointer). TiesTo homes' now q.span q.page q.slot) (sym pointer-same) new)
          | inr o ↦ subst (λ (q : Pointer). TiesTo homes' now q.span q.page q.slot) (sym (pointer-other y o.0))
              (ties_to y (pointer_of d y).slot (pointer_of d y).page
              (λ to. kept_below last within others apart y o.0 (and_from (is_live d y) (is_last_to d (pointer_of d y).slot) was to)) (ties y was))
        ]
