-- Pointers of an owned slot are filled, one after another.
use Rattle.std.proofs.Common.{◌≡◌, ◌≢◌, ℕ, zero, suc, ◌<◌, Bool, true, false, true≢false, cond, eqb, eqb-true, eq-eqb, ne_eqb}
use Rattle.std.proofs.Common.{List, ◌∷◌, refl, sym, ap, ◌∙◌, arith}
use Rattle.std.specs.Prelude.{◌&&◌}
use Rattle.std.proofs.lemmas.Bool.{and_from}
use Rattle.homes.specs.declared.places.At.{At}
use Rattle.homes.specs.declared.places.At.TheVariants.{Root, In}
use Rattle.homes.specs.Homes.{look, same_at}
use Rattle.drop_core.specs.declared.event.Act.TheVariants.{FillPointer}
use Rattle.drop_core.specs.declared.table.Pointer.{Pointer}
use Rattle.drop_core.specs.Event.{is_owned}
use Rattle.drop_core.specs.Table.{slot_of, has_slot, at_index, no_pointer}
use Rattle.engine_rule.specs.declared.event.JointAct.TheVariants.{Turn as TurnPages}
use Rattle.engine_rule.specs.JointState.{is_slot, slot_at as slot_with}
use Rattle.engine_rule.specs.Sound.{IsSound}
use Rattle.engine_pages.specs.declared.layout.Layout.{Layout}
use Rattle.engine_pages.specs.Rule.{Shared, joint_of}
use Rattle.engine_pages.specs.Words.{spot}
use Rattle.engine_pages.proofs.Joint.{Laws, joint_act}
use Rattle.engine_pages.proofs.Records.{fill_joint}

-- the pointers with the first ones of a slot's page
abbrev pub fill_pointers : ℕ → (ℕ → Pointer) → ℕ → List (At × Pointer) → List (At × Pointer)
fill_pointers t c zero pointers = pointers
fill_pointers t c (suc k) pointers = (In (spot t k), c k) ∷ fill_pointers t c k pointers

-- what stands there
abbrev pub stands_at : List (At × Pointer) → At → Pointer
stands_at pointers x = look same_at no_pointer pointers x

pub pointer_filled : (t : ℕ) (c : ℕ → Pointer) (k : ℕ) (pointers : List (At × Pointer)) (i : ℕ) → i < k
    → stands_at (fill_pointers t c k pointers) (at_index t i) ≡ c i
pointer_filled t c zero pointers i less = absurd (omega arith)
pointer_filled t c (suc k) pointers i less = by_test (eqb k i) refl (λ low. pointer_filled t c k pointers i low)
  where
    by_test : (b : Bool) → eqb k i ≡ b → (i < k → stands_at (fill_pointers t c k pointers) (at_index t i) ≡ c i)
        → cond (eqb t t && eqb k i) (c k) (stands_at (fill_pointers t c k pointers) (at_index t i)) ≡ c i
    by_test true e rest =
        ap (λ (b : Bool). cond (b && eqb k i) (c k) (stands_at (fill_pointers t c k pointers) (at_index t i))) (eq-eqb t t refl)
        ∙ (ap (λ (b : Bool). cond b (c k) (stands_at (fill_pointers t c k pointers) (at_index t i))) e
        ∙ ap (λ j. c j) (eqb-true k i e))
    by_test false e rest =
        let other : k ≢ i = λ same. true≢false (sym (eq-eqb k i same) ∙ e) in
        ap (λ (b : Bool). cond (b && eqb k i) (c k) (stands_at (fill_pointers t c k pointers) (at_index t i))) (eq-eqb t t refl)
        ∙ (ap (λ (b : Bool). cond b (c k) (stands_at (fill_pointers t c k pointers) (at_index t i))) e
        ∙ rest (omega arith))

pub pointer_unfilled : (t : ℕ) (c : ℕ → Pointer) (k : ℕ) (pointers : List (At × Pointer)) (y : At)
    → is_slot t (slot_with y) ≡ false → stands_at (fill_pointers t c k pointers) y ≡ stands_at pointers y
pointer_unfilled t c zero pointers y other = refl
pointer_unfilled t c (suc k) pointers (Root r) other = pointer_unfilled t c k pointers (Root r) other
pointer_unfilled t c (suc k) pointers (In y) other =
    ap (λ (b : Bool). cond (b && eqb k y.index) (c k) (stands_at (fill_pointers t c k pointers) (In y)))
    (ne_eqb t y.slot (λ e. true≢false (sym (eq-eqb y.slot t (sym e)) ∙ other)))
    ∙ pointer_unfilled t c k pointers (In y) other

pub pointers_sound : Laws → (l : Layout) (s : Shared) (p t : ℕ) (c : ℕ → Pointer) → p < 9
    → is_owned (slot_of s.table t).state ≡ true → has_slot (s.grips p).made t ≡ true → IsSound (joint_of l s) → (k : ℕ)
    → IsSound (joint_of l (record s { table = record s.table { pointers = fill_pointers t c k s.table.pointers } }))
pointers_sound laws l s p t c few owned made sound zero = sound
pointers_sound laws l s p t c few owned made sound (suc k) =
    let before : Shared = record s { table = record s.table { pointers = fill_pointers t c k s.table.pointers } } in
    fill_joint l before p s.story (record s.table { pointers = fill_pointers t c (suc k) s.table.pointers })
    (joint_act laws l before p (TurnPages (FillPointer (spot t k) (c k))) few
    (and_from (is_owned (slot_of s.table t).state && has_slot (s.grips p).made t) _
    (and_from (is_owned (slot_of s.table t).state) (has_slot (s.grips p).made t) owned made) refl)
    (pointers_sound laws l s p t c few owned made sound k)).sound
