-- One step of the whole state, from what the act of its seat answers.
use Rattle.std.proofs.Common.{◌≡◌, ℕ, zero, suc, false, List, [], ◌∷◌, refl, sym, ap, ◌∙◌, subst, set, IfOk, Option, Some, Result, Ok, Err}
use Rattle.std.specs.List.{slice_get}
use Rattle.std.specs.Option.{option_map_or}
use Rattle.serial_model.specs.declared.key.Key.{Key}
use Rattle.homes.specs.declared.places.Span.{Span}
use Rattle.homes.specs.declared.places.Home.{Home}
use Rattle.homes.specs.declared.places.Move.{Move}
use Rattle.homes.specs.Homes.{moved}
use Rattle.drop_core.specs.declared.table.SnapPage.{SnapPage}
use Rattle.drop_core.specs.declared.table.Table.{Table}
use Rattle.drop_core.specs.declared.grip.Grip.{Grip}
use Rattle.drop_core.specs.declared.event.Event.{Event}
use Rattle.drop_core.specs.Event.{DropState, is_allowed, effect, may_happen, with_turned, happened, Answers, AnswersEvent}
use Rattle.drop_core.specs.Sound.{IsSound, IsOutcome}
use Rattle.drop_core.specs.Opening.{opening_state, opening_homes, CanOpen}
use Rattle.drop_core.proofs.Openings.{starts_sound}
use Rattle.drop_core.proofs.Runs.{happened_sound}
use Rattle.lists.specs.declared.memory.OrMemory.{OrMemory}
use Rattle.lists.specs.declared.memory.OrMemory.TheVariants.{Fault, Memory}
use Rattle.drop_core.specs.declared.event.NotAllowed.{NotAllowed}

-- the state with this table, and with this seat's own at its place
abbrev pub with_grip : DropState → ℕ → Table → Grip → DropState
with_grip c p d h = record { table = d; grips = set c.grips p h }

set_itself : {A : Type 0} (xs : List A) (i : ℕ) (x : A) → slice_get xs i ≡ Some x → set xs i x ≡ xs
set_itself [] i x e = refl
set_itself {A} (y ∷ xs) zero x e = let is : y ≡ x = cc in ap (λ (z : A). z ∷ xs) (sym is)
set_itself {A} (y ∷ xs) (suc i) x e = ap (λ (l : List A). y ∷ l) (set_itself xs i x e)

-- nothing changed
same_state : (c : DropState) (p : ℕ) (g : Grip) (d : Table) (h : Grip) → slice_get c.grips p ≡ Some g → d ≡ c.table → h ≡ g → with_grip c p d h ≡ c
same_state c p g d h at e f =
    ap (λ (x : Table). with_grip c p x h) e ∙ ap (λ (x : Grip). with_grip c p c.table x) f
    ∙ ap (λ (l : List Grip). let s : DropState = record { table = c.table; grips = l } in s) (set_itself c.grips p g at)

allowed_at : (c : DropState) (e : Event) (g : Grip) → slice_get c.grips e.seat ≡ Some g → may_happen c e ≡ is_allowed e.seat c.table g e.act
allowed_at c e g at = ap (λ (o : Option Grip). option_map_or (λ u. is_allowed e.seat c.table u e.act) o false) at

pub answers_event : (c : DropState) (e : Event) (g : Grip) (r : Result (List Move) (OrMemory NotAllowed)) (d : Table) (h : Grip) → slice_get c.grips e.seat ≡ Some g
    → Answers e.seat e.act c.table g r d h → AnswersEvent c e r (with_grip c e.seat d h)
answers_event c e g (Ok m) d h at a = (
  allowed_at c e g at ∙ a.0,
  a.1,
  ap (λ (y : Table). with_grip c e.seat y h) a.2 ∙ ap (λ (u : Grip). with_grip c e.seat (effect e.seat c.table g e.act).table u) a.3
      ∙ sym (ap (λ (o : Option Grip). option_map_or (λ u. with_turned c e.seat (effect e.seat c.table u e.act)) o c) at),
)
answers_event c e g (Err (Fault f)) d h at a = (allowed_at c e g at ∙ a.0, same_state c e.seat g d h at a.1 a.2)
answers_event c e g (Err Memory) d h at a = (allowed_at c e g at ∙ a.0, a.1, same_state c e.seat g d h at a.2 a.3)

-- the state is sound with the homes after what was answered
pub answers_sound : (homes : Key → Home) (c : DropState) (e : Event) (r : Result (List Move) (OrMemory NotAllowed)) (d : DropState) → AnswersEvent c e r d → IsSound homes c
    → IsOutcome homes r d
answers_sound homes c e (Ok m) d a sound = subst (λ (y : DropState). IsSound (moved m homes) y) (sym a.2) (subst (λ (l : List Move). IsSound (moved l homes) (happened c e)) (sym a.1) (happened_sound homes c e a.0 sound))
answers_sound homes c e (Err f) d a sound = unchanged f a
  where
    unchanged : (f : OrMemory NotAllowed) → AnswersEvent c e (Err f) d → IsSound homes d
    unchanged (Fault r) a = subst (λ (y : DropState). IsSound homes y) (sym a.1) sound
    unchanged Memory a = subst (λ (y : DropState). IsSound homes y) (sym a.2) sound

pub same_sound : (homes : Key → Home) (c d : DropState) → d ≡ c → IsSound homes c → IsSound homes d
same_sound homes c d is sound = subst (λ (x : DropState). IsSound homes x) (sym is) sound

pub opened_sound : {E : Type 0} (snaps : List (ℕ × SnapPage)) (published : ℕ) (roots : List (Span × ℕ)) (room seats : ℕ) (r : Result DropState E) → CanOpen snaps published roots room
    → IfOk r (λ c. c ≡ opening_state snaps published roots room seats) → IfOk r (IsSound (opening_homes snaps published roots room))
opened_sound snaps published roots room seats (Ok c) can is =
    subst (λ (x : DropState). IsSound (opening_homes snaps published roots room) x) (sym is) (starts_sound snaps published roots room seats can)
opened_sound snaps published roots room seats (Err e) can is = tt
