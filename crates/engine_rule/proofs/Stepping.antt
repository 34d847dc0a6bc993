-- One step of the whole state, from what the act of its seat answers.
use Rattle.std.proofs.Common.{◌≡◌, ℕ, zero, suc, ◌<◌, get_or, false, List, [], ◌∷◌, length, arith, sym, ap, ◌∙◌, subst, set, IfOk, Option, Some, Result, Ok, Err}
use Rattle.std.specs.List.{slice_get}
use Rattle.std.specs.Option.{option_map_or}
use Rattle.lists.specs.declared.memory.OrMemory.{OrMemory}
use Rattle.lists.specs.declared.memory.OrMemory.TheVariants.{Fault, Memory}
use Rattle.serial_model.specs.declared.number.Number.{Number}
use Rattle.homes.specs.declared.places.Span.{Span}
use Rattle.commit_core.specs.declared.event.NotAllowed.{NotAllowed}
use Rattle.commit_core.specs.declared.seat.Seat.{Seat}
use Rattle.commit_core.specs.declared.story.Story.{Story}
use Rattle.drop_core.specs.declared.table.SnapPage.{SnapPage}
use Rattle.drop_core.specs.declared.table.Table.{Table}
use Rattle.drop_core.specs.declared.grip.Grip.{Grip}
use Rattle.engine_rule.specs.declared.event.JointEvent.{JointEvent}
use Rattle.engine_rule.specs.JointState.{JointState}
use Rattle.engine_rule.specs.Event.{Joined, is_allowed, effect, with_joined, acted, may_with, may_happen, happened_with, happened}
use Rattle.engine_rule.specs.Answers.{IsLeft, all_of, Answers, AnswersEvent}
use Rattle.engine_rule.specs.Opening.{opening_joint, CanOpenJoint}
use Rattle.engine_rule.specs.Law.{EachEventKeeps, StartsSound}
use Rattle.engine_rule.specs.Sound.{IsSound}
use Rattle.engine_rule.proofs.Plainly.{set_itself}

module _ (c : JointState) (e : JointEvent) (s : Seat) (g : Grip) (at : slice_get c.commits.seats e.seat ≡ Some s) (holds : slice_get c.pages.grips e.seat ≡ Some g) where
  may_at : may_happen c e ≡ is_allowed e.seat c.commits.story s c.pages.table g e.act
  may_at =
      ap (λ (o : Option Seat). option_map_or (may_with c e) o false) at
      ∙ ap (λ (o : Option Grip). option_map_or (λ h. is_allowed e.seat c.commits.story s c.pages.table h e.act) o false) holds

  happened_at : happened c e ≡ acted c e.seat s g e.act
  happened_at =
      ap (λ (o : Option Seat). option_map_or (happened_with c e) o c) at
      ∙ ap (λ (o : Option Grip). option_map_or (λ h. acted c e.seat s h e.act) o c) holds

  -- what is left by these is left by that
  left_is : (j : Joined) (n : Story) (t : Seat) (d : Table) (h : Grip) → IsLeft j n t d h → with_joined c e.seat (all_of n t d h) ≡ with_joined c e.seat j
  left_is j n t d h l =
      ap (λ (x : Story). with_joined c e.seat (all_of x t d h)) l.0
      ∙ ap (λ (x : Seat). with_joined c e.seat (all_of j.story x d h)) l.1
      ∙ ap (λ (x : Table). with_joined c e.seat (all_of j.story j.seat x h)) l.2
      ∙ ap (λ (x : Grip). with_joined c e.seat (all_of j.story j.seat j.table x)) l.3

  -- what was there already changes nothing
  same_state : with_joined c e.seat (all_of c.commits.story s c.pages.table g) ≡ c
  same_state =
      ap (λ (l : List Seat). let x : JointState = record {
        commits = record { opening = c.commits.opening; story = c.commits.story; seats = l };
        pages = record { table = c.pages.table; grips = set c.pages.grips e.seat g };
      } in x) (set_itself c.commits.seats e.seat s at)
      ∙ ap (λ (l : List Grip). let x : JointState = record { commits = c.commits; pages = record { table = c.pages.table; grips = l } } in x)
      (set_itself c.pages.grips e.seat g holds)

  pub answers_event : {X : Type 0} (r : Result X (OrMemory NotAllowed)) (n : Story) (t : Seat) (d : Table) (h : Grip)
      → Answers e.seat e.act c.commits.story s c.pages.table g r n t d h → AnswersEvent c e r (with_joined c e.seat (all_of n t d h))
  answers_event (Ok x) n t d h a =
      (may_at ∙ a.0, left_is (effect e.seat c.commits.story s c.pages.table g e.act) n t d h a.1 ∙ sym happened_at)
  answers_event (Err (Fault f)) n t d h a = (may_at ∙ a.0, left_is (all_of c.commits.story s c.pages.table g) n t d h a.1 ∙ same_state)
  answers_event (Err Memory) n t d h a = (may_at ∙ a.0, a.1, left_is (all_of c.commits.story s c.pages.table g) n t d h a.2 ∙ same_state)

-- what is read within a list is what it has there
pub read_there : {A : Type 0} (xs : List A) (i : ℕ) (d x : A) → i < length xs → x ≡ get_or xs i d → slice_get xs i ≡ Some x
read_there [] i d x less is = absurd (omega (arith, less))
read_there (y ∷ xs) zero d x less is = ap Some (sym is)
read_there (y ∷ xs) (suc i) d x less is = read_there xs i d x (omega (arith, less)) is

pub answers_sound : {X : Type 0} (keeps : EachEventKeeps) (c : JointState) (e : JointEvent) (r : Result X (OrMemory NotAllowed)) (d : JointState)
    → AnswersEvent c e r d → IsSound c → IsSound d
answers_sound keeps c e (Ok x) d a sound = subst (λ (y : JointState). IsSound y) (sym a.1) (keeps c e a.0 sound)
answers_sound keeps c e (Err (Fault f)) d a sound = subst (λ (y : JointState). IsSound y) (sym a.1) sound
answers_sound keeps c e (Err Memory) d a sound = subst (λ (y : JointState). IsSound y) (sym a.2) sound

pub opened_sound : {E : Type 0} (starts : StartsSound) (snaps : List (ℕ × SnapPage)) (published : ℕ) (roots : List (Span × ℕ)) (first : Number) (room seats : ℕ)
    (r : Result JointState E) → CanOpenJoint snaps published roots first room → IfOk r (λ c. c ≡ opening_joint snaps published roots first room seats) → IfOk r IsSound
opened_sound starts snaps published roots first room seats (Ok c) can is =
    subst (λ (x : JointState). IsSound x) (sym is) (starts snaps published roots first room seats can)
opened_sound starts snaps published roots first room seats (Err e) can is = tt
