-- One step of the whole state, from what the act of its seat answers.
use Rattle.std.proofs.Common.{◌≡◌, ℕ, zero, suc, ◌<◌, arith, false, List, [], ◌∷◌, refl, sym, ap, ◌∙◌, subst, set, IfOk, Option, Some, Result, Ok, Err}
use Rattle.std.specs.List.{slice_get}
use Rattle.std.specs.Option.{option_map_or}
use Rattle.serial_model.specs.declared.key.Key.{Key}
use Rattle.commit_core.specs.declared.attempt.Attempt.{Attempt}
use Rattle.commit_core.specs.declared.seat.Seat.{Seat}
use Rattle.commit_core.specs.declared.story.Story.{Story}
use Rattle.commit_core.specs.Event.{is_allowed, effect}
use Rattle.commit_core.specs.declared.event.Event.{Event}
use Rattle.commit_core.specs.CoreState.{CoreState}
use Rattle.commit_core.specs.Event.{with_moved}
use Rattle.commit_core.specs.Told.{TellsTruly}
use Rattle.commit_core.specs.Serial.{committed, ReadsAreSerial}
use Rattle.commit_core.specs.Opening.{first_number, opening_core}
use Rattle.commit_core.specs.Sound.{IsSound}
use Rattle.commit_core.specs.Sound.Numbers.{EpochFits}
use Rattle.lists.specs.declared.memory.OrMemory.{OrMemory}
use Rattle.lists.specs.declared.memory.OrMemory.TheVariants.{Fault, Memory}
use Rattle.commit_core.specs.declared.event.NotAllowed.{NotAllowed}
use Rattle.commit_core.specs.Event.{Answers, AnswersEvent}
use Rattle.commit_core.proofs.Runs.{happened_sound}
use Rattle.commit_core.proofs.SerialLaws.{committed_serial, opening_sound}

-- the state with this story, and with this seat at its place
abbrev pub with_seat : CoreState → ℕ → Story → Seat → CoreState
with_seat c p m t = record { opening = c.opening; story = m; seats = set c.seats p t }

set_itself : {A : Type 0} (xs : List A) (i : ℕ) (x : A) → slice_get xs i ≡ Some x → set xs i x ≡ xs
set_itself [] i x e = refl
set_itself {A} (y ∷ xs) zero x e = let is : y ≡ x = cc in ap (λ (z : A). z ∷ xs) (sym is)
set_itself {A} (y ∷ xs) (suc i) x e = ap (λ (l : List A). y ∷ l) (set_itself xs i x e)

-- nothing changed
same_state : (c : CoreState) (p : ℕ) (s : Seat) (m : Story) (t : Seat) → slice_get c.seats p ≡ Some s → m ≡ c.story → t ≡ s → with_seat c p m t ≡ c
same_state c p s m t at e f =
    ap (λ (x : Story). with_seat c p x t) e ∙ ap (λ (x : Seat). with_seat c p c.story x) f
    ∙ ap (λ (l : List Seat). let d : CoreState = record { opening = c.opening; story = c.story; seats = l } in d) (set_itself c.seats p s at)

pub answers_event : {X : Type 0} (c : CoreState) (e : Event) (s : Seat) (r : Result X (OrMemory NotAllowed)) (m : Story) (t : Seat) → slice_get c.seats e.seat ≡ Some s
    → Answers e.seat e.act c.story s r m t → AnswersEvent c e r (with_seat c e.seat m t)
answers_event c e s (Ok x) m t at a = (
  ap (λ (o : Option Seat). option_map_or (λ u. is_allowed e.seat c.story u e.act) o false) at ∙ a.0,
  ap (λ (y : Story). with_seat c e.seat y t) a.1 ∙ ap (λ (u : Seat). with_seat c e.seat (effect e.seat c.story s e.act).story u) a.2
      ∙ sym (ap (λ (o : Option Seat). option_map_or (λ u. with_moved c e.seat (effect e.seat c.story u e.act)) o c) at),
)
answers_event c e s (Err (Fault f)) m t at a =
    (ap (λ (o : Option Seat). option_map_or (λ u. is_allowed e.seat c.story u e.act) o false) at ∙ a.0, same_state c e.seat s m t at a.1 a.2)
answers_event c e s (Err Memory) m t at a =
    (ap (λ (o : Option Seat). option_map_or (λ u. is_allowed e.seat c.story u e.act) o false) at ∙ a.0, a.1, same_state c e.seat s m t at a.2 a.3)

pub answers_sound : {X : Type 0} (c : CoreState) (e : Event) (r : Result X (OrMemory NotAllowed)) (d : CoreState) → AnswersEvent c e r d → TellsTruly c e → IsSound c → IsSound d
answers_sound c e (Ok x) d a told sound = subst (λ (y : CoreState). IsSound y) (sym a.1) (happened_sound c e a.0 told sound)
answers_sound c e (Err (Fault f)) d a told sound = subst (λ (y : CoreState). IsSound y) (sym a.1) sound
answers_sound c e (Err Memory) d a told sound = subst (λ (y : CoreState). IsSound y) (sym a.2) sound

-- the same at each answer of a call

pub opened_sound : {E : Type 0} (pairs : List (Key × ℕ)) (passes : ℕ) (r : Result CoreState E) → IfOk r (λ c. c ≡ opening_core pairs first_number passes) → IfOk r IsSound
opened_sound pairs passes (Ok c) is = let later : 0 < 1 = omega arith in let fits : EpochFits 1 = omega arith in subst (λ (x : CoreState). IsSound x) (sym is) (opening_sound pairs first_number passes later fits)
opened_sound pairs passes (Err e) is = tt

pub listed_serial : {E : Type 0} (c : CoreState) (r : Result (List Attempt) E) → IfOk r (λ attempts. attempts ≡ committed c.story) → IsSound c → IfOk r (ReadsAreSerial c.opening)
listed_serial c (Ok attempts) is sound = subst (λ (x : List Attempt). ReadsAreSerial c.opening x) (sym is) (committed_serial c.opening c.story sound.story)
listed_serial c (Err e) is sound = tt
