-- What stands at a key, and where it comes from, when an attempt is drawn or decided.
use Rattle.std.proofs.Common.{◌≡◌, ℕ, Bool, true, false, true≢false, ◌&&◌, inl, inr, List, [], ◌∷◌, ◌++◌, refl, sym, ap}
use Rattle.std.proofs.Common.{◌∙◌, subst, Option, Some}
use Rattle.std.proofs.lemmas.Bool.{and_from, and_left, and_right, cases_Bool, false_from_ne_true}
use Rattle.std.specs.List.{Contains}
use Rattle.serial_model.specs.declared.key.Key.{Key}
use Rattle.serial_model.specs.declared.number.Number.{Number}
use Rattle.serial_model.specs.Numbers.{below_then, is_below, IsBelow, not_below_itself, is_below-true}
use Rattle.homes.specs.declared.places.Content.{Content}
use Rattle.commit_core.specs.declared.attempt.Attempt.{Attempt}
use Rattle.commit_core.specs.Keys.{same_number, content_of, content_at, written, writes_key, IsUpTo}
use Rattle.commit_core.specs.CoreState.{is_decided}
use Rattle.commit_core.specs.Serial.{content_after, state_below, last_write, RisesFrom}
use Rattle.commit_core.specs.Sound.Numbers.{OrderedNumbers}
use Rattle.commit_core.specs.Sound.Reads.{IsVersion}
use Rattle.commit_core.specs.Lemmas.Keys.{same_number-self, same_number-true}
use Rattle.lists.specs.Elements.{in_push_old}
use Rattle.commit_core.specs.Lemmas.States.{rises_low, one_of_a_number, after_all-push_not, after_all-agree}
use Rattle.commit_core.specs.Lemmas.States.{after_all-version, after_all-greatest}
use Rattle.commit_core.specs.Lemmas.Numbers.{decided_other, clock_undecided}

-- an attempt is the only one of its number
abbrev pub IsAlone : List Attempt → Attempt → Type 0
IsAlone h a = (b : Attempt) → Contains h b → b.number ≡ a.number → b ≡ a

-- any one key, to speak of numbers that concern none
pub some_key : Key
some_key = record { storage = 0; key = 0 }

-- a number of the history is that of one attempt
pub alone : (opening : List (Key × Content)) (h : List Attempt) (decided : List Number) (t : Number) (a : Attempt)
    → OrderedNumbers opening h decided t → Contains h a → IsAlone h a
alone opening h decided t a o m = λ b n e. one_of_a_number (content_at opening some_key).number h (o.rising some_key) b a n m e

-- ---- a new attempt, which is not decided

-- an attempt that only took its number changes no content
pub content_after-drawn : (opening : List (Key × Content)) (h : List Attempt) (decided : List Number) (t : Number)
    (a : Attempt) (passes : Number → Bool) (k : Key)
    → OrderedNumbers opening h decided t → a.number ≡ t → content_after opening (h ++ a ∷ []) decided passes k ≡ content_after opening h decided passes k
content_after-drawn opening h decided t a passes k o e =
    after_all-push_not (λ b. is_decided decided b.number && passes b.number) k h a (content_at opening k)
    (and_left (is_decided decided a.number) (passes a.number) (rw e (clock_undecided opening h decided t o)))

-- ---- a decision, at a key that the decided attempt does not write, or where its number does not pass

-- a decision changes no content of a key that its attempt does not write, or where it does not count
pub content_after-decided : (opening : List (Key × Content)) (h : List Attempt) (decided : List Number) (m : Number)
    (passes : Number → Bool) (k : Key)
    → ((b : Attempt) → Contains h b → b.number ≡ m → writes_key b.writes k ≡ true → passes m ≡ true → ⊥)
    → content_after opening h (decided ++ m ∷ []) passes k ≡ content_after opening h decided passes k
content_after-decided opening h decided m passes k none =
    after_all-agree (λ b. is_decided (decided ++ m ∷ []) b.number && passes b.number) (λ b. is_decided decided b.number && passes b.number) k h (content_at opening k)
    (λ b n w. elim (cases_Bool (same_number m b.number)) [
      | inl hit ↦
          let e = same_number-true m b.number hit in
          let out : passes b.number ≡ false = false_from_ne_true (passes b.number) (λ p. none b n (sym e) w (ap passes e ∙ p)) in
          and_right (is_decided (decided ++ m ∷ []) b.number) (passes b.number) out ∙ sym (and_right (is_decided decided b.number) (passes b.number) out)
      | inr miss ↦
          ap (λ (x : Bool). x && passes b.number)
          (decided_other decided m b.number (λ e. true≢false
          (sym (subst (λ (x : Number). same_number m x ≡ true) e (same_number-self m)) ∙ miss)))
    ])

-- ---- versions

-- a version stays one where an attempt takes its number
pub version_drawn : (opening : List (Key × Content)) (h : List Attempt) (a : Attempt) (k : Key) (c : Content)
    → IsVersion opening h k c → IsVersion opening (h ++ a ∷ []) k c
version_drawn opening h a k c (inl first) = inl first
version_drawn opening h a k c (inr w) = inr (w.0, in_push_old w.0 a h w.1, w.2, w.3)

-- the last decided write of a key is a version of it
pub last_version : (opening : List (Key × Content)) (h : List Attempt) (decided : List Number) (k : Key)
    → IsVersion opening h k (last_write opening h decided k)
last_version opening h decided k = after_all-version (λ a. is_decided decided a.number && true) k h (content_at opening k)

-- each version of a key is older than the clock
pub version_past : (opening : List (Key × Content)) (h : List Attempt) (decided : List Number) (t : Number)
    (k : Key) (c : Content)
    → OrderedNumbers opening h decided t → IsVersion opening h k c → IsBelow c.number t
version_past opening h decided t k c o (inl first) = subst (λ (d : Content). IsBelow d.number t) (sym first) (o.opening_past k)
version_past opening h decided t k c o (inr w) = subst (λ (n : Number). IsBelow n t) w.2 (o.past w.0 w.1)

-- a content is known by its number and its value
pub same_content_parts : (c d : Content) → c.number ≡ d.number → c.value ≡ d.value → c ≡ d
same_content_parts c d e f = ap (λ (n : Number). content_of n c.value) e ∙ ap (λ (v : Option ℕ). content_of d.number v) f

-- a number determines what stood at a key with it
pub version_same : (opening : List (Key × Content)) (h : List Attempt) (k : Key) (c d : Content)
    → RisesFrom (content_at opening k).number h
    → IsVersion opening h k c → IsVersion opening h k d → c.number ≡ d.number → c ≡ d
version_same opening h k c d r (inl x) (inl y) e = x ∙ sym y
version_same opening h k c d r (inl x) (inr y) e =
    absurd (not_below_itself (content_at opening k).number y.0.number
    (sym (ap (λ (z : Content). z.number) x) ∙ e ∙ sym y.2)
    (rises_low (content_at opening k).number h r y.0 y.1))
version_same opening h k c d r (inr x) (inl y) e =
    absurd (not_below_itself (content_at opening k).number x.0.number
    (sym (ap (λ (z : Content). z.number) y) ∙ sym e ∙ sym x.2)
    (rises_low (content_at opening k).number h r x.0 x.1))
version_same opening h k c d r (inr x) (inr y) e =
    let same = one_of_a_number (content_at opening k).number h r x.0 y.0 x.1 y.1 (x.2 ∙ e ∙ sym y.2) in
    let values : Some c.value ≡ Some d.value = sym x.3 ∙ ap (λ (b : Attempt). written k b.writes) same ∙ y.3 in
    same_content_parts c d e cc

-- what stands at a key, as long as its number is below n, is also what the state below n has
pub last_is_below : (opening : List (Key × Content)) (h : List Attempt) (decided : List Number) (n : Number)
    (k : Key) → RisesFrom (content_at opening k).number h
    → IsBelow (last_write opening h decided k).number n → last_write opening h decided k ≡ state_below opening h decided n k
last_is_below opening h decided n k r l =
    let counts : Attempt → Bool = λ b. is_decided decided b.number && true in
    after_all-agree counts (λ b. is_decided decided b.number && is_below b.number n) k h (content_at opening k)
    (λ b m w. elim (cases_Bool (is_decided decided b.number)) [
      | inl hit ↦
          let yes_it : (is_decided decided b.number && true) ≡ true = and_from (is_decided decided b.number) true hit refl in
          yes_it ∙ sym (and_from (is_decided decided b.number) (is_below b.number n) hit
          (is_below-true b.number n (up_to b.number (last_write opening h decided k).number n (after_all-greatest counts k h (content_at opening k) r b m yes_it w) l)))
      | inr miss ↦ and_left (is_decided decided b.number) true miss ∙ sym (and_left (is_decided decided b.number) (is_below b.number n) miss)
    ])
  where
    up_to : (x y z : Number) → IsUpTo x y → IsBelow y z → IsBelow x z
    up_to x y z (inl e) l = subst (λ (w : Number). IsBelow w z) (sym e) l
    up_to x y z (inr m) l = below_then x y z m l
