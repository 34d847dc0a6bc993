-- The decided attempts are as many as were decided.
use Rattle.std.proofs.Common.{◌≡◌, suc, ◌+◌, Bool, true, false, true≢false, cond, ◌||◌, inl, inr, List, [], ◌∷◌, refl, sym, ap, ◌∙◌, subst, arith, length}
use Rattle.std.proofs.lemmas.Bool.{or_left, or_right, cond-true, cond-false, false_from_ne_true}
use Rattle.std.specs.List.{Contains, filter}
use Rattle.serial_model.specs.declared.number.Number.{Number}
use Rattle.serial_model.specs.Numbers.{not_below_itself}
use Rattle.homes.specs.declared.places.Content.{Content}
use Rattle.serial_model.specs.declared.key.Key.{Key}
use Rattle.commit_core.specs.declared.attempt.Attempt.{Attempt}
use Rattle.commit_core.specs.Keys.{same_number, content_at}
use Rattle.commit_core.specs.CoreState.{is_decided}
use Rattle.commit_core.specs.Serial.{RisesFrom}
use Rattle.commit_core.specs.Sound.Numbers.{EachOnce, OrderedNumbers}
use Rattle.commit_core.specs.Lemmas.Keys.{same_number-self, same_number-true}
use Rattle.lists.specs.Elements.{in_none, in_head, in_tail, in_cases}
use Rattle.commit_core.specs.Lemmas.States.{rises_low}
use Rattle.commit_core.specs.Lemmas.Versions.{some_key}

none_pass : (p : Attempt → Bool) (h : List Attempt) → ((a : Attempt) → Contains h a → p a ≡ false) → length (filter p h) ≡ 0
none_pass p [] none = refl
none_pass p (a ∷ h) none =
    ap length (cond-false (p a) (a ∷ filter p h) (filter p h) (none a (in_head a h))) ∙ none_pass p h (λ b m. none b (in_tail b a h m))

-- two tests that no attempt passes both
both_pass : (p q : Attempt → Bool) (h : List Attempt) → ((a : Attempt) → p a ≡ true → q a ≡ false) → length (filter (λ a. p a || q a) h) ≡ length (filter p h) + length (filter q h)
both_pass p q [] apart = refl
both_pass p q (a ∷ h) apart = by_tests (p a) (q a) (apart a) (both_pass p q h apart)
  where
    by_tests : (x y : Bool) → (x ≡ true → y ≡ false) → length (filter (λ a. p a || q a) h) ≡ length (filter p h) + length (filter q h)
        → length (cond (x || y) (a ∷ filter (λ a. p a || q a) h) (filter (λ a. p a || q a) h)) ≡ length (cond x (a ∷ filter p h) (filter p h)) + length (cond y (a ∷ filter q h) (filter q h))
    by_tests true true apart e = absurd (true≢false (apart refl))
    by_tests true false apart e = omega arith
    by_tests false true apart e = omega arith
    by_tests false false apart e = e

-- a number that an attempt has is that of one alone
one_passes : (low : Number) (h : List Attempt) (a : Attempt) → RisesFrom low h → Contains h a → length (filter (λ b. same_number a.number b.number) h) ≡ 1
one_passes low [] a r m = absurd (in_none a m)
one_passes low (b ∷ h) a r m =
    elim (in_cases a b h m) [
      | inl here ↦
          let same : same_number a.number b.number ≡ true = subst (λ (x : Attempt). same_number x.number b.number ≡ true) here (same_number-self b.number) in
          ap length (cond-true (same_number a.number b.number) (b ∷ filter (λ b. same_number a.number b.number) h) (filter (λ b. same_number a.number b.number) h) same)
          ∙ ap suc (none_pass (λ b. same_number a.number b.number) h (λ c inside. false_from_ne_true (same_number a.number c.number) (λ e.
          not_below_itself b.number c.number (ap (λ (x : Attempt). x.number) here ∙ same_number-true a.number c.number e) (rises_low b.number h r.1 c inside))))
      | inr later ↦
          let other : same_number a.number b.number ≡ false = false_from_ne_true (same_number a.number b.number) (λ e.
          not_below_itself b.number a.number (sym (same_number-true a.number b.number e)) (rises_low b.number h r.1 a later)) in
          ap length (cond-false (same_number a.number b.number) (b ∷ filter (λ b. same_number a.number b.number) h) (filter (λ b. same_number a.number b.number) h) other) ∙ one_passes b.number h a r.1 later
    ]

counted : (low : Number) (h : List Attempt) (decided : List Number) → RisesFrom low h → EachOnce decided
    → ((n : Number) → is_decided decided n ≡ true → (a : Attempt) × Contains h a × (a.number ≡ n)) → length (filter (λ a. is_decided decided a.number) h) ≡ length decided
counted low h [] r once drawn = none_pass (λ a. false) h (λ a m. refl)
counted low h (n ∷ decided) r once drawn =
    let a = drawn n (or_left (same_number n n) (is_decided decided n) (same_number-self n)) in
    let one : length (filter (λ b. same_number n b.number) h) ≡ 1 = subst (λ (x : Number). length (filter (λ b. same_number x b.number) h) ≡ 1) a.2 (one_passes low h a.0 r a.1) in
    let rest = counted low h decided r once.1 (λ m d. drawn m (or_right (same_number n m) (is_decided decided m) d)) in
    let both = both_pass (λ b. same_number n b.number) (λ b. is_decided decided b.number) h (λ b e. subst (λ (x : Number). is_decided decided x ≡ false) (same_number-true n b.number e) once.0) in
    omega arith

pub count_committed : (opening : List (Key × Content)) (h : List Attempt) (decided : List Number) (clock : Number) → OrderedNumbers opening h decided clock
    → length (filter (λ a. is_decided decided a.number) h) ≡ length decided
count_committed opening h decided clock o = counted (content_at opening some_key).number h decided (o.rising some_key) o.decided_once o.decided_drawn
