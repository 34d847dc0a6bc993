-- Numbers under a draw, a check, a decision and an advance.
use Rattle.std.proofs.Common.{◌≡◌, ℕ, ◌+◌, ◌<◌, true, false, true≢false, ◌&&◌, ◌⊎◌, inl, inr, List, [], ◌∷◌, ◌++◌, refl}
use Rattle.std.proofs.Common.{sym, ap, ◌∙◌, subst, arith, length, length-append}
use Rattle.std.proofs.lemmas.Bool.{and_parts, or_left, or_right, false_from_ne_true}
use Rattle.std.specs.List.{Contains}
use Rattle.serial_model.specs.declared.key.Key.{Key}
use Rattle.serial_model.specs.declared.number.Number.{Number}
use Rattle.serial_model.specs.Numbers.{below_then, IsBelow, not_below_itself}
use Rattle.homes.specs.declared.places.Content.{Content}
use Rattle.commit_core.specs.declared.part.Word.{Word}
use Rattle.commit_core.specs.declared.attempt.Attempt.{Attempt}
use Rattle.commit_core.specs.declared.attempt.Check.{Check}
use Rattle.commit_core.specs.Keys.{same_number, content_at}
use Rattle.commit_core.specs.Parts.{same_word}
use Rattle.commit_core.specs.CoreState.{clock_of, is_decided, is_checked, check_of}
use Rattle.commit_core.specs.Lemmas.Keys.{same_number-self, same_number-true, same_word-true}
use Rattle.lists.specs.Elements.{in_push_cases, in_push_old, any_push_cases, any_push_old, any_push_new, any_push-false}
use Rattle.commit_core.specs.Lemmas.States.{rises_push}
use Rattle.commit_core.specs.Sound.Numbers.{EachOnce, OrderedNumbers, ChecksArePast}

-- ---- the clock goes on

-- a draw moves the clock up
pub clock_after_draw : (first epoch : ℕ) (h : List Attempt) (a : Attempt)
    → IsBelow (clock_of first epoch h) (clock_of first epoch (h ++ a ∷ []))
clock_after_draw first epoch h a = let longer = length-append h (a ∷ []) in later epoch (first + length h) (first + length (h ++ a ∷ [])) (omega (arith, longer))
  where
    later : (e x y : ℕ) → x < y → IsBelow (record { epoch = e; draw = x }) (record { epoch = e; draw = y })
    later e x y l = inr (refl, l)

-- an advance of the epoch moves the clock up
pub clock_after_advance : (first epoch : ℕ) (h : List Attempt)
    → IsBelow (clock_of first epoch h) (clock_of first (epoch + 1) h)
clock_after_advance first epoch h = inl (omega arith)

-- ---- one more decided number, one more check

-- once one more is decided, a decided one was decided before, or is the new one
pub decided_cases : (decided : List Number) (m n : Number) → is_decided (decided ++ m ∷ []) n ≡ true
    → (is_decided decided n ≡ true) ⊎ (m ≡ n)
decided_cases decided m n h =
    elim (any_push_cases (λ x. same_number x n) decided m h) [ inl old ↦ inl old | inr new ↦ inr (same_number-true m n new) ]

-- what was decided stays so
pub decided_old : (decided : List Number) (m n : Number) → is_decided decided n ≡ true
    → is_decided (decided ++ m ∷ []) n ≡ true
decided_old decided m n h = any_push_old (λ x. same_number x n) decided m h

-- the new one is decided
pub decided_new : (decided : List Number) (m n : Number) → m ≡ n → is_decided (decided ++ m ∷ []) n ≡ true
decided_new decided m n e = any_push_new (λ x. same_number x n) decided m (subst (λ (x : Number). same_number m x ≡ true) e (same_number-self m))

-- of another number the decision of one says nothing
pub decided_other : (decided : List Number) (m n : Number) → (m ≡ n → ⊥)
    → is_decided (decided ++ m ∷ []) n ≡ is_decided decided n
decided_other decided m n other =
    any_push-false (λ x. same_number x n) decided m (false_from_ne_true (same_number m n) (λ h. other (same_number-true m n h)))

-- once one more part is checked, a checked one was checked before, or is the new one
pub checked_cases : (checks : List Check) (n : Number) (w : Word) (m : Number) (v : Word)
    → is_checked (checks ++ check_of n w ∷ []) m v ≡ true
    → (is_checked checks m v ≡ true) ⊎ ((n ≡ m) × (w ≡ v))
checked_cases checks n w m v h =
    elim (any_push_cases (λ c. same_number c.number m && same_word c.word v) checks (check_of n w) h) [
      | inl old ↦ inl old
      | inr new ↦ let parts = and_parts (same_number n m) (same_word w v) new in inr (same_number-true n m parts.0, same_word-true w v parts.1)
    ]

-- what was checked stays so
pub checked_old : (checks : List Check) (n : Number) (w : Word) (m : Number) (v : Word)
    → is_checked checks m v ≡ true → is_checked (checks ++ check_of n w ∷ []) m v ≡ true
checked_old checks n w m v h = any_push_old (λ c. same_number c.number m && same_word c.word v) checks (check_of n w) h

-- ---- ordered_numbers

-- ordered numbers stay ordered where the clock moves up
pub numbers_later : (opening : List (Key × Content)) (h : List Attempt) (decided : List Number) (t u : Number)
    → IsBelow t u → OrderedNumbers opening h decided t → OrderedNumbers opening h decided u
numbers_later opening h decided t u l o = record {
  opening_past = λ k. below_then (content_at opening k).number t u (o.opening_past k) l;
  rising = o.rising;
  past = λ a m. below_then a.number t u (o.past a m) l;
  decided_drawn = o.decided_drawn;
  decided_once = o.decided_once;
}

-- the clock's number is not decided
pub clock_undecided : (opening : List (Key × Content)) (h : List Attempt) (decided : List Number) (t : Number)
    → OrderedNumbers opening h decided t → is_decided decided t ≡ false
clock_undecided opening h decided t o =
    false_from_ne_true (is_decided decided t) (λ e. let d = o.decided_drawn t e in not_below_itself d.0.number t d.2 (o.past d.0 d.1))

-- ordered numbers stay ordered where an attempt takes the clock's number
pub numbers_drawn : (opening : List (Key × Content)) (h : List Attempt) (decided : List Number) (t u : Number)
    (a : Attempt) → a.number ≡ t → IsBelow t u
    → OrderedNumbers opening h decided t → OrderedNumbers opening (h ++ a ∷ []) decided u
numbers_drawn opening h decided t u a e l o = record {
  opening_past = λ k. below_then (content_at opening k).number t u (o.opening_past k) l;
  rising = λ k. rises_push (content_at opening k).number h a (o.rising k) (rw e (o.opening_past k)) (λ b m. rw e (o.past b m));
  past = λ b m. elim (in_push_cases b a h m) [
    | inl old ↦ below_then b.number t u (o.past b old) l
    | inr new ↦ subst (λ (n : Number). IsBelow n u) (sym e ∙ ap (λ (x : Attempt). x.number) new) l
  ];
  decided_drawn = λ n d. let r = o.decided_drawn n d in (r.0, in_push_old r.0 a h r.1, r.2);
  decided_once = o.decided_once;
}

once_push : (decided : List Number) (m : Number) → EachOnce decided → is_decided decided m ≡ false
    → EachOnce (decided ++ m ∷ [])
once_push [] m o e = (refl, tt)
once_push (n ∷ decided) m o e = (
  false_from_ne_true (is_decided (decided ++ m ∷ []) n) (λ h.
      elim (decided_cases decided m n h) [
        | inl old ↦ true≢false (sym old ∙ o.0)
        | inr same ↦ true≢false (sym (or_left (same_number n m) (is_decided decided m) (subst (λ (x : Number). same_number n x ≡ true) (sym same) (same_number-self n))) ∙ e)
      ]),
  once_push decided m o.1 (false_from_ne_true (is_decided decided m) (λ h. true≢false (sym (or_right (same_number n m) (is_decided decided m) h) ∙ e))),
)

-- ordered numbers stay ordered where an attempt of the history is decided
pub numbers_decided : (opening : List (Key × Content)) (h : List Attempt) (decided : List Number) (t : Number)
    (a : Attempt) → Contains h a → is_decided decided a.number ≡ false
    → OrderedNumbers opening h decided t → OrderedNumbers opening h (decided ++ a.number ∷ []) t
numbers_decided opening h decided t a m e o = record {
  opening_past = o.opening_past;
  rising = o.rising;
  past = o.past;
  decided_drawn = λ n d. elim (decided_cases decided a.number n d) [ inl old ↦ o.decided_drawn n old | inr new ↦ (a, m, new) ];
  decided_once = once_push decided a.number o.decided_once e;
}

-- ---- checks_are_past

-- checks lie below each later clock
pub checks_later : (checks : List Check) (t u : Number) → IsBelow t u → ChecksArePast checks t → ChecksArePast checks u
checks_later checks t u l past = λ n w h. below_then n t u (past n w h) l

-- a check of an attempt below the clock lies below the clock
pub checks_checked : (checks : List Check) (t n : Number) (w : Word) → IsBelow n t → ChecksArePast checks t
    → ChecksArePast (checks ++ check_of n w ∷ []) t
checks_checked checks t n w l past = λ m v h.
    elim (checked_cases checks n w m v h) [
      | inl old ↦ past m v old
      | inr new ↦ subst (λ (x : Number). IsBelow x t)
          new.0 l
    ]
