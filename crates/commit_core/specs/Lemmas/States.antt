-- What stands at a key after the attempts that count.
use Rattle.std.proofs.Common.{◌≡◌, ℕ, Bool, true, false, true≢false, cond, ◌⊎◌, inl, inr, List, [], ◌∷◌, ◌++◌, refl}
use Rattle.std.proofs.Common.{sym, ap, ◌∙◌, subst, Option, Some, None}
use Rattle.std.proofs.lemmas.Bool.{cases_Bool, false_from_ne_true, cond-true, cond-false}
use Rattle.std.specs.List.{Contains}
use Rattle.std.specs.Prelude.{is_some}
use Rattle.std.specs.Option.{option_map_or}
use Rattle.serial_model.specs.declared.key.Key.{Key}
use Rattle.serial_model.specs.declared.number.Number.{Number}
use Rattle.serial_model.specs.Numbers.{below_then, IsBelow, not_below_itself, not_both_below}
use Rattle.homes.specs.declared.places.Content.{Content}
use Rattle.commit_core.specs.declared.attempt.Attempt.{Attempt}
use Rattle.commit_core.specs.Keys.{content_of, nothing, written, writes_key, IsUpTo}
use Rattle.commit_core.specs.Serial.{after_writes, after_all, RisesFrom}
use Rattle.lists.specs.Elements.{in_none, in_head, in_tail, in_cases}

-- ---- numbers that rise

-- each number of a history that rises from a number on is above it
pub rises_low : (low : Number) (h : List Attempt) → RisesFrom low h → (a : Attempt) → Contains h a
    → IsBelow low a.number
rises_low low [] r a m = absurd (in_none a m)
rises_low low (b ∷ h) r a m =
    elim (in_cases a b h m) [
      | inl e ↦ subst (λ (x : Attempt). IsBelow low x.number) e r.0
      | inr n ↦ below_then low b.number a.number r.0 (rises_low b.number h r.1 a n)
    ]

-- what rises from a number rises from each lower one
pub rises_lower : (low high : Number) (h : List Attempt) → IsBelow low high → RisesFrom high h → RisesFrom low h
rises_lower low high [] l r = r
rises_lower low high (a ∷ h) l r = (below_then low high a.number l r.0, r.1)

-- a history rises on with an attempt above all of it
pub rises_push : (low : Number) (h : List Attempt) (a : Attempt) → RisesFrom low h → IsBelow low a.number
    → ((b : Attempt) → Contains h b → IsBelow b.number a.number) → RisesFrom low (h ++ a ∷ [])
rises_push low [] a r l past = (l, r)
rises_push low (b ∷ h) a r l past = (r.0, rises_push b.number h a r.1 (past b (in_head b h)) (λ c m. past c (in_tail c b h m)))

-- an attempt is known by its number
pub one_of_a_number : (low : Number) (h : List Attempt) → RisesFrom low h → (a b : Attempt) → Contains h a
    → Contains h b → a.number ≡ b.number → a ≡ b
one_of_a_number low [] r a b m n e = absurd (in_none a m)
one_of_a_number low (c ∷ h) r a b m n e =
    elim (in_cases a c h m) [
      | inl ca ↦ elim (in_cases b c h n) [
        | inl cb ↦ sym ca ∙ cb
        | inr nb ↦ absurd (not_below_itself c.number b.number (ap (λ (x : Attempt). x.number) ca ∙ e) (rises_low c.number h r.1 b nb))
      ]
      | inr ma ↦ elim (in_cases b c h n) [
        | inl cb ↦ absurd (not_below_itself c.number a.number (ap (λ (x : Attempt). x.number) cb ∙ sym e) (rises_low c.number h r.1 a ma))
        | inr nb ↦ one_of_a_number c.number h r.1 a b ma nb e
      ]
    ]

-- ---- one attempt

not_written : (n : Number) (w : Option (Option ℕ)) (c : Content) → is_some w ≡ false
    → option_map_or (λ v. content_of n v) w c ≡ c
not_written n None c e = refl
not_written n (Some v) c e = absurd (true≢false e)

is_written : (n : Number) (w : Option (Option ℕ)) (c : Content)
    → (w ≡ None) ⊎ ((v : Option ℕ) × (w ≡ Some v) × (option_map_or (λ u. content_of n u) w c ≡ content_of n v))
is_written n None c = inl refl
is_written n (Some v) c = inr (v, refl, refl)

-- what is written is a write
pub written-writes : (k : Key) (a : Attempt) (v : Option ℕ) → written k a.writes ≡ Some v → writes_key a.writes k ≡ true
written-writes k a v e = ap (λ (w : Option (Option ℕ)). is_some w) e

-- a key among those written has a value that was written
pub writes-written : (k : Key) (a : Attempt) → writes_key a.writes k ≡ true
    → (v : Option ℕ) × (written k a.writes ≡ Some v)
writes-written k a e =
    elim (is_written a.number (written k a.writes) nothing) [
      | inl none ↦ absurd (true≢false (sym e ∙ ap (λ (w : Option (Option ℕ)). is_some w) none))
      | inr some ↦ (some.0, some.1)
    ]

-- an attempt that does not write the key leaves what stands there
pub after_writes-not : (k : Key) (a : Attempt) (c : Content) → writes_key a.writes k ≡ false → after_writes k a c ≡ c
after_writes-not k a c e = not_written a.number (written k a.writes) c e

-- an attempt that writes the key leaves its value with its own number
pub after_writes-value : (k : Key) (a : Attempt) (c : Content) (v : Option ℕ) → written k a.writes ≡ Some v
    → after_writes k a c ≡ content_of a.number v
after_writes-value k a c v e = ap (λ (w : Option (Option ℕ)). option_map_or (λ u. content_of a.number u) w c) e

-- what one attempt of a list does, if it counts
abbrev stepped : Bool → Key → Attempt → Content → Content
stepped b k a c = cond b (after_writes k a c) c

step_nothing : (b : Bool) (k : Key) (a : Attempt) (c : Content) → (b ≡ true → writes_key a.writes k ≡ true → ⊥)
    → stepped b k a c ≡ c
step_nothing true k a c h = after_writes-not k a c (false_from_ne_true (writes_key a.writes k) (h refl))
step_nothing false k a c h = refl

-- what an attempt that writes the key leaves there
record Wrote (k : Key) (a : Attempt) (c : Content) : Type 0 where
  value : Option ℕ
  written_is : written k a.writes ≡ Some value
  is : c ≡ content_of a.number value

step_cases : (b : Bool) (k : Key) (a : Attempt) (c : Content) → (stepped b k a c ≡ c) ⊎ Wrote k a (stepped b k a c)
step_cases false k a c = inl refl
step_cases true k a c =
    elim (is_written a.number (written k a.writes) c) [
      | inl none ↦ inl (not_written a.number (written k a.writes) c (ap (λ (w : Option (Option ℕ)). is_some w) none))
      | inr some ↦ inr (record { value = some.0; written_is = some.1; is = some.2 })
    ]

step_agrees : (x y : Bool) (k : Key) (a : Attempt) (c : Content) → (writes_key a.writes k ≡ true → x ≡ y)
    → stepped x k a c ≡ stepped y k a c
step_agrees x y k a c same =
    elim (cases_Bool (writes_key a.writes k)) [
      | inl writes ↦ ap (λ (b : Bool). stepped b k a c) (same writes)
      | inr not_so ↦ step_nothing x k a c (λ _ w. true≢false (sym w ∙ not_so)) ∙ sym (step_nothing y k a c (λ _ w. true≢false (sym w ∙ not_so)))
    ]

-- ---- a list of them

-- one attempt more comes after the others, where it counts
pub after_all-push : (f : Attempt → Bool) (k : Key) (h : List Attempt) (a : Attempt) (c : Content)
    → after_all f k (h ++ a ∷ []) c ≡ cond (f a) (after_writes k a (after_all f k h c)) (after_all f k h c)
after_all-push f k [] a c = refl
after_all-push f k (b ∷ h) a c = after_all-push f k h a (stepped (f b) k b c)

-- one more that doesn't count changes nothing
pub after_all-push_not : (f : Attempt → Bool) (k : Key) (h : List Attempt) (a : Attempt) (c : Content) → f a ≡ false
    → after_all f k (h ++ a ∷ []) c ≡ after_all f k h c
after_all-push_not f k h a c e = after_all-push f k h a c ∙ cond-false (f a) (after_writes k a (after_all f k h c)) (after_all f k h c) e

-- only whether the writers of the key count matters
pub after_all-agree : (f g : Attempt → Bool) (k : Key) (h : List Attempt) (c : Content)
    → ((a : Attempt) → Contains h a → writes_key a.writes k ≡ true → f a ≡ g a) → after_all f k h c ≡ after_all g k h c
after_all-agree f g k [] c same = refl
after_all-agree f g k (a ∷ h) c same =
    ap (λ (d : Content). after_all f k h d) (step_agrees (f a) (g a) k a c (same a (in_head a h)))
    ∙ after_all-agree f g k h (stepped (g a) k a c) (λ b m. same b (in_tail b a h m))

-- where no writer of the key counts, it stays
pub after_all-none : (f : Attempt → Bool) (k : Key) (h : List Attempt) (c : Content)
    → ((a : Attempt) → Contains h a → f a ≡ true → writes_key a.writes k ≡ true → ⊥) → after_all f k h c ≡ c
after_all-none f k [] c none = refl
after_all-none f k (a ∷ h) c none =
    ap (λ (d : Content). after_all f k h d) (step_nothing (f a) k a c (none a (in_head a h)))
    ∙ after_all-none f k h c (λ b m. none b (in_tail b a h m))

-- what stands there stood there at first, or some attempt wrote it
pub after_all-version : (f : Attempt → Bool) (k : Key) (h : List Attempt) (c : Content)
    → (after_all f k h c ≡ c) ⊎ ((a : Attempt) × Contains h a × (a.number ≡ (after_all f k h c).number) × (written k a.writes ≡ Some (after_all f k h c).value))
after_all-version f k [] c = inl refl
after_all-version f k (a ∷ h) c =
    elim (after_all-version f k h (stepped (f a) k a c)) [
      | inl stays ↦ elim (step_cases (f a) k a c) [
        | inl same ↦ inl (stays ∙ same)
        | inr wrote ↦ let now = stays ∙ wrote.is in
            inr (
              a,
              in_head a h,
              sym (ap (λ (d : Content). d.number) now),
              wrote.written_is
                  ∙ ap (λ (v : Option ℕ). Some v) (sym (ap (λ (d : Content). d.value) now)),
            )
      ]
      | inr later ↦ inr (later.0, in_tail later.0 a h later.1, later.2, later.3)
    ]

-- what stands at a key is what was there, or what one wrote that counts
pub after_all-counted : (f : Attempt → Bool) (k : Key) (h : List Attempt) (c : Content)
    → (after_all f k h c ≡ c) ⊎ ((a : Attempt) × Contains h a × (f a ≡ true) × (a.number ≡ (after_all f k h c).number) × (written k a.writes ≡ Some (after_all f k h c).value))
after_all-counted f k [] c = inl refl
after_all-counted f k (a ∷ h) c =
    elim (after_all-counted f k h (stepped (f a) k a c)) [
      | inl stays ↦ elim (cases_Bool (f a)) [
        | inl hit ↦ elim (step_cases (f a) k a c) [
          | inl same ↦ inl (stays ∙ same)
          | inr wrote ↦ let now = stays ∙ wrote.is in
              inr (
                a,
                in_head a h,
                hit,
                sym (ap (λ (d : Content). d.number) now),
                wrote.written_is
                    ∙ ap (λ (v : Option ℕ). Some v) (sym (ap (λ (d : Content). d.value) now)),
              )
        ]
        | inr miss ↦ inl (stays ∙ ap (λ (b : Bool). stepped b k a c) miss)
      ]
      | inr later ↦ inr (later.0, in_tail later.0 a h later.1, later.2, later.3, later.4)
    ]

rises_step : (b : Bool) (k : Key) (a : Attempt) (h : List Attempt) (c : Content) → RisesFrom c.number (a ∷ h)
    → RisesFrom (stepped b k a c).number h
rises_step b k a h c r =
    elim (step_cases b k a c) [
      | inl same ↦ subst (λ (d : Content). RisesFrom d.number h) (sym same) (rises_lower c.number a.number h r.0 r.1)
      | inr wrote ↦ subst (λ (d : Content). RisesFrom d.number h) (sym wrote.is) r.1
    ]

-- numbers at a key rise
after_all-at_least : (f : Attempt → Bool) (k : Key) (h : List Attempt) (c : Content) → RisesFrom c.number h
    → IsUpTo c.number (after_all f k h c).number
after_all-at_least f k [] c r = inl refl
after_all-at_least f k (a ∷ h) c r =
    let below = after_all-at_least f k h (stepped (f a) k a c) (rises_step (f a) k a h c r) in
    let end = (after_all f k (a ∷ h) c).number in
    elim (step_cases (f a) k a c) [
      | inl same ↦ subst (λ (d : Content). IsUpTo d.number end) same below
      | inr wrote ↦
          elim (subst (λ (d : Content). IsUpTo d.number end) wrote.is below) [
            | inl e ↦ inr (subst (λ (n : Number). IsBelow c.number n) e r.0)
            | inr l ↦ inr (below_then c.number a.number end r.0 l)
          ]
    ]

-- the number at a key is the greatest of those of its writers
pub after_all-greatest : (f : Attempt → Bool) (k : Key) (h : List Attempt) (c : Content) → RisesFrom c.number h
    → (b : Attempt) → Contains h b → f b ≡ true → writes_key b.writes k ≡ true → IsUpTo b.number (after_all f k h c).number
after_all-greatest f k [] c r b m counts w = absurd (in_none b m)
after_all-greatest f k (a ∷ h) c r b m counts w =
    elim (in_cases b a h m) [
      | inl is ↦ let v = writes-written k b w in
          let now = ap (λ (x : Attempt). stepped (f x) k x c) is ∙ cond-true (f b) (after_writes k b c) c counts ∙ after_writes-value k b c v.0 v.1 in
          subst (λ (d : Content). IsUpTo d.number (after_all f k (a ∷ h) c).number) now
          (after_all-at_least f k h (stepped (f a) k a c) (rises_step (f a) k a h c r))
      | inr n ↦ after_all-greatest f k h (stepped (f a) k a c) (rises_step (f a) k a h c r) b n counts w
    ]

no_later : (a e : Attempt) → IsBelow a.number e.number → IsUpTo e.number a.number → ⊥
no_later a e l (inl is) = not_below_itself a.number e.number (sym is) l
no_later a e l (inr m) = not_both_below a.number e.number l m

-- where an attempt counts and no writer that counts has a greater number, its value stands
pub after_all-last : (f : Attempt → Bool) (k : Key) (low : Number) (h : List Attempt) (c : Content) → RisesFrom low h
    → (a : Attempt) (v : Option ℕ) → Contains h a → f a ≡ true → written k a.writes ≡ Some v
    → ((b : Attempt) → Contains h b → f b ≡ true → writes_key b.writes k ≡ true → IsUpTo b.number a.number)
    → after_all f k h c ≡ content_of a.number v
after_all-last f k low [] c r a v m counts w last = absurd (in_none a m)
after_all-last f k low (b ∷ h) c r a v m counts w last =
    elim (in_cases a b h m) [
      | inl is ↦
          let now = ap (λ (x : Attempt). stepped (f x) k x c) is ∙ cond-true (f a) (after_writes k a c) c counts ∙ after_writes-value k a c v w in
          ap (λ (d : Content). after_all f k h d) now
          ∙ after_all-none f k h (content_of a.number v) (λ e n fe we. no_later a e (subst (λ (x : Attempt). IsBelow x.number e.number) is (rises_low b.number h r.1 e n)) (last e (in_tail e b h n) fe we))
      | inr n ↦ after_all-last f k b.number h (stepped (f b) k b c) r.1 a v n counts w (λ e o fe we. last e (in_tail e b h o) fe we)
    ]
