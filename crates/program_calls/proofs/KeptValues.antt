-- The last log entry of a key has the value that a run leaves there.
use Rattle.std.proofs.Common.{◌≡◌, ◌∙◌, ◌≤◌, ◌<◌, sym, ap, subst, refl, inl, inr, ℕ, true, false, true≢false, arith}
use Rattle.std.proofs.Common.{List, [], ◌∷◌, Option, Some, None}
use Rattle.std.specs.Prelude.{filter}
use Rattle.std.specs.FinMap.{get}
use Rattle.std.specs.List.{Contains}
use Rattle.std.proofs.lemmas.Bool.{cases_Bool, cond-false, cond-true}
use Rattle.std.proofs.lemmas.Bool.Decides.{nat_tests}
use Rattle.lists.specs.Elements.{filter_only, in_cases, in_filter, in_filtered, in_head, in_none, in_tail}
use Rattle.serial_model.specs.History.{Entry, EpochsNeverFall, Rises, as_of}
use Rattle.serial_model.specs.Numbers.{IsBelow, is_below, is_below-true}
use Rattle.serial_model.specs.State.{State}
use Rattle.serial_model.specs.declared.decl.Decl.{Decl}
use Rattle.serial_model.specs.declared.key.Key.{Key}
use Rattle.serial_model.specs.declared.number.Number.{Number}
use Rattle.wire_form.specs.declared.bucket.Entry.{Entry as LogEntry}
use Rattle.recovery_core.specs.LogEntries.{greater, greatest, is_of, last_of}
use Rattle.recovery_core.specs.Recoverable.{value_over}
use Rattle.program_calls.proofs.KeptEpochs.{none_since}
use Rattle.program_calls.proofs.KeptWrites.{Writes, entry_at, is_by, last_written, order_kept}

-- ---- the greatest of some entries

not_below_behind : (a b c : Number) → is_below b c ≡ false → is_below a b ≡ false → is_below a c ≡ false
not_below_behind a b c first then = grind (arith, nat_tests)

not_below_back : (a b : Number) → is_below a b ≡ true → is_below b a ≡ false
not_below_back a b below = grind (arith, nat_tests)

not_below_same : (a : Number) → is_below a a ≡ false
not_below_same a = grind (arith, nat_tests)

greatest_none : (es : List LogEntry) → greatest es ≡ None → (x : LogEntry) → Contains es x → ⊥
greatest_none [] none x has = in_none x has
greatest_none (e ∷ es) none x has = absurd cc

-- it is one of them, and none is greater
pub greatest_is : (es : List LogEntry) (x : LogEntry) → greatest es ≡ Some x
    → Contains es x × ((y : LogEntry) → Contains es y → is_below x.number y.number ≡ false)
greatest_is [] x is = absurd cc
greatest_is (e ∷ es) x is = by_rest (greatest es) refl is (λ f some. greatest_is es f some)
  where
    by_test : (f : LogEntry) → Contains es f → ((y : LogEntry) → Contains es y → is_below f.number y.number ≡ false)
        → greater e (Some f) ≡ x
        → Contains (e ∷ es) x × ((y : LogEntry) → Contains (e ∷ es) y → is_below x.number y.number ≡ false)
    by_test f has most same = elim (cases_Bool (is_below e.number f.number)) [
      | inl below ↦
          let is : f ≡ x = sym (cond-true (is_below e.number f.number) f e below) ∙ same in
          subst (λ (z : LogEntry). Contains (e ∷ es) z
          × ((y : LogEntry) → Contains (e ∷ es) y → is_below z.number y.number ≡ false)) is (
            in_tail f e es has,
            λ y there. elim (in_cases y e es there) [
              | inl first ↦ subst (λ (z : LogEntry). is_below f.number z.number ≡ false) first
                  (not_below_back e.number f.number below)
              | inr later ↦ most y later
            ],
          )
      | inr other ↦
          let is : e ≡ x = sym (cond-false (is_below e.number f.number) f e other) ∙ same in
          subst (λ (z : LogEntry). Contains (e ∷ es) z
          × ((y : LogEntry) → Contains (e ∷ es) y → is_below z.number y.number ≡ false)) is (
            in_head e es,
            λ y there. elim (in_cases y e es there) [
              | inl first ↦ subst (λ (z : LogEntry). is_below e.number z.number ≡ false) first
                  (not_below_same e.number)
              | inr later ↦ not_below_behind e.number f.number y.number (most y later) other
            ],
          )
    ]

    by_rest : (rest : Option LogEntry) → greatest es ≡ rest → greatest (e ∷ es) ≡ Some x
        → ((f : LogEntry) → greatest es ≡ Some f
        → Contains es f × ((y : LogEntry) → Contains es y → is_below f.number y.number ≡ false))
        → Contains (e ∷ es) x × ((y : LogEntry) → Contains (e ∷ es) y → is_below x.number y.number ≡ false)
    by_rest None none is later =
        let same : e ≡ x = (let some = ap (λ o. Some (greater e o)) (sym none) ∙ is in cc) in
        subst (λ (z : LogEntry). Contains (e ∷ es) z
        × ((y : LogEntry) → Contains (e ∷ es) y → is_below z.number y.number ≡ false)) same (
          in_head e es,
          λ y there. elim (in_cases y e es there) [
            | inl first ↦ subst (λ (z : LogEntry). is_below e.number z.number ≡ false) first (not_below_same e.number)
            | inr behind ↦ absurd (greatest_none es none y behind)
          ],
        )
    by_rest (Some f) some is later =
        let rest = later f some in
        let same : greater e (Some f) ≡ x = (let both = ap (λ o. Some (greater e o)) (sym some) ∙ is in cc) in
        by_test f rest.0 rest.1 same

-- ---- the last entry of a key

-- an entry of the key has the key
abbrev pub key_at : ℕ → ℕ → Key
key_at storage key = record { storage = storage; key = key }

has_storage : (key : Key) (x : LogEntry) → is_of key x ≡ true → x.key.storage ≡ key.storage
has_storage key x is = grind (arith, nat_tests)

has_key : (key : Key) (x : LogEntry) → is_of key x ≡ true → x.key.key ≡ key.key
has_key key x is = grind (arith, nat_tests)

of_key : (key : Key) (x : LogEntry) → is_of key x ≡ true → x.key ≡ key
of_key key x is =
    ap (λ n. key_at n x.key.key) (has_storage key x is) ∙ ap (λ n. key_at key.storage n) (has_key key x is)

is_of_itself : (key : Key) (number : Number) (value : Option ℕ) → is_of key (entry_at key number value) ≡ true
is_of_itself key number value = grind (arith, nat_tests)

is_of_same : (key : Key) (x : LogEntry) → x.key ≡ key → is_of key x ≡ true
is_of_same key x same = subst (λ k. is_of k x ≡ true) same (is_of_itself x.key x.number x.value)

-- a greater number has no lower epoch
pub epoch_not_below : (a b : Number) → IsBelow a b → a.epoch ≤ b.epoch
epoch_not_below a b below = grind (arith, nat_tests)

-- Some log entries are just what a run wrote behind an epoch and up to another: then over the state as of the first one
-- the last of each key has what the run leaves there.
module _ (decls : List Decl) (s : State) (es : List Entry) (early late : ℕ) (le : early ≤ late)
    (falls : EpochsNeverFall es) (rises : Rises es) (entries : List LogEntry) (key : Key)
    (sound : (x : LogEntry) → Contains entries x → (worker : ℕ)
    × Writes decls s (filter (is_by late) es) worker x.key x.number x.value)
    (above : (x : LogEntry) → Contains entries x → early < x.number.epoch)
    (complete : (worker : ℕ) (number : Number) (value : Option ℕ)
    → Writes decls s (filter (is_by late) es) worker key number value → early < number.epoch
    → Contains entries (entry_at key number value)) where
  by_rises : Rises (filter (is_by late) es)
  by_rises = order_kept (λ e f. IsBelow e.number f.number) (is_by late) es rises

  -- an entry than which no other of the key is greater has it
  pub value_of_last : (x : LogEntry) → Contains entries x → x.key ≡ key
      → ((y : LogEntry) → Contains entries y → y.key ≡ key → IsBelow x.number y.number → ⊥)
      → x.value ≡ get (as_of decls s es late) key
  value_of_last x has same last =
      let wrote = sound x has in
      last_written decls s (filter (is_by late) es) wrote.0 key x.number x.value by_rises
      (subst (λ k. Writes decls s (filter (is_by late) es) wrote.0 k x.number x.value) same wrote.1)
      (λ worker number value writes below.
      last (entry_at key number value)
      (complete worker number value writes
      (omega (arith, above x has, epoch_not_below x.number number below))) refl below)

  -- a key without one keeps its value
  pub value_of_none : ((y : LogEntry) → Contains entries y → y.key ≡ key → ⊥)
      → get (as_of decls s es early) key ≡ get (as_of decls s es late) key
  value_of_none none = sym (none_since decls s es early late key le falls (λ worker number value writes past.
      none (entry_at key number value) (complete worker number value writes past) refl))

  pub kept_value : value_over (last_of key entries) (get (as_of decls s es early) key)
      ≡ get (as_of decls s es late) key
  kept_value = by_last (last_of key entries) refl
    where
      by_last : (last : Option LogEntry) → last_of key entries ≡ last
          → value_over last (get (as_of decls s es early) key) ≡ get (as_of decls s es late) key
      by_last None none = value_of_none (λ y has same.
          greatest_none (filter (is_of key) entries) none y
          (in_filtered (is_of key) y entries has (is_of_same key y same)))
      by_last (Some x) some =
          let great = greatest_is (filter (is_of key) entries) x some in
          let same : x.key ≡ key = of_key key x (filter_only (is_of key) x entries great.0) in
          value_of_last x (in_filter (is_of key) x entries great.0) same
          (λ y has own below. true≢false (sym (is_below-true x.number y.number below) ∙ great.1 y
          (in_filtered (is_of key) y entries has (is_of_same key y own))))
