-- What a run of the last entries makes of a state.
use Rattle.std.proofs.Common.{◌≡◌, ℕ, Bool, true, false, List, [], ◌∷◌, Option, Some, None, inl, inr, refl, sym, ap}
use Rattle.std.proofs.Common.{subst, ◌∙◌}
use Rattle.std.specs.Prelude.{cond}
use Rattle.std.specs.Cmp.{eq_by_cmp_equiv}
use Rattle.std.specs.Ordering.{eq_by_cmp}
use Rattle.std.specs.FinMap.{get, get-insert, get-remove}
use Rattle.std.specs.List.{Contains}
use Rattle.std.proofs.lemmas.Option.{same_Some}
use Rattle.lists.specs.Elements.{in_none, in_head, in_tail, in_cases}
use Rattle.serial_model.specs.Keys.{key_cmp}
use Rattle.serial_model.specs.State.{State}
use Rattle.serial_model.specs.declared.key.Key.{Key}
use Rattle.serial_model.specs.KeyOrder.{keys_total, same_by_test}
use Rattle.wire_form.specs.declared.bucket.Entry.{Entry}
use Rattle.log_reducer.specs.Overlay.{put_or_remove, overlay}
use Rattle.root_composer.specs.Storages.{change_for}
use Rattle.recovery_core.specs.EntriesLast.{EntryMap}
use Rattle.recovery_core.specs.EntriesRun.{AreOfTheirKeys, IsRunOf}
use Rattle.recovery_core.specs.Recoverable.{value_over}

-- ---- what an overlay has at a key

get-put_or_remove : (key q : Key) (o : Option ℕ) (s : State)
    → get (put_or_remove key o s) q ≡ cond (eq_by_cmp key_cmp q key) o (get s q)
get-put_or_remove key q (Some v) s = get-insert keys_total s key v q
get-put_or_remove key q None s = get-remove keys_total s key q

-- what the run says of a key, over what the state had there
pub get-overlay : (s : State) (run : List Entry) (key : Key)
    → get (overlay s run) key ≡ value_over (change_for run key) (get s key)
get-overlay s [] key = refl
get-overlay s (e ∷ es) key =
    get-put_or_remove e.key key e.value (overlay s es)
    ∙ ap (cond (eq_by_cmp key_cmp key e.key) e.value) (get-overlay s es key)
    ∙ either (eq_by_cmp key_cmp key e.key)
  where
    either : (b : Bool) → cond b e.value (value_over (change_for es key) (get s key))
        ≡ value_over (cond b (Some e) (change_for es key)) (get s key)
    either true = refl
    either false = refl

-- ---- the entry of a key

-- an entry that is found is one of the run, and of the key
pub change_some : (run : List Entry) (key : Key) (e : Entry) → change_for run key ≡ Some e
    → Contains run e × (e.key ≡ key)
change_some [] key e is = absurd (cc is)
change_some (x ∷ xs) key e is =
    elim (eq_by_cmp key_cmp key x.key) as (λ b. eq_by_cmp key_cmp key x.key ≡ b
    → cond b (Some x) (change_for xs key) ≡ Some e → Contains (x ∷ xs) e × (e.key ≡ key)) [
      | true ↦ λ same here.
          let one : x ≡ e = same_Some x e here in (
            subst (λ y. Contains (x ∷ xs) y) one (in_head x xs),
            ap (λ (y : Entry). y.key) (sym one) ∙ sym (same_by_test key x.key same),
          )
      | false ↦ λ other later.
          let rest = change_some xs key e later in
          (in_tail e x xs rest.0, rest.1)
    ] refl is

-- an entry of the run is found at its key, or another one is
pub change_none : (run : List Entry) (key : Key) (e : Entry) → change_for run key ≡ None → Contains run e
    → e.key ≡ key → ⊥
change_none [] key e is has own = in_none e has
change_none (x ∷ xs) key e is has own =
    elim (eq_by_cmp key_cmp key x.key) as (λ b. eq_by_cmp key_cmp key x.key ≡ b
    → cond b (Some x) (change_for xs key) ≡ None → ⊥) [
      | true ↦ λ same none. cc none
      | false ↦ λ other none. elim (in_cases e x xs has) [
        | inl here ↦
            let same : eq_by_cmp key_cmp key x.key ≡ true =
            ap (λ k. eq_by_cmp key_cmp key k) (ap (λ (y : Entry). y.key) here ∙ own)
            ∙ (eq_by_cmp_equiv keys_total).refl key in
            cc (same, other)
        | inr later ↦ change_none xs key e none later own
      ]
    ] refl is

-- the run has at each key what the map of the last entries has
pub change_is : (last : EntryMap) (run : List Entry) → IsRunOf last run → AreOfTheirKeys last → (key : Key)
    → change_for run key ≡ get last key
change_is last run is own key = found (change_for run key) refl (get last key) refl
  where
    found : (o : Option Entry) → change_for run key ≡ o → (p : Option Entry) → get last key ≡ p
        → change_for run key ≡ get last key
    found (Some e) here p at =
        let one = change_some run key e here in
        here ∙ sym (subst (λ k. get last k ≡ Some e) one.1 (is.each e one.0))
    found None here None at = here ∙ sym at
    found None here (Some e) at = absurd (change_none run key e here (is.all key e at) (own key e at))

-- ---- a state from which the run makes another

-- the entries with the values that keys had before them
abbrev before : (Key → Option ℕ) → List Entry → List Entry
before old [] = []
before old (e ∷ es) = record { key = e.key; number = e.number; value = old e.key } ∷ before old es

-- with them a key gets back what it had
back : (old : Key → Option ℕ) (run : List Entry) (key : Key) (now : Option ℕ)
    → now ≡ value_over (change_for run key) (old key) → value_over (change_for (before old run) key) now ≡ old key
back old [] key now is = is
back old (e ∷ es) key now is =
    elim (eq_by_cmp key_cmp key e.key) as (λ b. eq_by_cmp key_cmp key e.key ≡ b
    → now ≡ value_over (cond b (Some e) (change_for es key)) (old key)
    → value_over (cond b (Some (record { key = e.key; number = e.number; value = old e.key }))
    (change_for (before old es) key)) now ≡ old key) [
      | true ↦ λ same here. ap old (sym (same_by_test key e.key same))
      | false ↦ λ other later. back old es key now later
    ] refl is

-- A state that has at each key what the entries make of some values comes by the overlay from one with these values.
pub comes_from : (old : Key → Option ℕ) (run : List Entry) (state : State)
    → ((key : Key) → get state key ≡ value_over (change_for run key) (old key))
    → (was : State) × ((key : Key) → get was key ≡ old key)
comes_from old run state is = (
  overlay state (before old run),
  λ key. get-overlay state (before old run) key ∙ back old run key (get state key) (is key),
)
