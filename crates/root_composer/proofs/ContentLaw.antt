-- The state after composing is the overlay of the state before.
use Rattle.std.proofs.Common.{◌≡◌, ◌≢◌, ℕ, Bool, true, false, List, [], ◌∷◌, Option, Some, None, refl, sym, ap, ◌∙◌, arith, inl, inr, eqb, ◌&&◌}
use Rattle.std.specs.Prelude.{cond}
use Rattle.std.specs.Ordering.{eq_by_cmp}
use Rattle.std.specs.FinMap.{get, get-insert, get-remove}
use Rattle.std.proofs.lemmas.Bool.{cases_eq}
use Rattle.std.proofs.lemmas.Bool.Decides.{nat_tests}
use Rattle.serial_model.specs.Keys.{key_cmp, id_of}
use Rattle.serial_model.specs.State.{State}
use Rattle.serial_model.specs.declared.key.Key.{Key}
use Rattle.serial_model.specs.KeyOrder.{keys_total}
use Rattle.root_composer.specs.Overlaid.{entry_for, overlaid, put_or_removed}
use Rattle.wire_form.specs.Words.{number_word}
use Rattle.snapshot_store.specs.Places.{Found}
use Rattle.wire_form.specs.declared.bucket.Entry.{Entry}
use Rattle.wire_form.specs.declared.records.Stored.{Stored}
use Rattle.snapshot_store.specs.Content.{value_of, value_at, IsContent}
use Rattle.log_reducer.specs.Overlay.{put_or_remove, overlay}
use Rattle.root_composer.specs.Storages.{part_of, change_for, EachOverlaid, has_id}

-- keys compare alike where both parts are equal
pub same_key : (a b : Key) → eq_by_cmp key_cmp a b ≡ eqb a.storage b.storage && eqb a.key b.key
same_key a b = grind (arith, nat_tests)

-- what an entry makes of a value
abbrev after_change : Option ℕ → Option Entry → Option ℕ
after_change old None = old
after_change old (Some e) = e.value

get-put_or_remove : (key q : Key) (o : Option ℕ) (s : State) → get (put_or_remove key o s) q ≡ cond (eq_by_cmp key_cmp q key) o (get s q)
get-put_or_remove key q (Some v) s = get-insert keys_total s key v q
get-put_or_remove key q None s = get-remove keys_total s key q

-- what an overlay has at a key
pub get-overlay : (s : State) (run : List Entry) (key : Key) → get (overlay s run) key ≡ after_change (get s key) (change_for run key)
get-overlay s [] key = refl
get-overlay s (e ∷ es) key =
    get-put_or_remove e.key key e.value (overlay s es) ∙ ap (cond (eq_by_cmp key_cmp key e.key) e.value) (get-overlay s es key) ∙ either (eq_by_cmp key_cmp key e.key)
  where
    either : (b : Bool) → cond b e.value (after_change (get s key) (change_for es key)) ≡ after_change (get s key) (cond b (Some e) (change_for es key))
    either true = refl
    either false = refl

value_put : (number : ℕ) (o : Option ℕ) → value_of (put_or_removed number o) ≡ o
value_put number None = refl
value_put number (Some v) = refl

-- an entry of one storage says of a record what the change says of the value
value_overlaid : (run : List Entry) (key : Key) (old : Option Found) → value_of (overlaid old (entry_for (part_of key.storage run) key.key)) ≡ after_change (value_of old) (change_for run key)
value_overlaid [] key old = refl
value_overlaid (e ∷ es) key old =
    elim (cases_eq e.key.storage key.storage) [
      | inl here ↦
          rw (same_key key e.key, yes e.key.storage key.storage here, yes key.storage e.key.storage (sym here))
          (elim (cases_eq e.key.key key.key) [
            | inl same ↦ rw (yes e.key.key key.key same, yes key.key e.key.key (sym same)) (value_put (number_word e.number) e.value)
            | inr other ↦ let back : key.key ≢ e.key.key = omega arith in rw (no e.key.key key.key other, no key.key e.key.key back) (value_overlaid es key old)
          ])
      | inr there ↦ let back : key.storage ≢ e.key.storage = omega arith in rw (same_key key e.key, no e.key.storage key.storage there, no key.storage e.key.storage back) (value_overlaid es key old)
    ]
  where
    yes : (a b : ℕ) → a ≡ b → eqb a b ≡ true
    yes a b e = grind (arith, nat_tests)

    no : (a b : ℕ) → a ≢ b → eqb a b ≡ false
    no a b e = grind (arith, nat_tests)

value_changed : (run : List Entry) (old new : Stored → ℕ → Option Found) (ss ts : List Stored) (key : Key) → EachOverlaid run old new ss ts → (has_id ss key.storage ≡ false → change_for run key ≡ None)
    → value_at new ts key ≡ after_change (value_at old ss key) (change_for run key)
value_changed run old new [] [] key each fits = rw (fits refl) refl
value_changed run old new [] (t ∷ ts) key each fits = absurd each
value_changed run old new (s ∷ ss) [] key each fits = absurd each
value_changed run old new (s ∷ ss) (t ∷ ts) key each fits =
    ap (λ i. cond (eqb i key.storage) (value_of (new t key.key)) (value_at new ts key)) (sym each.0)
    ∙ here (λ e. value_changed run old new ss ts key each.2 (λ h. fits (rw e h))) (eqb (id_of s.decl) key.storage) refl
  where
    is : (a b : ℕ) → eqb a b ≡ true → a ≡ b
    is a b e = grind (arith, nat_tests)

    here : (eqb (id_of s.decl) key.storage ≡ false → value_at new ts key ≡ after_change (value_at old ss key) (change_for run key)) → (b : Bool) → eqb (id_of s.decl) key.storage ≡ b → cond b (value_of (new t key.key)) (value_at new ts key) ≡ after_change (cond b (value_of (old s key.key)) (value_at old ss key)) (change_for run key)
    here rest true e =
        ap value_of (each.1 key.key)
        ∙ ap (λ i. value_of (overlaid (old s key.key) (entry_for (part_of i run) key.key))) (is (id_of s.decl) key.storage e)
        ∙ value_overlaid run key (old s key.key)
    here rest false e = rest e

-- the content after composing is the overlay of the content before
pub content_overlaid : (run : List Entry) (old new : Stored → ℕ → Option Found) (ss ts : List Stored) (state : State) → EachOverlaid run old new ss ts → ((key : Key) → has_id ss key.storage ≡ false → change_for run key ≡ None)
    → IsContent old ss state → IsContent new ts (overlay state run)
content_overlaid run old new ss ts state each fits is key =
    get-overlay state run key ∙ ap (λ o. after_change o (change_for run key)) (is key) ∙ sym (value_changed run old new ss ts key each (fits key))
