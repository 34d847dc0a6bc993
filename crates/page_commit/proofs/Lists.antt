-- Lists from an index on and up to one, and keys in order.
use Rattle.std.proofs.Common.{◌≡◌, ◌⊎◌, inl, inr, ℕ, zero, suc, ◌+◌, ◌<◌, ◌≤◌, Bool, true, false, true≢false, List, []}
use Rattle.std.proofs.Common.{◌∷◌, ◌++◌, map, length, take, drop, get_or}
use Rattle.std.proofs.Common.{refl, sym, ap, ◌∙◌, subst, arith, Some, Option}
use Rattle.std.specs.Prelude.{Contains, ⊤}
use Rattle.std.specs.List.{list_any, AllByRecursion}
use Rattle.std.proofs.lemmas.Bool.{false_from_ne_true, or_parts, or_from}
use Rattle.wire_form.specs.Items.{RisesAfter}
use Rattle.serial_model.specs.declared.key.Key.{Key}
use Rattle.serial_model.specs.Keys.{IsKeyBelow}
use Rattle.homes.specs.Homes.{same_key, has_key}
use Rattle.homes.specs.Laws.{same_key-self, same_key-true}
use Rattle.tx_sets.specs.declared.writes.Write.{Write}
use Rattle.tx_sets.specs.Entries.{has_write, IsAscending}
use Rattle.page_commit.specs.Steps.{keys_of}

module _ {A : Type 0} where
  pub drop_one : (xs : List A) (i : ℕ) (d : A) → i < length xs → drop i xs ≡ get_or xs i d ∷ drop (i + 1) xs
  drop_one [] i d lt = absurd (omega arith)
  drop_one (x ∷ xs) zero d lt = refl
  drop_one (x ∷ xs) (suc i) d lt = let e : suc i + 1 ≡ suc (i + 1) = omega arith in rw e (drop_one xs i d (omega arith))

  pub drop_all : (xs : List A) (i : ℕ) → length xs ≤ i → drop i xs ≡ []
  drop_all [] zero le = refl
  drop_all [] (suc i) le = refl
  drop_all (x ∷ xs) zero le = absurd (omega arith)
  drop_all (x ∷ xs) (suc i) le = drop_all xs i (omega arith)

  pub take_all : (xs : List A) (i : ℕ) → length xs ≤ i → take i xs ≡ xs
  take_all [] zero le = refl
  take_all [] (suc i) le = refl
  take_all (x ∷ xs) zero le = absurd (omega arith)
  take_all (x ∷ xs) (suc i) le = ap (λ l. x ∷ l) (take_all xs i (omega arith))

  any_default : (xs : List A) (i : ℕ) (d : A) → get_or xs i (get_or xs i d) ≡ get_or xs i d
  any_default [] i d = refl
  any_default (x ∷ xs) zero d = refl
  any_default (x ∷ xs) (suc i) d = any_default xs i d

  pub in_at : (xs : List A) (i : ℕ) (d : A) → i < length xs → Contains xs (get_or xs i d)
  in_at xs i d lt = (i, lt, any_default xs i d)

  pub all_get : (P : A → Type 0) (xs : List A) (i : ℕ) (d : A) → i < length xs → AllByRecursion P xs → P (get_or xs i d)
  all_get P [] i d lt all = absurd (omega arith)
  all_get P (x ∷ xs) zero d lt all = all.0
  all_get P (x ∷ xs) (suc i) d lt all = all_get P xs i d (omega arith) all.1

  pub all_some : (P : A → Type 0) (xs : List A) (i : ℕ) → AllByRecursion P xs → AllByRecursion P (take i xs)
  all_some P [] zero all = tt
  all_some P [] (suc i) all = tt
  all_some P (x ∷ xs) zero all = tt
  all_some P (x ∷ xs) (suc i) all = (all.0, all_some P xs i all.1)

  pub any_get : (p : A → Bool) (xs : List A) (i : ℕ) (d : A) → i < length xs → list_any p xs ≡ false
      → p (get_or xs i d) ≡ false
  any_get p [] i d lt none = absurd (omega arith)
  any_get p (x ∷ xs) zero d lt none = (or_parts (p x) (list_any p xs) none).0
  any_get p (x ∷ xs) (suc i) d lt none = any_get p xs i d (omega arith) (or_parts (p x) (list_any p xs) none).1

  pub any_some : (p : A → Bool) (xs : List A) (i : ℕ) → list_any p xs ≡ false → list_any p (take i xs) ≡ false
  any_some p [] zero none = refl
  any_some p [] (suc i) none = refl
  any_some p (x ∷ xs) zero none = refl
  any_some p (x ∷ xs) (suc i) none =
      let parts = or_parts (p x) (list_any p xs) none in
      or_from (p x) (list_any p (take i xs)) parts.0 (any_some p xs i parts.1)

pub map_push : {A B : Type 0} (f : A → B) (xs : List A) (x : A) → map f (xs ++ x ∷ []) ≡ map f xs ++ f x ∷ []
map_push f [] x = refl
map_push f (y ∷ xs) x = ap (λ l. f y ∷ l) (map_push f xs x)

-- ---- keys in order are apart

abbrev pub AreApart : List Write → Type 0
AreApart [] = ⊤
AreApart (w ∷ ws) = (has_write w.key ws ≡ false) × AreApart ws

below_then : (a b c : Key) → IsKeyBelow a b → IsKeyBelow b c → IsKeyBelow a c
below_then a b c (inl e) (inl f) = inl (omega arith)
below_then a b c (inl e) (inr f) = let same = f.0 in inl (omega arith)
below_then a b c (inr e) (inl f) = let same = e.0 in inl (omega arith)
below_then a b c (inr e) (inr f) = let less = e.1 in let more = f.1 in inr (e.0 ∙ f.0, omega arith)

below_itself : (a b : Key) → IsKeyBelow a b → b ≡ a → ⊥
below_itself a b (inl e) same = let s = ap (λ (k : Key). k.storage) same in omega arith
below_itself a b (inr e) same = let s = ap (λ (k : Key). k.key) same in let less = e.1 in omega arith

below_not : (a b : Key) → IsKeyBelow a b → same_key b a ≡ false
below_not a b below = false_from_ne_true (same_key b a) (λ test. below_itself a b below (same_key-true b a test))

none_above : (a b : Key) (ws : List Write) → (IsKeyBelow a b) ⊎ (a ≡ b)
    → RisesAfter IsKeyBelow (Some b) (map (λ w. w.key) ws)
    → has_write a ws ≡ false
none_above a b [] low rises = refl
none_above a b (w ∷ ws) low rises =
    let up : IsKeyBelow a w.key = elim low [
      | inl less ↦ below_then a b w.key less rises.0
      | inr same ↦ subst (λ (k : Key). IsKeyBelow k w.key) (sym same) rises.0
    ] in
    or_from (same_key w.key a) (has_write a ws) (below_not a w.key up) (none_above a w.key ws (inl up) rises.1)

apart_after : (last : Option Key) (ws : List Write) → RisesAfter IsKeyBelow last (map (λ w. w.key) ws) → AreApart ws
apart_after last [] rises = tt
apart_after last (w ∷ ws) rises = (none_above w.key w.key ws (inr refl) rises.1, apart_after (Some w.key) ws rises.1)

pub apart : (ws : List Write) → IsAscending ws → AreApart ws
apart ws rises = apart_after Rattle.std.proofs.Common.None ws rises

pub apart_drop : (ws : List Write) (i : ℕ) → AreApart ws → AreApart (drop i ws)
apart_drop [] zero are = tt
apart_drop [] (suc i) are = tt
apart_drop (w ∷ ws) zero are = are
apart_drop (w ∷ ws) (suc i) are = apart_drop ws i are.1

pub apart_take : (ws : List Write) (i : ℕ) → AreApart ws → AreApart (take i ws)
apart_take [] zero are = tt
apart_take [] (suc i) are = tt
apart_take (w ∷ ws) zero are = tt
apart_take (w ∷ ws) (suc i) are = (any_some (λ (x : Write). same_key x.key w.key) ws i are.0, apart_take ws i are.1)

pub apart_head : (w : Write) (ws : List Write) → AreApart (w ∷ ws) → has_write w.key ws ≡ false
apart_head w ws are = are.0

pub same_flip : (a b : Key) → same_key a b ≡ false → same_key b a ≡ false
same_flip a b other =
    false_from_ne_true (same_key b a) (λ test.
    true≢false (sym (ap (same_key a) (same_key-true b a test) ∙ same_key-self a) ∙ other))

-- a key isn't among those of the writes before it
pub not_before : (ws : List Write) (i : ℕ) (d : Write) → AreApart ws → i < length ws
    → has_key (keys_of (take i ws)) (get_or ws i d).key ≡ false
not_before [] i d are lt = absurd (omega arith)
not_before (x ∷ xs) zero d are lt = refl
not_before (x ∷ xs) (suc i) d are lt =
    let one : Write = get_or xs i d in
    or_from (same_key x.key one.key) (has_key (keys_of (take i xs)) one.key)
    (same_flip one.key x.key (any_get (λ (y : Write). same_key y.key x.key) xs i d (omega arith) are.0))
    (not_before xs i d are.1 (omega arith))

rises_take : (last : Option Key) (ws : List Write) (i : ℕ) → RisesAfter IsKeyBelow last (map (λ w. w.key) ws)
    → RisesAfter IsKeyBelow last (map (λ w. w.key) (take i ws))
rises_take last [] zero rises = tt
rises_take last [] (suc i) rises = tt
rises_take last (w ∷ ws) zero rises = tt
rises_take last (w ∷ ws) (suc i) rises = (rises.0, rises_take (Some w.key) ws i rises.1)

pub ascending_take : (ws : List Write) (i : ℕ) → IsAscending ws → IsAscending (take i ws)
ascending_take ws i rises = rises_take Rattle.std.proofs.Common.None ws i rises
