-- Lists in which no two elements are alike stay so with one more, wherever it is put, and with one in another's place.
use Rattle.std.proofs.Common.{◌≡◌, ◌≢◌, true≢false, inl, inr, ℕ, zero, suc, ◌+◌, ◌<◌, ◌≤◌, ◌==◌, Bool, true, false, cond}
use Rattle.std.proofs.Common.{nat_lt}
use Rattle.std.proofs.Common.{List, [], ◌∷◌, ◌++◌, map, length, get_or, set, take, drop, Option, Some, None, Ok, refl}
use Rattle.std.proofs.Common.{sym, ap, ◌∙◌, subst, arith}
use Rattle.std.specs.List.{AllByRecursion, insert, list_any, position, position_or_len, refill}
use Rattle.std.proofs.lemmas.Bool.{cases_order, cases_lt, cases_Bool, or_parts, or_from}
use Rattle.std.proofs.lemmas.Bool.Decides.{nat_tests}
use Rattle.std.proofs.lemmas.List.{append-nil, take_at, take-append-drop, length-set}
use Rattle.std.proofs.lemmas.List.Quantifiers.{position-Some}
use Rattle.std.proofs.lemmas.Grind.{take-set_at}
use Rattle.lists.specs.Each.{AreDistinct}
use Rattle.homes.specs.Homes.{same_key}
use Rattle.homes.specs.Laws.{same_key-self, same_key-true}
use Rattle.serial_model.specs.declared.key.Key.{Key}
use Rattle.serial_model.specs.Keys.{IsKeyBelow}
use Rattle.wire_form.specs.Items.{IsFollowed, RisesAfter}
use Rattle.tx_sets.specs.declared.reads.ReadEntry.{ReadEntry}
use Rattle.tx_sets.specs.declared.seen.Seen.{Seen}
use Rattle.tx_sets.specs.declared.writes.Write.{Write}
use Rattle.tx_sets.specs.Entries.{IsPushed, IsAscending, IsPlaceOf, IsPut, IsRewritten, has_read, has_word, has_write}
use Rattle.tx_sets.specs.Entries.{places_of, read_keys, writes_at, record_places_of, hash_of, AreMarked, AreNoted}
use Rattle.tx_sets.specs.Entries.{IsNoted}
use Rattle.tx_sets.proofs.MarkLaws.{more_marked}
use Rattle.tx_sets.proofs.NoteLaws.{more_noted}

-- ---- each once

module _ {E : Type 0} (f : E → ℕ) where
  -- a fact of each of the numbers, with one more
  all_more : (P : ℕ → Type 0) (before after : List E) (y : E) → AllByRecursion P (map f (before ++ after)) → P (f y)
      → AllByRecursion P (map f (before ++ y ∷ after))
  all_more P [] after y all one = (one, all)
  all_more P (b ∷ before) after y all one = (all.0, all_more P before after y all.1 one)

  differ : (x y : E) → (f x == f y) ≡ false → f x ≡ f y → ⊥
  differ x y test same = grind (arith, nat_tests)

  none_alike : (xs : List E) (y : E) → list_any (λ x. f x == f y) xs ≡ false
      → AllByRecursion (λ n. f y ≡ n → ⊥) (map f xs)
  none_alike [] y none = tt
  none_alike (x ∷ xs) y none =
      let parts = or_parts (f x == f y) (list_any (λ z. f z == f y) xs) none in
      (λ same. differ x y parts.0 (sym same), none_alike xs y parts.1)

  pub distinct_more : (before after : List E) (y : E) → AreDistinct (map f (before ++ after))
      → list_any (λ x. f x == f y) (before ++ after) ≡ false → AreDistinct (map f (before ++ y ∷ after))
  distinct_more [] after y distinct none = (none_alike after y none, distinct)
  distinct_more (b ∷ before) after y distinct none =
      let parts = or_parts (f b == f y) (list_any (λ z. f z == f y) (before ++ after)) none in (
        all_more (λ n. f b ≡ n → ⊥) before after y distinct.0 (differ b y parts.0),
        distinct_more before after y distinct.1 parts.1,
      )

  pub distinct_push : (xs : List E) (y : E) → AreDistinct (map f xs) → list_any (λ x. f x == f y) xs ≡ false
      → AreDistinct (map f (xs ++ y ∷ []))
  distinct_push xs y distinct none =
      let same = sym (append-nil xs) in
      distinct_more xs [] y (subst (λ l. AreDistinct (map f l)) same distinct)
      (subst (λ l. list_any (λ x. f x == f y) l ≡ false) same none)

-- ---- one in the place of another

was_at : (xs : List Write) (i : ℕ) (d : Write) → i < length xs → xs ≡ take i xs ++ get_or xs i d ∷ drop (suc i) xs
was_at [] i d within = absurd (omega (arith, within))
was_at (x ∷ xs) zero d within = refl
was_at (x ∷ xs) (suc i) d within = ap (λ l. x ∷ l) (was_at xs i d (omega (arith, within)))

now_at : (xs : List Write) (i : ℕ) (y : Write) → i < length xs → set xs i y ≡ take i xs ++ y ∷ drop (suc i) xs
now_at [] i y within = absurd (omega (arith, within))
now_at (x ∷ xs) zero y within = refl
now_at (x ∷ xs) (suc i) y within = ap (λ l. x ∷ l) (now_at xs i y (omega (arith, within)))

some_is : (n i : ℕ) → Some n ≡ Some i → n ≡ i
some_is n i same = cc

none_is : (i : ℕ) → None ≡ Some i → ⊥
none_is i same = absurd cc

-- before the first that passes a test none does
first_at : (p : Write → Bool) (xs : List Write) (i : ℕ) → position p xs ≡ Some i → list_any p (take i xs) ≡ false
first_at p xs i at = by_length xs i (there (position_or_len p xs) (length xs) at)
  where
    there : (n m : ℕ) → cond (nat_lt n m) (Some n) None ≡ Some i → n ≡ i
    there n m is = elim (cases_Bool (nat_lt n m)) [
      | inl hit ↦ some_is n i (sym (ap (λ b. cond b (Some n) None) hit) ∙ is)
      | inr miss ↦ absurd (none_is i (sym (ap (λ b. cond b (Some n) None) miss) ∙ is))
    ]

    by_length : (l : List Write) (j : ℕ) → position_or_len p l ≡ j → list_any p (take j l) ≡ false
    by_length [] zero is = refl
    by_length [] (suc j) is = refl
    by_length (x ∷ l) zero is = refl
    by_length (x ∷ l) (suc j) is = elim (cases_Bool (p x)) [
      | inl hit ↦ absurd (grind (arith, nat_tests))
      | inr miss ↦ or_from (p x) (list_any p (take j l)) miss (by_length l j (grind (arith, nat_tests)))
    ]

pub map_set : {E K : Type 0} (f : E → K) (xs : List E) (i : ℕ) (d y : E) → i < length xs → f (get_or xs i d) ≡ f y
    → map f (set xs i y) ≡ map f xs
map_set f [] i d y within same = absurd (omega (arith, within))
map_set f (x ∷ xs) zero d y within same = ap (λ k. k ∷ map f xs) (sym same)
map_set f (x ∷ xs) (suc i) d y within same = ap (λ l. f x ∷ l) (map_set f xs i d y (omega (arith, within)) same)

-- a slice as long as the list is what the list becomes
refill_whole : {E : Type 0} (xs ws : List E) → length ws ≡ length xs → refill (length xs) xs ws ≡ ws
refill_whole xs ws same = take_at ws (drop (length ws) xs) (length xs) same

pub set_whole : {E : Type 0} (xs slice : List E) (i : ℕ) (y : E) → slice ≡ xs → refill (length xs) xs (set slice i y)
    ≡ set xs i y
set_whole xs slice i y same =
    ap (λ l. refill (length xs) xs (set l i y)) same ∙ refill_whole xs (set xs i y) (length-set xs i y)

-- ---- in order

-- of two keys that aren't one, and of which the first isn't below, the second is
above_from : (a b : Key) → (IsKeyBelow a b → ⊥) → same_key a b ≡ false → IsKeyBelow b a
above_from a b not other =
    elim (cases_order a.storage b.storage) [
      | inl same ↦ elim (cases_order a.key b.key) [
        | inl alike ↦ absurd (grind (arith, nat_tests))
        | inr order ↦ elim order [ inl less ↦ absurd (not (inr (same, less))) | inr more ↦ inr (sym same, more) ]
      ]
      | inr order ↦ elim order [ inl less ↦ absurd (not (inl less)) | inr more ↦ inl more ]
    ]

-- writes in ascending order are so with one more in its place
pub rises_insert : (y : Write) (last : Option Key) (xs : List Write) (i : ℕ)
    → RisesAfter IsKeyBelow last (map (λ w. w.key) xs) → i ≤ length xs → IsFollowed IsKeyBelow last y.key
    → ((k : ℕ) (d : Write) → k < i → IsKeyBelow (get_or xs k d).key y.key)
    → ((d : Write) → i < length xs → IsKeyBelow (get_or xs i d).key y.key → ⊥)
    → list_any (λ x. same_key x.key y.key) xs ≡ false
    → RisesAfter IsKeyBelow last (map (λ w. w.key) (insert xs i y))
rises_insert y last [] zero rises within followed below stops none = (followed, tt)
rises_insert y last [] (suc i) rises within followed below stops none = absurd (omega (arith, within))
rises_insert y last (x ∷ xs) zero rises within followed below stops none =
    let parts = or_parts (same_key x.key y.key) (list_any (λ z. same_key z.key y.key) xs) none in
    (followed, (above_from x.key y.key (stops x (omega arith)) parts.0, rises.1))
rises_insert y last (x ∷ xs) (suc i) rises within followed below stops none =
    let parts = or_parts (same_key x.key y.key) (list_any (λ z. same_key z.key y.key) xs) none in (
      rises.0,
      rises_insert y (Some x.key) xs i rises.1 (omega (arith, within)) (below 0 x (omega arith))
          (λ k d less. below (suc k) d (omega (arith, less))) (λ d less. stops d (omega (arith, less))) parts.1,
    )

-- ---- a set of writes

-- what always holds of it
abbrev pub AreWrites : List Write → Type 0
AreWrites writes = IsAscending writes × AreDistinct (record_places_of writes)

abbrev blank : Write
blank = record { key = record { storage = 0; key = 0 }; value = None; at = 0 }

-- the write that stands there, with another value
abbrev pub with_value : List Write → ℕ → Option ℕ → Write
with_value writes i value = let w = get_or writes i blank in record { key = w.key; value = value; at = w.at }

-- another of the same key and record in its place
kept_set : (xs slice : List Write) (i : ℕ) (y : Write) → slice ≡ xs → i < length xs → (get_or xs i blank).key ≡ y.key
    → (get_or xs i blank).at ≡ y.at → AreWrites xs → AreWrites (refill (length xs) xs (set slice i y))
kept_set xs slice i y same within key place are =
    let whole = sym (set_whole xs slice i y same) in
    subst AreWrites whole (
      subst (RisesAfter IsKeyBelow None) (sym (map_set (λ w. w.key) xs i blank y within key)) are.0,
      subst AreDistinct (sym (map_set (λ w. w.at) xs i blank y within place)) are.1,
    )

pub value_kept : (key : Key) (xs slice : List Write) (i : ℕ) (v : Option ℕ) → slice ≡ xs
    → position (λ w. same_key w.key key) xs ≡ Some i → AreWrites xs
    → AreWrites (refill (length xs) xs (set slice i (with_value slice i v)))
value_kept key xs slice i v same at are =
    kept_set xs slice i (with_value slice i v) same (position-Some (λ w. same_key w.key key) xs i blank at).0
    (ap (λ l. (get_or l i blank).key) (sym same)) (ap (λ l. (get_or l i blank).at) (sym same)) are

-- what a call leaves, where what it wrote as a slice is this
changed : (P : List Write → List Write → Type 0) (old xs slice : List Write) (i : ℕ) (y : List Write → Write) → old ≡ xs
    → slice ≡ xs → P xs (set xs i (y xs)) → P old (refill (length xs) xs (set slice i (y slice)))
changed P old xs slice i y old-is slice-is holds =
    subst (λ l. P l (refill (length xs) xs (set slice i (y slice)))) (sym old-is)
    (subst (P xs) (sym (set_whole xs slice i (y slice) slice-is ∙ ap (λ l. set xs i (y l)) slice-is)) holds)

pub value_set : (key : Key) (v : Option ℕ) (old xs slice : List Write) (i : ℕ) → old ≡ xs → slice ≡ xs
    → position (λ w. same_key w.key key) xs ≡ Some i
    → IsRewritten key v old (refill (length xs) xs (set slice i (with_value slice i v)))
value_set key v old xs slice i old-is slice-is at =
    let there = position-Some (λ w. same_key w.key key) xs i blank at in
    changed (IsRewritten key v) old xs slice i (λ l. with_value l i v) old-is slice-is record {
      write = get_or xs i blank;
      of_key = same_key-true (get_or xs i blank).key key there.1;
      rest = record {
        before = take i xs;
        after = drop (suc i) xs;
        was = was_at xs i blank there.0;
        now = now_at xs i (with_value xs i v) there.0;
      };
      first = first_at (λ w. same_key w.key key) xs i at;
    }

-- where none passes the test, none is found
pub none_there : {E : Type 0} (p : E → Bool) (xs : List E) → position p xs ≡ None → list_any p xs ≡ false
none_there {E} p xs none = by_length xs (beyond (position_or_len p xs) (length xs) none)
  where
    beyond : (n m : ℕ) → cond (nat_lt n m) (Some n) None ≡ None → m ≤ n
    beyond n m is = elim (cases_lt n m) [ inl less ↦ absurd (grind (arith, nat_tests)) | inr le ↦ le ]

    by_length : (l : List E) → length l ≤ position_or_len p l → list_any p l ≡ false
    by_length [] le = refl
    by_length (x ∷ l) le = elim (cases_Bool (p x)) [
      | inl hit ↦ absurd (grind (arith, nat_tests))
      | inr miss ↦ let rest = by_length l (grind (arith, nat_tests)) in or_from (p x) (list_any p l) miss rest
    ]

-- a write more in its place
pub kept_put : (xs slice ys : List Write) (i : ℕ) (y : Write) → slice ≡ xs → ys ≡ insert xs i y → i ≤ length slice
    → IsPlaceOf y.key slice i → has_write y.key xs ≡ false → writes_at y.at xs ≡ false → AreWrites xs → AreWrites ys
kept_put xs slice ys i y same is within place absent another are =
    let at : IsPlaceOf y.key xs i = subst (λ l. IsPlaceOf y.key l i) same place in
    let le : i ≤ length xs = subst (λ l. i ≤ length l) same within in
    let halves = sym (take-append-drop i xs) in
    subst AreWrites (sym is) (
      rises_insert y None xs i are.0 le tt at.below at.stops absent,
      distinct_more (λ w. w.at) (take i xs) (drop i xs) y
          (subst (λ l. AreDistinct (record_places_of l)) halves are.1)
          (subst (λ l. writes_at y.at l ≡ false) halves another),
    )

pub put_in : (old xs ys : List Write) (i : ℕ) (y : Write) → old ≡ xs → ys ≡ insert xs i y → length xs < 16
    → IsPut y old ys (Ok tt)
put_in old xs ys i y old-is is room = record {
  exactly = (λ _. subst (λ l. length l < 16) (sym old-is) room, λ _. refl);
  added = record {
    before = take i xs;
    after = drop i xs;
    was = old-is ∙ sym (take-append-drop i xs);
    now = is;
  };
  kept = tt;
  given_back = tt;
}

-- ---- one more at the end

pub pushed : {E : Type 0} (most : ℕ) (x : E) (old xs new : List E) → old ≡ xs → length xs < most → new ≡ xs ++ x ∷ []
    → IsPushed most x old new (Ok tt)
pushed most x old xs new old-is room is = record {
  exactly = (λ _. subst (λ l. length l < most) (sym old-is) room, λ _. refl);
  added = is ∙ ap (λ l. l ++ x ∷ []) (sym old-is);
  kept = tt;
  given_back = tt;
}

-- where the set isn't full, there is room
pub room : {E : Type 0} (b : Bool) (old xs : List E) (most : ℕ) → xs ≡ old → b ≡ (length old == most)
    → length old ≤ most
    → b ≡ false → length xs < most
room b old xs most same test le not =
    subst (λ l. length l < most) (sym same) (below_full b (length old) most test le not)
  where
    below_full : (b : Bool) (n m : ℕ) → b ≡ (n == m) → n ≤ m → b ≡ false → n < m
    below_full b n m test le not = grind (arith, nat_tests)

map_same : (xs : List ℕ) → map (λ x. x) xs ≡ xs
map_same [] = refl
map_same (x ∷ xs) = ap (λ l. x ∷ l) (map_same xs)

-- one slot more
pub slots_more : (old xs new : List ℕ) (y : ℕ) → xs ≡ old → new ≡ xs ++ y ∷ [] → AreDistinct xs
    → list_any (λ s. s == y) old ≡ false → AreDistinct new
slots_more old xs new y same is distinct absent =
    subst AreDistinct (map_same (xs ++ y ∷ []) ∙ sym is)
    (distinct_push (λ s. s) xs y (subst AreDistinct (sym (map_same xs)) distinct)
    (subst (λ l. list_any (λ s. s == y) l ≡ false) (sym same) absent))

key_apart : (a b : Key) → same_key a b ≡ false → b ≡ a → ⊥
key_apart a b other same = absurd (true≢false (sym (ap (λ k. same_key a k) same ∙ same_key-self a) ∙ other))

-- one record more
pub read_more : (old xs new : List ReadEntry) (y : ReadEntry) → xs ≡ old → new ≡ xs ++ y ∷ []
    → AreDistinct (read_keys xs) → has_read y.key old ≡ false → AreDistinct (read_keys new)
read_more old xs new y same is distinct absent =
    subst (λ l. AreDistinct (read_keys l)) (sym is)
    (by_entries xs distinct (subst (λ l. has_read y.key l ≡ false) (sym same) absent))
  where
    each : (k : Key) (l : List ReadEntry) → AllByRecursion (λ q. k ≢ q) (read_keys l) → (k ≡ y.key → ⊥)
        → AllByRecursion (λ q. k ≢ q) (read_keys (l ++ y ∷ []))
    each k [] all other = (other, tt)
    each k (e ∷ l) all other = (all.0, each k l all.1 other)

    by_entries : (l : List ReadEntry) → AreDistinct (read_keys l) → has_read y.key l ≡ false
        → AreDistinct (read_keys (l ++ y ∷ []))
    by_entries [] apart none = (tt, tt)
    by_entries (e ∷ l) apart none =
        let parts = or_parts (same_key e.key y.key) (has_read y.key l) none in
        (each e.key l apart.0 (λ is. key_apart e.key y.key parts.0 (sym is)), by_entries l apart.1 parts.1)

below : {i n : ℕ} → i ≤ n → (i ≡ n → ⊥) → i < n
below {i} {n} le other = elim (cases_order i n) [
  | inl same ↦ absurd (other same)
  | inr order ↦ elim order [ inl less ↦ less | inr more ↦ absurd (omega (arith, le, more)) ]
]

-- one record more, behind the first so many of a longer list, with its mark
pub read_put : (old xs : List ReadEntry) (marked new : List Bool) (i : ℕ) (y : ReadEntry) → take i xs ≡ old
    → (i ≤ 256) × (length xs ≡ 256) × AreDistinct (read_keys (take i xs)) × AreMarked marked (take i xs)
    → (i ≡ 256 → ⊥) → has_read y.key old ≡ false → hash_of y.key < 128 → new ≡ set marked (hash_of y.key) true
    → (i + 1 ≤ 256) × (length (set xs i y) ≡ 256) × AreDistinct (read_keys (take (i + 1) (set xs i y)))
    × AreMarked new (take (i + 1) (set xs i y))
read_put old xs marked new i y same kept room absent bound mark =
    let within : i < 256 = below kept.0 room in
    let more = take-set_at xs i (i + 1) y refl (subst (λ n. i < n) (sym kept.1) within) in (
      omega (arith, within),
      length-set xs i y ∙ kept.1,
      read_more old (take i xs) (take (i + 1) (set xs i y)) y same more kept.2 absent,
      more_marked marked new (take i xs) (take (i + 1) (set xs i y)) y more kept.3 bound mark,
    )

-- one slot more, behind the first so many of a longer list, with its note
pub slot_put : (old xs : List ℕ) (noted new : List Bool) (i y : ℕ) → take i xs ≡ old
    → (i ≤ 128) × (length xs ≡ 128) × AreDistinct (take i xs) × AreNoted noted (take i xs) → (i ≡ 128 → ⊥)
    → list_any (λ s. s == y) old ≡ false → IsNoted y true noted new
    → (i + 1 ≤ 128) × (length (set xs i y) ≡ 128) × AreDistinct (take (i + 1) (set xs i y))
    × AreNoted new (take (i + 1) (set xs i y))
slot_put old xs noted new i y same kept room absent note =
    let within : i < 128 = below kept.0 room in
    let more = take-set_at xs i (i + 1) y refl (subst (λ n. i < n) (sym kept.1) within) in (
      omega (arith, within),
      length-set xs i y ∙ kept.1,
      slots_more old (take i xs) (take (i + 1) (set xs i y)) y same more kept.2 absent,
      more_noted noted new (take i xs) (take (i + 1) (set xs i y)) y more kept.3 note,
    )

-- one word more
pub seen_more : (old xs new : List Seen) (y : Seen) → xs ≡ old → new ≡ xs ++ y ∷ [] → AreDistinct (places_of xs)
    → has_word y.at old ≡ false → AreDistinct (places_of new)
seen_more old xs new y same is distinct absent =
    subst (λ l. AreDistinct (places_of l)) (sym is)
    (distinct_push (λ s. s.at) xs y distinct (subst (λ l. has_word y.at l ≡ false) (sym same) absent))
