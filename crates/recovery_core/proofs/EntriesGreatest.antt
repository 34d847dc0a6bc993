-- The last entry of a key, of some entries and one more.
use Rattle.std.proofs.Common.{◌≡◌, ℕ, true, false, List, [], ◌∷◌, ◌++◌, Option, Some, None, refl, sym, ap, ◌∙◌}
use Rattle.std.proofs.Common.{append-nil, append_assoc, arith}
use Rattle.std.specs.Prelude.{cond, filter}
use Rattle.std.specs.Cmp.{eq_by_cmp_equiv}
use Rattle.std.specs.BTreeMap.{is_at}
use Rattle.std.specs.FinMap.{find, from_entries, get, get-from_entries}
use Rattle.std.specs.Map.{lookup}
use Rattle.std.specs.Ordering.{is_eq, eq_by_cmp}
use Rattle.std.proofs.lemmas.Bool.Decides.{nat_tests}
use Rattle.std.proofs.lemmas.List.Elements.{filter-append}
use Rattle.serial_model.specs.Keys.{key_cmp}
use Rattle.serial_model.specs.Numbers.{is_below}
use Rattle.serial_model.specs.declared.key.Key.{Key}
use Rattle.serial_model.specs.declared.number.Number.{Number}
use Rattle.serial_model.specs.KeyOrder.{keys_total}
use Rattle.wire_form.specs.declared.bucket.Entry.{Entry}
use Rattle.recovery_core.specs.LogEntries.{is_of, greater, greatest, last_of}
use Rattle.recovery_core.specs.EntriesLast.{EntryMap, TakesIn, is_later}

-- ---- keys

abbrev pub key_with : ℕ → ℕ → Key
key_with s k = record { storage = s; key = k }

-- a test of keys may be asked either way round
pub either_way : (a b : Key) → eq_by_cmp key_cmp a b ≡ eq_by_cmp key_cmp b a
either_way a b = (eq_by_cmp_equiv keys_total).symm a b

-- what entries in order have at a key
abbrev pub entry_at : List (Key × Entry) → Key → Option Entry
entry_at es key = lookup (is_at (key_cmp key)) es

find_key : (es : List (Key × Entry)) (key : Key) → find key_cmp key es ≡ entry_at es key
find_key [] key = refl
find_key (e ∷ es) key = ap (cond (is_at (key_cmp key) e.0) (Some e.1)) (find_key es key)

-- the map that they make has it
pub get_key : (es : List (Key × Entry)) (key : Key) → get (from_entries {R = key_cmp} es) key ≡ entry_at es key
get_key es key = get-from_entries keys_total es key ∙ find_key es key

-- ---- numbers

-- a number that isn't below a second one that isn't below a third isn't below the third
not_below_then : (a b c : Number) → is_below a b ≡ false → is_below b c ≡ false → is_below a c ≡ false
not_below_then a b c p q = grind (arith, nat_tests)

-- and one below a second one that is below a third is below the third
is_below_then : (a b c : Number) → is_below a b ≡ true → is_below b c ≡ true → is_below a c ≡ true
is_below_then a b c p q = grind (arith, nat_tests)

-- ---- the greatest of entries, and of one more

-- what is kept of an earlier entry and a new one
abbrev later_of : Option Entry → Entry → Entry
later_of None e = e
later_of (Some f) e = cond (is_below f.number e.number) e f

-- the greater of an entry and of what is kept of two others is what is kept of the greater of two and the last
greater_later : (x e : Entry) (o : Option Entry) → greater x (Some (later_of o e)) ≡ later_of (Some (greater x o)) e
greater_later x e None = refl
greater_later x e (Some f) =
    elim (is_below f.number e.number) as (λ b. is_below f.number e.number ≡ b → greater x (Some (cond b e f))
    ≡ later_of (Some (greater x (Some f))) e) [
      | true ↦ λ p. elim (is_below x.number f.number) as
          (λ b. is_below x.number f.number ≡ b → greater x (Some e) ≡ later_of (Some (cond b f x)) e) [
            | true ↦ λ q. ap (λ b. cond b e x) (is_below_then x.number f.number e.number q p)
                ∙ sym (ap (λ b. cond b e f) p)
            | false ↦ λ q. refl
          ] refl
      | false ↦ λ p. elim (is_below x.number f.number) as
          (λ b. is_below x.number f.number ≡ b → cond b f x ≡ later_of (Some (cond b f x)) e) [
            | true ↦ λ q. sym (ap (λ b. cond b e f) p)
            | false ↦ λ q. sym (ap (λ b. cond b e x) (not_below_then x.number f.number e.number q p))
          ] refl
    ] refl

greatest-push : (es : List Entry) (e : Entry) → greatest (es ++ e ∷ []) ≡ Some (later_of (greatest es) e)
greatest-push [] e = refl
greatest-push (x ∷ es) e =
    ap (λ o. Some (greater x o)) (greatest-push es e) ∙ ap (λ y. Some y) (greater_later x e (greatest es))

-- what is kept at a key, after one more entry
abbrev kept_at : Key → Option Entry → Entry → Option Entry
kept_at key o e = cond (is_of key e) (Some (later_of o e)) o

last_of-push : (key : Key) (es : List Entry) (e : Entry) → last_of key (es ++ e ∷ []) ≡ kept_at key (last_of key es) e
last_of-push key es e =
    ap greatest (filter-append (is_of key) es (e ∷ []))
    ∙ (elim (is_of key e) as (λ b. greatest (filter (is_of key) es ++ cond b (e ∷ []) [])
    ≡ cond b (Some (later_of (last_of key es) e)) (last_of key es)) [
      | true ↦ greatest-push (filter (is_of key) es) e
      | false ↦ ap greatest (append-nil (filter (is_of key) es))
    ])

-- ---- a map that has the last entry of each key, and one more entry

-- an entry is one of a key where the two keys compare alike
is_of-compared : (key : Key) (e : Entry) → is_of key e ≡ is_eq (key_cmp e.key key)
is_of-compared key e = grind (arith, nat_tests)

-- and then they are one key
pub is_of-key : (key : Key) (e : Entry) → is_of key e ≡ true → e.key ≡ key
is_of-key key e h =
    let s : e.key.storage ≡ key.storage = grind (arith, nat_tests) in
    let k : e.key.key ≡ key.key = grind (arith, nat_tests) in
    ap (λ x. key_with x e.key.key) s ∙ ap (key_with key.storage) k

-- what comes after takes the place of the earlier entry, and what doesn't leaves it
later_is : (o : Option Entry) (e : Entry) → Some (later_of o e) ≡ cond (is_later o e) (Some e) o
later_is None e = refl
later_is (Some f) e =
    elim (is_below f.number e.number) as (λ b. ◌≡◌ {A = Option Entry} (Some (cond b e f))
    (cond b (Some e) (Some f))) [ true ↦ refl | false ↦ refl ]

-- the earlier entry stays
pub stays : (o : Key → Option Entry) (so_far : List Entry) (e : Entry) → is_later (o e.key) e ≡ false
    → ((key : Key) → o key ≡ last_of key so_far) → (key : Key) → o key ≡ last_of key (so_far ++ e ∷ [])
stays o so_far e earlier has key =
    (elim (is_of key e) as (λ b. is_of key e ≡ b → o key ≡ cond b (Some (later_of (o key) e)) (o key)) [
      | true ↦ λ t.
          let test : is_later (o key) e ≡ false = ap (λ k. is_later (o k) e) (sym (is_of-key key e t)) ∙ earlier in
          sym (later_is (o key) e ∙ ap (λ b. cond b (Some e) (o key)) test)
      | false ↦ λ t. refl
    ] refl)
    ∙ ap (λ x. kept_at key x e) (has key)
    ∙ sym (last_of-push key so_far e)

-- the new entry takes its place
pub replaced : (o p : Key → Option Entry) (so_far : List Entry) (e : Entry) → is_later (o e.key) e ≡ true
    → ((key : Key) → p key ≡ cond (is_eq (key_cmp e.key key)) (Some e) (o key))
    → ((key : Key) → o key ≡ last_of key so_far) → (key : Key) → p key ≡ last_of key (so_far ++ e ∷ [])
replaced o p so_far e later updates has key =
    updates key
    ∙ ap (λ b. cond b (Some e) (o key)) (sym (is_of-compared key e))
    ∙ (elim (is_of key e) as (λ b. is_of key e ≡ b → cond b (Some e) (o key)
    ≡ cond b (Some (later_of (o key) e)) (o key)) [
      | true ↦ λ t.
          let test : is_later (o key) e ≡ true = ap (λ k. is_later (o k) e) (sym (is_of-key key e t)) ∙ later in
          sym (later_is (o key) e ∙ ap (λ b. cond b (Some e) (o key)) test)
      | false ↦ λ t. refl
    ] refl)
    ∙ ap (λ x. kept_at key x e) (has key)
    ∙ sym (last_of-push key so_far e)

-- the new entry took its place, and the earlier one was put back
pub put_back : (o p q : Key → Option Entry) (so_far : List Entry) (e f : Entry) → o e.key ≡ Some f
    → is_below f.number e.number ≡ false
    → ((key : Key) → p key ≡ cond (is_eq (key_cmp e.key key)) (Some e) (o key))
    → ((key : Key) → q key ≡ cond (is_eq (key_cmp e.key key)) (Some f) (p key))
    → ((key : Key) → o key ≡ last_of key so_far) → (key : Key) → q key ≡ last_of key (so_far ++ e ∷ [])
put_back o p q so_far e f was earlier first second has key =
    second key
    ∙ ap (λ x. cond (is_eq (key_cmp e.key key)) (Some f) x) (first key)
    ∙ ap (λ b. cond b (Some f) (cond b (Some e) (o key))) (sym (is_of-compared key e))
    ∙ (elim (is_of key e) as (λ b. is_of key e ≡ b → cond b (Some f) (cond b (Some e) (o key)) ≡ o key) [
      | true ↦ λ t. sym was ∙ ap o (is_of-key key e t)
      | false ↦ λ t. refl
    ] refl)
    ∙ stays o so_far e (ap (λ x. is_later x e) was ∙ earlier) has key

-- ---- more entries

-- no entry
pub takes_none : (old : EntryMap) → TakesIn old old []
takes_none old so_far has key = has key ∙ ap (last_of key) (sym (append-nil so_far))

-- entries, and then more
pub takes_then : (old mid new : EntryMap) (xs ys : List Entry) → TakesIn old mid xs → TakesIn mid new ys
    → TakesIn old new (xs ++ ys)
takes_then old mid new xs ys first next so_far has key =
    next (so_far ++ xs) (first so_far has) key ∙ ap (last_of key) (append_assoc so_far xs ys)
