-- Reading and writing a list of items from front to back.
use Rattle.std.proofs.Common.{◌≡◌, ℕ, ◌*◌, ◌^◌, ◌<◌, List, [], ◌∷◌, ◌++◌, length, get_or, true, false, Bool, ◌-◌, ◌≤◌, replicate, take, drop, Option, Some, None, refl, sym, ap, subst, ◌∙◌, append_assoc, arith}
use Rattle.std.specs.Prelude.{IfSome, IsTrue, ◌↔◌}
use Rattle.std.proofs.lemmas.Bool.{false≢true}
use Rattle.std.specs.List.{flat_map, AllByRecursion}
use Rattle.std.proofs.lemmas.List.{take_at, drop_at, take-append-drop, length-append, length-replicate, length-take-le, length-drop, append-nil}
use Rattle.lists.specs.Fronts.{same_parts}
use Rattle.wire_form.specs.Bytes.{bytes_of, padded}
use Rattle.wire_form.specs.Items.{RisesAfter, AreItems, AnyOrder, IsFollowed, IsSpelled, Reads}
use Rattle.wire_form.specs.ItemLaws.{length-items}
use Rattle.wire_form.specs.Parts.{HasItems}
use Rattle.wire_form.specs.ByteLaws.{same_words}

-- front was read from the whole: its items are front and then items of the rest, and whatever are items of the rest completes them
pub record Takes {X K : Type 0} (Is : X → Type 0) (spell : X → List ℕ) (key : X → K) (R : K → K → Type 0) (whole : List ℕ) (front : List X) (last : Option K) (rest : List ℕ) : Type 0 where
  pub back : (tail : List X) → AreItems Is spell key R last rest tail → AreItems Is spell key R None whole (front ++ tail)
  pub forth : (items : List X) → AreItems Is spell key R None whole items → (tail : List X) × (items ≡ front ++ tail) × AreItems Is spell key R last rest tail

-- nothing was read yet
pub Takes-none : {X K : Type 0} (Is : X → Type 0) (spell : X → List ℕ) (key : X → K) (R : K → K → Type 0) (whole : List ℕ) → Takes Is spell key R whole [] None whole
Takes-none Is spell key R whole = record { back = λ tail h. h; forth = λ items h. (items, refl, h) }

-- a list is its two parts
pub rejoined : (k : ℕ) (rest here after : List ℕ) → here ≡ take k rest → after ≡ drop k rest → rest ≡ here ++ after
rejoined k rest here after e f = rw (e, f) (sym (take-append-drop k rest))

-- the first of some items, and the others
pub first_item : {X K : Type 0} (Is : X → Type 0) (spell : X → List ℕ) (key : X → K) (R : K → K → Type 0) → (here after : List ℕ) → 0 < length here → ((x : X) → length (spell x) ≡ length here) → (last : Option K) (rest : List ℕ) (items : List X) → rest ≡ here ++ after
    → AreItems Is spell key R last rest items
    → (x : X) × (tail : List X) × (items ≡ x ∷ tail) × Is x × (spell x ≡ here) × IfSome last (λ l. R l (key x)) × AreItems Is spell key R (Some (key x)) after tail
first_item Is spell key R here after some wide last rest [] parts h = absurd (omega (arith, ap length (sym parts ∙ h.spelled), length-append here after))
first_item Is spell key R here after some wide last rest (x ∷ tail) parts h =
    let both = same_parts here (spell x) after (flat_map spell tail) (sym (wide x)) (sym parts ∙ h.spelled) in
    (x, tail, refl, h.each.0, sym both.0, h.rising.0, record { each = h.each.1; rising = h.rising.1; spelled = both.1 })

-- one item more was read
pub Takes-more : {X K : Type 0} (Is : X → Type 0) (spell : X → List ℕ) (key : X → K) (R : K → K → Type 0) → (here after : List ℕ) → 0 < length here → ((x : X) → length (spell x) ≡ length here) → (whole : List ℕ) (front : List X) (last : Option K) (rest : List ℕ) (x : X) → rest ≡ here ++ after
    → Takes Is spell key R whole front last rest → IsSpelled Is spell here x → IfSome last (λ l. R l (key x)) → Takes Is spell key R whole (front ++ x ∷ []) (Some (key x)) after
Takes-more Is spell key R here after some wide whole front last rest x parts so_far found above =
    record {
      back = λ tail h.
          let spelled : rest ≡ spell x ++ flat_map spell tail = parts ∙ rw (found.spelled, ← h.spelled) refl in
          rw append_assoc (so_far.back (x ∷ tail) (record { each = (found.valid, h.each); rising = (above, h.rising); spelled = spelled }));
      forth = λ items h.
          let all = so_far.forth items h in
          let first = first_item Is spell key R here after some wide last rest all.0 parts all.2 in
          let same : first.0 ≡ x = found.only first.0 first.3 first.4 in
          let moved : AreItems Is spell key R (Some (key x)) after first.1 = subst (λ y. AreItems Is spell key R (Some (key y)) after first.1) same first.6 in
          let split : items ≡ (front ++ x ∷ []) ++ first.1 = all.1 ∙ ap (λ t. front ++ t) (first.2 ∙ ap (λ y. y ∷ first.1) same) ∙ sym (append_assoc front (x ∷ []) first.1) in
          (first.1, split, moved);
    }

-- what can't be read ends it: the whole has no items
pub no_item : {X K : Type 0} (Is : X → Type 0) (spell : X → List ℕ) (key : X → K) (R : K → K → Type 0) → (here after : List ℕ) → 0 < length here → ((x : X) → length (spell x) ≡ length here) → (whole : List ℕ) (front : List X) (last : Option K) (rest : List ℕ) → rest ≡ here ++ after
    → Takes Is spell key R whole front last rest → ((x : X) → Is x → spell x ≡ here → ⊥) → (items : List X) → AreItems Is spell key R None whole items → ⊥
no_item Is spell key R here after some wide whole front last rest parts so_far none items h =
    let all = so_far.forth items h in
    let first = first_item Is spell key R here after some wide last rest all.0 parts all.2 in
    none first.0 first.3 first.4

-- so does a key that isn't above the last
pub falls : {X K : Type 0} (Is : X → Type 0) (spell : X → List ℕ) (key : X → K) (R : K → K → Type 0) → (here after : List ℕ) → 0 < length here → ((x : X) → length (spell x) ≡ length here) → (whole : List ℕ) (front : List X) (last : Option K) (rest : List ℕ) (x : X) → rest ≡ here ++ after
    → Takes Is spell key R whole front last rest → IsSpelled Is spell here x → (IfSome last (λ l. R l (key x)) → ⊥) → (items : List X) → AreItems Is spell key R None whole items → ⊥
falls Is spell key R here after some wide whole front last rest x parts so_far found not_above items h =
    let all = so_far.forth items h in
    let first = first_item Is spell key R here after some wide last rest all.0 parts all.2 in
    not_above (subst (λ y. IfSome last (λ l. R l (key y))) (found.only first.0 first.3 first.4) first.5)

-- at the end the items that were read are those of the whole
pub all_read : {X K : Type 0} (Is : X → Type 0) (spell : X → List ℕ) (key : X → K) (R : K → K → Type 0) (whole : List ℕ) (front : List X) (last : Option K) (rest : List ℕ) → length rest ≡ 0 → Takes Is spell key R whole front last rest → AreItems Is spell key R None whole front
all_read Is spell key R whole front last [] empty so_far =
    subst (AreItems Is spell key R None whole) (append-nil front) (so_far.back [] (record { each = tt; rising = tt; spelled = refl }))
all_read Is spell key R whole front last (w ∷ rest) empty so_far = absurd (omega arith)

-- an item that is read as words is read as their bytes
pub read_as_bytes : {X : Type 0} (Is : X → Type 0) (spell : X → List ℕ) (words bytes : List ℕ) (r : Option X) → AllByRecursion (λ w. w < 2 ^ 64) words → ((x : X) → Is x → AllByRecursion (λ w. w < 2 ^ 64) (spell x)) → bytes_of words ≡ bytes
    → Reads Is spell words r → Reads Is (λ x. bytes_of (spell x)) bytes r
read_as_bytes Is spell words bytes None fit fits e h =
    (tt, λ x is written. h.1 x is (same_words (spell x) words (fits x is) fit (written ∙ sym e)))
read_as_bytes Is spell words bytes (Some x) fit fits e h =
    let found : IsSpelled Is spell words x = h.0 in
    (record { valid = found.valid; spelled = ap bytes_of found.spelled ∙ e; only = λ y is written. found.only y is (same_words (spell y) words (fits y is) fit (written ∙ sym e)) }, tt)

-- ---- whether there are such items

-- where nothing can be read on, there are none
pub no_items : {X K : Type 0} (Is : X → Type 0) (spell : X → List ℕ) (key : X → K) (R : K → K → Type 0) (whole : List ℕ) → ((items : List X) → AreItems Is spell key R None whole items → ⊥) → IsTrue false ↔ ((items : List X) × AreItems Is spell key R None whole items)
no_items Is spell key R whole none = (λ e. absurd (false≢true e), λ found. absurd (none found.0 found.1))

-- where all was read, there are
pub some_items : {X K : Type 0} (Is : X → Type 0) (spell : X → List ℕ) (key : X → K) (R : K → K → Type 0) (whole : List ℕ) (front : List X) (last : Option K) (rest : List ℕ) → length rest ≡ 0 → Takes Is spell key R whole front last rest → IsTrue true ↔ ((items : List X) × AreItems Is spell key R None whole items)
some_items Is spell key R whole front last rest empty so_far = (λ _. (front, all_read Is spell key R whole front last rest empty so_far), λ _. refl)

-- what was read of a list's places was read of the list
pub at_two : {X : Type 0} (Is : X → Type 0) (spell : X → List ℕ) (xs : List ℕ) (r : Option X) → length xs ≡ 2 → Reads Is spell (get_or xs 0 0 ∷ get_or xs 1 0 ∷ []) r → Reads Is spell xs r
at_two Is spell [] r len h = absurd (omega arith)
at_two Is spell (a ∷ []) r len h = absurd (omega arith)
at_two Is spell (a ∷ b ∷ []) r len h = h
at_two Is spell (a ∷ b ∷ c ∷ xs) r len h = absurd (omega arith)

pub at_three : {X : Type 0} (Is : X → Type 0) (spell : X → List ℕ) (xs : List ℕ) (r : Option X) → length xs ≡ 3 → Reads Is spell (get_or xs 0 0 ∷ get_or xs 1 0 ∷ get_or xs 2 0 ∷ []) r → Reads Is spell xs r
at_three Is spell [] r len h = absurd (omega arith)
at_three Is spell (a ∷ []) r len h = absurd (omega arith)
at_three Is spell (a ∷ b ∷ []) r len h = absurd (omega arith)
at_three Is spell (a ∷ b ∷ c ∷ []) r len h = h
at_three Is spell (a ∷ b ∷ c ∷ d ∷ xs) r len h = absurd (omega arith)

-- without an order anything may follow
pub any_follows : {K : Type 0} (last : Option K) (k : K) → IsFollowed AnyOrder last k
any_follows None k = tt
any_follows (Some l) k = tt

-- ---- items that zeros follow

-- the items are those of the front, and the rest is zeros
pub items_forth : {X K : Type 0} (Is : X → Type 0) (spell : X → List ℕ) (key : X → K) (R : K → K → Type 0) (w : ℕ) → ((x : X) → length (spell x) ≡ w) → (count : ℕ) (words front rest : List ℕ) → w * count ≤ length words → front ≡ take (w * count) words → rest ≡ drop (w * count) words
    → HasItems Is spell key R count words → ((items : List X) × AreItems Is spell key R None front items) × (rest ≡ replicate (length rest) 0)
items_forth Is spell key R w wide count words front rest room f r (items, len, each, rising, e) =
    let spelled : List ℕ = flat_map spell items in
    let long : length spelled ≡ w * count = length-items spell w wide items ∙ ap (λ n. w * n) len in
    let zeros : List ℕ = replicate (length words - length spelled) 0 in
    let front_is : front ≡ spelled = f ∙ ap (take (w * count)) e ∙ take_at spelled zeros (w * count) long in
    let rest_is : rest ≡ zeros = r ∙ ap (drop (w * count)) e ∙ drop_at spelled zeros (w * count) long in
    ((items, record { each = each; rising = rising; spelled = front_is }), rest_is ∙ ap (λ n. replicate n 0) (sym (length-replicate (length words - length spelled) 0) ∙ ap length (sym rest_is)))

pub items_back : {X K : Type 0} (Is : X → Type 0) (spell : X → List ℕ) (key : X → K) (R : K → K → Type 0) (w : ℕ) → ((x : X) → length (spell x) ≡ w) → ((a b : ℕ) → w * a ≡ w * b → a ≡ b) → (count : ℕ) (words front rest : List ℕ) → w * count ≤ length words → front ≡ take (w * count) words → rest ≡ drop (w * count) words
    → (found : (items : List X) × AreItems Is spell key R None front items) → rest ≡ replicate (length rest) 0 → HasItems Is spell key R count words
items_back Is spell key R w wide cancel count words front rest room f r (items, are) zeros =
    let long : length front ≡ w * count = ap length f ∙ length-take-le (w * count) words room in
    let len : length items ≡ count = cancel (length items) count (sym (length-items spell w wide items) ∙ ap length (sym are.spelled) ∙ long) in
    let left : length rest ≡ length words - length (flat_map spell items) = ap length r ∙ length-drop (w * count) words ∙ ap (λ n. length words - n) (sym long ∙ ap length are.spelled) in
    let whole : words ≡ padded (length words) (flat_map spell items) = rejoined (w * count) words front rest f r ∙ ap (λ t. t ++ rest) are.spelled ∙ ap (λ t. flat_map spell items ++ t) (zeros ∙ ap (λ n. replicate n 0) left) in
    (items, len, are.each, are.rising, whole)

-- ---- tests joined by `and`

pub refused : {P A : Type 0} → (A → IsTrue false) → (P → A) → IsTrue false ↔ P
refused test forth = (λ e. absurd (false≢true e), λ p. test (forth p))

pub and_then : {P A B : Type 0} (r : Bool) → A → (IsTrue r ↔ B) → (P → A × B) → (A → B → P) → IsTrue r ↔ P
and_then r a test forth back = (λ e. back a (test.0 e), λ p. test.1 (forth p).1)

-- a test of something else that comes to the same
pub instead : {P A : Type 0} (r : Bool) → (IsTrue r ↔ A) → (P → A) → (A → P) → IsTrue r ↔ P
instead r test forth back = (λ e. back (test.0 e), λ p. test.1 (forth p))

pub any_rises : {K : Type 0} (last : Option K) (ks : List K) → RisesAfter AnyOrder last ks
any_rises last [] = tt
any_rises last (k ∷ ks) = (any_follows last k, any_rises (Some k) ks)
