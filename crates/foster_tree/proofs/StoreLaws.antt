-- Words that are stored in the leaf whose header is locked.
use Rattle.std.proofs.Common.{◌≡◌, ℕ, ◌+◌, ◌*◌, ◌<◌, ◌≤◌, Bool, true, false, cond, List, [], ◌∷◌, length, map, refl, sym, ap, ◌∙◌}
use Rattle.std.proofs.Common.{subst, arith, eq-eqb}
use Rattle.std.specs.Prelude.{slice_set, ◌||◌, ◌&&◌, nat_le}
use Rattle.std.specs.List.{Contains}
use Rattle.std.proofs.lemmas.Bool.Decides.{nat_tests}
use Rattle.lists.specs.Elements.{in_head}
use Rattle.serial_model.specs.declared.key.Key.{Key}
use Rattle.engine_pages.specs.declared.view.Head.{Head}
use Rattle.engine_pages.specs.declared.view.View.{View}
use Rattle.engine_pages.specs.Rule.{is_spare}
use Rattle.engine_pages.specs.Views.{IsActive}
use Rattle.tree_heads.specs.Heads.{head_stored, stored_in, CanStore}
use Rattle.foster_tree.specs.Adding.{restored, CanStoreIn, CanStoreWord, IsOneHead, Stores}

-- the header of the leaf with these keys and words
abbrev pub head_of : ℕ → List Key → List ℕ → Head
head_of t keys words = record { slot = t; keys = keys; words = words }

-- what the store of a word asks
pub can_store : (t i : ℕ) (v : View) → CanStoreWord v t i → i < 64 → CanStore v t i
can_store t i v can index =
    let c = can.1 in
    record {
      head = head_of t c.keys c.words;
      has = subst (λ (l : List Head). Contains l (head_of t c.keys c.words)) (sym c.one.only)
          (in_head (head_of t c.keys c.words) []);
      slot = refl;
      index = index;
      spare = subst (λ (n : ℕ). is_spare n i ≡ true) (sym c.count) can.2;
    }

-- the view with these headers, one step on
abbrev with_heads : List Head → View → View
with_heads heads v = record v { steps = v.steps + 1; heads = heads }

-- and what it tells
pub stored_word : (t i n : ℕ) (v w : View) → w ≡ head_stored t i n v → Stores t (λ words. slice_set words i n) 1 v w
stored_word t i n v w is keys words one =
    is
    ∙ (ap (λ (l : List Head). with_heads (map (stored_in t i n) l) v) one.only
    ∙ ap (λ (b : Bool). with_heads (head_of t keys (cond b (slice_set words i n) words) ∷ []) v) (eq-eqb t t refl))

-- the header is that of the same leaf
pub one_after : (t n : ℕ) (keys : List Key) (words : List ℕ) (v w : View) → length words ≡ 64
    → w ≡ restored t keys words n v → IsOneHead w t keys words
one_after t n keys words v w long is = record { only = ap (λ (z : View). z.heads) is; long = long }

adds : (a b c : ℕ) → (a + b) + c ≡ a + (b + c)
adds a b c = omega arith

-- its words, at this step
abbrev restored_at : ℕ → List Key → List ℕ → ℕ → View → View
restored_at t keys words k v = record v { steps = k; heads = head_of t keys words ∷ [] }

-- stores in a row
pub stores_then : (t n m : ℕ) (f g : List ℕ → List ℕ) (v u w : View)
    → ((words : List ℕ) → length words ≡ 64 → length (f words) ≡ 64) → Stores t f n v u → Stores t g m u w
    → Stores t (λ words. g (f words)) (n + m) v w
stores_then t n m f g v u w long first next keys words one =
    let is : u ≡ restored t keys (f words) n v = first keys words one in
    next keys (f words) (one_after t n keys (f words) v u (long words one.long) is)
    ∙ (ap (λ (z : View). restored t keys (g (f words)) m z) is
    ∙ ap (λ (k : ℕ). restored_at t keys (g (f words)) k v) (adds v.steps n m))

-- what can be stored still can
pub stores_can : (t n k : ℕ) (f : List ℕ → List ℕ) (v w : View)
    → ((words : List ℕ) → length words ≡ 64 → length (f words) ≡ 64) → Stores t f n v w → CanStoreIn v t k
    → CanStoreIn w t k
stores_can t n k f v w long stores can =
    let is : w ≡ restored t can.keys (f can.words) n v = stores can.keys can.words can.one in
    record {
      active = subst (λ (z : View). IsActive z.role) (sym is) can.active;
      there = subst (λ (z : View). t < z.layout.slots) (sym is) can.there;
      keys = can.keys;
      words = f can.words;
      one = one_after t n can.keys (f can.words) v w (long can.words can.one.long) is;
      count = can.count;
    }

or_true : (b c : Bool) → c ≡ true → (b || c) ≡ true
or_true true c e = refl
or_true false c e = e

-- no record has the words behind those of the records
pub spare_behind : (n i : ℕ) → 16 + 3 * n ≤ i → is_spare n i ≡ true
spare_behind n i behind = or_true (nat_le 3 i && nat_le i 5) (nat_le (16 + 3 * n) i) (grind (arith, nat_tests))

-- nor those of a split
pub spare_split : (n i : ℕ) → 3 ≤ i → i ≤ 5 → is_spare n i ≡ true
spare_split n i low high = both (nat_le 3 i) (nat_le i 5) (nat_le (16 + 3 * n) i) (grind (arith, nat_tests)) (grind (arith, nat_tests))
  where
    both : (a b c : Bool) → a ≡ true → b ≡ true → ((a && b) || c) ≡ true
    both a b c first second = ap (λ (x : Bool). (x && b) || c) first ∙ ap (λ (x : Bool). x || c) second
