-- The write set after one write at a key of a tree, of a value or of a removal.
use Rattle.std.proofs.Common.{◌≡◌, ◌⊎◌, inl, inr, ℕ, ◌+◌, ◌≤◌, true, false, true≢false, List, ◌∷◌, Option, Some}
use Rattle.std.proofs.Common.{sym, ap, ◌∙◌, subst, arith, length, length-append}
use Rattle.std.specs.Prelude.{is_some}
use Rattle.std.specs.List.{AllByRecursion}
use Rattle.std.proofs.lemmas.Bool.{cases_Bool}
use Rattle.serial_model.specs.declared.key.Key.{Key}
use Rattle.serial_model.specs.declared.number.Change.{Change}
use Rattle.homes.specs.Homes.{same_key}
use Rattle.homes.specs.Laws.{same_key-self, same_key-true}
use Rattle.serial_bridge.specs.Transaction.{wrote}
use Rattle.tx_sets.specs.declared.writes.Write.{Write}
use Rattle.tx_sets.specs.Entries.{has_write, value_of, IsInserted, IsRewritten}
use Rattle.engine_pages.specs.Pages.{is_array, is_tree}
use Rattle.page_commit.specs.Live.{IsWriteOf}
use Rattle.page_commit.specs.Places.{Ground, IsTreeKeyIn}
use Rattle.page_commit.specs.Turning.{AreWritesOf}
use Rattle.page_commit.proofs.WriteLaws.{all_middle, all_without, any_front, has_is, value_beside, value_head, value_past}
use Rattle.page_commit.proofs.WriteLaws.{inserted_all, written_head}
use Rattle.tree_calls.proofs.DoneLaws.{no_array}

-- ---- which values

-- This is written at the key now, a value or its removal, and at each other key what was.
pub record HasPut (k : Key) (value : Option ℕ) (old new : List Write) : Type 0 where
  pub now : value_of k new ≡ Some value
  pub others : (q : Key) → same_key k q ≡ false → value_of q new ≡ value_of q old
  pub grows : length new ≤ length old + 1

-- by one write more
pub inserted_put : (k : Key) (value : Option ℕ) (at : ℕ) (old new : List Write)
    → IsInserted (record { key = k; value = value; at = at }) old new → has_write k old ≡ false → HasPut k value old new
inserted_put k value at old new is none =
    let x : Write = record { key = k; value = value; at = at } in
    let front = any_front (λ (w : Write). same_key w.key k) is.before is.after
    (subst (λ (l : List Write). has_write k l ≡ false) is.was none) in record {
      now = ap (value_of k) is.now ∙ (value_past is.before (x ∷ is.after) k front
          ∙ value_head x is.after k true (same_key-self k));
      others = λ q miss. ap (value_of q) is.now ∙ (value_beside is.before is.after x q miss
          ∙ sym (ap (value_of q) is.was));
      grows = omega (
        arith,
        ap (λ (l : List Write). length l) is.now,
        ap (λ (l : List Write). length l) is.was,
        length-append is.before (x ∷ is.after),
        length-append is.before is.after,
      );
    }

-- by another value of a key that was written
pub rewritten_put : (k : Key) (value : Option ℕ) (old new : List Write) → IsRewritten k value old new
    → HasPut k value old new
rewritten_put k value old new is =
    let x : Write = is.write in
    let y : Write = record x { value = value } in
    let before = is.rest.before in
    let after = is.rest.after in
    let own : same_key x.key k ≡ true = ap (λ (z : Key). same_key z k) is.of_key ∙ same_key-self k in record {
      now = ap (value_of k) is.rest.now ∙ (value_past before (y ∷ after) k is.first ∙ value_head y after k true own);
      others = λ q miss.
          let other : same_key x.key q ≡ false = ap (λ (z : Key). same_key z q) is.of_key ∙ miss in
          ap (value_of q) is.rest.now ∙ (value_beside before after y q other
          ∙ (sym (value_beside before after x q other) ∙ sym (ap (value_of q) is.rest.was)));
      grows = omega (
        arith,
        ap (λ (l : List Write). length l) is.rest.now,
        ap (λ (l : List Write). length l) is.rest.was,
        length-append before (y ∷ after),
        length-append before (x ∷ after),
      );
    }

-- at most this key is written now
pub put_only : (k : Key) (value : Option ℕ) (old new : List Write) (q : Key) → HasPut k value old new
    → has_write q new ≡ true → (has_write q old ≡ true) ⊎ (k ≡ q)
put_only k value old new q is has =
    elim (cases_Bool (same_key k q)) [
      | inl hit ↦ inr (same_key-true k q hit)
      | inr miss ↦ inl (has_is old q ∙ (sym (ap is_some (is.others q miss)) ∙ (sym (has_is new q) ∙ has)))
    ]

-- with one write more in front, what was written is what the set has
pub put_more : (k : Key) (value : Option ℕ) (old new : List Write) (own : List Change) → HasPut k value old new
    → AreWritesOf old own → AreWritesOf new (wrote k value own)
put_more k value old new own is same q =
    elim (cases_Bool (same_key k q)) [
      | inl hit ↦ written_head k value own q true hit
          ∙ sym (subst (λ (z : Key). value_of z new ≡ Some value) (same_key-true k q hit) is.now)
      | inr miss ↦ written_head k value own q false miss ∙ (same q ∙ sym (is.others q miss))
    ]

-- ---- each is of a record

-- a write at the place of a tree's record is
tree_write : (g : Ground) (x : Write) → IsTreeKeyIn g x.key x.at → IsWriteOf g x
tree_write g x place = record {
  place = inr place;
  value = λ array. absurd (true≢false (sym array ∙ no_array g.layout.decls x.key.storage place.kind));
}

pub inserted_tree : (g : Ground) (k : Key) (value : Option ℕ) (at : ℕ) (old new : List Write)
    → IsInserted (record { key = k; value = value; at = at }) old new → IsTreeKeyIn g k at
    → AllByRecursion (IsWriteOf g) old → AllByRecursion (IsWriteOf g) new
inserted_tree g k value at old new is place all =
    let x : Write = record { key = k; value = value; at = at } in
    inserted_all g x old new is (tree_write g x place) all

pub rewritten_tree : (g : Ground) (k : Key) (value : Option ℕ) (old new : List Write) → IsRewritten k value old new
    → is_tree g.layout.decls k.storage ≡ true → AllByRecursion (IsWriteOf g) old → AllByRecursion (IsWriteOf g) new
rewritten_tree g k value old new is tree all =
    let x : Write = is.write in
    let was = all_without (IsWriteOf g) is.rest.before is.rest.after x
    (subst (AllByRecursion (IsWriteOf g)) is.rest.was all) in
    let none : is_array g.layout.decls x.key.storage ≡ false =
    ap (λ (z : Key). is_array g.layout.decls z.storage) is.of_key ∙ no_array g.layout.decls k.storage tree in
    subst (AllByRecursion (IsWriteOf g)) (sym is.rest.now)
    (all_middle (IsWriteOf g) is.rest.before is.rest.after (record x { value = value }) was.1
    record { place = was.0.place; value = λ array. absurd (true≢false (sym array ∙ none)) })
