-- What the transaction writes between two keys, and rows that are added.
use Rattle.std.proofs.Common.{◌≡◌, ◌≢◌, ◌⊎◌, inl, inr, ℕ, suc, ◌+◌, ◌<◌, ◌≤◌, Bool, true, false, true≢false, eqb}
use Rattle.std.proofs.Common.{eqb-true, eq-eqb, List, []}
use Rattle.std.proofs.Common.{◌∷◌, ◌++◌, length, get_or, take, refl, sym, ap, ◌∙◌, subst, arith, None, add-one}
use Rattle.std.proofs.Common.{append_assoc, append-nil}
use Rattle.std.specs.Prelude.{Contains}
use Rattle.std.proofs.lemmas.Bool.Decides.{nat_tests}
use Rattle.std.proofs.lemmas.List.{take_all, take_more}
use Rattle.lists.specs.Elements.{any_is, in_none, in_push_cases}
use Rattle.serial_model.specs.declared.key.Key.{Key}
use Rattle.homes.specs.Homes.{same_key}
use Rattle.homes.specs.Laws.{same_key-true}
use Rattle.commit_core.specs.declared.part.Part.{Part}
use Rattle.tx_sets.specs.declared.writes.Write.{Write}
use Rattle.tx_sets.specs.declared.sets.Sets.{Sets}
use Rattle.tx_sets.specs.Entries.{has_write, value_of}
use Rattle.tx_sets.specs.Gathered.{has_read_room}
use Rattle.page_commit.proofs.WriteLaws.{value_none}
use Rattle.tree_scans.specs.Rows.{key_in}
use Rattle.tree_ranges.specs.Rows.{AddsAll, AddsSome, AreFree, IsApart, RowsGoOn}

-- ---- keys that are not written

apart_less : (storage from to less : ℕ) (w : Write) → less ≤ to → IsApart storage from to w
    → IsApart storage from less w
apart_less storage from to less w le apart same over under = apart same over (omega (arith, under, le))

-- the first writes are apart
abbrev pub AreApart : ℕ → ℕ → ℕ → List Write → ℕ → Type 0
AreApart storage from to ws i = (w : Write) → Contains (take i ws) w → IsApart storage from to w

pub apart_none : (storage from to : ℕ) (ws : List Write) → AreApart storage from to ws 0
apart_none storage from to ws w has = absurd (in_none w has)

-- one more is
pub apart_more : (storage from to less i : ℕ) (ws : List Write) (d : Write) → i < length ws → less ≤ to
    → AreApart storage from to ws i → IsApart storage from less (get_or ws i d) → AreApart storage from less ws (i + 1)
apart_more storage from to less i ws d there le all one w has =
    elim (in_push_cases w (get_or ws i d) (take i ws)
    (subst (λ (l : List Write). Contains l w) (take_more ws i d there) has)) [
      | inl old ↦ apart_less storage from to less w le (all w old)
      | inr same ↦ subst (IsApart storage from less) same one
    ]

pub apart_all : (storage from to i : ℕ) (ws : List Write) → value_of (key_in storage from) ws ≡ None → length ws ≤ i
    → AreApart storage from to ws i → AreFree storage from to ws
apart_all storage from to i ws first all apart n low high = by_first (eqb from n) refl
  where
    each : (w : Write) → Contains ws w → IsApart storage from to w
    each w has = apart w (subst (λ (l : List Write). Contains l w) (sym (take_all i ws all)) has)

    none : from < n → (b : Bool) → has_write (key_in storage n) ws ≡ b → has_write (key_in storage n) ws ≡ false
    none over false is = is
    none over true is =
        let w = any_is (λ (w : Write). same_key w.key (key_in storage n)) ws is in
        let key : (w.0).key ≡ key_in storage n = same_key-true (w.0).key (key_in storage n) w.2 in
        let number : (w.0).key.key ≡ n = ap (λ (k : Key). k.key) key in
        absurd (each w.0 w.1 (ap (λ (k : Key). k.storage) key) (omega (arith, number, over))
        (omega (arith, number, high)))

    by_first : (b : Bool) → eqb from n ≡ b → value_of (key_in storage n) ws ≡ None
    by_first true same = subst (λ (i : ℕ). value_of (key_in storage i) ws ≡ None) (eqb-true from n same) first
    by_first false other =
        let ne : from ≢ n = (λ e. true≢false (sym (eq-eqb from n e) ∙ other)) in
        let over : from < n = omega (arith, low, ne) in
        value_none (key_in storage n) ws (none over (has_write (key_in storage n) ws) refl)

-- a write in between ends the keys right before it
pub apart_before : (storage from : ℕ) (w : Write) (to : ℕ) → from < w.key.key → to + 1 ≡ w.key.key
    → IsApart storage from to w
apart_before storage from w to over end same low high = absurd (omega (arith, end, high))

-- ---- rows that are added

-- the first ones were, and there is room for more
pub record IsAdding (rows found : List (ℕ × ℕ)) (i : ℕ) (more : List (ℕ × ℕ)) : Type 0 where
  pub is : more ≡ rows ++ take i found
  pub few : length more < 16

pub adding_none : (rows found : List (ℕ × ℕ)) → length rows < 16 → IsAdding rows found 0 rows
adding_none rows found few = record { is = sym (append-nil rows); few = few }

-- one more
pub adding_is : (rows found more all : List (ℕ × ℕ)) (i : ℕ) (d : ℕ × ℕ) → i < length found → IsAdding rows found i more
    → all ≡ more ++ get_or found i d ∷ [] → all ≡ rows ++ take (i + 1) found
adding_is rows found more all i d there so is =
    is
    ∙ (ap (λ (l : List (ℕ × ℕ)). l ++ get_or found i d ∷ []) so.is
    ∙ (append_assoc rows (take i found) (get_or found i d ∷ [])
    ∙ ap (λ (l : List (ℕ × ℕ)). rows ++ l) (sym (take_more found i d there))))

pub adding_all : (rows found more : List (ℕ × ℕ)) (i to : ℕ) → length found ≤ i → IsAdding rows found i more
    → AddsAll rows found to more to
adding_all rows found more i to all so = record {
  end_is = refl;
  is = so.is ∙ ap (λ (l : List (ℕ × ℕ)). rows ++ l) (take_all i found all);
  few = so.few;
}

-- ---- room

pub read_room : (sets : Sets) → has_read_room sets ≡ true → length sets.reads + length sets.headers < 256
read_room sets room = grind (arith, nat_tests, room)
