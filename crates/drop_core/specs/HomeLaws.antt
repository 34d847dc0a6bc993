-- Homes in a leaf of a slot, and in snapshot pages. Crates above cite these laws too.
use Rattle.std.proofs.Common.{◌≡◌, ℕ, zero, suc, ◌≤◌, true, false, true≢false, inl, inr, List, [], ◌∷◌, refl, sym, ap, ◌∙◌, arith}
use Rattle.std.proofs.lemmas.Bool.{cases_Bool, or_left, or_right, cond-true, cond-false, false_from_ne_true}
use Rattle.serial_model.specs.declared.key.Key.{Key}
use Rattle.homes.specs.declared.places.Content.{Content}
use Rattle.homes.specs.declared.places.Spot.{Spot}
use Rattle.homes.specs.declared.places.Home.{Home}
use Rattle.homes.specs.declared.places.Home.TheVariants.{InSlot, InPage, Nowhere}
use Rattle.homes.specs.Homes.{same_key, has_key}
use Rattle.drop_core.specs.declared.table.SnapPage.{SnapPage}
use Rattle.drop_core.specs.declared.table.SnapPage.TheVariants.{Missing, Entries, Children}
use Rattle.drop_core.specs.declared.table.Table.{Table}
use Rattle.drop_core.specs.Table.{snap_of, entry_home, child_of, snap_step, snap_walk, snap_home, leaf_place, leaf_home}

-- not in a slot
abbrev pub IsFixed : Home → Type 0
IsFixed h = (x : Spot) → h ≡ InSlot x → ⊥

slot_home : (x y : Spot) → InSlot x ≡ InSlot y → x ≡ y
slot_home x y e = cc

nowhere_not : (y : Spot) → Nowhere ≡ InSlot y → ⊥
nowhere_not y e = cc

page_not : (n : ℕ) (c : Content) (y : Spot) → InPage n c ≡ InSlot y → ⊥
page_not n c y e = cc

-- ---- snapshot pages hold no slot

entry-fixed : (n : ℕ) (entries : List (Key × Content)) (k : Key) → IsFixed (entry_home n entries k)
entry-fixed n [] k y e = nowhere_not y e
entry-fixed n (x ∷ more) k y e =
    elim (cases_Bool (same_key x.0 k)) [
      | inl hit ↦ page_not n x.1 y (sym (cond-true (same_key x.0 k) (InPage n x.1) (entry_home n more k) hit) ∙ e)
      | inr miss ↦ entry-fixed n more k y
          (sym (cond-false (same_key x.0 k) (InPage n x.1) (entry_home n more k) miss) ∙ e)
    ]

step-fixed : (down : ℕ → Key → Home) → ((n : ℕ) (k : Key) → IsFixed (down n k))
    → (n : ℕ) (k : Key) (page : SnapPage) → IsFixed (snap_step down n k page)
step-fixed down fixed n k Missing y e = nowhere_not y e
step-fixed down fixed n k (Entries over entries) y e = entry-fixed n entries k y e
step-fixed down fixed n k (Children over children) y e = fixed (child_of children k) k y e

walk-fixed : (f : ℕ) (snaps : ℕ → SnapPage) (n : ℕ) (k : Key) → IsFixed (snap_walk f snaps n k)
unfolding snap_walk
walk-fixed zero snaps n k y e = nowhere_not y e
walk-fixed (suc f) snaps n k y e =
    step-fixed (λ m q. snap_walk f snaps m q) (λ m q. walk-fixed f snaps m q) n k (snaps n) y e

-- a home by a snapshot page is in no slot
pub snap-fixed : (d : Table) (n : ℕ) (k : Key) → IsFixed (snap_home d n k)
snap-fixed d n k = walk-fixed n (snap_of d) n k

-- ---- leaves

-- a key that isn't in the leaf has no home there
pub leaf-none : (s i : ℕ) (keys : List Key) (k : Key) → has_key keys k ≡ false → leaf_home s i keys k ≡ Nowhere
leaf-none s i [] k miss = refl
leaf-none s i (x ∷ more) k miss =
    cond-false (same_key x k) (leaf_place s i) (leaf_home s (suc i) more k)
    (false_from_ne_true (same_key x k) (λ e. true≢false (sym (or_left (same_key x k) (has_key more k) e) ∙ miss)))
    ∙ leaf-none s (suc i) more k (false_from_ne_true (has_key more k)
    (λ e. true≢false (sym (or_right (same_key x k) (has_key more k) e) ∙ miss)))

-- what a home in a leaf says: its slot, its index, and that the key is there
pub record IsIn (s i : ℕ) (keys : List Key) (k : Key) (y : Spot) : Type 0 where
  pub slot : y.slot ≡ s
  pub from : i ≤ y.index
  pub there : has_key keys k ≡ true

-- a home in the leaf is at its slot, at this index or later, and its key is there
pub leaf-in : (s i : ℕ) (keys : List Key) (k : Key) (y : Spot) → leaf_home s i keys k ≡ InSlot y → IsIn s i keys k y
leaf-in s i [] k y e = absurd (nowhere_not y e)
leaf-in s i (x ∷ more) k y e =
    elim (cases_Bool (same_key x k)) [
      | inl hit ↦ let is = slot_home (record { slot = s; index = i }) y
          (sym (cond-true (same_key x k) (leaf_place s i) (leaf_home s (suc i) more k) hit) ∙ e) in
          record {
            slot = sym (ap (λ (z : Spot). z.slot) is);
            from = let at : i ≡ y.index = ap (λ (z : Spot). z.index) is in omega arith;
            there = or_left (same_key x k) (has_key more k) hit;
          }
      | inr miss ↦ let r = leaf-in s (suc i) more k y
          (sym (cond-false (same_key x k) (leaf_place s i) (leaf_home s (suc i) more k) miss) ∙ e) in
          record {
            slot = r.slot;
            from = let at : suc i ≤ y.index = r.from in omega arith;
            there = or_right (same_key x k) (has_key more k) r.there;
          }
    ]
