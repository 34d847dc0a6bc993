-- The entries of a map in the order of its keys are a run.
use Rattle.std.proofs.Common.{◌≡◌, zero, suc, List, [], ◌∷◌, Option, Some, None, inl, inr, refl, sym, ap, subst}
use Rattle.std.proofs.Common.{◌∙◌, map, arith}
use Rattle.std.specs.BTreeMap as tree
use Rattle.std.specs.BTreeMap.{BTreeMap}
use Rattle.std.specs.FinMap.{get, from_entries}
use Rattle.std.specs.Ordering.{nat_cmp, ordering_then}
use Rattle.std.specs.List.{Contains, AllByRecursion}
use Rattle.std.specs.List.Sorted.{IsStrictlySortedBy}
use Rattle.std.specs.declared.cmp.Ordering.TheVariants.{Less, Equal, Greater}
use Rattle.std.proofs.lemmas.Bool.{cases_lt}
use Rattle.std.proofs.lemmas.Map.Views.{btree_map_get_iff}
use Rattle.serial_model.specs.Keys.{key_cmp, IsKeyBelow}
use Rattle.serial_model.specs.declared.key.Key.{Key}
use Rattle.serial_model.specs.KeyOrder.{keys_total, exact_keys}
use Rattle.wire_form.specs.Items.{IsFollowed, RisesAfter}
use Rattle.wire_form.specs.declared.bucket.Entry.{Entry}
use Rattle.recovery_core.specs.EntriesLast.{EntryMap}
use Rattle.recovery_core.specs.EntriesRun.{AreOfTheirKeys, IsRunOf, key_of}
use Rattle.recovery_core.proofs.EntriesGreatest.{get_key}

-- a value of a map stands at some key
at_key : (es : List (Key × Entry)) (e : Entry) → Contains (map (λ x. x.1) es) e → (k : Key) × Contains es (k, e)
at_key [] e has = absurd (omega (arith, has.1))
at_key (x ∷ xs) e (zero, h, is) = (x.0, (0, omega arith, ap (λ y. (x.0, y)) is))
at_key (x ∷ xs) e (suc n, h, is) =
    let rest = at_key xs e (n, omega (arith, h), is) in
    (rest.0, (suc rest.1.0, omega (arith, rest.1.1), rest.1.2))

-- and what stands at a key is a value
of_key : (es : List (Key × Entry)) (k : Key) (e : Entry) → Contains es (k, e) → Contains (map (λ x. x.1) es) e
of_key [] k e has = absurd (omega (arith, has.1))
of_key (x ∷ xs) k e (zero, h, is) = (0, omega arith, ap (λ (p : Key × Entry). p.1) is)
of_key (x ∷ xs) k e (suc n, h, is) =
    let rest = of_key xs k e (n, omega (arith, h), is) in
    (suc rest.0, omega (arith, rest.1), rest.2)

-- each entry is of its key
abbrev OfKeys : List (Key × Entry) → Type 0
OfKeys es = AllByRecursion (λ x. x.1.key ≡ x.0) es

of_keys : (es : List (Key × Entry)) → ((k : Key) (e : Entry) → Contains es (k, e) → e.key ≡ k) → OfKeys es
of_keys [] all = tt
of_keys (x ∷ xs) all =
    (all x.0 x.1 (0, omega arith, refl), of_keys xs (λ k e has. all k e (suc has.0, omega (arith, has.1), has.2)))

key_below : (a b : Key) → key_cmp a b ≡ Less → IsKeyBelow a b
key_below a b less =
    elim (cases_lt a.storage b.storage) [
      | inl lt ↦ inl lt
      | inr ge ↦ elim (cases_lt b.storage a.storage) [
        | inl gt ↦ absurd (
            let more : nat_cmp a.storage b.storage ≡ Greater = grind arith in
            let whole : key_cmp a b ≡ Greater = ap (λ o. ordering_then o (nat_cmp a.key b.key)) more in
            cc)
        | inr le ↦
            let same : a.storage ≡ b.storage = omega arith in
            let first : nat_cmp a.storage b.storage ≡ Equal = grind arith in
            let rest : nat_cmp a.key b.key ≡ Less =
            sym (ap (λ o. ordering_then o (nat_cmp a.key b.key)) first) ∙ less in
            inr (same, grind arith)
      ]
    ]

-- keys that are sorted rise
rises : (last : Option Key) (es : List (Key × Entry)) → IsStrictlySortedBy key_cmp (map (λ x. x.0) es) → OfKeys es
    → ((l : Key) → last ≡ Some l → AllByRecursion (λ x. key_cmp l x.0 ≡ Less) es)
    → RisesAfter IsKeyBelow last (map key_of (map (λ x. x.1) es))
unfolding IsStrictlySortedBy
rises last [] sorted own after = tt
rises last (x ∷ xs) sorted own after = (
  followed last after,
  rises (Some x.1.key) xs sorted.1 own.1 (λ l is.
      let same : x.0 ≡ l = sym own.0 ∙ (let here = is in cc) in
      subst (λ (k : Key). AllByRecursion (λ f. key_cmp k f.0 ≡ Less) xs) same (all_keys x.0 xs sorted.0)),
)
  where
    followed : (last : Option Key)
        → ((l : Key) → last ≡ Some l → AllByRecursion (λ f. key_cmp l f.0 ≡ Less) (x ∷ xs))
        → IsFollowed IsKeyBelow last x.1.key
    followed None h = tt
    followed (Some l) h = subst (IsKeyBelow l) (sym own.0) (key_below l x.0 (h l refl).0)

    all_keys : (k : Key) (fs : List (Key × Entry)) → AllByRecursion (λ y. key_cmp k y ≡ Less) (map (λ f. f.0) fs)
        → AllByRecursion (λ f. key_cmp k f.0 ≡ Less) fs
    all_keys k [] all = tt
    all_keys k (f ∷ fs) all = (all.0, all_keys k fs all.1)

-- the values of a map whose entries are of their keys are its run
pub values_run : (m : BTreeMap Key Entry) (last : EntryMap) → from_entries m.entries ≡ last
    → tree.IsOrdered key_cmp m → AreOfTheirKeys last → IsRunOf last (tree.values m)
values_run m last view ordered own =
    let iff = btree_map_get_iff keys_total exact_keys m ordered in
    let gets : (key : Key) → get last key ≡ tree.get key_cmp m key =
    λ key. ap (λ (x : EntryMap). get x key) (sym view) ∙ get_key m.entries key in
    let keyed : (k : Key) (e : Entry) → Contains m.entries (k, e) → e.key ≡ k =
    λ k e has. own k e (gets k ∙ (iff k e).1 has) in
    record {
      rising = rises None m.entries ordered (of_keys m.entries keyed) (λ l none. absurd (cc none));
      each = λ e has.
          let at = at_key m.entries e has in
          ap (get last) (keyed at.0 e at.1) ∙ gets at.0 ∙ (iff at.0 e).1 at.1;
      all = λ key e here. of_key m.entries key e ((iff key e).0 (sym (gets key) ∙ here));
    }
