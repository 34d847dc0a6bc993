-- Marks of the keys that were read.
use Rattle.std.proofs.Common.{◌≡◌, ℕ, zero, suc, ◌<◌, Bool, true, false, true≢false, inl, inr, refl, cond}
use Rattle.std.proofs.Common.{List, [], ◌∷◌, ◌++◌, length, get_or, set, Some, None, sym, ap, ◌∙◌, subst, arith}
use Rattle.std.specs.List.{AllByRecursion}
use Rattle.std.proofs.lemmas.Bool.{cases_Bool}
use Rattle.std.proofs.lemmas.List.{length-set}
use Rattle.homes.specs.Homes.{same_key}
use Rattle.homes.specs.Laws.{same_key-true}
use Rattle.serial_model.specs.declared.key.Key.{Key}
use Rattle.tx_sets.specs.declared.reads.ReadEntry.{ReadEntry}
use Rattle.tx_sets.specs.Entries.{hash_of, read_of, AreMarked}

-- of a key whose hash isn't marked nothing was read
none_read : (key : Key) (marked : List Bool) (reads : List ReadEntry) → AreMarked marked reads
    → get_or marked (hash_of key) false ≡ false → read_of key reads ≡ None
none_read key marked reads are off = among reads are.each
  where
    past : (r : ReadEntry) (l : List ReadEntry) → same_key r.key key ≡ false → read_of key l ≡ None
        → read_of key (r ∷ l) ≡ None
    past r l other none = ap (λ b. cond b (Some r) (read_of key l)) other ∙ none

    among : (l : List ReadEntry) → AllByRecursion (λ r. get_or marked (hash_of r.key) false ≡ true) l
        → read_of key l ≡ None
    among [] each = refl
    among (r ∷ l) each = elim (cases_Bool (same_key r.key key)) [
      | inl same ↦
          let here : get_or marked (hash_of key) false ≡ true = subst (λ k. get_or marked (hash_of k) false ≡ true)
          (same_key-true r.key key same) each.0 in
          absurd (true≢false (sym here ∙ off))
      | inr other ↦ past r l other (among l each.1)
    ]

-- the same of what a set has
pub not_read : (key : Key) (marked : List Bool) (reads now : List ReadEntry) (b : Bool) → reads ≡ now
    → AreMarked marked reads → b ≡ get_or marked (hash_of key) false → b ≡ false → None ≡ read_of key now
not_read key marked reads now b same are is off =
    sym (subst (λ l. read_of key l ≡ None) same (none_read key marked reads are (sym is ∙ off)))

still : (marked : List Bool) (i j : ℕ) → get_or marked j false ≡ true → get_or (set marked i true) j false ≡ true
still [] i j on = on
still (b ∷ marked) zero zero on = refl
still (b ∷ marked) zero (suc j) on = on
still (b ∷ marked) (suc i) zero on = on
still (b ∷ marked) (suc i) (suc j) on = still marked i j on

here : (marked : List Bool) (i : ℕ) → i < length marked → get_or (set marked i true) i false ≡ true
here [] i within = absurd (omega (arith, within))
here (b ∷ marked) zero within = refl
here (b ∷ marked) (suc i) within = here marked i (omega (arith, within))

-- with a record more, whose hash is marked
pub more_marked : (old new : List Bool) (reads all : List ReadEntry) (entry : ReadEntry) → all ≡ reads ++ entry ∷ []
    → AreMarked old reads → hash_of entry.key < 128 → new ≡ set old (hash_of entry.key) true → AreMarked new all
more_marked old new reads all entry put was bound is = subst (λ m. AreMarked m all) (sym is)
    (subst (λ l. AreMarked (set old (hash_of entry.key) true) l) (sym put) record {
      many = length-set old (hash_of entry.key) true ∙ was.many;
      each = each reads was.each;
    })
  where
    each : (l : List ReadEntry) → AllByRecursion (λ r. get_or old (hash_of r.key) false ≡ true) l
        → AllByRecursion (λ r. get_or (set old (hash_of entry.key) true) (hash_of r.key) false ≡ true)
        (l ++ entry ∷ [])
    each [] all = (here old (hash_of entry.key) (subst (λ n. hash_of entry.key < n) (sym was.many) bound), tt)
    each (r ∷ l) all = (still old (hash_of entry.key) (hash_of r.key) all.0, each l all.1)
