-- The indexes of storages by their ids, noted from the last storage to the first.
use Rattle.std.proofs.Common.{◌≡◌, ◌≢◌, ℕ, ◌+◌, ◌-◌, ◌<◌, Bool, cond, not, eqb, eq-eqb, ne_eqb}
use Rattle.std.proofs.Common.{List, [], ◌∷◌, length, get_or, set, drop, replicate, inl, inr, refl, sym, ap, ◌∙◌}
use Rattle.std.proofs.Common.{subst, arith}
use Rattle.std.proofs.lemmas.Bool.Decides.{eqb_tells}
use Rattle.std.proofs.lemmas.List.{drop_all, drop_more, get_or-replicate, get_or-set_other, get_or-set_same}
use Rattle.std.proofs.lemmas.List.{length-replicate, length-set}
use Rattle.serial_model.specs.declared.decl.Decl.{Decl}
use Rattle.serial_model.specs.Keys.{id_of}
use Rattle.engine_pages.specs.Indexes.{index_of, AreIndexes, AreIndexesFrom}

-- ---- numbers

nothing_more : (count : ℕ) → count ≡ count + 0
nothing_more count = omega arith

none_between : (before index : ℕ) → index ≡ 0 → before ≡ before + index
none_between before index none = omega (arith, none)

one_between : (before index later : ℕ) → index ≡ 1 + later → (before + 1) + later ≡ before + index
one_between before index later more = omega (arith, more)

all_from : (index : ℕ) → 0 + index ≡ index
all_from index = omega arith

-- ---- indexes

-- where there is no storage, each id has their count
pub none_noted : (count : ℕ) → AreIndexesFrom count [] (replicate 256 count)
none_noted count = record {
  many = length-replicate 256 count;
  each = λ id below. get_or-replicate 256 id count 0 below ∙ nothing_more count;
}

-- the first storage has its id's index
first_index : (d : Decl) (decls : List Decl) (id : ℕ) → id_of d ≡ id → index_of (d ∷ decls) id ≡ 0
first_index d decls id same = ap (λ (b : Bool). cond (not b) (1 + index_of decls id) 0) (eq-eqb (id_of d) id same)

-- another id's index is behind it
later_index : (d : Decl) (decls : List Decl) (id : ℕ) → id_of d ≢ id → index_of (d ∷ decls) id ≡ 1 + index_of decls id
later_index d decls id other = ap (λ (b : Bool). cond (not b) (1 + index_of decls id) 0) (ne_eqb (id_of d) id other)

-- one storage more before those that are noted
one_noted : (before : ℕ) (d : Decl) (decls : List Decl) (indexes : List ℕ) → id_of d < 256
    → AreIndexesFrom (before + 1) decls indexes → AreIndexesFrom before (d ∷ decls) (set indexes (id_of d) before)
one_noted before d decls indexes small are = record {
  many = length-set indexes (id_of d) before ∙ are.many;
  each = λ id below.
      elim (eqb_tells id (id_of d)) [
        | inl same ↦
            subst (λ (i : ℕ). get_or (set indexes (id_of d) before) i 0 ≡ before + index_of (d ∷ decls) i) (sym same.1)
            (get_or-set_same indexes (id_of d) before 0 (let many = are.many in omega (arith, many, small))
            ∙ none_between before (index_of (d ∷ decls) (id_of d)) (first_index d decls (id_of d) refl))
        | inr other ↦
            get_or-set_other indexes (id_of d) id before 0 other.1
            ∙ (are.each id below
            ∙ one_between before (index_of (d ∷ decls) id) (index_of decls id)
            (later_index d decls id (λ same. other.1 (sym same))))
      ];
}

-- the same of the storages from this one on
pub noted_before : (decls : List Decl) (left i : ℕ) (z : Decl) (indexes : List ℕ) → left < length decls
    → i ≡ id_of (get_or decls left z) → i < 256 → AreIndexesFrom (left + 1) (drop (left + 1) decls) indexes
    → AreIndexesFrom left (drop left decls) (set indexes i left)
noted_before decls left i z indexes within is small are =
    subst (λ (xs : List Decl). AreIndexesFrom left xs (set indexes i left)) (sym (drop_more decls left z within))
    (subst (λ (j : ℕ). AreIndexesFrom left (get_or decls left z ∷ drop (left + 1) decls) (set indexes j left)) (sym is)
    (one_noted left (get_or decls left z) (drop (left + 1) decls) indexes (subst (λ (j : ℕ). j < 256) is small) are))

-- behind the last storage there is none
pub none_behind : (decls : List Decl) (count : ℕ) (indexes : List ℕ) → count ≡ length decls
    → AreIndexesFrom count [] indexes → AreIndexesFrom count (drop count decls) indexes
none_behind decls count indexes all =
    subst (λ (xs : List Decl). AreIndexesFrom count xs indexes) (sym (drop_all count decls (omega (arith, all))))

-- before the first one neither
pub all_noted : (decls : List Decl) (indexes : List ℕ) → AreIndexesFrom 0 decls indexes → AreIndexes decls indexes
all_noted decls indexes are = record {
  many = are.many;
  each = λ id below. are.each id below ∙ all_from (index_of decls id);
}
