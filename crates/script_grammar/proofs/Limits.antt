-- Below its limit a storage has each key, and the limit of a tree is one's, also with one more storage.
use Rattle.std.proofs.Common.{◌≡◌, ℕ, zero, suc, ◌<◌, Bool, true, false, List, [], ◌∷◌, ◌++◌, length, get_or, set, replicate, inl, inr, refl, sym, subst, ◌∙◌, arith}
use Rattle.std.specs.Prelude.{◌||◌}
use Rattle.std.proofs.lemmas.Bool.Decides.{eqb_tells}
use Rattle.std.proofs.lemmas.List.{get_or-set_same, get_or-set_other}
use Rattle.std.proofs.lemmas.List.Folds.{list_any-append}
use Rattle.serial_model.specs.Keys.{has_key, has_key_of, id_of, is_tree, is_tree_of}
use Rattle.serial_model.specs.declared.decl.Decl.{Decl}
use Rattle.serial_model.specs.declared.key.Key.{Key}
use Rattle.script_grammar.specs.Front.{AreLimits, IsLimitOf, tree_limit}
use Rattle.script_grammar.proofs.Found.{or_last}

-- of zeros each is one
zeros : (n i : ℕ) → ◌≡◌ {A = ℕ} (get_or (replicate n 0) i 0) 0
zeros zero i = refl
zeros (suc n) zero = refl
zeros (suc n) (suc i) = zeros n i

-- no limit, no key and no tree
pub no_limits : (decls : List Decl) (n : ℕ) → AreLimits decls (replicate n 0)
no_limits decls n = (
  λ storage key below. let none = zeros n storage in absurd (omega arith),
  λ storage is. let none = zeros n storage in absurd (let same : get_or (replicate n 0) storage 0 ≡ tree_limit = is in omega arith),
)

-- the first of two holds
or_first : (x y : Bool) → x ≡ true → (x || y) ≡ true
or_first true y e = refl
or_first false y e = absurd cc

-- a key that is had is had also with one more storage
had_before : (decls : List Decl) (d : Decl) (k : Key) → has_key decls k ≡ true → has_key (decls ++ d ∷ []) k ≡ true
had_before decls d k e = list_any-append (has_key_of k) decls (d ∷ []) ∙ or_first (has_key decls k) (has_key (d ∷ []) k) e

-- one more storage has its keys
had_last : (decls : List Decl) (d : Decl) (k : Key) → has_key_of k d ≡ true → has_key (decls ++ d ∷ []) k ≡ true
had_last decls d k e = list_any-append (has_key_of k) decls (d ∷ []) ∙ or_last (has_key decls k) (has_key (d ∷ []) k) (or_first (has_key_of k d) (has_key [] k) e)

abbrev key_at : ℕ → ℕ → Key
key_at storage key = record { storage = storage; key = key }

-- a tree is one also with one more storage
tree_before : (decls : List Decl) (d : Decl) (storage : ℕ) → is_tree decls storage ≡ true → is_tree (decls ++ d ∷ []) storage ≡ true
tree_before decls d storage e = list_any-append (is_tree_of storage) decls (d ∷ []) ∙ or_first (is_tree decls storage) (is_tree (d ∷ []) storage) e

-- one more tree
tree_last : (decls : List Decl) (d : Decl) (storage : ℕ) → is_tree_of storage d ≡ true → is_tree (decls ++ d ∷ []) storage ≡ true
tree_last decls d storage e =
    list_any-append (is_tree_of storage) decls (d ∷ []) ∙ or_last (is_tree decls storage) (is_tree (d ∷ []) storage) (or_first (is_tree_of storage d) (is_tree [] storage) e)

-- the keys of all storages, with one more
keys_push : (decls : List Decl) (d : Decl) (limits : List ℕ) (limit : ℕ) → AreLimits decls limits → id_of d < length limits → IsLimitOf d limit
    → (storage key : ℕ) → key < get_or (set limits (id_of d) limit) storage 0 → has_key (decls ++ d ∷ []) (key_at storage key) ≡ true
keys_push decls d limits limit are within is storage key below =
    elim (eqb_tells storage (id_of d)) [
      | inl same ↦
          let at : get_or (set limits (id_of d) limit) (id_of d) 0 ≡ limit = get_or-set_same limits (id_of d) limit 0 within in
          let under : key < get_or (set limits (id_of d) limit) (id_of d) 0 = subst (λ (s : ℕ). key < get_or (set limits (id_of d) limit) s 0) same.1 below in
          subst (λ (s : ℕ). has_key (decls ++ d ∷ []) (key_at s key) ≡ true) (sym same.1) (had_last decls d (key_at (id_of d) key) (is.0 key (subst (λ (l : ℕ). key < l) at under)))
      | inr other ↦
          let at : get_or (set limits (id_of d) limit) storage 0 ≡ get_or limits storage 0 = get_or-set_other limits (id_of d) storage limit 0 other.1 in
          had_before decls d (key_at storage key) (are.0 storage key (subst (λ (l : ℕ). key < l) at below))
    ]

-- the trees among them
trees_push : (decls : List Decl) (d : Decl) (limits : List ℕ) (limit : ℕ) → AreLimits decls limits → id_of d < length limits → IsLimitOf d limit
    → (storage : ℕ) → get_or (set limits (id_of d) limit) storage 0 ≡ tree_limit → is_tree (decls ++ d ∷ []) storage ≡ true
trees_push decls d limits limit are within is storage top =
    elim (eqb_tells storage (id_of d)) [
      | inl same ↦
          let at : get_or (set limits (id_of d) limit) (id_of d) 0 ≡ limit = get_or-set_same limits (id_of d) limit 0 within in
          let here : get_or (set limits (id_of d) limit) (id_of d) 0 ≡ tree_limit = subst (λ (s : ℕ). get_or (set limits (id_of d) limit) s 0 ≡ tree_limit) same.1 top in
          subst (λ (s : ℕ). is_tree (decls ++ d ∷ []) s ≡ true) (sym same.1) (tree_last decls d (id_of d) (is.1 (sym at ∙ here)))
      | inr other ↦
          let at : get_or (set limits (id_of d) limit) storage 0 ≡ get_or limits storage 0 = get_or-set_other limits (id_of d) storage limit 0 other.1 in
          tree_before decls d storage (are.1 storage (sym at ∙ top))
    ]

-- one more storage, with its limit
pub limits_push : (decls : List Decl) (d : Decl) (limits : List ℕ) (limit : ℕ) → AreLimits decls limits → id_of d < length limits → IsLimitOf d limit
    → AreLimits (decls ++ d ∷ []) (set limits (id_of d) limit)
limits_push decls d limits limit are within is = (keys_push decls d limits limit are within is, trees_push decls d limits limit are within is)
