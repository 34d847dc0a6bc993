-- Of which kind the storages of operations are that fit the declarations.
use Rattle.std.proofs.Common.{◌≡◌, ◌⊎◌, inl, inr, ℕ, Bool, true, false, true≢false, List, [], ◌∷◌, Some, refl, sym}
use Rattle.std.proofs.Common.{ap, ◌∙◌, subst, cond, eqb, eq-eqb, eqb-true}
use Rattle.std.specs.Prelude.{Contains, nat_lt}
use Rattle.std.proofs.lemmas.Bool.{and_parts}
use Rattle.lists.specs.Elements.{any_in, any_is, in_cases, in_head, in_none, in_tail}
use Rattle.serial_model.specs.declared.decl.Decl.{Decl}
use Rattle.serial_model.specs.declared.decl.Decl.TheVariants.{Array, Tree}
use Rattle.serial_model.specs.declared.key.Key.{Key}
use Rattle.serial_model.specs.Decls.{AreDecls}
use Rattle.serial_model.specs.Keys.{has_key, has_key_of, id_of, is_tree_of}
use Rattle.serial_model.specs.Keys.{is_tree as has_tree}
use Rattle.engine_pages.specs.declared.engine.Engine.{Engine}
use Rattle.engine_pages.specs.declared.layout.Layout.{Layout}
use Rattle.engine_pages.specs.Pages.{decl_of, is_array, is_array_kind, is_tree, is_tree_kind}
use Rattle.engine_pages.specs.Passes.{Pass, view, IsPassOf}
use Rattle.array_pages.proofs.DeclLaws.{decl_in}
use Rattle.page_commit.specs.Below.{IsArrayKey}

-- a declaration that has the key has its storage
storage_is : (k : Key) (d : Decl) → has_key_of k d ≡ true → id_of d ≡ k.storage
storage_is k (Array i n) is = eqb-true i k.storage (and_parts (eqb i k.storage) (nat_lt k.key n) is).0
storage_is k (Tree i) is = eqb-true i k.storage is

-- a storage with the key that is no array is a tree
tree_kind : (decls : List Decl) (k : Key) (d : Decl) → Contains decls d → has_key_of k d ≡ true
    → is_array decls k.storage ≡ false → is_tree decls k.storage ≡ true
tree_kind [] k d has of other = absurd (in_none d has)
tree_kind (x ∷ decls) k d has of other =
    by_test (eqb (id_of x) k.storage) refl other (λ later. tree_kind decls k d later of)
  where
    by_kind : (y : Decl) → is_array_kind (Some y) ≡ false → is_tree_kind (Some y) ≡ true
    by_kind (Array i n) none = absurd (true≢false none)
    by_kind (Tree i) none = refl

    by_test : (b : Bool) → eqb (id_of x) k.storage ≡ b
        → is_array_kind (cond b (Some x) (decl_of decls k.storage)) ≡ false
        → (Contains decls d → is_array decls k.storage ≡ false → is_tree decls k.storage ≡ true)
        → is_tree_kind (cond b (Some x) (decl_of decls k.storage)) ≡ true
    by_test true same none behind = by_kind x none
    by_test false apart none behind = elim (in_cases d x decls has) [
      | inl e ↦ absurd (true≢false (sym (eq-eqb (id_of x) k.storage (ap id_of e ∙ storage_is k d of)) ∙ apart))
      | inr later ↦ behind later none
    ]

-- so it is where some storage has the key
pub tree_key : (decls : List Decl) (k : Key) → has_key decls k ≡ true → is_array decls k.storage ≡ false
    → is_tree decls k.storage ≡ true
tree_key decls k has other =
    let found = any_is (has_key_of k) decls has in tree_kind decls k found.0 found.1 found.2 other

-- a storage whose first declaration is a tree's is declared as a tree
pub tree_listed : (decls : List Decl) (id : ℕ) → is_tree decls id ≡ true → has_tree decls id ≡ true
tree_listed [] id tree = absurd (true≢false (sym tree))
tree_listed (x ∷ decls) id tree = by_test (eqb (id_of x) id) refl tree (tree_listed decls id)
  where
    by_kind : (y : Decl) → eqb (id_of y) id ≡ true → is_tree_kind (Some y) ≡ true → is_tree_of id y ≡ true
    by_kind (Array i n) same kind = absurd (true≢false (sym kind))
    by_kind (Tree i) same kind = same

    by_test : (b : Bool) → eqb (id_of x) id ≡ b → is_tree_kind (cond b (Some x) (decl_of decls id)) ≡ true
        → (is_tree decls id ≡ true → has_tree decls id ≡ true) → has_tree (x ∷ decls) id ≡ true
    by_test true same kind behind = any_in (is_tree_of id) (x ∷ decls) x (in_head x decls) (by_kind x same kind)
    by_test false apart kind behind =
        let found = any_is (is_tree_of id) decls (behind kind) in
        any_in (is_tree_of id) (x ∷ decls) found.0 (in_tail found.0 x decls found.1) found.2

-- where each storage is declared once, what is declared as a tree is one
pub listed_tree : (decls : List Decl) (id : ℕ) → AreDecls decls → has_tree decls id ≡ true → is_tree decls id ≡ true
listed_tree decls id are has =
    let found = any_is (is_tree_of id) decls has in by_decl found.0 found.1 found.2
  where
    by_decl : (d : Decl) → Contains decls d → is_tree_of id d ≡ true → is_tree decls id ≡ true
    by_decl (Array i n) among is = absurd (true≢false (sym is))
    by_decl (Tree i) among is =
        subst (λ (n : ℕ). is_tree decls n ≡ true) (eqb-true i id is)
        (ap is_tree_kind (decl_in decls (Tree i) are.distinct among))

-- a key is one of an array, or its storage is declared as a tree
pub kind_of_key : (decls : List Decl) (k : Key) → has_key decls k ≡ true
    → IsArrayKey decls k ⊎ (has_tree decls k.storage ≡ true)
kind_of_key decls k has = by_test (is_array decls k.storage) refl
  where
    by_test : (b : Bool) → is_array decls k.storage ≡ b → IsArrayKey decls k ⊎ (has_tree decls k.storage ≡ true)
    by_test true array = inl (record { has = has; array = array })
    by_test false other = inr (tree_listed decls k.storage (tree_key decls k has other))

-- ---- as a pass knows the declarations

-- a test of the engine's declarations is one of the pass's
pub tested_kind : (e : Engine) (p : Pass) (id : ℕ) (b test : Bool) → IsPassOf e p
    → test ≡ is_array e.table.shared.key.decls id → test ≡ b → is_array (view p).layout.decls id ≡ b
tested_kind e p id b test of is told =
    ap (λ (l : Layout). is_array l.decls id) of.layout ∙ (sym is ∙ told)

-- the key of an array
pub array_key : (e : Engine) (p : Pass) (k : Key) (test : Bool) → IsPassOf e p
    → test ≡ is_array e.table.shared.key.decls k.storage → test ≡ true → has_key (view p).layout.decls k ≡ true
    → IsArrayKey (view p).layout.decls k
array_key e p k test of is told has =
    record { has = has; array = tested_kind e p k.storage true test of is told }

-- the key of a tree
pub key_of_tree : (e : Engine) (p : Pass) (k : Key) (test : Bool) → IsPassOf e p
    → test ≡ is_array e.table.shared.key.decls k.storage → test ≡ false → has_key (view p).layout.decls k ≡ true
    → is_tree (view p).layout.decls k.storage ≡ true
key_of_tree e p k test of is told has =
    tree_key (view p).layout.decls k has (tested_kind e p k.storage false test of is told)
