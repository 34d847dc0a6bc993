-- The declared storages: a tree by its id.
use Rattle.std.proofs.Common.{◌≡◌, ℕ, suc, ◌+◌, ◌-◌, ◌^◌, ◌<◌, Bool, true, false, true≢false, cond, eqb, eqb-true, List, [], ◌∷◌, length}
use Rattle.std.proofs.Common.{refl, sym, ap, ◌∙◌, subst, arith, Option, Some, None, inl}
use Rattle.std.specs.Option.{option_map_or}
use Rattle.std.specs.Prelude.{Contains}
use Rattle.lists.specs.Elements.{at_below}
use Rattle.serial_model.specs.declared.decl.Decl.{Decl}
use Rattle.serial_model.specs.declared.decl.Decl.TheVariants.{Array, Tree}
use Rattle.serial_model.specs.declared.key.Key.{Key}
use Rattle.serial_model.specs.Decls.{AreDecls}
use Rattle.serial_model.specs.Keys.{id_of}
use Rattle.homes.specs.declared.places.Span.{Span}
use Rattle.homes.specs.Homes.{in_span}
use Rattle.homes.specs.Laws.{in_span-from}
use Rattle.drop_core.specs.Table.{no_span}
use Rattle.snapshot_store.specs.Content.{root_place}
use Rattle.engine_rule.specs.Reading.{span_of}
use Rattle.engine_pages.specs.declared.view.View.{View}
use Rattle.engine_pages.specs.Indexes.{index_of}
use Rattle.engine_pages.specs.Pages.{decl_of, is_tree, is_tree_kind, root_span}
use Rattle.array_pages.proofs.DeclLaws.{at_index, decl_in, found_id}
use Rattle.tree_walks.specs.Steps.{HasTree, IsTreeRoot}
use Rattle.tree_walks.specs.Walks.{IsNoHeader, IsTreesWord}

here_at : (d : Decl) (ds : List Decl) (id : ℕ) → id_of d ≡ id → is_tree_kind (Some d) ≡ true → HasTree (d ∷ ds) id
here_at (Array i n) ds id same kind = absurd (true≢false (sym kind))
here_at (Tree i) ds id same kind = (0, record { there = ap (λ j. Some (Tree j)) same })

-- such a tree is there
pub tree_there : (decls : List Decl) (id : ℕ) → is_tree decls id ≡ true → HasTree decls id
tree_there [] id is = absurd (true≢false (sym is))
tree_there (d ∷ ds) id is = by_test (eqb (id_of d) id) refl (λ more. tree_there ds id more)
  where
    by_test : (b : Bool) → eqb (id_of d) id ≡ b → (is_tree ds id ≡ true → HasTree ds id) → HasTree (d ∷ ds) id
    by_test true e rest =
        here_at d ds id (eqb-true (id_of d) id e)
        (subst (λ (b : Bool). is_tree_kind (cond b (Some d) (decl_of ds id)) ≡ true) e is)
    by_test false e rest =
        let more = rest (subst (λ (b : Bool). is_tree_kind (cond b (Some d) (decl_of ds id)) ≡ true) e is) in
        (suc more.0, record { there = more.1.there })

-- the first storage with a tree's id is the tree
pub tree_first : (decls : List Decl) (id : ℕ) → is_tree decls id ≡ true → IsTreeRoot decls id (index_of decls id)
tree_first decls id is = by_found (decl_of decls id) refl is
  where
    by_found : (o : Option Decl) → decl_of decls id ≡ o → is_tree_kind o ≡ true
        → IsTreeRoot decls id (index_of decls id)
    by_found None found kind = absurd (true≢false (sym kind))
    by_found (Some (Array i n)) found kind = absurd (true≢false (sym kind))
    by_found (Some (Tree i)) found kind =
        let same : i ≡ id = found_id decls id (Tree i) found in
        record { there = sym (at_index decls id) ∙ (found ∙ ap (λ (j : ℕ). Some (Tree j)) same) }

-- the keys of its root: all of them
pub root_keys : (decls : List Decl) (id root : ℕ) → IsTreeRoot decls id root
    → root_span decls root ≡ (let s : Span = record { storage = id; low = 0; high = 2 ^ 64 - 1 } in s)
root_keys decls id root at =
    ap (λ (o : Option Decl). option_map_or (λ (d : Decl). span_of (id_of d) (root_place d 0)) o no_span) at.there

pub root_within : (decls : List Decl) (id root : ℕ) → IsTreeRoot decls id root → root < length decls
root_within decls id root at = at_below decls root (Tree id) at.there

pub root_few : (decls : List Decl) (id root : ℕ) → AreDecls decls → IsTreeRoot decls id root → root < 16
root_few decls id root are at =
    let less = root_within decls id root at in let few = are.few in omega (arith, less, few)

pub root_word : (v : View) (id root : ℕ) → is_tree v.layout.decls id ≡ true → IsTreeRoot v.layout.decls id root
    → IsTreesWord v (10 + root)
root_word v id root tree at =
    inl (record {
      root = root;
      there = root_within v.layout.decls id root at;
      tree = ap (λ (s : Span). is_tree v.layout.decls s.storage) (root_keys v.layout.decls id root at) ∙ tree;
      word = refl;
    })

-- it is no header's
pub root_apart : (v : View) (root : ℕ) → root < 16 → IsNoHeader v.layout.slots (10 + root)
root_apart v root few = λ t same. absurd (omega (arith, few, same))

pub root_over : (k : Key) → k.key < 2 ^ 64 → in_span (record { storage = k.storage; low = 0; high = 2 ^ 64 - 1 }) k ≡ true
root_over k less =
    in_span-from (record { storage = k.storage; low = 0; high = 2 ^ 64 - 1 }) k refl (omega arith) (omega (arith, less))

-- a declared storage whose id is a tree's is that tree
pub tree_of : (decls : List Decl) (d : Decl) (id : ℕ) → AreDecls decls → Contains decls d → id_of d ≡ id
    → is_tree decls id ≡ true → (i : ℕ) × (d ≡ Tree i)
tree_of decls d id are has same tree =
    by_decl d (sym (ap is_tree_kind (ap (decl_of decls) (sym same) ∙ decl_in decls d are.distinct has)) ∙ tree)
  where
    by_decl : (d : Decl) → is_tree_kind (Some d) ≡ true → (i : ℕ) × (d ≡ Tree i)
    by_decl (Array i n) kind = absurd (true≢false (sym kind))
    by_decl (Tree i) kind = (i, refl)
