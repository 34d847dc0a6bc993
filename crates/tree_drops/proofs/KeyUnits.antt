-- A key of a leaf of a chain, as a leaf of the snapshot is looked up for it.
use Rattle.std.proofs.Common.{◌≡◌, ℕ, zero, suc, ◌-◌, ◌≤◌, Bool, true, false, ltb, ltb-true, ltb-false, List, Option, Some, None, refl, subst, arith}
use Rattle.std.specs.List.{slice_get}
use Rattle.serial_model.specs.declared.key.Key.{Key}
use Rattle.homes.specs.declared.places.Span.{Span}
use Rattle.engine_pages.specs.declared.view.View.{View}
use Rattle.tree_heads.specs.Headers.{count_of, moved_bit}
use Rattle.tree_drops.specs.declared.belows.StoredLeaf.{StoredLeaf}
use Rattle.tree_drops.specs.declared.records.Leaf.{Leaf}
use Rattle.tree_drops.specs.declared.taking.ChainPage.{ChainPage}
use Rattle.tree_drops.specs.declared.taking.Root.{Root}
use Rattle.tree_drops.specs.Belows.{HasMisshapen, IsLeafOr}
use Rattle.tree_drops.specs.Chains.{split_header}
use Rattle.tree_drops.specs.Leaves.{KnowsKeys}
use Rattle.tree_drops.specs.Taking.{CanTakeKey, CanWorkOn}

-- the leaf by which a key is read
abbrev bare_leaf : Root → ChainPage → Leaf
bare_leaf root page = record {
  slot = page.slot;
  span = page.span;
  count = count_of page.header;
  page = (root.target).page;
  records = 0;
  epoch = (root.target).epoch;
}

pub key_here : (root : Root) (page : ChainPage) (i : ℕ) (v : View) (key : Key) (leaf : Leaf) → leaf ≡ bare_leaf root page
    → ((x : KnowsKeys leaf.slot leaf.span leaf.count v) → slice_get (x.leaf).keys i ≡ Some key)
    → (x : KnowsKeys page.slot page.span (count_of page.header) v) → slice_get (x.leaf).keys i ≡ Some key
key_here root page i v key leaf is h =
    subst (λ (z : Leaf). (x : KnowsKeys z.slot z.span z.count v) → slice_get (x.leaf).keys i ≡ Some key) is h

pub key_store : (root : Root) (page : ChainPage) (key : Key) (leaf : Leaf) → leaf ≡ bare_leaf root page
    → key.storage ≡ (leaf.span).storage → key.storage ≡ (page.span).storage
key_store root page key leaf is h = subst (λ (z : Leaf). key.storage ≡ (z.span).storage) is h

-- where no leaf was found
pub none_misshapen : (pages : List (List ℕ)) (sp : Span) (page key : ℕ) (o : Option StoredLeaf) → ((s : StoredLeaf) → o ≡ Some s → ⊥)
    → IsLeafOr pages sp page key o → HasMisshapen pages
none_misshapen pages sp page key None never h = h
none_misshapen pages sp page key (Some s) never h = absurd (never s refl)

-- a unit of work on a leaf that isn't its header's is on the record before it
pub key_unit : (root : Root) (page : ChainPage) (j : ℕ) (v : View) → CanWorkOn root page j v → (page.header ≡ split_header → ⊥)
    → (j ≡ 0 → ⊥) → j ≤ count_of page.header → CanTakeKey root page (j - 1) v
key_unit root page zero v work whole some most = absurd (some refl)
key_unit root page (suc r) v work whole some most = by_moved (ltb page.header moved_bit) refl
  where
    same : r ≡ suc r - 1
    same = omega arith

    by_moved : (c : Bool) → ltb page.header moved_bit ≡ c → CanTakeKey root page (suc r - 1) v
    by_moved true less =
        subst (λ n. CanTakeKey root page n v) same (work.take r refl (ltb-true page.header moved_bit less) most)
    by_moved false high = absurd (whole (work.split (ltb-false page.header moved_bit high)).0)
