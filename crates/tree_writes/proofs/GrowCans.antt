-- What a key that is added to a leaf, or a split, asks of a transaction whose leaf lacks the key.
use Rattle.std.proofs.Common.{◌≡◌, ◌≢◌, ◌%◌, ◌^◌, ◌<◌, ◌≤◌, false, length, refl, sym, ◌∙◌, arith}
use Rattle.serial_model.specs.declared.key.Key.{Key}
use Rattle.homes.specs.Homes.{has_key}
use Rattle.tx_sets.specs.declared.sets.Sets.{Sets}
use Rattle.engine_pages.specs.declared.view.Role.TheVariants.{Keeper, Worker}
use Rattle.engine_pages.specs.declared.view.View.{View}
use Rattle.engine_pages.specs.Views.{IsActive}
use Rattle.page_records.specs.Ends.{worker_of}
use Rattle.tree_heads.specs.Headers.{IsTreeAt}
use Rattle.foster_tree.specs.Adding.{CanAddKey, CanGrow}
use Rattle.foster_tree.specs.Splitting.{CanSplitLeaf}
use Rattle.tree_walks.specs.declared.ways.Leaf.{Leaf}
use Rattle.tree_walks.specs.Ways.{IsLeafOn}
use Rattle.page_commit.specs.Live.{IsLive}
use Rattle.page_commit.proofs.DrawLaws.{active_worker}

pub live_active : (sets : Sets) (v : View) → IsLive sets v → IsActive v.role
live_active sets v live = active_worker v.role live.worker

-- the page of the leaf
pub leaf_page : (sets : Sets) (k : Key) (x : Leaf) (v : View) → IsLeafOn k sets.headers x v → IsTreeAt v x.slot x.span
leaf_page sets k x v on = record { way = on.leaf.on.way; tree = on.leaf.on.tree }

pub can_grow : (sets : Sets) (k : Key) (x : Leaf) (v : View) → IsLive sets v → (on : IsLeafOn k sets.headers x v)
    → has_key on.leaf.keys k ≡ false → x.header < 2 ^ 60 → CanGrow v x.slot x.span k x.header
can_grow sets k x v live on lacks open_header = record {
  active = active_worker v.role live.worker;
  worker = λ is. (let role : Keeper ≡ Worker (worker_of v.role) = sym is ∙ live.worker in absurd (cc));
  idle = live.stage;
  unlocked = live.locks;
  opened = live.holds.heads;
  page = leaf_page sets k x v on;
  there = on.leaf.on.there;
  inside = on.leaf.on.over;
  leaf = record { slot = x.slot; keys = on.leaf.keys };
  knows = on.leaf.knows;
  same = refl;
  count = on.leaf.count;
  kind = on.leaf.kind;
  small = open_header;
  new = lacks;
  seen = on.met;
}

pub can_add_key : (sets : Sets) (k : Key) (x : Leaf) (v : View) → IsLive sets v → (on : IsLeafOn k sets.headers x v)
    → has_key on.leaf.keys k ≡ false → x.header < 2 ^ 60 → x.header % 256 ≢ 16 → CanAddKey v x.slot x.span k x.header
unfolding can_grow
can_add_key sets k x v live on lacks open_header few = record {
  grows = can_grow sets k x v live on lacks open_header;
  few =
      let count : length on.leaf.keys ≡ x.header % 2 ^ 8 = on.leaf.count in
      let most : length on.leaf.keys ≤ 16 = on.leaf.few in
      let less : length on.leaf.keys < 16 = omega (arith, count, most, few) in less;
}

pub full_keys : (sets : Sets) (k : Key) (x : Leaf) (v : View) → (on : IsLeafOn k sets.headers x v)
    → x.header % 256 ≡ 16 → length on.leaf.keys ≡ 16
full_keys sets k x v on full =
    let count : length on.leaf.keys ≡ x.header % 2 ^ 8 = on.leaf.count in omega (arith, count, full)

pub can_split_leaf : (sets : Sets) (k : Key) (x : Leaf) (v : View) → IsLive sets v → (on : IsLeafOn k sets.headers x v)
    → has_key on.leaf.keys k ≡ false → x.header < 2 ^ 60 → x.header % 256 ≡ 16
    → CanSplitLeaf sets.holds v x.slot x.span k x.header
unfolding can_grow
can_split_leaf sets k x v live on lacks open_header full = record {
  grows = can_grow sets k x v live on lacks open_header;
  full = full_keys sets k x v on full;
  holds = live.holds.holds;
  took = live.took;
  nothing_made = record {
    made = live.holds.made;
    taken = live.holds.taken;
    drafts = live.holds.drafts;
    copies = live.holds.copies;
    blanks = live.holds.blanks;
    leaves = live.holds.leaves;
    inners = live.holds.inners;
  };
}
