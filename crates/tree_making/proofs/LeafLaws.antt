-- Where a key stands in the leaf in memory that it belongs to.
use Rattle.std.proofs.Common.{◌≡◌, ℕ, ◌+◌, ◌*◌, ◌<◌, ◌≤◌, true, false, List, refl, sym, ◌∙◌, subst, arith, Some}
use Rattle.std.specs.Prelude.{Ok, Err}
use Rattle.std.specs.List.{slice_get}
use Rattle.lists.specs.Elements.{at_below}
use Rattle.serial_model.specs.declared.key.Key.{Key}
use Rattle.homes.specs.Homes.{has_key}
use Rattle.tx_sets.specs.declared.seen.Seen.{Seen}
use Rattle.engine_pages.specs.declared.view.RefusalCause.{RefusalCause}
use Rattle.engine_pages.specs.declared.view.View.{View}
use Rattle.engine_pages.specs.Layout.{page_at}
use Rattle.engine_pages.specs.Pages.{is_tree}
use Rattle.engine_pages.specs.Words.{spot}
use Rattle.array_pages.specs.Finding.{HasGlanced}
use Rattle.foster_tree.proofs.AddLaws.{storage_of}
use Rattle.tree_walks.specs.declared.ways.Leaf.{Leaf}
use Rattle.tree_walks.specs.Ways.{IsLeafOn}
use Rattle.tree_walks.proofs.KeepLaws.{keeps_glanced}
use Rattle.tree_walks.proofs.LoadLaws.{glanced_grip, glanced_walked, glanced_went}
use Rattle.tree_walks.proofs.PathLaws.{paths_glanced}
use Rattle.tree_walks.proofs.StepLaws.{led_none, on_stays}
use Rattle.tree_walks.proofs.WayLaws.{leaf_on_glanced, leaf_stays, record_stays}
use Rattle.tree_making.specs.declared.making.Made.{Made}
use Rattle.tree_making.specs.declared.making.Made.TheVariants as mades
use Rattle.tree_making.specs.Making.{IsMade, MakesSo}
use Rattle.tree_making.proofs.MakeLaws.{makes_on, worked_walk}

-- an index that was found is one of a record
pub found_below : (k : Key) (headers : List Seen) (x : Leaf) (index : ℕ) (v : View) → (l : IsLeafOn k headers x v)
    → slice_get l.leaf.keys index ≡ Some k → index < 16
found_below k headers x index v l at =
    let less = at_below l.leaf.keys index k at in let few = l.leaf.few in omega (arith, less, few)

-- its record
pub found_made : (k : Key) (headers : List Seen) (x : Leaf) (index place : ℕ) (v w : View) → HasGlanced v w
    → (l : IsLeafOn k headers x v) → slice_get l.leaf.keys index ≡ Some k
    → place ≡ page_at v.layout.slots x.slot ((16 + 3 * index) + 1) → IsMade k headers (mades.Record place) w
found_made k headers x index place v w g l at stands = (
  spot x.slot index,
  x.span,
  on_stays k v w x.slot x.span (glanced_walked v w g) l.leaf.on,
  record_stays v w k (spot x.slot index) place (glanced_walked v w g) record {
    way = record { slot = x.slot; span = x.span };
    has = l.leaf.on.way;
    slot = refl;
    leaf = record { slot = x.slot; keys = l.leaf.keys };
    knows = l.leaf.knows;
    same = refl;
    there = l.leaf.on.there;
    index = found_below k headers x index v l at;
    kind = subst (λ (j : ℕ). is_tree v.layout.decls j ≡ true) (sym (storage_of x.span k l.leaf.on.over)) l.leaf.on.tree;
    key = at;
    word = stands ∙ (let e : page_at v.layout.slots x.slot ((16 + 3 * index) + 1)
        ≡ page_at v.layout.slots x.slot (1 + (16 + 3 * index)) = omega arith in e);
  },
  record {
    word = x.header;
    saw = (leaf_on_glanced k headers x v w (glanced_walked v w g) g l).met;
    unsplit = l.leaf.small;
  },
)

-- or none
pub lacking_made : (k : Key) (headers : List Seen) (x : Leaf) (v w : View) → HasGlanced v w
    → (l : IsLeafOn k headers x v) → has_key l.leaf.keys k ≡ false → IsMade k headers (mades.Lacking x) w
lacking_made k headers x v w g l none =
    let late = leaf_on_glanced k headers x v w (glanced_walked v w g) g l in (
      record { leaf = leaf_stays k x v w (glanced_walked v w g) l.leaf; met = late.met; set = late.set },
      none,
    )

-- the whole, behind the way to the leaf
pub leaf_done : (b : ℕ) (k : Key) (pointers headers : List Seen) (slots : List ℕ) (x : Leaf) (m : Made) (v u w : View)
    → MakesSo b k pointers headers slots (IsLeafOn k headers) (Ok x) v u → HasGlanced u w → w.steps ≤ u.steps + 16
    → IsMade k headers m w → MakesSo (b + 16) k pointers headers slots (IsMade k headers) (Ok m) v w
leaf_done b k pointers headers slots x m v u w makes g most made =
    makes_on b 16 (b + 16) k pointers headers slots slots (IsMade k headers) (IsMade k headers) m m v u w (omega arith)
    makes.went makes.led makes.paths makes.keeps
    record {
      went = worked_walk 16 slots slots u w makes.went.can (glanced_went 16 slots u w makes.went.can.walks g most);
      led = led_none k u w (glanced_grip u w g);
      keeps = keeps_glanced pointers headers u w g;
      paths = paths_glanced k u w g;
      came = made;
      cause = tt;
    }
    made

-- what was refused is refused by a greater bound
pub refused_more : {A B : Type 0} (b most : ℕ) (k : Key) (pointers headers : List Seen) (slots : List ℕ)
    (comes : A → View → Type 0) (ends : B → View → Type 0) (why : RefusalCause) (v w : View) → b ≤ most
    → MakesSo b k pointers headers slots comes (Err why) v w → MakesSo most k pointers headers slots ends (Err why) v w
refused_more b most k pointers headers slots comes ends why v w few h = record {
  went = record {
    can = h.went.can;
    walked = h.went.walked;
    most = let one = h.went.most in omega (arith, few, one);
    kept = h.went.kept;
    words = h.went.words;
    met = h.went.met;
  };
  led = tt;
  keeps = tt;
  paths = h.paths;
  came = tt;
  cause = h.cause;
}
