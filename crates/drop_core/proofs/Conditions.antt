-- The conditions of Install and Swing, as facts of all keys.
use Rattle.std.proofs.Common.{◌≡◌, ℕ, ◌≤◌, ◌⊎◌, true, false, List, Some, None}
use Rattle.serial_model.specs.declared.key.Key.{Key}
use Rattle.homes.specs.declared.places.Spot.{Spot}
use Rattle.homes.specs.declared.places.At.{At}
use Rattle.homes.specs.declared.places.Span.{Span}
use Rattle.homes.specs.declared.places.Home.{Home}
use Rattle.homes.specs.declared.places.Home.TheVariants.{InSlot, Nowhere}
use Rattle.homes.specs.Homes.{has_key, in_span}
use Rattle.drop_core.specs.declared.table.Led.TheVariants.{Never, From}
use Rattle.drop_core.specs.declared.table.SlotState.TheVariants.{Published}
use Rattle.drop_core.specs.declared.table.Page.TheVariants.{Leaf, Inner}
use Rattle.drop_core.specs.declared.event.Twins.{Twins}
use Rattle.drop_core.specs.declared.table.Table.{Table}
use Rattle.drop_core.specs.Table.{slot_of, page_of, pointer_of, has_slot, snap_home, has_pointer, is_live, is_last}
use Rattle.drop_core.specs.Event.{each_once, child, is_in, leaf_keys, lower_span, upper_span}

-- The leaf with these keys stands for page n over the span.
pub record FitsPage (d : Table) (n : ℕ) (span : Span) (keys : List Key) : Type 0 where
  pub once : each_once keys ≡ true
  pub within : (k : Key) → has_key keys k ≡ true → in_span span k ≡ true
  pub none : (k : Key) → in_span span k ≡ true → has_key keys k ≡ false → snap_home d n k ≡ Nowhere

-- a leaf may be installed
pub record CanInstall (d : Table) (x : At) (s : ℕ) (keys : List Key) : Type 0 where
  pub live : is_live d x ≡ true
  pub none : (pointer_of d x).slot ≡ None
  pub state : (slot_of d s).state ≡ Published
  pub led : (slot_of d s).led ≡ Never
  pub page : page_of d s ≡ Leaf keys
  pub fits : FitsPage d (pointer_of d x).page (pointer_of d x).span keys

-- each pointer of the page in slot s leads to no slot, and to a page that gives its keys the homes that page n gives them
pub record FitsInner (d : Table) (s n count : ℕ) : Type 0 where
  pub none : (j : ℕ) → has_pointer (Inner count) j ≡ true → (child d s j).slot ≡ None
  pub same : (j : ℕ) (k : Key) → has_pointer (Inner count) j ≡ true → in_span (child d s j).span k ≡ true → snap_home d (child d s j).page k ≡ snap_home d n k

-- an interior page may be installed
pub record CanInstallInner (d : Table) (x : At) (s count : ℕ) : Type 0 where
  pub live : is_live d x ≡ true
  pub none : (pointer_of d x).slot ≡ None
  pub state : (slot_of d s).state ≡ Published
  pub led : (slot_of d s).led ≡ Never
  pub page : page_of d s ≡ Inner count
  pub fits : FitsInner d s (pointer_of d x).page count
  pub published : (j : ℕ) → has_pointer (Inner count) j ≡ true → (child d s j).page ≤ d.published
  pub cover : (k : Key) → in_span (pointer_of d x).span k ≡ true → (j : ℕ) × (has_pointer (Inner count) j ≡ true) × (in_span (child d s j).span k ≡ true)
  pub within : (j : ℕ) (k : Key) → has_pointer (Inner count) j ≡ true → in_span (child d s j).span k ≡ true → in_span (pointer_of d x).span k ≡ true
  pub apart : (i j : ℕ) (k : Key) → has_pointer (Inner count) i ≡ true → has_pointer (Inner count) j ≡ true
      → in_span (child d s i).span k ≡ true → in_span (child d s j).span k ≡ true → i ≡ j

-- a leaf may be dropped for page n
pub record CanSwing (d : Table) (x : At) (n s : ℕ) (keys : List Key) : Type 0 where
  pub live : is_live d x ≡ true
  pub leads : (pointer_of d x).slot ≡ Some s
  pub page : page_of d s ≡ Leaf keys
  pub published : n ≤ d.published
  pub none : (k : Key) → in_span (pointer_of d x).span k ≡ true → has_key keys k ≡ false → snap_home d n k ≡ Nowhere

-- an interior page may be
pub record CanSwingInner (d : Table) (x : At) (n s count : ℕ) : Type 0 where
  pub live : is_live d x ≡ true
  pub leads : (pointer_of d x).slot ≡ Some s
  pub page : page_of d s ≡ Inner count
  pub fits : FitsInner d s n count
  pub published : n ≤ d.published

-- All that hangs on x, the pages of some slots with these keys, may be dropped for page n.
pub record CanDrop (homes : Key → Home) (d : Table) (x : At) (n : ℕ) (gone : List ℕ) (keys : List Key) : Type 0 where
  pub live : is_live d x ≡ true
  pub published : n ≤ d.published
  -- x leads to them, and they lead to each other and to nothing else
  pub outside : is_in gone x ≡ false
  pub leads : (s : ℕ) → (pointer_of d x).slot ≡ Some s → has_slot gone s ≡ true
  pub inside : (y : At) (t : ℕ) → is_in gone y ≡ true → is_live d y ≡ true → (pointer_of d y).slot ≡ Some t → has_slot gone t ≡ true
  pub led : (t : ℕ) → has_slot gone t ≡ true → (y : At) × ((slot_of d t).led ≡ From y) × ((x ≡ y) ⊎ (is_in gone y ≡ true))
  -- the way to each key below x ends at x or in them
  pub ends : (k : Key) → in_span (pointer_of d x).span k ≡ true → (z : At) × (is_last d z ≡ true) × (in_span (pointer_of d z).span k ≡ true) × ((x ≡ z) ⊎ (is_in gone z ≡ true))
  -- the keys are those that have a home in them, and page n gives the others below x the homes that they have
  pub within : (k : Key) → has_key keys k ≡ true → in_span (pointer_of d x).span k ≡ true
  pub all : (k : Key) (y : Spot) → homes k ≡ InSlot y → has_slot gone y.slot ≡ true → has_key keys k ≡ true
  pub rest : (k : Key) → in_span (pointer_of d x).span k ≡ true → has_key keys k ≡ false → homes k ≡ snap_home d n k

-- The leaf below x, over the span, may be split, where its keys go to the two halves.
pub record CanTwin (d : Table) (x : At) (span : Span) (w : Twins) (keys : List Key) : Type 0 where
  pub live : is_live d x ≡ true
  pub leads : (pointer_of d x).slot ≡ Some w.slot
  pub page : page_of d w.slot ≡ Leaf keys
  pub two : w.minor ≡ w.major → ⊥
  pub a_state : (slot_of d w.minor).state ≡ Published
  pub b_state : (slot_of d w.major).state ≡ Published
  pub a_led : (slot_of d w.minor).led ≡ Never
  pub b_led : (slot_of d w.major).led ≡ Never
  pub a_page : page_of d w.minor ≡ Leaf (leaf_keys (page_of d w.minor))
  pub b_page : page_of d w.major ≡ Leaf (leaf_keys (page_of d w.major))
  pub a_once : each_once (leaf_keys (page_of d w.minor)) ≡ true
  pub b_once : each_once (leaf_keys (page_of d w.major)) ≡ true
  pub a_within : (k : Key) → has_key (leaf_keys (page_of d w.minor)) k ≡ true → in_span (lower_span span w.separator) k ≡ true
  pub b_within : (k : Key) → has_key (leaf_keys (page_of d w.major)) k ≡ true → in_span (upper_span span w.separator) k ≡ true
  -- the keys that move are those of both, and the leaf's are among them
  pub a_all : (k : Key) → has_key (leaf_keys (page_of d w.minor)) k ≡ true → has_key w.keys k ≡ true
  pub b_all : (k : Key) → has_key (leaf_keys (page_of d w.major)) k ≡ true → has_key w.keys k ≡ true
  pub parts : (k : Key) → has_key w.keys k ≡ true → (has_key (leaf_keys (page_of d w.minor)) k ≡ true) ⊎ (has_key (leaf_keys (page_of d w.major)) k ≡ true)
  pub old : (k : Key) → has_key keys k ≡ true → has_key w.keys k ≡ true
  -- the two spans tile that of x
  pub cover : (k : Key) → in_span (pointer_of d x).span k ≡ true → (in_span (lower_span span w.separator) k ≡ true) ⊎ (in_span (upper_span span w.separator) k ≡ true)
  pub lower_in : (k : Key) → in_span (lower_span span w.separator) k ≡ true → in_span (pointer_of d x).span k ≡ true
  pub upper_in : (k : Key) → in_span (upper_span span w.separator) k ≡ true → in_span (pointer_of d x).span k ≡ true
  pub apart : (k : Key) → in_span (lower_span span w.separator) k ≡ true → in_span (upper_span span w.separator) k ≡ true → ⊥

-- the leaf in slot s below x takes one more key
pub record CanGrow (d : Table) (x : At) (s : ℕ) (keys : List Key) (k : Key) : Type 0 where
  pub live : is_live d x ≡ true
  pub leads : (pointer_of d x).slot ≡ Some s
  pub page : page_of d s ≡ Leaf keys
  pub inside : in_span (pointer_of d x).span k ≡ true
  pub new : has_key keys k ≡ false
