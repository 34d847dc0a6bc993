-- The root of a storage: its keys, its pointer, and what a visit of it asks and tells.
use Rattle.std.proofs.Common.{◌≡◌, ◌≢◌, inl, inr, ℕ, ◌+◌, ◌-◌, ◌*◌, ◌<◌, ◌≤◌, Bool, true, false, cond}
use Rattle.std.proofs.Common.{eqb, eq-eqb, ne_eqb, List, [], ◌∷◌, length, map, Option, Some, None, refl, sym, ap, ◌∙◌, subst, arith}
use Rattle.std.specs.Prelude.{nat_le}
use Rattle.std.specs.List.{AllByRecursion, Contains, slice_get}
use Rattle.std.specs.Option.{option_map_or}
use Rattle.std.proofs.lemmas.Bool.Decides.{nat_tests}
use Rattle.std.proofs.lemmas.List.{append-nil}
use Rattle.lists.specs.Each.{AreDistinct}
use Rattle.lists.specs.Elements.{at_in, in_cases, in_none}
use Rattle.serial_model.specs.declared.decl.Decl.{Decl}
use Rattle.serial_model.specs.declared.decl.Decl.TheVariants.{Array, Tree}
use Rattle.serial_model.specs.Decls.{AreDecls}
use Rattle.serial_model.specs.Keys.{id_of}
use Rattle.homes.specs.declared.places.At.TheVariants.{Root}
use Rattle.homes.specs.declared.places.Span.{Span}
use Rattle.snapshot_store.specs.ArrayPages.{last_at}
use Rattle.snapshot_store.specs.Content.{last_index, root_place}
use Rattle.drop_core.specs.Table.{no_span}
use Rattle.engine_rule.specs.Reading.{span_of}
use Rattle.engine_pages.specs.declared.layout.Layout.{Layout}
use Rattle.engine_pages.specs.declared.view.View.{View}
use Rattle.engine_pages.specs.declared.view.Way.{Way}
use Rattle.engine_pages.specs.Layout.{root_at}
use Rattle.engine_pages.specs.Pages.{decl_of, is_array, is_array_kind, root_span}
use Rattle.dual_pointer.specs.Copies.{IsLeadOf}
use Rattle.page_drops.specs.declared.calls.Dropped.{Dropped}
use Rattle.page_drops.specs.Calls.{CanGoOver, CanVisit, HasVisited, IsLeafNode, IsMiddleNode, IsRootKind, IsRootTreeOf, IsTopNode, IsWayDown}
use Rattle.page_drops.specs.Visits.{MetLeaf, MetMiddle, MetRoot, MetTop, OneHeight, TwoHeights, ThreeHeights, LeftAlone}
use Rattle.page_drops.specs.Visits.{IsHigh, dropped_leaf, dropped_middle, dropped_root, dropped_top, notes_leaf}
use Rattle.page_drops.specs.Visits.{notes_middle, notes_root, notes_top, slots_leaf, slots_middle, slots_root, slots_top}
use Rattle.page_drops.specs.Visits.{swings_leaf, swings_middle, swings_root, swings_top}
use Rattle.page_drops.proofs.Counts.{counted_none}
use Rattle.page_drops.proofs.Goings.{over_self}

-- ---- storages

all_of : (P : ℕ → Type 0) (xs : List Decl) (d : Decl) → AllByRecursion P (map id_of xs) → Contains xs d → P (id_of d)
all_of P [] d all has = absurd (in_none d has)
all_of P (x ∷ xs) d all has =
    elim (in_cases d x xs has) [
      | inl e ↦ subst (λ (z : Decl). P (id_of z)) e all.0
      | inr more ↦ all_of P xs d all.1 more
    ]

-- an id is that of one storage
pub decl_in : (decls : List Decl) (d : Decl) → AreDistinct (map id_of decls) → Contains decls d
    → decl_of decls (id_of d) ≡ Some d
decl_in [] d apart has = absurd (in_none d has)
decl_in (x ∷ xs) d apart has =
    elim (in_cases d x xs has) [
      | inl e ↦
          subst (λ (z : Decl). decl_of (x ∷ xs) (id_of z) ≡ Some z) e
          (ap (λ (b : Bool). cond b (Some x) (decl_of xs (id_of x))) (eq-eqb (id_of x) (id_of x) refl))
      | inr more ↦
          ap (λ (b : Bool). cond b (Some x) (decl_of xs (id_of d)))
          (ne_eqb (id_of x) (id_of d) (all_of (λ i. id_of x ≢ i) xs d apart.0 more))
          ∙ decl_in xs d apart.1 more
    ]

-- the kind of the storage with this index
kind_at : (decls : List Decl) (r : ℕ) (d : Decl) → AreDecls decls → slice_get decls r ≡ Some d
    → is_array decls (id_of d) ≡ is_array_kind (Some d)
kind_at decls r d are at = ap is_array_kind (decl_in decls d are.distinct (at_in decls r d at))

pub array_kind : (decls : List Decl) (r id size : ℕ) → AreDecls decls → slice_get decls r ≡ Some (Array id size)
    → is_array decls id ≡ true
array_kind decls r id size are at = kind_at decls r (Array id size) are at

-- the keys of its root
pub span_at : (decls : List Decl) (r : ℕ) (d : Decl) → slice_get decls r ≡ Some d
    → root_span decls r ≡ span_of (id_of d) (root_place d 0)
span_at decls r d at =
    ap (λ (o : Option Decl). option_map_or (λ (d : Decl). span_of (id_of d) (root_place d 0)) o no_span) at

pub tree_apart : (decls : List Decl) (r id : ℕ) → AreDecls decls → slice_get decls r ≡ Some (Tree id)
    → is_array decls (root_span decls r).storage ≡ false
tree_apart decls r id are at =
    ap (λ (sp : Span). is_array decls sp.storage) (span_at decls r (Tree id) at) ∙ kind_at decls r (Tree id) are at

le_yes : (a b : ℕ) → a ≤ b → nat_le a b ≡ true
le_yes a b h = grind (arith, nat_tests)

le_no : (a b : ℕ) → b < a → nat_le a b ≡ false
le_no a b h = grind (arith, nat_tests)

last_small : (size : ℕ) → size ≤ 32 → last_index size ≡ 31
last_small size small = ap (λ (b : Bool). cond b 31 (cond (nat_le size 2048) 2047 131071)) (le_yes size 32 small)

last_middle : (size : ℕ) → 32 < size → size ≤ 2048 → last_index size ≡ 2047
last_middle size more few =
    ap (λ (b : Bool). cond b 31 (cond (nat_le size 2048) 2047 131071)) (le_no size 32 more)
    ∙ ap (λ (b : Bool). cond b 2047 131071) (le_yes size 2048 few)

last_large : (size : ℕ) → 2048 < size → last_index size ≡ 131071
last_large size more =
    ap (λ (b : Bool). cond b 31 (cond (nat_le size 2048) 2047 131071)) (le_no size 32 (omega (arith, more)))
    ∙ ap (λ (b : Bool). cond b 2047 131071) (le_no size 2048 more)

-- the keys of a storage from the first one on, so many
abbrev pub first_keys : ℕ → ℕ → Span
first_keys id count = record { storage = id; low = 0; high = count - 1 }

-- the keys up to this one
abbrev keys_to : ℕ → ℕ → Span
keys_to id last = record { storage = id; low = 0; high = last }

pub root_small : (decls : List Decl) (r id size : ℕ) → slice_get decls r ≡ Some (Array id size) → size ≤ 32
    → root_span decls r ≡ first_keys id 32
root_small decls r id size at small =
    span_at decls r (Array id size) at ∙ ap (keys_to id) (last_small size small)

pub root_middle : (decls : List Decl) (r id size : ℕ) → slice_get decls r ≡ Some (Array id size) → 32 < size
    → size ≤ 2048 → root_span decls r ≡ first_keys id 2048
root_middle decls r id size at more few =
    span_at decls r (Array id size) at ∙ ap (keys_to id) (last_middle size more few)

pub root_large : (decls : List Decl) (r id size : ℕ) → slice_get decls r ≡ Some (Array id size) → 2048 < size
    → root_span decls r ≡ first_keys id 131072
root_large decls r id size at more =
    span_at decls r (Array id size) at ∙ ap (keys_to id) (last_large size more)

-- ---- a visit of a root

-- a root's word is in no page
root_outside : (slots r t i : ℕ) → r < 16 → i < 64 → 10 + r ≡ ((32 + slots) + 64 * t) + i → ⊥
root_outside slots r t i few less is = omega (arith, few, is)

pub few_roots : (decls : List Decl) (r : ℕ) → AreDecls decls → r < length decls → r < 16
few_roots decls r are less = let few = are.few in omega (arith, less, few)

can_visit_first : (height r page id count : ℕ) (v : View) → CanGoOver r page v → r < length v.layout.decls
    → root_span v.layout.decls r ≡ first_keys id count → is_array v.layout.decls id ≡ true → count - 1 ≡ 0 + last_at height
    → count ≤ 131072 → CanVisit height (Root r) (first_keys id count) (10 + r) page v
can_visit_first height r page id count v can less span array exact few = record {
  bare = can.bare;
  down = subst (λ (ways : List Way). IsWayDown v.layout.decls height ways) (sym can.ways) tt;
  place = (less, sym span, refl);
  inside = let low = few_roots v.layout.decls r can.declared less in omega (arith, low);
  apart = λ t away i fits is.
      root_outside v.layout.slots r t i (few_roots v.layout.decls r can.declared less) fits is;
  array = array;
  exact = exact;
  high = omega (arith, few);
  there = can.there;
  room = can.room;
  lead = λ some. subst (λ (sp : Span). IsLeadOf v sp page) span (can.lead some);
}

pub can_visit : (height r page id count : ℕ) (sp : Span) (v : View) → CanGoOver r page v → r < length v.layout.decls
    → sp ≡ first_keys id count → root_span v.layout.decls r ≡ first_keys id count → is_array v.layout.decls id ≡ true
    → count - 1 ≡ 0 + last_at height → count ≤ 131072 → CanVisit height (Root r) sp (10 + r) page v
can_visit height r page id count sp v can less same span array exact few =
    subst (λ (z : Span). CanVisit height (Root r) z (10 + r) page v) (sym same)
    (can_visit_first height r page id count v can less span array exact few)

-- ---- what it tells

-- a tree is left alone
pub left_alone : (r page id : ℕ) (before : Dropped) (v : View) → AreDecls v.layout.decls
    → slice_get v.layout.decls r ≡ Some (Tree id)
    → HasVisited MetRoot dropped_root notes_root slots_root swings_root (IsRootTreeOf page r) (root_at r) before v before v
left_alone r page id before v are at = record {
  met = LeftAlone;
  tree = λ roots is. tree_apart v.layout.decls r id are at;
  over = over_self v;
  kept = sym (append-nil v.kept);
  gone = refl;
  swung = sym (append-nil v.swung);
  fresh = λ t has. absurd (in_none t has);
  counts = counted_none before;
  others = λ word other away. refl;
}

-- what was found of the storage with this index is said of the view's storages
pub kind_some : (l : Layout) (v : View) (r : ℕ) (o : Option (ℕ × ℕ)) (id size : ℕ) → v.layout ≡ l → o ≡ Some (id, size)
    → IsRootKind l.decls r o → slice_get v.layout.decls r ≡ Some (Array id size)
kind_some l v r o id size same is kind =
    subst (λ (y : Layout). slice_get y.decls r ≡ Some (Array id size)) (sym same) (subst (IsRootKind l.decls r) is kind)

pub kind_none : (l : Layout) (v : View) (r : ℕ) (o : Option (ℕ × ℕ)) → v.layout ≡ l
    → ((x : ℕ × ℕ) → o ≡ Some x → ⊥) → IsRootKind l.decls r o
    → (id : ℕ) × (slice_get v.layout.decls r ≡ Some (Tree id))
kind_none l v r None same none kind =
    (kind.0, subst (λ (y : Layout). slice_get y.decls r ≡ Some (Tree kind.0)) (sym same) kind.1)
kind_none l v r (Some x) same none kind = absurd (none x refl)

pub index_within : (l : Layout) (v : View) (r : ℕ) → v.layout ≡ l → r < length l.decls → r < length v.layout.decls
index_within l v r same less = subst (λ (y : Layout). r < length y.decls) (sym same) less

module _ (r page id : ℕ) (sp : Span) (before after : Dropped) (v w : View) where
  pub one_height : sp ≡ first_keys id 32 → root_span v.layout.decls r ≡ first_keys id 32
      → HasVisited MetLeaf dropped_leaf notes_leaf slots_leaf swings_leaf (IsLeafNode sp page (10 + r)) (10 + r)
      before v after w
      → HasVisited MetRoot dropped_root notes_root slots_root swings_root (IsRootTreeOf page r) (root_at r) before v after w
  one_height same span h =
      let layout : w.layout ≡ v.layout = ap (λ (x : View). x.layout) h.over.went in
      record {
        met = OneHeight h.met;
        tree = λ roots is. (
          record {
            at = h.tree.at;
            span = h.tree.span ∙ (same ∙ (sym span ∙ ap (λ (l : Layout). root_span l.decls r) (sym layout)));
            page = h.tree.page ∙ sym is;
          },
          subst (λ (z : Span). IsHigh z 0) (sym (h.tree.span ∙ same)) refl,
          h.tree.noted,
          h.tree.tree,
        );
        over = h.over;
        kept = h.kept;
        gone = h.gone;
        swung = h.swung;
        fresh = h.fresh;
        counts = h.counts;
        others = h.others;
      }

  pub two_heights : sp ≡ first_keys id 2048 → root_span v.layout.decls r ≡ first_keys id 2048
      → HasVisited MetMiddle dropped_middle notes_middle slots_middle swings_middle (IsMiddleNode sp page (10 + r))
      (10 + r) before v after w
      → HasVisited MetRoot dropped_root notes_root slots_root swings_root (IsRootTreeOf page r) (root_at r) before v after w
  two_heights same span h =
      let layout : w.layout ≡ v.layout = ap (λ (x : View). x.layout) h.over.went in
      record {
        met = TwoHeights h.met;
        tree = λ roots is. (
          record {
            at = h.tree.at;
            span = h.tree.span ∙ (same ∙ (sym span ∙ ap (λ (l : Layout). root_span l.decls r) (sym layout)));
            page = h.tree.page ∙ sym is;
          },
          subst (λ (z : Span). IsHigh z 1) (sym (h.tree.span ∙ same)) refl,
          h.tree.noted,
          h.tree.tree,
        );
        over = h.over;
        kept = h.kept;
        gone = h.gone;
        swung = h.swung;
        fresh = h.fresh;
        counts = h.counts;
        others = h.others;
      }

  pub three_heights : sp ≡ first_keys id 131072 → root_span v.layout.decls r ≡ first_keys id 131072
      → HasVisited MetTop dropped_top notes_top slots_top swings_top (IsTopNode sp page (10 + r)) (10 + r)
      before v after w
      → HasVisited MetRoot dropped_root notes_root slots_root swings_root (IsRootTreeOf page r) (root_at r) before v after w
  three_heights same span h =
      let layout : w.layout ≡ v.layout = ap (λ (x : View). x.layout) h.over.went in
      record {
        met = ThreeHeights h.met;
        tree = λ roots is. (
          record {
            at = h.tree.at;
            span = h.tree.span ∙ (same ∙ (sym span ∙ ap (λ (l : Layout). root_span l.decls r) (sym layout)));
            page = h.tree.page ∙ sym is;
          },
          subst (λ (z : Span). IsHigh z 2) (sym (h.tree.span ∙ same)) refl,
          h.tree.noted,
          h.tree.tree,
        );
        over = h.over;
        kept = h.kept;
        gone = h.gone;
        swung = h.swung;
        fresh = h.fresh;
        counts = h.counts;
        others = h.others;
      }
