-- What loads of pointers tell.
use Rattle.std.specs.Prelude.{◌≡◌, ◌⊎◌, ℕ, zero, suc, ◌+◌, ◌/◌, ◌%◌, ◌^◌, ◌<◌, ◌≤◌, Bool, true, false, List, ◌∷◌}
use Rattle.std.specs.Prelude.{Option, Some, None, length, if◌then◌else◌, nat_lt, Contains, IfSome}
use Rattle.std.proofs.Common.{inl, sym, true≢false}
use Rattle.atomic_table.specs.Table.{Step}
use Rattle.lists.specs.Fronts.{IsFront}
use Rattle.serial_model.specs.declared.decl.Decl.{Decl}
use Rattle.serial_model.specs.declared.decl.Decl.TheVariants.{Array, Tree}
use Rattle.serial_model.specs.Keys.{id_of}
use Rattle.homes.specs.declared.places.At.{At}
use Rattle.homes.specs.declared.places.At.TheVariants.{Root, In}
use Rattle.homes.specs.declared.places.Span.{Span}
use Rattle.homes.specs.declared.places.Spot.{Spot}
use Rattle.drop_core.specs.Table.{has_slot}
use Rattle.engine_pages.specs.declared.view.Inner.{Inner}
use Rattle.engine_pages.specs.declared.view.Lead.{Lead}
use Rattle.engine_pages.specs.declared.view.View.{View}
use Rattle.engine_pages.specs.declared.view.Way.{Way}
use Rattle.engine_pages.specs.Agreement.{TreesAgree}
use Rattle.engine_pages.specs.Layout.{root_at, page_at}
use Rattle.engine_pages.specs.Pages.{is_array, is_array_kind, is_tree, is_tree_kind, is_leaf_span, child_span}
use Rattle.engine_pages.specs.Pages.{part_between, root_span}
use Rattle.engine_pages.specs.Resident.{IsStanding, place_for}
use Rattle.engine_pages.specs.Steps.{IsLoad, read_at}

-- a pointer of an array's interior page that the pass holds, over these keys, whose word is here
pub record IsChildAt (v : View) (y : Spot) (sp : Span) (at : ℕ) : Type 0 where
  pub way : Way
  pub has : Contains v.ways way
  pub slot : way.slot ≡ y.slot
  pub kind : is_array v.layout.decls way.span.storage ≡ true
  pub inner : is_leaf_span way.span ≡ false
  pub index : y.index < 64
  pub span : sp ≡ child_span way.span y.index
  pub word : at ≡ page_at v.layout.slots y.slot y.index

-- a pointer of a tree's interior page that the pass holds and whose separators it knows, over these keys, whose word is
-- here
pub record IsBranchAt (v : View) (y : Spot) (sp : Span) (at : ℕ) : Type 0 where
  pub way : Way
  pub has : Contains v.ways way
  pub slot : way.slot ≡ y.slot
  pub kind : is_tree v.layout.decls way.span.storage ≡ true
  pub inner : Inner
  pub knows : Contains v.inners inner
  pub same : inner.slot ≡ y.slot
  pub index : y.index ≤ length inner.separators
  pub span : sp ≡ part_between way.span inner.separators y.index
  pub word : at ≡ page_at v.layout.slots y.slot (4 + y.index)

-- the pointer at this place is over these keys, and its word is here
abbrev pub IsPointerAt : View → At → Span → ℕ → Type 0
IsPointerAt v (Root r) sp at = (r < length v.layout.decls) × (sp ≡ root_span v.layout.decls r) × (at ≡ root_at r)
IsPointerAt v (In y) sp at = IsChildAt v y sp at ⊎ IsBranchAt v y sp at

-- the pointer is a root's, or one of an array's page
abbrev pub IsArrayPointerAt : View → At → Span → ℕ → Type 0
IsArrayPointerAt v (Root r) sp at = (r < length v.layout.decls) × (sp ≡ root_span v.layout.decls r) × (at ≡ root_at r)
IsArrayPointerAt v (In y) sp at = IsChildAt v y sp at

-- it is one of all pointers
pub any_pointer : (v : View) (x : At) (sp : Span) (at : ℕ) → IsArrayPointerAt v x sp at → IsPointerAt v x sp at
any_pointer v (Root r) sp at is = is
any_pointer v (In y) sp at is = inl is

-- no storage is an array and a tree
pub one_kind : (o : Option Decl) → is_array_kind o ≡ true → is_tree_kind o ≡ true → ⊥
one_kind None array tree = true≢false (sym array)
one_kind (Some (Array id size)) array tree = true≢false (sym tree)
one_kind (Some (Tree id)) array tree = true≢false (sym array)

-- ---- what a pointer's word says

-- the slot with this field
abbrev pub slot_half : ℕ → Option ℕ
slot_half zero = None
slot_half (suc t) = Some t

-- nobody has shut the pointer
abbrev pub is_open_word : ℕ → Bool
is_open_word n = nat_lt n (2 ^ 60)

-- the slot of a pointer that isn't shut
abbrev pub half_of : ℕ → Option ℕ
half_of n = if is_open_word n then slot_half (n / 2 ^ 32) else None

-- the number of the snapshot page
abbrev pub page_half : ℕ → ℕ
page_half n = n % 2 ^ 32

-- ---- a pointer is followed

-- one way more, where the slot is held
abbrev pub ways_if : Bool → ℕ → Span → List Way → List Way
ways_if true t sp ways = record { slot = t; span = sp } ∷ ways
ways_if false t sp ways = ways

-- the same, if there is a slot
abbrev pub ways_more : List ℕ → Option ℕ → Span → List Way → List Way
ways_more holds None sp ways = ways
ways_more holds (Some t) sp ways = ways_if (has_slot holds t) t sp ways

-- one more page, which has this name, is known to stand for these keys, where the pointer is open
abbrev pub leads_more : Bool → Span → ℕ → ℕ → List Lead → List Lead
leads_more true sp n name leads = record { span = sp; page = n; name = name } ∷ leads
leads_more false sp n name leads = leads

-- The pointer was loaded: where it leads to a slot that the pass holds, that slot's page is over the pointer's keys,
-- and the page that it names stands for them; all published pages are known.
abbrev pub followed : ℕ → Span → ℕ → ℕ → List (List ℕ) → View → View
followed at sp n name pages v = record (read_at at n v) {
  ways = ways_more v.grip.holds (half_of n) sp v.ways;
  pages = pages;
  leads = leads_more (is_open_word n) sp (page_half n) name v.leads;
}

-- two ways into one slot are over the same keys, and those of an interior page lead to the same parts of them
abbrev pub WaysAgree : List Way → Type 0
WaysAgree ways = (a b : Way) → Contains ways a → Contains ways b → a.slot ≡ b.slot
    → (a.span.storage ≡ b.span.storage) × (a.span.low ≡ b.span.low) × (is_leaf_span a.span ≡ is_leaf_span b.span)
    × (is_leaf_span a.span ≡ false → (j : ℕ) → j < 64 → child_span a.span j ≡ child_span b.span j)

-- the page with this number, which is there, stands for these keys of a declared storage
abbrev pub StandsFor : List Decl → List (List ℕ) → Span → ℕ → Type 0
StandsFor decls pages sp n = (decl : Decl) × (id_of decl ≡ sp.storage) × IsStanding decls pages (decl, place_for sp n)

-- what the load tells
pub record HasFollowed (sp : Span) (at : ℕ) (v : View) (n : ℕ) (w : View) : Type 0 where
  pub pages : List (List ℕ)
  pub front : IsFront v.pages pages
  pub few : length pages ≤ v.layout.resident
  pub most : length pages ≤ 65536
  pub there : is_open_word n ≡ true → page_half n ≤ length pages
  pub stands : is_open_word n ≡ true → 0 < page_half n → StandsFor v.layout.decls pages sp (page_half n)
  pub slot : IfSome (half_of n) (λ t. t < v.layout.slots)
  pub name : ℕ
  pub is : w ≡ followed at sp n name pages v
  pub agree : WaysAgree w.ways
  pub trees : TreesAgree w

-- the same of the step
abbrev pub Follows : Span → Step (Unit {0}) → View → ℕ → View → Type 0
Follows sp s v n w = IsLoad s × HasFollowed sp s.word v n w
