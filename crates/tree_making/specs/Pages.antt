-- What it comes to that one page of a tree is put in below a pointer.
use Rattle.std.specs.Prelude.{◌≡◌, ◌≢◌, ◌⊎◌, ℕ, ◌+◌, ◌<◌, ◌≤◌, true, false, List, [], ◌∷◌, Result, Ok, Err, Some, None, IfErr, OnOk}
use Rattle.std.specs.Prelude.{length}
use Rattle.serial_model.specs.declared.key.Key.{Key}
use Rattle.homes.specs.declared.places.Span.{Span}
use Rattle.drop_core.specs.Table.{has_slot}
use Rattle.tx_sets.specs.declared.seen.Seen.{Seen}
use Rattle.tx_sets.specs.Entries.{word_at}
use Rattle.engine_pages.specs.declared.view.NewInner.{NewInner}
use Rattle.engine_pages.specs.declared.view.NewLeaf.{NewLeaf}
use Rattle.engine_pages.specs.declared.view.RefusalCause.{RefusalCause}
use Rattle.engine_pages.specs.declared.view.RefusalCause.TheVariants as causes
use Rattle.engine_pages.specs.declared.view.View.{View}
use Rattle.engine_pages.specs.Pages.{is_tree}
use Rattle.engine_pages.specs.Pointers.{HasFollowed, StandsFor}
use Rattle.engine_pages.specs.Slots.{other_inners, other_leaves}
use Rattle.engine_pages.specs.Steps.{seen_at}
use Rattle.dual_pointer.specs.Copies.{IsLeadOf}
use Rattle.dual_pointer.specs.Installs.{IsInnerFor, IsLeafFor}
use Rattle.array_pages.specs.Snapshots.{CanLook}
use Rattle.tree_walks.specs.declared.ways.Bare.{Bare}
use Rattle.tree_walks.specs.Walks.{AreLedTo, OnlyWaysOn}
use Rattle.tree_walks.specs.Ways.{IsOnWay}
use Rattle.serial_model.specs.Decls.{AreDecls}
use Rattle.foster_tree.specs.Splitting.{HasMadeNothing}
use Rattle.tree_making.specs.Making.{RefusesMake, Worked}

-- ---- a page that is made

-- The published page with this number, if it is one, stands for these keys of a tree; the pass has nothing else under
-- way.
pub record CanMakePage (v : View) (sp : Span) (n : ℕ) : Type 0 where
  pub look : CanLook v
  pub nothing_made : HasMadeNothing v
  pub tree : is_tree v.layout.decls sp.storage ≡ true
  pub declared : AreDecls v.layout.decls
  pub there : n ≤ length v.pages
  pub stands : 0 < n → StandsFor v.layout.decls v.pages sp n
  pub lead : IsLeadOf v sp n

-- the view v with what a page in slot t changes as w has it, where these leaves and interior pages were published
abbrev pub as_paged : ℕ → List NewLeaf → List NewInner → View → View → View
as_paged t leaves inners v w = record v {
  steps = w.steps;
  last = w.last;
  looked = w.looked;
  grip = record v.grip { made = t ∷ [] };
  new_leaves = leaves;
  new_inners = inners;
}

-- The pass was given the slot, which it didn't hold, and has published its page as that of the published page with this
-- number, or as an empty leaf for 0: a search and a compare_exchange, at most two steps for each word, a load, and the
-- publish.
pub record HasPage (t : ℕ) (sp : Span) (n : ℕ) (v w : View) : Type 0 where
  pub there : t < v.layout.slots
  pub unheld : has_slot v.grip.holds t ≡ false
  pub since : v.steps ≤ w.steps
  pub most : w.steps ≤ v.steps + (v.layout.slots + 131)
  pub leaves : List NewLeaf
  pub inners : List NewInner
  pub no_leaf : other_leaves t leaves ≡ []
  pub no_inner : other_inners t inners ≡ []
  pub page : IsLeafFor w sp t n ⊎ IsInnerFor w sp t n
  pub is : w ≡ as_paged t leaves inners v w

-- ---- it is put in

-- a slot that wasn't held is held
pub record HoldsMore (v w : View) : Type 0 where
  pub slot : ℕ
  pub there : slot < v.layout.slots
  pub unheld : has_slot v.grip.holds slot ≡ false
  pub held : has_slot w.grip.holds slot ≡ true

-- The slot is held, and the pointer leads to it; or the pointer had changed, and the slot is given up.
pub record PutsSo
    (k : Key) (pointers headers : List Seen) (bare : Bare) (t : ℕ) (slots : List ℕ)
    (r : Result (Unit {0}) RefusalCause) (v w : View) : Type 0 where
  pub went : Worked (v.layout.slots + 134) slots v w
  pub led : OnOk r (AreLedTo k v w)
  pub paths : OnlyWaysOn k v w
  pub others : (a : ℕ) → a ≢ bare.pointer.at → seen_at w.reads a ≡ seen_at v.reads a
  pub left : OnOk r ((n : ℕ) × (seen_at w.reads bare.pointer.at ≡ Some n))
  pub more : OnOk r (HoldsMore v w)
  pub on : OnOk r (IsOnWay k w t bare.span)
  pub cause : IfErr r (λ why. RefusesMake k pointers headers slots why v w)

-- ---- and the pointer is looked at once more, where the set has it

-- The set doesn't have the pointer, and nothing was done; or it was loaded once more, and is as the set has it, or
-- isn't.
abbrev pub ChecksSo : List Seen → Span → ℕ → Result (Unit {0}) RefusalCause → View → View → Type 0
ChecksSo pointers sp at (Ok done) v w =
    ((w ≡ v) × (word_at at pointers ≡ None)) ⊎ ((n : ℕ) × HasFollowed sp at v n w × (word_at at pointers ≡ Some n))
ChecksSo pointers sp at (Err (causes.Conflict other expected seen)) v w =
    (other ≡ at) × HasFollowed sp at v seen w × (word_at at pointers ≡ Some expected) × (seen ≢ expected)
ChecksSo pointers sp at (Err (causes.Full held)) v w = ⊥
ChecksSo pointers sp at (Err (causes.Wide set)) v w = ⊥
ChecksSo pointers sp at (Err (causes.NumberLimit clock)) v w = ⊥
