-- What a call tells that goes over the pages of all storages.
use Rattle.std.specs.Prelude.{◌≡◌, ◌⊎◌, ℕ, ◌+◌, ◌<◌, ◌≤◌, true, false, List, [], ◌∷◌, ◌++◌, length, reverse, get_or}
use Rattle.std.specs.Prelude.{slice_get, Option, None, Some, Contains}
use Rattle.lists.specs.Fronts.{IsFront}
use Rattle.serial_model.specs.declared.decl.Decl.{Decl}
use Rattle.serial_model.specs.declared.decl.Decl.TheVariants.{Array, Tree}
use Rattle.engine_pages.specs.declared.view.KeptPage.{KeptPage}
use Rattle.engine_pages.specs.declared.view.Lead.{Lead}
use Rattle.engine_pages.specs.declared.view.Swung.{Swung}
use Rattle.engine_pages.specs.declared.view.View.{View}
use Rattle.engine_pages.specs.Layout.{root_at}
use Rattle.engine_pages.specs.Pages.{is_tree, root_span}
use Rattle.page_drops.specs.declared.calls.Dropped.{Dropped}
use Rattle.page_drops.specs.Calls.{GoesOver as DropsOver, HasGoneOver as HasGoneRoots, dropped_all, notes_all, slots_all, swings_all}
use Rattle.page_drops.specs.Visits.{MetRoot, LeftAlone, IsRootTree}
use Rattle.page_drops.specs.Works.{SawMore}
use Rattle.tree_drops.specs.Visits.{MetPage, MetPages, NoPages, PageThen, dropped_in, notes_in, slots_in, swings_in}
use Rattle.tree_drops.specs.Visits.{AreMet, AreNoted, GoesOver, HasTallied, HasVisited, IsMet, IsNoted}

-- What was met at one storage's root: a tree's pages, or an array, which is left to page_drops.
pub data MetTree : Type 0 where
  Grown : MetPage → MetPages → MetTree
  NoTree : MetTree

-- what was met at the pointers of a storage, in a row of one
abbrev pub row_of : MetTree → MetPages
row_of (Grown m below) = PageThen m below NoPages
row_of NoTree = NoPages

-- how many pages of trees were dropped
abbrev pub dropped_trees : List MetTree → ℕ
dropped_trees [] = 0
dropped_trees (m ∷ more) = dropped_in (row_of m) + dropped_trees more

-- the notes of those that were kept
abbrev pub notes_trees : List MetTree → List KeptPage
notes_trees [] = []
notes_trees (m ∷ more) = notes_in (row_of m) ++ notes_trees more

-- the slots that were left
abbrev pub slots_trees : List MetTree → List ℕ
slots_trees [] = []
slots_trees (m ∷ more) = slots_in (row_of m) ++ slots_trees more

-- the pointers that were swung
abbrev pub swings_trees : List MetTree → List Swung
swings_trees [] = []
swings_trees (m ∷ more) = swings_in (row_of m) ++ swings_trees more

-- the root's pointer of the storage with this index was met, over all its keys, with the catalogue's page, and seen so
pub record IsRootMet (w : View) (roots : List ℕ) (r epoch : ℕ) (m : MetPage) (below : MetPages) : Type 0 where
  pub tree : is_tree w.layout.decls (root_span w.layout.decls r).storage ≡ true
  pub at : m.at ≡ root_at r
  pub span : m.span ≡ root_span w.layout.decls r
  pub page : m.page ≡ get_or roots r 0
  pub whole : m.half ≡ None
  pub noted : IsNoted w m
  pub met : IsMet w.layout.slots epoch w.pages m below
  pub under : AreMet w.layout.slots epoch w.pages below
  pub notes : AreNoted w (PageThen m below NoPages)

-- what was met at the root with this index, if it is a tree's
abbrev pub IsTreeMet : View → List ℕ → ℕ → ℕ → MetTree → Type 0
IsTreeMet w roots r epoch (Grown m below) = IsRootMet w roots r epoch m below
IsTreeMet w roots r epoch NoTree = is_tree w.layout.decls (root_span w.layout.decls r).storage ≡ false

-- no page is counted yet
abbrev pub none_counted : Dropped
none_counted = record { dropped = 0; kept = 0; first = None }

-- What was met at the roots of all storages, so many, of which the first ones, so many, were gone over for their trees.
-- Each page that a pointer led to, or a leaf that was split, was met once, and is counted once, as dropped or as kept: so
-- many slots were left, so many pointers swung, and so many pages noted as kept.
pub record HasGoneOver (roots : List ℕ) (epoch all n : ℕ) (tally : Dropped) (w : View) : Type 0 where
  pub arrays : List MetRoot
  pub trees : List MetTree
  pub each_array : length arrays ≡ all
  pub each_tree : length trees ≡ n
  pub array : (r : ℕ) → r < all → IsRootTree w roots r (get_or arrays r LeftAlone)
  pub tree : (r : ℕ) → r < n → IsTreeMet w roots r epoch (get_or trees r NoTree)
  pub kept : w.kept ≡ notes_all arrays ++ notes_trees trees
  pub gone : w.gone ≡ reverse (slots_all arrays ++ slots_trees trees)
  pub swung : w.swung ≡ swings_all arrays ++ swings_trees trees
  pub counts : HasTallied none_counted (dropped_all arrays + dropped_trees trees)
      (notes_all arrays ++ notes_trees trees) tally

-- Each storage's root was gone over, and the counts are noted; the pass holds nothing, and no key's content changed,
-- which the rule says of each step.
pub record HasDroppedAll (roots : List ℕ) (epoch : ℕ) (v : View) (tally : Dropped) (w : View) : Type 0 where
  pub over : HasGoneOver roots epoch (length roots) (length roots) tally w
  pub is : w ≡ record v {
    steps = w.steps;
    last = w.last;
    reads = w.reads;
    history = w.history;
    decided = w.decided;
    touched = w.touched;
    loaded = w.loaded;
    known = w.known;
    moved = w.moved;
    inners = w.inners;
    versions = w.versions;
    swung = w.swung;
    copies = w.copies;
    blanks = w.blanks;
    new_leaves = w.new_leaves;
    new_inners = w.new_inners;
    pages = w.pages;
    leads = w.leads;
    gone = w.gone;
    kept = w.kept;
    sealed = [];
    drops = v.drops ++ record { dropped = tally.dropped; kept = tally.kept } ∷ [];
  }
  pub later : v.steps ≤ w.steps
  pub front : IsFront v.pages w.pages
  pub leads : (z : Lead) → Contains v.leads z → Contains w.leads z
  pub more : SawMore v w

-- ---- the parts of a call

-- nothing was left, kept or swung yet, and no header of a split leaf is locked
pub record IsBegun (v : View) : Type 0 where
  pub kept : v.kept ≡ []
  pub gone : v.gone ≡ []
  pub swung : v.swung ≡ []
  pub unsealed : v.sealed ≡ []

-- all arrays were gone over
pub record HasGoneArrays (roots : List ℕ) (v : View) (tally : Dropped) (w : View) : Type 0 where
  pub over : HasGoneRoots roots (length roots) tally w
  pub goes : DropsOver v w

-- and of the trees the first ones
pub record HasGoneTrees (roots : List ℕ) (epoch n : ℕ) (v : View) (tally : Dropped) (w : View) : Type 0 where
  pub over : HasGoneOver roots epoch (length roots) n tally w
  pub goes : GoesOver v w

-- the storage with this index is a tree with this id, or else an array
abbrev pub IsTreeRoot : List Decl → ℕ → Option ℕ → Type 0
IsTreeRoot decls r None = (id : ℕ) × ((size : ℕ) × (slice_get decls r ≡ Some (Array id size)))
IsTreeRoot decls r (Some id) = slice_get decls r ≡ Some (Tree id)

-- The storage with this index is an array, and was left alone; or it is a tree, and its root was visited.
abbrev pub HasVisitedTree : ℕ → ℕ → ℕ → Dropped → View → Dropped → View → Type 0
HasVisitedTree page epoch r old v new w =
    ((new ≡ old) × (w ≡ v) × (is_tree v.layout.decls (root_span v.layout.decls r).storage ≡ false))
    ⊎ (((id : ℕ) × (slice_get v.layout.decls r ≡ Some (Tree id)))
    × HasVisited (root_span v.layout.decls r) (root_at r) page epoch old v new w)
