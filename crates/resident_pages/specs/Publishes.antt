-- What claiming pages, filling the new ones of a snapshot, and publishing them with names, asks and tells.
use Rattle.std.specs.Prelude.{◌≡◌, ◌≢◌, ℕ, suc, ◌+◌, ◌<◌, ◌≤◌, List, [], ◌++◌, map, take, length, get_or}
use Rattle.std.specs.Prelude.{slice_get, Some, Contains}
use Rattle.std.specs.List.{AllByRecursion}
use Rattle.serial_model.specs.declared.decl.Decl.{Decl}
use Rattle.wire_form.specs.declared.records.Stored.{Stored}
use Rattle.snapshot_store.specs.declared.place.PagePlace.{PagePlace}
use Rattle.snapshot_store.specs.Content.{RootStands}
use Rattle.engine_pages.specs.declared.view.Filled.{Filled}
use Rattle.engine_pages.specs.declared.view.View.{View}
use Rattle.engine_pages.specs.Layout.{published_at}
use Rattle.engine_pages.specs.Steps.{glanced}
use Rattle.resident_pages.specs.Extends.{CanName, IsFilledWith, lead_of}
use Rattle.resident_pages.specs.Fills.{HasPage}

-- ---- pages are claimed

-- the pass changed but pages that are its own to fill, and what it loaded last
abbrev pub OnlyFilled : View → View → Type 0
OnlyFilled v w = w ≡ record v { steps = w.steps; last = w.last; fills = w.fills }

-- so many pages behind those that the pass knew are its own to fill
pub record AreClaimedTo (count : ℕ) (v w : View) : Type 0 where
  pub only : OnlyFilled v w
  pub has : (n : ℕ) → length v.pages < n → n ≤ length v.pages + count → HasPage w n
  pub long : (x : Filled) → Contains w.fills x → length x.words ≡ 64

-- The pass loaded the count of published pages last, and there are more than it knew.
pub record HasFoundMore (v w : View) : Type 0 where
  pub count : ℕ
  pub more : length v.pages < count
  pub before : View
  pub saw : w ≡ glanced published_at count before

-- ---- pages are filled

-- The page is the keeper's to fill, and its first words, so many, are these; other pages are its own as they were.
pub record IsFilledUpTo (n count : ℕ) (words : List ℕ) (v w : View) : Type 0 where
  pub later : v.steps ≤ w.steps
  pub only : OnlyFilled v w
  pub has : HasPage w n
  pub same : (y : Filled) → Contains w.fills y → y.page ≡ n
      → (length y.words ≡ 64) × ((j : ℕ) → j < count → get_or y.words j 0 ≡ get_or words j 0)
  pub kept : (y : Filled) → Contains v.fills y → y.page ≢ n → Contains w.fills y
  pub from : (y : Filled) → Contains w.fills y → y.page ≢ n → Contains v.fills y

-- so many of these pages, behind those that the pass knows, are the keeper's and have these words
pub record AreFilled (count : ℕ) (pages : List (List ℕ)) (v w : View) : Type 0 where
  pub later : v.steps ≤ w.steps
  pub only : OnlyFilled v w
  pub filled : (j : ℕ) → j < count → IsFilledWith w (suc (length v.pages + j)) (get_or pages j [])

-- ---- they are published

-- each of these places may get its name, in this order, where these pages stand behind those that the pass knows
abbrev pub CanNameAll : List (List ℕ) → List (Decl × PagePlace) → View → Type 0
CanNameAll new names v =
    (i : ℕ) (e : Decl × PagePlace) → slice_get names i ≡ Some e → CanName v (v.pages ++ new) (take i names) e

-- These pages are published behind those that the pass knew, and these places have names.
pub record HasPublished (new : List (List ℕ)) (names : List (Decl × PagePlace)) (v w : View) : Type 0 where
  pub name : Decl × PagePlace → ℕ
  pub is : w ≡ record v {
    steps = w.steps;
    last = w.last;
    pages = v.pages ++ new;
    leads = map (lead_of name) names ++ v.leads;
    fills = w.fills;
  }

-- ---- the pages of a snapshot

-- The storages with these roots are declared, and the roots, and all that they lead to, are pages for their ranges.
pub record IsSnapshot (pages : List (List ℕ)) (decls : List Decl) (ss : List Stored) : Type 0 where
  pub declared : (s : Stored) → Contains ss s → Contains decls s.decl
  pub stand : AllByRecursion (RootStands pages) ss
