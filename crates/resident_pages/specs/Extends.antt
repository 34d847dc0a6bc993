-- What the step that raises the count of published pages, or names places of those that are, asks and tells.
use Rattle.std.specs.Prelude.{◌≡◌, ◌⊎◌, ℕ, suc, ◌+◌, ◌<◌, List, [], ◌++◌, map, filter, take, length, get_or, nat_lt}
use Rattle.std.specs.Prelude.{slice_get, Some, Contains}
use Rattle.atomic_table.specs.Table.{Step}
use Rattle.serial_model.specs.declared.decl.Decl.{Decl}
use Rattle.serial_model.specs.Keys.{id_of}
use Rattle.snapshot_store.specs.declared.place.PagePlace.{PagePlace}
use Rattle.snapshot_store.specs.Content.{format_of}
use Rattle.snapshot_store.specs.Places.{places_below}
use Rattle.engine_rule.specs.Reading.{span_of}
use Rattle.engine_pages.specs.declared.view.Filled.{Filled}
use Rattle.engine_pages.specs.declared.view.Lead.{Lead}
use Rattle.engine_pages.specs.declared.view.View.{View}
use Rattle.engine_pages.specs.Layout.{published_at}
use Rattle.engine_pages.specs.Resident.{IsStanding}

-- ---- what it asks

-- the keeper filled the page with this number with these words
abbrev pub IsFilledWith : View → ℕ → List ℕ → Type 0
IsFilledWith v n words = (x : Filled) × Contains v.fills x × (x.page ≡ n) × (x.words ≡ words)

-- A place has no page, or one that has a name before the others of these: it is one of them, or the pass knows that the
-- page stands for its keys.
abbrev pub IsNamedBefore : View → List (Decl × PagePlace) → Decl → PagePlace → Type 0
IsNamedBefore v before decl q =
    (q.number ≡ 0) ⊎ (Contains before (decl, q)
    ⊎ ((x : Lead) × Contains v.leads x × (x.span ≡ span_of (id_of decl) q) × (x.page ≡ q.number)))

-- A page may get a name: it stands at its place, and those below it have names before it.
pub record CanName (v : View) (pages : List (List ℕ)) (before : List (Decl × PagePlace)) (e : Decl × PagePlace)
    : Type 0 where
  pub stands : IsStanding v.layout.decls pages e
  pub below : (q : PagePlace) → Contains (places_below (format_of e.0) pages e.1) q → IsNamedBefore v before e.0 q

-- The pass knows all pages that are published: the next one is its own to fill, or there is room for no more.
abbrev pub KnowsAll : View → Type 0
KnowsAll v = (length v.pages ≡ v.layout.resident)
    ⊎ ((x : Filled) × Contains v.fills x × (x.page ≡ suc (length v.pages)))

-- These pages, if there are any, may be published behind those that the pass knows, and these places get names, in this
-- order.
pub record CanExtend (new : List (List ℕ)) (names : List (Decl × PagePlace)) (v : View) : Type 0 where
  pub all : KnowsAll v
  pub filled : (j : ℕ) → j < length new → IsFilledWith v (suc (length v.pages + j)) (get_or new j [])
  pub named : (i : ℕ) (e : Decl × PagePlace) → slice_get names i ≡ Some e → CanName v (v.pages ++ new) (take i names) e

-- ---- what it tells

-- what is known of a place's page with this name
abbrev pub lead_of : (Decl × PagePlace → ℕ) → Decl × PagePlace → Lead
lead_of name e = record { span = span_of (id_of e.0) e.1; page = (e.1).number; name = name e }

-- more pages are published, and more places have names
abbrev pub extended : (Decl × PagePlace → ℕ) → List (List ℕ) → List (Decl × PagePlace) → View → View
extended name new names v = record v {
  steps = v.steps + 1;
  pages = v.pages ++ new;
  leads = map (lead_of name) names ++ v.leads;
  fills = filter (λ x. nat_lt (length v.pages + length new) x.page) v.fills;
}

-- the same, with names of the machine
abbrev pub HasExtended : List (List ℕ) → List (Decl × PagePlace) → View → View → Type 0
HasExtended new names v w = (name : Decl × PagePlace → ℕ) × (w ≡ extended name new names v)

-- the count of pages that are published is stored, these among them
abbrev pub StoresCount : List (List ℕ) → Step (Unit {0}) → View → ℕ → Type 0
StoresCount new s v n = (s.word ≡ published_at) × (s.first ≡ length v.pages + length new) × (n ≡ s.first)

-- the same of the step
abbrev pub Extends : List (List ℕ) → List (Decl × PagePlace) → Step (Unit {0}) → View → ℕ → View → Type 0
Extends new names s v n w = StoresCount new s v n × HasExtended new names v w
