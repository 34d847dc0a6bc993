-- What a load tells that keeps a pointer as a part, which vouches for all keys below it.
use Rattle.std.specs.Prelude.{◌≡◌, ℕ, ◌^◌, ◌<◌, ◌≤◌, true, List, ◌∷◌, length, nat_lt, None, Contains, MatchBool}
use Rattle.atomic_table.specs.Table.{Step}
use Rattle.lists.specs.Fronts.{IsFront}
use Rattle.serial_model.specs.declared.key.Key.{Key}
use Rattle.serial_model.specs.declared.number.Number.{Number}
use Rattle.homes.specs.declared.places.At.{At}
use Rattle.homes.specs.declared.places.Content.{Content}
use Rattle.homes.specs.declared.places.Span.{Span}
use Rattle.homes.specs.Homes.{in_span}
use Rattle.commit_core.specs.declared.attempt.Attempt.{Attempt}
use Rattle.commit_core.specs.declared.part.Part.{Part}
use Rattle.commit_core.specs.declared.part.Version.TheVariants.{Leads}
use Rattle.commit_core.specs.declared.part.Word.TheVariants.{Pointer}
use Rattle.commit_core.specs.Parts.{Vouches, covers, found, with_part}
use Rattle.commit_core.specs.Serial.{last_write}
use Rattle.snapshot_store.specs.ArrayPages.{array_format}
use Rattle.snapshot_store.specs.Content.{deepest}
use Rattle.snapshot_store.specs.Places.{find}
use Rattle.snapshot_store.specs.TreePages.{tree_format}
use Rattle.engine_pages.specs.declared.view.Lead.{Lead}
use Rattle.engine_pages.specs.declared.view.View.{View}
use Rattle.engine_pages.specs.Pages.{is_array, is_tree}
use Rattle.engine_pages.specs.Pointers.{HasFollowed, StandsFor}
use Rattle.engine_pages.specs.Resident.{found_content, place_for}
use Rattle.engine_pages.specs.Steps.{IsLoad, glanced, keep_read}

-- ---- parts that are kept

-- The part is one of this pointer over these keys, which led to no slot and to the page with this number: the word that
-- was seen.
pub record IsPointerPart (v : View) (x : At) (sp : Span) (n : ℕ) (part : Part) : Type 0 where
  pub word : part.word ≡ Pointer x
  pub lead : Lead
  pub has : Contains v.leads lead
  pub over : lead.span ≡ sp
  pub page : lead.page ≡ n
  pub version : part.version ≡ Leads lead.name

-- it is still so where the view knows more pages
pub part_stays : (v w : View) (x : At) (sp : Span) (n : ℕ) (part : Part)
    → ((z : Lead) → Contains v.leads z → Contains w.leads z) → IsPointerPart v x sp n part → IsPointerPart w x sp n part
part_stays v w x sp n part more is = record {
  word = is.word;
  lead = is.lead;
  has = more is.lead is.has;
  over = is.over;
  page = is.page;
  version = is.version;
}

-- what these pages of an array have for a key below the page with this number, which stands for these keys
abbrev pub content_below : List (List ℕ) → Span → ℕ → Key → Content
content_below pages sp n k = found_content (find array_format pages deepest k.key (place_for sp n))

-- the same of pages of a tree
abbrev pub tree_content : List (List ℕ) → Span → ℕ → Key → Content
tree_content pages sp n k = found_content (find tree_format pages deepest k.key (place_for sp n))

-- ---- the load

-- The pointer is kept as a part, all published pages are known, and which of them stands for its keys; with it these
-- draws and decisions were seen.
abbrev pub saw_pointer : List Attempt → List Number → List (List ℕ) → ℕ → Part → ℕ → Span → ℕ → View → View
saw_pointer all chosen pages name part at sp n v = record (glanced at n v) {
  reads = keep_read v.reads at n;
  history = all;
  decided = chosen;
  seat = record v.seat { kept = with_part v.seat.kept part };
  loaded = None;
  pages = pages;
  leads = record { span = sp; page = n; name = name } ∷ v.leads;
}

-- The pointer led to no slot. The part that is kept vouches for each of its keys, with what the page has that it names,
-- and all that is below: the last decided writes of all draws and decisions up to this step.
pub record HasSeenPointer (x : At) (sp : Span) (at : ℕ) (v : View) (n : ℕ) (w : View) : Type 0 where
  pub pages : List (List ℕ)
  pub front : IsFront v.pages pages
  pub few : length pages ≤ v.layout.resident
  pub most : length pages ≤ 65536
  pub there : n ≤ length pages
  pub stands : 0 < n → StandsFor v.layout.decls pages sp n
  pub name : ℕ
  pub part : Part
  pub word : part.word ≡ Pointer x
  pub version : part.version ≡ Leads name
  pub within : (k : Key) → covers part k ≡ true → in_span sp k ≡ true
  pub covered : (k : Key) → in_span sp k ≡ true → covers part k ≡ true
  pub says : is_array v.layout.decls sp.storage ≡ true → (k : Key) → in_span sp k ≡ true
      → found part k ≡ content_below pages sp n k
  pub tree : is_tree v.layout.decls sp.storage ≡ true → (k : Key) → in_span sp k ≡ true
      → found part k ≡ tree_content pages sp n k
  pub history : List Attempt
  pub decided : List Number
  pub drawn : IsFront v.history history
  pub seen : IsFront v.decided decided
  pub last : Vouches (last_write v.layout.opening history decided) part
  pub is : w ≡ saw_pointer history decided pages name part at sp n v

-- a pointer that isn't shut and leads to no slot is kept; any other one is followed
abbrev pub SawPointer : At → Span → ℕ → View → ℕ → View → Type 0
SawPointer x sp at v n w = MatchBool (nat_lt n (2 ^ 32)) (HasSeenPointer x sp at v n w) (HasFollowed sp at v n w)

-- the same of the step
abbrev pub SeesPointer : At → Span → Step (Unit {0}) → View → ℕ → View → Type 0
SeesPointer x sp s v n w = IsLoad s × SawPointer x sp s.word v n w
