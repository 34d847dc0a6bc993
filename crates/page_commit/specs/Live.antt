-- A transaction and its pass: what the sets have, and what the view knows of it.
use Rattle.std.specs.Prelude.{◌≡◌, ◌⊎◌, ℕ, ◌+◌, ◌<◌, ◌^◌, ◌==◌, Bool, true, false, is_some, Some, Option}
use Rattle.std.specs.Prelude.{List, [], cond, unwrap_or, Contains, map, length, ◌≤◌}
use Rattle.std.specs.List.{AllByRecursion, find, list_any}
use Rattle.std.specs.Option.{option_map}
use Rattle.lists.specs.Each.{AreDistinct}
use Rattle.serial_model.specs.declared.decl.Decl.{Decl}
use Rattle.serial_model.specs.Decls.{AreDecls}
use Rattle.homes.specs.declared.places.Content.{Content}
use Rattle.homes.specs.declared.places.Span.{Span}
use Rattle.homes.specs.Homes.{in_span}
use Rattle.serial_model.specs.declared.key.Key.{Key}
use Rattle.wire_form.specs.Leaves.{tree_leaf}
use Rattle.wire_form.specs.Words.{number_word}
use Rattle.commit_core.specs.declared.part.Part.{Part}
use Rattle.commit_core.specs.declared.seat.Stage.TheVariants.{Idle}
use Rattle.commit_core.specs.Parts.{covers, found, record_part, same_word}
use Rattle.drop_core.specs.Table.{has_slot}
use Rattle.tx_sets.specs.declared.reads.ReadEntry.{ReadEntry}
use Rattle.tx_sets.specs.declared.seen.Seen.{Seen}
use Rattle.tx_sets.specs.declared.sets.Sets.{Sets}
use Rattle.tx_sets.specs.declared.writes.Write.{Write}
use Rattle.tx_sets.specs.Entries.{has_word, places_of, writes_at}
use Rattle.engine_pages.specs.Agreement.{TreesAgree}
use Rattle.engine_pages.specs.declared.view.Role.TheVariants.{Worker}
use Rattle.engine_pages.specs.declared.view.Inner.{Inner}
use Rattle.engine_pages.specs.declared.view.View.{View}
use Rattle.engine_pages.specs.declared.view.Way.{Way}
use Rattle.engine_pages.specs.Views.{IsResting}
use Rattle.engine_pages.specs.Steps.{kept_at, seen_at}
use Rattle.page_records.specs.Ends.{worker_of}
use Rattle.dual_pointer.specs.Parts.{content_below, tree_content, IsPointerPart}
pub use Rattle.array_pages.specs.Finding.{IsWordFor}
use Rattle.page_commit.specs.HeaderParts.{AreHeaders, IsMetHeader}
use Rattle.page_commit.specs.Places.{ground, pointer_for, slot_of, spot_for, word_of, Ground, IsAnyKeyIn}
use Rattle.page_commit.specs.Places.{IsKeyIn}
use Rattle.page_commit.specs.Places.{IsPointerIn, IsTreeKeyIn}
use Rattle.engine_pages.specs.Layout.{words_of}
use Rattle.engine_pages.specs.Pages.{is_array, is_tree}
use Rattle.engine_pages.specs.Rule.{absence}
use Rattle.engine_pages.specs.Words.{IsSmall}
use Rattle.engine_pages.specs.Pointers.{StandsFor, WaysAgree}

-- ---- records that were read, by the places of their words

-- the record whose word stands here was read
abbrev pub reads_at : ℕ → List ReadEntry → Bool
reads_at at reads = list_any (λ e. e.at == at) reads

-- the word that it had then
abbrev pub read_word : ℕ → List ReadEntry → Option ℕ
read_word at reads = option_map (λ e. e.word) (find (λ e. e.at == at) reads)

-- where the words of records stand that were read, in the order of the set
abbrev pub entry_places : List ReadEntry → List ℕ
entry_places reads = map (λ e. e.at) reads

-- ---- parts and sets

-- This is the word of a record with the content: its number, which fits, and in a tree a bit where it has no value.
pub record IsWordOf (decls : List Decl) (k : Key) (c : Content) (word : ℕ) : Type 0 where
  pub small : IsSmall c.number
  pub number : number_word c.number + absence decls k c.value ≡ word

-- The part is what was read of the entry's record: one content of it had this word and this value.
pub record IsReadPart (g : Ground) (e : ReadEntry) (part : Part) : Type 0 where
  pub place : IsAnyKeyIn g e.key e.at
  pub content : Content
  pub shown : IsWordOf g.layout.decls e.key content e.word
  pub value : e.value ≡ unwrap_or content.value 0
  pub is : part ≡ record_part e.key (spot_for g.layout e.key e.at) content

-- what these pages have for a key below the page with this number, by the kind of the storage
abbrev pub below_in : List Decl → List (List ℕ) → Span → ℕ → Key → Content
below_in decls pages sp n k =
    cond (is_array decls sp.storage) (content_below pages sp n k) (tree_content pages sp n k)

-- The part is that of the pointer, which led to no slot as its word was seen: it vouches for the keys of the pointer,
-- with what is found below the page that the word names.
pub record IsMetPointer (v : View) (p : Seen) (part : Part) : Type 0 where
  pub span : Span
  pub place : IsPointerIn (ground v) span p.at
  pub within : p.at < words_of v.layout
  pub bare : p.word < 2 ^ 32
  pub of : IsPointerPart v (pointer_for (ground v) p.at) span p.word part
  pub kind : (is_array v.layout.decls span.storage ≡ true) ⊎ (is_tree v.layout.decls span.storage ≡ true)
  pub stands : 0 < p.word → StandsFor v.layout.decls v.pages span p.word
  pub inside : (k : Key) → covers part k ≡ true → in_span span k ≡ true
  pub all : (k : Key) → in_span span k ≡ true → covers part k ≡ true
  pub says : (k : Key) → in_span span k ≡ true → found part k ≡ below_in v.layout.decls v.pages span p.word k

-- Each part is of an entry, of a pointer or of a header, and each of these has its part; so who checks the words of the
-- sets checks all parts. Each part is of another word.
pub record AreParts (sets : Sets) (v : View) (kept : List Part) : Type 0 where
  pub known : (part : Part) → Contains kept part
      → ((e : ReadEntry) × Contains sets.reads e × IsReadPart (ground v) e part)
      ⊎ (((p : Seen) × Contains sets.pointers p × IsMetPointer v p part)
      ⊎ ((h : Seen) × Contains sets.headers h × IsMetHeader (ground v) h part))
  pub reads : (e : ReadEntry) → Contains sets.reads e
      → (part : Part) × Contains kept part × IsReadPart (ground v) e part
  pub pointers : (p : Seen) → Contains sets.pointers p → (part : Part) × Contains kept part × IsMetPointer v p part
  pub headers : (h : Seen) → Contains sets.headers h
      → (part : Part) × Contains kept part × IsMetHeader (ground v) h part
  pub once : (a b : Part) → Contains kept a → Contains kept b → same_word a.word b.word ≡ true → a ≡ b

-- A key is written whose record's word stands there, in a page that is held; in an array it gets a value.
pub record IsWriteOf (g : Ground) (w : Write) : Type 0 where
  pub place : IsAnyKeyIn g w.key w.at
  pub value : is_array g.layout.decls w.key.storage ≡ true → is_some w.value ≡ true

-- ---- what was met

-- Of a record that isn't to be written the transaction saw last what it read. Of an array's it saw nothing where it
-- wasn't read; the word of a tree's may be known as it was left behind an own lock.
pub record AreMet (reads : List ReadEntry) (ws : List Write) (v : View) : Type 0 where
  pub arrays : (k : Key) (at : ℕ) → IsKeyIn (ground v) k at → writes_at at ws ≡ false
      → seen_at v.reads at ≡ read_word at reads
  pub trees : (k : Key) (at n : ℕ) → IsTreeKeyIn (ground v) k at → writes_at at ws ≡ false
      → read_word at reads ≡ Some n → seen_at v.reads at ≡ Some n

-- each pointer of the set was last seen as the set has it
abbrev pub ArePointersMet : List Seen → View → Type 0
ArePointersMet pointers v = (p : Seen) → Contains pointers p → seen_at v.reads p.at ≡ Some p.word

-- and is kept as a part with that word
abbrev pub ArePointersKept : List Seen → View → Type 0
ArePointersKept pointers v = (p : Seen) → Contains pointers p → kept_at v.reads p.at ≡ Some p.word

-- No words are kept as parts but those of the pointers and the headers of the sets.
abbrev pub KeepsOnly : Sets → View → Type 0
KeepsOnly sets v = (at n : ℕ) → kept_at v.reads at ≡ Some n
    → (has_word at sets.pointers ≡ true) ⊎ (has_word at sets.headers ≡ true)

-- In the page of a tree the word stands before the records of a leaf, or in an interior page; or it is of a record whose
-- key is known, or its value.
abbrev pub IsTreeWordIn : Ground → Way → ℕ → Type 0
IsTreeWordIn g way at = (word_of g.layout.slots at < tree_leaf.first)
    ⊎ (((x : Inner) × Contains g.inners x × (x.slot ≡ way.slot))
    ⊎ ((k : Key) × (other : ℕ) × IsTreeKeyIn g k other × ((at ≡ other) ⊎ (at ≡ other + 1))))

-- the word is a root's, or stands in the page of a slot that the pass holds, of an array, or so of a tree
abbrev pub StandsIn : Ground → ℕ → Type 0
StandsIn g at = (at < 32)
    ⊎ ((way : Way) × Contains g.ways way × (slot_of g.layout.slots at ≡ way.slot)
    × ((is_array g.layout.decls way.span.storage ≡ true) ⊎ IsTreeWordIn g way at))

-- The word is a root's, or stands in the page of a tree: before the records of a leaf, or in an interior page.
abbrev pub IsHeadIn : Ground → ℕ → Type 0
IsHeadIn g at = (at < 32)
    ⊎ ((way : Way) × Contains g.ways way × (slot_of g.layout.slots at ≡ way.slot)
    × (is_tree g.layout.decls way.span.storage ≡ true)
    × ((word_of g.layout.slots at < tree_leaf.first) ⊎ ((x : Inner) × Contains g.inners x × (x.slot ≡ way.slot))))

-- what was met stands where the pass knows of it
abbrev pub AreInside : View → Type 0
AreInside v = (at n : ℕ) → seen_at v.reads at ≡ Some n → StandsIn (ground v) at

-- ---- pages

-- The pass holds just these slots, fills and published no page that it led nothing to, and took none away.
pub record HasHolds (slots : List ℕ) (v : View) : Type 0 where
  pub holds : (s : ℕ) → has_slot slots s ≡ has_slot v.grip.holds s
  pub within : (s : ℕ) → has_slot slots s ≡ true → s < v.layout.slots
  pub made : v.grip.made ≡ []
  pub taken : v.grip.taken ≡ []
  pub drafts : v.drafts ≡ []
  pub copies : v.copies ≡ []
  pub blanks : v.blanks ≡ []
  pub leaves : v.new_leaves ≡ []
  pub inners : v.new_inners ≡ []
  pub heads : v.heads ≡ []

-- ---- transactions

-- A transaction is under way, and no call of it was refused: it has yet to draw, what it read is kept as its parts, it
-- holds the slots of its set, and nothing is locked. Records and headers that it keeps are together at most 256.
pub record IsLive (sets : Sets) (v : View) : Type 0 where
  pub decls : AreDecls v.layout.decls
  pub worker : v.role ≡ Worker (worker_of v.role)
  pub due : v.due ≡ true
  pub locks : v.seat.locks ≡ []
  pub took : v.took ≡ []
  pub stage : v.seat.stage ≡ Idle
  pub gone : v.gone ≡ []
  pub agree : WaysAgree v.ways
  pub trees : TreesAgree v
  pub holds : HasHolds sets.holds v
  pub parts : AreParts sets v v.seat.kept
  pub places : AreDistinct (entry_places sets.reads)
  pub once : AreDistinct (places_of sets.pointers)
  pub writes : AllByRecursion (IsWriteOf (ground v)) sets.writes
  pub met : AreMet sets.reads [] v
  pub points : ArePointersMet sets.pointers v
  pub kept : ArePointersKept sets.pointers v
  pub headers : AreHeaders sets.headers v
  pub only : KeepsOnly sets v
  pub inside : AreInside v
  pub room : length sets.reads + length sets.headers ≤ 256

-- The pass of a worker without a transaction: it holds no slot, and each that it was given leads on or was given up.
pub record IsOver (v : View) : Type 0 where
  pub decls : AreDecls v.layout.decls
  pub worker : v.role ≡ Worker (worker_of v.role)
  pub due : v.due ≡ false
  pub took : v.took ≡ []
  pub seat : IsResting v.seat
  pub agree : WaysAgree v.ways
  pub trees : TreesAgree v
  pub holds : HasHolds [] v
