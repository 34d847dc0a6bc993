-- What an operation of a transaction comes to: the turn of the serial step, over the parts and the own writes.
use Rattle.std.specs.Prelude.{◌≡◌, ℕ, ◌⊎◌, ◌+◌, ◌≤◌, length, List, ◌++◌, Option, Some, None, true, false}
use Rattle.std.specs.Prelude.{Contains, unwrap_or}
use Rattle.lists.specs.Fronts.{IsFront}
use Rattle.serial_model.specs.declared.decl.Decl.{Decl}
use Rattle.serial_model.specs.declared.key.Key.{Key}
use Rattle.serial_model.specs.declared.number.Change.{Change}
use Rattle.serial_model.specs.declared.op.Op.{Op}
use Rattle.serial_model.specs.declared.op.Op.TheVariants as ops
use Rattle.serial_model.specs.declared.reply.Reply.{Reply}
use Rattle.serial_model.specs.declared.reply.Verdict.{Verdict}
use Rattle.serial_model.specs.State.{is_within}
use Rattle.homes.specs.declared.places.At.{At}
use Rattle.homes.specs.declared.places.Span.{Span}
use Rattle.commit_core.specs.declared.part.Part.{Part}
use Rattle.commit_core.specs.Keys.{written}
use Rattle.commit_core.specs.Parts.{covers, found}
use Rattle.commit_core.specs.Serial.{last_write}
use Rattle.serial_bridge.specs.Transaction.{Vouched, Turns, Continues, Stops}
use Rattle.drop_core.specs.Table.{has_slot}
use Rattle.tx_sets.specs.declared.reads.ReadEntry.{ReadEntry}
use Rattle.tx_sets.specs.declared.seen.Seen.{Seen}
use Rattle.tx_sets.specs.declared.sets.Sets.{Sets}
use Rattle.tx_sets.specs.declared.writes.Write.{Write}
use Rattle.tx_sets.specs.Entries.{has_word, has_write, read_of, value_of}
use Rattle.engine_pages.specs.declared.view.Inner.{Inner}
use Rattle.engine_pages.specs.declared.view.Known.{Known}
use Rattle.engine_pages.specs.declared.view.Moved.{Moved}
use Rattle.engine_pages.specs.declared.view.Touch.{Touch}
use Rattle.engine_pages.specs.declared.view.Version.{Version}
use Rattle.engine_pages.specs.declared.view.View.{View}
use Rattle.engine_pages.specs.declared.view.Way.{Way}
use Rattle.engine_pages.specs.Layout.{page_at}
use Rattle.engine_pages.specs.Pages.{is_tree}
use Rattle.engine_pages.specs.Pointers.{IsPointerAt}
use Rattle.engine_pages.specs.Views.{seat_number}
use Rattle.tree_heads.specs.Heads.{absent_word}
use Rattle.homes.specs.Homes.{in_span}
use Rattle.array_pages.specs.Walks.{IsLastBetween, IsWayPlace}
use Rattle.page_commit.specs.Live.{IsLive}
use Rattle.page_commit.specs.Places.{slot_of}

-- what was written, the newest first, is what the write set has
abbrev pub AreWritesOf : List Write → List Change → Type 0
AreWritesOf writes own = (k : Key) → written k own ≡ value_of k writes

-- what some part had, some part has still
abbrev pub PartsStay : List Part → List Part → Type 0
PartsStay parts later = (k : Key) (value : Option ℕ) → Vouched parts k value → Vouched later k value

-- the operation may read at this key; a plain write reads nothing
abbrev pub MayRead : Op → Key → Type 0
MayRead (ops.Read k) q = k ≡ q
MayRead (ops.Write k v) q = ⊥
MayRead (ops.Remove k) q = k ≡ q
MayRead (ops.Add k v) q = k ≡ q
MayRead (ops.Take k v) q = k ≡ q
MayRead (ops.Scan storage low high) q = is_within storage low high q ≡ true

-- the operation may write this key
abbrev pub MayWrite : Op → Key → Type 0
MayWrite (ops.Read k) q = ⊥
MayWrite (ops.Write k v) q = k ≡ q
MayWrite (ops.Remove k) q = k ≡ q
MayWrite (ops.Add k v) q = k ≡ q
MayWrite (ops.Take k v) q = k ≡ q
MayWrite (ops.Scan storage low high) q = ⊥

-- The record was read by the operation, or it is that of a key that the operation added to a tree, which is absent.
abbrev pub IsReadBy : List Decl → Op → ReadEntry → Type 0
IsReadBy decls op e =
    MayRead op e.key ⊎ (MayWrite op e.key × (is_tree decls e.key.storage ≡ true) × (e.word ≡ absent_word))

-- how many records, pointers and headers an operation meets newly at most, of each kind: one, and a scan as many as the
-- sets hold
abbrev pub meets_most : Op → ℕ
meets_most (ops.Read k) = 1
meets_most (ops.Write k v) = 1
meets_most (ops.Remove k) = 1
meets_most (ops.Add k v) = 1
meets_most (ops.Take k v) = 1
meets_most (ops.Scan storage low high) = 256

-- some more were met, none of them but such, and so many at most
pub record HasMore (A : Type 0) (P : A → Type 0) (most : ℕ) (old new : List A) : Type 0 where
  pub more : List A
  pub is : new ≡ old ++ more
  pub each : (x : A) → Contains more x → P x
  pub few : length more ≤ most

-- at most records that the operation may read were read, or one that it added
abbrev pub ReadsOnly : List Decl → Op → List ReadEntry → List ReadEntry → Type 0
ReadsOnly decls op old new = HasMore ReadEntry (IsReadBy decls op) (meets_most op) old new

-- The word is that of a pointer which the pass knows in a tree, over keys that this one is one of.
pub record IsTreePointerOver (v : View) (k : Key) (at : ℕ) : Type 0 where
  pub place : At
  pub span : Span
  pub is : IsPointerAt v place span at
  pub tree : is_tree v.layout.decls k.storage ≡ true
  pub over : in_span span k ≡ true

-- the pointer is on the way to the key, by its place in arrays, and by what the pass knows in trees
abbrev pub IsPointerOver : View → Key → ℕ → Type 0
IsPointerOver v k at = IsWayPlace v.layout k at ⊎ IsTreePointerOver v k at

-- the pointer is on the way to a key that the operation may read
abbrev pub IsPointerOf : View → Op → Seen → Type 0
IsPointerOf v op p = (k : Key) × MayRead op k × IsPointerOver v k p.at

-- pointers were met where the pages in memory end, on the way to keys that the operation may read
abbrev pub MeetsOnly : View → Op → List Seen → List Seen → Type 0
MeetsOnly v op old new = HasMore Seen (IsPointerOf v op) (meets_most op) old new

-- The word is that of the header of a page of a tree that the pass holds, over keys that this one is one of.
pub record IsHeaderOver (v : View) (k : Key) (at : ℕ) : Type 0 where
  pub way : Way
  pub has : Contains v.ways way
  pub slot : way.slot ≡ slot_of v.layout.slots at
  pub tree : is_tree v.layout.decls k.storage ≡ true
  pub over : in_span way.span k ≡ true
  pub word : at ≡ page_at v.layout.slots way.slot 0

-- Each header of the set was in it before, maybe with another word, or is that of a leaf over a key that the operation may
-- read; and there are so many more at most.
pub record HeadsOnly (v : View) (op : Op) (old new : List Seen) : Type 0 where
  pub each : (h : Seen) → Contains new h
      → (has_word h.at old ≡ true) ⊎ ((k : Key) × MayRead op k × IsHeaderOver v k h.at)
  pub few : length new ≤ length old + meets_most op

-- The part says no more than that one did: each key that it is of the other one was of, with the same content.
pub record IsPartOf (part old : Part) : Type 0 where
  pub within : (k : Key) → covers part k ≡ true → covers old k ≡ true
  pub same : (k : Key) → covers part k ≡ true → found part k ≡ found old k

-- each part says no more than one did before
abbrev pub GoesOn : List Part → List Part → Type 0
GoesOn old new = (part : Part) → Contains new part → (x : Part) × Contains old x × IsPartOf part x

-- The parts are as they were, but where the operation may read; and where it may write in a tree, they may say less.
abbrev pub PartsOnly : List Decl → Op → List Part → List Part → Type 0
PartsOnly decls op old new =
    (new ≡ old) ⊎ (((k : Key) × MayRead op k)
    ⊎ ((k : Key) × MayWrite op k × (is_tree decls k.storage ≡ true) × GoesOn old new))

-- no locks were taken, or the operation may write in a tree
abbrev pub LocksOnly : List Decl → Op → List Touch → List Touch → Type 0
LocksOnly decls op old new = (new ≡ old) ⊎ ((k : Key) × MayWrite op k × (is_tree decls k.storage ≡ true))

-- at most the key of the operation is written now
abbrev pub WritesOnly : Op → List Write → List Write → Type 0
WritesOnly op old new = (q : Key) → has_write q new ≡ true → (has_write q old ≡ true) ⊎ MayWrite op q

-- the view v with what loads, and pages that were made, change as w has it
abbrev pub as_walked : View → View → View
as_walked v w = record v {
  history = w.history;
  decided = w.decided;
  seat = record v.seat { kept = w.seat.kept };
  steps = w.steps;
  last = w.last;
  loaded = w.loaded;
  reads = w.reads;
  grip = record v.grip { holds = w.grip.holds };
  ways = w.ways;
  known = w.known;
  moved = w.moved;
  inners = w.inners;
  versions = w.versions;
  pages = w.pages;
  leads = w.leads;
  looked = w.looked;
  touched = w.touched;
}

-- Words were loaded and slots entered, with draws and decisions that were seen, and pages may have been made; parts
-- may have joined, each of which had the last decided writes of its keys at one of these loads, or says no more than one of
-- before. What was known of pages is known still, locks were taken of records of trees alone, and all else that the pass
-- knows is as it was.
pub record OnlyWalked (v w : View) : Type 0 where
  pub drawn : IsFront v.history w.history
  pub seen : IsFront v.decided w.decided
  pub since : v.steps ≤ w.steps
  pub parts : (part : Part) → Contains w.seat.kept part → Contains v.seat.kept part
      ⊎ (IsLastBetween v w part ⊎ ((old : Part) × Contains v.seat.kept old × IsPartOf part old))
  pub touches : (t : Touch) → Contains w.touched t → Contains v.touched t
      ⊎ ((t.seat ≡ seat_number v.role) × (is_tree v.layout.decls t.key.storage ≡ true))
  pub ways : (x : Way) → Contains v.ways x → Contains w.ways x
  pub known : (x : Known) → Contains v.known x → Contains w.known x
  pub moved : (x : Moved) → Contains v.moved x → Contains w.moved x
  pub inners : (x : Inner) → Contains v.inners x → Contains w.inners x
  pub versions : (x : Version) → Contains v.versions x → Contains w.versions x
  pub is : w ≡ as_walked v w

-- What a read answers: what the transaction wrote at the key last; else what it first read there; else what this call
-- read, the last decided write of the key, of all that was drawn and decided up to the step which loaded its word, or
-- what stood there at first. A key that was never written has value 0.
pub record IsValueRead (k : Key) (value : ℕ) (sets : Sets) (v w : View) : Type 0 where
  pub own : (x : Option ℕ) → value_of k sets.writes ≡ Some x → value ≡ unwrap_or x 0
  pub again : (e : ReadEntry) → value_of k sets.writes ≡ None → read_of k sets.reads ≡ Some e → value ≡ e.value
  pub anew : value_of k sets.writes ≡ None → read_of k sets.reads ≡ None
      → value ≡ unwrap_or (last_write v.layout.opening w.history w.decided k).value 0

-- The way is into a half of a page of a tree that was split, which is on the way to the key.
pub record IsTwinOn (k : Key) (w : View) (x : Way) : Type 0 where
  pub moved : Moved
  pub knows : Contains w.moved moved
  pub way : Way
  pub has : Contains w.ways way
  pub same : way.slot ≡ moved.slot
  pub over : in_span way.span k ≡ true
  pub is : (x.slot ≡ moved.minor) ⊎ (x.slot ≡ moved.major)

-- Each way that is new is one to a key of the operation, or into a half of a page on the way to it: no other pages were
-- brought in or held.
abbrev pub OnlyWaysOf : Op → View → View → Type 0
OnlyWaysOf op v w = (x : Way) → Contains w.ways x
    → Contains v.ways x
    ⊎ ((k : Key) × (MayRead op k ⊎ MayWrite op k) × ((in_span x.span k ≡ true) ⊎ IsTwinOn k w x))

-- each slot of the second list that isn't one of the first has a page to which a way is known, over keys that this one
-- is one of
abbrev pub HoldsWaysTo : Key → List ℕ → List ℕ → View → Type 0
HoldsWaysTo k old new w = (t : ℕ) → has_slot new t ≡ true → has_slot old t ≡ false
    → (x : Way) × Contains w.ways x × (x.slot ≡ t) × (in_span x.span k ≡ true)

-- over keys that one of the operation is one of
abbrev pub HoldsWaysOf : Op → List ℕ → List ℕ → View → Type 0
HoldsWaysOf op old new w = (t : ℕ) → has_slot new t ≡ true → has_slot old t ≡ false
    → (x : Way) × Contains w.ways x × (x.slot ≡ t)
    × (k : Key) × (MayRead op k ⊎ MayWrite op k) × (in_span x.span k ≡ true)

-- The transaction goes on after this operation, with this reply or none. Each slot that it holds newly is the page of a
-- way to a key of the operation: what it was given it put in. It reads at most one record more and writes at
-- most one key more.
pub record HasDone (op : Op) (reply : Option Reply) (sets new : Sets) (v w : View) : Type 0 where
  pub live : IsLive new w
  pub only : OnlyWalked v w
  pub paths : OnlyWaysOf op v w
  pub held : HoldsWaysOf op sets.holds new.holds w
  pub reads : ReadsOnly v.layout.decls op sets.reads new.reads
  pub pointers : MeetsOnly w op sets.pointers new.pointers
  pub headers : HeadsOnly w op sets.headers new.headers
  pub joined : PartsOnly v.layout.decls op v.seat.kept w.seat.kept
  pub locks : LocksOnly v.layout.decls op v.touched w.touched
  pub writes : WritesOnly op sets.writes new.writes
  pub grows : length new.writes ≤ length sets.writes + 1
  pub keeps : PartsStay v.seat.kept w.seat.kept
  pub turns : (own : List Change) → AreWritesOf sets.writes own
      → (next : List Change) × AreWritesOf new.writes next
      × Turns v.layout.decls w.seat.kept own op (Continues reply next)

-- The transaction ends with this operation, whose verdict this is. It is still to be committed, without its writes.
pub record HasStopped (op : Op) (verdict : Verdict) (sets new : Sets) (v w : View) : Type 0 where
  pub live : IsLive new w
  pub only : OnlyWalked v w
  pub paths : OnlyWaysOf op v w
  pub held : HoldsWaysOf op sets.holds new.holds w
  pub reads : ReadsOnly v.layout.decls op sets.reads new.reads
  pub pointers : MeetsOnly w op sets.pointers new.pointers
  pub headers : HeadsOnly w op sets.headers new.headers
  pub joined : PartsOnly v.layout.decls op v.seat.kept w.seat.kept
  pub locks : LocksOnly v.layout.decls op v.touched w.touched
  pub writes : WritesOnly op sets.writes new.writes
  pub grows : length new.writes ≤ length sets.writes + 1
  pub keeps : PartsStay v.seat.kept w.seat.kept
  pub turns : (own : List Change) → AreWritesOf sets.writes own
      → Turns v.layout.decls w.seat.kept own op (Stops verdict)
