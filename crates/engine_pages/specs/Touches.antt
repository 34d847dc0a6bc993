-- Who took locks of which keys, and what a pass knows of others in its way. The words, the ways and locks of a pass, and
-- the locks that were taken stand here by themselves; `took q k` says that the seat took a lock of the key.
use Rattle.std.specs.Prelude.{◌≡◌, ◌≢◌, ◌⊎◌, ℕ, ◌≤◌, ◌<◌, ◌^◌, ◌==◌, ◌&&◌, Bool, true, false, cond, List, get_or, Some}
use Rattle.std.specs.Prelude.{Contains}
use Rattle.std.specs.List.{list_any}
use Rattle.serial_model.specs.declared.key.Key.{Key}
use Rattle.homes.specs.declared.places.Spot.{Spot}
use Rattle.homes.specs.Homes.{same_key, same_spot}
use Rattle.drop_core.specs.Table.{has_slot}
use Rattle.views.specs.Sums.{total}
use Rattle.engine_pages.specs.declared.layout.Layout.{Layout}
use Rattle.engine_pages.specs.declared.view.Read.{Read}
use Rattle.engine_pages.specs.declared.view.Took.{Took}
use Rattle.engine_pages.specs.declared.view.Touch.{Touch}
use Rattle.engine_pages.specs.declared.view.View.{View}
use Rattle.engine_pages.specs.declared.view.Way.{Way}
use Rattle.engine_pages.specs.Layout.{page_at}
use Rattle.engine_pages.specs.Records.{IsRecordIn}

-- ---- what passes have

-- a lock that this seat took, or met, of this key
abbrev pub touch : ℕ → Key → Touch
touch q k = record { seat = q; key = k }

-- 1 where it is this seat's, at this key
abbrev pub is_touch : ℕ → Key → Touch → ℕ
is_touch q k t = cond ((t.seat == q) && same_key t.key k) 1 0

-- how often the pass has it
abbrev pub takes : ℕ → Key → View → ℕ
takes q k v = total (is_touch q k) v.touched

-- a pass has a lock that the seat took of the key
abbrev pub Touched : List View → ℕ → Key → Type 0
Touched views q k = 1 ≤ total (takes q k) views

-- another seat than this one took a lock of the key
pub record Other (took : ℕ → Key → Type 0) (p : ℕ) (k : Key) : Type 0 where
  pub by : ℕ
  pub apart : by ≢ p
  pub taken : took by k

-- whoever met somebody at a key met another one, who has taken a lock of it
abbrev pub AreBlamed : (ℕ → Key → Type 0) → List Touch → Type 0
AreBlamed took blamed = (b : Touch) → Contains blamed b → Other took b.seat b.key

-- what was taken stays taken
abbrev pub StaysTaken : (ℕ → Key → Type 0) → (ℕ → Key → Type 0) → Type 0
StaysTaken took now = (q : ℕ) (k : Key) → took q k → now q k

-- one of these locks is of the key, and stands at this place
abbrev pub has_took : List Took → Key → Spot → Bool
has_took own k x = list_any (λ t. same_key t.key k && same_spot t.spot x) own

-- ---- what stands

-- What the pass of a seat with these ways and locks knows of others, of these words that it met: a record's word that is
-- locked it has locked itself, there, or another one took a lock of the key; so it is where a record's word isn't as the
-- pass saw or left it last, and where a word without the lock bit was not as the pass had seen or left it before. Into
-- each page of which it met a word it has a way, but for the slots that it has left since.
pub record IsFacing (l : Layout) (words : List ℕ) (took : ℕ → Key → Type 0) (p : ℕ) (ways : List Way) (own : List Took)
    (reads : List Read) (gone : List ℕ) : Type 0 where
  pub pages : (r : Read) → Contains reads r → (t i : ℕ) → t < l.slots → i < 64 → r.word ≡ page_at l.slots t i
      → has_slot gone t ≡ false → (y : Way) × Contains ways y × (y.slot ≡ t)
  pub locked : (k : Key) (x : Spot) (at : ℕ) → IsRecordIn l.decls l.slots ways k x at → 2 ^ 60 ≤ get_or words at 0
      → (has_took own k x ≡ true) ⊎ Other took p k
  pub stands : (k : Key) (x : Spot) (r : Read) → Contains reads r → IsRecordIn l.decls l.slots ways k x r.word
      → has_slot gone x.slot ≡ false → (get_or words r.word 0 ≡ r.seen) ⊎ Other took p k
  pub unlike : (k : Key) (x : Spot) (r : Read) (m : ℕ) → Contains reads r → IsRecordIn l.decls l.slots ways k x r.word
      → has_slot gone x.slot ≡ false → r.was ≡ Some m → m < 2 ^ 60 → r.seen < 2 ^ 60 → m ≢ r.seen → Other took p k
