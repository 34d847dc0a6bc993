-- What holds of both machines after each event. Of the parts, `ordered_numbers`, `lock_owners`, `unlocked_homes`,
-- `locked_homes`, `reads_stay_true`, `commits_are_checked` and `marks_are_past` are commit_core's; `one_home_each`,
-- `holds_counted` and `snapshots_fixed` are drop_core's, with these homes of the keys. Here is what needs both: that
-- the places of a page that is gone or was split are dead, that words which are kept are held, and that kept words
-- vouch, which follows.
use Rattle.std.specs.Prelude.{◌≡◌, ◌⊎◌, ℕ, ◌+◌, ◌<◌, ◌≤◌, ◌==◌, ◌&&◌, Bool, true, false, not, List, ◌++◌, Option, Some}
use Rattle.std.specs.Prelude.{None, length, slice_get, Contains, ⊤}
use Rattle.serial_model.specs.declared.key.Key.{Key}
use Rattle.homes.specs.declared.places.Holder.{Holder}
use Rattle.homes.specs.declared.places.Holder.TheVariants.{Free, Held, Dead}
use Rattle.homes.specs.declared.places.Spot.{Spot}
use Rattle.homes.specs.declared.places.At.{At}
use Rattle.homes.specs.declared.places.At.TheVariants.{Root, In}
use Rattle.homes.specs.declared.places.Span.{Span}
use Rattle.homes.specs.declared.places.Home.{Home}
use Rattle.homes.specs.declared.places.Home.TheVariants.{InSlot}
use Rattle.homes.specs.Homes.{in_span}
use Rattle.commit_core.specs.declared.place.Place.{Place}
use Rattle.commit_core.specs.declared.part.Word.{Word}
use Rattle.commit_core.specs.declared.part.Word.TheVariants.{Record, Pointer, Header}
use Rattle.commit_core.specs.declared.part.Version.TheVariants.{Leads, Counted}
use Rattle.commit_core.specs.declared.part.Part.{Part}
use Rattle.commit_core.specs.declared.seat.Stage.{Stage}
use Rattle.commit_core.specs.declared.seat.Stage.TheVariants.{Idle, Trying, Ended, Decided}
use Rattle.commit_core.specs.declared.seat.Seat.{Seat}
use Rattle.commit_core.specs.Keys.{nothing}
use Rattle.commit_core.specs.Places.{place_of, home_of, stands}
use Rattle.commit_core.specs.Parts.{covers, found, is_version}
use Rattle.commit_core.specs.Sound.{IsSound as CommitsAreSound}
use Rattle.drop_core.specs.declared.table.Led.TheVariants.{From, Away}
use Rattle.drop_core.specs.declared.table.Page.{Page}
use Rattle.drop_core.specs.declared.table.Page.TheVariants.{Leaf, Split}
use Rattle.drop_core.specs.declared.table.Table.{Table}
use Rattle.drop_core.specs.declared.grip.Grip.{Grip}
use Rattle.drop_core.specs.Table.{slot_of, page_of, pointer_of, header_of, snap_home, leaf_home, has_slot, has_pointer}
use Rattle.drop_core.specs.Table.{is_never}
use Rattle.drop_core.specs.Event.{most_records}
use Rattle.drop_core.specs.Law.{IsSplitAt}
use Rattle.drop_core.specs.Sound.{span_at, IsSound as PagesAreSound}
use Rattle.engine_rule.specs.Pairs.{page_content}
use Rattle.engine_rule.specs.JointState.{JointState, slot_of_word, leads_so, counts_so}

-- ---- pages that are gone

-- The places of a leaf from which what led to it was taken are dead, until its slot is given again.
abbrev pub LeavesStayDead : (Spot → Place) → Table → Type 0
LeavesStayDead places d = (s : ℕ) (keys : List Key) → (slot_of d s).led ≡ Away → page_of d s ≡ Leaf keys
    → (k : Key) (x : Spot) → leaf_home s 0 keys k ≡ InSlot x → (places x).holder ≡ Dead

-- The places of a leaf that was split are dead, until its slot is given again.
abbrev pub SplitsStayDead : (Spot → Place) → Table → Type 0
SplitsStayDead places d = (s i : ℕ) → IsSplitAt d s → i < most_records
    → (places (record { slot = s; index = i })).holder ≡ Dead

-- ---- words that are kept

-- the fact holds of the slot, if there is one
abbrev pub OnSlot : Option ℕ → (ℕ → Type 0) → Type 0
OnSlot None P = ⊤
OnSlot (Some s) P = P s

-- the slot of the word is one of these, and something has led to it since it was given
abbrev pub IsHeld : Table → List ℕ → Word → Type 0
IsHeld d holds w = OnSlot (slot_of_word w) (λ s. (has_slot holds s ≡ true) × (is_never (slot_of d s).led ≡ false))

-- a seat holds the slot of each word that it keeps, and has since something led to that
abbrev pub KeptIsHeld : Table → List ℕ → List Part → Type 0
KeptIsHeld d holds kept = (part : Part) → Contains kept part → IsHeld d holds part.word

-- a root's pointer, or one of the page that is laid out there
abbrev pub IsPointerThere : (ℕ → Page) → At → Type 0
IsPointerThere pages (Root r) = ⊤
IsPointerThere pages (In x) = has_pointer (pages x.slot) x.index ≡ true

-- The part of a pointer names a published page, vouches for keys that the pointer is over, and has for each what that
-- page has.
pub record FitsPointer
    (pages : ℕ → Page) (spans : At → Span) (homes : ℕ → Key → Home) (published : ℕ) (x : At) (part : Part)
    : Type 0 where
  pub page : ℕ
  pub there : IsPointerThere pages x
  pub version : part.version ≡ Leads page
  pub past : page ≤ published
  pub within : (k : Key) → covers part k ≡ true → in_span (spans x) k ≡ true
  pub pairs : (k : Key) → covers part k ≡ true → page_content (homes page k) ≡ found part k

-- the page has at least so many records, or was split
abbrev pub HasRecords : Page → ℕ → Type 0
HasRecords page n = (page ≡ Split) ⊎ ((keys : List Key) × (page ≡ Leaf keys) × (n ≤ length keys))

-- the page has these keys, and maybe more behind them, or was split
abbrev pub HasKeys : Page → List Key → Type 0
HasKeys page keys = (page ≡ Split) ⊎ ((more : List Key) × (page ≡ Leaf (keys ++ more)))

-- The part of a header leaves out the keys that the leaf had, counts them, and vouches for keys that the leaf is over:
-- there was nothing.
pub record FitsHeader (d : Table) (s : ℕ) (part : Part) : Type 0 where
  pub version : part.version ≡ Counted (length part.less)
  pub keys : HasKeys (page_of d s) part.less
  pub within : (x : At) → (slot_of d s).led ≡ From x → (k : Key) → covers part k ≡ true
      → in_span (span_at d x) k ≡ true
  pub absent : (k : Key) → covers part k ≡ true → found part k ≡ nothing

-- The record is one of its page; what else fits of it is a part of the commits' sound state (`kept_fits`).
abbrev pub FitsWord : Table → Part → Word → Type 0
FitsWord d part (Record x) = HasRecords (page_of d x.slot) (x.index + 1)
FitsWord d part (Header s) = FitsHeader d s part
FitsWord d part (Pointer x) = FitsPointer (page_of d) (span_at d) (snap_home d) d.published x part

-- what each kept part says of its word that no event changes while the slot is held
abbrev pub KeptFits : Table → List Part → Type 0
KeptFits d kept = (part : Part) → Contains kept part → FitsWord d part part.word

-- what holds of what a seat keeps and holds
pub record IsSoundKept (d : Table) (holds : List ℕ) (kept : List Part) : Type 0 where
  pub kept_is_held : KeptIsHeld d holds kept
  pub kept_fits : KeptFits d kept

-- ---- all of it

-- both machines are sound, and what one says of the other
pub record IsSound (c : JointState) : Type 0 where
  pub commits : CommitsAreSound c.commits
  pub pages : PagesAreSound (home_of c.commits.story.homes) c.pages
  pub leaves_stay_dead : LeavesStayDead (place_of c.commits.story.places) c.pages.table
  pub splits_stay_dead : SplitsStayDead (place_of c.commits.story.places) c.pages.table
  pub kept : (p : ℕ) (s : Seat) (g : Grip) → slice_get c.commits.seats p ≡ Some s → slice_get c.pages.grips p ≡ Some g
      → IsSoundKept c.pages.table g.holds s.kept
  pub same_seats : length c.commits.seats ≡ length c.pages.grips

-- ---- kept words vouch, which follows from it

-- the seat's attempt is decided, with locks left to open
abbrev pub has_decided : Stage → Bool
has_decided Idle = false
has_decided (Trying i) = false
has_decided Ended = false
has_decided (Decided i) = true

-- nobody holds it, or the seat does and has not decided
abbrev pub is_clear : ℕ → Bool → Holder → Bool
is_clear p decided Free = true
is_clear p decided (Held q) = (q == p) && not decided
is_clear p decided Dead = false

-- the word is now as the part has it
abbrev pub is_word_so : ℕ → Bool → (Spot → Place) → Table → Part → Word → Bool
is_word_so p decided places d part (Record x) =
    is_clear p decided (places x).holder && is_version (places x).content part.version
is_word_so p decided places d part (Pointer x) =
    is_clear p decided (pointer_of d x).holder && leads_so (pointer_of d x) part.version
is_word_so p decided places d part (Header s) =
    is_clear p decided (header_of d s) && counts_so (page_of d s) part.version

-- what the part vouches for is so now
abbrev pub IsClearNow : ℕ → Bool → (Key → Place) → Part → Type 0
IsClearNow p decided st part =
    (k : Key) → covers part k ≡ true → (is_clear p decided (st k).holder ≡ true) × ((st k).content ≡ found part k)

-- where a word is now as it is kept, what it vouches for is so now
abbrev pub KeptWordsVouch : JointState → Type 0
KeptWordsVouch c = (p : ℕ) (s : Seat) → slice_get c.commits.seats p ≡ Some s → (part : Part) → Contains s.kept part
    → is_word_so p (has_decided s.stage) (place_of c.commits.story.places) c.pages.table part part.word ≡ true
    → IsClearNow p (has_decided s.stage) (stands c.commits.story.places c.commits.story.homes) part
