-- What work on a page of a tree leaves of a pass, and what it tells of a page that it keeps.
use Rattle.std.specs.Prelude.{◌≡◌, ◌⊎◌, ℕ, ◌<◌, ◌≤◌, Some, Contains}
use Rattle.engine_pages.specs.declared.view.Known.{Known}
use Rattle.engine_pages.specs.declared.view.KeptWhy.{KeptWhy}
use Rattle.engine_pages.specs.declared.view.KeptWhy.TheVariants.{Changed}
use Rattle.engine_pages.specs.declared.view.Read.{Read}
use Rattle.engine_pages.specs.declared.view.Touch.{Touch}
use Rattle.engine_pages.specs.declared.view.Version.{Version}
use Rattle.engine_pages.specs.declared.view.View.{View}
use Rattle.page_drops.specs.declared.noting.Kept.{Kept}
use Rattle.engine_pages.specs.Steps.{glance, seen_at}
use Rattle.engine_pages.specs.Layout.{page_at}
use Rattle.page_drops.specs.Works.{read_of, HasKept}

-- The pass went on: it has what it had, but for what it saw and knows, its locks, and the pages that it noted as kept.
abbrev pub Worked : View → View → Type 0
Worked v w = w ≡ record v {
  steps = w.steps;
  last = w.last;
  reads = w.reads;
  seat = record v.seat { locks = w.seat.locks };
  took = w.took;
  touched = w.touched;
  loaded = w.loaded;
  known = w.known;
  heads = w.heads;
  versions = w.versions;
  kept = w.kept;
}

-- What it knew and saw it knows still, and what it locked more is the maintenance thread's.
pub record WorksOn (v w : View) : Type 0 where
  pub worked : Worked v w
  pub later : v.steps ≤ w.steps
  pub known : (x : Known) → Contains v.known x → Contains w.known x
  pub versions : (x : Version) → Contains v.versions x → Contains w.versions x
  pub touched : (z : Touch) → Contains w.touched z → Contains v.touched z ⊎ (z.seat ≡ 0)

-- so it did, and has the locks that it had
pub record LooksOn (v w : View) : Type 0 where
  pub works : WorksOn v w
  pub locks : w.seat.locks ≡ v.seat.locks
  pub took : w.took ≡ v.took
  pub heads : w.heads ≡ v.heads

-- and noted nothing
pub record OnlyLooks (v w : View) : Type 0 where
  pub looks : LooksOn v w
  pub kept : w.kept ≡ v.kept

-- The pass noted that it keeps a page, and why, and has the locks that it had.
pub record KeepsIt (cause : KeptWhy → ℕ → ℕ → Type 0) (k : Kept) (v w : View) : Type 0 where
  pub looks : LooksOn v w
  pub kept : HasKept cause k v w

-- The word was seen last.
pub record JustSaw (v u : View) (word seen : ℕ) : Type 0 where
  pub only : OnlyLooks v u
  pub step : ℕ
  pub last : u.last ≡ Some (glance step word seen)
  pub since : v.steps ≤ step
  pub before : step < u.steps

-- The entry of the pointer's word, which stands here and was this one as the work began, is as it was; or the page is
-- kept for that word, which was found to be another.
abbrev pub TellsPointer : ℕ → ℕ → Kept → View → View → Type 0
TellsPointer at before k v w = (read_of w.reads at ≡ read_of v.reads at)
    ⊎ ((k.word ≡ at) × (k.why ≡ Changed before)
    × ((r : Read) × (read_of w.reads at ≡ Some r) × (r.seen ≡ k.seen) × (r.was ≡ Some before)))

-- the entry of the header of the slot's page is as it was
abbrev pub KeepsHead : ℕ → View → View → Type 0
KeepsHead t v w = read_of w.reads (page_at v.layout.slots t 0) ≡ read_of v.reads (page_at v.layout.slots t 0)

-- the page's word with this index was last seen or left so
abbrev pub IsSeenAt : ℕ → ℕ → ℕ → View → Type 0
IsSeenAt t i n v = seen_at v.reads (page_at v.layout.slots t i) ≡ Some n
