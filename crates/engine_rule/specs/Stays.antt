-- What an event of one seat leaves of what another seat relies on. Of places it speaks only where something has led to
-- the slot since it was given, and of records up to a leaf's count; of slots that nothing has led to, if the other seat
-- made them.
use Rattle.std.specs.Prelude.{◌≡◌, ℕ, ◌+◌, true, false, Some, slice_get}
use Rattle.serial_model.specs.declared.key.Key.{Key}
use Rattle.homes.specs.declared.places.Holder.TheVariants.{Dead}
use Rattle.homes.specs.declared.places.Spot.{Spot}
use Rattle.commit_core.specs.declared.attempt.Attempt.{Attempt}
use Rattle.commit_core.specs.declared.part.Word.{Word}
use Rattle.commit_core.specs.declared.story.Story.{Story}
use Rattle.commit_core.specs.CoreState.{is_checked}
use Rattle.commit_core.specs.Keys.{IsUpTo}
use Rattle.commit_core.specs.Opening.{Grows}
use Rattle.commit_core.specs.Places.{place_of, home_of, stands, holder_is}
use Rattle.drop_core.specs.declared.table.Table.{Table}
use Rattle.drop_core.specs.declared.grip.Grip.{Grip}
use Rattle.drop_core.specs.Table.{slot_of, page_of, has_slot, is_never}
use Rattle.drop_core.specs.Law.{Leaves, LeavesHeld, LeavesMades}
use Rattle.engine_rule.specs.JointState.{JointState}
use Rattle.engine_rule.specs.Sound.{HasRecords}

-- The place is a record's of a page that something has led to: what stands behind a page's records is stale.
pub record IsPlaceOf (d : Table) (x : Spot) : Type 0 where
  pub known : is_never (slot_of d x.slot).led ≡ false
  pub there : HasRecords (page_of d x.slot) (x.index + 1)

-- Of the commits: the story grows, the number of no record falls, and seat 0 alone lets the epoch rise; records that
-- another seat holds or that are dead stay, as do the homes of keys that another seat holds, and what the attempts of
-- others have checked.
pub record StoryStays (p : ℕ) (d : Table) (m n : Story) : Type 0 where
  pub grows : Grows m n
  pub rise : (x : Spot) → IsPlaceOf d x
      → IsUpTo (place_of m.places x).content.number (place_of n.places x).content.number
  pub epoch : (p ≡ 0 → ⊥) → n.epoch ≡ m.epoch
  pub held : (x : Spot) (o : ℕ) → IsPlaceOf d x → holder_is o (place_of m.places x).holder ≡ true → (o ≡ p → ⊥)
      → place_of n.places x ≡ place_of m.places x
  pub dead : (x : Spot) → IsPlaceOf d x → (place_of m.places x).holder ≡ Dead
      → place_of n.places x ≡ place_of m.places x
  pub homes : (k : Key) (o : ℕ) → holder_is o (stands m.places m.homes k).holder ≡ true → (o ≡ p → ⊥)
      → home_of n.homes k ≡ home_of m.homes k
  pub checks : (i : ℕ) (a : Attempt) → slice_get m.history i ≡ Some a → (a.seat ≡ p → ⊥)
      → (w : Word) → is_checked n.checks a.number w ≡ is_checked m.checks a.number w

-- An event of seat p leaves that of the commits; the pages of slots that any seat holds, roots and published pages;
-- headers that another seat holds, with their pages, and live pointers that it shut; the slots that another seat made,
-- with the records in them; and what each other seat has by itself.
pub record Stays (p : ℕ) (old new : JointState) : Type 0 where
  pub opening : new.commits.opening ≡ old.commits.opening
  pub story : StoryStays p old.pages.table old.commits.story new.commits.story
  pub pages : Leaves old.pages.grips old.pages.table new.pages.table
  pub held : LeavesHeld p old.pages.table new.pages.table
  pub made : LeavesMades p old.pages.grips old.pages.table new.pages.table
  pub records : (q : ℕ) (x : Spot) (h : Grip) → (q ≡ p → ⊥) → slice_get old.pages.grips q ≡ Some h
      → has_slot h.made x.slot ≡ true
      → place_of new.commits.story.places x ≡ place_of old.commits.story.places x
  pub seats : (q : ℕ) → (q ≡ p → ⊥) → slice_get new.commits.seats q ≡ slice_get old.commits.seats q
  pub grips : (q : ℕ) → (q ≡ p → ⊥) → slice_get new.pages.grips q ≡ slice_get old.pages.grips q
