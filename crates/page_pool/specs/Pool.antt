-- What a search for a usable slot tells.
use Rattle.std.specs.Prelude.{◌≡◌, ℕ, ◌+◌, ◌<◌, true, List, [], ◌∷◌, ◌++◌, length, Option, Result, Ok, Err}
use Rattle.std.specs.List.{last_or, list_all}
use Rattle.engine_pages.specs.declared.view.View.{View}
use Rattle.engine_pages.specs.Layout.{slot_at}
pub use Rattle.engine_pages.specs.Slots.{first_retired, is_retired_word, is_taken_word, looks, retired_one}
use Rattle.engine_pages.specs.Slots.{is_usable_word, HasGiven}
use Rattle.engine_pages.specs.Steps.{glanced}
use Rattle.page_pool.specs.declared.pool.PoolRefusal.{PoolRefusal}
use Rattle.page_pool.specs.declared.pool.PoolRefusal.TheVariants as refusals

-- ---- the search

-- The steps of the call loaded these words, of the first slots in order, and nothing behind the last one; nothing else
-- of the pass has changed.
pub record HasLooked (words : List ℕ) (v w : View) : Type 0 where
  pub steps : w.steps ≡ v.steps + length words
  pub looked : w.looked ≡ looks v.steps 0 words
  pub last : w.last ≡ last_or v.last (looks v.steps 0 words)
  pub only : w ≡ record v { steps = w.steps; last = w.last; looked = w.looked }

-- The call loaded the word of each slot, and none was usable; the lowest retired one is told.
pub record IsFull (told : Option (ℕ × ℕ)) (v w : View) : Type 0 where
  pub words : List ℕ
  pub count : length words ≡ v.layout.slots
  pub taken : list_all is_taken_word words ≡ true
  pub held : told ≡ first_retired 0 words
  pub seen : HasLooked words v w

-- The call loaded the words of the slots up to this one, which was the first usable one; u is what the pass knew then.
pub record IsFirst (t word : ℕ) (v u : View) : Type 0 where
  pub before : List ℕ
  pub count : length before ≡ t
  pub taken : list_all is_taken_word before ≡ true
  pub there : t < v.layout.slots
  pub usable : is_usable_word word ≡ true
  pub seen : HasLooked (before ++ word ∷ []) v u

-- The slot is the first usable one of those that the call looked at, and its last step gave it to the pass.
pub record HasTaken (t : ℕ) (v w : View) : Type 0 where
  pub word : ℕ
  pub seen : View
  pub first : IsFirst t word v seen
  pub given : HasGiven t seen word w

-- The first usable slot had another word as the call's last step saw it.
pub record IsChanged (at expected found : ℕ) (v w : View) : Type 0 where
  pub slot : ℕ
  pub place : at ≡ slot_at slot
  pub seen : View
  pub first : IsFirst slot expected v seen
  pub other : found ≡ expected → ⊥
  pub only : w ≡ glanced at found seen

-- why no slot was given
abbrev pub HasMissed : PoolRefusal → View → View → Type 0
HasMissed (refusals.Full held) v w = IsFull held v w
HasMissed (refusals.Changed word expected seen) v w = IsChanged word expected seen v w

-- the compare_exchange found a word other than this one
abbrev pub HasMissedOne : ℕ → ℕ → PoolRefusal → View → View → Type 0
HasMissedOne t word (refusals.Full held) v w = ⊥
HasMissedOne t word (refusals.Changed at expected seen) v w =
    (at ≡ slot_at t) × (expected ≡ word) × (seen ≡ word → ⊥) × (w ≡ glanced (slot_at t) seen v)

-- The compare_exchange on a slot whose word was found usable gives it, or tells that it saw another word.
abbrev pub HasFound : ℕ → ℕ → Result ℕ PoolRefusal → View → View → Type 0
HasFound t word (Ok given) v w = (given ≡ t) × HasGiven t v word w
HasFound t word (Err why) v w = HasMissedOne t word why v w
