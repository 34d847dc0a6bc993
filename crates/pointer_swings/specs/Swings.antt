-- What a swing asks and tells: a pointer leads from a slot to the snapshot page that says what the slot's page says.
use Rattle.std.specs.Prelude.{◌≡◌, ◌⊎◌, ℕ, ◌+◌, ◌^◌, ◌<◌, ◌≤◌, ◌==◌, true, false, List, [], ◌∷◌, ◌++◌}
use Rattle.std.specs.Prelude.{length, get_or, Some, None}
use Rattle.std.specs.Prelude.{Contains, MatchBool, unwrap_or}
use Rattle.atomic_table.specs.Table.{Step}
use Rattle.serial_model.specs.declared.key.Key.{Key}
use Rattle.homes.specs.declared.places.At.{At}
use Rattle.homes.specs.declared.places.Content.{Content}
use Rattle.homes.specs.declared.places.Span.{Span}
use Rattle.homes.specs.Homes.{has_key}
use Rattle.wire_form.specs.Leaves.{array_leaf, array_fan}
use Rattle.wire_form.specs.Words.{number_word}
use Rattle.snapshot_store.specs.ArrayPages.{last_at}
use Rattle.snapshot_store.specs.Places.{page}
use Rattle.commit_core.specs.Parts.{record_part}
use Rattle.drop_core.specs.Table.{at_index}
use Rattle.engine_pages.specs.declared.view.Role.TheVariants.{Keeper}
use Rattle.engine_pages.specs.declared.view.View.{View}
use Rattle.engine_pages.specs.Pages.{is_array, is_leaf_span, keys_from}
use Rattle.engine_pages.specs.Pointers.{IsPointerAt, half_of}
use Rattle.engine_pages.specs.Resident.{array_word, array_value}
use Rattle.engine_pages.specs.Slots.{other_heads, other_shuts}
use Rattle.engine_pages.specs.Steps.{glanced, read_at, with_read}
use Rattle.engine_pages.specs.Words.{spot}
use Rattle.page_records.specs.Locks.{took_at}
use Rattle.dual_pointer.specs.Copies.{IsLeadOf}
use Rattle.pointer_swings.specs.Shuts.{shut_of}
use Rattle.pointer_swings.specs.TreeSwings.{IsTreeInnerAs, IsTreeLeafAs}

-- the key with this index among those of a span
abbrev pub key_in : Span → ℕ → Key
key_in sp i = record { storage = sp.storage; key = sp.low + i }

-- The pass has locked the record with this index in the slot's leaf, and what it keeps of it is what these words of a
-- snapshot page say.
pub record IsLockedAs (v : View) (t : ℕ) (sp : Span) (words : List ℕ) (i : ℕ) : Type 0 where
  pub content : Content
  pub kept : Contains v.seat.kept (record_part (key_in sp i) (spot t i) content)
  pub took : Contains v.took (took_at (key_in sp i) (spot t i) (number_word content.number))
  pub number : number_word content.number ≡ array_word words i
  pub value : unwrap_or content.value 0 ≡ array_value words i

-- The keys are those of an array's page of some height. Of a leaf the pass has locked each record, and nothing else, as
-- the snapshot page with this number has it; of an interior page it has shut each pointer, which leads to no slot and
-- where that page leads, and has locked nothing.
pub record IsArrayAs (v : View) (t : ℕ) (sp : Span) (number : ℕ) : Type 0 where
  pub array : is_array v.layout.decls sp.storage ≡ true
  pub height : ℕ
  pub exact : sp.high ≡ sp.low + last_at height
  pub records : is_leaf_span sp ≡ true → (i : ℕ) → i < array_leaf.room → IsLockedAs v t sp (page v.pages number) i
  pub pointers : is_leaf_span sp ≡ false → (j : ℕ) → j < array_fan
      → Contains v.shuts (shut_of (at_index t j) (get_or (page v.pages number) j 0))
  pub low : is_leaf_span sp ≡ false → (j : ℕ) → j < array_fan → get_or (page v.pages number) j 0 < 2 ^ 32
  pub own : is_leaf_span sp ≡ true → (k : Key) → has_key v.seat.locks k ≡ true
      → has_key (keys_from sp.storage sp.low array_leaf.room) k ≡ true
  pub unlocked : is_leaf_span sp ≡ false → v.seat.locks ≡ []

-- The maintenance thread's pass may swing the pointer, where it finds this word, which is that of an open one that
-- leads to the slot. The snapshot page with this number, if there is one, stands for the same keys, and says what the
-- slot's page does, which is an array's, or a leaf or an interior page of a tree, and of which the pass has locked or
-- shut all.
pub record CanSwing (v : View) (x : At) (sp : Span) (at t number expected : ℕ) : Type 0 where
  pub keeper : v.role ≡ Keeper
  pub place : IsPointerAt v x sp at
  pub leads : half_of expected ≡ Some t
  pub there : number ≤ length v.pages
  pub lead : 0 < number → IsLeadOf v sp number
  pub page : IsArrayAs v t sp number ⊎ (IsTreeLeafAs v t sp number ⊎ IsTreeInnerAs v t sp number)

-- Nothing leads to the slot any more, whose locks, header and shut pointers are nobody's; which pointer did is known.
abbrev pub swung : ℕ → ℕ → ℕ → ℕ → View → View
swung t at number n v = record (glanced at n v) {
  reads = with_read v.reads at number;
  seat = record v.seat { locks = [] };
  took = [];
  loaded = None;
  grip = record v.grip { taken = t ∷ v.grip.taken };
  heads = other_heads t v.heads;
  shuts = other_shuts t v.shuts;
  swung = v.swung ++ record { word = at; slot = t } ∷ [];
}

-- the pointer is swung exactly where its word was the one that was expected
abbrev pub HasSwung : ℕ → ℕ → ℕ → ℕ → View → ℕ → View → Type 0
HasSwung t at number expected v n w = MatchBool (n == expected) (w ≡ swung t at number n v) (w ≡ read_at at n v)

-- the same of the step
abbrev pub Swings : ℕ → ℕ → Step (Unit {0}) → View → ℕ → View → Type 0
Swings t number s v n w = (s.second ≡ number) × HasSwung t s.word number s.first v n w
