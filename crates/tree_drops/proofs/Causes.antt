-- Why a leaf is kept, by the record's index and what the snapshot has for its key.
use Rattle.std.proofs.Common.{◌≡◌, inl, inr, ℕ, ◌+◌, ◌*◌, ◌/◌, ◌%◌, ◌^◌, List, Option, refl, sym, subst, arith}
use Rattle.std.specs.Prelude.{option_map}
use Rattle.serial_model.specs.declared.key.Key.{Key}
use Rattle.dual_pointer.specs.Installs.{tree_records}
use Rattle.snapshot_store.specs.Places.{Found}
use Rattle.snapshot_store.specs.TreePages.{record_for}
use Rattle.engine_pages.specs.declared.layout.Layout.{Layout}
use Rattle.engine_pages.specs.declared.view.KeptWhy.{KeptWhy}
use Rattle.engine_pages.specs.declared.view.KeptWhy.TheVariants.{UnlikeAt}
use Rattle.engine_pages.specs.declared.view.View.{View}
use Rattle.engine_pages.specs.Layout.{page_at}
use Rattle.engine_pages.specs.Words.{spot}
use Rattle.page_drops.specs.declared.noting.Kept.{Kept}
use Rattle.tree_drops.specs.declared.stored.Stored.{Stored}
use Rattle.tree_drops.specs.Leaves.{found_of, IsNew, IsOtherValue, IsRecordCause, IsStored, IsUnlike, LocksMore}
use Rattle.tree_drops.specs.Works.{KeepsIt, WorksOn}
use Rattle.tree_drops.proofs.Swung.{keeps_open}
use Rattle.tree_drops.proofs.Works.{layout_worked, pages_worked, reopened}

pub record_unlike : (slots t i at seen page epoch : ℕ) (pages : List (List ℕ)) (k : Key) (s : Option Stored)
    → at ≡ page_at slots t (17 + 3 * i) → ((seen / 2 ^ 60) % 2 ≡ 1 → ⊥) → IsStored (tree_records pages page) k.key s
    → IsUnlike (option_map found_of s) epoch seen
    → IsRecordCause slots t i k (record_for (tree_records pages page) k.key) epoch (UnlikeAt k) at seen
record_unlike slots t i at seen page epoch pages k s place even is other =
    (refl, inl (place, omega (arith, even), subst (λ (o : Option Found). IsUnlike o epoch seen) (sym is) other))

pub record_valued : (slots t i at seen page epoch : ℕ) (pages : List (List ℕ)) (k : Key) (s : Option Stored)
    → at ≡ page_at slots t (17 + 3 * i) → IsStored (tree_records pages page) k.key s → IsOtherValue (option_map found_of s) seen
    → IsRecordCause slots t i k (record_for (tree_records pages page) k.key) epoch (UnlikeAt k) (at + 1) seen
record_valued slots t i at seen page epoch pages k s place is other =
    (refl, inr (omega (arith, place), subst (λ (o : Option Found). IsOtherValue o seen) (sym is) other))

-- of an earlier view
pub record_back : (t i page epoch : ℕ) (k : Key) (v u : View) → WorksOn v u → (why : KeptWhy) (word seen : ℕ)
    → IsRecordCause u.layout.slots t i k (record_for (tree_records u.pages page) k.key) epoch why word seen
    → IsRecordCause v.layout.slots t i k (record_for (tree_records v.pages page) k.key) epoch why word seen
record_back t i page epoch k v u works why word seen so =
    subst (λ (l : Layout). IsRecordCause l.slots t i k (record_for (tree_records v.pages page) k.key) epoch why word seen)
    (layout_worked v u works)
    (subst (λ (ps : List (List ℕ)). IsRecordCause u.layout.slots t i k (record_for (tree_records ps page) k.key) epoch why word seen)
    (pages_worked v u works) so)

-- and of one where the record was locked and opened again
pub record_open : (t page epoch place word n : ℕ) (kept : Kept) (k : Key) (v u e w : View) → LocksMore k (spot t n) word v u
    → IsNew k v
    → KeepsIt (IsRecordCause u.layout.slots t n k (record_for (tree_records u.pages page) k.key) epoch) kept u e
    → w ≡ reopened k place word e
    → KeepsIt (IsRecordCause v.layout.slots t n k (record_for (tree_records v.pages page) k.key) epoch) kept v w
record_open t page epoch place word n kept k v u e w more new keeps is =
    keeps_open (IsRecordCause u.layout.slots t n k (record_for (tree_records u.pages page) k.key) epoch)
    (IsRecordCause v.layout.slots t n k (record_for (tree_records v.pages page) k.key) epoch) kept k (spot t n) place word v u e w
    more new keeps is
    (record_back t n page epoch k v u more.works kept.why kept.word kept.seen)
