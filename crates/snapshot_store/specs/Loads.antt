-- What the calls that read pages from the device say, in one record each.
use Rattle.std.specs.Prelude.{◌≡◌, ◌≢◌, ◌↔◌, ◌-◌, ◌*◌, ◌<◌, ℕ, true, List, length, take, drop}
use Rattle.std.specs.Prelude.{Option, Result, Err, IfOk, OnOk}
use Rattle.lists.specs.declared.memory.OrMemory.{OrMemory}
use Rattle.lists.specs.declared.memory.OrMemory.TheVariants.{Fault}
use Rattle.outside.specs.Disk.{IfTold}
use Rattle.outside.specs.Faults.{Rose}
use Rattle.outside.specs.Reads.{OnlyReads}
use Rattle.wire_form.specs.declared.page.Page.{Page}
use Rattle.wire_form.specs.declared.page.PageKind.TheVariants.{Catalogue}
use Rattle.snapshot_store.specs.Store.{StoreState, AreRead, AreStored, HoldsPages, IsWhole, bytes_of_page}
use Rattle.snapshot_store.specs.Store.{bytes_of_pages}
use Rattle.snapshot_store.specs.declared.store.StoreFault.{StoreFault}
use Rattle.snapshot_store.specs.declared.store.StoreFault.TheVariants.{Device, Limit, Short}

-- The page with a number was read where the device has it, whatever kind of page it is. No fault but the device's own
-- is answered, where the device tells its bytes, and nothing was changed.
pub record ReadsPage {D : Type 0} (tells : D → Option (List ℕ)) (clock : D → ℕ)
    (image_at : D → ℕ → List ℕ → Type 0) (faults gave_last : D → ℕ) (place : ℕ)
    (before after : D) (result : Result Page (OrMemory StoreFault)) : Type 0 where
  pub bytes : IfOk result (λ page. IfTold (tells before) (λ file.
      bytes_of_page page ≡ take 512 (drop (512 * (place - 1)) file)))
  pub whole : IfOk result IsWhole
  pub gave : OnOk result (gave_last after ≡ 512)
  pub number : IfOk result (λ page. page.number ≡ place)
  pub kind : IfOk result (λ page. page.kind ≡ Catalogue)
  pub short : (at : ℕ) → result ≡ Err (Fault (Short at)) → IfTold (tells before) (λ file. ⊥)
  pub never_limit : (count : ℕ) → result ≢ Err (Fault (Limit count))
  pub device : result ≡ Err (Fault Device) → Rose (faults before) (faults after)
  pub quiet : OnOk result (faults after ≡ faults before)
  pub spared : result ≢ Err (Fault Device) → faults after ≡ faults before
  pub reads : OnlyReads tells clock image_at faults before after

-- So many pages were read from the front of the device, which has them. No fault but the device's own is answered,
-- where the device tells its bytes, and nothing was changed.
pub record ReadsFront {D X : Type 0} (tells : D → Option (List ℕ)) (clock : D → ℕ)
    (image_at : D → ℕ → List ℕ → Type 0) (faults : D → ℕ) (many : ℕ) (before after : D)
    (result : Result X (OrMemory StoreFault)) (pages_of : X → List Page) : Type 0 where
  pub bytes : IfOk result (λ found. IfTold (tells before) (λ file.
      bytes_of_pages (pages_of found) ≡ take (512 * many) file))
  pub stored : IfOk result (λ found. AreStored (pages_of found))
  pub read : IfOk result (λ found. AreRead many (pages_of found))
  pub short : (at : ℕ) → result ≡ Err (Fault (Short at)) → IfTold (tells before) (λ file. ⊥)
  pub never_limit : (count : ℕ) → result ≢ Err (Fault (Limit count))
  pub device : result ≡ Err (Fault Device) → Rose (faults before) (faults after)
  pub quiet : OnOk result (faults after ≡ faults before)
  pub spared : result ≢ Err (Fault Device) → faults after ≡ faults before
  pub reads : OnlyReads tells clock image_at faults before after

-- A store was made of so many pages at the front of the device. Or the device is shorter, or there are fewer numbers
-- than pages, or it failed, or memory was wanted; and nothing was changed.
pub record LoadsStore {D : Type 0} (tells : D → Option (List ℕ)) (clock : D → ℕ)
    (image_at : D → ℕ → List ℕ → Type 0) (faults : D → ℕ) (many : ℕ) (before after : D)
    (result : Result StoreState (OrMemory StoreFault)) : Type 0 where
  pub bytes : IfOk result (λ store. IfTold (tells before) (λ file.
      bytes_of_pages store.pages ≡ take (512 * many) file))
  pub read : IfOk result (λ store. AreRead many store.pages)
  pub sound : IfOk result (λ store. store.sound ≡ true)
  pub holds : IfOk result (λ store. HoldsPages tells after store.pages)
  pub short : (at : ℕ) → result ≡ Err (Fault (Short at))
      → IfTold (tells before) (λ file. (at ≡ length file) × (at < 512 * many))
  pub limit : (pages : ℕ) → (result ≡ Err (Fault (Limit pages))) ↔ ((pages ≡ many) × (65536 < many))
  pub device : result ≡ Err (Fault Device) → Rose (faults before) (faults after)
  pub quiet : OnOk result (faults after ≡ faults before)
  pub spared : result ≢ Err (Fault Device) → faults after ≡ faults before
  pub reads : OnlyReads tells clock image_at faults before after
