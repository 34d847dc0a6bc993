-- What the calls that add pages say of the store and of its device, in one record each.
use Rattle.std.specs.Prelude.{◌≡◌, ◌≢◌, ◌↔◌, ◌⊎◌, ◌+◌, ◌*◌, ◌<◌, ◌≤◌, ◌++◌, ℕ, false, true, List, length}
use Rattle.std.specs.Prelude.{Option, is_some, Result, Err, is_ok, IfOk, OnOk, OnErr}
use Rattle.lists.specs.declared.memory.OrMemory.{OrMemory}
use Rattle.lists.specs.declared.memory.OrMemory.TheVariants.{Fault, Memory}
use Rattle.outside.specs.Disk.{IfTold}
use Rattle.outside.specs.Faults.{Rose}
use Rattle.outside.specs.Fronts.{AllBegin, KeepsSince}
use Rattle.wire_form.specs.declared.page.Page.{Page}
use Rattle.snapshot_store.specs.Store.{StoreState, HoldsPages, KeepsFront, WritesAt, bytes_of_pages}
use Rattle.snapshot_store.specs.declared.store.StoreFault.{StoreFault}
use Rattle.snapshot_store.specs.declared.store.StoreFault.TheVariants.{Device, Limit, Short}

-- Pages were added behind the others, in one write, and the number of the first is answered. Or the store has what it
-- had, and the cause is told. In each case the device begins with the pages of the store, and each image since some
-- moment begins with what all of them began with.
pub record AppendsPages {D : Type 0} (tells : D → Option (List ℕ)) (clock : D → ℕ)
    (image_at : D → ℕ → List ℕ → Type 0) (faults : D → ℕ) (more : List Page)
    (old new : StoreState) (before after : D) (result : Result ℕ (OrMemory StoreFault)) : Type 0 where
  pub pages : OnOk result (new.pages ≡ old.pages ++ more)
  pub first : IfOk result (λ number. number ≡ length old.pages + 1)
  pub kept : OnErr result (new.pages ≡ old.pages)
  pub sound : (new.sound ≡ false) ↔ (result ≡ Err (Fault Device))
  pub limit : (count : ℕ) → (result ≡ Err (Fault (Limit count)))
      ↔ ((count ≡ length old.pages + length more) × (65536 < count))
  pub never_short : (at : ℕ) → result ≢ Err (Fault (Short at))
  pub device : result ≡ Err (Fault Device) → Rose (faults before) (faults after)
  pub untouched : OnErr result (result ≢ Err (Fault Device) → after ≡ before)
  pub writes : WritesAt tells clock image_at faults (512 * length old.pages) (bytes_of_pages more)
      before after (is_ok result)
  pub holds : HoldsPages tells after new.pages
  pub stays : (since : ℕ) (front : List ℕ) → length front ≤ 512 * length old.pages
      → since ≤ clock before → KeepsSince clock image_at before since front
      → KeepsSince clock image_at after since front

-- Pages were added, and all are durable: each crash image begins with them. Or memory was wanted before anything was
-- done, or the device failed, and nobody may use the store any more. In each case every image begins with what all
-- images began with.
pub record AppendsDurably {D : Type 0} (tells : D → Option (List ℕ)) (clock : D → ℕ)
    (image_at : D → ℕ → List ℕ → Type 0) (faults : D → ℕ) (more : List Page)
    (old new : StoreState) (before after : D) (result : Result (Unit {0}) (OrMemory StoreFault)) : Type 0 where
  pub pages : OnOk result (new.pages ≡ old.pages ++ more)
  pub grown : OnErr result ((new.pages ≡ old.pages) ⊎ (new.pages ≡ old.pages ++ more))
  pub sound : OnOk result (new.sound ≡ true)
  pub holds : OnOk result (HoldsPages tells after new.pages)
  pub durable : OnOk result (IfTold (tells before) (λ _.
      AllBegin (image_at after (clock after)) (bytes_of_pages new.pages)))
  pub runs : KeepsFront clock image_at (512 * length old.pages) before after
  pub told : is_some (tells after) ≡ is_some (tells before)
  pub causes : (fault : StoreFault) → result ≡ Err (Fault fault) → fault ≡ Device
  pub unsound : (fault : StoreFault) → result ≡ Err (Fault fault) → new.sound ≡ false
  pub device : (fault : StoreFault) → result ≡ Err (Fault fault) → Rose (faults before) (faults after)
  pub quiet : OnOk result (faults after ≡ faults before)
  pub untouched : result ≡ Err Memory → (after ≡ before) × (new ≡ old)
