-- A write behind some bytes, and a sync, leave these bytes.
use Rattle.std.proofs.Common.{◌≡◌, ◌≤◌, ◌<◌, ◌+◌, ℕ, Bool, true, false, List, Option, Some, None, inl, inr}
use Rattle.std.proofs.Common.{refl, sym, ap, subst, ◌∙◌, arith}
use Rattle.std.specs.Prelude.{is_some}
use Rattle.lists.specs.Fronts.{IsFront}
use Rattle.lists.specs.declared.memory.OrMemory.{OrMemory}
use Rattle.lists.specs.declared.memory.OrMemory.TheVariants.{Fault}
use Rattle.outside.specs.Disk.{Torn, Same, Goes}
use Rattle.outside.specs.Fronts.{AllBegin}
use Rattle.outside.specs.Moments.{runs_call, runs_then, left_after_runs}
use Rattle.wire_form.specs.declared.page.Page.{Page}
use Rattle.snapshot_store.specs.declared.store.StoreFault.{StoreFault}
use Rattle.snapshot_store.specs.declared.store.StoreFault.TheVariants.{Device as Failed, Short, Limit}
use Rattle.snapshot_store.specs.Store.{StoreState, KeepsFront}
use Rattle.snapshot_store.proofs.Writes.{front_torn}

-- the device is all that an append of pages with numbers tells of
only_failed : (f : StoreFault) → ((at : ℕ) → f ≡ Short at → ⊥) → ((n : ℕ) → f ≡ Limit n → ⊥) → f ≡ Failed
only_failed Failed short limit = refl
only_failed (Short at) short limit = absurd (short at refl)
only_failed (Limit n) short limit = absurd (limit n refl)

pub refused_failed : (e : OrMemory StoreFault) (fault : StoreFault) (have more : ℕ) → e ≡ Fault fault → have + more ≤ 65536
    → ((at : ℕ) → e ≡ Fault (Short at) → ⊥) → ((n : ℕ) → e ≡ Fault (Limit n) → (n ≡ have + more) × (65536 < n))
    → fault ≡ Failed
refused_failed e fault have more is few short limit =
    only_failed fault (λ at same. short at (is ∙ ap (λ f. Fault f) same)) (λ n same.
    let over = limit n (is ∙ ap (λ f. Fault f) same) in omega (arith, over.0, over.1, few))

module _ {D : Type 0} {clock : D → ℕ} {image_at : D → ℕ → List ℕ → Type 0} {at count : ℕ} where
  pub write_keeps : {old new : D} → Goes clock image_at (Torn at count) old new → KeepsFront clock image_at at old new
  write_keeps goes front within all =
      runs_call (λ d c was torn. front_torn front at count d c within torn (all d was)) goes

  pub synced_keeps : {old mid new : D} → Goes clock image_at (Torn at count) old mid → Goes clock image_at Same mid new
      → KeepsFront clock image_at at old new
  synced_keeps {mid = mid} goes next front within all =
      let first = write_keeps goes front within all in
      let begun : AllBegin (image_at mid (clock mid)) front = λ d left. elim (left_after_runs d first left) [
        | inl was ↦ all d was
        | inr now ↦ now
      ] in
      runs_then first (runs_call (λ d c was same. subst (IsFront front) same (begun d was)) next)

-- a store of these parts
abbrev store_of : List Page → Bool → StoreState
store_of pages sound = record { pages = pages; sound = sound }

-- what isn't false is true
true_of : (b : Bool) → (b ≡ false → ⊥) → b ≡ true
true_of true never = refl
true_of false never = absurd (never refl)

-- a store with the same pages, of which no call said that the device failed, is as it was
pub same_store : (old new : StoreState) → new.pages ≡ old.pages → old.sound ≡ true → (new.sound ≡ false → ⊥) → new ≡ old
same_store old new pages was never =
    ap (λ l. store_of l new.sound) pages
    ∙ ap (λ b. store_of old.pages b) (true_of new.sound never ∙ sym was)

-- something that is there is one thing
pub some_of : {X : Type 0} (o : Option X) → is_some o ≡ true → (x : X) × (o ≡ Some x)
some_of None is = absurd cc
some_of (Some x) is = (x, refl)
