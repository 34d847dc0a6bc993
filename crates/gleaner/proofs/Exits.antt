-- What exits answer, over plain variables: a tactic within an answer reads all that is known there.
use Rattle.std.proofs.Common.{◌≡◌, ◌+◌, ◌≤◌, ℕ, Bool, List, Option, Some, None, Result, Ok}
use Rattle.std.proofs.Common.{Err, arith, false, length, map, true}
use Rattle.std.proofs.lemmas.List.{length-map}
use Rattle.lists.specs.declared.memory.OrMemory.{OrMemory}
use Rattle.lists.specs.declared.memory.OrMemory.TheVariants.{Fault, Memory}
use Rattle.wire_form.specs.declared.page.Page.{Page}
use Rattle.snapshot_store.specs.Content.{words_of}
use Rattle.gleaner.specs.declared.gleaning.Gleaned.{Gleaned}
use Rattle.gleaner.specs.declared.gleaning.Gleaned.TheVariants.{Empty, Snap}

-- a test that failed didn't pass
pub not_true : ◌≡◌ {A = Bool} false true → ⊥
not_true bad = cc

module _ {T E : Type 0} where
  -- what was done is no fault, and a fault is nothing done
  pub not_err : (x : T) (e : E) → ◌≡◌ {A = Result T E} (Ok x) (Err e) → ⊥
  not_err x e bad = cc

  pub not_ok : (e : E) (x : T) → ◌≡◌ {A = Result T E} (Err e) (Ok x) → ⊥
  not_ok e x bad = cc

  -- the fault that is told
  pub same_err : (x y : E) → ◌≡◌ {A = Result T E} (Err x) (Err y) → x ≡ y
  same_err x y is = cc

-- a fault that is told of another answer
pub err_again : {T U E : Type 0} (x y : E) → ◌≡◌ {A = Result T E} (Err x) (Err y)
    → ◌≡◌ {A = Result U E} (Err x) (Err y)
err_again x y is = cc

module _ {T E : Type 0} where
  -- want of memory is no fault
  pub memory_is_no_fault : (f : E) → ◌≡◌ {A = Result T (OrMemory E)} (Err Memory) (Err (Fault f)) → ⊥
  memory_is_no_fault f bad = cc

  -- the fault that is told beside want of memory, and told under another name
  pub told_fault : (x y : E) → ◌≡◌ {A = Result T (OrMemory E)} (Err (Fault x)) (Err (Fault y)) → x ≡ y
  told_fault x y is = cc

  pub fault_again : (x y : E) → x ≡ y → ◌≡◌ {A = Result T (OrMemory E)} (Err (Fault x)) (Err (Fault y))
  fault_again x y is = cc

-- the fault that it was, where another one is told of the same answer
pub same_fault : {T E : Type 0} (o : OrMemory E) (x y : E) → o ≡ Fault x
    → ◌≡◌ {A = Result T (OrMemory E)} (Err o) (Err (Fault y)) → x ≡ y
same_fault o x y was told = cc

-- nothing failed beside it
pub none_beside : {X : Type 0} (o : Option X) (x : X) → o ≡ None → o ≡ Some x → ⊥
none_beside o x none is = cc

module _ {E : Type 0} where
  -- where nothing counts there is no snapshot
  pub not_snap : (epoch new : ℕ) → ◌≡◌ {A = Result Gleaned E} (Ok Empty) (Ok (Snap epoch new)) → ⊥
  not_snap epoch new bad = cc

  pub not_empty : (epoch new : ℕ) → ◌≡◌ {A = Result Gleaned E} (Ok (Snap epoch new)) (Ok Empty) → ⊥
  not_empty epoch new bad = cc

  -- the snapshot that is told
  pub same_snap : (epoch new other more : ℕ) → ◌≡◌ {A = Result Gleaned E} (Ok (Snap epoch new)) (Ok (Snap other more))
      → (other ≡ epoch) × (more ≡ new)
  same_snap epoch new other more is = (cc, cc)

-- so many pages stand within the room, told in words
pub words_within : (pages : List Page) (new len many room : ℕ) → new ≡ len → len ≡ many → length pages + many ≤ room
    → length (words_of pages) + new ≤ room
words_within pages new len many room is has within = omega (
  arith,
  is,
  has,
  within,
  length-map pages
      (λ (p : Page). p.words),
)
