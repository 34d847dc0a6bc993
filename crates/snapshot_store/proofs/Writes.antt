-- What a write behind pages leaves of the device that has them.
use Rattle.std.proofs.Common.{◌≡◌, ◌∙◌, sym, ap, subst, refl, ◌≤◌, ◌+◌, ◌*◌, ℕ, List, ◌++◌, length, take, drop, true, false, is_some, Option, Some, None, Bool, arith}
use Rattle.std.specs.List.{AllByRecursion}
use Rattle.std.proofs.lemmas.List.{take_at}
use Rattle.std.proofs.lemmas.Option.{same_Some}
use Rattle.lists.specs.Fronts.{IsFront, front_length}
use Rattle.outside.specs.Disk.{IfTold, written, Torn}
use Rattle.outside.specs.Fronts.{begins_torn}
use Rattle.wire_form.specs.declared.page.Page.{Page}
use Rattle.snapshot_store.specs.Store.{bytes_of_pages, IsWhole, HoldsPages, WritesAt}
use Rattle.snapshot_store.proofs.Pages.{length-bytes_of_pages, bytes_of_pages-append}

-- a device that tells its bytes told them before
was_told : (told now : Option (List ℕ)) → is_some now ≡ is_some told → (left : List ℕ) → now ≡ Some left → (file : List ℕ) × told ≡ Some file
was_told (Some file) now same left is = (file, refl)
was_told None now same left is = absurd (let here : is_some now ≡ true = ap is_some is in cc)

-- a write behind some bytes leaves them
pub front_torn : (front : List ℕ) (at count : ℕ) (d c : List ℕ) → length front ≤ at → Torn at count d c → IsFront front d → IsFront front c
front_torn front at count d c within torn was =
    begins_torn (length front) at count d c within torn ∙ was

-- what is written behind bytes has them before it
front_written : (at : ℕ) (front bytes file : List ℕ) → length front ≡ at → IsFront front file → IsFront (front ++ bytes) (written at bytes file)
front_written at front bytes file size is =
    let same : take at file ≡ front = ap (λ k. take k file) (sym size) ∙ is in
    subst (λ l. IsFront (front ++ bytes) (l ++ bytes ++ drop (at + length bytes) file)) (sym same)
    (take_at (front ++ bytes) (drop (at + length bytes) file) (length (front ++ bytes)) refl)

-- a device that has pages is at least as long as they are
pub reaches : (told : Option (List ℕ)) (pages : List Page) → AllByRecursion IsWhole pages → IfTold told (IsFront (bytes_of_pages pages))
    → IfTold told (λ file. 512 * length pages ≤ length file)
reaches told pages whole holds file is = omega (arith, front_length (bytes_of_pages pages) file (holds file is), length-bytes_of_pages pages whole)

module _ {D : Type 0} {tells : D → Option (List ℕ)} {clock : D → ℕ} {image_at : D → ℕ → List ℕ → Type 0} {faults : D → ℕ} {old new : D} where
  -- what was there and what was written are there
  pub holds_written : (there more : List Page) → AllByRecursion IsWhole there → HoldsPages tells old there
      → WritesAt tells clock image_at faults (512 * length there) (bytes_of_pages more) old new true → HoldsPages tells new (there ++ more)
  holds_written there more whole holds writes left is =
      let was = was_told (tells old) (tells new) writes.told left is in
      let front = front_written (512 * length there) (bytes_of_pages there) (bytes_of_pages more) was.0 (length-bytes_of_pages there whole) (holds was.0 was.1) in
      let same = same_Some (written (512 * length there) (bytes_of_pages more) was.0) left (sym (writes.written refl was.0 was.1) ∙ is) in
      let bytes : bytes_of_pages there ++ bytes_of_pages more ≡ bytes_of_pages (there ++ more) = sym (bytes_of_pages-append there more) in
      subst (λ l. IsFront l left) bytes (subst (λ l. IsFront (bytes_of_pages there ++ bytes_of_pages more) l) same front)

  -- what was there is there
  pub holds_torn : (there : List Page) (bytes : List ℕ) → AllByRecursion IsWhole there → HoldsPages tells old there
      → WritesAt tells clock image_at faults (512 * length there) bytes old new false → HoldsPages tells new there
  holds_torn there bytes whole holds writes left is =
      let was = was_told (tells old) (tells new) writes.told left is in
      front_torn (bytes_of_pages there) (512 * length there) (length bytes) was.0 left (omega (arith, length-bytes_of_pages there whole))
      (writes.torn refl was.0 was.1 left is) (holds was.0 was.1)

  -- the same, where the place and the bytes are told otherwise
  pub writes_same : (at at' : ℕ) (bytes bytes' : List ℕ) {done : Bool} → at ≡ at' → bytes ≡ bytes'
      → WritesAt tells clock image_at faults at bytes old new done → WritesAt tells clock image_at faults at' bytes' old new done
  writes_same at at' bytes bytes' {done = done} same_at same_bytes writes =
      subst (λ b. WritesAt tells clock image_at faults at' b old new done) same_bytes
      (subst (λ (k : ℕ). WritesAt tells clock image_at faults k bytes old new done) same_at writes)
