-- Pages where they stand on their device.
use Rattle.std.specs.Prelude.{◌≡◌, ℕ, ◌-◌, ◌*◌, ◌^◌, ◌<◌, ◌≤◌, List, length, take, drop}
use Rattle.std.specs.List.{AllByRecursion}
use Rattle.wire_form.specs.Bytes.{bytes_of}

-- the 512 bytes of the page with this number, of which the first is 1
abbrev pub page_bytes : ℕ → List ℕ → List ℕ
page_bytes number device = take 512 (drop (512 * (number - 1)) device)

-- the device has these words as the page with this number, whatever kind of page they are
pub record HasWords (device : List ℕ) (number : ℕ) (words : List ℕ) : Type 0 where
  pub first : 1 ≤ number
  pub inside : 512 * number ≤ length device
  pub fit : AllByRecursion (λ w. w < 2 ^ 64) words
  pub spelled : page_bytes number device ≡ bytes_of words
