-- How the pages of an array are written anew.
use Rattle.std.specs.Prelude.{◌≡◌, ℕ, ◌+◌, ◌-◌, ◌*◌, ◌<◌, List, [], ◌∷◌, Option, Some, None, cond, slice_set, suc, ⊤}
use Rattle.serial_model.specs.declared.number.Number.{Number}
use Rattle.serial_model.specs.Numbers.{IsNumber}
use Rattle.wire_form.specs.Words.{number_word}
use Rattle.wire_form.specs.Bytes.{padded}
use Rattle.snapshot_store.specs.ArrayPages.{fan}
use Rattle.snapshot_store.specs.declared.place.PagePlace.{PagePlace}
use Rattle.root_composer.specs.declared.last.Last.{Last}
use Rattle.root_composer.specs.Overlaid.{is_between}
use Rattle.root_composer.specs.Composer.{Writer}

-- a page's words, or zeros where there is no page
abbrev pub filled : List ℕ → List ℕ
filled words = padded fan words

-- a record at an index of a leaf; no array record is removed
abbrev pub put : ℕ → ℕ → Option ℕ → List ℕ → List ℕ
put i number None words = words
put i number (Some v) words = slice_set (slice_set words (2 * i) number) (2 * i + 1) v

-- the records of the run's keys from low to high
abbrev pub put_all : ℕ → ℕ → List Last → List ℕ → List ℕ
put_all low high [] words = words
put_all low high (e ∷ es) words =
    cond (is_between low high e.key) (put (e.key - low) e.number e.value (put_all low high es words)) (put_all low high es words)

-- an entry of an array puts a value at a key of it, with a commit number
pub record IsPut (size : ℕ) (e : Last) : Type 0 where
  pub key : e.key < size
  pub number : (n : Number) × IsNumber n × (e.number ≡ number_word n)
  pub value : (v : ℕ) × (e.value ≡ Some v)

-- a leaf is written anew as one leaf, so no shape is asked for
abbrev pub AnyShape : List (List ℕ) → PagePlace → Type 0
AnyShape pages p = ⊤

-- a leaf gets the run's records, and an interior page is its children's numbers
abbrev pub array_writer : Writer
array_writer = record {
  leaf = λ words p run before. record { number = suc before; pages = put_all p.low p.high run (filled words) ∷ []; levels = 1 };
  inner = λ words p numbers. numbers;
}
