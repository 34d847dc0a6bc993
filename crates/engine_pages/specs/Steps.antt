-- What a step tells the pass that makes it.
use Rattle.std.specs.Prelude.{◌≡◌, ℕ, ◌+◌, ◌==◌, not, List, [], ◌∷◌, ◌++◌, filter, Option, Some, None}
use Rattle.std.specs.List.{find}
use Rattle.std.specs.Option.{option_map, option_map_or}
use Rattle.atomic_table.specs.Table.{Me, Step}
use Rattle.engine_pages.specs.declared.view.Glance.{Glance}
use Rattle.engine_pages.specs.declared.view.Read.{Read}
use Rattle.engine_pages.specs.declared.view.View.{View}

-- a fact of the step, the view before, the number found and the view after, as a table without slots wants it
abbrev pub told : (Step (Unit {0}) → View → ℕ → View → Type 0) → Step (Unit {0}) → Me (Unit {0}) View → ℕ
    → Me (Unit {0}) View → Type 0
told tells s me n now = (now.1 ≡ me.1) × tells s me.0 n now.0

-- the step has no operands: it is a load
abbrev pub IsLoad : Step (Unit {0}) → Type 0
IsLoad s = (s.first ≡ 0) × (s.second ≡ 0)

-- a load that found this number
abbrev pub glance : ℕ → ℕ → ℕ → Glance
glance step word n = record { step = step; word = word; seen = n }

-- one load more, and no act
abbrev pub glanced : ℕ → ℕ → View → View
glanced word n v = record v { steps = v.steps + 1; last = Some (glance v.steps word n) }

-- ---- the words that a transaction met

-- what was last seen or left of a word, where it was met
abbrev pub seen_at : List Read → ℕ → Option ℕ
seen_at reads word = option_map (λ r. r.seen) (find (λ r. r.word == word) reads)

-- and the word of a pointer that is kept as a part
abbrev pub kept_at : List Read → ℕ → Option ℕ
kept_at reads word = option_map_or (λ r. r.kept) (find (λ r. r.word == word) reads) None

-- the words that were met, with this one as it was last seen or left, as it was before that, and as it is kept
abbrev pub noted : List Read → ℕ → ℕ → Option ℕ → List Read
noted reads word n kept =
    filter (λ r. not (r.word == word)) reads
    ++ record { word = word; seen = n; was = seen_at reads word; kept = kept } ∷ []

-- one more word was met, or left
abbrev pub with_read : List Read → ℕ → ℕ → List Read
with_read reads word n = noted reads word n (kept_at reads word)

-- a pointer's word was met, and is kept as a part
abbrev pub keep_read : List Read → ℕ → ℕ → List Read
keep_read reads word n = noted reads word n (Some n)

-- one load of a word that counts as met
abbrev pub read_at : ℕ → ℕ → View → View
read_at word n v = record (glanced word n v) { reads = with_read v.reads word n }
