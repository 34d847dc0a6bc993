-- Which word is which.
use Rattle.std.specs.Prelude.{ℕ, ◌+◌, ◌-◌, ◌*◌}
use Rattle.engine_pages.specs.declared.layout.Layout.{Layout}

-- ---- the first words

-- the clock: the next number
abbrev pub clock_at : ℕ
clock_at = 0

-- how many attempts count
abbrev pub decisions_at : ℕ
decisions_at = 1

-- the mark of a worker
abbrev pub mark_at : ℕ → ℕ
mark_at worker = 2 + worker

-- the root's pointer of a storage
abbrev pub root_at : ℕ → ℕ
root_at r = 10 + r

-- how many snapshot pages are published
abbrev pub published_at : ℕ
published_at = 26

-- the words from here on are those of slots and pages
abbrev pub slots_at : ℕ
slots_at = 32

-- ---- slots and pages

-- the word of a slot
abbrev pub slot_at : ℕ → ℕ
slot_at t = 32 + t

-- a word of a slot's page, where there are so many slots
abbrev pub page_at : ℕ → ℕ → ℕ → ℕ
page_at slots t i = ((32 + slots) + 64 * t) + i

-- a word of a snapshot page
abbrev pub snap_at : ℕ → ℕ → ℕ → ℕ
snap_at slots n i = ((32 + 65 * slots) + 64 * (n - 1)) + i

-- how many words there are
abbrev pub words_of : Layout → ℕ
words_of l = (32 + 65 * l.slots) + 64 * l.resident
