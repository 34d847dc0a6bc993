-- The way from a pointer down to a key's home.
use Rattle.std.specs.Prelude.{ℕ, zero, suc, Option, Some, None, if◌then◌else◌}
use Rattle.serial_model.specs.declared.key.Key.{Key}
use Rattle.homes.specs.declared.places.At.{At}
use Rattle.homes.specs.declared.places.Span.{Span}
use Rattle.homes.specs.declared.places.Home.{Home}
use Rattle.homes.specs.Homes.{in_span}
use Rattle.drop_core.specs.declared.table.Page.{Page}
use Rattle.drop_core.specs.declared.table.Page.TheVariants.{Blank, Leaf, Inner, Split}
use Rattle.drop_core.specs.declared.table.Table.{Table}
use Rattle.drop_core.specs.Table.{page_of, pointer_of, at_index, snap_home, leaf_home}
use Rattle.drop_core.specs.Sound.{span_at}

-- what the function gives for what is there
abbrev pub option_and_then : {A B : Type 0} → (A → Option B) → Option A → Option B
option_and_then f None = None
option_and_then f (Some x) = f x

-- a child of the page in slot s, below this index, that has the key
abbrev pub child_with : (At → Span) → ℕ → ℕ → Key → Option At
child_with spans s zero k = None
child_with spans s (suc j) k =
    if in_span (spans (at_index s j)) k then Some (at_index s j) else child_with spans s j k

-- the key's home by a page, given how the way goes on from its pointers
abbrev pub way_page : (At → Option Home) → (At → Span) → ℕ → Key → Page → Option Home
way_page on spans s k Blank = None
way_page on spans s k (Leaf keys) = Some (leaf_home s 0 keys k)
way_page on spans s k (Inner n) = option_and_then on (child_with spans s n k)
way_page on spans s k Split = option_and_then on (child_with spans s 2 k)

-- the key's home by the two halves of a pointer
abbrev pub way_to : (At → Option Home) → Table → Key → Option ℕ → ℕ → Option Home
way_to on d k None page = Some (snap_home d page k)
way_to on d k (Some s) page = way_page on (span_at d) s k (page_of d s)

-- the home to which the pointer leads for a key, where so many slots' pages are enough
unfoldable pub way : ℕ → Table → At → Key → Option Home
way zero d x k = None
way (suc f) d x k = way_to (λ y. way f d y k) d k (pointer_of d x).slot (pointer_of d x).page
