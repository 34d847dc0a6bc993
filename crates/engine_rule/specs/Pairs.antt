-- What snapshot pages have for keys, and the part that a pointer vouches by.
use Rattle.std.specs.Prelude.{ℕ, List, [], ◌∷◌, ◌++◌, map, filter}
use Rattle.serial_model.specs.declared.key.Key.{Key}
use Rattle.homes.specs.declared.places.Content.{Content}
use Rattle.homes.specs.declared.places.At.{At}
use Rattle.homes.specs.declared.places.Home.{Home}
use Rattle.homes.specs.declared.places.Home.TheVariants.{InSlot, InPage, Nowhere}
use Rattle.homes.specs.Homes.{in_span}
use Rattle.commit_core.specs.declared.part.Word.TheVariants.{Pointer}
use Rattle.commit_core.specs.declared.part.Version.TheVariants.{Leads}
use Rattle.commit_core.specs.declared.part.Part.{Part}
use Rattle.commit_core.specs.Keys.{nothing}
use Rattle.drop_core.specs.declared.table.SnapPage.{SnapPage}
use Rattle.drop_core.specs.declared.table.SnapPage.TheVariants.{Missing, Entries, Children}
use Rattle.drop_core.specs.declared.table.Table.{Table}
use Rattle.drop_core.specs.Table.{pointer_of, snap_home}
use Rattle.drop_core.specs.Sound.{span_at}

-- what stands at a home in a snapshot page; nothing where there is no such home
abbrev pub page_content : Home → Content
page_content (InSlot x) = nothing
page_content (InPage n c) = c
page_content Nowhere = nothing

-- the keys that a page has entries of
abbrev pub page_keys : SnapPage → List Key
page_keys Missing = []
page_keys (Entries span entries) = map (λ e. e.0) entries
page_keys (Children span children) = []

-- the keys that some page has an entry of
abbrev pub snap_keys : List (ℕ × SnapPage) → List Key
snap_keys [] = []
snap_keys (s ∷ more) = page_keys s.1 ++ snap_keys more

-- what these homes have for the keys
abbrev pub pairs_for : (Key → Home) → List Key → List (Key × Content)
pairs_for homes keys = map (λ k. (k, page_content (homes k))) keys

-- what the snapshot page of a pointer has for the keys that the pointer is over
abbrev pub pairs_below : Table → At → List (Key × Content)
pairs_below d x = pairs_for (snap_home d (pointer_of d x).page) (filter (in_span (span_at d x)) (snap_keys d.snaps))

-- the part of a pointer that leads to no slot: it vouches for all keys below its snapshot page
abbrev pub pointer_part : Table → At → Part
pointer_part d x = record {
  word = Pointer x;
  version = Leads (pointer_of d x).page;
  span = span_at d x;
  less = [];
  pairs = pairs_below d x;
}
