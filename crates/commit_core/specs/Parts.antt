-- Words that were read, and what they vouch for.
use Rattle.std.specs.Prelude.{◌≡◌, ◌⊎◌, ◌==◌, ◌&&◌, Bool, true, false, not, List, [], ◌∷◌, ◌++◌, filter, None, is_some}
use mathlib.Core.Bool.{beq}
use Rattle.serial_model.specs.declared.key.Key.{Key}
use Rattle.homes.specs.declared.places.Content.{Content}
use Rattle.homes.specs.declared.places.Spot.{Spot}
use Rattle.homes.specs.declared.places.Span.{Span}
use Rattle.commit_core.specs.declared.part.Word.{Word}
use Rattle.commit_core.specs.declared.part.Word.TheVariants.{Record, Pointer, Header}
use Rattle.commit_core.specs.declared.part.Version.{Version}
use Rattle.commit_core.specs.declared.part.Version.TheVariants.{Numbered, Leads, Counted}
use Rattle.commit_core.specs.declared.part.Part.{Part}
use Rattle.homes.specs.Homes.{same_spot, same_at, in_span}
use Rattle.commit_core.specs.Keys.{same_number, has_key, content_at}

-- ---- words

-- the two are one word
abbrev pub same_word : Word → Word → Bool
same_word (Record x) (Record y) = same_spot x y
same_word (Record x) (Pointer y) = false
same_word (Record x) (Header t) = false
same_word (Pointer x) (Record y) = false
same_word (Pointer x) (Pointer y) = same_at x y
same_word (Pointer x) (Header t) = false
same_word (Header s) (Record y) = false
same_word (Header s) (Pointer y) = false
same_word (Header s) (Header t) = s == t

-- it is a record's: of any other word this machine doesn't know what it is now
abbrev pub is_record : Word → Bool
is_record (Record x) = true
is_record (Pointer x) = false
is_record (Header s) = false

-- what is compared of a record: its number, and whether it has a value
abbrev pub version_of : Content → Version
version_of c = Numbered c.number (is_some c.value)

-- the record has this version
abbrev pub is_version : Content → Version → Bool
is_version c (Numbered n there) = same_number c.number n && beq (is_some c.value) there
is_version c (Leads page) = false
is_version c (Counted n) = false

-- ---- what a part vouches for

-- the part vouches for what stands at this key
abbrev pub covers : Part → Key → Bool
covers part k = in_span part.span k && not (has_key part.less k)

-- what the part has for the key: where it has no pair, nothing was there
abbrev pub found : Part → Key → Content
found part k = content_at part.pairs k

-- the same content, or an absence in both: of an absence the number may be lost
abbrev pub IsSameOrAbsent : Content → Content → Type 0
IsSameOrAbsent c d = (c ≡ d) ⊎ ((c.value ≡ None) × (d.value ≡ None))

-- the state has what the part vouches for
abbrev pub Vouches : (Key → Content) → Part → Type 0
Vouches state part = (k : Key) → covers part k ≡ true → IsSameOrAbsent (found part k) (state k)

-- ---- the part of one record

-- this key alone
abbrev pub only : Key → Span
only k = record { storage = k.storage; low = k.key; high = k.key }

-- the record of the key at this place, with this content
abbrev pub record_part : Key → Spot → Content → Part
record_part k x c =
    record { word = Record x; version = version_of c; span = only k; less = []; pairs = (k, c) ∷ [] }

-- what is kept, with a part that replaces that of its word
abbrev pub with_part : List Part → Part → List Part
with_part kept part = filter (λ q. not (same_word q.word part.word)) kept ++ part ∷ []
