-- What a seat keeps of a header to whose leaf it has added a key.
use Rattle.std.specs.Prelude.{◌≡◌, ℕ, List, [], ◌∷◌, ◌++◌, length, if◌then◌else◌}
use Rattle.serial_model.specs.declared.key.Key.{Key}
use Rattle.homes.specs.declared.places.Spot.{Spot}
use Rattle.homes.specs.declared.places.Move.{Move}
use Rattle.commit_core.specs.declared.place.Place.{Place}
use Rattle.commit_core.specs.declared.part.Word.TheVariants.{Header}
use Rattle.commit_core.specs.declared.part.Version.TheVariants.{Counted}
use Rattle.commit_core.specs.declared.part.Part.{Part}
use Rattle.commit_core.specs.declared.seat.Seat.{Seat}
use Rattle.commit_core.specs.declared.story.Story.{Story}
use Rattle.commit_core.specs.Places.{place_of}
use Rattle.commit_core.specs.Parts.{record_part, with_part}
use Rattle.drop_core.specs.declared.table.Table.{Table}
use Rattle.drop_core.specs.Table.{page_of}
use Rattle.drop_core.specs.Event.{leaf_keys, slot_span}
use Rattle.engine_rule.specs.JointState.{keeps_header_at}
use Rattle.engine_rule.specs.Event.{after_moves, next_spot}

-- the part of the header as it is then, told of the pages before
abbrev pub part_with_key : Table → ℕ → Key → Part
part_with_key d t k = record {
  word = Header t;
  version = Counted (length (leaf_keys (page_of d t) ++ k ∷ []));
  span = slot_span d t;
  less = leaf_keys (page_of d t) ++ k ∷ [];
  pairs = [];
}

-- what is kept, with that part and that of the new record, as it stands in its place
abbrev pub kept_with_key : Table → List (Spot × Place) → List Part → ℕ → Key → List Part
kept_with_key d places kept t k =
    with_part (with_part kept (part_with_key d t k))
    (record_part k (next_spot d t) (place_of places (next_spot d t)).content)

-- the seat with that kept instead, if it keeps the header with so many records
abbrev pub with_kept : Seat → ℕ → ℕ → List Part → Seat
with_kept s t n kept = if keeps_header_at s.kept t n then record s { kept = kept } else s

-- The keys have moved, and what the seat keeps of the header is renewed.
pub record IsRenewed (p : ℕ) (d : Table) (t : ℕ) (k : Key) (list : List Move) (m : Story) (s : Seat) (n : Story)
    (u : Seat) : Type 0 where
  pub story : n ≡ (after_moves p m s list).story
  pub seat : u ≡ with_kept (after_moves p m s list).seat t (length (leaf_keys (page_of d t)))
      (kept_with_key d m.places s.kept t k)
