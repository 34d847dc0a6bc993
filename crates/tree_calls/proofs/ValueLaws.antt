-- What a key that was found comes to, with what joined the sets.
use Rattle.std.proofs.Common.{◌≡◌, ◌++◌, ◌∷◌, [], false, List, ap, sym, subst, ◌∙◌, ℕ, Some}
use Rattle.serial_model.specs.declared.key.Key.{Key}
use Rattle.tx_sets.specs.declared.seen.Seen.{Seen}
use Rattle.tx_sets.specs.declared.sets.Sets.{Sets}
use Rattle.tx_sets.specs.Entries.{has_read}
use Rattle.engine_pages.specs.declared.view.View.{View}
use Rattle.tree_walks.specs.declared.finding.Found.{Found}
use Rattle.tree_walks.specs.declared.finding.Found.TheVariants as places
use Rattle.wire_form.specs.Words.{number_in}
use Rattle.commit_core.specs.Keys.{nothing}
use Rattle.tree_walks.specs.Finding.{IsFound, MeetsOnly}
use Rattle.tree_walks.specs.Walks.{AreLedTo, CanWalk, HasWalked, KeepsMet, OnlyWaysOn}
use Rattle.page_commit.specs.Keeping.{MeetsPointer}
use Rattle.page_commit.specs.Live.{HasHolds, IsLive}
use Rattle.page_commit.proofs.RoomLaws.{room_same}
use Rattle.page_commit.proofs.WalkedLaws.{holds_walked}
use Rattle.tree_calls.specs.Keeping.{lacks_entry, value_in, HasValue, KeepsFound}
use Rattle.tree_calls.proofs.FoundBelow.{value_below}
use Rattle.tree_calls.proofs.FoundHeader.{value_header}
use Rattle.tree_calls.proofs.FoundRecord.{value_record}
use Rattle.tree_calls.proofs.SetLaws.{room_header, room_record}
use Rattle.tree_calls.proofs.TreeWalkLaws.{tree_walked}

-- the holds behind a walk
pub holds_after : (sets : Sets) (late : List ℕ) (v w : View) → IsLive sets v → HasWalked v w → CanWalk late w → HasHolds late w
holds_after sets late v w live walk can = holds_walked sets.holds late v w live.holds (tree_walked v w walk) can

-- `mid` has the holds of the walk
pub value_found : (f : Found) (sets mid new : Sets) (v w : View) (k : Key) → mid.reads ≡ sets.reads
    → mid.pointers ≡ sets.pointers → mid.headers ≡ sets.headers → mid.writes ≡ sets.writes → IsLive sets v → HasWalked v w
    → CanWalk mid.holds w → MeetsOnly f v w → OnlyWaysOn k v w → AreLedTo k v w
    → KeepsMet sets.pointers sets.headers v w → IsFound k sets.pointers sets.headers f v w → has_read k sets.reads ≡ false
    → lacks_entry mid f ≡ false → KeepsFound k f mid new → HasValue k (value_in f) sets new v w
value_found (places.Volatile at word value) sets mid new v w k reads pointers headers writes live walk can only paths led keeps f none room h =
    value_record sets new v w k at word value live walk (subst (λ (l : List ℕ). CanWalk l w) (sym (h.0).holds) can) only keeps f
    none (h.3 ∙ ap (λ l. l ++ record { key = k; at = at; word = word; value = value } ∷ []) reads) (h.1 ∙ pointers)
    (h.2 ∙ headers) ((h.0).writes ∙ writes)
    (room_record mid new (record { key = k; at = at; word = word; value = value }) h.3 h.2 room) paths led
value_found (places.Absent header word) sets mid new v w k reads pointers headers writes live walk can only paths led keeps f none room h =
    value_header sets new v w k header word live walk (subst (λ (l : List ℕ). CanWalk l w) (sym (h.0).holds) can) only keeps f
    (h.3 ∙ reads) (h.1 ∙ pointers)
    (subst (λ (l : List Seen). MeetsPointer (record { at = header; word = word }) l new.headers) headers h.2)
    ((h.0).writes ∙ writes)
    (room_header (record { at = header; word = word }) mid new h.3 h.2 room (room_same sets mid reads headers live.room))
    paths led
value_found (places.Snapshot value number p) sets mid new v w k reads pointers headers writes live walk can only paths led keeps f none room h =
    value_below sets new v w k (record { number = number_in number; value = Some value }) p live walk
    (subst (λ (l : List ℕ). CanWalk l w) (sym (h.0).holds) can) only keeps f (h.3 ∙ reads)
    (subst (λ (l : List Seen). MeetsPointer p l new.pointers) pointers h.1) (h.2 ∙ headers) ((h.0).writes ∙ writes) paths led
value_found (places.Zero p) sets mid new v w k reads pointers headers writes live walk can only paths led keeps f none room h =
    value_below sets new v w k nothing p live walk (subst (λ (l : List ℕ). CanWalk l w) (sym (h.0).holds) can) only keeps f
    (h.3 ∙ reads) (subst (λ (l : List Seen). MeetsPointer p l new.pointers) pointers h.1) (h.2 ∙ headers)
    ((h.0).writes ∙ writes) paths led
