-- Pages that were brought into memory for a key of a tree: the transaction goes on, and nothing was read.
use Rattle.std.proofs.Common.{◌≡◌, ℕ, ◌+◌, ◌-◌, ◌*◌, ◌/◌, ◌<◌, List, [], sym, ap, ◌∙◌, subst, arith}
use Rattle.std.specs.Prelude.{true}
use Rattle.lists.specs.Each.{AreDistinct}
use Rattle.serial_model.specs.declared.key.Key.{Key}
use Rattle.homes.specs.declared.places.Span.{Span}
use Rattle.homes.specs.declared.places.Spot.{Spot}
use Rattle.homes.specs.Homes.{in_span}
use Rattle.tx_sets.specs.declared.reads.ReadEntry.{ReadEntry}
use Rattle.tx_sets.specs.declared.seen.Seen.{Seen}
use Rattle.tx_sets.specs.declared.sets.Sets.{Sets}
use Rattle.tx_sets.specs.Entries.{places_of}
use Rattle.engine_pages.specs.declared.view.Role.TheVariants.{Keeper, Worker}
use Rattle.engine_pages.specs.declared.view.View.{View}
use Rattle.engine_pages.specs.declared.view.Way.{Way}
use Rattle.engine_pages.specs.Agreement.{TreesAgree}
use Rattle.engine_pages.specs.Records.{IsTreeRecordAt}
use Rattle.page_records.specs.Ends.{worker_of}
use Rattle.tree_walks.specs.Walks.{AreLedTo, HasWalked, KeepsMet, KeepsWords, OnlyTrees, OnlyWaysOn}
use Rattle.tree_walks.specs.Ways.{IsOnWay}
use Rattle.tree_making.specs.Making.{CanMake}
use Rattle.page_commit.specs.HeaderParts.{AreHeaders}
use Rattle.page_commit.specs.Live.{entry_places, AreMet, ArePointersKept, ArePointersMet, IsLive}
use Rattle.page_commit.specs.Places.{ground, slot_of, IsTreeKeyIn}
use Rattle.page_commit.proofs.AnyPlaces.{tree_key_here}
use Rattle.page_commit.proofs.BroughtLaws.{parts_grown}
use Rattle.page_commit.proofs.RoomLaws.{room_same}
use Rattle.page_commit.proofs.WalkedLaws.{can_walk, held_to, inside_only, kept_walked, live_grown, met_only, only_walked_same}
use Rattle.tree_calls.proofs.TreeWalkLaws.{beside_trees, tree_knows_more, tree_points, tree_walked}
use Rattle.tree_calls.proofs.WalkedLaws.{headers_walked, ways_on}
use Rattle.tree_writes.specs.Writing.{HasMade}

-- what it asks of a transaction
pub can_make : (sets : Sets) (v : View) → IsLive sets v → CanMake sets.holds v
can_make sets v live = record {
  walks = can_walk sets v live;
  worker = λ is. (let no_role : Keeper ≡ Worker (worker_of v.role) = sym is ∙ live.worker in absurd (cc));
  idle = live.stage;
  unlocked = live.locks;
  nothing_made = record {
    made = live.holds.made;
    taken = live.holds.taken;
    drafts = live.holds.drafts;
    copies = live.holds.copies;
    blanks = live.holds.blanks;
    leaves = live.holds.leaves;
    inners = live.holds.inners;
  };
  opened = live.holds.heads;
}

-- and what it comes to
pub has_made : (sets new : Sets) (v w : View) (k : Key) → IsLive sets v → HasWalked v w → CanMake new.holds w
    → w.seat.kept ≡ v.seat.kept → KeepsWords v w → OnlyTrees v w → OnlyWaysOn k v w → AreLedTo k v w
    → KeepsMet sets.pointers sets.headers v w → new.reads ≡ sets.reads → new.pointers ≡ sets.pointers
    → new.headers ≡ sets.headers → new.writes ≡ sets.writes → HasMade k sets new v w
has_made sets new v w k live walk can kept words only paths led keeps reads pointers headers writes =
    let more = tree_knows_more v w walk in
    let agree = can.walks.agree in
    let trees = can.walks.trees in
    let decls = can.walks.declared in record {
      live = live_grown sets new v w live (tree_walked v w walk) more can.walks record {
        parts = parts_grown sets new v w live agree more reads pointers headers kept;
        places = subst (λ (l : List ReadEntry). AreDistinct (entry_places l)) (sym reads) live.places;
        once = subst (λ (l : List Seen). AreDistinct (places_of l)) (sym pointers) live.once;
        writes = writes;
        met = subst (λ (l : List ReadEntry). AreMet l [] w) (sym reads)
            (met_only sets v w live more agree trees decls (beside_trees v w decls only));
        points = subst (λ (l : List Seen). ArePointersMet l w) (sym pointers) (tree_points sets v w live keeps);
        kept = subst (λ (l : List Seen). ArePointersKept l w) (sym pointers) (kept_walked sets v w live words);
        headers = subst (λ (l : List Seen). AreHeaders l w) (sym headers)
            (headers_walked sets v w live keeps (λ h has. words h.at));
        only = only_walked_same sets new v w live words pointers headers;
        inside = inside_only sets v w live more decls (beside_trees v w decls only);
        room = room_same sets new reads headers live.room;
      };
      only = tree_walked v w walk;
      paths = ways_on k v w paths;
      held = held_to k sets.holds new.holds v w live.holds can.walks.holds led;
      kept = kept;
      touched = ap (λ (y : View). y.touched) walk.is;
      reads = reads;
      pointers = pointers;
      headers = headers;
      writes = writes;
    }

-- a record in a leaf on the way to its key stands where a transaction finds it
pub place_on : (k : Key) (x : Spot) (sp : Span) (at : ℕ) (w : View) → TreesAgree w → IsOnWay k w x.slot sp
    → IsTreeRecordAt w k x at → IsTreeKeyIn (ground w) k at
place_on k x sp at w trees on p =
    let way : Way = record { slot = x.slot; span = sp } in
    let same = trees.spans way p.way on.way p.has (sym p.slot) on.tree in
    tree_key_here w k x at p (subst (λ (s : Span). in_span s k ≡ true) same on.over)

-- in the page of this slot
pub record_slot : (x : Spot) (at : ℕ) (k : Key) (w : View) → IsTreeRecordAt w k x at
    → slot_of w.layout.slots at ≡ x.slot
record_slot x at k w p =
    let few : x.index < 16 = p.index in
    let word : at ≡ ((32 + w.layout.slots) + 64 * x.slot) + (1 + (16 + 3 * x.index)) = p.word in
    let slot : (at - (32 + w.layout.slots)) / 64 ≡ x.slot = omega (arith, word, few) in slot
