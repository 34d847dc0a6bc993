-- A page that was brought up for a write: the transaction goes on, and nothing was read.
use Rattle.std.proofs.Common.{◌≡◌, inl, inr, ℕ, List, [], sym, ap, ◌∙◌, subst}
use Rattle.std.specs.Prelude.{Contains}
use Rattle.lists.specs.Each.{AreDistinct}
use Rattle.serial_model.specs.declared.key.Key.{Key}
use Rattle.homes.specs.declared.places.Spot.{Spot}
use Rattle.tx_sets.specs.declared.reads.ReadEntry.{ReadEntry}
use Rattle.tx_sets.specs.declared.seen.Seen.{Seen}
use Rattle.tx_sets.specs.declared.sets.Sets.{Sets}
use Rattle.tx_sets.specs.Entries.{places_of}
use Rattle.engine_pages.specs.declared.layout.Layout.{Layout}
use Rattle.engine_pages.specs.declared.view.View.{View}
use Rattle.array_pages.specs.Making.{CanMake, HasMade}
use Rattle.array_pages.specs.Spans.{IsArrayKey}
use Rattle.array_pages.specs.Walks.{AreLedTo, HasWalked, KeepsWords, OnlyWaysTo}
use Rattle.page_commit.specs.Live.{entry_places, AreMet, AreParts, ArePointersKept, ArePointersMet, IsLive}
use Rattle.engine_pages.specs.Pointers.{WaysAgree}
use Rattle.page_commit.specs.HeaderParts.{AreHeaders}
use Rattle.page_commit.specs.Keeping.{HasBrought}
use Rattle.page_commit.proofs.GrowLaws.{key_here, knows_more, met_pointer_grown, read_grown, spot_of_word}
use Rattle.page_commit.proofs.GrowLaws.{KnowsMore}
use Rattle.page_commit.proofs.HeaderLaws.{header_grown}
use Rattle.page_commit.proofs.RoomLaws.{room_same}
use Rattle.page_commit.proofs.WalkedLaws.{headers_walked, held_to, inside_only, kept_walked, live_walked, met_only, only_walked}
use Rattle.page_commit.proofs.WalkedLaws.{beside_arrays}
use Rattle.page_commit.proofs.WalkedLaws.{only_walked_same, points_walked}

-- the parts are those that were kept, where the pass knows more
pub parts_grown : (sets new : Sets) (v w : View) → IsLive sets v → WaysAgree w.ways → KnowsMore v w
    → new.reads ≡ sets.reads
    → new.pointers ≡ sets.pointers → new.headers ≡ sets.headers → w.seat.kept ≡ v.seat.kept
    → AreParts new w w.seat.kept
parts_grown sets new v w live agree more reads pointers headers kept = subst (AreParts new w) (sym kept) record {
  known = λ part has. elim (live.parts.known part has) [
    | inl r ↦ inl (
      r.0,
      subst (λ (l : List ReadEntry). Contains l r.0) (sym reads) r.1,
      read_grown v w r.0 part more r.2,
    )
    | inr o ↦ inr (elim o [
      | inl r ↦ inl (
        r.0,
        subst (λ (l : List Seen). Contains l r.0) (sym pointers) r.1,
        met_pointer_grown v w r.0 part live.decls agree more r.2,
      )
      | inr r ↦ inr (
        r.0,
        subst (λ (l : List Seen). Contains l r.0) (sym headers) r.1,
        header_grown v w r.0 part more r.2,
      )
    ])
  ];
  reads = λ e has.
      let r = live.parts.reads e (subst (λ (l : List ReadEntry). Contains l e) reads has) in
      (r.0, r.1, read_grown v w e r.0 more r.2);
  pointers = λ p has.
      let r = live.parts.pointers p (subst (λ (l : List Seen). Contains l p) pointers has) in
      (r.0, r.1, met_pointer_grown v w p r.0 live.decls agree more r.2);
  headers = λ h has.
      let r = live.parts.headers h (subst (λ (l : List Seen). Contains l h) headers has) in
      (r.0, r.1, header_grown v w h r.0 more r.2);
  once = live.parts.once;
}

pub brought : (sets new : Sets) (v w : View) (k : Key) (at : ℕ) → IsLive sets v → HasWalked v w
    → CanMake new.holds w → w.seat.kept ≡ v.seat.kept → KeepsWords v w → OnlyWaysTo k v w → AreLedTo k v w
    → HasMade k sets.pointers at v w → new.reads ≡ sets.reads → new.pointers ≡ sets.pointers → new.writes ≡ sets.writes → new.headers ≡ sets.headers
    → HasBrought k at sets new v w
brought sets new v w k at live walk can kept words paths led made reads pointers writes headers =
    let more = knows_more v w walk in
    let agree = can.walks.agree in
    let decls = can.walks.declared in record {
      live = live_walked sets new v w live walk can.walks record {
        parts = parts_grown sets new v w live agree more reads pointers headers kept;
        places = subst (λ (l : List ReadEntry). AreDistinct (entry_places l)) (sym reads) live.places;
        once = subst (λ (l : List Seen). AreDistinct (places_of l)) (sym pointers) live.once;
        writes = writes;
        met = subst (λ (l : List ReadEntry). AreMet l [] w) (sym reads)
            (met_only sets v w live more agree can.walks.trees decls (beside_arrays v w made.others));
        points = subst (λ (l : List Seen). ArePointersMet l w) (sym pointers) (points_walked sets v w live more agree decls
            (λ sp p has b. made.others p.at) made.keeps);
        kept = subst (λ (l : List Seen). ArePointersKept l w) (sym pointers) (kept_walked sets v w live words);
        headers = subst (λ (l : List Seen). AreHeaders l w) (sym headers)
            (headers_walked sets v w live more agree decls made.others (λ h has. words h.at));
        only = only_walked_same sets new v w live words pointers headers;
        inside = inside_only sets v w live more decls (beside_arrays v w made.others);
        room = room_same sets new reads headers live.room;
      };
      only = only_walked v w walk;
      paths = paths;
      held = held_to k sets.holds new.holds v w live.holds can.walks.holds led;
      kept = kept;
      touched = ap (λ (y : View). y.touched) walk.is;
      reads = reads;
      pointers = pointers;
      writes = writes;
      headers = headers;
      place = key_here w k made.record_at.spot at made.record_at.place;
      index = sym (ap (λ (y : Spot). y.index) (spot_of_word w k made.record_at.spot at made.record_at.place))
          ∙ made.record_at.index;
    }

-- the key's storage is as it was
pub brought_fits : (sets new : Sets) (v w : View) (k : Key) (at : ℕ) → HasBrought k at sets new v w
    → IsArrayKey v.layout.decls k → IsArrayKey w.layout.decls k
brought_fits sets new v w k at h fits =
    subst (λ (l : Layout). IsArrayKey l.decls k) (sym (ap (λ (y : View). y.layout) h.only.is)) fits
