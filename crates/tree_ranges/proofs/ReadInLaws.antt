-- The record of a key that the transaction reads.
use Rattle.std.proofs.Common.{◌≡◌, inl, inr, ℕ, ◌+◌, ◌≤◌, true, false, List, [], refl, sym, ap, ◌∙◌, subst, arith}
use Rattle.std.proofs.Common.{Option, Some}
use Rattle.std.specs.Prelude.{Ok, Err}
use Rattle.std.specs.List.{slice_get}
use Rattle.serial_model.specs.declared.key.Key.{Key}
use Rattle.tx_sets.specs.declared.reads.ReadEntry.{ReadEntry}
use Rattle.tx_sets.specs.declared.sets.Sets.{Sets}
use Rattle.tx_sets.specs.Entries.{has_read, read_of}
use Rattle.engine_pages.specs.declared.view.RefusalCause.{RefusalCause}
use Rattle.engine_pages.specs.declared.view.RefusalCause.TheVariants as refusals
use Rattle.engine_pages.specs.declared.view.SetName.TheVariants.{Reads}
use Rattle.engine_pages.specs.declared.view.View.{View}
use Rattle.engine_pages.specs.Pages.{is_tree}
use Rattle.tree_walks.specs.declared.finding.Found.{Found}
use Rattle.tree_walks.specs.declared.ways.Leaf.{Leaf}
use Rattle.tree_walks.specs.Finds.{KeepsSo}
use Rattle.tree_walks.specs.Ways.{IsLeafAt}
use Rattle.tree_walks.proofs.HalfLaws.{bounds_of}
use Rattle.tree_walks.proofs.StepLaws.{led_none, walked_self}
use Rattle.page_commit.specs.Calls.{end_most}
use Rattle.page_commit.specs.Live.{IsLive}
use Rattle.page_commit.specs.Steps.{HasGivenUp}
use Rattle.tree_scans.specs.Rows.{key_in}
use Rattle.tree_calls.specs.Keeping.{entry_value, lacks_entry, value_in, HasValue, KeepsFound}
use Rattle.tree_calls.proofs.CauseLaws.{found_needs}
use Rattle.tree_calls.proofs.DoneLaws.{value_again}
use Rattle.tree_calls.proofs.DueLaws.{TreeWalked}
use Rattle.tree_calls.proofs.ValueLaws.{value_found}
use Rattle.tree_ranges.specs.Going.{HasRead, ReadsKey, Stops, TakesRow}
use Rattle.tree_ranges.specs.Rows.{with_row}
use Rattle.tree_ranges.proofs.StopLaws.{stop_full, stop_unread}

-- ---- a record that was read

pub read_walked : (sets : Sets) (k : Key) (f : Found) (v w : View) → IsLive sets v
    → KeepsSo 3 k sets.pointers sets.headers sets.holds (Ok f) v w → TreeWalked sets sets.holds v w
read_walked sets k f v w live h = record { live = live; walk = h.walked; can = h.can }

pub read_done : (f : Found) (value : Option ℕ) (sets new : Sets) (k : Key) (v w : View) → IsLive sets v
    → KeepsSo 3 k sets.pointers sets.headers sets.holds (Ok f) v w → has_read k sets.reads ≡ false
    → lacks_entry sets f ≡ false → KeepsFound k f sets new → value ≡ value_in f
    → ReadsKey 3 k (Ok value) sets new v w
read_done f value sets new k v w live h none room kept is = record {
  read = record {
    value_is = subst (λ (o : Option ℕ). HasValue k o sets new v w) (sym is)
        (value_found f sets sets new v w k refl refl refl refl live h.walked h.can h.only h.paths (led_none k v w
        h.grip)
        h.keeps h.found none room kept);
    walked = h.walked;
  };
  quick = h.most;
  stops = tt;
  slow = let most = h.most in omega (arith, most);
}

read_stops : (why : RefusalCause) (sets : Sets) (k : Key) (v w x : View) → w.steps ≤ v.steps + 3
    → x.steps ≤ w.steps + end_most → Stops k.storage k.key k.key sets sets why v x → ReadsKey 3 k (Err why) sets sets
    v x
read_stops why sets k v w x most more s =
    record { read = tt; quick = tt; stops = s; slow = omega (arith, most, more) }

-- there was no room for it
pub read_full : (f : Found) (why : RefusalCause) (sets : Sets) (k : Key) (v w x : View) → IsLive sets v
    → KeepsSo 3 k sets.pointers sets.headers sets.holds (Ok f) v w → has_read k sets.reads ≡ false
    → lacks_entry sets f ≡ true
    → HasGivenUp [] (refusals.Wide Reads) w x → x.steps ≤ w.steps + end_most → why ≡ refusals.Wide Reads
    → ReadsKey 3 k (Err why) sets sets v x
read_full f why sets k v w x live h none full g more same =
    let t : TreeWalked sets sets.holds v w = read_walked sets k f v w live h in
    read_stops why sets k v w x h.most more
    (subst (λ (r : RefusalCause). Stops k.storage k.key k.key sets sets r v x) (sym same)
    (stop_full sets sets.holds k v w x t (found_needs f sets sets.holds k v w t none h.found full) g))

-- it was in conflict
pub read_refused : (why told : RefusalCause) (sets : Sets) (k : Key) (v w x : View) → IsLive sets v
    → KeepsSo 3 k sets.pointers sets.headers sets.holds (Err why) v w → has_read k sets.reads ≡ false
    → HasGivenUp [] why w x → x.steps ≤ w.steps + end_most → told ≡ why → ReadsKey 3 k (Err told) sets sets v x
read_refused why told sets k v w x live h none g more same =
    read_stops told sets k v w x h.most more
    (subst (λ (r : RefusalCause). Stops k.storage k.key k.key sets sets r v x) (sym same)
    (stop_unread sets sets.holds k v w x (record { live = live; walk = h.walked; can = h.can }) why h.cause none g))

-- ---- one that was read before

pub read_again : (sets : Sets) (v : View) (k : Key) (x : Leaf) (e : ReadEntry) (value : Option ℕ) → IsLive sets v
    → IsLeafAt k x v → read_of k sets.reads ≡ Some e → value ≡ entry_value e → ReadsKey 3 k (Ok value) sets sets v v
read_again sets v k x e value live leaf is same =
    let tree : is_tree v.layout.decls k.storage ≡ true =
    ap (is_tree v.layout.decls) (bounds_of x.span k (leaf.on).over).0 ∙ (leaf.on).tree in record {
      read = record {
        value_is = subst (λ (o : Option ℕ). HasValue k o sets sets v v) (sym same)
            (value_again sets v k e live tree is);
        walked = walked_self v;
      };
      quick = omega arith;
      stops = tt;
      slow = omega arith;
    }

-- ---- its row

pub row_taken : (storage n : ℕ) (value : Option ℕ) (sets new : Sets) (rows more : List (ℕ × ℕ)) (v w : View)
    → ReadsKey 3 (key_in storage n) (Ok value) sets new v w → more ≡ with_row n value rows
    → TakesRow storage n (Ok tt) sets new rows more v w
row_taken storage n value sets new rows more v w r is = record {
  read = record { value = value; is = r.read; rows_is = is };
  quick = r.quick;
  stops = tt;
  slow = r.slow;
}

pub row_stopped : (storage n : ℕ) (why : RefusalCause) (sets new : Sets) (rows more : List (ℕ × ℕ)) (v w : View)
    → ReadsKey 3 (key_in storage n) (Err why) sets new v w → TakesRow storage n (Err why) sets new rows more v w
row_stopped storage n why sets new rows more v w r = record { read = tt; quick = tt; stops = r.stops; slow = r.slow }

pub refused_walked : (sets : Sets) (k : Key) (why : RefusalCause) (v w : View) → IsLive sets v
    → KeepsSo 3 k sets.pointers sets.headers sets.holds (Err why) v w → TreeWalked sets sets.holds v w
refused_walked sets k why v w live h = record { live = live; walk = h.walked; can = h.can }
