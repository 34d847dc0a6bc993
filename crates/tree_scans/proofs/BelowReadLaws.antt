-- The rows below a pointer that leads to no slot.
use Rattle.std.proofs.Common.{◌≡◌, ◌≢◌, ℕ, ◌+◌, ◌^◌, ◌<◌, ◌≤◌, Bool, true, ltb, not, List, [], map, length, filter}
use Rattle.std.proofs.Common.{refl, sym, ap, ◌∙◌, subst, arith, Option, Some, None}
use Rattle.std.specs.Prelude.{Ok, Err, MatchBool}
use Rattle.std.specs.List.{Contains}
use Rattle.std.proofs.lemmas.Bool.Decides.{nat_tests}
use Rattle.lists.specs.Elements.{in_push_new}
use Rattle.serial_model.specs.declared.key.Key.{Key}
use Rattle.homes.specs.declared.places.Content.{Content}
use Rattle.homes.specs.Homes.{in_span}
use Rattle.commit_core.specs.declared.part.Part.{Part}
use Rattle.commit_core.specs.Parts.{same_word, with_part}
use Rattle.serial_bridge.specs.Transaction.{Vouched}
use Rattle.snapshot_store.specs.Content.{deepest}
use Rattle.snapshot_store.specs.Places.{Found, find}
use Rattle.snapshot_store.specs.TreePages.{record_for, tree_format}
use Rattle.tx_sets.specs.declared.seen.Seen.{Seen}
use Rattle.tx_sets.specs.Entries.{word_at}
use Rattle.engine_pages.specs.declared.view.RefusalCause.{RefusalCause}
use Rattle.engine_pages.specs.declared.view.RefusalCause.TheVariants as causes
use Rattle.engine_pages.specs.declared.view.View.{View}
use Rattle.engine_pages.specs.Pointers.{HasFollowed}
use Rattle.engine_pages.specs.Resident.{found_content, place_for}
use Rattle.dual_pointer.specs.Parts.{HasSeenPointer, SawPointer, tree_content}
use Rattle.array_pages.specs.Finding.{HasGlanced}
use Rattle.tree_walks.specs.declared.snapshots.Stored.{Stored}
use Rattle.tree_walks.specs.declared.ways.Bare.{Bare}
use Rattle.tree_walks.specs.Finds.{IsPointersFull, KeepsSo}
use Rattle.tree_walks.specs.Snapshots.{IsLeafPage, IsLooked, read_so}
use Rattle.tree_walks.specs.Finding.{MeetsOnly}
use Rattle.tree_walks.specs.Walks.{CanWalk, OnlyTrees}
use Rattle.tree_walks.specs.Ways.{IsBareOn}
use Rattle.tree_walks.proofs.BelowLaws.{below_found, below_is, found_so}
use Rattle.tree_walks.proofs.HalfLaws.{bounds_of, span_over}
use Rattle.tree_walks.proofs.SnapLaws.{none_below}
use Rattle.tree_scans.specs.Below.{IsStoredLeaf}
use Rattle.tree_scans.specs.Belows.{IsStretchBelow, ReadsBelow}
use Rattle.tree_scans.specs.Heads.{IsAtWord}
use Rattle.tree_scans.specs.Rows.{found_value, key_in, row_value, rows_in}
use Rattle.tree_scans.proofs.RowsLaws.{rows_found, AreLeafRows}
use Rattle.tree_scans.proofs.StoredLaws.{stored_content}

-- what was found, as it would be read
stored_of : Option Found → Option Stored
stored_of None = None
stored_of (Some x) = Some (record { number = x.number; value = x.value })

looked_self : (o : Option Found) → IsLooked o (stored_of o)
unfolding stored_of
looked_self None = tt
looked_self (Some x) = (refl, refl)

content_value : (o : Option Found) → (found_content o).value ≡ found_value o
content_value None = refl
content_value (Some x) = refl

none_value : (o : Option Found) → IsLooked o None → found_value o ≡ None
none_value None looked = refl
none_value (Some x) looked = absurd looked

-- a refused search below a pointer is a refused stretch
pub below_refused : (k : Key) (x : Bare) (pointers headers : List Seen) (slots : List ℕ) (last : ℕ) (why : RefusalCause)
    (rows : List (ℕ × ℕ)) (v w : View) → KeepsSo 1200 k pointers headers slots (Err why) v w → IsAtWord x.pointer.at why
    → ReadsBelow k x pointers headers slots last (Err why) rows v w
below_refused k x pointers headers slots last why rows v w h place = record {
  can = h.can;
  walked = h.walked;
  most = h.most;
  only = tt;
  keeps = tt;
  paths = h.paths;
  grip = h.grip;
  read = tt;
  cause = h.cause;
  place = place;
}

-- a full set is no conflict
pub full_at : (at : ℕ) (pointers : List Seen) (why : RefusalCause) → IsPointersFull at pointers why → IsAtWord at why
full_at at pointers (causes.Conflict word expected seen) full = absurd full
full_at at pointers (causes.Full held) full = tt
full_at at pointers (causes.Wide set) full = tt
full_at at pointers (causes.NumberLimit clock) full = tt

only_below : (r : Option Stored) (p : Seen) (v w : View) → MeetsOnly (below_is r p) v w → OnlyTrees v w
only_below None p v w only = only
only_below (Some s) p v w only = only

module _ (k : Key) (pointers headers : List Seen) (slots : List ℕ) (x : Bare) (v : View) (n : ℕ) (u : View)
    (can : CanWalk slots v) (b : IsBareOn k pointers x v) (sees : SawPointer x.place x.span x.pointer.at v n u)
    (same : n ≡ x.pointer.word) (w : View) (g : HasGlanced u w) (steps : w.steps ≤ u.steps + 1100)
    (room : word_at x.pointer.at pointers ≡ None → length pointers < 128) where
  h : HasSeenPointer x.place x.span x.pointer.at v n u
  h =
      let low = subst (λ i. i < 2 ^ 32) (sym same) b.bare in
      subst (λ (c : Bool). MatchBool c (HasSeenPointer x.place x.span x.pointer.at v n u) (HasFollowed x.span
      x.pointer.at v n u))
      (let e : ltb n (2 ^ 32) ≡ true = grind (arith, nat_tests) in e) sees

  kept_is : w.seat.kept ≡ with_part v.seat.kept h.part
  kept_is = ap (λ (z : View). z.seat.kept) g.is ∙ ap (λ (z : View). z.seat.kept) h.is

  -- a key of the pointer has what the pages have
  vouched_so : (m : ℕ) (value : Option ℕ) → k.key ≤ m → m ≤ (x.span).high
      → found_value (find tree_format u.pages deepest m (place_for x.span x.pointer.word)) ≡ value
      → Vouched w.seat.kept (key_in k.storage m) value
  vouched_so m value low high is =
      let bounds = bounds_of x.span k b.over in
      let bottom = bounds.1 in
      let inside = span_over x.span (key_in k.storage m) x.span.low x.span.high bounds.0 (omega (arith, bottom, low))
      high in record {
        part = h.part;
        among = subst (λ (l : List Part). Contains l h.part) (sym kept_is)
            (in_push_new h.part (filter (λ z. not (same_word z.word (h.part).word)) v.seat.kept));
        over = h.covered (key_in k.storage m) inside;
        has = ap (λ (c : Content). c.value) (h.tree b.tree (key_in k.storage m) inside
            ∙ (ap (λ (q : List (List ℕ)). tree_content q x.span n (key_in k.storage m))
            (sym (ap (λ (z : View). z.pages) h.is))
            ∙ ap (λ (i : ℕ). tree_content u.pages x.span i (key_in k.storage m)) same))
            ∙ (content_value (find tree_format u.pages deepest m (place_for x.span x.pointer.word)) ∙ is);
      }

  pub below_read : (last to : ℕ) (rows : List (ℕ × ℕ)) → k.key ≤ to → to ≤ last → to ≤ (x.span).high
      → ((m : ℕ) → k.key ≤ m → m ≤ to
      → found_value (find tree_format u.pages deepest m (place_for x.span x.pointer.word)) ≡ row_value rows m)
      → AreLeafRows k.key to rows
      → ReadsBelow k x pointers headers slots last (Ok to) rows v w
  below_read last to rows from within top has are =
      let o = find tree_format u.pages deepest k.key (place_for x.span n) in
      let all = below_found k pointers headers slots x v n u can b sees same 1100 1200 (stored_of o) w (omega arith)
      g steps
      (looked_self o) room in record {
        can = all.can;
        walked = all.walked;
        most = all.most;
        only = only_below (stored_of o) x.pointer v w all.only;
        keeps = all.keeps;
        paths = all.paths;
        grip = all.grip;
        read = record {
          from = from;
          within = within;
          content = tree_content u.pages x.span n k;
          found = found_so k pointers headers slots x v n u can b sees same (tree_content u.pages x.span n k) w g
              refl room;
          vouched = λ m low high. vouched_so m (row_value rows m) low (omega (arith, high, top)) (has m low high);
          rising = are.rising;
          bounds = are.bounds;
          few = are.few;
        };
        cause = tt;
        place = tt;
      }

-- no page is there: no key has a value
pub empty_rows : (pages : List (List ℕ)) (x : Bare) (m : ℕ) → x.pointer.word ≡ 0
    → found_value (find tree_format pages deepest m (place_for x.span x.pointer.word)) ≡ row_value [] m
empty_rows pages x m none =
    none_value (find tree_format pages deepest m (place_for x.span x.pointer.word)) (none_below pages m x.span
    x.pointer.word none)

-- the rows of the leaf are what the pages have
pub stored_rows : (pages : List (List ℕ)) (x : Bare) (key page many high last m : ℕ) (rows : List (ℕ × ℕ))
    (s : IsStoredLeaf pages x.span x.pointer.word key page many high) → rows ≡ rows_in key last (s.is).records
    → key ≤ m → m ≤ last → m ≤ high
    → found_value (find tree_format pages deepest m (place_for x.span x.pointer.word)) ≡ row_value rows m
stored_rows pages x key page many high last m rows s are from within to =
    ap found_value (stored_content pages x.span x.pointer.word key page many high m s from to)
    ∙ (sym (rows_found key last (s.is).records m from within) ∙ ap (λ (l : List (ℕ × ℕ)). row_value l m) (sym are))
