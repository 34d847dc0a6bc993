-- One stretch of a range, and stretches in a row.
use Rattle.std.proofs.Common.{◌≡◌, ◌≢◌, ◌⊎◌, inl, inr, ℕ, suc, ◌+◌, ◌-◌, ◌*◌, ◌<◌, ◌≤◌, Bool, true, false, true≢false}
use Rattle.std.proofs.Common.{List, [], ◌∷◌, ◌++◌}
use Rattle.std.proofs.Common.{length, get_or, take, refl, sym, ap, ◌∙◌, subst, arith, Option, Some, None, not}
use Rattle.std.proofs.Common.{length-append, add-one}
use Rattle.std.specs.Prelude.{Contains, Ok, Err, Result, IfOk, IfErr, ◌&&◌}
use Rattle.lists.specs.Elements.{in_none}
use Rattle.serial_model.specs.declared.key.Key.{Key}
use Rattle.serial_model.specs.declared.op.Op.TheVariants.{Scan}
use Rattle.commit_core.specs.declared.part.Part.{Part}
use Rattle.tx_sets.specs.declared.seen.Seen.{Seen}
use Rattle.tx_sets.specs.declared.sets.Sets.{Sets}
use Rattle.tx_sets.specs.declared.writes.Write.{Write}
use Rattle.tx_sets.specs.Entries.{has_word, value_of, word_at}
use Rattle.tx_sets.specs.Gathered.{has_read_room}
use Rattle.engine_pages.specs.declared.layout.Layout.{Layout}
use Rattle.engine_pages.specs.declared.view.RefusalCause.{RefusalCause}
use Rattle.engine_pages.specs.declared.view.View.{View}
use Rattle.engine_pages.specs.Pages.{is_tree}
use Rattle.tree_walks.specs.declared.ways.Bare.{Bare}
use Rattle.tree_walks.specs.declared.ways.Leaf.{Leaf}
use Rattle.tree_walks.specs.Finds.{find_steps}
use Rattle.tree_walks.specs.Walks.{CanWalk}
use Rattle.tree_walks.specs.Ways.{IsBareOn, IsMetSo}
use Rattle.tree_walks.proofs.StepLaws.{layout_stays, led_none}
use Rattle.page_commit.specs.Calls.{end_most}
use Rattle.page_commit.specs.Keeping.{MeetsPointer}
use Rattle.page_commit.specs.Live.{IsLive}
use Rattle.page_commit.specs.Turning.{PartsStay}
use Rattle.page_commit.proofs.FoundLaws.{has_no_word}
use Rattle.tree_scans.specs.Belows.{IsStretchBelow, ReadsBelow}
use Rattle.tree_scans.specs.Rows.{key_in, row_value}
use Rattle.tree_calls.specs.Keeping.{HasPlaceFor, HasValue}
use Rattle.tree_calls.proofs.FoundBelow.{value_below}
use Rattle.tree_ranges.specs.Going.{Comes, GoesIn, HasGone, HasRead, HasScanned, ReadsTo, Stops, TakesHead}
use Rattle.tree_ranges.specs.Rows.{with_row, AddsAll, AddsSome, AreFree, AreRowsOf, RowsGoOn}
use Rattle.tree_ranges.proofs.GoneLaws.{goes_more, goes_none, goes_then, gone_none, gone_then, read_goes, stops_more}
use Rattle.tree_ranges.proofs.GoneLaws.{stops_then}
use Rattle.tree_ranges.proofs.LoopLaws.{with_few, with_full}
use Rattle.tree_ranges.proofs.OverlayLaws.{read_room}
use Rattle.tree_ranges.proofs.RowLaws.{at_front, at_place, found_all, found_some, go_then, in_behind, rows_begin}
use Rattle.tree_ranges.proofs.RowLaws.{rows_one, seen_stays}

-- ---- behind steps that read no rows

-- what was seen is seen still
rows_kept : (storage from : ℕ) (ws : List Write) (parts later : List Part) (rows : List (ℕ × ℕ))
    → PartsStay parts later → RowsGoOn storage from from ws parts later rows rows
rows_kept storage from ws parts later rows stay low less are = record {
  rising = are.rising;
  bounds = are.bounds;
  seen = λ n a b. seen_stays ws parts later (key_in storage n) (row_value rows n) stay (are.seen n a b);
}

module _ (storage from last : ℕ) (sets mid new : Sets) (rows more : List (ℕ × ℕ)) (v u w : View) (start : from ≤ last)
    (gone : GoesIn storage from from sets mid v u) where
  wide : GoesIn storage from last sets mid v u
  wide = goes_more storage from from from last sets mid v u (omega arith) start gone

  one : HasGone (Scan storage from from) sets mid v u
  one = gone from from (omega arith) (omega arith)

  writes_are : mid.writes ≡ sets.writes
  writes_are = one.writes

  -- rows that were read then
  pub reads_behind : (to : ℕ) → ReadsTo storage from last to mid new rows more u w
      → ReadsTo storage from last to sets new rows more v w
  reads_behind to r = record {
    from_is = r.from_is;
    within = r.within;
    gone = goes_then storage from to sets mid new v u w
        (goes_more storage from from from to sets mid v u (omega arith) r.from_is gone) r.gone;
    go_on = go_then storage from from (to + 1) sets.writes v.seat.kept u.seat.kept w.seat.kept rows rows more
        (omega arith)
        (rows_kept storage from sets.writes v.seat.kept u.seat.kept rows one.keeps)
        (subst (λ (ws : List Write). RowsGoOn storage from (to + 1) ws u.seat.kept w.seat.kept rows more) writes_are
        r.go_on);
    few = r.few;
    full = r.full;
  }

  pub stops_behind : (why : RefusalCause) → Stops storage from last mid new why u w → Stops storage from last sets
      new why v w
  stops_behind why s =
      stops_then storage from last from last sets mid new why v u w wide (omega arith) (omega arith) s

  pub comes_behind : (base late rate faster steps : ℕ) (r : Result ℕ RefusalCause) → u.steps ≤ v.steps + steps
      → Comes late rate storage from last r mid new rows more u w
      → ((d : ℕ) → 1 ≤ d → steps + (late + rate * d) ≤ base + faster * d)
      → Comes base faster storage from last r sets new rows more v w
  comes_behind base late rate faster steps (Ok to) most c enough = record {
    read = reads_behind to c.read;
    quick =
        let quick = c.quick in
        let up = (c.read).from_is in
        let e = enough ((to + 1) - from) (omega (arith, up)) in omega (arith, most, quick, e);
    stops = tt;
    slow = tt;
  }
  comes_behind base late rate faster steps (Err why) most c enough = record {
    read = tt;
    quick = tt;
    stops = stops_behind why c.stops;
    slow =
        let slow = c.slow in
        let e = enough ((last + 1) - from) (omega (arith, start)) in omega (arith, most, slow, e);
  }

-- ---- up to a key before the last one

pub comes_more : (base rate storage from top last : ℕ) (r : Result ℕ RefusalCause) (sets new : Sets)
    (rows more : List (ℕ × ℕ)) (v w : View) → top ≤ last → from ≤ top
    → Comes base rate storage from top r sets new rows more v w → ((a b : ℕ) → a ≤ b → rate * a ≤ rate * b)
    → Comes base rate storage from last r sets new rows more v w
comes_more base rate storage from top last (Ok to) sets new rows more v w up first c grows = record {
  read =
      let r = c.read in
      let within = r.within in record {
        from_is = r.from_is;
        within = omega (arith, within, up);
        gone = r.gone;
        go_on = r.go_on;
        few = r.few;
        full = r.full;
      };
  quick = c.quick;
  stops = tt;
  slow = tt;
}
comes_more base rate storage from top last (Err why) sets new rows more v w up first c grows = record {
  read = tt;
  quick = tt;
  stops = stops_more storage from last from top sets new why v w (omega arith) up c.stops;
  slow =
      let slow = c.slow in
      let e = grows ((top + 1) - from) ((last + 1) - from) (omega (arith, up, first)) in omega (arith, slow, e);
}

-- by more steps at most
pub comes_slower : (base more rate faster storage from last : ℕ) (r : Result ℕ RefusalCause) (sets new : Sets)
    (rows all : List (ℕ × ℕ)) (v w : View) → from ≤ last → ((d : ℕ) → 1 ≤ d → base + rate * d ≤ more + faster * d)
    → Comes base rate storage from last r sets new rows all v w
    → Comes more faster storage from last r sets new rows all v w
comes_slower base more rate faster storage from last (Ok to) sets new rows all v w start enough c = record {
  read = c.read;
  quick =
      let quick = c.quick in
      let up = (c.read).from_is in
      let e = enough ((to + 1) - from) (omega (arith, up)) in omega (arith, quick, e);
  stops = tt;
  slow = tt;
}
comes_slower base more rate faster storage from last (Err why) sets new rows all v w start enough c = record {
  read = tt;
  quick = tt;
  stops = c.stops;
  slow =
      let slow = c.slow in
      let e = enough ((last + 1) - from) (omega (arith, start)) in omega (arith, slow, e);
}

-- it was refused at once
pub comes_refused : (base rate storage from last key : ℕ) (why : RefusalCause) (sets new : Sets) (rows more : List
    (ℕ × ℕ))
    (v w : View) → from ≤ last → w.steps ≤ v.steps + base + rate * ((last + 1) - from) + end_most
    → Stops storage from from sets new why v w → Comes base rate storage from last (Err why) sets new rows more v w
comes_refused base rate storage from last key why sets new rows more v w start slow s = record {
  read = tt;
  quick = tt;
  stops = stops_more storage from last from from sets new why v w (omega arith) start s;
  slow = slow;
}

-- ---- a header

-- there is a place for it, where it is in the set so
pub head_room : (sets : Sets) (at word : ℕ) → IsMetSo sets.headers at word
    → (not (has_read_room sets) && not (has_word at sets.headers)) ≡ false
    → HasPlaceFor 256 (record { at = at; word = word }) sets.headers
head_room sets at word (inr so) has = inl so
head_room sets at word (inl none) has = inr (none, by_room (has_read_room sets) refl)
  where
    by_room : (b : Bool) → has_read_room sets ≡ b → length sets.headers < 256
    by_room true room =
        let few : length sets.reads + length sets.headers < 256 = read_room sets room in
        omega (arith, few)
    by_room false room =
        let low : (not false && not (has_word at sets.headers)) ≡ false =
        subst (λ (b : Bool). (not b && not (has_word at sets.headers)) ≡ false) room has in
        let bad : (not false && not false) ≡ false =
        subst (λ (b : Bool). (not false && not b) ≡ false) (has_no_word at sets.headers none) low in
        absurd (true≢false bad)

-- ---- below a pointer

module _ (sets new : Sets) (k : Key) (b : Bare) (top to : ℕ) (found : List (ℕ × ℕ)) (v w : View) (live : IsLive sets v)
    (on : IsBareOn k sets.pointers b v) (free : AreFree k.storage k.key top sets.writes)
    (r : ReadsBelow k b sets.pointers sets.headers sets.holds top (Ok to) found v w) (reads : new.reads ≡ sets.reads)
    (meets : MeetsPointer b.pointer sets.pointers new.pointers) (headers : new.headers ≡ sets.headers)
    (writes : new.writes ≡ sets.writes) (holds : new.holds ≡ sets.holds) where
  s : IsStretchBelow k b sets.pointers top to found v w
  s = r.read

  value_is : HasRead k (s.content).value sets new v w
  value_is = record {
    value_is = value_below sets new v w k s.content b.pointer live r.walked
        (subst (λ (l : List ℕ). CanWalk l w) (sym holds) r.can) r.only r.keeps s.found reads
        meets headers writes r.paths (led_none k v w r.grip);
    walked = r.walked;
  }

  goes : (end : ℕ) → k.key ≤ end → GoesIn k.storage k.key end sets new v w
  goes end up =
      goes_more k.storage k.key k.key k.key end sets new v w (omega arith) up
      (read_goes k (s.content).value sets new v w value_is)

  free_to : AreFree k.storage k.key to sets.writes
  free_to n low high = let last = s.within in free n low (omega (arith, high, last))

  -- the rows that were found are told, or the first ones of them
  pub below_reads : (rows more : List (ℕ × ℕ)) (end : ℕ) → length rows < 16
      → AddsAll rows found to more end ⊎ AddsSome rows found more end
      → ReadsTo k.storage k.key top end sets new rows more v w
  below_reads rows more end few (inl all) =
      let first = s.from in
      let last = s.within in
      let is = all.end_is in
      let some = all.few in record {
        from_is = omega (arith, first, is);
        within = omega (arith, last, is);
        gone = goes end (omega (arith, first, is));
        go_on = λ low less are.
            subst (λ (i : ℕ). AreRowsOf k.storage low (i + 1) sets.writes w.seat.kept more) (sym is)
            (subst (AreRowsOf k.storage low (to + 1) sets.writes w.seat.kept) (sym all.is)
            (found_all k.storage k.key to sets.writes v.seat.kept w.seat.kept found free_to value_is.value_is.keeps
            first
            s.rising s.bounds s.vouched rows low less are));
        few = omega (arith, some);
        full = λ sixteen. absurd (omega (arith, some, sixteen));
      }
  below_reads rows more end few (inr part) =
      let first = s.from in
      let last = s.within in
      let is = part.end_is in
      let full = part.full in
      let are_all : more ≡ rows ++ take (suc part.index) found =
      part.is
      ∙ ap (λ (i : ℕ). rows ++ take i found) (let e : part.index + 1 ≡ suc part.index = omega arith in e) in
      let place = at_place found part.index part.other part.there in
      let bounds = s.bounds (get_or found part.index part.other) place in
      let low-end = bounds.0 in
      let high-end = bounds.1 in record {
        from_is = omega (arith, is, low-end);
        within = omega (arith, is, high-end, last);
        gone = goes end (omega (arith, is, low-end));
        go_on = λ low less are.
            subst (λ (i : ℕ). AreRowsOf k.storage low (i + 1) sets.writes w.seat.kept more) (sym is)
            (subst (AreRowsOf k.storage low ((get_or found part.index part.other).0 + 1) sets.writes w.seat.kept)
            (sym are_all)
            (found_some k.storage k.key to sets.writes v.seat.kept w.seat.kept found free_to value_is.value_is.keeps
            first
            s.rising s.bounds s.vouched rows part.index part.other part.there low less are));
        few = omega (arith, full);
        full = λ sixteen. record {
          row = get_or found part.index part.other;
          among = subst (λ (l : List (ℕ × ℕ)). Contains l (get_or found part.index part.other)) (sym are_all)
              (in_behind (get_or found part.index part.other) rows (take (suc part.index) found)
              (at_front found part.index part.other part.there));
          is = sym part.end_is;
        };
      }

  pub below_comes : (rows more : List (ℕ × ℕ)) (end last : ℕ) → length rows < 16 → top ≤ last
      → AddsAll rows found to more end ⊎ AddsSome rows found more end
      → Comes 1200 0 k.storage k.key last (Ok end) sets new rows more v w
  below_comes rows more end last few up adds =
      let t = below_reads rows more end few adds in
      let within = t.within in
      let most = r.most in record {
        read = record {
          from_is = t.from_is;
          within = omega (arith, within, up);
          gone = t.gone;
          go_on = t.go_on;
          few = t.few;
          full = t.full;
        };
        quick = omega (arith, most);
        stops = tt;
        slow = tt;
      }

-- ---- a key that the transaction writes

pub own_comes : (sets : Sets) (k : Key) (own : Option ℕ) (high : ℕ) (rows more : List (ℕ × ℕ)) (v : View)
    → IsLive sets v
    → value_of k sets.writes ≡ Some own → k.key ≤ high → length rows < 16 → more ≡ with_row k.key own rows
    → Comes 0 find_steps k.storage k.key high (Ok k.key) sets sets rows more v v
own_comes sets k own high rows more v live is within few rows_is = record {
  read = record {
    from_is = omega arith;
    within = within;
    gone = goes_none k.storage k.key k.key sets v live;
    go_on = λ low less are.
        subst (AreRowsOf k.storage low (k.key + 1) sets.writes v.seat.kept) (sym rows_is)
        (rows_one k.storage low k.key own sets.writes v.seat.kept v.seat.kept rows are (λ q value had. had) less
        (inl is));
    few = with_few rows own k.key more rows_is few;
    full = with_full rows own k.key more rows_is few;
  };
  quick = omega arith;
  stops = tt;
  slow = tt;
}

-- ---- the whole range

-- The keys of the range below this one were scanned, and no others.
pub record IsScanning
    (sets : Sets) (storage low high : ℕ) (v : View) (mid : Sets) (from : ℕ) (rows : List (ℕ × ℕ)) (u : View) : Type 0
  where
    pub gone : (to : ℕ) → low ≤ to → from ≤ to + 1 → GoesIn storage low to sets mid v u
    pub rows_are : AreRowsOf storage low from sets.writes u.seat.kept rows
    pub few : length rows < 16
    pub first : low ≤ from
    pub last : from ≤ high + 1
    pub most : u.steps ≤ v.steps + find_steps * (from - low)

module _ (sets : Sets) (storage low high : ℕ) (v : View) (live : IsLive sets v) (start : low ≤ high) where
  pub scanning_none : IsScanning sets storage low high v sets low [] v
  scanning_none = record {
    gone = λ to first past. goes_none storage low to sets v live;
    rows_are = rows_begin storage low sets.writes v.seat.kept;
    few = omega arith;
    first = omega arith;
    last = omega (arith, start);
    most = omega arith;
  }

  module _ (mid : Sets) (from : ℕ) (rows : List (ℕ × ℕ)) (u : View) (h : IsScanning sets storage low high v mid from
      rows u) where
    so_far : HasGone (Scan storage low high) sets mid v u
    so_far = h.gone high start h.last low high (omega arith) (omega arith)

    pub scanning_live : IsLive mid u
    scanning_live = so_far.live

    pub scanning_tree : is_tree v.layout.decls storage ≡ true → is_tree u.layout.decls storage ≡ true
    scanning_tree tree =
        subst (λ (y : Layout). is_tree y.decls storage ≡ true) (sym (layout_stays v u so_far.walked)) tree

    -- all of it is
    pub scanned_past : high < from → HasScanned storage low high sets mid rows v u
    scanned_past past =
        let few = h.few in record {
          gone = so_far;
          joined = inl start;
          at = from;
          rows_are = h.rows_are;
          few = omega (arith, few);
          within = h.last;
          end = inl (omega (arith, past));
          full = λ is. absurd (omega (arith, few, is));
        }

    pub scanned_stops : (why : RefusalCause) (new : Sets) (more : List (ℕ × ℕ)) (w : View) → from ≤ high
        → Comes 0 find_steps storage from high (Err why) mid new rows more u w → Stops storage low high sets new why v w
    scanned_stops why new more w under c =
        stops_then storage low high from high sets mid new why v u w (h.gone high start h.last) h.first (omega arith)
        c.stops

    pub scanned_slow : (why : RefusalCause) (new : Sets) (more : List (ℕ × ℕ)) (w : View) → from ≤ high
        → Comes 0 find_steps storage from high (Err why) mid new rows more u w
        → w.steps ≤ v.steps + (find_steps * ((high + 1) - low) + end_most)
    scanned_slow why new more w under c =
        let most = h.most in
        let slow = c.slow in
        let first = h.first in omega (arith, most, slow, first, under)

    pub scanned_most : u.steps ≤ v.steps + (find_steps * ((high + 1) - low) + end_most)
    scanned_most = let most = h.most in let first = h.first in let last = h.last in omega (arith, most, first, last)

    -- some more keys
    module _ (new : Sets) (more : List (ℕ × ℕ)) (w : View) (to : ℕ) (under : from ≤ high)
        (c : Comes 0 find_steps storage from high (Ok to) mid new rows more u w) where
      t : ReadsTo storage from high to mid new rows more u w
      t = c.read

      more_to : (past : ℕ) → to ≤ past → GoesIn storage low past sets new v w
      more_to past over =
          let first = h.first in
          let up = t.from_is in
          goes_then storage low past sets mid new v u w
          (h.gone past (omega (arith, first, up, over)) (omega (arith, up, over)))
          (goes_more storage from to low past mid new u w h.first over t.gone)

      more_rows : AreRowsOf storage low (to + 1) sets.writes w.seat.kept more
      more_rows =
          subst (λ (ws : List Write). RowsGoOn storage from (to + 1) ws u.seat.kept w.seat.kept rows more)
          (so_far.writes) t.go_on low h.first h.rows_are

      pub more_most : w.steps ≤ v.steps + find_steps * ((to + 1) - low)
      more_most =
          let most = h.most in
          let quick = c.quick in
          let first = h.first in
          let up = t.from_is in omega (arith, most, quick, first, up)

      pub more_slow : w.steps ≤ v.steps + (find_steps * ((high + 1) - low) + end_most)
      more_slow =
          let most = more_most in
          let within = t.within in
          let first = h.first in
          let up = t.from_is in omega (arith, most, within, first, up)

      pub more_up : from ≤ to
      more_up = t.from_is

      scanned : (to ≡ high) ⊎ (length more ≡ 16) → HasScanned storage low high sets new more v w
      scanned end = record {
        gone = more_to high t.within low high (omega arith) (omega arith);
        joined = inl start;
        at = to + 1;
        rows_are = more_rows;
        few = t.few;
        within = let within = t.within in omega (arith, within);
        end = elim end [ inl same ↦ inl (omega (arith, same)) | inr full ↦ inr full ];
        full = λ is.
            let last = t.full is in record {
              row = last.row;
              among = last.among;
              gone = subst (λ (n : ℕ). HasGone (Scan storage low n) sets new v w) (sym last.is)
                  (more_to to (omega arith) low to (omega arith) (omega arith));
            };
      }

      pub scanned_full : length more ≡ 16 → HasScanned storage low high sets new more v w
      scanned_full full = scanned (inr full)

      pub scanned_last : to ≡ high → HasScanned storage low high sets new more v w
      scanned_last same = scanned (inl same)

      pub scanning_more : (length more ≡ 16 → ⊥) → to ≢ high → IsScanning sets storage low high v new (to + 1) more w
      scanning_more other before =
          let few = t.few in
          let within = t.within in
          let first = h.first in
          let up = t.from_is in
          let ne : length more ≢ 16 = other in record {
            gone = λ past over on. more_to past (omega (arith, on));
            rows_are = more_rows;
            few = omega (arith, few, ne);
            first = omega (arith, first, up);
            last = omega (arith, within);
            most = more_most;
          }

-- a range without keys
pub scanned_none : (sets : Sets) (storage low high : ℕ) (rows : List (ℕ × ℕ)) (v : View) → IsLive sets v → high < low
    → rows ≡ [] → HasScanned storage low high sets sets rows v v
scanned_none sets storage low high rows v live none is =
    subst (λ (l : List (ℕ × ℕ)). HasScanned storage low high sets sets l v v) (sym is) record {
      gone = gone_none (Scan storage low high) sets v live;
      joined = inr refl;
      at = high + 1;
      rows_are = record {
        rising = tt;
        bounds = λ row has. absurd (in_none row has);
        seen = λ n from under. absurd (omega (arith, none, from, under));
      };
      few = omega arith;
      within = omega arith;
      end = inl (omega arith);
      full = λ is. absurd (omega (arith, is));
    }

-- ---- what the parts of a stretch ask

pub free_less : (storage from top last : ℕ) (ws : List Write) → top ≤ last → AreFree storage from last ws
    → AreFree storage from top ws
free_less storage from top last ws less free n low high = free n low (omega (arith, high, less))

pub taken_live : (k : Key) (sets new : Sets) (v w : View) → GoesIn k.storage k.key k.key sets new v w → IsLive new w
taken_live k sets new v w gone = (gone k.key k.key (omega arith) (omega arith)).live

pub taken_free : (k : Key) (last top : ℕ) (sets new : Sets) (v w : View) → GoesIn k.storage k.key k.key sets new v w
    → AreFree k.storage k.key last sets.writes → top ≤ last → AreFree k.storage k.key top new.writes
taken_free k last top sets new v w gone free less =
    subst (AreFree k.storage k.key top) (sym (gone k.key k.key (omega arith) (omega arith)).writes)
    (free_less k.storage k.key top last sets.writes less free)

pub head_stops : (k : Key) (x : Leaf) (top last : ℕ) (why : RefusalCause) (sets new : Sets) (rows : List (ℕ × ℕ))
    (v w : View)
    → TakesHead k x top (Err why) sets new v w → k.key ≤ last
    → Comes 17 19 k.storage k.key last (Err why) sets new rows rows v w
head_stops k x top last why sets new rows v w t start =
    comes_refused 17 19 k.storage k.key last k.key why sets new rows rows v w start
    (let slow = t.slow in omega (arith, slow)) t.stops

-- there is a place for the pointer
pub below_place : (sets : Sets) (k : Key) (b : Bare) (top to : ℕ) (found : List (ℕ × ℕ)) (v w : View)
    → ReadsBelow k b sets.pointers sets.headers sets.holds top (Ok to) found v w
    → HasPlaceFor 128 b.pointer sets.pointers
below_place sets k b top to found v w r = elim ((r.read).found.on).set [
  | inr so ↦ inl so
  | inl none ↦ inr (none, (r.read).found.room none)
]
