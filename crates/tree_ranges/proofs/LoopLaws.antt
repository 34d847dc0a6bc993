-- The records of a leaf whose header is kept, one after another.
use Rattle.std.proofs.Common.{◌≡◌, ◌≢◌, ◌⊎◌, inl, inr, ℕ, suc, ◌+◌, ◌-◌, ◌*◌, ◌<◌, ◌≤◌, Bool, true, false, true≢false}
use Rattle.std.proofs.Common.{eqb, eqb-true, List}
use Rattle.std.proofs.Common.{[], ◌∷◌, length, length-append, refl, sym, ap, ◌∙◌, subst, arith, Option, Some, None}
use Rattle.std.specs.Prelude.{Contains, Ok, Err}
use Rattle.std.specs.List.{slice_get}
use Rattle.std.proofs.lemmas.Bool.{and_parts}
use Rattle.lists.specs.Elements.{any_in, any_is, at_in, in_cases, in_none, in_push_new}
use Rattle.serial_model.specs.declared.key.Key.{Key}
use Rattle.homes.specs.Homes.{has_key, same_key}
use Rattle.homes.specs.Laws.{same_key-self}
use Rattle.commit_core.specs.declared.part.Part.{Part}
use Rattle.serial_bridge.specs.Transaction.{Vouched}
use Rattle.tx_sets.specs.declared.seen.Seen.{Seen}
use Rattle.tx_sets.specs.declared.sets.Sets.{Sets}
use Rattle.tx_sets.specs.declared.writes.Write.{Write}
use Rattle.tx_sets.specs.Entries.{value_of}
use Rattle.engine_pages.specs.declared.layout.Layout.{Layout}
use Rattle.engine_pages.specs.declared.view.RefusalCause.{RefusalCause}
use Rattle.engine_pages.specs.declared.view.View.{View}
use Rattle.engine_pages.specs.Layout.{page_at}
use Rattle.engine_pages.specs.Steps.{kept_at, seen_at}
use Rattle.array_pages.specs.Finding.{HasGlanced}
use Rattle.tree_walks.specs.declared.ways.Leaf.{Leaf}
use Rattle.tree_walks.specs.Walks.{CanWalk, HasWalked}
use Rattle.tree_walks.specs.Ways.{IsLeafAt}
use Rattle.tree_walks.proofs.HalfLaws.{bounds_of}
use Rattle.tree_walks.proofs.KeepLaws.{keeps_glanced}
use Rattle.tree_walks.proofs.LoadLaws.{glanced_grip, glanced_walked, glanced_went}
use Rattle.tree_walks.proofs.PathLaws.{paths_glanced}
use Rattle.tree_walks.proofs.StepLaws.{layout_stays, led_none}
use Rattle.tree_walks.proofs.WayLaws.{leaf_stays}
use Rattle.page_commit.specs.Calls.{end_most}
use Rattle.page_commit.specs.Live.{IsLive}
use Rattle.page_commit.specs.Turning.{PartsStay}
use Rattle.page_commit.proofs.WalkedLaws.{can_walk}
use Rattle.tree_scans.specs.declared.smallest.Place.{Place}
use Rattle.tree_scans.specs.Rows.{key_in}
use Rattle.tree_scans.specs.Smallest.{IsSmallest}
use Rattle.tree_ranges.specs.Going.{Comes, GoesIn, HasRow, HasRowOf, ReadsTo, Stops, TakesRow}
use Rattle.tree_ranges.specs.Leaves.{IsLeafTaken}
use Rattle.tree_ranges.specs.Rows.{with_row, AreFree, AreRowsOf, RowsGoOn}
use Rattle.tree_ranges.proofs.GoneLaws.{goes_more, goes_none, goes_then, in_more, read_goes, stops_then}
use Rattle.tree_ranges.proofs.RowLaws.{rows_one, rows_past, seen_stays}
use Rattle.tree_ranges.proofs.WalkLaws.{live_walk, walk_goes}

-- ---- keys of a leaf

contains_at : {A : Type 0} (xs : List A) (x : A) → Contains xs x → (i : ℕ) × (slice_get xs i ≡ Some x)
contains_at [] x has = absurd (in_none x has)
contains_at (y ∷ xs) x has =
    elim (in_cases x y xs has) [
      | inl same ↦ (0, ap (λ z. Some z) same)
      | inr old ↦ let r = contains_at xs x old in (suc r.0, r.1)
    ]

same_numbers : (a b : Key) → same_key a b ≡ true → a.key ≡ b.key
same_numbers a b same = eqb-true a.key b.key (and_parts (eqb a.storage b.storage) (eqb a.key b.key) same).1

-- the key of a leaf's record has its storage
key_of : (k : Key) (x : Leaf) (v : View) (l : IsLeafAt k x v) (i n : ℕ) (q : Key) → slice_get l.keys i ≡ Some q
    → q.key ≡ n
    → q ≡ key_in k.storage n
key_of k x v l i n q at is =
    let inside = l.inside q (any_in (λ (z : Key). same_key z q) l.keys q (at_in l.keys i q at) (same_key-self q)) in
    let storage : q.storage ≡ k.storage = (bounds_of x.span q inside).0 ∙ sym (bounds_of x.span k (l.on).over).0 in
    ap (λ (s : ℕ). let z : Key = record { storage = s; key = q.key } in z) storage
    ∙ ap (λ (m : ℕ). let z : Key = record { storage = k.storage; key = m } in z) is

-- a leaf on the way to one key is on the way to each of its keys
abbrev pub leaf_for : (k q : Key) (x : Leaf) (v : View) (l : IsLeafAt k x v) → has_key l.keys q ≡ true → IsLeafAt q x v
leaf_for k q x v l has = record {
  on = record { way = (l.on).way; tree = (l.on).tree; there = (l.on).there; over = l.inside q has };
  keys = l.keys;
  knows = l.knows;
  few = l.few;
  once = l.once;
  inside = l.inside;
  count = l.count;
  kind = l.kind;
  small = l.small;
}

-- none of these keys is from this one on and below that one
clear_keys : (keys : List Key) (storage from to : ℕ)
    → ((i : ℕ) (q : Key) → slice_get keys i ≡ Some q → from ≤ q.key → to ≤ q.key) → (n : ℕ) → from ≤ n → n < to
    → has_key keys (key_in storage n) ≡ false
clear_keys keys storage from to none n low high = by_test (has_key keys (key_in storage n)) refl
  where
    by_test : (b : Bool) → has_key keys (key_in storage n) ≡ b → has_key keys (key_in storage n) ≡ false
    by_test false is = is
    by_test true is =
        let q = any_is (λ (z : Key). same_key z (key_in storage n)) keys is in
        let at = contains_at keys q.0 q.1 in
        let number : (q.0).key ≡ n = same_numbers q.0 (key_in storage n) q.2 in
        let past = none at.0 q.0 at.1 (omega (arith, number, low)) in absurd (omega (arith, past, number, high))

-- one row more at most
pub with_few : (rows : List (ℕ × ℕ)) (value : Option ℕ) (n : ℕ) (all : List (ℕ × ℕ)) → all ≡ with_row n value rows
    → length rows < 16 → length all ≤ 16
with_few rows None n all is few = let e = ap (λ (l : List (ℕ × ℕ)). length l) is in omega (arith, e, few)
with_few rows (Some value) n all is few =
    let e : length all ≡ length rows + 1 = ap (λ (l : List (ℕ × ℕ)). length l) is
    ∙ length-append rows ((n, value) ∷ []) in
    omega (arith, e, few)

-- where they are 16 then, this one is new
pub with_full : (rows : List (ℕ × ℕ)) (value : Option ℕ) (n : ℕ) (all : List (ℕ × ℕ)) → all ≡ with_row n value rows
    → length rows < 16 → length all ≡ 16 → HasRowOf n all
with_full rows None n all is few full =
    let e = ap (λ (l : List (ℕ × ℕ)). length l) is in absurd (omega (arith, e, few, full))
with_full rows (Some value) n all is few full = record {
  row = (n, value);
  among = subst (λ (l : List (ℕ × ℕ)). Contains l (n, value)) (sym is) (in_push_new (n, value) rows);
  is = refl;
}

-- The records of the leaf below this key were read, and no others.
pub record IsReading
    (sets : Sets) (k : Key) (top : ℕ) (rows : List (ℕ × ℕ)) (v : View) (mid : Sets) (from : ℕ) (some : List (ℕ × ℕ))
    (u : View) : Type 0 where
  pub gone : (to : ℕ) → k.key ≤ to → from ≤ to + 1 → GoesIn k.storage k.key to sets mid v u
  pub go_on : RowsGoOn k.storage k.key from sets.writes v.seat.kept u.seat.kept rows some
  pub few : length some < 16
  pub low : k.key ≤ from
  pub high : from ≤ top + 1
  pub most : u.steps ≤ v.steps + 19 * (from - k.key)

module _ (sets : Sets) (k : Key) (x : Leaf) (top : ℕ) (rows : List (ℕ × ℕ)) (v : View) (live : IsLive sets v)
    (taken : IsLeafTaken k x top sets.headers v) (free : AreFree k.storage k.key top sets.writes)
    (start : k.key ≤ top) where
  pub reading_none : length rows < 16 → IsReading sets k top rows v sets k.key rows v
  reading_none few = record {
    gone = λ to low high. goes_none k.storage k.key to sets v live;
    go_on = λ low less are. are;
    few = few;
    low = omega arith;
    high = omega (arith, start);
    most = omega arith;
  }

  module _ (mid : Sets) (from : ℕ) (some : List (ℕ × ℕ)) (u : View) (r : IsReading sets k top rows v mid from some u)
    where
      abbrev pub walked : HasWalked v u
      walked = (r.gone top start r.high k.key top (omega arith) (omega arith)).walked

      pub reading_live : IsLive mid u
      reading_live = (r.gone top start r.high k.key top (omega arith) (omega arith)).live

      writes_same : mid.writes ≡ sets.writes
      writes_same = (r.gone top start r.high k.key top (omega arith) (omega arith)).writes

      abbrev pub reading_leaf : IsLeafAt k x u
      reading_leaf = leaf_stays k x v u walked taken.leaf

      -- the header was last seen as it is kept
      pub reading_met : seen_at u.reads (page_at u.layout.slots x.slot 0) ≡ Some x.header
      reading_met =
          let head : Seen = record { at = page_at v.layout.slots x.slot 0; word = x.header } in
          let joined = (r.gone top start r.high k.key top (omega arith) (omega arith)).headers in
          ap (λ (y : Layout). seen_at u.reads (page_at y.slots x.slot 0)) (layout_stays v u walked)
          ∙ (reading_live.headers).met head
          (subst (λ (l : List Seen). Contains l head) (sym joined.is)
          (in_more sets.headers joined.more head taken.kept))

      -- none is left before the loop's test
      pub reading_past : top < from → Comes 16 19 k.storage k.key top (Ok top) sets mid rows some v u
      reading_past past =
          let high = r.high in
          let most = r.most in
          let few = r.few in record {
            read = record {
              from_is = start;
              within = omega arith;
              gone = r.gone top start r.high;
              go_on = subst (λ (i : ℕ). RowsGoOn k.storage k.key i sets.writes v.seat.kept u.seat.kept rows some)
                  (let e : from ≡ top + 1 = omega (arith, past, high) in e) r.go_on;
              few = omega (arith, few);
              full = λ is. absurd (omega (arith, few, is));
            };
            quick = omega (arith, most, high);
            stops = tt;
            slow = tt;
          }

      -- the smallest key that is left was looked for
      module _ (g : View) (o : Option Place) (gl : HasGlanced u g) (steps : g.steps ≤ u.steps + 16)
          (smallest : (l : IsLeafAt k x u) → IsSmallest l.keys from o) where
        least : IsSmallest taken.leaf.keys from o
        least = smallest reading_leaf

        can : CanWalk mid.holds g
        can = (glanced_went 16 mid.holds u g (can_walk mid u reading_live) gl steps).can

        pub glance_live : IsLive mid g
        glance_live =
            live_walk mid mid.holds u g reading_live (glanced_walked u g gl) can (ap (λ (z : View). z.seat.kept) gl.is)
            (λ a. ap (λ (z : View). kept_at z.reads a) gl.is) (λ a. inl (ap (λ (z : View). seen_at z.reads a) gl.is))
            (keeps_glanced mid.pointers mid.headers u g gl)

        pub glance_met : seen_at g.reads (page_at g.layout.slots x.slot 0) ≡ Some x.header
        glance_met = ap (λ (z : View). seen_at z.reads (page_at z.layout.slots x.slot 0)) gl.is ∙ reading_met

        glance_to : (to : ℕ) → k.key ≤ to → from ≤ to + 1 → GoesIn k.storage k.key to sets mid v g
        glance_to to first past =
            goes_then k.storage k.key to sets mid mid v u g (r.gone to first past)
            (goes_more k.storage k.key k.key k.key to mid mid u g (omega arith) first
            (walk_goes mid mid.holds u g reading_live (glanced_walked u g gl) can (ap (λ (z : View). z.seat.kept) gl.is)
            (λ a. ap (λ (z : View). kept_at z.reads a) gl.is) (λ a. inl (ap (λ (z : View). seen_at z.reads a) gl.is))
            (keeps_glanced mid.pointers mid.headers u g gl) k (paths_glanced k u g gl)
            (led_none k u g (glanced_grip u g gl))))

        pub glance_goes : GoesIn k.storage k.key top sets mid v g
        glance_goes = glance_to top start r.high

        glance_stay : PartsStay u.seat.kept g.seat.kept
        glance_stay q value had =
            subst (λ (l : List Part). Vouched l q value)
            (sym (ap (λ (z : View). z.seat.kept) gl.is)) had

        stay : PartsStay v.seat.kept g.seat.kept
        stay = (glance_goes k.key top (omega arith) (omega arith)).keeps

        -- the keys up to the next one have no value
        gap_rows : (to : ℕ) → from ≤ to → to ≤ top + 1
            → ((i : ℕ) (q : Key) → slice_get taken.leaf.keys i ≡ Some q → from ≤ q.key → to ≤ q.key)
            → RowsGoOn k.storage k.key to sets.writes v.seat.kept g.seat.kept rows some
        gap_rows to up end none low less are =
            let over = r.low in
            rows_past k.storage low from to sets.writes u.seat.kept g.seat.kept some (r.go_on low less are) glance_stay
            (omega (arith, less, over)) up (λ n first last.
            inr (
              free n (omega (arith, over, first)) (omega (arith, last, end)),
              stay (key_in k.storage n) None
                  (taken.rest n (omega (arith, over, first)) (omega (arith, last, end))
                  (clear_keys taken.leaf.keys k.storage from to none n first last)),
            ))

        ends : from ≤ top + 1
            → ((i : ℕ) (q : Key) → slice_get taken.leaf.keys i ≡ Some q → from ≤ q.key → top + 1 ≤ q.key)
            → Comes 16 19 k.storage k.key top (Ok top) sets mid rows some v g
        ends up none =
            let most = r.most in
            let few = r.few in record {
              read = record {
                from_is = start;
                within = omega arith;
                gone = glance_goes;
                go_on = gap_rows (top + 1) up (omega arith) none;
                few = omega (arith, few);
                full = λ is. absurd (omega (arith, few, is));
              };
              quick = omega (arith, most, steps, up);
              stops = tt;
              slow = tt;
            }

        -- there is none
        pub glance_none : o ≡ None → Comes 16 19 k.storage k.key top (Ok top) sets mid rows some v g
        glance_none is =
            let l : IsSmallest taken.leaf.keys from None = subst (IsSmallest taken.leaf.keys from) is least in
            ends r.high (λ i q at on. let below = l i q at in absurd (omega (arith, below, on)))

        -- there is one
        module _ (place : Place) (is : o ≡ Some place) where
          some_least : IsSmallest taken.leaf.keys from (Some place)
          some_least = subst (IsSmallest taken.leaf.keys from) is least

          pub glance_above : top < place.key → Comes 16 19 k.storage k.key top (Ok top) sets mid rows some v g
          glance_above past =
              ends r.high (λ i q at on. let more = some_least.2 i q at on in omega (arith, more, past))

          pub glance_from : from ≤ place.key
          glance_from = some_least.1

          pub glance_leaf : (m : IsLeafAt (key_in k.storage place.key) x g)
              × (slice_get m.keys place.index ≡ Some (key_in k.storage place.key))
          glance_leaf =
              let l : IsLeafAt k x g = leaf_stays k x u g (glanced_walked u g gl) reading_leaf in
              let one = some_least.0 in
              let q : Key = key_in k.storage place.key in
              let at : slice_get taken.leaf.keys place.index ≡ Some q =
              subst (λ (z : Key). slice_get taken.leaf.keys place.index ≡ Some z)
              (key_of k x v taken.leaf place.index place.key one.0 one.1 one.2) one.1 in (
                leaf_for k q x g l
                    (any_in (λ (z : Key). same_key z q) taken.leaf.keys q (at_in taken.leaf.keys place.index q at)
                    (same_key-self q)),
                at,
              )

          module _ (under : place.key ≤ top) (w : View) (new : Sets) (all : List (ℕ × ℕ)) where
            pub glance_free : value_of (key_in k.storage place.key) mid.writes ≡ None
            glance_free =
                let low = r.low in
                let on = glance_from in
                subst (λ (l : List Write). value_of (key_in k.storage place.key) l ≡ None)
                (sym writes_same) (free place.key (omega (arith, low, on)) under)

            pub record_stops : (why : RefusalCause) (later : List (ℕ × ℕ))
                → TakesRow k.storage place.key (Err why) mid new some later g w
                → Comes 16 19 k.storage k.key top (Err why) sets new rows later v w
            record_stops why later t =
                let low = r.low in
                let on = glance_from in
                let most = r.most in
                let slow = t.slow in record {
                  read = tt;
                  quick = tt;
                  stops = stops_then k.storage k.key top place.key place.key sets mid new why v g w glance_goes
                      (omega (arith, low, on)) under t.stops;
                  slow = omega (arith, most, steps, slow, low, on, under);
                }

            module _ (t : TakesRow k.storage place.key (Ok tt) mid new some all g w) where
              row : HasRow k.storage place.key mid new some all g w
              row = t.read

              record_to : (to : ℕ) → place.key ≤ to → GoesIn k.storage k.key to sets new v w
              record_to to over =
                  let low = r.low in
                  let on = glance_from in
                  goes_then k.storage k.key to sets mid new v g w
                  (glance_to to (omega (arith, low, on, over)) (omega (arith, on, over)))
                  (goes_more k.storage place.key place.key k.key to mid new g w (omega (arith, low, on)) over
                  (read_goes (key_in k.storage place.key) row.value mid new g w row.is))

              record_rows : RowsGoOn k.storage k.key (place.key + 1) sets.writes v.seat.kept w.seat.kept rows all
              record_rows low less are =
                  let first = r.low in
                  let on = glance_from in
                  let before = gap_rows place.key on (omega (arith, under)) some_least.2 low less are in
                  subst (AreRowsOf k.storage low (place.key + 1) sets.writes w.seat.kept) (sym row.rows_is)
                  (rows_one k.storage low place.key row.value sets.writes g.seat.kept w.seat.kept some before
                  row.is.value_is.keeps (omega (arith, less, first, on))
                  (inr (free place.key (omega (arith, first, on)) under, row.is.value_is.vouched)))

              record_few : length all ≤ 16
              record_few = with_few some row.value place.key all row.rows_is r.few

              record_most : w.steps ≤ v.steps + 19 * ((place.key + 1) - k.key)
              record_most =
                  let low = r.low in
                  let on = glance_from in
                  let most = r.most in
                  let quick = t.quick in omega (arith, most, steps, quick, low, on)

              record_ends : (to : ℕ) → to ≡ place.key → Comes 16 19 k.storage k.key top (Ok to) sets new rows all v w
              record_ends to same =
                  let low = r.low in
                  let on = glance_from in
                  let most = record_most in record {
                    read = record {
                      from_is = omega (arith, same, low, on);
                      within = omega (arith, same, under);
                      gone = record_to to (omega (arith, same));
                      go_on = subst (λ (i : ℕ). RowsGoOn k.storage k.key (i + 1) sets.writes v.seat.kept w.seat.kept
                          rows all)
                          (sym same) record_rows;
                      few = record_few;
                      full = λ is. subst (λ (i : ℕ). HasRowOf i all) (sym same)
                          (with_full some row.value place.key all row.rows_is r.few is);
                    };
                    quick = omega (arith, most, same);
                    stops = tt;
                    slow = tt;
                  }

              pub record_full : Comes 16 19 k.storage k.key top (Ok place.key) sets new rows all v w
              record_full = record_ends place.key refl

              pub record_last : place.key ≡ top → Comes 16 19 k.storage k.key top (Ok top) sets new rows all v w
              record_last same = record_ends top (sym same)

              pub record_more : (length all ≡ 16 → ⊥) → place.key ≢ top → IsReading sets k top rows v new (place.key +
                  1) all w
              record_more other last =
                  let low = r.low in
                  let on = glance_from in
                  let few = record_few in
                  let ne : length all ≢ 16 = other in record {
                    gone = λ to first past. record_to to (omega (arith, past));
                    go_on = record_rows;
                    few = omega (arith, few, ne);
                    low = omega (arith, low, on);
                    high = omega (arith, under);
                    most = record_most;
                  }
