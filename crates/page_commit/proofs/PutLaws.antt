-- Values that are put, and locks opened with the new number, one after another.
use Rattle.std.proofs.Common.{◌≡◌, ℕ, zero, suc, ◌+◌, ◌^◌, ◌<◌, ◌≤◌, Bool, true, false, cond, List, [], ◌∷◌, ◌++◌, length}
use Rattle.std.proofs.Common.{drop, get_or, Some, None, Option, refl, sym, ap, ◌∙◌, subst, arith, true≢false}
use Rattle.std.specs.Prelude.{filter, not, ◌||◌, unwrap_or, is_some, Contains}
use Rattle.std.specs.List.{slice_get, find, AllByRecursion}
use Rattle.std.specs.Option.{option_map}
use Rattle.lists.specs.Elements.{any_push_new, in_head}
use Rattle.serial_model.specs.declared.decl.Decl.{Decl}
use Rattle.serial_model.specs.declared.key.Key.{Key}
use Rattle.wire_form.specs.Leaves.{tree_leaf}
use Rattle.wire_form.specs.Words.{absent_field}
use Rattle.serial_model.specs.declared.number.Change.{Change}
use Rattle.homes.specs.Homes.{same_key, has_key}
use Rattle.homes.specs.Laws.{same_key-self}
use Rattle.commit_core.specs.declared.seat.Seat.{Seat}
use Rattle.commit_core.specs.declared.seat.Stage.TheVariants.{Idle, Decided}
use Rattle.commit_core.specs.Keys.{written}
use Rattle.commit_core.specs.CoreState.{settled}
use Rattle.tx_sets.specs.declared.writes.Write.{Write}
use Rattle.tx_sets.specs.Entries.{has_write}
use Rattle.engine_pages.specs.declared.layout.Layout.{Layout}
use Rattle.engine_pages.specs.declared.view.Loaded.{Loaded}
use Rattle.engine_pages.specs.declared.view.Read.{Read}
use Rattle.engine_pages.specs.declared.view.Took.{Took}
use Rattle.engine_pages.specs.declared.view.View.{View}
use Rattle.page_records.specs.Locks.{took_at, not_at, opened, put_at, CanPut, CanOpenAnew}
use Rattle.engine_pages.specs.Pages.{is_array}
use Rattle.engine_pages.specs.Records.{IsAnyRecordAt}
use Rattle.engine_pages.specs.Views.{IsActive}
use Rattle.homes.specs.declared.places.Spot.{Spot}
use Rattle.engine_pages.specs.declared.engine.Engine.{Engine}
use Rattle.engine_pages.specs.Passes.{Pass, view, IsPassOf}
use Rattle.page_commit.proofs.AnyPlaces.{any_spot, spot_same}
use Rattle.page_commit.specs.Places.{ground, spot_for, IsAnyKeyAt}
use Rattle.page_commit.specs.Committing.{changes_of}
use Rattle.page_commit.specs.Live.{IsWriteOf}
use Rattle.page_commit.specs.Steps.{absent_bit, keys_of, tooks_of, HasDecided, HasPublished}
use Rattle.engine_pages.specs.Rule.{absence}
use Rattle.page_commit.proofs.Lists.{drop_one, drop_all, any_get, all_get, same_flip, AreApart, apart_drop}
use Rattle.page_commit.proofs.Lists.{apart_head}
use Rattle.page_commit.proofs.Settling.{settled_locks, settled_marks, settled_open, settled_last}
use Rattle.page_commit.proofs.OpenLaws.{first_goes, first_took}

-- the first `done` writes are put and opened
pub record IsPublishing (writes : List Write) (found : List ℕ) (v w : View) (done : ℕ) : Type 0 where
  pub seat : Seat
  pub steps : ℕ
  pub loaded : Option Loaded
  pub reads : List Read
  pub is : w ≡ record v {
    seat = seat;
    took = tooks_of v.layout (drop done writes) (drop done found);
    steps = steps;
    loaded = loaded;
    reads = reads;
  }
  pub locks : seat.locks ≡ keys_of (drop done writes)
  pub begun : (i : ℕ) → done < length writes → (0 < length writes → v.seat.stage ≡ Decided i) → seat.stage ≡ Decided i
  pub over : length writes ≤ done → (seat.kept ≡ []) × (seat.stage ≡ Idle)
  pub marks : seat.marks ≡ v.seat.marks

abbrev with_seat : View → Seat → List Took → View → View
with_seat v seat took w = record v { seat = seat; took = took; steps = w.steps; loaded = w.loaded; reads = w.reads }

pub starts : (writes : List Write) (found : List ℕ) (number : ℕ) (v : View) → HasDecided writes found number v
    → IsPublishing writes found v v 0
starts writes found number v h = record {
  seat = v.seat;
  steps = v.steps;
  loaded = v.loaded;
  reads = v.reads;
  is = ap (λ l. with_seat v v.seat l v) h.took;
  locks = h.locks;
  begun = λ i some stage. stage (omega arith);
  over = λ none. h.over (omega arith);
  marks = refl;
}

-- ---- what is put

-- a write is found among those that are apart
found_in : (ws : List Write) (i : ℕ) (d : Write) → i < length ws → AreApart ws
    → written (get_or ws i d).key (changes_of ws) ≡ Some (get_or ws i d).value
found_in [] i d lt are = absurd (omega arith)
found_in (x ∷ xs) zero d lt are =
    ap (λ (b : Bool). option_map (λ (w : Change). w.value) (cond b (Some (record { key = x.key; value = x.value }))
    (find (λ (w : Change). same_key w.key x.key) (changes_of xs)))) (same_key-self x.key)
found_in (x ∷ xs) (suc i) d lt are =
    let one : Write = get_or xs i d in
    let miss : same_key x.key one.key ≡ false = same_flip one.key x.key (any_get (λ (y : Write). same_key y.key x.key)
    xs i d (omega arith) are.0) in
    ap (λ (b : Bool). option_map (λ (w : Change). w.value) (cond b (Some (record { key = x.key; value = x.value }))
    (find (λ (w : Change). same_key w.key one.key) (changes_of xs)))) miss
    ∙ found_in xs i d (omega arith) are.1

-- an array's record always gets a value, so its kind is of no account for the bit of absence
pub absence_of : (decls : List Decl) (k : Key) (value : Option ℕ)
    → (is_array decls k.storage ≡ true → is_some value ≡ true) → absence decls k value ≡ absent_bit value
absence_of decls k (Some n) there = by_kind (is_array decls k.storage)
  where
    by_kind : (b : Bool) → cond b 0 (absent_field tree_leaf (Some n)) ≡ 0
    by_kind true = refl
    by_kind false = refl
absence_of decls k None there = by_kind (is_array decls k.storage) refl
  where
    by_kind : (b : Bool) → is_array decls k.storage ≡ b → cond b 0 (absent_field tree_leaf None) ≡ 2 ^ 61
    by_kind true is = absurd (true≢false (sym (there is)))
    by_kind false is = refl

first_locked : (writes : List Write) (found : List ℕ) (done : ℕ) (d : Write) (v w : View)
    → IsPublishing writes found v w done
    → done < length writes → has_key w.seat.locks (get_or writes done d).key ≡ true
first_locked writes found done d v w p lt =
    let one : Write = get_or writes done d in
    ap (λ l. has_key l one.key) (ap (λ (y : View). y.seat.locks) p.is
    ∙ (p.locks ∙ ap keys_of (drop_one writes done d lt)))
    ∙ ap (λ b. b || has_key (keys_of (drop (done + 1) writes)) one.key) (same_key-self one.key)

tooks_one : (lay : Layout) (ws : List Write) (ns : List ℕ) (i : ℕ) (d : Write) (e : ℕ) → i < length ws → i < length ns
    → tooks_of lay (drop i ws) (drop i ns)
    ≡ tooks_of lay (get_or ws i d ∷ drop (i + 1) ws) (get_or ns i e ∷ drop (i + 1) ns)
tooks_one lay ws ns i d e lt lt' =
    ap (λ l. tooks_of lay l (drop i ns)) (drop_one ws i d lt)
    ∙ ap (λ l. tooks_of lay (get_or ws i d ∷ drop (i + 1) ws) l) (drop_one ns i e lt')

first_took_there : (writes : List Write) (found : List ℕ) (done : ℕ) (d : Write) (v w : View)
    → length found ≡ length writes → IsPublishing writes found v w done → done < length writes
    → Contains w.took (took_at (get_or writes done d).key (spot_for v.layout (get_or writes done d).key (get_or writes done d).at)
    (get_or found done 0))
first_took_there writes found done d v w count p lt =
    let one : Write = get_or writes done d in
    let t : Took = took_at one.key (spot_for v.layout one.key one.at) (get_or found done 0) in
    subst (λ (l : List Took). Contains l t)
    (sym (ap (λ (y : View). y.took) p.is ∙ tooks_one v.layout writes found done d 0 lt (omega (arith, count, lt))))
    (in_head t (tooks_of v.layout (drop (done + 1) writes) (drop (done + 1) found)))

pub can_put_one : (writes : List Write) (found : List ℕ) (number done : ℕ) (d : Write) (v w : View)
    → HasDecided writes found number v → IsPublishing writes found v w done → done < length writes → AreApart writes
    → AllByRecursion (IsWriteOf (ground v)) writes
    → CanPut w (get_or writes done d).key (spot_for v.layout (get_or writes done d).key (get_or writes done d).at) (unwrap_or (get_or writes done d).value 0)
can_put_one writes found number done d v w h p lt are all = record {
  found = get_or found done 0;
  took = first_took_there writes found done d v w h.count p lt;
  index = h.index;
  attempt = h.attempt;
  stage = ap (λ (y : View). y.seat.stage) p.is ∙ p.begun h.index lt h.begun;
  at = ap (λ (y : View). slice_get y.history h.index) p.is ∙ h.at;
  locked = first_locked writes found done d v w p lt;
  value = (get_or writes done d).value;
  writes = ap (written (get_or writes done d).key) h.writes_are ∙ found_in writes done d lt are;
  is = refl;
}

pub can_open_one : (writes : List Write) (found : List ℕ) (number done : ℕ) (d : Write) (v w x : View) (at value : ℕ)
    → HasDecided writes found number v → IsPublishing writes found v w done → done < length writes → AreApart writes
    → AllByRecursion (IsWriteOf (ground v)) writes → x ≡ put_at (get_or writes done d).key at value w
    → CanOpenAnew x (get_or writes done d).key (spot_for v.layout (get_or writes done d).key (get_or writes done d).at)
    (number + absent_bit (get_or writes done d).value)
can_open_one writes found number done d v w x at value h p lt are all is =
    let one : Write = get_or writes done d in record {
      found = get_or found done 0;
      took = subst (λ (y : View). Contains y.took (took_at one.key (spot_for v.layout one.key one.at) (get_or found done 0)))
          (sym is) (first_took_there writes found done d v w h.count p lt);
      index = h.index;
      attempt = h.attempt;
      stage = ap (λ (y : View). y.seat.stage) is ∙ (ap (λ (y : View). y.seat.stage) p.is ∙ p.begun h.index lt h.begun);
      at = ap (λ (y : View). slice_get y.history h.index) is ∙ (ap (λ (y : View). slice_get y.history h.index) p.is
          ∙ h.at);
      locked = ap (λ (y : View). has_key y.seat.locks one.key) is ∙ first_locked writes found done d v w p lt;
      put = ap (λ (y : View). has_key y.seat.put one.key) is
          ∙ any_push_new (λ (q : Key). same_key q one.key) w.seat.put one.key (same_key-self one.key);
      value = one.value;
      writes = ap (written one.key) h.writes_are ∙ found_in writes done d lt are;
      number =
          let word = h.word in
          let layout : x.layout ≡ v.layout = ap (λ (y : View). y.layout) is ∙ ap (λ (y : View). y.layout) p.is in
          let bit = absence_of x.layout.decls one.key one.value (λ array.
          (all_get (IsWriteOf (ground v)) writes done d lt all).value
          (subst (λ (y : Layout). is_array y.decls one.key.storage ≡ true) layout array)) in omega (arith, word, bit);
    }

pub published_one : (writes : List Write) (found : List ℕ) (number done : ℕ) (d : Write) (v w x y : View)
    (at value at' word : ℕ)
    → HasDecided writes found number v → IsPublishing writes found v w done → done < length writes → AreApart writes
    → x ≡ put_at (get_or writes done d).key at value w → y ≡ opened (get_or writes done d).key at' word x
    → IsPublishing writes found v y (done + 1)
published_one writes found number done d v w x y at value at' word h p lt are put opens =
    let one : Write = get_or writes done d in
    let u : View = record v {
      seat = p.seat;
      took = tooks_of v.layout (drop done writes) (drop done found);
      steps = p.steps;
      loaded = p.loaded;
      reads = p.reads;
    } in
    let z : View = opened one.key at' word (put_at one.key at value u) in
    let s : Seat = record p.seat {
      put = p.seat.put ++ one.key ∷ [];
      locks = filter (λ q. not (same_key q one.key)) p.seat.locks;
    } in
    let apart : has_write one.key (drop (done + 1) writes) ≡ false =
    apart_head one (drop (done + 1) writes) (subst AreApart (drop_one writes done d lt) (apart_drop writes done are)) in
    let locks : s.locks ≡ keys_of (drop (done + 1) writes) =
    ap (λ (l : List Key). filter (λ q. not (same_key q one.key)) l) (p.locks ∙ ap keys_of (drop_one writes done d lt))
    ∙ first_goes one (drop (done + 1) writes) apart in
    let took : not_at one.key u.took ≡ tooks_of v.layout (drop (done + 1) writes) (drop (done + 1) found) =
    ap (not_at one.key) (tooks_one v.layout writes found done d 0 lt (let c = h.count in omega arith))
    ∙ first_took v.layout one (drop (done + 1) writes) (get_or found done 0) (drop (done + 1) found) apart in
    let stage : s.stage ≡ Decided h.index = p.begun h.index lt h.begun in record {
      seat = settled s;
      steps = z.steps;
      loaded = z.loaded;
      reads = z.reads;
      is = opens ∙ (ap (opened one.key at' word) (put ∙ ap (put_at one.key at value) p.is)
          ∙ ap (λ l. with_seat v (settled s) l z) took);
      locks = settled_locks s ∙ locks;
      begun = λ i some begun.
          let left : s.locks ≡ (get_or writes (done + 1) d).key ∷ keys_of (drop (done + 1 + 1) writes) =
          locks ∙ ap keys_of (drop_one writes (done + 1) d some) in
          ap (λ (a : Seat). a.stage) (settled_open s (get_or writes (done + 1) d).key
          (keys_of (drop (done + 1 + 1) writes)) left)
          ∙ p.begun i lt begun;
      over = λ le.
          let last = settled_last s h.index (locks ∙ ap keys_of (drop_all writes (done + 1) le)) stage in
          (ap (λ (a : Seat). a.kept) last, ap (λ (a : Seat). a.stage) last);
      marks = settled_marks s ∙ p.marks;
    }

pub published_all : (writes : List Write) (found : List ℕ) (v w : View) (done : ℕ) → IsPublishing writes found v w done
    → length writes ≤ done → HasPublished v w
published_all writes found v w done p le = record {
  seat = p.seat;
  steps = p.steps;
  loaded = p.loaded;
  reads = p.reads;
  is = p.is ∙ ap (λ l. with_seat v p.seat (tooks_of v.layout l (drop done found))
      (record v { steps = p.steps; loaded = p.loaded; reads = p.reads })) (drop_all writes done le);
  kept = (p.over le).0;
  locks = p.locks ∙ ap keys_of (drop_all writes done le);
  stage = (p.over le).1;
  marks = p.marks;
}

-- ---- the loop's calls

pub put_active : (writes : List Write) (found : List ℕ) (v w : View) (done : ℕ) → IsActive v.role
    → IsPublishing writes found v w done → IsActive w.role
put_active writes found v w done active p = subst IsActive (sym (ap (λ (y : View). y.role) p.is)) active

pub put_there : (writes : List Write) (found : List ℕ) (v w : View) (done : ℕ) (d : Write)
    → AllByRecursion (IsWriteOf (ground v)) writes → IsPublishing writes found v w done → done < length writes
    → IsAnyKeyAt w (get_or writes done d).key (get_or writes done d).at
put_there writes found v w done d all p lt =
    subst (λ (y : View). IsAnyKeyAt y (get_or writes done d).key (get_or writes done d).at) (sym p.is)
    (all_get (IsWriteOf (ground v)) writes done d lt all).place

pub open_active : (writes : List Write) (found : List ℕ) (v w x : View) (done : ℕ) (k : Key) (at value : ℕ)
    → IsActive v.role
    → IsPublishing writes found v w done → x ≡ put_at k at value w → IsActive x.role
open_active writes found v w x done k at value active p is =
    subst IsActive (sym (ap (λ (y : View). y.role) is)) (put_active writes found v w done active p)

pub open_there : (writes : List Write) (found : List ℕ) (v w x : View) (done : ℕ) (d : Write) (at value : ℕ)
    → AllByRecursion (IsWriteOf (ground v)) writes → IsPublishing writes found v w done → done < length writes
    → x ≡ put_at (get_or writes done d).key at value w → IsAnyKeyAt x (get_or writes done d).key (get_or writes done d).at
open_there writes found v w x done d at value all p lt is =
    subst (λ (y : View). IsAnyKeyAt y (get_or writes done d).key (get_or writes done d).at) (sym is)
    (put_there writes found v w done d all p lt)

-- ---- at the place that a call picks

pub put_here : (writes : List Write) (found : List ℕ) (v w : View) (done : ℕ) (d : Write)
    → AllByRecursion (IsWriteOf (ground v)) writes → IsPublishing writes found v w done → done < length writes
    → IsAnyRecordAt w (get_or writes done d).key
    (spot_for w.layout (get_or writes done d).key (get_or writes done d).at) (get_or writes done d).at
put_here writes found v w done d all p lt =
    let one : Write = get_or writes done d in any_spot w one.key one.at (put_there writes found v w done d all p lt)

pub anew_here : (writes : List Write) (found : List ℕ) (v w x : View) (done : ℕ) (d : Write) (at value : ℕ)
    → AllByRecursion (IsWriteOf (ground v)) writes → IsPublishing writes found v w done → done < length writes
    → x ≡ put_at (get_or writes done d).key at value w
    → IsAnyRecordAt x (get_or writes done d).key
    (spot_for x.layout (get_or writes done d).key (get_or writes done d).at) (get_or writes done d).at
anew_here writes found v w x done d at value all p lt is =
    let one : Write = get_or writes done d in
    any_spot x one.key one.at (open_there writes found v w x done d at value all p lt is)

pub can_put_here : (e : Engine) (p q : Pass) (writes : List Write) (found : List ℕ) (number done : ℕ) (d : Write)
    → IsPassOf e p → IsPassOf e q → HasDecided writes found number (view p)
    → IsPublishing writes found (view p) (view q) done → done < length writes → AreApart writes
    → AllByRecursion (IsWriteOf (ground (view p))) writes
    → CanPut (view q) (get_or writes done d).key
    (spot_for (view q).layout (get_or writes done d).key (get_or writes done d).at)
    (unwrap_or (get_or writes done d).value 0)
can_put_here e p q writes found number done d of of' h u lt are all =
    let one : Write = get_or writes done d in
    subst (λ (y : Spot). CanPut (view q) one.key y (unwrap_or one.value 0)) (spot_same e p q one.key one.at of of')
    (can_put_one writes found number done d (view p) (view q) h u lt are all)

pub can_open_here : (e : Engine) (p q : Pass) (writes : List Write) (found : List ℕ) (number done : ℕ) (d : Write) (w : View)
    (at value : ℕ) → IsPassOf e p → IsPassOf e q → HasDecided writes found number (view p)
    → IsPublishing writes found (view p) w done → done < length writes → AreApart writes
    → AllByRecursion (IsWriteOf (ground (view p))) writes → view q ≡ put_at (get_or writes done d).key at value w
    → CanOpenAnew (view q) (get_or writes done d).key
    (spot_for (view q).layout (get_or writes done d).key (get_or writes done d).at)
    (number + absent_bit (get_or writes done d).value)
can_open_here e p q writes found number done d w at value of of' h u lt are all is =
    let one : Write = get_or writes done d in
    subst (λ (y : Spot). CanOpenAnew (view q) one.key y (number + absent_bit one.value))
    (spot_same e p q one.key one.at of of')
    (can_open_one writes found number done d (view p) w (view q) at value h u lt are all is)

-- the word of a number has no bit above it
pub decided_small : (writes : List Write) (number : ℕ) (v : View)
    → (found : List ℕ) × HasDecided writes found number v → number < 2 ^ 60
decided_small writes number v d =
    let h = d.1 in
    let draw = h.small.draw in
    let epoch = h.small.epoch in
    let word = h.word in omega (arith, word, draw, epoch)
