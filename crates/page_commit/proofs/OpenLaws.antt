-- Locks that are opened again, one after another.
use Rattle.std.proofs.Common.{◌≡◌, ℕ, zero, suc, ◌+◌, ◌<◌, ◌≤◌, Bool, true, false, cond, List, [], ◌∷◌, length, drop}
use Rattle.std.proofs.Common.{get_or, refl, sym, ap, ◌∙◌, subst, arith}
use Rattle.std.specs.Prelude.{filter, not, Contains, ◌||◌, Option, ◌==◌}
use Rattle.std.specs.List.{AllByRecursion}
use Rattle.std.proofs.lemmas.Bool.{true≢false, or_left, or_right, eq-eqb, ne_eqb, not_from_false}
use Rattle.lists.specs.Elements.{in_head, in_push_old, in_filtered}
use Rattle.serial_model.specs.declared.key.Key.{Key}
use Rattle.homes.specs.Homes.{same_key, has_key}
use Rattle.homes.specs.Laws.{same_key-self}
use Rattle.commit_core.specs.declared.seat.Seat.{Seat}
use Rattle.commit_core.specs.declared.seat.Stage.TheVariants.{Idle}
use Rattle.commit_core.specs.CoreState.{can_begin, settled}
use Rattle.tx_sets.specs.declared.writes.Write.{Write}
use Rattle.tx_sets.specs.Entries.{has_write, writes_at}
use Rattle.engine_pages.specs.declared.view.Loaded.{Loaded}
use Rattle.engine_pages.specs.declared.view.Read.{Read}
use Rattle.engine_pages.specs.declared.view.Took.{Took}
use Rattle.engine_pages.specs.declared.layout.Layout.{Layout}
use Rattle.engine_pages.specs.declared.view.View.{View}
use Rattle.page_records.specs.Locks.{took_at, not_at, opened, CanOpenAgain}
use Rattle.engine_pages.specs.Steps.{kept_at, seen_at, with_read}
use Rattle.engine_pages.specs.Records.{IsAnyRecordAt}
use Rattle.engine_pages.specs.Views.{IsActive}
use Rattle.homes.specs.declared.places.Spot.{Spot}
use Rattle.engine_pages.specs.declared.engine.Engine.{Engine}
use Rattle.engine_pages.specs.Passes.{Pass, view, IsPassOf}
use Rattle.page_commit.proofs.AnyPlaces.{any_spot, spot_same}
use Rattle.page_commit.specs.Places.{ground, spot_for, IsAnyKeyAt}
use Rattle.page_commit.specs.Live.{IsWriteOf}
use Rattle.page_commit.specs.Steps.{keys_of, tooks_of, KeepOthers, HasLocks, HasUnlocked}
use Rattle.page_commit.proofs.Lists.{drop_one, drop_all, all_get, AreApart, apart_drop, apart_head}
use Rattle.page_commit.proofs.Settling.{settled_locks, settled_marks, settled_begin, settled_ends}

-- the first `done` locks are opened
pub record IsUnlocking (writes : List Write) (found : List ℕ) (v w : View) (done : ℕ) : Type 0 where
  pub seat : Seat
  pub steps : ℕ
  pub loaded : Option Loaded
  pub reads : List Read
  pub is : w ≡ record v {
    seat = seat;
    took = tooks_of v.layout (drop done writes) (drop done found);
    steps = steps;
    loaded = loaded;
    reads = reads;
  }
  pub locks : seat.locks ≡ keys_of (drop done writes)
  pub idle : can_begin seat.stage ≡ true
  pub over : length writes ≤ done → seat.stage ≡ Idle
  pub others : KeepOthers writes v.reads reads
  pub marks : seat.marks ≡ v.seat.marks

abbrev with_seat : View → Seat → List Took → View → View
with_seat v seat took w = record v { seat = seat; took = took; steps = w.steps; loaded = w.loaded; reads = w.reads }

pub starts_unlocking : (writes : List Write) (found : List ℕ) (v : View) → HasLocks writes found v
    → IsUnlocking writes found v v 0
starts_unlocking writes found v h = record {
  seat = v.seat;
  steps = v.steps;
  loaded = v.loaded;
  reads = v.reads;
  is = ap (λ l. with_seat v v.seat l v) h.took;
  locks = h.locks;
  idle = h.idle;
  over = λ none. h.none (omega arith);
  others = λ r has apart. has;
  marks = refl;
}

-- ---- the first one goes

others_stay : (k : Key) (ws : List Write) → has_write k ws ≡ false → filter (λ q. not (same_key q k)) (keys_of ws)
    ≡ keys_of ws
others_stay k [] none = refl
others_stay k (w ∷ ws) none =
    let parts = Rattle.std.proofs.lemmas.Bool.or_parts (same_key w.key k) (has_write k ws) none in
    ap (λ (b : Bool). cond (not b) (w.key ∷ filter (λ q. not (same_key q k)) (keys_of ws))
    (filter (λ q. not (same_key q k)) (keys_of ws))) parts.0
    ∙ ap (λ l. w.key ∷ l) (others_stay k ws parts.1)

pub first_goes : (one : Write) (ws : List Write) → has_write one.key ws ≡ false
    → filter (λ q. not (same_key q one.key)) (keys_of (one ∷ ws)) ≡ keys_of ws
first_goes one ws none =
    ap (λ (b : Bool). cond (not b) (one.key ∷ filter (λ q. not (same_key q one.key)) (keys_of ws))
    (filter (λ q. not (same_key q one.key)) (keys_of ws))) (same_key-self one.key)
    ∙ others_stay one.key ws none

tooks_stay : (lay : Layout) (k : Key) (ws : List Write) (ns : List ℕ) → has_write k ws ≡ false → not_at k (tooks_of lay ws ns)
    ≡ tooks_of lay ws ns
tooks_stay lay k [] ns none = refl
tooks_stay lay k (w ∷ ws) [] none = refl
tooks_stay lay k (w ∷ ws) (n ∷ ns) none =
    let parts = Rattle.std.proofs.lemmas.Bool.or_parts (same_key w.key k) (has_write k ws) none in
    ap (λ (b : Bool). cond (not b) (took_at w.key (spot_for lay w.key w.at) n ∷ not_at k (tooks_of lay ws ns)) (not_at k (tooks_of lay ws ns))) parts.0
    ∙ ap (λ l. took_at w.key (spot_for lay w.key w.at) n ∷ l) (tooks_stay lay k ws ns parts.1)

pub first_took : (lay : Layout) (one : Write) (ws : List Write) (n : ℕ) (ns : List ℕ) → has_write one.key ws ≡ false
    → not_at one.key (tooks_of lay (one ∷ ws) (n ∷ ns)) ≡ tooks_of lay ws ns
first_took lay one ws n ns none =
    ap (λ (b : Bool). cond (not b) (took_at one.key (spot_for lay one.key one.at) n ∷ not_at one.key (tooks_of lay ws ns))
    (not_at one.key (tooks_of lay ws ns))) (same_key-self one.key)
    ∙ tooks_stay lay one.key ws ns none

-- ---- one more

tooks_one : (lay : Layout) (ws : List Write) (ns : List ℕ) (i : ℕ) (d : Write) (e : ℕ) → i < length ws → i < length ns
    → tooks_of lay (drop i ws) (drop i ns)
    ≡ took_at (get_or ws i d).key (spot_for lay (get_or ws i d).key (get_or ws i d).at) (get_or ns i e)
    ∷ tooks_of lay (drop (i + 1) ws) (drop (i + 1) ns)
tooks_one lay ws ns i d e lt lt' =
    ap (λ l. tooks_of lay l (drop i ns)) (drop_one ws i d lt) ∙ ap (λ l. tooks_of lay (get_or ws i d ∷ drop (i + 1) ws) l)
    (drop_one ns i e lt')

pub can_open_again : (writes : List Write) (found : List ℕ) (done : ℕ) (d : Write) (e : ℕ) (v w : View)
    → length found ≡ length writes → IsUnlocking writes found v w done → done < length writes
    → CanOpenAgain w (get_or writes done d).key (spot_for v.layout (get_or writes done d).key (get_or writes done d).at) (get_or found done e)
can_open_again writes found done d e v w count p lt =
    let one : Write = get_or writes done d in
    let locks : w.seat.locks ≡ one.key ∷ keys_of (drop (done + 1) writes) =
    ap (λ (y : View). y.seat.locks) p.is ∙ (p.locks ∙ ap keys_of (drop_one writes done d lt)) in
    let took : w.took ≡ took_at one.key (spot_for v.layout one.key one.at) (get_or found done e)
    ∷ tooks_of v.layout (drop (done + 1) writes) (drop (done + 1) found) =
    ap (λ (y : View). y.took) p.is ∙ tooks_one v.layout writes found done d e lt (omega arith) in record {
      idle = ap (λ (y : View). can_begin y.seat.stage) p.is ∙ p.idle;
      locked = ap (λ l. has_key l one.key) locks
          ∙ ap (λ b. b || has_key (keys_of (drop (done + 1) writes)) one.key) (same_key-self one.key);
      took = subst (λ (l : List Took). Contains l (took_at one.key (spot_for v.layout one.key one.at) (get_or found done e))) (sym took)
          (in_head (took_at one.key (spot_for v.layout one.key one.at) (get_or found done e))
          (tooks_of v.layout (drop (done + 1) writes) (drop (done + 1) found)));
    }

-- what was met of another word stays
other_stays : (reads : List Read) (at n : ℕ) (r : Read) → Contains reads r → (r.word ≡ at → ⊥)
    → Contains (with_read reads at n) r
other_stays reads at n r has apart =
    in_push_old r (record { word = at; seen = n; was = seen_at reads at; kept = kept_at reads at }) (filter (λ (q : Read). not (q.word == at))
    reads)
    (in_filtered (λ (q : Read). not (q.word == at)) r reads has
    (not_from_false (r.word == at) (ne_eqb r.word at apart)))

any_at : (ws : List Write) (i : ℕ) (d : Write) → i < length ws → (at : ℕ) → (get_or ws i d).at ≡ at → writes_at at ws
    ≡ true
any_at [] i d lt at same = absurd (omega arith)
any_at (w ∷ ws) zero d lt at same = or_left (w.at == at) (writes_at at ws) (eq-eqb w.at at same)
any_at (w ∷ ws) (suc i) d lt at same = or_right (w.at == at) (writes_at at ws) (any_at ws i d (omega arith) at same)

pub unlocked_one : (writes : List Write) (found : List ℕ) (done : ℕ) (d : Write) (e : ℕ) (v w x : View) (at : ℕ)
    → length found ≡ length writes → AreApart writes → IsUnlocking writes found v w done → done < length writes
    → (get_or writes done d).at ≡ at → x ≡ opened (get_or writes done d).key at (get_or found done e) w
    → IsUnlocking writes found v x (done + 1)
unlocked_one writes found done d e v w x at count are p lt here is =
    let one : Write = get_or writes done d in
    let n : ℕ = get_or found done e in
    let s : Seat = record p.seat { locks = filter (λ q. not (same_key q one.key)) p.seat.locks } in
    let u : View = record v {
      seat = p.seat;
      took = tooks_of v.layout (drop done writes) (drop done found);
      steps = p.steps;
      loaded = p.loaded;
      reads = p.reads;
    } in
    let y : View = opened one.key at n u in
    let apart : has_write one.key (drop (done + 1) writes) ≡ false =
    apart_head one (drop (done + 1) writes) (subst AreApart (drop_one writes done d lt) (apart_drop writes done are)) in
    let locks : s.locks ≡ keys_of (drop (done + 1) writes) =
    ap (λ (l : List Key). filter (λ q. not (same_key q one.key)) l) (p.locks ∙ ap keys_of (drop_one writes done d lt))
    ∙ first_goes one (drop (done + 1) writes) apart in
    let took : not_at one.key u.took ≡ tooks_of v.layout (drop (done + 1) writes) (drop (done + 1) found) =
    ap (not_at one.key) (tooks_one v.layout writes found done d e lt (omega arith))
    ∙ first_took v.layout one (drop (done + 1) writes) n (drop (done + 1) found) apart in record {
      seat = settled s;
      steps = y.steps;
      loaded = y.loaded;
      reads = y.reads;
      is = is ∙ (ap (opened one.key at n) p.is ∙ ap (λ l. with_seat v (settled s) l y) took);
      locks = settled_locks s ∙ locks;
      idle = settled_begin s p.idle;
      others = λ r has apart.
          other_stays p.reads at n r (p.others r has apart)
          (λ same. true≢false (sym (any_at writes done d lt r.word (here ∙ sym same)) ∙ apart));
      over = λ le. settled_ends s (locks ∙ ap keys_of (drop_all writes (done + 1) le)) p.idle;
      marks = settled_marks s ∙ p.marks;
    }

pub unlocked_all : (writes : List Write) (found : List ℕ) (v w : View) (done : ℕ) → IsUnlocking writes found v w done
    → length writes ≤ done → HasUnlocked writes v w
unlocked_all writes found v w done p le = record {
  seat = p.seat;
  steps = p.steps;
  loaded = p.loaded;
  reads = p.reads;
  is = p.is ∙ ap (λ l. with_seat v p.seat (tooks_of v.layout l (drop done found))
      (record v { steps = p.steps; loaded = p.loaded; reads = p.reads })) (drop_all writes done le);
  others = p.others;
  locks = p.locks ∙ ap keys_of (drop_all writes done le);
  stage = p.over le;
  marks = p.marks;
}

pub still_active : (writes : List Write) (found : List ℕ) (v w : View) (done : ℕ) → IsActive v.role
    → IsUnlocking writes found v w done → IsActive w.role
still_active writes found v w done active p = subst IsActive (sym (ap (λ (y : View). y.role) p.is)) active

pub still_there : (writes : List Write) (found : List ℕ) (v w : View) (done : ℕ) (d : Write)
    → AllByRecursion (IsWriteOf (ground v)) writes → IsUnlocking writes found v w done → done < length writes
    → IsAnyKeyAt w (get_or writes done d).key (get_or writes done d).at
still_there writes found v w done d all p lt =
    subst (λ (y : View). IsAnyKeyAt y (get_or writes done d).key (get_or writes done d).at) (sym p.is)
    (all_get (IsWriteOf (ground v)) writes done d lt all).place

-- so it is at the place that the call picks
pub open_here : (e : Engine) (p q : Pass) (writes : List Write) (found : List ℕ) (done : ℕ) (d : Write) (n : ℕ)
    → IsPassOf e q → IsPassOf e p → length found ≡ length writes → IsUnlocking writes found (view p) (view q) done
    → done < length writes
    → CanOpenAgain (view q) (get_or writes done d).key
    (spot_for (view q).layout (get_or writes done d).key (get_or writes done d).at) (get_or found done n)
open_here e p q writes found done d n of of' count u lt =
    let one : Write = get_or writes done d in
    subst (λ (y : Spot). CanOpenAgain (view q) one.key y (get_or found done n)) (spot_same e p q one.key one.at of' of)
    (can_open_again writes found done d n (view p) (view q) count u lt)

pub still_here : (writes : List Write) (found : List ℕ) (v w : View) (done : ℕ) (d : Write)
    → AllByRecursion (IsWriteOf (ground v)) writes → IsUnlocking writes found v w done → done < length writes
    → IsAnyRecordAt w (get_or writes done d).key
    (spot_for w.layout (get_or writes done d).key (get_or writes done d).at) (get_or writes done d).at
still_here writes found v w done d places u lt =
    let one : Write = get_or writes done d in
    any_spot w one.key one.at (still_there writes found v w done d places u lt)
