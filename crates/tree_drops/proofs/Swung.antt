-- A leaf is swung from, once all of it is locked, and locks are opened again where it isn't.
use Rattle.std.proofs.Common.{◌≡◌, ◌≢◌, ◌⊎◌, inl, inr, ℕ, ◌+◌, ◌<◌, Bool, true, false, true≢false, eqb, eq-eqb, eqb-true, ne_eqb, not}
use Rattle.std.proofs.Common.{ltb, ltb-true, ltb-false, List, [], ◌∷◌, ◌++◌, filter, refl, sym, ap, ◌∙◌, subst, arith, Some}
use Rattle.std.specs.Prelude.{◌||◌, MatchBool}
use Rattle.std.specs.List.{Contains, slice_get}
use Rattle.std.proofs.lemmas.Bool.{or_right}
use Rattle.lists.specs.Elements.{at_below, in_push_cases, in_push_new, in_push_old}
use Rattle.serial_model.specs.declared.key.Key.{Key}
use Rattle.homes.specs.declared.places.At.{At}
use Rattle.homes.specs.declared.places.At.TheVariants.{Root, In}
use Rattle.homes.specs.declared.places.Span.{Span}
use Rattle.homes.specs.declared.places.Spot.{Spot}
use Rattle.homes.specs.Homes.{has_key, same_key}
use Rattle.homes.specs.Laws.{same_key-self, same_key-true}
use Rattle.commit_core.specs.CoreState.{can_begin}
use Rattle.drop_core.specs.Event.{without}
use Rattle.drop_core.specs.Table.{has_slot}
use Rattle.engine_pages.specs.declared.view.Head.{Head}
use Rattle.engine_pages.specs.declared.view.KeptPage.{KeptPage}
use Rattle.engine_pages.specs.declared.view.KeptWhy.{KeptWhy}
use Rattle.engine_pages.specs.declared.view.KeptWhy.TheVariants.{Changed}
use Rattle.engine_pages.specs.declared.view.Role.TheVariants.{Keeper}
use Rattle.engine_pages.specs.declared.view.Took.{Took}
use Rattle.engine_pages.specs.declared.view.View.{View}
use Rattle.engine_pages.specs.Layout.{words_of}
use Rattle.engine_pages.specs.Pointers.{IsPointerAt}
use Rattle.engine_pages.specs.Resident.{tree_below}
use Rattle.engine_pages.specs.Slots.{MayRetire, other_copies, other_heads, other_inners, other_leaves, other_shuts, retired}
use Rattle.engine_pages.specs.Steps.{kept_at, read_at, seen_at}
use Rattle.engine_pages.specs.Words.{spot}
use Rattle.dual_pointer.specs.Copies.{IsLeadOf}
use Rattle.dual_pointer.specs.Installs.{tree_records}
use Rattle.page_records.specs.Locks.{CanOpenAgain, locked, not_at, took_at}
use Rattle.pointer_swings.specs.Swings.{CanSwing, HasSwung, swung}
use Rattle.pointer_swings.specs.TreeSwings.{IsTreeLockedAs}
use Rattle.page_drops.specs.declared.noting.Kept.{Kept}
use Rattle.page_drops.specs.Works.{read_of, IsNoted, IsOutside, KeepsReads}
use Rattle.page_drops.proofs.Entries.{entry_of, other_entry, own_entry, seen_same}
use Rattle.tree_drops.specs.Leaves.{AreKeys, AreLocked, CanDropFrom, CanLead, HasDropped, IsCauseBelow}
use Rattle.tree_drops.specs.Leaves.{IsNew, LocksMore}
use Rattle.tree_drops.specs.Works.{JustSaw, KeepsIt, LooksOn, OnlyLooks, TellsPointer, Worked, WorksOn}
use Rattle.tree_drops.proofs.KeyLists.{has_at, locks_back, one_index, other_keys, took_back}
use Rattle.tree_drops.proofs.Places.{locked_on}
use Rattle.tree_drops.proofs.Works.{keeps_it, only_read, pages_worked, past_worked, reopened}
use Rattle.tree_drops.proofs.Works.{works_locked, works_opened, works_then}

-- ---- what is asked stays so

pub pointer_worked : (v w : View) (x : At) (sp : Span) (at : ℕ) → Worked v w → IsPointerAt v x sp at → IsPointerAt w x sp at
pointer_worked v w (Root r) sp at worked is = subst (λ (z : View). IsPointerAt z (Root r) sp at) (sym worked) is
pointer_worked v w (In y) sp at worked is =
    subst (λ (z : View). IsPointerAt z (In y) sp at) (sym worked) (elim is [
      | inl c ↦ inl record {
        way = c.way;
        has = c.has;
        slot = c.slot;
        kind = c.kind;
        inner = c.inner;
        index = c.index;
        span = c.span;
        word = c.word;
      }
      | inr b ↦ inr record {
        way = b.way;
        has = b.has;
        slot = b.slot;
        kind = b.kind;
        inner = b.inner;
        knows = b.knows;
        same = b.same;
        index = b.index;
        span = b.span;
        word = b.word;
      }
    ])

pub lead_worked : (v w : View) (sp : Span) (page : ℕ) → Worked v w → IsLeadOf v sp page → IsLeadOf w sp page
lead_worked v w sp page worked is = subst (λ (z : View). IsLeadOf z sp page) (sym worked) is

pub can_lead_worked : (x : At) (sp : Span) (at t page word : ℕ) (keys : List Key) (v w : View) → WorksOn v w → KeepsReads t v w
    → CanLead x sp at t page word keys v → CanLead x sp at t page word keys w
can_lead_worked x sp at t page word keys v w works reads can = record {
  place = pointer_worked v w x sp at works.worked can.place;
  inside = subst (λ (z : View). at < words_of z.layout) (sym works.worked) can.inside;
  leads = can.leads;
  met = seen_same v.reads w.reads at (reads at can.apart) ∙ can.met;
  apart = subst (λ (z : View). IsOutside z.layout.slots t at) (sym works.worked) can.apart;
  lead = λ some. lead_worked v w sp page works.worked (can.lead some);
  leaf = ap (λ ps. tree_below ps sp page) (pages_worked v w works) ∙ can.leaf;
  all = λ r has. can.all r (subst (λ ps. Contains (tree_records ps page) r) (pages_worked v w works) has);
}

-- ---- the swing

pub can_swing : (x : At) (sp : Span) (at t page word epoch count : ℕ) (v : View)
    → CanDropFrom x sp at t page word epoch count count v → CanSwing v x sp at t page word
can_swing x sp at t page word epoch count v can = record {
  keeper = can.tree.keeper;
  place = can.up.place;
  leads = can.up.leads;
  there = can.tree.there;
  lead = can.up.lead;
  page = inr (inl record {
    tree = can.tree.over.tree;
    head = can.head;
    has = can.has;
    slot = can.slot;
    leaf = can.up.leaf;
    records = λ i k here.
        let long = can.are.long in
        let less = at_below can.head.keys i k here in can.locked.each i k (omega (arith, long, less)) here;
    there = can.up.all;
    own = λ k has. let o = can.locked.own k has in has_at can.head.keys o.0 k o.2;
  });
}

-- the pointer was swung
pub swung_now : (t at page word found : ℕ) (u w : View) → found ≡ word → HasSwung t at page word u found w
    → w ≡ swung t at page found u
swung_now t at page word found u w same h =
    subst (λ c. MatchBool c (w ≡ swung t at page found u) (w ≡ read_at at found u)) (eq-eqb found word same) h

pub may_retire : (t at page found : ℕ) (u w : View) → w ≡ swung t at page found u → MayRetire w t
may_retire t at page found u w is =
    inr
    (inr (inl (ap (λ (z : View). has_slot z.grip.taken t) is ∙ ap (λ (c : Bool). c || has_slot u.grip.taken t) (eq-eqb t t refl))))

-- the slot is given up
pub dropped_now : (t at page found : ℕ) (u w z : View) → w ≡ swung t at page found u → z ≡ retired t w → HasDropped t at page u z
dropped_now t at page found u w z swing retire =
    subst (λ (y : View). HasDropped t at page u y) (sym (retire ∙ ap (retired t) swing)) record {
      is = refl;
      later = omega arith;
      known = λ x has. has;
      touched = λ y has. inl has;
      led = (entry_of u.reads at page (kept_at u.reads at), own_entry u.reads at page (kept_at u.reads at), refl, refl);
    }

pub dropped_reads : (t at page found : ℕ) (u w z : View) → w ≡ swung t at page found u → z ≡ retired t w → (word : ℕ)
    → (word ≡ at → ⊥) → read_of z.reads word ≡ read_of u.reads word
dropped_reads t at page found u w z swing retire word other =
    ap (λ (y : View). read_of y.reads word) (retire ∙ ap (retired t) swing)
    ∙ other_entry u.reads at page (kept_at u.reads at) word other

-- it was not
pub not_swung : (t at page word found : ℕ) (u w : View) → found ≢ word → HasSwung t at page word u found w → w ≡ read_at at found u
not_swung t at page word found u w other h =
    subst (λ c. MatchBool c (w ≡ swung t at page found u) (w ≡ read_at at found u)) (ne_eqb found word other) h

pub saw_other : (t at page word found : ℕ) (u w : View) → found ≢ word → HasSwung t at page word u found w → JustSaw u w at found
saw_other t at page word found u w other h =
    let is = not_swung t at page word found u w other h in record {
      only = only_read at found u w is;
      step = u.steps;
      last = ap (λ (z : View). z.last) is;
      since = omega arith;
      before = let up : w.steps ≡ u.steps + 1 = ap (λ (z : View). z.steps) is in omega (arith, up);
    }

pub keeps_changed : (t page epoch at word found : ℕ) (sp : Span) (k : Kept) (u w z : View)
    → k ≡ record { word = at; seen = found; why = Changed word } → found ≢ word → JustSaw u w at found → IsNoted k w z
    → KeepsIt (IsCauseBelow t sp page epoch at word u) k u z
keeps_changed t page epoch at word found sp k u w z is other saw told =
    keeps_it (IsCauseBelow t sp page epoch at word u) u w z at found (Changed word) k is saw told (inr (refl, refl, other))

pub tells_changed : (t page at word found : ℕ) (k : Kept) (u w z : View)
    → k ≡ record { word = at; seen = found; why = Changed word } → found ≢ word → HasSwung t at page word u found w
    → IsNoted k w z → seen_at u.reads at ≡ Some word → TellsPointer at word k u z
tells_changed t page at word found k u w z is other h told met =
    let looked = not_swung t at page word found u w other h in
    inr (
      ap (λ (y : Kept). y.word) is,
      ap (λ (y : Kept). y.why) is,
      (
        entry_of u.reads at found (kept_at u.reads at),
        ap (λ (y : View). read_of y.reads at) told.1
            ∙ (ap (λ (y : View). read_of y.reads at) looked ∙ own_entry u.reads at found (kept_at u.reads at)),
        sym (ap (λ (y : Kept). y.seen) is),
        met,
      ),
    )

pub changed_reads : (t page at word found : ℕ) (k : Kept) (u w z : View) → found ≢ word → HasSwung t at page word u found w
    → IsNoted k w z → (q : ℕ) → (q ≡ at → ⊥) → read_of z.reads q ≡ read_of u.reads q
changed_reads t page at word found k u w z other h told q apart =
    ap (λ (y : View). read_of y.reads q) told.1
    ∙ (ap (λ (y : View). read_of y.reads q) (not_swung t at page word found u w other h)
    ∙ other_entry u.reads at found (kept_at u.reads at) q apart)

-- ---- one lock more

pub lock_more : (k : Key) (x : Spot) (at word : ℕ) (v u w : View) → v.role ≡ Keeper → OnlyLooks v u → w ≡ locked k x at word u
    → LocksMore k x word v w
lock_more k x at word v u w keeper only is =
    let role : u.role ≡ Keeper = ap (λ (z : View). z.role) only.looks.works.worked ∙ keeper in record {
      works = works_then v u w only.looks.works (works_locked k x at word u w role is);
      locks = ap (λ (z : View). z.seat.locks) is ∙ ap (λ l. l ++ k ∷ []) only.looks.locks;
      took = ap (λ (z : View). z.took) is ∙ ap (λ l. l ++ took_at k x word ∷ []) only.looks.took;
      heads = ap (λ (z : View). z.heads) is ∙ only.looks.heads;
      kept = ap (λ (z : View). z.kept) is ∙ only.kept;
    }

pub lock_then : (k : Key) (x : Spot) (word : ℕ) (v u w : View) → LocksMore k x word v u → OnlyLooks u w → LocksMore k x word v w
lock_then k x word v u w more only = record {
  works = works_then v u w more.works only.looks.works;
  locks = only.looks.locks ∙ more.locks;
  took = only.looks.took ∙ more.took;
  heads = only.looks.heads ∙ more.heads;
  kept = only.kept ∙ more.kept;
}

pub new_here : (t page n : ℕ) (sp : Span) (keys : List Key) (k : Key) (count : ℕ) (v : View) → AreKeys sp count keys
    → AreLocked t sp page n keys v → slice_get keys n ≡ Some k → IsNew k v
new_here t page n sp keys k count v are locked here = record {
  unlocked = by_test (has_key v.seat.locks k) refl;
  untaken = λ x has. other_keys x.key k (λ same.
      let m = locked.mine x has in
      let one = one_index keys m.0 n k are.once (m.2 ∙ ap (λ (y : Key). Some y) same) here in
      let less = m.1 in absurd (omega (arith, one, less)));
}
  where
    by_test : (c : Bool) → has_key v.seat.locks k ≡ c → has_key v.seat.locks k ≡ false
    by_test false none = none
    by_test true has =
        let o = locked.own k has in
        let one = one_index keys o.0 n k are.once o.2 here in
        let less = o.1 in absurd (omega (arith, one, less))

pub below_next : (i n : ℕ) → i < n + 1 → (i ≡ n → ⊥) → i < n
below_next i n less apart = by_test (ltb i n) refl
  where
    by_test : (c : Bool) → ltb i n ≡ c → i < n
    by_test true low = ltb-true i n low
    by_test false high = let up = ltb-false i n high in absurd (apart (let same : i ≡ n = omega (arith, up, less) in same))

pub has_push : (keys : List Key) (k q : Key) → has_key (keys ++ k ∷ []) q ≡ true → (has_key keys q ≡ true) ⊎ (k ≡ q)
has_push [] k q has = inr (by_test (same_key k q) refl has)
  where
    by_test : (c : Bool) → same_key k q ≡ c → (c || false) ≡ true → k ≡ q
    by_test true hit has = same_key-true k q hit
    by_test false miss has = absurd (true≢false (sym has))
has_push (x ∷ keys) k q has = by_test (same_key x q) (λ rest. has_push keys k q rest) has
  where
    by_test : (c : Bool) → (has_key (keys ++ k ∷ []) q ≡ true → (has_key keys q ≡ true) ⊎ (k ≡ q))
        → (c || has_key (keys ++ k ∷ []) q) ≡ true → ((c || has_key keys q) ≡ true) ⊎ (k ≡ q)
    by_test true later has = inl refl
    by_test false later has = later has

-- more of the records are locked
pub locked_next : (t page n word : ℕ) (sp : Span) (keys : List Key) (k : Key) (count : ℕ) (v w : View) → AreKeys sp count keys
    → AreLocked t sp page n keys v → slice_get keys n ≡ Some k → LocksMore k (spot t n) word v w → IsTreeLockedAs w t n page k
    → AreLocked t sp page (n + 1) keys w
locked_next t page n word sp keys k count v w are locked here more own = record {
  each = λ i q less at.
      by_index i q less at (eqb i n) refl;
  own = λ q has.
      elim (in_locks q (sym (ap (λ l. has_key l q) more.locks) ∙ has)) [
        | inl old ↦ let o = locked.own q old in let less = o.1 in (o.0, omega (arith, less), o.2)
        | inr new ↦ (n, omega arith, here ∙ ap (λ (y : Key). Some y) new)
      ];
  mine = λ x has.
      elim (in_push_cases x (took_at k (spot t n) word) v.took (subst (λ l. Contains l x) more.took has)) [
        | inl old ↦ let o = locked.mine x old in let less = o.1 in (o.0, omega (arith, less), o.2, o.3)
        | inr new ↦ (n, omega arith, here ∙ ap (λ (y : Took). Some y.key) new, sym (ap (λ (y : Took). y.spot) new))
      ];
}
  where
    old_at : (i : ℕ) (q : Key) → i < n → slice_get keys i ≡ Some q → IsTreeLockedAs w t i page q
    old_at i q less at =
        locked_on t i page q v w (pages_worked v w more.works) (past_worked v w more.works)
        (λ m has. subst (λ l. Contains l (took_at q (spot t i) m)) (sym more.took)
        (in_push_old (took_at q (spot t i) m) (took_at k (spot t n) word) v.took has))
        more.works.versions (locked.each i q less at)

    by_index : (i : ℕ) (q : Key) → i < n + 1 → slice_get keys i ≡ Some q → (c : Bool) → eqb i n ≡ c → IsTreeLockedAs w t i page q
    by_index i q less at true is =
        let same : i ≡ n = eqb-true i n is in
        let key : q ≡ k = let two : slice_get keys n ≡ Some q = subst (λ j. slice_get keys j ≡ Some q) same at in cc in
        subst (λ j. IsTreeLockedAs w t j page q) (sym same) (subst (λ (y : Key). IsTreeLockedAs w t n page y) (sym key) own)
    by_index i q less at false is = old_at i q (below_next i n less (λ same. true≢false (sym (eq-eqb i n same) ∙ is))) at

    in_locks : (q : Key) → has_key (v.seat.locks ++ k ∷ []) q ≡ true → (has_key v.seat.locks q ≡ true) ⊎ (k ≡ q)
    in_locks q has = has_push v.seat.locks k q has

-- ---- it is opened

pub has_last : (keys : List Key) (k : Key) → has_key (keys ++ k ∷ []) k ≡ true
has_last [] k = ap (λ (c : Bool). c || false) (same_key-self k)
has_last (x ∷ keys) k = or_right (same_key x k) (has_key (keys ++ k ∷ []) k) (has_last keys k)

-- the lock may be opened
pub can_open : (k : Key) (x : Spot) (word : ℕ) (v u : View) → can_begin u.seat.stage ≡ true → LocksMore k x word v u
    → CanOpenAgain u k x word
can_open k x word v u idle more = record {
  idle = idle;
  locked = ap (λ l. has_key l k) more.locks ∙ has_last v.seat.locks k;
  took = subst (λ l. Contains l (took_at k x word)) (sym more.took) (in_push_new (took_at k x word) v.took);
}

-- the same behind work that has the same locks
pub can_open_kept : (k : Key) (x : Spot) (word : ℕ) (v u e : View) → can_begin e.seat.stage ≡ true → LocksMore k x word v u → LooksOn u e
    → CanOpenAgain e k x word
can_open_kept k x word v u e idle more looks = record {
  idle = idle;
  locked = ap (λ l. has_key l k) (looks.locks ∙ more.locks) ∙ has_last v.seat.locks k;
  took = subst (λ l. Contains l (took_at k x word)) (sym (looks.took ∙ more.took)) (in_push_new (took_at k x word) v.took);
}

-- a page that is kept meanwhile is kept with the locks of before
pub keeps_open : (cause other : KeptWhy → ℕ → ℕ → Type 0) (kept : Kept) (k : Key) (x : Spot) (at word : ℕ) (v u e w : View)
    → LocksMore k x word v u → IsNew k v → KeepsIt cause kept u e → w ≡ reopened k at word e
    → (cause kept.why kept.word kept.seen → other kept.why kept.word kept.seen) → KeepsIt other kept v w
keeps_open cause other kept k x at word v u e w more new keeps is so =
    let opens = works_opened k at word e w is in
    let one = more.works.later in
    let since = keeps.kept.since in
    let before = keeps.kept.before in record {
      looks = record {
        works = works_then v u w more.works (works_then u e w keeps.looks.works opens);
        locks = ap (λ (z : View). z.seat.locks) is
            ∙ (ap (λ l. filter (λ q. not (same_key q k)) l) (keeps.looks.locks ∙ more.locks)
            ∙ locks_back k v.seat.locks new.unlocked);
        took = ap (λ (z : View). z.took) is
            ∙ (ap (not_at k) (keeps.looks.took ∙ more.took)
            ∙ took_back k v.took (took_at k x word) refl new.untaken);
        heads = ap (λ (z : View). z.heads) is ∙ (keeps.looks.heads ∙ more.heads);
      };
      kept = record {
        page = keeps.kept.page;
        is = ap (λ (z : View). z.kept) is ∙ (keeps.kept.is ∙ ap (λ l. l ++ keeps.kept.page ∷ []) more.kept);
        told = keeps.kept.told;
        since = omega (arith, one, since);
        before = let up : w.steps ≡ e.steps + 1 = ap (λ (z : View). z.steps) is in omega (arith, up, before);
        cause-is = so keeps.kept.cause-is;
      };
    }

-- ---- dropped, behind work that noted nothing

-- the changed parts of a view behind it
abbrev dropped_as : ℕ → ℕ → View → View → View
dropped_as t at z w = record z {
  steps = w.steps;
  last = w.last;
  reads = w.reads;
  seat = record z.seat { locks = [] };
  took = [];
  touched = w.touched;
  loaded = w.loaded;
  known = w.known;
  versions = w.versions;
  grip = record z.grip { made = without z.grip.made t; taken = without (t ∷ z.grip.taken) t };
  copies = other_copies t z.copies;
  blanks = without z.blanks t;
  new_leaves = other_leaves t z.new_leaves;
  new_inners = other_inners t z.new_inners;
  heads = other_heads t z.heads;
  shuts = other_shuts t z.shuts;
  swung = z.swung ++ record { word = at; slot = t } ∷ [];
}

pub dropped_on : (t at page : ℕ) (v u w : View) → WorksOn v u → other_heads t u.heads ≡ other_heads t v.heads → u.kept ≡ v.kept
    → seen_at u.reads at ≡ seen_at v.reads at → HasDropped t at page u w → HasDropped t at page v w
dropped_on t at page v u w works heads kept met h =
    let one = works.later in
    let two = h.later in record {
      is = h.is
          ∙ (ap (λ (z : View). dropped_as t at z w) works.worked
          ∙ (ap (λ (hs : List Head). let y : View = record (dropped_as t at v w) { heads = hs; kept = u.kept } in y) heads
          ∙ ap (λ (ks : List KeptPage). let y : View = record (dropped_as t at v w) { kept = ks } in y) kept));
      later = omega (arith, one, two);
      known = λ x has. h.known x (works.known x has);
      touched = λ z has. elim (h.touched z has) [ inl old ↦ works.touched z old | inr own ↦ inr own ];
      led = (h.led.0, h.led.1, h.led.2, h.led.3 ∙ met);
    }
