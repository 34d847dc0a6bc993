-- A transaction that is to be refused within a write at a key of a tree: what its end asks, and what it comes to.
use Rattle.std.proofs.Common.{◌≡◌, ◌≢◌, ◌⊎◌, inl, inr, ℕ, ◌+◌, ◌-◌, ◌*◌, ◌/◌, ◌%◌, ◌^◌, ◌<◌, ◌≤◌, Bool, true, false, true≢false}
use Rattle.std.proofs.Common.{List, [], length, refl, sym, ap, ◌∙◌, subst, arith, Some, eqb, eqb-true, eq-eqb, Option}
use Rattle.std.specs.Prelude.{Contains, Err, nat_lt}
use Rattle.std.proofs.lemmas.Bool.Decides.{nat_tests}
use Rattle.lists.specs.Fronts.{front_refl, IsFront}
use Rattle.serial_model.specs.declared.key.Key.{Key}
use Rattle.homes.specs.Homes.{has_key}
use Rattle.wire_form.specs.Leaves.{tree_leaf, word_in}
use Rattle.drop_core.specs.Table.{has_slot}
use Rattle.drop_core.specs.declared.grip.Grip.{Grip}
use Rattle.tx_sets.specs.declared.sets.Sets.{Sets}
use Rattle.tx_sets.specs.Entries.{has_word, has_write}
use Rattle.tx_sets.specs.Gathered.{has_read_room}
use Rattle.engine_pages.specs.declared.layout.Layout.{Layout}
use Rattle.engine_pages.specs.declared.view.RefusalCause.{RefusalCause}
use Rattle.engine_pages.specs.declared.view.RefusalCause.TheVariants as refusals
use Rattle.engine_pages.specs.declared.view.SetName.{SetName}
use Rattle.engine_pages.specs.declared.view.SetName.TheVariants.{Reads, Writes}
use Rattle.engine_pages.specs.declared.view.View.{View}
use Rattle.engine_pages.specs.declared.view.Way.{Way}
use Rattle.engine_pages.specs.Agreement.{TreesAgree}
use Rattle.engine_pages.specs.Layout.{page_at}
use Rattle.engine_pages.specs.Pages.{is_tree}
use Rattle.engine_pages.specs.Pointers.{WaysAgree}
use Rattle.engine_pages.specs.Steps.{seen_at}
use Rattle.page_records.specs.Ends.{IsDue}
use Rattle.array_pages.specs.Walks.{SawLast}
use Rattle.tree_heads.specs.Headers.{Headed}
use Rattle.foster_tree.specs.Adding.{RefusesAdd}
use Rattle.foster_tree.specs.Causes.{IsLeafWordChanged}
use Rattle.foster_tree.specs.Locking.{HasNotLockedOne, HasTakenFirst}
use Rattle.foster_tree.specs.Splitting.{GaveNone, HasNotSplit}
use Rattle.tree_walks.specs.declared.ways.Leaf.{Leaf}
use Rattle.tree_walks.specs.Walks.{HasWalked}
use Rattle.tree_walks.specs.Ways.{IsLeafOn}
use Rattle.tree_walks.proofs.LoadLaws.{head_load, read_load, trees_by, IsLoad}
use Rattle.tree_making.specs.Making.{CanMake, RefusesMake}
use Rattle.page_commit.specs.Live.{HasHolds, IsLive}
use Rattle.page_commit.specs.Needs.{names_record, AddsRecord, IsFullLeaf, IsRefusedOn, NeedsOne}
use Rattle.page_commit.specs.Steps.{CanRefuse, HasGivenUp}
use Rattle.page_commit.specs.Turning.{as_walked, OnlyWalked}
use Rattle.page_commit.proofs.FoundLaws.{nothing_walked}
use Rattle.page_commit.proofs.GrowLaws.{KnowsMore}
use Rattle.page_commit.proofs.RefuseLaws.{can_refuse}
use Rattle.page_commit.proofs.TurnLaws.{walks_then}
use Rattle.page_commit.proofs.WalkedLaws.{holds_walked}
use Rattle.tree_calls.proofs.TreeWalkLaws.{tree_knows_more, tree_walked}
use Rattle.tree_writes.specs.Causes.{LocksLeaf}
use Rattle.tree_writes.specs.Writing.{grow_most, GrowsSo, HasSplitFor}
use Rattle.tree_writes.proofs.LeafStops.{head_stops, record_stops}
use Rattle.tree_writes.proofs.MakeCauses.{full_stops, make_stops, slot_stops}
use Rattle.tree_writes.proofs.SplitHere.{split_holds, split_more, split_walked}
use Rattle.tree_writes.proofs.Stopping.{refused_end, write_end, writes_full, Stopped}
use Rattle.tree_writes.proofs.TakenLaws.{key_apart, locks_leaf, taken_first}

-- The transaction that is still to be ended, for this cause, with these slots.
pub record Falls (sets : Sets) (slots : List ℕ) (k : Key) (why : RefusalCause) (v w : View) : Type 0 where
  pub live : IsLive sets v
  pub only : OnlyWalked v w
  pub holds : HasHolds slots w
  pub agree : WaysAgree w.ways
  pub trees : TreesAgree w
  pub stopped : Stopped sets slots k why v w
  pub locks : LocksLeaf k v w

-- what its end asks
pub falls_can : (sets : Sets) (slots : List ℕ) (k : Key) (why : RefusalCause) (v w : View) → Falls sets slots k why v w
    → CanRefuse slots w
falls_can sets slots k why v w f = can_refuse sets slots v w f.live f.only f.holds

-- and what it comes to
pub falls_so : (sets new : Sets) (slots : List ℕ) (k : Key) (why said : RefusalCause) (v w x : View) → said ≡ why
    → Falls sets slots k why v w → HasGivenUp [] why w x → new.holds ≡ slots → has_write k sets.writes ≡ false
    → length sets.writes < 16 → x.steps ≤ v.steps + grow_most v.layout.slots → GrowsSo k sets new (Err said) v x
falls_so sets new slots k why said v w x same f g holds none room most =
    subst (λ (r : RefusalCause). GrowsSo k sets new (Err r) v x) (sym same) record {
      came = tt;
      cause = write_end why sets new slots k v w x f.only f.stopped g holds none room f.locks;
      refused = refused_end why sets slots k v w x f.only f.stopped g f.live f.holds f.agree f.trees;
      most = most;
    }

-- the slots that are held are the same
holds_same : (sets : Sets) (v w : View) → IsLive sets v → OnlyWalked v w → w.grip.holds ≡ v.grip.holds
    → HasHolds sets.holds w
holds_same sets v w live only same = record {
  holds = λ q. live.holds.holds q ∙ ap (λ (l : List ℕ). has_slot l q) (sym same);
  within = λ q has. subst (λ (y : Layout). q < y.slots) (sym (ap (λ (z : View). z.layout) only.is)) (live.holds.within q has);
  made = ap (λ (y : View). y.grip.made) only.is ∙ live.holds.made;
  taken = ap (λ (y : View). y.grip.taken) only.is ∙ live.holds.taken;
  drafts = ap (λ (y : View). y.drafts) only.is ∙ live.holds.drafts;
  copies = ap (λ (y : View). y.copies) only.is ∙ live.holds.copies;
  blanks = ap (λ (y : View). y.blanks) only.is ∙ live.holds.blanks;
  leaves = ap (λ (y : View). y.new_leaves) only.is ∙ live.holds.leaves;
  inners = ap (λ (y : View). y.new_inners) only.is ∙ live.holds.inners;
  heads = ap (λ (y : View). y.heads) only.is ∙ live.holds.heads;
}

-- ---- the header was locked as it was seen

still_locked : (n m : ℕ) → 2 ^ 60 ≤ m → m < 2 ^ 61 → ((n / 2 ^ 60) % 2 ≡ 1) ⊎ (n ≢ m)
still_locked n m locked few = by_test (eqb n m) refl
  where
    by_test : (b : Bool) → eqb n m ≡ b → ((n / 2 ^ 60) % 2 ≡ 1) ⊎ (n ≢ m)
    by_test true same = let is = eqb-true n m same in inl (omega (arith, is, locked, few))
    by_test false other = inr (λ e. true≢false (sym (eq-eqb n m e) ∙ other))

-- behind one load of the header's word
load_falls : (sets : Sets) (k : Key) (x : Leaf) (v w : View) (at n : ℕ) → IsLive sets v → IsLeafOn k sets.headers x v
    → at ≡ page_at v.layout.slots x.slot 0 → IsLoad at v n w → ((n / 2 ^ 60) % 2 ≡ 1) ⊎ (n ≢ x.header)
    → Falls sets sets.holds k (refusals.Conflict at x.header n) v w
load_falls sets k x v w at n live on is l cause =
    let only : OnlyWalked v w = tree_walked v w l.walked in
    let more : KnowsMore v w = tree_knows_more v w l.walked in record {
      live = live;
      only = only;
      holds = holds_same sets v w live only (ap (λ (g : Grip). g.holds) l.grip);
      agree = l.agree;
      trees = l.trees;
      stopped = head_stops sets sets.holds k x v v w live on only more l.trees (omega arith) l.words at n record {
        place = record {
          word = record {
            way = record { slot = x.slot; span = x.span };
            has = more.ways (record { slot = x.slot; span = x.span }) on.leaf.on.way;
            slot = refl;
            kind = subst (λ (y : Layout). is_tree y.decls x.span.storage ≡ true) (sym more.layout) on.leaf.on.tree;
            there = subst (λ (y : Layout). x.slot < y.slots) (sym more.layout) on.leaf.on.there;
            index = omega arith;
            word = is ∙ ap (λ (y : Layout). page_at y.slots x.slot 0) (sym more.layout);
          };
          leaf = record { slot = x.slot; keys = on.leaf.keys };
          knows = more.known (record { slot = x.slot; keys = on.leaf.keys }) on.leaf.knows;
          same = refl;
          is = inl refl;
        };
        saw = subst (λ (o : Option ℕ). SawLast at n o v w) (ap (λ (m : ℕ). seen_at v.reads m) is ∙ on.met) l.saw;
        cause = cause;
      };
      locks = inl (ap (λ (z : View). z.touched) l.walked.is);
    }

pub locked_falls : (sets : Sets) (k : Key) (x : Leaf) (v w : View) (at n : ℕ) → IsLive sets v → IsLeafOn k sets.headers x v
    → at ≡ page_at v.layout.slots x.slot 0 → 2 ^ 60 ≤ x.header → Headed x.slot x.span at v n w
    → Falls sets sets.holds k (refusals.Conflict at x.header n) v w
locked_falls sets k x v w at n live on is locked h =
    load_falls sets k x v w at n live on is (head_load x.slot x.span at v n w live.agree h)
    (still_locked n x.header locked on.leaf.small)

-- ---- no room for the record that is added

no_room : (n : ℕ) → nat_lt n 256 ≡ false → 256 ≤ n
no_room n full = grind (arith, nat_tests)

-- the key's record would be one more that is kept
room_adds : (sets : Sets) (k : Key) (x : Leaf) (v : View) (at : ℕ) → (on : IsLeafOn k sets.headers x v)
    → has_key on.leaf.keys k ≡ false → at ≡ page_at v.layout.slots x.slot 0 → has_word at sets.headers ≡ true
    → AddsRecord k sets.headers v
room_adds sets k x v at on lacks is has = record {
  slot = x.slot;
  span = x.span;
  on = on.leaf.on;
  leaf = record { slot = x.slot; keys = on.leaf.keys };
  knows = on.leaf.knows;
  same = refl;
  lacks = lacks;
  kept = subst (λ (n : ℕ). has_word n sets.headers ≡ true) is has;
}

pub room_falls : (sets : Sets) (k : Key) (x : Leaf) (v : View) (at : ℕ) → IsLive sets v
    → (on : IsLeafOn k sets.headers x v) → has_key on.leaf.keys k ≡ false → at ≡ page_at v.layout.slots x.slot 0
    → has_word at sets.headers ≡ true → has_read_room sets ≡ false → Falls sets sets.holds k (refusals.Wide Reads) v v
room_falls sets k x v at live on lacks is has full = record {
  live = live;
  only = nothing_walked v;
  holds = live.holds;
  agree = live.agree;
  trees = live.trees;
  stopped = record {
    due = tt;
    on = (
      no_room (length sets.reads + length sets.headers) full,
      inr (inr (room_adds sets k x v at on lacks is has)),
    );
    told = λ met t. t;
    stops = (
      inr (inr (
        refl,
        no_room (length sets.reads + length sets.headers) full,
        record {
          then = v;
          walked = nothing_walked v;
          met = λ r there. there;
          adds = room_adds sets k x v at on lacks is has;
        },
      )),
      refl,
    );
  };
  locks = inl refl;
}

-- ---- the key wasn't added

pub added_falls : (why : RefusalCause) (sets : Sets) (k : Key) (x : Leaf) (v w : View) → IsLive sets v
    → IsLeafOn k sets.headers x v → RefusesAdd x.slot x.header why v w → Falls sets sets.holds k why v w
added_falls (refusals.Conflict at expected seen) sets k x v w live on r =
    let l : IsLoad at v seen w = read_load at seen v w live.agree live.trees r.2 in
    let is : at ≡ page_at v.layout.slots x.slot 0 =
    r.1.place.word.word ∙ ap (λ (y : Layout). page_at y.slots x.slot 0) (ap (λ (z : View). z.layout) r.2) in
    subst (λ (n : ℕ). Falls sets sets.holds k (refusals.Conflict at n seen) v w) (sym r.0)
    (load_falls sets k x v w at seen live on is l (subst (λ (n : ℕ). ((seen / 2 ^ 60) % 2 ≡ 1) ⊎ (seen ≢ n)) r.0 r.1.cause))
added_falls (refusals.Full held) sets k x v w live on r = absurd r
added_falls (refusals.Wide set) sets k x v w live on r = absurd r
added_falls (refusals.NumberLimit clock) sets k x v w live on r = absurd r

-- ---- the leaf wasn't split

module _ (why : RefusalCause) (sets : Sets) (k : Key) (x : Leaf) (v w : View) (live : IsLive sets v)
    (on : IsLeafOn k sets.headers x v) (full : length on.leaf.keys ≡ 16) (lacks : has_key on.leaf.keys k ≡ false)
    (h : HasNotSplit sets.holds x.slot x.header why v w) where
  tried_walked : OnlyWalked v w
  tried_walked = record {
    drawn = subst (λ (z : View). IsFront v.history z.history) (sym h.is) (front_refl v.history);
    seen = subst (λ (z : View). IsFront v.decided z.decided) (sym h.is) (front_refl v.decided);
    since = h.worked.since;
    parts = λ part has. inl (subst (λ (z : View). Contains z.seat.kept part) h.is has);
    touches = h.worked.touches;
    ways = λ y has. subst (λ (z : View). Contains z.ways y) (sym h.is) has;
    known = h.known;
    moved = λ y has. subst (λ (z : View). Contains z.moved y) (sym h.is) has;
    inners = λ y has. subst (λ (z : View). Contains z.inners y) (sym h.is) has;
    versions = h.worked.versions;
    is = subst (λ (z : View). z ≡ as_walked v z) (sym h.is) refl;
  }

  tried_more : KnowsMore v w
  tried_more = record {
    layout = ap (λ (z : View). z.layout) h.is;
    ways = tried_walked.ways;
    known = h.known;
    inners = tried_walked.inners;
    leads = λ y has. subst (λ (z : View). Contains z.leads y) (sym h.is) has;
    pages = subst (λ (z : View). IsFront v.pages z.pages) (sym h.is) (front_refl v.pages);
  }

  tried_trees : TreesAgree w
  tried_trees = h.trees live.trees

  record_falls : (at expected seen i : ℕ) → i < 16 → IsLeafWordChanged x.slot (word_in tree_leaf i) at expected seen v w
      → HasTakenFirst x.slot i v w → seen_at w.reads (page_at v.layout.slots x.slot 0) ≡ Some x.header
      → Stopped sets sets.holds k (refusals.Conflict at expected seen) v w
  record_falls at expected seen i few c taken still =
      record_stops sets sets.holds k x v v w live on tried_walked tried_more tried_trees (omega arith) h.worked.words i at
      expected seen few full lacks c i (omega (arith, few))
      (taken_first k sets.headers x i v w on full live.trees (omega (arith, few)) taken)
      (inl (key_apart on.leaf.keys i on.leaf.once (omega (arith, few, full)))) (inl still)

  header_falls : (at expected seen : ℕ) → expected ≡ x.header → IsLeafWordChanged x.slot 0 at expected seen v w
      → Stopped sets sets.holds k (refusals.Conflict at expected seen) v w
  header_falls at expected seen same c =
      subst (λ (n : ℕ). Stopped sets sets.holds k (refusals.Conflict at n seen) v w) (sym same)
      (head_stops sets sets.holds k x v v w live on tried_walked tried_more tried_trees (omega arith) h.worked.words at seen
      (subst (λ (n : ℕ). IsLeafWordChanged x.slot 0 at n seen v w) same c))

  gave_falls : (at expected seen : ℕ) → GaveNone (refusals.Conflict at expected seen) v w
      → Stopped sets sets.holds k (refusals.Conflict at expected seen) v w
  gave_falls at expected seen g =
      slot_stops sets sets.holds k at expected seen v g.before g.behind w g.since g.layout
      (ap (λ (z : View). z.layout) h.is) g.looked g.last g.missed

  full_falls : (held : Option (ℕ × ℕ)) → GaveNone (refusals.Full held) v w
      → Stopped sets sets.holds k (refusals.Full held) v w
  full_falls held g =
      full_stops sets sets.holds k held v g.before g.behind w g.since g.layout (ap (λ (z : View). z.layout) h.is) g.looked
      g.last g.missed

  -- the locks that were taken
  split_locks : (n : ℕ) → n ≤ 16 → HasTakenFirst x.slot n v w → LocksLeaf k v w
  split_locks n few taken = locks_leaf k sets.headers x n v w on full live.trees few taken

  split_falls_by : Stopped sets sets.holds k why v w → LocksLeaf k v w → Falls sets sets.holds k why v w
  split_falls_by s locks = record {
    live = live;
    only = tried_walked;
    holds = holds_same sets v w live tried_walked (ap (λ (z : View). z.grip.holds) h.is);
    agree = subst (λ (l : List Way). WaysAgree l) (sym (ap (λ (z : View). z.ways) h.is)) live.agree;
    trees = tried_trees;
    stopped = s;
    locks = locks;
  }

-- the leaf is full, and lacks the key
full_leaf : (sets : Sets) (k : Key) (x : Leaf) (v : View) → (on : IsLeafOn k sets.headers x v)
    → length on.leaf.keys ≡ 16 → has_key on.leaf.keys k ≡ false → IsFullLeaf k v
full_leaf sets k x v on full lacks =
    record { leaf = x; is = on.leaf; full = full; lacks = lacks; saw = on.met }

pub split_falls : (why : RefusalCause) (sets : Sets) (k : Key) (x : Leaf) (v w : View) → IsLive sets v
    → (on : IsLeafOn k sets.headers x v) → length on.leaf.keys ≡ 16 → has_key on.leaf.keys k ≡ false
    → HasNotSplit sets.holds x.slot x.header why v w → Falls sets sets.holds k why v w
split_falls (refusals.Conflict at expected seen) sets k x v w live on full lacks h =
    let why : RefusalCause = refusals.Conflict at expected seen in
    elim h.cause [
      | inl c ↦ split_falls_by why sets k x v w live on full lacks h
          (header_falls why sets k x v w live on full lacks h at expected seen c.0 c.1) (inl c.2)
      | inr more ↦ elim more [
        | inl r ↦
            let few : r.missed.0 < 16 = r.missed.1 in
            split_falls_by why sets k x v w live on full lacks h
            (record_falls why sets k x v w live on full lacks h at expected seen r.missed.0 few r.missed.2 r.missed.3
            r.header)
            (split_locks why sets k x v w live on full lacks h r.missed.0 (omega (arith, few)) r.missed.3)
        | inr g ↦ split_falls_by why sets k x v w live on full lacks h
            (gave_falls why sets k x v w live on full lacks h at expected seen g.0)
            (split_locks why sets k x v w live on full lacks h 16 (omega arith) g.1)
      ]
    ]
split_falls (refusals.Full held) sets k x v w live on full lacks h =
    split_falls_by (refusals.Full held) sets k x v w live on full lacks h
    (full_falls (refusals.Full held) sets k x v w live on full lacks h held h.cause.0)
    (split_locks (refusals.Full held) sets k x v w live on full lacks h 16 (omega arith) h.cause.1)
split_falls (refusals.Wide set) sets k x v w live on full lacks h =
    split_falls_by (refusals.Wide set) sets k x v w live on full lacks h
    record {
      due = tt;
      on = subst (λ (s : SetName). NeedsOne s k sets w) (sym h.cause.0) (inl (
        h.cause.1,
        inr (inr (subst (λ (z : View). IsFullLeaf k z) (sym h.cause.2) (full_leaf sets k x v on full lacks))),
      ));
      told = λ met t. t;
      stops = (
        inr (inl (
          h.cause.0,
          inl (
            h.cause.1,
            inr record {
              then = v;
              walked = nothing_walked v;
              met = λ r has. subst (λ (z : View). Contains z.reads r) (sym h.cause.2) has;
              makes = inr (full_leaf sets k x v on full lacks);
            },
          ),
        )),
        ap (λ (z : View). z.touched) h.cause.2,
      );
    } (inl (ap (λ (z : View). z.touched) h.cause.2))
split_falls (refusals.NumberLimit clock) sets k x v w live on full lacks h = absurd h.cause

-- ---- the leaf was split, and the sets name a record of it

module _ (why : RefusalCause) (sets new : Sets) (k : Key) (x : Leaf) (at i word : ℕ) (v w y : View)
    (s : HasSplitFor k x at sets new v w) (few : i < 16) (h : HasNotLockedOne x.slot i why w y)
    (stands : word ≡ page_at v.layout.slots x.slot (1 + (16 + 3 * i))) (named : names_record word sets ≡ true) where
  look_walked : OnlyWalked w y
  look_walked = record {
    drawn = subst (λ (z : View). IsFront w.history z.history) (sym h.is) (front_refl w.history);
    seen = subst (λ (z : View). IsFront w.decided z.decided) (sym h.is) (front_refl w.decided);
    since = h.worked.since;
    parts = λ part has. inl (subst (λ (z : View). Contains z.seat.kept part) h.is has);
    touches = h.worked.touches;
    ways = λ z has. subst (λ (q : View). Contains q.ways z) (sym h.is) has;
    known = λ z has. subst (λ (q : View). Contains q.known z) (sym h.is) has;
    moved = λ z has. subst (λ (q : View). Contains q.moved z) (sym h.is) has;
    inners = λ z has. subst (λ (q : View). Contains q.inners z) (sym h.is) has;
    versions = h.worked.versions;
    is = subst (λ (z : View). z ≡ as_walked w z) (sym h.is) refl;
  }

  first_walked : OnlyWalked v w
  first_walked = split_walked sets new v w k x at s.live s.on s.split s.now

  both_walked : OnlyWalked v y
  both_walked = walks_then v w y first_walked look_walked

  look_trees : TreesAgree y
  look_trees =
      trees_by w y (ap (λ (z : View). z.layout) h.is) (ap (λ (z : View). z.known) h.is) (ap (λ (z : View). z.inners) h.is)
      (ap (λ (z : View). z.ways) h.is) s.split.trees

  look_more : KnowsMore v y
  look_more =
      let m = split_more sets new v w k x at s.live s.on s.split s.now in record {
        layout = ap (λ (z : View). z.layout) h.is ∙ m.layout;
        ways = λ z has. look_walked.ways z (m.ways z has);
        known = λ z has. look_walked.known z (m.known z has);
        inners = λ z has. look_walked.inners z (m.inners z has);
        leads = λ z has. subst (λ (q : View). Contains q.leads z) (sym h.is) (m.leads z has);
        pages = subst (λ (q : View). IsFront v.pages q.pages) (sym h.is) m.pages;
      }

  look_holds : HasHolds new.holds y
  look_holds =
      let o = split_holds sets new v w k x at s.live s.on s.split s.now in record {
        holds = λ q. o.holds q ∙ ap (λ (z : View). has_slot z.grip.holds q) (sym h.is);
        within = λ q has. subst (λ (l : Layout). q < l.slots) (sym (ap (λ (z : View). z.layout) h.is)) (o.within q has);
        made = ap (λ (z : View). z.grip.made) h.is ∙ o.made;
        taken = ap (λ (z : View). z.grip.taken) h.is ∙ o.taken;
        drafts = ap (λ (z : View). z.drafts) h.is ∙ o.drafts;
        copies = ap (λ (z : View). z.copies) h.is ∙ o.copies;
        blanks = ap (λ (z : View). z.blanks) h.is ∙ o.blanks;
        leaves = ap (λ (z : View). z.new_leaves) h.is ∙ o.leaves;
        inners = ap (λ (z : View). z.new_inners) h.is ∙ o.inners;
        heads = ap (λ (z : View). z.heads) h.is ∙ o.heads;
      }

  -- all records of the leaf were locked
  look_taken : HasTakenFirst x.slot 16 v y
  look_taken = record {
    keys = s.split.taken.keys;
    knows = s.split.taken.knows;
    full = s.split.taken.full;
    is = h.touched ∙ s.split.taken.is;
  }

  look_stops : (a expected seen : ℕ) → IsLeafWordChanged x.slot (word_in tree_leaf i) a expected seen w y
      → Stopped sets new.holds k (refusals.Conflict a expected seen) v y
  look_stops a expected seen c =
      let is : a ≡ word =
      c.place.word.word
      ∙ (ap (λ (l : Layout). page_at l.slots x.slot (1 + (16 + 3 * i))) look_more.layout ∙ sym stands) in
      let here : names_record a sets ≡ true = ap (λ (n : ℕ). names_record n sets) is ∙ named in
      record_stops sets new.holds k x v w y s.live s.on both_walked look_more look_trees s.split.worked.since
      (λ n. h.worked.words n ∙ s.split.worked.words n) i a expected seen few s.full s.lacks c 16 (omega arith)
      (taken_first k sets.headers x 16 v y s.on s.full s.live.trees (omega arith) look_taken) (inr here) (inr here)

  look_falls_by : Stopped sets new.holds k why v y → Falls sets new.holds k why v y
  look_falls_by stopped = record {
    live = s.live;
    only = both_walked;
    holds = look_holds;
    agree = subst (λ (l : List Way). WaysAgree l) (sym (ap (λ (z : View). z.ways) h.is)) s.split.agree;
    trees = look_trees;
    stopped = stopped;
    locks = locks_leaf k sets.headers x 16 v y s.on s.full s.live.trees (omega arith) look_taken;
  }

pub look_falls : (why : RefusalCause) (sets new : Sets) (k : Key) (x : Leaf) (at i word : ℕ) (v w y : View)
    → HasSplitFor k x at sets new v w → i < 16 → HasNotLockedOne x.slot i why w y
    → word ≡ page_at v.layout.slots x.slot (1 + (16 + 3 * i)) → names_record word sets ≡ true
    → Falls sets new.holds k why v y
look_falls (refusals.Conflict a expected seen) sets new k x at i word v w y s few h stands named =
    let why : RefusalCause = refusals.Conflict a expected seen in
    look_falls_by why sets new k x at i word v w y s few h stands named
    (look_stops why sets new k x at i word v w y s few h stands named a expected seen h.cause)
look_falls (refusals.Full held) sets new k x at i word v w y s few h stands named = absurd h.cause
look_falls (refusals.Wide set) sets new k x at i word v w y s few h stands named = absurd h.cause
look_falls (refusals.NumberLimit clock) sets new k x at i word v w y s few h stands named = absurd h.cause

-- ---- pages weren't brought into memory

pub made_falls : (why : RefusalCause) (sets : Sets) (slots : List ℕ) (k : Key) (v w : View) → IsLive sets v
    → HasWalked v w → CanMake slots w → RefusesMake k sets.pointers sets.headers slots why v w
    → Falls sets slots k why v w
made_falls why sets slots k v w live walk can r = record {
  live = live;
  only = tree_walked v w walk;
  holds = holds_walked sets.holds slots v w live.holds (tree_walked v w walk) can.walks;
  agree = can.walks.agree;
  trees = can.walks.trees;
  stopped = make_stops sets slots k v w record { live = live; walk = walk; can = can.walks } why r;
  locks = inl (ap (λ (z : View). z.touched) walk.is);
}

pub full_falls_here : (sets : Sets) (k : Key) (v : View) → IsLive sets v → length sets.writes ≡ 16
    → has_write k sets.writes ≡ false → Falls sets sets.holds k (refusals.Wide Writes) v v
full_falls_here sets k v live full none = record {
  live = live;
  only = nothing_walked v;
  holds = live.holds;
  agree = live.agree;
  trees = live.trees;
  stopped = writes_full sets sets.holds k v full none;
  locks = inl refl;
}

-- ---- as the calls tell it

pub locked_due : (why : RefusalCause) (sets : Sets) (k : Key) (x : Leaf) (v w : View) (at n : ℕ)
    → why ≡ refusals.Conflict at x.header n → Falls sets sets.holds k (refusals.Conflict at x.header n) v w
    → IsDue (Some why) w
locked_due why sets k x v w at n same f = subst (λ (r : RefusalCause). IsDue (Some r) w) (sym same) f.stopped.due

pub locked_on : (why : RefusalCause) (sets : Sets) (k : Key) (x : Leaf) (v w : View) (at n : ℕ)
    → why ≡ refusals.Conflict at x.header n → Falls sets sets.holds k (refusals.Conflict at x.header n) v w
    → IsRefusedOn why k sets w
locked_on why sets k x v w at n same f = subst (λ (r : RefusalCause). IsRefusedOn r k sets w) (sym same) f.stopped.on

pub headed_steps : (sets : Sets) (k : Key) (x : Leaf) (v w : View) (at n : ℕ) → IsLive sets v → Headed x.slot x.span at v n w
    → w.steps ≤ v.steps + 1
headed_steps sets k x v w at n live h = (head_load x.slot x.span at v n w live.agree h).most
