-- Steps of a scan in a row.
use Rattle.std.proofs.Common.{◌≡◌, ◌⊎◌, inl, inr, ℕ, ◌+◌, ◌≤◌, true, true≢false, List, [], ◌∷◌, ◌++◌, length, refl}
use Rattle.std.proofs.Common.{sym, ap, ◌∙◌, subst, arith}
use Rattle.std.proofs.Common.{Option, Some, append-nil, append_assoc, length-append}
use Rattle.std.specs.Prelude.{Contains}
use Rattle.lists.specs.Elements.{in_cases, in_head, in_none, in_tail}
use Rattle.lists.specs.Fronts.{front_from, front_refl, front_then}
use Rattle.serial_model.specs.declared.decl.Decl.{Decl}
use Rattle.serial_model.specs.declared.key.Key.{Key}
use Rattle.serial_model.specs.declared.number.Change.{Change}
use Rattle.serial_model.specs.declared.op.Op.{Op}
use Rattle.serial_model.specs.declared.op.Op.TheVariants.{Scan}
use Rattle.serial_model.specs.declared.reply.Reply.TheVariants.{Rows}
use Rattle.commit_core.specs.declared.part.Part.{Part}
use Rattle.tx_sets.specs.declared.reads.ReadEntry.{ReadEntry}
use Rattle.tx_sets.specs.declared.seen.Seen.{Seen}
use Rattle.tx_sets.specs.declared.sets.Sets.{Sets}
use Rattle.tx_sets.specs.declared.writes.Write.{Write}
use Rattle.tx_sets.specs.Entries.{has_word, has_write}
use Rattle.engine_pages.specs.declared.layout.Layout.{Layout}
use Rattle.engine_pages.specs.declared.view.RefusalCause.{RefusalCause}
use Rattle.engine_pages.specs.declared.view.RefusalCause.TheVariants as refusals
use Rattle.engine_pages.specs.declared.view.View.{View}
use Rattle.engine_pages.specs.Layout.{page_at}
use Rattle.engine_pages.specs.Pages.{is_tree}
use Rattle.array_pages.specs.Walks.{IsWayPlace}
use Rattle.tree_walks.specs.Walks.{HasWalked}
use Rattle.tree_walks.proofs.StepLaws.{layout_stays, place_stays, walked_self, walked_then}
use Rattle.page_commit.specs.Live.{IsLive}
use Rattle.page_commit.specs.Places.{slot_of}
use Rattle.page_commit.specs.Turning.{AreWritesOf, HasDone, IsHeaderOver, IsPointerOf, IsReadBy, IsTreePointerOver}
use Rattle.page_commit.specs.Turning.{MayRead}
use Rattle.page_commit.specs.Turning.{OnlyWalked}
use Rattle.page_commit.proofs.KnownOver.{pointers_before, ways_before}
use Rattle.page_commit.proofs.PointerLaws.{has_pointer}
use Rattle.page_commit.proofs.RefuseLaws.{refused_since}
use Rattle.page_commit.proofs.TurnLaws.{walks_then}
use Rattle.tree_scans.specs.Rows.{key_in}
use Rattle.tree_calls.specs.Causes.{IsWordConflict}
use Rattle.tree_calls.proofs.OpLaws.{held_both, held_for, ways_both, ways_for}
use Rattle.tree_calls.proofs.SinceLaws.{entry_since, head_since, hold_since, long_since, needs_since, pointer_since}
use Rattle.tree_calls.proofs.SinceLaws.{record_since}
use Rattle.tree_calls.proofs.TreeWalkLaws.{tree_walked}
use Rattle.tree_ranges.specs.Causes.{HasGrown, HasJoined, IsInRange, IsScanCause, RefusesScan}
use Rattle.tree_ranges.specs.Going.{GoesIn, HasGone, HasRead, HasScanned, IsHeaderOf, Stops}
use Rattle.tree_ranges.proofs.GivenLaws.{within_by, within_more}
use Rattle.tree_ranges.proofs.RowLaws.{rows_seen}

-- ---- some more

in_both : {A : Type 0} (xs ys : List A) (x : A) → Contains (xs ++ ys) x → Contains xs x ⊎ Contains ys x
in_both [] ys x has = inr has
in_both {A = A} (y ∷ xs) ys x has = by_cases (in_cases x y (xs ++ ys) has) (λ more. in_both xs ys x more)
  where
    by_cases : (y ≡ x) ⊎ Contains (xs ++ ys) x → (Contains (xs ++ ys) x → Contains xs x ⊎ Contains ys x)
        → Contains (y ∷ xs) x ⊎ Contains ys x
    by_cases (inl same) later = inl (subst (λ (z : A). Contains (y ∷ xs) z) same (in_head y xs))
    by_cases (inr more) later = elim (later more) [ inl one ↦ inl (in_tail x y xs one) | inr two ↦ inr two ]

pub in_more : {A : Type 0} (xs ys : List A) (x : A) → Contains xs x → Contains (xs ++ ys) x
in_more [] ys x has = absurd (in_none x has)
in_more {A = A} (y ∷ xs) ys x has = by_cases (in_cases x y xs has) (λ more. in_more xs ys x more)
  where
    by_cases : (y ≡ x) ⊎ Contains xs x → (Contains xs x → Contains (xs ++ ys) x) → Contains (y ∷ (xs ++ ys)) x
    by_cases (inl same) later = subst (λ (z : A). Contains (y ∷ (xs ++ ys)) z) same (in_head y (xs ++ ys))
    by_cases (inr more) later = in_tail x y (xs ++ ys) (later more)

pub joined_none : (A : Type 0) (P : A → Type 0) (old new : List A) → new ≡ old → HasJoined A P old new
joined_none A P old new same =
    record { more = []; is = same ∙ sym (append-nil old); each = λ x has. absurd (in_none x has) }

pub joined_one : (A : Type 0) (P : A → Type 0) (old new : List A) (y : A) → new ≡ old ++ y ∷ [] → P y
    → HasJoined A P old new
joined_one A P old new y is holds = record {
  more = y ∷ [];
  is = is;
  each = λ x has. elim (in_cases x y [] has) [ inl same ↦ subst P same holds | inr more ↦ absurd (in_none x more) ];
}

joined_as : (A : Type 0) (P Q : A → Type 0) (old new : List A) → ((x : A) → P x → Q x) → HasJoined A P old new
    → HasJoined A Q old new
joined_as A P Q old new as-is h = record { more = h.more; is = h.is; each = λ x has. as-is x (h.each x has) }

joined_both : (A : Type 0) (P : A → Type 0) (old mid new : List A) → HasJoined A P old mid → HasJoined A P mid new
    → HasJoined A P old new
joined_both A P old mid new first second = record {
  more = first.more ++ second.more;
  is = second.is ∙ (ap (λ (l : List A). l ++ second.more) first.is ∙ append_assoc old first.more second.more);
  each = λ x has. elim (in_both first.more second.more x has) [
    | inl one ↦ first.each x one
    | inr two ↦ second.each x
        two
  ];
}

-- ---- what was met is known still

pointer_stays : (v w : View) (op : Op) (p : Seen) → HasWalked v w → IsPointerOf v op p → IsPointerOf w op p
pointer_stays v w op p walk h = (
  h.0,
  h.1,
  elim h.2 [
    | inl way ↦ inl (subst (λ (y : Layout). IsWayPlace y h.0 p.at) (sym (layout_stays v w walk)) way)
    | inr t ↦ inr (tree_over t)
  ],
)
  where
    tree_over : IsTreePointerOver v h.0 p.at → IsTreePointerOver w h.0 p.at
    tree_over t = record {
      place = t.place;
      span = t.span;
      is = place_stays v w t.place t.span p.at walk t.is;
      tree = subst (λ (y : Layout). is_tree y.decls (h.0).storage ≡ true) (sym (layout_stays v w walk)) t.tree;
      over = t.over;
    }

header_over_stays : (v w : View) (k : Key) (at : ℕ) → HasWalked v w → IsHeaderOver v k at → IsHeaderOver w k at
header_over_stays v w k at walk h = record {
  way = h.way;
  has = walk.ways h.way h.has;
  slot = h.slot ∙ ap (λ (y : Layout). slot_of y.slots at) (sym (layout_stays v w walk));
  tree = subst (λ (y : Layout). is_tree y.decls k.storage ≡ true) (sym (layout_stays v w walk)) h.tree;
  over = h.over;
  word = h.word ∙ ap (λ (y : Layout). page_at y.slots (h.way).slot 0) (sym (layout_stays v w walk));
}

header_stays : (v w : View) (op : Op) (h : Seen) → HasWalked v w → IsHeaderOf v op h → IsHeaderOf w op h
header_stays v w op h walk is = (is.0, is.1, header_over_stays v w is.0 h.at walk is.2)

-- ---- steps in a row

pub gone_then : (op : Op) (sets mid new : Sets) (u v w : View) → HasGone op sets mid u v → HasGone op mid new v w
    → HasGone op sets new u w
gone_then op sets mid new u v w first second = record {
  live = second.live;
  walked = walked_then u v w first.walked second.walked;
  paths = ways_both op u v w (tree_walked v w second.walked) first.paths second.paths;
  held = held_both op sets.holds mid.holds new.holds v w (tree_walked v w second.walked) first.held second.held;
  keeps = λ k value had. second.keeps k value (first.keeps k value had);
  reads = joined_both ReadEntry (IsReadBy u.layout.decls op) sets.reads mid.reads new.reads first.reads
      (subst (λ (y : Layout). HasJoined ReadEntry (IsReadBy y.decls op) mid.reads new.reads) (layout_stays u v
      first.walked)
      second.reads);
  pointers = joined_both Seen (IsPointerOf w op) sets.pointers mid.pointers new.pointers
      (joined_as Seen (IsPointerOf v op) (IsPointerOf w op) sets.pointers mid.pointers
      (λ p is. pointer_stays v w op p second.walked is) first.pointers) second.pointers;
  headers = joined_both Seen (IsHeaderOf w op) sets.headers mid.headers new.headers
      (joined_as Seen (IsHeaderOf v op) (IsHeaderOf w op) sets.headers mid.headers
      (λ h is. header_stays v w op h second.walked is) first.headers) second.headers;
  writes = second.writes ∙ first.writes;
}

-- nothing was done
pub gone_none : (op : Op) (sets : Sets) (v : View) → IsLive sets v → HasGone op sets sets v v
gone_none op sets v live = record {
  live = live;
  walked = walked_self v;
  paths = λ x has. inl has;
  held = λ t has none. absurd (true≢false (sym has ∙ none));
  keeps = λ k value had. had;
  reads = joined_none ReadEntry (IsReadBy v.layout.decls op) sets.reads sets.reads refl;
  pointers = joined_none Seen (IsPointerOf v op) sets.pointers sets.pointers refl;
  headers = joined_none Seen (IsHeaderOf v op) sets.headers sets.headers refl;
  writes = refl;
}

-- a key was read
pub read_gone : (op : Op) (k : Key) (value : Option ℕ) (sets new : Sets) (v w : View) → MayRead op k
    → HasRead k value sets new v w → HasGone op sets new v w
read_gone op k value sets new v w may r =
    let h = r.value_is in record {
      live = h.live;
      walked = r.walked;
      paths = ways_for op k v w (inl may) h.paths;
      held = held_for op k sets.holds new.holds w (inl may) h.held;
      keeps = h.keeps;
      reads = elim h.reads [
        | inl same ↦ joined_none ReadEntry (IsReadBy v.layout.decls op) sets.reads new.reads same
        | inr more ↦ joined_one ReadEntry (IsReadBy v.layout.decls op) sets.reads new.reads more.0 more.2
            (inl (subst (MayRead op) (sym more.1) may))
      ];
      pointers = elim h.pointers [
        | inl same ↦ joined_none Seen (IsPointerOf w op) sets.pointers new.pointers same
        | inr more ↦ joined_one Seen (IsPointerOf w op) sets.pointers new.pointers more.0 more.1 (k, may, inr more.2)
      ];
      headers = elim h.headers [
        | inl same ↦ joined_none Seen (IsHeaderOf w op) sets.headers new.headers same
        | inr more ↦ joined_one Seen (IsHeaderOf w op) sets.headers new.headers more.0 more.1 (k, may, more.2)
      ];
      writes = h.writes;
    }

pub read_goes : (k : Key) (value : Option ℕ) (sets new : Sets) (v w : View) → HasRead k value sets new v w
    → GoesIn k.storage k.key k.key sets new v w
read_goes k value sets new v w r low high from to =
    read_gone (Scan k.storage low high) k value sets new v w (within_by k.storage low high k.key from to) r

-- within a wider range
pub goes_more : (storage from to low high : ℕ) (sets new : Sets) (v w : View) → low ≤ from → to ≤ high
    → GoesIn storage from to sets new v w → GoesIn storage low high sets new v w
goes_more storage from to low high sets new v w first last goes a b less more =
    goes a b (omega (arith, less, first)) (omega (arith, last, more))

pub goes_then : (storage from to : ℕ) (sets mid new : Sets) (u v w : View) → GoesIn storage from to sets mid u v
    → GoesIn storage from to mid new v w → GoesIn storage from to sets new u w
goes_then storage from to sets mid new u v w first second a b less more =
    gone_then (Scan storage a b) sets mid new u v w (first a b less more) (second a b less more)

pub goes_none : (storage from to : ℕ) (sets : Sets) (v : View) → IsLive sets v → GoesIn storage from to sets sets v v
goes_none storage from to sets v live a b less more = gone_none (Scan storage a b) sets v live

-- ---- the whole operation

-- what the sets have room for
module _ (storage low high : ℕ) (sets new : Sets) (rows : List (ℕ × ℕ)) (v w : View)
    (h : HasScanned storage low high sets new rows v w) (reads : length new.reads ≤ 256)
    (pointers : length new.pointers ≤ 128) (headers : length new.headers ≤ 256) where
  abbrev op : Op
  op = Scan storage low high

  few_of : {A : Type 0} (most : ℕ) (old now more : List A) → now ≡ old ++ more → length now ≤ most → length more ≤ most
  few_of {A = A} most old now more is few =
      let n : length now ≡ length old + length more = ap (λ (l : List A). length l) is ∙ length-append old more in
      omega (arith, n, few)

  header_cases : (x : Seen) → Contains new.headers x
      → (has_word x.at sets.headers ≡ true) ⊎ ((k : Key) × MayRead op k × IsHeaderOver w k x.at)
  header_cases x has =
      elim (in_both sets.headers h.gone.headers.more x
      (subst (λ (l : List Seen). Contains l x) h.gone.headers.is has)) [
        | inl old ↦ inl (has_pointer sets.headers x old)
        | inr more ↦ inr (h.gone.headers.each x more)
      ]

  pub scan_done : HasDone op (Some (Rows rows)) sets new v w
  scan_done = record {
    live = h.gone.live;
    only = tree_walked v w h.gone.walked;
    paths = h.gone.paths;
    held = h.gone.held;
    reads = record {
      more = h.gone.reads.more;
      is = h.gone.reads.is;
      each = h.gone.reads.each;
      few = few_of 256 sets.reads new.reads h.gone.reads.more h.gone.reads.is reads;
    };
    pointers = record {
      more = h.gone.pointers.more;
      is = h.gone.pointers.is;
      each = h.gone.pointers.each;
      few = let few = few_of 128 sets.pointers new.pointers h.gone.pointers.more h.gone.pointers.is pointers in
          omega (arith, few);
    };
    headers = record { each = header_cases; few = omega (arith, headers) };
    joined = elim h.joined [
      | inl some ↦ inr (inl (key_in storage low, within_by storage low high low (omega arith) some))
      | inr same ↦ inl same
    ];
    locks = inl (ap (λ (y : View). y.touched) h.gone.walked.is);
    writes = λ q has. inl (subst (λ (l : List Write). has_write q l ≡ true) h.gone.writes has);
    grows = let n = ap (λ (l : List Write). length l) h.gone.writes in omega (arith, n);
    keeps = h.gone.keeps;
    turns = λ own same. (
      own,
      subst (λ (l : List Write). AreWritesOf l own) (sym h.gone.writes) same,
      (
        rows,
        rows_seen storage low high h.at sets.writes own w.seat.kept rows h.rows_are same h.few h.within h.end,
        refl,
      ),
    );
  }

-- ---- refusals behind such steps

-- the records that were read are of the range
in_range : (storage low high : ℕ) (decls : List Decl) (e : ReadEntry) → IsReadBy decls (Scan storage low high) e
    → IsInRange storage low high e
in_range storage low high decls e (inl may) = may
in_range storage low high decls e (inr added) = absurd added.0

grown_by : (storage low high : ℕ) (sets mid new : Sets) (v u : View) → HasGone (Scan storage low high) sets mid v u
    → HasGrown storage low high mid new → HasGrown storage low high sets new
grown_by storage low high sets mid new v u gone grown = record {
  reads = joined_both ReadEntry (IsInRange storage low high) sets.reads mid.reads new.reads
      (joined_as ReadEntry (IsReadBy v.layout.decls (Scan storage low high)) (IsInRange storage low high) sets.reads mid.reads
      (λ e read. in_range storage low high v.layout.decls e read) gone.reads) grown.reads;
  pointers = front_then sets.pointers mid.pointers new.pointers
      (front_from sets.pointers gone.pointers.more mid.pointers (sym gone.pointers.is)) grown.pointers;
  headers = front_then sets.headers mid.headers new.headers
      (front_from sets.headers gone.headers.more mid.headers (sym gone.headers.is)) grown.headers;
  writes = grown.writes ∙ gone.writes;
}

-- within a wider range
grown_more : (storage low high from to : ℕ) (sets new : Sets) → low ≤ from → to ≤ high → HasGrown storage from to sets new
    → HasGrown storage low high sets new
grown_more storage low high from to sets new first last grown = record {
  reads = joined_as ReadEntry (IsInRange storage from to) (IsInRange storage low high) sets.reads new.reads
      (λ e within. within_more storage low high from to e.key first last within) grown.reads;
  pointers = grown.pointers;
  headers = grown.headers;
  writes = grown.writes;
}

-- the sets are as they were, but for their holds
pub grown_holds : (storage low high : ℕ) (sets : Sets) (late : List ℕ)
    → HasGrown storage low high sets (record sets { holds = late })
grown_holds storage low high sets late = record {
  reads = joined_none ReadEntry (IsInRange storage low high) sets.reads sets.reads refl;
  pointers = front_refl sets.pointers;
  headers = front_refl sets.headers;
  writes = refl;
}

conflict_since : (new : Sets) (k : Key) (at expected seen : ℕ) (v u x : View) → OnlyWalked v u
    → IsWordConflict new k at expected seen u x → IsWordConflict new k at expected seen v x
conflict_since new k at expected seen v u x only c = (
  c.0,
  walks_then v u c.0 only c.1,
  elim c.2 [
    | inl p ↦ inl (
      pointer_since new.pointers at expected seen v u x only.since p.0,
      p.1,
      pointers_before k at v u only p.2,
    )
    | inr more ↦ inr (elim more [
      | inl h ↦ inl (
        head_since new.headers at expected seen v u x only.since h.0,
        h.1,
        ways_before k at v u only h.2,
      )
      | inr r ↦ inr (
        record_since new.reads at expected seen v u x only.since r.0,
        r.1,
        ways_before k at v u only r.2,
        r.3,
      )
    ])
  ],
)

cause_since : (why : RefusalCause) (new : Sets) (k : Key) (v u x : View) → OnlyWalked v u → IsScanCause new k why u x
    → IsScanCause new k why v x
cause_since (refusals.Conflict at expected seen) new k v u x only c =
    (conflict_since new k at expected seen v u x only c.0, c.1 ∙ ap (λ (y : View). y.blamed) only.is)
cause_since (refusals.Full held) new k v u x only c = absurd c
cause_since (refusals.Wide set) new k v u x only c =
    elim c [
      | inl e ↦ inl (e.0, e.1, entry_since k new v u x only e.2)
      | inr more ↦ inr (elim more [
        | inl h ↦ inl (
          h.0,
          elim h.1 [
            | inl full ↦ inl (full.0, hold_since k new.holds v u x only full.1)
            | inr long ↦ inr (long_since k v u only long)
          ],
        )
        | inr p ↦ inr (p.0, p.1, needs_since k new v u x only p.2)
      ])
    ]
cause_since (refusals.NumberLimit clock) new k v u x only c = absurd c

pub stops_then : (storage low high from to : ℕ) (sets mid new : Sets) (why : RefusalCause) (v u x : View)
    → GoesIn storage low high sets mid v u → low ≤ from → to ≤ high → Stops storage from to mid new why u x
    → Stops storage low high sets new why v x
stops_then storage low high from to sets mid new why v u x goes first last s =
    let gone = goes low high (omega arith) (omega arith) in
    let only = tree_walked v u gone.walked in
    let c = s.cause in
    let less = c.from in
    let more = c.to in record {
      cause = record {
        grown = grown_by storage low high sets mid new v u gone
            (grown_more storage low high from to mid new first last c.grown);
        draws = c.draws ∙ ap (λ (y : View). y.draws) only.is;
        touched = c.touched ∙ ap (λ (y : View). y.touched) gone.walked.is;
        key = c.key;
        from = omega (arith, less, first);
        to = omega (arith, more, last);
        cause = cause_since why new (key_in storage c.key) v u x only c.cause;
      };
      refused = refused_since why v u x only s.refused;
    }

pub stops_more : (storage low high from to : ℕ) (sets new : Sets) (why : RefusalCause) (v x : View) → low ≤ from
    → to ≤ high
    → Stops storage from to sets new why v x → Stops storage low high sets new why v x
stops_more storage low high from to sets new why v x first last s =
    let c = s.cause in
    let less = c.from in
    let more = c.to in record {
      cause = record {
        grown = grown_more storage low high from to sets new first last c.grown;
        draws = c.draws;
        touched = c.touched;
        key = c.key;
        from = omega (arith, less, first);
        to = omega (arith, more, last);
        cause = c.cause;
      };
      refused = s.refused;
    }
