-- What operations come to, by the value that was read and the write set.
use Rattle.std.proofs.Common.{[], ◌∷◌, ◌++◌, ◌≡◌, ◌⊎◌, inl, inr, ℕ, ◌+◌, ◌-◌, ◌^◌, ◌≤◌, Bool, true, false, cond, List}
use Rattle.std.proofs.Common.{Option, Some, None, length, arith}
use Rattle.std.proofs.Common.{refl, sym, ap, ◌∙◌, subst, true≢false}
use Rattle.std.specs.Prelude.{is_some, unwrap_or, nat_lt, nat_le, Contains}
use Rattle.std.specs.List.{AllByRecursion}
use Rattle.std.proofs.lemmas.Bool.{eqb-true, false_from_ne_true}
use Rattle.lists.specs.Each.{AreDistinct}
use Rattle.std.proofs.lemmas.List.{append-nil}
use Rattle.lists.specs.Elements.{any_is, in_cases, in_none}
use Rattle.lists.specs.Fronts.{front_then}
use Rattle.serial_model.specs.declared.key.Key.{Key}
use Rattle.serial_model.specs.declared.number.Change.{Change}
use Rattle.serial_model.specs.declared.decl.Decl.{Decl}
use Rattle.serial_model.specs.declared.op.Op.{Op}
use Rattle.serial_model.specs.declared.op.Op.TheVariants.{Read, Write, Remove, Add, Take, Scan}
use Rattle.serial_model.specs.declared.reply.Reply.TheVariants.{Value}
use Rattle.serial_model.specs.declared.reply.Verdict.TheVariants.{Done, Short, Over}
use Rattle.serial_model.specs.declared.decl.Decl.TheVariants.{Array, Tree}
use Rattle.serial_model.specs.Decls.{AreDecls}
use Rattle.serial_model.specs.Keys.{is_tree, is_tree_of}
use Rattle.serial_model.specs.Step.{reply_of}
use Rattle.commit_core.specs.declared.part.Part.{Part}
use Rattle.commit_core.specs.Parts.{IsSameOrAbsent}
use Rattle.commit_core.specs.Serial.{last_write}
use Rattle.homes.specs.declared.places.Content.{Content}
use Rattle.serial_bridge.specs.Transaction.{Sees, Vouched, wrote, added, taken, Turn, Turns, Continues, Stops}
use Rattle.homes.specs.Homes.{in_span}
use Rattle.drop_core.specs.Table.{has_slot}
use Rattle.tx_sets.specs.declared.reads.ReadEntry.{ReadEntry}
use Rattle.tx_sets.specs.declared.seen.Seen.{Seen}
use Rattle.tx_sets.specs.declared.sets.Sets.{Sets}
use Rattle.tx_sets.specs.declared.writes.Write as written_of
use Rattle.tx_sets.specs.Entries.{has_write, places_of, value_of, writes_at, IsInserted}
use Rattle.engine_pages.specs.declared.layout.Layout.{Layout}
use Rattle.engine_pages.specs.declared.view.View.{View}
use Rattle.engine_pages.specs.declared.view.Way.{Way}
use Rattle.engine_pages.specs.declared.view.Role.{Role}
use Rattle.engine_pages.specs.Pages.{is_array, is_array_kind, is_tree as is_tree_in}
use Rattle.engine_pages.specs.Views.{seat_number}
use Rattle.array_pages.proofs.DeclLaws.{decl_in}
use Rattle.array_pages.specs.Spans.{IsArrayKey}
use Rattle.array_pages.specs.Walks.{IsLastBetween, IsWayPlace, OnlyWaysTo}
use Rattle.page_commit.specs.declared.writing.By.{By}
use Rattle.page_commit.specs.declared.writing.By.TheVariants as ways
use Rattle.page_commit.specs.Places.{ground, IsKeyAt}
use Rattle.page_commit.specs.Live.{entry_places, AreMet, ArePointersKept, ArePointersMet, HasHolds, IsLive, IsWriteOf}
use Rattle.page_commit.specs.HeaderParts.{AreHeaders}
use Rattle.page_commit.specs.Altering.{altered, ended_by, op_of, Alters}
use Rattle.page_commit.specs.Keeping.{HasBrought, HasValue, KeepsSets}
use Rattle.page_commit.specs.Turning.{as_walked, AreWritesOf, HasDone, HasStopped, IsValueRead, MayRead, MayWrite, MeetsOnly}
use Rattle.page_commit.specs.Turning.{meets_most, HasMore, HeadsOnly, HoldsWaysOf, HoldsWaysTo, IsPartOf, IsPointerOf}
use Rattle.page_commit.specs.Turning.{IsReadBy, OnlyWalked, OnlyWaysOf, PartsStay, ReadsOnly}
use Rattle.page_commit.proofs.PointerLaws.{has_pointer}
use Rattle.page_commit.proofs.CommitResults.{keeps_only, parts_dropped}
use Rattle.page_commit.proofs.FoundLaws.{nothing_walked}
use Rattle.page_commit.proofs.RoomLaws.{room_same}
use Rattle.page_commit.proofs.WriteLaws.{value_none, word_apart, writes_more, writes_only, HasWritten}
use Rattle.page_commit.proofs.WriteLaws.{inserted_all, inserted_writes}

-- ---- what is seen

pub own_seen : (parts : List Part) (own : List Change) (ws : List written_of.Write) (k : Key) (value : Option ℕ)
    → AreWritesOf ws own → value_of k ws ≡ Some value → Sees parts own k value
own_seen parts own ws k value same is = inl (same k ∙ is)

pub part_seen : (parts : List Part) (own : List Change) (ws : List written_of.Write) (k : Key) (value : Option ℕ)
    → AreWritesOf ws own → value_of k ws ≡ None → Vouched parts k value → Sees parts own k value
part_seen parts own ws k value same none is = inr (same k ∙ none, is)

some_reply : (t : Bool) (value : Option ℕ) → is_some value ≡ true → Value (unwrap_or value 0) ≡ reply_of t value
some_reply t (Some n) there = refl
some_reply t None there = absurd cc

array_reply : (value : Option ℕ) → Value (unwrap_or value 0) ≡ reply_of false value
array_reply (Some n) = refl
array_reply None = refl

-- ---- the sets with other writes

-- the reads, pointers and holds are these
pub same_live : (sets new : Sets) (v : View) → IsLive sets v → new.reads ≡ sets.reads → new.pointers ≡ sets.pointers
    → new.holds ≡ sets.holds → new.headers ≡ sets.headers → AllByRecursion (IsWriteOf (ground v)) new.writes
    → IsLive new v
same_live sets new v live reads pointers holds headers all = record {
  decls = live.decls;
  worker = live.worker;
  due = live.due;
  locks = live.locks;
  took = live.took;
  stage = live.stage;
  gone = live.gone;
  agree = live.agree;
  trees = live.trees;
  holds = subst (λ l. HasHolds l v) (sym holds) live.holds;
  parts = parts_dropped sets new v v.seat.kept reads pointers headers live.parts;
  places = subst (λ (l : List ReadEntry). AreDistinct (entry_places l)) (sym reads) live.places;
  once = subst (λ (l : List Seen). AreDistinct (places_of l)) (sym pointers) live.once;
  writes = all;
  met = subst (λ (l : List ReadEntry). AreMet l [] v) (sym reads) live.met;
  points = subst (λ (l : List Seen). ArePointersMet l v) (sym pointers) live.points;
  kept = subst (λ (l : List Seen). ArePointersKept l v) (sym pointers) live.kept;
  headers = subst (λ (l : List Seen). AreHeaders l v) (sym headers) live.headers;
  only = keeps_only sets new v pointers headers live.only;
  inside = live.inside;
  room = room_same sets new reads headers live.room;
}

-- ---- walks

-- what says no more than a part says no more than what that one says no more than
pub part_of : (part mid old : Part) → IsPartOf part mid → IsPartOf mid old → IsPartOf part old
part_of part mid old a b = record {
  within = λ k over. b.within k (a.within k over);
  same = λ k over. a.same k over ∙ b.same k (a.within k over);
}

-- and had the last decided writes as that one had them
pub part_last : (u w : View) (part old : Part) → IsPartOf part old → IsLastBetween u w old → IsLastBetween u w part
part_last u w part old less last = record {
  history = last.history;
  decided = last.decided;
  drawn_since = last.drawn_since;
  seen_since = last.seen_since;
  drawn_by = last.drawn_by;
  seen_by = last.seen_by;
  last = λ k over.
      subst (λ (c : Content). IsSameOrAbsent c (last_write u.layout.opening last.history last.decided k))
      (sym (less.same k over)) (last.last k (less.within k over));
}

pub walks_then : (u v w : View) → OnlyWalked u v → OnlyWalked v w → OnlyWalked u w
walks_then u v w a b = record {
  drawn = front_then u.history v.history w.history a.drawn b.drawn;
  seen = front_then u.decided v.decided w.decided a.seen b.seen;
  since = let low = a.since in let high = b.since in omega (arith, low, high);
  parts = λ part has. elim (b.parts part has) [
    | inl mid ↦ early part mid
    | inr new ↦ elim new [
      | inl last ↦ inr (inl (last_since part last))
      | inr less ↦ lessen part less.0 less.2 (early less.0 less.1)
    ]
  ];
  touches = λ t has. elim (b.touches t has) [
    | inl mid ↦ a.touches t mid
    | inr own ↦ inr (
      subst (λ (r : Role). t.seat ≡ seat_number r) (ap (λ (y : View). y.role) a.is) own.0,
      subst (λ (l : Layout). is_tree_in l.decls t.key.storage ≡ true) layout own.1,
    )
  ];
  ways = λ x has. b.ways x (a.ways x has);
  known = λ x has. b.known x (a.known x has);
  moved = λ x has. b.moved x (a.moved x has);
  inners = λ x has. b.inners x (a.inners x has);
  versions = λ x has. b.versions x (a.versions x has);
  is = b.is ∙ ap (λ (y : View). as_walked y w) a.is;
}
  where
    layout : v.layout ≡ u.layout
    layout = ap (λ (y : View). y.layout) a.is

    last_by : (part : Part) → IsLastBetween u v part → IsLastBetween u w part
    last_by part l = record {
      history = l.history;
      decided = l.decided;
      drawn_since = l.drawn_since;
      seen_since = l.seen_since;
      drawn_by = front_then l.history v.history w.history l.drawn_by b.drawn;
      seen_by = front_then l.decided v.decided w.decided l.seen_by b.seen;
      last = l.last;
    }

    early : (part : Part) → Contains v.seat.kept part → Contains u.seat.kept part
        ⊎ (IsLastBetween u w part ⊎ ((old : Part) × Contains u.seat.kept old × IsPartOf part old))
    early part has = elim (a.parts part has) [
      | inl old ↦ inl old
      | inr new ↦ inr (elim new [ inl last ↦ inl (last_by part last) | inr less ↦ inr less ])
    ]

    lessen : (part old : Part) → IsPartOf part old → Contains u.seat.kept old
        ⊎ (IsLastBetween u w old ⊎ ((first : Part) × Contains u.seat.kept first × IsPartOf old first))
        → Contains u.seat.kept part
        ⊎ (IsLastBetween u w part ⊎ ((first : Part) × Contains u.seat.kept first × IsPartOf part first))
    lessen part old less (inl has) = inr (inr (old, has, less))
    lessen part old less (inr (inl last)) = inr (inl (part_last u w part old less last))
    lessen part old less (inr (inr first)) = inr (inr (first.0, first.1, part_of part old first.0 less first.2))

    last_since : (part : Part) → IsLastBetween v w part → IsLastBetween u w part
    last_since part l = record {
      history = l.history;
      decided = l.decided;
      drawn_since = front_then u.history v.history l.history a.drawn l.drawn_since;
      seen_since = front_then u.decided v.decided l.decided a.seen l.seen_since;
      drawn_by = l.drawn_by;
      seen_by = l.seen_by;
      last = subst (λ (y : Layout).
          Rattle.commit_core.specs.Parts.Vouches (Rattle.commit_core.specs.Serial.last_write y.opening l.history l.decided) part)
          layout l.last;
    }

pub walks_layout : (v w : View) → OnlyWalked v w → w.layout ≡ v.layout
walks_layout v w only = ap (λ (y : View). y.layout) only.is

-- ---- reads

-- what a read answers of a key that the transaction wrote
pub own_value : (k : Key) (own : Option ℕ) (sets : Sets) (v : View) → value_of k sets.writes ≡ Some own
    → IsValueRead k (unwrap_or own 0) sets v v
own_value k own sets v wrote = record {
  own = λ x is. ap (λ (o : Option ℕ). unwrap_or o 0) (same x is);
  again = λ e none read. absurd (apart none);
  anew = λ none unread. absurd (apart none);
}
  where
    same : (x : Option ℕ) → value_of k sets.writes ≡ Some x → own ≡ x
    same x is = let both : Some own ≡ Some x = sym wrote ∙ is in cc

    apart : value_of k sets.writes ≡ None → ⊥
    apart none = let both : Some own ≡ None = sym wrote ∙ none in cc

-- and of one that it didn't write
pub read_answer : (k : Key) (value : ℕ) (sets new : Sets) (v w : View) → has_write k sets.writes ≡ false
    → HasValue k value sets new v w → IsValueRead k value sets v w
read_answer k value sets new v w unwritten h = record {
  own = λ own wrote. absurd (apart own wrote);
  again = λ x none read. h.again x read;
  anew = λ none unread. h.anew unread;
}
  where
    apart : (own : Option ℕ) → value_of k sets.writes ≡ Some own → ⊥
    apart own wrote = let both : None ≡ Some own = sym (value_none k sets.writes unwritten) ∙ wrote in cc

pub may_read : (by : By) (k : Key) → MayRead (op_of k by) k
may_read (ways.Add amount) k = refl
may_read (ways.Take amount) k = refl

pub may_write : (by : By) (k q : Key) (W : Type 0) → W ⊎ (k ≡ q) → W ⊎ MayWrite (op_of k by) q
may_write (ways.Add amount) k q W is = is
may_write (ways.Take amount) k q W is = is

-- the ways to the key are those of the operation
pub ways_of : (op : Op) (k : Key) (v w : View) → MayRead op k ⊎ MayWrite op k → OnlyWaysTo k v w → OnlyWaysOf op v w
ways_of op k v w may only x has = elim (only x has) [ inl old ↦ inl old | inr over ↦ inr (k, may, inl over) ]

-- the slots that are held newly, by the operation
pub held_of : (op : Op) (k : Key) (old new : List ℕ) (w : View) → MayRead op k ⊎ MayWrite op k → HoldsWaysTo k old new w
    → HoldsWaysOf op old new w
held_of op k old new w may held t has none =
    let x = held t has none in (x.0, x.1, x.2, k, may, x.3)

-- none is, where they are the same
pub none_held : (op : Op) (old new : List ℕ) (w : View) → new ≡ old → HoldsWaysOf op old new w
none_held op old new w same t has none =
    absurd (true≢false (sym has ∙ (ap (λ (l : List ℕ). has_slot l t) same ∙ none)))

-- those of one part of the operation and of the next
pub held_then : (op : Op) (old mid new : List ℕ) (v w : View) → ((x : Way) → Contains v.ways x → Contains w.ways x)
    → HoldsWaysOf op old mid v → HoldsWaysOf op mid new w → HoldsWaysOf op old new w
held_then op old mid new v w ways early late t has none = by_test (has_slot mid t) refl
  where
    by_test : (b : Bool) → has_slot mid t ≡ b → (x : Way) × Contains w.ways x × (x.slot ≡ t)
        × (k : Key) × (MayRead op k ⊎ MayWrite op k) × (in_span x.span k ≡ true)
    by_test true is = let x = early t is none in (x.0, ways x.0 x.1, x.2, x.3, x.4, x.5)
    by_test false is = late t has is

-- an operation may meet one at least
pub meets_one : (op : Op) → 1 ≤ meets_most op
meets_one (Read k) = omega arith
meets_one (Write k v) = omega arith
meets_one (Remove k) = omega arith
meets_one (Add k v) = omega arith
meets_one (Take k v) = omega arith
meets_one (Scan storage low high) = omega arith

-- nothing more was met
pub none_more : {A : Type 0} (P : A → Type 0) (most : ℕ) (old new : List A) → new ≡ old → HasMore A P most old new
none_more P most old new same = record {
  more = [];
  is = same ∙ sym (append-nil old);
  each = λ x has. absurd (in_none x has);
  few = omega arith;
}

-- one more was met
pub one_more : {A : Type 0} (P : A → Type 0) (most : ℕ) (old new : List A) (x : A) → 1 ≤ most → new ≡ old ++ x ∷ []
    → P x → HasMore A P most old new
one_more P most old new x le is so = record {
  more = x ∷ [];
  is = is;
  each = λ y has. elim (in_cases y x [] has) [
    | inl same ↦ subst P same so
    | inr later ↦ absurd (in_none y later)
  ];
  few = le;
}

-- no header was
pub heads_same : (w : View) (op : Op) (old new : List Seen) → new ≡ old → HeadsOnly w op old new
heads_same w op old new same = record {
  each = λ h has. inl (has_pointer old h (subst (λ (l : List Seen). Contains l h) same has));
  few = let n = ap (λ (l : List Seen). length l) same in omega (arith, n);
}

-- at most this key was read, and at most one pointer met
reads_key : (op : Op) (k : Key) (value : ℕ) (sets new : Sets) (v w : View) → MayRead op k → HasValue k value sets new v w
    → ReadsOnly v.layout.decls op sets.reads new.reads
reads_key op k value sets new v w may h = elim h.reads [
  | inl same ↦ none_more (IsReadBy v.layout.decls op) (meets_most op) sets.reads new.reads same
  | inr more ↦ one_more (IsReadBy v.layout.decls op) (meets_most op) sets.reads new.reads more.0 (meets_one op) more.2
      (inl (subst (MayRead op) (sym more.1) may))
]

meets_key : (op : Op) (k : Key) (value : ℕ) (sets new : Sets) (v w : View) → MayRead op k → HasValue k value sets new v w
    → MeetsOnly w op sets.pointers new.pointers
meets_key op k value sets new v w may h = elim h.pointers [
  | inl same ↦ none_more (IsPointerOf w op) (meets_most op) sets.pointers new.pointers same
  | inr more ↦ one_more (IsPointerOf w op) (meets_most op) sets.pointers new.pointers more.0 (meets_one op) more.1 (
    k,
    may,
    inl (subst (λ (l : Layout). IsWayPlace l k (more.0).at) (sym (walks_layout v w h.only)) more.2),
  )
]

-- the storage of the key is no tree
pub no_tree : (decls : List Decl) (k : Key) → AreDecls decls → IsArrayKey decls k → is_tree decls k.storage ≡ false
no_tree decls k are fits =
    false_from_ne_true (is_tree decls k.storage) (λ is.
    let r = any_is (is_tree_of k.storage) decls is in by_decl r.0 r.1 r.2)
  where
    by_decl : (d : Decl) → Contains decls d → is_tree_of k.storage d ≡ true → ⊥
    by_decl (Array id size) has test = true≢false (sym test)
    by_decl (Tree id) has test =
        let same : id ≡ k.storage = eqb-true id k.storage test in
        true≢false (sym fits.array
        ∙ (ap (λ (i : ℕ). is_array decls i) (sym same) ∙ ap is_array_kind (decl_in decls (Tree id) are.distinct has)))

pub own_read : (sets : Sets) (v : View) (k : Key) (value : Option ℕ) → IsLive sets v → IsArrayKey v.layout.decls k
    → value_of k sets.writes ≡ Some value → HasDone (Read k) (Some (Value (unwrap_or value 0))) sets sets v v
own_read sets v k value live fits is = record {
  live = live;
  only = nothing_walked v;
  paths = λ x has. inl has;
  held = none_held (Read k) sets.holds sets.holds v refl;
  reads = none_more (IsReadBy v.layout.decls (Read k)) (meets_most (Read k)) sets.reads sets.reads refl;
  pointers = none_more (IsPointerOf v (Read k)) (meets_most (Read k)) sets.pointers sets.pointers refl;
  headers = heads_same v (Read k) sets.headers sets.headers refl;
  joined = inl refl;
  locks = inl refl;
  writes = λ q has. inl has;
  grows = omega arith;
  keeps = λ q x had. had;
  turns = λ own same. (
    own,
    same,
    (
      value,
      own_seen v.seat.kept own sets.writes k value same is,
      ap (λ r. Continues (Some r) own) (array_reply value
          ∙ sym (ap (λ b. reply_of b value) (no_tree v.layout.decls k live.decls fits))),
    ),
  );
}

pub value_read : (sets new : Sets) (v w : View) (k : Key) (value : ℕ) → IsLive sets v → IsArrayKey v.layout.decls k
    → has_write k sets.writes ≡ false → HasValue k value sets new v w
    → HasDone (Read k) (Some (Value value)) sets new v w
value_read sets new v w k value live fits none h = record {
  live = h.live;
  only = h.only;
  paths = ways_of (Read k) k v w (inl refl) h.paths;
  held = held_of (Read k) k sets.holds new.holds w (inl refl) h.held;
  reads = reads_key (Read k) k value sets new v w refl h;
  pointers = meets_key (Read k) k value sets new v w refl h;
  headers = heads_same w (Read k) sets.headers new.headers h.headers;
  joined = inr (inl (k, refl));
  locks = inl h.touched;
  writes = λ q has. inl (subst (λ (l : List written_of.Write). has_write q l ≡ true) h.writes has);
  grows = omega (arith, ap (λ (l : List written_of.Write). length l) h.writes);
  keeps = h.keeps;
  turns = λ own same. (
    own,
    subst (λ l. AreWritesOf l own) (sym h.writes) same,
    (
      h.content,
      part_seen w.seat.kept own sets.writes k h.content same (value_none k sets.writes none) h.vouched,
      ap (λ r. Continues (Some r) own) (ap (λ n. Value n) h.value_is ∙ (array_reply h.content
          ∙ sym (ap (λ b. reply_of b h.content) (no_tree v.layout.decls k live.decls fits)))),
    ),
  );
}

-- ---- writes

-- of a key that was written
pub value_rewritten : (sets new : Sets) (v : View) (k : Key) (value : ℕ) → IsLive sets v → new.reads ≡ sets.reads
    → new.pointers ≡ sets.pointers → new.holds ≡ sets.holds → new.headers ≡ sets.headers
    → HasWritten k value sets.writes new.writes
    → AllByRecursion (IsWriteOf (ground v)) new.writes → HasDone (Write k value) None sets new v v
value_rewritten sets new v k value live reads pointers holds headers is all = record {
  live = same_live sets new v live reads pointers holds headers all;
  only = nothing_walked v;
  paths = λ x has. inl has;
  held = none_held (Write k value) sets.holds new.holds v holds;
  reads = none_more (IsReadBy v.layout.decls (Write k value)) 1 sets.reads new.reads reads;
  pointers = none_more (IsPointerOf v (Write k value)) 1 sets.pointers new.pointers pointers;
  headers = heads_same v (Write k value) sets.headers new.headers headers;
  joined = inl refl;
  locks = inl refl;
  writes = λ q has. writes_only k value sets.writes new.writes q is has;
  grows = is.grows;
  keeps = λ q x had. had;
  turns = λ own same. (wrote k (Some value) own, writes_more k value sets.writes new.writes own is same, refl);
}

-- of one whose record was brought up
pub value_brought : (sets mid new : Sets) (v w : View) (k : Key) (value at : ℕ) → has_write k sets.writes ≡ false
    → HasBrought k at sets mid v w → KeepsSets mid new
    → IsInserted (record { key = k; value = Some value; at = at }) mid.writes new.writes
    → HasDone (Write k value) None sets new v w
value_brought sets mid new v w k value at none h same is =
    let now : HasWritten k value mid.writes new.writes =
    inserted_writes k value at mid.writes new.writes is (subst (λ l. has_write k l ≡ false) (sym h.writes) none) in
    record {
      live = same_live mid new w h.live same.reads same.pointers same.holds same.headers
          (inserted_all (ground w) (record { key = k; value = Some value; at = at }) mid.writes new.writes is
          record { place = inl h.place; value = λ array. refl } h.live.writes);
      only = h.only;
      paths = ways_of (Write k value) k v w (inr refl) h.paths;
      held = subst (λ (l : List ℕ). HoldsWaysOf (Write k value) sets.holds l w) (sym same.holds)
          (held_of (Write k value) k sets.holds mid.holds w (inr refl) h.held);
      reads = none_more (IsReadBy v.layout.decls (Write k value)) 1 sets.reads new.reads (same.reads ∙ h.reads);
      pointers = none_more (IsPointerOf w (Write k value)) 1 sets.pointers new.pointers (same.pointers ∙ h.pointers);
      headers = heads_same w (Write k value) sets.headers new.headers (same.headers ∙ h.headers);
      joined = inl h.kept;
      locks = inl h.touched;
      writes = λ q has. subst (λ (l : List written_of.Write). (has_write q l ≡ true) ⊎ (k ≡ q)) h.writes
          (writes_only k value mid.writes new.writes q now has);
      grows = omega (arith, now.grows, ap (λ (l : List written_of.Write). length l) h.writes);
      keeps = λ q x had. subst (λ l. Vouched l q x) (sym h.kept) had;
      turns = λ own own-same. (
        wrote k (Some value) own,
        writes_more k value mid.writes new.writes own now (subst (λ l. AreWritesOf l own) (sym h.writes) own-same),
        refl,
      );
    }

-- the record that was brought up is none of those that are written
pub brought_apart : (sets mid : Sets) (v w : View) (k : Key) (at : ℕ) → has_write k sets.writes ≡ false
    → HasBrought k at sets mid v w → writes_at at mid.writes ≡ false
brought_apart sets mid v w k at none h =
    word_apart (ground w) k at mid.writes h.live.agree h.live.trees.known (inl h.place) h.live.writes
    (subst (λ l. has_write k l ≡ false) (sym h.writes) none)

-- ---- additions and subtractions

abbrev turned : By → Key → ℕ → List Change → Turn
turned (ways.Add amount) k before own = added k amount before own
turned (ways.Take amount) k before own = taken k amount before own

pub alter_turns : (by : By) (decls : List Decl) (parts : List Part) (own : List Change) (k : Key) (value : Option ℕ)
    → Sees parts own k value → Turns decls parts own (op_of k by) (turned by k (unwrap_or value 0) own)
alter_turns (ways.Add amount) decls parts own k value is = (value, is, refl)
alter_turns (ways.Take amount) decls parts own k value is = (value, is, refl)

pub goes_on : (by : By) (k : Key) (before value : ℕ) (own : List Change) → altered by before ≡ Some value
    → turned by k before own ≡ Continues None (wrote k (Some value) own)
goes_on (ways.Add amount) k before value own is =
    by_test (nat_lt (before + amount) (2 ^ 64)) is
  where
    by_test : (b : Bool) → cond b (Some (before + amount)) None ≡ Some value
        → cond b (Continues None (wrote k (Some (before + amount)) own)) (Stops Over)
        ≡ Continues None (wrote k (Some value) own)
    by_test true is = ap (λ n. Continues None (wrote k (Some n) own)) cc
    by_test false is = absurd cc
goes_on (ways.Take amount) k before value own is =
    by_test (nat_le amount before) is
  where
    by_test : (b : Bool) → cond b (Some (before - amount)) None ≡ Some value
        → cond b (Continues None (wrote k (Some (before - amount)) own)) (Stops Short)
        ≡ Continues None (wrote k (Some value) own)
    by_test true is = ap (λ n. Continues None (wrote k (Some n) own)) cc
    by_test false is = absurd cc

pub ends : (by : By) (k : Key) (before : ℕ) (own : List Change) → altered by before ≡ None
    → turned by k before own ≡ Stops (ended_by by)
ends (ways.Add amount) k before own is =
    by_test (nat_lt (before + amount) (2 ^ 64)) is
  where
    by_test : (b : Bool) → cond b (Some (before + amount)) None ≡ None
        → cond b (Continues None (wrote k (Some (before + amount)) own)) (Stops Over) ≡ Stops Over
    by_test true is = absurd cc
    by_test false is = refl
ends (ways.Take amount) k before own is =
    by_test (nat_le amount before) is
  where
    by_test : (b : Bool) → cond b (Some (before - amount)) None ≡ None
        → cond b (Continues None (wrote k (Some (before - amount)) own)) (Stops Short) ≡ Stops Short
    by_test true is = absurd cc
    by_test false is = refl

pub stops_so : (by : By) (op : Op) (sets new : Sets) (v w : View) → HasStopped op (ended_by by) sets new v w
    → Alters op (ended_by by) sets new v w
stops_so (ways.Add amount) op sets new v w h = h
stops_so (ways.Take amount) op sets new v w h = h

-- of a key that was written
pub own_altered : (by : By) (sets new : Sets) (v : View) (k : Key) (before : Option ℕ) (value : ℕ) → IsLive sets v
    → value_of k sets.writes ≡ Some before → altered by (unwrap_or before 0) ≡ Some value → new.reads ≡ sets.reads
    → new.pointers ≡ sets.pointers → new.holds ≡ sets.holds → new.headers ≡ sets.headers
    → HasWritten k value sets.writes new.writes → AllByRecursion (IsWriteOf (ground v)) new.writes
    → Alters (op_of k by) Done sets new v v
own_altered by sets new v k before value live is after reads pointers holds headers now all = record {
  live = same_live sets new v live reads pointers holds headers all;
  only = nothing_walked v;
  paths = λ x has. inl has;
  held = none_held (op_of k by) sets.holds new.holds v holds;
  reads = none_more (IsReadBy v.layout.decls (op_of k by)) (meets_most (op_of k by)) sets.reads new.reads reads;
  pointers = none_more (IsPointerOf v (op_of k by)) (meets_most (op_of k by)) sets.pointers new.pointers pointers;
  headers = heads_same v (op_of k by) sets.headers new.headers headers;
  joined = inl refl;
  locks = inl refl;
  writes = λ q has. may_write by k q (has_write q sets.writes ≡ true)
      (writes_only k value sets.writes new.writes q now has);
  grows = now.grows;
  keeps = λ q x had. had;
  turns = λ own same. (
    wrote k (Some value) own,
    writes_more k value sets.writes new.writes own now same,
    subst (Turns v.layout.decls v.seat.kept own (op_of k by)) (goes_on by k (unwrap_or before 0) value own after)
        (alter_turns by v.layout.decls v.seat.kept own k before (own_seen v.seat.kept own sets.writes k before same
        is)),
  );
}

pub own_ends : (by : By) (sets : Sets) (v : View) (k : Key) (before : Option ℕ) → IsLive sets v
    → value_of k sets.writes ≡ Some before → altered by (unwrap_or before 0) ≡ None
    → Alters (op_of k by) (ended_by by) sets sets v v
own_ends by sets v k before live is after = stops_so by (op_of k by) sets sets v v record {
  live = live;
  only = nothing_walked v;
  paths = λ x has. inl has;
  held = none_held (op_of k by) sets.holds sets.holds v refl;
  reads = none_more (IsReadBy v.layout.decls (op_of k by)) (meets_most (op_of k by)) sets.reads sets.reads refl;
  pointers = none_more (IsPointerOf v (op_of k by)) (meets_most (op_of k by)) sets.pointers sets.pointers refl;
  headers = heads_same v (op_of k by) sets.headers sets.headers refl;
  joined = inl refl;
  locks = inl refl;
  writes = λ q has. inl has;
  grows = omega arith;
  keeps = λ q x had. had;
  turns = λ own same.
      subst (Turns v.layout.decls v.seat.kept own (op_of k by)) (ends by k (unwrap_or before 0) own after)
      (alter_turns by v.layout.decls v.seat.kept own k before (own_seen v.seat.kept own sets.writes k before same is));
}

-- ---- of one whose record was brought up, and read then

module _ (by : By) (sets mid late : Sets) (u v w : View) (k : Key) (at before : ℕ) (none : has_write k sets.writes ≡ false)
    (b : HasBrought k at sets mid u v) (h : HasValue k before mid late v w) where
  only_both : OnlyWalked u w
  only_both = walks_then u v w b.only h.only

  paths_both : OnlyWaysOf (op_of k by) u w
  paths_both x has = elim (h.paths x has) [
    | inl early ↦ elim (b.paths x early) [ inl old ↦ inl old | inr over ↦ inr (k, inl (may_read by k), inl over) ]
    | inr over ↦ inr (k, inl (may_read by k), inl over)
  ]

  held_both : HoldsWaysOf (op_of k by) sets.holds late.holds w
  held_both =
      held_then (op_of k by) sets.holds mid.holds late.holds v w h.only.ways
      (held_of (op_of k by) k sets.holds mid.holds v (inl (may_read by k)) b.held)
      (held_of (op_of k by) k mid.holds late.holds w (inl (may_read by k)) h.held)

  writes_same : late.writes ≡ sets.writes
  writes_same = h.writes ∙ b.writes

  keeps_both : PartsStay u.seat.kept w.seat.kept
  keeps_both q x had = h.keeps q x (subst (λ l. Vouched l q x) (sym b.kept) had)

  reads_both : ReadsOnly u.layout.decls (op_of k by) sets.reads late.reads
  reads_both =
      subst (λ (y : Layout). ReadsOnly y.decls (op_of k by) sets.reads late.reads) (walks_layout u v b.only)
      (subst (λ (l : List ReadEntry). ReadsOnly v.layout.decls (op_of k by) l late.reads) b.reads
      (reads_key (op_of k by) k before mid late v w (may_read by k) h))

  meets_both : MeetsOnly w (op_of k by) sets.pointers late.pointers
  meets_both =
      subst (λ (l : List Seen). MeetsOnly w (op_of k by) l late.pointers) b.pointers
      (meets_key (op_of k by) k before mid late v w (may_read by k) h)

  headers_both : late.headers ≡ sets.headers
  headers_both = h.headers ∙ b.headers

  seen_both : (own : List Change) → AreWritesOf sets.writes own → Sees w.seat.kept own k h.content
  seen_both own same =
      part_seen w.seat.kept own sets.writes k h.content same (value_none k sets.writes none) h.vouched

  place_both : IsKeyAt w k at
  place_both = h.places k at b.place

  pub altered_apart : writes_at at late.writes ≡ false
  altered_apart =
      word_apart (ground w) k at late.writes h.live.agree h.live.trees.known (inl place_both) h.live.writes
      (subst (λ l. has_write k l ≡ false) (sym writes_same) none)

  pub brought_altered : (new : Sets) (value : ℕ) → altered by before ≡ Some value → KeepsSets late new
      → IsInserted (record { key = k; value = Some value; at = at }) late.writes new.writes
      → Alters (op_of k by) Done sets new u w
  brought_altered new value after same is =
      let now : HasWritten k value late.writes new.writes =
      inserted_writes k value at late.writes new.writes is (subst (λ l. has_write k l ≡ false) (sym writes_same) none) in
      record {
        live = same_live late new w h.live same.reads same.pointers same.holds same.headers
            (inserted_all (ground w) (record { key = k; value = Some value; at = at }) late.writes new.writes is
            record { place = inl place_both; value = λ array. refl } h.live.writes);
        only = only_both;
        paths = paths_both;
        held = subst (λ (l : List ℕ). HoldsWaysOf (op_of k by) sets.holds l w) (sym same.holds) held_both;
        reads = subst (λ (l : List ReadEntry). ReadsOnly u.layout.decls (op_of k by) sets.reads l) (sym same.reads)
            reads_both;
        pointers = subst (λ (l : List Seen). MeetsOnly w (op_of k by) sets.pointers l) (sym same.pointers) meets_both;
        headers = heads_same w (op_of k by) sets.headers new.headers (same.headers ∙ headers_both);
        joined = inr (inl (k, may_read by k));
        locks = inl (h.touched ∙ b.touched);
        writes = λ q has. may_write by k q (has_write q sets.writes ≡ true)
            (subst (λ (l : List written_of.Write). (has_write q l ≡ true) ⊎ (k ≡ q)) writes_same
            (writes_only k value late.writes new.writes q now has));
        grows = omega (arith, now.grows, ap (λ (l : List written_of.Write). length l) writes_same);
        keeps = keeps_both;
        turns = λ own own-same. (
          wrote k (Some value) own,
          writes_more k value late.writes new.writes own now (subst (λ l. AreWritesOf l own) (sym writes_same) own-same),
          subst (Turns u.layout.decls w.seat.kept own (op_of k by))
              (goes_on by k (unwrap_or h.content 0) value own (ap (altered by) (sym h.value_is) ∙ after))
              (alter_turns by u.layout.decls w.seat.kept own k h.content (seen_both own own-same)),
        );
      }

  pub brought_ends : altered by before ≡ None → Alters (op_of k by) (ended_by by) sets late u w
  brought_ends after = stops_so by (op_of k by) sets late u w record {
    live = h.live;
    only = only_both;
    paths = paths_both;
    held = held_both;
    reads = reads_both;
    pointers = meets_both;
    headers = heads_same w (op_of k by) sets.headers late.headers headers_both;
    joined = inr (inl (k, may_read by k));
    locks = inl (h.touched ∙ b.touched);
    writes = λ q has. inl (subst (λ (l : List written_of.Write). has_write q l ≡ true) writes_same has);
    grows = omega (arith, ap (λ (l : List written_of.Write). length l) writes_same);
    keeps = keeps_both;
    turns = λ own same.
        subst (Turns u.layout.decls w.seat.kept own (op_of k by))
        (ends by k (unwrap_or h.content 0) own (ap (altered by) (sym h.value_is) ∙ after))
        (alter_turns by u.layout.decls w.seat.kept own k h.content (seen_both own same));
  }
