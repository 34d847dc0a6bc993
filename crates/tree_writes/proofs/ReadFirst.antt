-- An operation that reads a key of a tree before it writes it: the pages on the way are brought into memory, the key is
-- read, and the place of its record is found or made.
use Rattle.std.proofs.Common.{◌≡◌, ◌⊎◌, inl, inr, ℕ, ◌+◌, ◌<◌, ◌≤◌, true, false, List, [], ◌∷◌, ◌++◌, length}
use Rattle.std.proofs.Common.{sym, ap, ◌∙◌, subst, arith, Option, None}
use Rattle.std.specs.Prelude.{Contains, ◌==◌}
use Rattle.std.specs.List.{AllByRecursion}
use Rattle.std.proofs.lemmas.Bool.{eqb-true}
use Rattle.lists.specs.Elements.{any_in, any_is, in_push_new}
use Rattle.serial_model.specs.declared.key.Key.{Key}
use Rattle.serial_model.specs.declared.number.Change.{Change}
use Rattle.serial_model.specs.declared.op.Op.{Op}
use Rattle.serial_model.specs.declared.reply.Verdict.{Verdict}
use Rattle.homes.specs.declared.places.At.{At}
use Rattle.homes.specs.declared.places.At.TheVariants.{Root, In}
use Rattle.homes.specs.declared.places.Span.{Span}
use Rattle.homes.specs.Homes.{same_key}
use Rattle.homes.specs.Laws.{same_key-self}
use Rattle.commit_core.specs.declared.part.Part.{Part}
use Rattle.serial_bridge.specs.Transaction.{wrote, Continues, Sees, Stops, Turns, Vouched}
use Rattle.tx_sets.specs.declared.reads.ReadEntry.{ReadEntry}
use Rattle.tx_sets.specs.declared.seen.Seen.{Seen}
use Rattle.tx_sets.specs.declared.sets.Sets.{Sets}
use Rattle.tx_sets.specs.declared.writes.Write.{Write}
use Rattle.tx_sets.specs.Entries.{has_read, has_word, has_write}
use Rattle.engine_pages.specs.declared.layout.Layout.{Layout}
use Rattle.engine_pages.specs.declared.view.View.{View}
use Rattle.engine_pages.specs.Layout.{page_at}
use Rattle.engine_pages.specs.Pages.{is_array, is_tree, root_span}
use Rattle.engine_pages.specs.Pointers.{IsPointerAt}
use Rattle.array_pages.specs.Walks.{IsWayPlace}
use Rattle.page_commit.specs.Keeping.{KeepsSets}
use Rattle.page_commit.specs.Live.{IsLive, IsWriteOf}
use Rattle.page_commit.specs.Places.{ground, slot_of}
use Rattle.page_commit.specs.Turning.{meets_most, AreWritesOf, HasDone, HasStopped, HeadsOnly, HoldsWaysOf}
use Rattle.page_commit.specs.Turning.{IsHeaderOver, IsPointerOver, IsReadBy, LocksOnly}
use Rattle.page_commit.specs.Turning.{MayRead, MayWrite, MeetsOnly, OnlyWalked, OnlyWaysOf, PartsOnly, PartsStay, ReadsOnly}
use Rattle.page_commit.proofs.TurnLaws.{none_more, one_more, same_live, walks_layout, walks_then}
use Rattle.page_commit.proofs.WriteLaws.{value_none}
use Rattle.tree_calls.specs.Keeping.{HasValue}
use Rattle.tree_calls.proofs.OpLaws.{heads_for, held_both, held_for, meets_for, reads_for, ways_both, ways_for}
use Rattle.tree_writes.specs.Writing.{HasBrought, HasMade}
use Rattle.tree_writes.proofs.ValueWrites.{put_more, put_only, HasPut}

-- What the transaction first read at the key, within an operation that reads it and may write it; nothing was written.
pub record ReadFirst (op : Op) (k : Key) (value : Option ℕ) (sets new : Sets) (v w : View) : Type 0 where
  pub live : IsLive new w
  pub only : OnlyWalked v w
  pub paths : OnlyWaysOf op v w
  pub held : HoldsWaysOf op sets.holds new.holds w
  pub reads : ReadsOnly v.layout.decls op sets.reads new.reads
  pub pointers : MeetsOnly w op sets.pointers new.pointers
  pub headers : HeadsOnly w op sets.headers new.headers
  pub joined : PartsOnly v.layout.decls op v.seat.kept w.seat.kept
  pub locks : LocksOnly v.layout.decls op v.touched w.touched
  pub writes : new.writes ≡ sets.writes
  pub keeps : PartsStay v.seat.kept w.seat.kept
  pub vouched : Vouched w.seat.kept k value

-- ---- what was met is still over its keys behind a walk

at_later : (v w : View) (x : At) (sp : Span) (at : ℕ) → OnlyWalked v w → IsPointerAt v x sp at → IsPointerAt w x sp at
at_later v w (Root r) sp at only p = (
  subst (λ (l : Layout). r < length l.decls) (sym (walks_layout v w only)) p.0,
  subst (λ (l : Layout). sp ≡ root_span l.decls r) (sym (walks_layout v w only)) p.1,
  p.2,
)
at_later v w (In y) sp at only (inl c) = inl (record {
  way = c.way;
  has = only.ways c.way c.has;
  slot = c.slot;
  kind = subst (λ (l : Layout). is_array l.decls c.way.span.storage ≡ true) (sym (walks_layout v w only)) c.kind;
  inner = c.inner;
  index = c.index;
  span = c.span;
  word = subst (λ (l : Layout). at ≡ page_at l.slots y.slot y.index) (sym (walks_layout v w only)) c.word;
})
at_later v w (In y) sp at only (inr b) = inr (record {
  way = b.way;
  has = only.ways b.way b.has;
  slot = b.slot;
  kind = subst (λ (l : Layout). is_tree l.decls b.way.span.storage ≡ true) (sym (walks_layout v w only)) b.kind;
  inner = b.inner;
  knows = only.inners b.inner b.knows;
  same = b.same;
  index = b.index;
  span = b.span;
  word = subst (λ (l : Layout). at ≡ page_at l.slots y.slot (4 + y.index)) (sym (walks_layout v w only)) b.word;
})

over_later : (v w : View) (k : Key) (at : ℕ) → OnlyWalked v w → IsPointerOver v k at → IsPointerOver w k at
over_later v w k at only (inl way) =
    inl (subst (λ (l : Layout). IsWayPlace l k at) (sym (walks_layout v w only)) way)
over_later v w k at only (inr t) = inr (record {
  place = t.place;
  span = t.span;
  is = at_later v w t.place t.span at only t.is;
  tree = subst (λ (l : Layout). is_tree l.decls k.storage ≡ true) (sym (walks_layout v w only)) t.tree;
  over = t.over;
})

meets_later : (op : Op) (old new : List Seen) (v w : View) → OnlyWalked v w → MeetsOnly v op old new
    → MeetsOnly w op old new
meets_later op old new v w only m = record {
  more = m.more;
  is = m.is;
  each = λ p has. let r = m.each p has in (r.0, r.1, over_later v w r.0 p.at only r.2);
  few = m.few;
}

head_later : (v w : View) (k : Key) (at : ℕ) → OnlyWalked v w → IsHeaderOver v k at → IsHeaderOver w k at
head_later v w k at only h = record {
  way = h.way;
  has = only.ways h.way h.has;
  slot = subst (λ (l : Layout). h.way.slot ≡ slot_of l.slots at) (sym (walks_layout v w only)) h.slot;
  tree = subst (λ (l : Layout). is_tree l.decls k.storage ≡ true) (sym (walks_layout v w only)) h.tree;
  over = h.over;
  word = subst (λ (l : Layout). at ≡ page_at l.slots h.way.slot 0) (sym (walks_layout v w only)) h.word;
}

-- the headers that a set had, with other words
heads_later : (op : Op) (old mid new : List Seen) (v w : View) → OnlyWalked v w → HeadsOnly v op old mid
    → ((h : Seen) → Contains new h → has_word h.at mid ≡ true) → length new ≡ length mid → HeadsOnly w op old new
heads_later op old mid new v w only m had same = record {
  each = λ h has.
      let q = any_is (λ (s : Seen). s.at == h.at) mid (had h has) in
      let at : q.0.at ≡ h.at = eqb-true q.0.at h.at q.2 in
      elim (m.each q.0 q.1) [
        | inl before ↦ inl (subst (λ (n : ℕ). has_word n old ≡ true) at before)
        | inr more ↦ inr (
          more.0,
          more.1,
          subst (λ (n : ℕ). IsHeaderOver w more.0 n) at (head_later v w more.0 q.0.at only more.2),
        )
      ];
  few = let n = m.few in omega (arith, n, same);
}

-- ---- the parts, behind one another

module _ (op : Op) (k : Key) (may : MayRead op k) (also : MayWrite op k) (one : 1 ≤ meets_most op) (value : Option ℕ)
    (sets mid late : Sets) (u v w : View) (m : HasMade k sets mid u v) (h : HasValue k value mid late v w) where
  reads_first : ReadsOnly u.layout.decls op sets.reads late.reads
  reads_first =
      subst (λ (y : Layout). ReadsOnly y.decls op sets.reads late.reads) (walks_layout u v m.only)
      (subst (λ (l : List ReadEntry). ReadsOnly v.layout.decls op l late.reads) m.reads
      (reads_for op k value mid late v w may one h))

  -- the key was read
  pub made_read : ReadFirst op k value sets late u w
  made_read = record {
    live = h.live;
    only = walks_then u v w m.only h.only;
    paths = ways_both op u v w h.only (ways_for op k u v (inl may) m.paths) (ways_for op k v w (inl may) h.paths);
    held = held_both op sets.holds mid.holds late.holds v w h.only
        (held_for op k sets.holds mid.holds v (inl may) m.held) (held_for op k mid.holds late.holds w (inl may) h.held);
    reads = reads_first;
    pointers = subst (λ (l : List Seen). MeetsOnly w op l late.pointers) m.pointers
        (meets_for op k value mid late v w may one h);
    headers = subst (λ (l : List Seen). HeadsOnly w op l late.headers) m.headers
        (heads_for op k w mid.headers late.headers may one h.headers);
    joined = inr (inl (k, may));
    locks = inl (h.touched ∙ m.touched);
    writes = h.writes ∙ m.writes;
    keeps = λ q x had. h.keeps q x (subst (λ (l : List Part). Vouched l q x) (sym m.kept) had);
    vouched = h.vouched;
  }

  -- the entry of a key that was read now is in the set
  has_entry : (e : ReadEntry) → e.key ≡ k → late.reads ≡ mid.reads ++ e ∷ [] → has_read k late.reads ≡ true
  has_entry e key is =
      subst (λ (l : List ReadEntry). has_read k l ≡ true) (sym is)
      (any_in (λ (r : ReadEntry). same_key r.key k) (mid.reads ++ e ∷ []) e (in_push_new e mid.reads)
      (ap (λ (q : Key). same_key q k) key ∙ same_key-self k))

  -- and its record was found or made: no entry joins behind that of the read
  pub brought_behind : (last : Sets) (x : View) (at : ℕ) → is_tree u.layout.decls k.storage ≡ true
      → HasBrought k at late last w x → (has_read k late.reads ≡ true → last.reads ≡ late.reads)
      → ReadFirst op k value sets last u x
  brought_behind last x at tree b again = record {
    live = b.live;
    only = walks_then u w x made_read.only b.only;
    paths = ways_both op u w x b.only made_read.paths (ways_for op k w x (inl may) b.paths);
    held = held_both op sets.holds late.holds last.holds w x b.only made_read.held
        (held_for op k late.holds last.holds x (inl may) b.held);
    reads = reads_behind;
    pointers = subst (λ (l : List Seen). MeetsOnly x op sets.pointers l) (sym b.pointers)
        (meets_later op sets.pointers late.pointers w x b.only made_read.pointers);
    headers = heads_later op sets.headers late.headers last.headers w x b.only made_read.headers b.headers b.heads;
    joined = inr (inl (k, may));
    locks = inr (k, also, tree);
    writes = b.writes ∙ made_read.writes;
    keeps = λ q y had. b.keeps q y (made_read.keeps q y had);
    vouched = b.keeps k value h.vouched;
  }
    where
      reads_behind : ReadsOnly u.layout.decls op sets.reads last.reads
      reads_behind = elim h.reads [
        | inl same ↦ elim b.reads [
          | inl kept ↦ none_more (IsReadBy u.layout.decls op) (meets_most op) sets.reads last.reads
              (kept ∙ (same ∙ m.reads))
          | inr new ↦ one_more (IsReadBy u.layout.decls op) (meets_most op) sets.reads last.reads new.0 one
              (new.3 ∙ ap (λ (l : List ReadEntry). l ++ new.0 ∷ []) (same ∙ m.reads))
              (inr (
                subst (MayWrite op) (sym new.1) also,
                subst (λ (q : Key). is_tree u.layout.decls q.storage ≡ true) (sym new.1) tree,
                new.2,
              ))
        ]
        | inr more ↦ one_more (IsReadBy u.layout.decls op) (meets_most op) sets.reads last.reads more.0 one
            (again (has_entry more.0 more.1 more.2)
            ∙ (more.2 ∙ ap (λ (l : List ReadEntry). l ++ more.0 ∷ []) m.reads))
            (inl (subst (MayRead op) (sym more.1) may))
      ]

-- ---- the operation

module _ (op : Op) (k : Key) (value : Option ℕ) (sets late : Sets) (v w : View) (r : ReadFirst op k value sets late v w) where
  -- what is seen of a key that wasn't written
  pub sees_first : (own : List Change) → has_write k sets.writes ≡ false → AreWritesOf sets.writes own
      → Sees w.seat.kept own k value
  sees_first own none same = inr (same k ∙ value_none k sets.writes none, r.vouched)

  writes_kept : (q : Key) → has_write q late.writes ≡ true → (has_write q sets.writes ≡ true) ⊎ MayWrite op q
  writes_kept q has = inl (subst (λ (l : List Write). has_write q l ≡ true) r.writes has)

  grows_none : length late.writes ≤ length sets.writes + 1
  grows_none = let n = ap (λ (l : List Write). length l) r.writes in omega (arith, n)

  -- nothing is written
  pub done_same : ((own : List Change) → AreWritesOf sets.writes own
      → Turns v.layout.decls w.seat.kept own op (Continues None own)) → HasDone op None sets late v w
  done_same turn = record {
    live = r.live;
    only = r.only;
    paths = r.paths;
    held = r.held;
    reads = r.reads;
    pointers = r.pointers;
    headers = r.headers;
    joined = r.joined;
    locks = r.locks;
    writes = writes_kept;
    grows = grows_none;
    keeps = r.keeps;
    turns = λ own same. (own, subst (λ (l : List Write). AreWritesOf l own) (sym r.writes) same, turn own same);
  }

  -- the transaction ends
  pub stops_behind : (verdict : Verdict) → ((own : List Change) → AreWritesOf sets.writes own
      → Turns v.layout.decls w.seat.kept own op (Stops verdict)) → HasStopped op verdict sets late v w
  stops_behind verdict turn = record {
    live = r.live;
    only = r.only;
    paths = r.paths;
    held = r.held;
    reads = r.reads;
    pointers = r.pointers;
    headers = r.headers;
    joined = r.joined;
    locks = r.locks;
    writes = writes_kept;
    grows = grows_none;
    keeps = r.keeps;
    turns = turn;
  }

  -- this is written at the key, a value or its removal
  pub done_put : (put : Option ℕ) (new : Sets) → MayWrite op k → KeepsSets late new
      → AllByRecursion (IsWriteOf (ground w)) new.writes → HasPut k put late.writes new.writes
      → ((own : List Change) → AreWritesOf sets.writes own
      → Turns v.layout.decls w.seat.kept own op (Continues None (wrote k put own))) → HasDone op None sets new v w
  done_put put new also same all now turn = record {
    live = same_live late new w r.live same.reads same.pointers same.holds same.headers all;
    only = r.only;
    paths = r.paths;
    held = subst (λ (l : List ℕ). HoldsWaysOf op sets.holds l w) (sym same.holds) r.held;
    reads = subst (λ (l : List ReadEntry). ReadsOnly v.layout.decls op sets.reads l) (sym same.reads) r.reads;
    pointers = subst (λ (l : List Seen). MeetsOnly w op sets.pointers l) (sym same.pointers) r.pointers;
    headers = subst (λ (l : List Seen). HeadsOnly w op sets.headers l) (sym same.headers) r.headers;
    joined = r.joined;
    locks = r.locks;
    writes = λ q has. elim (put_only k put late.writes new.writes q now has) [
      | inl old ↦ writes_kept q old
      | inr is ↦ inr (subst (MayWrite op) is also)
    ];
    grows =
        let n = now.grows in
        let m = ap (λ (l : List Write). length l) r.writes in
        omega (arith, n, m);
    keeps = r.keeps;
    turns = λ own own-same. (
      wrote k put own,
      put_more k put late.writes new.writes own now
          (subst (λ (l : List Write). AreWritesOf l own) (sym r.writes) own-same),
      turn own own-same,
    );
  }
