-- What steps on records leave of who is in the way: a record of a tree is in nobody's way, as far as that is told.
use Rattle.std.proofs.Common.{◌≡◌, inl, inr, ℕ, suc, ◌+◌, ◌*◌, ◌<◌, ◌≤◌, ◌^◌, true, false, true≢false, not}
use Rattle.std.proofs.Common.{List, [], ◌∷◌, ◌++◌, get_or, refl, sym, ap, ◌∙◌, subst, arith, Some, None}
use Rattle.std.specs.Prelude.{◌&&◌, filter}
use Rattle.std.specs.List.{Contains}
use Rattle.std.proofs.lemmas.Bool.{and_parts, false_from_ne_true, not_from_false}
use Rattle.lists.specs.Elements.{any_in, any_is, any_push_cases, any_push_old, in_filtered}
use Rattle.serial_model.specs.declared.key.Key.{Key}
use Rattle.homes.specs.declared.places.Spot.{Spot}
use Rattle.homes.specs.Homes.{has_key, same_key, same_spot}
use Rattle.homes.specs.Laws.{same_key-true}
use Rattle.commit_core.specs.Places.{holder_is, place_of}
use Rattle.drop_core.specs.Table.{has_slot}
use Rattle.engine_pages.specs.declared.layout.Layout.{Layout}
use Rattle.engine_pages.specs.declared.view.Read.{Read}
use Rattle.engine_pages.specs.declared.view.Took.{Took}
use Rattle.engine_pages.specs.declared.view.View.{View}
use Rattle.engine_pages.specs.declared.view.Way.{Way}
use Rattle.engine_pages.specs.Layout.{page_at}
use Rattle.engine_pages.specs.Pages.{Fenced, is_array}
use Rattle.engine_pages.specs.Records.{IsAnyRecordAt, IsRecordIn, IsTreeRecordAt}
use Rattle.engine_pages.specs.Rule.{Shared, RecordStands}
use Rattle.engine_pages.specs.Steps.{with_read}
use Rattle.engine_pages.specs.Touches.{Touched, has_took, takes, touch}
use Rattle.engine_pages.specs.Views.{seat_number}
use Rattle.engine_pages.proofs.Dealing.{SameLocks, blamed, faces, meets, stands_at}
use Rattle.engine_pages.proofs.Facing.{Deals, IsNoted, facing_aside, facing_own, is_own_touch, takes_push, takes_same}
use Rattle.engine_pages.proofs.Leaves as arrays
use Rattle.engine_pages.proofs.Turns.{Begins, Written}
use Rattle.page_records.specs.Locks.{lock_bit, locked, not_at, opened, put_at, took_at}
use Rattle.wire_form.specs.Words.{number_word}
use Rattle.page_records.proofs.AnyRecord.{any_stands}
use Rattle.page_records.proofs.Leaves as leaves
use Rattle.page_records.proofs.Settling.{settled_locks}
use Rattle.page_records.proofs.Touching.{held_high, lock_deals, meet_deals, met_read, open_deals, other_lock, put_deals}
use Rattle.page_records.proofs.TreeLeaves as trees

-- ---- records of trees

module _ (l : Layout) (words : List ℕ) (views : List View) (s : Shared) (id : ℕ) (v : View)
    (b : Begins l words views s id v) (k : Key) (x : Spot) (at : ℕ) (is : IsTreeRecordAt v k x at) where
  abbrev p : ℕ
  p = seat_number v.role

  -- the pass has a way into its page
  way_in : (j : ℕ) → at ≤ j → j ≤ at + 1 → (t i : ℕ) → t < l.slots → i < 64 → j ≡ page_at l.slots t i
      → has_slot v.gone t ≡ false → (y : Way) × Contains v.ways y × (y.slot ≡ t)
  way_in j from to t i less few word gone =
      let here = trees.here l words views s id v b k x at is in
      let place : at ≡ page_at l.slots x.slot (17 + 3 * x.index) = trees.word_is l words views s id v b k x at is in
      let index : x.index < 16 = here.index in
      let same : x.slot ≡ t = omega arith in (here.way, here.has, here.slot ∙ same)

  -- no array's record has one of its words
  no_array : (j : ℕ) → at ≤ j → j ≤ at + 1 → (q : Key) (y : Spot) → RecordStands l s q y j → ⊥
  no_array j from to q y r =
      let place : at ≡ page_at l.slots x.slot (17 + 3 * x.index) = trees.word_is l words views s id v b k x at is in
      let index : x.index < 16 = (trees.here l words views s id v b k x at is).index in
      let other : j ≡ page_at l.slots y.slot (2 * y.index) = r.word in
      let few : y.index < 32 = r.index in
      let same : x.slot ≡ y.slot = omega arith in
      no_some (trees.fence l words views s id v b k x at is)
      (sym (trees.tree_is l words views s id v b k x at is) ∙ (ap s.trees same ∙ arrays.tree_is l words views s b.sound q y j r))
    where
      no_some : (f : Fenced) → Some f ≡ None → ⊥
      no_some f e = absurd (cc)

  none_there : (j : ℕ) → at ≤ j → j ≤ at + 1 → (q : Key) (y : Spot) → IsRecordIn l.decls l.slots v.ways q y j → ⊥
  none_there j from to q y there = no_array j from to q y (stands_at l words views s id v b q y j there)

  tree_meet : (w : View) (j : ℕ) → at ≤ j → j ≤ at + 1 → SameLocks v w → w.reads ≡ with_read v.reads j (get_or words j 0)
      → Deals l words words s p views v w
  tree_meet w j from to same reads =
      meets l words views s id v b w j same
      (subst (λ (z : List Read). IsNoted v.reads z j (get_or words j 0)) (sym reads) (met_read v.reads j (get_or words j 0)))
      (way_in j from to)

  -- a store at its word leaves those of arrays' records
  still : (words' : List ℕ) (n : ℕ) → Written words words' at n → (q : Key) (y : Spot) (i : ℕ) → RecordStands l s q y i
      → get_or words' i 0 ≡ get_or words i 0
  still words' n wr q y i r =
      wr.others i (λ e. no_array i (omega arith) (omega arith) q y r)

  tree_lock : (n : ℕ) (words' : List ℕ) → Written words words' at (n + lock_bit)
      → Deals l words words' s p views v (locked k x at n v)
  tree_lock n words' wr = record {
    touched = λ q j. omega (arith, takes_push q j (touch p k) v (locked k x at n v) refl);
    locks = λ j has. elim (any_push_cases (λ (z : Key). same_key z j) v.seat.locks k has) [
      | inl old ↦ inl old
      | inr new ↦ inr (own_touch j (sym (same_key-true k j new)))
    ];
    changes = λ j y i r. inl (still words' (n + lock_bit) wr j y i r);
    facing = λ worker role.
        facing_own l words words' (Touched views) (suc worker) v.ways v.took (v.took ++ took_at k x n ∷ []) v.reads
        (with_read v.reads at (n + lock_bit)) v.gone at (n + lock_bit) (met_read v.reads at (n + lock_bit))
        (λ q y j there other. wr.others j other)
        (λ q y j there other mine.
        any_push_old (λ (z : Took). same_key z.key q && same_spot z.spot y) v.took (took_at k x n) mine) record {
          page = way_in at (omega arith) (omega arith);
          locked = λ q y there high. absurd (none_there at (omega arith) (omega arith) q y there);
          stands = λ q y there. absurd (none_there at (omega arith) (omega arith) q y there);
          unlike = λ q y m there here seen small low other.
              absurd (none_there at (omega arith) (omega arith) q y there);
        } (faces l words views s id v b worker role);
    blamed = blamed l words views s id v b;
  }
    where
      own_touch : (j : Key) → j ≡ k → 1 ≤ takes p j (locked k x at n v)
      own_touch j same =
          subst (λ (z : Key). 1 ≤ takes p z (locked k x at n v)) (sym same)
          (omega (arith, takes_push p k (touch p k) v (locked k x at n v) refl, is_own_touch p k))

  tree_open : (n : ℕ) (words' : List ℕ) → Written words words' at n → Deals l words words' s p views v (opened k at n v)
  tree_open n words' wr = record {
    touched = λ q j. omega (arith, takes_same q j v (opened k at n v) refl);
    locks = λ j has.
        inl (other_lock k j v.seat.locks
        (subst (λ (z : List Key). has_key z j ≡ true)
        (settled_locks (record v.seat { locks = filter (λ y. not (same_key y k)) v.seat.locks })) has)).0;
    changes = λ j y i r. inl (still words' n wr j y i r);
    facing = λ worker role.
        facing_own l words words' (Touched views) (suc worker) v.ways v.took (not_at k v.took) v.reads
        (with_read v.reads at n) v.gone at n (met_read v.reads at n) (λ q y j there other. wr.others j other)
        (λ q y j there other mine. still_took q y j there mine) record {
          page = way_in at (omega arith) (omega arith);
          locked = λ q y there high. absurd (none_there at (omega arith) (omega arith) q y there);
          stands = λ q y there. absurd (none_there at (omega arith) (omega arith) q y there);
          unlike = λ q y m there here seen small low other.
              absurd (none_there at (omega arith) (omega arith) q y there);
        } (faces l words views s id v b worker role);
    blamed = blamed l words views s id v b;
  }
    where
      -- a lock of an array's key is of another one
      still_took : (q : Key) (y : Spot) (j : ℕ) → IsRecordIn l.decls l.slots v.ways q y j
          → has_took v.took q y ≡ true → has_took (not_at k v.took) q y ≡ true
      still_took q y j there has =
          let r = any_is (λ (t : Took). same_key t.key q && same_spot t.spot y) v.took has in
          let both = and_parts (same_key (r.0).key q) (same_spot (r.0).spot y) r.2 in
          let array : is_array l.decls q.storage ≡ true =
          arrays.array_is l words views s b.sound q y j (stands_at l words views s id v b q y j there) in
          any_in (λ (t : Took). same_key t.key q && same_spot t.spot y) (not_at k v.took) r.0
          (in_filtered (λ (t : Took). not (same_key t.key k)) r.0 v.took r.1
          (not_from_false (same_key (r.0).key k) (false_from_ne_true (same_key (r.0).key k) (λ hit.
          true≢false (sym array
          ∙ (ap (λ (z : Key). is_array l.decls z.storage) (sym (same_key-true (r.0).key q both.0) ∙ same_key-true (r.0).key k hit)
          ∙ trees.no_array_is l words views s id v b k x at is)))))) r.2

  tree_put : (value : ℕ) (words' : List ℕ) → Written words words' (at + 1) value
      → Deals l words words' s p views v (put_at k (at + 1) value v)
  tree_put value words' wr = record {
    touched = λ q j. omega (arith, takes_same q j v (put_at k (at + 1) value v) refl);
    locks = λ j has. inl has;
    changes = λ j y i r. inl (wr.others i (λ e. no_array i (omega arith) (omega arith) j y r));
    facing = λ worker role.
        facing_aside l words (Touched views) (suc worker) v.ways v.took v.reads v.gone (at + 1)
        (faces l words views s id v b worker role) words' (with_read v.reads (at + 1) value) value
        (met_read v.reads (at + 1) value) (none_there (at + 1) (omega arith) (omega arith))
        (λ q y j there other. wr.others j other) (way_in (at + 1) (omega arith) (omega arith));
    blamed = blamed l words views s id v b;
  }

-- ---- any records

module _ (l : Layout) (words : List ℕ) (views : List View) (s : Shared) (id : ℕ) (v : View)
    (b : Begins l words views s id v) (k : Key) (x : Spot) (at : ℕ) where
  abbrev seat : ℕ
  seat = seat_number v.role

  -- one of the record's words is met as it stands
  pub any_meet : IsAnyRecordAt v k x at → (w : View) (j : ℕ) → at ≤ j → j ≤ at + 1 → SameLocks v w
      → w.reads ≡ with_read v.reads j (get_or words j 0) → Deals l words words s seat views v w
  any_meet (inl is) w j from to same reads = meet_deals l words views s id v b k x at is w j from to same reads
  any_meet (inr is) w j from to same reads = tree_meet l words views s id v b k x at is w j from to same reads

  -- the record is locked
  pub any_lock : IsAnyRecordAt v k x at → (n : ℕ) (words' : List ℕ) → Written words words' at (n + lock_bit)
      → Deals l words words' s seat views v (locked k x at n v)
  any_lock (inl is) n words' wr = lock_deals l words views s id v b k x at is n words' wr
  any_lock (inr is) n words' wr = tree_lock l words views s id v b k x at is n words' wr

  -- it is opened
  pub any_open : IsAnyRecordAt v k x at → (n found : ℕ) (words' : List ℕ) → Written words words' at n
      → (is_array l.decls k.storage ≡ true → n < 2 ^ 60) → Contains v.took (took_at k x found)
      → has_key v.seat.locks k ≡ true → holder_is seat (place_of s.story.places x).holder ≡ true
      → Deals l words words' s seat views v (opened k at n v)
  any_open (inl is) n found words' wr small took mine held =
      let stands = any_stands l words views s id v b k x at (inl is) in
      let high : 2 ^ 60 ≤ get_or words at 0 =
      let up = held_high (number_word (place_of s.story.places x).content.number) seat (place_of s.story.places x).holder held in
      let word = stands.word in omega arith in
      open_deals l words views s id v b k x at is n found words' wr
      (small (leaves.array_is l words views s id v b k x at is)) took mine high
  any_open (inr is) n found words' wr small took mine held = tree_open l words views s id v b k x at is n words' wr

  -- a value is put
  pub any_put : IsAnyRecordAt v k x at → (value : ℕ) (words' : List ℕ) → Written words words' (at + 1) value
      → Deals l words words' s seat views v (put_at k (at + 1) value v)
  any_put (inl is) value words' wr = put_deals l words views s id v b k x at is value words' wr
  any_put (inr is) value words' wr = tree_put l words views s id v b k x at is value words' wr
