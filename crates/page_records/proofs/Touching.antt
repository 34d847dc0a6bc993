-- What steps on a record leave of who is in the way.
use Rattle.std.proofs.Common.{◌≡◌, ◌≢◌, ◌⊎◌, inl, inr, ℕ, suc, ◌+◌, ◌*◌, ◌<◌, ◌≤◌, ◌^◌, true, true≢false, not}
use Rattle.std.proofs.Common.{List, get_or, refl, sym, ap, ◌∙◌, subst, arith}
use Rattle.std.specs.Prelude.{◌&&◌, filter}
use Rattle.std.specs.List.{Contains}
use Rattle.std.proofs.lemmas.Bool.{and_parts, false_from_ne_true, not_from_false}
use Rattle.lists.specs.Elements.{any_in, any_is, any_push_cases, filter_only, in_filter, in_filtered}
use Rattle.serial_model.specs.declared.key.Key.{Key}
use Rattle.homes.specs.declared.places.Holder.{Holder}
use Rattle.homes.specs.declared.places.Holder.TheVariants.{Free, Held, Dead}
use Rattle.homes.specs.declared.places.Home.TheVariants.{InSlot}
use Rattle.homes.specs.declared.places.Spot.{Spot}
use Rattle.homes.specs.Homes.{has_key, same_key, same_spot}
use Rattle.homes.specs.Laws.{same_key-self, same_key-true, same_spot-true}
use Rattle.commit_core.specs.Places.{home_of, holder_is}
use Rattle.engine_pages.specs.declared.layout.Layout.{Layout}
use Rattle.engine_pages.specs.declared.view.Read.{Read}
use Rattle.engine_pages.specs.declared.view.Took.{Took}
use Rattle.engine_pages.specs.declared.view.View.{View}
use Rattle.engine_pages.specs.Layout.{page_at}
use Rattle.engine_pages.specs.Records.{IsRecordAt, IsRecordIn}
use Rattle.engine_pages.specs.Rule.{Shared, RecordStands}
use Rattle.engine_pages.specs.Steps.{kept_at, seen_at, with_read}
use Rattle.engine_pages.specs.Touches.{Touched, has_took, takes, touch}
use Rattle.engine_pages.specs.Views.{seat_number}
use Rattle.engine_pages.specs.Words.{lock_field}
use Rattle.engine_pages.proofs.Dealing.{SameLocks, blamed, faces, meets, stands_at, way_there}
use Rattle.engine_pages.proofs.Facing.{Deals, IsNoted, facing_aside, facing_lock, facing_open, is_own_touch, takes_push}
use Rattle.engine_pages.proofs.Facing.{takes_same}
use Rattle.engine_pages.proofs.Leaves.{IsWordOf, none_behind, one_record}
use Rattle.engine_pages.proofs.Seats.{by_equal}
use Rattle.engine_pages.proofs.Turns.{Begins, Written}
use Rattle.page_records.specs.Locks.{lock_bit, locked, not_at, opened, put_at, took_at}
use Rattle.page_records.proofs.Leaves.{here, stands, word_is}
use Rattle.page_records.proofs.Settling.{settled_locks}

-- a word that is met once more
pub met_read : (reads : List Read) (at n : ℕ) → IsNoted reads (with_read reads at n) at n
met_read reads at n = record {
  new = record { word = at; seen = n; was = seen_at reads at; kept = kept_at reads at };
  word = refl;
  seen = refl;
  was = refl;
  is = refl;
}

-- the word of a record that somebody holds has the lock bit
pub held_high : (n p : ℕ) (h : Holder) → holder_is p h ≡ true → 2 ^ 60 ≤ n + lock_field h
held_high n p Free held = absurd (true≢false (sym held))
held_high n p (Held q) held = omega arith
held_high n p Dead held = omega arith

-- a lock that is left as one key's is opened is another key's
pub other_lock : (k j : Key) (locks : List Key) → has_key (filter (λ y. not (same_key y k)) locks) j ≡ true
    → (has_key locks j ≡ true) × (j ≢ k)
other_lock k j locks has =
    let r = any_is (λ (y : Key). same_key y j) (filter (λ y. not (same_key y k)) locks) has in
    let is : r.0 ≡ j = same_key-true r.0 j r.2 in (
      any_in (λ (y : Key). same_key y j) locks r.0 (in_filter (λ (y : Key). not (same_key y k)) r.0 locks r.1) r.2,
      (λ e. true≢false (sym (filter_only (λ (y : Key). not (same_key y k)) r.0 locks r.1)
          ∙ ap not (ap (λ (y : Key). same_key y k) (is ∙ e) ∙ same_key-self k))),
    )

module _ (l : Layout) (words : List ℕ) (views : List View) (s : Shared) (id : ℕ) (v : View)
    (b : Begins l words views s id v) (k : Key) (x : Spot) (at : ℕ) (is : IsRecordAt v k x at) where
  abbrev p : ℕ
  p = seat_number v.role

  -- one of the record's words is met as it stands
  pub meet_deals : (w : View) (j : ℕ) → at ≤ j → j ≤ at + 1 → SameLocks v w → w.reads ≡ with_read v.reads j (get_or words j 0)
      → Deals l words words s p views v w
  meet_deals w j from to same reads =
      meets l words views s id v b w j same
      (subst (λ (z : List Read). IsNoted v.reads z j (get_or words j 0)) (sym reads) (met_read v.reads j (get_or words j 0)))
      (λ t i less few word gone.
      way_there l words views s id v b k x at (here l words views s id v b k x at is) j from to t i less few word gone)

  -- records whose word stands there are this one
  one_here : (q : Key) (y : Spot) → RecordStands l s q y at → (q ≡ k) × (y ≡ x)
  one_here q y r = one_record l words views s b.sound k q x y at (stands l words views s id v b k x at is) r

  own_touch : (n : ℕ) (q : Key) → q ≡ k → 1 ≤ takes p q (locked k x at n v)
  own_touch n q same =
      subst (λ (z : Key). 1 ≤ takes p z (locked k x at n v)) (sym same)
      (omega (arith, takes_push p k (touch p k) v (locked k x at n v) refl, is_own_touch p k))

  -- the record is locked
  pub lock_deals : (n : ℕ) (words' : List ℕ) → Written words words' at (n + lock_bit)
      → Deals l words words' s p views v (locked k x at n v)
  lock_deals n words' wr = record {
    touched = λ q j. omega (arith, takes_push q j (touch p k) v (locked k x at n v) refl);
    locks = λ j has. elim (any_push_cases (λ (z : Key). same_key z j) v.seat.locks k has) [
      | inl old ↦ inl old
      | inr new ↦ inr (own_touch n j (sym (same_key-true k j new)))
    ];
    changes = λ j y i r. by_equal i at
        (λ z. RecordStands l s j y z → (get_or words' z 0 ≡ get_or words z 0)
        ⊎ ((has_key v.seat.locks j ≡ true) ⊎ (1 ≤ takes p j (locked k x at n v))))
        (λ same. inr (inr (own_touch n j (one_here j y same).0)))
        (λ other _. inl (wr.others i other)) r;
    facing = λ worker role.
        facing_lock l words (Touched views) (suc worker) v.ways v.took v.reads v.gone at (faces l words views s id v b worker role)
        words' (took_at k x n) (with_read v.reads at (n + lock_bit)) (n + lock_bit) (met_read v.reads at (n + lock_bit))
        (λ t i less few word gone.
        way_there l words views s id v b k x at (here l words views s id v b k x at is) at (omega arith) (omega arith) t i less few
        word gone)
        (λ q y there. one_here q y (stands_at l words views s id v b q y at there)) (omega arith)
        (λ q y j there other. wr.others j other) wr.here;
    blamed = blamed l words views s id v b;
  }

  -- it is opened
  pub open_deals : (n found : ℕ) (words' : List ℕ) → Written words words' at n → n < 2 ^ 60
      → Contains v.took (took_at k x found) → has_key v.seat.locks k ≡ true → 2 ^ 60 ≤ get_or words at 0
      → Deals l words words' s p views v (opened k at n v)
  open_deals n found words' wr small took mine high = record {
    touched = λ q j. omega (arith, takes_same q j v (opened k at n v) refl);
    locks = λ j has.
        inl (other_lock k j v.seat.locks
        (subst (λ (z : List Key). has_key z j ≡ true) (settled_locks (record v.seat { locks = filter (λ y. not (same_key y k)) v.seat.locks })) has)).0;
    changes = λ j y i r. by_equal i at
        (λ z. RecordStands l s j y z → (get_or words' z 0 ≡ get_or words z 0)
        ⊎ ((has_key v.seat.locks j ≡ true) ⊎ (1 ≤ takes p j (opened k at n v))))
        (λ same. inr (inl (subst (λ (q : Key). has_key v.seat.locks q ≡ true) (sym (one_here j y same).0) mine)))
        (λ other _. inl (wr.others i other)) r;
    facing = λ worker role.
        facing_open l words (Touched views) (suc worker) v.ways v.took v.reads v.gone at (faces l words views s id v b worker role)
        words' (not_at k v.took) (with_read v.reads at n) n (met_read v.reads at n)
        (λ t i less few word gone.
        way_there l words views s id v b k x at (here l words views s id v b k x at is) at (omega arith) (omega arith) t i less few
        word gone)
        (λ q y j there other has. still_took q y j there other has) high small (λ q y j there other. wr.others j other) wr.here;
    blamed = blamed l words views s id v b;
  }
    where
      -- a lock at another place is of another key
      still_took : (q : Key) (y : Spot) (j : ℕ) → IsRecordIn l.decls l.slots v.ways q y j → j ≢ at
          → has_took v.took q y ≡ true → has_took (not_at k v.took) q y ≡ true
      still_took q y j there other has =
          let r = any_is (λ (t : Took). same_key t.key q && same_spot t.spot y) v.took has in
          let both = and_parts (same_key (r.0).key q) (same_spot (r.0).spot y) r.2 in
          let place : (r.0).spot ≡ y = same_spot-true (r.0).spot y both.1 in
          any_in (λ (t : Took). same_key t.key q && same_spot t.spot y) (not_at k v.took) r.0
          (in_filtered (λ (t : Took). not (same_key t.key k)) r.0 v.took r.1
          (not_from_false (same_key (r.0).key k) (false_from_ne_true (same_key (r.0).key k) (λ hit.
          other (same_place y j there (same_home r.0 r.1 (same_key-true (r.0).key k hit) ∙ place)))))) r.2
        where
          same_home : (t : Took) → Contains v.took t → t.key ≡ k → x ≡ t.spot
          same_home t among key =
              let held = b.own.took t among in
              let mine-at = b.own.took (took_at k x found) took in
              let homes : InSlot mine-at.0 ≡ InSlot held.0 =
              sym mine-at.1.home ∙ (ap (home_of s.story.homes) (sym key) ∙ held.1.home) in
              let same : mine-at.0 ≡ held.0 = cc in mine-at.1.spot ∙ (same ∙ sym held.1.spot)

          same_place : (y : Spot) (j : ℕ) → IsRecordIn l.decls l.slots v.ways q y j → x ≡ y → j ≡ at
          same_place y j there same =
              there.word
              ∙ (ap (λ (z : Spot). page_at l.slots z.slot (2 * z.index)) (sym same)
              ∙ sym (word_is l words views s id v b k x at is).word)

  -- a value is put
  pub put_deals : (value : ℕ) (words' : List ℕ) → Written words words' (at + 1) value
      → Deals l words words' s p views v (put_at k (at + 1) value v)
  put_deals value words' wr = record {
    touched = λ q j. omega (arith, takes_same q j v (put_at k (at + 1) value v) refl);
    locks = λ j has. inl has;
    changes = λ j y i r. inl (wr.others i (apart y i record { slot = r.within; within = r.index; word = r.word }));
    facing = λ worker role.
        facing_aside l words (Touched views) (suc worker) v.ways v.took v.reads v.gone (at + 1)
        (faces l words views s id v b worker role) words' (with_read v.reads (at + 1) value) value (met_read v.reads (at + 1) value)
        (λ q y there. apart y (at + 1) record { slot = there.there; within = there.index; word = there.word } refl)
        (λ q y j there other. wr.others j other)
        (λ t i less few word gone.
        way_there l words views s id v b k x at (here l words views s id v b k x at is) (at + 1) (omega arith) (omega arith) t i
        less few word gone);
    blamed = blamed l words views s id v b;
  }
    where
      apart : (y : Spot) (i : ℕ) → IsWordOf l.slots y i → i ≢ at + 1
      apart y i word same =
          none_behind l.slots x y at (word_is l words views s id v b k x at is) (subst (λ j. IsWordOf l.slots y j) same word)
