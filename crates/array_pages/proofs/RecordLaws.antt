-- What it comes to that a record is read in its page.
use Rattle.std.proofs.Common.{◌≡◌, ◌≢◌, inl, inr, ℕ, ◌+◌, ◌-◌, ◌*◌, ◌/◌, ◌%◌, ◌^◌, ◌<◌, ◌≤◌, Bool, true, false}
use Rattle.std.proofs.Common.{cond, List, [], refl, sym, ap, ◌∙◌, subst, arith, Option, Some}
use Rattle.std.specs.Prelude.{nat_lt, filter, not, Ok, Err, MatchBool}
use Rattle.std.specs.List.{Contains}
use Rattle.std.proofs.lemmas.Bool.{and_parts}
use Rattle.lists.specs.Elements.{in_push_new}
use Rattle.lists.specs.Fronts.{front_refl}
use Rattle.serial_model.specs.declared.key.Key.{Key}
use Rattle.homes.specs.declared.places.Content.{Content}
use Rattle.homes.specs.declared.places.Spot.{Spot}
use Rattle.homes.specs.Homes.{has_key, in_span, same_key}
use Rattle.homes.specs.Laws.{in_span-parts, same_key-self}
use Rattle.commit_core.specs.declared.attempt.Attempt.{Attempt}
use Rattle.serial_model.specs.declared.number.Number.{Number}
use Rattle.commit_core.specs.declared.part.Part.{Part}
use Rattle.commit_core.specs.declared.part.Word.TheVariants.{Record}
use Rattle.commit_core.specs.Keys.{nothing}
use Rattle.commit_core.specs.Parts.{covers, only, record_part, same_word, with_part, Vouches}
use Rattle.commit_core.specs.Serial.{last_write}
use Rattle.engine_pages.specs.declared.view.RefusalCause.TheVariants as causes
use Rattle.engine_pages.specs.declared.view.View.{View}
use Rattle.engine_pages.specs.Records.{IsRecordAt}
use Rattle.engine_pages.specs.Steps.{kept_at, read_at, seen_at}
use Rattle.engine_pages.specs.Views.{IsActive}
use Rattle.page_records.specs.Reads.{saw, valued, Confirmed, Saw, SawFree}
use Rattle.array_pages.specs.declared.finding.Found.TheVariants as places
use Rattle.array_pages.specs.Spans.{IsOver}
use Rattle.array_pages.specs.Steps.{ReadsSo}
use Rattle.array_pages.specs.Walks.{HasWalked}
use Rattle.array_pages.specs.Walks.{SawLast}
use Rattle.array_pages.proofs.ReadLaws.{kept_here, kept_with, noted_in, seen_other, seen_same}
use Rattle.array_pages.proofs.WalkLaws.{record_stays, role_stays}
use Rattle.array_pages.proofs.WalkLaws.{walked_then}
use Rattle.array_pages.proofs.ReachLaws.{below, not_below, parts_by}

-- ---- which record of its leaf it is

pub index_of : (k : Key) (low : ℕ) → low % 32 ≡ 0 → IsOver k 0 low → k.key - low ≡ k.key % 32
index_of k low even over =
    let from = over.from in let to : k.key < low + 32 = over.to in omega (arith, even, from, to)

-- the first key of each leaf below a page over leaves, and of each such page below the one above
pub even_leaf : (k : Key) (low : ℕ) → low % 32 ≡ 0 → (low + (k.key - low) / 32 * 32) % 32 ≡ 0
even_leaf k low even = omega (arith, even)

pub even_whole : (low : ℕ) → low % 2048 ≡ 0 → low % 32 ≡ 0
even_whole low whole = omega (arith, whole)

pub even_middle : (k : Key) → (k.key / 2048 * 2048) % 32 ≡ 0
even_middle k = omega arith

-- ---- a record

covers_self : (k : Key) (x : Spot) (c : Content) (q : Key) → covers (record_part k x c) q ≡ true → k ≡ q
covers_self k x c q covered =
    let parts = and_parts (in_span (only k) q) (not (has_key [] q)) covered in
    let span = in_span-parts (only k) q parts.0 in
    let key : k.key ≡ q.key = let low = span.1 in let high = span.2 in omega (arith, low, high) in
    ap (λ (s : ℕ). let z : Key = record { storage = s; key = k.key } in z) (sym span.0)
    ∙ ap (λ (i : ℕ). let z : Key = record { storage = q.storage; key = i } in z) key

record_vouches : (k : Key) (x : Spot) (c : Content) (state : Key → Content) → c ≡ state k
    → Vouches state (record_part k x c)
record_vouches k x c state is = λ q covered.
    let same = covers_self k x c q covered in
    inl (ap (λ (b : Bool). cond b c nothing) (subst (λ (z : Key). same_key k z ≡ true) same (same_key-self k))
    ∙ (is ∙ ap state same))

walked_saw : (k : Key) (x : Spot) (at n : ℕ) (v u : View) → SawFree k x at v n u → HasWalked v u
walked_saw k x at n v u h =
    let w : View = saw h.history h.decided k x h.content at n v in
    subst (HasWalked v) (sym h.is) record {
      since = omega arith;
      drawn = h.drawn;
      seen = h.seen;
      parts = parts_by v.seat.kept (record_part k x h.content) v w refl refl record {
        history = h.history;
        decided = h.decided;
        drawn_since = h.drawn;
        seen_since = h.seen;
        drawn_by = front_refl h.history;
        seen_by = front_refl h.decided;
        last = record_vouches k x h.content (last_write v.layout.opening h.history h.decided) h.last;
      };
      held = λ t held. held;
      ways = λ z has. has;
      pages = front_refl v.pages;
      leads = λ z has. has;
      is = refl;
    }

walked_read : (at n : ℕ) (v : View) → HasWalked v (read_at at n v)
walked_read at n v = record {
  since = omega arith;
  drawn = front_refl v.history;
  seen = front_refl v.decided;
  parts = λ part has. inl has;
  held = λ t h. h;
  ways = λ x h. h;
  pages = front_refl v.pages;
  leads = λ x h. h;
  is = refl;
}

walked_valued : (k : Key) (x : Spot) (at n : ℕ) (v : View) → HasWalked v (valued k x at n v)
walked_valued k x at n v = record {
  since = omega arith;
  drawn = front_refl v.history;
  seen = front_refl v.decided;
  parts = λ part has. inl has;
  held = λ t h. h;
  ways = λ z h. h;
  pages = front_refl v.pages;
  leads = λ z h. h;
  is = refl;
}

saw_free : (k : Key) (x : Spot) (at n : ℕ) (v u : View) → n < 2 ^ 60 → Saw k x at v n u → SawFree k x at v n u
saw_free k x at n v u less s =
    subst (λ (b : Bool). MatchBool b (SawFree k x at v n u) (u ≡ read_at at n v)) (below n (2 ^ 60) less) s

pub walked_sees : (k : Key) (x : Spot) (at n : ℕ) (v u : View) → Saw k x at v n u → HasWalked v u
walked_sees k x at n v u s = by_test (nat_lt n (2 ^ 60)) s
  where
    by_test : (b : Bool) → MatchBool b (SawFree k x at v n u) (u ≡ read_at at n v) → HasWalked v u
    by_test true h = walked_saw k x at n v u h
    by_test false h = subst (HasWalked v) (sym h) (walked_read at n v)

pub walked_loads : (k : Key) (x : Spot) (at n : ℕ) (u t : View) → t ≡ valued k x at n u → HasWalked u t
walked_loads k x at n u t is = subst (HasWalked u) (sym is) (walked_valued k x at n u)

pub active_stays : (v w : View) → HasWalked v w → IsActive v.role → IsActive w.role
active_stays v w walk active = subst IsActive (sym (role_stays v w walk)) active

-- the record was locked
pub reads_locked : (k : Key) (x : Spot) (at n : ℕ) (v u : View) → IsRecordAt v k x at → x.index ≡ k.key % 32
    → 2 ^ 60 ≤ n → Saw k x at v n u
    → ReadsSo k (Err (causes.Conflict at n n)) v u
reads_locked k x at n v u place index high s =
    let is : u ≡ read_at at n v =
    subst (λ (b : Bool). MatchBool b (SawFree k x at v n u) (u ≡ read_at at n v)) (not_below n (2 ^ 60) high) s in
    subst (ReadsSo k (Err (causes.Conflict at n n)) v) (sym is) record {
      walked = walked_read at n v;
      most = omega arith;
      grip = refl;
      ways = refl;
      read = tt;
      met = tt;
      cause = record {
        spot = x;
        place = record_stays v (read_at at n v) k x at (walked_read at n v) place;
        index = index;
        was = seen_at v.reads at;
        saw = record {
          step = v.steps;
          since = omega arith;
          last = refl;
          kept = kept_at v.reads at;
          kept_is = sym (kept_here v.reads at n (kept_at v.reads at));
          stands = noted_in v.reads at n (kept_at v.reads at);
        };
        cause = inl record { locked = high; same = refl; before = refl };
      };
    }

-- the record was seen, its value loaded, and its word loaded once more
module _ (k : Key) (x : Spot) (at n value again : ℕ) (v u t w : View) (place : IsRecordAt v k x at)
    (index : x.index ≡ k.key % 32) (less : n < 2 ^ 60)
    (sees : Saw k x at v n u) (loads : t ≡ valued k x (at + 1) value u) (confirms : Confirmed k x at t again w) where
  abbrev s : SawFree k x at v n u
  s = saw_free k x at n v u less sees

  walk_first : HasWalked v u
  walk_first = walked_saw k x at n v u s

  walk_second : HasWalked u t
  walk_second = subst (HasWalked u) (sym loads) (walked_valued k x (at + 1) value u)

  walk_third : HasWalked t w
  walk_third = subst (HasWalked t) (sym confirms.is) (walked_read at again t)

  walk_all : HasWalked v w
  walk_all = walked_then v u w walk_first (walked_then u t w walk_second walk_third)

  most_all : w.steps ≤ v.steps + 3
  most_all =
      let first = ap (λ (z : View). z.steps) s.is in
      let second = ap (λ (z : View). z.steps) loads in
      let third = ap (λ (z : View). z.steps) confirms.is in omega (arith, first, second, third)

  grip_same : w.grip ≡ v.grip
  grip_same =
      ap (λ (z : View). z.grip) confirms.is
      ∙ (ap (λ (z : View). z.grip) loads ∙ ap (λ (z : View). z.grip) s.is)

  ways_same : w.ways ≡ v.ways
  ways_same =
      ap (λ (z : View). z.ways) confirms.is
      ∙ (ap (λ (z : View). z.ways) loads ∙ ap (λ (z : View). z.ways) s.is)

  -- what is known of the record's word behind the first two loads
  seen_before : seen_at t.reads at ≡ Some n
  seen_before =
      ap (λ (z : View). seen_at z.reads at) loads
      ∙ (seen_other u.reads (at + 1) value (kept_at u.reads (at + 1)) at (λ e. absurd (omega (arith, e)))
      ∙ (ap (λ (z : View). seen_at z.reads at) s.is ∙ seen_same v.reads at n (kept_at v.reads at)))

  pub reads_changed : again ≢ n → ReadsSo k (Err (causes.Conflict at n again)) v w
  reads_changed other = record {
    walked = walk_all;
    most = most_all;
    grip = grip_same;
    ways = ways_same;
    read = tt;
    met = tt;
    cause = record {
      spot = x;
      place = record_stays v w k x at walk_all place;
      index = index;
      was = Some n;
      saw = subst (SawLast at again (Some n) v) (sym confirms.is) record {
        step = t.steps;
        since = let one = walk_first.since in let two = walk_second.since in omega (arith, one, two);
        last = refl;
        kept = kept_at t.reads at;
        kept_is = sym (kept_here t.reads at again (kept_at t.reads at));
        stands = subst
            (λ (o : Option ℕ). Contains (read_at at again t).reads
            (record { word = at; seen = again; was = o; kept = kept_at t.reads at })) seen_before
            (noted_in t.reads at again (kept_at t.reads at));
      };
      cause = inr record { first = refl; open_before = less; other = other };
    };
  }

  pub reads_value : again ≡ n → ReadsSo k (Ok (places.Volatile at n value)) v w
  reads_value same = record {
    walked = walk_all;
    most = most_all;
    grip = grip_same;
    ways = ways_same;
    read = record {
      spot = x;
      place = record_stays v w k x at walk_all place;
      index = index;
      content = s.content;
      shown = record { small = s.small; number = s.number; never = s.never };
      has = confirms.value s.content value has_part (ap (λ (z : View). z.loaded) loads) (s.number ∙ sym same);
      last = s.last
          ∙ (ap (λ (l : List Attempt). last_write v.layout.opening l s.decided k) (sym history_same)
          ∙ ap (λ (l : List Number). last_write v.layout.opening w.history l k) (sym decided_same));
      kept = kept_same;
      met = ap (λ (z : View). seen_at z.reads at) confirms.is
          ∙ (seen_same t.reads at again (kept_at t.reads at) ∙ ap (λ (i : ℕ). let o : Option ℕ = Some i in o) same);
      others = λ a one two. inl (others_same a one two);
      words = words_same;
    };
    met = others_same;
    cause = tt;
  }
    where
      others_same : (a : ℕ) → a ≢ at → a ≢ at + 1 → seen_at w.reads a ≡ seen_at v.reads a
      others_same a one two =
          ap (λ (z : View). seen_at z.reads a) confirms.is
          ∙ (seen_other t.reads at again (kept_at t.reads at) a one
          ∙ (ap (λ (z : View). seen_at z.reads a) loads
          ∙ (seen_other u.reads (at + 1) value (kept_at u.reads (at + 1)) a two
          ∙ (ap (λ (z : View). seen_at z.reads a) s.is ∙ seen_other v.reads at n (kept_at v.reads at) a one))))

      words_same : (a : ℕ) → kept_at w.reads a ≡ kept_at v.reads a
      words_same a =
          ap (λ (z : View). kept_at z.reads a) confirms.is
          ∙ (kept_with t.reads at again a
          ∙ (ap (λ (z : View). kept_at z.reads a) loads
          ∙ (kept_with u.reads (at + 1) value a
          ∙ (ap (λ (z : View). kept_at z.reads a) s.is ∙ kept_with v.reads at n a))))

      kept_later : t.seat.kept ≡ with_part v.seat.kept (record_part k x s.content)
      kept_later = ap (λ (z : View). z.seat.kept) loads ∙ ap (λ (z : View). z.seat.kept) s.is

      kept_same : w.seat.kept ≡ with_part v.seat.kept (record_part k x s.content)
      kept_same = ap (λ (z : View). z.seat.kept) confirms.is ∙ kept_later

      has_part : Contains t.seat.kept (record_part k x s.content)
      has_part =
          subst (λ (l : List Part). Contains l (record_part k x s.content)) (sym kept_later)
          (in_push_new (record_part k x s.content)
          (filter (λ (q : Part). not (same_word q.word (Record x))) v.seat.kept))

      history_same : w.history ≡ s.history
      history_same =
          ap (λ (z : View). z.history) confirms.is
          ∙ (ap (λ (z : View). z.history) loads ∙ ap (λ (z : View). z.history) s.is)

      decided_same : w.decided ≡ s.decided
      decided_same =
          ap (λ (z : View). z.decided) confirms.is
          ∙ (ap (λ (z : View). z.decided) loads ∙ ap (λ (z : View). z.decided) s.is)
