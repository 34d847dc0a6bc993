-- A record in a leaf, and the header of one that has none.
use Rattle.std.proofs.Common.{◌≡◌, ◌≢◌, ◌⊎◌, ℕ, ◌+◌, ◌*◌, ◌/◌, ◌%◌, ◌^◌, ◌<◌, ◌≤◌, Bool, true, false, true≢false, cond, eqb, eqb-true, eq-eqb}
use Rattle.std.proofs.Common.{List, [], refl, sym, ap, ◌∙◌, subst, arith, inl, inr, Option, Some, None, ltb, not, filter}
use Rattle.std.specs.Prelude.{◌&&◌, Ok, Err, Contains, MatchBool, unwrap_or}
use Rattle.std.specs.List.{slice_get}
use Rattle.std.proofs.lemmas.Bool.{and_from, and_parts}
use Rattle.std.proofs.lemmas.Bool.Decides.{nat_tests}
use Rattle.lists.specs.Elements.{at_below, in_filter, in_head, in_push_cases, in_push_new, in_tail}
use Rattle.lists.specs.Fronts.{front_refl, front_same}
use Rattle.serial_model.specs.declared.key.Key.{Key}
use Rattle.homes.specs.declared.places.Content.{Content}
use Rattle.homes.specs.declared.places.Span.{Span}
use Rattle.homes.specs.declared.places.Spot.{Spot}
use Rattle.homes.specs.Homes.{has_key, in_span, same_key}
use Rattle.homes.specs.Laws.{same_key-self}
use Rattle.wire_form.specs.Leaves.{tree_leaf, word_in}
use Rattle.wire_form.specs.Words.{absent_field, number_word}
use Rattle.commit_core.specs.declared.part.Word.TheVariants.{Header, Record}
use Rattle.commit_core.specs.declared.seat.Seat.{Seat}
use Rattle.commit_core.specs.Keys.{nothing}
use Rattle.commit_core.specs.Parts.{Vouches, covers, found, only, record_part, same_word}
use Rattle.commit_core.specs.Serial.{last_write}
use Rattle.tx_sets.specs.declared.seen.Seen.{Seen}
use Rattle.engine_pages.specs.declared.layout.Layout.{Layout}
use Rattle.engine_pages.specs.declared.view.RefusalCause.TheVariants as causes
use Rattle.engine_pages.specs.declared.view.View.{View}
use Rattle.engine_pages.specs.Agreement.{TreesAgree}
use Rattle.engine_pages.specs.Layout.{page_at}
use Rattle.engine_pages.specs.Pages.{is_tree}
use Rattle.engine_pages.specs.Pointers.{WaysAgree}
use Rattle.engine_pages.specs.Records.{IsTreeRecordAt}
use Rattle.engine_pages.specs.Steps.{kept_at, read_at, seen_at}
use Rattle.engine_pages.specs.Views.{IsActive}
use Rattle.page_records.specs.Reads.{LoadedWord, saw, valued}
use Rattle.tree_heads.specs.Headers.{count_of, kind_of}
use Rattle.tree_heads.specs.Keeps.{HasSeenHeader, SawHeader, head_part, is_open_leaf, saw_header}
use Rattle.tree_records.specs.ReadLaws.{saw_there}
use Rattle.tree_records.specs.Reads.{ConfirmedTree, IsKeptThere, IsThat, SawTree, SawTreeFree}
use Rattle.array_pages.specs.Walks.{IsLastBetween}
use Rattle.array_pages.proofs.ReadLaws.{kept_here, kept_other, kept_with, seen_other, seen_same}
use Rattle.tree_walks.specs.declared.finding.Found.TheVariants as places
use Rattle.tree_walks.specs.declared.ways.Leaf.{Leaf}
use Rattle.tree_walks.specs.Finding.{IsFoundIn, IsRecordChanged}
use Rattle.tree_walks.specs.Finds.{KeepsSo}
use Rattle.tree_walks.specs.Walks.{CanWalk, HasWalked, IsRecordsWord, IsTreesWord, KeepsMet, KeepsWords, OnlyTrees, OnlyTreesFor}
use Rattle.tree_walks.specs.Ways.{IsLeafAt, IsLeafOn, IsMetSo, IsOnWay, IsUnsplit}
use Rattle.tree_walks.proofs.LoadLaws.{IsLoad, read_load, trees_by}
use Rattle.tree_walks.proofs.KeepLaws.{keeps_header, keeps_record}
use Rattle.tree_walks.proofs.PathLaws.{paths_same}
use Rattle.tree_walks.proofs.StepLaws.{active_stays, can_after, head_word, layout_stays, on_stays, only_but, only_for, walked_then}
use Rattle.tree_walks.proofs.StepLaws.{went_self, word_stays}
use Rattle.tree_walks.proofs.HalfLaws.{bounds_of, header_changed}
use Rattle.tree_walks.proofs.WayLaws.{record_stays}

-- ---- where the record stands

-- the place of the record with this index
pub record_at : (k : Key) (leaf : Leaf) (index at : ℕ) (v : View) (l : IsLeafAt k leaf v) → slice_get l.keys index ≡ Some k
    → at ≡ page_at v.layout.slots leaf.slot (17 + 3 * index)
    → IsTreeRecordAt v k (record { slot = leaf.slot; index = index }) at
record_at k leaf index at v l has word = record {
  way = record { slot = leaf.slot; span = leaf.span };
  has = (l.on).way;
  slot = refl;
  leaf = record { slot = leaf.slot; keys = l.keys };
  knows = l.knows;
  same = refl;
  there = (l.on).there;
  index = let less = at_below l.keys index k has in let few = l.few in omega (arith, less, few);
  kind = storage_is (l.on).over (l.on).tree;
  key = has;
  word = word ∙ (let e : page_at v.layout.slots leaf.slot (17 + 3 * index) ≡ page_at v.layout.slots leaf.slot (word_in tree_leaf index) =
      omega arith in e);
}
  where
    storage_is : in_span leaf.span k ≡ true → is_tree v.layout.decls (leaf.span).storage ≡ true
        → is_tree v.layout.decls k.storage ≡ true
    storage_is over tree = subst (λ i. is_tree v.layout.decls i ≡ true) (sym (bounds_of leaf.span k over).0) tree

-- ---- what is seen of it

pub covers_self : (k : Key) (x : Spot) (c : Content) (q : Key) → covers (record_part k x c) q ≡ true → k ≡ q
covers_self k x c q covered =
    let parts = and_parts (in_span (only k) q) (not (has_key [] q)) covered in
    let span = bounds_of (only k) q parts.0 in
    let key : k.key ≡ q.key = let low = span.1 in let high = span.2 in omega (arith, low, high) in
    ap (λ (s : ℕ). let z : Key = record { storage = s; key = k.key } in z) (sym span.0)
    ∙ ap (λ (i : ℕ). let z : Key = record { storage = q.storage; key = i } in z) key

pub record_vouches : (k : Key) (x : Spot) (c : Content) (state : Key → Content) → IsThat c (state k)
    → Vouches state (record_part k x c)
record_vouches k x c state is = λ q covered.
    let same = covers_self k x c q covered in
    let here : found (record_part k x c) q ≡ c =
    ap (λ (b : Bool). cond b c nothing) (subst (λ (z : Key). same_key k z ≡ true) same (same_key-self k)) in
    elim is [
      | inl e ↦ inl (here ∙ (e ∙ ap state same))
      | inr lost ↦ inr (
        ap (λ (z : Content). z.value) (here ∙ lost.0),
        ap (λ (z : Key). (state z).value) (sym same) ∙ lost.1,
      )
    ]

pub walked_saw : (k : Key) (x : Spot) (at n : ℕ) (v u : View) → SawTreeFree k x at v n u → HasWalked v u
walked_saw k x at n v u h =
    let w : View = saw h.history h.decided k x h.content at n v in
    subst (HasWalked v) (sym h.is) record {
      since = omega arith;
      drawn = h.drawn;
      seen = h.seen;
      parts = λ part has.
          elim (in_push_cases part (record_part k x h.content)
          (filter (λ p. not (same_word p.word (Record x))) v.seat.kept) has) [
            | inl old ↦ inl (in_filter (λ p. not (same_word p.word (Record x))) part v.seat.kept old)
            | inr new ↦ inr (subst (IsLastBetween v w) new record {
              history = h.history;
              decided = h.decided;
              drawn_since = h.drawn;
              seen_since = h.seen;
              drawn_by = front_refl h.history;
              seen_by = front_refl h.decided;
              last = record_vouches k x h.content (last_write v.layout.opening h.history h.decided) h.last;
            })
          ];
      held = λ t held. held;
      ways = λ z has. has;
      known = λ z has. has;
      moved = λ z has. has;
      inners = λ z has. has;
      pages = front_refl v.pages;
      leads = λ z has. has;
      is = refl;
    }

pub walked_valued : (k : Key) (x : Spot) (at n : ℕ) (v : View) → HasWalked v (valued k x at n v)
walked_valued k x at n v = record {
  since = omega arith;
  drawn = front_refl v.history;
  seen = front_refl v.decided;
  parts = λ part has. inl has;
  held = λ t h. h;
  ways = λ z h. h;
  known = λ z h. h;
  moved = λ z h. h;
  inners = λ z h. h;
  pages = front_refl v.pages;
  leads = λ z h. h;
  is = refl;
}

-- a record is seen unlocked
pub saw_free : (k : Key) (x : Spot) (at n : ℕ) (v u : View) → ((n / 2 ^ 60) % 2 ≢ 1) → SawTree k x at v n u
    → SawTreeFree k x at v n u
saw_free k x at n v u free s =
    subst (λ (b : Bool). MatchBool b (SawTreeFree k x at v n u) (u ≡ read_at at n v))
    (eq-eqb ((n / 2 ^ 60) % 2) 0 (omega (arith, free))) s

pub saw_locked : (k : Key) (x : Spot) (at n : ℕ) (v u : View) → (n / 2 ^ 60) % 2 ≡ 1 → SawTree k x at v n u → u ≡ read_at at n v
saw_locked k x at n v u locked s =
    subst (λ (b : Bool). MatchBool b (SawTreeFree k x at v n u) (u ≡ read_at at n v))
    (let e : eqb ((n / 2 ^ 60) % 2) 0 ≡ false = grind (arith, nat_tests) in e) s

-- what its word says of its value
pub absent_is : (c : Content) (n : ℕ) → number_word c.number < 2 ^ 60 → number_word c.number + absent_field tree_leaf c.value ≡ n
    → 2 ^ 61 ≤ n → c.value ≡ None
absent_is c n low is high = by_value c.value is
  where
    by_value : (o : Option ℕ) → number_word c.number + absent_field tree_leaf o ≡ n → o ≡ None
    by_value None e = refl
    by_value (Some i) e = absurd (omega (arith, e, low, high))

pub present_is : (c : Content) (n : ℕ) → number_word c.number + absent_field tree_leaf c.value ≡ n → n < 2 ^ 61
    → c.value ≡ None → ⊥
present_is c n is less none =
    let e : number_word c.number + absent_field tree_leaf None ≡ n =
    ap (λ (o : Option ℕ). number_word c.number + absent_field tree_leaf o) (sym none) ∙ is in omega (arith, e, less)

module _ (k : Key) (pointers headers : List Seen) (slots : List ℕ) (leaf : Leaf) (x : Spot) (at n : ℕ) (v u : View)
    (can : CanWalk slots v) (l : IsLeafAt k leaf v) (here : x.slot ≡ leaf.slot) (place : IsTreeRecordAt v k x at)
    (sees : SawTree k x at v n u) where
  -- no word but the record's and its value's was met
  pub only_so : (w : View) → HasWalked v w → ((q : ℕ) → q ≢ at → q ≢ at + 1 → seen_at w.reads q ≡ seen_at v.reads q)
      → OnlyTreesFor k v w
  only_so w walk others q = by_word (eqb q at) refl
    where
      there : (q ≡ at) ⊎ (q ≡ at + 1) → IsRecordsWord k w q
      there is = record { spot = x; base = at; place = record_stays v w k x at walk place; is = is }

      by_value : (b : Bool) → eqb q (at + 1) ≡ b → q ≢ at
          → (seen_at w.reads q ≡ seen_at v.reads q) ⊎ (IsTreesWord w q ⊎ IsRecordsWord k w q)
      by_value true same one = inr (inr (there (inr (eqb-true q (at + 1) same))))
      by_value false other one = inl (others q one (λ e. true≢false (sym (eq-eqb q (at + 1) e) ∙ other)))

      by_word : (b : Bool) → eqb q at ≡ b
          → (seen_at w.reads q ≡ seen_at v.reads q) ⊎ (IsTreesWord w q ⊎ IsRecordsWord k w q)
      by_word true same = inr (inr (there (inl (eqb-true q at same))))
      by_word false other = by_value (eqb q (at + 1)) refl (λ e. true≢false (sym (eq-eqb q at e) ∙ other))

  -- so what the sets have is met as they have it
  pub keeps_so : (w : View) → ((q : ℕ) → q ≢ at → q ≢ at + 1 → seen_at w.reads q ≡ seen_at v.reads q)
      → KeepsMet pointers headers v w
  keeps_so w others =
      keeps_record k pointers headers slots leaf.span x at v w can
      (subst (λ (i : ℕ). IsOnWay k v i leaf.span) (sym here) l.on) place others

  -- and the header of the leaf stands as it was seen
  head_still : (w : View) → HasWalked v w → ((q : ℕ) → q ≢ at → q ≢ at + 1 → seen_at w.reads q ≡ seen_at v.reads q)
      → seen_at v.reads (page_at v.layout.slots leaf.slot 0) ≡ Some leaf.header → IsUnsplit w leaf.slot
  head_still w walk others met =
      let few : x.index < 16 = place.index in
      let word : at ≡ ((32 + v.layout.slots) + 64 * x.slot) + (1 + (16 + 3 * x.index)) = place.word in record {
        word = leaf.header;
        saw = ap (λ (y : Layout). seen_at w.reads (page_at y.slots leaf.slot 0)) (layout_stays v w walk)
            ∙ (others (page_at v.layout.slots leaf.slot 0)
            (λ same.
            let head : ((32 + v.layout.slots) + 64 * leaf.slot) + 0 ≡ at = same in
            absurd (omega (arith, word, few, head)))
            (λ same.
            let head : ((32 + v.layout.slots) + 64 * leaf.slot) + 0 ≡ at + 1 = same in
            absurd (omega (arith, word, few, head)))
            ∙ met);
        unsplit = l.small;
      }

  changed : (later : ℕ) (t w : View) → HasWalked v t → IsLoad at t later w → KeepsWords v t → seen_at t.reads at ≡ Some n
      → ((later / 2 ^ 60) % 2 ≡ 1) ⊎ (later ≢ n) → IsUnsplit w leaf.slot → IsRecordChanged k at n later v w
  changed later t w walk m words before cause whole =
      let all = walked_then v t w walk m.walked in record {
        slot = leaf.slot;
        span = leaf.span;
        on = on_stays k v w leaf.slot leaf.span all l.on;
        spot = x;
        stands = here;
        place = record_stays v w k x at all place;
        whole = whole;
        was = seen_at t.reads at;
        saw = record {
          step = m.saw.step;
          since = let one = m.saw.since in let two = walk.since in omega (arith, one, two);
          last = m.saw.last;
          kept = m.saw.kept;
          kept_is = m.saw.kept_is;
          stands = m.saw.stands;
        };
        kept = m.kept ∙ words at;
        known = before;
        cause = cause;
      }

  -- it was locked, and loaded once more
  pub reads_locked : (later : ℕ) (w : View) → (n / 2 ^ 60) % 2 ≡ 1 → LoadedWord x.slot at u later w
      → seen_at v.reads (page_at v.layout.slots leaf.slot 0) ≡ Some leaf.header
      → KeepsSo 3 k pointers headers slots (Err (causes.Conflict at n later)) v w
  reads_locked later w locked h head =
      let a = read_load at n v u can.agree can.trees (saw_locked k x at n v u locked sees) in
      let b = read_load at later u w a.agree a.trees h.is in
      let all = walked_then v u w a.walked b.walked in record {
        can = can_after slots v w all (b.grip ∙ a.grip) b.agree b.trees can;
        walked = all;
        most = let one = a.most in let two = b.most in omega (arith, one, two);
        met = only_so w all (λ q one two. b.others q one ∙ a.others q one);
        only = tt;
        keeps = tt;
        paths = paths_same k v w (ap (λ (z : View). z.ways) h.is ∙ ap (λ (z : View). z.ways) (saw_locked k x at n v u locked sees));
        grip = b.grip ∙ a.grip;
        found = tt;
        cause = inr (changed later u w a.walked b a.words a.met (locked_still n later locked)
            (head_still w all (λ q one two. b.others q one ∙ a.others q one) head));
      }
    where
      locked_still : (n later : ℕ) → (n / 2 ^ 60) % 2 ≡ 1 → ((later / 2 ^ 60) % 2 ≡ 1) ⊎ (later ≢ n)
      locked_still n later locked = by_test (eqb later n) refl
        where
          by_test : (b : Bool) → eqb later n ≡ b → ((later / 2 ^ 60) % 2 ≡ 1) ⊎ (later ≢ n)
          by_test true same = inl (ap (λ i. (i / 2 ^ 60) % 2) (eqb-true later n same) ∙ locked)
          by_test false other = inr (λ e. true≢false (sym (eq-eqb later n e) ∙ other))

  pub locked_active : (n / 2 ^ 60) % 2 ≡ 1 → IsActive u.role
  locked_active locked =
      active_stays v u (read_load at n v u can.agree can.trees (saw_locked k x at n v u locked sees)).walked can.active

  pub locked_place : (n / 2 ^ 60) % 2 ≡ 1 → IsTreeRecordAt u k x at
  locked_place locked =
      record_stays v u k x at (read_load at n v u can.agree can.trees (saw_locked k x at n v u locked sees)).walked place

  -- it was not locked
  module _ (free : (n / 2 ^ 60) % 2 ≢ 1) where
    abbrev s : SawTreeFree k x at v n u
    s = saw_free k x at n v u free sees

    walk_first : HasWalked v u
    walk_first = walked_saw k x at n v u s

    grip_first : u.grip ≡ v.grip
    grip_first = ap (λ (z : View). z.grip) s.is

    agree_first : WaysAgree u.ways
    agree_first = subst (λ (z : View). WaysAgree z.ways) (sym s.is) can.agree

    trees_first : TreesAgree u
    trees_first =
        trees_by v u (ap (λ (z : View). z.layout) s.is) (ap (λ (z : View). z.known) s.is) (ap (λ (z : View). z.inners) s.is)
        (ap (λ (z : View). z.ways) s.is) can.trees

    met_first : seen_at u.reads at ≡ Some n
    met_first = ap (λ (z : View). seen_at z.reads at) s.is ∙ seen_same v.reads at n (kept_at v.reads at)

    words_first : KeepsWords v u
    words_first a = ap (λ (z : View). kept_at z.reads a) s.is ∙ kept_with v.reads at n a

    others_first : (q : ℕ) → q ≢ at → seen_at u.reads q ≡ seen_at v.reads q
    others_first q apart =
        ap (λ (z : View). seen_at z.reads q) s.is ∙ seen_other v.reads at n (kept_at v.reads at) q apart

    small : number_word s.content.number < 2 ^ 60
    small = let draw = s.small.draw in let epoch = s.small.epoch in omega (arith, draw, epoch)

    -- what is told of it, behind loads that leave what is known of it
    found_so : (value : ℕ) (w : View) → HasWalked v w → w.history ≡ u.history → w.decided ≡ u.decided → w.seat ≡ u.seat
        → seen_at w.reads at ≡ Some n → KeepsWords v w → value ≡ unwrap_or s.content.value 0
        → IsFoundIn k at n value v w
    found_so value w walk history decided seat met words has = record {
      slot = leaf.slot;
      span = leaf.span;
      on = on_stays k v w leaf.slot leaf.span walk l.on;
      spot = x;
      stands = here;
      place = record_stays v w k x at walk place;
      content = s.content;
      small = s.small;
      shown = s.word;
      has = has;
      last =
          subst (λ h. IsThat s.content (last_write v.layout.opening h w.decided k))
          (sym (history ∙ ap (λ (z : View). z.history) s.is))
          (subst (λ d. IsThat s.content (last_write v.layout.opening s.history d k))
          (sym (decided ∙ ap (λ (z : View). z.decided) s.is)) s.last);
      kept = ap (λ (z : Seat). z.kept) seat ∙ ap (λ (z : View). z.seat.kept) s.is;
      met = met;
      words = words;
    }

    -- it has no value
    pub reads_absent : 2 ^ 61 ≤ n → KeepsSo 3 k pointers headers slots (Ok (places.Volatile at n 0)) v u
    reads_absent high = record {
      can = can_after slots v u walk_first grip_first agree_first trees_first can;
      walked = walk_first;
      most = let e = ap (λ (z : View). z.steps) s.is in omega (arith, e);
      met = only_so u walk_first (λ q one two. others_first q one);
      only = λ q one two. inl (others_first q one);
      keeps = keeps_so u (λ q one two. others_first q one);
      paths = paths_same k v u (ap (λ (z : View). z.ways) s.is);
      grip = grip_first;
      found = found_so 0 u walk_first refl refl refl met_first words_first
          (sym (ap (λ (o : Option ℕ). unwrap_or o 0) (absent_is s.content n small s.word high)));
      cause = tt;
    }

    pub there : n < 2 ^ 61 → IsKeptThere u k x
    there less =
        subst (λ (z : View). IsKeptThere z k x) (sym s.is)
        (saw_there s.history s.decided k x s.content at n v (present_is s.content n s.word less))

    pub first_active : IsActive u.role
    first_active = active_stays v u walk_first can.active

    pub first_place : IsTreeRecordAt u k x at
    first_place = record_stays v u k x at walk_first place

    walked_value : (value : ℕ) (t : View) → t ≡ valued k x (at + 1) value u → HasWalked v t
    walked_value value t loads =
        walked_then v u t walk_first (subst (HasWalked u) (sym loads) (walked_valued k x (at + 1) value u))

    pub second_active : (value : ℕ) (t : View) → t ≡ valued k x (at + 1) value u → IsActive t.role
    second_active value t loads = active_stays v t (walked_value value t loads) can.active

    pub second_place : (value : ℕ) (t : View) → t ≡ valued k x (at + 1) value u → IsTreeRecordAt t k x at
    second_place value t loads = record_stays v t k x at (walked_value value t loads) place

    -- its value was loaded, and its word once more
    module _ (value : ℕ) (t : View) (again : ℕ) (w : View) (less : n < 2 ^ 61) (loads : t ≡ valued k x (at + 1) value u)
        (confirms : ConfirmedTree k x at t again w) where
      walk_second : HasWalked u t
      walk_second = subst (HasWalked u) (sym loads) (walked_valued k x (at + 1) value u)

      before : HasWalked v t
      before = walked_then v u t walk_first walk_second

      b : IsLoad at t again w
      b =
          read_load at again t w (subst (λ (z : View). WaysAgree z.ways) (sym loads) agree_first)
          (trees_by u t (ap (λ (z : View). z.layout) loads) (ap (λ (z : View). z.known) loads)
          (ap (λ (z : View). z.inners) loads) (ap (λ (z : View). z.ways) loads) trees_first) confirms.is

      met_before : seen_at t.reads at ≡ Some n
      met_before =
          ap (λ (z : View). seen_at z.reads at) loads
          ∙ (seen_other u.reads (at + 1) value (kept_at u.reads (at + 1)) at (λ e. absurd (omega (arith, e))) ∙ met_first)

      words_before : KeepsWords v t
      words_before a =
          ap (λ (z : View). kept_at z.reads a) loads ∙ (kept_with u.reads (at + 1) value a ∙ words_first a)

      all : HasWalked v w
      all = walked_then v t w before b.walked

      most : w.steps ≤ v.steps + 3
      most =
          let one = ap (λ (z : View). z.steps) s.is in
          let two = ap (λ (z : View). z.steps) loads in
          let three = b.most in omega (arith, one, two, three)

      grip : w.grip ≡ v.grip
      grip = b.grip ∙ (ap (λ (z : View). z.grip) loads ∙ grip_first)

      ways_all : w.ways ≡ v.ways
      ways_all =
          ap (λ (z : View). z.ways) confirms.is
          ∙ (ap (λ (z : View). z.ways) loads ∙ ap (λ (z : View). z.ways) s.is)

      others_all : (q : ℕ) → q ≢ at → q ≢ at + 1 → seen_at w.reads q ≡ seen_at v.reads q
      others_all q one two =
          b.others q one
          ∙ (ap (λ (z : View). seen_at z.reads q) loads
          ∙ (seen_other u.reads (at + 1) value (kept_at u.reads (at + 1)) q two ∙ others_first q one))

      pub reads_changed : again ≢ n → seen_at v.reads (page_at v.layout.slots leaf.slot 0) ≡ Some leaf.header
          → KeepsSo 3 k pointers headers slots (Err (causes.Conflict at n again)) v w
      reads_changed other head = record {
        can = can_after slots v w all grip b.agree b.trees can;
        walked = all;
        most = most;
        met = only_so w all others_all;
        only = tt;
        keeps = tt;
        paths = paths_same k v w ways_all;
        grip = grip;
        found = tt;
        cause = inr (changed again t w before b words_before met_before (inr other) (head_still w all others_all head));
      }

      kept_here_is : Contains t.seat.kept (record_part k x s.content)
      kept_here_is =
          subst (λ (z : View). Contains z.seat.kept (record_part k x s.content)) (sym loads)
          (subst (λ (z : View). Contains z.seat.kept (record_part k x s.content)) (sym s.is)
          (in_push_new (record_part k x s.content)
          (filter (λ p. not (same_word p.word (Record x))) v.seat.kept)))

      number_is : number_word s.content.number ≡ n
      number_is = by_value s.content.value s.word (present_is s.content n s.word less)
        where
          by_value : (o : Option ℕ) → number_word s.content.number + absent_field tree_leaf o ≡ n → (s.content.value ≡ None → ⊥)
              → number_word s.content.number ≡ n
          by_value None e some = absurd (omega (arith, e, less))
          by_value (Some i) e some = omega (arith, e)

      pub reads_value : again ≡ n → KeepsSo 3 k pointers headers slots (Ok (places.Volatile at n value)) v w
      reads_value same = record {
        can = can_after slots v w all grip b.agree b.trees can;
        walked = all;
        most = most;
        met = only_so w all others_all;
        only = λ q one two. inl (others_all q one two);
        keeps = keeps_so w others_all;
        paths = paths_same k v w ways_all;
        grip = grip;
        found = found_so value w all
            (ap (λ (z : View). z.history) confirms.is ∙ ap (λ (z : View). z.history) loads)
            (ap (λ (z : View). z.decided) confirms.is ∙ ap (λ (z : View). z.decided) loads)
            (b.seat ∙ ap (λ (z : View). z.seat) loads)
            (b.met ∙ ap (λ (i : ℕ). let o : Option ℕ = Some i in o) same) (λ a. b.words a ∙ words_before a)
            (confirms.value s.content value kept_here_is (present_is s.content n s.word less)
            (ap (λ (z : View). z.loaded) loads) (number_is ∙ sym same));
        cause = tt;
      }

-- ---- the header of a leaf without a record of the key

pub walked_head : (t : ℕ) (sp : Span) (at n : ℕ) (v w : View) → HasSeenHeader t sp at v n w → HasWalked v w
walked_head t sp at n v w h =
    let z : View = saw_header h.history h.decided t sp h.keys at n v in
    subst (HasWalked v) (sym h.is) record {
      since = omega arith;
      drawn = h.drawn;
      seen = h.seen;
      parts = λ part has.
          elim (in_push_cases part (head_part t sp h.keys)
          (filter (λ p. not (same_word p.word (Header t))) v.seat.kept) has) [
            | inl old ↦ inl (in_filter (λ p. not (same_word p.word (Header t))) part v.seat.kept old)
            | inr new ↦ inr (subst (IsLastBetween v z) new record {
              history = h.history;
              decided = h.decided;
              drawn_since = h.drawn;
              seen_since = h.seen;
              drawn_by = front_refl h.history;
              seen_by = front_refl h.decided;
              last = h.last;
            })
          ];
      held = λ t held. held;
      ways = λ z has. has;
      known = λ x has. in_tail x (record { slot = t; keys = h.keys }) v.known has;
      moved = λ z has. has;
      inners = λ z has. has;
      pages = front_refl v.pages;
      leads = λ z has. has;
      is = refl;
    }

module _ (k : Key) (pointers headers : List Seen) (slots : List ℕ) (leaf : Leaf) (at n : ℕ) (v w : View)
    (can : CanWalk slots v) (l : IsLeafOn k headers leaf v)
    (word : at ≡ page_at v.layout.slots leaf.slot 0) (sees : SawHeader leaf.slot leaf.span at leaf.header v n w) where
  abbrev lf : IsLeafAt k leaf v
  lf = l.leaf

  treed : IsTreesWord v at
  treed = subst (IsTreesWord v) (sym word) (head_word k v leaf.slot leaf.span lf.on)

  set_is : IsMetSo headers at leaf.header
  set_is = subst (λ i. IsMetSo headers i leaf.header) (sym word) l.set

  -- it was kept as it was
  pub absence_kept : (m : IsLeafAt k leaf v) → has_key m.keys k ≡ false → n ≡ leaf.header → n < 2 ^ 60
      → KeepsSo 1 k pointers headers slots (Ok (places.Absent at n)) v w
  absence_kept m none same low =
      let leafy : kind_of n ≡ 1 = ap kind_of same ∙ lf.kind in
      let test : (eqb n leaf.header && is_open_leaf n) ≡ true =
      and_from (eqb n leaf.header) (is_open_leaf n) (eq-eqb n leaf.header same)
      (and_from (ltb n (2 ^ 60)) (eqb (kind_of n) 1) (let e : ltb n (2 ^ 60) ≡ true = grind (arith, nat_tests) in e)
      (eq-eqb (kind_of n) 1 leafy)) in
      let h : HasSeenHeader leaf.slot leaf.span at v n w =
      subst (λ c. MatchBool c (HasSeenHeader leaf.slot leaf.span at v n w) (w ≡ read_at at n v)) test sees in
      let walk = walked_head leaf.slot leaf.span at n v w h in
      let keys : m.keys ≡ h.keys =
      front_same m.keys h.keys h.keys
      ((h.are).known (record { slot = leaf.slot; keys = m.keys }) m.knows refl) (front_refl h.keys)
      (m.count ∙ (ap count_of (sym same) ∙ sym h.count)) in
      let absent : has_key h.keys k ≡ false = ap (λ (q : List Key). has_key q k) (sym keys) ∙ none in
      let covered : covers (head_part leaf.slot leaf.span h.keys) k ≡ true =
      and_from (in_span leaf.span k) (not (has_key h.keys k)) (lf.on).over (ap not absent) in
      let last : Vouches (last_write v.layout.opening w.history w.decided) (head_part leaf.slot leaf.span h.keys) =
      subst (λ q. Vouches (last_write v.layout.opening q w.decided) (head_part leaf.slot leaf.span h.keys))
      (sym (ap (λ (z : View). z.history) h.is))
      (subst (λ q. Vouches (last_write v.layout.opening h.history q) (head_part leaf.slot leaf.span h.keys))
      (sym (ap (λ (z : View). z.decided) h.is)) h.last) in
      let grip : w.grip ≡ v.grip = ap (λ (z : View). z.grip) h.is in
      let seen : seen_at w.reads at ≡ Some n =
      ap (λ (z : View). seen_at z.reads at) h.is ∙ seen_same v.reads at n (Some n) in
      let others = λ (a : ℕ) (apart : a ≢ at).
      ap (λ (z : View). seen_at z.reads a) h.is ∙ seen_other v.reads at n (Some n) a apart in
      let alone : OnlyTrees v w = only_but at v w (word_stays v w at walk treed) others in
      record {
        can = can_after slots v w walk grip (subst (λ (z : View). WaysAgree z.ways) (sym h.is) can.agree) h.trees can;
        walked = walk;
        most = let e = ap (λ (z : View). z.steps) h.is in omega (arith, e);
        met = only_for k v w alone;
        only = alone;
        keeps = keeps_header k pointers headers slots leaf.slot leaf.span at n v w can lf.on word
            (subst (IsMetSo headers at) (sym same) set_is) seen others;
        paths = paths_same k v w (ap (λ (z : View). z.ways) h.is);
        grip = grip;
        found = record {
          slot = leaf.slot;
          span = leaf.span;
          on = on_stays k v w leaf.slot leaf.span walk lf.on;
          keys = h.keys;
          knows =
              subst (λ (z : View). Contains z.known (record { slot = leaf.slot; keys = h.keys })) (sym h.is)
              (in_head (record { slot = leaf.slot; keys = h.keys }) v.known);
          none = absent;
          few = (h.are).few;
          place = word ∙ ap (λ (y : Layout). page_at y.slots leaf.slot 0) (sym (layout_stays v w walk));
          is = h.word;
          kept = ap (λ (z : View). z.seat.kept) h.is;
          word_kept = ap (λ (z : View). kept_at z.reads at) h.is ∙ kept_here v.reads at n (Some n);
          words = λ a apart. ap (λ (z : View). kept_at z.reads a) h.is ∙ kept_other v.reads at n (Some n) a apart;
          met = seen;
          covered = covered;
          last = last;
          absent = elim (last k covered) [ inl e ↦ ap (λ (z : Content). z.value) (sym e) | inr both ↦ both.1 ];
          set = subst (IsMetSo headers at) (sym same) set_is;
        };
        cause = tt;
      }

  refused : w ≡ read_at at n v → ((n / 2 ^ 60) % 2 ≡ 1) ⊎ (n ≢ leaf.header)
      → KeepsSo 1 k pointers headers slots (Err (causes.Conflict at leaf.header n)) v w
  refused is cause =
      let a = read_load at n v w can.agree can.trees is in record {
        can = can_after slots v w a.walked a.grip a.agree a.trees can;
        walked = a.walked;
        most = a.most;
        met = only_for k v w (only_but at v w (word_stays v w at a.walked treed) a.others);
        only = tt;
        keeps = tt;
        paths = paths_same k v w (ap (λ (z : View). z.ways) is);
        grip = a.grip;
        found = tt;
        cause = inl (inr (header_changed k headers slots (record { slot = leaf.slot; span = leaf.span }) at leaf.header v lf.on
            word set_is 0 n (record { slot = leaf.slot; keys = lf.keys }) v w (went_self slots v can) a lf.knows refl
            (ap (seen_at v.reads) word ∙ l.met) cause));
      }

  -- it is another word
  pub absence_changed : n ≢ leaf.header → KeepsSo 1 k pointers headers slots (Err (causes.Conflict at leaf.header n)) v w
  absence_changed other =
      let test : (eqb n leaf.header && is_open_leaf n) ≡ false =
      ap (λ (b : Bool). b && is_open_leaf n) (let e : eqb n leaf.header ≡ false = grind (arith, nat_tests) in e) in
      refused (subst (λ c. MatchBool c (HasSeenHeader leaf.slot leaf.span at v n w) (w ≡ read_at at n v)) test sees) (inr other)

  -- it is locked
  pub absence_locked : n ≡ leaf.header → 2 ^ 60 ≤ n → KeepsSo 1 k pointers headers slots (Err (causes.Conflict at leaf.header n)) v w
  absence_locked same high =
      let small : n < 2 ^ 61 = subst (λ i. i < 2 ^ 61) (sym same) lf.small in
      let test : (eqb n leaf.header && is_open_leaf n) ≡ false =
      ap (λ (b : Bool). eqb n leaf.header && (b && eqb (kind_of n) 1))
      (let e : ltb n (2 ^ 60) ≡ false = grind (arith, nat_tests) in e)
      ∙ and_no (eqb n leaf.header) in
      refused (subst (λ c. MatchBool c (HasSeenHeader leaf.slot leaf.span at v n w) (w ≡ read_at at n v)) test sees)
      (inl (omega (arith, small, high)))
    where
      and_no : (b : Bool) → (b && false) ≡ false
      and_no true = refl
      and_no false = refl
