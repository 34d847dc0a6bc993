-- A key that was added to a leaf of a tree for a write: the transaction goes on, with what it keeps of the leaf.
use Rattle.std.proofs.Common.{◌≡◌, ◌≢◌, ◌⊎◌, inl, inr, ℕ, suc, ◌+◌, ◌-◌, ◌*◌, ◌/◌, ◌%◌, ◌^◌, ◌<◌, ◌≤◌, Bool, true, false, true≢false}
use Rattle.std.proofs.Common.{List, [], ◌∷◌, ◌++◌, length, refl, sym, ap, ◌∙◌, subst, arith, Option, Some, None, eq-eqb, eqb}
use Rattle.std.proofs.Common.{length-append}
use Rattle.std.specs.Prelude.{Contains, if◌then◌else◌, take, ◌==◌, ◌&&◌}
use Rattle.std.proofs.lemmas.Bool.{and_parts, eqb-true}
use Rattle.lists.specs.Elements.{any_in, any_is, at_below, in_head, in_tail}
use Rattle.lists.specs.Fronts.{front_length, front_refl, IsFront}
use Rattle.serial_model.specs.declared.key.Key.{Key}
use Rattle.serial_model.specs.Decls.{AreDecls}
use Rattle.homes.specs.declared.places.Spot.{Spot}
use Rattle.homes.specs.Homes.{has_key}
use Rattle.wire_form.specs.Leaves.{tree_leaf}
use Rattle.wire_form.specs.Words.{absent_field, number_word}
use Rattle.commit_core.specs.declared.part.Part.{Part}
use Rattle.commit_core.specs.declared.part.Word.{Word}
use Rattle.commit_core.specs.declared.part.Word.TheVariants.{Header, Record}
use Rattle.commit_core.specs.CoreState.{is_trying}
use Rattle.commit_core.specs.Keys.{nothing}
use Rattle.serial_bridge.specs.Transaction.{Vouched}
use Rattle.commit_core.specs.Parts.{record_part, same_word, with_part}
use Rattle.tx_sets.specs.declared.reads.ReadEntry.{ReadEntry}
use Rattle.tx_sets.specs.declared.seen.Seen.{Seen}
use Rattle.tx_sets.specs.declared.sets.Sets.{Sets}
use Rattle.tx_sets.specs.Entries.{has_word, renewed, word_at}
use Rattle.tx_sets.specs.Gathered.{has_read_room}
use Rattle.drop_core.specs.Table.{has_slot}
use Rattle.engine_rule.specs.JointState.{is_counted, keeps_header_at}
use Rattle.engine_pages.specs.declared.layout.Layout.{Layout}
use Rattle.engine_pages.specs.declared.view.Read.{Read}
use Rattle.engine_pages.specs.declared.view.View.{View}
use Rattle.engine_pages.specs.declared.view.Way.{Way}
use Rattle.engine_pages.specs.Layout.{page_at}
use Rattle.engine_pages.specs.Pages.{decl_of, is_tree}
use Rattle.engine_pages.specs.Pointers.{one_kind, WaysAgree}
use Rattle.engine_pages.specs.Steps.{kept_at, noted, seen_at, with_read}
use Rattle.engine_pages.specs.Views.{IsActive}
use Rattle.engine_pages.specs.Words.{spot}
use Rattle.tree_heads.specs.Headers.{open_word}
use Rattle.tree_heads.specs.Heads.{absent_word, added_reads, kept_on, lock_bit}
use Rattle.tree_heads.specs.Keeps.{head_part}
use Rattle.array_pages.proofs.ReadLaws.{kept_here, kept_other, kept_with, seen_other, seen_same}
use Rattle.foster_tree.specs.Adding.{HasKeyPut}
use Rattle.tree_walks.specs.declared.ways.Leaf.{Leaf}
use Rattle.tree_walks.specs.Walks.{CanWalk}
use Rattle.tree_walks.specs.Ways.{IsLeafOn, IsOnWay}
use Rattle.page_commit.specs.HeaderParts.{IsMetHeader}
use Rattle.page_commit.specs.Live.{IsLive, IsMetPointer, IsReadPart, IsWordOf}
use Rattle.page_commit.specs.Needs.{IsUnsplitAt}
use Rattle.page_commit.specs.Places.{ground, slot_of, spot_for, tree_spot, IsAnyKeyAt, IsTreeKeyIn}
use Rattle.page_commit.specs.Turning.{as_walked, GoesOn, OnlyWalked, PartsStay}
use Rattle.page_commit.proofs.AddedLaws.{head_of, live_bare, live_kept, HasGrownBare, HasGrownKept}
use Rattle.page_commit.proofs.AnyPlaces.{tree_spot_of_word, trees_spot}
use Rattle.page_commit.proofs.GrowLaws.{KnowsMore}
use Rattle.page_commit.proofs.GrownStay.{grown_goes_on, grown_stay, head_is}
use Rattle.page_commit.proofs.KeepLaws.{entry_apart}
use Rattle.page_commit.proofs.PointerLaws.{has_pointer, pointer_word}
use Rattle.page_commit.proofs.RenewLaws.{renewed_cases}
use Rattle.page_commit.proofs.RoomLaws.{room_entry}
use Rattle.page_commit.proofs.UnsplitLaws.{unsplit_at}
use Rattle.page_commit.proofs.WalkedLaws.{can_walk, held_same}
use Rattle.tree_calls.proofs.DoneLaws.{no_array}
use Rattle.tree_writes.specs.Writing.{HasBrought}
use Rattle.tree_writes.proofs.MadeLaws.{place_on, record_slot}

-- ---- words

-- a word that counts so many records
open_is : (n : ℕ) → 256 + n ≡ open_word n
open_is n = omega arith

open_next : (n : ℕ) → open_word n + 1 ≡ open_word (n + 1)
open_next n = omega arith

-- a word that is another one
same_or : (a at : ℕ) → (a ≡ at) ⊎ (a ≢ at)
same_or a at = by_test (eqb a at) refl
  where
    by_test : (b : Bool) → eqb a at ≡ b → (a ≡ at) ⊎ (a ≢ at)
    by_test true hit = inl (eqb-true a at hit)
    by_test false miss = inr (λ same. true≢false (sym (eq-eqb a at same) ∙ miss))

-- as many words as before
length_renewed : (at word : ℕ) (xs : List Seen) → length (renewed at word xs) ≡ length xs
length_renewed at word [] = refl
length_renewed at word (y ∷ xs) = ap (λ (n : ℕ). suc n) (length_renewed at word xs)

-- ---- what was met behind the steps of an addition

-- the header's word is left as n, and the record's word as that of an absent one
abbrev left_reads : List Read → ℕ → ℕ → ℕ → ℕ → Option ℕ → List Read
left_reads reads head first n at kept = with_read (noted (with_read reads head first) head n kept) at absent_word

seen_record : (reads : List Read) (head first n at : ℕ) (kept : Option ℕ)
    → seen_at (left_reads reads head first n at kept) at ≡ Some absent_word
seen_record reads head first n at kept =
    seen_same (noted (with_read reads head first) head n kept) at absent_word
    (kept_at (noted (with_read reads head first) head n kept) at)

seen_head : (reads : List Read) (head first n at : ℕ) (kept : Option ℕ) → head ≢ at
    → seen_at (left_reads reads head first n at kept) head ≡ Some n
seen_head reads head first n at kept apart =
    seen_other (noted (with_read reads head first) head n kept) at absent_word
    (kept_at (noted (with_read reads head first) head n kept) at) head apart
    ∙ seen_same (with_read reads head first) head n kept

seen_left : (reads : List Read) (head first n at a : ℕ) (kept : Option ℕ) → a ≢ at → a ≢ head
    → seen_at (left_reads reads head first n at kept) a ≡ seen_at reads a
seen_left reads head first n at a kept apart other =
    seen_other (noted (with_read reads head first) head n kept) at absent_word
    (kept_at (noted (with_read reads head first) head n kept) at) a apart
    ∙ (seen_other (with_read reads head first) head n kept a other
    ∙ seen_other reads head first (kept_at reads head) a other)

kept_head : (reads : List Read) (head first n at : ℕ) (kept : Option ℕ)
    → kept_at (left_reads reads head first n at kept) head ≡ kept
kept_head reads head first n at kept =
    kept_with (noted (with_read reads head first) head n kept) at absent_word head
    ∙ kept_here (with_read reads head first) head n kept

kept_left : (reads : List Read) (head first n at a : ℕ) (kept : Option ℕ) → a ≢ head
    → kept_at (left_reads reads head first n at kept) a ≡ kept_at reads a
kept_left reads head first n at a kept other =
    kept_with (noted (with_read reads head first) head n kept) at absent_word a
    ∙ (kept_other (with_read reads head first) head n kept a other ∙ kept_with reads head first a)

-- ---- the addition

module _ (sets : Sets) (v w : View) (k : Key) (x : Leaf) (at : ℕ) (live : IsLive sets v)
    (on : IsLeafOn k sets.headers x v) (lacking : has_key on.leaf.keys k ≡ false) (p : HasKeyPut x.slot x.span k x.header at v w) where
  abbrev head_at : ℕ
  head_at = page_at v.layout.slots x.slot 0

  layout_same : w.layout ≡ v.layout
  layout_same = ap (λ (z : View). z.layout) p.is

  ways_same : w.ways ≡ v.ways
  ways_same = ap (λ (z : View). z.ways) p.is

  touched_same : w.touched ≡ v.touched
  touched_same = ap (λ (z : View). z.touched) p.is

  -- the keys that were known of the leaf are all of its keys
  keys_are : on.leaf.keys ≡ p.keys
  keys_are =
      let front = p.are.known (record { slot = x.slot; keys = on.leaf.keys }) on.leaf.knows refl in
      let few : length p.keys ≤ 16 = p.are.few in
      let whole = open_is (length p.keys) in
      let word = p.count in
      let one : length on.leaf.keys ≡ x.header % 2 ^ 8 = on.leaf.count in
      let long : length on.leaf.keys ≡ length p.keys = omega (arith, few, whole, word, one) in
      sym front ∙ (ap (λ (n : ℕ). take n p.keys) long ∙ front_refl p.keys)

  knows_now : Contains v.known (record { slot = x.slot; keys = p.keys })
  knows_now = subst (λ (l : List Key). Contains v.known (record { slot = x.slot; keys = l })) keys_are on.leaf.knows

  pub added_agree : WaysAgree w.ways
  added_agree = subst WaysAgree (sym ways_same) live.agree

  pub added_more : KnowsMore v w
  added_more = record {
    layout = layout_same;
    ways = λ y has. subst (λ (l : List Way). Contains l y) (sym ways_same) has;
    known = λ y has. subst (λ (z : View). Contains z.known y) (sym p.is)
        (in_tail y (record { slot = x.slot; keys = p.keys ++ k ∷ [] }) (record { slot = x.slot; keys = p.keys } ∷ v.known)
        (in_tail y (record { slot = x.slot; keys = p.keys }) v.known has));
    inners = λ y has. subst (λ (z : View). Contains z.inners y) (sym p.is) has;
    leads = λ y has. subst (λ (z : View). Contains z.leads y) (sym p.is) has;
    pages = subst (λ (z : View). IsFront v.pages z.pages) (sym p.is) (front_refl v.pages);
  }

  on_way : IsOnWay k w x.slot x.span
  on_way = record {
    way = subst (λ (l : List Way). Contains l (record { slot = x.slot; span = x.span })) (sym ways_same) on.leaf.on.way;
    tree = subst (λ (y : Layout). is_tree y.decls x.span.storage ≡ true) (sym layout_same) on.leaf.on.tree;
    there = subst (λ (y : Layout). x.slot < y.slots) (sym layout_same) on.leaf.on.there;
    over = on.leaf.on.over;
  }

  -- its record's place
  pub added_place : IsTreeKeyIn (ground w) k at
  added_place = place_on k (spot x.slot (length p.keys)) x.span at w p.trees on_way p.record_at

  few_before : length p.keys < 16
  few_before = p.record_at.index

  at_is : at ≡ page_at v.layout.slots x.slot (1 + (16 + 3 * length p.keys))
  at_is = p.record_at.word ∙ ap (λ (y : Layout). page_at y.slots x.slot (1 + (16 + 3 * length p.keys))) layout_same

  slot_is : slot_of v.layout.slots at ≡ x.slot
  slot_is = let word = at_is in let few = few_before in omega (arith, word, few)

  spot_is : spot_for w.layout k at ≡ spot x.slot (length p.keys)
  spot_is =
      trees_spot (ground w) k at added_place
      ∙ sym (tree_spot_of_word w.layout.slots (spot x.slot (length p.keys)) at p.record_at.index p.record_at.word)

  head_apart : head_at ≢ at
  head_apart same =
      let head : head_at ≡ page_at v.layout.slots x.slot 0 = refl in
      let word = at_is in absurd (omega (arith, same, head, word))

  -- no record stood there
  pub added_fresh : (q : Key) → IsAnyKeyAt v q at → ⊥
  added_fresh q (inl a) =
      let way : Way = record { slot = x.slot; span = x.span } in
      let same = live.agree a.way way a.has on.leaf.on.way (a.slot ∙ slot_is) in
      one_kind (decl_of v.layout.decls a.way.span.storage) a.kind
      (ap (λ (s : ℕ). is_tree v.layout.decls s) same.0 ∙ on.leaf.on.tree)
  added_fresh q (inr t) =
      let front = p.are.known t.leaf t.knows (t.same ∙ slot_is) in
      let few = front_length t.leaf.keys p.keys front in
      let below = at_below t.leaf.keys (tree_spot v.layout.slots at).index q t.key in
      let same : length p.keys ≡ (tree_spot v.layout.slots at).index =
      ap (λ (y : Spot). y.index) (tree_spot_of_word v.layout.slots (spot x.slot (length p.keys)) at p.record_at.index at_is) in
      absurd (omega (arith, few, below, same))

  -- what was met
  added_reads_are : (b : Bool) → keeps_header_at v.seat.kept x.slot (length p.keys) ≡ b
      → w.reads ≡ left_reads v.reads head_at (x.header + lock_bit) (x.header + 1) at
      (if b then Some (x.header + 1) else kept_at (with_read v.reads head_at (x.header + lock_bit)) head_at)
  added_reads_are b is =
      ap (λ (z : View). z.reads) p.is
      ∙ (ap (λ (c : Bool). added_reads c (with_read v.reads head_at (x.header + lock_bit)) head_at (x.header + 1)
      (page_at v.layout.slots x.slot (1 + (16 + 3 * length p.keys)))) is
      ∙ ap (λ (n : ℕ). added_reads b (with_read v.reads head_at (x.header + lock_bit)) head_at (x.header + 1) n) (sym at_is))

  added_kept : (b : Bool) → keeps_header_at v.seat.kept x.slot (length p.keys) ≡ b
      → w.seat.kept ≡ kept_on b v.seat.kept x.slot x.span p.keys k
  added_kept b is =
      ap (λ (z : View). z.seat.kept) p.is ∙ ap (λ (c : Bool). kept_on c v.seat.kept x.slot x.span p.keys k) is

  -- the walk, where no part says more than one did
  pub added_walked : GoesOn v.seat.kept w.seat.kept → OnlyWalked v w
  added_walked goes = record {
    drawn = subst (λ (z : View). IsFront v.history z.history) (sym p.is) (front_refl v.history);
    seen = subst (λ (z : View). IsFront v.decided z.decided) (sym p.is) (front_refl v.decided);
    since = let e : w.steps ≡ v.steps + 5 = ap (λ (z : View). z.steps) p.is in omega (arith, e);
    parts = λ part has. inr (inr (goes part has));
    touches = λ y has. inl (subst (λ (z : View). Contains z.touched y) p.is has);
    ways = added_more.ways;
    known = added_more.known;
    moved = λ y has. subst (λ (z : View). Contains z.moved y) (sym p.is) has;
    inners = added_more.inners;
    versions = λ y has. subst (λ (z : View). Contains z.versions y) (sym p.is) has;
    is = subst (λ (z : View). z ≡ as_walked v z) (sym p.is) refl;
  }

  -- the header's word was left as that of a leaf that wasn't split
  added_whole : seen_at w.reads head_at ≡ Some (x.header + 1) → IsUnsplitAt w at
  added_whole seen =
      let few = few_before in
      let count : x.header ≡ 256 + length p.keys = p.count ∙ sym (open_is (length p.keys)) in
      unsplit_at x.slot at w (record_slot (spot x.slot (length p.keys)) at k w p.record_at) record {
        word = x.header + 1;
        saw = ap (λ (y : Layout). seen_at w.reads (page_at y.slots x.slot 0)) layout_same ∙ seen;
        unsplit = omega (arith, count, few);
      }

  -- the slots that are held stay so
  pub added_can : (slots : List ℕ) → slots ≡ sets.holds → CanWalk slots w
  added_can slots same =
      let c = can_walk sets v live in record {
        active = subst (λ (z : View). IsActive z.role) (sym p.is) c.active;
        rest = ap (λ (z : View). is_trying z.seat.stage) p.is ∙ c.rest;
        holds = λ q. ap (λ (l : List ℕ). has_slot l q) same
            ∙ (c.holds q ∙ ap (λ (z : View). has_slot z.grip.holds q) (sym p.is));
        within = λ q has. subst (λ (y : Layout). q < y.slots) (sym layout_same)
            (c.within q (ap (λ (l : List ℕ). has_slot l q) (sym same) ∙ has));
        agree = added_agree;
        trees = p.trees;
        declared = subst (λ (y : Layout). AreDecls y.decls) (sym layout_same) c.declared;
      }

  -- ---- what is kept of the header

  -- its slot
  head_slot : slot_of v.layout.slots head_at ≡ x.slot
  head_slot = (let e : (head_at - (32 + v.layout.slots)) / 64 ≡ x.slot = omega arith in e)

  -- a part of it is that of the header of the set
  head_part_is : (h : Seen) (q : Part) → Contains sets.headers h → h.at ≡ head_at → IsMetHeader (ground v) h q
      → q ≡ head_part x.slot x.span p.keys
  head_part_is h q has same met =
      let slot : slot_of v.layout.slots h.at ≡ x.slot = ap (λ (n : ℕ). slot_of v.layout.slots n) same ∙ head_slot in
      let word : h.word ≡ open_word (length p.keys) = head_word h has same ∙ p.count in
      head_is v h q x.span p.keys live.trees met
      (subst (λ (n : ℕ). Contains v.ways (record { slot = n; span = x.span })) (sym slot) on.leaf.on.way)
      (subst (λ (n : ℕ). Contains v.known (record { slot = n; keys = p.keys })) (sym slot) knows_now) word
      ∙ ap (λ (n : ℕ). head_part n x.span p.keys) slot
    where
      head_word : (h : Seen) → Contains sets.headers h → h.at ≡ head_at → h.word ≡ x.header
      head_word h has same =
          let there : word_at head_at sets.headers ≡ Some h.word =
          ap (λ (n : ℕ). word_at n sets.headers) (sym same) ∙ pointer_word sets.headers h live.headers.once has in
          elim on.set [
            | inl none ↦ (let e : None ≡ Some h.word = sym none ∙ there in absurd (cc))
            | inr some ↦ (let e : Some h.word ≡ Some x.header = sym there ∙ some in cc)
          ]

  -- a part of a header's word is that of a header of the set
  by_known : (q : Part) → Contains v.seat.kept q → (s : ℕ) → same_word q.word (Header s) ≡ true
      → (h : Seen) × Contains sets.headers h × IsMetHeader (ground v) h q × (slot_of v.layout.slots h.at ≡ s)
  by_known q among s test = elim (live.parts.known q among) [
    | inl r ↦
        let m : IsReadPart (ground v) r.0 q = r.2 in
        absurd (true≢false (sym test ∙ ap (λ (z : Part). same_word z.word (Header s)) m.is))
    | inr more ↦ elim more [
      | inl r ↦
          let m : IsMetPointer v r.0 q = r.2 in
          absurd (true≢false (sym test ∙ ap (λ (z : Word). same_word z (Header s)) m.of.word))
      | inr r ↦ (
        r.0,
        r.1,
        r.2,
        eqb-true (slot_of v.layout.slots (r.0).at) s
            (sym (ap (λ (z : Part). same_word z.word (Header s)) (r.2).is) ∙ test),
      )
    ]
  ]

  -- the header of the leaf's slot stands at its place
  head_place : (h : Seen) (q : Part) → IsMetHeader (ground v) h q → slot_of v.layout.slots h.at ≡ x.slot → h.at ≡ head_at
  head_place h q met same = met.place ∙ ap (λ (n : ℕ). page_at v.layout.slots n 0) same

  -- where the set doesn't have it, no part is of it
  kept_not : has_word head_at sets.headers ≡ false → keeps_header_at v.seat.kept x.slot (length p.keys) ≡ false
  kept_not lacks = by_test (keeps_header_at v.seat.kept x.slot (length p.keys)) refl
    where
      by_test : (b : Bool) → keeps_header_at v.seat.kept x.slot (length p.keys) ≡ b
          → keeps_header_at v.seat.kept x.slot (length p.keys) ≡ false
      by_test true is =
          let q = any_is (λ (part : Part). same_word part.word (Header x.slot) && is_counted (length p.keys) part.version)
          v.seat.kept is in
          let h = by_known q.0 q.1 x.slot
          (and_parts (same_word (q.0).word (Header x.slot)) (is_counted (length p.keys) (q.0).version) q.2).0 in
          absurd (true≢false (sym (has_pointer sets.headers h.0 h.1)
          ∙ (ap (λ (n : ℕ). has_word n sets.headers) (head_place h.0 q.0 h.2 h.3) ∙ lacks)))
      by_test false is = is

  -- and where it has it, one is
  head_kept : has_word head_at sets.headers ≡ true → Contains v.seat.kept (head_part x.slot x.span p.keys)
  head_kept has =
      let h = any_is (λ (s : Seen). s.at == head_at) sets.headers has in
      let r = live.parts.headers h.0 h.1 in
      subst (Contains v.seat.kept) (head_part_is h.0 r.0 h.1 (eqb-true (h.0).at head_at h.2) r.2) r.1

  kept_so : has_word head_at sets.headers ≡ true → keeps_header_at v.seat.kept x.slot (length p.keys) ≡ true
  kept_so has =
      any_in (λ (part : Part). same_word part.word (Header x.slot) && is_counted (length p.keys) part.version) v.seat.kept
      (head_part x.slot x.span p.keys) (head_kept has)
      (ap (λ (b : Bool). b && (length p.keys == length p.keys)) (eq-eqb x.slot x.slot refl)
      ∙ eq-eqb (length p.keys) (length p.keys) refl)

  one_head : (q : Part) → Contains v.seat.kept q → same_word q.word (Header x.slot) ≡ true
      → q ≡ head_part x.slot x.span p.keys
  one_head q among test =
      let h = by_known q among x.slot test in head_part_is h.0 q h.1 (head_place h.0 q h.2 h.3) h.2

  -- no record was read whose word is that of the new one
  none_there : (f : ReadEntry) → Contains sets.reads f → f.at ≡ at → ⊥
  none_there f has same =
      added_fresh f.key (subst (λ (n : ℕ). IsAnyKeyAt v f.key n) same (live.parts.reads f has).2.place)

  -- the entry of the new record
  abbrev entry : ReadEntry
  entry = record { key = k; at = at; word = absent_word; value = 0 }

  -- no part is of the record
  no_record : (q : Part) → Contains v.seat.kept q → same_word q.word (Record (spot x.slot (length p.keys))) ≡ false
  no_record q among =
      subst (λ (y : Spot). same_word q.word (Record y) ≡ false) spot_is
      (entry_apart sets sets v w entry nothing live.decls added_agree added_more live.parts (inr added_place) none_there q among)

  -- ---- the header isn't kept

  goes_same : w.seat.kept ≡ v.seat.kept → GoesOn v.seat.kept w.seat.kept
  goes_same same part has = (
    part,
    subst (λ (l : List Part). Contains l part) same has,
    record { within = λ q over. over; same = λ q over. refl },
  )

  module _ (lacks : has_word head_at sets.headers ≡ false) where
    bare_kept : w.seat.kept ≡ v.seat.kept
    bare_kept = added_kept false (kept_not lacks)

    bare_reads : w.reads ≡ left_reads v.reads head_at (x.header + lock_bit) (x.header + 1) at
        (kept_at (with_read v.reads head_at (x.header + lock_bit)) head_at)
    bare_reads = added_reads_are false (kept_not lacks)

    -- the header's word is that of the leaf of the record
    head_is_of : head_of w k at added_place ≡ head_at
    head_is_of =
        ap (λ (n : ℕ). page_at w.layout.slots n 0)
        (added_place.slot ∙ (ap (λ (y : Layout). slot_of y.slots at) layout_same ∙ slot_is))
        ∙ ap (λ (y : Layout). page_at y.slots x.slot 0) layout_same

    bare_grown : HasGrownBare sets v w k at
    bare_grown = record {
      place = added_place;
      fresh = added_fresh;
      known = p.trees.known;
      lacks = ap (λ (n : ℕ). has_word n sets.headers) head_is_of ∙ lacks;
      only = λ a apart. elim (same_or a head_at) [
        | inl same ↦ inr (same ∙ sym head_is_of)
        | inr other ↦ inl (ap (λ (l : List Read). seen_at l a) bare_reads
            ∙ seen_left v.reads head_at (x.header + lock_bit) (x.header + 1) at a
            (kept_at (with_read v.reads head_at (x.header + lock_bit)) head_at) apart other)
      ];
      same = λ a. elim (same_or a head_at) [
        | inl same ↦ ap (λ (l : List Read). kept_at l a) bare_reads
            ∙ (ap (λ (n : ℕ). kept_at (left_reads v.reads head_at (x.header + lock_bit) (x.header + 1) at
            (kept_at (with_read v.reads head_at (x.header + lock_bit)) head_at)) n) same
            ∙ (kept_head v.reads head_at (x.header + lock_bit) (x.header + 1) at
            (kept_at (with_read v.reads head_at (x.header + lock_bit)) head_at)
            ∙ (kept_with v.reads head_at (x.header + lock_bit) head_at
            ∙ ap (λ (n : ℕ). kept_at v.reads n) (sym same))))
        | inr other ↦ ap (λ (l : List Read). kept_at l a) bare_reads
            ∙ kept_left v.reads head_at (x.header + lock_bit) (x.header + 1) at a
            (kept_at (with_read v.reads head_at (x.header + lock_bit)) head_at) other
      ];
      kept = bare_kept;
    }

    -- the transaction goes on with the same sets
    pub bare_brought : HasBrought k at sets sets v w
    bare_brought = record {
      live = live_bare sets v w k at live added_more added_agree p.trees bare_grown (added_walked (goes_same bare_kept))
          (added_can sets.holds refl);
      only = added_walked (goes_same bare_kept);
      paths = λ y has. inl (subst (λ (l : List Way). Contains l y) ways_same has);
      held = held_same k sets.holds sets.holds w refl;
      parts = goes_same bare_kept;
      keeps = λ q value had. subst (λ (l : List Part). Vouched l q value) (sym bare_kept) had;
      reads = inl refl;
      pointers = refl;
      headers = λ h has. has_pointer sets.headers h has;
      heads = refl;
      writes = refl;
      locks = inl touched_same;
      place = added_place;
      whole = inr (inl (added_whole (ap (λ (l : List Read). seen_at l head_at) bare_reads
          ∙ seen_head v.reads head_at (x.header + lock_bit) (x.header + 1) at
          (kept_at (with_read v.reads head_at (x.header + lock_bit)) head_at) head_apart)));
    }

  -- ---- the header is kept

  module _ (new : Sets) (has : has_word head_at sets.headers ≡ true) (reads : new.reads ≡ sets.reads ++ entry ∷ [])
      (pointers : new.pointers ≡ sets.pointers) (headers : new.headers ≡ renewed head_at (x.header + 1) sets.headers)
      (writes : new.writes ≡ sets.writes) (holds : new.holds ≡ sets.holds) (room : has_read_room sets ≡ true) where
    abbrev head : Part
    head = head_part x.slot x.span (p.keys ++ k ∷ [])

    abbrev h : Seen
    h = record { at = head_at; word = x.header + 1 }

    heads_same : length new.headers ≡ length sets.headers
    heads_same = ap (λ (l : List Seen). length l) headers ∙ length_renewed head_at (x.header + 1) sets.headers

    kept_is : w.seat.kept ≡ with_part (with_part v.seat.kept head) (record_part k (spot x.slot (length p.keys)) nothing)
    kept_is = added_kept true (kept_so has)

    kept_reads : w.reads ≡ left_reads v.reads head_at (x.header + lock_bit) (x.header + 1) at (Some (x.header + 1))
    kept_reads = added_reads_are true (kept_so has)

    goes : GoesOn v.seat.kept w.seat.kept
    goes =
        subst (GoesOn v.seat.kept) (sym kept_is)
        (grown_goes_on v.seat.kept x.slot x.span p.keys k (spot x.slot (length p.keys)) one_head no_record on.leaf.on.over
        new_key (head_kept has))
      where
        new_key : has_key p.keys k ≡ false
        new_key = subst (λ (l : List Key). has_key l k ≡ false) keys_are lacking

    long_is : length (p.keys ++ k ∷ []) ≡ length p.keys + 1
    long_is = length-append p.keys (k ∷ [])

    met_now : IsMetHeader (ground w) h head
    met_now =
        let slot : slot_of w.layout.slots head_at ≡ x.slot =
        ap (λ (y : Layout). slot_of y.slots head_at) layout_same ∙ head_slot in record {
          span = x.span;
          keys = p.keys ++ k ∷ [];
          has = subst (λ (n : ℕ). Contains w.ways (record { slot = n; span = x.span })) (sym slot) on_way.way;
          tree = on_way.tree;
          there = subst (λ (n : ℕ). n < w.layout.slots) (sym slot) on_way.there;
          place = ap (λ (y : Layout). page_at y.slots x.slot 0) (sym layout_same)
              ∙ ap (λ (n : ℕ). page_at w.layout.slots n 0) (sym slot);
          knows = subst (λ (n : ℕ). Contains w.known (record { slot = n; keys = p.keys ++ k ∷ [] })) (sym slot)
              (subst (λ (z : View). Contains z.known (record { slot = x.slot; keys = p.keys ++ k ∷ [] })) (sym p.is)
              (in_head (record { slot = x.slot; keys = p.keys ++ k ∷ [] })
              (record { slot = x.slot; keys = p.keys } ∷ v.known)));
          few = let long = long_is in let few = few_before in omega (arith, long, few);
          word = ap (λ (n : ℕ). n + 1) p.count
              ∙ (open_next (length p.keys) ∙ ap (λ (n : ℕ). open_word n) (sym long_is));
          is = ap (λ (n : ℕ). head_part n x.span (p.keys ++ k ∷ [])) (sym slot);
        }

    tree_key : is_tree w.layout.decls k.storage ≡ true
    tree_key = added_place.kind

    shown : IsWordOf w.layout.decls k nothing absent_word
    shown = record {
      small = record { draw = omega arith; epoch = omega arith };
      number = ap (λ (b : Bool). number_word (nothing).number + (if b then 0 else absent_field tree_leaf None))
          (no_array w.layout.decls k.storage tree_key);
    }

    kept_grown : HasGrownKept sets new v w h head entry nothing
    kept_grown = record {
      place = added_place;
      fresh = added_fresh;
      at = sym (ap (λ (n : ℕ). page_at w.layout.slots n 0)
          (added_place.slot ∙ (ap (λ (y : Layout). slot_of y.slots at) layout_same ∙ slot_is))
          ∙ ap (λ (y : Layout). page_at y.slots x.slot 0) layout_same);
      met = met_now;
      has = has;
      shown = shown;
      value = refl;
      reads = reads;
      pointers = pointers;
      writes = writes;
      headers = headers;
      kept = kept_is
          ∙ ap (λ (y : Spot). with_part (with_part v.seat.kept head) (record_part k y nothing)) (sym spot_is);
      seen = ap (λ (l : List Read). seen_at l at) kept_reads
          ∙ seen_record v.reads head_at (x.header + lock_bit) (x.header + 1) at (Some (x.header + 1));
      now = ap (λ (l : List Read). seen_at l head_at) kept_reads
          ∙ seen_head v.reads head_at (x.header + lock_bit) (x.header + 1) at (Some (x.header + 1)) head_apart;
      keeps = ap (λ (l : List Read). kept_at l head_at) kept_reads
          ∙ kept_head v.reads head_at (x.header + lock_bit) (x.header + 1) at (Some (x.header + 1));
      only = λ a apart. elim (same_or a head_at) [
        | inl same ↦ inr same
        | inr other ↦ inl (ap (λ (l : List Read). seen_at l a) kept_reads
            ∙ seen_left v.reads head_at (x.header + lock_bit) (x.header + 1) at a (Some (x.header + 1)) apart other)
      ];
      same = λ a apart. ap (λ (l : List Read). kept_at l a) kept_reads
          ∙ kept_left v.reads head_at (x.header + lock_bit) (x.header + 1) at a (Some (x.header + 1)) apart;
      room = room_entry sets new entry reads heads_same room;
    }

    -- the transaction goes on with one more record that was read
    pub kept_brought : HasBrought k at sets new v w
    kept_brought = record {
      live = live_kept sets new v w h head entry nothing live added_more added_agree p.trees kept_grown
          (added_walked goes) (added_can new.holds holds);
      only = added_walked goes;
      paths = λ y there. inl (subst (λ (l : List Way). Contains l y) ways_same there);
      held = held_same k sets.holds new.holds w holds;
      parts = goes;
      keeps = subst (PartsStay v.seat.kept) (sym kept_is)
          (grown_stay v.seat.kept x.slot x.span p.keys k (spot x.slot (length p.keys)) one_head no_record);
      reads = inr (entry, refl, refl, reads);
      pointers = pointers;
      headers = λ q there.
          let r = renewed_cases h sets.headers q (subst (λ (l : List Seen). Contains l q) headers there) in
          elim r [
            | inl old ↦ has_pointer sets.headers q old.0
            | inr same ↦ ap (λ (z : Seen). has_word z.at sets.headers) (sym same) ∙ has
          ];
      heads = heads_same;
      writes = writes;
      locks = inl touched_same;
      place = added_place;
      whole = inr (inl (added_whole kept_grown.now));
    }
