-- A leaf of a tree that was split for a write: the transaction goes on, where its sets name no word of the leaf.
use Rattle.std.proofs.Common.{◌≡◌, ◌≢◌, ◌⊎◌, inl, inr, ℕ, ◌+◌, ◌-◌, ◌*◌, ◌/◌, ◌%◌, ◌<◌, ◌≤◌, Bool, true, false, true≢false}
use Rattle.std.proofs.Common.{List, [], ◌∷◌, length, get_or, refl, sym, ap, ◌∙◌, subst, arith, Some, None, eqb, eqb-true}
use Rattle.std.proofs.Common.{cond, eq-eqb}
use Rattle.std.specs.Prelude.{take, Contains, ◌||◌, nat_le, nat_lt}
use Rattle.std.specs.List.{find}
use Rattle.std.proofs.lemmas.Bool.{and_from, and_parts}
use Rattle.std.proofs.lemmas.Bool.Decides.{nat_tests}
use Rattle.lists.specs.Each.{AreDistinct}
use Rattle.lists.specs.Elements.{in_cases, in_head, in_none, in_tail}
use Rattle.lists.specs.Fronts.{front_refl, IsFront}
use Rattle.serial_model.specs.declared.key.Key.{Key}
use Rattle.serial_model.specs.Decls.{AreDecls}
use Rattle.homes.specs.declared.places.Span.{Span}
use Rattle.homes.specs.Homes.{in_span}
use Rattle.homes.specs.Laws.{in_span-parts}
use Rattle.commit_core.specs.declared.part.Part.{Part}
use Rattle.commit_core.specs.CoreState.{is_trying}
use Rattle.serial_bridge.specs.Transaction.{Vouched}
use Rattle.drop_core.specs.Table.{has_slot}
use Rattle.tx_sets.specs.declared.reads.ReadEntry.{ReadEntry}
use Rattle.tx_sets.specs.declared.seen.Seen.{Seen}
use Rattle.tx_sets.specs.declared.sets.Sets.{Sets}
use Rattle.tx_sets.specs.Entries.{has_word, is_in_page, places_of, read_in}
use Rattle.engine_pages.specs.declared.layout.Layout.{Layout}
use Rattle.engine_pages.specs.declared.view.Moved.{Moved}
use Rattle.engine_pages.specs.declared.view.NewLeaf.{NewLeaf}
use Rattle.engine_pages.specs.declared.view.View.{View}
use Rattle.engine_pages.specs.declared.view.Way.{Way}
use Rattle.engine_pages.specs.Layout.{page_at}
use Rattle.engine_pages.specs.Pages.{decl_of, is_array, is_tree}
use Rattle.engine_pages.specs.Pointers.{one_kind}
use Rattle.engine_pages.specs.Steps.{seen_at}
use Rattle.engine_pages.specs.Views.{seat_number, IsActive}
use Rattle.engine_pages.specs.Words.{spot}
use Rattle.array_pages.specs.Walks.{HoldsAre}
use Rattle.foster_tree.specs.Locking.{no_key, with_touches, IsMetIndex, KnowsFull}
use Rattle.foster_tree.specs.Splitting.{HasSplitLeaf}
use Rattle.tree_walks.specs.declared.ways.Leaf.{Leaf}
use Rattle.tree_walks.specs.Walks.{CanWalk}
use Rattle.tree_walks.specs.Ways.{half_for, IsLeafOn, IsOnWay}
use Rattle.page_commit.specs.HeaderParts.{AreHeaders, IsMetHeader}
use Rattle.page_commit.specs.Live.{entry_places, AreInside, AreMet, ArePointersKept, ArePointersMet, HasHolds}
use Rattle.page_commit.specs.Live.{IsLive, IsTreeWordIn, StandsIn}
use Rattle.page_commit.specs.Places.{ground, slot_of, word_of, IsPointerIn, IsTreeKeyIn}
use Rattle.page_commit.specs.Turning.{as_walked, OnlyWalked}
use Rattle.page_commit.proofs.AnyPlaces.{met_tree}
use Rattle.page_commit.proofs.BroughtLaws.{parts_grown}
use Rattle.page_commit.proofs.GrowLaws.{entry_at, met_before, pointer_grown, stands_grown, KnowsMore}
use Rattle.page_commit.proofs.HeaderLaws.{headers_aside}
use Rattle.page_commit.proofs.PointerLaws.{has_pointer}
use Rattle.page_commit.proofs.RoomLaws.{room_same}
use Rattle.page_commit.proofs.WalkedLaws.{can_walk, kept_walked, live_grown, only_walked_same}
use Rattle.tree_writes.specs.Causes.{names_page}
use Rattle.tree_writes.specs.Writing.{HasBrought, HasSplitUnnamed}
use Rattle.tree_writes.proofs.LeafStops.{leaf_record}
use Rattle.tree_writes.proofs.MadeLaws.{place_on, record_slot}
use Rattle.tree_writes.proofs.NamedLaws.{head_none, read_none}

-- ---- words of one page

met_below : (i : ℕ) → IsMetIndex i → i < 64
met_below i (inl low) = (let less : i < 16 = low in omega (arith, less))
met_below i (inr m) =
    let few : m.0 < 16 = m.1 in
    elim m.2 [
      | inl is ↦ (let e : i ≡ 1 + (16 + 3 * m.0) = is in omega (arith, few, e))
      | inr is ↦ (let e : i ≡ (1 + (16 + 3 * m.0)) + 1 = is in omega (arith, few, e))
    ]

-- by tests
le_from : (a b : ℕ) → nat_le a b ≡ true → a ≤ b
le_from a b test = grind (arith, nat_tests)

lt_from : (a b : ℕ) → nat_lt a b ≡ true → a < b
lt_from a b test = grind (arith, nat_tests)

low_test : (a b : ℕ) → a < b → nat_lt a b ≡ true
low_test a b less = grind (arith, nat_tests)

high_test : (a b : ℕ) → b ≤ a → nat_lt a b ≡ false
high_test a b from = grind (arith, nat_tests)

-- a word that isn't one of the page
page_apart : (slots t a i : ℕ) → is_in_page (page_at slots t 0) a ≡ false → i < 64 → a ≢ page_at slots t i
page_apart slots t a i out less same =
    let is : a ≡ ((32 + slots) + 64 * t) + i = same in
    let first : ((32 + slots) + 64 * t) + 0 ≤ a = omega (arith, is) in
    let last : a < (((32 + slots) + 64 * t) + 0) + 64 = omega (arith, is, less) in
    let low : nat_le (((32 + slots) + 64 * t) + 0) a ≡ true = grind (arith, nat_tests) in
    let high : nat_lt a ((((32 + slots) + 64 * t) + 0) + 64) ≡ true = grind (arith, nat_tests) in
    true≢false (sym (and_from (nat_le (((32 + slots) + 64 * t) + 0) a) (nat_lt a ((((32 + slots) + 64 * t) + 0) + 64)) low high)
    ∙ out)

-- where none is found, none is one
none_found : (p : ReadEntry → Bool) (xs : List ReadEntry) (e : ReadEntry) → find p xs ≡ None → Contains xs e → p e ≡ false
none_found p [] e none has = absurd (in_none e has)
none_found p (y ∷ xs) e none has = by_test (p y) refl (λ later there. none_found p xs e later there)
  where
    some_none : (z : ReadEntry) → Some z ≡ None → ⊥
    some_none z same = absurd cc

    by_test : (b : Bool) → p y ≡ b → (find p xs ≡ None → Contains xs e → p e ≡ false) → p e ≡ false
    by_test true hit rest = absurd (some_none y (sym (ap (λ (c : Bool). cond c (Some y) (find p xs)) hit) ∙ none))
    by_test false miss rest = elim (in_cases e y xs has) [
      | inl same ↦ ap p (sym same) ∙ miss
      | inr later ↦ rest (sym (ap (λ (c : Bool). cond c (Some y) (find p xs)) miss) ∙ none) later
    ]

-- ---- behind the split

module _ (sets new : Sets) (v w : View) (k : Key) (x : Leaf) (at : ℕ) (live : IsLive sets v)
    (on : IsLeafOn k sets.headers x v) (p : HasSplitLeaf x.slot x.span k at v w) (now : HoldsAre new.holds w) where
  layout_same : w.layout ≡ v.layout
  layout_same = ap (λ (z : View). z.layout) p.is

  ways_are : w.ways ≡ record { slot = p.half.slot; span = p.half.span } ∷ v.ways
  ways_are = ap (λ (z : View). z.ways) p.is

  holds_are : w.grip.holds ≡ p.half.slot ∷ v.grip.holds
  holds_are = ap (λ (z : View). z.grip.holds) p.is

  kept_same : w.seat.kept ≡ v.seat.kept
  kept_same = ap (λ (z : View). z.seat.kept) p.is

  pub split_more : KnowsMore v w
  split_more = record {
    layout = layout_same;
    ways = λ y has. subst (λ (l : List Way). Contains l y) (sym ways_are)
        (in_tail y (record { slot = p.half.slot; span = p.half.span }) v.ways has);
    known = λ y has. subst (λ (z : View). Contains z.known y) (sym p.is)
        (in_tail y (record { slot = p.half.slot; keys = p.half.keys }) (record { slot = x.slot; keys = p.keys } ∷ v.known)
        (in_tail y (record { slot = x.slot; keys = p.keys }) v.known has));
    inners = λ y has. subst (λ (z : View). Contains z.inners y) (sym p.is) has;
    leads = λ y has. subst (λ (z : View). Contains z.leads y) (sym p.is) has;
    pages = subst (λ (z : View). IsFront v.pages z.pages) (sym p.is) (front_refl v.pages);
  }

  pub split_walked : OnlyWalked v w
  split_walked = record {
    drawn = subst (λ (z : View). IsFront v.history z.history) (sym p.is) (front_refl v.history);
    seen = subst (λ (z : View). IsFront v.decided z.decided) (sym p.is) (front_refl v.decided);
    since = p.worked.since;
    parts = λ part has. inl (subst (λ (l : List Part). Contains l part) kept_same has);
    touches = p.worked.touches;
    ways = split_more.ways;
    known = split_more.known;
    moved = λ y has. subst (λ (z : View). Contains z.moved y) (sym p.is)
        (in_tail y (record { slot = x.slot; minor = p.lower.slot; major = p.upper.slot; separator = p.separator }) v.moved has);
    inners = split_more.inners;
    versions = p.worked.versions;
    is = subst (λ (z : View). z ≡ as_walked v z) (sym p.is) refl;
  }

  -- the slots that are held
  held_cases : (q : ℕ) → has_slot new.holds q ≡ true → (p.half.slot ≡ q) ⊎ (has_slot v.grip.holds q ≡ true)
  held_cases q has = by_test (eqb p.half.slot q) refl
    where
      by_test : (b : Bool) → eqb p.half.slot q ≡ b → (p.half.slot ≡ q) ⊎ (has_slot v.grip.holds q ≡ true)
      by_test true hit = inl (eqb-true p.half.slot q hit)
      by_test false miss =
          inr (sym (ap (λ (b : Bool). b || has_slot v.grip.holds q) miss)
          ∙ (sym (ap (λ (l : List ℕ). has_slot l q) holds_are) ∙ (sym (now q) ∙ has)))

  pub split_holds : HasHolds new.holds w
  split_holds = record {
    holds = now;
    within = λ q has. elim (held_cases q has) [
      | inl same ↦ subst (λ (n : ℕ). n < w.layout.slots) same p.record_at.there
      | inr old ↦ subst (λ (y : Layout). q < y.slots) (sym layout_same) (live.holds.within q (live.holds.holds q ∙ old))
    ];
    made = ap (λ (y : View). y.grip.made) p.is ∙ live.holds.made;
    taken = ap (λ (y : View). y.grip.taken) p.is ∙ live.holds.taken;
    drafts = ap (λ (y : View). y.drafts) p.is ∙ live.holds.drafts;
    copies = ap (λ (y : View). y.copies) p.is ∙ live.holds.copies;
    blanks = ap (λ (y : View). y.blanks) p.is ∙ live.holds.blanks;
    leaves = ap (λ (y : View). y.new_leaves) p.is ∙ live.holds.leaves;
    inners = ap (λ (y : View). y.new_inners) p.is ∙ live.holds.inners;
    heads = ap (λ (y : View). y.heads) p.is ∙ live.holds.heads;
  }

  pub split_can : CanWalk new.holds w
  split_can =
      let c = can_walk sets v live in record {
        active = subst (λ (z : View). IsActive z.role) (sym p.is) c.active;
        rest = ap (λ (z : View). is_trying z.seat.stage) p.is ∙ c.rest;
        holds = now;
        within = split_holds.within;
        agree = p.agree;
        trees = p.trees;
        declared = subst (λ (y : Layout). AreDecls y.decls) (sym layout_same) c.declared;
      }

  -- the leaf that was split is still the page of its way
  pub old_on : IsOnWay k w x.slot x.span
  old_on = record {
    way = split_more.ways (record { slot = x.slot; span = x.span }) on.leaf.on.way;
    tree = subst (λ (y : Layout). is_tree y.decls x.span.storage ≡ true) (sym layout_same) on.leaf.on.tree;
    there = subst (λ (y : Layout). x.slot < y.slots) (sym layout_same) on.leaf.on.there;
    over = on.leaf.on.over;
  }

  old_known : Contains w.known (record { slot = x.slot; keys = p.keys })
  old_known =
      subst (λ (z : View). Contains z.known (record { slot = x.slot; keys = p.keys })) (sym p.is)
      (in_tail (record { slot = x.slot; keys = p.keys }) (record { slot = p.half.slot; keys = p.half.keys })
      (record { slot = x.slot; keys = p.keys } ∷ v.known) (in_head (record { slot = x.slot; keys = p.keys }) v.known))

  -- what a load of a record that was moved asks
  pub old_full : KnowsFull w x.slot x.span p.keys
  old_full = record {
    active = split_can.active;
    idle = ap (λ (z : View). z.seat.stage) p.is ∙ live.stage;
    page = record { way = old_on.way; tree = old_on.tree };
    there = old_on.there;
    knows = old_known;
    full = p.full;
    once = p.are.once;
    inside = p.are.inside;
  }

  -- its locks were taken by all of its keys
  taken_keys : p.taken.keys ≡ p.keys
  taken_keys =
      let front = p.are.known (record { slot = x.slot; keys = p.taken.keys }) p.taken.knows refl in
      let one : length p.taken.keys ≡ 16 = p.taken.full in
      let two : length p.keys ≡ 16 = p.full in
      let long : length p.taken.keys ≡ length p.keys = omega (arith, one, two) in
      sym front ∙ (ap (λ (n : ℕ). take n p.keys) long ∙ front_refl p.keys)

  -- its halves
  abbrev halves : Moved
  halves = record { slot = x.slot; minor = p.lower.slot; major = p.upper.slot; separator = p.separator }

  knows_halves : Contains w.moved halves
  knows_halves = subst (λ (z : View). Contains z.moved halves) (sym p.is) (in_head halves v.moved)

  pub old_moved : (y : Moved) × Contains w.moved y × (y.slot ≡ x.slot)
  old_moved = (halves, knows_halves, refl)

  -- the key's record stands in the half that has the key
  split_half : slot_of w.layout.slots at ≡ half_for halves k
  split_half = record_slot (spot p.half.slot p.index) at k w p.record_at ∙ by_side p.is_half
    where
      by_side : ((p.half ≡ p.lower) × (k.key < p.separator)) ⊎ ((p.half ≡ p.upper) × (p.separator ≤ k.key))
          → p.half.slot ≡ half_for halves k
      by_side (inl low) =
          ap (λ (y : NewLeaf). y.slot) low.0
          ∙ sym (ap (λ (b : Bool). cond b p.lower.slot p.upper.slot) (low_test k.key p.separator low.1))
      by_side (inr high) =
          ap (λ (y : NewLeaf). y.slot) high.0
          ∙ sym (ap (λ (b : Bool). cond b p.lower.slot p.upper.slot) (high_test k.key p.separator high.1))

  -- the key's record
  pub split_place : IsTreeKeyIn (ground w) k at
  split_place =
      place_on k (spot p.half.slot p.index) p.half.span at w p.trees record {
        way = subst (λ (l : List Way). Contains l (record { slot = p.half.slot; span = p.half.span })) (sym ways_are)
            (in_head (let y : Way = record { slot = p.half.slot; span = p.half.span } in y) v.ways);
        tree = subst (λ (s : ℕ). is_tree w.layout.decls s ≡ true) (in_span-parts p.half.span k p.inside).0 p.record_at.kind;
        there = p.record_at.there;
        over = p.inside;
      } p.record_at

  -- ---- where the sets name no word of the leaf

  module _ (unnamed : names_page (page_at v.layout.slots x.slot 0) sets ≡ false) (reads : new.reads ≡ sets.reads)
      (pointers : new.pointers ≡ sets.pointers) (headers : new.headers ≡ sets.headers)
      (writes : new.writes ≡ sets.writes) where
    no_head : has_word (page_at v.layout.slots x.slot 0) sets.headers ≡ false
    no_head = head_none (page_at v.layout.slots x.slot 0) sets unnamed

    no_read : read_in (page_at v.layout.slots x.slot 0) sets.reads ≡ None
    no_read = read_none (page_at v.layout.slots x.slot 0) sets unnamed

    -- of a word of another page the same is known
    outside : (a : ℕ) → ((i : ℕ) → i < 64 → a ≢ page_at v.layout.slots x.slot i)
        → seen_at w.reads a ≡ seen_at v.reads a
    outside a apart = p.worked.others a (λ i is. apart i (met_below i is))

    -- the slot of a word of the page
    in_slot : (a i : ℕ) → i < 64 → a ≡ page_at v.layout.slots x.slot i → slot_of w.layout.slots a ≡ x.slot
    in_slot a i less same =
        ap (λ (y : Layout). slot_of y.slots a) layout_same
        ∙ (let is : a ≡ ((32 + v.layout.slots) + 64 * x.slot) + i = same in
        let e : (a - (32 + v.layout.slots)) / 64 ≡ x.slot = omega (arith, less, is) in e)

    not_array : (way : Way) → Contains w.ways way → way.slot ≡ x.slot
        → is_array w.layout.decls way.span.storage ≡ true → ⊥
    not_array way has same array =
        let own : Way = record { slot = x.slot; span = x.span } in
        let spans = p.agree way own has old_on.way same in
        one_kind (decl_of w.layout.decls way.span.storage) array
        (ap (λ (s : ℕ). is_tree w.layout.decls s) spans.0 ∙ old_on.tree)

    -- a record that was read stands in another page
    entry_out : (e : ReadEntry) → Contains sets.reads e → (i : ℕ) → i < 64 → e.at ≢ page_at v.layout.slots x.slot i
    entry_out e has i less =
        page_apart v.layout.slots x.slot e.at i
        (none_found (λ (r : ReadEntry). is_in_page (page_at v.layout.slots x.slot 0) r.at) sets.reads e no_read has) less

    met_split : AreMet sets.reads [] w
    met_split = record {
      arrays = λ q a place clear.
          outside a (λ i less same. not_array place.way place.has (place.slot ∙ in_slot a i less same) place.kind)
          ∙ met_before sets v w q a live split_more p.agree place;
      trees = λ q a n place clear read.
          let e = entry_at sets.reads a n read in
          outside a (λ i less same. entry_out e.0 e.1 i less (e.2 ∙ same))
          ∙ met_tree sets v w q a n live split_more p.agree place read;
    }

    pointer_out : (sp : Span) (a : ℕ) → IsPointerIn (ground w) sp a → (i : ℕ) → i < 64
        → a ≢ page_at v.layout.slots x.slot i
    pointer_out sp a (inl r) i less same =
        let few = r.few in
        let word : a ≡ 10 + r.root = r.word in
        let is : a ≡ ((32 + v.layout.slots) + 64 * x.slot) + i = same in absurd (omega (arith, few, word, is))
    pointer_out sp a (inr (inl c)) i less same = not_array c.way c.has (c.slot ∙ in_slot a i less same) c.kind
    pointer_out sp a (inr (inr b)) i less same =
        let none : p.keys ≡ [] =
        p.trees.apart (record { slot = x.slot; keys = p.keys }) b.inner old_known b.knows
        (sym (b.same ∙ in_slot a i less same)) in
        let long : length p.keys ≡ 16 = p.full in
        let short : length p.keys ≡ 0 = ap (λ (l : List Key). length l) none in absurd (omega (arith, long, short))

    points_split : ArePointersMet sets.pointers w
    points_split q has =
        let r = live.parts.pointers q has in
        outside q.at (pointer_out r.2.span q.at (pointer_grown v w r.2.span q.at split_more r.2.place)) ∙ live.points q has

    header_out : (h : Seen) → Contains sets.headers h → (i : ℕ) → i < 64 → h.at ≢ page_at v.layout.slots x.slot i
    header_out h has i less same =
        let r = live.parts.headers h has in
        let m : IsMetHeader (ground v) h r.0 = r.2 in
        let is : h.at ≡ ((32 + v.layout.slots) + 64 * x.slot) + i = same in
        let slot : (h.at - (32 + v.layout.slots)) / 64 ≡ x.slot = omega (arith, less, is) in
        let first : h.at ≡ page_at v.layout.slots x.slot 0 =
        m.place ∙ ap (λ (n : ℕ). page_at v.layout.slots n 0) slot in
        true≢false (sym (has_pointer sets.headers h has) ∙ (ap (λ (n : ℕ). has_word n sets.headers) first ∙ no_head))

    headers_split : AreHeaders sets.headers w
    headers_split =
        headers_aside sets.headers v w (λ h has. (outside h.at (header_out h has), p.worked.words h.at)) live.headers

    -- ---- what was met stands where the pass knows of it

    at_index : (a n : ℕ) → seen_at w.reads a ≡ Some n → (i : ℕ) → i < 64 → a ≡ page_at v.layout.slots x.slot i
        → StandsIn (ground w) a
    at_index a n found i less same = by_low (nat_lt i 16) refl
      where
        is : a ≡ ((32 + v.layout.slots) + 64 * x.slot) + i
        is = same

        head : IsTreeWordIn (ground w) (record { slot = x.slot; span = x.span }) a → StandsIn (ground w) a
        head word = inr (record { slot = x.slot; span = x.span }, old_on.way, in_slot a i less same, inr word)

        record_at : (j : ℕ) → j < 16 → (i ≡ 17 + 3 * j) ⊎ (i ≡ 18 + 3 * j) → StandsIn (ground w) a
        record_at j few where_is =
            let below : j < length p.keys = let full = p.full in omega (arith, few, full) in
            let other : ℕ = page_at w.layout.slots x.slot (1 + (16 + 3 * j)) in
            let place = leaf_record k x.slot x.span p.keys w j p.trees old_on old_known p.are.inside below few in
            let here : page_at w.layout.slots x.slot (1 + (16 + 3 * j)) ≡ ((32 + v.layout.slots) + 64 * x.slot) + (17 + 3 * j) =
            ap (λ (y : Layout). page_at y.slots x.slot (1 + (16 + 3 * j))) layout_same
            ∙ (let e : ((32 + v.layout.slots) + 64 * x.slot) + (1 + (16 + 3 * j))
            ≡ ((32 + v.layout.slots) + 64 * x.slot) + (17 + 3 * j) = omega arith in e) in
            head (inr (inr (
              get_or p.keys j no_key,
              other,
              place,
              elim where_is [
                | inl e ↦ inl (omega (arith, is, e, here))
                | inr e ↦ inr (omega (arith, is, e, here))
              ],
            )))

        by_rest : (b : Bool) → 16 ≤ i → eqb ((i - 16) % 3) 0 ≡ b → StandsIn (ground w) a
        by_rest true low rest =
            let zero_rest : (i - 16) % 3 ≡ 0 = eqb-true ((i - 16) % 3) 0 rest in
            let unmet : seen_at w.reads a ≡ seen_at v.reads a =
            p.worked.others a (λ j met there.
            let e : a ≡ ((32 + v.layout.slots) + 64 * x.slot) + j = there in
            let index : j ≡ i = omega (arith, is, e) in
            elim met [
              | inl first ↦ (let f : j < 16 = first in absurd (omega (arith, f, index, low)))
              | inr m ↦ elim m.2 [
                | inl word ↦ (let f : j ≡ 1 + (16 + 3 * m.0) = word in absurd (omega (arith, f, index, zero_rest)))
                | inr word ↦ (let f : j ≡ (1 + (16 + 3 * m.0)) + 1 = word in absurd (omega (arith, f, index, zero_rest)))
              ]
            ]) in
            stands_grown v w a split_more (live.inside a n (sym unmet ∙ found))
        by_rest false low rest =
            let some_rest : (i - 16) % 3 ≢ 0 = λ e. true≢false (sym (eq-eqb ((i - 16) % 3) 0 e) ∙ rest) in
            record_at ((i - 16) / 3) (omega (arith, less, low)) (by_one (eqb ((i - 16) % 3) 1) refl some_rest)
          where
            by_one : (c : Bool) → eqb ((i - 16) % 3) 1 ≡ c → (i - 16) % 3 ≢ 0
                → (i ≡ 17 + 3 * ((i - 16) / 3)) ⊎ (i ≡ 18 + 3 * ((i - 16) / 3))
            by_one true one some = let e = eqb-true ((i - 16) % 3) 1 one in inl (omega (arith, e, low))
            by_one false other some =
                let e : (i - 16) % 3 ≢ 1 = λ f. true≢false (sym (eq-eqb ((i - 16) % 3) 1 f) ∙ other) in
                inr (omega (arith, e, some, low))

        by_low : (b : Bool) → nat_lt i 16 ≡ b → StandsIn (ground w) a
        by_low true low =
            let first : i < 16 = grind (arith, nat_tests) in
            let word : word_of w.layout.slots a ≡ i =
            ap (λ (y : Layout). word_of y.slots a) layout_same
            ∙ (let e : (a - (32 + v.layout.slots)) % 64 ≡ i = omega (arith, is, less) in e) in
            head (inl (subst (λ (m : ℕ). m < 16) (sym word) first))
        by_low false high =
            let from : 16 ≤ i = grind (arith, nat_tests) in by_rest (eqb ((i - 16) % 3) 0) from refl

    inside_split : AreInside w
    inside_split a n found = by_test (is_in_page (page_at v.layout.slots x.slot 0) a) refl
      where
        by_test : (b : Bool) → is_in_page (page_at v.layout.slots x.slot 0) a ≡ b → StandsIn (ground w) a
        by_test true inside =
            let parts = and_parts (nat_le (page_at v.layout.slots x.slot 0) a)
            (nat_lt a (page_at v.layout.slots x.slot 0 + 64)) inside in
            let low : ((32 + v.layout.slots) + 64 * x.slot) + 0 ≤ a =
            le_from (((32 + v.layout.slots) + 64 * x.slot) + 0) a parts.0 in
            let high : a < (((32 + v.layout.slots) + 64 * x.slot) + 0) + 64 =
            lt_from a ((((32 + v.layout.slots) + 64 * x.slot) + 0) + 64) parts.1 in
            at_index a n found (a - ((32 + v.layout.slots) + 64 * x.slot)) (omega (arith, low, high))
            (let e : a ≡ ((32 + v.layout.slots) + 64 * x.slot) + (a - ((32 + v.layout.slots) + 64 * x.slot)) =
            omega (arith, low) in e)
        by_test false out =
            stands_grown v w a split_more
            (live.inside a n (sym (outside a (λ i less. page_apart v.layout.slots x.slot a i out less)) ∙ found))

    -- ---- the transaction

    split_live : IsLive new w
    split_live = live_grown sets new v w live split_walked split_more split_can record {
      parts = parts_grown sets new v w live p.agree split_more reads pointers headers kept_same;
      places = subst (λ (l : List ReadEntry). AreDistinct (entry_places l)) (sym reads) live.places;
      once = subst (λ (l : List Seen). AreDistinct (places_of l)) (sym pointers) live.once;
      writes = writes;
      met = subst (λ (l : List ReadEntry). AreMet l [] w) (sym reads) met_split;
      points = subst (λ (l : List Seen). ArePointersMet l w) (sym pointers) points_split;
      kept = subst (λ (l : List Seen). ArePointersKept l w) (sym pointers) (kept_walked sets v w live p.worked.words);
      headers = subst (λ (l : List Seen). AreHeaders l w) (sym headers) headers_split;
      only = only_walked_same sets new v w live p.worked.words pointers headers;
      inside = inside_split;
      room = room_same sets new reads headers live.room;
    }

    -- the locks that were taken
    abbrev split_unnamed : HasSplitUnnamed k sets v w
    split_unnamed = record {
      slot = x.slot;
      span = x.span;
      way = old_on.way;
      over = old_on.over;
      keys = p.keys;
      knows = old_known;
      full = p.full;
      once = p.are.once;
      inside = p.are.inside;
      moved = (halves, knows_halves, refl);
      touched = p.taken.is ∙ ap (λ (l : List Key). with_touches v.touched (seat_number v.role) l 16) taken_keys;
      unnamed = ap (λ (y : Layout). names_page (page_at y.slots x.slot 0) sets) layout_same ∙ unnamed;
    }

    pub split_brought : HasBrought k at sets new v w
    split_brought = record {
      live = split_live;
      only = split_walked;
      paths = λ y has. elim (in_cases y (record { slot = p.half.slot; span = p.half.span }) v.ways
          (subst (λ (l : List Way). Contains l y) ways_are has)) [
            | inl same ↦ inr (inl (subst (λ (z : Way). in_span z.span k ≡ true) same p.inside))
            | inr old ↦ inl old
          ];
      held = λ q has none. elim (held_cases q has) [
        | inl same ↦ (
          record { slot = p.half.slot; span = p.half.span },
          subst (λ (l : List Way). Contains l (record { slot = p.half.slot; span = p.half.span })) (sym ways_are)
              (in_head (let y : Way = record { slot = p.half.slot; span = p.half.span } in y) v.ways),
          same,
          p.inside,
        )
        | inr old ↦ absurd (true≢false (sym old ∙ (sym (live.holds.holds q) ∙ none)))
      ];
      parts = λ part has. (
        part,
        subst (λ (l : List Part). Contains l part) kept_same has,
        record { within = λ q over. over; same = λ q over. refl },
      );
      keeps = λ q value had. subst (λ (l : List Part). Vouched l q value) (sym kept_same) had;
      reads = inl reads;
      pointers = pointers;
      headers = λ h has. has_pointer sets.headers h (subst (λ (l : List Seen). Contains l h) headers has);
      heads = ap (λ (l : List Seen). length l) headers;
      writes = writes;
      locks = inr split_unnamed;
      place = split_place;
      whole = inr (inr record { split = split_unnamed; half = split_half });
    }
