-- A chain was dropped or kept, and all its slots are left: what the visit of its pointer comes to.
use Rattle.std.proofs.Common.{◌≡◌, ◌≢◌, ◌⊎◌, inl, inr, ℕ, zero, suc, ◌+◌, ◌<◌, ◌≤◌, Bool, true, false, true≢false, eqb, eq-eqb, eqb-true}
use Rattle.std.proofs.Common.{List, [], ◌∷◌, ◌++◌, length, replicate, Option, Some, None, refl, sym, ap, ◌∙◌, subst, arith}
use Rattle.std.specs.Prelude.{◌||◌, reverse, ⊤}
use Rattle.std.specs.List.{Contains}
use Rattle.std.proofs.lemmas.List.{append-nil, append_assoc, reverse-append}
use Rattle.lists.specs.Elements.{in_cases, in_head, in_none, in_tail}
use Rattle.lists.specs.Fronts.{IsFront, front_refl}
use Rattle.drop_core.specs.declared.grip.Grip.{Grip}
use Rattle.drop_core.specs.Event.{without}
use Rattle.drop_core.specs.Table.{has_slot}
use Rattle.engine_pages.specs.declared.layout.Layout.{Layout}
use Rattle.engine_pages.specs.declared.view.Inner.{Inner}
use Rattle.engine_pages.specs.declared.view.KeptPage.{KeptPage}
use Rattle.engine_pages.specs.declared.view.KeptWhy.{KeptWhy}
use Rattle.engine_pages.specs.declared.view.KeptWhy.TheVariants.{Changed}
use Rattle.engine_pages.specs.declared.view.Swung.{Swung}
use Rattle.engine_pages.specs.declared.view.View.{View}
use Rattle.engine_pages.specs.declared.view.Way.{Way}
use Rattle.engine_pages.specs.Slots.{MayRetire, left, retired}
use Rattle.engine_pages.specs.Steps.{kept_at}
use Rattle.chain_steps.specs.declared.halves.Half.{Half}
use Rattle.chain_steps.specs.Notes.{last_note, noted_again}
use Rattle.chain_steps.specs.Swings.{slots_of, swung_all, swung_chain}
use Rattle.page_drops.specs.declared.calls.Dropped.{Dropped}
use Rattle.page_drops.specs.declared.noting.Kept.{Kept}
use Rattle.page_drops.specs.Calls.{IsElsewhere, IsNoteOf}
use Rattle.page_drops.specs.Works.{read_of, SawMore}
use Rattle.page_drops.proofs.Entries.{entry_of, own_entry}
use Rattle.page_drops.proofs.Holds.{as_held, without_first}
use Rattle.tree_drops.specs.declared.taking.Root.{Root}
use Rattle.tree_drops.specs.Chains.{AreFresh, ChainLooks, ChainsOn, NotedFor}
use Rattle.tree_drops.specs.Releases.{left_all, retired_all, CanLeaveAll, CanRetireAll, CanWorkChain, HoldsHalves, IsWholeCause}
use Rattle.tree_drops.specs.Taking.{all_slots, keys_in, HasTakenChain, KeepsBeside}
use Rattle.tree_drops.specs.Turns.{page_met, HasEndedChain}
use Rattle.tree_drops.specs.Works.{TellsPointer}
use Rattle.tree_drops.specs.Visits.{MetPages, GoesOver, HasTallied, IsHeaderCause, WasSplit, dropped_in}
use Rattle.tree_drops.specs.Visits.{notes_in, slots_in}
use Rattle.tree_drops.proofs.Notings.{split_noted}
use Rattle.tree_drops.proofs.Asks.{way_held}
use Rattle.tree_drops.proofs.ChainEnds.{cause_met}
use Rattle.tree_drops.proofs.ChainLeft.{can_leave_all, can_retire_all, fresh_in, left_gone, left_grip, left_inners, left_kept, left_layout}
use Rattle.tree_drops.proofs.ChainLeft.{once_with, left_out, left_pages, left_reads, left_seat, left_swung, left_ways, retired_gone}
use Rattle.tree_drops.proofs.ChainLeft.{retired_grip, retired_inners, retired_kept, retired_layout, retired_out, retired_reads}
use Rattle.tree_drops.proofs.ChainLeft.{retired_seat, retired_shuts, retired_swung, retired_ways, stay_all, stay_rest}
use Rattle.tree_drops.proofs.ChainRows.{row_of, dropped_all, dropped_none, each_half, halves_met, length_row, notes_dropped, notes_kept}
use Rattle.tree_drops.proofs.ChainRows.{slots_row, swings_dropped, swings_kept}
use Rattle.tree_drops.proofs.Chaining.{as_chained, chains_then}
use Rattle.tree_drops.proofs.Ends.{out_then, over_out, tallied_as, GoesOut}
use Rattle.tree_drops.proofs.Finishes.{sight_noted}
use Rattle.tree_drops.proofs.Overs.{as_went}

-- ---- lists

again_last : (n : ℕ) (k : KeptPage) → k ∷ replicate n k ≡ replicate n k ++ k ∷ []
again_last zero k = refl
again_last (suc n) k = ap (λ l. k ∷ l) (again_last n k)

last_of : (ks : List KeptPage) (k : KeptPage) → last_note (ks ++ k ∷ []) ≡ k
last_of [] k = refl
last_of (x ∷ []) k = refl
last_of (x ∷ y ∷ ks) k = last_of (y ∷ ks) k

in_reverse : (xs : List ℕ) (u : ℕ) → Contains (reverse xs) u → Contains xs u
in_reverse [] u has = absurd (in_none u has)
in_reverse (x ∷ xs) u has =
    elim (append_cases (reverse xs) u (subst (λ l. Contains l u) (reverse-append (x ∷ []) xs) has)) [
      | inl old ↦ in_tail u x xs (in_reverse xs u old)
      | inr own ↦ elim (in_cases u x [] own) [
        | inl same ↦ subst (λ z. Contains (x ∷ xs) z) same (in_head x xs)
        | inr none ↦ absurd (in_none u none)
      ]
    ]
  where
    append_cases : (ys : List ℕ) (u : ℕ) → Contains (ys ++ x ∷ []) u → Contains ys u ⊎ Contains (x ∷ []) u
    append_cases [] u has = inr has
    append_cases (y ∷ ys) u has = elim (in_cases u y (ys ++ x ∷ []) has) [
      | inl same ↦ inl (subst (λ z. Contains (y ∷ ys) z) same (in_head y ys))
      | inr more ↦ elim (append_cases ys u more) [ inl old ↦ inl (in_tail u y ys old) | inr new ↦ inr new ]
    ]

has_in : (xs : List ℕ) (u : ℕ) → Contains xs u → has_slot xs u ≡ true
has_in [] u has = absurd (in_none u has)
has_in (x ∷ xs) u has = elim (in_cases u x xs has) [
  | inl same ↦ ap (λ (b : Bool). b || has_slot xs u) (eq-eqb x u same)
  | inr more ↦ later (eqb x u) (has_in xs u more)
]
  where
    later : (b : Bool) → has_slot xs u ≡ true → (b || has_slot xs u) ≡ true
    later true is = refl
    later false is = is

in_has : (xs : List ℕ) (u : ℕ) → has_slot xs u ≡ true → Contains xs u
in_has [] u has = absurd (true≢false (sym has))
in_has (x ∷ xs) u has = by_test (eqb x u) refl has (in_has xs u)
  where
    by_test : (b : Bool) → eqb x u ≡ b → (b || has_slot xs u) ≡ true → (has_slot xs u ≡ true → Contains xs u) → Contains (x ∷ xs) u
    by_test true e has rest = subst (λ z. Contains (x ∷ xs) z) (eqb-true x u e) (in_head x xs)
    by_test false e has rest = in_tail u x xs (rest has)

-- a slot that is held is none of the fresh ones
not_fresh : (holds ts : List ℕ) (u : ℕ) → AreFresh holds ts → has_slot holds u ≡ true → has_slot ts u ≡ false
not_fresh holds ts u fresh held = by_test (has_slot ts u) refl
  where
    by_test : (b : Bool) → has_slot ts u ≡ b → has_slot ts u ≡ false
    by_test false none = none
    by_test true has = absurd (true≢false (sym held ∙ fresh_in holds ts u fresh (in_has ts u has)))

-- ---- what a pass is behind work on a chain

pub out_chained : (v w : View) → ChainLooks v w → GoesOut v w
out_chained v w h = record {
  went = ap (λ (z : View). as_held v z) h.on.chains ∙ (mid ∙ ap (λ (z : View). as_went v z) (sym h.on.chains));
  later = h.on.later;
  front = subst (λ ps. IsFront v.pages ps) (sym (ap (λ (z : View). z.pages) h.on.chains)) (front_refl v.pages);
  leads = h.on.leads;
  more = saw_chained v w h.on;
}
  where
    mid : as_held v (as_chained v w) ≡ as_went v (as_chained v w)
    mid =
        ap (λ ls. let z : View = record (as_went v (as_chained v w)) {
          seat = record v.seat { locks = ls };
          took = w.took;
          heads = w.heads;
          sealed = w.sealed;
        } in z) h.locks
        ∙ (ap (λ ts. let z : View = record (as_went v (as_chained v w)) { took = ts; heads = w.heads; sealed = w.sealed } in z) h.took
        ∙ (ap (λ hs. let z : View = record (as_went v (as_chained v w)) { heads = hs; sealed = w.sealed } in z) h.heads
        ∙ ap (λ ss. let z : View = record (as_went v (as_chained v w)) { sealed = ss } in z) h.sealed))

    saw_chained : (v w : View) → ChainsOn v w → SawMore v w
    saw_chained v w on = record {
      drawn = subst (λ l. IsFront v.history l) (sym (ap (λ (z : View). z.history) on.chains)) (front_refl v.history);
      decided = subst (λ l. IsFront v.decided l) (sym (ap (λ (z : View). z.decided) on.chains)) (front_refl v.decided);
      touched = on.touched;
    }

pub out_again : (count n : ℕ) (v w : View) → w ≡ noted_again count n v → GoesOut v w
out_again count n v w is =
    subst (λ (z : View). GoesOut v z) (sym is) record {
      went = refl;
      later = omega arith;
      front = front_refl v.pages;
      leads = λ z has. has;
      more = record { drawn = front_refl v.history; decided = front_refl v.decided; touched = λ z has. inl has };
    }

-- slots in front of others, in the other order, are held with them
pub held_in : (slots before holds : List ℕ) → holds ≡ reverse slots ++ before → (u : ℕ) → Contains slots u → has_slot holds u ≡ true
held_in slots before holds same u has =
    ap (λ l. has_slot l u) same ∙ has_in (reverse slots ++ before) u (front_in (reverse slots) (to_reverse slots u has))
  where
    front_in : (xs : List ℕ) → Contains xs u → Contains (xs ++ before) u
    front_in [] has = absurd (in_none u has)
    front_in (x ∷ xs) has = elim (in_cases u x xs has) [
      | inl one ↦ subst (λ z. Contains (x ∷ (xs ++ before)) z) one (in_head x (xs ++ before))
      | inr more ↦ in_tail u x (xs ++ before) (front_in xs more)
    ]

    to_reverse : (xs : List ℕ) (u : ℕ) → Contains xs u → Contains (reverse xs) u
    to_reverse [] u has = absurd (in_none u has)
    to_reverse (x ∷ xs) u has =
        subst (λ l. Contains l u) (sym (reverse-append (x ∷ []) xs))
        (elim (in_cases u x xs has) [
          | inl one ↦ subst (λ z. Contains (reverse xs ++ x ∷ []) z) one (last_in (reverse xs) x)
          | inr more ↦ old_in (reverse xs) x u (to_reverse xs u more)
        ])
      where
        last_in : (ys : List ℕ) (y : ℕ) → Contains (ys ++ y ∷ []) y
        last_in [] y = in_head y []
        last_in (z ∷ ys) y = in_tail y z (ys ++ y ∷ []) (last_in ys y)

        old_in : (ys : List ℕ) (y q : ℕ) → Contains ys q → Contains (ys ++ y ∷ []) q
        old_in [] y q has = absurd (in_none q has)
        old_in (z ∷ ys) y q has = elim (in_cases q z ys has) [
          | inl one ↦ subst (λ p. Contains (z ∷ (ys ++ y ∷ [])) p) one (in_head z (ys ++ y ∷ []))
          | inr more ↦ in_tail q z (ys ++ y ∷ []) (old_in ys y q more)
        ]

-- ---- where a chain is kept since a word had changed, that was another one

header_other : (slots u word seen expected : ℕ) → IsHeaderCause slots u (Changed expected) word seen → seen ≢ expected
header_other slots u word seen expected h = h.1

whole_other : (slots : ℕ) (root : Root) (halves : List Half) (splits : List ℕ) (v : View) (word seen expected : ℕ)
    → IsWholeCause slots root halves splits v (Changed expected) word seen → seen ≢ expected
whole_other slots root halves splits v word seen expected (inl held) = elim held.2 [
  | inl header ↦ header.1
  | inr parted ↦ absurd (let why = parted.0 in cc)
]
whole_other slots root halves splits v word seen expected (inr (inl long)) = absurd (let why = long.0 in cc)
whole_other slots root halves splits v word seen expected (inr (inr some)) = elim some.2 [
  | inl header ↦ header.2.1
  | inr rest ↦ elim rest [
    | inl record_cause ↦ record_cause.2.cause.1
    | inr last ↦ elim last [
      | inl cover ↦ elim cover.cause [
        | inl odd ↦ absurd (let why = odd.0 in cc)
        | inr lacks ↦ absurd (let why = lacks.1 in cc)
      ]
      | inr turned ↦ λ same. turned.2 (same ∙ expected_is turned.1)
    ]
  ]
]
  where
    expected_is : Changed expected ≡ Changed root.word → expected ≡ root.word
    expected_is is = cc

-- ---- the slots

module _ (root : Root) (header : ℕ) (halves : List Half) (splits : List ℕ) (v a : View) (can : CanWorkChain root header v)
    (h : HoldsHalves root.slot (keys_in root) halves splits v a) where
  abbrev t : ℕ
  t = root.slot

  abbrev slots : List ℕ
  slots = slots_of halves

  slot_within : (l : Layout) → a.layout ≡ l → (u : ℕ) → Contains slots u → u < l.slots
  slot_within l same u has = by_list halves (λ g in_it. (h.inside g in_it).2) u has
    where
      by_list : (hs : List Half) → ((g : Half) → Contains hs g → g.slot < a.layout.slots) → (u : ℕ) → Contains (slots_of hs) u
          → u < l.slots
      by_list [] each u has = absurd (in_none u has)
      by_list (g ∷ hs) each u has = elim (in_cases u g.slot (slots_of hs) has) [
        | inl one ↦ subst (λ z. z < l.slots) one (subst (λ (y : Layout). g.slot < y.slots) same (each g (in_head g hs)))
        | inr more ↦ by_list hs (λ x in_it. each x (in_tail x g hs in_it)) u more
      ]

  held_slot : (holds : List ℕ) → holds ≡ a.grip.holds → (u : ℕ) → Contains slots u → has_slot holds u ≡ true
  held_slot holds same u has = held_in slots v.grip.holds holds (same ∙ h.holds) u has

  -- the first page isn't among them
  first_other : has_slot slots t ≡ false
  first_other = not_fresh v.grip.holds slots t h.fresh can.work.held

  -- the slots and ways of before are left
  holds_back : (holds : List ℕ) → holds ≡ a.grip.holds → stay_all (λ (u : ℕ). u) slots holds ≡ v.grip.holds
  holds_back holds same =
      ap (λ l. stay_all (λ (u : ℕ). u) slots l) (same ∙ h.holds)
      ∙ stay_rest ℕ (λ (u : ℕ). u) slots (reverse slots) v.grip.holds (λ u has. has_in slots u (in_reverse slots u has))
      (λ u has. not_fresh v.grip.holds slots u h.fresh (has_in v.grip.holds u has))

  ways_back : (ways : List Way) → ways ≡ a.ways → stay_all (λ (w : Way). w.slot) slots ways ≡ v.ways
  ways_back ways same =
      ap (λ l. stay_all (λ (w : Way). w.slot) slots l) (same ∙ h.ways)
      ∙ stay_rest Way (λ (w : Way). w.slot) slots h.added v.ways h.ours
      (λ w has. not_fresh v.grip.holds slots w.slot h.fresh
      (ap (λ l. has_slot l w.slot) can.work.bare.holds ∙ way_held v.ways w has))

  -- an interior page that was held is still known
  inner_other : (x : Inner) → has_slot v.grip.holds x.slot ≡ true → (u : ℕ) → Contains slots u → x.slot ≡ u → ⊥
  inner_other x held u has same =
      true≢false (sym held ∙ (ap (λ s. has_slot v.grip.holds s) same ∙ fresh_in v.grip.holds slots u h.fresh has))

  -- ---- what was met below the first page

  abbrev Row : Option KeptPage → MetPages
  Row note = row_of (root.target).at (keys_in root) (root.target).page note halves splits

  was_split : (note : Option KeptPage) → (note ≡ None → (2 ≤ length halves) × (length halves < 63))
      → ((k : KeptPage) → note ≡ Some k → IsWholeCause v.layout.slots root halves splits v k.why k.word k.seen)
      → WasSplit v.layout.slots t (root.target).epoch v.pages
      (page_met (root.target).at (keys_in root) (root.target).page t note) (Row note)
  was_split note many why = record {
    once = λ u. once_with u t v.grip.holds slots (slots_in (Row note))
        (slots_row (root.target).at (keys_in root) (root.target).page note halves splits) h.fresh can.work.held;
    each = each_half t (root.target).at (keys_in root) (root.target).page note halves splits v a h;
    halved = λ none.
        let x = many none in
        let long = length_row (root.target).at (keys_in root) (root.target).page note halves splits in
        let low = x.0 in
        let high = x.1 in (omega (arith, long, low), omega (arith, long, high));
    cause = λ k is. elim (cause_met root note halves splits v a v h v.layout.slots k.why k.word k.seen (why k is)) [
      | inl cause ↦ inl cause
      | inr turned ↦ inr record {
        expected = root.word;
        why = turned.1;
        word = turned.0;
        led = can.work.drop.leads;
        other = turned.2;
      }
    ];
  }

  -- ---- it was kept

  module _ (k : Kept) (e : View) (same : a ≡ e) (looks : ChainLooks v e)
      (noted : NotedFor (IsWholeCause v.layout.slots root halves splits v) k v e) (count n : ℕ) (g : View)
      (many : count ≡ length halves) (again : g ≡ noted_again count n e) where
    abbrev note : KeptPage
    note = noted.page

    abbrev mid : View
    mid = left_all slots g

    e_grip : e.grip ≡ record v.grip { holds = e.grip.holds }
    e_grip = ap (λ (z : View). z.grip) looks.on.chains

    g_holds : g.grip.holds ≡ a.grip.holds
    g_holds = ap (λ (z : View). z.grip.holds) again ∙ ap (λ (z : View). z.grip.holds) (sym same)

    g_shuts : g.shuts ≡ []
    g_shuts = ap (λ (z : View). z.shuts) again ∙ (ap (λ (z : View). z.shuts) looks.on.chains ∙ can.work.bare.shuts)

    g_layout : g.layout ≡ v.layout
    g_layout = ap (λ (z : View). z.layout) again ∙ ap (λ (z : View). z.layout) looks.on.chains

    g_seat : g.seat.kept ≡ []
    g_seat = ap (λ (z : View). z.seat.kept) again ∙ (ap (λ (z : View). z.seat.kept) looks.on.chains ∙ can.work.bare.parts)

    pub kept_leave : CanLeaveAll slots g
    kept_leave =
        can_leave_all v.grip.holds slots g h.fresh (λ u has. held_slot g.grip.holds g_holds u has)
        (λ u has. slot_within g.layout (ap (λ (z : View). z.layout) same ∙ sym (ap (λ (z : View). z.layout) again)) u has) g_seat

    mid_grip : mid.grip ≡ v.grip
    mid_grip =
        left_grip slots g
        ∙ (ap (λ (x : Grip). let z : Grip = record x { holds = stay_all (λ (u : ℕ). u) slots g.grip.holds } in z)
        (ap (λ (z : View). z.grip) again ∙ e_grip)
        ∙ ap (λ hs. let z : Grip = record v.grip { holds = hs } in z) (holds_back g.grip.holds g_holds))

    mid_ways : mid.ways ≡ v.ways
    mid_ways =
        left_ways slots g
        ∙ ways_back g.ways (ap (λ (z : View). z.ways) again ∙ ap (λ (z : View). z.ways) (sym same))

    mid_over : GoesOver v mid
    mid_over =
        over_out v mid
        (out_then v e mid (out_chained v e looks)
        (out_then e g mid (out_again count n e g again) (left_out slots g g_shuts))) mid_grip mid_ways

    pub kept_last : has_slot mid.grip.holds t ≡ true
    kept_last = ap (λ (x : Grip). has_slot x.holds t) mid_grip ∙ can.work.held

    pub kept_mid_layout : mid.layout ≡ v.layout
    kept_mid_layout = left_layout slots g ∙ g_layout

    pub kept_mid_seat : mid.seat.kept ≡ []
    kept_mid_seat = ap (λ s. s.kept) (left_seat slots g) ∙ g_seat

    e_reads : mid.reads ≡ e.reads
    e_reads = left_reads slots g ∙ ap (λ (z : View). z.reads) again

    other_word : (why : KeptWhy) (word seen expected : ℕ) → why ≡ Changed expected
        → IsWholeCause v.layout.slots root halves splits v why word seen → seen ≢ expected
    other_word why word seen expected is cause = whole_other v.layout.slots root halves splits v word seen expected
        (subst (λ y. IsWholeCause v.layout.slots root halves splits v y word seen) is cause)

    module _ (old new : Dropped) (w : View) (tells : TellsPointer (root.target).at root.word k v e)
        (beside : KeepsBeside root halves v e) (leaves : w ≡ left t mid)
        (counts : (x : KeptPage) (m : ℕ) → suc m ≡ count + 1 → IsNoteOf k x → HasTallied old 0 (replicate (suc m) x) new) where
      notes_all : notes_in (Row (Some note)) ++ note ∷ [] ≡ replicate (suc (length halves)) note
      notes_all =
          ap (λ l. l ++ note ∷ [])
          (notes_kept (root.target).at (keys_in root) (root.target).page note halves splits)
          ∙ sym (again_last (length halves) note)

      kept_all : mid.kept ≡ v.kept ++ (notes_in (Row (Some note)) ++ note ∷ [])
      kept_all =
          left_kept slots g
          ∙ (ap (λ (z : View). z.kept) again
          ∙ (ap (λ l. l ++ replicate count (last_note l)) noted.is
          ∙ (ap (λ x. (v.kept ++ note ∷ []) ++ replicate count x) (last_of v.kept note)
          ∙ (append_assoc v.kept (note ∷ []) (replicate count note)
          ∙ ap (λ l. v.kept ++ l) (ap (λ m. replicate (suc m) note) many ∙ sym notes_all)))))

      pub ended_kept : HasEndedChain (keys_in root) (root.target).at (root.target).page (root.target).epoch t old v new w
      ended_kept =
          let target = root.target in
          let slots_are = slots_row target.at (keys_in root) target.page (Some note) halves splits in
          let told = noted.told in
          let sight = sight_noted (λ x. ⊤) target.place (keys_in root) target.at t target.page root.word target.epoch v e can.work
          k note told tells
          (λ is. other_word k.why k.word k.seen root.word is noted.so) in
          let split = was_split (Some note) (λ is. absurd (cc))
          (λ x is. subst (λ (y : KeptPage). IsWholeCause v.layout.slots root halves splits v y.why y.word y.seen)
          (let one : note ≡ x = cc in one)
          (subst (λ (y : KeptPage). IsWholeCause v.layout.slots root halves splits v y.why y.word y.seen) (sym told) noted.so)) in record {
            below = Row (Some note);
            note = Some note;
            mid = mid;
            over = mid_over;
            kept = kept_all;
            gone = left_gone slots g
                ∙ (ap (λ l. reverse slots ++ l) (ap (λ (z : View). z.gone) again ∙ ap (λ (z : View). z.gone) looks.on.chains)
                ∙ ap (λ l. reverse l ++ v.gone) (sym slots_are));
            swung = left_swung slots g
                ∙ (ap (λ (z : View). z.swung) again
                ∙ (ap (λ (z : View). z.swung) looks.on.chains
                ∙ (sym (append-nil v.swung)
                ∙ ap (λ (l : List Swung). v.swung ++ (l ++ []))
                (sym (swings_kept target.at (keys_in root) target.page note halves splits)))));
            sight = (sight.0, ap (λ rs. read_of rs target.at) e_reads ∙ sight.1, sight.2);
            fresh = λ u has. fresh_in v.grip.holds slots u h.fresh (subst (λ l. Contains l u) slots_are has);
            others = λ word other out.
                ap (λ rs. read_of rs word) e_reads
                ∙ beside word other (subst (λ l. IsElsewhere v.layout.slots (t ∷ l) word) slots_are out);
            known = λ x has held.
                left_inners slots g x (inner_other x held)
                (subst (λ (z : View). Contains z.inners x) (sym again) (looks.on.inners x has));
            leaves = leaves;
            pages = v.pages;
            front = subst (λ ps. IsFront v.pages ps)
                (sym (ap (λ (z : View). z.pages) leaves
                ∙ (left_pages slots g ∙ (ap (λ (z : View). z.pages) again ∙ ap (λ (z : View). z.pages) looks.on.chains))))
                (front_refl v.pages);
            there = can.work.drop.tree.there;
            was = inr (inr (inr (inr (inl split))));
            notes = split_noted w v.layout.slots t target.epoch v.pages (page_met target.at (keys_in root) target.page t (Some note))
                (Row (Some note)) split;
            under = halves_met t target.at (keys_in root) target.page (Some note) halves splits v a h v.layout.slots target.epoch
                v.pages w.pages
                (subst (λ ps. IsFront v.pages ps)
                (sym (ap (λ (z : View). z.pages) leaves
                ∙ (left_pages slots g ∙ (ap (λ (z : View). z.pages) again ∙ ap (λ (z : View). z.pages) looks.on.chains))))
                (front_refl v.pages))
                can.work.drop.tree.there;
            counts = tallied_as old new 0 (dropped_in (Row (Some note)) + 0) (replicate (suc (length halves)) note)
                (notes_in (Row (Some note)) ++ note ∷ [])
                (let none = dropped_none target.at (keys_in root) target.page note halves splits in omega (arith, none))
                (sym notes_all) (counts note (length halves) (omega (arith, many)) told);
          }

  -- ---- it was dropped

  module _ (looks : ChainLooks v a) (kept : a.kept ≡ v.kept) (w1 : View) (d : HasTakenChain root halves a w1) (r1 r2 : View)
      (gives : r1 ≡ retired_all slots w1) (gives_last : r2 ≡ retired t r1) where
    b_on : ChainsOn v d.before
    b_on = chains_then v a d.before looks.on d.on

    abbrev last : View
    last = left_all slots r2

    -- the view behind the swing from another one
    abbrev S : View → View
    S z = swung_chain (root.target).page (all_slots root halves) (root.target).at d.found z

    abbrev c : View
    c = as_chained v d.before

    went_bare : as_held v (S c) ≡ as_went v (S c)
    went_bare =
        ap (λ ls. let z : View = record (as_went v (S c)) { seat = record v.seat { locks = ls }; took = []; heads = []; sealed = [] } in z)
        (sym can.work.bare.locks)
        ∙ (ap (λ ts. let z : View = record (as_went v (S c)) { took = ts; heads = []; sealed = [] } in z) (sym can.work.bare.took)
        ∙ (ap (λ hs. let z : View = record (as_went v (S c)) { heads = hs; sealed = [] } in z) (sym can.work.bare.heads)
        ∙ ap (λ ss. let z : View = record (as_went v (S c)) { sealed = ss } in z) (sym can.work.unsealed)))

    -- the pointer was swung
    w1_out : GoesOut v w1
    w1_out =
        subst (λ (z : View). GoesOut v z) (sym d.is) record {
          went = ap (λ (z : View). as_held v (S z)) b_on.chains
              ∙ (went_bare ∙ ap (λ (z : View). as_went v (S z)) (sym b_on.chains));
          later = let low = b_on.later in omega (arith, low);
          front = subst (λ ps. IsFront v.pages ps) (sym (ap (λ (z : View). z.pages) b_on.chains)) (front_refl v.pages);
          leads = b_on.leads;
          more = record {
            drawn = subst (λ l. IsFront v.history l) (sym (ap (λ (z : View). z.history) b_on.chains)) (front_refl v.history);
            decided = subst (λ l. IsFront v.decided l) (sym (ap (λ (z : View). z.decided) b_on.chains)) (front_refl v.decided);
            touched = b_on.touched;
          };
        }

    w1_holds : w1.grip.holds ≡ a.grip.holds
    w1_holds = ap (λ (z : View). z.grip.holds) d.is ∙ ap (λ (x : Grip). x.holds) d.holds.grip

    w1_made : w1.grip.made ≡ []
    w1_made = ap (λ (z : View). z.grip.made) d.is
        ∙ (ap (λ (x : Grip). x.made) d.holds.grip ∙ (ap (λ (z : View). z.grip.made) looks.on.chains ∙ can.work.bare.made))

    w1_taken : w1.grip.taken ≡ slots ++ t ∷ []
    w1_taken =
        ap (λ (z : View). z.grip.taken) d.is
        ∙ (ap (λ l. all_slots root halves ++ l)
        (ap (λ (x : Grip). x.taken) d.holds.grip ∙ (ap (λ (z : View). z.grip.taken) looks.on.chains ∙ can.work.bare.taken))
        ∙ append-nil (slots ++ t ∷ []))

    w1_layout : w1.layout ≡ a.layout
    w1_layout = ap (λ (z : View). z.layout) d.is ∙ ap (λ (z : View). z.layout) d.on.chains

    w1_shuts : w1.shuts ≡ []
    w1_shuts = ap (λ (z : View). z.shuts) d.is ∙ (ap (λ (z : View). z.shuts) b_on.chains ∙ can.work.bare.shuts)

    w1_seat : w1.seat.kept ≡ []
    w1_seat = ap (λ (z : View). z.seat.kept) d.is ∙ (ap (λ (z : View). z.seat.kept) b_on.chains ∙ can.work.bare.parts)

    front_of : (xs : List ℕ) (u : ℕ) → Contains xs u → Contains (xs ++ t ∷ []) u
    front_of [] u has = absurd (in_none u has)
    front_of (x ∷ xs) u has = elim (in_cases u x xs has) [
      | inl one ↦ subst (λ z. Contains (x ∷ (xs ++ t ∷ [])) z) one (in_head x (xs ++ t ∷ []))
      | inr more ↦ in_tail u x (xs ++ t ∷ []) (front_of xs u more)
    ]

    pub dropped_retire : CanRetireAll slots w1
    dropped_retire =
        can_retire_all v.grip.holds slots w1 h.fresh
        (λ u has. ap (λ l. has_slot l u) w1_taken ∙ has_in (slots ++ t ∷ []) u (front_of slots u has))
        (λ u has. slot_within w1.layout (sym w1_layout) u has)

    r1_taken : r1.grip.taken ≡ t ∷ []
    r1_taken =
        ap (λ (z : View). z.grip.taken) gives
        ∙ (ap (λ (x : Grip). x.taken) (retired_grip slots w1)
        ∙ (ap (λ l. stay_all (λ (u : ℕ). u) slots l) w1_taken
        ∙ stay_rest ℕ (λ (u : ℕ). u) slots slots (t ∷ []) (λ u has. has_in slots u has)
        (λ u has. elim (in_cases u t [] has) [
          | inl one ↦ subst (λ z. has_slot slots z ≡ false) one first_other
          | inr none ↦ absurd (in_none u none)
        ])))

    pub dropped_last : MayRetire r1 t
    dropped_last =
        inr (inr (inl (ap (λ l. has_slot l t) r1_taken ∙ ap (λ (b : Bool). b || false) (eq-eqb t t refl))))

    r2_grip : r2.grip ≡ record v.grip { holds = w1.grip.holds }
    r2_grip =
        ap (λ (z : View). z.grip) gives_last
        ∙ (ap (λ (x : Grip). let z : Grip = record x { made = without x.made t; taken = without x.taken t } in z)
        (ap (λ (z : View). z.grip) gives ∙ retired_grip slots w1)
        ∙ (ap (λ ts. let z : Grip = record w1.grip { made = without (stay_all (λ (u : ℕ). u) slots w1.grip.made) t; taken = without ts t } in z)
        (sym (ap (λ (x : Grip). x.taken) (retired_grip slots w1)) ∙ (sym (ap (λ (z : View). z.grip.taken) gives) ∙ r1_taken))
        ∙ (ap (λ ms. let z : Grip = record w1.grip {
          made = without (stay_all (λ (u : ℕ). u) slots ms) t;
          taken = without (t ∷ []) t;
        } in z) w1_made
        ∙ (ap (λ ms. let z : Grip = record w1.grip { made = ms; taken = without (t ∷ []) t } in z) (none_stay slots)
        ∙ (ap (λ ts. let z : Grip = record w1.grip { made = []; taken = ts } in z) (without_first [] t refl)
        ∙ grip_back)))))
      where
        none_stay : (ts : List ℕ) → without (stay_all (λ (u : ℕ). u) ts []) t ≡ []
        none_stay [] = refl
        none_stay (x ∷ ts) = none_stay ts

        grip_w1 : w1.grip ≡ record v.grip { holds = w1.grip.holds; made = w1.grip.made; taken = w1.grip.taken }
        grip_w1 =
            ap (λ (z : View). z.grip) d.is
            ∙ (ap (λ (x : Grip). let z : Grip = record x { taken = all_slots root halves ++ x.taken } in z) d.holds.grip
            ∙ (ap (λ (x : Grip). let z : Grip = record x { taken = all_slots root halves ++ x.taken } in z)
            (ap (λ (z : View). z.grip) looks.on.chains)
            ∙ sym (ap (λ (y : View). let z : Grip = record v.grip { holds = y.grip.holds; made = y.grip.made; taken = y.grip.taken } in z)
            d.is
            ∙ (ap (λ (x : Grip). let z : Grip = record v.grip {
              holds = x.holds;
              made = x.made;
              taken = all_slots root halves ++ x.taken;
            } in z) d.holds.grip
            ∙ ap (λ (x : Grip). let z : Grip = record v.grip {
              holds = x.holds;
              made = x.made;
              taken = all_slots root halves ++ x.taken;
            } in z) (ap (λ (z : View). z.grip) looks.on.chains)))))

        grip_back : record w1.grip { made = []; taken = [] } ≡ record v.grip { holds = w1.grip.holds }
        grip_back =
            ap (λ (x : Grip). let z : Grip = record x { made = []; taken = [] } in z) grip_w1
            ∙ (ap (λ ms. let z : Grip = record v.grip { holds = w1.grip.holds; made = ms; taken = [] } in z) (sym can.work.bare.made)
            ∙ ap (λ ts. let z : Grip = record v.grip { holds = w1.grip.holds; taken = ts } in z) (sym can.work.bare.taken))

    r2_layout : r2.layout ≡ a.layout
    r2_layout =
        ap (λ (z : View). z.layout) gives_last ∙ (ap (λ (z : View). z.layout) gives ∙ (retired_layout slots w1 ∙ w1_layout))

    r2_seat : r2.seat.kept ≡ []
    r2_seat =
        ap (λ (z : View). z.seat.kept) gives_last
        ∙ (ap (λ (z : View). z.seat.kept) gives ∙ (ap (λ s. s.kept) (retired_seat slots w1) ∙ w1_seat))

    r2_holds : r2.grip.holds ≡ a.grip.holds
    r2_holds = ap (λ (x : Grip). x.holds) r2_grip ∙ w1_holds

    r2_shuts : r2.shuts ≡ []
    r2_shuts =
        ap (λ (z : View). z.shuts) gives_last ∙ (ap (λ (z : View). z.shuts) gives ∙ (retired_shuts slots w1 ∙ w1_shuts))

    r2_ways : r2.ways ≡ a.ways
    r2_ways =
        ap (λ (z : View). z.ways) gives_last
        ∙ (ap (λ (z : View). z.ways) gives
        ∙ (retired_ways slots w1 ∙ (ap (λ (z : View). z.ways) d.is ∙ d.holds.ways)))

    r2_out : GoesOut w1 r2
    r2_out =
        subst (λ (z : View). GoesOut w1 z) (sym gives_last)
        (out_then w1 r1 (retired t r1) (subst (λ (z : View). GoesOut w1 z) (sym gives) (retired_out slots w1))
        record {
          went = refl;
          later = omega arith;
          front = front_refl r1.pages;
          leads = λ z has. has;
          more = record { drawn = front_refl r1.history; decided = front_refl r1.decided; touched = λ z has. inl has };
        })

    pub dropped_leave : CanLeaveAll slots r2
    dropped_leave =
        can_leave_all v.grip.holds slots r2 h.fresh (λ u has. held_slot r2.grip.holds r2_holds u has)
        (λ u has. slot_within r2.layout (sym r2_layout) u has) r2_seat

    last_grip : last.grip ≡ v.grip
    last_grip =
        left_grip slots r2
        ∙ (ap (λ (x : Grip). let z : Grip = record x { holds = stay_all (λ (u : ℕ). u) slots r2.grip.holds } in z) r2_grip
        ∙ ap (λ hs. let z : Grip = record v.grip { holds = hs } in z) (holds_back r2.grip.holds r2_holds))

    last_over : GoesOver v last
    last_over =
        over_out v last
        (out_then v w1 last w1_out (out_then w1 r2 last r2_out (left_out slots r2 r2_shuts))) last_grip
        (left_ways slots r2 ∙ ways_back r2.ways r2_ways)

    pub dropped_held : has_slot last.grip.holds t ≡ true
    dropped_held = ap (λ (x : Grip). has_slot x.holds t) last_grip ∙ can.work.held

    pub dropped_layout : last.layout ≡ v.layout
    dropped_layout = left_layout slots r2 ∙ (r2_layout ∙ ap (λ (z : View). z.layout) looks.on.chains)

    pub dropped_seat : last.seat.kept ≡ []
    dropped_seat = ap (λ s. s.kept) (left_seat slots r2) ∙ r2_seat

    last_reads : last.reads ≡ w1.reads
    last_reads =
        left_reads slots r2
        ∙ (ap (λ (z : View). z.reads) gives_last ∙ (ap (λ (z : View). z.reads) gives ∙ retired_reads slots w1))

    module _ (old new : Dropped) (w : View) (many : (2 ≤ length halves) × (length halves < 63))
        (beside : KeepsBeside root halves v w1) (leaves : w ≡ left t last) (count : ℕ) (is_count : count ≡ length halves)
        (counts : HasTallied old (count + 1) [] new) where
      swung_append : (xs ys : List ℕ) → swung_all (root.target).at (xs ++ ys) ≡ swung_all (root.target).at xs ++ swung_all (root.target).at ys
      swung_append [] ys = refl
      swung_append (x ∷ xs) ys =
          ap (λ (l : List Swung). record { word = (root.target).at; slot = x } ∷ l) (swung_append xs ys)

      pub ended_dropped : HasEndedChain (keys_in root) (root.target).at (root.target).page (root.target).epoch t old v new w
      ended_dropped =
          let target = root.target in
          let slots_are = slots_row target.at (keys_in root) target.page None halves splits in
          let split = was_split None (λ is. many) (λ x is. absurd (cc)) in
          let front : IsFront v.pages w.pages = subst (λ ps. IsFront v.pages ps) (sym (ap (λ (z : View). z.pages) leaves)) last_over.front in record {
            below = Row None;
            note = None;
            mid = last;
            over = last_over;
            kept = left_kept slots r2
                ∙ (ap (λ (z : View). z.kept) gives_last
                ∙ (ap (λ (z : View). z.kept) gives
                ∙ (retired_kept slots w1
                ∙ (ap (λ (z : View). z.kept) d.is
                ∙ (d.kept ∙ (kept
                ∙ (sym (append-nil v.kept)
                ∙ ap (λ l. v.kept ++ (l ++ [])) (sym (notes_dropped target.at (keys_in root) target.page halves splits)))))))));
            gone = left_gone slots r2
                ∙ (ap (λ l. reverse slots ++ l)
                (ap (λ (z : View). z.gone) gives_last
                ∙ (ap (λ (z : View). z.gone) gives
                ∙ (retired_gone slots w1
                ∙ (ap (λ (z : View). z.gone) d.is ∙ ap (λ (z : View). z.gone) b_on.chains))))
                ∙ ap (λ l. reverse l ++ v.gone) (sym slots_are));
            swung = left_swung slots r2
                ∙ (ap (λ (z : View). z.swung) gives_last
                ∙ (ap (λ (z : View). z.swung) gives
                ∙ (retired_swung slots w1
                ∙ (ap (λ (z : View). z.swung) d.is
                ∙ (ap (λ l. l ++ swung_all target.at (all_slots root halves)) (ap (λ (z : View). z.swung) b_on.chains)
                ∙ ap (λ (l : List Swung). v.swung ++ l)
                (swung_append slots (t ∷ [])
                ∙ ap (λ (l : List Swung). l ++ record { word = target.at; slot = t } ∷ [])
                (sym (swings_dropped target.at (keys_in root) target.page halves splits))))))));
            sight = (
              entry_of d.before.reads target.at target.page (kept_at d.before.reads target.at),
              ap (λ rs. read_of rs target.at) (last_reads ∙ ap (λ (z : View). z.reads) d.is)
                  ∙ own_entry d.before.reads target.at target.page (kept_at d.before.reads target.at),
              (refl, (root.word, d.met, can.work.drop.leads)),
            );
            fresh = λ u has. fresh_in v.grip.holds slots u h.fresh (subst (λ l. Contains l u) slots_are has);
            others = λ word other out.
                ap (λ rs. read_of rs word) last_reads
                ∙ beside word other (subst (λ l. IsElsewhere v.layout.slots (t ∷ l) word) slots_are out);
            known = λ x has held.
                left_inners slots r2 x (inner_other x held)
                (subst (λ l. Contains l x)
                (sym (ap (λ (z : View). z.inners) gives_last
                ∙ (ap (λ (z : View). z.inners) gives
                ∙ (retired_inners slots w1 ∙ ap (λ (z : View). z.inners) d.is))))
                (b_on.inners x has));
            leaves = leaves;
            pages = v.pages;
            front = front;
            there = can.work.drop.tree.there;
            was = inr (inr (inr (inr (inl split))));
            notes = split_noted w v.layout.slots t target.epoch v.pages (page_met target.at (keys_in root) target.page t None) (Row None)
                split;
            under = halves_met t target.at (keys_in root) target.page None halves splits v a h v.layout.slots target.epoch
                v.pages w.pages front can.work.drop.tree.there;
            counts = tallied_as old new (count + 1) (dropped_in (Row None) + 1) [] (notes_in (Row None) ++ [])
                (let all = dropped_all target.at (keys_in root) target.page halves splits in omega (arith, all, is_count))
                (sym (append-nil (notes_in (Row None)) ∙ notes_dropped target.at (keys_in root) target.page halves splits)) counts;
          }
