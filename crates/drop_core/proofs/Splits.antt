-- A split alone leaves a page that was split; each place of the leaf's records was the home of a key, which moves.
use Rattle.std.proofs.Common.{◌≡◌, ℕ, zero, suc, ◌+◌, ◌-◌, ◌<◌, Bool, true, false, true≢false, not, eqb, eqb-true, ◌&&◌, ◌⊎◌, inl, inr, List, [], ◌∷◌, ◌++◌, length, refl, sym, ap, ◌∙◌, subst, arith, Option, Some, None}
use Rattle.std.proofs.lemmas.Bool.{and_parts, or_cases, or_left, or_right, cases_Bool, cond-true, cond-false, false_from_ne_true}
use Rattle.std.specs.List.{list_all}
use Rattle.serial_model.specs.declared.key.Key.{Key}
use Rattle.homes.specs.declared.places.At.{At}
use Rattle.homes.specs.declared.places.Span.{Span}
use Rattle.homes.specs.declared.places.Home.{Home}
use Rattle.homes.specs.declared.places.Home.TheVariants.{InSlot}
use Rattle.homes.specs.Homes.{same_key, has_key, in_span, holder_is}
use Rattle.homes.specs.Laws.{same_key-self, same_key-true, number_or_other}
use Rattle.drop_core.specs.declared.table.Led.TheVariants.{Never, From}
use Rattle.drop_core.specs.declared.table.SlotState.TheVariants.{Owned, Published, Retired}
use Rattle.drop_core.specs.declared.table.Slot.{Slot}
use Rattle.drop_core.specs.declared.table.Page.{Page}
use Rattle.drop_core.specs.declared.table.Page.TheVariants.{Blank, Leaf, Inner, Split}
use Rattle.drop_core.specs.declared.table.Table.{Table}
use Rattle.drop_core.specs.declared.grip.Grip.{Grip}
use Rattle.drop_core.specs.declared.event.Twins.{Twins}
use Rattle.drop_core.specs.declared.event.Act.{Act}
use Rattle.drop_core.specs.declared.event.Act.TheVariants.{Enter, Leave, Give, Publish, Retire, FillPage, FillPointer, FillSnapshot, Extend, Install, Swing, Renew, Shut, Reopen, FillHeader, LockHeader, OpenHeader, Twin, SwingChain}
use Rattle.drop_core.specs.Table.{slot_of, page_of, pointer_of, header_of, has_slot, leaf_place, leaf_home, is_never}
use Rattle.drop_core.specs.Event.{each_once, is_owned, stands_for, is_allowed, can_split, is_half, is_leaf_of, is_separator, are_keys_of, lower_span, upper_span, minor_records, major_records, most_records, leaf_keys, key_in, slot_span, with_slot, grown, twinned, installed, dropped, swung, effect}
use Rattle.drop_core.specs.Law.{IsSplitAt}
use Rattle.drop_core.specs.Sound.{TiesTo, TiesPage, IsSoundTable}
use Rattle.drop_core.proofs.ChainDrops.{led_from}
use Rattle.drop_core.proofs.Conditions.{CanTwin}
use Rattle.drop_core.proofs.Drops.{slot-kept}
use Rattle.drop_core.proofs.Fills.{never_led, page-other}
use Rattle.drop_core.proofs.Grows.{grown-page, grown-other}
use Rattle.drop_core.proofs.Halves.{adds_key, grows, splits}
use Rattle.drop_core.proofs.Repoints.{slot-other}
use Rattle.drop_core.proofs.Splitting.{slots, page-other as page-other_twin}
use Rattle.drop_core.proofs.Swings.{Installs, install_asks, swing_live}

-- ---- the records of a leaf

-- the key with this index is at the place with it
leaf-nth : (s i : ℕ) (keys : List Key) (j : ℕ) → each_once keys ≡ true → j < length keys
    → (k : Key) × (has_key keys k ≡ true) × (leaf_home s i keys k ≡ leaf_place s (i + j))
leaf-nth s i [] j once less = absurd (omega (arith, less))
leaf-nth s i (x ∷ more) zero once less = (
  x,
  or_left (same_key x x) (has_key more x) (same_key-self x),
  cond-true (same_key x x) (leaf_place s i) (leaf_home s (suc i) more x) (same_key-self x) ∙ ap (leaf_place s) (none i),
)
  where
    none : (i : ℕ) → i ≡ i + 0
    none i = omega arith
leaf-nth s i (x ∷ more) (suc j) once less =
    let parts = and_parts (not (has_key more x)) (each_once more) once in
    let r = leaf-nth s (suc i) more j parts.1 (omega (arith, less)) in
    let other : same_key x r.0 ≡ false = false_from_ne_true (same_key x r.0) (λ same.
    apart (has_key more x) parts.0 (ap (has_key more) (same_key-true x r.0 same) ∙ r.1)) in (
      r.0,
      or_right (same_key x r.0) (has_key more r.0) r.1,
      cond-false (same_key x r.0) (leaf_place s i) (leaf_home s (suc i) more r.0) other ∙ r.2 ∙ ap (leaf_place s) (next i j),
    )
  where
    apart : (b : Bool) → not b ≡ true → b ≡ true → ⊥
    apart true e is = true≢false (sym e)
    apart false e is = true≢false (sym is)

    next : (i j : ℕ) → suc i + j ≡ i + suc j
    next i j = omega arith

module _ (homes : Key → Home) (d : Table) (grips : List Grip) (sound : IsSoundTable homes d grips) (p : ℕ) (g : Grip) where
  full : (w : Twins) (span : Span) → can_split p d g span w ≡ true → is_leaf_of span most_records (page_of d w.slot) ≡ true
  full w span can =
      let last : Bool = are_keys_of (leaf_keys (page_of d w.slot)) (leaf_keys (page_of d w.minor)) (leaf_keys (page_of d w.major)) w.keys && has_key (leaf_keys (page_of d w.major)) (key_in span w.separator) in
      let leaf : Bool = is_leaf_of span most_records (page_of d w.slot) in
      let b : Bool = is_half d g w.major (upper_span span w.separator) major_records in
      let a : Bool = is_half d g w.minor (lower_span span w.separator) minor_records in
      let c1 = and_parts (holder_is p (header_of d w.slot)) (is_separator span w.separator && (not (eqb w.minor w.major) && (a && (b && (leaf && last))))) can in
      let c2 = and_parts (is_separator span w.separator) (not (eqb w.minor w.major) && (a && (b && (leaf && last)))) c1.1 in
      let c3 = and_parts (not (eqb w.minor w.major)) (a && (b && (leaf && last))) c2.1 in
      let c4 = and_parts a (b && (leaf && last)) c3.1 in
      let c5 = and_parts b (leaf && last) c4.1 in
      (and_parts leaf last c5.1).0

  count_of : (span : Span) (page : Page) → is_leaf_of span most_records page ≡ true → (length (leaf_keys page) ≡ most_records) × (each_once (leaf_keys page) ≡ true)
  count_of span Blank e = absurd (true≢false (sym e))
  count_of span (Leaf keys) e =
      let all : Bool = list_all (λ k. in_span span k) keys in
      let c = and_parts (eqb (length keys) most_records) (each_once keys && all) e in
      (eqb-true (length keys) most_records c.0, (and_parts (each_once keys) all c.1).0)
  count_of span (Inner n) e = absurd (true≢false (sym e))
  count_of span Split e = absurd (true≢false (sym e))

  -- the leaf below a live pointer has its keys at their places
  at_home : (w : Twins) (span : Span) (x : At) (keys : List Key) → CanTwin d x span w keys → (k : Key) → has_key keys k ≡ true → homes k ≡ leaf_home w.slot 0 keys k
  at_home w span x keys can k hit =
      let ties : TiesPage homes d (pointer_of d x).span w.slot (Leaf keys) =
      subst (λ (q : Page). TiesPage homes d (pointer_of d x).span w.slot q) can.page
      (subst (λ (o : Option ℕ). TiesTo homes d (pointer_of d x).span (pointer_of d x).page o) can.leads (sound.one_home_each.ties x can.live)) in
      ties.0 k (ties.1 k hit)

  pub twins_move_all : (w : Twins) → is_allowed p d g (Twin w) ≡ true → (i : ℕ) → i < most_records
      → (k : Key) × (has_key w.keys k ≡ true) × (homes k ≡ InSlot (record { slot = w.slot; index = i }))
  twins_move_all w can i less =
      let span : Span = slot_span d w.slot in
      let two = splits homes d grips sound p g w can in
      let keys : List Key = leaf_keys (page_of d w.slot) in
      let count = count_of span (page_of d w.slot) (full w span (and_parts (not (eqb p 0)) (can_split p d g span w) can).1) in
      let nth = leaf-nth w.slot 0 keys i count.1 (subst (λ (n : ℕ). i < n) (sym count.0) less) in
      (nth.0, two.2.old nth.0 nth.1, at_home w span two.0 keys two.2 nth.0 nth.1 ∙ nth.2 ∙ ap (leaf_place w.slot) (first i))
    where
      first : (i : ℕ) → 0 + i ≡ i
      first i = omega arith

  -- ---- where a page that was split comes from

  abbrev IsTwinOf : Act → ℕ → Type 0
  IsTwinOf act s = (w : Twins) × (act ≡ Twin w) × (w.slot ≡ s)

  leaf_split : (keys : List Key) → Leaf keys ≡ Split → ⊥
  leaf_split keys e = cc

  -- a slot that is led to as before, or not at all
  with_led : (t : ℕ) (x : Slot) → (is_never x.led ≡ false → is_never (slot_of d t).led ≡ false) → (s : ℕ) → IsSplitAt (with_slot d t x) s → IsSplitAt d s
  with_led t x was s now = (
    now.0,
    elim (number_or_other t s) [
      | inl e ↦ subst (λ (u : ℕ). is_never (slot_of d u).led ≡ false) e.0 (was (sym (ap (λ (y : Slot). is_never y.led) (cond-true (eqb t s) x (slot_of d s) e.1)) ∙ now.1))
      | inr o ↦ sym (ap (λ (y : Slot). is_never y.led) (cond-false (eqb t s) x (slot_of d s) o.1)) ∙ now.1
    ],
  )

  never_not : (b : Bool) → b ≡ true → b ≡ false → ⊥
  never_not b e f = true≢false (sym e ∙ f)

  dropped_split : (x : At) (n : ℕ) (gone : List ℕ) → ((s : ℕ) → has_slot gone s ≡ true → is_never (slot_of d s).led ≡ false) → (s : ℕ) → IsSplitAt (dropped d x n gone) s → IsSplitAt d s
  dropped_split x n gone led s now = (
    now.0,
    elim (cases_Bool (has_slot gone s)) [
      | inl e ↦ led s e
      | inr e ↦ sym (ap (λ (y : Slot). is_never y.led) (slot-kept d x n gone s e)) ∙ now.1
    ],
  )

  swung_split : (x : At) (n : ℕ) (o : Option ℕ) → (pointer_of d x).slot ≡ o → is_allowed p d g (Swing x n) ≡ true → (s : ℕ)
      → IsSplitAt (swung d g x n o).table s → IsSplitAt d s
  swung_split x n None leads can s now = now
  swung_split x n (Some t) leads can s now = dropped_split x n (t ∷ []) (λ s hit.
      subst (λ (u : ℕ). is_never (slot_of d u).led ≡ false) (only t s hit)
      (ap is_never (sound.holds_counted.back x t (swing_live homes d grips sound p g x n can) leads))) s now
    where
      only : (t s : ℕ) → has_slot (t ∷ []) s ≡ true → t ≡ s
      only t s hit = elim (or_cases (eqb t s) false hit) [ inl e ↦ eqb-true t s e | inr none ↦ absurd (true≢false (sym none)) ]

  install_split : (x : At) (t : ℕ) → is_allowed p d g (Install x t) ≡ true → (s : ℕ) → IsSplitAt (installed d x t) s → IsSplitAt d s
  install_split x t can s now = (
    now.0,
    elim (number_or_other t s) [
      | inl e ↦ absurd (true≢false (sym asks.stands
          ∙ ap (stands_for d t (pointer_of d x).page (pointer_of d x).span) (ap (page_of d) e.0 ∙ now.0)))
      | inr o ↦ sym (ap (λ (y : Slot). is_never y.led) (slot-other d x t (From x) (Some t) (pointer_of d x).page s o.0)) ∙ now.1
    ],
  )
    where
      asks : Installs d x t
      asks = install_asks homes d grips sound p t g x can

  grown_split : (t : ℕ) (k : Key) (keys : List Key) → page_of d t ≡ Leaf keys → (s : ℕ) → IsSplitAt (grown d t k) s → IsSplitAt d s
  grown_split t k keys leaf s now = (
    elim (number_or_other t s) [
      | inl e ↦ absurd (leaf_split (keys ++ k ∷ []) (sym (grown-page d t k keys leaf) ∙ ap (page_of (grown d t k)) e.0 ∙ now.0))
      | inr o ↦ sym (grown-other d t k s o.0) ∙ now.0
    ],
    now.1,
  )

  filled_split : (t : ℕ) (page : Page) → is_owned (slot_of d t).state ≡ true → (s : ℕ) → IsSplitAt (record d { pages = (t, page) ∷ d.pages }) s → IsSplitAt d s
  filled_split t page own s now = (
    sym (page-other homes d grips sound t own page s (λ e. never_not (is_never (slot_of d t).led) (ap is_never (never_led homes d grips sound t own))
        (ap (λ (u : ℕ). is_never (slot_of d u).led) e ∙ now.1))) ∙ now.0,
    now.1,
  )

  twin_split : (x : At) (span : Span) (w : Twins) (keys : List Key) → CanTwin d x span w keys → (s : ℕ) → (w.slot ≡ s → ⊥)
      → IsSplitAt (twinned d span w) s → IsSplitAt d s
  twin_split x span w keys can s other now =
      let page : page_of d s ≡ Split = sym (page-other_twin homes d grips x span w keys can sound s other) ∙ now.0 in (
        page,
        slots homes d grips x span w keys can sound (λ t y. page_of d t ≡ Split → is_never y.led ≡ false → is_never (slot_of d t).led ≡ false)
            (λ is led. absurd (leaf_split (leaf_keys (page_of d w.minor)) (sym can.a_page ∙ is)))
            (λ is led. absurd (leaf_split (leaf_keys (page_of d w.major)) (sym can.b_page ∙ is)))
            (λ t oa ob is led. led) s page now.1,
      )

  pub comes_of_twin : (act : Act) → is_allowed p d g act ≡ true → (s : ℕ) → IsSplitAt (effect p d g act).table s → IsSplitAt d s ⊎ IsTwinOf act s
  comes_of_twin (Enter t) can s now = inl (with_led t (record (slot_of d t) { passes = (slot_of d t).passes + 1 }) (λ e. e) s now)
  comes_of_twin (Leave t) can s now = inl (with_led t (record (slot_of d t) { passes = (slot_of d t).passes - 1 }) (λ e. e) s now)
  comes_of_twin (Give t) can s now =
      inl (with_led t (record (slot_of d t) { state = Owned; times = (slot_of d t).times + 1; led = Never }) (λ e. absurd (true≢false e)) s now)
  comes_of_twin (Publish t) can s now = inl (with_led t (record (slot_of d t) { state = Published }) (λ e. e) s now)
  comes_of_twin (Retire t) can s now = inl (with_led t (record (slot_of d t) { state = Retired }) (λ e. e) s now)
  comes_of_twin (FillPage t page) can s now = inl (filled_split t page (and_parts (is_owned (slot_of d t).state) (has_slot g.made t) can).0 s now)
  comes_of_twin (FillPointer x q) can s now = inl now
  comes_of_twin (FillSnapshot n page) can s now = inl now
  comes_of_twin (Extend n) can s now = inl now
  comes_of_twin (Install x t) can s now = inl (install_split x t can s now)
  comes_of_twin (Swing x n) can s now = inl (swung_split x n (pointer_of d x).slot refl can s now)
  comes_of_twin (Renew x n) can s now = inl now
  comes_of_twin (Shut x) can s now = inl now
  comes_of_twin (Reopen x) can s now = inl now
  comes_of_twin (FillHeader t) can s now = inl now
  comes_of_twin (LockHeader t) can s now = inl now
  comes_of_twin (OpenHeader t None) can s now = inl now
  comes_of_twin (OpenHeader t (Some k)) can s now =
      let grow = grows homes d grips sound t k (adds_key p d t k can) in inl (grown_split t k grow.2 grow.3.page s now)
  comes_of_twin (Twin w) can s now = elim (number_or_other w.slot s) [
    | inl e ↦ inr (w, refl, e.0)
    | inr o ↦
        let two = splits homes d grips sound p g w can in
        inl (twin_split two.0 (slot_span d w.slot) w (leaf_keys (page_of d w.slot)) two.2 s o.0 now)
  ]
  comes_of_twin (SwingChain x n c) can s now = inl (dropped_split x n c.slots (λ t hit.
      let from = led_from homes d grips sound p g x n c can t hit in ap is_never from.1) s now)
