-- The slots that are led to have ranks, so that ways end; each key that has a home is below a root; published pages are right.
use Rattle.std.proofs.Common.{◌≡◌, ℕ, zero, suc, ◌+◌, ◌-◌, ◌<◌, ◌≤◌, Bool, true, false, true≢false, eqb, eqb-true, eq-eqb, leb, ltb, cond, ◌&&◌, ◌||◌, inl, inr, List, [], ◌∷◌, refl, sym, ap, ◌∙◌, subst, arith, Option, Some, None}
use Rattle.std.proofs.lemmas.Bool.{and_parts, and_from, cases_Bool, cond-true, cond-false, false_from_ne_true}
use Rattle.std.proofs.lemmas.Bool.Decides.{nat_tests}
use Rattle.std.specs.List.{list_all}
use Rattle.serial_model.specs.declared.key.Key.{Key}
use Rattle.homes.specs.declared.places.Holder.TheVariants.{Free}
use Rattle.homes.specs.declared.places.Spot.{Spot}
use Rattle.homes.specs.declared.places.At.{At}
use Rattle.homes.specs.declared.places.At.TheVariants.{Root, In}
use Rattle.homes.specs.declared.places.Span.{Span}
use Rattle.homes.specs.declared.places.Home.{Home}
use Rattle.homes.specs.Homes.{same_span, has_key, in_span, moved, moves_to}
use Rattle.homes.specs.Laws.{number_or_other, moved-other}
use Rattle.drop_core.specs.declared.table.Led.{Led}
use Rattle.drop_core.specs.declared.table.Led.TheVariants.{Never, From, Away}
use Rattle.drop_core.specs.declared.table.SlotState.TheVariants.{Owned, Published, Retired}
use Rattle.drop_core.specs.declared.table.Slot.{Slot}
use Rattle.drop_core.specs.declared.table.Page.{Page}
use Rattle.drop_core.specs.declared.table.Page.TheVariants.{Blank, Leaf, Inner, Split}
use Rattle.drop_core.specs.declared.table.SnapPage.{SnapPage}
use Rattle.drop_core.specs.declared.table.SnapPage.TheVariants.{Missing, Entries, Children}
use Rattle.drop_core.specs.declared.table.Table.{Table}
use Rattle.drop_core.specs.declared.grip.Grip.{Grip}
use Rattle.drop_core.specs.declared.event.Act.{Act}
use Rattle.drop_core.specs.declared.event.Act.TheVariants.{Enter, Leave, Give, Publish, Retire, FillPage, FillPointer, FillSnapshot, Extend, Install, Swing, Renew, Shut, Reopen, FillHeader, LockHeader, OpenHeader, Twin, SwingChain}
use Rattle.drop_core.specs.declared.event.Twins.{Twins}
use Rattle.drop_core.specs.Table.{slot_of, page_of, pointer_of, snap_of, has_slot, at_index, snap_home, page_span, leaf_home, has_pointer, is_led, is_live}
use Rattle.drop_core.specs.Event.{all_below, leads_down, tile, is_right_child, is_right, is_allowed, with_slot, with_header, grown, twinned, installed, dropped, swung, effect, leaf_keys, slot_span, keys_in, twin_home, next_place, moves}
use Rattle.drop_core.specs.Sound.{span_at, TiesPage, TiesTo, IsLedSo, IsSoundTable, IsRanked, IsRooted, HomesAreRooted, PublishedAreRight}
use Rattle.drop_core.specs.Law.{Leaves}
use Rattle.drop_core.proofs.Repoints.{slot-same, slot-other}
use Rattle.drop_core.proofs.Drops.{slot-gone, slot-kept}
use Rattle.drop_core.proofs.Fills.{snap-other}
use Rattle.drop_core.proofs.Decides.{below-each}
use Rattle.drop_core.proofs.Swings.{install_asks, install_within, swing_live, swing_within}
use Rattle.drop_core.proofs.Conditions.{CanTwin}
use Rattle.drop_core.proofs.Grows.{only_key}
use Rattle.drop_core.proofs.Halves.{adds_key, grows, splits}
use Rattle.drop_core.proofs.Splitting.{was_from, slots, all_within}
use Rattle.drop_core.proofs.ChainDrops.{chain_live, chain_within}

-- ---- what leads to a slot after an act other than an install and a split did so before

from_same : (x y : At) → From x ≡ From y → x ≡ y
from_same x y e = cc

in_same : (x y : Spot) → In x ≡ In y → x ≡ y
in_same x y e = cc

never_from : (y : At) → Never ≡ From y → ⊥
never_from y e = cc

away_from : (y : At) → Away ≡ From y → ⊥
away_from y e = cc

led_from : (l : Led) → is_led l ≡ true → (y : At) × (l ≡ From y)
led_from Never e = absurd (true≢false (sym e))
led_from (From y) e = (y, refl)
led_from Away e = absurd (true≢false (sym e))

-- the act leads to slots that nothing has led to
abbrev leads_anew : Act → Bool
leads_anew (Install x s) = true
leads_anew (Twin w) = true
leads_anew act = false

abbrev WasLed : Table → Table → Type 0
WasLed d new = (s : ℕ) (y : At) → (slot_of new s).led ≡ From y → (slot_of d s).led ≡ From y

module _ (d : Table) where
  with_led : (t : ℕ) (x : Slot) → ((y : At) → x.led ≡ From y → (slot_of d t).led ≡ From y) → WasLed d (with_slot d t x)
  with_led t x was s y is =
      elim (number_or_other t s) [
        | inl e ↦ ap (λ (u : ℕ). (slot_of d u).led) (sym e.0) ∙ was y (sym (ap (λ (q : Slot). q.led) (cond-true (eqb t s) x (slot_of d s) e.1)) ∙ is)
        | inr o ↦ sym (ap (λ (q : Slot). q.led) (cond-false (eqb t s) x (slot_of d s) o.1)) ∙ is
      ]

  dropped_led : (x : At) (n : ℕ) (gone : List ℕ) → WasLed d (dropped d x n gone)
  dropped_led x n gone s y is =
      elim (cases_Bool (has_slot gone s)) [
        | inl e ↦ absurd (away_from y (sym (ap (λ (q : Slot). q.led) (slot-gone d x n gone s e)) ∙ is))
        | inr e ↦ sym (ap (λ (q : Slot). q.led) (slot-kept d x n gone s e)) ∙ is
      ]

  swung_led : (g : Grip) (x : At) (n : ℕ) (o : Option ℕ) → WasLed d (swung d g x n o).table
  swung_led g x n None s y is = is
  swung_led g x n (Some t) s y is = dropped_led x n (t ∷ []) s y is

  was_led : (p : ℕ) (g : Grip) (act : Act) → leads_anew act ≡ false → WasLed d (effect p d g act).table
  was_led p g (Enter t) e = with_led t (record (slot_of d t) { passes = (slot_of d t).passes + 1 }) (λ y is. is)
  was_led p g (Leave t) e = with_led t (record (slot_of d t) { passes = (slot_of d t).passes - 1 }) (λ y is. is)
  was_led p g (Give t) e = with_led t (record (slot_of d t) { state = Owned; times = (slot_of d t).times + 1; led = Never }) (λ y is. absurd (never_from y is))
  was_led p g (Publish t) e = with_led t (record (slot_of d t) { state = Published }) (λ y is. is)
  was_led p g (Retire t) e = with_led t (record (slot_of d t) { state = Retired }) (λ y is. is)
  was_led p g (FillPage t page) e = λ s y is. is
  was_led p g (FillPointer x q) e = λ s y is. is
  was_led p g (FillSnapshot n page) e = λ s y is. is
  was_led p g (Extend n) e = λ s y is. is
  was_led p g (Install x t) e = absurd (true≢false e)
  was_led p g (Swing x n) e = swung_led g x n (pointer_of d x).slot
  was_led p g (Renew x n) e = λ s y is. is
  was_led p g (Shut x) e = λ s y is. is
  was_led p g (Reopen x) e = λ s y is. is
  was_led p g (FillHeader t) e = λ s y is. is
  was_led p g (LockHeader t) e = λ s y is. is
  was_led p g (OpenHeader t None) e = λ s y is. is
  was_led p g (OpenHeader t (Some k)) e = λ s y is. is
  was_led p g (Twin w) e = absurd (true≢false e)
  was_led p g (SwingChain x n c) e = dropped_led x n c.slots

-- ---- ranks

abbrev led_in : Table → ℕ → Led
led_in d s = (slot_of d s).led

ranked_same : (d new : Table) → WasLed d new → IsRanked (led_in d) → IsRanked (led_in new)
ranked_same d new was r = record {
  rank = r.rank;
  top = r.top;
  within = λ s led. let y = led_from (slot_of new s).led led in r.within s (ap is_led (was s y.0 y.1));
  below = λ s x is. r.below s x (was s (In x) is);
}

module _ (homes : Key → Home) (d : Table) (grips : List Grip) (sound : IsSoundTable homes d grips) (r : IsRanked (led_in d)) where
  from_is : (s : ℕ) (y : At) → (slot_of d s).led ≡ From y → (is_live d y ≡ true) × ((pointer_of d y).slot ≡ Some s)
  from_is s y e =
      let so = subst (λ (l : Led). IsLedSo d s (slot_of d s).state l) e (sound.holds_counted.led s) in (so.1, so.2)

  live_led : (z : Spot) → is_live d (In z) ≡ true → is_led (slot_of d z.slot).led ≡ true
  live_led z live = (and_parts (is_led (slot_of d z.slot).led) (has_pointer (page_of d z.slot) z.index) live).0

  -- a slot that is led to isn't one that nothing has led to
  not_fresh : (t : ℕ) → (slot_of d t).led ≡ Never → (s : ℕ) → is_led (slot_of d s).led ≡ true → t ≡ s → ⊥
  not_fresh t fresh s led e = true≢false (sym led ∙ ap (λ (u : ℕ). is_led (slot_of d u).led) (sym e) ∙ ap is_led fresh)

  -- ---- an install

  abbrev depth : At → ℕ
  depth (Root i) = 0
  depth (In z) = suc (r.rank z.slot)

  module _ (x : At) (t : ℕ) (live : is_live d x ≡ true) (fresh : (slot_of d t).led ≡ Never) where
    abbrev new_rank : ℕ → ℕ
    new_rank s = cond (eqb t s) (depth x) (r.rank s)

    rank-same : new_rank t ≡ depth x
    rank-same = elim (number_or_other t t) [
      | inl e ↦ cond-true (eqb t t) (depth x) (r.rank t) e.1
      | inr o ↦ absurd (o.0 refl)
    ]

    rank-other : (s : ℕ) → (t ≡ s → ⊥) → new_rank s ≡ r.rank s
    rank-other s other = elim (number_or_other t s) [
      | inl e ↦ absurd (other e.0)
      | inr o ↦ cond-false (eqb t s) (depth x) (r.rank s) o.1
    ]

    -- a slot that is led to is another one
    not_led : (s : ℕ) → is_led (slot_of d s).led ≡ true → t ≡ s → ⊥
    not_led = not_fresh t fresh

    depth_within : (y : At) → is_live d y ≡ true → depth y < suc r.top
    depth_within (Root i) ly = omega arith
    depth_within (In z) ly = let below = r.within z.slot (live_led z ly) in omega (arith, below)

    below_depth : (w : Spot) → x ≡ In w → new_rank w.slot < depth x
    below_depth w is =
        let led = live_led w (subst (λ (y : At). is_live d y ≡ true) is live) in
        let same = rank-other w.slot (not_led w.slot led) in
        subst (λ (y : At). new_rank w.slot < depth y) (sym is) (in_depth w same)
      where
        in_depth : (w : Spot) → new_rank w.slot ≡ r.rank w.slot → new_rank w.slot < depth (In w)
        in_depth w same = omega (arith, same)

    ranked_installed : IsRanked (led_in (installed d x t))
    ranked_installed = record {
      rank = new_rank;
      top = suc r.top;
      within = λ s led. elim (number_or_other t s) [
        | inl e ↦ subst (λ (u : ℕ). new_rank u < suc r.top) e.0 (let is = rank-same in let less = depth_within x live in omega (arith, is, less))
        | inr o ↦
            let was = sym (ap (λ (q : Slot). is_led q.led) (slot-other d x t (From x) (Some t) (pointer_of d x).page s o.0)) ∙ led in
            let is = rank-other s o.0 in
            let less = r.within s was in
            omega (arith, is, less)
      ];
      below = λ s w led. elim (number_or_other t s) [
        | inl e ↦
            let now = ap (λ (q : Slot). q.led) (slot-same d x t (From x) (Some t) (pointer_of d x).page) in
            let is = from_same x (In w) (sym now ∙ subst (λ (u : ℕ). led_in (installed d x t) u ≡ From (In w)) (sym e.0) led) in
            subst (λ (u : ℕ). new_rank w.slot < new_rank u) e.0 (let same = rank-same in let less = below_depth w is in omega (arith, same, less))
        | inr o ↦
            let was = sym (ap (λ (q : Slot). q.led) (slot-other d x t (From x) (Some t) (pointer_of d x).page s o.0)) ∙ led in
            let led = live_led w (from_is s (In w) was).0 in
            let same = rank-other w.slot (not_led w.slot led) in
            let is = rank-other s o.0 in
            let less = r.below s w was in
            omega (arith, same, is, less)
      ];
    }

  -- ---- a split: both halves have a rank above all others

  module _ (x : At) (span : Span) (w : Twins) (keys : List Key) (can : CanTwin d x span w keys) where
    abbrev twin_rank : ℕ → ℕ
    twin_rank s = cond (eqb w.minor s) r.top (cond (eqb w.major s) r.top (r.rank s))

    minor_rank : twin_rank w.minor ≡ r.top
    minor_rank = cond-true (eqb w.minor w.minor) r.top (cond (eqb w.major w.minor) r.top (r.rank w.minor)) (eq-eqb w.minor w.minor refl)

    major_rank : twin_rank w.major ≡ r.top
    major_rank = elim (number_or_other w.minor w.major) [
      | inl e ↦ absurd (can.two e.0)
      | inr o ↦ cond-false (eqb w.minor w.major) r.top (cond (eqb w.major w.major) r.top (r.rank w.major)) o.1
          ∙ cond-true (eqb w.major w.major) r.top (r.rank w.major) (eq-eqb w.major w.major refl)
    ]

    old_rank : (s : ℕ) → (w.minor ≡ s → ⊥) → (w.major ≡ s → ⊥) → twin_rank s ≡ r.rank s
    old_rank s oa ob =
        cond-false (eqb w.minor s) r.top (cond (eqb w.major s) r.top (r.rank s)) (false_from_ne_true (eqb w.minor s) (λ e. oa (eqb-true w.minor s e)))
        ∙ cond-false (eqb w.major s) r.top (r.rank s) (false_from_ne_true (eqb w.major s) (λ e. ob (eqb-true w.major s e)))

    led_rank : (s : ℕ) → is_led (slot_of d s).led ≡ true → twin_rank s ≡ r.rank s
    led_rank s led = old_rank s (not_fresh w.minor can.a_led s led) (not_fresh w.major can.b_led s led)

    split_led : is_led (slot_of d w.slot).led ≡ true
    split_led = ap is_led (was_from homes d grips x span w keys can sound)

    split_below : twin_rank w.slot < r.top
    split_below = let is = led_rank w.slot split_led in let less = r.within w.slot split_led in omega (arith, is, less)

    half_below : (i half : ℕ) → twin_rank half ≡ r.top → (v : Spot) → From (at_index w.slot i) ≡ From (In v) → twin_rank v.slot < twin_rank half
    half_below i half is v e =
        let same : w.slot ≡ v.slot = ap (λ (z : Spot). z.slot) (in_same (record { slot = w.slot; index = i }) v (from_same (at_index w.slot i) (In v) e)) in
        subst (λ (u : ℕ). twin_rank u < twin_rank half) same (let less = split_below in omega (arith, is, less))

    ranked_twin : IsRanked (led_in (twinned d span w))
    ranked_twin = record {
      rank = twin_rank;
      top = suc r.top;
      within = slots homes d grips x span w keys can sound (λ s q. is_led q.led ≡ true → twin_rank s < suc r.top)
          (λ led. let is = minor_rank in omega (arith, is)) (λ led. let is = major_rank in omega (arith, is))
          (λ s oa ob led. let is = old_rank s oa ob in let less = r.within s led in omega (arith, is, less));
      below = slots homes d grips x span w keys can sound (λ s q. (v : Spot) → q.led ≡ From (In v) → twin_rank v.slot < twin_rank s)
          (half_below 0 w.minor minor_rank) (half_below 1 w.major major_rank)
          (λ s oa ob v is.
          let led = live_led v (from_is s (In v) is).0 in
          let above = old_rank s oa ob in
          let same = led_rank v.slot led in
          let less = r.below s v is in
          omega (arith, above, same, less));
    }

  ranked_act : (p : ℕ) (g : Grip) (act : Act) → is_allowed p d g act ≡ true → IsRanked (led_in (effect p d g act).table)
  ranked_act p g (Twin w) can =
      let two = splits homes d grips sound p g w can in ranked_twin two.0 (slot_span d w.slot) w (leaf_keys (page_of d w.slot)) two.2
  ranked_act p g (Install x t) can = let asks = install_asks homes d grips sound p t g x can in ranked_installed x t asks.live asks.led
  ranked_act p g act can = ranked_same d (effect p d g act).table (was_led d p g act refl) r

  -- ---- roots

  inner_up : (y : At) (z : Spot) (k : Key) (pg : Page) → has_pointer pg z.index ≡ true → TiesPage homes d (pointer_of d y).span z.slot pg
      → in_span (span_at d (In z)) k ≡ true → in_span (span_at d y) k ≡ true
  inner_up y z k Blank there ties inside = absurd (true≢false (sym there))
  inner_up y z k (Leaf keys) there ties inside = absurd (true≢false (sym there))
  inner_up y z k (Inner n) there ties inside = ties.1 z.index k there inside
  inner_up y z k Split there ties inside = ties.1 z.index k there inside

  -- a key below a live pointer is below a root
  up : (f : ℕ) (x : At) (k : Key) → is_live d x ≡ true → in_span (span_at d x) k ≡ true → ((z : Spot) → x ≡ In z → r.rank z.slot < f) → IsRooted (span_at d) k
  up f (Root i) k live inside near = (i, inside)
  up zero (In z) k live inside near = absurd (none (r.rank z.slot) (near z refl))
    where
      none : (n : ℕ) → n < 0 → ⊥
      none n l = absurd (omega arith)
  up (suc f) (In z) k live inside near =
      let led = led_from (slot_of d z.slot).led (live_led z live) in
      let so = from_is z.slot led.0 led.1 in
      let there = (and_parts (is_led (slot_of d z.slot).led) (has_pointer (page_of d z.slot) z.index) live).1 in
      let ties = subst (λ (o : Option ℕ). TiesTo homes d (pointer_of d led.0).span (pointer_of d led.0).page o) so.1 (sound.one_home_each.ties led.0 so.0) in
      up f led.0 k so.0 (inner_up led.0 z k (page_of d z.slot) there ties inside)
      (λ w is. let less = r.below z.slot w (led.1 ∙ ap (λ (y : At). From y) is) in let bound = near z refl in omega (arith, less, bound))

  pub below_root : (x : At) (k : Key) → is_live d x ≡ true → in_span (span_at d x) k ≡ true → IsRooted (span_at d) k
  below_root x k live inside = up r.top x k live inside
      (λ z is. r.within z.slot (live_led z (subst (λ (y : At). is_live d y ≡ true) is live)))

  -- keys that move are below a live pointer
  rooted_moves : (to : Key → Home) (keys : List Key) → ((k : Key) → has_key keys k ≡ true → IsRooted (span_at d) k) → HomesAreRooted homes (span_at d)
      → HomesAreRooted (moved (moves_to to keys) homes) (span_at d)
  rooted_moves to keys below rooted k =
      elim (cases_Bool (has_key keys k)) [
        | inl hit ↦ inr (below k hit)
        | inr miss ↦ elim (rooted k) [
          | inl none ↦ inl (moved-other to keys homes k miss ∙ none)
          | inr root ↦ inr root
        ]
      ]

  rooted_act : (p : ℕ) (g : Grip) (act : Act) → is_allowed p d g act ≡ true → HomesAreRooted homes (span_at d) → HomesAreRooted (moved (moves d act) homes) (span_at d)
  rooted_act p g (Install x t) can rooted =
      rooted_moves (leaf_home t 0 (leaf_keys (page_of d t))) (leaf_keys (page_of d t))
      (λ k hit. below_root x k (install_asks homes d grips sound p t g x can).live (install_within homes d grips sound p t g x can k hit)) rooted
  rooted_act p g (Swing x n) can rooted =
      rooted_moves (snap_home d n) (keys_in d (pointer_of d x).slot)
      (λ k hit. below_root x k (swing_live homes d grips sound p g x n can) (swing_within homes d grips sound p g x n can k hit)) rooted
  rooted_act p g (OpenHeader t None) can rooted = rooted
  rooted_act p g (OpenHeader t (Some k)) can rooted =
      let grow = grows homes d grips sound t k (adds_key p d t k can) in
      rooted_moves (λ _. next_place d t) (k ∷ [])
      (λ q hit. subst (λ (z : Key). IsRooted (span_at d) z) (only_key k q hit) (below_root grow.0 k grow.3.live grow.3.inside)) rooted
  rooted_act p g (Twin w) can rooted =
      let two = splits homes d grips sound p g w can in
      rooted_moves (twin_home d (slot_span d w.slot) w) w.keys
      (λ k hit. below_root two.0 k two.2.live (all_within homes d grips two.0 (slot_span d w.slot) w (leaf_keys (page_of d w.slot)) two.2 sound k hit)) rooted
  rooted_act p g (SwingChain x n c) can rooted =
      rooted_moves (snap_home d n) c.keys
      (λ k hit. below_root x k (chain_live homes d grips sound p g x n c can) (chain_within homes d grips sound p g x n c can r k hit)) rooted
  rooted_act p g act can rooted = rooted

  -- the roots are over the keys that they were over
  same_roots : (new : Table) (homes' : Key → Home) → ((i : ℕ) → span_at new (Root i) ≡ span_at d (Root i)) → HomesAreRooted homes' (span_at d) → HomesAreRooted homes' (span_at new)
  same_roots new homes' same rooted k = elim (rooted k) [
    | inl none ↦ inl none
    | inr root ↦ inr (root.0, ap (λ (w : Span). in_span w k) (same root.0) ∙ root.1)
  ]

  pub ranked_keeps : (p : ℕ) (g : Grip) (act : Act) → is_allowed p d g act ≡ true → IsRanked (led_in (effect p d g act).table)
  ranked_keeps = ranked_act

  pub rooted_keeps : (p : ℕ) (g : Grip) (act : Act) → is_allowed p d g act ≡ true → Leaves grips d (effect p d g act).table → HomesAreRooted homes (span_at d)
      → HomesAreRooted (moved (moves d act) homes) (span_at (effect p d g act).table)
  rooted_keeps p g act can leaves rooted = same_roots (effect p d g act).table (moved (moves d act) homes) leaves.roots (rooted_act p g act can rooted)

-- ---- published pages

-- pages that stay over what they were over, as far as a page leads
children-same : (snaps snaps' : ℕ → SnapPage) (published l : ℕ) → ((n : ℕ) → n ≤ published → snaps' n ≡ snaps n) → l ≤ published
    → (children : List (Span × ℕ)) → list_all (λ e. ltb e.1 l) children ≡ true → list_all (is_right_child snaps) children ≡ true
    → list_all (is_right_child snaps') children ≡ true
children-same snaps snaps' published l same within [] down right = refl
children-same snaps snaps' published l same within (e ∷ more) down right =
    let d = and_parts (ltb e.1 l) (list_all (λ e. ltb e.1 l) more) down in
    let r = and_parts (is_right_child snaps e) (list_all (is_right_child snaps) more) right in
    and_from (is_right_child snaps' e) (list_all (is_right_child snaps') more)
    (ap (λ (q : SnapPage). eqb e.1 0 || same_span (page_span q) e.0) (same e.1 (less e.1 l published d.0 within)) ∙ r.0)
    (children-same snaps snaps' published l same within more d.1 r.1)
  where
    less : (a l n : ℕ) → ltb a l ≡ true → l ≤ n → a ≤ n
    less a l n e within = grind (arith, nat_tests)

right-same : (snaps snaps' : ℕ → SnapPage) (published l : ℕ) → ((n : ℕ) → n ≤ published → snaps' n ≡ snaps n) → l ≤ published
    → (page : SnapPage) → leads_down l page ≡ true → is_right snaps page ≡ true → is_right snaps' page ≡ true
right-same snaps snaps' published l same within Missing down right = right
right-same snaps snaps' published l same within (Entries over entries) down right = right
right-same snaps snaps' published l same within (Children over children) down right =
    let r = and_parts (tile over children) (list_all (is_right_child snaps) children) right in
    and_from (tile over children) (list_all (is_right_child snaps') children) r.0
    (children-same snaps snaps' published l same within children down r.1)

module _ (homes : Key → Home) (d : Table) (grips : List Grip) (sound : IsSoundTable homes d grips) (right : PublishedAreRight (snap_of d) d.published) where
  -- pages up to the count that stay, and the count
  same_right : (new : Table) → ((n : ℕ) → n ≤ d.published → snap_of new n ≡ snap_of d n) → PublishedAreRight (snap_of new) d.published
  same_right new same = record {
    down = λ n some within. ap (leads_down n) (same n within) ∙ right.down n some within;
    right = λ n some within. ap (is_right (snap_of new)) (same n within)
        ∙ right-same (snap_of d) (snap_of new) d.published n same within (snap_of d n) (right.down n some within) (right.right n some within);
  }

  -- a page above 0 is one after another
  after_one : (n l : ℕ) → 0 < l → l ≤ n → (j : ℕ) × (ltb j n ≡ true) × (j + 1 ≡ l)
  after_one n zero some within = absurd (omega arith)
  after_one n (suc j) some within = (j, less n j within, one j)
    where
      less : (n j : ℕ) → suc j ≤ n → ltb j n ≡ true
      less n j within = grind (arith, nat_tests)

      one : (j : ℕ) → j + 1 ≡ suc j
      one j = omega arith

  extended : (n : ℕ) → all_below n (λ l. leads_down (l + 1) (snap_of d (l + 1))) ≡ true → all_below n (λ l. is_right (snap_of d) (snap_of d (l + 1))) ≡ true
      → PublishedAreRight (snap_of d) n
  extended n down right = record {
    down = λ l some within. let j = after_one n l some within in
        subst (λ (m : ℕ). leads_down m (snap_of d m) ≡ true) j.2 (below-each n (λ l. leads_down (l + 1) (snap_of d (l + 1))) down j.0 j.1);
    right = λ l some within. let j = after_one n l some within in
        subst (λ (m : ℕ). is_right (snap_of d) (snap_of d m) ≡ true) j.2 (below-each n (λ l. is_right (snap_of d) (snap_of d (l + 1))) right j.0 j.1);
  }

  swung_right : (g : Grip) (x : At) (n : ℕ) (o : Option ℕ) → PublishedAreRight (snap_of (swung d g x n o).table) (swung d g x n o).table.published
  swung_right g x n None = right
  swung_right g x n (Some t) = same_right (swung d g x n (Some t)).table (λ m l. refl)

  pub right_keeps : (p : ℕ) (g : Grip) (act : Act) → is_allowed p d g act ≡ true
      → PublishedAreRight (snap_of (effect p d g act).table) (effect p d g act).table.published
  right_keeps p g (FillSnapshot n page) can =
      same_right (record d { snaps = (n, page) ∷ d.snaps }) (snap-other homes d grips sound n page (above d.published n (and_parts (eqb p 0) (ltb d.published n) can).1))
    where
      above : (a b : ℕ) → ltb a b ≡ true → a < b
      above a b e = grind (arith, nat_tests)
  right_keeps p g (Extend n) can =
      let down : Bool = all_below n (λ l. leads_down (l + 1) (snap_of d (l + 1))) in
      let fits : Bool = all_below n (λ l. is_right (snap_of d) (snap_of d (l + 1))) in
      let more = and_parts (leb d.published n) (down && fits) (and_parts (eqb p 0) (leb d.published n && (down && fits)) can).1 in
      let both = and_parts down fits more.1 in
      extended n both.0 both.1
  right_keeps p g (Swing x n) can = swung_right g x n (pointer_of d x).slot
  right_keeps p g (OpenHeader t None) can = same_right (with_header d t Free) (λ m l. refl)
  right_keeps p g (OpenHeader t (Some k)) can = same_right (grown d t k) (λ m l. refl)
  right_keeps p g act can = same_right (effect p d g act).table (λ m l. refl)
