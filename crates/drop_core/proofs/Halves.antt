-- What the conditions of growing and splitting say, as facts of all keys.
use Rattle.std.proofs.Common.{◌≡◌, ℕ, ◌-◌, ◌<◌, ◌≤◌, Bool, true, false, not, true≢false, eqb, eq-eqb, leb, ltb, ◌&&◌, ◌||◌, ◌⊎◌, inl, inr, List, [], ◌∷◌, length, refl, sym, ◌∙◌, subst, arith, Some}
use Rattle.std.proofs.lemmas.Bool.{cases_Bool, and_parts, or_cases}
use Rattle.std.proofs.lemmas.Bool.Decides.{nat_tests}
use Rattle.std.specs.List.{list_all}
use Rattle.serial_model.specs.declared.key.Key.{Key}
use Rattle.homes.specs.declared.places.At.{At}
use Rattle.homes.specs.declared.places.Span.{Span}
use Rattle.homes.specs.declared.places.Home.{Home}
use Rattle.homes.specs.Homes.{same_key, has_key, in_span, is_free, holder_is}
use Rattle.homes.specs.Laws.{same_key-true, in_span-parts, in_span-from}
use Rattle.drop_core.specs.declared.table.Led.{Led}
use Rattle.drop_core.specs.declared.table.Led.TheVariants.{Never, From, Away}
use Rattle.drop_core.specs.declared.table.SlotState.TheVariants.{Published}
use Rattle.drop_core.specs.declared.table.Page.{Page}
use Rattle.drop_core.specs.declared.table.Page.TheVariants.{Blank, Leaf, Inner, Split}
use Rattle.drop_core.specs.declared.table.Table.{Table}
use Rattle.drop_core.specs.declared.grip.Grip.{Grip}
use Rattle.drop_core.specs.declared.event.Twins.{Twins}
use Rattle.drop_core.specs.declared.event.Act.TheVariants.{Twin}
use Rattle.drop_core.specs.Table.{slot_of, page_of, no_span, pointer_of, header_of, has_slot, is_never, is_live}
use Rattle.drop_core.specs.Event.{each_once, is_published, leaf_keys, most_records, minor_records, major_records, led_span, slot_span, takes_key, can_open_header, lower_span, upper_span, is_leaf_of, is_ready, is_half, are_keys_of, is_separator, key_in, can_split, is_allowed}
use Rattle.drop_core.specs.Sound.{IsLedSo, IsSoundTable}
use Rattle.drop_core.proofs.Conditions.{CanTwin, CanGrow}
use Rattle.drop_core.proofs.Swings.{published, never}

-- ---- tests over lists of keys

pub all-keys : (test : Key → Bool) (keys : List Key) (k : Key) → list_all (λ q. test q) keys ≡ true → has_key keys k ≡ true → test k ≡ true
all-keys test [] k all hit = absurd (true≢false (sym hit))
all-keys test (x ∷ more) k all hit =
    let parts = and_parts (test x) (list_all (λ q. test q) more) all in
    elim (or_cases (same_key x k) (has_key more k) hit) [
      | inl is ↦ subst (λ (q : Key). test q ≡ true) (same_key-true x k is) parts.0
      | inr m ↦ all-keys test more k parts.1 m
    ]

not_true : (b : Bool) → not b ≡ true → b ≡ false
not_true true e = absurd (true≢false (sym e))
not_true false e = refl

-- ---- spans

at_most : (a b : ℕ) → leb a b ≡ true → a ≤ b
at_most a b e = grind (arith, nat_tests)

below : (a b : ℕ) → ltb a b ≡ true → a < b
below a b e = grind (arith, nat_tests)

pub no_key : (k : Key) → in_span no_span k ≡ true → ⊥
no_key k inside = let at = in_span-parts no_span k inside in none k.key at.1 at.2
  where
    none : (n : ℕ) → 1 ≤ n → n ≤ 0 → ⊥
    none n a b = absurd (omega arith)

-- ---- parts of the conditions

-- who opens a header for a key holds it, and the page takes the key
opens_parts : (p : ℕ) (d : Table) (s : ℕ) (k : Key) → can_open_header p d s (Some k) ≡ true
    → (holder_is p (header_of d s) ≡ true) × (takes_key (slot_span d s) k (page_of d s) ≡ true)
opens_parts p d s k can =
    and_parts (holder_is p (header_of d s)) (takes_key (slot_span d s) k (page_of d s))
    (and_parts (not (eqb p 0)) (holder_is p (header_of d s) && takes_key (slot_span d s) k (page_of d s)) can).1

pub opens_held : (p : ℕ) (d : Table) (s : ℕ) (k : Key) → can_open_header p d s (Some k) ≡ true → holder_is p (header_of d s) ≡ true
opens_held p d s k can = (opens_parts p d s k can).0

pub adds_key : (p : ℕ) (d : Table) (s : ℕ) (k : Key) → can_open_header p d s (Some k) ≡ true → takes_key (slot_span d s) k (page_of d s) ≡ true
adds_key p d s k can = (opens_parts p d s k can).1

-- ---- what leads to the leaf

module _ (homes : Key → Home) (d : Table) (grips : List Grip) (sound : IsSoundTable homes d grips) where
  from_is : (s : ℕ) (y : At) → (slot_of d s).led ≡ From y → (is_live d y ≡ true) × ((pointer_of d y).slot ≡ Some s)
  from_is s y e =
      let so = subst (λ (l : Led). IsLedSo d s (slot_of d s).state l) e (sound.holds_counted.led s) in (so.1, so.2)

  -- ---- one more key

  grows_by : (s : ℕ) (k : Key) (l : Led) → (slot_of d s).led ≡ l → (pg : Page) → page_of d s ≡ pg → takes_key (led_span d l) k pg ≡ true
      → (x : At) × ((slot_of d s).led ≡ From x) × (keys : List Key) × CanGrow d x s keys k
  grows_by s k l led Blank page takes = absurd (true≢false (sym takes))
  grows_by s k (From x) led (Leaf keys) page takes =
      let parts = and_parts (in_span (led_span d (From x)) k) (not (has_key keys k) && ltb (length keys) most_records) takes in
      let from = from_is s x led in (
        x,
        led,
        keys,
        record {
          live = from.0;
          leads = from.1;
          page = page;
          inside = parts.0;
          new = not_true (has_key keys k) (and_parts (not (has_key keys k)) (ltb (length keys) most_records) parts.1).0;
        },
      )
  grows_by s k Never led (Leaf keys) page takes = absurd (no_key k (and_parts (in_span no_span k) (not (has_key keys k) && ltb (length keys) most_records) takes).0)
  grows_by s k Away led (Leaf keys) page takes = absurd (no_key k (and_parts (in_span no_span k) (not (has_key keys k) && ltb (length keys) most_records) takes).0)
  grows_by s k l led (Inner n) page takes = absurd (true≢false (sym takes))
  grows_by s k l led Split page takes = absurd (true≢false (sym takes))

  -- the leaf that takes the key, and what leads to it
  pub grows : (s : ℕ) (k : Key) → takes_key (slot_span d s) k (page_of d s) ≡ true
      → (x : At) × ((slot_of d s).led ≡ From x) × (keys : List Key) × CanGrow d x s keys k
  grows s k takes = grows_by s k (slot_of d s).led refl (page_of d s) refl takes

-- ---- halves

-- a slot that may be led to, with a leaf over the span
record IsHalf (d : Table) (s : ℕ) (span : Span) : Type 0 where
  pub state : (slot_of d s).state ≡ Published
  pub led : (slot_of d s).led ≡ Never
  pub page : page_of d s ≡ Leaf (leaf_keys (page_of d s))
  pub once : each_once (leaf_keys (page_of d s)) ≡ true
  pub within : (k : Key) → has_key (leaf_keys (page_of d s)) k ≡ true → in_span span k ≡ true

leaf_of : (span : Span) (count : ℕ) (pg : Page) → is_leaf_of span count pg ≡ true
    → (pg ≡ Leaf (leaf_keys pg)) × (each_once (leaf_keys pg) ≡ true) × ((k : Key) → has_key (leaf_keys pg) k ≡ true → in_span span k ≡ true)
leaf_of span count Blank e = absurd (true≢false (sym e))
leaf_of span count (Leaf keys) e =
    let all : Bool = list_all (λ k. in_span span k) keys in
    let parts = and_parts (eqb (length keys) count) (each_once keys && all) e in
    let rest = and_parts (each_once keys) all parts.1 in
    (refl, rest.0, λ k hit. all-keys (in_span span) keys k rest.1 hit)
leaf_of span count (Inner n) e = absurd (true≢false (sym e))
leaf_of span count Split e = absurd (true≢false (sym e))

half : (d : Table) (g : Grip) (s : ℕ) (span : Span) (count : ℕ) → is_half d g s span count ≡ true → IsHalf d s span
half d g s span count e =
    let a = and_parts (is_ready d g s) (is_free (header_of d s) && is_leaf_of span count (page_of d s)) e in
    let b = and_parts (has_slot g.made s) (is_published (slot_of d s).state && is_never (slot_of d s).led) a.0 in
    let c = and_parts (is_published (slot_of d s).state) (is_never (slot_of d s).led) b.1 in
    let f = and_parts (is_free (header_of d s)) (is_leaf_of span count (page_of d s)) a.1 in
    let leaf = leaf_of span count (page_of d s) f.1 in
    record { state = published (slot_of d s).state c.0; led = never (slot_of d s).led c.1; page = leaf.0; once = leaf.1; within = leaf.2 }

-- the two spans tile the whole
module _ (span : Span) (n : ℕ) (sep : is_separator span n ≡ true) where
  sides : (span.low < n) × (n ≤ span.high)
  sides = let parts = and_parts (ltb span.low n) (leb n span.high) sep in (below span.low n parts.0, at_most n span.high parts.1)

  cover : (k : Key) → in_span span k ≡ true → (in_span (lower_span span n) k ≡ true) ⊎ (in_span (upper_span span n) k ≡ true)
  cover k inside =
      let at = in_span-parts span k inside in
      elim (cases_Bool (leb n k.key)) [
        | inl e ↦ inr (in_span-from (upper_span span n) k at.0 (at_most n k.key e) at.2)
        | inr e ↦ inl (in_span-from (lower_span span n) k at.0 at.1 (before n k.key e))
      ]
    where
      before : (n k : ℕ) → leb n k ≡ false → k ≤ n - 1
      before n k e = grind (arith, nat_tests)

  lower_in : (k : Key) → in_span (lower_span span n) k ≡ true → in_span span k ≡ true
  lower_in k inside = let at = in_span-parts (lower_span span n) k inside in in_span-from span k at.0 at.1 (up k.key n span.high at.2 sides.1)
    where
      up : (k n h : ℕ) → k ≤ n - 1 → n ≤ h → k ≤ h
      up k n h a b = omega arith

  upper_in : (k : Key) → in_span (upper_span span n) k ≡ true → in_span span k ≡ true
  upper_in k inside = let at = in_span-parts (upper_span span n) k inside in in_span-from span k at.0 (up span.low n k.key sides.0 at.1) at.2
    where
      up : (l n k : ℕ) → l < n → n ≤ k → l ≤ k
      up l n k a b = omega arith

  halves_apart : (k : Key) → in_span (lower_span span n) k ≡ true → in_span (upper_span span n) k ≡ true → ⊥
  halves_apart k low up = let a = in_span-parts (lower_span span n) k low in let b = in_span-parts (upper_span span n) k up in clash span.low n k.key sides.0 a.2 b.1
    where
      clash : (l n k : ℕ) → l < n → k ≤ n - 1 → n ≤ k → ⊥
      clash l n k x a b = absurd (omega arith)

no_separator : (n : ℕ) → is_separator no_span n ≡ true → ⊥
no_separator n e = let at = sides no_span n e in none n at.0 at.1
  where
    none : (n : ℕ) → 1 < n → n ≤ 0 → ⊥
    none n a b = absurd (omega arith)

module _ (homes : Key → Home) (d : Table) (grips : List Grip) (sound : IsSoundTable homes d grips) (p : ℕ) (g : Grip) (w : Twins) where
  -- over the span of what leads to the leaf
  splits_over : (x : At) → (slot_of d w.slot).led ≡ From x → can_split p d g (pointer_of d x).span w ≡ true → CanTwin d x (pointer_of d x).span w (leaf_keys (page_of d w.slot))
  splits_over x led can =
      let span : Span = (pointer_of d x).span in
      let old : List Key = leaf_keys (page_of d w.slot) in
      let ka : List Key = leaf_keys (page_of d w.minor) in
      let kb : List Key = leaf_keys (page_of d w.major) in
      let t6 : Bool = are_keys_of old ka kb w.keys && has_key kb (key_in span w.separator) in
      let t5 : Bool = is_leaf_of span most_records (page_of d w.slot) && t6 in
      let t4 : Bool = is_half d g w.major (upper_span span w.separator) major_records && t5 in
      let t3 : Bool = is_half d g w.minor (lower_span span w.separator) minor_records && t4 in
      let t2 : Bool = not (eqb w.minor w.major) && t3 in
      let t1 : Bool = is_separator span w.separator && t2 in
      let c1 = and_parts (holder_is p (header_of d w.slot)) t1 can in
      let c2 = and_parts (is_separator span w.separator) t2 c1.1 in
      let c3 = and_parts (not (eqb w.minor w.major)) t3 c2.1 in
      let c4 = and_parts (is_half d g w.minor (lower_span span w.separator) minor_records) t4 c3.1 in
      let c5 = and_parts (is_half d g w.major (upper_span span w.separator) major_records) t5 c4.1 in
      let c6 = and_parts (is_leaf_of span most_records (page_of d w.slot)) t6 c5.1 in
      let c7 = and_parts (are_keys_of old ka kb w.keys) (has_key kb (key_in span w.separator)) c6.1 in
      let l4 : Bool = list_all (λ k. has_key w.keys k) old in
      let l3 : Bool = list_all (λ k. has_key w.keys k) kb in
      let l2 : Bool = list_all (λ k. has_key w.keys k) ka in
      let l1 : Bool = list_all (λ k. has_key ka k || has_key kb k) w.keys in
      let k1 = and_parts (each_once w.keys) (l1 && (l2 && (l3 && l4))) c7.0 in
      let k2 = and_parts l1 (l2 && (l3 && l4)) k1.1 in
      let k3 = and_parts l2 (l3 && l4) k2.1 in
      let k4 = and_parts l3 l4 k3.1 in
      let minor = half d g w.minor (lower_span span w.separator) minor_records c4.0 in
      let major = half d g w.major (upper_span span w.separator) major_records c5.0 in
      let from = from_is homes d grips sound w.slot x led in
      record {
        live = from.0;
        leads = from.1;
        page = (leaf_of span most_records (page_of d w.slot) c6.0).0;
        two = λ e. true≢false (sym (eq-eqb w.minor w.major e) ∙ not_true (eqb w.minor w.major) c3.0);
        a_state = minor.state;
        b_state = major.state;
        a_led = minor.led;
        b_led = major.led;
        a_page = minor.page;
        b_page = major.page;
        a_once = minor.once;
        b_once = major.once;
        a_within = minor.within;
        b_within = major.within;
        a_all = λ k hit. all-keys (has_key w.keys) ka k k3.0 hit;
        b_all = λ k hit. all-keys (has_key w.keys) kb k k4.0 hit;
        parts = λ k hit. or_cases (has_key ka k) (has_key kb k) (all-keys (λ q. has_key ka q || has_key kb q) w.keys k k2.0 hit);
        old = λ k hit. all-keys (has_key w.keys) old k k4.1 hit;
        cover = cover span w.separator c2.0;
        lower_in = lower_in span w.separator c2.0;
        upper_in = upper_in span w.separator c2.0;
        apart = halves_apart span w.separator c2.0;
      }

  separates : (span : Span) → can_split p d g span w ≡ true → is_separator span w.separator ≡ true
  separates span can =
      let t2 : Bool = not (eqb w.minor w.major) && (is_half d g w.minor (lower_span span w.separator) minor_records
      && (is_half d g w.major (upper_span span w.separator) major_records && (is_leaf_of span most_records (page_of d w.slot)
      && (are_keys_of (leaf_keys (page_of d w.slot)) (leaf_keys (page_of d w.minor)) (leaf_keys (page_of d w.major)) w.keys
      && has_key (leaf_keys (page_of d w.major)) (key_in span w.separator))))) in
      (and_parts (is_separator span w.separator) t2 (and_parts (holder_is p (header_of d w.slot)) (is_separator span w.separator && t2) can).1).0

  splits_by : (l : Led) → (slot_of d w.slot).led ≡ l → can_split p d g (led_span d l) w ≡ true
      → (x : At) × ((slot_of d w.slot).led ≡ From x) × CanTwin d x (led_span d l) w (leaf_keys (page_of d w.slot))
  splits_by Never led can = absurd (no_separator w.separator (separates no_span can))
  splits_by (From x) led can = (x, led, splits_over x led can)
  splits_by Away led can = absurd (no_separator w.separator (separates no_span can))

  pub splits : is_allowed p d g (Twin w) ≡ true
      → (x : At) × ((slot_of d w.slot).led ≡ From x) × CanTwin d x (slot_span d w.slot) w (leaf_keys (page_of d w.slot))
  splits can = splits_by (slot_of d w.slot).led refl (and_parts (not (eqb p 0)) (can_split p d g (slot_span d w.slot) w) can).1

-- who splits a leaf holds its header
pub splits_held : (p : ℕ) (d : Table) (g : Grip) (w : Twins) → is_allowed p d g (Twin w) ≡ true → holder_is p (header_of d w.slot) ≡ true
splits_held p d g w can =
    let span : Span = slot_span d w.slot in
    let rest : Bool = is_separator span w.separator && (not (eqb w.minor w.major) && (is_half d g w.minor (lower_span span w.separator) minor_records
    && (is_half d g w.major (upper_span span w.separator) major_records && (is_leaf_of span most_records (page_of d w.slot)
    && (are_keys_of (leaf_keys (page_of d w.slot)) (leaf_keys (page_of d w.minor)) (leaf_keys (page_of d w.major)) w.keys
    && has_key (leaf_keys (page_of d w.major)) (key_in span w.separator)))))) in
    (and_parts (holder_is p (header_of d w.slot)) rest (and_parts (not (eqb p 0)) (can_split p d g span w) can).1).0
