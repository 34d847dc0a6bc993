-- A chain that may be swung is all that hangs on the pointer: each way below it ends in one of the chain's leaves.
use Rattle.std.proofs.Common.{◌≡◌, ℕ, zero, suc, ◌+◌, ◌<◌, ◌≤◌, Bool, true, false, not, true≢false, eqb, eqb-true, leb, ◌&&◌, ◌||◌, ◌⊎◌, inl, inr, List, [], ◌∷◌, length, refl, sym, ap, ◌∙◌, subst, arith, set, Option, Some, None}
use Rattle.std.proofs.lemmas.Bool.{cases_Bool, and_parts, and_from, or_cases, false_from_ne_true}
use Rattle.std.proofs.lemmas.Bool.Decides.{nat_tests}
use Rattle.std.specs.List.{slice_get, list_any, list_all}
use Rattle.std.specs.Option.{option_map_or}
use Rattle.serial_model.specs.declared.key.Key.{Key}
use Rattle.homes.specs.declared.places.Spot.{Spot}
use Rattle.homes.specs.declared.places.At.{At}
use Rattle.homes.specs.declared.places.At.TheVariants.{Root, In}
use Rattle.homes.specs.declared.places.Home.{Home}
use Rattle.homes.specs.declared.places.Home.TheVariants.{Nowhere}
use Rattle.homes.specs.Homes.{same_at, same_span, has_key, in_span, is_free, holder_is, moved}
use Rattle.homes.specs.Laws.{same_at-true}
use Rattle.drop_core.specs.declared.table.Led.{Led}
use Rattle.drop_core.specs.declared.table.Led.TheVariants.{Never, From, Away}
use Rattle.drop_core.specs.declared.table.Page.{Page}
use Rattle.drop_core.specs.declared.table.Page.TheVariants.{Blank, Leaf, Inner, Split}
use Rattle.drop_core.specs.declared.table.Table.{Table}
use Rattle.drop_core.specs.declared.grip.Grip.{Grip}
use Rattle.drop_core.specs.declared.event.Chain.{Chain}
use Rattle.drop_core.specs.declared.event.Act.TheVariants.{SwingChain}
use Rattle.drop_core.specs.Table.{slot_of, page_of, pointer_of, header_of, snap_of, has_slot, at_index, snap_home, page_span, leaf_home, has_pointer, is_led, is_live, is_inner, is_last_to}
use Rattle.drop_core.specs.Event.{each_once, leaf_keys, leaves_none_out, is_open, most_pages, leads_into, is_in, is_led_within, is_chain_page, is_link, is_key_in, is_chain, is_target, is_allowed, effect, moves}
use Rattle.drop_core.specs.Sound.{TiesPage, TiesTo, IsLedSo, IsSoundTable, IsRanked}
use Rattle.drop_core.specs.HomeLaws.{leaf-none, leaf-in}
use Rattle.drop_core.specs.KeyTests.{none-out}
use Rattle.drop_core.proofs.Conditions.{CanDrop}
use Rattle.drop_core.proofs.SlotTurns.{holders-set}
use Rattle.drop_core.proofs.Drops.{drop_sound}
use Rattle.drop_core.proofs.Swings.{recount}
use Rattle.drop_core.proofs.Splitting.{below_two}
use Rattle.drop_core.proofs.Halves.{all-keys}

all-slots : (test : ℕ → Bool) (slots : List ℕ) (s : ℕ) → list_all (λ t. test t) slots ≡ true → has_slot slots s ≡ true → test s ≡ true
all-slots test [] s all hit = absurd (true≢false (sym hit))
all-slots test (t ∷ more) s all hit =
    let parts = and_parts (test t) (list_all (λ u. test u) more) all in
    elim (or_cases (eqb t s) (has_slot more s) hit) [
      | inl is ↦ subst (λ (u : ℕ). test u ≡ true) (eqb-true t s is) parts.0
      | inr m ↦ all-slots test more s parts.1 m
    ]

some-slot : (test : ℕ → Bool) (slots : List ℕ) → list_any (λ t. test t) slots ≡ true → (s : ℕ) × (has_slot slots s ≡ true) × (test s ≡ true)
some-slot test [] any = absurd (true≢false (sym any))
some-slot test (t ∷ more) any =
    elim (or_cases (test t) (list_any (λ u. test u) more) any) [
      | inl is ↦ (t, here t more, is)
      | inr m ↦ let r = some-slot test more m in (r.0, there t more r.0 r.1, r.2)
    ]
  where
    here : (t : ℕ) (more : List ℕ) → (eqb t t || has_slot more t) ≡ true
    here t more = grind (arith, nat_tests)

    there : (t : ℕ) (more : List ℕ) (s : ℕ) → has_slot more s ≡ true → (eqb t s || has_slot more s) ≡ true
    there t more s e = elim (cases_Bool (eqb t s)) [ inl h ↦ rw h refl | inr h ↦ rw h e ]

into : (slots : List ℕ) (o : Option ℕ) → option_map_or (has_slot slots) o false ≡ true → (t : ℕ) × (o ≡ Some t) × (has_slot slots t ≡ true)
into slots None e = absurd (true≢false (sym e))
into slots (Some t) e = (t, refl, e)

into_is : (slots : List ℕ) (o : Option ℕ) (t : ℕ) → option_map_or (has_slot slots) o false ≡ true → o ≡ Some t → has_slot slots t ≡ true
into_is slots o t e is = sym (ap (λ (q : Option ℕ). option_map_or (has_slot slots) q false) is) ∙ e

not_true : (b : Bool) → not b ≡ true → b ≡ false
not_true true e = absurd (true≢false (sym e))
not_true false e = refl

led_within : (x : At) (slots : List ℕ) (l : Led) → is_led_within x slots l ≡ true → (y : At) × (l ≡ From y) × ((x ≡ y) ⊎ (is_in slots y ≡ true))
led_within x slots Never e = absurd (true≢false (sym e))
led_within x slots (From y) e = (y, refl, elim (or_cases (same_at x y) (is_in slots y) e) [ inl is ↦ inl (same_at-true x y is) | inr at ↦ inr at ])
led_within x slots Away e = absurd (true≢false (sym e))

module _ (homes : Key → Home) (d : Table) (grips : List Grip) (sound : IsSoundTable homes d grips) (p : ℕ) (g : Grip) (x : At) (n : ℕ) (c : Chain)
    (can : is_allowed p d g (SwingChain x n c) ≡ true) where
  -- ---- what the condition says

  abbrev stands : Bool
  stands = leaves_none_out d n (pointer_of d x).span c.keys

  opens : (is_open d x ≡ true) × ((is_target d n (pointer_of d x).span && (is_chain p d x c && stands)) ≡ true)
  opens = and_parts (is_open d x) (is_target d n (pointer_of d x).span && (is_chain p d x c && stands)) can

  pub chain_open : is_open d x ≡ true
  chain_open = opens.0

  pub chain_live : is_live d x ≡ true
  chain_live = (and_parts (is_live d x) (is_free (pointer_of d x).holder) opens.0).0

  aims : (is_target d n (pointer_of d x).span ≡ true) × ((is_chain p d x c && stands) ≡ true)
  aims = and_parts (is_target d n (pointer_of d x).span) (is_chain p d x c && stands) opens.1

  target : n ≤ d.published
  target = at_most n d.published (and_parts (leb n d.published) (eqb n 0 || same_span (page_span (snap_of d n)) (pointer_of d x).span) aims.0).0
    where
      at_most : (a b : ℕ) → leb a b ≡ true → a ≤ b
      at_most a b e = grind (arith, nat_tests)

  hangs : (is_chain p d x c ≡ true) × (stands ≡ true)
  hangs = and_parts (is_chain p d x c) stands aims.1

  none : (k : Key) → in_span (pointer_of d x).span k ≡ true → has_key c.keys k ≡ false → snap_home d n k ≡ Nowhere
  none = none-out d n (pointer_of d x).span c.keys hangs.1

  abbrev each_key : Bool
  each_key = list_all (λ k. is_key_in d c.slots k) c.keys

  abbrev each_link : Bool
  each_link = list_all (λ s. is_link p d x c s) c.slots

  few : (leb (length c.slots) most_pages ≡ true) × ((leads_into d c.slots x && (not (is_in c.slots x) && (each_link && (each_once c.keys && each_key)))) ≡ true)
  few = and_parts (leb (length c.slots) most_pages) (leads_into d c.slots x && (not (is_in c.slots x) && (each_link && (each_once c.keys && each_key)))) hangs.0

  first : (leads_into d c.slots x ≡ true) × ((not (is_in c.slots x) && (each_link && (each_once c.keys && each_key))) ≡ true)
  first = and_parts (leads_into d c.slots x) (not (is_in c.slots x) && (each_link && (each_once c.keys && each_key))) few.1

  outer : (not (is_in c.slots x) ≡ true) × ((each_link && (each_once c.keys && each_key)) ≡ true)
  outer = and_parts (not (is_in c.slots x)) (each_link && (each_once c.keys && each_key)) first.1

  lists : (each_link ≡ true) × ((each_once c.keys && each_key) ≡ true)
  lists = and_parts each_link (each_once c.keys && each_key) outer.1

  outside : is_in c.slots x ≡ false
  outside = not_true (is_in c.slots x) outer.0

  pub link : (s : ℕ) → has_slot c.slots s ≡ true
      → (holder_is p (header_of d s) ≡ true) × ((is_led_within x c.slots (slot_of d s).led && is_chain_page d c s (page_of d s)) ≡ true)
  link s hit = and_parts (holder_is p (header_of d s)) (is_led_within x c.slots (slot_of d s).led && is_chain_page d c s (page_of d s))
      (all-slots (λ t. is_link p d x c t) c.slots s lists.0 hit)

  abbrev IsBelow : At → Type 0
  IsBelow y = (x ≡ y) ⊎ (is_in c.slots y ≡ true)

  pub led_from : (s : ℕ) → has_slot c.slots s ≡ true → (y : At) × ((slot_of d s).led ≡ From y) × IsBelow y
  led_from s hit = led_within x c.slots (slot_of d s).led (and_parts (is_led_within x c.slots (slot_of d s).led) (is_chain_page d c s (page_of d s)) (link s hit).1).0

  page_in : (s : ℕ) → has_slot c.slots s ≡ true → is_chain_page d c s (page_of d s) ≡ true
  page_in s hit = (and_parts (is_led_within x c.slots (slot_of d s).led) (is_chain_page d c s (page_of d s)) (link s hit).1).1

  -- ---- pages of the chain

  from_is : (s : ℕ) (y : At) → (slot_of d s).led ≡ From y → (is_live d y ≡ true) × ((pointer_of d y).slot ≡ Some s)
  from_is s y e =
      let so = subst (λ (l : Led). IsLedSo d s (slot_of d s).state l) e (sound.holds_counted.led s) in (so.1, so.2)

  -- what the page of a slot of the chain ties, over what leads to it
  ties_of : (s : ℕ) (y : At) → is_live d y ≡ true → (pointer_of d y).slot ≡ Some s → (pg : Page) → page_of d s ≡ pg → TiesPage homes d (pointer_of d y).span s pg
  ties_of s y live leads pg page =
      subst (λ (q : Page). TiesPage homes d (pointer_of d y).span s q) page
      (subst (λ (o : Option ℕ). TiesTo homes d (pointer_of d y).span (pointer_of d y).page o) leads (sound.one_home_each.ties y live))

  -- a pointer of a page of the chain leads on in it
  leads_on : (s j : ℕ) → has_slot c.slots s ≡ true → (pg : Page) → page_of d s ≡ pg → has_pointer pg j ≡ true → is_chain_page d c s pg ≡ true
      → leads_into d c.slots (at_index s j) ≡ true
  leads_on s j hit Blank page there in_chain = absurd (true≢false (sym there))
  leads_on s j hit (Leaf keys) page there in_chain = absurd (true≢false (sym there))
  leads_on s j hit (Inner l) page there in_chain = absurd (true≢false (sym in_chain))
  leads_on s j hit Split page there in_chain =
      let both = and_parts (leads_into d c.slots (at_index s 0)) (leads_into d c.slots (at_index s 1)) in_chain in
      elim (below_two j there) [
        | inl e ↦ subst (λ (i : ℕ). leads_into d c.slots (at_index s i) ≡ true) (sym e) both.0
        | inr e ↦ subst (λ (i : ℕ). leads_into d c.slots (at_index s i) ≡ true) (sym e) both.1
      ]

  inside : (y : At) (t : ℕ) → is_in c.slots y ≡ true → is_live d y ≡ true → (pointer_of d y).slot ≡ Some t → has_slot c.slots t ≡ true
  inside (Root r) t hit live leads = absurd (true≢false (sym hit))
  inside (In z) t hit live leads =
      let there = (and_parts (is_led (slot_of d z.slot).led) (has_pointer (page_of d z.slot) z.index) live).1 in
      into_is c.slots (pointer_of d (In z)).slot t (leads_on z.slot z.index hit (page_of d z.slot) refl there (page_in z.slot hit)) leads

  keys_of : (s : ℕ) (keys : List Key) → has_slot c.slots s ≡ true → page_of d s ≡ Leaf keys → (k : Key) → has_key keys k ≡ true → has_key c.keys k ≡ true
  keys_of s keys hit page k there = all-keys (has_key c.keys) keys k (sym (ap (is_chain_page d c s) page) ∙ page_in s hit) there

  -- a key of a leaf of the chain was there
  down_page : (s : ℕ) → has_slot c.slots s ≡ true → (pg : Page) → page_of d s ≡ pg → (k : Key) → has_key (leaf_keys pg) k ≡ true
      → (has_key c.keys k ≡ true) × (homes k ≡ leaf_home s 0 (leaf_keys pg) k)
  down_page s hit Blank page k there = absurd (true≢false (sym there))
  down_page s hit (Leaf keys) page k there =
      let from = led_from s hit in
      let led = from_is s from.0 from.1 in
      let ties = ties_of s from.0 led.0 led.1 (Leaf keys) page in
      (keys_of s keys hit page k there, ties.0 k (ties.1 k there))
  down_page s hit (Inner l) page k there = absurd (true≢false (sym there))
  down_page s hit Split page k there = absurd (true≢false (sym there))

  pub chain_down : (s : ℕ) → has_slot c.slots s ≡ true → (k : Key) → has_key (leaf_keys (page_of d s)) k ≡ true
      → (has_key c.keys k ≡ true) × (homes k ≡ leaf_home s 0 (leaf_keys (page_of d s)) k)
  chain_down s hit = down_page s hit (page_of d s) refl

  -- ---- ways through the chain

  module _ (ranked : IsRanked (λ s. (slot_of d s).led)) where
    -- up: what is below a pointer of the chain is below x
    parent : (s : ℕ) (y : At) (j : ℕ) (k : Key) → is_live d y ≡ true → (pointer_of d y).slot ≡ Some s → (pg : Page) → page_of d s ≡ pg → has_pointer pg j ≡ true
        → in_span (pointer_of d (at_index s j)).span k ≡ true → in_span (pointer_of d y).span k ≡ true
    parent s y j k live leads Blank page there inside = absurd (true≢false (sym there))
    parent s y j k live leads (Leaf keys) page there inside = absurd (true≢false (sym there))
    parent s y j k live leads (Inner l) page there inside = (ties_of s y live leads (Inner l) page).1 j k there inside
    parent s y j k live leads Split page there inside = (ties_of s y live leads Split page).1 j k there inside

    up : (f : ℕ) (y : At) (k : Key) → is_live d y ≡ true → in_span (pointer_of d y).span k ≡ true → IsBelow y → ((z : Spot) → y ≡ In z → ranked.rank z.slot < f)
        → in_span (pointer_of d x).span k ≡ true
    up f y k live inside (inl e) near = subst (λ (w : At). in_span (pointer_of d w).span k ≡ true) (sym e) inside
    up f (Root r) k live inside (inr e) near = absurd (true≢false (sym e))
    up zero (In z) k live inside (inr e) near = absurd (under (ranked.rank z.slot) (near z refl))
      where
        under : (n : ℕ) → n < 0 → ⊥
        under n l = absurd (omega arith)
    up (suc f) (In z) k live inside (inr e) near =
        let there = (and_parts (is_led (slot_of d z.slot).led) (has_pointer (page_of d z.slot) z.index) live).1 in
        let from = led_from z.slot e in
        let led = from_is z.slot from.0 from.1 in
        up f from.0 k led.0 (parent z.slot from.0 z.index k led.0 led.1 (page_of d z.slot) refl there inside) from.2
        (λ w is. let less = ranked.below z.slot w (from.1 ∙ ap (λ (y : At). From y) is) in let bound = near z refl in omega (arith, less, bound))

    pub chain_within : (k : Key) → has_key c.keys k ≡ true → in_span (pointer_of d x).span k ≡ true
    chain_within k hit =
        let s = some-slot (λ t. has_key (leaf_keys (page_of d t)) k) c.slots (all-keys (is_key_in d c.slots) c.keys k (and_parts (each_once c.keys) each_key lists.1).1 hit) in
        let from = led_from s.0 s.1 in
        let led = from_is s.0 from.0 from.1 in
        up ranked.top from.0 k led.0 (in_leaf s.0 from.0 led.0 led.1 (page_of d s.0) refl s.2) from.2
        (λ z is. ranked.within z.slot (and_parts (is_led (slot_of d z.slot).led) (has_pointer (page_of d z.slot) z.index) (subst (λ (y : At). is_live d y ≡ true) is led.0)).0)
      where
        in_leaf : (s : ℕ) (y : At) → is_live d y ≡ true → (pointer_of d y).slot ≡ Some s → (pg : Page) → page_of d s ≡ pg → has_key (leaf_keys pg) k ≡ true
            → in_span (pointer_of d y).span k ≡ true
        in_leaf s y live leads Blank page there = absurd (true≢false (sym there))
        in_leaf s y live leads (Leaf keys) page there = (ties_of s y live leads (Leaf keys) page).1 k there
        in_leaf s y live leads (Inner l) page there = absurd (true≢false (sym there))
        in_leaf s y live leads Split page there = absurd (true≢false (sym there))

    -- down: the way to a key below x ends at a pointer with a leaf of the chain
    record IsEnd (k : Key) : Type 0 where
      pub at : At
      pub slot : ℕ
      pub keys : List Key
      pub live : is_live d at ≡ true
      pub leads : (pointer_of d at).slot ≡ Some slot
      pub hit : has_slot c.slots slot ≡ true
      pub page : page_of d slot ≡ Leaf keys
      pub inside : in_span (pointer_of d at).span k ≡ true
      pub below : IsBelow at

    -- so many steps are enough from here
    abbrev Down : ℕ → Key → Type 0
    Down f k = (y : At) (t : ℕ) → is_live d y ≡ true → (pointer_of d y).slot ≡ Some t → has_slot c.slots t ≡ true
        → in_span (pointer_of d y).span k ≡ true → IsBelow y → ranked.top ≤ f + ranked.rank t → IsEnd k

    down_at : (f : ℕ) (k : Key) → Down f k → (y : At) (t : ℕ) → is_live d y ≡ true → (pointer_of d y).slot ≡ Some t → has_slot c.slots t ≡ true
        → in_span (pointer_of d y).span k ≡ true → IsBelow y → ranked.top ≤ suc f + ranked.rank t → (pg : Page) → page_of d t ≡ pg → is_chain_page d c t pg ≡ true → IsEnd k
    down_at f k on y t live leads hit inside below near Blank page in_chain = absurd (true≢false (sym in_chain))
    down_at f k on y t live leads hit inside below near (Leaf keys) page in_chain =
        record { at = y; slot = t; keys = keys; live = live; leads = leads; hit = hit; page = page; inside = inside; below = below }
    down_at f k on y t live leads hit inside below near (Inner l) page in_chain = absurd (true≢false (sym in_chain))
    down_at f k on y t live leads hit inside below near Split page in_chain =
        let r = (ties_of t y live leads Split page).0 k inside in
        let led = sound.holds_counted.back y t live leads in
        let child_live = and_from (is_led (slot_of d t).led) (has_pointer (page_of d t) r.0) (ap is_led led) (ap (λ (q : Page). has_pointer q r.0) page ∙ r.1) in
        let next = into c.slots (pointer_of d (at_index t r.0)).slot (leads_on t r.0 hit Split page r.1 in_chain) in
        let less = ranked.below next.0 (record { slot = t; index = r.0 }) (sound.holds_counted.back (at_index t r.0) next.0 child_live next.1) in
        on (at_index t r.0) next.0 child_live next.1 next.2 r.2 (inr hit) (nearer f (ranked.rank t) (ranked.rank next.0) near less)
      where
        nearer : (f a b : ℕ) → ranked.top ≤ suc f + a → a < b → ranked.top ≤ f + b
        nearer f a b near less = omega (arith, near, less)

    down : (f : ℕ) (k : Key) → Down f k
    down zero k y t live leads hit inside below near =
        let led = ranked.within t (ap is_led (sound.holds_counted.back y t live leads)) in absurd (omega (arith, near, led))
    down (suc f) k y t live leads hit inside below near = down_at f k (down f k) y t live leads hit inside below near (page_of d t) refl (page_in t hit)

    end_of : (k : Key) → in_span (pointer_of d x).span k ≡ true → IsEnd k
    end_of k inside =
        let next = into c.slots (pointer_of d x).slot first.0 in
        down ranked.top k x next.0 chain_live next.1 next.2 inside (inl refl) (far ranked.top (ranked.rank next.0))
      where
        far : (t r : ℕ) → t ≤ t + r
        far t r = omega arith

    pub chain_drop : CanDrop homes d x n c.slots c.keys
    chain_drop = record {
      live = chain_live;
      published = target;
      outside = outside;
      leads = λ s e. into_is c.slots (pointer_of d x).slot s first.0 e;
      inside = inside;
      led = led_from;
      ends = λ k inside. let e = end_of k inside in (
        e.at,
        and_from (is_live d e.at) (is_last_to d (pointer_of d e.at).slot) e.live (ap (is_last_to d) e.leads ∙ ap (λ (q : Page). not (is_inner q)) e.page),
        e.inside,
        e.below,
      );
      within = chain_within;
      all = λ k y at hit.
          let own = sound.one_home_each.own k y at in
          keys_of y.slot own.keys hit own.page k (leaf-in y.slot 0 own.keys k y own.at).there;
      rest = λ k inside miss.
          let e = end_of k inside in
          (ties_of e.slot e.at e.live e.leads (Leaf e.keys) e.page).0 k e.inside
          ∙ leaf-none e.slot 0 e.keys k (false_from_ne_true (has_key e.keys k) (λ h. true≢false (sym (keys_of e.slot e.keys e.hit e.page k h) ∙ miss)))
          ∙ sym (none k inside miss);
    }

    pub chain_keeps : slice_get grips p ≡ Some g
        → IsSoundTable (moved (moves d (SwingChain x n c)) homes) (effect p d g (SwingChain x n c)).table (set grips p (effect p d g (SwingChain x n c)).grip)
    chain_keeps at =
        recount (moved (moves d (SwingChain x n c)) homes) (effect p d g (SwingChain x n c)).table grips (set grips p (effect p d g (SwingChain x n c)).grip)
        (λ t. holders-set t p grips g (effect p d g (SwingChain x n c)).grip at refl)
        (drop_sound homes d grips x n c.slots c.keys chain_drop sound)
