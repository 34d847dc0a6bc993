-- What a walk leaves, one step after another.
use Rattle.std.proofs.Common.{◌≡◌, ◌≢◌, ◌⊎◌, inl, inr, ℕ, ◌+◌, ◌-◌, ◌*◌, ◌<◌, ◌≤◌, Bool, true}
use Rattle.std.proofs.Common.{false, true≢false}
use Rattle.std.proofs.Common.{eqb, eqb-true, eq-eqb, List, [], ◌∷◌, ◌++◌, length, refl, sym, ap, ◌∙◌, subst}
use Rattle.std.proofs.Common.{arith, Option}
use Rattle.std.specs.Prelude.{◌||◌}
use Rattle.std.specs.List.{Contains}
use Rattle.std.proofs.lemmas.Bool.{or_cases, or_right}
use Rattle.std.proofs.lemmas.Bool.Decides.{nat_tests}
use Rattle.lists.specs.Fronts.{front_refl, front_then}
use Rattle.serial_model.specs.Decls.{AreDecls}
use Rattle.serial_model.specs.declared.key.Key.{Key}
use Rattle.homes.specs.declared.places.At.{At}
use Rattle.homes.specs.declared.places.At.TheVariants.{Root, In}
use Rattle.homes.specs.declared.places.Span.{Span}
use Rattle.homes.specs.declared.places.Spot.{Spot}
use Rattle.homes.specs.Homes.{in_span}
use Rattle.homes.specs.Laws.{in_span-from}
use Rattle.commit_core.specs.declared.part.Part.{Part}
use Rattle.commit_core.specs.CoreState.{is_trying}
use Rattle.commit_core.specs.Parts.{Vouches}
use Rattle.commit_core.specs.Serial.{last_write}
use Rattle.drop_core.specs.declared.grip.Grip.{Grip}
use Rattle.drop_core.specs.Table.{has_slot}
use Rattle.tx_sets.specs.declared.seen.Seen.{Seen}
use Rattle.engine_pages.specs.declared.layout.Layout.{Layout}
use Rattle.engine_pages.specs.declared.view.Inner.{Inner}
use Rattle.engine_pages.specs.declared.view.Role.{Role}
use Rattle.engine_pages.specs.declared.view.View.{View}
use Rattle.engine_pages.specs.declared.view.Way.{Way}
use Rattle.engine_pages.specs.Agreement.{KnownAgree, TreesAgree}
use Rattle.engine_pages.specs.Layout.{page_at}
use Rattle.engine_pages.specs.Pages.{is_array, is_tree, root_span}
use Rattle.engine_pages.specs.Pointers.{IsArrayPointerAt, WaysAgree}
use Rattle.engine_pages.specs.Records.{IsRecordAt}
use Rattle.engine_pages.specs.Slots.{entered}
use Rattle.engine_pages.specs.Views.{IsActive}
use Rattle.array_pages.specs.Walks.{as_walked, AreLedBy, AreLedTo, CanWalk, HasWalked, IsLastBetween, IsPointersWord}
use Rattle.array_pages.specs.Walks.{IsOnto, IsWayPlace}
use Rattle.array_pages.specs.Walks.{KeepsMet, OnlyMet, OnlyWays, OnlyWaysTo}
use Rattle.array_pages.specs.Walks.{SawLast}

-- ---- what stays

pub layout_stays : (v w : View) → HasWalked v w → w.layout ≡ v.layout
layout_stays v w walk = ap (λ (z : View). z.layout) walk.is

pub role_stays : (v w : View) → HasWalked v w → w.role ≡ v.role
role_stays v w walk = ap (λ (z : View). z.role) walk.is

pub stage_stays : (v w : View) → HasWalked v w → w.seat.stage ≡ v.seat.stage
stage_stays v w walk = ap (λ (z : View). z.seat.stage) walk.is

-- a pointer's place stays known as ways are added
pub place_grows : (v w : View) (x : At) (span : Span) (at : ℕ) → w.layout ≡ v.layout
    → ((z : Way) → Contains v.ways z → Contains w.ways z) → IsArrayPointerAt v x span at → IsArrayPointerAt w x span at
place_grows v w (Root r) span at layout ways place =
    subst (λ (y : Layout). (r < length y.decls) × (span ≡ root_span y.decls r) × (at ≡ 10 + r)) (sym layout) place
place_grows v w (In y) span at layout ways place = record {
  way = place.way;
  has = ways place.way place.has;
  slot = place.slot;
  kind = subst (λ (z : Layout). is_array z.decls place.way.span.storage ≡ true) (sym layout) place.kind;
  inner = place.inner;
  index = place.index;
  span = place.span;
  word = place.word ∙ ap (λ (z : Layout). page_at z.slots y.slot y.index) (sym layout);
}

pub place_stays : (v w : View) (x : At) (span : Span) (at : ℕ) → HasWalked v w → IsArrayPointerAt v x span at
    → IsArrayPointerAt w x span at
place_stays v w x span at walk place = place_grows v w x span at (layout_stays v w walk) walk.ways place

pub word_stays : (v w : View) (at : ℕ) → HasWalked v w → IsPointersWord v at → IsPointersWord w at
word_stays v w at walk p = record {
  place = p.place;
  span = p.span;
  is = place_stays v w p.place p.span at walk p.is;
}

-- so does one on the way to a key
pub on_stays : (v w : View) (k : Key) (at : ℕ) → HasWalked v w → IsWayPlace v.layout k at → IsWayPlace w.layout k at
on_stays v w k at walk on = subst (λ (y : Layout). IsWayPlace y k at) (sym (layout_stays v w walk)) on

pub onto_stays : (v w : View) (span : Span) (at : ℕ) (k : Key) → HasWalked v w → IsOnto v.layout span at k
    → IsOnto w.layout span at k
onto_stays v w span at k walk o = record { over = o.over; on = on_stays v w k at walk o.on }

-- so does a record's
pub record_stays : (v w : View) (k : Key) (x : Spot) (at : ℕ) → HasWalked v w → IsRecordAt v k x at
    → IsRecordAt w k x at
record_stays v w k x at walk place =
    let layout = layout_stays v w walk in record {
      way = place.way;
      has = walk.ways place.way place.has;
      slot = place.slot;
      there = subst (λ (z : Layout). x.slot < z.slots) (sym layout) place.there;
      kind = subst (λ (z : Layout). is_array z.decls place.way.span.storage ≡ true) (sym layout) place.kind;
      leaf = place.leaf;
      index = place.index;
      key = place.key;
      word = place.word ∙ ap (λ (z : Layout). page_at z.slots x.slot (2 * x.index)) (sym layout);
    }

-- a pointer's word is neither the word of a record nor its value
pub pointer_apart : (v : View) (x : At) (span : Span) (a : ℕ) (k : Key) (y : Spot) (b : ℕ) → WaysAgree v.ways
    → AreDecls v.layout.decls → IsArrayPointerAt v x span a → IsRecordAt v k y b → (a ≢ b) × (a ≢ b + 1)
pointer_apart v (Root r) span a k y b agree are p q =
    let few = are.few in
    let less = p.0 in
    let first = p.2 in
    let word : b ≡ ((32 + v.layout.slots) + 64 * y.slot) + 2 * y.index = q.word in
    (λ e. absurd (omega (arith, few, less, first, word, e)), λ e. absurd (omega (arith, few, less, first, word, e)))
pointer_apart v (In z) span a k y b agree are p q =
    let low : z.index < 64 = p.index in
    let high : y.index < 32 = q.index in
    let first : a ≡ ((32 + v.layout.slots) + 64 * z.slot) + z.index = p.word in
    let word : b ≡ ((32 + v.layout.slots) + 64 * y.slot) + 2 * y.index = q.word in
    (λ e. other (omega (arith, low, high, first, word, e)), λ e. other (omega (arith, low, high, first, word, e)))
  where
    other : z.slot ≡ y.slot → ⊥
    other same =
        let leaf = (agree p.way q.way p.has q.has (p.slot ∙ (same ∙ sym q.slot))).2 in
        true≢false (sym q.leaf ∙ (sym leaf ∙ p.inner))

-- ---- walks

pub last_since : (v u w : View) (part : Part) → HasWalked v u → IsLastBetween u w part → IsLastBetween v w part
last_since v u w part walk l = record {
  history = l.history;
  decided = l.decided;
  drawn_since = front_then v.history u.history l.history walk.drawn l.drawn_since;
  seen_since = front_then v.decided u.decided l.decided walk.seen l.seen_since;
  drawn_by = l.drawn_by;
  seen_by = l.seen_by;
  last = subst (λ (y : Layout). Vouches (last_write y.opening l.history l.decided) part) (layout_stays v u walk) l.last;
}

pub last_by : (v u w : View) (part : Part) → HasWalked u w → IsLastBetween v u part → IsLastBetween v w part
last_by v u w part walk l = record {
  history = l.history;
  decided = l.decided;
  drawn_since = l.drawn_since;
  seen_since = l.seen_since;
  drawn_by = front_then l.history u.history w.history l.drawn_by walk.drawn;
  seen_by = front_then l.decided u.decided w.decided l.seen_by walk.seen;
  last = l.last;
}

pub walked_self : (v : View) → HasWalked v v
walked_self v = record {
  since = omega arith;
  drawn = front_refl v.history;
  seen = front_refl v.decided;
  parts = λ part has. inl has;
  held = λ t h. h;
  ways = λ x h. h;
  pages = front_refl v.pages;
  leads = λ x h. h;
  is = refl;
}

pub walked_then : (v u w : View) → HasWalked v u → HasWalked u w → HasWalked v w
walked_then v u w a b = record {
  since = let x = a.since in let y = b.since in omega (arith, x, y);
  drawn = front_then v.history u.history w.history a.drawn b.drawn;
  seen = front_then v.decided u.decided w.decided a.seen b.seen;
  parts = parts;
  held = λ t h. b.held t (a.held t h);
  ways = λ x h. b.ways x (a.ways x h);
  pages = front_then v.pages u.pages w.pages a.pages b.pages;
  leads = λ x h. b.leads x (a.leads x h);
  is = b.is ∙ ap (λ (y : View). as_walked y w) a.is;
}
  where
    parts : (part : Part) → Contains w.seat.kept part → Contains v.seat.kept part ⊎ IsLastBetween v w part
    parts part has =
        elim (b.parts part has) [
          | inl mid ↦ elim (a.parts part mid) [ inl old ↦ inl old | inr new ↦ inr (last_by v u w part b new) ]
          | inr new ↦ inr (last_since v u w part a new)
        ]

-- a walk that ends where this one does, and goes over the same fields
pub walked_formed : (v w z : View) → w ≡ as_walked v z → w ≡ as_walked v w
walked_formed v w z e = subst (λ (y : View). y ≡ as_walked v y) (sym e) refl

-- what it knows of pages of trees agrees, as its ways do
pub trees_after : (v w : View) → HasWalked v w → w.ways ≡ v.ways → TreesAgree v → TreesAgree w
trees_after v w walk ways a = record {
  known = subst KnownAgree (sym (ap (λ (z : View). z.known) walk.is)) a.known;
  inners = λ x y hx hy. a.inners x y (inner x hx) (inner y hy);
  apart = λ x y hx hy. a.apart x y (subst (λ (z : View). Contains z.known x) walk.is hx) (inner y hy);
  spans = λ x y hx hy same tree. a.spans x y (subst (λ (l : List Way). Contains l x) ways hx)
      (subst (λ (l : List Way). Contains l y) ways hy) same
      (subst (λ (l : Layout). is_tree l.decls x.span.storage ≡ true) (layout_stays v w walk) tree);
}
  where
    inner : (x : Inner) → Contains w.inners x → Contains v.inners x
    inner x has = subst (λ (z : View). Contains z.inners x) walk.is has

-- ---- ways that are new

-- the key is one of these
pub over_keys : (k : Key) (low last : ℕ) (span : Span) → span ≡ record { storage = k.storage; low = low; high = last }
    → low ≤ k.key → k.key ≤ last → in_span span k ≡ true
over_keys k low last span same from to =
    subst (λ (s : Span). in_span s k ≡ true) (sym same)
    (in_span-from (record { storage = k.storage; low = low; high = last }) k refl from to)

pub ways_then : (span : Span) (v u w : View) → OnlyWays span v u → OnlyWays span u w → OnlyWays span v w
ways_then span v u w first second =
    λ x has. elim (second x has) [ inl mid ↦ first x mid | inr new ↦ inr new ]

pub ways_to_then : (k : Key) (v u w : View) → OnlyWaysTo k v u → OnlyWaysTo k u w → OnlyWaysTo k v w
ways_to_then k v u w first second =
    λ x has. elim (second x has) [ inl mid ↦ first x mid | inr new ↦ inr new ]

-- over keys that the key is one of they are ways to it
pub ways_to : (k : Key) (span : Span) (v w : View) → in_span span k ≡ true → OnlyWays span v w → OnlyWaysTo k v w
ways_to k span v w over only =
    λ x has. elim (only x has) [
      | inl old ↦ inl old
      | inr new ↦ inr (subst (λ (s : Span). in_span s k ≡ true) (sym new) over)
    ]

pub ways_same : (k : Key) (v u w : View) → w.ways ≡ u.ways → OnlyWaysTo k v u → OnlyWaysTo k v w
ways_same k v u w same only = λ x has. only x (subst (λ (l : List Way). Contains l x) same has)

-- ---- ways into the slots that are held newly

abbrev pub way_to : ℕ → Span → Way
way_to t span = record { slot = t; span = span }

-- of the same slots none is new
pub led_none : (span : Span) (v w : View) → w.grip ≡ v.grip → AreLedBy span v w
led_none span v w grip t now was =
    absurd (true≢false (sym now ∙ (ap (λ (g : Grip). has_slot g.holds t) grip ∙ was)))

pub led_since : (span : Span) (v u w : View) → u.grip ≡ v.grip → AreLedBy span u w → AreLedBy span v w
led_since span v u w grip led t now was = led t now (ap (λ (g : Grip). has_slot g.holds t) grip ∙ was)

pub led_self : (k : Key) (v : View) → AreLedTo k v v
led_self k v t now was = absurd (true≢false (sym now ∙ was))

-- over keys that the key is one of they are on the way to it
pub led_over : (k : Key) (span : Span) (v w : View) → in_span span k ≡ true → AreLedBy span v w → AreLedTo k v w
led_over k span v w over led t now was = (way_to t span, led t now was, refl, over)

pub led_by : (k : Key) (v u w : View) → w.grip ≡ u.grip → ((x : Way) → Contains u.ways x → Contains w.ways x)
    → AreLedTo k v u → AreLedTo k v w
led_by k v u w grip grows led t now was =
    let m = led t (ap (λ (g : Grip). has_slot g.holds t) (sym grip) ∙ now) was in (m.0, grows m.0 m.1, m.2, m.3)

pub led_then : (k : Key) (v u w : View) → HasWalked u w → AreLedTo k v u → AreLedTo k u w → AreLedTo k v w
led_then k v u w walk first second t now was = by_test (has_slot u.grip.holds t) refl
  where
    by_test : (b : Bool) → has_slot u.grip.holds t ≡ b
        → (x : Way) × Contains w.ways x × (x.slot ≡ t) × (in_span x.span k ≡ true)
    by_test true mid = let m = first t mid was in (m.0, walk.ways m.0 m.1, m.2, m.3)
    by_test false mid = second t now mid

-- of one slot more, this one is
pub led_new : (t : ℕ) (span : Span) (v w : View) → w.grip.holds ≡ t ∷ v.grip.holds
    → Contains w.ways (record { slot = t; span = span }) → AreLedBy span v w
led_new t span v w holds way q now was =
    subst (λ (i : ℕ). Contains w.ways (way_to i span)) (here (ap (λ (l : List ℕ). has_slot l q) (sym holds) ∙ now)) way
  where
    here : has_slot (t ∷ v.grip.holds) q ≡ true → t ≡ q
    here either = elim (or_cases (eqb t q) (has_slot v.grip.holds q) either) [
      | inl same ↦ eqb-true t q same
      | inr old ↦ absurd (true≢false (sym old ∙ was))
    ]

-- ---- words that were met

pub only_self : (v : View) → OnlyMet v v
only_self v = λ a. inl refl

pub only_then : (v u w : View) → HasWalked u w → OnlyMet v u → OnlyMet u w → OnlyMet v w
only_then v u w walk first second =
    λ a. elim (second a) [
      | inl same ↦ elim (first a) [ inl before ↦ inl (same ∙ before) | inr p ↦ inr (word_stays u w a walk p) ]
      | inr p ↦ inr p
    ]

pub keeps_self : (pointers : List Seen) (v : View) → KeepsMet pointers v v
keeps_self pointers v = λ a word has p seen. seen

pub keeps_then : (pointers : List Seen) (v u w : View) → HasWalked v u → KeepsMet pointers v u → KeepsMet pointers u w
    → KeepsMet pointers v w
keeps_then pointers v u w walk first second =
    λ a word has p seen. second a word has (word_stays v u a walk p) (first a word has p seen)

pub saw_back : (at seen : ℕ) (was : Option ℕ) (v u w : View) → v.steps ≤ u.steps → SawLast at seen was u w
    → SawLast at seen was v w
saw_back at seen was v u w since s = record {
  step = s.step;
  since = let later = s.since in omega (arith, since, later);
  last = s.last;
  kept = s.kept;
  kept_is = s.kept_is;
  stands = s.stands;
}

-- ---- the holds

-- the same pass, with these holds
pub can_by : (slots late : List ℕ) (v w : View) → w.layout ≡ v.layout → w.role ≡ v.role → w.seat.stage ≡ v.seat.stage
    → ((t : ℕ) → has_slot late t ≡ has_slot w.grip.holds t) → ((t : ℕ) → has_slot late t ≡ true → t < v.layout.slots)
    → WaysAgree w.ways → TreesAgree w → CanWalk slots v → CanWalk late w
can_by slots late v w layout role stage holds within agree trees c = record {
  active = subst (λ (r : Role). IsActive r) (sym role) c.active;
  rest = ap is_trying stage ∙ c.rest;
  holds = holds;
  within = λ t h. subst (λ (y : Layout). t < y.slots) (sym layout) (within t h);
  agree = agree;
  trees = trees;
  declared = subst (λ (y : Layout). AreDecls y.decls) (sym layout) c.declared;
}

pub can_after : (slots : List ℕ) (v w : View) → HasWalked v w → w.grip ≡ v.grip → WaysAgree w.ways → TreesAgree w
    → CanWalk slots v → CanWalk slots w
can_after slots v w walk grip agree trees c =
    can_by slots slots v w (layout_stays v w walk) (role_stays v w walk) (stage_stays v w walk)
    (λ t. c.holds t ∙ ap (λ (g : Grip). has_slot g.holds t) (sym grip)) c.within agree trees c

push_any : (slots : List ℕ) (t q : ℕ) → has_slot (slots ++ t ∷ []) q ≡ has_slot (t ∷ slots) q
push_any [] t q = refl
push_any (s ∷ slots) t q =
    ap (λ (b : Bool). eqb s q || b) (push_any slots t q) ∙ swap (eqb s q) (eqb t q) (has_slot slots q)
  where
    swap : (a b c : Bool) → (a || (b || c)) ≡ (b || (a || c))
    swap true true c = refl
    swap true false c = refl
    swap false true c = refl
    swap false false c = refl

-- one slot more is held, and noted
pub entered_holds : (slots : List ℕ) (t : ℕ) (v w : View) → CanWalk slots v → w.grip.holds ≡ t ∷ v.grip.holds
    → (q : ℕ) → has_slot (slots ++ t ∷ []) q ≡ has_slot w.grip.holds q
entered_holds slots t v w c holds q =
    push_any slots t q ∙ (ap (λ (b : Bool). eqb t q || b) (c.holds q) ∙ ap (λ (l : List ℕ). has_slot l q) (sym holds))

pub entered_within : (slots : List ℕ) (t : ℕ) (v : View) → CanWalk slots v → t < v.layout.slots → (q : ℕ)
    → has_slot (slots ++ t ∷ []) q ≡ true → q < v.layout.slots
entered_within slots t v c there q h = by_test (eqb t q) refl (sym (push_any slots t q) ∙ h)
  where
    by_test : (b : Bool) → eqb t q ≡ b → (eqb t q || has_slot slots q) ≡ true → q < v.layout.slots
    by_test true same h = let is : t ≡ q = grind (arith, nat_tests) in subst (λ i. i < v.layout.slots) is there
    by_test false other h = c.within q (subst (λ (b : Bool). (b || has_slot slots q) ≡ true) other h)

pub can_entered : (slots : List ℕ) (t : ℕ) (v w : View) → t < v.layout.slots → w ≡ entered t v → CanWalk slots v
    → CanWalk (slots ++ t ∷ []) w
can_entered slots t v w there is c =
    can_by slots (slots ++ t ∷ []) v w (ap (λ (z : View). z.layout) is) (ap (λ (z : View). z.role) is)
    (ap (λ (z : View). z.seat.stage) is) (entered_holds slots t v w c (ap (λ (z : View). z.grip.holds) is))
    (entered_within slots t v c there) (subst (λ (z : View). WaysAgree z.ways) (sym is) c.agree)
    (subst TreesAgree (sym is)
    record { known = c.trees.known; inners = c.trees.inners; apart = c.trees.apart; spans = c.trees.spans }) c

pub self : (t : ℕ) → eqb t t ≡ true
self t = eq-eqb t t refl

pub walked_entered : (t : ℕ) (v : View) → HasWalked v (entered t v)
walked_entered t v = record {
  since = omega arith;
  drawn = front_refl v.history;
  seen = front_refl v.decided;
  parts = λ part has. inl has;
  held = λ q h. or_right (eqb t q) (has_slot v.grip.holds q) h;
  ways = λ x h. h;
  pages = front_refl v.pages;
  leads = λ x h. h;
  is = refl;
}

pub place_entered : (t : ℕ) (v w : View) (x : At) (span : Span) (at : ℕ) → w ≡ entered t v → IsArrayPointerAt v x span at
    → IsArrayPointerAt w x span at
place_entered t v w x span at is place =
    place_stays v w x span at (subst (HasWalked v) (sym is) (walked_entered t v)) place

pub below_full : (n : ℕ) → n ≤ 128 → eqb n 128 ≡ false → n < 128
below_full n few miss = let other : n ≢ 128 = λ e. true≢false (sym (eq-eqb n 128 e) ∙ miss) in omega (arith, few, other)
