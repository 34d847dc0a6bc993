-- What it comes to that a key's record is looked for.
use Rattle.std.proofs.Common.{◌≡◌, inl, inr, ℕ, suc, ◌+◌, ◌^◌, ◌<◌, ◌≤◌, true}
use Rattle.std.proofs.Common.{List, length, refl, sym, ap, ◌∙◌, subst, arith, Option, Some}
use Rattle.std.specs.Prelude.{Result, Ok, Err}
use Rattle.std.specs.List.{Contains}
use Rattle.lists.specs.Fronts.{front_refl}
use Rattle.serial_model.specs.declared.key.Key.{Key}
use Rattle.homes.specs.declared.places.At.{At}
use Rattle.homes.specs.declared.places.Content.{Content}
use Rattle.homes.specs.declared.places.Span.{Span}
use Rattle.homes.specs.Homes.{in_span}
use Rattle.homes.specs.Laws.{in_span-from}
use Rattle.wire_form.specs.Words.{number_in}
use Rattle.snapshot_store.specs.ArrayPages.{array_format, array_found, IsArrayPage}
use Rattle.snapshot_store.specs.Content.{deepest}
use Rattle.snapshot_store.specs.Places.{find, StandsTo}
use Rattle.commit_core.specs.declared.attempt.Attempt.{Attempt}
use Rattle.serial_model.specs.declared.number.Number.{Number}
use Rattle.commit_core.specs.declared.part.Part.{Part}
use Rattle.commit_core.specs.Keys.{nothing}
use Rattle.commit_core.specs.Parts.{found, only, record_part, with_part, IsSameOrAbsent}
use Rattle.commit_core.specs.Serial.{last_write}
use Rattle.tx_sets.specs.declared.seen.Seen.{Seen}
use Rattle.engine_pages.specs.declared.layout.Layout.{Layout}
use Rattle.engine_pages.specs.Layout.{words_of}
use Rattle.engine_pages.specs.declared.view.Lead.{Lead}
use Rattle.engine_pages.specs.declared.view.RefusalCause.{RefusalCause}
use Rattle.engine_pages.specs.declared.view.RefusalCause.TheVariants as causes
use Rattle.engine_pages.specs.declared.view.SetName.TheVariants as sets
use Rattle.engine_pages.specs.declared.view.View.{View}
use Rattle.engine_pages.specs.Pointers.{IsArrayPointerAt, StandsFor, WaysAgree}
use Rattle.engine_pages.specs.Resident.{found_content, place_for}
use Rattle.engine_pages.specs.Steps.{kept_at, seen_at}
use Rattle.dual_pointer.specs.Parts.{content_below, part_stays, IsPointerPart}
use Rattle.array_pages.specs.declared.finding.Found.{Found}
use Rattle.array_pages.specs.declared.finding.Found.TheVariants as places
use Rattle.array_pages.specs.declared.walk.Reached.{Reached}
use Rattle.array_pages.specs.declared.walk.Reached.TheVariants as ends
use Rattle.array_pages.specs.Finding.{HasGlanced, IsContentBelow, IsFound, IsFoundBelow, IsFoundIn, IsRecordChanged}
use Rattle.array_pages.specs.Finding.{LeavesMemory, RefusesFind}
use Rattle.array_pages.specs.Snapshots.{deep, CanLook, StandsAbove}
use Rattle.array_pages.specs.Spans.{keys_above, IsArrayAt, IsArrayKey}
use Rattle.array_pages.specs.Steps.{FindsSo, MeetsRecord, ReachesSo, ReadsSo, RefusesRead}
use Rattle.array_pages.specs.Walks.{AreLedTo, CanWalk, HasWalked, IsOnto, IsPointerChanged, KeepsMet}
use Rattle.array_pages.specs.Walks.{KeepsWords, MeetsSo, OnlyMet, OnlyWaysTo, RefusesWalk}
use Rattle.array_pages.proofs.DeclLaws.{array_there, stands_in}
use Rattle.array_pages.proofs.PageLaws.{stands_deep}
use Rattle.array_pages.proofs.WalkLaws.{can_after}
use Rattle.array_pages.proofs.WalkLaws.{keeps_self, keeps_then, layout_stays, led_self, only_self, only_then, place_stays}
use Rattle.array_pages.proofs.WalkLaws.{trees_after, walked_self}
use Rattle.array_pages.proofs.WalkLaws.{pointer_apart, saw_back}
use Rattle.array_pages.proofs.WalkLaws.{led_by, led_over, led_then, onto_stays, walked_then, ways_same, ways_to}
use Rattle.array_pages.proofs.WalkLaws.{ways_to_then, word_stays}

-- ---- from one page to the next

found_back : (k : Key) (pointers : List Seen) (f : Found) (v u w : View) → HasWalked v u → HasWalked u w → OnlyMet v u
    → u.seat.kept ≡ v.seat.kept → KeepsWords v u → IsFound k pointers f u w → IsFound k pointers f v w
found_back k pointers (places.Volatile at word value) v u w walk later only kept words h = record {
  spot = h.spot;
  place = h.place;
  index = h.index;
  content = h.content;
  shown = h.shown;
  has = h.has;
  last = subst (λ (y : Layout). h.content ≡ last_write y.opening w.history w.decided k) (layout_stays v u walk) h.last;
  kept = h.kept ∙ ap (λ (l : List Part). with_part l (record_part k h.spot h.content)) kept;
  met = h.met;
  others = λ a one two. elim (h.others a one two) [
    | inl same ↦ elim (only a) [ inl before ↦ inl (same ∙ before) | inr p ↦ inr (word_stays u w a later p) ]
    | inr p ↦ inr p
  ];
  words = λ a. h.words a ∙ words a;
}
found_back k pointers (places.Snapshot value number p) v u w walk later only kept words h =
    below_back k (record { number = number_in number; value = Some value }) pointers p v u w walk later only kept words
    h
  where
    below_back : (k : Key) (c : Content) (pointers : List Seen) (p : Seen) (v u w : View) → HasWalked v u
        → HasWalked u w
        → OnlyMet v u
        → u.seat.kept ≡ v.seat.kept → KeepsWords v u → IsFoundBelow k c pointers p u w → IsFoundBelow k c pointers p v w
    below_back k c pointers p v u w walk later only kept words h = record {
      place = h.place;
      span = h.span;
      is = h.is;
      within = h.within;
      over = h.over;
      on = h.on;
      bare = h.bare;
      part = h.part;
      of = h.of;
      kept = h.kept ∙ ap (λ (l : List Part). with_part l h.part) kept;
      word_kept = h.word_kept;
      words = λ a apart. h.words a apart ∙ words a;
      inside = h.inside;
      covers_all = h.covers_all;
      says = h.says;
      stands = h.stands;
      covered = h.covered;
      has = h.has;
      last = subst (λ (y : Layout). c.value ≡ (last_write y.opening w.history w.decided k).value)
          (layout_stays v u walk)
          h.last;
      saw = h.saw;
      met = h.met;
      others = only_then v u w later only h.others;
    }
found_back k pointers (places.Zero p) v u w walk later only kept words h = record {
  place = h.place;
  span = h.span;
  is = h.is;
  within = h.within;
  over = h.over;
  on = h.on;
  bare = h.bare;
  part = h.part;
  of = h.of;
  kept = h.kept ∙ ap (λ (l : List Part). with_part l h.part) kept;
  word_kept = h.word_kept;
  words = λ a apart. h.words a apart ∙ words a;
  inside = h.inside;
  covers_all = h.covers_all;
  says = h.says;
  stands = h.stands;
  covered = h.covered;
  has = h.has;
  last = subst (λ (y : Layout). nothing.value ≡ (last_write y.opening w.history w.decided k).value)
      (layout_stays v u walk)
      h.last;
  saw = h.saw;
  met = h.met;
  others = only_then v u w later only h.others;
}

pointer_back : (k : Key) (pointers : List Seen) (at expected seen : ℕ) (v u w : View) → HasWalked v u
    → KeepsMet pointers v u → KeepsWords v u
    → IsPointerChanged k pointers at expected seen u w → IsPointerChanged k pointers at expected seen v w
pointer_back k pointers at expected seen v u w walk keeps words h = record {
  place = h.place;
  was = h.was;
  saw = record {
    step = h.saw.step;
    since = let first = walk.since in let later = h.saw.since in omega (arith, first, later);
    last = h.saw.last;
    kept = h.saw.kept;
    kept_is = h.saw.kept_is;
    stands = h.saw.stands;
  };
  known = h.known;
  before = λ p has seen'. elim (h.before (word_stays v u at walk p) has (keeps at expected has p seen')) [
    | inl was ↦ inl was
    | inr kept ↦ inr (kept ∙ words at)
  ];
  cause = h.cause;
}

pub record_back : (k : Key) (slots : List ℕ) (at expected seen : ℕ) (v u w : View) → v.steps ≤ u.steps → HasWalked u w
    → CanWalk slots w → OnlyMet v u → IsRecordChanged k at expected seen u w → IsRecordChanged k at expected seen v w
record_back k slots at expected seen v u w since later can only h = record {
  spot = h.spot;
  place = h.place;
  index = h.index;
  was = h.was;
  saw = saw_back at seen h.was v u w since h.saw;
  cause = elim h.cause [
    | inl locked ↦ inl record { locked = locked.locked; same = locked.same; before = locked.before ∙ before }
    | inr changed ↦ inr changed
  ];
}
  where
    before : seen_at u.reads at ≡ seen_at v.reads at
    before = elim (only at) [
      | inl same ↦ same
      | inr p ↦
          let q = word_stays u w at later p in
          absurd ((pointer_apart w q.place q.span at k h.spot at can.agree can.declared q.is h.place).0 refl)
    ]

finds_refuses : (k : Key) (pointers : List Seen) (slots : List ℕ) (why : RefusalCause) (v u w : View) → HasWalked v u
    → KeepsMet pointers v u → KeepsWords v u → HasWalked u w → CanWalk slots w → OnlyMet v u → AreLedTo k v u
    → RefusesFind k pointers slots why u w
    → RefusesFind k pointers slots why v w
finds_refuses k pointers slots (causes.Conflict at expected seen) v u w walk keeps words later can only led h =
    elim h [
      | inl p ↦ inl (pointer_back k pointers at expected seen v u w walk keeps words p)
      | inr r ↦ inr (record_back k slots at expected seen v u w walk.since later can only r)
    ]
finds_refuses k pointers slots (causes.Full held) v u w walk keeps words later can only led h = absurd h
finds_refuses k pointers slots (causes.Wide sets.Reads) v u w walk keeps words later can only led h = absurd h
finds_refuses k pointers slots (causes.Wide sets.Writes) v u w walk keeps words later can only led h = absurd h
finds_refuses k pointers slots (causes.Wide sets.Pointers) v u w walk keeps words later can only led h =
    (h.0, h.1, led_then k v u w later led h.2)
finds_refuses k pointers slots (causes.Wide sets.Holds) v u w walk keeps words later can only led h =
    (h.0, h.1, led_then k v u w later led h.2)
finds_refuses k pointers slots (causes.NumberLimit clock) v u w walk keeps words later can only led h = absurd h

-- what was found from a view on was found from an earlier one on
pub finds_back : (b bound less few : ℕ) (k : Key) (pointers : List Seen) (slots : List ℕ)
    (r : Result Found RefusalCause)
    (v u w : View) → w.steps ≤ v.steps + bound → less ≤ few → HasWalked v u → OnlyMet v u → KeepsMet pointers v u
    → u.seat.kept ≡ v.seat.kept → KeepsWords v u → OnlyWaysTo k v u → AreLedTo k v u
    → FindsSo b less k pointers slots r u w → FindsSo bound few k pointers slots r v w
finds_back b bound less few k pointers slots (Ok f) v u w most more walk only keeps kept words ways led h = record {
  can = h.can;
  walked = walked_then v u w walk h.walked;
  most = most;
  grows = let first = h.grows in omega (arith, first, more);
  only = ways_to_then k v u w ways h.only;
  led = led_then k v u w h.walked led h.led;
  keeps = keeps_then pointers v u w walk keeps h.keeps;
  found = found_back k pointers f v u w walk h.walked only kept words h.found;
  cause = tt;
}
finds_back b bound less few k pointers slots (Err why) v u w most more walk only keeps kept words ways led h = record {
  can = h.can;
  walked = walked_then v u w walk h.walked;
  most = most;
  grows = let first = h.grows in omega (arith, first, more);
  only = ways_to_then k v u w ways h.only;
  led = tt;
  keeps = tt;
  found = tt;
  cause = finds_refuses k pointers slots why v u w walk keeps words h.walked h.can only led h.cause;
}

walk_refuses : (k : Key) (pointers : List Seen) (slots : List ℕ) (why : RefusalCause) (v w : View)
    → RefusesWalk k pointers slots why v w → RefusesFind k pointers slots why v w
walk_refuses k pointers slots (causes.Conflict at expected seen) v w h = inl h
walk_refuses k pointers slots (causes.Full held) v w h = absurd h
walk_refuses k pointers slots (causes.Wide set) v w h = h
walk_refuses k pointers slots (causes.NumberLimit clock) v w h = absurd h

-- the pointer was refused
pub finds_none : (bound less few : ℕ) (k : Key) (pointers : List Seen) (slots : List ℕ) (place : At) (span : Span)
    (at : ℕ)
    (why : RefusalCause) (v w : View) → w.steps ≤ v.steps + bound → less ≤ few → IsOnto v.layout span at k
    → ReachesSo less pointers slots place span at (Err why) v w → FindsSo bound few k pointers slots (Err why) v w
finds_none bound less few k pointers slots place span at why v w most more onto h = record {
  can = h.can;
  walked = h.walked;
  most = most;
  grows = let first = h.grows in omega (arith, first, more);
  only = ways_to k span v w onto.over h.only;
  led = tt;
  keeps = tt;
  found = tt;
  cause = walk_refuses k pointers slots why v w (h.cause k onto);
}

-- ---- below a pointer

pub over_span : (k : Key) (low last : ℕ) → low ≤ k.key → k.key ≤ last
    → in_span (record { storage = k.storage; low = low; high = last }) k ≡ true
over_span k low last from to = in_span-from (record { storage = k.storage; low = low; high = last }) k refl from to

pub walked_glanced : (v w : View) → HasGlanced v w → HasWalked v w
walked_glanced v w g =
    subst (HasWalked v) (sym g.is) record {
      since = g.since;
      drawn = front_refl v.history;
      seen = front_refl v.decided;
      parts = λ part has. inl has;
      held = λ t h. h;
      ways = λ x h. h;
      pages = front_refl v.pages;
      leads = λ x h. h;
      is = refl;
    }

same_value : (c d : Content) → IsSameOrAbsent c d → c.value ≡ d.value
same_value c d (inl same) = ap (λ (z : Content). z.value) same
same_value c d (inr none) = none.0 ∙ sym none.1

is_below : (k : Key) (c : Content) (pointers : List Seen) (p : Seen) (place : At) (span : Span) (n : ℕ) (v u w : View)
    → HasGlanced u w → p.word ≡ n → IsArrayPointerAt w place span p.at → p.at < words_of w.layout
    → IsOnto w.layout span p.at k → OnlyMet v w
    → LeavesMemory place span p.at n v u → content_below u.pages span n k ≡ c → MeetsSo pointers p.at n
    → IsFoundBelow k c pointers p v w
is_below k c pointers p place span n v u w g word is within onto only leaves content met = record {
  place = place;
  span = span;
  is = is;
  within = within;
  over = onto.over;
  on = onto.on;
  bare = subst (λ i. i < 2 ^ 32) (sym word) leaves.bare;
  part = leaves.part;
  of = part_stays u w place span p.word leaves.part
      (λ z has. subst (λ (l : List Lead). Contains l z) (sym (ap (λ (y : View). y.leads) g.is)) has)
      (subst (λ i. IsPointerPart u place span i leaves.part) (sym word) leaves.of);
  kept = ap (λ (y : View). y.seat.kept) g.is ∙ leaves.kept;
  word_kept =
      ap (λ (y : View). kept_at y.reads p.at) g.is
      ∙ (leaves.word_kept ∙ ap (λ (i : ℕ). let o : Option ℕ = Some i in o) (sym word));
  words = λ a apart. ap (λ (y : View). kept_at y.reads a) g.is ∙ leaves.words a apart;
  inside = leaves.inside;
  covers_all = leaves.covered;
  says = λ q there.
      leaves.has q there
      ∙ (ap (λ (l : List (List ℕ)). content_below l span n q) (sym (ap (λ (y : View). y.pages) g.is))
      ∙ ap (λ (i : ℕ). content_below w.pages span i q) (sym word));
  stands = λ some.
      subst (λ (y : View). StandsFor y.layout.decls y.pages span p.word) (sym g.is)
      (subst (λ (i : ℕ). StandsFor u.layout.decls u.pages span i) (sym word)
      (leaves.stands (subst (λ (i : ℕ). 0 < i) word some)));
  covered = leaves.covered k onto.over;
  has = leaves.has k onto.over ∙ content;
  last =
      ap (λ (z : Content). z.value) (sym (leaves.has k onto.over ∙ content))
      ∙ (same_value (found leaves.part k) (last_write v.layout.opening u.history u.decided k)
      (leaves.last k (leaves.covered k onto.over))
      ∙ (ap (λ (l : List Attempt). (last_write v.layout.opening l u.decided k).value)
      (sym (ap (λ (y : View). y.history) g.is))
      ∙ ap (λ (l : List Number). (last_write v.layout.opening w.history l k).value)
      (sym (ap (λ (y : View). y.decided) g.is))));
  saw =
      ap (λ (y : View). seen_at y.reads p.at) g.is
      ∙ (leaves.met ∙ ap (λ (i : ℕ). let o : Option ℕ = Some i in o) (sym word));
  met = subst (λ i. MeetsSo pointers p.at i) (sym word) met;
  others = only;
}

by_content : (k : Key) (pointers : List Seen) (p : Seen) (place : At) (span : Span) (n number value : ℕ) (r : Found)
    (v u w : View) → HasGlanced u w → p.word ≡ n → IsArrayPointerAt w place span p.at → p.at < words_of w.layout
    → IsOnto w.layout span p.at k → OnlyMet v w → LeavesMemory place span p.at n v u
    → array_found number value ≡ find array_format u.pages deepest k.key (place_for span n) → MeetsSo pointers p.at n
    → IsContentBelow p number value r → IsFound k pointers r v w
by_content k pointers p place span n number value (places.Volatile at word loaded) v u w g same is within onto
    only leaves finds met c =
    absurd c
by_content k pointers p place span n number value (places.Snapshot loaded word pointer) v u w g same is within
    onto only leaves finds met c =
    subst (λ (q : Seen). IsFound k pointers (places.Snapshot loaded word q) v w) (sym c.0)
    (is_below k (record { number = number_in word; value = Some loaded }) pointers p place span n v u w g same is within
    onto only
    leaves (ap found_content (sym finds ∙ c.1)) met)
by_content k pointers p place span n number value (places.Zero pointer) v u w g same is within onto only leaves
    finds met c =
    subst (λ (q : Seen). IsFound k pointers (places.Zero q) v w) (sym c.0)
    (is_below k nothing pointers p place span n v u w g same is within onto only leaves
    (ap found_content (sym finds ∙ c.1)) met)

-- the record was found in the snapshot's pages, or in none
pub finds_below : (bound less few : ℕ) (k : Key) (pointers : List Seen) (slots : List ℕ) (place : At) (span : Span)
    (at n number value : ℕ) (r : Found) (v u w : View) → w.steps ≤ v.steps + bound → less ≤ few
    → IsArrayPointerAt v place span at
    → at < words_of v.layout → ReachesSo less pointers slots place span at (Ok (ends.Page n)) v u → HasGlanced u w
    → IsOnto v.layout span at k
    → array_found number value ≡ find array_format u.pages deepest k.key (place_for span n)
    → IsContentBelow (record { at = at; word = n }) number value r → FindsSo bound few k pointers slots (Ok r) v w
finds_below bound less few k pointers slots place span at n number value r v u w most more p word h g onto finds c =
    let walk = walked_glanced u w g in
    let all = walked_then v u w h.walked walk in
    let reads : (a : ℕ) → seen_at w.reads a ≡ seen_at u.reads a = λ a. ap (λ (z : View). seen_at z.reads a) g.is in
    record {
      can = can_after slots u w walk (ap (λ (z : View). z.grip) g.is)
          (subst WaysAgree (sym (ap (λ (z : View). z.ways) g.is)) h.can.agree)
          (trees_after u w walk (ap (λ (z : View). z.ways) g.is) h.can.trees) h.can;
      walked = all;
      most = most;
      grows = let first = h.grows in omega (arith, first, more);
      only = ways_same k v u w (ap (λ (z : View). z.ways) g.is) (ways_to k span v u onto.over h.only);
      led = led_by k v u w (ap (λ (z : View). z.grip) g.is) walk.ways (led_over k span v u onto.over h.led);
      keeps = keeps_then pointers v u w h.walked h.keeps (λ a word has q seen. reads a ∙ seen);
      found = by_content k pointers (record { at = at; word = n }) place span n number value r v u w g refl
          (place_stays v w place span at all p)
          (subst (λ (y : Layout). at < words_of y) (sym (layout_stays v w all)) word)
          (onto_stays v w span at k all onto)
          (only_then v u w walk h.others (λ a. inl (reads a))) h.reached.0 finds h.reached.1 c;
      cause = tt;
    }

-- what the pass may look at there
pub looks_below : (slots : List ℕ) (place : At) (span : Span) (at n : ℕ) (v u : View) → CanWalk slots u
    → LeavesMemory place span at n v u → CanLook u
looks_below slots place span at n v u can leaves =
    record { active = can.active; room = leaves.room; most = leaves.most }

-- and what stands there
pub stands_below : (k : Key) (root size : ℕ) (span : Span) (place : At) (at n : ℕ) (v u : View) (slots : List ℕ)
    → CanWalk slots u → IsArrayAt u.layout.decls k.storage root size → span.storage ≡ k.storage
    → LeavesMemory place span at n v u → 0 < n → (m : ℕ)
    × StandsTo array_format (IsArrayPage m) u.pages
    (suc (suc (suc 29))) (place_for span n)
stands_below k root size span place at n v u slots can array storage leaves some =
    let s = stands_in u.layout.decls u.pages k.storage root size span n can.declared array storage
    (leaves.stands some) in
    (size, stands_deep size s.depth u.pages (place_for span n) s.most s.stands)

-- ---- a record in the page that a pointer leads to

keeps_record : (k : Key) (pointers : List Seen) (slots : List ℕ) (at word value : ℕ) (v w : View) → HasWalked v w
    → CanWalk slots w → IsFoundIn k at word value v w → MeetsRecord (places.Volatile at word value) v w
    → KeepsMet pointers v w
keeps_record k pointers slots at word value v w walk can h met = λ a was has p seen.
    let q = word_stays v w a walk p in
    let apart = pointer_apart w q.place q.span a k h.spot at can.agree can.declared q.is h.place in
    met a apart.0 apart.1 ∙ seen

read_refuses : (k : Key) (pointers : List Seen) (slots : List ℕ) (why : RefusalCause) (v u w : View) → v.steps ≤ u.steps
    → HasWalked u w → CanWalk slots w → OnlyMet v u → RefusesRead k why u w → RefusesFind k pointers slots why v w
read_refuses k pointers slots (causes.Conflict at expected seen) v u w since later can only h =
    inr (record_back k slots at expected seen v u w since later can only h)
read_refuses k pointers slots (causes.Full held) v u w since later can only h = absurd h
read_refuses k pointers slots (causes.Wide set) v u w since later can only h = absurd h
read_refuses k pointers slots (causes.NumberLimit clock) v u w since later can only h = absurd h

pub finds_read : (bound few : ℕ) (k : Key) (pointers : List Seen) (slots : List ℕ) (r : Result Found RefusalCause)
    (v u w : View) → w.steps ≤ v.steps + bound → length slots ≤ few → HasWalked v u → CanWalk slots u → OnlyMet v u
    → KeepsMet pointers v u → u.seat.kept ≡ v.seat.kept → KeepsWords v u
    → OnlyWaysTo k v u → AreLedTo k v u → ReadsSo k r u w → FindsSo bound few k pointers slots r v w
finds_read bound few k pointers slots (Ok (places.Volatile at word value)) v u w most grows walk can only keeps
    kept words ways led h =
    let late = can_after slots u w h.walked h.grip (subst WaysAgree (sym h.ways) can.agree)
    (trees_after u w h.walked h.ways can.trees) can in record {
      can = late;
      walked = walked_then v u w walk h.walked;
      most = most;
      grows = grows;
      only = ways_same k v u w h.ways ways;
      led = led_by k v u w h.grip h.walked.ways led;
      keeps = keeps_then pointers v u w walk keeps
          (keeps_record k pointers slots at word value u w h.walked late h.read h.met);
      found = found_back k pointers (places.Volatile at word value) v u w walk h.walked only kept words h.read;
      cause = tt;
    }
finds_read bound few k pointers slots (Ok (places.Snapshot value number p)) v u w most grows walk can only
    keeps kept words ways led h =
    absurd h.read
finds_read bound few k pointers slots (Ok (places.Zero p)) v u w most grows walk can only keeps kept words ways led h =
    absurd h.read
finds_read bound few k pointers slots (Err why) v u w most grows walk can only keeps kept words ways led h =
    let late = can_after slots u w h.walked h.grip (subst WaysAgree (sym h.ways) can.agree)
    (trees_after u w h.walked h.ways can.trees) can in record {
      can = late;
      walked = walked_then v u w walk h.walked;
      most = most;
      grows = grows;
      only = ways_same k v u w h.ways ways;
      led = tt;
      keeps = tt;
      found = tt;
      cause = read_refuses k pointers slots why v u w walk.since h.walked late only h.cause;
    }

-- with its page held, nothing is met but the record
pub reads_find : (k : Key) (pointers : List Seen) (slots : List ℕ) (r : Result Found RefusalCause) (v w : View)
    → CanWalk slots v → ReadsSo k r v w → FindsSo 3 (length slots) k pointers slots r v w
reads_find k pointers slots r v w can h =
    finds_read 3 (length slots) k pointers slots r v v w h.most (omega arith) (walked_self v) can (only_self v)
    (keeps_self pointers v) refl (λ a. refl) (λ x has. inl has) (led_self k v) h

-- what was found by so many steps was found by more
pub finds_within : (b bound less few : ℕ) (k : Key) (pointers : List Seen) (slots : List ℕ)
    (r : Result Found RefusalCause)
    (v w : View) → b ≤ bound → less ≤ few → FindsSo b less k pointers slots r v w
    → FindsSo bound few k pointers slots r v w
finds_within b bound less few k pointers slots r v w more room h = record {
  can = h.can;
  walked = h.walked;
  most = let most = h.most in omega (arith, most, more);
  grows = let grows = h.grows in omega (arith, grows, room);
  only = h.only;
  led = h.led;
  keeps = h.keeps;
  found = h.found;
  cause = h.cause;
}

-- ---- what a pointer's end tells, with the end by its name

pub reached_end : (few : ℕ) (pointers : List Seen) (slots : List ℕ) (place : At) (a b : Span) (at : ℕ)
    (e f : Reached) (v w : View) → a ≡ b → e ≡ f
    → ReachesSo few pointers slots place a at (Ok e) v w → ReachesSo few pointers slots place b at (Ok f) v w
reached_end few pointers slots place a b at e f v w span end h =
    subst (λ (s : Span). ReachesSo few pointers slots place s at (Ok f) v w) span
    (subst (λ (x : Reached).
    ReachesSo few pointers slots place a at (Ok x) v w) end h)

-- the key's storage and size are as they were
pub fits_walked : (k : Key) (v w : View) → HasWalked v w → IsArrayKey v.layout.decls k → IsArrayKey w.layout.decls k
fits_walked k v w walk fits = subst (λ (y : Layout). IsArrayKey y.decls k) (sym (layout_stays v w walk)) fits

-- the pages below the pointer stand
pub stands_here : (k : Key) (place : At) (span : Span) (at n height d : ℕ) (low : ℕ) (v u : View) (slots : List ℕ)
    → CanWalk slots u → IsArrayKey u.layout.decls k → span ≡ keys_above k height low
    → deep height d ≡ suc (suc (suc 29)) → LeavesMemory place span at n v u → StandsAbove u.pages height n low
stands_here k place span at n height d low v u slots can fits is depth leaves = λ some.
    let there = array_there u.layout.decls k.storage fits.array in
    let s = stands_below k there.0 there.1 span place at n v u slots can there.2
    (ap (λ (z : Span). z.storage) is) leaves some in (
      d,
      s.0,
      subst (λ i. StandsTo array_format (IsArrayPage s.0) u.pages i (place_for (keys_above k height low) n)) (sym depth)
          (subst (λ (z : Span). StandsTo array_format (IsArrayPage s.0) u.pages (suc (suc (suc 29))) (place_for z n)) is
          s.1),
    )
