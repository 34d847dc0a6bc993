-- A step on a word of one leaf of a tree: what stays of the words, of what others rely on, and of what the pass knows.
use Rattle.std.proofs.Common.{◌≡◌, ◌≢◌, ◌⊎◌, inl, inr, ℕ, suc, ◌+◌, ◌*◌, ◌^◌, ◌<◌, ◌≤◌, true, false, true≢false, List}
use Rattle.std.proofs.Common.{length, get_or, refl, sym, ap, ◌∙◌, subst, arith, Option, Some, None}
use Rattle.std.specs.List.{Contains}
use Rattle.std.specs.Prelude.{◌==◌, filter, not}
use Rattle.std.proofs.lemmas.Bool.{and_from, and_parts}
use Rattle.lists.specs.Elements.{in_filter, in_push_cases}
use Rattle.lists.specs.Fronts.{IsFront, front_refl, front_then}
use Rattle.serial_model.specs.declared.decl.Decl.{Decl}
use Rattle.serial_model.specs.declared.decl.Decl.TheVariants.{Array, Tree}
use Rattle.serial_model.specs.declared.key.Key.{Key}
use Rattle.serial_model.specs.declared.number.Number.{Number}
use Rattle.homes.specs.declared.places.At.{At}
use Rattle.homes.specs.declared.places.At.TheVariants.{Root, In}
use Rattle.homes.specs.declared.places.Holder.TheVariants.{Held}
use Rattle.homes.specs.declared.places.Span.{Span}
use Rattle.homes.specs.declared.places.Spot.{Spot}
use Rattle.homes.specs.Homes.{has_key}
use Rattle.wire_form.specs.Words.{at_bit, number_word}
use Rattle.snapshot_store.specs.declared.place.PagePlace.{PagePlace}
use Rattle.commit_core.specs.declared.attempt.Attempt.{Attempt}
use Rattle.commit_core.specs.declared.story.Story.{Story}
use Rattle.commit_core.specs.CoreState.{clock_of}
use Rattle.commit_core.specs.Lemmas.Values.{Overwrites}
use Rattle.commit_core.specs.Places.{home_of, place_of}
use Rattle.drop_core.specs.declared.grip.Grip.{Grip}
use Rattle.drop_core.specs.declared.table.Page.{Page}
use Rattle.drop_core.specs.declared.table.Page.TheVariants.{Leaf, Inner, Split}
use Rattle.drop_core.specs.declared.table.Pointer.{Pointer}
use Rattle.drop_core.specs.declared.table.Slot.{Slot}
use Rattle.drop_core.specs.declared.table.Table.{Table}
use Rattle.drop_core.specs.Event.{is_owned, is_published}
use Rattle.drop_core.specs.Law.{IsMade, LeavesMade}
use Rattle.drop_core.specs.Sound.{span_at}
use Rattle.drop_core.specs.Table.{slot_of, page_of, pointer_of, header_of, has_slot, has_pointer, at_index, is_led, is_live, is_never}
use Rattle.engine_pages.specs.declared.layout.Layout.{Layout}
use Rattle.engine_pages.specs.declared.view.Copied.{Copied}
use Rattle.engine_pages.specs.declared.view.Draft.{Draft}
use Rattle.engine_pages.specs.declared.view.Filled.{Filled}
use Rattle.engine_pages.specs.declared.view.Head.{Head}
use Rattle.engine_pages.specs.declared.view.Inner.{Inner as KnownInner}
use Rattle.engine_pages.specs.declared.view.Known.{Known}
use Rattle.engine_pages.specs.declared.view.Lead.{Lead}
use Rattle.engine_pages.specs.declared.view.Moved.{Moved}
use Rattle.engine_pages.specs.declared.view.NewInner.{NewInner}
use Rattle.engine_pages.specs.declared.view.NewLeaf.{NewLeaf}
use Rattle.engine_pages.specs.declared.view.Read.{Read}
use Rattle.engine_pages.specs.declared.view.Role.TheVariants.{Worker}
use Rattle.engine_pages.specs.declared.view.Shut.{Shut}
use Rattle.engine_pages.specs.declared.view.Touch.{Touch}
use Rattle.engine_pages.specs.declared.view.View.{View}
use Rattle.engine_pages.specs.declared.view.Way.{Way}
use Rattle.engine_pages.specs.Layout.{root_at, slot_at, page_at, snap_at}
use Rattle.engine_pages.specs.Pages.{AreLaidOut, Fenced, IsLaidOut, IsLaidOutFor, decl_of, is_array_kind}
use Rattle.engine_pages.specs.Records.{IsRecordIn}
use Rattle.engine_pages.specs.Rule.{Shared, RecordStands, all_seats, IsCopy, IsDraft, IsHead, IsInner, IsKnownLeaf}
use Rattle.engine_pages.specs.Rule.{IsMoved, IsNewInner, IsNewLeaf, IsSealed, IsShut, IsWay, IsWithin, is_spare}
use Rattle.engine_pages.specs.Stays.{IsKnown}
use Rattle.engine_pages.specs.Steps.{noted, seen_at}
use Rattle.engine_pages.specs.Touches.{AreBlamed, IsFacing, Touched}
use Rattle.engine_pages.specs.Views.{IsActive, seat_number}
use Rattle.engine_pages.specs.Words.{IsOverwritten, ShowsPage, ShowsPointer, ShowsWords, is_shown, spot}
use Rattle.engine_pages.specs.Words.{state_number}
use Rattle.engine_pages.proofs.Dealing.{SameLocks, blamed, faces, faces_as, stands_at}
use Rattle.engine_pages.proofs.EachSeat.{at_seat}
use Rattle.engine_pages.proofs.Facing.{Deals, takes_same}
use Rattle.engine_pages.proofs.Filling.{owned_never}
use Rattle.engine_pages.proofs.Joint.{Laws, shared_now}
use Rattle.engine_pages.proofs.Named.{more_same}
use Rattle.engine_pages.proofs.PagesStay.{WordsStay, copy_stays}
use Rattle.engine_pages.proofs.Records.{over_at}
use Rattle.engine_pages.proofs.Seats.{by_equal, is_at}
use Rattle.engine_pages.proofs.SlotFacts.{draft_same, shut_same}
use Rattle.engine_pages.proofs.SlotSteps.{PagesNow}
use Rattle.engine_pages.proofs.TreeFacts.{inner_at, new_inner_at, new_leaf_at, same_fence, sealed_at}
use Rattle.engine_pages.proofs.Turns.{Begins}
use Rattle.engine_pages.proofs.Words.{page_shown, tree_shown}
use Rattle.tree_heads.specs.Headers.{IsTreeAt}
use Rattle.tree_heads.proofs.TreeAt.{SaysOf, some_fence}

-- the story has the same attempts
pub record SameStory (m n : Story) : Type 0 where
  pub history : n.history ≡ m.history
  pub decided : n.decided ≡ m.decided
  pub given_up : n.given_up ≡ m.given_up
  pub first_draw : n.first_draw ≡ m.first_draw
  pub epoch : n.epoch ≡ m.epoch

-- so what was overwritten still is
pub over_stays : (m n : Story) → SameStory m n → (k : Key) (x : Number) → IsOverwritten m k x → IsOverwritten n k x
over_stays m n same k x over = (
  over.0,
  subst (λ (h : List Attempt). Overwrites h n.decided k x over.0) (sym same.history)
      (subst (λ (c : List Number). Overwrites m.history c k x over.0) (sym same.decided) over.1),
)

-- ---- all other pages stay

-- A step on the word with this index in the page of a slot: the words of slots and all other pages stay, and what the
-- page is then is shown.
pub record PageStep
    (l : Layout) (words words' : List ℕ) (s : Shared) (n : Story) (e : Table) (k : ℕ → Option Fenced) (t i : ℕ)
    : Type 0 where
  pub few : t < l.slots
  pub index : i < 64
  pub long : length words' ≡ length words
  pub others : (j : ℕ) → j ≢ page_at l.slots t i → get_or words' j 0 ≡ get_or words j 0
  pub story : SameStory s.story n
  pub roots : (r : ℕ) → pointer_of e (Root r) ≡ pointer_of s.table (Root r)
  pub passes : (u : ℕ) → (slot_of e u).passes ≡ (slot_of s.table u).passes
  pub state : (u : ℕ) → (slot_of e u).state ≡ (slot_of s.table u).state
  pub times : (u : ℕ) → (slot_of e u).times ≡ (slot_of s.table u).times
  pub pages : (u : ℕ) → u ≢ t → page_of e u ≡ page_of s.table u
  pub headers : (u : ℕ) → u ≢ t → header_of e u ≡ header_of s.table u
  pub pointers : (u j : ℕ) → u ≢ t → pointer_of e (at_index u j) ≡ pointer_of s.table (at_index u j)
  pub places : (u j : ℕ) → u ≢ t → place_of n.places (spot u j) ≡ place_of s.story.places (spot u j)
  pub treed : (u : ℕ) → u ≢ t → k u ≡ s.trees u
  pub fence : Fenced
  pub there : k t ≡ Some fence
  pub here : is_shown (slot_of s.table t).state ≡ true
      → SaysOf l words' s.resident.places n e t fence (page_of e t)

module _ (l : Layout) (words words' : List ℕ) (s : Shared) (n : Story) (e : Table) (k : ℕ → Option Fenced) (t i : ℕ)
    (r : PageStep l words words' s n e k t i) where
  abbrev d : Table
  d = s.table

  abbrev m : Story
  m = s.story

  abbrev names : List (Decl × PagePlace)
  names = s.resident.places

  page_words : (u j : ℕ) → j < 64 → u ≢ t → get_or words' (page_at l.slots u j) 0 ≡ get_or words (page_at l.slots u j) 0
  page_words u j less other = let at = r.index in r.others (page_at l.slots u j) (λ q. other (omega arith))

  slot_word : (x y : Slot) → y.passes ≡ x.passes → y.state ≡ x.state → y.times ≡ x.times
      → (at_bit 0 y.passes + at_bit 16 (state_number y.state)) + at_bit 18 y.times
      ≡ (at_bit 0 x.passes + at_bit 16 (state_number x.state)) + at_bit 18 x.times
  slot_word x y passes state times =
      ap (λ z. (at_bit 0 z + at_bit 16 (state_number y.state)) + at_bit 18 y.times) passes
      ∙ (ap (λ z. (at_bit 0 x.passes + at_bit 16 (state_number z)) + at_bit 18 y.times) state
      ∙ ap (λ z. (at_bit 0 x.passes + at_bit 16 (state_number x.state)) + at_bit 18 z) times)

  clock_same : clock_of n.first_draw n.epoch n.history ≡ clock_of m.first_draw m.epoch m.history
  clock_same =
      ap (λ z. clock_of z n.epoch n.history) r.story.first_draw
      ∙ (ap (λ z. clock_of m.first_draw z n.history) r.story.epoch
      ∙ ap (λ (z : List Attempt). clock_of m.first_draw m.epoch z) r.story.history)

  pub page_step_words : length l.decls ≤ 16 → ShowsWords l words m d s.trees s.resident → ShowsWords l words' n e k s.resident
  page_step_words decls h = record {
    long = r.long ∙ h.long;
    clock = r.others 0 (λ q. omega arith) ∙ (h.clock ∙ ap number_word (sym clock_same));
    decisions = r.others 1 (λ q. omega arith) ∙ (h.decisions ∙ ap (λ (z : List Number). length z) (sym r.story.decided));
    published = r.others 26 (λ q. omega arith) ∙ h.published;
    unused = λ at from to other. r.others at (λ q. omega arith) ∙ h.unused at from to other;
    roots = λ y few.
        let was = h.roots y few in
        subst (ShowsPointer names words' (root_at y)) (sym (r.roots y)) record {
          number = was.number;
          word = r.others (root_at y) (λ q. omega arith) ∙ was.word;
          page = was.page;
          slot = was.slot;
          named = was.named;
          keepers = was.keepers;
        };
    slots = λ u few.
        let was = h.slots u few in record {
          word = r.others (slot_at u) (λ q. omega arith)
              ∙ (was.word ∙ sym (slot_word (slot_of d u) (slot_of e u) (r.passes u) (r.state u) (r.times u)));
          times = subst (λ y. y < 2 ^ 46) (sym (r.times u)) was.times;
        };
    pages = λ u few shown none. by_equal u t
        (λ y. y ≡ u → ShowsPage names words' l.slots y (place_of n.places) e (page_of e y))
        (λ is. let both : Some r.fence ≡ None = sym r.there ∙ (ap k is ∙ none) in absurd (cc))
        (λ other _.
        subst (ShowsPage names words' l.slots u (place_of n.places) e) (sym (r.pages u other))
        (page_shown names words words' l.slots u (place_of m.places) (place_of n.places) d e (page_of d u)
        (λ j less. page_words u j less other) (λ j. r.places u j other) (λ j. r.pointers u j other)
        (h.pages u few (ap is_shown (sym (r.state u)) ∙ shown) (sym (r.treed u other) ∙ none)))) refl;
    treed = λ u f few shown tree. by_equal u t
        (λ y. y ≡ u → SaysOf l words' names n e y f (page_of e y))
        (λ is.
        let same : Some r.fence ≡ Some f = sym r.there ∙ (ap k is ∙ tree) in
        subst (λ y. SaysOf l words' names n e t y (page_of e t))
        (some_fence r.fence f same)
        (r.here (ap (λ y. is_shown (slot_of d y).state) is ∙ (ap is_shown (sym (r.state u)) ∙ shown))))
        (λ other _.
        subst (SaysOf l words' names n e u f) (sym (r.pages u other))
        (tree_shown names words words' l.slots u f (IsOverwritten m) (IsOverwritten n) (place_of m.places) (place_of n.places) d e
        (page_of d u) (λ j less. page_words u j less other) (λ j. r.places u j other) (over_stays m n r.story) (λ j. r.pointers u j other) (r.headers u other)
        (h.treed u f few (ap is_shown (sym (r.state u)) ∙ shown) (sym (r.treed u other) ∙ tree)))) refl;
    resident = λ y j some most less.
        r.others (snap_at l.slots y j) (λ q. let few = r.few in let at = r.index in omega arith)
        ∙ h.resident y j some most less;
  }

-- ---- a leaf

-- The page is a leaf of a tree, which may get more keys; slots, pointers and snapshot pages stay.
pub record LeafStep
    (l : Layout) (words words' : List ℕ) (s : Shared) (n : Story) (e : Table) (k : ℕ → Option Fenced) (t i : ℕ)
    : Type 0 where
  pub page : PageStep l words words' s n e k t i
  pub known : IsKnown s.table t
  pub keys : List Key
  pub leaf : page_of s.table t ≡ Leaf keys
  pub old : Fenced
  pub was : s.trees t ≡ Some old
  pub span : page.fence.span ≡ old.span
  pub front : IsFront old.keys page.fence.keys
  pub grown : List Key
  pub still : page_of e t ≡ Leaf grown
  pub slots : (u : ℕ) → slot_of e u ≡ slot_of s.table u
  pub pointers : (y : At) → pointer_of e y ≡ pointer_of s.table y
  pub snaps : e.snaps ≡ s.table.snaps
  pub published : e.published ≡ s.table.published
  pub room : e.room ≡ s.table.room

-- the view has the same of slots, of arrays and of other trees' pages
pub record SamePart (v w : View) : Type 0 where
  pub grip : w.grip ≡ v.grip
  pub ways : w.ways ≡ v.ways
  pub drafts : w.drafts ≡ v.drafts
  pub copies : w.copies ≡ v.copies
  pub blanks : w.blanks ≡ v.blanks
  pub pages : w.pages ≡ v.pages
  pub leads : w.leads ≡ v.leads
  pub fills : w.fills ≡ v.fills
  pub moved : w.moved ≡ v.moved
  pub sealed : w.sealed ≡ v.sealed
  pub inners : w.inners ≡ v.inners
  pub new_leaves : w.new_leaves ≡ v.new_leaves
  pub new_inners : w.new_inners ≡ v.new_inners
  pub shuts : w.shuts ≡ v.shuts

no_split : (page : Page) (keys : List Key) → page ≡ Leaf keys → page ≡ Split → ⊥
no_split page keys leaf split = absurd (cc)

no_inner : (page : Page) (keys : List Key) (c : ℕ) → page ≡ Leaf keys → page ≡ Inner c → ⊥
no_inner page keys c leaf inner = absurd (cc)

no_pointer : (page : Page) (keys : List Key) (j : ℕ) → page ≡ Leaf keys → has_pointer page j ≡ true → ⊥
no_pointer page keys j leaf has = true≢false (sym has ∙ ap (λ (z : Page). has_pointer z j) leaf)

module _ (l : Layout) (words words' : List ℕ) (s : Shared) (n : Story) (e : Table) (k : ℕ → Option Fenced) (t i : ℕ)
    (c : LeafStep l words words' s n e k t i) where
  abbrev r : PageStep l words words' s n e k t i
  r = c.page

  abbrev o : Table
  o = s.table

  leaf_word : (u j : ℕ) → j < 64 → u ≢ t → get_or words' (page_at l.slots u j) 0 ≡ get_or words (page_at l.slots u j) 0
  leaf_word u j less other = let at = r.index in r.others (page_at l.slots u j) (λ q. other (omega arith))

  -- each tree's page stays one over the same keys
  pub fences : (u : ℕ) (f : Fenced) → s.trees u ≡ Some f
      → (g : Fenced) × (k u ≡ Some g) × (g.span ≡ f.span) × IsFront f.keys g.keys
  fences u f is = by_equal u t (λ q. q ≡ u → (g : Fenced) × (k q ≡ Some g) × (g.span ≡ f.span) × IsFront f.keys g.keys)
      (λ same.
      let old : c.old ≡ f = some_fence c.old f (sym c.was ∙ (ap s.trees same ∙ is)) in
      (r.fence, r.there, c.span ∙ ap (λ (q : Fenced). q.span) old, subst (λ (q : Fenced). IsFront q.keys r.fence.keys) old c.front))
      (λ other _. (f, r.treed u other ∙ is, refl, front_refl f.keys)) refl

  -- an array's page is another one
  array_apart : (u : ℕ) → s.trees u ≡ None → u ≢ t
  array_apart u none same =
      let no : None ≡ Some c.old = sym none ∙ (ap s.trees same ∙ c.was) in absurd (cc)

  pub laid_step : (q : Option Decl) (u : ℕ) (sp : Span) → IsLaidOut q s.trees o u sp → IsLaidOut q k e u sp
  laid_step None u sp laid = laid
  laid_step (Some (Array id size)) u sp laid =
      let other = array_apart u laid.0 in (
        r.treed u other ∙ laid.0,
        over_at o e u sp (r.pages u other) (r.headers u other) (λ j. c.pointers (at_index u j)) laid.1,
      )
  laid_step (Some (Tree id)) u sp laid =
      let g = fences u laid.0 laid.1 in (g.0, g.1, g.2 ∙ laid.2)

  pub leaf_laid : AreLaidOut l.decls s.trees o → AreLaidOut l.decls k e
  leaf_laid h x u live leads =
      let span : span_at e x ≡ span_at o x = ap (λ (q : Pointer). q.span) (c.pointers x) in
      subst (λ (sp : Span). IsLaidOutFor l.decls k e u sp) (sym span)
      (laid_step (decl_of l.decls (span_at o x).storage) u (span_at o x)
      (h x u (was_live x live) (ap (λ (q : Pointer). q.slot) (sym (c.pointers x)) ∙ leads)))
    where
      was_live : (x : At) → is_live e x ≡ true → is_live o x ≡ true
      was_live (Root y) live = refl
      was_live (In y) live =
          let both = and_parts (is_led (slot_of e y.slot).led) (has_pointer (page_of e y.slot) y.index) live in
          let other : y.slot ≢ t = λ same.
          no_pointer (page_of e y.slot) c.grown y.index (ap (page_of e) same ∙ c.still) both.1 in
          and_from (is_led (slot_of o y.slot).led) (has_pointer (page_of o y.slot) y.index)
          (ap (λ (z : Slot). is_led z.led) (sym (c.slots y.slot)) ∙ both.0)
          (ap (λ (z : Page). has_pointer z y.index) (sym (r.pages y.slot other)) ∙ both.1)

  -- the words that others rely on: of leaves whose header they have locked those that no record has
  pub leaf_frame : (p : ℕ)
      → ((u : ℕ) → is_owned (slot_of o u).state ≡ true → u ≢ t)
      → ((q : ℕ) → header_of o t ≡ Held q → q ≢ p → is_spare (length c.keys) i ≡ true → ⊥)
      → WordsStay l words words' s p
  leaf_frame p owned spare = record {
    drafts = λ u few unmade own j less. leaf_word u j less (owned u own);
    spare = λ u q keys few known held other leaf j less is. by_equal u t
        (λ y. y ≡ u → get_or words' (page_at l.slots y j) 0 ≡ get_or words (page_at l.slots y j) 0)
        (λ same. r.others (page_at l.slots t j) (λ at.
        let here : Leaf keys ≡ Leaf c.keys = sym leaf ∙ (ap (page_of o) (sym same) ∙ c.leaf) in
        let index : j ≡ i = omega arith in
        spare q (ap (header_of o) same ∙ held) other
        (subst (λ (z : List Key). is_spare (length z) i ≡ true) (leaf_same keys c.keys here)
        (subst (λ y. is_spare (length keys) y ≡ true) index is))))
        (λ apart _. leaf_word u j less apart) refl;
    twins = λ u few known split j from to.
        leaf_word u j (omega arith) (λ same. no_split (page_of o u) c.keys (ap (page_of o) same ∙ c.leaf) split);
    fills = λ other y j some less. r.others (snap_at l.slots y j) (λ q. let few = r.few in let at = r.index in omega arith);
  }
    where
      leaf_same : (a z : List Key) → Leaf a ≡ Leaf z → a ≡ z
      leaf_same a z same = cc

-- ---- what the pass knows

-- the word that was met is one of a page into which the pass has a way
pub record IsMetHere (l : Layout) (v : View) (t : ℕ) (x : Read) : Type 0 where
  pub index : ℕ
  pub few : index < 64
  pub word : x.word ≡ page_at l.slots t index
  pub way : Way
  pub has : Contains v.ways way
  pub slot : way.slot ≡ t

-- where one more is noted, of a tree's page that the pass holds
pub met_word : (l : Layout) (v : View) (t : ℕ) (sp : Span) (reads : List Read) (at n : ℕ) (kept : Option ℕ) → IsTreeAt v t sp
    → ((x : Read) → Contains reads x → Contains v.reads x ⊎ IsMetHere l v t x) → (j : ℕ) → j < 64 → at ≡ page_at l.slots t j
    → (x : Read) → Contains (noted reads at n kept) x → Contains v.reads x ⊎ IsMetHere l v t x
met_word l v t sp reads at n kept is base j less word x has =
    elim (in_push_cases x (record { word = at; seen = n; was = seen_at reads at; kept = kept })
    (filter (λ r. not (r.word == at)) reads) has) [
      | inl old ↦ base x (in_filter (λ (r : Read). not (r.word == at)) x reads old)
      | inr new ↦ inr (record {
        index = j;
        few = less;
        word = ap (λ (r : Read). r.word) (sym new) ∙ word;
        way = record { slot = t; span = sp };
        has = is.way;
        slot = refl;
      })
    ]

module _ (laws : Laws) (l : Layout) (words words' : List ℕ) (views : List View) (s : Shared) (id : ℕ) (v : View)
    (active : IsActive v.role) (b : Begins l words views s id v) (n : Story) (e : Table) (k : ℕ → Option Fenced) (t i : ℕ)
    (c : LeafStep l words words' s n e k t i) (w : View) where
  abbrev p : ℕ
  p = seat_number v.role

  abbrev g : PageStep l words words' s n e k t i
  g = c.page

  -- nothing has led to what a pass made
  pub made_apart : (u : ℕ) → has_slot v.grip.made u ≡ true → u ≢ t
  made_apart u made same =
      let is : IsMade s.table (all_seats s.grips) p u =
      laws.made (home_of s.story.homes) s.table (all_seats s.grips) p u (s.grips p) b.sound.joint.pages (at_seat s.grips p b.few)
      (subst (λ (z : Grip). has_slot z.made u ≡ true) b.grip made) in
      true≢false (sym (ap is_never is.never) ∙ (ap (λ y. is_never (slot_of s.table y).led) same ∙ c.known))

  pub owned_apart : (u : ℕ) → is_owned (slot_of s.table u).state ≡ true → u ≢ t
  owned_apart u owned same =
      true≢false (sym (owned_never s.table u (slot_of s.table u).state (slot_of s.table u).led owned
      (b.sound.joint.pages.table.holds_counted.led u)) ∙ (ap (λ y. is_never (slot_of s.table y).led) same ∙ c.known))

  -- a page that the pass made stays as it is
  made_stays : (u : ℕ) → u ≢ t → LeavesMade p s.table e u
  made_stays u other = record {
    state = g.state u;
    times = g.times u;
    led = ap (λ (z : Slot). z.led) (c.slots u);
    page = g.pages u other;
    header = g.headers u other;
    pointers = λ j free. c.pointers (at_index u j);
  }

  within_step : (x : At) → IsWithin s.table v.grip.holds x → IsWithin e v.grip.holds x
  within_step (Root y) was = tt
  within_step (In y) was =
      let other : y.slot ≢ t = λ same.
      no_pointer (page_of s.table y.slot) c.keys y.index (ap (page_of s.table) same ∙ c.leaf) was.2 in (
        was.0,
        ap (λ (z : Slot). is_never z.led) (c.slots y.slot) ∙ was.1,
        ap (λ (z : Page). has_pointer z y.index) (g.pages y.slot other) ∙ was.2,
      )

  known_now : (u : ℕ) → IsKnown s.table u → IsKnown e u
  known_now u known = ap (λ (z : Slot). is_never z.led) (c.slots u) ∙ known

  -- what was known of a leaf's keys
  pub known_step : (x : Known) → IsKnownLeaf l s.table s.trees v.grip.holds x → IsKnownLeaf l e k v.grip.holds x
  known_step x was =
      let f = fences l words words' s n e k t i c x.slot was.fence was.there in record {
        within = was.within;
        held = was.held;
        known = known_now x.slot was.known;
        fence = f.0;
        there = f.1;
        front = front_then x.keys was.fence.keys f.0.keys was.front f.3;
      }

  -- a header that the pass has locked in another leaf
  pub head_step : (x : Head) → x.slot ≢ t → IsHead l words s.table s.trees p x → IsHead l words' e k p x
  head_step x other was = record {
    within = was.within;
    locked = g.headers x.slot other ∙ was.locked;
    leaf = g.pages x.slot other ∙ was.leaf;
    fence = was.fence;
    there = g.treed x.slot other ∙ was.there;
    keys = was.keys;
    long = was.long;
    is = λ j less is. leaf_word l words words' s n e k t i c x.slot j less other ∙ was.is j less is;
  }

  pub leaf_now : SamePart v w → w.role ≡ v.role
      → ((x : Known) → Contains w.known x → IsKnownLeaf l e k v.grip.holds x)
      → ((x : Head) → Contains w.heads x → IsHead l words' e k p x)
      → PagesNow l words' (shared_now s p n e k s.resident w) w
  leaf_now same role knows heads =
      let holds : v.grip.holds ≡ w.grip.holds = ap (λ (z : Grip). z.holds) (sym same.grip) in
      let made : v.grip.made ≡ w.grip.made = ap (λ (z : Grip). z.made) (sym same.grip) in
      let seat : p ≡ seat_number w.role = ap seat_number (sym role) in record {
        within = λ u has. b.pages.within u (ap (λ (z : Grip). has_slot z.holds u) (sym same.grip) ∙ has);
        ways = λ x has.
            let was = b.pages.ways x (subst (λ (z : List Way). Contains z x) same.ways has) in
            subst (λ (z : List ℕ). IsWay l e k z x) holds record {
              within = was.within;
              held = was.held;
              known = known_now x.slot was.known;
              over = laid_step l words words' s n e k t i c (decl_of l.decls x.span.storage) x.slot x.span was.over;
            };
        drafts = λ x has.
            let was = b.pages.drafts x (subst (λ (z : List Draft). Contains z x) same.drafts has) in
            let other = made_apart x.slot was.made in
            subst (λ (z : List ℕ). IsDraft words' l.slots e z x) made
            (draft_same words words' l.slots s.table e v.grip.made v.grip.made x was.made (g.state x.slot) (g.headers x.slot other)
            (λ j less. leaf_word l words words' s n e k t i c x.slot j less other) was);
        copies = λ x has.
            let was = b.pages.copies x (subst (λ (z : List Copied). Contains z x) same.copies has) in
            let other = made_apart x.slot was.1.made in (
              g.treed x.slot other ∙ was.0,
              subst (λ (z : List ℕ). IsCopy l n e s.resident z x) made
                  (copy_stays l s.story n s.table e s.resident s.resident p v.grip.made x (made_stays x.slot other)
                  (λ j. g.places x.slot j other) (more_same s.resident) was.1),
            );
        blanks = λ u has.
            let was = b.pages.blanks u (ap (λ (z : List ℕ). has_slot z u) (sym same.blanks) ∙ has) in record {
              slot = was.slot;
              made = ap (λ (z : List ℕ). has_slot z u) (sym made) ∙ was.made;
              state = ap is_published (g.state u) ∙ was.state;
            };
        resident = subst (λ (z : List (List ℕ)). IsFront z s.resident.pages) (sym same.pages) b.pages.resident;
        leads = λ x has. b.pages.leads x (subst (λ (z : List Lead). Contains z x) same.leads has);
        fills = λ x has.
            let was = b.pages.fills x (subst (λ (z : List Filled). Contains z x) same.fills has) in (
              role ∙ was.0,
              record {
                above = was.1.above;
                within = was.1.within;
                is = λ j less.
                    g.others (snap_at l.slots x.page j)
                    (λ q. let few = g.few in let at = g.index in let low = was.1.above in omega arith)
                    ∙ was.1.is j less;
              },
            );
        known = λ x has. subst (λ (z : List ℕ). IsKnownLeaf l e k z x) holds (knows x has);
        heads = λ x has. subst (λ y. IsHead l words' e k y x) seat (heads x has);
        moved = λ x has.
            let was = b.pages.treed.moved x (subst (λ (z : List Moved). Contains z x) same.moved has) in
            let other : x.slot ≢ t = λ at. no_split (page_of s.table x.slot) c.keys (ap (page_of s.table) at ∙ c.leaf) was.split in
            subst (λ (z : List ℕ). IsMoved l words' e k z x) holds record {
              within = was.within;
              held = was.held;
              known = known_now x.slot was.known;
              split = g.pages x.slot other ∙ was.split;
              fence = was.fence;
              there = g.treed x.slot other ∙ was.there;
              minor = leaf_word l words words' s n e k t i c x.slot 3 (omega arith) other ∙ was.minor;
              major = leaf_word l words words' s n e k t i c x.slot 4 (omega arith) other ∙ was.major;
              separator = leaf_word l words words' s n e k t i c x.slot 5 (omega arith) other ∙ was.separator;
            };
        sealed = λ u has.
            let was = b.pages.treed.sealed p (is_at v.role active) u (ap (λ (z : List ℕ). has_slot z u) (sym same.sealed) ∙ has) in
            let other : u ≢ t = λ at. no_split (page_of s.table u) c.keys (ap (page_of s.table) at ∙ c.leaf) was.split in
            subst (λ y. IsSealed l e y u) seat (sealed_at l s.table e p u (g.headers u other) (g.pages u other) was);
        inners = λ x has.
            let was = b.pages.treed.inners x (subst (λ (z : List KnownInner). Contains z x) same.inners has) in
            let other : x.slot ≢ t = λ at.
            no_inner (page_of s.table x.slot) c.keys (suc (length x.separators)) (ap (page_of s.table) at ∙ c.leaf) was.page in
            subst (λ (z : List ℕ). IsInner l e k z x) holds
            (inner_at l s.trees k s.table e v.grip.holds v.grip.holds x was.held (known_now x.slot was.known) (g.pages x.slot other)
            (same_fence s.trees k x.slot (g.treed x.slot other))
            (λ j there. ap (λ (q : Pointer). q.span) (c.pointers (at_index x.slot j))) was);
        new_leaves = λ x has.
            let was = b.pages.treed.new_leaves x (subst (λ (z : List NewLeaf). Contains z x) same.new_leaves has) in
            let other = made_apart x.slot was.made in
            subst (λ (z : List ℕ). IsNewLeaf l n e k z x) made
            (new_leaf_at l s.story n s.table e s.trees k v.grip.made v.grip.made x was.made (g.state x.slot) (g.headers x.slot other)
            (g.pages x.slot other) (g.treed x.slot other) (λ j. g.places x.slot j other) was);
        new_inners = λ x has.
            let was = b.pages.treed.new_inners x (subst (λ (z : List NewInner). Contains z x) same.new_inners has) in
            let other = made_apart x.slot was.made in
            subst (λ (z : List ℕ). IsNewInner l e k s.resident z x) made
            (new_inner_at l s.table e s.trees k s.resident s.resident v.grip.made v.grip.made x was.made (g.state x.slot)
            (g.pages x.slot other) (g.treed x.slot other) (λ j free. c.pointers (at_index x.slot j)) (more_same s.resident) was);
        shuts = λ x has.
            let was = b.pages.shuts p (is_at v.role active) x (subst (λ (z : List Shut). Contains z x) same.shuts has) in
            subst (λ y. IsShut e s.resident y w.grip.holds x) seat
            (subst (λ (z : List ℕ). IsShut e s.resident p z x) holds
            (shut_same s.table e s.resident p v.grip.holds v.grip.holds x (within_step x.at) (c.pointers x.at) was));
      }

  -- ---- who is in the way

  -- an array's record stands in another page
  stands_apart : (q : Key) (x : Spot) (at : ℕ) → RecordStands l s q x at → x.slot ≢ t
  stands_apart q x at st same =
      let none : s.trees x.slot ≡ None = array_none (decl_of l.decls st.span.storage) st.kind st.over in
      array_apart l words words' s n e k t i c x.slot none same
    where
      array_none : (z : Option Decl) → is_array_kind z ≡ true → IsLaidOut z s.trees s.table x.slot st.span
          → s.trees x.slot ≡ None
      array_none None kind over = absurd over
      array_none (Some (Array a size)) kind over = over.0
      array_none (Some (Tree a)) kind over = absurd (true≢false (sym kind))

  record_word : (q : Key) (x : Spot) (at : ℕ) → RecordStands l s q x at → get_or words' at 0 ≡ get_or words at 0
  record_word q x at st =
      let word : at ≡ page_at l.slots x.slot (2 * x.index) = st.word in
      let index : x.index < 32 = st.index in
      ap (λ j. get_or words' j 0) word
      ∙ (leaf_word l words words' s n e k t i c x.slot (2 * x.index) (omega arith) (stands_apart q x at st)
      ∙ ap (λ j. get_or words j 0) (sym word))

  -- the view has the same locks, and met words of the leaf's page alone
  pub leaf_deals : SameLocks v w → ((x : Read) → Contains w.reads x → Contains v.reads x ⊎ IsMetHere l v t x)
      → Deals l words words' s p views v w
  leaf_deals same met = record {
    touched = λ q y. omega (arith, takes_same q y v w same.touched);
    locks = λ y has. inl (ap (λ (z : List Key). has_key z y) (sym same.locks) ∙ has);
    changes = λ q x at st. inl (record_word q x at st);
    facing = λ worker is. faces_as l words' views v w worker same (now_faces worker (sym same.role ∙ is));
    blamed = subst (λ (z : List Touch). AreBlamed (Touched views) z) (sym same.blamed) (blamed l words views s id v b);
  }
    where
      stood : (q : Key) (x : Spot) (at : ℕ) → IsRecordIn l.decls l.slots v.ways q x at → RecordStands l s q x at
      stood q x at is = stands_at l words views s id v b q x at is

      apart : (q : Key) (x : Spot) (y : Read) → IsMetHere l v t y → IsRecordIn l.decls l.slots v.ways q x y.word → ⊥
      apart q x y here is =
          let there = stands_apart q x y.word (stood q x y.word is) in
          let word : y.word ≡ page_at l.slots x.slot (2 * x.index) = is.word in
          let index : x.index < 32 = is.index in
          let same = here.word in let few = here.few in there (omega arith)

      now_faces : (worker : ℕ) → v.role ≡ Worker worker
          → IsFacing l words' (Touched views) (suc worker) v.ways v.took w.reads v.gone
      now_faces worker role =
          let f = faces l words views s id v b worker role in record {
            pages = λ y has u j less few word here. elim (met y has) [
              | inl old ↦ f.pages y old u j less few word here
              | inr new ↦
                  let same = new.word in let low = new.few in
                  let at : t ≡ u = omega arith in (new.way, new.has, new.slot ∙ at)
            ];
            locked = λ q x at is high.
                f.locked q x at is (subst (λ z. 2 ^ 60 ≤ z) (record_word q x at (stood q x at is)) high);
            stands = λ q x y has is here. elim (met y has) [
              | inl old ↦ elim (f.stands q x y old is here) [
                | inl stood-so ↦ inl (record_word q x y.word (stood q x y.word is) ∙ stood-so)
                | inr other ↦ inr other
              ]
              | inr new ↦ absurd (apart q x y new is)
            ];
            unlike = λ q x y z has is here was small low other. elim (met y has) [
              | inl old ↦ f.unlike q x y z old is here was small low other
              | inr new ↦ absurd (apart q x y new is)
            ];
          }
