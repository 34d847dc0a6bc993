-- What stands in a page of a tree that a pass holds.
use Rattle.std.proofs.Common.{◌≡◌, ◌⊎◌, inl, inr, ℕ, ◌+◌, ◌^◌, ◌<◌, Bool, true, false, true≢false, List, length}
use Rattle.std.proofs.Common.{get_or, refl, sym, ap, ◌∙◌, subst, arith, Option, Some, None}
use Rattle.std.specs.List.{Contains}
use Rattle.lists.specs.Fronts.{IsFront, front_refl}
use Rattle.serial_model.specs.declared.decl.Decl.{Decl}
use Rattle.serial_model.specs.declared.decl.Decl.TheVariants.{Array, Tree}
use Rattle.serial_model.specs.declared.key.Key.{Key}
use Rattle.homes.specs.declared.places.Holder.{Holder}
use Rattle.homes.specs.declared.places.Holder.TheVariants.{Free, Held, Dead}
use Rattle.homes.specs.declared.places.Span.{Span}
use Rattle.snapshot_store.specs.declared.place.PagePlace.{PagePlace}
use Rattle.homes.specs.Homes.{in_span}
use Rattle.commit_core.specs.declared.story.Story.{Story}
use Rattle.commit_core.specs.Places.{place_of}
use Rattle.drop_core.specs.declared.table.Led.{Led}
use Rattle.drop_core.specs.declared.table.Led.TheVariants.{Never, From, Away}
use Rattle.drop_core.specs.declared.table.Page.{Page}
use Rattle.drop_core.specs.declared.table.Page.TheVariants.{Blank, Leaf, Inner, Split}
use Rattle.drop_core.specs.declared.table.SlotState.{SlotState}
use Rattle.drop_core.specs.declared.table.SlotState.TheVariants.{Unused, Owned, Published as Shown, Retired}
use Rattle.drop_core.specs.declared.table.Table.{Table}
use Rattle.drop_core.specs.Event.{is_owned, led_span, slot_span}
use Rattle.drop_core.specs.Sound.{span_at, IsLedSo}
use Rattle.drop_core.specs.Table.{slot_of, page_of, header_of, has_slot, is_led, is_never}
use Rattle.engine_pages.specs.declared.layout.Layout.{Layout}
use Rattle.engine_pages.specs.declared.view.Head.{Head}
use Rattle.engine_pages.specs.declared.view.View.{View}
use Rattle.engine_pages.specs.declared.view.Way.{Way}
use Rattle.engine_pages.specs.Layout.{page_at}
use Rattle.engine_pages.specs.Pages.{Fenced, IsFenced, IsLaidOut, decl_of, is_tree, is_tree_kind}
use Rattle.engine_pages.specs.Rule.{Shared, IsHead, IsKnownLeaf}
use Rattle.engine_pages.specs.Stays.{IsKnown}
use Rattle.engine_pages.specs.Steps.{noted, seen_at}
use Rattle.engine_pages.specs.Views.{IsActive, seat_number}
use Rattle.engine_pages.specs.Words.{IsOverwritten, ShowsRecords, ShowsTree, is_shown, head_word, lock_field}
use Rattle.engine_pages.proofs.Dealing.{SameLocks, meets}
use Rattle.engine_pages.proofs.Facing.{Deals, IsNoted}
use Rattle.engine_pages.proofs.Filling.{owned_never}
use Rattle.engine_pages.proofs.Joint.{shared_now}
use Rattle.engine_pages.proofs.Seats.{is_at}
use Rattle.engine_pages.proofs.SlotSteps.{PagesNow}
use Rattle.engine_pages.proofs.Turns.{Begins}
use Rattle.wire_form.specs.Words.{at_bit, flag}
use Rattle.tree_heads.specs.Headers.{IsUnmoved, AreLeafKeys, IsTreeAt, count_of, kind_of, moved_bit, moved_locked, open_word}

-- ---- words

-- what the words say of a tree's page, with this story and this table
abbrev pub SaysOf : Layout → List ℕ → List (Decl × PagePlace) → Story → Table → ℕ → Fenced → Page → Type 0
SaysOf l words names m d t f page = ShowsTree names words l.slots t f (IsOverwritten m) (place_of m.places) d page

-- and of the records of a leaf
abbrev pub SaysRecordsOf : Layout → List ℕ → Story → ℕ → Fenced → Type 0
SaysRecordsOf l words m t f = ShowsRecords words l.slots t f (IsOverwritten m) (place_of m.places)

-- the same of what all share
abbrev pub Says : Layout → List ℕ → Shared → ℕ → Fenced → Page → Type 0
Says l words s t f page = SaysOf l words s.resident.places s.story s.table t f page

-- the same of the records
abbrev pub SaysRecords : Layout → List ℕ → Shared → ℕ → Fenced → Type 0
SaysRecords l words s t f = SaysRecordsOf l words s.story t f

-- ---- the layout

-- a page that is laid out for keys of a tree was made for them
pub fenced_as : (o : Option Decl) (k : ℕ → Option Fenced) (d : Table) (t : ℕ) (sp : Span) → is_tree_kind o ≡ true
    → IsLaidOut o k d t sp → IsFenced (k t) sp
fenced_as None k d t sp is laid = absurd laid
fenced_as (Some (Array id size)) k d t sp is laid = absurd (true≢false (sym is))
fenced_as (Some (Tree id)) k d t sp is laid = laid

pub some_fence : (x y : Fenced) → Some x ≡ Some y → x ≡ y
some_fence x y e = cc

-- a page of a tree is laid out for the keys that it was made for
pub laid_span : (o : Option Decl) (k : ℕ → Option Fenced) (d : Table) (t : ℕ) (sp : Span) (f : Fenced) → k t ≡ Some f
    → IsLaidOut o k d t sp → sp ≡ f.span
laid_span None k d t sp f there laid = absurd laid
laid_span (Some (Array id size)) k d t sp f there laid = let no : None ≡ Some f = sym laid.0 ∙ there in absurd (cc)
laid_span (Some (Tree id)) k d t sp f there laid =
    sym laid.2 ∙ ap (λ (g : Fenced). g.span) (some_fence laid.0 f (sym laid.1 ∙ there))

-- ---- what leads to a slot

shown_unless : (state : SlotState) → is_owned state ≡ false → is_shown state ≡ true
shown_unless Unused e = refl
shown_unless Owned e = absurd (true≢false e)
shown_unless Shown e = refl
shown_unless Retired e = refl

-- what something has led to isn't owned
pub known_shown : (l : Layout) (words : List ℕ) (views : List View) (s : Shared) (id : ℕ) (v : View) (t : ℕ)
    → Begins l words views s id v → IsKnown s.table t → is_shown (slot_of s.table t).state ≡ true
known_shown l words views s id v t b known =
    shown_unless (slot_of s.table t).state (not_owned (is_owned (slot_of s.table t).state) refl)
  where
    not_owned : (c : Bool) → is_owned (slot_of s.table t).state ≡ c → is_owned (slot_of s.table t).state ≡ false
    not_owned true owned =
        absurd (true≢false (sym (owned_never s.table t (slot_of s.table t).state (slot_of s.table t).led owned
        (b.sound.joint.pages.table.holds_counted.led t)) ∙ known))
    not_owned false e = e

pub led_known : (led : Led) → is_led led ≡ true → is_never led ≡ false
led_known Never e = absurd (true≢false (sym e))
led_known (From x) e = refl
led_known Away e = refl

-- something leads to a page whose header isn't dead
pub led_alive : (d : Table) (t : ℕ) (led : Led) → (slot_of d t).led ≡ led → IsKnown d t
    → ((slot_of d t).led ≡ Away → header_of d t ≡ Dead) → (header_of d t ≡ Dead → ⊥) → is_led (slot_of d t).led ≡ true
led_alive d t Never is known dead alive = absurd (true≢false (ap is_never (sym is) ∙ known))
led_alive d t (From x) is known dead alive = ap is_led is
led_alive d t Away is known dead alive = absurd (alive (dead is))

pub free_alive : (h : Holder) → h ≡ Free → h ≡ Dead → ⊥
free_alive h free dead = absurd (cc)

-- ---- a page that the pass holds

-- the page with what the words say of it
pub record AtTree (l : Layout) (words : List ℕ) (s : Shared) (v : View) (t : ℕ) (sp : Span) : Type 0 where
  pub within : t < l.slots
  pub held : has_slot v.grip.holds t ≡ true
  pub known : IsKnown s.table t
  pub fence : Fenced
  pub there : s.trees t ≡ Some fence
  pub span : fence.span ≡ sp
  pub shown : is_shown (slot_of s.table t).state ≡ true
  pub shows : Says l words s t fence (page_of s.table t)

module _ (l : Layout) (words : List ℕ) (views : List View) (s : Shared) (id : ℕ) (v : View)
    (b : Begins l words views s id v) where
  pub at_tree : (t : ℕ) (sp : Span) → IsTreeAt v t sp → AtTree l words s v t sp
  at_tree t sp is =
      let was = b.pages.ways (record { slot = t; span = sp }) is.way in
      let tree : is_tree l.decls sp.storage ≡ true =
      ap (λ (y : Layout). is_tree y.decls sp.storage) (sym b.own.layout) ∙ is.tree in
      let over = fenced_as (decl_of l.decls sp.storage) s.trees s.table t sp tree was.over in
      let shown = known_shown l words views s id v t b was.known in record {
        within = was.within;
        held = was.held;
        known = was.known;
        fence = over.0;
        there = over.1;
        span = over.2;
        shown = shown;
        shows = b.sound.shown.treed t over.0 was.within shown over.1;
      }

  -- the keys of a leaf
  pub are_keys : (t : ℕ) (sp : Span) → (a : AtTree l words s v t sp) → SaysRecords l words s t a.fence
      → AreLeafKeys v t sp a.fence.keys
  are_keys t sp a r = record {
    few = r.few;
    once = r.once;
    inside = λ k has. ap (λ (z : Span). in_span z k) (sym a.span) ∙ r.inside k has;
    known = λ x has slot.
        let was = b.pages.treed.known x has in
        let same : was.fence ≡ a.fence = some_fence was.fence a.fence (sym was.there ∙ (ap s.trees slot ∙ a.there)) in
        subst (λ (y : Fenced). IsFront x.keys y.keys) same was.front;
  }

  -- the keys of the page are known
  pub knows_keys : (t : ℕ) (sp : Span) → (a : AtTree l words s v t sp)
      → IsKnownLeaf l s.table s.trees v.grip.holds (record { slot = t; keys = a.fence.keys })
  knows_keys t sp a = record {
    within = a.within;
    held = a.held;
    known = a.known;
    fence = a.fence;
    there = a.there;
    front = front_refl a.fence.keys;
  }

  -- the keys that a page is over are those below what leads to it
  pub span_is : (t : ℕ) (f : Fenced) → s.trees t ≡ Some f → is_led (slot_of s.table t).led ≡ true
      → slot_span s.table t ≡ f.span
  span_is t f there led = by_led (slot_of s.table t).led refl led
    where
      by_led : (g : Led) → (slot_of s.table t).led ≡ g → is_led g ≡ true → slot_span s.table t ≡ f.span
      by_led Never is on = absurd (true≢false (sym on))
      by_led Away is on = absurd (true≢false (sym on))
      by_led (From x) is on =
          let d = s.table in
          let so = subst (IsLedSo d t (slot_of d t).state) is (b.sound.joint.pages.table.holds_counted.led t) in
          ap (led_span d) is
          ∙ laid_span (decl_of l.decls (span_at d x).storage) s.trees d t (span_at d x) f there (b.sound.laid_out x t so.1 so.2)

  -- ---- what a pass meets there

  -- a way into the page of one of its words
  pub way_here : (t i : ℕ) (sp : Span) → IsTreeAt v t sp → i < 64 → (u j : ℕ) → u < l.slots → j < 64
      → page_at l.slots t i ≡ page_at l.slots u j → has_slot v.gone u ≡ false
      → (y : Way) × Contains v.ways y × (y.slot ≡ u)
  way_here t i sp is index u j less few word here =
      (record { slot = t; span = sp }, is.way, (omega arith))

  -- the header is met as it stands
  pub header_deals : (t : ℕ) (sp : Span) → IsTreeAt v t sp → (w : View) → SameLocks v w
      → IsNoted v.reads w.reads (page_at l.slots t 0) (get_or words (page_at l.slots t 0) 0)
      → Deals l words words s (seat_number v.role) views v w
  header_deals t sp is w same note =
      meets l words views s id v b w (page_at l.slots t 0) same note
      (λ u j less few word here. way_here t 0 sp is (omega arith) u j less few word here)

  -- what the view knows of pages, where none of that changes
  pub pages_same : IsActive v.role → PagesNow l words (shared_now s (seat_number v.role) s.story s.table s.trees s.resident v) v
  pages_same active = record {
    within = b.pages.within;
    ways = b.pages.ways;
    drafts = b.pages.drafts;
    copies = b.pages.copies;
    blanks = b.pages.blanks;
    resident = b.pages.resident;
    leads = b.pages.leads;
    fills = b.pages.fills;
    known = b.pages.treed.known;
    heads = b.pages.treed.heads (seat_number v.role) (is_at v.role active);
    moved = b.pages.treed.moved;
    sealed = b.pages.treed.sealed (seat_number v.role) (is_at v.role active);
    inners = b.pages.treed.inners;
    new_leaves = b.pages.treed.new_leaves;
    new_inners = b.pages.treed.new_inners;
    shuts = b.pages.shuts (seat_number v.role) (is_at v.role active);
  }

-- a word that is noted
pub is_noted : (v : View) (at n : ℕ) (kept : Option ℕ) → IsNoted v.reads (noted v.reads at n kept) at n
is_noted v at n kept = record {
  new = record { word = at; seen = n; was = seen_at v.reads at; kept = kept };
  word = refl;
  seen = refl;
  was = refl;
  is = refl;
}

-- ---- the fields of a header's word

pub lock_is : (h : Holder) → (lock_field h ≡ 0) ⊎ (lock_field h ≡ 2 ^ 60)
lock_is Free = inl refl
lock_is (Held p) = inr (omega arith)
lock_is Dead = inr (omega arith)

-- how many, and of what kind
pub record Fields (n many sort : ℕ) : Type 0 where
  pub count : count_of n ≡ many
  pub kind : kind_of n ≡ sort

pub fields : (n count kind lock : ℕ) (moved : Bool) → n ≡ head_word count kind lock moved → count < 256 → kind < 256
    → (lock ≡ 0) ⊎ (lock ≡ 2 ^ 60) → Fields n count kind
fields n count kind lock true is few small (inl none) = record { count = omega arith; kind = omega arith }
fields n count kind lock true is few small (inr one) = record { count = omega arith; kind = omega arith }
fields n count kind lock false is few small (inl none) = record { count = omega arith; kind = omega arith }
fields n count kind lock false is few small (inr one) = record { count = omega arith; kind = omega arith }

-- a header that isn't moved is below that bit
pub unmoved : (n count kind lock : ℕ) → n ≡ head_word count kind lock false → count < 256 → kind < 256
    → (lock ≡ 0) ⊎ (lock ≡ 2 ^ 60) → n < moved_bit
unmoved n count kind lock is few small (inl none) = omega arith
unmoved n count kind lock is few small (inr one) = omega arith

-- and no bit above that of the lock stands in it but this one
pub unlocked_bits : (n count kind lock : ℕ) (moved : Bool) → n ≡ head_word count kind lock moved → count < 256 → kind < 256
    → (lock ≡ 0) ⊎ (lock ≡ 2 ^ 60) → n < at_bit 62 (flag moved) + 2 ^ 61
unlocked_bits n count kind lock true is few small (inl none) = omega arith
unlocked_bits n count kind lock true is few small (inr one) = omega arith
unlocked_bits n count kind lock false is few small (inl none) = omega arith
unlocked_bits n count kind lock false is few small (inr one) = omega arith

-- a header without the lock bit is free
pub free_lock : (count : ℕ) (h : Holder) → head_word count 1 (lock_field h) false < 2 ^ 60 → h ≡ Free
free_lock count Free low = refl
free_lock count (Held p) low = absurd (omega arith)
free_lock count Dead low = absurd (omega arith)

-- so is a moved one
pub free_moved : (count : ℕ) (h : Holder) → head_word count 1 (lock_field h) true < moved_locked → h ≡ Free
free_moved count Free low = refl
free_moved count (Held p) low = absurd (omega arith)
free_moved count Dead low = absurd (omega arith)

-- ---- an open leaf

-- the page is a leaf whose header nobody has locked
pub record OpenLeaf (l : Layout) (words : List ℕ) (s : Shared) (v : View) (t : ℕ) (sp : Span) (a : AtTree l words s v t sp)
    : Type 0 where
  pub leaf : page_of s.table t ≡ Leaf a.fence.keys
  pub free : header_of s.table t ≡ Free
  pub led : is_led (slot_of s.table t).led ≡ true
  pub word : get_or words (page_at l.slots t 0) 0 ≡ open_word (length a.fence.keys)
  pub records : SaysRecords l words s t a.fence

pub open_leaf : (l : Layout) (words : List ℕ) (views : List View) (s : Shared) (id : ℕ) (v : View)
    (b : Begins l words views s id v) (t : ℕ) (sp : Span) (a : AtTree l words s v t sp)
    → get_or words (page_at l.slots t 0) 0 < 2 ^ 60 → kind_of (get_or words (page_at l.slots t 0) 0) ≡ 1
    → OpenLeaf l words s v t sp a
open_leaf l words views s id v b t sp a low leafy = by_page (page_of s.table t) refl a.shows
  where
    n : ℕ
    n = get_or words (page_at l.slots t 0) 0

    by_page : (page : Page) → page_of s.table t ≡ page → Says l words s t a.fence page → OpenLeaf l words s v t sp a
    by_page Blank laid shows = absurd shows
    by_page (Inner c) laid shows =
        let few = shows.3 in
        let fld = fields n c 2 0 false shows.1 (omega arith) (omega arith) (inl refl) in
        absurd (omega (arith, leafy, fld.kind))
    by_page Split laid shows = let is = shows.0 in absurd (omega (arith, low, is))
    by_page (Leaf keys) laid shows =
        let d = s.table in
        let free : header_of d t ≡ Free =
        free_lock (length a.fence.keys) (header_of d t) (subst (λ y. y < 2 ^ 60) shows.1 low) in record {
          leaf = laid ∙ ap Leaf (sym shows.0);
          free = free;
          led = led_alive d t (slot_of d t).led refl a.known (b.sound.joint.pages.headers t) (free_alive (header_of d t) free);
          word = shows.1 ∙ ap (λ (h : Holder). head_word (length a.fence.keys) 1 (lock_field h) false) free;
          records = shows.2;
        }

-- ---- the own lock

-- the leaf whose header the pass has locked
pub record AtHead (l : Layout) (words : List ℕ) (s : Shared) (v : View) (x : Head) : Type 0 where
  pub is : IsHead l words s.table s.trees (seat_number v.role) x
  pub known : IsKnown s.table x.slot
  pub led : is_led (slot_of s.table x.slot).led ≡ true
  pub shown : is_shown (slot_of s.table x.slot).state ≡ true
  pub word : get_or words (page_at l.slots x.slot 0) 0
      ≡ head_word (length x.keys) 1 (lock_field (header_of s.table x.slot)) false
  pub records : SaysRecords l words s x.slot is.fence

pub at_head : (l : Layout) (words : List ℕ) (views : List View) (s : Shared) (id : ℕ) (v : View) (x : Head)
    → IsActive v.role → Begins l words views s id v → Contains v.heads x → AtHead l words s v x
at_head l words views s id v x active b has =
    let was = b.pages.treed.heads (seat_number v.role) (is_at v.role active) x has in
    let led = (b.sound.joint.pages.held.headers x.slot (seat_number v.role) was.locked).1 in
    let known = led_known (slot_of s.table x.slot).led led in
    let shown = known_shown l words views s id v x.slot b known in
    let shows : Says l words s x.slot was.fence (Leaf x.keys) =
    subst (Says l words s x.slot was.fence) was.leaf (b.sound.shown.treed x.slot was.fence was.within shown was.there) in record {
      is = was;
      known = known;
      led = led;
      shown = shown;
      word = shows.1
          ∙ ap (λ (q : List Key). head_word (length q) 1 (lock_field (header_of s.table x.slot)) false) was.keys;
      records = shows.2;
    }

-- ---- a page that isn't split

-- where the page in the slot isn't that of a split leaf, the pass knows no split of it
pub not_split : (l : Layout) (words : List ℕ) (views : List View) (s : Shared) (id : ℕ) (v : View)
    → Begins l words views s id v → (t : ℕ) (page : Page) → page_of s.table t ≡ page → (page ≡ Split → ⊥) → IsUnmoved v t
not_split l words views s id v b t page laid other x has same =
    other (sym laid ∙ (ap (page_of s.table) (sym same) ∙ (b.pages.treed.moved x has).split))

-- a leaf isn't
pub leaf_unmoved : (l : Layout) (words : List ℕ) (views : List View) (s : Shared) (id : ℕ) (v : View)
    → Begins l words views s id v → (t : ℕ) (keys : List Key) → page_of s.table t ≡ Leaf keys → IsUnmoved v t
leaf_unmoved l words views s id v b t keys laid =
    not_split l words views s id v b t (Leaf keys) laid (λ e. absurd (cc))
