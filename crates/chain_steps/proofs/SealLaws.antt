-- The header of a split leaf is locked by the maintenance thread, and opened as it was.
use Rattle.std.proofs.Common.{◌≡◌, ◌≢◌, inl, ℕ, ◌+◌, ◌<◌, ◌≤◌, Bool, true, false, cond, true≢false, eqb, eq-eqb, eqb-true, ne_eqb, List, [], ◌∷◌}
use Rattle.std.proofs.Common.{length, get_or, set, refl, sym, ap, ◌∙◌, subst, arith, None}
use Rattle.std.specs.Prelude.{◌&&◌, ◌||◌, MatchBool, not}
use Rattle.std.proofs.lemmas.Bool.{and_from, or_right}
use prog.Atomic.{either}
use Rattle.atomic_table.specs.Table.{Me, Allows}
use Rattle.lists.specs.Fronts.{IsFront, front_length}
use Rattle.serial_model.specs.declared.key.Key.{Key}
use Rattle.homes.specs.declared.places.Holder.{Holder}
use Rattle.homes.specs.declared.places.Holder.TheVariants.{Free, Held}
use Rattle.homes.specs.declared.places.Span.{Span}
use Rattle.homes.specs.Homes.{holder_is, is_free}
use Rattle.drop_core.specs.declared.event.Act.TheVariants.{LockHeader, OpenHeader}
use Rattle.drop_core.specs.declared.table.Page.TheVariants.{Split}
use Rattle.drop_core.specs.declared.table.Table.{Table}
use Rattle.drop_core.specs.Event.{with_header, without}
use Rattle.drop_core.specs.Table.{has_slot, header_of, is_led, is_split, page_of, slot_of}
use Rattle.engine_pages.specs.declared.layout.Layout.{Layout}
use Rattle.engine_pages.specs.declared.view.View.{View}
use Rattle.engine_pages.specs.Layout.{page_at}
use Rattle.engine_pages.specs.Pages.{Fenced}
use Rattle.engine_pages.specs.Rule.{Shared, IsSealed, Shows}
use Rattle.engine_pages.specs.Steps.{kept_at, read_at}
use Rattle.engine_pages.specs.Views.{IsActive, seat_number}
use Rattle.engine_pages.specs.Words.{head_word, lock_field}
use Rattle.engine_pages.proofs.Joint.{Laws}
use Rattle.engine_pages.proofs.Looks.{look_stride}
use Rattle.engine_pages.proofs.Seats.{is_at}
use Rattle.engine_pages.proofs.TreeFacts.{sealed_at}
use Rattle.engine_pages.proofs.Turns.{Begins, Stride, Written, allows_at, written}
use Rattle.tree_heads.specs.Headers.{moved_locked}
use Rattle.tree_heads.specs.Heads.{lock_bit}
use Rattle.tree_heads.proofs.LeafSteps.{met_word}
use Rattle.tree_heads.proofs.TreeAt.{AtTree, Says, at_tree, free_alive, free_moved, header_deals, is_noted, led_alive, pages_same, some_fence}
use Rattle.chain_steps.specs.Seals.{CanSeal, CanUnseal, HasSealed, sealed_at as seals_at, unsealed_at}
use Rattle.chain_steps.proofs.SplitSteps.{SplitTurn, split_stride}

-- ---- it is locked

module _ (laws : Laws) (l : Layout) (words : List ℕ) (views : List View) (s : Shared) (id : ℕ) (v : View)
    (active : IsActive v.role) (b : Begins l words views s id v) (t : ℕ) (sp : Span) (expected : ℕ) (can : CanSeal v t sp expected) where
  abbrev at : ℕ
  at = page_at l.slots t 0

  abbrev n : ℕ
  n = get_or words at 0

  abbrev f : ℕ → ℕ
  f k = either (eqb k expected) (expected + lock_bit) k

  abbrev p : ℕ
  p = seat_number v.role

  abbrev d : Table
  d = s.table

  page : AtTree l words s v t sp
  page = at_tree l words views s id v b t sp can.page

  split : page_of d t ≡ Split
  split = ap (page_of d) (sym can.slot) ∙ (b.pages.treed.moved can.moved can.has).split

  shows : Says l words s t page.fence Split
  shows = subst (Says l words s t page.fence) split page.shows

  -- the keeper's seat
  first_seat : p ≡ 0
  first_seat = ap seat_number can.keeper

  -- the headers that it has locked then
  sealed_now : (w : View) → w ≡ seals_at t at n v → header_of d t ≡ Free → (u : ℕ) → has_slot w.sealed u ≡ true
      → IsSealed l (with_header d t (Held p)) p u
  sealed_now w is free u has =
      by_slot (eqb t u) refl (sym (ap (λ (z : View). has_slot z.sealed u) is) ∙ has)
    where
      by_slot : (c : Bool) → eqb t u ≡ c → (c || has_slot v.sealed u) ≡ true → IsSealed l (with_header d t (Held p)) p u
      by_slot true e more =
          subst (λ y. IsSealed l (with_header d t (Held p)) p y) (eqb-true t u e) record {
            within = page.within;
            locked = ap (λ (y : Bool). cond y (Held p) (header_of d t)) (eq-eqb t t refl);
            split = split;
          }
      by_slot false e more =
          sealed_at l d (with_header d t (Held p)) p u (ap (λ (y : Bool). cond y (Held p) (header_of d u)) e) refl
          (b.pages.treed.sealed p (is_at v.role active) u more)

  seal_stride : eqb n expected ≡ true → Stride l words views s p v at f (HasSealed t at expected)
  seal_stride found =
      let same : n ≡ expected = eqb-true n expected found in
      let free : header_of d t ≡ Free =
      free_moved (length page.fence.keys) (header_of d t)
      (subst (λ y. y < moved_locked) shows.0 (subst (λ y. y < moved_locked) (sym same) can.free)) in
      let led : is_led (slot_of d t).led ≡ true =
      led_alive d t (slot_of d t).led refl page.known (b.sound.joint.pages.headers t) (free_alive (header_of d t) free) in
      let w : View = seals_at t at n v in
      let e : Table = with_header d t (Held p) in
      let here : f n ≡ expected + lock_bit = ap (λ c. either c (expected + lock_bit) n) found in
      let words' : List ℕ = set words at (f n) in
      let wr : Written words words' at (f n) =
      written words at (f n) (let long = b.sound.shown.long in let within = page.within in omega (arith, long, within)) in
      let turn : SplitTurn laws l words views s id v active b t f (LockHeader t) (Held p) w = record {
        same = record { layout = refl; role = refl; made = refl; past = refl; parked = refl; epoch = refl; mine = refl; draws = refl; due = refl; seat = refl; checked = refl; took = refl; loaded = refl; met = refl; heard = refl; versions = refl; history = refl; decided = refl };
        part = record { grip = refl; ways = refl; drafts = refl; copies = refl; blanks = refl; pages = refl; leads = refl; fills = refl; known = refl; heads = refl; moved = refl; inners = refl; new_leaves = refl; new_inners = refl; shuts = refl };
        locks = record { role = refl; ways = refl; took = refl; gone = refl; touched = refl; blamed = refl; locks = refl };
        still = refl;
        effect = refl;
        allowed = and_from (is_led (slot_of d t).led) (is_free (header_of d t) && (eqb p 0 || not (is_split (page_of d t)))) led
            (and_from (is_free (header_of d t)) (eqb p 0 || not (is_split (page_of d t))) (ap is_free free)
            (ap (λ (c : Bool). c || not (is_split (page_of d t))) (eq-eqb p 0 first_seat)));
        lets = refl;
        within = page.within;
        known = page.known;
        fence = page.fence;
        there = page.there;
        split = split;
        shows = shows;
        word = here ∙ (let word = shows.0 ∙ ap (λ (h : Holder). head_word (length page.fence.keys) 1 (lock_field h) true) free in
            omega (arith, word, same));
        wr = wr;
        met = met_word l v t sp v.reads at (n + lock_bit) (kept_at v.reads at) can.page (λ x has. inl has) 0 (omega arith) refl;
        sealed = sealed_now w refl free;
      } in
      split_stride laws l words views s id v active b t f (LockHeader t) (Held p) w turn (HasSealed t at expected)
      (subst (λ c. MatchBool c (w ≡ seals_at t at n v) (w ≡ read_at at n v)) (sym found) refl)

  pub found_stride : Stride l words views s p v at f (HasSealed t at expected)
  found_stride = by_found (eqb n expected) refl
    where
      by_found : (c : Bool) → eqb n expected ≡ c → Stride l words views s p v at f (HasSealed t at expected)
      by_found true found = seal_stride found
      by_found false other =
          let w : View = read_at at n v in
          let was = pages_same l words views s id v b active in
          look_stride l words views s id v active b at f w (HasSealed t at expected)
          (ap (λ c. either c (expected + lock_bit) n) other)
          record { layout = refl; role = refl; made = refl; past = refl; parked = refl; epoch = refl; mine = refl; draws = refl; due = refl; seat = refl; checked = refl; took = refl; loaded = refl; met = refl; heard = refl; versions = refl; history = refl; decided = refl }
          refl
          record { within = was.within; ways = was.ways; drafts = was.drafts; copies = was.copies; blanks = was.blanks; resident = was.resident; leads = was.leads; fills = was.fills; known = was.known; heads = was.heads; moved = was.moved; sealed = was.sealed; inners = was.inners; new_leaves = was.new_leaves; new_inners = was.new_inners; shuts = was.shuts }
          (header_deals l words views s id v b t sp can.page w
          record { role = refl; ways = refl; took = refl; gone = refl; touched = refl; blamed = refl; locks = refl }
          (is_noted v at n (kept_at v.reads at)))
          (subst (λ c. MatchBool c (w ≡ seals_at t at n v) (w ≡ read_at at n v)) (sym other) refl)

pub seals : Laws → (l : Layout) (slots id : ℕ) (me : Me (Unit {0}) View) (t : ℕ) (sp : Span) (expected : ℕ)
    → IsActive me.0.role → CanSeal me.0 t sp expected
    → Allows (λ s. Shows l s.words s.views) slots id me (page_at l.slots t 0)
    (λ n. either (eqb n expected) (expected + lock_bit) n)
    (λ n now. (now.1 ≡ me.1) × HasSealed t (page_at l.slots t 0) expected me.0 n now.0)
seals laws l slots id me t sp expected active can =
    allows_at laws l slots id me (page_at l.slots t 0) (λ n. either (eqb n expected) (expected + lock_bit) n)
    (HasSealed t (page_at l.slots t 0) expected) active
    (λ words views s b. found_stride laws l words views s id me.0 active b t sp expected can)

-- ---- it is opened as it was

-- a leaf of which all keys are known has no more
full_is : (known keys : List Key) → IsFront known keys → length known ≡ 16 → length keys ≤ 16 → length keys ≡ 16
full_is known keys front full few = let long = front_length known keys front in omega (arith, full, few, long)

module _ (laws : Laws) (l : Layout) (words : List ℕ) (views : List View) (s : Shared) (id : ℕ) (v : View)
    (active : IsActive v.role) (b : Begins l words views s id v) (t : ℕ) (sp : Span) (word : ℕ) (can : CanUnseal v t sp word) where
  abbrev q : ℕ
  q = seat_number v.role

  abbrev o : Table
  o = s.table

  own : AtTree l words s v t sp
  own = at_tree l words views s id v b t sp can.page

  was_sealed : IsSealed l o q t
  was_sealed = b.pages.treed.sealed q (is_at v.role active) t can.sealed

  own_shows : Says l words s t own.fence Split
  own_shows = subst (Says l words s t own.fence) was_sealed.split own.shows

  -- it is full
  full : length own.fence.keys ≡ 16
  full =
      let known = b.pages.treed.known can.leaf can.has in
      let same : known.fence ≡ own.fence = some_fence known.fence own.fence (sym known.there ∙ (ap s.trees can.slot ∙ own.there)) in
      full_is can.leaf.keys own.fence.keys (subst (λ (y : Fenced). IsFront can.leaf.keys y.keys) same known.front) can.full
      own_shows.2.few

  pub unseal_stride : Stride l words views s q v (page_at l.slots t 0) (λ _. word) (λ v _ w. w ≡ unsealed_at t (page_at l.slots t 0) word v)
  unseal_stride =
      let at = page_at l.slots t 0 in
      let w : View = unsealed_at t at word v in
      let e : Table = with_header o t Free in
      let words' : List ℕ = set words at word in
      let wr : Written words words' at word =
      written words at word (let long = b.sound.shown.long in let within = own.within in omega (arith, long, within)) in
      let turn : SplitTurn laws l words views s id v active b t (λ _. word) (OpenHeader t None) Free w = record {
        same = record { layout = refl; role = refl; made = refl; past = refl; parked = refl; epoch = refl; mine = refl; draws = refl; due = refl; seat = refl; checked = refl; took = refl; loaded = refl; met = refl; heard = refl; versions = refl; history = refl; decided = refl };
        part = record { grip = refl; ways = refl; drafts = refl; copies = refl; blanks = refl; pages = refl; leads = refl; fills = refl; known = refl; heads = refl; moved = refl; inners = refl; new_leaves = refl; new_inners = refl; shuts = refl };
        locks = record { role = refl; ways = refl; took = refl; gone = refl; touched = refl; blamed = refl; locks = refl };
        still = refl;
        effect = refl;
        allowed = ap (holder_is q) was_sealed.locked ∙ eq-eqb q q refl;
        lets = refl;
        within = own.within;
        known = own.known;
        fence = own.fence;
        there = own.there;
        split = was_sealed.split;
        shows = own_shows;
        word = can.is ∙ ap (λ n. head_word n 1 0 true) (sym full);
        wr = wr;
        met = met_word l v t sp v.reads at word (kept_at v.reads at) can.page (λ x has. inl has) 0 (omega arith) refl;
        sealed = λ u has.
            let was = at_others_slots t v.sealed u has in
            sealed_at l o e q u (ap (λ (y : Bool). cond y Free (header_of o u)) (ne_eqb t u (λ same. was.1 (sym same)))) refl
            (b.pages.treed.sealed q (is_at v.role active) u was.0);
      } in
      split_stride laws l words views s id v active b t (λ _. word) (OpenHeader t None) Free w turn
      (λ v _ w. w ≡ unsealed_at t (page_at l.slots t 0) word v) refl
    where
      -- a slot that is left is another one
      at_others_slots : (t : ℕ) (slots : List ℕ) (u : ℕ) → has_slot (without slots t) u ≡ true → (has_slot slots u ≡ true) × (u ≢ t)
      at_others_slots t [] u has = absurd (true≢false (sym has))
      at_others_slots t (x ∷ slots) u has = by_test (eqb x t) refl has (λ more. at_others_slots t slots u more)
        where
          by_test : (c : Bool) → eqb x t ≡ c → has_slot (cond (not c) (x ∷ without slots t) (without slots t)) u ≡ true
              → (has_slot (without slots t) u ≡ true → (has_slot slots u ≡ true) × (u ≢ t))
              → ((eqb x u || has_slot slots u) ≡ true) × (u ≢ t)
          by_test true e has rest = let r = rest has in (or_right (eqb x u) (has_slot slots u) r.0, r.1)
          by_test false e has rest = by_here (eqb x u) refl has
            where
              by_here : (c : Bool) → eqb x u ≡ c → (c || has_slot (without slots t) u) ≡ true
                  → ((c || has_slot slots u) ≡ true) × (u ≢ t)
              by_here true f has = (refl, λ same. true≢false (sym (eq-eqb x t (eqb-true x u f ∙ same)) ∙ e))
              by_here false f has = rest has

pub unseals : Laws → (l : Layout) (slots id : ℕ) (me : Me (Unit {0}) View) (t : ℕ) (sp : Span) (word : ℕ)
    → IsActive me.0.role → CanUnseal me.0 t sp word
    → Allows (λ s. Shows l s.words s.views) slots id me (page_at l.slots t 0) (λ _. word)
    (λ _ now. (now.1 ≡ me.1) × (now.0 ≡ unsealed_at t (page_at l.slots t 0) word me.0))
unseals laws l slots id me t sp word active can =
    allows_at laws l slots id me (page_at l.slots t 0) (λ _. word)
    (λ v _ w. w ≡ unsealed_at t (page_at l.slots t 0) word v) active
    (λ words views s b. unseal_stride laws l words views s id me.0 active b t sp word can)
