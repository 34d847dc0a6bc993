-- A header is locked, and opened as it was.
use Rattle.std.proofs.Common.{◌≡◌, ◌≢◌, inl, inr, ℕ, ◌+◌, ◌^◌, ◌<◌, Bool, true, false, eqb, eq-eqb, eqb-true, not, List, length}
use Rattle.std.proofs.Common.{get_or, set, refl, sym, ap, ◌∙◌, subst, arith, None}
use Rattle.std.specs.Prelude.{◌&&◌, ◌||◌, MatchBool, cond}
use Rattle.std.proofs.lemmas.Bool.{and_from, or_right}
use prog.Atomic.{either}
use Rattle.atomic_table.specs.Table.{Me, Allows}
use Rattle.lists.specs.Elements.{in_cases}
use Rattle.serial_model.specs.declared.key.Key.{Key}
use Rattle.homes.specs.declared.places.Holder.{Holder}
use Rattle.homes.specs.declared.places.Holder.TheVariants.{Free, Held}
use Rattle.homes.specs.declared.places.Span.{Span}
use Rattle.homes.specs.Homes.{holder_is, is_free}
use Rattle.drop_core.specs.declared.event.Act.TheVariants.{LockHeader, OpenHeader}
use Rattle.drop_core.specs.declared.table.Page.{Page}
use Rattle.drop_core.specs.declared.table.Page.TheVariants.{Leaf}
use Rattle.drop_core.specs.declared.table.Table.{Table}
use Rattle.drop_core.specs.Event.{with_header}
use Rattle.drop_core.specs.Table.{header_of, is_led, is_split, page_of, slot_of}
use Rattle.engine_pages.specs.declared.layout.Layout.{Layout}
use Rattle.engine_pages.specs.declared.view.Head.{Head}
use Rattle.engine_pages.specs.declared.view.View.{View}
use Rattle.engine_pages.specs.Agreement.{TreesAgree}
use Rattle.engine_pages.specs.Layout.{page_at}
use Rattle.engine_pages.specs.Rule.{Shared, IsHead, IsKnownLeaf, Shows}
use Rattle.engine_pages.specs.Stays.{IsKnown}
use Rattle.engine_pages.specs.Steps.{kept_at, read_at}
use Rattle.engine_pages.specs.Views.{IsActive, seat_number}
use Rattle.engine_pages.proofs.Agreeing.{agreed}
use Rattle.engine_pages.proofs.Joint.{Laws}
use Rattle.engine_pages.proofs.Looks.{look_stride}
use Rattle.engine_pages.proofs.Seats.{is_at}
use Rattle.engine_pages.proofs.Slotlists.{at_others, get_tab, length_tab, tab}
use Rattle.engine_pages.proofs.Turns.{Begins, Stride, Written, allows_at, written}
use Rattle.tree_heads.specs.Headers.{IsTreeAt, kind_of, open_word}
use Rattle.tree_heads.specs.Heads.{CanOpenHeader, HasHead, HeadLocked, head_locked, head_opened, lock_bit}
use Rattle.tree_heads.proofs.HeadSteps.{HeaderTurn, header_other, header_stride, spare_high, turn_leaf}
use Rattle.tree_heads.proofs.LeafSteps.{LeafStep, head_step, known_step, met_word}
use Rattle.tree_heads.proofs.TreeAt.{leaf_unmoved, at_head, at_tree, are_keys, header_deals, is_noted, open_leaf, pages_same}
use Rattle.tree_heads.proofs.TreeAt.{SaysRecords, knows_keys}

held_free : (h : Holder) (p : ℕ) → h ≡ Held p → h ≡ Free → ⊥
held_free h p held free = absurd (cc)

-- ---- it is locked

module _ (laws : Laws) (l : Layout) (words : List ℕ) (views : List View) (s : Shared) (id : ℕ) (v : View)
    (active : IsActive v.role) (b : Begins l words views s id v) (t : ℕ) (sp : Span) (expected : ℕ) (is : IsTreeAt v t sp)
    (low : expected < 2 ^ 60) (leafy : kind_of expected ≡ 1) where
  abbrev at : ℕ
  at = page_at l.slots t 0

  abbrev n : ℕ
  n = get_or words at 0

  abbrev f : ℕ → ℕ
  f k = either (eqb k expected) (expected + lock_bit) k

  abbrev p : ℕ
  p = seat_number v.role

  lock_stride : eqb n expected ≡ true → Stride l words views s p v at f (HeadLocked t sp at expected)
  lock_stride found =
      let d = s.table in
      let same : n ≡ expected = eqb-true n expected found in
      let a = at_tree l words views s id v b t sp is in
      let o = open_leaf l words views s id v b t sp a (subst (λ y. y < 2 ^ 60) (sym same) low) (ap kind_of same ∙ leafy) in
      let keys = a.fence.keys in
      let ws : List ℕ = tab (λ i. get_or words (page_at l.slots t i) 0) 64 in
      let w : View = head_locked t keys ws at n v in
      let e : Table = with_header d t (Held p) in
      let here : f n ≡ expected + lock_bit = ap (λ c. either c (expected + lock_bit) n) found in
      let words' : List ℕ = set words at (f n) in
      let wr : Written words words' at (f n) =
      written words at (f n) (let long = b.sound.shown.long in let within = a.within in omega arith) in
      let turn : HeaderTurn laws l words views s id v active b t f (LockHeader t) (Held p) w = record {
        same = record { layout = refl; role = refl; made = refl; past = refl; parked = refl; epoch = refl; mine = refl; draws = refl; due = refl; seat = refl; checked = refl; took = refl; loaded = refl; met = refl; heard = refl; versions = refl; history = refl; decided = refl };
        part = record { grip = refl; ways = refl; drafts = refl; copies = refl; blanks = refl; pages = refl; leads = refl; fills = refl; moved = refl; sealed = refl; inners = refl; new_leaves = refl; new_inners = refl; shuts = refl };
        locks = record { role = refl; ways = refl; took = refl; gone = refl; touched = refl; blamed = refl; locks = refl };
        still = refl;
        effect = refl;
        allowed = and_from (is_led (slot_of d t).led) (is_free (header_of d t) && (eqb p 0 || not (is_split (page_of d t)))) o.led
            (and_from (is_free (header_of d t)) (eqb p 0 || not (is_split (page_of d t))) (ap is_free o.free)
            (or_right (eqb p 0) (not (is_split (page_of d t))) (ap (λ (y : Page). not (is_split y)) o.leaf)));
        lets = refl;
        within = a.within;
        known = a.known;
        fence = a.fence;
        there = a.there;
        leaf = o.leaf;
        word = here ∙ (let word = o.word in omega (arith, word, same));
        records = o.records;
      } in
      let leaf : LeafStep l words words' s s.story e s.trees t 0 =
      turn_leaf laws l words views s id v active b t f (LockHeader t) (Held p) w turn wr in
      let other : (u : ℕ) → u ≢ t → header_of e u ≡ header_of d u =
      header_other laws l words views s id v active b t f (LockHeader t) (Held p) w in
      let header : header_of e t ≡ Held p = ap (λ (y : Bool). cond y (Held p) (header_of d t)) (eq-eqb t t refl) in
      agreed l words views s v active at f (HeadLocked t sp at expected)
      (header_stride laws l words views s id v active b t f (LockHeader t) (Held p) w
      (λ v n w. TreesAgree w → HeadLocked t sp at expected v n w) turn wr
      (met_word l v t sp v.reads at (n + lock_bit) (kept_at v.reads at) is (λ x has. inl has) 0 (omega arith) refl)
      (λ x has. elim (in_cases x (record { slot = t; keys = keys }) v.known has) [
        | inl new ↦ subst (IsKnownLeaf l e s.trees v.grip.holds) new
            (known_step laws l words words' views s id v active b s.story e s.trees t 0 leaf w (record { slot = t; keys = keys })
            (knows_keys l words views s id v b t sp a))
        | inr old ↦
            known_step laws l words words' views s id v active b s.story e s.trees t 0 leaf w x (b.pages.treed.known x old)
      ])
      (λ x has. elim (in_cases x (record { slot = t; keys = keys; words = ws }) v.heads has) [
        | inl new ↦ subst (IsHead l words' e s.trees p) new record {
          within = a.within;
          locked = header;
          leaf = o.leaf;
          fence = a.fence;
          there = a.there;
          keys = refl;
          long = length_tab (λ i. get_or words (page_at l.slots t i) 0) 64;
          is = λ i less spare.
              let high = spare_high (length keys) i spare in
              wr.others (page_at l.slots t i) (λ q. absurd (omega (arith, q, high)))
              ∙ sym (get_tab (λ i. get_or words (page_at l.slots t i) 0) 64 i less);
        }
        | inr old ↦
            let was = b.pages.treed.heads p (is_at v.role active) x old in
            head_step laws l words words' views s id v active b s.story e s.trees t 0 leaf w x
            (λ q. held_free (header_of d t) p (ap (header_of d) (sym q) ∙ was.locked) o.free) was
      ])
      (λ trees. subst (λ c. MatchBool c (HasHead t sp at v n w) (w ≡ read_at at n v)) (sym found) record {
        keys = keys;
        are = are_keys l words views s id v b t sp a o.records;
        word = o.word;
        words = ws;
        long = length_tab (λ i. get_or words (page_at l.slots t i) 0) 64;
        unmoved = leaf_unmoved l words views s id v b t keys o.leaf;
        trees = trees;
        is = refl;
      }))

  pub found_stride : Stride l words views s p v at f (HeadLocked t sp at expected)
  found_stride = by_found (eqb n expected) refl
    where
      by_found : (c : Bool) → eqb n expected ≡ c → Stride l words views s p v at f (HeadLocked t sp at expected)
      by_found true found = lock_stride found
      by_found false other =
          let w : View = read_at at n v in
          let was = pages_same l words views s id v b active in
          look_stride l words views s id v active b at f w (HeadLocked t sp at expected)
          (ap (λ c. either c (expected + lock_bit) n) other)
          record { layout = refl; role = refl; made = refl; past = refl; parked = refl; epoch = refl; mine = refl; draws = refl; due = refl; seat = refl; checked = refl; took = refl; loaded = refl; met = refl; heard = refl; versions = refl; history = refl; decided = refl }
          refl
          record { within = was.within; ways = was.ways; drafts = was.drafts; copies = was.copies; blanks = was.blanks; resident = was.resident; leads = was.leads; fills = was.fills; known = was.known; heads = was.heads; moved = was.moved; sealed = was.sealed; inners = was.inners; new_leaves = was.new_leaves; new_inners = was.new_inners; shuts = was.shuts }
          (header_deals l words views s id v b t sp is w
          record { role = refl; ways = refl; took = refl; gone = refl; touched = refl; blamed = refl; locks = refl }
          (is_noted v at n (kept_at v.reads at)))
          (subst (λ c. MatchBool c (HasHead t sp at v n w) (w ≡ read_at at n v)) (sym other) refl)

pub locks_head : Laws → (l : Layout) (slots id : ℕ) (me : Me (Unit {0}) View) (t : ℕ) (sp : Span) (expected : ℕ)
    → IsActive me.0.role → IsTreeAt me.0 t sp → expected < 2 ^ 60 → kind_of expected ≡ 1
    → Allows (λ s. Shows l s.words s.views) slots id me (page_at l.slots t 0)
    (λ n. either (eqb n expected) (expected + lock_bit) n)
    (λ n now. (now.1 ≡ me.1) × HeadLocked t sp (page_at l.slots t 0) expected me.0 n now.0)
locks_head laws l slots id me t sp expected active is low leafy =
    allows_at laws l slots id me (page_at l.slots t 0) (λ n. either (eqb n expected) (expected + lock_bit) n)
    (HeadLocked t sp (page_at l.slots t 0) expected) active
    (λ words views s b. found_stride laws l words views s id me.0 active b t sp expected is low leafy)

-- ---- it is opened as it was

pub opens_head : Laws → (l : Layout) (slots id : ℕ) (me : Me (Unit {0}) View) (t : ℕ) (sp : Span) (word : ℕ)
    → IsActive me.0.role → CanOpenHeader me.0 t sp word
    → Allows (λ s. Shows l s.words s.views) slots id me (page_at l.slots t 0) (λ _. word)
    (λ _ now. (now.1 ≡ me.1) × (now.0 ≡ head_opened t (page_at l.slots t 0) word me.0))
opens_head laws l slots id me t sp word active can =
    allows_at laws l slots id me (page_at l.slots t 0) (λ _. word)
    (λ v _ w. w ≡ head_opened t (page_at l.slots t 0) word v) active (λ words views s b.
    let v = me.0 in
    let p = seat_number v.role in
    let d = s.table in
    let at = page_at l.slots t 0 in
    let x = can.head in
    let a = at_head l words views s id v x active b can.has in
    let w : View = head_opened t at word v in
    let e : Table = with_header d t Free in
    let words' : List ℕ = set words at word in
    let within : t < l.slots = subst (λ y. y < l.slots) can.slot a.is.within in
    let wr : Written words words' at word = written words at word (let long = b.sound.shown.long in omega arith) in
    let turn : HeaderTurn laws l words views s id v active b t (λ _. word) (OpenHeader t None) Free w = record {
      same = record { layout = refl; role = refl; made = refl; past = refl; parked = refl; epoch = refl; mine = refl; draws = refl; due = refl; seat = refl; checked = refl; took = refl; loaded = refl; met = refl; heard = refl; versions = refl; history = refl; decided = refl };
      part = record { grip = refl; ways = refl; drafts = refl; copies = refl; blanks = refl; pages = refl; leads = refl; fills = refl; moved = refl; sealed = refl; inners = refl; new_leaves = refl; new_inners = refl; shuts = refl };
      locks = record { role = refl; ways = refl; took = refl; gone = refl; touched = refl; blamed = refl; locks = refl };
      still = refl;
      effect = refl;
      allowed = ap (λ y. holder_is p (header_of d y)) (sym can.slot) ∙ (ap (holder_is p) a.is.locked ∙ eq-eqb p p refl);
      lets = refl;
      within = within;
      known = subst (λ y. IsKnown d y) can.slot a.known;
      fence = a.is.fence;
      there = ap s.trees (sym can.slot) ∙ a.is.there;
      leaf = ap (page_of d) (sym can.slot) ∙ (a.is.leaf ∙ ap Leaf (sym a.is.keys));
      word = can.word ∙ ap (λ (q : List Key). open_word (length q)) (sym a.is.keys);
      records = subst (λ y. SaysRecords l words s y a.is.fence) can.slot a.records;
    } in
    let leaf : LeafStep l words words' s s.story e s.trees t 0 =
    turn_leaf laws l words views s id v active b t (λ _. word) (OpenHeader t None) Free w turn wr in
    header_stride laws l words views s id v active b t (λ _. word) (OpenHeader t None) Free w
    (λ v _ w. w ≡ head_opened t at word v) turn wr
    (met_word l v t sp v.reads at word (kept_at v.reads at) can.page (λ x has. inl has) 0 (omega arith) refl)
    (λ z old. known_step laws l words words' views s id v active b s.story e s.trees t 0 leaf w z (b.pages.treed.known z old))
    (λ z old.
    let o = at_others (λ (y : Head). y.slot) t v.heads z old in
    head_step laws l words words' views s id v active b s.story e s.trees t 0 leaf w z o.1
    (b.pages.treed.heads p (is_at v.role active) z o.0))
    refl)
