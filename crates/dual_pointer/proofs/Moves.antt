-- A leaf is put in by a compare_exchange of a pointer: its keys move from the snapshot page to its places.
use Rattle.std.proofs.Common.{◌≡◌, inl, inr, ℕ, zero, suc, ◌+◌, ◌-◌, ◌<◌, ◌≤◌, Bool, true, false, cond, eqb, eqb-true, eq-eqb, ne_eqb, leb, not, List, [], ◌∷◌, filter, refl, sym, ap, ◌∙◌, arith, Option, Some, None}
use Rattle.std.specs.Prelude.{◌&&◌, ◌||◌, is_none}
use Rattle.std.specs.List.{list_all}
use Rattle.std.proofs.lemmas.Bool.{and_from, and_parts, cases_Bool}
use Rattle.std.proofs.lemmas.Bool.Decides.{nat_tests}
use Rattle.serial_model.specs.declared.key.Key.{Key}
use Rattle.homes.specs.declared.places.Content.{Content}
use Rattle.homes.specs.declared.places.Holder.TheVariants.{Free}
use Rattle.homes.specs.declared.places.Home.{Home}
use Rattle.homes.specs.declared.places.Home.TheVariants.{InSlot, InPage, Nowhere}
use Rattle.homes.specs.declared.places.Span.{Span}
use Rattle.homes.specs.declared.places.Spot.{Spot}
use Rattle.homes.specs.Homes.{same_spot, same_content, same_value, same_home, same_key, has_key, in_span, is_free, moves_to}
use Rattle.homes.specs.Laws.{same_spot-true}
use Rattle.commit_core.specs.declared.place.Place.{Place}
use Rattle.commit_core.specs.declared.seat.Seat.{Seat}
use Rattle.commit_core.specs.declared.seat.Stage.{Stage}
use Rattle.commit_core.specs.declared.seat.Stage.TheVariants.{Idle}
use Rattle.commit_core.specs.declared.story.Story.{Story}
use Rattle.commit_core.specs.CoreState.{settled, settled_at}
use Rattle.commit_core.specs.Keys.{nothing}
use Rattle.commit_core.specs.Moves.{is_spot, is_nobodys, is_movable, may_go_for, is_below_all, can_move, can_rehome, are_apart}
use Rattle.commit_core.specs.Places.{place_of, home_of, stands, stands_at, spot_of, spot_at}
use Rattle.drop_core.specs.declared.table.SnapPage.{SnapPage}
use Rattle.drop_core.specs.declared.table.SnapPage.TheVariants.{Missing, Entries, Children}
use Rattle.drop_core.specs.declared.table.Table.{Table}
use Rattle.drop_core.specs.Event.{is_leaf_for, each_once, leaves_none_out, is_left_in, keys_pass, page_keys_pass, entries_pass}
use Rattle.drop_core.specs.Table.{snap_of, snap_home, snap_walk, snap_step, entry_home, child_of, leaf_home}
use Rattle.engine_rule.specs.Pairs.{page_content}
use Rattle.engine_pages.specs.Pages.{keys_from}
use Rattle.engine_pages.specs.Words.{spot}
use Rattle.dual_pointer.proofs.Rows.{key_of, has_from, home_from}
use Rattle.dual_pointer.proofs.Rows.{apart_rows, each_move}

-- ---- the keys of a leaf are those of its span, each once

in_row : (id low n k : ℕ) → low ≤ k → k < low + n → has_key (keys_from id low n) (key_of id k) ≡ true
in_row id low n k from to =
    let same : low + (k - low) ≡ k = omega arith in
    ap (λ i. has_key (keys_from id low n) (key_of id i)) (sym same) ∙ has_from id low n (k - low) (omega arith)

-- a key of the span is in the leaf
span_keys : (sp : Span) (k : Key) → sp.high ≡ sp.low + 31 → in_span sp k ≡ true → has_key (keys_from sp.storage sp.low 32) k ≡ true
span_keys sp k exact within =
    let parts = and_parts (eqb k.storage sp.storage) (leb sp.low k.key && leb k.key sp.high) within in
    let ends = and_parts (leb sp.low k.key) (leb k.key sp.high) parts.1 in
    let storage : k.storage ≡ sp.storage = eqb-true k.storage sp.storage parts.0 in
    let low : sp.low ≤ k.key = let a = ends.0 in grind (arith, nat_tests) in
    let high : k.key ≤ sp.high = let a = ends.1 in grind (arith, nat_tests) in
    let is : k ≡ key_of sp.storage k.key = ap (λ (i : ℕ). let z : Key = record { storage = i; key = k.key } in z) storage in
    ap (has_key (keys_from sp.storage sp.low 32)) is ∙ in_row sp.storage sp.low 32 k.key low (omega arith)

not_in_row : (id low n k : ℕ) → k < low → has_key (keys_from id low n) (key_of id k) ≡ false
not_in_row id low zero k less = refl
not_in_row id low (suc n) k less =
    ap (λ (c : Bool). (eqb id id && c) || has_key (keys_from id (low + 1) n) (key_of id k)) (ne_eqb low k (λ e. absurd (omega arith)))
    ∙ (ap (λ (c : Bool). (c && false) || has_key (keys_from id (low + 1) n) (key_of id k)) (eq-eqb id id refl)
    ∙ not_in_row id (low + 1) n k (omega arith))

once_row : (id low n : ℕ) → each_once (keys_from id low n) ≡ true
once_row id low zero = refl
once_row id low (suc n) =
    and_from (not (has_key (keys_from id (low + 1) n) (key_of id low))) (each_once (keys_from id (low + 1) n))
    (ap not (not_in_row id (low + 1) n low (omega arith))) (once_row id (low + 1) n)

all_in : (sp : Span) (low n : ℕ) → sp.low ≤ low → low + n ≤ sp.high + 1 → list_all (λ k. in_span sp k) (keys_from sp.storage low n) ≡ true
all_in sp low zero from to = refl
all_in sp low (suc n) from to =
    and_from (in_span sp (key_of sp.storage low)) (list_all (λ k. in_span sp k) (keys_from sp.storage (low + 1) n))
    (and_from (eqb sp.storage sp.storage) (leb sp.low low && leb low sp.high) (eq-eqb sp.storage sp.storage refl)
    (and_from (leb sp.low low) (leb low sp.high) (grind (arith, nat_tests)) (grind (arith, nat_tests))))
    (all_in sp (low + 1) n (omega arith) (omega arith))

-- the leaf leaves no key of its span out
pub pass_all : (test : Key → Bool) → ((k : Key) → test k ≡ true) → (snaps : List (ℕ × SnapPage)) → keys_pass test snaps ≡ true
pass_all test each [] = refl
pass_all test each (e ∷ more) =
    and_from (page_keys_pass test e.1) (keys_pass test more) (by_page e.1) (pass_all test each more)
  where
    entries : (list : List (Key × Content)) → entries_pass test list ≡ true
    entries [] = refl
    entries (x ∷ xs) = and_from (test x.0) (entries_pass test xs) (each x.0) (entries xs)

    by_page : (page : SnapPage) → page_keys_pass test page ≡ true
    by_page Missing = refl
    by_page (Entries sp list) = entries list
    by_page (Children sp list) = refl

pub leaf_stands : (d : Table) (n : ℕ) (sp : Span) → sp.high ≡ sp.low + 31
    → is_leaf_for d n sp (keys_from sp.storage sp.low 32) ≡ true
leaf_stands d n sp exact =
    let keys = keys_from sp.storage sp.low 32 in
    and_from (each_once keys) (list_all (λ k. in_span sp k) keys && leaves_none_out d n sp keys) (once_row sp.storage sp.low 32)
    (and_from (list_all (λ k. in_span sp k) keys) (leaves_none_out d n sp keys) (all_in sp sp.low 32 (omega arith) (omega arith))
    (pass_all (is_left_in d n sp keys) (λ k. left_out k) d.snaps))
  where
    left_out : (k : Key) → is_left_in d n sp (keys_from sp.storage sp.low 32) k ≡ true
    left_out k = elim (cases_Bool (in_span sp k)) [
      | inl within ↦
          ap (λ (c : Bool). not (in_span sp k) || (c || same_home (snap_home d n k) Nowhere)) (span_keys sp k exact within)
          ∙ by_test (not (in_span sp k))
      | inr out ↦ ap (λ (c : Bool). not c || (has_key (keys_from sp.storage sp.low 32) k || same_home (snap_home d n k) Nowhere)) out
    ]
      where
        by_test : (c : Bool) → (c || true) ≡ true
        by_test true = refl
        by_test false = refl

-- ---- contents are the same

pub content-self : (c : Content) → same_content c c ≡ true
content-self c =
    and_from (eqb c.number.epoch c.number.epoch) (eqb c.number.draw c.number.draw && same_value c.value c.value)
    (eq-eqb c.number.epoch c.number.epoch refl)
    (and_from (eqb c.number.draw c.number.draw) (same_value c.value c.value) (eq-eqb c.number.draw c.number.draw refl) (by_value c.value))
  where
    by_value : (o : Option ℕ) → same_value o o ≡ true
    by_value None = refl
    by_value (Some x) = eq-eqb x x refl

-- a snapshot page gives no home in a slot
no_spot : (f : ℕ) (snaps : ℕ → SnapPage) (n : ℕ) (k : Key) → spot_of (snap_walk f snaps n k) ≡ None
unfolding snap_walk
no_spot zero snaps n k = refl
no_spot (suc f) snaps n k = by_page (snaps n) (λ m. no_spot f snaps m k)
  where
    by_entries : (list : List (Key × Content)) → spot_of (entry_home n list k) ≡ None
    by_entries [] = refl
    by_entries (e ∷ more) = by_test (same_key e.0 k) (by_entries more)
      where
        by_test : (c : Bool) → spot_of (entry_home n more k) ≡ None → spot_of (cond c (InPage n e.1) (entry_home n more k)) ≡ None
        by_test true rest = refl
        by_test false rest = rest

    by_page : (page : SnapPage) → ((m : ℕ) → spot_of (snap_walk f snaps m k) ≡ None)
        → spot_of (snap_step (λ m q. snap_walk f snaps m q) n k page) ≡ None
    by_page Missing down = refl
    by_page (Entries sp list) down = by_entries list
    by_page (Children sp list) down = down (child_of list k)

pub snap_unspotted : (d : Table) (n : ℕ) (k : Key) → spot_of (snap_home d n k) ≡ None
snap_unspotted d n k = no_spot n (snap_of d) n k

-- what stands at such a home
pub stands_free : (places : List (Spot × Place)) (h : Home) → spot_of h ≡ None
    → stands_at places h ≡ record { content = page_content h; holder = Free }
stands_free places (InSlot x) none = absurd (cc)
stands_free places (InPage n c) none = refl
stands_free places Nowhere none = refl

-- no key has its home at a spot
pub nobodys : (homes : List (Key × Home)) (x : Spot) → ((k : Key) → home_of homes k ≡ InSlot x → ⊥) → is_nobodys homes (Some x) ≡ true
nobodys homes x none = each homes
  where
    miss : (k : Key) (h : Home) → home_of homes k ≡ h → not (is_spot x (spot_of h)) ≡ true
    miss k (InSlot y) e = elim (cases_Bool (same_spot x y)) [
      | inl hit ↦ absurd (none k (e ∙ ap InSlot (sym (same_spot-true x y hit))))
      | inr other ↦ ap not other
    ]
    miss k (InPage n c) e = refl
    miss k Nowhere e = refl

    each : (list : List (Key × Home)) → list_all (λ e. not (is_spot x (spot_at homes e.0))) list ≡ true
    each [] = refl
    each (e ∷ more) =
        and_from (not (is_spot x (spot_at homes e.0))) (list_all (λ e. not (is_spot x (spot_at homes e.0))) more)
        (miss e.0 (home_of homes e.0) refl) (each more)

-- ---- the seat stays

-- a seat without locks and attempt comes to nothing else
pub idle_settled : (s : Seat) (f : Key → Bool) → s.locks ≡ [] → s.stage ≡ Idle
    → settled (record s { locks = filter f s.locks }) ≡ s
idle_settled s f locks stage =
    ap (λ (ls : List Key). settled (record s { locks = filter f ls })) locks
    ∙ (ap (λ (g : Stage). settled_at g (record s { locks = [] })) stage
    ∙ ap (λ (ls : List Key). let z : Seat = record s { locks = ls } in z) (sym locks))

-- ---- the moves may be made

-- what is known of the keys of a leaf that is to be put in
pub record CanMoveIn (m : Story) (d : Table) (t : ℕ) (sp : Span) (n : ℕ) : Type 0 where
  pub homes : (k : Key) → in_span sp k ≡ true → home_of m.homes k ≡ snap_home d n k
  pub places : (i : ℕ) → i < 32
      → place_of m.places (spot t i) ≡ record { content = page_content (snap_home d n (key_of sp.storage (sp.low + i))); holder = Free }
  pub nobody : (k : Key) (i : ℕ) → home_of m.homes k ≡ InSlot (spot t i) → ⊥

pub may_move_in : (p : ℕ) (begins : Bool) (m : Story) (d : Table) (t : ℕ) (sp : Span) (n : ℕ) → sp.high ≡ sp.low + 31
    → CanMoveIn m d t sp n
    → can_rehome p begins m (moves_to (leaf_home t 0 (keys_from sp.storage sp.low 32)) (keys_from sp.storage sp.low 32)) ≡ true
may_move_in p begins m d t sp n exact can =
    let keys = keys_from sp.storage sp.low 32 in
    let to : Key → Home = leaf_home t 0 keys in
    and_from (are_apart (moves_to to keys)) (list_all (can_move p begins m) (moves_to to keys))
    (apart_rows to t 0 sp.storage sp.low 32 (λ i few. home_from t 0 sp.storage sp.low 32 i few))
    (each_move (can_move p begins m) to sp.storage sp.low 32 (λ i few. one i few))
  where
    plus : (i : ℕ) → 0 + i ≡ i
    plus i = omega arith

    one : (i : ℕ) → i < 32
        → can_move p begins m (record { key = key_of sp.storage (sp.low + i); home = leaf_home t 0 (keys_from sp.storage sp.low 32) (key_of sp.storage (sp.low + i)) }) ≡ true
    one i few =
        let k = key_of sp.storage (sp.low + i) in
        let to-is : leaf_home t 0 (keys_from sp.storage sp.low 32) k ≡ InSlot (spot t i) =
        home_from t 0 sp.storage sp.low 32 i few ∙ ap (λ j. InSlot (spot t j)) (plus i) in
        let within : in_span sp k ≡ true =
        and_from (eqb sp.storage sp.storage) (leb sp.low (sp.low + i) && leb (sp.low + i) sp.high) (eq-eqb sp.storage sp.storage refl)
        (and_from (leb sp.low (sp.low + i)) (leb (sp.low + i) sp.high) (grind (arith, nat_tests)) (grind (arith, nat_tests))) in
        let home = can.homes k within in
        let old : stands m.places m.homes k ≡ record { content = page_content (snap_home d n k); holder = Free } =
        ap (stands_at m.places) home ∙ stands_free m.places (snap_home d n k) (snap_unspotted d n k) in
        let new = can.places i few in
        ap (λ (h : Home). can_move p begins m (record { key = k; home = h })) to-is
        ∙ and_from (is_movable p begins (stands m.places m.homes k).holder)
        (is_free (place_of m.places (spot t i)).holder
        && (is_nobodys m.homes (Some (spot t i)) && may_go_for m (place_of m.places (spot t i)).content (stands m.places m.homes k).content))
        (ap (λ (q : Place). is_movable p begins q.holder) old)
        (and_from (is_free (place_of m.places (spot t i)).holder)
        (is_nobodys m.homes (Some (spot t i)) && may_go_for m (place_of m.places (spot t i)).content (stands m.places m.homes k).content)
        (ap (λ (q : Place). is_free q.holder) new)
        (and_from (is_nobodys m.homes (Some (spot t i))) (may_go_for m (place_of m.places (spot t i)).content (stands m.places m.homes k).content)
        (nobodys m.homes (spot t i) (λ q e. can.nobody q i e))
        (ap (λ (q : Place). may_go_for m q.content (stands m.places m.homes k).content) new
        ∙ (ap (λ (q : Place). may_go_for m (page_content (snap_home d n k)) q.content) old
        ∙ ap (λ (c : Bool). c || (same_content (page_content (snap_home d n k)) nothing && (is_none (page_content (snap_home d n k)).value && is_below_all m.history m.decided m.given_up (page_content (snap_home d n k)).number)))
        (content-self (page_content (snap_home d n k)))))))
