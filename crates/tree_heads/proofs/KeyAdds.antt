-- A header is opened with one key more: the key's record is set and the key moves there, in one step.
use Rattle.std.proofs.Common.{◌≡◌, ◌≢◌, ◌⊎◌, inl, inr, ℕ, zero, suc, ◌+◌, ◌*◌, ◌<◌, ◌≤◌, Bool, true, false, true≢false, cond, eqb, eqb-true, eq-eqb}
use Rattle.std.proofs.Common.{ne_eqb, ltb, not, List, [], ◌∷◌, ◌++◌, length, get_or, set, refl, sym, ap, ◌∙◌, subst, arith, Option, Some, None}
use Rattle.std.specs.Prelude.{◌&&◌, ◌||◌, filter, if◌then◌else◌, nat_le}
use Rattle.std.specs.List.{Contains, slice_get, list_all}
use Rattle.std.proofs.lemmas.Bool.{and_from, and_parts, or_right}
use Rattle.std.proofs.lemmas.Bool.Decides.{nat_tests}
use Rattle.std.proofs.lemmas.Option.{slice_get_within}
use Rattle.lists.specs.Elements.{in_cases, in_push_cases, in_filter}
use Rattle.lists.specs.Fronts.{IsFront, front_refl, front_append}
use Rattle.atomic_table.specs.Table.{Me, Allows}
use Rattle.serial_model.specs.declared.decl.Decl.{Decl}
use Rattle.serial_model.specs.declared.key.Key.{Key}
use Rattle.serial_model.specs.declared.number.Number.{Number}
use Rattle.homes.specs.declared.places.Content.{Content}
use Rattle.homes.specs.declared.places.Holder.{Holder}
use Rattle.homes.specs.declared.places.Holder.TheVariants.{Free, Held}
use Rattle.homes.specs.declared.places.Home.{Home}
use Rattle.homes.specs.declared.places.Home.TheVariants.{InSlot, InPage, Nowhere}
use Rattle.homes.specs.declared.places.Move.{Move}
use Rattle.homes.specs.declared.places.Span.{Span}
use Rattle.homes.specs.declared.places.Spot.{Spot}
use Rattle.homes.specs.Homes.{same_key, same_spot, has_key, in_span, is_free, holder_is}
use Rattle.homes.specs.Laws.{same_key-self, same_key-true, same_spot-self, same_spot-true}
use Rattle.wire_form.specs.Leaves.{tree_leaf, word_in}
use Rattle.wire_form.specs.Words.{absent_field, number_word}
use Rattle.commit_core.specs.declared.attempt.Attempt.{Attempt}
use Rattle.commit_core.specs.declared.event.Act.TheVariants.{Keep}
use Rattle.commit_core.specs.declared.part.Part.{Part}
use Rattle.commit_core.specs.declared.part.Version.{Version}
use Rattle.commit_core.specs.declared.part.Version.TheVariants.{Numbered, Leads, Counted}
use Rattle.commit_core.specs.declared.part.Word.TheVariants.{Record, Header}
use Rattle.commit_core.specs.declared.place.Place.{Place}
use Rattle.commit_core.specs.declared.seat.Seat.{Seat}
use Rattle.commit_core.specs.declared.story.Story.{Story}
use Rattle.commit_core.specs.CoreState.{can_begin, is_trying}
use Rattle.commit_core.specs.Event.{Moved as Left, effect as commit_effect, seen_at}
use Rattle.commit_core.specs.Fill.{filled}
use Rattle.commit_core.specs.Keys.{nothing, opening_number, IsUpTo}
use Rattle.commit_core.specs.Moves.{is_spot, is_nobodys, is_movable, may_go_for, are_apart, can_move, moves_key, can_rehome, with_moves}
use Rattle.commit_core.specs.Parts.{record_part, same_word, with_part}
use Rattle.commit_core.specs.Places.{place, place_of, home_of, stands, stands_at, spot_of, spot_at}
use Rattle.drop_core.specs.declared.grip.Grip.{Grip}
use Rattle.drop_core.specs.declared.table.Led.{Led}
use Rattle.drop_core.specs.declared.table.Led.TheVariants.{Never, From, Away}
use Rattle.drop_core.specs.declared.table.Page.{Page}
use Rattle.drop_core.specs.declared.table.Page.TheVariants.{Leaf}
use Rattle.drop_core.specs.declared.table.Table.{Table}
use Rattle.drop_core.specs.Event.{is_allowed as page_allows, effect as page_effect, moves, leaf_keys, slot_span, led_span, each_once}
use Rattle.drop_core.specs.Event.{takes_key, with_key, grown}
use Rattle.drop_core.specs.Law.{IsMade}
use Rattle.drop_core.specs.Table.{slot_of, page_of, header_of, has_slot, is_led, is_never}
use Rattle.engine_rule.specs.declared.event.JointAct.TheVariants.{AddRecord, AddKey}
use Rattle.engine_rule.specs.Event.{Joined, joined, opening_with, and_seen, renewed, after_key, after_moves, may_move}
use Rattle.engine_rule.specs.JointState.{header_part, keeps_header_at}
use Rattle.engine_rule.specs.Sound.{IsSound, HasRecords}
use Rattle.engine_rule.specs.Stays.{IsPlaceOf, Stays}
use Rattle.engine_pages.specs.declared.layout.Layout.{Layout}
use Rattle.engine_pages.specs.declared.view.Head.{Head}
use Rattle.engine_pages.specs.declared.view.Role.{Role}
use Rattle.engine_pages.specs.declared.view.Role.TheVariants.{Keeper, Worker, Note, Spent}
use Rattle.engine_pages.specs.declared.view.Took.{Took}
use Rattle.engine_pages.specs.declared.view.View.{View}
use Rattle.engine_pages.specs.Agreement.{TreesAgree}
use Rattle.engine_pages.specs.Layout.{page_at}
use Rattle.engine_pages.specs.Pages.{Fenced, decl_of, is_array, is_tree}
use Rattle.engine_pages.specs.Pointers.{one_kind}
use Rattle.engine_pages.specs.Rule.{Shared, Fits, all_seats, joint_of, Shows, IsKnownLeaf, IsHeld, IsBitAt, KeptAreRecords, KeptIsLow}
use Rattle.engine_pages.specs.Rule.{is_spare}
use Rattle.engine_pages.specs.Stays.{IsKnown, TreesStay}
use Rattle.engine_pages.specs.Steps.{kept_at, noted}
use Rattle.engine_pages.specs.Views.{IsActive, seat_number}
use Rattle.engine_pages.specs.Words.{IsOverwritten, ShowsKeyed, head_word, lock_field, spot}
use Rattle.engine_pages.proofs.Agreeing.{agreed}
use Rattle.engine_pages.proofs.EachSeat.{at_seat}
use Rattle.engine_pages.proofs.Joint.{Acted, Laws, effect_of, may_do, joint_act, shared_now}
use Rattle.engine_pages.proofs.OwnView.{own_fits}
use Rattle.engine_pages.proofs.Records.{fill_joint}
use Rattle.engine_pages.proofs.Seats.{by_equal, is_at, put_seat, put_same, put_other, home_placed, kept_placed}
use Rattle.engine_pages.proofs.Slotlists.{at_others}
use Rattle.engine_pages.proofs.Turns.{Begins, Stride, Written, allows_at, written}
use Rattle.views.specs.ByNumber.{put_at}
use Rattle.dual_pointer.proofs.Moves.{idle_settled, nobodys}
use Rattle.dual_pointer.proofs.Rows.{buried_none}
use Rattle.tree_heads.specs.Headers.{open_word}
use Rattle.tree_heads.specs.Heads.{CanAdd, HasAdded, absent_word, kept_on, key_added}
use Rattle.tree_heads.specs.Keeps.{head_part}
use Rattle.tree_heads.proofs.HeaderKeeps.{records_headed, low_headed}
use Rattle.tree_heads.proofs.HeadSteps.{head_stride, spare_high}
use Rattle.tree_heads.proofs.LeafHomes.{absent_home}
use Rattle.tree_heads.proofs.LeafSteps.{LeafStep, head_step, known_step, met_word}
use Rattle.tree_heads.proofs.TreeAt.{AtHead, AtTree, SaysOf, SaysRecordsOf, at_head, at_tree, some_fence, span_is}

-- ---- small laws

-- a worker's seat isn't the keeper's
pub not_keeper : (role : Role) → IsActive role → (role ≡ Keeper → ⊥) → seat_number role ≡ 0 → ⊥
not_keeper Keeper active worker none = worker refl
not_keeper (Worker w) active worker none = absurd (omega (arith, none))
not_keeper Note active worker none = active
not_keeper Spent active worker none = active

-- a new key is there once
once_push : (keys : List Key) (k : Key) → each_once keys ≡ true → has_key keys k ≡ false → each_once (keys ++ k ∷ []) ≡ true
once_push [] k once new = refl
once_push (q ∷ keys) k once new =
    let both = and_parts (not (has_key keys q)) (each_once keys) once in
    let parts = or_none (same_key q k) (has_key keys k) new in
    and_from (not (has_key (keys ++ k ∷ []) q)) (each_once (keys ++ k ∷ []))
    (ap not (push_none keys (not_none (has_key keys q) both.0)))
    (once_push keys k both.1 parts.1)
  where
    not_none : (c : Bool) → not c ≡ true → c ≡ false
    not_none true e = absurd (true≢false (sym e))
    not_none false e = refl

    or_none : (a c : Bool) → (a || c) ≡ false → (a ≡ false) × (c ≡ false)
    or_none true c e = absurd (true≢false e)
    or_none false c e = (refl, e)

    turned_key : same_key k q ≡ false
    turned_key = by (same_key k q) refl
      where
        by : (c : Bool) → same_key k q ≡ c → c ≡ false
        by true hit =
            let same : k ≡ q = same_key-true k q hit in
            let here : same_key q k ≡ true = ap (λ y. same_key y k) (sym same) ∙ same_key-self k in
            absurd (true≢false (sym here ∙ (or_none (same_key q k) (has_key keys k) new).0))
        by false miss = refl

    push_none : (list : List Key) → has_key list q ≡ false → has_key (list ++ k ∷ []) q ≡ false
    push_none [] none = ap (λ c. c || false) turned_key
    push_none (y ∷ list) none =
        let parts = or_none (same_key y q) (has_key list q) none in
        ap (λ c. c || has_key (list ++ k ∷ []) q) parts.0 ∙ push_none list parts.1

-- a key of a list with one more is one of the list, or that one
has_push : (keys : List Key) (k q : Key) → has_key (keys ++ k ∷ []) q ≡ true → (has_key keys q ≡ true) ⊎ (k ≡ q)
has_push [] k q has = inr (same_key-true k q (one (same_key k q) has))
  where
    one : (c : Bool) → (c || false) ≡ true → c ≡ true
    one true e = refl
    one false e = e
has_push (y ∷ keys) k q has = by_test (same_key y q) refl (λ rest. has_push keys k q rest)
  where
    by_test : (c : Bool) → same_key y q ≡ c → (has_key (keys ++ k ∷ []) q ≡ true → (has_key keys q ≡ true) ⊎ (k ≡ q))
        → ((same_key y q || has_key keys q) ≡ true) ⊎ (k ≡ q)
    by_test true hit rest = inl (ap (λ c. c || has_key keys q) hit)
    by_test false miss rest = elim (rest (sym (ap (λ c. c || has_key (keys ++ k ∷ []) q) miss) ∙ has)) [
      | inl old ↦ inl (or_right (same_key y q) (has_key keys q) old)
      | inr new ↦ inr new
    ]

length_push : (keys : List Key) (k : Key) → length (keys ++ k ∷ []) ≡ length keys + 1
length_push [] k = refl
length_push (q ∷ keys) k = let rest = length_push keys k in omega (arith, rest)

-- what stands last in a list with one item more
push_cases : (keys : List Key) (k q : Key) (i : ℕ) → slice_get (keys ++ k ∷ []) i ≡ Some q
    → (slice_get keys i ≡ Some q) ⊎ ((i ≡ length keys) × (q ≡ k))
push_cases [] k q zero e = inr (refl, (cc))
push_cases [] k q (suc i) e = absurd (cc)
push_cases (y ∷ keys) k q zero e = inl e
push_cases (y ∷ keys) k q (suc i) e = elim (push_cases keys k q i e) [
  | inl old ↦ inl old
  | inr new ↦ inr (ap suc new.0, new.1)
]

records_added : (decls : List Decl) (opening : List (Key × Content)) (history : List Attempt) (kept : List Part) (k : Key)
    (x : Spot) → is_array decls k.storage ≡ false → KeptAreRecords decls opening history kept
    → KeptAreRecords decls opening history (with_part kept (record_part k x nothing))
records_added decls opening history kept k x tree records part has =
    elim (in_push_cases part (record_part k x nothing) (filter (λ p. not (same_word p.word (Record x))) kept) has) [
      | inl old ↦ records part (in_filter (λ (p : Part). not (same_word p.word (Record x))) part kept old)
      | inr new ↦ inl (k, x, nothing, sym new, inl (refl, tree))
    ]

-- no number is below that of nothing
least : (n : Number) → IsUpTo opening_number n
least n = by_parts n.epoch refl n.draw refl
  where
    by_parts : (a : ℕ) → n.epoch ≡ a → (c : ℕ) → n.draw ≡ c → IsUpTo opening_number n
    by_parts (suc a) epoch c draw = inr (inl (omega arith))
    by_parts zero epoch (suc c) draw = inr (inr (sym epoch, (omega arith)))
    by_parts zero epoch zero draw =
        inl
        (ap (λ i. let q : Number = record { epoch = i; draw = 0 } in q) (sym epoch)
        ∙ ap (λ i. let q : Number = record { epoch = n.epoch; draw = i } in q) (sym draw))

low_added : (places : List (Spot × Place)) (kept : List Part) (k : Key) (x : Spot) → KeptIsLow places kept
    → KeptIsLow places (with_part kept (record_part k x nothing))
low_added places kept k x low q y c has =
    elim (in_push_cases (record_part q y c) (record_part k x nothing) (filter (λ p. not (same_word p.word (Record x))) kept) has) [
      | inl old ↦ low q y c (in_filter (λ (p : Part). not (same_word p.word (Record x))) (record_part q y c) kept old)
      | inr new ↦
          subst (λ (n : Number). IsUpTo n (place_of places y).content.number)
          (ap (λ (p : Part). number_of p.version) new) (least (place_of places y).content.number)
    ]
  where
    number_of : Version → Number
    number_of (Numbered n there) = n
    number_of (Leads i) = opening_number
    number_of (Counted i) = opening_number

-- ---- the step

module _ (laws : Laws) (l : Layout) (words : List ℕ) (views : List View) (s : Shared) (id : ℕ) (v : View)
    (active : IsActive v.role) (b : Begins l words views s id v) (t : ℕ) (sp : Span) (k : Key) (y : ℕ) (can : CanAdd v t sp k y)
    (here : can.head.slot ≡ t) where
  abbrev x : Head
  x = can.head

  abbrev p : ℕ
  p = seat_number v.role

  abbrev d : Table
  d = s.table

  abbrev m : Story
  m = s.story

  abbrev g : Grip
  g = s.grips p

  worker : p ≡ 0 → ⊥
  worker = not_keeper v.role active can.worker

  head : AtHead l words s v x
  head = at_head l words views s id v x active b can.has

  page : AtTree l words s v t sp
  page = at_tree l words views s id v b t sp can.page

  abbrev old : Fenced
  old = head.is.fence

  locked : header_of d t ≡ Held p
  locked = ap (header_of d) (sym here) ∙ head.is.locked

  laid : page_of d t ≡ Leaf x.keys
  laid = ap (page_of d) (sym here) ∙ head.is.leaf

  there : s.trees t ≡ Some old
  there = ap s.trees (sym here) ∙ head.is.there

  known : IsKnown d t
  known = page.known

  within : t < l.slots
  within = page.within

  same-span : old.span ≡ sp
  same-span = ap (λ (f : Fenced). f.span) (some_fence old page.fence (sym there ∙ page.there)) ∙ page.span

  abbrev nn : ℕ
  nn = length (leaf_keys (page_of d t))

  count : nn ≡ length x.keys
  count = ap (λ (y : Page). length (leaf_keys y)) laid

  abbrev z : Spot
  z = spot t nn

  abbrev m1 : Story
  m1 = filled z nothing m

  abbrev mv : List Move
  mv = moves d (opening_with t k)

  abbrev n : Story
  n = with_moves m1 mv

  abbrev e : Table
  e = grown d t k

  abbrev fence : Fenced
  fence = record { span = old.span; keys = old.keys ++ k ∷ [] }

  abbrev trees : ℕ → Option Fenced
  trees = put_at s.trees t (Some fence)

  abbrev at : ℕ
  at = page_at l.slots t 0

  abbrev w : View
  w = key_added t sp x.keys k at y v

  abbrev words' : List ℕ
  words' = set words at y

  abbrev new : Shared
  new = shared_now s p n e trees s.resident w

  -- ---- it may happen

  led : is_led (slot_of d t).led ≡ true
  led = subst (λ u. is_led (slot_of d u).led ≡ true) here head.led

  span-is : slot_span d t ≡ sp
  span-is = span_is l words views s id v b t old there led ∙ same-span

  takes : takes_key (slot_span d t) k (page_of d t) ≡ true
  takes =
      ap (λ (q : Page). takes_key (slot_span d t) k q) laid
      ∙ (ap (λ (q : Span). takes_key q k (Leaf x.keys)) span-is
      ∙ and_from (in_span sp k) (not (has_key x.keys k) && ltb (length x.keys) 16) can.inside
      (and_from (not (has_key x.keys k)) (ltb (length x.keys) 16) (ap not can.new) (let few = can.few in grind (arith, nat_tests))))

  opens : page_allows p d g (opening_with t k) ≡ true
  opens =
      and_from (not (eqb p 0)) (holder_is p (header_of d t) && takes_key (slot_span d t) k (page_of d t)) (ap not (ne_eqb p 0 worker))
      (and_from (holder_is p (header_of d t)) (takes_key (slot_span d t) k (page_of d t)) (ap (holder_is p) locked ∙ eq-eqb p p refl) takes)

  abbrev s1 : Shared
  s1 = record s { story = m1 }

  filled-so : IsSound (joint_of l s1)
  filled-so = fill_joint l s p m1 d (joint_act laws l s p (AddRecord t k) b.few opens b.sound.joint).sound

  -- no record of the page is there
  apart : (q : Spot) → IsPlaceOf d q → q ≢ z
  apart q of same =
      let there = subst (λ (q : Spot). HasRecords (page_of d q.slot) (q.index + 1)) same of.there in
      elim there [
        | inl split ↦ let leaf = laid in absurd (cc)
        | inr keys ↦
            let low : nn + 1 ≤ length keys.0 = keys.2 in
            let is : nn ≡ length keys.0 = ap (λ (q : Page). length (leaf_keys q)) keys.1 in absurd (omega arith)
      ]

  place-kept : (q : Spot) → q ≢ z → place_of m1.places q ≡ place_of m.places q
  place-kept q other = by_test (same_spot z q) refl
    where
      by_test : (c : Bool) → same_spot z q ≡ c → place_of m1.places q ≡ place_of m.places q
      by_test true hit = absurd (other (sym (same_spot-true z q hit)))
      by_test false miss = ap (λ c. cond c (place nothing Free) (place_of m.places q)) miss

  place-new : place_of m1.places z ≡ place nothing Free
  place-new = ap (λ c. cond c (place nothing Free) (place_of m.places z)) (same_spot-self z)

  home-none : home_of m.homes k ≡ Nowhere
  home-none =
      absent_home l words views s id v b t old x.keys there led laid k
      (ap (λ (q : Span). in_span q k) same-span ∙ can.inside) can.new

  nobody : (q : Key) → home_of m.homes q ≡ InSlot z → ⊥
  nobody q home = apart z (home_placed l s q z b.sound.joint home) refl

  abbrev v0 : Move
  v0 = record { key = k; home = InSlot z }

  moving : can_rehome p (can_begin (s.seats p).stage) m1 mv ≡ true
  moving =
      let begins = can_begin (s.seats p).stage in
      let movable = is_movable p begins (stands m1.places m1.homes k).holder in
      let free = is_free (stands_at m1.places (InSlot z)).holder in
      let none = is_nobodys m1.homes (Some z) in
      let goes = may_go_for m1 (stands_at m1.places (InSlot z)).content (stands m1.places m1.homes k).content in
      and_from (are_apart mv) (list_all (can_move p begins m1) mv) refl
      (and_from (can_move p begins m1 v0) true
      (and_from movable (free && (none && goes)) (ap (λ h. is_movable p begins (stands_at m1.places h).holder) home-none)
      (and_from free (none && goes) (ap (λ (q : Place). is_free q.holder) place-new)
      (and_from none goes (nobodys m.homes z nobody)
      (ap (λ (q : Place). may_go_for m1 q.content (stands m1.places m1.homes k).content) place-new
      ∙ ap (λ h. may_go_for m1 nothing (stands_at m1.places h).content) home-none)))) refl)

  places-are : n.places ≡ m1.places
  places-are = buried_none mv m1.homes m1.places (λ q. ap (λ h. is_spot q (spot_of h) || false) home-none)

  place-stays : (q : Spot) → q ≢ z → place_of n.places q ≡ place_of m.places q
  place-stays q other = ap (λ list. place_of list q) places-are ∙ place-kept q other

  place-there : place_of n.places z ≡ place nothing Free
  place-there = ap (λ list. place_of list z) places-are ∙ place-new

  idle-now : is_trying (s.seats p).stage ≡ false
  idle-now = ap (λ (q : Seat). is_trying q.stage) (sym b.own.seat) ∙ ap is_trying can.idle

  abbrev c : Bool
  c = keeps_header_at v.seat.kept t (length x.keys)

  seat-is : (after_moves p m1 (s.seats p) mv).seat ≡ s.seats p
  seat-is =
      idle_settled (s.seats p) (λ q. not (moves_key mv q)) (ap (λ (q : Seat). q.locks) (sym b.own.seat) ∙ can.unlocked)
      (ap (λ (q : Seat). q.stage) (sym b.own.seat) ∙ can.idle)

  page-new : page_of e t ≡ Leaf (x.keys ++ k ∷ [])
  page-new =
      ap (λ c. cond c (with_key k (page_of d t)) (page_of d t)) (eq-eqb t t refl) ∙ ap (with_key k) laid

  span-now : (g : Led) → led_span e g ≡ led_span d g
  span-now Never = refl
  span-now (From a) = refl
  span-now Away = refl

  part-is : header_part e t ≡ head_part t sp (x.keys ++ k ∷ [])
  part-is =
      ap (λ (q : List Key). let r : Part = record { word = Header t; version = Counted (length q); span = slot_span e t; less = q; pairs = [] } in r)
      (ap leaf_keys page-new)
      ∙ ap (λ (q : Span). let r : Part = record { word = Header t; version = Counted (length (x.keys ++ k ∷ [])); span = q; less = x.keys ++ k ∷ []; pairs = [] } in r)
      (span-now (slot_of d t).led ∙ span-is)

  seen-is : (kept : List Part) → seen_at k n.places kept (spot_at n.homes k) ≡ with_part kept (record_part k (spot t (length x.keys)) nothing)
  seen-is kept =
      ap (λ h. seen_at k n.places kept (spot_of (cond h (InSlot z) (home_of m.homes k)))) (same_key-self k)
      ∙ (ap (λ (q : Place). with_part kept (record_part k z q.content)) place-there
      ∙ ap (λ i. with_part kept (record_part k (spot t i) nothing)) count)

  renews : (c : Bool) → (let a : Left = record { story = n; seat = v.seat } in
      if c then and_seen p k (commit_effect p n v.seat (Keep (header_part e t))) else a)
      ≡ record { story = n; seat = record v.seat { kept = kept_on c v.seat.kept t sp x.keys k } }
  renews false = refl
  renews true =
      ap (λ (q : List Part). let r : Left = record { story = n; seat = record v.seat { kept = q } } in r)
      (seen-is (with_part v.seat.kept (header_part e t))
      ∙ ap (λ (q : Part). with_part (with_part v.seat.kept q) (record_part k (spot t (length x.keys)) nothing)) part-is)

  after-is : after_key p m1 (s.seats p) d g t k ≡ record { story = n; seat = w.seat }
  after-is =
      let am = after_moves p m1 (s.seats p) mv in
      let whole : am ≡ record { story = n; seat = v.seat } = ap (λ (q : Seat). let r : Left = record { story = n; seat = q } in r) (seat-is ∙ sym b.own.seat) in
      ap (renewed p e t nn k) whole
      ∙ (ap (λ i. let a : Left = record { story = n; seat = v.seat } in if keeps_header_at v.seat.kept t i then and_seen p k (commit_effect p n v.seat (Keep (header_part e t))) else a) count
      ∙ renews c)

  comes : effect_of s1 p (AddKey t k) ≡ record { story = n; seat = w.seat; table = e; grip = w.grip }
  comes =
      ap (λ (q : Left). joined q (page_effect p d g (opening_with t k))) after-is
      ∙ ap (λ (q : Grip). let j : Joined = record { story = n; seat = w.seat; table = e; grip = q } in j) (sym b.grip)

  done : Acted l s1 p (record { story = n; seat = w.seat; table = e; grip = w.grip })
  done =
      let may : may_do s1 p (AddKey t k) ≡ true =
      and_from (page_allows p d g (opening_with t k)) (not (is_trying (s.seats p).stage) && may_move p m1 (s.seats p) mv) opens
      (and_from (not (is_trying (s.seats p).stage)) (may_move p m1 (s.seats p) mv) (ap not idle-now) moving) in
      subst (Acted l s1 p) comes (joint_act laws l s1 p (AddKey t k) b.few may filled-so)

  -- ---- what others rely on

  page-old : (u : ℕ) → u ≢ t → page_of e u ≡ page_of d u
  page-old u other = ap (λ c. cond c (with_key k (page_of d t)) (page_of d u)) (ne_eqb t u (λ q. other (sym q)))

  header-old : (u : ℕ) → u ≢ t → header_of e u ≡ header_of d u
  header-old u other = ap (λ c. cond c Free (header_of d u)) (ne_eqb t u (λ q. other (sym q)))

  tree-new : trees t ≡ Some fence
  tree-new = put_same s.trees t (Some fence) t refl

  tree-old : (u : ℕ) → u ≢ t → trees u ≡ s.trees u
  tree-old u other = put_other s.trees t (Some fence) u other

  is-tree : (u : ℕ) → s.trees u ≡ None → u ≢ t
  is-tree u none same = let no : None ≡ Some old = sym none ∙ (ap s.trees same ∙ there) in absurd (cc)

  fence-stays : (u : ℕ) (f : Fenced) → s.trees u ≡ Some f
      → (h : Fenced) × (trees u ≡ Some h) × (h.span ≡ f.span) × IsFront f.keys h.keys
  fence-stays u f is =
      by_equal u t (λ q. q ≡ u → (h : Fenced) × (trees q ≡ Some h) × (h.span ≡ f.span) × IsFront f.keys h.keys)
      (λ same.
      let is-fence : old ≡ f = some_fence old f (sym there ∙ (ap s.trees same ∙ is)) in (
        fence,
        tree-new,
        ap (λ (q : Fenced). q.span) is-fence,
        subst (λ (q : Fenced). IsFront q.keys (old.keys ++ k ∷ [])) is-fence (front_append old.keys (k ∷ [])),
      ))
      (λ other _. (f, tree-old u other ∙ is, refl, front_refl f.keys)) refl

  held-other : (u o : ℕ) → header_of d u ≡ Held o → o ≢ p → u ≢ t
  held-other u o held other same = other (held_same (header_of d t) (ap (header_of d) (sym same) ∙ held) locked)
    where
      held_same : (h : Holder) → h ≡ Held o → h ≡ Held p → o ≡ p
      held_same h a c = cc

  made-other : (q u : ℕ) → q < 9 → (q ≡ p → ⊥) → has_slot (s.grips q).made u ≡ true → u ≢ t
  made-other q u few other has same =
      let is : IsMade d (all_seats s.grips) q u =
      laws.made (home_of m.homes) d (all_seats s.grips) q u (s.grips q) b.sound.joint.pages (at_seat s.grips q few) has in
      true≢false (sym (ap is_never is.never) ∙ (ap (λ i. is_never (slot_of d i).led) same ∙ known))

  made-slot : (q : ℕ) (x : Spot) (h : Grip) → (q ≡ p → ⊥) → slice_get (all_seats s.grips) q ≡ Some h
      → has_slot h.made x.slot ≡ true → x ≢ z
  made-slot q x h other has made same =
      let is : IsMade d (all_seats s.grips) q x.slot =
      laws.made (home_of m.homes) d (all_seats s.grips) q x.slot h b.sound.joint.pages has made in
      true≢false (sym (ap is_never is.never) ∙ (ap (λ (i : Spot). is_never (slot_of d i.slot).led) same ∙ known))

  trees_stay : TreesStay p s trees
  trees_stay = record {
    none = λ q u relied none. tree-old u (is-tree u none) ∙ none;
    fence = λ q u f relied is. fence-stays u f is;
    made = λ q u few other has. tree-old u (made-other q u few other has);
    heads = λ u o held other. tree-old u (held-other u o held other);
  }

  held-then : (q : Key) (o : ℕ) → holder_is o (stands m.places m.homes q).holder ≡ true
      → holder_is o (stands m1.places m1.homes q).holder ≡ true
  held-then q o held = by_home (home_of m.homes q) refl
    where
      by_home : (h : Home) → home_of m.homes q ≡ h → holder_is o (stands m1.places m1.homes q).holder ≡ true
      by_home (InSlot r) is =
          ap (λ h. holder_is o (stands_at m1.places h).holder) is
          ∙ (ap (λ (c : Place). holder_is o c.holder) (place-kept r (apart r (home_placed l s q r b.sound.joint is)))
          ∙ (ap (λ h. holder_is o (stands_at m.places h).holder) (sym is) ∙ held))
      by_home (InPage a c) is = ap (λ h. holder_is o (stands_at m1.places h).holder) is ∙ (ap (λ h. holder_is o (stands_at m.places h).holder) (sym is) ∙ held)
      by_home Nowhere is = ap (λ h. holder_is o (stands_at m1.places h).holder) is ∙ (ap (λ h. holder_is o (stands_at m.places h).holder) (sym is) ∙ held)

  stays : Stays p (joint_of l s) (joint_of l new)
  stays =
      let st = done.stays in
      let grows = st.story.grows in record {
        opening = refl;
        story = record {
          grows = record { history = grows.history; checks = grows.checks; decided = grows.decided; given_up = grows.given_up; first_draw = grows.first_draw; epoch = grows.epoch };
          rise = λ q of.
              subst (λ (r : Place). IsUpTo r.content.number (place_of n.places q).content.number) (place-kept q (apart q of)) (st.story.rise q of);
          epoch = st.story.epoch;
          held = λ q o of held other. place-stays q (apart q of);
          dead = λ q of dead. place-stays q (apart q of);
          homes = λ q o held other. st.story.homes q o (held-then q o held) other;
          checks = st.story.checks;
        };
        pages = st.pages;
        held = st.held;
        made = st.made;
        records = λ q r h other has made. place-stays r (made-slot q r h other has made);
        seats = st.seats;
        grips = st.grips;
      }

  -- ---- words, and what the pass knows

  wr : Written words words' at y
  wr = written words at y (let long = b.sound.shown.long in let few = within in omega arith)

  own : (i : ℕ) → i < 64 → is_spare (length x.keys) i ≡ true → get_or words (page_at l.slots t i) 0 ≡ get_or x.words i 0
  own i less is = ap (λ u. get_or words (page_at l.slots u i) 0) (sym here) ∙ head.is.is i less is

  spare-from : (j i : ℕ) → i ≡ (16 + 3 * length x.keys) + j → is_spare (length x.keys) i ≡ true
  spare-from j i is =
      or_right (nat_le 3 i && nat_le i 5) (nat_le (16 + 3 * length x.keys) i) (grind (arith, nat_tests))

  -- the words of the record that is added
  shows-new : ShowsKeyed words' (page_at l.slots t (16 + 3 * length x.keys)) (IsOverwritten n) k (place nothing Free)
  shows-new =
      let few = can.few in record {
        key =
            wr.others (page_at l.slots t (16 + 3 * length x.keys)) (λ q. absurd (omega arith))
            ∙ (own (16 + 3 * length x.keys) (omega arith) (spare-from 0 (16 + 3 * length x.keys) (omega arith)) ∙ can.key);
        absent = absent_field tree_leaf None;
        word =
            wr.others (page_at l.slots t (16 + 3 * length x.keys) + 1) (λ q. absurd (omega arith))
            ∙ (ap (λ j. get_or words j 0) (one-more 1)
            ∙ (own ((16 + 3 * length x.keys) + 1) (omega arith) (spare-from 1 ((16 + 3 * length x.keys) + 1) refl)
            ∙ (ap (λ i. get_or x.words i 0) (behind 1) ∙ (can.absent ∙ (omega arith)))));
        bit = inl refl;
        value =
            wr.others (page_at l.slots t (16 + 3 * length x.keys) + 2) (λ q. absurd (omega arith))
            ∙ (ap (λ j. get_or words j 0) (one-more 2)
            ∙ (own ((16 + 3 * length x.keys) + 2) (omega arith) (spare-from 2 ((16 + 3 * length x.keys) + 2) refl)
            ∙ (ap (λ i. get_or x.words i 0) value-at ∙ can.value)));
        small = record { draw = omega arith; epoch = omega arith };
      }
    where
      one-more : (j : ℕ) → page_at l.slots t (16 + 3 * length x.keys) + j ≡ page_at l.slots t ((16 + 3 * length x.keys) + j)
      one-more j = omega arith

      behind : (j : ℕ) → (16 + 3 * length x.keys) + j ≡ j + (16 + 3 * length x.keys)
      behind j = omega arith

      value-at : (16 + 3 * length x.keys) + 2 ≡ (1 + (16 + 3 * length x.keys)) + (1 + 0)
      value-at = omega arith

  shows-records : SaysRecordsOf l words' n t fence
  shows-records =
      let was = subst (λ u. SaysRecordsOf l words m u old) here head.records in
      let few = can.few in
      let long : length old.keys ≡ length x.keys = ap length head.is.keys in
      let more = length_push old.keys k in record {
        low = wr.others (page_at l.slots t 1) (λ q. absurd (omega arith)) ∙ was.low;
        high = wr.others (page_at l.slots t 2) (λ q. absurd (omega arith)) ∙ was.high;
        few = omega (arith, few, long, more);
        once = once_push old.keys k was.once (ap (λ (q : List Key). has_key q k) head.is.keys ∙ can.new);
        inside = λ q has. elim (has_push old.keys k q has) [
          | inl had ↦ was.inside q had
          | inr is ↦ subst (λ (r : Key). in_span old.span r ≡ true) is (ap (λ (r : Span). in_span r k) same-span ∙ can.inside)
        ];
        keys = λ i q is. elim (push_cases old.keys k q i is) [
          | inl stood ↦
              let had = was.keys i q stood in
              let less : i < length old.keys = slice_get_within old.keys i q stood in
              let other : spot t i ≢ z = λ same. below-count i (ap (λ (c : Spot). c.index) same) less in
              subst (ShowsKeyed words' (page_at l.slots t (16 + 3 * i)) (IsOverwritten n) q) (sym (place-stays (spot t i) other)) record {
                key = wr.others (page_at l.slots t (16 + 3 * i)) (λ q. absurd (omega arith)) ∙ had.key;
                absent = had.absent;
                word = wr.others (page_at l.slots t (16 + 3 * i) + 1) (λ q. absurd (omega arith)) ∙ had.word;
                bit = had.bit;
                value = wr.others (page_at l.slots t (16 + 3 * i) + 2) (λ q. absurd (omega arith)) ∙ had.value;
                small = had.small;
              }
          | inr new ↦
              let index : i ≡ length x.keys = new.0 ∙ long in
              let spots : spot t i ≡ z = ap (spot t) (index ∙ sym count) in
              subst (λ j. ShowsKeyed words' (page_at l.slots t (16 + 3 * j)) (IsOverwritten n) q (place_of n.places (spot t i))) (sym index)
              (subst (λ c. ShowsKeyed words' (page_at l.slots t (16 + 3 * length x.keys)) (IsOverwritten n) c (place_of n.places (spot t i))) (sym new.1)
              (subst (λ c. ShowsKeyed words' (page_at l.slots t (16 + 3 * length x.keys)) (IsOverwritten n) k (place_of n.places c)) (sym spots)
              (subst (ShowsKeyed words' (page_at l.slots t (16 + 3 * length x.keys)) (IsOverwritten n) k) (sym place-there) shows-new)))
        ];
      }
    where
      below-count : (i : ℕ) → i ≡ nn → i < length old.keys → ⊥
      below-count i same less = let a = count in let c : length old.keys ≡ length x.keys = ap length head.is.keys in absurd (omega (arith, a, c, same, less))

  leaf : LeafStep l words words' s n e trees t 0
  leaf =
      let more = length_push old.keys k in
      let long : length old.keys ≡ length x.keys = ap length head.is.keys in record {
        page = record {
          few = within;
          index = omega arith;
          long = wr.long;
          others = wr.others;
          story = record { history = refl; decided = refl; given_up = refl; first_draw = refl; epoch = refl };
          roots = λ r. refl;
          passes = λ u. refl;
          state = λ u. refl;
          times = λ u. refl;
          pages = page-old;
          headers = header-old;
          pointers = λ u j other. refl;
          places = λ u j other. place-stays (spot u j) (λ same. other (ap (λ (q : Spot). q.slot) same));
          treed = tree-old;
          fence = fence;
          there = tree-new;
          here = λ _.
              subst (SaysOf l words' s.resident.places n e t fence) (sym page-new) (
                ap (λ (q : List Key). q ++ k ∷ []) head.is.keys,
                wr.here
                    ∙ (can.word ∙ (ap open_word (omega (arith, more, long))
                    ∙ ap (λ h. head_word (length fence.keys) 1 (lock_field h) false) (sym (ap (λ c. cond c Free (header_of d t)) (eq-eqb t t refl))))),
                shows-records,
              );
        };
        known = known;
        keys = x.keys;
        leaf = laid;
        old = old;
        was = there;
        span = refl;
        front = front_append old.keys (k ∷ []);
        grown = x.keys ++ k ∷ [];
        still = page-new;
        slots = λ u. refl;
        pointers = λ a. refl;
        snaps = refl;
        published = refl;
        room = refl;
      }

  kept-same : (q : Key) (r : Spot) (c : Content) → Contains v.seat.kept (record_part q r c) → place_of n.places r ≡ place_of m.places r
  kept-same q r c has = place-stays r (apart r (kept_placed l s v b.sound.joint b.fits (record_part q r c) has r refl))

  no-array : is_array l.decls k.storage ≡ false
  no-array = by_array (is_array l.decls k.storage) refl
    where
      tree : is_tree l.decls k.storage ≡ true
      tree =
          let both = and_parts (eqb k.storage sp.storage) (nat_le sp.low k.key && nat_le k.key sp.high) can.inside in
          ap (is_tree l.decls) (eqb-true k.storage sp.storage both.0)
          ∙ (ap (λ (q : Layout). is_tree q.decls sp.storage) (sym b.own.layout) ∙ can.page.tree)

      by_array : (c : Bool) → is_array l.decls k.storage ≡ c → c ≡ false
      by_array true is = absurd (one_kind (decl_of l.decls k.storage) is tree)
      by_array false is = refl

  fits : Fits l n (put_seat s.seats p w.seat) w
  fits =
      let fv = b.fits in
      own_fits l m n s.seats v w active fv fv.part refl refl refl refl refl (λ place mark has. has) record {
        history = fv.history;
        decided = fv.decided;
        heard = fv.heard;
        mine = fv.mine;
        mine_own = fv.mine_own;
        records = records-on c;
        kept = low-on c (λ q r c has. subst (λ (o : Place). IsUpTo c.number o.content.number) (sym (kept-same q r c has)) (fv.kept q r c has));
        versions = fv.versions;
        loaded = tt;
        tried = b.own.tried;
        took = λ q has. let held = b.own.took q has in (held.0, held-now q held.0 held.1);
        locked = b.own.locked;
        low = fv.low;
        epoch = λ keeper. (fv.keepers keeper).epoch;
        past = λ keeper. let was = (fv.keepers keeper).past in record { clock = was.clock; tried = was.tried };
      }
    where
      records-on : (c : Bool) → KeptAreRecords l.decls l.opening m.history (kept_on c v.seat.kept t sp x.keys k)
      records-on false = b.fits.records
      records-on true =
          let part = head_part t sp (x.keys ++ k ∷ []) in
          records_added l.decls l.opening m.history (with_part v.seat.kept part) k (spot t (length x.keys)) no-array
          (records_headed l.decls l.opening m.history v.seat.kept part t (length (x.keys ++ k ∷ [])) refl refl b.fits.records)

      low-on : (c : Bool) → KeptIsLow n.places v.seat.kept → KeptIsLow n.places (kept_on c v.seat.kept t sp x.keys k)
      low-on false low = low
      low-on true low =
          let part = head_part t sp (x.keys ++ k ∷ []) in
          low_added n.places (with_part v.seat.kept part) k (spot t (length x.keys)) (low_headed n.places v.seat.kept part t refl low)

      held-now : (q : Took) (r : Spot) → IsHeld l.decls m p q r → IsHeld l.decls n p q r
      held-now q r h =
          let same = place-stays r (apart r (home_placed l s q.key r b.sound.joint h.home)) in record {
            spot = h.spot;
            home = by-key (same_key k q.key) refl h.home;
            own = ap (λ (o : Place). holder_is p o.holder) same ∙ h.own;
            absent = h.absent;
            number = ap (λ (o : Place). number_word o.content.number + h.absent) same ∙ h.number;
            bit = subst (λ (o : Place). IsBitAt l.decls m q.key o h.absent) (sym same) h.bit;
          }
        where
          by-key : (c : Bool) → same_key k q.key ≡ c → home_of m.homes q.key ≡ InSlot r → home_of n.homes q.key ≡ InSlot r
          by-key true hit home =
              let is : Nowhere ≡ InSlot r = sym home-none ∙ (ap (home_of m.homes) (same_key-true k q.key hit) ∙ home) in absurd (cc)
          by-key false miss home = ap (λ c. cond c (InSlot z) (home_of m.homes q.key)) miss ∙ home

  pub adding : (tells : View → ℕ → View → Type 0) → tells v (get_or words at 0) w → Stride l words views s p v at (λ _. y) tells
  adding tells tells-so =
      let treed = b.pages.treed in
      head_stride laws l words views s id v active b t 0 (λ _. y) n e trees w tells record {
        leaf = leaf;
        sound = done.sound;
        stays = stays;
        trees-stay = trees_stay;
        fits = fits;
        seat = record { role = refl; made = refl; mine = refl; draws = refl; due = refl; marks = refl; stage = refl };
        part = record { grip = refl; ways = refl; drafts = refl; copies = refl; blanks = refl; pages = refl; leads = refl; fills = refl; moved = refl; sealed = refl; inners = refl; new_leaves = refl; new_inners = refl; shuts = refl };
        locks = record { role = refl; ways = refl; took = refl; gone = refl; touched = refl; blamed = refl; locks = refl };
        met =
            let few = can.few in
            let kept = if c then Some y else kept_at v.reads at in
            let record_at = page_at v.layout.slots t (word_in tree_leaf (length x.keys)) in
            met_word l v t sp (noted v.reads at y kept) record_at absent_word (kept_at (noted v.reads at y kept) record_at) can.page
            (met_word l v t sp v.reads at y kept can.page (λ a has. inl has) 0 (omega arith) refl)
            (1 + (16 + 3 * length x.keys)) (omega (arith, few))
            (ap (λ (q : Layout). page_at q.slots t (1 + (16 + 3 * length x.keys))) b.own.layout);
        spare = λ q held other is. let high = spare_high (length leaf.keys) 0 is in absurd (omega (arith, high));
        knows = λ q has. elim (in_cases q (record { slot = t; keys = x.keys ++ k ∷ [] }) v.known has) [
          | inl new ↦ subst (IsKnownLeaf l e trees v.grip.holds) new record {
            within = within;
            held = page.held;
            known = known;
            fence = fence;
            there = tree-new;
            front = subst (λ (c : List Key). IsFront (c ++ k ∷ []) fence.keys) head.is.keys (front_refl fence.keys);
          }
          | inr was ↦ known_step laws l words words' views s id v active b n e trees t 0 leaf w q (treed.known q was)
        ];
        heads = λ q has.
            let o = at_others (λ (c : Head). c.slot) t v.heads q has in
            head_step laws l words words' views s id v active b n e trees t 0 leaf w q o.1 (treed.heads p (is_at v.role active) q o.0);
      }
      tells-so

  -- any head of this leaf has these keys
  pub same_keys : (q : Head) → Contains v.heads q → q.slot ≡ t → x.keys ≡ q.keys
  same_keys q has same =
      let other = at_head l words views s id v q active b has in
      leaf_same x.keys q.keys (sym laid ∙ (ap (page_of d) (sym same) ∙ other.is.leaf))
    where
      leaf_same : (a c : List Key) → Leaf a ≡ Leaf c → a ≡ c
      leaf_same a c same = cc

pub adds_key : Laws → (l : Layout) (slots id : ℕ) (me : Me (Unit {0}) View) (t : ℕ) (sp : Span) (k : Key) (y : ℕ)
    → IsActive me.0.role → CanAdd me.0 t sp k y
    → Allows (λ s. Shows l s.words s.views) slots id me (page_at l.slots t 0) (λ _. y)
    (λ _ now. (now.1 ≡ me.1) × HasAdded t sp k (page_at l.slots t 0) y me.0 now.0)
adds_key laws l slots id me t sp k y active can =
    allows_at laws l slots id me (page_at l.slots t 0) (λ _. y) (λ v _ w. HasAdded t sp k (page_at l.slots t 0) y v w) active
    (λ words views s b.
    agreed l words views s me.0 active (page_at l.slots t 0) (λ _. y)
    (λ v _ w. HasAdded t sp k (page_at l.slots t 0) y v w)
    (adding laws l words views s id me.0 active b t sp k y can can.slot
    (λ v _ w. TreesAgree w → HasAdded t sp k (page_at l.slots t 0) y v w)
    (λ trees. record {
      is = λ q has same.
          ap (λ (z : List Key). key_added t sp z k (page_at l.slots t 0) y me.0)
          (same_keys laws l words views s id me.0 active b t sp k y can can.slot q has same);
      trees = trees;
    })))
