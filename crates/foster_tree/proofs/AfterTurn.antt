-- What the turn leaves: the half that is made for the key is held, and has its record.
use Rattle.std.proofs.Common.{◌≡◌, ◌≢◌, ◌⊎◌, ℕ, ◌+◌, ◌-◌, ◌*◌, ◌<◌, ◌≤◌, Bool, true, false, cond, List, [], ◌∷◌, ◌++◌}
use Rattle.std.proofs.Common.{refl, sym, ap, ◌∙◌, subst, arith, inl, inr, Some, None, eq-eqb}
use Rattle.std.specs.Prelude.{filter, get_or, not, nat_lt, if◌then◌else◌}
use Rattle.std.specs.List.{Contains, slice_get}
use Rattle.std.proofs.lemmas.Bool.Decides.{nat_tests}
use Rattle.lists.specs.Elements.{in_head}
use Rattle.serial_model.specs.declared.key.Key.{Key}
use Rattle.homes.specs.declared.places.Span.{Span}
use Rattle.homes.specs.Homes.{has_key, in_span}
use Rattle.commit_core.specs.declared.seat.Seat.{Seat}
use Rattle.commit_core.specs.CoreState.{settled}
use Rattle.drop_core.specs.Event.{lower_span, upper_span, without}
use Rattle.drop_core.specs.Table.{has_slot}
use Rattle.engine_pages.specs.declared.view.Copied.{Copied}
use Rattle.engine_pages.specs.declared.view.Head.{Head}
use Rattle.engine_pages.specs.declared.view.Known.{Known}
use Rattle.engine_pages.specs.declared.view.Moved.{Moved}
use Rattle.engine_pages.specs.declared.view.NewInner.{NewInner}
use Rattle.engine_pages.specs.declared.view.NewLeaf.{NewLeaf}
use Rattle.engine_pages.specs.declared.view.Read.{Read}
use Rattle.engine_pages.specs.declared.view.Took.{Took}
use Rattle.engine_pages.specs.declared.view.View.{View}
use Rattle.engine_pages.specs.declared.view.Way.{Way}
use Rattle.engine_pages.specs.Layout.{page_at}
use Rattle.engine_pages.specs.Pages.{is_tree}
use Rattle.engine_pages.specs.Pointers.{ways_if}
use Rattle.engine_pages.specs.Records.{IsTreeRecordAt}
use Rattle.engine_pages.specs.Slots.{entered, other_copies, other_heads, other_inners, other_leaves}
use Rattle.engine_pages.specs.Steps.{with_read}
use Rattle.engine_pages.specs.Words.{spot}
use Rattle.tree_heads.specs.Splits.{split_at, HasSplit}
use Rattle.foster_tree.specs.declared.entries.Entry.{Entry}
use Rattle.foster_tree.specs.Adding.{restored}
use Rattle.foster_tree.specs.Entries.{keys_of}
use Rattle.foster_tree.specs.Filling.{no_entry}
use Rattle.foster_tree.specs.Locking.{WorkedIn}
use Rattle.foster_tree.specs.Splitting.{as_turned, half_of, lower_of, separator_of, twin_words, upper_of, CanTurn, HasTurned}
use Rattle.foster_tree.proofs.AddLaws.{storage_of}
use Rattle.foster_tree.proofs.LockLaws.{met_first, worked_read, worked_then}
use Rattle.foster_tree.proofs.LockLists.{has_in, take_in, tooks_keys}
use Rattle.foster_tree.proofs.PlaceLaws.{high_inside, high_key, low_inside, low_key, ordered, place_high, place_low}
use Rattle.foster_tree.proofs.StoreLaws.{head_of}
use Rattle.foster_tree.proofs.TurnLaws.{old_there}
use Rattle.foster_tree.proofs.TurnedLaws.{held_minor, leaves_both, seat_after, took_after, ways_major, ways_minor, without_both}

-- ---- the view

-- the view v, with the slot h held and a split more known, with these lists, and what was met as w has it
abbrev turned_lists : Seat → List Took → List ℕ → List Way → List Copied → List ℕ → List NewLeaf → List NewInner → List Known
    → List Head → ℕ → Moved → View → View → View
turned_lists seat took made ways copies blanks leaves inners known heads h x v w = record v {
  steps = w.steps;
  reads = w.reads;
  loaded = None;
  seat = seat;
  took = took;
  grip = record v.grip { holds = h ∷ v.grip.holds; made = made };
  ways = ways;
  copies = copies;
  blanks = blanks;
  new_leaves = leaves;
  new_inners = inners;
  known = known;
  heads = heads;
  moved = x ∷ v.moved;
}

-- equal lists make one view
lists_same : (s1 s2 : Seat) (k1 k2 : List Took) (m1 m2 : List ℕ) (y1 y2 : List Way) (c1 c2 : List Copied) (b1 b2 : List ℕ)
    (l1 l2 : List NewLeaf) (n1 n2 : List NewInner) (q1 q2 : List Known) (d1 d2 : List Head) (h : ℕ) (x : Moved) (v w : View)
    → s1 ≡ s2 → k1 ≡ k2 → m1 ≡ m2 → y1 ≡ y2 → c1 ≡ c2 → b1 ≡ b2 → l1 ≡ l2 → n1 ≡ n2 → q1 ≡ q2 → d1 ≡ d2
    → turned_lists s1 k1 m1 y1 c1 b1 l1 n1 q1 d1 h x v w ≡ turned_lists s2 k2 m2 y2 c2 b2 l2 n2 q2 d2 h x v w
lists_same s1 s2 k1 k2 m1 m2 y1 y2 c1 c2 b1 b2 l1 l2 n1 n2 q1 q2 d1 d2 h x v w es ek em ey ec eb el en eq ed =
    ap (λ (z : Seat). turned_lists z k1 m1 y1 c1 b1 l1 n1 q1 d1 h x v w) es
    ∙ (ap (λ (z : List Took). turned_lists s2 z m1 y1 c1 b1 l1 n1 q1 d1 h x v w) ek
    ∙ (ap (λ (z : List ℕ). turned_lists s2 k2 z y1 c1 b1 l1 n1 q1 d1 h x v w) em
    ∙ (ap (λ (z : List Way). turned_lists s2 k2 m2 z c1 b1 l1 n1 q1 d1 h x v w) ey
    ∙ (ap (λ (z : List Copied). turned_lists s2 k2 m2 y2 z b1 l1 n1 q1 d1 h x v w) ec
    ∙ (ap (λ (z : List ℕ). turned_lists s2 k2 m2 y2 c2 z l1 n1 q1 d1 h x v w) eb
    ∙ (ap (λ (z : List NewLeaf). turned_lists s2 k2 m2 y2 c2 b2 z n1 q1 d1 h x v w) el
    ∙ (ap (λ (z : List NewInner). turned_lists s2 k2 m2 y2 c2 b2 l2 z q1 d1 h x v w) en
    ∙ (ap (λ (z : List Known). turned_lists s2 k2 m2 y2 c2 b2 l2 n2 z d1 h x v w) eq
    ∙ ap (λ (z : List Head). turned_lists s2 k2 m2 y2 c2 b2 l2 n2 q2 z h x v w) ed))))))))

-- one leaf more is known, where its slot is held
abbrev known_if : Bool → NewLeaf → List Known → List Known
known_if b x known = if b then record { slot = x.slot; keys = x.keys } ∷ known else known

-- the leaves that are known with the half that is held
known_minor : (minor major : ℕ) (low high : NewLeaf) (holds : List ℕ) (known : List Known) → minor ≢ major
    → has_slot holds major ≡ false
    → known_if (has_slot (minor ∷ holds) minor) low (known_if (has_slot (minor ∷ holds) major) high known)
    ≡ record { slot = low.slot; keys = low.keys } ∷ known
known_minor minor major low high holds known apart unheld =
    let h = held_minor minor major holds apart unheld in
    ap (λ (b : Bool). known_if b low (known_if (has_slot (minor ∷ holds) major) high known)) h.0
    ∙ ap (λ (b : Bool). known_if true low (known_if b high known)) h.1

known_major : (minor major : ℕ) (low high : NewLeaf) (holds : List ℕ) (known : List Known) → minor ≢ major
    → has_slot holds minor ≡ false
    → known_if (has_slot (major ∷ holds) minor) low (known_if (has_slot (major ∷ holds) major) high known)
    ≡ record { slot = high.slot; keys = high.keys } ∷ known
known_major minor major low high holds known apart unheld =
    let h = held_minor major minor holds (λ e. apart (sym e)) unheld in
    ap (λ (b : Bool). known_if b low (known_if (has_slot (major ∷ holds) major) high known)) h.1
    ∙ ap (λ (b : Bool). known_if b high known) h.0

-- the view v with these words met
abbrev with_reads : List Read → View → View
with_reads reads v = record v { reads = reads }

-- the view behind the turn, with the slot h held
abbrev turned_at : ℕ → ℕ → ℕ → ℕ → ℕ → ℕ → Span → List Key → List Entry → List ℕ → View → View
turned_at t minor major h at n sp keys sorted words v =
    split_at t sp (lower_of minor sp sorted) (upper_of major sp sorted) (keys_of sp.storage sorted) (separator_of sorted) at n
    (restored t keys (twin_words minor major (separator_of sorted) words) 3 (entered h v))

module _ (t minor major at n : ℕ) (sp : Span) (keys : List Key) (k : Key) (entries sorted : List Entry) (x : NewLeaf)
    (v p w : View) (can : CanTurn v t sp keys k entries sorted minor major)
    (is : p ≡ restored t keys (twin_words minor major (separator_of sorted) can.words) 3 (entered x.slot v))
    (split : HasSplit t sp (lower_of minor sp sorted) (upper_of major sp sorted) (keys_of sp.storage sorted)
    (separator_of sorted) at n p w)
    (ways : ways_if (has_slot (x.slot ∷ v.grip.holds) minor) minor (lower_span sp (separator_of sorted))
    (ways_if (has_slot (x.slot ∷ v.grip.holds) major) major (upper_span sp (separator_of sorted)) v.ways)
    ≡ record { slot = x.slot; span = x.span } ∷ v.ways)
    (known : known_if (has_slot (x.slot ∷ v.grip.holds) minor) (lower_of minor sp sorted)
    (known_if (has_slot (x.slot ∷ v.grip.holds) major) (upper_of major sp sorted) v.known)
    ≡ record { slot = x.slot; keys = x.keys } ∷ v.known)
    (header : at ≡ page_at v.layout.slots t 0) where
  all_is : w ≡ turned_at t minor major x.slot at n sp keys sorted can.words v
  all_is = split.is
      ∙ ap (split_at t sp (lower_of minor sp sorted) (upper_of major sp sorted) (keys_of sp.storage sorted)
      (separator_of sorted) at n) is

  took_there : (z : Took) → Contains v.took z → has_key (keys_of sp.storage sorted) z.key ≡ true
  took_there z has =
      old_there t x.slot minor major sp keys k entries sorted v p can is z.key
      (has_in keys z.key (take_in keys 16 z.key
      (tooks_keys t keys entries 16 z (let full = can.moved.full in omega (arith, full))
      (subst (λ (l : List Took). Contains l z) can.moved.took has))))

  turned_is : w ≡ as_turned t (lower_of minor sp sorted) (upper_of major sp sorted) x (separator_of sorted) v w
  turned_is =
      let four : w ≡ as_turned t (lower_of minor sp sorted) (upper_of major sp sorted) x (separator_of sorted) v
      (turned_at t minor major x.slot at n sp keys sorted can.words v) =
      all_is
      ∙ lists_same
      (settled (record v.seat { locks = filter (λ q. not (has_key (keys_of sp.storage sorted) q)) v.seat.locks }))
      (record v.seat { locks = [] })
      (filter (λ (q : Took). not (has_key (keys_of sp.storage sorted) q.key)) v.took) []
      (without (without v.grip.made minor) major) []
      (ways_if (has_slot (x.slot ∷ v.grip.holds) minor) minor (lower_span sp (separator_of sorted))
      (ways_if (has_slot (x.slot ∷ v.grip.holds) major) major (upper_span sp (separator_of sorted)) v.ways))
      (record { slot = x.slot; span = x.span } ∷ v.ways)
      (other_copies minor (other_copies major v.copies)) v.copies
      (without (without v.blanks minor) major) v.blanks
      (other_leaves minor (other_leaves major v.new_leaves)) []
      (other_inners minor (other_inners major v.new_inners)) v.new_inners
      (known_if (has_slot (x.slot ∷ v.grip.holds) minor) (lower_of minor sp sorted)
      (known_if (has_slot (x.slot ∷ v.grip.holds) major) (upper_of major sp sorted) v.known))
      (record { slot = x.slot; keys = x.keys } ∷ v.known)
      (other_heads t (head_of t keys (twin_words minor major (separator_of sorted) can.words) ∷ [])) []
      x.slot (record { slot = t; minor = minor; major = major; separator = separator_of sorted }) v
      (turned_at t minor major x.slot at n sp keys sorted can.words v)
      (seat_after v.seat keys (keys_of sp.storage sorted) can.moved.locks can.idle
      (λ q has. old_there t x.slot minor major sp keys k entries sorted v p can is q (has_in keys q has)))
      (took_after v.took (keys_of sp.storage sorted) took_there)
      (ap (λ (l : List ℕ). without (without l minor) major) can.made ∙ without_both minor major can.apart)
      ways
      (ap (λ (l : List Copied). other_copies minor (other_copies major l)) can.copies ∙ sym can.copies)
      (ap (λ (l : List ℕ). without (without l minor) major) can.blanks ∙ sym can.blanks)
      (ap (λ (l : List NewLeaf). other_leaves minor (other_leaves major l)) can.leaves
      ∙ leaves_both (lower_of minor sp sorted) (upper_of major sp sorted) can.apart)
      (ap (λ (l : List NewInner). other_inners minor (other_inners major l)) can.inners ∙ sym can.inners)
      known
      (ap (λ (b : Bool). cond (not b) (head_of t keys (twin_words minor major (separator_of sorted) can.words) ∷ []) [])
      (eq-eqb t t refl)) in
      subst (λ (y : View). y ≡ as_turned t (lower_of minor sp sorted) (upper_of major sp sorted) x (separator_of sorted) v y)
      (sym four) refl

  turned_steps : w.steps ≡ v.steps + 5
  turned_steps = let steps : w.steps ≡ ((v.steps + 1) + 3) + 1 = ap (λ (z : View). z.steps) all_is in omega (arith, steps)

  turned_worked : WorkedIn t v w
  turned_worked =
      let steps = turned_steps in
      worked_then t v (with_reads (with_read v.reads at n) v) w refl
      (worked_read t 0 at n v (with_reads (with_read v.reads at n) v) (met_first 0 (omega arith)) header (omega arith) refl
      (λ y has. has) refl refl)
      (worked_then t (with_reads (with_read v.reads at n) v)
      (with_reads (with_read (with_read v.reads at n) (page_at v.layout.slots t 3) (minor + 1)) v) w refl
      (worked_read t 3 (page_at v.layout.slots t 3) (minor + 1) (with_reads (with_read v.reads at n) v)
      (with_reads (with_read (with_read v.reads at n) (page_at v.layout.slots t 3) (minor + 1)) v) (met_first 3 (omega arith)) refl
      (omega arith) refl (λ y has. has) refl refl)
      (worked_read t 4 (page_at v.layout.slots t 4) (major + 1)
      (with_reads (with_read (with_read v.reads at n) (page_at v.layout.slots t 3) (minor + 1)) v) w (met_first 4 (omega arith)) refl
      (omega (arith, steps)) (ap (λ (z : View). z.reads) all_is)
      (λ y has. subst (λ (z : View). Contains z.versions y) (sym all_is) has)
      (ap (λ (z : View). z.role) all_is) (ap (λ (z : View). z.touched) all_is)))

  pub has_turned : (index place : ℕ) (slots held : List ℕ)
      → x ≡ half_of k sorted (lower_of minor sp sorted) (upper_of major sp sorted) → in_span x.span k ≡ true
      → x.slot < v.layout.slots → index < 16 → slice_get x.keys index ≡ Some k
      → place ≡ page_at v.layout.slots x.slot ((16 + 3 * index) + 1) → held ≡ slots ++ x.slot ∷ []
      → HasTurned t sp k sorted minor major place slots held v w
  has_turned index place slots held is_half inside there few key stands holds = record {
    half = x;
    is_half = is_half;
    inside = inside;
    index = index;
    record_at = subst (λ (z : View). IsTreeRecordAt z k (spot x.slot index) place) (sym turned_is) record {
      way = record { slot = x.slot; span = x.span };
      has = in_head (record { slot = x.slot; span = x.span }) v.ways;
      slot = refl;
      leaf = record { slot = x.slot; keys = x.keys };
      knows = in_head (record { slot = x.slot; keys = x.keys }) v.known;
      same = refl;
      there = there;
      index = few;
      kind = subst (λ (j : ℕ). is_tree v.layout.decls j ≡ true) (sym (storage_of sp k can.moved.own)) can.page.tree;
      key = key;
      word = stands ∙ (let e : page_at v.layout.slots x.slot ((16 + 3 * index) + 1)
          ≡ page_at v.layout.slots x.slot (1 + (16 + 3 * index)) = omega arith in e);
    };
    worked = turned_worked;
    steps = turned_steps;
    holds = holds;
    agree = split.agree;
    trees = split.trees;
    is = turned_is;
  }

-- ---- by the test of the key

pub low_less : (a b : ℕ) → nat_lt a b ≡ true → a < b
low_less a b test = grind (arith, nat_tests)

pub high_from : (a b : ℕ) → nat_lt a b ≡ false → b ≤ a
high_from a b test = grind (arith, nat_tests)

less_low : (a b : ℕ) → a < b → nat_lt a b ≡ true
less_low a b less = grind (arith, nat_tests)

from_high : (a b : ℕ) → b ≤ a → nat_lt a b ≡ false
from_high a b from = grind (arith, nat_tests)

pub half_low : (k : Key) (sorted : List Entry) (lower upper : NewLeaf) → nat_lt k.key (separator_of sorted) ≡ true
    → lower ≡ half_of k sorted lower upper
half_low k sorted lower upper test = sym (ap (λ (b : Bool). (let x : NewLeaf = cond b lower upper in x)) test)

pub half_high : (k : Key) (sorted : List Entry) (lower upper : NewLeaf) → nat_lt k.key (separator_of sorted) ≡ false
    → upper ≡ half_of k sorted lower upper
half_high k sorted lower upper test = sym (ap (λ (b : Bool). (let x : NewLeaf = cond b lower upper in x)) test)

module _ (t minor major at n half index i place : ℕ) (sp : Span) (keys : List Key) (k : Key) (entries sorted : List Entry)
    (v p w : View) (slots held : List ℕ) (can : CanTurn v t sp keys k entries sorted minor major) (within : i < 17)
    (at_key : (get_or sorted i no_entry).key ≡ k.key)
    (is : p ≡ restored t keys (twin_words minor major (separator_of sorted) can.words) 3 (entered half v))
    (split : HasSplit t sp (lower_of minor sp sorted) (upper_of major sp sorted) (keys_of sp.storage sorted)
    (separator_of sorted) at n p w)
    (stands : place ≡ page_at v.layout.slots half ((16 + 3 * index) + 1)) (holds : held ≡ slots ++ half ∷ [])
    (header : at ≡ page_at v.layout.slots t 0) where
  turned_low : k.key < separator_of sorted → half ≡ minor → index ≡ i
      → HasTurned t sp k sorted minor major place slots held v w
  turned_low below half_is index_is =
      let test = less_low k.key (separator_of sorted) below in
      let few : i < 8 = place_low sorted i (ordered v t sp keys k entries sorted can.moved can.order) within
      (subst (λ (j : ℕ). j < separator_of sorted) (sym at_key) below) in
      has_turned t minor major at n sp keys k entries sorted (lower_of minor sp sorted) v p w can
      (is ∙ ap (λ (h : ℕ). restored t keys (twin_words minor major (separator_of sorted) can.words) 3 (entered h v)) half_is)
      split
      (ways_minor minor major (lower_span sp (separator_of sorted)) (upper_span sp (separator_of sorted)) v.grip.holds v.ways
      can.apart can.major_unheld)
      (known_minor minor major (lower_of minor sp sorted) (upper_of major sp sorted) v.grip.holds v.known can.apart
      can.major_unheld)
      header i place slots held (half_low k sorted (lower_of minor sp sorted) (upper_of major sp sorted) test)
      (low_inside v t sp keys k entries sorted can.moved can.order minor below) can.minor_there (omega (arith, few))
      (low_key v t sp keys k entries sorted can.moved can.order minor i few at_key)
      (stands ∙ (ap (λ (h : ℕ). page_at v.layout.slots h ((16 + 3 * index) + 1)) half_is
      ∙ ap (λ (j : ℕ). page_at v.layout.slots minor ((16 + 3 * j) + 1)) index_is))
      (holds ∙ ap (λ (h : ℕ). slots ++ h ∷ []) half_is)

  turned_high : separator_of sorted ≤ k.key → half ≡ major → index ≡ i - 8
      → HasTurned t sp k sorted minor major place slots held v w
  turned_high above half_is index_is =
      let test = from_high k.key (separator_of sorted) above in
      let from : 8 ≤ i = place_high sorted i (ordered v t sp keys k entries sorted can.moved can.order) within
      (subst (λ (j : ℕ). separator_of sorted ≤ j) (sym at_key) above) in
      has_turned t minor major at n sp keys k entries sorted (upper_of major sp sorted) v p w can
      (is ∙ ap (λ (h : ℕ). restored t keys (twin_words minor major (separator_of sorted) can.words) 3 (entered h v)) half_is)
      split
      (ways_major minor major (lower_span sp (separator_of sorted)) (upper_span sp (separator_of sorted)) v.grip.holds v.ways
      can.apart can.minor_unheld)
      (known_major minor major (lower_of minor sp sorted) (upper_of major sp sorted) v.grip.holds v.known can.apart
      can.minor_unheld)
      header index place slots held (half_high k sorted (lower_of minor sp sorted) (upper_of major sp sorted) test)
      (high_inside v t sp keys k entries sorted can.moved can.order major above) can.major_there
      (omega (arith, index_is, within, from))
      (high_key v t sp keys k entries sorted can.moved can.order major i index within (omega (arith, index_is, from)) at_key)
      (stands ∙ ap (λ (h : ℕ). page_at v.layout.slots h ((16 + 3 * index) + 1)) half_is)
      (holds ∙ ap (λ (h : ℕ). slots ++ h ∷ []) half_is)

  pub turned_half : ((k.key < separator_of sorted) × (half ≡ minor)) ⊎ ((separator_of sorted ≤ k.key) × (half ≡ major))
      → ((k.key < separator_of sorted) × (index ≡ i)) ⊎ ((separator_of sorted ≤ k.key) × (index ≡ i - 8))
      → HasTurned t sp k sorted minor major place slots held v w
  turned_half half_is index_is = elim half_is [
    | inl low ↦ elim index_is [
      | inl first ↦ turned_low low.0 low.1 first.1
      | inr second ↦ let a = low.0 in let b = second.0 in absurd (omega (arith, a, b))
    ]
    | inr high ↦ elim index_is [
      | inl first ↦ let a = first.0 in let b = high.0 in absurd (omega (arith, a, b))
      | inr second ↦ turned_high high.0 high.1 second.1
    ]
  ]
