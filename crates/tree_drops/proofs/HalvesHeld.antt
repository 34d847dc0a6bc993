-- The halves of a leaf that was split are entered, one after the other.
use Rattle.std.proofs.Common.{Some, ◌≡◌, ◌≢◌, ◌⊎◌, inl, inr, ℕ, ◌+◌, ◌-◌, ◌<◌, ◌≤◌, Bool, true, false, true≢false, eqb}
use Rattle.std.proofs.Common.{eqb-true, eq-eqb, List, [], ◌∷◌, ◌++◌, length, refl, sym, ap, ◌∙◌, subst, arith}
use Rattle.std.proofs.Common.{append_assoc, append-nil}
use Rattle.std.specs.Prelude.{◌||◌, MatchBool, nat_lt, reverse, Err}
use Rattle.std.specs.List.{Contains}
use Rattle.lists.specs.Elements.{in_cases, in_head, in_none, in_tail}
use Rattle.homes.specs.declared.places.Span.{Span}
use Rattle.drop_core.specs.Event.{lower_span, upper_span}
use Rattle.drop_core.specs.Table.{has_slot}
use Rattle.engine_pages.specs.declared.layout.Layout.{Layout}
use Rattle.engine_pages.specs.declared.view.KeptWhy.{KeptWhy}
use Rattle.engine_pages.specs.declared.view.KeptWhy.TheVariants.{Changed}
use Rattle.engine_pages.specs.declared.view.Moved.{Moved}
use Rattle.engine_pages.specs.declared.view.View.{View}
use Rattle.engine_pages.specs.declared.view.Way.{Way}
use Rattle.engine_pages.specs.Layout.{page_at}
use Rattle.engine_pages.specs.Pages.{is_tree}
use Rattle.engine_pages.specs.Pointers.{ways_if}
use Rattle.engine_pages.specs.Slots.{entered}
use Rattle.engine_pages.specs.Steps.{read_at, glance, kept_at, seen_at, with_read}
use Rattle.tree_heads.specs.Headers.{moved_locked, twin_ways, HasTwinWays, MetAgain, IsTreeAt}
use Rattle.chain_steps.specs.declared.halves.Half.{Half}
use Rattle.chain_steps.specs.Swings.{slots_of}
use Rattle.page_drops.specs.declared.noting.Kept.{Kept}
use Rattle.page_drops.specs.Works.{HasTurnedFrom, read_of, HasGlanced, IsNoted, KeepsReads}
use Rattle.page_drops.proofs.Entries.{reads_glanced, reads_more, reads_same, reads_self, reads_then, entry_of}
use Rattle.page_drops.proofs.Entries.{own_entry, seen_of}
use Rattle.tree_drops.specs.declared.chains.Split.{Split}
use Rattle.tree_drops.specs.Chains.{lower_of, span_in, split_header, upper_of, way_in, AreFresh, CanEnter, ChainLooks}
use Rattle.tree_drops.specs.Chains.{HasEntered, HasEnteredSo, HasMetOther, HoldsSame, IsBeside, KeepsChain, HasBoth}
use Rattle.tree_drops.specs.Visits.{IsHeaderCause}
use Rattle.tree_drops.proofs.Chaining.{chain_then, chained_self, keeps_noted, chain_self, holds_self, tree_at_chained}
use Rattle.tree_drops.proofs.TreeHolds.{or_not, way_of}
use Rattle.engine_pages.specs.declared.view.Read.{Read}
use Rattle.engine_pages.specs.declared.view.Role.TheVariants.{Keeper}
use Rattle.page_drops.specs.Calls.{slots_on}

-- ---- the pass went on with them

-- it has what it had, but for what it saw, the slots that it holds, and ways into them
pub record Entering (v w : View) : Type 0 where
  pub is : w ≡ record v {
    steps = w.steps;
    last = w.last;
    reads = w.reads;
    grip = record v.grip { holds = w.grip.holds };
    ways = w.ways;
  }
  pub later : v.steps ≤ w.steps
  pub ways : (y : Way) → Contains v.ways y → Contains w.ways y

abbrev as_entering : View → View → View
as_entering z w = record z {
  steps = w.steps;
  last = w.last;
  reads = w.reads;
  grip = record z.grip { holds = w.grip.holds };
  ways = w.ways;
}

pub entering_self : (v : View) → Entering v v
entering_self v = record { is = refl; later = omega arith; ways = λ y has. has }

pub entering_then : (u v w : View) → Entering u v → Entering v w → Entering u w
entering_then u v w a b =
    let one = a.later in
    let two = b.later in record {
      is = b.is ∙ ap (λ (z : View). as_entering z w) a.is;
      later = omega (arith, one, two);
      ways = λ y has. b.ways y (a.ways y has);
    }

pub entering_glanced : (v w : View) → HasGlanced v w → Entering v w
entering_glanced v w h =
    subst (λ (z : View). Entering v z) (sym h.is) record { is = refl; later = h.later; ways = λ y has. has }

pub entering_read : (at n : ℕ) (v w : View) → w ≡ read_at at n v → Entering v w
entering_read at n v w is =
    subst (λ (z : View). Entering v z) (sym is) record { is = refl; later = omega arith; ways = λ y has. has }

pub entering_entered : (t : ℕ) (v w : View) → w ≡ entered t v → Entering v w
entering_entered t v w is =
    subst (λ (z : View). Entering v z) (sym is) record { is = refl; later = omega arith; ways = λ y has. has }

-- a way more, or none
pub more_way : (b : Bool) (m : ℕ) (sp : Span) (ways : List Way) (y : Way) → Contains ways y → Contains (ways_if b m sp ways) y
more_way true m sp ways y has = in_tail y (record { slot = m; span = sp }) ways has
more_way false m sp ways y has = has

pub entering_twins : (x : Moved) (sp : Span) (at n : ℕ) (v w : View) → w ≡ twin_ways x sp (read_at at n v) → Entering v w
entering_twins x sp at n v w is =
    subst (λ (z : View). Entering v z) (sym is) record {
      is = refl;
      later = omega arith;
      ways = λ y has.
          more_way (has_slot v.grip.holds x.minor) x.minor (lower_span sp x.separator)
          (ways_if (has_slot v.grip.holds x.major) x.major (upper_span sp x.separator) v.ways) y
          (more_way (has_slot v.grip.holds x.major) x.major (upper_span sp x.separator) v.ways y has);
    }

pub chain_entering : (v w : View) → Entering v w → ChainLooks v w
chain_entering v w h =
    subst (λ (z : View). ChainLooks v z) (sym h.is) record {
      on = record {
        chains = refl;
        later = h.later;
        ways = h.ways;
        known = λ y has. has;
        moved = λ y has. has;
        inners = λ y has. has;
        versions = λ y has. has;
        leads = λ y has. has;
        touched = λ z has. inl has;
      };
      locks = refl;
      took = refl;
      heads = refl;
      sealed = refl;
    }

-- ---- a header that is loaded again

-- it was seen
pub record AgainSo (at n : ℕ) (v w : View) : Type 0 where
  pub on : Entering v w
  pub last : w.last ≡ Some (glance v.steps at n)
  pub reads : w.reads ≡ with_read v.reads at n

pub twins_so : (t : ℕ) (sp : Span) (at n : ℕ) (x : Moved) (v w : View) → Contains v.moved x → x.slot ≡ t → HasTwinWays t sp at v n w
    → AgainSo at n v w
twins_so t sp at n x v w has same h =
    let is = h.is x has same in record {
      on = entering_twins x sp at n v w is;
      last = ap (λ (z : View). z.last) is;
      reads = ap (λ (z : View). z.reads) is;
    }

again_so : (t : ℕ) (sp : Span) (at n : ℕ) (x : Moved) (v w : View) → Contains v.moved x → x.slot ≡ t → MetAgain t sp at v n w
    → AgainSo at n v w
again_so t sp at n x v w has same again = by_test (nat_lt n moved_locked) again.1
  where
    by_test : (b : Bool) → MatchBool b (HasTwinWays t sp at v n w) (w ≡ read_at at n v) → AgainSo at n v w
    by_test true h = twins_so t sp at n x v w has same h
    by_test false is = record {
      on = entering_read at n v w is;
      last = ap (λ (z : View). z.last) is;
      reads = ap (λ (z : View). z.reads) is;
    }

pub again_role : (t : ℕ) (sp : Span) (at n : ℕ) (x : Moved) (v w : View) → Contains v.moved x → x.slot ≡ t → MetAgain t sp at v n w
    → v.role ≡ Keeper → w.role ≡ Keeper
again_role t sp at n x v w has same again keeper =
    ap (λ (z : View). z.role) (again_so t sp at n x v w has same again).on.is ∙ keeper

pub again_last : (t : ℕ) (sp : Span) (at n : ℕ) (x : Moved) (v w : View) → Contains v.moved x → x.slot ≡ t → MetAgain t sp at v n w
    → w.last ≡ Some (glance v.steps at n)
again_last t sp at n x v w has same again = (again_so t sp at n x v w has same again).last

-- the entry of its word says what it was before
pub again_read : (t : ℕ) (sp : Span) (at n m : ℕ) (x : Moved) (v w : View) → Contains v.moved x → x.slot ≡ t → MetAgain t sp at v n w
    → seen_at v.reads at ≡ Some m → (r : Read) × (read_of w.reads at ≡ Some r) × (r.seen ≡ n) × (r.was ≡ Some m)
again_read t sp at n m x v w has same again was =
    let so = again_so t sp at n x v w has same again in (
      entry_of v.reads at n (kept_at v.reads at),
      ap (λ list. read_of list at) so.reads ∙ own_entry v.reads at n (kept_at v.reads at),
      refl,
      was,
    )

-- so a note that it had changed is due
pub again_due : (t : ℕ) (sp : Span) (at n m : ℕ) (x : Moved) (v w : View) → Contains v.moved x → x.slot ≡ t → MetAgain t sp at v n w
    → seen_at v.reads at ≡ Some m → n ≢ m → HasTurnedFrom w at n m
again_due t sp at n m x v w has same again was other =
    let read = again_read t sp at n m x v w has same again was in
    record { other = other; read = read.0; has = read.1; now = read.2; was = read.3 }

-- ---- the ways that are known then

abbrev pub added_by : Bool → ℕ → Span → List Way
added_by true m sp = record { slot = m; span = sp } ∷ []
added_by false m sp = []

pub ways_added : (b c : Bool) (m k : ℕ) (one two : Span) (ways : List Way)
    → ways_if b m one (ways_if c k two ways) ≡ (added_by b m one ++ added_by c k two) ++ ways
ways_added true true m k one two ways = refl
ways_added true false m k one two ways = refl
ways_added false true m k one two ways = refl
ways_added false false m k one two ways = refl

-- what is in two lists
pub in_either : {A : Type 0} → (xs ys : List A) (z : A) → Contains (xs ++ ys) z → Contains xs z ⊎ Contains ys z
in_either [] ys z has = inr has
in_either (x ∷ xs) ys z has = elim (in_cases z x (xs ++ ys) has) [
  | inl is ↦ inl (subst (λ y. Contains (x ∷ xs) y) is (in_head x xs))
  | inr more ↦ elim (in_either xs ys z more) [ inl old ↦ inl (in_tail z x xs old) | inr new ↦ inr new ]
]

pub in_left_of : {A : Type 0} → (xs ys : List A) (z : A) → Contains xs z → Contains (xs ++ ys) z
in_left_of [] ys z has = absurd (in_none z has)
in_left_of (x ∷ xs) ys z has = elim (in_cases z x xs has) [
  | inl is ↦ subst (λ y. Contains (x ∷ (xs ++ ys)) y) is (in_head x (xs ++ ys))
  | inr more ↦ in_tail z x (xs ++ ys) (in_left_of xs ys z more)
]

pub in_right : {A : Type 0} → (xs ys : List A) (z : A) → Contains ys z → Contains (xs ++ ys) z
in_right [] ys z has = has
in_right (x ∷ xs) ys z has = in_tail z x (xs ++ ys) (in_right xs ys z has)

one_way : (b : Bool) (m : ℕ) (sp : Span) (y : Way) → Contains (added_by b m sp) y → (y ≡ record { slot = m; span = sp }) × (b ≡ true)
one_way true m sp y has = elim (in_cases y (record { slot = m; span = sp }) [] has) [
  | inl is ↦ (sym is, refl)
  | inr more ↦ absurd (in_none y more)
]
one_way false m sp y has = absurd (in_none y has)

way_there : (b : Bool) (m : ℕ) (sp : Span) → b ≡ true → Contains (added_by b m sp) (record { slot = m; span = sp })
way_there true m sp is = in_head (record { slot = m; span = sp }) []
way_there false m sp is = absurd (true≢false (sym is))

-- a slot that is held is a held one, or a new one
pub has_next : (u m : ℕ) (slots : List ℕ) → has_slot (u ∷ slots) m ≡ true → (u ≡ m) ⊎ (has_slot slots m ≡ true)
has_next u m slots has = by_test (eqb u m) refl has
  where
    by_test : (b : Bool) → eqb u m ≡ b → (b || has_slot slots m) ≡ true → (u ≡ m) ⊎ (has_slot slots m ≡ true)
    by_test true same has = inl (eqb-true u m same)
    by_test false other has = inr has

pub has_first : (u : ℕ) (slots : List ℕ) → has_slot (u ∷ slots) u ≡ true
has_first u slots = ap (λ (b : Bool). b || has_slot slots u) (eq-eqb u u refl)

pub has_later : (u m : ℕ) (slots : List ℕ) → has_slot slots m ≡ true → has_slot (u ∷ slots) m ≡ true
has_later u m slots has = by_test (eqb u m)
  where
    by_test : (b : Bool) → (b || has_slot slots m) ≡ true
    by_test true = refl
    by_test false = has

-- part of a span is no span that is round it, or beside it
part_beside : (part sp : Span) → sp.low ≤ part.low → part.high ≤ sp.high → part.low ≤ part.high → IsBeside part sp → ⊥
part_beside part sp from to some (inl n) =
    let low = n.from in
    let high = n.to in
    elim n.less [ inl less ↦ absurd (omega (arith, less, from)) | inr less ↦ absurd (omega (arith, less, to)) ]
part_beside part sp from to some (inr (inl under)) = absurd (omega (arith, under, from, some))
part_beside part sp from to some (inr (inr over)) = absurd (omega (arith, over, to, some))

module _ (split : Split) (v : View) (can : CanEnter split v) where
  abbrev t : ℕ
  t = split.slot

  abbrev sp : Span
  sp = split.span

  abbrev x : Moved
  x = can.moved

  abbrev at : ℕ
  at = page_at v.layout.slots t 0

  abbrev upper : Half
  upper = upper_of x split

  abbrev lower : Half
  lower = lower_of x split

  low_some : (sp.low ≤ split.separator - 1) × (split.separator - 1 < sp.high) × (0 < split.separator)
  low_some = let low = can.low in let high = can.high in (omega (arith, low), omega (arith, low, high), omega (arith, low))

  moved_in : (u : View) → Entering v u → Contains u.moved x
  moved_in u on = subst (λ (ms : List Moved). Contains ms x) (sym (ap (λ (z : View). z.moved) on.is)) can.has

  -- ---- the header is loaded again

  pub met_entering : (n : ℕ) (u w : View) → Entering v u → HasTwinWays t sp at u n w → Entering u w
  met_entering n u w on h = entering_twins x sp at n u w (h.is x (moved_in u on) can.same)

  ways_are : (n : ℕ) (u w : View) → Entering v u → HasTwinWays t sp at u n w
      → w.ways ≡ (added_by (has_slot u.grip.holds x.minor) x.minor (span_in sp lower)
      ++ added_by (has_slot u.grip.holds x.major) x.major (span_in sp upper)) ++ u.ways
  ways_are n u w on h =
      ap (λ (z : View). z.ways) (h.is x (moved_in u on) can.same)
      ∙ (ap (λ (k : ℕ). ways_if (has_slot u.grip.holds x.minor) x.minor (lower_span sp k)
      (ways_if (has_slot u.grip.holds x.major) x.major (upper_span sp k) u.ways)) can.separator
      ∙ ways_added (has_slot u.grip.holds x.minor) (has_slot u.grip.holds x.major) x.minor x.major (span_in sp lower)
      (span_in sp upper) u.ways)

  minor_way : (n : ℕ) (u w : View) → Entering v u → HasTwinWays t sp at u n w → has_slot u.grip.holds x.minor ≡ true
      → Contains w.ways (way_in sp lower)
  minor_way n u w on h held =
      subst (λ (ws : List Way). Contains ws (way_in sp lower)) (sym (ways_are n u w on h))
      (in_left_of (added_by (has_slot u.grip.holds x.minor) x.minor (span_in sp lower)
      ++ added_by (has_slot u.grip.holds x.major) x.major (span_in sp upper)) u.ways (way_in sp lower)
      (in_left_of (added_by (has_slot u.grip.holds x.minor) x.minor (span_in sp lower))
      (added_by (has_slot u.grip.holds x.major) x.major (span_in sp upper)) (way_in sp lower)
      (way_there (has_slot u.grip.holds x.minor) x.minor (span_in sp lower) held)))

  major_way : (n : ℕ) (u w : View) → Entering v u → HasTwinWays t sp at u n w → has_slot u.grip.holds x.major ≡ true
      → Contains w.ways (way_in sp upper)
  major_way n u w on h held =
      subst (λ (ws : List Way). Contains ws (way_in sp upper)) (sym (ways_are n u w on h))
      (in_left_of (added_by (has_slot u.grip.holds x.minor) x.minor (span_in sp lower)
      ++ added_by (has_slot u.grip.holds x.major) x.major (span_in sp upper)) u.ways (way_in sp upper)
      (in_right (added_by (has_slot u.grip.holds x.minor) x.minor (span_in sp lower))
      (added_by (has_slot u.grip.holds x.major) x.major (span_in sp upper)) (way_in sp upper)
      (way_there (has_slot u.grip.holds x.major) x.major (span_in sp upper) held)))

  tree_now : (n : ℕ) (u w : View) → Entering v u → HasTwinWays t sp at u n w → is_tree w.layout.decls sp.storage ≡ true
  tree_now n u w on h =
      ap (λ (l : Layout). is_tree l.decls sp.storage) (h.layout ∙ ap (λ (z : View). z.layout) on.is) ∙ can.page.tree

  -- ---- neither half is held before

  -- a slot that is held has a way that isn't over a part of the keys
  unheld : (n m : ℕ) (part : Span) (u w : View) → Entering v u → HasTwinWays t sp at u n w → part.storage ≡ sp.storage
      → sp.low ≤ part.low → part.high ≤ sp.high → (sp.low < part.low) ⊎ (part.high < sp.high) → part.low ≤ part.high
      → (has_slot u.grip.holds m ≡ true → Contains w.ways (record { slot = m; span = part }))
      → u.grip.holds ≡ v.grip.holds → has_slot v.grip.holds m ≡ false
  unheld n m part u w on h storage from to less some new same =
      or_not (has_slot v.grip.holds m) (λ held.
      let one = way_of v.ways m (can.held m held) in
      let own : Way = record { slot = m; span = part } in
      let there : Contains w.ways one.0 = (met_entering n u w on h).ways one.0 (on.ways one.0 one.1) in
      let is : part ≡ (one.0).span =
      h.trees.spans own one.0 (new (ap (λ (hs : List ℕ). has_slot hs m) same ∙ held)) there (sym one.2)
      (ap (λ k. is_tree w.layout.decls k) storage ∙ tree_now n u w on h) in
      elim (can.parts one.0 one.1) [
        | inl first ↦
            let whole : part ≡ sp = is ∙ ap (λ (y : Way). y.span) first in
            let low : part.low ≡ sp.low = ap (λ (z : Span). z.low) whole in
            let high : part.high ≡ sp.high = ap (λ (z : Span). z.high) whole in
            elim less [ inl one-less ↦ absurd (omega (arith, one-less, low)) | inr two-less ↦ absurd (omega (arith, two-less, high)) ]
        | inr beside ↦ part_beside part sp from to some (subst (λ (z : Span). IsBeside z sp) (sym is) beside)
      ])

  -- both are free
  pub record AreFree : Type 0 where
    pub minor : has_slot v.grip.holds x.minor ≡ false
    pub major : has_slot v.grip.holds x.major ≡ false

  pub free_so : (n : ℕ) (u w : View) → Entering v u → u.grip.holds ≡ v.grip.holds → HasTwinWays t sp at u n w → AreFree
  free_so n u w on same h =
      let low = can.low in
      let high = can.high in record {
        minor = unheld n x.minor (span_in sp lower) u w on h refl (omega arith) (omega (arith, low, high)) (inr (omega (arith, low, high)))
            (omega (arith, low)) (minor_way n u w on h) same;
        major = unheld n x.major (span_in sp upper) u w on h refl (omega (arith, low)) (omega arith) (inl (omega (arith, low)))
            (omega (arith, high)) (major_way n u w on h) same;
      }

  -- where the upper one is held the lower one is another slot
  pub lower_free : (n : ℕ) (u w : View) → Entering v u → u.grip.holds ≡ x.major ∷ v.grip.holds → AreFree → HasTwinWays t sp at u n w
      → has_slot u.grip.holds x.minor ≡ false
  lower_free n u w on holds free h =
      or_not (has_slot u.grip.holds x.minor) (λ held.
      elim (has_next x.major x.minor v.grip.holds (sym (ap (λ (hs : List ℕ). has_slot hs x.minor) holds) ∙ held)) [
        | inl same ↦
            let own : has_slot u.grip.holds x.major ≡ true =
            ap (λ (hs : List ℕ). has_slot hs x.major) holds ∙ has_first x.major v.grip.holds in
            let one : span_in sp lower ≡ span_in sp upper =
            h.trees.spans (way_in sp lower) (way_in sp upper) (minor_way n u w on h held) (major_way n u w on h own) (sym same)
            (tree_now n u w on h) in
            let high : split.separator - 1 ≡ sp.high = ap (λ (z : Span). z.high) one in
            let top = can.high in
            let low = can.low in absurd (omega (arith, high, top, low))
        | inr old ↦ absurd (true≢false (sym old ∙ free.minor))
      ])

  -- ---- some of them are held

  -- The pass entered these of the halves, and knows ways into them alone.
  pub record Inside (more : List Half) (u : View) : Type 0 where
    pub on : Entering v u
    pub holds : u.grip.holds ≡ reverse (slots_of more) ++ v.grip.holds
    pub new : (m : ℕ) → has_slot v.grip.holds m ≡ false → has_slot u.grip.holds m ≡ true → has_slot (slots_of more) m ≡ true
    pub added : List Way
    pub ways : u.ways ≡ added ++ v.ways
    pub ours : (y : Way) → Contains added y → ((y ≡ way_in sp lower) × (has_slot (slots_of more) x.minor ≡ true))
        ⊎ ((y ≡ way_in sp upper) × (has_slot (slots_of more) x.major ≡ true))
    pub reads : KeepsReads t v u

  pub inside_none : Inside [] v
  inside_none = record {
    on = entering_self v;
    holds = refl;
    new = λ m free held. absurd (true≢false (sym held ∙ free));
    added = [];
    ways = refl;
    ours = λ y has. absurd (in_none y has);
    reads = reads_self t v;
  }

  layout_in : (u : View) → Entering v u → u.layout ≡ v.layout
  layout_in u on = ap (λ (z : View). z.layout) on.is

  pub inside_glanced : (more : List Half) (u w : View) → Inside more u → HasGlanced u w → Inside more w
  inside_glanced more u w a h =
      let holds : w.grip.holds ≡ u.grip.holds = ap (λ (z : View). z.grip.holds) h.is in record {
        on = entering_then v u w a.on (entering_glanced u w h);
        holds = holds ∙ a.holds;
        new = λ m free held. a.new m free (sym (ap (λ (hs : List ℕ). has_slot hs m) holds) ∙ held);
        added = a.added;
        ways = ap (λ (z : View). z.ways) h.is ∙ a.ways;
        ours = a.ours;
        reads = reads_then t v u w (layout_in u a.on) a.reads (reads_glanced t u w h);
      }

  -- the header was read
  pub inside_read : (n : ℕ) (more : List Half) (u w : View) → Inside more u → w ≡ read_at at n u → Inside more w
  inside_read n more u w a is =
      let holds : w.grip.holds ≡ u.grip.holds = ap (λ (z : View). z.grip.holds) is in record {
        on = entering_then v u w a.on (entering_read at n u w is);
        holds = holds ∙ a.holds;
        new = λ m free held. a.new m free (sym (ap (λ (hs : List ℕ). has_slot hs m) holds) ∙ held);
        added = a.added;
        ways = ap (λ (z : View). z.ways) is ∙ a.ways;
        ours = a.ours;
        reads = reads_more t 0 at n v u w (omega arith) refl a.reads (ap (λ (z : View). z.reads) is);
      }

  -- and leads to the halves
  pub inside_met : (n : ℕ) (more : List Half) (u w : View) → AreFree → Inside more u → HasTwinWays t sp at u n w → Inside more w
  inside_met n more u w free a h =
      let is = h.is x (moved_in u a.on) can.same in
      let holds : w.grip.holds ≡ u.grip.holds = ap (λ (z : View). z.grip.holds) is in
      let first : List Way = added_by (has_slot u.grip.holds x.minor) x.minor (span_in sp lower) in
      let second : List Way = added_by (has_slot u.grip.holds x.major) x.major (span_in sp upper) in record {
        on = entering_then v u w a.on (met_entering n u w a.on h);
        holds = holds ∙ a.holds;
        new = λ m free held. a.new m free (sym (ap (λ (hs : List ℕ). has_slot hs m) holds) ∙ held);
        added = (first ++ second) ++ a.added;
        ways =
            ways_are n u w a.on h
            ∙ (ap (λ (ws : List Way). (first ++ second) ++ ws) a.ways ∙ sym (append_assoc (first ++ second) a.added v.ways));
        ours = λ y has. elim (in_either (first ++ second) a.added y has) [
          | inl fresh ↦ elim (in_either first second y fresh) [
            | inl one ↦
                let w-is = one_way (has_slot u.grip.holds x.minor) x.minor (span_in sp lower) y one in
                inl (w-is.0, a.new x.minor free.minor w-is.1)
            | inr two ↦
                let w-is = one_way (has_slot u.grip.holds x.major) x.major (span_in sp upper) y two in
                inr (w-is.0, a.new x.major free.major w-is.1)
          ]
          | inr old ↦ a.ours y old
        ];
        reads = reads_more t 0 at n v u w (omega arith) refl a.reads (ap (λ (z : View). z.reads) is);
      }

  -- by either way
  pub inside_again : (n : ℕ) (more : List Half) (u w : View) → AreFree → Inside more u → MetAgain t sp at u n w → Inside more w
  inside_again n more u w free a again = by_test (nat_lt n moved_locked) again.1
    where
      by_test : (b : Bool) → MatchBool b (HasTwinWays t sp at u n w) (w ≡ read_at at n u) → Inside more w
      by_test true h = inside_met n more u w free a h
      by_test false is = inside_read n more u w a is

  pub inside_first : (n : ℕ) (u w : View) → Inside [] u → MetAgain t sp at u n w → Inside [] w
  inside_first n u w a again = by_test (nat_lt n moved_locked) again.1
    where
      by_test : (b : Bool) → MatchBool b (HasTwinWays t sp at u n w) (w ≡ read_at at n u) → Inside [] w
      by_test true h = inside_met n [] u w (free_so n u w a.on a.holds h) a h
      by_test false is = inside_read n [] u w a is

  -- a half is entered
  entered_in : (old more : List Half) (h : Half) (u w : View) → Inside old u → w ≡ entered h.slot u
      → h.slot ∷ (reverse (slots_of old) ++ v.grip.holds) ≡ reverse (slots_of more) ++ v.grip.holds
      → ((m : ℕ) → (h.slot ≡ m) ⊎ (has_slot (slots_of old) m ≡ true) → has_slot (slots_of more) m ≡ true) → Inside more w
  entered_in old more h u w a is same has =
      let holds : w.grip.holds ≡ h.slot ∷ u.grip.holds = ap (λ (z : View). z.grip.holds) is in record {
        on = entering_then v u w a.on (entering_entered h.slot u w is);
        holds = holds ∙ (ap (λ (hs : List ℕ). h.slot ∷ hs) a.holds ∙ same);
        new = λ m free held.
            has m (elim (has_next h.slot m u.grip.holds (sym (ap (λ (hs : List ℕ). has_slot hs m) holds) ∙ held)) [
              | inl here ↦ inl here
              | inr old ↦ inr (a.new m free old)
            ]);
        added = a.added;
        ways = ap (λ (z : View). z.ways) is ∙ a.ways;
        ours = λ y there. elim (a.ours y there) [
          | inl one ↦ inl (one.0, has x.minor (inr one.1))
          | inr two ↦ inr (two.0, has x.major (inr two.1))
        ];
        reads = reads_then t v u w (layout_in u a.on) a.reads (reads_same t u w (ap (λ (z : View). z.reads) is));
      }

  pub inside_upper : (u w : View) → Inside [] u → w ≡ entered x.major u → Inside (upper ∷ []) w
  inside_upper u w a is =
      entered_in [] (upper ∷ []) upper u w a is refl
      (λ m at-m. elim at-m [
        | inl here ↦ subst (λ i. has_slot (x.major ∷ []) i ≡ true) here (has_first x.major [])
        | inr none ↦ absurd (true≢false (sym none))
      ])

  pub inside_lower : (u w : View) → Inside (upper ∷ []) u → w ≡ entered x.minor u → Inside (upper ∷ lower ∷ []) w
  inside_lower u w a is =
      entered_in (upper ∷ []) (upper ∷ lower ∷ []) lower u w a is refl
      (λ m at-m. elim at-m [
        | inl here ↦
            subst (λ i. has_slot (x.major ∷ x.minor ∷ []) i ≡ true) here
            (has_later x.major x.minor (x.minor ∷ []) (has_first x.minor []))
        | inr old ↦ elim (has_next x.major m [] old) [
          | inl first ↦ subst (λ i. has_slot (x.major ∷ x.minor ∷ []) i ≡ true) first (has_first x.major (x.minor ∷ []))
          | inr none ↦ absurd (true≢false (sym none))
        ]
      ])

  -- ---- what is told

  -- these are of the halves
  abbrev AreHalves : List Half → Type 0
  AreHalves more = (h : Half) → Contains more h → (h ≡ upper) ⊎ (h ≡ lower)

  pub none_half : AreHalves []
  none_half h has = absurd (in_none h has)

  pub upper_half : AreHalves (upper ∷ [])
  upper_half h has = elim (in_cases h upper [] has) [ inl is ↦ inl (sym is) | inr more ↦ absurd (in_none h more) ]

  pub both_halves : AreHalves (upper ∷ lower ∷ [])
  both_halves h has = elim (in_cases h upper (lower ∷ []) has) [
    | inl is ↦ inl (sym is)
    | inr more ↦ elim (in_cases h lower [] more) [ inl is ↦ inr (sym is) | inr none ↦ absurd (in_none h none) ]
  ]

  half_inside : (h : Half) → (h ≡ upper) ⊎ (h ≡ lower) → (sp.low ≤ h.low) × (h.high ≤ sp.high) × (h.slot < v.layout.slots) × (h.low ≤ h.high)
  half_inside h (inl is) =
      let low = can.low in
      let high = can.high in
      subst (λ (z : Half). (sp.low ≤ z.low) × (z.high ≤ sp.high) × (z.slot < v.layout.slots) × (z.low ≤ z.high)) (sym is)
      (omega (arith, low), omega arith, can.major, omega (arith, high))
  half_inside h (inr is) =
      let low = can.low in
      let high = can.high in
      subst (λ (z : Half). (sp.low ≤ z.low) × (z.high ≤ sp.high) × (z.slot < v.layout.slots) × (z.low ≤ z.high)) (sym is)
      (omega arith, omega (arith, low, high), can.minor, omega (arith, low))

  pub entered_so : (old new more : List Half) (u w : View) → Inside more u → AreHalves more → AreFresh v.grip.holds (slots_of more)
      → length more ≤ 2 → new ≡ old ++ more → ChainLooks u w → HoldsSame u w → w.reads ≡ u.reads → HasEntered split old new more v w
  entered_so old new more u w a are fresh few is looks holds reads = record {
    is = is;
    few = few;
    looks = chain_then v u w (chain_entering v u a.on) looks;
    holds = ap (λ g. g.holds) holds.grip ∙ a.holds;
    fresh = fresh;
    added = a.added;
    ways = holds.ways ∙ a.ways;
    ours = λ y has. elim (a.ours y has) [
      | inl one ↦ ap (λ (z : Way). has_slot (slots_of more) z.slot) one.0 ∙ one.1
      | inr two ↦ ap (λ (z : Way). has_slot (slots_of more) z.slot) two.0 ∙ two.1
    ];
    came = λ h has. (
      x,
      looks.on.moved x (moved_in u a.on),
      can.same,
      elim (are h has) [ inl up ↦ inr (ap (λ (z : Half). z.slot) up) | inr down ↦ inl (ap (λ (z : Half). z.slot) down) ],
    );
    inside = λ h has. half_inside h (are h has);
    reads = λ word out. ap (λ list. read_of list word) reads ∙ a.reads word (out t (in_head t []));
  }

  -- the header had changed meanwhile
  pub entered_other : (old new more : List Half) (k : Kept) (b u w : View) → Inside more b → (o : HasMetOther split k b w)
      → o.over ≡ u → Inside more u → AreHalves more → AreFresh v.grip.holds (slots_of more) → length more ≤ 2 → new ≡ old ++ more
      → HasEnteredSo split old new (Err k) v w
  entered_other old new more k b u w at-b o over a are fresh few is =
      let slots : b.layout.slots ≡ v.layout.slots = ap (λ (l : Layout). l.slots) (layout_in b at-b.on) in
      let cause : KeptWhy → ℕ → ℕ → Type 0 = IsHeaderCause v.layout.slots t in
      let notes : IsNoted k u w = subst (λ (z : View). IsNoted k z w) over o.notes in
      let keeps : KeepsChain cause k u w =
      keeps_noted cause (page_at b.layout.slots t 0) o.found (Changed split_header) k u u w (chained_self u) o.is notes
      (ap (λ n. page_at n t 0) slots, o.other) in (
        (
          more,
          entered_so old new more u w a are fresh few is keeps.looks keeps.holds (ap (λ (z : View). z.reads) notes.1),
        ),
        record {
          page = keeps.kept.page;
          is =
              keeps.kept.is
              ∙ ap (λ list. list ++ keeps.kept.page ∷ []) (ap (λ (z : View). z.kept) a.on.is);
          told = keeps.kept.told;
          so = keeps.kept.so;
        },
      )

  -- ---- the steps

  -- what is asked of a look at the header again
  pub page_in : (more : List Half) (u : View) → Inside more u → IsTreeAt u t sp
  page_in more u a = tree_at_chained t sp v u (chain_entering v u a.on).on can.page

  pub role_in : (more : List Half) (u : View) → Inside more u → u.role ≡ Keeper
  role_in more u a = ap (λ (z : View). z.role) a.on.is ∙ can.keeper

  pub slots_in : (more : List Half) (u : View) → Inside more u → u.layout.slots ≡ v.layout.slots
  slots_in more u a = ap (λ (l : Layout). l.slots) (layout_in u a.on)

  pub known_in : (more : List Half) (u : View) → Inside more u → (y : Moved) × Contains u.moved y × (y.slot ≡ t)
  known_in more u a = (x, moved_in u a.on, can.same)

  -- the header, as it was seen, where the halves were entered behind it
  pub seen_met : (n : ℕ) (more : List Half) (u w : View) → Inside more u → HasTwinWays t sp at u n w → seen_at w.reads at ≡ Some n
  seen_met n more u w a h =
      let so = twins_so t sp at n x u w (moved_in u a.on) can.same h in
      ap (λ list. seen_at list at) so.reads
      ∙ seen_of (with_read u.reads at n) at (entry_of u.reads at n (kept_at u.reads at)) (own_entry u.reads at n (kept_at u.reads at))

  pub seen_in : (more : List Half) (u : View) → Inside more u → seen_at u.reads at ≡ Some split_header
      → seen_at u.reads (page_at u.layout.slots t 0) ≡ Some split_header
  seen_in more u a seen = ap (λ k. seen_at u.reads (page_at k t 0)) (slots_in more u a) ∙ seen

  -- a look told where the header stands in the view then
  pub met_at : (n : ℕ) (more : List Half) (u w : View) → Inside more u → HasTwinWays t sp (page_at u.layout.slots t 0) u n w
      → HasTwinWays t sp at u n w
  met_at n more u w a h = subst (λ k. HasTwinWays t sp (page_at k t 0) u n w) (slots_in more u a) h

  pub other_at : (more : List Half) (k : Kept) (u w : View) → Inside more u → (o : HasMetOther split k u w) → MetAgain t sp at u o.found o.over
  other_at more k u w a o = subst (λ m. MetAgain t sp (page_at m t 0) u o.found o.over) (slots_in more u a) o.again

  -- the upper half is new, and the lower one is another
  pub upper_fresh : AreFree → AreFresh v.grip.holds (slots_of (upper ∷ []))
  upper_fresh free = (free.major, tt)

  pub both_fresh : AreFree → has_slot (x.major ∷ v.grip.holds) x.minor ≡ false → AreFresh v.grip.holds (slots_of (upper ∷ lower ∷ []))
  both_fresh free other = (free.major, (other, tt))

  -- ---- each end

  pub ends_first : (old : List Half) (k : Kept) (u w : View) → Inside [] u → HasMetOther split k u w → HasEnteredSo split old old (Err k) v w
  ends_first old k u w a o =
      entered_other old old [] k u o.over w a o refl (inside_first o.found u o.over a (other_at [] k u w a o)) none_half tt (omega arith)
      (sym (append-nil old))

  pub ends_second : (old new : List Half) (k : Kept) (u w : View) → AreFree → Inside (upper ∷ []) u → new ≡ old ++ upper ∷ []
      → HasMetOther split k u w → HasEnteredSo split old new (Err k) v w
  ends_second old new k u w free a is o =
      entered_other old new (upper ∷ []) k u o.over w a o refl
      (inside_again o.found (upper ∷ []) u o.over free a (other_at (upper ∷ []) k u w a o)) upper_half (upper_fresh free) (omega arith) is

  pub ends_third : (old new : List Half) (k : Kept) (u w : View) → AreFree → has_slot (x.major ∷ v.grip.holds) x.minor ≡ false
      → Inside (upper ∷ lower ∷ []) u → new ≡ old ++ upper ∷ lower ∷ [] → HasMetOther split k u w → HasEnteredSo split old new (Err k) v w
  ends_third old new k u w free other a is o =
      entered_other old new (upper ∷ lower ∷ []) k u o.over w a o refl
      (inside_again o.found (upper ∷ lower ∷ []) u o.over free a (other_at (upper ∷ lower ∷ []) k u w a o)) both_halves
      (both_fresh free other) (omega arith) is

  -- both are held
  pub ends_both : (old new : List Half) (u w : View) → AreFree → has_slot (x.major ∷ v.grip.holds) x.minor ≡ false
      → Inside (upper ∷ lower ∷ []) u → new ≡ old ++ upper ∷ lower ∷ [] → HasTwinWays t sp at u split_header w → HasBoth split old new v w
  ends_both old new u w free other a is h =
      let b = inside_met split_header (upper ∷ lower ∷ []) u w free a h in
      let holds : u.grip.holds ≡ x.minor ∷ x.major ∷ v.grip.holds = a.holds in
      let minor-held : has_slot u.grip.holds x.minor ≡ true =
      ap (λ (hs : List ℕ). has_slot hs x.minor) holds ∙ has_first x.minor (x.major ∷ v.grip.holds) in
      let major-held : has_slot u.grip.holds x.major ≡ true =
      ap (λ (hs : List ℕ). has_slot hs x.major) holds ∙ has_later x.minor x.major (x.major ∷ v.grip.holds) (has_first x.major v.grip.holds) in
      let minor-way = minor_way split_header u w a.on h minor-held in
      let major-way = major_way split_header u w a.on h major-held in record {
        moved = x;
        has = can.has;
        same = can.same;
        entered = entered_so old new (upper ∷ lower ∷ []) w w b both_halves (both_fresh free other) (omega arith) is (chain_self w)
            (holds_self w) refl;
        minor = minor-way;
        major = major-way;
        only = λ y has. elim (in_either b.added v.ways y (subst (λ (ws : List Way). Contains ws y) b.ways has)) [
          | inl new-way ↦ elim (b.ours y new-way) [ inl one ↦ inr (inl one.0) | inr two ↦ inr (inr two.0) ]
          | inr old-way ↦ inl old-way
        ];
        held = λ m has.
            elim (has_next x.minor m (x.major ∷ v.grip.holds) (sym (ap (λ (hs : List ℕ). has_slot hs m) b.holds) ∙ has)) [
              | inl here ↦ subst (λ k. has_slot (slots_on w.ways) k ≡ true) here (on_way w.ways (way_in sp lower) minor-way)
              | inr more ↦ elim (has_next x.major m v.grip.holds more) [
                | inl here ↦ subst (λ k. has_slot (slots_on w.ways) k ≡ true) here (on_way w.ways (way_in sp upper) major-way)
                | inr old-slot ↦
                    let one = way_of v.ways m (can.held m old-slot) in
                    subst (λ k. has_slot (slots_on w.ways) k ≡ true) one.2 (on_way w.ways one.0 (b.on.ways one.0 one.1))
              ]
            ];
        kept = ap (λ (z : View). z.kept) b.on.is;
        seen = seen_met split_header (upper ∷ lower ∷ []) u w a h;
      }
    where
      on_way : (ways : List Way) (y : Way) → Contains ways y → has_slot (slots_on ways) y.slot ≡ true
      on_way [] y has = absurd (in_none y has)
      on_way (z ∷ ways) y has = elim (in_cases y z ways has) [
        | inl is ↦ subst (λ (k : Way). has_slot (slots_on (z ∷ ways)) k.slot ≡ true) is (has_first z.slot (slots_on ways))
        | inr more ↦ has_later z.slot y.slot (slots_on ways) (on_way ways y more)
      ]
