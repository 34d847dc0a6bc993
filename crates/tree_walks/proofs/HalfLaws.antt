-- From a split leaf to its half.
use Rattle.std.proofs.Common.{◌≡◌, ◌≢◌, ◌⊎◌, ℕ, ◌+◌, ◌-◌, ◌/◌, ◌%◌, ◌^◌, ◌<◌, ◌≤◌, Bool, true, false, List, refl, sym, ap, ◌∙◌}
use Rattle.std.proofs.Common.{subst, arith, inl, inr, Some, ltb, eqb, eqb-true, eq-eqb, true≢false}
use Rattle.std.specs.Prelude.{Ok, Err, Contains, MatchBool, ◌&&◌, if◌then◌else◌, nat_le}
use Rattle.std.proofs.lemmas.Bool.{and_parts, leb-true}
use Rattle.std.proofs.lemmas.Bool.Decides.{nat_tests}
use Rattle.lists.specs.Elements.{in_head}
use Rattle.serial_model.specs.declared.key.Key.{Key}
use Rattle.homes.specs.declared.places.Span.{Span}
use Rattle.homes.specs.Homes.{in_span}
use Rattle.homes.specs.Laws.{in_span-from}
use Rattle.drop_core.specs.declared.grip.Grip.{Grip}
use Rattle.drop_core.specs.Event.{lower_span, upper_span}
use Rattle.drop_core.specs.Table.{has_slot}
use Rattle.tx_sets.specs.declared.seen.Seen.{Seen}
use Rattle.engine_pages.specs.declared.layout.Layout.{Layout}
use Rattle.engine_pages.specs.declared.view.Known.{Known}
use Rattle.engine_pages.specs.declared.view.Moved.{Moved}
use Rattle.engine_pages.specs.declared.view.RefusalCause.{RefusalCause}
use Rattle.engine_pages.specs.declared.view.RefusalCause.TheVariants as causes
use Rattle.engine_pages.specs.declared.view.SetName.{SetName}
use Rattle.engine_pages.specs.declared.view.View.{View}
use Rattle.engine_pages.specs.declared.view.Way.{Way}
use Rattle.engine_pages.specs.Layout.{page_at}
use Rattle.engine_pages.specs.Pages.{is_tree}
use Rattle.engine_pages.specs.Pointers.{ways_if}
use Rattle.engine_pages.specs.Steps.{read_at, seen_at}
use Rattle.tree_heads.specs.Headers.{HasTwinWays, HasWord, Headed, MetAgain, moved_bit, moved_locked, twin_ways}
use Rattle.array_pages.specs.Finding.{HasGlanced}
use Rattle.tree_walks.specs.declared.ways.Page.{Page}
use Rattle.tree_walks.specs.Steps.{EntersSo, GoesSo, IsFullFor, IsHalfBelow, IsHalfFor, IsSplitAt, Went}
use Rattle.tree_walks.specs.Walks.{CanWalk, HasWalked, IsTreesWord, OnlyWaysOn}
use Rattle.tree_walks.specs.Ways.{IsHeaderChanged, IsMetSo, IsOnWay, IsWide, RefusesWalk, half_for, half_span}
use Rattle.tree_walks.proofs.EnterLaws.{enter_led}
use Rattle.tree_walks.proofs.KeepLaws.{keeps_header}
use Rattle.tree_walks.proofs.PathLaws.{again_paths, head_paths, paths_glanced, paths_same, paths_then}
use Rattle.tree_walks.proofs.LoadLaws.{IsLoad, again_load, glanced_grip, glanced_layout, glanced_moved, glanced_seen}
use Rattle.tree_walks.proofs.LoadLaws.{glanced_went, head_load, load_went, ways_kept, word_glanced}
use Rattle.tree_walks.proofs.StepLaws.{head_word, layout_stays, led_new, led_none, led_then, on_stays, slots_stay, tree_stays, walked_then, went_more, went_self}
use Rattle.tree_walks.proofs.StepLaws.{went_then, word_stays}

-- ---- which half has the key

-- the bounds of a key of a span
pub bounds_of : (sp : Span) (k : Key) → in_span sp k ≡ true → (k.storage ≡ sp.storage) × (sp.low ≤ k.key) × (k.key ≤ sp.high)
bounds_of sp k over =
    let parts = and_parts (eqb k.storage sp.storage) (nat_le sp.low k.key && nat_le k.key sp.high) over in
    let ends = and_parts (nat_le sp.low k.key) (nat_le k.key sp.high) parts.1 in (
      eqb-true k.storage sp.storage parts.0,
      leb-true sp.low k.key ends.0,
      leb-true k.key sp.high ends.1,
    )

-- a span of its storage round it has it
pub span_over : (sp : Span) (k : Key) (low high : ℕ) → k.storage ≡ sp.storage → low ≤ k.key → k.key ≤ high
    → in_span (record { storage = sp.storage; low = low; high = high }) k ≡ true
span_over sp k low high storage from to =
    in_span-from (record { storage = sp.storage; low = low; high = high }) k storage from to

-- the half below the separator
pub lower_half : (k : Key) (v : View) (t : ℕ) (sp : Span) (s : IsSplitAt v t) (separator first : ℕ)
    → in_span sp k ≡ true → separator ≡ (s.moved).separator → first ≡ (s.moved).minor + 1 → k.key < separator
    → IsHalfFor k v t sp (record {
      slot = first - 1;
      span = record { storage = sp.storage; low = sp.low; high = separator - 1 };
    })
lower_half k v t sp s separator first over parted minor less =
    let x = s.moved in
    let test : ltb k.key x.separator ≡ true = subst (λ i. ltb k.key i ≡ true) parted (let e : ltb k.key separator ≡ true = grind (arith, nat_tests) in e) in
    let slot : first - 1 ≡ x.minor = omega (arith, minor) in
    let b = bounds_of sp k over in record {
      moved = x;
      knows = s.knows;
      same = s.same;
      slot = slot ∙ ap (λ (c : Bool). if c then x.minor else x.major) (sym test);
      span =
          ap (λ (i : ℕ). let z : Span = record { storage = sp.storage; low = sp.low; high = i - 1 } in z) parted
          ∙ ap (λ (c : Bool). if c then lower_span sp x.separator else upper_span sp x.separator) (sym test);
      there = subst (λ i. i < v.layout.slots) (sym slot) s.minor;
      over = span_over sp k sp.low (separator - 1) b.0 b.1 (omega (arith, less));
    }

-- the half from it on
pub upper_half : (k : Key) (v : View) (t : ℕ) (sp : Span) (s : IsSplitAt v t) (separator second : ℕ)
    → in_span sp k ≡ true → separator ≡ (s.moved).separator → second ≡ (s.moved).major + 1 → separator ≤ k.key
    → IsHalfFor k v t sp (record {
      slot = second - 1;
      span = record { storage = sp.storage; low = separator; high = sp.high };
    })
upper_half k v t sp s separator second over parted major most =
    let x = s.moved in
    let test : ltb k.key x.separator ≡ false = subst (λ i. ltb k.key i ≡ false) parted (let e : ltb k.key separator ≡ false = grind (arith, nat_tests) in e) in
    let slot : second - 1 ≡ x.major = omega (arith, major) in
    let b = bounds_of sp k over in record {
      moved = x;
      knows = s.knows;
      same = s.same;
      slot = slot ∙ ap (λ (c : Bool). if c then x.minor else x.major) (sym test);
      span =
          ap (λ (i : ℕ). let z : Span = record { storage = sp.storage; low = i; high = sp.high } in z) parted
          ∙ ap (λ (c : Bool). if c then lower_span sp x.separator else upper_span sp x.separator) (sym test);
      there = subst (λ i. i < v.layout.slots) (sym slot) s.major;
      over = span_over sp k separator sp.high b.0 most b.2;
    }

-- it is so behind loads
abbrev pub split_glanced : (v w : View) (t : ℕ) → HasGlanced v w → IsSplitAt v t → IsSplitAt w t
split_glanced v w t g s = record {
  moved = s.moved;
  knows = glanced_moved v w s.moved g s.knows;
  same = s.same;
  minor = subst (λ (y : Layout). (s.moved).minor < y.slots) (sym (glanced_layout v w g)) s.minor;
  major = subst (λ (y : Layout). (s.moved).major < y.slots) (sym (glanced_layout v w g)) s.major;
}

-- its words
pub parted_word : (t at : ℕ) (v : View) (n : ℕ) (u : View) (s : IsSplitAt v t) → HasWord t 5 at v n u
    → n ≡ (s.moved).separator
parted_word t at v n u s h = h.parted s.moved s.knows s.same refl

pub lower_word : (t at there : ℕ) (v : View) (n : ℕ) (u : View) (m : ℕ) (w : View) (s : IsSplitAt v t) → HasWord t 5 at v n u
    → HasWord t 3 there u m w → m ≡ (s.moved).minor + 1
lower_word t at there v n u m w s first h =
    h.minor s.moved (glanced_moved v u s.moved (word_glanced t 5 at v n u first) s.knows) s.same refl

pub upper_word : (t at there : ℕ) (v : View) (n : ℕ) (u : View) (m : ℕ) (w : View) (s : IsSplitAt v t) → HasWord t 5 at v n u
    → HasWord t 4 there u m w → m ≡ (s.moved).major + 1
upper_word t at there v n u m w s first h =
    h.major s.moved (glanced_moved v u s.moved (word_glanced t 5 at v n u first) s.knows) s.same refl

-- ---- the way into a half

-- the half that is held has its way, behind the second load
half_way : (x : Moved) (sp : Span) (k : Key) (holds : List ℕ) (ways : List Way) → has_slot holds (half_for x k) ≡ true
    → Contains (ways_if (has_slot holds x.minor) x.minor (lower_span sp x.separator)
    (ways_if (has_slot holds x.major) x.major (upper_span sp x.separator) ways))
    (record { slot = half_for x k; span = half_span x sp k })
half_way x sp k holds ways held = by_test (ltb k.key x.separator) refl
  where
    by_test : (b : Bool) → ltb k.key x.separator ≡ b
        → Contains (ways_if (has_slot holds x.minor) x.minor (lower_span sp x.separator)
        (ways_if (has_slot holds x.major) x.major (upper_span sp x.separator) ways))
        (record { slot = half_for x k; span = half_span x sp k })
    by_test true test =
        let same : half_for x k ≡ x.minor = ap (λ (c : Bool). if c then x.minor else x.major) test in
        let span : half_span x sp k ≡ lower_span sp x.separator = ap
        (λ (c : Bool). if c then lower_span sp x.separator else upper_span sp x.separator) test in
        subst (λ (y : Way). Contains (ways_if (has_slot holds x.minor) x.minor (lower_span sp x.separator)
        (ways_if (has_slot holds x.major) x.major (upper_span sp x.separator) ways)) y)
        (ap (λ (s : Span). let y : Way = record { slot = x.minor; span = s } in y) (sym span)
        ∙ ap (λ (i : ℕ). let y : Way = record { slot = i; span = half_span x sp k } in y) (sym same))
        (subst (λ (c : Bool). Contains (ways_if c x.minor (lower_span sp x.separator)
        (ways_if (has_slot holds x.major) x.major (upper_span sp x.separator) ways))
        (record { slot = x.minor; span = lower_span sp x.separator }))
        (sym (sym (ap (has_slot holds) same) ∙ held))
        (in_head (record { slot = x.minor; span = lower_span sp x.separator })
        (ways_if (has_slot holds x.major) x.major (upper_span sp x.separator) ways)))
    by_test false test =
        let same : half_for x k ≡ x.major = ap (λ (c : Bool). if c then x.minor else x.major) test in
        let span : half_span x sp k ≡ upper_span sp x.separator = ap
        (λ (c : Bool). if c then lower_span sp x.separator else upper_span sp x.separator) test in
        subst (λ (y : Way). Contains (ways_if (has_slot holds x.minor) x.minor (lower_span sp x.separator)
        (ways_if (has_slot holds x.major) x.major (upper_span sp x.separator) ways)) y)
        (ap (λ (s : Span). let y : Way = record { slot = x.major; span = s } in y) (sym span)
        ∙ ap (λ (i : ℕ). let y : Way = record { slot = i; span = half_span x sp k } in y) (sym same))
        (ways_kept (has_slot holds x.minor) x.minor (lower_span sp x.separator)
        (ways_if (has_slot holds x.major) x.major (upper_span sp x.separator) ways)
        (record { slot = x.major; span = upper_span sp x.separator })
        (subst (λ (c : Bool). Contains (ways_if c x.major (upper_span sp x.separator) ways)
        (record { slot = x.major; span = upper_span sp x.separator }))
        (sym (sym (ap (has_slot holds) same) ∙ held))
        (in_head (record { slot = x.major; span = upper_span sp x.separator }) ways)))

low_again : (t : ℕ) (sp : Span) (at : ℕ) (v : View) (n : ℕ) (w : View) → n < moved_locked → MetAgain t sp at v n w
    → HasTwinWays t sp at v n w
low_again t sp at v n w low m =
    subst (λ c. MatchBool c (HasTwinWays t sp at v n w) (w ≡ read_at at n v))
    (let e : ltb n moved_locked ≡ true = grind (arith, nat_tests) in e) m.1

-- ---- a moved header

-- a header that was locked is locked still, or another word
pub locked_still : (header again : ℕ) → moved_locked ≤ header → header < 2 ^ 62 + 2 ^ 61
    → ((again / 2 ^ 60) % 2 ≡ 1) ⊎ (again ≢ header)
locked_still header again locked small = by_test (eqb again header) refl
  where
    by_test : (b : Bool) → eqb again header ≡ b → ((again / 2 ^ 60) % 2 ≡ 1) ⊎ (again ≢ header)
    by_test true same = let is = eqb-true again header same in inl (omega (arith, is, locked, small))
    by_test false other = inr (λ e. true≢false (sym (eq-eqb again header e) ∙ other))

-- a word of the header that was seen again, behind some steps of the same call
pub header_changed : (k : Key) (headers : List Seen) (slots : List ℕ) (page : Page) (at header : ℕ) (v : View)
    → IsOnWay k v page.slot page.span → at ≡ page_at v.layout.slots page.slot 0 → IsMetSo headers at header
    → (b n : ℕ) (leaf : Known) (e w : View) → Went b slots v e → IsLoad at e n w → Contains v.known leaf
    → leaf.slot ≡ page.slot → seen_at e.reads at ≡ Some header → ((n / 2 ^ 60) % 2 ≡ 1) ⊎ (n ≢ header)
    → IsHeaderChanged k headers at header n v w
header_changed k headers slots page at header v on word set b n leaf e w h l knows same still cause =
    let walk = walked_then v e w h.walked l.walked in record {
      slot = page.slot;
      span = page.span;
      on = on_stays k v w page.slot page.span walk on;
      leaf = inl (leaf, walk.known leaf knows, same);
      word = word ∙ ap (λ (y : Layout). page_at y.slots page.slot 0) (sym (layout_stays v w walk));
      was = seen_at e.reads at;
      saw = record {
        step = l.saw.step;
        since = let one = l.saw.since in let two = h.walked.since in omega (arith, one, two);
        last = l.saw.last;
        kept = l.saw.kept;
        kept_is = l.saw.kept_is;
        stands = l.saw.stands;
      };
      kept = l.kept ∙ h.words at;
      known = elim set [ inl none ↦ inr (none, still) | inr has ↦ inl has ];
      cause = cause;
    }

module _ (k : Key) (pointers headers : List Seen) (slots : List ℕ) (page : Page) (at header : ℕ) (v : View)
    (can : CanWalk slots v) (on : IsOnWay k v page.slot page.span) (word : at ≡ page_at v.layout.slots page.slot 0)
    (moved : moved_bit ≤ header) (met : seen_at v.reads at ≡ Some header) (set : IsMetSo headers at header) where
  -- the header is a word of a tree
  treed : IsTreesWord v at
  treed = subst (IsTreesWord v) (sym word) (head_word k v page.slot page.span on)

  -- it is locked, and was loaded once more
  pub half_locked : (leaf : Known) (n : ℕ) (w : View) → Contains v.known leaf → leaf.slot ≡ page.slot
      → moved_locked ≤ header → header < 2 ^ 62 + 2 ^ 61 → Headed page.slot page.span at v n w
      → GoesSo 4 k pointers headers slots (IsHalfBelow k page) (Err (causes.Conflict at header n)) v w
  half_locked leaf n w knows same locked small h =
      let l = head_load page.slot page.span at v n w can.agree h in record {
        went = went_more 1 4 slots v w (omega arith) (load_went slots at v n w can (word_stays v w at l.walked treed) l);
        led = tt;
        keeps = tt;
        paths = head_paths k page.slot page.span at v n w h;
        came = tt;
        cause = inr (header_changed k headers slots page at header v on word set 0 n leaf v w (went_self slots v can) l knows same met (locked_still header n locked small));
      }

  -- the holds are full
  pub half_wide : (s : Page) (late : List ℕ) (why : RefusalCause) (g e : View) → HasGlanced v g → g.steps ≤ v.steps + 2
      → IsHalfFor k g page.slot page.span s → header < moved_locked → EntersSo s.slot late (Err why) g e
      → GoesSo 4 k pointers headers late (IsHalfBelow k page) (Err why) v e
  half_wide s late why g e gl most half low h =
      let first = glanced_went 2 slots v g can gl most in
      let went = went_then 2 1 4 slots late v g e (omega arith) first h.went in record {
        went = went;
        led = tt;
        keeps = tt;
        paths = paths_then k v g e h.went.walked (paths_glanced k v g gl) (paths_same k g e h.ways);
        came = tt;
        cause = by_cause why h.cause went.walked;
      }
    where
      by_cause : (other : RefusalCause) → IsFullFor s.slot late other → HasWalked v e
          → RefusesWalk k pointers headers late other v e
      by_cause (causes.Conflict a b c) f walk = absurd f
      by_cause (causes.Full held) f walk = absurd f
      by_cause (causes.Wide set) f walk = (
        subst (λ (q : SetName). IsWide k late q e) (sym f.0)
            (inl (
              f.1,
              inr (record {
                slot = page.slot;
                span = page.span;
                on = on_stays k v e page.slot page.span walk on;
                moved = half.moved;
                knows = h.went.walked.moved half.moved half.knows;
                same = half.same;
                word = header;
                saw =
                    ap (seen_at e.reads) (ap (λ (y : Layout). page_at y.slots page.slot 0) (layout_stays v e walk) ∙ sym word)
                    ∙ (h.seen at ∙ (glanced_seen v g at gl ∙ met));
                split = moved;
                unlocked = low;
                unheld = ap (has_slot late) (sym half.slot) ∙ f.2;
              }),
            )),
        led_then k v g e h.went.walked (led_none k v g (glanced_grip v g gl)) (enter_led k s.slot late why g e h f.2),
      )
      by_cause (causes.NumberLimit clock) f walk = absurd f

  -- the half was entered, and the header loaded again
  module _ (s : Page) (late : List ℕ) (g e : View) (n : ℕ) (w : View) (gl : HasGlanced v g) (most : g.steps ≤ v.steps + 2)
      (half : IsHalfFor k g page.slot page.span s) (h : EntersSo s.slot late (Ok tt) g e)
      (m : MetAgain page.slot page.span at e n w) where
    l : IsLoad at e n w
    l =
        again_load page.slot page.span at e n w half.moved h.went.can.agree h.went.can.trees
        (h.went.walked.moved half.moved half.knows) half.same m

    before : Went 3 late v e
    before = went_then 2 1 3 slots late v g e (omega arith) (glanced_went 2 slots v g can gl most) h.went

    went : Went 4 late v w
    went =
        went_then 3 1 4 late late v e w (omega arith) before
        (load_went late at e n w h.went.can (word_stays v w at (walked_then v e w before.walked l.walked) treed) l)

    paths : OnlyWaysOn k v w
    paths =
        paths_then k v e w l.walked
        (paths_then k v g e h.went.walked (paths_glanced k v g gl) (paths_same k g e h.ways))
        (again_paths k page.slot page.span at e n w half.moved l.walked
        (on_stays k v e page.slot page.span before.walked on)
        (h.went.walked.moved half.moved half.knows) half.same m)

    pub half_changed : (leaf : Known) → Contains v.known leaf → leaf.slot ≡ page.slot → n ≢ header
        → GoesSo 4 k pointers headers late (IsHalfBelow k page) (Err (causes.Conflict at header n)) v w
    half_changed leaf knows same other = record {
      went = went;
      led = tt;
      keeps = tt;
      paths = paths;
      came = tt;
      cause = inr (header_changed k headers late page at header v on word set 3 n leaf e w before l knows same
          (h.seen at ∙ (glanced_seen v g at gl ∙ met)) (inr other));
    }

    way_is : n ≡ header → header < moved_locked → Contains w.ways (record { slot = s.slot; span = s.span })
    way_is same low =
        let x = half.moved in
        let t = low_again page.slot page.span at e n w (subst (λ i. i < moved_locked) (sym same) low) m in
        let is = t.is x (h.went.walked.moved x half.knows) half.same in
        subst (λ (z : View). Contains z.ways (record { slot = s.slot; span = s.span })) (sym is)
        (subst (λ (y : Way). Contains (twin_ways x page.span (read_at at n e)).ways y)
        (ap (λ (i : ℕ). let y : Way = record { slot = i; span = half_span x page.span k } in y) (sym half.slot)
        ∙ ap (λ (q : Span). let y : Way = record { slot = s.slot; span = q } in y) (sym half.span))
        (half_way x page.span k e.grip.holds e.ways (ap (has_slot e.grip.holds) (sym half.slot) ∙ h.held)))

    pub half_come : n ≡ header → header < moved_locked
        → GoesSo 4 k pointers headers late (IsHalfBelow k page) (Ok s) v w
    half_come same low =
        let walk = walked_then g e w h.went.walked l.walked in
        let here : IsOnWay k w s.slot s.span = record {
          way = way_is same low;
          tree = subst (λ (q : Span). is_tree w.layout.decls q.storage ≡ true) (sym half.span)
              (by_half (ltb k.key (half.moved).separator));
          there = slots_stay g w s.slot walk half.there;
          over = half.over;
        } in record {
          went = went;
          led = led_new k s.slot s.span v w here
              (λ q now was. h.only q (sym (ap (λ (z : Grip). has_slot z.holds q) l.grip) ∙ now)
              (ap (λ (z : Grip). has_slot z.holds q) (glanced_grip v g gl) ∙ was));
          keeps = keeps_header k pointers headers slots page.slot page.span at n v w can on word
              (subst (IsMetSo headers at) (sym same) set) l.met
              (λ a apart. l.others a apart ∙ (h.seen a ∙ glanced_seen v g a gl));
          paths = paths;
          came = (
            here,
            record {
              moved = half.moved;
              knows = walk.moved half.moved half.knows;
              same = half.same;
              slot = half.slot;
              span = half.span;
            },
          );
          cause = tt;
        }
      where
        by_half : (b : Bool) → is_tree w.layout.decls
            (if b then lower_span page.span (half.moved).separator else upper_span page.span (half.moved).separator).storage ≡ true
        by_half true = tree_stays v w page.span.storage went.walked on.tree
        by_half false = tree_stays v w page.span.storage went.walked on.tree
