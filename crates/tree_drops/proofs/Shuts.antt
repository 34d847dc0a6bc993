-- Pointers of an interior page are shut, one after another, and the page is swung from, or they are opened again.
use Rattle.std.proofs.Common.{◌≡◌, ◌≢◌, inl, inr, ℕ, suc, ◌+◌, ◌-◌, ◌/◌, ◌^◌, ◌<◌, ◌≤◌, Bool, true, false, true≢false, eqb, eq-eqb, eqb-true, ne_eqb}
use Rattle.std.proofs.Common.{cond, not, ltb, ltb-true, ltb-false, List, [], ◌∷◌, ◌++◌, length, get_or, refl, sym, ap, ◌∙◌, subst, arith, Some}
use Rattle.std.specs.Prelude.{◌&&◌, ◌||◌, MatchBool}
use Rattle.std.specs.List.{Contains, slice_get}
use Rattle.lists.specs.Elements.{at_below, in_cases, in_head, in_tail}
use Rattle.homes.specs.declared.places.At.{At}
use Rattle.homes.specs.declared.places.At.TheVariants.{Root, In}
use Rattle.homes.specs.declared.places.Span.{Span}
use Rattle.homes.specs.Homes.{same_at}
use Rattle.homes.specs.Laws.{same_at-self}
use Rattle.snapshot_store.specs.declared.place.PagePlace.{PagePlace}
use Rattle.snapshot_store.specs.Places.{page as page_words}
use Rattle.engine_rule.specs.JointState.{is_slot, slot_at as slot_with}
use Rattle.drop_core.specs.Event.{without}
use Rattle.drop_core.specs.Table.{at_index, has_slot}
use Rattle.engine_pages.specs.declared.view.KeptPage.{KeptPage}
use Rattle.engine_pages.specs.declared.view.KeptWhy.{KeptWhy}
use Rattle.engine_pages.specs.declared.view.KeptWhy.TheVariants.{Locked, Unlike, Under}
use Rattle.engine_pages.specs.declared.view.Shut.{Shut}
use Rattle.engine_pages.specs.declared.view.View.{View}
use Rattle.engine_pages.specs.Layout.{page_at, words_of}
use Rattle.engine_pages.specs.Pages.{part_between}
use Rattle.engine_pages.specs.Pointers.{IsPointerAt}
use Rattle.engine_pages.specs.Resident.{tree_below}
use Rattle.engine_pages.specs.Slots.{MayRetire, other_copies, other_heads, other_inners, other_leaves, other_shuts, retired}
use Rattle.engine_pages.specs.Steps.{kept_at, read_at, seen_at}
use Rattle.pointer_swings.specs.Children.{keys_of}
use Rattle.pointer_swings.specs.Shuts.{CanReopen, CanShut, HasShut as ShutIs, reopened, shut_at, shut_elsewhere, shut_of}
use Rattle.pointer_swings.specs.Swings.{CanSwing, HasSwung, swung}
use Rattle.page_drops.specs.declared.noting.Kept.{Kept}
use Rattle.page_drops.specs.Works.{IsOutside, KeepsReads}
use Rattle.page_drops.proofs.Entries.{entry_of, own_entry, reads_more, reads_self, seen_same}
use Rattle.page_drops.proofs.Holds.{half_led}
use Rattle.tree_drops.specs.Branches.{AreAlike, AreShut, AtBranch, CanDropBranchFrom, HasDroppedBranch, HasShut, IsBranchCause}
use Rattle.tree_drops.specs.Branches.{IsBranchCauseBelow, IsChildOf, IsInnerOf, IsParted, IsShutSo, KeepsBranch, OnlyGoes, ShutsOn}
use Rattle.tree_drops.proofs.Parts.{JustMet, branch_earlier, branch_here, branch_on, on_read, on_then, pages_on}
use Rattle.tree_drops.proofs.Swung.{not_swung}

-- ---- what is asked stays so

pub place_on : (v w : View) (x : At) (sp : Span) (at : ℕ) → ShutsOn v w → IsPointerAt v x sp at → IsPointerAt w x sp at
place_on v w (Root r) sp at on is = subst (λ (z : View). IsPointerAt z (Root r) sp at) (sym on.shut) is
place_on v w (In y) sp at on is =
    subst (λ (z : View). IsPointerAt z (In y) sp at) (sym on.shut) (elim is [
      | inl c ↦ inl record {
        way = c.way;
        has = c.has;
        slot = c.slot;
        kind = c.kind;
        inner = c.inner;
        index = c.index;
        span = c.span;
        word = c.word;
      }
      | inr b ↦ inr record {
        way = b.way;
        has = b.has;
        slot = b.slot;
        kind = b.kind;
        inner = b.inner;
        knows = b.knows;
        same = b.same;
        index = b.index;
        span = b.span;
        word = b.word;
      }
    ])

-- a pointer that is shut is that still, with more of them
pub shut_still : (t page j : ℕ) (sp : Span) (separators : List ℕ) (v w : View) → w.pages ≡ v.pages
    → ((z : Shut) → Contains v.shuts z → Contains w.shuts z) → IsShutSo t sp page separators j v → IsShutSo t sp page separators j w
shut_still t page j sp separators v w pages more h = record {
  child = h.child;
  is = subst (λ ps. IsChildOf ps sp page separators j h.child) (sym pages) h.is;
  low = h.low;
  shut = more (shut_of (at_index t j) h.child.number) h.shut;
}

-- ---- one pointer more

pub can_shut : (t page count j at child : ℕ) (sp part : Span) (v : View) (x : AtBranch t sp page count v) → j < count
    → part ≡ part_between sp (x.inner).separators j → at ≡ page_at v.layout.slots t (4 + j) → child < 2 ^ 60
    → CanShut v (at_index t j) part at child
can_shut t page count j at child sp part v x less span word low =
    record { keeper = x.tree.keeper; place = branch_here t page count j at sp part v x less span word; free = low }

pub shut_now : (t j at child found : ℕ) (v w : View) → found ≡ child → child < 2 ^ 32
    → ShutIs (at_index t j) at child v found w → HasShut t j child v w
shut_now t j at child found v w same low h =
    let is : w ≡ shut_at (at_index t j) at found v =
    subst (λ c. MatchBool c (w ≡ shut_at (at_index t j) at found v) (w ≡ read_at at found v)) (eq-eqb found child same) h in record {
      on = subst (λ (z : View). ShutsOn v z) (sym is)
          record { shut = refl; later = omega arith; leads = λ z has. has };
      kept = ap (λ (z : View). z.kept) is;
      low = low;
      shuts = ap (λ (z : View). z.shuts) is ∙ ap (λ n. shut_of (at_index t j) n ∷ v.shuts) same;
    }

pub shut_missed : (t j at child found : ℕ) (v w : View) → found ≢ child → ShutIs (at_index t j) at child v found w
    → w ≡ read_at at found v
shut_missed t j at child found v w other h =
    subst (λ c. MatchBool c (w ≡ shut_at (at_index t j) at found v) (w ≡ read_at at found v)) (ne_eqb found child other) h

pub reads_shut : (t j at child found : ℕ) (v w : View) → j < 30 → at ≡ page_at v.layout.slots t (4 + j)
    → ShutIs (at_index t j) at child v found w → KeepsReads t v w
reads_shut t j at child found v w few place h = by_test (eqb found child) h
  where
    by_test : (c : Bool) → MatchBool c (w ≡ shut_at (at_index t j) at found v) (w ≡ read_at at found v) → KeepsReads t v w
    by_test true is =
        reads_more t (4 + j) at (found + 2 ^ 60) v v w (omega (arith, few)) place (reads_self t v) (ap (λ (z : View). z.reads) is)
    by_test false is =
        reads_more t (4 + j) at found v v w (omega (arith, few)) place (reads_self t v) (ap (λ (z : View). z.reads) is)

-- ---- causes

pub branch_locked : (slots t j at seen page : ℕ) (sp : Span) (pages : List (List ℕ)) → j < 30 → at ≡ page_at slots t (4 + j)
    → 2 ^ 60 ≤ seen → IsBranchCause slots t sp pages page Locked at seen
branch_locked slots t j at seen page sp pages few place high = (j, few, place, high)

pub branch_under : (slots t j at seen page : ℕ) (sp : Span) (pages : List (List ℕ)) → j < 30 → at ≡ page_at slots t (4 + j)
    → 2 ^ 32 ≤ seen → seen < 2 ^ 60 → IsBranchCause slots t sp pages page Under at seen
branch_under slots t j at seen page sp pages few place low high = (j, few, place, (seen / 2 ^ 32 - 1, half_led seen low high))

pub branch_unlike : (slots t j at seen page : ℕ) (sp : Span) (pages : List (List ℕ)) (q : PagePlace)
    → slice_get (tree_below pages sp page) j ≡ Some q → at ≡ page_at slots t (4 + j) → seen < 2 ^ 32 → seen ≢ q.number
    → IsBranchCause slots t sp pages page Unlike at seen
branch_unlike slots t j at seen page sp pages q here place low other =
    inl record { index = j; child = q; at = here; place = place; bare = low; unlike = other }

pub branch_parted : (slots t i at seen page : ℕ) (sp : Span) (pages : List (List ℕ)) (wanted : ℕ)
    → at ≡ page_at slots t (34 + i) → wanted ≡ get_or (page_words pages page) (34 + i) 0 → seen ≢ wanted
    → IsParted slots t (page_words pages page) Unlike at seen
branch_parted slots t i at seen page sp pages wanted place is other =
    (refl, inr (i, place, λ same. other (same ∙ sym is)))

-- causes, told of an earlier view
pub below_earlier : (t page at before : ℕ) (sp : Span) (v u : View) → ShutsOn v u → (why : KeptWhy) (word seen : ℕ)
    → IsBranchCauseBelow u.layout.slots t sp u.pages page at before why word seen
    → IsBranchCauseBelow v.layout.slots t sp v.pages page at before why word seen
below_earlier t page at before sp v u on why word seen (inl so) = inl (branch_earlier t page sp v u on why word seen so)
below_earlier t page at before sp v u on why word seen (inr so) = inr so

-- ---- more of them are shut

below_next : (i n : ℕ) → i < n + 1 → (i ≡ n → ⊥) → i < n
below_next i n less apart = by_test (ltb i n) refl
  where
    by_test : (c : Bool) → ltb i n ≡ c → i < n
    by_test true low = ltb-true i n low
    by_test false high = let up = ltb-false i n high in absurd (apart (let same : i ≡ n = omega (arith, up, less) in same))

pub shut_next : (t page n : ℕ) (sp : Span) (separators : List ℕ) (q : PagePlace) (v w : View) → w.pages ≡ v.pages
    → AreShut t sp page separators n v → IsChildOf v.pages sp page separators n q → q.number < 2 ^ 32
    → w.shuts ≡ shut_of (at_index t n) q.number ∷ v.shuts → AreShut t sp page separators (n + 1) w
shut_next t page n sp separators q v w pages are child low shuts = record {
  each = λ j less. by_index j less (eqb j n) refl;
  mine = λ z has.
      elim (in_cases z (shut_of (at_index t n) q.number) v.shuts (subst (λ l. Contains l z) shuts has)) [
        | inl new ↦ (n, omega arith, sym (ap (λ (y : Shut). y.at) new))
        | inr old ↦ let o = are.mine z old in let less = o.1 in (o.0, omega (arith, less), o.2)
      ];
}
  where
    now : IsShutSo t sp page separators n w
    now = record {
      child = q;
      is = subst (λ ps. IsChildOf ps sp page separators n q) (sym pages) child;
      low = low;
      shut = subst (λ l. Contains l (shut_of (at_index t n) q.number)) (sym shuts) (in_head (shut_of (at_index t n) q.number) v.shuts);
    }

    by_index : (j : ℕ) → j < n + 1 → (c : Bool) → eqb j n ≡ c → IsShutSo t sp page separators j w
    by_index j less true is = subst (λ i. IsShutSo t sp page separators i w) (sym (eqb-true j n is)) now
    by_index j less false is =
        shut_still t page j sp separators v w pages
        (λ z has. subst (λ l. Contains l z) (sym shuts) (in_tail z (shut_of (at_index t n) q.number) v.shuts has))
        (are.each j (below_next j n less (λ same. true≢false (sym (eq-eqb j n same) ∙ is))))

pub can_next : (x : At) (sp : Span) (at t page word count n : ℕ) (q : PagePlace) (v u w : View)
    → (can : CanDropBranchFrom x sp at t page word count n v) → OnlyGoes v u → KeepsReads t v w → HasShut t n q.number u w → n < count
    → IsChildOf v.pages sp page (can.branch.inner).separators n q → CanDropBranchFrom x sp at t page word count (n + 1) w
can_next x sp at t page word count n q v u w can goes reads shuts less child =
    let on = on_then v u w goes.on shuts.on in
    let pages = pages_on v w on in record {
      branch = branch_on t page count sp v w on can.branch;
      inner = subst (λ ps. IsInnerOf page (page_words ps page) count) (sym pages) can.inner;
      alike = subst (λ ps. AreAlike (page_words ps page) (can.branch.inner).separators 0) (sym pages) can.alike;
      index = omega (arith, less);
      place = place_on v w x sp at on can.place;
      inside = subst (λ (z : View). at < words_of z.layout) (sym on.shut) can.inside;
      leads = can.leads;
      met = seen_same v.reads w.reads at (reads at can.apart) ∙ can.met;
      apart = subst (λ (z : View). IsOutside z.layout.slots t at) (sym on.shut) can.apart;
      locks = ap (λ (z : View). z.seat.locks) on.shut ∙ can.locks;
      took = ap (λ (z : View). z.took) on.shut ∙ can.took;
      shut = shut_next t page n sp (can.branch.inner).separators q v w pages can.shut child shuts.low
          (shuts.shuts ∙ ap (λ l. shut_of (at_index t n) q.number ∷ l) goes.shuts);
    }

-- ---- the swing

pub can_swing_branch : (x : At) (sp : Span) (at t page word count : ℕ) (v : View)
    → CanDropBranchFrom x sp at t page word count count v → CanSwing v x sp at t page word
can_swing_branch x sp at t page word count v can =
    let long = can.branch.long in
    let many : length (tree_below v.pages sp page) ≡ suc (length (can.branch.inner).separators) =
    (can.shut.each 0 (omega (arith, long))).is.count in record {
      keeper = can.branch.tree.keeper;
      place = can.place;
      leads = can.leads;
      there = can.branch.tree.there;
      lead = can.branch.lead;
      page = inr (inr record {
        tree = can.branch.tree.over.tree;
        inner = can.branch.inner;
        has = can.branch.has;
        slot = can.branch.slot;
        some = can.inner.some;
        count = many;
        pointers = λ j q at.
            let within = at_below (tree_below v.pages sp page) j q at in
            let s = can.shut.each j (omega (arith, within, many, long)) in
            let same : s.child ≡ q = let one = s.is.at in cc in (
              subst (λ (y : PagePlace). y.number < 2 ^ 32) same s.low,
              subst (λ (y : PagePlace). Contains v.shuts (shut_of (at_index t j) y.number)) same s.shut,
              subst (λ (y : PagePlace). keys_of sp y ≡ part_between sp (can.branch.inner).separators j) same s.is.keys,
            );
        unlocked = can.locks;
      });
    }

none_left : (t : ℕ) (shuts : List Shut) → ((z : Shut) → Contains shuts z → (j : ℕ) × (z.at ≡ at_index t j)) → other_shuts t shuts ≡ []
none_left t [] all = refl
none_left t (z ∷ shuts) all =
    let one = all z (in_head z shuts) in
    ap (λ (c : Bool). cond (not c) (z ∷ other_shuts t shuts) (other_shuts t shuts))
    (ap (λ (a : At). is_slot t (slot_with a)) one.1 ∙ eq-eqb t t refl)
    ∙ none_left t shuts (λ y has. all y (in_tail y z shuts has))

pub may_retire_branch : (t at page found : ℕ) (u w : View) → w ≡ swung t at page found u → MayRetire w t
may_retire_branch t at page found u w is =
    inr
    (inr (inl (ap (λ (z : View). has_slot z.grip.taken t) is ∙ ap (λ (c : Bool). c || has_slot u.grip.taken t) (eq-eqb t t refl))))

pub dropped_branch_now : (x : At) (sp : Span) (t at page word count found : ℕ) (u w z : View)
    → CanDropBranchFrom x sp at t page word count count u → w ≡ swung t at page found u → z ≡ retired t w
    → HasDroppedBranch t at page u z
dropped_branch_now x sp t at page word count found u w z can swing retire =
    subst (λ (y : View). HasDroppedBranch t at page u y) (sym (retire ∙ ap (retired t) swing)) record {
      is = refl;
      later = omega arith;
      leads = λ y has. has;
      shuts = none_left t u.shuts (λ y has. let o = can.shut.mine y has in (o.0, o.2));
      led = (entry_of u.reads at page (kept_at u.reads at), own_entry u.reads at page (kept_at u.reads at), refl, refl);
    }

pub met_other : (t at page word found : ℕ) (u w : View) → found ≢ word → HasSwung t at page word u found w → JustMet u w at found
met_other t at page word found u w other h =
    let is = not_swung t at page word found u w other h in record {
      goes = on_read at found u w is;
      step = u.steps;
      last = ap (λ (z : View). z.last) is;
      since = omega arith;
      before = let up : w.steps ≡ u.steps + 1 = ap (λ (z : View). z.steps) is in omega (arith, up);
    }

-- ---- it is opened again

elsewhere_same : (x : At) (shuts : List Shut) → ((z : Shut) → Contains shuts z → same_at z.at x ≡ false) → shut_elsewhere x shuts ≡ shuts
elsewhere_same x [] none = refl
elsewhere_same x (z ∷ shuts) none =
    ap (λ (c : Bool). cond (not c) (z ∷ shut_elsewhere x shuts) (shut_elsewhere x shuts)) (none z (in_head z shuts))
    ∙ ap (λ (l : List Shut). z ∷ l) (elsewhere_same x shuts (λ y has. none y (in_tail y z shuts has)))

elsewhere_back : (x : At) (n : ℕ) (shuts : List Shut) → ((z : Shut) → Contains shuts z → same_at z.at x ≡ false)
    → shut_elsewhere x (shut_of x n ∷ shuts) ≡ shuts
elsewhere_back x n shuts none =
    ap (λ (c : Bool). cond (not c) (shut_of x n ∷ shut_elsewhere x shuts) (shut_elsewhere x shuts)) (same_at-self x)
    ∙ elsewhere_same x shuts none

-- none of the pointers before this one is it
pub new_pointer : (t page n : ℕ) (sp : Span) (separators : List ℕ) (v : View) → AreShut t sp page separators n v → (z : Shut)
    → Contains v.shuts z → same_at z.at (at_index t n) ≡ false
new_pointer t page n sp separators v are z has =
    let o = are.mine z has in
    let less = o.1 in
    ap (λ (a : At). same_at a (at_index t n)) o.2
    ∙ (ap (λ (c : Bool). c && eqb o.0 n) (eq-eqb t t refl) ∙ ne_eqb o.0 n (λ same. absurd (omega (arith, same, less))))

pub can_reopen : (t page count j at child : ℕ) (sp part : Span) (v u : View) (x : AtBranch t sp page count u) → j < count
    → part ≡ part_between sp (x.inner).separators j → at ≡ page_at u.layout.slots t (4 + j)
    → u.shuts ≡ shut_of (at_index t j) child ∷ v.shuts → CanReopen u (at_index t j) part at child
can_reopen t page count j at child sp part v u x less span word shuts = record {
  keeper = x.tree.keeper;
  place = branch_here t page count j at sp part u x less span word;
  shut = subst (λ l. Contains l (shut_of (at_index t j) child)) (sym shuts) (in_head (shut_of (at_index t j) child) v.shuts);
}

pub on_reopened : (x : At) (at n : ℕ) (v w : View) → w ≡ reopened x at n v → ShutsOn v w
on_reopened x at n v w is =
    subst (λ (z : View). ShutsOn v z) (sym is) record { shut = refl; later = omega arith; leads = λ z has. has }

pub reads_reopened : (t j at n : ℕ) (v w : View) → j < 30 → at ≡ page_at v.layout.slots t (4 + j) → w ≡ reopened (at_index t j) at n v
    → KeepsReads t v w
reads_reopened t j at n v w few place is =
    reads_more t (4 + j) at n v v w (omega (arith, few)) place (reads_self t v) (ap (λ (z : View). z.reads) is)

-- a page that is kept meanwhile is kept with the pointers of before
pub keeps_reopen : (cause other : KeptWhy → ℕ → ℕ → Type 0) (kept : Kept) (t page n at child : ℕ) (sp : Span) (separators : List ℕ)
    (v u e w : View) → ShutsOn v u → u.kept ≡ v.kept → u.shuts ≡ shut_of (at_index t n) child ∷ v.shuts
    → AreShut t sp page separators n v → KeepsBranch cause kept u e → w ≡ reopened (at_index t n) at child e
    → (cause kept.why kept.word kept.seen → other kept.why kept.word kept.seen) → KeepsBranch other kept v w
keeps_reopen cause other kept t page n at child sp separators v u e w on same shuts are keeps is so =
    let one = on.later in
    let since = keeps.kept.since in
    let before = keeps.kept.before in record {
      on = on_then v u w on (on_then u e w keeps.on (on_reopened (at_index t n) at child e w is));
      shuts = ap (λ (z : View). z.shuts) is
          ∙ (ap (shut_elsewhere (at_index t n)) (keeps.shuts ∙ shuts)
          ∙ elsewhere_back (at_index t n) child v.shuts (new_pointer t page n sp separators v are));
      kept = record {
        page = keeps.kept.page;
        is = ap (λ (z : View). z.kept) is ∙ (keeps.kept.is ∙ ap (λ l. l ++ keeps.kept.page ∷ []) same);
        told = keeps.kept.told;
        since = omega (arith, one, since);
        before = let up : w.steps ≡ e.steps + 1 = ap (λ (z : View). z.steps) is in omega (arith, up, before);
        cause-is = so keeps.kept.cause-is;
      };
    }

-- ---- dropped, behind pointers that were shut

-- the changed parts of a view behind it
abbrev dropped_as : ℕ → ℕ → View → View → View
dropped_as t at z w = record z {
  steps = w.steps;
  last = w.last;
  reads = w.reads;
  leads = w.leads;
  seat = record z.seat { locks = [] };
  took = [];
  loaded = w.loaded;
  grip = record z.grip { made = without z.grip.made t; taken = without (t ∷ z.grip.taken) t };
  copies = other_copies t z.copies;
  blanks = without z.blanks t;
  new_leaves = other_leaves t z.new_leaves;
  new_inners = other_inners t z.new_inners;
  heads = other_heads t z.heads;
  shuts = w.shuts;
  swung = z.swung ++ record { word = at; slot = t } ∷ [];
}

pub dropped_branch_on : (t at page : ℕ) (v u w : View) → ShutsOn v u → u.kept ≡ v.kept → seen_at u.reads at ≡ seen_at v.reads at
    → HasDroppedBranch t at page u w → HasDroppedBranch t at page v w
dropped_branch_on t at page v u w on kept met h =
    let one = on.later in
    let two = h.later in record {
      is = h.is
          ∙ (ap (λ (z : View). dropped_as t at z w) on.shut
          ∙ ap (λ (ks : List KeptPage). let y : View = record (dropped_as t at v w) { kept = ks } in y) kept);
      later = omega (arith, one, two);
      leads = λ z has. h.leads z (on.leads z has);
      shuts = h.shuts;
      led = (h.led.0, h.led.1, h.led.2, h.led.3 ∙ met);
    }

-- the same with an equal number
pub shut_as : (t j child n : ℕ) (v w : View) → n ≡ child → HasShut t j n v w → HasShut t j child v w
shut_as t j child n v w same h = subst (λ (m : ℕ). HasShut t j m v w) same h
