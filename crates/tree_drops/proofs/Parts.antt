-- The parts of an interior page's keys, and the pages that the snapshot has for them.
use Rattle.std.proofs.Common.{◌≡◌, ◌≢◌, inr, ℕ, zero, suc, ◌+◌, ◌-◌, ◌%◌, ◌^◌, ◌<◌, ◌≤◌, Bool, true, false, List, [], ◌∷◌, ◌++◌}
use Rattle.std.proofs.Common.{length, get_or, refl, sym, ap, ◌∙◌, subst, arith, Some}
use Rattle.std.specs.Prelude.{Err, IfErr, Ok, Result, if◌then◌else◌, nat_lt}
use Rattle.std.specs.List.{Contains}
use Rattle.std.proofs.lemmas.Bool.Decides.{nat_tests}
use Rattle.lists.specs.Elements.{in_head, in_tail}
use Rattle.homes.specs.declared.places.Span.{Span}
use Rattle.snapshot_store.specs.declared.place.PagePlace.{PagePlace}
use Rattle.snapshot_store.specs.Places.{page as page_words}
use Rattle.drop_core.specs.Table.{at_index}
use Rattle.engine_pages.specs.declared.view.Inner.{Inner}
use Rattle.engine_pages.specs.declared.view.KeptWhy.{KeptWhy}
use Rattle.engine_pages.specs.declared.view.View.{View}
use Rattle.engine_pages.specs.Layout.{page_at}
use Rattle.engine_pages.specs.Pages.{part_between, part_high, part_low}
use Rattle.engine_pages.specs.Pointers.{IsPointerAt}
use Rattle.engine_pages.specs.Steps.{glance, read_at}
use Rattle.dual_pointer.specs.Copies.{IsLeadOf}
use Rattle.pointer_swings.specs.Children.{CanDescendTree, HasDescendedTree, begin_in, end_in, keys_of}
use Rattle.tree_heads.specs.Headers.{HasWord}
use Rattle.page_drops.specs.declared.noting.Kept.{Kept}
use Rattle.page_drops.specs.Works.{HasGlanced, HasKept, HasSeenLast, IsNoted, last_step, note_of}
use Rattle.tree_drops.specs.Branches.{AreAlike, AtBranch, HasChild, IsBranchCause, IsInnerOf, IsParted, KeepsBranch, OnlyGoes, ShutsOn}
use Rattle.tree_drops.specs.Leaves.{AtTree}

-- ---- work goes on

-- a view with the changed parts of another
abbrev pub as_shutting : View → View → View
as_shutting z w = record z {
  steps = w.steps;
  last = w.last;
  reads = w.reads;
  leads = w.leads;
  shuts = w.shuts;
  kept = w.kept;
}

pub on_self : (v : View) → ShutsOn v v
on_self v = record { shut = refl; later = omega arith; leads = λ z has. has }

pub on_then : (u v w : View) → ShutsOn u v → ShutsOn v w → ShutsOn u w
on_then u v w a b =
    let one = a.later in
    let two = b.later in record {
      shut = b.shut ∙ ap (λ (z : View). as_shutting z w) a.shut;
      later = omega (arith, one, two);
      leads = λ z has. b.leads z (a.leads z has);
    }

pub goes_self : (v : View) → OnlyGoes v v
goes_self v = record { on = on_self v; shuts = refl; kept = refl }

pub goes_then : (u v w : View) → OnlyGoes u v → OnlyGoes v w → OnlyGoes u w
goes_then u v w a b =
    record { on = on_then u v w a.on b.on; shuts = b.shuts ∙ a.shuts; kept = b.kept ∙ a.kept }

pub goes_glanced : (v w : View) → HasGlanced v w → OnlyGoes v w
goes_glanced v w h =
    subst (λ (z : View). OnlyGoes v z) (sym h.is)
    record { on = record { shut = refl; later = h.later; leads = λ z has. has }; shuts = refl; kept = refl }

pub on_read : (at n : ℕ) (v w : View) → w ≡ read_at at n v → OnlyGoes v w
on_read at n v w is =
    subst (λ (z : View). OnlyGoes v z) (sym is)
    record { on = record { shut = refl; later = omega arith; leads = λ z has. has }; shuts = refl; kept = refl }

pub pages_on : (v w : View) → ShutsOn v w → w.pages ≡ v.pages
pages_on v w h = ap (λ (z : View). z.pages) h.shut

-- ---- what is asked stays so

pub tree_on : (t page : ℕ) (sp : Span) (v w : View) → ShutsOn v w → AtTree t sp page v → AtTree t sp page w
tree_on t page sp v w h at =
    subst (λ (z : View). AtTree t sp page z) (sym h.shut) record {
      keeper = at.keeper;
      idle = at.idle;
      over = record { way = at.over.way; tree = at.over.tree };
      slot = at.slot;
      there = at.there;
      room = at.room;
    }

pub lead_on : (sp : Span) (page : ℕ) (v w : View) → ShutsOn v w → IsLeadOf v sp page → IsLeadOf w sp page
lead_on sp page v w h lead = (lead.0, h.leads lead.0 lead.1, lead.2, lead.3)

abbrev pub branch_on : (t page count : ℕ) (sp : Span) (v w : View) → ShutsOn v w → AtBranch t sp page count v → AtBranch t sp page count w
branch_on t page count sp v w h x = record {
  tree = tree_on t page sp v w h x.tree;
  inner = x.inner;
  has = subst (λ (z : View). Contains z.inners x.inner) (sym h.shut) x.has;
  slot = x.slot;
  long = x.long;
  few = x.few;
  lead = λ some. lead_on sp page v w h (x.lead some);
}

-- the same, told of an earlier view
abbrev pub branch_back : (t page count : ℕ) (sp : Span) (v w : View) → ShutsOn v w → AtBranch t sp page count v → AtBranch t sp page count w → AtBranch t sp page count v
branch_back t page count sp v w h own x = record {
  tree = own.tree;
  inner = x.inner;
  has = subst (λ (l : List Inner). Contains l x.inner) (ap (λ (z : View). z.inners) h.shut) x.has;
  slot = x.slot;
  long = x.long;
  few = x.few;
  lead = own.lead;
}

-- the pointer with an index stands there
pub branch_here : (t page count j at : ℕ) (sp part : Span) (v : View) (x : AtBranch t sp page count v) → j < count
    → part ≡ part_between sp (x.inner).separators j → at ≡ page_at v.layout.slots t (4 + j) → IsPointerAt v (at_index t j) part at
branch_here t page count j at sp part v x less span word =
    let long = x.long in inr record {
      way = record { slot = t; span = sp };
      has = x.tree.over.way;
      slot = refl;
      kind = x.tree.over.tree;
      inner = x.inner;
      knows = x.has;
      same = x.slot;
      index = omega (arith, less, long);
      span = span;
      word = word;
    }

-- ---- a child

-- the snapshot parts the keys as the page does
module _ (sp : Span) (words separators : List ℕ) (count page : ℕ) (inner : IsInnerOf page words (suc (length separators)))
    (alike : AreAlike words separators 0) where
  begin_same : (j : ℕ) → j < suc (length separators) → begin_in words sp j ≡ part_low sp separators j
  begin_same zero less = refl
  begin_same (suc j) less = alike j (omega arith) (omega (arith, less))

  less_test : (a c : ℕ) → a < c → nat_lt a c ≡ true
  less_test a c low = grind (arith, low, nat_tests)

  more_test : (a c : ℕ) → c ≤ a → nat_lt a c ≡ false
  more_test a c high = grind (arith, high, nat_tests)

  end_same : (j : ℕ) → j < suc (length separators) → end_in words sp j ≡ part_high sp separators j
  end_same j less = by_test (nat_lt j (length separators)) refl
    where
      many : get_or words 0 0 % 2 ^ 8 ≡ suc (length separators)
      many = inner.many

      by_test : (c : Bool) → nat_lt j (length separators) ≡ c → end_in words sp j ≡ (if c then get_or separators j 0 - 1 else sp.high)
      by_test true e =
          let low : j < length separators = grind (arith, nat_tests) in
          ap (λ (c : Bool). if c then get_or words (34 + j) 0 - 1 else sp.high)
          (less_test (j + 1) (get_or words 0 0 % 2 ^ 8) (omega (arith, low, many)))
          ∙ ap (λ (n : ℕ). n - 1) (alike j (omega arith) low)
      by_test false e =
          let high : length separators ≤ j = grind (arith, nat_tests) in
          ap (λ (c : Bool). if c then get_or words (34 + j) 0 - 1 else sp.high)
          (more_test (j + 1) (get_or words 0 0 % 2 ^ 8) (omega (arith, high, many)))

  pub child_keys : (j : ℕ) (q : PagePlace) → j < suc (length separators) → q.low ≡ begin_in words sp j → q.high ≡ end_in words sp j
      → keys_of sp q ≡ part_between sp separators j
  child_keys j q less low high =
      ap (λ (n : ℕ). let z : Span = record { storage = sp.storage; low = n; high = q.high } in z) (low ∙ begin_same j less)
      ∙ ap (λ (n : ℕ). let z : Span = record { storage = sp.storage; low = part_low sp separators j; high = n } in z)
      (high ∙ end_same j less)

pub can_descend : (t page count j : ℕ) (sp : Span) (v : View) (x : AtBranch t sp page count v)
    → IsInnerOf page (page_words v.pages page) count → j < count → CanDescendTree v sp page j
can_descend t page count j sp v x inner less =
    let many = inner.many in record {
      tree = x.tree.over.tree;
      some = inner.some;
      known = x.tree.there;
      room = x.tree.room;
      lead = x.lead inner.some;
      inner = inner.inner;
      index = omega (arith, many, less);
    }

pub child_found : (t page count j n : ℕ) (sp : Span) (v w : View) (x : AtBranch t sp page count v)
    → IsInnerOf page (page_words v.pages page) count → AreAlike (page_words v.pages page) (x.inner).separators 0 → j < count
    → HasDescendedTree sp page j v n w → HasChild sp page j (x.inner).separators v n w
child_found t page count j n sp v w x inner alike less h =
    let long = x.long in
    let most : j < suc (length (x.inner).separators) = omega (arith, less, long) in
    let of : IsInnerOf page (page_words v.pages page) (suc (length (x.inner).separators)) =
    record { some = inner.some; inner = inner.inner; many = inner.many ∙ sym long } in record {
      goes = subst (λ (z : View). OnlyGoes v z) (sym h.is) record {
        on = record {
          shut = refl;
          later = omega arith;
          leads = λ z has. in_tail z (record { span = keys_of sp h.child; page = n; name = h.name }) v.leads has;
        };
        shuts = refl;
        kept = refl;
      };
      reads = ap (λ (z : View). z.reads) h.is;
      child = h.child;
      is = record {
        at = h.at;
        keys = child_keys sp (page_words v.pages page) (x.inner).separators count page of alike j h.child most h.begin h.end;
        count = h.count ∙ (inner.many ∙ sym long);
        part = h.part;
      };
      says = h.says;
      lead = subst (λ (z : View). IsLeadOf z (keys_of sp h.child) n) (sym h.is)
          (record { span = keys_of sp h.child; page = n; name = h.name }, in_head (record { span = keys_of sp h.child; page = n; name = h.name }) v.leads, refl, refl);
      some = h.some;
      below = h.below;
      room = h.few;
    }

-- ---- a page that is kept

-- the word was seen last
pub record JustMet (v u : View) (word seen : ℕ) : Type 0 where
  pub goes : OnlyGoes v u
  pub step : ℕ
  pub last : u.last ≡ Some (glance step word seen)
  pub since : v.steps ≤ step
  pub before : step < u.steps

noted_on : (k : Kept) (u w : View) → IsNoted k u w → ShutsOn u w
noted_on k u w told =
    subst (λ (z : View). ShutsOn u z) (sym told.1) record { shut = refl; later = omega arith; leads = λ z has. has }

pub keeps_branch : (cause : KeptWhy → ℕ → ℕ → Type 0) (v u w : View) (word seen : ℕ) (why : KeptWhy) (k : Kept)
    → k ≡ record { word = word; seen = seen; why = why } → JustMet v u word seen → IsNoted k u w → cause why word seen
    → KeepsBranch cause k v w
keeps_branch cause v u w word seen why k is saw told so =
    let at-step : last_step u.last ≡ saw.step = ap last_step saw.last in
    let low = saw.since in
    let high = saw.before in record {
      on = on_then v u w saw.goes.on (noted_on k u w told);
      shuts = ap (λ (z : View). z.shuts) told.1 ∙ saw.goes.shuts;
      kept = subst (λ (z : View). HasKept cause k v z) (sym told.1) record {
        page = note_of u k;
        is = ap (λ list. list ++ note_of u k ∷ []) saw.goes.kept;
        told = refl;
        since = omega (arith, at-step, low);
        before = omega (arith, at-step, high);
        cause-is = subst (λ (z : Kept). cause z.why z.word z.seen) (sym is) so;
      };
    }

pub met_word : (t i at n : ℕ) (v u w : View) → OnlyGoes v u → HasWord t i at u n w → JustMet v w at n
met_word t i at n v u w goes h =
    let low = goes.on.later in record {
      goes = goes_then v u w goes (subst (λ (z : View). OnlyGoes u z) (sym h.is)
          record { on = record { shut = refl; later = omega arith; leads = λ z has. has }; shuts = refl; kept = refl });
      step = u.steps;
      last = ap (λ (z : View). z.last) h.is;
      since = low;
      before = let up : w.steps ≡ u.steps + 1 = ap (λ (z : View). z.steps) h.is in omega (arith, up);
    }

pub met_read : (at n : ℕ) (v u w : View) → OnlyGoes v u → w ≡ read_at at n u → JustMet v w at n
met_read at n v u w goes is =
    let low = goes.on.later in record {
      goes = goes_then v u w goes (on_read at n u w is);
      step = u.steps;
      last = ap (λ (z : View). z.last) is;
      since = low;
      before = let up : w.steps ≡ u.steps + 1 = ap (λ (z : View). z.steps) is in omega (arith, up);
    }

pub last_met : (v u : View) (word seen : ℕ) (why : KeptWhy) → JustMet v u word seen
    → HasSeenLast u (record { word = word; seen = seen; why = why })
last_met v u word seen why saw = (saw.step, saw.last)

-- behind work that noted nothing
pub branch_then : (cause other : KeptWhy → ℕ → ℕ → Type 0) (k : Kept) (v u w : View) → OnlyGoes v u
    → (cause k.why k.word k.seen → other k.why k.word k.seen) → KeepsBranch cause k u w → KeepsBranch other k v w
branch_then cause other k v u w goes so h =
    let low = goes.on.later in
    let since = h.kept.since in record {
      on = on_then v u w goes.on h.on;
      shuts = h.shuts ∙ goes.shuts;
      kept = record {
        page = h.kept.page;
        is = h.kept.is ∙ ap (λ list. list ++ h.kept.page ∷ []) goes.kept;
        told = h.kept.told;
        since = omega (arith, low, since);
        before = h.kept.before;
        cause-is = so h.kept.cause-is;
      };
    }

-- ---- where a child begins and ends

pub low_first : (sp : Span) (separators : List ℕ) (j : ℕ) → j ≡ 0 → sp.low ≡ part_low sp separators j
low_first sp separators zero first = refl
low_first sp separators (suc j) first = absurd (omega (arith, first))

pub low_later : (sp : Span) (separators : List ℕ) (j : ℕ) → j ≢ 0 → part_low sp separators j ≡ get_or separators (j - 1) 0
low_later sp separators zero some = absurd (some refl)
low_later sp separators (suc j) some = ap (λ (n : ℕ). get_or separators n 0) (let same : j ≡ suc j - 1 = omega arith in same)

pub high_last : (sp : Span) (separators : List ℕ) (j count : ℕ) → suc (length separators) ≡ count → j + 1 ≡ count
    → sp.high ≡ part_high sp separators j
high_last sp separators j count long end =
    let more : nat_lt j (length separators) ≡ false =
    (let high : length separators ≤ j = omega (arith, long, end) in grind (arith, high, nat_tests)) in
    ap (λ (c : Bool). if c then get_or separators j 0 - 1 else sp.high) (sym more)

within_count : (j count n : ℕ) → suc n ≡ count → j < count → j + 1 ≢ count → j < n
within_count j count n long less more = by_test (nat_lt j n) refl
  where
    by_test : (c : Bool) → nat_lt j n ≡ c → j < n
    by_test true e = grind (arith, nat_tests)
    by_test false e =
        let high : n ≤ j = grind (arith, nat_tests) in
        absurd (more (let same : j + 1 ≡ count = omega (arith, high, long, less) in same))

pub high_within : (sp : Span) (separators : List ℕ) (j count : ℕ) → suc (length separators) ≡ count → j < count → j + 1 ≢ count
    → part_high sp separators j ≡ get_or separators j 0 - 1
high_within sp separators j count long less more =
    let low : nat_lt j (length separators) ≡ true =
    (let below : j < length separators = within_count j count (length separators) long less more in grind (arith, below, nat_tests)) in
    ap (λ (c : Bool). if c then get_or separators j 0 - 1 else sp.high) low

-- ---- separators, one after another

pub alike_end : (words separators : List ℕ) (j count : ℕ) → suc (length separators) ≡ count → j + 1 ≡ count → AreAlike words separators j
alike_end words separators j count long end i low less = absurd (omega (arith, long, end, low, less))

pub alike_next : (words separators : List ℕ) (j : ℕ) → get_or words (34 + j) 0 ≡ get_or separators j 0 → AreAlike words separators (j + 1)
    → AreAlike words separators j
alike_next words separators j here rest i low less = by_test (nat_lt j i) refl
  where
    by_test : (c : Bool) → nat_lt j i ≡ c → get_or words (34 + i) 0 ≡ get_or separators i 0
    by_test true e = rest i (let more : j < i = grind (arith, nat_tests) in omega (arith, more)) less
    by_test false e =
        let most : i ≤ j = grind (arith, nat_tests) in
        let same : i ≡ j = omega (arith, low, most) in
        ap (λ n. get_or words (34 + n) 0) same ∙ (here ∙ ap (λ n. get_or separators n 0) (sym same))

-- causes, told of an earlier view
pub branch_earlier : (t page : ℕ) (sp : Span) (v u : View) → ShutsOn v u → (why : KeptWhy) (word seen : ℕ)
    → IsBranchCause u.layout.slots t sp u.pages page why word seen → IsBranchCause v.layout.slots t sp v.pages page why word seen
branch_earlier t page sp v u on why word seen so =
    subst (λ ps. IsBranchCause v.layout.slots t sp ps page why word seen) (pages_on v u on)
    (subst (λ (n : ℕ). IsBranchCause n t sp u.pages page why word seen) (ap (λ (y : View). y.layout.slots) on.shut) so)

-- why a page was kept that is parted otherwise, told of an earlier view
parted_earlier : (t page : ℕ) (v u : View) → ShutsOn v u → (why : KeptWhy) (word seen : ℕ)
    → IsParted u.layout.slots t (page_words u.pages page) why word seen
    → IsParted v.layout.slots t (page_words v.pages page) why word seen
parted_earlier t page v u on why word seen so =
    subst (λ ps. IsParted v.layout.slots t (page_words ps page) why word seen) (pages_on v u on)
    (subst (λ (n : ℕ). IsParted n t (page_words u.pages page) why word seen) (ap (λ (y : View). y.layout.slots) on.shut) so)

pub err_branch : (r : Result (Unit {0}) Kept) (t page : ℕ) (sp : Span) (v u w : View) → OnlyGoes v u
    → IfErr r (λ k. KeepsBranch (IsParted u.layout.slots t (page_words u.pages page)) k u w)
    → IfErr r (λ k. KeepsBranch (IsParted v.layout.slots t (page_words v.pages page)) k v w)
err_branch (Ok q) t page sp v u w goes h = h
err_branch (Err k) t page sp v u w goes h =
    branch_then (IsParted u.layout.slots t (page_words u.pages page)) (IsParted v.layout.slots t (page_words v.pages page))
    k v u w goes (parted_earlier t page v u goes.on k.why k.word k.seen) h
