-- A pointer of a tree is followed, and its page gone into: what the parts of it ask and come to.
use Rattle.std.proofs.Common.{◌≡◌, ◌≢◌, ◌⊎◌, inl, inr, ℕ, ◌+◌, ◌^◌, ◌<◌, ◌≤◌, Bool, true, false, eqb, eq-eqb}
use Rattle.std.proofs.Common.{[], ◌∷◌, length, Option, Some, None, refl, sym, ap, ◌∙◌, subst, arith}
use Rattle.std.proofs.lemmas.Bool.Decides.{nat_tests}
use Rattle.std.proofs.lemmas.List.{append-nil}
use Rattle.std.specs.Prelude.{Err, IfErr, MatchBool, Ok, OnOk, Result, nat_lt}
use Rattle.std.specs.List.{Contains}
use Rattle.lists.specs.Elements.{in_cases, in_head, in_none}
use Rattle.lists.specs.Fronts.{IsFront, front_length, front_refl}
use Rattle.homes.specs.declared.places.At.{At}
use Rattle.homes.specs.declared.places.Span.{Span}
use Rattle.snapshot_store.specs.Places.{page as page_words}
use Rattle.drop_core.specs.Table.{at_index, has_slot}
use Rattle.engine_rule.specs.JointState.{keeps_word}
use Rattle.engine_pages.specs.declared.layout.Layout.{Layout}
use Rattle.engine_pages.specs.declared.view.Inner.{Inner}
use Rattle.engine_pages.specs.declared.view.KeptPage.{KeptPage}
use Rattle.engine_pages.specs.declared.view.KeptWhy.{KeptWhy}
use Rattle.engine_pages.specs.declared.view.KeptWhy.TheVariants.{Changed, Locked, Long, Unlike, UnlikeAt, Under}
use Rattle.engine_pages.specs.declared.view.Read.{Read}
use Rattle.engine_pages.specs.declared.view.View.{View}
use Rattle.engine_pages.specs.Layout.{page_at}
use Rattle.engine_pages.specs.Pages.{part_between}
use Rattle.engine_pages.specs.Pointers.{half_of}
use Rattle.engine_pages.specs.Slots.{left}
use Rattle.engine_pages.specs.Steps.{glance}
use Rattle.engine_pages.specs.Views.{IsActive}
use Rattle.engine_pages.specs.declared.view.Role.TheVariants.{Keeper}
use Rattle.pointer_swings.specs.Children.{keys_of}
use Rattle.tree_heads.specs.Headers.{HasChildren, HasHeader, HasTwins, Headed, count_of, kind_of, moved_bit}
use Rattle.page_drops.specs.declared.calls.Dropped.{Dropped}
use Rattle.page_drops.specs.declared.noting.Kept.{Kept}
use Rattle.page_drops.specs.declared.visits.Held.{Held}
use Rattle.page_drops.specs.Calls.{GoesOver as DropsOver, HasIn, HasNone, IsCauseAbove, IsGoneFor, IsNoteOf, KeepsAbove}
use Rattle.page_drops.specs.Visits.{dropped_here, note_here, IsSightBefore}
use Rattle.page_drops.specs.Works.{read_of, HasGlanced, KeepsReadsBut}
use Rattle.tree_drops.specs.declared.visits.Opened.{Opened}
use Rattle.tree_drops.specs.Branches.{AreLeft, AreLeftFor, CanDropBranchFrom, HasChild, HasDroppedBranch, IsBranchCauseBelow, IsParted, KeepsBranch}
use Rattle.tree_drops.specs.Leaves.{KnowsKeys}
use Rattle.tree_drops.specs.Turns.{page_met, CanGoFrom, CanWork, HasClosed, HasEnded, HasEndedPage, HasFinished}
use Rattle.tree_drops.specs.Turns.{HasTakenLeaf, IsChildTarget, IsOpened, KnowsParts, LooksIn}
use Rattle.tree_drops.specs.Visits.{CanVisit, GoesOver, HasTallied, HasVisited, IsFew, IsLeafKept, KeepsInners}
use Rattle.tree_drops.specs.Visits.{NoPages, WasPage}
use Rattle.tree_drops.specs.Works.{TellsPointer}
use Rattle.tree_drops.proofs.Asks.{branch_over, can_child, go_over}
use Rattle.tree_drops.proofs.ChainVisited.{visited_chain}
use Rattle.tree_drops.proofs.Ends.{tallied_as, visited_ended}
use Rattle.tree_drops.proofs.Finishes.{branch_dropped, branch_kept, PartedNote}
use Rattle.tree_drops.proofs.Notings.{none_below}
use Rattle.tree_drops.proofs.Overs.{looks_children, looks_glanced, looks_goes, looks_header, looks_then, looks_twins, over_self}
use Rattle.tree_drops.proofs.Rows.{row_looked, tallied_none}

-- ---- a header was loaded

-- as the test of its bit tells
module _ (t at n : ℕ) (sp : Span) (v w : View) (place : at ≡ page_at v.layout.slots t 0) where
  not_one : kind_of n ≢ 1 → eqb (kind_of n) 1 ≡ false
  not_one other = by_test (eqb (kind_of n) 1) refl
    where
      by_test : (b : Bool) → eqb (kind_of n) 1 ≡ b → eqb (kind_of n) 1 ≡ false
      by_test true e = absurd (other (let same : kind_of n ≡ 1 = grind (arith, nat_tests) in same))
      by_test false e = e

  pub children_of : kind_of n ≢ 1 → Headed t sp at v n w → HasChildren t at v n w
  children_of other h =
      subst (λ b. MatchBool b (MatchBool (nat_lt n moved_bit) (HasHeader t sp at v n w) (HasTwins t sp at v n w)) (HasChildren t at v n w))
      (not_one other) h

  pub leaf_of : kind_of n ≡ 1 → Headed t sp at v n w → MatchBool (nat_lt n moved_bit) (HasHeader t sp at v n w) (HasTwins t sp at v n w)
  leaf_of one h =
      subst (λ b. MatchBool b (MatchBool (nat_lt n moved_bit) (HasHeader t sp at v n w) (HasTwins t sp at v n w)) (HasChildren t at v n w))
      (eq-eqb (kind_of n) 1 one) h

  abbrev pub LeafLooked : Type 0
  LeafLooked = LooksIn t v w × (KnowsKeys t sp (count_of n) w × (((n < 2 ^ 61) ⊎ (2 ^ 62 ≤ n)) × (w.last ≡ Some (glance v.steps at n))))

  leaf_by : (b : Bool) → nat_lt n moved_bit ≡ b → MatchBool b (HasHeader t sp at v n w) (HasTwins t sp at v n w) → LeafLooked
  leaf_by true e h = (
    looks_header t at n sp v w place h,
    (
      record {
        leaf = record { slot = t; keys = h.keys };
        has = subst (λ (z : View). Contains z.known (record { slot = t; keys = h.keys })) (sym h.is)
            (in_head (record { slot = t; keys = h.keys }) v.known);
        slot = refl;
        are = record { long = h.count; few = (let few = h.are.few in let count = h.count in omega (arith, few, count)); once = h.are.once; inside = h.are.inside };
      },
      (inl h.few, ap (λ (z : View). z.last) h.is),
    ),
  )
  leaf_by false e h = (
    looks_twins t at n sp v w place h,
    (
      record {
        leaf = record { slot = t; keys = h.keys };
        has = subst (λ (z : View). Contains z.known (record { slot = t; keys = h.keys })) (sym h.is)
            (in_head (record { slot = t; keys = h.keys }) v.known);
        slot = refl;
        are = record { long = h.count; few = (let few = h.are.few in let count = h.count in omega (arith, few, count)); once = h.are.once; inside = h.are.inside };
      },
      (inr (let high : 2 ^ 62 ≤ n = grind (arith, nat_tests) in high), ap (λ (z : View). z.last) h.is),
    ),
  )

  pub leaf_looked : kind_of n ≡ 1 → Headed t sp at v n w → LeafLooked
  leaf_looked one h = leaf_by (nat_lt n moved_bit) refl (leaf_of one h)

-- an interior page is known
pub parts_known : (x : At) (sp : Span) (at t page word epoch place n : ℕ) (v w : View) → CanWork x sp at t page word epoch w
    → kind_of n ≢ 1 → HasChildren t place v n w → KnowsParts sp page t n w
parts_known x sp at t page word epoch place n v w can other h =
    let own : Inner = record { slot = t; separators = h.separators } in
    let few = h.few in record {
      tree = can.drop.tree;
      inner = own;
      has = subst (λ (z : View). Contains z.inners own) (sym h.is) (in_head own v.inners);
      slot = refl;
      long = h.count;
      few = omega (arith, few);
      lead = can.drop.lead;
      kind = other;
    }

pub children_looked : (t at n : ℕ) (v w : View) → at ≡ page_at v.layout.slots t 0 → HasChildren t at v n w
    → LooksIn t v w × (w.last ≡ Some (glance v.steps at n))
children_looked t at n v w place h = (looks_children t at n v w place h, ap (λ (z : View). z.last) h.is)

-- ---- it is left

pub active : (v : View) → v.role ≡ Keeper → IsActive v.role
active v keeper = subst (λ r. IsActive r) (sym keeper) tt

pub unkept : (t : ℕ) (v : View) → v.seat.kept ≡ [] → keeps_word v.seat.kept t ≡ false
unkept t v none = ap (λ l. keeps_word l t) none

module _ (sp : Span) (at page epoch t : ℕ) (old new : Dropped) (note : Option KeptPage) (v b c w : View) (looks : LooksIn t v b)
    (there : page ≤ length b.pages) (leave : w ≡ left t c)
    (counts : HasTallied old (dropped_here (Some t) note) (note_here note) new) where
  layout_v : b.layout ≡ v.layout
  layout_v = ap (λ (z : View). z.layout) looks.over.went

  counts_as : HasTallied old (0 + dropped_here (Some t) note) (note_here note) new
  counts_as = tallied_as old new (dropped_here (Some t) note) (0 + dropped_here (Some t) note) (note_here note) (note_here note)
      (omega arith) refl counts

  pages_left : w.pages ≡ c.pages
  pages_left = ap (λ (z : View). z.pages) leave

  ended_as : (C : KeptPage → Type 0) → HasFinished C t at page note b c → WasPage v.layout.slots t epoch b.pages (page_met at sp page t note) NoPages
      → HasEnded sp at page epoch t old v new w
  ended_as C done was = record {
    below = NoPages;
    note = note;
    over = b;
    mid = c;
    row = row_looked t v b looks;
    done = record {
      over = done.over;
      kept = done.kept;
      gone = done.gone;
      swung = done.swung;
      sight = done.sight;
      others = done.others;
      known = done.known;
      so = λ k is. tt;
    };
    leaves = leave;
    pages = b.pages;
    front = subst (λ ps. IsFront b.pages ps) (sym pages_left) done.over.front;
    there = there;
    was = was;
    under = tt;
    notes = none_below w (page_met at sp page t note);
    counts = counts_as;
  }

  pub ended_leaf : HasFinished (IsLeafKept b.layout.slots t sp b.pages page epoch at) t at page note b c
      → HasEnded sp at page epoch t old v new w
  ended_leaf done =
      ended_as (IsLeafKept b.layout.slots t sp b.pages page epoch at) done
      (inr (inl record {
        end = refl;
        cause = λ k is. subst (λ (l : Layout). IsLeafKept l.slots t sp b.pages page epoch at k) layout_v (done.so k is);
      }))

  pub ended_parted : (kept : KeptPage) → note ≡ Some kept → HasFinished (PartedNote b t page) t at page note b c
      → HasEnded sp at page epoch t old v new w
  ended_parted kept is done =
      ended_as (PartedNote b t page) done
      (inr (inr (inr (inl record {
        end = refl;
        kept = kept;
        is = is;
        cause = subst (λ (l : Layout). IsParted l.slots t (page_words b.pages page) kept.why kept.word kept.seen) layout_v
            (done.so kept is);
      }))))

-- either answer of the work on a leaf
pub ended_taken : (sp : Span) (at page epoch t : ℕ) (old new : Dropped) (r : Result (Unit {0}) Kept) (v b c w : View) → LooksIn t v b
    → page ≤ length b.pages → w ≡ left t c → HasTakenLeaf sp at page epoch t r b c → OnOk r (HasTallied old 1 [] new)
    → IfErr r (λ k. (note : KeptPage) → IsNoteOf k note → HasTallied old 0 (note ∷ []) new) → HasEnded sp at page epoch t old v new w
ended_taken sp at page epoch t old new (Ok u) v b c w looks there leave taken one kept =
    ended_leaf sp at page epoch t old new None v b c w looks there leave one taken
ended_taken sp at page epoch t old new (Err k) v b c w looks there leave taken one kept =
    ended_leaf sp at page epoch t old new (Some taken.0) v b c w looks there leave (kept taken.0 taken.1) taken.2

-- either answer of the work on an interior page
pub closed_by : (x : At) (sp : Span) (at page epoch t word count : ℕ) (old new : Dropped) (r : Result (Unit {0}) Kept) (v c w : View)
    → CanWork x sp at t page word epoch v → KeepsReadsBut t at v c → OnOk r (HasDroppedBranch t at page v c)
    → IfErr r (λ k. KeepsBranch (IsBranchCauseBelow v.layout.slots t sp v.pages page at word) k v c)
    → IfErr r (λ k. TellsPointer at word k v c) → OnOk r (AreLeft None t sp page count 0 v c)
    → IfErr r (λ k. AreLeftFor t sp page count 0 k v c) → w ≡ left t c → OnOk r (HasTallied old 1 [] new)
    → IfErr r (λ k. (note : KeptPage) → IsNoteOf k note → HasTallied old 0 (note ∷ []) new) → HasClosed sp at page t count old v new w
closed_by x sp at page epoch t word count old new (Ok u) v c w can reads drops keeps tells lefts later leave one kept = record {
  note = None;
  mid = c;
  done = branch_dropped x sp at t page word epoch v c can reads drops;
  lefts = lefts;
  leaves = leave;
  counts = one;
}
closed_by x sp at page epoch t word count old new (Err k) v c w can reads drops keeps tells lefts later leave one kept =
    let h = branch_kept x sp at t page word epoch v c can reads k keeps tells in record {
      note = Some h.0;
      mid = c;
      done = h.2;
      lefts = subst (λ (p : KeptPage). AreLeft (Some (p.word, p.seen)) t sp page count 0 v c) (sym h.1) later.0;
      leaves = leave;
      counts = kept h.0 h.1;
    }

-- ---- a pointer that isn't gone into

-- what page_drops tells of it
over_gone : (v w : View) → DropsOver v w → GoesOver v w
over_gone v w h = record {
  went = ap (λ (z : View). let y : View = record z { versions = w.versions } in y) h.went;
  later = h.later;
  front = h.front;
  leads = h.leads;
  more = h.more;
}

-- it led to no slot
pub visited_none : (x : At) (sp : Span) (at page epoch : ℕ) (old : Dropped) (v w : View) → CanVisit x sp at page epoch v → IsFew old
    → HasNone at v w → KeepsInners v w → HasVisited sp at page epoch old v old w
visited_none x sp at page epoch old v w can few none inn = record {
  here = record { at = at; span = sp; page = page; slot = None; half = None; kept = None };
  below = NoPages;
  place = refl;
  span = refl;
  number = refl;
  whole = refl;
  noted = record { read = none.read.0; is = none.read.1; sight = none.read.2 };
  met = inl (refl, refl, λ k is. absurd (cc));
  under = tt;
  notes = none_below w (record { at = at; span = sp; page = page; slot = None; half = None; kept = None });
  over = over_gone v w none.over;
  kept = none.kept ∙ sym (append-nil v.kept);
  gone = none.gone;
  swung = none.swung ∙ sym (append-nil v.swung);
  fresh = λ t has. absurd (in_none t has);
  counts = tallied_none old few;
  others = λ word other out. none.others word other;
  known = inn;
}

module _ (x : At) (sp : Span) (at page epoch : ℕ) (old new : Dropped) (k : Kept) (v w : View) (can : CanVisit x sp at page epoch v)
    (keeps : KeepsAbove at k v w) (inn : KeepsInners v w)
    (counts : (note : KeptPage) → IsNoteOf k note → HasTallied old 0 (note ∷ []) new) where
  abbrev note : KeptPage
  note = keeps.kept.page

  abbrev read : Read
  read = keeps.read.0

  -- where it was shut
  above_shut : k.why ≡ Locked → (k.word ≡ at) × (2 ^ 60 ≤ k.seen) → w.gone ≡ v.gone → HasVisited sp at page epoch old v new w
  above_shut is cause gone =
      let told = keeps.kept.told in
      let why : note.why ≡ Locked = ap (λ (p : KeptPage). p.why) told ∙ is in
      let word : note.word ≡ at = ap (λ (p : KeptPage). p.word) told ∙ cause.0 in
      let same : note.seen ≡ k.seen = ap (λ (p : KeptPage). p.seen) told in
      let high = cause.1 in
      let seen = keeps.read.2 in record {
        here = record { at = at; span = sp; page = page; slot = None; half = None; kept = Some note };
        below = NoPages;
        place = refl;
        span = refl;
        number = refl;
        whole = refl;
        noted = record { read = read; is = keeps.read.1; sight = (why, word, same ∙ sym seen, omega (arith, seen, high)) };
        met = inl (
          refl,
          refl,
          λ p is.
              let one : note ≡ p = cc in
              subst (λ (q : KeptPage). (q.why ≡ Locked) × (q.word ≡ at) × (2 ^ 60 ≤ q.seen)) one
              (why, word, omega (arith, same, high)),
        );
        under = tt;
        notes = none_below w (record { at = at; span = sp; page = page; slot = None; half = None; kept = Some note });
        over = over_gone v w keeps.over;
        kept = keeps.kept.is;
        gone = gone;
        swung = keeps.swung ∙ sym (append-nil v.swung);
        fresh = λ t has. absurd (in_none t has);
        counts = counts note told;
        others = λ word other out. keeps.others word other;
        known = inn;
      }

  -- where it had changed
  above_turned : (e t : ℕ) → k.why ≡ Changed e → (k.word ≡ at) × (k.seen ≢ e) → half_of e ≡ Some t → has_slot v.grip.holds t ≡ false
      → w.gone ≡ t ∷ v.gone → IsSightBefore (Changed e) read → HasVisited sp at page epoch old v new w
  above_turned e t is cause half fresh gone prior =
      let told = keeps.kept.told in
      let why : note.why ≡ Changed e = ap (λ (p : KeptPage). p.why) told ∙ is in
      let word : note.word ≡ at = ap (λ (p : KeptPage). p.word) told ∙ cause.0 in
      let same : note.seen ≡ k.seen = ap (λ (p : KeptPage). p.seen) told in
      let seen = keeps.read.2 in record {
        here = record { at = at; span = sp; page = page; slot = Some t; half = None; kept = Some note };
        below = NoPages;
        place = refl;
        span = refl;
        number = refl;
        whole = refl;
        noted = record {
          read = read;
          is = keeps.read.1;
          sight = inr (word, (e, why, half, λ one. cause.1 (sym seen ∙ one), prior));
        };
        met = inr (
          t,
          refl,
          (
            w.pages,
            front_refl w.pages,
            (let low = can.there in let long = front_length v.pages w.pages keeps.over.front in omega (arith, low, long)),
            inl record {
              end = refl;
              kept = note;
              is = refl;
              cause = record { expected = e; why = why; word = word; led = half; other = λ one. cause.1 (sym same ∙ one) };
            },
          ),
        );
        under = tt;
        notes = none_below w (page_met at sp page t (Some note));
        over = over_gone v w keeps.over;
        kept = keeps.kept.is;
        gone = gone;
        swung = keeps.swung ∙ sym (append-nil v.swung);
        fresh = λ u has. elim (in_cases u t [] has) [
          | inl one ↦ subst (λ y. has_slot v.grip.holds y ≡ false) one fresh
          | inr none ↦ absurd (in_none u none)
        ];
        counts = counts note told;
        others = λ word other out. keeps.others word other;
        known = inn;
      }

  above_by : (why : KeptWhy) → k.why ≡ why → IsCauseAbove at why k.word k.seen → IsGoneFor why v.grip.holds v.gone w.gone
      → IsSightBefore why read → HasVisited sp at page epoch old v new w
  above_by Locked is cause gone prior = above_shut is cause gone
  above_by Unlike is cause gone prior = absurd cause
  above_by (UnlikeAt key) is cause gone prior = absurd cause
  above_by Under is cause gone prior = absurd cause
  above_by (Changed e) is cause gone prior = above_turned e gone.0 is cause gone.1 gone.2 gone.3 prior
  above_by Long is cause gone prior = absurd cause

  pub visited_above : HasVisited sp at page epoch old v new w
  visited_above = above_by k.why refl keeps.kept.cause-is keeps.gone keeps.read.3

-- ---- a pointer of an interior page

pub child_told : (t page count j epoch n at : ℕ) (sp part : Span) (v b w : View) (can : CanGoFrom t sp page count epoch v) → j < count
    → HasChild sp page j (can.opened.at.inner).separators v n b → HasGlanced b w
    → part ≡ part_between sp (can.opened.at.inner).separators j → at ≡ page_at v.layout.slots t (4 + j)
    → IsChildTarget t sp page count j epoch v (record { place = at_index t j; span = part; at = at; page = n; epoch = epoch }) w
child_told t page count j epoch n at sp part v b w can less h glanced is place =
    let one = looks_goes t v b h.goes h.reads in
    let looks = looks_then t v b w one (looks_glanced t b w glanced) in
    let goes = go_over t page count epoch sp v w looks.over looks.known can in
    let x = branch_over t page count sp v w can.held looks.over looks.known can.opened.at in
    let layout : w.layout ≡ v.layout = ap (λ (z : View). z.layout) looks.over.went in
    let keys : keys_of sp h.child ≡ part = h.is.keys ∙ sym is in record {
      looks = looks;
      before = λ i few. ap (λ (z : View). read_of z.reads (page_at v.layout.slots t i)) glanced.is
          ∙ ap (λ l. read_of l (page_at v.layout.slots t i)) h.reads;
      at = place;
      epoch_is = refl;
      child = h.child;
      is = h.is.at;
      many = h.is.count ∙ can.opened.at.long;
      span = sym keys;
      number = h.says;
      below = h.below;
      can = can_child t page count j epoch n at sp part w w goes (over_self w) x less is
          (place ∙ ap (λ (l : Layout). page_at l.slots t (4 + j)) (sym layout)) h.child keys h.is.part h.below
          (subst (λ (l : Layout). n ≤ l.resident) (sym layout) h.room)
          (let lead = h.lead in (lead.0, subst (λ (z : View). Contains z.leads lead.0) (sym glanced.is) lead.1, lead.2, lead.3));
      goes = goes;
    }

-- ---- what a page that was gone over tells its caller

pub err_ended : (x : At) (sp : Span) (at page epoch : ℕ) (held : Held) (old : Dropped) (r : Result Opened Dropped) (v a w : View)
    → CanVisit x sp at page epoch v → HasIn sp at page held v a → KeepsInners v a
    → IfErr r (λ new. HasEndedPage sp at page epoch held.slot old a new w) → IfErr r (λ new. HasVisited sp at page epoch old v new w)
err_ended x sp at page epoch held old (Ok found) v a w can inside inn h = h
err_ended x sp at page epoch held old (Err new) v a w can inside inn (inl h) =
    visited_ended x sp at page epoch held old new v a w can inside inn h
err_ended x sp at page epoch held old (Err new) v a w can inside inn (inr h) =
    visited_chain x sp at page epoch held old new v a w can inside inn h

-- an interior page is to be dropped
pub can_drop_branch : (x : At) (sp : Span) (at t page word epoch count : ℕ) (v : View) → CanWork x sp at t page word epoch v
    → IsOpened t sp page count v → CanDropBranchFrom x sp at t page word count 0 v
can_drop_branch x sp at t page word epoch count v can o = record {
  branch = o.at;
  inner = o.inner;
  alike = o.alike;
  index = omega arith;
  place = can.drop.place;
  inside = can.drop.inside;
  leads = can.drop.leads;
  met = can.drop.met;
  apart = can.drop.apart;
  locks = can.bare.locks;
  took = can.bare.took;
  shut = record {
    each = λ j less. absurd (omega (arith, less));
    mine = λ z has. absurd (in_none z (subst (λ l. Contains l z) can.bare.shuts has));
  };
}
