-- What a visit of a pointer comes to: of one that wasn't gone into, and of a leaf's.
use Rattle.std.proofs.Common.{◌≡◌, ◌≢◌, ◌⊎◌, inl, inr, ℕ, zero, suc, ◌^◌, ◌<◌, ◌≤◌, false}
use Rattle.std.proofs.Common.{List, [], ◌∷◌, length, Option, Some, None, refl, sym, ap, ◌∙◌, subst, arith}
use Rattle.std.proofs.lemmas.List.{append-nil}
use Rattle.std.specs.Prelude.{⊤}
use Rattle.std.specs.List.{slice_get}
use Rattle.lists.specs.Elements.{in_cases, in_none}
use Rattle.homes.specs.declared.places.Span.{Span}
use Rattle.snapshot_store.specs.Places.{page as page_words}
use Rattle.drop_core.specs.declared.grip.Grip.{Grip}
use Rattle.drop_core.specs.Event.{without}
use Rattle.drop_core.specs.Table.{has_slot}
use Rattle.engine_pages.specs.declared.view.KeptPage.{KeptPage}
use Rattle.engine_pages.specs.declared.view.KeptWhy.{KeptWhy}
use Rattle.engine_pages.specs.declared.view.KeptWhy.TheVariants.{Locked, Unlike, UnlikeAt, Under, Changed, Long}
use Rattle.engine_pages.specs.declared.view.Read.{Read}
use Rattle.engine_pages.specs.declared.view.Swung.{Swung}
use Rattle.engine_pages.specs.declared.view.View.{View}
use Rattle.engine_pages.specs.Pointers.{half_of, page_half}
use Rattle.engine_pages.specs.Slots.{left, other_ways}
use Rattle.engine_pages.specs.Steps.{seen_at}
use Rattle.page_drops.specs.declared.calls.Dropped.{Dropped}
use Rattle.page_drops.specs.declared.noting.Kept.{Kept}
use Rattle.page_drops.specs.declared.visits.Held.{Held}
use Rattle.page_drops.specs.Calls.{GoesIn, GoesOver, HasCounted, HasIn, HasNone, HasVisited, IsBare, IsCauseAbove}
use Rattle.page_drops.specs.Calls.{IsGoneFor, IsNode, IsNoteOf, KeepsAbove, slots_on}
use Rattle.page_drops.specs.Inner.{IsInnerCause}
use Rattle.page_drops.specs.Visits.{Met, HasTurnedAway, IsCauseOf, IsInnerTree, IsKeptSight, IsLeafTree, LeadsSo}
use Rattle.page_drops.specs.Visits.{IsSightBefore, dropped_of, notes_of, slots_of, swings_of}
use Rattle.page_drops.specs.Works.{IsLeafCause, TellsAbove, read_of}
use Rattle.page_drops.proofs.Counts.{counted_none}
use Rattle.page_drops.proofs.Entries.{seen_of}
use Rattle.page_drops.proofs.Holds.{in_left, in_over, in_then, over_in, without_first, ways_first}

-- ---- pointers that weren't gone into

-- the node of such a pointer
abbrev pub bare_node : (B : Type 0) → ℕ → Span → ℕ → Option ℕ → Option KeptPage → Met B
bare_node B at sp page slot kept = record { at = at; span = sp; page = page; slot = slot; below = []; kept = kept }

-- where it led to no slot
pub visited_none : (B : Type 0) (f : B → ℕ) (g : B → List KeptPage) (h : B → List ℕ) (q : B → List Swung)
    (stands : View → Met B → Type 0) (sp : Span) (page at : ℕ) (old : Dropped) (v w : View) → HasNone at v w → stands w (bare_node B at sp page None None)
    → HasVisited (Met B) (dropped_of f) (notes_of g) (slots_of h) (swings_of q) (IsNode B stands sp page at) at old v old w
visited_none B f g h q stands sp page at old v w none tree = record {
  met = bare_node B at sp page None None;
  tree = record {
    at = refl;
    span = refl;
    page = refl;
    noted = record { read = (none.read).0; is = (none.read).1; sight = (none.read).2; before = tt };
    tree = tree;
  };
  over = none.over;
  kept = none.kept ∙ sym (append-nil v.kept);
  gone = none.gone;
  swung = none.swung ∙ sym (append-nil v.swung);
  fresh = λ t has. absurd (in_none t has);
  counts = counted_none old;
  others = λ word other elsewhere. none.others word other;
}

-- why a page was kept that wasn't gone into
abbrev pub IsBareCause : ℕ → Option ℕ → KeptPage → Type 0
IsBareCause at None k = (k.why ≡ Locked) × (k.word ≡ at) × (2 ^ 60 ≤ k.seen)
IsBareCause at (Some t) k = HasTurnedAway t k at

-- so is what stands there of it
abbrev pub BareTree : (B : Type 0) → (View → Met B → Type 0) → ℕ → Span → ℕ → View → Type 0
BareTree B stands at sp page w =
    (slot : Option ℕ) (note : KeptPage) → IsBareCause at slot note → seen_at w.reads note.word ≡ Some note.seen
    → stands w (bare_node B at sp page slot (Some note))

-- and the counts with it
abbrev pub CountsKept : Dropped → Kept → Dropped → Type 0
CountsKept old k new = (note : KeptPage) → IsNoteOf k note → HasCounted old 0 (note ∷ []) new

module _ (B : Type 0) (f : B → ℕ) (g : B → List KeptPage) (h : B → List ℕ) (q : B → List Swung)
    (stands : View → Met B → Type 0) (sp : Span) (page at : ℕ) (old new : Dropped) (k : Kept) (v w : View) (keeps : KeepsAbove at k v w) (counts : CountsKept old k new)
    (tree : BareTree B stands at sp page w) where
  abbrev Told : Type 0
  Told = HasVisited (Met B) (dropped_of f) (notes_of g) (slots_of h) (swings_of q) (IsNode B stands sp page at) at old v new w

  abbrev note : KeptPage
  note = (keeps.kept).page

  abbrev read : Read
  read = (keeps.read).0

  -- it was last seen so
  above_still : note.word ≡ at → note.seen ≡ k.seen → seen_at w.reads note.word ≡ Some note.seen
  above_still word same =
      ap (λ (n : ℕ). seen_at w.reads n) word
      ∙ (seen_of w.reads at read (keeps.read).1
      ∙ ap (λ (n : ℕ). let o : Option ℕ = Some n in o) ((keeps.read).2 ∙ sym same))

  -- where it was shut
  above_shut : k.why ≡ Locked → (k.word ≡ at) × (2 ^ 60 ≤ k.seen) → w.gone ≡ v.gone → Told
  above_shut is cause gone =
      let told = (keeps.kept).told in
      let why : note.why ≡ Locked = ap (λ (p : KeptPage). p.why) told ∙ is in
      let word : note.word ≡ at = ap (λ (p : KeptPage). p.word) told ∙ cause.0 in
      let same : note.seen ≡ k.seen = ap (λ (p : KeptPage). p.seen) told in
      let high = cause.1 in
      let seen = (keeps.read).2 in record {
        met = bare_node B at sp page None (Some note);
        tree = record {
          at = refl;
          span = refl;
          page = refl;
          noted = record {
            read = read;
            is = (keeps.read).1;
            sight = (why, word, same ∙ sym seen, omega (arith, seen, high));
            before = subst (λ (y : KeptWhy). IsSightBefore y read) (sym why) tt;
          };
          tree = tree None note (why, word, omega (arith, same, high)) (above_still word same);
        };
        over = keeps.over;
        kept = (keeps.kept).is;
        gone = gone;
        swung = keeps.swung ∙ sym (append-nil v.swung);
        fresh = λ t has. absurd (in_none t has);
        counts = counts note told;
        others = λ word other elsewhere. keeps.others word other;
      }

  -- where it had changed
  above_turned : (e t : ℕ) → k.why ≡ Changed e → (k.word ≡ at) × (k.seen ≢ e) → half_of e ≡ Some t
      → has_slot v.grip.holds t ≡ false → w.gone ≡ t ∷ v.gone → IsSightBefore (Changed e) read → Told
  above_turned e t is cause half fresh gone prior =
      let told = (keeps.kept).told in
      let why : note.why ≡ Changed e = ap (λ (p : KeptPage). p.why) told ∙ is in
      let word : note.word ≡ at = ap (λ (p : KeptPage). p.word) told ∙ cause.0 in
      let same : note.seen ≡ k.seen = ap (λ (p : KeptPage). p.seen) told in
      let seen = (keeps.read).2 in record {
        met = bare_node B at sp page (Some t) (Some note);
        tree = record {
          at = refl;
          span = refl;
          page = refl;
          noted = record {
            read = read;
            is = (keeps.read).1;
            sight = subst (λ (y : KeptWhy). IsKeptSight y note.word at t page read.seen) (sym why)
                (word, half, λ one. cause.1 (sym seen ∙ one));
            before = subst (λ (y : KeptWhy). IsSightBefore y read) (sym why) prior;
          };
          tree = tree (Some t) note
              record { expected = e; why = why; word = word; led = half; other = λ one. cause.1 (sym same ∙ one) }
              (above_still word same);
        };
        over = keeps.over;
        kept = (keeps.kept).is;
        gone = gone;
        swung = keeps.swung ∙ sym (append-nil v.swung);
        fresh = λ u has. elim (in_cases u t [] has) [
          | inl one ↦ subst (λ x. has_slot v.grip.holds x ≡ false) one fresh
          | inr none ↦ absurd (in_none u none)
        ];
        counts = counts note told;
        others = λ word other elsewhere. keeps.others word other;
      }

  above_by : (why : KeptWhy) → k.why ≡ why → IsCauseAbove at why k.word k.seen → IsGoneFor why v.grip.holds v.gone w.gone
      → IsSightBefore why read → Told
  above_by Locked is cause gone prior = above_shut is cause gone
  above_by Unlike is cause gone prior = absurd cause
  above_by (UnlikeAt key) is cause gone prior = absurd cause
  above_by Under is cause gone prior = absurd cause
  above_by (Changed e) is cause gone prior = above_turned e gone.0 is cause gone.1 gone.2 gone.3 prior
  above_by Long is cause gone prior = absurd cause

  pub visited_above : Told
  visited_above = above_by k.why refl (keeps.kept).cause-is keeps.gone (keeps.read).3

-- ---- trees without a page

pub leaf_none : (at page : ℕ) (sp : Span) (w : View) → page ≤ length w.pages → IsLeafTree w (bare_node ⊤ at sp page None None)
leaf_none at page sp w there = record {
  there = there;
  cause = λ k is. absurd (cc);
  below = refl;
  still = λ t j k slot kept once less word. absurd (cc);
}

-- a cause is one of any page
bare_cause : (inside : ℕ → ℕ → List ℕ → KeptWhy → ℕ → ℕ → Type 0) (slots at : ℕ) (words : List ℕ) (slot : Option ℕ)
    (note k : KeptPage) → IsBareCause at slot note → Some note ≡ Some k → IsCauseOf inside slots words slot k at
bare_cause inside slots at words None note k cause is =
    let same : note ≡ k = cc in subst (λ (p : KeptPage). IsBareCause at None p) same cause
bare_cause inside slots at words (Some t) note k cause is =
    let same : note ≡ k = cc in inr (subst (λ (p : KeptPage). HasTurnedAway t p at) same cause)

pub leaf_bare : (at page : ℕ) (sp : Span) (w : View) → page ≤ length w.pages → BareTree ⊤ IsLeafTree at sp page w
leaf_bare at page sp w there slot note cause seen = record {
  there = there;
  cause = λ k is. bare_cause IsLeafCause w.layout.slots at (page_words w.pages page) slot note k cause is;
  below = refl;
  still = λ t j k own kept once less word.
      let same : note ≡ k = cc in subst (λ (p : KeptPage). seen_at w.reads p.word ≡ Some p.seen) same seen;
}

no_item : (C : Type 0) (j : ℕ) (c : Met C) → (let none : List (Met C) = [] in slice_get none j) ≡ Some c → ⊥
no_item C zero c has = absurd (cc)
no_item C (suc j) c has = absurd (cc)

pub inner_none : (C : Type 0) (tree : View → Met C → Type 0) (at page : ℕ) (sp : Span) (w : View) → page ≤ length w.pages
    → IsInnerTree C tree w (bare_node (Met C) at sp page None None)
inner_none C tree at page sp w there = record {
  there = there;
  cause = λ k is. absurd (cc);
  children = record { all = λ t is. absurd (cc); each = λ t j c is has. absurd (cc); end = λ is. refl };
  each = λ j c has. absurd (no_item C j c has);
  noted = λ t j c is once has. absurd (cc);
}

pub inner_bare : (C : Type 0) (tree : View → Met C → Type 0) (at page : ℕ) (sp : Span) (w : View) → page ≤ length w.pages
    → BareTree (Met C) (IsInnerTree C tree) at sp page w
inner_bare C tree at page sp w there slot note cause seen = record {
  there = there;
  cause = λ k is. bare_cause IsInnerCause w.layout.slots at (page_words w.pages page) slot note k cause is;
  children = record {
    all = λ t is. inr (refl, (note, refl, turned slot cause t is));
    each = λ t j c is has. absurd (no_item C j c has);
    end = λ is. refl;
  };
  each = λ j c has. absurd (no_item C j c has);
  noted = λ t j c is once has. absurd (no_item C j c has);
}
  where
    turned : (slot : Option ℕ) → IsBareCause at slot note → (t : ℕ) → slot ≡ Some t → HasTurnedAway t note at
    turned None cause t is = absurd (cc)
    turned (Some u) cause t is = let same : u ≡ t = cc in subst (λ x. HasTurnedAway x note at) same cause

-- ---- a page that was gone into is left

-- the pass worked on the page, and has what it had
pub record HasWorked (a c : View) : Type 0 where
  pub over : GoesIn a c
  pub grip : c.grip ≡ a.grip
  pub ways : c.ways ≡ a.ways
  pub gone : c.gone ≡ a.gone
  pub shuts : c.shuts ≡ []

-- it holds what it held before it held the slot
pub out_of : (sp : Span) (at page : ℕ) (held : Held) (v a u c w : View) → IsBare v → HasIn sp at page held v a → GoesOver a u
    → HasWorked u c → w ≡ left held.slot c → GoesOver v w
out_of sp at page held v a u c w bare inside below worked leave =
    let t = held.slot in
    let off : has_slot (slots_on v.ways) t ≡ false = sym (ap (λ (l : List ℕ). has_slot l t) bare.holds) ∙ inside.fresh in
    let all = in_then v u w (in_then v a u inside.over (in_over a u below))
    (in_then u c w worked.over (in_left t c w worked.shuts leave)) in
    let grip : c.grip ≡ record v.grip { holds = t ∷ v.grip.holds } =
    worked.grip ∙ (ap (λ (z : View). z.grip) below.went ∙ inside.grip) in
    let ways : c.ways ≡ record { slot = t; span = sp } ∷ v.ways =
    worked.ways ∙ (ap (λ (z : View). z.ways) below.went ∙ inside.ways) in
    over_in v w all
    (ap (λ (z : View). z.grip) leave
    ∙ (ap (λ (x : Grip). let z : Grip = record x { holds = without x.holds t } in z) grip
    ∙ ap (λ hs. let z : Grip = record v.grip { holds = hs } in z) (without_first v.grip.holds t inside.fresh)))
    (ap (λ (z : View). z.ways) leave ∙ (ap (λ ws. other_ways t ws) ways ∙ ways_first v.ways t sp off))

-- what it has while it holds the slot
pub bare_in : (sp : Span) (at page : ℕ) (held : Held) (v a : View) → IsBare v → HasIn sp at page held v a → IsBare a
bare_in sp at page held v a bare inside =
    let went = (inside.over).went in record {
      keeper = ap (λ (z : View). z.role) went ∙ bare.keeper;
      idle = ap (λ (z : View). z.seat.stage) went ∙ bare.idle;
      holds = ap (λ (x : Grip). x.holds) inside.grip
          ∙ (ap (λ (l : List ℕ). held.slot ∷ l) bare.holds ∙ sym (ap slots_on inside.ways));
      made = ap (λ (x : Grip). x.made) inside.grip ∙ bare.made;
      taken = ap (λ (x : Grip). x.taken) inside.grip ∙ bare.taken;
      locks = ap (λ (z : View). z.seat.locks) went ∙ bare.locks;
      took = ap (λ (z : View). z.took) went ∙ bare.took;
      parts = ap (λ (z : View). z.seat.kept) went ∙ bare.parts;
      heads = ap (λ (z : View). z.heads) went ∙ bare.heads;
      shuts = ap (λ (z : View). z.shuts) went ∙ bare.shuts;
    }

-- ---- what was seen of a pointer whose page was kept

-- it wasn't kept since the pointer had changed; or it was, and is noted so
abbrev pub IsStayOrTurn : ℕ → ℕ → KeptWhy → ℕ → ℕ → Type 0
IsStayOrTurn at before why word seen =
    ((e : ℕ) → why ≡ Changed e → ⊥) ⊎ ((word ≡ at) × (why ≡ Changed before) × (seen ≢ before))

leads_so : (before seen t page : ℕ) → seen ≡ before → half_of before ≡ Some t → (0 < page → page_half before ≡ page)
    → LeadsSo t page seen
leads_so before seen t page is led names = (ap half_of is ∙ led, λ some. ap page_half is ∙ names some)

pub kept_sight : (at t page before word seen : ℕ) (why : KeptWhy) (u b : View) → TellsAbove why at seen u b
    → (r : Read) × (read_of u.reads at ≡ Some r) × (r.seen ≡ before) → half_of before ≡ Some t
    → (0 < page → page_half before ≡ page) → IsStayOrTurn at before why word seen
    → (r : Read) × (read_of b.reads at ≡ Some r) × IsKeptSight why word at t page r.seen × IsSightBefore why r
kept_sight at t page before word seen Locked u b tells was led names how =
    (was.0, tells ∙ was.1, leads_so before (was.0).seen t page was.2 led names, tt)
kept_sight at t page before word seen Unlike u b tells was led names how =
    (was.0, tells ∙ was.1, leads_so before (was.0).seen t page was.2 led names, tt)
kept_sight at t page before word seen (UnlikeAt key) u b tells was led names how =
    (was.0, tells ∙ was.1, leads_so before (was.0).seen t page was.2 led names, tt)
kept_sight at t page before word seen Under u b tells was led names how =
    (was.0, tells ∙ was.1, leads_so before (was.0).seen t page was.2 led names, tt)
kept_sight at t page before word seen (Changed e) u b tells was led names how =
    elim how [
      | inl none ↦ absurd (none e refl)
      | inr turn ↦
          let same : e ≡ before = cc in (
            tells.0,
            tells.1,
            (turn.0, ap half_of same ∙ led, λ one. turn.2 (sym tells.2 ∙ (one ∙ same))),
            tells.3,
          )
    ]
kept_sight at t page before word seen Long u b tells was led names how =
    (was.0, tells ∙ was.1, leads_so before (was.0).seen t page was.2 led names, tt)
