-- A leaf that was gone into is left: it was dropped, or kept.
use Rattle.std.proofs.Common.{◌≡◌, ◌≢◌, ◌⊎◌, inl, inr, ℕ, ◌+◌, ◌<◌, ◌≤◌, Bool, false, cond, eqb, eq-eqb, not}
use Rattle.std.proofs.Common.{List, [], ◌∷◌, ◌++◌, Option, Some, None, refl, sym, ap, ◌∙◌, subst, arith}
use Rattle.std.proofs.lemmas.List.{append-nil}
use Rattle.std.specs.Prelude.{⊤, Err, IfErr, Ok, OnOk, Result}
use Rattle.std.specs.List.{Contains}
use Rattle.lists.specs.Elements.{in_cases, in_head, in_none, in_tail}
use Rattle.lists.specs.Fronts.{front_length, front_refl}
use Rattle.homes.specs.declared.places.At.{At}
use Rattle.homes.specs.declared.places.Span.{Span}
use Rattle.snapshot_store.specs.Places.{page as page_words}
use Rattle.commit_core.specs.declared.seat.Seat.{Seat}
use Rattle.drop_core.specs.declared.grip.Grip.{Grip}
use Rattle.drop_core.specs.Event.{without}
use Rattle.drop_core.specs.Table.{has_slot}
use Rattle.engine_pages.specs.declared.view.KeptPage.{KeptPage}
use Rattle.engine_pages.specs.declared.view.KeptWhy.{KeptWhy}
use Rattle.engine_pages.specs.declared.view.KeptWhy.TheVariants.{Changed}
use Rattle.engine_pages.specs.declared.view.Head.{Head}
use Rattle.engine_pages.specs.declared.view.Read.{Read}
use Rattle.engine_pages.specs.declared.view.Swung.{Swung}
use Rattle.engine_pages.specs.declared.view.View.{View}
use Rattle.engine_pages.specs.declared.view.Way.{Way}
use Rattle.engine_pages.specs.Layout.{page_at, words_of}
use Rattle.engine_pages.specs.Pages.{is_array}
use Rattle.engine_pages.specs.Pointers.{half_of, page_half}
use Rattle.engine_pages.specs.Slots.{left, other_copies, other_heads, other_inners, other_leaves, other_shuts}
use Rattle.engine_pages.specs.Steps.{seen_at}
use Rattle.engine_pages.proofs.Named.{page_longer}
use Rattle.pointer_swings.specs.Children.{let_go}
use Rattle.page_drops.specs.declared.calls.Dropped.{Dropped}
use Rattle.page_drops.specs.declared.noting.Kept.{Kept}
use Rattle.page_drops.specs.declared.visits.Held.{Held}
use Rattle.page_drops.specs.Calls.{CanVisit, GoesOver, HasCounted, HasHeld, HasIn, HasNone, HasVisited, IsBare, IsElsewhere}
use Rattle.page_drops.specs.Calls.{IsNode, IsNoteOf}
use Rattle.page_drops.specs.Leaves.{CanDrop, HasDropped}
use Rattle.page_drops.specs.Visits.{Met, MetLeaf, HasCause, IsCauseOf, IsKeptSight, IsLeafTree, IsNotedSo, IsSightBefore}
use Rattle.page_drops.specs.Visits.{IsMetBefore, IsSight}
use Rattle.page_drops.specs.Visits.{dropped_here, dropped_of, note_here, notes_of, slots_of, swing_here, swings_of}
use Rattle.page_drops.specs.Works.{IsCauseBelow, IsLeafCause, KeepsBelow, KeepsIt, KeepsReadsBut, SawMore, TellsAbove}
use Rattle.page_drops.specs.Works.{read_of, IsSeenStill}
use Rattle.page_drops.proofs.Goings.{over_self}
use Rattle.page_drops.proofs.Entries.{seen_of, seen_same}
use Rattle.page_drops.proofs.Heights.{leaf_low}
use Rattle.page_drops.proofs.Holds.{as_held, lead_in, pointer_in}
use Rattle.page_drops.proofs.Looks.{as_worked}
use Rattle.page_drops.proofs.Visited.{CountsKept, HasWorked, IsStayOrTurn, bare_in, kept_sight, out_of}

-- ---- what work on a leaf leaves

-- what the pass saw more, behind the end of what it saw
more_gone : (a b : View) (n : ℕ) → SawMore a b → SawMore a (let_go n b)
more_gone a b n m = record { drawn = m.drawn; decided = m.decided; touched = m.touched }

pub worked_kept : (cause : KeptWhy → ℕ → ℕ → Type 0) (k : Kept) (n : ℕ) (a b c : View) → IsBare a → KeepsIt cause k a b
    → SawMore a b → c ≡ let_go n b → HasWorked a c
worked_kept cause k n a b c bare keeps more go =
    let z : View = let_go n (as_worked a b) in
    let is : c ≡ z = go ∙ ap (let_go n) keeps.worked in
    let since = (keeps.kept).since in
    let before = (keeps.kept).before in
    let seat : z.seat ≡ a.seat =
    ap (λ ls. let s : Seat = record a.seat { kept = []; locks = ls } in s) keeps.locks
    ∙ ap (λ ps. let s : Seat = record a.seat { kept = ps } in s) (sym bare.parts) in
    subst (λ (y : View). HasWorked a y) (sym is) record {
      over = record {
        went = ap (λ (s : Seat). let y : View = record (as_held a z) { seat = s } in y) seat
            ∙ ap (λ ts. let y : View = record (as_held a z) { seat = a.seat; took = ts } in y) keeps.took;
        later = omega (arith, since, before);
        front = front_refl a.pages;
        leads = λ y has. has;
        more = more_gone a (as_worked a b) n record { drawn = more.drawn; decided = more.decided; touched = more.touched };
      };
      grip = refl;
      ways = refl;
      gone = refl;
      shuts = bare.shuts;
    }

-- a view behind the drop of a leaf
abbrev as_dropped : ℕ → ℕ → View → View → View
as_dropped t at a b = record a {
  steps = b.steps;
  last = b.last;
  reads = b.reads;
  history = b.history;
  decided = b.decided;
  seat = record a.seat { kept = b.seat.kept; locks = [] };
  took = [];
  touched = b.touched;
  loaded = b.loaded;
  grip = record a.grip { made = without a.grip.made t; taken = without (t ∷ a.grip.taken) t };
  copies = other_copies t a.copies;
  blanks = without a.blanks t;
  new_leaves = other_leaves t a.new_leaves;
  new_inners = other_inners t a.new_inners;
  heads = other_heads t a.heads;
  shuts = other_shuts t a.shuts;
  swung = a.swung ++ record { word = at; slot = t } ∷ [];
}

-- the slot was given up, which the pass hadn't made
pub grip_back : (t : ℕ) (a : View) → IsBare a
    → (let g : Grip = record a.grip { made = without a.grip.made t; taken = without (t ∷ a.grip.taken) t } in g) ≡ a.grip
grip_back t a bare =
    ap (λ ms. let g : Grip = record a.grip { made = ms; taken = without (t ∷ a.grip.taken) t } in g)
    (ap (λ list. without list t) bare.made ∙ sym bare.made)
    ∙ ap (λ ts. let g : Grip = record a.grip { taken = ts } in g)
    (ap (λ list. without (t ∷ list) t) bare.taken
    ∙ (ap (λ (b : Bool). let none : List ℕ = [] in cond (not b) (t ∷ none) none) (eq-eqb t t refl) ∙ sym bare.taken))

pub worked_dropped : (t at page n : ℕ) (a b c : View) → IsBare a → HasDropped t at page a b → SawMore a b → c ≡ let_go n b
    → HasWorked a c
worked_dropped t at page n a b c bare drops more go =
    let z : View = let_go n (as_dropped t at a b) in
    let is : c ≡ z = go ∙ ap (let_go n) drops.is in
    let later = drops.later in
    let seat : z.seat ≡ a.seat =
    ap (λ ls. let s : Seat = record a.seat { kept = []; locks = ls } in s) (sym bare.locks)
    ∙ ap (λ ps. let s : Seat = record a.seat { kept = ps } in s) (sym bare.parts) in
    let none : other_shuts t a.shuts ≡ [] = ap (λ list. other_shuts t list) bare.shuts in
    subst (λ (y : View). HasWorked a y) (sym is) record {
      over = record {
        went = ap (λ (s : Seat). let y : View = record (as_held a z) { seat = s } in y) seat
            ∙ (ap (λ ts. let y : View = record (as_held a z) { seat = a.seat; took = ts } in y) (sym bare.took)
            ∙ (ap (λ ss. let y : View = record (as_held a z) { seat = a.seat; took = a.took; shuts = ss } in y)
            (none ∙ sym bare.shuts)
            ∙ ap (λ (hs : List Head). let y : View = record (as_held a z) { seat = a.seat; took = a.took; shuts = a.shuts; heads = hs } in y)
            (ap (λ (list : List Head). other_heads t list) bare.heads ∙ sym bare.heads)));
        later = omega (arith, later);
        front = front_refl a.pages;
        leads = λ y has. has;
        more = more_gone a (as_dropped t at a b) n record { drawn = more.drawn; decided = more.decided; touched = more.touched };
      };
      grip = grip_back t a bare;
      ways = refl;
      gone = refl;
      shuts = none;
    }

-- ---- causes

-- a cause is told of a later view, of the note of it
pub cause_left : (inside : ℕ → ℕ → List ℕ → KeptWhy → ℕ → ℕ → Type 0) (slots slots' t at before : ℕ) (words words' : List ℕ)
    (k : Kept) (note other : KeptPage) → slots ≡ slots' → words ≡ words' → IsNoteOf k note → half_of before ≡ Some t
    → inside slots t words k.why k.word k.seen ⊎ ((k.word ≡ at) × (k.why ≡ Changed before) × (k.seen ≢ before))
    → Some note ≡ Some other → IsCauseOf inside slots' words' (Some t) other at
cause_left inside slots slots' t at before words words' k note other one two told led cause is =
    let same : note ≡ other = cc in
    subst (λ (p : KeptPage). IsCauseOf inside slots' words' (Some t) p at) same
    (elim cause [
      | inl low ↦
          inl (subst (λ (p : KeptPage). inside slots' t words' p.why p.word p.seen) (sym told)
          (subst (λ ws. inside slots' t ws k.why k.word k.seen) two
          (subst (λ (n : ℕ). inside n t words k.why k.word k.seen) one low)))
      | inr turn ↦ inr record {
        expected = before;
        why = ap (λ (p : KeptPage). p.why) told ∙ turn.1;
        word = ap (λ (p : KeptPage). p.word) told ∙ turn.0;
        led = led;
        other = λ e. turn.2 (sym (ap (λ (p : KeptPage). p.seen) told) ∙ e);
      }
    ])

pub leaf_stays_or_turns : (slots t at before word seen : ℕ) (words : List ℕ) (why : KeptWhy)
    → IsCauseBelow slots t words at before why word seen → IsStayOrTurn at before why word seen
leaf_stays_or_turns slots t at before word seen words why cause = elim cause [
  | inl low ↦ inl (λ e is. let none : ⊥ = subst (λ (y : KeptWhy). IsLeafCause slots t words y word seen) is low in none)
  | inr turn ↦ inr turn
]

-- where the note says so
pub noted_kept : (B : Type 0) (m : Met B) (t page before : ℕ) (k : Kept) (note : KeptPage) (u b w : View) → m.slot ≡ Some t
    → m.kept ≡ Some note → m.page ≡ page → IsNoteOf k note → TellsAbove k.why m.at k.seen u b
    → (r : Read) × (read_of u.reads m.at ≡ Some r) × (r.seen ≡ before) → half_of before ≡ Some t
    → (0 < page → page_half before ≡ page) → IsStayOrTurn m.at before k.why k.word k.seen
    → read_of w.reads m.at ≡ read_of b.reads m.at → IsNotedSo w m
noted_kept B m t page before k note u b w slot kept paged told tells was led names how same =
    let r = kept_sight m.at t page before k.word k.seen k.why u b tells was led names how in record {
      read = r.0;
      is = same ∙ r.1;
      sight =
          subst (λ (o : Option ℕ). IsSight o m.kept m.at m.page (r.0).seen) (sym slot)
          (subst (λ (o : Option KeptPage). IsSight (Some t) o m.at m.page (r.0).seen) (sym kept)
          (subst (λ (n : ℕ). IsKeptSight note.why note.word m.at t n (r.0).seen) (sym paged)
          (subst (λ (p : KeptPage). IsKeptSight p.why p.word m.at t page (r.0).seen) (sym told) r.2)));
      before =
          subst (λ (o : Option ℕ). IsMetBefore o m.kept r.0) (sym slot)
          (subst (λ (o : Option KeptPage). IsMetBefore (Some t) o r.0) (sym kept)
          (subst (λ (p : KeptPage). IsSightBefore p.why r.0) (sym told) r.3));
    }

-- ---- what the work on a leaf asks

pub can_drop : (x : At) (sp : Span) (at page : ℕ) (held : Held) (v a : View) → CanVisit 0 x sp at page v
    → HasIn sp at page held v a → CanDrop x sp at held.slot page held.word a
can_drop x sp at page held v a can inside =
    let went = (inside.over).went in
    let bare = bare_in sp at page held v a can.bare inside in
    let own : Way = record { slot = held.slot; span = sp } in record {
      leaf = record {
        keeper = bare.keeper;
        idle = bare.idle;
        way = subst (λ ws. Contains ws own) (sym inside.ways) (in_head own v.ways);
        slot = subst (λ (z : View). held.slot < z.layout.slots) (sym went) inside.slot;
        array = ap (λ (z : View). is_array z.layout.decls sp.storage) went ∙ can.array;
        leaf = leaf_low sp can.exact;
        low = let one = can.high in let two = can.exact in omega (arith, one, two);
        there = let one = can.there in let two = front_length v.pages a.pages (inside.over).front in omega (arith, one, two);
        room = subst (λ (z : View). page ≤ z.layout.resident) (sym went) can.room;
        heads = bare.heads;
        shuts = bare.shuts;
      };
      place = pointer_in x sp at v a inside.over
          (λ z has. subst (λ ws. Contains ws z) (sym inside.ways) (in_tail z own v.ways has)) can.place;
      inside = subst (λ (z : View). at < words_of z.layout) (sym went) can.inside;
      leads = inside.led;
      met = seen_of a.reads at (inside.read).0 (inside.read).1 ∙ ap (λ (y : ℕ). Some y) (inside.read).2;
      apart = λ i few is.
          can.apart held.slot inside.fresh i few (is ∙ ap (λ (z : View). page_at z.layout.slots held.slot i) went);
      exact = can.exact;
      lead = λ some. lead_in sp page v a inside.over (can.lead some);
      locks = bare.locks;
      took = bare.took;
    }

-- where hold found a slot
pub held_in : (sp : Span) (at page : ℕ) (o : Option Held) (held : Held) (v a : View) → o ≡ Some held → HasHeld sp at page o v a
    → HasIn sp at page held v a
held_in sp at page o held v a is h = subst (λ (z : Option Held). HasHeld sp at page z v a) is h

-- and where it found none
pub none_in : (sp : Span) (at page : ℕ) (o : Option Held) (v a : View) → o ≡ None → HasHeld sp at page o v a → HasNone at v a
none_in sp at page o v a is h = subst (λ (z : Option Held). HasHeld sp at page z v a) is h

-- ---- a leaf

module _ (x : At) (sp : Span) (at page n : ℕ) (held : Held) (old new : Dropped) (v a b c d : View)
    (can : CanVisit 0 x sp at page v) (inside : HasIn sp at page held v a) (more : SawMore a b)
    (reads : KeepsReadsBut held.slot at a b) (go : c ≡ let_go n b) (leave : d ≡ left held.slot c) where
  abbrev Told : Type 0
  Told = HasVisited (Met ⊤) (dropped_of (λ y. 0)) (notes_of (λ y. [])) (slots_of (λ y. [])) (swings_of (λ y. []))
      (IsNode ⊤ IsLeafTree sp page at) at old v new d

  abbrev leaf_met : Option KeptPage → MetLeaf
  leaf_met kept = record { at = at; span = sp; page = page; slot = Some held.slot; below = []; kept = kept }

  same_reads : (word : ℕ) → read_of d.reads word ≡ read_of b.reads word
  same_reads word = ap (λ (z : View). read_of z.reads word) leave ∙ ap (λ (z : View). read_of z.reads word) go

  others : (word : ℕ) → (word ≡ at → ⊥) → IsElsewhere v.layout.slots (held.slot ∷ []) word
      → read_of d.reads word ≡ read_of v.reads word
  others word other elsewhere =
      same_reads word
      ∙ (reads word other (λ i few is.
      elsewhere held.slot (in_head held.slot []) i few
      (is ∙ ap (λ (z : View). page_at z.layout.slots held.slot i) (inside.over).went))
      ∙ inside.others word other)

  -- with a worked page, its note if it is kept, and why
  left_so : (kept : Option KeptPage) → HasWorked a c → c.kept ≡ v.kept ++ note_here kept → IsNotedSo d (leaf_met kept)
      → (GoesOver v d → HasCause IsLeafCause d (leaf_met kept))
      → ((k : KeptPage) → kept ≡ Some k → seen_at d.reads k.word ≡ Some k.seen)
      → HasCounted old (0 + dropped_here (Some held.slot) kept) (note_here kept) new
      → c.swung ≡ v.swung ++ swing_here at (Some held.slot) kept → Told
  left_so kept worked notes noted cause seen counts swings =
      let over = out_of sp at page held v a a c d can.bare inside (over_self a) worked leave in record {
        met = leaf_met kept;
        tree = record {
          at = refl;
          span = refl;
          page = refl;
          noted = noted;
          tree = record {
            there = let one = can.there in let two = front_length v.pages d.pages over.front in omega (arith, one, two);
            cause = cause over;
            below = refl;
            still = λ t j k slot is once few word. seen k is;
          };
        };
        over = over;
        kept = ap (λ (z : View). z.kept) leave ∙ notes;
        gone = ap (λ (z : View). z.gone) leave ∙ ap (λ list. held.slot ∷ list) (worked.gone ∙ inside.gone);
        swung = ap (λ (z : View). z.swung) leave ∙ swings;
        fresh = λ u has. elim (in_cases u held.slot [] has) [
          | inl one ↦ subst (λ y. has_slot v.grip.holds y ≡ false) one inside.fresh
          | inr none ↦ absurd (in_none u none)
        ];
        counts = counts;
        others = others;
      }

  pub leaf_dropped : HasDropped held.slot at page a b → HasCounted old 1 [] new → Told
  leaf_dropped drops counts =
      left_so None (worked_dropped held.slot at page n a b c (bare_in sp at page held v a can.bare inside) drops more go)
      (ap (λ (z : View). z.kept) go ∙ (ap (λ (z : View). z.kept) drops.is ∙ (inside.kept ∙ sym (append-nil v.kept))))
      record {
        read = (drops.led).0;
        is = same_reads at ∙ (drops.led).1;
        sight = (drops.led).2;
        before = (
          held.word,
          (drops.led).3
              ∙ (seen_of a.reads at (inside.read).0 (inside.read).1 ∙ ap (λ (y : ℕ). Some y) (inside.read).2),
          inside.led,
        );
      }
      (λ over k is. absurd (cc)) (λ k is. absurd (cc)) counts
      (ap (λ (z : View). z.swung) go
      ∙ (ap (λ (z : View). z.swung) drops.is
      ∙ ap (λ (l : List Swung). l ++ swing_here at (Some held.slot) None) inside.swung))

  pub leaf_kept : (k : Kept) → KeepsBelow held.slot page at held.word k a b → TellsAbove k.why at k.seen a b → IsSeenStill k b
      → CountsKept old k new → Told
  leaf_kept k keeps tells still counts =
      let note = (keeps.kept).page in
      let told = (keeps.kept).told in
      let cause = (keeps.kept).cause-is in
      left_so (Some note)
      (worked_kept (IsCauseBelow a.layout.slots held.slot (page_words a.pages page) at held.word) k n a b c
      (bare_in sp at page held v a can.bare inside) keeps more go)
      (ap (λ (z : View). z.kept) go ∙ ((keeps.kept).is ∙ ap (λ list. list ++ note ∷ []) inside.kept))
      (noted_kept ⊤ (leaf_met (Some note)) held.slot page held.word k note a b d refl refl refl told tells inside.read inside.led
      inside.names
      (leaf_stays_or_turns a.layout.slots held.slot at held.word k.word k.seen (page_words a.pages page) k.why cause)
      (same_reads at))
      (λ over other is.
      cause_left IsLeafCause a.layout.slots d.layout.slots held.slot at held.word (page_words a.pages page)
      (page_words d.pages page) k note other (slots_as over)
      (page_longer v.pages a.pages page (inside.over).front can.there
      ∙ sym (page_longer v.pages d.pages page over.front can.there)) told inside.led cause is)
      (λ other is.
      let same : note ≡ other = cc in
      subst (λ (p : KeptPage). seen_at d.reads p.word ≡ Some p.seen) same
      (subst (λ (p : KeptPage). seen_at d.reads p.word ≡ Some p.seen) (sym told)
      (seen_same b.reads d.reads k.word (same_reads k.word) ∙ still)))
      (counts note told)
      (ap (λ (z : View). z.swung) go
      ∙ (ap (λ (z : View). z.swung) keeps.worked ∙ (inside.swung ∙ sym (append-nil v.swung))))
    where
      slots_as : GoesOver v d → a.layout.slots ≡ d.layout.slots
      slots_as over =
          ap (λ (z : View). z.layout.slots) (inside.over).went ∙ sym (ap (λ (z : View). z.layout.slots) over.went)

  -- either of them
  pub leaf_left : (r : Result (Unit {0}) Kept) → OnOk r (HasDropped held.slot at page a b)
      → IfErr r (λ k. KeepsBelow held.slot page at held.word k a b) → IfErr r (λ k. TellsAbove k.why at k.seen a b)
      → IfErr r (λ k. IsSeenStill k b) → OnOk r (HasCounted old 1 [] new) → IfErr r (λ k. CountsKept old k new) → Told
  leaf_left (Ok u) drops keeps tells still one note = leaf_dropped drops one
  leaf_left (Err k) drops keeps tells still one note = leaf_kept k keeps tells still note
