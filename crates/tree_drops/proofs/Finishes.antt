-- A page of a tree that the pass worked on: it was dropped, or kept and noted, and its pointer was seen so.
use Rattle.std.proofs.Common.{◌≡◌, ◌≢◌, inl, inr, ℕ, ◌+◌, List, [], ◌∷◌, ◌++◌, Option, Some, None, refl, sym, ap, ◌∙◌, subst, arith}
use Rattle.std.proofs.lemmas.List.{append-nil}
use Rattle.std.specs.Prelude.{Err, IfErr, Ok, OnOk, Result}
use Rattle.std.specs.List.{Contains}
use Rattle.lists.specs.Fronts.{front_refl}
use Rattle.homes.specs.declared.places.At.{At}
use Rattle.homes.specs.declared.places.Span.{Span}
use Rattle.snapshot_store.specs.Places.{page as page_words}
use Rattle.engine_pages.specs.declared.view.KeptPage.{KeptPage}
use Rattle.engine_pages.specs.declared.view.KeptWhy.{KeptWhy}
use Rattle.engine_pages.specs.declared.view.KeptWhy.TheVariants.{Changed}
use Rattle.engine_pages.specs.declared.view.Read.{Read}
use Rattle.engine_pages.specs.declared.view.View.{View}
use Rattle.engine_pages.specs.Layout.{page_at}
use Rattle.engine_pages.specs.Pointers.{half_of, page_half}
use Rattle.page_drops.specs.declared.noting.Kept.{Kept}
use Rattle.page_drops.specs.Calls.{IsNoteOf}
use Rattle.page_drops.specs.Works.{note_of, noted, read_of, HasGlanced, IsNoted, KeepsReads, KeepsReadsBut}
use Rattle.page_drops.specs.Visits.{note_here, swing_here}
use Rattle.page_drops.proofs.Entries.{reads_but}
use Rattle.page_drops.proofs.Sights.{saw_same}
use Rattle.tree_drops.specs.Branches.{HasDroppedBranch, IsBranchCause, IsBranchCauseBelow, IsParted, KeepsBranch}
use Rattle.tree_drops.specs.Leaves.{HasDropped, IsCauseBelow, IsLeafCause}
use Rattle.tree_drops.specs.Turns.{CanWork, HasFinished, HasNotedPage, HasTakenLeaf, LooksIn}
use Rattle.tree_drops.specs.Visits.{GoesOver, IsBranchKept, IsKeptSight, IsLeafKept}
use Rattle.tree_drops.specs.Works.{KeepsIt, TellsPointer}
use Rattle.tree_drops.proofs.Overs.{inners_then, looks_glanced, over_branch, over_dropped, over_dropped_branch, over_kept, over_then}

module _ (C : KeptPage → Type 0) (x : At) (sp : Span) (at t page word epoch : ℕ) (v w : View)
    (can : CanWork x sp at t page word epoch v) where
  -- the pointer leads where it led
  leads_still : (r : Read) → r.seen ≡ word → (k : KeptPage) → IsKeptSight k at t page r
  leads_still r is k = inl (ap half_of is ∙ can.drop.leads, λ some. ap page_half is ∙ can.names some)

  -- it tells so of the note
  pub sight_noted : (k : Kept) (note : KeptPage) → IsNoteOf k note → TellsPointer at word k v w → (k.why ≡ Changed word → k.seen ≢ word)
      → (r : Read) × (read_of w.reads at ≡ Some r) × IsKeptSight note at t page r
  sight_noted k note told tells other = elim tells [
    | inl same ↦ (can.read.0, same ∙ can.read.1, leads_still can.read.0 can.read.2 note)
    | inr so ↦ (
      so.2.0,
      so.2.1,
      inr (
        ap (λ (p : KeptPage). p.word) told ∙ so.0,
        (
          word,
          ap (λ (p : KeptPage). p.why) told ∙ so.1,
          can.drop.leads,
          λ same. other so.1 (sym so.2.2 ∙ same),
          so.2.3,
        ),
      ),
    )
  ]

  -- the page was kept
  pub finished_note : (k : Kept) (note : KeptPage) → GoesOver v w → w.kept ≡ v.kept ++ note ∷ [] → w.gone ≡ v.gone
      → w.swung ≡ v.swung → KeepsReadsBut t at v w → w.inners ≡ v.inners → IsNoteOf k note → TellsPointer at word k v w
      → (k.why ≡ Changed word → k.seen ≢ word) → C note → HasFinished C t at page (Some note) v w
  finished_note k note over kept gone swung reads inners told tells other cause = record {
    over = over;
    kept = kept;
    gone = gone;
    swung = swung ∙ sym (append-nil v.swung);
    sight = sight_noted k note told tells other;
    others = reads;
    known = λ y has held. subst (λ l. Contains l y) (sym inners) has;
    so = λ p is. let same : note ≡ p = cc in subst (λ (q : KeptPage). C q) same cause;
  }

  -- or dropped
  pub finished_none : (led : (r : Read) × (read_of w.reads at ≡ Some r) × (r.seen ≡ page) × (r.was ≡ Some word)) → GoesOver v w
      → w.kept ≡ v.kept → w.gone ≡ v.gone → w.swung ≡ v.swung ++ record { word = at; slot = t } ∷ [] → KeepsReadsBut t at v w
      → w.inners ≡ v.inners → HasFinished C t at page None v w
  finished_none led over kept gone swung reads inners = record {
    over = over;
    kept = kept ∙ sym (append-nil v.kept);
    gone = gone;
    swung = swung;
    sight = (led.0, led.1, (led.2, (word, led.3, can.drop.leads)));
    others = reads;
    known = λ y has held. subst (λ l. Contains l y) (sym inners) has;
    so = λ p is. absurd (cc);
  }

-- ---- a leaf

-- the note of a page that was kept
pub note_of_told : (k : Kept) (note : KeptPage) → note ≡ record { step = note.step; word = k.word; seen = k.seen; why = k.why }
    → IsNoteOf k note
note_of_told k note told = told

-- a cause of a leaf, told of its note
leaf_cause : (slots t : ℕ) (sp : Span) (pages : List (List ℕ)) (page epoch at word : ℕ) (v : View) (k : Kept) (note : KeptPage)
    → v.layout.slots ≡ slots → v.pages ≡ pages → IsNoteOf k note → half_of word ≡ Some t
    → IsCauseBelow t sp page epoch at word v k.why k.word k.seen → IsLeafKept slots t sp pages page epoch at note
leaf_cause slots t sp pages page epoch at word v k note one two told led cause = elim cause [
  | inl so ↦
      inl (subst (λ (p : KeptPage). IsLeafCause slots t sp pages page epoch p.why p.word p.seen) (sym told)
      (subst (λ (n : ℕ). IsLeafCause n t sp pages page epoch k.why k.word k.seen) one
      (subst (λ ps. IsLeafCause v.layout.slots t sp ps page epoch k.why k.word k.seen) two so)))
  | inr turn ↦ inr record {
    expected = word;
    why = ap (λ (p : KeptPage). p.why) told ∙ turn.1;
    word = ap (λ (p : KeptPage). p.word) told ∙ turn.0;
    led = led;
    other = λ same. turn.2 (sym (ap (λ (p : KeptPage). p.seen) told) ∙ same);
  }
]

-- where it was kept since a word had changed, that was another
leaf_other : (t : ℕ) (sp : Span) (page epoch at word : ℕ) (v : View) (k : Kept)
    → IsCauseBelow t sp page epoch at word v k.why k.word k.seen → k.why ≡ Changed word → k.seen ≢ word
leaf_other t sp page epoch at word v k cause is = elim cause [
  | inl so ↦
      let changed = subst (λ (y : KeptWhy). IsLeafCause v.layout.slots t sp v.pages page epoch y k.word k.seen) is so in
      changed.1
  | inr turn ↦ turn.2
]

module _ (x : At) (sp : Span) (at t page word epoch : ℕ) (v w : View) (can : CanWork x sp at t page word epoch v)
    (reads : KeepsReadsBut t at v w) where
  abbrev Cause : KeptPage → Type 0
  Cause = IsLeafKept v.layout.slots t sp v.pages page epoch at

  pub leaf_kept : (k : Kept) → KeepsIt (IsCauseBelow t sp page epoch at word v) k v w → TellsPointer at word k v w
      → (note : KeptPage) × IsNoteOf k note × HasFinished Cause t at page (Some note) v w
  leaf_kept k h tells =
      let worked = h.looks.works.worked in (
        h.kept.page,
        h.kept.told,
        finished_note Cause x sp at t page word epoch v w can k h.kept.page
            (over_kept (IsCauseBelow t sp page epoch at word v) k v w h) h.kept.is (ap (λ (z : View). z.gone) worked)
            (ap (λ (z : View). z.swung) worked) reads (ap (λ (z : View). z.inners) worked) h.kept.told tells
            (leaf_other t sp page epoch at word v k h.kept.cause-is)
            (leaf_cause v.layout.slots t sp v.pages page epoch at word v k h.kept.page refl refl h.kept.told can.drop.leads
            h.kept.cause-is),
      )

  pub leaf_dropped : HasDropped t at page v w → HasFinished Cause t at page None v w
  leaf_dropped h =
      finished_none Cause x sp at t page word epoch v w can (h.led.0, h.led.1, h.led.2, h.led.3 ∙ can.drop.met)
      (over_dropped t at page v w can.bare h) (ap (λ (z : View). z.kept) h.is) (ap (λ (z : View). z.gone) h.is)
      (ap (λ (z : View). z.swung) h.is) reads (ap (λ (z : View). z.inners) h.is)

  pub leaf_taken : (r : Result (Unit {0}) Kept) → OnOk r (HasDropped t at page v w)
      → IfErr r (λ k. KeepsIt (IsCauseBelow t sp page epoch at word v) k v w) → IfErr r (λ k. TellsPointer at word k v w)
      → HasTakenLeaf sp at page epoch t r v w
  leaf_taken (Ok u) drops keeps tells = leaf_dropped drops
  leaf_taken (Err k) drops keeps tells = leaf_kept k keeps tells

-- ---- an interior page

branch_cause : (slots t : ℕ) (sp : Span) (pages : List (List ℕ)) (page at word : ℕ) (k : Kept) (note : KeptPage) → IsNoteOf k note
    → half_of word ≡ Some t → IsBranchCauseBelow slots t sp pages page at word k.why k.word k.seen
    → IsBranchKept slots t sp pages page at note
branch_cause slots t sp pages page at word k note told led cause = elim cause [
  | inl so ↦ inl (subst (λ (p : KeptPage). IsBranchCause slots t sp pages page p.why p.word p.seen) (sym told) so)
  | inr turn ↦ inr record {
    expected = word;
    why = ap (λ (p : KeptPage). p.why) told ∙ turn.1;
    word = ap (λ (p : KeptPage). p.word) told ∙ turn.0;
    led = led;
    other = λ same. turn.2 (sym (ap (λ (p : KeptPage). p.seen) told) ∙ same);
  }
]

branch_other : (slots t : ℕ) (sp : Span) (pages : List (List ℕ)) (page at word : ℕ) (k : Kept)
    → IsBranchCauseBelow slots t sp pages page at word k.why k.word k.seen → k.why ≡ Changed word → k.seen ≢ word
branch_other slots t sp pages page at word k cause is = elim cause [
  | inl so ↦
      let none : ⊥ = subst (λ (y : KeptWhy). IsBranchCause slots t sp pages page y k.word k.seen) is so in absurd none
  | inr turn ↦ turn.2
]

module _ (x : At) (sp : Span) (at t page word epoch : ℕ) (v w : View) (can : CanWork x sp at t page word epoch v)
    (reads : KeepsReadsBut t at v w) where
  abbrev BranchCause : KeptPage → Type 0
  BranchCause = IsBranchKept v.layout.slots t sp v.pages page at

  pub branch_kept : (k : Kept) → KeepsBranch (IsBranchCauseBelow v.layout.slots t sp v.pages page at word) k v w
      → TellsPointer at word k v w → (note : KeptPage) × IsNoteOf k note × HasFinished BranchCause t at page (Some note) v w
  branch_kept k h tells =
      let cause = IsBranchCauseBelow v.layout.slots t sp v.pages page at word in
      let on = h.on.shut in (
        h.kept.page,
        h.kept.told,
        finished_note BranchCause x sp at t page word epoch v w can k h.kept.page (over_branch cause k v w h) h.kept.is
            (ap (λ (z : View). z.gone) on) (ap (λ (z : View). z.swung) on) reads (ap (λ (z : View). z.inners) on) h.kept.told tells
            (branch_other v.layout.slots t sp v.pages page at word k h.kept.cause-is)
            (branch_cause v.layout.slots t sp v.pages page at word k h.kept.page h.kept.told can.drop.leads h.kept.cause-is),
      )

  pub branch_dropped : HasDroppedBranch t at page v w → HasFinished BranchCause t at page None v w
  branch_dropped h =
      finished_none BranchCause x sp at t page word epoch v w can (h.led.0, h.led.1, h.led.2, h.led.3 ∙ can.drop.met)
      (over_dropped_branch t at page v w can.bare h) (ap (λ (z : View). z.kept) h.is) (ap (λ (z : View). z.gone) h.is)
      (ap (λ (z : View). z.swung) h.is) reads (ap (λ (z : View). z.inners) h.is)

-- a page that was kept as it is parted otherwise
abbrev pub PartedNote : View → ℕ → ℕ → KeptPage → Type 0
PartedNote v t page note = IsParted v.layout.slots t (page_words v.pages page) note.why note.word note.seen

pub parted_kept : (x : At) (sp : Span) (at t page word epoch : ℕ) (k : Kept) (v w : View) → CanWork x sp at t page word epoch v
    → (h : HasNotedPage (IsParted v.layout.slots t (page_words v.pages page)) t k v w)
    → HasFinished (PartedNote v t page) t at page (Some h.note) v w
parted_kept x sp at t page word epoch k v w can h =
    finished_note (PartedNote v t page) x sp at t page word epoch v w can k h.note h.over h.kept h.gone h.swung
    (reads_but t at v w h.reads) h.inners h.told (inl (h.reads at can.drop.apart)) unlike h.so
  where
    unlike : k.why ≡ Changed word → k.seen ≢ word
    unlike is = absurd (let one = h.so.0 in let told = ap (λ (p : KeptPage). p.why) h.told in cc)

-- ---- a page is noted for the word that was seen last

over_noted : (k : Kept) (v w : View) → IsNoted k v w → GoesOver v w
over_noted k v w told =
    subst (λ (z : View). GoesOver v z) (sym told.1) record {
      went = refl;
      later = omega arith;
      front = front_refl v.pages;
      leads = λ z has. has;
      more = saw_same v (noted (note_of v k) told.0 v) refl refl refl;
    }

pub noted_page : (cause : KeptWhy → ℕ → ℕ → Type 0) (t word seen : ℕ) (why : KeptWhy) (k : Kept) (v w : View)
    → k ≡ record { word = word; seen = seen; why = why } → IsNoted k v w → cause why word seen → HasNotedPage cause t k v w
noted_page cause t word seen why k v w is told so = record {
  note = note_of v k;
  told = refl;
  over = over_noted k v w told;
  kept = ap (λ (z : View). z.kept) told.1;
  gone = ap (λ (z : View). z.gone) told.1;
  swung = ap (λ (z : View). z.swung) told.1;
  reads = λ word out. ap (λ (z : View). read_of z.reads word) told.1;
  inners = ap (λ (z : View). z.inners) told.1;
  so = subst (λ (z : Kept). cause z.why z.word z.seen) (sym is) so;
}

-- a page that was compared, likewise
pub noted_branch : (cause : KeptWhy → ℕ → ℕ → Type 0) (t : ℕ) (k : Kept) (v w : View) → KeepsReads t v w → KeepsBranch cause k v w
    → HasNotedPage cause t k v w
noted_branch cause t k v w reads h =
    let on = h.on.shut in record {
      note = h.kept.page;
      told = h.kept.told;
      over = over_branch cause k v w h;
      kept = h.kept.is;
      gone = ap (λ (z : View). z.gone) on;
      swung = ap (λ (z : View). z.swung) on;
      reads = reads;
      inners = ap (λ (z : View). z.inners) on;
      so = subst (λ (p : KeptPage). cause p.why p.word p.seen) (sym h.kept.told) h.kept.cause-is;
    }

-- behind looks
pub finished_then : (C D : KeptPage → Type 0) (t at page : ℕ) (note : Option KeptPage) (v u w : View) → LooksIn t v u
    → ((k : KeptPage) → C k → D k) → HasFinished C t at page note u w → HasFinished D t at page note v w
finished_then C D t at page note v u w looks so h = record {
  over = over_then v u w looks.over h.over;
  kept = h.kept ∙ ap (λ l. l ++ note_here note) looks.kept;
  gone = h.gone ∙ looks.gone;
  swung = h.swung ∙ ap (λ l. l ++ swing_here at (Some t) note) looks.swung;
  sight = h.sight;
  others = λ word other out.
      h.others word other (λ i few is. out i few (is ∙ ap (λ (z : View). page_at z.layout.slots t i) looks.over.went))
      ∙ looks.reads word out;
  known = inners_then v u w looks.over looks.known h.known;
  so = λ k is. so k (h.so k is);
}

leaf_kept_as : (slots slots' t page epoch at : ℕ) (sp : Span) (pages pages' : List (List ℕ)) (k : KeptPage) → slots ≡ slots' → pages ≡ pages'
    → IsLeafKept slots t sp pages page epoch at k → IsLeafKept slots' t sp pages' page epoch at k
leaf_kept_as slots slots' t page epoch at sp pages pages' k one two h =
    subst (λ n. IsLeafKept n t sp pages' page epoch at k) one (subst (λ ps. IsLeafKept slots t sp ps page epoch at k) two h)

pub taken_then : (sp : Span) (at page epoch t : ℕ) (r : Result (Unit {0}) Kept) (v u w : View) → HasGlanced v u
    → HasTakenLeaf sp at page epoch t r u w → HasTakenLeaf sp at page epoch t r v w
taken_then sp at page epoch t (Ok o) v u w h taken =
    finished_then (IsLeafKept u.layout.slots t sp u.pages page epoch at) (IsLeafKept v.layout.slots t sp v.pages page epoch at)
    t at page None v u w (looks_glanced t v u h)
    (λ k so. leaf_kept_as u.layout.slots v.layout.slots t page epoch at sp u.pages v.pages k
    (ap (λ (z : View). z.layout.slots) h.is) (ap (λ (z : View). z.pages) h.is) so) taken
taken_then sp at page epoch t (Err k) v u w h taken = (
  taken.0,
  taken.1,
  finished_then (IsLeafKept u.layout.slots t sp u.pages page epoch at) (IsLeafKept v.layout.slots t sp v.pages page epoch at)
      t at page (Some taken.0) v u w (looks_glanced t v u h)
      (λ k so. leaf_kept_as u.layout.slots v.layout.slots t page epoch at sp u.pages v.pages k
      (ap (λ (z : View). z.layout.slots) h.is) (ap (λ (z : View). z.pages) h.is) so) taken.2,
)

-- a leaf that was noted, for one of its causes
pub taken_noted : (x : At) (sp : Span) (at t page word epoch : ℕ) (k : Kept) (v w : View)
    → CanWork x sp at t page word epoch v → HasNotedPage (IsLeafCause v.layout.slots t sp v.pages page epoch) t k v w
    → ((e : ℕ) → k.why ≡ Changed e → ⊥) → HasTakenLeaf sp at page epoch t (Err k) v w
taken_noted x sp at t page word epoch k v w can h other = (
  h.note,
  h.told,
  finished_note (IsLeafKept v.layout.slots t sp v.pages page epoch at) x sp at t page word epoch v w can k h.note h.over h.kept
      h.gone h.swung (reads_but t at v w h.reads) h.inners h.told (inl (h.reads at can.drop.apart))
      (λ is. absurd (other word is)) (inl h.so),
)
