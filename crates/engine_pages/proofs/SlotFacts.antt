-- What is known of slots and pages that a step leaves as they are.
use Rattle.std.proofs.Common.{◌≡◌, ◌≢◌, ℕ, ◌+◌, ◌<◌, ◌≤◌, Bool, true}
use Rattle.std.proofs.Common.{cond, eq-eqb, ne_eqb, List, get_or, refl}
use Rattle.std.proofs.Common.{sym, ap, ◌∙◌, subst, arith, Option}
use Rattle.commit_core.specs.declared.story.Story.{Story}
use Rattle.drop_core.specs.declared.table.Pointer.{Pointer}
use Rattle.drop_core.specs.declared.table.Slot.{Slot}
use Rattle.drop_core.specs.declared.table.Table.{Table}
use Rattle.drop_core.specs.Event.{is_owned, is_published, with_slot}
use Rattle.drop_core.specs.Table.{slot_of, page_of, header_of, has_slot, at_index, is_never}
use Rattle.engine_pages.specs.declared.layout.Layout.{Layout}
use Rattle.engine_pages.specs.declared.view.Copied.{Copied}
use Rattle.engine_pages.specs.declared.view.Draft.{Draft}
use Rattle.engine_pages.specs.declared.view.Filled.{Filled}
use Rattle.engine_pages.specs.declared.view.Head.{Head}
use Rattle.engine_pages.specs.declared.view.Inner.{Inner}
use Rattle.engine_pages.specs.declared.view.Known.{Known}
use Rattle.engine_pages.specs.declared.view.Moved.{Moved}
use Rattle.engine_pages.specs.declared.view.NewInner.{NewInner}
use Rattle.engine_pages.specs.declared.view.NewLeaf.{NewLeaf}
use Rattle.engine_pages.specs.declared.view.Way.{Way}
use Rattle.engine_pages.specs.Layout.{page_at, snap_at}
use Rattle.engine_pages.specs.Pages.{child_span, decl_of, Fenced}
use Rattle.engine_pages.specs.Resident.{Published, IsNamed}
use Rattle.snapshot_store.specs.Places.{page as page_words}
use Rattle.engine_pages.specs.Rule.{IsWay, IsDraft, IsCopy, IsBlank, IsFilled, IsKnownLeaf, IsHead, IsMoved}
use Rattle.engine_pages.specs.Rule.{IsInner, IsNewLeaf, IsNewInner}
use Rattle.engine_pages.proofs.Seats.{by_equal}
use Rattle.engine_pages.proofs.Named.{more_same}
use Rattle.engine_pages.proofs.SlotSteps.{SamePages, over_same, laid_same}
use Rattle.engine_pages.proofs.TreeFacts.{inner_at, new_leaf_at, new_inner_at, same_fence}
use Rattle.homes.specs.declared.places.At.{At}
use Rattle.homes.specs.declared.places.At.TheVariants.{Root, In}
use Rattle.wire_form.specs.Words.{at_bit, slot_field}
use Rattle.drop_core.specs.Table.{has_pointer, pointer_of}
use Rattle.drop_core.specs.declared.table.Page.{Page}
use Rattle.engine_rule.specs.JointState.{is_slot, slot_at as slot_with}
use Rattle.engine_pages.specs.declared.view.Shut.{Shut}
use Rattle.engine_pages.specs.Rule.{IsWithin, IsShut}
use Rattle.std.proofs.Common.{false}

-- ---- slots of a table with another one

pub slot_other : (d : Table) (a b : ℕ) (x : Slot) → b ≢ a → slot_of (with_slot d a x) b ≡ slot_of d b
slot_other d a b x other = ap (λ (y : Bool). cond y x (slot_of d b)) (ne_eqb a b (λ e. other (sym e)))

pub slot_same : (d : Table) (a : ℕ) (x : Slot) → slot_of (with_slot d a x) a ≡ x
slot_same d a x = ap (λ (y : Bool). cond y x (slot_of d a)) (eq-eqb a a refl)

-- the same in its state and in what led to it
pub record SameUse (x y : Slot) : Type 0 where
  pub state : y.state ≡ x.state
  pub led : y.led ≡ x.led

-- so is each slot of a table where one has other passes
pub passes_only : (d : Table) (a b : ℕ) (x : Slot) → SameUse (slot_of d a) x
    → SameUse (slot_of d b) (slot_of (with_slot d a x) b)
passes_only d a b x same = by_equal b a (λ k. SameUse (slot_of d k) (slot_of (with_slot d a x) k))
    (subst (SameUse (slot_of d a)) (sym (slot_same d a x)) same)
    (λ other. record {
      state = ap (λ (y : Slot). y.state) (slot_other d a b x other);
      led = ap (λ (y : Slot). y.led) (slot_other d a b x other);
    })

-- ---- what is known of pages that stay as they are

pub way_same : (l : Layout) (k : ℕ → Option Fenced) (d e : Table) (holds holds' : List ℕ) (x : Way) → SamePages d e
    → has_slot holds' x.slot ≡ true → (slot_of e x.slot).led ≡ (slot_of d x.slot).led
    → header_of e x.slot ≡ header_of d x.slot → IsWay l d k holds x → IsWay l e k holds' x
way_same l k d e holds holds' x same held led header way = record {
  within = way.within;
  held = held;
  known = ap is_never led ∙ way.known;
  over = laid_same (decl_of l.decls x.span.storage) k d e x.slot x.span same header way.over;
}

pub draft_same : (words words' : List ℕ) (slots : ℕ) (d e : Table) (made made' : List ℕ) (x : Draft)
    → has_slot made' x.slot ≡ true → (slot_of e x.slot).state ≡ (slot_of d x.slot).state
    → header_of e x.slot ≡ header_of d x.slot
    → ((i : ℕ) → i < 64 → get_or words' (page_at slots x.slot i) 0 ≡ get_or words (page_at slots x.slot i) 0)
    → IsDraft words slots d made x → IsDraft words' slots e made' x
draft_same words words' slots d e made made' x mine state header stays draft = record {
  slot = draft.slot;
  made = mine;
  owned = ap is_owned state ∙ draft.owned;
  header = header ∙ draft.header;
  is = λ i few. stays i few ∙ draft.is i few;
}

pub copy_same : (l : Layout) (m : Story) (d e : Table) (r : Published) (made made' : List ℕ) (x : Copied) → SamePages d e
    → has_slot made' x.slot ≡ true → (slot_of e x.slot).state ≡ (slot_of d x.slot).state
    → header_of e x.slot ≡ header_of d x.slot → IsCopy l m d r made x → IsCopy l m e r made' x
copy_same l m d e r made made' x same mine state header copy = record {
  slot = copy.slot;
  made = mine;
  state = ap is_published state ∙ copy.state;
  over = over_same d e x.slot x.span same header copy.over;
  page = copy.page;
  exact = copy.exact;
  records = copy.records;
  pointers = λ inner j few.
      let was = copy.pointers inner j few in
      let q = same.pointers (at_index x.slot j) in record {
        span = ap (λ (y : Pointer). y.span) q ∙ was.span;
        slot = ap (λ (y : Pointer). y.slot) q ∙ was.slot;
        free = ap (λ (y : Pointer). y.holder) q ∙ was.free;
        named = subst (λ (y : Pointer). IsNamed r.places (child_span x.span j) (get_or (page_words r.pages x.page) j 0) y.page)
            (sym q) was.named;
      };
}

pub blank_same : (slots : ℕ) (d e : Table) (made made' : List ℕ) (t : ℕ) → has_slot made' t ≡ true
    → (slot_of e t).state ≡ (slot_of d t).state → IsBlank slots d made t → IsBlank slots e made' t
blank_same slots d e made made' t mine state was =
    record { slot = was.slot; made = mine; state = ap is_published state ∙ was.state }

pub filled_same : (l : Layout) (words words' : List ℕ) (r : Published) (x : Filled)
    → ((j : ℕ) → 32 + l.slots ≤ j → get_or words' j 0 ≡ get_or words j 0) → IsFilled l words r x → IsFilled l words' r x
filled_same l words words' r x same was = record {
  above = was.above;
  within = was.within;
  is = λ i few. same (snap_at l.slots x.page i) (omega arith) ∙ was.is i few;
}

-- ---- pointers that were shut

-- they are in pages as before, where slots that are held and have been led to are so still, with the same pages
pub within_same : (d e : Table) (holds holds' : List ℕ) (x : At)
    → ((u : ℕ) → is_slot u (slot_with x) ≡ true → has_slot holds u ≡ true → is_never (slot_of d u).led ≡ false
    → (has_slot holds' u ≡ true) × ((slot_of e u).led ≡ (slot_of d u).led) × (page_of e u ≡ page_of d u))
    → IsWithin d holds x → IsWithin e holds' x
within_same d e holds holds' (Root r) go was = tt
within_same d e holds holds' (In x) go was =
    let same = go x.slot (eq-eqb x.slot x.slot refl) was.0 was.1 in (
      same.0,
      ap is_never same.1 ∙ was.1,
      ap (λ (z : Page). has_pointer z x.index) same.2 ∙ was.2,
    )

pub shut_same : (d e : Table) (r : Published) (p : ℕ) (holds holds' : List ℕ) (x : Shut)
    → (IsWithin d holds x.at → IsWithin e holds' x.at) → pointer_of e x.at ≡ pointer_of d x.at
    → IsShut d r p holds x → IsShut e r p holds' x
shut_same d e r p holds holds' x within same was = record {
  within = within was.within;
  shut = ap (λ (q : Pointer). q.holder) same ∙ was.shut;
  number = was.number;
  word = was.word ∙ ap (λ (q : Pointer). at_bit 0 was.number + at_bit 32 (slot_field q.slot)) (sym same);
  named = subst (λ (q : Pointer). IsNamed r.places q.span was.number q.page) (sym same) was.named;
}

-- ---- what is known of trees

pub known_same : (l : Layout) (k : ℕ → Option Fenced) (d e : Table) (holds holds' : List ℕ) (x : Known)
    → has_slot holds' x.slot ≡ true → (slot_of e x.slot).led ≡ (slot_of d x.slot).led
    → IsKnownLeaf l d k holds x → IsKnownLeaf l e k holds' x
known_same l k d e holds holds' x held led y = record {
  within = y.within;
  held = held;
  known = ap is_never led ∙ y.known;
  fence = y.fence;
  there = y.there;
  front = y.front;
}

pub head_same : (l : Layout) (words words' : List ℕ) (k : ℕ → Option Fenced) (d e : Table) (p : ℕ) (x : Head)
    → header_of e x.slot ≡ header_of d x.slot → page_of e x.slot ≡ page_of d x.slot
    → ((i : ℕ) → i < 64 → get_or words' (page_at l.slots x.slot i) 0 ≡ get_or words (page_at l.slots x.slot i) 0)
    → IsHead l words d k p x → IsHead l words' e k p x
head_same l words words' k d e p x header page stays y = record {
  within = y.within;
  locked = header ∙ y.locked;
  leaf = page ∙ y.leaf;
  fence = y.fence;
  there = y.there;
  keys = y.keys;
  long = y.long;
  is = λ i less is. stays i less ∙ y.is i less is;
}

pub moved_same : (l : Layout) (words words' : List ℕ) (k : ℕ → Option Fenced) (d e : Table) (holds holds' : List ℕ)
    (x : Moved) → has_slot holds' x.slot ≡ true → (slot_of e x.slot).led ≡ (slot_of d x.slot).led
    → page_of e x.slot ≡ page_of d x.slot
    → ((i : ℕ) → i < 64 → get_or words' (page_at l.slots x.slot i) 0 ≡ get_or words (page_at l.slots x.slot i) 0)
    → IsMoved l words d k holds x → IsMoved l words' e k holds' x
moved_same l words words' k d e holds holds' x held led page stays y = record {
  within = y.within;
  held = held;
  known = ap is_never led ∙ y.known;
  split = page ∙ y.split;
  fence = y.fence;
  there = y.there;
  minor = stays 3 (omega arith) ∙ y.minor;
  major = stays 4 (omega arith) ∙ y.major;
  separator = stays 5 (omega arith) ∙ y.separator;
}

pub inner_same : (l : Layout) (k : ℕ → Option Fenced) (d e : Table) (holds holds' : List ℕ) (x : Inner) → SamePages d e
    → has_slot holds' x.slot ≡ true → (slot_of e x.slot).led ≡ (slot_of d x.slot).led → IsInner l d k holds x
    → IsInner l e k holds' x
inner_same l k d e holds holds' x same held led y =
    inner_at l k k d e holds holds' x held (ap is_never led ∙ y.known) (same.pages x.slot) (same_fence k k x.slot refl)
    (λ j has. ap (λ (q : Pointer). q.span) (same.pointers (at_index x.slot j))) y

pub new_leaf_same : (l : Layout) (m : Story) (d e : Table) (k : ℕ → Option Fenced) (made made' : List ℕ) (x : NewLeaf)
    → SamePages d e → has_slot made' x.slot ≡ true → (slot_of e x.slot).state ≡ (slot_of d x.slot).state
    → header_of e x.slot ≡ header_of d x.slot → IsNewLeaf l m d k made x → IsNewLeaf l m e k made' x
new_leaf_same l m d e k made made' x same mine state header y =
    new_leaf_at l m m d e k k made made' x mine state header (same.pages x.slot) refl (λ i. refl) y

pub new_inner_same : (l : Layout) (d e : Table) (k : ℕ → Option Fenced) (r : Published) (made made' : List ℕ)
    (x : NewInner) → SamePages d e → has_slot made' x.slot ≡ true
    → (slot_of e x.slot).state ≡ (slot_of d x.slot).state → IsNewInner l d k r made x → IsNewInner l e k r made' x
new_inner_same l d e k r made made' x same mine state y =
    new_inner_at l d e k k r r made made' x mine state (same.pages x.slot) refl
    (λ j free. same.pointers (at_index x.slot j)) (more_same r) y
