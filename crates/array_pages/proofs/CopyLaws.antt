-- What it comes to that a slot is given, and filled with a copy.
use Rattle.std.proofs.Common.{true≢false}
use Rattle.std.proofs.Common.{◌≡◌, ◌≢◌, inl, inr, ℕ, zero, suc, ◌+◌, ◌-◌, ◌*◌, ◌/◌, ◌^◌, ◌<◌, ◌≤◌, Bool, true, false}
use Rattle.std.proofs.Common.{cond, eqb, eq-eqb, List, [], ◌∷◌, length, get_or, set, refl, sym, ap, ◌∙◌, subst, arith}
use Rattle.std.proofs.Common.{Option}
use Rattle.std.specs.Prelude.{not, nat_le, slice_set}
use Rattle.std.specs.List.{Contains}
use Rattle.std.proofs.lemmas.Bool.Decides.{nat_tests}
use Rattle.std.proofs.lemmas.List.{length-set, get_or-set_other, get_or-set_same}
use Rattle.std.proofs.Common.{length-append}
use Rattle.lists.specs.Elements.{in_cases, in_head, in_none}
use Rattle.lists.specs.Fronts.{front_refl}
use Rattle.serial_model.specs.Numbers.{last_epoch}
use Rattle.homes.specs.declared.places.Span.{Span}
use Rattle.snapshot_store.specs.ArrayPages.{last_at, leaf_room, span_of as width_of}
use Rattle.snapshot_store.specs.Places.{page}
use Rattle.drop_core.specs.Table.{has_slot}
use Rattle.engine_pages.specs.declared.layout.Layout.{Layout}
use Rattle.engine_pages.specs.declared.view.Copied.{Copied}
use Rattle.engine_pages.specs.declared.view.Draft.{Draft}
use Rattle.engine_pages.specs.declared.view.Glance.{Glance}
use Rattle.engine_pages.specs.declared.view.Lead.{Lead}
use Rattle.engine_pages.specs.declared.view.RefusalCause.{RefusalCause}
use Rattle.engine_pages.specs.declared.view.RefusalCause.TheVariants as causes
use Rattle.engine_pages.specs.declared.view.View.{View}
use Rattle.engine_pages.specs.Layout.{slot_at}
use Rattle.engine_pages.specs.Pages.{is_array}
use Rattle.engine_pages.specs.Pointers.{StandsFor}
use Rattle.engine_pages.specs.Resident.{place_for, AreRecords}
use Rattle.engine_pages.specs.Slots.{filled, given, other_drafts, published_copy, HasCopyDraft}
use Rattle.engine_pages.specs.Slots.{HasFilled}
use Rattle.engine_pages.specs.Steps.{glanced}
use Rattle.engine_pages.proofs.Standing.{no_records, standing_records}
use Rattle.page_pool.specs.Pool.{HasTaken}
use Rattle.dual_pointer.specs.Copies.{HasPointersDraft}
use Rattle.array_pages.specs.Finding.{HasGlanced}
use Rattle.array_pages.specs.Making.{copy_of, draft_of, AreCopied, CanMake, HasCopied}
use Rattle.array_pages.specs.Snapshots.{CanLook}
use Rattle.array_pages.specs.Steps.{CanCopy, HasPublished, IsBareAt}
use Rattle.array_pages.specs.Steps.{RefusesGive}
use Rattle.array_pages.specs.Walks.{CanWalk, HasWalked}
use Rattle.array_pages.proofs.DeclLaws.{array_there, stands_in}
use Rattle.array_pages.proofs.SpanLaws.{inner_is, leaf_is}
use Rattle.array_pages.proofs.WalkLaws.{self}

-- ---- a slot was given, or not

-- the loads of a search for a slot leave all else
abbrev searched : View → View → View
searched v w = record v { steps = w.steps; last = w.last; looked = w.looked }

walked_searched : (v w : View) → v.steps ≤ w.steps → w ≡ searched v w → HasWalked v w
walked_searched v w since is =
    subst (HasWalked v) (sym is) record {
      since = since;
      drawn = front_refl v.history;
      seen = front_refl v.decided;
      parts = λ part has. inl has;
      held = λ t h. h;
      ways = λ x h. h;
      pages = front_refl v.pages;
      leads = λ x h. h;
      is = refl;
    }

searched_formed : (v w z : View) → w ≡ searched v z → w ≡ searched v w
searched_formed v w z e = subst (λ (y : View). y ≡ searched v y) (sym e) refl

pub missed_walks : (why : RefusalCause) (v w : View) → RefusesGive why v w → HasWalked v w × (w ≡ searched v w)
missed_walks (causes.Conflict at expected seen) v w h =
    let before = h.first.seen in
    let is : w ≡ searched v w =
    searched_formed v w (glanced at seen h.seen) (h.only ∙ ap (glanced at seen) before.only) in
    let steps : w.steps ≡ (h.seen).steps + 1 = ap (λ (z : View). z.steps) h.only in
    let more = before.steps in (walked_searched v w (omega (arith, steps, more)) is, is)
missed_walks (causes.Full held) v w h =
    let more = h.seen.steps in (walked_searched v w (omega (arith, more)) h.seen.only, h.seen.only)
missed_walks (causes.Wide set) v w h = absurd h
missed_walks (causes.NumberLimit clock) v w h = absurd h

-- the search looks at each slot at most once, and there is at most one compare_exchange
pub missed_most : (why : RefusalCause) (v w : View) → RefusesGive why v w → w.steps ≤ v.steps + (v.layout.slots + 1)
missed_most (causes.Conflict at expected seen) v w h =
    let steps : w.steps ≡ (h.seen).steps + 1 = ap (λ (z : View). z.steps) h.only in
    let first = h.first in
    let more = first.seen.steps in
    let long = length-append first.before (expected ∷ []) in
    let count = first.count in
    let there = first.there in omega (arith, steps, more, long, count, there)
missed_most (causes.Full held) v w h =
    let more = h.seen.steps in let count = h.count in omega (arith, more, count)
missed_most (causes.Wide set) v w h = absurd h
missed_most (causes.NumberLimit clock) v w h = absurd h

-- ---- a page is filled

-- a word of the draft is stored, before these others
abbrev fill_over : ℕ → List ℕ → ℕ → ℕ → View → List Draft → View
fill_over t words i n v more = record v { steps = v.steps + 1; drafts = draft_of t (slice_set words i n) ∷ more }

-- the only draft
pub filled_one : (t i n : ℕ) (words : List ℕ) (v w : View) → v.drafts ≡ draft_of t words ∷ [] → HasFilled t i n v w
    → w ≡ (let y : View = record v { steps = v.steps + 1; drafts = draft_of t (slice_set words i n) ∷ [] } in y)
filled_one t i n words v w only h =
    let x = h.0 in
    let is : draft_of t words ≡ x =
    elim (in_cases x (draft_of t words) [] (subst (λ (l : List Draft). Contains l x) only h.1)) [
      | inl e ↦ e
      | inr none ↦ absurd (in_none x none)
    ] in
    h.3
    ∙ (ap (λ (y : Draft). filled y i n v) (sym is)
    ∙ (ap (λ (l : List Draft). fill_over t words i n v (other_drafts t l)) only
    ∙ ap (λ (b : Bool). fill_over t words i n v (cond (not b) (draft_of t words ∷ []) [])) (self t)))

-- so many words of a page are copied
abbrev pub CopiedBelow : List ℕ → List (List ℕ) → ℕ → ℕ → Type 0
CopiedBelow words pages n i = (j : ℕ) → j < i → get_or words j 0 ≡ get_or (page pages n) j 0

pub copied_none : (t : ℕ) (words : List ℕ) (v : View) → length words ≡ 64 → v.drafts ≡ draft_of t words ∷ []
    → HasCopied t words v v
copied_none t words v long own = record {
  since = omega arith;
  long = long;
  is = ap (λ (l : List Draft). (let y : View = record v { drafts = l } in y)) own;
}

-- one word more
pub copied_more : (t i n : ℕ) (words : List ℕ) (v a u w : View) → HasCopied t words v a → HasGlanced a u
    → HasFilled t i n u w → HasCopied t (slice_set words i n) v w
copied_more t i n words v a u w h g fills =
    let own : u.drafts ≡ draft_of t words ∷ [] = ap (λ (z : View). z.drafts) g.is ∙ ap (λ (z : View). z.drafts) h.is in
    let is = filled_one t i n words u w own fills in
    let steps : w.steps ≡ u.steps + 1 = ap (λ (z : View). z.steps) is in
    let last : w.last ≡ u.last = ap (λ (z : View). z.last) is in
    let one : u ≡ with_copied t words v u.steps u.last =
    g.is ∙ ap (λ (z : View). (let y : View = record z { steps = u.steps; last = u.last } in y)) h.is in
    let first = h.since in
    let next = g.since in record {
      since = omega (arith, steps, first, next);
      long = length-set words i n ∙ h.long;
      is = is
          ∙ (ap (λ (z : View). (let y : View = record z
          { steps = u.steps + 1; drafts = draft_of t (slice_set words i n) ∷ [] } in y)) one
          ∙ (ap (λ (k : ℕ). with_copied t (slice_set words i n) v k u.last) (sym steps)
          ∙ ap (λ (o : Option Glance). with_copied t (slice_set words i n) v w.steps o) (sym last)));
    }
  where
    with_copied : ℕ → List ℕ → View → ℕ → Option Glance → View
    with_copied t words v steps last = record v { steps = steps; last = last; drafts = draft_of t words ∷ [] }

pub below_more : (words : List ℕ) (pages : List (List ℕ)) (page_number i n : ℕ) → i < length words
    → n ≡ get_or (page pages page_number) i 0 → CopiedBelow words pages page_number i
    → CopiedBelow (slice_set words i n) pages page_number (i + 1)
below_more words pages page_number i n less is below j more = by_test (eqb j i) refl
  where
    by_test : (b : Bool) → eqb j i ≡ b → get_or (set words i n) j 0 ≡ get_or (page pages page_number) j 0
    by_test true same =
        let here : j ≡ i = grind (arith, nat_tests) in
        ap (λ k. get_or (set words i n) k 0) here
        ∙ (get_or-set_same words i n 0 less ∙ (is ∙ ap (λ k. get_or (page pages page_number) k 0) (sym here)))
    by_test false other =
        let apart : j ≢ i = λ e. true≢false (sym (eq-eqb j i e) ∙ other) in
        get_or-set_other words i j n 0 apart ∙ below j (omega (arith, more, apart))

-- ---- a slot is given, filled and published

-- the view v with what a given slot changes, with these lists
abbrev given_view : List ℕ → List Draft → List Copied → View → View → View
given_view made drafts copies v z = record v {
  steps = z.steps;
  last = z.last;
  looked = z.looked;
  grip = record v.grip { made = made };
  drafts = drafts;
  copies = copies;
}

given_formed : (made : List ℕ) (drafts : List Draft) (copies : List Copied) (v w z : View)
    → w ≡ given_view made drafts copies v z → w ≡ given_view made drafts copies v w
given_formed made drafts copies v w z e = subst (λ (y : View). y ≡ given_view made drafts copies v y) (sym e) refl

-- what a slot that was given tells
pub record IsGiven (t : ℕ) (v a : View) : Type 0 where
  pub there : t < v.layout.slots
  pub unheld : has_slot v.grip.holds t ≡ false
  pub since : v.steps ≤ a.steps
  pub most : a.steps ≤ v.steps + (v.layout.slots + 1)
  pub words : List ℕ
  pub long : length words ≡ 64
  pub is : a ≡ given_view (t ∷ v.grip.made) (draft_of t words ∷ v.drafts) v.copies v a

pub is_given : (t : ℕ) (v a : View) → HasTaken t v a → IsGiven t v a
is_given t v a h =
    let before = h.first.seen in
    let is : a ≡ given t h.given.words h.word (searched v h.seen) =
    h.given.is ∙ ap (given t h.given.words h.word) before.only in
    let steps : a.steps ≡ (h.seen).steps + 1 = ap (λ (z : View). z.steps) h.given.is in
    let more = before.steps in record {
      there = h.first.there;
      unheld = ap (λ (z : View). has_slot z.grip.holds t) (sym before.only) ∙ h.given.unheld;
      since = omega (arith, steps, more);
      most =
          let long = length-append h.first.before (h.word ∷ []) in
          let count = h.first.count in
          let there = h.first.there in omega (arith, steps, more, long, count, there);
      words = h.given.words;
      long = h.given.long;
      is = given_formed (t ∷ v.grip.made) (draft_of t h.given.words ∷ v.drafts) v.copies v a
          (glanced (slot_at t) h.word h.seen) is;
    }

-- the draft alone
pub given_draft : (slots : List ℕ) (t : ℕ) (v a : View) → CanMake slots v → (g : IsGiven t v a)
    → a.drafts ≡ draft_of t g.words ∷ []
given_draft slots t v a can g =
    ap (λ (z : View). z.drafts) g.is ∙ ap (λ (l : List Draft). draft_of t g.words ∷ l) can.drafts

pub given_looks : (t : ℕ) (v a : View) → IsGiven t v a → CanLook v → CanLook a
given_looks t v a g look = subst CanLook (sym g.is) record { active = look.active; room = look.room; most = look.most }

pub published : (slots : List ℕ) (t : ℕ) (span : Span) (n : ℕ) (words : List ℕ) (v a b c : View) → CanMake slots v
    → IsGiven t v a → HasCopied t words a b → b.steps ≤ a.steps + 128 → c ≡ published_copy t span n b
    → HasPublished t span n v c
published slots t span n words v a b c can g copied copy_steps is =
    let two : b ≡ given_view (t ∷ v.grip.made) (draft_of t words ∷ []) v.copies v
    (let y : View = record a { steps = b.steps; last = b.last } in y) =
    copied.is
    ∙ ap (λ (y : View). (let z : View = record y { steps = b.steps; last = b.last; drafts = draft_of t words ∷ [] } in
    z)) g.is
    in
    let three : c ≡ given_view (t ∷ v.grip.made) (other_drafts t (draft_of t words ∷ []))
    (copy_of t span n ∷ v.copies) v
    (let y : View = record a { steps = b.steps + 1; last = b.last } in y) =
    is ∙ ap (published_copy t span n) two in
    let end : View = record a { steps = b.steps + 1; last = b.last } in
    let four : c ≡ given_view (t ∷ []) v.drafts (copy_of t span n ∷ []) v end =
    three
    ∙ (ap (λ (f : Bool). given_view (t ∷ v.grip.made) (cond (not f) (draft_of t words ∷ []) [])
    (copy_of t span n ∷ v.copies) v end) (self t)
    ∙ (ap (λ (l : List Draft). given_view (t ∷ v.grip.made) l (copy_of t span n ∷ v.copies) v end) (sym can.drafts)
    ∙ (ap (λ (l : List ℕ). given_view (t ∷ l) v.drafts (copy_of t span n ∷ v.copies) v end) can.made
    ∙ ap (λ (l : List Copied). given_view (t ∷ []) v.drafts (copy_of t span n ∷ l) v end) can.copies))) in
    let steps : c.steps ≡ b.steps + 1 = ap (λ (z : View). z.steps) is in
    let first = g.since in
    let next = copied.since in record {
      there = g.there;
      unheld = g.unheld;
      since = omega (arith, steps, first, next);
      most = let given-by = g.most in omega (arith, steps, given-by, copy_steps);
      is = given_formed (t ∷ []) v.drafts (copy_of t span n ∷ []) v c end four;
    }

-- ---- what a copy is

-- the words that were copied are those of the page, as the pass knew it before
pub copied_page : (words : List ℕ) (v b : View) (n : ℕ) → b.pages ≡ v.pages → AreCopied words v.pages n
    → (i : ℕ) → i < 64 → get_or words i 0 ≡ get_or (page b.pages n) i 0
copied_page words v b n pages copied i less =
    copied i less ∙ ap (λ (l : List (List ℕ)). get_or (page l n) i 0) (sym pages)

-- records that are copied are records
records_same : (words other : List ℕ) → ((i : ℕ) → i < 64 → get_or words i 0 ≡ get_or other i 0) → AreRecords other
    → AreRecords words
records_same words other same are = record {
  epochs = λ i few.
      subst (λ k. k / 2 ^ 40 ≤ last_epoch) (sym (same (2 * i) (omega (arith, few))))
      (are.epochs i few);
  blank = λ i few none.
      same (2 * i + 1) (omega (arith, few)) ∙ are.blank i few (sym (same (2 * i) (omega (arith, few))) ∙ none);
}

le_yes : (a b : ℕ) → a ≤ b → nat_le a b ≡ true
le_yes a b h = grind (arith, nat_tests)

narrow : (sp : Span) → sp.high ≡ sp.low + 31 → nat_le (width_of sp.low sp.high) leaf_room ≡ true
unfolding leaf_room
narrow sp exact = le_yes ((sp.high + 1) - sp.low) 32 (omega (arith, exact))

-- the words of a leaf that stands, or of none
pub leaf_records : (slots : List ℕ) (span : Span) (n : ℕ) (v : View) → CanWalk slots v
    → is_array v.layout.decls span.storage ≡ true → span.high ≡ span.low + 31
    → (0 < n → StandsFor v.layout.decls v.pages span n) → AreRecords (page v.pages n)
leaf_records slots span zero v can array exact stands = no_records
leaf_records slots span (suc n) v can array exact stands =
    let at = array_there v.layout.decls span.storage array in
    let s = stands_in v.layout.decls v.pages span.storage at.0 at.1 span (suc n) can.declared at.2 refl
    (stands (omega arith)) in
    standing_records span.storage at.1 v.pages s.depth (place_for span (suc n)) (narrow span exact) s.stands

-- the keys of an interior page, by its height
inner_keys : (span : Span) → CanCopy false span
    → (i : ℕ) × (span.high ≡ span.low + last_at i) × (span.low + 32 ≤ span.high)
inner_keys span (inl exact) = (1, exact, let e : span.high ≡ span.low + 2047 = exact in omega (arith, e))
inner_keys span (inr exact) = (2, exact, let e : span.high ≡ span.low + 131071 = exact in omega (arith, e))

module _ (t : ℕ) (span : Span) (n at : ℕ) (words : List ℕ) (v a b : View) (bare : IsBareAt n span at v)
    (array : is_array v.layout.decls span.storage ≡ true) (g : IsGiven t v a) (copied : AreCopied words a.pages n)
    (h : HasCopied t words a b) where
  draft_pages : b.pages ≡ v.pages
  draft_pages = ap (λ (z : View). z.pages) h.is ∙ ap (λ (z : View). z.pages) g.is

  draft_in : Contains b.drafts (draft_of t words)
  draft_in = subst (λ (z : View). Contains z.drafts (draft_of t words)) (sym h.is) (in_head (draft_of t words) [])

  draft_there : n ≤ length b.pages
  draft_there = subst (λ (l : List (List ℕ)). n ≤ length l) (sym draft_pages) bare.there

  draft_same : (i : ℕ) → i < 64 → get_or words i 0 ≡ get_or (page b.pages n) i 0
  draft_same = copied_page words a b n (ap (λ (z : View). z.pages) h.is) copied

  -- what the publish of a leaf's copy asks
  pub copy_draft : (slots : List ℕ) → CanWalk slots v → span.high ≡ span.low + 31 → HasCopyDraft b t span n
  copy_draft slots can exact = (
    draft_of t words,
    draft_in,
    refl,
    record {
      leaf = leaf_is span exact;
      exact = exact;
      there = draft_there;
      same = draft_same;
      records = records_same words (page v.pages n)
          (λ i few. copied i few ∙ ap (λ (z : View). get_or (page z.pages n) i 0) g.is)
          (leaf_records slots span n v can array exact bare.stands);
    },
  )

  -- what the publish of an interior page's copy asks
  pub pointers_draft : CanCopy false span → HasPointersDraft b t span n
  pointers_draft kind =
      let height = inner_keys span kind in
      let leads : b.leads ≡ v.leads = ap (λ (z : View). z.leads) h.is ∙ ap (λ (z : View). z.leads) g.is in
      let layout : b.layout ≡ v.layout = ap (λ (z : View). z.layout) h.is ∙ ap (λ (z : View). z.layout) g.is in (
        draft_of t words,
        draft_in,
        refl,
        record {
          inner = inner_is span height.2;
          array = subst (λ (y : Layout). is_array y.decls span.storage ≡ true) (sym layout) array;
          height = height.0;
          exact = height.1;
          there = draft_there;
          lead = λ some.
              subst (λ (l : List Lead). (x : Lead) × Contains l x × (x.span ≡ span) × (x.page ≡ n))
              (sym leads) bare.lead;
          same = draft_same;
        },
      )
