-- What it comes to that a slot's page is filled as a leaf, and published.
use Rattle.std.proofs.Common.{◌≡◌, ℕ, zero, suc, ◌+◌, ◌*◌, ◌<◌, ◌≤◌, Bool, true, cond, List, [], ◌∷◌, length}
use Rattle.std.proofs.Common.{get_or, map, refl, sym, ap, ◌∙◌, subst, arith, inl, inr, Some, eq-eqb, length-append}
use Rattle.std.specs.Prelude.{not, slice_set, slice_get}
use Rattle.std.specs.List.{Contains}
use Rattle.std.proofs.lemmas.List.{length-map}
use Rattle.std.proofs.lemmas.List.Elements.{Contains-get_or}
use Rattle.lists.specs.Elements.{in_cases, in_head, in_none}
use Rattle.serial_model.specs.declared.key.Key.{Key}
use Rattle.homes.specs.declared.places.Content.{Content}
use Rattle.homes.specs.declared.places.Holder.TheVariants.{Free}
use Rattle.homes.specs.declared.places.Span.{Span}
use Rattle.wire_form.specs.Leaves.{tree_leaf}
use Rattle.wire_form.specs.Words.{absent_field, number_word}
use Rattle.drop_core.specs.Table.{has_slot}
use Rattle.engine_pages.specs.declared.layout.Layout.{Layout}
use Rattle.engine_pages.specs.declared.view.Draft.{Draft}
use Rattle.engine_pages.specs.declared.view.View.{View}
use Rattle.engine_pages.specs.Layout.{slot_at}
use Rattle.engine_pages.specs.Pages.{is_tree}
use Rattle.engine_pages.specs.Slots.{filled, given, other_drafts, HasFilled, HasPageDraft}
use Rattle.engine_pages.specs.Steps.{glanced}
use Rattle.engine_pages.specs.Views.{IsActive}
use Rattle.engine_pages.specs.Words.{ShowsKeyed}
use Rattle.page_pool.specs.Pool.{HasTaken}
use Rattle.tree_heads.specs.Headers.{open_word}
use Rattle.tree_heads.specs.NewPages.{published_leaf, HasLeafDraft, IsLeafDraft}
use Rattle.array_pages.specs.Making.{draft_of}
use Rattle.foster_tree.specs.declared.entries.Entry.{Entry}
use Rattle.foster_tree.specs.Entries.{content_of, contents_of, key_of, keys_of, IsEntry}
use Rattle.foster_tree.specs.Filling.{as_made, leaf_of, leaf_words, no_entry, refilled, with_head, with_record}
use Rattle.foster_tree.specs.Filling.{with_records, AreLeafEntries, CanFill, Fills, HasMadeLeaf, HasOwnPage, IsOwnPage}
use Rattle.foster_tree.proofs.WordLaws.{head_stands, long_head, long_records, records_below, records_stand}
use Rattle.foster_tree.proofs.WordLaws.{HasRecord}

-- ---- stores in the one draft

pub page_draft : (t : ℕ) (v : View) → HasOwnPage v t → HasPageDraft v t
page_draft t v own = (
  draft_of t own.0,
  subst (λ (l : List Draft). Contains l (draft_of t own.0)) (sym own.1.only) (in_head (draft_of t own.0) []),
  refl,
  own.1.long,
)

-- a word of the draft is stored, before these others
abbrev fill_over : ℕ → List ℕ → ℕ → ℕ → View → List Draft → View
fill_over t words i n v more = record v { steps = v.steps + 1; drafts = draft_of t (slice_set words i n) ∷ more }

pub filled_word : (t i n : ℕ) (v w : View) → HasFilled t i n v w → Fills t (λ words. slice_set words i n) 1 v w
filled_word t i n v w h words own =
    let only = own.only in
    let x = h.0 in
    let is : draft_of t words ≡ x =
    elim (in_cases x (draft_of t words) [] (subst (λ (l : List Draft). Contains l x) only h.1)) [
      | inl e ↦ e
      | inr none ↦ absurd (in_none x none)
    ] in
    h.3
    ∙ (ap (λ (y : Draft). filled y i n v) (sym is)
    ∙ (ap (λ (l : List Draft). fill_over t words i n v (other_drafts t l)) only
    ∙ ap (λ (b : Bool). fill_over t words i n v (cond (not b) (draft_of t words ∷ []) [])) (eq-eqb t t refl)))

-- the page is filled again
pub own_after : (t n : ℕ) (words : List ℕ) (v w : View) → length words ≡ 64 → w ≡ refilled t words n v
    → IsOwnPage w t words
own_after t n words v w long is = record { only = ap (λ (z : View). z.drafts) is; long = long }

adds : (a b c : ℕ) → (a + b) + c ≡ a + (b + c)
adds a b c = omega arith

-- the page has these words, at this step
abbrev refilled_at : ℕ → List ℕ → ℕ → View → View
refilled_at t words k v = record v { steps = k; drafts = draft_of t words ∷ [] }

pub refilled_twice : (t n m : ℕ) (words other : List ℕ) (v u w : View) → u ≡ refilled t words n v
    → w ≡ refilled t other m u → w ≡ refilled t other (n + m) v
refilled_twice t n m words other v u w first next =
    next ∙ (ap (λ (z : View). refilled t other m z) first
    ∙ ap (λ (k : ℕ). refilled_at t other k v) (adds v.steps n m))

-- stores in a row
pub fills_then : (t n m : ℕ) (f g : List ℕ → List ℕ) (v u w : View)
    → ((words : List ℕ) → length words ≡ 64 → length (f words) ≡ 64) → Fills t f n v u → Fills t g m u w
    → Fills t (λ words. g (f words)) (n + m) v w
fills_then t n m f g v u w long first next words own =
    let is : u ≡ refilled t (f words) n v = first words own in
    refilled_twice t n m (f words) (g (f words)) v u w is
    (next (f words) (own_after t n (f words) v u (long words own.long) is))

-- what stays of the view
pub fills_own : (t n : ℕ) (f : List ℕ → List ℕ) (v w : View)
    → ((words : List ℕ) → length words ≡ 64 → length (f words) ≡ 64) → HasOwnPage v t → Fills t f n v w → HasOwnPage w t
fills_own t n f v w long own fills =
    (f own.0, own_after t n (f own.0) v w (long own.0 own.1.long) (fills own.0 own.1))

pub fills_can : (t n : ℕ) (f : List ℕ → List ℕ) (v w : View)
    → ((words : List ℕ) → length words ≡ 64 → length (f words) ≡ 64) → CanFill v t → Fills t f n v w → CanFill w t
fills_can t n f v w long can fills =
    let is : w ≡ refilled t (f can.own.0) n v = fills can.own.0 can.own.1 in
    record {
      active = subst (λ (z : View). IsActive z.role) (sym is) can.active;
      there = subst (λ (z : View). t < z.layout.slots) (sym is) can.there;
      own = fills_own t n f v w long can.own fills;
    }

-- nothing was filled yet
pub fills_none : (t : ℕ) (f : List ℕ → List ℕ) (v : View) → ((words : List ℕ) → f words ≡ words) → Fills t f 0 v v
fills_none t f v same words own =
    ap (λ (l : List Draft). (let y : View = record v { drafts = l } in y)) own.only
    ∙ (ap (λ (ws : List ℕ). refilled_at t ws v.steps v) (sym (same words))
    ∙ ap (λ (k : ℕ). refilled_at t (f words) k v) (let e : v.steps ≡ v.steps + 0 = omega arith in e))

-- ---- a leaf

-- what stands at an index of a list that a function gives
pub at_map : {A B : Type 0} (f : A → B) (xs : List A) (i : ℕ) (d : A) (y : B) → slice_get (map f xs) i ≡ Some y
    → (i < length xs) × (f (get_or xs i d) ≡ y)
at_map f [] i d y at = cc
at_map f (x ∷ xs) zero d y at = (omega arith, cc)
at_map f (x ∷ xs) (suc i) d y at = let r = at_map f xs i d y at in (omega (arith, r.0), r.1)

no_lock : (a b : ℕ) → a + b ≡ (a + 0) + b
no_lock a b = omega arith

-- a record that stands so shows what the entry says
shows_entry : (words : List ℕ) (at storage : ℕ) (e : Entry) → HasRecord words at e → IsEntry e
    → ShowsKeyed words at (λ q n. ⊥) (key_of storage e) (record { content = content_of e; holder = Free })
shows_entry words at storage e has is = record {
  key = has.key;
  absent = absent_field tree_leaf (content_of e).value;
  word = has.word ∙ (is.word ∙ no_lock (number_word (content_of e).number) (absent_field tree_leaf (content_of e).value));
  bit = inl refl;
  value = has.value ∙ is.value;
  small = is.small;
}

-- the words are those of a leaf with these records
pub leaf_draft : (sp : Span) (entries : List Entry) (words : List ℕ) (v : View) → length words ≡ 64
    → is_tree v.layout.decls sp.storage ≡ true → AreLeafEntries sp entries
    → IsLeafDraft v (leaf_words sp entries words) sp (keys_of sp.storage entries) (contents_of entries)
leaf_draft sp entries words v long tree are =
    let n : ℕ = length entries in
    let head : List ℕ = with_head sp (length entries) words in
    let whole : length (with_head sp (length entries) words) ≡ 64 = long_head sp (length entries) words long in
    let stands = head_stands sp (length entries) words long in
    let many : length (keys_of sp.storage entries) ≡ length entries = length-map entries (key_of sp.storage) in
    record {
      tree = tree;
      header = records_below (with_head sp (length entries) words) entries (length entries) 0 (omega arith)
          ∙ (stands.header ∙ ap open_word (sym many));
      low = records_below (with_head sp (length entries) words) entries (length entries) 1 (omega arith) ∙ stands.low;
      high = records_below (with_head sp (length entries) words) entries (length entries) 2 (omega arith) ∙ stands.high;
      few = subst (λ (m : ℕ). m ≤ 16) (sym many) are.few;
      once = are.once;
      inside = are.inside;
      each = length-map entries content_of ∙ sym many;
      records = λ i k c key content.
          let a = at_map (key_of sp.storage) entries i no_entry k key in
          let b = at_map content_of entries i no_entry c content in
          subst (λ (q : Key). ShowsKeyed (leaf_words sp entries words) (16 + 3 * i) (λ q n. ⊥) q
          (record { content = c; holder = Free })) a.1
          (subst (λ (d : Content). ShowsKeyed (leaf_words sp entries words) (16 + 3 * i) (λ q n. ⊥)
          (key_of sp.storage (get_or entries i no_entry)) (record { content = d; holder = Free })) b.1
          (shows_entry (leaf_words sp entries words) (16 + 3 * i) sp.storage (get_or entries i no_entry)
          (records_stand (with_head sp (length entries) words) entries (length entries) i whole are.few a.0)
          (are.each (get_or entries i no_entry) (Contains-get_or entries i no_entry a.0))));
    }

pub leaf_words_long : (sp : Span) (entries : List Entry) (words : List ℕ) → length words ≡ 64
    → length (leaf_words sp entries words) ≡ 64
leaf_words_long sp entries words long =
    long_records (with_head sp (length entries) words) entries (length entries)
    (long_head sp (length entries) words long)

-- the draft that was filled so
pub filled_leaf : (t n : ℕ) (sp : Span) (entries : List Entry) (v w : View) → HasOwnPage v t
    → is_tree v.layout.decls sp.storage ≡ true → AreLeafEntries sp entries → Fills t (leaf_words sp entries) n v w
    → HasLeafDraft w t sp (keys_of sp.storage entries) (contents_of entries)
filled_leaf t n sp entries v w own tree are fills =
    let is : w ≡ refilled t (leaf_words sp entries own.0) n v = fills own.0 own.1 in (
      draft_of t (leaf_words sp entries own.0),
      subst (λ (z : View). Contains z.drafts (draft_of t (leaf_words sp entries own.0))) (sym is)
          (in_head (draft_of t (leaf_words sp entries own.0)) []),
      refl,
      leaf_draft sp entries own.0 w own.1.long
          (subst (λ (y : Layout). is_tree y.decls sp.storage ≡ true) (sym (ap (λ (z : View). z.layout) is)) tree) are,
    )

-- ---- a slot is given, filled and published

-- the loads of a search for a slot leave all else
abbrev searched : View → View → View
searched v w = record v { steps = w.steps; last = w.last; looked = w.looked }

-- the page of a slot that was given is the one draft
pub given_own : (t : ℕ) (v a : View) → v.drafts ≡ [] → HasTaken t v a → HasOwnPage a t
given_own t v a none h =
    let before = h.first.seen in (
      h.given.words,
      record {
        only = ap (λ (z : View). z.drafts) h.given.is
            ∙ ap (λ (l : List Draft). draft_of t h.given.words ∷ l) (ap (λ (z : View). z.drafts) before.only ∙ none);
        long = h.given.long;
      },
    )

pub given_can : (t : ℕ) (v a : View) → IsActive v.role → v.drafts ≡ [] → HasTaken t v a → CanFill a t
given_can t v a active none h =
    let before = h.first.seen in
    record {
      active = subst (λ (z : View). IsActive z.role) (sym h.given.is)
          (subst (λ (z : View). IsActive z.role) (sym before.only) active);
      there = subst (λ (z : View). t < z.layout.slots) (sym h.given.is)
          (subst (λ (z : View). t < z.layout.slots) (sym before.only) h.first.there);
      own = given_own t v a none h;
    }

pub given_layout : (t : ℕ) (v a : View) → HasTaken t v a → a.layout ≡ v.layout
given_layout t v a h = ap (λ (z : View). z.layout) h.given.is ∙ ap (λ (z : View). z.layout) h.first.seen.only

-- what a leaf that was made changes, with these own pages
abbrev made_view : ℕ → Span → List Entry → List Draft → View → View → View
made_view t sp entries drafts v z = record v {
  steps = z.steps;
  last = z.last;
  looked = z.looked;
  grip = record v.grip { made = t ∷ v.grip.made };
  drafts = drafts;
  new_leaves = leaf_of t sp entries ∷ v.new_leaves;
}

made_formed : (t : ℕ) (sp : Span) (entries : List Entry) (v w z : View) → w ≡ as_made t sp entries v z
    → w ≡ as_made t sp entries v w
made_formed t sp entries v w z e = subst (λ (y : View). y ≡ as_made t sp entries v y) (sym e) refl

pub made_leaf : (t n : ℕ) (sp : Span) (entries : List Entry) (v a b c : View) → v.drafts ≡ [] → HasTaken t v a
    → Fills t (leaf_words sp entries) n a b → n ≡ 3 + 3 * length entries
    → c ≡ published_leaf t sp (keys_of sp.storage entries) (contents_of entries) b → HasMadeLeaf t sp entries v c
made_leaf t n sp entries v a b c none h fills many is =
    let before = h.first.seen in
    let own = given_own t v a none h in
    let words : List ℕ = leaf_words sp entries own.0 in
    let filled : b ≡ refilled t (leaf_words sp entries own.0) n a = fills own.0 own.1 in
    let one : a ≡ given t h.given.words h.word (searched v h.seen) =
    h.given.is ∙ ap (given t h.given.words h.word) before.only in
    let end : View = record (glanced (slot_at t) h.word h.seen) { steps = ((h.seen.steps + 1) + n) + 1 } in
    let two : c ≡ made_view t sp entries (other_drafts t (draft_of t (leaf_words sp entries own.0) ∷ [])) v end =
    is ∙ (ap (published_leaf t sp (keys_of sp.storage entries) (contents_of entries)) filled
    ∙ ap (λ (z : View). published_leaf t sp (keys_of sp.storage entries) (contents_of entries)
    (refilled t (leaf_words sp entries own.0) n z)) one) in
    let three : c ≡ made_view t sp entries v.drafts v end =
    two ∙ (ap (λ (f : Bool). made_view t sp entries (cond (not f) (draft_of t (leaf_words sp entries own.0) ∷ []) []) v end)
    (eq-eqb t t refl)
    ∙ ap (λ (l : List Draft). made_view t sp entries l v end) (sym none)) in
    let last-step : c.steps ≡ b.steps + 1 = ap (λ (z : View). z.steps) is in
    let stores : b.steps ≡ a.steps + n = ap (λ (z : View). z.steps) filled in
    let gave : a.steps ≡ (h.seen).steps + 1 = ap (λ (z : View). z.steps) h.given.is in
    let more = before.steps in
    let long = length-append h.first.before (h.word ∷ []) in
    let count = h.first.count in
    let there = h.first.there in
    record {
      there = there;
      unheld = ap (λ (z : View). has_slot z.grip.holds t) (sym before.only) ∙ h.given.unheld;
      unmade = ap (λ (z : View). has_slot z.grip.made t) (sym before.only) ∙ h.given.unmade;
      since = omega (arith, last-step, stores, gave, more);
      most = omega (arith, last-step, stores, gave, more, long, count, there, many);
      is = made_formed t sp entries v c end three;
    }

header_is : (count : ℕ) → 256 + count ≡ open_word count
header_is count = omega arith

-- the header's word, as it is computed
pub header_fills : (t count : ℕ) (v w : View) → Fills t (λ words. slice_set words 0 (256 + count)) 1 v w
    → Fills t (λ words. slice_set words 0 (open_word count)) 1 v w
header_fills t count v w fills =
    subst (λ (n : ℕ). Fills t (λ words. slice_set words 0 n) 1 v w) (header_is count) fills

-- one record more
pub record_more : (t i : ℕ) (entries : List Entry) (v u w : View)
    → Fills t (λ words. with_records words entries i) (3 * i) v u
    → Fills t (λ words. with_record words (16 + 3 * i) (get_or entries i no_entry)) 3 u w
    → Fills t (λ words. with_records words entries (i + 1)) (3 * (i + 1)) v w
record_more t i entries v u w before next =
    let both : Fills t (λ words. with_records words entries (suc i)) (3 * i + 3) v w =
    fills_then t (3 * i) 3 (λ words. with_records words entries i)
    (λ words. with_record words (16 + 3 * i) (get_or entries i no_entry)) v u w
    (λ words long. long_records words entries i long) before next in
    let steps : Fills t (λ words. with_records words entries (suc i)) (3 * (i + 1)) v w =
    subst (λ (n : ℕ). Fills t (λ words. with_records words entries (suc i)) n v w) (many i) both in
    subst (λ (m : ℕ). Fills t (λ words. with_records words entries m) (3 * (i + 1)) v w) (next_is i) steps
  where
    many : (i : ℕ) → 3 * i + 3 ≡ 3 * (i + 1)
    many i = omega arith

    next_is : (i : ℕ) → suc i ≡ i + 1
    next_is i = omega arith
