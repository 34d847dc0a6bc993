-- What it comes to that a page of a tree is made from a page of a snapshot, or from none.
use Rattle.std.proofs.Common.{◌≡◌, ◌≢◌, inl, inr, ℕ, ◌+◌, ◌/◌, ◌<◌, ◌≤◌, Bool, true, cond, List, [], ◌∷◌, length, get_or}
use Rattle.std.proofs.Common.{map, refl, sym, ap, ◌∙◌, subst, arith, eq-eqb, length-append, true≢false}
use Rattle.std.specs.Prelude.{not, Result, Ok, Err, IfOk}
use Rattle.std.specs.List.{Contains}
use Rattle.lists.specs.Elements.{in_head, in_none}
use Rattle.serial_model.specs.declared.key.Key.{Key}
use Rattle.homes.specs.declared.places.Content.{Content}
use Rattle.homes.specs.declared.places.Span.{Span}
use Rattle.wire_form.specs.declared.page.PageKind.TheVariants.{TreeLeaf}
use Rattle.wire_form.specs.Pages.{HasKind}
use Rattle.snapshot_store.specs.Places.{page as page_words}
use Rattle.drop_core.specs.Table.{has_slot}
use Rattle.engine_pages.specs.declared.layout.Layout.{Layout}
use Rattle.engine_pages.specs.declared.view.Draft.{Draft}
use Rattle.engine_pages.specs.declared.view.NewInner.{NewInner}
use Rattle.engine_pages.specs.declared.view.NewLeaf.{NewLeaf}
use Rattle.engine_pages.specs.declared.view.RefusalCause.{RefusalCause}
use Rattle.engine_pages.specs.declared.view.View.{View}
use Rattle.engine_pages.specs.Layout.{snap_at}
use Rattle.engine_pages.specs.Loads.{HasLoaded}
use Rattle.engine_pages.specs.Pages.{is_tree}
use Rattle.engine_pages.specs.Resident.{tree_below}
use Rattle.engine_pages.specs.Slots.{given, other_drafts, other_inners, other_leaves}
use Rattle.engine_pages.specs.Steps.{glanced}
use Rattle.engine_pages.specs.Views.{IsActive}
use Rattle.page_pool.specs.Pool.{HasTaken}
use Rattle.dual_pointer.specs.Installs.{contents_in, keys_in, tree_records}
use Rattle.tree_heads.specs.NewPages.{published_inner, published_leaf, HasInnerDraft, HasLeafDraft, IsLeafDraft}
use Rattle.array_pages.specs.Making.{draft_of, AreCopied, HasCopied}
use Rattle.array_pages.specs.Snapshots.{CanLook}
use Rattle.foster_tree.specs.Filling.{leaf_of, AreLeafEntries, HasMadeLeaf}
use Rattle.tree_making.specs.Pages.{as_paged, CanMakePage, HasPage}
use Rattle.tree_making.proofs.StoredLaws.{contents_are, each_so, few_so, header_so, high_so, inside_so, key_so, keys_are}
use Rattle.tree_making.proofs.StoredLaws.{content_so, kind_at, leaf_at, low_so, none_below, once_so, records_so}

-- the view v with what a page changes as w has it, with these lists
abbrev paged_at : ℕ → List ℕ → List Draft → List NewLeaf → List NewInner → View → View → View
paged_at t made drafts leaves inners v w = record v {
  steps = w.steps;
  last = w.last;
  looked = w.looked;
  grip = record v.grip { made = made };
  drafts = drafts;
  new_leaves = leaves;
  new_inners = inners;
}

-- ---- no page

blank_made : (t n : ℕ) (sp : Span) (v w : View) → CanMakePage v sp n → n ≡ 0 → HasMadeLeaf t sp [] v w → HasPage t sp 0 v w
blank_made t n sp v w can none h =
    let leaf : NewLeaf = leaf_of t sp [] in
    record {
      there = h.there;
      unheld = h.unheld;
      since = h.since;
      most = let most = h.most in omega (arith, most);
      leaves = leaf_of t sp [] ∷ [];
      inners = v.new_inners;
      no_leaf = ap (λ (b : Bool). cond (not b) (leaf_of t sp [] ∷ []) []) (eq-eqb t t refl);
      no_inner = ap (λ (l : List NewInner). other_inners t l) can.nothing_made.inners;
      page = inl record {
        has = subst (λ (l : List NewLeaf). Contains l (leaf_of t sp []))
            (sym (ap (λ (z : View). z.new_leaves) h.is)) (in_head (leaf_of t sp []) v.new_leaves);
        tree = subst (λ (y : Layout). is_tree y.decls sp.storage ≡ true) (sym (ap (λ (z : View). z.layout) h.is)) can.tree;
        there = omega arith;
        leaf = refl;
      };
      is = h.is
          ∙ (ap (λ (l : List ℕ). paged_at t (t ∷ l) v.drafts (leaf_of t sp [] ∷ v.new_leaves) v.new_inners v w)
          can.nothing_made.made
          ∙ ap (λ (l : List NewLeaf). paged_at t (t ∷ []) v.drafts (leaf_of t sp [] ∷ l) v.new_inners v w)
          can.nothing_made.leaves);
    }

-- no records make a leaf
pub no_entries : (sp : Span) → AreLeafEntries sp []
no_entries sp = record {
  few = omega arith;
  once = refl;
  inside = λ k has. absurd (true≢false (sym has));
  each = λ e has. absurd (in_none e has);
}

-- an empty leaf, or none
pub blank_so : (r : Result ℕ RefusalCause) (n : ℕ) (sp : Span) (v w : View) → CanMakePage v sp n → n ≡ 0
    → IfOk r (λ t. HasMadeLeaf t sp [] v w) → IfOk r (λ t. HasPage t sp n v w)
blank_so (Ok t) n sp v w can none h =
    subst (λ (i : ℕ). HasPage t sp i v w) (sym none) (blank_made t n sp v w can none h)
blank_so (Err why) n sp v w can none h = tt

-- ---- a slot is given

-- the view v with the slot's page as the one draft, and the rest as w has it
abbrev drafted : ℕ → List Draft → View → View → View
drafted t drafts v w = record v {
  steps = w.steps;
  last = w.last;
  looked = w.looked;
  grip = record v.grip { made = t ∷ v.grip.made };
  drafts = drafts;
}

abbrev searched : View → View → View
searched v w = record v { steps = w.steps; last = w.last; looked = w.looked }

module _ (u a : View) (t : ℕ) (sp : Span) (n : ℕ) (can : CanMakePage u sp n) (some : 0 < n) (taken : HasTaken t u a) where
  given_is : a ≡ drafted t (draft_of t taken.given.words ∷ []) u a
  given_is =
      let before = taken.first.seen in
      let one : a ≡ drafted t (draft_of t taken.given.words ∷ u.drafts) u
      (given t taken.given.words taken.word (searched u taken.seen)) =
      taken.given.is ∙ ap (given t taken.given.words taken.word) before.only in
      let two : a ≡ drafted t (draft_of t taken.given.words ∷ []) u
      (given t taken.given.words taken.word (searched u taken.seen)) =
      one
      ∙ ap (λ (l : List Draft). drafted t (draft_of t taken.given.words ∷ l) u
      (given t taken.given.words taken.word (searched u taken.seen))) can.nothing_made.drafts in
      subst (λ (y : View). y ≡ drafted t (draft_of t taken.given.words ∷ []) u y) (sym two) refl

  pub given_look : CanLook a
  given_look = subst CanLook (sym given_is) record { active = can.look.active; room = can.look.room; most = can.look.most }

  pub given_slot : t < a.layout.slots
  given_slot = subst (λ (z : View). t < z.layout.slots) (sym given_is) taken.first.there

  pub given_pages : n ≤ length a.pages
  given_pages = subst (λ (z : View). n ≤ length z.pages) (sym given_is) can.there

  pub given_words : (words : List ℕ) × (length words ≡ 64) × (a.drafts ≡ draft_of t words ∷ [])
  given_words = (taken.given.words, taken.given.long, ap (λ (z : View). z.drafts) given_is)

  since_given : u.steps ≤ a.steps
  since_given =
      let steps : a.steps ≡ (taken.seen).steps + 1 = ap (λ (z : View). z.steps) taken.given.is in
      let more = taken.first.seen.steps in omega (arith, steps, more)

  most_given : a.steps ≤ u.steps + (u.layout.slots + 1)
  most_given =
      let steps : a.steps ≡ (taken.seen).steps + 1 = ap (λ (z : View). z.steps) taken.given.is in
      let more = taken.first.seen.steps in
      let long = length-append taken.first.before (taken.word ∷ []) in
      let count = taken.first.count in
      let there = taken.first.there in omega (arith, steps, more, long, count, there)

  -- ---- its page is copied

  module _ (b : View) (words : List ℕ) (h : HasCopied t words a b) where
    copied_is : b ≡ drafted t (draft_of t words ∷ []) u b
    copied_is =
        let one : b ≡ drafted t (draft_of t words ∷ []) u (record a { steps = b.steps; last = b.last }) =
        h.is ∙ ap (λ (z : View). (let y : View = record z { steps = b.steps; last = b.last; drafts = draft_of t words ∷ [] } in
        y)) given_is in
        subst (λ (y : View). y ≡ drafted t (draft_of t words ∷ []) u y) (sym one) refl

    pub copied_active : IsActive b.role
    copied_active = subst (λ (z : View). IsActive z.role) (sym copied_is) can.look.active

    pub copied_pages : n ≤ length b.pages
    copied_pages = subst (λ (z : View). n ≤ length z.pages) (sym copied_is) can.there

    pub copied_room : n ≤ b.layout.resident
    copied_room = subst (λ (z : View). n ≤ z.layout.resident) (sym copied_is)
        (let there = can.there in let room = can.look.room in omega (arith, there, room))

  -- ---- and the header of the snapshot's page loaded

  module _ (b e : View) (words : List ℕ) (header : ℕ) (copied : AreCopied words a.pages n) (h : HasCopied t words a b)
      (few : b.steps ≤ a.steps + 128) (loaded : HasLoaded n 0 b header e) where
    loaded_is : e ≡ drafted t (draft_of t words ∷ []) u e
    loaded_is =
        let one : e ≡ drafted t (draft_of t words ∷ []) u (glanced (snap_at b.layout.slots n 0) header b) =
        loaded.0 ∙ ap (glanced (snap_at b.layout.slots n 0) header) (copied_is b words h) in
        subst (λ (y : View). y ≡ drafted t (draft_of t words ∷ []) u y) (sym one) refl

    pub loaded_active : IsActive e.role
    loaded_active = subst (λ (z : View). IsActive z.role) (sym loaded_is) can.look.active

    pub loaded_slot : t < e.layout.slots
    loaded_slot = subst (λ (z : View). t < z.layout.slots) (sym loaded_is) taken.first.there

    pages_are : e.pages ≡ u.pages
    pages_are = ap (λ (z : View). z.pages) loaded_is

    same_words : (i : ℕ) → i < 64 → get_or words i 0 ≡ get_or (page_words u.pages n) i 0
    same_words i less = copied i less ∙ ap (λ (z : View). get_or (page_words z.pages n) i 0) given_is

    header_is : header ≡ get_or (page_words u.pages n) 0 0
    header_is = loaded.1 ∙ ap (λ (z : View). get_or (page_words z.pages n) 0 0) (copied_is b words h)

    draft_in : Contains e.drafts (draft_of t words)
    draft_in = subst (λ (z : View). Contains z.drafts (draft_of t words)) (sym loaded_is) (in_head (draft_of t words) [])

    tree_is : is_tree e.layout.decls sp.storage ≡ true
    tree_is = subst (λ (z : View). is_tree z.layout.decls sp.storage ≡ true) (sym loaded_is) can.tree

    -- an interior page
    pub inner_draft : header / 256 ≡ 2 → HasInnerDraft e t sp n
    inner_draft inner = (
      draft_of t words,
      draft_in,
      refl,
      record {
        tree = tree_is;
        some = some;
        there = subst (λ (l : List (List ℕ)). n ≤ length l) (sym pages_are) can.there;
        lead = can.lead.0;
        has = subst (λ (z : View). Contains z.leads can.lead.0) (sym loaded_is) can.lead.1;
        over = can.lead.2;
        number = can.lead.3;
        inner = ap (λ (m : ℕ). m / 256) (same_words 0 (omega arith) ∙ sym header_is) ∙ inner;
        same = λ i less. same_words i less ∙ ap (λ (l : List (List ℕ)). get_or (page_words l n) i 0) (sym pages_are);
      },
    )

    leaf_is : header / 256 ≢ 2 → HasKind (TreeLeaf sp.low sp.high) n (page_words u.pages n)
    leaf_is other =
        leaf_at u.pages sp n header header_is other
        (kind_at u.layout.decls u.pages sp n can.declared can.tree some (can.stands some))

    -- a leaf
    pub leaf_draft : header / 256 ≢ 2
        → HasLeafDraft e t sp (keys_in sp (tree_records e.pages n)) (contents_in (tree_records e.pages n))
    leaf_draft other =
        let leaf = leaf_is other in
        let draft : IsLeafDraft e words sp (map (key_so sp) leaf.0) (map content_so leaf.0) = record {
          tree = tree_is;
          header = header_so u.pages sp n words leaf same_words;
          low = low_so u.pages sp n words leaf same_words;
          high = high_so u.pages sp n words leaf same_words;
          few = few_so u.pages sp n words leaf same_words;
          once = once_so u.pages sp n words leaf same_words;
          inside = inside_so u.pages sp n words leaf same_words;
          each = each_so u.pages sp n words leaf same_words;
          records = records_so u.pages sp n words leaf same_words;
        } in
        subst (λ (l : List (List ℕ)). HasLeafDraft e t sp (keys_in sp (tree_records l n)) (contents_in (tree_records l n)))
        (sym pages_are)
        (subst (λ (q : List Key). HasLeafDraft e t sp q (contents_in (tree_records u.pages n)))
        (sym (keys_are u.pages sp n words leaf same_words))
        (subst (λ (q : List Content). HasLeafDraft e t sp (map (key_so sp) leaf.0) q)
        (sym (contents_are u.pages sp n words leaf same_words))
        (draft_of t words, draft_in, refl, draft)))

    since_loaded : u.steps ≤ e.steps
    since_loaded =
        let first = since_given in
        let next = h.since in
        let last : e.steps ≡ b.steps + 1 = ap (λ (z : View). z.steps) loaded.0 in omega (arith, first, next, last)

    most_loaded : e.steps + 1 ≤ u.steps + (u.layout.slots + 131)
    most_loaded =
        let first = most_given in
        let last : e.steps ≡ b.steps + 1 = ap (λ (z : View). z.steps) loaded.0 in omega (arith, first, few, last)

    -- the one draft is published
    none_left : (drafts : List Draft) → other_drafts t (draft_of t words ∷ []) ≡ []
    none_left drafts = ap (λ (b : Bool). cond (not b) (draft_of t words ∷ []) []) (eq-eqb t t refl)

    published_is : (leaves : List NewLeaf) (inners : List NewInner) (w z : View)
        → w ≡ paged_at t (t ∷ u.grip.made) (other_drafts t (draft_of t words ∷ [])) leaves inners u z
        → w ≡ as_paged t leaves inners u w
    published_is leaves inners w z is =
        let four : w ≡ as_paged t leaves inners u z =
        is
        ∙ (ap (λ (l : List Draft). paged_at t (t ∷ u.grip.made) l leaves inners u z)
        (none_left [] ∙ sym can.nothing_made.drafts)
        ∙ ap (λ (l : List ℕ). paged_at t (t ∷ l) u.drafts leaves inners u z) can.nothing_made.made) in
        subst (λ (y : View). y ≡ as_paged t leaves inners u y) (sym four) refl

    pub inner_page : (w : View) → w ≡ published_inner t sp n e → HasPage t sp n u w
    inner_page w is =
        let page : NewInner = record { slot = t; span = sp; page = n } in
        let steps : w.steps ≡ e.steps + 1 = ap (λ (z : View). z.steps) is in
        let since = since_loaded in
        let most = most_loaded in
        record {
          there = taken.first.there;
          unheld = ap (λ (z : View). has_slot z.grip.holds t) (sym taken.first.seen.only) ∙ taken.given.unheld;
          since = omega (arith, steps, since);
          most = omega (arith, steps, most);
          leaves = u.new_leaves;
          inners = record { slot = t; span = sp; page = n } ∷ u.new_inners;
          no_leaf = ap (λ (l : List NewLeaf). other_leaves t l) can.nothing_made.leaves;
          no_inner =
              ap (λ (l : List NewInner). other_inners t (record { slot = t; span = sp; page = n } ∷ l)) can.nothing_made.inners
              ∙ ap (λ (b : Bool). (let l : List NewInner = cond (not b) (record { slot = t; span = sp; page = n } ∷ []) [] in
              l)) (eq-eqb t t refl);
          page = inr record {
            has = subst (λ (z : View). Contains z.new_inners (record { slot = t; span = sp; page = n })) (sym is)
                (in_head (record { slot = t; span = sp; page = n }) e.new_inners);
            tree = subst (λ (z : View). is_tree z.layout.decls sp.storage ≡ true) (sym is) tree_is;
          };
          is = published_is u.new_leaves (record { slot = t; span = sp; page = n } ∷ u.new_inners) w (published_inner t sp n e)
              (is ∙ ap (published_inner t sp n) loaded_is);
        }

    pub leaf_page : (w : View) → header / 256 ≢ 2
        → w ≡ published_leaf t sp (keys_in sp (tree_records e.pages n)) (contents_in (tree_records e.pages n)) e
        → HasPage t sp n u w
    leaf_page w other is =
        let steps : w.steps ≡ e.steps + 1 = ap (λ (z : View). z.steps) is in
        let since = since_loaded in
        let most = most_loaded in
        let leaf : NewLeaf = record {
          slot = t;
          span = sp;
          keys = keys_in sp (tree_records e.pages n);
          contents = contents_in (tree_records e.pages n);
        } in
        record {
          there = taken.first.there;
          unheld = ap (λ (z : View). has_slot z.grip.holds t) (sym taken.first.seen.only) ∙ taken.given.unheld;
          since = omega (arith, steps, since);
          most = omega (arith, steps, most);
          leaves = leaf ∷ u.new_leaves;
          inners = u.new_inners;
          no_leaf =
              ap (λ (l : List NewLeaf). other_leaves t (leaf ∷ l)) can.nothing_made.leaves
              ∙ ap (λ (b : Bool). (let l : List NewLeaf = cond (not b) (leaf ∷ []) [] in l)) (eq-eqb t t refl);
          no_inner = ap (λ (l : List NewInner). other_inners t l) can.nothing_made.inners;
          page = inl record {
            has = subst (λ (l : List (List ℕ)). Contains w.new_leaves (record {
              slot = t;
              span = sp;
              keys = keys_in sp (tree_records l n);
              contents = contents_in (tree_records l n);
            })) (sym (ap (λ (z : View). z.pages) is))
                (subst (λ (z : View). Contains z.new_leaves leaf) (sym is) (in_head leaf e.new_leaves));
            tree = subst (λ (z : View). is_tree z.layout.decls sp.storage ≡ true) (sym is) tree_is;
            there = subst (λ (l : List (List ℕ)). n ≤ length l) (sym (ap (λ (z : View). z.pages) is ∙ pages_are)) can.there;
            leaf = ap (λ (l : List (List ℕ)). tree_below l sp n) (ap (λ (z : View). z.pages) is ∙ pages_are)
                ∙ none_below u.pages sp n words (leaf_is other) same_words;
          };
          is = published_is (leaf ∷ u.new_leaves) u.new_inners w
              (published_leaf t sp (keys_in sp (tree_records e.pages n)) (contents_in (tree_records e.pages n)) e)
              (is ∙ ap (published_leaf t sp (keys_in sp (tree_records e.pages n)) (contents_in (tree_records e.pages n)))
              loaded_is);
        }
