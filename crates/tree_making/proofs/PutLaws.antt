-- What it comes to that a page is put in below a pointer.
use Rattle.std.proofs.Common.{◌≡◌, ◌≢◌, ◌⊎◌, inl, inr, ℕ, ◌+◌, ◌<◌, Bool, true, false, cond, eqb, eq-eqb}
use Rattle.std.proofs.Common.{List, [], ◌∷◌, ◌++◌, length, refl, sym, ap, ◌∙◌, subst, arith, Option, Some}
use Rattle.std.specs.Prelude.{not, Ok, Err}
use Rattle.std.specs.List.{Contains}
use Rattle.std.proofs.lemmas.Bool.{or_left, or_right}
use Rattle.lists.specs.Elements.{in_cases, in_head, in_tail}
use Rattle.lists.specs.Fronts.{front_refl}
use Rattle.serial_model.specs.declared.key.Key.{Key}
use Rattle.homes.specs.declared.places.At.{At}
use Rattle.homes.specs.declared.places.At.TheVariants.{Root, In}
use Rattle.homes.specs.declared.places.Span.{Span}
use Rattle.homes.specs.Homes.{in_span}
use Rattle.drop_core.specs.Event.{without}
use Rattle.drop_core.specs.Table.{has_slot}
use Rattle.tx_sets.specs.declared.seen.Seen.{Seen}
use Rattle.engine_pages.specs.declared.layout.Layout.{Layout}
use Rattle.engine_pages.specs.declared.view.Copied.{Copied}
use Rattle.engine_pages.specs.declared.view.Inner.{Inner}
use Rattle.engine_pages.specs.declared.view.NewInner.{NewInner}
use Rattle.engine_pages.specs.declared.view.NewLeaf.{NewLeaf}
use Rattle.engine_pages.specs.declared.view.RefusalCause.TheVariants as causes
use Rattle.engine_pages.specs.declared.view.View.{View}
use Rattle.engine_pages.specs.declared.view.Way.{Way}
use Rattle.engine_pages.specs.Agreement.{TreesAgree}
use Rattle.engine_pages.specs.Layout.{page_at}
use Rattle.engine_pages.specs.Pages.{is_array, is_tree, root_span}
use Rattle.engine_pages.specs.Pointers.{IsPointerAt, WaysAgree, page_half, ways_if}
use Rattle.engine_pages.specs.Slots.{entered, other_copies, other_inners, other_leaves, retired, MayRetire}
use Rattle.engine_pages.specs.Steps.{kept_at, read_at, seen_at}
use Rattle.dual_pointer.specs.Installs.{contents_in, installed, keys_in, leading_word, tree_records}
use Rattle.dual_pointer.specs.Installs.{CanInstall, HasInstalled, IsInnerFor, IsLeafFor}
use Rattle.array_pages.proofs.ReadLaws.{kept_here, kept_with, noted_in, seen_other, seen_same}
use Rattle.tree_walks.specs.declared.ways.Bare.{Bare}
use Rattle.tree_walks.specs.Steps.{EntersSo}
use Rattle.tree_walks.specs.Walks.{as_walked, HasWalked}
use Rattle.tree_walks.specs.Ways.{IsBareOn, IsOnWay}
use Rattle.tree_walks.proofs.EnterLaws.{enter_new}
use Rattle.tree_walks.proofs.LoadLaws.{trees_by}
use Rattle.tree_walks.proofs.PathLaws.{paths_same}
use Rattle.tree_walks.proofs.StepLaws.{can_by, led_new, only_but, slots_stay, tree_stays, word_stays}
use Rattle.tree_walks.proofs.WayLaws.{pointer_stays}
use Rattle.tree_making.specs.Making.{CanMake}
use Rattle.tree_making.specs.Pages.{as_paged, HasPage, PutsSo}
use Rattle.tree_making.proofs.MakeLaws.{make_after}

-- a way is one of before, or the new one
way_cases : (b : Bool) (t : ℕ) (sp : Span) (ways : List Way) (x : Way) → Contains (ways_if b t sp ways) x
    → Contains ways x ⊎ ((let y : Way = record { slot = t; span = sp } in y) ≡ x)
way_cases true t sp ways x has = elim (in_cases x (record { slot = t; span = sp }) ways has) [
  | inl same ↦ inr same
  | inr old ↦ inl old
]
way_cases false t sp ways x has = inl has

-- a pointer's place is known where the same pages are
pub place_same : (v w : View) (x : At) (span : Span) (at : ℕ) → w.layout ≡ v.layout → w.ways ≡ v.ways → w.inners ≡ v.inners
    → IsPointerAt v x span at → IsPointerAt w x span at
place_same v w (Root r) span at layout ways inners place =
    subst (λ (y : Layout). (r < length y.decls) × (span ≡ root_span y.decls r) × (at ≡ 10 + r)) (sym layout) place
place_same v w (In y) span at layout ways inners place = elim place [
  | inl p ↦ inl record {
    way = p.way;
    has = subst (λ (l : List Way). Contains l p.way) (sym ways) p.has;
    slot = p.slot;
    kind = subst (λ (z : Layout). is_array z.decls p.way.span.storage ≡ true) (sym layout) p.kind;
    inner = p.inner;
    index = p.index;
    span = p.span;
    word = p.word ∙ ap (λ (z : Layout). page_at z.slots y.slot y.index) (sym layout);
  }
  | inr p ↦ inr record {
    way = p.way;
    has = subst (λ (l : List Way). Contains l p.way) (sym ways) p.has;
    slot = p.slot;
    kind = subst (λ (z : Layout). is_tree z.decls p.way.span.storage ≡ true) (sym layout) p.kind;
    inner = p.inner;
    knows = subst (λ (l : List Inner). Contains l p.inner) (sym inners) p.knows;
    same = p.same;
    index = p.index;
    span = p.span;
    word = p.word ∙ ap (λ (z : Layout). page_at z.slots y.slot (4 + y.index)) (sym layout);
  }
]

-- what is left of the slot that was made
without_one : (t : ℕ) → without (t ∷ []) t ≡ []
without_one t = ap (λ (b : Bool). cond (not b) (t ∷ []) []) (eq-eqb t t refl)

without_none : (l : List ℕ) (t : ℕ) → l ≡ [] → without l t ≡ l
without_none l t none = subst (λ (z : List ℕ). without z t ≡ z) (sym none) refl

no_copy : (l : List Copied) (t : ℕ) → l ≡ [] → other_copies t l ≡ l
no_copy l t none = subst (λ (z : List Copied). other_copies t z ≡ z) (sym none) refl

-- the view v with what z has of a walk, and these lists
abbrev end_view : List ℕ → List ℕ → List Copied → List ℕ → List NewLeaf → List NewInner → View → View → View
end_view made taken copies blanks leaves inners v z = record (as_walked v z) {
  grip = record v.grip { holds = z.grip.holds; made = made; taken = taken };
  copies = copies;
  blanks = blanks;
  new_leaves = leaves;
  new_inners = inners;
}

more_held : (b : Bool) (t : ℕ) (span : Span) (ways : List Way) (x : Way) → Contains ways x → Contains (ways_if b t span ways) x
more_held true t span ways x has = in_tail x (record { slot = t; span = span }) ways has
more_held false t span ways x has = has

module _ (k : Key) (pointers headers : List Seen) (slots : List ℕ) (bare : Bare) (t : ℕ) (v c d : View)
    (can : CanMake slots v) (on : IsBareOn k pointers bare v) (h : HasPage t bare.span bare.pointer.word v c)
    (enters : d ≡ entered t c) where
  -- the view with the slot held
  abbrev held_view : View
  held_view = entered t (as_paged t h.leaves h.inners v c)

  pub is_held : d ≡ held_view
  is_held = enters ∙ ap (entered t) h.is

  whole : bare.pointer.word ≡ page_half bare.pointer.word
  whole = let less = on.bare in omega (arith, less)

  -- what the install asks
  pub can_install : CanInstall d bare.place bare.span bare.pointer.at t bare.pointer.word
  can_install = record {
    place = place_same v d bare.place bare.span bare.pointer.at (ap (λ (z : View). z.layout) is_held)
        (ap (λ (z : View). z.ways) is_held) (ap (λ (z : View). z.inners) is_held) on.is;
    held = ap (λ (z : View). has_slot z.grip.holds t) is_held
        ∙ or_left (eqb t t) (has_slot v.grip.holds t) (eq-eqb t t refl);
    free = on.bare;
    page = inr (elim h.page [
      | inl leaf ↦
          inl (subst (λ (i : ℕ). IsLeafFor d bare.span t i) whole
          (subst (λ (z : View). IsLeafFor z bare.span t bare.pointer.word) (sym enters)
          record { has = leaf.has; tree = leaf.tree; there = leaf.there; leaf = leaf.leaf }))
      | inr inner ↦
          inr (subst (λ (i : ℕ). IsInnerFor d bare.span t i) whole
          (subst (λ (z : View). IsInnerFor z bare.span t bare.pointer.word) (sym enters)
          record { has = inner.has; tree = inner.tree }))
    ]);
    worker = λ keeper. can.worker (ap (λ (z : View). z.role) (sym is_held) ∙ keeper);
    idle = ap (λ (z : View). z.seat.stage) is_held ∙ can.idle;
    unlocked = ap (λ (z : View). z.seat.locks) is_held ∙ can.unlocked;
  }

  enters_new : EntersSo t (slots ++ t ∷ []) (Ok tt) v (entered t v)
  enters_new = enter_new t slots v (entered t v) can.walks h.there refl

  late_can : (e : View) → HasWalked v e → e.grip.holds ≡ t ∷ v.grip.holds → WaysAgree e.ways → TreesAgree e
      → CanMake (slots ++ t ∷ []) e
  late_can e walk holds agree trees =
      make_after slots (slots ++ t ∷ []) v e walk
      (can_by slots (slots ++ t ∷ []) v e walk
      (λ q. enters_new.went.can.holds q ∙ ap (λ (l : List ℕ). has_slot l q) (sym holds))
      enters_new.went.can.within agree trees can.walks) can

  only_new : (e : View) → e.grip.holds ≡ t ∷ v.grip.holds → (q : ℕ) → has_slot e.grip.holds q ≡ true
      → has_slot v.grip.holds q ≡ false → q ≡ t
  only_new e holds q now was = enters_new.only q (sym (ap (λ (l : List ℕ). has_slot l q) holds) ∙ now) was

  -- with nothing left of the slot it is a walk
  ends_walk : (z : View)
      → end_view (without (t ∷ []) t) v.grip.taken (other_copies t v.copies) (without v.blanks t)
      (other_leaves t h.leaves) (other_inners t h.inners) v z ≡ as_walked v z
  ends_walk z =
      ap (λ (l : List ℕ). end_view l v.grip.taken (other_copies t v.copies) (without v.blanks t) (other_leaves t h.leaves)
      (other_inners t h.inners) v z) (without_one t ∙ sym can.nothing_made.made)
      ∙ (ap (λ (l : List Copied). end_view v.grip.made v.grip.taken l (without v.blanks t) (other_leaves t h.leaves)
      (other_inners t h.inners) v z) (no_copy v.copies t can.nothing_made.copies)
      ∙ (ap (λ (l : List ℕ). end_view v.grip.made v.grip.taken v.copies l (other_leaves t h.leaves)
      (other_inners t h.inners) v z) (without_none v.blanks t can.nothing_made.blanks)
      ∙ (ap (λ (l : List NewLeaf). end_view v.grip.made v.grip.taken v.copies v.blanks l (other_inners t h.inners) v z)
      (h.no_leaf ∙ sym can.nothing_made.leaves)
      ∙ ap (λ (l : List NewInner). end_view v.grip.made v.grip.taken v.copies v.blanks v.new_leaves l v z)
      (h.no_inner ∙ sym can.nothing_made.inners))))

  -- the pointer leads to it
  pub put_held : (n : ℕ) (e : View) → HasInstalled t bare.pointer.at bare.span d n e
      → PutsSo k pointers headers bare t (slots ++ t ∷ []) (Ok tt) v e
  put_held n e i =
      let is : e ≡ installed t bare.pointer.at bare.span n held_view =
      i.is ∙ ap (installed t bare.pointer.at bare.span n) is_held in
      let formed : e ≡ as_walked v (installed t bare.pointer.at bare.span n held_view) =
      is ∙ ends_walk (installed t bare.pointer.at bare.span n held_view) in
      let walk : HasWalked v e = subst (HasWalked v) (sym formed) record {
        since = let later = h.since in omega (arith, later);
        drawn = front_refl v.history;
        seen = front_refl v.decided;
        parts = λ part has. inl has;
        held = λ q held. or_right (eqb t q) (has_slot v.grip.holds q) held;
        ways = λ x has. more_held (has_slot (t ∷ v.grip.holds) t) t bare.span v.ways x has;
        known = λ x has. has;
        moved = λ x has. has;
        inners = λ x has. has;
        pages = front_refl v.pages;
        leads = λ x has. has;
        is = refl;
      } in
      let way : Contains e.ways (record { slot = t; span = bare.span }) =
      subst (λ (z : View). Contains z.ways (record { slot = t; span = bare.span })) (sym is)
      (subst (λ (b : Bool). Contains (ways_if b t bare.span v.ways) (record { slot = t; span = bare.span }))
      (sym (or_left (eqb t t) (has_slot v.grip.holds t) (eq-eqb t t refl)))
      (in_head (let x : Way = record { slot = t; span = bare.span } in x) v.ways)) in
      let stands : IsOnWay k e t bare.span = record {
        way = way;
        tree = tree_stays v e bare.span.storage walk on.tree;
        there = slots_stay v e t walk h.there;
        over = on.over;
      } in
      let holds : e.grip.holds ≡ t ∷ v.grip.holds = ap (λ (z : View). z.grip.holds) is in
      let others : (a : ℕ) → a ≢ bare.pointer.at → seen_at e.reads a ≡ seen_at v.reads a = λ a apart.
      ap (λ (z : View). seen_at z.reads a) is
      ∙ seen_other v.reads bare.pointer.at (leading_word n t) (kept_at v.reads bare.pointer.at) a apart in
      record {
        went = record {
          can = late_can e walk holds i.agree i.trees;
          walked = walk;
          most =
              let steps : e.steps ≡ (c.steps + 1) + 1 = ap (λ (z : View). z.steps) is in
              let before = h.most in omega (arith, steps, before);
          kept = ap (λ (z : View). z.seat.kept) is;
          words = λ a. ap (λ (z : View). kept_at z.reads a) is ∙ kept_with v.reads bare.pointer.at (leading_word n t) a;
          met = only_but bare.pointer.at v e (word_stays v e bare.pointer.at walk on.known) others;
        };
        led = led_new k t bare.span v e stands (only_new e holds);
        paths = λ x has. elim (way_cases (has_slot (t ∷ v.grip.holds) t) t bare.span v.ways x
            (subst (λ (z : View). Contains z.ways x) is has)) [
              | inl old ↦ inl old
              | inr same ↦ inr (inl (subst (λ (y : Way). in_span y.span k ≡ true) same on.over))
            ];
        others = others;
        left = (
          leading_word n t,
          ap (λ (z : View). seen_at z.reads bare.pointer.at) is
              ∙ seen_same v.reads bare.pointer.at (leading_word n t) (kept_at v.reads bare.pointer.at),
        );
        more = record {
          slot = t;
          there = h.there;
          unheld = h.unheld;
          held = ap (λ (l : List ℕ). has_slot l t) holds
              ∙ or_left (eqb t t) (has_slot v.grip.holds t) (eq-eqb t t refl);
        };
        on = stands;
        cause = tt;
      }

  -- it has changed, and the slot is given up
  pub may_retire : (n : ℕ) (e : View) → e ≡ read_at bare.pointer.at n d → MayRetire e t
  may_retire n e missed = inr (inr (inr (elim h.page [
    | inl leaf ↦
        inl (
          record {
            slot = t;
            span = bare.span;
            keys = keys_in bare.span (tree_records c.pages bare.pointer.word);
            contents = contents_in (tree_records c.pages bare.pointer.word);
          },
          subst (λ (z : View). Contains z.new_leaves (record {
            slot = t;
            span = bare.span;
            keys = keys_in bare.span (tree_records c.pages bare.pointer.word);
            contents = contents_in (tree_records c.pages bare.pointer.word);
          })) (sym (missed ∙ ap (read_at bare.pointer.at n) enters)) leaf.has,
          refl,
        )
    | inr inner ↦
        inr (
          record { slot = t; span = bare.span; page = bare.pointer.word },
          subst (λ (z : View). Contains z.new_inners (record { slot = t; span = bare.span; page = bare.pointer.word }))
              (sym (missed ∙ ap (read_at bare.pointer.at n) enters)) inner.has,
          refl,
        )
  ])))

  pub put_missed : (n : ℕ) (e f : View) → n ≢ bare.pointer.word → e ≡ read_at bare.pointer.at n d → f ≡ retired t e
      → PutsSo k pointers headers bare t (slots ++ t ∷ [])
      (Err (causes.Conflict bare.pointer.at bare.pointer.word n)) v f
  put_missed n e f other missed retires =
      let is : f ≡ retired t (read_at bare.pointer.at n held_view) =
      retires ∙ ap (retired t) (missed ∙ ap (read_at bare.pointer.at n) is_held) in
      let formed : f ≡ as_walked v (retired t (read_at bare.pointer.at n held_view)) =
      is
      ∙ (ap (λ (l : List ℕ). end_view (without (t ∷ []) t) l (other_copies t v.copies) (without v.blanks t)
      (other_leaves t h.leaves) (other_inners t h.inners) v (retired t (read_at bare.pointer.at n held_view)))
      (without_none v.grip.taken t can.nothing_made.taken)
      ∙ ends_walk (retired t (read_at bare.pointer.at n held_view))) in
      let walk : HasWalked v f = subst (HasWalked v) (sym formed) record {
        since = let later = h.since in omega (arith, later);
        drawn = front_refl v.history;
        seen = front_refl v.decided;
        parts = λ part has. inl has;
        held = λ q held. or_right (eqb t q) (has_slot v.grip.holds q) held;
        ways = λ x has. has;
        known = λ x has. has;
        moved = λ x has. has;
        inners = λ x has. has;
        pages = front_refl v.pages;
        leads = λ x has. has;
        is = refl;
      } in
      let holds : f.grip.holds ≡ t ∷ v.grip.holds = ap (λ (z : View). z.grip.holds) is in
      let others : (a : ℕ) → a ≢ bare.pointer.at → seen_at f.reads a ≡ seen_at v.reads a = λ a apart.
      ap (λ (z : View). seen_at z.reads a) is
      ∙ seen_other v.reads bare.pointer.at n (kept_at v.reads bare.pointer.at) a apart in
      record {
        went = record {
          can = late_can f walk holds (subst (λ (z : View). WaysAgree z.ways) (sym is) can.walks.agree)
              (trees_by v f (ap (λ (z : View). z.layout) is) (ap (λ (z : View). z.known) is)
              (ap (λ (z : View). z.inners) is) (ap (λ (z : View). z.ways) is) can.walks.trees);
          walked = walk;
          most =
              let steps : f.steps ≡ ((c.steps + 1) + 1) + 1 = ap (λ (z : View). z.steps) is in
              let before = h.most in omega (arith, steps, before);
          kept = ap (λ (z : View). z.seat.kept) is;
          words = λ a. ap (λ (z : View). kept_at z.reads a) is ∙ kept_with v.reads bare.pointer.at n a;
          met = only_but bare.pointer.at v f (word_stays v f bare.pointer.at walk on.known) others;
        };
        led = tt;
        paths = paths_same k v f (ap (λ (z : View). z.ways) is);
        others = others;
        left = tt;
        more = tt;
        on = tt;
        cause = inl record {
          on = pointer_stays k v f bare.pointer.at walk
              record {
                place = bare.place;
                span = bare.span;
                is = on.is;
                inside = on.inside;
                within = on.within;
                tree = on.tree;
                over = on.over;
              };
          was = Some bare.pointer.word;
          saw = record {
            step = c.steps + 1;
            since = let later = h.since in omega (arith, later);
            last = ap (λ (z : View). z.last) is;
            kept = kept_at v.reads bare.pointer.at;
            kept_is = sym (ap (λ (z : View). kept_at z.reads bare.pointer.at) is
                ∙ kept_here v.reads bare.pointer.at n (kept_at v.reads bare.pointer.at));
            stands = subst (λ (z : View). Contains z.reads (record {
              word = bare.pointer.at;
              seen = n;
              was = Some bare.pointer.word;
              kept = kept_at v.reads bare.pointer.at;
            })) (sym is)
                (subst (λ (o : Option ℕ). Contains (read_at bare.pointer.at n held_view).reads (record {
                  word = bare.pointer.at;
                  seen = n;
                  was = o;
                  kept = kept_at v.reads bare.pointer.at;
                })) on.met (noted_in v.reads bare.pointer.at n (kept_at v.reads bare.pointer.at)));
          };
          known = inr (refl, on.set);
          cause = inr other;
        };
      }
