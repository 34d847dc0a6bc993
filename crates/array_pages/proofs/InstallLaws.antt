-- What it comes to that a copy is put in.
use Rattle.std.proofs.Common.{◌≡◌, ◌≢◌, inl, inr, ℕ, ◌+◌, ◌<◌, ◌≤◌, Bool, true, false}
use Rattle.std.proofs.Common.{cond, eqb, List, [], ◌∷◌, ◌++◌, length, set, refl, sym, ap, ◌∙◌, subst, arith}
use Rattle.std.proofs.Common.{Option, Some}
use Rattle.std.specs.Prelude.{not, Ok, Err}
use Rattle.std.specs.List.{Contains}
use Rattle.std.proofs.lemmas.Bool.{or_left, or_right}
use Rattle.std.proofs.Common.{length-append}
use Rattle.lists.specs.Elements.{in_head, in_tail}
use Rattle.lists.specs.Fronts.{front_refl}
use Rattle.homes.specs.declared.places.At.{At}
use Rattle.homes.specs.declared.places.Span.{Span}
use Rattle.snapshot_store.specs.ArrayPages.{last_at}
use Rattle.drop_core.specs.Event.{without}
use Rattle.drop_core.specs.Table.{has_slot}
use Rattle.engine_pages.specs.declared.layout.Layout.{Layout}
use Rattle.engine_pages.specs.declared.view.Copied.{Copied}
use Rattle.engine_pages.specs.declared.view.RefusalCause.{RefusalCause}
use Rattle.engine_pages.specs.declared.view.RefusalCause.TheVariants as causes
use Rattle.engine_pages.specs.declared.view.SetName.TheVariants as sets
use Rattle.engine_pages.specs.declared.view.NewInner.{NewInner}
use Rattle.engine_pages.specs.declared.view.NewLeaf.{NewLeaf}
use Rattle.engine_pages.specs.declared.view.View.{View}
use Rattle.engine_pages.specs.declared.view.Way.{Way}
use Rattle.engine_pages.specs.Agreement.{TreesAgree}
use Rattle.engine_pages.specs.Pages.{is_array}
use Rattle.engine_pages.specs.Pointers.{IsArrayPointerAt, WaysAgree, page_half, ways_if, any_pointer}
use Rattle.engine_pages.specs.Slots.{entered, other_copies, other_inners, other_leaves, retired}
use Rattle.engine_pages.specs.Slots.{MayRetire}
use Rattle.engine_pages.specs.Steps.{kept_at, read_at, seen_at}
use Rattle.dual_pointer.specs.Installs.{installed, leading_word, CanInstall, HasInstalled}
use Rattle.array_pages.specs.Making.{as_published, copy_of, CanMake}
use Rattle.array_pages.specs.Steps.{CanCopy, HasPublished, InstallsSo, IsBareAt}
use Rattle.array_pages.specs.Steps.{RefusesGive, RefusesInstall}
use Rattle.array_pages.specs.Walks.{as_walked, CanWalk, HasWalked}
use Rattle.array_pages.proofs.ReadLaws.{kept_here, kept_with, noted_in, seen_other}
use Rattle.array_pages.proofs.WalkLaws.{can_by, entered_holds}
use Rattle.array_pages.proofs.WalkLaws.{entered_within, layout_stays}
use Rattle.array_pages.proofs.WalkLaws.{place_grows, place_stays, role_stays}
use Rattle.array_pages.proofs.WalkLaws.{self, stage_stays, trees_after, walked_self}
use Rattle.array_pages.proofs.WalkLaws.{led_new, led_none}
use Rattle.array_pages.proofs.LoadedLaws.{only_if}
use Rattle.array_pages.proofs.CopyLaws.{missed_most, missed_walks}

-- ---- a copy is put in, or not

-- the holds are full
pub install_wide : (slots : List ℕ) (place : At) (at word : ℕ) (span : Span) (v : View) → CanMake slots v
    → IsArrayPointerAt v place span at → IsBareAt word span at v → length slots ≡ 128
    → InstallsSo (length slots + 1) slots at word span (Err (causes.Wide sets.Holds)) v v
install_wide slots place at word span v can p bare full = record {
  can = can;
  walked = walked_self v;
  kept = refl;
  most = omega arith;
  grows = omega arith;
  words = λ a. refl;
  only = λ x has. inl has;
  led = tt;
  others = λ a apart. refl;
  held = tt;
  cause = (
    refl,
    bare.bare,
    record {
      full = full;
      place = place;
      is = p;
      saw = bare.met;
      unheld = λ more. let less = bare.bare in absurd (omega (arith, less, more));
    },
    led_none span v v refl,
  );
}

-- the same pass behind a walk
pub make_after : (slots late : List ℕ) (v w : View) → HasWalked v w → CanWalk late w → CanMake slots v → CanMake late w
make_after slots late v w walk can m = record {
  walks = can;
  worker = λ keeper. m.worker (sym (role_stays v w walk) ∙ keeper);
  idle = stage_stays v w walk ∙ m.idle;
  unlocked = ap (λ (z : View). z.seat.locks) walk.is ∙ m.unlocked;
  made = ap (λ (z : View). z.grip.made) walk.is ∙ m.made;
  taken = ap (λ (z : View). z.grip.taken) walk.is ∙ m.taken;
  drafts = ap (λ (z : View). z.drafts) walk.is ∙ m.drafts;
  copies = ap (λ (z : View). z.copies) walk.is ∙ m.copies;
  blanks = ap (λ (z : View). z.blanks) walk.is ∙ m.blanks;
  leaves = ap (λ (z : View). z.new_leaves) walk.is ∙ m.leaves;
  inners = ap (λ (z : View). z.new_inners) walk.is ∙ m.inners;
  heads = ap (λ (z : View). z.heads) walk.is ∙ m.heads;
}

-- no slot was given
pub install_none : (slots : List ℕ) (at word : ℕ) (span : Span) (why : RefusalCause) (v w : View) → CanMake slots v
    → RefusesGive why v w → InstallsSo (length slots + 1) slots at word span (Err why) v w
install_none slots at word span why v w can h =
    let m = missed_walks why v w h in
    let walks = can.walks in
    let late : CanWalk slots w =
    can_by slots slots v w (layout_stays v w m.0) (role_stays v w m.0) (stage_stays v w m.0)
    (λ t. walks.holds t ∙ ap (λ (z : View). has_slot z.grip.holds t) (sym m.1)) walks.within
    (subst (λ (z : View). WaysAgree z.ways) (sym m.1) walks.agree)
    (trees_after v w m.0 (ap (λ (z : View). z.ways) m.1) walks.trees) walks in record {
      can = make_after slots slots v w m.0 late can;
      walked = m.0;
      kept = ap (λ (z : View). z.seat.kept) m.1;
      most = let most = missed_most why v w h in omega (arith, most);
      grows = omega arith;
      words = λ a. ap (λ (z : View). kept_at z.reads a) m.1;
      only = λ x has. inl (subst (λ (z : View). Contains z.ways x) m.1 has);
      led = tt;
      others = λ a apart. ap (λ (z : View). seen_at z.reads a) m.1;
      held = tt;
      cause = by_cause why h;
    }
  where
    by_cause : (why : RefusalCause) → RefusesGive why v w → RefusesInstall slots span at word why v w
    by_cause (causes.Conflict other expected seen) h = inr h
    by_cause (causes.Full held) h =
        (h, led_none span v w (ap (λ (z : View). z.grip) (missed_walks (causes.Full held) v w h).1))
    by_cause (causes.Wide set) h = absurd h
    by_cause (causes.NumberLimit clock) h = absurd h

-- what is left of the slot that was made
without_one : (t : ℕ) → without (t ∷ []) t ≡ []
without_one t = ap (λ (b : Bool). cond (not b) (t ∷ []) []) (self t)

no_copy : (t : ℕ) (span : Span) (n : ℕ) → other_copies t (copy_of t span n ∷ []) ≡ []
no_copy t span n = ap (λ (b : Bool). cond (not b) (copy_of t span n ∷ []) []) (self t)

without_none : (l : List ℕ) (t : ℕ) → l ≡ [] → without l t ≡ l
without_none l t none = subst (λ (z : List ℕ). without z t ≡ z) (sym none) refl

no_leaf : (l : List NewLeaf) (t : ℕ) → l ≡ [] → other_leaves t l ≡ l
no_leaf l t none = subst (λ (z : List NewLeaf). other_leaves t z ≡ z) (sym none) refl

no_inner : (l : List NewInner) (t : ℕ) → l ≡ [] → other_inners t l ≡ l
no_inner l t none = subst (λ (z : List NewInner). other_inners t z ≡ z) (sym none) refl

-- the view v with what z has of a walk, and these lists
abbrev end_view : List ℕ → List ℕ → List Copied → List ℕ → List NewLeaf → List NewInner → View → View → View
end_view made taken copies blanks leaves inners v z = record (as_walked v z) {
  grip = record v.grip { holds = z.grip.holds; made = made; taken = taken };
  copies = copies;
  blanks = blanks;
  new_leaves = leaves;
  new_inners = inners;
}

-- with nothing left of the slot it is a walk
ends_walk : (slots : List ℕ) (t : ℕ) (span : Span) (n : ℕ) (v z : View) → CanMake slots v
    → end_view (without (t ∷ []) t) v.grip.taken (other_copies t (copy_of t span n ∷ [])) (without v.blanks t)
    (other_leaves t v.new_leaves) (other_inners t v.new_inners) v z
    ≡ as_walked v z
ends_walk slots t span n v z can =
    let leaves : List NewLeaf = other_leaves t v.new_leaves in
    let inners : List NewInner = other_inners t v.new_inners in
    ap (λ (l : List ℕ). end_view l v.grip.taken (other_copies t (copy_of t span n ∷ [])) (without v.blanks t) leaves inners v z)
    (without_one t ∙ sym can.made)
    ∙ (ap (λ (l : List Copied). end_view v.grip.made v.grip.taken l (without v.blanks t) leaves inners v z)
    (no_copy t span n ∙ sym can.copies)
    ∙ (ap (λ (l : List ℕ). end_view v.grip.made v.grip.taken v.copies l leaves inners v z)
    (without_none v.blanks t can.blanks)
    ∙ (ap (λ (l : List NewLeaf). end_view v.grip.made v.grip.taken v.copies v.blanks l inners v z)
    (no_leaf v.new_leaves t can.leaves)
    ∙ ap (λ (l : List NewInner). end_view v.grip.made v.grip.taken v.copies v.blanks v.new_leaves l v z)
    (no_inner v.new_inners t can.inners))))

-- the pass holds the slot, whose page it published as a copy
module _ (slots : List ℕ) (place : At) (span : Span) (at word t : ℕ) (v c d : View) (can : CanMake slots v)
    (p : IsArrayPointerAt v place span at) (bare : IsBareAt word span at v) (h : HasPublished t span word v c)
    (enters : d ≡ entered t c) where
  -- the view then
  abbrev held_view : View
  held_view = entered t (as_published t span word v c)

  is_held : d ≡ held_view
  is_held = enters ∙ ap (entered t) h.is

  holds_held : d.grip.holds ≡ t ∷ v.grip.holds
  holds_held = ap (λ (z : View). z.grip.holds) is_held

  place_held : IsArrayPointerAt d place span at
  place_held =
      place_grows v d place span at (ap (λ (z : View). z.layout) is_held)
      (λ x has. subst (λ (z : View). Contains z.ways x) (sym is_held) has) p

  -- what the step asks
  pub can_install : (leaf : Bool) → is_array v.layout.decls span.storage ≡ true → CanCopy leaf span
      → CanInstall d place span at t word
  can_install leaf array kind =
      let height = by_kind leaf kind in record {
        place = any_pointer d place span at place_held;
        held = ap (λ (l : List ℕ). has_slot l t) holds_held
            ∙ or_left (eqb t t) (has_slot v.grip.holds t) (self t);
        free = bare.bare;
        page = inl record {
          copied = subst (λ (z : View). Contains z.copies (copy_of t span (page_half word))) (sym is_held)
              (subst (λ i. Contains (copy_of t span word ∷ []) (copy_of t span i)) whole
              (in_head (copy_of t span word) []));
          array = subst (λ (z : View). is_array z.layout.decls span.storage ≡ true) (sym is_held) array;
          height = height.0;
          exact = height.1;
        };
        worker = λ keeper. can.worker (ap (λ (z : View). z.role) (sym is_held) ∙ keeper);
        idle = ap (λ (z : View). z.seat.stage) is_held ∙ can.idle;
        unlocked = ap (λ (z : View). z.seat.locks) is_held ∙ can.unlocked;
      }
    where
      whole : word ≡ page_half word
      whole = let less = bare.bare in omega (arith, less)

      by_kind : (leaf : Bool) → CanCopy leaf span
          → (i : ℕ) × (span.high ≡ span.low + last_at i)
      by_kind true exact = (0, exact)
      by_kind false (inl exact) = (1, exact)
      by_kind false (inr exact) = (2, exact)

  late_holds : (e : View) → e.grip.holds ≡ t ∷ v.grip.holds → (q : ℕ)
      → has_slot (slots ++ t ∷ []) q ≡ has_slot e.grip.holds q
  late_holds e holds = entered_holds slots t v e can.walks holds

  late_grows : length (slots ++ t ∷ []) ≤ length slots + 1
  late_grows = let long = length-append slots (t ∷ []) in omega (arith, long)

  late_can : (e : View) → HasWalked v e → e.grip.holds ≡ t ∷ v.grip.holds → WaysAgree e.ways → TreesAgree e
      → CanMake (slots ++ t ∷ []) e
  late_can e walk holds agree trees =
      make_after slots (slots ++ t ∷ []) v e walk
      (can_by slots (slots ++ t ∷ []) v e (layout_stays v e walk) (role_stays v e walk) (stage_stays v e walk)
      (late_holds e holds) (entered_within slots t v can.walks h.there) agree trees can.walks) can

  more_held : (b : Bool) (x : Way) → Contains v.ways x → Contains (ways_if b t span v.ways) x
  more_held true x has = in_tail x (record { slot = t; span = span }) v.ways has
  more_held false x has = has

  -- the pointer leads to it
  pub install_held : (n : ℕ) (e : View) → HasInstalled t at span d n e
      → InstallsSo (length slots + 1) (slots ++ t ∷ []) at word span (Ok t) v e
  install_held n e i =
      let is : e ≡ installed t at span n held_view = i.is ∙ ap (installed t at span n) is_held in
      let formed : e ≡ as_walked v (installed t at span n held_view) =
      is ∙ ends_walk slots t span word v (installed t at span n held_view) can in
      let walk : HasWalked v e = subst (HasWalked v) (sym formed) record {
        since = let later = h.since in omega (arith, later);
        drawn = front_refl v.history;
        seen = front_refl v.decided;
        parts = λ part has. inl has;
        held = λ q held. or_right (eqb t q) (has_slot v.grip.holds q) held;
        ways = λ x has. more_held (has_slot (t ∷ v.grip.holds) t) x has;
        pages = front_refl v.pages;
        leads = λ x has. has;
        is = refl;
      } in
      let way : Contains e.ways (record { slot = t; span = span }) =
      subst (λ (z : View). Contains z.ways (record { slot = t; span = span })) (sym is)
      (subst (λ (b : Bool). Contains (ways_if b t span v.ways) (record { slot = t; span = span }))
      (sym (or_left (eqb t t) (has_slot v.grip.holds t) (self t)))
      (in_head (let x : Way = record { slot = t; span = span } in x) v.ways)) in record {
        can = late_can e walk (ap (λ (z : View). z.grip.holds) is) i.agree i.trees;
        walked = walk;
        kept = ap (λ (z : View). z.seat.kept) is;
        most =
            let steps : e.steps ≡ (c.steps + 1) + 1 = ap (λ (z : View). z.steps) is in
            let before = h.most in omega (arith, steps, before);
        grows = late_grows;
        words = λ a. ap (λ (z : View). kept_at z.reads a) is ∙ kept_with v.reads at (leading_word n t) a;
        only = λ x has. only_if (has_slot (t ∷ v.grip.holds) t) t span v.ways x
            (subst (λ (z : View). Contains z.ways x) is has);
        led = led_new t span v e (ap (λ (z : View). z.grip.holds) is) way;
        others = λ a apart. ap (λ (z : View). seen_at z.reads a) is
            ∙ seen_other v.reads at (leading_word n t) (kept_at v.reads at) a apart;
        held = (
          way,
          subst (λ (y : Layout). t < y.slots) (sym (layout_stays v e walk)) h.there,
        );
        cause = tt;
      }

  -- it has changed, and the slot is given up
  pub may_retire : (n : ℕ) (e : View) → e ≡ read_at at n d → MayRetire e t
  may_retire n e missed =
      inl (
        copy_of t span word,
        subst (λ (z : View). Contains z.copies (copy_of t span word)) (sym (missed ∙ ap (read_at at n) is_held))
            (in_head (copy_of t span word) []),
        refl,
      )

  pub install_missed : (n : ℕ) (e f : View) → n ≢ word → e ≡ read_at at n d → f ≡ retired t e
      → InstallsSo (length slots + 1) (slots ++ t ∷ []) at word span (Err (causes.Conflict at word n)) v f
  install_missed n e f other missed retires =
      let is : f ≡ retired t (read_at at n held_view) =
      retires ∙ ap (retired t) (missed ∙ ap (read_at at n) is_held) in
      let formed : f ≡ as_walked v (retired t (read_at at n held_view)) =
      is
      ∙ (ap (λ (l : List ℕ). end_view (without (t ∷ []) t) l (other_copies t (copy_of t span word ∷ []))
      (without v.blanks t) (other_leaves t v.new_leaves) (other_inners t v.new_inners) v
      (retired t (read_at at n held_view))) (without_none v.grip.taken t can.taken)
      ∙ ends_walk slots t span word v (retired t (read_at at n held_view)) can) in
      let walk : HasWalked v f = subst (HasWalked v) (sym formed) record {
        since = let later = h.since in omega (arith, later);
        drawn = front_refl v.history;
        seen = front_refl v.decided;
        parts = λ part has. inl has;
        held = λ q held. or_right (eqb t q) (has_slot v.grip.holds q) held;
        ways = λ x has. has;
        pages = front_refl v.pages;
        leads = λ x has. has;
        is = refl;
      } in record {
        can = late_can f walk (ap (λ (z : View). z.grip.holds) is)
            (subst (λ (z : View). WaysAgree z.ways) (sym is) can.walks.agree)
            (trees_after v f walk (ap (λ (z : View). z.ways) is) can.walks.trees);
        walked = walk;
        kept = ap (λ (z : View). z.seat.kept) is;
        most =
            let steps : f.steps ≡ ((c.steps + 1) + 1) + 1 = ap (λ (z : View). z.steps) is in
            let before = h.most in omega (arith, steps, before);
        grows = late_grows;
        words = λ a. ap (λ (z : View). kept_at z.reads a) is ∙ kept_with v.reads at n a;
        only = λ x has. inl (subst (λ (z : View). Contains z.ways x) is has);
        led = tt;
        others = λ a apart. ap (λ (z : View). seen_at z.reads a) is
            ∙ seen_other v.reads at n (kept_at v.reads at) a apart;
        held = tt;
        cause = inl (
          refl,
          refl,
          record {
            place = place;
            is = place_stays v f place span at walk p;
            saw = record {
              step = c.steps + 1;
              since = let later = h.since in omega (arith, later);
              last = ap (λ (z : View). z.last) is;
              kept = kept_at v.reads at;
              kept_is = sym (ap (λ (z : View). kept_at z.reads at) is ∙ kept_here v.reads at n (kept_at v.reads at));
              stands = subst (λ (z : View). Contains z.reads (record {
                word = at;
                seen = n;
                was = Some word;
                kept = kept_at v.reads at;
              })) (sym is)
                  (subst (λ (o : Option ℕ). Contains (read_at at n held_view).reads (record {
                    word = at;
                    seen = n;
                    was = o;
                    kept = kept_at v.reads at;
                  })) bare.met (noted_in v.reads at n (kept_at v.reads at)));
            };
            cause = inr other;
          },
        );
      }
