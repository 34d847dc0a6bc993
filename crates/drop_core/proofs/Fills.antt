-- FillPage, FillPointer, FillSnapshot, Extend: nothing leads to what is filled, so no key has its home there.
use Rattle.std.proofs.Common.{◌≡◌, ℕ, zero, suc, ◌+◌, ◌<◌, ◌≤◌, ltb, Bool, true, false, not, true≢false, eqb, eqb-true, ◌&&◌, inl, inr, List, [], ◌∷◌, refl, sym, ap, ◌∙◌, subst, arith, Option, Some, None}
use Rattle.std.proofs.lemmas.Bool.{and_parts, and_from, false_from_ne_true, cases_Bool, cond-true, cond-false}
use Rattle.std.proofs.lemmas.Bool.Decides.{nat_tests}
use Rattle.std.specs.List.{list_all}
use Rattle.serial_model.specs.declared.key.Key.{Key}
use Rattle.homes.specs.declared.places.Spot.{Spot}
use Rattle.homes.specs.declared.places.At.{At}
use Rattle.homes.specs.declared.places.At.TheVariants.{Root, In}
use Rattle.homes.specs.declared.places.Span.{Span}
use Rattle.homes.specs.declared.places.Home.{Home}
use Rattle.homes.specs.declared.places.Home.TheVariants.{InSlot}
use Rattle.homes.specs.Homes.{same_at, in_span}
use Rattle.homes.specs.Laws.{same_at-true, number_or_other}
use Rattle.drop_core.specs.declared.table.Led.{Led}
use Rattle.drop_core.specs.declared.table.Led.TheVariants.{Never, From, Away}
use Rattle.drop_core.specs.declared.table.SlotState.{SlotState}
use Rattle.drop_core.specs.declared.table.SlotState.TheVariants.{Unused, Owned, Published, Retired}
use Rattle.drop_core.specs.declared.table.Page.{Page}
use Rattle.drop_core.specs.declared.table.Pointer.{Pointer}
use Rattle.drop_core.specs.declared.table.SnapPage.{SnapPage}
use Rattle.drop_core.specs.declared.table.SnapPage.TheVariants.{Missing, Entries, Children}
use Rattle.drop_core.specs.declared.table.Table.{Table}
use Rattle.drop_core.specs.declared.grip.Grip.{Grip}
use Rattle.drop_core.specs.Table.{slot_of, page_of, pointer_of, snap_of, child_of, snap_step, snap_walk, snap_home, is_led, has_pointer, is_live, is_inner, is_last_to, is_last}
use Rattle.drop_core.specs.Event.{is_owned, is_given, all_below, leads_down, with_pointer}
use Rattle.drop_core.specs.Sound.{span_at, TiesPage, TiesTo, DeadPage, IsLedSo, LeadsWithin, IsSoundTable}
use Rattle.drop_core.proofs.PageLaws.{page_ties-same}

-- ---- an owned slot is led to by nothing, and never was since it was given

module _ (homes : Key → Home) (d : Table) (grips : List Grip) (sound : IsSoundTable homes d grips) (s : ℕ) (own : is_owned (slot_of d s).state ≡ true) where
  pub owned_never : (led : Led) → IsLedSo d s (slot_of d s).state led → led ≡ Never
  owned_never Never so = refl
  owned_never (From x) so = absurd (true≢false (sym own ∙ ap is_owned so.0))
  owned_never Away so = absurd (not_given (slot_of d s).state own so)
    where
      not_given : (state : SlotState) → is_owned state ≡ true → is_given state ≡ true → ⊥
      not_given Unused own given = true≢false (sym own)
      not_given Owned own given = true≢false (sym given)
      not_given Published own given = true≢false (sym own)
      not_given Retired own given = true≢false (sym own)

  pub never_led : (slot_of d s).led ≡ Never
  never_led = owned_never (slot_of d s).led (sound.holds_counted.led s)

  pub not_led : is_led (slot_of d s).led ≡ false
  not_led = ap is_led never_led

  pub no_home : (k : Key) (y : Spot) → homes k ≡ InSlot y → s ≡ y.slot → ⊥
  no_home k y e is = true≢false (sym (sound.one_home_each.own k y e).led ∙ ap (λ (u : ℕ). is_led (slot_of d u).led) (sym is) ∙ not_led)

  pub not_away : (t : ℕ) → (slot_of d t).led ≡ Away → s ≡ t → ⊥
  not_away t away e = never_away (sym never_led ∙ ap (λ (u : ℕ). (slot_of d u).led) e ∙ away)
    where
      never_away : Never ≡ Away → ⊥
      never_away e = cc

  pub not_to : (x : At) (t : ℕ) → is_live d x ≡ true → (pointer_of d x).slot ≡ Some t → s ≡ t → ⊥
  not_to x t live leads e = true≢false (sym (ap is_led (sound.holds_counted.back x t live leads)) ∙ ap (λ (u : ℕ). is_led (slot_of d u).led) (sym e) ∙ not_led)

  pub not_live : (z : Spot) → is_live d (In z) ≡ true → s ≡ z.slot → ⊥
  not_live z live e = true≢false (sym (and_parts (is_led (slot_of d z.slot).led) (has_pointer (page_of d z.slot) z.index) live).0 ∙ ap (λ (u : ℕ). is_led (slot_of d u).led) (sym e) ∙ not_led)

  -- ---- the kind of page

  module _ (page : Page) where
    abbrev d1 : Table
    d1 = record d { pages = (s, page) ∷ d.pages }

    pub page-other : (t : ℕ) → (s ≡ t → ⊥) → page_of d1 t ≡ page_of d t
    page-other t other = cond-false (eqb s t) page (page_of d t) (false_from_ne_true (eqb s t) (λ e. other (eqb-true s t e)))

    live-same : (x : At) → is_live d1 x ≡ is_live d x
    live-same (Root r) = refl
    live-same (In z) =
        elim (number_or_other s z.slot) [
          | inl e ↦ let none : is_led (slot_of d z.slot).led ≡ false = ap (λ (u : ℕ). is_led (slot_of d u).led) (sym e.0) ∙ not_led in
              ap (λ (b : Bool). b && has_pointer (page_of d1 z.slot) z.index) none ∙ sym (ap (λ (b : Bool). b && has_pointer (page_of d z.slot) z.index) none)
          | inr o ↦ ap (λ (q : Page). is_led (slot_of d z.slot).led && has_pointer q z.index) (page-other z.slot o.0)
        ]

    last_to : (o : Option ℕ) → ((t : ℕ) → o ≡ Some t → s ≡ t → ⊥) → is_last_to d1 o ≡ is_last_to d o
    last_to None other = refl
    last_to (Some t) other = ap (λ (q : Page). not (is_inner q)) (page-other t (other t refl))

    last_was : (x : At) → is_last d1 x ≡ true → is_last d x ≡ true
    last_was x last =
        let parts = and_parts (is_live d1 x) (is_last_to d1 (pointer_of d x).slot) last in
        let live = sym (live-same x) ∙ parts.0 in
        and_from (is_live d x) (is_last_to d (pointer_of d x).slot) live (sym (last_to (pointer_of d x).slot (λ t e. not_to x t live e)) ∙ parts.1)

    ties_to : (homes : Key → Home) (span : Span) (n : ℕ) (o : Option ℕ) → ((t : ℕ) → o ≡ Some t → s ≡ t → ⊥) → TiesTo homes d span n o → TiesTo homes d1 span n o
    ties_to homes span n None other ties = ties
    ties_to homes span n (Some t) other ties =
        subst (λ (q : Page). TiesPage homes d1 span t q) (sym (page-other t (other t refl))) ties

    led_so : (t : ℕ) (state : SlotState) (led : Led) → IsLedSo d t state led → IsLedSo d1 t state led
    led_so t state Never so = so
    led_so t state (From y) so = (so.0, live-same y ∙ so.1, so.2)
    led_so t state Away so = so

    pub layout_sound : IsSoundTable homes d1 grips
    layout_sound = record {
      one_home_each = record {
        ties = λ x live. let was = sym (live-same x) ∙ live in
            ties_to homes (pointer_of d x).span (pointer_of d x).page (pointer_of d x).slot (λ t e. not_to x t was e) (sound.one_home_each.ties x was);
        apart = λ x y lx ly. sound.one_home_each.apart x y (last_was x lx) (last_was y ly);
        own = λ k y e. let was = sound.one_home_each.own k y e in
            record { keys = was.keys; page = page-other y.slot (no_home k y e) ∙ was.page; at = was.at; led = was.led };
        dead = λ t away. subst (λ (q : Page). DeadPage d1 t q) (sym (page-other t (not_away t away))) (sound.one_home_each.dead t away);
      };
      holds_counted = record {
        counted = sound.holds_counted.counted;
        led = λ t. led_so t (slot_of d t).state (slot_of d t).led (sound.holds_counted.led t);
        back = λ x t live leads. sound.holds_counted.back x t (sym (live-same x) ∙ live) leads;
      };
      snapshots_fixed = record { pointers = λ x live. sound.snapshots_fixed.pointers x (sym (live-same x) ∙ live); closed = sound.snapshots_fixed.closed };
    }

  -- ---- a pointer

  module _ (x : Spot) (new : Pointer) (at : s ≡ x.slot) where
    abbrev d2 : Table
    d2 = with_pointer d (In x) new

    pointer-other : (y : At) → ((z : Spot) → y ≡ In z → s ≡ z.slot → ⊥) → pointer_of d2 y ≡ pointer_of d y
    pointer-other y other = cond-false (same_at (In x) y) new (pointer_of d y) (false_from_ne_true (same_at (In x) y) (λ e. other x (sym (same_at-true (In x) y e)) at))

    live2 : (y : At) → is_live d2 y ≡ is_live d y
    live2 (Root r) = refl
    live2 (In z) = refl

    -- a live pointer isn't this one
    pub live_other : (y : At) → is_live d y ≡ true → pointer_of d2 y ≡ pointer_of d y
    live_other y live = pointer-other y (λ z e. not_live z (subst (λ (w : At). is_live d w ≡ true) e live))

    pub at-index : (t j : ℕ) → (s ≡ t → ⊥) → pointer_of d2 (In (record { slot = t; index = j })) ≡ pointer_of d (In (record { slot = t; index = j }))
    at-index t j other = pointer-other (In (record { slot = t; index = j })) (λ z e is. other (is ∙ sym (ap (λ (w : Spot). w.slot) (in_in (record { slot = t; index = j }) z e))))
      where
        in_in : (a b : Spot) → In a ≡ In b → a ≡ b
        in_in a b e = cc

    ties_to2 : (homes : Key → Home) (span : Span) (n : ℕ) (o : Option ℕ) → ((t : ℕ) → o ≡ Some t → s ≡ t → ⊥) → TiesTo homes d span n o → TiesTo homes d2 span n o
    ties_to2 homes span n None other ties = ties
    ties_to2 homes span n (Some t) other ties =
        page_ties-same homes (span_at d) (span_at d2) span t (page_of d t) (λ j. ap (λ (q : Pointer). q.span) (at-index t j (other t refl))) ties

    led_so2 : (t : ℕ) (state : SlotState) (led : Led) → IsLedSo d t state led → IsLedSo d2 t state led
    led_so2 t state Never so = so
    led_so2 t state (From y) so = (so.0, live2 y ∙ so.1, ap (λ (q : Pointer). q.slot) (live_other y so.1) ∙ so.2)
    led_so2 t state Away so = so

    last_was2 : (y : At) → is_last d2 y ≡ true → is_last d y ≡ true
    last_was2 y last =
        let parts = and_parts (is_live d2 y) (is_last_to d2 (pointer_of d2 y).slot) last in
        let live = sym (live2 y) ∙ parts.0 in
        and_from (is_live d y) (is_last_to d (pointer_of d y).slot) live (sym (ap (λ (q : Pointer). is_last_to d q.slot) (live_other y live)) ∙ parts.1)

    last_live : (y : At) → is_last d2 y ≡ true → pointer_of d2 y ≡ pointer_of d y
    last_live y last = live_other y (sym (live2 y) ∙ (and_parts (is_live d2 y) (is_last_to d2 (pointer_of d2 y).slot) last).0)

    pub link_sound : IsSoundTable homes d2 grips
    link_sound = record {
      one_home_each = record {
        ties = λ y live. let was = sym (live2 y) ∙ live in
            subst (λ (q : Pointer). TiesTo homes d2 q.span q.page q.slot) (sym (live_other y was))
            (ties_to2 homes (pointer_of d y).span (pointer_of d y).page (pointer_of d y).slot (λ t e. not_to y t was e) (sound.one_home_each.ties y was));
        apart = λ y z ly lz k iny inz.
            sound.one_home_each.apart y z (last_was2 y ly) (last_was2 z lz) k
            (sym (ap (λ (q : Pointer). in_span q.span k) (last_live y ly)) ∙ iny) (sym (ap (λ (q : Pointer). in_span q.span k) (last_live z lz)) ∙ inz);
        own = λ k y e. let was = sound.one_home_each.own k y e in record { keys = was.keys; page = was.page; at = was.at; led = was.led };
        dead = λ t away j there. ap (λ (q : Pointer). q.holder) (at-index t j (not_away t away)) ∙ sound.one_home_each.dead t away j there;
      };
      holds_counted = record {
        counted = sound.holds_counted.counted;
        led = λ t. led_so2 t (slot_of d t).state (slot_of d t).led (sound.holds_counted.led t);
        back = λ y t live leads. let was = sym (live2 y) ∙ live in sound.holds_counted.back y t was (sym (ap (λ (q : Pointer). q.slot) (live_other y was)) ∙ leads);
      };
      snapshots_fixed = record {
        pointers = λ y live. let was = sym (live2 y) ∙ live in subst (λ (q : Pointer). q.page ≤ d.published) (sym (live_other y was)) (sound.snapshots_fixed.pointers y was);
        closed = sound.snapshots_fixed.closed;
      };
    }

-- ---- pages above the published count

step-stable : (down down' : ℕ → Key → Home) (published n : ℕ) (k : Key) (page : SnapPage) → LeadsWithin published page → ((l : ℕ) → l ≤ published → down' l k ≡ down l k)
    → snap_step down' n k page ≡ snap_step down n k page
step-stable down down' published n k Missing within same = refl
step-stable down down' published n k (Entries over entries) within same = refl
step-stable down down' published n k (Children over children) within same = same (child_of children k) (within k)

walk-stable : (f : ℕ) (snaps snaps' : ℕ → SnapPage) (published : ℕ) → ((l : ℕ) → l ≤ published → snaps' l ≡ snaps l) → ((l : ℕ) → l ≤ published → LeadsWithin published (snaps l))
    → (n : ℕ) (k : Key) → n ≤ published → snap_walk f snaps' n k ≡ snap_walk f snaps n k
unfolding snap_walk
walk-stable zero snaps snaps' published same closed n k l = refl
walk-stable (suc f) snaps snaps' published same closed n k l =
    ap (λ (q : SnapPage). snap_step (λ b x. snap_walk f snaps' b x) n k q) (same n l)
    ∙ step-stable (λ b x. snap_walk f snaps b x) (λ b x. snap_walk f snaps' b x) published n k (snaps n) (closed n l) (λ b lb. walk-stable f snaps snaps' published same closed b k lb)

module _ (homes : Key → Home) (d : Table) (grips : List Grip) (sound : IsSoundTable homes d grips) (n : ℕ) (page : SnapPage) (above : d.published < n) where
  abbrev d3 : Table
  d3 = record d { snaps = (n, page) ∷ d.snaps }

  pub snap-other : (l : ℕ) → l ≤ d.published → snap_of d3 l ≡ snap_of d l
  snap-other l within = cond-false (eqb n l) page (snap_of d l) (false_from_ne_true (eqb n l) (λ e. let is = eqb-true n l e in absurd (omega arith)))

  pub snap-stable : (l : ℕ) (k : Key) → l ≤ d.published → snap_home d3 l k ≡ snap_home d l k
  snap-stable l k within = walk-stable l (snap_of d) (snap_of d3) d.published snap-other sound.snapshots_fixed.closed l k within

  live3 : (y : At) → is_live d3 y ≡ is_live d y
  live3 (Root r) = refl
  live3 (In z) = refl

  ties_to3 : (homes : Key → Home) (span : Span) (l : ℕ) (o : Option ℕ) → l ≤ d.published → TiesTo homes d span l o → TiesTo homes d3 span l o
  ties_to3 homes span l None within ties = λ k inside. ties k inside ∙ sym (snap-stable l k within)
  ties_to3 homes span l (Some t) within ties = ties

  led_so3 : (t : ℕ) (state : SlotState) (led : Led) → IsLedSo d t state led → IsLedSo d3 t state led
  led_so3 t state Never so = so
  led_so3 t state (From y) so = (so.0, live3 y ∙ so.1, so.2)
  led_so3 t state Away so = so

  pub snap_sound : IsSoundTable homes d3 grips
  snap_sound = record {
    one_home_each = record {
      ties = λ y live. let was = sym (live3 y) ∙ live in
          ties_to3 homes (pointer_of d y).span (pointer_of d y).page (pointer_of d y).slot (sound.snapshots_fixed.pointers y was) (sound.one_home_each.ties y was);
      apart = λ y z ly lz. sound.one_home_each.apart y z (last3 y ly) (last3 z lz);
      own = λ k y e. let was = sound.one_home_each.own k y e in record { keys = was.keys; page = was.page; at = was.at; led = was.led };
      dead = sound.one_home_each.dead;
    };
    holds_counted = record {
      counted = sound.holds_counted.counted;
      led = λ t. led_so3 t (slot_of d t).state (slot_of d t).led (sound.holds_counted.led t);
      back = λ y t live leads. sound.holds_counted.back y t (sym (live3 y) ∙ live) leads;
    };
    snapshots_fixed = record {
      pointers = λ y live. sound.snapshots_fixed.pointers y (sym (live3 y) ∙ live);
      closed = λ l within. subst (λ (q : SnapPage). LeadsWithin d.published q) (sym (snap-other l within)) (sound.snapshots_fixed.closed l within);
    };
  }
    where
      last3 : (y : At) → is_last d3 y ≡ true → is_last d y ≡ true
      last3 y last =
          let parts = and_parts (is_live d3 y) (is_last_to d (pointer_of d y).slot) last in
          and_from (is_live d y) (is_last_to d (pointer_of d y).slot) (sym (live3 y) ∙ parts.0) parts.1

-- ---- the published count

-- the pages up to n are filled, and lead to lower pages
filled-each : (snaps : ℕ → SnapPage) (n l : ℕ) → all_below n (λ l. leads_down (l + 1) (snaps (l + 1))) ≡ true → l < n → leads_down (l + 1) (snaps (l + 1)) ≡ true
filled-each snaps zero l all less = absurd (omega arith)
filled-each snaps (suc n) l all less =
    let parts = and_parts (leads_down (n + 1) (snaps (n + 1))) (all_below n (λ l. leads_down (l + 1) (snaps (l + 1)))) all in
    elim (number_or_other n l) [
      | inl e ↦ subst (λ (m : ℕ). leads_down (m + 1) (snaps (m + 1)) ≡ true) e.0 parts.0
      | inr o ↦ filled-each snaps n l parts.1 (below n l less o.0)
    ]
  where
    below : (n l : ℕ) → l < suc n → (n ≡ l → ⊥) → l < n
    below n l less other = elim (cases_Bool (ltb l n)) [
      | inl e ↦ grind (arith, nat_tests)
      | inr e ↦ absurd (other (at_least n l less e))
    ]
      where
        at_least : (n l : ℕ) → l < suc n → ltb l n ≡ false → n ≡ l
        at_least n l less e = grind (arith, nat_tests)

-- a child that a key is found at is one of the list, or page 0
child-down : (children : List (Span × ℕ)) (l n : ℕ) (k : Key) → list_all (λ e. ltb e.1 l) children ≡ true → l ≤ n → child_of children k ≤ n
child-down [] l n k all within = omega arith
child-down (e ∷ more) l n k all within =
    let parts = and_parts (ltb e.1 l) (list_all (λ e. ltb e.1 l) more) all in
    elim (cases_Bool (in_span e.0 k)) [
      | inl hit ↦ subst (λ (m : ℕ). m ≤ n) (sym (cond-true (in_span e.0 k) e.1 (child_of more k) hit)) (less e.1 l n parts.0 within)
      | inr miss ↦ subst (λ (m : ℕ). m ≤ n) (sym (cond-false (in_span e.0 k) e.1 (child_of more k) miss)) (child-down more l n k parts.1 within)
    ]
  where
    less : (a l n : ℕ) → ltb a l ≡ true → l ≤ n → a ≤ n
    less a l n e within = grind (arith, nat_tests)

down-within : (l n : ℕ) (page : SnapPage) → leads_down l page ≡ true → l ≤ n → LeadsWithin n page
down-within l n Missing down within = tt
down-within l n (Entries over entries) down within = tt
down-within l n (Children over children) down within = λ k. child-down children l n k down within

within-more : (m n : ℕ) (page : SnapPage) → LeadsWithin m page → m ≤ n → LeadsWithin n page
within-more m n Missing leads more = tt
within-more m n (Entries over entries) leads more = tt
within-more m n (Children over children) leads more = λ k. let l = leads k in omega arith

module _ (homes : Key → Home) (d : Table) (grips : List Grip) (sound : IsSoundTable homes d grips) (n : ℕ) (more : d.published ≤ n)
    (filled : all_below n (λ l. leads_down (l + 1) (snap_of d (l + 1))) ≡ true) where
  abbrev d4 : Table
  d4 = record d { published = n }

  live4 : (y : At) → is_live d4 y ≡ is_live d y
  live4 (Root r) = refl
  live4 (In z) = refl

  last4 : (y : At) → is_last d4 y ≡ true → is_last d y ≡ true
  last4 y last =
      let parts = and_parts (is_live d4 y) (is_last_to d (pointer_of d y).slot) last in
      and_from (is_live d y) (is_last_to d (pointer_of d y).slot) (sym (live4 y) ∙ parts.0) parts.1

  ties_to4 : (span : Span) (l : ℕ) (o : Option ℕ) → TiesTo homes d span l o → TiesTo homes d4 span l o
  ties_to4 span l None ties = ties
  ties_to4 span l (Some t) ties = ties

  led_so4 : (t : ℕ) (state : SlotState) (led : Led) → IsLedSo d t state led → IsLedSo d4 t state led
  led_so4 t state Never so = so
  led_so4 t state (From y) so = (so.0, live4 y ∙ so.1, so.2)
  led_so4 t state Away so = so

  closed4 : (l : ℕ) → l ≤ n → LeadsWithin n (snap_of d l)
  closed4 zero within = within-more d.published n (snap_of d 0) (sound.snapshots_fixed.closed 0 (omega arith)) more
  closed4 (suc l) within =
      let m : ℕ = l in
      down-within (l + 1) n (snap_of d (suc l)) (subst (λ (x : ℕ). leads_down (l + 1) (snap_of d x) ≡ true) (same l) (filled-each (snap_of d) n l filled (less l n within))) (le l n within)
    where
      same : (l : ℕ) → l + 1 ≡ suc l
      same l = omega arith

      less : (l n : ℕ) → suc l ≤ n → l < n
      less l n within = omega arith

      le : (l n : ℕ) → suc l ≤ n → l + 1 ≤ n
      le l n within = omega arith

  pub count_sound : IsSoundTable homes d4 grips
  count_sound = record {
    one_home_each = record {
      ties = λ y live. ties_to4 (pointer_of d y).span (pointer_of d y).page (pointer_of d y).slot (sound.one_home_each.ties y (sym (live4 y) ∙ live));
      apart = λ y z ly lz. sound.one_home_each.apart y z (last4 y ly) (last4 z lz);
      own = λ k y e. let was = sound.one_home_each.own k y e in record { keys = was.keys; page = was.page; at = was.at; led = was.led };
      dead = sound.one_home_each.dead;
    };
    holds_counted = record {
      counted = sound.holds_counted.counted;
      led = λ t. led_so4 t (slot_of d t).state (slot_of d t).led (sound.holds_counted.led t);
      back = λ y t live leads. sound.holds_counted.back y t (sym (live4 y) ∙ live) leads;
    };
    snapshots_fixed = record {
      pointers = λ y live. let l = sound.snapshots_fixed.pointers y (sym (live4 y) ∙ live) in omega arith;
      closed = closed4;
    };
  }
