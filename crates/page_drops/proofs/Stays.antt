-- What was met is told still as more is gone over.
use Rattle.std.proofs.Common.{◌≡◌, inl, inr, ℕ, ◌+◌, ◌<◌, ◌≤◌, Bool, false, cond, eqb, eq-eqb, List, [], ◌∷◌, ◌++◌}
use Rattle.std.proofs.Common.{length, get_or, Option, Some, None, refl, sym, ap, ◌∙◌, subst, arith}
use Rattle.std.specs.Prelude.{reverse, ⊤}
use Rattle.std.specs.List.{flat_map, slice_get, Contains}
use Rattle.std.proofs.lemmas.List.{reverse-append}
use Rattle.std.proofs.lemmas.List.Elements.{Contains-append_left, Contains-append_right}
use Rattle.lists.specs.Elements.{at_below, at_in, in_cases, in_head, in_none}
use Rattle.lists.specs.Fronts.{IsFront, front_length}
use Rattle.snapshot_store.specs.Places.{page as page_words}
use Rattle.engine_rule.proofs.ReadLists.{in_flat}
use Rattle.engine_pages.specs.declared.layout.Layout.{Layout}
use Rattle.engine_pages.specs.declared.view.KeptPage.{KeptPage}
use Rattle.engine_pages.specs.declared.view.KeptWhy.{KeptWhy}
use Rattle.engine_pages.specs.declared.view.View.{View}
use Rattle.engine_pages.specs.Layout.{page_at, root_at}
use Rattle.engine_pages.specs.Pages.{is_array, root_span}
use Rattle.engine_pages.proofs.Named.{page_longer}
use Rattle.page_drops.specs.Inner.{IsInnerCause}
use Rattle.page_drops.specs.Visits.{Met, MetLeaf, MetMiddle, MetRoot, MetTop, AreChildren, HasCause, IsCauseOf, IsInnerTree}
use Rattle.page_drops.specs.Visits.{OneHeight, TwoHeights, ThreeHeights, LeftAlone, IsLeafTree, IsMiddleTree, IsTopTree}
use Rattle.page_drops.specs.Visits.{IsNotedSo, IsNotedUnder, IsRootNode, IsRootTree, slot_here, slots_leaf, slots_middle}
use Rattle.page_drops.specs.Visits.{slots_of, slots_root, slots_top, times}
use Rattle.page_drops.specs.Works.{read_of, IsLeafCause}
use Rattle.page_drops.proofs.Entries.{seen_same}

-- ---- how often a slot is in a list

pub times_append : (t : ℕ) (xs ys : List ℕ) → times t (xs ++ ys) ≡ times t xs + times t ys
times_append t [] ys = omega arith
times_append t (x ∷ xs) ys = let rest = times_append t xs ys in omega (arith, rest)

swapped : (a b c : ℕ) → a ≡ b → a + (c + 0) ≡ c + b
swapped a b c same = omega (arith, same)

pub times_reverse : (t : ℕ) (xs : List ℕ) → times t (reverse xs) ≡ times t xs
times_reverse t [] = refl
times_reverse t (x ∷ xs) =
    ap (times t) (reverse-append (x ∷ []) xs)
    ∙ (times_append t (reverse xs) (x ∷ [])
    ∙ swapped (times t (reverse xs)) (times t xs) (cond (eqb t x) 1 0) (times_reverse t xs))

pub times_in : (t : ℕ) (xs : List ℕ) → Contains xs t → 1 ≤ times t xs
times_in t [] has = absurd (in_none t has)
times_in t (x ∷ xs) has = elim (in_cases t x xs has) [
  | inl same ↦
      let one : ◌≡◌ {A = ℕ} (cond (eqb t x) 1 0) 1 = ap (λ (b : Bool). cond b 1 0) (eq-eqb t x (sym same)) in omega (arith, one)
  | inr more ↦ let rest = times_in t xs more in omega (arith, rest)
]

-- ---- slots of what was met

pub own_slot : {B : Type 0} → (f : B → List ℕ) (m : Met B) (t : ℕ) → m.slot ≡ Some t → Contains (slots_of f m) t
own_slot f m t slot =
    Contains-append_right (flat_map f m.below) (slot_here m.slot) t
    (subst (λ (o : Option ℕ). Contains (slot_here o) t) (sym slot) (in_head t []))

pub below_slot : {B : Type 0} → (f : B → List ℕ) (m : Met B) (j : ℕ) (c : B) (t : ℕ) → slice_get m.below j ≡ Some c
    → Contains (f c) t → Contains (slots_of f m) t
below_slot f m j c t at has =
    Contains-append_left (flat_map f m.below) (slot_here m.slot) t (in_flat f m.below c t (at_in m.below j c at) has)

-- a page that was met has 64 pointers at most
pub index_few : {C : Type 0} → (w : View) (m : Met (Met C)) (t j : ℕ) (c : Met C) → AreChildren C w m → m.slot ≡ Some t
    → slice_get m.below j ≡ Some c → j < 64
index_few w m t j c children slot at =
    let less = at_below m.below j c at in
    elim (children.all t slot) [
      | inl all ↦ omega (arith, less, all)
      | inr away ↦ let none : length m.below ≡ 0 = ap length away.0 in absurd (omega (arith, less, none))
    ]

-- ---- trees

-- more was gone over, and what was read of such words is as it was
pub record Goes (P : ℕ → Type 0) (v w : View) : Type 0 where
  pub layout : w.layout ≡ v.layout
  pub front : IsFront v.pages w.pages
  pub reads : (word : ℕ) → P word → read_of w.reads word ≡ read_of v.reads word

-- of these slots those that were left once stay so, and the words of their pages are such words
abbrev pub Spares : (ℕ → Type 0) → View → View → List ℕ → Type 0
Spares P v w own = (t : ℕ) → Contains own t → times t w.gone ≡ 1
    → (times t v.gone ≡ 1) × ((j : ℕ) → j < 64 → P (page_at v.layout.slots t j))

module _ (P : ℕ → Type 0) (v w : View) (g : Goes P v w) where
  pub there_stays : (n : ℕ) → n ≤ length v.pages → n ≤ length w.pages
  there_stays n there = let long = front_length v.pages w.pages g.front in omega (arith, there, long)

  pub words_stay : (n : ℕ) → n ≤ length v.pages → page_words w.pages n ≡ page_words v.pages n
  words_stay n there = page_longer v.pages w.pages n g.front there

  pub noted_stays : {B : Type 0} → (m : Met B) → P m.at → IsNotedSo v m → IsNotedSo w m
  noted_stays m may h =
      record { read = h.read; is = g.reads m.at may ∙ h.is; sight = h.sight; before = h.before }

  pub under_stays : {B : Type 0} → (kept : Option KeptPage) (c : Met B) → P c.at → IsNotedUnder kept v c
      → IsNotedUnder kept w c
  under_stays None c may h = (h.0, g.reads c.at may ∙ h.1, h.2, h.3)
  under_stays (Some k) c may h = (h.0, g.reads c.at may ∙ h.1, h.2)

  pub cause_stays : {B : Type 0} → (inside : ℕ → ℕ → List ℕ → KeptWhy → ℕ → ℕ → Type 0) (m : Met B)
      → m.page ≤ length v.pages → HasCause inside v m → HasCause inside w m
  cause_stays inside m there h k is =
      subst (λ (ws : List ℕ). IsCauseOf inside w.layout.slots ws m.slot k m.at) (sym (words_stay m.page there))
      (subst (λ (l : Layout). IsCauseOf inside l.slots (page_words v.pages m.page) m.slot k m.at) (sym g.layout) (h k is))

  pub leaf_stays : (m : MetLeaf) → Spares P v w (slots_leaf m) → IsLeafTree v m → IsLeafTree w m
  leaf_stays m spare h = record {
    there = there_stays m.page h.there;
    cause = cause_stays IsLeafCause m h.there h.cause;
    below = h.below;
    still = λ t j k slot kept once less word.
        let s = spare t (own_slot (λ x. []) m t slot) once in
        let here : k.word ≡ page_at v.layout.slots t j = word ∙ ap (λ (l : Layout). page_at l.slots t j) g.layout in
        seen_same v.reads w.reads k.word (g.reads k.word (subst P (sym here) (s.1 j less)))
        ∙ h.still t j k slot kept s.0 less here;
  }

  pub children_stay : {C : Type 0} → (m : Met (Met C)) → m.page ≤ length v.pages → AreChildren C v m → AreChildren C w m
  children_stay m there h = record {
    all = h.all;
    each = λ t j c slot at.
        let one = h.each t j c slot at in (
          one.0 ∙ ap (λ (l : Layout). page_at l.slots t j) (sym g.layout),
          one.1,
          one.2 ∙ ap (λ (ws : List ℕ). get_or ws j 0) (sym (words_stay m.page there)),
        );
    end = h.end;
  }

  pub inner_stays : (C : Type 0) (tree : View → Met C → Type 0) (m : Met (Met C))
      → ((t : ℕ) → m.slot ≡ Some t → times t w.gone ≡ 1
      → (times t v.gone ≡ 1) × ((j : ℕ) → j < 64 → P (page_at v.layout.slots t j)))
      → ((j : ℕ) (c : Met C) → slice_get m.below j ≡ Some c → tree v c → tree w c)
      → IsInnerTree C tree v m → IsInnerTree C tree w m
  inner_stays C tree m spare below h = record {
    there = there_stays m.page h.there;
    cause = cause_stays IsInnerCause m h.there h.cause;
    children = children_stay m h.there h.children;
    each = λ j c at. below j c at (h.each j c at);
    noted = λ t j c slot once at.
        let s = spare t slot once in
        let less = index_few v m t j c h.children slot at in
        let place : c.at ≡ page_at v.layout.slots t j = (h.children.each t j c slot at).0 in
        under_stays m.kept c (subst P (sym place) (s.1 j less)) (h.noted t j c slot s.0 at);
  }

  pub middle_stays : (m : MetMiddle) → Spares P v w (slots_middle m) → IsMiddleTree v m → IsMiddleTree w m
  middle_stays m spare h =
      inner_stays ⊤ IsLeafTree m (λ t slot once. spare t (own_slot slots_leaf m t slot) once)
      (λ j c at tree. leaf_stays c (λ t has once. spare t (below_slot slots_leaf m j c t at has) once) tree) h

  pub top_stays : (m : MetTop) → Spares P v w (slots_top m) → IsTopTree v m → IsTopTree w m
  top_stays m spare h =
      inner_stays MetLeaf IsMiddleTree m (λ t slot once. spare t (own_slot slots_middle m t slot) once)
      (λ j c at tree. middle_stays c (λ t has once. spare t (below_slot slots_middle m j c t at has) once) tree) h

  node_stays : {B : Type 0} → (roots : List ℕ) (r : ℕ) (m : Met B) → IsRootNode v roots r m → IsRootNode w roots r m
  node_stays roots r m h = record {
    at = h.at;
    span = h.span ∙ ap (λ (l : Layout). root_span l.decls r) (sym g.layout);
    page = h.page;
  }

  pub root_stays : (roots : List ℕ) (r : ℕ) (m : MetRoot) → P (root_at r) → Spares P v w (slots_root m)
      → IsRootTree v roots r m → IsRootTree w roots r m
  root_stays roots r (OneHeight m) may spare h = (
    node_stays roots r m h.0,
    h.1,
    noted_stays m (subst P (sym (h.0).at) may) h.2,
    leaf_stays m spare h.3,
  )
  root_stays roots r (TwoHeights m) may spare h = (
    node_stays roots r m h.0,
    h.1,
    noted_stays m (subst P (sym (h.0).at) may) h.2,
    middle_stays m spare h.3,
  )
  root_stays roots r (ThreeHeights m) may spare h = (
    node_stays roots r m h.0,
    h.1,
    noted_stays m (subst P (sym (h.0).at) may) h.2,
    top_stays m spare h.3,
  )
  root_stays roots r LeftAlone may spare h =
      subst (λ (l : Layout). is_array l.decls (root_span l.decls r).storage ≡ false) (sym g.layout) h
