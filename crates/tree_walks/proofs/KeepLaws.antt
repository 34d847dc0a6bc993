-- What the sets have is met as they have it.
use Rattle.std.proofs.Common.{◌≡◌, ◌≢◌, ◌⊎◌, inl, inr, ℕ, ◌+◌, ◌*◌, ◌<◌, Bool, true, false, true≢false, eqb, eqb-true, eq-eqb}
use Rattle.std.proofs.Common.{List, [], length, refl, sym, ap, ◌∙◌, subst, arith, Option, Some, None}
use Rattle.std.specs.Prelude.{Contains}
use Rattle.std.specs.List.{slice_get}
use Rattle.lists.specs.Elements.{at_below}
use Rattle.serial_model.specs.declared.key.Key.{Key}
use Rattle.homes.specs.declared.places.At.{At}
use Rattle.homes.specs.declared.places.At.TheVariants.{Root, In}
use Rattle.homes.specs.declared.places.Span.{Span}
use Rattle.homes.specs.declared.places.Spot.{Spot}
use Rattle.wire_form.specs.Leaves.{tree_leaf, word_in}
use Rattle.tx_sets.specs.declared.seen.Seen.{Seen}
use Rattle.tx_sets.specs.Entries.{word_at}
use Rattle.engine_pages.specs.declared.layout.Layout.{Layout}
use Rattle.engine_pages.specs.declared.view.View.{View}
use Rattle.engine_pages.specs.declared.view.Way.{Way}
use Rattle.engine_pages.specs.Layout.{page_at}
use Rattle.engine_pages.specs.Pages.{is_tree}
use Rattle.engine_pages.specs.Pointers.{IsBranchAt, IsPointerAt, one_kind}
use Rattle.engine_pages.specs.Records.{IsTreeRecordAt}
use Rattle.engine_pages.specs.Steps.{seen_at}
use Rattle.array_pages.specs.Finding.{HasGlanced}
use Rattle.tree_walks.specs.Walks.{CanWalk, HasWalked, IsNoHeader, IsPointersWord, KeepsMet, LiesInPage}
use Rattle.tree_walks.specs.Ways.{IsMetSo, IsOnWay}
use Rattle.tree_walks.proofs.LoadLaws.{glanced_seen}
use Rattle.tree_walks.proofs.StepLaws.{layout_stays, place_stays, tree_word_stays}

-- ---- parts in a row

-- nothing was met
pub keeps_none : (pointers headers : List Seen) (v w : View) → ((a : ℕ) → seen_at w.reads a ≡ seen_at v.reads a)
    → KeepsMet pointers headers v w
keeps_none pointers headers v w same = record {
  points = λ a word set is was. same a ∙ was;
  heads = λ a word slot set is was. same a ∙ was;
}

pub keeps_glanced : (pointers headers : List Seen) (v w : View) → HasGlanced v w → KeepsMet pointers headers v w
keeps_glanced pointers headers v w g = keeps_none pointers headers v w (λ a. glanced_seen v w a g)

pub points_stay : (v w : View) (at : ℕ) → HasWalked v w → IsPointersWord v at → IsPointersWord w at
points_stay v w at walk p = record {
  place = p.place;
  span = p.span;
  is = place_stays v w p.place p.span at walk p.is;
  inside = subst (λ (y : Layout). LiesInPage y.slots p.place at) (sym (layout_stays v w walk)) p.inside;
}

pub keeps_then : (pointers headers : List Seen) (v u w : View) → HasWalked v u → KeepsMet pointers headers v u
    → KeepsMet pointers headers u w → KeepsMet pointers headers v w
keeps_then pointers headers v u w walk x y = record {
  points = λ a word set is was. y.points a word set (points_stay v u a walk is) (x.points a word set is was);
  heads = λ a word slot set is was.
      y.heads a word slot set (tree_word_stays v u slot 0 a walk is) (x.heads a word slot set is was);
}

-- ---- one word was met

pub same_or : (a at : ℕ) → (a ≡ at) ⊎ (a ≢ at)
same_or a at = by_test (eqb a at) refl
  where
    by_test : (b : Bool) → eqb a at ≡ b → (a ≡ at) ⊎ (a ≢ at)
    by_test true same = inl (eqb-true a at same)
    by_test false other = inr (λ e. true≢false (sym (eq-eqb a at e) ∙ other))

pub none_or_some : (o : Option ℕ) (word : ℕ) → o ≡ Some word → o ≡ None → ⊥
none_or_some o word some none = cc

-- it is as the set has it
pub one_word : (set : List Seen) (at n a word : ℕ) (w : View) → IsMetSo set at n → seen_at w.reads at ≡ Some n
    → word_at a set ≡ Some word → a ≡ at → seen_at w.reads a ≡ Some word
one_word set at n a word w met seen has same =
    elim met [
      | inl none ↦ absurd (none_or_some (word_at a set) word has (ap (λ (i : ℕ). word_at i set) same ∙ none))
      | inr is ↦
          ap (seen_at w.reads) same ∙ (seen ∙ (sym (ap (λ (i : ℕ). word_at i set) same ∙ is) ∙ has))
    ]

-- a pointer's
pub keeps_pointer : (pointers headers : List Seen) (at n : ℕ) (v w : View) → IsNoHeader v.layout.slots at
    → IsMetSo pointers at n → seen_at w.reads at ≡ Some n
    → ((a : ℕ) → a ≢ at → seen_at w.reads a ≡ seen_at v.reads a) → KeepsMet pointers headers v w
keeps_pointer pointers headers at n v w apart met seen others = record {
  points = λ a word set is was.
      elim (same_or a at) [
        | inl same ↦ one_word pointers at n a word w met seen set same
        | inr other ↦ others a other ∙ was
      ];
  heads = λ a word slot set is was. others a (λ same. apart slot (sym same ∙ is.word)) ∙ was;
}

-- no pointer is a word of a tree's page but of an interior one
pub not_pointer : (slots : List ℕ) (v : View) (t i : ℕ) (sp : Span) (x : At) (span : Span) (a : ℕ) → CanWalk slots v
    → Contains v.ways (record { slot = t; span = sp }) → is_tree v.layout.decls sp.storage ≡ true → i < 64
    → ((y : Spot) → IsBranchAt v y span a → y.slot ≡ t → 4 + y.index ≡ i → ⊥) → IsPointerAt v x span a
    → LiesInPage v.layout.slots x a → a ≡ page_at v.layout.slots t i → ⊥
not_pointer slots v t i sp (Root r) span a can has tree less branch is lies same =
    let few = (can.declared).few in
    let within = is.0 in
    let at = is.2 in absurd (omega (arith, few, within, at, same))
not_pointer slots v t i sp (In y) span a can has tree less branch is lies same =
    elim is [
      | inl c ↦
          let index = c.index in
          let word = c.word in
          let slot : y.slot ≡ t = omega (arith, index, word, same, less) in
          let way : Way = record { slot = t; span = sp } in
          let agreed = can.agree c.way way c.has has (c.slot ∙ slot) in
          one_kind _ c.kind (ap (λ (q : ℕ). is_tree v.layout.decls q) agreed.0 ∙ tree)
      | inr b ↦
          let word = b.word in
          let slot : y.slot ≡ t = omega (arith, word, lies, same, less) in
          branch y b slot (omega (arith, word, same, slot))
    ]

-- a header's
pub keeps_header : (k : Key) (pointers headers : List Seen) (slots : List ℕ) (t : ℕ) (sp : Span) (at n : ℕ) (v w : View)
    → CanWalk slots v → IsOnWay k v t sp → at ≡ page_at v.layout.slots t 0 → IsMetSo headers at n
    → seen_at w.reads at ≡ Some n → ((a : ℕ) → a ≢ at → seen_at w.reads a ≡ seen_at v.reads a)
    → KeepsMet pointers headers v w
keeps_header k pointers headers slots t sp at n v w can on word met seen others = record {
  points = λ a value set is was.
      others a
      (λ same. not_pointer slots v t 0 sp is.place is.span a can on.way on.tree (omega arith)
      (λ y b slot e. absurd (omega (arith, e))) is.is is.inside (same ∙ word))
      ∙ was;
  heads = λ a value slot set is was.
      elim (same_or a at) [
        | inl same ↦ one_word headers at n a value w met seen set same
        | inr other ↦ others a other ∙ was
      ];
}

pub no_key : (keys : List Key) (i : ℕ) (k : Key) → keys ≡ [] → slice_get keys i ≡ Some k → ⊥
no_key keys i k none has =
    let less = at_below keys i k has in
    let empty : length keys ≡ 0 = ap (λ (q : List Key). length q) none in absurd (omega (arith, less, empty))

-- a record's and its value's
pub keeps_record : (k : Key) (pointers headers : List Seen) (slots : List ℕ) (sp : Span) (x : Spot) (at : ℕ) (v w : View)
    → CanWalk slots v → IsOnWay k v x.slot sp → IsTreeRecordAt v k x at
    → ((a : ℕ) → a ≢ at → a ≢ at + 1 → seen_at w.reads a ≡ seen_at v.reads a) → KeepsMet pointers headers v w
keeps_record k pointers headers slots sp x at v w can on place others = record {
  points = λ a value set is was.
      others a (λ same. by_index a is 0 (omega arith) (omega (arith, same)))
      (λ same. by_index a is 1 (omega arith) same)
      ∙ was;
  heads = λ a value slot set is was.
      others a
      (λ same. let here = is.word in let there = word in absurd (omega (arith, here, there, same, index)))
      (λ same. let here = is.word in let there = word in absurd (omega (arith, here, there, same, index)))
      ∙ was;
}
  where
    index : x.index < 16
    index = place.index

    word : at ≡ page_at v.layout.slots x.slot (17 + 3 * x.index)
    word =
        let is : at ≡ page_at v.layout.slots x.slot (word_in tree_leaf x.index) = place.word in omega (arith, is)

    by_index : (a : ℕ) → IsPointersWord v a → (j : ℕ) → j < 2 → a ≡ at + j → ⊥
    by_index a is j less same =
        not_pointer slots v x.slot (17 + 3 * x.index + j) sp is.place is.span a can on.way on.tree
        (let small = index in omega (arith, small, less))
        (λ y b slot e.
        no_key (place.leaf).keys x.index k
        ((can.trees).apart place.leaf b.inner place.knows b.knows (place.same ∙ (sym slot ∙ sym b.same))) place.key) is.is
        is.inside (let there = word in omega (arith, same, there))
