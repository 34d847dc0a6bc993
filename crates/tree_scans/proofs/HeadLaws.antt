-- The header of a leaf.
use Rattle.std.proofs.Common.{◌≡◌, ◌≢◌, ◌⊎◌, ℕ, ◌+◌, ◌^◌, ◌<◌, ◌≤◌, Bool, true, eqb, eq-eqb, ltb}
use Rattle.std.proofs.Common.{List, length, refl, sym, ap, ◌∙◌, subst, arith, Option, Some}
use Rattle.std.specs.Prelude.{◌&&◌, Ok, Err, MatchBool}
use Rattle.std.specs.List.{Contains}
use Rattle.std.proofs.lemmas.Bool.{and_from}
use Rattle.std.proofs.lemmas.Bool.Decides.{nat_tests}
use Rattle.lists.specs.Elements.{in_head}
use Rattle.lists.specs.Fronts.{front_refl, front_same}
use Rattle.serial_model.specs.declared.key.Key.{Key}
use Rattle.tx_sets.specs.declared.seen.Seen.{Seen}
use Rattle.engine_pages.specs.declared.layout.Layout.{Layout}
use Rattle.engine_pages.specs.declared.view.RefusalCause.{RefusalCause}
use Rattle.engine_pages.specs.declared.view.View.{View}
use Rattle.engine_pages.specs.Layout.{page_at}
use Rattle.engine_pages.specs.Pointers.{WaysAgree}
use Rattle.engine_pages.specs.Steps.{kept_at, read_at, seen_at}
use Rattle.tree_heads.specs.Headers.{count_of, kind_of, open_word}
use Rattle.tree_heads.specs.Keeps.{HasSeenHeader, SawHeader, is_open_leaf}
use Rattle.array_pages.proofs.ReadLaws.{kept_here, kept_other, seen_other, seen_same}
use Rattle.tree_walks.specs.declared.ways.Leaf.{Leaf}
use Rattle.tree_walks.specs.Finds.{KeepsSo}
use Rattle.tree_walks.specs.Walks.{CanWalk, HasWalked, IsTreesWord}
use Rattle.tree_walks.specs.Ways.{IsLeafAt, IsLeafOn, IsMetSo}
use Rattle.tree_walks.proofs.KeepLaws.{keeps_header}
use Rattle.tree_walks.proofs.RecordLaws.{walked_head}
use Rattle.tree_walks.proofs.PathLaws.{paths_same}
use Rattle.tree_walks.proofs.StepLaws.{can_after, head_word, layout_stays, only_but, word_stays}
use Rattle.tree_scans.specs.Heads.{IsAtWord, IsHeadKept, KeepsHead}

-- a refused search for an absence is a refused header
pub head_refused : (k : Key) (leaf : Leaf) (pointers headers : List Seen) (slots : List ℕ) (why : RefusalCause)
    (v w : View)
    → KeepsSo 1 k pointers headers slots (Err why) v w → IsAtWord (page_at v.layout.slots leaf.slot 0) why
    → KeepsHead k leaf pointers headers slots (Err why) v w
head_refused k leaf pointers headers slots why v w h place = record {
  can = h.can;
  walked = h.walked;
  most = h.most;
  only = tt;
  keeps = tt;
  paths = h.paths;
  grip = h.grip;
  head = tt;
  cause = h.cause;
  place = place;
}

module _ (k : Key) (pointers headers : List Seen) (slots : List ℕ) (leaf : Leaf) (at n : ℕ) (v w : View)
    (can : CanWalk slots v) (l : IsLeafOn k headers leaf v)
    (word : at ≡ page_at v.layout.slots leaf.slot 0) (sees : SawHeader leaf.slot leaf.span at leaf.header v n w)
    (same : n ≡ leaf.header) (low : n < 2 ^ 60) where
  h : HasSeenHeader leaf.slot leaf.span at v n w
  h =
      let leafy : kind_of n ≡ 1 = ap kind_of same ∙ (l.leaf).kind in
      let test : (eqb n leaf.header && is_open_leaf n) ≡ true =
      and_from (eqb n leaf.header) (is_open_leaf n) (eq-eqb n leaf.header same)
      (and_from (ltb n (2 ^ 60)) (eqb (kind_of n) 1) (let e : ltb n (2 ^ 60) ≡ true = grind (arith, nat_tests) in e)
      (eq-eqb (kind_of n) 1 leafy)) in
      subst (λ c. MatchBool c (HasSeenHeader leaf.slot leaf.span at v n w) (w ≡ read_at at n v)) test sees

  walk : HasWalked v w
  walk = walked_head leaf.slot leaf.span at n v w h

  grip : w.grip ≡ v.grip
  grip = ap (λ (z : View). z.grip) h.is

  set_is : IsMetSo headers at n
  set_is = subst (IsMetSo headers at) (sym same) (subst (λ i. IsMetSo headers i leaf.header) (sym word) l.set)

  others : (a : ℕ) → a ≢ at → seen_at w.reads a ≡ seen_at v.reads a
  others a apart = ap (λ (z : View). seen_at z.reads a) h.is ∙ seen_other v.reads at n (Some n) a apart

  here : page_at w.layout.slots leaf.slot 0 ≡ at
  here = ap (λ (y : Layout). page_at y.slots leaf.slot 0) (layout_stays v w walk) ∙ sym word

  seen_here : seen_at w.reads at ≡ Some n
  seen_here = ap (λ (z : View). seen_at z.reads at) h.is ∙ seen_same v.reads at n (Some n)

  head_is : IsHeadKept leaf h.keys v w
  head_is = record {
    knows = subst (λ (z : View). Contains z.known (record { slot = leaf.slot; keys = h.keys })) (sym h.is)
        (in_head (record { slot = leaf.slot; keys = h.keys }) v.known);
    few = (h.are).few;
    is = sym same ∙ h.word;
    kept = ap (λ (z : View). z.seat.kept) h.is;
    word_kept = ap (kept_at w.reads) here
        ∙ (ap (λ (z : View). kept_at z.reads at) h.is
        ∙ (kept_here v.reads at n (Some n) ∙ ap (λ (i : ℕ). let o : Option ℕ = Some i in o) same));
    words = λ a apart.
        ap (λ (z : View). kept_at z.reads a) h.is ∙ kept_other v.reads at n (Some n) a (λ e. apart (e ∙ sym here));
    met = ap (seen_at w.reads) here ∙ (seen_here ∙ ap (λ (i : ℕ). let o : Option ℕ = Some i in o) same);
  }

  -- it was kept as it was
  pub head_kept : KeepsHead k leaf pointers headers slots (Ok tt) v w
  head_kept = record {
    can = can_after slots v w walk grip (subst (λ (z : View). WaysAgree z.ways) (sym h.is) can.agree) h.trees can;
    walked = walk;
    most = let e = ap (λ (z : View). z.steps) h.is in omega (arith, e);
    only = only_but at v w (word_stays v w at walk treed) others;
    keeps = keeps_header k pointers headers slots leaf.slot leaf.span at n v w can (l.leaf).on word set_is seen_here
        others;
    paths = paths_same k v w (ap (λ (z : View). z.ways) h.is);
    grip = grip;
    head = λ m.
        subst (λ (q : List Key). IsHeadKept leaf q v w)
        (sym (front_same m.keys h.keys h.keys
        ((h.are).known (record { slot = leaf.slot; keys = m.keys }) m.knows refl) (front_refl h.keys)
        (m.count ∙ (ap count_of (sym same) ∙ sym h.count)))) head_is;
    cause = tt;
    place = tt;
  }
    where
      treed : IsTreesWord v at
      treed = subst (IsTreesWord v) (sym word) (head_word k v leaf.slot leaf.span (l.leaf).on)
