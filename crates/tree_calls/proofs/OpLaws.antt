-- A walk for a key, and a read of it, within an operation that may read it.
use Rattle.std.proofs.Common.{◌≡◌, ◌⊎◌, inl, inr, ℕ, ◌+◌, ◌≤◌, Bool, true, false, List, [], ◌∷◌, ◌++◌, length}
use Rattle.std.proofs.Common.{refl, sym, ap, ◌∙◌, subst, Option, arith, length-append}
use Rattle.std.specs.Prelude.{Contains}
use Rattle.lists.specs.Elements.{in_push_cases}
use Rattle.serial_model.specs.declared.key.Key.{Key}
use Rattle.serial_model.specs.declared.op.Op.{Op}
use Rattle.homes.specs.Homes.{in_span}
use Rattle.drop_core.specs.Table.{has_slot}
use Rattle.tx_sets.specs.declared.seen.Seen.{Seen}
use Rattle.tx_sets.specs.declared.sets.Sets.{Sets}
use Rattle.engine_pages.specs.declared.view.View.{View}
use Rattle.engine_pages.specs.declared.view.Way.{Way}
use Rattle.page_commit.specs.Turning.{meets_most, HeadsOnly, HoldsWaysOf, HoldsWaysTo, IsHeaderOver, IsPointerOf, IsReadBy}
use Rattle.page_commit.specs.Turning.{IsTwinOn, MayRead, MayWrite, MeetsOnly, OnlyWalked, OnlyWaysOf, ReadsOnly}
use Rattle.page_commit.proofs.PointerLaws.{has_pointer}
use Rattle.page_commit.proofs.TurnLaws.{heads_same, none_more, one_more}
use Rattle.tree_calls.specs.Keeping.{HasValue, OnlyWaysOn}

-- ---- one walk

-- the ways to the key are those of the operation
pub ways_for : (op : Op) (k : Key) (v w : View) → MayRead op k ⊎ MayWrite op k → OnlyWaysOn k v w → OnlyWaysOf op v w
ways_for op k v w may only x has = elim (only x has) [ inl old ↦ inl old | inr more ↦ inr (k, may, more) ]

-- so are the slots that are held newly
pub held_for : (op : Op) (k : Key) (old new : List ℕ) (w : View) → MayRead op k ⊎ MayWrite op k → HoldsWaysTo k old new w
    → HoldsWaysOf op old new w
held_for op k old new w may held t has none = let x = held t has none in (x.0, x.1, x.2, k, may, x.3)

-- ---- one walk behind another

twin_later : (k : Key) (v w : View) (x : Way) → OnlyWalked v w → IsTwinOn k v x → IsTwinOn k w x
twin_later k v w x only t = record {
  moved = t.moved;
  knows = only.moved t.moved t.knows;
  way = t.way;
  has = only.ways t.way t.has;
  same = t.same;
  over = t.over;
  is = t.is;
}

pub ways_both : (op : Op) (u v w : View) → OnlyWalked v w → OnlyWaysOf op u v → OnlyWaysOf op v w → OnlyWaysOf op u w
ways_both op u v w only early late x has = elim (late x has) [
  | inl mid ↦ elim (early x mid) [
    | inl old ↦ inl old
    | inr new ↦ inr (
      new.0,
      new.1,
      elim new.2 [ inl over ↦ inl over | inr t ↦ inr (twin_later new.0 v w x only t) ],
    )
  ]
  | inr new ↦ inr new
]

pub held_both : (op : Op) (old mid new : List ℕ) (v w : View) → OnlyWalked v w → HoldsWaysOf op old mid v
    → HoldsWaysOf op mid new w → HoldsWaysOf op old new w
held_both op old mid new v w only early late t has none = by_test (has_slot mid t) refl
  where
    by_test : (b : Bool) → has_slot mid t ≡ b → (x : Way) × Contains w.ways x × (x.slot ≡ t)
        × (k : Key) × (MayRead op k ⊎ MayWrite op k) × (in_span x.span k ≡ true)
    by_test true is = let x = early t is none in (x.0, only.ways x.0 x.1, x.2, x.3, x.4, x.5)
    by_test false is = late t has is

-- ---- a read

-- at most this key was read
pub reads_for : (op : Op) (k : Key) (value : Option ℕ) (sets new : Sets) (v w : View) → MayRead op k → 1 ≤ meets_most op
    → HasValue k value sets new v w → ReadsOnly v.layout.decls op sets.reads new.reads
reads_for op k value sets new v w may one h = elim h.reads [
  | inl same ↦ none_more (IsReadBy v.layout.decls op) (meets_most op) sets.reads new.reads same
  | inr more ↦ one_more (IsReadBy v.layout.decls op) (meets_most op) sets.reads new.reads more.0 one more.2
      (inl (subst (MayRead op) (sym more.1) may))
]

-- at most one pointer was met
pub meets_for : (op : Op) (k : Key) (value : Option ℕ) (sets new : Sets) (v w : View) → MayRead op k → 1 ≤ meets_most op
    → HasValue k value sets new v w → MeetsOnly w op sets.pointers new.pointers
meets_for op k value sets new v w may one h = elim h.pointers [
  | inl same ↦ none_more (IsPointerOf w op) (meets_most op) sets.pointers new.pointers same
  | inr more ↦ one_more (IsPointerOf w op) (meets_most op) sets.pointers new.pointers more.0 one more.1
      (k, may, inr more.2)
]

-- at most one header more is kept
pub heads_for : (op : Op) (k : Key) (w : View) (old new : List Seen) → MayRead op k → 1 ≤ meets_most op
    → (new ≡ old) ⊎ ((h : Seen) × (new ≡ old ++ h ∷ []) × IsHeaderOver w k h.at) → HeadsOnly w op old new
heads_for op k w old new may one (inl same) = heads_same w op old new same
heads_for op k w old new may one (inr more) = record {
  each = λ x has.
      elim (in_push_cases x more.0 old (subst (λ (l : List Seen). Contains l x) more.1 has)) [
        | inl before ↦ inl (has_pointer old x before)
        | inr same ↦ inr (k, may, subst (λ (z : Seen). IsHeaderOver w k z.at) same more.2)
      ];
  few =
      let n : length new ≡ length old + 1 = ap (λ (l : List Seen). length l) more.1 ∙ length-append old (more.0 ∷ []) in
      omega (arith, n, one);
}
