-- The ways that are known newly are on the way to the key.
use Rattle.std.proofs.Common.{◌≡◌, ◌⊎◌, inl, inr, ℕ, ◌-◌, Bool, true, false, List, sym, ap, ◌∙◌, subst}
use Rattle.std.proofs.Common.{Option, Some, None, eqb, ltb}
use Rattle.std.specs.Prelude.{Contains, MatchBool}
use Rattle.lists.specs.Elements.{in_cases}
use Rattle.serial_model.specs.declared.key.Key.{Key}
use Rattle.homes.specs.declared.places.Span.{Span}
use Rattle.homes.specs.Homes.{in_span}
use Rattle.drop_core.specs.Table.{has_slot}
use Rattle.engine_pages.specs.declared.view.Moved.{Moved}
use Rattle.engine_pages.specs.declared.view.View.{View}
use Rattle.engine_pages.specs.declared.view.Way.{Way}
use Rattle.engine_pages.specs.Pointers.{HasFollowed, half_of, ways_if, ways_more}
use Rattle.engine_pages.specs.Steps.{read_at}
use Rattle.tree_heads.specs.Headers.{HasChildren, HasHeader, HasTwinWays, HasTwins, Headed, MetAgain, kind_of, moved_bit}
use Rattle.tree_heads.specs.Headers.{moved_locked}
use Rattle.array_pages.specs.Finding.{HasGlanced}
use Rattle.tree_walks.specs.Walks.{HasWalked, IsTwinOn, OnlyWaysOn}
use Rattle.tree_walks.specs.Ways.{IsOnWay}

pub paths_same : (k : Key) (v w : View) → w.ways ≡ v.ways → OnlyWaysOn k v w
paths_same k v w same x has = inl (subst (λ (l : List Way). Contains l x) same has)

twin_stays : (k : Key) (u w : View) (x : Way) → HasWalked u w → IsTwinOn k u x → IsTwinOn k w x
twin_stays k u w x walk t = record {
  moved = t.moved;
  knows = walk.moved t.moved t.knows;
  way = t.way;
  has = walk.ways t.way t.has;
  same = t.same;
  over = t.over;
  is = t.is;
}

pub paths_then : (k : Key) (v u w : View) → HasWalked u w → OnlyWaysOn k v u → OnlyWaysOn k u w → OnlyWaysOn k v w
paths_then k v u w walk first second x has = elim (second x has) [
  | inl mid ↦ elim (first x mid) [
    | inl old ↦ inl old
    | inr new ↦ inr (elim new [ inl over ↦ inl over | inr twin ↦ inr (twin_stays k u w x walk twin) ])
  ]
  | inr new ↦ inr new
]

pub paths_glanced : (k : Key) (v w : View) → HasGlanced v w → OnlyWaysOn k v w
paths_glanced k v w g = paths_same k v w (ap (λ (z : View). z.ways) g.is)

-- ---- one load

if_cases : (b : Bool) (t : ℕ) (sp : Span) (ways : List Way) (x : Way) → Contains (ways_if b t sp ways) x
    → Contains ways x ⊎ ((let y : Way = record { slot = t; span = sp } in y) ≡ x)
if_cases true t sp ways x has = elim (in_cases x (record { slot = t; span = sp }) ways has) [
  | inl same ↦ inr same
  | inr old ↦ inl old
]
if_cases false t sp ways x has = inl has

more_cases : (holds : List ℕ) (o : Option ℕ) (sp : Span) (ways : List Way) (x : Way) → Contains (ways_more holds o sp ways) x
    → Contains ways x ⊎ (x.span ≡ sp)
more_cases holds None sp ways x has = inl has
more_cases holds (Some t) sp ways x has = elim (if_cases (has_slot holds t) t sp ways x has) [
  | inl old ↦ inl old
  | inr same ↦ inr (sym (ap (λ (y : Way). y.span) same))
]

-- of a pointer over the key
pub follow_paths : (k : Key) (span : Span) (at : ℕ) (v : View) (n : ℕ) (u : View) → in_span span k ≡ true
    → HasFollowed span at v n u → OnlyWaysOn k v u
follow_paths k span at v n u over h x has =
    elim (more_cases v.grip.holds (half_of n) span v.ways x (subst (λ (z : View). Contains z.ways x) h.is has)) [
      | inl old ↦ inl old
      | inr same ↦ inr (inl (ap (λ (s : Span). in_span s k) same ∙ over))
    ]

-- of a header
pub head_paths : (k : Key) (t : ℕ) (sp : Span) (at : ℕ) (v : View) (n : ℕ) (u : View) → Headed t sp at v n u → OnlyWaysOn k v u
head_paths k t sp at v n u h = paths_same k v u (by_kind (eqb (kind_of n) 1) (ltb n moved_bit) h)
  where
    by_kind : (leaf low : Bool)
        → MatchBool leaf (MatchBool low (HasHeader t sp at v n u) (HasTwins t sp at v n u)) (HasChildren t at v n u)
        → u.ways ≡ v.ways
    by_kind true true h = ap (λ (z : View). z.ways) h.is
    by_kind true false h = ap (λ (z : View). z.ways) h.is
    by_kind false low h = ap (λ (z : View). z.ways) h.is

-- of a moved header, again
pub again_paths : (k : Key) (t : ℕ) (sp : Span) (at : ℕ) (v : View) (n : ℕ) (u : View) (x : Moved) → HasWalked v u
    → IsOnWay k v t sp → Contains v.moved x → x.slot ≡ t → MetAgain t sp at v n u → OnlyWaysOn k v u
again_paths k t sp at v n u x walk on knows same m = by_low (ltb n moved_locked) m.1
  where
    twin : (y : Way) → (y.slot ≡ x.minor) ⊎ (y.slot ≡ x.major) → IsTwinOn k u y
    twin y is = record {
      moved = x;
      knows = walk.moved x knows;
      way = record { slot = t; span = sp };
      has = walk.ways (record { slot = t; span = sp }) on.way;
      same = sym same;
      over = on.over;
      is = is;
    }

    by_low : (low : Bool) → MatchBool low (HasTwinWays t sp at v n u) (u ≡ read_at at n v) → OnlyWaysOn k v u
    by_low true h = λ y has.
        let is = h.is x knows same in
        elim (if_cases (has_slot v.grip.holds x.minor) x.minor
        (record { storage = sp.storage; low = sp.low; high = x.separator - 1 })
        (ways_if (has_slot v.grip.holds x.major) x.major
        (record { storage = sp.storage; low = x.separator; high = sp.high }) v.ways) y
        (subst (λ (z : View). Contains z.ways y) is has)) [
          | inl more ↦ elim (if_cases (has_slot v.grip.holds x.major) x.major
              (record { storage = sp.storage; low = x.separator; high = sp.high }) v.ways y more) [
                | inl old ↦ inl old
                | inr new ↦ inr (inr (twin y (inr (sym (ap (λ (z : Way). z.slot) new)))))
              ]
          | inr new ↦ inr (inr (twin y (inl (sym (ap (λ (z : Way). z.slot) new)))))
        ]
    by_low false is = paths_same k v u (ap (λ (z : View). z.ways) is)
