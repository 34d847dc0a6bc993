-- Whom tries in conflict met: where one met another's lock, a line of another worker may change that key, or pages were
-- dropped. A line that found no slot may change some key.
use Rattle.std.proofs.Common.{◌≡◌, ◌⊎◌, ◌∙◌, inl, inr, sym, ap, subst, refl, ℕ, zero, suc, ◌+◌, Bool, true, false, List}
use Rattle.std.proofs.Common.{[], ◌∷◌, ◌++◌, length, map, arith, Some, eqb, eq-eqb, eqb-true}
use Rattle.std.specs.Prelude.{◌==◌, ◌&&◌, nat_le, slice_get}
use Rattle.std.proofs.lemmas.Bool.{and_parts}
use Rattle.std.specs.List.{AllByRecursion, Contains}
use Rattle.std.proofs.lemmas.Bool.Decides.{nat_tests}
use Rattle.std.proofs.lemmas.List.Elements.{Contains-append_left, Contains-append_right}
use Rattle.lists.specs.Elements.{any_in, in_cases, in_head, in_none, in_tail}
use Rattle.serial_model.specs.declared.decl.Decl.{Decl}
use Rattle.serial_model.specs.declared.key.Key.{Key}
use Rattle.serial_model.specs.declared.op.Op.{Op}
use Rattle.serial_model.specs.declared.op.Op.TheVariants.{Read, Write, Remove, Add, Take, Scan}
use Rattle.engine_pages.specs.Pages.{decl_of, is_array, is_tree}
use Rattle.engine_pages.specs.Pointers.{one_kind}
use Rattle.engine_pages.specs.Touches.{AreBlamed, touch}
use Rattle.engine_pages.specs.declared.layout.Layout.{Layout}
use Rattle.engine_pages.specs.declared.view.Dropped.{Dropped}
use Rattle.engine_pages.specs.declared.view.RefusalCause.{RefusalCause}
use Rattle.engine_pages.specs.declared.view.RefusalCause.TheVariants as refusals
use Rattle.engine_pages.specs.declared.view.Touch.{Touch}
use Rattle.engine_pages.specs.declared.view.View.{View}
use Rattle.engine_pages.specs.declared.view.SetName.{SetName}
use Rattle.engine_pages.specs.declared.view.SetName.TheVariants as names
use Rattle.worker_cells.specs.Below.{blame_at, blame_of, blames_of, FillsSet, IsKeyOf, IsMetOf, IsOfKey, IsOnTree}
use Rattle.worker_cells.specs.Below.{IsTreeScan, IsWordAt, IsWrittenBy, Lost, MayWrite, OfLeaf, OfRecord}
use Rattle.worker_cells.specs.Below.{OfSlot, OfWay, Spot, ToClock, ToOther, ToSet, ToSlots}
use Rattle.tx_script.specs.Run.{AtRecord}
use Rattle.tx_script.specs.Conflicts.{FillsSet as CanFill, IsMet, IsMetAt, IsMetBy, LinesMet, ScansTree, WorkersMet}
use Rattle.tx_script.specs.Conflicts.{changes, changes_key, same_key, IsOnTree as IsOfTree, touches, touches_key}
use Rattle.worker_cells.specs.InARow.{IsTakenBy, line_keeps, row_before}
use Rattle.worker_cells.specs.Rows.{AreInARow, LineRan, lines_of, refused_of}
use Rattle.shared_rounds.specs.Parts.{AreParts, IsPart, IsRound, Part, no_tries, tries_of}
use Rattle.shared_rounds.specs.Refusals.{set_of, try_refusal, where_of}
use Rattle.shared_rounds.specs.Shares.{Share}
use Rattle.shared_rounds.proofs.Claimed.{grown}
use Rattle.shared_rounds.proofs.Conflicts.{IsLostOf, line_lost}
use Rattle.shared_rounds.proofs.Joined.{shares_of}

-- ---- lists

pub in_either : {A : Type 0} (t : A) (xs ys : List A) → Contains (xs ++ ys) t → Contains xs t ⊎ Contains ys t
in_either t [] ys has = inr has
in_either t (x ∷ xs) ys has = elim (in_cases t x (xs ++ ys) has) [
  | inl e ↦ inl (subst (λ u. Contains (x ∷ xs) u) e (in_head x xs))
  | inr more ↦ elim (in_either t xs ys more) [ inl old ↦ inl (in_tail t x xs old) | inr new ↦ inr new ]
]

-- ---- keys

same_self : (k : Key) → same_key k k ≡ true
same_self k = grind (arith, nat_tests)

same_of : (q k : Key) → q ≡ k → same_key q k ≡ true
same_of q k is = subst (λ (x : Key). same_key q x ≡ true) is (same_self q)

both : (x y : Bool) → x ≡ true → y ≡ true → (x && y) ≡ true
both true true first second = refl
both true false first second = absurd cc
both false y first second = absurd cc

-- a range has the key, whichever way the storages are compared
in_range : (own other : ℕ) (inside : Bool) → ((own == other) && inside) ≡ true → ((other == own) && inside) ≡ true
in_range own other inside is =
    let parts = and_parts (eqb own other) inside is in
    both (eqb other own) inside (eq-eqb other own (sym (eqb-true own other parts.0))) parts.1

touched_by : (op : Op) (k : Key) → IsOfKey op k → touches_key k op ≡ true
touched_by (Read q) k of = same_of q k of
touched_by (Write q value) k of = same_of q k of
touched_by (Remove q) k of = same_of q k of
touched_by (Add q value) k of = same_of q k of
touched_by (Take q value) k of = same_of q k of
touched_by (Scan storage low high) k of = in_range k.storage storage (nat_le low k.key && nat_le k.key high) of

changed_by : (op : Op) (k : Key) → MayWrite op k → changes_key k op ≡ true
changed_by (Read q) k may = absurd may
changed_by (Write q value) k may = same_of q k may
changed_by (Remove q) k may = same_of q k may
changed_by (Add q value) k may = same_of q k may
changed_by (Take q value) k may = same_of q k may
changed_by (Scan storage low high) k may = absurd may

line_touches : (ops : List Op) (k : Key) → IsKeyOf ops k → touches ops k ≡ true
line_touches ops k key = any_in (touches_key k) ops key.op key.among (touched_by key.op k key.at)

line_changes : (ops : List Op) (k : Key) → IsWrittenBy ops k → changes ops k ≡ true
line_changes ops k key = any_in (changes_key k) ops key.op key.among (changed_by key.op k key.writes)

-- a conflict at a record is one at an array's
array_of : (l : Layout) (k : Key) (why : RefusalCause) → IsWordAt l (OfRecord k) why
    → is_array l.decls k.storage ≡ true
array_of l k (refusals.Conflict at expected seen) is = is.0
array_of l k (refusals.Full held) is = absurd is
array_of l k (refusals.Wide set) is = absurd is
array_of l k (refusals.NumberLimit clock) is = absurd is

-- an operation is on a tree
on_tree : (decls : List Decl) (op : Op) → IsOnTree decls op → IsOfTree decls op
on_tree decls (Read k) on = on
on_tree decls (Write k value) on = on
on_tree decls (Remove k) on = on
on_tree decls (Add k amount) on = on
on_tree decls (Take k amount) on = on
on_tree decls (Scan storage low high) on = on

-- an operation of these scans one
scan_among : (decls : List Decl) (ops : List Op) (op : Op) → Contains ops op → IsTreeScan decls op → ScansTree decls ops
scan_among decls ops (Read k) among scan = absurd scan
scan_among decls ops (Write k value) among scan = absurd scan
scan_among decls ops (Remove k) among scan = absurd scan
scan_among decls ops (Add k amount) among scan = absurd scan
scan_among decls ops (Take k amount) among scan = absurd scan
scan_among decls ops (Scan storage low high) among scan = (storage, low, high, among, scan)

-- a set that the line can fill is told as one
can_fill : (decls : List Decl) (ops : List Op) (set : SetName) → FillsSet decls ops set
    → CanFill decls ops (set_of set)
can_fill decls ops names.Reads fills = scan_among decls ops fills.0 fills.1 fills.2
can_fill decls ops names.Writes fills = absurd fills
can_fill decls ops names.Pointers fills = scan_among decls ops fills.0 fills.1 fills.2
can_fill decls ops names.Holds fills = (fills.0, fills.1, on_tree decls fills.0 fills.2)

-- ---- lines that were run

-- a refusal is among those of its line, and so of all lines
blame_in : (q : ℕ) (k : Key) (losts : List Lost) (lost : Lost) → Contains losts lost
    → Contains (blame_of q lost) (touch q k) → Contains (blames_of q losts) (touch q k)
blame_in q k [] lost has here = absurd (in_none lost has)
blame_in q k (x ∷ losts) lost has here = elim (in_cases lost x losts has) [
  | inl same ↦ Contains-append_left (blame_of q x) (blames_of q losts) (touch q k)
      (subst (λ (y : Lost). Contains (blame_of q y) (touch q k)) (sym same) here)
  | inr later ↦ Contains-append_right (blame_of q x) (blames_of q losts) (touch q k)
      (blame_in q k losts lost later here)
]

refused_in : (ran : List LineRan) (line : LineRan) (lost : Lost) → Contains ran line → Contains line.refused lost
    → Contains (refused_of ran) lost
refused_in [] line lost has there = absurd (in_none line has)
refused_in (x ∷ ran) line lost has there = elim (in_cases line x ran has) [
  | inl same ↦ Contains-append_left x.refused (refused_of ran) lost
      (subst (λ (y : LineRan). Contains y.refused lost) (sym same) there)
  | inr later ↦ Contains-append_right x.refused (refused_of ran) lost (refused_in ran line lost later there)
]

ops_in : (ran : List LineRan) (left : List (List Op)) (line : LineRan) → Contains ran line
    → Contains (lines_of ran ++ left) line.ops
ops_in [] left line has = absurd (in_none line has)
ops_in (x ∷ ran) left line has = elim (in_cases line x ran has) [
  | inl same ↦ subst (λ (y : LineRan). Contains (x.ops ∷ (lines_of ran ++ left)) y.ops) same
      (in_head x.ops (lines_of ran ++ left))
  | inr later ↦ in_tail line.ops x.ops (lines_of ran ++ left) (ops_in ran left line later)
]

row_lost : (tries : ℕ) (v : View) (ran : List LineRan) (w : View) → AreInARow tries v ran w → (line : LineRan)
    → Contains ran line → AllByRecursion (IsLostOf v.layout line.ops) line.refused
row_lost tries v [] w row line has = absurd (in_none line has)
row_lost tries v (x ∷ ran) w row line has = elim (in_cases line x ran has) [
  | inl same ↦ subst (λ (y : LineRan). AllByRecursion (IsLostOf v.layout y.ops) y.refused) same
      (subst (λ (l : Layout). AllByRecursion (IsLostOf l x.ops) x.refused) row.0.layout
      (line_lost tries x.ops x.outcome x.refused x.logged x.before x.after row.1))
  | inr later ↦
      let kept = line_keeps tries x.ops x.outcome x.refused x.logged x.before x.after row.1 in
      subst (λ (l : Layout). AllByRecursion (IsLostOf l line.ops) line.refused) (kept.layout ∙ row.0.layout)
      (row_lost tries x.after ran w row.2 line later)
]

part_at : (tries : ℕ) (was ended : View) (first : ℕ) (parts : List Part) (i : ℕ) (p : Part)
    → AreParts tries was ended first parts → slice_get parts i ≡ Some p → IsPart tries was ended (first + i) p
part_at tries was ended first [] i p are there = absurd cc
part_at tries was ended first (x ∷ parts) zero p are there =
    let same : x ≡ p = cc in
    let here : first ≡ first + 0 = omega arith in
    subst (λ n. IsPart tries was ended n p) here (subst (IsPart tries was ended first) same are.0)
part_at tries was ended first (x ∷ parts) (suc i) p are there =
    let later : (first + 1) + i ≡ first + suc i = omega arith in
    subst (λ n. IsPart tries was ended n p) later (part_at tries was ended (first + 1) parts i p are.1 there)

share_there : (parts : List Part) (i : ℕ) (p : Part) → slice_get parts i ≡ Some p
    → slice_get (map (λ (share : Share). share.lines) (shares_of parts)) i ≡ Some (lines_of p.ran ++ p.left)
share_there [] i p there = absurd cc
share_there (x ∷ parts) zero p there =
    let same : x ≡ p = cc in ap (λ (y : Part). Some (lines_of y.ran ++ y.left)) same
share_there (x ∷ parts) (suc i) p there = share_there parts i p there

-- ---- all parts

module _ (tries : ℕ) (was now : View) (parts : List Part) (r : IsRound tries was now parts) where
  abbrev lines_all : List (List (List Op))
  lines_all = map (λ (share : Share). share.lines) (shares_of parts)

  -- pages were dropped
  abbrev dropped : Type 0
  dropped = now.drops ≡ was.drops → ⊥

  now_drops : now.drops ≡ r.ended.drops
  now_drops = ap (λ (v : View). v.drops) r.audited.2.is ∙ ap (λ (v : View). v.drops) r.audited.1.is

  blamed_all : AreBlamed (λ q k. Contains r.ended.touched (touch q k)) r.ended.blamed
  blamed_all b has =
      let o = r.audited.2.blamed (ap (λ (v : View). v.role) r.audited.1.is ∙ r.role)
      (ap (λ (v : View). v.made) r.audited.1.is ∙ r.made) b
      (subst (λ (l : List Touch). Contains l b) (sym (ap (λ (v : View). v.blamed) r.audited.1.is)) has) in
      record {
        by = o.by;
        apart = o.apart;
        taken = subst (λ (l : List Touch). Contains l (touch o.by b.key))
            (ap (λ (v : View). v.touched) r.audited.1.is) o.taken;
      }

  -- a line that locked the record of an array's key may write it
  written_in : (by : ℕ) (p : Part) → slice_get parts by ≡ Some p → {t : Touch} → (x : IsTakenBy (suc by) p.ran t)
      → is_array was.layout.decls t.key.storage ≡ true → IsWrittenBy x.line.ops t.key
  written_in by p there {t} x array =
      let part = part_at tries was r.ended 0 parts by p r.parts_are there in
      let same : x.line.before.layout ≡ was.layout =
      row_before tries p.from p.ran p.to part.row x.line x.among ∙ part.seated.layout in
      elim x.written [
        | inl own ↦ own
        | inr tree ↦ absurd (one_kind (decl_of was.layout.decls t.key.storage) array
            (subst (λ (l : Layout). is_tree l.decls t.key.storage ≡ true) same tree.0))
      ]

  lost_met : (worker : ℕ) (p : Part) → slice_get parts worker ≡ Some p → (line : LineRan) → Contains p.ran line
      → (lost : Lost) → Contains line.refused lost → IsLostOf was.layout line.ops lost
      → IsMet was.layout.decls lines_all dropped worker line.ops (try_refusal lost)
  lost_met worker p at line among (ToClock clock) has of = tt
  lost_met worker p at line among (ToSlots words) has of = (of.0, line_changes line.ops of.0 of.1)
  lost_met worker p at line among (ToSet set) has of = can_fill was.layout.decls line.ops set of
  lost_met worker p at line among (ToOther clash) has of =
      by_spot clash.spot refl of.1
    where
      by_line : r.ended.drops ≡ was.drops → (k : Key) → clash.spot ≡ OfRecord k → IsKeyOf line.ops k
          → IsMetBy lines_all worker line.ops k
      by_line same k met key =
          let b : Touch = touch (suc worker) k in
          let here : Contains (blame_of (suc worker) (ToOther clash)) b =
          subst (λ (s : Spot). Contains (blame_at (suc worker) s) b) (sym met) (in_head b []) in
          let o = blamed_all b (r.blamed worker p at b (blame_in (suc worker) k (refused_of p.ran) (ToOther clash)
          (refused_in p.ran line (ToOther clash) among has) here)) in
          let x = r.touched same (touch o.by k) o.taken in
          let word = subst (λ (s : Spot). IsWordAt was.layout s clash.why) met of.2 in
          let array = array_of was.layout k clash.why word in
          let own : o.by ≡ suc x.0 = x.3.own in
          record {
            key = line_touches line.ops k key;
            by = x.0;
            other = λ is. o.apart (own ∙ ap suc is);
            changer = record {
              mine = lines_of x.1.ran ++ x.1.left;
              at = share_there parts x.0 x.1 x.2;
              ops = x.3.line.ops;
              among = ops_in x.1.ran x.1.left x.3.line x.3.among;
              changes = line_changes x.3.line.ops k (written_in x.0 x.1 x.2 x.3 array);
            };
          }

      at_key : (k : Key) → clash.spot ≡ OfRecord k → IsKeyOf line.ops k
          → IsMetAt lines_all dropped worker line.ops (AtRecord k)
      at_key k met key = elim (grown was.drops r.ended.drops r.drops) [
        | inl same ↦ inl (by_line same k met key)
        | inr more ↦ inr (
          line_touches line.ops k key,
          λ none.
              let long : length r.ended.drops ≡ length was.drops =
              ap (λ (l : List Dropped). length l) (sym now_drops ∙ none) in omega (arith, more, long),
        )
      ]

      at_spot : (spot : Spot) → clash.spot ≡ spot → IsMetOf line.ops spot
          → IsMetAt lines_all dropped worker line.ops (where_of spot)
      at_spot (OfRecord k) is key = at_key k is key
      at_spot (OfWay k) is key = line_touches line.ops k key
      at_spot (OfLeaf k) is key = line_touches line.ops k key
      at_spot OfSlot is may = (may.0, line_changes line.ops may.0 may.1)

      by_spot : (spot : Spot) → clash.spot ≡ spot → IsMetOf line.ops clash.spot
          → IsMetAt lines_all dropped worker line.ops (where_of clash.spot)
      by_spot spot is key =
          subst (λ (s : Spot). IsMetAt lines_all dropped worker line.ops (where_of s)) (sym is)
          (at_spot spot is (subst (IsMetOf line.ops) is key))

  line_met : (worker : ℕ) (p : Part) → slice_get parts worker ≡ Some p → (line : LineRan) → Contains p.ran line
      → (losts : List Lost) → ((lost : Lost) → Contains losts lost → Contains line.refused lost)
      → AllByRecursion (IsLostOf was.layout line.ops) losts
      → AllByRecursion (IsMet was.layout.decls lines_all dropped worker line.ops) (map try_refusal losts)
  line_met worker p at line among [] within of = tt
  line_met worker p at line among (lost ∷ losts) within of = (
    lost_met worker p at line among lost (within lost (in_head lost losts)) of.0,
    line_met worker p at line among losts (λ x has. within x (in_tail x lost losts has)) of.1,
  )

  left_met : (worker : ℕ) (left : List (List Op)) → LinesMet was.layout.decls lines_all dropped worker left (no_tries left)
  left_met worker [] = tt
  left_met worker (ops ∷ left) = (tt, left_met worker left)

  lines_met : (worker : ℕ) (p : Part) → slice_get parts worker ≡ Some p → (ran : List LineRan)
      → ((line : LineRan) → Contains ran line → Contains p.ran line) → (left : List (List Op))
      → LinesMet was.layout.decls lines_all dropped worker (lines_of ran ++ left) (tries_of ran ++ no_tries left)
  lines_met worker p at [] within left = left_met worker left
  lines_met worker p at (line ∷ ran) within left =
      let among = within line (in_head line ran) in
      let part = part_at tries was r.ended 0 parts worker p r.parts_are at in (
        line_met worker p at line among line.refused (λ lost has. has)
            (subst (λ (l : Layout). AllByRecursion (IsLostOf l line.ops) line.refused) part.seated.layout
            (row_lost tries p.from p.ran p.to part.row line among)),
        lines_met worker p at ran (λ x has. within x (in_tail x line ran has)) left,
      )

  workers_met : (first : ℕ) (rest : List Part)
      → ((i : ℕ) (p : Part) → slice_get rest i ≡ Some p → slice_get parts (first + i) ≡ Some p)
      → WorkersMet was.layout.decls lines_all dropped first (map (λ (share : Share). share.lines) (shares_of rest))
      (map (λ (share : Share). share.tries_refused) (shares_of rest))
  workers_met first [] there = tt
  workers_met first (p ∷ rest) there =
      let here : first + 0 ≡ first = omega arith in (
        lines_met first p (ap (λ n. slice_get parts n) (sym here) ∙ there 0 p refl) p.ran (λ line has. has) p.left,
        workers_met (first + 1) rest (λ i q is.
            let later : (first + 1) + i ≡ first + suc i = omega arith in
            ap (λ n. slice_get parts n) later ∙ there (suc i) q is),
      )

  pub all_met : WorkersMet was.layout.decls lines_all dropped 0 lines_all (map (λ (share : Share). share.tries_refused) (shares_of parts))
  all_met = workers_met 0 parts (λ i p is. let same : 0 + i ≡ i = omega arith in ap (λ n. slice_get parts n) same ∙ is)
