-- An interior page whose pointers are those of a snapshot page of a tree may stand for it: the tests of an install.
use Rattle.std.proofs.Common.{◌≡◌, inl, inr, ℕ, zero, suc, ◌+◌, ◌-◌, ◌<◌, ◌≤◌, Bool, true, false, true≢false, cond}
use Rattle.std.proofs.Common.{eqb, eqb-true, eq-eqb, ltb, leb, not, List, [], ◌∷◌, length, refl, sym, ap, ◌∙◌, subst, arith}
use Rattle.std.proofs.Common.{Some, None}
use Rattle.std.specs.Prelude.{◌&&◌, ◌||◌, is_none}
use Rattle.std.specs.List.{slice_get}
use Rattle.std.specs.Option.{option_map_or}
use Rattle.std.proofs.lemmas.Bool.{and_from, and_parts, cases_Bool}
use Rattle.std.proofs.lemmas.Bool.Decides.{nat_tests}
use Rattle.serial_model.specs.declared.key.Key.{Key}
use Rattle.homes.specs.declared.places.Holder.TheVariants.{Free}
use Rattle.homes.specs.declared.places.Home.{Home}
use Rattle.homes.specs.declared.places.Span.{Span}
use Rattle.homes.specs.Homes.{in_span, is_free, same_home, same_span}
use Rattle.drop_core.specs.declared.table.Pointer.{Pointer}
use Rattle.drop_core.specs.declared.table.SnapPage.TheVariants.{Missing, Children}
use Rattle.drop_core.specs.declared.table.Table.{Table}
use Rattle.drop_core.specs.Event.{all_below, begins, child, has_children, is_child_at, is_first_part, is_inner_for}
use Rattle.drop_core.specs.Event.{is_next_part, is_same_at, is_same_child, is_tile, keys_pass, leads_down, tile, tile_after}
use Rattle.drop_core.specs.Table.{child_of, snap_home, snap_of}
use Rattle.dual_pointer.proofs.InnerStands.{below, home-self, home_below}
use Rattle.dual_pointer.proofs.Moves.{pass_all}

-- ---- children that tile a span

-- a child is of the span's storage, over some keys
record IsPart (sp : Span) (e : Span × ℕ) : Type 0 where
  storage : (e.0).storage ≡ sp.storage
  some : (e.0).low ≤ (e.0).high

next_part : (sp : Span) (high : ℕ) (z : Span) → is_next_part sp high z ≡ true
    → (z.storage ≡ sp.storage) × (z.low ≤ z.high) × (z.low ≡ high + 1)
next_part sp high z is =
    let one = and_parts (eqb z.storage sp.storage) _ is in
    let two = and_parts (leb z.low z.high) _ one.1 in
    let three = and_parts (ltb high z.low) (eqb (z.low - high) 1) two.1 in
    let less : high < z.low = let a = three.0 in grind (arith, nat_tests) in
    let one-more : z.low - high ≡ 1 = eqb-true (z.low - high) 1 three.1 in
    let some : z.low ≤ z.high = let a = two.0 in grind (arith, nat_tests) in
    (eqb-true z.storage sp.storage one.0, some, (omega (arith, less, one-more)))

-- each child behind others begins behind their end
after_part : (sp : Span) (high : ℕ) (kids : List (Span × ℕ)) (j : ℕ) (e : Span × ℕ) → tile_after sp high kids ≡ true
    → slice_get kids j ≡ Some e → IsPart sp e × (high < (e.0).low)
after_part sp high [] j e tiles is = absurd (cc)
after_part sp high (z ∷ kids) zero e tiles is =
    let parts = and_parts (is_next_part sp high z.0) (tile_after sp (z.0).high kids) tiles in
    let next = next_part sp high z.0 parts.0 in
    let same : z ≡ e = cc in
    let low = next.2 in
    subst (λ (y : Span × ℕ). IsPart sp y × (high < (y.0).low)) same (
      record { storage = next.0; some = next.1 },
      omega (arith, low),
    )
after_part sp high (z ∷ kids) (suc j) e tiles is =
    let parts = and_parts (is_next_part sp high z.0) (tile_after sp (z.0).high kids) tiles in
    let next = next_part sp high z.0 parts.0 in
    let rest = after_part sp (z.0).high kids j e parts.1 is in
    let low = next.2 in
    let some = next.1 in
    let more = rest.1 in (rest.0, omega (arith, low, some, more))

-- each child begins right behind the one before it
step_part : (sp : Span) (high : ℕ) (kids : List (Span × ℕ)) (j : ℕ) (a e : Span × ℕ) → tile_after sp high kids ≡ true
    → slice_get kids j ≡ Some a → slice_get kids (suc j) ≡ Some e → (e.0).low ≡ (a.0).high + 1
step_part sp high [] j a e tiles first next = absurd (cc)
step_part sp high (z ∷ []) zero a e tiles first next = absurd (cc)
step_part sp high (z ∷ y ∷ kids) zero a e tiles first next =
    let parts = and_parts (is_next_part sp high z.0) (tile_after sp (z.0).high (y ∷ kids)) tiles in
    let more = and_parts (is_next_part sp (z.0).high y.0) (tile_after sp (y.0).high kids) parts.1 in
    let one : z ≡ a = cc in
    let two : y ≡ e = cc in
    let low = (next_part sp (z.0).high y.0 more.0).2 in
    ap (λ (x : Span × ℕ). (x.0).low) (sym two) ∙ (low ∙ ap (λ (x : Span × ℕ). (x.0).high + 1) one)
step_part sp high (z ∷ kids) (suc j) a e tiles first next =
    let parts = and_parts (is_next_part sp high z.0) (tile_after sp (z.0).high kids) tiles in
    step_part sp (z.0).high kids j a e parts.1 first next

-- the last one ends with the span
last_part : (sp : Span) (high : ℕ) (kids : List (Span × ℕ)) (j : ℕ) (e : Span × ℕ) → tile_after sp high kids ≡ true
    → slice_get kids j ≡ Some e → j + 1 ≡ length kids → (e.0).high ≡ sp.high
last_part sp high [] j e tiles is last = absurd (cc)
last_part sp high (z ∷ []) zero e tiles is last =
    let parts = and_parts (is_next_part sp high z.0) (tile_after sp (z.0).high []) tiles in
    let same : z ≡ e = cc in
    ap (λ (x : Span × ℕ). (x.0).high) (sym same) ∙ eqb-true (z.0).high sp.high parts.1
last_part sp high (z ∷ y ∷ kids) zero e tiles is last = absurd (omega arith)
last_part sp high (z ∷ kids) (suc j) e tiles is last =
    let parts = and_parts (is_next_part sp high z.0) (tile_after sp (z.0).high kids) tiles in
    last_part sp (z.0).high kids j e parts.1 is (omega arith)

-- The children of a span, as tests of pages see them.
record AreParts (sp : Span) (kids : List (Span × ℕ)) : Type 0 where
  part : (j : ℕ) (e : Span × ℕ) → slice_get kids j ≡ Some e → IsPart sp e
  first : (e : Span × ℕ) → slice_get kids 0 ≡ Some e → (e.0).low ≡ sp.low
  step : (j : ℕ) (a e : Span × ℕ) → slice_get kids j ≡ Some a → slice_get kids (suc j) ≡ Some e
      → (e.0).low ≡ (a.0).high + 1
  last : (j : ℕ) (e : Span × ℕ) → slice_get kids j ≡ Some e → j + 1 ≡ length kids → (e.0).high ≡ sp.high
  of : (j : ℕ) (e : Span × ℕ) (k : Key) → slice_get kids j ≡ Some e → in_span e.0 k ≡ true → child_of kids k ≡ e.1

-- a key of a span that ends before another one isn't in that
apart_span : (a c : Span) (k : Key) → a.high < c.low → in_span c k ≡ true → in_span a k ≡ false
apart_span a c k less within =
    let one = and_parts (eqb k.storage c.storage) (leb c.low k.key && leb k.key c.high) within in
    let low = (and_parts (leb c.low k.key) (leb k.key c.high) one.1).0 in
    let above : leb k.key a.high ≡ false = let from : c.low ≤ k.key = (grind (arith, nat_tests)) in no_less k.key a.high (omega (arith, from, less)) in
    ap (λ (x : Bool). eqb k.storage a.storage && (leb a.low k.key && x)) above
    ∙ (ap (λ (x : Bool). eqb k.storage a.storage && x) (and_no (leb a.low k.key)) ∙ and_no (eqb k.storage a.storage))
  where
    and_no : (x : Bool) → (x && false) ≡ false
    and_no true = refl
    and_no false = refl

    no_less : (a c : ℕ) → c < a → leb a c ≡ false
    no_less a c less = grind (arith, nat_tests)

child_after : (sp : Span) (high : ℕ) (kids : List (Span × ℕ)) (j : ℕ) (e : Span × ℕ) (k : Key)
    → tile_after sp high kids ≡ true → slice_get kids j ≡ Some e → in_span e.0 k ≡ true → child_of kids k ≡ e.1
child_after sp high [] j e k tiles is within = absurd (cc)
child_after sp high (z ∷ kids) zero e k tiles is within =
    let same : z ≡ e = cc in
    ap (λ (x : Span × ℕ). cond (in_span x.0 k) x.1 (child_of kids k)) same
    ∙ ap (λ (c : Bool). cond c e.1 (child_of kids k)) within
child_after sp high (z ∷ kids) (suc j) e k tiles is within =
    let parts = and_parts (is_next_part sp high z.0) (tile_after sp (z.0).high kids) tiles in
    let far = after_part sp (z.0).high kids j e parts.1 is in
    ap (λ (c : Bool). cond c z.1 (child_of kids k)) (apart_span z.0 e.0 k far.1 within)
    ∙ child_after sp (z.0).high kids j e k parts.1 is within

are_parts : (sp : Span) (kids : List (Span × ℕ)) → tile sp kids ≡ true → AreParts sp kids
are_parts sp [] tiles = absurd (true≢false (sym tiles))
are_parts sp (z ∷ kids) tiles =
    let parts = and_parts (is_first_part sp z.0) (tile_after sp (z.0).high kids) tiles in
    let one = and_parts (eqb (z.0).storage sp.storage) _ parts.0 in
    let two = and_parts (eqb (z.0).low sp.low) (leb (z.0).low (z.0).high) one.1 in
    let storage : (z.0).storage ≡ sp.storage = eqb-true (z.0).storage sp.storage one.0 in
    let low : (z.0).low ≡ sp.low = eqb-true (z.0).low sp.low two.0 in
    let some : (z.0).low ≤ (z.0).high = let a = two.1 in grind (arith, nat_tests) in record {
      part = part storage some parts.1;
      first = λ e is. let same : z ≡ e = cc in ap (λ (x : Span × ℕ). (x.0).low) (sym same) ∙ low;
      step = step kids parts.1;
      last = last kids parts.1;
      of = of parts.1;
    }
  where
    part : (z.0).storage ≡ sp.storage → (z.0).low ≤ (z.0).high → tile_after sp (z.0).high kids ≡ true → (j : ℕ)
        (e : Span × ℕ) → slice_get (z ∷ kids) j ≡ Some e → IsPart sp e
    part storage some tiles zero e is =
        let same : z ≡ e = cc in
        subst (λ (y : Span × ℕ). IsPart sp y) same record { storage = storage; some = some }
    part storage some tiles (suc j) e is = (after_part sp (z.0).high kids j e tiles is).0

    step : (kids : List (Span × ℕ)) → tile_after sp (z.0).high kids ≡ true → (j : ℕ) (a e : Span × ℕ)
        → slice_get (z ∷ kids) j ≡ Some a → slice_get (z ∷ kids) (suc j) ≡ Some e → (e.0).low ≡ (a.0).high + 1
    step [] tiles zero a e first next = absurd (cc)
    step (y ∷ kids) tiles zero a e first next =
        let more = and_parts (is_next_part sp (z.0).high y.0) (tile_after sp (y.0).high kids) tiles in
        let one : z ≡ a = cc in
        let two : y ≡ e = cc in
        let low = (next_part sp (z.0).high y.0 more.0).2 in
        ap (λ (x : Span × ℕ). (x.0).low) (sym two) ∙ (low ∙ ap (λ (x : Span × ℕ). (x.0).high + 1) one)
    step kids tiles (suc j) a e first next = step_part sp (z.0).high kids j a e tiles first next

    last : (kids : List (Span × ℕ)) → tile_after sp (z.0).high kids ≡ true → (j : ℕ) (e : Span × ℕ)
        → slice_get (z ∷ kids) j ≡ Some e → j + 1 ≡ length (z ∷ kids) → (e.0).high ≡ sp.high
    last [] tiles zero e is end =
        let same : z ≡ e = cc in ap (λ (x : Span × ℕ). (x.0).high) (sym same) ∙ eqb-true (z.0).high sp.high tiles
    last (y ∷ kids) tiles zero e is end = absurd (omega arith)
    last kids tiles (suc j) e is end = last_part sp (z.0).high kids j e tiles is (omega arith)

    of : tile_after sp (z.0).high kids ≡ true → (j : ℕ) (e : Span × ℕ) (k : Key) → slice_get (z ∷ kids) j ≡ Some e
        → in_span e.0 k ≡ true → child_of (z ∷ kids) k ≡ e.1
    of tiles zero e k is within =
        let same : z ≡ e = cc in
        ap (λ (x : Span × ℕ). cond (in_span x.0 k) x.1 (child_of kids k)) same
        ∙ ap (λ (c : Bool). cond c e.1 (child_of kids k)) within
    of tiles (suc j) e k is within =
        let far = after_part sp (z.0).high kids j e tiles is in
        ap (λ (c : Bool). cond c z.1 (child_of kids k)) (apart_span z.0 e.0 k far.1 within)
        ∙ child_after sp (z.0).high kids j e k tiles is within

-- ---- the tests

-- The pointers of slot t are those of page n, which has these children.
pub record AreChildrenOf (d : Table) (t : ℕ) (sp : Span) (n : ℕ) (kids : List (Span × ℕ)) : Type 0 where
  pub some : 0 < length kids
  pub past : n ≤ d.published
  pub page : snap_of d n ≡ Children sp kids
  pub tiles : tile sp kids ≡ true
  pub low : (j : ℕ) (e : Span × ℕ) → slice_get kids j ≡ Some e → e.1 ≤ d.published
  pub is : (j : ℕ) (e : Span × ℕ) → slice_get kids j ≡ Some e
      → child d t j ≡ record { span = e.0; slot = None; page = e.1; holder = Free }

module _ (d : Table) (zero-is : snap_of d 0 ≡ Missing)
    (down : (i : ℕ) → 0 < i → i ≤ d.published → leads_down i (snap_of d i) ≡ true) (t : ℕ) (sp : Span) (n : ℕ)
    (kids : List (Span × ℕ)) (c : AreChildrenOf d t sp n kids) where
  parts : AreParts sp kids
  parts = are_parts sp kids c.tiles

  -- the child with an index
  at_child : (j : ℕ) → j < length kids → (e : Span × ℕ) × (slice_get kids j ≡ Some e)
  at_child j less = there_is kids j less
    where
      there_is : (list : List (Span × ℕ)) (j : ℕ) → j < length list → (e : Span × ℕ) × (slice_get list j ≡ Some e)
      there_is [] j less = absurd (omega arith)
      there_is (z ∷ list) zero less = (z, refl)
      there_is (z ∷ list) (suc j) less = there_is list j (omega arith)

  -- a key of a child has one home by both pages
  homes_same : (j : ℕ) (e : Span × ℕ) (k : Key) → slice_get kids j ≡ Some e → in_span e.0 k ≡ true
      → snap_home d e.1 k ≡ snap_home d n k
  homes_same j e k is within =
      sym (home_below d zero-is down k n sp kids c.past c.page ∙ ap (λ i. snap_home d i k) (parts.of j e k is within))

  or_yes : (x : Bool) → (x || true) ≡ true
  or_yes true = refl
  or_yes false = refl

  same_child : (j : ℕ) → j < length kids → is_same_child d t n j ≡ true
  same_child j less =
      let e = at_child j less in
      ap (λ (q : Pointer). is_none q.slot && keys_pass (is_same_at d q.span q.page n) d.snaps) (c.is j e.0 e.1)
      ∙ pass_all (is_same_at d (e.0).0 (e.0).1 n) (λ k. elim (cases_Bool (in_span (e.0).0 k)) [
        | inl within ↦
            ap (λ (h : Home). not (in_span (e.0).0 k) || same_home h (snap_home d n k)) (homes_same j e.0 k e.1 within)
            ∙ (ap (λ (x : Bool). not (in_span (e.0).0 k) || x) (home-self (snap_home d n k))
            ∙ or_yes (not (in_span (e.0).0 k)))
        | inr out ↦ ap (λ (x : Bool). not x || same_home (snap_home d (e.0).1 k) (snap_home d n k)) out
      ]) d.snaps

  begins_so : (j : ℕ) → j < length kids → begins d t sp j ≡ true
  begins_so zero less =
      let e = at_child 0 less in
      ap (λ (q : Pointer). eqb q.span.low sp.low) (c.is 0 e.0 e.1) ∙ eq-eqb ((e.0).0).low sp.low (parts.first e.0 e.1)
  begins_so (suc j) less =
      let a = at_child j (omega arith) in
      let e = at_child (suc j) less in
      let next = parts.step j a.0 e.0 a.1 e.1 in
      ap (λ (q : Pointer). ltb q.span.high (child d t (suc j)).span.low && eqb ((child d t (suc j)).span.low - q.span.high) 1) (c.is j a.0 a.1)
      ∙ (ap (λ (q : Pointer). ltb ((a.0).0).high q.span.low && eqb (q.span.low - ((a.0).0).high) 1) (c.is (suc j) e.0 e.1)
      ∙ and_from (ltb ((a.0).0).high ((e.0).0).low) (eqb (((e.0).0).low - ((a.0).0).high) 1)
      (below_so ((a.0).0).high ((e.0).0).low (omega (arith, next)))
      (eq-eqb (((e.0).0).low - ((a.0).0).high) 1 (omega (arith, next))))
    where
      below_so : (a c : ℕ) → a < c → ltb a c ≡ true
      below_so a c less = grind (arith, nat_tests)

  tile_so : (j : ℕ) → j < length kids → is_tile d t sp (length kids) j ≡ true
  tile_so j less =
      let e = at_child j less in
      let q = c.is j e.0 e.1 in
      let part = parts.part j e.0 e.1 in
      and_from (eqb (child d t j).span.storage sp.storage) _
      (ap (λ (z : Pointer). eqb z.span.storage sp.storage) q ∙ eq-eqb ((e.0).0).storage sp.storage part.storage)
      (and_from (leb (child d t j).span.low (child d t j).span.high) _
      (ap (λ (z : Pointer). leb z.span.low z.span.high) q ∙ (let some = part.some in at_most ((e.0).0).low ((e.0).0).high some))
      (and_from (begins d t sp j) _ (begins_so j less) (end j e.0 e.1 less)))
    where
      at_most : (a c : ℕ) → a ≤ c → leb a c ≡ true
      at_most a c less = grind (arith, nat_tests)

      last_so : (j n : ℕ) → j < n → ltb (j + 1) n ≡ false → j + 1 ≡ n
      last_so j n less late = grind (arith, nat_tests)

      end : (j : ℕ) (e : Span × ℕ) → slice_get kids j ≡ Some e → j < length kids
          → (ltb (j + 1) (length kids) || eqb (child d t j).span.high sp.high) ≡ true
      end j e is less = elim (cases_Bool (ltb (j + 1) (length kids))) [
        | inl early ↦ ap (λ (x : Bool). x || eqb (child d t j).span.high sp.high) early
        | inr late ↦
            ap (λ (x : Bool). x || eqb (child d t j).span.high sp.high) late
            ∙ (ap (λ (z : Pointer). eqb z.span.high sp.high) (c.is j e is)
            ∙ eq-eqb (e.0).high sp.high (parts.last j e is (last_so j (length kids) less late)))
      ]

  pub kids_stand : is_inner_for d t n sp (length kids) ≡ true
  kids_stand =
      let count = length kids in
      and_from (ltb 0 count) _ (let some = c.some in above_zero count some)
      (and_from (all_below count (is_tile d t sp count)) _ (below count (is_tile d t sp count) tile_so)
      (and_from (all_below count (is_same_child d t n)) _ (below count (is_same_child d t n) same_child)
      (and_from (all_below count (λ j. leb (child d t j).page d.published)) (all_below count (λ j. is_free (child d t j).holder))
      (below count (λ j. leb (child d t j).page d.published) (λ j less.
      let e = at_child j less in
      ap (λ (z : Pointer). leb z.page d.published) (c.is j e.0 e.1)
      ∙ (let low = c.low j e.0 e.1 in at_most (e.0).1 d.published low)))
      (below count (λ j. is_free (child d t j).holder) (λ j less.
      let e = at_child j less in ap (λ (z : Pointer). is_free z.holder) (c.is j e.0 e.1))))))
    where
      above_zero : (n : ℕ) → 0 < n → ltb 0 n ≡ true
      above_zero n some = grind (arith, nat_tests)

      at_most : (a c : ℕ) → a ≤ c → leb a c ≡ true
      at_most a c less = grind (arith, nat_tests)

  pub kids_like : has_children d t (length kids) (snap_of d n) ≡ true
  kids_like =
      ap (has_children d t (length kids)) c.page
      ∙ and_from (eqb (length kids) (length kids)) _ (eq-eqb (length kids) (length kids) refl)
      (below (length kids) (is_child_at d t kids) (λ j less.
      let e = at_child j less in
      ap (λ o. option_map_or (λ f. same_span (child d t j).span f.0 && eqb (child d t j).page f.1) o false) e.1
      ∙ (ap (λ (z : Pointer). same_span z.span (e.0).0 && eqb z.page (e.0).1) (c.is j e.0 e.1)
      ∙ and_from (same_span (e.0).0 (e.0).0) (eqb (e.0).1 (e.0).1) (span-self (e.0).0) (eq-eqb (e.0).1 (e.0).1 refl))))
    where
      span-self : (z : Span) → same_span z z ≡ true
      span-self z =
          and_from (eqb z.storage z.storage) _ (eq-eqb z.storage z.storage refl)
          (and_from (eqb z.low z.low) (eqb z.high z.high) (eq-eqb z.low z.low refl) (eq-eqb z.high z.high refl))
