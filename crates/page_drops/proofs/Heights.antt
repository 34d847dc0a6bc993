-- A pointer on the way down leads to no slot on the way: the pages there are of other heights.
use Rattle.std.proofs.Common.{◌≡◌, ◌≢◌, inl, inr, ℕ, zero, suc, ◌+◌, ◌-◌, ◌*◌, ◌<◌, ◌≤◌, Bool, true, false, true≢false, eqb, eqb-true}
use Rattle.std.proofs.Common.{List, [], ◌∷◌, sym, ap, ◌∙◌, subst, arith}
use Rattle.std.proofs.lemmas.Bool.{cases_Bool, or_cases}
use Rattle.std.proofs.lemmas.Bool.Decides.{nat_tests}
use Rattle.std.specs.List.{Contains}
use Rattle.lists.specs.Elements.{in_cases, in_head, in_none, in_tail}
use Rattle.serial_model.specs.declared.decl.Decl.{Decl}
use Rattle.homes.specs.declared.places.Span.{Span}
use Rattle.snapshot_store.specs.ArrayPages.{indexes_at, last_at}
use Rattle.drop_core.specs.Table.{has_slot}
use Rattle.engine_pages.specs.declared.view.Way.{Way}
use Rattle.engine_pages.specs.Pages.{child_size, child_span, is_leaf_span}
use Rattle.engine_pages.specs.Pointers.{WaysAgree, ways_if}
use Rattle.engine_pages.proofs.Seats.{by_equal}
use Rattle.page_drops.specs.Calls.{IsWayDown, slots_on}

-- ---- how many indexes a page has

pub indexes_some : (height : ℕ) → 0 < indexes_at height
indexes_some zero = omega arith
indexes_some (suc height) = let some = indexes_some height in omega (arith, some)

indexes_grow : (height : ℕ) → indexes_at height < indexes_at (suc height)
indexes_grow height = let some = indexes_some height in omega (arith, some)

pub indexes_less : (a b : ℕ) → a < b → indexes_at a < indexes_at b
indexes_less a zero less = absurd (omega (arith, less))
indexes_less a (suc b) less =
    by_equal a b (λ i. i < suc b → indexes_at i < indexes_at (suc b)) (λ _. indexes_grow b)
    (λ other few.
    let low = indexes_less a b (omega (arith, other, few)) in let grow = indexes_grow b in omega (arith, low, grow)) less

-- a leaf's keys, and those of a page above leaves
pub leaf_low : (sp : Span) → sp.high ≡ sp.low + last_at 0 → is_leaf_span sp ≡ true
leaf_low sp exact = let near : sp.high < sp.low + 32 = omega (arith, exact) in grind (arith, nat_tests)

pub leaf_high : (sp : Span) (height : ℕ) → sp.high ≡ sp.low + last_at (suc height) → is_leaf_span sp ≡ false
leaf_high sp height exact =
    let some = indexes_some height in
    let far : sp.low + 32 ≤ sp.high = omega (arith, exact, some) in grind (arith, nat_tests)

pub size_is : (sp : Span) (height : ℕ) → sp.high ≡ sp.low + last_at (suc height) → child_size sp ≡ indexes_at height
size_is sp height exact = let some = indexes_some height in omega (arith, exact, some)

-- ---- pages of two heights are laid out in two ways

other_heights : (a b : Span) (h height : ℕ) → height < h → a.high ≡ a.low + last_at h → b.high ≡ b.low + last_at height
    → a.low ≡ b.low → is_leaf_span a ≡ is_leaf_span b
    → (is_leaf_span a ≡ false → (j : ℕ) → j < 64 → child_span a j ≡ child_span b j) → ⊥
other_heights a b zero height less above below low kind children = omega (arith, less)
other_heights a b (suc h) zero less above below low kind children =
    true≢false (sym (leaf_low b below) ∙ (sym kind ∙ leaf_high a h above))
other_heights a b (suc h) (suc height) less above below low kind children =
    let same = children (leaf_high a h above) 0 (omega arith) in
    let ends : (a.low + 0 * child_size a) + (child_size a - 1) ≡ (b.low + 0 * child_size b) + (child_size b - 1) =
    ap (λ (z : Span). z.high) same in
    let one = size_is a h above in
    let two = size_is b height below in
    let some = indexes_some height in
    let more = indexes_less height h (omega (arith, less)) in
    omega (arith, ends, one, two, some, more, low)

-- ---- on the way

pub held_way : (ways : List Way) (t : ℕ) → has_slot (slots_on ways) t ≡ true → (a : Way) × Contains ways a × (a.slot ≡ t)
held_way [] t has = absurd (true≢false (sym has))
held_way (way ∷ path) t has =
    elim (or_cases (eqb way.slot t) (has_slot (slots_on path) t) has) [
      | inl same ↦ (way, in_head way path, eqb-true way.slot t same)
      | inr more ↦ let r = held_way path t more in (r.0, in_tail r.0 way path r.1, r.2)
    ]

below_way : (decls : List Decl) (height : ℕ) (ways : List Way) (a : Way) → IsWayDown decls height ways → Contains ways a
    → (h : ℕ) × (height < h) × (a.span.high ≡ a.span.low + last_at h)
below_way decls height [] a down has = absurd (in_none a has)
below_way decls height (way ∷ path) a down has =
    elim (in_cases a way path has) [
      | inl same ↦
          (suc height, omega arith, subst (λ (z : Way). z.span.high ≡ z.span.low + last_at (suc height)) same (down.0).exact)
      | inr more ↦
          let r = below_way decls (suc height) path a down.1 more in
          let less = r.1 in (r.0, omega (arith, less), r.2)
    ]

-- so a slot to which the pointer leads isn't on the way
pub unheld : (height t : ℕ) (sp : Span) (decls : List Decl) (holds : List ℕ) (ways : List Way) → IsWayDown decls height ways
    → sp.high ≡ sp.low + last_at height → (has_slot holds t ≡ true → has_slot (slots_on ways) t ≡ true)
    → WaysAgree (ways_if (has_slot holds t) t sp ways) → has_slot holds t ≡ false
unheld height t sp decls holds ways down exact on agree =
    elim (cases_Bool (has_slot holds t)) [
      | inl held ↦
          let own : Way = record { slot = t; span = sp } in
          let all : WaysAgree (own ∷ ways) = subst (λ (b : Bool). WaysAgree (ways_if b t sp ways)) held agree in
          let way = held_way ways t (on held) in
          let high = below_way decls height ways way.0 down way.1 in
          let same = all way.0 own (in_tail way.0 own ways way.1) (in_head own ways) way.2 in
          absurd (other_heights (way.0).span sp high.0 height high.1 high.2 exact same.1 same.2 same.3)
      | inr not-held ↦ not-held
    ]
