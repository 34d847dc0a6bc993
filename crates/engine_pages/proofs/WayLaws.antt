-- Two ways into one slot are over the same keys: its page is laid out for them.
use Rattle.std.proofs.Common.{◌≡◌, ℕ, zero, suc, ◌+◌, ◌*◌, ◌<◌, Bool, true, false, true≢false, List, [], ◌∷◌, refl, sym, ap, ◌∙◌}
use Rattle.std.proofs.Common.{subst, arith, Option, Some, None}
use Rattle.std.specs.Prelude.{nat_lt}
use Rattle.std.proofs.lemmas.Bool.Decides.{nat_tests}
use Rattle.std.specs.List.{Contains}
use Rattle.serial_model.specs.declared.decl.Decl.{Decl}
use Rattle.serial_model.specs.declared.decl.Decl.TheVariants.{Array, Tree}
use Rattle.serial_model.specs.declared.key.Key.{Key}
use Rattle.homes.specs.declared.places.Span.{Span}
use Rattle.drop_core.specs.declared.table.Page.{Page}
use Rattle.drop_core.specs.declared.table.Page.TheVariants.{Leaf, Inner}
use Rattle.drop_core.specs.declared.table.Table.{Table}
use Rattle.drop_core.specs.Event.{leaf_keys}
use Rattle.drop_core.specs.Table.{has_pointer}
use Rattle.engine_pages.specs.declared.layout.Layout.{Layout}
use Rattle.engine_pages.specs.declared.view.Way.{Way}
use Rattle.engine_pages.specs.Pages.{Fenced, IsLaidOut, IsLaidOutFor, IsOver, child_size, child_span, decl_of}
use Rattle.engine_pages.specs.Pages.{is_leaf_span, keys_from, shape_of}
use Rattle.engine_pages.specs.Pointers.{WaysAgree}
use Rattle.engine_pages.specs.Rule.{IsWay}
use Rattle.engine_pages.proofs.PagesStay.{inner_shape, leaf_shape}

-- the first of some keys, or one that is none of an array's
abbrev first_key : List Key → Key
first_key [] = record { storage = 0; key = 0 }
first_key (k ∷ more) = k

first_from : (id low n : ℕ) → 0 < n → first_key (keys_from id low n) ≡ record { storage = id; key = low }
first_from id low zero some = absurd (omega arith)
first_from id low (suc n) some = refl

-- the same storage, from the same key on, of one kind of page, with the same parts
record AreAlike (x y : Span) : Type 0 where
  storage : x.storage ≡ y.storage
  low : x.low ≡ y.low
  leaf : is_leaf_span x ≡ is_leaf_span y
  children : is_leaf_span x ≡ false → (j : ℕ) → j < 64 → child_span x j ≡ child_span y j

-- an interior page has this pointer
has_child : (x : Span) (j : ℕ) → is_leaf_span x ≡ false → j < 64 → has_pointer (shape_of x) j ≡ true
has_child x j inner less =
    ap (λ (z : Page). has_pointer z j) (inner_shape x inner) ∙ (let test : nat_lt j 64 ≡ true = grind (arith, nat_tests) in test)

no_leaf : (keys : List Key) (n : ℕ) → Leaf keys ≡ Inner n → ⊥
no_leaf keys n e = absurd (cc)

over_agree : (d : Table) (t : ℕ) (x y : Span) → IsOver d t x → IsOver d t y → AreAlike x y
over_agree d t x y a b = by_kind (is_leaf_span x) refl (is_leaf_span y) refl
  where
    by_kind : (p : Bool) → is_leaf_span x ≡ p → (q : Bool) → is_leaf_span y ≡ q → AreAlike x y
    by_kind true one true two =
        let keys = sym (leaf_shape x one) ∙ (sym a.page ∙ (b.page ∙ leaf_shape y two)) in
        let first : first_key (keys_from x.storage x.low 32) ≡ first_key (keys_from y.storage y.low 32) =
        ap (λ (z : Page). first_key (leaf_keys z)) keys in
        let same = sym (first_from x.storage x.low 32 (omega arith)) ∙ (first ∙ first_from y.storage y.low 32 (omega arith)) in
        record {
          storage = ap (λ (k : Key). k.storage) same;
          low = ap (λ (k : Key). k.key) same;
          leaf = one ∙ sym two;
          children = λ inner j less. absurd (true≢false (sym one ∙ inner));
        }
    by_kind true one false two =
        absurd (no_leaf (keys_from x.storage x.low 32) 64
        (sym (leaf_shape x one) ∙ (sym a.page ∙ (b.page ∙ inner_shape y two))))
    by_kind false one true two =
        absurd (no_leaf (keys_from y.storage y.low 32) 64
        (sym (leaf_shape y two) ∙ (sym b.page ∙ (a.page ∙ inner_shape x one))))
    by_kind false one false two =
        let same : child_span x 0 ≡ child_span y 0 =
        sym (a.spans 0 (ap (λ (z : Page). has_pointer z 0) (inner_shape x one)))
        ∙ b.spans 0 (ap (λ (z : Page). has_pointer z 0) (inner_shape y two)) in
        let low : x.low + 0 * child_size x ≡ y.low + 0 * child_size y = ap (λ (z : Span). z.low) same in
        record {
          storage = ap (λ (z : Span). z.storage) same;
          low = omega arith;
          leaf = one ∙ sym two;
          children = λ inner j less. sym (a.spans j (has_child x j one less)) ∙ b.spans j (has_child y j two less);
        }

laid_agree : (o p : Option Decl) (k : ℕ → Option Fenced) (d : Table) (t : ℕ) (x y : Span) → IsLaidOut o k d t x
    → IsLaidOut p k d t y → AreAlike x y
laid_agree None p k d t x y a b = absurd a
laid_agree (Some (Array i m)) None k d t x y a b = absurd b
laid_agree (Some (Array i m)) (Some (Array j n)) k d t x y a b = over_agree d t x y a.1 b.1
laid_agree (Some (Array i m)) (Some (Tree j)) k d t x y a b =
    let no : None ≡ Some b.0 = sym a.0 ∙ b.1 in absurd (cc)
laid_agree (Some (Tree i)) None k d t x y a b = absurd b
laid_agree (Some (Tree i)) (Some (Array j n)) k d t x y a b =
    let no : None ≡ Some a.0 = sym b.0 ∙ a.1 in absurd (cc)
laid_agree (Some (Tree i)) (Some (Tree j)) k d t x y a b =
    let both : Some a.0 ≡ Some b.0 = sym a.1 ∙ b.1 in
    let same : a.0 ≡ b.0 = cc in
    let span : x ≡ y = sym a.2 ∙ (ap (λ (f : Fenced). f.span) same ∙ b.2) in record {
      storage = ap (λ (z : Span). z.storage) span;
      low = ap (λ (z : Span). z.low) span;
      leaf = ap (λ (z : Span). is_leaf_span z) span;
      children = λ inner j less. ap (λ (z : Span). child_span z j) span;
    }

pub ways_agree : (l : Layout) (d : Table) (trees : ℕ → Option Fenced) (holds : List ℕ) (ways : List Way)
    → ((z : Way) → Contains ways z → IsWay l d trees holds z) → WaysAgree ways
ways_agree l d trees holds ways each a b has there same =
    let one = subst (λ t. IsLaidOutFor l.decls trees d t a.span) same (each a has).over in
    let two = (each b there).over in
    let alike = laid_agree (decl_of l.decls a.span.storage) (decl_of l.decls b.span.storage) trees d b.slot a.span b.span one two in
    (alike.storage, alike.low, alike.leaf, alike.children)
