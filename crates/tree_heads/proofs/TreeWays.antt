-- Ways into pages of trees that a step adds: the halves of a split leaf.
use Rattle.std.proofs.Common.{◌≡◌, ◌⊎◌, inl, inr, ℕ, suc, Bool, true, false, List, refl, ap}
use Rattle.std.proofs.Common.{subst, Some}
use Rattle.std.specs.List.{Contains}
use Rattle.lists.specs.Elements.{in_cases, in_tail}
use Rattle.homes.specs.declared.places.Span.{Span}
use Rattle.drop_core.specs.Sound.{span_at}
use Rattle.drop_core.specs.Table.{at_index, has_slot, is_live, is_never, pointer_of}
use Rattle.engine_pages.specs.declared.layout.Layout.{Layout}
use Rattle.engine_pages.specs.declared.view.Role.TheVariants.{Worker}
use Rattle.engine_pages.specs.declared.view.View.{View}
use Rattle.engine_pages.specs.declared.view.Way.{Way}
use Rattle.engine_pages.specs.Pages.{IsLaidOutFor, decl_of, is_tree}
use Rattle.engine_pages.specs.Pointers.{WaysAgree, one_kind, ways_if}
use Rattle.engine_pages.specs.Rule.{Shared, IsWay}
use Rattle.engine_pages.specs.Touches.{IsFacing, Touched}
use Rattle.engine_pages.proofs.Dealing.{faces}
use Rattle.engine_pages.proofs.Facing.{facing_agree}
use Rattle.engine_pages.proofs.Turns.{Begins}

-- a way that is added is that one, if it is
pub ways_cases : (c : Bool) (q : ℕ) (part : Span) (ways : List Way) (z : Way) → Contains (ways_if c q part ways) z
    → ((c ≡ true) × (record { slot = q; span = part } ≡ z)) ⊎ Contains ways z
ways_cases false q part ways z has = inr has
ways_cases true q part ways z has = elim (in_cases z (record { slot = q; span = part }) ways has) [
  | inl new ↦ inl (refl, new)
  | inr old ↦ inr old
]

-- each that was there still is
pub ways_wide : (c : Bool) (q : ℕ) (part : Span) (ways : List Way) (z : Way) → Contains ways z
    → Contains (ways_if c q part ways) z
ways_wide true q part ways z has = in_tail z (record { slot = q; span = part }) ways has
ways_wide false q part ways z has = has

-- the halves of a split leaf, where they are held
abbrev pub twin_list : List ℕ → ℕ → Span → ℕ → Span → List Way → List Way
twin_list holds minor lower major upper ways =
    ways_if (has_slot holds minor) minor lower (ways_if (has_slot holds major) major upper ways)

pub twins_cases : (holds : List ℕ) (minor : ℕ) (lower : Span) (major : ℕ) (upper : Span) (ways : List Way) (z : Way)
    → Contains (twin_list holds minor lower major upper ways) z
    → ((has_slot holds minor ≡ true) × (record { slot = minor; span = lower } ≡ z))
    ⊎ (((has_slot holds major ≡ true) × (record { slot = major; span = upper } ≡ z)) ⊎ Contains ways z)
twins_cases holds minor lower major upper ways z has =
    elim (ways_cases (has_slot holds minor) minor lower (ways_if (has_slot holds major) major upper ways) z has) [
      | inl new ↦ inl new
      | inr more ↦ inr (ways_cases (has_slot holds major) major upper ways z more)
    ]

pub twins_wide : (holds : List ℕ) (minor : ℕ) (lower : Span) (major : ℕ) (upper : Span) (ways : List Way) (z : Way)
    → Contains ways z → Contains (twin_list holds minor lower major upper ways) z
twins_wide holds minor lower major upper ways z has =
    ways_wide (has_slot holds minor) minor lower (ways_if (has_slot holds major) major upper ways) z
    (ways_wide (has_slot holds major) major upper ways z has)

-- the page to which a live pointer leads, over the keys of a tree, where the pass holds its slot
pub half_way : (l : Layout) (words : List ℕ) (views : List View) (s : Shared) (id : ℕ) (v : View) (t j q : ℕ) (part : Span)
    → Begins l words views s id v → is_live s.table (at_index t j) ≡ true
    → (pointer_of s.table (at_index t j)).slot ≡ Some q → span_at s.table (at_index t j) ≡ part
    → has_slot v.grip.holds q ≡ true → IsWay l s.table s.trees v.grip.holds (record { slot = q; span = part })
half_way l words views s id v t j q part b live leads span held = record {
  within = b.pages.within q held;
  held = held;
  known = ap is_never (b.sound.joint.pages.table.holds_counted.back (at_index t j) q live leads);
  over = subst (λ (y : Span). IsLaidOutFor l.decls s.trees s.table q y) span (b.sound.laid_out (at_index t j) q live leads);
}

-- what a pass faces with more ways, that are into trees
pub faces_wide : (l : Layout) (words : List ℕ) (views : List View) (s : Shared) (id : ℕ) (v : View) (more : List Way)
    → Begins l words views s id v → ((z : Way) → Contains v.ways z → Contains more z) → WaysAgree more
    → ((z : Way) → Contains more z → Contains v.ways z ⊎ (is_tree l.decls z.span.storage ≡ true))
    → (worker : ℕ) → v.role ≡ Worker worker → IsFacing l words (Touched views) (suc worker) more v.took v.reads v.gone
faces_wide l words views s id v more b wide agree new worker role =
    let f = faces l words views s id v b worker role in
    facing_agree l words (Touched views) (suc worker) v.ways more v.took v.reads v.gone wide agree
    (λ k x at is high. elim (new is.way is.has) [
      | inl old ↦ f.locked k x at (record {
        way = is.way;
        has = old;
        slot = is.slot;
        there = is.there;
        kind = is.kind;
        leaf = is.leaf;
        index = is.index;
        key = is.key;
        word = is.word;
      }) high
      | inr tree ↦ absurd (one_kind (decl_of l.decls is.way.span.storage) is.kind tree)
    ]) f
