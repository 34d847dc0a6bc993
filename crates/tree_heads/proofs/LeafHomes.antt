-- Where the keys of a leaf have their homes, and what stands at a key that it has not.
use Rattle.std.proofs.Common.{◌≡◌, ℕ, suc, Bool, true, false, true≢false, List, [], ◌∷◌, cond, refl, sym, ap, ◌∙◌, subst, Some}
use Rattle.std.specs.Prelude.{◌||◌}
use Rattle.serial_model.specs.declared.key.Key.{Key}
use Rattle.homes.specs.declared.places.Home.TheVariants.{InSlot, Nowhere}
use Rattle.homes.specs.declared.places.Span.{Span}
use Rattle.homes.specs.Homes.{has_key, in_span, same_key}
use Rattle.commit_core.specs.Places.{home_of}
use Rattle.drop_core.specs.declared.table.Led.{Led}
use Rattle.drop_core.specs.declared.table.Led.TheVariants.{Never, From, Away}
use Rattle.drop_core.specs.declared.table.Page.TheVariants.{Leaf}
use Rattle.drop_core.specs.Sound.{span_at, IsLedSo, PageTies, TiesTo}
use Rattle.drop_core.specs.Table.{is_led, leaf_home, page_of, pointer_of, slot_of}
use Rattle.engine_pages.specs.declared.layout.Layout.{Layout}
use Rattle.engine_pages.specs.declared.view.View.{View}
use Rattle.engine_pages.specs.Pages.{Fenced, decl_of}
use Rattle.engine_pages.specs.Rule.{Shared}
use Rattle.engine_pages.proofs.Turns.{Begins}
use Rattle.tree_heads.proofs.TreeAt.{laid_span}

-- a key that isn't in a leaf has no home there
pub no_home : (t i : ℕ) (keys : List Key) (k : Key) → has_key keys k ≡ false → leaf_home t i keys k ≡ Nowhere
no_home t i [] k none = refl
no_home t i (q ∷ keys) k none = by_test (same_key q k) refl (no_home t (suc i) keys k)
  where
    by_test : (c : Bool) → same_key q k ≡ c → (has_key keys k ≡ false → leaf_home t (suc i) keys k ≡ Nowhere)
        → leaf_home t i (q ∷ keys) k ≡ Nowhere
    by_test true hit rest = absurd (true≢false (sym (ap (λ c. c || has_key keys k) hit) ∙ none))
    by_test false miss rest =
        ap (λ c. cond c (InSlot (record { slot = t; index = i })) (leaf_home t (suc i) keys k)) miss
        ∙ rest (sym (ap (λ c. c || has_key keys k) miss) ∙ none)

-- the homes of the keys of a leaf that something leads to
pub leaf_homes : (l : Layout) (words : List ℕ) (views : List View) (s : Shared) (id : ℕ) (v : View)
    → Begins l words views s id v → (t : ℕ) (f : Fenced) (keys : List Key) → s.trees t ≡ Some f
    → is_led (slot_of s.table t).led ≡ true → page_of s.table t ≡ Leaf keys → (k : Key) → in_span f.span k ≡ true
    → home_of s.story.homes k ≡ leaf_home t 0 keys k
leaf_homes l words views s id v b t f keys there led laid k inside = by_led (slot_of s.table t).led refl led
  where
    by_led : (g : Led) → (slot_of s.table t).led ≡ g → is_led g ≡ true → home_of s.story.homes k ≡ leaf_home t 0 keys k
    by_led Never is on = absurd (true≢false (sym on))
    by_led Away is on = absurd (true≢false (sym on))
    by_led (From x) is on =
        let m = s.story in
        let d = s.table in
        let so = subst (IsLedSo d t (slot_of d t).state) is (b.sound.joint.pages.table.holds_counted.led t) in
        let ties = b.sound.joint.pages.table.one_home_each.ties x so.1 in
        let down = subst (TiesTo (home_of m.homes) d (pointer_of d x).span (pointer_of d x).page) so.2 ties in
        let leaf = subst (PageTies (home_of m.homes) (span_at d) (pointer_of d x).span t) laid down in
        let span : (pointer_of d x).span ≡ f.span =
        laid_span (decl_of l.decls (span_at d x).storage) s.trees d t (span_at d x) f there (b.sound.laid_out x t so.1 so.2) in
        leaf.0 k (ap (λ (q : Span). in_span q k) span ∙ inside)

-- a key that the leaf has not has none
pub absent_home : (l : Layout) (words : List ℕ) (views : List View) (s : Shared) (id : ℕ) (v : View)
    → Begins l words views s id v → (t : ℕ) (f : Fenced) (keys : List Key) → s.trees t ≡ Some f
    → is_led (slot_of s.table t).led ≡ true → page_of s.table t ≡ Leaf keys → (k : Key) → in_span f.span k ≡ true
    → has_key keys k ≡ false → home_of s.story.homes k ≡ Nowhere
absent_home l words views s id v b t f keys there led laid k inside none =
    leaf_homes l words views s id v b t f keys there led laid k inside ∙ no_home t 0 keys k none
