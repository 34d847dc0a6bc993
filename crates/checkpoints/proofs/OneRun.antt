-- What is due is one run over one catalogue, so either it fits or it doesn't.
use Rattle.std.proofs.Common.{◌≡◌, ℕ, ◌+◌, ◌≤◌, List, [], ◌∷◌, Option, Some, None, inl, inr, refl, sym, ap}
use Rattle.std.proofs.Common.{subst, ◌∙◌, map, arith}
use Rattle.std.specs.List.{Contains}
use Rattle.lists.specs.Elements.{in_none, in_head, in_tail, in_cases}
use Rattle.serial_model.specs.Keys.{IsKeyBelow}
use Rattle.serial_model.specs.declared.key.Key.{Key}
use Rattle.wire_form.specs.ContentLaws.{one_catalogue}
use Rattle.wire_form.specs.Items.{RisesAfter}
use Rattle.wire_form.specs.Pages.{Contents}
use Rattle.wire_form.specs.declared.bucket.Entry.{Entry}
use Rattle.log_writer.specs.declared.saved.Saved.{Saved}
use Rattle.snapshot_store.specs.Content.{deepest, words_of}
use Rattle.root_composer.specs.Composition.{new_count, level_count}
use Rattle.recovery_core.specs.EntriesLast.{EntryMap}
use Rattle.recovery_core.specs.EntriesRun.{IsRunOf, key_of}
use Rattle.recovery_core.specs.declared.recovered.Recovered.{Recovered}
use Rattle.checkpoints.specs.Due.{IsDue, WouldBeDeep, WouldBeMany, ComposesWithin}

-- keys have an order
below_then : (a b c : Key) → IsKeyBelow a b → IsKeyBelow b c → IsKeyBelow a c
below_then a b c (inl p) (inl q) = inl (omega arith)
below_then a b c (inl p) (inr q) = inl (omega (arith, p, q.0))
below_then a b c (inr p) (inl q) = inl (omega (arith, p.0, q))
below_then a b c (inr p) (inr q) = inr (p.0 ∙ q.0, omega (arith, p.1, q.1))

not_below : (a b : Key) → IsKeyBelow a b → IsKeyBelow b a → ⊥
not_below a b (inl p) (inl q) = omega arith
not_below a b (inl p) (inr q) = omega (arith, p, q.0)
not_below a b (inr p) (inl q) = omega (arith, p.0, q)
not_below a b (inr p) (inr q) = omega (arith, p.1, q.1)

not_self : (k : Key) → IsKeyBelow k k → ⊥
not_self k below = not_below k k below below

-- keys that rise after one are above it
above : (k : Key) (es : List Entry) → RisesAfter IsKeyBelow (Some k) (map key_of es) → (e : Entry) → Contains es e
    → IsKeyBelow k e.key
above k [] rises e has = absurd (in_none e has)
above k (x ∷ xs) rises e has =
    elim (in_cases e x xs has) [
      | inl here ↦ subst (λ (y : Entry). IsKeyBelow k y.key) here rises.0
      | inr later ↦ below_then k x.key e.key rises.0 (above x.key xs rises.1 e later)
    ]

-- lists with the same entries, whose keys rise, are one
one_list : (k l : Option Key) (xs ys : List Entry) → RisesAfter IsKeyBelow k (map key_of xs)
    → RisesAfter IsKeyBelow l (map key_of ys) → ((e : Entry) → Contains xs e → Contains ys e)
    → ((e : Entry) → Contains ys e → Contains xs e) → xs ≡ ys
one_list k l [] [] p q to from = refl
one_list k l [] (y ∷ ys) p q to from = absurd (in_none y (from y (in_head y ys)))
one_list k l (x ∷ xs) [] p q to from = absurd (in_none x (to x (in_head x xs)))
one_list k l (x ∷ xs) (y ∷ ys) p q to from =
    let same : x ≡ y = elim (in_cases x y ys (to x (in_head x xs))) [
      | inl here ↦ sym here
      | inr later ↦ elim (in_cases y x xs (from y (in_head y ys))) [
        | inl here ↦ here
        | inr other ↦ absurd (not_below x.key y.key (above x.key xs p.1 y other) (above y.key ys q.1 x later))
      ]
    ] in
    let rest : xs ≡ ys = one_list (Some x.key) (Some y.key) xs ys p.1 q.1
    (λ e has. elim (in_cases e y ys (to e (in_tail e x xs has))) [
      | inl here ↦ absurd (not_self x.key (subst (λ (z : Entry). IsKeyBelow x.key z.key) (sym (same ∙ here))
          (above x.key xs p.1 e has)))
      | inr later ↦ later
    ])
    (λ e has. elim (in_cases e x xs (from e (in_tail e y ys has))) [
      | inl here ↦ absurd (not_self y.key (subst (λ (z : Entry). IsKeyBelow y.key z.key) (sym (sym same ∙ here))
          (above y.key ys q.1 e has)))
      | inr later ↦ later
    ]) in
    ap (λ z. z ∷ xs) same ∙ ap (λ zs. y ∷ zs) rest

one_run : (last : EntryMap) (a b : List Entry) → IsRunOf last a → IsRunOf last b → a ≡ b
one_run last a b p q = one_list None None a b p.rising q.rising (λ e has. q.all e.key e (p.each e has))
    (λ e has. p.all e.key e (q.each e has))

one_newest : (r : Recovered) (p : Saved) (run other : List Entry) (c d : Contents) → IsDue r p run c
    → IsDue r p other d → c ≡ d
one_newest r p run other c d first next = one_catalogue p.catalogue c d first.here.catalogue next.here.catalogue
    (sym first.here.words ∙ next.here.words)

-- what fits isn't too deep
pub within_not_deep : (r : Recovered) (p : Saved) (snap : ℕ) → ComposesWithin r p snap → WouldBeDeep r p → ⊥
within_not_deep r p snap fits deep =
    let pages = words_of r.store.pages in
    let run = one_run r.entries fits.run deep.run fits.due.run_is deep.due.run_is in
    let contents = one_newest r p fits.run deep.run fits.contents deep.contents fits.due deep.due in
    let levels = subst (λ c. level_count deep.run c pages ≤ deepest) contents
    (subst (λ es. level_count es fits.contents pages ≤ deepest) run fits.levels) in
    omega (arith, levels, deep.deep.levels)

-- and not too many pages
pub within_not_many : (r : Recovered) (p : Saved) (snap new : ℕ) → ComposesWithin r p snap
    → WouldBeMany r p snap new → ⊥
within_not_many r p snap new fits many =
    let pages = words_of r.store.pages in
    let run = one_run r.entries fits.run many.run fits.due.run_is many.due.run_is in
    let contents = one_newest r p fits.run many.run fits.contents many.contents fits.due many.due in
    let count = subst (λ c. p.count + new_count many.run c pages ≤ snap) contents
    (subst (λ es. p.count + new_count es fits.contents pages ≤ snap) run fits.pages) in
    omega (arith, count, many.would.0, many.more)
