-- A chain is locked from a unit of work on: what each call of that asks and tells.
use Rattle.std.proofs.Common.{◌≡◌, ℕ, suc, ◌+◌, ◌*◌, ◌/◌, ◌%◌, ◌<◌, ◌≤◌, List, length, refl, sym, ◌∙◌, subst, arith}
use Rattle.std.specs.Prelude.{Err, Ok, Result}
use Rattle.engine_pages.specs.declared.layout.Layout.{Layout}
use Rattle.engine_pages.specs.declared.view.Role.TheVariants.{Keeper}
use Rattle.engine_pages.specs.declared.view.View.{View}
use Rattle.chain_steps.specs.declared.halves.Half.{Half}
use Rattle.page_drops.specs.declared.noting.Kept.{Kept}
use Rattle.tree_drops.specs.declared.taking.ChainPage.{ChainPage}
use Rattle.tree_drops.specs.declared.taking.Done.{Done}
use Rattle.tree_drops.specs.declared.taking.Root.{Root}
use Rattle.tree_drops.specs.Taking.{CanTake, CanUndo, CanWorkOn, HasDone, HasTaken, HasUndone, HasWorked, IsThatPage}
use Rattle.tree_drops.proofs.Chaining.{chains_then, layout_chained, role_chained}
use Rattle.tree_drops.proofs.ChainTakes.{kept_here, next_can, taken_behind, undo_can, undone_behind, work_can, around_done}

module _ (root : Root) (halves : List Half) (headers : List ℕ) (unit : ℕ) (v : View) (can : CanTake root halves headers unit v) where
  abbrev i : ℕ
  i = unit / 17

  abbrev j : ℕ
  j = unit % 17

  can_here : CanTake root halves headers (17 * i + j) v
  can_here = subst (λ p. CanTake root halves headers p v) (omega arith) can

  low : unit % 17 < 17
  low = omega arith

  pub all_done : length halves < i → CanTake root halves headers (17 * suc (length halves)) v
  all_done past = let most = can.most in subst (λ p. CanTake root halves headers p v) (omega (arith, past, most)) can

  module _ (page : ChainPage) (that : IsThatPage root halves headers i page) where
    pub work_here : CanWorkOn root page j v
    work_here = work_can root halves headers i j page v can_here that low

    pub kept_now : (k : Kept) (w : View) → HasWorked root page j (Err k) v w → HasTaken root halves headers (Err k) v w
    kept_now k w so = kept_here root halves headers i j page v can_here that low k w so

    module _ (done : Done) (w : View) (so : HasDone root page j done v w) where
      pub next_here : i ≤ length halves → CanTake root halves headers (unit + 1) w
      next_here less =
          subst (λ p. CanTake root halves headers p w) (omega arith)
          (next_can root halves headers i j page v can_here that low done w (omega (arith, less)) so)

      pub taken_here : (u : Unit {0}) (z : View) → HasTaken root halves headers (Ok u) w z → HasTaken root halves headers (Ok u) v z
      taken_here u z h = taken_behind root halves headers i j page v can_here that low u done w z so h

      module _ (k : Kept) (e : View) (h : HasTaken root halves headers (Err k) w e) where
        pub undo_here : CanUndo root page j done e
        undo_here = undo_can root halves headers i j page v can_here that low done k w e so h

        pub undo_role : e.role ≡ Keeper
        undo_role =
            role_chained v e
            (chains_then v w e (around_done root halves headers i j page v can_here that low done w so).on h.0.looks.on)
            ∙ can.chain.tree.keeper

        pub undo_slot : page.slot < e.layout.slots
        undo_slot =
            subst (λ (l : Layout). page.slot < l.slots)
            (sym (layout_chained v e
            (chains_then v w e (around_done root halves headers i j page v can_here that low done w so).on h.0.looks.on)))
            work_here.slot

        pub undone_here : (z : View) → HasUndone page j done e z → HasTaken root halves headers (Err k) v z
        undone_here z un = undone_behind root halves headers i j page v can_here that low done k w e z so h un

pub err_taken : (root : Root) (halves : List Half) (headers : List ℕ) (r : Result (Unit {0}) Kept) (k : Kept) (v w : View)
    → HasTaken root halves headers r v w → r ≡ Err k → HasTaken root halves headers (Err k) v w
err_taken root halves headers r k v w h is = subst (λ z. HasTaken root halves headers z v w) is h

pub ok_taken : (root : Root) (halves : List Half) (headers : List ℕ) (r : Result (Unit {0}) Kept) (v w : View)
    → HasTaken root halves headers r v w → ((k : Kept) → r ≡ Err k → ⊥) → HasTaken root halves headers (Ok tt) v w
ok_taken root halves headers (Ok u) v w h none = h
ok_taken root halves headers (Err k) v w h none = absurd (none k refl)
