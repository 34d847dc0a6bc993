-- A chain was dropped, or kept: what leaving its pages asks.
use Rattle.std.proofs.Common.{◌≡◌, ℕ, suc, ◌+◌, ◌<◌, true, false, List, [], ◌∷◌, ◌++◌, length, refl, sym, ap, ◌∙◌, subst}
use Rattle.std.specs.Prelude.{Err, Ok, replicate}
use Rattle.drop_core.specs.Table.{has_slot}
use Rattle.engine_rule.specs.JointState.{keeps_word}
use Rattle.engine_pages.specs.declared.layout.Layout.{Layout}
use Rattle.engine_pages.specs.declared.view.KeptPage.{KeptPage}
use Rattle.engine_pages.specs.declared.view.Role.{Role}
use Rattle.engine_pages.specs.declared.view.Role.TheVariants.{Keeper}
use Rattle.engine_pages.specs.declared.view.View.{View}
use Rattle.engine_pages.specs.Slots.{left, retired, MayRetire}
use Rattle.engine_pages.specs.Views.{IsActive}
use Rattle.chain_steps.specs.declared.halves.Half.{Half}
use Rattle.chain_steps.specs.Notes.{noted_again}
use Rattle.chain_steps.specs.Swings.{slots_of}
use Rattle.page_drops.specs.declared.calls.Dropped.{Dropped}
use Rattle.page_drops.specs.declared.noting.Kept.{Kept}
use Rattle.page_drops.specs.Calls.{IsNoteOf}
use Rattle.tree_drops.specs.declared.taking.Root.{Root}
use Rattle.tree_drops.specs.Releases.{left_all, retired_all, CanLeaveAll, CanRetireAll, CanWorkChain, HasWorkedChain}
use Rattle.tree_drops.specs.Taking.{keys_in}
use Rattle.tree_drops.specs.Turns.{HasEndedChain}
use Rattle.tree_drops.specs.Visits.{HasTallied}
use Rattle.tree_drops.proofs.Chaining.{chains_then, role_chained}
use Rattle.tree_drops.proofs.ChainDone.{dropped_held, dropped_last, dropped_layout, dropped_leave, dropped_retire, dropped_seat, ended_dropped}
use Rattle.tree_drops.proofs.ChainDone.{ended_kept, kept_last, kept_leave, kept_mid_layout, kept_mid_seat}
use Rattle.tree_drops.proofs.ChainLeft.{left_role, retired_layout, retired_role}

-- a slot may be left
pub record CanLeave (t : ℕ) (v : View) : Type 0 where
  pub pass : IsActive v.role
  pub slot : t < v.layout.slots
  pub held : has_slot v.grip.holds t ≡ true
  pub unkept : keeps_word v.seat.kept t ≡ false

active : (v : View) → v.role ≡ Keeper → IsActive v.role
active v role = subst (λ (r : Role). IsActive r) (sym role) tt

module _ (root : Root) (header : ℕ) (v : View) (can : CanWorkChain root header v) (halves : List Half) where
  abbrev t : ℕ
  t = root.slot

  abbrev slots : List ℕ
  slots = slots_of halves

  leave_first : (l : View) → l.role ≡ Keeper → l.layout ≡ v.layout → has_slot l.grip.holds t ≡ true → l.seat.kept ≡ [] → CanLeave t l
  leave_first l role layout held none = record {
    pass = active l role;
    slot = subst (λ (y : Layout). t < y.slots) (sym layout) can.work.drop.tree.slot;
    held = held;
    unkept = ap (λ parts. keeps_word parts t) none;
  }

  -- ---- it was dropped

  module _ (u : Unit {0}) (w : View) (x : HasWorkedChain root halves (Ok u) v w) where
    pub drop_role : w.role ≡ Keeper
    drop_role =
        ap (λ (z : View). z.role) x.3.4.is
        ∙ (role_chained v (x.3.4).before (chains_then v x.1 (x.3.4).before x.3.0.on x.3.4.on) ∙ can.work.bare.keeper)

    pub drop_retire : CanRetireAll slots w
    drop_retire =
        dropped_retire root header halves x.0 v x.1 can x.2 x.3.0 x.3.1 w x.3.4 (retired_all slots w) (retired t (retired_all slots w))
        refl refl

    module _ (r : View) (gives : r ≡ retired_all slots w) where
      role_then : r.role ≡ Keeper
      role_then = ap (λ (z : View). z.role) gives ∙ (retired_role slots w ∙ drop_role)

      pub drop_active : IsActive r.role
      drop_active = active r role_then

      pub drop_slot : t < r.layout.slots
      drop_slot =
          subst (λ (y : Layout). t < y.slots)
          (sym (ap (λ (z : View). z.layout) gives
          ∙ (retired_layout slots w
          ∙ (ap (λ (z : View). z.layout) x.3.4.is
          ∙ ap (λ (z : View). z.layout) (chains_then v x.1 (x.3.4).before x.3.0.on x.3.4.on).chains)))) can.work.drop.tree.slot

      pub drop_may : MayRetire r t
      drop_may = dropped_last root header halves x.0 v x.1 can x.2 x.3.0 x.3.1 w x.3.4 r (retired t r) gives refl

      module _ (s : View) (gives_last : s ≡ retired t r) where
        pub drop_role_then : s.role ≡ Keeper
        drop_role_then = ap (λ (z : View). z.role) gives_last ∙ role_then

        pub drop_leave : CanLeaveAll slots s
        drop_leave = dropped_leave root header halves x.0 v x.1 can x.2 x.3.0 x.3.1 w x.3.4 r s gives gives_last

        module _ (l : View) (leaves : l ≡ left_all slots s) where
          pub drop_first : CanLeave t l
          drop_first =
              subst (λ (z : View). CanLeave t z) (sym leaves)
              (leave_first (left_all slots s) (left_role slots s ∙ drop_role_then)
              (dropped_layout root header halves x.0 v x.1 can x.2 x.3.0 x.3.1 w x.3.4 r s gives gives_last)
              (dropped_held root header halves x.0 v x.1 can x.2 x.3.0 x.3.1 w x.3.4 r s gives gives_last)
              (dropped_seat root header halves x.0 v x.1 can x.2 x.3.0 x.3.1 w x.3.4 r s gives gives_last))

          pub drop_ended : (old new : Dropped) (y : View) → y ≡ left t l → (count : ℕ) → count ≡ length halves
              → HasTallied old (count + 1) [] new
              → HasEndedChain (keys_in root) (root.target).at (root.target).page (root.target).epoch t old v new y
          drop_ended old new y ends count many counts =
              ended_dropped root header halves x.0 v x.1 can x.2 x.3.0 x.3.1 w x.3.4 r s gives gives_last old new y (x.3.2, x.3.3) x.3.5
              (ends ∙ ap (λ (z : View). left t z) leaves) count many counts

  -- ---- it was kept

  module _ (k : Kept) (e : View) (y : HasWorkedChain root halves (Err k) v e) where
    pub keep_role : e.role ≡ Keeper
    keep_role = role_chained v e y.2.0.on ∙ can.work.bare.keeper

    pub keep_last : (front : List KeptPage) × (page : KeptPage) × (e.kept ≡ front ++ page ∷ [])
    keep_last = (v.kept, y.2.1.page, y.2.1.is)

    module _ (count : ℕ) (many : count ≡ length halves) (g : View) (again : (n : ℕ) × (g ≡ noted_again count n e)) where
      pub keep_role_then : g.role ≡ Keeper
      keep_role_then = ap (λ (z : View). z.role) again.1 ∙ keep_role

      pub keep_leave : CanLeaveAll slots g
      keep_leave = kept_leave root header halves y.0 v e can y.1 k e refl y.2.0 y.2.1 count again.0 g many again.1

      module _ (l : View) (leaves : l ≡ left_all slots g) where
        pub keep_first : CanLeave t l
        keep_first =
            subst (λ (z : View). CanLeave t z) (sym leaves)
            (leave_first (left_all slots g) (left_role slots g ∙ keep_role_then)
            (kept_mid_layout root header halves y.0 v e can y.1 k e refl y.2.0 y.2.1 count again.0 g many again.1)
            (kept_last root header halves y.0 v e can y.1 k e refl y.2.0 y.2.1 count again.0 g many again.1)
            (kept_mid_seat root header halves y.0 v e can y.1 k e refl y.2.0 y.2.1 count again.0 g many again.1))

        pub keep_ended : (old new : Dropped) (z : View) → z ≡ left t l
            → ((x : KeptPage) (m : ℕ) → suc m ≡ count + 1 → IsNoteOf k x → HasTallied old 0 (replicate (suc m) x) new)
            → HasEndedChain (keys_in root) (root.target).at (root.target).page (root.target).epoch t old v new z
        keep_ended old new z ends counts =
            ended_kept root header halves y.0 v e can y.1 k e refl y.2.0 y.2.1 count again.0 g many again.1 old new z y.2.2 y.2.3
            (ends ∙ ap (λ (q : View). left t q) leaves) counts
