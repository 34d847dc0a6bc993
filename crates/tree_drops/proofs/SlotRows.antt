-- The slots of the halves of a chain, from one on, are left or given up.
use Rattle.std.proofs.Common.{◌≡◌, ℕ, zero, suc, ◌+◌, ◌<◌, List, [], ◌∷◌, length, get_or, drop, refl, sym, ap, ◌∙◌, subst, arith}
use Rattle.engine_pages.specs.declared.view.Role.TheVariants.{Keeper}
use Rattle.engine_pages.specs.declared.view.View.{View}
use Rattle.engine_pages.specs.Slots.{left, retired}
use Rattle.chain_steps.specs.declared.halves.Half.{Half}
use Rattle.chain_steps.specs.Swings.{slots_of}
use Rattle.tree_drops.specs.Releases.{left_all, retired_all, CanLeaveAll, CanRetireAll}

slots_more : (hs : List Half) (i : ℕ) (e : Half) → i < length hs
    → drop i (slots_of hs) ≡ (get_or hs i e).slot ∷ drop (suc i) (slots_of hs)
slots_more [] i e less = absurd (omega (arith, less))
slots_more (h ∷ hs) zero e less = refl
slots_more (h ∷ hs) (suc i) e less = slots_more hs i e (omega (arith, less))

-- the first of them, and those behind it
slots_from : (hs : List Half) (i : ℕ) (e : Half) → i < length hs
    → drop i (slots_of hs) ≡ (get_or hs i e).slot ∷ drop (i + 1) (slots_of hs)
slots_from hs i e less =
    slots_more hs i e less ∙ ap (λ n. (get_or hs i e).slot ∷ drop n (slots_of hs)) (let same : suc i ≡ i + 1 = omega arith in same)

-- ---- they are left

pub leave_first : (hs : List Half) (i : ℕ) (e : Half) (v : View) → i < length hs → CanLeaveAll (drop i (slots_of hs)) v
    → CanLeaveAll ((get_or hs i e).slot ∷ drop (i + 1) (slots_of hs)) v
leave_first hs i e v less can = subst (λ l. CanLeaveAll l v) (slots_from hs i e less) can

pub leave_rest : (hs : List Half) (i : ℕ) (e : Half) (v u : View) → i < length hs → u ≡ left (get_or hs i e).slot v
    → CanLeaveAll (drop i (slots_of hs)) v → CanLeaveAll (drop (i + 1) (slots_of hs)) u
leave_rest hs i e v u less is can =
    subst (λ (z : View). CanLeaveAll (drop (i + 1) (slots_of hs)) z) (sym is) (leave_first hs i e v less can).3

pub left_keeper : (t : ℕ) (v u : View) → u ≡ left t v → v.role ≡ Keeper → u.role ≡ Keeper
left_keeper t v u is keeper = ap (λ (z : View). z.role) is ∙ keeper

pub left_more : (hs : List Half) (i : ℕ) (e : Half) (v u w : View) → i < length hs → u ≡ left (get_or hs i e).slot v
    → w ≡ left_all (drop (i + 1) (slots_of hs)) u → w ≡ left_all (drop i (slots_of hs)) v
left_more hs i e v u w less is rest =
    rest ∙ (ap (λ (z : View). left_all (drop (i + 1) (slots_of hs)) z) is ∙ ap (λ l. left_all l v) (sym (slots_from hs i e less)))

-- ---- they are given up

pub retire_first : (hs : List Half) (i : ℕ) (e : Half) (v : View) → i < length hs → CanRetireAll (drop i (slots_of hs)) v
    → CanRetireAll ((get_or hs i e).slot ∷ drop (i + 1) (slots_of hs)) v
retire_first hs i e v less can = subst (λ l. CanRetireAll l v) (slots_from hs i e less) can

pub retire_rest : (hs : List Half) (i : ℕ) (e : Half) (v u : View) → i < length hs → u ≡ retired (get_or hs i e).slot v
    → CanRetireAll (drop i (slots_of hs)) v → CanRetireAll (drop (i + 1) (slots_of hs)) u
retire_rest hs i e v u less is can =
    subst (λ (z : View). CanRetireAll (drop (i + 1) (slots_of hs)) z) (sym is) (retire_first hs i e v less can).2

pub retired_keeper : (t : ℕ) (v u : View) → u ≡ retired t v → v.role ≡ Keeper → u.role ≡ Keeper
retired_keeper t v u is keeper = ap (λ (z : View). z.role) is ∙ keeper

pub retired_more : (hs : List Half) (i : ℕ) (e : Half) (v u w : View) → i < length hs → u ≡ retired (get_or hs i e).slot v
    → w ≡ retired_all (drop (i + 1) (slots_of hs)) u → w ≡ retired_all (drop i (slots_of hs)) v
retired_more hs i e v u w less is rest =
    rest ∙ (ap (λ (z : View). retired_all (drop (i + 1) (slots_of hs)) z) is ∙ ap (λ l. retired_all l v) (sym (slots_from hs i e less)))
