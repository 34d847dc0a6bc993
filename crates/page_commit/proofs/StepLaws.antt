-- How many steps calls take.
use Rattle.std.proofs.Common.{◌≡◌, ℕ, ◌+◌, ◌*◌, ◌<◌, ◌≤◌, Bool, true, false, eqb, List, length}
use Rattle.std.proofs.Common.{Option, refl, ap, ◌∙◌, arith}
use Rattle.std.specs.Prelude.{MatchBool}
use Rattle.serial_model.specs.declared.key.Key.{Key}
use Rattle.serial_model.specs.declared.number.Change.{Change}
use Rattle.homes.specs.declared.places.Spot.{Spot}
use Rattle.engine_pages.specs.declared.view.RefusalCause.{RefusalCause}
use Rattle.engine_pages.specs.declared.view.View.{View}
use Rattle.page_records.specs.Attempts.{Checked, HasDrawn, HasChosen, is_as_seen, checked_at, failed_at}
use Rattle.page_records.specs.Locks.{locked, Locked, opened, put_at}
use Rattle.engine_pages.specs.Steps.{read_at}
use Rattle.page_records.specs.Ends.{HasForgotten}
use Rattle.homes.specs.declared.places.At.{At}
use Rattle.pointer_checks.specs.Checks.{pointer_checked, CheckedPointer}
use Rattle.tree_heads.specs.Checks.{header_checked, CheckedHeader}

either : (b : Bool) (x p q : View) (n : ℕ) → p.steps ≡ n → q.steps ≡ n → MatchBool b (x ≡ p) (x ≡ q) → x.steps ≡ n
either true x p q n there other is = ap (λ (y : View). y.steps) is ∙ there
either false x p q n there other is = ap (λ (y : View). y.steps) is ∙ other

pub lock_steps : (k : Key) (p : Spot) (at expected n : ℕ) (w x : View) → Locked k p at expected w n x → x.steps ≡ w.steps + 1
lock_steps k p at expected n w x l = either (eqb n expected) x (locked k p at n w) (read_at at n w) (w.steps + 1) refl refl
    l

pub check_steps : (x : Spot) (at word n : ℕ) (own : Bool) (v w : View) → Checked x at word own v n w → w.steps
    ≡ v.steps + 1
check_steps x at word n own v w c =
    either (is_as_seen word own n) w (checked_at x at n v) (failed_at at n v) (v.steps + 1) refl refl c

-- a load and a compare_exchange
pub take_steps : (k : Key) (p : Spot) (at word expected n : ℕ) (v w x : View) → w ≡ read_at at word v → Locked k p at expected w n x
    → x.steps ≡ v.steps + 2
take_steps k p at word expected n v w x is l =
    let first : w.steps ≡ v.steps + 1 = ap (λ (y : View). y.steps) is in
    let second = lock_steps k p at expected n w x l in omega (arith, first, second)

pub load_most : (at word : ℕ) (v w : View) → w ≡ read_at at word v → w.steps ≤ v.steps + 2
load_most at word v w is = let first : w.steps ≡ v.steps + 1 = ap (λ (y : View). y.steps) is in omega (arith, first)

pub take_most : (k : Key) (p : Spot) (at word expected n : ℕ) (v w x : View) → w ≡ read_at at word v → Locked k p at expected w n x
    → x.steps ≤ v.steps + 2
take_most k p at word expected n v w x is l = let all = take_steps k p at word expected n v w x is l in omega (arith, all)

-- ---- loops

pub more_locked : (v w x : View) (done : ℕ) → w.steps ≡ v.steps + 2 * done → x.steps ≡ w.steps + 2
    → x.steps ≡ v.steps + 2 * (done + 1)
more_locked v w x done was now = omega (arith, was, now)

pub stops_locked : (v w x : View) (done n : ℕ) → n ≡ done → w.steps ≡ v.steps + 2 * done → x.steps ≤ w.steps + 2
    → x.steps ≤ v.steps + 2 * n + 2
stops_locked v w x done n same was now = omega (arith, same, was, now)

pub ends_at : (v w : View) (done n : ℕ) → w.steps ≡ v.steps + 2 * done → done ≤ n → n ≤ done → w.steps ≡ v.steps + 2 * n
ends_at v w done n was le ge = omega (arith, was, le, ge)

pub more_opened : (k : Key) (at n : ℕ) (v w x : View) (done : ℕ) → w.steps ≡ v.steps + done → x ≡ opened k at n w
    → x.steps ≡ v.steps + (done + 1)
more_opened k at n v w x done was is =
    let now : x.steps ≡ w.steps + 1 = ap (λ (y : View). y.steps) is in omega (arith, was, now)

pub ends_so : (v w : View) (done n : ℕ) → w.steps ≡ v.steps + done → done ≤ n → n ≤ done → w.steps ≡ v.steps + n
ends_so v w done n was le ge = omega (arith, was, le, ge)

pub more_put : (k : Key) (at at' n m : ℕ) (v w x y : View) (done : ℕ) → w.steps ≡ v.steps + 2 * done → x
    ≡ put_at k at n w
    → y ≡ opened k at' m x → y.steps ≡ v.steps + 2 * (done + 1)
more_put k at at' n m v w x y done was puts opens =
    let first : x.steps ≡ w.steps + 1 = ap (λ (z : View). z.steps) puts in
    let second : y.steps ≡ x.steps + 1 = ap (λ (z : View). z.steps) opens in omega (arith, was, first, second)

pub more_checked : (v w z : View) (p : Spot) (at word done n : ℕ) (own : Bool) → w.steps ≡ v.steps + done
    → Checked p at word own w n z → z.steps ≡ v.steps + (done + 1)
more_checked v w z p at word done n own was c =
    let now = check_steps p at word n own w z c in omega (arith, was, now)

pub stops_checked : (v w z : View) (p : Spot) (at word done most n : ℕ) (own : Bool) → w.steps ≡ v.steps + done
    → done < most → Checked p at word own w n z → z.steps ≤ v.steps + most
stops_checked v w z p at word done most n own was less c =
    let now = check_steps p at word n own w z c in omega (arith, was, now, less)

pointer_steps : (x : At) (at word n : ℕ) (v w : View) → CheckedPointer x at word v n w → w.steps ≡ v.steps + 1
pointer_steps x at word n v w c =
    either (eqb n word) w (pointer_checked x at n v) (failed_at at n v) (v.steps + 1) refl refl c

pub more_pointers : (v w z : View) (x : At) (at word done n : ℕ) → w.steps ≡ v.steps + done
    → CheckedPointer x at word w n z → z.steps ≡ v.steps + (done + 1)
more_pointers v w z x at word done n was c =
    let now = pointer_steps x at word n w z c in omega (arith, was, now)

pub stops_pointers : (v w z : View) (x : At) (at word done most n : ℕ) → w.steps ≡ v.steps + done
    → done < most → CheckedPointer x at word w n z → z.steps ≤ v.steps + most
stops_pointers v w z x at word done most n was less c =
    let now = pointer_steps x at word n w z c in omega (arith, was, now, less)

header_steps : (t at word n : ℕ) (v w : View) → CheckedHeader t at word v n w → w.steps ≡ v.steps + 1
header_steps t at word n v w c =
    either (eqb n word) w (header_checked t at n v) (failed_at at n v) (v.steps + 1) refl refl c

pub more_headers : (v w z : View) (t at word done n : ℕ) → w.steps ≡ v.steps + done
    → CheckedHeader t at word w n z → z.steps ≡ v.steps + (done + 1)
more_headers v w z t at word done n was c =
    let now = header_steps t at word n w z c in omega (arith, was, now)

pub stops_headers : (v w z : View) (t at word done most n : ℕ) → w.steps ≡ v.steps + done
    → done < most → CheckedHeader t at word w n z → z.steps ≤ v.steps + most
stops_headers v w z t at word done most n was less c =
    let now = header_steps t at word n w z c in omega (arith, was, now, less)

pub counts_same : {A : Type 0} (xs ys : List A) → xs ≡ ys → length xs ≡ length ys
counts_same xs ys same = ap (λ l. length l) same

-- ---- a commit

pub forgot_steps : (why : Option RefusalCause) (v w x y : View) (n holds : ℕ) → w.steps ≡ v.steps + n
    → HasForgotten why w x → y.steps ≡ x.steps + holds → y.steps ≡ v.steps + n + 1 + holds
forgot_steps why v w x y n holds was is leaves =
    let now : x.steps ≡ w.steps + 1 = ap (λ (z : View). z.steps) is.is in omega (arith, was, now, leaves)

pub commits_steps : (changes : List Change) (n m reads writes holds : ℕ) (w x y z u t : View) → HasDrawn changes w n x
    → y.steps ≡ x.steps + reads → HasChosen y m z → u.steps ≡ z.steps + 2 * writes → t.steps ≡ u.steps + holds
    → t.steps ≡ w.steps + 2 * writes + reads + holds + 2
commits_steps changes n m reads writes holds w x y z u t d checks c puts leaves =
    let first : x.steps ≡ w.steps + 1 = ap (λ (y : View). y.steps) d.is in
    let third : z.steps ≡ y.steps + 1 = ap (λ (y : View). y.steps) c.is in omega (arith, first, checks, third, puts, leaves)

pub fails_steps : (changes : List Change) (n reads writes holds found : ℕ) (w x y z : View) → HasDrawn changes w n x
    → y.steps ≤ x.steps + reads → found ≡ writes → z.steps ≡ y.steps + found + 1 + holds
    → z.steps ≤ w.steps + writes + reads + holds + 2
fails_steps changes n reads writes holds found w x y z d checks same opens =
    let first : x.steps ≡ w.steps + 1 = ap (λ (y : View). y.steps) d.is in omega (arith, first, checks, same, opens)

pub all_steps : (reads writes writes' holds holds' : ℕ) (v w x : View) → writes ≡ writes' → holds ≡ holds'
    → w.steps ≡ v.steps + 2 * writes → x.steps ≡ w.steps + 2 * writes + reads + holds + 2
    → x.steps ≡ v.steps + (4 * writes' + reads + holds' + 2)
all_steps reads writes writes' holds holds' v w x same same' locks rest = omega (arith, same, same', locks, rest)

pub all_most : (reads writes writes' holds holds' : ℕ) (v w x : View) → writes ≡ writes' → holds ≡ holds'
    → w.steps ≡ v.steps + 2 * writes → x.steps ≤ w.steps + writes + reads + holds + 2
    → x.steps ≤ v.steps + (4 * writes' + reads + holds' + 2)
all_most reads writes writes' holds holds' v w x same same' locks rest = omega (arith, same, same', locks, rest)

pub stopped_most : (reads writes writes' holds holds' found : ℕ) (v w x : View) → writes ≡ writes' → holds ≡ holds'
    → found < writes → w.steps ≤ v.steps + 2 * found + 2 → x.steps ≡ w.steps + found + 1 + holds
    → x.steps ≤ v.steps + (4 * writes' + reads + holds' + 2)
stopped_most reads writes writes' holds holds' found v w x same same' less locks opens =
    omega (arith, same, same', less, locks, opens)
