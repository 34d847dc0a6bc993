-- What cuts and joins of views leave of the rule of touches.
use Rattle.std.proofs.Common.{◌≡◌, inl, inr, ℕ, zero, suc, ◌<◌, ◌≤◌, Bool, true, false, true≢false, cond, List}
use Rattle.std.proofs.Common.{[], ◌∷◌, ◌++◌, set, refl, sym, ap, ◌∙◌, subst, arith, eqb-true}
use Rattle.std.specs.Prelude.{◌==◌, ◌&&◌}
use Rattle.std.specs.List.{AllByRecursion, Contains}
use Rattle.std.proofs.lemmas.Bool.{and_parts}
use mathlib.Core.Option.{some}
use lib.ListN.{get_elem?}
use Rattle.lists.specs.Each.{all_append, all_weaker}
use Rattle.lists.specs.Elements.{in_none, in_cases, in_head, in_tail}
use Rattle.serial_model.specs.declared.key.Key.{Key}
use Rattle.homes.specs.Homes.{has_key, same_key}
use Rattle.homes.specs.Laws.{same_key-true}
use Rattle.commit_core.specs.declared.seat.Seat.{Seat}
use Rattle.views.specs.Sums.{total, times}
use Rattle.views.specs.Changes.{Change, each_at, one_splits}
use Rattle.views.specs.Others.{both_hold, each_other}
use Rattle.engine_pages.specs.declared.layout.Layout.{Layout}
use Rattle.engine_pages.specs.declared.view.Role.{Role}
use Rattle.engine_pages.specs.declared.view.Role.TheVariants.{Keeper, Worker, Note, Spent}
use Rattle.engine_pages.specs.declared.view.Touch.{Touch}
use Rattle.engine_pages.specs.declared.view.View.{View}
use Rattle.engine_pages.specs.Rule.{Shared, Sound, Faces, Fits, Touching}
use Rattle.engine_pages.specs.Touches.{AreBlamed, StaysTaken, Touched, is_touch, takes, touch}
use Rattle.engine_pages.specs.Views.{IsActive, IsAt, makes, sits, sits_by}
use Rattle.engine_pages.proofs.Alone.{nobody_sits}
use Rattle.engine_pages.proofs.Facing.{blamed_grows, faces_grow, facing_bare}
use Rattle.engine_pages.proofs.Seats.{sits_here}
use Rattle.engine_pages.proofs.Turns.{MadeByOne, made_by_one}
use Rattle.engine_seats.specs.Cuts.{seated, since_seated, worker_view}

-- ---- touches of one view

-- what is counted among touches stands there
pub has_touch : (q : ℕ) (k : Key) (l : List Touch) → 1 ≤ total (is_touch q k) l → Contains l (touch q k)
has_touch q k [] one = absurd (omega (arith, one))
has_touch q k (t ∷ l) one = by_test ((t.seat == q) && same_key t.key k) refl
    (λ more. has_touch q k l (omega (arith, one, more)))
  where
    by_test : (b : Bool) → ((t.seat == q) && same_key t.key k) ≡ b → (is_touch q k t ≡ 0 → Contains l (touch q k))
        → Contains (t ∷ l) (touch q k)
    by_test true is rest =
        let both = and_parts (t.seat == q) (same_key t.key k) is in
        let same : t ≡ touch q k =
        ap (λ (x : ℕ). touch x t.key) (eqb-true t.seat q both.0) ∙ ap (λ (x : Key). touch q x) (same_key-true t.key k both.1) in
        subst (λ (x : Touch). Contains (t ∷ l) x) same (in_head t l)
    by_test false is rest = in_tail (touch q k) t l (rest (ap (λ b. cond b 1 0) is))

pub takes_none : (q : ℕ) (k : Key) (v : View) → v.touched ≡ [] → takes q k v ≡ 0
takes_none q k v none = ap (λ (l : List Touch). total (is_touch q k) l) none

pub blamed_none : (took : ℕ → Key → Type 0) (blamed : List Touch) → blamed ≡ [] → AreBlamed took blamed
blamed_none took blamed none b has = absurd (in_none b (subst (λ (l : List Touch). Contains l b) none has))

-- those of two passes
pub blamed_both : (took : ℕ → Key → Type 0) (xs ys : List Touch) → AreBlamed took xs → AreBlamed took ys
    → AreBlamed took (xs ++ ys)
blamed_both took [] ys first next b has = next b has
blamed_both took (x ∷ xs) ys first next b has = elim (in_cases b x (xs ++ ys) has) [
  | inl is ↦ first b (subst (λ (t : Touch). Contains (x ∷ xs) t) is (in_head x xs))
  | inr more ↦ blamed_both took xs ys (λ c there. first c (in_tail c x xs there)) next b more
]

-- ---- views that keep their touches

pub touching_kept : (l : Layout) (words : List ℕ) (views views' before after : List View) (s : Shared)
    → Touching l words views s → Change before after views views'
    → ((q : ℕ) (k : Key) → total (takes q k) before ≤ total (takes q k) after)
    → (StaysTaken (Touched views) (Touched views') → AllByRecursion (Faces l words views') after)
    → (StaysTaken (Touched views) (Touched views') → AllByRecursion (λ v. AreBlamed (Touched views') v.blamed) after)
    → Touching l words views' s
touching_kept l words views views' before after s h change less faces blamed =
    let grows : StaysTaken (Touched views) (Touched views') =
    λ q k has. omega (arith, change.sums (takes q k), less q k, has) in
    record {
      taken = λ q k few has. grows q k (h.taken q k few has);
      facing = change.each (Faces l words views')
          (all_weaker (Faces l words views) (Faces l words views')
          (λ u f. faces_grow l words views views' u grows f) views h.facing) (faces grows);
      blamed = change.each (λ v. AreBlamed (Touched views') v.blamed)
          (all_weaker (λ v. AreBlamed (Touched views) v.blamed) (λ v. AreBlamed (Touched views') v.blamed)
          (λ u are. blamed_grows (Touched views) (Touched views') u.blamed grows are) views h.blamed) (blamed grows);
    }

-- ---- where nobody was seated

-- a view without a seat has nothing, and is no worker's
abbrev HasNone : View → Type 0
HasNone u = (u.blamed ≡ []) × ((worker : ℕ) → u.role ≡ Worker worker → ⊥)

has_none : (u : View) (role : Role) → u.role ≡ role → sits 0 u ≡ 0 → ((x : ℕ) → sits (suc x) u ≡ 0)
    → ((IsActive u.role → ⊥) → u.blamed ≡ []) → HasNone u
has_none u Keeper is none nobody seatless =
    absurd (let here : sits 0 u ≡ 1 = ap (sits_by 0) is in omega (arith, none, here))
has_none u (Worker w) is none nobody seatless =
    absurd (let here : sits (suc w) u ≡ sits_by (suc w) (Worker w) = ap (sits_by (suc w)) is in
    omega (arith, nobody w, here, sits_here (suc w) (Worker w) refl))
has_none u Note is none nobody seatless =
    (seatless (λ active. subst IsActive is active), λ worker other. no_worker worker (sym is ∙ other))
  where
    no_worker : (worker : ℕ) → Note ≡ Worker worker → ⊥
    no_worker worker e = cc
has_none u Spent is none nobody seatless =
    (seatless (λ active. subst IsActive is active), λ worker other. no_worker worker (sym is ∙ other))
  where
    no_worker : (worker : ℕ) → Spent ≡ Worker worker → ⊥
    no_worker worker e = cc

not_worker : (role : Role) (worker : ℕ) → role ≡ Keeper → role ≡ Worker worker → ⊥
not_worker role worker keeper is = cc

-- where the keeper has no locks, no seat has any
no_locks : (l : Layout) (s : Shared) (v : View) → Fits l s.story s.seats v → v.role ≡ Keeper → v.made ≡ []
    → v.seat.locks ≡ [] → (q : ℕ) → q < 9 → (s.seats q).locks ≡ []
no_locks l s v f keeper none rests zero few =
    ap (λ (x : Seat). x.locks) (sym (f.own 0 (subst (IsAt 0) (sym keeper) refl)).seat) ∙ rests
no_locks l s v f keeper none rests (suc worker) few =
    ((f.keepers keeper).parked worker (omega (arith, few)) (ap (times worker) none)).resting.locks

-- a worker that was just seated met nothing
worker_faces : (l : Layout) (words : List ℕ) (views : List View) (worker : ℕ) (v : View)
    → Faces l words views (worker_view worker v)
worker_faces l words views worker v other is = facing_bare l words (Touched views) (suc other) [] []

-- the keeper seats its first worker: nobody holds a lock, and what was told of touches is over
touching_anew : (l : Layout) (words : List ℕ) (views : List View) (s : Shared) (id worker : ℕ) (v : View)
    → Sound l words views s → Fits l s.story s.seats v → get_elem? views id ≡ some v → v.role ≡ Keeper
    → v.seat.locks ≡ [] → v.made ≡ []
    → Touching l words (set views id (seated worker v) ++ worker_view worker v ∷ []) s
touching_anew l words views s id worker v h f at keeper rests none =
    let views' : List View = set views id (seated worker v) ++ worker_view worker v ∷ [] in
    let made : (x : ℕ) → total (makes x) views ≡ makes x v =
    each_at (MadeByOne views) views id v (made_by_one l s views words h) at (ap (sits_by 0) keeper) in
    let idle = nobody_sits views (λ x. h.sums.made_are x ∙ made x ∙ ap (times x) none) in
    let nothing =
    both_hold (Fits l s.story s.seats) (λ u. (x : ℕ) → sits (suc x) u ≡ 0) (λ u. sits 0 u ≡ 0 → HasNone u)
    (λ u fits nobody e. has_none u u.role refl e nobody (λ off. (fits.seatless off).blamed)) views h.fits idle in
    let here : sits 0 v ≡ 1 = ap (sits_by 0) keeper in
    let alone : total (sits 0) views ≤ sits 0 v = omega (arith, h.sums.one_keeper, here) in record {
      taken = λ q k few has. absurd (no_key (s.seats q).locks k (no_locks l s v f keeper none rests q few) has);
      facing = all_append (Faces l words views') (set views id (seated worker v)) (worker_view worker v ∷ [])
          (each_other (sits 0) (λ u. sits 0 u ≡ 0 → HasNone u) (Faces l words views')
          (λ u zero-is has other is. absurd ((has zero-is).1 other is)) views id v (seated worker v) at alone nothing
          (λ other is. absurd (not_worker v.role other keeper is)))
          (worker_faces l words views' worker v, tt);
      blamed = all_append (λ u. AreBlamed (Touched views') u.blamed) (set views id (seated worker v))
          (worker_view worker v ∷ [])
          (each_other (sits 0) (λ u. sits 0 u ≡ 0 → HasNone u) (λ u. AreBlamed (Touched views') u.blamed)
          (λ u zero-is has. blamed_none (Touched views') u.blamed (has zero-is).0) views id v (seated worker v) at alone
          nothing
          (blamed_none (Touched views') (since_seated v.made v.blamed) (ap (λ m. since_seated m v.blamed) none)))
          ((λ b has. absurd (in_none b has)), tt);
    }
  where
    no_key : (locks : List Key) (k : Key) → locks ≡ [] → has_key locks k ≡ true → ⊥
    no_key locks k none has = true≢false (sym has ∙ ap (λ (x : List Key). has_key x k) none)

-- it seats one more: all stays
touching_beside : (l : Layout) (words : List ℕ) (views : List View) (s : Shared) (id worker : ℕ) (v : View) (first : ℕ)
    (more : List ℕ) → Sound l words views s → get_elem? views id ≡ some v → v.role ≡ Keeper → v.made ≡ first ∷ more
    → Touching l words (set views id (seated worker v) ++ worker_view worker v ∷ []) s
touching_beside l words views s id worker v first more h at keeper made =
    let views' : List View = set views id (seated worker v) ++ worker_view worker v ∷ [] in
    let touched : since_seated v.made v.touched ≡ v.touched = ap (λ m. since_seated m v.touched) made in
    let blamed : since_seated v.made v.blamed ≡ v.blamed = ap (λ m. since_seated m v.blamed) made in
    touching_kept l words views views' (v ∷ []) (seated worker v ∷ worker_view worker v ∷ []) s h.touching
    (one_splits views id v (seated worker v) (worker_view worker v) at)
    (λ q k. let same : takes q k (seated worker v) ≡ takes q k v = ap (λ (l : List Touch). total (is_touch q k) l) touched in
    omega (arith, same))
    (λ grows. (
      (λ other is. absurd (not_worker v.role other keeper is)),
      (worker_faces l words views' worker v, tt),
    ))
    (λ grows. (
      subst (AreBlamed (Touched views')) (sym blamed)
          (blamed_grows (Touched views) (Touched views') v.blamed grows
          (each_at (λ u. AreBlamed (Touched views) u.blamed) views id v h.touching.blamed at)),
      ((λ b has. absurd (in_none b has)), tt),
    ))

pub touching_seated : (l : Layout) (words : List ℕ) (views : List View) (s : Shared) (id worker : ℕ) (v : View)
    (made : List ℕ) → v.made ≡ made → Sound l words views s → Fits l s.story s.seats v → get_elem? views id ≡ some v
    → v.role ≡ Keeper → v.seat.locks ≡ []
    → Touching l words (set views id (seated worker v) ++ worker_view worker v ∷ []) s
touching_seated l words views s id worker v [] is h f at keeper rests =
    touching_anew l words views s id worker v h f at keeper rests is
touching_seated l words views s id worker v (first ∷ more) is h f at keeper rests =
    touching_beside l words views s id worker v first more h at keeper is
