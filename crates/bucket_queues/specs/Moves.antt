-- Each move keeps the rule.
use Rattle.std.proofs.Common.{◌≡◌, ◌≢◌, ℕ, zero, suc, ◌+◌, ◌-◌, ◌<◌, List, [], ◌∷◌, ◌++◌, length, set, sym, refl, ap, ◌∙◌, subst, ⊎_elim, append_assoc, append-nil, arith}
use Rattle.std.specs.List.{flat_map}
use Rattle.std.specs.List.Sorted.{IsPermutation}
use Rattle.std.proofs.lemmas.Grind.{flat_map-append}
use Rattle.std.proofs.lemmas.List.Sorted.{IsPermutation-refl, IsPermutation-sym, IsPermutation-trans, IsPermutation-append_left, IsPermutation-append_right, IsPermutation-append_comm}
use mathlib.Core.Option.{some, some-ne-none}
use lib.ListN.{get_elem?}
use Rattle.crossbeam_queue.specs.Fifo.{Pushes, Pops, Forks, Merges, Learns}
use Rattle.crossbeam_queue.proofs.Lists.{at_set, at_snoc}
use Rattle.wire_form.specs.declared.bucket.Bucket.{Bucket}
use Rattle.bucket_queues.specs.declared.rule.Hand.{Hand}
use Rattle.bucket_queues.specs.Balance.{hand, all_parts, total_parts, put_of, taken_of, IdleIsEmpty, IsBalanced}

-- ---- lists of one field of all views

-- (xs ++ ys) ++ zs in another order
last_two : (xs ys zs : List Bucket) → IsPermutation ((xs ++ ys) ++ zs) ((xs ++ zs) ++ ys)
last_two xs ys zs =
    subst (λ l. IsPermutation l ((xs ++ zs) ++ ys)) (sym (append_assoc xs ys zs))
    (subst (IsPermutation (xs ++ (ys ++ zs))) (sym (append_assoc xs zs ys))
    (IsPermutation-append_right xs _ _ (IsPermutation-append_comm ys zs)))

module _ (f : Hand → List Bucket) where
  -- one pass has more
  more_in : (views : List Hand) (i : ℕ) (v w : Hand) (xs : List Bucket) → get_elem? views i ≡ some v → f w ≡ f v ++ xs
      → IsPermutation (flat_map f (set views i w)) (flat_map f views ++ xs)
  more_in [] i v w xs at is = absurd (some-ne-none v (sym at))
  more_in (u ∷ us) zero v w xs at is =
      let here : u ≡ v = cc in
      let head : f w ≡ f u ++ xs = is ∙ ap (λ x. f x ++ xs) (sym here) in
      subst (λ l. IsPermutation (l ++ flat_map f us) ((f u ++ flat_map f us) ++ xs)) (sym head) (last_two (f u) xs (flat_map f us))
  more_in (u ∷ us) (suc i) v w xs at is =
      subst (IsPermutation (f u ++ flat_map f (set us i w))) (sym (append_assoc (f u) (flat_map f us) xs))
      (IsPermutation-append_right (f u) _ _ (more_in us i v w xs at is))

  -- one pass has as much
  same_in : (views : List Hand) (i : ℕ) (v w : Hand) → get_elem? views i ≡ some v → f w ≡ f v → flat_map f (set views i w) ≡ flat_map f views
  same_in [] i v w at is = absurd (some-ne-none v (sym at))
  same_in (u ∷ us) zero v w at is = let here : u ≡ v = cc in ap (λ l. l ++ flat_map f us) (is ∙ ap f (sym here))
  same_in (u ∷ us) (suc i) v w at is = ap (λ l. f u ++ l) (same_in us i v w at is)

  -- one pass has nothing more
  none_in : (views : List Hand) (i : ℕ) (v w : Hand) → get_elem? views i ≡ some v → f w ≡ [] → IsPermutation (f v ++ flat_map f (set views i w)) (flat_map f views)
  none_in [] i v w at is = absurd (some-ne-none v (sym at))
  none_in (u ∷ us) zero v w at is =
      let here : u ≡ v = cc in
      subst (λ l. IsPermutation (f v ++ (l ++ flat_map f us)) (f u ++ flat_map f us)) (sym is)
      (subst (λ l. IsPermutation (l ++ flat_map f us) (f u ++ flat_map f us)) (ap f here) (IsPermutation-refl _))
  none_in (u ∷ us) (suc i) v w at is =
      let rest = none_in us i v w at is in
      let turned : IsPermutation (f v ++ (f u ++ flat_map f (set us i w))) (f u ++ (f v ++ flat_map f (set us i w))) =
      subst (λ l. IsPermutation l (f u ++ (f v ++ flat_map f (set us i w)))) (append_assoc (f v) (f u) _)
      (subst (IsPermutation ((f v ++ f u) ++ flat_map f (set us i w))) (append_assoc (f u) (f v) _)
      (IsPermutation-append_left (flat_map f (set us i w)) _ _ (IsPermutation-append_comm (f v) (f u)))) in
      IsPermutation-trans _ _ _ turned (IsPermutation-append_right (f u) _ _ rest)

  -- what one pass has goes to another
  given_in : (views : List Hand) (i j : ℕ) (v w both spent : Hand) → get_elem? views i ≡ some v → get_elem? views j ≡ some w → j ≢ i
      → f both ≡ f v ++ f w → f spent ≡ [] → IsPermutation (flat_map f (set (set views i both) j spent)) (flat_map f views)
  given_in [] i j v w both spent at there apart is none = absurd (some-ne-none v (sym at))
  given_in (u ∷ us) zero zero v w both spent at there apart is none = absurd (apart refl)
  given_in (u ∷ us) zero (suc j) v w both spent at there apart is none =
      let here : u ≡ v = cc in
      let head : f both ≡ f u ++ f w = is ∙ ap (λ x. f x ++ f w) (sym here) in
      subst (λ l. IsPermutation (l ++ flat_map f (set us j spent)) (f u ++ flat_map f us)) (sym head)
      (subst (λ l. IsPermutation l (f u ++ flat_map f us)) (sym (append_assoc (f u) (f w) _))
      (IsPermutation-append_right (f u) _ _ (none_in us j w spent there none)))
  given_in (u ∷ us) (suc i) zero v w both spent at there apart is none =
      let here : u ≡ w = cc in
      subst (λ l. IsPermutation (l ++ flat_map f (set us i both)) (f u ++ flat_map f us)) (sym none)
      (IsPermutation-trans _ _ _ (more_in us i v both (f w) at is)
      (subst (λ l. IsPermutation (flat_map f us ++ l) (f u ++ flat_map f us)) (ap f here) (IsPermutation-append_comm (flat_map f us) (f u))))
  given_in (u ∷ us) (suc i) (suc j) v w both spent at there apart is none =
      IsPermutation-append_right (f u) _ _ (given_in us i j v w both spent at there (λ e. apart (ap suc e)) is none)

-- ---- parts

parts_set : (views : List Hand) (i : ℕ) (v w : Hand) → get_elem? views i ≡ some v → total_parts (set views i w) + v.parts ≡ total_parts views + w.parts
parts_set [] i v w at = absurd (some-ne-none v (sym at))
parts_set (u ∷ us) zero v w at = let here : u ≡ v = cc in let same = ap (λ (x : Hand). x.parts) here in omega (arith, same)
parts_set (u ∷ us) (suc i) v w at = let rest = parts_set us i v w at in omega (arith, rest)

parts_push : (views : List Hand) (w : Hand) → total_parts (views ++ w ∷ []) ≡ total_parts views + w.parts
parts_push [] w = omega arith
parts_push (u ∷ us) w = let rest = parts_push us w in omega (arith, rest)

idle_set : (views : List Hand) (i : ℕ) (w : Hand) → (w.parts ≡ 0 → (w.put ≡ []) × (w.taken ≡ [])) → IdleIsEmpty views → IdleIsEmpty (set views i w)
idle_set views i w mine others j u at = ⊎_elim (λ (x : (j ≡ i) × (w ≡ u)). subst (λ (y : Hand). y.parts ≡ 0 → (y.put ≡ []) × (y.taken ≡ [])) x.1 mine)
    (λ (x : (j ≢ i) × (get_elem? views j ≡ some u)). others j u x.1) (at_set views i j w u at)

idle_push : (views : List Hand) (w : Hand) → w.parts ≢ 0 → IdleIsEmpty views → IdleIsEmpty (views ++ w ∷ [])
idle_push views w some_part others j u at = ⊎_elim (λ x. others j u x)
    (λ (is : w ≡ u). λ none. absurd (some_part (ap (λ (y : Hand). y.parts) is ∙ none))) (at_snoc views w u j at)

-- where no pass has a part, none has anything
all_idle : (f : Hand → List Bucket) (views : List Hand) → ((j : ℕ) (u : Hand) → get_elem? views j ≡ some u → u.parts ≡ 0 → f u ≡ []) → total_parts views ≡ 0
    → flat_map f views ≡ []
all_idle f [] idle none = refl
all_idle f (u ∷ us) idle none =
    let here : f u ≡ [] = idle 0 u refl (omega (arith, none)) in
    let rest : flat_map f us ≡ [] = all_idle f us (λ j x at. idle (suc j) x at) (omega (arith, none)) in
    ap (λ l. l ++ flat_map f us) here ∙ rest

-- where one pass has all parts, it has all
one_has : (f : Hand → List Bucket) (views : List Hand) (i : ℕ) (v : Hand) → ((j : ℕ) (u : Hand) → get_elem? views j ≡ some u → u.parts ≡ 0 → f u ≡ [])
    → get_elem? views i ≡ some v → total_parts views ≡ v.parts → flat_map f views ≡ f v
one_has f [] i v idle at all = absurd (some-ne-none v (sym at))
one_has f (u ∷ us) zero v idle at all =
    let here : u ≡ v = cc in
    let same = ap (λ (x : Hand). x.parts) here in
    ap (λ l. f u ++ l) (all_idle f us (λ j x there. idle (suc j) x there) (omega (arith, same, all))) ∙ append-nil (f u) ∙ ap f here
one_has f (u ∷ us) (suc i) v idle at all =
    let within = parts_within us i v at in
    ap (λ l. l ++ flat_map f us) (idle 0 u refl (omega (arith, all, within))) ∙ one_has f us i v (λ j x there. idle (suc j) x there) at (omega (arith, all, within))
  where
    parts_within : (views : List Hand) (i : ℕ) (v : Hand) → get_elem? views i ≡ some v → (rest : ℕ) × (total_parts views ≡ v.parts + rest)
    parts_within [] i v at = absurd (some-ne-none v (sym at))
    parts_within (u ∷ us) zero v at = let here : u ≡ v = cc in (total_parts us, ap (λ (x : Hand). x.parts + total_parts us) here)
    parts_within (u ∷ us) (suc i) v at = let rest = parts_within us i v at in (u.parts + rest.0, omega (arith, rest.1))

-- ---- the moves

-- a new queue, with one pass that has all parts
pub begins : IsBalanced [] (hand all_parts [] [] ∷ [])
begins = record { parts = refl; each_once = IsPermutation-refl []; idle = λ j v at. only j v at }
  where
    only : (j : ℕ) (v : Hand) → get_elem? (hand all_parts [] [] ∷ []) j ≡ some v → v.parts ≡ 0 → (v.put ≡ []) × (v.taken ≡ [])
    only zero v at none = let here : hand all_parts [] [] ≡ v = cc in absurd (let p : all_parts ≡ 0 = ap (λ (x : Hand). x.parts) here ∙ none in omega (arith, p))
    only (suc j) v at none = absurd (some-ne-none v (sym at))

-- a pass with a part puts a bucket
pub puts : (n i : ℕ) (v : Hand) (x : Bucket) → 0 < v.parts → Pushes IsBalanced n i v x (λ w. w ≡ hand v.parts (v.put ++ x ∷ []) v.taken)
puts n i v x part items views room b at =
    let w : Hand = hand v.parts (v.put ++ x ∷ []) v.taken in
    let s = parts_set views i v w at in (
      w,
      record {
        parts = omega (arith, s, b.parts);
        each_once = IsPermutation-trans _ _ _ (more_in put_of views i v w (x ∷ []) at refl)
            (IsPermutation-trans _ _ _ (IsPermutation-append_left (x ∷ []) _ _ b.each_once)
            (subst (λ l. IsPermutation ((flat_map taken_of views ++ items) ++ x ∷ []) (l ++ (items ++ x ∷ []))) (sym (same_in taken_of views i v w at refl))
            (subst (IsPermutation ((flat_map taken_of views ++ items) ++ x ∷ [])) (append_assoc (flat_map taken_of views) items (x ∷ [])) (IsPermutation-refl _))));
        idle = idle_set views i w (λ none. absurd (omega (arith, part, none))) b.idle;
      },
      refl,
    )

-- or takes the first one
pub takes : (i : ℕ) (v : Hand) → 0 < v.parts → Pops IsBalanced i v (λ x w. w ≡ hand v.parts v.put (v.taken ++ x ∷ []))
takes i v part x items views b at =
    let w : Hand = hand v.parts v.put (v.taken ++ x ∷ []) in
    let s = parts_set views i v w at in (
      w,
      record {
        parts = omega (arith, s, b.parts);
        each_once = subst (λ l. IsPermutation l (flat_map taken_of (set views i w) ++ items)) (sym (same_in put_of views i v w at refl))
            (IsPermutation-trans _ _ _ b.each_once
            (subst (λ l. IsPermutation l (flat_map taken_of (set views i w) ++ items)) (append_assoc (flat_map taken_of views) (x ∷ []) items)
            (IsPermutation-append_left items _ _ (IsPermutation-sym _ _ (more_in taken_of views i v w (x ∷ []) at refl)))));
        idle = idle_set views i w (λ none. absurd (omega (arith, part, none))) b.idle;
      },
      refl,
    )

-- a pass gives one of its parts to a new one, which has put and taken nothing
pub forks : (i : ℕ) (v : Hand) → 1 < v.parts → Forks IsBalanced i v (hand (v.parts - 1) v.put v.taken) (hand 1 [] [])
forks i v part items views b at =
    let l : Hand = hand (v.parts - 1) v.put v.taken in
    let r : Hand = hand 1 [] [] in
    let s = parts_set views i v l at in
    let p = parts_push (set views i l) r in
    let all : (f : Hand → List Bucket) → f l ≡ f v → f r ≡ [] → flat_map f (set views i l ++ r ∷ []) ≡ flat_map f views =
    λ f same none. flat_map-append f (set views i l) (r ∷ []) ∙ ap (λ m. flat_map f (set views i l) ++ (m ++ [])) none ∙ append-nil _ ∙ same_in f views i v l at same in
    record {
      parts = omega (arith, s, p, b.parts, part);
      each_once = subst (λ m. IsPermutation m (flat_map taken_of (set views i l ++ r ∷ []) ++ items)) (sym (all put_of refl refl))
          (subst (λ m. IsPermutation (flat_map put_of views) (m ++ items)) (sym (all taken_of refl refl)) b.each_once);
      idle = idle_push (set views i l) r (λ none. omega (arith, none)) (idle_set views i l (λ none. absurd (omega (arith, part, none))) b.idle);
    }

-- a pass takes in another with all that it has
pub merges : (i : ℕ) (v : Hand) (j : ℕ) (u : Hand) → 0 < v.parts → Merges IsBalanced i v j u (hand (v.parts + u.parts) (v.put ++ u.put) (v.taken ++ u.taken)) (hand 0 [] [])
merges i v j u part items views b at apart there' =
    let both : Hand = hand (v.parts + u.parts) (v.put ++ u.put) (v.taken ++ u.taken) in
    let spent : Hand = hand 0 [] [] in
    let there : get_elem? views j ≡ some u = ⊎_elim (λ x. absurd (apart x.0)) (λ x. x.1) (at_set views i j both u there') in
    let s = parts_set views i v both at in
    let t = parts_set (set views i both) j u spent there' in
    record {
      parts = omega (arith, s, t, b.parts);
      each_once = IsPermutation-trans _ _ _ (given_in put_of views i j v u both spent at there apart refl refl)
          (IsPermutation-trans _ _ _ b.each_once
          (IsPermutation-append_left items _ _ (IsPermutation-sym _ _ (given_in taken_of views i j v u both spent at there apart refl refl))));
      idle = idle_set (set views i both) j spent (λ none. (refl, refl)) (idle_set views i both (λ none. absurd (omega (arith, part, none))) b.idle);
    }

-- the pass that has all parts knows what the queue holds
pub totals : (i : ℕ) (v : Hand) → Learns IsBalanced i v (λ items. v.parts ≡ all_parts → IsPermutation v.put (v.taken ++ items))
totals i v items views b at whole =
    let all : total_parts views ≡ v.parts = b.parts ∙ sym whole in
    subst (λ l. IsPermutation l (v.taken ++ items)) (one_has put_of views i v (λ j u there none. (b.idle j u there none).0) at all)
    (subst (λ l. IsPermutation (flat_map put_of views) (l ++ items)) (one_has taken_of views i v (λ j u there none. (b.idle j u there none).1) at all) b.each_once)
