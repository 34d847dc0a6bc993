-- Buckets go by turns, one after another.
use Rattle.std.specs.Prelude.{◌≡◌, ◌⊎◌, ◌++◌, ◌∷◌, [], List, Bool, true, false, not}
use Rattle.std.proofs.Common.{inl, inr, refl, sym, ap, subst, ◌∙◌, append_assoc}
use Rattle.std.proofs.lemmas.List.{append-nil}
use Rattle.wire_form.specs.declared.bucket.Bucket.{Bucket}
use Rattle.bucket_queues.specs.declared.rule.Hand.{Hand}
use Rattle.bucket_queues.specs.PassedLaws.{PutOrBack}
use Rattle.bucket_queues.specs.Turns.{GoByTurns, IsPart, MayGrow, TakesTurn, at_turns}

-- whether it is the turn behind these items, where that of the first one is told
abbrev pub turn_after : {X : Type 0} → List X → Bool → Bool
turn_after [] first = first
turn_after (x ∷ xs) first = turn_after xs (not first)

module _ {X : Type 0} where
  -- one item more at the end of both
  part_push : (xs ys : List X) (x : X) → IsPart xs ys → IsPart (xs ++ x ∷ []) (ys ++ x ∷ [])
  part_push [] [] x part = inl (refl, tt)
  part_push [] (y ∷ ys) x part = inr (part_push [] ys x tt)
  part_push (a ∷ xs) [] x part = absurd part
  part_push (a ∷ xs) (y ∷ ys) x (inl here) = inl (here.0, part_push xs ys x here.1)
  part_push (a ∷ xs) (y ∷ ys) x (inr later) = inr (part_push (a ∷ xs) ys x later)

  -- one item more at the end of the second
  part_more : (xs ys : List X) (y : X) → IsPart xs ys → IsPart xs (ys ++ y ∷ [])
  part_more [] ys y part = tt
  part_more (a ∷ xs) [] y part = absurd part
  part_more (a ∷ xs) (b ∷ ys) y (inl here) = inl (here.0, part_more xs ys y here.1)
  part_more (a ∷ xs) (b ∷ ys) y (inr later) = inr (part_more (a ∷ xs) ys y later)

  -- an item more is one at its turn, or none
  turns_push : (xs : List X) (first : Bool) (x : X)
      → at_turns (xs ++ x ∷ []) first ≡ at_turns xs first ++ at_turns (x ∷ []) (turn_after xs first)
  turns_push [] first x = refl
  turns_push (y ∷ ys) true x = ap (λ l. y ∷ l) (turns_push ys false x)
  turns_push (y ∷ ys) false x = turns_push ys true x

  -- the turn goes over with each item
  pub turn_push : (xs : List X) (first : Bool) (x : X) → turn_after (xs ++ x ∷ []) first ≡ not (turn_after xs first)
  turn_push [] first x = refl
  turn_push (y ∷ ys) first x = turn_push ys (not first) x

  -- of two turns one is the other's opposite
  turn_other : (xs : List X) (first : Bool) → turn_after xs (not first) ≡ not (turn_after xs first)
  turn_other [] first = refl
  turn_other (y ∷ ys) first = turn_other ys (not first)

-- a queue's answer tells whether it got the bucket
may_grow : (v w : Hand) (was is : List Bucket) (bucket : Bucket) → PutOrBack v w was is bucket
    → MayGrow v.put w.put bucket
may_grow v w was is bucket (inl put) = inl (ap (λ (x : Hand). x.put) put.0)
may_grow v w was is bucket (inr kept) = inr (ap (λ (x : Hand). x.put) kept.0)

-- a bucket at the turn of the second queue
pub turn_odd : (to_odd : Bool) (even : List Bucket) (odd odd_now : Hand) (was is : List Bucket) (bucket : Bucket)
    → to_odd ≡ true → PutOrBack odd odd_now was is bucket → TakesTurn to_odd even even odd.put odd_now.put bucket
turn_odd true even odd odd_now was is bucket this put = (refl, may_grow odd odd_now was is bucket put)
turn_odd false even odd odd_now was is bucket this put = absurd cc

-- and one at that of the first
pub turn_even : (to_odd : Bool) (even even_now : Hand) (odd was is : List Bucket) (bucket : Bucket) → to_odd ≡ false
    → PutOrBack even even_now was is bucket → TakesTurn to_odd even.put even_now.put odd odd bucket
turn_even true even even_now odd was is bucket this put = absurd cc
turn_even false even even_now odd was is bucket this put = (may_grow even even_now was is bucket put, refl)

-- no bucket so far
pub turns_none : (even odd : List Bucket) → GoByTurns even even odd odd []
turns_none even odd = record {
  to_even = [];
  to_odd = [];
  even_is = sym (append-nil even);
  odd_is = sym (append-nil odd);
  at_even = tt;
  at_odd = tt;
}

-- what a queue got of those at its turn
record Got (old new turn : List Bucket) : Type 0 where
  to : List Bucket
  is : new ≡ old ++ to
  part : IsPart to turn

-- one bucket at its turn
got_one : (old mid new turn next to : List Bucket) (bucket : Bucket) → mid ≡ old ++ to → IsPart to turn
    → next ≡ turn ++ bucket ∷ [] → MayGrow mid new bucket → Got old new next
got_one old mid new turn next to bucket is part more (inl grown) = record {
  to = to ++ bucket ∷ [];
  is = grown ∙ ap (λ l. l ++ bucket ∷ []) is ∙ append_assoc old to (bucket ∷ []);
  part = subst (IsPart (to ++ bucket ∷ [])) (sym more) (part_push to turn bucket part);
}
got_one old mid new turn next to bucket is part more (inr same) = record {
  to = to;
  is = same ∙ is;
  part = subst (IsPart to) (sym more) (part_more to turn bucket part);
}

-- and one at the other's
got_none : (old mid new turn next to : List Bucket) → mid ≡ old ++ to → IsPart to turn → next ≡ turn ++ [] → new ≡ mid
    → Got old new next
got_none old mid new turn next to is part more same = record {
  to = to;
  is = same ∙ is;
  part = subst (IsPart to) (sym (more ∙ append-nil turn)) part;
}

-- what a bucket more adds to those at a turn
added : (made : List Bucket) (first turn : Bool) (bucket : Bucket) → turn_after made first ≡ turn
    → at_turns (made ++ bucket ∷ []) first ≡ at_turns made first ++ at_turns (bucket ∷ []) turn
added made first turn bucket is =
    turns_push made first bucket ∙ ap (λ b. at_turns made first ++ at_turns (bucket ∷ []) b) is

-- one bucket more goes by its turn
pub turns_then : (to_odd : Bool) (even even_mid even_now odd odd_mid odd_now made : List Bucket) (bucket : Bucket)
    → to_odd ≡ turn_after made false → GoByTurns even even_mid odd odd_mid made
    → TakesTurn to_odd even_mid even_now odd_mid odd_now bucket
    → GoByTurns even even_now odd odd_now (made ++ bucket ∷ [])
turns_then true even even_mid even_now odd odd_mid odd_now made bucket turn so_far takes =
    let first = got_none even even_mid even_now (at_turns made true) _ so_far.to_even so_far.even_is so_far.at_even
    (added made true false bucket (turn_other made false ∙ ap not (sym turn))) takes.0 in
    let second = got_one odd odd_mid odd_now (at_turns made false) _ so_far.to_odd bucket so_far.odd_is so_far.at_odd
    (added made false true bucket (sym turn)) takes.1 in
    record {
      to_even = first.to;
      to_odd = second.to;
      even_is = first.is;
      odd_is = second.is;
      at_even = first.part;
      at_odd = second.part;
    }
turns_then false even even_mid even_now odd odd_mid odd_now made bucket turn so_far takes =
    let first = got_one even even_mid even_now (at_turns made true) _ so_far.to_even bucket so_far.even_is
    so_far.at_even
    (added made true true bucket (turn_other made false ∙ ap not (sym turn))) takes.0 in
    let second = got_none odd odd_mid odd_now (at_turns made false) _ so_far.to_odd so_far.odd_is so_far.at_odd
    (added made false false bucket (sym turn)) takes.1 in
    record {
      to_even = first.to;
      to_odd = second.to;
      even_is = first.is;
      odd_is = second.is;
      at_even = first.part;
      at_odd = second.part;
    }
