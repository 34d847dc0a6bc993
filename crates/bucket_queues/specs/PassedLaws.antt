-- Buckets are passed on one after another.
use Rattle.std.specs.Prelude.{◌≡◌, ◌++◌, ◌∷◌, [], ◌⊎◌, List}
use Rattle.std.proofs.Common.{inl, inr, refl, sym, ap, subst, ◌∙◌, append_assoc}
use Rattle.std.specs.List.Sorted.{IsPermutation}
use Rattle.std.proofs.lemmas.List.{append-nil}
use Rattle.std.proofs.lemmas.List.Sorted.{IsPermutation-refl, IsPermutation-sym, IsPermutation-trans, IsPermutation-append, IsPermutation-append_left, IsPermutation-append_right, IsPermutation-append_comm}
use Rattle.wire_form.specs.declared.bucket.Bucket.{Bucket}
use Rattle.bucket_queues.specs.Balance.{hand}
use Rattle.bucket_queues.specs.declared.rule.Hand.{Hand}
use Rattle.bucket_queues.specs.Passed.{HavePassed}

module _ {X : Type 0} where
  -- (a ++ b) ++ (c ++ d) in the order a, c, b, d
  pub inner_two : (a b c d : List X) → IsPermutation ((a ++ b) ++ (c ++ d)) ((a ++ c) ++ (b ++ d))
  inner_two a b c d =
      subst (λ l. IsPermutation l ((a ++ c) ++ (b ++ d))) (sym (append_assoc a b (c ++ d)))
      (subst (IsPermutation (a ++ (b ++ (c ++ d)))) (sym (append_assoc a c (b ++ d)))
      (IsPermutation-append_right a _ _
      (subst (λ l. IsPermutation l (c ++ (b ++ d))) (append_assoc b c d)
      (subst (IsPermutation ((b ++ c) ++ d)) (append_assoc c b d) (IsPermutation-append_left d _ _ (IsPermutation-append_comm b c))))))

  -- two lists of three parts each, part by part
  pub three_parts : (a b c x y z : List X) → IsPermutation (((a ++ b) ++ c) ++ ((x ++ y) ++ z)) (((a ++ x) ++ (b ++ y)) ++ (c ++ z))
  three_parts a b c x y z =
      IsPermutation-trans _ _ _ (inner_two (a ++ b) c (x ++ y) z) (IsPermutation-append_left (c ++ z) _ _ (inner_two a b x y))

-- nothing was passed on so far
pub passed_none : (e o : Hand) (was : List Bucket) → HavePassed e e o o was was []
passed_none e o was = record {
  to_even = [];
  to_odd = [];
  back = [];
  even_is = ap (λ l. hand e.parts l e.taken) (sym (append-nil e.put));
  odd_is = ap (λ l. hand o.parts l o.taken) (sym (append-nil o.put));
  back_is = sym (append-nil was);
  all = IsPermutation-refl [];
}

-- more is passed on
pub passed_then : (e e1 e2 o o1 o2 : Hand) (was mid is made more : List Bucket) → HavePassed e e1 o o1 was mid made → HavePassed e1 e2 o1 o2 mid is more
    → HavePassed e e2 o o2 was is (made ++ more)
passed_then e e1 e2 o o1 o2 was mid is made more one two = record {
  to_even = one.to_even ++ two.to_even;
  to_odd = one.to_odd ++ two.to_odd;
  back = one.back ++ two.back;
  even_is = two.even_is ∙ ap (λ (x : Hand). hand x.parts (x.put ++ two.to_even) x.taken) one.even_is
      ∙ ap (λ l. hand e.parts l e.taken) (append_assoc e.put one.to_even two.to_even);
  odd_is = two.odd_is ∙ ap (λ (x : Hand). hand x.parts (x.put ++ two.to_odd) x.taken) one.odd_is
      ∙ ap (λ l. hand o.parts l o.taken) (append_assoc o.put one.to_odd two.to_odd);
  back_is = two.back_is ∙ ap (λ l. l ++ two.back) one.back_is ∙ append_assoc was one.back two.back;
  all = IsPermutation-trans _ _ _ (IsPermutation-append made _ more _ one.all two.all)
      (three_parts one.to_even one.to_odd one.back two.to_even two.to_odd two.back);
}

-- one bucket went into the first queue
pub passed_even : (e e1 o : Hand) (was : List Bucket) (b : Bucket) → e1 ≡ hand e.parts (e.put ++ b ∷ []) e.taken → HavePassed e e1 o o was was (b ∷ [])
passed_even e e1 o was b is = record {
  to_even = b ∷ [];
  to_odd = [];
  back = [];
  even_is = is;
  odd_is = ap (λ l. hand o.parts l o.taken) (sym (append-nil o.put));
  back_is = sym (append-nil was);
  all = IsPermutation-refl (b ∷ []);
}

-- one into the second
pub passed_odd : (e o o1 : Hand) (was : List Bucket) (b : Bucket) → o1 ≡ hand o.parts (o.put ++ b ∷ []) o.taken → HavePassed e e o o1 was was (b ∷ [])
passed_odd e o o1 was b is = record {
  to_even = [];
  to_odd = b ∷ [];
  back = [];
  even_is = ap (λ l. hand e.parts l e.taken) (sym (append-nil e.put));
  odd_is = is;
  back_is = sym (append-nil was);
  all = IsPermutation-refl (b ∷ []);
}

-- one was kept back
pub passed_back : (e o : Hand) (was is : List Bucket) (b : Bucket) → is ≡ was ++ b ∷ [] → HavePassed e e o o was is (b ∷ [])
passed_back e o was is b there = record {
  to_even = [];
  to_odd = [];
  back = b ∷ [];
  even_is = ap (λ l. hand e.parts l e.taken) (sym (append-nil e.put));
  odd_is = ap (λ l. hand o.parts l o.taken) (sym (append-nil o.put));
  back_is = there;
  all = IsPermutation-refl (b ∷ []);
}

-- what one queue's answer means
abbrev pub PutOrBack : Hand → Hand → List Bucket → List Bucket → Bucket → Type 0
PutOrBack v w was is b = ((w ≡ hand v.parts (v.put ++ b ∷ []) v.taken) × (is ≡ was)) ⊎ ((w ≡ v) × (is ≡ was ++ b ∷ []))

-- a bucket was put into the first queue, or kept back
pub one_even : (e e1 o : Hand) (was is : List Bucket) (b : Bucket) → PutOrBack e e1 was is b → HavePassed e e1 o o was is (b ∷ [])
one_even e e1 o was is b (inl put) = subst (λ l. HavePassed e e1 o o was l (b ∷ [])) (sym put.1) (passed_even e e1 o was b put.0)
one_even e e1 o was is b (inr kept) = subst (λ x. HavePassed e x o o was is (b ∷ [])) (sym kept.0) (passed_back e o was is b kept.1)

-- or so with the second
pub one_odd : (e o o1 : Hand) (was is : List Bucket) (b : Bucket) → PutOrBack o o1 was is b → HavePassed e e o o1 was is (b ∷ [])
one_odd e o o1 was is b (inl put) = subst (λ l. HavePassed e e o o1 was l (b ∷ [])) (sym put.1) (passed_odd e o o1 was b put.0)
one_odd e o o1 was is b (inr kept) = subst (λ x. HavePassed e e o x was is (b ∷ [])) (sym kept.0) (passed_back e o was is b kept.1)
