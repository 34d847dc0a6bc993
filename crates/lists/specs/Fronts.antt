-- What a list begins with.
use Rattle.std.specs.Prelude.{◌≡◌, ◌≤◌, ℕ, List, [], ◌∷◌, ◌++◌, length, take, drop}
use Rattle.std.proofs.Common.{refl, sym, ◌∙◌, ap, arith}
use Rattle.std.proofs.lemmas.List.{take_at, take-take, length-take, take-append-drop, drop_at}

-- the list begins with these items
abbrev pub IsFront : {A : Type 0} → List A → List A → Type 0
IsFront front list = take (length front) list ≡ front

module _ {A : Type 0} where
  pub front_refl : (a : List A) → IsFront a a
  front_refl [] = refl
  front_refl (x ∷ xs) = ap (λ (l : List A). x ∷ l) (front_refl xs)

  pub front_none : (c : List A) → IsFront [] c
  front_none c = refl

  pub front_append : (a b : List A) → IsFront a (a ++ b)
  front_append a b = take_at a b (length a) refl

  pub front_length : (a b : List A) → IsFront a b → length a ≤ length b
  front_length a b front = omega (arith, ap length front, length-take (length a) b)

  -- what stands behind the front
  pub front_rest : (a b : List A) → IsFront a b → a ++ drop (length a) b ≡ b
  front_rest a b front = ap (λ (l : List A). l ++ drop (length a) b) (sym front) ∙ take-append-drop (length a) b

  -- with something behind it a list is a front
  pub front_from : (a rest b : List A) → a ++ rest ≡ b → IsFront a b
  front_from a rest b whole = ap (take (length a)) (sym whole) ∙ front_append a rest

  pub front_take : (count : ℕ) (b : List A) → IsFront (take count b) b
  front_take count b = front_from (take count b) (drop count b) b (take-append-drop count b)

  pub front_then : (a b c : List A) → IsFront a b → IsFront b c → IsFront a c
  front_then a b c first next =
      let less = front_length a b first in
      sym (take-take (length a) (length b) c less) ∙ ap (take (length a)) next ∙ first

  -- what a list begins with, it begins with when it has grown
  pub front_grown : (a b more : List A) → IsFront a b → IsFront a (b ++ more)
  front_grown a b more front = front_then a b (b ++ more) front (front_append b more)

  -- of two fronts of one list the shorter is a front of the other
  pub front_within : (a b c : List A) → IsFront a c → IsFront b c → length a ≤ length b → IsFront a b
  front_within a b c first next less = ap (take (length a)) (sym next) ∙ take-take (length a) (length b) c less ∙ first

  -- two fronts of one length are one
  pub front_same : (a b c : List A) → IsFront a c → IsFront b c → length a ≡ length b → a ≡ b
  front_same a b c first next same = sym first ∙ ap (λ n. take n c) same ∙ next

  -- equal lists with fronts of one length have equal fronts and equal rests
  pub same_parts : (a b x y : List A) → length a ≡ length b → a ++ x ≡ b ++ y → (a ≡ b) × (x ≡ y)
  same_parts a b x y n e =
      let front : a ≡ b = sym (take_at a x (length a) refl) ∙ ap (take (length a)) e ∙ take_at b y (length a) (sym n) in
      let rest : x ≡ y = sym (drop_at a x (length a) refl) ∙ ap (drop (length a)) e ∙ drop_at b y (length a) (sym n) in
      (front, rest)
