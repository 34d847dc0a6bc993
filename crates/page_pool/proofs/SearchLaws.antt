-- What was looked at, one word after another.
use Rattle.std.proofs.Common.{◌≡◌, ◌<◌, ℕ, suc, ◌+◌, eqb, ne_eqb, Bool, true, false, List, [], ◌∷◌, ◌++◌, length}
use Rattle.std.proofs.Common.{Option, Some, None, refl, sym, ap, ◌∙◌, subst, arith, length-append}
use Rattle.std.specs.Prelude.{cond, not, ◌&&◌, Result, Ok, Err, IfOk, IfErr}
use Rattle.std.specs.List.{last_or, list_all}
use Rattle.std.specs.Option.{option_or}
use Rattle.std.proofs.lemmas.Bool.{and_parts, and_from}
use Rattle.engine_pages.specs.declared.view.Glance.{Glance}
use Rattle.engine_pages.specs.declared.view.View.{View}
use Rattle.engine_pages.specs.Layout.{slot_at}
use Rattle.engine_pages.specs.Slots.{is_usable_word, looked_at}
use Rattle.engine_pages.specs.Steps.{glance}
use Rattle.engine_pages.specs.Steps.{glanced}
use Rattle.page_pool.specs.declared.pool.PoolRefusal.{PoolRefusal}
use Rattle.page_pool.specs.declared.pool.PoolRefusal.TheVariants as refusals
use Rattle.page_pool.specs.Pool.{first_retired, retired_one, is_taken_word, looks, HasLooked, IsFull, IsFirst, HasTaken}
use Rattle.page_pool.specs.Pool.{HasMissed, HasFound}

pub taken_more : (xs : List ℕ) (n : ℕ) → list_all is_taken_word xs ≡ true → is_usable_word n ≡ false
    → list_all is_taken_word (xs ++ n ∷ []) ≡ true
taken_more [] n all free = ap (λ b. not b && true) free
taken_more (x ∷ xs) n all free =
    let parts = and_parts (is_taken_word x) (list_all is_taken_word xs) all in
    and_from (is_taken_word x) (list_all is_taken_word (xs ++ n ∷ [])) parts.0 (taken_more xs n parts.1 free)

or_none : {A : Type 0} (x : Option A) → option_or x None ≡ x
or_none None = refl
or_none (Some a) = refl

or_or : {A : Type 0} (x y z : Option A) → option_or x (option_or y z) ≡ option_or (option_or x y) z
or_or None y z = refl
or_or (Some a) y z = refl

pub retired_more : (xs : List ℕ) (t n k : ℕ) → k ≡ t + length xs
    → first_retired t (xs ++ n ∷ []) ≡ option_or (first_retired t xs) (retired_one k n)
retired_more [] t n k at =
    let here : t ≡ k = omega (arith, at) in or_none (retired_one t n) ∙ ap (λ i. retired_one i n) here
retired_more (x ∷ xs) t n k at =
    let next : k ≡ suc t + length xs = omega (arith, at) in
    ap (option_or (retired_one t x)) (retired_more xs (suc t) n k next)
    ∙ or_or (retired_one t x) (first_retired (suc t) xs) (retired_one k n)

looks_more : (xs : List ℕ) (step t n i k : ℕ) → i ≡ step + length xs → k ≡ t + length xs
    → looks step t (xs ++ n ∷ []) ≡ looks step t xs ++ glance i (slot_at k) n ∷ []
looks_more [] step t n i k at-step at =
    let one : step ≡ i = omega (arith, at-step) in
    let two : t ≡ k = omega (arith, at) in
    ap (λ j. glance j (slot_at t) n ∷ []) one ∙ ap (λ j. glance i (slot_at j) n ∷ []) two
looks_more (x ∷ xs) step t n i k at-step at =
    let one : i ≡ suc step + length xs = omega (arith, at-step) in
    let two : k ≡ suc t + length xs = omega (arith, at) in
    ap (λ (l : List Glance). glance step (slot_at t) x ∷ l) (looks_more xs (suc step) (suc t) n i k one two)

-- the last of a list that ends with this one
last_push : {A : Type 0} (o : Option A) (xs : List A) (x : A) → last_or o (xs ++ x ∷ []) ≡ Some x
last_push o [] x = refl
last_push o (y ∷ xs) x = last_push (Some y) xs x

-- ---- the words of the first slots were looked at, as a call began with the view v

-- these are the words, with nothing told of the list where there are none
pub record LooksBelow (words : List ℕ) (t : ℕ) (v u : View) : Type 0 where
  pub count : length words ≡ t
  pub taken : list_all is_taken_word words ≡ true
  pub steps : u.steps ≡ v.steps + t
  pub looked : cond (eqb t 0) [] u.looked ≡ looks v.steps 0 words
  pub last : u.last ≡ last_or v.last (looks v.steps 0 words)
  pub only : u ≡ record v { steps = u.steps; last = u.last; looked = u.looked }

-- one more
pub looked_on : (words : List ℕ) (t n : ℕ) (v u w : View) → w ≡ looked_at t n u → LooksBelow words t v u
    → HasLooked (words ++ n ∷ []) v w
looked_on words t n v u w is below =
    let steps : w.steps ≡ u.steps + 1 = ap (λ (z : View). z.steps) is in
    let was = below.steps in
    let count = below.count in
    let long = length-append words (n ∷ []) in
    let more : looks v.steps 0 (words ++ n ∷ []) ≡ looks v.steps 0 words ++ glance u.steps (slot_at t) n ∷ [] =
    looks_more words v.steps 0 n u.steps t (omega arith) (omega arith) in record {
      steps = omega arith;
      looked =
          ap (λ (z : View). z.looked) is
          ∙ (ap (λ (l : List Glance). l ++ glance u.steps (slot_at t) n ∷ []) below.looked ∙ sym more);
      last =
          ap (λ (z : View). z.last) is
          ∙ (sym (last_push v.last (looks v.steps 0 words) (glance u.steps (slot_at t) n))
          ∙ ap (last_or v.last) (sym more));
      only = is ∙ (ap (λ (z : View). looked_at t n z) below.only ∙ again);
    }
  where
    again : looked_at t n (record v { steps = u.steps; last = u.last; looked = u.looked })
        ≡ record v { steps = w.steps; last = w.last; looked = w.looked }
    again =
        sym (subst (λ (z : View). (let y : View = record v { steps = z.steps; last = z.last; looked = z.looked } in y)
        ≡ looked_at t n (record v { steps = u.steps; last = u.last; looked = u.looked })) (sym is) refl)

-- and where it wasn't usable either
pub looks_on : (words : List ℕ) (t n : ℕ) (v u w : View) → w ≡ looked_at t n u → LooksBelow words t v u
    → is_usable_word n ≡ false → LooksBelow (words ++ n ∷ []) (t + 1) v w
looks_on words t n v u w is below free =
    let all = looked_on words t n v u w is below in
    let long = length-append words (n ∷ []) in
    let count = below.count in
    let steps = all.steps in record {
      count = omega arith;
      taken = taken_more words n below.taken free;
      steps = omega arith;
      looked = ap (λ (b : Bool). cond b [] w.looked) (ne_eqb (t + 1) 0 (λ e. absurd (omega arith))) ∙ all.looked;
      last = all.last;
      only = all.only;
    }

-- none was looked at yet
pub looks_none : (v : View) → LooksBelow [] 0 v v
looks_none v = record { count = refl; taken = refl; steps = omega arith; looked = refl; last = refl; only = refl }

-- all of some were
pub looks_all : (words : List ℕ) (t : ℕ) (v u : View) → 0 < t → LooksBelow words t v u → HasLooked words v u
looks_all words t v u some below = record {
  steps = below.steps ∙ ap (λ i. v.steps + i) (sym below.count);
  looked = sym (ap (λ (b : Bool). cond b [] u.looked) (ne_eqb t 0 (λ e. absurd (omega arith)))) ∙ below.looked;
  last = below.last;
  only = below.only;
}

-- ---- the ends

-- this one was usable
pub first_found : (words : List ℕ) (t n : ℕ) (v u w : View) → w ≡ looked_at t n u → LooksBelow words t v u
    → is_usable_word n ≡ true → t < v.layout.slots → IsFirst t n v w
first_found words t n v u w is below usable there = record {
  before = words;
  count = below.count;
  taken = below.taken;
  there = there;
  usable = usable;
  seen = looked_on words t n v u w is below;
}

-- and was given, or not
pub ends_found : (t word : ℕ) (v u w : View) (r : Result ℕ PoolRefusal) → IsFirst t word v u → HasFound t word r u w
    → IfOk r (λ s. HasTaken s v w) × IfErr r (λ why. HasMissed why v w)
ends_found t word v u w (Ok s) first h =
    (subst (λ (k : ℕ). HasTaken k v w) (sym h.0) record { word = word; seen = u; first = first; given = h.1 }, tt)
ends_found t word v u w (Err (refusals.Full held)) first h = absurd h
ends_found t word v u w (Err (refusals.Changed at expected seen)) first h = (
  tt,
  record {
    slot = t;
    place = h.0;
    seen = u;
    first = subst (λ (k : ℕ). IsFirst t k v u) (sym h.1) first;
    other = λ e. h.2 (e ∙ h.1);
    only = h.3 ∙ ap (λ (k : ℕ). glanced k seen u) (sym h.0);
  },
)

-- none was usable
pub ends_full : (words : List ℕ) (t : ℕ) (held : Option (ℕ × ℕ)) (v u : View) → 0 < t → t ≡ v.layout.slots
    → LooksBelow words t v u → held ≡ first_retired 0 words → IsFull held v u
ends_full words t held v u some all below retired = record {
  words = words;
  count = below.count ∙ all;
  taken = below.taken;
  held = retired;
  seen = looks_all words t v u some below;
}
