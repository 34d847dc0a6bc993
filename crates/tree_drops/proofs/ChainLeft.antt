-- Slots are left, and given up, one after another.
use Rattle.std.proofs.Common.{◌≡◌, ◌≢◌, inl, inr, ℕ, ◌+◌, ◌<◌, ◌≤◌, Bool, true, false, true≢false, cond, eqb, eq-eqb, eqb-true}
use Rattle.std.proofs.Common.{ne_eqb, not, List, [], ◌∷◌, ◌++◌, filter, refl, sym, ap, ◌∙◌, subst, arith}
use Rattle.std.specs.Prelude.{◌||◌, reverse}
use Rattle.std.specs.List.{Contains}
use Rattle.std.proofs.lemmas.Bool.{or_right}
use Rattle.std.proofs.lemmas.List.{append_assoc, reverse-append}
use Rattle.lists.specs.Elements.{in_cases, in_head, in_none, in_tail}
use Rattle.lists.specs.Fronts.{front_refl}
use Rattle.drop_core.specs.Event.{without}
use Rattle.drop_core.specs.Table.{has_slot}
use Rattle.engine_rule.specs.JointState.{keeps_word}
use Rattle.engine_pages.specs.declared.view.Inner.{Inner}
use Rattle.engine_pages.specs.declared.view.View.{View}
use Rattle.engine_pages.specs.declared.view.Way.{Way}
use Rattle.engine_pages.specs.Slots.{left, other_shuts, retired}
use Rattle.page_drops.specs.Visits.{times}
use Rattle.page_drops.proofs.Sights.{saw_same}
use Rattle.page_drops.proofs.Stays.{times_append}
use Rattle.tree_drops.specs.Chains.{AreFresh}
use Rattle.tree_drops.specs.Releases.{left_all, retired_all, CanLeaveAll, CanRetireAll}
use Rattle.tree_drops.proofs.Ends.{filter_in, out_left, out_then, GoesOut}

-- ---- what has a slot of some isn't there any more

-- what stays of a list behind some slots
abbrev pub stay_all : {A : Type 0} → (A → ℕ) → List ℕ → List A → List A
stay_all slot [] xs = xs
stay_all slot (t ∷ ts) xs = stay_all slot ts (filter (λ x. not (eqb (slot x) t)) xs)

module _ (A : Type 0) (slot : A → ℕ) where
  abbrev Off : ℕ → List A → List A
  Off t xs = filter (λ x. not (eqb (slot x) t)) xs

  off_append : (t : ℕ) (xs ys : List A) → Off t (xs ++ ys) ≡ Off t xs ++ Off t ys
  off_append t [] ys = refl
  off_append t (x ∷ xs) ys = by_test (eqb (slot x) t) (off_append t xs ys)
    where
      by_test : (c : Bool) → Off t (xs ++ ys) ≡ Off t xs ++ Off t ys
          → cond (not c) (x ∷ Off t (xs ++ ys)) (Off t (xs ++ ys)) ≡ cond (not c) (x ∷ Off t xs) (Off t xs) ++ Off t ys
      by_test true rest = rest
      by_test false rest = ap (λ l. x ∷ l) rest

  off_same : (t : ℕ) (xs : List A) → ((x : A) → Contains xs x → slot x ≡ t → ⊥) → Off t xs ≡ xs
  off_same t [] other = refl
  off_same t (x ∷ xs) other =
      ap (λ c. cond (not c) (x ∷ Off t xs) (Off t xs)) (ne_eqb (slot x) t (λ same. other x (in_head x xs) same))
      ∙ ap (λ l. x ∷ l) (off_same t xs (λ y has. other y (in_tail y x xs has)))

  -- what stays was there, and isn't of this slot
  off_in : (t : ℕ) (xs : List A) (x : A) → Contains (Off t xs) x → Contains xs x × (slot x ≡ t → ⊥)
  off_in t [] x has = absurd (in_none x has)
  off_in t (y ∷ xs) x has = by_test (eqb (slot y) t) refl has (off_in t xs x)
    where
      by_test : (c : Bool) → eqb (slot y) t ≡ c → Contains (cond (not c) (y ∷ Off t xs) (Off t xs)) x
          → (Contains (Off t xs) x → Contains xs x × (slot x ≡ t → ⊥)) → Contains (y ∷ xs) x × (slot x ≡ t → ⊥)
      by_test true e has rest = let r = rest has in (in_tail x y xs r.0, r.1)
      by_test false e has rest = elim (in_cases x y (Off t xs) has) [
        | inl same ↦ (
          subst (λ z. Contains (y ∷ xs) z) same (in_head y xs),
          λ slots. true≢false (sym (eq-eqb (slot y) t (ap slot same ∙ slots)) ∙ e),
        )
        | inr more ↦ let r = rest more in (in_tail x y xs r.0, r.1)
      ]

  stay_append : (ts : List ℕ) (xs ys : List A) → stay_all slot ts (xs ++ ys) ≡ stay_all slot ts xs ++ stay_all slot ts ys
  stay_append [] xs ys = refl
  stay_append (t ∷ ts) xs ys = ap (λ l. stay_all slot ts l) (off_append t xs ys) ∙ stay_append ts (Off t xs) (Off t ys)

  stay_same : (ts : List ℕ) (xs : List A) → ((x : A) → Contains xs x → has_slot ts (slot x) ≡ false) → stay_all slot ts xs ≡ xs
  stay_same [] xs none = refl
  stay_same (t ∷ ts) xs none =
      ap (λ l. stay_all slot ts l) (off_same t xs (λ x has same. head_miss t (slot x) ts same (none x has)))
      ∙ stay_same ts xs (λ x has. tail_miss t (slot x) ts (none x has))
    where
      head_miss : (t u : ℕ) (ts : List ℕ) → u ≡ t → has_slot (t ∷ ts) u ≡ false → ⊥
      head_miss t u ts same none =
          true≢false (sym (ap (λ (c : Bool). c || has_slot ts u) (eq-eqb t u (sym same))) ∙ none)

      tail_miss : (t u : ℕ) (ts : List ℕ) → has_slot (t ∷ ts) u ≡ false → has_slot ts u ≡ false
      tail_miss t u ts none = by_test (eqb t u) none
        where
          by_test : (c : Bool) → (c || has_slot ts u) ≡ false → has_slot ts u ≡ false
          by_test true is = absurd (true≢false is)
          by_test false is = is

  stay_none : (ts : List ℕ) (xs : List A) → ((x : A) → Contains xs x → has_slot ts (slot x) ≡ true) → stay_all slot ts xs ≡ []
  stay_none [] [] all = refl
  stay_none [] (x ∷ xs) all = absurd (true≢false (sym (all x (in_head x xs))))
  stay_none (t ∷ ts) xs all =
      stay_none ts (Off t xs) (λ x has.
      let r = off_in t xs x has in
      by_test x (eqb t (slot x)) refl (all x r.0) (λ same. r.1 (sym same)))
    where
      by_test : (x : A) → (c : Bool) → eqb t (slot x) ≡ c → (c || has_slot ts (slot x)) ≡ true → (t ≡ slot x → ⊥)
          → has_slot ts (slot x) ≡ true
      by_test x true e has other = absurd (other (eqb-true t (slot x) e))
      by_test x false e has other = has

  -- what was added with these slots is gone, and the rest stays
  pub stay_rest : (ts : List ℕ) (xs ys : List A) → ((x : A) → Contains xs x → has_slot ts (slot x) ≡ true)
      → ((y : A) → Contains ys y → has_slot ts (slot y) ≡ false) → stay_all slot ts (xs ++ ys) ≡ ys
  stay_rest ts xs ys new old =
      stay_append ts xs ys ∙ (ap (λ l. l ++ stay_all slot ts ys) (stay_none ts xs new) ∙ stay_same ts ys old)

-- ---- slots

-- one that isn't the one that is left
pub still_has : (xs : List ℕ) (t u : ℕ) → (u ≡ t → ⊥) → has_slot xs u ≡ true → has_slot (without xs t) u ≡ true
still_has [] t u other has = has
still_has (x ∷ xs) t u other has = by_test (eqb x t) refl has (still_has xs t u other)
  where
    by_test : (c : Bool) → eqb x t ≡ c → (eqb x u || has_slot xs u) ≡ true
        → (has_slot xs u ≡ true → has_slot (without xs t) u ≡ true)
        → has_slot (cond (not c) (x ∷ without xs t) (without xs t)) u ≡ true
    by_test true e has rest =
        let same : x ≡ t = eqb-true x t e in
        rest (sym (ap (λ (b : Bool). b || has_slot xs u) (ne_eqb x u (λ one. other (sym one ∙ same)))) ∙ has)
    by_test false e has rest = by_own (eqb x u) has
      where
        by_own : (b : Bool) → (b || has_slot xs u) ≡ true → (b || has_slot (without xs t) u) ≡ true
        by_own true has = refl
        by_own false has = rest has

-- each slot of a fresh list is in none of those before it
pub fresh_in : (holds ts : List ℕ) (u : ℕ) → AreFresh holds ts → Contains ts u → has_slot holds u ≡ false
fresh_in holds [] u fresh has = absurd (in_none u has)
fresh_in holds (t ∷ ts) u fresh has = elim (in_cases u t ts has) [
  | inl same ↦ subst (λ z. has_slot holds z ≡ false) same fresh.0
  | inr more ↦ tail_miss (fresh_in (t ∷ holds) ts u fresh.1 more)
]
  where
    tail_miss : has_slot (t ∷ holds) u ≡ false → has_slot holds u ≡ false
    tail_miss none = by_test (eqb t u) none
      where
        by_test : (c : Bool) → (c || has_slot holds u) ≡ false → has_slot holds u ≡ false
        by_test true is = absurd (true≢false is)
        by_test false is = is

pub fresh_other : (t u : ℕ) (holds ts : List ℕ) → AreFresh (t ∷ holds) ts → Contains ts u → u ≡ t → ⊥
fresh_other t u holds ts fresh has same =
    true≢false (sym (ap (λ (c : Bool). c || has_slot holds u) (eq-eqb t u (sym same))) ∙ fresh_in (t ∷ holds) ts u fresh has)

-- ---- each of them is another one

-- one that was held is none of them
fresh_none : (holds ts : List ℕ) (u : ℕ) → AreFresh holds ts → has_slot holds u ≡ true → times u ts ≡ 0
fresh_none holds [] u fresh held = refl
fresh_none holds (t ∷ ts) u fresh held =
    let rest = fresh_none (t ∷ holds) ts u fresh.1 (or_right (eqb t u) (has_slot holds u) held) in
    let apart : u ≢ t = λ same. true≢false (sym held ∙ (ap (λ i. has_slot holds i) same ∙ fresh.0)) in
    let first : ◌≡◌ {A = ℕ} (cond (eqb u t) 1 0) 0 = ap (λ (b : Bool). cond b 1 0) (ne_eqb u t apart) in omega (arith, first, rest)

fresh_once : (holds ts : List ℕ) (u : ℕ) → AreFresh holds ts → times u ts ≤ 1
fresh_once holds [] u fresh = omega arith
fresh_once holds (t ∷ ts) u fresh = by_test (eqb u t) refl (fresh_once (t ∷ holds) ts u fresh.1)
  where
    by_test : (c : Bool) → eqb u t ≡ c → times u ts ≤ 1 → times u (t ∷ ts) ≤ 1
    by_test true is rest =
        let none = fresh_none (t ∷ holds) ts u fresh.1
        (ap (λ (c : Bool). c || has_slot holds u) (eq-eqb t u (sym (eqb-true u t is)))) in
        let first : ◌≡◌ {A = ℕ} (cond (eqb u t) 1 0) 1 = ap (λ (b : Bool). cond b 1 0) is in omega (arith, first, none)
    by_test false is rest =
        let first : ◌≡◌ {A = ℕ} (cond (eqb u t) 1 0) 0 = ap (λ (b : Bool). cond b 1 0) is in omega (arith, first, rest)

-- nor with one that was held
pub once_with : (u t : ℕ) (holds ts some : List ℕ) → some ≡ ts → AreFresh holds ts → has_slot holds t ≡ true
    → times u ((some ++ t ∷ []) ++ []) ≤ 1
once_with u t holds ts some same fresh held =
    subst (λ l. times u ((l ++ t ∷ []) ++ []) ≤ 1) (sym same) (by_test (eqb u t) refl)
  where
    sum : times u ((ts ++ t ∷ []) ++ []) ≡ (times u ts + times u (t ∷ [])) + times u []
    sum = times_append u (ts ++ t ∷ []) [] ∙ ap (λ (n : ℕ). n + times u []) (times_append u ts (t ∷ []))

    by_test : (c : Bool) → eqb u t ≡ c → times u ((ts ++ t ∷ []) ++ []) ≤ 1
    by_test true is =
        let none = fresh_none holds ts u fresh (ap (λ i. has_slot holds i) (eqb-true u t is) ∙ held) in
        let first : ◌≡◌ {A = ℕ} (cond (eqb u t) 1 0) 1 = ap (λ (b : Bool). cond b 1 0) is in omega (arith, sum, none, first)
    by_test false is =
        let rest = fresh_once holds ts u fresh in
        let first : ◌≡◌ {A = ℕ} (cond (eqb u t) 1 0) 0 = ap (λ (b : Bool). cond b 1 0) is in omega (arith, sum, rest, first)

-- ---- they are left

pub can_leave_all : (holds ts : List ℕ) (v : View) → AreFresh holds ts → ((u : ℕ) → Contains ts u → has_slot v.grip.holds u ≡ true)
    → ((u : ℕ) → Contains ts u → u < v.layout.slots) → v.seat.kept ≡ [] → CanLeaveAll ts v
can_leave_all holds [] v fresh held within none = tt
can_leave_all holds (t ∷ ts) v fresh held within none = (
  held t (in_head t ts),
  within t (in_head t ts),
  ap (λ l. keeps_word l t) none,
  can_leave_all (t ∷ holds) ts (left t v) fresh.1
      (λ u has. still_has v.grip.holds t u (fresh_other t u holds ts fresh.1 has) (held u (in_tail u t ts has)))
      (λ u has. within u (in_tail u t ts has)) none,
)

pub left_out : (ts : List ℕ) (v : View) → v.shuts ≡ [] → GoesOut v (left_all ts v)
left_out [] v none = record {
  went = refl;
  later = omega arith;
  front = front_refl v.pages;
  leads = λ z has. has;
  more = saw_same v v refl refl refl;
}
left_out (t ∷ ts) v none =
    let one = out_left t v (left t v) none refl in
    out_then v (left t v) (left_all ts (left t v)) one (left_out ts (left t v) (shuts_left none))
  where
    shuts_left : v.shuts ≡ [] → (left t v).shuts ≡ []
    shuts_left none = ap (λ l. other_shuts t l) none

pub left_grip : (ts : List ℕ) (v : View) → (left_all ts v).grip ≡ record v.grip { holds = stay_all (λ (u : ℕ). u) ts v.grip.holds }
left_grip [] v = refl
left_grip (t ∷ ts) v = left_grip ts (left t v)

pub left_ways : (ts : List ℕ) (v : View) → (left_all ts v).ways ≡ stay_all (λ (w : Way). w.slot) ts v.ways
left_ways [] v = refl
left_ways (t ∷ ts) v = left_ways ts (left t v)

pub left_gone : (ts : List ℕ) (v : View) → (left_all ts v).gone ≡ reverse ts ++ v.gone
left_gone [] v = refl
left_gone (t ∷ ts) v =
    left_gone ts (left t v)
    ∙ (sym (append_assoc (reverse ts) (t ∷ []) v.gone) ∙ ap (λ l. l ++ v.gone) (sym (reverse-append (t ∷ []) ts)))

pub left_kept : (ts : List ℕ) (v : View) → (left_all ts v).kept ≡ v.kept
left_kept [] v = refl
left_kept (t ∷ ts) v = left_kept ts (left t v)

pub left_swung : (ts : List ℕ) (v : View) → (left_all ts v).swung ≡ v.swung
left_swung [] v = refl
left_swung (t ∷ ts) v = left_swung ts (left t v)

pub left_reads : (ts : List ℕ) (v : View) → (left_all ts v).reads ≡ v.reads
left_reads [] v = refl
left_reads (t ∷ ts) v = left_reads ts (left t v)

pub left_pages : (ts : List ℕ) (v : View) → (left_all ts v).pages ≡ v.pages
left_pages [] v = refl
left_pages (t ∷ ts) v = left_pages ts (left t v)

pub left_layout : (ts : List ℕ) (v : View) → (left_all ts v).layout ≡ v.layout
left_layout [] v = refl
left_layout (t ∷ ts) v = left_layout ts (left t v)

pub left_role : (ts : List ℕ) (v : View) → (left_all ts v).role ≡ v.role
left_role [] v = refl
left_role (t ∷ ts) v = left_role ts (left t v)

pub left_seat : (ts : List ℕ) (v : View) → (left_all ts v).seat ≡ v.seat
left_seat [] v = refl
left_seat (t ∷ ts) v = left_seat ts (left t v)

-- what is known of interior pages in other slots stays
pub left_inners : (ts : List ℕ) (v : View) (x : Inner) → ((t : ℕ) → Contains ts t → x.slot ≡ t → ⊥) → Contains v.inners x
    → Contains (left_all ts v).inners x
left_inners [] v x other has = has
left_inners (t ∷ ts) v x other has =
    left_inners ts (left t v) x (λ u more same. other u (in_tail u t ts more) same)
    (filter_in t v.inners x (other t (in_head t ts)) has)

-- ---- they are given up

pub can_retire_all : (holds ts : List ℕ) (v : View) → AreFresh holds ts → ((u : ℕ) → Contains ts u → has_slot v.grip.taken u ≡ true)
    → ((u : ℕ) → Contains ts u → u < v.layout.slots) → CanRetireAll ts v
can_retire_all holds [] v fresh taken within = tt
can_retire_all holds (t ∷ ts) v fresh taken within = (
  inr (inr (inl (taken t (in_head t ts)))),
  within t (in_head t ts),
  can_retire_all (t ∷ holds) ts (retired t v) fresh.1
      (λ u has. still_has v.grip.taken t u (fresh_other t u holds ts fresh.1 has) (taken u (in_tail u t ts has)))
      (λ u has. within u (in_tail u t ts has)),
)

out_retired : (t : ℕ) (v : View) → GoesOut v (retired t v)
out_retired t v = record {
  went = refl;
  later = omega arith;
  front = front_refl v.pages;
  leads = λ z has. has;
  more = saw_same v (retired t v) refl refl refl;
}

pub retired_out : (ts : List ℕ) (v : View) → GoesOut v (retired_all ts v)
retired_out [] v = record {
  went = refl;
  later = omega arith;
  front = front_refl v.pages;
  leads = λ z has. has;
  more = saw_same v v refl refl refl;
}
retired_out (t ∷ ts) v = out_then v (retired t v) (retired_all ts (retired t v)) (out_retired t v) (retired_out ts (retired t v))

pub retired_grip : (ts : List ℕ) (v : View) → (retired_all ts v).grip
    ≡ record v.grip { made = stay_all (λ (u : ℕ). u) ts v.grip.made; taken = stay_all (λ (u : ℕ). u) ts v.grip.taken }
retired_grip [] v = refl
retired_grip (t ∷ ts) v = retired_grip ts (retired t v)

pub retired_ways : (ts : List ℕ) (v : View) → (retired_all ts v).ways ≡ v.ways
retired_ways [] v = refl
retired_ways (t ∷ ts) v = retired_ways ts (retired t v)

pub retired_gone : (ts : List ℕ) (v : View) → (retired_all ts v).gone ≡ v.gone
retired_gone [] v = refl
retired_gone (t ∷ ts) v = retired_gone ts (retired t v)

pub retired_kept : (ts : List ℕ) (v : View) → (retired_all ts v).kept ≡ v.kept
retired_kept [] v = refl
retired_kept (t ∷ ts) v = retired_kept ts (retired t v)

pub retired_swung : (ts : List ℕ) (v : View) → (retired_all ts v).swung ≡ v.swung
retired_swung [] v = refl
retired_swung (t ∷ ts) v = retired_swung ts (retired t v)

pub retired_reads : (ts : List ℕ) (v : View) → (retired_all ts v).reads ≡ v.reads
retired_reads [] v = refl
retired_reads (t ∷ ts) v = retired_reads ts (retired t v)

pub retired_layout : (ts : List ℕ) (v : View) → (retired_all ts v).layout ≡ v.layout
retired_layout [] v = refl
retired_layout (t ∷ ts) v = retired_layout ts (retired t v)

pub retired_role : (ts : List ℕ) (v : View) → (retired_all ts v).role ≡ v.role
retired_role [] v = refl
retired_role (t ∷ ts) v = retired_role ts (retired t v)

pub retired_seat : (ts : List ℕ) (v : View) → (retired_all ts v).seat ≡ v.seat
retired_seat [] v = refl
retired_seat (t ∷ ts) v = retired_seat ts (retired t v)

pub retired_inners : (ts : List ℕ) (v : View) → (retired_all ts v).inners ≡ v.inners
retired_inners [] v = refl
retired_inners (t ∷ ts) v = retired_inners ts (retired t v)

pub retired_shuts : (ts : List ℕ) (v : View) → (retired_all ts v).shuts ≡ v.shuts
retired_shuts [] v = refl
retired_shuts (t ∷ ts) v = retired_shuts ts (retired t v)
