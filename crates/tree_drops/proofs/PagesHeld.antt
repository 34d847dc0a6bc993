-- The pages of a chain that are held: lists of them that grow.
use Rattle.std.proofs.Common.{◌≡◌, ◌≢◌, ◌⊎◌, inl, inr, ℕ, zero, suc, ◌+◌, ◌-◌, ◌<◌, ◌≤◌, Bool, true, false}
use Rattle.std.proofs.Common.{true≢false, eqb, List, [], ◌∷◌, ◌++◌, length, refl, sym, ap, ◌∙◌, subst, arith, Option}
use Rattle.std.proofs.Common.{Some, append_assoc, length-append}
use Rattle.std.specs.Prelude.{◌||◌, map, reverse, slice_get}
use Rattle.std.specs.List.{Contains}
use Rattle.std.proofs.lemmas.List.{map-append, reverse-append}
use Rattle.std.proofs.lemmas.Option.{slice_get_within}
use Rattle.lists.specs.Elements.{at_in, in_cases, in_head, in_none, in_tail}
use Rattle.homes.specs.declared.places.Span.{Span}
use Rattle.drop_core.specs.Table.{has_slot}
use Rattle.engine_pages.specs.declared.layout.Layout.{Layout}
use Rattle.engine_pages.specs.declared.view.View.{View}
use Rattle.engine_pages.specs.declared.view.Way.{Way}
use Rattle.engine_pages.specs.Layout.{page_at}
use Rattle.engine_pages.specs.Steps.{seen_at}
use Rattle.tree_heads.specs.Headers.{count_of}
use Rattle.chain_steps.specs.declared.halves.Half.{Half}
use Rattle.chain_steps.specs.Swings.{slots_of}
use Rattle.page_drops.specs.Calls.{IsElsewhere}
use Rattle.page_drops.specs.Works.{read_of, IsOutside}
use Rattle.page_drops.proofs.Entries.{seen_same}
use Rattle.tree_drops.specs.declared.chains.Split.{Split}
use Rattle.tree_drops.specs.Chains.{span_in, AreFresh, AreHeld, CameOf, ChainLooks, ChainsOn, HasEntered, HoldsSame}
use Rattle.tree_drops.specs.Chains.{IsEarlier, IsFoundSo}
use Rattle.tree_drops.proofs.Chaining.{chain_then, keys_chained, layout_chained}
use Rattle.tree_drops.proofs.HalvesHeld.{has_first, has_later, has_next, in_either}

-- ---- slots, each new

pub or_false : (b c : Bool) → (b || c) ≡ false → (b ≡ false) × (c ≡ false)
or_false true c e = absurd (true≢false e)
or_false false c e = (refl, e)

-- each of them isn't held before
pub fresh_out : (holds slots : List ℕ) (i u : ℕ) → AreFresh holds slots → slice_get slots i ≡ Some u → has_slot holds u ≡ false
fresh_out holds [] i u fresh at = absurd (in_none u (at_in [] i u at))
fresh_out holds (x ∷ slots) zero u fresh at =
    let is : x ≡ u = cc in ap (has_slot holds) (sym is) ∙ fresh.0
fresh_out holds (x ∷ slots) (suc i) u fresh at =
    (or_false (eqb x u) (has_slot holds u) (fresh_out (x ∷ holds) slots i u fresh.1 at)).1

-- each is another one
pub fresh_apart : (holds slots : List ℕ) (i j u w : ℕ) → AreFresh holds slots → slice_get slots i ≡ Some u → slice_get slots j ≡ Some w
    → u ≡ w → i ≡ j
fresh_apart holds [] i j u w fresh one two same = absurd (in_none u (at_in [] i u one))
fresh_apart holds (x ∷ slots) zero zero u w fresh one two same = refl
fresh_apart holds (x ∷ slots) zero (suc j) u w fresh one two same =
    let is : x ≡ u = cc in
    absurd (true≢false (sym (subst (λ k. has_slot (x ∷ holds) k ≡ true) (is ∙ same) (has_first x holds))
    ∙ fresh_out (x ∷ holds) slots j w fresh.1 two))
fresh_apart holds (x ∷ slots) (suc i) zero u w fresh one two same =
    let is : x ≡ w = cc in
    absurd (true≢false (sym (subst (λ k. has_slot (x ∷ holds) k ≡ true) (is ∙ sym same) (has_first x holds))
    ∙ fresh_out (x ∷ holds) slots i u fresh.1 one))
fresh_apart holds (x ∷ slots) (suc i) (suc j) u w fresh one two same =
    ap suc (fresh_apart (x ∷ holds) slots i j u w fresh.1 one two same)

reverse_next : (u : ℕ) (slots holds : List ℕ) → reverse (u ∷ slots) ++ holds ≡ reverse slots ++ (u ∷ holds)
reverse_next u slots holds =
    ap (λ (l : List ℕ). l ++ holds) (reverse-append (u ∷ []) slots) ∙ append_assoc (reverse slots) (u ∷ []) holds

fresh_more : (holds old more : List ℕ) → AreFresh holds old → AreFresh (reverse old ++ holds) more → AreFresh holds (old ++ more)
fresh_more holds [] more one two = two
fresh_more holds (u ∷ old) more one two =
    (one.0, fresh_more (u ∷ holds) old more one.1 (subst (λ (l : List ℕ). AreFresh l more) (reverse_next u old holds) two))

-- ---- halves at an index

pub half_slot : (halves : List Half) (i : ℕ) (h : Half) → slice_get halves i ≡ Some h → slice_get (slots_of halves) i ≡ Some h.slot
half_slot [] i h at = absurd (in_none h (at_in [] i h at))
half_slot (x ∷ halves) zero h at = let is : x ≡ h = cc in ap (λ (z : Half). let o : Option ℕ = Some z.slot in o) is
half_slot (x ∷ halves) (suc i) h at = half_slot halves i h at

pub slot_half : (halves : List Half) (h : Half) → Contains halves h → has_slot (slots_of halves) h.slot ≡ true
slot_half [] h has = absurd (in_none h has)
slot_half (x ∷ halves) h has = elim (in_cases h x halves has) [
  | inl is ↦ subst (λ (z : Half). has_slot (x.slot ∷ slots_of halves) z.slot ≡ true) is (has_first x.slot (slots_of halves))
  | inr more ↦ has_later x.slot h.slot (slots_of halves) (slot_half halves h more)
]

pub slots_more : (old more : List Half) → slots_of (old ++ more) ≡ slots_of old ++ slots_of more
slots_more old more = map-append (λ (h : Half). h.slot) old more

pub slot_in_old : (xs ys : List ℕ) (m : ℕ) → has_slot xs m ≡ true → has_slot (xs ++ ys) m ≡ true
slot_in_old [] ys m has = absurd (true≢false (sym has))
slot_in_old (x ∷ xs) ys m has = elim (has_next x m xs has) [
  | inl here ↦ subst (λ k. has_slot (x ∷ (xs ++ ys)) k ≡ true) here (has_first x (xs ++ ys))
  | inr more ↦ has_later x m (xs ++ ys) (slot_in_old xs ys m more)
]

pub slot_in_new : (xs ys : List ℕ) (m : ℕ) → has_slot ys m ≡ true → has_slot (xs ++ ys) m ≡ true
slot_in_new [] ys m has = has
slot_in_new (x ∷ xs) ys m has = has_later x m (xs ++ ys) (slot_in_new xs ys m has)

pub slot_reversed : (xs : List ℕ) (m : ℕ) → has_slot xs m ≡ true → has_slot (reverse xs) m ≡ true
slot_reversed [] m has = has
slot_reversed (x ∷ xs) m has =
    ap (λ (l : List ℕ). has_slot l m) (reverse-append (x ∷ []) xs)
    ∙ elim (has_next x m xs has) [
      | inl here ↦ slot_in_new (reverse xs) (x ∷ []) m (subst (λ k. has_slot (x ∷ []) k ≡ true) here (has_first x []))
      | inr more ↦ slot_in_old (reverse xs) (x ∷ []) m (slot_reversed xs m more)
    ]

-- what stands at an index of two lists
pub at_more : {A : Type 0} → (xs ys : List A) (i : ℕ) (z : A) → slice_get (xs ++ ys) i ≡ Some z
    → (slice_get xs i ≡ Some z) ⊎ ((k : ℕ) × (i ≡ length xs + k) × (slice_get ys k ≡ Some z))
at_more [] ys i z at = inr (i, omega arith, at)
at_more (x ∷ xs) ys zero z at = inl at
at_more (x ∷ xs) ys (suc i) z at = elim (at_more xs ys i z at) [
  | inl old ↦ inl old
  | inr new ↦ inr (new.0, (let place = new.1 in omega (arith, place)), new.2)
]

pub at_old : {A : Type 0} → (xs ys : List A) (i : ℕ) (z : A) → slice_get xs i ≡ Some z → slice_get (xs ++ ys) i ≡ Some z
at_old [] ys i z at = absurd (in_none z (at_in [] i z at))
at_old (x ∷ xs) ys zero z at = at
at_old (x ∷ xs) ys (suc i) z at = at_old xs ys i z at

pub at_new : {A : Type 0} → (xs ys : List A) (k : ℕ) (z : A) → slice_get ys k ≡ Some z → slice_get (xs ++ ys) (length xs + k) ≡ Some z
at_new [] ys k z at = ap (slice_get ys) (none_before k) ∙ at
  where
    none_before : (k : ℕ) → 0 + k ≡ k
    none_before k = omega arith
at_new (x ∷ xs) ys k z at = ap (slice_get (x ∷ (xs ++ ys))) (one_more (length xs) k) ∙ at_new xs ys k z at
  where
    one_more : (n k : ℕ) → suc n + k ≡ suc (n + k)
    one_more n k = omega arith

-- a list of as many has one there
pub at_other : {A B : Type 0} → (xs : List A) (ys : List B) (i : ℕ) (x : A) → length xs ≡ length ys → slice_get xs i ≡ Some x
    → (y : B) × (slice_get ys i ≡ Some y)
at_other [] ys i x same at = absurd (in_none x (at_in [] i x at))
at_other (x ∷ xs) [] i z same at = absurd (omega (arith, same))
at_other (x ∷ xs) (y ∷ ys) zero z same at = (y, refl)
at_other (x ∷ xs) (y ∷ ys) (suc i) z same at = at_other xs ys i z (omega (arith, same)) at

-- the same for each
abbrev pub alike : List Half → ℕ → List ℕ
alike more u = map (λ (h : Half). u) more

pub alike_long : (more : List Half) (u : ℕ) → length (alike more u) ≡ length more
alike_long [] u = refl
alike_long (h ∷ more) u = ap suc (alike_long more u)

pub alike_at : (more : List Half) (u k w : ℕ) → slice_get (alike more u) k ≡ Some w → u ≡ w
alike_at [] u k w at = absurd (in_none w (at_in [] k w at))
alike_at (h ∷ more) u zero w at = cc
alike_at (h ∷ more) u (suc k) w at = alike_at more u k w at

-- ---- words of pages apart

pub header_apart : (slots t u i : ℕ) → t ≢ u → i < 64 → page_at slots t 0 ≡ page_at slots u i → ⊥
header_apart slots t u i other few same = other (omega (arith, few, same))

pub header_outside : (slots t u : ℕ) → t ≢ u → IsOutside slots u (page_at slots t 0)
header_outside slots t u other i few same = header_apart slots t u i other few same

-- ---- the pages that are held

module _ (t : ℕ) (sp : Span) where
  -- where the pass looked on
  pub held_on : (halves : List Half) (splits : List ℕ) (a v w : View) → AreHeld t sp halves splits a v → ChainLooks v w → HoldsSame v w
      → ((word : ℕ) → IsElsewhere v.layout.slots (t ∷ slots_of halves) word → read_of w.reads word ≡ read_of v.reads word)
      → AreHeld t sp halves splits a w
  held_on halves splits a v w h looks same reads =
      let layout : v.layout ≡ w.layout = sym (layout_chained v w looks.on) in
      let slots : w.layout.slots ≡ v.layout.slots = ap (λ (l : Layout). l.slots) (sym layout) in record {
        looks = chain_then a v w h.looks looks;
        holds = ap (λ g. g.holds) same.grip ∙ h.holds;
        fresh = h.fresh;
        added = h.added;
        ways = same.ways ∙ h.ways;
        ours = h.ours;
        inside = λ g has. let i = h.inside g has in (i.0, i.1, subst (λ (l : Layout). g.slot < l.slots) layout i.2, i.3);
        paired = h.paired;
        came = λ j g u at split.
            let one = h.came j g u at split in (one.0, came_on halves g u v w looks.on one.1);
        reads = λ word out.
            let there : IsElsewhere v.layout.slots (t ∷ slots_of halves) word =
            subst (λ k. IsElsewhere k (t ∷ slots_of halves) word) slots out in
            reads word there ∙ h.reads word there;
      }
    where
      came_on : (halves : List Half) (g : Half) (u : ℕ) (v w : View) → ChainsOn v w → CameOf t halves g u v → CameOf t halves g u w
      came_on halves g u v w on c = record { moved = c.moved; has = on.moved c.moved c.has; slot = c.slot; leads = c.leads }

  -- where halves of one of them were entered, too
  pub held_more : (old new more : List Half) (splits : List ℕ) (split : Split) (a v w : View) → AreHeld t sp old splits a v
      → HasEntered split old new more v w → sp.low ≤ (split.span).low → (split.span).high ≤ sp.high
      → (split.slot ≡ t) ⊎ ((i : ℕ) × (g : Half) × (slice_get old i ≡ Some g) × (g.slot ≡ split.slot))
      → AreHeld t sp new (splits ++ alike more split.slot) a w
  held_more old new more splits split a v w h e low high from =
      let on : ChainsOn v w = e.looks.on in
      let layout : v.layout ≡ w.layout = sym (layout_chained v w on) in
      let slots : w.layout.slots ≡ v.layout.slots = ap (λ (l : Layout). l.slots) (sym layout) in
      let all : slots_of new ≡ slots_of old ++ slots_of more = ap slots_of e.is ∙ slots_more old more in record {
        looks = chain_then a v w h.looks e.looks;
        holds =
            e.holds
            ∙ (ap (λ (l : List ℕ). reverse (slots_of more) ++ l) h.holds
            ∙ (sym (append_assoc (reverse (slots_of more)) (reverse (slots_of old)) a.grip.holds)
            ∙ ap (λ (l : List ℕ). l ++ a.grip.holds) (sym (reverse-append (slots_of old) (slots_of more)) ∙ ap reverse (sym all))));
        fresh =
            subst (λ (l : List ℕ). AreFresh a.grip.holds l) (sym all)
            (fresh_more a.grip.holds (slots_of old) (slots_of more) h.fresh
            (subst (λ (l : List ℕ). AreFresh l (slots_of more)) h.holds e.fresh));
        added = e.added ++ h.added;
        ways =
            e.ways
            ∙ (ap (λ (l : List Way). e.added ++ l) h.ways ∙ sym (append_assoc e.added h.added a.ways));
        ours = λ y has.
            ap (λ (l : List ℕ). has_slot l y.slot) all
            ∙ elim (in_either e.added h.added y has) [
              | inl one ↦ slot_in_new (slots_of old) (slots_of more) y.slot (e.ours y one)
              | inr two ↦ slot_in_old (slots_of old) (slots_of more) y.slot (h.ours y two)
            ];
        inside = λ g has. elim (in_either old more g (subst (λ (l : List Half). Contains l g) e.is has)) [
          | inl one ↦ let i = h.inside g one in (i.0, i.1, subst (λ (l : Layout). g.slot < l.slots) layout i.2, i.3)
          | inr two ↦
              let i = e.inside g two in
              let from-low = i.0 in
              let to-high = i.1 in
              (omega (arith, low, from-low), omega (arith, high, to-high), subst (λ (l : Layout). g.slot < l.slots) layout i.2, i.3)
        ];
        paired =
            length-append splits (alike more split.slot)
            ∙ (let one = h.paired in
            let two = alike_long more split.slot in
            let sum = length-append old more in
            let count : length new ≡ length (old ++ more) = ap (λ (l : List Half). length l) e.is in omega (arith, one, two, sum, count));
        came = λ j g u at split-at.
            came_more j g u (sym (ap (λ (l : List Half). slice_get l j) e.is) ∙ at) split-at;
        reads = λ word out.
            let there : IsElsewhere v.layout.slots (t ∷ slots_of new) word =
            subst (λ k. IsElsewhere k (t ∷ slots_of new) word) slots out in
            e.reads word (λ u has. one_out word there u (in_one u has))
            ∙ h.reads word (λ u has. there u (old_in u has all));
      }
    where
      -- the split leaf's own slot
      in_one : (u : ℕ) → Contains (split.slot ∷ []) u → split.slot ≡ u
      in_one u has = elim (in_cases u split.slot [] has) [ inl is ↦ is | inr none ↦ absurd (in_none u none) ]

      contained : (xs : List ℕ) (u : ℕ) → has_slot xs u ≡ true → Contains xs u
      contained [] u has = absurd (true≢false (sym has))
      contained (x ∷ xs) u has = elim (has_next x u xs has) [
        | inl here ↦ subst (λ k. Contains (x ∷ xs) k) here (in_head x xs)
        | inr more ↦ in_tail u x xs (contained xs u more)
      ]

      listed : (xs : List ℕ) (u : ℕ) → Contains xs u → has_slot xs u ≡ true
      listed [] u has = absurd (in_none u has)
      listed (x ∷ xs) u has = elim (in_cases u x xs has) [
        | inl is ↦ subst (λ k. has_slot (x ∷ xs) k ≡ true) is (has_first x xs)
        | inr more ↦ has_later x u xs (listed xs u more)
      ]

      old_in : (u : ℕ) → Contains (t ∷ slots_of old) u → slots_of new ≡ slots_of old ++ slots_of more → Contains (t ∷ slots_of new) u
      old_in u has all = elim (in_cases u t (slots_of old) has) [
        | inl is ↦ subst (λ k. Contains (t ∷ slots_of new) k) is (in_head t (slots_of new))
        | inr rest ↦
            in_tail u t (slots_of new)
            (contained (slots_of new) u
            (ap (λ (l : List ℕ). has_slot l u) all ∙ slot_in_old (slots_of old) (slots_of more) u (listed (slots_of old) u rest)))
      ]

      one_out : (word : ℕ) → IsElsewhere v.layout.slots (t ∷ slots_of new) word → (u : ℕ) → split.slot ≡ u → IsOutside v.layout.slots u word
      one_out word there u is =
          there u (elim from [
            | inl first ↦ subst (λ k. Contains (t ∷ slots_of new) k) (sym first ∙ is) (in_head t (slots_of new))
            | inr g ↦
                in_tail u t (slots_of new)
                (subst (λ k. Contains (slots_of new) k) (g.3 ∙ is)
                (contained (slots_of new) (g.1).slot
                (ap (λ (l : List ℕ). has_slot l (g.1).slot) (ap slots_of e.is ∙ slots_more old more)
                ∙ slot_in_old (slots_of old) (slots_of more) (g.1).slot (slot_half old g.1 (at_in old g.0 g.1 g.2)))))
          ])

      -- what is earlier is so among more
      earlier : (j u : ℕ) → IsEarlier t old j u → IsEarlier t new j u
      earlier j u (inl is) = inl is
      earlier j u (inr (i, g, less, at, is)) =
          inr (i, g, less, ap (λ (l : List Half). slice_get l i) e.is ∙ at_old old more i g at, is)

      came_old : (j : ℕ) (g : Half) (u : ℕ) → slice_get old j ≡ Some g → slice_get splits j ≡ Some u
          → IsEarlier t new j u × CameOf t new g u w
      came_old j g u at split-at =
          let one = h.came j g u at split-at in
          let c = one.1 in
          (earlier j u one.0, record { moved = c.moved; has = e.looks.on.moved c.moved c.has; slot = c.slot; leads = c.leads })

      came_new : (j k : ℕ) (g : Half) (u : ℕ) → j ≡ length old + k → slice_get more k ≡ Some g → split.slot ≡ u
          → IsEarlier t new j u × CameOf t new g u w
      came_new j k g u place at is =
          let c = e.came g (at_in more k g at) in (
            elim from [
              | inl first ↦ inl (sym is ∙ first)
              | inr o ↦
                  let low = slice_get_within old o.0 o.1 o.2 in
                  inr (
                    o.0,
                    o.1,
                    omega (arith, low, place),
                    ap (λ (l : List Half). slice_get l o.0) e.is ∙ at_old old more o.0 o.1 o.2,
                    o.3 ∙ is,
                  )
            ],
            record {
              moved = c.0;
              has = c.1;
              slot = c.2 ∙ is;
              leads = elim c.3 [ inl one ↦ inl one | inr two ↦ inr two ];
            },
          )

      came_more : (j : ℕ) (g : Half) (u : ℕ) → slice_get (old ++ more) j ≡ Some g → slice_get (splits ++ alike more split.slot) j ≡ Some u
          → IsEarlier t new j u × CameOf t new g u w
      came_more j g u at split-at = elim (at_more old more j g at) [
        | inl one ↦ elim (at_more splits (alike more split.slot) j u split-at) [
          | inl two ↦ came_old j g u one two
          | inr two ↦
              let low = slice_get_within old j g one in
              let place = two.1 in
              let long = h.paired in absurd (omega (arith, low, place, long))
        ]
        | inr one ↦ elim (at_more splits (alike more split.slot) j u split-at) [
          | inl two ↦
              let low = slice_get_within splits j u two in
              let place = one.1 in
              let long = h.paired in absurd (omega (arith, low, place, long))
          | inr two ↦ came_new j one.0 g u one.1 one.2 (alike_at more split.slot two.0 u two.2)
        ]
      ]

  -- ---- what was found in them

  -- a page that was looked at
  pub found_stays : (old new : List Half) (g : Half) (n : ℕ) (v w : View) → IsFoundSo t sp old g n v → ChainsOn v w
      → ((m : ℕ) → has_slot (slots_of old) m ≡ true → has_slot (slots_of new) m ≡ true)
      → read_of w.reads (page_at v.layout.slots g.slot 0) ≡ read_of v.reads (page_at v.layout.slots g.slot 0)
      → IsFoundSo t sp new g n w
  found_stays old new g n v w f on more same = record {
    kind = f.kind;
    keys = keys_chained g.slot (count_of n) (span_in sp g) v w on f.keys;
    seen =
        ap (λ (l : Layout). seen_at w.reads (page_at l.slots g.slot 0)) (layout_chained v w on)
        ∙ (seen_same v.reads w.reads (page_at v.layout.slots g.slot 0) same ∙ f.seen);
    leaf = f.leaf;
    split = λ moved.
        let s = f.split moved in
        (s.0, (s.1.0, on.moved s.1.0 s.1.1, s.1.2, more (s.1.0).minor s.1.3, more (s.1.0).major s.1.4));
  }
