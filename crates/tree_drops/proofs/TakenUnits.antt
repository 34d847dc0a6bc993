-- Units of work on a chain, one after another: what is locked behind each.
use Rattle.std.proofs.Common.{◌≡◌, ◌⊎◌, inl, inr, ℕ, suc, ◌+◌, ◌*◌, ◌<◌, ◌≤◌, Bool, true, false, true≢false, cond, eqb, eq-eqb, eqb-true}
use Rattle.std.proofs.Common.{List, ◌∷◌, refl, sym, ap, ◌∙◌, subst, arith, Some}
use Rattle.std.specs.Prelude.{◌||◌}
use Rattle.std.specs.List.{Contains, slice_get}
use Rattle.lists.specs.Elements.{at_below, in_cases, in_head, in_push_cases, in_push_old, in_tail}
use Rattle.serial_model.specs.declared.key.Key.{Key}
use Rattle.homes.specs.declared.places.Span.{Span}
use Rattle.homes.specs.declared.places.Spot.{Spot}
use Rattle.homes.specs.Homes.{has_key, in_span}
use Rattle.homes.specs.Laws.{in_span-parts}
use Rattle.drop_core.specs.Table.{has_slot}
use Rattle.engine_pages.specs.declared.view.Head.{Head}
use Rattle.engine_pages.specs.declared.view.Took.{Took}
use Rattle.engine_pages.specs.declared.view.View.{View}
use Rattle.engine_pages.specs.Layout.{page_at}
use Rattle.engine_pages.specs.Pages.{decl_of, is_array, is_tree}
use Rattle.engine_pages.specs.Pointers.{one_kind}
use Rattle.engine_pages.specs.Steps.{seen_at}
use Rattle.engine_pages.specs.Words.{spot}
use Rattle.page_records.specs.Locks.{took_at}
use Rattle.tree_heads.specs.Headers.{count_of, moved_bit}
use Rattle.chain_steps.specs.declared.halves.Half.{Half}
use Rattle.chain_steps.specs.Below.{IsStoredIn}
use Rattle.chain_steps.specs.Swings.{IsLockedBelow}
use Rattle.page_drops.specs.Works.{HasHeadAt}
use Rattle.tree_drops.specs.declared.taking.ChainPage.{ChainPage}
use Rattle.tree_drops.specs.declared.taking.Root.{Root}
use Rattle.tree_drops.specs.Chains.{span_in, ChainLooks, ChainsOn}
use Rattle.tree_drops.specs.Leaves.{AreKeys, IsNew, IsUntaken}
use Rattle.tree_drops.specs.Taking.{keys_in, AreTaken, HasHeadedPage, HasRecorded, HasSealedPage, IsPageAt, IsTakenHead, IsTakenKey}
use Rattle.tree_drops.specs.Taking.{IsWholeChain}
use Rattle.tree_drops.proofs.Chaining.{pages_chained, past_chained}
use Rattle.tree_drops.proofs.KeyLists.{has_at, one_index, other_keys}
use Rattle.tree_drops.proofs.Swung.{has_push}

-- ---- one page

-- one index, one page
pub same_page : (root : Root) (halves : List Half) (headers : List ℕ) (i : ℕ) (h g : Half) (n m : ℕ) → IsPageAt root halves headers i h n
    → IsPageAt root halves headers i g m → (h ≡ g) × (n ≡ m)
same_page root halves headers i h g n m a b =
    let one = a.page in
    let two = b.page in
    let three = a.header in
    let four = b.header in (cc, cc)

-- a record stays locked
pub below_on : (t i number : ℕ) (whole : Span) (k : Key) (v w : View) → ChainsOn v w
    → ((n : ℕ) → Contains v.took (took_at k (spot t i) n) → Contains w.took (took_at k (spot t i) n))
    → IsLockedBelow v t i whole number k → IsLockedBelow w t i whole number k
below_on t i number whole k v w on took h = record {
  word = h.word;
  took = took h.word h.took;
  content = h.content;
  small = h.small;
  is = h.is;
  value = elim h.value [
    | inl none ↦ inl none
    | inr has ↦ inr (on.versions (record { key = k; content = h.content }) has)
  ];
  stored = h.stored;
  below = subst (λ ps. IsStoredIn ps whole number k.key h.stored) (sym (pages_chained v w on)) h.below;
  says = h.says;
  old = λ none. subst (λ (n : ℕ). h.content.number.epoch ≤ n) (sym (past_chained v w on)) (h.old none);
}

module _ (root : Root) (halves : List Half) (headers : List ℕ) where
  abbrev At : ℕ → Half → ℕ → Type 0
  At i h n = IsPageAt root halves headers i h n

  abbrev At-key : ℕ → View → Key → Type 0
  At-key p v k = IsTakenKey root halves headers p v k

  -- ---- told of more

  abbrev key_on : (p q : ℕ) (v w : View) (k : Key) → p ≤ q → ((x : Head) → Contains v.heads x → Contains w.heads x) → At-key p v k
      → At-key q w k
  key_on p q v w k more heads h =
      let before = h.before in record {
        index = h.index;
        half = h.half;
        header = h.header;
        page = h.page;
        leaf = h.leaf;
        head = h.head;
        has = heads h.head h.has;
        slot = h.slot;
        record_at = h.record_at;
        before = omega (arith, before, more);
        key = h.key;
      }

  head_on : (p q : ℕ) (v w : View) (x : Head) → p ≤ q → ChainsOn v w → IsTakenHead root halves headers p v x
      → IsTakenHead root halves headers q w x
  head_on p q v w x more on h =
      let before = h.before in record {
        index = h.index;
        half = h.half;
        header = h.header;
        page = h.page;
        leaf = h.leaf;
        slot = h.slot;
        before = omega (arith, before, more);
        knows = on.known (record { slot = h.half.slot; keys = x.keys }) h.knows;
        are = h.are;
      }

  -- the word of another page's header was seen as before
  abbrev SeenOn : ℕ → View → View → Type 0
  SeenOn p v w = (i : ℕ) (h : Half) (n : ℕ) → At i h n → p ≤ 17 * i
      → seen_at w.reads (page_at w.layout.slots h.slot 0) ≡ seen_at v.reads (page_at v.layout.slots h.slot 0)

  -- ---- behind looks, and where nothing is to do

  pub taken_looked : (p : ℕ) (v w : View) → ChainLooks v w → SeenOn p v w → AreTaken root halves headers p v
      → AreTaken root halves headers p w
  taken_looked p v w looks seen t =
      let heads : (x : Head) → Contains v.heads x → Contains w.heads x = λ x has. subst (λ l. Contains l x) (sym looks.heads) has in record {
        seals = λ i h n at less moved. ap (λ l. has_slot l h.slot) looks.sealed ∙ t.seals i h n at less moved;
        heads = λ i h n at less leaf. let x = t.heads i h n at less leaf in (x.0, heads x.0 x.1, x.2);
        records = λ i h n r x k at leaf less has slot key.
            below_on h.slot r (root.target).page (keys_in root) k v w looks.on
            (λ m took. subst (λ l. Contains l (took_at k (spot h.slot r) m)) (sym looks.took) took)
            (t.records i h n r x k at leaf less (subst (λ l. Contains l x) looks.heads has) slot key);
        own = λ k has. key_on p p v w k (omega arith) heads (t.own k (sym (ap (λ l. has_key l k) looks.locks) ∙ has));
        mine = λ y has.
            let z = t.mine y (subst (λ l. Contains l y) looks.took has) in (key_on p p v w y.key (omega arith) heads z.0, z.1);
        head = λ x has. head_on p p v w x (omega arith) looks.on (t.head x (subst (λ l. Contains l x) looks.heads has));
        one = λ x y a b. t.one x y (subst (λ l. Contains l x) looks.heads a) (subst (λ l. Contains l y) looks.heads b);
        sealed = λ u has. t.sealed u (sym (ap (λ l. has_slot l u) looks.sealed) ∙ has);
        seen = λ i h n at less. seen i h n at less ∙ t.seen i h n at less;
      }

  module _ (i j : ℕ) (h : Half) (n : ℕ) (v : View) (chain : IsWholeChain root halves headers v) (at : At i h n) (unit : j < 17)
      (t : AreTaken root halves headers (17 * i + j) v) where
    abbrev p : ℕ
    p = 17 * i + j

    -- the page of an earlier unit, or this one
    early : (i' q : ℕ) → q < 17 → 17 * i' + q < p + 1 → (17 * i' + q < p) ⊎ ((i' ≡ i) × (q ≡ j))
    early i' q few less = by_test (eqb (17 * i' + q) p) refl
      where
        by_test : (c : Bool) → eqb (17 * i' + q) p ≡ c → (17 * i' + q < p) ⊎ ((i' ≡ i) × (q ≡ j))
        by_test true e =
            let same : 17 * i' + q ≡ 17 * i + j = eqb-true (17 * i' + q) p e in
            inr (omega (arith, same, few, unit), omega (arith, same, few, unit))
        by_test false e =
            inl (by_less (λ same. true≢false (sym (eq-eqb (17 * i' + q) p same) ∙ e)))
          where
            by_less : (17 * i' + q ≡ p → ⊥) → 17 * i' + q < p
            by_less other = omega (arith, less, other)

    -- where a header is to be locked next, none of the page is
    early_page : (i' : ℕ) → 17 * i' < p + 1 → (17 * i' < p) ⊎ ((i' ≡ i) × (0 ≡ j))
    early_page i' less = elim (early i' 0 (omega arith) (omega (arith, less))) [
      | inl low ↦ inl (omega (arith, low))
      | inr here ↦ inr here
    ]

    -- the head of this page
    own_keys : (x : Head) → Contains v.heads x → x.slot ≡ h.slot → AreKeys (span_in (keys_in root) h) (count_of n) x.keys
    own_keys x has slot =
        let y = t.head x has in
        let index : y.index ≡ i = chain.once y.index i y.half h y.header n y.page at (sym y.slot ∙ slot) in
        let same = same_page root halves headers i y.half h y.header n (subst (λ m. At m y.half y.header) index y.page) at in
        subst (λ z. AreKeys (span_in (keys_in root) h) (count_of z) x.keys) same.1
        (subst (λ (z : Half). AreKeys (span_in (keys_in root) z) (count_of y.header) x.keys) same.0 y.are)

    -- ---- nothing was to do

    pub taken_nothing : 0 < j → (moved_bit ≤ n) ⊎ (count_of n < j) → AreTaken root halves headers (p + 1) v
    taken_nothing some none = record {
      seals = λ i' g m a less moved. elim (early_page i' less) [
        | inl low ↦ t.seals i' g m a low moved
        | inr here ↦ let no = here.1 in absurd (omega (arith, no, some))
      ];
      heads = λ i' g m a less leaf. elim (early_page i' less) [
        | inl low ↦ t.heads i' g m a low leaf
        | inr here ↦ let no = here.1 in absurd (omega (arith, no, some))
      ];
      records = λ i' g m r x k a leaf less has slot key.
          let long = (t.head x has).are.long in
          let index = at_below x.keys r k key in
          let few = (t.head x has).are.few in
          elim (early i' (suc r) (omega (arith, long, index, few)) less) [
            | inl low ↦ t.records i' g m r x k a leaf low has slot key
            | inr here ↦
                let same = same_page root halves headers i g h m n (subst (λ z. At z g m) here.0 a) at in
                let keys = own_keys x has (slot ∙ ap (λ (z : Half). z.slot) same.0) in
                let count = keys.long in
                let next = here.1 in
                let header = same.1 in
                absurd (elim none [
                  | inl moved ↦ omega (arith, leaf, header, moved)
                  | inr past ↦ omega (arith, count, index, next, past)
                ])
          ];
      own = λ k has. key_on p (p + 1) v v k (omega arith) (λ x y. y) (t.own k has);
      mine = λ y has. let z = t.mine y has in (key_on p (p + 1) v v y.key (omega arith) (λ x q. q) z.0, z.1);
      head = λ x has.
          let z = t.head x has in
          let before = z.before in record {
            index = z.index;
            half = z.half;
            header = z.header;
            page = z.page;
            leaf = z.leaf;
            slot = z.slot;
            before = omega (arith, before);
            knows = z.knows;
            are = z.are;
          };
      one = t.one;
      sealed = λ u has.
          let z = t.sealed u has in
          let before = z.5 in (z.0, z.1, z.2, z.3, z.4, omega (arith, before), z.6);
      seen = λ i' g m a less. t.seen i' g m a (omega (arith, less));
    }

    -- ---- the header of a split leaf was locked

    pub taken_sealed : (page : ChainPage) (w : View) → page.slot ≡ h.slot → j ≡ 0 → moved_bit ≤ n → HasSealedPage page v w
        → SeenOn (p + 1) v w → AreTaken root halves headers (p + 1) w
    taken_sealed page w slot first moved s seen =
        let heads : (x : Head) → Contains v.heads x → Contains w.heads x = λ x has. subst (λ l. Contains l x) (sym s.heads) has in record {
          seals = λ i' g m a less split. ap (λ l. has_slot l g.slot) s.sealed
              ∙ elim (early_page i' less) [
                | inl low ↦ in_more page.slot g.slot v.sealed (t.seals i' g m a low split)
                | inr here ↦
                    let same = same_page root halves headers i g h m n (subst (λ z. At z g m) here.0 a) at in
                    ap (λ (c : Bool). c || has_slot v.sealed g.slot)
                    (eq-eqb page.slot g.slot (slot ∙ ap (λ (z : Half). z.slot) (sym same.0)))
              ];
          heads = λ i' g m a less leaf. elim (early_page i' less) [
            | inl low ↦ let x = t.heads i' g m a low leaf in (x.0, heads x.0 x.1, x.2)
            | inr here ↦
                let same = same_page root halves headers i g h m n (subst (λ z. At z g m) here.0 a) at in
                let header = same.1 in absurd (omega (arith, leaf, header, moved))
          ];
          records = λ i' g m r x k a leaf less has slot' key.
              let old = subst (λ l. Contains l x) s.heads has in
              let z = t.head x old in
              let long = z.are.long in
              let index = at_below x.keys r k key in
              let few = z.are.few in
              elim (early i' (suc r) (omega (arith, long, index, few)) less) [
                | inl low ↦ below_on g.slot r (root.target).page (keys_in root) k v w s.on
                    (λ q took. subst (λ l. Contains l (took_at k (spot g.slot r) q)) (sym s.took) took)
                    (t.records i' g m r x k a leaf low old slot' key)
                | inr here ↦ let no = here.1 in absurd (omega (arith, no, first))
              ];
          own = λ k has. key_on p (p + 1) v w k (omega arith) heads (t.own k (sym (ap (λ l. has_key l k) s.locks) ∙ has));
          mine = λ y has.
              let z = t.mine y (subst (λ l. Contains l y) s.took has) in (key_on p (p + 1) v w y.key (omega arith) heads z.0, z.1);
          head = λ x has. head_on p (p + 1) v w x (omega arith) s.on (t.head x (subst (λ l. Contains l x) s.heads has));
          one = λ x y a b. t.one x y (subst (λ l. Contains l x) s.heads a) (subst (λ l. Contains l y) s.heads b);
          sealed = λ u has.
              elim (slot_cases page.slot u v.sealed (sym (ap (λ l. has_slot l u) s.sealed) ∙ has)) [
                | inl own ↦ (i, h, n, at, moved, omega (arith, first), sym slot ∙ own)
                | inr old ↦
                    let z = t.sealed u old in
                    let before = z.5 in (z.0, z.1, z.2, z.3, z.4, omega (arith, before), z.6)
              ];
          seen = λ i' g m a less. seen i' g m a less ∙ t.seen i' g m a (omega (arith, less));
        }
      where
        in_more : (x u : ℕ) (xs : List ℕ) → has_slot xs u ≡ true → has_slot (x ∷ xs) u ≡ true
        in_more x u xs has = by_test (eqb x u) has
          where
            by_test : (c : Bool) → has_slot xs u ≡ true → (c || has_slot xs u) ≡ true
            by_test true has = refl
            by_test false has = has

        slot_cases : (x u : ℕ) (xs : List ℕ) → has_slot (x ∷ xs) u ≡ true → (x ≡ u) ⊎ (has_slot xs u ≡ true)
        slot_cases x u xs has = by_test (eqb x u) refl has
          where
            by_test : (c : Bool) → eqb x u ≡ c → (c || has_slot xs u) ≡ true → (x ≡ u) ⊎ (has_slot xs u ≡ true)
            by_test true e has = inl (eqb-true x u e)
            by_test false e has = inr has

    -- ---- the header of a leaf was locked

    pub taken_headed : (page : ChainPage) (w : View) → page.slot ≡ h.slot → page.span ≡ span_in (keys_in root) h → page.header ≡ n
        → j ≡ 0 → n < moved_bit → (s : HasHeadedPage page v w) → SeenOn (p + 1) v w → AreTaken root halves headers (p + 1) w
    taken_headed page w slot span header first leaf s seen =
        let heads : (x : Head) → Contains v.heads x → Contains w.heads x =
        λ x has. subst (λ l. Contains l x) (sym s.heads) (in_tail x s.head v.heads has) in
        let fresh : (x : Head) → Contains v.heads x → x.slot ≡ s.head.slot → ⊥ = λ x has same.
        let y = t.head x has in
        let index : y.index ≡ i = chain.once y.index i y.half h y.header n y.page at (sym y.slot ∙ (same ∙ (s.slot ∙ slot))) in
        let before = y.before in omega (arith, before, index, first) in record {
          seals = λ i' g m a less moved. ap (λ l. has_slot l g.slot) s.sealed
              ∙ elim (early_page i' less) [
                | inl low ↦ t.seals i' g m a low moved
                | inr here ↦
                    let same = same_page root halves headers i g h m n (subst (λ z. At z g m) here.0 a) at in
                    let number = same.1 in absurd (omega (arith, leaf, number, moved))
              ];
          heads = λ i' g m a less low_leaf. elim (early_page i' less) [
            | inl low ↦ let x = t.heads i' g m a low low_leaf in (x.0, heads x.0 x.1, x.2)
            | inr here ↦
                let same = same_page root halves headers i g h m n (subst (λ z. At z g m) here.0 a) at in (
                  s.head,
                  subst (λ l. Contains l s.head) (sym s.heads) (in_head s.head v.heads),
                  s.slot ∙ (slot ∙ ap (λ (z : Half). z.slot) (sym same.0)),
                )
          ];
          records = λ i' g m r x k a low_leaf less has slot' key.
              elim (in_cases x s.head v.heads (subst (λ l. Contains l x) s.heads has)) [
                | inl own ↦
                    let index : i' ≡ i = chain.once i' i g h m n a at (sym slot' ∙ (ap (λ (z : Head). z.slot) (sym own) ∙ (s.slot ∙ slot))) in
                    absurd (omega (arith, less, index, first))
                | inr old ↦
                    let z = t.head x old in
                    let long = z.are.long in
                    let place = at_below x.keys r k key in
                    let few = z.are.few in
                    elim (early i' (suc r) (omega (arith, long, place, few)) less) [
                      | inl low ↦ below_on g.slot r (root.target).page (keys_in root) k v w s.on
                          (λ q took. subst (λ l. Contains l (took_at k (spot g.slot r) q)) (sym s.took) took)
                          (t.records i' g m r x k a low_leaf low old slot' key)
                      | inr here ↦ let no = here.1 in absurd (omega (arith, no, first))
                    ]
              ];
          own = λ k has. key_on p (p + 1) v w k (omega arith) heads (t.own k (sym (ap (λ l. has_key l k) s.locks) ∙ has));
          mine = λ y has.
              let z = t.mine y (subst (λ l. Contains l y) s.took has) in (key_on p (p + 1) v w y.key (omega arith) heads z.0, z.1);
          head = λ x has.
              elim (in_cases x s.head v.heads (subst (λ l. Contains l x) s.heads has)) [
                | inl own ↦ subst (λ (z : Head). IsTakenHead root halves headers (p + 1) w z) own record {
                  index = i;
                  half = h;
                  header = n;
                  page = at;
                  leaf = leaf;
                  slot = s.slot ∙ slot;
                  before = omega (arith, first);
                  knows = subst (λ u. Contains w.known (record { slot = u; keys = s.head.keys })) slot s.knows;
                  are = subst (λ m. AreKeys (span_in (keys_in root) h) (count_of m) s.head.keys) header
                      (subst (λ (z : Span). AreKeys z (count_of page.header) s.head.keys) span s.are);
                }
                | inr old ↦ head_on p (p + 1) v w x (omega arith) s.on (t.head x old)
              ];
          one = λ x y a b same.
              elim (in_cases x s.head v.heads (subst (λ l. Contains l x) s.heads a)) [
                | inl own ↦ elim (in_cases y s.head v.heads (subst (λ l. Contains l y) s.heads b)) [
                  | inl too ↦ sym own ∙ too
                  | inr old ↦ absurd (fresh y old (sym same ∙ ap (λ (z : Head). z.slot) (sym own)))
                ]
                | inr old ↦ elim (in_cases y s.head v.heads (subst (λ l. Contains l y) s.heads b)) [
                  | inl too ↦ absurd (fresh x old (same ∙ ap (λ (z : Head). z.slot) (sym too)))
                  | inr both ↦ t.one x y old both same
                ]
              ];
          sealed = λ u has.
              let z = t.sealed u (sym (ap (λ l. has_slot l u) s.sealed) ∙ has) in
              let before = z.5 in (z.0, z.1, z.2, z.3, z.4, omega (arith, before), z.6);
          seen = λ i' g m a less. seen i' g m a less ∙ t.seen i' g m a (omega (arith, less));
        }

    -- ---- a record was locked

    -- the head of the page is locked
    pub head_here : 0 < j → n < moved_bit → (x : Head) × Contains v.heads x × (x.slot ≡ h.slot)
    head_here some leaf = t.heads i h n at (omega (arith, some)) leaf

    pub key_new : (r : ℕ) (x : Head) (k : Key) → j ≡ suc r → n < moved_bit → Contains v.heads x → x.slot ≡ h.slot
        → slice_get x.keys r ≡ Some k → IsNew k v
    key_new r x k next leaf has slot key = record {
      unlocked = by_test (has_key v.seat.locks k) refl;
      untaken = λ y took. other_keys y.key k (λ same. not_taken (subst (λ z. At-key p v z) same (t.mine y took).0));
    }
      where
        not_taken : At-key p v k → ⊥
        not_taken z =
            let y = t.head z.head z.has in
            by_index (eqb z.index i) refl
          where
            inside : (g : Half) (w : Head) (q : ℕ) → AreKeys (span_in (keys_in root) g) q w.keys → (m : ℕ)
                → slice_get w.keys m ≡ Some k → in_span (span_in (keys_in root) g) k ≡ true
            inside g w q are m here = are.inside k (has_at w.keys m k here)

            their_keys : AreKeys (span_in (keys_in root) z.half) (count_of z.header) (z.head).keys
            their_keys =
                let y = t.head z.head z.has in
                let index : y.index ≡ z.index =
                chain.once y.index z.index y.half z.half y.header z.header y.page z.page (sym y.slot ∙ z.slot) in
                let same = same_page root halves headers z.index y.half z.half y.header z.header
                (subst (λ m. At m y.half y.header) index y.page) z.page in
                subst (λ m. AreKeys (span_in (keys_in root) z.half) (count_of m) (z.head).keys) same.1
                (subst (λ (g : Half). AreKeys (span_in (keys_in root) g) (count_of y.header) (z.head).keys) same.0 y.are)

            by_index : (c : Bool) → eqb z.index i ≡ c → ⊥
            by_index true e =
                let index : z.index ≡ i = eqb-true z.index i e in
                let same = same_page root halves headers i z.half h z.header n
                (subst (λ m. At m z.half z.header) index z.page) at in
                let one : z.head ≡ x = t.one z.head x z.has has (z.slot ∙ (ap (λ (g : Half). g.slot) same.0 ∙ sym slot)) in
                let place : z.record_at ≡ r = one_index x.keys z.record_at r k (own_keys x has slot).once
                (subst (λ (w : Head). slice_get w.keys z.record_at ≡ Some k) one z.key) key in
                let before = z.before in omega (arith, before, index, place, next)
            by_index false e =
                chain.parts z.index i z.half h z.header n z.page at z.leaf leaf
                (λ same. true≢false (sym (eq-eqb z.index i same) ∙ e)) k
                (inside z.half z.head (count_of z.header) their_keys z.record_at z.key)
                (inside h x (count_of n) (own_keys x has slot) r key)

        by_test : (c : Bool) → has_key v.seat.locks k ≡ c → has_key v.seat.locks k ≡ false
        by_test false none = none
        by_test true locked = absurd (not_taken (t.own k locked))

    -- and it is none of the records that are locked
    pub key_untaken : (r : ℕ) → j ≡ suc r → HasHeadAt v h.slot → IsUntaken h.slot r v
    key_untaken r next own = record {
      records = λ y has same.
          let z = t.mine y has in
          let x = z.0 in
          let head = t.head x.head x.has in
          let few = head.are.few in
          let long = head.are.long in
          let place = at_below (x.head).keys x.record_at y.key x.key in
          let inside = in_span-parts (span_in (keys_in root) head.half) y.key
          (head.are.inside y.key (has_at (x.head).keys x.record_at y.key x.key)) in
          by_kind (y.key).storage x.index x.half x.header x.page x.record_at x.before (omega (arith, few, long, place))
          (is_array v.layout.decls (y.key).storage) refl
          (ap (λ n. is_tree v.layout.decls n) inside.0 ∙ chain.tree.over.tree)
          (same ∙ ap (λ (b : Spot). page_at v.layout.slots b.slot (cond (is_array v.layout.decls (y.key).storage) (2 * b.index) (17 + 3 * b.index))) z.1);
      shuts = chain.shuts;
      alive = λ y has same. own;
    }
      where
        by_kind : (storage i' : ℕ) (g : Half) (m : ℕ) → At i' g m → (q : ℕ) → 17 * i' + suc q < p → q < 16 → (c : Bool)
            → is_array v.layout.decls storage ≡ c → is_tree v.layout.decls storage ≡ true
            → page_at v.layout.slots h.slot (17 + 3 * r) ≡ page_at v.layout.slots g.slot (cond c (2 * q) (17 + 3 * q)) → ⊥
        by_kind storage i' g m a q before few true array tree same = one_kind (decl_of v.layout.decls storage) array tree
        by_kind storage i' g m a q before few false array tree same =
            let slots : h.slot ≡ g.slot = omega (arith, same, few, unit, next) in
            let rows : r ≡ q = omega (arith, same, few, unit, next) in
            let index : i' ≡ i = chain.once i' i g h m n a at (sym slots) in
            omega (arith, before, index, rows, next)

    pub taken_recorded : (page : ChainPage) (w : View) (r word : ℕ) (x : Head) (k : Key) → page.slot ≡ h.slot → j ≡ suc r
        → n < moved_bit → Contains v.heads x → x.slot ≡ h.slot → slice_get x.keys r ≡ Some k → HasRecorded root page r k word v w
        → SeenOn (p + 1) v w → AreTaken root halves headers (p + 1) w
    taken_recorded page w r word x k page_slot next leaf has slot key s seen =
        let heads : (y : Head) → Contains v.heads y → Contains w.heads y = λ y own. subst (λ l. Contains l y) (sym s.heads) own in
        let here_key : At-key (p + 1) w k = record {
          index = i;
          half = h;
          header = n;
          page = at;
          leaf = leaf;
          head = x;
          has = heads x has;
          slot = slot;
          record_at = r;
          before = omega (arith, next);
          key = key;
        } in record {
          seals = λ i' g m a less moved. ap (λ l. has_slot l g.slot) s.sealed
              ∙ elim (early_page i' less) [
                | inl low ↦ t.seals i' g m a low moved
                | inr here ↦ let no = here.1 in absurd (omega (arith, no, next))
              ];
          heads = λ i' g m a less low_leaf. elim (early_page i' less) [
            | inl low ↦ let y = t.heads i' g m a low low_leaf in (y.0, heads y.0 y.1, y.2)
            | inr here ↦ let no = here.1 in absurd (omega (arith, no, next))
          ];
          records = λ i' g m q y z a low_leaf less own slot' at_key.
              let old = subst (λ l. Contains l y) s.heads own in
              let them = t.head y old in
              let long = them.are.long in
              let place = at_below y.keys q z at_key in
              let few = them.are.few in
              elim (early i' (suc q) (omega (arith, long, place, few)) less) [
                | inl low ↦ below_on g.slot q (root.target).page (keys_in root) z v w s.on
                    (λ b took. subst (λ l. Contains l (took_at z (spot g.slot q) b)) (sym s.took)
                    (in_push_old (took_at z (spot g.slot q) b) (took_at k (spot page.slot r) word) v.took took))
                    (t.records i' g m q y z a low_leaf low old slot' at_key)
                | inr here ↦
                    let same = same_page root halves headers i g h m n (subst (λ b. At b g m) here.0 a) at in
                    let one : y ≡ x = t.one y x old has (slot' ∙ (ap (λ (b : Half). b.slot) same.0 ∙ sym slot)) in
                    let number = here.1 in
                    let row : q ≡ r = omega (arith, number, next) in
                    let same_key : z ≡ k =
                    let two : slice_get x.keys r ≡ Some z = subst (λ b. slice_get x.keys b ≡ Some z) row
                    (subst (λ (b : Head). slice_get b.keys q ≡ Some z) one at_key) in cc in
                    subst (λ (b : Key). IsLockedBelow w g.slot q (keys_in root) (root.target).page b) (sym same_key)
                    (subst (λ b. IsLockedBelow w g.slot b (keys_in root) (root.target).page k) (sym row)
                    (subst (λ b. IsLockedBelow w b r (keys_in root) (root.target).page k)
                    (page_slot ∙ ap (λ (b : Half). b.slot) (sym same.0)) s.locked))
              ];
          own = λ z own.
              elim (has_push v.seat.locks k z (sym (ap (λ l. has_key l z) s.locks) ∙ own)) [
                | inl old ↦ key_on p (p + 1) v w z (omega arith) heads (t.own z old)
                | inr new ↦ subst (λ b. At-key (p + 1) w b) new here_key
              ];
          mine = λ y own.
              elim (in_push_cases y (took_at k (spot page.slot r) word) v.took (subst (λ l. Contains l y) s.took own)) [
                | inl old ↦ let z = t.mine y old in (key_on p (p + 1) v w y.key (omega arith) heads z.0, z.1)
                | inr new ↦ subst (λ (b : Took). (q : At-key (p + 1) w b.key) × (b.spot ≡ spot (q.half).slot q.record_at)) new
                    (here_key, ap (λ b. spot b r) page_slot)
              ];
          head = λ y own. head_on p (p + 1) v w y (omega arith) s.on (t.head y (subst (λ l. Contains l y) s.heads own));
          one = λ y z a b. t.one y z (subst (λ l. Contains l y) s.heads a) (subst (λ l. Contains l z) s.heads b);
          sealed = λ u own.
              let z = t.sealed u (sym (ap (λ l. has_slot l u) s.sealed) ∙ own) in
              let before = z.5 in (z.0, z.1, z.2, z.3, z.4, omega (arith, before), z.6);
          seen = λ i' g m a less. seen i' g m a less ∙ t.seen i' g m a (omega (arith, less));
        }
