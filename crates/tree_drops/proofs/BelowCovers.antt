-- The pages of a snapshot below one that stands for keys of a chain: each of their records is of a key of the chain.
use Rattle.std.proofs.Common.{◌≡◌, ◌≢◌, ◌⊎◌, inl, inr, ℕ, zero, suc, ◌+◌, ◌*◌, ◌/◌, ◌%◌, ◌^◌, ◌<◌, ◌≤◌, Bool, true, false, cond}
use Rattle.std.proofs.Common.{List, [], ◌∷◌, length, get_or, refl, sym, ap, ◌∙◌, subst, arith, eqb, eq-eqb, eqb-true, true≢false, Some}
use Rattle.std.specs.Prelude.{Result, Ok, Err}
use Rattle.std.specs.List.{Contains, slice_get}
use Rattle.lists.specs.Elements.{at_below, in_cases, in_none}
use Rattle.serial_model.specs.declared.key.Key.{Key}
use Rattle.homes.specs.declared.places.Span.{Span}
use Rattle.snapshot_store.specs.declared.place.PagePlace.{PagePlace}
use Rattle.snapshot_store.specs.Places.{Found, page as page_words}
use Rattle.snapshot_store.specs.TreePages.{Record, record_for}
use Rattle.engine_pages.specs.declared.layout.Layout.{Layout}
use Rattle.engine_pages.specs.declared.view.Head.{Head}
use Rattle.engine_pages.specs.declared.view.KeptWhy.{KeptWhy}
use Rattle.engine_pages.specs.declared.view.KeptWhy.TheVariants.{Unlike, UnlikeAt}
use Rattle.engine_pages.specs.declared.view.View.{View}
use Rattle.engine_pages.specs.Layout.{page_at}
use Rattle.engine_pages.specs.Resident.{tree_below}
use Rattle.pointer_swings.specs.Children.{CanDescendTree, HasDescendedTree, begin_in, end_in, keys_of}
use Rattle.chain_steps.specs.declared.halves.Half.{Half}
use Rattle.chain_steps.specs.Below.{IsStoredBelow}
use Rattle.chain_steps.specs.Swings.{HasKeyIn}
use Rattle.page_drops.specs.declared.noting.Kept.{Kept}
use Rattle.page_drops.specs.Works.{HasGlanced}
use Rattle.tree_drops.specs.declared.covering.StoredPage.{StoredPage}
use Rattle.tree_drops.specs.declared.taking.Root.{Root}
use Rattle.tree_drops.specs.Belows.{CanGoBelow, HasMisshapen}
use Rattle.tree_drops.specs.Chains.{OnlyChains}
use Rattle.tree_drops.specs.ChainKeys.{key_in, CoversChildren, CoversRest, HasCoveredFrom, HasCoveredPage, HasCoveredRest, HasOpenedBelow}
use Rattle.tree_drops.specs.ChainKeys.{HasOpenedChild, IsCoveredOr, IsInnerOr, IsInnerPage}
use Rattle.tree_drops.specs.Leaves.{rest_of, HasCount, KeptForHeader}
use Rattle.tree_drops.specs.Taking.{all_slots, keys_in, CanCover, Covers, HasCovered, IsCoverCause, IsStoredThere, KeepsUncovered}
use Rattle.tree_drops.proofs.BelowKeys.{glanced_reads, take_on}
use Rattle.tree_drops.proofs.BelowLaws.{can_child, descends_below, keys_are}
use Rattle.tree_drops.proofs.Chaining.{chained_below, chained_glanced, chained_self, chained_then, keeps_chain, keeps_later}
use Rattle.tree_drops.proofs.Chaining.{layout_chained, pages_chained}
use Rattle.tree_drops.proofs.Covers.{rest_has}
use Rattle.tree_drops.proofs.Founds.{count_is, record_at, rest_first}

-- ---- what is known stays

pub below_on : (sp : Span) (page : ℕ) (v w : View) → OnlyChains v w → CanGoBelow sp page v → CanGoBelow sp page w
below_on sp page v w only can = subst (λ (z : View). CanGoBelow sp page z) (sym only.looks.on.chains) record {
  keeper = can.keeper;
  tree = can.tree;
  there = can.there;
  room = can.room;
  lead = λ some. let lead = can.lead some in (lead.0, only.looks.on.leads lead.0 lead.1, lead.2, lead.3);
}

pub cover_on : (root : Root) (halves : List Half) (headers : List ℕ) (sp : Span) (page : ℕ) (v w : View) → OnlyChains v w
    → w.reads ≡ v.reads → CanCover root halves headers sp page v → CanCover root halves headers sp page w
cover_on root halves headers sp page v w only reads can = record {
  take = take_on root halves headers (17 * suc (length halves)) v w only reads can.take;
  below = below_on sp page v w only can.below;
  storage = can.storage;
  from = can.from;
  to = can.to;
}

pub key_back : (slots : List ℕ) (k : Key) (v w : View) → OnlyChains v w → HasKeyIn w slots k → HasKeyIn v slots k
key_back slots k v w only h = record {
  head = h.head;
  has = subst (λ (l : List Head). Contains l h.head) only.looks.heads h.has;
  within = h.within;
  key = h.key;
}

pub covers_back : (root : Root) (halves : List Half) (sp : Span) (page : ℕ) (v w : View) → OnlyChains v w → Covers root halves sp page w
    → Covers root halves sp page v
covers_back root halves sp page v w only h d key f stored from to =
    key_back (all_slots root halves) (key_in sp key) v w only
    (h d key f (subst (λ ps. IsStoredBelow d ps sp page key (Some f)) (sym (pages_chained v w only.looks.on)) stored) from to)

pub key_storage : (slots : List ℕ) (v : View) (sp : Span) (whole : Span) (key : ℕ) → sp.storage ≡ whole.storage
    → HasKeyIn v slots (key_in whole key) → HasKeyIn v slots (key_in sp key)
key_storage slots v sp whole key same h =
    subst (λ (n : ℕ). HasKeyIn v slots (let k : Key = record { storage = n; key = key } in k)) (sym same) h

-- what was found is so in a later view
pub covered_later : (root : Root) (halves : List Half) (headers : List ℕ) (sp : Span) (key : ℕ) (v w : View) → OnlyChains v w
    → IsCoveredOr root halves headers sp key true v → IsCoveredOr root halves headers sp key true w
covered_later root halves headers sp key v w only h =
    λ from to.
    let x = h from to in record {
      head = x.head;
      has = subst (λ (l : List Head). Contains l x.head) (sym only.looks.heads) x.has;
      within = x.within;
      key = x.key;
    }

-- ---- the chain is kept

module _ (root : Root) (sp : Span) (page : ℕ) (k : Kept) (v u w : View) (only : OnlyChains v u) (reads : u.reads ≡ v.reads) where
  abbrev Cause : KeptWhy → ℕ → ℕ → Type 0
  Cause why word seen = IsCoverCause v.layout.slots root v.pages sp page why word

  -- for the header of the first page
  kept_for : (reason : KeptWhy) → ((why : KeptWhy) → why ≡ reason → ((why ≡ Unlike) × HasMisshapen v.pages)
      ⊎ ((key : Key) × (why ≡ UnlikeAt key) × IsStoredThere v.pages sp page key))
      → KeptForHeader root.slot reason k u w → w.reads ≡ u.reads → KeepsUncovered root sp page k v w
  kept_for reason so h more = (
    keeps_later (λ (why : KeptWhy) word seen. (why ≡ reason) × (word ≡ page_at u.layout.slots root.slot 0)) Cause k v u w only
        (λ c. record {
          place = c.1 ∙ ap (λ (l : Layout). page_at l.slots root.slot 0) (layout_chained v u only.looks.on);
          cause = so k.why c.0;
        })
        (keeps_chain (λ (why : KeptWhy) word seen. (why ≡ reason) × (word ≡ page_at u.layout.slots root.slot 0))
        (λ (why : KeptWhy) word seen. (why ≡ reason) × (word ≡ page_at u.layout.slots root.slot 0)) k u w (λ c. c) h),
    more ∙ reads,
  )

  -- since a page is misshapen
  pub kept_first : HasMisshapen v.pages → KeptForHeader root.slot Unlike k u w → w.reads ≡ u.reads → KeepsUncovered root sp page k v w
  kept_first odd h more = kept_for Unlike (λ why is. inl (is, odd)) h more

  -- or since a key of the snapshot is in no leaf
  pub kept_missing : (key : Key) → IsStoredThere v.pages sp page key → KeptForHeader root.slot (UnlikeAt key) k u w
      → w.reads ≡ u.reads → KeepsUncovered root sp page k v w
  kept_missing key there h more = kept_for (UnlikeAt key) (λ why is. inr (key, is, there)) h more

  -- for what is below another page
  pub kept_later : (own : Span) (n : ℕ) → ((key : Key) → IsStoredThere v.pages own n key → IsStoredThere v.pages sp page key)
      → KeepsUncovered root own n k u w → KeepsUncovered root sp page k v w
  kept_later own n up h = (
    keeps_later (λ (why : KeptWhy) word seen. IsCoverCause u.layout.slots root u.pages own n why word) Cause k v u w only
        (λ c. record {
          place = c.place ∙ ap (λ (l : Layout). page_at l.slots root.slot 0) (layout_chained v u only.looks.on);
          cause = elim c.cause [
            | inl odd ↦ inl (odd.0, subst (λ ps. HasMisshapen ps) (pages_chained v u only.looks.on) odd.1)
            | inr more ↦
                inr (more.0, more.1, up more.0 (subst (λ ps. IsStoredThere ps own n more.0) (pages_chained v u only.looks.on) more.2))
          ];
        })
        h.0,
    h.1 ∙ reads,
  )

-- ---- a leaf's records

-- a record's key is found
pub found_some : (rs : List Record) (r : Record) → Contains rs r → (f : Found) × (record_for rs r.key ≡ Some f)
found_some [] r has = absurd (in_none r has)
found_some (x ∷ rs) r has = by_test (eqb x.key r.key) refl (λ more. found_some rs r more)
  where
    by_test : (c : Bool) → eqb x.key r.key ≡ c → (Contains rs r → (f : Found) × (record_for rs r.key ≡ Some f))
        → (f : Found) × (cond c (Some x.found) (record_for rs r.key) ≡ Some f)
    by_test true e rest = (x.found, refl)
    by_test false e rest = elim (in_cases r x rs has) [
      | inl same ↦ absurd (true≢false (sym (eq-eqb x.key r.key (ap (λ (z : Record). z.key) same)) ∙ e))
      | inr more ↦ rest more
    ]

-- the record with this index is there
pub stored_here : (leaf : StoredPage) (index key : ℕ) (v : View) → HasCount v.pages leaf.span leaf.page leaf.count → index < leaf.count
    → key ≡ get_or (page_words v.pages leaf.page) (16 + 3 * index) 0 → (leaf.span).low ≤ key → key ≤ (leaf.span).high
    → IsStoredThere v.pages leaf.span leaf.page (key_in leaf.span key)
stored_here leaf index key v count less is from to =
    let words : List ℕ = page_words v.pages leaf.page in
    let x = found_some (rest_of words 0 leaf.count) (record_at words index) (rest_has words 0 leaf.count index (omega arith) (omega (arith, less))) in
    record {
      storage = refl;
      from = from;
      to = to;
      found = x.0;
      stored = (
        0,
        record {
          leaf = count.leaf;
          is = ap (λ (rs : List Record). record_for rs key) count.records
              ∙ (ap (λ n. record_for (rest_of words 0 leaf.count) n) is ∙ x.1);
        },
      );
    }

pub rest_none : (root : Root) (halves : List Half) (leaf : StoredPage) (index : ℕ) (v : View) → index ≡ leaf.count
    → CoversRest root halves leaf index v
rest_none root halves leaf index v end zero key f all is from to = absurd (cc)
rest_none root halves leaf index v end (suc n) key f all is from to = absurd (omega (arith, end, all))

pub rest_more : (root : Root) (halves : List Half) (headers : List ℕ) (leaf : StoredPage) (index here : ℕ) (v w : View) → OnlyChains v w
    → leaf.span.storage ≡ (keys_in root).storage → index ≢ leaf.count
    → here ≡ get_or (page_words v.pages leaf.page) (16 + 3 * index) 0
    → IsCoveredOr root halves headers leaf.span here true w → CoversRest root halves leaf (index + 1) w → CoversRest root halves leaf index v
rest_more root halves headers leaf index here v w only same other is covered rest zero key f all stored from to =
    absurd (other (let e : index ≡ leaf.count = omega (arith, all) in e))
rest_more root halves headers leaf index here v w only same other is covered rest (suc n) key f all stored from to =
    by_test (eqb first key) refl
    (sym (ap (λ (rs : List Record). record_for rs key) (rest_first (page_words v.pages leaf.page) index n)) ∙ stored)
  where
    first : ℕ
    first = get_or (page_words v.pages leaf.page) (16 + 3 * index) 0

    by_test : (c : Bool) → eqb (get_or (page_words v.pages leaf.page) (16 + 3 * index) 0) key ≡ c
        → cond c (Some (record_at (page_words v.pages leaf.page) index).found)
        (record_for (rest_of (page_words v.pages leaf.page) (index + 1) n) key)
        ≡ Some f → HasKeyIn v (all_slots root halves) (key_in leaf.span key)
    by_test true e found =
        let this : here ≡ key = is ∙ eqb-true (get_or (page_words v.pages leaf.page) (16 + 3 * index) 0) key e in
        key_back (all_slots root halves) (key_in leaf.span key) v w only
        (key_storage (all_slots root halves) w leaf.span (keys_in root) key same
        (subst (λ n. HasKeyIn w (all_slots root halves) (key_in (keys_in root) n)) this
        (covered (subst (λ n. (leaf.span).low ≤ n) (sym this) from) (subst (λ n. n ≤ (leaf.span).high) (sym this) to))))
    by_test false e found =
        key_back (all_slots root halves) (key_in leaf.span key) v w only
        (rest n key f (omega (arith, all))
        (subst (λ ps. record_for (rest_of (page_words ps leaf.page) (index + 1) n) key ≡ Some f) (sym (pages_chained v w only.looks.on)) found)
        from to)

-- behind a look at the record with this index
pub rest_then : (root : Root) (halves : List Half) (headers : List ℕ) (leaf : StoredPage) (index here : ℕ)
    (r : Result (Unit {0}) Kept) (v u w : View) → OnlyChains v u → u.reads ≡ v.reads → leaf.span.storage ≡ (keys_in root).storage
    → index ≢ leaf.count → here ≡ get_or (page_words v.pages leaf.page) (16 + 3 * index) 0
    → IsCoveredOr root halves headers leaf.span here true u → HasCoveredRest root halves headers leaf (index + 1) r u w
    → HasCoveredRest root halves headers leaf index r v w
rest_then root halves headers leaf index here (Ok x) v u w only reads same other is covered h =
    (chained_then v u w only h.0, rest_more root halves headers leaf index here v u only same other is covered h.1, h.2 ∙ reads)
rest_then root halves headers leaf index here (Err k) v u w only reads same other is covered h =
    kept_later root leaf.span leaf.page k v u w only reads leaf.span leaf.page (λ key x. x) h

no_place : (l : List PagePlace) (i : ℕ) (q : PagePlace) → l ≡ [] → slice_get l i ≡ Some q → ⊥
no_place [] i q none at = cc
no_place (x ∷ l) i q none at = cc

pub covers_leaf : (root : Root) (halves : List Half) (leaf : StoredPage) (v : View) → HasCount v.pages leaf.span leaf.page leaf.count
    → CoversRest root halves leaf 0 v → Covers root halves leaf.span leaf.page v
covers_leaf root halves leaf v count rest zero key f here from to =
    rest leaf.count key f (omega arith)
    (sym (ap (λ (rs : List Record). record_for rs key) count.records) ∙ here.is) from to
covers_leaf root halves leaf v count rest (suc d) key f (inl here) from to =
    rest leaf.count key f (omega arith)
    (sym (ap (λ (rs : List Record). record_for rs key) count.records) ∙ here.is) from to
covers_leaf root halves leaf v count rest (suc d) key f (inr way) from to =
    absurd (no_place (tree_below v.pages leaf.span leaf.page) way.1.index way.0 count.leaf way.1.at)

pub covers_blank : (root : Root) (halves : List Half) (sp : Span) (page : ℕ) (v : View) → page ≡ 0 → Covers root halves sp page v
covers_blank root halves sp page v none =
    subst (λ n. Covers root halves sp n v) (sym none)
    (covers_leaf root halves (record { span = sp; page = 0; count = 0 }) v
    (count_is v.pages sp 0 0 refl (inl refl) (λ same. refl) (omega arith))
    (rest_none root halves (record { span = sp; page = 0; count = 0 }) 0 v refl))

-- ---- the children of a page

pub stored_up : (pages : List (List ℕ)) (sp own : Span) (page n j : ℕ) (q : PagePlace) → slice_get (tree_below pages sp page) j ≡ Some q
    → sp.low ≤ q.low → q.high ≤ sp.high → own ≡ keys_of sp q → n ≡ q.number → (key : Key) → IsStoredThere pages own n key
    → IsStoredThere pages sp page key
stored_up pages sp own page n j q at low high same number key x =
    let y = subst (λ (z : Span). IsStoredThere pages z q.number key) same (subst (λ m. IsStoredThere pages own m key) number x) in
    let from = y.from in
    let to = y.to in record {
      storage = y.storage;
      from = omega (arith, from, low);
      to = omega (arith, to, high);
      found = y.found;
      stored = (suc y.stored.0, inr (q, record { index = j; at = at; from = y.from; to = y.to }, y.stored.1));
    }

-- a page that is gone into is covered as soon as its children are
pub covers_inner : (root : Root) (halves : List Half) (sp : Span) (page count : ℕ) (v : View) → IsInnerOr root halves sp page count v
    → CoversChildren root halves (record { span = sp; page = page; count = count }) 0 v → Covers root halves sp page v
covers_inner root halves sp page count v (inr leaf) rest = leaf.1
covers_inner root halves sp page count v (inl inner) rest =
    let long : length (tree_below v.pages sp page) ≡ count = rest.long inner.more in
    let more = inner.more in by_depth long (omega (arith, long, more))
  where
    no_leaf : 0 < length (tree_below v.pages sp page) → tree_below v.pages sp page ≡ [] → ⊥
    no_leaf some none =
        let zero_long : length (tree_below v.pages sp page) ≡ 0 = ap (λ (l : List PagePlace). length l) none in omega (arith, some, zero_long)

    by_depth : length (tree_below v.pages sp page) ≡ count → 0 < length (tree_below v.pages sp page) → Covers root halves sp page v
    by_depth long some zero key f here from to = absurd (no_leaf some here.leaf)
    by_depth long some (suc d) key f (inl here) from to = absurd (no_leaf some here.leaf)
    by_depth long some (suc d) key f (inr way) from to =
        let less : way.1.index < length (tree_below v.pages sp page) = at_below (tree_below v.pages sp page) way.1.index way.0 way.1.at in
        rest.each way.1.index way.0 (omega arith) (omega (arith, less, long)) way.1.at d key f way.2 way.1.from way.1.to

-- the child with this index, and those behind it
pub children_more : (root : Root) (halves : List Half) (headers : List ℕ) (page child : StoredPage) (index : ℕ) (v u z : View)
    → HasOpenedChild root halves headers page index v child u → OnlyChains u z
    → CoversChildren root halves child 0 u → CoversChildren root halves page (index + 1) z → CoversChildren root halves page index v
children_more root halves headers page child index v u z h only below rest = record {
  each = λ j q more less at. by_test (eqb j index) refl q more less at;
  long = λ less. h.long;
}
  where
    all : OnlyChains v z
    all = chained_then v u z h.only only

    child_covered : Covers root halves child.span child.page v
    child_covered =
        covers_inner root halves child.span child.page child.count v h.inner record {
          each = λ j q more less at.
              covers_back root halves (keys_of child.span q) q.number v u h.only
              (below.each j q more less
              (subst (λ ps. slice_get (tree_below ps child.span child.page) j ≡ Some q) (sym (pages_chained v u h.only.looks.on)) at));
          long = λ less.
              ap (λ ps. length (tree_below ps child.span child.page)) (sym (pages_chained v u h.only.looks.on)) ∙ below.long less;
        }

    by_test : {j : ℕ} (c : Bool) → eqb j index ≡ c → (q : PagePlace) → index ≤ j → j < page.count
        → slice_get (tree_below v.pages page.span page.page) j ≡ Some q → Covers root halves (keys_of page.span q) q.number v
    by_test {j} true e q more less at =
        let same : j ≡ index = eqb-true j index e in
        let here : slice_get (tree_below v.pages page.span page.page) index ≡ Some q =
        subst (λ i. slice_get (tree_below v.pages page.span page.page) i ≡ Some q) same at in
        let there = h.at in
        let one : h.place ≡ q = cc in
        subst (λ (x : PagePlace). Covers root halves (keys_of page.span x) x.number v) one
        (subst (λ (s : Span). Covers root halves s h.place.number v) h.span
        (subst (λ n. Covers root halves child.span n v) h.number child_covered))
    by_test {j} false e q more less at =
        covers_back root halves (keys_of page.span q) q.number v z all
        (rest.each j q (by_less (λ same. true≢false (sym (eq-eqb j index same) ∙ e))) less
        (subst (λ ps. slice_get (tree_below ps page.span page.page) j ≡ Some q) (sym (pages_chained v z all.looks.on)) at))
      where
        by_less : (j ≡ index → ⊥) → index + 1 ≤ j
        by_less other = omega (arith, more, other)

-- ---- a page is looked at

pub page_blank : (root : Root) (halves : List Half) (headers : List ℕ) (sp : Span) (page : ℕ) (v : View) → page ≡ 0
    → HasCoveredPage root halves headers sp page (Ok 0) v v
page_blank root halves headers sp page v none = (chained_self v, inr (refl, covers_blank root halves sp page v none), refl)

pub page_inner : (root : Root) (halves : List Half) (headers : List ℕ) (sp : Span) (page header : ℕ) (v w : View) → HasGlanced v w → page ≢ 0
    → header ≡ get_or (page_words v.pages page) 0 0 → header / 256 % 256 ≢ 1 → header % 256 ≢ 0 → header % 256 ≤ 30
    → HasCoveredPage root halves headers sp page (Ok (header % 256)) v w
page_inner root halves headers sp page header v w h some is other more few = (
  chained_glanced v w h,
  inl record {
    some = omega (arith, some);
    other = λ one. other (ap (λ (n : ℕ). n / 2 ^ 8 % 2 ^ 8) is ∙ one);
    counts = ap (λ (n : ℕ). n % 2 ^ 8) is;
    more = omega (arith, more);
    few = few;
  },
  glanced_reads v w h,
)

pub leaf_count : (pages : List (List ℕ)) (sp : Span) (page count : ℕ) → 0 < page → (get_or (page_words pages page) 0 0 / 2 ^ 8) % 2 ^ 8 ≡ 1
    → count ≡ get_or (page_words pages page) 0 0 % 2 ^ 8 → count ≤ 16 → HasCount pages sp page count
leaf_count pages sp page count some leaf is few =
    subst (λ n. HasCount pages sp page n) (sym is)
    (count_is pages sp page (get_or (page_words pages page) 0 0) refl (inr leaf) (λ none. absurd (omega (arith, some, none)))
    (subst (λ n. n ≤ 16) is few))

pub page_leaf : (root : Root) (halves : List Half) (headers : List ℕ) (leaf : StoredPage) (v w : View)
    → HasCount v.pages leaf.span leaf.page leaf.count → HasCoveredRest root halves headers leaf 0 (Ok tt) v w
    → HasCoveredPage root halves headers leaf.span leaf.page (Ok 0) v w
page_leaf root halves headers leaf v w count h = (h.0, inr (refl, covers_leaf root halves leaf v count h.1), h.2)

-- what was found of a later view
pub inner_back : (root : Root) (halves : List Half) (sp : Span) (page count : ℕ) (v w : View) → OnlyChains v w
    → IsInnerOr root halves sp page count w → IsInnerOr root halves sp page count v
inner_back root halves sp page count v w only (inl inner) =
    inl (subst (λ ps. IsInnerPage ps page count) (pages_chained v w only.looks.on) inner)
inner_back root halves sp page count v w only (inr leaf) = inr (leaf.0, covers_back root halves sp page v w only leaf.1)

pub inner_few : (root : Root) (halves : List Half) (sp : Span) (page count : ℕ) (v : View) → IsInnerOr root halves sp page count v → count ≤ 30
inner_few root halves sp page count v (inl inner) = inner.few
inner_few root halves sp page count v (inr leaf) = let none = leaf.0 in omega (arith, none)

pub inner_later : (page count : ℕ) (v w : View) → OnlyChains v w → (count ≡ 0) ⊎ IsInnerPage v.pages page count
    → (count ≡ 0) ⊎ IsInnerPage w.pages page count
inner_later page count v w only (inl none) = inl none
inner_later page count v w only (inr inner) =
    inr (subst (λ ps. IsInnerPage ps page count) (sym (pages_chained v w only.looks.on)) inner)

-- behind a look
pub earlier_page : (root : Root) (halves : List Half) (headers : List ℕ) (sp : Span) (page : ℕ) (r : Result ℕ Kept) (v u w : View)
    → OnlyChains v u → u.reads ≡ v.reads → HasCoveredPage root halves headers sp page r u w → HasCoveredPage root halves headers sp page r v w
earlier_page root halves headers sp page (Ok count) v u w only reads h =
    (chained_then v u w only h.0, inner_back root halves sp page count v u only h.1, h.2 ∙ reads)
earlier_page root halves headers sp page (Err k) v u w only reads h =
    kept_later root sp page k v u w only reads sp page (λ key x. x) h

pub inner_on : (page count : ℕ) (v w : View) → OnlyChains v w → IsInnerPage v.pages page count → IsInnerPage w.pages page count
inner_on page count v w only inner = subst (λ ps. IsInnerPage ps page count) (sym (pages_chained v w only.looks.on)) inner

pub can_descend_inner : (sp : Span) (page count j : ℕ) (v w : View) → OnlyChains v w → CanGoBelow sp page v → IsInnerPage v.pages page count
    → j < count → CanDescendTree w sp page j
can_descend_inner sp page count j v w only can inner less =
    let on = below_on sp page v w only can in
    let there = inner_on page count v w only inner in
    let is = there.counts in record {
      tree = on.tree;
      some = there.some;
      known = on.there;
      room = on.room;
      lead = on.lead there.some;
      inner = there.other;
      index = omega (arith, less, is);
    }

-- ---- one page down

module _ (root : Root) (halves : List Half) (headers : List ℕ) (page : StoredPage) (index n : ℕ) (own : Span) (v w : View)
    (can : CanCover root halves headers page.span page.page v)
    (same : own ≡ record {
      storage = page.span.storage;
      low = begin_in (page_words v.pages page.page) page.span index;
      high = end_in (page_words v.pages page.page) page.span index;
    })
    (h : HasDescendedTree page.span page.page index v n w) where
  goes : OnlyChains v w
  goes = chained_below v w (descends_below page.span own page.page index n v w can.below same h)

  stays : w.reads ≡ v.reads
  stays = ap (λ (z : View). z.reads) h.is

  keys_same : own ≡ keys_of page.span h.child
  keys_same = sym (keys_are page.span own page.page index n v w can.below same h)

  pub can_cover_child : CanCover root halves headers own n w
  can_cover_child = record {
    take = take_on root halves headers (17 * suc (length halves)) v w goes stays can.take;
    below = can_child page.span own page.page index n v w can.below same h;
    storage = ap (λ (z : Span). z.storage) same ∙ can.storage;
    from =
        let low : own.low ≡ (h.child).low = ap (λ (z : Span). z.low) keys_same in
        let all = can.from in
        let part = h.part.from in omega (arith, low, all, part);
    to =
        let high : own.high ≡ (h.child).high = ap (λ (z : Span). z.high) keys_same in
        let all = can.to in
        let part = h.part.to in omega (arith, high, all, part);
  }

  pub opened_child : (count : ℕ) (z : View) → IsInnerPage v.pages page.page page.count
      → HasCoveredPage root halves headers own n (Ok count) w z
      → HasOpenedBelow root halves headers page index (Ok (record { span = own; page = n; count = count })) v z
  opened_child count z inner found = record {
    only = chained_then v w z goes found.0;
    reads = found.2 ∙ stays;
    can = cover_on root halves headers own n w z found.0 found.2 can_cover_child;
    inner = inner_back root halves own n count v w goes found.1;
    below = h.below;
    many = inner_few root halves own n count w found.1;
    place = h.child;
    at = h.at;
    span = keys_same;
    number = h.says;
    low = h.part.from;
    high = h.part.to;
    long = h.count ∙ sym inner.counts;
  }

  pub kept_child : (k : Kept) (z : View) → HasCoveredPage root halves headers own n (Err k) w z
      → HasOpenedBelow root halves headers page index (Err k) v z
  kept_child k z found =
      kept_later root page.span page.page k v w z goes stays own n
      (stored_up v.pages page.span own page.page n index h.child h.at h.part.from h.part.to keys_same h.says) found

-- behind a look
pub opened_earlier : (root : Root) (halves : List Half) (headers : List ℕ) (page : StoredPage) (index : ℕ) (r : Result StoredPage Kept)
    (v u w : View) → OnlyChains v u → u.reads ≡ v.reads → HasOpenedBelow root halves headers page index r u w
    → HasOpenedBelow root halves headers page index r v w
opened_earlier root halves headers page index (Ok child) v u w only reads h =
    let pages = pages_chained v u only.looks.on in record {
      only = chained_then v u w only h.only;
      reads = h.reads ∙ reads;
      can = h.can;
      inner = inner_back root halves child.span child.page child.count v u only h.inner;
      below = h.below;
      many = h.many;
      place = h.place;
      at = subst (λ ps. slice_get (tree_below ps page.span page.page) index ≡ Some h.place) pages h.at;
      span = h.span;
      number = h.number;
      low = h.low;
      high = h.high;
      long = subst (λ ps. length (tree_below ps page.span page.page) ≡ page.count) pages h.long;
    }
opened_earlier root halves headers page index (Err k) v u w only reads h =
    kept_later root page.span page.page k v u w only reads page.span page.page (λ key x. x) h

-- ---- all pages below

-- the chain is kept for what is below a child
pub from_below : (root : Root) (halves : List Half) (headers : List ℕ) (page child : StoredPage) (index : ℕ) (k : Kept) (v u w : View)
    → HasOpenedChild root halves headers page index v child u → HasCoveredFrom root halves headers child 0 (Err k) u w
    → HasCoveredFrom root halves headers page index (Err k) v w
from_below root halves headers page child index k v u w h below =
    kept_later root page.span page.page k v u w h.only h.reads child.span child.page
    (stored_up v.pages page.span child.span page.page child.page index h.place h.at h.low h.high h.span h.number) below

pub from_more : (root : Root) (halves : List Half) (headers : List ℕ) (page child : StoredPage) (index : ℕ) (r : Result (Unit {0}) Kept)
    (v u z w : View) → HasOpenedChild root halves headers page index v child u
    → HasCoveredFrom root halves headers child 0 (Ok tt) u z → HasCoveredFrom root halves headers page (index + 1) r z w
    → HasCoveredFrom root halves headers page index r v w
from_more root halves headers page child index (Ok x) v u z w h below rest = (
  chained_then v z w (chained_then v u z h.only below.0) rest.0,
  children_more root halves headers page child index v u z h below.0 below.1 rest.1,
  rest.2 ∙ (below.2 ∙ h.reads),
)
from_more root halves headers page child index (Err k) v u z w h below rest =
    kept_later root page.span page.page k v z w (chained_then v u z h.only below.0) (below.2 ∙ h.reads) page.span page.page
    (λ key x. x) rest

pub covered_all : (root : Root) (halves : List Half) (headers : List ℕ) (sp : Span) (page count : ℕ) (r : Result (Unit {0}) Kept) (v u w : View)
    → HasCoveredPage root halves headers sp page (Ok count) v u
    → HasCoveredFrom root halves headers (record { span = sp; page = page; count = count }) 0 r u w
    → HasCovered root halves headers sp page r v w
covered_all root halves headers sp page count (Ok x) v u w h rest = (
  chained_then v u w h.0 rest.0,
  covers_inner root halves sp page count v h.1 record {
    each = λ j q more less at.
        covers_back root halves (keys_of sp q) q.number v u h.0
        (rest.1.each j q more less (subst (λ ps. slice_get (tree_below ps sp page) j ≡ Some q) (sym (pages_chained v u h.0.looks.on)) at));
    long = λ less. ap (λ ps. length (tree_below ps sp page)) (sym (pages_chained v u h.0.looks.on)) ∙ rest.1.long less;
  },
  rest.2 ∙ h.2,
)
covered_all root halves headers sp page count (Err k) v u w h rest =
    kept_later root sp page k v u w h.0 h.2 sp page (λ key x. x) rest
