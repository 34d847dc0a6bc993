-- What the work on a leaf of a tree asks and comes to, answer by answer.
use Rattle.std.proofs.Common.{◌≡◌, ◌≢◌, inl, ℕ, zero, suc, ◌/◌, ◌%◌, ◌^◌, ◌<◌, ◌≤◌, List, get_or, refl, sym, ap, ◌∙◌}
use Rattle.std.proofs.Common.{subst, arith, Option, Some, None}
use Rattle.std.specs.Prelude.{Err, IfErr, OnOk, Result}
use Rattle.std.specs.List.{Contains}
use Rattle.homes.specs.declared.places.At.{At}
use Rattle.homes.specs.declared.places.Span.{Span}
use Rattle.wire_form.specs.Leaves.{tree_fan}
use Rattle.snapshot_store.specs.Places.{page as page_words}
use Rattle.engine_pages.specs.declared.view.KeptWhy.{KeptWhy}
use Rattle.engine_pages.specs.declared.view.KeptWhy.TheVariants.{Changed, Locked, Unlike}
use Rattle.engine_pages.specs.declared.view.View.{View}
use Rattle.engine_pages.specs.Layout.{page_at}
use Rattle.engine_pages.specs.Steps.{glance}
use Rattle.tree_heads.specs.Headers.{HasWord, count_of}
use Rattle.page_drops.specs.declared.noting.Kept.{Kept}
use Rattle.page_drops.specs.Works.{HasGlanced, HasSeenLast, IsNoted, KeepsReadsBut}
use Rattle.page_drops.proofs.Looks.{glanced_then}
use Rattle.tree_drops.specs.Branches.{AreAlike, AtBranch, IsInnerOf, IsParted}
use Rattle.tree_drops.specs.Leaves.{HasCount, HasDropped, IsCauseBelow, IsCounted, IsLeafCause, IsNoLeaf, KnowsKeys}
use Rattle.tree_drops.specs.Turns.{CanWork, HasAlike, HasNotedPage, HasTakenLeaf, KnowsParts}
use Rattle.tree_drops.specs.Works.{KeepsIt, TellsPointer}
use Rattle.tree_drops.proofs.Asks.{work_looked}
use Rattle.tree_drops.proofs.Finishes.{leaf_taken, noted_page, taken_noted, taken_then}
use Rattle.tree_drops.proofs.Overs.{looks_glanced}
use Rattle.tree_drops.proofs.Parts.{branch_on, goes_glanced}
use Rattle.tree_drops.proofs.Works.{word_glanced}

-- the word was seen last, whatever it is kept for
pub last_as : (v : View) (word other seen : ℕ) (why for : KeptWhy) → other ≡ word
    → HasSeenLast v (record { word = word; seen = seen; why = why }) → HasSeenLast v (record { word = other; seen = seen; why = for })
last_as v word other seen why for same h = (h.0, h.1 ∙ ap (λ n. Some (glance h.0 n seen)) (sym same))

not_changed : (why : KeptWhy) (k : Kept) (word seen : ℕ) → k ≡ record { word = word; seen = seen; why = why }
    → ((e : ℕ) → why ≡ Changed e → ⊥) → (e : ℕ) → k.why ≡ Changed e → ⊥
not_changed why k word seen is never e so = never e (sym (ap (λ (x : Kept). x.why) is) ∙ so)

locked_apart : (e : ℕ) → Locked ≡ Changed e → ⊥
locked_apart e is = absurd (cc)

unlike_apart : (e : ℕ) → Unlike ≡ Changed e → ⊥
unlike_apart e is = absurd (cc)

module _ (x : At) (sp : Span) (at t page word epoch header place : ℕ) (k : Kept) (v w : View) (can : CanWork x sp at t page word epoch v)
    (here : place ≡ page_at v.layout.slots t 0) where
  pub taken_locked : k ≡ record { word = place; seen = header; why = Locked } → IsNoted k v w → 2 ^ 60 ≤ header → header < 2 ^ 61
      → HasTakenLeaf sp at page epoch t (Err k) v w
  taken_locked is told high low =
      taken_noted x sp at t page word epoch k v w can
      (noted_page (IsLeafCause v.layout.slots t sp v.pages page epoch) t place header Locked k v w is told
      (inl here, omega (arith, high, low)))
      (not_changed Locked k place header is locked_apart)

  taken_other : k ≡ record { word = place; seen = header; why = Unlike } → IsNoted k v w → IsNoLeaf page (page_words v.pages page)
      → HasTakenLeaf sp at page epoch t (Err k) v w
  taken_other is told none =
      taken_noted x sp at t page word epoch k v w can
      (noted_page (IsLeafCause v.layout.slots t sp v.pages page epoch) t place header Unlike k v w is told (here, none))
      (not_changed Unlike k place header is unlike_apart)

-- the snapshot's page is no leaf
pub taken_unlike : (x : At) (sp : Span) (at t page word epoch place n : ℕ) (k : Kept) (v a b w : View)
    → CanWork x sp at t page word epoch v → place ≡ page_at v.layout.slots t 0 → HasGlanced v a → HasWord t 0 place a n b
    → k ≡ record { word = place; seen = n; why = Unlike } → IsNoted k b w → IsNoLeaf page (page_words v.pages page)
    → HasTakenLeaf sp at page epoch t (Err k) v w
taken_unlike x sp at t page word epoch place n k v a b w can here one two is told none =
    let all = glanced_then v a b one (word_glanced t 0 place n a b two) in
    let looks = looks_glanced t v b all in
    taken_then sp at page epoch t (Err k) v b w all
    (taken_other x sp at t page word epoch n place k b w (work_looked x sp at t page word epoch v b looks can)
    (here ∙ ap (λ (z : View). page_at z.layout.slots t 0) (sym all.is)) is told
    (subst (λ (z : View). IsNoLeaf page (page_words z.pages page)) (sym all.is) none))

-- where nothing was counted
pub no_leaf : (pages : List (List ℕ)) (sp : Span) (page : ℕ) (o : Option ℕ) → ((n : ℕ) → o ≡ Some n → ⊥) → IsCounted pages sp page o
    → IsNoLeaf page (page_words pages page)
no_leaf pages sp page None never h = h
no_leaf pages sp page (Some n) never h = absurd (never n refl)

pub word_last : (t i at n : ℕ) (why : KeptWhy) (v w : View) → HasWord t i at v n w → HasSeenLast w (record { word = at; seen = n; why = why })
word_last t i at n why v w h = (v.steps, ap (λ (z : View). z.last) h.is)

-- ---- it is compared, and dropped

module _ (x : At) (sp : Span) (at t page word epoch count records : ℕ) (v a : View) (can : CanWork x sp at t page word epoch v)
    (glanced : HasGlanced v a) where
  pub work_glanced : CanWork x sp at t page word epoch a
  work_glanced = work_looked x sp at t page word epoch v a (looks_glanced t v a glanced) can

  pub count_glanced : HasCount v.pages sp page records → HasCount a.pages sp page records
  count_glanced h = subst (λ (z : View). HasCount z.pages sp page records) (sym glanced.is) h

  pub keys_glanced : KnowsKeys t sp count v → KnowsKeys t sp count a
  keys_glanced h = record {
    leaf = h.leaf;
    has = subst (λ (z : View). Contains z.known h.leaf) (sym glanced.is) h.has;
    slot = h.slot;
    are = h.are;
  }

  pub taken_dropped : (r : Result (Unit {0}) Kept) (w : View) → KeepsReadsBut t at a w → OnOk r (HasDropped t at page a w)
      → IfErr r (λ k. KeepsIt (IsCauseBelow t sp page epoch at word a) k a w) → IfErr r (λ k. TellsPointer at word k a w)
      → HasTakenLeaf sp at page epoch t r v w
  taken_dropped r w reads drops keeps tells =
      taken_then sp at page epoch t r v a w glanced
      (leaf_taken x sp at t page word epoch a w work_glanced reads r drops keeps tells)

-- ---- an interior page is compared

-- a header that is the snapshot's
module _ (sp : Span) (page t header wanted count : ℕ) (v : View) (parts : KnowsParts sp page t header v)
    (first : wanted ≡ get_or (page_words v.pages page) 0 0) (same : header ≡ wanted) (many : count ≡ count_of header) where
  first_word : get_or (page_words v.pages page) 0 0 ≡ header
  first_word = sym (same ∙ first)

  pub some_page : 0 < page
  some_page = by_page page refl
    where
      by_page : (p : ℕ) → p ≡ page → 0 < page
      by_page zero is =
          let none : get_or (page_words v.pages page) 0 0 ≡ 0 = ap (λ p. get_or (page_words v.pages p) 0 0) (sym is) in
          let long = parts.long in
          let nothing : header ≡ 0 = sym first_word ∙ none in
          absurd (omega (arith, nothing, long))
      by_page (suc p) is = omega (arith, is)

  pub inner_page : IsInnerOf page (page_words v.pages page) count
  inner_page = record {
    some = some_page;
    inner = λ one. parts.kind (ap (λ n. (n / 2 ^ 8) % 2 ^ 8) (sym first_word) ∙ one);
    many = ap (λ n. n % 2 ^ 8) first_word ∙ sym many;
  }

  abbrev pub branch_known : AtBranch t sp page count v
  branch_known = record {
    tree = parts.tree;
    inner = parts.inner;
    has = parts.has;
    slot = parts.slot;
    long = parts.long ∙ sym many;
    few = subst (λ n. n ≤ tree_fan) (parts.long ∙ sym many) parts.few;
    lead = parts.lead;
  }

  pub some_child : 0 < count
  some_child = let long = parts.long in omega (arith, long, many)

  pub alike_found : (w : View) → HasGlanced v w
      → ((x : AtBranch t sp page count v) → AreAlike (page_words v.pages page) (x.inner).separators 0) → HasAlike sp page t count v w
  alike_found w glanced alike = record {
    glances = glanced;
    some = some_page;
    opened = record {
      at = branch_on t page count sp v w (goes_glanced v w glanced).on branch_known;
      inner = subst (λ (z : View). IsInnerOf page (page_words z.pages page) count) (sym glanced.is) inner_page;
      alike = subst (λ (z : View). AreAlike (page_words z.pages page) (parts.inner).separators 0) (sym glanced.is)
          (alike branch_known);
    };
  }

pub parted_header : (t page header wanted place : ℕ) (k : Kept) (v w : View) → place ≡ page_at v.layout.slots t 0
    → wanted ≡ get_or (page_words v.pages page) 0 0 → header ≢ wanted → k ≡ record { word = place; seen = header; why = Unlike }
    → IsNoted k v w → HasNotedPage (IsParted v.layout.slots t (page_words v.pages page)) t k v w
parted_header t page header wanted place k v w here first other is told =
    noted_page (IsParted v.layout.slots t (page_words v.pages page)) t place header Unlike k v w is told
    (refl, inl (here, λ same. other (same ∙ sym first)))
