-- What the parts say behind a key that the transaction added to a leaf whose header it keeps: all that they said before, and
-- no more.
use Rattle.std.proofs.Common.{◌≡◌, ◌⊎◌, inl, inr, ℕ, suc, ◌+◌, ◌≤◌, Bool, true, false, true≢false, cond}
use Rattle.std.proofs.Common.{List, [], ◌∷◌, ◌++◌, length, refl, sym, ap, ◌∙◌, subst, arith, Option, Some, None}
use Rattle.std.specs.Prelude.{Contains, not, slice_get, ◌||◌, ◌&&◌}
use Rattle.std.proofs.lemmas.Bool.{and_parts}
use Rattle.serial_model.specs.declared.key.Key.{Key}
use Rattle.homes.specs.declared.places.Content.{Content}
use Rattle.homes.specs.declared.places.Span.{Span}
use Rattle.homes.specs.declared.places.Spot.{Spot}
use Rattle.homes.specs.Homes.{has_key, in_span, same_key}
use Rattle.homes.specs.Laws.{in_span-parts, same_key-self, same_key-true}
use Rattle.commit_core.specs.declared.part.Part.{Part}
use Rattle.commit_core.specs.declared.part.Word.TheVariants.{Header, Record}
use Rattle.commit_core.specs.Keys.{nothing}
use Rattle.commit_core.specs.Parts.{covers, found, only, record_part, same_word, with_part}
use Rattle.serial_bridge.specs.Transaction.{Vouched}
use Rattle.tx_sets.specs.declared.seen.Seen.{Seen}
use Rattle.engine_pages.specs.declared.view.Known.{Known}
use Rattle.engine_pages.specs.declared.view.Way.{Way}
use Rattle.engine_pages.specs.declared.view.View.{View}
use Rattle.engine_pages.specs.Agreement.{TreesAgree}
use Rattle.tree_heads.specs.Headers.{open_word}
use Rattle.tree_heads.specs.Keeps.{head_part}
use Rattle.page_commit.specs.HeaderParts.{IsMetHeader}
use Rattle.page_commit.specs.Places.{ground, slot_of}
use Rattle.page_commit.specs.Turning.{GoesOn, IsPartOf, PartsStay}
use Rattle.page_commit.proofs.FoundLaws.{by_record}
use Rattle.page_commit.proofs.KeepLaws.{kept_cases, kept_new, kept_old}

-- ---- keys of a leaf, with one more

-- another key is among them just where it was
other_key : (keys : List Key) (k q : Key) → same_key k q ≡ false → has_key (keys ++ k ∷ []) q ≡ has_key keys q
other_key [] k q other = ap (λ (b : Bool). b || false) other
other_key (x ∷ keys) k q other = ap (λ (b : Bool). same_key x q || b) (other_key keys k q other)

or_true : (b : Bool) → (b || true) ≡ true
or_true true = refl
or_true false = refl

-- and the one more is
own_key : (keys : List Key) (k q : Key) → same_key k q ≡ true → has_key (keys ++ k ∷ []) q ≡ true
own_key [] k q hit = ap (λ (b : Bool). b || false) hit
own_key (x ∷ keys) k q hit =
    ap (λ (b : Bool). same_key x q || b) (own_key keys k q hit) ∙ or_true (same_key x q)

-- ---- what a part is of

-- a record's part is of its key alone
of_record : (k : Key) (x : Spot) (c : Content) (q : Key) → covers (record_part k x c) q ≡ true → k ≡ q
of_record k x c q covered =
    let parts = and_parts (in_span (only k) q) (not (has_key [] q)) covered in
    let span = in_span-parts (only k) q parts.0 in
    let key : k.key ≡ q.key = let low = span.1 in let high = span.2 in omega (arith, low, high) in
    ap (λ (s : ℕ). let z : Key = record { storage = s; key = k.key } in z) (sym span.0)
    ∙ ap (λ (i : ℕ). let z : Key = record { storage = q.storage; key = i } in z) key

of_header : (t : ℕ) (sp : Span) (keys : List Key) (q : Key) → in_span sp q ≡ true → has_key keys q ≡ false
    → covers (head_part t sp keys) q ≡ true
of_header t sp keys q inside clear =
    ap (λ (b : Bool). b && not (has_key keys q)) inside ∙ ap (λ (b : Bool). not b) clear

-- ---- the parts

-- The header of the leaf in slot t is a part with these keys, and no part is of the new record.
module _ (kept : List Part) (t : ℕ) (sp : Span) (keys : List Key) (k : Key) (x : Spot)
    (one : (q : Part) → Contains kept q → same_word q.word (Header t) ≡ true → q ≡ head_part t sp keys)
    (fresh : (q : Part) → Contains kept q → same_word q.word (Record x) ≡ false) where
  abbrev head : Part
  head = head_part t sp (keys ++ k ∷ [])

  abbrev grown : List Part
  grown = with_part (with_part kept head) (record_part k x nothing)

  stays : (q : Part) → Contains kept q → same_word q.word (Header t) ≡ false → Contains grown q
  stays q has other = kept_old (with_part kept head) (record_part k x nothing) q (kept_old kept head q has other) (fresh q has)

  head_now : Contains grown head
  head_now = kept_old (with_part kept head) (record_part k x nothing) head (kept_new kept head) refl

  record_now : Contains grown (record_part k x nothing)
  record_now = kept_new (with_part kept head) (record_part k x nothing)

  -- of each other key the header's part says what it said
  head_covers : (q : Key) → same_key k q ≡ false → covers head q ≡ covers (head_part t sp keys) q
  head_covers q other = ap (λ (b : Bool). in_span sp q && not b) (other_key keys k q other)

  -- what some part had, some part has still
  pub grown_stay : PartsStay kept grown
  grown_stay q value v = by_word (same_word (v.part).word (Header t)) refl
    where
      by_key : v.part ≡ head_part t sp keys → (b : Bool) → same_key k q ≡ b → Vouched grown q value
      by_key is true hit =
          let none : None ≡ value = sym (ap (λ (p : Part). (found p q).value) is) ∙ v.has in
          subst (λ (z : Key). Vouched grown z value) (same_key-true k q hit)
          (subst (λ (o : Option ℕ). Vouched grown k o) none (by_record grown k x nothing record_now))
      by_key is false other = record {
        part = head;
        among = head_now;
        over = head_covers q other ∙ (ap (λ (p : Part). covers p q) (sym is) ∙ v.over);
        has = ap (λ (p : Part). (found p q).value) (sym is) ∙ v.has;
      }

      by_word : (b : Bool) → same_word (v.part).word (Header t) ≡ b → Vouched grown q value
      by_word true is = by_key (one v.part v.among is) (same_key k q) refl
      by_word false other = record { part = v.part; among = stays v.part v.among other; over = v.over; has = v.has }

  -- no part says more than one did
  pub grown_goes_on : in_span sp k ≡ true → has_key keys k ≡ false → Contains kept (head_part t sp keys)
      → GoesOn kept grown
  grown_goes_on inside clear there part has = by_record_part (kept_cases (with_part kept head) (record_part k x nothing) part has)
    where
      less : IsPartOf (record_part k x nothing) (head_part t sp keys)
      less = record {
        within = λ q over.
            subst (λ (z : Key). covers (head_part t sp keys) z ≡ true) (of_record k x nothing q over)
            (of_header t sp keys k inside clear);
        same = λ q over.
            subst (λ (z : Key). found (record_part k x nothing) z ≡ found (head_part t sp keys) z)
            (of_record k x nothing q over)
            (ap (λ (b : Bool). cond b nothing nothing) (same_key-self k));
      }

      shrunk : IsPartOf head (head_part t sp keys)
      shrunk = record { within = λ q over. by_test q over (same_key k q) refl; same = λ q over. refl }
        where
          by_test : (q : Key) → covers head q ≡ true → (b : Bool) → same_key k q ≡ b
              → covers (head_part t sp keys) q ≡ true
          by_test q over true hit =
              let parts = and_parts (in_span sp q) (not (has_key (keys ++ k ∷ []) q)) over in
              absurd (true≢false (sym parts.1 ∙ ap (λ (b : Bool). not b) (own_key keys k q hit)))
          by_test q over false other = sym (head_covers q other) ∙ over

      by_head_part : (Contains kept part × (same_word part.word (Header t) ≡ false)) ⊎ (head ≡ part)
          → (y : Part) × Contains kept y × IsPartOf part y
      by_head_part (inl old) = (part, old.0, record { within = λ q over. over; same = λ q over. refl })
      by_head_part (inr is) =
          (head_part t sp keys, there, subst (λ (p : Part). IsPartOf p (head_part t sp keys)) is shrunk)

      by_record_part : (Contains (with_part kept head) part × (same_word part.word (Record x) ≡ false))
          ⊎ (record_part k x nothing ≡ part) → (y : Part) × Contains kept y × IsPartOf part y
      by_record_part (inl old) = by_head_part (kept_cases kept head part old.0)
      by_record_part (inr is) =
          (head_part t sp keys, there, subst (λ (p : Part). IsPartOf p (head_part t sp keys)) is less)

-- ---- which part the header's is

-- lists of one length whose elements agree are one
same_keys : (a b : List Key) → length a ≡ length b
    → ((i : ℕ) (k q : Key) → slice_get a i ≡ Some k → slice_get b i ≡ Some q → k ≡ q) → a ≡ b
same_keys [] [] long agree = refl
same_keys [] (y ∷ b) long agree = absurd (omega (arith, long))
same_keys (x ∷ a) [] long agree = absurd (omega (arith, long))
same_keys (x ∷ a) (y ∷ b) long agree =
    let head : x ≡ y = agree 0 x y refl refl in
    let tail : a ≡ b =
    same_keys a b (omega (arith, long)) (λ i k q left right. agree (suc i) k q left right) in
    ap (λ (k : Key). k ∷ a) head ∙ ap (λ (l : List Key). y ∷ l) tail

-- a word that counts so many keys counts no other number
open_is : (n : ℕ) → 256 + n ≡ open_word n
open_is n = omega arith

open_count : (n m : ℕ) → open_word n ≡ open_word m → n ≡ m
open_count n m same =
    let left = open_is n in
    let right = open_is m in
    let both : 256 + n ≡ 256 + m = left ∙ (same ∙ sym right) in omega (arith, both)

-- The part of a header of the set is the one with these keys, which are known of its leaf, where its word counts as many.
pub head_is : (v : View) (h : Seen) (q : Part) (sp : Span) (keys : List Key) → TreesAgree v → IsMetHeader (ground v) h q
    → Contains v.ways (record { slot = slot_of v.layout.slots h.at; span = sp })
    → Contains v.known (record { slot = slot_of v.layout.slots h.at; keys = keys }) → h.word ≡ open_word (length keys)
    → q ≡ head_part (slot_of v.layout.slots h.at) sp keys
head_is v h q sp keys trees met way knows count =
    met.is
    ∙ (ap (λ (s : Span). head_part (slot_of v.layout.slots h.at) s met.keys) spans
    ∙ ap (λ (l : List Key). head_part (slot_of v.layout.slots h.at) sp l) same)
  where
    spans : met.span ≡ sp
    spans =
        let a : Way = record { slot = slot_of v.layout.slots h.at; span = met.span } in
        let b : Way = record { slot = slot_of v.layout.slots h.at; span = sp } in trees.spans a b met.has way refl met.tree

    same : met.keys ≡ keys
    same =
        let a : Known = record { slot = slot_of v.layout.slots h.at; keys = met.keys } in
        let b : Known = record { slot = slot_of v.layout.slots h.at; keys = keys } in
        same_keys met.keys keys (open_count (length met.keys) (length keys) (sym met.word ∙ count))
        (λ i k p left right. trees.known a b met.knows knows refl i k p left right)
