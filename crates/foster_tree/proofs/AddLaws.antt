-- What it comes to that a key is added.
use Rattle.std.proofs.Common.{◌≡◌, ◌≢◌, ℕ, ◌+◌, ◌-◌, ◌*◌, ◌/◌, ◌%◌, ◌^◌, ◌<◌, ◌≤◌, Bool, true, false, cond, eqb, List, [], ◌∷◌, ◌++◌}
use Rattle.std.proofs.Common.{length, get_or, refl, sym, ap, ◌∙◌, subst, arith, inl, inr, Some, Option, eq-eqb, eqb-true, ne_eqb, true≢false}
use Rattle.std.specs.Prelude.{MatchBool, not, slice_get, ◌&&◌, nat_le}
use Rattle.std.specs.List.{Contains}
use Rattle.lists.specs.Elements.{at_push_new, in_head}
use Rattle.lists.specs.Fronts.{front_refl, front_same}
use Rattle.serial_model.specs.declared.key.Key.{Key}
use Rattle.homes.specs.declared.places.Span.{Span}
use Rattle.homes.specs.Homes.{has_key, in_span}
use Rattle.wire_form.specs.Leaves.{tree_leaf, word_in}
use Rattle.engine_pages.specs.declared.layout.Layout.{Layout}
use Rattle.engine_pages.specs.declared.view.Head.{Head}
use Rattle.engine_pages.specs.declared.view.Known.{Known}
use Rattle.engine_pages.specs.declared.view.Role.{Role}
use Rattle.engine_pages.specs.declared.view.Role.TheVariants.{Keeper}
use Rattle.engine_pages.specs.declared.view.View.{View}
use Rattle.engine_pages.specs.declared.view.Way.{Way}
use Rattle.engine_pages.specs.Layout.{page_at}
use Rattle.engine_pages.specs.Pages.{is_tree}
use Rattle.engine_pages.specs.Records.{IsTreeRecordAt}
use Rattle.engine_pages.specs.Steps.{kept_at, read_at, seen_at}
use Rattle.engine_pages.specs.Views.{IsActive}
use Rattle.engine_pages.specs.Words.{spot}
use Rattle.array_pages.proofs.ReadLaws.{kept_here, noted_in}
use Rattle.page_records.specs.Ends.{IsLeafWordAt}
use Rattle.tree_heads.specs.Headers.{IsTreeAt, open_word}
use Rattle.tree_heads.specs.Heads.{head_locked, key_added, CanAdd, HasAdded, HasHead, HeadLocked}
use Rattle.foster_tree.specs.Adding.{key_put, new_entry, restored, CanGrow, CanStoreIn, HasKeyPut}
use Rattle.foster_tree.specs.Adding.{IsOneHead, Stores}
use Rattle.foster_tree.specs.Causes.{IsLeafWordChanged}
use Rattle.foster_tree.specs.Filling.{with_record}
use Rattle.foster_tree.proofs.StoreLaws.{head_of}
use Rattle.foster_tree.proofs.WordLaws.{record_stands, HasRecord}

-- ---- words of headers

pub open_is : (n : ℕ) → open_word n ≡ 256 + n
open_is n = omega arith

pub counted : (n word : ℕ) → n ≤ 16 → word ≡ open_word n → n ≡ word % 256
counted n word few is = let e : word ≡ 256 + n = is ∙ open_is n in omega (arith, few, e)

one_more : (n word : ℕ) → word ≡ open_word n → word + 1 ≡ open_word (n + 1)
one_more n word is =
    let e : word ≡ 256 + n = is ∙ open_is n in let f : open_word (n + 1) ≡ 256 + (n + 1) = open_is (n + 1) in omega (arith, e, f)

-- ---- the header was locked, or had changed

pub was_locked : (t at expected n : ℕ) (sp : Span) (v w : View) → HeadLocked t sp at expected v n w → n ≡ expected
    → HasHead t sp at v n w
was_locked t at expected n sp v w h same =
    subst (λ (b : Bool). MatchBool b (HasHead t sp at v n w) (w ≡ read_at at n v)) (eq-eqb n expected same) h

pub was_changed : (t at expected n : ℕ) (sp : Span) (v w : View) → HeadLocked t sp at expected v n w → n ≢ expected
    → w ≡ read_at at n v
was_changed t at expected n sp v w h other =
    subst (λ (b : Bool). MatchBool b (HasHead t sp at v n w) (w ≡ read_at at n v)) (ne_eqb n expected other) h

-- the word of the leaf's header, where it was met once more
pub leaf_word : (t at word n : ℕ) (sp : Span) (k : Key) (v : View) → CanGrow v t sp k word
    → at ≡ page_at v.layout.slots t 0 → IsLeafWordAt (read_at at n v) t 0 at
leaf_word t at word n sp k v can is = record {
  word = record {
    way = record { slot = t; span = sp };
    has = can.page.way;
    slot = refl;
    kind = can.page.tree;
    there = can.there;
    index = omega arith;
    word = is;
  };
  leaf = can.leaf;
  knows = can.knows;
  same = can.same;
  is = inl refl;
}

-- the header that was last seen as the expected word is another word now
pub header_changed : (t at word n : ℕ) (sp : Span) (k : Key) (v w : View) → CanGrow v t sp k word
    → at ≡ page_at v.layout.slots t 0 → w ≡ read_at at n v → n ≢ word → IsLeafWordChanged t 0 at word n v w
header_changed t at word n sp k v w can is now other =
    subst (λ (z : View). IsLeafWordChanged t 0 at word n v z) (sym now)
    record {
      place = leaf_word t at word n sp k v can is;
      saw = record {
        step = v.steps;
        since = omega arith;
        last = refl;
        kept = kept_at v.reads at;
        kept_is = sym (kept_here v.reads at n (kept_at v.reads at));
        stands = subst (λ (o : Option ℕ). Contains (read_at at n v).reads
            (record { word = at; seen = n; was = o; kept = kept_at v.reads at }))
            (ap (λ (a : ℕ). seen_at v.reads a) is ∙ can.seen)
            (noted_in v.reads at n (kept_at v.reads at));
      };
      cause = inr other;
    }

-- ---- under the lock

-- the keys by which the header is locked are those that the pass knew
pub same_keys : (t at word n : ℕ) (sp : Span) (k : Key) (v w : View) → (can : CanGrow v t sp k word) → n ≡ word
    → (h : HasHead t sp at v n w) → can.leaf.keys ≡ h.keys
same_keys t at word n sp k v w can same h =
    front_same can.leaf.keys h.keys h.keys (h.are.known can.leaf can.knows can.same) (front_refl h.keys)
    (let a = can.count in
    let b : length h.keys ≡ word % 256 = counted (length h.keys) word h.are.few (sym same ∙ h.word) in omega (arith, a, b))

-- the one header
pub locked_one : (t at word n : ℕ) (sp : Span) (k : Key) (v w : View) → CanGrow v t sp k word
    → (h : HasHead t sp at v n w) → IsOneHead w t h.keys h.words
locked_one t at word n sp k v w can h = record {
  only = ap (λ (z : View). z.heads) h.is ∙ ap (λ (l : List Head). head_of t h.keys h.words ∷ l) can.opened;
  long = h.long;
}

pub locked_can : (t at word n : ℕ) (sp : Span) (k : Key) (v w : View) → CanGrow v t sp k word → n ≡ word
    → (h : HasHead t sp at v n w) → CanStoreIn w t (word % 256)
locked_can t at word n sp k v w can same h = record {
  active = subst (λ (z : View). IsActive z.role) (sym h.is) can.active;
  there = subst (λ (z : View). t < z.layout.slots) (sym h.is) can.there;
  keys = h.keys;
  words = h.words;
  one = locked_one t at word n sp k v w can h;
  count = counted (length h.keys) word h.are.few (sym same ∙ h.word);
}

-- the keys of a span are of its storage
pub storage_of : (sp : Span) (k : Key) → in_span sp k ≡ true → k.storage ≡ sp.storage
storage_of sp k inside = by_test (eqb k.storage sp.storage) refl inside
  where
    by_test : (b : Bool) → eqb k.storage sp.storage ≡ b → (b && (nat_le sp.low k.key && nat_le k.key sp.high)) ≡ true
        → k.storage ≡ sp.storage
    by_test true same rest = eqb-true k.storage sp.storage same
    by_test false other rest = absurd (true≢false (sym rest))

-- the view with a key put in, at this step and with these headers
abbrev put_at : ℕ → List Head → ℕ → Span → List Key → Key → ℕ → ℕ → View → View
put_at steps heads t sp keys k at word v =
    (let y : View = record (key_put t sp keys k at word v) { steps = steps; heads = heads } in y)

five : (n : ℕ) → ((n + 1) + 3) + 1 ≡ n + 5
five n = omega arith

-- the leaf with the record of the key behind its records, so many
module _ (t at word n m : ℕ) (sp : Span) (k : Key) (v u b : View) (can : CanGrow v t sp k word)
    (few : length can.leaf.keys < 16) (same : n ≡ word) (h : HasHead t sp at v n u) (many : length h.keys ≡ m)
    (stores : Stores t (λ words. with_record words (16 + 3 * m) (new_entry k)) 3 u b) where
  room : length h.keys < 16
  room = subst (λ (l : List Key). length l < 16) (same_keys t at word n sp k v u can same h) few

  stored_view : b ≡ restored t h.keys (with_record h.words (16 + 3 * m) (new_entry k)) 3 (head_locked t h.keys h.words at n v)
  stored_view =
      stores h.keys h.words (locked_one t at word n sp k v u can h)
      ∙ ap (λ (z : View). restored t h.keys (with_record h.words (16 + 3 * m) (new_entry k)) 3 z) h.is

  stored_record : HasRecord (with_record h.words (16 + 3 * m) (new_entry k)) (16 + 3 * m) (new_entry k)
  stored_record =
      record_stands h.words (16 + 3 * m) (new_entry k) h.long (let less = room in omega (arith, less, many))

  stored_at : IsTreeAt b t sp
  stored_at = record {
    way = subst (λ (l : List Way). Contains l (record { slot = t; span = sp })) (sym (ap (λ (z : View). z.ways) stored_view))
        can.page.way;
    tree = subst (λ (y : Layout). is_tree y.decls sp.storage ≡ true) (sym (ap (λ (z : View). z.layout) stored_view))
        can.page.tree;
  }

  stored_head : Contains b.heads (head_of t h.keys (with_record h.words (16 + 3 * m) (new_entry k)))
  stored_head = subst (λ (l : List Head). Contains l (head_of t h.keys (with_record h.words (16 + 3 * m) (new_entry k))))
      (sym (ap (λ (z : View). z.heads) stored_view))
      (in_head (head_of t h.keys (with_record h.words (16 + 3 * m) (new_entry k))) [])

  -- what the header's opening asks
  pub can_add : CanAdd b t sp k (word + 1)
  can_add = record {
    page = stored_at;
    head = head_of t h.keys (with_record h.words (16 + 3 * m) (new_entry k));
    has = stored_head;
    slot = refl;
    inside = can.inside;
    new = subst (λ (l : List Key). has_key l k ≡ false)
        (same_keys t at word n sp k v u can same h) can.new;
    few = room;
    key = ap (λ (j : ℕ). get_or (with_record h.words (16 + 3 * m) (new_entry k)) (16 + 3 * j) 0) many ∙ stored_record.key;
    absent =
        ap (λ (j : ℕ). get_or (with_record h.words (16 + 3 * m) (new_entry k)) j 0)
        (let e : 1 + (16 + 3 * length h.keys) ≡ (16 + 3 * m) + 1 = omega (arith, many) in e)
        ∙ stored_record.word;
    value =
        ap (λ (j : ℕ). get_or (with_record h.words (16 + 3 * m) (new_entry k)) j 0)
        (let e : (1 + (16 + 3 * length h.keys)) + 1 ≡ (16 + 3 * m) + 2 = omega (arith, many) in e)
        ∙ stored_record.value;
    word = one_more (length h.keys) word (sym same ∙ h.word);
    worker = subst (λ (r : Role). r ≡ Keeper → ⊥) (sym (ap (λ (z : View). z.role) stored_view)) can.worker;
    idle = ap (λ (z : View). z.seat.stage) stored_view ∙ can.idle;
    unlocked = ap (λ (z : View). z.seat.locks) stored_view ∙ can.unlocked;
  }

  -- and what it leaves
  pub put_is : (w : View) → HasAdded t sp k at (word + 1) b w → w ≡ key_put t sp h.keys k at word v
  put_is w added =
      added.is (head_of t h.keys (with_record h.words (16 + 3 * m) (new_entry k))) stored_head refl
      ∙ (ap (λ (z : View). key_added t sp h.keys k at (word + 1) z) stored_view
      ∙ (ap (λ (j : ℕ). key_added t sp h.keys k at (word + 1)
      (restored t h.keys (with_record h.words (16 + 3 * m) (new_entry k)) 3 (head_locked t h.keys h.words at j v))) same
      ∙ (ap (λ (f : Bool). put_at (((v.steps + 1) + 3) + 1)
      (cond (not f) (head_of t h.keys (with_record h.words (16 + 3 * m) (new_entry k)) ∷ []) []) t sp h.keys k at word v)
      (eq-eqb t t refl)
      ∙ (ap (λ (l : List Head). put_at (((v.steps + 1) + 3) + 1) l t sp h.keys k at word v) (sym can.opened)
      ∙ ap (λ (j : ℕ). put_at j v.heads t sp h.keys k at word v) (five v.steps)))))

  pub key_is_put : (place : ℕ) (w : View) → at ≡ page_at v.layout.slots t 0
      → place ≡ page_at u.layout.slots t (word_in tree_leaf m) → HasAdded t sp k at (word + 1) b w
      → HasKeyPut t sp k word place v w
  key_is_put place w is stands added =
      let put : w ≡ key_put t sp h.keys k at word v = put_is w added in
      record {
        keys = h.keys;
        are = h.are;
        count = sym same ∙ h.word;
        record_at = subst (λ (z : View). IsTreeRecordAt z k (spot t (length h.keys)) place) (sym put)
            record {
              way = record { slot = t; span = sp };
              has = can.page.way;
              slot = refl;
              leaf = record { slot = t; keys = h.keys ++ k ∷ [] };
              knows = in_head (record { slot = t; keys = h.keys ++ k ∷ [] })
                  (record { slot = t; keys = h.keys } ∷ v.known);
              same = refl;
              there = can.there;
              index = room;
              kind = subst (λ (j : ℕ). is_tree v.layout.decls j ≡ true) (sym (storage_of sp k can.inside)) can.page.tree;
              key = at_push_new h.keys k;
              word = stands ∙ (ap (λ (z : View). page_at z.layout.slots t (word_in tree_leaf m)) h.is
                  ∙ ap (λ (j : ℕ). page_at v.layout.slots t (1 + (16 + 3 * j))) (sym many));
            };
        trees = added.trees;
        is = put ∙ ap (λ (j : ℕ). key_put t sp h.keys k j word v) is;
      }
