-- What it comes to that one record of a leaf is locked, and read.
use Rattle.std.proofs.Common.{◌≡◌, ◌⊎◌, ℕ, ◌+◌, ◌*◌, ◌%◌, ◌^◌, ◌<◌, ◌≤◌, true, List, [], ◌∷◌, ◌++◌, refl, sym, ap, ◌∙◌, subst}
use Rattle.std.proofs.Common.{arith, get_or, inl, inr, Some, None}
use Rattle.std.specs.List.{Contains, slice_get}
use Rattle.lists.specs.Elements.{at_in, in_push_cases, in_push_new, in_push_old}
use Rattle.serial_model.specs.declared.key.Key.{Key}
use Rattle.serial_model.specs.declared.number.Number.{Number}
use Rattle.homes.specs.declared.places.Content.{Content}
use Rattle.homes.specs.declared.places.Span.{Span}
use Rattle.homes.specs.declared.places.Spot.{Spot}
use Rattle.wire_form.specs.Words.{number_word}
use Rattle.engine_pages.specs.declared.layout.Layout.{Layout}
use Rattle.engine_pages.specs.declared.view.Known.{Known}
use Rattle.engine_pages.specs.declared.view.Took.{Took}
use Rattle.engine_pages.specs.declared.view.Touch.{Touch}
use Rattle.engine_pages.specs.declared.view.Version.{Version}
use Rattle.engine_pages.specs.declared.view.View.{View}
use Rattle.engine_pages.specs.declared.view.Way.{Way}
use Rattle.engine_pages.specs.Layout.{page_at}
use Rattle.engine_pages.specs.Pages.{is_tree}
use Rattle.engine_pages.specs.Records.{IsTreeRecordAt}
use Rattle.engine_pages.specs.Steps.{glanced, read_at}
use Rattle.engine_pages.specs.Touches.{touch}
use Rattle.engine_pages.specs.Views.{seat_number, IsActive}
use Rattle.engine_pages.specs.Words.{spot, IsSmall}
use Rattle.page_records.specs.Locks.{lock_bit, locked, took_at}
use Rattle.tree_records.specs.Held.{version_of, with_version}
use Rattle.tree_heads.specs.Headers.{HasWord}
use Rattle.foster_tree.specs.declared.entries.Entry.{Entry}
use Rattle.foster_tree.specs.Entries.{content_of}
use Rattle.foster_tree.specs.Locking.{as_locked, no_key, HasHeldValue, HasLockedOne, HasLockedWord, HeldValue}
use Rattle.foster_tree.specs.Locking.{KnowsFull, WorkedIn}
use Rattle.foster_tree.proofs.AddLaws.{storage_of}
use Rattle.foster_tree.proofs.LockLaws.{absent_entry, high_is, low_is, met_value, met_word, number_said, there_entry}
use Rattle.foster_tree.proofs.LockLaws.{worked_at, worked_read, worked_same, worked_then}
use Rattle.foster_tree.proofs.LockLists.{has_in, there}

-- the key of the record with this index, as its word says
pub key_said : (t i place n : ℕ) (sp : Span) (keys : List Key) (k : Key) (v u : View) → KnowsFull v t sp keys
    → slice_get keys i ≡ Some k → HasWord t (16 + 3 * i) place v n u
    → (let q : Key = record { storage = sp.storage; key = n } in q) ≡ k
key_said t i place n sp keys k v u knows at loaded =
    let key : n ≡ k.key = loaded.key (record { slot = t; keys = keys }) i k knows.knows refl at refl in
    let inside = storage_of sp k (knows.inside k (has_in keys k (at_in keys i k at))) in
    ap (λ (m : ℕ). (let q : Key = record { storage = sp.storage; key = m } in q)) key
    ∙ ap (λ (s : ℕ). (let q : Key = record { storage = s; key = k.key } in q)) (sym inside)

-- ---- what the entry says

-- the content with this number, and a value
abbrev content_with : Number → ℕ → Content
content_with n value = record { number = n; value = Some value }

small_below : (word : ℕ) → word < 2 ^ 60 → word % 2 ^ 60 ≡ word
small_below word low = omega (arith, low)

-- the value that was loaded is that of the record's content
value_is : (key word value : ℕ) (n m : Number) → word < 2 ^ 60 → IsSmall m → word % 2 ^ 60 ≡ number_word m
    → number_word n ≡ word → IsSmall n
    → content_with n value ≡ content_of (record { key = key; word = word; value = value })
value_is key word value n m low small says same fits =
    ap (λ (x : Number). content_with x value) (number_said (word % 2 ^ 60) n fits (small_below word low ∙ sym same))
    ∙ sym (low_is key word value low)

-- ---- the whole

-- the view v with a record more locked, at this state of the rest
locked_formed : (locks : List Key) (took : List Took) (v w z : View) → w ≡ as_locked locks took v z
    → w ≡ as_locked locks took v w
locked_formed locks took v w z e = subst (λ (y : View). y ≡ as_locked locks took v y) (sym e) refl

module _ (t i place n word : ℕ) (sp : Span) (keys : List Key) (k : Key) (v u x : View) (knows : KnowsFull v t sp keys)
    (less : i < 16) (is_at : slice_get keys i ≡ Some k) (placed : place ≡ page_at v.layout.slots t (16 + 3 * i))
    (loaded : HasWord t (16 + 3 * i) place v n u)
    (lock : HasLockedWord k (spot t i) (place + 1) word u x) where
  -- the record's word is one of the leaf's
  word_place : place + 1 ≡ page_at v.layout.slots t ((16 + 3 * i) + 1)
  word_place = let e = placed in omega (arith, e)

  -- the key is one of a tree
  key_tree : is_tree v.layout.decls k.storage ≡ true
  key_tree =
      ap (λ (s : ℕ). is_tree v.layout.decls s)
      (storage_of sp k (knows.inside k (has_in keys k (at_in keys i k is_at)))) ∙ knows.page.tree

  read_first : WorkedIn t u (read_at (place + 1) word u)
  read_first =
      worked_read t ((16 + 3 * i) + 1) (place + 1) word u (read_at (place + 1) word u) (met_word i less)
      (word_place ∙ ap (λ (z : View). page_at z.layout.slots t ((16 + 3 * i) + 1)) (sym loaded.is)) (omega arith) refl
      (λ y has. has) refl refl

  read_next : WorkedIn t (read_at (place + 1) word u) x
  read_next =
      subst (λ (z : View). WorkedIn t (read_at (place + 1) word u) z) (sym lock.is)
      (worked_at t ((16 + 3 * i) + 1) (place + 1) (word + lock_bit) (read_at (place + 1) word u)
      (locked k (spot t i) (place + 1) word (read_at (place + 1) word u)) (met_word i less)
      (word_place ∙ ap (λ (z : View). page_at z.layout.slots t ((16 + 3 * i) + 1)) (sym loaded.is)) (omega arith) refl
      (λ y has. has) refl
      (λ y has. elim (in_push_cases y (touch (seat_number u.role) k) u.touched has) [
        | inl old ↦ inl old
        | inr same ↦ inr (
          ap (λ (z : Touch). z.seat) (sym same),
          ap (λ (z : View). is_tree z.layout.decls y.key.storage) loaded.is
              ∙ (ap (λ (z : Touch). is_tree v.layout.decls z.key.storage) (sym same) ∙ key_tree),
        )
      ]))

  key_first : WorkedIn t v u
  key_first = subst (λ (z : View). WorkedIn t v z) (sym loaded.is)
      (worked_same t v (glanced place n v) (omega arith) refl refl refl refl)

  pub locked_layout : x.layout ≡ v.layout
  locked_layout = ap (λ (z : View). z.layout) lock.is ∙ ap (λ (z : View). z.layout) loaded.is

  pub locked_worked : WorkedIn t v x
  locked_worked =
      worked_then t v u x (ap (λ (z : View). z.layout) loaded.is) key_first
      (worked_then t u (read_at (place + 1) word u) x refl read_first read_next)

  pub locked_view : x ≡ locked k (spot t i) (place + 1) word (read_at (place + 1) word (glanced place n v))
  locked_view = lock.is ∙ ap (λ (z : View). locked k (spot t i) (place + 1) word (read_at (place + 1) word z)) loaded.is

  locked_touched : x.touched ≡ v.touched ++ touch (seat_number v.role) k ∷ []
  locked_touched = ap (λ (z : View). z.touched) locked_view

  pub locked_is : x ≡ as_locked (v.seat.locks ++ k ∷ []) (v.took ++ took_at k (spot t i) word ∷ []) v x
  locked_is =
      locked_formed (v.seat.locks ++ k ∷ []) (v.took ++ took_at k (spot t i) word ∷ []) v x
      (locked k (spot t i) (place + 1) word (read_at (place + 1) word (glanced place n v))) locked_view

  key_read : (let q : Key = record { storage = k.storage; key = n } in q) ≡ k
  key_read = ap (λ (m : ℕ). (let q : Key = record { storage = k.storage; key = m } in q))
      (ap (λ (q : Key). q.key) (key_said t i place n sp keys k v u knows is_at loaded))

  three_steps : x.steps ≡ ((v.steps + 1) + 1) + 1
  three_steps = ap (λ (z : View). z.steps) locked_view

  -- an absent record
  pub absent_one : (w : View) → 2 ^ 60 ≤ word → w ≡ x
      → HasLockedOne t k i (record { key = n; word = word; value = 0 }) v w
  absent_one w high same = record {
    worked = subst (λ (z : View). WorkedIn t v z) (sym same) locked_worked;
    touched = ap (λ (z : View). z.touched) same ∙ locked_touched;
    most = let a = three_steps in let b : w.steps ≡ x.steps = ap (λ (z : View). z.steps) same in omega (arith, a, b);
    read = record {
      key = key_read;
      entry = elim lock.open_word [
        | inl low ↦ absurd (omega (arith, low, high))
        | inr bits ↦ absent_entry n word lock.number bits.0 bits.1 lock.small lock.says
      ];
      value = inl (ap (λ (c : Content). c.value) (high_is n word 0 high));
    };
    is = subst (λ (z : View). z ≡ as_locked (v.seat.locks ++ k ∷ []) (v.took ++ took_at k (spot t i) word ∷ []) v z)
        (sym same) locked_is;
  }

  -- one with a value
  pub there_one : (w : View) (value : ℕ) → word < 2 ^ 60 → HasHeldValue k (place + 1) word value x w
      → HasLockedOne t k i (record { key = n; word = word; value = value }) v w
  there_one w value low h =
      let versions : w.versions ≡ x.versions ++ version_of k h.number value ∷ [] =
      ap (λ (z : View). z.versions) h.is in
      let content : content_with h.number value ≡ content_of (record { key = n; word = word; value = value }) =
      value_is n word value h.number lock.number low lock.small lock.says h.says h.small in
      let more : WorkedIn t x w =
      worked_read t ((16 + 3 * i) + 2) ((place + 1) + 1) value x w (met_value i less)
      (let e = placed in
      let f : (place + 1) + 1 ≡ page_at v.layout.slots t ((16 + 3 * i) + 2) = omega (arith, e) in
      f ∙ ap (λ (y : Layout). page_at y.slots t ((16 + 3 * i) + 2)) (sym locked_layout))
      (let b : w.steps ≡ x.steps + 1 = ap (λ (z : View). z.steps) h.is in omega (arith, b))
      (ap (λ (z : View). z.reads) h.is)
      (λ y has. subst (λ (l : List Version). Contains l y) (sym versions)
      (in_push_old y (version_of k h.number value) x.versions has))
      (ap (λ (z : View). z.role) h.is) (ap (λ (z : View). z.touched) h.is) in
      record {
        worked = worked_then t v x w locked_layout locked_worked more;
        touched = ap (λ (z : View). z.touched) h.is ∙ locked_touched;
        most =
            let a = three_steps in
            let b : w.steps ≡ x.steps + 1 = ap (λ (z : View). z.steps) h.is in omega (arith, a, b);
        read = record {
          key = key_read;
          entry = there_entry n word value lock.number low lock.small lock.says;
          value = inr (subst (λ (c : Content). Contains w.versions (record { key = k; content = c })) content
              (subst (λ (l : List Version). Contains l (version_of k h.number value)) (sym versions)
              (in_push_new (version_of k h.number value) x.versions)));
        };
        is = locked_formed (v.seat.locks ++ k ∷ []) (v.took ++ took_at k (spot t i) word ∷ []) v w
            (with_version k h.number value (read_at ((place + 1) + 1) value
            (locked k (spot t i) (place + 1) word (read_at (place + 1) word (glanced place n v)))))
            (h.is ∙ ap (λ (z : View). with_version k h.number value (read_at ((place + 1) + 1) value z)) locked_view);
      }

  -- either
  pub locked_one : (w : View) (value : ℕ) → HeldValue k (place + 1) word value x w
      → HasLockedOne t k i (record { key = n; word = word; value = value }) v w
  locked_one w value (inl held) = there_one w value held.0 held.1
  locked_one w value (inr none) =
      subst (λ (m : ℕ). HasLockedOne t k i (record { key = n; word = word; value = m }) v w) (sym none.1)
      (absent_one w none.0 none.2)

-- ---- where the record stands

-- so it does in the leaf that the pass knows
pub record_place : (t i at : ℕ) (sp : Span) (keys : List Key) (k : Key) (v : View) → KnowsFull v t sp keys → i < 16
    → slice_get keys i ≡ Some k → k.storage ≡ sp.storage → at ≡ page_at v.layout.slots t ((16 + 3 * i) + 1)
    → IsTreeRecordAt v k (spot t i) at
record_place t i at sp keys k v knows less is storage placed = record {
  way = record { slot = t; span = sp };
  has = knows.page.way;
  slot = refl;
  leaf = record { slot = t; keys = keys };
  knows = knows.knows;
  same = refl;
  there = knows.there;
  index = less;
  kind = subst (λ (j : ℕ). is_tree v.layout.decls j ≡ true) (sym storage) knows.page.tree;
  key = is;
  word = placed ∙ (let e : page_at v.layout.slots t ((16 + 3 * i) + 1) ≡ page_at v.layout.slots t (1 + (16 + 3 * i)) = omega arith in e);
}

-- what is known of the leaf is known still, where ways, leaves and layout stay
pub knows_still : (t : ℕ) (sp : Span) (keys : List Key) (v w : View) → KnowsFull v t sp keys → w.role ≡ v.role
    → w.seat.stage ≡ v.seat.stage → w.ways ≡ v.ways → w.layout ≡ v.layout → w.known ≡ v.known → KnowsFull w t sp keys
knows_still t sp keys v w knows role stage ways layout known = record {
  active = subst IsActive (sym role) knows.active;
  idle = stage ∙ knows.idle;
  page = record {
    way = subst (λ (l : List Way). Contains l (record { slot = t; span = sp })) (sym ways) knows.page.way;
    tree = subst (λ (y : Layout). is_tree y.decls sp.storage ≡ true) (sym layout) knows.page.tree;
  };
  there = subst (λ (y : Layout). t < y.slots) (sym layout) knows.there;
  knows = subst (λ (l : List Known). Contains l (record { slot = t; keys = keys })) (sym known) knows.knows;
  full = knows.full;
  once = knows.once;
  inside = knows.inside;
}

-- the record's key, as its word was loaded
pub loaded_at : (t i place n : ℕ) (sp : Span) (keys : List Key) (v u : View) → KnowsFull v t sp keys → i < 16
    → HasWord t (16 + 3 * i) place v n u
    → slice_get keys i ≡ Some (let q : Key = record { storage = sp.storage; key = n } in q)
loaded_at t i place n sp keys v u knows less loaded =
    let at : slice_get keys i ≡ Some (get_or keys i no_key) =
    there keys i no_key (let full = knows.full in omega (arith, full, less)) in
    at ∙ ap (λ (q : Key). Some q) (sym (key_said t i place n sp keys (get_or keys i no_key) v u knows at loaded))

-- the leaf is known behind that load
pub loaded_knows : (t i place n : ℕ) (sp : Span) (keys : List Key) (v u : View) → KnowsFull v t sp keys
    → HasWord t (16 + 3 * i) place v n u → KnowsFull u t sp keys
loaded_knows t i place n sp keys v u knows loaded =
    knows_still t sp keys v u knows (ap (λ (z : View). z.role) loaded.is) (ap (λ (z : View). z.seat.stage) loaded.is)
    (ap (λ (z : View). z.ways) loaded.is) (ap (λ (z : View). z.layout) loaded.is) (ap (λ (z : View). z.known) loaded.is)

-- and behind the lock
pub locked_knows : (t at word : ℕ) (sp : Span) (keys : List Key) (k : Key) (x : Spot) (u w : View) → KnowsFull u t sp keys
    → HasLockedWord k x at word u w → KnowsFull w t sp keys
locked_knows t at word sp keys k x u w knows lock =
    knows_still t sp keys u w knows (ap (λ (z : View). z.role) lock.is) (ap (λ (z : View). z.seat.stage) lock.is)
    (ap (λ (z : View). z.ways) lock.is) (ap (λ (z : View). z.layout) lock.is) (ap (λ (z : View). z.known) lock.is)

-- what the lock found is known
pub locked_took : (at word : ℕ) (k : Key) (x : Spot) (u w : View) → HasLockedWord k x at word u w
    → Contains w.took (took_at k x word)
locked_took at word k x u w lock =
    subst (λ (l : List Took). Contains l (took_at k x word)) (sym (ap (λ (z : View). z.took) lock.is))
    (in_push_new (took_at k x word) u.took)
