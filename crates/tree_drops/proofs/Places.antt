-- Where the records of a leaf stand, and what was found of one.
use Rattle.std.proofs.Common.{◌≡◌, ◌≢◌, inl, inr, ℕ, ◌+◌, ◌*◌, ◌/◌, ◌%◌, ◌^◌, ◌<◌, ◌≤◌, Bool, true, false, List}
use Rattle.std.proofs.Common.{eqb, eq-eqb, ne_eqb}
use Rattle.std.proofs.Common.{refl, sym, ap, ◌∙◌, subst, arith, Some, None, Option}
use Rattle.std.specs.Prelude.{MatchBool, option_map}
use Rattle.std.specs.List.{Contains, slice_get}
use Rattle.lists.specs.Elements.{in_push_new}
use Rattle.serial_model.specs.declared.key.Key.{Key}
use Rattle.serial_model.specs.declared.number.Number.{Number}
use Rattle.homes.specs.declared.places.Content.{Content}
use Rattle.homes.specs.declared.places.Span.{Span}
use Rattle.homes.specs.Laws.{in_span-parts}
use Rattle.wire_form.specs.Leaves.{record_start, tree_leaf}
use Rattle.wire_form.specs.Words.{number_in, number_word}
use Rattle.snapshot_store.specs.Places.{Found}
use Rattle.snapshot_store.specs.TreePages.{record_for}
use Rattle.commit_core.specs.Parts.{IsSameOrAbsent}
use Rattle.dual_pointer.specs.Installs.{tree_records}
use Rattle.engine_pages.specs.declared.engine.Engine.{Engine}
use Rattle.engine_pages.specs.declared.layout.Layout.{Layout}
use Rattle.engine_pages.specs.declared.view.KeptWhy.TheVariants.{Locked, UnlikeAt, Changed}
use Rattle.engine_pages.specs.declared.view.Version.{Version}
use Rattle.engine_pages.specs.declared.view.View.{View}
use Rattle.engine_pages.specs.Layout.{page_at}
use Rattle.engine_pages.specs.Pages.{is_tree}
use Rattle.engine_pages.specs.Passes.{IsPassOf, Pass, view}
use Rattle.engine_pages.specs.Records.{IsTreeRecordAt}
use Rattle.engine_pages.specs.Resident.{found_content}
use Rattle.engine_pages.specs.Words.{IsSmall, spot}
use Rattle.homes.specs.declared.places.Spot.{Spot}
use Rattle.engine_pages.specs.Steps.{read_at}
use Rattle.page_drops.proofs.Entries.{reads_more, reads_self}
use Rattle.page_records.specs.Locks.{IsOpenWord, Locked as HasLocked, lock_bit, locked, open_bits, took_at}
use Rattle.page_records.specs.Reads.{LoadedWord}
use Rattle.pointer_swings.specs.TreeSwings.{IsTreeLockedAs, leaf_content}
use Rattle.tree_heads.specs.Headers.{HasWord}
use Rattle.tree_records.specs.Held.{LoadedHeld, version_of}
use Rattle.page_drops.specs.Works.{HasGlanced, KeepsReads}
use Rattle.tree_drops.specs.declared.stored.Stored.{Stored}
use Rattle.tree_drops.specs.Leaves.{found_of, AtTree, HasCompared, IsKeyOf, IsLeafCause, IsLike}
use Rattle.tree_drops.specs.Leaves.{IsOtherValue, IsStored, IsUnlike, IsValue, KnowsKeys}
use Rattle.tree_drops.specs.Works.{OnlyLooks}
use Rattle.tree_drops.proofs.KeyLists.{has_at, key_there}
use Rattle.tree_drops.proofs.Works.{layout_worked, only_glanced, saw_read}

-- ---- where it stands

-- the word as the view has it
pub word_here : (e : Engine) (p : Pass) (t i at : ℕ) → IsPassOf e p → at ≡ page_at e.table.shared.key.slots t i
    → at ≡ page_at (view p).layout.slots t i
word_here e p t i at of word = word ∙ ap (λ (y : Layout). page_at y.slots t i) (sym of.layout)

-- the record stands there
pub tree_here : (t page i at : ℕ) (sp : Span) (k : Key) (v : View) → AtTree t sp page v → IsKeyOf t sp i k v → i < 16
    → at ≡ page_at v.layout.slots t (17 + 3 * i) → IsTreeRecordAt v k (spot t i) at
tree_here t page i at sp k v h x few word = record {
  way = record { slot = t; span = sp };
  has = h.over.way;
  slot = refl;
  leaf = x.leaf;
  knows = x.has;
  same = x.slot;
  there = h.slot;
  index = few;
  kind = ap (λ (n : ℕ). is_tree v.layout.decls n) x.storage ∙ h.over.tree;
  key = x.at;
  word = omega (arith, word);
}

-- ---- its key

pub key_is : (sp : Span) (k : Key) (n : ℕ) → k.storage ≡ sp.storage → n ≡ k.key
    → k ≡ record { storage = sp.storage; key = n }
key_is sp k n storage key =
    ap (λ (s : ℕ). let q : Key = record { storage = s; key = k.key } in q) storage
    ∙ ap (λ (m : ℕ). let q : Key = record { storage = sp.storage; key = m } in q) (sym key)

-- the word that was loaded is that of the key with the index
pub key_found : (t count i at n : ℕ) (sp : Span) (v w : View) (x : KnowsKeys t sp count v) → i < count
    → HasWord t (16 + 3 * i) at v n w → slice_get (x.leaf).keys i ≡ Some (record { storage = sp.storage; key = n })
key_found t count i at n sp v w x less h =
    let long = x.are.long in
    let k = key_there (x.leaf).keys i (omega (arith, less, long)) in
    let inside = in_span-parts sp k.0 (x.are.inside k.0 (has_at (x.leaf).keys i k.0 k.1)) in
    let read = h.key x.leaf i k.0 x.has x.slot k.1 (let a : 16 + 3 * i ≡ record_start tree_leaf i = omega arith in a) in
    k.1 ∙ ap (λ (q : Key). Some q) (key_is sp k.0 n inside.0 read)

-- ---- causes

pub is_locked : (slots t i at seen page epoch : ℕ) (sp : Span) (pages : List (List ℕ)) → i < 16
    → at ≡ page_at slots t (17 + 3 * i) → (seen / 2 ^ 60) % 2 ≡ 1 → IsLeafCause slots t sp pages page epoch Locked at seen
is_locked slots t i at seen page epoch sp pages few place odd = (inr (i, few, place), odd)

pub is_changed : (slots t i at seen before page epoch : ℕ) (sp : Span) (pages : List (List ℕ)) → i < 16
    → at ≡ page_at slots t (17 + 3 * i) → seen ≢ before → IsLeafCause slots t sp pages page epoch (Changed before) at seen
is_changed slots t i at seen before page epoch sp pages few place other = (inr (i, few, place), other)

pub is_unlike : (slots t i at seen page epoch : ℕ) (sp : Span) (pages : List (List ℕ)) (k : Key) (s : Option Stored) → i < 16
    → k.storage ≡ sp.storage → at ≡ page_at slots t (17 + 3 * i) → ((seen / 2 ^ 60) % 2 ≡ 1 → ⊥)
    → IsStored (tree_records pages page) k.key s → IsUnlike (option_map found_of s) epoch seen
    → IsLeafCause slots t sp pages page epoch (UnlikeAt k) at seen
is_unlike slots t i at seen page epoch sp pages k s few storage place even is other = record {
  storage = storage;
  how = inl record {
    index = i;
    few = few;
    place = place;
    unlocked = omega (arith, even);
    unlike = subst (λ (o : Option Found). IsUnlike o epoch seen) (sym is) other;
  };
}

pub is_valued : (slots t i at seen page epoch : ℕ) (sp : Span) (pages : List (List ℕ)) (k : Key) (s : Option Stored) → i < 16
    → k.storage ≡ sp.storage → at ≡ page_at slots t (17 + 3 * i) → IsStored (tree_records pages page) k.key s
    → IsOtherValue (option_map found_of s) seen → IsLeafCause slots t sp pages page epoch (UnlikeAt k) (at + 1) seen
is_valued slots t i at seen page epoch sp pages k None few storage place is other = absurd other
is_valued slots t i at seen page epoch sp pages k (Some s) few storage place is other = record {
  storage = storage;
  how = inr (inl record {
    index = i;
    few = few;
    place = omega (arith, place);
    stored = found_of s;
    is = is;
    unlike = other;
  });
}

-- ---- it was compared

pub compared : (t page epoch i at word : ℕ) (k : Key) (s : Option Stored) (v u w : View) → HasGlanced v u
    → LoadedWord t at u word w → ((word / 2 ^ 60) % 2 ≡ 1 → ⊥) → IsStored (tree_records v.pages page) k.key s
    → IsLike (option_map found_of s) epoch word → HasCompared page epoch k v word w
compared t page epoch i at word k s v u w glanced h even is like =
    let few = h.few in record {
      looks = (saw_read at word v u w (only_glanced v u glanced) h.is).only;
      like = subst (λ (o : Option Found). IsLike o epoch word) (sym is) like;
      free = open_bits word few (omega (arith, even));
      number = h.number;
      small = h.small;
      says = h.says;
    }

-- ---- it is locked as the snapshot has it

epoch_of : (n : Number) (word : ℕ) → IsSmall n → word % 2 ^ 60 ≡ number_word n → (word % 2 ^ 60) / 2 ^ 40 ≡ n.epoch
epoch_of n word small says = let draw = small.draw in omega (arith, draw, says)

-- of an absence
pub absent_locked : (t i page epoch word : ℕ) (k : Key) (v : View) → Contains v.took (took_at k (spot t i) word)
    → IsLike (record_for (tree_records v.pages page) k.key) epoch word → IsOpenWord word → (n : Number) → IsSmall n
    → word % 2 ^ 60 ≡ number_word n → epoch ≤ v.past → 2 ^ 60 ≤ word → IsTreeLockedAs v t i page k
absent_locked t i page epoch word k v took like free n small says past high =
    by_found (record_for (tree_records v.pages page) k.key) refl like
  where
    by_found : (o : Option Found) → record_for (tree_records v.pages page) k.key ≡ o → IsLike o epoch word → IsTreeLockedAs v t i page k
    by_found (Some f) is so = let low = so.1 in absurd (omega (arith, low, high))
    by_found None is so =
        let old = so.1 in
        let from = so.0 in
        let e = epoch_of n word small says in
        let most : word < 2 ^ 61 + 2 ^ 60 = elim free [
          | inl low ↦ absurd (omega (arith, low, high))
          | inr above ↦ above.1
        ] in record {
          word = word;
          took = took;
          content = record { number = n; value = None };
          small = small;
          is = omega (arith, says, from, most);
          value = inl refl;
          says = inr (refl, ap (λ (o : Option Found). (found_content o).value) is);
          old = λ none. omega (arith, e, old, past);
        }

number_back : (n : Number) → IsSmall n → number_in (number_word n) ≡ n
number_back n small =
    let draw = small.draw in
    ap (λ (e : ℕ). let x : Number = record { epoch = e; draw = number_word n % 2 ^ 40 } in x)
    (let a : number_word n / 2 ^ 40 ≡ n.epoch = omega (arith, draw) in a)
    ∙ ap (λ (d : ℕ). let x : Number = record { epoch = n.epoch; draw = d } in x)
    (let a : number_word n % 2 ^ 40 ≡ n.draw = omega (arith, draw) in a)

-- of a value
pub value_locked : (t i page epoch word value at : ℕ) (k : Key) (s : Option Stored) (u w : View)
    → Contains u.took (took_at k (spot t i) word) → IsLike (record_for (tree_records u.pages page) k.key) epoch word
    → word < 2 ^ 60 → IsStored (tree_records u.pages page) k.key s → LoadedHeld k at word u value w
    → IsValue (option_map found_of s) value → IsTreeLockedAs w t i page k
value_locked t i page epoch word value at k None u w took like low is h same =
    let none : IsLike None epoch word = subst (λ (o : Option Found). IsLike o epoch word) is like in
    let high = none.0 in absurd (omega (arith, low, high))
value_locked t i page epoch word value at k (Some s) u w took like low is h same =
    let some : IsLike (Some (found_of s)) epoch word = subst (λ (o : Option Found). IsLike o epoch word) is like in
    let number : number_word h.number ≡ s.number = h.word ∙ some.0 in
    let c : Content = record { number = h.number; value = Some value } in
    let here : c ≡ found_content (Some (found_of s)) =
    ap (λ (n : Number). let x : Content = record { number = n; value = Some value } in x)
    (sym (number_back h.number h.small) ∙ ap number_in number)
    ∙ ap (λ (m : ℕ). let x : Content = record { number = number_in s.number; value = Some m } in x) same in
    subst (λ (z : View). IsTreeLockedAs z t i page k) (sym h.is) record {
      word = word;
      took = took;
      content = c;
      small = h.small;
      is = let read = h.word in omega (arith, read);
      value = inr (in_push_new (version_of k h.number value) u.versions);
      says = inl (here ∙ ap found_content (sym is));
      old = λ none. absurd (let no : Some value ≡ None = none in cc);
    }

-- it stays so
pub locked_on : (t i page : ℕ) (k : Key) (v w : View)
    → w.pages ≡ v.pages → w.past ≡ v.past
    → ((n : ℕ) → Contains v.took (took_at k (spot t i) n) → Contains w.took (took_at k (spot t i) n))
    → ((x : Version) → Contains v.versions x → Contains w.versions x) → IsTreeLockedAs v t i page k → IsTreeLockedAs w t i page k
locked_on t i page k v w pages past took versions h = record {
  word = h.word;
  took = took h.word h.took;
  content = h.content;
  small = h.small;
  is = h.is;
  value = elim h.value [
    | inl none ↦ inl none
    | inr has ↦ inr (versions (record { key = k; content = h.content }) has)
  ];
  says = subst (λ (ps : List (List ℕ)). IsSameOrAbsent h.content (leaf_content ps page k)) (sym pages) h.says;
  old = λ none. subst (λ (n : ℕ). h.content.number.epoch ≤ n) (sym past) (h.old none);
}

-- ---- where words stand in a later view, and tries to lock

pub at_then : (t i at : ℕ) (v w : View) → OnlyLooks v w → at ≡ page_at v.layout.slots t i → at ≡ page_at w.layout.slots t i
at_then t i at v w only place = place ∙ ap (λ (l : Layout). page_at l.slots t i) (sym (layout_worked v w only.looks.works))

pub not_locked : (k : Key) (x : Spot) (at word found : ℕ) (v w : View) → found ≢ word → HasLocked k x at word v found w
    → w ≡ read_at at found v
not_locked k x at word found v w other h =
    subst (λ c. MatchBool c (w ≡ locked k x at found v) (w ≡ read_at at found v)) (ne_eqb found word other) h

pub locked_now : (k : Key) (x : Spot) (at place word found : ℕ) (v w : View) → found ≡ word → at ≡ place
    → HasLocked k x at word v found w → w ≡ locked k x place word v
locked_now k x at place word found v w same here h =
    subst (λ c. MatchBool c (w ≡ locked k x at found v) (w ≡ read_at at found v)) (eq-eqb found word same) h
    ∙ (ap (λ n. locked k x at n v) same ∙ ap (λ n. locked k x n word v) here)

pub reads_lock : (t i at word found : ℕ) (k : Key) (x : Spot) (v w : View) → i < 16 → at ≡ page_at v.layout.slots t (17 + 3 * i)
    → HasLocked k x at word v found w → KeepsReads t v w
reads_lock t i at word found k x v w few place h = by_test (eqb found word) h
  where
    by_test : (c : Bool) → MatchBool c (w ≡ locked k x at found v) (w ≡ read_at at found v) → KeepsReads t v w
    by_test true is =
        reads_more t (17 + 3 * i) at (found + lock_bit) v v w (omega (arith, few)) place (reads_self t v) (ap (λ (z : View). z.reads) is)
    by_test false is =
        reads_more t (17 + 3 * i) at found v v w (omega (arith, few)) place (reads_self t v) (ap (λ (z : View). z.reads) is)
