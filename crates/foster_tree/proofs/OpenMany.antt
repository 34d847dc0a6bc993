-- What it comes to that all locked records of a leaf are opened again.
use Rattle.std.proofs.Common.{◌≡◌, ◌≢◌, ℕ, suc, ◌+◌, ◌*◌, ◌<◌, ◌≤◌, eqb, List, [], ◌∷◌, length, get_or}
use Rattle.std.proofs.Common.{take, refl, sym, ap, ◌∙◌, subst, arith, Some, ne_eqb, ◌++◌}
use Rattle.std.specs.Prelude.{filter, not}
use Rattle.std.specs.List.{Contains, slice_get}
use Rattle.lists.specs.Elements.{in_filtered, in_push_new, in_push_old}
use Rattle.serial_model.specs.declared.key.Key.{Key}
use Rattle.homes.specs.declared.places.Span.{Span}
use Rattle.homes.specs.Homes.{has_key}
use Rattle.engine_pages.specs.declared.layout.Layout.{Layout}
use Rattle.engine_pages.specs.declared.view.Read.{Read}
use Rattle.engine_pages.specs.declared.view.Took.{Took}
use Rattle.engine_pages.specs.declared.view.View.{View}
use Rattle.engine_pages.specs.Layout.{page_at}
use Rattle.engine_pages.specs.Steps.{kept_at, noted, seen_at}
use Rattle.engine_pages.specs.Words.{spot}
use Rattle.page_records.specs.Locks.{opened, took_at}
use Rattle.foster_tree.specs.declared.entries.Entry.{Entry}
use Rattle.foster_tree.specs.Entries.{key_of}
use Rattle.foster_tree.specs.Filling.{no_entry}
use Rattle.foster_tree.specs.Locking.{as_locked, no_key, tooks, AreLocked, CanLockRecords, CanOpenOne, HasOpenedOne, KnowsFull}
use Rattle.foster_tree.specs.Locking.{HasOpenedSome, WorkedIn}
use Rattle.foster_tree.proofs.LockLaws.{worked_none, worked_then}
use Rattle.foster_tree.proofs.LockLists.{has_in, take_push, there, tooks_has}
use Rattle.foster_tree.proofs.LockOne.{knows_still}
use Rattle.foster_tree.proofs.OpenLaws.{got, opened_last, opens_key}

-- ---- what is known while records are locked

pub locked_leaf : (t n : ℕ) (sp : Span) (keys : List Key) (entries : List Entry) (f v : View) → CanLockRecords f t sp keys
    → AreLocked t keys entries n f v → KnowsFull v t sp keys
locked_leaf t n sp keys entries f v can are =
    knows_still t sp keys f v can.leaf (ap (λ (z : View). z.role) are.is) (ap (λ (z : View). z.seat.stage) are.is)
    (ap (λ (z : View). z.ways) are.is) (ap (λ (z : View). z.layout) are.is) (ap (λ (z : View). z.known) are.is)

-- the last lock can be opened
pub can_open_last : (t n : ℕ) (sp : Span) (keys : List Key) (entries : List Entry) (f v : View) → CanLockRecords f t sp keys
    → suc n ≤ 16 → AreLocked t keys entries (suc n) f v → CanOpenOne v t keys n (get_or entries n no_entry)
can_open_last t n sp keys entries f v can few are =
    let less : n < length keys = let full = can.leaf.full in omega (arith, few, full) in
    let at : slice_get keys n ≡ Some (get_or keys n no_key) = there keys n no_key less in
    record {
      k = get_or keys n no_key;
      at = at;
      key = are.read n (get_or keys n no_key) (omega arith) at;
      locked =
          ap (λ (z : View). has_key z.seat.locks (get_or keys n no_key)) are.is
          ∙ (ap (λ (l : List Key). has_key l (get_or keys n no_key)) (take_push keys n (get_or keys n no_key) at)
          ∙ has_in (take n keys ++ get_or keys n no_key ∷ []) (get_or keys n no_key)
          (in_push_new (get_or keys n no_key) (take n keys)));
      took = subst (λ (l : List Took). Contains l (took_at (get_or keys n no_key) (spot t n) (get_or entries n no_entry).word))
          (sym (ap (λ (z : View). z.took) are.is)) (tooks_has t keys entries (suc n) n (omega arith));
    }

-- one lock less
pub opened_less : (t n : ℕ) (sp : Span) (keys : List Key) (entries : List Entry) (f v w : View) → CanLockRecords f t sp keys
    → suc n ≤ 16 → AreLocked t keys entries (suc n) f v
    → HasOpenedOne t (key_of sp.storage (get_or entries n no_entry)) n (get_or entries n no_entry) v w
    → AreLocked t keys entries n f w
opened_less t n sp keys entries f v w can few are one =
    let can-last = can_open_last t n sp keys entries f v can few are in
    let knows = locked_leaf t (suc n) sp keys entries f v can are in
    let same = opens_key t n sp keys (get_or entries n no_entry) v knows can-last in
    let less : n < length keys = let full = can.leaf.full in omega (arith, few, full) in
    record {
      read = λ i k under at. are.read i k (omega (arith, under)) at;
      is = opened_last t keys entries n (page_at v.layout.slots t ((16 + 3 * n) + 1)) (get_or entries n no_entry).word
          can-last.k f v w can.leaf.idle can.leaf.once less can-last.at are.is
          (one.is ∙ ap (λ (q : Key). opened q (page_at v.layout.slots t ((16 + 3 * n) + 1)) (get_or entries n no_entry).word v) same);
    }

-- ---- words that were met

-- what was met of another word stays
pub noted_still : (reads : List Read) (word n : ℕ) (r : Read) → (r.word ≡ word → ⊥) → Contains reads r
    → Contains (noted reads word n (kept_at reads word)) r
noted_still reads word n r apart has =
    in_push_old r (record { word = word; seen = n; was = seen_at reads word; kept = kept_at reads word })
    (filter (λ (x : Read). not (eqb x.word word)) reads)
    (in_filtered (λ (x : Read). not (eqb x.word word)) r reads has (ap not (ne_eqb r.word word apart)))

-- so it does where a record is opened
pub still_one : (t i : ℕ) (k : Key) (e : Entry) (v w : View) → HasOpenedOne t k i e v w → (r : Read) → Contains v.reads r
    → r.word ≢ page_at v.layout.slots t (1 + (16 + 3 * i)) → Contains w.reads r
still_one t i k e v w one r has apart =
    subst (λ (z : View). Contains z.reads r) (sym one.is)
    (noted_still v.reads (page_at v.layout.slots t ((16 + 3 * i) + 1)) e.word r
    (λ same. apart (same
    ∙ (let f : page_at v.layout.slots t ((16 + 3 * i) + 1) ≡ page_at v.layout.slots t (1 + (16 + 3 * i)) = omega arith in f)))
    has)

pub layout_one : (t i : ℕ) (k : Key) (e : Entry) (v w : View) → HasOpenedOne t k i e v w → w.layout ≡ v.layout
layout_one t i k e v w one = ap (λ (z : View). z.layout) one.is

pub steps_one : (t i : ℕ) (k : Key) (e : Entry) (v w : View) → HasOpenedOne t k i e v w → w.steps ≡ v.steps + 1
steps_one t i k e v w one = ap (λ (z : View). z.steps) one.is

pub last_one : (t i : ℕ) (k : Key) (e : Entry) (v w : View) → HasOpenedOne t k i e v w → w.last ≡ v.last
last_one t i k e v w one = ap (λ (z : View). z.last) one.is

pub touched_one : (t i : ℕ) (k : Key) (e : Entry) (v w : View) → HasOpenedOne t k i e v w → w.touched ≡ v.touched
touched_one t i k e v w one = ap (λ (z : View). z.touched) one.is

-- none is locked at last
pub opened_all : (t n : ℕ) (keys : List Key) (entries : List Entry) (f v w : View) → AreLocked t keys entries n f v
    → AreLocked t keys entries 0 f w → w ≡ as_locked [] [] v w
opened_all t n keys entries f v w before behind =
    behind.is ∙ sym (ap (λ (z : View). as_locked [] [] z w) before.is)
