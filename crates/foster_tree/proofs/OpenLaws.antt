-- What it comes to that records of a leaf are opened again, the last one first.
use Rattle.std.proofs.Common.{◌≡◌, ℕ, zero, suc, ◌+◌, ◌*◌, ◌<◌, ◌≤◌, Bool, true, false, cond, List, [], ◌∷◌, ◌++◌, length, get_or}
use Rattle.std.proofs.Common.{take, refl, sym, ap, ◌∙◌, subst, arith, Some}
use Rattle.std.specs.Prelude.{filter, not, ◌==◌, if◌then◌else◌}
use Rattle.std.specs.List.{Contains, slice_get}
use Rattle.lists.specs.Elements.{at_in}
use Rattle.serial_model.specs.declared.key.Key.{Key}
use Rattle.homes.specs.declared.places.Span.{Span}
use Rattle.homes.specs.Homes.{has_key, same_key}
use Rattle.homes.specs.Laws.{same_key-self}
use Rattle.commit_core.specs.declared.seat.Seat.{Seat}
use Rattle.commit_core.specs.declared.seat.Stage.{Stage}
use Rattle.commit_core.specs.declared.seat.Stage.TheVariants.{Idle}
use Rattle.commit_core.specs.CoreState.{can_begin, settled, settled_at}
use Rattle.drop_core.specs.Event.{each_once}
use Rattle.engine_pages.specs.declared.view.Took.{Took}
use Rattle.engine_pages.specs.declared.view.View.{View}
use Rattle.engine_pages.specs.Layout.{page_at}
use Rattle.engine_pages.specs.Words.{spot}
use Rattle.page_records.specs.Locks.{not_at, opened, took_at, CanOpenAgain}
use Rattle.foster_tree.specs.declared.entries.Entry.{Entry}
use Rattle.foster_tree.specs.Entries.{key_of}
use Rattle.foster_tree.specs.Filling.{no_entry}
use Rattle.foster_tree.specs.Locking.{as_locked, no_key, tooks, CanOpenOne, HasOpenedOne, KnowsFull, WorkedIn}
use Rattle.foster_tree.proofs.AddLaws.{storage_of}
use Rattle.foster_tree.proofs.LockLaws.{met_word, worked_read}
use Rattle.foster_tree.proofs.LockLists.{filter_out_last, has_in, once_apart, take_push, there, tooks_keys}

-- a seat without an attempt comes to rest as it is
settled_either : (b : Bool) (s : Seat) → s.stage ≡ Idle → (if b then settled_at s.stage s else s) ≡ s
settled_either true s idle = ap (λ (x : Stage). settled_at x s) idle
settled_either false s idle = refl

pub settled_idle : (s : Seat) → s.stage ≡ Idle → settled s ≡ s
settled_idle s idle = settled_either (length s.locks == 0) s idle

-- the locks but the last one
pub locks_left : (keys : List Key) (n : ℕ) (k : Key) → each_once keys ≡ true → slice_get keys n ≡ Some k
    → filter (λ q. not (same_key q k)) (take (suc n) keys) ≡ take n keys
locks_left keys n k once at =
    ap (λ (l : List Key). filter (λ q. not (same_key q k)) l) (take_push keys n k at)
    ∙ filter_out_last (λ q. not (same_key q k)) (take n keys) k
    (λ q has. ap not (once_apart keys n k q once at has)) (ap not (same_key-self k))

-- what stands at an index is the one that is got there
pub got : (keys : List Key) (n : ℕ) (k : Key) → n < length keys → slice_get keys n ≡ Some k → get_or keys n no_key ≡ k
got keys n k less at = let e : Some (get_or keys n no_key) ≡ Some k = sym (there keys n no_key less) ∙ at in cc

-- and what they found
pub tooks_left : (t : ℕ) (keys : List Key) (entries : List Entry) (n : ℕ) (k : Key) → each_once keys ≡ true
    → n < length keys → slice_get keys n ≡ Some k → not_at k (tooks t keys entries (suc n)) ≡ tooks t keys entries n
tooks_left t keys entries n k once less at =
    filter_out_last (λ (z : Took). not (same_key z.key k)) (tooks t keys entries n)
    (took_at (get_or keys n no_key) (spot t n) (get_or entries n no_entry).word)
    (λ z has. ap not (once_apart keys n k z.key once at (tooks_keys t keys entries n z (omega (arith, less)) has)))
    (ap (λ (q : Key). not (same_key q k)) (got keys n k less at) ∙ ap not (same_key-self k))

-- the view with these locks
abbrev locked_view : List Took → Seat → View → View → View
locked_view took seat v w = record v {
  steps = w.steps;
  last = w.last;
  reads = w.reads;
  loaded = w.loaded;
  seat = seat;
  took = took;
  touched = w.touched;
  versions = w.versions;
}

-- the last lock is opened
pub opened_last : (t : ℕ) (keys : List Key) (entries : List Entry) (n at word : ℕ) (k : Key) (f v w : View)
    → f.seat.stage ≡ Idle → each_once keys ≡ true → n < length keys → slice_get keys n ≡ Some k
    → v ≡ as_locked (take (suc n) keys) (tooks t keys entries (suc n)) f v → w ≡ opened k at word v
    → w ≡ as_locked (take n keys) (tooks t keys entries n) f w
opened_last t keys entries n at word k f v w idle once less is before now =
    let all : w ≡ opened k at word (as_locked (take (suc n) keys) (tooks t keys entries (suc n)) f v) =
    now ∙ ap (opened k at word) before in
    let end : View = opened k at word (as_locked (take (suc n) keys) (tooks t keys entries (suc n)) f v) in
    let seat : settled (record f.seat { locks = filter (λ q. not (same_key q k)) (take (suc n) keys) })
    ≡ record f.seat { locks = take n keys } =
    ap (λ (l : List Key). settled (record f.seat { locks = l })) (locks_left keys n k once is)
    ∙ settled_idle (record f.seat { locks = take n keys }) idle in
    let two : w ≡ as_locked (take n keys) (tooks t keys entries n) f end =
    all
    ∙ (ap (λ (l : List Took). locked_view l (settled (record f.seat { locks = filter (λ q. not (same_key q k)) (take (suc n) keys) })) f end)
    (tooks_left t keys entries n k once less is)
    ∙ ap (λ (s : Seat). locked_view (tooks t keys entries n) s f end) seat) in
    subst (λ (y : View). y ≡ as_locked (take n keys) (tooks t keys entries n) f y) (sym two) refl

-- what one opening leaves
pub opened_one : (t i at : ℕ) (k : Key) (e : Entry) (v w : View) → i < 16
    → at ≡ page_at v.layout.slots t ((16 + 3 * i) + 1) → w ≡ opened k at e.word v → HasOpenedOne t k i e v w
opened_one t i at k e v w less placed is = record {
  worked = subst (λ (z : View). WorkedIn t v z) (sym is)
      (worked_read t ((16 + 3 * i) + 1) at e.word v (opened k at e.word v) (met_word i less) placed (omega arith) refl
      (λ x has. has) refl refl);
  is = is ∙ ap (λ (n : ℕ). opened k n e.word v) placed;
}

-- what it asks
pub can_open : (t i : ℕ) (sp : Span) (keys : List Key) (e : Entry) (v : View) → KnowsFull v t sp keys
    → (can : CanOpenOne v t keys i e) → key_of sp.storage e ≡ can.k → CanOpenAgain v (key_of sp.storage e) (spot t i) e.word
can_open t i sp keys e v knows can same = record {
  idle = ap can_begin knows.idle;
  locked = ap (λ (q : Key). has_key v.seat.locks q) same ∙ can.locked;
  took = subst (λ (q : Key). Contains v.took (took_at q (spot t i) e.word)) (sym same) can.took;
}

-- the key of the entry is that of the record
pub opens_key : (t i : ℕ) (sp : Span) (keys : List Key) (e : Entry) (v : View) → KnowsFull v t sp keys
    → (can : CanOpenOne v t keys i e) → key_of sp.storage e ≡ can.k
opens_key t i sp keys e v knows can =
    let storage : can.k.storage ≡ sp.storage =
    storage_of sp can.k (knows.inside can.k (has_in keys can.k (at_in keys i can.k can.at))) in
    ap (λ (s : ℕ). (let q : Key = record { storage = s; key = e.key } in q)) (sym storage)
    ∙ ap (λ (n : ℕ). (let q : Key = record { storage = can.k.storage; key = n } in q)) can.key

-- which the leaf has at this index
pub key_at : (t i : ℕ) (sp : Span) (keys : List Key) (e : Entry) (v : View) → KnowsFull v t sp keys
    → CanOpenOne v t keys i e → slice_get keys i ≡ Some (key_of sp.storage e)
key_at t i sp keys e v knows can = can.at ∙ ap (λ (q : Key). Some q) (sym (opens_key t i sp keys e v knows can))
