-- What it comes to that the records of a leaf are locked one after another, and opened again.
use Rattle.std.proofs.Common.{◌≡◌, ◌≢◌, ℕ, suc, ◌+◌, ◌*◌, ◌<◌, ◌≤◌, Bool, true, false, eqb, List, [], ◌∷◌, ◌++◌, length, get_or, set}
use Rattle.std.proofs.Common.{take, refl, sym, ap, ◌∙◌, subst, arith, inl, inr, Some, eqb-true, eq-eqb, true≢false}
use Rattle.std.specs.List.{Contains, slice_get}
use Rattle.std.proofs.lemmas.List.{get_or-set_other, get_or-set_same}
use Rattle.serial_model.specs.declared.key.Key.{Key}
use Rattle.homes.specs.declared.places.Span.{Span}
use Rattle.engine_pages.specs.declared.view.RefusalCause.{RefusalCause}
use Rattle.engine_pages.specs.declared.view.Role.{Role}
use Rattle.engine_pages.specs.declared.view.Took.{Took}
use Rattle.engine_pages.specs.declared.view.Touch.{Touch}
use Rattle.engine_pages.specs.declared.view.Version.{Version}
use Rattle.engine_pages.specs.declared.view.View.{View}
use Rattle.engine_pages.specs.Touches.{touch}
use Rattle.engine_pages.specs.Views.{seat_number}
use Rattle.engine_pages.specs.Words.{spot}
use Rattle.page_records.specs.Locks.{took_at}
use Rattle.foster_tree.specs.declared.entries.Entry.{Entry}
use Rattle.foster_tree.specs.Entries.{content_of}
use Rattle.foster_tree.specs.Filling.{no_entry}
use Rattle.foster_tree.specs.Locking.{as_locked, no_key, tooks, with_touches, AreLocked, CanLockRecords, HasLockedOne}
use Rattle.foster_tree.specs.Locking.{HasLockedSome, HasNotLocked, HasNotLockedOne, HasOpenedSome, IsRead, KnowsFull}
use Rattle.foster_tree.proofs.LockLaws.{worked_none, worked_then}
use Rattle.foster_tree.proofs.LockLists.{take_push, tooks_set}
use Rattle.foster_tree.proofs.LockOne.{knows_still}
use Rattle.foster_tree.proofs.OpenLaws.{got}
use Rattle.foster_tree.proofs.RefuseStill.{refused_still}

-- what was read stays read
read_still : (v w : View) (k : Key) (e : Entry) → ((x : Version) → Contains v.versions x → Contains w.versions x) → IsRead v k e
    → IsRead w k e
read_still v w k e more r = record {
  key = r.key;
  entry = r.entry;
  value = elim r.value [ inl none ↦ inl none | inr has ↦ inr (more (record { key = k; content = content_of e }) has) ];
}

-- none is locked yet
pub locked_none : (t : ℕ) (sp : Span) (keys : List Key) (entries : List Entry) (v : View) → CanLockRecords v t sp keys
    → HasLockedSome t keys entries 0 v v
locked_none t sp keys entries v can = record {
  worked = worked_none t v;
  touched = refl;
  most = omega arith;
  read = λ i k less at. absurd (omega (arith, less));
  is = ap (λ (l : List Key). as_locked l v.took v v) can.unlocked ∙ ap (λ (l : List Took). as_locked [] l v v) can.took;
}

-- what is read of the first ones and of one more
read_more : (entries : List Entry) (n : ℕ) (e : Entry) (keys : List Key) (k : Key) (u w : View) → n < length entries
    → ((x : Version) → Contains u.versions x → Contains w.versions x) → slice_get keys n ≡ Some k
    → ((i : ℕ) (q : Key) → i < n → slice_get keys i ≡ Some q → IsRead u q (get_or entries i no_entry)) → IsRead w k e
    → (i : ℕ) (q : Key) → i < suc n → slice_get keys i ≡ Some q → (b : Bool) → eqb i n ≡ b
    → IsRead w q (get_or (set entries n e) i no_entry)
read_more entries n e keys k u w few more at before one i q less here true same =
    let is : i ≡ n = eqb-true i n same in
    let key : k ≡ q =
    (let f : Some k ≡ Some q = sym at ∙ (ap (λ (j : ℕ). slice_get keys j) (sym is) ∙ here) in cc) in
    subst (λ (z : Key). IsRead w z (get_or (set entries n e) i no_entry)) key
    (subst (λ (d : Entry). IsRead w k d)
    (sym (ap (λ (j : ℕ). get_or (set entries n e) j no_entry) is ∙ get_or-set_same entries n e no_entry few)) one)
read_more entries n e keys k u w few more at before one i q less here false other =
    let apart : i ≢ n = λ s. true≢false (sym (eq-eqb i n s) ∙ other) in
    subst (λ (d : Entry). IsRead w q d) (sym (get_or-set_other entries n i e no_entry apart))
    (read_still u w q (get_or entries i no_entry) more (before i q (omega (arith, apart, less)) here))

-- one more is
pub locked_more : (t n : ℕ) (keys : List Key) (entries : List Entry) (e : Entry) (k : Key) (v u w : View)
    → length entries ≡ 17 → n < 16 → n < length keys → slice_get keys n ≡ Some k → HasLockedSome t keys entries n v u
    → HasLockedOne t k n e u w → HasLockedSome t keys (set entries n e) (suc n) v w
locked_more t n keys entries e k v u w long few within at before one =
    let there : n < length entries = omega (arith, long, few) in
    let locks : u.seat.locks ≡ take n keys = ap (λ (z : View). z.seat.locks) before.is in
    let took : u.took ≡ tooks t keys entries n = ap (λ (z : View). z.took) before.is in
    let last : took_at k (spot t n) e.word
    ≡ took_at (get_or keys n no_key) (spot t n) (get_or (set entries n e) n no_entry).word =
    ap (λ (q : Key). took_at q (spot t n) e.word) (sym (got keys n k within at))
    ∙ ap (λ (d : Entry). took_at (get_or keys n no_key) (spot t n) d.word) (sym (get_or-set_same entries n e no_entry there)) in
    let own : touch (seat_number u.role) k ≡ touch (seat_number v.role) (get_or keys n no_key) =
    ap (λ (r : Role). touch (seat_number r) k) before.worked.role
    ∙ ap (λ (q : Key). touch (seat_number v.role) q) (sym (got keys n k within at)) in
    let all : u.took ++ took_at k (spot t n) e.word ∷ [] ≡ tooks t keys (set entries n e) (suc n) =
    ap (λ (l : List Took). l ++ took_at k (spot t n) e.word ∷ []) (took ∙ sym (tooks_set t keys entries n n e (omega arith)))
    ∙ ap (λ (z : Took). tooks t keys (set entries n e) n ++ z ∷ []) last in
    record {
      worked = worked_then t v u w (ap (λ (z : View). z.layout) before.is) before.worked one.worked;
      touched = one.touched
          ∙ (ap (λ (l : List Touch). l ++ touch (seat_number u.role) k ∷ []) before.touched
          ∙ ap (λ (z : Touch). with_touches v.touched (seat_number v.role) keys n ++ z ∷ []) own);
      most = let a = before.most in let b = one.most in omega (arith, a, b);
      read = λ i q less here.
          read_more entries n e keys k u w there one.worked.versions at before.read one.read i q less here (eqb i n) refl;
      is = one.is
          ∙ (ap (λ (z : View). as_locked (u.seat.locks ++ k ∷ []) (u.took ++ took_at k (spot t n) e.word ∷ []) z w) before.is
          ∙ (ap (λ (l : List Key). as_locked (l ++ k ∷ []) (u.took ++ took_at k (spot t n) e.word ∷ []) v w) locks
          ∙ (ap (λ (l : List Key). as_locked l (u.took ++ took_at k (spot t n) e.word ∷ []) v w) (sym (take_push keys n k at))
          ∙ ap (λ (l : List Took). as_locked (take (suc n) keys) l v w) all)));
    }

-- ---- a record that wasn't locked

-- the leaf is known while its first records are locked
pub some_leaf : (t n : ℕ) (sp : Span) (keys : List Key) (entries : List Entry) (v u : View) → CanLockRecords v t sp keys
    → HasLockedSome t keys entries n v u → KnowsFull u t sp keys
some_leaf t n sp keys entries v u can some =
    knows_still t sp keys v u can.leaf (ap (λ (z : View). z.role) some.is) (ap (λ (z : View). z.seat.stage) some.is)
    (ap (λ (z : View). z.ways) some.is) (ap (λ (z : View). z.layout) some.is) (ap (λ (z : View). z.known) some.is)

-- the first ones are locked still
pub locked_still : (t n : ℕ) (keys : List Key) (entries : List Entry) (why : RefusalCause) (v u x : View)
    → HasLockedSome t keys entries n v u → HasNotLockedOne t n why u x → AreLocked t keys entries n v x
locked_still t n keys entries why v u x some none =
    let locks : u.seat.locks ≡ take n keys = ap (λ (z : View). z.seat.locks) some.is in
    let took : u.took ≡ tooks t keys entries n = ap (λ (z : View). z.took) some.is in
    record {
      read = λ i k less at. ap (λ (q : Key). q.key) (some.read i k less at).key;
      is = none.is
          ∙ (ap (λ (z : View). as_locked u.seat.locks u.took z x) some.is
          ∙ (ap (λ (l : List Key). as_locked l u.took v x) locks
          ∙ ap (λ (l : List Took). as_locked (take n keys) l v x) took));
    }

-- so it comes to that none is locked
pub not_locked : (t n : ℕ) (sp : Span) (keys : List Key) (entries : List Entry) (why : RefusalCause) (v u x w : View)
    → CanLockRecords v t sp keys → n < 16 → HasLockedSome t keys entries n v u → HasNotLockedOne t n why u x
    → HasOpenedSome t n x w → HasNotLocked t why v w
not_locked t n sp keys entries why v u x w can less some none opened =
    let first : u.layout ≡ v.layout = ap (λ (z : View). z.layout) some.is in
    let next : x.layout ≡ u.layout = ap (λ (z : View). z.layout) none.is in
    record {
      worked =
          worked_then t v u w first some.worked (worked_then t u x w next none.worked opened.worked);
      most =
          let a = some.most in
          let b = none.most in
          let c = opened.steps in omega (arith, a, b, c, less);
      is = opened.is
          ∙ (ap (λ (z : View). as_locked [] [] z w) none.is ∙ ap (λ (z : View). as_locked [] [] z w) some.is);
      cause = (
        n,
        less,
        refused_still t n why v u x w some.worked.since none.cause opened,
        record {
          keys = keys;
          knows = can.leaf.knows;
          full = can.leaf.full;
          is = opened.touched ∙ (none.touched ∙ some.touched);
        },
      );
    }
