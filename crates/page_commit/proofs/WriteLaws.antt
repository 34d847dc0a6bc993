-- The write set after one write: which values it has, and that each word is that of a record.
use Rattle.std.proofs.Common.{◌≡◌, ◌⊎◌, inl, inr, ℕ, Bool, true, false, true≢false, cond, List, [], ◌∷◌, ◌++◌, Option}
use Rattle.std.proofs.Common.{Some, None, ◌+◌, ◌<◌, ◌≤◌, length, length-append}
use Rattle.std.specs.Prelude.{Result, Ok, Err, OnOk, IsOk}
use Rattle.std.proofs.lemmas.Bool.Decides.{nat_tests}
use Rattle.std.proofs.Common.{refl, sym, ap, ◌∙◌, subst, arith}
use Rattle.std.specs.Prelude.{is_some, ◌==◌, ◌||◌}
use Rattle.std.specs.List.{find, list_any, AllByRecursion}
use Rattle.std.specs.Option.{option_map}
use Rattle.std.proofs.lemmas.Bool.{cases_Bool, eqb-true, or_parts, or_from, ne_eqb}
use Rattle.serial_model.specs.declared.key.Key.{Key}
use Rattle.serial_model.specs.declared.number.Change.{Change}
use Rattle.homes.specs.Homes.{same_key}
use Rattle.homes.specs.Laws.{same_key-self, same_key-true}
use Rattle.commit_core.specs.Keys.{written}
use Rattle.serial_bridge.specs.Transaction.{wrote}
use Rattle.tx_sets.specs.declared.writes.Write.{Write}
use Rattle.tx_sets.specs.Entries.{has_write, value_of, writes_at, IsInserted, IsPut, IsRewritten}
use Rattle.engine_pages.specs.Pointers.{WaysAgree}
use Rattle.page_commit.specs.Places.{Ground, IsAnyKeyIn}
use Rattle.engine_pages.specs.Agreement.{KnownAgree}
use Rattle.page_commit.specs.Live.{IsWriteOf}
use Rattle.page_commit.specs.Turning.{AreWritesOf}
use Rattle.page_commit.proofs.AnyPlaces.{any_one_key}

-- ---- which values

abbrev at_key : Key → Bool → Option (Option ℕ) → Option ℕ → Option (Option ℕ)
at_key k hit other value = cond hit (Some value) other

-- where no write is of the key, none is found
pub value_none : (k : Key) (ws : List Write) → has_write k ws ≡ false → value_of k ws ≡ None
value_none k [] none = refl
value_none k (w ∷ ws) none =
    let parts = or_parts (same_key w.key k) (has_write k ws) none in
    ap (λ b. option_map (λ (x : Write). x.value) (cond b (Some w) (find (λ (x : Write). same_key x.key k) ws))) parts.0
    ∙ value_none k ws parts.1

-- and where none is found, none is of the key
pub none_written : (k : Key) (ws : List Write) → value_of k ws ≡ None → has_write k ws ≡ false
none_written k [] none = refl
none_written k (w ∷ ws) none =
    elim (cases_Bool (same_key w.key k)) [
      | inl hit ↦ absurd (some_none w.value (sym (step hit) ∙ none))
      | inr miss ↦ or_from (same_key w.key k) (has_write k ws) miss (none_written k ws (sym (step miss) ∙ none))
    ]
  where
    some_none : (a : Option ℕ) → Some a ≡ None → ⊥
    some_none a same = absurd cc

    step : {b : Bool} → same_key w.key k ≡ b
        → value_of k (w ∷ ws)
        ≡ option_map (λ (x : Write). x.value) (cond b (Some w) (find (λ (x : Write). same_key x.key k) ws))
    step is = ap (λ b. option_map (λ (x : Write). x.value)
        (cond b (Some w) (find (λ (x : Write). same_key x.key k) ws))) is

pub some_written : (k : Key) (ws : List Write) (value : Option ℕ) → value_of k ws ≡ Some value → has_write k ws ≡ true
some_written k [] value is = absurd cc
some_written k (w ∷ ws) value is =
    elim (cases_Bool (same_key w.key k)) [
      | inl hit ↦ rw hit refl
      | inr miss ↦ rw miss (some_written k ws value (sym (step miss) ∙ is))
    ]
  where
    step : {b : Bool} → same_key w.key k ≡ b
        → value_of k (w ∷ ws)
        ≡ option_map (λ (x : Write). x.value) (cond b (Some w) (find (λ (x : Write). same_key x.key k) ws))
    step is = ap (λ b. option_map (λ (x : Write). x.value)
        (cond b (Some w) (find (λ (x : Write). same_key x.key k) ws))) is

pub value_head : (w : Write) (ws : List Write) (q : Key) (b : Bool) → same_key w.key q ≡ b
    → value_of q (w ∷ ws) ≡ cond b (Some w.value) (value_of q ws)
value_head w ws q true is =
    ap (λ b. option_map (λ (x : Write). x.value) (cond b (Some w) (find (λ (x : Write). same_key x.key q) ws))) is
value_head w ws q false is =
    ap (λ b. option_map (λ (x : Write). x.value) (cond b (Some w) (find (λ (x : Write). same_key x.key q) ws))) is

-- where all of the first ones are of other keys, the value is that of the rest
pub value_past : (before : List Write) (ws : List Write) (k : Key) → has_write k before ≡ false
    → value_of k (before ++ ws) ≡ value_of k ws
value_past [] ws k none = refl
value_past (b ∷ before) ws k none =
    let parts = or_parts (same_key b.key k) (has_write k before) none in
    value_head b (before ++ ws) k false parts.0 ∙ value_past before ws k parts.1

pub any_front : (p : Write → Bool) (before ws : List Write) → list_any p (before ++ ws) ≡ false → list_any p before ≡ false
any_front p [] ws none = refl
any_front p (b ∷ before) ws none =
    let parts = or_parts (p b) (list_any p (before ++ ws)) none in
    or_from (p b) (list_any p before) parts.0 (any_front p before ws parts.1)

-- a key other than that of the middle one has the same value with and without it
pub value_beside : (before after : List Write) (x : Write) (q : Key) → same_key x.key q ≡ false
    → value_of q (before ++ x ∷ after) ≡ value_of q (before ++ after)
value_beside [] after x q miss = value_head x after q false miss
value_beside (b ∷ before) after x q miss =
    elim (cases_Bool (same_key b.key q)) [
      | inl hit ↦ value_head b (before ++ x ∷ after) q true hit ∙ sym (value_head b (before ++ after) q true hit)
      | inr other ↦ value_head b (before ++ x ∷ after) q false other
          ∙ (value_beside before after x q miss ∙ sym (value_head b (before ++ after) q false other))
    ]

-- the key has this value now, and each other what it had
pub record HasWritten (k : Key) (value : ℕ) (old new : List Write) : Type 0 where
  pub now : value_of k new ≡ Some (Some value)
  pub others : (q : Key) → same_key k q ≡ false → value_of q new ≡ value_of q old
  pub grows : length new ≤ length old + 1

pub inserted_writes : (k : Key) (value at : ℕ) (old new : List Write)
    → IsInserted (record { key = k; value = Some value; at = at }) old new → has_write k old ≡ false
    → HasWritten k value old new
inserted_writes k value at old new is none =
    let x : Write = record { key = k; value = Some value; at = at } in
    let front = any_front (λ (w : Write). same_key w.key k) is.before is.after
    (subst (λ l. has_write k l ≡ false) is.was none) in record {
      now = ap (value_of k) is.now ∙ (value_past is.before (x ∷ is.after) k front
          ∙ value_head x is.after k true (same_key-self k));
      others = λ q miss. ap (value_of q) is.now ∙ (value_beside is.before is.after x q miss
          ∙ sym (ap (value_of q) is.was));
      grows = omega (
        arith,
        ap (λ (l : List Write). length l) is.now,
        ap (λ (l : List Write). length l) is.was,
        length-append is.before (x ∷ is.after),
        length-append is.before is.after,
      );
    }

pub rewritten_writes : (k : Key) (value : ℕ) (old new : List Write) → IsRewritten k (Some value) old new
    → HasWritten k value old new
rewritten_writes k value old new is =
    let x : Write = is.write in
    let y : Write = record x { value = Some value } in
    let before = is.rest.before in
    let after = is.rest.after in
    let own : same_key x.key k ≡ true = ap (λ (z : Key). same_key z k) is.of_key ∙ same_key-self k in record {
      now = ap (value_of k) is.rest.now ∙ (value_past before (y ∷ after) k is.first ∙ value_head y after k true own);
      others = λ q miss.
          let other : same_key x.key q ≡ false = ap (λ (z : Key). same_key z q) is.of_key ∙ miss in
          ap (value_of q) is.rest.now ∙ (value_beside before after y q other
          ∙ (sym (value_beside before after x q other) ∙ sym (ap (value_of q) is.rest.was)));
      grows = omega (
        arith,
        ap (λ (l : List Write). length l) is.rest.now,
        ap (λ (l : List Write). length l) is.rest.was,
        length-append before (y ∷ after),
        length-append before (x ∷ after),
      );
    }

pub has_is : (ws : List Write) (q : Key) → has_write q ws ≡ is_some (value_of q ws)
has_is [] q = refl
has_is (w ∷ ws) q = by_test (same_key w.key q) refl (has_is ws q)
  where
    by_test : (b : Bool) → same_key w.key q ≡ b → has_write q ws ≡ is_some (value_of q ws)
        → (same_key w.key q || has_write q ws) ≡ is_some (value_of q (w ∷ ws))
    by_test true is rest =
        ap (λ b. b || has_write q ws) is
        ∙ sym (ap (λ b. is_some (option_map (λ (x : Write). x.value) (cond b (Some w) (find (λ x. same_key x.key q) ws)))) is)
    by_test false is rest =
        ap (λ b. b || has_write q ws) is
        ∙ (rest
        ∙ sym (ap (λ b. is_some (option_map (λ (x : Write). x.value) (cond b (Some w) (find (λ x. same_key x.key q) ws)))) is))

-- at most this key is written now
pub writes_only : (k : Key) (value : ℕ) (old new : List Write) (q : Key) → HasWritten k value old new
    → has_write q new ≡ true → (has_write q old ≡ true) ⊎ (k ≡ q)
writes_only k value old new q is has =
    elim (cases_Bool (same_key k q)) [
      | inl hit ↦ inr (same_key-true k q hit)
      | inr miss ↦ inl (has_is old q ∙ (sym (ap is_some (is.others q miss)) ∙ (sym (has_is new q) ∙ has)))
    ]

pub written_head : (k : Key) (value : Option ℕ) (own : List Change) (q : Key) (b : Bool) → same_key k q ≡ b
    → written q (wrote k value own) ≡ cond b (Some value) (written q own)
written_head k value own q true is =
    ap (λ b. option_map (λ (x : Change). x.value)
    (cond b (Some (record { key = k; value = value })) (find (λ (x : Change). same_key x.key q) own))) is
written_head k value own q false is =
    ap (λ b. option_map (λ (x : Change). x.value)
    (cond b (Some (record { key = k; value = value })) (find (λ (x : Change). same_key x.key q) own))) is

-- with one write more in front, what was written is what the set has
pub writes_more : (k : Key) (value : ℕ) (old new : List Write) (own : List Change) → HasWritten k value old new
    → AreWritesOf old own → AreWritesOf new (wrote k (Some value) own)
writes_more k value old new own is same q =
    elim (cases_Bool (same_key k q)) [
      | inl hit ↦ written_head k (Some value) own q true hit
          ∙ sym (subst (λ (z : Key). value_of z new ≡ Some (Some value)) (same_key-true k q hit) is.now)
      | inr miss ↦ written_head k (Some value) own q false miss ∙ (same q ∙ sym (is.others q miss))
    ]

-- ---- each of an array's record

pub all_middle : (P : Write → Type 0) (before after : List Write) (x : Write) → AllByRecursion P (before ++ after) → P x
    → AllByRecursion P (before ++ x ∷ after)
all_middle P [] after x all one = (one, all)
all_middle P (b ∷ before) after x all one = (all.0, all_middle P before after x all.1 one)

pub all_without : (P : Write → Type 0) (before after : List Write) (x : Write) → AllByRecursion P (before ++ x ∷ after)
    → P x × AllByRecursion P (before ++ after)
all_without P [] after x all = all
all_without P (b ∷ before) after x all = let rest = all_without P before after x all.1 in (rest.0, (all.0, rest.1))

pub inserted_all : (g : Ground) (x : Write) (old new : List Write) → IsInserted x old new → IsWriteOf g x
    → AllByRecursion (IsWriteOf g) old → AllByRecursion (IsWriteOf g) new
inserted_all g x old new is one all =
    subst (AllByRecursion (IsWriteOf g)) (sym is.now)
    (all_middle (IsWriteOf g) is.before is.after x (subst (AllByRecursion (IsWriteOf g)) is.was all) one)

pub rewritten_all : (g : Ground) (k : Key) (value : ℕ) (old new : List Write)
    → IsRewritten k (Some value) old new
    → AllByRecursion (IsWriteOf g) old → AllByRecursion (IsWriteOf g) new
rewritten_all g k value old new is all =
    let x : Write = is.write in
    let was = all_without (IsWriteOf g) is.rest.before is.rest.after x
    (subst (AllByRecursion (IsWriteOf g)) is.rest.was all) in
    subst (AllByRecursion (IsWriteOf g)) (sym is.rest.now)
    (all_middle (IsWriteOf g) is.rest.before is.rest.after (record x { value = Some value }) was.1
    record { place = was.0.place; value = λ array. refl })

-- a key that is not written has another word than all that are
pub word_apart : (g : Ground) (k : Key) (at : ℕ) (ws : List Write) → WaysAgree g.ways → KnownAgree g.known
    → IsAnyKeyIn g k at → AllByRecursion (IsWriteOf g) ws → has_write k ws ≡ false → writes_at at ws ≡ false
word_apart g k at [] agree known is all none = refl
word_apart g k at (w ∷ ws) agree known is all none =
    let parts = or_parts (same_key w.key k) (has_write k ws) none in
    or_from (w.at == at) (writes_at at ws)
    (ne_eqb w.at at (λ same.
    let key : w.key ≡ k = any_one_key g w.key k at agree known (subst (IsAnyKeyIn g w.key) same all.0.place) is in
    true≢false (sym (ap (λ (z : Key). same_key z k) key ∙ same_key-self k) ∙ parts.0)))
    (word_apart g k at ws agree known is all.1 parts.1)

-- ---- a set with room

on_ok : {P : Type 0} (r : Result (Unit {0}) Write) → OnOk r P → IsOk r → P
on_ok (Ok x) p ok = p
on_ok (Err e) p ok = absurd cc

pub write_pushed : (x : Write) (old new : List Write) (r : Result (Unit {0}) Write) → IsPut x old new r → length old < 16
    → IsInserted x old new
write_pushed x old new r p room = on_ok r p.added (p.exactly.1 room)

-- the write set is full, or has room
pub writes_full : (b : Bool) (n : ℕ) → b ≡ (n == 16) → b ≡ true → n ≡ 16
writes_full b n test full = eqb-true n 16 (sym test ∙ full)

pub writes_room : (b : Bool) (n : ℕ) → b ≡ (n == 16) → n ≤ 16 → b ≡ false → n < 16
writes_room b n test le short = grind (arith, nat_tests)

-- the same of a set that is as it was
pub room_same : {old new : List Write} → new ≡ old → length old < 16 → length new < 16
room_same same room = subst (λ (l : List Write). length l < 16) (sym same) room

pub absent_same : {old new : List Write} (k : Key) → new ≡ old → has_write k old ≡ false → has_write k new ≡ false
absent_same k same none = subst (λ (l : List Write). has_write k l ≡ false) (sym same) none
