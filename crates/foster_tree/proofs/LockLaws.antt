-- What it comes to that a record of a leaf is locked, and read.
use Rattle.std.proofs.Common.{◌≡◌, ◌≢◌, ◌⊎◌, ℕ, zero, suc, ◌+◌, ◌-◌, ◌*◌, ◌/◌, ◌%◌, ◌^◌, ◌<◌, ◌≤◌, Bool, true, false, cond, eqb}
use Rattle.std.proofs.Common.{List, [], ◌∷◌, ◌++◌, length, get_or, refl, sym, ap, ◌∙◌, subst, arith, inl, inr, Some, None, Option}
use Rattle.std.proofs.Common.{eqb-true, eq-eqb, ne_eqb, true≢false}
use Rattle.std.specs.Prelude.{MatchBool, nat_lt, unwrap_or}
use Rattle.std.specs.List.{Contains}
use Rattle.std.proofs.lemmas.Bool.Decides.{nat_tests}
use Rattle.serial_model.specs.declared.key.Key.{Key}
use Rattle.serial_model.specs.declared.number.Number.{Number}
use Rattle.homes.specs.declared.places.Content.{Content}
use Rattle.homes.specs.declared.places.Spot.{Spot}
use Rattle.wire_form.specs.Leaves.{tree_leaf}
use Rattle.wire_form.specs.Words.{absent_field, number_in, number_word}
use Rattle.engine_pages.specs.declared.layout.Layout.{Layout}
use Rattle.engine_pages.specs.declared.view.Read.{Read}
use Rattle.engine_pages.specs.declared.view.RefusalCause.TheVariants as causes
use Rattle.engine_pages.specs.declared.view.Role.{Role}
use Rattle.engine_pages.specs.declared.view.Touch.{Touch}
use Rattle.engine_pages.specs.declared.view.Version.{Version}
use Rattle.engine_pages.specs.declared.view.View.{View}
use Rattle.engine_pages.specs.Layout.{page_at}
use Rattle.engine_pages.specs.Pages.{is_tree}
use Rattle.engine_pages.specs.Records.{IsTreeRecordAt}
use Rattle.engine_pages.specs.Steps.{kept_at, read_at, seen_at, with_read}
use Rattle.engine_pages.specs.Views.{seat_number}
use Rattle.engine_pages.specs.Words.{IsSmall}
use Rattle.page_records.specs.Locks.{locked, open_bits, IsOpenWord, Locked}
use Rattle.page_records.specs.Reads.{LoadedWord}
use Rattle.tree_records.specs.Held.{LoadedHeld}
use Rattle.array_pages.proofs.ReadLaws.{kept_with, seen_other}
use Rattle.foster_tree.specs.declared.entries.Entry.{Entry}
use Rattle.foster_tree.specs.Entries.{content_of, IsEntry}
use Rattle.foster_tree.specs.Locking.{HasLockedWord, HeldValue, IsMetIndex, RefusesWord, WorkedIn}

-- ---- words of one leaf were seen and left

-- a word before the records
pub met_first : (i : ℕ) → i < 16 → IsMetIndex i
met_first i less = inl less

-- the record's word
pub met_word : (i : ℕ) → i < 16 → IsMetIndex ((16 + 3 * i) + 1)
met_word i less = inr (i, less, inl (let e : (16 + 3 * i) + 1 ≡ 1 + (16 + 3 * i) = omega arith in e))

-- that of its value
pub met_value : (i : ℕ) → i < 16 → IsMetIndex ((16 + 3 * i) + 2)
met_value i less = inr (i, less, inr (let e : (16 + 3 * i) + 2 ≡ (1 + (16 + 3 * i)) + 1 = omega arith in e))

pub worked_none : (t : ℕ) (v : View) → WorkedIn t v v
worked_none t v = record {
  since = omega arith;
  role = refl;
  touches = λ x has. inl has;
  words = λ a. refl;
  others = λ a apart. refl;
  versions = λ x has. has;
}

pub worked_then : (t : ℕ) (v u w : View) → u.layout ≡ v.layout → WorkedIn t v u → WorkedIn t u w → WorkedIn t v w
worked_then t v u w layout first next = record {
  since = let a = first.since in let b = next.since in omega (arith, a, b);
  role = next.role ∙ first.role;
  words = λ a. next.words a ∙ first.words a;
  others = λ a apart.
      next.others a (λ i is. subst (λ (y : Layout). a ≢ page_at y.slots t i) (sym layout) (apart i is))
      ∙ first.others a apart;
  touches = λ x has. elim (next.touches x has) [
    | inl mid ↦ first.touches x mid
    | inr own ↦ inr (
      subst (λ (r : Role). x.seat ≡ seat_number r) first.role own.0,
      subst (λ (y : Layout). is_tree y.decls x.key.storage ≡ true) layout own.1,
    )
  ];
  versions = λ x has. next.versions x (first.versions x has);
}

-- one word was
pub worked_at : (t i at n : ℕ) (v w : View) → IsMetIndex i → at ≡ page_at v.layout.slots t i → v.steps ≤ w.steps
    → w.reads ≡ with_read v.reads at n → ((x : Version) → Contains v.versions x → Contains w.versions x)
    → w.role ≡ v.role
    → ((x : Touch) → Contains w.touched x → Contains v.touched x
    ⊎ ((x.seat ≡ seat_number v.role) × (is_tree v.layout.decls x.key.storage ≡ true)))
    → WorkedIn t v w
worked_at t i at n v w index is since reads versions role touches = record {
  since = since;
  role = role;
  touches = touches;
  words = λ a. subst (λ (l : List Read). kept_at l a ≡ kept_at v.reads a) (sym reads) (kept_with v.reads at n a);
  others = λ a apart.
      subst (λ (l : List Read). seen_at l a ≡ seen_at v.reads a) (sym reads)
      (seen_other v.reads at n (kept_at v.reads at) a (λ same. apart i index (same ∙ is)));
  versions = versions;
}

-- and no lock was taken
pub worked_read : (t i at n : ℕ) (v w : View) → IsMetIndex i → at ≡ page_at v.layout.slots t i → v.steps ≤ w.steps
    → w.reads ≡ with_read v.reads at n → ((x : Version) → Contains v.versions x → Contains w.versions x)
    → w.role ≡ v.role → w.touched ≡ v.touched → WorkedIn t v w
worked_read t i at n v w index is since reads versions role touched =
    worked_at t i at n v w index is since reads versions role
    (λ x has. inl (subst (λ (l : List Touch). Contains l x) touched has))

-- ---- an entry

number_back : (m : ℕ) → m ≡ number_word (number_in m)
number_back m = omega arith

-- the number of a word that says this one
pub number_said : (m : ℕ) (n : Number) → IsSmall n → m ≡ number_word n → n ≡ number_in m
number_said m n small says =
    let draw = small.draw in
    let d : n.draw ≡ m % 2 ^ 40 = omega (arith, says, draw) in
    let e : n.epoch ≡ m / 2 ^ 40 = omega (arith, says, draw) in
    ap (λ (x : ℕ). (let y : Number = record { epoch = n.epoch; draw = x } in y)) d
    ∙ ap (λ (x : ℕ). (let y : Number = record { epoch = x; draw = m % 2 ^ 40 } in y)) e

small_said : (m : ℕ) (n : Number) → IsSmall n → m ≡ number_word n → IsSmall (number_in m)
small_said m n small says = subst IsSmall (number_said m n small says) small

pub low_is : (key word value : ℕ) → word < 2 ^ 60
    → content_of (record { key = key; word = word; value = value })
    ≡ record { number = number_in (word % 2 ^ 60); value = Some value }
low_is key word value low =
    let yes : nat_lt word (2 ^ 60) ≡ true = grind (arith, nat_tests) in
    ap (λ (b : Bool). (let c : Content = record { number = number_in (word % 2 ^ 60); value = cond b (Some value) None } in c)) yes

pub high_is : (key word value : ℕ) → 2 ^ 60 ≤ word
    → content_of (record { key = key; word = word; value = value })
    ≡ record { number = number_in (word % 2 ^ 60); value = None }
high_is key word value high =
    let no_less : nat_lt word (2 ^ 60) ≡ false = grind (arith, nat_tests) in
    ap (λ (b : Bool). (let c : Content = record { number = number_in (word % 2 ^ 60); value = cond b (Some value) None } in c)) no_less

-- a record with a value
pub there_entry : (key word value : ℕ) (n : Number) → word < 2 ^ 60 → IsSmall n → word % 2 ^ 60 ≡ number_word n
    → IsEntry (record { key = key; word = word; value = value })
there_entry key word value n low small says =
    let is = low_is key word value low in record {
      small = small_said (word % 2 ^ 60) n small says;
      word = (let e : word ≡ number_word (number_in (word % 2 ^ 60)) + 0 = omega (arith, low) in e)
          ∙ ap (λ (c : Content). number_word c.number + absent_field tree_leaf c.value) (sym is);
      value = ap (λ (c : Content). unwrap_or c.value 0) (sym is);
    }

-- an absent one
pub absent_entry : (key word : ℕ) (n : Number) → 2 ^ 61 ≤ word → word < 2 ^ 61 + 2 ^ 60 → IsSmall n
    → word % 2 ^ 60 ≡ number_word n → IsEntry (record { key = key; word = word; value = 0 })
absent_entry key word n from to small says =
    let is = high_is key word 0 (omega (arith, from)) in record {
      small = small_said (word % 2 ^ 60) n small says;
      word = (let e : word ≡ number_word (number_in (word % 2 ^ 60)) + 1 * 2 ^ 61 = omega (arith, from, to) in e)
          ∙ ap (λ (c : Content). number_word c.number + absent_field tree_leaf c.value) (sym is);
      value = ap (λ (c : Content). unwrap_or c.value 0) (sym is);
    }

-- ---- one record is locked

-- a word that is loaded again where it was locked: it is locked still, or another one
pub locked_again : (word again : ℕ) → (word / 2 ^ 60) % 2 ≡ 1 → ((again / 2 ^ 60) % 2 ≡ 1) ⊎ (again ≢ word)
locked_again word again bit = by_test (eqb again word) refl
  where
    by_test : (b : Bool) → eqb again word ≡ b → ((again / 2 ^ 60) % 2 ≡ 1) ⊎ (again ≢ word)
    by_test true same = inl (subst (λ (n : ℕ). (n / 2 ^ 60) % 2 ≡ 1) (sym (eqb-true again word same)) bit)
    by_test false other = inr (λ e. true≢false (sym (eq-eqb again word e) ∙ other))

-- the word was loaded again
pub refused_again : (t at word again : ℕ) (v u w : View) → LoadedWord t at v word u → LoadedWord t at u again w
    → (word / 2 ^ 60) % 2 ≡ 1 → RefusesWord at (causes.Conflict at word again) v w
refused_again t at word again v u w first next bit = (
  refl,
  next.is ∙ ap (λ (z : View). read_at at again z) first.is,
  locked_again word again bit,
)

-- it had changed
pub refused_changed : (t at word seen : ℕ) (k : Key) (x : Spot) (v u w : View) → LoadedWord t at v word u
    → Locked k x at word u seen w → seen ≢ word → RefusesWord at (causes.Conflict at word seen) v w
refused_changed t at word seen k x v u w first next other = (
  refl,
  subst (λ (b : Bool). MatchBool b (w ≡ locked k x at seen u) (w ≡ read_at at seen u)) (ne_eqb seen word other) next
      ∙ ap (λ (z : View). read_at at seen z) first.is,
  inr other,
)

-- a word without a lock
pub open_loaded : (t at word : ℕ) (v u : View) → LoadedWord t at v word u → ((word / 2 ^ 60) % 2 ≡ 1 → ⊥) → IsOpenWord word
open_loaded t at word v u loaded unlocked = open_bits word loaded.few (even ((word / 2 ^ 60)) unlocked)
  where
    even : (n : ℕ) → (n % 2 ≡ 1 → ⊥) → n % 2 ≡ 0
    even n odd = omega (arith, odd)

-- it is locked
pub locked_word : (t at word seen : ℕ) (k : Key) (x : Spot) (v u w : View) → LoadedWord t at v word u
    → ((word / 2 ^ 60) % 2 ≡ 1 → ⊥) → Locked k x at word u seen w → seen ≡ word → HasLockedWord k x at word v w
locked_word t at word seen k x v u w first unlocked next same = record {
  open_word = open_loaded t at word v u first unlocked;
  number = first.number;
  small = first.small;
  says = first.says;
  is = subst (λ (b : Bool). MatchBool b (w ≡ locked k x at seen u) (w ≡ read_at at seen u)) (eq-eqb seen word same) next
      ∙ (ap (λ (n : ℕ). locked k x at n u) same ∙ ap (λ (z : View). locked k x at word z) first.is);
}

-- the place of a record where the pass has loaded one word more
pub place_read : (k : Key) (x : Spot) (at to n : ℕ) (v u : View) → u ≡ read_at to n v → IsTreeRecordAt v k x at
    → IsTreeRecordAt u k x at
place_read k x at to n v u is place = subst (λ (z : View). IsTreeRecordAt z k x at) (sym is) record {
  way = place.way;
  has = place.has;
  slot = place.slot;
  leaf = place.leaf;
  knows = place.knows;
  same = place.same;
  there = place.there;
  index = place.index;
  kind = place.kind;
  key = place.key;
  word = place.word;
}

-- ---- its value

pub no_value : (k : Key) (at word : ℕ) (v : View) → 2 ^ 60 ≤ word → HeldValue k at word 0 v v
no_value k at word v high = inr (high, refl, refl)

pub some_value : (k : Key) (at word value : ℕ) (v w : View) → word < 2 ^ 60 → LoadedHeld k (at + 1) word v value w
    → HeldValue k at word value v w
some_value k at word value v w low h = inl (low, record { number = h.number; small = h.small; says = h.word; is = h.is })

-- a step that met no word
pub worked_same : (t : ℕ) (v w : View) → v.steps ≤ w.steps → w.reads ≡ v.reads → w.versions ≡ v.versions
    → w.role ≡ v.role → w.touched ≡ v.touched → WorkedIn t v w
worked_same t v w since reads versions role touched = record {
  since = since;
  role = role;
  touches = λ x has. inl (subst (λ (l : List Touch). Contains l x) touched has);
  words = λ a. ap (λ (l : List Read). kept_at l a) reads;
  others = λ a apart. ap (λ (l : List Read). seen_at l a) reads;
  versions = λ x has. subst (λ (l : List Version). Contains l x) (sym versions) has;
}
