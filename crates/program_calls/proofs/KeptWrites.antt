-- Who wrote what in a serial run, and that the workers' logs have just that.
use Rattle.std.proofs.Common.{◌≡◌, ◌∙◌, ◌⊎◌, ◌≤◌, ◌<◌, sym, ap, subst, refl, inl, inr, ℕ, Bool, true, false}
use Rattle.std.proofs.Common.{arith}
use Rattle.std.proofs.Common.{List, [], ◌∷◌, ◌++◌, Option, Some, None}
use Rattle.std.specs.Prelude.{◌==◌, MatchBool, cond, filter, flat_map, map, nat_le, option_to_list}
use Rattle.std.specs.FinMap.{get}
use Rattle.std.specs.List.{AllByRecursion, Contains}
use Rattle.std.proofs.lemmas.Bool.{cases_Bool, cases_lt, cond-false, cond-true}
use Rattle.std.proofs.lemmas.Bool.Decides.{nat_tests}
use Rattle.std.proofs.lemmas.List.Elements.{Contains-append_cases, Contains-append_left, Contains-append_right}
use Rattle.lists.specs.Elements.{in_cases, in_head, in_none, in_tail}
use Rattle.serial_model.specs.History.{Entry, EpochsNeverFall, InOrder, Precedes, Rises, state_after, state_after_all}
use Rattle.serial_model.specs.Numbers.{IsBelow}
use Rattle.serial_model.specs.State.{State}
use Rattle.serial_model.specs.declared.decl.Decl.{Decl}
use Rattle.serial_model.specs.declared.key.Key.{Key}
use Rattle.serial_model.specs.declared.number.Change.{Change}
use Rattle.serial_model.specs.declared.number.Commit.{Commit}
use Rattle.serial_model.specs.declared.number.Number.{Number}
use Rattle.log_mapper.specs.Mapped.{entries_of, entry_of}
use Rattle.wire_form.specs.LogLine.{key_of}
use Rattle.wire_form.specs.declared.bucket.Entry.{Entry as LogEntry}
use Rattle.worker_logs.specs.Changes.{IsLogged, write_set}
use Rattle.worker_logs.specs.ChangesLaws.{unwritten_kept}
use Rattle.round_engine.specs.Changes.{AreLogged}

-- ---- what a run wrote

-- this entry wrote this value, or the removal, at the key
pub record WritesHere (decls : List Decl) (s : State) (e : Entry) (worker : ℕ) (key : Key) (number : Number)
    (value : Option ℕ) : Type 0 where
  pub by : e.worker ≡ worker
  pub numbered : e.number ≡ number
  pub written : Contains (write_set decls s e.ops) key
  pub leaves : value ≡ get (state_after decls s e) key

-- an entry of the run did
abbrev pub Writes : List Decl → State → List Entry → ℕ → Key → Number → Option ℕ → Type 0
Writes decls s [] worker key number value = ⊥
Writes decls s (e ∷ es) worker key number value =
    WritesHere decls s e worker key number value ⊎ Writes decls (state_after decls s e) es worker key number value

-- what holds of all entries holds of the one that wrote
pub writes_all : (P : Entry → Type 0) (decls : List Decl) (s : State) (es : List Entry) (worker : ℕ) (key : Key)
    (number : Number) (value : Option ℕ) → AllByRecursion P es → Writes decls s es worker key number value
    → (e : Entry) × P e × (e.worker ≡ worker) × (e.number ≡ number)
writes_all P decls s [] worker key number value all writes = absurd writes
writes_all P decls s (e ∷ es) worker key number value all (inl here) = (e, all.0, here.by, here.numbered)
writes_all P decls s (e ∷ es) worker key number value all (inr later) =
    writes_all P decls (state_after decls s e) es worker key number value all.1 later

pub precedes_all : (R : Entry → Entry → Type 0) (e : Entry) (es : List Entry) → Precedes R e es
    → AllByRecursion (R e) es
precedes_all R e [] precedes = tt
precedes_all R e (f ∷ es) precedes = (precedes.0, precedes_all R e es precedes.1)

-- ---- the last value

-- a key that no entry writes keeps its value
pub none_written : (decls : List Decl) (s : State) (es : List Entry) (key : Key)
    → ((worker : ℕ) (number : Number) (value : Option ℕ) → Writes decls s es worker key number value → ⊥)
    → get (state_after_all decls s es) key ≡ get s key
none_written decls s [] key none = refl
none_written decls s (e ∷ es) key none =
    none_written decls (state_after decls s e) es key
    (λ worker number value later. none worker number value (inr later))
    ∙ (elim (unwritten_kept decls s e.ops key) [
      | inl has ↦ absurd (none e.worker e.number (get (state_after decls s e) key)
          (inl (record { by = refl; numbered = refl; written = has; leaves = refl })))
      | inr kept ↦ kept
    ])

-- where no entry with a greater number writes the key, it has what this one wrote
pub last_written : (decls : List Decl) (s : State) (es : List Entry) (worker : ℕ) (key : Key) (number : Number)
    (value : Option ℕ) → Rises es → Writes decls s es worker key number value
    → ((w : ℕ) (n : Number) (v : Option ℕ) → Writes decls s es w key n v → IsBelow number n → ⊥)
    → value ≡ get (state_after_all decls s es) key
last_written decls s [] worker key number value rises writes last = absurd writes
last_written decls s (e ∷ es) worker key number value rises (inl here) last =
    here.leaves ∙ sym (none_written decls (state_after decls s e) es key (λ w n v later.
    let f = writes_all (λ f. IsBelow e.number f.number) decls (state_after decls s e) es w key n v
    (precedes_all (λ e f. IsBelow e.number f.number) e es rises.0) later in
    last w n v (inr later) (subst (λ x. IsBelow x n) here.numbered (subst (IsBelow e.number) f.3 f.1))))
last_written decls s (e ∷ es) worker key number value rises (inr later) last =
    last_written decls (state_after decls s e) es worker key number value rises.1 later
    (λ w n v more. last w n v (inr more))

-- ---- up to an epoch

-- the entry's epoch is not above this one
abbrev pub is_by : ℕ → Entry → Bool
is_by epoch e = nat_le e.number.epoch epoch

-- what one list of entries precedes it precedes of those that are kept
precedes_kept : (R : Entry → Entry → Type 0) (p : Entry → Bool) (e : Entry) (es : List Entry) → Precedes R e es
    → Precedes R e (filter p es)
precedes_kept R p e [] precedes = tt
precedes_kept R p e (f ∷ es) precedes = elim (p f) as (λ b. Precedes R e (cond b (f ∷ filter p es) (filter p es))) [
  | true ↦ (precedes.0, precedes_kept R p e es precedes.1)
  | false ↦ precedes_kept R p e es precedes.1
]

pub order_kept : (R : Entry → Entry → Type 0) (p : Entry → Bool) (es : List Entry) → InOrder R es
    → InOrder R (filter p es)
order_kept R p [] order = tt
order_kept R p (e ∷ es) order = elim (p e) as (λ b. InOrder R (cond b (e ∷ filter p es) (filter p es))) [
  | true ↦ (precedes_kept R p e es order.0, order_kept R p es order.1)
  | false ↦ order_kept R p es order.1
]

-- behind an entry of a later epoch all are later
pub none_by : (epoch : ℕ) (e : Entry) (es : List Entry) → epoch < e.number.epoch
    → Precedes (λ e f. e.number.epoch ≤ f.number.epoch) e es → filter (is_by epoch) es ≡ []
none_by epoch e [] above later = refl
none_by epoch e (f ∷ es) above later =
    let is : is_by epoch f ≡ false = grind (arith, nat_tests, above, later.0) in
    cond-false (is_by epoch f) (f ∷ filter (is_by epoch) es) (filter (is_by epoch) es) is
    ∙ none_by epoch e es above later.1

-- those up to an epoch, where an entry is of one of those, and where it is of a later one
kept_first : (epoch : ℕ) (e : Entry) (es : List Entry) → e.number.epoch ≤ epoch
    → filter (is_by epoch) (e ∷ es) ≡ e ∷ filter (is_by epoch) es
kept_first epoch e es within =
    let is : is_by epoch e ≡ true = grind (arith, nat_tests) in
    cond-true (is_by epoch e) (e ∷ filter (is_by epoch) es) (filter (is_by epoch) es) is

kept_none : (epoch : ℕ) (e : Entry) (es : List Entry) → epoch < e.number.epoch
    → Precedes (λ e f. e.number.epoch ≤ f.number.epoch) e es → filter (is_by epoch) (e ∷ es) ≡ []
kept_none epoch e es above later =
    let is : is_by epoch e ≡ false = grind (arith, nat_tests) in
    cond-false (is_by epoch e) (e ∷ filter (is_by epoch) es) (filter (is_by epoch) es) is
    ∙ none_by epoch e es above later

-- what those up to an epoch wrote the run wrote
pub by_writes : (decls : List Decl) (s : State) (es : List Entry) (epoch worker : ℕ) (key : Key) (number : Number)
    (value : Option ℕ) → EpochsNeverFall es → Writes decls s (filter (is_by epoch) es) worker key number value
    → Writes decls s es worker key number value
by_writes decls s [] epoch worker key number value falls writes = writes
by_writes decls s (e ∷ es) epoch worker key number value falls writes = elim (cases_lt epoch e.number.epoch) [
  | inl above ↦ absurd (subst (λ fs. Writes decls s fs worker key number value)
      (kept_none epoch e es above falls.0) writes)
  | inr within ↦ elim (subst (λ fs. Writes decls s fs worker key number value) (kept_first epoch e es within) writes) [
    | inl here ↦ inl here
    | inr later ↦ inr (by_writes decls (state_after decls s e) es epoch worker key number value falls.1 later)
  ]
]

-- and what the run wrote up to that epoch they wrote
pub writes_by : (decls : List Decl) (s : State) (es : List Entry) (epoch worker : ℕ) (key : Key) (number : Number)
    (value : Option ℕ) → EpochsNeverFall es → number.epoch ≤ epoch → Writes decls s es worker key number value
    → Writes decls s (filter (is_by epoch) es) worker key number value
writes_by decls s [] epoch worker key number value falls up writes = absurd writes
writes_by decls s (e ∷ es) epoch worker key number value falls up writes = elim (cases_lt epoch e.number.epoch) [
  | inr within ↦ subst (λ fs. Writes decls s fs worker key number value)
      (sym (kept_first epoch e es within)) (elim writes [
        | inl here ↦ inl here
        | inr later ↦ inr (writes_by decls (state_after decls s e) es epoch worker key number value falls.1 up later)
      ])
  | inl above ↦ absurd (elim writes [
    | inl here ↦ omega (arith, above, up, ap (λ (n : Number). n.epoch) here.numbered)
    | inr later ↦
        let f = writes_all (λ f. e.number.epoch ≤ f.number.epoch) decls (state_after decls s e) es worker key number
        value (precedes_all (λ e f. e.number.epoch ≤ f.number.epoch) e es falls.0) later in
        omega (arith, above, up, f.1, ap (λ (n : Number). n.epoch) f.3)
  ])
]

-- ---- what the logs have

-- a log entry by its parts
abbrev pub entry_at : Key → Number → Option ℕ → LogEntry
entry_at key number value = record { key = key; number = number; value = value }

-- an entry of a commit is of one of its changes
in_changes : (c : Commit) (written : List Key) (t : State) (x : LogEntry) (changes : List Change)
    → AllByRecursion (Contains written) (map key_of changes) → AllByRecursion (λ c. c.value ≡ get t c.key) changes
    → Contains (map (entry_of c) changes) x
    → Contains written x.key × (x.number ≡ c.number) × (x.value ≡ get t x.key)
in_changes c written t x [] each values has = absurd (in_none x has)
in_changes c written t x (change ∷ more) each values has =
    elim (in_cases x (entry_of c change) (map (entry_of c) more) has) [
      | inr later ↦ in_changes c written t x more each.1 values.1 later
      | inl is ↦ (
        subst (Contains written) (ap (λ (y : LogEntry). y.key) is) each.0,
        sym (ap (λ (y : LogEntry). y.number) is),
        sym (ap (λ (y : LogEntry). y.value) is) ∙ values.0 ∙ ap (λ (y : LogEntry). get t y.key) is,
      )
    ]

-- and a key that was changed has an entry
changed_in : (c : Commit) (t : State) (key : Key) (changes : List Change)
    → AllByRecursion (λ c. c.value ≡ get t c.key) changes → Contains (map key_of changes) key
    → Contains (map (entry_of c) changes) (entry_at key c.number (get t key))
changed_in c t key [] values has = absurd (in_none key has)
changed_in c t key (change ∷ more) values has = elim (in_cases key (key_of change) (map key_of more) has) [
  | inr later ↦ in_tail (entry_at key c.number (get t key)) (entry_of c change) (map (entry_of c) more)
      (changed_in c t key more values.1 later)
  | inl is ↦
      let same : entry_of c change ≡ entry_at key c.number (get t key) =
      ap (λ k. entry_at k c.number change.value) is
      ∙ ap (λ v. entry_at key c.number v) (values.0 ∙ ap (get t) is) in
      subst (λ y. Contains (map (entry_of c) (change ∷ more)) y) same
      (in_head (entry_of c change) (map (entry_of c) more))
]

-- a number is itself by the test
same_worker : (a b : ℕ) → (a == b) ≡ true → a ≡ b
same_worker a b is = grind (arith, nat_tests)

is_worker : (a b : ℕ) → a ≡ b → (a == b) ≡ true
is_worker a b is = grind (arith, nat_tests)

-- what the log of a worker has the run wrote
pub logged_writes : (decls : List Decl) (worker : ℕ) (s : State) (es : List Entry) (commits : List Commit)
    → AreLogged decls worker s es commits → (x : LogEntry) → Contains (flat_map entries_of commits) x
    → Writes decls s es worker x.key x.number x.value
logged_writes decls worker s [] commits logged x has =
    absurd (in_none x (subst (λ cs. Contains (flat_map entries_of cs) x) logged has))
logged_writes decls worker s (e ∷ es) commits logged x has =
    by_first logged.0 logged.3 (subst (λ cs. Contains (flat_map entries_of cs) x) logged.2 has)
    (λ has. logged_writes decls worker (state_after decls s e) es logged.1 logged.4 x has)
  where
    by_first : (first : Option Commit)
        → MatchBool (e.worker == worker) (IsLogged decls s e.ops e.number first) (first ≡ None)
        → Contains (flat_map entries_of (option_to_list first ++ logged.1)) x
        → (Contains (flat_map entries_of logged.1) x
        → Writes decls (state_after decls s e) es worker x.key x.number x.value)
        → Writes decls s (e ∷ es) worker x.key x.number x.value
    by_first None is has later = inr (later has)
    by_first (Some c) is has later =
        elim (Contains-append_cases (entries_of c) (flat_map entries_of logged.1) x has) [
          | inr more ↦ inr (later more)
          | inl here ↦ elim (cases_Bool (e.worker == worker)) [
            | inr other ↦
                let none : ◌≡◌ {A = Option Commit} (Some c) None = subst (λ b. MatchBool b
                (IsLogged decls s e.ops e.number (Some c)) (◌≡◌ {A = Option Commit} (Some c) None)) other is in
                absurd (cc)
            | inl mine ↦
                let line : IsLogged decls s e.ops e.number (Some c) = subst (λ b. MatchBool b
                (IsLogged decls s e.ops e.number (Some c)) (◌≡◌ {A = Option Commit} (Some c) None)) mine is in
                let parts = in_changes c (write_set decls s e.ops) (state_after decls s e) x c.changes
                line.2.keys.each line.2.values here in
                inl (record {
                  by = same_worker e.worker worker mine;
                  numbered = sym (parts.1 ∙ line.1);
                  written = parts.0;
                  leaves = parts.2;
                })
          ]
        ]

-- and what the run wrote the log of its worker has
pub writes_logged : (decls : List Decl) (worker : ℕ) (s : State) (es : List Entry) (commits : List Commit)
    (key : Key) (number : Number) (value : Option ℕ) → AreLogged decls worker s es commits
    → Writes decls s es worker key number value → Contains (flat_map entries_of commits) (entry_at key number value)
writes_logged decls worker s [] commits key number value logged writes = absurd writes
writes_logged decls worker s (e ∷ es) commits key number value logged (inr later) =
    subst (λ cs. Contains (flat_map entries_of cs) (entry_at key number value)) (sym logged.2)
    (behind logged.0 (writes_logged decls worker (state_after decls s e) es logged.1 key number value logged.4 later))
  where
    behind : (first : Option Commit) → Contains (flat_map entries_of logged.1) (entry_at key number value)
        → Contains (flat_map entries_of (option_to_list first ++ logged.1)) (entry_at key number value)
    behind None has = has
    behind (Some c) has =
        Contains-append_right (entries_of c) (flat_map entries_of logged.1) (entry_at key number value) has
writes_logged decls worker s (e ∷ es) commits key number value logged (inl here) =
    subst (λ cs. Contains (flat_map entries_of cs) (entry_at key number value)) (sym logged.2)
    (by_first logged.0 (subst (λ b. MatchBool b (IsLogged decls s e.ops e.number logged.0)
    (◌≡◌ {A = Option Commit} logged.0 None)) (is_worker e.worker worker here.by) logged.3))
  where
    by_first : (first : Option Commit) → IsLogged decls s e.ops e.number first
        → Contains (flat_map entries_of (option_to_list first ++ logged.1)) (entry_at key number value)
    by_first None none = absurd (in_none key (subst (λ ks. Contains ks key) none here.written))
    by_first (Some c) line =
        let has = changed_in c (state_after decls s e) key c.changes line.2.values
        (line.2.keys.all key here.written) in
        let same : entry_at key c.number (get (state_after decls s e) key) ≡ entry_at key number value =
        ap (λ n. entry_at key n (get (state_after decls s e) key)) (line.1 ∙ here.numbered)
        ∙ ap (λ v. entry_at key number v) (sym here.leaves) in
        Contains-append_left (entries_of c) (flat_map entries_of logged.1) (entry_at key number value)
        (subst (λ y. Contains (entries_of c) y) same has)

-- what a log has of a run, and then of one that goes on from there
pub logged_then : (decls : List Decl) (worker : ℕ) (s : State) (es fs : List Entry) (commits more : List Commit)
    → AreLogged decls worker s es commits → AreLogged decls worker (state_after_all decls s es) fs more
    → AreLogged decls worker s (es ++ fs) (commits ++ more)
logged_then decls worker s [] fs commits more first then =
    subst (λ cs. AreLogged decls worker s fs (cs ++ more)) (sym first) then
logged_then decls worker s (e ∷ es) fs commits more first then = (
  first.0,
  first.1 ++ more,
  ap (λ cs. cs ++ more) first.2 ∙ behind first.0,
  first.3,
  logged_then decls worker (state_after decls s e) es fs first.1 more first.4 then,
)
  where
    behind : (one : Option Commit) → option_to_list one ++ first.1 ++ more ≡ option_to_list one ++ (first.1 ++ more)
    behind None = refl
    behind (Some c) = refl
