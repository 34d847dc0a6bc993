-- The log lines of eight workers, of which a savepoint counts so much: what they are in the log files.
use Rattle.std.proofs.Common.{◌≡◌, ◌∙◌, ◌⊎◌, ◌≤◌, ◌<◌, ◌+◌, ◌*◌, sym, ap, subst, refl, inl, inr, ℕ, zero, suc, arith}
use Rattle.std.proofs.Common.{List, [], ◌∷◌, ◌++◌, Option, Some, None, length, take, drop, get_or}
use Rattle.std.specs.Prelude.{◌==◌, MatchBool, flat_map, map, option_to_list}
use Rattle.std.specs.List.{AllByRecursion, Contains}
use Rattle.std.proofs.lemmas.Bool.{cases_Bool, cases_eq}
use Rattle.std.proofs.lemmas.List.{take-take}
use Rattle.std.proofs.lemmas.List.Elements.{Contains-append_cases, Contains-append_left, Contains-append_right}
use Rattle.lists.specs.Each.{all_take}
use Rattle.lists.specs.Elements.{in_cases, in_none}
use Rattle.lists.specs.Fronts.{IsFront, front_length}
use Rattle.serial_model.specs.History.{Entry, Rises, state_after}
use Rattle.serial_model.specs.Numbers.{IsBelow}
use Rattle.serial_model.specs.State.{State}
use Rattle.serial_model.specs.declared.decl.Decl.{Decl}
use Rattle.serial_model.specs.declared.number.Change.{Change}
use Rattle.serial_model.specs.declared.number.Commit.{Commit}
use Rattle.serial_model.specs.declared.number.Number.{Number}
use Rattle.log_mapper.specs.Mapped.{entries_of, entry_of}
use Rattle.wire_form.specs.Items.{IsFollowed, RisesAfter}
use Rattle.wire_form.specs.LogFile.{IsLineOf, commit_number, lines_bytes}
use Rattle.wire_form.specs.declared.bucket.Entry.{Entry as LogEntry}
use Rattle.recovery_core.specs.LogEntries.{IsCountedFile, logged}
use Rattle.joint_crashes.specs.Marks.{IsAbove}
use Rattle.worker_logs.specs.Changes.{IsLogged}
use Rattle.round_engine.specs.Changes.{AreLogged}
use Rattle.program_calls.proofs.KeptWrites.{precedes_all}

-- ---- lines that are counted

-- what is in front of lines, and what isn't
pub take_entries : (n : ℕ) (commits : List Commit) (x : LogEntry)
    → Contains (flat_map entries_of (take n commits)) x → Contains (flat_map entries_of commits) x
take_entries zero commits x has = absurd (in_none x has)
take_entries (suc n) [] x has = has
take_entries (suc n) (c ∷ cs) x has =
    elim (Contains-append_cases (entries_of c) (flat_map entries_of (take n cs)) x has) [
      | inl here ↦ Contains-append_left (entries_of c) (flat_map entries_of cs) x here
      | inr later ↦ Contains-append_right (entries_of c) (flat_map entries_of cs) x (take_entries n cs x later)
    ]

pub split_entries : (n : ℕ) (commits : List Commit) (x : LogEntry) → Contains (flat_map entries_of commits) x
    → Contains (flat_map entries_of (take n commits)) x ⊎ Contains (flat_map entries_of (drop n commits)) x
split_entries zero commits x has = inr has
split_entries (suc n) [] x has = inl has
split_entries (suc n) (c ∷ cs) x has =
    elim (Contains-append_cases (entries_of c) (flat_map entries_of cs) x has) [
      | inl here ↦ inl (Contains-append_left (entries_of c) (flat_map entries_of (take n cs)) x here)
      | inr later ↦ elim (split_entries n cs x later) [
        | inl front ↦ inl (Contains-append_right (entries_of c) (flat_map entries_of (take n cs)) x front)
        | inr behind ↦ inr behind
      ]
    ]

pub entry_number : (c : Commit) (x : LogEntry) (changes : List Change) → Contains (map (entry_of c) changes) x
    → x.number ≡ c.number
entry_number c x [] has = absurd (in_none x has)
entry_number c x (change ∷ more) has = elim (in_cases x (entry_of c change) (map (entry_of c) more) has) [
  | inl is ↦ sym (ap (λ (y : LogEntry). y.number) is)
  | inr later ↦ entry_number c x more later
]

-- entries of later commits are later
pub above_entries : (epoch : ℕ) (commits : List Commit) (x : LogEntry) → AllByRecursion (IsAbove epoch) commits
    → Contains (flat_map entries_of commits) x → epoch < x.number.epoch
above_entries epoch [] x above has = absurd (in_none x has)
above_entries epoch (c ∷ cs) x above has =
    elim (Contains-append_cases (entries_of c) (flat_map entries_of cs) x has) [
      | inl here ↦ omega (arith, above.0, ap (λ (n : Number). n.epoch) (entry_number c x c.changes here))
      | inr later ↦ above_entries epoch cs x above.1 later
    ]

-- ---- numbers of log lines

no_order : (es : List Entry) → AllByRecursion (λ e. IsFollowed IsBelow None e.number) es
no_order [] = tt
no_order (e ∷ es) = (tt, no_order es)

-- The numbers of what a worker's log has of a run whose numbers rise, rise.
rises_after : (decls : List Decl) (worker : ℕ) (s : State) (es : List Entry) (commits : List Commit)
    (last : Option Number) → AllByRecursion (λ e. IsFollowed IsBelow last e.number) es → Rises es
    → AreLogged decls worker s es commits → RisesAfter IsBelow last (map commit_number commits)
rises_after decls worker s [] commits last after rises logged =
    subst (λ cs. RisesAfter IsBelow last (map commit_number cs)) (sym logged) tt
rises_after decls worker s (e ∷ es) commits last after rises logged =
    subst (λ cs. RisesAfter IsBelow last (map commit_number cs)) (sym logged.2) (by_first logged.0 logged.3
    (rises_after decls worker (state_after decls s e) es logged.1 last after.1 rises.1 logged.4)
    (rises_after decls worker (state_after decls s e) es logged.1 (Some e.number)
    (precedes_all (λ e f. IsBelow e.number f.number) e es rises.0) rises.1 logged.4))
  where
    by_first : (first : Option Commit)
        → MatchBool (e.worker == worker) (IsLogged decls s e.ops e.number first) (first ≡ None)
        → RisesAfter IsBelow last (map commit_number logged.1)
        → RisesAfter IsBelow (Some e.number) (map commit_number logged.1)
        → RisesAfter IsBelow last (map commit_number (option_to_list first ++ logged.1))
    by_first None is on behind = on
    by_first (Some c) is on behind = elim (cases_Bool (e.worker == worker)) [
      | inr other ↦
          let none : ◌≡◌ {A = Option Commit} (Some c) None = subst (λ b. MatchBool b
          (IsLogged decls s e.ops e.number (Some c)) (◌≡◌ {A = Option Commit} (Some c) None)) other is in
          absurd (cc)
      | inl mine ↦
          let line : IsLogged decls s e.ops e.number (Some c) = subst (λ b. MatchBool b
          (IsLogged decls s e.ops e.number (Some c)) (◌≡◌ {A = Option Commit} (Some c) None)) mine is in (
            subst (λ n. IsFollowed IsBelow last n) (sym line.1) after.0,
            subst (λ n. RisesAfter IsBelow (Some n) (map commit_number logged.1)) (sym line.1) behind,
          )
    ]

pub numbers_rise : (decls : List Decl) (worker : ℕ) (s : State) (es : List Entry) (commits : List Commit) → Rises es
    → AreLogged decls worker s es commits → RisesAfter IsBelow None (map commit_number commits)
numbers_rise decls worker s es commits rises logged =
    rises_after decls worker s es commits None (no_order es) rises logged

rise_front : (n : ℕ) (last : Option Number) (commits : List Commit)
    → RisesAfter IsBelow last (map commit_number commits) → RisesAfter IsBelow last (map commit_number (take n commits))
rise_front zero last commits rise = tt
rise_front (suc n) last [] rise = tt
rise_front (suc n) last (c ∷ cs) rise = (rise.0, rise_front n (Some c.number) cs rise.1)

-- ---- a log file

pub front_takes : (n : ℕ) (front list : List ℕ) → IsFront front list → n ≤ length front → take n list ≡ take n front
front_takes n front list is within = sym (take-take n (length front) list within) ∙ ap (take n) is

-- A log file that begins with durable bytes, which commits' lines begin with too: the first so many of them are lines.
pub counted_file : (decls : List Decl) (commits : List Commit) (durable file : List ℕ) (front size : ℕ)
    → AllByRecursion (IsLineOf decls) commits → RisesAfter IsBelow None (map commit_number commits)
    → IsFront durable (lines_bytes commits) → IsFront durable file → size ≤ length durable
    → lines_bytes (take front commits) ≡ take size (lines_bytes commits)
    → IsCountedFile decls size file (take front commits)
counted_file decls commits durable file front size lines rise begins reads within counted = record {
  there = omega (arith, within, front_length durable file reads);
  lines_are = record {
    each = all_take (IsLineOf decls) front commits lines;
    rising = rise_front front None commits rise;
    spelled = front_takes size durable file reads within
        ∙ sym (front_takes size durable (lines_bytes commits) begins within) ∙ sym counted;
  };
}

-- a log file of which nothing is counted
pub nothing_counted : (decls : List Decl) (file : List ℕ) → IsCountedFile decls 0 file []
nothing_counted decls file =
    record { there = omega arith; lines_are = record { each = tt; rising = tt; spelled = refl } }

-- ---- all log files, in turn

-- each worker's two log files
abbrev pub in_turn : (even odd : ℕ → List Commit) → ℕ → ℕ → List (List Commit)
in_turn even odd w zero = []
in_turn even odd w (suc n) = even w ∷ odd w ∷ in_turn even odd (w + 1) n

even_at : (even odd : ℕ → List Commit) (w n v : ℕ) → v < n
    → get_or (in_turn even odd w n) (2 * v) [] ≡ even (w + v)
even_at even odd w zero v below = absurd (omega (arith, below))
even_at even odd w (suc n) zero below = let same : w ≡ w + 0 = omega arith in ap even same
even_at even odd w (suc n) (suc v) below =
    let next : 2 * suc v ≡ suc (suc (2 * v)) = omega arith in
    let same : w + 1 + v ≡ w + suc v = omega arith in
    subst (λ k. get_or (in_turn even odd w (suc n)) k [] ≡ even (w + suc v)) (sym next)
    (even_at even odd (w + 1) n v (omega (arith, below)) ∙ ap even same)

odd_at : (even odd : ℕ → List Commit) (w n v : ℕ) → v < n
    → get_or (in_turn even odd w n) (2 * v + 1) [] ≡ odd (w + v)
odd_at even odd w zero v below = absurd (omega (arith, below))
odd_at even odd w (suc n) zero below = let same : w ≡ w + 0 = omega arith in ap odd same
odd_at even odd w (suc n) (suc v) below =
    let next : 2 * suc v + 1 ≡ suc (suc (2 * v + 1)) = omega arith in
    let same : w + 1 + v ≡ w + suc v = omega arith in
    subst (λ k. get_or (in_turn even odd w (suc n)) k [] ≡ odd (w + suc v)) (sym next)
    (odd_at even odd (w + 1) n v (omega (arith, below)) ∙ ap odd same)

-- a number is twice another, or one more
pub halves : (n : ℕ) → ((w : ℕ) × (n ≡ 2 * w)) ⊎ ((w : ℕ) × (n ≡ 2 * w + 1))
halves zero = inl (0, omega arith)
halves (suc zero) = inr (0, omega arith)
halves (suc (suc n)) = elim (halves n) [
  | inl even ↦ inl (even.0 + 1, let is = even.1 in omega arith)
  | inr odd ↦ inr (odd.0 + 1, let is = odd.1 in omega arith)
]

-- what holds of each worker's two log files holds of all sixteen
pub each_file : (P : ℕ → List Commit → Type 0) (even odd : ℕ → List Commit)
    → ((w : ℕ) → w < 8 → P (2 * w) (even w)) → ((w : ℕ) → w < 8 → P (2 * w + 1) (odd w))
    → (n : ℕ) → n < 16 → P n (get_or (in_turn even odd 0 8) n [])
each_file P evens odds of_even of_odd n below = elim (halves n) [
  | inl even ↦
      let is = even.1 in
      let less : even.0 < 8 = omega (arith, is, below) in
      let same : 0 + even.0 ≡ even.0 = omega arith in
      subst (λ k. P k (get_or (in_turn evens odds 0 8) k [])) (sym is)
      (subst (P (2 * even.0)) (sym (even_at evens odds 0 8 even.0 less ∙ ap evens same)) (of_even even.0 less))
  | inr odd ↦
      let is = odd.1 in
      let less : odd.0 < 8 = omega (arith, is, below) in
      let same : 0 + odd.0 ≡ odd.0 = omega arith in
      subst (λ k. P k (get_or (in_turn evens odds 0 8) k [])) (sym is)
      (subst (P (2 * odd.0 + 1)) (sym (odd_at evens odds 0 8 odd.0 less ∙ ap odds same)) (of_odd odd.0 less))
]

-- an entry of all log files is in one of a worker's
pub in_lines : (even odd : ℕ → List Commit) (w n : ℕ) (x : LogEntry) → Contains (logged (in_turn even odd w n)) x
    → (v : ℕ) × (w ≤ v) × (v < w + n)
    × (Contains (flat_map entries_of (even v)) x ⊎ Contains (flat_map entries_of (odd v)) x)
in_lines even odd w zero x has = absurd (in_none x has)
in_lines even odd w (suc n) x has =
    elim (Contains-append_cases (flat_map entries_of (even w))
    (flat_map entries_of (odd w) ++ logged (in_turn even odd (w + 1) n)) x has) [
      | inl here ↦ (w, omega arith, omega arith, inl here)
      | inr more ↦ elim (Contains-append_cases (flat_map entries_of (odd w)) (logged (in_turn even odd (w + 1) n)) x
          more) [
            | inl here ↦ (w, omega arith, omega arith, inr here)
            | inr later ↦
                let rest = in_lines even odd (w + 1) n x later in
                (rest.0, omega (arith, rest.1), omega (arith, rest.2), rest.3)
          ]
    ]

pub lines_in : (even odd : ℕ → List Commit) (w n v : ℕ) (x : LogEntry) → w ≤ v → v < w + n
    → Contains (flat_map entries_of (even v)) x ⊎ Contains (flat_map entries_of (odd v)) x
    → Contains (logged (in_turn even odd w n)) x
lines_in even odd w zero v x from below has = absurd (omega (arith, from, below))
lines_in even odd w (suc n) v x from below has = elim (cases_eq v w) [
  | inl same ↦ elim has [
    | inl first ↦ Contains-append_left (flat_map entries_of (even w))
        (flat_map entries_of (odd w) ++ logged (in_turn even odd (w + 1) n)) x
        (subst (λ u. Contains (flat_map entries_of (even u)) x) same first)
    | inr second ↦ Contains-append_right (flat_map entries_of (even w))
        (flat_map entries_of (odd w) ++ logged (in_turn even odd (w + 1) n)) x
        (Contains-append_left (flat_map entries_of (odd w)) (logged (in_turn even odd (w + 1) n)) x
        (subst (λ u. Contains (flat_map entries_of (odd u)) x) same second))
  ]
  | inr other ↦ Contains-append_right (flat_map entries_of (even w))
      (flat_map entries_of (odd w) ++ logged (in_turn even odd (w + 1) n)) x
      (Contains-append_right (flat_map entries_of (odd w)) (logged (in_turn even odd (w + 1) n)) x
      (lines_in even odd (w + 1) n v x (omega (arith, from, other)) (omega (arith, below)) has))
]
