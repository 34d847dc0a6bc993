-- What the workers logged of a run, in parts: what was logged before the closed log files, what these have, and what the
-- growing ones have.
use Rattle.std.proofs.Common.{◌≡◌, ◌⊎◌, ◌∙◌, ◌≤◌, ◌<◌, sym, ap, subst, refl, inl, inr, ℕ, arith, List, [], ◌∷◌, ◌++◌}
use Rattle.std.proofs.Common.{Option, append_assoc}
use Rattle.std.specs.Prelude.{flat_map, map}
use Rattle.std.specs.List.{AllByRecursion, Contains}
use Rattle.std.proofs.lemmas.Grind.{flat_map-append}
use Rattle.std.proofs.lemmas.List.{append-nil}
use Rattle.std.proofs.lemmas.List.Elements.{Contains-append_cases, Contains-append_left, Contains-append_right}
use Rattle.lists.specs.Each.{all_append, all_weaker}
use Rattle.lists.specs.Elements.{in_cases, in_none}
use Rattle.serial_model.specs.History.{Entry, state_after_all}
use Rattle.serial_model.specs.State.{State}
use Rattle.serial_model.specs.declared.decl.Decl.{Decl}
use Rattle.serial_model.specs.declared.key.Key.{Key}
use Rattle.serial_model.specs.declared.number.Change.{Change}
use Rattle.serial_model.specs.declared.number.Commit.{Commit}
use Rattle.serial_model.specs.declared.number.Number.{Number}
use Rattle.log_mapper.specs.Mapped.{entries_of, entry_of}
use Rattle.wire_form.specs.LogFile.{IsLineOf}
use Rattle.wire_form.specs.declared.bucket.Entry.{Entry as LogEntry}
use Rattle.round_engine.specs.Changes.{AreLogged}
use Rattle.program_calls.proofs.KeptLines.{entry_number}
use Rattle.program_calls.proofs.KeptWrites.{Writes, entry_at, logged_then, logged_writes, writes_all, writes_logged}

-- Each worker's log has these of the run: those of epochs up to one, which no log file needs; those up to another, which
-- its closed log file has; and the later ones.
pub record LoggedIn (decls : List Decl) (s : State) (ordered : List Entry) (since closed_at : ℕ)
    (older gone commits : ℕ → List Commit) : Type 0 where
  pub is_logged : (w : ℕ) → w < 8 → AreLogged decls w s ordered (older w ++ (gone w ++ commits w))
  pub lines_gone : (w : ℕ) → w < 8 → AllByRecursion (IsLineOf decls) (gone w)
  pub lines_here : (w : ℕ) → w < 8 → AllByRecursion (IsLineOf decls) (commits w)
  pub older_by : (w : ℕ) → w < 8 → AllByRecursion (λ c. c.number.epoch ≤ since) (older w)
  pub gone_from : (w : ℕ) → w < 8 → AllByRecursion (λ c. since < c.number.epoch) (gone w)
  pub gone_by : (w : ℕ) → w < 8 → AllByRecursion (λ c. c.number.epoch ≤ closed_at) (gone w)
  pub here_from : (w : ℕ) → w < 8 → AllByRecursion (λ c. closed_at < c.number.epoch) (commits w)
  pub workers : AllByRecursion (λ e. e.worker < 8) ordered
  pub since_by : since ≤ closed_at

-- what holds of all commits' numbers holds of their entries'
pub entries_all : (P : Number → Type 0) (commits : List Commit) (x : LogEntry)
    → AllByRecursion (λ c. P c.number) commits → Contains (flat_map entries_of commits) x → P x.number
entries_all P [] x all has = absurd (in_none x has)
entries_all P (c ∷ cs) x all has =
    elim (Contains-append_cases (entries_of c) (flat_map entries_of cs) x has) [
      | inl here ↦ subst P (sym (entry_number c x c.changes here)) all.0
      | inr later ↦ entries_all P cs x all.1 later
    ]

in_front : (a b : List Commit) (x : LogEntry) → Contains (flat_map entries_of a) x
    → Contains (flat_map entries_of (a ++ b)) x
in_front a b x has = subst (λ l. Contains l x) (sym (flat_map-append entries_of a b))
    (Contains-append_left (flat_map entries_of a) (flat_map entries_of b) x has)

in_back : (a b : List Commit) (x : LogEntry) → Contains (flat_map entries_of b) x
    → Contains (flat_map entries_of (a ++ b)) x
in_back a b x has = subst (λ l. Contains l x) (sym (flat_map-append entries_of a b))
    (Contains-append_right (flat_map entries_of a) (flat_map entries_of b) x has)

in_either : (a b : List Commit) (x : LogEntry) → Contains (flat_map entries_of (a ++ b)) x
    → Contains (flat_map entries_of a) x ⊎ Contains (flat_map entries_of b) x
in_either a b x has = Contains-append_cases (flat_map entries_of a) (flat_map entries_of b) x
    (subst (λ l. Contains l x) (flat_map-append entries_of a b) has)

module _ {decls : List Decl} {s : State} {ordered : List Entry} {since closed_at : ℕ}
    {older gone commits : ℕ → List Commit} (it : LoggedIn decls s ordered since closed_at older gone commits) where
  -- what these have the run wrote
  pub gone_written : (w : ℕ) (x : LogEntry) → w < 8 → Contains (flat_map entries_of (gone w)) x
      → Writes decls s ordered w x.key x.number x.value
  gone_written w x below has = logged_writes decls w s ordered (older w ++ (gone w ++ commits w))
      (it.is_logged w below) x
      (in_back (older w) (gone w ++ commits w) x (in_front (gone w) (commits w) x has))

  pub here_written : (w : ℕ) (x : LogEntry) → w < 8 → Contains (flat_map entries_of (commits w)) x
      → Writes decls s ordered w x.key x.number x.value
  here_written w x below has = logged_writes decls w s ordered (older w ++ (gone w ++ commits w))
      (it.is_logged w below) x
      (in_back (older w) (gone w ++ commits w) x (in_back (gone w) (commits w) x has))

  -- and what it wrote is in one of the parts
  pub where_written : (worker : ℕ) (key : Key) (number : Number) (value : Option ℕ)
      → Writes decls s ordered worker key number value → (worker < 8)
      × (Contains (flat_map entries_of (older worker)) (entry_at key number value)
      ⊎ (Contains (flat_map entries_of (gone worker)) (entry_at key number value)
      ⊎ Contains (flat_map entries_of (commits worker)) (entry_at key number value)))
  where_written worker key number value writes =
      let x : LogEntry = entry_at key number value in
      let few = writes_all (λ e. e.worker < 8) decls s ordered worker key number value it.workers writes in
      let below : worker < 8 = omega (arith, few.1, few.2) in
      let has = writes_logged decls worker s ordered (older worker ++ (gone worker ++ commits worker)) key number value
      (it.is_logged worker below) writes in (
        below,
        elim (in_either (older worker) (gone worker ++ commits worker) x has) [
          | inl early ↦ inl early
          | inr later ↦ inr (in_either (gone worker) (commits worker) x later)
        ],
      )

  -- ---- how they go on

  -- More was run, of epochs above that at which they were closed.
  pub logged_more : (ran : List Entry) (logged : ℕ → List Commit)
      → ((w : ℕ) → w < 8 → AreLogged decls w (state_after_all decls s ordered) ran (logged w))
      → ((w : ℕ) → w < 8 → AllByRecursion (IsLineOf decls) (logged w))
      → ((w : ℕ) → w < 8 → AllByRecursion (λ c. closed_at < c.number.epoch) (logged w))
      → AllByRecursion (λ e. e.worker < 8) ran
      → LoggedIn decls s (ordered ++ ran) since closed_at older gone (λ w. commits w ++ logged w)
  logged_more ran logged then lines later workers = record {
    is_logged = λ w below.
        let same : (older w ++ (gone w ++ commits w)) ++ logged w ≡ older w ++ (gone w ++ (commits w ++ logged w)) =
        append_assoc (older w) (gone w ++ commits w) (logged w)
        ∙ ap (λ l. older w ++ l) (append_assoc (gone w) (commits w) (logged w)) in
        subst (AreLogged decls w s (ordered ++ ran)) same
        (logged_then decls w s ordered ran (older w ++ (gone w ++ commits w)) (logged w) (it.is_logged w below)
        (then w below));
    lines_gone = it.lines_gone;
    lines_here = λ w below. all_append (IsLineOf decls) (commits w) (logged w) (it.lines_here w below) (lines w below);
    older_by = it.older_by;
    gone_from = it.gone_from;
    gone_by = it.gone_by;
    here_from = λ w below. all_append (λ (c : Commit). closed_at < c.number.epoch) (commits w) (logged w)
        (it.here_from w below) (later w below);
    workers = all_append (λ (e : Entry). e.worker < 8) ordered ran it.workers workers;
    since_by = it.since_by;
  }

  -- The growing ones are closed, at an epoch up to which their commits are.
  pub logged_turned : (epoch : ℕ) → closed_at ≤ epoch
      → ((w : ℕ) → w < 8 → AllByRecursion (λ c. c.number.epoch ≤ epoch) (commits w))
      → LoggedIn decls s ordered closed_at epoch (λ w. older w ++ gone w) commits (λ w. [])
  logged_turned epoch later by = record {
    is_logged = λ w below.
        subst (AreLogged decls w s ordered) (sym (append_assoc (older w) (gone w) (commits w ++ [])
        ∙ ap (λ l. older w ++ (gone w ++ l)) (append-nil (commits w)))) (it.is_logged w below);
    lines_gone = it.lines_here;
    lines_here = λ w below. tt;
    older_by = λ w below. all_append (λ (c : Commit). c.number.epoch ≤ closed_at) (older w) (gone w)
        (all_weaker (λ (c : Commit). c.number.epoch ≤ since) (λ (c : Commit). c.number.epoch ≤ closed_at)
        (λ c early. (let up = it.since_by in omega (arith, early, up))) (older w) (it.older_by w below))
        (it.gone_by w below);
    gone_from = it.here_from;
    gone_by = by;
    here_from = λ w below. tt;
    workers = it.workers;
    since_by = later;
  }
