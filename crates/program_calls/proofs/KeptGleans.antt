-- What a glean makes of the newest snapshot: the state as of the epoch at which the log files were closed.
use Rattle.std.proofs.Common.{◌≡◌, ◌↔◌, ◌∙◌, ◌≤◌, ◌<◌, sym, ap, subst, refl, inl, inr, ℕ, Bool, true, false, arith}
use Rattle.std.proofs.Common.{List, [], ◌∷◌, Option, Some, None, cond}
use Rattle.std.specs.Prelude.{filter, flat_map, map}
use Rattle.std.specs.FinMap.{get}
use Rattle.std.specs.List.{AllByRecursion, Contains}
use Rattle.std.proofs.lemmas.Bool.Decides.{nat_tests}
use Rattle.serial_model.specs.History.{Entry, EpochsNeverFall, Rises, as_of}
use Rattle.serial_model.specs.Numbers.{IsBelow}
use Rattle.serial_model.specs.State.{State}
use Rattle.serial_model.specs.declared.decl.Decl.{Decl}
use Rattle.serial_model.specs.declared.key.Key.{Key}
use Rattle.serial_model.specs.declared.number.Commit.{Commit}
use Rattle.serial_model.specs.declared.number.Number.{Number}
use Rattle.log_mapper.specs.Mapped.{entries_of}
use Rattle.log_reducer.specs.Overlay.{overlay}
use Rattle.log_reducer.specs.Reduced.{AreLast, IsNoLater, logged_as}
use Rattle.log_reducer.specs.declared.latest.Logged.{Logged}
use Rattle.root_composer.specs.Storages.{change_for}
use Rattle.wire_form.specs.declared.bucket.Entry.{Entry as LogEntry}
use Rattle.recovery_core.specs.Recoverable.{value_over}
use Rattle.checkpoints.specs.Overlays.{change_none, change_some, get-overlay}
use Rattle.gleaner.specs.Glean.{bank_of}
use Rattle.program_calls.proofs.KeptLogged.{LoggedIn, entries_all, gone_written, where_written}
use Rattle.program_calls.proofs.KeptMapped.{IsGone, gone_in, gone_logged, in_gone, in_map, map_in}
use Rattle.program_calls.proofs.KeptValues.{value_of_last, value_of_none}
use Rattle.program_calls.proofs.KeptWrites.{Writes, by_writes, entry_at, is_by, writes_all, writes_by}

-- an entry that is no later isn't below
no_later : (a b : Number) → IsBelow a b → IsBelow b a → ⊥
no_later a b up down = grind (arith, nat_tests)

not_itself : (a b : Number) → a ≡ b → IsBelow b a → ⊥
not_itself a b same below = not_below (subst (λ (n : Number). IsBelow b n) same below)
  where
    not_below : IsBelow b b → ⊥
    not_below is = grind (arith, nat_tests)

-- what those up to an epoch have is up to it
all_up_to : (epoch : ℕ) (es : List Entry) → AllByRecursion (λ e. e.number.epoch ≤ epoch) (filter (is_by epoch) es)
all_up_to epoch [] = tt
all_up_to epoch (e ∷ es) = elim (is_by epoch e) as (λ b. is_by epoch e ≡ b
    → AllByRecursion (λ e. e.number.epoch ≤ epoch) (cond b (e ∷ filter (is_by epoch) es) (filter (is_by epoch) es))) [
      | true ↦ λ is. (within is, all_up_to epoch es)
      | false ↦ λ is. all_up_to epoch es
    ] refl
  where
    within : is_by epoch e ≡ true → e.number.epoch ≤ epoch
    within is = grind (arith, nat_tests)

module _ {decls : List Decl} {s : State} {ordered : List Entry} {since closed_at : ℕ}
    {older gone commits : ℕ → List Commit} (it : LoggedIn decls s ordered since closed_at older gone commits)
    (rises : Rises ordered) (falls : EpochsNeverFall ordered) (odd : Bool) (run : List LogEntry)
    (last : AreLast (gone_logged odd gone) run) (early : ℕ) (le : early ≤ closed_at)
    (before : (w : ℕ) → w < 8 → AllByRecursion (λ c. c.number.epoch ≤ early) (older w))
    (behind : (w : ℕ) → w < 8 → AllByRecursion (λ c. early < c.number.epoch) (gone w)) where
  -- the entries without their files
  abbrev plain : List LogEntry
  plain = map (λ (l : Logged). l.entry) (gone_logged odd gone)

  of_plain : (x : LogEntry) → Contains plain x → (w : ℕ) × (w < 8) × Contains (flat_map entries_of (gone w)) x
  of_plain x has =
      let l = in_map (λ (l : Logged). l.entry) (gone_logged odd gone) x has in
      let is = in_gone odd gone l.0 l.1 in
      let same : is.entry ≡ x = ap (λ (l : Logged). l.entry) is.is ∙ l.2 in
      (is.worker, is.below, subst (Contains (flat_map entries_of (gone is.worker))) same is.has)

  in_plain : (w : ℕ) (x : LogEntry) → w < 8 → Contains (flat_map entries_of (gone w)) x → Contains plain x
  in_plain w x below has =
      map_in (λ (l : Logged). l.entry) (gone_logged odd gone) (logged_as (bank_of odd w) x)
      (gone_in odd gone (logged_as (bank_of odd w) x)
      (record { worker = w; below = below; entry = x; has = has; is = refl }))

  sound : (x : LogEntry) → Contains plain x
      → (worker : ℕ) × Writes decls s (filter (is_by closed_at) ordered) worker x.key x.number x.value
  sound x has =
      let at = of_plain x has in (
        at.0,
        writes_by decls s ordered closed_at at.0 x.key x.number x.value falls
            (entries_all (λ n. n.epoch ≤ closed_at) (gone at.0) x (it.gone_by at.0 at.1) at.2)
            (gone_written it at.0 x at.1 at.2),
      )

  above : (x : LogEntry) → Contains plain x → early < x.number.epoch
  above x has =
      let at = of_plain x has in
      entries_all (λ n. early < n.epoch) (gone at.0) x (behind at.0 at.1) at.2

  complete : (key : Key) (worker : ℕ) (number : Number) (value : Option ℕ)
      → Writes decls s (filter (is_by closed_at) ordered) worker key number value → early < number.epoch
      → Contains plain (entry_at key number value)
  complete key worker number value writes past =
      let x : LogEntry = entry_at key number value in
      let wrote = by_writes decls s ordered closed_at worker key number value falls writes in
      let up = writes_all (λ e. e.number.epoch ≤ closed_at) decls s (filter (is_by closed_at) ordered) worker key
      number value (all_up_to closed_at ordered) writes in
      let within : number.epoch ≤ closed_at = omega (arith, up.1, ap (λ (n : Number). n.epoch) up.3) in
      let there = where_written it worker key number value wrote in
      elim there.1 [
        | inl old ↦ absurd (omega (
          arith,
          past,
          entries_all (λ n. n.epoch ≤ early) (older worker) x (before worker there.0) old,
        ))
        | inr more ↦ elim more [
          | inl own ↦ in_plain worker x there.0 own
          | inr later ↦ absurd (omega (
            arith,
            within,
            entries_all (λ n. closed_at < n.epoch) (commits worker) x (it.here_from worker there.0) later,
          ))
        ]
      ]

  -- The newest snapshot's state under the last entries is the state as of the epoch at which they were closed.
  pub gleaned_value : (key : Key) → get (overlay (as_of decls s ordered early) run) key
      ≡ get (as_of decls s ordered closed_at) key
  gleaned_value key = get-overlay (as_of decls s ordered early) run key ∙ by_change (change_for run key) refl
    where
      by_change : (o : Option LogEntry) → change_for run key ≡ o
          → value_over o (get (as_of decls s ordered early) key) ≡ get (as_of decls s ordered closed_at) key
      by_change None none = value_of_none decls s ordered early closed_at le falls rises plain key sound above
          (complete key) (λ y has own.
          let l = in_map (λ (l : Logged). l.entry) (gone_logged odd gone) y has in
          let r = last.each l.0 l.1 in
          change_none run key r.0 none r.1 (r.2 ∙ ap (λ (e : LogEntry). e.key) l.2 ∙ own))
      by_change (Some r) some =
          let at = change_some run key r some in
          let f = last.latest r at.0 in
          let has : Contains plain r = subst (Contains plain) f.2
          (map_in (λ (l : Logged). l.entry) (gone_logged odd gone) f.0 f.1) in
          value_of_last decls s ordered early closed_at le falls rises plain key sound above (complete key) r has at.1
          (λ y there own below.
          let l = in_map (λ (l : Logged). l.entry) (gone_logged odd gone) y there in
          let same : l.0.entry.key ≡ r.key = ap (λ (e : LogEntry). e.key) l.2 ∙ own ∙ sym at.1 in
          let down : IsBelow f.0.entry.number l.0.entry.number =
          subst (λ (e : LogEntry). IsBelow e.number l.0.entry.number) (sym f.2)
          (subst (λ (e : LogEntry). IsBelow r.number e.number) (sym l.2) below) in
          elim (f.3 l.0 l.1 same) [
            | inl up ↦ no_later l.0.entry.number f.0.entry.number up down
            | inr equal ↦ not_itself l.0.entry.number f.0.entry.number equal.0 down
          ])
