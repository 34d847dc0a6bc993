-- What is recorded of the stores of a run: a tie for each of them.
use Rattle.std.proofs.Common.{◌≡◌, ◌∙◌, ◌≤◌, ◌+◌, inl, inr, sym, ap, subst, refl, ℕ, Bool, true, false, arith}
use Rattle.std.proofs.Common.{List, [], ◌∷◌, ◌++◌, Option, Some, None, length, length-append}
use Rattle.std.specs.Prelude.{flat_map, if◌then◌else◌, is_some, option_to_list, ◌==◌}
use Rattle.std.specs.List.{Contains, list_all}
use Rattle.std.proofs.lemmas.List.Elements.{Contains-push}
use Rattle.outside.specs.declared.device.Device.TheVariants.{Save}
use Rattle.log_writer.specs.Points.{sequence_of}
use Rattle.log_writer.specs.Records.{AddsTies, ties_then}
use Rattle.log_writer.specs.declared.records.Tie.{Tie}
use Rattle.log_writer.specs.declared.saved.Saved.{Saved}
use Rattle.log_writer.specs.declared.vault.Vault.{Vault}
use Rattle.wire_form.specs.declared.savepoint.Savepoint.{Savepoint}
use Rattle.checkpoints.specs.Settled.{stores_due}
use Rattle.recovery_core.specs.declared.recovered.Recovered.{Recovered}
use Rattle.checkpoints.specs.declared.without_entries.Settled.{Settled}
use Rattle.checkpoints.specs.SettleRecords.{SettleRecords}
use Rattle.checkpoints.specs.SettlesInto.{Follows}
use Rattle.tx_script.specs.Run.{Ran}
use Rattle.round_engine.specs.Saves.{AreTied}
use Rattle.program_calls.specs.RunKept.{RecordsOf}
use Rattle.program_calls.specs.RoundCauses.{saved_in}
use Rattle.program_calls.proofs.CrashesKept.{saved_push}

-- one store is due at most
test_most : (b : Bool) → (if b then 0 else 1) ≤ 1
test_most true = omega arith
test_most false = omega arith

due_most : (o : Option Saved) → stores_due o ≤ 1
due_most None = omega arith
due_most (Some s) = test_most (list_all (λ n. n == 0) s.lengths)

-- the stores that a settling makes lead from the one sequence to the other
due_meets : {D : Type 0} {between vault : Vault D} (r : Recovered) (s : Settled) (o : Option Saved) → Follows r s o
    → (records : SettleRecords r true between vault)
    → (sequence_of r.save.newest + records.due ≡ sequence_of s.save.newest) × (records.due ≤ 1)
due_meets r s None follows records = elim records.are_due [
  | inl plain ↦ (omega (arith, follows.sequence, plain.0), omega (arith, plain.0, due_most r.saved))
  | inr some ↦ absurd (some.1 follows.none)
]
due_meets r s (Some p) (inl stays) records = elim records.are_due [
  | inl plain ↦ (omega (arith, stays.sequence, plain.0), omega (arith, plain.0, due_most r.saved))
  | inr some ↦ absurd (some.1 stays.none)
]
due_meets r s (Some p) (inr composed) records = elim records.are_due [
  | inl plain ↦ absurd (composed.due.some plain.1)
  | inr some ↦ (omega (arith, composed.sequence, some.0), omega (arith, some.0))
]

-- as the first round begins
pub begun_records : {D : Type 0} {between vault : Vault D} (r : Recovered) (s : Settled) → Follows r s r.saved
    → SettleRecords r true between vault → between.ties.items ≡ []
    → (records : RecordsOf (sequence_of s.save.newest) [] vault.ties.items) × (records.failed ≡ 0)
begun_records {between = between} {vault = vault} r s follows settled none =
    let due = due_meets r s r.saved follows settled in
    let stores = (settled.added.whole refl).0 in
    let count : settled.added.stores ≡ settled.due + 0 + 0 = omega (arith, stores) in
    let is : RecordsOf (sequence_of s.save.newest) [] vault.ties.items = record {
      first = sequence_of r.save.newest;
      settling = settled.due;
      failed = 0;
      at_most = due.1;
      meets = due.0;
      one = omega arith;
      fails = λ is. absurd (omega (arith, is));
      ties = subst (λ l. AddsTies (sequence_of r.save.newest) (settled.due + 0 + 0) l vault.ties.items) none
          (subst (λ n. AddsTies (sequence_of r.save.newest) n between.ties.items vault.ties.items) count
          settled.added.ties);
    } in
    (is, refl)

-- a failed store is one at most
one_most : (broke : Option Saved) → length (option_to_list broke) ≤ 1
one_most None = omega arith
one_most (Some saved) = omega arith

one_there : (broke : Option Saved) → length (option_to_list broke) ≡ 1 → is_some broke ≡ true
one_there None is = absurd (omega (arith, is))
one_there (Some saved) is = refl

-- behind one round more
pub records_more : {settled : ℕ} {rans : List Ran} {before now : List Tie} (newest : Option Savepoint) (ran : Ran)
    (stored : List Saved) (broke : Option Saved) (was : RecordsOf settled rans before) → was.failed ≡ 0
    → sequence_of newest ≡ settled + length (flat_map saved_in rans) → AreTied newest stored broke before now
    → length stored ≡ length (saved_in ran) → (is_some broke ≡ true → Contains ran.beside.devices Save)
    → (records : RecordsOf settled (rans ++ ran ∷ []) now) × (broke ≡ None → records.failed ≡ 0)
records_more {settled = settled} {rans = rans} {before = before} {now = now}
    newest ran stored broke was unfailed at tied same fails =
    let begun : ℕ = was.settling + length (flat_map saved_in rans) + was.failed in
    let position : sequence_of newest ≡ was.first + begun = omega (arith, at, was.meets, unfailed) in
    let next : AddsTies (was.first + begun) (length (stored ++ option_to_list broke)) before now =
    subst (λ k. AddsTies k (length (stored ++ option_to_list broke)) before now) position tied in
    let sum : begun + length (stored ++ option_to_list broke)
    ≡ was.settling + length (flat_map saved_in (rans ++ ran ∷ [])) + length (option_to_list broke) = omega (
      arith,
      unfailed,
      same,
      length-append stored (option_to_list broke),
      ap length (saved_push rans ran),
      length-append (flat_map saved_in rans) (saved_in ran),
    ) in
    let is : RecordsOf settled (rans ++ ran ∷ []) now = record {
      first = was.first;
      settling = was.settling;
      failed = length (option_to_list broke);
      at_most = was.at_most;
      meets = was.meets;
      one = one_most broke;
      fails = λ is. (ran, Contains-push rans ran, fails (one_there broke is));
      ties = subst (λ n. AddsTies was.first n [] now) sum (ties_then was.ties next);
    } in
    (is, λ none. ap (λ (o : Option Saved). length (option_to_list o)) none)
