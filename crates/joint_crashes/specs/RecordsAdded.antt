-- What a settling records of its stores and cuts.
use Rattle.std.proofs.Common.{◌≡◌, ◌≤◌, ◌+◌, ◌⊎◌, ◌++◌, ◌∷◌, inl, inr, ℕ, Bool, true, false, List, [], refl, subst, arith}
use Rattle.std.specs.Prelude.{if◌then◌else◌, is_ok, IsErrAnd, Result, Ok, Err}
use Rattle.log_writer.specs.Records.{AddsCuts, AddsTies, no_cuts, no_ties, one_tie, ties_then}
use Rattle.log_writer.specs.declared.records.Tie.{Tie}
use Rattle.log_writer.specs.declared.vault.Vault.{Vault}

-- Ties of the first of so many stores, whose sequences rise by one behind this one, and once all of them had ended a cut
-- of each of the first of these log files, in their order. A call that was done made all stores and all cuts.
pub record RecordsAdded {D : Type 0} (sequence due : ℕ) (numbers : List ℕ) (done : Bool) (old new : Vault D)
    : Type 0 where
  pub stores : ℕ
  pub cut : List ℕ
  pub left : List ℕ
  pub at_most : stores ≤ due
  pub ties : AddsTies sequence stores old.ties.items new.ties.items
  pub cuts : AddsCuts (sequence + due) cut old.cuts.items new.cuts.items
  pub are : numbers ≡ cut ++ left
  pub behind : (cut ≡ []) ⊎ (stores ≡ due)
  pub whole : done ≡ true → (stores ≡ due) × (left ≡ [])

-- ---- laws

-- a call that answered a refusal wasn't done
pub refused_so : {T E : Type 0} (Q : E → Type 0) (r : Result T E) → IsErrAnd r Q → is_ok r ≡ false
refused_so Q (Ok x) is = absurd is
refused_so Q (Err e) is = refl

module _ {D : Type 0} {sequence : ℕ} {numbers : List ℕ} {done : Bool} where
  -- a call that recorded nothing, and wasn't done
  pub nothing_added : {due : ℕ} {old new : Vault D} → done ≡ false → new.ties.items ≡ old.ties.items
      → new.cuts.items ≡ old.cuts.items → RecordsAdded sequence due numbers done old new
  nothing_added {due = due} not_done ties cuts = record {
    stores = 0;
    cut = [];
    left = numbers;
    at_most = omega arith;
    ties = no_ties sequence ties;
    cuts = no_cuts (sequence + due) cuts;
    are = refl;
    behind = inl refl;
    whole = λ is. absurd cc;
  }

  -- cuts alone
  pub cuts_added : {old new : Vault D} (cut left : List ℕ) → new.ties.items ≡ old.ties.items
      → AddsCuts sequence cut old.cuts.items new.cuts.items → numbers ≡ cut ++ left → (done ≡ true → left ≡ [])
      → RecordsAdded sequence 0 numbers done old new
  cuts_added {old = old} {new = new} cut left ties cuts are whole =
      let same : sequence ≡ sequence + 0 = omega arith in
      record {
        stores = 0;
        cut = cut;
        left = left;
        at_most = omega arith;
        ties = no_ties sequence ties;
        cuts = subst (λ k. AddsCuts k cut old.cuts.items new.cuts.items) same cuts;
        are = are;
        behind = inr refl;
        whole = λ is. (refl, whole is);
      }

  -- a store that was begun, and no cut
  pub tie_added : {old new : Vault D} (tie : Tie) → done ≡ false → new.ties.items ≡ old.ties.items ++ tie ∷ []
      → tie.sequence ≡ sequence + 1 → new.cuts.items ≡ old.cuts.items → RecordsAdded sequence 1 numbers done old new
  tie_added tie not_done ties is cuts = record {
    stores = 1;
    cut = [];
    left = numbers;
    at_most = omega arith;
    ties = one_tie tie ties is;
    cuts = no_cuts (sequence + 1) cuts;
    are = refl;
    behind = inl refl;
    whole = λ is. absurd cc;
  }

  -- a store that had ended, and cuts behind it
  pub tie_then : {old mid new : Vault D} (tie : Tie) → mid.ties.items ≡ old.ties.items ++ tie ∷ []
      → tie.sequence ≡ sequence + 1 → mid.cuts.items ≡ old.cuts.items
      → RecordsAdded (sequence + 1) 0 numbers done mid new → RecordsAdded sequence 1 numbers done old new
  tie_then {old = old} {mid = mid} {new = new} tie ties is cuts next =
      let one : 1 + next.stores ≡ 1 = omega (arith, next.at_most) in
      let same : sequence + 1 + 0 ≡ sequence + 1 = omega arith in
      record {
        stores = 1;
        cut = next.cut;
        left = next.left;
        at_most = omega arith;
        ties = subst (λ n. AddsTies sequence n old.ties.items new.ties.items) one
            (ties_then (one_tie tie ties is) next.ties);
        cuts = subst (λ k. AddsCuts k next.cut old.cuts.items new.cuts.items) same
            (subst (λ l. AddsCuts (sequence + 1 + 0) next.cut l new.cuts.items) cuts next.cuts);
        are = next.are;
        behind = inr refl;
        whole = λ is. (refl, (next.whole is).1);
      }

  -- records of a vault that had the same ones before
  pub records_from : {due : ℕ} {old mid new : Vault D} → mid.ties.items ≡ old.ties.items
      → mid.cuts.items ≡ old.cuts.items → RecordsAdded sequence due numbers done mid new
      → RecordsAdded sequence due numbers done old new
  records_from {due = due} {new = new} ties cuts added = record {
    stores = added.stores;
    cut = added.cut;
    left = added.left;
    at_most = added.at_most;
    ties = subst (λ l. AddsTies sequence added.stores l new.ties.items) ties added.ties;
    cuts = subst (λ l. AddsCuts (sequence + due) added.cut l new.cuts.items) cuts added.cuts;
    are = added.are;
    behind = added.behind;
    whole = added.whole;
  }

  -- no store was due, by this test
  pub none_due : {old new : Vault D} (test : Bool) → test ≡ true → RecordsAdded sequence 0 numbers done old new
      → RecordsAdded sequence (if test then 0 else 1) numbers done old new
  none_due test is added = rw is added

  -- or one was
  pub one_due : {old new : Vault D} (test : Bool) → test ≡ false → RecordsAdded sequence 1 numbers done old new
      → RecordsAdded sequence (if test then 0 else 1) numbers done old new
  one_due test is added = rw is added
