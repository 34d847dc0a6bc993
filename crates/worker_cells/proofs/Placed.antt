-- The changes of a committed line are of the declared storages.
use Rattle.std.proofs.Common.{◌≡◌, ◌∙◌, ◌+◌, ◌-◌, ◌^◌, ◌∷◌, inl, inr, refl, sym, subst, ℕ, List, [], Option, Some}
use Rattle.std.proofs.Common.{None, Bool, true, false, cond}
use Rattle.std.specs.Prelude.{Contains, nat_le, nat_lt, unwrap_or}
use Rattle.std.specs.List.{AllByRecursion}
use Rattle.lists.specs.Elements.{in_cases, in_none}
use Rattle.serial_model.specs.declared.decl.Decl.{Decl}
use Rattle.serial_model.specs.declared.key.Key.{Key}
use Rattle.serial_model.specs.declared.number.Change.{Change}
use Rattle.serial_model.specs.declared.op.Op.{Op}
use Rattle.serial_model.specs.declared.op.Op.TheVariants.{Read, Write, Remove, Add, Take, Scan}
use Rattle.serial_model.specs.declared.reply.Reply.{Reply}
use Rattle.serial_model.specs.declared.reply.Verdict.{Verdict}
use Rattle.serial_model.specs.declared.reply.Verdict.TheVariants.{Over, Short}
use Rattle.serial_model.specs.History.{Entry}
use Rattle.serial_model.specs.Keys.{fits, is_tree}
use Rattle.serial_model.specs.Step.{reply_of}
use Rattle.wire_form.specs.LogFile.{IsChangeOf, has_place_for}
use Rattle.commit_core.specs.declared.attempt.Attempt.{Attempt}
use Rattle.commit_core.specs.declared.part.Part.{Part}
use Rattle.commit_core.specs.Keys.{same_key, written}
use Rattle.commit_core.specs.Lemmas.Keys.{same_key-true}
use Rattle.serial_bridge.specs.Transaction.{Continues, Finished, FinishesBy, IsAttemptOf, Runs, Stops, Turn, Turns}
use Rattle.serial_bridge.specs.Transaction.{removed, wrote}
use Rattle.serial_bridge.specs.WriteLaws.{each_in, written-cons}
use Rattle.serial_bridge.specs.WriteSets.{EachCounts}

-- each of the changes is of one of the storages
abbrev AreOf : List Decl → List Change → Type 0
AreOf decls own = AllByRecursion (IsChangeOf decls) own

-- what one operation leaves, if those before it were so
turn_of : (decls : List Decl) (own : List Change) (ops : List Op) (parts : List Part) (turn : Turn) (f : Finished)
    → ((now : List Change) (g : Finished) → Runs decls parts ops now g → AreOf decls now → AreOf decls g.writes)
    → ((reply : Option Reply) (now : List Change) → turn ≡ Continues reply now → AreOf decls now)
    → FinishesBy turn (Runs decls parts ops) f → AreOf decls f.writes
turn_of decls own ops parts (Continues reply now) f rest are by =
    subst (λ (x : Finished). AreOf decls x.writes) (sym by.2) (rest now by.0 by.1 (are reply now refl))
turn_of decls own ops parts (Stops verdict) f rest are by =
    subst (λ (x : Finished). AreOf decls x.writes) (sym by) tt

-- an addition or a subtraction writes where a value may stand
sum_of : (decls : List Decl) (own : List Change) (k : Key) (fine : Bool) (n : ℕ) (verdict : Verdict)
    (reply : Option Reply) (now : List Change) → has_place_for decls k (Some n) ≡ true → AreOf decls own
    → cond fine (Continues None (wrote k (Some n) own)) (Stops verdict) ≡ Continues reply now → AreOf decls now
sum_of decls own k true n verdict reply now place are is =
    let same : wrote k (Some n) own ≡ now = cc in subst (AreOf decls) same (place, are)
sum_of decls own k false n verdict reply now place are is = absurd cc

-- a removal writes where one may stand, or nothing
removal_of : (decls : List Decl) (own : List Change) (k : Key) (value : Option ℕ) (reply : Option Reply)
    (now : List Change) → has_place_for decls k None ≡ true → AreOf decls own
    → removed k value own ≡ Continues reply now → AreOf decls now
removal_of decls own k None reply now place are is = let kept : own ≡ now = cc in subst (AreOf decls) kept are
removal_of decls own k (Some v) reply now place are is =
    let kept : wrote k None own ≡ now = cc in subst (AreOf decls) kept (place, are)

op_of : (decls : List Decl) (parts : List Part) (own : List Change) (op : Op) (turn : Turn) (reply : Option Reply)
    (now : List Change) → fits decls op ≡ true → AreOf decls own → Turns decls parts own op turn
    → turn ≡ Continues reply now → AreOf decls now
op_of decls parts own (Read k) turn reply now fit are turns is =
    let same : Continues (Some (reply_of (is_tree decls k.storage) turns.0)) own ≡ Continues reply now =
    sym turns.2 ∙ is in
    let kept : own ≡ now = cc in subst (AreOf decls) kept are
op_of decls parts own (Write k v) turn reply now fit are turns is =
    let same : Continues None (wrote k (Some v) own) ≡ Continues reply now = sym turns ∙ is in
    let kept : wrote k (Some v) own ≡ now = cc in subst (AreOf decls) kept (fit, are)
op_of decls parts own (Remove k) turn reply now fit are turns is =
    removal_of decls own k turns.0 reply now fit are (sym turns.2 ∙ is)
op_of decls parts own (Add k v) turn reply now fit are turns is =
    let before = unwrap_or turns.0 0 in
    sum_of decls own k (nat_lt (before + v) (2 ^ 64)) (before + v) Over reply now fit are (sym turns.2 ∙ is)
op_of decls parts own (Take k v) turn reply now fit are turns is =
    let before = unwrap_or turns.0 0 in
    sum_of decls own k (nat_le v before) (before - v) Short reply now fit are (sym turns.2 ∙ is)
op_of decls parts own (Scan storage low high) turn reply now fit are turns is =
    let same = sym turns.2 ∙ is in
    let kept : own ≡ now = cc in subst (AreOf decls) kept are

-- what a transaction writes is of the storages
runs_of : (decls : List Decl) (parts : List Part) (ops : List Op) (own : List Change) (f : Finished)
    → Runs decls parts ops own f → AreOf decls own → AreOf decls f.writes
runs_of decls parts [] own f runs are = subst (λ (x : Finished). AreOf decls x.writes) (sym runs) are
runs_of decls parts (op ∷ ops) own f runs are =
    turn_of decls own ops parts runs.1.0 f (λ now g next more. runs_of decls parts ops now g next more)
    (λ reply now is. op_of decls parts own op runs.1.0 reply now runs.0 are runs.1.1 is) runs.1.2

-- what is written at a key is so
written_of : (decls : List Decl) (own : List Change) (k : Key) (value : Option ℕ) → AreOf decls own
    → written k own ≡ Some value → has_place_for decls k value ≡ true
written_of decls [] k value are is = absurd cc
written_of decls (c ∷ own) k value are is = by_test (same_key c.key k) refl (sym (written-cons c own k) ∙ is)
    (λ later. written_of decls own k value are.1 later)
  where
    by_test : (b : Bool) → same_key c.key k ≡ b → cond b (Some c.value) (written k own) ≡ Some value
        → (written k own ≡ Some value → has_place_for decls k value ≡ true) → has_place_for decls k value ≡ true
    by_test true same is later =
        let v : c.value ≡ value = cc in
        subst (λ x. has_place_for decls k x ≡ true) v
        (subst (λ (x : Key). has_place_for decls x c.value ≡ true) (same_key-true c.key k same) are.0)
    by_test false other is later = later is

counted_in : (all writes : List Change) (c : Change)
    → AllByRecursion (λ (d : Change). written d.key all ≡ Some d.value) writes → Contains writes c
    → written c.key all ≡ Some c.value
counted_in all [] c counts has = absurd (in_none c has)
counted_in all (d ∷ writes) c counts has = elim (in_cases c d writes has) [
  | inl is ↦ subst (λ (x : Change). written x.key all ≡ Some x.value) is counts.0
  | inr later ↦ counted_in all writes c counts.1 later
]

-- so each change of an attempt is of the storages, where each counts
pub attempt_of : (decls : List Decl) (e : Entry) (a : Attempt) → IsAttemptOf decls e a → EachCounts a.writes
    → AllByRecursion (IsChangeOf decls) a.writes
attempt_of decls e a is counts =
    let own : AreOf decls is.own = runs_of decls a.parts e.ops [] _ is.runs tt in
    each_in (IsChangeOf decls) a.writes (λ c has. one c own (counted_in a.writes a.writes c counts has))
  where
    one : (c : Change) → AreOf decls is.own → written c.key a.writes ≡ Some c.value
        → has_place_for decls c.key c.value ≡ true
    one c own counted = written_of decls is.own c.key c.value own (sym (is.writes c.key) ∙ counted)
