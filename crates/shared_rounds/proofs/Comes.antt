-- What comes of a worker's lines, by the refusals of their tries.
use Rattle.std.proofs.Common.{◌≡◌, ◌∙◌, sym, ap, subst, refl, ℕ, suc, ◌+◌, ◌≤◌, ◌<◌, ◌^◌, List, [], ◌∷◌, ◌++◌, length}
use Rattle.std.proofs.Common.{map, arith}
use Rattle.std.proofs.Common.{true, Option, Some, None}
use Rattle.std.specs.Prelude.{is_some}
use Rattle.std.specs.List.{AllByRecursion}
use Rattle.lists.specs.Fronts.{front_length}
use Rattle.serial_model.specs.declared.number.Commit.{Commit}
use Rattle.serial_model.specs.declared.number.Number.{Number}
use Rattle.serial_model.specs.declared.op.Op.{Op}
use Rattle.serial_model.specs.Numbers.{draw_limit}
use Rattle.engine_pages.specs.declared.layout.Layout.{Layout}
use Rattle.engine_pages.specs.declared.view.View.{View}
use Rattle.engine_seats.specs.Cuts.{HasSeen}
use Rattle.worker_cells.specs.Below.{IsClash, IsLostAt, Lost, ToClock, ToOther, ToSet, ToSlots}
use Rattle.tx_script.specs.Causes.{UnrunLast, is_unrun}
use Rattle.tx_script.specs.Run.{LogRefusal}
use Rattle.tx_script.specs.declared.outcome.Outcome.{Outcome}
use Rattle.tx_script.specs.declared.outcome.Outcome.TheVariants.{Committed, Conflict, Full, Wide, Limit, Unrun}
use Rattle.worker_cells.specs.Rows.{AreInARow, ComesOf, LineRan, lines_of, outcomes_of, unrun}
use Rattle.shared_rounds.specs.Parts.{no_tries, tries_of}
use Rattle.shared_rounds.specs.Refusals.{set_of, try_refusal}
use Rattle.tx_script.specs.Tries.{AllCome, AreConflicts, ComesTo, EndsWith}
use Rattle.shared_rounds.proofs.Made.{seen_then}

-- ---- one line

refused_so : (ops : List Op) (losts : List Lost) → AllByRecursion (IsClash ops) losts
    → AreConflicts (map try_refusal losts)
refused_so ops [] each = tt
refused_so ops (ToOther clash ∷ losts) each = (refl, refused_so ops losts each.1)
refused_so ops (ToSlots words ∷ losts) each = absurd each.0
refused_so ops (ToSet set ∷ losts) each = absurd each.0
refused_so ops (ToClock clock ∷ losts) each = absurd each.0

as_many : (losts : List Lost) → length (map try_refusal losts) ≡ length losts
as_many [] = refl
as_many (lost ∷ losts) = ap suc (as_many losts)

refused_last : (losts : List Lost) (last : Lost)
    → map try_refusal (losts ++ last ∷ []) ≡ map try_refusal losts ++ try_refusal last ∷ []
refused_last [] last = refl
refused_last (first ∷ losts) last = ap (λ l. try_refusal first ∷ l) (refused_last losts last)

-- the last of its tries was lost so
ends_with : (ops : List Op) (tries : ℕ) (last : Lost) (refused : List Lost) (v w : View)
    → (so : IsLostAt ops last tries v w) → refused ≡ so.losts ++ last ∷ []
    → EndsWith tries (try_refusal last) (map try_refusal refused)
ends_with ops tries last refused v w so is =
    subst (λ l. EndsWith tries (try_refusal last) (map try_refusal l)) (sym is) (record {
      before = map try_refusal so.losts;
      all = refused_last so.losts last;
      conflicts = refused_so ops so.losts so.each;
      fewer = subst (λ n. n < tries) (sym (as_many so.losts)) so.fewer;
    })

-- what comes of a line, where the draws end at this one
pub line_comes : (first tries last : ℕ) (log : Option LogRefusal) (ops : List Op) (outcome : Outcome)
    (refused : List Lost)
    (logged : Option Commit) (v w : View) → 1 ≤ tries → first ≤ v.layout.first.draw + length v.history
    → v.layout.first.draw + length w.history ≤ last
    → ComesOf tries ops outcome refused logged v w → ComesTo first last tries log outcome (map try_refusal refused)
line_comes first tries last log ops (Committed verdict number replies) refused logged v w some from below comes =
    let line = comes.3 in
    let began : first < draw_limit = omega (arith, line.began, from) in
    let small : number.draw < 2 ^ 40 = subst (λ (n : Number). n.draw < 2 ^ 40) comes.1 line.small.draw in
    subst (λ l. (first < draw_limit) × (number.draw < 2 ^ 40) × AreConflicts (map try_refusal l)
    × (length (map try_refusal l) < tries)) (sym comes.4)
    (began, small, refused_so ops line.losts line.each, subst (λ n. n < tries) (sym (as_many line.losts)) line.fewer)
line_comes first tries last log ops Conflict refused logged v w some from below comes =
    let line = comes.1 in
    subst (λ l. (first < draw_limit) × AreConflicts (map try_refusal l) × (length (map try_refusal l) ≡ tries))
    (sym comes.2)
    (omega (arith, line.began some, from), refused_so ops line.losts line.each, as_many line.losts ∙ line.count)
line_comes first tries last log ops Limit refused logged v w some from below comes =
    let line = comes.1 in (
      line.clock,
      ends_with ops tries (ToClock line.clock) refused v w line.refused comes.2,
      line.high,
      omega (arith, line.draws, below),
    )
line_comes first tries last log ops Full refused logged v w some from below comes =
    let line = comes.1 in (
      omega (arith, line.began, from),
      line.words,
      ends_with ops tries (ToSlots line.words) refused v w line.refused comes.2,
    )
line_comes first tries last log ops Wide refused logged v w some from below comes =
    let line = comes.1 in (
      omega (arith, line.began, from),
      set_of line.set,
      ends_with ops tries (ToSet line.set) refused v w line.refused comes.2,
    )
line_comes first tries last log ops Unrun refused logged v w some from below comes = absurd comes

-- what a line keeps of its pass
line_seen : (tries : ℕ) (ops : List Op) (outcome : Outcome) (refused : List Lost) (logged : Option Commit)
    (v w : View) → ComesOf tries ops outcome refused logged v w → HasSeen v w × (w.layout ≡ v.layout)
line_seen tries ops (Committed verdict number replies) refused logged v w comes = (comes.3.seen, comes.3.layout)
line_seen tries ops Conflict refused logged v w comes = (comes.1.tried.seen, comes.1.tried.layout)
line_seen tries ops Limit refused logged v w comes = (comes.1.refused.tried.seen, comes.1.refused.tried.layout)
line_seen tries ops Full refused logged v w comes = (comes.1.refused.tried.seen, comes.1.refused.tried.layout)
line_seen tries ops Wide refused logged v w comes = (comes.1.refused.tried.seen, comes.1.refused.tried.layout)
line_seen tries ops Unrun refused logged v w comes = absurd comes

-- ---- lines in a row

pub row_seen : (tries : ℕ) (v : View) (ran : List LineRan) (w : View) → AreInARow tries v ran w → HasSeen v w
row_seen tries v [] w row = row.seen
row_seen tries v (r ∷ more) w row =
    let line = line_seen tries r.ops r.outcome r.refused r.logged r.before r.after row.1 in
    seen_then v r.before w row.0.seen (seen_then r.before r.after w line.0 (row_seen tries r.after more w row.2))

left_come : (first tries last : ℕ) (log : Option LogRefusal) (left : List (List Op)) → (log ≡ None → left ≡ [])
    → AllCome first last tries log (unrun left) (no_tries left)
left_come first tries last log [] none = tt
left_come first tries last log (ops ∷ left) none = (
  (refl, by_log log refl),
  left_come first tries last log left (λ is. absurd (let no = none is in cc)),
)
  where
    by_log : (l : Option LogRefusal) → log ≡ l → is_some log ≡ true
    by_log None is = absurd (let no = none is in cc)
    by_log (Some r) is = ap is_some is

pub row_comes : (first tries last : ℕ) (log : Option LogRefusal) (v : View) (ran : List LineRan) (left : List (List Op))
    (w : View) → 1 ≤ tries → first ≤ v.layout.first.draw + length v.history
    → v.layout.first.draw + length w.history ≤ last → (log ≡ None → left ≡ []) → AreInARow tries v ran w
    → AllCome first last tries log (outcomes_of ran ++ unrun left) (tries_of ran ++ no_tries left)
row_comes first tries last log v [] left w some from below none row = left_come first tries last log left none
row_comes first tries last log v (r ∷ more) left w some from below none row =
    let line = line_seen tries r.ops r.outcome r.refused r.logged r.before r.after row.1 in
    let rest = row_seen tries r.after more w row.2 in
    let start : r.before.layout.first.draw ≡ v.layout.first.draw = ap (λ (l : Layout). l.first.draw) row.0.layout in
    let next : r.after.layout.first.draw ≡ r.before.layout.first.draw = ap (λ (l : Layout). l.first.draw) line.1 in
    let grown = front_length v.history r.before.history row.0.seen.history in
    let later = front_length r.before.history r.after.history line.0.history in
    let long = front_length r.after.history w.history rest.history in (
      line_comes first tries last log r.ops r.outcome r.refused r.logged r.before r.after some
          (omega (arith, grown, from, start)) (omega (arith, long, below, start)) row.1,
      row_comes first tries last log r.after more left w some (omega (arith, grown, later, from, start, next))
          (omega (arith, below, start, next)) none row.2,
    )

-- behind a line that was left out none was run
left_all : (left : List (List Op)) → AllByRecursion (λ o. is_unrun o ≡ true) (unrun left)
left_all [] = tt
left_all (ops ∷ left) = (refl, left_all left)

left_last : (left : List (List Op)) → UnrunLast (unrun left)
left_last [] = tt
left_last (ops ∷ left) = left_all left

line_last : (tries : ℕ) (ops : List Op) (outcome : Outcome) (refused : List Lost) (logged : Option Commit)
    (v w : View) (more : List Outcome) → ComesOf tries ops outcome refused logged v w → UnrunLast more
    → UnrunLast (outcome ∷ more)
line_last tries ops (Committed verdict number replies) refused logged v w more comes rest = rest
line_last tries ops Conflict refused logged v w more comes rest = rest
line_last tries ops Limit refused logged v w more comes rest = rest
line_last tries ops Full refused logged v w more comes rest = rest
line_last tries ops Wide refused logged v w more comes rest = rest
line_last tries ops Unrun refused logged v w more comes rest = absurd comes

pub row_last : (tries : ℕ) (v : View) (ran : List LineRan) (left : List (List Op)) (w : View) → AreInARow tries v ran w
    → UnrunLast (outcomes_of ran ++ unrun left)
row_last tries v [] left w row = left_last left
row_last tries v (r ∷ more) left w row =
    line_last tries r.ops r.outcome r.refused r.logged r.before r.after (outcomes_of more ++ unrun left) row.1
    (row_last tries r.after more left w row.2)

-- an outcome for each line
pub row_each : (ran : List LineRan) (left : List (List Op))
    → length (outcomes_of ran ++ unrun left) ≡ length (lines_of ran ++ left)
row_each [] [] = refl
row_each [] (ops ∷ left) = ap suc (row_each [] left)
row_each (r ∷ more) left = ap suc (row_each more left)
