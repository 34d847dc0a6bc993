-- What a worker's mark says through the calls of its journal.
use Rattle.std.proofs.Common.{◌≡◌, ◌++◌, ◌∷◌, ℕ, List, []}
use Rattle.std.proofs.Common.{length, take, drop, length-append, append_assoc, refl, sym, ◌∙◌, ap, subst, arith}
use Rattle.std.specs.List.{AllByRecursion}
use Rattle.std.proofs.lemmas.List.{take-append-le, drop-append-le, take_all, drop_all}
use Rattle.serial_model.specs.declared.number.Commit.{Commit}
use Rattle.wire_form.specs.LogFile.{lines_bytes}
use Rattle.wire_form.specs.LogLine.{line_bytes}
use Rattle.joint_crashes.specs.Marks.{IsAbove, Marks}

-- the lines of two lists of commits stand behind one another
pub lines_more : (a b : List Commit) → lines_bytes (a ++ b) ≡ lines_bytes a ++ lines_bytes b
lines_more [] b = refl
lines_more (c ∷ cs) b = ap (λ l. line_bytes c ++ l) (lines_more cs b)
    ∙ sym (append_assoc (line_bytes c) (lines_bytes cs) (lines_bytes b))

all_more : (epoch : ℕ) (a : List Commit) (c : Commit) → AllByRecursion (IsAbove epoch) a → IsAbove epoch c
    → AllByRecursion (IsAbove epoch) (a ++ c ∷ [])
all_more epoch [] c all is = (is, tt)
all_more epoch (x ∷ xs) c all is = (all.0, all_more epoch xs c all.1 is)

-- A commit of a later epoch is logged.
pub mark_put : (commits : List Commit) (epoch size : ℕ) (c : Commit) → Marks commits epoch size → IsAbove epoch c
    → Marks (commits ++ c ∷ []) epoch size
mark_put commits epoch size c mark later = record {
  front = mark.front;
  within = omega (arith, mark.within, length-append commits (c ∷ []));
  counted = omega (
    arith,
    mark.counted,
    ap length (lines_more commits (c ∷ [])),
    length-append (lines_bytes commits) (lines_bytes (c ∷ [])),
  );
  lines = ap lines_bytes (take-append-le mark.front commits (c ∷ []) mark.within) ∙ mark.lines
      ∙ sym (take-append-le size (lines_bytes commits) (lines_bytes (c ∷ [])) mark.counted)
      ∙ ap (take size) (sym (lines_more commits (c ∷ [])));
  rest = subst (AllByRecursion (IsAbove epoch)) (sym (drop-append-le mark.front commits (c ∷ []) mark.within))
      (all_more epoch (drop mark.front commits) c mark.rest later);
}

-- A mark is set as no line waits: its length is that of all lines, and each epoch before the next commit's serves.
pub mark_set : (commits : List Commit) (epoch : ℕ) → Marks commits epoch (length (lines_bytes commits))
mark_set commits epoch = record {
  front = length commits;
  within = omega arith;
  counted = omega arith;
  lines = ap lines_bytes (take_all (length commits) commits (omega arith))
      ∙ sym (take_all (length (lines_bytes commits)) (lines_bytes commits) (omega arith));
  rest = subst (AllByRecursion (IsAbove epoch)) (sym (drop_all (length commits) commits (omega arith))) tt;
}
