-- A log file's bytes are one list of lines at most, or are damaged at one byte at most, and never both.
use Rattle.std.proofs.Common.{◌≡◌, ℕ, List, [], ◌∷◌, ◌++◌, length, Option, map, refl, sym, ap, subst, ◌∙◌, append_assoc, append-nil, arith}
use Rattle.std.specs.List.{AllByRecursion}
use Rattle.std.proofs.lemmas.List.{length-append}
use Rattle.serial_model.specs.Numbers.{IsBelow}
use Rattle.serial_model.specs.declared.decl.Decl.{Decl}
use Rattle.serial_model.specs.declared.number.Commit.{Commit}
use Rattle.serial_model.specs.declared.number.Number.{Number}
use Rattle.wire_form.specs.Items.{RisesAfter, last_key}
use Rattle.wire_form.specs.LogLine.{IsLogLine, line_bytes}
use Rattle.wire_form.specs.LogFile.{commit_number, lines_bytes, AreLogLines, IsLineOf, AreLinesOf, IsDamagedAt}
use Rattle.wire_form.specs.LineLaws.{length-line_bytes, one_line}
use Rattle.wire_form.specs.ItemLaws.{all_behind, rises_behind, items-append}

-- the lines of storages are log lines
pub are_log_lines : (decls : List Decl) (commits : List Commit) → AllByRecursion (IsLineOf decls) commits
    → AllByRecursion IsLogLine commits
are_log_lines decls [] all = tt
are_log_lines decls (c ∷ cs) all = (all.0.line, are_log_lines decls cs all.1)

-- no lines are no bytes
pub no_lines : (last : Option Number) → AreLogLines last [] []
no_lines last = record { each = tt; rising = tt; spelled = refl }

-- lines, and others that go on after them, are lines together
pub more_lines : (decls : List Decl) (last : Option Number) (front back : List ℕ) (xs ys : List Commit)
    → AreLinesOf decls last front xs → AreLinesOf decls (last_key commit_number last xs) back ys
    → AreLinesOf decls last (front ++ back) (xs ++ ys)
more_lines decls last front back xs ys p q =
    items-append (IsLineOf decls) line_bytes commit_number IsBelow last front back xs ys p q

-- lines have bytes
no_bytes : (commits : List Commit) → [] ≡ lines_bytes commits → commits ≡ []
no_bytes [] e = refl
no_bytes (c ∷ cs) e =
    absurd (omega (arith, ap length e, length-append (line_bytes c) (lines_bytes cs), length-line_bytes c))

-- one of the two goes on where the other ends
data Meet (f g : List Commit) (x y : List ℕ) : Type 0 where
  longer : (tail : List Commit) → g ≡ f ++ tail → x ≡ lines_bytes tail ++ y → Meet f g x y
  shorter : (tail : List Commit) → f ≡ g ++ tail → y ≡ lines_bytes tail ++ x → Meet f g x y

-- two lists of lines that begin the same bytes
meet : (f g : List Commit) (x y : List ℕ) → AllByRecursion IsLogLine f → AllByRecursion IsLogLine g
    → lines_bytes f ++ x ≡ lines_bytes g ++ y → Meet f g x y
meet [] g x y p q e = longer g refl e
meet (a ∷ fs) [] x y p q e = shorter (a ∷ fs) refl (sym e)
meet (a ∷ fs) (b ∷ gs) x y p q e =
    let parts : line_bytes a ++ (lines_bytes fs ++ x) ≡ line_bytes b ++ (lines_bytes gs ++ y) =
    sym (append_assoc (line_bytes a) (lines_bytes fs) x) ∙ e ∙ append_assoc (line_bytes b) (lines_bytes gs) y in
    let both = one_line a b (lines_bytes fs ++ x) (lines_bytes gs ++ y) p.0 q.0 parts in
    elim (meet fs gs x y p.1 q.1 both.1) [
      | longer tail h k ↦ longer tail (ap (λ c. c ∷ gs) (sym both.0) ∙ ap (λ cs. a ∷ cs) h) k
      | shorter tail h k ↦ shorter tail (ap (λ c. c ∷ fs) both.0 ∙ ap (λ cs. b ∷ cs) h) k
    ]

-- bytes are one list of lines at most
pub one_list : (last : Option Number) (bytes : List ℕ) (a b : List Commit) → AreLogLines last bytes a
    → AreLogLines last bytes b → a ≡ b
one_list last bytes a b p q =
    elim
    (meet a b [] [] p.each q.each (append-nil (lines_bytes a) ∙ sym p.spelled ∙ q.spelled ∙ sym (append-nil (lines_bytes b)))) [
      | longer tail h k ↦ sym (h ∙ ap (λ t. a ++ t) (no_bytes tail (k ∙ append-nil (lines_bytes tail))) ∙ append-nil a)
      | shorter tail h k ↦ h ∙ ap (λ t. b ++ t) (no_bytes tail (k ∙ append-nil (lines_bytes tail))) ∙ append-nil b
    ]

-- no line goes on where the bytes are damaged
ends : (decls : List Decl) (last : Option Number) (bytes : List ℕ) (at : ℕ) (d : IsDamagedAt decls last bytes at)
    (commits tail : List Commit) (after : List ℕ)
    → AreLinesOf decls last (lines_bytes commits) commits
    → commits ≡ d.front ++ tail → d.rest ≡ lines_bytes tail ++ after → tail ≡ []
ends decls last bytes at d commits [] after are h k = refl
ends decls last bytes at d commits (c ∷ cs) after are h k =
    let each = subst (AllByRecursion (IsLineOf decls)) h are.each in
    let rising = subst (λ xs. RisesAfter IsBelow last (map commit_number xs)) h are.rising in
    absurd
    (d.none c (lines_bytes cs ++ after) (all_behind (IsLineOf decls) d.front (c ∷ cs) each).0 (rises_behind commit_number IsBelow last d.front (c ∷ cs) rising).0
    (k ∙ append_assoc (line_bytes c) (lines_bytes cs) after))

-- damaged bytes are no lines
pub damaged_no_lines : (decls : List Decl) (last : Option Number) (bytes : List ℕ) (at : ℕ) (commits : List Commit)
    → IsDamagedAt decls last bytes at → AreLinesOf decls last bytes commits → ⊥
damaged_no_lines decls last bytes at commits d are =
    let own : AreLinesOf decls last (lines_bytes commits) commits =
    record { each = are.each; rising = are.rising; spelled = refl } in
    elim
    (meet d.front commits d.rest [] (are_log_lines decls d.front d.lines.each) (are_log_lines decls commits are.each) (sym d.whole ∙ are.spelled ∙ sym (append-nil (lines_bytes commits)))) [
      | longer tail h k ↦
          let none : tail ≡ [] = ends decls last bytes at d commits tail [] own h k in
          let empty : d.rest ≡ [] = k ∙ ap (λ t. lines_bytes t ++ []) none in
          omega (arith, d.more, ap length empty)
      | shorter tail h k ↦ omega (arith, d.more, ap length k, length-append (lines_bytes tail) d.rest)
    ]

-- bytes are damaged at one byte at most
pub one_damage : (decls : List Decl) (last : Option Number) (bytes : List ℕ) (at other : ℕ)
    → IsDamagedAt decls last bytes at → IsDamagedAt decls last bytes other → at ≡ other
one_damage decls last bytes at other d u =
    elim
    (meet d.front u.front d.rest u.rest (are_log_lines decls d.front d.lines.each) (are_log_lines decls u.front u.lines.each) (sym d.whole ∙ u.whole)) [
      | longer tail h k ↦
          let same : u.front ≡ d.front =
          h ∙ ap (λ t. d.front ++ t) (ends decls last bytes at d u.front tail u.rest u.lines h k)
          ∙ append-nil d.front in
          d.behind ∙ ap (λ f. length (lines_bytes f)) (sym same) ∙ sym u.behind
      | shorter tail h k ↦
          let same : d.front ≡ u.front =
          h ∙ ap (λ t. u.front ++ t) (ends decls last bytes other u d.front tail d.rest d.lines h k)
          ∙ append-nil u.front in
          d.behind ∙ ap (λ f. length (lines_bytes f)) same ∙ sym u.behind
    ]
