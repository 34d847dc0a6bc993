-- Lines keep what they are as operations are added behind them.
use Rattle.std.proofs.Common.{◌≡◌, ℕ, ◌≤◌, List, [], ◌∷◌, ◌++◌, length, take, drop, refl, ap, ◌∙◌, arith, length-drop, length-append}
use Rattle.std.proofs.lemmas.List.{take-append-le, drop-append-le, map_push}
use Rattle.std.proofs.Math.Seq.{drop-append_seam, take-length}
use Rattle.serial_model.specs.declared.op.Op.{Op}
use Rattle.lists.specs.Each.{all_push, all_weaker}
use Rattle.script_grammar.specs.Script.{Line, Worker, Keeper}
use Rattle.script_grammar.specs.Lines.{line_in, lines_in, IsWithin, AreWithin}
use Rattle.script_grammar.specs.declared.lines.KeeperLine.{KeeperLine}
use Rattle.script_grammar.specs.declared.lines.Span.{Span}
use Rattle.script_grammar.specs.declared.lines.Span.TheVariants as at

-- a span within the operations has the same line among more operations
line_in-append : (ops more : List Op) (span : Span) → IsWithin ops span → line_in (ops ++ more) span ≡ line_in ops span
line_in-append ops more (at.Keeper line) within = refl
line_in-append ops more (at.Worker worker count start) within =
    let end = within.0 in
    let long : count ≤ length (drop start ops) = omega (arith, length-drop start ops) in
    ap (λ (os : List Op). Worker worker (take count os)) (drop-append-le start ops more (omega arith))
    ∙ ap (Worker worker) (take-append-le count (drop start ops) more long)

-- spans that lie within the operations have the same lines among more operations
pub lines_in-append : (ops more : List Op) (spans : List Span) → AreWithin ops spans → lines_in (ops ++ more) spans ≡ lines_in ops spans
lines_in-append ops more [] within = refl
lines_in-append ops more (span ∷ spans) within =
    ap (λ (l : Line). l ∷ lines_in (ops ++ more) spans) (line_in-append ops more span within.0)
    ∙ ap (λ (ls : List Line). line_in ops span ∷ ls) (lines_in-append ops more spans within.1)

-- the line of a span of the last operations
line_in_last : (ops more : List Op) (worker count start : ℕ) → count ≡ length more → start ≡ length ops → line_in (ops ++ more) (at.Worker worker count start) ≡ Worker worker more
line_in_last ops more worker count start e f =
    ap (Worker worker) (rw (e, f) (ap (take (length more)) (drop-append_seam ops more) ∙ take-length more))

-- one more line of a worker
pub lines_in-push : (ops more : List Op) (spans : List Span) (worker count start : ℕ) → count ≡ length more → start ≡ length ops → AreWithin ops spans
    → lines_in (ops ++ more) (spans ++ at.Worker worker count start ∷ []) ≡ lines_in ops spans ++ Worker worker more ∷ []
lines_in-push ops more spans worker count start e f within =
    map_push (line_in (ops ++ more)) spans (at.Worker worker count start)
    ∙ ap (λ (ls : List Line). ls ++ line_in (ops ++ more) (at.Worker worker count start) ∷ []) (lines_in-append ops more spans within)
    ∙ ap (λ (l : Line). lines_in ops spans ++ l ∷ []) (line_in_last ops more worker count start e f)

-- one more line of the maintenance thread
pub lines_in-keeper : (ops : List Op) (spans : List Span) (line : KeeperLine) → lines_in ops (spans ++ at.Keeper line ∷ []) ≡ lines_in ops spans ++ Keeper line ∷ []
lines_in-keeper ops spans line = map_push (line_in ops) spans (at.Keeper line)

-- a span stays within operations as more are added
IsWithin-append : (ops more : List Op) (span : Span) → IsWithin ops span → IsWithin (ops ++ more) span
IsWithin-append ops more (at.Keeper line) is = tt
IsWithin-append ops more (at.Worker worker count start) is = let end = is.0 in (omega (arith, length-append ops more), is.1)

-- the same of all spans
pub AreWithin-append : (ops more : List Op) (spans : List Span) → AreWithin ops spans → AreWithin (ops ++ more) spans
AreWithin-append ops more spans within = all_weaker (IsWithin ops) (IsWithin (ops ++ more)) (IsWithin-append ops more) spans within

-- one more span within the operations
pub AreWithin-push : (ops more : List Op) (spans : List Span) (worker count start : ℕ) → count ≡ length more → start ≡ length ops → length more ≤ 16 → AreWithin ops spans
    → AreWithin (ops ++ more) (spans ++ at.Worker worker count start ∷ [])
AreWithin-push ops more spans worker count start e f few within =
    all_push (IsWithin (ops ++ more)) spans (at.Worker worker count start) (AreWithin-append ops more spans within)
    (omega (arith, e, f, length-append ops more), omega (arith, e))
