-- Rounds keep what they are as lines are added behind them.
use Rattle.std.proofs.Common.{◌≡◌, ℕ, ◌+◌, ◌-◌, ◌<◌, ◌≤◌, List, [], ◌∷◌, ◌++◌, length, take, drop, Some, refl, sym, ap, ◌∙◌, arith, length-drop, length-take}
use Rattle.std.specs.Prelude.{slice_get, OnOk, OnErr, Result, Ok, Err}
use Rattle.std.proofs.lemmas.List.{take-append-le, drop-append-le, get_or-drop, get_or-take}
use Rattle.std.proofs.lemmas.Option.{slice_get-get_or}
use Rattle.script_grammar.specs.Script.{Line, Round}
use Rattle.script_grammar.specs.Lines.{RoundsSoFar, round_in, rounds_in, AreRoundsWithin}
use Rattle.script_grammar.specs.declared.rounds.Stretch.{Stretch}

abbrev so_far : List Round → List Line → RoundsSoFar
so_far joined rest = record { joined = joined; rest = rest }

-- a stretch within the lines has the same round among more lines
round_in-append : (lines more : List Line) (stretch : Stretch) → stretch.start ≤ stretch.end → stretch.end ≤ length lines → round_in (lines ++ more) stretch ≡ round_in lines stretch
round_in-append lines more stretch order within =
    let count : ℕ = stretch.end - stretch.start in
    let long : stretch.end - stretch.start ≤ length (drop stretch.start lines) = omega (arith, length-drop stretch.start lines) in
    let e : take count (drop stretch.start (lines ++ more)) ≡ take count (drop stretch.start lines) =
    ap (take count) (drop-append-le stretch.start lines more (omega arith)) ∙ take-append-le count (drop stretch.start lines) more long in
    ap (λ (ls : List Line). let round : Round = record { lines = ls } in round) e

-- stretches that lie within the lines have the same rounds among more lines
rounds_in-append : (lines more : List Line) (stretches : List Stretch) → AreRoundsWithin lines stretches → rounds_in (lines ++ more) stretches ≡ rounds_in lines stretches
rounds_in-append lines more [] within = refl
rounds_in-append lines more (stretch ∷ stretches) within =
    ap (λ (r : Round). r ∷ rounds_in (lines ++ more) stretches) (round_in-append lines more stretch within.0.0 within.0.1)
    ∙ ap (λ (rs : List Round). round_in lines stretch ∷ rs) (rounds_in-append lines more stretches within.1)

-- lines behind the rounds are lines of the rest
pub rounds_more : (lines more : List Line) (stretches : List Stretch) (start : ℕ) → AreRoundsWithin lines stretches → start ≤ length lines
    → so_far (rounds_in (lines ++ more) stretches) (drop start (lines ++ more)) ≡ so_far (rounds_in lines stretches) (drop start lines ++ more)
rounds_more lines more stretches start within at =
    ap (λ (rs : List Round). so_far rs (drop start (lines ++ more))) (rounds_in-append lines more stretches within)
    ∙ ap (so_far (rounds_in lines stretches)) (drop-append-le start lines more at)

-- a line of a stretch is one of all lines
pub line_of_stretch : (lines : List Line) (start end index : ℕ) (line : Line) → start ≤ end → end ≤ length lines → index < length (take (end - start) (drop start lines))
    → slice_get lines (start + index) ≡ Some line → slice_get (take (end - start) (drop start lines)) index ≡ Some line
line_of_stretch lines start end index line order within below e =
    let len : length (take (end - start) (drop start lines)) ≡ end - start = omega (arith, length-take (end - start) (drop start lines), length-drop start lines) in
    slice_get-get_or (take (end - start) (drop start lines)) index line below
    ∙ ap Some (get_or-take (end - start) (drop start lines) index line (omega arith) ∙ get_or-drop start lines index line)
    ∙ sym (slice_get-get_or lines (start + index) line (omega arith)) ∙ e

-- what follows from what holds of a good answer
pub on_ok : {X E : Type 0} (r : Result X E) (P Q : Type 0) → OnOk r P → (P → Q) → OnOk r Q
on_ok (Ok x) P Q p f = f p
on_ok (Err e) P Q p f = tt

-- what holds holds of a refusal
pub on_err : {X E : Type 0} (r : Result X E) (P : Type 0) → P → OnErr r P
on_err (Ok x) P p = tt
on_err (Err e) P p = p
