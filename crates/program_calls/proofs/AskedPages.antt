-- A script was looked through for lines that ask for a snapshot.
use Rattle.std.proofs.Common.{◌≡◌, ◌∙◌, sym, ap, subst, refl, inl, inr, ℕ, zero, suc, ◌+◌, ◌<◌, ◌≤◌, List, [], ◌∷◌, length, Option, Some, None, arith}
use Rattle.std.specs.Prelude.{slice_get}
use Rattle.std.specs.List.{Contains, filter_map}
use Rattle.std.specs.Option.{option_map}
use Rattle.std.proofs.lemmas.Bool.{cases_lt}
use Rattle.lists.specs.Elements.{in_cases, in_none}
use Rattle.script_grammar.specs.Script.{Line, Round, Script, keeper_line_of, keeper_lines}
use Rattle.script_grammar.specs.declared.lines.KeeperLine.{KeeperLine}
use Rattle.script_grammar.specs.declared.lines.KeeperLine.TheVariants.{Glean}
use Rattle.program_calls.specs.OnTheWay.{AsksForSnapshot}

-- ---- in a round

-- the line with this index asks for a snapshot
abbrev pub IsGleanAt : List Line → ℕ → Type 0
IsGleanAt lines k = option_map keeper_line_of (slice_get lines k) ≡ Some (Some Glean)

-- one line more that doesn't
pub glean_more : (lines : List Line) (index : ℕ) (found : Option KeeperLine)
    → ((k : ℕ) → k < index → IsGleanAt lines k → ⊥)
    → option_map keeper_line_of (slice_get lines index) ≡ Some found → (found ≡ Some Glean → ⊥)
    → (k : ℕ) → k < index + 1 → IsGleanAt lines k → ⊥
glean_more lines index found so is not k below here = elim (cases_lt k index) [
  | inl less ↦ so k less here
  | inr more ↦
      let same : k ≡ index = omega (arith, below, more) in
      not (some_same (sym is ∙ subst (IsGleanAt lines) same here))
]
  where
    some_same : Some found ≡ Some (Some Glean) → found ≡ Some Glean
    some_same is = cc

-- of the first of some lines, and of the others
none_in : (line : Line) (o : Option KeeperLine) (lines : List Line) → keeper_line_of line ≡ o → (o ≡ Some Glean → ⊥)
    → (Contains (filter_map keeper_line_of lines) Glean → ⊥) → Contains (filter_map keeper_line_of (line ∷ lines)) Glean → ⊥
none_in line None lines is not others has =
    others (rw is at has)
none_in line (Some asked) lines is not others has =
    elim (in_cases Glean asked (filter_map keeper_line_of lines) (rw is at has)) [
      | inl same ↦ not (ap Some same)
      | inr later ↦ others later
    ]

-- none of all lines does
pub no_glean : (lines : List Line) → ((k : ℕ) → k < length lines → IsGleanAt lines k → ⊥)
    → Contains (filter_map keeper_line_of lines) Glean → ⊥
no_glean [] none has = in_none Glean has
no_glean (line ∷ lines) none has =
    none_in line (keeper_line_of line) lines refl (λ is. none 0 (omega arith) (ap Some is))
    (no_glean lines (λ k below. none (suc k) (omega (arith, below)))) has

-- ---- in a script

-- one round more in which none does
pub ask_more : (script : Script) (index : ℕ) (found : Round)
    → ((k : ℕ) (round : Round) → k < index → slice_get script.rounds k ≡ Some round → Contains (keeper_lines round) Glean → ⊥)
    → slice_get script.rounds index ≡ Some found → (Contains (keeper_lines found) Glean → ⊥)
    → (k : ℕ) (round : Round) → k < index + 1 → slice_get script.rounds k ≡ Some round → Contains (keeper_lines round) Glean → ⊥
ask_more script index found so is not k round below at asks = elim (cases_lt k index) [
  | inl less ↦ so k round less at asks
  | inr more ↦
      let same : k ≡ index = omega (arith, below, more) in
      let one : Some found ≡ Some round = sym is ∙ subst (λ n. slice_get script.rounds n ≡ Some round) same at in
      not (subst (λ (r : Round). Contains (keeper_lines r) Glean) (sym (some_same one)) asks)
]
  where
    some_same : {r : Round} → Some found ≡ Some r → found ≡ r
    some_same is = cc
