-- The lines one after another, and the two draws of each.
use Rattle.std.proofs.Common.{◌≡◌, ◌∙◌, sym, ap, ap₂, ℕ, zero, suc, ◌+◌, ◌*◌, ◌-◌, ◌%◌, ◌<◌, ◌∷◌, ◌++◌, arith, add-one}
use Rattle.std.specs.Prelude.{flat_map}
use Rattle.std.specs.List.{range_with_len}
use Rattle.std.proofs.lemmas.Grind.{flat_map-append}
use Rattle.std.proofs.lemmas.List.{append-nil}
use Rattle.text_output.specs.Output.{Bytes}
use Rattle.script_maker.specs.Generator.{drawn, line_text, made_line, next_state, state_after}

-- ---- ranges

-- numbers in a row are some and those behind them
range-append : (a i m : ℕ) → range_with_len a (i + m) ≡ range_with_len a i ++ range_with_len (a + i) m
range-append a zero m =
    let from : a ≡ a + 0 = omega arith in
    let len : 0 + m ≡ m = omega arith in
    ap (range_with_len a) len ∙ ap (λ b. range_with_len b m) from
range-append a (suc i) m =
    let from : a + 1 + i ≡ a + suc i = omega arith in
    let len : suc i + m ≡ suc (i + m) = omega arith in
    ap (range_with_len a) len
    ∙ ap (λ xs. a ∷ xs) (range-append (a + 1) i m ∙ ap (λ b. range_with_len (a + 1) i ++ range_with_len b m) from)

-- one text more
pub texts_more : (text : ℕ → Bytes) (n : ℕ) → flat_map text (range_with_len 0 (n + 1)) ≡ flat_map text (range_with_len 0 n) ++ text n
texts_more text n =
    let from : 0 + n ≡ n = omega arith in
    ap (flat_map text) (range-append 0 n 1) ∙ flat_map-append text (range_with_len 0 n) (range_with_len (0 + n) 1)
    ∙ ap (λ w. flat_map text (range_with_len 0 n) ++ w) (append-nil (text (0 + n)) ∙ ap text from)

-- the texts from this one on
abbrev pub rest_from : (ℕ → Bytes) → ℕ → ℕ → Bytes
rest_from text i n = flat_map text (range_with_len (i + 1) (n - (i + 1)))

-- those before one, this one, and those behind it
pub texts_split : (text : ℕ → Bytes) (i n : ℕ) → i < n
    → (flat_map text (range_with_len 0 i) ++ text i) ++ rest_from text i n ≡ flat_map text (range_with_len 0 n)
texts_split text i n within =
    let whole : (i + 1) + (n - (i + 1)) ≡ n = omega arith in
    let from : 0 + (i + 1) ≡ i + 1 = omega arith in
    ap (λ w. w ++ rest_from text i n) (sym (texts_more text i))
    ∙ ap (λ b. flat_map text (range_with_len 0 (i + 1)) ++ flat_map text (range_with_len b (n - (i + 1)))) (sym from)
    ∙ sym (flat_map-append text (range_with_len 0 (i + 1)) (range_with_len (0 + (i + 1)) (n - (i + 1))))
    ∙ ap (flat_map text) (sym (range-append 0 (i + 1) (n - (i + 1))))
    ∙ ap (λ k. flat_map text (range_with_len 0 k)) whole

-- ---- draws

-- a line's two draws are the next two
pub record Draws (seed line state first second : ℕ) : Type 0 where
  pub before : state ≡ state_after seed (2 * line)
  pub one : first ≡ next_state state
  pub two : second ≡ next_state first

first_is : (seed line state first second : ℕ) → Draws seed line state first second → first ≡ state_after seed (suc (2 * line))
first_is seed line state first second d = d.one ∙ ap next_state d.before

second_is : (seed line state first second : ℕ) → Draws seed line state first second → second ≡ state_after seed (suc (2 * line + 1))
second_is seed line state first second d =
    d.two ∙ ap next_state (first_is seed line state first second d ∙ ap (state_after seed) (sym (add-one (2 * line))))

-- the line that is printed of them
pub line_is : (seed workers line state first second a b : ℕ) → Draws seed line state first second → a ≡ drawn first → b ≡ drawn second
    → line_text (line % workers) (a % 1024) (b % 512) ≡ made_line seed workers line
line_is seed workers line state first second a b d ea eb =
    ap₂ (λ x y. line_text (line % workers) (x % 1024) (y % 512)) (ea ∙ ap drawn (first_is seed line state first second d))
    (eb ∙ ap drawn (second_is seed line state first second d))

-- the state behind the line
pub state_behind : (seed line state first second : ℕ) → Draws seed line state first second → second ≡ state_after seed (2 * (line + 1))
state_behind seed line state first second d =
    let next : suc (2 * line + 1) ≡ 2 * (line + 1) = omega arith in
    second_is seed line state first second d ∙ ap (state_after seed) next
