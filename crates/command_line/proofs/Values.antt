-- Words that clap takes for values of a command with arguments: each, but for one `--`.
use Rattle.std.proofs.Common.{◌≡◌, ◌∙◌, refl, sym, ap, ap₂, ℕ, zero, suc, ◌==◌, Bool, true, false, List, [], ◌∷◌, ◌++◌, length, Option, Some, None, inl, inr}
use Rattle.std.specs.Prelude.{codes, slice_get, ◌⊎◌, ⊤}
use Rattle.std.specs.Str.{bytes_eq, chars}
use Rattle.clap.specs.Lexer.{long_of, short_of}
use Rattle.clap.specs.Walk.{Held, Text, idle, plain, value, after_flag, bundle_met, bundle_step, long_or_other, short_or_plain, word_met}
use Rattle.decimals.specs.Numbers.{number_of}
use Rattle.command_line.specs.Options.{Verb, run, dump, snaps, snapshot, make}
use Rattle.command_line.proofs.Steps.{shape_of}

-- the command has arguments
abbrev pub TakesSome : Verb → Type 0
TakesSome run = ⊥
TakesSome dump = ⊥
TakesSome snaps = ⊥
TakesSome snapshot = ⊤
TakesSome make = ⊤

-- the word is taken for a value
abbrev pub IsValue : Bool → Text → Type 0
IsValue is_trailing word = (is_trailing ≡ true) ⊎ (bytes_eq word (codes "--") ≡ false)

-- no word is a flag, so each that isn't `--` is a value
step_value : (v : Verb) → TakesSome v → (x : Option ℕ) (word flags : Text) (h : Held) (k : ℕ)
    → after_flag (shape_of v).rules idle word (bundle_step (shape_of v).rules x flags 0 plain h (bundle_met (shape_of v).rules k)).0
    (bundle_step (shape_of v).rules x flags 0 plain h (bundle_met (shape_of v).rules k)).1 ≡ (h, value)
step_value run some x word flags h k = absurd some
step_value dump some x word flags h k = absurd some
step_value snaps some x word flags h k = absurd some
step_value snapshot some None word flags h k = refl
step_value snapshot some (Some x) word flags h k = refl
step_value make some None word flags h k = refl
step_value make some (Some x) word flags h k = refl

short_value : (v : Verb) → TakesSome v → (word flags : Text) (h : Held) (k : ℕ)
    → after_flag (shape_of v).rules idle word (bundle_met (shape_of v).rules k flags 0 plain h).0 (bundle_met (shape_of v).rules k flags 0 plain h).1 ≡ (h, value)
unfolding bundle_met
short_value v some word flags h zero = refl
short_value v some word flags h (suc k) = step_value v some (slice_get (chars flags) 0) word flags h k

long_value : (v : Verb) → TakesSome v → (word : Text) (p : Text × Option Text) (h : Held)
    → long_or_other (shape_of v).rules idle word (Some p) h ≡ (h, value)
long_value run some word p h = absurd some
long_value dump some word p h = absurd some
long_value snaps some word p h = absurd some
long_value snapshot some word p h = refl
long_value make some word p h = refl

other_value : (v : Verb) → TakesSome v → (word : Text) (long : Option (Text × Option Text)) (h : Held) → h.skip ≡ 0
    → long_or_other (shape_of v).rules idle word long h ≡ (h, value)
other_value v some word (Some p) h e = long_value v some word p h
other_value v some word None h e = go (short_of word)
  where
    whole : record h { skip = 0 } ≡ h
    whole = ap (λ (n : ℕ). record h { skip = n }) (sym e)

    go : (short : Option Text) → short_or_plain (shape_of v).rules idle word short h ≡ (h, value)
    go None = refl
    go (Some flags) =
        ap₂ (λ (n : ℕ) (g : Held). after_flag (shape_of v).rules idle word (bundle_met (shape_of v).rules (length flags) flags n plain g).0
        (bundle_met (shape_of v).rules (length flags) flags n plain g).1) e whole
        ∙ short_value v some word flags h (length flags)

pub met_value : (v : Verb) → TakesSome v → (t : Bool) (position : ℕ) (word : Text) (h : Held) → h.skip ≡ 0 → IsValue t word
    → word_met (shape_of v).rules [] t idle position word h ≡ (h, value)
met_value v some true position word h e is = refl
met_value v some false position word h e (inl is) = absurd cc
met_value v some false position word h e (inr is) = rw is (other_value v some word (long_of word) h e)

-- ---- words without a hyphen

-- a word that begins with no hyphen
pub record IsPlainWord (word : Text) : Type 0 where
  pub first : ℕ
  pub more : Text
  pub is : word ≡ first ∷ more
  pub no_hyphen : (first == 45) ≡ false

pub no_dash : (word : Text) → IsPlainWord word → bytes_eq word (codes "--") ≡ false
no_dash word p = rw (p.is, p.no_hyphen) refl

-- ---- words that are no numbers

-- the word is neither a number nor `--`
pub record IsBad (word : Text) : Type 0 where
  pub no_number : number_of word ≡ None
  pub no_dash : bytes_eq word (codes "--") ≡ false

-- such a word is among these
abbrev pub HasBad : List Text → Type 0
HasBad [] = ⊥
HasBad (word ∷ rest) = IsBad word ⊎ HasBad rest

pub bad_without : (values : List Text) (word : Text) (rest : List Text) → bytes_eq word (codes "--") ≡ true → HasBad (values ++ word ∷ rest) → HasBad (values ++ rest)
bad_without [] word rest is (inl bad) = let d = bad.no_dash in absurd cc
bad_without [] word rest is (inr has) = has
bad_without (v ∷ values) word rest is (inl bad) = inl bad
bad_without (v ∷ values) word rest is (inr has) = inr (bad_without values word rest is has)
