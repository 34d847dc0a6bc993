-- Attempts given up, and the horizon, under a draw, a check that fails, a decision and an advance.
use Rattle.std.proofs.Common.{◌≡◌, ℕ, false, true≢false, inl, inr, List, [], ◌∷◌, ◌++◌, Some, refl, sym, ap, ◌∙◌, subst}
use Rattle.std.proofs.lemmas.Bool.{false_from_ne_true}
use Rattle.std.specs.List.{slice_get}
use Rattle.serial_model.specs.declared.number.Number.{Number}
use Rattle.serial_model.specs.Numbers.{IsBelow, below_then, not_below_itself}
use Rattle.commit_core.specs.declared.attempt.Attempt.{Attempt}
use Rattle.commit_core.specs.declared.seat.Stage.{Stage}
use Rattle.commit_core.specs.declared.seat.Stage.TheVariants.{Idle, Trying, Ended, Decided}
use Rattle.commit_core.specs.CoreState.{is_decided, is_given_up}
use Rattle.commit_core.specs.Sound.Numbers.{GivenUpStayOut, TriesGoOn, HorizonIsPast}
use Rattle.commit_core.specs.Lemmas.Numbers.{decided_cases, decided_old, decided_other}
use Rattle.lists.specs.Elements.{in_push_cases}

-- ---- given_up_stay_out. A list of numbers is one of decided ones, or one of those given up: the tests are one

pub given_up_later : (decided given_up : List Number) (t u : Number) → IsBelow t u → GivenUpStayOut decided given_up t → GivenUpStayOut decided given_up u
given_up_later decided given_up t u l out = λ n g. let was = out n g in (below_then n t u was.0 l, was.1)

-- the clock's number isn't given up
pub clock_goes_on : (decided given_up : List Number) (t : Number) → GivenUpStayOut decided given_up t → is_given_up given_up t ≡ false
clock_goes_on decided given_up t out = false_from_ne_true (is_given_up given_up t) (λ g. not_below_itself t t refl (out t g).0)

-- a number that isn't given up is decided
pub given_up_decided : (decided given_up : List Number) (t n : Number) → is_given_up given_up n ≡ false → GivenUpStayOut decided given_up t → GivenUpStayOut (decided ++ n ∷ []) given_up t
given_up_decided decided given_up t n e out = λ m g.
    let was = out m g in
    (was.0, decided_other decided n m (λ same. true≢false (sym g ∙ ap (is_given_up given_up) (sym same) ∙ e)) ∙ was.1)

-- a number that isn't decided is given up
pub given_up_more : (decided given_up : List Number) (t n : Number) → IsBelow n t → is_decided decided n ≡ false → GivenUpStayOut decided given_up t → GivenUpStayOut decided (given_up ++ n ∷ []) t
given_up_more decided given_up t n l e out = λ m g.
    elim (decided_cases given_up n m g) [
      | inl old ↦ out m old
      | inr new ↦ (subst (λ (x : Number). IsBelow x t) new l, ap (is_decided decided) (sym new) ∙ e)
    ]

-- ---- tries_go_on: another seat's attempt is given up

pub goes_on_given_up : (h : List Attempt) (given_up : List Number) (a : Attempt) (stage : Stage) → ((i : ℕ) (b : Attempt) → stage ≡ Trying i → slice_get h i ≡ Some b → a.number ≡ b.number → ⊥)
    → TriesGoOn h given_up stage → TriesGoOn h (given_up ++ a.number ∷ []) stage
goes_on_given_up h given_up a Idle other goes = tt
goes_on_given_up h given_up a (Trying i) other goes = λ b at. decided_other given_up a.number b.number (other i b refl at) ∙ goes b at
goes_on_given_up h given_up a Ended other goes = tt
goes_on_given_up h given_up a (Decided i) other goes = tt

-- ---- horizon_is_past

pub horizon_later : (horizon : Number) (h : List Attempt) (decided given_up : List Number) (t u : Number) → IsBelow t u → HorizonIsPast horizon h decided given_up t → HorizonIsPast horizon h decided given_up u
horizon_later horizon h decided given_up t u l past = record { clock = below_then horizon t u past.clock l; tries = past.tries }

pub horizon_drawn : (horizon : Number) (h : List Attempt) (decided given_up : List Number) (t u : Number) (a : Attempt) → a.number ≡ t → IsBelow t u
    → HorizonIsPast horizon h decided given_up t → HorizonIsPast horizon (h ++ a ∷ []) decided given_up u
horizon_drawn horizon h decided given_up t u a e l past = record {
  clock = below_then horizon t u past.clock l;
  tries = λ b m d g. elim (in_push_cases b a h m) [
    | inl old ↦ past.tries b old d g
    | inr new ↦ subst (λ (x : Number). IsBelow horizon x) (sym e ∙ ap (λ (x : Attempt). x.number) new) past.clock
  ];
}

pub horizon_decided : (horizon : Number) (h : List Attempt) (decided given_up : List Number) (t n : Number) → HorizonIsPast horizon h decided given_up t → HorizonIsPast horizon h (decided ++ n ∷ []) given_up t
horizon_decided horizon h decided given_up t n past = record {
  clock = past.clock;
  tries = λ b m d g. past.tries b m (false_from_ne_true (is_decided decided b.number) (λ e. true≢false (sym (decided_old decided n b.number e) ∙ d))) g;
}

pub horizon_given_up : (horizon : Number) (h : List Attempt) (decided given_up : List Number) (t n : Number) → HorizonIsPast horizon h decided given_up t → HorizonIsPast horizon h decided (given_up ++ n ∷ []) t
horizon_given_up horizon h decided given_up t n past = record {
  clock = past.clock;
  tries = λ b m d g. past.tries b m d (false_from_ne_true (is_given_up given_up b.number) (λ e. true≢false (sym (decided_old given_up n b.number e) ∙ g)));
}
