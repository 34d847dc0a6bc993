-- What the workers' lines come to is a run of a round, whichever engine ran them.
use Rattle.std.proofs.Common.{◌≡◌, ◌∙◌, sym, ap, subst, refl, inl, inr, ℕ, zero, suc, ◌<◌, ◌≤◌, List, []}
use Rattle.std.proofs.Common.{◌∷◌, ◌++◌, length, map, arith, Option, Some, None}
use Rattle.std.specs.Prelude.{◌==◌, slice_get, MatchBool, Bool, true, false, option_to_list}
use Rattle.std.specs.List.{AllByRecursion, Contains}
use Rattle.std.specs.List.Sorted.{IsPermutation}
use Rattle.std.proofs.lemmas.List.{append-nil, length-map}
use Rattle.std.proofs.lemmas.List.Sorted.{Contains-permutation}
use Rattle.std.proofs.lemmas.Option.{same_Some}
use Rattle.lists.specs.Each.{all_weaker}
use Rattle.lists.specs.Elements.{in_cases, in_head, in_none, in_tail}
use Rattle.wire_form.specs.LogFile.{IsLineOf}
use Rattle.joint_crashes.specs.Marks.{IsAbove}
use Rattle.serial_model.specs.History.{Entry, Rises, state_after}
use Rattle.serial_model.specs.State.{State}
use Rattle.serial_model.specs.declared.decl.Decl.{Decl}
use Rattle.serial_model.specs.declared.number.Commit.{Commit}
use Rattle.serial_model.specs.declared.number.Number.{Number}
use Rattle.serial_model.specs.declared.op.Op.{Op}
use Rattle.script_grammar.specs.Script.{Round, keeper_lines, lines_of_worker, worker_lines}
use Rattle.worker_logs.specs.Changes.{IsLogged}
use Rattle.tx_script.specs.declared.answer.Answer.{Answer}
use Rattle.tx_script.specs.declared.answer.Answer.TheVariants as answers
use Rattle.tx_script.specs.declared.outcome.Outcome.{Outcome}
use Rattle.tx_script.specs.Causes.{IsTryCause, WorkersCaused}
use Rattle.tx_script.specs.Readied.{AllReadied}
use Rattle.tx_script.specs.Seen.{AllInOrder}
use Rattle.tx_script.specs.Run.{AdvancesTo, IsBetween, IsOfRound, IsRun, LogRefusal, OneForEach, Ran, Readied}
use Rattle.tx_script.specs.Run.{TryRefusal}
use Rattle.tx_script.specs.Run.{entries_of_workers, of_worker}
use Rattle.shared_rounds.specs.Shares.{shown_epochs}
use Rattle.round_engine.specs.Changes.{AreLogged}
use Rattle.round_engine.specs.Shares.{IsShare, RunsShares, Share, entries_in, logged_in}
use Rattle.round_engine.specs.Standing.{Standing}
use Rattle.round_engine.proofs.Places.{map_there, within_of}

-- the outcomes and the lines of shares
abbrev pub outcomes_of : List Share → List (List Outcome)
outcomes_of = map (λ (p : Share). p.outcomes)

abbrev pub lines_of : List Share → List (List (List Op))
lines_of = map (λ (p : Share). p.lines)

abbrev pub refusals_of : List Share → List (Option LogRefusal)
refusals_of = map (λ (p : Share). p.refusal)

-- what refused their tries
abbrev pub tries_of : List Share → List (List (List TryRefusal))
tries_of = map (λ (p : Share). p.tries_refused)

-- ---- lists

module _ {X : Type 0} (P : X → Type 0) where
  all_in : (xs : List X) → ((x : X) → Contains xs x → P x) → AllByRecursion P xs
  all_in [] each = tt
  all_in (x ∷ xs) each = (each x (in_head x xs), all_in xs (λ y has. each y (in_tail y x xs has)))

  in_all : (xs : List X) (x : X) → AllByRecursion P xs → Contains xs x → P x
  in_all [] x all has = absurd (in_none x has)
  in_all (y ∷ xs) x all has = elim (in_cases x y xs has) [
    | inl same ↦ subst P same all.0
    | inr rest ↦ in_all xs x all.1 rest
  ]

  -- what holds of each element holds in any order of them
  pub all_permuted : (xs ys : List X) → IsPermutation xs ys → AllByRecursion P ys → AllByRecursion P xs
  all_permuted xs ys same all = all_in xs (λ x has. in_all ys x all (Contains-permutation xs ys x same has))

-- the storages stay
pub same_decls : {tries : ℕ} {s t : Standing} {shares : List Share} → RunsShares tries s t shares → t.decls ≡ s.decls
same_decls runs = ap (λ (x : Standing). x.decls) runs.only

-- and so do the slots
pub same_slots : {tries : ℕ} {s t : Standing} {shares : List Share} → RunsShares tries s t shares → t.slots ≡ s.slots
same_slots runs = ap (λ (x : Standing). x.slots) runs.only

-- ---- one outcome for each line

pub shares_one_each : (decls : List Decl) (epoch first last tries : ℕ) (shares : List Share)
    → AllByRecursion (IsShare decls epoch first last tries) shares → OneForEach (lines_of shares) (outcomes_of shares)
shares_one_each decls epoch first last tries [] each = tt
shares_one_each decls epoch first last tries (p ∷ shares) each =
    (each.0.one_each, shares_one_each decls epoch first last tries shares each.1)

-- ---- causes

-- each refusal of a try has its cause
pub tries_caused : (slots : ℕ) (shares : List Share)
    → AllByRecursion (λ (p : Share). AllByRecursion (AllByRecursion (IsTryCause slots)) p.tries_refused) shares
    → AllByRecursion (AllByRecursion (AllByRecursion (IsTryCause slots))) (tries_of shares)
tries_caused slots [] each = tt
tries_caused slots (p ∷ shares) each = (each.0, tries_caused slots shares each.1)

-- each line has its cause
shares_caused : (decls : List Decl) (ran : Ran) (shares : List Share)
    → AllByRecursion (IsShare decls ran.printed.begin.epoch ran.printed.begin.draw ran.printed.end.draw
    ran.beside.tries)
    shares → WorkersCaused ran (refusals_of shares) (outcomes_of shares) (tries_of shares)
shares_caused decls ran [] each = tt
shares_caused decls ran (p ∷ shares) each =
    (each.0.come, each.0.unrun_last, shares_caused decls ran shares each.1)

-- ---- marks

-- of each worker the epochs of the marks that were shown of it, and what it had as its lines began
abbrev pub marks_of : List Share → List (List (Option ℕ))
marks_of shares = map shown_epochs (map (λ (share : Share). share.marks) shares)

abbrev pub readied_in : List Share → List (List Readied)
readied_in shares = map (λ (share : Share). share.readied) shares

-- each line began so
pub shares_readied : (decls : List Decl) (epoch first last tries : ℕ) (shares : List Share)
    → AllByRecursion (IsShare decls epoch first last tries) shares
    → AllReadied epoch (marks_of shares) (readied_in shares) (outcomes_of shares)
shares_readied decls epoch first last tries [] each = tt
shares_readied decls epoch first last tries (p ∷ shares) each =
    (each.0.readied, shares_readied decls epoch first last tries shares each.1)

-- the epochs of each worker's marks never fall
pub shares_rise : (decls : List Decl) (epoch first last tries : ℕ) (shares : List Share)
    → AllByRecursion (IsShare decls epoch first last tries) shares → AllInOrder (marks_of shares)
shares_rise decls epoch first last tries [] each = tt
shares_rise decls epoch first last tries (p ∷ shares) each =
    (each.0.rise, shares_rise decls epoch first last tries shares each.1)

-- ---- shares by their workers

pub logged_some : (shares : List Share) (w : ℕ) (p : Share) → slice_get shares w ≡ Some p
    → logged_in shares w ≡ p.logged
logged_some [] w p is = absurd cc
logged_some (q ∷ shares) zero p is = ap (λ (x : Share). x.logged) (same_Some q p is)
logged_some (q ∷ shares) (suc w) p is = logged_some shares w p is

pub shares_lines : (decls : List Decl) (epoch first last tries : ℕ) (shares : List Share) (w : ℕ)
    → AllByRecursion (IsShare decls epoch first last tries) shares → AllByRecursion (IsLineOf decls)
    (logged_in shares w)
shares_lines decls epoch first last tries [] w each = tt
shares_lines decls epoch first last tries (p ∷ shares) zero each = each.0.lines_are
shares_lines decls epoch first last tries (p ∷ shares) (suc w) each = shares_lines decls epoch first last tries
    shares w each.1

-- nothing was logged of no lines
pub logged_nothing : (decls : List Decl) (epoch first last tries : ℕ) (shares : List Share) (w : ℕ)
    → AllByRecursion (IsShare decls epoch first last tries) shares
    → ((p : Share) → slice_get shares w ≡ Some p → p.lines ≡ []) → logged_in shares w ≡ []
logged_nothing decls epoch first last tries [] w each none = refl
logged_nothing decls epoch first last tries (p ∷ shares) zero each none = each.0.none (none p refl)
logged_nothing decls epoch first last tries (p ∷ shares) (suc w) each none = logged_nothing decls epoch first last
    tries shares w each.1 none

-- what holds of the numbers of the commits holds of what was logged
logged_numbers : (P : Number → Type 0) (decls : List Decl) (worker : ℕ) (s : State) (es : List Entry)
    (commits : List Commit)
    → AllByRecursion (λ (e : Entry). P e.number) es → AreLogged decls worker s es commits
    → AllByRecursion (λ (c : Commit). P c.number) commits
logged_numbers P decls worker s [] commits all are = subst (AllByRecursion (λ (c : Commit). P c.number)) (sym are) tt
logged_numbers P decls worker s (e ∷ es) commits all are =
    subst (AllByRecursion (λ (c : Commit). P c.number)) (sym are.2)
    (of_entry (e.worker == worker) are.0 are.3
    (logged_numbers P decls worker (state_after decls s e) es are.1 all.1 are.4))
  where
    of_entry : (b : Bool) (first : Option Commit) → MatchBool b (IsLogged decls s e.ops e.number first) (first ≡ None)
        → AllByRecursion (λ (c : Commit). P c.number) are.1
        → AllByRecursion (λ (c : Commit). P c.number) (option_to_list first ++ are.1)
    of_entry b None is rest = rest
    of_entry true (Some c) is rest = (subst P (sym is.1) all.0, rest)
    of_entry false (Some c) is rest = absurd cc

-- each commit that was logged is above an epoch before the clock's
pub logged_above : {tries : ℕ} {s t : Standing} {shares : List Share} (w epoch : ℕ) → w < 8 → epoch < s.clock.epoch
    → RunsShares tries s t shares → AllByRecursion (IsAbove epoch) (logged_in shares w)
logged_above {s = s} {t = t} {shares = shares} w epoch below first runs =
    let o = runs.ordered 0 in
    all_weaker (λ (c : Commit). IsBetween s.clock t.clock c.number) (IsAbove epoch)
    (λ c is. omega (arith, is.epoch_from, first)) (logged_in shares w)
    (logged_numbers (IsBetween s.clock t.clock) s.decls w s.state o.ordered (logged_in shares w) o.numbers
    (o.logged w below))

-- the lines of worker w stand at w
pub worker_at : (round : Round) (w : ℕ) → w < 8 → slice_get (worker_lines round) w ≡ Some (lines_of_worker round w)
worker_at round zero h = refl
worker_at round (suc zero) h = refl
worker_at round (suc (suc zero)) h = refl
worker_at round (suc (suc (suc zero))) h = refl
worker_at round (suc (suc (suc (suc zero)))) h = refl
worker_at round (suc (suc (suc (suc (suc zero))))) h = refl
worker_at round (suc (suc (suc (suc (suc (suc zero)))))) h = refl
worker_at round (suc (suc (suc (suc (suc (suc (suc zero))))))) h = refl
worker_at round (suc (suc (suc (suc (suc (suc (suc (suc w)))))))) h = absurd (omega arith)

pub share_lines : (round : Round) (shares : List Share) (i : ℕ) (p : Share) → lines_of shares ≡ worker_lines round
    → slice_get shares i ≡ Some p → p.lines ≡ lines_of_worker round i
share_lines round shares i p are at =
    let many : length shares ≡ 8 = sym (length-map shares (λ (p : Share). p.lines)) ∙ ap length are in
    same_Some p.lines (lines_of_worker round i) (sym (map_there (λ (p : Share). p.lines) shares i p at)
    ∙ ap (λ l. slice_get l i) are ∙ worker_at round i (omega (arith, within_of shares i p at, many)))

-- ---- a run of a round

-- epochs go up
pub advances_up : (told : List Answer) (first last : ℕ) → AdvancesTo first told last → first ≤ last
advances_up [] first last is = omega (arith, is)
advances_up (answers.Epoch epoch ∷ more) first last is = omega (arith, is.0, advances_up more epoch last is.1)
advances_up (_ ∷ more) first last is = advances_up more first last is

-- the run is of these shares of the round's lines, each tried so often at most, and of its keeper lines
pub record IsRanOf (tries : ℕ) (round : Round) (s t : Standing) (shares : List Share) (ran : Ran) : Type 0 where
  pub lines : lines_of shares ≡ worker_lines round
  pub begin : ran.printed.begin ≡ s.clock
  pub draw : ran.printed.end.draw ≡ t.clock.draw
  pub outcomes : ran.printed.outcomes ≡ outcomes_of shares
  pub tried : ran.beside.tries ≡ tries
  pub refused : ran.beside.refused ≡ tries_of shares
  pub asked : ran.printed.asked ≡ keeper_lines round
  pub answers : length ran.printed.answers ≡ length (keeper_lines round)
  pub epoch : AdvancesTo s.clock.epoch ran.printed.answers ran.printed.end.epoch
  pub later : t.clock.epoch ≤ ran.printed.end.epoch

module _ {tries : ℕ} {s t : Standing} {shares : List Share} (round : Round) (ran : Ran)
    (runs : RunsShares tries s t shares) (of : IsRanOf tries round s t shares ran) where
  is_of_round : IsOfRound ran round
  is_of_round = record {
    outcomes = subst (λ l. OneForEach l ran.printed.outcomes) of.lines
        (subst (OneForEach (lines_of shares)) (sym of.outcomes)
        (shares_one_each s.decls s.clock.epoch s.clock.draw t.clock.draw tries shares runs.each));
    asked = of.asked;
    answers = of.answers;
  }

  -- the numbers are between the clocks of the round
  later : (n : Number) → IsBetween s.clock t.clock n → IsBetween ran.printed.begin ran.printed.end n
  later n is =
      let begin_epoch = ap (λ (n : Number). n.epoch) of.begin in
      let begin_draw = ap (λ (n : Number). n.draw) of.begin in
      record {
        epoch_from = omega (arith, is.epoch_from, begin_epoch);
        epoch_to = omega (arith, is.epoch_to, of.later);
        draw_from = omega (arith, is.draw_from, begin_draw);
        draw_before = omega (arith, is.draw_before, of.draw);
      }

  pub shares_run : (index : ℕ) (after : State) → after ≡ t.state
      → (r : IsRun s.decls index (round ∷ []) s.state s.clock (ran ∷ []) after)
      × (r.ordered ≡ (runs.ordered index).ordered)
  shares_run index after state =
      let o = runs.ordered index in
      let same : entries_of_workers index 0 ran.printed.outcomes (worker_lines round) ≡ entries_in index shares =
      ap (λ o. entries_of_workers index 0 o (worker_lines round)) of.outcomes
      ∙ ap (entries_of_workers index 0 (outcomes_of shares)) (sym of.lines) in
      let all : entries_of_workers index 0 ran.printed.outcomes (worker_lines round) ++ [] ≡ entries_in index shares =
      append-nil _ ∙ same in
      let between : AllByRecursion (λ (e : Entry). IsBetween ran.printed.begin ran.printed.end e.number) (entries_in index shares) =
      all_permuted (λ (e : Entry). IsBetween ran.printed.begin ran.printed.end e.number) (entries_in index shares) o.ordered o.same
      (all_weaker (λ (e : Entry). IsBetween s.clock t.clock e.number)
      (λ (e : Entry). IsBetween ran.printed.begin ran.printed.end e.number)
      (λ e is. later e.number is) o.ordered o.numbers) in (
        record {
          lines = (is_of_round, tt);
          workers = λ worker. subst (λ x. Rises (of_worker worker x)) (sym all) (o.workers worker);
          clocks = (
            of.begin,
            record {
              epoch = subst (λ e. AdvancesTo e ran.printed.answers ran.printed.end.epoch)
                  (sym (ap (λ (n : Number). n.epoch) of.begin)) of.epoch;
              draw = omega (arith, runs.draw, of.draw, ap (λ (n : Number). n.draw) of.begin);
              numbers = subst (AllByRecursion (λ (e : Entry). IsBetween ran.printed.begin ran.printed.end e.number)) (sym same) between;
            },
            tt,
          );
          ordered = o.ordered;
          same = subst (λ x. IsPermutation x o.ordered) (sym all) o.same;
          serial = o.serial;
          draws = o.draws;
          after = state ∙ o.after;
        },
        refl,
      )

  -- the causes of the outcomes
  pub run_caused : WorkersCaused ran (refusals_of shares) ran.printed.outcomes ran.beside.refused
  run_caused =
      let first : ran.printed.begin.draw ≡ s.clock.draw = ap (λ (n : Number). n.draw) of.begin in
      let began : ran.printed.begin.epoch ≡ s.clock.epoch = ap (λ (n : Number). n.epoch) of.begin in
      let each : AllByRecursion (IsShare s.decls ran.printed.begin.epoch ran.printed.begin.draw ran.printed.end.draw
      ran.beside.tries) shares =
      subst (λ n. AllByRecursion (IsShare s.decls ran.printed.begin.epoch ran.printed.begin.draw ran.printed.end.draw n)
      shares) (sym of.tried)
      (subst (λ e. AllByRecursion (IsShare s.decls e ran.printed.begin.draw ran.printed.end.draw tries) shares)
      (sym began)
      (subst (λ n. AllByRecursion (IsShare s.decls s.clock.epoch n ran.printed.end.draw tries) shares) (sym first)
      (subst (λ n. AllByRecursion (IsShare s.decls s.clock.epoch s.clock.draw n tries) shares)
      (sym of.draw) runs.each))) in
      subst (λ r. WorkersCaused ran (refusals_of shares) ran.printed.outcomes r) (sym of.refused)
      (subst (λ o. WorkersCaused ran (refusals_of shares) o (tries_of shares)) (sym of.outcomes)
      (shares_caused s.decls ran shares each))
