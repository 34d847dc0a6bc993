-- The commits of a round are a serial run, in the order of their numbers.
use Rattle.std.proofs.Common.{◌≡◌, ◌∙◌, sym, ap, subst, ℕ, ◌+◌, ◌<◌, Bool, true, List, ◌∷◌, [], ◌++◌, length}
use Rattle.std.proofs.Common.{arith, inl, inr, Some}
use Rattle.std.specs.List.{AllByRecursion, Contains, filter, slice_get}
use Rattle.std.proofs.lemmas.Bool.{cases_order}
use Rattle.std.proofs.lemmas.List.Elements.{Contains-append_right}
use Rattle.std.proofs.lemmas.Option.{same_Some}
use Rattle.std.proofs.lemmas.List.Sorted.{Contains-permutation, IsPermutation-sym}
use Rattle.lists.specs.Fronts.{front_then}
use Rattle.lists.specs.Elements.{filter_only, in_filter, in_filtered}
use Rattle.serial_model.specs.Numbers.{IsBelow, not_below_itself, not_both_below}
use Rattle.serial_model.specs.declared.key.Key.{Key}
use Rattle.serial_model.specs.declared.number.Number.{Number}
use Rattle.serial_model.specs.Keys.{IsKeyBelow}
use Rattle.serial_model.specs.State.{State}
use Rattle.serial_model.specs.History.{Entry, Rises}
use Rattle.wire_form.specs.Items.{Rises as Ascending}
use Rattle.commit_core.specs.declared.attempt.Attempt.{Attempt}
use Rattle.commit_core.specs.Keys.{content_at}
use Rattle.serial_bridge.specs.Bridge.{Agrees, after_attempts}
use Rattle.serial_bridge.specs.Transaction.{AreAttemptsOf}
use Rattle.serial_bridge.specs.WriteLaws.{each_in, runs_behind, writes_behind}
use Rattle.serial_bridge.specs.WriteSets.{keys_of}
use Rattle.engine_seats.specs.Between.{counts}
use Rattle.engine_seats.specs.Gathered.{joined}
use Rattle.engine_pages.specs.declared.view.Dropped.{Dropped}
use Rattle.engine_pages.specs.declared.view.View.{View}
use Rattle.tx_script.specs.Run.{IsBetween, of_worker}
use Rattle.shared_rounds.specs.Changes.{AreLogged}
use Rattle.engine_pages.specs.declared.view.Met.{Met}
use Rattle.engine_pages.specs.declared.view.RefusalCause.{RefusalCause}
use Rattle.shared_rounds.specs.Contents.{after_commits}
use Rattle.shared_rounds.specs.Parts.{IsClockOf, IsRound, Part, clock_number}
use Rattle.shared_rounds.specs.Shares.{AreOrdered, entries_in}
use Rattle.shared_rounds.specs.Standing.{Standing}
use Rattle.shared_rounds.proofs.Contents.{run_leaves}
use Rattle.shared_rounds.proofs.Counted.{counts_now, ended_seen, serial, serial_now, split}
use Rattle.shared_rounds.proofs.Joined.{joined_made, joined_pairs, mines_of, shares_of}
use Rattle.shared_rounds.proofs.LoggedAlong.{AllRise, logged_along}
use Rattle.shared_rounds.proofs.Made.{Ascend, IsMade, logged_from}
use Rattle.shared_rounds.proofs.Numbers.{made_between}
use Rattle.shared_rounds.proofs.Orders.{ascend_filter, ascend_same, draws_rise, is_on, logged_on, pairs_each, pairs_on}
use Rattle.shared_rounds.proofs.Orders.{at_end_of, pairs_rise, placed_below, rise_pairs}
use Rattle.shared_rounds.proofs.Pairs.{ArePairs, pairs_attempts, pairs_permuted}
use Rattle.shared_rounds.proofs.Seats.{mine_ascends, mine_at, mine_logged, mine_on}

-- where the engine stands, with the layout's storages, these refusals, marks and pages, and what these drops came to
abbrev pub standing_at : View → State → Number → List Attempt → List RefusalCause → List Met → List (List ℕ)
    → List Dropped → Bool → Standing
standing_at v state clock mine refused met pages drops done = record {
  decls = v.layout.decls;
  state = state;
  opening = v.layout.opening;
  clock = clock;
  mine = mine;
  refused = refused;
  met = met;
  slots = v.layout.slots;
  pages = pages;
  resident = v.layout.resident;
  drops = drops;
  ended = done;
}

module _ (tries : ℕ) (was now : View) (parts : List Part) (r : IsRound tries was now parts) where
  new_in : (a : Attempt) → Contains (split tries was now parts r).new a → Contains (joined (mines_of parts)) a
  new_in a has =
      Contains-permutation (split tries was now parts r).new (joined (mines_of parts)) a
      (IsPermutation-sym (joined (mines_of parts)) (split tries was now parts r).new
      (split tries was now parts r).same) has

  in_new : (a : Attempt) → Contains (joined (mines_of parts)) a → Contains (split tries was now parts r).new a
  in_new a has =
      Contains-permutation (joined (mines_of parts)) (split tries was now parts r).new a
      (split tries was now parts r).same
      has

  new_made : (a : Attempt) → Contains (split tries was now parts r).new a → IsMade was.epoch was r.ended a
  new_made a has = joined_made tries was r.ended 0 parts r.parts_are a (new_in a has)

  -- the commits as they are told, with their attempts
  told_pairs : (index : ℕ) → ArePairs was.layout.decls (entries_in index (shares_of parts)) (joined (mines_of parts))
  told_pairs index = joined_pairs tries was r.ended index 0 parts r.parts_are

  told_on : (worker : ℕ) → filter (is_on worker) (joined (mines_of parts)) ≡ mine_at parts worker
  told_on worker =
      let same : 0 + worker ≡ worker = omega arith in
      ap (λ (w : ℕ). filter (is_on w) (joined (mines_of parts))) (sym same)
      ∙ mine_on tries was r.ended 0 worker parts r.parts_are

  new_rise : AllRise (split tries was now parts r).new
  new_rise =
      each_in (λ (a : Attempt). Ascending IsKeyBelow (keys_of a.writes)) (split tries was now parts r).new
      (λ a has. (new_made a has).rise)

  -- what each worker told rises
  pub told_rises : (index worker : ℕ) → Rises (of_worker worker (entries_in index (shares_of parts)))
  told_rises index worker =
      pairs_rise was.layout.decls (of_worker worker (entries_in index (shares_of parts))) (mine_at parts worker)
      (subst (ArePairs was.layout.decls (of_worker worker (entries_in index (shares_of parts))))
      (told_on worker)
      (pairs_on was.layout.decls worker (entries_in index (shares_of parts)) (joined (mines_of parts))
      (told_pairs index)))
      (mine_ascends tries was r.ended 0 worker parts r.parts_are)

  -- those on a worker's seat are its part's
  new_on : (worker : ℕ) → Ascend (split tries was now parts r).new
      → filter (is_on worker) (split tries was now parts r).new ≡ mine_at parts worker
  new_on worker ascend =
      let here = told_on worker in
      ascend_same (filter (is_on worker) (split tries was now parts r).new) (mine_at parts worker)
      (ascend_filter (is_on worker) (split tries was now parts r).new ascend)
      (mine_ascends tries was r.ended 0 worker parts r.parts_are)
      (λ a has. subst (λ (l : List Attempt). Contains l a) here
      (in_filtered (is_on worker) a (joined (mines_of parts))
      (new_in a (in_filter (is_on worker) a (split tries was now parts r).new has))
      (filter_only (is_on worker) a (split tries was now parts r).new has)))
      (λ a has.
      let there = subst (λ (l : List Attempt). Contains l a) (sym here) has in
      in_filtered (is_on worker) a (split tries was now parts r).new
      (in_new a (in_filter (is_on worker) a (joined (mines_of parts)) there))
      (filter_only (is_on worker) a (joined (mines_of parts)) there))

  -- a new one is among those that count, where the history has it
  new_placed : (a : Attempt) → Contains (split tries was now parts r).new a
      → (place : ℕ) × (slice_get now.history place ≡ Some a) × (a.number.draw ≡ was.layout.first.draw + place)
      × (counts now.decided a ≡ true)
  new_placed a has =
      let m = new_made a has in
      let seen = ended_seen tries was now parts r in
      let among = subst (λ (l : List Attempt). Contains l a) (sym (counts_now tries was now parts r))
      (Contains-append_right was.mine (split tries was now parts r).new a has) in (
        length m.all,
        at_end_of m.all now.history a (front_then (m.all ++ a ∷ []) r.ended.history now.history m.order seen.history),
        m.draw,
        filter_only (counts now.decided) a now.history among,
      )

  -- the later one of two was drawn later
  new_draws : (a b : Attempt) → Contains (split tries was now parts r).new a
      → Contains (split tries was now parts r).new b → IsBelow a.number b.number → a.number.draw < b.number.draw
  new_draws a b has there below =
      let one = new_placed a has in
      let two = new_placed b there in
      elim (cases_order one.0 two.0) [
        | inl same ↦
            let is : a ≡ b = same_Some a b (sym one.1 ∙ ap (slice_get now.history) same ∙ two.1) in
            absurd (not_below_itself a.number b.number (ap (λ (x : Attempt). x.number) is) below)
        | inr other ↦ elim other [
          | inl less ↦ omega (arith, less, one.2, two.2)
          | inr more ↦ absurd (not_both_below a.number b.number below
              (placed_below (counts now.decided) (content_at was.layout.opening some_key).number now.history two.0 one.0
              b a ((serial tries was now parts r).rising some_key) two.1 one.1 more two.3 one.3))
        ]
      ]
    where
      some_key : Key
      some_key = record { storage = 0; key = 0 }

  pub ordered_so : (index : ℕ) (state : State) (clock : Number) (mine_was mine : List Attempt)
      (before after : List RefusalCause) (first_met last_met : List Met) (first_pages last_pages : List (List ℕ))
      (first_drops last_drops : List Dropped) (done : Bool)
      → Agrees was.layout.decls state (after_attempts (content_at was.layout.opening) was.mine) → IsClockOf clock was
      → AreOrdered index (standing_at was state clock mine_was before first_met first_pages first_drops done)
      (standing_at was (after_commits state (split tries was now parts r).new)
      (clock_number r.clock) mine after last_met last_pages last_drops done)
      (shares_of parts)
  ordered_so index state clock mine_was mine before after first_met last_met first_pages last_pages first_drops
      last_drops done agrees at =
      let decls = was.layout.decls in
      let new = (split tries was now parts r).new in
      let moved = pairs_permuted decls (entries_in index (shares_of parts)) (joined (mines_of parts)) new
      (told_pairs index) (split tries was now parts r).same in
      let fs : List Entry = moved.0 in
      let pairs : ArePairs decls fs new = moved.2 in
      let are : AreAttemptsOf decls fs new = pairs_attempts decls fs new pairs in
      let serial = serial_now tries was now parts r in
      let runs = runs_behind decls state was.layout.opening was.mine new fs serial agrees are in
      let ascend : Ascend new = rise_pairs decls fs new pairs runs.run.rising in
      let numbers : AllByRecursion (λ (e : Entry). IsBetween clock (clock_number r.clock) e.number) fs =
      pairs_each (IsBetween clock (clock_number r.clock)) decls fs new pairs
      (λ a has. made_between tries was now parts r clock at a (new_in a has)) in
      record {
        ordered = fs;
        same = moved.1;
        serial = runs.run;
        draws = draws_rise decls fs new pairs ascend new_draws;
        after = run_leaves decls state fs new
            (after_attempts (content_at was.layout.opening) (was.mine ++ new)) runs;
        numbers = numbers;
        workers = told_rises index;
        logged = λ worker below.
            subst (AreLogged decls worker state fs)
            (logged_on decls worker fs new pairs ∙ ap logged_from (new_on worker ascend)
            ∙ mine_logged tries was r.ended 0 worker parts r.parts_are)
            (logged_along decls worker state fs new are
            (writes_behind decls state was.layout.opening was.mine new fs serial agrees are) new_rise);
      }
