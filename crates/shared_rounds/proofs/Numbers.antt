-- The numbers of a round's commits lie between the clocks.
use Rattle.std.proofs.Common.{◌≡◌, sym, ap, subst, refl, ℕ, ◌+◌, ◌/◌, ◌%◌, ◌^◌, ◌≤◌, List, [], ◌∷◌}
use Rattle.std.proofs.Common.{◌++◌, length, arith}
use Rattle.std.proofs.Common.{inl, inr, length-append}
use Rattle.std.specs.List.{Contains}
use Rattle.std.proofs.lemmas.Bool.{cases_order}
use Rattle.std.proofs.lemmas.List.Elements.{Contains-append_right}
use Rattle.lists.specs.Elements.{in_head}
use Rattle.lists.specs.Fronts.{IsFront, front_length, front_within}
use Rattle.serial_model.specs.declared.number.Number.{Number}
use Rattle.serial_model.specs.Numbers.{IsBelow, not_below_itself}
use Rattle.wire_form.specs.Words.{number_word}
use Rattle.commit_core.specs.declared.attempt.Attempt.{Attempt}
use Rattle.engine_seats.specs.Gathered.{joined}
use Rattle.engine_pages.specs.Words.{IsSmall}
use Rattle.engine_pages.specs.declared.layout.Layout.{Layout}
use Rattle.engine_pages.specs.declared.view.View.{View}
use Rattle.tx_script.specs.Run.{IsBetween}
use Rattle.shared_rounds.specs.Parts.{IsClockOf, IsRound, Part, clock_number}
use Rattle.shared_rounds.proofs.Joined.{joined_made, mines_of}
use Rattle.shared_rounds.proofs.Made.{IsMade, in_front}

-- an attempt that is new stands behind all that was there
stands_behind : (was all history : List Attempt) (a : Attempt) → IsFront was history → IsFront (all ++ a ∷ []) history
    → ((b : Attempt) → Contains was b → IsBelow b.number a.number) → length was ≤ length all
stands_behind was all history a front order above = elim (cases_order (length all) (length was)) [
  | inl same ↦ omega arith
  | inr other ↦ elim other [
    | inl less ↦
        let long : length (all ++ a ∷ []) ≤ length was =
        subst (λ n. n ≤ length was) (sym (length-append all (a ∷ []))) (omega arith) in
        absurd (not_below_itself a.number a.number refl (above a (in_front (all ++ a ∷ []) was a
        (front_within (all ++ a ∷ []) was history order front long)
        (Contains-append_right all (a ∷ []) a (in_head a [])))))
    | inr more ↦ omega arith
  ]
]

pub epoch_of_word : (number : Number) (n : ℕ) → number_word number ≡ n → IsSmall number → number.epoch ≡ n / 2 ^ 40
epoch_of_word number n found small = let draw = small.draw in omega arith

epoch_up : (a number : Number) → IsBelow a number → a.epoch ≤ number.epoch
epoch_up a number (inl less) = omega arith
epoch_up a number (inr same) = let epoch = same.0 in omega arith

module _ (tries : ℕ) (was now : View) (parts : List Part) (r : IsRound tries was now parts) where
  -- the clock's epoch is that which the keeper knew behind the lines
  pub ended_epoch : r.clock / 2 ^ 40 ≡ r.ended.epoch
  ended_epoch = r.audited.1.keepers r.role

  -- none before that of the round's begin
  pub later_epoch : was.epoch ≤ r.clock / 2 ^ 40
  later_epoch = omega (arith, r.epoch, ended_epoch)

  -- all draws of the round are below the clock
  pub ended_draws : was.layout.first.draw + length r.ended.history ≤ r.clock % 2 ^ 40
  ended_draws =
      let draws = r.audited.1.draws in
      let long = front_length r.ended.history r.audited.0.history r.audited.1.history in
      let first : r.ended.layout.first.draw ≡ was.layout.first.draw = ap (λ (l : Layout). l.first.draw) r.layout in
      omega arith

  pub made_between : (clock : Number) → IsClockOf clock was → (a : Attempt) → Contains (joined (mines_of parts)) a
      → IsBetween clock (clock_number r.clock) a.number
  made_between clock at a has =
      let m : IsMade was.epoch was r.ended a = joined_made tries was r.ended 0 parts r.parts_are a has in
      let order = front_length (m.all ++ a ∷ []) r.ended.history m.order in
      let long : length (m.all ++ a ∷ []) ≡ length m.all + 1 = length-append m.all (a ∷ []) in
      let behind = stands_behind was.history m.all r.ended.history a r.seen.history m.order m.above in
      let ends = ended_draws in
      let draw = m.draw in
      let from = at.draw in
      let since = m.epoch in
      let begins = at.epoch in
      let high = epoch_up a.number r.audited.1.number (r.audited.1.below a
      (in_front r.ended.history r.audited.0.history a r.audited.1.history m.drawn)) in
      let word = epoch_of_word r.audited.1.number r.clock r.audited.1.found r.audited.1.small in record {
        epoch_from = omega arith;
        epoch_to = omega arith;
        draw_from = omega arith;
        draw_before = omega arith;
      }
