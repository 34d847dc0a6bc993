-- Each joint crash stands for one savepoint, from what holds of each device by itself.
use Rattle.std.proofs.Common.{◌≡◌, ◌≤◌, inl, inr, ℕ, List, Some, sym, ◌∙◌, subst, arith}
use Rattle.std.specs.List.{Contains}
use Rattle.std.proofs.lemmas.Bool.{cases_lt}
use Rattle.log_writer.specs.declared.records.Tie.{Tie}
use Rattle.log_writer.specs.Points.{sequence_of}
use Rattle.lists.specs.Fronts.{IsFront}
use Rattle.joint_crashes.specs.Images.{Images}
use Rattle.joint_crashes.specs.JointCrash.{Parts, Moments, IsJointCrash, IsSince}
use Rattle.joint_crashes.specs.Story.{Story, IsTold, StandsFor}

-- A joint crash since some moments stands for one of the savepoints that are told.
pub crash_stands : {D : Type 0} {clock : D → ℕ} {image_at : D → ℕ → List ℕ → Type 0} {story : Story}
    {from : Moments} {low high : ℕ} {parts : Parts D} {at : Moments} {found : Images}
    → IsTold clock image_at story from low high parts → IsSince from at → IsJointCrash clock image_at parts at found
    → (k : ℕ) × (low ≤ k) × (k ≤ high) × StandsFor clock image_at story parts found k
crash_stands {clock = clock} {image_at = image_at} {story = story} {parts = parts} {at = at}
    {found = found} told since crash =
    let named = told.save.names at.save found.save since.save crash.images.save_come crash.images.save in
    let k = named.0 in
    let number : sequence_of (story.point k) ≡ k = told.save.numbered k named.1 named.2 in
    let stands : StandsFor clock image_at story parts found k = record {
      names = named.3;
      pages = told.snaps.since k at.snaps named.1 named.2 since.snaps crash.images.snaps_come
          (λ tie has is. crash.stored (story.point k) named.3 tie has (is ∙ sym number))
          found.snaps crash.images.snaps;
      counted = λ n bank there.
          let alike = crash.alike (story.point k) named.3 n bank there in
          let is = (told.bank n bank there).kept k (at.bank n) alike.front named.1 named.2 (since.bank n)
          (crash.images.bank_come n bank there)
          (λ began after cut less. crash.past (story.point k) named.3 n bank there began after cut
          (omega (arith, less, number)))
          (λ began after cut less. elim (cases_lt began (at.bank n)) [
            | inr before ↦ before
            | inl past ↦ elim (told.allowed n began after cut) [
              | inl first ↦ absurd (omega (arith, less, first, named.1))
              | inr tied ↦
                  let end = crash.ended n bank there began after cut past tied.0 tied.1 tied.2 tied.3 tied.4 in
                  let at_least = told.save.ended tied.0 tied.1 at.save found.save k tied.2 tied.4 since.save end
                  crash.images.save_come crash.images.save named.1 named.2 named.3 in
                  absurd (omega (arith, less, tied.3, at_least))
            ]
          ])
          (found.bank n) (crash.images.bank n bank there)
          (alike.size ∙ sym (told.sized n k bank there named.1 named.2))
          alike.same in
          subst (λ l. IsFront l (found.bank n)) is (alike.same (found.bank n) (crash.images.bank n bank there));
    } in
    (k, named.1, named.2, stands)

-- A stop past the end of a store stands for its savepoint or for a later one, so whoever was told of it finds no less.
pub crash_covers : {D : Type 0} {clock : D → ℕ} {image_at : D → ℕ → List ℕ → Type 0} {story : Story}
    {from : Moments} {low high : ℕ} {parts : Parts D} {at : Moments} {found : Images} (tie : Tie) (end : ℕ)
    → IsTold clock image_at story from low high parts → IsSince from at → IsJointCrash clock image_at parts at found
    → Contains parts.ties tie → tie.ended ≡ Some end → end ≤ at.save
    → (k : ℕ) × (low ≤ k) × (k ≤ high) × (tie.sequence ≤ k) × StandsFor clock image_at story parts found k
crash_covers {at = at} {found = found} tie end told since crash has ended past =
    let k = crash_stands told since crash in (
      k.0,
      k.1,
      k.2,
      told.save.ended tie end at.save found.save k.0 has ended since.save past crash.images.save_come
          crash.images.save k.1 k.2 k.3.names,
      k.3,
    )
