-- Moments of marks from one call of a log file to the next, and what they make of stops.
use Rattle.std.proofs.Common.{◌≡◌, ◌≤◌, ◌<◌, ◌⊎◌, inl, inr, ℕ, List, [], Some}
use Rattle.std.proofs.Common.{sym, ◌∙◌, ap, subst, arith}
use Rattle.std.specs.List.{Contains}
use Rattle.std.proofs.lemmas.Bool.{cases_eq, cases_lt}
use Rattle.lists.specs.Fronts.{IsFront, front_none, front_then}
use Rattle.outside.specs.Disk.{Goes, Shortened}
use Rattle.outside.specs.Fronts.{AllBegin, KeepsSince}
use Rattle.outside.specs.Growth.{Grows}
use Rattle.log_writer.specs.declared.records.Tie.{Tie}
use Rattle.log_writer.specs.Newest.{names_one}
use Rattle.log_writer.specs.Points.{sequence_of}
use Rattle.joint_crashes.specs.Causal.{AreSince, BankSince, IsCausal, Since}
use Rattle.joint_crashes.specs.Images.{Images, counted_of}
use Rattle.joint_crashes.specs.JointCrash.{IsJointCrash, IsSince, Moments, Parts}
use Rattle.joint_crashes.specs.Story.{BankOpen, IsTold, Lasts, StandsFor, Story}
use Rattle.joint_crashes.specs.Crashes.Standing.{crash_covers, crash_stands}

-- ---- one log file

module _ {D : Type 0} {clock : D → ℕ} {image_at : D → ℕ → List ℕ → Type 0} where
  -- A log file that loses nothing of these bytes, while more savepoints are stored: those before are kept on, by what
  -- they count of these bytes, and each new one from the moment of its mark on.
  pub since_goes_on : {counted : ℕ → List ℕ} {since : ℕ → ℕ} {from low s high : ℕ} {old new : D} {was : List ℕ}
      {IsCut : ℕ → ℕ → Type 0}
      → BankSince clock image_at counted since from low s old IsCut
      → ((began after : ℕ) → IsCut began after → began < clock old)
      → ((k : ℕ) → low ≤ k → k ≤ s → ((began after : ℕ) → IsCut began after → after ≤ k) → IsFront (counted k) was)
      → Lasts clock image_at old new
      → ((m : ℕ) → clock old < m → m ≤ clock new → AllBegin (image_at new m) was)
      → ((k : ℕ) → s < k → k ≤ high → (clock old ≤ since k) × (since k ≤ clock new)
      × KeepsSince clock image_at new (since k) (counted k))
      → BankSince clock image_at counted since from low high new IsCut
  since_goes_on {counted = counted} {since = since} {s = s} {old = old} {new = new} {was = was} stood cuts counts lasts
      begins fresh = record {
        come = λ k at_least at_most. elim (cases_lt s k) [
          | inl later ↦ (fresh k later at_most).1
          | inr before ↦ omega (arith, stood.come k at_least before, lasts.later)
        ];
        past = λ k at_least at_most began after cut less. elim (cases_lt s k) [
          | inl later ↦ omega (arith, cuts began after cut, (fresh k later at_most).0)
          | inr before ↦ stood.past k at_least before began after cut less
        ];
        kept = λ k m at_least at_most since_from since_mark come uncut. elim (cases_lt s k) [
          | inl later ↦ λ c image. (fresh k later at_most).2 m c since_mark come image
          | inr before ↦ elim (cases_lt (clock old) m) [
            | inl past ↦ λ c image. front_then (counted k) was c
                (counts k at_least before (λ began after cut. elim (cases_lt k after) [
                  | inl newer ↦ absurd (omega (arith, uncut began after cut newer, cuts began after cut, past))
                  | inr older ↦ older
                ]))
                (begins m past come c image)
            | inr early ↦ λ c image.
                stood.kept k m at_least before since_from since_mark early uncut c (lasts.no_new m c early image)
          ]
        ];
      }

  -- A log file that grows in a round.
  pub since_grown : {counted : ℕ → List ℕ} {since : ℕ → ℕ} {from low s high : ℕ} {old new : D} {was now : List ℕ}
      {IsCut : ℕ → ℕ → Type 0}
      → BankSince clock image_at counted since from low s old IsCut
      → BankOpen clock image_at counted from low s old IsCut was
      → Grows clock image_at old new was now
      → ((k : ℕ) → s < k → k ≤ high → (clock old ≤ since k) × (since k ≤ clock new)
      × KeepsSince clock image_at new (since k) (counted k))
      → BankSince clock image_at counted since from low high new IsCut
  since_grown stood opened grown fresh = since_goes_on stood opened.past opened.counts
      (record { later = grown.later; kept = grown.kept; no_new = grown.no_new }) grown.begins fresh

  -- A log file is cut of which the newest savepoint counts nothing.
  pub since_cut : {counted : ℕ → List ℕ} {since : ℕ → ℕ} {from low high : ℕ} {old new : D}
      {IsCut Now : ℕ → ℕ → Type 0}
      → BankSince clock image_at counted since from low high old IsCut
      → ((began after : ℕ) → IsCut began after → Now began after)
      → ((began after : ℕ) → Now began after → IsCut began after ⊎ ((began ≡ clock old) × (after ≡ high)))
      → Now (clock old) high → counted high ≡ [] → Goes clock image_at (Shortened 0) old new
      → BankSince clock image_at counted since from low high new Now
  since_cut {counted = counted} {high = high} {old = old} {new = new} stood keeps splits this none goes = record {
    come = λ k at_least at_most. omega (arith, stood.come k at_least at_most, goes.later);
    past = λ k at_least at_most began after cut less. elim (splits began after cut) [
      | inl older ↦ stood.past k at_least at_most began after older less
      | inr is ↦ absurd (omega (arith, is.1, less, at_most))
    ];
    kept = λ k m at_least at_most since_from since_mark come uncut. elim (cases_lt (clock old) m) [
      | inr early ↦ λ c image. stood.kept k m at_least at_most since_from since_mark early
          (λ began after cut. uncut began after (keeps began after cut)) c (goes.no_new m c early image)
      | inl late ↦ elim (cases_eq k high) [
        | inl last ↦ λ c image. subst (λ l. IsFront l c) (sym (ap counted last ∙ none)) (front_none c)
        | inr other ↦ absurd (omega (arith, uncut (clock old) high this (omega (arith, at_most, other)), late))
      ]
    ];
  }

  -- cuts of other log files
  pub since_frame : {counted : ℕ → List ℕ} {since : ℕ → ℕ} {from low high : ℕ} {bank : D}
      {IsCut Now : ℕ → ℕ → Type 0}
      → ((began after : ℕ) → IsCut began after → Now began after)
      → ((began after : ℕ) → Now began after → IsCut began after)
      → BankSince clock image_at counted since from low high bank IsCut
      → BankSince clock image_at counted since from low high bank Now
  since_frame keeps back stood = record {
    come = stood.come;
    past = λ k at_least at_most began after cut. stood.past k at_least at_most began after (back began after cut);
    kept = λ k m at_least at_most since_from since_mark come uncut.
        stood.kept k m at_least at_most since_from since_mark come
        (λ began after cut. uncut began after (keeps began after cut));
  }

-- ---- stops

module _ {D : Type 0} {clock : D → ℕ} {image_at : D → ℕ → List ℕ → Type 0} {story : Story} {since : Since}
    {from : Moments} {low high : ℕ} {parts : Parts D} where
  -- A stop that could be at one instant is a joint crash: what its savepoint counts of a log file is in all images of
  -- that one's moment, since this isn't before the mark's.
  pub causal_crash : {at : Moments} {found : Images} → IsTold clock image_at story from low high parts
      → AreSince clock image_at story since from low high parts → IsSince from at
      → IsCausal clock image_at since parts at found → IsJointCrash clock image_at parts at found
  causal_crash {at = at} {found = found} told stood from_then crash =
      let named = told.save.names at.save found.save from_then.save crash.images.save_come crash.images.save in
      let k = named.0 in
      let number : sequence_of (story.point k) ≡ k = told.save.numbered k named.1 named.2 in
      record {
        images = crash.images;
        alike = λ point names n bank there.
            let same = names_one found.save point (story.point k) names named.3 in
            let marked : since k n ≤ at.bank n
            = subst (λ j. since j n ≤ at.bank n) (ap sequence_of same ∙ number) (crash.marked point names n bank there) in
            record {
              front = story.counted k n;
              size = told.sized n k bank there named.1 named.2 ∙ ap (λ p. counted_of p n) (sym same);
              same = (stood n bank there).kept k (at.bank n) named.1 named.2 (from_then.bank n) marked
                  (crash.images.bank_come n bank there)
                  (λ began after cut less. elim (cases_lt began (at.bank n)) [
                    | inr before ↦ before
                    | inl past ↦ elim (told.allowed n began after cut) [
                      | inl first ↦ absurd (omega (arith, less, first, named.1))
                      | inr tied ↦
                          let end = crash.ended n bank there began after cut past tied.0 tied.1 tied.2 tied.3 tied.4 in
                          let at_least = told.save.ended tied.0 tied.1 at.save found.save k tied.2 tied.4 from_then.save
                          end crash.images.save_come crash.images.save named.1 named.2 named.3 in
                          absurd (omega (arith, less, tied.3, at_least))
                    ]
                  ]);
            };
        past = λ point names n bank there began after cut less.
            let same = names_one found.save point (story.point k) names named.3 in
            let is : sequence_of point ≡ k = ap sequence_of same ∙ number in
            let marked : since k n ≤ at.bank n
            = subst (λ j. since j n ≤ at.bank n) is (crash.marked point names n bank there) in
            let past = (stood n bank there).past k named.1 named.2 began after cut (omega (arith, less, is)) in
            omega (arith, past, marked);
        stored = crash.stored;
        ended = crash.ended;
      }

  -- So it stands for a savepoint, and no premise speaks of the images of log files.
  pub causal_stands : {at : Moments} {found : Images} → IsTold clock image_at story from low high parts
      → AreSince clock image_at story since from low high parts → IsSince from at
      → IsCausal clock image_at since parts at found
      → (k : ℕ) × (low ≤ k) × (k ≤ high) × StandsFor clock image_at story parts found k
  causal_stands told stood from_then crash = crash_stands told from_then (causal_crash told stood from_then crash)

  -- And past the end of a store it stands for its savepoint or for a later one.
  pub causal_covers : {at : Moments} {found : Images} (tie : Tie) (end : ℕ)
      → IsTold clock image_at story from low high parts → AreSince clock image_at story since from low high parts
      → IsSince from at → IsCausal clock image_at since parts at found
      → Contains parts.ties tie → tie.ended ≡ Some end → end ≤ at.save
      → (k : ℕ) × (low ≤ k) × (k ≤ high) × (tie.sequence ≤ k) × StandsFor clock image_at story parts found k
  causal_covers tie end told stood from_then crash =
      crash_covers tie end told from_then (causal_crash told stood from_then crash)
