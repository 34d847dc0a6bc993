-- One log file from one cut to the next.
use Rattle.std.proofs.Common.{◌≡◌, ◌≤◌, ◌<◌, ◌+◌, ◌⊎◌, inl, inr, ℕ, List, [], length, refl, sym, ◌∙◌, ap, subst, arith}
use Rattle.std.proofs.lemmas.Bool.{cases_lt, cases_eq}
use Rattle.outside.specs.Disk.{Shortened, Goes, LeavesEach}
use Rattle.lists.specs.Fronts.{IsFront}
use Rattle.outside.specs.Fronts.{AllBegin}
use Rattle.outside.specs.Growth.{Grows}
use Rattle.joint_crashes.specs.Story.{BankTold, BankOpen}
use Rattle.lists.specs.Fronts.{front_then, front_same}
use Rattle.outside.specs.Fronts.{agrees_by}
use Rattle.std.proofs.lemmas.List.{nil_from_length}

module _ {D : Type 0} {clock : D → ℕ} {image_at : D → ℕ → List ℕ → Type 0} where
  module _ {counted : ℕ → List ℕ} {from low : ℕ} {IsCut : ℕ → ℕ → Type 0} where
    -- the calls of a worker
    pub bank_grows : {high : ℕ} {old new : D} {was now : List ℕ}
        → BankTold clock image_at counted from low high old IsCut
        → BankOpen clock image_at counted from low high old IsCut was → Grows clock image_at old new was now
        → BankTold clock image_at counted from low high new IsCut
        × BankOpen clock image_at counted from low high new IsCut now
    bank_grows {high = high} {old = old} {new = new} {was = was} {now = now} told opened grown = (
      record {
        began = omega (arith, told.began, grown.later);
        kept = λ k m front at_least at_most since come past before c image size all. elim (cases_lt (clock old) m) [
          | inr early ↦ told.kept k m front at_least at_most since early past before c
              (grown.no_new m c early image) size
              (λ d left. all d (grown.kept m d early left))
          | inl late ↦
              let last = opened.counts k at_least at_most (λ began after cut. elim (cases_lt k after) [
                | inr within ↦ within
                | inl less ↦ absurd (omega (arith, opened.past began after cut, before began after cut less))
              ]) in
              front_same front (counted k) now (grown.agrees m late come front all)
              (front_then (counted k) was now last grown.more) size
        ];
      },
      record {
        past = λ began after cut. omega (arith, opened.past began after cut, grown.later);
        now = grown.end;
        agrees = λ m since come past. elim (cases_lt (clock old) m) [
          | inr early ↦ λ front all. front_then front was now
              (opened.agrees m since early past front (λ c left. all c (grown.kept m c early left))) grown.more
          | inl late ↦ grown.agrees m late come
        ];
        counts = λ k at_least at_most last. front_then (counted k) was now
            (opened.counts k at_least at_most last) grown.more;
      },
    )

    -- stores, of whose savepoints the log file's parts are durable
    pub bank_stored : {s high : ℕ} {bank : D} {made : List ℕ} → BankTold clock image_at counted from low s bank IsCut
        → BankOpen clock image_at counted from low s bank IsCut made
        → ((began after : ℕ) → IsCut began after → after ≤ s)
        → ((k : ℕ) → s < k → k ≤ high → IsFront (counted k) made)
        → BankTold clock image_at counted from low high bank IsCut
        × BankOpen clock image_at counted from low high bank IsCut made
    bank_stored {s = s} {made = made} told opened older fronts = (
      record {
        began = told.began;
        kept = λ k m front at_least at_most since come past before c image size all. elim (cases_lt s k) [
          | inr first ↦ told.kept k m front at_least first since come past before c image size all
          | inl later ↦
              let is = opened.agrees m since come (λ began after cut.
              past began after cut (omega (arith, older began after cut, later))) front all in
              front_same front (counted k) made is (fronts k later at_most) size
        ];
      },
      record {
        past = opened.past;
        now = opened.now;
        agrees = opened.agrees;
        counts = λ k at_least at_most last. elim (cases_lt s k) [
          | inr first ↦ opened.counts k at_least first last
          | inl later ↦ fronts k later at_most
        ];
      },
    )

    -- a cut, where the newest savepoint counts nothing of the log file
    pub bank_cut : {high : ℕ} {old new : D} {Now : ℕ → ℕ → Type 0}
        → BankTold clock image_at counted from low high old IsCut
        → ((began after : ℕ) → IsCut began after → Now began after) → Now (clock old) high
        → counted high ≡ [] → Goes clock image_at (Shortened 0) old new
        → BankTold clock image_at counted from low high new Now
    bank_cut {high = high} {old = old} told keeps this none goes = record {
      began = omega (arith, told.began, goes.later);
      kept = λ k m front at_least at_most since come past before c image size all. elim (cases_lt (clock old) m) [
        | inr early ↦ told.kept k m front at_least at_most since early
            (λ began after cut. past began after (keeps began after cut))
            (λ began after cut. before began after (keeps began after cut))
            c (goes.no_new m c early image) size (λ d left. all d (goes.kept m d early left))
        | inl late ↦ elim (cases_eq k high) [
          | inl last ↦
              let empty : counted k ≡ [] = ap counted last ∙ none in
              nil_from_length front (size ∙ ap length empty) ∙ sym empty
          | inr other ↦ absurd (omega (arith, before (clock old) high this (omega arith)))
        ]
      ];
    }

    -- after which nothing is durable
    pub bank_cut_open : {high : ℕ} {old new : D} {Now : ℕ → ℕ → Type 0}
        → ((began after : ℕ) → IsCut began after → began < clock old)
        → ((began after : ℕ) → Now began after → IsCut began after ⊎ ((began ≡ clock old) × (after ≡ high)))
        → Now (clock old) high
        → counted high ≡ [] → LeavesEach clock image_at (Shortened 0) old new (clock new) → clock old < clock new
        → (d : List ℕ) → image_at old (clock old) d
        → BankOpen clock image_at counted from low high new Now []
    bank_cut_open {high = high} {old = old} {new = new} past_was splits this none each ticks d image = record {
      past = λ began after cut. elim (splits began after cut) [
        | inl older ↦ omega (arith, past_was began after older, ticks)
        | inr is ↦ omega (arith, is.0, ticks)
      ];
      now = λ c left. refl;
      agrees = λ m since come past. agrees_by (image_at new m) []
          (each.each m d [] (past (clock old) high this) come image
          (record { front = refl; no_longer = omega arith }));
      counts = λ k at_least at_most last.
          let same : k ≡ high = omega (arith, at_most, last (clock old) high this) in
          subst (λ l. IsFront l []) (sym (ap counted same ∙ none)) refl;
    }

    -- cuts of other devices
    pub bank_told_frame : {high : ℕ} {bank : D} {Now : ℕ → ℕ → Type 0}
        → ((began after : ℕ) → IsCut began after → Now began after)
        → BankTold clock image_at counted from low high bank IsCut
        → BankTold clock image_at counted from low high bank Now
    bank_told_frame keeps told = record {
      began = told.began;
      kept = λ k m front at_least at_most since come past before. told.kept k m front at_least at_most since come
          (λ began after cut. past began after (keeps began after cut))
          (λ began after cut. before began after (keeps began after cut));
    }

    pub bank_open_frame : {high : ℕ} {bank : D} {made : List ℕ} {Now : ℕ → ℕ → Type 0}
        → ((began after : ℕ) → IsCut began after → Now began after)
        → ((began after : ℕ) → Now began after → IsCut began after)
        → BankOpen clock image_at counted from low high bank IsCut made
        → BankOpen clock image_at counted from low high bank Now made
    bank_open_frame keeps adds opened = record {
      past = λ began after cut. opened.past began after (adds began after cut);
      now = opened.now;
      agrees = λ m since come past. opened.agrees m since come
          (λ began after cut. past began after (keeps began after cut));
      counts = λ k at_least at_most last. opened.counts k at_least at_most
          (λ began after cut. last began after (keeps began after cut));
    }

    -- a savepoint that counts nothing of the log file
    pub bank_emptied : {s : ℕ} {bank : D} → BankTold clock image_at counted from low s bank IsCut
        → counted (s + 1) ≡ []
        → BankTold clock image_at counted from low (s + 1) bank IsCut
    bank_emptied {s = s} told none = record {
      began = told.began;
      kept = λ k m front at_least at_most since come past before c image size all. elim (cases_eq k (s + 1)) [
        | inr other ↦ told.kept k m front at_least (omega arith) since come past before c image size all
        | inl last ↦ let empty : counted k ≡ [] = ap counted last
            ∙ none in nil_from_length front (size ∙ ap length empty) ∙ sym empty
      ];
    }

  -- a log file of which each image since then begins with what the newest savepoint counts
  pub bank_begun : {counted : ℕ → List ℕ} {from s : ℕ} {bank : D} {IsCut : ℕ → ℕ → Type 0} → from ≤ clock bank
      → ((m : ℕ) → from ≤ m → m ≤ clock bank → AllBegin (image_at bank m) (counted s))
      → BankTold clock image_at counted from s s bank IsCut
  bank_begun {counted = counted} {s = s} {bank = bank} came begins = record {
    began = came;
    kept = λ k m front at_least at_most since come past before c image size all.
        let same : k ≡ s = omega arith in
        subst (λ j. front ≡ counted j) (sym same)
        (front_same front (counted s) c (all c image) (begins m since come c image)
        (size ∙ ap (λ j. length (counted j)) same));
  }
