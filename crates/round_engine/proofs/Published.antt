-- The pages of the store stay published, where neither they nor the engine's pages change.
use Rattle.std.proofs.Common.{◌≡◌, ◌∙◌, sym, ap, ℕ, List, true, false, true≢false, refl}
use Rattle.std.specs.Prelude.{Result, Ok, Err}
use Rattle.lists.specs.declared.memory.OrMemory.{OrMemory}
use Rattle.wire_form.specs.declared.page.Page.{Page}
use Rattle.snapshot_store.specs.Content.{words_of}
use Rattle.gleaner.specs.declared.gleaning.GleanFault.{GleanFault}
use Rattle.gleaner.specs.declared.gleaning.Gleaned.{Gleaned}
use Rattle.gleaner.specs.declared.gleaning.Gleaned.TheVariants.{Empty, Snap}
use Rattle.round_engine.specs.Gleans.{has_made, pages_after}
use Rattle.round_engine.specs.Standing.{Standing}

-- the parts of an engine that publishing its pages speaks of are the same
pub record SamePages (s t : Standing) : Type 0 where
  pub pages : t.pages ≡ s.pages
  pub resident : t.resident ≡ s.resident

pub published_then : (s t : Standing) (pages now : List Page) (room most : ℕ) → SamePages s t → most ≡ room → now ≡ pages
    → (s.pages ≡ words_of pages) × (s.resident ≡ room) → (t.pages ≡ words_of now) × (t.resident ≡ most)
published_then s t pages now room most same rooms store was =
    (same.pages ∙ (was.0 ∙ ap words_of (sym store)), same.resident ∙ (was.1 ∙ sym rooms))

-- ---- a glean's pages

pub pages_made : (result : Result Gleaned (OrMemory GleanFault)) (pages made : List (List ℕ)) → has_made result ≡ true
    → pages_after result pages made ≡ made
pages_made (Ok (Snap epoch count)) pages made has = refl
pages_made (Ok Empty) pages made has = absurd (true≢false (sym has))
pages_made (Err fault) pages made has = absurd (true≢false (sym has))

pub pages_either : (result : Result Gleaned (OrMemory GleanFault)) (pages made : List (List ℕ)) → pages ≡ made
    → pages_after result pages made ≡ made
pages_either (Ok (Snap epoch count)) pages made same = refl
pages_either (Ok Empty) pages made same = same
pages_either (Err fault) pages made same = same

pub pages_kept : (result : Result Gleaned (OrMemory GleanFault)) (pages made : List (List ℕ)) → has_made result ≡ false
    → pages_after result pages made ≡ pages
pages_kept (Ok (Snap epoch count)) pages made none = absurd (true≢false none)
pages_kept (Ok Empty) pages made none = refl
pages_kept (Err fault) pages made none = refl
