-- What follows from the first load of a read.
use Rattle.std.specs.Prelude.{◌≡◌, ℕ, not, List, [], ◌∷◌, filter, None}
use Rattle.std.proofs.Common.{inl, inr, true≢false, sym, ap, ◌∙◌}
use Rattle.lists.specs.Elements.{filter_only, in_push_cases}
use Rattle.serial_model.specs.declared.key.Key.{Key}
use Rattle.serial_model.specs.declared.number.Number.{Number}
use Rattle.homes.specs.declared.places.Content.{Content}
use Rattle.homes.specs.declared.places.Spot.{Spot}
use Rattle.commit_core.specs.declared.attempt.Attempt.{Attempt}
use Rattle.commit_core.specs.declared.part.Part.{Part}
use Rattle.commit_core.specs.declared.part.Word.TheVariants.{Record}
use Rattle.commit_core.specs.Keys.{nothing}
use Rattle.commit_core.specs.Lemmas.Keys.{same_word-self}
use Rattle.commit_core.specs.Parts.{record_part, same_word}
use Rattle.engine_pages.specs.declared.view.View.{View}
use Rattle.page_records.specs.Reads.{saw}
use Rattle.tree_records.specs.Reads.{IsKeptThere}

-- the content of the first pair
abbrev first_content : List (Key × Content) → Content
first_content [] = nothing
first_content (e ∷ more) = e.1

-- what was seen with a value is all that is kept of its record
pub saw_there : (all : List Attempt) (chosen : List Number) (k : Key) (x : Spot) (c : Content) (at n : ℕ) (v : View)
    → (c.value ≡ None → ⊥) → IsKeptThere (saw all chosen k x c at n v) k x
saw_there all chosen k x c at n v there d has none =
    elim (in_push_cases (record_part k x d) (record_part k x c)
    (filter (λ p. not (same_word p.word (Record x))) v.seat.kept) has) [
      | inl old ↦
          true≢false (sym (filter_only (λ (p : Part). not (same_word p.word (Record x))) (record_part k x d) v.seat.kept old)
          ∙ ap not (same_word-self (Record x)))
      | inr new ↦
          there (ap (λ (z : Content). z.value) (ap (λ (p : Part). first_content p.pairs) new) ∙ none)
    ]
