-- Where the records stand whose keys a transaction writes newly: in no leaf that was last seen split.
use Rattle.std.proofs.Common.{◌≡◌, ◌⊎◌, inl, inr, ℕ, true, false, true≢false, List, [], ◌∷◌, ◌++◌, Option}
use Rattle.std.proofs.Common.{sym, ap, ◌∙◌, subst}
use Rattle.std.specs.Prelude.{Contains}
use Rattle.lists.specs.Elements.{any_in, in_cases, in_head, in_tail}
use Rattle.serial_model.specs.declared.key.Key.{Key}
use Rattle.homes.specs.Homes.{same_key}
use Rattle.homes.specs.Laws.{same_key-self}
use Rattle.tx_sets.specs.declared.reads.ReadEntry.{ReadEntry}
use Rattle.tx_sets.specs.declared.sets.Sets.{Sets}
use Rattle.tx_sets.specs.declared.writes.Write.{Write}
use Rattle.tx_sets.specs.Entries.{has_write, IsInserted}
use Rattle.engine_pages.specs.declared.view.View.{View}
use Rattle.page_commit.specs.Live.{reads_at}
use Rattle.page_commit.specs.Needs.{IsUnsplitAt}
use Rattle.tree_writes.specs.Writing.{IsInHalf, IsWholePlace, WritesWhole}

-- a key that some write is of is written
written_there : (k : Key) (ws : List Write) (y : Write) → Contains ws y → y.key ≡ k → has_write k ws ≡ true
written_there k ws y has is =
    any_in (λ (z : Write). same_key z.key k) ws y has (ap (λ (q : Key). same_key q k) is ∙ same_key-self k)

-- the key was written before
pub whole_again : (k : Key) (sets new : Sets) (v w : View) → has_write k sets.writes ≡ true → WritesWhole k sets new v w
whole_again k sets new v w written =
    record { each = λ y has is none. absurd (true≢false (sym written ∙ none)) }

-- nothing is written
pub whole_none : (k : Key) (sets new : Sets) (v w : View) → new.writes ≡ sets.writes → WritesWhole k sets new v w
whole_none k sets new v w same = record {
  each = λ y has is none.
      absurd (true≢false (sym (written_there k sets.writes y (subst (λ (l : List Write). Contains l y) same has) is)
      ∙ none));
}

-- beside one that was put in stands what stood there before
put_cases : (before after : List Write) (x y : Write) → Contains (before ++ x ∷ after) y
    → (x ≡ y) ⊎ Contains (before ++ after) y
put_cases [] after x y has = in_cases y x after has
put_cases (z ∷ before) after x y has =
    by_cases (in_cases y z (before ++ x ∷ after) has) (λ later. put_cases before after x y later)
  where
    by_cases : (z ≡ y) ⊎ Contains (before ++ x ∷ after) y
        → (Contains (before ++ x ∷ after) y → (x ≡ y) ⊎ Contains (before ++ after) y)
        → (x ≡ y) ⊎ Contains (z ∷ (before ++ after)) y
    by_cases (inl same) later =
        inr (subst (λ (q : Write). Contains (z ∷ (before ++ after)) q) same (in_head z (before ++ after)))
    by_cases (inr more) later = elim (later more) [
      | inl is ↦ inl is
      | inr old ↦ inr (in_tail y z (before ++ after) old)
    ]

-- one write more, at a place that was found or made
pub whole_put : (k : Key) (value : Option ℕ) (at : ℕ) (sets late new : Sets) (v w : View)
    → IsInserted (record { key = k; value = value; at = at }) late.writes new.writes → late.writes ≡ sets.writes
    → new.reads ≡ late.reads → IsWholePlace k at sets late v w → WritesWhole k sets new v w
whole_put k value at sets late new v w put same reads whole = record {
  each = λ y has is none.
      let x : Write = record { key = k; value = value; at = at } in
      let here : IsWholePlace k at sets new v w =
      subst (λ (l : List ReadEntry). (reads_at at l ≡ true) ⊎ (IsUnsplitAt w at ⊎ IsInHalf k at sets v w)) (sym reads)
      whole in
      elim (put_cases put.before put.after x y (subst (λ (l : List Write). Contains l y) put.now has)) [
        | inl one ↦ subst (λ (z : Write). IsWholePlace k z.at sets new v w) one here
        | inr old ↦ absurd (true≢false (sym (written_there k sets.writes y
            (subst (λ (l : List Write). Contains l y) (sym put.was ∙ same) old) is) ∙ none))
      ];
}
