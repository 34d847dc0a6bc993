-- How the header of a record's page was last seen.
use Rattle.std.proofs.Common.{◌≡◌, ℕ, ◌^◌, ◌<◌, [], refl, sym, ap, ◌∙◌, subst}
use Rattle.engine_pages.specs.declared.layout.Layout.{Layout}
use Rattle.engine_pages.specs.declared.view.RefusalCause.{RefusalCause}
use Rattle.engine_pages.specs.declared.view.View.{View}
use Rattle.engine_pages.specs.Layout.{page_at}
use Rattle.tree_walks.specs.Ways.{IsUnsplit}
use Rattle.page_commit.specs.Needs.{IsUnsplitAt}
use Rattle.page_commit.specs.Places.{slot_of}
use Rattle.page_commit.specs.Steps.{HasGivenUp}
use Rattle.page_commit.proofs.CommitLaws.{kept_others}
use Rattle.page_commit.proofs.DueLaws.{given_layout, seen_in}

-- the word stands in the page of this slot
pub unsplit_at : (t at : ℕ) (v : View) → slot_of v.layout.slots at ≡ t → IsUnsplit v t → IsUnsplitAt v at
unsplit_at t at v slot is =
    let r = seen_in v.reads (page_at v.layout.slots t 0) is.word is.saw in record {
      read = r.0;
      met = r.1;
      head = r.2 ∙ ap (λ (n : ℕ). page_at v.layout.slots n 0) (sym slot);
      unsplit = subst (λ (n : ℕ). n < 2 ^ 61) (sym r.3) is.unsplit;
    }

-- what was seen is so behind the end of the transaction
pub unsplit_end : (at : ℕ) (why : RefusalCause) (w x : View) → HasGivenUp [] why w x → IsUnsplitAt w at
    → IsUnsplitAt x at
unsplit_end at why w x g u = record {
  read = u.read;
  met = kept_others [] why w x g u.read u.met refl;
  head = u.head ∙ ap (λ (l : Layout). page_at l.slots (slot_of l.slots at) 0) (sym (given_layout why w x g));
  unsplit = u.unsplit;
}
