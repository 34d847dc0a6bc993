-- Which steps of a commit leave what a pass knows of pages as it is: all of them.
use Rattle.std.proofs.Common.{ℕ, List, ap}
use Rattle.serial_model.specs.declared.number.Change.{Change}
use Rattle.tx_sets.specs.declared.writes.Write.{Write}
use Rattle.engine_pages.specs.declared.view.RefusalCause.{RefusalCause}
use Rattle.std.specs.Prelude.{Option}
use Rattle.engine_pages.specs.declared.view.View.{View}
use Rattle.page_records.specs.Attempts.{HasChosen, HasDrawn}
use Rattle.page_records.specs.Ends.{HasForgotten}
use Rattle.page_commit.specs.Steps.{HasChecked, HasFailed, HasLocked, HasPublished, HasUnlocked}
use Rattle.page_commit.proofs.LeaveLaws.{SamePages}

pub locked_pages : (ws : List Write) (found : List ℕ) (v w : View) → HasLocked ws found v w → SamePages v w
locked_pages ws found v w h = record {
  layout = ap (λ (y : View). y.layout) h.is;
  grip = ap (λ (y : View). y.grip) h.is;
  ways = ap (λ (y : View). y.ways) h.is;
  known = ap (λ (y : View). y.known) h.is;
  moved = ap (λ (y : View). y.moved) h.is;
  branches = ap (λ (y : View). y.inners) h.is;
  drafts = ap (λ (y : View). y.drafts) h.is;
  copies = ap (λ (y : View). y.copies) h.is;
  blanks = ap (λ (y : View). y.blanks) h.is;
  leaves = ap (λ (y : View). y.new_leaves) h.is;
  inners = ap (λ (y : View). y.new_inners) h.is;
  heads = ap (λ (y : View). y.heads) h.is;
}

pub drawn_pages : (changes : List Change) (n : ℕ) (v w : View) → HasDrawn changes v n w → SamePages v w
drawn_pages changes n v w h = record {
  layout = ap (λ (y : View). y.layout) h.is;
  grip = ap (λ (y : View). y.grip) h.is;
  ways = ap (λ (y : View). y.ways) h.is;
  known = ap (λ (y : View). y.known) h.is;
  moved = ap (λ (y : View). y.moved) h.is;
  branches = ap (λ (y : View). y.inners) h.is;
  drafts = ap (λ (y : View). y.drafts) h.is;
  copies = ap (λ (y : View). y.copies) h.is;
  blanks = ap (λ (y : View). y.blanks) h.is;
  leaves = ap (λ (y : View). y.new_leaves) h.is;
  inners = ap (λ (y : View). y.new_inners) h.is;
  heads = ap (λ (y : View). y.heads) h.is;
}

pub checked_pages : (v w : View) → HasChecked v w → SamePages v w
checked_pages v w h = record {
  layout = ap (λ (y : View). y.layout) h.is;
  grip = ap (λ (y : View). y.grip) h.is;
  ways = ap (λ (y : View). y.ways) h.is;
  known = ap (λ (y : View). y.known) h.is;
  moved = ap (λ (y : View). y.moved) h.is;
  branches = ap (λ (y : View). y.inners) h.is;
  drafts = ap (λ (y : View). y.drafts) h.is;
  copies = ap (λ (y : View). y.copies) h.is;
  blanks = ap (λ (y : View). y.blanks) h.is;
  leaves = ap (λ (y : View). y.new_leaves) h.is;
  inners = ap (λ (y : View). y.new_inners) h.is;
  heads = ap (λ (y : View). y.heads) h.is;
}

pub failed_pages : (v w : View) → HasFailed v w → SamePages v w
failed_pages v w h = record {
  layout = ap (λ (y : View). y.layout) h.is;
  grip = ap (λ (y : View). y.grip) h.is;
  ways = ap (λ (y : View). y.ways) h.is;
  known = ap (λ (y : View). y.known) h.is;
  moved = ap (λ (y : View). y.moved) h.is;
  branches = ap (λ (y : View). y.inners) h.is;
  drafts = ap (λ (y : View). y.drafts) h.is;
  copies = ap (λ (y : View). y.copies) h.is;
  blanks = ap (λ (y : View). y.blanks) h.is;
  leaves = ap (λ (y : View). y.new_leaves) h.is;
  inners = ap (λ (y : View). y.new_inners) h.is;
  heads = ap (λ (y : View). y.heads) h.is;
}

pub chosen_pages : (m : ℕ) (v w : View) → HasChosen v m w → SamePages v w
chosen_pages m v w h = record {
  layout = ap (λ (y : View). y.layout) h.is;
  grip = ap (λ (y : View). y.grip) h.is;
  ways = ap (λ (y : View). y.ways) h.is;
  known = ap (λ (y : View). y.known) h.is;
  moved = ap (λ (y : View). y.moved) h.is;
  branches = ap (λ (y : View). y.inners) h.is;
  drafts = ap (λ (y : View). y.drafts) h.is;
  copies = ap (λ (y : View). y.copies) h.is;
  blanks = ap (λ (y : View). y.blanks) h.is;
  leaves = ap (λ (y : View). y.new_leaves) h.is;
  inners = ap (λ (y : View). y.new_inners) h.is;
  heads = ap (λ (y : View). y.heads) h.is;
}

pub published_pages : (v w : View) → HasPublished v w → SamePages v w
published_pages v w h = record {
  layout = ap (λ (y : View). y.layout) h.is;
  grip = ap (λ (y : View). y.grip) h.is;
  ways = ap (λ (y : View). y.ways) h.is;
  known = ap (λ (y : View). y.known) h.is;
  moved = ap (λ (y : View). y.moved) h.is;
  branches = ap (λ (y : View). y.inners) h.is;
  drafts = ap (λ (y : View). y.drafts) h.is;
  copies = ap (λ (y : View). y.copies) h.is;
  blanks = ap (λ (y : View). y.blanks) h.is;
  leaves = ap (λ (y : View). y.new_leaves) h.is;
  inners = ap (λ (y : View). y.new_inners) h.is;
  heads = ap (λ (y : View). y.heads) h.is;
}

pub unlocked_pages : (ws : List Write) (v w : View) → HasUnlocked ws v w → SamePages v w
unlocked_pages ws v w h = record {
  layout = ap (λ (y : View). y.layout) h.is;
  grip = ap (λ (y : View). y.grip) h.is;
  ways = ap (λ (y : View). y.ways) h.is;
  known = ap (λ (y : View). y.known) h.is;
  moved = ap (λ (y : View). y.moved) h.is;
  branches = ap (λ (y : View). y.inners) h.is;
  drafts = ap (λ (y : View). y.drafts) h.is;
  copies = ap (λ (y : View). y.copies) h.is;
  blanks = ap (λ (y : View). y.blanks) h.is;
  leaves = ap (λ (y : View). y.new_leaves) h.is;
  inners = ap (λ (y : View). y.new_inners) h.is;
  heads = ap (λ (y : View). y.heads) h.is;
}

pub forgotten_pages : (why : Option RefusalCause) (v w : View) → HasForgotten why v w → SamePages v w
forgotten_pages why v w h = record {
  layout = ap (λ (y : View). y.layout) h.is;
  grip = ap (λ (y : View). y.grip) h.is;
  ways = ap (λ (y : View). y.ways) h.is;
  known = ap (λ (y : View). y.known) h.is;
  moved = ap (λ (y : View). y.moved) h.is;
  branches = ap (λ (y : View). y.inners) h.is;
  drafts = ap (λ (y : View). y.drafts) h.is;
  copies = ap (λ (y : View). y.copies) h.is;
  blanks = ap (λ (y : View). y.blanks) h.is;
  leaves = ap (λ (y : View). y.new_leaves) h.is;
  inners = ap (λ (y : View). y.new_inners) h.is;
  heads = ap (λ (y : View). y.heads) h.is;
}
