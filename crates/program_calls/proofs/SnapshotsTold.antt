-- Lines of snapshots that a loop adds to the text, one after another.
use Rattle.std.proofs.Common.{◌≡◌, ◌∙◌, sym, ap, refl, ℕ, ◌+◌, ◌<◌, List, [], ◌∷◌, ◌++◌, length, get_or, drop}
use Rattle.std.proofs.Common.{add-one, append_assoc, drop-cons}
use Rattle.text_output.specs.Output.{Adds, Breaks, Bytes, Output}
use Rattle.text_output.specs.Printed.{adds_nothing, adds_then, breaks_as, breaks_then, breaks_within}
use Rattle.recovery_core.specs.declared.chain.SnapshotMark.{SnapshotMark}
use Rattle.program_calls.specs.Listings.{snapshot_line, snapshots_text}

-- those in front of an index were added, and those from it on weren't yet
pub record LinesSoFar (old now : Output) (marks : List SnapshotMark) (index : ℕ) : Type 0 where
  pub text : Bytes
  pub adds : Adds old now text
  pub whole : text ++ snapshots_text (drop index marks) ≡ snapshots_text marks

pub no_lines : (at : Output) (marks : List SnapshotMark) → LinesSoFar at at marks 0
no_lines at marks = record { text = []; adds = adds_nothing at; whole = refl }

-- what is left begins with the line of the snapshot at the index
left_at : (marks : List SnapshotMark) (index : ℕ) (mark : SnapshotMark) → index < length marks
    → mark ≡ get_or marks index mark
    → snapshots_text (drop index marks) ≡ snapshot_line mark ++ snapshots_text (drop (index + 1) marks)
left_at marks index mark within is =
    ap snapshots_text (rw add-one (drop-cons marks index mark within)
    ∙ ap (λ m. m ∷ drop (index + 1) marks) (sym is))

pub one_line : (old now then : Output) (marks : List SnapshotMark) (index : ℕ) (mark : SnapshotMark)
    → LinesSoFar old now marks index → index < length marks → mark ≡ get_or marks index mark
    → Adds now then (snapshot_line mark) → LinesSoFar old then marks (index + 1)
one_line old now then marks index mark so within is one = record {
  text = so.text ++ snapshot_line mark;
  adds = adds_then so.adds one;
  whole = append_assoc so.text (snapshot_line mark) (snapshots_text (drop (index + 1) marks))
      ∙ ap (λ w. so.text ++ w) (sym (left_at marks index mark within is)) ∙ so.whole;
}

pub line_broke : (old now then : Output) (marks : List SnapshotMark) (index : ℕ) (mark : SnapshotMark)
    → LinesSoFar old now marks index → index < length marks → mark ≡ get_or marks index mark
    → Breaks now then (snapshot_line mark) → Breaks old then (snapshots_text marks)
line_broke old now then marks index mark so within is one =
    breaks_as so.whole (breaks_as (ap (λ w. so.text ++ w) (sym (left_at marks index mark within is)))
    (breaks_then so.adds (breaks_within (snapshots_text (drop (index + 1) marks)) one)))
