-- The refusals of tries as the keeper has them, and as shares tell them: the same ones.
use Rattle.std.proofs.Common.{◌≡◌, ◌∙◌, sym, ap, subst, refl, List, [], ◌∷◌, ◌++◌, map, append_assoc}
use Rattle.std.specs.Prelude.{ℕ, Option, ⊤}
use Rattle.std.specs.List.{AllByRecursion}
use Rattle.std.proofs.lemmas.List.{append-nil, map-append}
use Rattle.lists.specs.Each.{all_push}
use Rattle.serial_model.specs.declared.number.Commit.{Commit}
use Rattle.serial_model.specs.declared.op.Op.{Op}
use Rattle.engine_pages.specs.declared.layout.Layout.{Layout}
use Rattle.engine_pages.specs.declared.view.RefusalCause.{RefusalCause}
use Rattle.engine_pages.specs.declared.view.RefusalCause.TheVariants as refusals
use Rattle.engine_pages.specs.declared.view.SetName.{SetName}
use Rattle.engine_pages.specs.declared.view.SetName.TheVariants as names
use Rattle.engine_pages.specs.declared.view.View.{View}
use Rattle.worker_cells.specs.Below.{FillsSet, why_of, whys_of, IsClash, IsConflicting, IsLostAt, IsMetOf, IsPlaced}
use Rattle.worker_cells.specs.Below.{IsWordAt, Lost, Spot, ToClock, ToOther, ToSet, ToSlots, Writes}
use Rattle.tx_script.specs.declared.outcome.Outcome.{Outcome}
use Rattle.tx_script.specs.declared.outcome.Outcome.TheVariants.{Committed, Conflict, Full, Wide, Limit, Unrun}
use Rattle.worker_cells.specs.InARow.{row_refused}
use Rattle.worker_cells.specs.Rows.{AreInARow, ComesOf, LineRan, refused_of}
use Rattle.shared_rounds.specs.Parts.{IsPart, Part, no_tries, share_of, tries_of}
use Rattle.shared_rounds.specs.Refusals.{cause_of, causes_of, causes_of_lines, expected_in, name_of, seen_in, set_of}
use Rattle.shared_rounds.specs.Refusals.{try_refusal, word_in}
use Rattle.shared_rounds.specs.Shares.{Share}

-- Each try of a line that was lost in conflict was refused so, for a key of the line, or at a slot, where it may write,
-- and at a word that stands there; one that found no slot is of a line that may write; and one that filled a set is of
-- a line that can fill it.
abbrev pub IsLostOf : Layout → List Op → Lost → Type 0
IsLostOf l ops (ToOther clash) =
    IsConflicting clash.why clash.spot × IsMetOf ops clash.spot × IsWordAt l clash.spot clash.why
IsLostOf l ops (ToSlots words) = Writes ops
IsLostOf l ops (ToSet set) = FillsSet l.decls ops set
IsLostOf l ops (ToClock clock) = ⊤

clashes_lost : (l : Layout) (ops : List Op) (losts : List Lost) → AllByRecursion (IsClash ops) losts
    → AllByRecursion (IsPlaced l) losts → AllByRecursion (IsLostOf l ops) losts
clashes_lost l ops [] each placed = tt
clashes_lost l ops (ToOther clash ∷ losts) each placed =
    ((each.0.0, each.0.1, placed.0), clashes_lost l ops losts each.1 placed.1)
clashes_lost l ops (ToSlots words ∷ losts) each placed = absurd each.0
clashes_lost l ops (ToSet set ∷ losts) each placed = absurd each.0
clashes_lost l ops (ToClock clock ∷ losts) each placed = absurd each.0

lost_at : (ops : List Op) (tries : ℕ) (last : Lost) (refused : List Lost) (v w : View)
    → (so : IsLostAt ops last tries v w) → refused ≡ so.losts ++ last ∷ [] → IsLostOf v.layout ops last
    → AllByRecursion (IsLostOf v.layout ops) refused
lost_at ops tries last refused v w so is of =
    subst (AllByRecursion (IsLostOf v.layout ops)) (sym is)
    (all_push (IsLostOf v.layout ops) so.losts last (clashes_lost v.layout ops so.losts so.each so.placed) of)

pub line_lost : (tries : ℕ) (ops : List Op) (outcome : Outcome) (refused : List Lost) (logged : Option Commit)
    (v w : View) → ComesOf tries ops outcome refused logged v w → AllByRecursion (IsLostOf v.layout ops) refused
line_lost tries ops (Committed verdict number replies) refused logged v w comes =
    subst (AllByRecursion (IsLostOf v.layout ops)) (sym comes.4)
    (clashes_lost v.layout ops comes.3.losts comes.3.each comes.3.placed)
line_lost tries ops Conflict refused logged v w comes =
    subst (AllByRecursion (IsLostOf v.layout ops)) (sym comes.2)
    (clashes_lost v.layout ops comes.1.losts comes.1.each comes.1.placed)
line_lost tries ops Limit refused logged v w comes =
    lost_at ops tries (ToClock comes.1.clock) refused v w comes.1.refused comes.2 tt
line_lost tries ops Full refused logged v w comes =
    lost_at ops tries (ToSlots comes.1.words) refused v w comes.1.refused comes.2 comes.1.writes
line_lost tries ops Wide refused logged v w comes =
    lost_at ops tries (ToSet comes.1.set) refused v w comes.1.refused comes.2 comes.1.fills
line_lost tries ops Unrun refused logged v w comes = absurd comes

-- ---- the cause that is told is the one that the pass has

named_back : (set : SetName) → name_of (set_of set) ≡ set
named_back names.Reads = refl
named_back names.Writes = refl
named_back names.Pointers = refl
named_back names.Holds = refl

clash_same : (why : RefusalCause) (spot : Spot) → IsConflicting why spot
    → refusals.Conflict (word_in why) (expected_in why) (seen_in why) ≡ why
clash_same (refusals.Conflict word expected seen) spot is = refl
clash_same (refusals.Full held) spot is = absurd is
clash_same (refusals.Wide set) spot is = absurd is
clash_same (refusals.NumberLimit clock) spot is = absurd is

try_same : (l : Layout) (ops : List Op) (lost : Lost) → IsLostOf l ops lost → cause_of (try_refusal lost) ≡ why_of lost
try_same l ops (ToOther clash) of = clash_same clash.why clash.spot of.0
try_same l ops (ToSlots words) of = refl
try_same l ops (ToSet set) of = ap refusals.Wide (named_back set)
try_same l ops (ToClock clock) of = refl

-- those of a line's tries
tries_same : (l : Layout) (ops : List Op) (xs : List Lost) → AllByRecursion (IsLostOf l ops) xs
    → map cause_of (map try_refusal xs) ≡ whys_of xs
tries_same l ops [] each = refl
tries_same l ops (lost ∷ xs) each =
    ap (λ (c : RefusalCause). c ∷ map cause_of (map try_refusal xs)) (try_same l ops lost each.0)
    ∙ ap (λ (m : List RefusalCause). why_of lost ∷ m) (tries_same l ops xs each.1)

none_told : (left : List (List Op)) → causes_of_lines (no_tries left) ≡ []
none_told [] = refl
none_told (ops ∷ left) = none_told left

-- and those of lines in a row
row_told : (tries : ℕ) (v : View) (ran : List LineRan) (left : List (List Op)) (w : View) → AreInARow tries v ran w
    → causes_of_lines (tries_of ran ++ no_tries left) ≡ whys_of (refused_of ran)
row_told tries v [] left w row = none_told left
row_told tries v (r ∷ more) left w row =
    ap (λ (m : List RefusalCause). m ++ causes_of_lines (tries_of more ++ no_tries left))
    (tries_same r.before.layout r.ops r.refused
    (line_lost tries r.ops r.outcome r.refused r.logged r.before r.after row.1))
    ∙ ap (λ (m : List RefusalCause). whys_of r.refused ++ m) (row_told tries r.after more left w row.2)
    ∙ sym (map-append why_of r.refused (refused_of more))

part_told : (tries : ℕ) (was ended : View) (worker : ℕ) (p : Part) → IsPart tries was ended worker p
    → p.to.refused ≡ causes_of_lines (share_of p).tries_refused
part_told tries was ended worker p part =
    row_refused tries p.from p.ran p.to part.row
    ∙ ap (λ (l : List RefusalCause). l ++ whys_of (refused_of p.ran)) part.seated.refused
    ∙ sym (row_told tries p.from p.ran p.left p.to part.row)

-- what these parts tell
abbrev told_by : List Part → List RefusalCause
told_by parts = causes_of (map (λ (share : Share). share.tries_refused) (map share_of parts))

push_told : (parts : List Part) (p : Part)
    → told_by (parts ++ p ∷ []) ≡ told_by parts ++ causes_of_lines (share_of p).tries_refused
push_told [] p = append-nil (causes_of_lines (share_of p).tries_refused)
push_told (q ∷ parts) p =
    ap (λ (l : List RefusalCause). causes_of_lines (share_of q).tries_refused ++ l) (push_told parts p)
    ∙ sym (append_assoc (causes_of_lines (share_of q).tries_refused) (told_by parts)
    (causes_of_lines (share_of p).tries_refused))

-- one part more
pub more_told : (tries : ℕ) (was ended : View) (worker : ℕ) (parts : List Part) (p : Part) (base : List RefusalCause)
    → IsPart tries was ended worker p
    → (base ++ causes_of (map (λ (share : Share). share.tries_refused) (map share_of parts))) ++ p.to.refused
    ≡ base ++ causes_of (map (λ (share : Share). share.tries_refused) (map share_of (parts ++ p ∷ [])))
more_told tries was ended worker parts p base part =
    ap (λ (l : List RefusalCause). (base ++ told_by parts) ++ l) (part_told tries was ended worker p part)
    ∙ append_assoc base (told_by parts) (causes_of_lines (share_of p).tries_refused)
    ∙ ap (λ (l : List RefusalCause). base ++ l) (sym (push_told parts p))
