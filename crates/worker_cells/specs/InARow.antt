-- Lines in a row: one more of them, and what a pass keeps through them.
use Rattle.std.proofs.Common.{◌≡◌, ◌⊎◌, inl, inr, subst, ◌∙◌, ◌++◌, ◌∷◌, ◌+◌, refl, sym, ap, ℕ, Bool, false, cond, List}
use Rattle.std.proofs.Common.{[], Option, Some, None, append_assoc, arith}
use Rattle.std.specs.Prelude.{Contains, option_to_list}
use Rattle.std.proofs.lemmas.List.{append-nil, map-append}
use Rattle.std.proofs.lemmas.Grind.{flat_map-append}
use Rattle.std.proofs.lemmas.List.Sums.{sum_by-cons}
use Rattle.lists.specs.Elements.{in_cases, in_head, in_none, in_tail}
use Rattle.lists.specs.Fronts.{front_refl, front_then}
use Rattle.serial_model.specs.declared.number.Commit.{Commit}
use Rattle.serial_model.specs.declared.op.Op.{Op}
use Rattle.engine_pages.specs.declared.view.Touch.{Touch}
use Rattle.engine_pages.specs.declared.view.View.{View}
use Rattle.engine_pages.specs.Views.{seat_number}
use Rattle.engine_seats.specs.Cuts.{HasSeen}
use Rattle.tx_runner.specs.Below.{IsOver}
use Rattle.tx_runner.specs.Tries.{HasTriedFor, IsLockedFor, Lost, ToClock, ToSet, ToSlots, TouchesOnly, blame_of}
use Rattle.tx_runner.specs.Tries.{blames_of, lost_to}
use Rattle.tx_runner.specs.Tries.{why_of, whys_of}
use Rattle.tx_script.specs.Run.{is_commit}
use Rattle.tx_script.specs.declared.outcome.Outcome.{Outcome}
use Rattle.tx_script.specs.declared.outcome.Outcome.TheVariants.{Committed, Conflict, Full, Wide, Limit, Unrun}
use Rattle.worker_cells.specs.Rows.{AreInARow, ComesOf, Goes, LineRan, drawn_in, draws_of, logged_of, refused_of}

-- ---- between lines

-- what is seen of the history goes on
pub seen_then : (u v w : View) → HasSeen u v → HasSeen v w → HasSeen u w
seen_then u v w first next = record {
  history = front_then u.history v.history w.history first.history next.history;
  decided = front_then u.decided v.decided w.decided first.decided next.decided;
}

-- nothing was done
pub goes_none : (v : View) → Goes v v
goes_none v = record {
  seen = record { history = front_refl v.history; decided = front_refl v.decided };
  layout = refl;
  role = refl;
  mine = refl;
  refused = refl;
  draws = refl;
  touched = refl;
  blamed = refl;
}

-- one step behind another
pub goes_then : (u v w : View) → Goes u v → Goes v w → Goes u w
goes_then u v w first next = record {
  seen = seen_then u v w first.seen next.seen;
  layout = next.layout ∙ first.layout;
  role = next.role ∙ first.role;
  mine = next.mine ∙ first.mine;
  refused = next.refused ∙ first.refused;
  draws = next.draws ∙ first.draws;
  touched = next.touched ∙ first.touched;
  blamed = next.blamed ∙ first.blamed;
}

-- ---- one line

-- What a line keeps of its pass, whatever comes of it: no transaction is under way, the marks are as they were, what
-- the pass was refused for, the line's tries were, at the keys that are told, so many numbers were drawn for it, and
-- locks were taken that it may take.
pub record Kept (ops : List Op) (outcome : Outcome) (refused : List Lost) (v w : View) : Type 0 where
  pub over : IsOver w
  pub layout : w.layout ≡ v.layout
  pub role : w.role ≡ v.role
  pub marks : w.seat.marks ≡ v.seat.marks
  pub seen : HasSeen v w
  pub more : w.refused ≡ v.refused ++ whys_of refused
  pub draws : w.draws ≡ v.draws + (cond (is_commit outcome) 1 0 + lost_to refused)
  pub blamed : w.blamed ≡ v.blamed ++ blames_of (seat_number v.role) refused
  pub touched : TouchesOnly ops v w

tries_keep : (ops : List Op) (outcome : Outcome) (losts refused : List Lost) (v w : View) → HasTriedFor ops losts v w
    → refused ≡ losts → is_commit outcome ≡ false → Kept ops outcome refused v w
tries_keep ops outcome losts refused v w t is none = record {
  over = t.over;
  layout = t.layout;
  role = t.role;
  marks = t.marks;
  seen = t.seen;
  more = t.refused ∙ ap (λ (l : List Lost). v.refused ++ whys_of l) (sym is);
  draws =
      let drew = t.draws in
      let same : lost_to refused ≡ lost_to losts = ap lost_to is in
      let zero : ◌≡◌ {A = ℕ} (cond (is_commit outcome) 1 0) 0 = ap (λ (b : Bool). cond {A = ℕ} b 1 0) none in
      omega (arith, drew, same, zero);
  blamed = t.blamed ∙ ap (λ (l : List Lost). v.blamed ++ blames_of (seat_number v.role) l) (sym is);
  touched = t.touched;
}

-- what came of a line tells what it keeps
pub line_keeps : (tries : ℕ) (ops : List Op) (outcome : Outcome) (refused : List Lost) (logged : Option Commit)
    (v w : View) → ComesOf tries ops outcome refused logged v w → Kept ops outcome refused v w
line_keeps tries ops (Committed verdict number replies) refused logged v w comes =
    let line = comes.3 in
    record {
      over = line.over;
      layout = line.layout;
      role = line.role;
      marks = line.marks;
      seen = line.seen;
      more = line.refused ∙ ap (λ (l : List Lost). v.refused ++ whys_of l) (sym comes.4);
      draws = let drew = line.draws in let same : lost_to refused ≡ lost_to line.losts = ap lost_to comes.4 in
          omega (arith, drew, same);
      blamed = line.blamed ∙ ap (λ (l : List Lost). v.blamed ++ blames_of (seat_number v.role) l) (sym comes.4);
      touched = line.touched;
    }
line_keeps tries ops Conflict refused logged v w comes =
    tries_keep ops Conflict comes.1.losts refused v w comes.1.tried comes.2 refl
line_keeps tries ops Limit refused logged v w comes =
    tries_keep ops Limit (comes.1.refused.losts ++ ToClock comes.1.clock ∷ []) refused v w comes.1.refused.tried comes.2
    refl
line_keeps tries ops Full refused logged v w comes =
    tries_keep ops Full (comes.1.refused.losts ++ ToSlots comes.1.words ∷ []) refused v w comes.1.refused.tried comes.2
    refl
line_keeps tries ops Wide refused logged v w comes =
    tries_keep ops Wide (comes.1.refused.losts ++ ToSet comes.1.set ∷ []) refused v w comes.1.refused.tried comes.2 refl
line_keeps tries ops Unrun refused logged v w comes = absurd comes

-- ---- lines in a row

-- behind them the pass goes on
pub row_goes : (tries : ℕ) (v : View) (ran : List LineRan) (w x : View) → AreInARow tries v ran w → Goes w x
    → AreInARow tries v ran x
row_goes tries v [] w x row next = goes_then v w x row next
row_goes tries v (first ∷ more) w x row next = (row.0, row.1, row_goes tries first.after more w x row.2 next)

-- one more
pub row_push : (tries : ℕ) (v : View) (ran : List LineRan) (w : View) (line : LineRan) → AreInARow tries v ran w
    → Goes w line.before → ComesOf tries line.ops line.outcome line.refused line.logged line.before line.after
    → AreInARow tries v (ran ++ line ∷ []) line.after
row_push tries v [] w line row next comes = (goes_then v w line.before row next, comes, goes_none line.after)
row_push tries v (first ∷ more) w line row next comes =
    (row.0, row.1, row_push tries first.after more w line row.2 next comes)

-- the layout stays
pub row_layout : (tries : ℕ) (v : View) (ran : List LineRan) (w : View) → AreInARow tries v ran w → w.layout ≡ v.layout
row_layout tries v [] w row = row.layout
row_layout tries v (line ∷ more) w row =
    row_layout tries line.after more w row.2
    ∙ (line_keeps tries line.ops line.outcome line.refused line.logged line.before line.after row.1).layout
    ∙ row.0.layout

-- so it is as each of the lines begins
pub row_before : (tries : ℕ) (v : View) (ran : List LineRan) (w : View) → AreInARow tries v ran w → (line : LineRan)
    → Contains ran line → line.before.layout ≡ v.layout
row_before tries v [] w row line has = absurd (in_none line has)
row_before tries v (x ∷ more) w row line has = elim (in_cases line x more has) [
  | inl same ↦ subst (λ (r : LineRan). r.before.layout ≡ v.layout) same row.0.layout
  | inr later ↦
      row_before tries x.after more w row.2 line later
      ∙ (line_keeps tries x.ops x.outcome x.refused x.logged x.before x.after row.1).layout
      ∙ row.0.layout
]

-- the role stays
pub row_role : (tries : ℕ) (v : View) (ran : List LineRan) (w : View) → AreInARow tries v ran w → w.role ≡ v.role
row_role tries v [] w row = row.role
row_role tries v (line ∷ more) w row =
    row_role tries line.after more w row.2
    ∙ (line_keeps tries line.ops line.outcome line.refused line.logged line.before line.after row.1).role
    ∙ row.0.role

-- what was seen is seen still
pub row_seen : (tries : ℕ) (v : View) (ran : List LineRan) (w : View) → AreInARow tries v ran w → HasSeen v w
row_seen tries v [] w row = row.seen
row_seen tries v (line ∷ more) w row =
    seen_then v line.before w row.0.seen (seen_then line.before line.after w
    (line_keeps tries line.ops line.outcome line.refused line.logged line.before line.after row.1).seen
    (row_seen tries line.after more w row.2))

-- what the pass was refused for, the tries of its lines were, one line after another
pub row_refused : (tries : ℕ) (v : View) (ran : List LineRan) (w : View) → AreInARow tries v ran w
    → w.refused ≡ v.refused ++ whys_of (refused_of ran)
row_refused tries v [] w row = row.refused ∙ sym (append-nil v.refused)
row_refused tries v (line ∷ more) w row =
    row_refused tries line.after more w row.2
    ∙ ap (λ l. l ++ whys_of (refused_of more))
    ((line_keeps tries line.ops line.outcome line.refused line.logged line.before line.after row.1).more
    ∙ ap (λ l. l ++ whys_of line.refused) row.0.refused)
    ∙ append_assoc v.refused (whys_of line.refused) (whys_of (refused_of more))
    ∙ ap (λ l. v.refused ++ l) (sym (map-append why_of line.refused (refused_of more)))

-- at which keys it met others, line after line
pub row_blamed : (tries : ℕ) (v : View) (ran : List LineRan) (w : View) → AreInARow tries v ran w
    → w.blamed ≡ v.blamed ++ blames_of (seat_number v.role) (refused_of ran)
row_blamed tries v [] w row = row.blamed ∙ sym (append-nil v.blamed)
row_blamed tries v (line ∷ more) w row =
    let q = seat_number v.role in
    let kept = line_keeps tries line.ops line.outcome line.refused line.logged line.before line.after row.1 in
    let here : seat_number line.before.role ≡ q = ap seat_number row.0.role in
    let after : seat_number line.after.role ≡ q = ap seat_number kept.role ∙ here in
    row_blamed tries line.after more w row.2
    ∙ ap (λ (n : ℕ). line.after.blamed ++ blames_of n (refused_of more)) after
    ∙ ap (λ l. l ++ blames_of q (refused_of more))
    (kept.blamed ∙ ap (λ (n : ℕ). line.before.blamed ++ blames_of n line.refused) here
    ∙ ap (λ l. l ++ blames_of q line.refused) row.0.blamed)
    ∙ append_assoc v.blamed (blames_of q line.refused) (blames_of q (refused_of more))
    ∙ ap (λ l. v.blamed ++ l) (sym (flat_map-append (blame_of q) line.refused (refused_of more)))

-- a lock that it took is one that one of its lines may take
pub record IsTakenBy (seat : ℕ) (ran : List LineRan) (t : Touch) : Type 0 where
  pub own : t.seat ≡ seat
  pub line : LineRan
  pub among : Contains ran line
  pub written : IsLockedFor line.before.layout.decls line.ops t.key

-- its locks were taken for its lines
pub row_touched : (tries : ℕ) (v : View) (ran : List LineRan) (w : View) → AreInARow tries v ran w → (t : Touch)
    → Contains w.touched t → Contains v.touched t ⊎ IsTakenBy (seat_number v.role) ran t
row_touched tries v [] w row t has = inl (subst (λ (l : List Touch). Contains l t) row.touched has)
row_touched tries v (line ∷ more) w row t has =
    let kept = line_keeps tries line.ops line.outcome line.refused line.logged line.before line.after row.1 in
    let here : seat_number line.before.role ≡ seat_number v.role = ap seat_number row.0.role in
    elim (row_touched tries line.after more w row.2 t has) [
      | inr later ↦ inr (record {
        own = later.own ∙ ap seat_number kept.role ∙ here;
        line = later.line;
        among = in_tail later.line line more later.among;
        written = later.written;
      })
      | inl before ↦ elim (kept.touched t before) [
        | inl first ↦ inl (subst (λ (l : List Touch). Contains l t) row.0.touched first)
        | inr own ↦ inr (record { own = own.0 ∙ here; line = line; among = in_head line more; written = own.1 })
      ]
    ]

-- the numbers that it drew were drawn for its lines
pub row_draws : (tries : ℕ) (v : View) (ran : List LineRan) (w : View) → AreInARow tries v ran w
    → w.draws ≡ v.draws + draws_of ran
row_draws tries v [] w row = omega (arith, row.draws)
row_draws tries v (line ∷ more) w row =
    let kept = line_keeps tries line.ops line.outcome line.refused line.logged line.before line.after row.1 in
    let rest : w.draws ≡ line.after.draws + draws_of more = row_draws tries line.after more w row.2 in
    omega (arith, row.0.draws, kept.draws, rest, sum_by-cons drawn_in line more)

-- what the log gets of one more
pub logged_push : (ran : List LineRan) (line : LineRan)
    → logged_of (ran ++ line ∷ []) ≡ logged_of ran ++ option_to_list line.logged
logged_push [] line = one line.logged refl
  where
    one : (logged : Option Commit) → line.logged ≡ logged
        → logged_of (line ∷ []) ≡ option_to_list line.logged
    one None is = rw is refl
    one (Some c) is = rw is refl
logged_push (first ∷ ran) line = by_first first.logged refl (logged_push ran line)
  where
    by_first : (logged : Option Commit) → first.logged ≡ logged
        → logged_of (ran ++ line ∷ []) ≡ logged_of ran ++ option_to_list line.logged
        → logged_of (first ∷ (ran ++ line ∷ [])) ≡ logged_of (first ∷ ran) ++ option_to_list line.logged
    by_first None is more = rw is more
    by_first (Some c) is more = rw is (ap (λ l. c ∷ l) more)
