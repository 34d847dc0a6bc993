-- What a worker's lines commit, line after line.
use Rattle.std.proofs.Common.{◌≡◌, ◌∙◌, sym, ap, subst, refl, ℕ, ◌+◌, ◌≤◌, List, [], ◌∷◌, ◌++◌}
use Rattle.std.proofs.Common.{append-nil, inl, inr, Option, Some, None}
use Rattle.std.specs.Prelude.{option_to_list}
use Rattle.std.specs.List.{AllByRecursion}
use Rattle.lists.specs.Elements.{in_cases, in_none}
use Rattle.serial_model.specs.declared.decl.Decl.{Decl}
use Rattle.serial_model.specs.declared.number.Change.{Change}
use Rattle.serial_model.specs.declared.number.Commit.{Commit}
use Rattle.serial_model.specs.declared.number.Number.{Number}
use Rattle.serial_model.specs.declared.op.Op.{Op}
use Rattle.serial_model.specs.declared.reply.Reply.{Reply}
use Rattle.serial_model.specs.declared.reply.Verdict.{Verdict}
use Rattle.serial_model.specs.Keys.{IsKeyBelow}
use Rattle.serial_model.specs.History.{Entry}
use Rattle.serial_model.specs.Numbers.{IsBelow}
use Rattle.wire_form.specs.Items.{Rises}
use Rattle.commit_core.specs.declared.attempt.Attempt.{Attempt}
use Rattle.serial_bridge.specs.Transaction.{IsAttemptOf}
use Rattle.serial_bridge.specs.WriteSets.{keys_of}
use Rattle.engine_pages.specs.declared.layout.Layout.{Layout}
use Rattle.engine_pages.specs.declared.view.Role.TheVariants.{Worker}
use Rattle.engine_pages.specs.declared.view.View.{View}
use Rattle.engine_seats.specs.Cuts.{HasSeen}
use Rattle.engine_pages.specs.Views.{seat_number}
use Rattle.worker_cells.specs.Below.{HasCommittedLine, HasTriedFor, Lost}
use Rattle.tx_script.specs.Run.{entries_of_line, entries_of_worker}
use Rattle.tx_script.specs.declared.outcome.Outcome.{Outcome}
use Rattle.tx_script.specs.declared.outcome.Outcome.TheVariants.{Committed, Conflict, Full, Wide, Limit, Unrun}
use Rattle.worker_cells.specs.Rows.{AreInARow, ComesOf, Goes, IsSince, LineRan, lines_of, logged_by, logged_of}
use Rattle.worker_cells.specs.Rows.{outcomes_of}
use Rattle.shared_rounds.proofs.LoggedAlong.{logged_as}
use Rattle.shared_rounds.proofs.Made.{IsMade, Made, made_then}

-- ---- nothing

made_none : (decls : List Decl) (low : ℕ) (v w : View) → w.mine ≡ v.mine → HasSeen v w → w.layout ≡ v.layout
    → w.role ≡ v.role → Made decls low v w (λ index line. []) []
made_none decls low v w mine seen layout role = record {
  attempts = [];
  mine = mine ∙ sym (append-nil v.mine);
  pairs = λ index line. tt;
  logged_is = refl;
  each = λ a has. absurd (in_none a has);
  seats = λ a has. absurd (in_none a has);
  ascend = tt;
  seen = seen;
  layout = layout;
  role = role;
}

made_goes : (decls : List Decl) (low : ℕ) (v w : View) → Goes v w → Made decls low v w (λ index line. []) []
made_goes decls low v w goes = made_none decls low v w goes.mine goes.seen goes.layout goes.role

made_tried : (decls : List Decl) (low : ℕ) (ops : List Op) (losts : List Lost) (v w : View) → HasTriedFor ops losts v w
    → Made decls low v w (λ index line. []) []
made_tried decls low ops losts v w tried = made_none decls low v w tried.mine tried.seen tried.layout tried.role

-- ---- a commit

same_logged : (commit : Commit) (a : Attempt) → a.number ≡ commit.number → (changes : List Change)
    → commit.changes ≡ changes → logged_by commit changes ≡ logged_as a changes
same_logged commit a number [] is = refl
same_logged commit a number (c ∷ more) is =
    ap (λ (l : List Change). Some (record { number = commit.number; changes = l })) is
    ∙ ap (λ (n : Number). Some (record { number = n; changes = c ∷ more })) (sym number)

logged_one : (commit : Commit) (a : Attempt) → a.number ≡ commit.number → a.writes ≡ commit.changes
    → logged_by commit commit.changes ≡ logged_as a a.writes
logged_one commit a number writes =
    same_logged commit a number commit.changes refl ∙ ap (logged_as a) (sym writes)

made_commit : (decls : List Decl) (low worker tries : ℕ) (ops : List Op) (verdict : Verdict) (number : Number)
    (replies : List Reply) (logged : Option Commit) (commit : Commit) (v w : View) → v.layout.decls ≡ decls
    → v.role ≡ Worker worker → low ≤ number.epoch → commit.number ≡ number → logged ≡ logged_by commit commit.changes
    → HasCommittedLine ops tries verdict replies commit v w
    → Made decls low v w (λ index line. entries_of_line index worker line ops (Committed verdict number replies))
    (option_to_list logged)
made_commit decls low worker tries ops verdict number replies logged commit v w layout role since same logged_is line =
    let a : Attempt = line.attempt in record {
      attempts = a ∷ [];
      mine = line.mine;
      pairs = λ index place.
          let e : Entry = record {
            round = index;
            worker = worker;
            line = place;
            ops = ops;
            verdict = verdict;
            number = number;
            replies = replies;
          } in (
            (
              subst (λ (d : List Decl). IsAttemptOf d e a) layout
                  (line.of e (record { ops = refl; verdict = refl; number = sym same; replies = refl })),
              line.seat ∙ ap seat_number role,
            ),
            tt,
          );
      logged_is = ap option_to_list (logged_is ∙ logged_one commit a line.numbered line.writes)
          ∙ sym (append-nil (option_to_list (logged_as a a.writes)));
      each = λ b has. elim (in_cases b a [] has) [
        | inl is ↦ subst (IsMade low v w) is (record {
          above = λ x there. subst (λ (n : Number). IsBelow x.number n) (sym line.numbered) (line.above x there);
          drawn = line.drawn;
          all = line.all;
          order = line.order;
          draw = ap (λ (n : Number). n.draw) line.numbered ∙ line.draw;
          epoch = subst (λ (n : Number). low ≤ n.epoch) (sym (line.numbered ∙ same)) since;
          rise = subst (λ (l : List Change). Rises IsKeyBelow (keys_of l)) (sym line.writes) line.rising;
        })
        | inr none ↦ absurd (in_none b none)
      ];
      seats = λ b has. elim (in_cases b a [] has) [
        | inl is ↦ subst (λ (x : Attempt). x.seat ≡ seat_number v.role) is line.seat
        | inr none ↦ absurd (in_none b none)
      ];
      ascend = ((λ b has. absurd (in_none b has)), tt);
      seen = line.seen;
      layout = line.layout;
      role = line.role;
    }

-- ---- a line

made_line : (decls : List Decl) (low worker tries : ℕ) (ops : List Op) (outcome : Outcome) (refused : List Lost)
    (logged : Option Commit) (v w : View) → v.layout.decls ≡ decls → v.role ≡ Worker worker → IsSince low outcome
    → ComesOf tries ops outcome refused logged v w
    → Made decls low v w (λ index line. entries_of_line index worker line ops outcome) (option_to_list logged)
made_line decls low worker tries ops (Committed verdict number replies) refused logged v w layout role since comes =
    made_commit decls low worker tries ops verdict number replies logged comes.0 v w layout role since comes.1 comes.2
    comes.3
made_line decls low worker tries ops Conflict refused logged v w layout role since comes =
    subst (λ (l : Option Commit). Made decls low v w (λ index line. []) (option_to_list l)) (sym comes.0)
    (made_tried decls low ops comes.1.losts v w comes.1.tried)
made_line decls low worker tries ops Limit refused logged v w layout role since comes =
    subst (λ (l : Option Commit). Made decls low v w (λ index line. []) (option_to_list l)) (sym comes.0)
    (made_tried decls low ops _ v w comes.1.refused.tried)
made_line decls low worker tries ops Wide refused logged v w layout role since comes =
    subst (λ (l : Option Commit). Made decls low v w (λ index line. []) (option_to_list l)) (sym comes.0)
    (made_tried decls low ops _ v w comes.1.refused.tried)
made_line decls low worker tries ops Full refused logged v w layout role since comes =
    subst (λ (l : Option Commit). Made decls low v w (λ index line. []) (option_to_list l)) (sym comes.0)
    (made_tried decls low ops _ v w comes.1.refused.tried)
made_line decls low worker tries ops Unrun refused logged v w layout role since comes = absurd comes

-- ---- lines in a row

-- the log's commits, line by line
logged_first : (line : LineRan) (more : List LineRan)
    → logged_of (line ∷ more) ≡ option_to_list line.logged ++ logged_of more
logged_first line more = by_first line.logged refl
  where
    by_first : (logged : Option Commit) → line.logged ≡ logged
        → logged_of (line ∷ more) ≡ option_to_list line.logged ++ logged_of more
    by_first None is = rw is refl
    by_first (Some c) is = rw is refl

-- the same lines, numbered one higher
later : (decls : List Decl) (low : ℕ) (v w : View) (es : ℕ → ℕ → List Entry) (ls : List Commit)
    → Made decls low v w es ls
    → Made decls low v w (λ index line. es index (line + 1)) ls
later decls low v w es ls made = record {
  attempts = made.attempts;
  mine = made.mine;
  pairs = λ index line. made.pairs index (line + 1);
  logged_is = made.logged_is;
  each = made.each;
  seats = made.seats;
  ascend = made.ascend;
  seen = made.seen;
  layout = made.layout;
  role = made.role;
}

pub made_row : (decls : List Decl) (low worker tries : ℕ) (v : View) (ran : List LineRan) (w : View)
    → v.layout.decls ≡ decls → v.role ≡ Worker worker
    → AllByRecursion (λ (line : LineRan). IsSince low line.outcome) ran → AreInARow tries v ran w
    → Made decls low v w (λ index line. entries_of_worker index worker line (outcomes_of ran) (lines_of ran))
    (logged_of ran)
made_row decls low worker tries v [] w layout role since row = made_goes decls low v w row
made_row decls low worker tries v (r ∷ more) w layout role since row =
    let goes = row.0 in
    let here : r.before.layout.decls ≡ decls = ap (λ (l : Layout). l.decls) goes.layout ∙ layout in
    let seat : r.before.role ≡ Worker worker = goes.role ∙ role in
    let line = made_line decls low worker tries r.ops r.outcome r.refused r.logged r.before r.after here seat since.0
    row.1 in
    let rest = made_row decls low worker tries r.after more w (ap (λ (l : Layout). l.decls) line.layout ∙ here)
    (line.role ∙ seat) since.1 row.2 in
    subst (Made decls low v w (λ index place. entries_of_worker index worker place (outcomes_of (r ∷ more)) (lines_of
    (r ∷ more))))
    (sym (logged_first r more))
    (made_then decls low v r.before w (λ index place. [])
    (λ index place. entries_of_line index worker place r.ops r.outcome
    ++ entries_of_worker index worker (place + 1) (outcomes_of more) (lines_of more))
    [] (option_to_list r.logged ++ logged_of more)
    (made_goes decls low v r.before goes)
    (made_then decls low r.before r.after w (λ index place. entries_of_line index worker place r.ops r.outcome)
    (λ index place. entries_of_worker index worker (place + 1) (outcomes_of more) (lines_of more))
    (option_to_list r.logged) (logged_of more) line
    (later decls low r.after w (λ index place. entries_of_worker index worker place (outcomes_of more) (lines_of more))
    (logged_of more) rest)))
