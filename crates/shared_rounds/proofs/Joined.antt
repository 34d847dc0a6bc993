-- The commits of all workers' parts.
use Rattle.std.proofs.Common.{◌≡◌, ◌∙◌, sym, ap, subst, refl, ℕ, suc, ◌+◌, List, [], ◌∷◌, ◌++◌, map, inl, inr}
use Rattle.std.specs.List.{AllByRecursion, Contains}
use Rattle.std.proofs.lemmas.List.Elements.{Contains-append_cases}
use Rattle.lists.specs.Elements.{in_head, in_none}
use Rattle.serial_model.specs.declared.number.Number.{Number}
use Rattle.serial_model.specs.declared.op.Op.{Op}
use Rattle.serial_model.specs.History.{Entry}
use Rattle.commit_core.specs.declared.attempt.Attempt.{Attempt}
use Rattle.commit_core.specs.Keys.{IsUpTo, opening_number}
use Rattle.engine_seats.specs.Gathered.{joined, up_from_opening}
use Rattle.engine_pages.specs.Rule.{IsInOrder}
use Rattle.engine_pages.specs.Views.{seat_number}
use Rattle.engine_pages.specs.declared.layout.Layout.{Layout}
use Rattle.engine_pages.specs.declared.view.View.{View}
use Rattle.tx_script.specs.Run.{entries_of_line, entries_of_worker, entries_of_workers}
use Rattle.worker_cells.specs.Rows.{LineRan, lines_of, logged_of, outcomes_of, unrun}
use Rattle.shared_rounds.specs.Parts.{AreParts, IsPart, Part, share_of}
use Rattle.shared_rounds.specs.Shares.{Share}
use Rattle.shared_rounds.proofs.Made.{Ascend, IsMade, logged_from, made_wider}
use Rattle.shared_rounds.proofs.Pairs.{ArePairs, pairs_append}
use Rattle.shared_rounds.proofs.Rows.{made_row}

-- ---- one part

-- lines that were left out commit nothing
left_none : (index worker line : ℕ) (left : List (List Op)) → entries_of_worker index worker line (unrun left) left ≡ []
left_none index worker line [] = refl
left_none index worker line (ops ∷ left) = left_none index worker (line + 1) left

ran_alone : (index worker line : ℕ) (ran : List LineRan) (left : List (List Op))
    → entries_of_worker index worker line (outcomes_of ran ++ unrun left) (lines_of ran ++ left)
    ≡ entries_of_worker index worker line (outcomes_of ran) (lines_of ran)
ran_alone index worker line [] left = left_none index worker line left
ran_alone index worker line (r ∷ ran) left =
    ap (λ (l : List Entry). entries_of_line index worker line r.ops r.outcome ++ l)
    (ran_alone index worker (line + 1) ran left)

-- What a worker committed in its part.
pub record PartMade (was ended : View) (worker : ℕ) (p : Part) : Type 0 where
  pub pairs : (index : ℕ) → ArePairs was.layout.decls
      (entries_of_worker index worker 0 (share_of p).outcomes (share_of p).lines) p.to.mine
  pub logged : logged_of p.ran ≡ logged_from p.to.mine
  pub each : (a : Attempt) → Contains p.to.mine a → IsMade was.epoch was ended a
  pub seats : (a : Attempt) → Contains p.to.mine a → a.seat ≡ suc worker
  pub ascend : Ascend p.to.mine

pub part_made : (tries : ℕ) (was ended : View) (worker : ℕ) (p : Part) → IsPart tries was ended worker p
    → PartMade was ended worker p
part_made tries was ended worker p part =
    let layout : p.from.layout ≡ was.layout = part.seated.layout in
    let made = made_row was.layout.decls was.epoch worker tries p.from p.ran p.to
    (ap (λ (l : Layout). l.decls) layout) part.seated.role part.since part.row in
    let mine : p.to.mine ≡ made.attempts =
    made.mine ∙ ap (λ (l : List Attempt). l ++ made.attempts) part.seated.mine in
    record {
      pairs = λ index.
          subst (λ (es : List Entry). ArePairs was.layout.decls es p.to.mine)
          (sym (ran_alone index worker 0 p.ran p.left))
          (subst (ArePairs was.layout.decls (entries_of_worker index worker 0 (outcomes_of p.ran) (lines_of p.ran)))
          (sym mine) (made.pairs index 0));
      logged = made.logged_is ∙ ap logged_from (sym mine);
      each = λ a has. made_wider was.epoch was p.from p.to ended a part.seated.seen layout part.seen
          (made.each a (subst (λ (l : List Attempt). Contains l a) mine has));
      seats = λ a has. made.seats a (subst (λ (l : List Attempt). Contains l a) mine has)
          ∙ ap seat_number part.seated.role;
      ascend = subst Ascend (sym mine) made.ascend;
    }

-- ---- all parts

-- the own commits of the workers, one worker after another
abbrev pub mines_of : List Part → List (List Attempt)
mines_of parts = map (λ (p : Part). p.to.mine) parts

abbrev pub shares_of : List Part → List Share
shares_of parts = map share_of parts

-- the commits that are told are those of the seats
pub joined_pairs : (tries : ℕ) (was ended : View) (index worker : ℕ) (parts : List Part)
    → AreParts tries was ended worker parts
    → ArePairs was.layout.decls
    (entries_of_workers index worker (map (λ (share : Share). share.outcomes) (shares_of parts))
    (map (λ (share : Share). share.lines) (shares_of parts))) (joined (mines_of parts))
joined_pairs tries was ended index worker [] are = tt
joined_pairs tries was ended index worker (p ∷ parts) are =
    pairs_append was.layout.decls (entries_of_worker index worker 0 (share_of p).outcomes (share_of p).lines)
    (entries_of_workers index (worker + 1) (map (λ (share : Share). share.outcomes) (shares_of parts))
    (map (λ (share : Share). share.lines) (shares_of parts))) p.to.mine (joined (mines_of parts))
    ((part_made tries was ended worker p are.0).pairs index) (joined_pairs tries was ended index
    (worker + 1) parts are.1)

pub joined_made : (tries : ℕ) (was ended : View) (worker : ℕ) (parts : List Part)
    → AreParts tries was ended worker parts
    → (a : Attempt) → Contains (joined (mines_of parts)) a → IsMade was.epoch was ended a
joined_made tries was ended worker [] are a has = absurd (in_none a has)
joined_made tries was ended worker (p ∷ parts) are a has =
    elim (Contains-append_cases p.to.mine (joined (mines_of parts)) a has) [
      | inl here ↦ (part_made tries was ended worker p are.0).each a here
      | inr there ↦ joined_made tries was ended (worker + 1) parts are.1 a there
    ]

-- each worker's numbers rise
ascend_order : (low : Number) (xs : List Attempt) → ((a : Attempt) → Contains xs a → IsUpTo low a.number) → Ascend xs
    → IsInOrder low xs
ascend_order low [] up ascend = tt
ascend_order low (x ∷ xs) up ascend =
    (up x (in_head x xs), ascend_order x.number xs (λ a has. inr (ascend.0 a has)) ascend.1)

pub joined_order : (tries : ℕ) (was ended : View) (worker : ℕ) (parts : List Part)
    → AreParts tries was ended worker parts
    → AllByRecursion (IsInOrder opening_number) (mines_of parts)
joined_order tries was ended worker [] are = tt
joined_order tries was ended worker (p ∷ parts) are = (
  ascend_order opening_number p.to.mine (λ a has. up_from_opening a.number)
      (part_made tries was ended worker p are.0).ascend,
  joined_order tries was ended (worker + 1) parts are.1,
)
