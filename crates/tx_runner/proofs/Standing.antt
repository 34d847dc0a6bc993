-- What stays of a pass while its transaction runs.
use Rattle.std.proofs.Common.{◌≡◌, ◌+◌, ◌≤◌, Bool, true, false, length, arith, List, [], ◌∷◌, ◌++◌, refl, sym}
use Rattle.std.proofs.Common.{ap, ◌∙◌, subst, inl, inr}
use Rattle.std.specs.List.{AllByRecursion, Contains}
use Rattle.std.specs.Prelude.{IsTrue, drop, sum_by}
use Rattle.std.proofs.lemmas.List.Elements.{Contains-append_left}
use Rattle.lists.specs.Elements.{in_none}
use Rattle.lists.specs.Fronts.{IsFront, front_refl, front_rest, front_then, front_length}
use Rattle.serial_model.specs.declared.number.Number.{Number}
use Rattle.serial_model.specs.declared.op.Op.{Op}
use Rattle.serial_model.specs.Keys.{fits}
use Rattle.commit_core.specs.declared.attempt.Attempt.{Attempt}
use Rattle.commit_core.specs.declared.part.Part.{Part}
use Rattle.tx_sets.specs.declared.sets.Sets.{Sets}
use Rattle.tx_sets.specs.declared.writes.Write.{Write}
use Rattle.engine_pages.specs.declared.layout.Layout.{Layout}
use Rattle.engine_pages.specs.declared.view.RefusalCause.{RefusalCause}
use Rattle.engine_pages.specs.declared.view.View.{View}
use Rattle.engine_pages.specs.Views.{seat_number}
use Rattle.engine_seats.specs.Cuts.{HasSeen}
use Rattle.tx_runner.proofs.LastLaws.{last_since}
use Rattle.page_commit.specs.Below.{IsLastBetween}
use Rattle.page_commit.specs.Below.{readied}
use Rattle.engine_pages.specs.Times.{timed}
use Rattle.page_commit.specs.Live.{IsOver}
use Rattle.page_commit.specs.Committing.{commit_steps, kept_writes, HasBegun}
use Rattle.page_commit.specs.Refusing.{HasRefused}
use Rattle.tx_runner.specs.Lines.{end_steps, op_steps, try_steps, HasTreeOp}
use Rattle.tx_runner.specs.Steps.{AreSized, HasRoom, OnlyLoaded}
use Rattle.tx_runner.specs.Tries.{HasDrawsLeft, TouchesOnly}
use Rattle.tx_runner.proofs.Answered.{loaded_seen}
use Rattle.tx_runner.proofs.Sums.{few_sum, full_sum, owed_all, owed_tree, refused_sum}
use Rattle.tx_runner.proofs.Touched.{touches_then, untouched}

-- what the pass had seen, its own commits, its draws, its marks and its refusals so far stay, and of locks none is new
-- but those that operations may take
pub record StandsAs (ops : List Op) (v w : View) : Type 0 where
  pub layout : w.layout ≡ v.layout
  pub role : w.role ≡ v.role
  pub seen : HasSeen v w
  pub since : v.steps ≤ w.steps
  pub mine : w.mine ≡ v.mine
  pub draws : w.draws ≡ v.draws
  pub marks : w.seat.marks ≡ v.seat.marks
  pub refused : w.refused ≡ v.refused
  pub touched : TouchesOnly ops v w
  pub blamed : w.blamed ≡ v.blamed

begun_stands : (ops : List Op) (sets : Sets) (v w : View) → HasBegun sets v w → StandsAs ops v w
begun_stands ops sets v w b =
    let is : w ≡ readied (timed b.loaded.history b.loaded.decided b.clock v) = b.is ∙ ap readied b.timed.is in record {
      layout = ap (λ (x : View). x.layout) is;
      role = ap (λ (x : View). x.role) is;
      seen = record {
        history = subst (λ (l : List Attempt). IsFront v.history l) (sym (ap (λ (x : View). x.history) b.is))
            b.timed.history;
        decided = subst (λ (l : List Number). IsFront v.decided l) (sym (ap (λ (x : View). x.decided) b.is))
            b.timed.decided;
      };
      since = let one : w.steps ≡ v.steps + 1 = ap (λ (x : View). x.steps) is in omega (arith, one);
      mine = ap (λ (x : View). x.mine) is;
      draws = ap (λ (x : View). x.draws) is;
      marks = ap (λ (x : View). x.seat.marks) is;
      refused = ap (λ (x : View). x.refused) is;
      touched = untouched ops v w (ap (λ (x : View). x.touched) is);
      blamed = ap (λ (x : View). x.blamed) is;
    }

loaded_stands : (ops : List Op) (v w : View) → OnlyLoaded ops v w → StandsAs ops v w
loaded_stands ops v w l = record {
  layout = ap (λ (x : View). x.layout) l.walked.is;
  role = ap (λ (x : View). x.role) l.walked.is;
  seen = loaded_seen ops v w l;
  since = l.walked.since;
  mine = ap (λ (x : View). x.mine) l.walked.is;
  draws = ap (λ (x : View). x.draws) l.walked.is;
  marks = ap (λ (x : View). x.seat.marks) l.walked.is;
  refused = ap (λ (x : View). x.refused) l.walked.is;
  touched = l.touched;
  blamed = ap (λ (x : View). x.blamed) l.walked.is;
}

-- what is seen since then was seen since before
pub seen_then : (u v w : View) → HasSeen u v → HasSeen v w → HasSeen u w
seen_then u v w a b = record {
  history = front_then u.history v.history w.history a.history b.history;
  decided = front_then u.decided v.decided w.decided a.decided b.decided;
}

-- what a list begins with stands in it
contains_front : (front list : List Attempt) (a : Attempt) → IsFront front list → Contains front a → Contains list a
contains_front front list a begins has = subst (λ (l : List Attempt). Contains l a) (front_rest front list begins)
    (Contains-append_left front (drop (length front) list) a has)

-- since the begin there were but walks
pub run_stands : (ops : List Op) (sets : Sets) (u v w : View) → HasBegun sets u v → OnlyLoaded ops v w → StandsAs ops
    u w
run_stands ops sets u v w b l =
    let first = begun_stands ops sets u v b in let second = loaded_stands ops v w l in record {
      layout = second.layout ∙ first.layout;
      role = second.role ∙ first.role;
      seen = seen_then u v w first.seen second.seen;
      since = let before = first.since in let later = second.since in omega (arith, before, later);
      mine = second.mine ∙ first.mine;
      draws = second.draws ∙ first.draws;
      marks = second.marks ∙ first.marks;
      refused = second.refused ∙ first.refused;
      touched = touches_then ops u v w first.layout first.role first.touched second.touched;
      blamed = second.blamed ∙ first.blamed;
    }

-- and what is kept then was read since, each record with the last decided write of its key at a step of the try
pub run_last : (ops : List Op) (sets : Sets) (u v w : View) → IsOver u → HasBegun sets u v → OnlyLoaded ops v w
    → (part : Part) → Contains w.seat.kept part → IsLastBetween u w part
run_last ops sets u v w over b l part has =
    let s = begun_stands ops sets u v b in
    let none : v.seat.kept ≡ [] = ap (λ (x : View). x.seat.kept) (b.is ∙ ap readied b.timed.is) ∙ over.seat.kept in
    elim (l.walked.parts part has) [
      | inl before ↦ absurd (in_none part (subst (λ (x : List Part). Contains x part) none before))
      | inr new ↦ elim new [
        | inl now ↦ last_since u v w part s.layout s.seen now
        | inr less ↦ absurd (in_none less.0 (subst (λ (x : List Part). Contains x less.0) none less.1))
      ]
    ]

pub begins_stands : (ops : List Op) (sets : Sets) (v w : View) → HasBegun sets v w → StandsAs ops v w
begins_stands ops sets v w b = begun_stands ops sets v w b

-- the clock was not at the last draws as the try began, so with the draws that were seen before it isn't either
pub begun_below : (sets : Sets) (v w : View) → HasBegun sets v w → HasDrawsLeft v
begun_below sets v w b =
    let low = b.low in let draws = b.timed.draws in
    let more = front_length v.history b.loaded.history b.timed.history in omega (arith, low, draws, more)

-- draws that are left are so with less of them seen
pub left_before : (u v : View) → v.layout ≡ u.layout → HasSeen u v → HasDrawsLeft v → HasDrawsLeft u
left_before u v same seen left =
    let more = front_length u.history v.history seen.history in
    let first = ap (λ (l : Layout). l.first.draw) same in omega (arith, left, more, first)

pub still : (ops : List Op) (v : View) → StandsAs ops v v
still ops v = record {
  layout = refl;
  role = refl;
  seen = record { history = front_refl v.history; decided = front_refl v.decided };
  since = omega arith;
  mine = refl;
  draws = refl;
  marks = refl;
  refused = refl;
  touched = untouched ops v v refl;
  blamed = refl;
}

-- ---- refusals behind walks

-- the transaction was refused behind some walks
pub refused_since : (ops : List Op) (why : RefusalCause) (u v w : View) → OnlyLoaded ops u v → HasRefused why v w
    → HasRefused why u w
refused_since ops why u v w l r = let s = loaded_stands ops u v l in record {
  over = r.over;
  layout = r.layout ∙ s.layout;
  role = r.role ∙ s.role;
  seen = seen_then u v w s.seen r.seen;
  since = let before = s.since in let later = r.since in omega (arith, before, later);
  mine = r.mine ∙ s.mine;
  drew = r.drew;
  draws = let few = r.draws in let same = s.draws in omega (arith, few, same);
  lost = λ so. let one = r.lost so in record {
    attempt = one.attempt;
    seat = one.seat ∙ ap seat_number s.role;
    drawn = one.drawn;
    above = λ b has. one.above b (contains_front u.history v.history b s.seen.history has);
  };
  marks = r.marks ∙ s.marks;
  refused = r.refused ∙ ap (λ l. l ++ why ∷ []) s.refused;
  met = r.met;
  told = r.told;
  blamed = r.blamed ∙ ap (λ l. l ++ r.met) s.blamed;
}

-- ---- steps

-- the begin took one step
pub begun_steps : (sets : Sets) (v w : View) → HasBegun sets v w → w.steps ≡ v.steps + 1
begun_steps sets v w b = ap (λ (x : View). x.steps) (b.is ∙ ap readied b.timed.is)

kept_few : (keep : Bool) (writes : List Write) → length (kept_writes keep writes) ≤ length writes
kept_few true writes = omega arith
kept_few false writes = omega arith

-- what the operations took since the begin, as the storages and slots were before
begun_took : (ops : List Op) (sets : Sets) (t u v : View) → HasBegun sets t u
    → v.steps ≤ u.steps + sum_by (op_steps u.layout.decls u.layout.slots) ops
    → v.steps ≤ u.steps + sum_by (op_steps t.layout.decls t.layout.slots) ops
begun_took ops sets t u v b took =
    subst (λ (l : Layout). v.steps ≤ u.steps + sum_by (op_steps l.decls l.slots) ops) (begun_stands ops sets t u
    b).layout
    took

-- a begin, operations and a commit
pub try_took : (ops : List Op) (keep : Bool) (first sets : Sets) (t u v w : View) → HasBegun first t u
    → v.steps ≤ u.steps + sum_by (op_steps u.layout.decls u.layout.slots) ops → AreSized ops (length ops) sets u
    → HasRoom sets → w.steps ≤ v.steps + commit_steps sets (kept_writes keep sets.writes)
    → w.steps ≤ t.steps + try_steps t.layout.decls t.layout.slots ops
try_took ops keep first sets t u v w begun run sized room commit = by_size sized
  where
    took : v.steps ≤ u.steps + sum_by (op_steps t.layout.decls t.layout.slots) ops
    took = begun_took ops first t u v begun run

    by_size : AreSized ops (length ops) sets u → w.steps ≤ t.steps + try_steps t.layout.decls t.layout.slots ops
    by_size (inl tree) =
        full_sum (sum_by (op_steps t.layout.decls t.layout.slots) ops) (sum_by (end_steps t.layout.decls) ops)
        (length sets.reads) (length sets.writes) (length (kept_writes keep sets.writes)) (length sets.pointers)
        (length sets.headers) (length sets.holds) t.steps u.steps v.steps w.steps (begun_steps first t u begun) took
        room.reads room.writes (kept_few keep sets.writes) room.pointers room.headers room.holds
        (owed_tree t.layout.decls ops
        (subst (λ (l : Layout). HasTreeOp l.decls ops) (begun_stands ops first t u begun).layout tree)) commit
    by_size (inr few) =
        few_sum (sum_by (op_steps t.layout.decls t.layout.slots) ops) (sum_by (end_steps t.layout.decls) ops) (length
        ops)
        (length sets.reads) (length sets.writes) (length (kept_writes keep sets.writes)) (length sets.pointers)
        (length sets.headers) (length sets.holds) t.steps u.steps v.steps w.steps (begun_steps first t u begun) took
        few.reads few.writes (kept_few keep sets.writes) few.pointers few.headers few.holds
        (owed_all t.layout.decls ops) commit

-- a begin, and operations of which one was refused
pub try_refused : (ops : List Op) (first : Sets) (t u w : View) → HasBegun first t u
    → w.steps ≤ u.steps + sum_by (op_steps u.layout.decls u.layout.slots) ops
    → w.steps ≤ t.steps + try_steps t.layout.decls t.layout.slots ops
try_refused ops first t u w begun run =
    refused_sum (sum_by (op_steps t.layout.decls t.layout.slots) ops) (sum_by (end_steps t.layout.decls) ops) t.steps
    u.steps w.steps (begun_steps first t u begun) (begun_took ops first t u w begun run)

-- the declarations are the same behind a begin
pub begun_fits : (ops : List Op) (sets : Sets) (v w : View) → HasBegun sets v w
    → AllByRecursion (λ op. IsTrue (fits v.layout.decls op)) ops
    → AllByRecursion (λ op. IsTrue (fits w.layout.decls op)) ops
begun_fits ops sets v w b all = subst (λ (l : Layout). AllByRecursion (λ op. IsTrue (fits l.decls op)) ops)
    (sym (ap (λ (x : View). x.layout) (b.is ∙ ap readied b.timed.is))) all
