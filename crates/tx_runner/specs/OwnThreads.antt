-- Laws for a caller's own threads: with what a worker's pass begins, goes on and ends, and that what they committed
-- between two counts is a serial run of their transactions.
use Rattle.std.proofs.Common.{◌≡◌, refl, subst, ap, sym, ◌∙◌, ℕ, ◌++◌, List, [], ◌∷◌, get_or, true, false, true≢false}
use Rattle.std.proofs.Common.{eqb, eq-eqb}
use Rattle.std.specs.Prelude.{filter, Contains}
use Rattle.std.specs.List.Sorted.{IsPermutation}
use Rattle.lists.specs.Elements.{any_in, in_head, in_none}
use Rattle.serial_model.specs.Decls.{AreDecls}
use Rattle.serial_model.specs.History.{Entry}
use Rattle.serial_model.specs.State.{State}
use Rattle.serial_model.specs.declared.decl.Decl.{Decl}
use Rattle.serial_model.specs.declared.key.Key.{Key}
use Rattle.serial_model.specs.declared.number.Number.{Number}
use Rattle.homes.specs.declared.places.Content.{Content}
use Rattle.commit_core.specs.Keys.{content_at}
use Rattle.commit_core.specs.Serial.{ReadsAreSerial}
use Rattle.commit_core.specs.declared.attempt.Attempt.{Attempt}
use Rattle.serial_bridge.specs.Bridge.{Agrees, RunsSerially, after_attempts}
use Rattle.serial_bridge.specs.Transaction.{AreAttemptsOf}
use Rattle.serial_bridge.specs.WriteLaws.{attempts_permuted, runs_behind}
use Rattle.engine_seats.specs.Between.{Between, Splits, counts, splits}
use Rattle.engine_seats.specs.Cuts.{worker_view}
use Rattle.engine_seats.specs.Gathered.{joined}
use Rattle.engine_pages.specs.declared.view.Way.{Way}
use Rattle.engine_pages.specs.declared.view.Known.{Known}
use Rattle.engine_pages.specs.declared.view.Inner.{Inner}
use Rattle.engine_pages.specs.Pages.{is_tree}
use Rattle.engine_pages.specs.Agreement.{KnownAgree, TreesAgree}
use Rattle.engine_pages.specs.Views.{IsResting, bare_grip, bare_seat}
use Rattle.drop_core.specs.Table.{has_slot}
use Rattle.drop_core.specs.declared.grip.Grip.{Grip}
use Rattle.engine_pages.specs.declared.layout.Layout.{Layout}
use Rattle.engine_pages.specs.declared.view.Role.{Role}
use Rattle.engine_pages.specs.declared.view.Role.TheVariants.{Worker}
use Rattle.engine_pages.specs.declared.view.View.{View}
use Rattle.engine_pages.specs.Pointers.{WaysAgree}
use Rattle.page_commit.specs.Below.{worker_of}
use Rattle.engine_seats.specs.Cuts.{IsDone}
use Rattle.serial_model.specs.declared.op.Op.{Op}
use Rattle.serial_model.specs.declared.op.Op.TheVariants.{Read, Write, Remove, Add, Take, Scan}
use Rattle.engine_pages.specs.declared.view.SetName.{SetName}
use Rattle.engine_pages.specs.declared.view.SetName.TheVariants as names
use Rattle.tx_runner.specs.Epochs.{HasSeenEpoch}
use Rattle.tx_runner.specs.Lines.{is_on_tree, HasTreeOp, IsOnTree, IsTreeScan}
use Rattle.tx_runner.specs.Tries.{FillsSet, IsWideAt}
use Rattle.page_commit.specs.Live.{IsOver}

-- ---- seats

-- A pass that is cut from the keeper's, for a worker whose seat rests there, has no transaction under way.
pub seat_over : (keeper : View) (worker : ℕ) → AreDecls keeper.layout.decls
    → IsResting (get_or keeper.parked worker bare_seat) → IsOver (worker_view worker keeper)
seat_over keeper worker decls rests = record {
  decls = decls;
  worker = refl;
  due = refl;
  took = refl;
  seat = rests;
  agree = λ a b has. absurd (in_none a has);
  trees = record {
    known = λ a b has. absurd (in_none a has);
    inners = λ a b has. absurd (in_none a has);
    apart = λ a b has. absurd (in_none a has);
    spans = λ a b has. absurd (in_none a has);
  };
  holds = record {
    holds = λ s. refl;
    within = λ s has. absurd (true≢false (sym has));
    made = refl;
    taken = refl;
    drafts = refl;
    copies = refl;
    blanks = refl;
    leaves = refl;
    inners = refl;
    heads = refl;
  };
}

-- A pass that loaded the clock has none under way, if it had none before.
pub seen_over : (epoch : ℕ) (v w : View) → HasSeenEpoch epoch v w → IsOver v → IsOver w
seen_over epoch v w s over = record {
  decls = subst (λ (l : Layout). AreDecls l.decls) (sym s.layout) over.decls;
  worker = s.role ∙ over.worker ∙ ap (λ (r : Role). Worker (worker_of r)) (sym s.role);
  due = s.due ∙ over.due;
  took = s.took ∙ over.took;
  seat = subst IsResting (sym s.seat) over.seat;
  agree = subst WaysAgree (sym s.ways) over.agree;
  trees = seen_trees over.trees;
  holds = record {
    holds = λ t. over.holds.holds t ∙ ap (λ (g : Grip). has_slot g.holds t) (sym s.grip);
    within = λ t has. absurd (true≢false (sym has));
    made = ap (λ (g : Grip). g.made) s.grip ∙ over.holds.made;
    taken = ap (λ (g : Grip). g.taken) s.grip ∙ over.holds.taken;
    drafts = s.drafts ∙ over.holds.drafts;
    copies = s.copies ∙ over.holds.copies;
    blanks = s.blanks ∙ over.holds.blanks;
    leaves = s.leaves ∙ over.holds.leaves;
    inners = s.inners ∙ over.holds.inners;
    heads = s.heads ∙ over.holds.heads;
  };
}
  where
    inner : (x : Inner) → Contains w.inners x → Contains v.inners x
    inner x has = subst (λ (l : List Inner). Contains l x) s.branches has

    seen_trees : TreesAgree v → TreesAgree w
    seen_trees a = record {
      known = subst KnownAgree (sym s.known) a.known;
      inners = λ x y hx hy. a.inners x y (inner x hx) (inner y hy);
      apart = λ x y hx hy. a.apart x y (subst (λ (l : List Known). Contains l x) s.known hx) (inner y hy);
      spans = λ x y hx hy one tree. a.spans x y (subst (λ (l : List Way). Contains l x) s.ways hx)
          (subst (λ (l : List Way). Contains l y) s.ways hy) one
          (subst (λ (l : Layout). is_tree l.decls x.span.storage ≡ true) s.layout tree);
    }

no_slots : (slots : List ℕ) → ((t : ℕ) → has_slot slots t ≡ false) → slots ≡ []
no_slots [] none = refl
no_slots (x ∷ slots) none =
    absurd (true≢false (sym (any_in (λ (t : ℕ). eqb t x) (x ∷ slots) x (in_head x slots) (eq-eqb x x refl)) ∙ none x))

bare_of : (g : Grip) → g.holds ≡ [] → g.made ≡ [] → g.taken ≡ [] → g ≡ bare_grip
bare_of g holds made taken =
    ap (λ (l : List ℕ). let x : Grip = record { holds = l; made = g.made; taken = g.taken } in x) holds
    ∙ ap (λ (l : List ℕ). let x : Grip = record { holds = []; made = l; taken = g.taken } in x) made
    ∙ ap (λ (l : List ℕ). let x : Grip = record { holds = []; made = []; taken = l } in x) taken

-- A pass that has none under way has no slot, and can be taken into the keeper's.
pub over_done : (v : View) → IsOver v → IsDone v
over_done v over = record {
  due = over.due;
  resting = over.seat;
  grip = bare_of v.grip (no_slots v.grip.holds (λ t. sym (over.holds.holds t))) over.holds.made over.holds.taken;
  heads = over.holds.heads;
}

-- ---- lines on arrays

scan_on_tree : (decls : List Decl) (op : Op) → IsTreeScan decls op → IsOnTree decls op
scan_on_tree decls (Read k) scan = absurd scan
scan_on_tree decls (Write k value) scan = absurd scan
scan_on_tree decls (Remove k) scan = absurd scan
scan_on_tree decls (Add k amount) scan = absurd scan
scan_on_tree decls (Take k amount) scan = absurd scan
scan_on_tree decls (Scan storage low high) scan = scan

-- A line that can fill a set has an operation on a tree.
pub fills_tree : (decls : List Decl) (ops : List Op) (set : SetName) → FillsSet decls ops set → HasTreeOp decls ops
fills_tree decls ops names.Reads fills = (fills.0, fills.1, scan_on_tree decls fills.0 fills.2)
fills_tree decls ops names.Writes fills = absurd fills
fills_tree decls ops names.Pointers fills = (fills.0, fills.1, scan_on_tree decls fills.0 fills.2)
fills_tree decls ops names.Holds fills = fills

-- No line whose operations are all on arrays is wide.
pub never_wide : (ops : List Op) (tries : ℕ) (v w : View)
    → ((op : Op) → Contains ops op → is_on_tree v.layout.decls op ≡ false) → IsWideAt ops tries v w → ⊥
never_wide ops tries v w none wide =
    let tree = fills_tree v.layout.decls ops wide.set wide.fills in true≢false (sym tree.2 ∙ none tree.0 tree.1)

-- ---- from two counts to a serial run

-- The entries, in this order of all of them, are a serial run from the state, and leave contents that agree with those
-- behind the attempts that count now.
pub record RunsBetween (decls : List Decl) (s : State) (opening : List (Key × Content)) (entries : List Entry)
    (now : List Attempt) : Type 0 where
  pub ordered : List Entry
  pub same : IsPermutation entries ordered
  pub new : List Attempt
  pub runs : RunsSerially decls s ordered new (after_attempts (content_at opening) now)

-- Between two counts of the keeper's, with nobody seated at either, seats ended with these commits (`mines`), which are
-- attempts of these transactions, seat by seat. Then the transactions are a serial run, in an order of all of them, from
-- a state that agrees with what counted at the first count. That reads are serial is told by the second one.
pub counted_runs : (decls : List Decl) (s : State) (opening : List (Key × Content)) (was history : List Attempt)
    (old decided : List Number) (before now : List Attempt) (mines : List (List Attempt)) (entries : List Entry)
    → Between was history old decided before now mines → before ≡ filter (counts old) was
    → ReadsAreSerial opening (filter (counts decided) history)
    → Agrees decls s (after_attempts (content_at opening) before) → AreAttemptsOf decls entries (joined mines)
    → RunsBetween decls s opening entries now
counted_runs decls s opening was history old decided before now mines entries between own serial agrees are =
    let split : Splits was history old decided before now mines =
    splits was history old decided before now mines between in
    let moved = attempts_permuted decls entries (joined mines) split.new are split.same in
    let counts_now : filter (counts decided) history ≡ before ++ split.new =
    split.cut ∙ ap (λ (l : List Attempt). l ++ split.new) (sym own) in
    record {
      ordered = moved.0;
      same = moved.1;
      new = split.new;
      runs = subst (λ (l : List Attempt). RunsSerially decls s moved.0 split.new (after_attempts (content_at opening)
          l))
          (sym split.own)
          (runs_behind decls s opening before split.new moved.0
          (subst (ReadsAreSerial opening) counts_now serial) agrees moved.2);
    }
