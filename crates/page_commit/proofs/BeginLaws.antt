-- How a transaction begins, and how it is given up by its caller.
use Rattle.std.proofs.Common.{◌≡◌, ℕ, ◌+◌, ◌%◌, ◌^◌, ◌<◌, ◌≤◌, true, false, List, [], ◌∷◌, ◌++◌, length}
use Rattle.std.proofs.Common.{true≢false, refl, sym, ap, ◌∙◌, subst, arith, Some, None}
use Rattle.std.proofs.lemmas.Bool.Decides.{nat_tests}
use Rattle.std.proofs.lemmas.List.{append-nil}
use Rattle.std.specs.Prelude.{Contains, MatchBool, nat_lt}
use Rattle.std.specs.List.{AllByRecursion}
use Rattle.lists.specs.Each.{AreDistinct}
use Rattle.lists.specs.Elements.{in_none}
use Rattle.lists.specs.Fronts.{IsFront, front_refl}
use Rattle.serial_model.specs.Numbers.{draw_limit}
use Rattle.tx_sets.specs.declared.reads.ReadEntry.{ReadEntry}
use Rattle.tx_sets.specs.declared.seen.Seen.{Seen}
use Rattle.tx_sets.specs.declared.sets.Sets.{Sets}
use Rattle.tx_sets.specs.Entries.{places_of}
use Rattle.tx_sets.specs.Gathered.{AreEmpty}
use Rattle.engine_pages.specs.Agreement.{TreesAgree}
use Rattle.engine_pages.specs.declared.layout.Layout.{Layout}
use Rattle.engine_pages.specs.declared.view.RefusalCause.TheVariants as refusals
use Rattle.engine_pages.specs.declared.view.Role.{Role}
use Rattle.engine_pages.specs.declared.view.Role.TheVariants.{Worker}
use Rattle.engine_pages.specs.declared.view.View.{View}
use Rattle.engine_pages.specs.Times.{HasTimed}
use Rattle.engine_pages.specs.Views.{IsActive, IsResting}
use Rattle.page_records.specs.Ends.{readied, refused_for, worker_of, Begun, HasForgotten}
use Rattle.page_commit.specs.Places.{ground}
use Rattle.page_commit.specs.HeaderParts.{AreHeaders}
use Rattle.page_commit.specs.Live.{entry_places, AreParts, HasHolds, IsLive, IsOver, IsWriteOf}
use Rattle.page_commit.specs.Refusing.{RefusesBegin}
use Rattle.page_commit.specs.Committing.{HasAborted, HasBegun}
use Rattle.page_commit.specs.Steps.{HasLeft}
use Rattle.page_commit.proofs.LeaveLaws.{holds_stay, left_agree, left_holds, same_then, SamePages}
use Rattle.page_commit.proofs.LeaveLaws.{left_trees, trees_stay}
use Rattle.page_commit.proofs.PageLaws.{forgotten_pages}
use Rattle.page_commit.proofs.RoomLaws.{room_empty}

-- ---- the begin

timed_pages : (v u : View) (n : ℕ) → HasTimed v n u → SamePages v u
timed_pages v u n h = record {
  layout = ap (λ (y : View). y.layout) h.is;
  grip = ap (λ (y : View). y.grip) h.is;
  ways = ap (λ (y : View). y.ways) h.is;
  known = ap (λ (y : View). y.known) h.is;
  moved = ap (λ (y : View). y.moved) h.is;
  branches = ap (λ (y : View). y.inners) h.is;
  drafts = ap (λ (y : View). y.drafts) h.is;
  copies = ap (λ (y : View). y.copies) h.is;
  blanks = ap (λ (y : View). y.blanks) h.is;
  leaves = ap (λ (y : View). y.new_leaves) h.is;
  inners = ap (λ (y : View). y.new_inners) h.is;
  heads = ap (λ (y : View). y.heads) h.is;
}

-- what is kept where nothing was read or met
no_parts : (sets : Sets) (v : View) → AreEmpty sets → AreParts sets v []
no_parts sets v empty = record {
  known = λ part has. absurd (in_none part has);
  reads = λ e has. absurd (in_none e (subst (λ (l : List ReadEntry). Contains l e) empty.reads has));
  pointers = λ p has. absurd (in_none p (subst (λ (l : List Seen). Contains l p) empty.pointers has));
  headers = λ p has. absurd (in_none p (subst (λ (l : List Seen). Contains l p) empty.headers has));
  once = λ a b has. absurd (in_none a has);
}

begun_live : (sets : Sets) (v u : View) (n : ℕ) → IsOver v → AreEmpty sets → HasTimed v n u → IsLive sets (readied u)
begun_live sets v u n over empty h =
    let pages : SamePages v u = timed_pages v u n h in
    let kept : u.seat.kept ≡ [] = ap (λ (y : View). y.seat.kept) h.is ∙ over.seat.kept in record {
      decls = subst (λ (l : Layout). Rattle.serial_model.specs.Decls.AreDecls l.decls) (sym pages.layout) over.decls;
      worker = subst (λ (r : Role). r ≡ Worker (worker_of r)) (sym (ap (λ (y : View). y.role) h.is)) over.worker;
      due = refl;
      locks = ap (λ (y : View). y.seat.locks) h.is ∙ over.seat.locks;
      took = ap (λ (y : View). y.took) h.is ∙ over.took;
      stage = ap (λ (y : View). y.seat.stage) h.is ∙ over.seat.stage;
      gone = refl;
      agree = subst Rattle.engine_pages.specs.Pointers.WaysAgree (sym pages.ways) over.agree;
      trees = ready_trees u (trees_stay v u pages over.trees);
      holds = subst (λ l. HasHolds l (readied u)) (sym empty.holds) (ready_holds u (holds_stay [] v u pages over.holds));
      parts = subst (AreParts sets (readied u)) (sym kept) (no_parts sets (readied u) empty);
      places = subst (λ (l : List ReadEntry). AreDistinct (entry_places l)) (sym empty.reads) tt;
      once = subst (λ (l : List Seen). AreDistinct (places_of l)) (sym empty.pointers) tt;
      writes = subst (AllByRecursion (IsWriteOf (ground (readied u)))) (sym empty.writes) tt;
      met = record {
        arrays = λ k at place clear.
            ap (λ (l : List ReadEntry). Rattle.page_commit.specs.Live.read_word at l) (sym empty.reads);
        trees = λ k at m place clear read.
            absurd (none_some m (ap (λ (l : List ReadEntry). Rattle.page_commit.specs.Live.read_word at l) (sym empty.reads)
            ∙ read));
      };
      points = λ p has. absurd (in_none p (subst (λ (l : List Seen). Contains l p) empty.pointers has));
      kept = λ p has. absurd (in_none p (subst (λ (l : List Seen). Contains l p) empty.pointers has));
      headers = subst (λ (l : List Seen). AreHeaders l (readied u)) (sym empty.headers) record {
        once = tt;
        met = λ h has. absurd (in_none h has);
        kept = λ h has. absurd (in_none h has);
      };
      only = λ at m kept. absurd (none_some m kept);
      inside = λ at m seen. absurd (none_some m seen);
      room = room_empty sets empty;
    }
  where
    none_some : (m : ℕ) → None ≡ Some m → ⊥
    none_some m same = cc

    ready_trees : (y : View) → TreesAgree y → TreesAgree (readied y)
    ready_trees y a = record { known = a.known; inners = a.inners; apart = a.apart; spans = a.spans }

    ready_holds : (y : View) → HasHolds [] y → HasHolds [] (readied y)
    ready_holds y h = record {
      holds = h.holds;
      within = h.within;
      made = h.made;
      taken = h.taken;
      drafts = h.drafts;
      copies = h.copies;
      blanks = h.blanks;
      leaves = h.leaves;
      inners = h.inners;
      heads = h.heads;
    }

pub begun : (sets : Sets) (v w : View) (n : ℕ) → IsOver v → AreEmpty sets → Begun v n w → n % 2 ^ 40 < draw_limit
    → HasBegun sets v w
begun sets v w n over empty b low =
    let test : nat_lt (n % 2 ^ 40) draw_limit ≡ true = grind (arith, nat_tests) in
    let is : w ≡ readied b.0 =
    subst (λ t. MatchBool t (w ≡ readied b.0) (w ≡ refused_for (refusals.NumberLimit n) b.0)) test b.2 in record {
      live = subst (IsLive sets) (sym is) (begun_live sets v b.0 n over empty b.1);
      empty = empty;
      clock = n;
      low = low;
      loaded = b.0;
      timed = b.1;
      is = is;
    }

pub refuses_begin : (v w : View) (n : ℕ) → IsOver v → Begun v n w → draw_limit ≤ n % 2 ^ 40
    → RefusesBegin (refusals.NumberLimit n) v w
refuses_begin v w n over b high =
    let test : nat_lt (n % 2 ^ 40) draw_limit ≡ false = grind (arith, nat_tests) in
    let is : w ≡ refused_for (refusals.NumberLimit n) b.0 =
    subst (λ t. MatchBool t (w ≡ readied b.0) (w ≡ refused_for (refusals.NumberLimit n) b.0)) test b.2 in
    let h = b.1 in
    let u : View = b.0 in
    let pages : SamePages v u = timed_pages v u n h in
    let layout : w.layout ≡ v.layout = ap (λ (y : View). y.layout) is ∙ pages.layout in
    let role : w.role ≡ v.role = ap (λ (y : View). y.role) is ∙ ap (λ (y : View). y.role) h.is in
    let now : SamePages v w = same_then v u w pages record {
      layout = ap (λ (y : View). y.layout) is;
      grip = ap (λ (y : View). y.grip) is;
      ways = ap (λ (y : View). y.ways) is;
      known = ap (λ (y : View). y.known) is;
      moved = ap (λ (y : View). y.moved) is;
      branches = ap (λ (y : View). y.inners) is;
      drafts = ap (λ (y : View). y.drafts) is;
      copies = ap (λ (y : View). y.copies) is;
      blanks = ap (λ (y : View). y.blanks) is;
      leaves = ap (λ (y : View). y.new_leaves) is;
      inners = ap (λ (y : View). y.new_inners) is;
      heads = ap (λ (y : View). y.heads) is;
    } in
    let draws : w.draws ≡ v.draws = ap (λ (y : View). y.draws) is ∙ ap (λ (y : View). y.draws) h.is in record {
      clock = n;
      is = refl;
      steps = ap (λ (y : View). y.steps) is ∙ ap (λ (y : View). y.steps) h.is;
      last = ap (λ (y : View). y.last) is ∙ ap (λ (y : View). y.last) h.is;
      high = high;
      draws = subst (λ (y : View). n % 2 ^ 40 ≡ v.layout.first.draw + length y.history) (sym is) h.draws;
      undrawn = draws;
      touched = ap (λ (y : View). y.touched) is ∙ ap (λ (y : View). y.touched) h.is;
      blamed = ap (λ (y : View). y.blamed) is ∙ ap (λ (y : View). y.blamed) h.is;
      refused = record {
        over = record {
          decls = subst (λ (l : Layout). Rattle.serial_model.specs.Decls.AreDecls l.decls) (sym layout) over.decls;
          worker = subst (λ (r : Role). r ≡ Worker (worker_of r)) (sym role) over.worker;
          due = ap (λ (y : View). y.due) is ∙ (ap (λ (y : View). y.due) h.is ∙ over.due);
          took = ap (λ (y : View). y.took) is ∙ (ap (λ (y : View). y.took) h.is ∙ over.took);
          seat = subst (λ (y : View). IsResting y.seat) (sym is)
              (subst (λ (y : View). IsResting y.seat) (sym h.is) over.seat);
          agree = subst Rattle.engine_pages.specs.Pointers.WaysAgree
              (sym (ap (λ (y : View). y.ways) is ∙ pages.ways)) over.agree;
          trees = trees_stay v w now over.trees;
          holds = holds_stay [] v w now over.holds;
        };
        layout = layout;
        role = role;
        seen = record {
          history = subst (λ (y : View). IsFront v.history y.history) (sym is) h.history;
          decided = subst (λ (y : View). IsFront v.decided y.decided) (sym is) h.decided;
        };
        since = let one : w.steps ≡ v.steps + 1 = ap (λ (y : View). y.steps) is ∙ ap (λ (y : View). y.steps) h.is in
            omega (arith, one);
        mine = ap (λ (y : View). y.mine) is ∙ ap (λ (y : View). y.mine) h.is;
        drew = false;
        draws = let same = draws in omega (arith, same);
        lost = λ so. absurd (true≢false (sym so));
        marks = ap (λ (y : View). y.seat.marks) is ∙ ap (λ (y : View). y.seat.marks) h.is;
        refused = ap (λ (y : View). y.refused) is
            ∙ ap (λ (y : View). y.refused ++ refusals.NumberLimit n ∷ []) h.is;
        met = [];
        told = refl;
        blamed = ap (λ (y : View). y.blamed) is ∙ (ap (λ (y : View). y.blamed) h.is ∙ sym (append-nil v.blamed));
      };
    }

-- ---- the end by the caller

pub abort_holds : (sets : Sets) (holds : List ℕ) (v w : View) → IsLive sets v → holds ≡ sets.holds → HasForgotten None v w
    → HasHolds holds w
abort_holds sets holds v w live is h =
    subst (λ l. HasHolds l w) (sym is) (holds_stay sets.holds v w (forgotten_pages None v w h) live.holds)

pub abort_active : (sets : Sets) (v w : View) → IsLive sets v → HasForgotten None v w → IsActive w.role
abort_active sets v w live h =
    subst IsActive (sym (ap (λ (y : View). y.role) h.is ∙ live.worker)) tt

pub abort_kept : (v w : View) → HasForgotten None v w → w.seat.kept ≡ []
abort_kept v w h = ap (λ (y : View). y.seat.kept) h.is

pub aborted : (sets : Sets) (v w x : View) → IsLive sets v → HasForgotten None v w → HasLeft w x → HasAborted v x
aborted sets v w x live h l =
    let pages : SamePages v w = forgotten_pages None v w h in
    let layout : x.layout ≡ v.layout = ap (λ (y : View). y.layout) l.is ∙ pages.layout in
    let role : x.role ≡ v.role = ap (λ (y : View). y.role) l.is ∙ ap (λ (y : View). y.role) h.is in record {
      over = record {
        decls = subst (λ (y : Layout). Rattle.serial_model.specs.Decls.AreDecls y.decls) (sym layout) live.decls;
        worker = subst (λ (r : Role). r ≡ Worker (worker_of r)) (sym role) live.worker;
        due = ap (λ (y : View). y.due) l.is ∙ ap (λ (y : View). y.due) h.is;
        took = ap (λ (y : View). y.took) l.is ∙ (ap (λ (y : View). y.took) h.is ∙ live.took);
        seat = record {
          kept = ap (λ (y : View). y.seat.kept) l.is ∙ ap (λ (y : View). y.seat.kept) h.is;
          locks = ap (λ (y : View). y.seat.locks) l.is ∙ (ap (λ (y : View). y.seat.locks) h.is ∙ live.locks);
          stage = ap (λ (y : View). y.seat.stage) l.is ∙ (ap (λ (y : View). y.seat.stage) h.is ∙ live.stage);
        };
        agree = left_agree w x (subst Rattle.engine_pages.specs.Pointers.WaysAgree (sym pages.ways) live.agree) l;
        trees = left_trees w x (trees_stay v w pages live.trees) l;
        holds = left_holds sets.holds w x (holds_stay sets.holds v w pages live.holds) l;
      };
      layout = layout;
      role = role;
      seen = record {
        history = subst (λ (y : View). IsFront v.history y.history) (sym l.is)
            (subst (λ (y : View). IsFront v.history y.history) (sym h.is) (front_refl v.history));
        decided = subst (λ (y : View). IsFront v.decided y.decided) (sym l.is)
            (subst (λ (y : View). IsFront v.decided y.decided) (sym h.is) (front_refl v.decided));
      };
      mine = ap (λ (y : View). y.mine) l.is ∙ ap (λ (y : View). y.mine) h.is;
      draws = ap (λ (y : View). y.draws) l.is ∙ ap (λ (y : View). y.draws) h.is;
      marks = ap (λ (y : View). y.seat.marks) l.is ∙ ap (λ (y : View). y.seat.marks) h.is;
      refused = ap (λ (y : View). y.refused) l.is ∙ ap (λ (y : View). y.refused) h.is;
      touched = ap (λ (y : View). y.touched) l.is ∙ ap (λ (y : View). y.touched) h.is;
      blamed = ap (λ (y : View). y.blamed) l.is
          ∙ (ap (λ (y : View). y.blamed) h.is ∙ (ap (λ z. v.blamed ++ z) h.of ∙ append-nil v.blamed));
    }
