-- What is left of a transaction whose operation was refused: behind loads, and pages that may have been made.
use Rattle.std.proofs.Common.{◌≡◌, inl, inr, ℕ, ◌+◌, ◌≤◌, false}
use Rattle.std.proofs.Common.{List, [], ◌∷◌, ◌++◌, length, Some}
use Rattle.std.specs.Prelude.{nat_lt}
use Rattle.std.proofs.Common.{true≢false, refl, sym, ap, ◌∙◌, subst, arith, cond}
use Rattle.lists.specs.Fronts.{front_then, IsFront}
use Rattle.serial_model.specs.declared.key.Key.{Key}
use Rattle.tx_sets.specs.declared.reads.ReadEntry.{ReadEntry}
use Rattle.tx_sets.specs.declared.seen.Seen.{Seen}
use Rattle.tx_sets.specs.declared.sets.Sets.{Sets}
use Rattle.tx_sets.specs.Entries.{has_read, has_write}
use Rattle.engine_pages.specs.Agreement.{TreesAgree}
use Rattle.engine_pages.specs.declared.layout.Layout.{Layout}
use Rattle.engine_pages.specs.declared.view.RefusalCause.{RefusalCause}
use Rattle.engine_pages.specs.declared.view.RefusalCause.TheVariants as refusals
use Rattle.engine_pages.specs.declared.view.Role.{Role}
use Rattle.engine_pages.specs.declared.view.Role.TheVariants.{Worker}
use Rattle.engine_pages.specs.declared.view.Took.{Took}
use Rattle.engine_pages.specs.declared.view.Touch.{Touch}
use Rattle.engine_pages.specs.declared.view.View.{View}
use Rattle.engine_pages.specs.Pointers.{WaysAgree}
use Rattle.engine_pages.specs.Touches.{touch}
use Rattle.engine_pages.specs.Views.{seat_number, IsResting}
use Rattle.page_records.specs.Ends.{worker_of, HasForgotten}
use Rattle.array_pages.specs.Walks.{IsWayPlace}
use Rattle.tx_sets.specs.Gathered.{has_read_room, most_reads}
use Rattle.page_commit.specs.Live.{HasHolds, IsLive}
use Rattle.page_commit.specs.Calls.{IsWordIn, NeedsPointer, RefusesRead}
use Rattle.page_commit.specs.Refusing.{HasRefused, IsConflict, IsPointerConflict, TellsOnly}
use Rattle.page_commit.specs.Steps.{CanRefuse, HasGivenUp, HasLeft, HasUnlocked, TellsOf}
use Rattle.page_commit.specs.Turning.{OnlyWalked}
use Rattle.page_commit.proofs.GiveUpLaws.{given_up, in_front}
use Rattle.page_commit.proofs.LeaveLaws.{holds_stay, left_agree, left_holds, SamePages}
use Rattle.page_commit.proofs.LeaveLaws.{left_trees, trees_stay}

-- without locks nothing is to be opened
unlocked_none : (slots : List ℕ) (v : View) → CanRefuse slots v → HasUnlocked [] v v
unlocked_none slots v can = record {
  seat = v.seat;
  steps = v.steps;
  loaded = v.loaded;
  reads = v.reads;
  others = λ r has clear. has;
  is = ap (λ (l : List Took). let y : View = record v { took = l } in y) can.took;
  locks = can.locks;
  stage = can.stage;
  marks = refl;
}

pub refused_now : (slots : List ℕ) (why : RefusalCause) (v w x : View) → CanRefuse slots v → HasForgotten (Some why) v w
    → HasLeft w x → v.steps ≤ x.steps → HasGivenUp [] why v x
refused_now slots why v w x can h l since = given_up [] why v v w x (unlocked_none slots v can) h l since

-- what the end of a walked transaction asks
pub can_refuse : (sets : Sets) (slots : List ℕ) (v w : View) → IsLive sets v → OnlyWalked v w → HasHolds slots w
    → CanRefuse slots w
can_refuse sets slots v w live only holds = record {
  worker = subst (λ (r : Role). r ≡ Worker (worker_of r)) (sym (ap (λ (y : View). y.role) only.is)) live.worker;
  holds = holds;
  locks = ap (λ (y : View). y.seat.locks) only.is ∙ live.locks;
  took = ap (λ (y : View). y.took) only.is ∙ live.took;
  stage = ap (λ (y : View). y.seat.stage) only.is ∙ live.stage;
}

-- the refusal of an operation
pub walked_refused : (why : RefusalCause) (sets : Sets) (slots : List ℕ) (v w x : View) → IsLive sets v → OnlyWalked v w
    → HasHolds slots w → WaysAgree w.ways → TreesAgree w → ((met : List Touch) → TellsOf why met w → TellsOnly why met)
    → HasGivenUp [] why w x → HasRefused why v x
walked_refused why sets slots v w x live only holds agree trees told g =
    let o = only.is in
    let h = g.forgot in
    let l = g.left in
    let layout' : x.layout ≡ v.layout =
    ap (λ (y : View). y.layout) l.is ∙ (ap (λ (y : View). y.layout) h ∙ ap (λ (y : View). y.layout) o) in
    let role' : x.role ≡ v.role =
    ap (λ (y : View). y.role) l.is ∙ (ap (λ (y : View). y.role) h ∙ ap (λ (y : View). y.role) o) in
    let mid : SamePages w g.mid = record {
      layout = ap (λ (y : View). y.layout) h;
      grip = ap (λ (y : View). y.grip) h;
      ways = ap (λ (y : View). y.ways) h;
      known = ap (λ (y : View). y.known) h;
      moved = ap (λ (y : View). y.moved) h;
      branches = ap (λ (y : View). y.inners) h;
      drafts = ap (λ (y : View). y.drafts) h;
      copies = ap (λ (y : View). y.copies) h;
      blanks = ap (λ (y : View). y.blanks) h;
      leaves = ap (λ (y : View). y.new_leaves) h;
      inners = ap (λ (y : View). y.new_inners) h;
      heads = ap (λ (y : View). y.heads) h;
    } in record {
      over = record {
        decls = subst (λ (y : Layout). Rattle.serial_model.specs.Decls.AreDecls y.decls) (sym layout') live.decls;
        worker = subst (λ (r : Role). r ≡ Worker (worker_of r)) (sym role') live.worker;
        due = ap (λ (y : View). y.due) l.is ∙ ap (λ (y : View). y.due) h;
        took = ap (λ (y : View). y.took) l.is ∙ ap (λ (y : View). y.took) h;
        seat = subst (λ (y : View). IsResting y.seat) (sym l.is) (subst (λ (y : View). IsResting y.seat) (sym h) g.resting);
        agree = left_agree g.mid x (subst WaysAgree (sym mid.ways) agree) l;
        trees = left_trees g.mid x (trees_stay w g.mid mid trees) l;
        holds = left_holds slots g.mid x (holds_stay slots w g.mid mid holds) l;
      };
      layout = layout';
      role = role';
      seen = record {
        history = subst (λ (y : View). IsFront v.history y.history) (sym l.is)
            (subst (λ (y : View). IsFront v.history y.history) (sym h) only.drawn);
        decided = subst (λ (y : View). IsFront v.decided y.decided) (sym l.is)
            (subst (λ (y : View). IsFront v.decided y.decided) (sym h) only.seen);
      };
      since = let first = only.since in let more = g.since in omega (arith, first, more);
      mine = ap (λ (y : View). y.mine) l.is ∙ (ap (λ (y : View). y.mine) h ∙ ap (λ (y : View). y.mine) o);
      drew = false;
      draws = let same : x.draws ≡ v.draws =
          ap (λ (y : View). y.draws) l.is ∙ (ap (λ (y : View). y.draws) h ∙ ap (λ (y : View). y.draws) o) in omega (arith, same);
      lost = λ so. absurd (true≢false (sym so));
      marks = ap (λ (y : View). y.seat.marks) l.is
          ∙ (ap (λ (y : View). y.seat.marks) h ∙ (g.marks ∙ ap (λ (y : View). y.seat.marks) o));
      refused = ap (λ (y : View). y.refused) l.is
          ∙ (ap (λ (y : View). y.refused) h ∙ ap (λ (y : View). y.refused ++ why ∷ []) o);
      met = g.met;
      told = told g.met g.of;
      blamed = ap (λ (y : View). y.blamed) l.is
          ∙ (ap (λ (y : View). y.blamed) h ∙ ap (λ (y : View). y.blamed ++ g.met) o);
    }

-- a transaction that had walked before was refused
pub refused_since : (why : RefusalCause) (v w x : View) → OnlyWalked v w → HasRefused why w x → HasRefused why v x
refused_since why v w x only r =
    let o = only.is in record {
      over = r.over;
      layout = r.layout ∙ ap (λ (y : View). y.layout) o;
      role = r.role ∙ ap (λ (y : View). y.role) o;
      seen = record {
        history = front_then v.history w.history x.history only.drawn r.seen.history;
        decided = front_then v.decided w.decided x.decided only.seen r.seen.decided;
      };
      since = let first = only.since in let more = r.since in omega (arith, first, more);
      mine = r.mine ∙ ap (λ (y : View). y.mine) o;
      drew = r.drew;
      draws = r.draws ∙ ap (λ (y : View). y.draws + cond r.drew 1 0) o;
      lost = λ so. let one = r.lost so in record {
        attempt = one.attempt;
        seat = one.seat ∙ ap (λ (y : View). seat_number y.role) o;
        drawn = one.drawn;
        above = λ b has. one.above b (in_front v.history w.history b only.drawn has);
      };
      marks = r.marks ∙ ap (λ (y : View). y.seat.marks) o;
      refused = r.refused ∙ ap (λ (y : View). y.refused ++ why ∷ []) o;
      met = r.met;
      told = r.told;
      blamed = r.blamed ∙ ap (λ (y : View). y.blamed ++ r.met) o;
    }

conflict_since : (reads : List ReadEntry) (at expected seen : ℕ) (v w x : View) → v.steps ≤ w.steps
    → IsConflict reads at expected seen w x → IsConflict reads at expected seen v x
conflict_since reads at expected seen v w x since c = record {
  step = c.step;
  last = c.last;
  since = let low = c.since in omega (arith, since, low);
  was = c.was;
  kept = c.kept;
  stands = c.stands;
  read = c.read;
  known = c.known;
  cause = c.cause;
}

pointer_since : (pointers : List Seen) (at expected seen : ℕ) (v w x : View) → v.steps ≤ w.steps
    → IsPointerConflict pointers at expected seen w x → IsPointerConflict pointers at expected seen v x
pointer_since pointers at expected seen v w x since c = record {
  step = c.step;
  last = c.last;
  since = let low = c.since in omega (arith, since, low);
  was = c.was;
  kept = c.kept;
  stands = c.stands;
  known = c.known;
  cause = c.cause;
}

-- a read was refused behind a walk that read and met nothing
pub read_refused_since : (why : RefusalCause) (sets mid new : Sets) (k : Key) (v w x : View) → OnlyWalked v w
    → w.touched ≡ v.touched → mid.reads ≡ sets.reads → mid.pointers ≡ sets.pointers → mid.writes ≡ sets.writes
    → mid.headers ≡ sets.headers → RefusesRead mid new k why w x → RefusesRead sets new k why v x
read_refused_since (refusals.Conflict at expected seen) sets mid new k v w x only touched reads pointers writes headers r =
    let o = only.is in (
      subst (λ l. has_read k l ≡ false) reads r.0,
      subst (λ l. has_write k l ≡ false) writes r.1,
      r.2 ∙ ap (λ (y : View). y.draws) o,
      elim r.3 [
        | inl c ↦ inl (
          record {
            conflict = subst (λ (l : List ReadEntry). IsConflict l at expected seen v x) reads
                (conflict_since mid.reads at expected seen v w x only.since c.0.conflict);
            blamed = c.0.blamed
                ∙ (ap (λ (y : View). y.blamed ++ touch (seat_number w.role) k ∷ []) o
                ∙ ap (λ (z : Role). v.blamed ++ touch (seat_number z) k ∷ []) (ap (λ (y : View). y.role) o));
          },
          subst (λ (n : ℕ). IsWordIn n k at) (ap (λ (y : View). y.layout.slots) o) c.1,
        )
        | inr c ↦ inr (
          subst (λ (l : List Seen). IsPointerConflict l at expected seen v x) pointers
              (pointer_since mid.pointers at expected seen v w x only.since c.0),
          c.1 ∙ ap (λ (y : View). y.blamed) o,
          subst (λ (y : Layout). IsWayPlace y k at) (ap (λ (y : View). y.layout) o) c.2,
        )
      ],
      r.4 ∙ touched,
    )
read_refused_since (refusals.Full held) sets mid new k v w x only touched reads pointers writes headers r = absurd r
read_refused_since (refusals.Wide set) sets mid new k v w x only touched reads pointers writes headers r = (
  subst (λ l. has_read k l ≡ false) reads r.0,
  subst (λ l. has_write k l ≡ false) writes r.1,
  r.2 ∙ ap (λ (y : View). y.draws) only.is,
  elim r.3 [
    | inl c ↦ inl (
      c.0,
      let same : has_read_room mid ≡ has_read_room sets =
          ap (λ (l : List ReadEntry). nat_lt (length l + length mid.headers) most_reads) reads
          ∙ ap (λ (l : List Seen). nat_lt (length sets.reads + length l) most_reads) headers in sym same ∙ c.1,
      c.2,
    )
    | inr c ↦ inr (elim c [
      | inl d ↦ inl d
      | inr d ↦ inr (
        d.0,
        subst (λ (l : List Seen). length l ≡ 128) pointers d.1,
        subst (λ (l : List Seen). NeedsPointer k l x) pointers d.2,
      )
    ])
  ],
  r.4 ∙ touched,
)
read_refused_since (refusals.NumberLimit clock) sets mid new k v w x only touched reads pointers writes headers r = absurd r
