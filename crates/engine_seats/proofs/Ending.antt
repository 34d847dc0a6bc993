-- A worker's pass is taken into the keeper's.
use Rattle.std.proofs.Common.{◌≡◌, inl, inr, ℕ, suc, ◌+◌, ◌<◌, ◌≤◌, false, cond, [], length, get_or, set}
use Rattle.std.proofs.Common.{get_or-set_other, get_or-set_same, length-set, refl, sym, ap, ◌∙◌, subst, arith}
use Rattle.std.proofs.lemmas.Bool.Decides.{nat_tests}
use Rattle.atomic_table.specs.Table.{Joins}
use Rattle.lists.specs.Elements.{in_none}
use Rattle.commit_core.specs.declared.attempt.Attempt.{Attempt}
use Rattle.commit_core.specs.declared.seat.Seat.{Seat}
use Rattle.commit_core.specs.declared.seat.Stage.{Stage}
use Rattle.commit_core.specs.Keys.{opening_number}
use Rattle.commit_core.specs.CoreState.{is_trying}
use Rattle.views.specs.Sums.{total, total-append, one_at, times, without, times-without}
use Rattle.views.specs.Changes.{each_at}
use Rattle.views.specs.Longer.{longer_of}
use Rattle.engine_pages.specs.declared.layout.Layout.{Layout}
use Rattle.engine_pages.specs.declared.view.Role.{Role}
use Rattle.engine_pages.specs.declared.view.Role.TheVariants.{Keeper, Worker, Note, Spent}
use Rattle.engine_pages.specs.declared.view.View.{View}
use Rattle.engine_pages.specs.Rule.{IsParked, Shows}
use Rattle.engine_pages.specs.Touches.{Touched, is_touch}
use Rattle.engine_pages.specs.Views.{IsActive, IsAt, HasPart, bare_grip, bare_seat, sits, sits_by, makes, waits, tries}
use Rattle.engine_pages.proofs.Facing.{blamed_grows}
use Rattle.engine_pages.proofs.Seats.{by_equal, own_longer, tried_longer}
use Rattle.engine_pages.proofs.Turns.{MadeByOne, made_by_one}
use Rattle.engine_seats.specs.Cuts.{spent_view, worker_of, ended, IsDone}
use Rattle.engine_seats.specs.Gathered.{in_gathered, order_gathered, total_gathered}
use Rattle.engine_seats.proofs.CutPages.{ended_pages, spent_pages}
use Rattle.engine_seats.proofs.Cutting.{joins, keeper_part, spent_fits, heard_both, tried_apart}
use Rattle.engine_seats.proofs.Handing.{blamed_both}

apart_roles : (role : Role) (worker : ℕ) → role ≡ Keeper → role ≡ Worker worker → ⊥
apart_roles role worker keeper is = cc

-- ---- the join

keeper_rests : (v : View) → v.role ≡ Keeper → (role : Role) → role ≡ v.role
    → HasPart role v.made v.due v.seat.stage v.mine → is_trying v.seat.stage ≡ false
keeper_rests v is Keeper same part = ap is_trying part.1
keeper_rests v is (Worker w) same part = absurd (cc)
keeper_rests v is Note same part = absurd (cc)
keeper_rests v is Spent same part = absurd (cc)

pub ends : (l : Layout) (id other : ℕ) (v u : View) (worker : ℕ) → v.role ≡ Keeper → u.role ≡ Worker worker → IsDone u
    → Joins {S = Unit {0}} (λ s. Shows l s.words s.views) id v other u (ended v u) spent_view
ends l id other v u worker is theirs done = joins l id other v u (ended v u) spent_view (λ words views s h f g fp gp at most.
    let a = longer_of v.history u.history s.story.history f.history g.history in
    let b = longer_of v.decided u.decided s.story.decided f.decided g.decided in
    let named : worker_of u.role ≡ worker = ap worker_of theirs in
    let part : (worker < 8) × (u.made ≡ []) = subst (λ role. HasPart role u.made u.due u.seat.stage u.mine) theirs g.part in
    let sat : (k : ℕ) → sits k u ≡ one_at k (suc worker) = λ k. ap (sits_by k) theirs in
    let waited : waits u ≡ 0 = ap (λ b. cond b 1 0) done.due in
    let idle : tries u ≡ 0 = ap (λ (x : Stage). cond (is_trying x) 1 0) done.resting.stage in
    let theirs-is : u.seat ≡ s.seats (suc worker) =
    (g.own (suc worker) (subst (IsAt (suc worker)) (sym theirs) refl)).seat in
    let bare : s.grips (suc worker) ≡ bare_grip =
    sym (gp.grip (suc worker) (subst (IsAt (suc worker)) (sym theirs) refl)) ∙ done.grip in
    let made : total (makes worker) views ≡ times worker v.made =
    each_at (MadeByOne views) views id v (made_by_one l s views words h) at (ap (sits_by 0) is) worker in
    let there : 1 ≤ times worker v.made =
    let one : one_at (suc worker) (suc worker) ≡ 1 = grind (arith, nat_tests) in
    omega (arith, h.sums.made_are worker, most (sits (suc worker)), sat (suc worker)) in
    let less : (x : ℕ) → times x (without (worker_of u.role) v.made) + one_at x worker ≡ times x v.made = λ x.
    subst (λ k. times x (without k v.made) + one_at x worker ≡ times x v.made) (sym named) (times-without x worker v.made there) in
    let w = ended v u in
    let keepers = f.keepers is in
    let room : worker < length v.parked = omega (arith, keepers.parked_are, part.0) in
    let same_parked : (x : ℕ) → (x ≡ worker → ⊥) → get_or w.parked x bare_seat ≡ get_or v.parked x bare_seat = λ x apart.
    ap (λ k. get_or (set v.parked k u.seat) x bare_seat) named
    ∙ get_or-set_other v.parked worker x u.seat bare_seat apart in
    let this_parked : get_or w.parked worker bare_seat ≡ u.seat =
    ap (λ k. get_or (set v.parked k u.seat) worker bare_seat) named
    ∙ get_or-set_same v.parked worker u.seat bare_seat room in (
      record {
        fits = (
          record {
            history = a.whole;
            decided = b.whole;
            heard = heard_both v u s.story f.history f.decided g.history g.decided f.low g.low;
            mine = order_gathered opening_number v.mine u.mine f.mine g.mine;
            mine_own = λ x has. elim (in_gathered x v.mine u.mine has) [
              | inl mine ↦ own_longer v.role v.history w.history v.decided w.decided x a.left b.left (f.mine_own x mine)
              | inr more ↦
                  let own = own_longer u.role u.history w.history u.decided w.decided x a.right b.right (g.mine_own x more) in
                  record { drawn = own.drawn; counts = own.counts; by = λ k e. absurd (apart_roles v.role k is e) }
            ];
            records = f.records;
            kept = f.kept;
            versions = f.versions;
            loaded = f.loaded;
            own = λ q here.
                let o = f.own q here in record {
                  layout = o.layout;
                  seat = o.seat;
                  tried = tried_apart q w.history s.story.checks v.checked v.mine w.mine v.seat.stage
                      (keeper_rests v is v.role refl f.part)
                      (tried_longer q v.history w.history s.story.checks v.checked v.mine v.seat.stage a.left o.tried);
                  took = o.took;
                  locked = o.locked;
                };
            low = f.low;
            part = keeper_part v.role is v.made w.made v.due v.seat.stage v.mine w.mine f.part;
            seatless = λ none. absurd (none (subst IsActive (sym is) tt));
            unkept = f.unkept;
            keepers = λ keeper. record {
              epoch = keepers.epoch;
              past = keepers.past;
              parked_are = length-set v.parked (worker_of u.role) u.seat ∙ keepers.parked_are;
              begun = λ x few. by_equal x worker
                  (λ x. x < 8 → length (get_or w.parked x bare_seat).marks ≤ length (s.seats (suc x)).marks)
                  (λ _. subst (λ (t : Seat). length t.marks ≤ length (s.seats (suc worker)).marks)
                  (sym theirs-is ∙ sym this_parked) (omega arith))
                  (λ apart few. subst (λ (t : Seat). length t.marks ≤ length (s.seats (suc x)).marks)
                  (sym (same_parked x apart)) (keepers.begun x few)) few;
              parked = λ x few none. by_equal x worker (λ x. times x w.made ≡ 0 → x < 8 → IsParked w.parked s.seats x)
                  (λ _ _. record {
                    is = sym theirs-is ∙ sym this_parked;
                    resting = record {
                      kept = ap (λ (t : Seat). t.kept) (sym theirs-is) ∙ done.resting.kept;
                      locks = ap (λ (t : Seat). t.locks) (sym theirs-is) ∙ done.resting.locks;
                      stage = ap (λ (t : Seat). t.stage) (sym theirs-is) ∙ done.resting.stage;
                    };
                  })
                  (λ apart none few.
                  let was = keepers.parked x few (let l = less x in
                  let no_one : one_at x worker ≡ 0 = grind (arith, nat_tests) in omega arith) in
                  record { is = was.is ∙ sym (same_parked x apart); resting = was.resting }) none few;
            };
            met = f.met;
          },
          (spent_fits l s, tt),
        );
        pages = (
          ended_pages l words s v u (λ keeper x few none. by_equal x worker
              (λ x. times x w.made ≡ 0 → x < 8 → s.grips (suc x) ≡ bare_grip)
              (λ _ _. bare)
              (λ apart none few. fp.keepers keeper x few (let l = less x in
              let no_one : one_at x worker ≡ 0 = grind (arith, nat_tests) in omega arith)) none few) fp gp,
          (spent_pages l words s, tt),
        );
        keeper = let none : one_at 0 (suc worker) ≡ 0 = grind (arith, nat_tests) in omega (arith, sat 0);
        made = λ x.
            let same : one_at (suc x) (suc worker) ≡ one_at x worker = grind (arith, nat_tests) in
            omega (arith, sat (suc x), less x, ap (times x) part.1);
        once = λ k. omega (arith, h.sums.once k);
        mine = λ k. omega (arith, total_gathered (λ (x : Attempt). k x.number) v.mine u.mine);
        drew = omega arith;
        few = omega arith;
        room = omega arith;
      },
      record {
        more = λ q k. let both = total-append (is_touch q k) v.touched u.touched in omega (arith, both);
        faces = λ views' were grows. (
          (λ other same. absurd (apart_roles v.role other is same)),
          ((λ other same. absurd (cc)), tt),
        );
        blamed = λ views' were grows. (
          blamed_both (Touched views') v.blamed u.blamed
              (blamed_grows (Touched views) (Touched views') v.blamed grows were.0)
              (blamed_grows (Touched views) (Touched views') u.blamed grows were.1.0),
          ((λ b has. absurd (in_none b has)), tt),
        );
      },
    ))
