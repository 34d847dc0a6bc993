-- A transaction begins: a draw is due, unless there were too many.
use Rattle.std.proofs.Common.{◌≡◌, inl, ℕ, zero, suc, ◌+◌, ◌%◌, ◌^◌, ◌<◌, ◌≤◌, Bool, true, false, cond, eqb, ltb}
use Rattle.std.proofs.Common.{List, length, get_or, refl, sym, ap, ◌∙◌, subst, arith}
use Rattle.std.specs.Prelude.{MatchBool}
use Rattle.std.proofs.lemmas.Bool.Decides.{nat_tests}
use mathlib.Core.Option as option
use Rattle.atomic_table.specs.Table.{Me, Allows, step}
use Rattle.lists.specs.Each.{all_weaker}
use Rattle.serial_model.specs.Numbers.{draw_limit}
use Rattle.views.specs.Sums.{total, one_at, total_at_most, total_plus, total_none}
use Rattle.engine_pages.specs.declared.layout.Layout.{Layout}
use Rattle.engine_pages.specs.declared.view.RefusalCause.TheVariants.{NumberLimit}
use Rattle.engine_pages.specs.declared.view.Role.{Role}
use Rattle.engine_pages.specs.declared.view.Role.TheVariants.{Keeper, Worker, Note, Spent}
use Rattle.engine_pages.specs.declared.view.View.{View}
use Rattle.engine_pages.specs.Rule.{Shared, Fits, Sound, Shows}
use Rattle.engine_pages.specs.Times.{timed}
use Rattle.engine_pages.specs.Views.{HasPart, seat_number, sits, sits_by, waits}
use Rattle.engine_pages.proofs.Dealing.{blamed, faces, rests_all}
use Rattle.engine_pages.proofs.Facing.{facing_begun, takes_same}
use Rattle.engine_pages.proofs.Joint.{Laws}
use Rattle.engine_pages.proofs.Looks.{load_stride, room_same}
use Rattle.engine_pages.proofs.OwnView.{own_fits}
use Rattle.engine_pages.proofs.Times.{clock_now, clock_told}
use Rattle.engine_pages.proofs.Turns.{Stride, Begins, allows_at}
use Rattle.engine_pages.specs.Touches.{Touched}
use Rattle.page_records.specs.Ends.{BeginsTransaction, readied, refused_for}
use Rattle.page_records.proofs.Forgetting.{worker_acts}
use Rattle.page_records.proofs.Looks.{pages_same}

-- ---- how many draws are due

-- 1 for a seat below k
abbrev seats_below : ℕ → View → ℕ
seats_below zero v = 0
seats_below (suc k) v = seats_below k v + sits k v

seats_few : (views : List View) → ((p : ℕ) → total (sits p) views ≤ 1) → (k : ℕ) → total (seats_below k) views ≤ k
seats_few views one zero = omega (arith, total_none {A = View} (λ _. 0) views (λ _. refl))
seats_few views one (suc k) = omega (arith, seats_few views one k, one k, total_plus (seats_below k) (sits k) views)

seat_counts : (v : View) (p k : ℕ) → sits p v ≡ 1 → p < k → 1 ≤ seats_below k v
seat_counts v p zero is less = absurd (omega arith)
seat_counts v p (suc k) is less = by_test (eqb p k) refl (seat_counts v p k is)
  where
    by_test : (b : Bool) → eqb p k ≡ b → (p < k → 1 ≤ seats_below k v) → 1 ≤ seats_below k v + sits k v
    by_test true e more =
        let same : p ≡ k = grind (arith, nat_tests) in
        let here : sits k v ≡ 1 = subst (λ q. sits q v ≡ 1) same is in omega arith
    by_test false e more = let le : p < k = grind (arith, nat_tests) in omega (arith, more le)

waits_seated : (v : View) (role : Role) → v.role ≡ role → HasPart role v.made v.due v.seat.stage v.mine
    → waits v ≤ seats_below 9 v
waits_seated v Keeper is part = let none : waits v ≡ 0 = ap (λ b. cond b 1 0) part.0 in omega arith
waits_seated v (Worker w) is part =
    omega (arith, seat_counts v (suc w) 9 (ap (sits_by (suc w)) is ∙ one) (omega (arith, part.0)), waits_few v.due)
  where
    one : one_at (suc w) (suc w) ≡ 1
    one = grind (arith, nat_tests)

    waits_few : (b : Bool) → cond b 1 0 ≤ 1
    waits_few true = omega arith
    waits_few false = omega arith
waits_seated v Note is part = let none : waits v ≡ 0 = ap (λ b. cond b 1 0) part.no_draw in omega arith
waits_seated v Spent is part = let none : waits v ≡ 0 = ap (λ b. cond b 1 0) part.no_draw in omega arith

-- at most one for each seat
few_wait : (l : Layout) (words : List ℕ) (views : List View) (s : Shared) → Sound l words views s → total waits views ≤ 9
few_wait l words views s h = omega (
  arith,
  total_at_most waits (seats_below 9) views
      (all_weaker (Fits l s.story s.seats) (λ v. waits v ≤ seats_below 9 v) (λ v f. waits_seated v v.role refl f.part) views
      h.fits),
  seats_few views h.sums.once 9,
)

-- ---- the begin

readied_part : (v : View) (worker : ℕ) (role : Role) → role ≡ Worker worker → HasPart role v.made v.due v.seat.stage v.mine
    → HasPart role v.made true v.seat.stage v.mine
readied_part v worker Keeper e part = absurd (cc)
readied_part v worker (Worker w) e part = part
readied_part v worker Note e part = absurd (cc)
readied_part v worker Spent e part = absurd (cc)

pub begins : Laws → (l : Layout) (slots id : ℕ) (me : Me (Unit {0}) View) (worker : ℕ)
    → me.0.role ≡ Worker worker → me.0.due ≡ false
    → Allows (λ s. Shows l s.words s.views) slots id me 0 (λ n. n)
    (λ n now. (now.1 ≡ me.1) × BeginsTransaction (step slots 0 0 0 option.none) me.0 n now.0)
begins laws l slots id me worker is undue =
    allows_at laws l slots id me 0 (λ n. n) (BeginsTransaction (step slots 0 0 0 option.none)) (worker_acts me.0.role worker is)
    (λ words views s b. by_clock words views s b (ltb (get_or words 0 0 % 2 ^ 40) draw_limit) refl)
  where
    by_clock : (words : List ℕ) (views : List View) (s : Shared) → Begins l words views s id me.0 → (b : Bool)
        → ltb (get_or words 0 0 % 2 ^ 40) draw_limit ≡ b
        → Stride l words views s (seat_number me.0.role) me.0 0 (λ n. n) (BeginsTransaction (step slots 0 0 0 option.none))
    by_clock words views s g true less =
        let v = me.0 in
        let m = s.story in
        let h = g.sound in
        let n : ℕ = get_or words 0 0 in
        let u = timed m.history m.decided n v in
        let w : View = readied u in
        let active = worker_acts v.role worker is in
        let draws : n % 2 ^ 40 ≡ m.first_draw + length m.history =
        let clock = h.shown.clock in let room = h.sums.room in omega arith in
        let few : m.first_draw + length m.history < draw_limit = grind (arith, nat_tests) in
        let waited : waits v ≡ 0 = ap (λ b. cond b 1 0) undue in
        let c = clock_now l words views s id v g in
        let now = pages_same l words views s id v active g in
        load_stride l words views s id v active g 0 (λ n. n) w (BeginsTransaction (step slots 0 0 0 option.none)) refl record {
          role = refl;
          made = refl;
          seat = refl;
          grip = refl;
          mine = refl;
          draws = refl;
          fits = own_fits l m m s.seats v w active g.fits (readied_part v worker v.role is g.fits.part) refl refl refl refl refl
              (λ place mark has. has)
              record { history = c.history; decided = c.decided; heard = c.heard; mine = c.mine; mine_own = c.mine_own; records = c.records; kept = c.kept; versions = c.versions; loaded = c.loaded; tried = c.tried; took = c.took; locked = c.locked; low = c.low; epoch = c.epoch; past = c.past };
          room = omega (arith, few_wait l words views s h);
          now = record { within = now.within; ways = now.ways; drafts = now.drafts; copies = now.copies; blanks = now.blanks; resident = now.resident; leads = now.leads; fills = now.fills; known = now.known; shuts = now.shuts; heads = now.heads; moved = now.moved; sealed = now.sealed; inners = now.inners; new_leaves = now.new_leaves; new_inners = now.new_inners };
          deals = record {
            touched = λ q k. omega (arith, takes_same q k v w refl);
            locks = λ k has. inl has;
            changes = λ k x at r. inl refl;
            facing = λ other role.
                facing_begun l words (Touched views) (suc other) v.ways v.took v.reads v.gone
                (faces l words views s id v g other role);
            blamed = blamed l words views s id v g;
          };
        } (
          u,
          clock_told l words views s id v g,
          subst (λ b. MatchBool b (w ≡ readied u) (w ≡ refused_for (NumberLimit n) u)) (sym less) refl,
        )
    by_clock words views s g false more =
        let v = me.0 in
        let m = s.story in
        let n : ℕ = get_or words 0 0 in
        let u = timed m.history m.decided n v in
        let w : View = refused_for (NumberLimit n) u in
        let active = worker_acts v.role worker is in
        let c = clock_now l words views s id v g in
        let now = pages_same l words views s id v active g in
        load_stride l words views s id v active g 0 (λ n. n) w (BeginsTransaction (step slots 0 0 0 option.none)) refl record {
          role = refl;
          made = refl;
          seat = refl;
          grip = refl;
          mine = refl;
          draws = refl;
          fits = own_fits l m m s.seats v w active g.fits g.fits.part refl refl refl refl refl (λ place mark has. has)
              record { history = c.history; decided = c.decided; heard = c.heard; mine = c.mine; mine_own = c.mine_own; records = c.records; kept = c.kept; versions = c.versions; loaded = c.loaded; tried = c.tried; took = c.took; locked = c.locked; low = c.low; epoch = c.epoch; past = c.past };
          room = room_same l words views s id v active g 0 (λ n. n) w refl;
          now = record { within = now.within; ways = now.ways; drafts = now.drafts; copies = now.copies; blanks = now.blanks; resident = now.resident; leads = now.leads; fills = now.fills; known = now.known; shuts = now.shuts; heads = now.heads; moved = now.moved; sealed = now.sealed; inners = now.inners; new_leaves = now.new_leaves; new_inners = now.new_inners };
          deals = rests_all l words views s id v g w
              record { role = refl; ways = refl; took = refl; gone = refl; touched = refl; blamed = refl; locks = refl } refl;
        } (
          u,
          clock_told l words views s id v g,
          subst (λ b. MatchBool b (w ≡ readied u) (w ≡ refused_for (NumberLimit n) u)) (sym more) refl,
        )
