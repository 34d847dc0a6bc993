-- Views that are cut and joined: no act, and no word changes.
use Rattle.std.proofs.Common.{◌≡◌, ℕ, suc, ◌+◌, ◌<◌, ◌≤◌, Bool, true, false, true≢false, cond, inl, inr, List, []}
use Rattle.std.proofs.Common.{◌∷◌, ◌++◌, set, refl, sym, ap, ◌∙◌, subst, arith}
use Rattle.std.specs.List.{AllByRecursion, Contains}
use Rattle.std.proofs.lemmas.Bool.Decides.{nat_tests}
use mathlib.Core.Option.{some}
use lib.ListN.{get_elem?}
use Rattle.atomic_table.specs.Table.{Splits, Joins}
use Rattle.lists.specs.Elements.{in_none, in_cases, in_head, in_tail}
use Rattle.lists.specs.Fronts.{IsFront, front_none}
use Rattle.serial_model.specs.declared.key.Key.{Key}
use Rattle.serial_model.specs.declared.number.Number.{Number}
use Rattle.homes.specs.Homes.{has_key}
use Rattle.commit_core.specs.declared.part.Word.{Word}
use Rattle.commit_core.specs.declared.part.Part.{Part}
use Rattle.commit_core.specs.declared.attempt.Attempt.{Attempt}
use Rattle.commit_core.specs.declared.attempt.Check.{Check}
use Rattle.commit_core.specs.declared.seat.Seat.{Seat}
use Rattle.commit_core.specs.declared.seat.Stage.{Stage}
use Rattle.commit_core.specs.declared.seat.Stage.TheVariants.{Idle, Trying, Ended, Decided}
use Rattle.commit_core.specs.declared.story.Story.{Story}
use Rattle.commit_core.specs.CoreState.{is_trying}
use Rattle.views.specs.Sums.{total, one_at, times, total-append, term_at_most}
use Rattle.views.specs.Changes.{Change, one_splits, two_join, each_at, at_set_other}
use Rattle.views.specs.Longer.{longer_of}
use Rattle.engine_pages.specs.declared.layout.Layout.{Layout}
use Rattle.engine_pages.specs.declared.view.Heard.{Heard}
use Rattle.engine_pages.specs.declared.view.Role.{Role}
use Rattle.engine_pages.specs.declared.view.Role.TheVariants.{Keeper, Worker, Note, Spent}
use Rattle.engine_pages.specs.declared.view.View.{View}
use Rattle.engine_pages.specs.Rule.{Shared, Tried, Faces, Fits, FitsPages, Sound, Shows, Touching}
use Rattle.engine_pages.specs.Times.{HasTimed}
use Rattle.engine_pages.specs.Touches.{AreBlamed, StaysTaken, Touched, takes}
use Rattle.engine_pages.specs.Views.{IsActive, IsAt, HasPart, HasNothing, drawn_by, sits, sits_by, makes, waits, tries}
use Rattle.engine_pages.specs.Views.{owns}
use Rattle.engine_pages.proofs.Facing.{blamed_grows, faces_grow}
use Rattle.engine_pages.proofs.Seats.{by_equal, own_longer, tried_longer}
use Rattle.engine_pages.proofs.Turns.{MadeByOne, made_by_one}
use Rattle.engine_seats.specs.Cuts.{note_view, spent_view, heard_of, learned, seated, worker_view, HasSeen}
use Rattle.engine_seats.proofs.CutPages.{learned_pages, note_pages, seated_pages, spent_pages, worker_pages}
use Rattle.engine_seats.proofs.Handing.{takes_none, touching_kept, touching_seated}

-- the views before become those after, and nothing else changes
pub record Cut (l : Layout) (words : List ℕ) (views : List View) (s : Shared) (before after : List View) : Type 0 where
  pub fits : AllByRecursion (Fits l s.story s.seats) after
  pub pages : AllByRecursion (FitsPages l words s) after
  pub keeper : total (sits 0) after ≡ total (sits 0) before
  pub made : (worker : ℕ) → total (sits (suc worker)) after + total (makes worker) before
      ≡ total (sits (suc worker)) before + total (makes worker) after
  pub once : (p : ℕ) → total (sits p) views + total (sits p) after ≤ 1 + total (sits p) before
  pub mine : (h : Number → ℕ) → total (owns h) after ≡ total (owns h) before
  pub drew : total drawn_by after ≡ total drawn_by before
  pub few : total tries after ≤ total tries before
  pub room : total waits after ≤ total waits before

cuts : (l : Layout) (words : List ℕ) (views views' before after : List View) (s : Shared) → Sound l words views s
    → Change before after views views' → Cut l words views s before after → Touching l words views' s
    → Sound l words views' s
cuts l words views views' before after s h change cut touching = record {
  joint = h.joint;
  declared = h.declared;
  first = h.first;
  blank = h.blank;
  valued = h.valued;
  shown = h.shown;
  tried = h.tried;
  others = h.others;
  marks = h.marks;
  marked = h.marked;
  small = h.small;
  fits = change.each (Fits l s.story s.seats) h.fits cut.fits;
  sums = record {
    one_keeper = omega (arith, change.sums (sits 0), cut.keeper, h.sums.one_keeper);
    made_are = λ worker. omega (
      arith,
      change.sums (sits (suc worker)),
      change.sums (makes worker),
      cut.made worker,
      h.sums.made_are worker,
    );
    once = λ p. omega (arith, change.sums (sits p), cut.once p);
    mine_are = λ k. omega (arith, change.sums (owns k), cut.mine k, h.sums.mine_are k);
    draws_are = omega (arith, change.sums drawn_by, cut.drew, h.sums.draws_are);
    few_open = omega (arith, change.sums tries, cut.few, h.sums.few_open);
    room = omega (arith, change.sums waits, cut.room, h.sums.room);
  };
  touching = touching;
  room = h.room;
  few = h.few;
  within = h.within;
  named = h.named;
  laid_out = h.laid_out;
  roots = h.roots;
  pages = change.each (FitsPages l words s) h.pages cut.pages;
}

-- two views that are put together keep their touches
pub record Joined (l : Layout) (words : List ℕ) (views : List View) (before after : List View) : Type 0 where
  pub more : (q : ℕ) (k : Key) → total (takes q k) before ≤ total (takes q k) after
  pub faces : (views' : List View) → AllByRecursion (Faces l words views) before
      → StaysTaken (Touched views) (Touched views') → AllByRecursion (Faces l words views') after
  pub blamed : (views' : List View) → AllByRecursion (λ v. AreBlamed (Touched views) v.blamed) before
      → StaysTaken (Touched views) (Touched views') → AllByRecursion (λ v. AreBlamed (Touched views') v.blamed) after

pub splits : (l : Layout) (id : ℕ) (v left right : View)
    → ((words : List ℕ) (views : List View) (s : Shared) → Sound l words views s → Fits l s.story s.seats v
    → FitsPages l words s v → get_elem? views id ≡ some v
    → Cut l words views s (v ∷ []) (left ∷ right ∷ []) × Touching l words (set views id left ++ right ∷ []) s)
    → Splits {S = Unit {0}} (λ s. Shows l s.words s.views) id v left right
splits l id v left right go t h at =
    let s : Shared = h.0 in
    let cut = go t.words t.views s h.1 (each_at (Fits l s.story s.seats) t.views id v h.1.fits at)
    (each_at (FitsPages l t.words s) t.views id v h.1.pages at) at in (
      s,
      cuts l t.words t.views (set t.views id left ++ right ∷ []) (v ∷ []) (left ∷ right ∷ []) s h.1
          (one_splits t.views id v left right at) cut.0 cut.1,
    )

pub joins : (l : Layout) (id other : ℕ) (v u both spent : View)
    → ((words : List ℕ) (views : List View) (s : Shared) → Sound l words views s → Fits l s.story s.seats v
    → Fits l s.story s.seats u → FitsPages l words s v → FitsPages l words s u → get_elem? views id ≡ some v
    → ((f : View → ℕ) → f u ≤ total f views)
    → Cut l words views s (v ∷ u ∷ []) (both ∷ spent ∷ [])
    × Joined l words views (v ∷ u ∷ []) (both ∷ spent ∷ []))
    → Joins {S = Unit {0}} (λ s. Shows l s.words s.views) id v other u both spent
joins l id other v u both spent go t h at apart next =
    let s : Shared = h.0 in
    let change = two_join t.views id other v u both spent at apart next in
    let there : get_elem? t.views other ≡ some u = sym (at_set_other t.views id other both apart) ∙ next in
    let were = change.were (Fits l s.story s.seats) h.1.fits in
    let pages = change.were (FitsPages l t.words s) h.1.pages in
    let cut = go t.words t.views s h.1 were.0 were.1.0 pages.0 pages.1.0 at (λ f. term_at_most f t.views other u there) in
    let views' : List View = set (set t.views id both) other spent in (
      s,
      cuts l t.words t.views views' (v ∷ u ∷ []) (both ∷ spent ∷ []) s h.1 change cut.0
          (touching_kept l t.words t.views views' (v ∷ u ∷ []) (both ∷ spent ∷ []) s h.1.touching change
          cut.1.more
          (cut.1.faces views' (change.were (Faces l t.words t.views) h.1.touching.facing))
          (cut.1.blamed views' (change.were (λ v. AreBlamed (Touched t.views) v.blamed) h.1.touching.blamed))),
    )

-- ---- notes

has_nothing : HasNothing [] false Idle []
has_nothing = record { nobody = refl; no_draw = refl; no_attempt = refl; no_commits = refl }

note_fits : (l : Layout) (s : Shared) (v : View) → Fits l s.story s.seats v → Fits l s.story s.seats (note_view v)
note_fits l s v f = record {
  history = f.history;
  decided = f.decided;
  heard = λ x has. absurd (in_none x has);
  mine = tt;
  mine_own = λ a has. absurd (in_none a has);
  records = λ part has. absurd (in_none part has);
  kept = λ k x c has. absurd (in_none _ has);
  versions = λ x has. absurd (in_none x has);
  loaded = tt;
  own = λ p at. absurd at;
  low = omega arith;
  part = has_nothing;
  seatless = λ none. record { draws = refl; touched = refl; blamed = refl; shuts = refl; kept = refl; drops = refl };
  unkept = λ none. (refl, refl);
  keepers = λ keeper. absurd (cc);
  met = λ met has. absurd (in_none met has);
}

pub spent_fits : (l : Layout) (s : Shared) → Fits l s.story s.seats spent_view
spent_fits l s = record {
  history = front_none s.story.history;
  decided = front_none s.story.decided;
  heard = λ x has. absurd (in_none x has);
  mine = tt;
  mine_own = λ a has. absurd (in_none a has);
  records = λ part has. absurd (in_none part has);
  kept = λ k x c has. absurd (in_none _ has);
  versions = λ x has. absurd (in_none x has);
  loaded = tt;
  own = λ p at. absurd at;
  low = omega arith;
  part = has_nothing;
  seatless = λ none. record { draws = refl; touched = refl; blamed = refl; shuts = refl; kept = refl; drops = refl };
  unkept = λ none. (refl, refl);
  keepers = λ keeper. absurd (cc);
  met = λ met has. absurd (in_none met has);
}

pub notes : (l : Layout) (id : ℕ) (v : View) → Splits {S = Unit {0}} (λ s. Shows l s.words s.views) id v v (note_view v)
notes l id v = splits l id v v (note_view v) (λ words views s h f pages at. (
  record {
    fits = (f, (note_fits l s v f, tt));
    pages = (pages, (note_pages l words s v pages, tt));
    keeper = refl;
    made = λ worker. refl;
    once = λ p. omega (arith, h.sums.once p);
    mine = λ k. refl;
    drew = omega arith;
    few = omega arith;
    room = omega arith;
  },
  touching_kept l words views (set views id v ++ note_view v ∷ []) (v ∷ []) (v ∷ note_view v ∷ []) s
      h.touching (one_splits views id v v (note_view v) at) (λ q k. omega arith)
      (λ grows. (
        faces_grow l words views (set views id v ++ note_view v ∷ []) v grows
            (each_at (Faces l words views) views id v h.touching.facing at),
        ((λ worker is. absurd (cc)), tt),
      ))
      (λ grows. (
        blamed_grows (Touched views) (Touched (set views id v ++ note_view v ∷ [])) v.blamed grows
            (each_at (λ u. AreBlamed (Touched views) u.blamed) views id v h.touching.blamed at),
        ((λ b has. absurd (in_none b has)), tt),
      )),
))

-- a seat with no attempt in progress has nothing to keep to of its own commits
pub tried_apart : (p : ℕ) (history : List Attempt) (checks : List Check) (checked : List Word) (mine more : List Attempt)
    (stage : Stage) → is_trying stage ≡ false → Tried p history checks checked mine stage
    → Tried p history checks checked more stage
tried_apart p history checks checked mine more Idle none h = tt
tried_apart p history checks checked mine more (Trying i) none h = absurd (true≢false none)
tried_apart p history checks checked mine more Ended none h = tt
tried_apart p history checks checked mine more (Decided i) none h = h

pub heard_both : (v u : View) (m : Story) → IsFront v.history m.history → IsFront v.decided m.decided
    → IsFront u.history m.history → IsFront u.decided m.decided → v.epoch ≤ m.epoch → u.epoch ≤ m.epoch → (x : Heard)
    → Contains (heard_of v ∷ heard_of u ∷ []) x
    → IsFront x.history m.history × IsFront x.decided m.decided × (x.epoch ≤ m.epoch)
heard_both v u m vh vd uh ud ve ue x has = elim (in_cases x (heard_of v) (heard_of u ∷ []) has) [
  | inl e ↦ subst (λ (y : Heard). IsFront y.history m.history × IsFront y.decided m.decided × (y.epoch ≤ m.epoch)) e
      (vh, vd, ve)
  | inr later ↦ elim (in_cases x (heard_of u) [] later) [
    | inl e ↦ subst (λ (y : Heard). IsFront y.history m.history × IsFront y.decided m.decided × (y.epoch ≤ m.epoch)) e
        (uh, ud, ue)
    | inr none ↦ absurd (in_none x none)
  ]
]

pub learns : (l : Layout) (id other : ℕ) (v u : View) → u.role ≡ Note
    → Joins {S = Unit {0}} (λ s. Shows l s.words s.views) id v other u (learned v u) spent_view
learns l id other v u note = joins l id other v u (learned v u) spent_view (λ words views s h f g fp gp at most.
    let a = longer_of v.history u.history s.story.history f.history g.history in
    let b = longer_of v.decided u.decided s.story.decided f.decided g.decided in
    let p : HasNothing u.made u.due u.seat.stage u.mine =
    subst (λ role. HasPart role u.made u.due u.seat.stage u.mine) note g.part in
    let unsat : (k : ℕ) → sits k u ≡ 0 = λ k. ap (sits_by k) note in
    let nothing = g.seatless (λ active. subst IsActive note active) in (
      record {
        fits = (
          record {
            history = a.whole;
            decided = b.whole;
            heard = heard_both v u s.story f.history f.decided g.history g.decided f.low g.low;
            mine = f.mine;
            mine_own = λ x has.
                own_longer v.role v.history (learned v u).history v.decided (learned v u).decided x a.left b.left
                (f.mine_own x has);
            records = f.records;
            kept = f.kept;
            versions = f.versions;
            loaded = f.loaded;
            own = λ q here.
                let o = f.own q here in record {
                  layout = o.layout;
                  seat = o.seat;
                  tried = tried_longer q v.history (learned v u).history s.story.checks v.checked v.mine v.seat.stage a.left o.tried;
                  took = o.took;
                  locked = o.locked;
                };
            low = f.low;
            part = f.part;
            seatless = λ none.
                let was = f.seatless none in record {
                  draws = was.draws;
                  touched = was.touched;
                  blamed = was.blamed;
                  shuts = was.shuts;
                  kept = was.kept;
                  drops = was.drops;
                };
            unkept = f.unkept;
            keepers = λ keeper.
                let was = f.keepers keeper in record {
                  epoch = was.epoch;
                  past = was.past;
                  parked_are = was.parked_are;
                  begun = was.begun;
                  parked = was.parked;
                };
            met = f.met;
          },
          (spent_fits l s, tt),
        );
        pages = (learned_pages l words s v u fp gp, (spent_pages l words s, tt));
        keeper = omega (arith, unsat 0);
        made = λ worker. omega (arith, unsat (suc worker), ap (times worker) p.nobody);
        once = λ k. omega (arith, unsat k, h.sums.once k);
        mine = λ k. omega (arith, ap (total (λ (x : Attempt). k x.number)) p.no_commits);
        drew = omega (arith, nothing.draws);
        few = omega arith;
        room = omega arith;
      },
      record {
        more = λ q k. omega (arith, takes_none q k u nothing.touched);
        faces = λ views' were grows. (
          faces_grow l words views views' v grows were.0,
          ((λ worker is. absurd (cc)), tt),
        );
        blamed = λ views' were grows. (
          blamed_grows (Touched views) (Touched views') v.blamed grows were.0,
          ((λ b has. absurd (in_none b has)), tt),
        );
      },
    ))

-- ---- a worker is seated

pub keeper_part : (role : Role) → role ≡ Keeper → (made made' : List ℕ) (due : Bool) (stage : Stage) (mine mine' : List Attempt)
    → HasPart role made due stage mine → HasPart role made' due stage mine'
keeper_part Keeper e made made' due stage mine mine' h = h
keeper_part (Worker w) e made made' due stage mine mine' h = absurd (cc)
keeper_part Note e made made' due stage mine mine' h = absurd (cc)
keeper_part Spent e made made' due stage mine mine' h = absurd (cc)

no_lock : (locks : List Key) (k : Key) → locks ≡ [] → has_key locks k ≡ true → ⊥
no_lock locks k none has = true≢false (sym has ∙ ap (λ (x : List Key). has_key x k) none)

pub seats : (l : Layout) (id : ℕ) (v : View) (worker : ℕ) → v.role ≡ Keeper → v.seat.locks ≡ [] → worker < 8
    → times worker v.made ≡ 0
    → Splits {S = Unit {0}} (λ s. Shows l s.words s.views) id v (seated worker v) (worker_view worker v)
seats l id v worker is rests few free = splits l id v (seated worker v) (worker_view worker v) (λ words views s h f fp at.
    let more : (x : ℕ) → times x (v.made ++ worker ∷ []) ≡ times x v.made + one_at x worker = λ x.
    omega (arith, total-append (one_at x) v.made (worker ∷ [])) in
    let alone : total (makes worker) views ≡ times worker v.made =
    each_at (MadeByOne views) views id v (made_by_one l s views words h) at (ap (sits_by 0) is) worker in
    let keepers = f.keepers is in
    let parked = keepers.parked worker few free in
    let no_part : (part : Part) → Contains (worker_view worker v).seat.kept part → ⊥ = λ part has.
    in_none part
    (subst (λ (x : List Part). Contains x part) (ap (λ (t : Seat). t.kept) (sym parked.is) ∙ parked.resting.kept) has) in
    let unlocked : (worker_view worker v).seat.locks ≡ [] = ap (λ (t : Seat). t.locks) (sym parked.is) ∙ parked.resting.locks in (
      record {
        fits = (
          record {
            history = f.history;
            decided = f.decided;
            heard = f.heard;
            mine = f.mine;
            mine_own = f.mine_own;
            records = f.records;
            kept = f.kept;
            versions = f.versions;
            loaded = f.loaded;
            own = λ p here.
                let o = f.own p here in
                record { layout = o.layout; seat = o.seat; tried = o.tried; took = o.took; locked = o.locked };
            low = f.low;
            part = keeper_part v.role is v.made (v.made ++ worker ∷ []) v.due v.seat.stage v.mine v.mine f.part;
            seatless = λ none. absurd (none (subst IsActive (sym is) tt));
            unkept = f.unkept;
            keepers = λ keeper. record {
              epoch = keepers.epoch;
              past = keepers.past;
              parked_are = keepers.parked_are;
              begun = keepers.begun;
              parked = λ x less none. keepers.parked x less (let e = more x in omega arith);
            };
            met = f.met;
          },
          (
            record {
              history = f.history;
              decided = f.decided;
              heard = λ x has. absurd (in_none x has);
              mine = tt;
              mine_own = λ a has. absurd (in_none a has);
              records = λ part has. absurd (no_part part has);
              kept = λ k x c has. absurd (no_part _ has);
              versions = λ x has. absurd (in_none x has);
              loaded = tt;
              own = λ p here. record {
                layout = (f.own 0 (subst (IsAt 0) (sym is) refl)).layout;
                seat = sym parked.is ∙ ap s.seats (sym here);
                tried = subst (Tried p v.history s.story.checks [] []) (ap (λ (t : Seat). t.stage) parked.is)
                    (subst (Tried p v.history s.story.checks [] []) (sym parked.resting.stage) tt);
                took = λ t has. absurd (in_none t has);
                locked = λ k has. absurd (no_lock (worker_view worker v).seat.locks k unlocked has);
              };
              low = f.low;
              part = (few, refl);
              seatless = λ none. absurd (none tt);
              unkept = λ none. absurd (none tt);
              keepers = λ keeper. absurd (cc);
              met = λ met has. absurd (in_none met has);
            },
            tt,
          ),
        );
        pages = (
          seated_pages l words s v worker (λ x none. let e = more x in omega arith) fp,
          (worker_pages l words s v worker (fp.keepers is worker few free) fp, tt),
        );
        keeper = let none : one_at 0 (suc worker) ≡ 0 = grind (arith, nat_tests) in omega arith;
        made = λ x.
            let same : one_at (suc x) (suc worker) ≡ one_at x worker = grind (arith, nat_tests) in omega (arith, more x);
        once = λ p.
            by_equal p (suc worker)
            (λ p. total (sits p) views + (sits p v + (one_at p (suc worker) + 0)) ≤ 1 + (sits p v + 0))
            (let one : one_at (suc worker) (suc worker) ≡ 1 = grind (arith, nat_tests) in
            omega (arith, h.sums.made_are worker, term_at_most (sits (suc worker)) views id v at))
            (λ other.
            let none : one_at p (suc worker) ≡ 0 = grind (arith, nat_tests) in omega (arith, h.sums.once p));
        mine = λ k. refl;
        drew = omega arith;
        few =
            let idle : tries (worker_view worker v) ≡ 0 =
            ap (λ (t : Seat). cond (is_trying t.stage) 1 0) (sym parked.is)
            ∙ ap (λ (x : Stage). cond (is_trying x) 1 0) parked.resting.stage in omega arith;
        room = omega arith;
      },
      touching_seated l words views s id worker v v.made refl h f at is rests,
    ))

-- after the load of the clock behind a join, both have been seen
pub seen_both : (v u joined w : View) (n : ℕ) → joined.heard ≡ heard_of v ∷ heard_of u ∷ [] → HasTimed joined n w
    → HasSeen v w × HasSeen u w
seen_both v u joined w n heard timed =
    let first = timed.heard (heard_of v)
    (subst (λ (y : List Heard). Contains y (heard_of v)) (sym heard) (in_head (heard_of v) (heard_of u ∷ []))) in
    let next = timed.heard (heard_of u)
    (subst (λ (y : List Heard). Contains y (heard_of u)) (sym heard)
    (in_tail (heard_of u) (heard_of v) (heard_of u ∷ []) (in_head (heard_of u) []))) in
    (record { history = first.0; decided = first.1 }, record { history = next.0; decided = next.1 })
