-- What is left of a transaction that is given up, before its draw or behind it.
use Rattle.std.proofs.Common.{◌≡◌, inl, inr, ℕ, ◌+◌, ◌<◌, ◌≤◌, Bool, true, false, cond, List, [], ◌∷◌, ◌++◌, length}
use Rattle.std.proofs.Common.{Some, true≢false, refl, sym, ap, ◌∙◌, subst, arith}
use Rattle.std.specs.Prelude.{Contains, drop}
use Rattle.std.proofs.lemmas.List.Elements.{Contains-append_left, Contains-append_right}
use Rattle.lists.specs.Elements.{in_head, in_none}
use Rattle.lists.specs.Fronts.{IsFront, front_then, front_refl, front_append, front_rest}
use Rattle.serial_model.specs.declared.number.Change.{Change}
use Rattle.homes.specs.declared.places.At.{At}
use Rattle.homes.specs.declared.places.At.TheVariants.{Root, In}
use Rattle.commit_core.specs.declared.attempt.Attempt.{Attempt}
use Rattle.commit_core.specs.declared.seat.Seat.{Seat}
use Rattle.commit_core.specs.declared.seat.Stage.TheVariants.{Ended}
use Rattle.commit_core.specs.CoreState.{can_begin}
use Rattle.drop_core.specs.Table.{has_slot}
use Rattle.tx_sets.specs.declared.sets.Sets.{Sets}
use Rattle.tx_sets.specs.declared.writes.Write.{Write}
use Rattle.tx_sets.specs.Entries.{writes_at}
use Rattle.engine_pages.specs.declared.layout.Layout.{Layout}
use Rattle.engine_pages.specs.declared.view.Head.{Head}
use Rattle.engine_pages.specs.declared.view.Known.{Known}
use Rattle.engine_pages.specs.declared.view.Read.{Read}
use Rattle.engine_pages.specs.declared.view.RefusalCause.{RefusalCause}
use Rattle.engine_pages.specs.declared.view.Role.{Role}
use Rattle.engine_pages.specs.declared.view.Role.TheVariants.{Worker}
use Rattle.engine_pages.specs.declared.view.Took.{Took}
use Rattle.engine_pages.specs.declared.view.Touch.{Touch}
use Rattle.engine_pages.specs.declared.view.View.{View}
use Rattle.engine_pages.specs.declared.view.Way.{Way}
use Rattle.engine_pages.specs.Layout.{page_at}
use Rattle.engine_pages.specs.Pages.{is_tree}
use Rattle.engine_pages.specs.Pointers.{WaysAgree}
use Rattle.engine_pages.specs.Touches.{has_took, touch}
use Rattle.engine_pages.specs.Views.{seat_number, IsResting}
use Rattle.page_records.specs.Attempts.{HasDrawn, attempt_of}
use Rattle.page_records.specs.Ends.{forgot_for, is_left, worker_of, HasForgotten, IsDue, IsLeafWordAt, IsMetFor}
use Rattle.page_records.specs.Ends.{IsTreeWordAt}
use Rattle.page_commit.specs.Places.{ground, spot_at, IsKeyAt, IsPointerIn}
use Rattle.page_commit.specs.Between.{HasSeen}
use Rattle.page_commit.specs.Live.{HasHolds, IsLive}
use Rattle.page_commit.specs.Refusing.{HasLost, HasRefused, TellsOnly}
use Rattle.page_commit.specs.Steps.{keys_of, tooks_of, HasLeft, HasLocked, HasLocks, HasUnlocked, HasGivenUp}
use Rattle.page_commit.specs.Steps.{HasFailed, HasMet, IsFree, TellsOf}
use Rattle.page_commit.proofs.LeaveLaws.{holds_stay, left_agree, left_holds, same_then, SamePages}
use Rattle.page_commit.proofs.LeaveLaws.{left_trees, trees_stay}
use Rattle.page_commit.proofs.PageLaws.{drawn_pages, failed_pages, forgotten_pages, locked_pages, unlocked_pages}
use Rattle.page_commit.proofs.PlaceLaws.{place_in, pointer_in_place}
use Rattle.page_commit.proofs.Settling.{settled_locks, settled_marks, settled_begin, settled_ends}
use Rattle.engine_pages.specs.declared.view.RefusalCause.TheVariants as refusals

-- ---- locks that are to be opened again

pub has_locks : (ws : List Write) (found : List ℕ) (v w : View) → IsFree v → HasLocked ws found v w
    → HasLocks ws found w
has_locks ws found v w free h = record {
  count = h.count;
  locks = ap (λ (y : View). y.seat.locks) h.is;
  took = ap (λ (y : View). y.took) h.is
      ∙ ap (λ (l : Layout). tooks_of l ws found) (sym (ap (λ (y : View). y.layout) h.is));
  idle = ap (λ (y : View). can_begin y.seat.stage) h.is ∙ ap can_begin free.stage;
  none = λ _. ap (λ (y : View). y.seat.stage) h.is ∙ free.stage;
}

-- what the end before the draw tells of a conflict
pub tells_of : (why : RefusalCause) (met : List Touch) (v : View) → IsMetFor (Some why) met v → TellsOf why met v
tells_of (refusals.Conflict at expected seen) met v of = (
  (λ k place. of.keyed k (spot_at v.layout.slots at) place),
  (λ sp place.
      of.pointer (place_in (ground v) sp at place) sp (pointer_in_place v sp at place)),
  (λ t low is. of.slot t low is),
  (λ t i place. of.tree t i place),
)
tells_of (refusals.Full held) met v of = of
tells_of (refusals.Wide set) met v of = of
tells_of (refusals.NumberLimit clock) met v of = of

-- a word of a tree's page is one where the ways are the same
pub tree_word : (t i at : ℕ) (v w : View) → w.layout ≡ v.layout → w.ways ≡ v.ways → IsTreeWordAt v t i at
    → IsTreeWordAt w t i at
tree_word t i at v w layout ways p = record {
  way = p.way;
  has = subst (λ (l : List Way). Contains l p.way) (sym ways) p.has;
  slot = p.slot;
  kind = subst (λ (l : Layout). is_tree l.decls p.way.span.storage ≡ true) (sym layout) p.kind;
  there = subst (λ (l : Layout). t < l.slots) (sym layout) p.there;
  index = p.index;
  word = p.word ∙ ap (λ (l : Layout). page_at l.slots t i) (sym layout);
}

-- and one of a known leaf, where its keys are known
pub leaf_word : (t i at : ℕ) (v w : View) → w.layout ≡ v.layout → w.ways ≡ v.ways → w.known ≡ v.known
    → IsLeafWordAt v t i at → IsLeafWordAt w t i at
leaf_word t i at v w layout ways known p = record {
  word = tree_word t i at v w layout ways p.word;
  leaf = p.leaf;
  knows = subst (λ (l : List Known). Contains l p.leaf) (sym known) p.knows;
  same = p.same;
  is = p.is;
}

-- and it is the same where places are the same
tells_same : (why : RefusalCause) (met : List Touch) (v w : View) → w.layout ≡ v.layout → w.ways ≡ v.ways
    → w.known ≡ v.known → w.inners ≡ v.inners → w.role ≡ v.role
    → TellsOf why met w → TellsOf why met v
tells_same (refusals.Conflict at expected seen) met v w layout ways known inners role t' = (
  (λ k place. t'.0 k (subst (λ (l : Layout). Rattle.engine_pages.specs.Records.IsRecordIn l.decls l.slots w.ways k
      (spot_at l.slots at) at) (sym layout)
      (subst (λ z. Rattle.engine_pages.specs.Records.IsRecordIn v.layout.decls v.layout.slots z k
      (spot_at v.layout.slots at) at) (sym ways) place))
      ∙ ap (λ (r : Role). touch (seat_number r) k ∷ []) role),
  (λ sp place. t'.1 sp (subst (λ (g : Rattle.page_commit.specs.Places.Ground). IsPointerIn g sp at)
      (sym (Rattle.page_commit.proofs.StayLaws.grounds w v layout ways known inners)) place)),
  (λ t low is. t'.2 t (subst (λ (l : Layout). t < l.slots) (sym layout) low) is),
  (λ t i place. t'.3 t i (tree_word t i at v w layout ways place)),
)
tells_same (refusals.Full held) met v w layout ways known inners role t = t
tells_same (refusals.Wide set) met v w layout ways known inners role t = t
tells_same (refusals.NumberLimit clock) met v w layout ways known inners role t = t

pub given_up : (ws : List Write) (why : RefusalCause) (v w x y : View) → HasUnlocked ws v w → HasForgotten (Some why) w x
    → HasLeft x y → v.steps ≤ y.steps → HasGivenUp ws why v y
given_up ws why v w x y h is l since =
    let u : View = record v { seat = h.seat; took = []; steps = h.steps; loaded = h.loaded; reads = h.reads } in
    let z : View = forgot_for (Some why) is.met u in record {
      seat = record h.seat { kept = [] };
      steps = z.steps;
      loaded = z.loaded;
      reads = z.reads;
      others = h.others;
      met = is.met;
      of = tells_same why is.met v w (ap (λ (q : View). q.layout) h.is) (ap (λ (q : View). q.ways) h.is)
          (ap (λ (q : View). q.known) h.is) (ap (λ (q : View). q.inners) h.is)
          (ap (λ (q : View). q.role) h.is) (tells_of why is.met w is.of);
      mid = x;
      forgot = is.is ∙ ap (forgot_for (Some why) is.met) h.is;
      left = l;
      resting = record { kept = refl; locks = h.locks; stage = h.stage };
      marks = h.marks;
      since = since;
    }

pub can_forget : (ws : List Write) (v w : View) → v.role ≡ Worker (worker_of v.role) → HasUnlocked ws v w
    → w.role ≡ Worker (worker_of w.role)
can_forget ws v w worker h =
    subst (λ (r : Role). r ≡ Worker (worker_of r)) (sym (ap (λ (y : View). y.role) h.is)) worker

pub idle_again : (ws : List Write) (v w : View) → HasUnlocked ws v w → can_begin w.seat.stage ≡ true
idle_again ws v w h = ap (λ (y : View). can_begin y.seat.stage) h.is ∙ ap can_begin h.stage

-- behind it nothing is kept
pub forgot_kept : (why : RefusalCause) (v w : View) → HasForgotten (Some why) v w → w.seat.kept ≡ []
forgot_kept why v w h = ap (λ (y : View). y.seat.kept) h.is

pub forgot_worker : (why : RefusalCause) (v w : View) → v.role ≡ Worker (worker_of v.role) → HasForgotten (Some why) v w
    → w.role ≡ Worker (worker_of w.role)
forgot_worker why v w worker h =
    subst (λ (r : Role). r ≡ Worker (worker_of r)) (sym (ap (λ (y : View). y.role) h.is)) worker

pub forgot_holds : (slots : List ℕ) (ws : List Write) (why : RefusalCause) (v w x : View) → HasUnlocked ws v w
    → HasForgotten (Some why) w x → HasHolds slots v → HasHolds slots x
forgot_holds slots ws why v w x h is holds =
    holds_stay slots v x (same_then v w x (unlocked_pages ws v w h) (forgotten_pages (Some why) w x is)) holds

-- ---- who was in the way

-- where no slot was left, no place is in one
pub none_left : (x : At) → is_left [] x ≡ false
none_left (Root r) = refl
none_left (In y) = refl

-- a conflict that was met is due, once the locks are open
pub is_due : (ws : List Write) (at expected seen : ℕ) (v w : View) → HasMet at expected seen v → v.gone ≡ []
    → writes_at at ws ≡ false → HasUnlocked ws v w → IsDue (Some (refusals.Conflict at expected seen)) w
is_due ws at expected seen v w (inl m) gone apart h =
    let r = m.1 in
    inl (
      m.0,
      spot_at w.layout.slots at,
      record {
        place = subst (λ (y : View). IsKeyAt y m.0 at) (sym h.is) r.place;
        free = ap (λ (y : View). has_took y.took m.0 (spot_at w.layout.slots at)) h.is;
        here = ap (λ (y : View). has_slot y.gone (spot_at w.layout.slots at).slot) h.is
            ∙ ap (λ l. has_slot l (spot_at w.layout.slots at).slot) gone;
        step = r.step;
        last = ap (λ (y : View). y.last) h.is ∙ r.last;
        was = r.was;
        kept = r.kept;
        stands = subst (λ (l : List Read). Contains l (record { word = at; seen = seen; was = r.was; kept = r.kept }))
            (sym (ap (λ (y : View). y.reads) h.is))
            (h.others (record { word = at; seen = seen; was = r.was; kept = r.kept }) r.stands apart);
        known = r.known;
        cause = r.cause;
      },
    )
is_due ws at expected seen v w (inr (inl m)) gone apart h =
    let p : IsPointerIn (ground w) m.span at = subst (λ (y : View). IsPointerIn (ground y) m.span at) (sym h.is) m.place in
    let x : At = place_in (ground w) m.span at p in
    inr (inl (
      x,
      m.span,
      record {
        place = pointer_in_place w m.span at p;
        here = ap (λ (y : View). is_left y.gone x) h.is ∙ (ap (λ l. is_left l x) gone ∙ none_left x);
        step = m.step;
        last = ap (λ (y : View). y.last) h.is ∙ m.last;
        was = m.was;
        kept = m.kept;
        stands = subst (λ (l : List Read). Contains l (record { word = at; seen = seen; was = m.was; kept = m.kept }))
            (sym (ap (λ (y : View). y.reads) h.is))
            (h.others (record { word = at; seen = seen; was = m.was; kept = m.kept }) m.stands apart);
        known = m.known;
        cause = m.cause;
      },
    ))
is_due ws at expected seen v w (inr (inr r)) gone apart h =
    let t : ℕ = r.0 in
    let m = r.2 in
    inr (inr (inr (
      t,
      r.1,
      record {
        place = leaf_word t r.1 at v w (ap (λ (y : View). y.layout) h.is) (ap (λ (y : View). y.ways) h.is)
            (ap (λ (y : View). y.known) h.is) m.place;
        free = λ y has. absurd (in_none y (subst (λ (l : List Took). Contains l y) (ap (λ (y : View). y.took) h.is) has));
        unheld = λ y has. absurd (in_none y (subst (λ (l : List Head). Contains l y)
            (ap (λ (y : View). y.heads) h.is ∙ m.unheld) has));
        here = ap (λ (y : View). has_slot y.gone t) h.is ∙ ap (λ l. has_slot l t) gone;
        step = m.step;
        last = ap (λ (y : View). y.last) h.is ∙ m.last;
        was = m.was;
        kept = m.kept;
        stands = subst (λ (l : List Read). Contains l (record { word = at; seen = seen; was = m.was; kept = m.kept }))
            (sym (ap (λ (y : View). y.reads) h.is))
            (h.others (record { word = at; seen = seen; was = m.was; kept = m.kept }) m.stands apart);
        known = m.known;
        cause = m.cause;
      },
    )))

-- ---- a refusal

-- what was seen is seen still
pub in_front : (f l : List Attempt) (b : Attempt) → IsFront f l → Contains f b → Contains l b
in_front f l b front has =
    subst (λ (x : List Attempt). Contains x b) (front_rest f l front)
    (Contains-append_left f (drop (length f) l) b has)

one_told : (why : RefusalCause) (at expected seen : ℕ) (met : List Touch) (v : View) → why ≡ refusals.Conflict at expected seen
    → HasMet at expected seen v → TellsOf why met v → TellsOnly why met
one_told why at expected seen met v same met-so tells =
    subst (λ (r : RefusalCause). TellsOnly r met) (sym same)
    (by_met met-so (subst (λ (r : RefusalCause). TellsOf r met v) same tells))
  where
    by_met : HasMet at expected seen v → TellsOf (refusals.Conflict at expected seen) met v → length met ≤ 1
    by_met (inl m) t =
        let is = ap (λ (l : List Touch). length l) (t.0 m.0 m.1.place) in omega (arith, is)
    by_met (inr (inl m)) t =
        let is = ap (λ (l : List Touch). length l) (t.1 m.span m.place) in omega (arith, is)
    by_met (inr (inr m)) t =
        let is = ap (λ (l : List Touch). length l) (t.3 m.0 m.1 m.2.place.word) in omega (arith, is)

-- what a given-up transaction leaves, where the pass's view was this before
pub refused_from : (why : RefusalCause) (drew : Bool) (sets : Sets) (ws : List Write) (v w x : View) → IsLive sets v
    → SamePages v w → w.role ≡ v.role
    → HasSeen v w → v.steps ≤ w.steps → w.mine ≡ v.mine → w.draws ≡ v.draws + cond drew 1 0
    → (drew ≡ true → HasLost v w) → w.seat.marks ≡ v.seat.marks → w.refused ≡ v.refused
    → w.blamed ≡ v.blamed → ((met : List Touch) → TellsOf why met w → TellsOnly why met) → HasGivenUp ws why w x
    → HasRefused why v x
refused_from why drew sets ws v w x live pages role seen since mine draws lost marks refused blamed told g =
    let h = g.forgot in
    let l = g.left in
    let layout' : x.layout ≡ v.layout =
    ap (λ (y : View). y.layout) l.is ∙ (ap (λ (y : View). y.layout) h ∙ pages.layout) in
    let role' : x.role ≡ v.role = ap (λ (y : View). y.role) l.is ∙ (ap (λ (y : View). y.role) h ∙ role) in
    let mid : SamePages w g.mid = record {
      layout = ap (λ (y : View). y.layout) h;
      grip = ap (λ (y : View). y.grip) h;
      ways = ap (λ (y : View). y.ways) h;
      known = ap (λ (y : View). y.known) h;
      moved = ap (λ (y : View). y.moved) h;
      branches = ap (λ (y : View). y.inners) h;
      drafts = ap (λ (y : View). y.drafts) h;
      copies = ap (λ (y : View). y.copies) h;
      blanks = ap (λ (y : View). y.blanks) h;
      leaves = ap (λ (y : View). y.new_leaves) h;
      inners = ap (λ (y : View). y.new_inners) h;
      heads = ap (λ (y : View). y.heads) h;
    } in
    let all : SamePages v g.mid = same_then v w g.mid pages mid in record {
      over = record {
        decls = subst (λ (y : Layout). Rattle.serial_model.specs.Decls.AreDecls y.decls) (sym layout') live.decls;
        worker = subst (λ (r : Role). r ≡ Worker (worker_of r)) (sym role') live.worker;
        due = ap (λ (y : View). y.due) l.is ∙ ap (λ (y : View). y.due) h;
        took = ap (λ (y : View). y.took) l.is ∙ ap (λ (y : View). y.took) h;
        seat = subst (λ (y : View). IsResting y.seat) (sym l.is) (subst (λ (y : View). IsResting y.seat) (sym h) g.resting);
        agree = left_agree g.mid x (subst WaysAgree (sym all.ways) live.agree) l;
        trees = left_trees g.mid x (trees_stay v g.mid all live.trees) l;
        holds = left_holds sets.holds g.mid x (holds_stay sets.holds v g.mid all live.holds) l;
      };
      layout = layout';
      role = role';
      seen = record {
        history = subst (λ (y : View). IsFront v.history y.history) (sym l.is)
            (subst (λ (y : View). IsFront v.history y.history) (sym h) seen.history);
        decided = subst (λ (y : View). IsFront v.decided y.decided) (sym l.is)
            (subst (λ (y : View). IsFront v.decided y.decided) (sym h) seen.decided);
      };
      since = let more = g.since in omega (arith, since, more);
      mine = ap (λ (y : View). y.mine) l.is ∙ (ap (λ (y : View). y.mine) h ∙ mine);
      drew = drew;
      draws = ap (λ (y : View). y.draws) l.is ∙ (ap (λ (y : View). y.draws) h ∙ draws);
      lost = λ so. let one = lost so in record {
        attempt = one.attempt;
        seat = one.seat;
        drawn = subst (λ (y : View). Contains y.history one.attempt) (sym l.is)
            (subst (λ (y : View). Contains y.history one.attempt) (sym h) one.drawn);
        above = one.above;
      };
      marks = ap (λ (y : View). y.seat.marks) l.is ∙ (ap (λ (y : View). y.seat.marks) h ∙ (g.marks ∙ marks));
      refused = ap (λ (y : View). y.refused) l.is
          ∙ (ap (λ (y : View). y.refused) h ∙ ap (λ z. z ++ why ∷ []) refused);
      met = g.met;
      told = told g.met g.of;
      blamed = ap (λ (y : View). y.blamed) l.is ∙ (ap (λ (y : View). y.blamed) h ∙ ap (λ z. z ++ g.met) blamed);
    }

pub locked_refused : (why : RefusalCause) (sets : Sets) (ws : List Write) (found : List ℕ) (at expected seen : ℕ)
    (v w x : View) → IsLive sets v → HasLocked ws found v w → why ≡ refusals.Conflict at expected seen
    → HasMet at expected seen w → HasGivenUp ws why w x → HasRefused why v x
locked_refused why sets ws found at expected seen v w x live h same met g =
    refused_from why false sets ws v w x live (locked_pages ws found v w h) (ap (λ (y : View). y.role) h.is)
    record {
      history = subst (λ (y : View). IsFront v.history y.history) (sym h.is) (front_refl v.history);
      decided = subst (λ (y : View). IsFront v.decided y.decided) (sym h.is) (front_refl v.decided);
    }
    (let more = h.since in let steps = ap (λ (y : View). y.steps) h.is in omega (arith, more, steps))
    (ap (λ (y : View). y.mine) h.is) (let draws = ap (λ (y : View). y.draws) h.is in omega (arith, draws))
    (λ so. absurd (true≢false (sym so)))
    (ap (λ (y : View). y.seat.marks) h.is) (ap (λ (y : View). y.refused) h.is) (ap (λ (y : View). y.blamed) h.is)
    (λ l tells. one_told why at expected seen l w same met tells) g

-- ---- a check that failed

pub failed_locks : (ws : List Write) (found : List ℕ) (changes : List Change) (n : ℕ) (v w x y : View)
    → HasLocked ws found v w → HasDrawn changes w n x → HasFailed x y → HasLocks ws found y
failed_locks ws found changes n v w x y h d f =
    let s : Seat = record x.seat { stage = Ended } in
    let locks : x.seat.locks ≡ keys_of ws =
    ap (λ (z : View). z.seat.locks) d.is ∙ ap (λ (z : View). z.seat.locks) h.is in
    let layout : y.layout ≡ v.layout =
    ap (λ (z : View). z.layout) f.is ∙ (ap (λ (z : View). z.layout) d.is ∙ ap (λ (z : View). z.layout) h.is) in record {
      count = h.count;
      locks = ap (λ (z : View). z.seat.locks) f.is ∙ (settled_locks s ∙ locks);
      took = ap (λ (z : View). z.took) f.is ∙ (ap (λ (z : View). z.took) d.is ∙ (ap (λ (z : View). z.took) h.is
          ∙ ap (λ (l : Layout). tooks_of l ws found) (sym layout)));
      idle = ap (λ (z : View). can_begin z.seat.stage) f.is ∙ settled_begin s refl;
      none = λ empty. ap (λ (z : View). z.seat.stage) f.is ∙ settled_ends s (locks ∙ no_keys ws empty) refl;
    }
  where
    no_keys : (l : List Write) → length l ≡ 0 → keys_of l ≡ []
    no_keys [] e = refl
    no_keys (z ∷ l) e = absurd (omega arith)

pub failed_refused : (why : RefusalCause) (sets : Sets) (ws us : List Write) (found : List ℕ) (changes : List Change)
    (n at expected seen : ℕ)
    (v w x y z : View) → IsLive sets v → HasLocked ws found v w → HasDrawn changes w n x → HasFailed x y
    → why ≡ refusals.Conflict at expected seen → HasMet at expected seen y
    → HasGivenUp us why y z → HasRefused why v z
failed_refused why sets ws us found changes n at expected seen v w x y z live h d f same met g =
    let a : Attempt = attempt_of w d.number changes in
    let s : Seat = record x.seat { stage = Ended } in
    refused_from why true sets us v y z live
    (same_then v w y (locked_pages ws found v w h) (same_then w x y (drawn_pages changes n w x d) (failed_pages x y f)))
    (ap (λ (u : View). u.role) f.is ∙ (ap (λ (u : View). u.role) d.is ∙ ap (λ (u : View). u.role) h.is))
    record {
      history = subst (λ (u : View). IsFront v.history u.history) (sym f.is)
          (subst (λ (u : View). IsFront v.history u.history) (sym d.is)
          (front_then v.history d.all (d.all ++ a ∷ [])
          (subst (λ (l : List Attempt). IsFront l d.all) (ap (λ (u : View). u.history) h.is) d.seen)
          (front_append d.all (a ∷ []))));
      decided = subst (λ (u : View). IsFront v.decided u.decided) (sym f.is)
          (subst (λ (u : View). IsFront v.decided u.decided) (sym d.is)
          (subst (λ (u : View). IsFront v.decided u.decided) (sym h.is) (front_refl v.decided)));
    }
    failed_since
    (ap (λ (u : View). u.mine) f.is ∙ (ap (λ (u : View). u.mine) d.is ∙ ap (λ (u : View). u.mine) h.is))
    (omega (arith, failed_draws))
    (λ so. record {
      attempt = a;
      seat = ap (λ (u : View). seat_number u.role) h.is;
      drawn = subst (λ (u : View). Contains u.history a) (sym f.is)
          (subst (λ (u : View). Contains u.history a) (sym d.is)
          (Contains-append_right d.all (a ∷ []) a (in_head a [])));
      above = λ b has. d.above b (in_front v.history d.all b
          (subst (λ (l : List Attempt). IsFront l d.all) (ap (λ (u : View). u.history) h.is) d.seen) has);
    })
    (ap (λ (u : View). u.seat.marks) f.is ∙ (settled_marks s
    ∙ (ap (λ (u : View). u.seat.marks) d.is ∙ ap (λ (u : View). u.seat.marks) h.is)))
    (ap (λ (u : View). u.refused) f.is ∙ (ap (λ (u : View). u.refused) d.is ∙ ap (λ (u : View). u.refused) h.is))
    (ap (λ (u : View). u.blamed) f.is ∙ (ap (λ (u : View). u.blamed) d.is ∙ ap (λ (u : View). u.blamed) h.is))
    (λ l tells. one_told why at expected seen l y same met tells) g
  where
    failed_since : v.steps ≤ y.steps
    failed_since =
        let first = h.since in
        let locked = ap (λ (u : View). u.steps) h.is in
        let drawn : x.steps ≡ w.steps + 1 = ap (λ (u : View). u.steps) d.is in
        let last = f.since in
        let now = ap (λ (u : View). u.steps) f.is in omega (arith, first, locked, drawn, last, now)

    failed_draws : y.draws ≡ v.draws + 1
    failed_draws = ap (λ (u : View). u.draws) f.is ∙ (ap (λ (u : View). u.draws) d.is
        ∙ ap (λ (u : View). u.draws + 1) h.is)
