-- A transaction that writes the first key, step by step.
use Rattle.std.proofs.Common.{◌≡◌, ℕ, zero, suc, ◌+◌, ◌-◌, ◌*◌, ◌/◌, ◌%◌, ◌<◌, Bool, true, false, true≢false, List}
use Rattle.std.proofs.Common.{[], ◌∷◌, ◌++◌, length}
use Rattle.std.proofs.Common.{inl, inr, refl, sym, ap, ◌∙◌, subst, arith}
use Rattle.std.specs.Prelude.{Some, None, Contains, slice_get, drop, filter, is_some, not, MatchBool}
use Rattle.lists.specs.Elements.{at_push_new, any_push_new, in_cases, in_head, in_none}
use Rattle.lists.specs.Fronts.{IsFront, front_rest}
use Rattle.serial_model.specs.declared.key.Key.{Key}
use Rattle.serial_model.specs.declared.number.Change.{Change}
use Rattle.homes.specs.declared.places.Spot.{Spot}
use Rattle.commit_core.specs.declared.attempt.Attempt.{Attempt}
use Rattle.commit_core.specs.declared.part.Part.{Part}
use Rattle.commit_core.specs.declared.seat.Seat.{Seat}
use Rattle.commit_core.specs.declared.seat.Stage.{Stage}
use Rattle.commit_core.specs.declared.seat.Stage.TheVariants.{Idle, Trying, Ended, Decided}
use Rattle.commit_core.specs.CoreState.{can_begin, is_trying, settled}
use Rattle.commit_core.specs.Event.{decided_stage}
use Rattle.commit_core.specs.Keys.{has_key, same_key, written}
use Rattle.drop_core.specs.Table.{has_slot}
use Rattle.wire_form.specs.Words.{number_word}
use Rattle.tx_sets.specs.declared.sets.Sets.{Sets}
use Rattle.tx_sets.specs.Gathered.{AreEmpty}
use Rattle.page_commit.proofs.StayLaws.{grounds}
use Rattle.engine_pages.specs.declared.view.Known.{Known}
use Rattle.engine_pages.specs.declared.layout.Layout.{Layout}
use Rattle.engine_pages.specs.declared.view.Role.{Role}
use Rattle.engine_pages.specs.declared.view.Role.TheVariants.{Keeper, Worker}
use Rattle.engine_pages.specs.declared.view.Took.{Took}
use Rattle.engine_pages.specs.declared.view.Touch.{Touch}
use Rattle.engine_pages.specs.declared.view.View.{View}
use Rattle.engine_pages.specs.declared.view.Way.{Way}
use Rattle.engine_pages.specs.Pages.{is_array}
use Rattle.engine_pages.specs.Pointers.{WaysAgree}
use Rattle.engine_pages.specs.declared.engine.Engine.{Engine}
use Rattle.engine_pages.specs.Passes.{Pass, view, IsPassOf}
use Rattle.engine_pages.specs.Records.{IsAnyRecordAt, IsRecordAt}
use Rattle.engine_pages.specs.Steps.{read_at}
use Rattle.engine_pages.specs.Views.{IsActive, IsResting}
use Rattle.serial_model.specs.Decls.{AreDecls}
use Rattle.page_records.specs.Attempts.{attempt_of, CanDecide, CanDraw, HasDrawn, HasChosen}
use Rattle.page_records.specs.Ends.{forgot_for, worker_of}
use Rattle.page_records.specs.Locks.{array_absence, locked, not_at, opened, put_at, took_at, CanPut, CanOpenAnew}
use Rattle.array_pages.specs.Making.{CanMake}
use Rattle.array_pages.specs.Walks.{HasWalked}
use Rattle.page_commit.specs.Committing.{HasBegun}
use Rattle.page_commit.specs.Live.{AreParts, HasHolds, IsLive, IsOver}
use Rattle.page_commit.specs.Places.{ground, spot_at, Ground, IsKeyAt, IsKeyIn}
use Rattle.page_commit.specs.Steps.{HasLeft}
use Rattle.page_commit.proofs.LeaveLaws.{holds_stay, left_agree, left_holds, SamePages}
use Rattle.page_commit.proofs.LeaveLaws.{left_trees, trees_stay}
use Rattle.page_commit.proofs.PlaceLaws.{key_array, spot_is}
use Rattle.txn_tests.specs.Standing.{first_key, HasLock, HasPut, IsFree, IsHolding, IsPublished, IsWithin}

-- ---- what a step leaves of pages

-- the pass knows the same of pages, and is the same worker's
record Same (v w : View) : Type 0 where
  pages : SamePages v w
  role : w.role ≡ v.role

worker_stays : (v w : View) → w.role ≡ v.role → v.role ≡ Worker (worker_of v.role) → w.role ≡ Worker (worker_of w.role)
worker_stays v w same is = same ∙ (is ∙ ap (λ (r : Role). Worker (worker_of r)) (sym same))

within_stays : (slots : List ℕ) (v w : View) → Same v w → IsWithin slots v → IsWithin slots w
within_stays slots v w same h = record {
  decls = subst (λ (l : Layout). AreDecls l.decls) (sym same.pages.layout) h.decls;
  worker = worker_stays v w same.role h.worker;
  agree = subst WaysAgree (sym same.pages.ways) h.agree;
  trees = trees_stay v w same.pages h.trees;
  holds = holds_stay slots v w same.pages h.holds;
}

place_stays : (v w : View) (k : Key) (at : ℕ) → Same v w → IsKeyAt v k at → IsKeyAt w k at
place_stays v w k at same place =
    subst (λ (g : Ground). IsKeyIn g k at)
    (sym (grounds w v same.pages.layout same.pages.ways same.pages.known same.pages.branches)) place

-- the lock's place, by the slots of the later view
spot_stays : (v w : View) (at : ℕ) → Same v w → spot_at v.layout.slots at ≡ spot_at w.layout.slots at
spot_stays v w at same = ap (λ (l : Layout). spot_at l.slots at) (sym same.pages.layout)

lock_stays : (at : ℕ) (v w : View) → Same v w → w.seat.locks ≡ v.seat.locks → w.took ≡ v.took → HasLock at v
    → HasLock at w
lock_stays at v w same locks took h = record {
  place = place_stays v w first_key at same h.place;
  locks = locks ∙ h.locks;
  word = h.word;
  took = took ∙ (h.took ∙ ap (λ (x : Spot). took_at first_key x h.word ∷ []) (spot_stays v w at same));
}

pub within_active : (slots : List ℕ) (v : View) → IsWithin slots v → IsActive v.role
within_active slots v h = subst IsActive (sym h.worker) tt

-- ---- the page is brought up

none_kept : (sets : Sets) (v : View) (kept : List Part) → AreEmpty sets → AreParts sets v kept → kept ≡ []
none_kept sets v [] empty parts = refl
none_kept sets v (part ∷ kept) empty parts = elim (parts.known part (in_head part kept)) [
  | inl e ↦ absurd (in_none e.0 (subst (λ l. Contains l e.0) empty.reads e.1))
  | inr rest ↦ elim rest [
    | inl p ↦ absurd (in_none p.0 (subst (λ l. Contains l p.0) empty.pointers p.1))
    | inr h ↦ absurd (in_none h.0 (subst (λ l. Contains l h.0) empty.headers h.1))
  ]
]

not_keeper : (r : Role) → r ≡ Worker (worker_of r) → r ≡ Keeper → ⊥
not_keeper r is other = absurd (let no : Worker (worker_of r) ≡ Keeper = sym is ∙ other in cc)

pub can_make_first : (sets : Sets) (v w : View) (slots : List ℕ) → HasBegun sets v w → slots ≡ [] → CanMake slots w
can_make_first sets v w slots begun none =
    let live = begun.live in
    let same : slots ≡ sets.holds = none ∙ sym begun.empty.holds in record {
      walks = record {
        active = subst IsActive (sym live.worker) tt;
        rest = ap is_trying live.stage;
        holds = λ t. ap (λ (l : List ℕ). has_slot l t) same ∙ live.holds.holds t;
        within = λ t has. live.holds.within t (ap (λ (l : List ℕ). has_slot l t) (sym same) ∙ has);
        agree = live.agree;
        trees = live.trees;
        declared = live.decls;
      };
      worker = not_keeper w.role live.worker;
      idle = live.stage;
      unlocked = live.locks;
      made = live.holds.made;
      taken = live.holds.taken;
      drafts = live.holds.drafts;
      copies = live.holds.copies;
      blanks = live.holds.blanks;
      leaves = live.holds.leaves;
      inners = live.holds.inners;
      heads = live.holds.heads;
    }

pub free_then : (sets : Sets) (v w x : View) (slots : List ℕ) → HasBegun sets v w → HasWalked w x → CanMake slots x
    → x.seat.kept ≡ w.seat.kept → IsFree slots x
free_then sets v w x slots begun walked can kept =
    let live = begun.live in record {
      within = record {
        decls = can.walks.declared;
        worker = worker_stays w x (ap (λ (y : View). y.role) walked.is) live.worker;
        agree = can.walks.agree;
        trees = can.walks.trees;
        holds = record {
          holds = can.walks.holds;
          within = can.walks.within;
          made = can.made;
          taken = can.taken;
          drafts = can.drafts;
          copies = can.copies;
          blanks = can.blanks;
          leaves = can.leaves;
          inners = can.inners;
          heads = can.heads;
        };
      };
      due = ap (λ (y : View). y.due) walked.is ∙ live.due;
      kept = kept ∙ none_kept sets w w.seat.kept begun.empty live.parts;
      stage = can.idle;
      locks = can.unlocked;
      took = ap (λ (y : View). y.took) walked.is ∙ live.took;
    }

-- the place of a record follows from that of its word
spot_of_word : (v : View) (k : Key) (x : Spot) (at : ℕ) → IsRecordAt v k x at → x ≡ spot_at v.layout.slots at
spot_of_word v k x at p =
    let index : x.index < 32 = p.index in
    let word : at ≡ ((32 + v.layout.slots) + 64 * x.slot) + 2 * x.index = p.word in
    let slot : x.slot ≡ (at - (32 + v.layout.slots)) / 64 = omega (arith, index, word) in
    let rest : (at - (32 + v.layout.slots)) % 64 ≡ 2 * x.index = omega (arith, index, word) in
    let place : x.index ≡ ((at - (32 + v.layout.slots)) % 64) / 2 = omega (arith, rest) in
    ap (λ (n : ℕ). let y : Spot = record { slot = n; index = x.index } in y) slot
    ∙ ap (λ (n : ℕ). let y : Spot = record { slot = (at - (32 + v.layout.slots)) / 64; index = n } in y) place

pub key_here : (v : View) (k : Key) (x : Spot) (at : ℕ) → IsRecordAt v k x at → IsKeyAt v k at
key_here v k x at p = subst (λ (y : Spot). IsRecordAt v k y at) (spot_of_word v k x at p) p

-- the record's place, by the slots of the engine
pub spot_any : (e : Engine) (p : Pass) (k : Key) (at : ℕ) (x : Spot) → IsPassOf e p → x ≡ spot_at e.table.shared.key.slots at
    → IsKeyAt (view p) k at → IsAnyRecordAt (view p) k x at
spot_any e p k at x of is place = inl (spot_is e p k at x of is place)

-- ---- the lock

pub locks_first : (slots : List ℕ) (at n : ℕ) (x : Spot) (v w : View) → IsFree slots v → IsKeyAt v first_key at
    → x ≡ spot_at v.layout.slots at → w ≡ locked first_key x at n v → IsHolding slots at w
locks_first slots at n x v w free place spot is =
    let same : Same v w = subst (Same v) (sym is) record {
      pages = record {
        layout = refl;
        grip = refl;
        ways = refl;
        known = refl;
        moved = refl;
        branches = refl;
        drafts = refl;
        copies = refl;
        blanks = refl;
        leaves = refl;
        inners = refl;
        heads = refl;
      };
      role = refl;
    } in record {
      within = within_stays slots v w same free.within;
      has = record {
        place = place_stays v w first_key at same place;
        locks = ap (λ (y : View). y.seat.locks) is ∙ ap (λ (l : List Key). l ++ first_key ∷ []) free.locks;
        word = n;
        took = ap (λ (y : View). y.took) is
            ∙ (ap (λ (l : List Took). l ++ took_at first_key x n ∷ []) free.took
            ∙ ap (λ (s : Spot). took_at first_key s n ∷ []) (spot ∙ spot_stays v w at same));
      };
      due = ap (λ (y : View). y.due) is ∙ free.due;
      kept = ap (λ (y : View). y.seat.kept) is ∙ free.kept;
      stage = ap (λ (y : View). y.seat.stage) is ∙ free.stage;
    }

pub locks_none : (slots : List ℕ) (at n : ℕ) (v w : View) → IsFree slots v → w ≡ read_at at n v → IsFree slots w
locks_none slots at n v w free is =
    let same : Same v w = subst (Same v) (sym is) record {
      pages = record {
        layout = refl;
        grip = refl;
        ways = refl;
        known = refl;
        moved = refl;
        branches = refl;
        drafts = refl;
        copies = refl;
        blanks = refl;
        leaves = refl;
        inners = refl;
        heads = refl;
      };
      role = refl;
    } in record {
      within = within_stays slots v w same free.within;
      due = ap (λ (y : View). y.due) is ∙ free.due;
      kept = ap (λ (y : View). y.seat.kept) is ∙ free.kept;
      stage = ap (λ (y : View). y.seat.stage) is ∙ free.stage;
      locks = ap (λ (y : View). y.seat.locks) is ∙ free.locks;
      took = ap (λ (y : View). y.took) is ∙ free.took;
    }

-- what the lock's step tells, by whether it found what was expected
abbrev LocksSo : ℕ → ℕ → Spot → View → View → Bool → Type 0
LocksSo at n x v w b = MatchBool b (w ≡ locked first_key x at n v) (w ≡ read_at at n v)

pub locked_so : (slots : List ℕ) (at n : ℕ) (x : Spot) (v w : View) (b : Bool) → IsFree slots v
    → IsKeyAt v first_key at → x ≡ spot_at v.layout.slots at → LocksSo at n x v w b
    → MatchBool b (IsHolding slots at w) (IsFree slots w)
locked_so slots at n x v w true free place spot is = locks_first slots at n x v w free place spot is
locked_so slots at n x v w false free place spot is = locks_none slots at n v w free is

pub locked_layout : (at n : ℕ) (x : Spot) (v w : View) (b : Bool) → LocksSo at n x v w b → w.layout ≡ v.layout
locked_layout at n x v w true is = ap (λ (y : View). y.layout) is
locked_layout at n x v w false is = ap (λ (y : View). y.layout) is

pub free_begins : (slots : List ℕ) (v : View) → IsFree slots v → can_begin v.seat.stage ≡ true
free_begins slots v free = ap can_begin free.stage

-- ---- slots are left

-- a transaction is over, but for the slots that it holds
pub over_left : (slots : List ℕ) (v w : View) → IsPublished slots v → HasLeft v w → IsOver w
over_left slots v w p left = record {
  decls = subst (λ (y : View). AreDecls y.layout.decls) (sym left.is) p.within.decls;
  worker = subst (λ (y : View). y.role ≡ Worker (worker_of y.role)) (sym left.is) p.within.worker;
  due = ap (λ (y : View). y.due) left.is ∙ p.due;
  took = ap (λ (y : View). y.took) left.is ∙ p.took;
  seat = subst (λ (y : View). IsResting y.seat) (sym left.is) p.rests;
  agree = left_agree v w p.within.agree left;
  trees = left_trees v w p.within.trees left;
  holds = left_holds slots v w p.within.holds left;
}

pub forgotten : (slots : List ℕ) (v w : View) (met : List Touch)
    → IsFree slots v → w ≡ forgot_for None met v → IsPublished slots w
forgotten slots v w met free is =
    let same : Same v w = subst (Same v) (sym is) record {
      pages = record {
        layout = refl;
        grip = refl;
        ways = refl;
        known = refl;
        moved = refl;
        branches = refl;
        drafts = refl;
        copies = refl;
        blanks = refl;
        leaves = refl;
        inners = refl;
        heads = refl;
      };
      role = refl;
    } in record {
      within = within_stays slots v w same free.within;
      due = ap (λ (y : View). y.due) is;
      took = ap (λ (y : View). y.took) is ∙ free.took;
      rests = record {
        kept = ap (λ (y : View). y.seat.kept) is;
        locks = ap (λ (y : View). y.seat.locks) is ∙ free.locks;
        stage = ap (λ (y : View). y.seat.stage) is ∙ free.stage;
      };
    }

-- ---- the attempt

-- what is written at the first key
abbrev pub change : ℕ → List Change
change value = record { key = first_key; value = Some value } ∷ []

pub can_draw : (slots : List ℕ) (at value : ℕ) (changes : List Change) (v : View) → changes ≡ change value
    → IsHolding slots at v → CanDraw changes v
can_draw slots at value changes v are h = subst (λ (l : List Change). CanDraw l v) (sym are) record {
  due = h.due;
  idle = ap can_begin h.stage;
  locked = rw h.has.locks refl;
  values = λ w has array. elim (in_cases w (record { key = first_key; value = Some value }) [] has) [
    | inl same ↦ ap (λ (y : Change). is_some y.value) (sym same)
    | inr none ↦ absurd (in_none w none)
  ];
}

-- nothing was read, so nothing is to be checked
pub can_decide : (slots : List ℕ) (at : ℕ) (changes : List Change) (n : ℕ) (v w : View) → IsHolding slots at v
    → HasDrawn changes v n w → CanDecide w
can_decide slots at changes n v w h d =
    let a : Attempt = attempt_of v d.number changes in record {
      index = length d.all;
      attempt = a;
      stage = ap (λ (y : View). y.seat.stage) d.is;
      at = ap (λ (y : View). slice_get y.history (length d.all)) d.is ∙ at_push_new d.all a;
      all = rw h.kept refl;
    }

trying_is : (i j : ℕ) (s : Stage) → s ≡ Trying i → s ≡ Trying j → i ≡ j
trying_is i j s is is' = cc

front_at : (h more : List Attempt) (i : ℕ) (a : Attempt) → slice_get h i ≡ Some a → slice_get (h ++ more) i ≡ Some a
front_at [] more i a at = absurd cc
front_at (x ∷ h) more zero a at = at
front_at (x ∷ h) more (suc i) a at = front_at h more i a at

at_front : (h l : List Attempt) (i : ℕ) (a : Attempt) → IsFront h l → slice_get h i ≡ Some a → slice_get l i ≡ Some a
at_front h l i a front at =
    subst (λ (y : List Attempt). slice_get y i ≡ Some a) (front_rest h l front) (front_at h (drop (length h) l) i a at)

-- a seat with a lock is not settled
settled_open : (s : Seat) (k : Key) → s.locks ≡ k ∷ [] → settled s ≡ s
settled_open s k locks = rw locks refl

-- the attempt that was drawn counts, and its lock is left to open
pub record IsPutting (slots : List ℕ) (at n value : ℕ) (v : View) : Type 0 where
  pub within : IsWithin slots v
  pub has : HasLock at v
  pub due : v.due ≡ false
  pub kept : v.seat.kept ≡ []
  pub index : ℕ
  pub attempt : Attempt
  pub stage : v.seat.stage ≡ Decided index
  pub at_index : slice_get v.history index ≡ Some attempt
  pub writes : attempt.writes ≡ change value
  pub number : n ≡ number_word attempt.number

pub is_putting : (slots : List ℕ) (at value n m : ℕ) (v w x : View) → IsHolding slots at v
    → HasDrawn (change value) v n w → HasChosen w m x → IsPutting slots at n value x
is_putting slots at value n m v w x h d c =
    let a : Attempt = attempt_of v d.number (change value) in
    let stage : w.seat.stage ≡ Trying (length d.all) = ap (λ (y : View). y.seat.stage) d.is in
    let index : c.index ≡ length d.all = trying_is c.index (length d.all) w.seat.stage c.stage stage in
    let found : slice_get w.history (length d.all) ≡ Some a =
    ap (λ (y : View). slice_get y.history (length d.all)) d.is ∙ at_push_new d.all a in
    let s : Seat = record w.seat { put = []; stage = decided_stage w.seat.stage } in
    let locks : w.seat.locks ≡ v.seat.locks = ap (λ (y : View). y.seat.locks) d.is in
    let settles : settled s ≡ s = settled_open s first_key (locks ∙ h.has.locks) in
    let drawn : Same v w = subst (Same v) (sym d.is) record {
      pages = record {
        layout = refl;
        grip = refl;
        ways = refl;
        known = refl;
        moved = refl;
        branches = refl;
        drafts = refl;
        copies = refl;
        blanks = refl;
        leaves = refl;
        inners = refl;
        heads = refl;
      };
      role = refl;
    } in
    let chosen : Same w x = subst (Same w) (sym c.is) record {
      pages = record {
        layout = refl;
        grip = refl;
        ways = refl;
        known = refl;
        moved = refl;
        branches = refl;
        drafts = refl;
        copies = refl;
        blanks = refl;
        leaves = refl;
        inners = refl;
        heads = refl;
      };
      role = refl;
    } in
    let held : HasLock at w = lock_stays at v w drawn locks (ap (λ (y : View). y.took) d.is) h.has in record {
      within = within_stays slots w x chosen (within_stays slots v w drawn h.within);
      has = lock_stays at w x chosen (ap (λ (y : View). y.seat.locks) c.is ∙ ap (λ (q : Seat). q.locks) settles)
          (ap (λ (y : View). y.took) c.is) held;
      due = ap (λ (y : View). y.due) c.is ∙ ap (λ (y : View). y.due) d.is;
      kept = ap (λ (y : View). y.seat.kept) c.is
          ∙ (ap (λ (q : Seat). q.kept) settles ∙ (ap (λ (y : View). y.seat.kept) d.is ∙ h.kept));
      index = length d.all;
      attempt = a;
      stage = ap (λ (y : View). y.seat.stage) c.is ∙ (ap (λ (q : Seat). q.stage) settles ∙ ap decided_stage stage);
      at_index = ap (λ (y : View). slice_get y.history (length d.all)) c.is
          ∙ at_front w.history c.history (length d.all) a c.drawn found;
      writes = refl;
      number = sym d.found;
    }

-- the lock stands where the call says
lock_there : (at : ℕ) (x : Spot) (v : View) (h : HasLock at v) → x ≡ spot_at v.layout.slots at
    → Contains v.took (took_at first_key x h.word)
lock_there at x v h spot =
    subst (λ (l : List Took). Contains l (took_at first_key x h.word))
    (sym (h.took ∙ ap (λ (s : Spot). took_at first_key s h.word ∷ []) (sym spot)))
    (in_head (took_at first_key x h.word) [])

pub can_put : (slots : List ℕ) (at n value : ℕ) (x : Spot) (v : View) → IsPutting slots at n value v
    → x ≡ spot_at v.layout.slots at → CanPut v first_key x value
can_put slots at n value x v p spot = record {
  found = p.has.word;
  took = lock_there at x v p.has spot;
  index = p.index;
  attempt = p.attempt;
  stage = p.stage;
  at = p.at_index;
  locked = rw p.has.locks refl;
  value = Some value;
  writes = rw p.writes refl;
  is = refl;
}

pub has_put : (slots : List ℕ) (at n value word : ℕ) (v w : View) → IsPutting slots at n value v
    → w ≡ put_at first_key word value v → HasPut slots at n w
has_put slots at n value word v w p is =
    let same : Same v w = subst (Same v) (sym is) record {
      pages = record {
        layout = refl;
        grip = refl;
        ways = refl;
        known = refl;
        moved = refl;
        branches = refl;
        drafts = refl;
        copies = refl;
        blanks = refl;
        leaves = refl;
        inners = refl;
        heads = refl;
      };
      role = refl;
    } in
    let locks : w.seat.locks ≡ v.seat.locks = ap (λ (y : View). y.seat.locks) is in
    let has : HasLock at w = lock_stays at v w same locks (ap (λ (y : View). y.took) is) p.has in record {
      within = within_stays slots v w same p.within;
      has = has;
      due = ap (λ (y : View). y.due) is ∙ p.due;
      kept = ap (λ (y : View). y.seat.kept) is ∙ p.kept;
      can = record {
        found = has.word;
        took = lock_there at (spot_at w.layout.slots at) w has refl;
        index = p.index;
        attempt = p.attempt;
        stage = ap (λ (y : View). y.seat.stage) is ∙ p.stage;
        at = ap (λ (y : View). slice_get y.history p.index) is ∙ p.at_index;
        locked = rw has.locks refl;
        put = ap (λ (y : View). has_key y.seat.put first_key) is
            ∙ any_push_new (λ (q : Key). same_key q first_key) v.seat.put first_key refl;
        value = Some value;
        writes = rw p.writes refl;
        number =
            let number = p.number in
            let none = array_absence w.layout.decls first_key (Some value) (key_array (ground w) first_key at has.place) in
            omega (arith, number, none);
      };
    }

-- ---- the opening

pub can_open : (slots : List ℕ) (at n : ℕ) (x : Spot) (v : View) → HasPut slots at n v → x ≡ spot_at v.layout.slots at
    → CanOpenAnew v first_key x n
can_open slots at n x v p spot = subst (λ (s : Spot). CanOpenAnew v first_key s n) (sym spot) p.can

-- with its only lock open an attempt that counts is over
rests_open : (s : Seat) (i : ℕ) → s.locks ≡ [] → s.stage ≡ Decided i → IsResting (settled s)
rests_open s i none stage =
    let is : settled s ≡ record s { kept = []; put = []; stage = Idle } = rw (none, stage) refl in record {
      kept = ap (λ (q : Seat). q.kept) is;
      locks = ap (λ (q : Seat). q.locks) is ∙ none;
      stage = ap (λ (q : Seat). q.stage) is;
    }

pub opens : (slots : List ℕ) (at n word : ℕ) (v w : View) → HasPut slots at n v → w ≡ opened first_key word n v
    → IsPublished slots w
opens slots at n word v w p is =
    let same : Same v w = subst (Same v) (sym is) record {
      pages = record {
        layout = refl;
        grip = refl;
        ways = refl;
        known = refl;
        moved = refl;
        branches = refl;
        drafts = refl;
        copies = refl;
        blanks = refl;
        leaves = refl;
        inners = refl;
        heads = refl;
      };
      role = refl;
    } in
    let s : Seat = record v.seat {
      locks = filter (λ q. not (same_key q first_key)) v.seat.locks;
    } in record {
      within = within_stays slots v w same p.within;
      due = ap (λ (y : View). y.due) is ∙ p.due;
      took = ap (λ (y : View). y.took) is
          ∙ ap (λ (l : List Took). not_at first_key l) p.has.took;
      rests = subst (λ (y : View). IsResting y.seat) (sym is)
          (rests_open s p.can.index (ap (λ (l : List Key). filter
          (λ q. not (same_key q first_key)) l) p.has.locks) p.can.stage);
    }
