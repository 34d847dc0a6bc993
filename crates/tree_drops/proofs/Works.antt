-- Work on a page of a tree, step by step.
use Rattle.std.proofs.Common.{◌≡◌, inl, inr, ℕ, zero, suc, ◌+◌, ◌≤◌, Bool, cond, eqb, ne_eqb, not, List, []}
use Rattle.std.proofs.Common.{◌∷◌, ◌++◌, filter, length, refl, sym, ap, ◌∙◌, subst, arith, None}
use Rattle.lists.specs.Elements.{in_push_cases, in_push_old}
use Rattle.serial_model.specs.declared.key.Key.{Key}
use Rattle.homes.specs.declared.places.Span.{Span}
use Rattle.homes.specs.declared.places.Spot.{Spot}
use Rattle.homes.specs.Homes.{same_key}
use Rattle.commit_core.specs.declared.seat.Seat.{Seat}
use Rattle.commit_core.specs.declared.seat.Stage.TheVariants.{Idle}
use Rattle.commit_core.specs.CoreState.{settled, settled_at}
use Rattle.engine_pages.specs.declared.view.KeptWhy.{KeptWhy}
use Rattle.engine_pages.specs.declared.view.Role.TheVariants.{Keeper}
use Rattle.engine_pages.specs.declared.view.Touch.{Touch}
use Rattle.engine_pages.specs.declared.view.View.{View}
use Rattle.engine_pages.specs.Steps.{read_at, with_read}
use Rattle.engine_pages.specs.Touches.{touch}
use Rattle.engine_pages.specs.Views.{seat_number}
use Rattle.page_records.specs.Locks.{locked, not_at, opened}
use Rattle.tree_records.specs.Held.{LoadedHeld, version_of}
use Rattle.tree_heads.specs.Headers.{HasWord}
use Rattle.page_drops.specs.declared.noting.Kept.{Kept}
use Rattle.page_drops.specs.Works.{HasGlanced, HasKept, HasSeenLast, IsNoted, last_step, note_of}
use Rattle.tree_drops.specs.Leaves.{AtTree, IsKeyOf, KnowsKeys}
use Rattle.tree_drops.specs.Works.{JustSaw, KeepsIt, LooksOn, OnlyLooks, Worked, WorksOn}

-- ---- work goes on

-- a view with the changed parts of another
abbrev pub as_worked : View → View → View
as_worked z w = record z {
  steps = w.steps;
  last = w.last;
  reads = w.reads;
  seat = record z.seat { locks = w.seat.locks };
  took = w.took;
  touched = w.touched;
  loaded = w.loaded;
  known = w.known;
  heads = w.heads;
  versions = w.versions;
  kept = w.kept;
}

pub worked_then : (u v w : View) → Worked u v → Worked v w → Worked u w
worked_then u v w a b = b ∙ ap (λ (z : View). as_worked z w) a

pub works_self : (v : View) → WorksOn v v
works_self v =
    record { worked = refl; later = omega arith; known = λ x has. has; versions = λ x has. has; touched = λ z has. inl has }

pub works_then : (u v w : View) → WorksOn u v → WorksOn v w → WorksOn u w
works_then u v w a b =
    let one = a.later in
    let two = b.later in record {
      worked = worked_then u v w a.worked b.worked;
      later = omega (arith, one, two);
      known = λ x has. b.known x (a.known x has);
      versions = λ x has. b.versions x (a.versions x has);
      touched = λ z has. elim (b.touched z has) [ inl old ↦ a.touched z old | inr own ↦ inr own ];
    }

pub looks_self : (v : View) → LooksOn v v
looks_self v = record { works = works_self v; locks = refl; took = refl; heads = refl }

pub looks_then : (u v w : View) → LooksOn u v → LooksOn v w → LooksOn u w
looks_then u v w a b = record {
  works = works_then u v w a.works b.works;
  locks = b.locks ∙ a.locks;
  took = b.took ∙ a.took;
  heads = b.heads ∙ a.heads;
}

pub only_self : (v : View) → OnlyLooks v v
only_self v = record { looks = looks_self v; kept = refl }

pub only_then : (u v w : View) → OnlyLooks u v → OnlyLooks v w → OnlyLooks u w
only_then u v w a b = record { looks = looks_then u v w a.looks b.looks; kept = b.kept ∙ a.kept }

pub layout_worked : (v w : View) → WorksOn v w → w.layout ≡ v.layout
layout_worked v w h = ap (λ (z : View). z.layout) h.worked

pub pages_worked : (v w : View) → WorksOn v w → w.pages ≡ v.pages
pages_worked v w h = ap (λ (z : View). z.pages) h.worked

pub past_worked : (v w : View) → WorksOn v w → w.past ≡ v.past
past_worked v w h = ap (λ (z : View). z.past) h.worked

-- ---- steps that look

pub only_glanced : (v w : View) → HasGlanced v w → OnlyLooks v w
only_glanced v w h =
    subst (λ (z : View). OnlyLooks v z) (sym h.is) record {
      looks = record {
        works = record { worked = refl; later = h.later; known = λ x has. has; versions = λ x has. has; touched = λ z has. inl has };
        locks = refl;
        took = refl;
        heads = refl;
      };
      kept = refl;
    }

pub only_read : (at n : ℕ) (v w : View) → w ≡ read_at at n v → OnlyLooks v w
only_read at n v w is =
    subst (λ (z : View). OnlyLooks v z) (sym is) record {
      looks = record {
        works = record {
          worked = refl;
          later = omega arith;
          known = λ x has. has;
          versions = λ x has. has;
          touched = λ z has. inl has;
        };
        locks = refl;
        took = refl;
        heads = refl;
      };
      kept = refl;
    }

pub word_glanced : (t i at n : ℕ) (v w : View) → HasWord t i at v n w → HasGlanced v w
word_glanced t i at n v w h = subst (λ (z : View). HasGlanced v z) (sym h.is) record { is = refl; later = omega arith }

pub only_held : (k : Key) (at found n : ℕ) (v w : View) → LoadedHeld k at found v n w → OnlyLooks v w
only_held k at found n v w h =
    subst (λ (z : View). OnlyLooks v z) (sym h.is) record {
      looks = record {
        works = record {
          worked = refl;
          later = omega arith;
          known = λ x has. has;
          versions = λ x has. in_push_old x (version_of k h.number n) v.versions has;
          touched = λ z has. inl has;
        };
        locks = refl;
        took = refl;
        heads = refl;
      };
      kept = refl;
    }

-- ---- the word that was seen last

pub saw_read : (at n : ℕ) (v u w : View) → OnlyLooks v u → w ≡ read_at at n u → JustSaw v w at n
saw_read at n v u w only is =
    let low = only.looks.works.later in record {
      only = only_then v u w only (only_read at n u w is);
      step = u.steps;
      last = ap (λ (z : View). z.last) is;
      since = low;
      before = let up : w.steps ≡ u.steps + 1 = ap (λ (z : View). z.steps) is in omega (arith, up);
    }

pub saw_word : (t i at n : ℕ) (v u w : View) → OnlyLooks v u → HasWord t i at u n w → JustSaw v w at n
saw_word t i at n v u w only h =
    let low = only.looks.works.later in record {
      only = only_then v u w only (only_glanced u w (word_glanced t i at n u w h));
      step = u.steps;
      last = ap (λ (z : View). z.last) h.is;
      since = low;
      before = let up : w.steps ≡ u.steps + 1 = ap (λ (z : View). z.steps) h.is in omega (arith, up);
    }

pub saw_held : (k : Key) (at found n : ℕ) (v u w : View) → OnlyLooks v u → LoadedHeld k at found u n w → JustSaw v w at n
saw_held k at found n v u w only h =
    let low = only.looks.works.later in record {
      only = only_then v u w only (only_held k at found n u w h);
      step = u.steps;
      last = ap (λ (z : View). z.last) h.is;
      since = low;
      before = let up : w.steps ≡ u.steps + 1 = ap (λ (z : View). z.steps) h.is in omega (arith, up);
    }

pub last_seen : (v u : View) (word seen : ℕ) (why : KeptWhy) → JustSaw v u word seen
    → HasSeenLast u (record { word = word; seen = seen; why = why })
last_seen v u word seen why saw = (saw.step, saw.last)

-- ---- a page that is kept

noted_looks : (k : Kept) (u w : View) → IsNoted k u w → LooksOn u w
noted_looks k u w told =
    subst (λ (z : View). LooksOn u z) (sym told.1) record {
      works = record {
        worked = refl;
        later = omega arith;
        known = λ x has. has;
        versions = λ x has. has;
        touched = λ z has. inl has;
      };
      locks = refl;
      took = refl;
      heads = refl;
    }

-- for the word that was seen last
pub keeps_it : (cause : KeptWhy → ℕ → ℕ → Type 0) (v u w : View) (word seen : ℕ) (why : KeptWhy) (k : Kept)
    → k ≡ record { word = word; seen = seen; why = why } → JustSaw v u word seen → IsNoted k u w → cause why word seen
    → KeepsIt cause k v w
keeps_it cause v u w word seen why k is saw told so =
    let at-step : last_step u.last ≡ saw.step = ap last_step saw.last in
    let low = saw.since in
    let high = saw.before in record {
      looks = looks_then v u w saw.only.looks (noted_looks k u w told);
      kept = subst (λ (z : View). HasKept cause k v z) (sym told.1) record {
        page = note_of u k;
        is = ap (λ list. list ++ note_of u k ∷ []) saw.only.kept;
        told = refl;
        since = omega (arith, at-step, low);
        before = omega (arith, at-step, high);
        cause-is = subst (λ (z : Kept). cause z.why z.word z.seen) (sym is) so;
      };
    }

-- behind work that noted nothing, for a cause that is one of the earlier view, too
pub keeps_then : (cause other : KeptWhy → ℕ → ℕ → Type 0) (k : Kept) (v u w : View) → OnlyLooks v u
    → (cause k.why k.word k.seen → other k.why k.word k.seen) → KeepsIt cause k u w → KeepsIt other k v w
keeps_then cause other k v u w only so h =
    let low = only.looks.works.later in
    let since = h.kept.since in record {
      looks = looks_then v u w only.looks h.looks;
      kept = record {
        page = h.kept.page;
        is = h.kept.is ∙ ap (λ list. list ++ h.kept.page ∷ []) only.kept;
        told = h.kept.told;
        since = omega (arith, low, since);
        before = h.kept.before;
        cause-is = so h.kept.cause-is;
      };
    }

-- ---- what is asked stays so

pub tree_worked : (t page : ℕ) (sp : Span) (v w : View) → WorksOn v w → AtTree t sp page v → AtTree t sp page w
tree_worked t page sp v w h at =
    subst (λ (z : View). AtTree t sp page z) (sym h.worked) record {
      keeper = at.keeper;
      idle = at.idle;
      over = record { way = at.over.way; tree = at.over.tree };
      slot = at.slot;
      there = at.there;
      room = at.room;
    }

abbrev pub keys_worked : (t count : ℕ) (sp : Span) (v w : View) → WorksOn v w → KnowsKeys t sp count v → KnowsKeys t sp count w
keys_worked t count sp v w h x = record { leaf = x.leaf; has = h.known x.leaf x.has; slot = x.slot; are = x.are }

pub key_worked : (t i : ℕ) (sp : Span) (k : Key) (v w : View) → WorksOn v w → IsKeyOf t sp i k v → IsKeyOf t sp i k w
key_worked t i sp k v w h x =
    record { leaf = x.leaf; has = h.known x.leaf x.has; slot = x.slot; at = x.at; storage = x.storage }

-- ---- a record is locked

pub works_locked : (k : Key) (x : Spot) (at n : ℕ) (v w : View) → v.role ≡ Keeper → w ≡ locked k x at n v → WorksOn v w
works_locked k x at n v w keeper is =
    subst (λ (z : View). WorksOn v z) (sym is) record {
      worked = refl;
      later = omega arith;
      known = λ x has. has;
      versions = λ x has. has;
      touched = λ z has.
          elim (in_push_cases z (touch (seat_number v.role) k) v.touched has) [
            | inl old ↦ inl old
            | inr own ↦ inr (sym (ap (λ (y : Touch). y.seat) own) ∙ ap seat_number keeper)
          ];
    }

-- ---- and opened

-- the seat without a lock, while it has no attempt
idle_open : (s : Seat) (locks : List Key) → s.stage ≡ Idle → settled (record s { locks = locks }) ≡ record s { locks = locks }
idle_open s locks idle = by_count (length locks) refl
  where
    by_stage : settled_at s.stage (record s { locks = locks }) ≡ record s { locks = locks }
    by_stage = ap (λ g. settled_at g (record s { locks = locks })) idle

    by_count : (n : ℕ) → length locks ≡ n → settled (record s { locks = locks }) ≡ record s { locks = locks }
    by_count zero none =
        ap (λ k. let z : Seat = cond (eqb k 0) (settled_at s.stage (record s { locks = locks })) (record s { locks = locks }) in z) none ∙ by_stage
    by_count (suc n) some =
        ap (λ k. let z : Seat = cond (eqb k 0) (settled_at s.stage (record s { locks = locks })) (record s { locks = locks }) in z) some
        ∙ ap (λ (c : Bool). let z : Seat = cond c (settled_at s.stage (record s { locks = locks })) (record s { locks = locks }) in z)
        (ne_eqb (suc n) 0 (λ e. absurd (omega (arith, e))))

-- the view behind it
abbrev pub reopened : Key → ℕ → ℕ → View → View
reopened k at n v = record v {
  reads = with_read v.reads at n;
  seat = record v.seat { locks = filter (λ q. not (same_key q k)) v.seat.locks };
  took = not_at k v.took;
  steps = v.steps + 1;
  loaded = None;
}

pub opened_is : (k : Key) (at n : ℕ) (v w : View) → v.seat.stage ≡ Idle → w ≡ opened k at n v → w ≡ reopened k at n v
opened_is k at n v w idle is =
    is
    ∙ ap (λ (s : Seat). let z : View = record v { reads = with_read v.reads at n; seat = s; took = not_at k v.took; steps = v.steps + 1; loaded = None } in z)
    (idle_open v.seat (filter (λ q. not (same_key q k)) v.seat.locks) idle)

pub works_opened : (k : Key) (at n : ℕ) (v w : View) → w ≡ reopened k at n v → WorksOn v w
works_opened k at n v w is =
    subst (λ (z : View). WorksOn v z) (sym is) record {
      worked = refl;
      later = omega arith;
      known = λ x has. has;
      versions = λ x has. has;
      touched = λ z has. inl has;
    }

-- ---- a pass that only looked

pub glanced_keeper : (v w : View) → HasGlanced v w → v.role ≡ Keeper → w.role ≡ Keeper
glanced_keeper v w h keeper = ap (λ (z : View). z.role) h.is ∙ keeper

pub glanced_there : (page : ℕ) (v w : View) → HasGlanced v w → page ≤ length v.pages → page ≤ length w.pages
glanced_there page v w h there = subst (λ (z : View). page ≤ length z.pages) (sym h.is) there

pub glanced_room : (page : ℕ) (v w : View) → HasGlanced v w → page ≤ v.layout.resident → page ≤ w.layout.resident
glanced_room page v w h room = subst (λ (z : View). page ≤ z.layout.resident) (sym h.is) room
