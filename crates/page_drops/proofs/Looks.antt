-- What loads and notes leave of a pass.
use Rattle.std.proofs.Common.{◌≡◌, ℕ, ◌+◌, ◌<◌, ◌≤◌, [], ◌∷◌, ◌++◌}
use Rattle.std.proofs.Common.{refl, sym, ap, ◌∙◌, subst, arith, Some}
use Rattle.serial_model.specs.declared.key.Key.{Key}
use Rattle.homes.specs.declared.places.Span.{Span}
use Rattle.homes.specs.declared.places.Spot.{Spot}
use Rattle.engine_pages.specs.declared.view.KeptWhy.{KeptWhy}
use Rattle.engine_pages.specs.declared.view.View.{View}
use Rattle.engine_pages.specs.Loads.{HasLoaded}
use Rattle.engine_pages.specs.Records.{IsRecordAt}
use Rattle.engine_pages.specs.Steps.{glance}
use Rattle.page_drops.specs.declared.noting.Kept.{Kept}
use Rattle.page_drops.specs.Leaves.{AtLeaf}
use Rattle.page_drops.specs.Works.{HasGlanced, HasSeenLast, IsNoted, KeepsIt, OnlyLooked, WorkedOn}
use Rattle.page_drops.specs.Works.{last_step, note_of, noted}

-- ---- work goes on

-- a view with the changed parts of another
abbrev pub as_worked : View → View → View
as_worked z w = record z {
  steps = w.steps;
  last = w.last;
  reads = w.reads;
  history = w.history;
  decided = w.decided;
  seat = record z.seat { kept = w.seat.kept; locks = w.seat.locks };
  took = w.took;
  touched = w.touched;
  loaded = w.loaded;
  kept = w.kept;
}

pub worked_then : (u v w : View) → WorkedOn u v → WorkedOn v w → WorkedOn u w
worked_then u v w a b = b ∙ ap (λ (z : View). as_worked z w) a

pub looked_then : (u v w : View) → OnlyLooked u v → OnlyLooked v w → OnlyLooked u w
looked_then u v w a b =
    let one = a.later in
    let two = b.later in record {
      worked = worked_then u v w a.worked b.worked;
      later = omega arith;
      locks = b.locks ∙ a.locks;
      took = b.took ∙ a.took;
      kept = b.kept ∙ a.kept;
    }

pub looked_self : (v : View) → OnlyLooked v v
looked_self v = record { worked = refl; later = omega arith; locks = refl; took = refl; kept = refl }

pub glanced_looked : (v w : View) → HasGlanced v w → OnlyLooked v w
glanced_looked v w h =
    subst (λ (z : View). OnlyLooked v z) (sym h.is)
    record { worked = refl; later = h.later; locks = refl; took = refl; kept = refl }

pub glanced_self : (v : View) → HasGlanced v v
glanced_self v = record { is = refl; later = omega arith }

pub loaded_glanced : (page i n : ℕ) (v w : View) → HasLoaded page i v n w → HasGlanced v w
loaded_glanced page i n v w h =
    subst (λ (z : View). HasGlanced v z) (sym h.0) record { is = refl; later = omega arith }

pub layout_worked : (v w : View) → WorkedOn v w → w.layout ≡ v.layout
layout_worked v w worked = ap (λ (z : View). z.layout) worked

-- ---- what is asked stays so

pub leaf_worked : (t page : ℕ) (sp : Span) (v w : View) → WorkedOn v w → AtLeaf t sp page v → AtLeaf t sp page w
leaf_worked t page sp v w worked h =
    subst (λ (z : View). AtLeaf t sp page z) (sym worked) record {
      keeper = h.keeper;
      idle = h.idle;
      way = h.way;
      slot = h.slot;
      array = h.array;
      leaf = h.leaf;
      low = h.low;
      there = h.there;
      room = h.room;
      heads = h.heads;
      shuts = h.shuts;
    }

pub record_worked : (k : Key) (x : Spot) (at : ℕ) (v w : View) → WorkedOn v w → IsRecordAt v k x at → IsRecordAt w k x at
record_worked k x at v w worked h =
    subst (λ (z : View). IsRecordAt z k x at) (sym worked) h

-- ---- the word that was seen last

-- it was seen since
pub record JustSaw (v u : View) (word seen : ℕ) : Type 0 where
  pub looked : OnlyLooked v u
  pub step : ℕ
  pub last : u.last ≡ Some (glance step word seen)
  pub since : v.steps ≤ step
  pub before : step < u.steps

pub last_seen : (v u : View) (word seen : ℕ) (why : KeptWhy) → JustSaw v u word seen
    → HasSeenLast u (record { word = word; seen = seen; why = why })
last_seen v u word seen why saw = (saw.step, saw.last)

-- a page that is kept for it
pub keeps_it : (cause : KeptWhy → ℕ → ℕ → Type 0) (v u w : View) (word seen : ℕ) (why : KeptWhy) (k : Kept)
    → k ≡ record { word = word; seen = seen; why = why } → JustSaw v u word seen → IsNoted k u w → cause why word seen
    → KeepsIt cause k v w
keeps_it cause v u w word seen why k is saw told so =
    subst (λ (z : View). KeepsIt cause k v z) (sym told.1) record {
      worked = worked_then v u (noted (note_of u k) told.0 u) saw.looked.worked refl;
      locks = saw.looked.locks;
      took = saw.looked.took;
      kept = record {
        page = note_of u k;
        is = ap (λ list. list ++ note_of u k ∷ []) saw.looked.kept;
        told = refl;
        since = let at-step : last_step u.last ≡ saw.step = ap last_step saw.last in let low = saw.since in omega arith;
        before = let at-step : last_step u.last ≡ saw.step = ap last_step saw.last in let low = saw.before in omega arith;
        cause-is = subst (λ (z : Kept). cause z.why z.word z.seen) (sym is) so;
      };
    }

pub glanced_then : (u v w : View) → HasGlanced u v → HasGlanced v w → HasGlanced u w
glanced_then u v w a b =
    let one = a.later in
    let two = b.later in record {
      is = b.is ∙ ap (λ (z : View). let y : View = record z { steps = w.steps; last = w.last } in y) a.is;
      later = omega arith;
    }
