-- Pointers of an interior page are shut and opened, one after another.
use Rattle.std.proofs.Common.{◌≡◌, ◌≢◌, ℕ, ◌+◌, ◌-◌, ◌<◌, ◌≤◌, eqb, eq-eqb, ne_eqb, List, []}
use Rattle.std.proofs.Common.{◌∷◌, ◌++◌, length, get_or, refl, sym, ap, ◌∙◌, subst, arith, Some}
use Rattle.std.specs.Prelude.{MatchBool}
use Rattle.std.specs.List.{Contains}
use Rattle.lists.specs.Elements.{in_head, in_tail}
use Rattle.homes.specs.declared.places.At.{At}
use Rattle.homes.specs.declared.places.Span.{Span}
use Rattle.snapshot_store.specs.Places.{page as page_words}
use Rattle.drop_core.specs.Table.{at_index}
use Rattle.engine_pages.specs.declared.view.KeptPage.{KeptPage}
use Rattle.engine_pages.specs.declared.view.KeptWhy.{KeptWhy}
use Rattle.engine_pages.specs.declared.view.Lead.{Lead}
use Rattle.engine_pages.specs.declared.view.View.{View}
use Rattle.engine_pages.specs.Layout.{page_at}
use Rattle.engine_pages.specs.Pages.{child_span, is_array}
use Rattle.engine_pages.specs.Pointers.{IsArrayPointerAt, any_pointer}
use Rattle.engine_pages.specs.Steps.{glance, read_at}
use Rattle.pointer_swings.specs.Children.{CanDescend, HasDescended}
use Rattle.pointer_swings.specs.Shuts.{CanReopen, CanShut, HasShut, reopened, shut_at, shut_elsewhere, shut_of}
use Rattle.page_drops.specs.declared.noting.Kept.{Kept}
use Rattle.page_drops.specs.Inner.{AtInner, HasChild, HasTurned, IsInnerCause, KeepsInner, WentOn, shut_row}
use Rattle.page_drops.specs.Works.{HasKept, HasSeenLast, IsNoted, last_step, note_of, noted}
use Rattle.page_drops.proofs.ShutRows.{shut_there, shuts_less, shuts_more}

-- ---- work goes on

-- a view with the changed parts of another
abbrev pub as_shut : View → View → View
as_shut z w = record z {
  steps = w.steps;
  last = w.last;
  reads = w.reads;
  leads = w.leads;
  shuts = w.shuts;
  kept = w.kept;
}

pub went_self : (v : View) → WentOn v v
went_self v = record { shut = refl; later = omega arith; leads = λ z has. has }

pub went_then : (u v w : View) → WentOn u v → WentOn v w → WentOn u w
went_then u v w a b =
    let one = a.later in
    let two = b.later in record {
      shut = b.shut ∙ ap (λ (z : View). as_shut z w) a.shut;
      later = omega arith;
      leads = λ z has. b.leads z (a.leads z has);
    }

pub turned_self : (v : View) → HasTurned v v
turned_self v = record { went = went_self v; kept = refl }

pub turned_then : (u v w : View) → HasTurned u v → HasTurned v w → HasTurned u w
turned_then u v w a b = record { went = went_then u v w a.went b.went; kept = b.kept ∙ a.kept }

-- what is asked stays so
pub inner_went : (t page : ℕ) (sp : Span) (v w : View) → WentOn v w → AtInner t sp page v → AtInner t sp page w
inner_went t page sp v w went h = record {
  keeper = ap (λ (z : View). z.role) went.shut ∙ h.keeper;
  idle = ap (λ (z : View). z.seat.stage) went.shut ∙ h.idle;
  way = subst (λ (z : View). Contains z.ways (record { slot = t; span = sp })) (sym went.shut) h.way;
  slot = subst (λ (z : View). t < z.layout.slots) (sym went.shut) h.slot;
  array = ap (λ (z : View). is_array z.layout.decls sp.storage) went.shut ∙ h.array;
  inner = h.inner;
  height = h.height;
  exact = h.exact;
  high = h.high;
  there = subst (λ (z : View). page ≤ length z.pages) (sym went.shut) h.there;
  room = subst (λ (z : View). page ≤ z.layout.resident) (sym went.shut) h.room;
  lead = λ some. let x = h.lead some in (x.0, went.leads x.0 x.1, x.2, x.3);
  took = ap (λ (z : View). z.took) went.shut ∙ h.took;
  heads = ap (λ (z : View). z.heads) went.shut ∙ h.heads;
}

-- the snapshot page's words stay the same
pub words_went : (page : ℕ) (v w : View) → WentOn v w → page_words w.pages page ≡ page_words v.pages page
words_went page v w went = ap (λ (z : View). page_words z.pages page) went.shut

-- ---- a child

pub can_descend : (t page j : ℕ) (sp : Span) (v : View) → AtInner t sp page v → 0 < page → j < 64 → CanDescend v sp page j
can_descend t page j sp v h some few = record {
  array = h.array;
  inner = h.inner;
  some = some;
  known = h.there;
  room = h.room;
  lead = h.lead some;
  index = few;
}

-- there is none where there is no page
pub no_child : (sp : Span) (page j : ℕ) (v : View) → page ≡ 0 → HasChild sp page j v 0 v
no_child sp page j v none = record {
  went = went_self v;
  reads = refl;
  shuts = refl;
  kept = refl;
  is = ap (λ (n : ℕ). get_or (page_words v.pages n) j 0) (sym none);
  small = omega arith;
  there = omega arith;
  known = omega arith;
  lead = λ some. absurd (omega (arith, some));
}

pub child_then : (sp : Span) (page j n : ℕ) (v w : View) → page ≤ length v.pages → HasDescended sp page j v n w
    → HasChild sp page j v n w
child_then sp page j n v w most h =
    let less = h.below in
    let found : Lead = record { span = child_span sp j; page = n; name = h.name } in
    subst (λ (z : View). HasChild sp page j v n z) (sym h.is) record {
      went = record { shut = refl; later = omega arith; leads = λ z has. in_tail z found v.leads has };
      reads = refl;
      shuts = refl;
      kept = refl;
      is = h.says;
      small = h.small;
      there = h.few;
      known = omega (arith, less, most);
      lead = λ some. (found, in_head found v.leads, refl, refl);
    }

-- ---- a pointer is shut

-- the pointer of a page that the pass holds
pub pointer_there : (t page j at : ℕ) (sp : Span) (v : View) → AtInner t sp page v → j < 64 → at ≡ page_at v.layout.slots t j
    → IsArrayPointerAt v (at_index t j) (child_span sp j) at
pointer_there t page j at sp v h few word = record {
  way = record { slot = t; span = sp };
  has = h.way;
  slot = refl;
  kind = h.array;
  inner = h.inner;
  index = few;
  span = refl;
  word = word;
}

pub can_shut : (t page j at n : ℕ) (sp : Span) (v : View) → AtInner t sp page v → j < 64 → at ≡ page_at v.layout.slots t j
    → n ≤ 65536 → CanShut v (at_index t j) (child_span sp j) at n
can_shut t page j at n sp v h few word small =
    record {
      keeper = h.keeper;
      place = any_pointer v (at_index t j) (child_span sp j) at (pointer_there t page j at sp v h few word);
      free = omega (arith, small);
    }

-- it was shut
pub shut_now : (x : At) (at n found : ℕ) (u w : View) → found ≡ n → HasShut x at n u found w → w ≡ shut_at x at found u
shut_now x at n found u w same h =
    subst (λ c. MatchBool c (w ≡ shut_at x at found u) (w ≡ read_at at found u)) (eq-eqb found n same) h

pub shut_turned : (x : At) (at found : ℕ) (u w : View) → w ≡ shut_at x at found u → HasTurned u w
shut_turned x at found u w is =
    subst (λ (z : View). HasTurned u z) (sym is) record {
      went = record { shut = refl; later = omega arith; leads = λ z has. has };
      kept = refl;
    }

pub shut_row_now : (t j at n found : ℕ) (words : List ℕ) (u w : View) → w ≡ shut_at (at_index t j) at found u → found ≡ n
    → n ≡ get_or words j 0 → u.shuts ≡ shut_row t words j → w.shuts ≡ shut_row t words (j + 1)
shut_row_now t j at n found words u w is same word row =
    ap (λ (z : View). z.shuts) is
    ∙ (ap (λ k. shut_of (at_index t j) k ∷ u.shuts) (same ∙ word)
    ∙ (ap (λ list. shut_of (at_index t j) (get_or words j 0) ∷ list) row ∙ shuts_more t words j))

-- it was not
pub not_shut : (x : At) (at n found : ℕ) (u w : View) → found ≢ n → HasShut x at n u found w → w ≡ read_at at found u
not_shut x at n found u w other h =
    subst (λ c. MatchBool c (w ≡ shut_at x at found u) (w ≡ read_at at found u)) (ne_eqb found n other) h

-- another word was seen just now
pub record JustFound (v u : View) (word seen : ℕ) : Type 0 where
  pub turned : HasTurned v u
  pub shuts : u.shuts ≡ v.shuts
  pub step : ℕ
  pub last : u.last ≡ Some (glance step word seen)
  pub since : v.steps ≤ step
  pub before : step < u.steps

pub found_other : (x : At) (at n found : ℕ) (v u w : View) → HasTurned v u → u.shuts ≡ v.shuts → found ≢ n
    → HasShut x at n u found w → JustFound v w at found
found_other x at n found v u w turned same other h =
    let low = turned.went.later in
    subst (λ (z : View). JustFound v z at found) (sym (not_shut x at n found u w other h)) record {
      turned = turned_then v u (read_at at found u) turned
          record { went = record { shut = refl; later = omega arith; leads = λ z has. has }; kept = refl };
      shuts = same;
      step = u.steps;
      last = refl;
      since = low;
      before = omega arith;
    }

pub last_found : (v u : View) (word seen : ℕ) (why : KeptWhy) → JustFound v u word seen
    → HasSeenLast u (record { word = word; seen = seen; why = why })
last_found v u word seen why saw = (saw.step, saw.last)

-- the page is kept for it, and nothing more was shut
pub record KeptFor (cause : KeptWhy → ℕ → ℕ → Type 0) (k : Kept) (v w : View) : Type 0 where
  pub went : WentOn v w
  pub shuts : w.shuts ≡ v.shuts
  pub kept : HasKept cause k v w

pub kept_for : (cause : KeptWhy → ℕ → ℕ → Type 0) (word seen : ℕ) (why : KeptWhy) (v u w : View) (k : Kept)
    → k ≡ record { word = word; seen = seen; why = why } → JustFound v u word seen → IsNoted k u w → cause why word seen
    → KeptFor cause k v w
kept_for cause word seen why v u w k is saw told so =
    let low = saw.since in
    let high = saw.before in
    let at-step : last_step u.last ≡ saw.step = ap last_step saw.last in
    subst (λ (z : View). KeptFor cause k v z) (sym told.1) record {
      went = went_then v u (noted (note_of u k) told.0 u) saw.turned.went
          record { shut = refl; later = omega arith; leads = λ z has. has };
      shuts = saw.shuts;
      kept = record {
        page = note_of u k;
        is = ap (λ (list : List KeptPage). list ++ note_of u k ∷ []) saw.turned.kept;
        told = refl;
        since = omega arith;
        before = omega arith;
        cause-is = subst (λ (z : Kept). cause z.why z.word z.seen) (sym is) so;
      };
    }

pub keeps_inner : (t page word seen : ℕ) (why : KeptWhy) (v u w : View) (k : Kept)
    → k ≡ record { word = word; seen = seen; why = why } → JustFound v u word seen → IsNoted k u w
    → IsInnerCause v.layout.slots t (page_words v.pages page) why word seen → KeepsInner t page k v w
keeps_inner t page word seen why v u w k is saw told so =
    let h = kept_for (IsInnerCause v.layout.slots t (page_words v.pages page)) word seen why v u w k is saw told so in
    record { went = h.went; shuts = h.shuts; kept = h.kept }

-- ---- a pointer is opened

pub can_reopen : (t page j at n : ℕ) (sp : Span) (v : View) → AtInner t sp page v → j < 64 → at ≡ page_at v.layout.slots t j
    → v.shuts ≡ shut_row t (page_words v.pages page) (j + 1) → n ≡ get_or (page_words v.pages page) j 0
    → CanReopen v (at_index t j) (child_span sp j) at n
can_reopen t page j at n sp v h few word row is = record {
  keeper = h.keeper;
  place = any_pointer v (at_index t j) (child_span sp j) at (pointer_there t page j at sp v h few word);
  shut =
      subst (λ k. Contains v.shuts (shut_of (at_index t j) k)) (sym is)
      (subst (λ list. Contains list (shut_of (at_index t j) (get_or (page_words v.pages page) j 0))) (sym row)
      (shut_there t (page_words v.pages page) (j + 1) j (omega arith)));
}

pub open_turned : (x : At) (at n : ℕ) (u w : View) → w ≡ reopened x at n u → HasTurned u w
open_turned x at n u w is =
    subst (λ (z : View). HasTurned u z) (sym is) record {
      went = record { shut = refl; later = omega arith; leads = λ z has. has };
      kept = refl;
    }

pub open_row_now : (t j at n : ℕ) (words : List ℕ) (u w : View) → w ≡ reopened (at_index t j) at n u
    → u.shuts ≡ shut_row t words (j + 1) → w.shuts ≡ shut_row t words j
open_row_now t j at n words u w is row =
    ap (λ (z : View). z.shuts) is ∙ (ap (λ list. shut_elsewhere (at_index t j) list) row ∙ shuts_less t words j)
