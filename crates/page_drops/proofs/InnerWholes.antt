-- All pointers of an interior page, one after another; and the page is swung from, and its slot given up.
use Rattle.std.proofs.Common.{◌≡◌, ◌≢◌, inl, inr, ℕ, ◌+◌, ◌-◌, ◌<◌, ◌^◌, true, false, true≢false, List, []}
use Rattle.std.proofs.Common.{◌∷◌, ◌++◌, get_or, refl, sym, ap, ◌∙◌, subst, arith, Some}
use Rattle.std.specs.Prelude.{Err, IfErr, Ok, OnOk, Result}
use Rattle.std.specs.List.{Contains}
use Rattle.homes.specs.declared.places.At.{At}
use Rattle.homes.specs.declared.places.At.TheVariants.{Root, In}
use Rattle.homes.specs.declared.places.Span.{Span}
use Rattle.snapshot_store.specs.Places.{page as page_words}
use Rattle.drop_core.specs.Table.{at_index}
use Rattle.engine_pages.specs.declared.view.KeptPage.{KeptPage}
use Rattle.engine_pages.specs.declared.view.KeptWhy.TheVariants.{Changed}
use Rattle.engine_pages.specs.declared.view.View.{View}
use Rattle.engine_pages.specs.Pointers.{IsArrayPointerAt, any_pointer}
use Rattle.engine_pages.proofs.Seats.{by_equal}
use Rattle.pointer_swings.specs.Shuts.{shut_of}
use Rattle.pointer_swings.specs.Swings.{CanSwing}
use Rattle.page_drops.specs.declared.noting.Kept.{Kept}
use Rattle.page_drops.specs.Inner.{AreFew, CanDropInner, HasTurned, IsInnerCause, KeepsInner, KeepsInnerBelow, WentOn, shut_row}
use Rattle.engine_pages.specs.declared.view.Shut.{Shut}
use Rattle.engine_pages.specs.Slots.{other_shuts, retired}
use Rattle.engine_pages.specs.Steps.{kept_at, seen_at}
use Rattle.pointer_swings.specs.Swings.{HasSwung, swung}
use Rattle.page_drops.specs.Inner.{AreLaterNotes, AreShutNotes, HasDroppedInner, HasReopened, IsInnerCauseBelow}
use Rattle.page_drops.specs.Works.{IsNoted, IsOutside, KeepsReads, KeepsReadsBut, TellsAbove}
use Rattle.page_drops.proofs.Drops.{not_swung}
use Rattle.page_drops.proofs.Entries.{entry_of, own_entry, reads_around, reads_self, tells_changed}
use Rattle.page_drops.proofs.Inners.{JustFound, KeptFor, as_shut, inner_went, kept_for, went_then, words_went}
use Rattle.page_drops.proofs.ShutNotes.{later_all, reopened_keeps, shut_behind, tells_inner}
use Rattle.page_drops.proofs.ShutRows.{none_elsewhere, shut_there}

row_at : (t m n : ℕ) (words : List ℕ) (v : View) → m ≡ n → v.shuts ≡ shut_row t words m → v.shuts ≡ shut_row t words n
row_at t m n words v same row = row ∙ ap (λ k. shut_row t words k) same

-- the words of the view as the work began
pub row_then : (t page n : ℕ) (v u w : View) → WentOn v u → w.shuts ≡ shut_row t (page_words v.pages page) n
    → w.shuts ≡ shut_row t (page_words u.pages page) n
row_then t page n v u w went row = row ∙ ap (λ ws. shut_row t ws n) (sym (words_went page v u went))

pub row_back : (t page n : ℕ) (v u w : View) → WentOn v u → w.shuts ≡ shut_row t (page_words u.pages page) n
    → w.shuts ≡ shut_row t (page_words v.pages page) n
row_back t page n v u w went row = row ∙ ap (λ ws. shut_row t ws n) (words_went page v u went)

-- ---- all are shut

pub all_shut : (t index : ℕ) (words : List ℕ) (v : View) → index ≡ 64 → v.shuts ≡ shut_row t words index
    → v.shuts ≡ shut_row t words 64
all_shut t index words v end row = row_at t index 64 words v end row

-- a page that is kept behind pointers that are opened again
pub keeps_reopened : (t page : ℕ) (k : Kept) (v u a w : View) → HasTurned v u → KeepsInner t page k u a → HasTurned a w
    → v.shuts ≡ [] → w.shuts ≡ [] → KeepsInner t page k v w
keeps_reopened t page k v u a w first h last before now =
    let one = first.went.later in
    let two = last.went.later in
    let since = h.kept.since in
    let till = h.kept.before in record {
      went = went_then v a w (went_then v u a first.went h.went) last.went;
      shuts = now ∙ sym before;
      kept = record {
        page = h.kept.page;
        is = last.kept ∙ (h.kept.is ∙ ap (λ (list : List KeptPage). list ++ h.kept.page ∷ []) first.kept);
        told = h.kept.told;
        since = omega arith;
        before = omega arith;
        cause-is =
            subst (λ ws. IsInnerCause v.layout.slots t ws k.why k.word k.seen) (words_went page v u first.went)
            (subst (λ (z : View). IsInnerCause z.layout.slots t (page_words u.pages page) k.why k.word k.seen) first.went.shut
            h.kept.cause-is);
      };
    }

-- what is told of a refusal, and where there was none
pub err_inner : (r : Result (Unit {0}) Kept) (P : Kept → Type 0) (k : Kept) → IfErr r P → r ≡ Err k → P k
err_inner r P k h is = subst (λ (z : Result (Unit {0}) Kept). IfErr z P) is h

pub ok_inner : (r : Result (Unit {0}) Kept) (P : Type 0) → OnOk r P → ((k : Kept) → r ≡ Err k → ⊥) → P
ok_inner (Ok u) P h none = h
ok_inner (Err k) P h none = absurd (none k refl)

-- ---- opened again, from the last one

pub first_open : (t count : ℕ) (words : List ℕ) (v : View) → v.shuts ≡ shut_row t words count → v.shuts ≡ shut_row t words (count - 0)
first_open t count words v row = row_at t count (count - 0) words v (omega arith) row

-- the next one, which is now the last
pub next_open : (t count index : ℕ) (words : List ℕ) (v : View) → index < count → v.shuts ≡ shut_row t words (count - index)
    → v.shuts ≡ shut_row t words ((count - 1 - index) + 1)
next_open t count index words v less row =
    row_at t (count - index) ((count - 1 - index) + 1) words v (omega (arith, less)) row

pub behind_open : (t count index : ℕ) (words : List ℕ) (v : View) → index < count → v.shuts ≡ shut_row t words (count - 1 - index)
    → v.shuts ≡ shut_row t words (count - (index + 1))
behind_open t count index words v less row =
    row_at t (count - 1 - index) (count - (index + 1)) words v (omega (arith, less)) row

pub all_open : (t count index : ℕ) (words : List ℕ) (v : View) → index ≡ count → v.shuts ≡ shut_row t words (count - index) → v.shuts ≡ []
all_open t count index words v end row = row_at t (count - index) 0 words v (omega (arith, end)) row

-- ---- small numbers

pub none_few : (words : List ℕ) → AreFew words 0
none_few words j less = absurd (omega (arith, less))

pub next_few : (words : List ℕ) (n : ℕ) → AreFew words n → get_or words n 0 < 2 ^ 32 → AreFew words (n + 1)
next_few words n few now j less =
    by_equal j n (λ i. i < n + 1 → get_or words i 0 < 2 ^ 32) (λ _. now) (λ other low. few j (omega (arith, other, low))) less

-- ---- the swing

pub pointer_went : (v w : View) (x : At) (sp : Span) (at : ℕ) → WentOn v w → IsArrayPointerAt v x sp at → IsArrayPointerAt w x sp at
pointer_went v w (Root r) sp at went is = subst (λ (z : View). IsArrayPointerAt z (Root r) sp at) (sym went.shut) is
pointer_went v w (In y) sp at went is =
    subst (λ (z : View). IsArrayPointerAt z (In y) sp at) (sym went.shut) record {
      way = is.way;
      has = is.has;
      slot = is.slot;
      kind = is.kind;
      inner = is.inner;
      index = is.index;
      span = is.span;
      word = is.word;
    }

pub can_swing_inner : (x : At) (sp : Span) (at t page word : ℕ) (v u : View) → CanDropInner x sp at t page word v → HasTurned v u
    → u.shuts ≡ shut_row t (page_words v.pages page) 64 → AreFew (page_words v.pages page) 64 → CanSwing u x sp at t page word
can_swing_inner x sp at t page word v u can turned row few =
    let inner = inner_went t page sp v u turned.went can.inner in
    let pages = words_went page v u turned.went in record {
      keeper = inner.keeper;
      place = any_pointer u x sp at (pointer_went v u x sp at turned.went can.place);
      leads = can.leads;
      there = inner.there;
      lead = inner.lead;
      page = inl record {
        array = inner.array;
        height = inner.height;
        exact = inner.exact;
        records = λ leaf. absurd (true≢false (sym leaf ∙ inner.inner));
        pointers = λ _ j less.
            subst (λ ws. Contains u.shuts (shut_of (at_index t j) (get_or ws j 0))) (sym pages)
            (subst (λ list. Contains list (shut_of (at_index t j) (get_or (page_words v.pages page) j 0))) (sym row)
            (shut_there t (page_words v.pages page) 64 j less));
        low = λ _ j less. subst (λ ws. get_or ws j 0 < 2 ^ 32) (sym pages) (few j less);
        own = λ leaf. absurd (true≢false (sym leaf ∙ inner.inner));
        unlocked = λ _. ap (λ (z : View). z.seat.locks) turned.went.shut ∙ can.locks;
      };
    }

-- ---- behind the swing

-- the slot is given up
pub inner_dropped : (t at page found : ℕ) (v u w z : View) → HasTurned v u → w ≡ swung t at page found u → z ≡ retired t w
    → v.shuts ≡ [] → u.shuts ≡ shut_row t (page_words v.pages page) 64 → seen_at u.reads at ≡ seen_at v.reads at
    → HasDroppedInner t at page v z
inner_dropped t at page found v u w z turned swing retire free row met =
    let went = turned.went in
    let later = went.later in
    let all : z ≡ retired t (swung t at page found (as_shut v u)) =
    retire ∙ (ap (retired t) swing ∙ ap (λ y. retired t (swung t at page found y)) went.shut) in
    let none : other_shuts t u.shuts ≡ [] = ap (λ (list : List Shut). other_shuts t list) row ∙ none_elsewhere t (page_words v.pages page) 64 in
    let plain : z ≡ record (retired t (swung t at page found (record (as_shut v u) { kept = v.kept }))) { shuts = [] } =
    all ∙ (ap (λ (list : List KeptPage). let y : View = retired t (swung t at page found (record (as_shut v u) { kept = list })) in y) turned.kept
    ∙ ap (λ (list : List Shut). let y : View = record (retired t (swung t at page found (record (as_shut v u) { kept = v.kept }))) { shuts = list } in y) none) in
    subst (λ (y : View). HasDroppedInner t at page v y) (sym plain) record {
      is = refl;
      later = omega arith;
      leads = went.leads;
      led = (entry_of u.reads at page (kept_at u.reads at), own_entry u.reads at page (kept_at u.reads at), refl, met);
    }

-- ---- it was not swung

pub inner_found : (t page at word found : ℕ) (u w : View) → found ≢ word → HasSwung t at page word u found w
    → JustFound u w at found
inner_found t page at word found u w other h =
    subst (λ (z : View). JustFound u z at found) (sym (not_swung t at page word found u w other h)) record {
      turned = record { went = record { shut = refl; later = omega arith; leads = λ z has. has }; kept = refl };
      shuts = refl;
      step = u.steps;
      last = refl;
      since = omega arith;
      before = omega arith;
    }

-- why the page is kept then
pub keeps_found : (t page at word found : ℕ) (v u w z : View) (k : Kept)
    → k ≡ record { word = at; seen = found; why = Changed word } → found ≢ word → HasSwung t at page word u found w
    → IsNoted k w z → KeptFor (IsInnerCauseBelow v.layout.slots t (page_words v.pages page) at word) k u z
keeps_found t page at word found v u w z k is other h told =
    kept_for (IsInnerCauseBelow v.layout.slots t (page_words v.pages page) at word) at found (Changed word) u w z k is
    (inner_found t page at word found u w other h) told (inr (refl, refl, other))

-- what was read of other words, around the swing that found the pointer above to be another
pub missed_reads : (t page at word found : ℕ) (k : Kept) (v u w a z : View) → WentOn v a → KeepsReads t v u → found ≢ word
    → HasSwung t at page word u found w → IsNoted k w a → HasReopened t page 0 64 a z → KeepsReadsBut t at v z
missed_reads t page at word found k v u w a z went so other h told again =
    reads_around t at found v u w a z so (ap (λ (y : View). y.reads) (not_swung t at page word found u w other h))
    (ap (λ (y : View). y.reads) told.1) (ap (λ (y : View). y.layout) went.shut)
    (reopened_keeps t page 0 64 a z (omega arith) again)

pub missed_tells : (t page at word found : ℕ) (k : Kept) (v u w a z : View) → WentOn v a → KeepsReads t v u → found ≢ word
    → HasSwung t at page word u found w → IsNoted k w a → HasReopened t page 0 64 a z
    → k ≡ record { word = at; seen = found; why = Changed word } → IsOutside v.layout.slots t at → seen_at v.reads at ≡ Some word
    → TellsAbove k.why at k.seen v z
missed_tells t page at word found k v u w a z went so other h told again is out met =
    tells_changed t at word found k v u w a z is out met so (not_swung t at page word found u w other h) told
    (ap (λ (y : View). y.layout) went.shut) (reopened_keeps t page 0 64 a z (omega arith) again)

pub missed_later : (t page at word found : ℕ) (k : Kept) (v u w a z : View) → WentOn v a → AreShutNotes t page 64 v u
    → found ≢ word → HasSwung t at page word u found w → IsNoted k w a → HasReopened t page 0 64 a z
    → IsOutside v.layout.slots t at → k ≡ record { word = at; seen = found; why = Changed word } → AreLaterNotes t page k v z
missed_later t page at word found k v u w a z went shut other h told again out is =
    later_all t page at found k v u a z went out (ap (λ (y : Kept). y.word) is) shut
    (ap (λ (y : View). y.reads) told.1 ∙ ap (λ (y : View). y.reads) (not_swung t at page word found u w other h)) again

-- and behind one that didn't
pub swung_reads : (t page at found : ℕ) (v u w z : View) → WentOn v u → KeepsReads t v u → w ≡ swung t at page found u
    → z ≡ retired t w → KeepsReadsBut t at v z
swung_reads t page at found v u w z went so swing retire =
    reads_around t at page v u w z z so (ap (λ (y : View). y.reads) swing) (ap (λ (y : View). y.reads) retire)
    (ap (λ (y : View). y.layout) retire ∙ (ap (λ (y : View). y.layout) swing ∙ ap (λ (y : View). y.layout) went.shut))
    (reads_self t z)

pub swung_notes : (t page at found : ℕ) (v u w z : View) → IsOutside v.layout.slots t at → AreShutNotes t page 64 v u
    → w ≡ swung t at page found u → z ≡ retired t w → AreShutNotes t page 64 v z
swung_notes t page at found v u w z out shut swing retire =
    shut_behind t page at page v u z out shut (ap (λ (y : View). y.reads) retire ∙ ap (λ (y : View). y.reads) swing)

-- where the page was kept before
pub kept_tells : (t page at : ℕ) (k : Kept) (v w : View) → KeepsInner t page k v w → KeepsReads t v w
    → IsOutside v.layout.slots t at → TellsAbove k.why at k.seen v w
kept_tells t page at k v w h so out =
    tells_inner v.layout.slots t k.word k.seen at (page_words v.pages page) k.why v w h.kept.cause-is (so at out)

pub keeps_turned : (t page at before : ℕ) (k : Kept) (v u a w : View) → HasTurned v u
    → KeptFor (IsInnerCauseBelow v.layout.slots t (page_words v.pages page) at before) k u a → HasTurned a w
    → v.shuts ≡ [] → w.shuts ≡ [] → KeepsInnerBelow t page at before k v w
keeps_turned t page at before k v u a w first h last none now =
    let one = first.went.later in
    let two = last.went.later in
    let since = h.kept.since in
    let till = h.kept.before in record {
      went = went_then v a w (went_then v u a first.went h.went) last.went;
      shuts = now ∙ sym none;
      kept = record {
        page = h.kept.page;
        is = last.kept ∙ (h.kept.is ∙ ap (λ (list : List KeptPage). list ++ h.kept.page ∷ []) first.kept);
        told = h.kept.told;
        since = omega arith;
        before = omega arith;
        cause-is = h.kept.cause-is;
      };
    }

pub inner_below : (t page at before : ℕ) (k : Kept) (v w : View) → KeepsInner t page k v w → KeepsInnerBelow t page at before k v w
inner_below t page at before k v w h = record {
  went = h.went;
  shuts = h.shuts;
  kept = record {
    page = h.kept.page;
    is = h.kept.is;
    told = h.kept.told;
    since = h.kept.since;
    before = h.kept.before;
    cause-is = inl h.kept.cause-is;
  };
}
