-- All records of a leaf, one after another.
use Rattle.std.proofs.Common.{◌≡◌, inl, ℕ, suc, ◌+◌, ◌-◌, ◌<◌, List, [], ◌∷◌, ◌++◌, refl, sym, ap, ◌∙◌, subst, arith}
use Rattle.std.specs.Prelude.{Err, IfErr, Ok, OnOk, Result}
use Rattle.homes.specs.declared.places.Span.{Span}
use Rattle.snapshot_store.specs.Places.{page as page_words}
use Rattle.commit_core.specs.declared.part.Word.{Word}
use Rattle.commit_core.specs.declared.part.Word.TheVariants.{Record, Pointer, Header}
use Rattle.commit_core.specs.Parts.{record_part}
use Rattle.engine_pages.specs.declared.view.KeptWhy.{KeptWhy}
use Rattle.engine_pages.specs.declared.view.View.{View}
use Rattle.engine_pages.specs.Words.{spot}
use Rattle.engine_pages.proofs.Seats.{by_equal}
use Rattle.pointer_swings.specs.Swings.{key_in}
use Rattle.page_drops.specs.declared.noting.Kept.{Kept}
use Rattle.page_drops.specs.Leaves.{AreLow, HasCompared, HasFirst, HasMoved, HasOpened, HasRow, IsSeenAs}
use Rattle.page_drops.specs.Works.{IsLeafCause, KeepsBelow, KeepsIt, KeepsLeaf, OnlyLooked, WorkedOn}
use Rattle.page_drops.proofs.Looks.{looked_self, looked_then, worked_then}

-- ---- compared

-- the first records, so many, were compared
pub record AreCompared (t : ℕ) (sp : Span) (words : List ℕ) (count : ℕ) (v u : View) : Type 0 where
  pub looked : OnlyLooked v u
  pub seen : (i : ℕ) → i < count → IsSeenAs u.seat.kept t sp words i

pub none_compared : (t : ℕ) (sp : Span) (words : List ℕ) (v : View) → AreCompared t sp words 0 v v
none_compared t sp words v = record { looked = looked_self v; seen = λ i less. absurd (omega (arith, less)) }

-- the index of the record whose word it is
abbrev index_of : Word → ℕ
index_of (Record x) = x.index
index_of (Pointer at) = 0
index_of (Header t) = 0

-- pages stay those that the pass knows
pub same_words : (page : ℕ) (v u : View) → WorkedOn v u → page_words u.pages page ≡ page_words v.pages page
same_words page v u worked = ap (λ (z : View). page_words z.pages page) worked

pub next_compared : (t page count : ℕ) (sp : Span) (v u w : View)
    → AreCompared t sp (page_words v.pages page) count v u → HasCompared t sp (page_words u.pages page) count u w
    → AreCompared t sp (page_words v.pages page) (count + 1) v w
next_compared t page count sp v u w so h =
    let words : List ℕ = page_words v.pages page in
    let now = subst (λ list. HasCompared t sp list count u w) (same_words page v u so.looked.worked) h in record {
      looked = looked_then v u w so.looked now.looked;
      seen = λ i less.
          by_equal i count (λ i. i < count + 1 → IsSeenAs w.seat.kept t sp words i) (λ _. now.seen)
          (λ other few.
          let was = so.seen i (omega arith) in record {
            content = was.content;
            has = now.others (record_part (key_in sp i) (spot t i) was.content) was.has (λ same. other (one_index t i count same));
            number = was.number;
            value = was.value;
            low = was.low;
          }) less;
    }
  where
    one_index : (t i j : ℕ) → Record (spot t i) ≡ Record (spot t j) → i ≡ j
    one_index t i j same = ap index_of same

-- ---- kept

-- a cause of a leaf, told of the view as the work began
pub cause_worked : (t page : ℕ) (k : Kept) (v u : View) → WorkedOn v u
    → IsLeafCause u.layout.slots t (page_words u.pages page) k.why k.word k.seen
    → IsLeafCause v.layout.slots t (page_words v.pages page) k.why k.word k.seen
cause_worked t page k v u worked so =
    subst (λ list. IsLeafCause v.layout.slots t list k.why k.word k.seen) (same_words page v u worked)
    (subst (λ (n : ℕ). IsLeafCause n t (page_words u.pages page) k.why k.word k.seen)
    (ap (λ (z : View). z.layout.slots) worked) so)

pub keeps_then : (t page : ℕ) (k : Kept) (v u w : View) → OnlyLooked v u → KeepsLeaf t page k u w → KeepsLeaf t page k v w
keeps_then t page k v u w looked h =
    let low = looked.later in
    let since = h.kept.since in record {
      worked = worked_then v u w looked.worked h.worked;
      locks = h.locks ∙ looked.locks;
      took = h.took ∙ looked.took;
      kept = record {
        page = h.kept.page;
        is = h.kept.is ∙ ap (λ list. list ++ h.kept.page ∷ []) looked.kept;
        told = h.kept.told;
        since = omega arith;
        before = h.kept.before;
        cause-is = cause_worked t page k v u looked.worked h.kept.cause-is;
      };
    }

-- ---- locked and opened

pub moved_self : (v : View) → HasMoved v v
moved_self v = record { worked = refl; later = omega arith; parts = refl; kept = refl }

pub moved_then : (u v w : View) → HasMoved u v → HasMoved v w → HasMoved u w
moved_then u v w a b =
    let one = a.later in
    let two = b.later in record {
      worked = worked_then u v w a.worked b.worked;
      later = omega arith;
      parts = b.parts ∙ a.parts;
      kept = b.kept ∙ a.kept;
    }

-- a page that is kept behind locks that are opened again
pub keeps_opened : (t page count : ℕ) (sp : Span) (k : Kept) (v u a w : View) → HasMoved v u
    → KeepsLeaf t page k u a → HasMoved a w → HasRow t sp (page_words v.pages page) 0 0 v
    → HasRow t sp (page_words v.pages page) count 0 w → KeepsLeaf t page k v w
keeps_opened t page count sp k v u a w first h last row now =
    let one = first.later in
    let two = last.later in
    let since = h.kept.since in
    let before = h.kept.before in record {
      worked = worked_then v a w (worked_then v u a first.worked h.worked) last.worked;
      locks = now.locks ∙ sym row.locks;
      took = now.took ∙ sym row.took;
      kept = record {
        page = h.kept.page;
        is = last.kept ∙ (h.kept.is ∙ ap (λ list. list ++ h.kept.page ∷ []) first.kept);
        told = h.kept.told;
        since = omega arith;
        before = omega arith;
        cause-is = cause_worked t page k v u first.worked h.kept.cause-is;
      };
    }

-- ---- a leaf that is kept where its pointer leads to it

pub keeps_below : (t page at before : ℕ) (k : Kept) (v w : View) → KeepsLeaf t page k v w → KeepsBelow t page at before k v w
keeps_below t page at before k v w h = record {
  worked = h.worked;
  locks = h.locks;
  took = h.took;
  kept = record {
    page = h.kept.page;
    is = h.kept.is;
    told = h.kept.told;
    since = h.kept.since;
    before = h.kept.before;
    cause-is = inl h.kept.cause-is;
  };
}

-- ---- one after another

row_as : (t : ℕ) (sp : Span) (words : List ℕ) (j j' n n' : ℕ) (v : View) → j ≡ j' → n ≡ n' → HasRow t sp words j n v
    → HasRow t sp words j' n' v
row_as t sp words j j' n n' v first many row =
    subst (λ k. HasRow t sp words k n' v) first (subst (λ k. HasRow t sp words j k v) many row)

-- none is open yet
pub none_open : (t count : ℕ) (sp : Span) (words : List ℕ) (v : View) → HasRow t sp words 0 count v → HasRow t sp words 0 (count - 0) v
none_open t count sp words v row = row_as t sp words 0 0 count (count - 0) v refl (omega arith) row

-- the next one to be opened
pub next_first : (t page index count : ℕ) (sp : Span) (v u : View) → HasMoved v u → index < count
    → HasRow t sp (page_words v.pages page) index (count - index) u → HasFirst t sp (page_words u.pages page) index u
next_first t page index count sp v u moved less row = (
  count - (index + 1),
  row_as t sp (page_words u.pages page) index index (count - index) (suc (count - (index + 1))) u refl (omega (arith, less))
      (subst (λ ws. HasRow t sp ws index (count - index) u) (sym (same_words page v u moved.worked)) row),
)

-- behind it
pub next_opened : (t page index count : ℕ) (sp : Span) (v u w : View) → HasMoved v u → index < count
    → HasRow t sp (page_words v.pages page) index (count - index) u → HasOpened t sp (page_words u.pages page) index u w
    → HasRow t sp (page_words v.pages page) (index + 1) (count - (index + 1)) w
next_opened t page index count sp v u w moved less row opened =
    let same = same_words page v u moved.worked in
    let now = opened.row (count - (index + 1))
    (row_as t sp (page_words u.pages page) index index (count - index) (suc (count - (index + 1))) u refl (omega (arith, less))
    (subst (λ ws. HasRow t sp ws index (count - index) u) (sym same) row)) in
    row_as t sp (page_words v.pages page) (suc index) (index + 1) (count - (index + 1)) (count - (index + 1)) w (omega arith) refl
    (subst (λ ws. HasRow t sp ws (suc index) (count - (index + 1)) w) same now)

-- all are open
pub all_opened : (t index count : ℕ) (sp : Span) (words : List ℕ) (v : View) → index ≡ count → HasRow t sp words index (count - index) v
    → HasRow t sp words count 0 v
all_opened t index count sp words v end row =
    row_as t sp words index count (count - index) 0 v end (omega (arith, end)) row

-- the words of another view
pub row_words : (t page j n : ℕ) (sp : Span) (v u w : View) → WorkedOn v u → HasRow t sp (page_words v.pages page) j n w
    → HasRow t sp (page_words u.pages page) j n w
row_words t page j n sp v u w worked row =
    subst (λ ws. HasRow t sp ws j n w) (sym (same_words page v u worked)) row

pub row_words_back : (t page j n : ℕ) (sp : Span) (v u w : View) → WorkedOn v u → HasRow t sp (page_words u.pages page) j n w
    → HasRow t sp (page_words v.pages page) j n w
row_words_back t page j n sp v u w worked row = subst (λ ws. HasRow t sp ws j n w) (same_words page v u worked) row

pub low_worked : (page : ℕ) (v u : View) → WorkedOn v u → AreLow (page_words v.pages page) → AreLow (page_words u.pages page)
low_worked page v u worked low = subst AreLow (sym (same_words page v u worked)) low

-- ---- locked, one after another

-- a record that could not be locked leaves the others locked
pub kept_row : (t j n : ℕ) (sp : Span) (words : List ℕ) (cause : KeptWhy → ℕ → ℕ → Type 0) (k : Kept) (v w : View)
    → KeepsIt cause k v w → HasRow t sp words j n v → HasRow t sp words j n w
kept_row t j n sp words cause k v w h row = record { locks = h.locks ∙ row.locks; took = h.took ∙ row.took }

-- what is told of a refusal
pub err_told : (r : Result (Unit {0}) Kept) (P : Kept → Type 0) (k : Kept) → IfErr r P → r ≡ Err k → P k
err_told r P k h is = subst (λ (z : Result (Unit {0}) Kept). IfErr z P) is h

-- and where there was none
pub ok_told : (r : Result (Unit {0}) Kept) (P : Type 0) → OnOk r P → ((k : Kept) → r ≡ Err k → ⊥) → P
ok_told (Ok u) P h none = h
ok_told (Err k) P h none = absurd (none k refl)

pub next_locked : (t page index : ℕ) (sp : Span) (v u w : View) → HasMoved v u
    → HasRow t sp (page_words u.pages page) 0 (index + 1) w → HasRow t sp (page_words v.pages page) 0 (index + 1) w
next_locked t page index sp v u w moved row = row_words_back t page 0 (index + 1) sp v u w moved.worked row

pub all_locked : (t index : ℕ) (sp : Span) (words : List ℕ) (v : View) → index ≡ 32 → HasRow t sp words 0 index v
    → HasRow t sp words 0 32 v
all_locked t index sp words v end row = row_as t sp words 0 0 index 32 v refl end row
