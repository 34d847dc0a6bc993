-- Whether the sets of a transaction name a word of a page, as they grow, and the locks that were taken where they don't.
use Rattle.std.proofs.Common.{◌≡◌, inl, inr, ℕ, Bool, true, false, cond, true≢false, List, [], ◌∷◌, ◌++◌, refl, sym, ap, ◌∙◌}
use Rattle.std.proofs.Common.{Option, Some, None}
use Rattle.std.specs.Prelude.{is_some, ◌==◌, ◌||◌}
use Rattle.std.proofs.lemmas.Bool.{or_from, or_parts}
use Rattle.serial_model.specs.declared.key.Key.{Key}
use Rattle.tx_sets.specs.declared.reads.ReadEntry.{ReadEntry}
use Rattle.tx_sets.specs.declared.seen.Seen.{Seen}
use Rattle.tx_sets.specs.declared.sets.Sets.{Sets}
use Rattle.tx_sets.specs.declared.writes.Write.{Write}
use Rattle.tx_sets.specs.Entries.{has_word, is_in_page, read_in, write_in, writes_at}
use Rattle.engine_pages.specs.declared.view.Role.{Role}
use Rattle.engine_pages.specs.declared.view.Touch.{Touch}
use Rattle.engine_pages.specs.declared.view.View.{View}
use Rattle.engine_pages.specs.Layout.{page_at}
use Rattle.engine_pages.specs.Views.{seat_number}
use Rattle.foster_tree.specs.Locking.{with_touches}
use Rattle.page_commit.specs.Live.{reads_at}
use Rattle.page_commit.specs.Needs.{names_record}
use Rattle.tree_calls.specs.Keeping.{HasValue}
use Rattle.tree_writes.specs.Causes.{names_page}
use Rattle.tree_writes.specs.Writing.{HasBrought, HasMade, HasSplitUnnamed, IsWholePlace, LocksUnnamed}

-- ---- a page of which no word is named

-- one that isn't there is none
not_some : {A : Type 0} (o : Option A) → is_some o ≡ false → o ≡ None
not_some None is = refl
not_some (Some x) is = absurd (true≢false is)

-- no record that was read stands in it
pub read_none : (first : ℕ) (sets : Sets) → names_page first sets ≡ false → read_in first sets.reads ≡ None
read_none first sets is =
    let rest = or_parts (has_word first sets.headers)
    (is_some (read_in first sets.reads) || is_some (write_in first sets.writes)) is in
    not_some (read_in first sets.reads)
    (or_parts (is_some (read_in first sets.reads)) (is_some (write_in first sets.writes)) rest.1).0

-- and its header isn't kept
pub head_none : (first : ℕ) (sets : Sets) → names_page first sets ≡ false → has_word first sets.headers ≡ false
head_none first sets is =
    (or_parts (has_word first sets.headers)
    (is_some (read_in first sets.reads) || is_some (write_in first sets.writes)) is).0

-- with the same records, headers and writes the same pages are named
pub names_same : (first : ℕ) (sets new : Sets) → new.reads ≡ sets.reads → new.headers ≡ sets.headers
    → new.writes ≡ sets.writes → names_page first new ≡ names_page first sets
names_same first sets new reads headers writes =
    ap (λ (l : List Seen). has_word first l
    || (is_some (read_in first new.reads) || is_some (write_in first new.writes))) headers
    ∙ (ap (λ (l : List ReadEntry). has_word first sets.headers
    || (is_some (read_in first l) || is_some (write_in first new.writes))) reads
    ∙ ap (λ (l : List Write). has_word first sets.headers
    || (is_some (read_in first sets.reads) || is_some (write_in first l))) writes)

-- and the same records
pub record_same : (at : ℕ) (sets new : Sets) → new.reads ≡ sets.reads → new.writes ≡ sets.writes
    → names_record at new ≡ names_record at sets
record_same at sets new reads writes =
    ap (λ (l : List ReadEntry). reads_at at l || writes_at at new.writes) reads
    ∙ ap (λ (l : List Write). reads_at at sets.reads || writes_at at l) writes

-- ---- sets that have grown

-- among more records that were read none stands in the page
reads_front : (first : ℕ) (xs ys : List ReadEntry) → is_some (read_in first (xs ++ ys)) ≡ false
    → is_some (read_in first xs) ≡ false
reads_front first [] ys none = refl
reads_front first (e ∷ xs) ys none = by_test (is_in_page first e.at) refl (λ rest. reads_front first xs ys rest)
  where
    by_test : (b : Bool) → is_in_page first e.at ≡ b
        → (is_some (read_in first (xs ++ ys)) ≡ false → is_some (read_in first xs) ≡ false)
        → is_some (read_in first (e ∷ xs)) ≡ false
    by_test true hit more =
        absurd (true≢false (sym (ap (λ (c : Bool). is_some (cond c (Some e) (read_in first (xs ++ ys)))) hit) ∙ none))
    by_test false miss more =
        ap (λ (c : Bool). is_some (cond c (Some e) (read_in first xs))) miss
        ∙ more
        (sym (ap (λ (c : Bool). is_some (cond c (Some e) (read_in first (xs ++ ys)))) miss) ∙ none)

heads_front : (first : ℕ) (xs ys : List Seen) → has_word first (xs ++ ys) ≡ false → has_word first xs ≡ false
heads_front first [] ys none = refl
heads_front first (h ∷ xs) ys none =
    let parts = or_parts (h.at == first) (has_word first (xs ++ ys)) none in
    or_from (h.at == first) (has_word first xs) parts.0 (heads_front first xs ys parts.1)

-- behind a read of the key the sets name what they did
pub names_before : {value : Option ℕ} (first : ℕ) (sets mid late : Sets) (k : Key) (u v w : View) → HasMade k sets mid u v
    → HasValue k value mid late v w → names_page first late ≡ false → names_page first sets ≡ false
names_before first sets mid late k u v w m h none =
    let all = or_parts (has_word first late.headers)
    (is_some (read_in first late.reads) || is_some (write_in first late.writes)) none in
    let rest = or_parts (is_some (read_in first late.reads)) (is_some (write_in first late.writes)) all.1 in
    let heads : has_word first mid.headers ≡ false =
    elim h.headers [
      | inl same ↦ ap (λ (l : List Seen). has_word first l) (sym same) ∙ all.0
      | inr more ↦ heads_front first mid.headers (more.0 ∷ [])
          (ap (λ (l : List Seen). has_word first l) (sym more.1) ∙ all.0)
    ] in
    let reads : is_some (read_in first mid.reads) ≡ false =
    elim h.reads [
      | inl same ↦ ap (λ (l : List ReadEntry). is_some (read_in first l)) (sym same) ∙ rest.0
      | inr more ↦ reads_front first mid.reads (more.0 ∷ [])
          (ap (λ (l : List ReadEntry). is_some (read_in first l)) (sym more.2) ∙ rest.0)
    ] in
    let writes : is_some (write_in first mid.writes) ≡ false =
    ap (λ (l : List Write). is_some (write_in first l)) (sym h.writes) ∙ rest.1 in
    sym (names_same first sets mid m.reads m.headers m.writes)
    ∙ or_from (has_word first mid.headers) (is_some (read_in first mid.reads) || is_some (write_in first mid.writes)) heads
    (or_from (is_some (read_in first mid.reads)) (is_some (write_in first mid.writes)) reads writes)

-- ---- the locks of a split

-- behind steps that took none
abbrev split_since : (sets mid : Sets) (k : Key) (u v w : View) → v.touched ≡ u.touched → v.role ≡ u.role
    → ((first : ℕ) → names_page first mid ≡ false → names_page first sets ≡ false) → HasSplitUnnamed k mid v w
    → HasSplitUnnamed k sets u w
split_since sets mid k u v w touched role unnamed s = record {
  slot = s.slot;
  span = s.span;
  way = s.way;
  over = s.over;
  keys = s.keys;
  knows = s.knows;
  full = s.full;
  once = s.once;
  inside = s.inside;
  moved = s.moved;
  touched = s.touched
      ∙ (ap (λ (l : List Touch). with_touches l (seat_number v.role) s.keys 16) touched
      ∙ ap (λ (r : Role). with_touches u.touched (seat_number r) s.keys 16) role);
  unnamed = unnamed (page_at w.layout.slots s.slot 0) s.unnamed;
}

pub unnamed_since : (sets mid : Sets) (k : Key) (u v w : View) → v.touched ≡ u.touched → v.role ≡ u.role
    → ((first : ℕ) → names_page first mid ≡ false → names_page first sets ≡ false) → LocksUnnamed k mid v w
    → LocksUnnamed k sets u w
unnamed_since sets mid k u v w touched role unnamed (inl same) = inl (same ∙ touched)
unnamed_since sets mid k u v w touched role unnamed (inr s) =
    inr (split_since sets mid k u v w touched role unnamed s)

-- the place that is told stays one of no leaf that was split before
pub whole_since : (sets mid new : Sets) (k : Key) (at : ℕ) (u v w : View) → v.touched ≡ u.touched → v.role ≡ u.role
    → ((first : ℕ) → names_page first mid ≡ false → names_page first sets ≡ false) → IsWholePlace k at mid new v w
    → IsWholePlace k at sets new u w
whole_since sets mid new k at u v w touched role unnamed (inl read) = inl read
whole_since sets mid new k at u v w touched role unnamed (inr (inl one)) = inr (inl one)
whole_since sets mid new k at u v w touched role unnamed (inr (inr h)) =
    inr (inr (record { split = split_since sets mid k u v w touched role unnamed h.split; half = h.half }))

-- the key was read
pub unnamed_read : {value : Option ℕ} (sets mid late : Sets) (k : Key) (u v w : View) → HasMade k sets mid u v
    → HasValue k value mid late v w → LocksUnnamed k sets u w
unnamed_read sets mid late k u v w m h = inl (h.touched ∙ m.touched)

-- and its record was found or made behind that
pub unnamed_behind : {value : Option ℕ} (sets mid late last : Sets) (k : Key) (at : ℕ) (u v w x : View)
    → HasMade k sets mid u v → HasValue k value mid late v w → HasBrought k at late last w x → LocksUnnamed k sets u x
unnamed_behind sets mid late last k at u v w x m h b =
    unnamed_since sets late k u w x (h.touched ∙ m.touched)
    (ap (λ (y : View). y.role) h.only.is ∙ ap (λ (y : View). y.role) m.only.is)
    (λ first none. names_before first sets mid late k u v w m h none) b.locks

pub whole_behind : {value : Option ℕ} (sets mid late last : Sets) (k : Key) (at : ℕ) (u v w x : View)
    → HasMade k sets mid u v → HasValue k value mid late v w → HasBrought k at late last w x
    → IsWholePlace k at sets last u x
whole_behind sets mid late last k at u v w x m h b =
    whole_since sets late last k at u w x (h.touched ∙ m.touched)
    (ap (λ (y : View). y.role) h.only.is ∙ ap (λ (y : View). y.role) m.only.is)
    (λ first none. names_before first sets mid late k u v w m h none) b.whole
