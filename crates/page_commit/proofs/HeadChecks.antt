-- Checks of the headers that a transaction keeps, one after another, behind those of records and pointers.
use Rattle.std.proofs.Common.{◌≡◌, ◌≢◌, ◌⊎◌, inl, inr, ℕ, ◌+◌, ◌<◌, ◌≤◌, Bool, true, false, true≢false}
use Rattle.std.proofs.Common.{List, [], ◌∷◌, ◌++◌, length, take, get_or, Some, refl, sym, ap, ◌∙◌, subst, arith, append_assoc}
use Rattle.std.proofs.lemmas.List.{append-nil, take_more}
use Rattle.std.specs.Prelude.{Contains, ◌==◌, filter, not, MatchBool, slice_get}
use Rattle.std.proofs.lemmas.Bool.{eq-eqb, ne_eqb, or_from, or_left, or_parts, or_right, false_from_ne_true, eqb-true}
use Rattle.lists.specs.Each.{AreDistinct}
use Rattle.lists.specs.Elements.{in_cases, in_head, in_none, in_push_new, in_tail}
use Rattle.homes.specs.declared.places.Span.{Span}
use Rattle.commit_core.specs.declared.part.Part.{Part}
use Rattle.commit_core.specs.declared.part.Word.{Word}
use Rattle.commit_core.specs.declared.part.Word.TheVariants.{Header}
use Rattle.commit_core.specs.Parts.{same_word}
use Rattle.tx_sets.specs.declared.reads.ReadEntry.{ReadEntry}
use Rattle.tx_sets.specs.declared.seen.Seen.{Seen}
use Rattle.tx_sets.specs.declared.sets.Sets.{Sets}
use Rattle.tx_sets.specs.Entries.{places_of, writes_at}
use Rattle.engine_pages.specs.declared.layout.Layout.{Layout}
use Rattle.engine_pages.specs.declared.engine.Engine.{Engine}
use Rattle.engine_pages.specs.declared.view.Read.{Read}
use Rattle.engine_pages.specs.declared.view.View.{View}
use Rattle.engine_pages.specs.Layout.{page_at}
use Rattle.engine_pages.specs.Passes.{Pass, view, IsPassOf}
use Rattle.engine_pages.specs.Views.{IsActive}
use Rattle.engine_pages.specs.Rule.{has_word}
use Rattle.engine_pages.specs.Steps.{kept_at}
use Rattle.page_records.specs.Attempts.{failed_at}
use Rattle.page_records.specs.Ends.{IsLeafWordAt}
use Rattle.tree_heads.specs.Checks.{CanCheckHeader, CheckedHeader, header_checked}
use Rattle.page_commit.specs.Places.{ground, slot_of, Ground}
use Rattle.page_commit.specs.HeaderParts.{header_words, HasCheckedHeads, IsMetHeader}
use Rattle.page_commit.specs.Live.{IsMetPointer, IsReadPart}
use Rattle.page_commit.specs.Steps.{entry_words, pointer_words, CheckConflict, HasChecked, HasCheckedAll}
use Rattle.page_commit.specs.Steps.{HasCheckedSome, HasFailed, HasTried}
use Rattle.page_commit.proofs.CheckLaws.{some_first, some_second, word_of_entry}
use Rattle.page_commit.proofs.GiveUpLaws.{leaf_word}
use Rattle.page_commit.proofs.HeaderLaws.{head_clear, one_head}
use Rattle.page_commit.proofs.Lists.{in_at, map_push, take_all}
use Rattle.page_commit.proofs.PointerLaws.{all_from, has_pointer, in_take, none_behind, not_before_pointer}
use Rattle.page_commit.proofs.PointerLaws.{pointer_word, word_of_pointer}
use Rattle.array_pages.proofs.ReadLaws.{kept_with}
use Rattle.tx_sets.specs.Entries as sets_of

-- ---- words of headers

-- no word of a record or a pointer is a header's
no_entries : (lay : Layout) (t : ℕ) (es : List ReadEntry) → has_word (entry_words lay es) (Header t) ≡ false
no_entries lay t [] = refl
no_entries lay t (e ∷ es) = no_entries lay t es

no_pointers : (g : Ground) (t : ℕ) (ps : List Seen) → has_word (pointer_words g ps) (Header t) ≡ false
no_pointers g t [] = refl
no_pointers g t (p ∷ ps) = no_pointers g t ps

-- headers at other places have other words
heads_apart : (g : Ground) (hs : List Seen) (h : Seen) (part : Part)
    → ((i : Seen) → Contains hs i → (q : Part) × IsMetHeader g i q) → IsMetHeader g h part
    → sets_of.has_word h.at hs ≡ false
    → has_word (header_words g.layout.slots hs) (Header (slot_of g.layout.slots h.at)) ≡ false
heads_apart g [] h part all m none = refl
heads_apart g (i ∷ hs) h part all m none =
    let parts = or_parts (i.at == h.at) (sets_of.has_word h.at hs) none in
    let slots = g.layout.slots in
    let first = all i (in_head i hs) in
    let miss : (slot_of slots i.at == slot_of slots h.at) ≡ false =
    false_from_ne_true (slot_of slots i.at == slot_of slots h.at) (λ test.
    true≢false (sym (eq-eqb i.at h.at (one_head g i h first.0 part first.1 m
    (eqb-true (slot_of slots i.at) (slot_of slots h.at) test))) ∙ parts.0)) in
    or_from (slot_of slots i.at == slot_of slots h.at)
    (has_word (header_words slots hs) (Header (slot_of slots h.at))) miss
    (heads_apart g hs h part (λ x has. all x (in_tail x i hs has)) m parts.1)

word_of_header : (slots : ℕ) (hs : List Seen) (h : Seen) → Contains hs h
    → has_word (header_words slots hs) (Header (slot_of slots h.at)) ≡ true
word_of_header slots [] h has = absurd (in_none h has)
word_of_header slots (i ∷ hs) h has =
    elim (in_cases h i hs has) [
      | inl same ↦ or_left (slot_of slots i.at == slot_of slots h.at)
          (has_word (header_words slots hs) (Header (slot_of slots h.at)))
          (subst (λ (x : Seen). (slot_of slots i.at == slot_of slots x.at) ≡ true) same
          (eq-eqb (slot_of slots i.at) (slot_of slots i.at) refl))
      | inr later ↦ or_right (slot_of slots i.at == slot_of slots h.at)
          (has_word (header_words slots hs) (Header (slot_of slots h.at))) (word_of_header slots hs h later)
    ]

-- ---- the loop

-- none is checked yet
pub heads_none : (hs : List Seen) (v : View) → HasCheckedHeads hs 0 v v
heads_none hs v = record {
  steps = v.steps;
  since = omega arith;
  last = v.last;
  loaded = v.loaded;
  reads = v.reads;
  kept = λ at. refl;
  is = by_list hs;
}
  where
    by_list : (l : List Seen) → v ≡ record v { checked = v.checked ++ header_words v.layout.slots (take 0 l) }
    by_list [] = ap (λ (c : List Word). let y : View = record v { checked = c } in y) (sym (append-nil v.checked))
    by_list (h ∷ l) = ap (λ (c : List Word). let y : View = record v { checked = c } in y) (sym (append-nil v.checked))

-- behind all records and pointers none is checked yet
pub heads_begin : (sets : Sets) (v w : View) → HasCheckedSome sets (length sets.reads) (length sets.pointers) v w
    → HasCheckedAll sets 0 v w
heads_begin sets v w p = record { behind = w; some = p; heads = heads_none sets.headers w }

-- the words that are checked then
abbrev pub words_of_all : Sets → ℕ → View → List Word
words_of_all sets n v =
    (entry_words v.layout (take (length sets.reads) sets.reads)
    ++ pointer_words (ground v) (take (length sets.pointers) sets.pointers))
    ++ header_words v.layout.slots (take n sets.headers)

abbrev with_checked : View → List Word → View → View
with_checked v checked w = record v {
  checked = checked;
  steps = w.steps;
  last = w.last;
  loaded = w.loaded;
  reads = w.reads;
}

all_is : (sets : Sets) (n : ℕ) (v w : View) (c : HasCheckedAll sets n v w)
    → w ≡ with_checked v (words_of_all sets n v)
    (record v { steps = c.heads.steps; last = c.heads.last; loaded = c.heads.loaded; reads = c.heads.reads })
all_is sets n v w c =
    c.heads.is
    ∙ ap (λ (y : View). with_checked y (y.checked ++ header_words y.layout.slots (take n sets.headers))
    (record y { steps = c.heads.steps; last = c.heads.last; loaded = c.heads.loaded; reads = c.heads.reads })) c.some.is

pub header_in : (hs : List Seen) (sets : Sets) (done : ℕ) (d : Seen) → hs ≡ sets.headers → done < length hs
    → Contains sets.headers (get_or hs done d)
header_in hs sets done d same lt = subst (λ (l : List Seen). Contains l (get_or hs done d)) same (in_at hs done d lt)

pub can_check_head : (hs : List Seen) (sets : Sets) (done : ℕ) (d : Seen) (v w : View) → HasTried sets v
    → hs ≡ sets.headers → HasCheckedAll sets done v w → done < length hs
    → (sp : Span) × CanCheckHeader w (slot_of w.layout.slots (get_or hs done d).at) sp (get_or hs done d).word
can_check_head hs sets done d v w h same c lt =
    by_part (h.parts.headers (get_or hs done d) (header_in hs sets done d same lt))
  where
    placed : (i : Seen) → Contains sets.headers i → (q : Part) × IsMetHeader (ground v) i q
    placed i has = let r = h.parts.headers i has in (r.0, r.2)

    by_part : (part : Part) × Contains h.attempt.parts part × IsMetHeader (ground v) (get_or hs done d) part
        → (sp : Span) × CanCheckHeader w (slot_of w.layout.slots (get_or hs done d).at) sp (get_or hs done d).word
    by_part r =
        let m = r.2 in
        let one : Seen = get_or hs done d in
        let t : ℕ = slot_of v.layout.slots one.at in
        let clear : sets_of.has_word one.at (take done sets.headers) ≡ false =
        subst (λ (l : List Seen). sets_of.has_word one.at (take done l) ≡ false) same
        (not_before_pointer hs done d (subst (λ (l : List Seen). AreDistinct (places_of l)) (sym same) h.heads.once) lt) in
        let fresh = heads_apart (ground v) (take done sets.headers) one r.0
        (λ i has. placed i (in_take sets.headers done i has)) m clear in
        let none : has_word (words_of_all sets done v) (Header t) ≡ false =
        none_behind (λ z. same_word z (Header t))
        (entry_words v.layout (take (length sets.reads) sets.reads)
        ++ pointer_words (ground v) (take (length sets.pointers) sets.pointers))
        (header_words v.layout.slots (take done sets.headers))
        (none_behind (λ z. same_word z (Header t)) (entry_words v.layout (take (length sets.reads) sets.reads))
        (pointer_words (ground v) (take (length sets.pointers) sets.pointers))
        (no_entries v.layout t (take (length sets.reads) sets.reads))
        (no_pointers (ground v) t (take (length sets.pointers) sets.pointers))) fresh in (
          m.span,
          subst (λ (y : View). CanCheckHeader y (slot_of y.layout.slots one.at) m.span one.word) (sym (all_is sets done v w c))
              record {
                page = record { way = m.has; tree = m.tree };
                index = h.index;
                attempt = h.attempt;
                stage = h.stage;
                stands = h.at;
                part = r.0;
                has = r.1;
                of = ap (λ (z : Part). z.word) m.is;
                count = length m.keys;
                version = ap (λ (z : Part). z.version) m.is;
                few = m.few;
                seen = m.word;
                one = λ q has match. h.parts.once q r.0 has r.1
                    (subst (λ (z : Word). same_word q.word z ≡ true) (sym (ap (λ (z : Part). z.word) m.is)) match);
                unchecked = none;
              },
        )

is_as : (x y z : View) (b : Bool) → MatchBool b (x ≡ y) (x ≡ z) → b ≡ true → x ≡ y
is_as x y z b c hit = subst (λ t. MatchBool t (x ≡ y) (x ≡ z)) hit c

is_else : (x y z : View) (b : Bool) → MatchBool b (x ≡ y) (x ≡ z) → b ≡ false → x ≡ z
is_else x y z b c miss = subst (λ t. MatchBool t (x ≡ y) (x ≡ z)) miss c

-- one header more is checked
pub head_one : (hs : List Seen) (sets : Sets) (done : ℕ) (d : Seen) (k : ℕ) (v w x : View) → hs ≡ sets.headers
    → HasCheckedAll sets done v w → done < length hs → k ≡ (get_or hs done d).word
    → CheckedHeader (slot_of w.layout.slots (get_or hs done d).at) (get_or hs done d).at (get_or hs done d).word w k x
    → HasCheckedAll sets (done + 1) v x
head_one hs sets done d k v w x same c lt seen checks =
    let p = c.heads in
    let u : View = c.behind in
    let q : Seen = get_or hs done d in
    let is : x ≡ header_checked (slot_of w.layout.slots q.at) q.at k w =
    is_as x (header_checked (slot_of w.layout.slots q.at) q.at k w) (failed_at q.at k w) (k == q.word) checks
    (eq-eqb k q.word seen) in
    let slots : ℕ = u.layout.slots in
    let old : List Word = u.checked ++ header_words slots (take done sets.headers) in
    let y : View = header_checked (slot_of slots q.at) q.at k (with_checked u old
    (record u { steps = p.steps; last = p.last; loaded = p.loaded; reads = p.reads })) in
    let more : take (done + 1) sets.headers ≡ take done sets.headers ++ q ∷ [] =
    subst (λ (l : List Seen). take (done + 1) l ≡ take done l ++ q ∷ []) same (take_more hs done d lt) in
    let words : old ++ Header (slot_of slots q.at) ∷ [] ≡ u.checked ++ header_words slots (take (done + 1) sets.headers) =
    append_assoc u.checked (header_words slots (take done sets.headers)) (Header (slot_of slots q.at) ∷ [])
    ∙ ap (λ l. u.checked ++ l) (sym (map_push (λ (z : Seen). Header (slot_of slots z.at)) (take done sets.headers) q)
    ∙ ap (header_words slots) (sym more)) in record {
      behind = u;
      some = c.some;
      heads = record {
        steps = y.steps;
        since = omega (arith, p.since);
        last = y.last;
        loaded = y.loaded;
        reads = y.reads;
        kept = λ at. kept_with p.reads q.at k at ∙ p.kept at;
        is = is ∙ (ap (λ (z : View). header_checked (slot_of z.layout.slots q.at) q.at k z) p.is
            ∙ ap (λ l. with_checked u l y) words);
      };
    }

-- one of them isn't as it was seen
pub head_failed : (sets : Sets) (n at word k t : ℕ) (v w x : View) → HasCheckedAll sets n v w → k ≢ word
    → CheckedHeader t at word w k x → HasFailed v x
head_failed sets n at word k t v w x c other checks =
    let is : x ≡ failed_at at k w =
    is_else x (header_checked t at k w) (failed_at at k w) (k == word) checks (ne_eqb k word other) in
    let p = c.heads in
    let u : View = with_checked v (words_of_all sets n v)
    (record v { steps = p.steps; last = p.last; loaded = p.loaded; reads = p.reads }) in
    let y : View = failed_at at k u in record {
      checked = y.checked;
      steps = y.steps;
      since = let first = c.some.since in let same = ap (λ (z : View). z.steps) c.some.is in
          omega (arith, p.since, first, same);
      last = y.last;
      loaded = y.loaded;
      reads = y.reads;
      is = is ∙ ap (failed_at at k) (all_is sets n v w c);
    }

-- it is told, where nobody has locked it
pub head_conflict : (hs : List Seen) (sets : Sets) (done : ℕ) (d : Seen) (k : ℕ) (v w x : View) → HasTried sets v
    → hs ≡ sets.headers → HasCheckedAll sets done v w → done < length hs → k ≢ (get_or hs done d).word
    → CheckedHeader (slot_of w.layout.slots (get_or hs done d).at) (get_or hs done d).at (get_or hs done d).word w k x
    → CheckConflict sets (get_or hs done d).at (get_or hs done d).word k v x
head_conflict hs sets done d k v w x h same c lt other checks =
    by_part (h.parts.headers (get_or hs done d) (header_in hs sets done d same lt))
  where
    by_part : (part : Part) × Contains h.attempt.parts part × IsMetHeader (ground v) (get_or hs done d) part
        → CheckConflict sets (get_or hs done d).at (get_or hs done d).word k v x
    by_part r =
        let m = r.2 in
        let q : Seen = get_or hs done d in
        let has : Contains sets.headers q = header_in hs sets done d same lt in
        let t : ℕ = slot_of v.layout.slots q.at in
        let is : x ≡ failed_at q.at k w =
        is_else x (header_checked (slot_of w.layout.slots q.at) q.at k w) (failed_at q.at k w) (k == q.word) checks
        (ne_eqb k q.word other) in
        let all = all_is sets done v w c in
        let steps : w.steps ≡ c.heads.steps = ap (λ (y : View). y.steps) c.heads.is in
        let mid : (c.behind).steps ≡ c.some.steps = ap (λ (y : View). y.steps) c.some.is in
        let first = c.some.since in
        let last = c.heads.since in
        let e : Read = record {
          word = q.at;
          seen = k;
          was = Rattle.engine_pages.specs.Steps.seen_at w.reads q.at;
          kept = kept_at w.reads q.at;
        } in
        let stands : Contains x.reads e =
        subst (λ (y : View). Contains y.reads e) (sym is)
        (in_push_new e (filter (λ (z : Read). not (z.word == q.at)) w.reads)) in
        let kept : kept_at w.reads q.at ≡ Some q.word =
        ap (λ (y : View). kept_at y.reads q.at) c.heads.is
        ∙ (c.heads.kept q.at
        ∙ (ap (λ (y : View). kept_at y.reads q.at) c.some.is ∙ (c.some.kept q.at ∙ h.heads.kept q has))) in
        let place : IsLeafWordAt v t 0 q.at = record {
          word = record {
            way = record { slot = t; span = m.span };
            has = m.has;
            slot = refl;
            kind = m.tree;
            there = m.there;
            index = omega arith;
            word = m.place;
          };
          leaf = record { slot = t; keys = m.keys };
          knows = m.knows;
          same = refl;
          is = inl refl;
        } in
        inr (inr (inl (
          has_pointer sets.headers q has,
          record {
            step = w.steps;
            last = ap (λ (y : View). y.last) is;
            since = omega (arith, steps, mid, first, last);
            was = Rattle.engine_pages.specs.Steps.seen_at w.reads q.at;
            kept = kept_at w.reads q.at;
            stands = stands;
            known = inl (pointer_word sets.headers q h.heads.once has);
            cause = inr other;
          },
          record {
            place = leaf_word t 0 q.at v x (ap (λ (y : View). y.layout) (is ∙ ap (failed_at q.at k) all))
                (ap (λ (y : View). y.ways) (is ∙ ap (failed_at q.at k) all))
                (ap (λ (y : View). y.known) (is ∙ ap (failed_at q.at k) all)) place;
            unheld = ap (λ (y : View). y.heads) (is ∙ ap (failed_at q.at k) all) ∙ h.unheld;
            step = w.steps;
            last = ap (λ (y : View). y.last) is;
            was = Rattle.engine_pages.specs.Steps.seen_at w.reads q.at;
            kept = kept_at w.reads q.at;
            stands = stands;
            known = inl kept;
            cause = inr other;
          },
        )))

-- a header's word is none that the transaction has locked
pub header_apart : (sets : Sets) (q : Seen) (v : View) → HasTried sets v → Contains sets.headers q
    → writes_at q.at sets.writes ≡ false
header_apart sets q v h has =
    let r = h.parts.headers q has in head_clear (ground v) q r.0 sets.writes h.agree r.2 h.places

-- ---- at the slot that a call computes

pub header_active : (sets : Sets) (n : ℕ) (v w x : View) → IsActive w.role
    → HasCheckedSome sets (length sets.reads) (length sets.pointers) v w → HasCheckedAll sets n v x → IsActive x.role
header_active sets n v w x active p c =
    subst IsActive
    (sym (ap (λ (y : View). y.role) (all_is sets n v x c)) ∙ refl)
    (subst IsActive (ap (λ (y : View). y.role) p.is) active)

pub slot_there : (hs : List Seen) (sets : Sets) (done : ℕ) (d : Seen) (e : Engine) (p : Pass) (v : View) (x : ℕ)
    → HasTried sets v → hs ≡ sets.headers → IsPassOf e p → HasCheckedAll sets done v (view p) → done < length hs
    → x ≡ slot_of e.table.shared.key.slots (get_or hs done d).at → x < (view p).layout.slots
slot_there hs sets done d e p v x h same of c lt is =
    let r = h.parts.headers (get_or hs done d) (header_in hs sets done d same lt) in
    let layout : (view p).layout ≡ v.layout = ap (λ (y : View). y.layout) (all_is sets done v (view p) c) in
    subst (λ (n : ℕ). n < (view p).layout.slots)
    (sym (is ∙ ap (λ (l : Layout). slot_of l.slots (get_or hs done d).at) (sym of.layout)))
    (subst (λ (l : Layout). slot_of l.slots (get_or hs done d).at < l.slots) (sym layout) r.2.there)

pub slot_place : (hs : List Seen) (sets : Sets) (done : ℕ) (d : Seen) (e : Engine) (p : Pass) (v : View) (x : ℕ)
    → HasTried sets v → hs ≡ sets.headers → IsPassOf e p → HasCheckedAll sets done v (view p) → done < length hs
    → x ≡ slot_of e.table.shared.key.slots (get_or hs done d).at
    → (get_or hs done d).at ≡ page_at (view p).layout.slots x 0
slot_place hs sets done d e p v x h same of c lt is =
    let r = h.parts.headers (get_or hs done d) (header_in hs sets done d same lt) in
    let layout : (view p).layout ≡ v.layout = ap (λ (y : View). y.layout) (all_is sets done v (view p) c) in
    subst (λ (n : ℕ). (get_or hs done d).at ≡ page_at (view p).layout.slots n 0)
    (sym (is ∙ ap (λ (l : Layout). slot_of l.slots (get_or hs done d).at) (sym of.layout)))
    (subst (λ (l : Layout). (get_or hs done d).at ≡ page_at l.slots (slot_of l.slots (get_or hs done d).at) 0)
    (sym layout) r.2.place)

pub slot_can : (e : Engine) (p : Pass) (at word x : ℕ) → IsPassOf e p → x ≡ slot_of e.table.shared.key.slots at
    → (sp : Span) × CanCheckHeader (view p) (slot_of (view p).layout.slots at) sp word
    → (sp : Span) × CanCheckHeader (view p) x sp word
slot_can e p at word x of is can = (
  can.0,
  subst (λ (n : ℕ). CanCheckHeader (view p) n can.0 word)
      (sym (is ∙ ap (λ (l : Layout). slot_of l.slots at) (sym of.layout))) can.1,
)

pub slot_checked : (e : Engine) (p : Pass) (at word n : ℕ) (w : View) (x : ℕ) → IsPassOf e p
    → x ≡ slot_of e.table.shared.key.slots at → CheckedHeader x at word (view p) n w
    → CheckedHeader (slot_of (view p).layout.slots at) at word (view p) n w
slot_checked e p at word n w x of is c =
    subst (λ (y : ℕ). CheckedHeader y at word (view p) n w)
    (is ∙ ap (λ (l : Layout). slot_of l.slots at) (sym of.layout)) c

-- ---- all parts are checked

pub all_checked : (hs : List Seen) (sets : Sets) (done : ℕ) (v w : View) → HasTried sets v → hs ≡ sets.headers
    → HasCheckedAll sets done v w → length hs ≤ done → HasChecked v w
all_checked hs sets done v w h same c le =
    let slots : ℕ = v.layout.slots in
    let lay : Layout = v.layout in
    let p = c.heads in
    let len : length sets.headers ≤ done = subst (λ (l : List Seen). length l ≤ done) same le in
    let words : List Word = (entry_words lay sets.reads ++ pointer_words (ground v) sets.pointers)
    ++ header_words slots sets.headers in
    let checked : w.checked ≡ words =
    ap (λ (y : View). y.checked) (all_is sets done v w c)
    ∙ (ap (λ l. (entry_words lay l ++ pointer_words (ground v) (take (length sets.pointers) sets.pointers))
    ++ header_words slots (take done sets.headers)) (take_all sets.reads (length sets.reads) (omega arith))
    ∙ (ap (λ l. (entry_words lay sets.reads ++ pointer_words (ground v) l) ++ header_words slots (take done sets.headers))
    (take_all sets.pointers (length sets.pointers) (omega arith))
    ∙ ap (λ l. (entry_words lay sets.reads ++ pointer_words (ground v) sets.pointers) ++ header_words slots l)
    (take_all sets.headers done len))) in record {
      checked = words_of_all sets done v;
      steps = p.steps;
      since = let first = c.some.since in let same' = ap (λ (z : View). z.steps) c.some.is in
          omega (arith, p.since, first, same');
      last = p.last;
      loaded = p.loaded;
      reads = p.reads;
      is = all_is sets done v w c;
      can = record {
        index = h.index;
        attempt = h.attempt;
        stage = ap (λ (y : View). y.seat.stage) (all_is sets done v w c) ∙ h.stage;
        at = ap (λ (y : View). slice_get y.history h.index) (all_is sets done v w c) ∙ h.at;
        all = all_from (λ part. has_word w.checked part.word) h.attempt.parts (λ part has.
            ap (λ l. has_word l part.word) checked ∙ by_known part (h.parts.known part has));
      };
    }
  where
    front : List Word
    front = entry_words v.layout sets.reads ++ pointer_words (ground v) sets.pointers

    by_known : (part : Part)
        → ((e : ReadEntry) × Contains sets.reads e × IsReadPart (ground v) e part)
        ⊎ (((q : Seen) × Contains sets.pointers q × IsMetPointer v q part)
        ⊎ ((i : Seen) × Contains sets.headers i × IsMetHeader (ground v) i part))
        → has_word (front ++ header_words v.layout.slots sets.headers) part.word ≡ true
    by_known part (inl r) =
        some_first (λ z. same_word z part.word) front (header_words v.layout.slots sets.headers)
        (some_first (λ z. same_word z part.word) (entry_words v.layout sets.reads)
        (pointer_words (ground v) sets.pointers)
        (subst (λ (z : Part). has_word (entry_words v.layout sets.reads) z.word ≡ true) (sym r.2.is)
        (word_of_entry v.layout sets.reads r.0 r.1)))
    by_known part (inr (inl r)) =
        some_first (λ z. same_word z part.word) front (header_words v.layout.slots sets.headers)
        (some_second (λ z. same_word z part.word) (entry_words v.layout sets.reads)
        (pointer_words (ground v) sets.pointers)
        (subst (λ (z : Word). has_word (pointer_words (ground v) sets.pointers) z ≡ true) (sym r.2.of.word)
        (word_of_pointer (ground v) sets.pointers r.0 r.1)))
    by_known part (inr (inr r)) =
        some_second (λ z. same_word z part.word) front (header_words v.layout.slots sets.headers)
        (subst (λ (z : Part). has_word (header_words v.layout.slots sets.headers) z.word ≡ true) (sym r.2.is)
        (word_of_header v.layout.slots sets.headers r.0 r.1))
