-- All storages composed: the content is the overlay, and the numbers go on from storage to storage.
use Rattle.std.proofs.Common.{◌≡◌, ℕ, ◌+◌, ◌<◌, ◌≤◌, zero, suc, true, false, List, [], ◌∷◌, ◌++◌, length, Some, None, refl, sym, ap, subst, ◌∙◌, arith, append_assoc, inl, inr, leb, eqb}
use Rattle.std.specs.Prelude.{cond}
use Rattle.std.specs.List.{AllByRecursion}
use Rattle.std.proofs.lemmas.List.{length-append}
use Rattle.lists.specs.Each.{all_weaker}
use Rattle.std.proofs.lemmas.Bool.{cases_lt}
use Rattle.std.proofs.lemmas.Bool.Decides.{nat_tests}
use Rattle.serial_model.specs.Keys.{id_of}
use Rattle.serial_model.specs.declared.decl.Decl.{Decl}
use Rattle.serial_model.specs.declared.decl.Decl.TheVariants.{Array, Tree}
use Rattle.wire_form.specs.declared.bucket.Entry.{Entry}
use Rattle.wire_form.specs.declared.records.Stored.{Stored}
use Rattle.snapshot_store.specs.declared.place.PagePlace.{PagePlace}
use Rattle.snapshot_store.specs.TreePages.{tree_format, IsTreePage}
use Rattle.snapshot_store.specs.Places.{Format, find, moved, newer, words_at, places_below, StandsTo}
use Rattle.snapshot_store.specs.ArrayPages.{array_format, IsArrayPage}
use Rattle.snapshot_store.specs.Content.{last_index, deepest, root_place, format_of, IsPageOf, record_in, RootStands}
use Rattle.root_composer.specs.declared.last.Last.{Last}
use Rattle.root_composer.specs.Overlaid.{touches, entry_for, overlaid}
use Rattle.root_composer.specs.Composed.{numbered, Replaces, IsMade}
use Rattle.root_composer.specs.Composer.{Made, AllMade, compose_each, written}
use Rattle.root_composer.specs.ArrayWriter.{IsPut, AnyShape, array_writer}
use Rattle.root_composer.specs.Build.{tree_writer}
use Rattle.root_composer.specs.Shape.{TreeShape}
use Rattle.root_composer.specs.ArrayCode.{array_one}
use Rattle.root_composer.specs.Storages.{part_of, EachOverlaid, IsStorageComposed, AreComposed, newer_in, newer_of, shape_of, FitStorage, IsReady, IsWithin, made_for, compose_one, compose_storages, with_roots}
use Rattle.root_composer.proofs.MadeLemmas.{at_most, above, there_of, regroup, numbered-append}
use Rattle.root_composer.proofs.ComposeLaw.{compose_right}
use Rattle.root_composer.proofs.ArrayLaw.{arrays_lawful}
use Rattle.root_composer.proofs.TreeLaw.{trees_lawful}

from_none : (decl : Decl) (root : ℕ) → (root_place decl root).low ≡ 0
from_none (Array id size) root = refl
from_none (Tree id) root = refl

pub other_root : (decl : Decl) (root n : ℕ) → moved (root_place decl root) n ≡ root_place decl n
other_root (Array id size) root n = refl
other_root (Tree id) root n = refl

-- an array's root stands for all its indexes
all_indexes : (size : ℕ) → size ≤ 131072 → size ≤ last_index size + 1
all_indexes size h =
    elim (cases_lt 32 size) [
      | inr small ↦ let t : leb size 32 ≡ true = grind (arith, nat_tests) in rw t (omega arith)
      | inl more ↦
          let t : leb size 32 ≡ false = grind (arith, nat_tests) in
          elim (cases_lt 2048 size) [
            | inr middle ↦ let u : leb size 2048 ≡ true = grind (arith, nat_tests) in rw (t, u) (omega arith)
            | inl large ↦ let u : leb size 2048 ≡ false = grind (arith, nat_tests) in rw (t, u) (omega arith)
          ]
    ]

-- a storage with its root
abbrev stored_with : Decl → ℕ → Stored
stored_with d root = record { decl = d; root = root }

-- ---- at most so many pages one below another

levels_each : (size : ℕ) (run : List Last) (old : List (List ℕ)) (d : ℕ) (qs : List PagePlace) (before : ℕ)
    → ((q : PagePlace) (b : ℕ) → StandsTo array_format (IsArrayPage size) old d q → (array_one run old d q b).levels ≤ d)
    → AllByRecursion (StandsTo array_format (IsArrayPage size) old d) qs → (compose_each (array_one run old d) qs before).levels ≤ d
levels_each size run old d [] before one all = omega arith
levels_each size run old d (q ∷ qs) before one all =
    let first = one q before all.0 in
    let rest = levels_each size run old d qs (before + length (array_one run old d q before).pages) one all.1 in
    omega (arith, first, rest)

levels_written : (size : ℕ) (run : List Last) (old : List (List ℕ)) (d : ℕ) (p : PagePlace) (before : ℕ) (ws : List ℕ) (qs : List PagePlace)
    → ((q : PagePlace) (b : ℕ) → StandsTo array_format (IsArrayPage size) old d q → (array_one run old d q b).levels ≤ d)
    → AllByRecursion (StandsTo array_format (IsArrayPage size) old d) qs → (written array_writer ws p run before (array_one run old d) qs).levels ≤ suc d
levels_written size run old d p before ws [] one all = omega arith
levels_written size run old d p before ws (q ∷ qs) one all = let rest = levels_each size run old d (q ∷ qs) before one all in omega (arith, rest)

levels_within : (size : ℕ) (run : List Last) (old : List (List ℕ)) (d : ℕ) (p : PagePlace) (before : ℕ) → StandsTo array_format (IsArrayPage size) old d p → (array_one run old d p before).levels ≤ d
levels_within size run old zero p before s = absurd s
levels_within size run old (suc d) p before s =
    elim (touches run p.low p.high) as (λ b. (cond b (written array_writer (words_at old p) p run before (array_one run old d) (places_below array_format old p)) (record { number = p.number; pages = []; levels = suc d })).levels ≤ suc d) [
      | true ↦ levels_written size run old d p before (words_at old p) (places_below array_format old p) (λ q b. levels_within size run old d q b) s.below
      | false ↦ omega arith
    ]

-- ---- one storage

-- what is made for a root
abbrev IsRootMade : List Last → List (List ℕ) → List (List ℕ) → Decl → ℕ → Made → Type 0
IsRootMade run old siblings d root m = IsMade (format_of d) (IsPageOf d) (shape_of d) run old (old ++ siblings) m.pages deepest m.levels (root_place d root) m.number

-- what leads to fewer pages one below another
raised : (F : Format) (Is : PagePlace → List ℕ → Type 0) (S : List (List ℕ) → PagePlace → Type 0) (run : List Last) (old before made : List (List ℕ)) (depth levels : ℕ) (p : PagePlace) (n : ℕ) → levels ≤ depth
    → IsMade F Is S run old before made depth levels p n → IsMade F Is S run old before made depth depth p n
raised F Is S run old before made depth levels p n fits m = record {
  replaces = λ (later : List (List ℕ)) (d : ℕ) le. m.replaces later d (omega (arith, fits, le));
  order = λ (later : List (List ℕ)) (d : ℕ) le. m.order later d (omega (arith, fits, le));
  least = λ later d le t. le;
}

root_made : (run : List Last) (old siblings : List (List ℕ)) (d : Decl) (root : ℕ) → StandsTo (format_of d) (IsPageOf d) old deepest (root_place d root)
    → FitStorage d run → IsRootMade run old siblings d root (made_for d run old (root_place d root) (length (old ++ siblings)))
root_made run old siblings (Array id size) root stands fit =
    let p : PagePlace = root_place (Array id size) root in
    let m : Made = array_one run old deepest p (length (old ++ siblings)) in
    raised array_format (IsArrayPage size) AnyShape run old (old ++ siblings) m.pages deepest m.levels p m.number
    (levels_within size run old deepest p (length (old ++ siblings)) stands)
    (compose_right array_format (IsArrayPage size) AnyShape array_writer run old (arrays_lawful size run old fit.1) deepest p siblings stands)
root_made run old siblings (Tree id) root stands fit =
    compose_right tree_format IsTreePage TreeShape tree_writer run old (trees_lawful run old fit.0 fit.1) deepest (root_place (Tree id) root) siblings stands

-- the new storage with what is made
one_composed : (run : List Last) (old siblings later : List (List ℕ)) (d : ℕ) (s : Stored) (m : Made) → m.levels ≤ d → IsRootMade run old siblings s.decl s.root m
    → IsStorageComposed run old ((old ++ siblings) ++ (m.pages ++ later)) d s (record { decl = s.decl; root = m.number })
one_composed run old siblings later d s m le is = record { same = refl; replaces = is.replaces later d le }

one_newer : (run : List Last) (old siblings later : List (List ℕ)) (d : ℕ) (s : Stored) (m : Made) → m.levels ≤ d → IsRootMade run old siblings s.decl s.root m
    → newer_in ((old ++ siblings) ++ (m.pages ++ later)) (length old) d (record { decl = s.decl; root = m.number }) ≡ numbered (length (old ++ siblings) + 1) m.pages
one_newer run old siblings later d s m le is =
    ap (newer (format_of s.decl) ((old ++ siblings) ++ (m.pages ++ later)) (length old) d) (sym (other_root s.decl s.root m.number)) ∙ is.order later d le

one_least : (run : List Last) (old siblings later : List (List ℕ)) (s : Stored) (m : Made) → IsRootMade run old siblings s.decl s.root m
    → RootStands ((old ++ siblings) ++ (m.pages ++ later)) (record { decl = s.decl; root = m.number }) → m.levels ≤ deepest
one_least run old siblings later s m is stands =
    is.least later deepest (omega arith)
    (subst (λ (p : PagePlace). StandsTo (format_of s.decl) (IsPageOf s.decl) ((old ++ siblings) ++ (m.pages ++ later)) deepest p) (sym (other_root s.decl s.root m.number)) stands)

-- ---- all of them

pub record AllRight (run : List Entry) (old siblings later : List (List ℕ)) (d : ℕ) (ss : List Stored) (m : AllMade) : Type 0 where
  pub each : AreComposed run old ((old ++ siblings) ++ (m.pages ++ later)) d ss (with_roots ss m.numbers)
  pub order : newer_of ((old ++ siblings) ++ (m.pages ++ later)) (length old) d (with_roots ss m.numbers) ≡ numbered (length (old ++ siblings) + 1) m.pages
  pub count : length m.numbers ≡ length ss
  pub least : AllByRecursion (RootStands ((old ++ siblings) ++ (m.pages ++ later))) (with_roots ss m.numbers) → m.levels ≤ deepest

pub storages_right : (run : List Entry) (old : List (List ℕ)) (ss : List Stored) (siblings : List (List ℕ)) (before : ℕ) (later : List (List ℕ)) (d : ℕ) → before ≡ length (old ++ siblings) → AllByRecursion (IsReady run old) ss
    → (compose_storages run old ss before).levels ≤ d → AllRight run old siblings later d ss (compose_storages run old ss before)
storages_right run old [] siblings before later d e ready le = record { each = tt; order = refl; count = refl; least = λ stand. omega arith }
storages_right run old (s ∷ ss) siblings before later d e ready le =
    let part : List Last = part_of (id_of s.decl) run in
    let m : Made = compose_one run old s before in
    let r : AllMade = compose_storages run old ss (before + length m.pages) in
    let is : IsRootMade (part_of (id_of s.decl) run) old siblings s.decl s.root (compose_one run old s before) =
    subst (λ (b : ℕ). IsRootMade (part_of (id_of s.decl) run) old siblings s.decl s.root (compose_one run old s b)) (sym e) (root_made part old siblings s.decl s.root ready.0.stands ready.0.fit) in
    let count : before + length m.pages ≡ length (old ++ (siblings ++ m.pages)) = omega (arith, e, length-append old siblings, length-append old (siblings ++ m.pages), length-append siblings m.pages) in
    let fits : m.levels ≤ d = omega (arith, le) in
    let rest = storages_right run old ss (siblings ++ m.pages) (before + length m.pages) later d count ready.1 (omega (arith, le)) in
    let new : (old ++ siblings) ++ (m.pages ++ (r.pages ++ later)) ≡ (old ++ siblings) ++ ((m.pages ++ r.pages) ++ later) = ap (λ t. (old ++ siblings) ++ t) (sym (append_assoc m.pages r.pages later)) in
    let same : (old ++ (siblings ++ m.pages)) ++ (r.pages ++ later) ≡ (old ++ siblings) ++ ((m.pages ++ r.pages) ++ later) =
    ap (λ t. t ++ (r.pages ++ later)) (sym (append_assoc old siblings m.pages)) ∙ regroup (old ++ siblings) m.pages r.pages later in
    let here : Stored = record { decl = s.decl; root = m.number } in
    let first : newer_in ((old ++ siblings) ++ ((m.pages ++ r.pages) ++ later)) (length old) d here ≡ numbered (length (old ++ siblings) + 1) m.pages =
    ap (λ x. newer_in x (length old) d here) (sym new) ∙ one_newer part old siblings (r.pages ++ later) d s m fits is in
    let behind : newer_of ((old ++ siblings) ++ ((m.pages ++ r.pages) ++ later)) (length old) d (with_roots ss r.numbers) ≡ numbered (length (old ++ siblings) + 1 + length m.pages) r.pages =
    ap (λ x. newer_of x (length old) d (with_roots ss r.numbers)) (sym same) ∙ rest.order ∙ ap (λ k. numbered k r.pages) (omega (arith, count, e)) in
    record {
      each = (
        subst (λ (x : List (List ℕ)). IsStorageComposed (part_of (id_of s.decl) run) old x d s here) new (one_composed part old siblings (r.pages ++ later) d s m fits is),
        subst (λ (x : List (List ℕ)). AreComposed run old x d ss (with_roots ss r.numbers)) same rest.each,
      );
      order =
          ap (λ t. t ++ newer_of ((old ++ siblings) ++ ((m.pages ++ r.pages) ++ later)) (length old) d (with_roots ss r.numbers)) first
          ∙ ap (λ t. numbered (length (old ++ siblings) + 1) m.pages ++ t) behind
          ∙ sym (numbered-append (length (old ++ siblings) + 1) m.pages r.pages);
      count = ap suc rest.count;
      least = λ stand.
          let x : m.levels ≤ deepest = one_least part old siblings (r.pages ++ later) s m is (subst (λ (x : List (List ℕ)). RootStands x here) (sym new) stand.0) in
          let y : r.levels ≤ deepest = rest.least (subst (λ (x : List (List ℕ)). AllByRecursion (RootStands x) (with_roots ss r.numbers)) (sym same) stand.1) in
          omega (arith, x, y);
    }

-- ---- the content

-- a key above those of all entries has none
none_beyond : (high key : ℕ) (run : List Last) → AllByRecursion (λ e. e.key ≤ high) run → high < key → entry_for run key ≡ None
none_beyond high key [] all h = refl
none_beyond high key (e ∷ es) all h =
    ap (λ b. cond b (Some e) (entry_for es key)) (differs e.key key (omega (arith, all.0))) ∙ none_beyond high key es all.1 h
  where
    differs : (a b : ℕ) → a < b → eqb a b ≡ false
    differs a b h = grind (arith, nat_tests)

-- the entries of a storage that can be composed lie in an array's root's range
pub array_within : (id size root : ℕ) (part : List Last) → size ≤ 131072 → AllByRecursion (IsPut size) part → AllByRecursion (λ e. e.key ≤ (root_place (Array id size) root).high) part
array_within id size root part small puts =
    all_weaker (IsPut size) (λ e. e.key ≤ last_index size) (λ e put. omega (arith, put.key, all_indexes size small)) part puts

-- the record of each key, after composing
record_composed : (run : List Last) (old new : List (List ℕ)) (s : Stored) (n : ℕ) → AllByRecursion (λ e. e.key ≤ (root_place s.decl s.root).high) run
    → Replaces (format_of s.decl) (IsPageOf s.decl) (shape_of s.decl) run old new deepest deepest (root_place s.decl s.root) n
    → (key : ℕ) → record_in new (record { decl = s.decl; root = n }) key ≡ overlaid (record_in old s key) (entry_for run key)
record_composed run old new s n within replaces key =
    let same : (root_place s.decl n).high ≡ (root_place s.decl s.root).high = sym (ap PagePlace.high (other_root s.decl s.root n)) in
    elim (cases_lt (root_place s.decl s.root).high key) [
      | inl out ↦
          let beyond : (root_place s.decl n).high < key = omega arith in
          let none = none_beyond (root_place s.decl s.root).high key run within out in
          rw (above key (root_place s.decl n).high beyond, above key (root_place s.decl s.root).high out, none) refl
      | inr in_range ↦
          let fits : key ≤ (root_place s.decl n).high = omega arith in
          let least : (root_place s.decl s.root).low ≤ key = omega (arith, from_none s.decl s.root) in
          rw (at_most key (root_place s.decl n).high fits, at_most key (root_place s.decl s.root).high in_range)
          (ap (find (format_of s.decl) new deepest key) (sym (other_root s.decl s.root n)) ∙ replaces.content key least in_range)
    ]

-- each storage's records are those of the old one under the entries
pub each_overlaid : (run : List Entry) (old new : List (List ℕ)) (ss ts : List Stored) → AllByRecursion (IsWithin run) ss → AreComposed run old new deepest ss ts
    → EachOverlaid run (record_in old) (record_in new) ss ts
each_overlaid run old new [] [] within all = tt
each_overlaid run old new [] (t ∷ ts) within all = all
each_overlaid run old new (s ∷ ss) [] within all = all
each_overlaid run old new (s ∷ ss) (t ∷ ts) within all =
    let same : record { decl = t.decl; root = t.root } ≡ record { decl = s.decl; root = t.root } = ap (λ (d : Decl). stored_with d t.root) all.0.same in (
      ap id_of (sym all.0.same),
      λ key. ap (λ (x : Stored). record_in new x key) same
          ∙ record_composed (part_of (id_of s.decl) run) old new s t.root within.0 all.0.replaces key,
      each_overlaid run old new ss ts within.1 all.1,
    )

-- the new roots name pages that are there
pub roots_there : (run : List Entry) (old new : List (List ℕ)) (d : ℕ) (ss ts : List Stored) → AreComposed run old new d ss ts → AllByRecursion (λ t. t.root ≤ length new) ts
roots_there run old new d [] [] all = tt
roots_there run old new d [] (t ∷ ts) all = absurd all
roots_there run old new d (s ∷ ss) [] all = absurd all
roots_there run old new d (s ∷ ss) (t ∷ ts) all =
    (there_of (format_of s.decl) (IsPageOf s.decl) new d (moved (root_place s.decl s.root) t.root) all.0.replaces.stands, roots_there run old new d ss ts all.1)

-- the new roots stand
pub roots_stand : (run : List Entry) (old new : List (List ℕ)) (ss ts : List Stored) → AreComposed run old new deepest ss ts → AllByRecursion (RootStands new) ts
roots_stand run old new [] [] all = tt
roots_stand run old new [] (t ∷ ts) all = absurd all
roots_stand run old new (s ∷ ss) [] all = absurd all
roots_stand run old new (s ∷ ss) (t ∷ ts) all =
    let same : record { decl = t.decl; root = t.root } ≡ record { decl = s.decl; root = t.root } = ap (λ (d : Decl). stored_with d t.root) all.0.same in (
      subst (λ (x : Stored). RootStands new x) (sym same)
          (subst (λ (p : PagePlace). StandsTo (format_of s.decl) (IsPageOf s.decl) new deepest p) (other_root s.decl s.root t.root) all.0.replaces.stands),
      roots_stand run old new ss ts all.1,
    )
