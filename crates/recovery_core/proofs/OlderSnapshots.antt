-- Pages of older snapshots: that no number is above their epoch isn't asked of them.
use Rattle.std.proofs.Common.{◌≡◌, ℕ, zero, suc, ◌+◌, ◌*◌, ◌-◌, ◌/◌, ◌^◌, ◌<◌, ◌≤◌, true, false, List, []}
use Rattle.std.proofs.Common.{◌∷◌, Option, Some, None, inl, inr, refl, sym, subst, reverse, lit<, arith}
use Rattle.std.specs.Prelude.{cond, take, drop, IfSome, ◌==◌, slice_index}
use Rattle.std.specs.List.{AllByRecursion, Contains}
use Rattle.std.proofs.lemmas.List.{reverse-append}
use Rattle.lists.specs.Each.{all_weaker, all_append}
use Rattle.lists.specs.Elements.{in_none, in_cases}
use Rattle.serial_model.specs.declared.decl.Decl.{Decl}
use Rattle.serial_model.specs.declared.decl.Decl.TheVariants.{Array, Tree}
use Rattle.wire_form.specs.Pages.{Contents, IsCatalogue, IsStored}
use Rattle.wire_form.specs.declared.records.Stored.{Stored}
use Rattle.snapshot_store.specs.declared.place.PagePlace.{PagePlace}
use Rattle.snapshot_store.specs.Places.{Found, Format, page, words_at, places_below, StandsTo}
use Rattle.snapshot_store.specs.ArrayPages.{array_found}
use Rattle.snapshot_store.specs.TreePages.{records_at, node_of, count_of, records_of, record_for}
use Rattle.snapshot_store.specs.TreePages.Node.{Leaf, Inner}
use Rattle.snapshot_store.specs.Content.{deepest, root_place, format_of, words_of, IsPageOf, RootStands}
use Rattle.snapshot_store.specs.Content.{CatalogueAt}
use Rattle.recovery_core.specs.Catalogues.{AreCatalogues, marks_of}
use Rattle.recovery_core.specs.Damage.{FirstBad, BreaksTo, RootBreaks}
use Rattle.recovery_core.specs.SnapshotPages.{epoch_in, IsPageUpTo, RootStandsUpTo}
use Rattle.recovery_core.specs.Recovered.{HasSnapshots, IsUp}
use Rattle.recovery_core.specs.Snapshots.{RootBreaksAt}
use Rattle.log_writer.specs.declared.saved.Saved.{Saved}
use Rattle.recovery_core.specs.declared.chain.SnapshotMark.{SnapshotMark}
use Rattle.recovery_core.specs.declared.recovered.Recovered.{Recovered}

-- ---- numbers in words of 64 bits

-- words of 64 bits
abbrev Fit : List ℕ → Type 0
Fit words = AllByRecursion (λ w. w < 2 ^ 64) words

-- such is each page
fit_page : (pages : List (List ℕ)) → AllByRecursion Fit pages → (n : ℕ) → Fit (page pages n)
fit_page pages all zero = tt
fit_page [] all (suc n) = tt
fit_page (w ∷ ws) all (suc zero) = all.0
fit_page (w ∷ ws) all (suc (suc n)) = fit_page ws all.1 (suc n)

fit_word : (words : List ℕ) → Fit words → (i : ℕ) → slice_index words i < 2 ^ 64
fit_word [] fit i = lit< tt
fit_word (w ∷ ws) fit zero = fit.0
fit_word (w ∷ ws) fit (suc i) = fit_word ws fit.1 i

fit_rest : (n : ℕ) (words : List ℕ) → Fit words → Fit (drop n words)
fit_rest zero words fit = fit
fit_rest (suc n) [] fit = tt
fit_rest (suc n) (w ∷ ws) fit = fit_rest n ws fit.1

-- a record that was found has such a number
abbrev IsSmall : Option Found → Type 0
IsSmall o = IfSome o (λ found. epoch_in found.number ≤ 4294967295)

small : (number : ℕ) → number < 2 ^ 64 → epoch_in number ≤ 4294967295
small number fit = omega (arith, fit)

array_small : (number value : ℕ) → number < 2 ^ 64 → IsSmall (array_found number value)
array_small number value fit =
    elim (number == 0) as (λ b. IsSmall (cond b None (Some (record { number = number; value = value })))) [
      | true ↦ tt
      | false ↦ small number fit
    ]

records_small : (n : ℕ) (words : List ℕ) → Fit words → (key : ℕ) → IsSmall (record_for (records_at n words) key)
records_small zero words fit key = tt
records_small (suc n) words fit key =
    elim (slice_index words 0 == key) as (λ b. IsSmall (cond b
    (Some (record { number = slice_index words 1; value = slice_index words 2 }))
    (record_for (records_at n (drop 3 words)) key))) [
      | true ↦ small (slice_index words 1) (fit_word words fit 1)
      | false ↦ records_small n (drop 3 words) (fit_rest 3 words fit) key
    ]

tree_small : (words : List ℕ) → Fit words → (key : ℕ) → IsSmall (record_for (records_of (node_of words)) key)
tree_small words fit key =
    elim (slice_index words 0 / 256 == 2) as (λ b. IsSmall (record_for (records_of (cond b
    (Inner (take (count_of words - 1) (drop 34 words)) (take (count_of words) (drop 4 words)))
    (Leaf (records_at (count_of words) (drop 16 words))))) key)) [
      | true ↦ tt
      | false ↦ records_small (count_of words) (drop 16 words) (fit_rest 16 words fit) key
    ]

look_small : (d : Decl) (words : List ℕ) → Fit words → (low key : ℕ) → IsSmall ((format_of d).look words low key)
look_small (Array id size) words fit low key =
    array_small _ _ (fit_word words fit (2 * (key - low)))
look_small (Tree id) words fit low key = tree_small words fit key

-- ---- pages that are right by two tests alike

module _ (F : Format) (Is Js : PagePlace → List ℕ → Type 0) (pages : List (List ℕ))
    (one : (p : PagePlace) → Is p (words_at pages p) → Js p (words_at pages p))
    (other : (p : PagePlace) → Js p (words_at pages p) → Is p (words_at pages p)) where
  stands_alike : (d : ℕ) (p : PagePlace) → StandsTo F Is pages d p → StandsTo F Js pages d p
  stands_alike zero p stands = absurd stands
  stands_alike (suc d) p stands = record {
    there = stands.there;
    right = one p stands.right;
    tiles = stands.tiles;
    below = all_weaker (StandsTo F Is pages d) (StandsTo F Js pages d) (stands_alike d) (places_below F pages p)
        stands.below;
  }

-- what is bad by one test is so by another, where what is good by it is good by the other
first_alike : {X : Type 0} (Good Good' Bad Bad' : X → Type 0) → ((x : X) → Good x → Good' x)
    → ((x : X) → Bad x → Bad' x) → (xs : List X) → FirstBad Good Bad xs → FirstBad Good' Bad' xs
first_alike Good Good' Bad Bad' good bad [] first = absurd first
first_alike Good Good' Bad Bad' good bad (x ∷ xs) (inl here) = inl (bad x here)
first_alike Good Good' Bad Bad' good bad (x ∷ xs) (inr later) =
    inr (good x later.0, first_alike Good Good' Bad Bad' good bad xs later.1)

module _ (F : Format) (Is Js : PagePlace → List ℕ → Type 0) (pages : List (List ℕ))
    (one : (p : PagePlace) → Is p (words_at pages p) → Js p (words_at pages p))
    (other : (p : PagePlace) → Js p (words_at pages p) → Is p (words_at pages p)) where
  breaks_alike : (at d : ℕ) (p : PagePlace) → BreaksTo F Is pages at d p → BreaksTo F Js pages at d p
  breaks_alike at zero p breaks = breaks
  breaks_alike at (suc d) p (inl here) = inl ((λ is. here.0 (other p is)), here.1)
  breaks_alike at (suc d) p (inr below) = inr (
    one p below.0,
    first_alike (StandsTo F Is pages d) (StandsTo F Js pages d) (BreaksTo F Is pages at d) (BreaksTo F Js pages at d)
        (stands_alike F Is Js pages one other d) (breaks_alike at d) (places_below F pages p) below.1,
  )

-- ---- roots

module _ (pages : List (List ℕ)) (fit : AllByRecursion Fit pages) where
  plain : (d : Decl) (p : PagePlace) → IsPageUpTo 4294967295 d p (words_at pages p) → IsPageOf d p (words_at pages p)
  plain d p is = is.page

  bounded : (d : Decl) (p : PagePlace) → IsPageOf d p (words_at pages p) → IsPageUpTo 4294967295 d p (words_at pages p)
  bounded d p is = record {
    page = is;
    numbers = λ leaf key from to. look_small d (words_at pages p) (fit_page pages fit p.number) p.low key;
  }

  root_plain : (s : Stored) → RootStandsUpTo 4294967295 pages s → RootStands pages s
  root_plain s = stands_alike (format_of s.decl) (IsPageUpTo 4294967295 s.decl) (IsPageOf s.decl) pages
      (plain s.decl) (bounded s.decl) deepest (root_place s.decl s.root)

  -- roots stand
  pub roots_stand : (storages : List Stored) → AllByRecursion (RootStandsUpTo 4294967295 pages) storages
      → AllByRecursion (RootStands pages) storages
  roots_stand storages all = all_weaker (RootStandsUpTo 4294967295 pages) (RootStands pages) root_plain storages all

  -- or the first page that isn't right is told
  pub roots_break : (at : ℕ) (storages : List Stored)
      → FirstBad (RootStandsUpTo 4294967295 pages) (RootBreaks 4294967295 pages at) storages
      → FirstBad (RootStands pages) (RootBreaksAt pages at) storages
  roots_break at storages first = first_alike (RootStandsUpTo 4294967295 pages) (RootStands pages)
      (RootBreaks 4294967295 pages at) (RootBreaksAt pages at) root_plain
      (λ s. breaks_alike (format_of s.decl) (IsPageUpTo 4294967295 s.decl) (IsPageOf s.decl) pages
      (plain s.decl) (bounded s.decl) at deepest (root_place s.decl s.root)) storages first

-- a catalogue's roots are pages before it
pub roots_there : (number page : ℕ) (c : Contents) (storages : List Stored) {most : ℕ} → storages ≡ c.storages
    → IsCatalogue number c → number ≡ page → page ≤ most → AllByRecursion (λ s. s.root ≤ most) storages
roots_there number page c storages {most = most} same is here le =
    subst (AllByRecursion (λ s. s.root ≤ most)) (sym same)
    (all_weaker (IsStored number) (λ s. s.root ≤ most) (λ s stored. omega (arith, stored.root, here, le)) c.storages
    is.each)

-- ---- the marks of catalogues

-- a catalogue of the mark's epoch stands on its page
pub record IsMark (pages : List (List ℕ)) (mark : SnapshotMark) : Type 0 where
  pub first : 1 ≤ mark.page
  pub contents : Contents
  pub here : CatalogueAt pages mark.page contents
  pub epoch : contents.epoch ≡ mark.epoch

are_marks : (pages : List (List ℕ)) (limit : ℕ) (declared : Option (List Decl)) (number : ℕ) (cs : List Contents)
    → AreCatalogues pages limit declared number cs → AllByRecursion (IsMark pages) (marks_of number cs)
are_marks pages limit declared number [] chain = tt
are_marks pages limit declared number (c ∷ cs) chain = (
  record { first = chain.0; contents = c; here = chain.1.here; epoch = refl },
  are_marks pages c.epoch _ c.previous cs chain.2,
)

all_reverse : {X : Type 0} (P : X → Type 0) (xs : List X) → AllByRecursion P xs → AllByRecursion P (reverse xs)
all_reverse P [] all = tt
all_reverse P (x ∷ xs) all = subst (AllByRecursion P) (sym (reverse-append (x ∷ []) xs))
    (all_append P (reverse xs) (x ∷ []) (all_reverse P xs all.1) (all.0, tt))

-- what holds of all holds of one of them
all_at : {X : Type 0} (P : X → Type 0) (xs : List X) (x : X) → AllByRecursion P xs → Contains xs x → P x
all_at P [] x all has = absurd (in_none x has)
all_at P (y ∷ ys) x all has =
    elim (in_cases x y ys has) [ inl here ↦ subst P here all.0 | inr later ↦ all_at P ys x all.1 later ]

-- so it is of each catalogue that was recovered
pub mark_stands : (pages : List (List ℕ)) (limit number : ℕ) (cs : List Contents) (marks : List SnapshotMark)
    (mark : SnapshotMark) → AreCatalogues pages limit None number cs → marks ≡ reverse (marks_of number cs)
    → Contains marks mark → IsMark pages mark
mark_stands pages limit number cs marks mark chain same has =
    all_at (IsMark pages) marks mark (subst (AllByRecursion (IsMark pages)) (sym same)
    (all_reverse (IsMark pages) (marks_of number cs) (are_marks pages limit None number cs chain))) has

by_saved : (r : Recovered) (mark : SnapshotMark) → Contains r.catalogues mark → (saved : Option Saved)
    → HasSnapshots r saved → IsMark (words_of r.store.pages) mark
by_saved r mark has None none = absurd (in_none mark (subst (λ l. Contains l mark) none.0 has))
by_saved r mark has (Some s) stand = mark_stands (words_of r.store.pages) (s.epoch + 1) s.catalogue stand.catalogues
    r.catalogues mark stand.chain stand.marks has

-- whatever the devices told, it is so of each mark that was recovered
pub mark_up : (r : Recovered) (mark : SnapshotMark) → IsUp r → Contains r.catalogues mark
    → IsMark (words_of r.store.pages) mark
mark_up r mark up has = by_saved r mark has r.saved up.snapshots
