-- What devices say that name the savepoint behind a composition: the state that was recovered.
use Rattle.std.proofs.Common.{◌≡◌, ℕ, ◌<◌, ◌≤◌, List, [], ◌∷◌, ◌++◌, Option, Some, None}
use Rattle.std.proofs.Common.{true, false, refl, sym, ap, subst, ◌∙◌, map, arith}
use Rattle.std.specs.Prelude.{cond, ◌==◌}
use Rattle.std.specs.List.{AllByRecursion}
use Rattle.serial_model.specs.Keys.{id_of}
use Rattle.serial_model.specs.Numbers.{IsNumber}
use Rattle.serial_model.specs.declared.decl.Decl.{Decl}
use Rattle.serial_model.specs.declared.decl.Decl.TheVariants.{Array, Tree}
use Rattle.serial_model.specs.declared.number.Number.{Number}
use Rattle.wire_form.specs.ContentLaws.{one_catalogue}
use Rattle.wire_form.specs.Pages.{Contents, decls_of, stored_decl}
use Rattle.wire_form.specs.Words.{number_word}
use Rattle.wire_form.specs.declared.bucket.Entry.{Entry}
use Rattle.wire_form.specs.declared.records.Stored.{Stored}
use Rattle.snapshot_store.specs.Places.{Found, moved, find, StandsTo}
use Rattle.snapshot_store.specs.Content.{deepest, root_place, format_of}
use Rattle.snapshot_store.specs.Content.{CatalogueAt}
use Rattle.snapshot_store.specs.ContentLaws.{catalogue-append}
use Rattle.root_composer.specs.Composition.{IsEntryOf}
use Rattle.root_composer.specs.Overlaid.{entry_for, overlaid}
use Rattle.root_composer.specs.Storages.{part_of, last_of, IsStorageComposed, AreComposed}
use Rattle.root_composer.specs.declared.last.Last.{Last}
use Rattle.recovery_core.specs.Catalogues.{AreCatalogues, newest_epoch, newest_decls}
use Rattle.recovery_core.specs.SnapshotPages.{epoch_in, IsPageUpTo, RootStandsUpTo}
use Rattle.checkpoints.specs.Bounded.{IsUpTo, found_up_to, stands_up_to}

-- ---- numbers of a run

-- the epoch that a number's word has
epoch_of_word : (n : Number) → IsNumber n → epoch_in (number_word n) ≡ n.epoch
epoch_of_word n is = omega (arith, is.most_draw)

-- an entry of one storage has an epoch up to this one
abbrev IsEarly : ℕ → Last → Type 0
IsEarly epoch l = epoch_in l.number ≤ epoch

part_early : (decls : List Decl) (epoch id : ℕ) (run : List Entry) → AllByRecursion (IsEntryOf decls epoch) run
    → AllByRecursion (IsEarly epoch) (part_of id run)
part_early decls epoch id [] all = tt
part_early decls epoch id (e ∷ es) all =
    elim (e.key.storage == id) as (λ b. AllByRecursion (IsEarly epoch)
    (cond b (last_of e ∷ part_of id es) (part_of id es))) [
      | true ↦ (omega (arith, epoch_of_word e.number all.0.number, all.0.epoch_is), part_early decls epoch id es all.1)
      | false ↦ part_early decls epoch id es all.1
    ]

-- so a record under such entries has one too
overlaid_early : (epoch : ℕ) (old : Option Found) (part : List Last) (key : ℕ) → IsUpTo epoch old
    → AllByRecursion (IsEarly epoch) part → IsUpTo epoch (overlaid old (entry_for part key))
overlaid_early epoch old [] key was all = was
overlaid_early epoch old (l ∷ ls) key was all =
    elim (l.key == key) as (λ b. IsUpTo epoch (overlaid old (cond b (Some l) (entry_for ls key)))) [
      | true ↦ put l.value
      | false ↦ overlaid_early epoch old ls key was all.1
    ]
  where
    put : (value : Option ℕ)
        → IsUpTo epoch (overlaid old (Some (record { key = l.key; number = l.number; value = value })))
    put None = tt
    put (Some v) = all.0

-- ---- the storages of the new snapshot

-- a root's place, with another page
moved_root : (d : Decl) (a b : ℕ) → moved (root_place d a) b ≡ root_place d b
moved_root (Array id size) a b = refl
moved_root (Tree id) a b = refl

later_found : (low high : ℕ) (o : Option Found) → low ≤ high → IsUpTo low o → IsUpTo high o
later_found low high None le is = tt
later_found low high (Some f) le is = omega (arith, le, is)

module _ (run : List Entry) (decls : List Decl) (pages all : List (List ℕ)) (was epoch : ℕ) (le : was ≤ epoch)
    (entries : AllByRecursion (IsEntryOf decls epoch) run) where
  -- a composed storage's pages have no later record, where the old one's have none
  root_early : (s t : Stored) → IsStorageComposed (part_of (id_of s.decl) run) pages all deepest s t
      → RootStandsUpTo was pages s → RootStandsUpTo epoch all t
  root_early s t composed stands =
      let p = root_place s.decl s.root in
      let early : StandsTo (format_of s.decl) (IsPageUpTo epoch s.decl) all deepest (moved p t.root) =
      stands_up_to epoch s.decl all deepest (moved p t.root) composed.replaces.stands
      (λ key from to. subst (IsUpTo epoch) (sym (composed.replaces.content key from to))
      (overlaid_early epoch (find (format_of s.decl) pages deepest key p) (part_of (id_of s.decl) run) key
      (later_found was epoch (find (format_of s.decl) pages deepest key p) le
      (found_up_to was s.decl pages deepest p stands key from to))
      (part_early decls epoch (id_of s.decl) run entries))) in
      subst (λ d. StandsTo (format_of d) (IsPageUpTo epoch d) all deepest (root_place d t.root)) (sym composed.same)
      (subst (StandsTo (format_of s.decl) (IsPageUpTo epoch s.decl) all deepest) (moved_root s.decl s.root t.root)
      early)

  pub roots_early : (ss ts : List Stored) → AreComposed run pages all deepest ss ts
      → AllByRecursion (RootStandsUpTo was pages) ss → AllByRecursion (RootStandsUpTo epoch all) ts
  roots_early [] [] composed stands = tt
  roots_early [] (t ∷ ts) composed stands = absurd composed
  roots_early (s ∷ ss) [] composed stands = absurd composed
  roots_early (s ∷ ss) (t ∷ ts) composed stands =
      (root_early s t composed.0 stands.0, roots_early ss ts composed.1 stands.1)

-- they are the same storages
pub same_storages : (run : List Entry) (pages all : List (List ℕ)) (depth : ℕ) (ss ts : List Stored)
    → AreComposed run pages all depth ss ts → map stored_decl ts ≡ map stored_decl ss
same_storages run pages all depth [] [] composed = refl
same_storages run pages all depth [] (t ∷ ts) composed = absurd composed
same_storages run pages all depth (s ∷ ss) [] composed = absurd composed
same_storages run pages all depth (s ∷ ss) (t ∷ ts) composed =
    ap (λ d. d ∷ map stored_decl ts) composed.0.same
    ∙ ap (λ ds. stored_decl s ∷ ds) (same_storages run pages all depth ss ts composed.1)

-- ---- the catalogues

-- catalogues stay, whatever pages are added
pub chain-append : (pages more : List (List ℕ)) (limit : ℕ) (declared : Option (List Decl)) (number : ℕ)
    (cs : List Contents) → AreCatalogues pages limit declared number cs
    → AreCatalogues (pages ++ more) limit declared number cs
chain-append pages more limit declared number [] chain = chain
chain-append pages more limit declared number (c ∷ cs) chain = (
  chain.0,
  record {
    here = catalogue-append pages more number c chain.1.here;
    epoch = chain.1.epoch;
    decls = chain.1.decls;
    first = chain.1.first;
  },
  chain-append pages more c.epoch (Some (decls_of c)) c.previous cs chain.2,
)

-- and the newest may stand below a later one of the same storages
pub chain_below : (pages : List (List ℕ)) (limit next number : ℕ) (decls : List Decl) (cs : List Contents) → 1 ≤ number
    → AreCatalogues pages limit None number cs → newest_epoch cs < next → decls ≡ newest_decls cs
    → AreCatalogues pages next (Some decls) number cs
chain_below pages limit next number decls [] some chain below same = absurd (omega (arith, some, chain))
chain_below pages limit next number decls (c ∷ cs) some chain below same = (
  chain.0,
  record { here = chain.1.here; epoch = below; decls = sym same; first = chain.1.first },
  chain.2,
)

-- the newest catalogue is the one on its page
pub newest_is : (pages : List (List ℕ)) (limit number : ℕ) (cs : List Contents) (c : Contents) → 1 ≤ number
    → AreCatalogues pages limit None number cs → CatalogueAt pages number c
    → (rest : List Contents) × (cs ≡ c ∷ rest)
newest_is pages limit number [] c some chain here = absurd (omega (arith, some, chain))
newest_is pages limit number (d ∷ ds) c some chain here = (
  ds,
  ap (λ x. x ∷ ds) (one_catalogue number d c chain.1.here.catalogue here.catalogue
      (sym chain.1.here.words ∙ here.words)),
)
