-- Devices that say something are not damaged, and damaged ones are so at one byte of one device.
use Rattle.std.specs.Prelude.{◌≡◌, ℕ, zero, suc, ◌+◌, ◌*◌, ◌<◌, List, [], ◌∷◌, Option, Some, None, length, take, get_or}
use Rattle.std.proofs.Common.{inl, inr, refl, sym, ap, ◌∙◌, subst, arith}
use Rattle.std.specs.List.{AllByRecursion}
use Rattle.std.proofs.lemmas.Bool.{cases_lt}
use Rattle.std.proofs.lemmas.Option.{same_Some}
use Rattle.outside.specs.declared.device.Device.{Device}
use Rattle.outside.specs.declared.device.Device.TheVariants.{Save, Snaps, Bank}
use Rattle.serial_model.specs.declared.decl.Decl.{Decl}
use Rattle.serial_model.specs.declared.number.Commit.{Commit}
use Rattle.wire_form.specs.ContentLaws.{one_catalogue}
use Rattle.wire_form.specs.LogFileLaws.{damaged_no_lines, one_damage}
use Rattle.wire_form.specs.Pages.{Contents, decls_of}
use Rattle.wire_form.specs.declared.savepoint.Savepoint.{Savepoint}
use Rattle.log_writer.specs.Newest.{names_one}
use Rattle.log_writer.specs.Save.{Names, IsDamaged}
use Rattle.snapshot_store.specs.declared.place.PagePlace.{PagePlace}
use Rattle.snapshot_store.specs.Places.{Format, places_below, StandsTo}
use Rattle.snapshot_store.specs.Content.{deepest, root_place, format_of}
use Rattle.joint_crashes.specs.Images.{Images, counted_of}
use Rattle.recovery_core.specs.Catalogues.{HasPages, AreCatalogues, newest_epoch, newest_storages, newest_decls}
use Rattle.recovery_core.specs.SnapshotPages.{IsPageUpTo, RootStandsUpTo}
use Rattle.recovery_core.specs.LogEntries.{IsCountedFile}
use Rattle.recovery_core.specs.Recoverable.{Reading, ReadsPages, ReadsSaved, ReadsBy, IsReading}
use Rattle.recovery_core.specs.RecoverableLaws.{one_pages, one_chain}
use Rattle.recovery_core.specs.Damage.{FirstBad, CataloguesBreak, BreaksTo, RootBreaks, FileBreaks, FilesBreak}
use Rattle.recovery_core.specs.Damage.{SnapsBreak, LogsBreak, IsDamagedIn}

-- ---- the first bad one of some things

-- where all are good none is bad
pub none_bad : {X : Type 0} (Good Bad : X → Type 0) → ((x : X) → Good x → Bad x → ⊥) → (xs : List X)
    → AllByRecursion Good xs → FirstBad Good Bad xs → ⊥
none_bad Good Bad apart [] all bad = bad
none_bad Good Bad apart (x ∷ xs) all (inl here) = apart x all.0 here
none_bad Good Bad apart (x ∷ xs) all (inr later) = none_bad Good Bad apart xs all.1 later.1

-- and it is one
pub one_bad : {X : Type 0} (Good : X → Type 0) (Bad : ℕ → X → Type 0) (a b : ℕ) → ((x : X) → Good x → Bad a x → ⊥)
    → ((x : X) → Good x → Bad b x → ⊥)
    → ((x : X) → Bad a x → Bad b x → a ≡ b) → (xs : List X) → FirstBad Good (Bad a) xs → FirstBad Good (Bad b) xs
    → a ≡ b
one_bad Good Bad a b apart_a apart_b one [] p q = absurd p
one_bad Good Bad a b apart_a apart_b one (x ∷ xs) (inl p) (inl q) = one x p q
one_bad Good Bad a b apart_a apart_b one (x ∷ xs) (inl p) (inr q) = absurd (apart_a x q.0 p)
one_bad Good Bad a b apart_a apart_b one (x ∷ xs) (inr p) (inl q) = absurd (apart_b x p.0 q)
one_bad Good Bad a b apart_a apart_b one (x ∷ xs) (inr p) (inr q) = one_bad Good Bad a b apart_a apart_b one xs p.1 q.1

-- ---- catalogues

-- catalogues down to the first of all do not break
pub chain_stands : (pages : List (List ℕ)) (limit : ℕ) (declared : Option (List Decl)) (number at : ℕ)
    (cs front : List Contents)
    → AreCatalogues pages limit declared number cs → CataloguesBreak pages limit declared number front at → ⊥
chain_stands pages limit declared number at [] [] are breaks = omega (arith, are, breaks.0)
chain_stands pages limit declared number at [] (d ∷ ds) are breaks = omega (arith, are, breaks.0)
chain_stands pages limit declared number at (c ∷ cs) [] are breaks = breaks.2 c are.1
chain_stands pages limit declared number at (c ∷ cs) (d ∷ ds) are breaks =
    let same : d ≡ c = one_catalogue number d c breaks.1.here.catalogue are.1.here.catalogue
    (sym breaks.1.here.words ∙ are.1.here.words) in
    chain_stands pages c.epoch (Some (decls_of c)) c.previous at cs ds are.2
    (subst (λ (x : Contents). CataloguesBreak pages x.epoch (Some (decls_of x)) x.previous ds at) same breaks.2)

-- and where they break, they break at one byte
pub one_break : (pages : List (List ℕ)) (limit : ℕ) (declared : Option (List Decl)) (number a b : ℕ)
    (cs ds : List Contents)
    → CataloguesBreak pages limit declared number cs a → CataloguesBreak pages limit declared number ds b → a ≡ b
one_break pages limit declared number a b [] [] p q = p.1 ∙ sym q.1
one_break pages limit declared number a b [] (d ∷ ds) p q = absurd (p.2 d q.1)
one_break pages limit declared number a b (c ∷ cs) [] p q = absurd (q.2 c p.1)
one_break pages limit declared number a b (c ∷ cs) (d ∷ ds) p q =
    let same : d ≡ c = one_catalogue number d c q.1.here.catalogue p.1.here.catalogue
    (sym q.1.here.words ∙ p.1.here.words) in
    one_break pages c.epoch (Some (decls_of c)) c.previous a b cs ds p.2
    (subst (λ (x : Contents). CataloguesBreak pages x.epoch (Some (decls_of x)) x.previous ds b) same q.2)

-- ---- pages below a place

-- a page that stands with all below it doesn't break
pub stands_whole : (F : Format) (Is : PagePlace → List ℕ → Type 0) (pages : List (List ℕ)) (at d : ℕ) (p : PagePlace)
    → StandsTo F Is pages d p → BreaksTo F Is pages at d p → ⊥
stands_whole F Is pages at zero p stands breaks = stands
stands_whole F Is pages at (suc d) p stands (inl wrong) = wrong.0 stands.right
stands_whole F Is pages at (suc d) p stands (inr below) =
    none_bad (StandsTo F Is pages d) (BreaksTo F Is pages at d) (stands_whole F Is pages at d)
    (places_below F pages p) stands.below below.1

-- and one that breaks does so at one byte
pub one_page_breaks : (F : Format) (Is : PagePlace → List ℕ → Type 0) (pages : List (List ℕ)) (a b d : ℕ) (p : PagePlace)
    → BreaksTo F Is pages a d p → BreaksTo F Is pages b d p → a ≡ b
one_page_breaks F Is pages a b zero p first second = first ∙ sym second
one_page_breaks F Is pages a b (suc d) p (inl first) (inl second) = first.1 ∙ sym second.1
one_page_breaks F Is pages a b (suc d) p (inl first) (inr second) = absurd (first.0 second.0)
one_page_breaks F Is pages a b (suc d) p (inr first) (inl second) = absurd (second.0 first.0)
one_page_breaks F Is pages a b (suc d) p (inr first) (inr second) =
    one_bad (StandsTo F Is pages d) (λ at. BreaksTo F Is pages at d) a b (stands_whole F Is pages a d)
    (stands_whole F Is pages b d)
    (one_page_breaks F Is pages a b d) (places_below F pages p) first.1 second.1

-- ---- log files

-- counted lines don't break
pub file_stands : (decls : List Decl) (count : ℕ) (bytes : List ℕ) (at : ℕ) (lines : List Commit)
    → IsCountedFile decls count bytes lines → FileBreaks decls count bytes at → ⊥
file_stands decls count bytes at lines counted (inl short) = omega (arith, counted.there, short.0)
file_stands decls count bytes at lines counted (inr damaged) =
    damaged_no_lines decls None (take count bytes) at lines damaged.1 counted.lines_are

-- and a log file that breaks does so at one byte
pub one_file_breaks : (decls : List Decl) (count : ℕ) (bytes : List ℕ) (a b : ℕ) → FileBreaks decls count bytes a
    → FileBreaks decls count bytes b → a ≡ b
one_file_breaks decls count bytes a b (inl p) (inl q) = p.1 ∙ sym q.1
one_file_breaks decls count bytes a b (inl p) (inr q) = absurd (omega (arith, p.0, q.0))
one_file_breaks decls count bytes a b (inr p) (inl q) = absurd (omega (arith, p.0, q.0))
one_file_breaks decls count bytes a b (inr p) (inr q) = one_damage decls None (take count bytes) a b p.1 q.1

-- ---- all devices

-- a device that names a savepoint, or none, isn't damaged
pub save_stands : (file : List ℕ) (point : Option Savepoint) (at : ℕ) → Names file point → IsDamaged file at → ⊥
save_stands file point at names damaged = elim damaged.cause [
  | inl long ↦ long.0 names.size
  | inr open_one ↦ elim open_one [
    | inl first ↦ first.1 names.first names.in_first
    | inr second ↦ second.3 names.second names.in_second
  ]
]

-- and one that is damaged is so at one byte
pub one_save_damage : (file : List ℕ) (a b : ℕ) → IsDamaged file a → IsDamaged file b → a ≡ b
one_save_damage file a b p q = elim p.cause [
  | inl x ↦ elim q.cause [
    | inl y ↦ x.1 ∙ sym y.1
    | inr ys ↦ elim ys [ inl y ↦ absurd (x.0 y.0) | inr y ↦ absurd (x.0 y.0) ]
  ]
  | inr xs ↦ elim xs [
    | inl x ↦ elim q.cause [
      | inl y ↦ absurd (y.0 x.0)
      | inr ys ↦ elim ys [ inl y ↦ x.2 ∙ sym y.2 | inr y ↦ absurd (x.1 y.1 y.2) ]
    ]
    | inr x ↦ elim q.cause [
      | inl y ↦ absurd (y.0 x.0)
      | inr ys ↦ elim ys [ inl y ↦ absurd (y.1 x.1 x.2) | inr y ↦ x.4 ∙ sym y.4 ]
    ]
  ]
]

-- the pages that count, where the catalogues stand, are one list, and so are the catalogues
same_snapshot : (snaps : List ℕ) (p : Savepoint) (pages others : List (List ℕ)) (cs ds : List Contents)
    → HasPages snaps p.count pages → HasPages snaps p.count others
    → AreCatalogues pages (p.epoch + 1) None p.catalogue cs → AreCatalogues others (p.epoch + 1) None p.catalogue ds
    → (others ≡ pages) × (ds ≡ cs)
same_snapshot snaps p pages others cs ds has has_others chain chain_others =
    let same : others ≡ pages = one_pages snaps p.count others pages has_others has in (
      same,
      one_chain pages (p.epoch + 1) None p.catalogue ds cs
          (subst (λ x. AreCatalogues x (p.epoch + 1) None p.catalogue ds) same chain_others) chain,
    )

-- a device with all pages that count isn't shorter
pub has_all : (snaps : List ℕ) (count : ℕ) (pages : List (List ℕ)) → HasPages snaps count pages
    → length snaps < 512 * count → ⊥
has_all snaps zero pages has short = omega (arith, short)
has_all snaps (suc n) pages has short = omega (arith, short, (has.each (suc n) (omega arith) (omega arith)).inside)

-- snapshots that are in their grammar don't break
pub snaps_stand : (snaps : List ℕ) (p : Savepoint) (at : ℕ) (pages : List (List ℕ)) (cs : List Contents)
    → ReadsPages snaps p pages cs → SnapsBreak snaps p at → ⊥
snaps_stand snaps p at pages cs reads (inl short) = has_all snaps p.count pages reads.has short.0
snaps_stand snaps p at pages cs reads (inr (inl chain)) =
    let same : chain.pages ≡ pages = one_pages snaps p.count chain.pages pages chain.has reads.has in
    chain_stands pages (p.epoch + 1) None p.catalogue at cs chain.front reads.chain
    (subst (λ x. CataloguesBreak x (p.epoch + 1) None p.catalogue chain.front at) same chain.breaks)
snaps_stand snaps p at pages cs reads (inr (inr below)) =
    let same = same_snapshot snaps p pages below.pages cs below.catalogues reads.has below.has reads.chain
    below.chain in
    let first = subst (λ x. FirstBad (RootStandsUpTo (newest_epoch x) below.pages)
    (RootBreaks (newest_epoch x) below.pages at) (newest_storages x)) same.1 below.first in
    none_bad (RootStandsUpTo (newest_epoch cs) pages) (RootBreaks (newest_epoch cs) pages at)
    (λ s. stands_whole (format_of s.decl) (IsPageUpTo (newest_epoch cs) s.decl) pages at deepest
    (root_place s.decl s.root)) (newest_storages cs) reads.stands
    (subst (λ x. FirstBad (RootStandsUpTo (newest_epoch cs) x) (RootBreaks (newest_epoch cs) x at)
    (newest_storages cs)) same.0 first)

-- devices that say something aren't damaged
pub reading_stands : (found : Images) (reading : Reading) (device : Device) (at : ℕ) → IsReading found reading
    → IsDamagedIn found device at → ⊥
reading_stands found reading Save at is damaged = save_stands found.save reading.point at is.names damaged
reading_stands found reading Snaps at is damaged =
    let p = damaged.0 in
    let named : reading.point ≡ Some p = names_one found.save reading.point (Some p) is.names damaged.1 in
    let reads : ReadsSaved found p reading = subst (λ x. ReadsBy found x reading) named is.counts in
    snaps_stand found.snaps p at reading.pages reading.catalogues reads.snapshot damaged.2
reading_stands found reading (Bank n) at is damaged =
    let p = damaged.0 in
    let named : reading.point ≡ Some p = names_one found.save reading.point (Some p) is.names damaged.1 in
    let reads : ReadsSaved found p reading = subst (λ x. ReadsBy found x reading) named is.counts in
    let logs = damaged.2 in
    let same = same_snapshot found.snaps p reading.pages logs.pages reading.catalogues logs.catalogues
    reads.snapshot.has logs.snapshot.has reads.snapshot.chain logs.snapshot.chain in
    let breaks = subst (λ x. FileBreaks (newest_decls x) (counted_of (Some p) n) (found.bank n) at) same.1
    logs.files.breaks in
    file_stands (newest_decls reading.catalogues) (counted_of (Some p) n) (found.bank n) at (get_or reading.lines n [])
    (reads.files.each n logs.files.file) breaks

-- snapshots break at one byte
pub one_snaps_break : (snaps : List ℕ) (p : Savepoint) (a b : ℕ) → SnapsBreak snaps p a → SnapsBreak snaps p b → a ≡ b
one_snaps_break snaps p a b (inl x) (inl y) = x.1 ∙ sym y.1
one_snaps_break snaps p a b (inl x) (inr (inl y)) = absurd (has_all snaps p.count y.pages y.has x.0)
one_snaps_break snaps p a b (inl x) (inr (inr y)) = absurd (has_all snaps p.count y.pages y.has x.0)
one_snaps_break snaps p a b (inr (inl x)) (inl y) = absurd (has_all snaps p.count x.pages x.has y.0)
one_snaps_break snaps p a b (inr (inr x)) (inl y) = absurd (has_all snaps p.count x.pages x.has y.0)
one_snaps_break snaps p a b (inr (inl x)) (inr (inl y)) =
    let same : y.pages ≡ x.pages = one_pages snaps p.count y.pages x.pages y.has x.has in
    one_break x.pages (p.epoch + 1) None p.catalogue a b x.front y.front x.breaks
    (subst (λ l. CataloguesBreak l (p.epoch + 1) None p.catalogue y.front b) same y.breaks)
one_snaps_break snaps p a b (inr (inl x)) (inr (inr y)) =
    let same : x.pages ≡ y.pages = one_pages snaps p.count x.pages y.pages x.has y.has in
    absurd (chain_stands y.pages (p.epoch + 1) None p.catalogue a y.catalogues x.front y.chain
    (subst (λ l. CataloguesBreak l (p.epoch + 1) None p.catalogue x.front a) same x.breaks))
one_snaps_break snaps p a b (inr (inr x)) (inr (inl y)) =
    let same : y.pages ≡ x.pages = one_pages snaps p.count y.pages x.pages y.has x.has in
    absurd (chain_stands x.pages (p.epoch + 1) None p.catalogue b x.catalogues y.front x.chain
    (subst (λ l. CataloguesBreak l (p.epoch + 1) None p.catalogue y.front b) same y.breaks))
one_snaps_break snaps p a b (inr (inr x)) (inr (inr y)) =
    let same = same_snapshot snaps p x.pages y.pages x.catalogues y.catalogues x.has y.has x.chain y.chain in
    let epoch = newest_epoch x.catalogues in
    let first = subst (λ l. FirstBad (RootStandsUpTo (newest_epoch l) y.pages) (RootBreaks (newest_epoch l) y.pages b)
    (newest_storages l)) same.1 y.first in
    one_bad (RootStandsUpTo epoch x.pages) (RootBreaks epoch x.pages) a b
    (λ s. stands_whole (format_of s.decl) (IsPageUpTo epoch s.decl) x.pages a deepest (root_place s.decl s.root))
    (λ s. stands_whole (format_of s.decl) (IsPageUpTo epoch s.decl) x.pages b deepest (root_place s.decl s.root))
    (λ s. one_page_breaks (format_of s.decl) (IsPageUpTo epoch s.decl) x.pages a b deepest (root_place s.decl s.root))
    (newest_storages x.catalogues) x.first
    (subst (λ l. FirstBad (RootStandsUpTo epoch l) (RootBreaks epoch l b) (newest_storages x.catalogues)) same.0 first)

-- one log file breaks, at one byte
pub one_log_breaks : (decls : List Decl) (p : Savepoint) (bank : ℕ → List ℕ) (n m a b : ℕ)
    → FilesBreak decls p bank n a → FilesBreak decls p bank m b → (n ≡ m) × (a ≡ b)
one_log_breaks decls p bank n m a b x y = elim (cases_lt n m) [
  | inl first ↦ let lines =
      y.before n first in absurd (file_stands decls (counted_of (Some p) n) (bank n) a lines.0 lines.1 x.breaks)
  | inr not_first ↦ elim (cases_lt m n) [
    | inl first ↦ let lines =
        x.before m first in absurd (file_stands decls (counted_of (Some p) m) (bank m) b lines.0 lines.1 y.breaks)
    | inr not_last ↦
        let same : m ≡ n = omega (arith, not_first, not_last) in (
          sym same,
          one_file_breaks decls (counted_of (Some p) n) (bank n) a b x.breaks
              (subst (λ k. FileBreaks decls (counted_of (Some p) k) (bank k) b) same y.breaks),
        )
  ]
]

-- devices are damaged at one byte of one device
pub one_damaged : (found : Images) (d e : Device) (a b : ℕ) → IsDamagedIn found d a → IsDamagedIn found e b → (d ≡ e)
    × (a ≡ b)
one_damaged found Save Save a b p q = (refl, one_save_damage found.save a b p q)
one_damaged found Save Snaps a b p q = absurd (save_stands found.save (Some q.0) a q.1 p)
one_damaged found Save (Bank n) a b p q = absurd (save_stands found.save (Some q.0) a q.1 p)
one_damaged found Snaps Save a b p q = absurd (save_stands found.save (Some p.0) b p.1 q)
one_damaged found (Bank n) Save a b p q = absurd (save_stands found.save (Some p.0) b p.1 q)
one_damaged found Snaps Snaps a b p q =
    let same : q.0 ≡ p.0 = same_Some q.0 p.0 (names_one found.save (Some q.0) (Some p.0) q.1 p.1) in
    (refl, one_snaps_break found.snaps p.0 a b p.2 (subst (λ x. SnapsBreak found.snaps x b) same q.2))
one_damaged found Snaps (Bank n) a b p q =
    let same : p.0 ≡ q.0 = same_Some p.0 q.0 (names_one found.save (Some p.0) (Some q.0) p.1 q.1) in
    absurd (snaps_stand found.snaps q.0 a q.2.pages q.2.catalogues q.2.snapshot
    (subst (λ x. SnapsBreak found.snaps x a) same p.2))
one_damaged found (Bank n) Snaps a b p q =
    let same : q.0 ≡ p.0 = same_Some q.0 p.0 (names_one found.save (Some q.0) (Some p.0) q.1 p.1) in
    absurd (snaps_stand found.snaps p.0 b p.2.pages p.2.catalogues p.2.snapshot
    (subst (λ x. SnapsBreak found.snaps x b) same q.2))
one_damaged found (Bank n) (Bank m) a b p q =
    let same : q.0 ≡ p.0 = same_Some q.0 p.0 (names_one found.save (Some q.0) (Some p.0) q.1 p.1) in
    let x = p.2 in
    let y : LogsBreak found p.0 m b = subst (λ l. LogsBreak found l m b) same q.2 in
    let snapshot = same_snapshot found.snaps p.0 x.pages y.pages x.catalogues y.catalogues x.snapshot.has
    y.snapshot.has x.snapshot.chain y.snapshot.chain in
    let both = one_log_breaks (newest_decls x.catalogues) p.0 found.bank n m a b x.files
    (subst (λ l. FilesBreak (newest_decls l) p.0 found.bank m b) snapshot.1 y.files) in
    (ap Bank both.0, both.1)
