-- From the snapshots that a settling left to those that devices have later.
use Rattle.std.proofs.Common.{◌≡◌, ◌⊎◌, ◌∙◌, inl, inr, refl, sym, ap, subst, ℕ, zero, suc, ◌+◌, ◌<◌, ◌≤◌, true, false}
use Rattle.std.proofs.Common.{arith, List, [], ◌∷◌, ◌++◌, Option, Some, None}
use Rattle.std.specs.Prelude.{filter}
use Rattle.std.specs.FinMap.{get}
use Rattle.std.specs.List.{AllByRecursion, Contains}
use Rattle.std.proofs.lemmas.Bool.Decides.{nat_tests}
use Rattle.lists.specs.Each.{all_weaker}
use Rattle.lists.specs.Elements.{in_cases, in_head, in_none}
use Rattle.serial_model.specs.History.{Entry}
use Rattle.serial_model.specs.State.{State}
use Rattle.serial_model.specs.declared.decl.Decl.{Decl}
use Rattle.serial_model.specs.declared.key.Key.{Key}
use Rattle.wire_form.specs.Pages.{Contents, decls_of}
use Rattle.wire_form.specs.declared.bucket.Entry.{Entry as LogEntry}
use Rattle.wire_form.specs.declared.records.Stored.{Stored}
use Rattle.wire_form.specs.declared.savepoint.Savepoint.{Savepoint}
use Rattle.snapshot_store.specs.declared.place.PagePlace.{PagePlace}
use Rattle.snapshot_store.specs.Places.{StandsTo, places_below}
use Rattle.snapshot_store.specs.Content.{IsContent, IsPageOf, RootStands, deepest, format_of, record_in, root_place}
use Rattle.snapshot_store.specs.Content.{value_at}
use Rattle.recovery_core.specs.Catalogues.{AreCatalogues, newest_epoch, newest_storages}
use Rattle.joint_crashes.specs.Images.{Images, epoch_of}
use Rattle.recovery_core.specs.LogEntries.{counts, last_of, logged}
use Rattle.recovery_core.specs.Recoverable.{IsReading, IsRecoverable, IsStateOf, Reading, ReadsBy, value_over}
use Rattle.recovery_core.specs.RecoverableLaws.{one_reading}
use Rattle.recovery_core.specs.Recovered.{catalogue_of}
use Rattle.recovery_core.specs.SnapshotPages.{IsPageUpTo, RootStandsUpTo}
use Rattle.recovery_core.specs.SnapshotsKept.{KeepsSnapshots, StandsAsRead}
use Rattle.program_calls.specs.Snapshots.{EachSnapshot, HasContent}
use Rattle.program_calls.proofs.KeptEpochs.{as_of-more}
use Rattle.program_calls.proofs.KeptThrough.{one_kept}
use Rattle.program_calls.proofs.SnapshotsFound.{epoch_below}

-- ---- the chain of a reading

-- the catalogues, from the page on that the savepoint names, and the newest one's pages
pub record Chained (reading : Reading) : Type 0 where
  pub chain : AreCatalogues reading.pages (epoch_of reading.point + 1) None (catalogue_of reading.point)
      reading.catalogues
  pub stands : AllByRecursion (RootStandsUpTo (newest_epoch reading.catalogues) reading.pages)
      (newest_storages reading.catalogues)

-- of a reading with this savepoint
abbrev ChainedAt : Option Savepoint → Reading → Type 0
ChainedAt point reading =
    AreCatalogues reading.pages (epoch_of point + 1) None (catalogue_of point) reading.catalogues
    × AllByRecursion (RootStandsUpTo (newest_epoch reading.catalogues) reading.pages)
    (newest_storages reading.catalogues)

chained_by : (found : Images) (point : Option Savepoint) (reading : Reading) → ReadsBy found point reading
    → ChainedAt point reading
chained_by found None reading reads = (
  subst (AreCatalogues reading.pages 1 None 0) (sym reads.catalogues) refl,
  subst (λ cs. AllByRecursion (RootStandsUpTo (newest_epoch cs) reading.pages) (newest_storages cs))
      (sym reads.catalogues) tt,
)
chained_by found (Some p) reading reads = (reads.snapshot.chain, reads.snapshot.stands)

pub chained : (found : Images) (reading : Reading) → IsReading found reading → Chained reading
chained found reading is =
    let at = chained_by found reading.point reading is.counts in record { chain = at.0; stands = at.1 }

-- ---- the newest of a chain

-- a catalogue is the newest one
abbrev pub IsNewest : List Contents → Contents → Type 0
IsNewest cs c = (older : List Contents) × (cs ≡ c ∷ older)

pub newest_by : (pages : List (List ℕ)) (limit : ℕ) (declared : Option (List Decl)) (number : ℕ) (cs : List Contents)
    (c : Contents) → AreCatalogues pages limit declared number cs → Contains cs c
    → ((d : Contents) → Contains cs d → d.epoch ≤ c.epoch) → IsNewest cs c
newest_by pages limit declared number [] c chain has last = absurd (in_none c has)
newest_by pages limit declared number (d ∷ ds) c chain has last = elim (in_cases c d ds has) [
  | inl here ↦ (ds, ap (λ (x : Contents). x ∷ ds) here)
  | inr later ↦ absurd (omega (
    arith,
    epoch_below pages d.epoch (Some (decls_of d)) d.previous ds c chain.2 later,
    last d (in_head d ds),
  ))
]

-- ---- what it has

stands_plain : (epoch : ℕ) (decl : Decl) (pages : List (List ℕ)) (d : ℕ) (p : PagePlace)
    → StandsTo (format_of decl) (IsPageUpTo epoch decl) pages d p → StandsTo (format_of decl) (IsPageOf decl) pages d p
stands_plain epoch decl pages zero p stands = absurd stands
stands_plain epoch decl pages (suc d) p stands = record {
  there = stands.there;
  right = stands.right.page;
  tiles = stands.tiles;
  below = all_weaker (StandsTo (format_of decl) (IsPageUpTo epoch decl) pages d)
      (StandsTo (format_of decl) (IsPageOf decl) pages d) (stands_plain epoch decl pages d)
      (places_below (format_of decl) pages p) stands.below;
}

-- the pages of the newest one stand
pub newest_stands : (reading : Reading) (c : Contents) → Chained reading → IsNewest reading.catalogues c
    → AllByRecursion (RootStands reading.pages) c.storages
newest_stands reading c chained is =
    let stands = subst (λ cs. AllByRecursion (RootStandsUpTo (newest_epoch cs) reading.pages) (newest_storages cs)) is.1
    chained.stands in
    all_weaker (RootStandsUpTo c.epoch reading.pages) (RootStands reading.pages)
    (λ s. stands_plain c.epoch s.decl reading.pages deepest (root_place s.decl s.root)) c.storages stands

-- no entry counts above a snapshot of the saved epoch
none_count : (snapshot saved : ℕ) (es : List LogEntry) → snapshot ≡ saved → filter (counts snapshot saved) es ≡ []
none_count snapshot saved [] same = refl
none_count snapshot saved (e ∷ es) same =
    let is : counts snapshot saved e ≡ false = grind (arith, nat_tests) in
    rw is (none_count snapshot saved es same)

-- so it has the state that the devices stand for
pub newest_content : (reading : Reading) (c : Contents) (state : State) → IsNewest reading.catalogues c
    → c.epoch ≡ epoch_of reading.point → IsStateOf reading state
    → IsContent (record_in reading.pages) c.storages state
newest_content reading c state is same state_is = λ key.
    let epoch : newest_epoch reading.catalogues ≡ epoch_of reading.point = ap newest_epoch is.1 ∙ same in
    state_is key
    ∙ ap (λ es. value_over (last_of key es) (value_at (record_in reading.pages) (newest_storages reading.catalogues) key))
    (none_count (newest_epoch reading.catalogues) (epoch_of reading.point) (logged reading.lines) epoch)
    ∙ ap (λ cs. value_at (record_in reading.pages) (newest_storages cs) key) is.1

-- ---- from one reading to a later one

-- nothing was made
pub keeps_all : (was : Reading) (epoch : ℕ) (state : State) → KeepsSnapshots was was epoch state
keeps_all was epoch state = record {
  each = λ c has. inl has;
  stays = λ c has. has;
  content = λ c s has stands is. (stands, is);
}

-- Where one was made at most, of what was kept, each snapshot is as it has to be, whatever was run.
module _ (decls : List Decl) (commits : List Entry) (was now : Reading) (epoch : ℕ) (state : State)
    (first : Chained was) (last : Chained now) (saved : epoch ≡ epoch_of was.point) (kept : IsStateOf was state)
    (keeps : KeepsSnapshots was now epoch state) where
  -- none is later than what was kept
  was_most : (c : Contents) → Contains was.catalogues c → c.epoch ≤ epoch
  was_most c has = omega (
    arith,
    saved,
    epoch_below was.pages (epoch_of was.point + 1) None (catalogue_of was.point) was.catalogues c first.chain has,
  )

  now_most : (c : Contents) → Contains now.catalogues c → c.epoch ≤ epoch
  now_most c has = elim (keeps.each c has) [
    | inl there ↦ was_most c there
    | inr made ↦ omega (arith, made.0)
  ]

  -- one of the epoch that was kept is the newest one
  of_kept : (c : Contents) → Contains now.catalogues c → c.epoch ≡ epoch → HasContent now c state
  of_kept c has same = elim (keeps.each c has) [
    | inl there ↦
        let newest = newest_by was.pages (epoch_of was.point + 1) None (catalogue_of was.point) was.catalogues c
        first.chain there (λ d other. omega (arith, same, was_most d other)) in
        let still = keeps.content c state there (newest_stands was c first newest)
        (newest_content was c state newest (same ∙ saved) kept) in
        record { stands = still.0; content = still.1 }
    | inr made ↦
        let newest = newest_by now.pages (epoch_of now.point + 1) None (catalogue_of now.point) now.catalogues c
        last.chain has (λ d other. omega (arith, same, now_most d other)) in
        record { stands = newest_stands now c last newest; content = made.1 }
  ]

  pub each_kept : EachSnapshot was now epoch state decls commits
  each_kept = record {
    newer = λ c has later. absurd (omega (arith, later, now_most c has));
    kept = of_kept;
    older = λ c has before. elim (keeps.each c has) [
      | inl there ↦ there
      | inr made ↦ absurd (omega (arith, made.0, before))
    ];
    stays = keeps.stays;
    as_was = λ c s has content.
        let still = keeps.content c s has content.stands content.content in
        record { stands = still.0; content = still.1 };
  }

-- So it is with what a stop leaves that stands for what was read.
pub each_left : (decls : List Decl) (commits : List Entry) (found left : Images) (epoch : ℕ) (state : State)
    (before : IsRecoverable found epoch state) → StandsAsRead before.reading left epoch state → (now : Reading)
    → IsReading left now → EachSnapshot before.reading now epoch state decls commits
each_left decls commits found left epoch state before stands now is =
    subst (λ r. EachSnapshot before.reading r epoch state decls commits)
    (one_reading left stands.is.reading now stands.is.is is)
    (each_kept decls commits before.reading stands.is.reading epoch state (chained found before.reading before.is)
    (chained left stands.is.reading stands.is.is) before.epoch_is before.state_is stands.keeps)

-- More was run, later than what was saved: each snapshot is as it was.
pub each_more : (was now : Reading) (saved : ℕ) (s : State) (decls : List Decl) (ordered more : List Entry)
    (left : Images) (epoch : ℕ) → IsReading left now → epoch_of now.point ≤ epoch
    → AllByRecursion (λ e. epoch < e.number.epoch) more → EachSnapshot was now saved s decls ordered
    → EachSnapshot was now saved s decls (ordered ++ more)
each_more was now saved s decls ordered more left epoch is within later each = record {
  newer = λ c has above. subst (HasContent now c)
      (sym (as_of-more decls s ordered more c.epoch (all_weaker (λ (e : Entry). epoch < e.number.epoch)
      (λ (e : Entry). c.epoch < e.number.epoch) (λ e past. omega (arith, past, within, most c has)) more later)))
      (each.newer c has above);
  kept = each.kept;
  older = each.older;
  stays = each.stays;
  as_was = each.as_was;
}
  where
    most : (c : Contents) → Contains now.catalogues c → c.epoch < epoch_of now.point + 1
    most c has = epoch_below now.pages (epoch_of now.point + 1) None (catalogue_of now.point) now.catalogues c
        (chained left now is).chain has

-- What holds of one reading of the devices before and of one of them now holds of any.
pub each_told : (decls : List Decl) (commits : List Entry) (found now : Images) (was is : Reading) (saved : ℕ)
    (kept : State) → IsReading found was → IsReading now is → saved ≡ epoch_of was.point → IsStateOf was kept
    → EachSnapshot was is saved kept decls commits → (epoch : ℕ) (state : State) (reading : Reading)
    (before : IsRecoverable found epoch state) → IsReading now reading
    → EachSnapshot before.reading reading epoch state decls commits
each_told decls commits found now was is saved kept was_is is_is saved_is kept_is each epoch state reading before reads =
    let that : IsRecoverable found saved kept =
    record { reading = was; is = was_is; epoch_is = saved_is; state_is = kept_is } in
    let one = one_kept found saved epoch kept state that before in
    subst (λ r. EachSnapshot r reading epoch state decls commits)
    (one_reading found was before.reading was_is before.is)
    (subst (λ r. EachSnapshot was r epoch state decls commits) (one_reading now is reading is_is reads)
    (subst (λ e. EachSnapshot was is e state decls commits) one.0
    (subst (λ (s : State). EachSnapshot was is saved s decls commits) one.1 each)))

-- The same of all that devices say, before and now.
pub each_between : (decls : List Decl) (commits : List Entry) (found now : Images) (was is : Reading) (saved : ℕ)
    (kept : State) → IsReading found was → IsReading now is → KeepsSnapshots was is saved kept
    → saved ≡ epoch_of was.point → IsStateOf was kept → (epoch : ℕ) (state : State) (reading : Reading)
    (before : IsRecoverable found epoch state) → IsReading now reading
    → EachSnapshot before.reading reading epoch state decls commits
each_between decls commits found now was is saved kept was_is is_is keeps saved_is kept_is epoch state reading before
    reads =
    let that : IsRecoverable found saved kept =
    record { reading = was; is = was_is; epoch_is = saved_is; state_is = kept_is } in
    let one = one_kept found saved epoch kept state that before in
    let each = each_kept decls commits was is saved kept (chained found was was_is) (chained now is is_is) saved_is
    kept_is keeps in
    subst (λ r. EachSnapshot r reading epoch state decls commits)
    (one_reading found was before.reading was_is before.is)
    (subst (λ r. EachSnapshot was r epoch state decls commits) (one_reading now is reading is_is reads)
    (subst (λ e. EachSnapshot was is e state decls commits) one.0
    (subst (λ (s : State). EachSnapshot was is saved s decls commits) one.1 each)))
