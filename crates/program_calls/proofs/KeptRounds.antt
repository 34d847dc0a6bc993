-- What the vault keeps of the rounds that were run so far.
use Rattle.std.proofs.Common.{◌≡◌, ◌⊎◌, ◌∙◌, ◌≤◌, ◌<◌, ◌+◌, ◌-◌, ◌^◌, sym, ap, subst, refl, inl, inr, ℕ, Bool, true}
use Rattle.std.proofs.Common.{false, zero, true≢false, cond, arith, List, [], ◌∷◌, ◌++◌, Option, Some, None, length, append_assoc}
use Rattle.std.specs.Prelude.{◌&&◌, nat_lt, flat_map, is_some, map, not, option_to_list, replicate, slice_get}
use Rattle.std.specs.List.{AllByRecursion, list_any}
use Rattle.std.proofs.lemmas.Bool.{cases_Bool}
use Rattle.std.proofs.lemmas.Grind.{flat_map-append}
use Rattle.std.proofs.lemmas.List.{append-nil}
use Rattle.std.proofs.lemmas.List.Sums.{fold-append}
use Rattle.lists.specs.Each.{all_append, all_weaker}
use Rattle.outside.specs.declared.device.Device.TheVariants.{Save}
use Rattle.log_writer.specs.declared.vault.Vault.{Vault}
use Rattle.serial_model.specs.History.{Entry, EpochsNeverFall, Rises, state_after_all}
use Rattle.serial_model.specs.Numbers.{last_epoch}
use Rattle.serial_model.specs.State.{State}
use Rattle.serial_model.specs.declared.decl.Decl.{Decl}
use Rattle.serial_model.specs.declared.number.Commit.{Commit}
use Rattle.serial_model.specs.declared.number.Number.{Number}
use Rattle.script_grammar.specs.Script.{Round}
use Rattle.wire_form.specs.LogFile.{IsLineOf, lines_bytes}
use Rattle.wire_form.specs.declared.clock.Mark.{Mark}
use Rattle.wire_form.specs.declared.page.Page.{Page}
use Rattle.wire_form.specs.declared.savepoint.Savepoint.{Savepoint}
use Rattle.log_writer.specs.Points.{point_of}
use Rattle.log_writer.specs.declared.saved.Saved.{Saved}
use Rattle.snapshot_store.specs.Content.{words_of}
use Rattle.snapshot_store.specs.Store.{IsWhole}
use Rattle.recovery_core.specs.Catalogues.{AreCatalogues, newest_epoch}
use Rattle.joint_crashes.specs.Images.{Images, counted_of, epoch_of}
use Rattle.joint_crashes.specs.JointCrash.{parts_of}
use Rattle.joint_crashes.specs.Marks.{Marks}
use Rattle.recovery_core.specs.Recoverable.{IsReading, IsStateOf, Reading, ReadsBy, ReadsSaved}
use Rattle.recovery_core.specs.Recovered.{Recovers}
use Rattle.joint_crashes.specs.Resting.{AreTold}
use Rattle.checkpoints.specs.SettleLaws.{point_says}
use Rattle.checkpoints.specs.SettlesInto.{SettlesInto}
use Rattle.recovery_core.specs.SnapshotsKept.{KeepsSnapshots}
use Rattle.joint_crashes.specs.VaultReads.{RoseIn}
use Rattle.recovery_core.specs.declared.recovered.Recovered.{Recovered}
use Rattle.checkpoints.specs.declared.without_entries.Settled.{Settled}
use Rattle.worker_logs.specs.Saves.{CountsOf, IsCounted, closed_number, growing_number, logs_marks}
use Rattle.worker_logs.specs.declared.savepoints.Beside.{Beside}
use Rattle.worker_logs.specs.declared.savepoints.Side.{Side}
use Rattle.worker_logs.specs.declared.savepoints.Side.TheVariants.{Even, Odd}
use Rattle.tx_script.specs.Causes.{keeper_at_end, keeper_before, some_counted}
use Rattle.tx_script.specs.Run.{Ran}
use Rattle.tx_script.specs.Run.{AdvancesTo, LogFiles}
use Rattle.tx_script.specs.declared.answer.Answer.{Answer}
use Rattle.tx_script.specs.declared.answer.Answer.TheVariants as answers
use Rattle.round_engine.specs.Begun.{begun}
use Rattle.round_engine.specs.Changes.{AreLogged}
use Rattle.round_engine.specs.Ends.{closed_failed, comes_to_advance, comes_to_swap, epoch_joined, is_closed, swaps}
use Rattle.round_engine.specs.Ends.{where_true}
use Rattle.round_engine.specs.declared.report.End.{End}
use Rattle.round_engine.specs.Logs.{AreClosedFiles, AreLogs}
use Rattle.round_engine.specs.RanRound.{Begins, LeavesVault, LogsRan, RanRound, RunsRoundLines}
use Rattle.round_engine.specs.Swaps.{behind_swap, since_swap}
use Rattle.worker_logs.specs.Rows.{NeverFall}
use Rattle.round_engine.specs.Saves.{IsSavedBy, beside_at_end, newest_after, saves_told}
use Rattle.round_engine.specs.Sides.{other_side}
use Rattle.round_engine.specs.Standing.{RuntimeState, StandsOn, beside_of}
use Rattle.round_engine.specs.declared.report.Report.{Report}
use Rattle.program_calls.specs.EndLaws.{goes_on_quiet}
use Rattle.program_calls.specs.RunKept.{last_saved}
use Rattle.program_calls.specs.RoundCauses.{saved_in}
use Rattle.program_calls.specs.OnTheWay.{KeptSnapshots}
use Rattle.program_calls.proofs.KeptFiles.{closed_file, item_at}
use Rattle.program_calls.proofs.KeptHere.{AllUpTo, Counts, PagesOf, pages_more, pages_turned}
use Rattle.program_calls.proofs.KeptLogged.{LoggedIn, logged_more, logged_turned}
use Rattle.program_calls.proofs.KeptPages.{snapshots_begin, snapshots_over}
use Rattle.program_calls.proofs.KeptParts.{GoneCounts, KeptParts, StoreThen, all_front, commits_all, counts_same, gone_saved}
use Rattle.program_calls.proofs.KeptParts.{store_then}
use Rattle.program_calls.proofs.KeptSaves.{ByEither, NewestOf, by_either, closed_eight, counted_at_end, covers_none}
use Rattle.program_calls.proofs.KeptSaves.{growing_stays, last_in, last_in_later, newest_of, no_commits, zero_at}
use Rattle.program_calls.proofs.RoundCommits.{AreOfRound, of_round}
use Rattle.program_calls.proofs.SnapshotsKept.{chained}

-- what the devices stood for as the run began
pub record Stood (found : Images) (saved : ℕ) (s : State) : Type 0 where
  pub reading : Reading
  pub is : IsReading found reading
  pub epoch : saved ≡ epoch_of reading.point
  pub state : IsStateOf reading s

-- What the vault keeps after these rounds, which began with these contents as of the saved epoch: in parts, with the
-- growing log files, and the closed ones, where the newest savepoint counts something of them.
pub record KeptSoFar {D : Type 0} (tells : D → Option (List ℕ)) (clock : D → ℕ)
    (image_at : D → ℕ → List ℕ → Type 0) (found : Images) (decls : List Decl) (s : State) (saved : ℕ)
    (rans : List Ran) (ordered : List Entry) (r : RuntimeState) (vault : Vault D) : Type 0 where
  pub was : Stood found saved s
  pub since : ℕ
  pub older : ℕ → List Commit
  pub gone : ℕ → List Commit
  pub commits : ℕ → List Commit
  pub durable : ℕ → List ℕ
  pub closed : ℕ → List ℕ
  pub parts : KeptParts was.reading decls saved s ordered r.side r.counted since r.closed_at older gone commits durable
      closed r.store.pages r.save.newest (last_saved saved rans)
  pub below : AllByRecursion (λ e. e.number.epoch ≤ r.stands.clock.epoch) ordered
  pub logs : AreLogs tells clock image_at commits durable r vault
  pub open_files : r.stands.ended ≡ false → AreClosedFiles tells clock image_at gone closed r vault
  pub files : AreClosedFiles tells clock image_at gone closed r vault
      ⊎ ((w : ℕ) → w < 8 → counted_of r.save.newest (closed_number r.side w) ≡ 0)

-- ---- before the first round

-- A settled vault keeps what it was settled to.
pub kept_begins : {D : Type 0} {tells : D → Option (List ℕ)} {clock : D → ℕ} {image_at : D → ℕ → List ℕ → Type 0}
    {recovered : Recovered} {given : List Decl} {old new : Vault D} {settled : Settled} (found : Images) (room : ℕ)
    (r : RuntimeState) → SettlesInto tells clock image_at recovered given old new settled
    → AreTold tells (parts_of old) found → (recovers : Recovers found recovered)
    → KeptSnapshots recovered settled
    → r ≡ begun settled.decls settled.state r.stands settled.save settled.store room
    (record { epoch = settled.saved.epoch + 1; draw = 1 })
    → AllByRecursion IsWhole settled.store.pages
    → AllByRecursion (AllByRecursion (λ w. w < 2 ^ 64)) (words_of settled.store.pages)
    → AreLogs tells clock image_at (λ worker. []) (λ worker. []) r new
    → AreClosedFiles tells clock image_at (λ worker. []) (λ worker. []) r new
    → CountsOf Even (λ worker. []) (λ worker. []) (λ worker. []) (λ worker. []) r.save.newest
    → (k : KeptSoFar tells clock image_at found settled.decls settled.state settled.saved.epoch [] [] r new)
    × (k.since ≡ settled.saved.epoch) × (k.commits ≡ (λ w. [])) × (k.gone ≡ (λ w. []))
kept_begins {tells = tells} {clock = clock} {image_at = image_at} {recovered = recovered} {new = new} {settled = settled}
    found room r settles told recovers snapshots begins whole fit logs files counted =
    let p = point_says settled.save.newest settled.saved settles.says in
    let point : Savepoint = p.0 in
    let saved : ℕ = settled.saved.epoch in
    let rests = settles.rests found told recovers in
    let reading = rests.2.reading in
    let reads : ReadsSaved rests.0 point reading =
    subst (λ x. ReadsBy rests.0 x reading) (rests.2.point ∙ p.1) rests.2.is.counts in
    let epoch_is : saved ≡ point.epoch = ap (λ (x : Saved). x.epoch) p.2 in
    let count_is : point.count ≡ length settled.store.pages =
    sym (ap (λ (x : Saved). x.count) p.2) ∙ sym settles.count in
    let catalogue_is : point.catalogue ≡ length settled.store.pages =
    sym (ap (λ (x : Saved). x.catalogue) p.2) ∙ settles.ranges.newest ∙ sym settles.count in
    let was : Stood found saved settled.state = record {
      reading = recovers.reading;
      is = recovers.is;
      epoch = settles.epoch ∙ recovers.epoch;
      state = subst (IsStateOf recovers.reading) (sym settles.state) recovers.state;
    } in
    let keeps = subst (λ e. KeepsSnapshots recovers.reading reading e settled.state) (sym settles.epoch)
    (subst (λ (t : State). KeepsSnapshots recovers.reading reading recovered.epoch t) (sym settles.state)
    (snapshots found rests.0 recovers rests.2)) in
    let some : 1 ≤ point.catalogue = (let first = settles.ranges.catalogue in
    omega (arith, first, ap (λ (x : Saved). x.catalogue) p.2)) in
    let begin = snapshots_begin recovers.reading reading settled.decls saved settled.state point.catalogue some keeps
    was.epoch was.state (chained found recovers.reading recovers.is) (chained rests.0 reading rests.2.is)
    (subst (λ e. AreCatalogues reading.pages (e + 1) None point.catalogue reading.catalogues) (sym epoch_is)
    reads.snapshot.chain) rests.2.decls rests.2.state in
    let at = snapshots_over reading.pages (words_of settled.store.pages) point.catalogue (length settled.store.pages)
    (sym rests.2.pages) catalogue_is begin.0 in
    let closed_is : saved + 1 - 1 ≡ saved = omega arith in
    let store : PagesOf recovers.reading settled.decls saved settled.state [] settled.store.pages (λ w. []) saved =
    record {
      at = at.0;
      older_in = λ w below. tt;
      closed_in = omega (arith, at.1, begin.1);
      whole = whole;
      fit = fit;
    } in
    let b : RuntimeState = begun settled.decls settled.state r.stands settled.save settled.store room
    (record { epoch = saved + 1; draw = 1 }) in
    subst (λ (x : RuntimeState). AreLogs tells clock image_at (λ worker. []) (λ worker. []) x new
    → AreClosedFiles tells clock image_at (λ worker. []) (λ worker. []) x new
    → CountsOf Even (λ worker. []) (λ worker. []) (λ worker. []) (λ worker. []) x.save.newest
    → (k : KeptSoFar tells clock image_at found settled.decls settled.state saved [] [] x new)
    × (k.since ≡ saved) × (k.commits ≡ (λ w. [])) × (k.gone ≡ (λ w. []))) (sym begins)
    (λ logs files counted. (
      record {
        was = was;
        since = saved;
        older = λ w. [];
        gone = λ w. [];
        commits = λ w. [];
        durable = λ w. [];
        closed = λ w. [];
        parts = subst (λ e. KeptParts recovers.reading settled.decls saved settled.state [] Even (replicate 8 0) saved e
            (λ w. []) (λ w. []) (λ w. []) (λ w. []) (λ w. []) settled.store.pages settled.save.newest saved) (sym closed_is)
            (record {
              it = record {
                is_logged = λ w below. refl;
                lines_gone = λ w below. tt;
                lines_here = λ w below. tt;
                older_by = λ w below. tt;
                gone_from = λ w below. tt;
                gone_by = λ w below. tt;
                here_from = λ w below. tt;
                workers = tt;
                since_by = omega arith;
              };
              above = tt;
              saved_by = omega arith;
              store = store;
              counts = inr (refl, λ w below. tt);
              point = point;
              newest_is = p.1;
              epoch = sym epoch_is;
              closed_by = omega (arith, epoch_is);
              point_pages = settled.store.pages;
              rest = [];
              front = sym (append-nil settled.store.pages);
              count = count_is;
              catalogue = catalogue_is;
              point_store = store;
              growing = λ w below. subst (λ (o : Option Savepoint). IsCounted [] [] (epoch_of o)
                  (counted_of o (growing_number Even w))) p.1 (counted.growing w below);
              gone_counts = λ w below. subst (λ (o : Option Savepoint). GoneCounts (epoch_of o) [] []
                  (counted_of o (closed_number Even w)) (newest_epoch at.0.catalogues)) p.1
                  (elim (counted.before w below) [
                    | inl none ↦ inr (none, tt)
                    | inr some_of ↦ inl some_of
                  ]);
            });
        below = tt;
        logs = logs;
        open_files = λ going. files;
        files = inl files;
      },
      refl,
      refl,
      refl,
    )) logs files counted

-- ---- what was saved

-- the last epoch that was saved, with one round more
pub last_push : (saved : ℕ) (rans : List Ran) (ran : Ran)
    → last_saved saved (rans ++ ran ∷ []) ≡ last_in (last_saved saved rans) (saved_in ran)
last_push saved rans ran =
    ap (last_in saved) (flat_map-append saved_in rans (ran ∷ [])
    ∙ ap (λ l. flat_map saved_in rans ++ l) (append-nil (saved_in ran)))
    ∙ fold-append (λ (_ : ℕ) (epoch : ℕ). epoch) saved (flat_map saved_in rans) (saved_in ran)

-- ---- one round more

-- ---- small laws

both_true : (a b : Bool) → a && b ≡ true → (a ≡ true) × (b ≡ true)
both_true true b is = (refl, is)
both_true false b is = absurd cc

not_true : (b : Bool) → not b ≡ true → b ≡ false
not_true true is = absurd cc
not_true false is = refl

-- what is made where a test holds is made
made_durable : (durable : Option ℕ) (test : Bool) (epoch : ℕ) → durable ≡ where_true test epoch
    → is_some durable ≡ true → durable ≡ Some epoch
made_durable durable true epoch is some = is
made_durable durable false epoch is some = absurd (true≢false (sym some ∙ ap is_some is))

no_end : (end : Option End) → is_some end ≡ false → end ≡ None
no_end None none = refl
no_end (Some e) none = absurd cc

-- the last of some epochs and one more
last_more : (low epoch : ℕ) (epochs : List ℕ) → last_in low (epochs ++ epoch ∷ []) ≡ epoch
last_more low epoch [] = refl
last_more low epoch (e ∷ es) = last_more e epoch es

all_back : {X : Type 0} (P : X → Type 0) (xs ys : List X) → AllByRecursion P (xs ++ ys) → AllByRecursion P ys
all_back P [] ys all = all
all_back P (x ∷ xs) ys all = all_back P xs ys all.1

-- answers never take an epoch back
pub advances_later : (first : ℕ) (told : List Answer) (last : ℕ) → AdvancesTo first told last → first ≤ last
advances_later first [] last same = omega (arith, same)
advances_later first (answers.Epoch epoch ∷ more) last up =
    omega (arith, up.0, advances_later epoch more last up.1)
advances_later first (_ ∷ more) last up = advances_later first more last up

-- nor does a join
joined_later : (ran : Ran) → ran.printed.end.epoch ≤ epoch_joined ran
joined_later ran = of (comes_to_advance ran) (nat_lt ran.printed.end.epoch last_epoch)
  where
    of : (a b : Bool) → ran.printed.end.epoch ≤ cond a (cond b (ran.printed.end.epoch + 1) ran.printed.end.epoch) ran.printed.end.epoch
    of true true = omega arith
    of true false = omega arith
    of false b = omega arith

-- where no closed log file failed the swap that the join comes to is done
whole_swap : (ran : Ran) → comes_to_swap ran ≡ true → closed_failed ran ≡ false → swaps ran ≡ true
whole_swap ran comes none = ap (λ b. b && not (closed_failed ran)) comes ∙ ap not none

-- no commits are no bytes
no_bytes : (epoch : ℕ) → IsCounted [] [] epoch 0
no_bytes epoch = (
  record { front = 0; within = omega arith; counted = omega arith; lines = refl; rest = tt },
  omega arith,
)

-- Where nothing counts of a closed log file, the newest savepoint's snapshot has what it has.
pub gone_in_point : {was : Reading} {decls : List Decl} {saved : ℕ} {s : State} {ordered : List Entry} {side : Side}
    {counted : List ℕ} {since closed_at : ℕ} {older gone commits : ℕ → List Commit} {durable closed : ℕ → List ℕ}
    {pages : List Page} {newest : Option Savepoint} {last : ℕ}
    (kept : KeptParts was decls saved s ordered side counted since closed_at older gone commits durable closed pages
    newest last) (w : ℕ) → w < 8 → counted_of (Some kept.point) (closed_number side w) ≡ 0
    → AllUpTo (newest_epoch kept.point_store.at.catalogues) (gone w)
gone_in_point {closed_at = closed_at} {gone = gone} kept w below zero_is = elim (kept.gone_counts w below) [
  | inl covers ↦
      let empty : gone w ≡ [] = covers_none (gone w) kept.point.epoch
      (subst (Marks (gone w) kept.point.epoch) zero_is covers.0)
      (all_weaker (λ (c : Commit). c.number.epoch ≤ closed_at) (λ (c : Commit). c.number.epoch ≤ kept.point.epoch)
      (λ c up. (let closed_by = kept.closed_by in omega (arith, up, closed_by))) (gone w) (kept.it.gone_by w below)) in
      subst (AllUpTo (newest_epoch kept.point_store.at.catalogues)) (sym empty) tt
  | inr has ↦ has.1
]

-- What is kept as the log files are closed anew behind a save that counts nothing of those that were closed: at an epoch
-- up to which all was logged, and which is saved.
pub kept_turned : {was : Reading} {decls : List Decl} {saved : ℕ} {s : State} {ordered : List Entry} {side : Side}
    {counted : List ℕ} {since closed_at : ℕ} {older gone commits : ℕ → List Commit} {durable closed : ℕ → List ℕ}
    {pages : List Page} {newest : Option Savepoint} {last : ℕ}
    → KeptParts was decls saved s ordered side counted since closed_at older gone commits durable closed pages newest last
    → length counted ≡ 8 → some_counted counted ≡ false
    → ((w : ℕ) → w < 8 → counted_of newest (closed_number side w) ≡ 0)
    → (epoch : ℕ) → last ≡ epoch → ((w : ℕ) → w < 8 → AllUpTo epoch (commits w)) → (lengths : List ℕ)
    → ((w n : ℕ) → slice_get lengths w ≡ Some n → n ≡ length (lines_bytes (commits w)))
    → KeptParts was decls saved s ordered (other_side side) lengths closed_at epoch (λ w. older w ++ gone w) commits
    (λ w. []) (λ w. []) durable pages newest last
kept_turned {was = was} {decls = decls} {saved = saved} {s = s} {ordered = ordered} {side = side} {counted = counted}
    {since = since} {closed_at = closed_at} {older = older} {gone = gone} {commits = commits} {durable = durable}
    {closed = closed} {pages = pages} {newest = newest} {last = last} kept eight none nothing epoch saved_last by lengths
    whole =
    let it = kept.it in
    let at : kept.point.epoch ≡ epoch = kept.epoch ∙ saved_last in
    let later : closed_at ≤ epoch = (let closed_by = kept.closed_by in omega (arith, closed_by, at)) in
    let zero = λ (w : ℕ) (below : w < 8). subst (λ (o : Option Savepoint). counted_of o (closed_number side w) ≡ 0)
    kept.newest_is (nothing w below) in
    let in_store : (w : ℕ) → w < 8 → AllUpTo (newest_epoch kept.store.at.catalogues) (gone w) = λ w below.
    elim kept.counts [
      | inl all ↦
          let item = item_at counted w (omega (arith, eight, below)) in
          let empty : gone w ≡ [] = no_commits (gone w)
          (sym (all.0 w item.0 item.1) ∙ zero_at counted w item.0 none item.1) in
          subst (AllUpTo (newest_epoch kept.store.at.catalogues)) (sym empty) tt
      | inr has ↦ has.1 w below
    ] in
    let in_point : (w : ℕ) → w < 8 → AllUpTo (newest_epoch kept.point_store.at.catalogues) (gone w) =
    λ w below. gone_in_point kept w below (zero w below) in
    let store = pages_turned kept.store gone epoch later in_store in
    record {
      it = logged_turned it epoch later by;
      above = kept.above;
      saved_by = (let first = kept.saved_by in let then = it.since_by in omega (arith, first, then));
      store = store.0;
      counts = inl (whole, (let up = kept.store.closed_in in omega (arith, up, store.1)));
      point = kept.point;
      newest_is = kept.newest_is;
      epoch = kept.epoch;
      closed_by = omega (arith, at);
      point_pages = kept.point_pages;
      rest = kept.rest;
      front = kept.front;
      count = kept.count;
      catalogue = kept.catalogue;
      point_store = (pages_turned kept.point_store gone epoch later in_point).0;
      growing = λ w below. turned_growing side w (zero w below);
      gone_counts = λ w below. inl (turned_gone side w (kept.growing w below));
    }
  where
    -- what grows is what was closed, of which nothing counts
    turned_growing : (x : Side) (w : ℕ) → counted_of (Some kept.point) (closed_number x w) ≡ 0
        → IsCounted [] [] kept.point.epoch (counted_of (Some kept.point) (growing_number (other_side x) w))
    turned_growing Even w none_counted = subst (IsCounted [] [] kept.point.epoch) (sym none_counted)
        (no_bytes kept.point.epoch)
    turned_growing Odd w none_counted = subst (IsCounted [] [] kept.point.epoch) (sym none_counted)
        (no_bytes kept.point.epoch)

    turned_gone : (x : Side) (w : ℕ)
        → IsCounted (commits w) (durable w) kept.point.epoch (counted_of (Some kept.point) (growing_number x w))
        → IsCounted (commits w) (durable w) kept.point.epoch
        (counted_of (Some kept.point) (closed_number (other_side x) w))
    turned_gone Even w counts = counts
    turned_gone Odd w counts = counts

-- the devices of a round that goes on
pub unfailed : (ran : Ran) → ran.beside.devices ≡ [] → closed_failed ran ≡ false
unfailed ran none = ap (list_any (is_closed ran.beside.files)) none

-- A round's lines, gleans and saves carry on what is kept, up to its swap.
module _ {D : Type 0} {tells : D → Option (List ℕ)} {clock : D → ℕ} {image_at : D → ℕ → List ℕ → Type 0}
    {faults : D → ℕ} {found : Images} {decls : List Decl} {s : State} {saved : ℕ} {rans : List Ran}
    {ordered : List Entry} {tries : ℕ} {round part : Round} {old new : RuntimeState} {before now : Vault D} {ran : Ran}
    {logged : ℕ → List Commit} (kept : KeptSoFar tells clock image_at found decls s saved rans ordered old before)
    (stands : StandsOn tells clock image_at old before) (decls_are : old.stands.decls ≡ decls)
    (state_is : old.stands.state ≡ state_after_all decls s ordered) (going : old.stands.ended ≡ false)
    (begins : Begins tries round old ran) (lines : RunsRoundLines part old new ran logged)
    (leaves : LeavesVault tells clock image_at faults ran logged old new before now)
    (sound : new.store.sound ≡ true) (index : ℕ)
    (rises : Rises (ordered ++ (lines.run index).ordered))
    (falls : EpochsNeverFall (ordered ++ (lines.run index).ordered)) where
  abbrev run_ordered : List Entry
  run_ordered = (lines.run index).ordered

  abbrev commits_then : ℕ → List Commit
  commits_then w = kept.commits w ++ logged w

  abbrev beside_then : Beside
  beside_then = beside_at_end (beside_of old) ran.printed.answers

  abbrev files_open : AreClosedFiles tells clock image_at kept.gone kept.closed old before
  files_open = kept.open_files going

  pub logs_ran : LogsRan tells clock image_at ran kept.commits logged kept.gone kept.durable kept.closed leaves.stored
      leaves.failed leaves.logs old new before now
  logs_ran = leaves.runs kept.commits kept.gone kept.durable kept.closed kept.logs files_open

  own_logged : (w : ℕ) → w < 8
      → AreLogged decls w (state_after_all decls s ordered) run_ordered (logged w)
  own_logged w below = subst (λ (t : State). AreLogged decls w t run_ordered (logged w)) state_is
      (subst (λ ds. AreLogged ds w old.stands.state run_ordered (logged w)) decls_are (lines.logged_are index w below))

  of_run : AreOfRound old.stands.clock.epoch ran.printed.end.epoch run_ordered
  of_run = of_round (lines.run index)

  later_closed : AllByRecursion (λ e. old.closed_at < e.number.epoch) run_ordered
  later_closed = all_weaker (λ (e : Entry). old.stands.clock.epoch ≤ e.number.epoch)
      (λ (e : Entry). old.closed_at < e.number.epoch)
      (λ e later. (let past = stands.closed.before in omega (arith, later, past))) run_ordered of_run.later

  pub logged_then_in : LoggedIn decls s (ordered ++ run_ordered) kept.since old.closed_at kept.older kept.gone
      commits_then
  logged_then_in = logged_more kept.parts.it run_ordered logged own_logged
      (λ w below. subst (λ ds. AllByRecursion (IsLineOf ds) (logged w)) decls_are (lines.lines_are w below))
      (λ w below. commits_all (λ n. old.closed_at < n.epoch) decls w (state_after_all decls s ordered) run_ordered
      (logged w) (own_logged w below) later_closed) of_run.workers

  store_here : (next : PagesOf kept.was.reading decls saved s (ordered ++ run_ordered) old.store.pages kept.older
      old.closed_at) × (newest_epoch next.at.catalogues ≡ newest_epoch kept.parts.store.at.catalogues)
  store_here = pages_more kept.parts.store run_ordered later_closed

  point_here : (next : PagesOf kept.was.reading decls saved s (ordered ++ run_ordered) kept.parts.point_pages kept.older
      old.closed_at) × (newest_epoch next.at.catalogues ≡ newest_epoch kept.parts.point_store.at.catalogues)
  point_here = pages_more kept.parts.point_store run_ordered later_closed

  counts_here : Counts old.counted kept.gone kept.since (newest_epoch store_here.0.at.catalogues)
  counts_here = counts_same old.counted old.counted kept.gone kept.since
      (newest_epoch kept.parts.store.at.catalogues) (newest_epoch store_here.0.at.catalogues) refl (sym store_here.1)
      kept.parts.counts

  then_store : StoreThen kept.was.reading decls saved s (ordered ++ run_ordered) new.store.pages kept.older kept.gone
      kept.since old.closed_at beside_then.closed
  then_store = store_then old new before now ran logged_then_in rises falls stands.whole stands.closed.workers files_open
      decls_are kept.parts.saved_by sound lines.caused begins.files leaves.gleans store_here.0 counts_here

  -- what counts of each log file as the round begins
  counts_old : CountsOf old.side kept.commits kept.gone kept.durable kept.closed old.save.newest
  counts_old = record {
    growing = λ w below. subst (λ (o : Option Savepoint). IsCounted (kept.commits w) (kept.durable w) (epoch_of o)
        (counted_of o (growing_number old.side w))) (sym kept.parts.newest_is) (kept.parts.growing w below);
    before = λ w below. subst (λ (o : Option Savepoint). (counted_of o (closed_number old.side w) ≡ 0)
        ⊎ IsCounted (kept.gone w) (kept.closed w) (epoch_of o) (counted_of o (closed_number old.side w)))
        (sym kept.parts.newest_is) (elim (kept.parts.gone_counts w below) [
          | inl covers ↦ inr covers
          | inr none ↦ inl none.0
        ]);
  }

  abbrev By : Beside → Saved → Type 0
  By = IsSavedBy ran.printed.begin.epoch (epoch_joined ran) logs_ran.marks

  newest_then : NewestOf (ByEither By (beside_of old) beside_then) kept.parts.point
      (newest_after old.save.newest leaves.stored) (map (λ (x : Saved). x.epoch) leaves.stored)
  newest_then = newest_of (ByEither By (beside_of old) beside_then) old.save.newest kept.parts.point leaves.stored
      kept.parts.newest_is
      (all_front (ByEither By (beside_of old) beside_then) leaves.stored (option_to_list leaves.failed)
      (by_either By ran (keeper_before ran) (beside_of old) ran.printed.asked ran.printed.answers
      (leaves.stored ++ option_to_list leaves.failed) lines.caused.answers logs_ran.saved))

  lines_closed : (w : ℕ) → w < 8 → lines_bytes (kept.gone w) ≡ kept.closed w
  lines_closed w below =
      let file = closed_file old.side before w stands.whole below in
      let n = item_at old.counted w (let eight = stands.closed.workers in omega (arith, eight, below)) in
      (files_open w n.0 file.bank n.1 file.there).lines

  -- the newest savepoint with its pages
  pub record PointThen (point : Savepoint) : Type 0 where
    pub pages : List Page
    pub rest : List Page
    pub front : new.store.pages ≡ pages ++ rest
    pub count : point.count ≡ length pages
    pub catalogue : point.catalogue ≡ length pages
    pub store : PagesOf kept.was.reading decls saved s (ordered ++ run_ordered) pages kept.older old.closed_at
    pub gone_counts : (w : ℕ) → w < 8 → GoneCounts point.epoch (kept.gone w) (kept.closed w)
        (counted_of (Some point) (closed_number old.side w)) (newest_epoch store.at.catalogues)

  by_beside : (b : Beside) (pages rest : List Page) (sequence : ℕ) (x : Saved)
      → (store : PagesOf kept.was.reading decls saved s (ordered ++ run_ordered) pages kept.older old.closed_at)
      → new.store.pages ≡ pages ++ rest → b.count ≡ length pages → b.growing ≡ old.side → length b.closed ≡ 8
      → Counts b.closed kept.gone kept.since (newest_epoch store.at.catalogues) → By b x
      → PointThen (point_of sequence x)
  by_beside b pages rest sequence x store front count growing eight counts by = record {
    pages = pages;
    rest = rest;
    front = front;
    count = by.5.count ∙ count;
    catalogue = by.5.catalogue ∙ count;
    store = store;
    gone_counts = gone_saved kept.gone kept.closed b kept.since (newest_epoch store.at.catalogues) eight counts
        lines_closed by.0 by.3 x sequence old.side by.4.workers by.5 growing;
  }

  point_then : PointThen newest_then.point
  point_then = elim newest_then.which [
    | inl still ↦ subst PointThen (sym still) (record {
      pages = kept.parts.point_pages;
      rest = kept.parts.rest ++ leaves.grows.0;
      front = leaves.grows.1 ∙ ap (λ l. l ++ leaves.grows.0) kept.parts.front
          ∙ append_assoc kept.parts.point_pages kept.parts.rest leaves.grows.0;
      count = kept.parts.count;
      catalogue = kept.parts.catalogue;
      store = point_here.0;
      gone_counts = λ w below. subst (GoneCounts kept.parts.point.epoch (kept.gone w) (kept.closed w)
          (counted_of (Some kept.parts.point) (closed_number old.side w))) (sym point_here.1)
          (kept.parts.gone_counts w below);
    })
    | inr stored ↦ subst PointThen (sym stored.2) (elim stored.3 [
      | inl first ↦ by_beside (beside_of old) old.store.pages leaves.grows.0 stored.0 stored.1 store_here.0
          leaves.grows.1 refl refl stands.closed.workers counts_here first
      | inr second ↦ by_beside beside_then new.store.pages [] stored.0 stored.1 then_store.next
          (sym (append-nil new.store.pages)) (sym (leaves.gleans.many sound))
          (growing_stays (beside_of old) ran.printed.answers)
          (closed_eight (beside_of old) ran.printed.answers stands.closed.workers) then_store.counts second
    ])
  ]

  newest_now : new.save.newest ≡ Some newest_then.point
  newest_now = leaves.has_stored.newest ∙ newest_then.is

  later_point : kept.parts.point.epoch ≤ newest_then.point.epoch
  later_point =
      let rise = subst (λ (o : Option Savepoint). NeverFall (epoch_of o)
      (map (λ (x : Saved). x.epoch) (leaves.stored ++ option_to_list leaves.failed))) kept.parts.newest_is
      leaves.has_stored.rise in
      let up = last_in_later kept.parts.point.epoch leaves.stored (option_to_list leaves.failed) rise in
      omega (arith, up, newest_then.epoch)

  later_saved : AllByRecursion (λ e. saved < e.number.epoch) run_ordered
  later_saved = all_weaker (λ (e : Entry). old.closed_at < e.number.epoch) (λ (e : Entry). saved < e.number.epoch)
      (λ e later. (let first = kept.parts.saved_by in let then = kept.parts.it.since_by in
      omega (arith, later, first, then))) run_ordered later_closed

  pub kept_here : KeptParts kept.was.reading decls saved s (ordered ++ run_ordered) old.side beside_then.closed
      kept.since old.closed_at kept.older kept.gone commits_then logs_ran.durable kept.closed new.store.pages
      new.save.newest (last_in (last_saved saved rans) (saved_in ran))
  kept_here = record {
    it = logged_then_in;
    above = all_append (λ (e : Entry). saved < e.number.epoch) ordered run_ordered kept.parts.above later_saved;
    saved_by = kept.parts.saved_by;
    store = then_store.next;
    counts = then_store.counts;
    point = newest_then.point;
    newest_is = newest_now;
    epoch = newest_then.epoch ∙ ap (last_in kept.parts.point.epoch) leaves.has_stored.epochs
        ∙ ap (λ e. last_in e (saved_in ran)) kept.parts.epoch;
    closed_by = (let first = kept.parts.closed_by in let then = later_point in omega (arith, first, then));
    point_pages = point_then.pages;
    rest = point_then.rest;
    front = point_then.front;
    count = point_then.count;
    catalogue = point_then.catalogue;
    point_store = point_then.store;
    growing = λ w below. subst (λ (o : Option Savepoint). IsCounted (commits_then w) (logs_ran.durable w) (epoch_of o)
        (counted_of o (growing_number old.side w))) newest_now ((logs_ran.counts_here counts_old).growing w below);
    gone_counts = point_then.gone_counts;
  }

module _ {D : Type 0} {tells : D → Option (List ℕ)} {clock : D → ℕ} {image_at : D → ℕ → List ℕ → Type 0}
    {faults : D → ℕ} where
  -- A round that was run carries on what the vault keeps, whatever ended it, unless the snapshots failed.
  pub kept_more : {found : Images} {decls : List Decl} {s : State} {saved : ℕ} {rans : List Ran} {ordered : List Entry}
      {tries : ℕ} {round : Round} {old new : RuntimeState} {before now : Vault D} {report : Report}
      (kept : KeptSoFar tells clock image_at found decls s saved rans ordered old before)
      → StandsOn tells clock image_at old before → old.stands.decls ≡ decls
      → old.stands.state ≡ state_after_all decls s ordered → old.stands.ended ≡ false
      → (one : RanRound tries round old new report)
      → LeavesVault tells clock image_at faults one.ran one.logged old new before now → new.store.sound ≡ true
      → (index : ℕ) → Rises (ordered ++ (one.lines.run index).ordered)
      → EpochsNeverFall (ordered ++ (one.lines.run index).ordered)
      → (next : KeptSoFar tells clock image_at found decls s saved (rans ++ one.ran ∷ [])
      (ordered ++ (one.lines.run index).ordered) new now)
      × (next.commits ≡ since_swap (swaps one.ran) (λ w. kept.commits w ++ one.logged w))
      × (next.gone ≡ behind_swap (swaps one.ran) (λ w. kept.commits w ++ one.logged w) kept.gone)
      × (next.older ≡ cond (swaps one.ran) (λ w. kept.older w ++ kept.gone w) kept.older)
      × (next.since ≡ cond (swaps one.ran) old.closed_at kept.since)
  kept_more {decls = decls} {s = s} {saved = saved} {rans = rans} {ordered = ordered} {old = old} {new = new}
      {now = now} {report = report} kept stands decls_are state_is going one leaves sound index rises falls =
      let ran = one.ran in
      let run = one.lines.run index in
      let here = kept_here kept stands decls_are state_is going one.begins one.lines leaves sound index rises falls in
      let lr = logs_ran kept stands decls_are state_is going one.begins one.lines leaves sound index rises falls in
      let of : AreOfRound old.stands.clock.epoch ran.printed.end.epoch run.ordered = of_round run in
      let begins : ran.printed.begin.epoch ≡ old.stands.clock.epoch = ap (λ (n : Number). n.epoch) run.clocks.0 in
      let up : old.stands.clock.epoch ≤ ran.printed.end.epoch =
      (let later = advances_later ran.printed.begin.epoch ran.printed.answers ran.printed.end.epoch run.clocks.1.epoch in
      omega (arith, begins, later)) in
      let joined : new.stands.clock.epoch ≡ epoch_joined ran = ap (λ (n : Number). n.epoch) one.clock in
      let later : ran.printed.end.epoch ≤ new.stands.clock.epoch =
      (let at = joined_later ran in omega (arith, joined, at)) in
      let below = all_append (λ (e : Entry). e.number.epoch ≤ new.stands.clock.epoch) ordered run.ordered
      (all_weaker (λ (e : Entry). e.number.epoch ≤ old.stands.clock.epoch)
      (λ (e : Entry). e.number.epoch ≤ new.stands.clock.epoch) (λ e by. omega (arith, by, up, later)) ordered
      kept.below)
      (all_weaker (λ (e : Entry). e.number.epoch ≤ ran.printed.end.epoch)
      (λ (e : Entry). e.number.epoch ≤ new.stands.clock.epoch) (λ e by. omega (arith, by, later)) run.ordered
      of.earlier) in
      let commits : ℕ → List Commit = λ w. kept.commits w ++ one.logged w in
      let counted_is : (keeper_at_end ran).counted ≡ some_counted (beside_at_end (beside_of old) ran.printed.answers).closed =
      counted_at_end (keeper_before ran) (beside_of old) ran.printed.answers
      (ap (λ (f : LogFiles). some_counted f.counted) one.begins.files) in
      let last : last_in (last_saved saved rans) (saved_in ran) ≡ last_saved saved (rans ++ ran ∷ []) =
      sym (last_push saved rans ran) in
      elim (cases_Bool (swaps ran)) [
        | inl is ↦
            let comes = both_true (comes_to_swap ran) (not (closed_failed ran)) is in
            let parts_of_it = both_true (is_some ran.printed.durable) (not (keeper_at_end ran).counted) comes.0 in
            let none : some_counted (beside_at_end (beside_of old) ran.printed.answers).closed ≡ false =
            sym counted_is ∙ not_true (keeper_at_end ran).counted parts_of_it.1 in
            let durable : ran.printed.durable ≡ Some ran.printed.end.epoch =
            made_durable ran.printed.durable _ ran.printed.end.epoch one.durable parts_of_it.0 in
            let saved_last : last_in (last_saved saved rans) (saved_in ran) ≡ ran.printed.end.epoch =
            ap (λ d. last_in (last_saved saved rans) (saves_told ran.printed.answers ++ option_to_list d)) durable
            ∙ last_more (last_saved saved rans) ran.printed.end.epoch (saves_told ran.printed.answers) in
            let by = λ (w : ℕ) (under : w < 8). all_append (λ (c : Commit). c.number.epoch ≤ ran.printed.end.epoch)
            (kept.commits w) (one.logged w)
            (all_weaker (λ (c : Commit). c.number.epoch ≤ old.stands.clock.epoch)
            (λ (c : Commit). c.number.epoch ≤ ran.printed.end.epoch) (λ c at. omega (arith, at, up)) (kept.commits w)
            (all_back (λ (c : Commit). c.number.epoch ≤ old.stands.clock.epoch) (kept.gone w) (kept.commits w)
            (all_back (λ (c : Commit). c.number.epoch ≤ old.stands.clock.epoch) (kept.older w)
            (kept.gone w ++ kept.commits w)
            (commits_all (λ n. n.epoch ≤ old.stands.clock.epoch) decls w s ordered
            (kept.older w ++ (kept.gone w ++ kept.commits w)) (kept.parts.it.is_logged w under) kept.below))))
            (commits_all (λ n. n.epoch ≤ ran.printed.end.epoch) decls w (state_after_all decls s ordered) run.ordered
            (one.logged w) (own_logged kept stands decls_are state_is going one.begins one.lines leaves sound index rises
            falls w under) of.earlier) in
            let turned = kept_turned here (closed_eight (beside_of old) ran.printed.answers stands.closed.workers) none
            (leaves.files.nothing comes.0) ran.printed.end.epoch saved_last by new.counted
            (λ w n at. lr.closed_whole is w n at) in
            let side : new.side ≡ other_side old.side =
            leaves.files.side ∙ ap (λ b. cond b (other_side old.side) old.side) is in
            let closed_at : new.closed_at ≡ ran.printed.end.epoch =
            leaves.files.closed_at ∙ ap (λ b. cond b ran.printed.end.epoch old.closed_at) is in
            let files = subst (λ b. AreClosedFiles tells clock image_at (behind_swap b commits kept.gone)
            (behind_swap b lr.durable kept.closed) new now) is (lr.are_closed (λ comes_too. is)) in (
              record {
                was = kept.was;
                since = old.closed_at;
                older = λ w. kept.older w ++ kept.gone w;
                gone = commits;
                commits = λ w. [];
                durable = λ w. [];
                closed = lr.durable;
                parts = subst (λ (x : Side). KeptParts kept.was.reading decls saved s (ordered ++ run.ordered) x new.counted
                    old.closed_at new.closed_at (λ w. kept.older w ++ kept.gone w) commits (λ w. []) (λ w. []) lr.durable
                    new.store.pages new.save.newest (last_saved saved (rans ++ ran ∷ []))) (sym side)
                    (subst (λ e. KeptParts kept.was.reading decls saved s (ordered ++ run.ordered) (other_side old.side)
                    new.counted old.closed_at e (λ w. kept.older w ++ kept.gone w) commits (λ w. []) (λ w. []) lr.durable
                    new.store.pages new.save.newest (last_saved saved (rans ++ ran ∷ []))) (sym closed_at)
                    (subst (λ e. KeptParts kept.was.reading decls saved s (ordered ++ run.ordered) (other_side old.side)
                    new.counted old.closed_at ran.printed.end.epoch (λ w. kept.older w ++ kept.gone w) commits (λ w. []) (λ w. [])
                    lr.durable new.store.pages new.save.newest e) last turned));
                below = below;
                logs = subst (λ b. AreLogs tells clock image_at (since_swap b commits) (since_swap b lr.durable) new now) is
                    lr.are_logs;
                open_files = λ on. files;
                files = inl files;
              },
              ap (λ b. since_swap b commits) (sym is),
              ap (λ b. behind_swap b commits kept.gone) (sym is),
              ap (λ b. cond b (λ w. kept.older w ++ kept.gone w) kept.older) (sym is),
              ap (λ b. cond b old.closed_at kept.since) (sym is),
            )
        | inr is ↦
            let side : new.side ≡ old.side =
            leaves.files.side ∙ ap (λ b. cond b (other_side old.side) old.side) is in
            let closed_at : new.closed_at ≡ old.closed_at =
            leaves.files.closed_at ∙ ap (λ b. cond b ran.printed.end.epoch old.closed_at) is in
            let counted : new.counted ≡ (beside_at_end (beside_of old) ran.printed.answers).closed =
            leaves.files.counted ∙ ap (λ b. cond b (map (λ (m : Mark). m.length) (logs_marks leaves.logs))
            (beside_at_end (beside_of old) ran.printed.answers).closed) is in
            let files = λ (whole : comes_to_swap ran ≡ true → swaps ran ≡ true).
            subst (λ b. AreClosedFiles tells clock image_at (behind_swap b commits kept.gone)
            (behind_swap b lr.durable kept.closed) new now) is (lr.are_closed whole) in (
              record {
                was = kept.was;
                since = kept.since;
                older = kept.older;
                gone = kept.gone;
                commits = commits;
                durable = lr.durable;
                closed = kept.closed;
                parts = subst (λ (x : Side). KeptParts kept.was.reading decls saved s (ordered ++ run.ordered) x new.counted
                    kept.since new.closed_at kept.older kept.gone commits lr.durable kept.closed new.store.pages
                    new.save.newest (last_saved saved (rans ++ ran ∷ []))) (sym side)
                    (subst (λ e. KeptParts kept.was.reading decls saved s (ordered ++ run.ordered) old.side new.counted
                    kept.since e kept.older kept.gone commits lr.durable kept.closed new.store.pages new.save.newest
                    (last_saved saved (rans ++ ran ∷ []))) (sym closed_at)
                    (subst (λ l. KeptParts kept.was.reading decls saved s (ordered ++ run.ordered) old.side l kept.since
                    old.closed_at kept.older kept.gone commits lr.durable kept.closed new.store.pages new.save.newest
                    (last_saved saved (rans ++ ran ∷ []))) (sym counted)
                    (subst (λ e. KeptParts kept.was.reading decls saved s (ordered ++ run.ordered) old.side
                    (beside_at_end (beside_of old) ran.printed.answers).closed kept.since old.closed_at kept.older kept.gone commits
                    lr.durable kept.closed new.store.pages new.save.newest e) last here)));
                below = below;
                logs = subst (λ b. AreLogs tells clock image_at (since_swap b commits) (since_swap b lr.durable) new now) is
                    lr.are_logs;
                open_files = λ on. files (λ comes. whole_swap ran comes (unfailed ran (goes_on_quiet ran
                    (sym one.reports.end ∙ no_end report.end (sym one.ended ∙ on)))));
                files = elim (cases_Bool (comes_to_swap ran)) [
                  | inl comes ↦ inr (λ w under.
                      subst (λ (x : Side). counted_of new.save.newest (closed_number x w) ≡ 0) (sym side)
                      (leaves.files.nothing comes w under))
                  | inr left ↦ inl (files (λ comes. absurd (true≢false (sym comes ∙ left))))
                ];
              },
              ap (λ b. since_swap b commits) (sym is),
              ap (λ b. behind_swap b commits kept.gone) (sym is),
              ap (λ b. cond b (λ w. kept.older w ++ kept.gone w) kept.older) (sym is),
              ap (λ b. cond b old.closed_at kept.since) (sym is),
            )
      ]

  -- Where the save didn't fail, the store is up.
  pub save_up : {ran : Ran} {logged : ℕ → List Commit} {old new : RuntimeState} {before now : Vault D}
      → LeavesVault tells clock image_at faults ran logged old new before now
      → (RoseIn faults Save before now → ⊥) → new.save.down ≡ None
  save_up {new = new} leaves quiet = by_failed leaves.failed refl
    where
      no_count : (down : Option ℕ) → is_some down ≡ false → down ≡ None
      no_count None none = refl
      no_count (Some count) none = absurd cc

      by_failed : (failed : Option Saved) → leaves.failed ≡ failed → new.save.down ≡ None
      by_failed None none = no_count new.save.down (leaves.has_stored.down ∙ ap is_some none)
      by_failed (Some saved) some =
          absurd (quiet (leaves.failed_are.rose Save (leaves.has_stored.fails.0 (ap is_some some))))
