-- The log files and pages that the rounds of a run were over, by what the workers logged of it.
use Rattle.std.proofs.Common.{◌≡◌, ◌⊎◌, ◌∙◌, ◌≤◌, ◌<◌, ◌+◌, sym, ap, subst, refl, inl, inr, ℕ, Bool, true, false}
use Rattle.std.proofs.Common.{true≢false, zero, suc, cond, arith, List, [], ◌∷◌, ◌++◌, length, Option, Some, None, append_assoc}
use mathlib.Core.Path.{fun_ext}
use Rattle.std.specs.Prelude.{◌&&◌, filter, flat_map, get_or, map, nat_le, nat_lt, not, replicate, slice_get, take, ⊤}
use Rattle.std.specs.List.{AllByRecursion, Contains}
use Rattle.std.proofs.lemmas.Bool.{cases_Bool}
use Rattle.std.proofs.lemmas.Bool.Decides.{nat_tests}
use Rattle.std.proofs.lemmas.List.{append-nil, length-append, length-map}
use Rattle.std.proofs.lemmas.List.Elements.{filter-append}
use Rattle.std.proofs.lemmas.Option.{same_Some}
use Rattle.lists.specs.Each.{all_append, all_weaker}
use Rattle.lists.specs.Elements.{in_head, in_tail}
use Rattle.lists.specs.Fronts.{IsFront}
use Rattle.log_writer.specs.Vault.{IsWhole}
use Rattle.outside.specs.declared.device.Device.{Device}
use Rattle.log_writer.specs.declared.vault.Vault.{Vault}
use Rattle.serial_model.specs.History.{Entry, EpochsNeverFall, Rises, state_after_all}
use Rattle.serial_model.specs.Numbers.{IsBelow}
use Rattle.serial_model.specs.State.{State}
use Rattle.serial_model.specs.declared.decl.Decl.{Decl}
use Rattle.serial_model.specs.declared.number.Commit.{Commit}
use Rattle.serial_model.specs.declared.number.Number.{Number}
use Rattle.script_grammar.specs.Script.{Round}
use Rattle.wire_form.specs.LogFile.{AreLinesOf, IsDamagedAt, IsLineOf, lines_bytes}
use Rattle.wire_form.specs.LogFileLaws.{damaged_no_lines}
use Rattle.wire_form.specs.Pages.{Contents}
use Rattle.wire_form.specs.declared.bucket.Bucket.{Bucket}
use Rattle.wire_form.specs.declared.bucket.Entry.{Entry as LogEntry}
use Rattle.wire_form.specs.declared.clock.Mark.{Mark}
use Rattle.wire_form.specs.declared.page.Page.{Page}
use Rattle.log_mapper.specs.Mapped.{IsDamaged, entries_after, entries_of, is_after}
use Rattle.log_reducer.specs.Reduced.{AreLast, all_logged, logged_as}
use Rattle.log_reducer.specs.declared.latest.Logged.{Logged}
use Rattle.snapshot_store.specs.Content.{CatalogueAt, words_of}
use Rattle.snapshot_store.specs.Store.{StoreState}
use Rattle.root_composer.specs.Composition.{IsComposed, IsTooDeep, WouldCompose}
use Rattle.gleaner.specs.Glean.{AreMappedFiles, bank_of}
use Rattle.recovery_core.specs.Catalogues.{newest_epoch}
use Rattle.joint_crashes.specs.Images.{Images}
use Rattle.joint_crashes.specs.JointCrash.{parts_of}
use Rattle.joint_crashes.specs.Resting.{AreTold}
use Rattle.checkpoints.specs.NextReading.{newest_is}
use Rattle.tx_script.specs.Causes.{keeper_at_end, keeper_before, some_counted}
use Rattle.tx_script.specs.Run.{LogFiles, Ran}
use Rattle.tx_script.specs.declared.answer.Answer.{Answer}
use Rattle.tx_script.specs.declared.answer.Answer.TheVariants as answers
use Rattle.worker_logs.specs.Saves.{logs_marks}
use Rattle.worker_logs.specs.declared.savepoints.Beside.{Beside}
use Rattle.worker_logs.specs.declared.savepoints.Side.{Side}
use Rattle.worker_logs.specs.declared.savepoints.Side.TheVariants.{Even, Odd}
use Rattle.round_engine.specs.Changes.{AreLogged}
use Rattle.round_engine.specs.Ends.{swaps}
use Rattle.round_engine.specs.Gleans.{ComesTo as EngineComesTo, ComesTooDeep, FindsDamage, closed_of, newest_in}
use Rattle.round_engine.specs.Logs.{IsClosedFile}
use Rattle.round_engine.specs.RanRound.{LeavesVault, RanRound}
use Rattle.round_engine.specs.Saves.{beside_at_end}
use Rattle.round_engine.specs.Sides.{closed_in, is_odd, other_side}
use Rattle.round_engine.specs.Standing.{RuntimeState, StandsOn, beside_of, files_of}
use Rattle.round_engine.specs.Swaps.{behind_swap, since_swap}
use Rattle.round_engine.specs.declared.report.Report.{Report}
use Rattle.program_calls.specs.Beginning.{SameDecls}
use Rattle.program_calls.specs.RanOver.{AddsPages, AllLogged, AreLengthsOf, AreOf, BeginsOver, NextComesTo, FilesAt, FilesFrom, GleansOf}
use Rattle.program_calls.specs.RanOver.{MakesPages, MayGlean, closed_entries, counted_behind, files_after}
use Rattle.program_calls.specs.Vaults.{Vaults, HoldsOf}
use Rattle.program_calls.proofs.KeptFiles.{closed_file, get_at, gone_rise, item_at, mapped_last}
use Rattle.program_calls.proofs.KeptHere.{Counts}
use Rattle.program_calls.proofs.KeptLogged.{LoggedIn, logged_more}
use Rattle.program_calls.proofs.KeptMapped.{eight, eight_below, filter_all, filter_none, gone_logged}
use Rattle.program_calls.proofs.KeptParts.{commits_all}
use Rattle.program_calls.proofs.KeptRounds.{KeptSoFar, advances_later}
use Rattle.program_calls.proofs.RoundCommits.{AreOfRound, of_round}
use Rattle.program_calls.proofs.KeptSaves.{closed_eight, counted_at_end, made_counted, made_zero, none_same, snap_in, zeros}

-- ---- what the workers logged

-- a worker's whole log, in parts
abbrev pub log_of_parts : (older gone commits : ℕ → List Commit) → ℕ → List Commit
log_of_parts older gone commits w = older w ++ (gone w ++ commits w)

-- what is above an epoch isn't between two of which the second is no later
past_between : (from to first : ℕ) (cs : List Commit) → to < first → AllByRecursion (λ c. first ≤ c.number.epoch) cs
    → filter (is_after from to) cs ≡ []
past_between from to first cs before later = filter_none (is_after from to) cs (of cs later)
  where
    of : (cs : List Commit) → AllByRecursion (λ c. first ≤ c.number.epoch) cs
        → AllByRecursion (λ c. is_after from to c ≡ false) cs
    of [] all = tt
    of (c ∷ more) all = (
      (let at = all.0 in let is : nat_le c.number.epoch to ≡ false = grind (arith, nat_tests) in
          ap (λ b. nat_lt from c.number.epoch && b) is ∙ and_false (nat_lt from c.number.epoch)),
      of more all.1,
    )
      where
        and_false : (b : Bool) → b && false ≡ false
        and_false true = refl
        and_false false = refl

early_between : (from to : ℕ) (cs : List Commit) → AllByRecursion (λ c. c.number.epoch ≤ from) cs
    → filter (is_after from to) cs ≡ []
early_between from to cs by = filter_none (is_after from to) cs (of cs by)
  where
    of : (cs : List Commit) → AllByRecursion (λ c. c.number.epoch ≤ from) cs
        → AllByRecursion (λ c. is_after from to c ≡ false) cs
    of [] all = tt
    of (c ∷ more) all = (
      (let at = all.0 in let is : nat_lt from c.number.epoch ≡ false = grind (arith, nat_tests) in
          ap (λ b. b && nat_le c.number.epoch to) is),
      of more all.1,
    )

just_between : (from to : ℕ) (cs : List Commit) → AllByRecursion (λ c. from < c.number.epoch) cs
    → AllByRecursion (λ c. c.number.epoch ≤ to) cs → filter (is_after from to) cs ≡ cs
just_between from to cs above by = filter_all (is_after from to) cs (of cs above by)
  where
    of : (cs : List Commit) → AllByRecursion (λ c. from < c.number.epoch) cs
        → AllByRecursion (λ c. c.number.epoch ≤ to) cs → AllByRecursion (λ c. is_after from to c ≡ true) cs
    of [] above by = tt
    of (c ∷ more) above by = (
      (let past = above.0 in let within = by.0 in
          let first : nat_lt from c.number.epoch ≡ true = grind (arith, nat_tests) in
          let second : nat_le c.number.epoch to ≡ true = grind (arith, nat_tests) in
          ap (λ b. b && nat_le c.number.epoch to) first ∙ second),
      of more above.1 by.1,
    )

module _ {decls : List Decl} {s : State} {ordered : List Entry} {since closed_at : ℕ}
    {older gone commits : ℕ → List Commit} (it : LoggedIn decls s ordered since closed_at older gone commits)
    (w : ℕ) (below : w < 8) where
  -- the closed log file has what is between the two epochs
  pub gone_between : filter (is_after since closed_at) (log_of_parts older gone commits w) ≡ gone w
  gone_between =
      filter-append (is_after since closed_at) (older w) (gone w ++ commits w)
      ∙ ap (λ l. l ++ filter (is_after since closed_at) (gone w ++ commits w))
      (early_between since closed_at (older w) (it.older_by w below))
      ∙ filter-append (is_after since closed_at) (gone w) (commits w)
      ∙ ap (λ l. l ++ filter (is_after since closed_at) (commits w))
      (just_between since closed_at (gone w) (it.gone_from w below) (it.gone_by w below))
      ∙ ap (λ l. gone w ++ l) (past_between since closed_at (closed_at + 1) (commits w) (omega arith)
      (all_weaker (λ (c : Commit). closed_at < c.number.epoch) (λ (c : Commit). closed_at + 1 ≤ c.number.epoch)
      (λ c later. omega (arith, later)) (commits w) (it.here_from w below)))
      ∙ append-nil (gone w)

  -- and the growing one has what is above the second
  pub here_between : (to : ℕ) → AllByRecursion (λ c. c.number.epoch ≤ to) (commits w)
      → filter (is_after closed_at to) (log_of_parts older gone commits w) ≡ commits w
  here_between to by =
      filter-append (is_after closed_at to) (older w) (gone w ++ commits w)
      ∙ ap (λ l. l ++ filter (is_after closed_at to) (gone w ++ commits w))
      (early_between closed_at to (older w)
      (all_weaker (λ (c : Commit). c.number.epoch ≤ since) (λ (c : Commit). c.number.epoch ≤ closed_at)
      (λ c first. (let up = it.since_by in omega (arith, first, up))) (older w) (it.older_by w below)))
      ∙ filter-append (is_after closed_at to) (gone w) (commits w)
      ∙ ap (λ l. l ++ filter (is_after closed_at to) (commits w))
      (early_between closed_at to (gone w) (it.gone_by w below))
      ∙ just_between closed_at to (commits w) (it.here_from w below) by

-- ---- lists

flat_same : {X Y : Type 0} (f g : X → List Y) (xs : List X) → ((x : X) → Contains xs x → f x ≡ g x)
    → flat_map f xs ≡ flat_map g xs
flat_same f g [] same = refl
flat_same f g (x ∷ xs) same = ap (λ l. l ++ flat_map f xs) (same x (in_head x xs))
    ∙ ap (λ l. g x ++ l) (flat_same f g xs (λ y has. same y (in_tail y x xs has)))

pub below_length : {X : Type 0} (xs : List X) (i : ℕ) (x : X) → slice_get xs i ≡ Some x → i < length xs
below_length [] i x at = absurd cc
below_length (y ∷ xs) zero x at = omega arith
below_length (y ∷ xs) (suc i) x at = omega (arith, below_length xs i x at)

pub all_behind : {X : Type 0} (P : X → Type 0) (xs ys : List X) → AllByRecursion P (xs ++ ys) → AllByRecursion P ys
all_behind P [] ys all = all
all_behind P (x ∷ xs) ys all = all_behind P xs ys all.1

append_same : (xs ys zs : List (List ℕ)) → xs ++ ys ≡ xs ++ zs → ys ≡ zs
append_same [] ys zs same = same
append_same (x ∷ xs) ys zs same = append_same xs ys zs (cc)

-- a front isn't longer
front_long : (front list : List ℕ) → IsFront front list → length front ≤ length list
front_long front list is =
    let size : length (take (length front) list) ≡ length front = ap length is in
    let most = take_most (length front) list in omega (arith, size, most)
  where
    take_most : (n : ℕ) (list : List ℕ) → length (take n list) ≤ length list
    take_most zero list = omega arith
    take_most (suc n) [] = omega arith
    take_most (suc n) (x ∷ xs) = omega (arith, take_most n xs)

-- a vault has eight closed log files
closed_many : {D : Type 0} (side : Side) (vault : Vault D) → IsWhole vault → length (closed_in side vault) ≡ 8
closed_many Even vault whole = whole.odd
closed_many Odd vault whole = whole.even

-- ---- the files of rounds, whatever was logged

-- each round begins where the one before it left the files and the pages
abbrev pub OverFrom : ℕ → FilesAt → List Ran → FilesAt → Type 0
OverFrom room f [] g = g ≡ f
OverFrom room f (ran ∷ rans) g = BeginsOver room f ran × (made : List (List ℕ)) × (counted : List ℕ)
    × AddsPages ran made × OverFrom room (files_after f ran made counted) rans g

-- what is said of the files of a round, of what it made and of what its join closed
abbrev pub OfFiles : Type 1
OfFiles = FilesAt → Ran → List (List ℕ) → List ℕ → Type 0

-- by what was logged: what its gleans come to
abbrev pub TellsOf : (ℕ → List Commit) → OfFiles
TellsOf logged f ran made counted = GleansOf f ran made logged

-- and how much counts of what its join closed
abbrev pub ClosesOf : (ℕ → List Commit) → OfFiles
ClosesOf logged f ran made counted =
    swaps ran ≡ true → AreLengthsOf logged f.files.closed_at ran.printed.end.epoch counted

-- so it is of each round
abbrev pub AllOver : (P : OfFiles) (room : ℕ) (f : FilesAt) (rans : List Ran) (g : FilesAt) → OverFrom room f rans g
    → Type 0
AllOver P room f [] g over = ⊤
AllOver P room f (ran ∷ rans) g over = P f ran over.1 over.2
    × AllOver P room (files_after f ran over.1 over.2) rans g over.4

-- one round more
abbrev pub over_push : (room : ℕ) (f : FilesAt) (rans : List Ran) (g : FilesAt) (ran : Ran) (made : List (List ℕ))
    (counted : List ℕ) → OverFrom room f rans g → BeginsOver room g ran → AddsPages ran made
    → OverFrom room f (rans ++ ran ∷ []) (files_after g ran made counted)
over_push room f [] g ran made counted over begins adds =
    (subst (λ x. BeginsOver room x ran) over begins, made, counted, adds, ap (λ x. files_after x ran made counted) over)
over_push room f (r ∷ rans) g ran made counted over begins adds =
    (over.0, over.1, over.2, over.3, over_push room (files_after f r over.1 over.2) rans g ran made counted over.4 begins adds)

pub over_more : (P : OfFiles) (room : ℕ) (f : FilesAt) (rans : List Ran) (g : FilesAt) (ran : Ran)
    (made : List (List ℕ)) (counted : List ℕ) (over : OverFrom room f rans g) (begins : BeginsOver room g ran)
    (adds : AddsPages ran made) → AllOver P room f rans g over → P g ran made counted
    → AllOver P room f (rans ++ ran ∷ []) (files_after g ran made counted)
    (over_push room f rans g ran made counted over begins adds)
over_more P room f [] g ran made counted over begins adds all own =
    (subst (λ x. P x ran made counted) over own, tt)
over_more P room f (r ∷ rans) g ran made counted over begins adds all own =
    (all.0, over_more P room (files_after f r over.1 over.2) rans g ran made counted over.4 begins adds all.1 own)

-- What follows for each round up to an epoch follows for all of them.
over_then : (P Q : OfFiles) (first : ℕ)
    → ((f : FilesAt) (ran : Ran) (made : List (List ℕ)) (counted : List ℕ) → f.files.closed_at < first
    → ran.printed.end.epoch < first → P f ran made counted → Q f ran made counted)
    → (room : ℕ) (f : FilesAt) (rans : List Ran) (g : FilesAt) (over : OverFrom room f rans g)
    → f.files.closed_at < first → AllByRecursion (λ ran. ran.printed.end.epoch < first) rans
    → AllOver P room f rans g over → AllOver Q room f rans g over
over_then P Q first one room f [] g over before ended all = tt
over_then P Q first one room f (ran ∷ rans) g over before ended all = (
  one f ran over.1 over.2 before ended.0 all.0,
  over_then P Q first one room (files_after f ran over.1 over.2) rans g over.4 (later_closed (swaps ran)) ended.1 all.1,
)
  where
    later_closed : (b : Bool)
        → (let x : LogFiles = cond b (record { odd = not f.files.odd; counted = over.2; closed_at = ran.printed.end.epoch })
        (record { odd = f.files.odd; counted = counted_behind ran; closed_at = f.files.closed_at }) in x.closed_at < first)
    later_closed true = ended.0
    later_closed false = before

-- ---- more was logged, of later epochs

module _ (logged later : ℕ → List Commit) (first : ℕ)
    (past : (w : ℕ) → w < 8 → AllByRecursion (λ c. first ≤ c.number.epoch) (later w)) where
  abbrev then_logged : ℕ → List Commit
  then_logged w = logged w ++ later w

  between_stays : (from to w : ℕ) → to < first → w < 8
      → filter (is_after from to) (logged w) ≡ filter (is_after from to) (then_logged w)
  between_stays from to w before below =
      sym (filter-append (is_after from to) (logged w) (later w)
      ∙ ap (λ l. filter (is_after from to) (logged w) ++ l) (past_between from to first (later w) before (past w below))
      ∙ append-nil (filter (is_after from to) (logged w)))

  entries_stay : (f : FilesAt) → f.files.closed_at < first → closed_entries f logged ≡ closed_entries f then_logged
  entries_stay f before = flat_same
      (λ w. map (logged_as (bank_of (not f.files.odd) w)) (entries_after f.since f.files.closed_at (logged w)))
      (λ w. map (logged_as (bank_of (not f.files.odd) w)) (entries_after f.since f.files.closed_at (then_logged w))) eight
      (λ w has. ap (λ cs. map (logged_as (bank_of (not f.files.odd) w)) (flat_map entries_of cs))
      (between_stays f.since f.files.closed_at w before (eight_below w has)))

  abbrev may_glean : (f : FilesAt) → f.files.closed_at < first → MayGlean f logged → MayGlean f then_logged
  may_glean f before of = record {
    run = of.run;
    last = subst (λ l. AreLast l of.run) (entries_stay f before) of.last;
    contents = of.contents;
    here = of.here;
  }

  comes_then : (f : FilesAt) (before : f.files.closed_at < first) (of : MayGlean f logged) (what : Option ℕ)
      → NextComesTo f logged of what → NextComesTo f then_logged (may_glean f before of) what
  comes_then f before of (Some new) comes = comes
  comes_then f before of None comes = comes

  tells_then : (f : FilesAt) (ran : Ran) (made : List (List ℕ)) (counted : List ℕ) → f.files.closed_at < first
      → ran.printed.end.epoch < first → TellsOf logged f ran made counted → TellsOf then_logged f ran made counted
  tells_then f ran made counted before ended tells = record {
    found = λ what has. let it = tells.found what has in
        (may_glean f before it.0, comes_then f before it.0 what it.1);
    added = λ new makes. let it = tells.added new makes in (may_glean f before it.0, it.1);
  }

  closes_then : (f : FilesAt) (ran : Ran) (made : List (List ℕ)) (counted : List ℕ) → f.files.closed_at < first
      → ran.printed.end.epoch < first → ClosesOf logged f ran made counted → ClosesOf then_logged f ran made counted
  closes_then f ran made counted before ended closes is =
      let lengths = closes is in
      record {
        workers = lengths.workers;
        each = λ w size at. lengths.each w size at ∙ ap (λ cs. length (lines_bytes cs))
            (between_stays f.files.closed_at ran.printed.end.epoch w ended
            (let many = lengths.workers in let within = below_length counted w size at in omega (arith, many, within)));
      }

  -- so what was told of rounds before them is told still
  pub tell_then : (room : ℕ) (f : FilesAt) (rans : List Ran) (g : FilesAt) (over : OverFrom room f rans g)
      → f.files.closed_at < first → AllByRecursion (λ ran. ran.printed.end.epoch < first) rans
      → AllOver (TellsOf logged) room f rans g over → AllOver (TellsOf then_logged) room f rans g over
  tell_then = over_then (TellsOf logged) (TellsOf then_logged) first tells_then

  pub close_then : (room : ℕ) (f : FilesAt) (rans : List Ran) (g : FilesAt) (over : OverFrom room f rans g)
      → f.files.closed_at < first → AllByRecursion (λ ran. ran.printed.end.epoch < first) rans
      → AllOver (ClosesOf logged) room f rans g over → AllOver (ClosesOf then_logged) room f rans g over
  close_then = over_then (ClosesOf logged) (ClosesOf then_logged) first closes_then

-- by another list that is the same one
pub tell_same : (a b : ℕ → List Commit) (room : ℕ) (f : FilesAt) (rans : List Ran) (g : FilesAt)
    (over : OverFrom room f rans g) → a ≡ b → AllOver (TellsOf a) room f rans g over
    → AllOver (TellsOf b) room f rans g over
tell_same a b room f rans g over same = subst (λ l. AllOver (TellsOf l) room f rans g over) same

pub close_same : (a b : ℕ → List Commit) (room : ℕ) (f : FilesAt) (rans : List Ran) (g : FilesAt)
    (over : OverFrom room f rans g) → a ≡ b → AllOver (ClosesOf a) room f rans g over
    → AllOver (ClosesOf b) room f rans g over
close_same a b room f rans g over same = subst (λ l. AllOver (ClosesOf l) room f rans g over) same

-- What was told of each round, of the run's whole log.
pub files_from : {D : Type 0} (v : Vaults D) (decls storages : List Decl) (s : State) (commits : List Entry) (room : ℕ)
    (f : FilesAt) (rans : List Ran) (g : FilesAt) → SameDecls decls storages → (closed : ℕ → List Commit)
    → ((w : ℕ) → w < 8 → AreLogged storages w s commits (closed w)) → (logged : (found : Images) → AreTold v.tells (parts_of v.was) found → ℕ → List Commit)
    → ((found : Images) (told : AreTold v.tells (parts_of v.was) found) (w : ℕ) → w < 8
    → AreLogged storages w s commits (logged found told w)) → (over : OverFrom room f rans g)
    → AllOver (ClosesOf closed) room f rans g over → ((found : Images) (told : AreTold v.tells (parts_of v.was) found)
    → AllOver (TellsOf (logged found told)) room f rans g over) → FilesFrom v decls s commits room f rans g
files_from v decls storages s commits room f [] g same closed closed_is logged is over closes tells = over
files_from v decls storages s commits room f (ran ∷ rans) g same closed closed_is logged is over closes tells = (
  over.0,
  over.1,
  over.2,
  record {
    pages = over.3;
    closes = λ swapped. record {
      logged = closed;
      is_logged = record { storages = storages; same = same; each = closed_is };
      lengths = closes.0 swapped;
    };
    told = λ found told. record {
      logged = logged found told;
      is_logged = record { storages = storages; same = same; each = is found told };
      gleans = (tells found told).0;
    };
  },
  files_from v decls storages s commits room (files_after f ran over.1 over.2) rans g same closed closed_is logged is
      over.4 closes.1 (λ found told. (tells found told).1),
)

-- ---- a round's pages

-- The pages that a round made, by its answers.
pub record MadePages (ran : Ran) (old new : RuntimeState) : Type 0 where
  pub made : List (List ℕ)
  pub adds : AddsPages ran made
  pub words : new.store.sound ≡ true → words_of new.store.pages ≡ words_of old.store.pages ++ made
  pub of_snap : (count : ℕ) → MakesPages ran count → words_of new.store.pages ≡ words_of old.store.pages ++ made

module _ {D : Type 0} {tells : D → Option (List ℕ)} {clock : D → ℕ} {image_at : D → ℕ → List ℕ → Type 0} {faults : D → ℕ}
    {ran : Ran} {logged : ℕ → List Commit} {old new : RuntimeState} {before now : Vault D}
    (leaves : LeavesVault tells clock image_at faults ran logged old new before now) where
  pub made_pages : MadePages ran old new
  made_pages = elim (snap_in ran.printed.answers) [
    | inl snap ↦
        let own = leaves.gleans.made snap.0 snap.1 snap.2 in
        record {
          made = own.gleaned.made;
          adds = record {
            some = λ count makes.
                let other = leaves.gleans.made makes.0 count makes.1 in
                let a = ap length own.gleaned.added ∙ length-append (words_of old.store.pages) own.gleaned.made in
                let b = ap length other.gleaned.added ∙ length-append (words_of old.store.pages) other.gleaned.made in
                let c = other.gleaned.composes.count in
                omega (arith, a, b, c);
            none = λ none. absurd (none snap.1 (snap.0, snap.2));
          };
          words = λ sound. own.gleaned.added;
          of_snap = λ count makes. own.gleaned.added;
        }
    | inr none ↦ record {
      made = [];
      adds = record {
        some = λ count makes. absurd (none makes.0 count makes.1);
        none = λ not. refl;
      };
      words = λ sound. ap (λ (ps : List Page). words_of ps)
          (ap (λ (st : StoreState). st.pages) (leaves.gleans.kept none sound).0) ∙ sym (append-nil (words_of old.store.pages));
      of_snap = λ count makes. absurd (none makes.0 count makes.1);
    }
  ]

-- A log file that begins with lines isn't damaged, where all of them count, or nothing does.
undamaged : (count : ℕ) (decls : List Decl) (file : List ℕ) (at : ℕ) (gone : List Commit) (closed : List ℕ)
    → (count ≡ 0) ⊎ (count ≡ length closed) → IsFront closed file → lines_bytes gone ≡ closed
    → AreLinesOf decls None (lines_bytes gone) gone → IsDamaged count decls file at → ⊥
undamaged count decls file at gone closed (inl none) front spelled lines (inl short) =
    absurd (let less = short.0 in omega (arith, none, less))
undamaged count decls file at gone closed (inl none) front spelled lines (inr bad) =
    damaged_no_lines decls None [] at [] (subst (λ bs. IsDamagedAt decls None bs at) (ap (λ k. take k file) none) bad.1)
    (record { each = tt; rising = tt; spelled = refl })
undamaged count decls file at gone closed (inr whole) front spelled lines (inl short) =
    absurd (let less = short.0 in let long = front_long closed file front in omega (arith, whole, less, long))
undamaged count decls file at gone closed (inr whole) front spelled lines (inr bad) =
    damaged_no_lines decls None (lines_bytes gone) at gone (subst (λ bs. IsDamagedAt decls None bs at)
    (ap (λ k. take k file) whole ∙ front ∙ sym spelled) bad.1) lines

-- ---- a round over what was kept

other_odd : (side : Side) → is_odd (other_side side) ≡ not (is_odd side)
other_odd Even = refl
other_odd Odd = refl

module _ {D : Type 0} {tells : D → Option (List ℕ)} {clock : D → ℕ} {image_at : D → ℕ → List ℕ → Type 0} {faults : D → ℕ}
    {found : Images} {decls : List Decl} {s : State} {saved : ℕ} {rans : List Ran} {ordered : List Entry} {tries : ℕ} {round : Round}
    {old new : RuntimeState} {before now : Vault D} {report : Report}
    (kept : KeptSoFar tells clock image_at found decls s saved rans ordered old before)
    (stands : StandsOn tells clock image_at old before) (decls_are : old.stands.decls ≡ decls)
    (state_is : old.stands.state ≡ state_after_all decls s ordered) (going : old.stands.ended ≡ false)
    (one : RanRound tries round old new report)
    (leaves : LeavesVault tells clock image_at faults one.ran one.logged old new before now) (index : ℕ)
    (rises : Rises (ordered ++ (one.lines.run index).ordered))
    (falls : EpochsNeverFall (ordered ++ (one.lines.run index).ordered)) where
  abbrev of_it : AreOfRound old.stands.clock.epoch one.ran.printed.end.epoch (one.lines.run index).ordered
  of_it = of_round (one.lines.run index)

  abbrev pub own_logged : (w : ℕ) → w < 8
      → AreLogged decls w (state_after_all decls s ordered) (one.lines.run index).ordered (one.logged w)
  own_logged w below = subst (λ (t : State). AreLogged decls w t (one.lines.run index).ordered (one.logged w)) state_is
      (subst (λ ds. AreLogged ds w old.stands.state (one.lines.run index).ordered (one.logged w)) decls_are
      (one.lines.logged_are index w below))

  -- what the round logged is of epochs from the clock's on
  pub logged_later : (w : ℕ) → w < 8 → AllByRecursion (λ c. old.stands.clock.epoch ≤ c.number.epoch) (one.logged w)
  logged_later w below = commits_all (λ n. old.stands.clock.epoch ≤ n.epoch) decls w (state_after_all decls s ordered)
      (one.lines.run index).ordered (one.logged w) (own_logged w below) of_it.later

  abbrev here_then : ℕ → List Commit
  here_then w = kept.commits w ++ one.logged w

  -- the logs with the round's part
  pub logged_over : LoggedIn decls s (ordered ++ (one.lines.run index).ordered) kept.since old.closed_at kept.older kept.gone
      here_then
  logged_over = logged_more kept.parts.it (one.lines.run index).ordered one.logged own_logged
      (λ w below. subst (λ ds. AllByRecursion (IsLineOf ds) (one.logged w)) decls_are (one.lines.lines_are w below))
      (λ w below. all_weaker (λ (c : Commit). old.stands.clock.epoch ≤ c.number.epoch)
      (λ (c : Commit). old.closed_at < c.number.epoch)
      (λ c later. (let past = stands.closed.before in omega (arith, later, past))) (one.logged w) (logged_later w below))
      of_it.workers

  -- A glean's run, by the commits that the closed log files have, where all of these count.
  module _ (f : FilesAt) (files : f.files ≡ files_of old) (words : f.words ≡ words_of old.store.pages)
      (since : f.since ≡ kept.since)
      (all : (w n : ℕ) → slice_get old.counted w ≡ Some n → n ≡ length (lines_bytes (kept.gone w)))
      (newest : newest_epoch kept.parts.store.at.catalogues ≤ kept.since) where
    size_is : length f.words ≡ length old.store.pages
    size_is = ap length words ∙ length-map old.store.pages (λ (p : Page). p.words)

    closed_same : closed_entries f (log_of_parts kept.older kept.gone here_then)
        ≡ gone_logged (not (is_odd old.side)) kept.gone
    closed_same =
        let odd : f.files.odd ≡ is_odd old.side = ap (λ (x : LogFiles). x.odd) files in
        let at : f.files.closed_at ≡ old.closed_at = ap (λ (x : LogFiles). x.closed_at) files in
        flat_same
        (λ w. map (logged_as (bank_of (not f.files.odd) w))
        (entries_after f.since f.files.closed_at (log_of_parts kept.older kept.gone here_then w)))
        (λ w. map (logged_as (bank_of (not (is_odd old.side)) w)) (flat_map entries_of (kept.gone w))) eight
        (λ w has. ap (λ b. map (logged_as (bank_of (not b) w))
        (entries_after f.since f.files.closed_at (log_of_parts kept.older kept.gone here_then w))) odd
        ∙ ap (λ n. map (logged_as (bank_of (not (is_odd old.side)) w))
        (entries_after n f.files.closed_at (log_of_parts kept.older kept.gone here_then w))) since
        ∙ ap (λ n. map (logged_as (bank_of (not (is_odd old.side)) w))
        (entries_after kept.since n (log_of_parts kept.older kept.gone here_then w))) at
        ∙ ap (λ cs. map (logged_as (bank_of (not (is_odd old.side)) w)) (flat_map entries_of cs))
        (gone_between logged_over w (eight_below w has)))

    -- the newest catalogue is the one that a glean finds
    after_is : (contents : Contents) → CatalogueAt (words_of old.store.pages) (length old.store.pages) contents
        → contents.epoch ≤ kept.since
    after_is contents here =
        let at = newest_is (words_of old.store.pages) (newest_epoch kept.parts.store.at.catalogues + 1)
        (length old.store.pages) kept.parts.store.at.catalogues contents kept.parts.store.at.some kept.parts.store.at.chain
        here in
        let is : newest_epoch kept.parts.store.at.catalogues ≡ contents.epoch = ap newest_epoch at.1 in
        omega (arith, is, newest)

    abbrev may : (contents newest_of : Contents) (buckets : List Bucket) (run : List LogEntry)
        → CatalogueAt (words_of old.store.pages) (length old.store.pages) newest_of
        → CatalogueAt (words_of old.store.pages) (length old.store.pages) contents
        → AreMappedFiles tells (closed_of old) old.stands.decls newest_of.epoch 8 (closed_in old.side before) buckets
        → AreLast (all_logged buckets) run
        → (of : MayGlean f (log_of_parts kept.older kept.gone here_then)) × (of.run ≡ run) × (of.contents ≡ contents)
    may contents newest_of buckets run at here mapped last = (
      record {
        run = run;
        last = subst (λ l. AreLast l run) (sym closed_same)
            (mapped_last old before logged_over rises stands.whole stands.closed.workers (kept.open_files going) all
            old.stands.decls newest_of.epoch buckets run decls_are (after_is newest_of at) mapped last);
        contents = contents;
        here = subst (λ n. CatalogueAt f.words n contents) (sym size_is)
            (subst (λ ws. CatalogueAt ws (length old.store.pages) contents) (sym words) here);
      },
      refl,
      refl,
    )

    closed_is : f.files.closed_at ≡ old.closed_at
    closed_is = ap (λ (x : LogFiles). x.closed_at) files

    finds : (what : Option ℕ) → Contains one.ran.beside.gleans what
        → (of : MayGlean f (log_of_parts kept.older kept.gone here_then))
        × NextComesTo f (log_of_parts kept.older kept.gone here_then) of what
    finds (Some count) has =
        let it = leaves.gleans.found (Some count) has in
        let m = may it.many.many.contents it.contents it.many.buckets it.many.many.run it.newest.here it.many.many.here
        it.many.mapped it.many.many.last in (
          m.0,
          subst (λ n. WouldCompose it.many.many.run n (length f.words) it.many.many.contents f.words count) (sym closed_is)
              (subst (λ n. WouldCompose it.many.many.run old.closed_at n it.many.many.contents f.words count) (sym size_is)
              (subst (λ ws. WouldCompose it.many.many.run old.closed_at (length old.store.pages) it.many.many.contents ws count)
              (sym words) it.many.many.would)),
        )
    finds None has =
        let it = leaves.gleans.found None has in
        let m = may it.deep.deep.contents it.contents it.deep.buckets it.deep.deep.run it.newest.here it.deep.deep.here
        it.deep.mapped it.deep.deep.last in (
          m.0,
          (
            it.deep.deep.made,
            subst (λ ws. IsTooDeep it.deep.deep.run it.deep.deep.contents ws it.deep.deep.made) (sym words) it.deep.deep.deep,
          ),
        )

    adds : (made : List (List ℕ)) (count : ℕ) → MakesPages one.ran count
        → words_of new.store.pages ≡ words_of old.store.pages ++ made
        → (of : MayGlean f (log_of_parts kept.older kept.gone here_then))
        × AreOf f (log_of_parts kept.older kept.gone here_then) of made
    adds made count makes all_are =
        let it = leaves.gleans.made makes.0 count makes.1 in
        let c = it.gleaned.composes in
        let m = may c.contents it.contents it.gleaned.buckets c.run it.newest.here c.can.stands.here it.gleaned.mapped c.last in
        let same : it.gleaned.made ≡ made = append_same (words_of old.store.pages) it.gleaned.made made
        (sym it.gleaned.added ∙ all_are) in (
          m.0,
          subst (λ n. IsComposed c.run n (length f.words) c.contents f.words made) (sym closed_is)
              (subst (λ n. IsComposed c.run old.closed_at n c.contents f.words made) (sym size_is)
              (subst (λ ws. IsComposed c.run old.closed_at (length old.store.pages) c.contents ws made) (sym words)
              (subst (λ ms. IsComposed c.run old.closed_at (length old.store.pages) c.contents (words_of old.store.pages) ms)
              same c.composed))),
        )

  -- What the gleans of the round come to.
  pub tells_round : (f : FilesAt) → f.files ≡ files_of old → f.words ≡ words_of old.store.pages → f.since ≡ kept.since
      → (made : List (List ℕ))
      → ((count : ℕ) → MakesPages one.ran count → words_of new.store.pages ≡ words_of old.store.pages ++ made)
      → TellsOf (log_of_parts kept.older kept.gone here_then) f one.ran made new.counted
  tells_round f files words since made of_snap =
      let counts : some_counted old.counted ≡ true → ((w n : ℕ) → slice_get old.counted w ≡ Some n
      → n ≡ length (lines_bytes (kept.gone w))) × (newest_epoch kept.parts.store.at.catalogues ≤ kept.since) = λ is.
      elim kept.parts.counts [
        | inl all ↦ all
        | inr none ↦ absurd (true≢false (sym is ∙ ap some_counted none.0))
      ] in
      record {
        found = λ what has.
            let all = counts (leaves.needed what has) in finds f files words since all.0 all.1 what has;
        added = λ count makes.
            let needed : some_counted old.counted ≡ true =
            sym (ap (λ (x : LogFiles). some_counted x.counted) one.begins.files)
            ∙ made_counted one.ran (keeper_before one.ran) (beside_of old) one.ran.printed.asked one.ran.printed.answers makes.0 count
            one.lines.caused.answers makes.1 in
            let all = counts needed in
            adds f files words since all.0 all.1 made count makes (of_snap count makes);
      }

  -- Devices that tell their bytes aren't found damaged.
  pub never_damaged : (damage : Device × ℕ) → one.ran.beside.damaged ≡ Some damage → ⊥
  never_damaged damage is =
      let it = leaves.gleans.damage damage.0 damage.1 is in
      let d = it.damaged in
      let below : d.worker < 8 = (let many = closed_many old.side before stands.whole in
      let within = below_length (closed_in old.side before) d.worker d.damaged.0 d.damaged.1 in omega (arith, many, within)) in
      let file = closed_file old.side before d.worker stands.whole below in
      let n = item_at old.counted d.worker (let many = stands.closed.workers in omega (arith, many, below)) in
      let own : IsClosedFile tells clock image_at (kept.gone d.worker) (kept.closed d.worker) n.0 file.bank =
      kept.open_files going d.worker n.0 file.bank n.1 file.there in
      let same : file.bank ≡ d.damaged.0 = same_Some file.bank d.damaged.0 (sym file.at ∙ d.damaged.1) in
      let told : tells d.damaged.0 ≡ Some own.told.0 = ap tells (sym same) ∙ own.told.1 in
      let of : IsDamaged (get_or old.counted d.worker 0) old.stands.decls own.told.0 damage.1 =
      d.damaged.3 own.told.0 told in
      let size : get_or old.counted d.worker 0 ≡ n.0 = get_at old.counted d.worker n.0 n.1 in
      let damaged : IsDamaged n.0 decls own.told.0 damage.1 =
      subst (λ ds. IsDamaged n.0 ds own.told.0 damage.1) decls_are
      (subst (λ k. IsDamaged k old.stands.decls own.told.0 damage.1) size of) in
      let lines : AreLinesOf decls None (lines_bytes (kept.gone d.worker)) (kept.gone d.worker) = record {
        each = kept.parts.it.lines_gone d.worker below;
        rising = gone_rise logged_over rises d.worker below;
        spelled = refl;
      } in
      undamaged n.0 decls own.told.0 damage.1 (kept.gone d.worker) (kept.closed d.worker) own.counts own.told.2 own.lines lines
      damaged

module _ {D : Type 0} {tells : D → Option (List ℕ)} {clock : D → ℕ} {image_at : D → ℕ → List ℕ → Type 0} {faults : D → ℕ}
    {tries : ℕ} {round : Round} {old new : RuntimeState} {before now : Vault D} {report : Report}
    (stands : StandsOn tells clock image_at old before) (one : RanRound tries round old new report)
    (leaves : LeavesVault tells clock image_at faults one.ran one.logged old new before now) where
  -- Where the log files stand behind it.
  pub files_then : (f : FilesAt) → f.files ≡ files_of old → (made : List (List ℕ))
      → (files_after f one.ran made new.counted).files ≡ files_of new
  files_then f files made = by (swaps one.ran) leaves.files.side leaves.files.counted leaves.files.closed_at
    where
      counted_is : counted_behind one.ran ≡ (beside_at_end (beside_of old) one.ran.printed.answers).closed
      counted_is =
          let own : one.ran.beside.files.counted ≡ old.counted = ap (λ (x : LogFiles). x.counted) one.begins.files in
          let end : (keeper_at_end one.ran).counted ≡ some_counted (beside_at_end (beside_of old) one.ran.printed.answers).closed =
          counted_at_end (keeper_before one.ran) (beside_of old) one.ran.printed.answers (ap some_counted own) in
          let many : length (beside_at_end (beside_of old) one.ran.printed.answers).closed ≡ 8 =
          closed_eight (beside_of old) one.ran.printed.answers stands.closed.workers in
          elim (cases_Bool (keeper_at_end one.ran).counted) [
            | inl is ↦ elim (snap_in one.ran.printed.answers) [
              | inl snap ↦ absurd (true≢false (sym is ∙ end
                  ∙ ap some_counted (made_zero (beside_of old) one.ran.printed.answers snap.0 snap.1 snap.2)))
              | inr none ↦ ap (λ b. cond b one.ran.beside.files.counted (replicate 8 0)) is ∙ own
                  ∙ sym (ap (λ (b : Beside). b.closed) (none_same (beside_of old) one.ran.printed.answers none))
            ]
            | inr is ↦ ap (λ b. cond b one.ran.beside.files.counted (replicate 8 0)) is
                ∙ sym (zeros (beside_at_end (beside_of old) one.ran.printed.answers).closed (sym end ∙ is)
                ∙ ap (λ n. replicate n 0) many)
          ]

      by : (b : Bool) → new.side ≡ cond b (other_side old.side) old.side
          → new.counted ≡ cond b (map (λ (m : Mark). m.length) (logs_marks leaves.logs)) (beside_at_end (beside_of old) one.ran.printed.answers).closed
          → new.closed_at ≡ cond b one.ran.printed.end.epoch old.closed_at
          → cond b (record { odd = not f.files.odd; counted = new.counted; closed_at = one.ran.printed.end.epoch })
          (record { odd = f.files.odd; counted = counted_behind one.ran; closed_at = f.files.closed_at }) ≡ files_of new
      by true side counted closed =
          ap (λ (o : Bool). record { odd = o; counted = new.counted; closed_at = one.ran.printed.end.epoch })
          (ap (λ (x : LogFiles). not x.odd) files ∙ sym (other_odd old.side) ∙ ap is_odd (sym side))
          ∙ ap (λ (n : ℕ). record { odd = is_odd new.side; counted = new.counted; closed_at = n }) (sym closed)
      by false side counted closed =
          ap (λ (o : Bool). record { odd = o; counted = counted_behind one.ran; closed_at = f.files.closed_at })
          (ap (λ (x : LogFiles). x.odd) files ∙ ap is_odd (sym side))
          ∙ ap (λ (l : List ℕ). record { odd = is_odd new.side; counted = l; closed_at = f.files.closed_at })
          (counted_is ∙ sym counted)
          ∙ ap (λ (n : ℕ). record { odd = is_odd new.side; counted = new.counted; closed_at = n })
          (ap (λ (x : LogFiles). x.closed_at) files ∙ sym closed)

-- A worker's whole log with more behind it.
pub behind_parts : (older gone commits logged : ℕ → List Commit)
    → ◌≡◌ {A = ℕ → List Commit} (λ w. log_of_parts older gone commits w ++ logged w)
    (log_of_parts older gone (λ w. commits w ++ logged w))
behind_parts older gone commits logged = fun_ext (λ w. append_assoc (older w) (gone w ++ commits w) (logged w)
    ∙ ap (λ l. older w ++ l) (append_assoc (gone w) (commits w) (logged w)))

-- The same log in other parts, once the files were swapped, or not.
pub swapped_parts : (b : Bool) (older gone commits next_older next_gone next_commits : ℕ → List Commit)
    → next_older ≡ cond b (λ w. older w ++ gone w) older → next_gone ≡ behind_swap b commits gone
    → next_commits ≡ since_swap b commits
    → log_of_parts older gone commits ≡ log_of_parts next_older next_gone next_commits
swapped_parts true older gone commits next_older next_gone next_commits o g c = fun_ext (λ w.
    ap (λ l. older w ++ (gone w ++ l)) (sym (append-nil (commits w)))
    ∙ sym (append_assoc (older w) (gone w) (commits w ++ []))
    ∙ ap (λ (f : ℕ → List Commit). f w ++ (commits w ++ [])) (sym o)
    ∙ ap (λ (f : ℕ → List Commit). next_older w ++ (f w ++ [])) (sym g)
    ∙ ap (λ (f : ℕ → List Commit). next_older w ++ (next_gone w ++ f w)) (sym c))
swapped_parts false older gone commits next_older next_gone next_commits o g c = fun_ext (λ w.
    ap (λ (f : ℕ → List Commit). f w ++ (gone w ++ commits w)) (sym o)
    ∙ ap (λ (f : ℕ → List Commit). next_older w ++ (f w ++ commits w)) (sym g)
    ∙ ap (λ (f : ℕ → List Commit). next_older w ++ (next_gone w ++ f w)) (sym c))
