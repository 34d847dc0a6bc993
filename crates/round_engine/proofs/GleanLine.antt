-- A line of the maintenance thread that asks for a snapshot.
use Rattle.std.proofs.Common.{◌≡◌, ◌∙◌, ◌≤◌, ◌<◌, ◌*◌, ◌+◌, ◌++◌, ◌∷◌, inl, inr, sym, ap, subst, refl, ℕ}
use Rattle.std.proofs.Common.{List, [], length, map, length-append, Bool, true, false, true≢false, Option, Some, None}
use Rattle.std.proofs.Common.{arith, ◌⊎◌}
use Rattle.std.specs.Prelude.{is_some, not, Result, Ok, Err, option_to_list}
use Rattle.std.specs.List.{AllByRecursion, Contains, list_any}
use Rattle.std.proofs.lemmas.Bool.{cases_Bool, cases_lt}
use Rattle.std.proofs.lemmas.List.{length-map, map-append}
use Rattle.std.proofs.lemmas.Option.{same_Some}
use Rattle.lists.specs.Elements.{in_cases, in_head, in_none}
use Rattle.lists.specs.Fronts.{front_from, front_then, IsFront}
use Rattle.lists.specs.declared.memory.OrMemory.{OrMemory}
use Rattle.lists.specs.declared.memory.OrMemory.TheVariants as or
use Rattle.outside.specs.Disk.{Runs}
use Rattle.outside.specs.Faults.{Rose}
use Rattle.outside.specs.Fronts.{AllBegin}
use Rattle.outside.specs.declared.device.Device.{Device}
use Rattle.outside.specs.declared.device.Device.TheVariants as devices
use Rattle.log_writer.specs.declared.records.Tie.{Tie}
use Rattle.log_writer.specs.Vault.{IsWhole as IsWholeVault}
use Rattle.log_writer.specs.declared.vault.Vault.{Vault}
use Rattle.script_grammar.specs.declared.lines.KeeperLine.TheVariants as asks
use Rattle.wire_form.specs.ContentLaws.{one_catalogue}
use Rattle.wire_form.specs.Pages.{decls_of}
use Rattle.wire_form.specs.declared.page.Page.{Page}
use Rattle.log_writer.specs.Points.{SaveState, sequence_of}
use Rattle.log_writer.specs.Records.{no_ties}
use Rattle.log_writer.specs.Save.{IsStored}
use Rattle.snapshot_store.specs.Content.{SnapshotStands, words_of}
use Rattle.snapshot_store.specs.Store.{bytes_of_page, bytes_of_pages, HoldsPages, IsWhole, StoreState}
use Rattle.joint_crashes.specs.Images.{epoch_of}
use Rattle.joint_crashes.specs.Crashes.Instants.{lasts_runs}
use Rattle.joint_crashes.specs.Crashes.Rounded.{keeper_none}
use Rattle.joint_crashes.specs.Rounds.{KeeperRan}
use Rattle.joint_crashes.specs.Story.{SnapsTold}
use Rattle.gleaner.specs.Glean.{IsToldBefore}
use Rattle.gleaner.specs.GleanLaws.{gleaned_count, gleaned_stands}
use Rattle.gleaner.specs.declared.gleaning.GleanFault.{GleanFault}
use Rattle.gleaner.specs.declared.gleaning.GleanFault.TheVariants as glean_faults
use Rattle.gleaner.specs.declared.gleaning.Gleaned.{Gleaned}
use Rattle.gleaner.specs.declared.gleaning.Gleaned.TheVariants.{Empty, Snap}
use Rattle.tx_script.specs.CausedBeside.{drops_told}
use Rattle.tx_script.specs.Run.{AdvancesTo, Ran}
use Rattle.tx_script.specs.Causes.{AnswerCause, closed_of as closed_file_of, file_of, IsGleanDevice, KeeperAt, keeper_after, some_counted}
use Rattle.tx_script.specs.declared.answer.Answer.{Answer}
use Rattle.tx_script.specs.declared.answer.Answer.TheVariants as answers
use Rattle.worker_logs.specs.Saves.{closed_number}
use Rattle.worker_logs.specs.declared.savepoints.Beside.{Beside}
use Rattle.worker_logs.specs.declared.savepoints.Side.{Side}
use Rattle.worker_logs.specs.declared.savepoints.Side.TheVariants.{Even, Odd}
use Rattle.round_engine.specs.Gleans.{AddsPages, AddsSnapshot, AddsNothing, AnswersGlean, CanPublish, FailsIn, FindsDamage}
use Rattle.round_engine.specs.Gleans.{Gleans, has_made, pages_after}
use Rattle.round_engine.specs.Ends.{first_device}
use Rattle.round_engine.specs.Gleans.{device_of_glean, devices_of_glean, GleansQuietly, IsFound, LeaveGleans, RoundGleans}
use Rattle.round_engine.specs.Keeping.{epoch_by, IsSavedBySeen, SeenAmong}
use Rattle.round_engine.specs.Keeping.{AreByPlace, CanKeep, glean_answer, glean_refusal, is_refusal, keeper_on, KeepsSaves, NeedCounted}
use Rattle.round_engine.specs.Keeping.{refusal_beside, refusal_told, RestsOn, RunsKeeper, StepsGlean}
use Rattle.round_engine.specs.Saves.{AreSavedIn, beside_at_end, beside_at_save, saves_told}
use Rattle.round_engine.specs.Sides.{closed_in, is_odd}
use Rattle.round_engine.specs.Standing.{beside_of, HasSnapshot, IsPublished, RuntimeState, Standing}
use Rattle.round_engine.specs.declared.report.End.{End}
use Rattle.round_engine.specs.declared.report.End.TheVariants as ends
use Rattle.round_engine.proofs.GleanDevices.{damage_beside, device_told, in_option, memory_beside, none_beside, some_beside}
use Rattle.round_engine.proofs.GleansThen.{no_snap, none_of_zeros}
use Rattle.round_engine.proofs.KeepingSaves.{some_there}
use Rattle.round_engine.proofs.Dropped.{nothing_dropped}
use Rattle.round_engine.proofs.Placed.{place_none}
use Rattle.round_engine.proofs.PlainLine.{TellsNone}
use Rattle.round_engine.proofs.Places.{within_of}
use Rattle.round_engine.proofs.Published.{pages_either, pages_made}

-- ---- pages and their bytes

pub bytes_sized : (pages : List Page) → AllByRecursion IsWhole pages → length (bytes_of_pages pages) ≡ 512 * length pages
bytes_sized [] all = refl
bytes_sized (p ∷ pages) all =
    length-append (bytes_of_page p) (bytes_of_pages pages) ∙ omega (arith, all.0, bytes_sized pages all.1)

-- where bytes count nothing else is asked
needed : {r : RuntimeState} {said : List Answer} {found : List (Option ℕ)} {broken : List Device}
    {damaged : Option (Device × ℕ)} → some_counted r.counted ≡ true → NeedCounted r said found broken damaged
needed counted = record {
  found = λ what has. counted;
  made = λ epoch count has. counted;
  damage = λ some. counted;
  device = λ d has. counted;
}

-- ---- what is kept

module _ {D : Type 0} {clock : D → ℕ} {image_at : D → ℕ → List ℕ → Type 0} where
  -- images of the snapshots begin with what each savepoint counts, where they begin with bytes of which it is a front
  pub snaps_more : {pages : ℕ → List ℕ} {from low high : ℕ} {snaps now : D} {ties : List Tie} (front : List ℕ)
      → SnapsTold clock image_at pages from low high snaps ties
      → ((k : ℕ) → low ≤ k → k ≤ high → IsFront (pages k) front) → Runs clock image_at snaps now (IsFront front)
      → SnapsTold clock image_at pages from low high now ties
  snaps_more {pages = pages} {snaps = snaps} front told fronts runs = record {
    began = omega (arith, told.began, runs.later);
    times = λ tie has. omega (arith, told.times tie has, runs.later);
    since = λ k m least most since within tied c image. elim (cases_lt (clock snaps) m) [
      | inl past ↦ front_then (pages k) front c (fronts k least most) (runs.leaves m c past within image)
      | inr early ↦ told.since k m least most since early tied c (runs.no_new m c early image)
    ];
  }

module _ {D : Type 0} {tells : D → Option (List ℕ)} {clock : D → ℕ} {image_at : D → ℕ → List ℕ → Type 0} (faults : D → ℕ)
    (r : RuntimeState) (vault : Vault D) (ready : CanKeep tells clock image_at r vault) {new : RuntimeState} {now : Vault D}
    (result : Result Gleaned (OrMemory GleanFault)) (beside : Option Device)
    (gleans : Gleans tells clock image_at faults r new vault now result beside) where
  -- the runtime's store of savepoints is as it was, and its device too
  keeps_gleans : (is_some (tells vault.snaps) ≡ true
      → AllBegin (image_at vault.snaps (clock vault.snaps)) (bytes_of_pages r.store.pages) → new.store.sound ≡ true
      → AllBegin (image_at now.snaps (clock now.snaps)) (bytes_of_pages new.store.pages))
      → KeepsSaves tells clock image_at faults [] None r new vault now
  keeps_gleans durable = record {
    newest = ap (λ (s : SaveState). s.newest) gleans.alone.save;
    down = ap (λ (s : SaveState). is_some s.down) gleans.alone.save ∙ ap is_some ready.up;
    stands = λ up. subst (λ d. IsStored tells clock image_at d new.save.newest) (sym gleans.save)
        (subst (λ (s : SaveState). IsStored tells clock image_at vault.save s.newest) (sym gleans.alone.save) ready.stored);
    told = ap (λ d. is_some (tells d)) gleans.save;
    snaps_told = gleans.over.told;
    later = omega (arith, ap faults gleans.save);
    quiet = λ none. ap faults gleans.save;
    rose = λ no. absurd (let bad = no in cc);
    ties_are = no_ties (sequence_of r.save.newest) (ap (λ t. t.items) gleans.ties);
    ended = λ k saved no. absurd (let bad = no in cc);
    ties_stay = λ tie has. subst (λ t. Contains t.items tie) (sym gleans.ties) has;
    grows = gleans.grows;
    counts = tt;
    keeper = λ story from low bytes save snaps goes pages point fronts begins save_told snaps_told.
        let runs = gleans.over.front (bytes_of_pages r.store.pages) gleans.sized begins in
        let s = sequence_of r.save.newest in
        let more = snaps_more (bytes_of_pages r.store.pages) snaps_told fronts runs in
        let still : KeeperRan clock image_at story from low s (s + 0) vault.save vault.save vault.snaps now.snaps
        vault.ties.items vault.ties.items =
        subst (λ n. KeeperRan clock image_at story from low s n vault.save vault.save vault.snaps now.snaps vault.ties.items
        vault.ties.items) (no_more s)
        (let none : KeeperRan clock image_at story from low s s vault.save vault.save vault.snaps vault.snaps vault.ties.items
        vault.ties.items = keeper_none save_told snaps_told in record {
          more = none.more;
          save_told = none.save_told;
          snaps_told = more;
          save_lasts = none.save_lasts;
          snaps_lasts = lasts_runs runs;
          keeps = none.keeps;
          adds = none.adds;
        }) in (
          subst (λ t. KeeperRan clock image_at story from low s (s + 0) vault.save now.save vault.snaps now.snaps
              vault.ties.items t.items) (sym gleans.ties)
              (subst (λ d. KeeperRan clock image_at story from low s (s + 0) vault.save d vault.snaps now.snaps
              vault.ties.items vault.ties.items) (sym gleans.save) still),
          λ sound. durable snaps begins sound,
        );
  }
    where
      no_more : (n : ℕ) → n ≡ n + 0
      no_more n = omega arith

  -- where the maintenance thread stands, by its parts
  abbrev At : ℕ → Bool → Bool → KeeperAt
  At pages counted refused = record {
    epoch = r.stands.clock.epoch;
    sequence = sequence_of r.save.newest;
    pages = pages;
    counted = counted;
    refused = refused;
  }

  stands_at : (pages : ℕ) (counted refused : Bool) → some_counted new.counted ≡ counted
      → At pages counted refused ≡ record (keeper_on new refused) { pages = pages }
  stands_at pages counted refused is =
      ap (λ b. At pages b refused) (sym is)
      ∙ ap (λ (s : Standing). record (At pages (some_counted new.counted) refused) { epoch = s.clock.epoch })
      (sym gleans.alone.stands)
      ∙ ap (λ (s : SaveState). record (At pages (some_counted new.counted) refused) {
        epoch = new.stands.clock.epoch;
        sequence = sequence_of s.newest;
      }) (sym gleans.alone.save)

  -- what a line is answered that stores nothing
  pub record IsAnswered (answer : Answer) : Type 0 where
    pub unsaved : saves_told (answer ∷ []) ≡ []
    pub undropped : drops_told (answer ∷ []) ≡ []
    pub none_in : AreSavedIn (IsSavedBySeen (SeenAmong [] r.stands.clock.epoch new.stands.clock.epoch)) (beside_of r)
        (answer ∷ []) []
    pub stays : AdvancesTo r.stands.clock.epoch (answer ∷ []) r.stands.clock.epoch

  built : (answer : Answer) (refusal : Option End) (found : List (Option ℕ)) (broken : List Device)
      (damaged : Option (Device × ℕ)) → IsAnswered answer
      → (is_some (tells vault.snaps) ≡ true
      → AllBegin (image_at vault.snaps (clock vault.snaps)) (bytes_of_pages r.store.pages) → new.store.sound ≡ true
      → AllBegin (image_at now.snaps (clock now.snaps)) (bytes_of_pages new.store.pages))
      → RoundGleans tells (answer ∷ []) found damaged r new vault now
      → LeaveGleans tells clock image_at faults (answer ∷ []) broken r new vault now
      → NeedCounted r (answer ∷ []) found broken damaged
      → keeper_after (keeper_on r false) answer
      ≡ At (beside_at_end (beside_of r) (answer ∷ [])).count (some_counted new.counted) (list_any is_refusal (answer ∷ []))
      → is_some refusal ≡ list_any is_refusal (answer ∷ [])
      → refusal ≡ refusal_told None (first_device broken) damaged (answer ∷ [])
      → ((ran : Ran) → RestsOn r [] found None broken damaged ran → AnswerCause ran (keeper_on r false) asks.Glean answer)
      → RunsKeeper tells clock image_at faults [] (asks.Glean ∷ []) (answer ∷ []) refusal r new vault now
  built answer refusal found broken damaged is durable round leaves needs after refused told cause = record {
    stored = [];
    failed = None;
    gleans = found;
    broken = broken;
    damaged = damaged;
    keeps = keeps_gleans durable;
    by_lines = is.none_in;
    by_failed = tt;
    by_place = subst (AreByPlace r.stands.clock.epoch new.stands.clock.epoch
        (beside_at_save (beside_of r) (answer ∷ [])) [] [] (sequence_of r.save.newest))
        (ap (λ (s : SaveState). sequence_of s.newest) (sym gleans.alone.save)) (place_none r.stands.clock.epoch
        new.stands.clock.epoch (beside_at_save (beside_of r) (answer ∷ [])) (sequence_of r.save.newest));
    gleaned = round;
    leaves = leaves;
    needs = needs;
    rise = λ from going low.
        (tt, subst (λ e. epoch_of r.save.newest ≤ epoch_by e from) (sym same_epoch) low);
    later = omega (arith, same_epoch);
    stands = gleans.alone.stands
        ∙ ap (λ e. record r.stands { clock = record r.stands.clock { epoch = e }; pages = new.stands.pages }) (sym same_epoch)
        ∙ ap (λ d. record r.stands {
          clock = record r.stands.clock { epoch = new.stands.clock.epoch };
          pages = new.stands.pages;
          drops = d;
        }) (sym same_drops);
    dropped = nothing_dropped (answer ∷ []) r.stands.drops new.stands.drops is.undropped same_drops;
    logs = gleans.alone.logs;
    is_down = gleans.alone.down;
    count = refl;
    advances = subst (AdvancesTo r.stands.clock.epoch (answer ∷ [])) (sym same_epoch) is.stays;
    at_end = after ∙ stands_at (beside_at_end (beside_of r) (answer ∷ [])).count (some_counted new.counted)
        (list_any is_refusal (answer ∷ [])) refl;
    refused = refused;
    refusal_is = told;
    told = sym is.unsaved;
    caused = λ ran rests. (cause ran rests, tt);
    saw = λ ran index are. none_more index;
    above = λ low. omega (arith, low, same_epoch, ap (λ (s : SaveState). epoch_of s.newest) gleans.alone.save);
    tie_room = let same : now.ties.room ≡ vault.ties.room = ap (λ t. t.room) gleans.ties in omega (arith, same);
    cut_room = gleans.cuts;
  }
    where
      none_more : (index : ℕ) → index ≡ index + 0
      none_more index = omega arith

      same_drops : new.stands.drops ≡ r.stands.drops
      same_drops = ap (λ (s : Standing). s.drops) gleans.alone.stands

      same_epoch : new.stands.clock.epoch ≡ r.stands.clock.epoch
      same_epoch = ap (λ (s : Standing). s.clock.epoch) gleans.alone.stands

  -- ---- its cases

  answered_plain : (answer : Answer) → saves_told (answer ∷ []) ≡ [] → drops_told (answer ∷ []) ≡ []
      → AreSavedIn (IsSavedBySeen (SeenAmong [] r.stands.clock.epoch new.stands.clock.epoch)) (beside_of r) (answer ∷ []) []
      → AdvancesTo r.stands.clock.epoch (answer ∷ []) r.stands.clock.epoch → IsAnswered answer
  answered_plain answer unsaved undropped none stays =
      record { unsaved = unsaved; undropped = undropped; none_in = none; stays = stays }

  -- the engine has all pages
  published_behind : pages_after result r.stands.pages (words_of new.store.pages) ≡ words_of new.store.pages
      → IsPublished r → IsPublished new
  published_behind is was = (
    gleans.pages ∙ is,
    ap (λ (s : Standing). s.resident) gleans.alone.stands ∙ (was.1 ∙ sym gleans.alone.room),
  )

  -- the newest snapshot stays
  snapshot_same : AddsNothing r new vault now → HasSnapshot tells r vault.snaps → HasSnapshot tells new now.snaps
  snapshot_same same h = record {
    holds = subst (λ d. HoldsPages tells d new.store.pages) (sym same.snaps)
        (subst (λ (s : StoreState). HoldsPages tells vault.snaps s.pages) (sym same.store) h.holds);
    contents = h.contents;
    stands = subst (λ (s : StoreState). SnapshotStands (words_of s.pages) (length s.pages) h.contents) (sym same.store) h.stands;
    decls = ap (λ (s : Standing). s.decls) gleans.alone.stands ∙ h.decls;
    up_to = omega (arith, h.up_to, gleans.alone.closed_at);
    earlier = λ some. omega (
      arith,
      h.earlier (subst (λ l. some_counted l ≡ true) same.counted some),
      gleans.alone.closed_at,
    );
    let_in = omega (arith, h.let_in, gleans.alone.room, ap (λ (s : StoreState). length s.pages) same.store);
    published = published_behind (pages_either result r.stands.pages (words_of new.store.pages)
        (h.published.0 ∙ ap (λ (s : StoreState). words_of s.pages) (sym same.store))) h.published;
  }

  -- nothing was added
  module _ (answer : Answer) (found : List (Option ℕ)) (broken : List Device) (damaged : Option (Device × ℕ))
      (same : AddsNothing r new vault now) (quiet : devices_of_glean result beside ≡ broken)
      (fails : (device : Device) → Contains broken device → FailsIn tells clock image_at faults r device vault now) where
    added_none : TellsNone answer → ((what : Option ℕ) → Contains found what → IsFound tells r vault what)
        → ((device : Device) (at : ℕ) → damaged ≡ Some (device, at) → FindsDamage tells r vault device at)
        → ((Contains (answer ∷ []) answers.Damaged → ⊥) → damaged ≡ None)
        → RoundGleans tells (answer ∷ []) found damaged r new vault now
    added_none is finds bad fine = record {
      told = gleans.over.told;
      found = finds;
      made = λ epoch count has. absurd (no_snap (answer ∷ []) is.none epoch count has);
      kept = λ none up. (same.store, same.snaps);
      damage = bad;
      undamaged = fine;
      many = λ up. ap (λ (s : StoreState). length s.pages) same.store
          ∙ ap (λ (b : Beside). b.count) (sym (is.beside (beside_of r)));
    }

    left_none : TellsNone answer → LeaveGleans tells clock image_at faults (answer ∷ []) broken r new vault now
    left_none is = record {
      room = gleans.alone.room;
      side = gleans.alone.side;
      closed_at = gleans.alone.closed_at;
      counted = same.counted ∙ ap (λ (b : Beside). b.closed) (sym (is.beside (beside_of r)));
      grows = gleans.grows;
      sound = λ fine up. ap (λ (s : StoreState). s.sound) same.store ∙ up;
      snapshot = λ has up. snapshot_same same (has (ap (λ (s : StoreState). s.sound) (sym same.store) ∙ up));
      over = gleans.over;
      quietly = subst (λ d. GleansQuietly tells clock image_at faults r d vault now) quiet gleans.quietly;
      fails = fails;
    }

    -- the snapshots begin with all pages, where they did
    still_begin : is_some (tells vault.snaps) ≡ true
        → AllBegin (image_at vault.snaps (clock vault.snaps)) (bytes_of_pages r.store.pages) → new.store.sound ≡ true
        → AllBegin (image_at now.snaps (clock now.snaps)) (bytes_of_pages new.store.pages)
    still_begin tell begins up =
        subst (λ d. AllBegin (image_at d (clock d)) (bytes_of_pages new.store.pages)) (sym same.snaps)
        (subst (λ (s : StoreState). AllBegin (image_at vault.snaps (clock vault.snaps)) (bytes_of_pages s.pages))
        (sym same.store) begins)

    none_added : (refusal : Option End) → TellsNone answer → IsAnswered answer
        → ((what : Option ℕ) → Contains found what → IsFound tells r vault what)
        → ((device : Device) (at : ℕ) → damaged ≡ Some (device, at) → FindsDamage tells r vault device at)
        → ((Contains (answer ∷ []) answers.Damaged → ⊥) → damaged ≡ None)
        → NeedCounted r (answer ∷ []) found broken damaged
        → keeper_after (keeper_on r false) answer
        ≡ At (beside_at_end (beside_of r) (answer ∷ [])).count (some_counted r.counted) (list_any is_refusal (answer ∷ []))
        → is_some refusal ≡ list_any is_refusal (answer ∷ [])
        → refusal ≡ refusal_told None (first_device broken) damaged (answer ∷ [])
        → ((ran : Ran) → RestsOn r [] found None broken damaged ran → AnswerCause ran (keeper_on r false) asks.Glean answer)
        → RunsKeeper tells clock image_at faults [] (asks.Glean ∷ []) (answer ∷ []) refusal r new vault now
    none_added refusal is told finds bad fine needs after refused refusal_is cause =
        built answer refusal found broken damaged told still_begin (added_none is finds bad fine) (left_none is) needs
        (after ∙ ap (λ l. At (beside_at_end (beside_of r) (answer ∷ [])).count (some_counted l)
        (list_any is_refusal (answer ∷ []))) (sym same.counted)) refused refusal_is cause

  -- ---- what each answer rests on

  closed_file : (side : Side) (worker : ℕ) → devices.Bank (closed_number side worker) ≡ file_of (not (is_odd side)) worker
  closed_file Even worker = refl
  closed_file Odd worker = refl

  same_file : (ran : Ran) (worker : ℕ) → ran.beside.files.odd ≡ is_odd r.side
      → file_of (not (is_odd r.side)) worker ≡ closed_file_of ran.beside.files worker
  same_file ran worker odd = ap (λ b. file_of (not b) worker) (sym odd)

  glean_device : (ran : Ran) (device : Device) → ran.beside.files.odd ≡ is_odd r.side → FailsIn tells clock image_at faults r device vault now
      → IsGleanDevice ran device
  glean_device ran devices.Snaps odd fails = tt
  glean_device ran devices.Save odd fails = absurd (let no = fails.4 in cc)
  glean_device ran (devices.Bank n) odd fails =
      (fails.0, fails.3, fails.4 ∙ closed_file r.side fails.0 ∙ same_file ran fails.0 odd)

  -- ---- what failed beside

  -- what is told before the one that failed beside it
  told_before : (answer : Result Gleaned (OrMemory GleanFault)) → result ≡ answer → (d : Device) → beside ≡ Some d
      → IsToldBefore answer d
  told_before answer is d there = subst (λ x. IsToldBefore x d) is (gleans.also d there).later

  -- the devices that failed
  devices_are : (told other : Option Device) → device_of_glean result ≡ told → beside ≡ other
      → devices_of_glean result beside ≡ option_to_list told ++ option_to_list other
  devices_are told other is at = ap (λ d. option_to_list d ++ option_to_list beside) is
      ∙ ap (λ b. option_to_list told ++ option_to_list b) at

  also_failed : (d : Device) → Contains (option_to_list beside) d → FailsIn tells clock image_at faults r d vault now
  also_failed d has = (gleans.also d (in_option beside d has)).fails

  -- where none did nothing is refused
  plain_told : beside ≡ None → refusal_beside beside None ≡ None
  plain_told none = ap (λ b. refusal_beside b None) none

  failed_line : (device : Device) → result ≡ Err (or.Fault (glean_faults.Device device))
      → FailsIn tells clock image_at faults r device vault now → AddsNothing r new vault now → some_counted r.counted ≡ true
      → RunsKeeper tells clock image_at faults [] (asks.Glean ∷ []) (answers.Device ∷ [])
      (refusal_beside beside (Some (ends.Device device))) r new vault now
  failed_line device is fails same counted =
      none_added answers.Device [] (device ∷ option_to_list beside) None same
      (devices_are (Some device) beside (ap device_of_glean is) refl)
      (λ d has. elim (in_cases d device (option_to_list beside) has) [
        | inl here ↦ subst (λ x. FailsIn tells clock image_at faults r x vault now) here fails
        | inr later ↦ also_failed d later
      ])
      (refusal_beside beside (Some (ends.Device device))) (record { none = refl; beside = λ b. refl })
      (answered_plain answers.Device refl refl refl refl) (λ what has. absurd (in_none what has))
      (λ d at no. absurd (let bad = no in cc)) (λ none. refl) (needed counted) refl
      (some_beside beside (ends.Device device))
      (device_told beside device (told_before (Err (or.Fault (glean_faults.Device device))) is))
      (λ ran rests. (
        counted,
        device,
        rests.device device (in_head device (option_to_list beside)),
        glean_device ran device rests.odd fails,
      ))

  unsound_line : result ≡ Err (or.Fault (glean_faults.Device devices.Snaps)) → Rose (faults vault.snaps) (faults now.snaps)
      → new.store.sound ≡ false → new.counted ≡ r.counted → some_counted r.counted ≡ true
      → RunsKeeper tells clock image_at faults [] (asks.Glean ∷ []) (answers.Device ∷ [])
      (refusal_beside beside (Some (ends.Device devices.Snaps))) r new vault now
  unsound_line is rose down same counted =
      let never : new.store.sound ≡ true → ⊥ = λ up. let no = sym down ∙ up in absurd cc in
      let none : beside ≡ None =
      none_beside beside (told_before (Err (or.Fault (glean_faults.Device devices.Snaps))) is) in
      built answers.Device (refusal_beside beside (Some (ends.Device devices.Snaps))) [] (devices.Snaps ∷ []) None
      (answered_plain answers.Device refl refl refl refl) (λ tell begins up. absurd (never up))
      (record {
        told = gleans.over.told;
        found = λ what has. absurd (in_none what has);
        made = λ epoch count has. absurd (no_snap (answers.Device ∷ []) refl epoch count has);
        kept = λ none up. absurd (never up);
        damage = λ d at no. absurd (let bad = no in cc);
        undamaged = λ none. refl;
        many = λ up. absurd (never up);
      })
      (record {
        room = gleans.alone.room;
        side = gleans.alone.side;
        closed_at = gleans.alone.closed_at;
        counted = same;
        grows = gleans.grows;
        sound = λ fine up. absurd (fine (in_head devices.Snaps []));
        snapshot = λ has up. absurd (never up);
        over = gleans.over;
        quietly = subst (λ d. GleansQuietly tells clock image_at faults r d vault now)
            (devices_are (Some devices.Snaps) None (ap device_of_glean is) none) gleans.quietly;
        fails = λ d has. elim (in_cases d devices.Snaps [] has) [
          | inl here ↦ subst (λ x. FailsIn tells clock image_at faults r x vault now) here rose
          | inr none_left ↦ absurd (in_none d none_left)
        ];
      }) (needed counted)
      (ap (λ l. At (length r.store.pages) (some_counted l) true) (sym same))
      (some_beside beside (ends.Device devices.Snaps))
      (ap (λ b. refusal_beside b (Some (ends.Device devices.Snaps))) none)
      (λ ran rests. (counted, devices.Snaps, rests.device devices.Snaps (in_head devices.Snaps []), tt))

  snap_line : (epoch count : ℕ) → result ≡ Ok (Snap epoch count) → epoch ≡ r.closed_at
      → AddsPages tells clock image_at r new vault now count → some_counted r.counted ≡ true
      → RunsKeeper tells clock image_at faults [] (asks.Glean ∷ []) (answers.Snap epoch count ∷ []) (refusal_beside beside None)
      r new vault now
  snap_line epoch count is at adds counted =
      let none : beside ≡ None = none_beside beside (told_before (Ok (Snap epoch count)) is) in
      let added = adds.adds in
      let size : length new.store.pages ≡ length r.store.pages + count =
      sym (length-map new.store.pages (λ p. Page.words p)) ∙ gleaned_count added.gleaned
      ∙ ap (λ n. n + count) (length-map r.store.pages (λ p. Page.words p)) in
      let within : length r.store.pages + count ≤ r.room =
      subst (λ n. n + count ≤ r.room) (length-map r.store.pages (λ p. Page.words p)) added.gleaned.within in
      built (answers.Snap epoch count) (refusal_beside beside None) (Some count ∷ []) [] None
      (answered_plain (answers.Snap epoch count) refl refl refl refl)
      (λ tell begins up. let file = some_there (tells vault.snaps) tell in adds.durable file.0 file.1)
      (record {
        told = gleans.over.told;
        found = λ what has. elim (in_cases what (Some count) [] has) [
          | inl here ↦ subst (IsFound tells r vault) here adds.found
          | inr none ↦ absurd (in_none what none)
        ];
        made = λ e c has. elim (in_cases (answers.Snap e c) (answers.Snap epoch count) [] has) [
          | inl here ↦
              let same : count ≡ c = cc in
              subst (λ n. AddsSnapshot tells r vault new.store n) same added
          | inr none ↦ absurd (in_none (answers.Snap e c) none)
        ];
        kept = λ none up. absurd (none epoch count (in_head (answers.Snap epoch count) []));
        damage = λ d n no. absurd (let bad = no in cc);
        undamaged = λ none. refl;
        many = λ up. size;
      })
      (record {
        room = gleans.alone.room;
        side = gleans.alone.side;
        closed_at = gleans.alone.closed_at;
        counted = adds.counted;
        grows = gleans.grows;
        sound = λ fine up. adds.sound;
        snapshot = λ has up.
            let h = ready.snapshot in
            let one : h.contents ≡ added.contents = one_catalogue (length r.store.pages) h.contents added.contents
            h.stands.here.catalogue added.newest.here.catalogue (sym h.stands.here.words ∙ added.newest.here.words) in
            let last = gleaned_stands added.contents added.gleaned added.newest.here (h.decls ∙ ap decls_of one) in
            record {
              holds = adds.holds;
              contents = last.contents;
              stands = subst (λ n. SnapshotStands (words_of new.store.pages) n last.contents)
                  (length-map new.store.pages (λ p. Page.words p)) last.stands;
              decls = ap (λ (s : Standing). s.decls) gleans.alone.stands ∙ last.decls_are;
              up_to = omega (arith, last.epoch_is, gleans.alone.closed_at);
              earlier = λ some. absurd (none_of_zeros new.counted adds.counted some);
              let_in = omega (arith, size, within, gleans.alone.room);
              published = published_behind (pages_made result r.stands.pages (words_of new.store.pages)
                  (ap has_made is)) h.published;
            };
        over = gleans.over;
        quietly = subst (λ d. GleansQuietly tells clock image_at faults r d vault now)
            (devices_are None None (ap device_of_glean is) none) gleans.quietly;
        fails = λ d no. absurd (in_none d no);
      }) (needed counted)
      (ap (λ l. At (length r.store.pages + count) (some_counted l) false) (sym adds.counted))
      (ap is_some (plain_told none)) (plain_told none)
      (λ ran rests. (
        counted,
        at ∙ sym rests.closed_at,
        rests.gleans_are (Some count) (in_head (Some count) []),
        omega (arith, within, rests.room),
      ))

  -- the pages of a snapshot that was made may be published
  made_pages : (answer : Result Gleaned (OrMemory GleanFault)) → result ≡ answer → has_made answer ≡ true
      → CanPublish new.store.pages r.stands
  made_pages (Ok Empty) is has = absurd (true≢false (sym has))
  made_pages (Err fault) is has = absurd (true≢false (sym has))
  made_pages (Ok (Snap epoch count)) is has =
      let counted : some_counted r.counted ≡ true = by_count (cases_Bool (some_counted r.counted)) in
      let adds : AddsPages tells clock image_at r new vault now count =
      (subst (AnswersGlean tells clock image_at faults r new vault now) is (gleans.answers counted)).1 in
      let added = adds.adds in
      let size : length new.store.pages ≡ length r.store.pages + count =
      sym (length-map new.store.pages (λ p. Page.words p)) ∙ gleaned_count added.gleaned
      ∙ ap (λ n. n + count) (length-map r.store.pages (λ p. Page.words p)) in
      let within : length r.store.pages + count ≤ r.room =
      subst (λ n. n + count ≤ r.room) (length-map r.store.pages (λ p. Page.words p)) added.gleaned.within in
      let h = ready.snapshot in
      let one : h.contents ≡ added.contents = one_catalogue (length r.store.pages) h.contents added.contents
      h.stands.here.catalogue added.newest.here.catalogue (sym h.stands.here.words ∙ added.newest.here.words) in
      let last = gleaned_stands added.contents added.gleaned added.newest.here (h.decls ∙ ap decls_of one) in
      let low = h.published.1 in
      record {
        front = subst (λ (ps : List (List ℕ)). IsFront ps (words_of new.store.pages)) (sym h.published.0)
            (front_from (words_of r.store.pages) (words_of gleans.grows.0) (words_of new.store.pages)
            (sym (ap words_of gleans.grows.1 ∙ map-append (λ p. Page.words p) r.store.pages gleans.grows.0)));
        contents = last.contents;
        stands = subst (λ n. SnapshotStands (words_of new.store.pages) n last.contents)
            (length-map new.store.pages (λ p. Page.words p)) last.stands;
        decls = sym last.decls_are;
        room = omega (arith, size, within, low);
      }
    where
      by_count : (some_counted r.counted ≡ true) ⊎ (some_counted r.counted ≡ false) → some_counted r.counted ≡ true
      by_count (inl there) = there
      by_count (inr miss) = absurd (let bad = sym is ∙ (gleans.none miss).0 in cc)

  pub can_publish : has_made result ≡ true → CanPublish new.store.pages r.stands
  can_publish has = made_pages result refl has

  damaged_line : (device : Device) (at : ℕ) → result ≡ Err (or.Fault (glean_faults.Damaged device at))
      → FindsDamage tells r vault device at → AddsNothing r new vault now → some_counted r.counted ≡ true
      → RunsKeeper tells clock image_at faults [] (asks.Glean ∷ []) (answers.Damaged ∷ [])
      (refusal_beside beside (Some (ends.Damaged device at))) r new vault now
  damaged_line device at is bad same counted =
      let file = bad.damaged.damaged in
      let below : bad.damaged.worker < 8 = omega (
        arith,
        within_of (closed_in r.side vault) bad.damaged.worker file.0 file.1,
        ready.files,
      ) in
      none_added answers.Damaged [] (option_to_list beside) (Some (device, at)) same
      (devices_are None beside (ap device_of_glean is) refl) also_failed
      (refusal_beside beside (Some (ends.Damaged device at))) (record { none = refl; beside = λ b. refl })
      (answered_plain answers.Damaged refl refl refl refl) (λ what has. absurd (in_none what has))
      (λ d n there.
      let pair = same_Some (device, at) (d, n) there in
      subst (λ (x : Device × ℕ). FindsDamage tells r vault x.0 x.1) pair bad)
      (λ none. absurd (none (in_head answers.Damaged []))) (needed counted) refl
      (some_beside beside (ends.Damaged device at)) (damage_beside beside device at)
      (λ ran rests. (
        counted,
        bad.damaged.worker,
        below,
        at,
        rests.damage (device, at) refl ∙ ap (λ (d : Device). Some (d, at)) (file.2 ∙ same_file ran bad.damaged.worker rests.odd),
      ))

  by_answer : some_counted r.counted ≡ true → (answer : Result Gleaned (OrMemory GleanFault)) → result ≡ answer
      → AnswersGlean tells clock image_at faults r new vault now answer
      → RunsKeeper tells clock image_at faults [] (asks.Glean ∷ []) (glean_answer answer ∷ [])
      (refusal_beside beside (glean_refusal answer)) r new vault now
  by_answer counted (Ok Empty) is answers = absurd answers
  by_answer counted (Ok (Snap epoch count)) is answers = snap_line epoch count is answers.0 answers.1 counted
  by_answer counted (Err (or.Fault (glean_faults.Device devices.Snaps))) is answers =
      unsound_line is answers.0 answers.1 answers.2 counted
  by_answer counted (Err (or.Fault (glean_faults.Device devices.Save))) is answers =
      failed_line devices.Save is answers.0 answers.1 counted
  by_answer counted (Err (or.Fault (glean_faults.Device (devices.Bank n)))) is answers =
      failed_line (devices.Bank n) is answers.0 answers.1 counted
  by_answer counted (Err (or.Fault (glean_faults.Damaged device at))) is answers =
      damaged_line device at is answers.0 answers.1 counted
  by_answer counted (Err (or.Fault glean_faults.Deep)) is told =
      let none : beside ≡ None = none_beside beside (told_before (Err (or.Fault glean_faults.Deep)) is) in
      none_added answers.Deep (None ∷ []) [] None told.1 (devices_are None None (ap device_of_glean is) none)
      (λ d no. absurd (in_none d no)) (refusal_beside beside None) (record { none = refl; beside = λ b. refl })
      (answered_plain answers.Deep refl refl refl refl)
      (λ what has. elim (in_cases what None [] has) [
        | inl here ↦ subst (IsFound tells r vault) here told.0
        | inr none ↦ absurd (in_none what none)
      ])
      (λ d n no. absurd (let bad = no in cc)) (λ fine. refl) (needed counted) refl (ap is_some (plain_told none))
      (plain_told none) (λ ran rests. (counted, rests.gleans_are None (in_head None [])))
  by_answer counted (Err (or.Fault (glean_faults.Limit have count room))) is told =
      let none : beside ≡ None =
      none_beside beside (told_before (Err (or.Fault (glean_faults.Limit have count room))) is) in
      none_added answers.SnapFull (Some count ∷ []) [] None told.4 (devices_are None None (ap device_of_glean is) none)
      (λ d no. absurd (in_none d no)) (refusal_beside beside None) (record { none = refl; beside = λ b. refl })
      (answered_plain answers.SnapFull refl refl refl refl)
      (λ what has. elim (in_cases what (Some count) [] has) [
        | inl here ↦ subst (IsFound tells r vault) here told.3
        | inr none ↦ absurd (in_none what none)
      ])
      (λ d n no. absurd (let bad = no in cc)) (λ fine. refl) (needed counted) refl (ap is_some (plain_told none))
      (plain_told none)
      (λ ran rests. (
        counted,
        count,
        rests.gleans_are (Some count) (in_head (Some count) []),
        omega (arith, told.2, rests.room),
      ))
  by_answer counted (Err or.Memory) is told =
      none_added answers.Memory [] (option_to_list beside) None told (devices_are None beside (ap device_of_glean is) refl)
      also_failed (refusal_beside beside (Some ends.Memory)) (record { none = refl; beside = λ b. refl })
      (answered_plain answers.Memory refl refl refl refl) (λ what has. absurd (in_none what has))
      (λ d n no. absurd (let none = no in cc)) (λ none. refl) (needed counted) refl (some_beside beside ends.Memory)
      (memory_beside beside) (λ ran rests. counted)

  empty_line : some_counted r.counted ≡ false → result ≡ Ok Empty → AddsNothing r new vault now
      → RunsKeeper tells clock image_at faults [] (asks.Glean ∷ []) (answers.Empty ∷ []) (refusal_beside beside None) r new vault
      now
  empty_line none is same =
      let alone : beside ≡ None = none_beside beside (told_before (Ok Empty) is) in
      none_added answers.Empty [] [] None same (devices_are None None (ap device_of_glean is) alone)
      (λ d no. absurd (in_none d no)) (refusal_beside beside None)
      (record { none = refl; beside = λ b. refl }) (answered_plain answers.Empty refl refl refl refl)
      (λ what has. absurd (in_none what has)) (λ d n no. absurd (let bad = no in cc)) (λ no. refl)
      (record {
        found = λ what has. absurd (in_none what has);
        made = λ epoch count has. absurd (no_snap (answers.Empty ∷ []) refl epoch count has);
        damage = λ no. absurd (let bad = no in cc);
        device = λ d has. absurd (in_none d has);
      }) refl (ap is_some (plain_told alone)) (plain_told alone) (λ ran rests. none)

module _ {D : Type 0} {tells : D → Option (List ℕ)} {clock : D → ℕ} {image_at : D → ℕ → List ℕ → Type 0} (faults : D → ℕ)
    (r : RuntimeState) (vault : Vault D) (ready : CanKeep tells clock image_at r vault) where
  -- A glean is answered.
  pub glean_line : (answer : Answer) (refusal : Option End) {new : RuntimeState} {now : Vault D}
      → StepsGlean tells clock image_at faults answer refusal r new vault now
      → RunsKeeper tells clock image_at faults [] (asks.Glean ∷ []) (answer ∷ []) refusal r new vault now
  glean_line answer refusal {new} {now} step =
      subst (λ a. RunsKeeper tells clock image_at faults [] (asks.Glean ∷ []) (a ∷ []) refusal r new vault now)
      (sym step.answer_is)
      (subst (λ e. RunsKeeper tells clock image_at faults [] (asks.Glean ∷ []) (glean_answer step.result ∷ []) e r new vault now)
      (sym step.refusal_is) (elim (cases_Bool (some_counted r.counted)) [
        | inl counted ↦ by_answer faults r vault ready step.result step.beside step.gleans counted step.result refl
            (step.gleans.answers counted)
        | inr none ↦
            let empty = step.gleans.none none in
            subst (λ x. RunsKeeper tells clock image_at faults [] (asks.Glean ∷ []) (glean_answer x ∷ [])
            (refusal_beside step.beside (glean_refusal x)) r new vault now) (sym empty.0)
            (empty_line faults r vault ready step.result step.beside step.gleans none empty.0 empty.1)
      ]))
