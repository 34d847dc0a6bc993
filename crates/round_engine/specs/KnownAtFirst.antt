-- What is known as a runtime begins over a database that was settled: all that rounds, joins and gleans ask of the
-- crashes of its devices. So a caller of these has their clauses on crashes, from what settling told.
use Rattle.std.proofs.Common.{◌≡◌, ◌∙◌, ◌≤◌, ◌<◌, ◌+◌, ◌-◌, ◌*◌, ◌++◌, ◌∷◌, inl, inr, sym, ap, subst, refl, ℕ, zero}
use Rattle.std.proofs.Common.{suc, true}
use Rattle.std.proofs.Common.{List, [], Option, Some, None, arith, length, take, drop, drop-drop, get_or, false, cond}
use Rattle.std.specs.Prelude.{◌==◌, is_some}
use Rattle.std.specs.Option.{option_map}
use Rattle.std.specs.List.{AllByRecursion, list_all}
use Rattle.std.proofs.lemmas.Bool.{cases_eq, cases_lt}
use Rattle.std.proofs.lemmas.List.{length-append, length-map}
use Rattle.lists.specs.Fronts.{IsFront, front_refl, front_take, front_then, front_within}
use Rattle.outside.specs.Fronts.{AllBegin, begins_less}
use Rattle.log_writer.specs.Vault.{IsWhole, disk_in}
use Rattle.outside.specs.declared.device.Device.TheVariants.{Bank}
use Rattle.log_writer.specs.declared.vault.Vault.{Vault}
use Rattle.serial_model.specs.State.{State}
use Rattle.serial_model.specs.declared.decl.Decl.{Decl}
use Rattle.serial_model.specs.declared.number.Number.{Number}
use Rattle.wire_form.specs.declared.savepoint.Savepoint.{Savepoint}
use Rattle.log_writer.specs.Newest.{names_one}
use Rattle.log_writer.specs.Points.{saved_of, sequence_of}
use Rattle.log_writer.specs.Save.{Names}
use Rattle.log_writer.specs.declared.saved.Saved.{Saved}
use Rattle.wire_form.specs.Bytes.{bytes_of}
use Rattle.wire_form.specs.declared.page.Page.{Page}
use Rattle.snapshot_store.specs.Content.{words_of}
use Rattle.snapshot_store.specs.Places.{page}
use Rattle.snapshot_store.specs.Store.{IsWhole as IsWholePage, bytes_of_page, bytes_of_pages}
use Rattle.recovery_core.specs.Catalogues.{HasPages}
use Rattle.checkpoints.specs.Files.{has_files}
use Rattle.joint_crashes.specs.Images.{Images, count_of, counted_of}
use Rattle.joint_crashes.specs.Causal.{AreSince, Since}
use Rattle.joint_crashes.specs.JointCrash.{IsJointCrash, IsSince, KeepsCrashes, Moments, Parts}
use Rattle.joint_crashes.specs.JointCrash.{parts_of}
use Rattle.recovery_core.specs.Recoverable.{IsRecoverable, Reading, ReadsBy, ReadsSaved}
use Rattle.recovery_core.specs.RecoverableLaws.{one_pages, page_in_front, same_reading}
use Rattle.recovery_core.specs.StoredPages.{whole_size}
use Rattle.recovery_core.specs.Recovered.{IsUp, Recovers, recovers_state, saved_count}
use Rattle.checkpoints.specs.Settled.{SaysSettled, settled_pages, stores_due}
use Rattle.joint_crashes.specs.Crashes.Standing.{crash_stands}
use Rattle.joint_crashes.specs.Resting.{AreTold, HasNoRecords, IsResting}
use Rattle.checkpoints.specs.SettleGoesOn.{GoesOn}
use Rattle.checkpoints.specs.SettleLaws.{point_says, untouched_leaves}
use Rattle.joint_crashes.specs.SettleRests.{RestsSince}
use Rattle.recovery_core.specs.SnapshotsKept.{StandsAsRead}
use Rattle.joint_crashes.specs.Crashes.Instants.{open_ready}
use Rattle.joint_crashes.specs.Story.{IsTold, StandsFor, Story}
use Rattle.recovery_core.specs.declared.recovered.Recovered.{Recovered}
use Rattle.checkpoints.specs.declared.without_entries.Settled.{Settled}
use Rattle.checkpoints.specs.SettleLeaves.{SettleLeaves}
use Rattle.checkpoints.specs.SettlesInto.{Follows, SettlesInto}
use Rattle.worker_logs.specs.Saves.{closed_number, growing_number}
use Rattle.round_engine.specs.Begun.{begun}
use Rattle.round_engine.specs.Crashes.{KnowsBefore, StaysReady}
use Rattle.round_engine.specs.Logs.{AreClosedFiles, AreLogs}
use Rattle.round_engine.specs.Standing.{RuntimeState}

-- the clock of a device, where there is one
abbrev clock_at : {D : Type 0} → (D → ℕ) → ℕ → Option D → ℕ
clock_at clock from None = from
clock_at clock from (Some bank) = clock bank

-- each savepoint counts of a log file from the moment on at which this one's clock stands now
abbrev pub from_now : {D : Type 0} → (D → ℕ) → Parts D → Since
from_now clock parts k n = clock_at clock 0 (parts.banks n)

-- What is known of a runtime over empty logs, since these moments: its savepoints up to its newest stand for the epoch
-- and the state of a reading, with its snapshots; and a stop now that finds one of them finds what it counts. The moments
-- of marks begin: each savepoint counts of each log file from now on.
pub record KnownAtFirst {D : Type 0} (tells : D → Option (List ℕ)) (clock : D → ℕ) (image_at : D → ℕ → List ℕ → Type 0)
    (from : Moments) (was : Reading) (epoch : ℕ) (state : State) (low : ℕ) (r : RuntimeState) (vault : Vault D)
    : Type 0 where
  pub story : Story
  pub knows : KnowsBefore tells clock image_at story from low (λ w. []) (λ w. []) (λ w. []) (λ w. []) r vault
  pub stays : StaysReady clock image_at story low (sequence_of r.save.newest) (parts_of vault)
  pub newest_is : story.point (sequence_of r.save.newest) ≡ r.save.newest
  pub stands : (k : ℕ) (images : Images) → low ≤ k → k ≤ sequence_of r.save.newest
      → StandsFor clock image_at story (parts_of vault) images k → StandsAsRead was images epoch state
  pub since : AreSince clock image_at story (from_now clock (parts_of vault)) from low (sequence_of r.save.newest)
      (parts_of vault)

-- ---- what was recovered is one of the crashes

-- the moments that are now
moments_now : {D : Type 0} → (D → ℕ) → Moments → Vault D → Moments
moments_now clock from vault = record {
  save = clock vault.save;
  snaps = clock vault.snaps;
  bank = λ n. clock_at clock (from.bank n) (disk_in vault (Bank n));
}

-- What was recovered is what a crash leaves that a vault had since these moments.
abbrev pub LeftSince : {D : Type 0} → (D → ℕ) → (D → ℕ → List ℕ → Type 0) → Moments → Images → Vault D → Type 0
LeftSince clock image_at from found vault = (at : Moments) × IsSince from at
    × IsJointCrash clock image_at (parts_of vault) at found

module _ {D : Type 0} {tells : D → Option (List ℕ)} {clock : D → ℕ} {image_at : D → ℕ → List ℕ → Type 0}
    (reads_told : (disk : D) (file : List ℕ) → tells disk ≡ Some file → image_at disk (clock disk) file)
    {from : Moments} {between : Vault D} (vault : Vault D) (found : Images) where
  -- what a vault tells a stop now leaves, and what was a joint crash is one still
  pub left_since : {epoch : ℕ} {state : State} → IsWhole between → (rest : IsResting clock image_at (parts_of between))
      → HasNoRecords (parts_of between) → AreTold tells (parts_of between) found
      → RestsSince clock image_at from rest.point rest.pages rest.counted (parts_of between)
      → IsRecoverable found epoch state → KeepsCrashes clock image_at from (parts_of between) (parts_of vault)
      → LeftSince clock image_at from found vault
  unfolding moments_now clock_at
  left_since whole rest none told since that keeps =
      let at : Moments = moments_now clock from between in
      let here : IsSince from at = record {
        save = since.save_came;
        snaps = since.snaps_came;
        bank = λ n. bank_since n (disk_in between (Bank n)) refl;
      } in
      let crash = (untouched_leaves reads_told (has_files between whole) rest none told since that).now at found (record {
        save = refl;
        snaps = refl;
        bank = λ n bank there. ap (clock_at clock (from.bank n)) there;
      }) (record {
        save_come = omega arith;
        save = reads_told between.save found.save told.save;
        snaps_come = omega arith;
        snaps = reads_told between.snaps found.snaps told.snaps;
        bank_come = λ n bank there. omega (arith, ap (clock_at clock (from.bank n)) there);
        bank = λ n bank there. subst (λ m. image_at bank m (found.bank n)) (sym (ap (clock_at clock (from.bank n)) there))
            (reads_told bank (found.bank n) (told.bank n bank there));
      }) in
      (at, here, keeps at found here crash)
    where
      bank_since : (n : ℕ) (o : Option D) → disk_in between (Bank n) ≡ o → from.bank n ≤ clock_at clock (from.bank n) o
      bank_since n None is = omega arith
      bank_since n (Some bank) is = since.bank_came n bank is

-- ---- pages that a device has

-- so many bytes of a device that has the words of these pages are theirs
pages_bytes : (device : List ℕ) (first : ℕ) (pages : List Page)
    → ((i : ℕ) → i < length pages → take 512 (drop (512 * (first + i)) device) ≡ bytes_of (get_or (words_of pages) i []))
    → bytes_of_pages pages ≡ take (512 * length pages) (drop (512 * first) device)
pages_bytes device first [] each = refl
pages_bytes device first (p ∷ pages) each =
    let here : take 512 (drop (512 * first) device) ≡ bytes_of_page p =
    ap (λ n. take 512 (drop (512 * n) device)) (no_more first) ∙ each 0 (omega arith) in
    let rest = pages_bytes device (first + 1) pages (λ i below.
    ap (λ n. take 512 (drop (512 * n) device)) (one_more first i) ∙ each (suc i) (omega (arith, below))) in
    ap (λ l. bytes_of_page p ++ l) rest
    ∙ ap (λ l. l ++ take (512 * length pages) (drop (512 * (first + 1)) device)) (sym here)
    ∙ ap (λ n. take 512 (drop (512 * first) device) ++ take (512 * length pages) (drop n device)) (past first)
    ∙ ap (λ l. take 512 (drop (512 * first) device) ++ take (512 * length pages) l) (sym (drop-drop 512 (512 * first) device))
    ∙ take_two 512 (512 * length pages) (drop (512 * first) device)
    ∙ ap (λ n. take n (drop (512 * first) device)) (sum (length pages))
  where
    no_more : (n : ℕ) → n ≡ n + 0
    no_more n = omega arith

    one_more : (n i : ℕ) → n + 1 + i ≡ n + suc i
    one_more n i = omega arith

    past : (n : ℕ) → 512 * (n + 1) ≡ 512 * n + 512
    past n = omega arith

    sum : (n : ℕ) → 512 + 512 * n ≡ 512 * suc n
    sum n = omega arith

    plus_none : (b : ℕ) → b ≡ 0 + b
    plus_none b = omega arith

    plus_suc : (a b : ℕ) → suc (a + b) ≡ suc a + b
    plus_suc a b = omega arith

    take_none : (b : ℕ) → take {A = ℕ} b [] ≡ []
    take_none zero = refl
    take_none (suc b) = refl

    take_two : (a b : ℕ) (xs : List ℕ) → take a xs ++ take b (drop a xs) ≡ take (a + b) xs
    take_two zero b xs = ap (λ n. take n xs) (plus_none b)
    take_two (suc a) b [] = take_none b ∙ sym (take_none (suc a + b))
    take_two (suc a) b (x ∷ xs) = ap (λ l. x ∷ l) (take_two a b xs) ∙ ap (λ n. take n (x ∷ xs)) (plus_suc a b)

module _ {D : Type 0} {tells : D → Option (List ℕ)} {clock : D → ℕ} {image_at : D → ℕ → List ℕ → Type 0}
    (reads_told : (disk : D) (file : List ℕ) → tells disk ≡ Some file → image_at disk (clock disk) file)
    {from : Moments} {epoch : ℕ} {state : State} {given : List Decl} {between vault : Vault D} (recovered : Recovered)
    (settled : Settled) (found : Images) (is_up : IsUp recovered)
    (settles : SettlesInto tells clock image_at recovered given between vault settled)
    (told_found : AreTold tells (parts_of between) found) (recovers : Recovers found recovered)
    (goes : GoesOn clock image_at from recovers.reading epoch state (sequence_of recovered.save.newest)
    settled.save.newest (parts_of vault))
    (left : LeftSince clock image_at from found vault)
    (whole_pages : AllByRecursion IsWholePage settled.store.pages) where
  abbrev low : ℕ
  low = sequence_of recovered.save.newest

  abbrev last : ℕ
  last = sequence_of settled.save.newest

  abbrev pages : List Page
  pages = settled.store.pages

  -- ---- the savepoints that are known

  -- what was recovered is named under the least sequence
  low_is : goes.story.point low ≡ recovered.save.newest
  low_is =
      let k = crash_stands goes.told left.1 left.2 in
      let same : goes.story.point k.0 ≡ recovered.save.newest =
      names_one found.save (goes.story.point k.0) recovers.reading.point k.3.names recovers.is.names
      ∙ sym recovers.point in
      let is : k.0 ≡ low = sym (goes.told.save.numbered k.0 k.1 k.2) ∙ ap sequence_of same in
      ap goes.story.point (sym is) ∙ same

  -- there were no more pages, and one store at most
  record Grown : Type 0 where
    more : length recovered.store.pages ≤ length pages
    least : low ≤ last
    most : last ≤ low + 1

  one_due : (o : Option Saved) → stores_due o ≤ 1
  one_due None = omega arith
  one_due (Some s) = elim (list_all (λ n. n == 0) s.lengths) as (λ b. cond b 0 1 ≤ 1) [ true ↦ omega arith | false ↦ omega arith ]

  words_many : (ps : List Page) → length (words_of ps) ≡ length ps
  words_many ps = length-map ps (λ (p : Page). p.words)

  grown_by : (o : Option Saved) → recovered.saved ≡ o → Follows recovered settled o → Grown
  grown_by None is follows = record {
    more = omega (arith, is_up.count ∙ ap saved_count is);
    least = (let seq = follows.sequence in omega (arith, seq));
    most = (let due = one_due recovered.saved in let seq = follows.sequence in omega (arith, due, seq));
  }
  grown_by (Some p) is (inl stays) = record {
    more = omega (
      arith,
      sym (words_many pages) ∙ ap length stays.pages
          ∙ ap (λ o. length (settled_pages o (words_of recovered.store.pages) settled.decls)) is
          ∙ words_many recovered.store.pages,
    );
    least = (let seq = stays.sequence in omega (arith, seq));
    most = (let due = one_due recovered.saved in let seq = stays.sequence in omega (arith, due, seq));
  }
  grown_by (Some p) is (inr composed) = record {
    more = omega (
      arith,
      sym (words_many pages) ∙ ap length composed.pages ∙ length-append (words_of recovered.store.pages) composed.made,
      words_many recovered.store.pages,
    );
    least = (let seq = composed.sequence in omega (arith, seq));
    most = (let seq = composed.sequence in omega (arith, seq));
  }

  grown : Grown
  grown = grown_by recovered.saved refl settles.follows

  -- none counts more pages than there are
  count_newest : count_of settled.save.newest ≡ length pages
  count_newest =
      let p = point_says settled.save.newest settled.saved settles.says in
      ap count_of p.1 ∙ sym (ap (λ (x : Saved). x.count) p.2) ∙ sym settles.count

  count_low : count_of recovered.save.newest ≤ length pages
  count_low =
      let same : saved_count recovered.saved ≡ count_of recovered.save.newest =
      ap saved_count is_up.saved ∙ of recovered.save.newest in
      omega (arith, same, is_up.count, grown.more)
    where
      of : (o : Option Savepoint) → saved_count (option_map saved_of o) ≡ count_of o
      of None = refl
      of (Some p) = refl

  count_at : (k : ℕ) → low ≤ k → k ≤ last → count_of (goes.story.point k) ≤ length pages
  count_at k at_least at_most = elim (cases_eq k last) [
    | inl same ↦ omega (arith, ap (λ n. count_of (goes.story.point n)) same, ap count_of goes.newest_is, count_newest)
    | inr other ↦
        let here : k ≡ low = omega (arith, at_least, at_most, other, grown.most) in
        omega (arith, ap (λ n. count_of (goes.story.point n)) here, ap count_of low_is, count_low)
  ]

  -- ---- the pages

  abbrev rests : (now : Images) × AreTold tells (parts_of vault) now × SaysSettled now settled
  rests = settles.rests found told_found recovers

  since_now : (k : ℕ) → low ≤ k → k ≤ last → AllBegin (image_at vault.snaps (clock vault.snaps)) (goes.story.pages k)
  since_now k at_least at_most = goes.told.snaps.since k (clock vault.snaps) at_least at_most goes.told.snaps.began
      (omega arith) (λ tie has is. goes.told.snaps.times tie has)

  an_image : image_at vault.snaps (clock vault.snaps) rests.0.snaps
  an_image = reads_told vault.snaps rests.0.snaps rests.1.snaps

  -- the newest savepoint's pages are those of the store
  abbrev front_images : Images
  front_images = record { save = rests.0.save; snaps = goes.story.pages last; bank = λ n. [] }

  newest : (p : Savepoint) × (settled.save.newest ≡ Some p) × (settled.saved ≡ saved_of p)
  newest = point_says settled.save.newest settled.saved settles.says

  front_stands : IsRecoverable front_images epoch state
  front_stands = (goes.stands last front_images goes.told.save.ordered (omega arith) (record {
    names = subst (Names rests.0.save) (sym goes.newest_is) (settles.stored rests.0.save rests.1.save).names;
    pages = front_refl (goes.story.pages last);
    counted = λ n bank here. (goes.opened n bank here).counts last goes.told.save.ordered (omega arith)
        (λ began since cut. goes.told.older n began since cut);
  })).is

  front_has : HasPages (goes.story.pages last) newest.0.count front_stands.reading.pages
  front_has =
      let point : front_stands.reading.point ≡ Some newest.0 =
      names_one rests.0.save front_stands.reading.point (Some newest.0) front_stands.is.names
      (subst (Names rests.0.save) newest.1 (settles.stored rests.0.save rests.1.save).names) in
      let reads : ReadsSaved front_images newest.0 front_stands.reading =
      subst (λ x. ReadsBy front_images x front_stands.reading) point front_stands.is.counts in
      reads.snapshot.has

  rests_has : HasPages rests.0.snaps newest.0.count (words_of pages)
  rests_has =
      let reads : ReadsSaved rests.0 newest.0 rests.2.reading =
      subst (λ x. ReadsBy rests.0 x rests.2.reading) (rests.2.point ∙ newest.1) rests.2.is.counts in
      subst (HasPages rests.0.snaps newest.0.count) (sym rests.2.pages) reads.snapshot.has

  words_same : front_stands.reading.pages ≡ words_of pages
  words_same = one_pages rests.0.snaps newest.0.count front_stands.reading.pages (words_of pages) (record {
    count_is = front_has.count_is;
    each = λ number first most. page_in_front (goes.story.pages last) rests.0.snaps number
        (page front_stands.reading.pages number)
        (since_now last goes.told.save.ordered (omega arith) rests.0.snaps an_image) (front_has.each number first most);
  }) rests_has

  front_bytes : IsFront (bytes_of_pages pages) (goes.story.pages last)
  front_bytes =
      let has : HasPages (goes.story.pages last) newest.0.count (words_of pages) =
      subst (HasPages (goes.story.pages last) newest.0.count) words_same front_has in
      let many : newest.0.count ≡ length pages = sym (ap count_of newest.1) ∙ count_newest in
      let bytes : bytes_of_pages pages ≡ take (512 * length pages) (goes.story.pages last) =
      pages_bytes (goes.story.pages last) 0 pages (λ i below.
      ap (λ n. take 512 (drop (512 * n) (goes.story.pages last))) (sym (index i))
      ∙ (has.each (suc i) (omega arith) (omega (arith, below, many))).spelled) in
      subst (λ l. IsFront l (goes.story.pages last)) (sym bytes) (front_take (512 * length pages) (goes.story.pages last))
    where
      index : (i : ℕ) → suc i - 1 ≡ 0 + i
      index i = omega arith

  bytes_now : AllBegin (image_at vault.snaps (clock vault.snaps)) (bytes_of_pages pages)
  bytes_now = begins_less (image_at vault.snaps (clock vault.snaps)) (bytes_of_pages pages) (goes.story.pages last)
      (since_now last goes.told.save.ordered (omega arith)) front_bytes

  -- ---- the story

  -- of each savepoint just the pages that it counts
  abbrev story : Story
  story = record goes.story {
    pages = λ k. take (512 * count_of (goes.story.point k)) (goes.story.pages k);
  }

  told_story : IsTold clock image_at story from low last (parts_of vault)
  told_story = record {
    save = goes.told.save;
    snaps = record {
      began = goes.told.snaps.began;
      times = goes.told.snaps.times;
      since = λ k m at_least at_most come within times. begins_less (image_at vault.snaps m) (story.pages k)
          (goes.story.pages k) (goes.told.snaps.since k m at_least at_most come within times)
          (front_take (512 * count_of (goes.story.point k)) (goes.story.pages k));
    };
    bank = goes.told.bank;
    sized = goes.told.sized;
    older = goes.told.older;
    allowed = goes.told.allowed;
  }

  fronts : (k : ℕ) → low ≤ k → k ≤ last → IsFront (story.pages k) (bytes_of_pages pages)
  fronts k at_least at_most =
      let n = 512 * count_of (goes.story.point k) in
      let short : length (story.pages k) ≤ n = short_take n (goes.story.pages k) in
      let bound = count_at k at_least at_most in
      let size = whole_size pages whole_pages in
      front_within (story.pages k) (bytes_of_pages pages) rests.0.snaps
      (front_then (story.pages k) (goes.story.pages k) rests.0.snaps (front_take n (goes.story.pages k))
      (since_now k at_least at_most rests.0.snaps an_image)) (bytes_now rests.0.snaps an_image)
      (omega (arith, short, bound, size))
    where
      short_take : (n : ℕ) (xs : List ℕ) → length (take n xs) ≤ n
      short_take zero xs = omega arith
      short_take (suc n) [] = omega arith
      short_take (suc n) (x ∷ xs) = (let less = short_take n xs in omega (arith, less))

  -- images that have just those pages stand for the same
  stands_cut : (k : ℕ) (images : Images) → low ≤ k → k ≤ last → StandsFor clock image_at story (parts_of vault) images k
      → StandsAsRead recovers.reading images epoch state
  stands_cut k images at_least at_most at =
      let full : Images = record images { snaps = goes.story.pages k } in
      let so : StandsAsRead recovers.reading full epoch state = goes.stands k full at_least at_most (record {
        names = at.names;
        pages = front_refl (goes.story.pages k);
        counted = at.counted;
      }) in
      let is : IsRecoverable full epoch state = so.is in
      let point : is.reading.point ≡ goes.story.point k =
      names_one images.save is.reading.point (goes.story.point k) is.is.names at.names in
      record {
        is = record {
          reading = is.reading;
          is = same_reading full images is.reading (record {
            names = is.is.names;
            snaps = subst (λ o. IsFront (take (512 * count_of o) (goes.story.pages k)) images.snaps) (sym point) at.pages;
            bank = λ n below. front_take (counted_of is.reading.point n) (images.bank n);
          }) is.is;
          epoch_is = is.epoch_is;
          state_is = is.state_is;
        };
        keeps = so.keeps;
      }

  -- each log file is counted from now on
  since_first : AreSince clock image_at story (from_now clock (parts_of vault)) from low last (parts_of vault)
  since_first n bank there =
      let opened = goes.opened n bank there in
      record {
        come = λ k at_least at_most. subst (λ o. clock_at clock 0 o ≤ clock bank) (sym there) (omega arith);
        past = λ k at_least at_most began after cut older. subst (λ o. began < clock_at clock 0 o) (sym there)
            (opened.past began after cut);
        kept = λ k m at_least at_most since_from since_mark come uncut.
            let late : clock bank ≤ m = subst (λ o. clock_at clock 0 o ≤ m) there since_mark in
            let is : clock bank ≡ m = omega (arith, late, come) in
            subst (λ j. AllBegin (image_at bank j) (story.counted k n)) is
            (begins_less (image_at bank (clock bank)) (story.counted k n) [] opened.now
            (opened.counts k at_least at_most (λ began after cut. elim (cases_lt k after) [
              | inl newer ↦ absurd (omega (arith, uncut began after cut newer, opened.past began after cut, late))
              | inr older ↦ older
            ])));
      }

  -- ---- what is known

  -- So it is of a runtime that begins so, with empty logs.
  pub known_at_first : (room : ℕ) (first : Number) (r : RuntimeState)
      → r ≡ begun settled.decls settled.state r.stands settled.save settled.store room first
      → AreLogs tells clock image_at (λ worker. []) (λ worker. []) r vault
      → AreClosedFiles tells clock image_at (λ worker. []) (λ worker. []) r vault
      → KnownAtFirst tells clock image_at from recovers.reading epoch state low r vault
  known_at_first room first r begins =
      let start : RuntimeState = begun settled.decls settled.state r.stands settled.save settled.store room first in
      subst (λ (x : RuntimeState). AreLogs tells clock image_at (λ worker. []) (λ worker. []) x vault
      → AreClosedFiles tells clock image_at (λ worker. []) (λ worker. []) x vault
      → KnownAtFirst tells clock image_at from recovers.reading epoch state low x vault) (sym begins)
      (λ logs files. record {
        story = story;
        knows = record {
          told = told_story;
          growing = λ w bank below there. goes.opened (growing_number start.side w) bank there;
          shut = λ w bank below there.
              let opened = goes.opened (closed_number start.side w) bank there in
              record {
                past = opened.past;
                now = opened.now;
                agrees = λ m come within past c image front short all. opened.agrees m come within past front all;
                counts = opened.counts;
              };
          newest_is = goes.newest_is;
          tells_save = ap is_some rests.1.save;
          tells_snaps = ap is_some rests.1.snaps;
          logs = logs;
          files = files;
          pages = fronts;
          pages_durable = bytes_now;
        };
        stays = record {
          come = λ n bank there began after cut.
              let past = (goes.opened n bank there).past began after cut in omega (arith, past);
          ready = λ n bank there k at_least at_most older. open_ready (goes.opened n bank there) at_least at_most older;
        };
        newest_is = goes.newest_is;
        stands = stands_cut;
        since = since_first;
      })

-- The same from what a settling tells and leaves, of a vault that had rested since these moments, with no records; and
-- from what a runtime begins with.
pub known_settled : {D : Type 0} {tells : D → Option (List ℕ)} {clock : D → ℕ} {image_at : D → ℕ → List ℕ → Type 0}
    (reads_told : (disk : D) (file : List ℕ) → tells disk ≡ Some file → image_at disk (clock disk) file)
    {from : Moments} {given : List Decl} {between vault : Vault D} (recovered : Recovered) (settled : Settled)
    (found : Images) → IsUp recovered → (settles : SettlesInto tells clock image_at recovered given between vault settled)
    → SettleLeaves tells clock image_at recovered true between vault → IsWhole between
    → (rest : IsResting clock image_at (parts_of between)) → HasNoRecords (parts_of between)
    → AreTold tells (parts_of between) found
    → RestsSince clock image_at from rest.point rest.pages rest.counted (parts_of between)
    → (recovers : Recovers found recovered) → AllByRecursion IsWholePage settled.store.pages
    → (room : ℕ) (first : Number) (r : RuntimeState)
    → r ≡ begun settled.decls settled.state r.stands settled.save settled.store room first
    → AreLogs tells clock image_at (λ worker. []) (λ worker. []) r vault
    → AreClosedFiles tells clock image_at (λ worker. []) (λ worker. []) r vault
    → KnownAtFirst tells clock image_at from recovers.reading recovered.epoch recovered.state
    (sequence_of recovered.save.newest) r vault
known_settled reads_told {from = from} {between = between} {vault = vault}
    recovered settled found up settles leaves whole rest none told since recovers pages_whole =
    known_at_first reads_told recovered settled found up settles told recovers
    (settles.goes_on found from rest none told since recovers)
    (left_since reads_told vault found whole rest none told since (recovers_state found recovered recovers)
    (leaves.crashes found from rest none told since recovers).keeps) pages_whole
