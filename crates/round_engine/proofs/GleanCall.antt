-- A glean of the closed side, by what gleaner says of it.
use Rattle.std.proofs.Common.{◌≡◌, ◌≢◌, ◌∙◌, ◌<◌, ◌++◌, ◌∷◌, drop, take, inl, inr, sym, ap, subst, refl, ℕ, zero, suc, List, [], length}
use Rattle.std.proofs.Common.{Bool, true, false, Option, Some, arith}
use Rattle.std.specs.Prelude.{◌==◌, ◌&&◌, ◌||◌, nat_lt, not, Result, Ok, Err}
use Rattle.std.proofs.lemmas.Bool.{cases_Bool}
use Rattle.std.proofs.lemmas.List.{append-nil, drop_all, take_all}
use Rattle.std.proofs.lemmas.Bool.Decides.{nat_tests}
use Rattle.lists.specs.declared.memory.OrMemory.{OrMemory}
use Rattle.lists.specs.declared.memory.OrMemory.TheVariants as or
use Rattle.outside.specs.declared.device.Device.TheVariants as devices
use Rattle.log_writer.specs.declared.vault.Vault.{Vault}
use Rattle.outside.specs.declared.device.Device.{Device}
use Rattle.wire_form.specs.Pages.{Contents}
use Rattle.serial_model.specs.Numbers.{last_epoch}
use Rattle.snapshot_store.specs.Content.{CatalogueAt, SnapshotStands, words_of}
use Rattle.snapshot_store.specs.Store.{StoreState}
use Rattle.gleaner.specs.Glean.{bank_of, CanGlean, HasFailed, IsDamagedFile, IsGleaned, none_counted, WouldBeDeep}
use Rattle.gleaner.specs.Glean.{WouldBeMany}
use Rattle.gleaner.specs.GleanLaws.{gleaned_many}
use Rattle.gleaner.specs.declared.closed.Closed.{Closed}
use Rattle.gleaner.specs.declared.closed.Newest.{Newest}
use Rattle.gleaner.specs.declared.gleaning.GleanFault.{GleanFault}
use Rattle.gleaner.specs.declared.gleaning.GleanFault.TheVariants as refusals
use Rattle.gleaner.specs.declared.gleaning.Gleaned.{Gleaned}
use Rattle.gleaner.specs.declared.gleaning.Gleaned.TheVariants.{Empty, Snap}
use Rattle.tx_script.specs.Causes.{some_counted}
use Rattle.worker_logs.specs.Saves.{closed_number}
use Rattle.worker_logs.specs.declared.savepoints.Side.{Side}
use Rattle.worker_logs.specs.declared.savepoints.Side.TheVariants.{Even, Odd}
use Rattle.round_engine.specs.Gleans.{AddsNothing, ComesTo, FailsIn, pages_after}
use Rattle.round_engine.specs.Gleans.{AnswersGlean, closed_of, counted_after, device_of_glean, Gleans, GleansFiles, newest_in}
use Rattle.round_engine.specs.Keeping.{CanKeep}
use Rattle.round_engine.specs.Sides.{closed_in, growing_in, is_odd}
use Rattle.round_engine.specs.Standing.{RuntimeState}
use Rattle.round_engine.proofs.GleanDevices.{beside_in, told_in}
use Rattle.round_engine.proofs.Places.{within_of}

-- files that were lent as a slice are put back
pub files_back : {D : Type 0} (len : ℕ) (new old : List D) → length new ≡ length old → len ≡ length old
    → take len (new ++ drop (length new) old) ≡ new
files_back len new old same many =
    ap (λ l. take len (new ++ l)) (drop_all (length new) old (omega (arith, same)))
    ∙ ap (take len) (append-nil new) ∙ take_all len new (omega (arith, same, many))

-- ---- whether bytes count

none_at : (n : ℕ) (rest_any rest_all : Bool) → (nat_lt 0 n || rest_any) ≡ false → (rest_any ≡ false → rest_all ≡ true)
    → ((n == 0) && rest_all) ≡ true
none_at zero rest_any rest_all none rest = rest none
none_at (suc n) rest_any rest_all none rest =
    let some : nat_lt 0 (suc n) ≡ true = grind (arith, nat_tests) in
    absurd (let no : true ≡ false = sym (ap (λ b. b || rest_any) some) ∙ none in cc)

pub none_of : (lengths : List ℕ) → some_counted lengths ≡ false → none_counted lengths ≡ true
none_of [] none = refl
none_of (n ∷ lengths) none = none_at n (some_counted lengths) (none_counted lengths) none (none_of lengths)

some_at : (n : ℕ) (rest_any rest_all : Bool) → (nat_lt 0 n || rest_any) ≡ true → (rest_any ≡ true → rest_all ≡ false)
    → ((n == 0) && rest_all) ≡ false
some_at zero rest_any rest_all some rest = rest some
some_at (suc n) rest_any rest_all some rest =
    let other : (suc n == 0) ≡ false = grind (arith, nat_tests) in ap (λ b. b && rest_all) other

pub some_of : (lengths : List ℕ) → some_counted lengths ≡ true → none_counted lengths ≡ false
some_of [] some = absurd (let no = some in cc)
some_of (n ∷ lengths) some = some_at n (some_counted lengths) (none_counted lengths) some (some_of lengths)

-- the number of a closed log file, as gleaner has it
closed_bank : (side : Side) (worker : ℕ) → bank_of (not (is_odd side)) worker ≡ closed_number side worker
closed_bank Even worker = refl
closed_bank Odd worker = refl

newest_ext : (newest : Newest) (page epoch : ℕ) → newest.page ≡ page → newest.epoch ≡ epoch
    → newest ≡ record { page = page; epoch = epoch }
newest_ext newest page epoch page_is epoch_is =
    ap (λ x. record newest { page = x }) page_is ∙ ap (λ x. record newest { page = page; epoch = x }) epoch_is

module _ {D : Type 0} {tells : D → Option (List ℕ)} {clock : D → ℕ} {image_at : D → ℕ → List ℕ → Type 0}
    (r : RuntimeState) (before : Vault D) (ready : CanKeep tells clock image_at r before) where
  -- a glean may be made where bytes count
  pub can_glean : (newest : Newest) → newest.page ≡ length r.store.pages
      → newest.epoch ≡ ready.snapshot.contents.epoch → r.closed_at < last_epoch → none_counted r.counted ≢ true
      → (contents : Contents) × CanGlean (words_of r.store.pages) r.stands.decls newest (closed_of r) contents
  can_glean newest page epoch below some = (
    ready.snapshot.contents,
    record {
      stands = subst (λ n. SnapshotStands (words_of r.store.pages) n ready.snapshot.contents) (sym page) ready.snapshot.stands;
      decls_are = ready.snapshot.decls;
      epoch_is = epoch;
      later = ready.snapshot.earlier (elim (cases_Bool (some_counted r.counted)) [
        | inl counted ↦ counted
        | inr none ↦ absurd (some (none_of r.counted none))
      ]);
      last = below;
      counted = ready.closed.counted;
    },
  )

module _ {D : Type 0} {tells : D → Option (List ℕ)} {clock : D → ℕ} {image_at : D → ℕ → List ℕ → Type 0} (faults : D → ℕ)
    (r : RuntimeState) (store : StoreState) (before now : Vault D) (newest : Newest)
    (ready : CanKeep tells clock image_at r before) (page : newest.page ≡ length r.store.pages)
    (epoch : newest.epoch ≡ ready.snapshot.contents.epoch) (beside : Option Device) (pages : List (List ℕ)) where
  abbrev Calls : Result Gleaned (OrMemory GleanFault) → Type 0
  Calls result = GleansFiles tells clock image_at faults r.stands.decls newest (closed_of r) r.room r.store store before.snaps
      now.snaps (closed_in r.side before) (closed_in r.side now) result beside

  abbrev after : Result Gleaned (OrMemory GleanFault) → RuntimeState
  after result = record r {
    stands = record r.stands { pages = pages };
    store = store;
    counted = counted_after result r.counted;
  }

  newest_is : newest ≡ newest_in r ready.snapshot.contents
  newest_is = newest_ext newest (length r.store.pages) ready.snapshot.contents.epoch page epoch

  comes_to : (new : ℕ) → WouldBeMany tells (words_of r.store.pages) r.stands.decls newest (closed_of r) (closed_in r.side before) new
      → ComesTo tells r before new
  comes_to new many = record {
    contents = ready.snapshot.contents;
    newest = record { here = ready.snapshot.stands.here };
    many = subst (λ n. WouldBeMany tells (words_of r.store.pages) r.stands.decls n (closed_of r) (closed_in r.side before) new)
        newest_is many;
  }

  kept_both : (result : Result Gleaned (OrMemory GleanFault)) → (now.snaps ≡ before.snaps) × (store ≡ r.store)
      → counted_after result r.counted ≡ r.counted → AddsNothing r (after result) before now
  kept_both result kept counted = record { store = kept.1; counted = counted; snaps = kept.0 }

  by_result : some_counted r.counted ≡ true → (result : Result Gleaned (OrMemory GleanFault)) → Calls result
      → AnswersGlean tells clock image_at faults r (after result) before now result
  by_result some (Ok Empty) call = absurd (call.some (some_of r.counted some) refl)
  by_result some (Ok (Snap e new)) call =
      let made = call.gleaned e new refl in (
        made.0,
        record {
          adds = record {
            contents = ready.snapshot.contents;
            newest = record { here = ready.snapshot.stands.here };
            gleaned = subst (λ n. IsGleaned tells (words_of r.store.pages) r.stands.decls n (closed_of r)
                (closed_in r.side before) (words_of store.pages) new r.room) newest_is made.1;
            whole = call.whole;
            fit = call.fit;
          };
          found = comes_to new (gleaned_many made.1);
          counted = refl;
          sound = call.sound;
          holds = call.holds;
          durable = λ bytes told. call.durable bytes told (λ none. let no = sym (some_of r.counted some) ∙ none in absurd cc);
        },
      )
  by_result some (Err (or.Fault (refusals.Device devices.Snaps))) call =
      (call.device devices.Snaps refl, call.unsound refl, refl)
  by_result some (Err (or.Fault (refusals.Device devices.Save))) call = absurd (call.device devices.Save refl)
  by_result some (Err (or.Fault (refusals.Device (devices.Bank n)))) call =
      let bad = call.device (devices.Bank n) refl in
      let f = bad.1 in (
        (
          bad.0,
          f.0,
          f.1,
          omega (
            arith,
            within_of (closed_in r.side before) bad.0 f.0 f.2,
            ready.files,
          ),
          f.4 ∙ ap devices.Bank (closed_bank r.side bad.0),
          f.2,
          f.3,
          f.5,
        ),
        kept_both (Err (or.Fault (refusals.Device (devices.Bank n)))) (call.kept (λ is. cc)) refl,
      )
  by_result some (Err (or.Fault (refusals.Damaged device at))) call = (
    record {
      contents = ready.snapshot.contents;
      newest = record { here = ready.snapshot.stands.here };
      damaged = subst (λ e. IsDamagedFile tells (closed_of r) r.stands.decls e (closed_in r.side before) device at) epoch
          (call.damaged device at refl);
    },
    kept_both (Err (or.Fault (refusals.Damaged device at))) (call.kept (λ is. cc)) refl,
  )
  by_result some (Err (or.Fault refusals.Deep)) call = (
    record {
      contents = ready.snapshot.contents;
      newest = record { here = ready.snapshot.stands.here };
      deep = subst (λ n. WouldBeDeep tells (words_of r.store.pages) r.stands.decls n (closed_of r) (closed_in r.side before))
          newest_is (call.deep refl);
    },
    kept_both (Err (or.Fault refusals.Deep)) (call.kept (λ is. cc)) refl,
  )
  by_result some (Err (or.Fault (refusals.Limit have new most))) call =
      let over = call.limit have new most refl in (
        over.0,
        over.1,
        omega (arith, over.0, over.2),
        comes_to new over.3,
        kept_both (Err (or.Fault (refusals.Limit have new most))) (call.kept (λ is. cc)) refl,
      )
  by_result some (Err or.Memory) call = kept_both (Err or.Memory) (call.kept (λ is. cc)) refl

  -- a closed log file that failed
  failed_file : (device : Device) → HasFailed faults (closed_of r) (closed_in r.side before) (closed_in r.side now) device
      → FailsIn tells clock image_at faults r device before now
  failed_file devices.Snaps bad = absurd (let f = bad.1 in let no = f.4 in cc)
  failed_file devices.Save bad = absurd (let f = bad.1 in let no = f.4 in cc)
  failed_file (devices.Bank n) bad =
      let f = bad.1 in (
        bad.0,
        f.0,
        f.1,
        omega (
          arith,
          within_of (closed_in r.side before) bad.0 f.0 f.2,
          ready.files,
        ),
        f.4 ∙ ap devices.Bank (closed_bank r.side bad.0),
        f.2,
        f.3,
        f.5,
      )

  -- The closed side was gleaned.
  pub called : (result : Result Gleaned (OrMemory GleanFault)) → Calls result → now.save ≡ before.save
      → now.ties ≡ before.ties → now.cuts ≡ before.cuts → growing_in r.side now ≡ growing_in r.side before
      → pages ≡ pages_after result r.stands.pages (words_of store.pages)
      → Gleans tells clock image_at faults r (after result) before now result beside
  called result call save ties cuts growing are = record {
    alone = record {
      stands = refl;
      save = refl;
      room = refl;
      side = refl;
      closed_at = refl;
      logs = refl;
      down = refl;
    };
    sized = call.sized;
    grows = call.grows;
    pages = are;
    save = save;
    ties = ties;
    cuts = cuts;
    over = record {
      growing = growing;
      cuts = ap (λ c. c.items) cuts;
      front = call.front;
      told = call.told;
      many = call.many;
      reads = call.reads;
    };
    also = λ device is.
        let bad = call.also device is in
        record { fails = failed_file device bad.0; later = bad.1 };
    quietly = record {
      snaps = λ fine. call.quiet_snaps (λ is. fine (told_in result beside devices.Snaps (ap device_of_glean is)));
      files = λ worker was is at there fine. call.quiet_files worker was is at there
          (λ bad. fine (told_in result beside (devices.Bank (closed_number r.side worker))
          (ap device_of_glean bad ∙ ap (λ n. Some (devices.Bank n)) (closed_bank r.side worker))))
          (λ bad. fine (beside_in result beside (devices.Bank (closed_number r.side worker))
          (bad ∙ ap (λ n. Some (devices.Bank n)) (closed_bank r.side worker))));
    };
    none = λ none.
        let nothing = call.none (none_of r.counted none) in (
          nothing.0,
          record {
            store = nothing.3;
            counted = ap (λ x. counted_after x r.counted) nothing.0;
            snaps = nothing.1;
          },
          nothing.2,
        );
    answers = λ some. by_result some result call;
  }

-- ---- told of a runtime by its parts

module _ {D : Type 0} {tells : D → Option (List ℕ)} {clock : D → ℕ} {image_at : D → ℕ → List ℕ → Type 0} (faults : D → ℕ)
    (r : RuntimeState) (store : StoreState) (before now : Vault D) (newest : Newest) (closed : Closed)
    (ready : CanKeep tells clock image_at r before) (closed_is : closed ≡ closed_of r) (beside : Option Device) (pages : List (List ℕ)) where
  -- what is known of the newest snapshot of a runtime
  pub record NewestKnown (q : RuntimeState) : Type 0 where
    pub page : newest.page ≡ length q.store.pages
    pub epoch : (contents : Contents) → CatalogueAt (words_of q.store.pages) (length q.store.pages) contents
        → newest.epoch ≡ contents.epoch

  -- and of the call
  pub record CallKnown (q : RuntimeState) (result : Result Gleaned (OrMemory GleanFault)) : Type 0 where
    pub call : GleansFiles tells clock image_at faults q.stands.decls newest closed q.room q.store store before.snaps now.snaps
        (closed_in q.side before) (closed_in q.side now) result beside
    pub growing : growing_in q.side now ≡ growing_in q.side before

  over_same : (result : Result Gleaned (OrMemory GleanFault)) → NewestKnown r → CallKnown r result → now.save ≡ before.save
      → now.ties ≡ before.ties → now.cuts ≡ before.cuts
      → pages ≡ pages_after result r.stands.pages (words_of store.pages)
      → Gleans tells clock image_at faults r (record r {
        stands = record r.stands { pages = pages };
        store = store;
        counted = counted_after result r.counted;
      }) before now result beside
  over_same result known calls save ties cuts are =
      called faults r store before now newest ready known.page
      (known.epoch ready.snapshot.contents ready.snapshot.stands.here) beside pages result
      (subst (λ x. GleansFiles tells clock image_at faults r.stands.decls newest x r.room r.store store before.snaps now.snaps
      (closed_in r.side before) (closed_in r.side now) result beside) closed_is calls.call) save ties cuts calls.growing are

  pub called_over : (q : RuntimeState) → q ≡ r → (result : Result Gleaned (OrMemory GleanFault)) → NewestKnown q
      → CallKnown q result → now.save ≡ before.save → now.ties ≡ before.ties → now.cuts ≡ before.cuts
      → pages ≡ pages_after result r.stands.pages (words_of store.pages)
      → Gleans tells clock image_at faults r (record q {
        stands = record r.stands { pages = pages };
        store = store;
        counted = counted_after result r.counted;
      }) before now result beside
  called_over q same result known calls save ties cuts are =
      subst (λ x. NewestKnown x → CallKnown x result → Gleans tells clock image_at faults r (record x {
        stands = record r.stands { pages = pages };
        store = store;
        counted = counted_after result r.counted;
      }) before now result beside) (sym same) (λ k c. over_same result k c save ties cuts are) known calls

  can_same : NewestKnown r → r.closed_at < last_epoch → none_counted closed.lengths ≢ true
      → (contents : Contents) × CanGlean (words_of r.store.pages) r.stands.decls newest closed contents
  can_same known below some =
      let can = can_glean r before ready newest known.page (known.epoch ready.snapshot.contents ready.snapshot.stands.here)
      below (subst (λ x. none_counted x.lengths ≢ true) closed_is some) in
      (can.0, subst (λ x. CanGlean (words_of r.store.pages) r.stands.decls newest x can.0) (sym closed_is) can.1)

  pub can_over : (q : RuntimeState) → q ≡ r → NewestKnown q → r.closed_at < last_epoch → none_counted closed.lengths ≢ true
      → (contents : Contents) × CanGlean (words_of q.store.pages) q.stands.decls newest closed contents
  can_over q same known below some =
      subst (λ x. NewestKnown x
      → (contents : Contents) × CanGlean (words_of x.store.pages) x.stands.decls newest closed contents) (sym same)
      (λ k. can_same k below some) known
