-- What is kept of the save, the snapshots and the ties, one call after another.
use Rattle.std.proofs.Common.{◌≡◌, ◌∙◌, ◌≤◌, ◌+◌, ◌-◌, ◌++◌, ◌∷◌, inl, inr, sym, ap, subst, refl, ℕ, zero, suc}
use Rattle.std.proofs.Common.{List, [], true, Option, Some, None, append_assoc, arith, length, length-append, drop, take}
use Rattle.std.specs.Prelude.{is_some, option_to_list, slice_get}
use Rattle.std.specs.List.{AllByRecursion}
use Rattle.std.proofs.lemmas.Bool.{cases_lt}
use Rattle.std.proofs.lemmas.Grind.{flat_map-append}
use Rattle.std.proofs.lemmas.List.{append-nil, take-append-drop, take-append-le}
use Rattle.lists.specs.Each.{all_append, all_at, all_weaker}
use Rattle.lists.specs.Fronts.{front_append, front_then, IsFront}
use Rattle.log_writer.specs.declared.records.Tie.{Tie}
use Rattle.log_writer.specs.declared.vault.Vault.{Vault}
use Rattle.wire_form.specs.declared.page.Page.{Page}
use Rattle.wire_form.specs.declared.savepoint.Savepoint.{Savepoint}
use Rattle.log_writer.specs.Points.{point_of, sequence_of}
use Rattle.log_writer.specs.Records.{AddsTies, ties_then}
use Rattle.log_writer.specs.declared.saved.Saved.{Saved}
use Rattle.snapshot_store.specs.Store.{bytes_of_page, bytes_of_pages, StoreState}
use Rattle.joint_crashes.specs.JointCrash.{Moments}
use Rattle.joint_crashes.specs.Rounds.{KeeperRan}
use Rattle.joint_crashes.specs.Story.{SaveTold, SnapsTold, Story}
use Rattle.joint_crashes.specs.Crashes.Instants.{lasts_then}
use Rattle.round_engine.specs.Keeping.{KeepsSaves}
use Rattle.round_engine.specs.RanRound.{KeeperStored}
use Rattle.round_engine.specs.Saves.{ArePages, GoesOnWith, HaveEnded, newest_after}
use Rattle.round_engine.specs.Standing.{RuntimeState}
use Rattle.round_engine.proofs.Places.{all_front}
use Rattle.round_engine.proofs.Places.{item_at}

-- ---- stories

-- the savepoint that comes first of those that are stored
abbrev pub next_of : Option Savepoint → Saved → Savepoint
next_of newest saved = point_of (sequence_of newest + 1) saved

-- behind the first the story goes on with the others
pub goes_next : (story : Story) (newest : Option Savepoint) (bytes : ℕ → List ℕ) (saved : Saved) (more : List Saved)
    → GoesOnWith story newest bytes (saved ∷ more) → GoesOnWith story (Some (next_of newest saved)) bytes more
goes_next story newest bytes saved more goes = record {
  point = λ k s at. subst (λ n. story.point n ≡ Some (point_of n s)) (later (sequence_of newest) k) (goes.point (suc k) s at);
  pages = λ k s at. subst (λ n. story.pages n ≡ bytes s.count) (later (sequence_of newest) k) (goes.pages (suc k) s at);
}
  where
    later : (n k : ℕ) → n + 1 + suc k ≡ n + 1 + 1 + k
    later n k = omega arith

-- where a story stands once these were stored
pub record Told (story : Story) (newest : Option Savepoint) (stored : List Saved) : Type 0 where
  pub sequence : sequence_of (newest_after newest stored) ≡ sequence_of newest + length stored
  pub point : story.point (sequence_of (newest_after newest stored)) ≡ newest_after newest stored

pub told_newest : (story : Story) (newest : Option Savepoint) (bytes : ℕ → List ℕ) (stored : List Saved)
    → story.point (sequence_of newest) ≡ newest → GoesOnWith story newest bytes stored → Told story newest stored
told_newest story newest bytes [] point goes = record { sequence = omega arith; point = point }
told_newest story newest bytes (saved ∷ more) point goes =
    let here : story.point (sequence_of newest + 1) ≡ Some (next_of newest saved) =
    subst (λ n. story.point n ≡ Some (point_of n saved)) (first (sequence_of newest)) (goes.point 0 saved refl) in
    let rest = told_newest story (Some (next_of newest saved)) bytes more here (goes_next story newest bytes saved more goes) in
    record { sequence = omega (arith, rest.sequence); point = rest.point }
  where
    first : (n : ℕ) → n + 1 + 0 ≡ n + 1
    first n = omega arith

pub at_append : {X : Type 0} (xs ys : List X) (k : ℕ) (x : X) → slice_get xs k ≡ Some x → slice_get (xs ++ ys) k ≡ Some x
at_append [] ys k x at = absurd cc
at_append (z ∷ xs) ys zero x at = at
at_append (z ∷ xs) ys (suc k) x at = at_append xs ys k x at

-- a story that goes on with some and with more goes on with those, and then with these
pub goes_front : (story : Story) (newest : Option Savepoint) (bytes : ℕ → List ℕ) (stored more : List Saved)
    → GoesOnWith story newest bytes (stored ++ more) → GoesOnWith story newest bytes stored
goes_front story newest bytes stored more goes = record {
  point = λ k s at. goes.point k s (at_append stored more k s at);
  pages = λ k s at. goes.pages k s (at_append stored more k s at);
}

pub goes_behind : (story : Story) (newest : Option Savepoint) (bytes : ℕ → List ℕ) (stored more : List Saved)
    → GoesOnWith story newest bytes (stored ++ more) → GoesOnWith story (newest_after newest stored) bytes more
goes_behind story newest bytes [] more goes = goes
goes_behind story newest bytes (saved ∷ stored) more goes =
    goes_behind story (Some (next_of newest saved)) bytes stored more (goes_next story newest bytes saved (stored ++ more) goes)

-- the newest once all of them were stored
pub newest_then : (newest : Option Savepoint) (stored more : List Saved)
    → newest_after newest (stored ++ more) ≡ newest_after (newest_after newest stored) more
newest_then newest [] more = refl
newest_then newest (saved ∷ stored) more = newest_then (Some (next_of newest saved)) stored more

-- ---- pages

pub pages_front : (bytes : ℕ → List ℕ) (pages more : List Page) → ArePages bytes (pages ++ more) → ArePages bytes pages
pages_front bytes pages more are n within =
    are n (omega (arith, within, length-append pages more)) ∙ ap bytes_of_pages (take-append-le n pages more within)

-- the bytes of first pages are a front of all bytes
pub bytes_front : (pages more : List Page) → IsFront (bytes_of_pages pages) (bytes_of_pages (pages ++ more))
bytes_front pages more = subst (IsFront (bytes_of_pages pages)) (sym (flat_map-append bytes_of_page pages more))
    (front_append (bytes_of_pages pages) (bytes_of_pages more))

pub some_front : (n : ℕ) (pages : List Page) → IsFront (bytes_of_pages (take n pages)) (bytes_of_pages pages)
some_front n pages = subst (λ l. IsFront (bytes_of_pages (take n pages)) (bytes_of_pages l)) (take-append-drop n pages)
    (bytes_front (take n pages) (drop n pages))

-- what each savepoint counts is a front of the bytes of all pages
pub all_fronts : (story : Story) (newest : Option Savepoint) (bytes : ℕ → List ℕ) (stored : List Saved) (was : List ℕ)
    (pages : List Page) (low : ℕ) → GoesOnWith story newest bytes stored → ArePages bytes pages
    → AllByRecursion (λ (s : Saved). s.count ≤ length pages) stored → IsFront was (bytes_of_pages pages)
    → ((k : ℕ) → low ≤ k → k ≤ sequence_of newest → IsFront (story.pages k) was)
    → (k : ℕ) → low ≤ k → k ≤ sequence_of newest + length stored → IsFront (story.pages k) (bytes_of_pages pages)
all_fronts story newest bytes stored was pages low goes are counts grown old k above within =
    elim (cases_lt (sequence_of newest) k) [
      | inr before ↦ front_then (story.pages k) was (bytes_of_pages pages) (old k above before) grown
      | inl behind ↦
          let j : ℕ = k - (sequence_of newest + 1) in
          let here : sequence_of newest + 1 + j ≡ k = omega (arith, behind) in
          let saved = item_at stored j (omega (arith, within, behind)) in
          let count = all_at (λ (s : Saved). s.count ≤ length pages) stored j saved.0 counts saved.1 in
          subst (λ n. IsFront (story.pages n) (bytes_of_pages pages)) here
          (subst (λ l. IsFront l (bytes_of_pages pages)) (sym (goes.pages j saved.0 saved.1 ∙ are saved.0.count count))
          (some_front saved.0.count pages))
    ]

-- ---- two parts in a row

module _ {D : Type 0} {clock : D → ℕ} {image_at : D → ℕ → List ℕ → Type 0} {story : Story} {from : Moments} {low s mid high : ℕ}
    {save_a save_b save_c snaps_a snaps_b snaps_c : D} {ties_a ties_b ties_c : List Tie} where
  pub keeper_then : KeeperRan clock image_at story from low s mid save_a save_b snaps_a snaps_b ties_a ties_b
      → KeeperRan clock image_at story from low mid high save_b save_c snaps_b snaps_c ties_b ties_c
      → KeeperRan clock image_at story from low s high save_a save_c snaps_a snaps_c ties_a ties_c
  keeper_then first next = record {
    more = omega (arith, first.more, next.more);
    save_told = next.save_told;
    snaps_told = next.snaps_told;
    save_lasts = lasts_then first.save_lasts next.save_lasts;
    snaps_lasts = lasts_then first.snaps_lasts next.snaps_lasts;
    keeps = λ tie has. next.keeps tie (first.keeps tie has);
    adds = λ tie has. elim (next.adds tie has) [
      | inl older ↦ first.adds tie older
      | inr later ↦ inr (omega (arith, later, first.more))
    ];
  }

module _ {D : Type 0} (tells : D → Option (List ℕ)) {clock : D → ℕ} {image_at : D → ℕ → List ℕ → Type 0} where
  pub stored_then : (stored more : List Saved) (newest mid : Option Savepoint) (a b c : StoreState)
      (before between now : Vault D) → mid ≡ newest_after newest stored
      → is_some (tells between.save) ≡ is_some (tells before.save)
      → is_some (tells between.snaps) ≡ is_some (tells before.snaps)
      → (one : List Page) → b.pages ≡ a.pages ++ one → (two : List Page) → c.pages ≡ b.pages ++ two → b.sound ≡ true
      → AllByRecursion (λ (s : Saved). s.count ≤ length b.pages) stored
      → KeeperStored tells clock image_at stored newest a b before between
      → KeeperStored tells clock image_at more mid b c between now
      → KeeperStored tells clock image_at (stored ++ more) newest a c before now
  stored_then stored more newest mid a b c before between now mid_is same same_snaps one one_is two two_is sound counts
      first next story from low bytes tell tell_snaps goes pages point fronts begins save snaps =
      let front = goes_front story newest bytes stored more goes in
      let told = told_newest story newest bytes stored point front in
      let pages_mid : ArePages bytes b.pages = pages_front bytes b.pages two (subst (ArePages bytes) two_is pages) in
      let ran = first story from low bytes tell tell_snaps front pages_mid point fronts begins save snaps in
      let here : sequence_of newest + length stored ≡ sequence_of mid =
      sym told.sequence ∙ ap sequence_of (sym mid_is) in
      let behind : GoesOnWith story mid bytes more =
      subst (λ m. GoesOnWith story m bytes more) (sym mid_is) (goes_behind story newest bytes stored more goes) in
      let point_mid : story.point (sequence_of mid) ≡ mid =
      subst (λ m. story.point (sequence_of m) ≡ m) (sym mid_is) told.point in
      let save_mid = subst (λ n. SaveTold clock image_at story.point from.save low n between.save between.ties.items) here ran.0.save_told in
      let snaps_mid = subst (λ n. SnapsTold clock image_at story.pages from.snaps low n between.snaps between.ties.items) here ran.0.snaps_told in
      let grown : IsFront (bytes_of_pages a.pages) (bytes_of_pages b.pages) =
      subst (λ l. IsFront (bytes_of_pages a.pages) (bytes_of_pages l)) (sym one_is) (bytes_front a.pages one) in
      let fronts_mid : (k : ℕ) → low ≤ k → k ≤ sequence_of mid → IsFront (story.pages k) (bytes_of_pages b.pages) =
      λ k above within. all_fronts story newest bytes stored (bytes_of_pages a.pages) b.pages low front pages_mid counts
      grown fronts k above (omega (arith, within, here)) in
      let later = next story from low bytes (same ∙ tell) (same_snaps ∙ tell_snaps) behind pages point_mid fronts_mid
      (ran.1 sound) save_mid snaps_mid in
      let ran_mid = subst (λ n. KeeperRan clock image_at story from low (sequence_of newest) n before.save between.save before.snaps
      between.snaps before.ties.items between.ties.items) here ran.0 in (
        subst (λ n. KeeperRan clock image_at story from low (sequence_of newest) n before.save now.save before.snaps now.snaps
            before.ties.items now.ties.items)
            (omega (arith, here, length-append stored more)) (keeper_then ran_mid later.0),
        later.1,
      )

-- ---- ties

-- what had ended of some, and of those behind them, has ended of all
pub ended_then : (newest mid : Option Savepoint) (stored more : List Saved) (ties : List Tie)
    → sequence_of mid ≡ sequence_of newest + length stored → HaveEnded newest stored ties → HaveEnded mid more ties
    → HaveEnded newest (stored ++ more) ties
ended_then newest mid [] more ties at one two k saved is =
    let tie = two k saved is in (tie.0, tie.1, tie.2, tie.3 ∙ omega (arith, at), tie.4)
ended_then newest mid (s ∷ stored) more ties at one two zero saved is = one zero saved is
ended_then newest mid (s ∷ stored) more ties at one two (suc k) saved is =
    let next = ended_then (Some (next_of newest s)) mid stored more ties (omega (arith, at))
    (λ j x there. let tie = one (suc j) x there in (tie.0, tie.1, tie.2, tie.3 ∙ omega arith, tie.4)) two k saved is in
    (next.0, next.1, next.2, next.3 ∙ omega arith, next.4)

-- ---- all that is kept

module _ {D : Type 0} {tells : D → Option (List ℕ)} {clock : D → ℕ} {image_at : D → ℕ → List ℕ → Type 0}
    {faults : D → ℕ} where
  pub keeps_then : {stored more : List Saved} {failed : Option Saved} {a b c : RuntimeState}
      {before between now : Vault D} → b.store.sound ≡ true
      → KeepsSaves tells clock image_at faults stored None a b before between
      → KeepsSaves tells clock image_at faults more failed b c between now
      → KeepsSaves tells clock image_at faults (stored ++ more) failed a c before now
  keeps_then {stored} {more} {failed} {a = a} {b = b} {c = c} {before = before} {between = between} {now = now}
      sound first then =
      let assoc : (stored ++ more) ++ option_to_list failed ≡ stored ++ (more ++ option_to_list failed) =
      append_assoc stored more (option_to_list failed) in
      let Within : Saved → Type 0 = λ s. s.count ≤ length c.store.pages in
      let counts : AllByRecursion (λ (s : Saved). s.count ≤ length b.store.pages) stored =
      all_front (λ (s : Saved). s.count ≤ length b.store.pages) stored [] first.counts in
      let more_pages : length b.store.pages ≤ length c.store.pages =
      omega (arith, ap length then.grows.1, length-append b.store.pages then.grows.0) in
      let one : AddsTies (sequence_of a.save.newest) (length stored) before.ties.items between.ties.items =
      subst (λ l. AddsTies (sequence_of a.save.newest) (length l) before.ties.items between.ties.items)
      (append-nil stored) first.ties_are in
      let two : AddsTies (sequence_of a.save.newest + length stored) (length (more ++ option_to_list failed))
      between.ties.items now.ties.items =
      subst (λ k. AddsTies k (length (more ++ option_to_list failed)) between.ties.items now.ties.items)
      (ap sequence_of first.newest ∙ sequence_after a.save.newest stored) then.ties_are in
      let sum : length stored + length (more ++ option_to_list failed)
      ≡ length ((stored ++ more) ++ option_to_list failed) =
      sym (length-append stored (more ++ option_to_list failed)) ∙ ap length (sym assoc) in
      record {
        newest = then.newest ∙ ap (λ n. newest_after n more) first.newest ∙ sym (newest_then a.save.newest stored more);
        down = then.down;
        stands = then.stands;
        told = then.told ∙ first.told;
        snaps_told = then.snaps_told ∙ first.snaps_told;
        later = omega (arith, first.later, then.later);
        quiet = λ none. then.quiet none ∙ first.quiet refl;
        rose = λ is. omega (arith, then.rose is, first.later);
        ties_are = subst (λ n. AddsTies (sequence_of a.save.newest) n before.ties.items now.ties.items) sum
            (ties_then one two);
        ended = ended_then a.save.newest b.save.newest stored more now.ties.items
            (ap sequence_of first.newest ∙ sequence_after a.save.newest stored)
            (λ k saved at. let tie = first.ended k saved at in
            (tie.0, tie.1, then.ties_stay tie.0 tie.2, tie.3, tie.4)) then.ended;
        ties_stay = λ tie has. then.ties_stay tie (first.ties_stay tie has);
        grows = (
          first.grows.0 ++ then.grows.0,
          then.grows.1 ∙ ap (λ l. l ++ then.grows.0) first.grows.1 ∙ append_assoc a.store.pages first.grows.0 then.grows.0,
        );
        counts = subst (AllByRecursion Within) (sym assoc)
            (all_append Within stored (more ++ option_to_list failed)
            (all_weaker (λ (s : Saved). s.count ≤ length b.store.pages) Within (λ s within. omega (arith, within, more_pages))
            stored counts) then.counts);
        keeper = subst (λ l. KeeperStored tells clock image_at l a.save.newest a.store c.store before now) (sym assoc)
            (stored_then tells stored (more ++ option_to_list failed) a.save.newest b.save.newest a.store b.store c.store
            before between now first.newest first.told first.snaps_told first.grows.0 first.grows.1 then.grows.0
            then.grows.1 sound counts
            (subst (λ l. KeeperStored tells clock image_at l a.save.newest a.store b.store before between) (append-nil stored)
            first.keeper) then.keeper);
      }
    where
      sequence_after : (newest : Option Savepoint) (stored : List Saved)
          → sequence_of (newest_after newest stored) ≡ sequence_of newest + length stored
      sequence_after newest [] = omega arith
      sequence_after newest (s ∷ stored) = sequence_after (Some (next_of newest s)) stored ∙ omega arith
