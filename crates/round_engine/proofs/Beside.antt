-- What was kept of the save, seen from the begin of a round.
use Rattle.std.proofs.Common.{◌≡◌, ◌∙◌, ◌≤◌, ◌+◌, ◌++◌, sym, ap, subst, refl, ℕ, List, [], length, true, Option, None}
use Rattle.std.proofs.Common.{arith}
use Rattle.std.specs.Prelude.{is_some, option_to_list}
use Rattle.std.specs.List.{Contains}
use Rattle.std.proofs.lemmas.List.{append-nil}
use Rattle.outside.specs.Faults.{Rose}
use Rattle.outside.specs.Fronts.{AllBegin}
use Rattle.log_writer.specs.declared.records.Tie.{Tie}
use Rattle.log_writer.specs.declared.vault.Vault.{Vault}
use Rattle.lists.specs.Fronts.{IsFront}
use Rattle.wire_form.specs.declared.savepoint.Savepoint.{Savepoint}
use Rattle.log_writer.specs.Points.{SaveState, sequence_of}
use Rattle.log_writer.specs.Records.{no_ties}
use Rattle.log_writer.specs.Save.{IsStored}
use Rattle.log_writer.specs.declared.saved.Saved.{Saved}
use Rattle.snapshot_store.specs.Store.{bytes_of_pages, StoreState}
use Rattle.joint_crashes.specs.Crashes.Rounded.{keeper_none}
use Rattle.joint_crashes.specs.JointCrash.{Moments}
use Rattle.joint_crashes.specs.Rounds.{KeeperRan}
use Rattle.joint_crashes.specs.Story.{SaveTold, SnapsTold, Story}
use Rattle.round_engine.specs.Keeping.{KeepsSaves}
use Rattle.round_engine.specs.Saves.{ArePages, AreTied, GoesOnWith, HaveEnded, newest_after}
use Rattle.round_engine.specs.Standing.{RuntimeState}

-- the save, the snapshots and the ties are as they were
pub record SameSaves {D : Type 0} (old new : Vault D) : Type 0 where
  pub save : new.save ≡ old.save
  pub snaps : new.snaps ≡ old.snaps
  pub ties : new.ties.items ≡ old.ties.items

-- what is stored, told of the devices one by one
abbrev pub StoredOver : {D : Type 0} → (D → Option (List ℕ)) → (D → ℕ) → (D → ℕ → List ℕ → Type 0) → List Saved
    → Option Savepoint → StoreState → StoreState → D → D → D → D → List Tie → List Tie → Type 0
StoredOver tells clock image_at begun newest store_was store save_was save snaps_was snaps ties_was ties =
    (story : Story) (from : Moments) (low : ℕ) (bytes : ℕ → List ℕ)
    → is_some (tells save_was) ≡ true → is_some (tells snaps_was) ≡ true
    → GoesOnWith story newest bytes begun → ArePages bytes store.pages → story.point (sequence_of newest) ≡ newest
    → ((k : ℕ) → low ≤ k → k ≤ sequence_of newest → IsFront (story.pages k) (bytes_of_pages store_was.pages))
    → AllBegin (image_at snaps_was (clock snaps_was)) (bytes_of_pages store_was.pages)
    → SaveTold clock image_at story.point from.save low (sequence_of newest) save_was ties_was
    → SnapsTold clock image_at story.pages from.snaps low (sequence_of newest) snaps_was ties_was
    → KeeperRan clock image_at story from low (sequence_of newest) (sequence_of newest + length begun)
    save_was save snaps_was snaps ties_was ties
    × (store.sound ≡ true → AllBegin (image_at snaps (clock snaps)) (bytes_of_pages store.pages))

module _ {D : Type 0} {tells : D → Option (List ℕ)} {clock : D → ℕ} {image_at : D → ℕ → List ℕ → Type 0}
    {faults : D → ℕ} where
  -- nothing of it was touched before
  pub keeps_from : {stored : List Saved} {failed : Option Saved} {a b c : RuntimeState} {before between now : Vault D}
      → SameSaves before between → b.save ≡ a.save → b.store ≡ a.store
      → KeepsSaves tells clock image_at faults stored failed b c between now
      → KeepsSaves tells clock image_at faults stored failed a c before now
  keeps_from {stored} {failed} {a = a} {b = b} {c = c} {before = before} {between = between} {now = now} same save store k =
      let begun = stored ++ option_to_list failed in
      let one : StoredOver tells clock image_at begun a.save.newest b.store c.store between.save now.save between.snaps
      now.snaps between.ties.items now.ties.items =
      subst (λ (s : SaveState). StoredOver tells clock image_at begun s.newest b.store c.store between.save now.save
      between.snaps now.snaps between.ties.items now.ties.items) save k.keeper in
      let two : StoredOver tells clock image_at begun a.save.newest a.store c.store between.save now.save between.snaps
      now.snaps between.ties.items now.ties.items =
      subst (λ (s : StoreState). StoredOver tells clock image_at begun a.save.newest s c.store between.save now.save
      between.snaps now.snaps between.ties.items now.ties.items) store one in
      let three : StoredOver tells clock image_at begun a.save.newest a.store c.store before.save now.save between.snaps
      now.snaps between.ties.items now.ties.items =
      subst (λ d. StoredOver tells clock image_at begun a.save.newest a.store c.store d now.save between.snaps now.snaps
      between.ties.items now.ties.items) same.save two in
      let four : StoredOver tells clock image_at begun a.save.newest a.store c.store before.save now.save before.snaps
      now.snaps between.ties.items now.ties.items =
      subst (λ d. StoredOver tells clock image_at begun a.save.newest a.store c.store before.save now.save d now.snaps
      between.ties.items now.ties.items) same.snaps three in
      record {
        newest = subst (λ (s : SaveState). c.save.newest ≡ newest_after s.newest stored) save k.newest;
        down = k.down;
        stands = k.stands;
        told = k.told ∙ ap (λ d. is_some (tells d)) same.save;
        snaps_told = k.snaps_told ∙ ap (λ d. is_some (tells d)) same.snaps;
        later = subst (λ d. faults d ≤ faults now.save) same.save k.later;
        quiet = λ none. k.quiet none ∙ ap faults same.save;
        rose = λ is. subst (λ d. Rose (faults d) (faults now.save)) same.save (k.rose is);
        ties_are = subst (λ t. AreTied a.save.newest stored failed t now.ties.items) same.ties
            (subst (λ (s : SaveState). AreTied s.newest stored failed between.ties.items now.ties.items) save k.ties_are);
        ended = subst (λ (s : SaveState). HaveEnded s.newest stored now.ties.items) save k.ended;
        ties_stay = λ tie has. k.ties_stay tie (subst (λ t. Contains t tie) (sym same.ties) has);
        grows = (k.grows.0, subst (λ (s : StoreState). c.store.pages ≡ s.pages ++ k.grows.0) store k.grows.1);
        counts = k.counts;
        keeper = subst (λ t. StoredOver tells clock image_at begun a.save.newest a.store c.store before.save now.save
            before.snaps now.snaps t now.ties.items) same.ties four;
      }

  -- nothing was stored
  pub keeps_none : (r : RuntimeState) (vault : Vault D) → r.save.down ≡ None
      → IsStored tells clock image_at vault.save r.save.newest
      → KeepsSaves tells clock image_at faults [] None r r vault vault
  keeps_none r vault up stored = record {
    newest = refl;
    down = ap is_some up;
    stands = λ up. stored;
    told = refl;
    snaps_told = refl;
    later = omega arith;
    quiet = λ none. refl;
    rose = λ is. absurd (let no = is in cc);
    ties_are = no_ties (sequence_of r.save.newest) refl;
    ended = λ k saved at. absurd (let no = at in cc);
    ties_stay = λ tie has. has;
    grows = ([], sym (append-nil r.store.pages));
    counts = tt;
    keeper = λ story from low bytes save snaps goes pages point fronts begins save_told snaps_told. (
      subst (λ n. KeeperRan clock image_at story from low (sequence_of r.save.newest) n vault.save vault.save vault.snaps
          vault.snaps vault.ties.items vault.ties.items) (no_more (sequence_of r.save.newest))
          (keeper_none save_told snaps_told),
      λ sound. begins,
    );
  }
    where
      no_more : (n : ℕ) → n ≡ n + 0
      no_more n = omega arith
