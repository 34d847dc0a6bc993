-- What the keeper tells of a round, from one savepoint to the next.
use Rattle.std.proofs.Common.{◌≡◌, ◌+◌, ◌++◌, ◌∷◌, inl, inr, ℕ}
use Rattle.std.proofs.Common.{List, [], Option, sym, ap, subst, arith}
use Rattle.std.specs.List.{Contains}
use Rattle.std.proofs.lemmas.List.Elements.{Contains-push_cases, Contains-append_left}
use Rattle.outside.specs.Disk.{Runs}
use Rattle.log_writer.specs.declared.records.Tie.{Tie}
use Rattle.outside.specs.Fronts.{AllBegin}
use Rattle.joint_crashes.specs.JointCrash.{Moments}
use Rattle.joint_crashes.specs.Story.{Story, SaveTold, SnapsTold}
use Rattle.joint_crashes.specs.Rounds.{KeeperRan}
use Rattle.joint_crashes.specs.Crashes.SnapsSteps.{snaps_tied}
use Rattle.joint_crashes.specs.Crashes.Instants.{lasts_none, lasts_then, lasts_runs}

module _ {D : Type 0} {clock : D → ℕ} {image_at : D → ℕ → List ℕ → Type 0} {story : Story} {from : Moments}
    {low : ℕ} where
  -- no savepoint so far
  pub keeper_none : {s : ℕ} {save snaps : D} {ties : List Tie}
      → SaveTold clock image_at story.point from.save low s save ties
      → SnapsTold clock image_at story.pages from.snaps low s snaps ties
      → KeeperRan clock image_at story from low s s save save snaps snaps ties ties
  keeper_none save snaps = record {
    more = omega arith;
    save_told = save;
    snaps_told = snaps;
    save_lasts = lasts_none;
    snaps_lasts = lasts_none;
    keeps = λ tie has. has;
    adds = λ tie has. inl has;
  }

  -- one savepoint more, whether its store was done or failed
  pub keeper_stores : {s high : ℕ} {save_was save_mid save_now snaps_was snaps : D}
      {ties_was ties_mid ties_now : List Tie} {P : List ℕ → Type 0} (end : Option ℕ)
      → KeeperRan clock image_at story from low s high save_was save_mid snaps_was snaps ties_was ties_mid
      → SaveTold clock image_at story.point from.save low (high + 1) save_now ties_now
      → Runs clock image_at save_mid save_now P
      → AllBegin (image_at snaps (clock snaps)) (story.pages (high + 1))
      → ties_now ≡ ties_mid ++ record { sequence = high + 1; snaps = clock snaps; ended = end } ∷ []
      → KeeperRan clock image_at story from low s (high + 1) save_was save_now snaps_was snaps ties_was ties_now
  keeper_stores {s = s} {high = high} {ties_mid = ties_mid} end ran save runs pages ties = record {
    more = omega (arith, ran.more);
    save_told = save;
    snaps_told = snaps_tied end ran.snaps_told pages ties;
    save_lasts = lasts_then ran.save_lasts (lasts_runs runs);
    snaps_lasts = ran.snaps_lasts;
    keeps = λ tie has. subst (λ l. Contains l tie) (sym ties)
        (Contains-append_left ties_mid _ tie (ran.keeps tie has));
    adds = λ tie has. elim (Contains-push_cases ties_mid _ tie (subst (λ l. Contains l tie) ties has)) [
      | inl older ↦ ran.adds tie older
      | inr is ↦ inr (omega (arith, ap (λ (x : Tie). x.sequence) is, ran.more))
    ];
  }
