-- The snapshots that devices have, before a call and behind it.
use Rattle.std.specs.Prelude.{◌≡◌, ◌⊎◌, ℕ, [], ◌∷◌}
use Rattle.std.proofs.Common.{inl, inr, refl, sym, subst}
use Rattle.std.specs.List.{AllByRecursion, Contains}
use Rattle.lists.specs.Elements.{in_cases, in_none}
use Rattle.serial_model.specs.State.{State}
use Rattle.wire_form.specs.Pages.{Contents}
use Rattle.snapshot_store.specs.Content.{record_in, IsContent, RootStands}
use Rattle.joint_crashes.specs.Images.{Images}
use Rattle.recovery_core.specs.Recoverable.{IsRecoverable, Reading}
use Rattle.recovery_core.specs.RecoverableLaws.{CountsSame, same_reading}

-- Each snapshot that the devices have now is one that they had, or has the epoch and the state that were kept. Each
-- that they had they have still, with the content that it had, where its pages stood.
pub record KeepsSnapshots (was now : Reading) (epoch : ℕ) (state : State) : Type 0 where
  pub each : (c : Contents) → Contains now.catalogues c → Contains was.catalogues c
      ⊎ ((c.epoch ≡ epoch) × IsContent (record_in now.pages) c.storages state)
  pub stays : (c : Contents) → Contains was.catalogues c → Contains now.catalogues c
  pub content : (c : Contents) (s : State) → Contains was.catalogues c
      → AllByRecursion (RootStands was.pages) c.storages → IsContent (record_in was.pages) c.storages s
      → AllByRecursion (RootStands now.pages) c.storages × IsContent (record_in now.pages) c.storages s

-- The images stand for this epoch and this state, and have the snapshots of what was read, and one more at most, of
-- what was kept.
pub record StandsAsRead (was : Reading) (found : Images) (epoch : ℕ) (state : State) : Type 0 where
  pub is : IsRecoverable found epoch state
  pub keeps : KeepsSnapshots was is.reading epoch state

-- nothing was made
pub same_snapshots : (was now : Reading) (epoch : ℕ) (state : State) → now.pages ≡ was.pages
    → now.catalogues ≡ was.catalogues → KeepsSnapshots was now epoch state
same_snapshots was now epoch state pages catalogues = record {
  each = λ c has. inl (subst (λ cs. Contains cs c) catalogues has);
  stays = λ c has. subst (λ cs. Contains cs c) (sym catalogues) has;
  content = λ c s has stands is. (
    subst (λ ws. AllByRecursion (RootStands ws) c.storages) (sym pages) stands,
    subst (λ ws. IsContent (record_in ws) c.storages s) (sym pages) is,
  );
}

-- there was none, and the first one was made
pub first_snapshot : (was now : Reading) (epoch : ℕ) (state : State) (c : Contents) → was.catalogues ≡ []
    → now.catalogues ≡ c ∷ [] → c.epoch ≡ epoch → IsContent (record_in now.pages) c.storages state
    → KeepsSnapshots was now epoch state
first_snapshot was now epoch state c none one same content = record {
  each = λ d has. elim (in_cases d c [] (subst (λ cs. Contains cs d) one has)) [
    | inl here ↦ inr (subst (λ (x : Contents). (x.epoch ≡ epoch) × IsContent (record_in now.pages) x.storages state)
        here (same, content))
    | inr later ↦ absurd (in_none d later)
  ];
  stays = λ d has. absurd (in_none d (subst (λ cs. Contains cs d) none has));
  content = λ d s has stands is. absurd (in_none d (subst (λ cs. Contains cs d) none has));
}

-- Images that count the same stand for the same, with the same snapshots.
pub stands_same : (found other : Images) (epoch : ℕ) (state : State) → (is : IsRecoverable found epoch state)
    → CountsSame is.reading.point found other → StandsAsRead is.reading other epoch state
stands_same found other epoch state is same = record {
  is = record {
    reading = is.reading;
    is = same_reading found other is.reading same is.is;
    epoch_is = is.epoch_is;
    state_is = is.state_is;
  };
  keeps = same_snapshots is.reading is.reading epoch state refl refl;
}
