-- What is recovered of a vault without a savepoint: epoch 0, and no key.
use Rattle.std.specs.Prelude.{◌≡◌, Option, Some, None, filter}
use Rattle.std.proofs.Common.{refl, sym, ap, ◌∙◌, subst}
use Rattle.std.specs.FinMap.{get}
use Rattle.std.specs.Option.{option_map}
use Rattle.log_writer.specs.Points.{saved_of}
use Rattle.serial_model.specs.declared.key.Key.{Key}
use Rattle.snapshot_store.specs.Content.{record_in, value_at}
use Rattle.wire_form.specs.declared.savepoint.Savepoint.{Savepoint}
use Rattle.recovery_core.specs.declared.recovered.Recovered.{Recovered}
use Rattle.joint_crashes.specs.Images.{Images, epoch_of}
use Rattle.recovery_core.specs.Catalogues.{newest_epoch, newest_storages}
use Rattle.recovery_core.specs.LogEntries.{logged, counts, last_of}
use Rattle.recovery_core.specs.Recoverable.{Reading, ReadsFresh, ReadsBy, IsRecoverable}
use Rattle.recovery_core.specs.Recoverable.{value_over, snapshot_value, value_of_key}
use Rattle.recovery_core.specs.Recovered.{Recovers}

-- where nothing is said of a savepoint there is none
pub none_says : (newest : Option Savepoint) → None ≡ option_map saved_of newest → newest ≡ None
none_says None says = refl
none_says (Some p) says = absurd (cc)

-- a reading of nothing has no value
no_value : (reading : Reading) → ReadsFresh reading → (key : Key) → value_of_key reading key ≡ None
no_value reading fresh key =
    ap (λ lines. value_over (last_of key (filter (counts (newest_epoch reading.catalogues)
    (epoch_of reading.point)) (logged lines)))
    (snapshot_value reading key)) fresh.lines
    ∙ ap (λ catalogues. value_at (record_in reading.pages) (newest_storages catalogues) key) fresh.catalogues

-- epoch 0 and no key
pub record IsFresh (found : Images) (r : Recovered) : Type 0 where
  pub epoch : r.epoch ≡ 0
  pub recoverable : IsRecoverable found 0 r.state
  pub empty : (key : Key) → get r.state key ≡ None

-- so it is recovered where there is no savepoint
pub recovers_fresh : (found : Images) (r : Recovered) → Recovers found r → r.save.newest ≡ None → IsFresh found r
recovers_fresh found r is none =
    let point : is.reading.point ≡ None = sym is.point ∙ none in
    let fresh : ReadsFresh is.reading = subst (λ x. ReadsBy found x is.reading) point is.is.counts in
    record {
      epoch = is.epoch ∙ ap epoch_of point;
      recoverable = record {
        reading = is.reading;
        is = is.is;
        epoch_is = sym
            (ap epoch_of point);
        state_is = is.state;
      };
      empty = λ key. is.state key ∙ no_value is.reading fresh key;
    }
