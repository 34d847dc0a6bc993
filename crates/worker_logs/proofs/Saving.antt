-- What a save by marks leaves.
use Rattle.std.proofs.Common.{◌≡◌, ◌<◌, ◌^◌, ◌++◌, ◌∷◌, ℕ, List, [], Option, Some, None, refl, ap}
use Rattle.std.specs.Prelude.{◌≢◌, Result, Ok, Err, ◌≤◌, ◌+◌}
use Rattle.log_writer.specs.declared.vault.Vault.{Vault}
use Rattle.wire_form.specs.declared.clock.Mark.{Mark}
use Rattle.log_writer.specs.Points.{SaveState, sequence_of}
use Rattle.log_writer.specs.Stores.{Stores}
use Rattle.log_writer.specs.declared.save.SaveFault.{SaveFault}
use Rattle.log_writer.specs.declared.save.SaveFault.TheVariants.{Device, Down, Limit}
use Rattle.log_writer.specs.declared.saved.Saved.{Saved}
use Rattle.worker_logs.specs.Saves.{SavesBy, SavesMarks, tie_after}
use Rattle.worker_logs.specs.declared.savepoints.Beside.{Beside}

-- ---- what a store does, whatever the save answers then

module _ {D : Type 0} {tells : D → Option (List ℕ)} {clock : D → ℕ} {image_at : D → ℕ → List ℕ → Type 0}
    {faults : D → ℕ} {saved : Saved} {old new : SaveState} where
  stores_ok : {T U : Type 0} {before now : D} (value : T) (given : U)
      → (let answer : Result T SaveFault = Ok value in
      Stores tells clock image_at faults saved old new before now answer)
      → let result : Result U SaveFault = Ok given in Stores tells clock image_at faults saved old new before now result
  stores_ok value given stores = record {
    newest = stores.newest;
    stored = stores.stored;
    any_moment = stores.any_moment;
    told = stores.told;
    up = stores.up;
    kept = tt;
    later = stores.later;
    quiet = stores.quiet;
    device = λ is. absurd cc;
    goes_down = λ is. absurd cc;
    taken_back = λ is. absurd cc;
    down = λ count. (λ is. absurd cc, λ is. absurd (let never = (stores.down count).1 is in cc));
    limit = λ sequence. (λ is. absurd cc, λ is. absurd (let never = (stores.limit sequence).1 is in cc));
    untouched = λ other. tt;
  }

  stores_err : {T U : Type 0} {before now : D} (fault : SaveFault)
      → (let answer : Result T SaveFault = Err fault in
      Stores tells clock image_at faults saved old new before now answer)
      → let result : Result U SaveFault = Err fault in
      Stores tells clock image_at faults saved old new before now result
  stores_err fault stores = record {
    newest = tt;
    stored = tt;
    any_moment = stores.any_moment;
    told = stores.told;
    up = tt;
    kept = stores.kept;
    later = stores.later;
    quiet = tt;
    device = λ is. stores.device (let same : fault ≡ Device = cc in ap Err same);
    goes_down = λ is. stores.goes_down (let same : fault ≡ Device = cc in ap Err same);
    taken_back = λ is. stores.taken_back (let same : fault ≡ Device = cc in ap Err same);
    down = λ count. (
      λ is. (stores.down count).0 (let same : fault ≡ Down count = cc in ap Err same),
      λ is. let refused = (stores.down count).1 is in let same : fault ≡ Down count = cc in ap Err same,
    );
    limit = λ sequence. (
      λ is. (stores.limit sequence).0 (let same : fault ≡ Limit sequence = cc in ap Err same),
      λ is. let refused = (stores.limit sequence).1 is in let same : fault ≡ Limit sequence = cc in ap Err same,
    );
    untouched = λ other. stores.untouched (λ is. other (let same : fault ≡ Device = cc in ap Err same));
  }

  module _ {T : Type 0} {epoch : ℕ} {seen : List Mark} {beside : Beside} {before now : Vault D} where
    -- a save that was done
    pub saves_given : (given : T) → SavesBy epoch seen beside saved
        → (let answer : Result T SaveFault = Ok given in
        Stores tells clock image_at faults saved old new before.save now.save answer)
        → now.ties.items ≡ before.ties.items ++ tie_after old.newest (clock before.snaps) (Some (clock now.save)) ∷ []
        → sequence_of old.newest < 2 ^ 63 → before.ties.room ≤ now.ties.room + 1
        → (now.snaps ≡ before.snaps) × (now.even ≡ before.even) × (now.odd ≡ before.odd) × (now.cuts ≡ before.cuts)
        → let result : Result ℕ SaveFault = Ok saved.epoch in
        SavesMarks tells clock image_at faults epoch seen beside old new before now result
    saves_given given by_marks stores tied counted room others = record {
      saved = saved;
      by_marks = by_marks;
      stores = stores_ok given saved.epoch stores;
      told = refl;
      counted = counted;
      tied = tied;
      begun = λ is. absurd cc;
      untied = λ other. tt;
      room = room;
      snaps = others.0;
      even = others.1;
      odd = others.2;
      cuts = others.3;
    }

    -- and one that was refused
    pub saves_refused : (fault : SaveFault) → SavesBy epoch seen beside saved
        → (let answer : Result T SaveFault = Err fault in
        Stores tells clock image_at faults saved old new before.save now.save answer)
        → (fault ≡ Device → now.ties.items
        ≡ before.ties.items ++ tie_after old.newest (clock before.snaps) None ∷ [])
        → (fault ≢ Device → now ≡ before)
        → sequence_of old.newest < 2 ^ 63 → before.ties.room ≤ now.ties.room + 1
        → (now.snaps ≡ before.snaps) × (now.even ≡ before.even) × (now.odd ≡ before.odd) × (now.cuts ≡ before.cuts)
        → let result : Result ℕ SaveFault = Err fault in
        SavesMarks tells clock image_at faults epoch seen beside old new before now result
    saves_refused fault by_marks stores begun untied counted room others = record {
      saved = saved;
      by_marks = by_marks;
      stores = stores_err fault stores;
      told = tt;
      counted = counted;
      tied = tt;
      begun = λ is. begun cc;
      untied = λ other. untied (λ is. other (ap Err is));
      room = room;
      snaps = others.0;
      even = others.1;
      odd = others.2;
      cuts = others.3;
    }
