-- The workers' lines and those of the maintenance thread ran beside each other, on the parts of a runtime.
use Rattle.std.proofs.Common.{ap, refl, rules, sym}
use Rattle.round_engine.proofs.LentParts.{lent_told}
use Rattle.round_engine.proofs.rounds.run_apart.Goals as goal

pub run_lines-ran-requires-clause-beside : goal.run_lines-ran-requires-clause-beside
run_lines-ran-requires-clause-beside g c κs within v may = (
  c.requires.beside v may _
      (record { saves = refl; stores = refl; counts = refl; most = refl; grows = refl; shut_at = refl }) _
      c.none.ensures.refusal c.none.ensures.limited c.none.ensures.calls,
  λ handle memory disks grows pages storages last counted most can.
      ((search rules, search rules, can), (search rules, search rules)),
  λ handle memory disks grows pages storages last counted most answer disks_after pages_after done. done.3,
)

pub returns-clause-runs : goal.returns-clause-runs
returns-clause-runs g c =
    let told = c.run_lines-ran.ensures.runs in
    let did = told.beside.did_so in
    let still = did.0.runs.runs.leaves in
    lent_told _ told (λ v w d. d.0)
    (record { saves = refl; stores = refl; counts = refl; most = refl; grows = refl; shut_at = refl })
    (record {
      saves = sym (c.save-1.given.1 (sym did.1.save));
      stores = sym (c.store-1.given.1 (sym did.1.store));
      counts = sym (c.counted-1.given.1 (sym did.1.counted));
      most = still.room;
      grows = still.side;
      shut_at = still.closed_at;
    })
    (sym (c.vault-1.given.1 (sym did.2)))
    (ap (λ a. a.items) (sym (c.answers-1.given.1 (sym did.3))))
