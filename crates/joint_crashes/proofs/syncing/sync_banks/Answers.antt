-- One log file after another.
use Rattle.std.proofs.Common.{◌+◌, take, subst, sym}
use Rattle.std.proofs.lemmas.List.{take_all}
use Rattle.std.proofs.lemmas.List.Elements.{Contains-get_or}
use Rattle.log_writer.specs.Cuts.{whole_bank}
use Rattle.joint_crashes.specs.Syncs.{IsBankIn, SyncsEach, is_in_more, syncs_named, syncs_none, syncs_then, none_in}
use Rattle.joint_crashes.specs.VaultReads.{whole_read}
use Rattle.joint_crashes.proofs.syncing.sync_banks.Goals as goal

pub sync_device-synced-requires-clause-whole : goal.sync_device-synced-requires-clause-whole
sync_device-synced-requires-clause-whole g c = whole_read c.loop-number.invariant.reads c.requires.whole

pub sync_device-synced-requires-clause-there : goal.sync_device-synced-requires-clause-there
sync_device-synced-requires-clause-there g c =
    whole_bank (whole_read c.loop-number.invariant.reads c.requires.whole) _
    (c.requires.numbers _ (Contains-get_or c.args.numbers.now c.loop-number.number-index 0 c.loop-number-test.true))

pub loop-number-init : goal.loop-number-init
loop-number-init g c = syncs_named _ none_in (syncs_none c.args.vault.now tt)

pub loop-number-preserved : goal.loop-number-preserved
loop-number-preserved g c =
    let xs = c.args.numbers.now in
    let i = c.loop-number.number-index in
    subst (SyncsEach g.D.Disk.tells g.D.Disk.clock g.D.Disk.image_at g.D.Disk.faults g.D.Disk.settled
    (IsBankIn (take (i + 1) xs)) c.args.vault.now c.sync_device-synced.new.vault) (sym c.earlier-outcome.ensures)
    (syncs_named _ (is_in_more xs i c.loop-number-test.true)
    (syncs_then c.loop-number.outcome c.sync_device-synced.result c.requires.whole c.loop-number.invariant
    c.sync_device-synced.ensures))

pub returns : goal.returns
returns g c =
    subst (λ l. SyncsEach g.D.Disk.tells g.D.Disk.clock g.D.Disk.image_at g.D.Disk.faults g.D.Disk.settled
    (IsBankIn l) c.args.vault.now c.loop-number.vault c.loop-number.outcome)
    (take_all c.loop-number.number-index c.args.numbers.now c.loop-number-test.false) c.loop-number.invariant
