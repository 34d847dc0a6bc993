use Rattle.std.proofs.Common.{◌<◌, ◌∷◌, [], None, get_or, length, sym, subst, take, take_all, arith}
use Rattle.std.proofs.lemmas.List.{take_more}
use Rattle.wire_form.specs.declared.bucket.Entry.{Entry}
use Rattle.recovery_core.specs.EntriesLast.{TakesIn}
use Rattle.recovery_core.proofs.EntriesGreatest.{takes_none, takes_then}
use Rattle.recovery_core.proofs.last_entries.LastEntries.take_in_all.Goals as goal

-- an entry of nothing
abbrev nothing : Entry
nothing = record { key = record { storage = 0; key = 0 }; number = record { epoch = 0; draw = 0 }; value = None }

pub loop-entry-init : goal.loop-entry-init
loop-entry-init c = takes_none c.args.self.now

pub loop-entry-preserved : goal.loop-entry-preserved
loop-entry-preserved c =
    let i = c.loop-entry.entry-index in
    let here : i < length c.args.entries.now = omega arith in
    subst (TakesIn c.args.self.now c.take_in.new.self) (sym (take_more c.args.entries.now i nothing here))
    (takes_then c.args.self.now c.loop-entry.self c.take_in.new.self (take i c.args.entries.now)
    (get_or c.args.entries.now i nothing ∷ []) c.loop-entry.invariant
    c.in_ok-take_in.ensures)

pub returns : goal.returns
returns c =
    subst (TakesIn c.args.self.now c.loop-entry.self)
    (take_all c.loop-entry.entry-index c.args.entries.now c.loop-entry-test.false) c.loop-entry.invariant
