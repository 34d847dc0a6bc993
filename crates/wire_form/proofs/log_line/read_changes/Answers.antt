use Rattle.std.proofs.Common.{length-append, refl, arith}
use Rattle.std.proofs.lemmas.Bool.{false≢true}
use Rattle.serial_model.specs.declared.number.Change.{Change}
use Rattle.serial_model.specs.Keys.{IsKeyBelow}
use Rattle.wire_form.specs.LogLine.{IsChange, change_bytes, key_of}
use Rattle.wire_form.proofs.ItemLemmas.{rejoined, Takes-more, no_item, falls, all_read}
use Rattle.wire_form.proofs.LineLemmas.{as_long}
use Rattle.wire_form.proofs.log_line.read_changes.Goals as goal

pub returns-in_err-change-clause-none : goal.returns-in_err-change-clause-none
returns-in_err-change-clause-none c =
    let front = c.split_at.result.0.now in
    let after = c.split_at.result.1.now in
    let whole = rejoined 24 c.loop.rest.now front after c.split_at.ensures.front c.split_at.ensures.back in
    rw c.from_residual.ensures (no_item IsChange change_bytes key_of IsKeyBelow front after (omega arith) (as_long front (omega arith)) _ c.loop.changes c.loop.last _ whole c.loop.invariant.taken c.in_err-change.ensures.1)

pub returns-then-not-goes_on-clause-none : goal.returns-then-not-goes_on-clause-none
returns-then-not-goes_on-clause-none c =
    let front = c.split_at.result.0.now in
    let after = c.split_at.result.1.now in
    let whole = rejoined 24 c.loop.rest.now front after c.split_at.ensures.front c.split_at.ensures.back in
    falls IsChange change_bytes key_of IsKeyBelow front after (omega arith) (as_long front (omega arith)) _ c.loop.changes c.loop.last _ _ whole c.loop.invariant.taken c.in_ok-change.ensures.0
    (λ above. absurd (false≢true (c.if-not-goes_on.ensures.1 above)))

pub loop-preserved : goal.loop-preserved
loop-preserved c =
    let front = c.split_at.result.0.now in
    let after = c.split_at.result.1.now in
    let whole = rejoined 24 c.loop.rest.now front after c.split_at.ensures.front c.split_at.ensures.back in
    record {
      taken = rw c.push.ensures (Takes-more IsChange change_bytes key_of IsKeyBelow front after (omega arith) (as_long front (omega arith)) _ c.loop.changes c.loop.last _ _ whole c.loop.invariant.taken c.in_ok-change.ensures.0 (c.if-not-goes_on.ensures.0 refl));
      left = omega arith;
      so_many = rw c.push.ensures (omega (arith, length-append {A = Change}));
    }

pub returns-clause-found : goal.returns-clause-found
returns-clause-found c = all_read IsChange change_bytes key_of IsKeyBelow _ _ c.loop.last c.loop.rest.now (omega arith) c.loop.invariant.taken
