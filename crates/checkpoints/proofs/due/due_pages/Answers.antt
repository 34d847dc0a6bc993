use Rattle.std.proofs.Common.{◌≡◌, ◌∙◌, arith}
use Rattle.root_composer.specs.declared.fault.ComposeFault.TheVariants.{Deep, Limit}
use Rattle.checkpoints.proofs.DueLemmas.{can_compose, own_keys, pages_counted}
use Rattle.checkpoints.proofs.Exits.{memory_is_no_fault, not_err}
use Rattle.checkpoints.proofs.due.due_pages.Goals as goal

pub compose-requires-clause-can : goal.compose-requires-clause-can
compose-requires-clause-can c =
    let r = c.args.recovered.now in
    let p = c.args.saved.now in
    let is = c.in_ok-lasts.ensures (own_keys r p c.requires.up c.requires.says) in
    let can = can_compose r p c.in_ok-lasts.lasts c.requires.up c.requires.says c.requires.due is in
    (can.0, can.2)

pub returns-in-Ok-clause-composed : goal.returns-in-Ok-clause-composed
returns-in-Ok-clause-composed c =
    let r = c.args.recovered.now in
    let p = c.args.saved.now in
    let is = c.in_ok-lasts.ensures (own_keys r p c.requires.up c.requires.says) in
    let can = can_compose r p c.in_ok-lasts.lasts c.requires.up c.requires.says c.requires.due is in
    record {
      run = c.in_ok-lasts.lasts;
      contents = can.0;
      due = can.1;
      can = can.2;
      composed = c.in-Ok.ensures.composed can.0 can.2;
    }

pub returns-in-Ok-clause-within : goal.returns-in-Ok-clause-within
returns-in-Ok-clause-within c =
    let r = c.args.recovered.now in
    let p = c.args.saved.now in
    let is = c.in_ok-lasts.ensures (own_keys r p c.requires.up c.requires.says) in
    let can = can_compose r p c.in_ok-lasts.lasts c.requires.up c.requires.says c.requires.due is in
    let counted = c.in-Ok.ensures.counted can.0 can.2 in
    record {
      run = c.in_ok-lasts.lasts;
      contents = can.0;
      due = can.1;
      levels = counted.1;
      pages = omega (arith, counted.0, c.in-Ok.ensures.within, pages_counted r p c.requires.up c.requires.says);
    }

pub returns-in-Ok-clause-some : goal.returns-in-Ok-clause-some
returns-in-Ok-clause-some c =
    let r = c.args.recovered.now in
    let p = c.args.saved.now in
    let is = c.in_ok-lasts.ensures (own_keys r p c.requires.up c.requires.says) in
    let can = can_compose r p c.in_ok-lasts.lasts c.requires.up c.requires.says c.requires.due is in
    let counted = c.in-Ok.ensures.counted can.0 can.2 in
    omega (arith, counted.0)

pub returns-clause-deep : goal.returns-clause-deep
returns-clause-deep c same =
    let r = c.args.recovered.now in
    let p = c.args.saved.now in
    let is = c.in_ok-lasts.ensures (own_keys r p c.requires.up c.requires.says) in
    let can = can_compose r p c.in_ok-lasts.lasts c.requires.up c.requires.says c.requires.due is in
    let fault : c.in-Err-Fault.fault ≡ Deep = c.fault_of.ensures.deep (cc same) in
    let deep = c.compose.ensures.deep (cc fault) can.0 can.2 in
    record { run = c.in_ok-lasts.lasts; contents = can.0; due = can.1; made = deep.0; deep = deep.1 }

pub returns-clause-limit : goal.returns-clause-limit
returns-clause-limit c have new room same =
    let r = c.args.recovered.now in
    let p = c.args.saved.now in
    let is = c.in_ok-lasts.ensures (own_keys r p c.requires.up c.requires.says) in
    let can = can_compose r p c.in_ok-lasts.lasts c.requires.up c.requires.says c.requires.due is in
    let fault : c.in-Err-Fault.fault ≡ Limit have new room = c.fault_of.ensures.limit have new room (cc same) in
    let limit = c.compose.ensures.limit have new room (cc fault) in
    let counted = pages_counted r p c.requires.up c.requires.says in (
      limit.0 ∙ counted,
      limit.1,
      record {
        run = c.in_ok-lasts.lasts;
        contents = can.0;
        due = can.1;
        would = limit.3 can.0 can.2;
        more = omega (arith, limit.0, limit.2, counted);
      },
    )

-- ---- nothing is promised of what was refused

pub returns-in-Err-Memory-clause-composed : goal.returns-in-Err-Memory-clause-composed
returns-in-Err-Memory-clause-composed c = tt

pub returns-in-Err-Memory-clause-few : goal.returns-in-Err-Memory-clause-few
returns-in-Err-Memory-clause-few c = tt

pub returns-in-Err-Memory-clause-numbered : goal.returns-in-Err-Memory-clause-numbered
returns-in-Err-Memory-clause-numbered c = tt

pub returns-in-Err-Memory-clause-some : goal.returns-in-Err-Memory-clause-some
returns-in-Err-Memory-clause-some c = tt

pub returns-in-Err-Memory-clause-within : goal.returns-in-Err-Memory-clause-within
returns-in-Err-Memory-clause-within c = tt

pub returns-clause-composed : goal.returns-clause-composed
returns-clause-composed c = tt

pub returns-clause-few : goal.returns-clause-few
returns-clause-few c = tt

pub returns-clause-numbered : goal.returns-clause-numbered
returns-clause-numbered c = tt

pub returns-clause-some : goal.returns-clause-some
returns-clause-some c = tt

pub returns-clause-within : goal.returns-clause-within
returns-clause-within c = tt

pub returns-in-Err-Memory-clause-deep : goal.returns-in-Err-Memory-clause-deep
returns-in-Err-Memory-clause-deep c is = absurd (memory_is_no_fault _ is)

pub returns-in-Err-Memory-clause-limit : goal.returns-in-Err-Memory-clause-limit
returns-in-Err-Memory-clause-limit c have new room is = absurd (memory_is_no_fault _ is)

pub returns-in-Ok-clause-deep : goal.returns-in-Ok-clause-deep
returns-in-Ok-clause-deep c is = absurd (not_err _ _ is)

pub returns-in-Ok-clause-limit : goal.returns-in-Ok-clause-limit
returns-in-Ok-clause-limit c have new room is = absurd (not_err _ _ is)

pub returns-in-Ok-clause-refusal : goal.returns-in-Ok-clause-refusal
returns-in-Ok-clause-refusal c fault is = absurd (not_err _ _ is)
