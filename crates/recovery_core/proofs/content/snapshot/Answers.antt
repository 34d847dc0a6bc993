use Rattle.std.proofs.Common.{List, sym, subst}
use Rattle.std.specs.List.{Contains}
use Rattle.recovery_core.specs.declared.chain.SnapshotMark.{SnapshotMark}
use Rattle.recovery_core.proofs.OlderSnapshots.{mark_up}
use Rattle.recovery_core.proofs.content.snapshot.Goals as goal

pub returns-in_default-clause-none : goal.returns-in_default-clause-none
returns-in_default-clause-none c number has =
    let mark : SnapshotMark = record { epoch = c.args.epoch; page = number } in
    c.in_default.ensures.none number (subst (λ (l : List SnapshotMark). Contains l mark) (sym c.as_slice.ensures) has)

pub content_at-requires-clause-first : goal.content_at-requires-clause-first
content_at-requires-clause-first c =
    (mark_up c.args.recovered.now (record { epoch = c.args.epoch; page = c.in-Some.page }) c.requires.up
    (subst (λ (l : List SnapshotMark). Contains l (record { epoch = c.args.epoch; page = c.in-Some.page }))
    c.as_slice.ensures c.in-Some.ensures.found)).first

pub content_at-requires-clause-here : goal.content_at-requires-clause-here
content_at-requires-clause-here c =
    let is = mark_up c.args.recovered.now (record { epoch = c.args.epoch; page = c.in-Some.page }) c.requires.up
    (subst (λ (l : List SnapshotMark). Contains l (record { epoch = c.args.epoch; page = c.in-Some.page }))
    c.as_slice.ensures c.in-Some.ensures.found) in
    (is.contents, is.here)

pub returns-in-Ok-clause-found : goal.returns-in-Ok-clause-found
returns-in-Ok-clause-found c =
    let mark : SnapshotMark = record { epoch = c.args.epoch; page = c.in-Some.page } in
    let marked = subst (λ (l : List SnapshotMark). Contains l mark) c.as_slice.ensures c.in-Some.ensures.found in
    let is = mark_up c.args.recovered.now mark c.requires.up marked in
    record {
      number = c.in-Some.page;
      contents = is.contents;
      catalogue = record { marked = marked; here = is.here; epoch_is = is.epoch };
      stands = record { here = is.here; roots = c.in-Ok.ensures.stands is.contents is.here };
      content = c.in-Ok.ensures.content is.contents is.here;
    }

pub returns-in-Err-Fault-clause-damaged : goal.returns-in-Err-Fault-clause-damaged
returns-in-Err-Fault-clause-damaged c device at same =
    let mark : SnapshotMark = record { epoch = c.args.epoch; page = c.in-Some.page } in
    let marked = subst (λ (l : List SnapshotMark). Contains l mark) c.as_slice.ensures c.in-Some.ensures.found in
    let is = mark_up c.args.recovered.now mark c.requires.up marked in (
      cc same,
      record {
        number = c.in-Some.page;
        contents = is.contents;
        catalogue = record { marked = marked; here = is.here; epoch_is = is.epoch };
        first = c.content_at.ensures.breaks at (cc same) is.contents is.here;
      },
    )
