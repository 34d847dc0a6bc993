use Rattle.std.proofs.Common.{◌∙◌, inl, inr, subst}
use Rattle.outside.specs.Moments.{runs_then}
use Rattle.log_writer.specs.Stores.{RoseTwice}
use Rattle.log_writer.proofs.Flushes.{on_err}
use Rattle.log_writer.proofs.Stores.{unclosed_now, unfilled_now, unopened_now, on_err_both}
use Rattle.log_writer.proofs.Stores.{is_next, on_ok_both, was_told, same_told, first_within, second_within, third_within, stored_now, closing, filling, opening}
use Rattle.log_writer.proofs.save.Save.write_next.Goals as goal

pub close-requires : goal.close-requires
close-requires g c = λ file told.
    let next = is_next c.place_of-at.ensures.place c.requires.point c.requires.next c.write_savepoint.array_long c.write_savepoint.ensures in
    first_within next file (c.requires.stored file told).names

pub returns-in_err-close-clause-any_moment :
    goal.returns-in_err-close-clause-any_moment
returns-in_err-close-clause-any_moment g c = λ file told.
    let next = is_next c.place_of-at.ensures.place c.requires.point c.requires.next c.write_savepoint.array_long c.write_savepoint.ensures in
    let now = c.requires.stored file told in
    closing next file now.names (c.close.ensures.any_moment file told now.only)

pub write_and_sync-requires : goal.write_and_sync-requires
write_and_sync-requires g c = λ bytes told.
    let next = is_next c.place_of-at.ensures.place c.requires.point c.requires.next c.write_savepoint.array_long c.write_savepoint.ensures in
    let was = was_told _ _ c.close.ensures.told bytes told in
    let is = same_told told (c.in_ok-close.ensures.closed was.0 was.1) in
    second_within next was.0 (c.requires.stored was.0 was.1).names bytes is

pub returns-in_err-write_and_sync-clause-any_moment :
    goal.returns-in_err-write_and_sync-clause-any_moment
returns-in_err-write_and_sync-clause-any_moment g c = λ file told.
    let next = is_next c.place_of-at.ensures.place c.requires.point c.requires.next c.write_savepoint.array_long c.write_savepoint.ensures in
    let now = c.requires.stored file told in
    runs_then
    (closing next file now.names (c.close.ensures.any_moment file told now.only))
    (filling next file now.names (c.in_ok-close.ensures.durable file told) c.write_and_sync.ensures.through.moments)

pub write_or_take_back-requires : goal.write_or_take_back-requires
write_or_take_back-requires g c = λ bytes told.
    let next = is_next c.place_of-at.ensures.place c.requires.point c.requires.next c.write_savepoint.array_long c.write_savepoint.ensures in
    let mid = was_told _ _ c.write_and_sync.ensures.through.told bytes told in
    let was = was_told _ _ c.close.ensures.told mid.0 mid.1 in
    let is = same_told told (c.in_ok-write_and_sync.ensures.written _ (c.in_ok-close.ensures.closed was.0 was.1)) in
    third_within next was.0 (c.requires.stored was.0 was.1).names bytes is

pub returns-clause-any_moment : goal.returns-clause-any_moment
returns-clause-any_moment g c = λ file told.
    let next = is_next c.place_of-at.ensures.place c.requires.point c.requires.next c.write_savepoint.array_long c.write_savepoint.ensures in
    let now = c.requires.stored file told in
    let shut = c.in_ok-close.ensures.closed file told in
    runs_then
    (closing next file now.names (c.close.ensures.any_moment file told now.only))
    (runs_then
    (filling next file now.names (c.in_ok-close.ensures.durable file told) c.write_and_sync.ensures.through.moments)
    (opening next file now.names (c.in_ok-write_and_sync.ensures.durable _ shut) c.write_or_take_back.ensures.moments))

pub returns-clause-stored : goal.returns-clause-stored
returns-clause-stored g c = on_ok_both c.write_or_take_back.result (λ written durable bytes told.
    let next = is_next c.place_of-at.ensures.place c.requires.point c.requires.next c.write_savepoint.array_long c.write_savepoint.ensures in
    let full = was_told _ _ c.write_or_take_back.ensures.told bytes told in
    let mid = was_told _ _ c.write_and_sync.ensures.through.told full.0 full.1 in
    let was = was_told _ _ c.close.ensures.told mid.0 mid.1 in
    let filled = c.in_ok-write_and_sync.ensures.written _ (c.in_ok-close.ensures.closed was.0 was.1) in
    stored_now next was.0 (c.requires.stored was.0 was.1).names bytes (same_told told (written _ filled)) (durable _ filled)) c.write_or_take_back.ensures.written c.write_or_take_back.ensures.durable

pub returns-in_err-close-clause-taken_back : goal.returns-in_err-close-clause-taken_back
returns-in_err-close-clause-taken_back g c = on_err c.from_residual.result (λ file told left is.
    let next = is_next c.place_of-at.ensures.place c.requires.point c.requires.next c.write_savepoint.array_long c.write_savepoint.ensures in
    inl (unclosed_now next file (c.requires.stored file told).names left (c.in_err-close.ensures.torn file told left is)))

pub returns-in_err-write_and_sync-clause-taken_back : goal.returns-in_err-write_and_sync-clause-taken_back
returns-in_err-write_and_sync-clause-taken_back g c = on_err c.from_residual-in_err-write_and_sync.result (λ file told left is.
    let next = is_next c.place_of-at.ensures.place c.requires.point c.requires.next c.write_savepoint.array_long c.write_savepoint.ensures in
    inl (unfilled_now next file (c.requires.stored file told).names left
    (c.in_err-write_and_sync.ensures.torn _ (c.in_ok-close.ensures.closed file told) left is)))

pub returns-clause-taken_back : goal.returns-clause-taken_back
returns-clause-taken_back g c = on_err_both c.write_or_take_back.result (λ torn back file told left is.
    let next = is_next c.place_of-at.ensures.place c.requires.point c.requires.next c.write_savepoint.array_long c.write_savepoint.ensures in
    let filled = c.in_ok-write_and_sync.ensures.written _ (c.in_ok-close.ensures.closed file told) in
    elim (back _ filled left is) [
      | inl again ↦ inl (unopened_now next file (c.requires.stored file told).names left (torn _ filled left is) again)
      | inr twice ↦ inr (subst (λ n. RoseTwice n (g.D.Disk.faults c.write_or_take_back.new.disk))
          (c.in_ok-write_and_sync.ensures.cause.quiet ∙ c.in_ok-close.ensures.cause.quiet) twice)
    ]) c.write_or_take_back.ensures.torn c.write_or_take_back.ensures.taken_back
