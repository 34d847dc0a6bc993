-- The byte was written, or the one that was there is written again.
use Rattle.log_writer.proofs.TakenBack.{still_within, torn_again, there_again}
use Rattle.log_writer.proofs.write_and_sync.write_or_take_back.Goals as goal

pub write-taken_back-requires : goal.write-taken_back-requires
write-taken_back-requires g c =
    still_within c.write_and_sync.ensures.through.told c.requires c.in-Err.ensures.torn

pub returns-in-Err-clause-torn : goal.returns-in-Err-clause-torn
returns-in-Err-clause-torn g c =
    torn_again c.args.was c.write-taken_back.result c.write-taken_back.ensures.told c.in-Err.ensures.torn
    (still_within c.write_and_sync.ensures.through.told c.requires c.in-Err.ensures.torn)
    c.write-taken_back.ensures.written c.write-taken_back.ensures.torn

pub returns-in-Err-clause-taken_back : goal.returns-in-Err-clause-taken_back
returns-in-Err-clause-taken_back g c =
    there_again c.args.was _ _ _ c.write-taken_back.result c.write-taken_back.ensures.told
    (still_within c.write_and_sync.ensures.through.told c.requires c.in-Err.ensures.torn)
    c.write-taken_back.ensures.written c.in-Err.ensures.cause.failed c.write-taken_back.ensures.goes.cause
