-- A byte beside the newest savepoint is written again.
use Rattle.std.proofs.Common.{◌≡◌, ◌∙◌, ◌+◌, ◌%◌, Some, is_some, length, ap, subst}
use Rattle.std.proofs.lemmas.Result.{on_ok_weaker}
use Rattle.outside.specs.Disk.{Goes, Torn, written}
use Rattle.log_writer.proofs.Again.{again_names, both_name, looks_name, place_begins, read_one}
use Rattle.log_writer.proofs.TakenBack.{told_again, written_same}
use Rattle.log_writer.proofs.written_again.write_beside.Goals as goal

pub byte_beside-requires-clause-within : goal.byte_beside-requires-clause-within
byte_beside-requires-clause-within g c file told =
    let next = subst (λ n. c.place_of-place.result + (n + 1) % 2 ≡ 1) c.sequence.ensures.newest c.place_of-place.ensures.place in
    place_begins c.place_of-place.result c.args.save.now.newest next file (c.requires.stored file told).names

pub returns-in_err-at-clause-any_moment : goal.returns-in_err-at-clause-any_moment
returns-in_err-at-clause-any_moment g c file told =
    let was = c.requires.stored file told in
    looks_name c.args.save.now.newest file was.names was.only c.byte_beside.ensures.moments

pub returns-in_err-count-clause-any_moment : goal.returns-in_err-count-clause-any_moment
returns-in_err-count-clause-any_moment g c file told =
    let was = c.requires.stored file told in
    both_name c.args.save.now.newest file was.names was.only c.byte_beside.ensures.moments c.read.ensures.goes.moments

pub returns-then-count-eq0-clause-any_moment : goal.returns-then-count-eq0-clause-any_moment
returns-then-count-eq0-clause-any_moment g c file told =
    let was = c.requires.stored file told in
    both_name c.args.save.now.newest file was.names was.only c.byte_beside.ensures.moments c.read.ensures.goes.moments

pub returns-clause-settled : goal.returns-clause-settled
returns-clause-settled g c = c.write_and_sync.ensures.settled

pub returns-clause-told : goal.returns-clause-told
returns-clause-told g c =
    let reads = c.read.ensures.told ∙ c.byte_beside.ensures.told in
    on_ok_weaker c.write_and_sync.result (λ done.
    told_again _ _ (c.write_and_sync.ensures.through.told ∙ ap is_some reads) (λ file told.
    let value = c.in_ok-count.ensures.value file (c.byte_beside.ensures.told ∙ told) in
    let one = read_one c.in_ok-at.at c.in_ok-count.count file c.read.new.buf value.0 c.if-count-eq0.false value.1 in
    done file (reads ∙ told) ∙ ap Some (ap (λ b. written c.in_ok-at.at b file) one.1
    ∙ written_same c.in_ok-at.at file one.0))) c.write_and_sync.ensures.written

pub returns-clause-any_moment : goal.returns-clause-any_moment
returns-clause-any_moment g c file told =
    let was = c.requires.stored file told in
    let next = subst (λ n. c.place_of-place.result + (n + 1) % 2 ≡ 1) c.sequence.ensures.newest c.place_of-place.ensures.place in
    let value = c.in_ok-count.ensures.value file (c.byte_beside.ensures.told ∙ told) in
    let one = read_one c.in_ok-at.at c.in_ok-count.count file c.read.new.buf value.0 c.if-count-eq0.false value.1 in
    again_names c.place_of-place.result c.args.save.now.newest next file was.names c.in_ok-at.at was.only
    (c.in_ok-at.ensures.at file told) c.byte_beside.ensures.moments c.read.ensures.goes.moments
    (subst (λ b. Goes g.D.Disk.clock g.D.Disk.image_at (Torn c.in_ok-at.at (length b)) c.read.new.self
    c.write_and_sync.new.disk) one.1 c.write_and_sync.ensures.through.moments)
