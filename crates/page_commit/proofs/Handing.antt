-- Results of a read or of a page that was brought up, as they are handed on.
use Rattle.std.proofs.Common.{◌≡◌, ℕ, false, Some}
use Rattle.std.specs.Prelude.{Result, Ok, Err, IfOk}
use Rattle.serial_model.specs.declared.key.Key.{Key}
use Rattle.serial_model.specs.declared.op.Op.TheVariants as ops
use Rattle.serial_model.specs.declared.reply.Reply.TheVariants as replies
use Rattle.tx_sets.specs.declared.sets.Sets.{Sets}
use Rattle.tx_sets.specs.Entries.{has_write}
use Rattle.engine_pages.specs.declared.view.RefusalCause.{RefusalCause}
use Rattle.engine_pages.specs.declared.view.View.{View}
use Rattle.array_pages.specs.Spans.{IsArrayKey}
use Rattle.page_commit.specs.Keeping.{HasValue}
use Rattle.page_commit.specs.Live.{IsLive}
use Rattle.page_commit.specs.Turning.{HasDone, IsValueRead}
use Rattle.page_commit.proofs.TurnLaws.{read_answer, value_read}

pub read_for : (r : Result ℕ RefusalCause) (sets new : Sets) (v w : View) (k : Key) → IsLive sets v
    → IsArrayKey v.layout.decls k → has_write k sets.writes ≡ false → IfOk r (λ n. HasValue k n sets new v w)
    → IfOk r (λ n. HasDone (ops.Read k) (Some (replies.Value n)) sets new v w)
read_for (Ok n) sets new v w k live fits none h = value_read sets new v w k n live fits none h
read_for (Err why) sets new v w k live fits none h = tt

pub answer_for : (r : Result ℕ RefusalCause) (sets new : Sets) (v w : View) (k : Key) → has_write k sets.writes ≡ false
    → IfOk r (λ n. HasValue k n sets new v w) → IfOk r (λ n. IsValueRead k n sets v w)
answer_for (Ok n) sets new v w k none h = read_answer k n sets new v w none h
answer_for (Err why) sets new v w k none h = tt
