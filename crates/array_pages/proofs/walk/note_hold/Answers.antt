use Rattle.std.proofs.Common.{ℕ, true≢false, sym}
use Rattle.std.specs.Prelude.{Result, Ok, Err, IsOk, OnOk}
use Rattle.array_pages.proofs.walk.note_hold.Goals as goal

on_ok : (P : Type 0) (r : Result (Unit {0}) ℕ) → IsOk r → OnOk r P → P
on_ok P (Ok x) is p = p
on_ok P (Err e) is p = absurd (true≢false (sym is))

pub returns : goal.returns
returns c = on_ok _ c.push.result (c.push.ensures.exactly.1 c.requires.room) c.push.ensures.added
