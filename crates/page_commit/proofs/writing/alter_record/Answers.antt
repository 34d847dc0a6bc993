use Rattle.std.proofs.Common.{inl, inr, ℕ, List, length, sym, ap, ◌∙◌, arith}
use Rattle.std.proofs.lemmas.Result.{err_from_is_err_and}
use Rattle.engine_pages.specs.Passes.{view}
use Rattle.page_commit.proofs.BroughtLaws.{brought_fits}
use Rattle.page_commit.proofs.RefuseLaws.{read_refused_since, refused_since}
use Rattle.page_commit.proofs.TurnLaws.{altered_apart, brought_altered, brought_ends}
use Rattle.page_commit.proofs.WriteLaws.{absent_same, room_same}
use Rattle.page_commit.proofs.writing.alter_record.Goals as goal

-- ---- no page could be brought up

pub returns-in_err-at-clause-cause : goal.returns-in_err-at-clause-cause
returns-in_err-at-clause-cause c =
    let p = err_from_is_err_and c.from_residual.result c.from_residual.ensures.1 in
    rw (p.1, p.2) (inl c.in_err-at.ensures.cause)

pub returns-in_err-at-clause-refused : goal.returns-in_err-at-clause-refused
returns-in_err-at-clause-refused c =
    let p = err_from_is_err_and c.from_residual.result c.from_residual.ensures.1 in rw (p.1, p.2) c.in_err-at.ensures.refused

-- ---- its record is read there

pub read_value_at-requires-clause-live : goal.read_value_at-requires-clause-live
read_value_at-requires-clause-live c = c.in_ok-at.ensures.brings.live

pub read_value_at-requires-clause-fits : goal.read_value_at-requires-clause-fits
read_value_at-requires-clause-fits c =
    brought_fits c.args.sets.now c.bring_up.new.sets (view c.args.pass.now) (view c.bring_up.new.pass) c.args.key
    c.in_ok-at.at c.in_ok-at.ensures.brings c.requires.fits

pub read_value_at-requires-clause-unwritten : goal.read_value_at-requires-clause-unwritten
read_value_at-requires-clause-unwritten c = absent_same c.args.key c.in_ok-at.ensures.brings.writes c.requires.unwritten

pub read_value_at-requires-clause-place : goal.read_value_at-requires-clause-place
read_value_at-requires-clause-place c = c.in_ok-at.ensures.brings.place

pub read_value_at-requires-clause-index : goal.read_value_at-requires-clause-index
read_value_at-requires-clause-index c = c.in_ok-at.ensures.brings.index

pub returns-in_err-before-clause-cause : goal.returns-in_err-before-clause-cause
returns-in_err-before-clause-cause c =
    let p = err_from_is_err_and c.from_residual-in_err-before.result c.from_residual-in_err-before.ensures.1 in
    let b = c.in_ok-at.ensures.brings in
    rw (p.1, p.2) (inr (
      c.in_ok-at.ensures.room,
      read_refused_since c.in_err-before.field-0.0 c.args.sets.now c.bring_up.new.sets c.read_value_at.new.sets c.args.key
          (view c.args.pass.now) (view c.bring_up.new.pass) (view c.read_value_at.new.pass) b.only b.touched b.reads b.pointers
          b.writes b.headers
          c.in_err-before.ensures.cause,
    ))

pub returns-in_err-before-clause-refused : goal.returns-in_err-before-clause-refused
returns-in_err-before-clause-refused c =
    let p = err_from_is_err_and c.from_residual-in_err-before.result c.from_residual-in_err-before.ensures.1 in
    rw (p.1, p.2) (refused_since c.in_err-before.field-0.0 (view c.args.pass.now) (view c.bring_up.new.pass)
    (view c.read_value_at.new.pass) c.in_ok-at.ensures.brings.only c.in_err-before.ensures.refused)

-- ---- the value afterwards

pub returns-in_default-clause-turns : goal.returns-in_default-clause-turns
returns-in_default-clause-turns c =
    rw c.ending.ensures (brought_ends c.args.by c.args.sets.now c.bring_up.new.sets c.read_value_at.new.sets
    (view c.args.pass.now) (view c.bring_up.new.pass) (view c.read_value_at.new.pass) c.args.key c.in_ok-at.at
    c.in_ok-before.before c.requires.unwritten c.in_ok-at.ensures.brings c.in_ok-before.ensures.value
    (sym c.after.ensures ∙ c.in_default.is))

pub put_in-requires-clause-room : goal.put_in-requires-clause-room
put_in-requires-clause-room c =
    room_same (c.in_ok-before.ensures.value.writes ∙ c.in_ok-at.ensures.brings.writes) c.in_ok-at.ensures.room

pub put_in-requires-clause-absent : goal.put_in-requires-clause-absent
put_in-requires-clause-absent c =
    absent_same c.args.key (c.in_ok-before.ensures.value.writes ∙ c.in_ok-at.ensures.brings.writes) c.requires.unwritten

pub put_in-requires-clause-apart : goal.put_in-requires-clause-apart
put_in-requires-clause-apart c =
    altered_apart c.args.by c.args.sets.now c.bring_up.new.sets c.read_value_at.new.sets (view c.args.pass.now)
    (view c.bring_up.new.pass) (view c.read_value_at.new.pass) c.args.key c.in_ok-at.at c.in_ok-before.before
    c.requires.unwritten c.in_ok-at.ensures.brings c.in_ok-before.ensures.value

pub returns-clause-turns : goal.returns-clause-turns
returns-clause-turns c =
    brought_altered c.args.by c.args.sets.now c.bring_up.new.sets c.read_value_at.new.sets (view c.args.pass.now)
    (view c.bring_up.new.pass) (view c.read_value_at.new.pass) c.args.key c.in_ok-at.at c.in_ok-before.before
    c.requires.unwritten c.in_ok-at.ensures.brings c.in_ok-before.ensures.value c.put_in.new.sets c.in-Some.value
    (sym c.after.ensures ∙ c.in-Some.is) c.put_in.ensures.keeps c.put_in.ensures.writes

-- ---- steps

pub returns-in_err-at-clause-most : goal.returns-in_err-at-clause-most
returns-in_err-at-clause-most c = let one = c.bring_up.ensures.most in omega (arith, one)

pub returns-in_err-before-clause-most : goal.returns-in_err-before-clause-most
returns-in_err-before-clause-most c =
    let one = c.bring_up.ensures.most in let two = c.read_value_at.ensures.most in omega (arith, one, two)

pub returns-in_default-clause-most : goal.returns-in_default-clause-most
returns-in_default-clause-most c =
    let one = c.bring_up.ensures.most in let two = c.read_value_at.ensures.most in omega (arith, one, two)

pub returns-clause-most : goal.returns-clause-most
returns-clause-most c =
    let one = c.bring_up.ensures.most in let two = c.read_value_at.ensures.most in omega (arith, one, two)

-- ---- slots

pub returns-in_err-at-clause-grows : goal.returns-in_err-at-clause-grows
returns-in_err-at-clause-grows c = let one = c.bring_up.ensures.grows in omega (arith, one)

pub returns-in_err-before-clause-grows : goal.returns-in_err-before-clause-grows
returns-in_err-before-clause-grows c =
    let one = c.bring_up.ensures.grows in let two = c.read_value_at.ensures.grows in omega (arith, one, two)

pub returns-in_default-clause-grows : goal.returns-in_default-clause-grows
returns-in_default-clause-grows c =
    let one = c.bring_up.ensures.grows in let two = c.read_value_at.ensures.grows in omega (arith, one, two)

pub returns-clause-grows : goal.returns-clause-grows
returns-clause-grows c =
    let one = c.bring_up.ensures.grows in
    let two = c.read_value_at.ensures.grows in
    let same = ap (λ (l : List ℕ). length l) c.put_in.ensures.keeps.holds in omega (arith, one, two, same)
