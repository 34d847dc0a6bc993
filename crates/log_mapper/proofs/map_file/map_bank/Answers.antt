use Rattle.std.proofs.Common.{◌≡◌, inr, ap, refl, subst, sym, ◌∙◌, arith, rules}
use Rattle.std.proofs.lemmas.Result.{err_from_is_err_and}
use Rattle.std.specs.Prelude.{Err}
use Rattle.lists.specs.declared.memory.OrMemory.{OrMemory}
use Rattle.log_mapper.specs.declared.map_file.MapFault.TheVariants.{Damaged}
use Rattle.log_mapper.specs.SoFar.{IsMappedTo}
use Rattle.log_mapper.proofs.LineSteps.{all_mapped, none_mapped}
use Rattle.log_mapper.proofs.WindowLemmas.{none_so_far, whole_mapped}
use Rattle.log_mapper.proofs.map_file.map_bank.Goals as goal

pub loop-so_far-init : goal.loop-so_far-init
loop-so_far-init g c = record {
  within = omega arith;
  mapped = none_so_far _ c.args.bank c.args.decls.now c.args.from c.args.to c.args.length _ (none_mapped c.args.bank c.args.decls.now c.args.from c.args.to _ refl refl c.in_ok-new_buckets.ensures)
      (λ file told. omega (arith, c.in-Ok.ensures.value file told, c.if-size-length.false));
  quiet = search rules;
  reads = search rules;
}

pub returns-clause-mapped : goal.returns-clause-mapped
returns-clause-mapped g c = rw c.from_vec.ensures (whole_mapped _ c.args.bank c.args.decls.now c.args.from c.args.to c.args.length c.loop-so_far.so_far c.loop-so_far.invariant.mapped
    (omega (arith, c.loop-so_far.invariant.within, c.loop-so_far-test.false)))

pub returns-clause-lines : goal.returns-clause-lines
returns-clause-lines g c =
    let so_far = c.loop-so_far.invariant.mapped in
    rw c.from_vec.ensures (so_far.done, all_mapped c.args.bank c.args.decls.now c.args.from c.args.to so_far.done c.loop-so_far.so_far so_far.lines)

pub returns-in_err-map_more-clause-damaged : goal.returns-in_err-map_more-clause-damaged
returns-in_err-map_more-clause-damaged g c at is file told =
    let p = err_from_is_err_and c.from_residual-in_err-map_more.result c.from_residual-in_err-map_more.ensures.1 in
    let was : c.in_err-map_more.field-0.0 ≡ OrMemory.Fault (Damaged at) = cc (is, p.1, p.2) in
    let so_far = subst (λ o. IsMappedTo o c.args.bank c.args.decls.now c.args.from c.args.to c.args.length c.loop-so_far.so_far)
    (sym c.loop-so_far.invariant.reads.told) c.loop-so_far.invariant.mapped in
    inr (
      omega (arith, c.in-Ok.ensures.value file told, c.if-size-length.false),
      c.in_err-map_more.ensures.damaged at (ap Err was) c.args.bank so_far file (c.loop-so_far.invariant.reads.told ∙ told),
    )
