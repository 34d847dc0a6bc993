-- What two mappers leave of their halves is said of all closed log files.
use Rattle.std.proofs.Common.{◌≡◌, ◌++◌, Some, subst, sym}
use Rattle.std.specs.Prelude.{slice_get}
use Rattle.std.proofs.lemmas.Result.{IfErr-weaker, IfOk-weaker, on_ok_weaker}
use Rattle.gleaner.specs.Glean.{AreMappedFiles}
use Rattle.gleaner.specs.Halves.{RefusesFiles}
use Rattle.gleaner.proofs.HalfLaws.{both_mapped, both_quiet, both_read, both_refuse}
use Rattle.gleaner.proofs.halves.run_of_closed.Goals as goal

pub returns-clause-mapped : goal.returns-clause-mapped
returns-clause-mapped g c = IfOk-weaker c.run_of_halves.result _ _ (λ run m. (
  m.0 ++ m.1,
  subst (λ files. AreMappedFiles g.D.Disk.tells c.args.closed.now c.args.decls.now c.args.after 8 files (m.0 ++ m.1))
      (sym c.split_at_mut-front.ensures.value)
      (both_mapped g.D.Disk.tells c.args.closed.now c.args.decls.now c.args.after 4 _ _ m.0 m.1 c.split_at_mut-front.ensures.front_len m.2 m.3),
  m.4,
)) c.run_of_halves.ensures.mapped

pub returns-clause-refused : goal.returns-clause-refused
returns-clause-refused g c = IfErr-weaker c.run_of_halves.result _ _ (λ refusal r.
    subst (λ files. RefusesFiles g.D.Disk.tells g.D.Disk.faults c.args.closed.now c.args.decls.now c.args.after files
    (c.run_of_halves.new.front ++ c.run_of_halves.new.back) refusal.fault refusal.beside) (sym c.split_at_mut-front.ensures.value)
    (both_refuse g.D.Disk.tells g.D.Disk.clock g.D.Disk.image_at g.D.Disk.faults c.args.closed.now c.args.decls.now c.args.after _ _ _ _
    refusal.fault refusal.beside c.split_at_mut-front.ensures.front_len r)) c.run_of_halves.ensures.refused

pub returns-clause-quiet : goal.returns-clause-quiet
returns-clause-quiet g c = on_ok_weaker c.run_of_halves.result (λ fine worker was is at there.
    both_quiet g.D.Disk.tells g.D.Disk.clock g.D.Disk.image_at g.D.Disk.faults c.args.closed.now c.args.decls.now c.args.after _ _ _ _
    c.split_at_mut-front.ensures.front_len fine.0 fine.1 worker was is
    (subst (λ files. slice_get files worker ≡ Some was) c.split_at_mut-front.ensures.value at) there) c.run_of_halves.ensures.fine

pub returns-clause-reads : goal.returns-clause-reads
returns-clause-reads g c worker was is at there =
    let r = c.run_of_halves.ensures.reads in
    both_read g.D.Disk.tells g.D.Disk.clock g.D.Disk.image_at g.D.Disk.faults c.args.closed.now c.args.decls.now c.args.after _ _ _ _
    r.0 r.1 c.split_at_mut-front.ensures.front_len r.2 r.3 worker was is
    (subst (λ files. slice_get files worker ≡ Some was) c.split_at_mut-front.ensures.value at) there
