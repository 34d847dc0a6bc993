use Rattle.std.proofs.Common.{◌≡◌, Option, ap, refl, sym, subst, ◌∙◌, inl, inr, length, Err, rules}
use Rattle.std.proofs.lemmas.Result.{err_from_is_err_and}
use Rattle.wire_form.specs.Savepoint.{IsSavepoint}
use Rattle.std.specs.Prelude.{IfSome}
use Rattle.std.specs.Option.{option_map}
use Rattle.log_writer.specs.declared.saved.Saved.{Saved}
use Rattle.log_writer.specs.Points.{IsSaved, saved_of}
use Rattle.outside.specs.Disk.{IfTold}
use Rattle.outside.specs.Moments.{only_same}
use Rattle.log_writer.specs.declared.save.SaveOpen.TheVariants.{Damaged}
use Rattle.log_writer.specs.Save.{Names}
use Rattle.log_writer.proofs.Places.{newer_either, newest_saved}
use Rattle.log_writer.proofs.save.Save.load.Goals as goal

pub returns-in_err-first-clause-damaged : goal.returns-in_err-first-clause-damaged
returns-in_err-first-clause-damaged g c = λ at err file told.
    let size : length file ≡ 1024 = sym (c.in-Ok.ensures.value file told) ∙ c.if-len-ne-SIZE.false in
    let p = err_from_is_err_and c.from_residual.result c.from_residual.ensures.1 in
    let was : c.in_err-first.field-0.0 ≡ Damaged at = let a = p.1 in let b = p.2 in cc in
    let broken = c.in_err-first.ensures.broken at (ap Err was) file (c.len.ensures.told ∙ told) size in
    record { cause = inr (inl (size, broken.0, broken.1)) }

pub returns-in_err-second-clause-damaged : goal.returns-in_err-second-clause-damaged
returns-in_err-second-clause-damaged g c = λ at err file told.
    let size : length file ≡ 1024 = sym (c.in-Ok.ensures.value file told) ∙ c.if-len-ne-SIZE.false in
    let p = err_from_is_err_and c.from_residual-in_err-second.result c.from_residual-in_err-second.ensures.1 in
    let was : c.in_err-second.field-0.0 ≡ Damaged at = let a = p.1 in let b = p.2 in cc in
    let now = c.len.ensures.told ∙ told in
    let broken = c.in_err-second.ensures.broken at (ap Err was) file (c.read_place.ensures.told ∙ now) size in
    let holds = c.in_ok-first.ensures.holds file now size in
    record { cause = inr (inr (size, c.in_ok-first.first, holds, broken.0, broken.1)) }

pub invariant_of-result : goal.invariant_of-result
invariant_of-result g c =
    rw c.newer_of-newest.ensures (newer_either IsSavepoint c.in_ok-first.first c.in_ok-second.second c.in_ok-first.ensures.point c.in_ok-second.ensures.point)

pub returns-clause-found : goal.returns-clause-found
returns-clause-found g c =
    let names : IfTold (g.D.Disk.tells c.args.disk.now) (λ file. Names file c.newer_of-newest.result) = λ file told.
    let size : length file ≡ 1024 = sym (c.in-Ok.ensures.value file told) ∙ c.if-len-ne-SIZE.false in
    let now = c.len.ensures.told ∙ told in
    record {
      size = size;
      first = c.in_ok-first.first;
      second = c.in_ok-second.second;
      in_first = c.in_ok-first.ensures.holds file now size;
      in_second = c.in_ok-second.ensures.holds file (c.read_place.ensures.told ∙ now) size;
      counts = c.newer_of-newest.ensures;
    } in
    let says : c.map-saved.result ≡ option_map saved_of c.newer_of-newest.result = search rules in
    let newest : IfSome c.newer_of-newest.result IsSavepoint = invariant_of-result g c in
    record {
      names = names;
      says = says;
      ranges = subst (λ (o : Option Saved). IfSome o IsSaved) (sym says) (newest_saved c.newer_of-newest.result newest);
      up = refl;
      stored = λ only file told.
          let was = sym (c.read_place-2.ensures.told ∙ c.read_place.ensures.told ∙ c.len.ensures.told) ∙ told in
          record {
            only = only_same c.read_place-2.ensures.moments (only_same c.read_place.ensures.moments (only_same c.len.ensures.goes.moments (only file was)));
            names = names file was;
          };
    }
