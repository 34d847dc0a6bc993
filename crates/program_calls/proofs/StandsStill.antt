-- A vault that tells what it told stands for what it stood for, and has the snapshots that it had.
use Rattle.std.proofs.Common.{sym, subst, refl, ℕ, []}
use Rattle.log_writer.specs.Vault.{IsWhole}
use Rattle.serial_model.specs.declared.decl.Decl.{Decl}
use Rattle.std.specs.Prelude.{List}
use Rattle.joint_crashes.specs.JointCrash.{parts_of}
use Rattle.joint_crashes.specs.Resting.{AreTold}
use Rattle.serial_model.specs.History.{Entry}
use Rattle.serial_model.specs.State.{State}
use Rattle.recovery_core.specs.Recoverable.{Reading}
use Rattle.round_engine.specs.Histories.{none_come}
use Rattle.program_calls.specs.Main.{ComeFromWords}
use Rattle.program_calls.specs.RunKept.{HasEachSnapshot, StandsThrough}
use Rattle.program_calls.specs.RanOver.{RunsOverFiles, files_before}
use Rattle.program_calls.specs.Vaults.{IsUntouched, TellsTheSame, Vaults}
use Rattle.program_calls.proofs.KeptEnd.{told_alike, told_reading}
use Rattle.program_calls.proofs.SnapshotsKept.{each_between, keeps_all}

module _ {D : Type 0} (v : Vaults D) where
  -- one that was let alone tells what it told
  pub untouched_tells : IsUntouched v → TellsTheSame v
  untouched_tells same = λ found told. subst (λ vault. AreTold v.tells (parts_of vault) found) (sym same) told

  -- what it stands for, after no commit
  pub stands_still : (decls : List Decl) → IsWhole v.is → TellsTheSame v → StandsThrough v decls [] []
  stands_still decls whole same = λ found now epoch state told told_now is. told_alike whole (same found told) told_now is

  pub untouched_stands : (decls : List Decl) → IsWhole v.was → IsUntouched v → StandsThrough v decls [] []
  untouched_stands decls whole same =
      stands_still decls (subst (λ vault. IsWhole vault) (sym same) whole) (untouched_tells same)

  -- the snapshots that it has, whatever was run
  pub still_snapshots : (decls : List Decl) (commits : List Entry) → IsWhole v.is → TellsTheSame v
      → HasEachSnapshot v decls commits
  still_snapshots decls commits whole same found now epoch state reading told told_now before reads =
      let was : Reading = before.reading in
      each_between decls commits found now was was epoch state before.is
      (told_reading whole (same found told) told_now before.is) (keeps_all was epoch state) before.epoch_is
      before.state_is epoch state reading before reads

  pub untouched_snapshots : (decls : List Decl) (commits : List Entry) → IsWhole v.was → IsUntouched v
      → HasEachSnapshot v decls commits
  untouched_snapshots decls commits whole same =
      still_snapshots decls commits (subst (λ vault. IsWhole vault) (sym same) whole) (untouched_tells same)

-- no round was over any files
pub none_over : {D : Type 0} {v : Vaults D} {room : ℕ} {decls : List Decl} {s : State} {saved : ℕ} {commits : List Entry}
    → RunsOverFiles v room decls s saved commits []
none_over {saved = saved} = record {
  words = [];
  begins = λ some. absurd (some refl);
  last = files_before saved [];
  rounds = refl;
  pages = λ quiet some. absurd (some refl);
}

-- no commit comes from words to which none came
pub nothing_come : (decls : List Decl) → ComeFromWords decls []
nothing_come decls = (decls, (λ d. ((λ has. has), (λ has. has))), ([], none_come decls))
