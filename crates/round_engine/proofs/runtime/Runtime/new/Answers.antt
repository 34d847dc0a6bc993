-- A runtime begins with empty logs.
use Rattle.std.proofs.Common.{◌≤◌, ap, arith, length, subst, sym, [], Err, Ok, Result}
use Rattle.std.specs.Prelude.{IfOk}
use Rattle.std.proofs.lemmas.Result.{IfOk-weaker}
use Rattle.serial_model.specs.Decls.{AreDecls}
use Rattle.serial_model.specs.declared.number.Number.{Number}
use Rattle.worker_logs.specs.Saves.{CountsOf}
use Rattle.worker_logs.specs.declared.savepoints.Side.TheVariants.{Even}
use Rattle.round_engine.specs.Logs.{AreClosedFiles, AreLogs}
use Rattle.round_engine.specs.Standing.{IsPublished, RuntimeState, StandsOn}
use Rattle.round_engine.proofs.Beginning.{begun_counts, begun_logs, begun_stands}
use Rattle.round_engine.proofs.runtime.Runtime.new.Goals as goal

-- of an answer two things are so
IfOk-both : {T E : Type 0} (o : Result T E) (P Q R : T → Type 0) → ((x : T) → P x → Q x → R x) → IfOk o P → IfOk o Q → IfOk o R
IfOk-both (Ok x) P Q R f p q = f x p q
IfOk-both (Err e) P Q R f p q = tt

pub begin-requires-clause-within : goal.begin-requires-clause-within
begin-requires-clause-within g c = omega (arith, c.requires.count, c.requires.pages)

pub begin-requires-clause-decls : goal.begin-requires-clause-decls
begin-requires-clause-decls g c =
    let snapshot = c.requires.snapshot in
    subst AreDecls (sym snapshot.1.decls_are)
    (c.catalogue_declares.ensures (length c.args.settled.store.pages) snapshot.0 snapshot.1.stands.here.catalogue)

pub returns-clause-stands : goal.returns-clause-stands
returns-clause-stands g c =
    let snapshot = c.requires.snapshot in
    IfOk-both c.begin.result _ _ _ (λ runtime is published.
    subst (λ (r : RuntimeState). StandsOn g.D.Disk.tells g.D.Disk.clock g.D.Disk.image_at r c.args.vault.now) (sym is)
    (begun_stands c.args.settled.decls c.args.settled.state runtime.stands c.args.settled.save
    c.args.settled.store c.args.config.snap
    c.args.settled.saved c.args.config.first c.args.vault.now c.requires.known
    (ap (λ (n : Number). n.epoch) c.requires.first) c.requires.whole c.requires.up c.requires.stored
    (record {
      sound = c.requires.sound;
      holds = c.requires.holds;
      contents = snapshot.0;
      stands = snapshot.1.stands;
      decls_are = snapshot.1.decls_are;
      up_to = snapshot.1.up_to;
      let_in = omega (arith, c.requires.count, c.requires.pages);
      most = c.requires.config.most_snap;
    }) (subst IsPublished is published) c.requires.empty)) c.begin.ensures.begins c.begin.ensures.published

pub returns-clause-logs : goal.returns-clause-logs
returns-clause-logs g c empty =
    IfOk-weaker c.begin.result _ _ (λ runtime is.
    subst (λ (r : RuntimeState). AreLogs g.D.Disk.tells g.D.Disk.clock g.D.Disk.image_at (λ worker. []) (λ worker. []) r
    c.args.vault.now × AreClosedFiles g.D.Disk.tells g.D.Disk.clock g.D.Disk.image_at (λ worker. []) (λ worker. []) r
    c.args.vault.now) (sym is)
    (begun_logs c.args.settled.decls c.args.settled.state runtime.stands c.args.settled.save
    c.args.settled.store c.args.config.snap c.args.config.first c.args.vault.now empty)) c.begin.ensures.begins

pub returns-clause-counts : goal.returns-clause-counts
returns-clause-counts g c =
    IfOk-weaker c.begin.result _ _ (λ runtime is.
    subst (λ (r : RuntimeState). CountsOf Even (λ worker. []) (λ worker. []) (λ worker. []) (λ worker. []) r.save.newest)
    (sym is) (begun_counts c.args.settled.save.newest c.args.settled.saved c.requires.known c.requires.nothing))
    c.begin.ensures.begins
