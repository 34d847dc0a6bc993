-- What gleaner says of these log files.
use Rattle.std.proofs.Common.{◌≡◌, ◌∙◌, ap, arith, length, subst, sym}
use Rattle.round_engine.specs.Gleans.{GleansFiles}
use Rattle.round_engine.proofs.GleanCall.{files_back}
use Rattle.round_engine.proofs.GleanLine.{bytes_sized}
use Rattle.round_engine.proofs.gleans.glean_files.Goals as goal

pub returns : goal.returns
returns g c =
    let e = c.glean-gleaned.ensures in
    let was = c.deref_mut.ensures.value in
    let size : length c.glean-gleaned.new.files ≡ length c.args.files.now.items = e.files.many ∙ ap length was in
    let back = files_back c.args.files.now.len c.glean-gleaned.new.files c.args.files.now.items size c.args.files.now.ok.0 in
    record {
      gleans = subst (λ l. GleansFiles g.D.Disk.tells g.D.Disk.clock g.D.Disk.image_at g.D.Disk.faults c.args.decls.now
          c.args.newest c.args.closed.now c.args.room c.args.store.now c.glean-gleaned.new.store c.args.snaps.now
          c.glean-gleaned.new.snaps c.args.files.now.items l c.glean-gleaned.result.answer c.glean-gleaned.result.beside) (sym back)
          (subst (λ l. GleansFiles g.D.Disk.tells g.D.Disk.clock g.D.Disk.image_at g.D.Disk.faults c.args.decls.now
          c.args.newest c.args.closed.now c.args.room c.args.store.now c.glean-gleaned.new.store c.args.snaps.now
          c.glean-gleaned.new.snaps l c.glean-gleaned.new.files c.glean-gleaned.result.answer c.glean-gleaned.result.beside) was
          (record {
            none = λ none. let same = e.untouched none in (e.none.1 none, same.0, same.1, same.2);
            some = λ some is. let none = e.none.0 is in absurd (let no = sym some ∙ none in cc);
            gleaned = e.gleaned;
            durable = e.durable;
            sound = e.pages.sound;
            holds = e.pages.holds;
            damaged = e.refused.damaged;
            device = e.refused.device;
            deep = e.refused.deep;
            limit = e.refused.limit;
            kept = e.pages.kept;
            unsound = e.pages.unsound;
            grows = e.pages.grows;
            front = e.pages.front;
            told = e.pages.told;
            also = e.refused.also;
            quiet_snaps = e.pages.quiet;
            quiet_files = e.files.quiet;
            reads = e.files.reads;
            many = e.files.many;
            sized = omega (arith, bytes_sized c.args.store.now.pages c.pages_fit.ensures.whole);
            whole = c.pages_fit-2.ensures.whole;
            fit = c.pages_fit-2.ensures.fit;
          }));
    }
