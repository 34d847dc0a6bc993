-- The closed side is gleaned.
use Rattle.std.proofs.Common.{ap, arith, List, [], None, subst, sym}
use Rattle.serial_model.specs.declared.decl.Decl.{Decl}
use Rattle.serial_model.specs.declared.number.Number.{Number}
use Rattle.snapshot_store.specs.Content.{words_of}
use Rattle.gleaner.specs.Glean.{CanGlean}
use Rattle.round_engine.specs.Gleans.{GleansFiles}
use Rattle.round_engine.specs.Sides.{closed_in}
use Rattle.round_engine.specs.Standing.{RuntimeState}
use Rattle.round_engine.proofs.GleanCall.{called_over, can_over}
use Rattle.round_engine.proofs.gleans.glean_side.Goals as goal

pub glean_over-requires-clause-can : goal.glean_over-requires-clause-can
glean_over-requires-clause-can g c κs within some =
    let same = c.runtime.view_is in
    let can = can_over g.D.Disk.faults c.args.runtime.now c.args.runtime.now.store c.args.vault.now
    c.args.vault.now c.newest_in-newest.result c.closed-closed.result c.requires.ready
    c.closed-closed.ensures None [] _ same
    (record { page = c.newest_in-newest.ensures.page; epoch = c.newest_in-newest.ensures.epoch })
    (omega (
      arith,
      c.requires.ready.closed.before,
      ap (λ (r : RuntimeState). r.stands.clock.epoch) same,
      ap (λ (n : Number). n.epoch) c.clock.ensures.value,
      c.clock.ensures.number.most_epoch,
    )) some in (
      can.0,
      subst (λ (ds : List Decl). CanGlean (words_of c.runtime.inside.store.pages) ds c.newest_in-newest.result
          c.closed-closed.result can.0) (sym c.decls-decls.ensures) can.1,
    )

pub returns : goal.returns
returns g c =
    let same = c.runtime.view_is in
    record {
      gleans = λ pages are. called_over g.D.Disk.faults c.args.runtime.now c.glean_over.new.store c.args.vault.now c.glean_over.new.vault
          c.newest_in-newest.result c.closed-closed.result c.requires.ready c.closed-closed.ensures
          c.glean_over.result.beside pages _ same c.glean_over.result.answer
          (record { page = c.newest_in-newest.ensures.page; epoch = c.newest_in-newest.ensures.epoch })
          (record {
            call = subst (λ (ds : List Decl). GleansFiles g.D.Disk.tells g.D.Disk.clock g.D.Disk.image_at g.D.Disk.faults ds
                c.newest_in-newest.result c.closed-closed.result c.runtime.inside.room
                c.runtime.inside.store c.glean_over.new.store c.args.vault.now.snaps c.glean_over.new.vault.snaps
                (closed_in c.runtime.inside.side c.args.vault.now)
                (closed_in c.runtime.inside.side c.glean_over.new.vault) c.glean_over.result.answer
                c.glean_over.result.beside)
                c.decls-decls.ensures c.glean_over.ensures.gleans;
            growing = c.glean_over.ensures.growing;
          }) c.glean_over.ensures.save c.glean_over.ensures.ties c.glean_over.ensures.cuts are;
      counted = ap (λ (r : RuntimeState). r.counted) same;
      stands = ap (λ (r : RuntimeState). r.stands) same;
    }
