use Rattle.std.proofs.Common.{sym, ◌∙◌, rules}
use Rattle.snapshot_store.proofs.Pages.{front_of_read}
use Rattle.snapshot_store.proofs.store.SnapStore.load.Goals as goal

pub returns : goal.returns
returns g c =
    let e = c.in_ok-pages.ensures in
    record {
      bytes = search rules;
      read = e.read;
      sound = search rules;
      holds = λ file told.
          let was = sym e.reads.told ∙ told in
          front_of_read c.args.count c.in_ok-pages.pages.items file e.stored.whole e.read.count_is (e.bytes file was);
      short = λ at is. absurd (cc is);
      limit = search rules;
      device = λ is. absurd (cc is);
      quiet = search rules;
      spared = search rules;
      reads = search rules;
    }
