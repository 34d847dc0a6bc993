use Rattle.std.proofs.Common.{◌+◌, ◌^◌, ◌<◌, length, subst, sym}
use Rattle.std.specs.List.{AllByRecursion}
use Rattle.wire_form.specs.Pages.{Contents}
use Rattle.wire_form.proofs.CatalogueLemmas.{catalogue_written, catalogue_fits}
use Rattle.wire_form.proofs.catalogue.catalogue_words.Goals as goal

pub returns-clause-words : goal.returns-clause-words
returns-clause-words c =
    let storages = c.args.storages.now in
    catalogue_written (0x4341_5400_0000_0000 + length storages) c.from.result c.from-2.result c.args.epoch c.args.previous c.write_stored.new.to storages c.from.ensures c.from-2.ensures c.requires c.write_stored.ensures

pub returns-clause-page : goal.returns-clause-page
returns-clause-page c number first last is =
    let storages = c.args.storages.now in
    let contents : Contents = record { epoch = c.args.epoch; previous = c.args.previous; storages = storages } in
    let words = catalogue_written (0x4341_5400_0000_0000 + length storages) c.from.result c.from-2.result c.args.epoch c.args.previous c.write_stored.new.to storages c.from.ensures c.from-2.ensures c.requires c.write_stored.ensures in
    record {
      first = first;
      last = last;
      fit = subst (AllByRecursion (λ w. w < 2 ^ 64)) (sym words) (catalogue_fits number contents last is);
      content = (contents, is, words);
    }
