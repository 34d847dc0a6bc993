use Rattle.std.proofs.Common.{◌≡◌, map, refl, ap, ◌∙◌, take_all, rules}
use Rattle.std.specs.Prelude.{List}
use Rattle.wire_form.specs.Pages.{Contents, catalogue_words}
use Rattle.wire_form.specs.declared.records.Stored.{Stored}
use Rattle.checkpoints.specs.SettlePages.{without_root, is_first_catalogue, begins_empty}
use Rattle.checkpoints.proofs.first_page.first_page.Goals as goal

-- a first catalogue with these storages
abbrev with_storages : List Stored → Contents
with_storages l = record { epoch = 0; previous = 0; storages = l }

pub returns-clause-first : goal.returns-clause-first
returns-clause-first c =
    let decls = c.args.decls.now in
    let all : c.loop-decl.storages.items ≡ map without_root decls =
    c.loop-decl.invariant ∙ ap (map without_root) (take_all c.loop-decl.decl-index decls c.loop-decl-test.false) in
    record {
      catalogue = is_first_catalogue decls c.requires.few c.requires.decls c.requires.rising;
      previous = refl;
      first = begins_empty decls;
      words_are = c.catalogue_words-words.ensures.words
          ∙ ap (λ l. catalogue_words (with_storages l)) (c.deref.ensures.value ∙ all);
      count = search rules;
      fit = c.words_fit.ensures;
    }
