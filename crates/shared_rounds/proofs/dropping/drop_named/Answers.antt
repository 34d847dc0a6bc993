-- The call goes over the roots that the newest snapshot's catalogue has.
use Rattle.std.proofs.Common.{◌∙◌, sym, ap, ℕ, ◌+◌, ◌*◌, ◌%◌, ◌^◌, List, get_or, length, take, arith}
use Rattle.serial_model.specs.declared.decl.Decl.{Decl}
use Rattle.snapshot_store.specs.Content.{words_of}
use Rattle.snapshot_store.specs.Places.{page}
use Rattle.engine_pages.specs.Passes.{view}
use Rattle.engine_pages.specs.declared.layout.Layout.{Layout}
use Rattle.resident_pages.proofs.PagesFilled.{words_many}
use Rattle.shared_rounds.proofs.Drops.{called_so, can_drop, epoch_in_page}
use Rattle.shared_rounds.proofs.dropping.drop_named.Goals as goal

pub drop_all-requires-clause-can : goal.drop_all-requires-clause-can
drop_all-requires-clause-can c =
    let pages : List (List ℕ) = words_of c.args.store.now.pages in
    let many = words_many c.args.store.now.pages in
    let at = c.from.ensures ∙ c.count.ensures.count ∙ sym many in
    can_drop pages (let count = c.count.ensures.count in let few = c.count.ensures.few in omega (arith, many, count, few))
    (view c.args.keeper.now) c.requires.names c.requires.declared (length c.decls.result.now)
    (ap (λ (ds : List Decl). length ds)
    (c.decls.ensures ∙ sym (ap (λ (l : Layout). l.decls) c.requires.of.layout))) c.roots_in-roots.result
    (record {
      long = c.roots_in-roots.ensures.long;
      each = λ i less.
          c.roots_in-roots.ensures.each i less
          ∙ ap (λ (ws : List ℕ). get_or ws (18 + 3 * i) 0 % 2 ^ 32) (c.words-catalogue.ensures.words ∙ ap (page pages) at);
    }) c.requires.keeper c.requires.rests c.requires.free c.requires.pages
    (let room = c.requires.room in omega (arith, many, room))

pub drop_all-requires-clause-past : goal.drop_all-requires-clause-past
drop_all-requires-clause-past c =
    let pages : List (List ℕ) = words_of c.args.store.now.pages in
    let at = c.from.ensures ∙ c.count.ensures.count ∙ sym (words_many c.args.store.now.pages) in
    let is = c.epoch_in.ensures
    ∙ ap (λ (ws : List ℕ). get_or ws 1 0 % 2 ^ 32) (c.words-catalogue.ensures.words ∙ ap (page pages) at)
    ∙ epoch_in_page pages c.requires.names.contents c.requires.names.at in
    let over = c.requires.names.past in
    omega (arith, is, over)

pub returns-clause-drops : goal.returns-clause-drops
returns-clause-drops c =
    let pages : List (List ℕ) = words_of c.args.store.now.pages in
    let many = words_many c.args.store.now.pages in
    let at = c.from.ensures ∙ c.count.ensures.count ∙ sym many in
    let is = c.epoch_in.ensures
    ∙ ap (λ (ws : List ℕ). get_or ws 1 0 % 2 ^ 32) (c.words-catalogue.ensures.words ∙ ap (page pages) at)
    ∙ epoch_in_page pages c.requires.names.contents c.requires.names.at in
    called_so pages
    (let count = c.count.ensures.count in let few = c.count.ensures.few in omega (arith, many, count, few))
    (view c.args.keeper.now) c.requires.names c.requires.declared (length c.decls.result.now)
    (ap (λ (ds : List Decl). length ds)
    (c.decls.ensures ∙ sym (ap (λ (l : Layout). l.decls) c.requires.of.layout))) c.roots_in-roots.result
    (record {
      long = c.roots_in-roots.ensures.long;
      each = λ i less.
          c.roots_in-roots.ensures.each i less
          ∙ ap (λ (ws : List ℕ). get_or ws (18 + 3 * i) 0 % 2 ^ 32) (c.words-catalogue.ensures.words ∙ ap (page pages) at);
    }) c.drop_all.result (view c.drop_all.new.pass) c.epoch_in.result is c.drop_all.ensures.drops
