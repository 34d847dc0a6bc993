use Rattle.std.proofs.Common.{◌≡◌, ◌<◌, ℕ, ◌+◌, ◌^◌, List, ◌∷◌, ◌++◌, [], length, sym, ap, subst, ◌∙◌, arith}
use Rattle.std.specs.List.{AllByRecursion}
use Rattle.std.proofs.lemmas.Result.{err_from_is_err_and}
use Rattle.lists.specs.declared.memory.OrMemory.TheVariants.{Fault}
use Rattle.root_composer.specs.declared.fault.ComposeFault.TheVariants.{Deep}
use Rattle.serial_model.specs.Numbers.{IsNumber}
use Rattle.wire_form.specs.declared.bucket.Entry.{Entry}
use Rattle.wire_form.specs.declared.records.Stored.{Stored}
use Rattle.wire_form.specs.Pages.{decls_of, catalogue_words}
use Rattle.snapshot_store.specs.Content.{words_of}
use Rattle.root_composer.specs.Storages.{IsReady, with_roots}
use Rattle.root_composer.specs.Composition.{IsComposed, next_contents}
use Rattle.root_composer.proofs.RunLemmas.{all_numbers}
use Rattle.root_composer.proofs.Compositions.{snapshot_made, snapshot_deep}
use Rattle.root_composer.proofs.ReadyLemmas.{ready}
use Rattle.root_composer.proofs.StorageSteps.{fault_of_part, same_limit}
use Rattle.root_composer.proofs.ComposeSteps.{catalogue_read, read_and_made, deep_of, roots_fit, small_roots, few_pages, rooted, few_rooted, would_compose, counted}
use Rattle.root_composer.proofs.composing.compose.Goals as goal

pub compose_storages-requires-clause-ready : goal.compose_storages-requires-clause-ready
compose_storages-requires-clause-ready c =
    let contents = c.requires.can.0 in
    let can = c.requires.can.1 in
    let read = catalogue_read c.args.store.now.pages c.args.catalogue contents c.page.result.now can.stands.here c.page.ensures.page in
    let is : c.deref.result.now ≡ contents.storages = c.deref.ensures.value ∙ c.in_ok-storages.ensures contents can.stands.here.catalogue read in
    subst (λ (r : List Entry). AllByRecursion (IsReady r (words_of c.args.store.now.pages)) c.deref.result.now) (sym c.as_slice.ensures)
    (subst (λ (l : List Stored). AllByRecursion (IsReady c.args.run.now (words_of c.args.store.now.pages)) l) (sym is)
    (ready (words_of c.args.store.now.pages) c.args.catalogue contents c.args.run.now c.args.epoch can))

pub compose_storages-requires-clause-numbers : goal.compose_storages-requires-clause-numbers
compose_storages-requires-clause-numbers c =
    let contents = c.requires.can.0 in
    subst (λ (r : List Entry). AllByRecursion (λ e. IsNumber e.number) r) (sym c.as_slice.ensures)
    (all_numbers (decls_of contents) c.args.epoch c.args.run.now c.requires.can.1.entries)

pub returns-then-from-new-clause-limit : goal.returns-then-from-new-clause-limit
returns-then-from-new-clause-limit c have new most e =
    let so = same_limit c.count-have.result (c.len.result + 1) c.args.room have new most e in
    let had : c.count-have.result ≡ have = so.0 in
    let count : c.len.result + 1 ≡ new = so.1 in
    let room : c.args.room ≡ most = so.2 in (
      sym had ∙ c.count-have.ensures.count,
      sym room,
      omega (arith, had, count, c.if-from-new.true, c.from.ensures, c.from-2.ensures),
      λ contents can.
          let at = read_and_made c.args.store.now.pages c.args.catalogue contents c.args.run.now c.as_slice.result.now c.args.epoch c.page.result.now c.in_ok-storages.storages.items c.deref.result.now c.compose_storages.new.made.items c.in_ok-roots.roots.items can c.page.ensures.page c.as_slice.ensures c.deref.ensures.value c.in_ok-storages.ensures c.in_ok-roots.ensures.made in
          would_compose (words_of c.args.store.now.pages) c.args.catalogue contents c.args.run.now c.args.epoch c.compose_storages.new.made.items c.in_ok-roots.roots.items new can at.all (omega (arith, count, c.len.ensures, c.compose_storages.new.made.ok)),
    )

pub with_roots-requires-clause-each : goal.with_roots-requires-clause-each
with_roots-requires-clause-each c =
    let contents = c.requires.can.0 in
    let can = c.requires.can.1 in
    let at = read_and_made c.args.store.now.pages c.args.catalogue contents c.args.run.now c.as_slice.result.now c.args.epoch c.page.result.now c.in_ok-storages.storages.items c.deref.result.now c.compose_storages.new.made.items c.in_ok-roots.roots.items can c.page.ensures.page c.as_slice.ensures c.deref.ensures.value c.in_ok-storages.ensures c.in_ok-roots.ensures.made in
    let fit = roots_fit (words_of c.args.store.now.pages) c.args.catalogue contents c.args.run.now c.args.epoch c.compose_storages.new.made.items c.in_ok-roots.roots.items can at.all in
    subst (λ (l : List ℕ). AllByRecursion (λ n. n < 2 ^ 32) l) (sym c.deref-3.ensures.value)
    (small_roots contents.storages (length (words_of c.args.store.now.pages) + length c.compose_storages.new.made.items) c.in_ok-roots.roots.items (few_pages c.args.store.now.pages c.compose_storages.new.made.items c.count-have.result c.len.result c.args.room c.count-have.ensures.count (omega (arith, c.len.ensures, c.compose_storages.new.made.ok)) (omega (arith, c.if-from-new.false, c.from.ensures, c.from-2.ensures)) c.requires.room) fit)

pub with_roots-requires-clause-count : goal.with_roots-requires-clause-count
with_roots-requires-clause-count c =
    let contents = c.requires.can.0 in
    let can = c.requires.can.1 in
    let at = read_and_made c.args.store.now.pages c.args.catalogue contents c.args.run.now c.as_slice.result.now c.args.epoch c.page.result.now c.in_ok-storages.storages.items c.deref.result.now c.compose_storages.new.made.items c.in_ok-roots.roots.items can c.page.ensures.page c.as_slice.ensures c.deref.ensures.value c.in_ok-storages.ensures c.in_ok-roots.ensures.made in
    let fit = roots_fit (words_of c.args.store.now.pages) c.args.catalogue contents c.args.run.now c.args.epoch c.compose_storages.new.made.items c.in_ok-roots.roots.items can at.all in
    ap length c.deref-3.ensures.value ∙ fit.count ∙ ap length (sym (c.deref-2.ensures.value ∙ sym c.deref.ensures.value ∙ at.same))

pub catalogue_words-requires : goal.catalogue_words-requires
catalogue_words-requires c =
    let contents = c.requires.can.0 in
    let can = c.requires.can.1 in
    let at = read_and_made c.args.store.now.pages c.args.catalogue contents c.args.run.now c.as_slice.result.now c.args.epoch c.page.result.now c.in_ok-storages.storages.items c.deref.result.now c.compose_storages.new.made.items c.in_ok-roots.roots.items can c.page.ensures.page c.as_slice.ensures c.deref.ensures.value c.in_ok-storages.ensures c.in_ok-roots.ensures.made in
    let fit = roots_fit (words_of c.args.store.now.pages) c.args.catalogue contents c.args.run.now c.args.epoch c.compose_storages.new.made.items c.in_ok-roots.roots.items can at.all in
    few_rooted contents.storages c.deref-4.result.now (length (words_of c.args.store.now.pages) + length c.compose_storages.new.made.items) c.in_ok-roots.roots.items fit can.stands.here.catalogue.most
    (c.deref-4.ensures.value ∙ rooted contents.storages c.deref.result.now c.deref-2.result.now c.in_ok-stored.stored.items c.in_ok-roots.roots.items c.deref-3.result.now at.same (c.deref-2.ensures.value ∙ sym c.deref.ensures.value) c.deref-3.ensures.value c.in_ok-stored.ensures)

pub returns-clause-composed : goal.returns-clause-composed
returns-clause-composed c contents can =
    let at = read_and_made c.args.store.now.pages c.args.catalogue contents c.args.run.now c.as_slice.result.now c.args.epoch c.page.result.now c.in_ok-storages.storages.items c.deref.result.now c.compose_storages.new.made.items c.in_ok-roots.roots.items can c.page.ensures.page c.as_slice.ensures c.deref.ensures.value c.in_ok-storages.ensures c.in_ok-roots.ensures.made in
    let stored : c.deref-4.result.now ≡ with_roots contents.storages c.in_ok-roots.roots.items = c.deref-4.ensures.value ∙ rooted contents.storages c.deref.result.now c.deref-2.result.now c.in_ok-stored.stored.items c.in_ok-roots.roots.items c.deref-3.result.now at.same (c.deref-2.ensures.value ∙ sym c.deref.ensures.value) c.deref-3.ensures.value c.in_ok-stored.ensures in
    let words = c.catalogue_words.ensures.words ∙ ap (λ l. catalogue_words (next_contents c.args.epoch c.args.catalogue l)) stored in
    let pages : words_of c.from_vec.result ≡ c.compose_storages.new.made.items ++ c.catalogue_words.result ∷ [] =
    ap words_of c.from_vec.ensures ∙ c.in_ok-pages.ensures.words ∙ c.deref-5.ensures.value ∙ c.in_ok-push.ensures.items in
    subst (λ (l : List (List ℕ)). IsComposed c.args.run.now c.args.epoch c.args.catalogue contents (words_of c.args.store.now.pages) l) (sym pages)
    (snapshot_made (words_of c.args.store.now.pages) c.args.catalogue contents c.args.run.now c.args.epoch c.compose_storages.new.made.items c.in_ok-roots.roots.items c.catalogue_words.result can at.all words)

pub returns-in_err-roots-clause-deep : goal.returns-in_err-roots-clause-deep
returns-in_err-roots-clause-deep c e contents can =
    let p = err_from_is_err_and c.from_residual-in_err-roots.result c.from_residual-in_err-roots.ensures.1 in
    let deep = c.in_err-roots.ensures.deep Deep (fault_of_part _ _ p.0 (Fault Deep) p.1 p.2 e) in
    let all = deep_of c.args.store.now.pages c.args.catalogue contents c.args.run.now c.as_slice.result.now c.args.epoch c.page.result.now c.in_ok-storages.storages.items c.deref.result.now Deep can c.page.ensures.page c.as_slice.ensures c.deref.ensures.value c.in_ok-storages.ensures deep in
    snapshot_deep (words_of c.args.store.now.pages) c.args.catalogue contents c.args.run.now c.args.epoch can all.levels

pub returns-clause-counted : goal.returns-clause-counted
returns-clause-counted c contents can =
    let at = read_and_made c.args.store.now.pages c.args.catalogue contents c.args.run.now c.as_slice.result.now c.args.epoch c.page.result.now c.in_ok-storages.storages.items c.deref.result.now c.compose_storages.new.made.items c.in_ok-roots.roots.items can c.page.ensures.page c.as_slice.ensures c.deref.ensures.value c.in_ok-storages.ensures c.in_ok-roots.ensures.made in
    let pages : words_of c.from_vec.result ≡ c.compose_storages.new.made.items ++ c.catalogue_words.result ∷ [] =
    ap words_of c.from_vec.ensures ∙ c.in_ok-pages.ensures.words ∙ c.deref-5.ensures.value ∙ c.in_ok-push.ensures.items in
    counted (words_of c.args.store.now.pages) contents c.args.run.now c.compose_storages.new.made.items c.in_ok-roots.roots.items c.from_vec.result c.catalogue_words.result at.all pages
