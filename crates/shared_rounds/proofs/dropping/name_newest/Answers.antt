-- All pages are known, and named anew.
use Rattle.std.proofs.Common.{◌≡◌, ◌∙◌, sym, ap, subst, ℕ, List, drop, length, arith}
use Rattle.lists.specs.Fronts.{IsFront, front_refl}
use Rattle.snapshot_store.specs.Content.{words_of}
use Rattle.engine_rule.specs.Reading.{named_places}
use Rattle.engine_pages.specs.Passes.{view}
use Rattle.resident_pages.proofs.PagesFilled.{words_many}
use Rattle.shared_rounds.proofs.Drops.{knows_newest, only_named}
use Rattle.shared_rounds.proofs.NewPages.{all_pages, can_name, newest_in}
use Rattle.shared_rounds.proofs.dropping.name_newest.Goals as goal

front_all : (ps words : List (List ℕ)) → ps ≡ words → IsFront ps words
front_all ps words same = subst (λ (l : List (List ℕ)). IsFront l words) (sym same) (front_refl words)

pub publish_pages-requires-clause-known : goal.publish_pages-requires-clause-known
publish_pages-requires-clause-known c =
    c.count.ensures.count
    ∙ sym (ap (λ (ps : List (List ℕ)). length ps) c.requires.pages ∙ words_many c.args.store.now.pages)

pub publish_pages-requires-clause-within : goal.publish_pages-requires-clause-within
publish_pages-requires-clause-within c = let is = c.count.ensures.count in omega (arith, is)

pub publish_pages-requires-clause-pages : goal.publish_pages-requires-clause-pages
publish_pages-requires-clause-pages c =
    all_pages (words_of c.args.store.now.pages) (view c.args.keeper.now).pages c.count.result
    (front_all (view c.args.keeper.now).pages (words_of c.args.store.now.pages) c.requires.pages)
    (publish_pages-requires-clause-known c)

pub publish_pages-requires-clause-names : goal.publish_pages-requires-clause-names
publish_pages-requires-clause-names c =
    let snap = c.requires.snapshot in
    can_name c.args.store.now.pages snap.0 (view c.args.keeper.now) c.count.result snap.1
    (words_many c.args.store.now.pages) snap.2
    (front_all (view c.args.keeper.now).pages (words_of c.args.store.now.pages) c.requires.pages)
    (publish_pages-requires-clause-known c)

pub returns-clause-only : goal.returns-clause-only
returns-clause-only c =
    let v = view c.args.keeper.now in
    only_named (drop c.count.result (words_of c.args.store.now.pages))
    (named_places (words_of c.args.store.now.pages) (newest_in v.layout.decls (words_of c.args.store.now.pages))) v
    (view c.publish_pages.new.pass)
    (all_pages (words_of c.args.store.now.pages) v.pages c.count.result
    (front_all v.pages (words_of c.args.store.now.pages) c.requires.pages)
    (c.count.ensures.count
    ∙ sym (ap (λ (ps : List (List ℕ)). length ps) c.requires.pages ∙ words_many c.args.store.now.pages))
    ∙ sym c.requires.pages) c.publish_pages.ensures.publishes

pub returns-clause-names : goal.returns-clause-names
returns-clause-names c =
    let snap = c.requires.snapshot in
    knows_newest c.args.store.now.pages snap.0 (drop c.count.result (words_of c.args.store.now.pages))
    (view c.args.keeper.now) (view c.publish_pages.new.pass) snap.1 snap.2 snap.3 c.publish_pages.ensures.publishes
