use Rattle.std.proofs.Common.{◌∙◌, ◌≤◌, sym, ap, subst, ℕ, List, arith, drop, length}
use Rattle.lists.specs.Fronts.{IsFront}
use Rattle.snapshot_store.specs.Content.{words_of}
use Rattle.engine_rule.specs.Reading.{named_places}
use Rattle.engine_pages.specs.Passes.{view}
use Rattle.engine_pages.specs.declared.layout.Layout.{Layout}
use Rattle.engine_pages.specs.declared.view.View.{View}
use Rattle.resident_pages.proofs.PagesFilled.{words_many}
use Rattle.shared_rounds.proofs.NewPages.{all_pages, can_name, newest_in, pages_same, pages_then}
use Rattle.shared_rounds.proofs.publishing.publish_new.Goals as goal

pub returns-then-known-count-clause-publishes : goal.returns-then-known-count-clause-publishes
returns-then-known-count-clause-publishes c =
    pages_same (words_of c.args.store.now.pages) (view c.args.keeper.now) (view c.count_known-known.new.keeper)
    c.count_known-known.ensures.only c.requires.pages
    (let many = words_many c.args.store.now.pages in
    let known = c.count_known-known.ensures.count in
    let count = c.count.ensures.count in
    let most = c.if-known-count.true in omega (arith, many, known, count, most))

pub publish_pages-requires-clause-keeper : goal.publish_pages-requires-clause-keeper
publish_pages-requires-clause-keeper c =
    ap (λ (v : View). v.role) c.count_known-known.ensures.only ∙ c.requires.keeper

pub publish_pages-requires-clause-known : goal.publish_pages-requires-clause-known
publish_pages-requires-clause-known c =
    c.count_known-known.ensures.count ∙ sym (ap (λ (v : View). length v.pages) c.count_known-known.ensures.only)

pub publish_pages-requires-clause-room : goal.publish_pages-requires-clause-room
publish_pages-requires-clause-room c =
    subst (λ (l : Layout). length c.args.store.now.pages ≤ l.resident)
    (sym (ap (λ (v : View). v.layout) c.count_known-known.ensures.only)) c.requires.room

pub publish_pages-requires-clause-claimed : goal.publish_pages-requires-clause-claimed
publish_pages-requires-clause-claimed c = c.count_known-known.ensures.claimed

pub publish_pages-requires-clause-pages : goal.publish_pages-requires-clause-pages
publish_pages-requires-clause-pages c =
    let v = view c.args.keeper.now in
    let u = view c.count_known-known.new.keeper in
    let same = ap (λ (z : View). z.pages) c.count_known-known.ensures.only in
    all_pages (words_of c.args.store.now.pages) u.pages c.count_known-known.result
    (subst (λ (ps : List (List ℕ)). IsFront ps (words_of c.args.store.now.pages)) (sym same) c.requires.pages)
    (c.count_known-known.ensures.count ∙ ap (λ (ps : List (List ℕ)). length ps) (sym same))

pub publish_pages-requires-clause-names : goal.publish_pages-requires-clause-names
publish_pages-requires-clause-names c =
    let v = view c.args.keeper.now in
    let u = view c.count_known-known.new.keeper in
    let snap = c.requires.snapshot in
    let same = ap (λ (z : View). z.pages) c.count_known-known.ensures.only in
    can_name c.args.store.now.pages snap.0 u c.count_known-known.result snap.1 (words_many c.args.store.now.pages)
    (snap.2 ∙ sym (ap (λ (z : View). z.layout.decls) c.count_known-known.ensures.only))
    (subst (λ (ps : List (List ℕ)). IsFront ps (words_of c.args.store.now.pages)) (sym same) c.requires.pages)
    (c.count_known-known.ensures.count ∙ ap (λ (ps : List (List ℕ)). length ps) (sym same))

pub returns-clause-publishes : goal.returns-clause-publishes
returns-clause-publishes c =
    let v = view c.args.keeper.now in
    let u = view c.count_known-known.new.keeper in
    let same = ap (λ (z : View). z.pages) c.count_known-known.ensures.only in
    pages_then (words_of c.args.store.now.pages)
    (drop c.count_known-known.result (words_of c.args.store.now.pages))
    (named_places (words_of c.args.store.now.pages) (newest_in u.layout.decls (words_of c.args.store.now.pages))) v u
    (view c.publish_pages.new.pass) c.count_known-known.ensures.only
    (all_pages (words_of c.args.store.now.pages) u.pages c.count_known-known.result
    (subst (λ (ps : List (List ℕ)). IsFront ps (words_of c.args.store.now.pages)) (sym same) c.requires.pages)
    (c.count_known-known.ensures.count ∙ ap (λ (ps : List (List ℕ)). length ps) (sym same)))
    c.publish_pages.ensures.publishes
