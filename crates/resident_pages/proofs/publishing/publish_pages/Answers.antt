use Rattle.std.proofs.Common.{◌≡◌, ◌++◌, ℕ, List, length, length-append, sym, ap, ◌∙◌, subst, arith}
use Rattle.std.specs.Prelude.{drop}
use Rattle.std.proofs.lemmas.List.{drop_at}
use Rattle.engine_pages.specs.declared.view.View.{View}
use Rattle.engine_pages.specs.Passes.{view}
use Rattle.snapshot_store.specs.Content.{words_of}
use Rattle.resident_pages.specs.Publishes.{AreFilled}
use Rattle.resident_pages.proofs.PagesFilled.{words_many}
use Rattle.resident_pages.proofs.PagesPublished.{can_extend, claimed_behind, claimed_next, published}
use Rattle.resident_pages.proofs.publishing.publish_pages.Goals as goal

-- what stands behind those that the pass knows
behind : (old new all : List (List ℕ)) (known : ℕ) → known ≡ length old → old ++ new ≡ all → drop known all ≡ new
behind old new all known at is = ap (drop known) (sym is) ∙ drop_at old new known (sym at)

are_filled : (old new all : List (List ℕ)) (known : ℕ) (v w : View) → known ≡ length old → old ++ new ≡ all
    → AreFilled (length (drop known all)) (drop known all) v w → AreFilled (length new) new v w
are_filled old new all known v w at is so =
    subst (λ (ps : List (List ℕ)). AreFilled (length ps) ps v w) (behind old new all known at is) so

pub extend-requires-clause-keeper : goal.extend-requires-clause-keeper
extend-requires-clause-keeper g c =
    let v = view c.args.pass.now in
    let u = view c.fill_pages.new.pass in
    ap (λ (z : View). z.role)
    (are_filled v.pages g.J.Publishing.pages (words_of c.args.store.now.pages) c.args.known v u c.requires.known
    c.requires.pages c.fill_pages.ensures.fills).only
    ∙ c.requires.keeper

pub extend-requires-clause-can : goal.extend-requires-clause-can
extend-requires-clause-can g c =
    let v = view c.args.pass.now in
    let u = view c.fill_pages.new.pass in
    can_extend g.J.Publishing.pages g.J.Publishing.places v u
    (are_filled v.pages g.J.Publishing.pages (words_of c.args.store.now.pages) c.args.known v u c.requires.known
    c.requires.pages c.fill_pages.ensures.fills)
    (claimed_next u c.fill_pages.ensures.claimed
    (let known = c.requires.known in
    let within = c.requires.within in
    let room = c.requires.room in
    let only = (are_filled v.pages g.J.Publishing.pages (words_of c.args.store.now.pages) c.args.known v u
    c.requires.known c.requires.pages c.fill_pages.ensures.fills).only in
    let long : length u.pages ≡ length v.pages = ap (λ (z : View). length z.pages) only in
    let same : u.layout.resident ≡ v.layout.resident = ap (λ (z : View). z.layout.resident) only in
    omega (arith, known, within, room, long, same)))
    c.requires.names

pub extend-requires-clause-count : goal.extend-requires-clause-count
extend-requires-clause-count g c =
    let v = view c.args.pass.now in
    let u = view c.fill_pages.new.pass in
    let all = length-append v.pages g.J.Publishing.pages in
    let many = ap (λ (ps : List (List ℕ)). length ps) c.requires.pages in
    let count = words_many c.args.store.now.pages in
    let last = c.count.ensures.count in
    let same : length u.pages ≡ length v.pages =
    ap (λ (z : View). length z.pages)
    (are_filled v.pages g.J.Publishing.pages (words_of c.args.store.now.pages) c.args.known v u c.requires.known
    c.requires.pages c.fill_pages.ensures.fills).only in omega (arith, all, many, count, last, same)

pub returns-clause-publishes : goal.returns-clause-publishes
returns-clause-publishes g c =
    let v = view c.args.pass.now in
    let u = view c.fill_pages.new.pass in
    published g.J.Publishing.pages g.J.Publishing.places v u
    (are_filled v.pages g.J.Publishing.pages (words_of c.args.store.now.pages) c.args.known v u c.requires.known
    c.requires.pages c.fill_pages.ensures.fills) (view c.extend.new.pass) c.extend.ensures.extends

pub returns-clause-claimed : goal.returns-clause-claimed
returns-clause-claimed g c =
    let v = view c.args.pass.now in
    let u = view c.fill_pages.new.pass in
    claimed_behind g.J.Publishing.pages g.J.Publishing.places v u
    (are_filled v.pages g.J.Publishing.pages (words_of c.args.store.now.pages) c.args.known v u c.requires.known
    c.requires.pages c.fill_pages.ensures.fills) (view c.extend.new.pass) c.fill_pages.ensures.claimed
    c.extend.ensures.extends
