use Rattle.std.proofs.Common.{◌≡◌, ◌+◌, length, refl, ap, ◌∙◌, subst, arith}
use Rattle.std.specs.Prelude.{drop}
use Rattle.std.proofs.lemmas.List.{length-drop}
use Rattle.engine_pages.specs.declared.view.View.{View}
use Rattle.engine_pages.specs.Passes.{view}
use Rattle.snapshot_store.specs.Content.{words_of}
use Rattle.resident_pages.specs.Publishes.{AreFilled}
use Rattle.resident_pages.proofs.PagesFilled.{none_of_pages, page_behind, page_more, still_claimed, words_many}
use Rattle.resident_pages.proofs.publishing.fill_pages.Goals as goal

pub loop-i-init : goal.loop-i-init
loop-i-init c = record {
  of = c.requires.of;
  so = none_of_pages (drop c.args.known (words_of c.args.store.now.pages)) (view c.args.pass.now);
  claimed = c.requires.claimed;
}

pub fill_next-requires-clause-keeper : goal.fill_next-requires-clause-keeper
fill_next-requires-clause-keeper c = ap (λ (v : View). v.role) c.loop-i.invariant.so.only ∙ c.requires.keeper

pub fill_next-requires-clause-above : goal.fill_next-requires-clause-above
fill_next-requires-clause-above c =
    let same : length (view c.loop-i.pass).pages ≡ length (view c.args.pass.now).pages =
    ap (λ (v : View). length v.pages) c.loop-i.invariant.so.only in
    let known = c.requires.known in omega (arith, same, known)

pub fill_next-requires-clause-room : goal.fill_next-requires-clause-room
fill_next-requires-clause-room c =
    let same : (view c.loop-i.pass).layout.resident ≡ (view c.args.pass.now).layout.resident =
    ap (λ (v : View). v.layout.resident) c.loop-i.invariant.so.only in
    let room = c.requires.room in
    let less = c.loop-i-test.true in
    let all = c.count.ensures.count in omega (arith, same, room, less, all)

pub fill_next-requires-clause-claimed : goal.fill_next-requires-clause-claimed
fill_next-requires-clause-claimed c = c.loop-i.invariant.claimed

pub loop-i-preserved : goal.loop-i-preserved
loop-i-preserved c = record {
  of = c.fill_next.ensures.of;
  so = page_more c.loop-i.i c.args.known ((c.args.known + 1) + c.loop-i.i) c.words.result.now (drop c.args.known (words_of c.args.store.now.pages))
      (view c.args.pass.now) (view c.loop-i.pass) (view c.fill_next.new.pass) c.loop-i.invariant.so c.requires.known refl
      (c.words.ensures.words ∙ page_behind (words_of c.args.store.now.pages) c.args.known c.loop-i.i c.from.result c.from.ensures)
      c.words.ensures.long c.fill_next.ensures.fills;
  claimed = still_claimed ((c.args.known + 1) + c.loop-i.i) c.words.result.now (view c.loop-i.pass)
      (view c.fill_next.new.pass) c.loop-i.invariant.claimed c.fill_next.ensures.fills;
}

pub returns-clause-fills : goal.returns-clause-fills
returns-clause-fills c =
    let all = drop c.args.known (words_of c.args.store.now.pages) in
    let long = length-drop c.args.known (words_of c.args.store.now.pages) in
    let many = words_many c.args.store.now.pages in
    let count = c.count.ensures.count in
    let end = c.loop-i.auto.i-end in
    subst (λ n. AreFilled n all (view c.args.pass.now) (view c.loop-i.pass))
    (omega (arith, long, many, count, end)) c.loop-i.invariant.so

pub returns-clause-claimed : goal.returns-clause-claimed
returns-clause-claimed c = c.loop-i.invariant.claimed
