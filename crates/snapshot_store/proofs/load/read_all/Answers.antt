use Rattle.std.proofs.Common.{◌≡◌, ◌∙◌, arith}
use Rattle.lists.specs.Each.{all_push}
use Rattle.wire_form.specs.declared.page.PageKind.TheVariants.{Catalogue}
use Rattle.snapshot_store.specs.Store.{IsWhole}
use Rattle.snapshot_store.proofs.Pages.{numbered_push, read_push, length_pushed}
use Rattle.outside.specs.Reads.{reads_then}
use Rattle.snapshot_store.proofs.load.read_all.Goals as goal

pub loop-i-preserved : goal.loop-i-preserved
loop-i-preserved g c =
    let kept = c.loop-i.invariant in
    let page = c.in_ok-page.page in
    let there = c.loop-i.pages.items in
    let pushed = c.in-Ok-push.ensures.items in
    record {
      count = rw pushed (length_pushed there page c.loop-i.i kept.count);
      numbered = rw pushed (numbered_push 1 there page kept.numbered (omega (arith, c.in_ok-page.ensures.number, kept.count)));
      whole = rw pushed (all_push IsWhole there page kept.whole c.in_ok-page.ensures.whole);
      kinds = rw pushed (all_push (λ p. p.kind ≡ Catalogue) there page kept.kinds c.in_ok-page.ensures.kind);
      bytes = λ file told.
          let now = kept.reads.told ∙ told in
          rw pushed (read_push c.loop-i.i there page file (kept.bytes file told) (c.in_ok-page.ensures.bytes file now));
      quiet = c.in_ok-page.ensures.quiet ∙ kept.quiet;
      reads = reads_then kept.reads c.in_ok-page.ensures.reads;
    }
