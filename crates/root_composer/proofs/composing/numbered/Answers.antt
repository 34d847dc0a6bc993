use Rattle.std.proofs.Common.{◌<◌, length, refl, arith}
use Rattle.root_composer.proofs.PageLemmas.{numbered_pushed, words_pushed}
use Rattle.root_composer.proofs.composing.numbered.Goals as goal

pub loop-i-preserved : goal.loop-i-preserved
loop-i-preserved c =
    let kept = c.loop-i.invariant in
    let here : c.loop-i.i < length c.args.made.now = omega arith in
    record {
      count = omega (arith, c.in_ok-push.ensures.len, kept.count);
      words = words_pushed c.loop-i.pages.items _ _ c.push.new.self.items c.args.made.now c.loop-i.i c.in_ok-push.ensures.items kept.words refl here;
      numbered = numbered_pushed c.loop-i.pages.items _ c.args.first _ c.push.new.self.items c.in_ok-push.ensures.items kept.numbered refl (omega (arith, kept.count));
    }
