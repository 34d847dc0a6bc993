use Rattle.std.proofs.Common.{◌≡◌, ap, sym, ◌∙◌, arith}
use Rattle.std.specs.Prelude.{min}
use Rattle.root_composer.specs.Build.{child_count, run_lengths}
use Rattle.root_composer.proofs.CutLaw.{cut_of_is, child_count_is}
use Rattle.root_composer.proofs.WordLemmas.{length_pushed, all_lengths}
use Rattle.root_composer.proofs.build.cut.Goals as goal

pub loop-i-preserved : goal.loop-i-preserved
loop-i-preserved c = length_pushed c.args.count _ c.loop-i.i c.run_length.result c.loop-i.lengths.items c.push.new.self.items (omega arith) c.in_ok-push.ensures.items c.run_length.ensures c.loop-i.invariant

pub returns : goal.returns
returns c =
    let runs : c.min-runs.result ≡ child_count c.args.count = c.min-runs.ensures ∙ ap (λ k. min 30 k) c.div_ceil.ensures ∙ sym (child_count_is c.args.count) in
    all_lengths c.args.count c.min-runs.result c.loop-i.i c.loop-i.lengths.items (omega arith) (omega arith) c.loop-i.invariant ∙ ap (run_lengths c.args.count) runs ∙ sym (cut_of_is c.args.count)
