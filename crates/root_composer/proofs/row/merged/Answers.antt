use Rattle.std.proofs.Common.{None, arith}
use Rattle.root_composer.specs.declared.last.Last.{Last}
use Rattle.root_composer.specs.Rows.{merged}
use Rattle.root_composer.proofs.WordLemmas.{entry_merged, all_merged}
use Rattle.root_composer.proofs.row.merged.Goals as goal

-- an entry of nothing
abbrev nothing : Last
nothing = record { key = 0; number = 0; value = None }

pub loop-entry-preserved : goal.loop-entry-preserved
loop-entry-preserved c = record {
  within = c.behind-at.ensures.there;
  merged_so_far = entry_merged c.args.rows.now c.args.run.now c.loop-entry.entry-index nothing c.loop-entry.at c.in_ok-at.at c.behind-at.result c.loop-entry.all.items c.push_below.new.all.items c.push_put.new.all.items (merged c.args.run.now c.args.rows.now)
      (omega arith) c.in_ok-at.ensures.added c.in_ok-at.ensures.left c.in_ok-push_put.ensures c.behind-at.ensures.left c.loop-entry.invariant.merged_so_far;
}

pub returns : goal.returns
returns c =
    all_merged c.args.rows.now c.split_at.result.1.now c.args.run.now c.loop-entry.entry-index c.loop-entry.at c.loop-entry.all.items c.push_rows.new.all.items (merged c.args.run.now c.args.rows.now)
    (omega arith) c.split_at.ensures.back c.in_ok-push_rows.ensures c.loop-entry.invariant.merged_so_far
