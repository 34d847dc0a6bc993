use Rattle.std.proofs.Common.{◌≡◌, None, ltb, sym, false, true, arith, rules}
use Rattle.std.specs.List.Sorted.{IsPartitionPoint}
use Rattle.std.proofs.lemmas.List.Sorted.{IsPartitionPoint-from_clause, IsPartitionedBy-ltb}
use Rattle.root_composer.specs.declared.last.Last.{Last}
use Rattle.root_composer.proofs.OverlayLemmas.{first_tells}
use Rattle.root_composer.proofs.range.has_entry.Goals as goal

pub returns-then-i-run : goal.returns-then-i-run
returns-then-i-run c =
    let point : IsPartitionPoint (λ (e : Last). ltb e.key c.args.low ≡ true) (λ (e : Last). ltb e.key c.args.low ≡ false) c.args.run.now c.partition_point-i.result =
    IsPartitionPoint-from_clause (λ (e : Last). ltb e.key c.args.low) c.args.run.now c.partition_point-i.result c.partition_point-i.ensures.partitioned (IsPartitionedBy-ltb (λ (e : Last). e.key) c.args.run.now c.args.low c.requires.order) (λ a r f' k. search rules) in
    sym ((first_tells c.args.run.now c.args.low c.args.high c.partition_point-i.result c.requires.order point).0 (omega arith))

pub returns : goal.returns
returns c =
    let point : IsPartitionPoint (λ (e : Last). ltb e.key c.args.low ≡ true) (λ (e : Last). ltb e.key c.args.low ≡ false) c.args.run.now c.partition_point-i.result =
    IsPartitionPoint-from_clause (λ (e : Last). ltb e.key c.args.low) c.args.run.now c.partition_point-i.result c.partition_point-i.ensures.partitioned (IsPartitionedBy-ltb (λ (e : Last). e.key) c.args.run.now c.args.low c.requires.order) (λ a r f' k. search rules) in
    (first_tells c.args.run.now c.args.low c.args.high c.partition_point-i.result c.requires.order point).1 (record { key = 0; number = 0; value = None }) (omega arith)
