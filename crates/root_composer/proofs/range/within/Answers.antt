use Rattle.std.proofs.Common.{◌≡◌, leb, ltb, sym, subst, false, true, rules}
use Rattle.std.specs.List.Sorted.{IsPartitionPoint, IsNonDecreasingBy}
use Rattle.std.proofs.lemmas.List.Sorted.{IsPartitionPoint-from_clause, IsPartitionedBy-ltb, IsPartitionedBy-leb, IsNonDecreasingBy-drop}
use Rattle.root_composer.specs.declared.last.Last.{Last}
use Rattle.root_composer.proofs.RangeLemmas.{range_is}
use Rattle.root_composer.proofs.range.within.Goals as goal

pub returns : goal.returns
returns c =
    let run = c.args.run.now in
    let rest = c.split_at.result.1.now in
    let order : IsNonDecreasingBy (λ (e : Last). e.key) rest =
    subst (IsNonDecreasingBy (λ (e : Last). e.key)) (sym c.split_at.ensures.back) (IsNonDecreasingBy-drop (λ (e : Last). e.key) c.partition_point-first.result run c.requires.order) in
    let before : IsPartitionPoint (λ (e : Last). ltb e.key c.args.low ≡ true) (λ (e : Last). ltb e.key c.args.low ≡ false) run c.partition_point-first.result =
    IsPartitionPoint-from_clause (λ (e : Last). ltb e.key c.args.low) run c.partition_point-first.result c.partition_point-first.ensures.partitioned (IsPartitionedBy-ltb (λ (e : Last). e.key) run c.args.low c.requires.order) (λ a r f' k. search rules) in
    let within : IsPartitionPoint (λ (e : Last). leb e.key c.args.high ≡ true) (λ (e : Last). leb e.key c.args.high ≡ false) rest c.partition_point-count.result =
    IsPartitionPoint-from_clause (λ (e : Last). leb e.key c.args.high) rest c.partition_point-count.result c.partition_point-count.ensures.partitioned (IsPartitionedBy-leb (λ (e : Last). e.key) rest c.args.high order) (λ a r f' k. search rules) in
    range_is run rest c.split_at-2.result.0.now c.args.low c.args.high c.partition_point-first.result c.partition_point-count.result c.split_at.ensures.back c.split_at-2.ensures.front before within
