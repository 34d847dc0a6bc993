-- Both lists are over the keys that the pages have.
use Rattle.std.proofs.Common.{List, map, ap, ◌∙◌}
use Rattle.serial_model.specs.declared.key.Key.{Key}
use Rattle.drop_core.specs.Table.{child_of, snap_home}
use Rattle.engine_rule.specs.Pairs.{pairs_for, snap_keys}
use Rattle.engine_rule.proofs.opening.first_parts.Goals as goal

pub returns : goal.returns
returns c =
    let d = c.args.table.now in
    let roots = c.args.roots.now in
    let keys = c.in_ok-keys.ensures ∙ ap snap_keys c.as_slice.ensures in (
      c.in_ok-opening.ensures
          ∙ ap (λ (l : List Key). pairs_for (λ k. snap_home d (child_of roots k) k) l) (c.as_slice-2.ensures ∙ keys),
      c.in_ok-homes.ensures
          ∙ ap (λ (l : List Key). map (λ k. (k, snap_home d (child_of roots k) k)) l) (c.as_slice-3.ensures ∙ keys),
      c.in_ok-seats.ensures,
    )
