use Rattle.std.proofs.Common.{List, sym, ap, ◌∙◌, subst}
use Rattle.serial_model.specs.declared.key.Key.{Key}
use Rattle.homes.specs.declared.places.Content.{Content}
use Rattle.dual_pointer.specs.Installs.{keys_in, tree_records}
use Rattle.engine_pages.specs.Passes.{view}
use Rattle.tree_heads.specs.NewPages.{published_leaf, HasLeafDraft}
use Rattle.tree_making.proofs.pages.publish_stored_as.Goals as goal

pub publish_leaf-requires-clause-draft : goal.publish_leaf-requires-clause-draft
publish_leaf-requires-clause-draft g c =
    subst (λ (keys : List Key). HasLeafDraft (view c.args.pass.now) c.args.slot c.args.span keys g.K.Leafed.contents)
    c.requires.named.0
    (subst (λ (contents : List Content). HasLeafDraft (view c.args.pass.now) c.args.slot c.args.span
    (keys_in c.args.span (tree_records (view c.args.pass.now).pages c.args.number)) contents) c.requires.named.1
    c.requires.draft)

pub returns-clause-publishes : goal.returns-clause-publishes
returns-clause-publishes g c =
    c.publish_leaf.ensures.publishes
    ∙ (ap (λ (keys : List Key). published_leaf c.args.slot c.args.span keys g.K.Leafed.contents (view c.args.pass.now))
    (sym c.requires.named.0)
    ∙ ap (λ (contents : List Content). published_leaf c.args.slot c.args.span
    (keys_in c.args.span (tree_records (view c.args.pass.now).pages c.args.number)) contents (view c.args.pass.now))
    (sym c.requires.named.1))
