use Rattle.std.proofs.Common.{◌<◌, ◌^◌, List, [], ◌∷◌, ◌++◌, sym, ap, subst, ◌∙◌}
use Rattle.std.specs.List.{AllByRecursion}
use Rattle.lists.specs.Each.{all_push}
use Rattle.root_composer.specs.declared.last.Last.{Last}
use Rattle.root_composer.proofs.RunLemmas.{part_one}
use Rattle.root_composer.proofs.part.push_entry.Goals as goal

pub returns-in_ok-push-clause-part : goal.returns-in_ok-push-clause-part
returns-in_ok-push-clause-part c =
    c.in_ok-push.ensures.items
    ∙ ap (λ x. c.args.part.now.items ++ x ∷ []) c.last_of.ensures.is
    ∙ ap (λ l. c.args.part.now.items ++ l) (sym (part_one c.args.id c.args.entry.now c.if-entry-id.true))

pub returns-in_ok-push-clause-keys : goal.returns-in_ok-push-clause-keys
returns-in_ok-push-clause-keys c =
    subst (λ (l : List Last). AllByRecursion (λ e. e.key < 2 ^ 64) l) (sym c.in_ok-push.ensures.items)
    (all_push (λ e. e.key < 2 ^ 64) c.args.part.now.items c.last_of.result c.requires.keys c.last_of.ensures.key)
