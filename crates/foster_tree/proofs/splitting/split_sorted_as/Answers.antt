use Rattle.std.proofs.Common.{◌≡◌, ℕ, List, sym, subst}
use Rattle.serial_model.specs.declared.key.Key.{Key}
use Rattle.engine_pages.specs.declared.view.NewLeaf.{NewLeaf}
use Rattle.engine_pages.specs.Passes.{view}
use Rattle.tree_heads.specs.Splits.{CanSplit, HasSplit}
use Rattle.foster_tree.specs.Entries.{keys_of}
use Rattle.foster_tree.specs.Splitting.{lower_of, separator_of, upper_of}
use Rattle.foster_tree.proofs.splitting.split_sorted_as.Goals as goal

pub split_leaf-requires-clause-can : goal.split_leaf-requires-clause-can
split_leaf-requires-clause-can g c =
    let v = view c.args.pass.now in
    subst (λ (n : ℕ). CanSplit v c.args.slot c.args.span g.K.Halved.lower g.K.Halved.upper g.K.Halved.keys n c.args.word)
    c.requires.named.3
    (subst (λ (l : List Key). CanSplit v c.args.slot c.args.span g.K.Halved.lower g.K.Halved.upper l
    (separator_of c.args.sorted.now) c.args.word) c.requires.named.2
    (subst (λ (x : NewLeaf). CanSplit v c.args.slot c.args.span g.K.Halved.lower x
    (keys_of c.args.span.storage c.args.sorted.now) (separator_of c.args.sorted.now) c.args.word) c.requires.named.1
    (subst (λ (x : NewLeaf). CanSplit v c.args.slot c.args.span x
    (upper_of c.args.halves.major c.args.span c.args.sorted.now) (keys_of c.args.span.storage c.args.sorted.now)
    (separator_of c.args.sorted.now) c.args.word) c.requires.named.0 c.requires.can)))

pub returns-clause-splits : goal.returns-clause-splits
returns-clause-splits g c =
    let v = view c.args.pass.now in
    let w = view c.split_leaf.new.pass in
    subst (λ (x : NewLeaf). HasSplit c.args.slot c.args.span x
    (upper_of c.args.halves.major c.args.span c.args.sorted.now) (keys_of c.args.span.storage c.args.sorted.now)
    (separator_of c.args.sorted.now) c.args.at c.args.word v w) (sym c.requires.named.0)
    (subst (λ (x : NewLeaf). HasSplit c.args.slot c.args.span g.K.Halved.lower x
    (keys_of c.args.span.storage c.args.sorted.now) (separator_of c.args.sorted.now) c.args.at c.args.word v w)
    (sym c.requires.named.1)
    (subst (λ (l : List Key). HasSplit c.args.slot c.args.span g.K.Halved.lower g.K.Halved.upper l
    (separator_of c.args.sorted.now) c.args.at c.args.word v w) (sym c.requires.named.2)
    (subst (λ (n : ℕ). HasSplit c.args.slot c.args.span g.K.Halved.lower g.K.Halved.upper g.K.Halved.keys n c.args.at
    c.args.word v w) (sym c.requires.named.3) c.split_leaf.ensures.splits)))
