use Rattle.std.proofs.Common.{subst, sym, ◌∙◌, ◌≡◌, false, List, Some, true≢false}
use Rattle.std.specs.List.{position}
use Rattle.homes.specs.Homes.{same_key}
use Rattle.tx_sets.specs.declared.writes.Write.{Write}
use Rattle.tx_sets.specs.Entries.{has_write}
use Rattle.tx_sets.proofs.SetLaws.{value_kept, value_set, none_there}
use Rattle.tx_sets.proofs.writes.WriteSet.set.Goals as goal

pub invariant_of-self : goal.invariant_of-self
invariant_of-self c =
    value_kept c.args.key c.self.inside.writes.items c.deref_mut.result.now c.in-Some.place c.args.value
    c.deref_mut.ensures.value
    (subst (λ (l : List Write). position (λ w. same_key w.key c.args.key) l ≡ Some c.in-Some.place)
    c.as_slice.ensures.value
    (sym c.index_of.ensures ∙ c.in-Some.is))
    c.self.invariant

pub returns-in-Some : goal.returns-in-Some
returns-in-Some c =
    value_set c.args.key c.args.value c.args.self.now c.self.inside.writes.items c.deref_mut.result.now c.in-Some.place
    (sym c.self.view_is) c.deref_mut.ensures.value
    (subst (λ (l : List Write). position (λ w. same_key w.key c.args.key) l ≡ Some c.in-Some.place)
    c.as_slice.ensures.value
    (sym c.index_of.ensures ∙ c.in-Some.is))

pub returns-in_default : goal.returns-in_default
returns-in_default c =
    let none = none_there (λ (w : Write). same_key w.key c.args.key) c.as_slice.result.now
    (sym c.index_of.ensures ∙ c.in_default.is) in
    let same = c.as_slice.ensures.value ∙ c.self.view_is in
    absurd (true≢false (sym c.requires.present
    ∙ subst (λ (l : List Write). has_write c.args.key l ≡ false) same none))
