use Rattle.std.proofs.Common.{subst, sym, ◌∙◌, ◌≡◌, ◌==◌, false, List, Some, true≢false}
use Rattle.std.specs.List.{position}
use Rattle.tx_sets.specs.declared.seen.Seen.{Seen}
use Rattle.tx_sets.specs.Entries.{has_word}
use Rattle.tx_sets.proofs.RenewLaws.{renewed_kept, renewed_set}
use Rattle.tx_sets.proofs.SetLaws.{none_there}
use Rattle.tx_sets.proofs.headers.HeaderSet.renew.Goals as goal

pub invariant_of-self : goal.invariant_of-self
invariant_of-self c =
    renewed_kept c.args.at c.self.inside.seen.items c.deref_mut.result.now c.in-Some.index c.args.word
    c.deref_mut.ensures.value
    (subst (λ (l : List Seen). position (λ s. s.at == c.args.at) l ≡ Some c.in-Some.index)
    c.as_slice.ensures.value
    (sym c.index_of.ensures ∙ c.in-Some.is))
    c.self.invariant

pub returns-in-Some : goal.returns-in-Some
returns-in-Some c =
    renewed_set c.args.at c.args.word c.args.self.now c.self.inside.seen.items c.deref_mut.result.now c.in-Some.index
    (sym c.self.view_is) c.deref_mut.ensures.value
    (subst (λ (l : List Seen). position (λ s. s.at == c.args.at) l ≡ Some c.in-Some.index)
    c.as_slice.ensures.value
    (sym c.index_of.ensures ∙ c.in-Some.is))
    c.self.invariant

pub returns-in_default : goal.returns-in_default
returns-in_default c =
    let none = none_there (λ (s : Seen). s.at == c.args.at) c.as_slice.result.now
    (sym c.index_of.ensures ∙ c.in_default.is) in
    let same = c.as_slice.ensures.value ∙ c.self.view_is in
    absurd (true≢false (sym c.requires.present
    ∙ subst (λ (l : List Seen). has_word c.args.at l ≡ false) same none))
