-- What holds of a type's bound wherever a thread may run holds here.
use Rattle.std.proofs.Common.{ℕ}
use seplogic.Ra.Ura.{Ura}
use contract.Forks.{Like}
use prog.How.{How}

pub here : {M : Type 1} {𝓤 : Ura M} {ok : ℕ → Type 0} (how : How 𝓤) → Like 𝓤 ok how ok how
here how = ((λ s x. x), (λ x. x), (λ x. x), λ x. x)
