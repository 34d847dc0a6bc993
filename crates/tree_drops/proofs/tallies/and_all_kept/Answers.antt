use Rattle.std.proofs.Common.{◌≡◌, inl, ℕ, zero, suc, ◌+◌, [], ◌∷◌, length, refl, sym, ap, ◌∙◌, subst, arith, Option, Some, None}
use Rattle.std.specs.Prelude.{replicate}
use Rattle.engine_pages.specs.declared.view.KeptPage.{KeptPage}
use Rattle.page_drops.specs.declared.noting.Kept.{Kept}
use Rattle.page_drops.specs.Calls.{IsFirst}
use Rattle.tree_drops.specs.Visits.{IsCapped}
use Rattle.tree_drops.proofs.tallies.and_all_kept.Goals as goal

long_all : (n : ℕ) (note : KeptPage) → length (replicate n note) ≡ n
long_all zero note = refl
long_all (suc n) note = ap suc (long_all n note)

first_all : (first : Option Kept) (note : KeptPage) (n : ℕ) (found : Option Kept) → IsFirst first (note ∷ []) found
    → IsFirst first (replicate (suc n) note) found
first_all (Some k) note n found is = is
first_all None note n found is = is

pub returns : goal.returns
returns c =
    let low = c.requires.few.dropped in record {
      counts = λ note n is of. record {
        dropped = inl (omega (arith, low), omega arith);
        kept = subst (λ m. IsCapped (c.args.sum.kept + m) c.more.result) (sym (long_all (suc n) note ∙ is)) c.more.ensures;
        first = first_all c.args.sum.first note n c.first_of.result (c.first_of.ensures.first note of);
      };
    }
