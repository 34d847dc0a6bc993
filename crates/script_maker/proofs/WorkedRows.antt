-- Worked draws and lines, computed.
use Rattle.std.proofs.Common.{◌≡◌, [], ◌∷◌, map, refl}
use Rattle.std.specs.Prelude.{codes}
use Rattle.std.specs.Fmt.{digits}
use Rattle.script_maker.specs.Generator.{draw, script_text}

first_draws : map (draw 1) (0 ∷ 1 ∷ 2 ∷ 3 ∷ []) ≡ 16838 ∷ 5758 ∷ 10113 ∷ 17515 ∷ []
first_draws = refl

two_lines : script_text 1 2 2 ≡ codes "array 1 1024\ntree 2\n0 a 1 454 1; a 2 126 1\n1 a 1 897 1; a 2 107 1\n"
unfolding digits
two_lines = refl
