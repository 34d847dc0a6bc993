-- The lines of a state's keys, one after another.
use Rattle.std.proofs.Common.{◌≡◌, refl, sym, cond, ℕ, Bool, true, false, List, [], ◌∷◌, ◌++◌, append_assoc}
use Rattle.std.specs.Prelude.{filter, flat_map}
use Rattle.serial_model.specs.declared.decl.Decl.{Decl}
use Rattle.serial_model.specs.declared.key.Key.{Key}
use Rattle.tx_script.specs.StateText.{key_line, key_lines, stands}

-- the lines of one key, and those of the others
pub key_lines-cons : (decls : List Decl) (e : Key × ℕ) (es : List (Key × ℕ)) → key_lines decls (e ∷ es) ≡ key_lines decls (e ∷ []) ++ key_lines decls es
key_lines-cons decls e es = go (stands decls e)
  where
    go : (b : Bool) → flat_map key_line (cond b (e ∷ filter (stands decls) es) (filter (stands decls) es))
        ≡ flat_map key_line (cond b (e ∷ []) []) ++ key_lines decls es
    go true = sym (append_assoc (key_line e) [] (key_lines decls es))
    go false = refl
