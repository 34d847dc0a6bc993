-- A store that failed makes nothing durable.
use Rattle.std.proofs.Common.{◌≡◌, ◌∙◌, sym, refl, ℕ, Bool, true, false, Some, None}
use Rattle.std.specs.Prelude.{◌&&◌, Contains, not}
use Rattle.lists.specs.Elements.{any_in}
use Rattle.outside.specs.declared.device.Device.TheVariants.{Save}
use Rattle.tx_script.specs.Run.{Ran}
use Rattle.round_engine.specs.Ends.{comes_to_save, durable_of, has_sequence, is_closed, other_failed, where_true}

none_durable : (ran : Ran) → Contains ran.beside.devices Save → durable_of ran ≡ None
none_durable ran has = none_by (comes_to_save ran) (has_sequence ran) (other_failed ran) failed
  where
    failed : other_failed ran ≡ true
    failed = any_in (λ device. not (is_closed ran.beside.files device)) ran.beside.devices Save has refl

    none_by : (a b c : Bool) → c ≡ true → where_true (a && (b && not c)) ran.printed.end.epoch ≡ None
    none_by true true true is = refl
    none_by true false c is = refl
    none_by false b c is = refl
    none_by true true false is = absurd cc

some_none : (epoch : ℕ) → Some epoch ≡ None → ⊥
some_none epoch is = cc

-- so no epoch was made durable where it failed
pub never_durable : (ran : Ran) (epoch : ℕ) → Contains ran.beside.devices Save → durable_of ran ≡ Some epoch → ⊥
never_durable ran epoch has is = some_none epoch (sym is ∙ none_durable ran has)
