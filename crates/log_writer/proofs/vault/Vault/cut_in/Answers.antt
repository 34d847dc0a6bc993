use Rattle.std.proofs.Common.{refl, sym}
use Rattle.log_writer.specs.Cuts.{keeps_disk}
use Rattle.outside.specs.declared.device.Device.TheVariants.{Save}
use Rattle.log_writer.proofs.vault.Vault.cut_in.Goals as goal

pub returns-clause-save : goal.returns-clause-save
returns-clause-save g c = keeps_disk c.cut_device.ensures.cut Save (λ same. c.requires.not_save (sym same)) refl refl
