use Rattle.std.proofs.Common.{◌≡◌, take}
use Rattle.wire_form.specs.Pages.{Contents, IsCatalogue, catalogue_words}
use Rattle.root_composer.proofs.storages.storages_of.Given as goal

-- the storages so far are the catalogue's
abbrev pub invariant-loop-i : goal.invariant-loop-i
invariant-loop-i l = (contents : Contents) → IsCatalogue l.number contents → l.words ≡ catalogue_words contents → l.storages.items ≡ take l.i contents.storages
