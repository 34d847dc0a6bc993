use Rattle.std.proofs.Common.{sym, ap, ◌∙◌}
use Rattle.std.specs.FinMap as finite
use Rattle.recovery_core.proofs.EntriesGreatest.{get_key}
use Rattle.recovery_core.proofs.EntriesOver.{no_entry, none_at}
use Rattle.recovery_core.proofs.last_entries.LastEntries.is_empty.Goals as goal

pub returns : goal.returns
returns c =
    let entries = c.self.inside.map.entries in (
      λ empty key. sym (ap (λ m. finite.get m key) c.self.view_is) ∙ get_key entries key
          ∙ none_at entries key (c.is_empty.ensures.0 empty),
      λ none. c.is_empty.ensures.1 (no_entry entries
          (λ key. sym (get_key entries key) ∙ ap (λ m. finite.get m key) c.self.view_is ∙ none key)),
    )
