use Rattle.std.proofs.Common.{◌≡◌, ◌-◌, ◌*◌, ◌<◌, List, length}
use Rattle.wire_form.specs.declared.records.Stored.{Stored}
use Rattle.wire_form.specs.Pages.{IsStored, stored_words, stored_id}
use Rattle.wire_form.proofs.ItemLemmas.{Takes}
use Rattle.wire_form.proofs.catalogue.are_stored.Given as goal

-- storages were read from the front
abbrev pub invariant-loop : goal.invariant-loop
invariant-loop l = record {
  taken : (front : List Stored) × Takes (IsStored l.number) stored_words stored_id ◌<◌ l.words front l.last l.rest;
  left : length l.rest ≡ 3 * (l.count - l.counter);
}
