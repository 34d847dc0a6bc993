use Rattle.std.proofs.Common.{◌<◌, ◌++◌, ◌∷◌, [], None, length, get_or, take, sym, ap, ◌∙◌, arith}
use Rattle.std.proofs.lemmas.List.{take_more}
use Rattle.wire_form.specs.declared.bucket.Entry.{Entry}
use Rattle.root_composer.specs.Storages.{part_of}
use Rattle.root_composer.proofs.RunLemmas.{part_of-append, number_at}
use Rattle.root_composer.proofs.part.entries_of.Goals as goal

-- an entry of nothing
abbrev nothing : Entry
nothing = record { key = record { storage = 0; key = 0 }; number = record { epoch = 0; draw = 0 }; value = None }

pub push_entry-requires-clause-number : goal.push_entry-requires-clause-number
push_entry-requires-clause-number c =
    let here : c.loop-entry.entry-index < length c.args.run.now = omega arith in
    number_at c.args.run.now c.loop-entry.entry-index nothing here c.requires

pub loop-entry-preserved : goal.loop-entry-preserved
loop-entry-preserved c =
    let i = c.loop-entry.entry-index in
    let run = c.args.run.now in
    let here : i < length run = omega arith in
    record {
      so_far =
          c.in_ok-push_entry.ensures.part
          ∙ ap (λ l. l ++ part_of c.args.id (get_or run i nothing ∷ [])) c.loop-entry.invariant.so_far
          ∙ sym (part_of-append c.args.id (take i run) (get_or run i nothing ∷ []))
          ∙ ap (part_of c.args.id) (sym (take_more run i nothing here));
      keys = c.in_ok-push_entry.ensures.keys;
    }
