use Rattle.std.proofs.Common.{◌≡◌, ◌*◌, length, take}
use Rattle.std.specs.List.{AllByRecursion}
use Rattle.outside.specs.Disk.{IfTold}
use Rattle.wire_form.specs.declared.page.PageKind.TheVariants.{Catalogue}
use Rattle.outside.specs.Reads.{OnlyReads}
use Rattle.snapshot_store.specs.Store.{bytes_of_pages, NumberedFrom, IsWhole}
use Rattle.snapshot_store.proofs.load.read_all.Given as goal

-- so many pages were read, and nothing was changed
abbrev pub invariant-loop-i : goal.invariant-loop-i
invariant-loop-i g l = record {
  count : length l.pages.items ≡ l.i;
  numbered : NumberedFrom 1 l.pages.items;
  whole : AllByRecursion IsWhole l.pages.items;
  kinds : AllByRecursion (λ p. p.kind ≡ Catalogue) l.pages.items;
  bytes : IfTold (g.D.Disk.tells l.fn.disk) (λ file. bytes_of_pages l.pages.items ≡ take (512 * l.i) file);
  quiet : g.D.Disk.faults l.disk ≡ g.D.Disk.faults l.fn.disk;
  reads : OnlyReads g.D.Disk.tells g.D.Disk.clock g.D.Disk.image_at g.D.Disk.faults l.fn.disk l.disk;
}
