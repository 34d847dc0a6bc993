use Rattle.std.proofs.Common.{◌≡◌, take}
use Rattle.std.specs.List.{AllByRecursion}
use Rattle.snapshot_store.specs.Store.{bytes_of_pages, IsWhole}
use Rattle.snapshot_store.proofs.write.all_bytes.Given as goal

-- the bytes are those of the pages so far
abbrev pub invariant-loop-page : goal.invariant-loop-page
invariant-loop-page l = record {
  bytes : l.bytes.items ≡ bytes_of_pages (take l.page-index l.pages);
  whole : AllByRecursion IsWhole (take l.page-index l.pages);
}
