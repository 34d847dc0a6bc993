use Rattle.std.proofs.Common.{◌≡◌, ◌≤◌, ℕ, List, Some, length}
use Rattle.std.specs.Prelude.{slice_get}
use Rattle.outside.specs.Reads.{OnlyReads}
use Rattle.wire_form.specs.declared.bucket.Bucket.{Bucket}
use Rattle.bucket_queues.specs.Threads.{HasPut, IsSameMapper}
use Rattle.gleaner.specs.Halves.{AreMappedFrom}
use Rattle.gleaner.proofs.mapping.map_half.Given as goal

-- the log files so far were mapped, and only read
abbrev pub invariant-loop-at : goal.invariant-loop-at
invariant-loop-at g l = record {
  same : IsSameMapper l.fn.mapper l.mapper;
  buckets : List Bucket;
  mapped : AreMappedFrom g.D.Disk.tells l.half.closed l.half.decls.now l.half.after l.half.first l.at l.fn.files buckets;
  put : HasPut l.fn.mapper l.mapper buckets;
  left : (at : ℕ) → l.at ≤ at → slice_get l.files at ≡ slice_get l.fn.files at;
  reads : (at : ℕ) (was is : g.row.D.Denot) → slice_get l.fn.files at ≡ Some was → slice_get l.files at ≡ Some is
      → OnlyReads g.D.Disk.tells g.D.Disk.clock g.D.Disk.image_at g.D.Disk.faults was is;
  quiet : (at : ℕ) (was is : g.row.D.Denot) → slice_get l.fn.files at ≡ Some was → slice_get l.files at ≡ Some is
      → g.D.Disk.faults is ≡ g.D.Disk.faults was;
  many : length l.files ≡ length l.fn.files;
}
