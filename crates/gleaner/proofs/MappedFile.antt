-- A log file that was mapped is a worker's closed one.
use Rattle.std.proofs.Common.{◌≡◌, ℕ, List, Option, get_or, subst}
use Rattle.outside.specs.Disk.{IfTold}
use Rattle.serial_model.specs.declared.decl.Decl.{Decl}
use Rattle.wire_form.specs.declared.bucket.Bucket.{Bucket}
use Rattle.log_mapper.specs.Mapped.{AreMapped, AreMappedLines}
use Rattle.gleaner.specs.Glean.{IsMappedFile, bank_of}
use Rattle.gleaner.specs.declared.closed.Closed.{Closed}

pub mapped_file : {D : Type 0} (tells : D → Option (List ℕ)) (closed : Closed) (decls : List Decl) (after worker n : ℕ)
    (file : D) (made : List Bucket) (bytes : List ℕ) → n ≡ bank_of closed.odd worker
    → IfTold (tells file) (λ b. AreMapped n (get_or closed.lengths worker 0) decls after closed.epoch b made)
    → AreMappedLines n decls after closed.epoch bytes made → IsMappedFile tells closed decls after worker file made
mapped_file tells closed decls after worker n file made bytes is told lines = record {
  told = subst (λ k. IfTold (tells file) (λ b. AreMapped k (get_or closed.lengths worker 0) decls after closed.epoch b
      made)) is told;
  bytes = bytes;
  lines = subst (λ k. AreMappedLines k decls after closed.epoch bytes made) is lines;
}
