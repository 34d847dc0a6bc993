-- One log file of a half is mapped, and the others are as they were.
use Rattle.std.proofs.Common.{◌≡◌, ◌∙◌, ◌+◌, ℕ, List, Some, get_or, subst, sym}
use Rattle.std.specs.Prelude.{slice_get}
use Rattle.std.proofs.lemmas.List.{length-set}
use Rattle.std.proofs.lemmas.Option.{same_Some, slice_get-get_or}
use Rattle.std.proofs.lemmas.Result.{on_ok_weaker}
use Rattle.lists.specs.Elements.{at_set_other, at_set_same}
use Rattle.outside.specs.Reads.{OnlyReads}
use Rattle.wire_form.specs.declared.bucket.Bucket.{Bucket}
use Rattle.bucket_queues.specs.Threads.{HasPut}
use Rattle.gleaner.specs.Glean.{IsMappedFile}
use Rattle.gleaner.proofs.mapping.map_at.Goals as goal

-- what holds of the thing that stands there holds of whatever is told to stand there
so_of : {X : Type 0} (P : X → Type 0) (xs : List X) (at : ℕ) (x : X) → slice_get xs at ≡ Some x → P x
    → (y : X) → slice_get xs at ≡ Some y → P y
so_of P xs at x there holds y here = subst P (same_Some x y (sym there ∙ here)) holds

-- and of what stood there and what stands there now
so_of_both : {X : Type 0} (P : X → X → Type 0) (old : List X) (at : ℕ) (x y : X) (new : List X)
    → slice_get old at ≡ Some x → slice_get new at ≡ Some y → P x y
    → (was is : X) → slice_get old at ≡ Some was → slice_get new at ≡ Some is → P was is
so_of_both P old at x y new there now holds was is here here_now =
    so_of (P was) new at y now (so_of (λ z. P z y) old at x there holds was here) is here_now

pub returns-clause-same : goal.returns-clause-same
returns-clause-same g c = c.map_file.ensures.same

pub returns-clause-mapped : goal.returns-clause-mapped
returns-clause-mapped g c =
    let files = c.args.files.now in
    let at = c.args.at in
    let half = c.args.half.now in
    let item = get_or files at c.index-files-at.result in
    on_ok_weaker c.map_file.result (λ mapped. so_of (λ file. (made : List Bucket) × HasPut c.args.mapper.now
    c.map_file.new.mapper made
    × IsMappedFile g.D.Disk.tells half.closed half.decls.now half.after (half.first + at) file made)
    files at item (slice_get-get_or files at c.index-files-at.result c.requires.file) mapped) c.map_file.ensures.mapped

pub returns-clause-damaged : goal.returns-clause-damaged
returns-clause-damaged g c device place told =
    let files = c.args.files.now in
    let at = c.args.at in
    let d = c.map_file.ensures.damaged device place told in (
      get_or files at c.index-files-at.result,
      slice_get-get_or files at c.index-files-at.result
          c.requires.file,
      d.0,
      d.1,
    )

pub returns-clause-device : goal.returns-clause-device
returns-clause-device g c device told =
    let files = c.args.files.now in
    let at = c.args.at in
    let item = get_or files at c.index-files-at.result in
    let there = slice_get-get_or files at c.index-files-at.result c.requires.file in
    let d = c.map_file.ensures.device device told in
    (item, c.map_file.new.file, there, at_set_same files at item c.map_file.new.file there, d.0, d.1)

pub returns-clause-only : goal.returns-clause-only
returns-clause-only g c = c.map_file.ensures.only

pub returns-clause-reads : goal.returns-clause-reads
returns-clause-reads g c =
    let files = c.args.files.now in
    let at = c.args.at in
    let item = get_or files at c.index-files-at.result in
    let there = slice_get-get_or files at c.index-files-at.result c.requires.file in
    so_of_both (OnlyReads g.D.Disk.tells g.D.Disk.clock g.D.Disk.image_at g.D.Disk.faults) files at item
    c.map_file.new.file _ there
    (at_set_same files at item c.map_file.new.file there) c.map_file.ensures.reads

pub returns-clause-quiet : goal.returns-clause-quiet
returns-clause-quiet g c was is here now fine =
    let files = c.args.files.now in
    let at = c.args.at in
    let item = get_or files at c.index-files-at.result in
    let there = slice_get-get_or files at c.index-files-at.result c.requires.file in
    so_of_both (λ x y. g.D.Disk.faults y ≡ g.D.Disk.faults x) files at item c.map_file.new.file _ there
    (at_set_same files at item c.map_file.new.file there) (c.map_file.ensures.quiet fine) was is here now

pub returns-clause-others : goal.returns-clause-others
returns-clause-others g c = record {
  others = λ other apart. at_set_other c.args.files.now c.args.at other c.map_file.new.file apart;
  many = length-set c.args.files.now c.args.at c.map_file.new.file;
}
