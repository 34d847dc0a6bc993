use Rattle.std.proofs.Common.{◌≡◌, ◌+◌, ◌<◌, ◌∷◌, [], ◌++◌, List, length, append-nil, sym, ap, ◌∙◌, subst, take}
use Rattle.std.proofs.Common.{take_all, arith}
use Rattle.std.proofs.lemmas.List.{take_more}
use Rattle.std.proofs.lemmas.Grind.{flat_map-append}
use Rattle.wire_form.specs.declared.bucket.Bucket.{Bucket}
use Rattle.recovery_core.specs.EntriesLast.{TakesIn, entries_in, all_entries}
use Rattle.recovery_core.proofs.EntriesGreatest.{takes_none, takes_then}
use Rattle.recovery_core.proofs.last_entries.LastEntries.take_in_buckets.Goals as goal

-- one more bucket
bucket_push : (bs : List Bucket) (b : Bucket) → all_entries (bs ++ b ∷ []) ≡ all_entries bs ++ b.entries
bucket_push bs b = flat_map-append entries_in bs (b ∷ []) ∙ ap (λ l. all_entries bs ++ l) (append-nil b.entries)

pub loop-bucket-init : goal.loop-bucket-init
loop-bucket-init c = takes_none c.args.self.now

pub loop-bucket-preserved : goal.loop-bucket-preserved
loop-bucket-preserved c =
    let i = c.loop-bucket.bucket-index in
    let b = c.bucket-item.result in
    let here : i < length c.args.buckets.now = omega arith in
    let next : take (i + 1) c.args.buckets.now ≡ take i c.args.buckets.now ++ b ∷ [] =
    take_more c.args.buckets.now i b here ∙ ap (λ x. take i c.args.buckets.now ++ x ∷ []) (sym c.bucket-item.is) in
    subst (TakesIn c.args.self.now c.take_in_all.new.self)
    (sym (ap all_entries next ∙ bucket_push (take i c.args.buckets.now) b))
    (takes_then c.args.self.now c.loop-bucket.self c.take_in_all.new.self
    (all_entries (take i c.args.buckets.now)) b.entries c.loop-bucket.invariant
    (subst (TakesIn c.loop-bucket.self c.take_in_all.new.self) c.as_slice.ensures c.in_ok-take_in_all.ensures))

pub returns : goal.returns
returns c =
    subst (λ bs. TakesIn c.args.self.now c.loop-bucket.self (all_entries bs))
    (take_all c.loop-bucket.bucket-index c.args.buckets.now c.loop-bucket-test.false)
    c.loop-bucket.invariant
