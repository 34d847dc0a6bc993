use Rattle.std.specs.Prelude.{Result, Ok, Err, OnOk}
use Rattle.std.proofs.Common.{◌≡◌, ◌∙◌, sym}
use Rattle.std.proofs.lemmas.Result.{on_ok_weaker}
use Rattle.outside.proofs.memory_disk.MemDiskDisk.sync.Goals as goal

pub returns-clause-durable : goal.returns-clause-durable
returns-clause-durable c =
    on_ok_weaker c.make.result (λ end file is left now.
    let same : c.args.self.now.bytes.items ≡ file = cc in
    end.last left now ∙ same) c.make.ensures.last

-- of two facts behind `Ok`
on_ok_both : {T E P Q S : Type 0} (r : Result T E) → (P → Q → S) → OnOk r P → OnOk r Q → OnOk r S
on_ok_both (Ok value) both p q = both p q
on_ok_both (Err error) both p q = tt

pub returns-clause-settled : goal.returns-clause-settled
returns-clause-settled c =
    on_ok_both c.make.result (λ end done file is left now.
    let here : c.make.new.self.bytes.items ≡ file = cc in
    end.last left now ∙ sym done ∙ here) c.make.ensures.last c.make.ensures.done
