use Rattle.std.proofs.Common.{◌≡◌, ◌++◌, List, ap, sym, ◌∙◌, subst, length, take, arith, append-nil}
use Rattle.outside.specs.Fronts.{KeepsSince}
use Rattle.storage_tests.proofs.logs.two_devices.save_between.Goals as goal

pub returns : goal.returns
returns g c = record {
  both = λ file made done told durable.
      let all = c.in-Ok.ensures.flushes.durable file told made durable in
      let now = all.0 in
      let size = all.1.size in
      let keeps : KeepsSince g.D.Disk.clock g.D.Disk.image_at c.flush.new.bank (g.D.Disk.clock c.flush.new.bank) now = λ m b from to image.
      all.1.begins b (subst (λ j. g.D.Disk.image_at c.flush.new.bank j b) (omega (arith, from, to)) image) in
      let empty = ap (λ (l : List _). now ++ l) c.in-Ok.ensures.flushed.empty in
      let whole = sym (append-nil now) ∙ sym empty ∙ all.2 in
      let through = c.put_line.ensures.stays _ now (omega (arith, size)) (omega arith) keeps in
      let last = c.flush-2.ensures.flushes.stays _ now (omega (arith, size, c.put_line.ensures.later)) c.put_line.ensures.onward through in (
        _,
        omega (arith, c.put_line.ensures.onward, c.flush-2.ensures.flushes.through.moments.later),
        λ at_save at_bank s b from to left since until left_bank. (
          λ bytes is. (c.store.ensures.any_moment bytes is).leaves at_save s from to left,
          subst (λ l. take (length l) b ≡ l) whole (last at_bank b since until left_bank),
        ),
      );
}
