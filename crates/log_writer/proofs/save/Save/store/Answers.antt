use Rattle.std.proofs.Common.{◌≡◌, ap, sym, ◌∙◌}
use Rattle.log_writer.specs.Points.{SaveState}
use Rattle.log_writer.proofs.save.Save.store.Goals as goal

pub write_next-requires-clause-stored : goal.write_next-requires-clause-stored
write_next-requires-clause-stored g c =
    let down : c.self.inside.down ≡ c.args.self.now.down = ap (λ (s : SaveState). s.down) c.self.view_is in
    c.requires.stored (sym down ∙ c.in_default.is)
