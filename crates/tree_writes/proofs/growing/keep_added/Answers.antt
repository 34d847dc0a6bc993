use Rattle.std.proofs.Common.{inl, inr, refl, sym, ◌∙◌}
use Rattle.tree_writes.proofs.RoomLaws.{entry_put}
use Rattle.tree_writes.proofs.growing.keep_added.Goals as goal

pub returns-then-not-contains : goal.returns-then-not-contains
returns-then-not-contains c = inl (sym c.contains.ensures ∙ c.if-not-contains.true, refl)

pub renew-requires : goal.renew-requires
renew-requires c = record { present = sym c.contains.ensures ∙ c.if-not-contains.false }

pub push-requires : goal.push-requires
push-requires c = record { absent = c.requires.unread }

pub returns : goal.returns
returns c =
    let has = sym c.contains.ensures ∙ c.if-not-contains.false in
    inr record {
      has = has;
      reads = entry_put _ c.args.sets.now _ c.push.result c.push.ensures (c.requires.room has);
      pointers = refl;
      headers = c.renew.ensures;
      writes = refl;
      holds = refl;
    }
