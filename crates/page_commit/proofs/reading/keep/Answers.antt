use Rattle.std.proofs.Common.{refl, subst}
use Rattle.page_commit.specs.Keeping.{HasRoomFor, MeetsFound}
use Rattle.page_commit.proofs.FoundLaws.{entry_pushed, keeps_as, room_below}
use Rattle.page_commit.proofs.reading.keep.Goals as goal

-- The rest of each is by search: `KeepsRest` by `refl`, the answer by `refl`.
pub push-requires : goal.push-requires
push-requires c = record { absent = c.requires.unread }

pub keep_pointer-requires : goal.keep_pointer-requires
keep_pointer-requires c = subst (MeetsFound c.args.sets.now.pointers) c.in-Snapshot.is c.requires.met

pub keep_pointer-requires-in-Zero : goal.keep_pointer-requires-in-Zero
keep_pointer-requires-in-Zero c = subst (MeetsFound c.args.sets.now.pointers) c.in-Zero.is c.requires.met

pub returns-in-Volatile : goal.returns-in-Volatile
returns-in-Volatile c = record {
  keeps = keeps_as c.args.found _ c.args.key _ c.args.sets.now _ c.in-Volatile.is (
    refl,
    record { writes = refl; holds = refl; headers = refl },
    refl,
    entry_pushed _ c.args.sets.now.reads _ c.push.result c.push.ensures
        (room_below c.args.sets.now (subst (HasRoomFor c.args.sets.now) c.in-Volatile.is c.requires.room)),
  );
}

pub returns-in-Snapshot : goal.returns-in-Snapshot
returns-in-Snapshot c = record {
  keeps = keeps_as c.args.found _ c.args.key _ c.args.sets.now _ c.in-Snapshot.is
      (refl, record { writes = refl; holds = refl; headers = refl }, c.keep_pointer.ensures, refl);
}

pub returns-in-Zero : goal.returns-in-Zero
returns-in-Zero c = record {
  keeps = keeps_as c.args.found _ c.args.key _ c.args.sets.now _ c.in-Zero.is
      (refl, record { writes = refl; holds = refl; headers = refl }, c.keep_pointer-in-Zero.ensures, refl);
}
