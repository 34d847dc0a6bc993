use Rattle.std.proofs.Common.{refl, ap, ◌∙◌, sym, subst}
use Rattle.tree_calls.specs.Keeping.{value_in, HasRoomFor}
use Rattle.tree_calls.proofs.SetLaws.{entry_pushed, entry_room, keeps_as}
use Rattle.tree_calls.proofs.reading.keep.Goals as goal

-- The rest of each is by search: `KeepsRest` by `refl`, the answer by `refl`.
pub push-requires : goal.push-requires
push-requires c = record { absent = c.requires.unread }

pub keep_header-requires : goal.keep_header-requires
keep_header-requires c = subst (HasRoomFor c.args.sets.now) c.in-Absent.is c.requires.room

pub keep_pointer-requires : goal.keep_pointer-requires
keep_pointer-requires c = subst (HasRoomFor c.args.sets.now) c.in-Snapshot.is c.requires.room

pub keep_pointer-requires-in-Zero : goal.keep_pointer-requires-in-Zero
keep_pointer-requires-in-Zero c = subst (HasRoomFor c.args.sets.now) c.in-Zero.is c.requires.room

pub returns-in-Volatile : goal.returns-in-Volatile
returns-in-Volatile c = record {
  keeps = keeps_as c.args.found _ c.args.key c.args.sets.now _ c.in-Volatile.is (
    record { writes = refl; holds = refl },
    refl,
    refl,
    entry_pushed _ c.args.sets.now.reads _ c.push.result c.push.ensures
        (entry_room c.args.sets.now (subst (HasRoomFor c.args.sets.now) c.in-Volatile.is c.requires.room)),
  );
  value = c.told.ensures ∙ sym (ap value_in c.in-Volatile.is);
}

pub returns-in-Absent : goal.returns-in-Absent
returns-in-Absent c = record {
  keeps = keeps_as c.args.found _ c.args.key c.args.sets.now _ c.in-Absent.is
      (record { writes = refl; holds = refl }, refl, c.keep_header.ensures, refl);
  value = sym (ap value_in c.in-Absent.is);
}

pub returns-in-Snapshot : goal.returns-in-Snapshot
returns-in-Snapshot c = record {
  keeps = keeps_as c.args.found _ c.args.key c.args.sets.now _ c.in-Snapshot.is
      (record { writes = refl; holds = refl }, c.keep_pointer.ensures, refl, refl);
  value = sym (ap value_in c.in-Snapshot.is);
}

pub returns-in-Zero : goal.returns-in-Zero
returns-in-Zero c = record {
  keeps = keeps_as c.args.found _ c.args.key c.args.sets.now _ c.in-Zero.is
      (record { writes = refl; holds = refl }, c.keep_pointer-in-Zero.ensures, refl, refl);
  value = sym (ap value_in c.in-Zero.is);
}
