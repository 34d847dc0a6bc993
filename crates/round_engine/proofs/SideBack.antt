-- What was done on what is lent of a runtime and of a vault is done on both.
use Rattle.std.proofs.Common.{◌≡◌, ◌∙◌, sym, ap, refl, ℕ, Bool, List, length, Option, Some, None}
use Rattle.std.specs.Prelude.{slice_get}
use Rattle.outside.specs.declared.device.Device.{Device}
use Rattle.outside.specs.declared.device.Device.TheVariants.{Bank, Save, Snaps}
use Rattle.log_writer.specs.declared.vault.Vault.{Vault}
use Rattle.script_grammar.specs.declared.lines.KeeperLine.{KeeperLine}
use Rattle.wire_form.specs.declared.clock.Mark.{Mark}
use Rattle.snapshot_store.specs.Store.{StoreState}
use Rattle.tx_script.specs.declared.answer.Answer.{Answer}
use Rattle.worker_logs.specs.Logs.{LogState}
use Rattle.round_engine.specs.Gleans.{AddsSnapshot, FailsIn, FindsDamage, IsFound, LeaveGleans, RoundGleans}
use Rattle.round_engine.specs.Keeping.{RunsKeeper}
use Rattle.round_engine.specs.Sides.{closed_in, growing_in}
use Rattle.round_engine.specs.Standing.{HasSnapshot, RuntimeState, Standing}
use Rattle.round_engine.specs.declared.report.End.{End}

-- a runtime with these contents, logs and all, and of its engine what was lent
abbrev pub with_rest : RuntimeState → Standing → List LogState → Bool → RuntimeState
with_rest r s logs down = record r {
  stands = record s {
    decls = r.stands.decls;
    clock = record s.clock { epoch = r.stands.clock.epoch };
    slots = r.stands.slots;
    pages = r.stands.pages;
    resident = r.stands.resident;
    drops = r.stands.drops;
  };
  logs = logs;
  down = down;
}

module _ {D : Type 0} (tells : D → Option (List ℕ)) (clock : D → ℕ) (image_at : D → ℕ → List ℕ → Type 0) (faults : D → ℕ)
    (old new : RuntimeState) (before now : Vault D) (s : Standing) (logs : List LogState) (down : Bool)
    (begun left : Vault D) where
  abbrev was : RuntimeState
  was = with_rest old s logs down

  abbrev is : RuntimeState
  is = with_rest new s logs down

  abbrev whole : Vault D
  whole = record before { even = begun.even; odd = begun.odd }

  abbrev after : Vault D
  after = record now { even = left.even; odd = left.odd }

  module _ (closed_was : closed_in old.side whole ≡ closed_in old.side before)
      (closed_is : closed_in old.side after ≡ closed_in old.side now)
      (growing_same : growing_in old.side after ≡ growing_in old.side whole) where
    found_back : (what : Option ℕ) → IsFound tells old before what → IsFound tells was whole what
    found_back (Some count) f = record {
      contents = f.contents;
      newest = record { here = f.newest.here };
      many = rw closed_was f.many;
    }
    found_back None f = record {
      contents = f.contents;
      newest = record { here = f.newest.here };
      deep = rw closed_was f.deep;
    }

    adds_back : (store : StoreState) (count : ℕ) → AddsSnapshot tells old before store count
        → AddsSnapshot tells was whole store count
    adds_back store count a = record {
      contents = a.contents;
      newest = record { here = a.newest.here };
      gleaned = rw closed_was a.gleaned;
      whole = a.whole;
      fit = a.fit;
    }

    damage_back : (device : Device) (at : ℕ) → FindsDamage tells old before device at → FindsDamage tells was whole device at
    damage_back device at d = record {
      contents = d.contents;
      newest = record { here = d.newest.here };
      damaged = rw closed_was d.damaged;
    }

    fails_back : (device : Device) → FailsIn tells clock image_at faults old device before now
        → FailsIn tells clock image_at faults was device whole after
    fails_back Snaps f = f
    fails_back Save f = (
      f.0,
      f.1,
      f.2,
      f.3,
      f.4,
      ap (λ l. slice_get l f.0) closed_was ∙ f.5,
      ap (λ l. slice_get l f.0) closed_is ∙ f.6,
      f.7,
    )
    fails_back (Bank n) f = (
      f.0,
      f.1,
      f.2,
      f.3,
      f.4,
      ap (λ l. slice_get l f.0) closed_was ∙ f.5,
      ap (λ l. slice_get l f.0) closed_is ∙ f.6,
      f.7,
    )

    snapshot_over : HasSnapshot tells was before.snaps → HasSnapshot tells old before.snaps
    snapshot_over h = record {
      holds = h.holds;
      contents = h.contents;
      stands = h.stands;
      decls = h.decls;
      up_to = h.up_to;
      earlier = h.earlier;
      let_in = h.let_in;
      published = h.published;
    }

    snapshot_now : HasSnapshot tells new now.snaps → HasSnapshot tells is now.snaps
    snapshot_now h = record {
      holds = h.holds;
      contents = h.contents;
      stands = h.stands;
      decls = h.decls;
      up_to = h.up_to;
      earlier = h.earlier;
      let_in = h.let_in;
      published = h.published;
    }

    module _ {seen : List (List Mark)} {lines : List KeeperLine} {said : List Answer} {refusal : Option End}
        (runs : RunsKeeper tells clock image_at faults seen lines said refusal old new before now) where
      gleaned_back : RoundGleans tells said runs.gleans runs.damaged was is whole after
      gleaned_back = record {
        told = runs.gleaned.told;
        found = λ what has. found_back what (runs.gleaned.found what has);
        made = λ epoch count has. adds_back new.store count (runs.gleaned.made epoch count has);
        kept = runs.gleaned.kept;
        damage = λ device at there. damage_back device at (runs.gleaned.damage device at there);
        undamaged = runs.gleaned.undamaged;
        many = runs.gleaned.many;
      }

      leaves_back : LeaveGleans tells clock image_at faults said runs.broken was is whole after
      leaves_back = record {
        room = runs.leaves.room;
        side = runs.leaves.side;
        closed_at = runs.leaves.closed_at;
        counted = runs.leaves.counted;
        grows = runs.leaves.grows;
        sound = runs.leaves.sound;
        snapshot = λ has up. snapshot_now (runs.leaves.snapshot (λ fine. snapshot_over (has fine)) up);
        over = record {
          growing = growing_same;
          cuts = runs.leaves.over.cuts;
          front = runs.leaves.over.front;
          told = runs.leaves.over.told;
          many = ap length closed_is ∙ runs.leaves.over.many ∙ sym (ap length closed_was);
          reads = λ worker file_was file_is at there. runs.leaves.over.reads worker file_was file_is
              (ap (λ l. slice_get l worker) (sym closed_was) ∙ at) (ap (λ l. slice_get l worker) (sym closed_is) ∙ there);
        };
        quietly = record {
          snaps = runs.leaves.quietly.snaps;
          files = λ worker file_was file_is at there. runs.leaves.quietly.files worker file_was file_is
              (ap (λ l. slice_get l worker) (sym closed_was) ∙ at) (ap (λ l. slice_get l worker) (sym closed_is) ∙ there);
        };
        fails = λ device has. fails_back device (runs.leaves.fails device has);
      }

      -- Lines that were run on what was lent were run on the whole.
      pub keeper_back : RunsKeeper tells clock image_at faults seen lines said refusal was is whole after
      keeper_back = record {
        stored = runs.stored;
        failed = runs.failed;
        gleans = runs.gleans;
        broken = runs.broken;
        damaged = runs.damaged;
        keeps = record {
          newest = runs.keeps.newest;
          down = runs.keeps.down;
          stands = runs.keeps.stands;
          told = runs.keeps.told;
          snaps_told = runs.keeps.snaps_told;
          later = runs.keeps.later;
          quiet = runs.keeps.quiet;
          rose = runs.keeps.rose;
          ties_are = runs.keeps.ties_are;
          ended = runs.keeps.ended;
          ties_stay = runs.keeps.ties_stay;
          grows = runs.keeps.grows;
          counts = runs.keeps.counts;
          keeper = runs.keeps.keeper;
        };
        by_lines = runs.by_lines;
        by_failed = runs.by_failed;
        by_place = record { by = runs.by_place.by; left = runs.by_place.left; all = runs.by_place.all };
        gleaned = gleaned_back;
        leaves = leaves_back;
        needs = record {
          found = runs.needs.found;
          made = runs.needs.made;
          damage = runs.needs.damage;
          device = runs.needs.device;
        };
        rise = runs.rise;
        later = runs.later;
        stands = ap (λ (x : Standing). record s {
          decls = x.decls;
          clock = record s.clock { epoch = new.stands.clock.epoch };
          slots = x.slots;
          pages = new.stands.pages;
          resident = x.resident;
          drops = new.stands.drops;
        }) runs.stands;
        dropped = runs.dropped;
        logs = refl;
        is_down = refl;
        count = runs.count;
        advances = runs.advances;
        at_end = runs.at_end;
        refused = runs.refused;
        refusal_is = runs.refusal_is;
        told = runs.told;
        caused = λ ran rests. runs.caused ran (record {
          marks = rests.marks;
          odd = rests.odd;
          closed_at = rests.closed_at;
          room = rests.room;
          gleans_are = rests.gleans_are;
          damage = rests.damage;
          store = rests.store;
          device = rests.device;
        });
        saw = runs.saw;
        above = runs.above;
        tie_room = runs.tie_room;
        cut_room = runs.cut_room;
      }
