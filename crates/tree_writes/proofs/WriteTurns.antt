-- What writes, additions and subtractions at keys of trees come to.
use Rattle.std.proofs.Common.{◌≡◌, ◌⊎◌, inl, inr, ℕ, ◌≤◌, true, false, List, Option, Some, None, length}
use Rattle.std.proofs.Common.{refl, sym, ap, ◌∙◌, subst, arith}
use Rattle.std.specs.Prelude.{Contains, unwrap_or}
use Rattle.std.specs.List.{AllByRecursion}
use Rattle.serial_model.specs.declared.key.Key.{Key}
use Rattle.serial_model.specs.declared.op.Op.TheVariants.{Write}
use Rattle.serial_model.specs.declared.reply.Verdict.TheVariants.{Done}
use Rattle.serial_bridge.specs.Transaction.{wrote, Turns}
use Rattle.tx_sets.specs.declared.seen.Seen.{Seen}
use Rattle.tx_sets.specs.declared.sets.Sets.{Sets}
use Rattle.tx_sets.specs.declared.writes.Write as writes_of
use Rattle.tx_sets.specs.Entries.{has_write}
use Rattle.engine_pages.specs.declared.view.View.{View}
use Rattle.engine_pages.specs.Pages.{is_tree}
use Rattle.page_commit.specs.declared.writing.By.{By}
use Rattle.page_commit.specs.declared.writing.By.TheVariants as ways
use Rattle.page_commit.specs.Altering.{altered, ended_by, op_of, Alters}
use Rattle.page_commit.specs.Keeping.{KeepsSets}
use Rattle.page_commit.specs.Live.{IsWriteOf}
use Rattle.page_commit.specs.Places.{ground}
use Rattle.page_commit.specs.Turning.{meets_most, AreWritesOf, HasDone, HoldsWaysOf, IsPointerOf, IsReadBy, MayWrite}
use Rattle.page_commit.specs.Turning.{ReadsOnly}
use Rattle.page_commit.proofs.TurnLaws.{alter_turns, ends, goes_on, none_more, one_more, same_live, stops_so}
use Rattle.tree_calls.proofs.OpLaws.{held_for, ways_for}
use Rattle.tree_writes.specs.Writing.{HasBrought}
use Rattle.tree_writes.proofs.ReadFirst.{done_put, sees_first, stops_behind, ReadFirst}
use Rattle.tree_writes.proofs.ValueWrites.{put_more, put_only, HasPut}

-- ---- a write

-- of a key whose record's place was found or made
pub value_placed : (sets mid new : Sets) (v w : View) (k : Key) (value at : ℕ) → is_tree v.layout.decls k.storage ≡ true
    → HasBrought k at sets mid v w → KeepsSets mid new → AllByRecursion (IsWriteOf (ground w)) new.writes
    → HasPut k (Some value) mid.writes new.writes → HasDone (Write k value) None sets new v w
value_placed sets mid new v w k value at tree b same all now = record {
  live = same_live mid new w b.live same.reads same.pointers same.holds same.headers all;
  only = b.only;
  paths = ways_for (Write k value) k v w (inr refl) b.paths;
  held = subst (λ (l : List ℕ). HoldsWaysOf (Write k value) sets.holds l w) (sym same.holds)
      (held_for (Write k value) k sets.holds mid.holds w (inr refl) b.held);
  reads = reads_placed;
  pointers = none_more (IsPointerOf w (Write k value)) 1 sets.pointers new.pointers (same.pointers ∙ b.pointers);
  headers = record {
    each = λ h has. inl (b.headers h (subst (λ (l : List Seen). Contains l h) same.headers has));
    few =
        let one = ap (λ (l : List Seen). length l) same.headers in
        let two = b.heads in omega (arith, one, two);
  };
  joined = inr (inr (k, refl, tree, b.parts));
  locks = inr (k, refl, tree);
  writes = λ q has. subst (λ (l : List writes_of.Write). (has_write q l ≡ true) ⊎ (k ≡ q)) b.writes
      (put_only k (Some value) mid.writes new.writes q now has);
  grows =
      let one = now.grows in
      let two = ap (λ (l : List writes_of.Write). length l) b.writes in omega (arith, one, two);
  keeps = b.keeps;
  turns = λ own own-same. (
    wrote k (Some value) own,
    put_more k (Some value) mid.writes new.writes own now
        (subst (λ (l : List writes_of.Write). AreWritesOf l own) (sym b.writes) own-same),
    refl,
  );
}
  where
    reads_placed : ReadsOnly v.layout.decls (Write k value) sets.reads new.reads
    reads_placed = elim b.reads [
      | inl kept ↦
          none_more (IsReadBy v.layout.decls (Write k value)) 1 sets.reads new.reads (same.reads ∙ kept)
      | inr more ↦
          one_more (IsReadBy v.layout.decls (Write k value)) 1 sets.reads new.reads more.0 (omega arith)
          (same.reads ∙ more.3)
          (inr (
            sym more.1,
            subst (λ (q : Key). is_tree v.layout.decls q.storage ≡ true) (sym more.1) tree,
            more.2,
          ))
    ]

-- ---- an addition or subtraction, behind the read

pub may_write_own : (by : By) (k : Key) → MayWrite (op_of k by) k
may_write_own (ways.Add amount) k = refl
may_write_own (ways.Take amount) k = refl

pub meets_own : (by : By) (k : Key) → 1 ≤ meets_most (op_of k by)
meets_own (ways.Add amount) k = omega arith
meets_own (ways.Take amount) k = omega arith

-- it has no value afterwards
pub altered_ends : (by : By) (sets late : Sets) (v w : View) (k : Key) (value : Option ℕ)
    → has_write k sets.writes ≡ false → ReadFirst (op_of k by) k value sets late v w
    → altered by (unwrap_or value 0) ≡ None → Alters (op_of k by) (ended_by by) sets late v w
altered_ends by sets late v w k value none r after =
    stops_so by (op_of k by) sets late v w
    (stops_behind (op_of k by) k value sets late v w r (ended_by by) (λ own same.
    subst (Turns v.layout.decls w.seat.kept own (op_of k by)) (ends by k (unwrap_or value 0) own after)
    (alter_turns by v.layout.decls w.seat.kept own k value
    (sees_first (op_of k by) k value sets late v w r own none same))))

-- it has this one
pub altered_put : (by : By) (sets late new : Sets) (v w : View) (k : Key) (value : Option ℕ) (after : ℕ)
    → has_write k sets.writes ≡ false → ReadFirst (op_of k by) k value sets late v w
    → altered by (unwrap_or value 0) ≡ Some after → KeepsSets late new → AllByRecursion (IsWriteOf (ground w)) new.writes
    → HasPut k (Some after) late.writes new.writes → Alters (op_of k by) Done sets new v w
altered_put by sets late new v w k value after none r is same all now =
    done_put (op_of k by) k value sets late v w r (Some after) new (may_write_own by k) same all now (λ own own-same.
    subst (Turns v.layout.decls w.seat.kept own (op_of k by)) (goes_on by k (unwrap_or value 0) after own is)
    (alter_turns by v.layout.decls w.seat.kept own k value
    (sees_first (op_of k by) k value sets late v w r own none own-same)))
