-- What a removal of a key of a tree comes to, by what is seen there.
use Rattle.std.proofs.Common.{◌≡◌, inl, ℕ, true, true≢false, false, List, Option, Some, None}
use Rattle.std.proofs.Common.{refl, sym, ◌∙◌, subst, arith}
use Rattle.std.specs.List.{AllByRecursion}
use Rattle.serial_model.specs.declared.key.Key.{Key}
use Rattle.serial_model.specs.declared.op.Op.TheVariants.{Remove}
use Rattle.drop_core.specs.Table.{has_slot}
use Rattle.serial_bridge.specs.Transaction.{wrote}
use Rattle.tx_sets.specs.declared.sets.Sets.{Sets}
use Rattle.tx_sets.specs.Entries.{has_write, value_of}
use Rattle.engine_pages.specs.declared.view.View.{View}
use Rattle.page_commit.specs.Keeping.{KeepsSets}
use Rattle.page_commit.specs.Live.{IsLive, IsWriteOf}
use Rattle.page_commit.specs.Places.{ground}
use Rattle.page_commit.specs.Turning.{meets_most, HasDone, IsPointerOf, IsReadBy}
use Rattle.page_commit.proofs.FoundLaws.{nothing_walked}
use Rattle.page_commit.proofs.TurnLaws.{heads_same, none_more, same_live}
use Rattle.tree_writes.proofs.ReadFirst.{done_put, done_same, sees_first, ReadFirst}
use Rattle.tree_writes.proofs.ValueWrites.{put_more, put_only, HasPut}

-- ---- a key that the transaction wrote

-- it had a value, and has none now
pub own_removed : (sets new : Sets) (v : View) (k : Key) (before : ℕ) → IsLive sets v
    → value_of k sets.writes ≡ Some (Some before) → KeepsSets sets new
    → AllByRecursion (IsWriteOf (ground v)) new.writes → HasPut k None sets.writes new.writes
    → HasDone (Remove k) None sets new v v
own_removed sets new v k before live is same all now = record {
  live = same_live sets new v live same.reads same.pointers same.holds same.headers all;
  only = nothing_walked v;
  paths = λ x has. inl has;
  held = λ t has none. absurd (true≢false (sym has ∙ subst (λ (l : List ℕ). has_slot l t ≡ false) (sym same.holds) none));
  reads = none_more (IsReadBy v.layout.decls (Remove k)) (meets_most (Remove k)) sets.reads new.reads same.reads;
  pointers = none_more (IsPointerOf v (Remove k)) (meets_most (Remove k)) sets.pointers new.pointers same.pointers;
  headers = heads_same v (Remove k) sets.headers new.headers same.headers;
  joined = inl refl;
  locks = inl refl;
  writes = λ q has. put_only k None sets.writes new.writes q now has;
  grows = now.grows;
  keeps = λ q x had. had;
  turns = λ own own-same. (
    wrote k None own,
    put_more k None sets.writes new.writes own now own-same,
    (Some before, inl (own-same k ∙ is), refl),
  );
}

-- it was removed before
pub own_gone : (sets : Sets) (v : View) (k : Key) → IsLive sets v → value_of k sets.writes ≡ Some None
    → HasDone (Remove k) None sets sets v v
own_gone sets v k live is = record {
  live = live;
  only = nothing_walked v;
  paths = λ x has. inl has;
  held = λ t has none. absurd (true≢false (sym has ∙ none));
  reads = none_more (IsReadBy v.layout.decls (Remove k)) (meets_most (Remove k)) sets.reads sets.reads refl;
  pointers = none_more (IsPointerOf v (Remove k)) (meets_most (Remove k)) sets.pointers sets.pointers refl;
  headers = heads_same v (Remove k) sets.headers sets.headers refl;
  joined = inl refl;
  locks = inl refl;
  writes = λ q has. inl has;
  grows = omega arith;
  keeps = λ q x had. had;
  turns = λ own own-same. (own, own-same, (None, inl (own-same k ∙ is), refl));
}

-- ---- one that it read

-- it has no value: nothing is written
pub read_gone : (sets late : Sets) (v w : View) (k : Key) (value : Option ℕ) → value ≡ None
    → has_write k sets.writes ≡ false → ReadFirst (Remove k) k value sets late v w
    → HasDone (Remove k) None sets late v w
read_gone sets late v w k (Some n) is none r = absurd cc
read_gone sets late v w k None is none r =
    done_same (Remove k) k None sets late v w r
    (λ own same. (None, sees_first (Remove k) k None sets late v w r own none same, refl))

-- it has one, and none afterwards
pub read_removed : (sets late new : Sets) (v w : View) (k : Key) (value : Option ℕ) (before : ℕ) → value ≡ Some before
    → has_write k sets.writes ≡ false → ReadFirst (Remove k) k value sets late v w → KeepsSets late new
    → AllByRecursion (IsWriteOf (ground w)) new.writes → HasPut k None late.writes new.writes
    → HasDone (Remove k) None sets new v w
read_removed sets late new v w k None before is none r same all now = absurd cc
read_removed sets late new v w k (Some n) before is none r same all now =
    done_put (Remove k) k (Some n) sets late v w r None new refl same all now
    (λ own own-same. (Some n, sees_first (Remove k) k (Some n) sets late v w r own none own-same, refl))
