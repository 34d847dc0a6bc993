-- What a read of a key of a tree comes to.
use Rattle.std.proofs.Common.{◌≡◌, inl, inr, ℕ, ◌+◌, Bool, true, false, true≢false, List, length}
use Rattle.std.proofs.Common.{refl, sym, ap, ◌∙◌, subst, Option, Some, arith, eq-eqb}
use Rattle.std.specs.Prelude.{Contains, if◌then◌else◌, Result, Ok, Err, IfOk}
use Rattle.lists.specs.Elements.{any_in, at_in}
use Rattle.serial_model.specs.declared.decl.Decl.{Decl}
use Rattle.serial_model.specs.declared.decl.Decl.TheVariants.{Tree}
use Rattle.serial_model.specs.declared.key.Key.{Key}
use Rattle.serial_model.specs.declared.op.Op.TheVariants.{Read}
use Rattle.serial_model.specs.Keys.{is_tree_of}
use Rattle.serial_model.specs.Keys as model
use Rattle.serial_model.specs.Step.{reply_of}
use Rattle.commit_core.specs.declared.part.Part.{Part}
use Rattle.serial_bridge.specs.Transaction.{Vouched, Continues}
use Rattle.tx_sets.specs.declared.reads.ReadEntry.{ReadEntry}
use Rattle.tx_sets.specs.declared.sets.Sets.{Sets}
use Rattle.tx_sets.specs.declared.writes.Write.{Write}
use Rattle.tx_sets.specs.Entries.{has_write, read_of, value_of}
use Rattle.wire_form.specs.Leaves.{tree_leaf}
use Rattle.wire_form.specs.Words.{absent_field, number_word}
use Rattle.engine_pages.specs.declared.view.RefusalCause.{RefusalCause}
use Rattle.engine_pages.specs.declared.view.View.{View}
use Rattle.engine_pages.specs.Pages.{decl_of, is_array, is_tree}
use Rattle.engine_pages.specs.Pointers.{one_kind}
use Rattle.tree_walks.proofs.DeclLaws.{tree_there}
use Rattle.page_commit.specs.Live.{IsLive, IsReadPart}
use Rattle.page_commit.specs.Places.{ground, spot_for}
use Rattle.page_commit.specs.Turning.{meets_most, AreWritesOf, HasDone, IsPointerOf, IsReadBy}
use Rattle.page_commit.proofs.FoundLaws.{by_record, nothing_walked, read_entry}
use Rattle.page_commit.proofs.TurnLaws.{heads_same, none_more}
use Rattle.page_commit.proofs.WalkedLaws.{held_same}
use Rattle.page_commit.proofs.WriteLaws.{value_none}
use Rattle.tree_calls.specs.Keeping.{HasValue, entry_value}
use Rattle.tree_calls.proofs.FoundRecord.{value_told}
use Rattle.tree_calls.proofs.OpLaws.{heads_for, held_for, meets_for, reads_for, ways_for}

-- ---- the kind of the key's storage

-- it is declared as a tree's
pub tree_declared : (decls : List Decl) (id : ℕ) → is_tree decls id ≡ true → model.is_tree decls id ≡ true
tree_declared decls id is =
    let t = tree_there decls id is in
    any_in (is_tree_of id) decls (Tree id) (at_in decls t.0 (Tree id) (t.1).there) (eq-eqb id id refl)

-- and not as an array's
pub no_array : (decls : List Decl) (id : ℕ) → is_tree decls id ≡ true → is_array decls id ≡ false
no_array decls id is = by_test (is_array decls id) refl
  where
    by_test : (b : Bool) → is_array decls id ≡ b → is_array decls id ≡ false
    by_test true array = absurd (one_kind (decl_of decls id) array is)
    by_test false array = array

-- ---- a key that was read before

pub value_again : (sets : Sets) (v : View) (k : Key) (e : ReadEntry) → IsLive sets v → is_tree v.layout.decls k.storage ≡ true
    → read_of k sets.reads ≡ Some e → HasValue k (entry_value e) sets sets v v
value_again sets v k e live tree is = record {
  live = live;
  only = nothing_walked v;
  paths = λ x has. inl has;
  held = held_same k sets.holds sets.holds v refl;
  keeps = λ q value had. had;
  touched = refl;
  reads = inl refl;
  pointers = inl refl;
  headers = inl refl;
  writes = refl;
  vouched = subst (λ (q : Key). Vouched v.seat.kept q (entry_value e)) there.1
      (subst (λ (o : Option ℕ). Vouched v.seat.kept e.key o) (sym told)
      (by_record v.seat.kept e.key (spot_for v.layout e.key e.at) (part.2).content
      (subst (λ (q : Part). Contains v.seat.kept q) (part.2).is part.1)));
}
  where
    there : Contains sets.reads e × (e.key ≡ k)
    there = read_entry k sets.reads e is

    part : (q : Part) × Contains v.seat.kept q × IsReadPart (ground v) e q
    part = (live.parts).reads e there.0

    told : entry_value e ≡ ((part.2).content).value
    told =
        value_told (part.2).content e.word e.value ((part.2).shown).small
        (ap (λ (b : Bool). number_word ((part.2).content).number + (if b then 0 else absent_field tree_leaf ((part.2).content).value))
        (sym (no_array v.layout.decls (e.key).storage
        (ap (λ (q : Key). is_tree v.layout.decls q.storage) there.1 ∙ tree)))
        ∙ ((part.2).shown).number)
        (part.2).value

-- ---- the operation

-- a key that the transaction wrote
pub own_read : (sets : Sets) (v : View) (k : Key) (own : Option ℕ) → IsLive sets v → is_tree v.layout.decls k.storage ≡ true
    → value_of k sets.writes ≡ Some own → HasDone (Read k) (Some (reply_of true own)) sets sets v v
own_read sets v k own live tree is = record {
  live = live;
  only = nothing_walked v;
  paths = λ x has. inl has;
  held = λ t has none. absurd (true≢false (sym has ∙ none));
  reads = none_more (IsReadBy v.layout.decls (Read k)) (meets_most (Read k)) sets.reads sets.reads refl;
  pointers = none_more (IsPointerOf v (Read k)) (meets_most (Read k)) sets.pointers sets.pointers refl;
  headers = heads_same v (Read k) sets.headers sets.headers refl;
  joined = inl refl;
  locks = inl refl;
  writes = λ q has. inl has;
  grows = omega arith;
  keeps = λ q x had. had;
  turns = λ changes same. (
    changes,
    same,
    (
      own,
      inl (same k ∙ is),
      ap (λ (b : Bool). Continues (Some (reply_of b own)) changes)
          (sym (tree_declared v.layout.decls k.storage tree)),
    ),
  );
}

-- what was found or read again
pub value_read : (sets new : Sets) (v w : View) (k : Key) (value : Option ℕ) → is_tree v.layout.decls k.storage ≡ true
    → has_write k sets.writes ≡ false → HasValue k value sets new v w
    → HasDone (Read k) (Some (reply_of true value)) sets new v w
value_read sets new v w k value tree none h = record {
  live = h.live;
  only = h.only;
  paths = ways_for (Read k) k v w (inl refl) h.paths;
  held = held_for (Read k) k sets.holds new.holds w (inl refl) h.held;
  reads = reads_for (Read k) k value sets new v w refl (omega arith) h;
  pointers = meets_for (Read k) k value sets new v w refl (omega arith) h;
  headers = heads_for (Read k) k w sets.headers new.headers refl (omega arith) h.headers;
  joined = inr (inl (k, refl));
  locks = inl h.touched;
  writes = λ q has. inl (subst (λ (l : List Write). has_write q l ≡ true) h.writes has);
  grows = let n = ap (λ (l : List Write). length l) h.writes in omega (arith, n);
  keeps = h.keeps;
  turns = λ own same. (
    own,
    subst (λ (l : List Write). AreWritesOf l own) (sym h.writes) same,
    (
      value,
      inr (same k ∙ value_none k sets.writes none, h.vouched),
      ap (λ (b : Bool). Continues (Some (reply_of b value)) own) (sym (tree_declared v.layout.decls k.storage tree)),
    ),
  );
}

pub read_for : (r : Result (Option ℕ) RefusalCause) (sets new : Sets) (v w : View) (k : Key)
    → is_tree v.layout.decls k.storage ≡ true → has_write k sets.writes ≡ false
    → IfOk r (λ value. HasValue k value sets new v w)
    → IfOk r (λ value. HasDone (Read k) (Some (reply_of true value)) sets new v w)
read_for (Ok value) sets new v w k tree none h = value_read sets new v w k value tree none h
read_for (Err why) sets new v w k tree none h = tt
