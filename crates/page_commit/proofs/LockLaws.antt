-- Locks one after another.
use Rattle.std.proofs.Common.{◌≡◌, inl, ◌≢◌, ◌⊎◌, inr, ◌/◌, ◌%◌, ℕ, zero, suc, ◌+◌, ◌<◌, ◌≤◌, ◌^◌, Bool, true, false, eqb}
use Rattle.std.proofs.Common.{List, [], ◌∷◌, ◌++◌, length, take, get_or}
use Rattle.std.proofs.Common.{refl, sym, ap, ◌∙◌, subst, arith, Some, None, Option, append_assoc}
use Rattle.std.specs.Prelude.{MatchBool, Contains, filter, not, ◌==◌, ◌||◌, is_some, unwrap_or}
use Rattle.std.specs.List.{list_any, AllByRecursion}
use Rattle.std.proofs.lemmas.Bool.{eq-eqb, eqb-true, ne_eqb, or_parts, or_from}
use Rattle.std.proofs.lemmas.Bool.{true≢false}
use Rattle.std.proofs.lemmas.List.{append-nil, take_more}
use Rattle.lists.specs.Elements.{in_push_new}
use Rattle.serial_model.specs.declared.key.Key.{Key}
use Rattle.homes.specs.declared.places.Spot.{Spot}
use Rattle.lists.specs.Each.{AreDistinct}
use Rattle.commit_core.specs.CoreState.{can_begin}
use Rattle.tx_sets.specs.declared.reads.ReadEntry.{ReadEntry}
use Rattle.tx_sets.specs.declared.writes.Write.{Write}
use Rattle.tx_sets.specs.Entries.{record_places_of, writes_at}
use Rattle.engine_pages.specs.declared.view.Read.{Read}
use Rattle.engine_pages.specs.declared.view.Took.{Took}
use Rattle.engine_pages.specs.declared.view.View.{View}
use Rattle.page_records.specs.Locks.{lock_bit, open_bits, took_at, locked, IsOpenWord, Locked}
use Rattle.engine_pages.specs.Records.{IsAnyRecordAt}
use Rattle.engine_pages.specs.declared.engine.Engine.{Engine}
use Rattle.engine_pages.specs.Passes.{Pass, view, IsPassOf}
use Rattle.engine_pages.specs.Views.{IsActive}
use Rattle.page_records.specs.Reads.{LoadedWord}
use Rattle.engine_pages.specs.Pages.{is_array}
use Rattle.engine_pages.specs.declared.layout.Layout.{Layout}
use Rattle.page_commit.proofs.AnyPlaces.{any_spot, tree_kind}
use Rattle.page_commit.specs.Places.{ground, spot_at, spot_for, IsAnyKeyAt, IsAnyKeyIn}
use Rattle.array_pages.proofs.ReadLaws.{kept_with}
use Rattle.page_commit.proofs.ReadLaws.{seen_at-same, seen_at-other}
use Rattle.engine_pages.specs.Steps.{kept_at, read_at, seen_at, with_read}
use Rattle.engine_pages.specs.Touches.{touch}
use Rattle.engine_pages.specs.Views.{seat_number}
use Rattle.page_records.specs.Ends.{worker_of}
use Rattle.engine_pages.specs.declared.view.Role.{Role}
use Rattle.engine_pages.specs.declared.view.Role.TheVariants.{Worker}
use Rattle.engine_pages.specs.declared.view.Touch.{Touch}
use Rattle.page_commit.specs.Committing.{changes_of, touches_of}
use Rattle.page_commit.specs.Live.{read_word, AreMet, IsWriteOf}
use Rattle.page_commit.specs.Refusing.{IsConflict, IsTreeConflict}
use Rattle.page_commit.specs.Steps.{keys_of, tooks_of, AreSmall, AreAsRead, KeepOthers, HasGlanced, HasTaken}
use Rattle.page_commit.specs.Steps.{HasLocked, HasLockedAll, IsFree, IsMetSo, IsRecordConflict, IsUnkept, StaysAside}
use Rattle.page_commit.proofs.Lists.{map_push, all_get, in_at}

-- ---- one lock

pub glanced_once : (v w : View) (at n : ℕ) → w ≡ read_at at n v → HasGlanced v w
glanced_once v w at n is =
    let x : View = read_at at n v in record {
      steps = x.steps;
      since = omega arith;
      last = x.last;
      loaded = x.loaded;
      reads = x.reads;
      kept = λ a. kept_with v.reads at n a;
      is = is;
    }

pub glanced_twice : (v w x : View) → HasGlanced v w → HasGlanced w x → HasGlanced v x
glanced_twice v w x h g = record {
  steps = g.steps;
  since = let first : w.steps ≡ h.steps = ap (λ (y : View). y.steps) h.is in omega (arith, h.since, g.since, first);
  last = g.last;
  loaded = g.loaded;
  reads = g.reads;
  kept = λ a. g.kept a ∙ (ap (λ (y : View). kept_at y.reads a) h.is ∙ h.kept a);
  is = g.is ∙ ap (λ (y : View). let z : View = record y {
    steps = g.steps;
    last = g.last;
    loaded = g.loaded;
    reads =
        g.reads;
  } in z) h.is;
}

stands_now : (reads : List Read) (at n : ℕ)
    → Contains (with_read reads at n) (record { word = at; seen = n; was = seen_at reads at; kept = kept_at reads at })
stands_now reads at n =
    in_push_new (record { word = at; seen = n; was = seen_at reads at; kept = kept_at reads at }) (filter (λ (r : Read). not (r.word == at))
    reads)

-- the record is of an array, or not
by_kind : (P : Type 0) (b : Bool) → (b ≡ true → P) → (b ≡ false → P) → P
by_kind P true array other = array refl
by_kind P false array other = other refl

-- behind one load the word of a tree's record is known with the word before
tree_stands : (at seen : ℕ) (o kept : Option ℕ) (reads : List Read) → kept ≡ None → (expected : ℕ) → o ≡ Some expected
    → Contains reads (record { word = at; seen = seen; was = o; kept = kept })
    → Contains reads (record { word = at; seen = seen; was = Some expected; kept = None })
tree_stands at seen o kept reads none expected was has =
    subst (λ (q : Option ℕ). Contains reads (record { word = at; seen = seen; was = q; kept = None })) was
    (subst (λ (q : Option ℕ). Contains reads (record { word = at; seen = seen; was = o; kept = q })) none has)

-- the load found an open word that isn't the one which was read
pub other_conflict : (reads : List ReadEntry) (k : Key) (t at word expected : ℕ) (v w : View) → IsMetSo reads k at v
    → LoadedWord t at v word w → expected ≡ unwrap_or (read_word at reads) word → word ≢ expected
    → IsRecordConflict reads k at expected word v w
other_conflict reads k t at word expected v w met l known other = by_read (read_word at reads) refl
  where
    stands : Contains w.reads (record { word = at; seen = word; was = seen_at v.reads at; kept = kept_at v.reads at })
    stands = subst (λ (y : View). Contains y.reads
        (record { word = at; seen = word; was = seen_at v.reads at; kept = kept_at v.reads at })) (sym l.is)
        (stands_now v.reads at word)

    some_is : (a c : ℕ) → Some a ≡ Some c → a ≡ c
    some_is a c same = cc

    by_read : (o : Option ℕ) → read_word at reads ≡ o → IsRecordConflict reads k at expected word v w
    by_read None none = absurd (other (sym (known ∙ ap (λ q. unwrap_or q word) none)))
    by_read (Some n) read =
        let is : expected ≡ n = known ∙ ap (λ q. unwrap_or q word) read in
        let was : seen_at v.reads at ≡ Some expected = met.read n read ∙ ap (λ m. Some m) (sym is) in
        let so : (m : ℕ) → read_word at reads ≡ Some m → expected ≡ m = λ m of. is ∙ some_is n m (sym read ∙ of) in
        by_kind (IsRecordConflict reads k at expected word v w) (is_array v.layout.decls k.storage)
        (λ array. inl (
          array,
          record {
            step = v.steps;
            last = ap (λ (y : View). y.last) l.is;
            since = omega arith;
            was = seen_at v.reads at;
            kept = kept_at v.reads at;
            stands = stands;
            read = so;
            known = sym (ap (λ o. unwrap_or o word) was);
            cause = inr ((let low = (met.small n read).1 array in omega (arith, low, is)), other);
          },
        ))
        (λ tree. inr (
          tree,
          record {
            step = v.steps;
            last = ap (λ (y : View). y.last) l.is;
            since = omega arith;
            stands = tree_stands at word (seen_at v.reads at) (kept_at v.reads at) w.reads (met.kept tree) expected was stands;
            read = so;
            cause = inr other;
          },
        ))

-- the word was locked, which had been read, or is an array's
pub locked_conflict : (reads : List ReadEntry) (k : Key) (t at word expected : ℕ) (v w : View) → IsMetSo reads k at v
    → LoadedWord t at v word w → expected ≡ unwrap_or (read_word at reads) word → (word / 2 ^ 60) % 2 ≡ 1
    → (is_array v.layout.decls k.storage ≡ false → (n : ℕ) × (read_word at reads ≡ Some n))
    → IsRecordConflict reads k at expected word v w
locked_conflict reads k t at word expected v w met l known bit tree =
    by_kind (IsRecordConflict reads k at expected word v w) (is_array v.layout.decls k.storage) by_array by_tree
  where
    stands : Contains w.reads (record { word = at; seen = word; was = seen_at v.reads at; kept = kept_at v.reads at })
    stands = subst (λ (y : View). Contains y.reads
        (record { word = at; seen = word; was = seen_at v.reads at; kept = kept_at v.reads at })) (sym l.is)
        (stands_now v.reads at word)

    so : (m : ℕ) → read_word at reads ≡ Some m → expected ≡ m
    so m of = known ∙ ap (λ q. unwrap_or q word) of

    by_array : is_array v.layout.decls k.storage ≡ true → IsRecordConflict reads k at expected word v w
    by_array array = inl (
      array,
      record {
        step = v.steps;
        last = ap (λ (y : View). y.last) l.is;
        since = omega arith;
        was = seen_at v.reads at;
        kept = kept_at v.reads at;
        stands = stands;
        read = so;
        known = known ∙ ap (λ o. unwrap_or o word) (sym (met.array array));
        cause = inl (omega (arith, bit));
      },
    )

    by_tree : is_array v.layout.decls k.storage ≡ false → IsRecordConflict reads k at expected word v w
    by_tree other =
        let r = tree other in
        let was : seen_at v.reads at ≡ Some expected = met.read r.0 r.1 ∙ ap (λ m. Some m) (sym (so r.0 r.1)) in
        inr (
          other,
          record {
            step = v.steps;
            last = ap (λ (y : View). y.last) l.is;
            since = omega arith;
            stands = tree_stands at word (seen_at v.reads at) (kept_at v.reads at) w.reads (met.kept other) expected was stands;
            read = so;
            cause = inl bit;
          },
        )

-- a tree's word was locked that hadn't been read, and is loaded once more
pub again_conflict : (reads : List ReadEntry) (k : Key) (t u at word seen : ℕ) (v w x : View) → IsMetSo reads k at v
    → is_array v.layout.decls k.storage ≡ false → read_word at reads ≡ None → LoadedWord t at v word w
    → LoadedWord u at w seen x → (word / 2 ^ 60) % 2 ≡ 1 → IsRecordConflict reads k at word seen v x
again_conflict reads k t u at word seen v w x met tree none first l bit =
    let steps : w.steps ≡ v.steps + 1 = ap (λ (z : View). z.steps) first.is in
    let was : seen_at w.reads at ≡ Some word =
    ap (λ (z : View). seen_at z.reads at) first.is ∙ seen_at-same v.reads at word in
    let kept : kept_at w.reads at ≡ None =
    ap (λ (z : View). kept_at z.reads at) first.is ∙ (kept_with v.reads at word at ∙ met.kept tree) in
    inr (
      tree,
      record {
        step = w.steps;
        last = ap (λ (z : View). z.last) l.is;
        since = omega (arith, steps);
        stands = tree_stands at seen (seen_at w.reads at) (kept_at w.reads at) x.reads kept word was
            (subst (λ (z : View). Contains z.reads
            (record { word = at; seen = seen; was = seen_at w.reads at; kept = kept_at w.reads at })) (sym l.is)
            (stands_now w.reads at seen));
        read = λ n of. absurd (let both : None ≡ Some n = sym none ∙ of in cc);
        cause = by_bit ((seen / 2 ^ 60) % 2) refl;
      },
    )
  where
    by_bit : (b : ℕ) → (seen / 2 ^ 60) % 2 ≡ b → ((seen / 2 ^ 60) % 2 ≡ 1) ⊎ (seen ≢ word)
    by_bit zero is = inr (λ same. let other : zero ≡ 1 = sym is ∙ (ap (λ n. (n / 2 ^ 60) % 2) same ∙ bit) in absurd (omega (arith, other)))
    by_bit (suc b) is = inl (omega (arith, is))

-- what of this is known at run time
pub told_once : (e : Engine) (p : Pass) (reads : List ReadEntry) (k : Key) (t at word : ℕ) (v : View) (b : Bool)
    → IsPassOf e p → LoadedWord t at v word (view p)
    → b ≡ (is_some (read_word at reads) || is_array e.table.shared.key.decls k.storage) → b ≡ true
    → is_array v.layout.decls k.storage ≡ false → (n : ℕ) × (read_word at reads ≡ Some n)
told_once e p reads k t at word v b of l test hit tree = by_read (read_word at reads) refl
  where
    array : is_array e.table.shared.key.decls k.storage ≡ false
    array = ap (λ (y : Layout). is_array y.decls k.storage) (sym of.layout ∙ ap (λ (z : View). z.layout) l.is) ∙ tree

    by_read : (o : Option ℕ) → read_word at reads ≡ o → (n : ℕ) × (read_word at reads ≡ Some n)
    by_read (Some n) is = (n, is)
    by_read None is =
        let none : (is_some (read_word at reads) || is_array e.table.shared.key.decls k.storage) ≡ false =
        ap (λ (o : Option ℕ). is_some o || is_array e.table.shared.key.decls k.storage) is ∙ array in
        absurd (true≢false (sym hit ∙ (test ∙ none)))

pub told_again : (e : Engine) (p : Pass) (reads : List ReadEntry) (k : Key) (t u at word expected seen : ℕ) (v x : View)
    (b : Bool) → IsPassOf e p → IsMetSo reads k at v → LoadedWord t at v word (view p)
    → b ≡ (is_some (read_word at reads) || is_array e.table.shared.key.decls k.storage) → b ≡ false
    → expected ≡ unwrap_or (read_word at reads) word → LoadedWord u at (view p) seen x → (word / 2 ^ 60) % 2 ≡ 1
    → IsRecordConflict reads k at expected seen v x
told_again e p reads k t u at word expected seen v x b of met l test miss known again bit =
    by_read (read_word at reads) refl
  where
    parts : (is_some (read_word at reads) ≡ false) × (is_array e.table.shared.key.decls k.storage ≡ false)
    parts = or_parts (is_some (read_word at reads)) (is_array e.table.shared.key.decls k.storage) (sym test ∙ miss)

    tree : is_array v.layout.decls k.storage ≡ false
    tree = ap (λ (y : Layout). is_array y.decls k.storage) (sym (sym of.layout ∙ ap (λ (z : View). z.layout) l.is)) ∙ parts.1

    by_read : (o : Option ℕ) → read_word at reads ≡ o → IsRecordConflict reads k at expected seen v x
    by_read (Some n) is = absurd (true≢false (sym (ap (λ (o : Option ℕ). is_some o) is) ∙ parts.0))
    by_read None is =
        subst (λ (m : ℕ). IsRecordConflict reads k at m seen v x)
        (sym (known ∙ ap (λ (o : Option ℕ). unwrap_or o word) is))
        (again_conflict reads k t u at word seen v (view p) x met tree is l again bit)

pub glanced_none : (v : View) → HasGlanced v v
glanced_none v = record {
  steps = v.steps;
  since = omega arith;
  last = v.last;
  loaded = v.loaded;
  reads = v.reads;
  kept = λ a. refl;
  is = refl;
}

-- ---- behind the first load

pub loaded_active : (t at n : ℕ) (v w : View) → v.role ≡ Worker (worker_of v.role) → LoadedWord t at v n w
    → IsActive w.role
loaded_active t at n v w worker l = subst IsActive (sym (ap (λ (y : View). y.role) l.is ∙ worker)) tt

pub loaded_key : (k : Key) (t at n : ℕ) (v w : View) → IsAnyKeyAt v k at → LoadedWord t at v n w → IsAnyKeyAt w k at
loaded_key k t at n v w place l = subst (λ (y : View). IsAnyKeyAt y k at) (sym l.is) place

pub loaded_place : (k : Key) (t at n : ℕ) (v w : View) → IsAnyKeyAt v k at → LoadedWord t at v n w
    → IsAnyRecordAt w k (spot_for w.layout k at) at
loaded_place k t at n v w place l = any_spot w k at (loaded_key k t at n v w place l)

pub bit_set : (n : ℕ) (b : Bool) → b ≡ ((n / 2 ^ 60) % 2 == 1) → b ≡ true → (n / 2 ^ 60) % 2 ≡ 1
bit_set n b test hit = eqb-true ((n / 2 ^ 60) % 2) 1 (sym test ∙ hit)

bit_clear : (n : ℕ) (b : Bool) → b ≡ ((n / 2 ^ 60) % 2 == 1) → b ≡ false → (n / 2 ^ 60) % 2 ≡ 0
bit_clear n b test miss = by_bit ((n / 2 ^ 60) % 2) refl
  where
    by_bit : (m : ℕ) → (n / 2 ^ 60) % 2 ≡ m → (n / 2 ^ 60) % 2 ≡ 0
    by_bit zero is = is
    by_bit (suc m) is =
        let one : (n / 2 ^ 60) % 2 ≡ 1 = omega (arith, is) in
        absurd (true≢false (sym (eq-eqb ((n / 2 ^ 60) % 2) 1 one) ∙ (sym test ∙ miss)))

pub open_loaded : (t at n expected : ℕ) (b : Bool) (v w : View) → LoadedWord t at v n w → b ≡ ((n / 2 ^ 60) % 2 == 1)
    → b ≡ false → n ≡ expected → IsOpenWord expected
open_loaded t at n expected b v w l test miss same =
    subst IsOpenWord same (open_bits n l.few (bit_clear n b test miss))

-- an array's open word has no bit above its number
pub plain_loaded : (k : Key) (t at n : ℕ) (b : Bool) (v w : View) → IsAnyKeyAt v k at → LoadedWord t at v n w
    → b ≡ ((n / 2 ^ 60) % 2 == 1) → b ≡ false → is_array v.layout.decls k.storage ≡ true → n < 2 ^ 60
plain_loaded k t at n b v w place l test miss array = by_place place
  where
    by_place : IsAnyKeyAt v k at → n < 2 ^ 60
    by_place (inl p) =
        let less = l.array k (spot_at v.layout.slots at) p in
        let clear = bit_clear n b test miss in omega (arith, less, clear)
    by_place (inr p) = absurd (true≢false (sym array ∙ tree_kind (ground v) k at p))

-- the compare_exchange found another word than the load
pub lock_conflict : (reads : List ReadEntry) (k : Key) (p : Spot) (t at word expected seen : ℕ) (v w y : View)
    → IsMetSo reads k at v → LoadedWord t at v word w → expected ≡ unwrap_or (read_word at reads) word → word ≡ expected
    → (is_array v.layout.decls k.storage ≡ true → word < 2 ^ 60)
    → seen ≢ expected → Locked k p at expected w seen y → IsRecordConflict reads k at expected seen v y
lock_conflict reads k p t at word expected seen v w y met first known same small other l =
    by_kind (IsRecordConflict reads k at expected seen v y) (is_array v.layout.decls k.storage)
    (λ array. inl (
      array,
      record {
        step = w.steps;
        last = ap (λ (z : View). z.last) is2;
        since = omega (arith, steps);
        was = seen_at w.reads at;
        kept = kept_at w.reads at;
        stands = stands;
        read = so;
        known = sym (ap (λ o. unwrap_or o seen) was);
        cause = inr ((let low = small array in omega (arith, low, same)), other);
      },
    ))
    (λ tree. inr (
      tree,
      record {
        step = w.steps;
        last = ap (λ (z : View). z.last) is2;
        since = omega (arith, steps);
        stands = tree_stands at seen (seen_at w.reads at) (kept_at w.reads at) y.reads
            (ap (λ (z : View). kept_at z.reads at) first.is ∙ (kept_with v.reads at word at ∙ met.kept tree)) expected was stands;
        read = so;
        cause = inr other;
      },
    ))
  where
    miss : eqb seen expected ≡ false
    miss = ne_eqb seen expected other

    is2 : y ≡ read_at at seen w
    is2 = subst (λ b. MatchBool b (y ≡ locked k p at seen w) (y ≡ read_at at seen w)) miss l

    steps : w.steps ≡ v.steps + 1
    steps = ap (λ (z : View). z.steps) first.is

    was : seen_at w.reads at ≡ Some expected
    was = ap (λ (z : View). seen_at z.reads at) first.is ∙ (seen_at-same v.reads at word ∙ ap (λ m. Some m) same)

    so : (m : ℕ) → read_word at reads ≡ Some m → expected ≡ m
    so m of = known ∙ ap (λ q. unwrap_or q word) of

    stands : Contains y.reads (record { word = at; seen = seen; was = seen_at w.reads at; kept = kept_at w.reads at })
    stands = subst (λ (z : View). Contains z.reads
        (record { word = at; seen = seen; was = seen_at w.reads at; kept = kept_at w.reads at })) (sym is2)
        (stands_now w.reads at seen)

pub lock_glanced : (k : Key) (p : Spot) (at word expected seen : ℕ) (v w x : View) → w ≡ read_at at word v
    → seen ≢ expected → Locked k p at expected w seen x → HasGlanced v x
lock_glanced k p at word expected seen v w x is other l =
    let miss : eqb seen expected ≡ false = ne_eqb seen expected other in
    let is2 : x ≡ read_at at seen w = subst (λ b. MatchBool b (x ≡ locked k p at seen w) (x ≡ read_at at seen w)) miss l
    in
    glanced_twice v w x (glanced_once v w at word is) (glanced_once w x at seen is2)

pub taken : (k : Key) (at word expected seen : ℕ) (v w x : View) → w ≡ read_at at word v → seen ≡ expected
    → Locked k (spot_for w.layout k at) at expected w seen x → HasTaken k at seen v x
taken k at word expected seen v w x is same l =
    let p : Spot = spot_for w.layout k at in
    let there : p ≡ spot_for v.layout k at = ap (λ (y : View). spot_for y.layout k at) is in
    let hit : eqb seen expected ≡ true = eq-eqb seen expected same in
    let is2 : x ≡ locked k p at seen w = subst (λ b. MatchBool b (x ≡ locked k p at seen w) (x ≡ read_at at seen w)) hit l
    in
    let z : View = locked k p at seen (read_at at word v) in record {
      steps = z.steps;
      since = omega arith;
      last = z.last;
      loaded = z.loaded;
      reads = z.reads;
      others = λ other apart. seen_at-other (with_read v.reads at word) at (seen + lock_bit) other apart
          ∙ seen_at-other v.reads at word other apart;
      kept = λ a. kept_with (with_read v.reads at word) at (seen + lock_bit) a ∙ kept_with v.reads at word a;
      is = is2 ∙ (ap (locked k p at seen) is ∙ ap (λ (q : Spot). locked k q at seen (read_at at word v)) there);
    }

pub taken_known : (reads : List ReadEntry) (at word expected seen : ℕ) → expected ≡ unwrap_or (read_word at reads) word
    → word ≡ expected → seen ≡ expected → seen ≡ unwrap_or (read_word at reads) seen
taken_known reads at word expected seen known first same =
    same ∙ (known ∙ ap (unwrap_or (read_word at reads)) (first ∙ sym same))

-- ---- a conflict is one of the whole call

pub conflict_since : (reads : List ReadEntry) (at expected seen : ℕ) (v w x : View)
    → v.steps ≤ w.steps → IsConflict reads at expected seen w x → IsConflict reads at expected seen v x
conflict_since reads at expected seen v w x steps c = record {
  step = c.step;
  last = c.last;
  since = omega (arith, steps, c.since);
  was = c.was;
  kept = c.kept;
  stands = c.stands;
  read = c.read;
  known = c.known;
  cause = c.cause;
}

-- the same of a tree's record
tree_since : (reads : List ReadEntry) (at expected seen : ℕ) (v w x : View)
    → v.steps ≤ w.steps → IsTreeConflict reads at expected seen w x → IsTreeConflict reads at expected seen v x
tree_since reads at expected seen v w x steps c = record {
  step = c.step;
  last = c.last;
  since = omega (arith, steps, c.since);
  stands = c.stands;
  read = c.read;
  cause = c.cause;
}

pub record_since : (reads : List ReadEntry) (k : Key) (at expected seen : ℕ) (v w x : View)
    → v.steps ≤ w.steps → w.layout ≡ v.layout → IsRecordConflict reads k at expected seen w x
    → IsRecordConflict reads k at expected seen v x
record_since reads k at expected seen v w x steps layout (inl c) = inl (
  subst (λ (l : Layout). is_array l.decls k.storage ≡ true) layout c.0,
  conflict_since reads at expected seen v w x steps c.1,
)
record_since reads k at expected seen v w x steps layout (inr c) = inr (
  subst (λ (l : Layout). is_array l.decls k.storage ≡ false) layout c.0,
  tree_since reads at expected seen v w x steps c.1,
)

pub tree_then : (reads : List ReadEntry) (ws : List Write) (at expected seen : ℕ) (u v x y : View) → u.steps ≤ v.steps
    → y.last ≡ x.last → KeepOthers ws x.reads y.reads → writes_at at ws ≡ false
    → IsTreeConflict reads at expected seen v x → IsTreeConflict reads at expected seen u y
tree_then reads ws at expected seen u v x y steps last others apart c = record {
  step = c.step;
  last = last ∙ c.last;
  since = let low = c.since in omega (arith, steps, low);
  stands = others (record { word = at; seen = seen; was = Some expected; kept = None }) c.stands apart;
  read = c.read;
  cause = c.cause;
}

pub conflict_then : (reads : List ReadEntry) (ws : List Write) (at expected seen : ℕ) (v x y : View)
    → y.last ≡ x.last → KeepOthers ws x.reads y.reads → writes_at at ws ≡ false
    → IsConflict reads at expected seen v x → IsConflict reads at expected seen v y
conflict_then reads ws at expected seen v x y last others apart c = record {
  step = c.step;
  last = last ∙ c.last;
  since = c.since;
  was = c.was;
  kept = c.kept;
  stands = others (record { word = at; seen = seen; was = c.was; kept = c.kept }) c.stands apart;
  read = c.read;
  known = c.known;
  cause = c.cause;
}

-- ---- one lock more

tooks_push : (lay : Layout) (ws : List Write) (found : List ℕ) (w : Write) (n : ℕ) → length found ≡ length ws
    → tooks_of lay (ws ++ w ∷ []) (found ++ n ∷ []) ≡ tooks_of lay ws found ++ took_at w.key (spot_for lay w.key w.at) n ∷ []
tooks_push lay [] [] w n same = refl
tooks_push lay [] (m ∷ found) w n same = absurd (omega arith)
tooks_push lay (x ∷ ws) [] w n same = absurd (omega arith)
tooks_push lay (x ∷ ws) (m ∷ found) w n same = ap (λ l. took_at x.key (spot_for lay x.key x.at) m ∷ l) (tooks_push lay ws found w n (omega arith))

pub as_read_push : (reads : List ReadEntry) (ws : List Write) (found : List ℕ) (w : Write) (n : ℕ)
    → length found ≡ length ws → n ≡ unwrap_or (read_word w.at reads) n → AreAsRead reads ws found
    → AreAsRead reads (ws ++ w ∷ []) (found ++ n ∷ [])
as_read_push reads [] [] w n same known are = (known, tt)
as_read_push reads [] (m ∷ found) w n same known are = absurd (omega arith)
as_read_push reads (x ∷ ws) [] w n same known are = absurd (omega arith)
as_read_push reads (x ∷ ws) (m ∷ found) w n same known are =
    (are.0, as_read_push reads ws found w n (omega arith) known are.1)

length_push : {A : Type 0} (xs : List A) (x : A) → length (xs ++ x ∷ []) ≡ length xs + 1
length_push [] x = refl
length_push (y ∷ xs) x = let rest = length_push xs x in omega (arith, rest)

abbrev with_locks : View → List Key → List Took → List Touch → View → View
with_locks v locks took touched w = record v {
  seat = record v.seat { locks = locks };
  took = took;
  touched = touched;
  steps = w.steps;
  last = w.last;
  loaded = w.loaded;
  reads = w.reads;
}

pub locked_none : (v : View) → IsFree v → HasLocked [] [] v v
locked_none v free = record {
  count = refl;
  steps = v.steps;
  since = omega arith;
  last = v.last;
  loaded = v.loaded;
  reads = v.reads;
  kept = λ a. refl;
  is = ap (λ l. with_locks v l v.took v.touched v) free.locks ∙ (ap (λ l. with_locks v [] l v.touched v) free.took
      ∙ ap (λ l. with_locks v [] [] l v) (sym (append-nil v.touched)));
}

touches_push : (q : ℕ) (ws : List Write) (w : Write)
    → touches_of q (changes_of ws) ++ touch q w.key ∷ [] ≡ touches_of q (changes_of (ws ++ w ∷ []))
touches_push q [] w = refl
touches_push q (x ∷ ws) w = ap (λ (l : List Touch). touch q x.key ∷ l) (touches_push q ws w)

pub locked_one : (ws : List Write) (found : List ℕ) (one : Write) (n : ℕ) (v w x : View) → HasLocked ws found v w
    → HasTaken one.key one.at n w x → HasLocked (ws ++ one ∷ []) (found ++ n ∷ []) v x
locked_one ws found one n v w x h t =
    let y : View = record v { steps = t.steps; last = t.last; loaded = t.loaded; reads = t.reads } in
    let steps : w.steps ≡ h.steps = ap (λ (z : View). z.steps) h.is in
    let count = length_push found n in
    let count' = length_push ws one in
    let more : View → View = λ (z : View). with_locks z (z.seat.locks ++ one.key ∷ []) (z.took
    ++ took_at one.key (spot_for z.layout one.key one.at) n ∷ []) (z.touched ++ touch (seat_number z.role) one.key ∷ []) y in
    let q : ℕ = seat_number v.role in
    let touched : List Touch = (v.touched ++ touches_of q (changes_of ws)) ++ touch q one.key ∷ [] in
    let touched-is : touched ≡ v.touched ++ touches_of q (changes_of (ws ++ one ∷ [])) =
    append_assoc v.touched (touches_of q (changes_of ws)) (touch q one.key ∷ [])
    ∙ ap (λ (l : List Touch). v.touched ++ l) (touches_push q ws one) in record {
      count = omega (arith, h.count, count, count');
      steps = t.steps;
      since = omega (arith, steps, h.since, t.since);
      last = t.last;
      loaded = t.loaded;
      reads = t.reads;
      kept = λ a. t.kept a ∙ (ap (λ (z : View). kept_at z.reads a) h.is ∙ h.kept a);
      is = t.is ∙ (ap more h.is
          ∙ (ap (λ l. with_locks v l (tooks_of v.layout ws found ++ took_at one.key (spot_for v.layout one.key one.at) n ∷ []) touched y)
          (sym (map_push (λ (z : Write). z.key) ws one))
          ∙ (ap (λ l. with_locks v (keys_of (ws ++ one ∷ [])) l touched y) (sym (tooks_push v.layout ws found one n h.count))
          ∙ ap (λ l. with_locks v (keys_of (ws ++ one ∷ [])) (tooks_of v.layout (ws ++ one ∷ []) (found ++ n ∷ [])) l y)
          touched-is)));
    }

pub locked_then : (ws : List Write) (found : List ℕ) (v w x : View) → HasLocked ws found v w → HasGlanced w x
    → HasLocked ws found v x
locked_then ws found v w x h g =
    let y : View = record v { steps = g.steps; last = g.last; loaded = g.loaded; reads = g.reads } in
    let steps : w.steps ≡ h.steps = ap (λ (z : View). z.steps) h.is in record {
      count = h.count;
      steps = g.steps;
      since = omega (arith, steps, h.since, g.since);
      last = g.last;
      loaded = g.loaded;
      reads = g.reads;
      kept = λ a. g.kept a ∙ (ap (λ (z : View). kept_at z.reads a) h.is ∙ h.kept a);
      is = g.is ∙ ap (λ (z : View). with_locks z z.seat.locks z.took z.touched y) h.is;
    }

-- ---- words that are not locked

any_parts : (p : Write → Bool) (l : List Write) (y : Write) → list_any p (l ++ y ∷ []) ≡ false
    → (list_any p l ≡ false) × (p y ≡ false)
any_parts p [] y none = (refl, (or_parts (p y) false none).0)
any_parts p (z ∷ l) y none =
    let parts = or_parts (p z) (list_any p (l ++ y ∷ [])) none in
    let rest = any_parts p l y parts.1 in (or_from (p z) (list_any p l) parts.0 rest.0, rest.1)

-- a word that is none of these records' is known as it was
pub aside_one : (ws : List Write) (one : Write) (n : ℕ) (v w x : View) → HasTaken one.key one.at n w x
    → StaysAside ws v w → StaysAside (ws ++ one ∷ []) v x
aside_one ws one n v w x t aside at clear =
    let parts = any_parts (λ (y : Write). y.at == at) ws one clear in
    let apart : one.at ≢ at = λ same. true≢false (sym (eq-eqb one.at at same) ∙ parts.1) in
    ap (λ (y : View). seen_at y.reads at) t.is ∙ (t.others at apart ∙ aside at parts.0)

-- ---- the loop

abbrev pub blank : Write
blank = record { key = record { storage = 0; key = 0 }; value = None; at = 0 }

pub can_lock : (ws : List Write) (found : List ℕ) (v w : View) → IsFree v → HasLocked ws found v w
    → w.role ≡ Worker (worker_of w.role)
can_lock ws found v w free h =
    subst (λ (r : Role). r ≡ Worker (worker_of r)) (sym (ap (λ (y : View). y.role) h.is)) free.worker

pub idle_still : (ws : List Write) (found : List ℕ) (v w : View) → IsFree v → HasLocked ws found v w
    → can_begin w.seat.stage ≡ true
idle_still ws found v w free h = ap (λ (y : View). can_begin y.seat.stage) h.is ∙ ap can_begin free.stage

pub place_at : (ws : List Write) (found : List ℕ) (done : ℕ) (d : Write) (v w : View)
    → AllByRecursion (IsWriteOf (ground v)) ws → HasLocked (take done ws) found v w → done < length ws
    → IsAnyKeyAt w (get_or ws done d).key (get_or ws done d).at
place_at ws found done d v w all h lt =
    subst (λ (y : View). IsAnyKeyAt y (get_or ws done d).key (get_or ws done d).at) (sym h.is)
    (all_get (IsWriteOf (ground v)) ws done d lt all).place

-- a word isn't among those of the writes before it
pub not_before_at : (ws : List Write) (i : ℕ) (d : Write) → AreDistinct (record_places_of ws) → i < length ws
    → writes_at (get_or ws i d).at (take i ws) ≡ false
not_before_at [] i d are lt = absurd (omega arith)
not_before_at (x ∷ xs) zero d are lt = refl
not_before_at (x ∷ xs) (suc i) d are lt =
    let one : Write = get_or xs i d in
    or_from (x.at == one.at) (writes_at one.at (take i xs))
    (ne_eqb x.at one.at (all_other x.at xs i d are.0 (omega arith)))
    (not_before_at xs i d are.1 (omega arith))
  where
    all_other : (at : ℕ) (l : List Write) (j : ℕ) (e : Write) → AllByRecursion (λ q. at ≢ q) (record_places_of l)
        → j < length l → at ≢ (get_or l j e).at
    all_other at [] j e all less = absurd (omega arith)
    all_other at (y ∷ l) zero e all less = all.0
    all_other at (y ∷ l) (suc j) e all less = all_other at l j e all.1 (omega arith)

-- the record to be locked is known as it was read
pub met_at : (reads : List ReadEntry) (ws : List Write) (found : List ℕ) (done : ℕ) (d : Write) (v w : View)
    → AllByRecursion (IsWriteOf (ground v)) ws → AreDistinct (record_places_of ws) → AreMet reads [] v
    → AreSmall reads (ground v) → AllByRecursion (IsUnkept v) ws
    → HasLocked (take done ws) found v w → StaysAside (take done ws) v w → done < length ws
    → IsMetSo reads (get_or ws done d).key (get_or ws done d).at w
met_at reads ws found done d v w all apart met small unkept h aside lt =
    let one : Write = get_or ws done d in
    let place : IsAnyKeyIn (ground v) one.key one.at = (all_get (IsWriteOf (ground v)) ws done d lt all).place in
    let now : seen_at w.reads one.at ≡ seen_at v.reads one.at = aside one.at (not_before_at ws done d apart lt) in
    let layout : w.layout ≡ v.layout = ap (λ (y : View). y.layout) h.is in record {
      array = λ array.
          now ∙ by_array one place (subst (λ (l : Layout). is_array l.decls one.key.storage ≡ true) layout array);
      read = λ n of. now ∙ by_read one place n of;
      kept = λ tree.
          ap (λ (y : View). kept_at y.reads one.at) h.is
          ∙ (h.kept one.at ∙ all_get (IsUnkept v) ws done d lt unkept
          (subst (λ (l : Layout). is_array l.decls one.key.storage ≡ false) layout tree));
      small = λ n of.
          let r = small one.key one.at n place of in
          (r.0, λ array. r.1 (subst (λ (l : Layout). is_array l.decls one.key.storage ≡ true) layout array));
    }
  where
    by_array : (one : Write) → IsAnyKeyIn (ground v) one.key one.at → is_array v.layout.decls one.key.storage ≡ true
        → seen_at v.reads one.at ≡ read_word one.at reads
    by_array one (inl p) array = met.arrays one.key one.at p refl
    by_array one (inr p) array = absurd (true≢false (sym array ∙ tree_kind (ground v) one.key one.at p))

    by_read : (one : Write) → IsAnyKeyIn (ground v) one.key one.at → (n : ℕ) → read_word one.at reads ≡ Some n
        → seen_at v.reads one.at ≡ Some n
    by_read one (inl p) n of = met.arrays one.key one.at p refl ∙ of
    by_read one (inr p) n of = met.trees one.key one.at n p refl of

pub locked_so_far : (ws : List Write) (found more : List ℕ) (done : ℕ) (d : Write) (n : ℕ) (v w x : View)
    → done < length ws
    → more ≡ found ++ n ∷ [] → HasLocked (take done ws) found v w
    → HasTaken (get_or ws done d).key (get_or ws done d).at n w x → HasLocked (take (done + 1) ws) more v x
locked_so_far ws found more done d n v w x lt push h t =
    subst (λ l. HasLocked l more v x) (sym (take_more ws done d lt))
    (subst (λ l. HasLocked (take done ws ++ get_or ws done d ∷ []) l v x) (sym push)
    (locked_one (take done ws) found (get_or ws done d) n v w x h t))

pub read_so_far : (reads : List ReadEntry) (ws : List Write) (found more : List ℕ) (done : ℕ) (d : Write) (n : ℕ)
    (v w : View)
    → done < length ws → more ≡ found ++ n ∷ [] → HasLocked (take done ws) found v w
    → n ≡ unwrap_or (read_word (get_or ws done d).at reads) n → AreAsRead reads (take done ws) found
    → AreAsRead reads (take (done + 1) ws) more
read_so_far reads ws found more done d n v w lt push h known are =
    subst (λ l. AreAsRead reads l more) (sym (take_more ws done d lt))
    (subst (λ l. AreAsRead reads (take done ws ++ get_or ws done d ∷ []) l) (sym push)
    (as_read_push reads (take done ws) found (get_or ws done d) n h.count known are))

pub aside_so_far : (ws : List Write) (done : ℕ) (d : Write) (n : ℕ) (v w x : View) → done < length ws
    → HasTaken (get_or ws done d).key (get_or ws done d).at n w x → StaysAside (take done ws) v w
    → StaysAside (take (done + 1) ws) v x
aside_so_far ws done d n v w x lt t aside =
    subst (λ l. StaysAside l v x) (sym (take_more ws done d lt))
    (aside_one (take done ws) (get_or ws done d) n v w x t aside)

-- where the loop stops

pub take_count : (ws : List Write) (done : ℕ) → done ≤ length ws → length (take done ws) ≡ done
take_count [] zero le = refl
take_count [] (suc done) le = absurd (omega arith)
take_count (w ∷ ws) zero le = refl
take_count (w ∷ ws) (suc done) le = let rest = take_count ws done (omega arith) in omega (arith, rest)

pub found_count : (ws : List Write) (found : List ℕ) (done : ℕ) (v w : View) → done ≤ length ws
    → HasLocked (take done ws) found v w → length found ≡ done
found_count ws found done v w le h = h.count ∙ take_count ws done le

pub lock_stopped : (ws : List Write) (found : List ℕ) (done : ℕ) (v w x : View) → done ≤ length ws
    → HasLocked (take done ws) found v w → HasGlanced w x → HasLocked (take (length found) ws) found v x
lock_stopped ws found done v w x le h g =
    subst (λ n. HasLocked (take n ws) found v x) (sym (found_count ws found done v w le h))
    (locked_then (take done ws) found v w x h g)

pub lock_apart : (ws : List Write) (found : List ℕ) (done : ℕ) (d : Write) (at : ℕ) (v w : View)
    → AreDistinct (record_places_of ws) → done < length ws → at ≡ (get_or ws done d).at
    → HasLocked (take done ws) found v w → writes_at at (take (length found) ws) ≡ false
lock_apart ws found done d at v w apart lt same h =
    subst (λ n. writes_at at (take n ws) ≡ false) (sym (found_count ws found done v w (omega arith) h))
    (subst (λ n. writes_at n (take done ws) ≡ false) (sym same) (not_before_at ws done d apart lt))

pub lock_refused : (reads : List ReadEntry) (ws : List Write) (found : List ℕ) (done : ℕ) (d : Write)
    (at expected seen : ℕ) (v w x : View) → done < length ws → at ≡ (get_or ws done d).at
    → HasLocked (take done ws) found v w → IsRecordConflict reads (get_or ws done d).key at expected seen w x
    → (one : Write) × Contains ws one × (one.at ≡ at) × IsRecordConflict reads one.key at expected seen v x
lock_refused reads ws found done d at expected seen v w x lt same h c =
    let steps : w.steps ≡ h.steps = ap (λ (y : View). y.steps) h.is in (
      get_or ws done d,
      in_at ws done d lt,
      sym same,
      record_since reads (get_or ws done d).key at expected seen v w x (omega (arith, steps, h.since))
          (ap (λ (y : View). y.layout) h.is) c,
    )

pub held_within : (ws : List Write) (found held : List ℕ) → held ≡ found → length found ≤ length ws
    → length held ≤ length ws
held_within ws found held same le = subst (λ (l : List ℕ). length l ≤ length ws) (sym same) le

-- ---- all of them

pub all_locked : (reads : List ReadEntry) (ws : List Write) (found : List ℕ) (done : ℕ) (v w : View) → take done ws ≡ ws
    → HasLocked (take done ws) found v w → AreAsRead reads (take done ws) found
    → StaysAside (take done ws) v w → HasLockedAll reads ws found v w
all_locked reads ws found done v w all locked known aside = record {
  locked = subst (λ (l : List Write). HasLocked l found v w) all locked;
  known = subst (λ (l : List Write). AreAsRead reads l found) all known;
  aside = subst (λ (l : List Write). StaysAside l v w) all aside;
}
