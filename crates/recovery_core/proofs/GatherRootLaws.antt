-- The records of all storages, one after another.
use Rattle.std.proofs.Common.{◌≡◌, ◌≢◌, ℕ, ◌+◌, ◌<◌, zero, suc, List, [], ◌∷◌, ◌++◌, length, map}
use Rattle.std.proofs.Common.{get_or, take, Option, Some, None, refl, sym, ap, subst, ◌∙◌, arith, inl, inr}
use Rattle.std.specs.Prelude.{cond, ◌==◌}
use Rattle.std.specs.List.{AllByRecursion}
use Rattle.std.specs.FinMap.{get, empty, get-empty}
use Rattle.std.proofs.lemmas.List.{take_more}
use Rattle.std.proofs.lemmas.Bool.{cases_eq, cases_lt}
use Rattle.lists.specs.Each.{all_push}
use Rattle.serial_model.specs.Keys.{key_cmp, id_of}
use Rattle.serial_model.specs.State.{State}
use Rattle.serial_model.specs.declared.key.Key.{Key}
use Rattle.serial_model.specs.declared.decl.Decl.{Decl}
use Rattle.serial_model.specs.declared.decl.Decl.TheVariants.{Array, Tree}
use Rattle.wire_form.specs.Items.{RisesAfter, Rises}
use Rattle.wire_form.specs.Pages.{stored_id}
use Rattle.wire_form.specs.declared.records.Stored.{Stored}
use Rattle.snapshot_store.specs.declared.place.PagePlace.{PagePlace}
use Rattle.snapshot_store.specs.Places.{Found}
use Rattle.snapshot_store.specs.ArrayPages.{IsLevel, array_format}
use Rattle.snapshot_store.specs.TreePages.{tree_format}
use Rattle.snapshot_store.specs.Content.{deepest, root_place, format_of, record_in, value_of, value_at}
use Rattle.snapshot_store.specs.ReadLaws.{last_small, root_level}
use Rattle.recovery_core.specs.SnapshotPages.{IsPageUpTo, RootStandsUpTo}
use Rattle.recovery_core.specs.Damage.{FirstBad, BreaksTo, RootBreaks}
use Rattle.recovery_core.specs.Gather.{put_over, found_at, root_records, Gathered, RootGathered}
use Rattle.recovery_core.proofs.GatherLaws.{le_yes, le_no, lt_yes, lt_no, eq_yes, eq_no, puts_same}

-- ---- a storage

-- an array's root stands for the range of a page, and its indexes are small
pub array_level : (s : Stored) (id size : ℕ) (p : PagePlace) → s.decl ≡ Array id size → p ≡ root_place s.decl s.root
    → IsLevel 32 p.low p.high × (p.high < 4294967296)
array_level s id size p is place =
    let same : p ≡ root_place (Array id size) s.root = place ∙ ap (λ d. root_place d s.root) is in
    subst (λ (q : PagePlace). IsLevel 32 q.low q.high × (q.high < 4294967296)) (sym same)
    (root_level 32 size (omega arith), last_small size)

root_low : (d : Decl) (n : ℕ) → (root_place d n).low ≡ 0
root_low (Array id size) n = refl
root_low (Tree id) n = refl

-- what is found at a storage's root is its record
found_root : (pages : List (List ℕ)) (s : Stored) (key : Key)
    → found_at (format_of s.decl) pages deepest (id_of s.decl) (root_place s.decl s.root) key
    ≡ root_records pages s key
found_root pages s key =
    let p : PagePlace = root_place s.decl s.root in
    let low = root_low s.decl s.root in
    elim (cases_eq key.storage (id_of s.decl)) [
      | inl here ↦ elim (cases_lt p.high key.key) [
        | inl above ↦
            rw (
              eq_yes key.storage (id_of s.decl) here,
              le_yes p.low key.key (omega (arith, low)),
              lt_no key.key
                  (p.high + 1) (omega arith),
              le_no key.key p.high above,
            ) refl
        | inr within ↦
            rw (
              eq_yes key.storage (id_of s.decl) here,
              le_yes p.low key.key (omega (arith, low)),
              lt_yes key.key
                  (p.high + 1) (omega arith),
              le_yes key.key p.high (omega arith),
            ) refl
      ]
      | inr other ↦ rw (eq_no key.storage (id_of s.decl) other) refl
    ]

root_gathered : (pages : List (List ℕ)) (epoch : ℕ) (s : Stored) (d : ℕ) (p : PagePlace) (old new : State) → d ≡ deepest
    → p ≡ root_place s.decl s.root
    → Gathered (format_of s.decl) (IsPageUpTo epoch s.decl) pages d (id_of s.decl) p old new
    → RootGathered pages epoch s old new
root_gathered pages epoch s d p old new deep place g =
    let here : Gathered (format_of s.decl) (IsPageUpTo epoch s.decl) pages deepest (id_of s.decl)
    (root_place s.decl s.root) old new =
    subst (λ k. Gathered (format_of s.decl) (IsPageUpTo epoch s.decl) pages k (id_of s.decl)
    (root_place s.decl s.root) old new) deep
    (subst (λ q. Gathered (format_of s.decl) (IsPageUpTo epoch s.decl) pages d
    (id_of s.decl) q old new) place g) in
    record {
      stands = here.stands;
      puts = puts_same (found_at (format_of s.decl) pages deepest (id_of s.decl) (root_place s.decl s.root))
          (root_records pages s) old new (found_root pages s) here.puts;
    }

root_breaks : (pages : List (List ℕ)) (epoch : ℕ) (s : Stored) (d : ℕ) (p : PagePlace) (n : ℕ) → d ≡ deepest
    → p ≡ root_place s.decl s.root
    → BreaksTo (format_of s.decl) (IsPageUpTo epoch s.decl) pages n d p → RootBreaks epoch pages n s
root_breaks pages epoch s d p n deep place b =
    subst (λ k. BreaksTo (format_of s.decl) (IsPageUpTo epoch s.decl) pages n k (root_place s.decl s.root)) deep
    (subst (λ q. BreaksTo (format_of s.decl) (IsPageUpTo epoch s.decl) pages n d q) place b)

pub array_root : (pages : List (List ℕ)) (epoch : ℕ) (s : Stored) (d id size : ℕ) (p : PagePlace) (old new : State)
    → d ≡ deepest → s.decl ≡ Array id size → p ≡ root_place s.decl s.root
    → Gathered array_format (IsPageUpTo epoch (Array id size)) pages d id p old new
    → RootGathered pages epoch s old new
array_root pages epoch s d id size p old new deep is place g =
    root_gathered pages epoch s d p old new deep place
    (subst (λ x. Gathered (format_of x) (IsPageUpTo epoch x) pages d (id_of x) p old new) (sym is) g)

pub array_root_breaks : (pages : List (List ℕ)) (epoch : ℕ) (s : Stored) (d id size : ℕ) (p : PagePlace) (n : ℕ)
    → d ≡ deepest → s.decl ≡ Array id size → p ≡ root_place s.decl s.root
    → BreaksTo array_format (IsPageUpTo epoch (Array id size)) pages n d p
    → RootBreaks epoch pages n s
array_root_breaks pages epoch s d id size p n deep is place b =
    root_breaks pages epoch s d p n deep place
    (subst (λ x. BreaksTo (format_of x) (IsPageUpTo epoch x) pages n d p) (sym is) b)

pub tree_root : (pages : List (List ℕ)) (epoch : ℕ) (s : Stored) (d id : ℕ) (p : PagePlace) (old new : State)
    → d ≡ deepest → s.decl ≡ Tree id → p ≡ root_place s.decl s.root
    → Gathered tree_format (IsPageUpTo epoch (Tree id)) pages d id p old new
    → RootGathered pages epoch s old new
tree_root pages epoch s d id p old new deep is place g =
    root_gathered pages epoch s d p old new deep place
    (subst (λ x. Gathered (format_of x) (IsPageUpTo epoch x) pages d (id_of x) p old new) (sym is) g)

pub tree_root_breaks : (pages : List (List ℕ)) (epoch : ℕ) (s : Stored) (d id : ℕ) (p : PagePlace) (n : ℕ)
    → d ≡ deepest → s.decl ≡ Tree id → p ≡ root_place s.decl s.root
    → BreaksTo tree_format (IsPageUpTo epoch (Tree id)) pages n d p
    → RootBreaks epoch pages n s
tree_root_breaks pages epoch s d id p n deep is place b =
    root_breaks pages epoch s d p n deep place
    (subst (λ x. BreaksTo (format_of x) (IsPageUpTo epoch x) pages n d p) (sym is) b)

-- ---- one storage after another

over_none : (o : Option Found) → put_over o None ≡ value_of o
over_none None = refl
over_none (Some f) = refl

-- the value at a key, with one storage more, whose id is above all others
value_last : (at : Stored → ℕ → Option Found) (xs : List Stored) (s : Stored) (key : Key)
    → AllByRecursion (λ x. stored_id x < stored_id s) xs
    → put_over (cond (key.storage == id_of s.decl) (at s key.key) None) (value_at at xs key)
    ≡ value_at at (xs ++ s ∷ []) key
value_last at [] s key all =
    elim (cases_eq key.storage (id_of s.decl)) [
      | inl here ↦ rw (eq_yes key.storage (id_of s.decl) here, eq_yes (id_of s.decl) key.storage (sym here))
          (over_none (at s key.key))
      | inr other ↦
          let back : id_of s.decl ≢ key.storage = λ e. other (sym e) in
          rw (eq_no key.storage (id_of s.decl) other, eq_no (id_of s.decl) key.storage back) refl
    ]
value_last at (x ∷ xs) s key all =
    elim (cases_eq (id_of x.decl) key.storage) [
      | inl here ↦
          let other : key.storage ≢ id_of s.decl = omega (arith, here, all.0) in
          rw (eq_yes (id_of x.decl) key.storage here, eq_no key.storage (id_of s.decl) other) refl
      | inr other ↦ rw (eq_no (id_of x.decl) key.storage other) (value_last at xs s key all.1)
    ]

id_after : (a : ℕ) (xs : List Stored) (i : ℕ) (d : Stored) → RisesAfter ◌<◌ (Some a) (map stored_id xs)
    → i < length xs → a < stored_id (get_or xs i d)
id_after a [] i d rising below = absurd (omega (arith, below))
id_after a (x ∷ xs) zero d rising below = rising.0
id_after a (x ∷ xs) (suc i) d rising below =
    let first : a < stored_id x = rising.0 in
    omega (arith, first, id_after (stored_id x) xs i d rising.1 (omega (arith, below)))

ids_below : (last : Option ℕ) (xs : List Stored) (i : ℕ) (d : Stored) → RisesAfter ◌<◌ last (map stored_id xs)
    → i < length xs → AllByRecursion (λ x. stored_id x < stored_id (get_or xs i d)) (take i xs)
ids_below last [] i d rising below = absurd (omega (arith, below))
ids_below last (x ∷ xs) zero d rising below = tt
ids_below last (x ∷ xs) (suc i) d rising below = (
  id_after (stored_id x) xs i d rising.1 (omega (arith, below)),
  ids_below (Some (stored_id x)) xs i d rising.1
      (omega (arith, below)),
)

-- the first that is bad, behind good ones
pub bad_at : (Good Bad : Stored → Type 0) (xs : List Stored) (i : ℕ) (d : Stored) → i < length xs
    → AllByRecursion Good (take i xs) → Bad (get_or xs i d) → FirstBad Good Bad xs
bad_at Good Bad [] i d below all bad = absurd (omega (arith, below))
bad_at Good Bad (y ∷ ys) zero d below all bad = inl bad
bad_at Good Bad (y ∷ ys) (suc i) d below all bad = inr
    (all.0, bad_at Good Bad ys i d (omega (arith, below)) all.1 bad)

-- The storages before one were gathered.
pub record SoFar (pages : List (List ℕ)) (epoch : ℕ) (ss : List Stored) (i : ℕ) (now : State) : Type 0 where
  pub stands : AllByRecursion (RootStandsUpTo epoch pages) (take i ss)
  pub values : (key : Key) → get now key ≡ value_at (record_in pages) (take i ss) key

pub none_so_far : (pages : List (List ℕ)) (epoch : ℕ) (ss : List Stored) (s : State) → s ≡ empty
    → SoFar pages epoch ss 0 s
none_so_far pages epoch ss s none = record {
  stands = tt;
  values = λ key. ap (λ (m : State). get m key) none
      ∙ get-empty key_cmp key;
}

pub one_more : (pages : List (List ℕ)) (epoch : ℕ) (ss : List Stored) (i : ℕ) (d : Stored) (now new : State)
    → i < length ss → Rises ◌<◌ (map stored_id ss)
    → SoFar pages epoch ss i now → RootGathered pages epoch (get_or ss i d) now new → SoFar pages epoch ss (i + 1) new
one_more pages epoch ss i d now new below rising so_far one =
    let s : Stored = get_or ss i d in
    let next : take (i + 1) ss ≡ take i ss ++ s ∷ [] = take_more ss i d below in
    record {
      stands = subst (AllByRecursion (RootStandsUpTo epoch pages)) (sym next)
          (all_push (RootStandsUpTo epoch pages) (take i ss) s so_far.stands one.stands);
      values = λ key.
          one.puts.values key
          ∙ ap (put_over (root_records pages s key)) (so_far.values key)
          ∙ value_last (record_in pages) (take i ss) s key (ids_below None ss i d rising below)
          ∙ ap (λ xs. value_at (record_in pages) xs key) (sym next);
    }
