-- Storages are composed one after another.
use Rattle.std.proofs.Common.{◌≡◌, ℕ, ◌+◌, ◌-◌, ◌<◌, ◌≤◌, ◌^◌, zero, suc, List, [], ◌∷◌, ◌++◌, length, get_or, take, drop, refl, sym, ap, subst, ◌∙◌, arith}
use Rattle.std.specs.Prelude.{OnOk, Result, Ok, Err}
use Rattle.std.specs.List.{AllByRecursion}
use Rattle.std.proofs.lemmas.List.{length-append, drop_more, drop_all, take_more, take_all}
use Rattle.serial_model.specs.declared.decl.Decl.{Decl}
use Rattle.serial_model.specs.declared.decl.Decl.TheVariants.{Array, Tree}
use Rattle.wire_form.specs.declared.bucket.Entry.{Entry}
use Rattle.wire_form.specs.declared.records.Stored.{Stored}
use Rattle.snapshot_store.specs.Places.{StandsTo}
use Rattle.snapshot_store.specs.Content.{deepest, last_index, root_place, format_of, IsPageOf}
use Rattle.snapshot_store.specs.ReadLaws.{deepest_is, last_small}
use Rattle.snapshot_store.specs.declared.place.PagePlace.{PagePlace}
use Rattle.serial_model.specs.Keys.{id_of}
use Rattle.root_composer.specs.declared.last.Last.{Last}
use Rattle.root_composer.specs.Composer.{Made, with_one}
use Rattle.root_composer.specs.ArrayCode.{ArrayStands, array_one, Adds}
use Rattle.lists.specs.Each.{all_weaker, all_push}
use Rattle.lists.specs.declared.memory.OrMemory.{OrMemory}
use Rattle.lists.specs.declared.memory.OrMemory.TheVariants.{Fault}
use Rattle.root_composer.specs.declared.fault.ComposeFault.{ComposeFault}
use Rattle.root_composer.specs.declared.fault.ComposeFault.TheVariants.{Limit}
use Rattle.root_composer.specs.TreeCode.{TreeStands, tree_one, AddsWithin, WouldBeDeep, LeavesRest}
use Rattle.root_composer.specs.Storages.{part_of, FitStorage, IsReady, IsWithin, made_for, compose_one, compose_storages, with_roots, StoragesMade, StoragesDeep}
use Rattle.root_composer.proofs.StoragesLaw.{array_within}
use Rattle.root_composer.proofs.TreeSteps.{none_left_out, rest_behind, rest_deep, none_rest}

-- ---- one storage

-- an array's root stands
pub array_stands : (run : List Entry) (old : List (List ℕ)) (s : Stored) (id size wide : ℕ) (p : PagePlace) → s.decl ≡ Array id size
    → IsReady run old s → p ≡ root_place s.decl s.root → wide ≡ size → ArrayStands wide old 32 p
array_stands run old s id size wide p is ready place same =
    let stands = subst (λ (d : Decl). StandsTo (format_of d) (IsPageOf d) old deepest (root_place s.decl s.root)) is ready.stands in
    subst (λ (k : ℕ). ArrayStands k old 32 p) (sym same)
    (subst (λ (q : PagePlace). ArrayStands size old 32 q) (sym place)
    (subst (λ (k : ℕ). ArrayStands size old k (root_place s.decl s.root)) deepest_is stands))

-- and its indexes are small
pub array_small : (s : Stored) (id size : ℕ) (p : PagePlace) → s.decl ≡ Array id size → p ≡ root_place s.decl s.root → p.high < 4294967296
array_small s id size p is place =
    let same : p.high ≡ last_index size = ap (λ (q : PagePlace). q.high) place ∙ ap (λ (d : Decl). (root_place d s.root).high) is in
    omega (arith, same, last_small size)

-- what is made for an array is what is made for the storage
pub array_adds : (run : List Entry) (old before after : List (List ℕ)) (s : Stored) (id size : ℕ) (p : PagePlace) (part : List Last) (n : ℕ)
    → s.decl ≡ Array id size → part ≡ part_of id run → p ≡ root_place s.decl s.root
    → Adds before after n (array_one part old 32 p (length old + length before))
    → AddsWithin deepest before after n (compose_one run old s (length old + length before))
array_adds run old before after s id size p part n is same place adds =
    let deep = subst (λ (k : ℕ). Adds before after n (array_one part old k p (length old + length before))) (sym deepest_is) adds in
    let whole = subst (λ (l : List Last). Adds before after n (array_one l old deepest p (length old + length before))) same deep in
    let root = subst (λ (q : PagePlace). Adds before after n (array_one (part_of id run) old deepest q (length old + length before))) place whole in
    subst (λ (d : Decl). AddsWithin deepest before after n (made_for d (part_of (id_of d) run) old (root_place s.decl s.root) (length old + length before))) (sym is)
    (record { number = root.number; pages = root.pages; levels = omega arith })

-- the same of trees
pub tree_stands : (run : List Entry) (old : List (List ℕ)) (s : Stored) (id : ℕ) (p : PagePlace) → s.decl ≡ Tree id → IsReady run old s
    → p ≡ root_place s.decl s.root → TreeStands old 32 p
tree_stands run old s id p is ready place =
    let stands = subst (λ (d : Decl). StandsTo (format_of d) (IsPageOf d) old deepest (root_place s.decl s.root)) is ready.stands in
    subst (λ (q : PagePlace). TreeStands old 32 q) (sym place)
    (subst (λ (k : ℕ). TreeStands old k (root_place s.decl s.root)) deepest_is stands)

pub tree_adds : (run : List Entry) (old before after : List (List ℕ)) (s : Stored) (id : ℕ) (p : PagePlace) (part : List Last) (n : ℕ)
    → s.decl ≡ Tree id → part ≡ part_of id run → p ≡ root_place s.decl s.root
    → AddsWithin 32 before after n (tree_one part old 32 p (length old + length before))
    → AddsWithin deepest before after n (compose_one run old s (length old + length before))
tree_adds run old before after s id p part n is same place adds =
    subst (λ (d : Decl). AddsWithin deepest before after n (made_for d (part_of (id_of d) run) old (root_place s.decl s.root) (length old + length before))) (sym is)
    (subst (λ (q : PagePlace). AddsWithin deepest before after n (tree_one (part_of id run) old deepest q (length old + length before))) place
    (subst (λ (l : List Last). AddsWithin deepest before after n (tree_one l old deepest p (length old + length before))) same
    (subst (λ (k : ℕ). AddsWithin k before after n (tree_one part old k p (length old + length before))) (sym deepest_is) adds)))

pub tree_deep : (run : List Entry) (old before : List (List ℕ)) (s : Stored) (id : ℕ) (p : PagePlace) (part : List Last) (fault : ComposeFault)
    → s.decl ≡ Tree id → part ≡ part_of id run → p ≡ root_place s.decl s.root
    → WouldBeDeep 32 fault (tree_one part old 32 p (length old + length before))
    → WouldBeDeep deepest fault (compose_one run old s (length old + length before))
tree_deep run old before s id p part fault is same place deep =
    subst (λ (d : Decl). WouldBeDeep deepest fault (made_for d (part_of (id_of d) run) old (root_place s.decl s.root) (length old + length before))) (sym is)
    (subst (λ (q : PagePlace). WouldBeDeep deepest fault (tree_one (part_of id run) old deepest q (length old + length before))) place
    (subst (λ (l : List Last). WouldBeDeep deepest fault (tree_one l old deepest p (length old + length before))) same
    (subst (λ (k : ℕ). WouldBeDeep k fault (tree_one part old k p (length old + length before))) (sym deepest_is) deep)))

-- the entries lie in the root's range
pub array_keys : (run : List Entry) (old : List (List ℕ)) (s : Stored) (id size : ℕ) → s.decl ≡ Array id size → IsReady run old s → IsWithin run s
array_keys run old s id size is ready =
    let fit = subst (λ (d : Decl). FitStorage d (part_of (id_of d) run)) is ready.fit in
    subst (λ (d : Decl). AllByRecursion (λ e. e.key ≤ (root_place d s.root).high) (part_of (id_of d) run)) (sym is) (array_within id size s.root (part_of id run) fit.0 fit.1)

pub tree_keys : (run : List Entry) (s : Stored) (id : ℕ) (part : List Last) → s.decl ≡ Tree id → part ≡ part_of id run → AllByRecursion (λ e. e.key < 2 ^ 64) part → IsWithin run s
tree_keys run s id part is same all =
    subst (λ (d : Decl). AllByRecursion (λ e. e.key ≤ (root_place d s.root).high) (part_of (id_of d) run)) (sym is)
    (subst (λ (l : List Last). AllByRecursion (λ e. e.key ≤ 2 ^ 64 - 1) l) same (all_weaker (λ e. e.key < 2 ^ 64) (λ e. e.key ≤ 2 ^ 64 - 1) (λ e h. omega (arith, h)) part all))

-- what was done is no fault
pub not_fault : {X E : Type 0} (x : X) (e : E) → ◌≡◌ {A = Result X E} (Ok x) (Err e) → ⊥
not_fault x e bad = cc

-- a fault that is handed on is that which was told
pub fault_of_part : {X Y E : Type 0} (r : Result X E) (e y x : E) → r ≡ Err y → y ≡ e → r ≡ Err x
    → ◌≡◌ {A = Result Y E} (Err e) (Err x)
fault_of_part r e y x is same told = cc

-- the limit that is told
pub same_limit : {X : Type 0} (have new room other more most : ℕ)
    → ◌≡◌ {A = Result X (OrMemory ComposeFault)} (Err (Fault (Limit have new room)))
    (Err (Fault (Limit other more most)))
    → (have ≡ other) × (new ≡ more) × (room ≡ most)
same_limit have new room other more most is = (cc, cc, cc)

-- what holds anyhow holds after an Ok
pub if_any : {X E : Type 0} {P : Type 0} (r : Result X E) → P → OnOk r P
if_any (Ok x) p = p
if_any (Err e) p = tt

-- ---- the first i storages

-- with those that are left they are all, and the entries of each lie in its root's range
pub record StoragesSoFar (run : List Entry) (old : List (List ℕ)) (ss : List Stored) (i : ℕ) (made : List (List ℕ)) (roots : List ℕ) : Type 0 where
  pub left : LeavesRest deepest roots [] made (compose_storages run old (drop i ss) (length old + length made)) (compose_storages run old ss (length old))
  pub within : AllByRecursion (IsWithin run) (take i ss)

pub none_so_far : (run : List Entry) (old : List (List ℕ)) (ss : List Stored) (made : List (List ℕ)) (roots : List ℕ) → made ≡ [] → roots ≡ [] → StoragesSoFar run old ss 0 made roots
none_so_far run old ss made roots empty none =
    let zero : length old + 0 ≡ length old = omega arith in
    record {
      left =
          subst (λ (r : List ℕ). LeavesRest deepest r [] made (compose_storages run old ss (length old + length made)) (compose_storages run old ss (length old))) (sym none)
          (subst (λ (m : List (List ℕ)). LeavesRest deepest [] [] m (compose_storages run old ss (length old + length m)) (compose_storages run old ss (length old))) (sym empty)
          (subst (λ (k : ℕ). LeavesRest deepest [] [] [] (compose_storages run old ss k) (compose_storages run old ss (length old))) (sym zero) (none_left_out deepest [] (compose_storages run old ss (length old)))));
      within = tt;
    }

next_storage : (run : List Entry) (old : List (List ℕ)) (ss : List Stored) (i at : ℕ) (s d : Stored) → i < length ss → s ≡ get_or ss i d
    → compose_storages run old (drop i ss) at ≡ with_one (compose_one run old s at) (compose_storages run old (drop (i + 1) ss) (at + length (compose_one run old s at).pages))
next_storage run old ss i at s d here is =
    ap (λ l. compose_storages run old l at) (drop_more ss i d here ∙ ap (λ x. x ∷ drop (i + 1) ss) (sym is))

pub one_more_so_far : (run : List Entry) (old : List (List ℕ)) (ss : List Stored) (i : ℕ) (made after : List (List ℕ)) (roots : List ℕ) (s d : Stored) (n : ℕ) → i < length ss → s ≡ get_or ss i d
    → StoragesSoFar run old ss i made roots → AddsWithin deepest made after n (compose_one run old s (length old + length made)) → IsWithin run s → StoragesSoFar run old ss (i + 1) after (roots ++ n ∷ [])
one_more_so_far run old ss i made after roots s d n here is so_far adds within =
    let one : Made = compose_one run old s (length old + length made) in
    let count : length old + length made + length one.pages ≡ length old + length after = omega (arith, ap length adds.pages, length-append made one.pages) in
    record {
      left = subst (λ (k : ℕ). LeavesRest deepest (roots ++ n ∷ []) [] after (compose_storages run old (drop (i + 1) ss) k) (compose_storages run old ss (length old))) count
          (rest_behind deepest n roots [] made after one (compose_storages run old (drop i ss) (length old + length made))
          (compose_storages run old (drop (i + 1) ss) (length old + length made + length one.pages)) (compose_storages run old ss (length old))
          (next_storage run old ss i (length old + length made) s d here is) so_far.left adds);
      within = subst (AllByRecursion (IsWithin run)) (sym (take_more ss i d here ∙ ap (λ x. take i ss ++ x ∷ []) (sym is))) (all_push (IsWithin run) (take i ss) s so_far.within within);
    }

pub storage_deep : (run : List Entry) (old : List (List ℕ)) (ss : List Stored) (i : ℕ) (made : List (List ℕ)) (roots : List ℕ) (s d : Stored) (fault : ComposeFault) → i < length ss → s ≡ get_or ss i d
    → StoragesSoFar run old ss i made roots → WouldBeDeep deepest fault (compose_one run old s (length old + length made)) → StoragesDeep run old ss fault
storage_deep run old ss i made roots s d fault here is so_far deep =
    let one : Made = compose_one run old s (length old + length made) in
    record {
      deep = deep.deep;
      levels = rest_deep deepest fault roots [] made one (compose_storages run old (drop i ss) (length old + length made))
          (compose_storages run old (drop (i + 1) ss) (length old + length made + length one.pages)) (compose_storages run old ss (length old))
          (next_storage run old ss i (length old + length made) s d here is) so_far.left deep;
    }

pub all_so_far : (run : List Entry) (old : List (List ℕ)) (ss : List Stored) (i : ℕ) (made : List (List ℕ)) (roots : List ℕ) → length ss ≤ i → StoragesSoFar run old ss i made roots → StoragesMade run old ss made roots
all_so_far run old ss i made roots end so_far =
    let none : compose_storages run old (drop i ss) (length old + length made) ≡ record { numbers = []; pages = []; levels = 0 } = ap (λ l. compose_storages run old l (length old + length made)) (drop_all i ss end) in
    let are = none_rest deepest roots [] made (compose_storages run old (drop i ss) (length old + length made)) (compose_storages run old ss (length old)) none so_far.left in
    record { numbers = are.numbers_are; pages = are.pages; levels = are.levels; within = subst (AllByRecursion (IsWithin run)) (take_all i ss end) so_far.within }

-- a storage that is ready
pub ready_at : (run : List Entry) (old : List (List ℕ)) (ss : List Stored) (i : ℕ) (d : Stored) → i < length ss → AllByRecursion (IsReady run old) ss → IsReady run old (get_or ss i d)
ready_at run old [] i d h all = absurd (omega (arith, h))
ready_at run old (s ∷ ss) zero d h all = all.0
ready_at run old (s ∷ ss) (suc i) d h all = ready_at run old ss i d (omega (arith, h)) all.1

-- ---- roots

-- a storage with a root
abbrev stored_with : Decl → ℕ → Stored
stored_with d root = record { decl = d; root = root }

-- one more storage has its root
pub root_push : (ss : List Stored) (ns : List ℕ) (i : ℕ) (d : Stored) → i < length ss → length ns ≡ length ss
    → with_roots (take (i + 1) ss) (take (i + 1) ns) ≡ with_roots (take i ss) (take i ns) ++ record { decl = (get_or ss i d).decl; root = get_or ns i 0 } ∷ []
root_push [] ns i d h e = absurd (omega (arith, h))
root_push (s ∷ ss) [] i d h e = absurd (omega (arith, e))
root_push (s ∷ ss) (n ∷ ns) zero d h e = refl
root_push (s ∷ ss) (n ∷ ns) (suc i) d h e =
    let next : suc i + 1 ≡ suc (i + 1) = omega arith in
    ap (λ k. with_roots (take k (s ∷ ss)) (take k (n ∷ ns))) next ∙ ap (λ l. stored_with s.decl n ∷ l) (root_push ss ns i d (omega (arith, h)) (omega (arith, e)))

pub small_at : (ns : List ℕ) (i : ℕ) → AllByRecursion (λ n. n < 2 ^ 32) ns → get_or ns i 0 < 2 ^ 32
small_at [] i all = omega arith
small_at (n ∷ ns) zero all = all.0
small_at (n ∷ ns) (suc i) all = small_at ns i all.1

pub root_pushed : {stored : List Stored} (d : Stored) (ss : List Stored) (ns : List ℕ) (i : ℕ) (new : List Stored) → new ≡ stored ++ record { decl = (get_or ss i d).decl; root = get_or ns i 0 } ∷ []
    → stored ≡ with_roots (take i ss) (take i ns) → i < length ss → length ns ≡ length ss → new ≡ with_roots (take (i + 1) ss) (take (i + 1) ns)
root_pushed d ss ns i new pushed so_far here count =
    pushed ∙ ap (λ l. l ++ stored_with (get_or ss i d).decl (get_or ns i 0) ∷ []) so_far ∙ sym (root_push ss ns i d here count)
