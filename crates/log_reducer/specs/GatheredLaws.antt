-- The order and the parts of the entries are of no matter.
use Rattle.std.specs.Prelude.{◌≡◌, ◌++◌, ◌∷◌, [], List, Option, Some, map}
use Rattle.std.proofs.Common.{inl, inr, sym, ap, subst, ◌∙◌, append_assoc}
use Rattle.std.proofs.lemmas.Grind.{flat_map-append}
use Rattle.std.proofs.lemmas.List.{append-nil}
use Rattle.std.specs.List.{Contains, flat_map}
use Rattle.std.specs.List.Sorted.{IsPermutation}
use Rattle.std.proofs.lemmas.List.Elements.{Contains-append_left, Contains-append_right, Contains-append_cases}
use Rattle.std.proofs.lemmas.List.Sorted.{Contains-permutation, IsPermutation-sym}
use Rattle.lists.specs.Elements.{in_cases, in_head, in_none, in_tail}
use Rattle.serial_model.specs.declared.key.Key.{Key}
use Rattle.wire_form.specs.declared.bucket.Bucket.{Bucket}
use Rattle.wire_form.specs.declared.bucket.Entry.{Entry}
use Rattle.log_reducer.specs.declared.latest.Logged.{Logged}
use Rattle.log_reducer.specs.Reduced.{AreLast, IsNoLater, all_logged, logged_in}
use Rattle.log_reducer.specs.Gathered.{KeepsLatest}

-- the two lists have the same entries, however often
pub record HaveSame (all others : List Logged) : Type 0 where
  pub there : (e : Logged) → Contains all e → Contains others e
  pub back : (e : Logged) → Contains others e → Contains all e

-- ---- buckets

-- an entry of buckets stands in one of them
in_bucket : (bs : List Bucket) (e : Logged) → Contains (all_logged bs) e → (b : Bucket) × Contains bs b × Contains (logged_in b) e
in_bucket [] e has = absurd (in_none e has)
in_bucket (b ∷ bs) e has = elim (Contains-append_cases (logged_in b) (all_logged bs) e has) [
  | inl here ↦ (b, in_head b bs, here)
  | inr later ↦ let rest = in_bucket bs e later in (rest.0, in_tail rest.0 b bs rest.1, rest.2)
]

-- and the entries of one of them are theirs
of_bucket : (bs : List Bucket) (b : Bucket) (e : Logged) → Contains bs b → Contains (logged_in b) e → Contains (all_logged bs) e
of_bucket [] b e has here = absurd (in_none b has)
of_bucket (c ∷ cs) b e has here = elim (in_cases b c cs has) [
  | inl same ↦ Contains-append_left (logged_in c) (all_logged cs) e (subst (λ x. Contains (logged_in x) e) (sym same) here)
  | inr later ↦ Contains-append_right (logged_in c) (all_logged cs) e (of_bucket cs b e later here)
]

moved_there : (bs cs : List Bucket) → IsPermutation bs cs → (e : Logged) → Contains (all_logged bs) e → Contains (all_logged cs) e
moved_there bs cs moved e has = let one = in_bucket bs e has in of_bucket cs one.0 e (Contains-permutation bs cs one.0 moved one.1) one.2

-- buckets in another order have the same entries
pub moved_same : (bs cs : List Bucket) → IsPermutation bs cs → HaveSame (all_logged bs) (all_logged cs)
moved_same bs cs moved = record { there = moved_there bs cs moved; back = moved_there cs bs (IsPermutation-sym bs cs moved) }

-- ---- what is kept, and runs

-- the last entries of the one are those of the other
pub last_same : (all others : List Logged) (run : List Entry) → HaveSame all others → AreLast all run → AreLast others run
last_same all others run same last = record {
  each = λ e has. last.each e (same.back e has);
  latest = λ r has. let one = last.latest r has in (one.0, same.there one.0 one.1, one.2, λ e there key. one.3 e (same.back e there) key);
  rising = last.rising;
}

-- so the run of buckets is that of the same buckets in any order
pub run_moved : (bs cs : List Bucket) (run : List Entry) → IsPermutation bs cs → AreLast (all_logged bs) run → AreLast (all_logged cs) run
run_moved bs cs run moved = last_same (all_logged bs) (all_logged cs) run (moved_same bs cs moved)

-- before the first entry
pub keeps_none : (kept : Key → Option Logged) → ((key : Key) (f : Logged) → kept key ≡ Some f → ⊥) → KeepsLatest [] kept
keeps_none kept none = record { each = λ e has. absurd (in_none e has); latest = λ key f is. absurd (none key f is) }

-- one more bucket
pub keeps_push : (all : List Logged) (bs : List Bucket) (b : Bucket) (kept : Key → Option Logged) → KeepsLatest ((all ++ all_logged bs) ++ logged_in b) kept
    → KeepsLatest (all ++ all_logged (bs ++ b ∷ [])) kept
keeps_push all bs b kept keeps =
    let both : all_logged (bs ++ b ∷ []) ≡ all_logged bs ++ logged_in b =
    flat_map-append logged_in bs (b ∷ []) ∙ ap (λ l. all_logged bs ++ l) (append-nil (logged_in b)) in
    subst (λ l. KeepsLatest (all ++ l) kept) (sym both) (subst (λ l. KeepsLatest l kept) (append_assoc all (all_logged bs) (logged_in b)) keeps)
