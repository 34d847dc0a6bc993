-- The run that the reducers and the caller make is that of all buckets that the mappers made.
use Rattle.std.specs.Prelude.{◌≡◌, ◌++◌, [], List, Option, Some}
use Rattle.std.proofs.Common.{refl, sym, ap, subst, ◌∙◌, append_assoc}
use Rattle.std.specs.List.Sorted.{IsPermutation}
use Rattle.std.proofs.lemmas.Grind.{flat_map-append}
use Rattle.std.proofs.lemmas.List.{append-nil}
use Rattle.std.proofs.lemmas.List.Sorted.{IsPermutation-sym, IsPermutation-trans, IsPermutation-append, IsPermutation-append_left}
use Rattle.serial_model.specs.declared.key.Key.{Key}
use Rattle.wire_form.specs.declared.bucket.Bucket.{Bucket}
use Rattle.wire_form.specs.declared.bucket.Entry.{Entry}
use Rattle.bucket_queues.specs.declared.rule.Hand.{Hand}
use Rattle.bucket_queues.specs.Passed.{HavePassed}
use Rattle.bucket_queues.specs.PassedLaws.{three_parts}
use Rattle.log_reducer.specs.declared.latest.Logged.{Logged}
use Rattle.log_reducer.specs.GatheredLaws.{keeps_none, run_moved}
use Rattle.log_reducer.specs.Reduced.{AreLast, all_logged, logged_in}
use Rattle.bucket_queues.specs.Taken.{HasGathered, HasTaken}
use Rattle.bucket_queues.specs.Threads.{AreGathered, closed, fresh}

-- what was put into a queue, and what was taken from it
queue_put : (low high takes all : Hand) (to_low to_high : List Bucket) → all ≡ closed fresh low high takes → low.put ≡ to_low → high.put ≡ to_high
    → takes.put ≡ [] → all.put ≡ to_low ++ to_high
queue_put low high takes all to_low to_high is in_low in_high nothing =
    ap (λ (x : Hand). x.put) is ∙ ap (λ l. (l ++ high.put) ++ takes.put) in_low ∙ ap (λ l. (to_low ++ l) ++ takes.put) in_high
    ∙ ap (λ l. (to_low ++ to_high) ++ l) nothing ∙ append-nil (to_low ++ to_high)

queue_taken : (low high takes all : Hand) (taken : List Bucket) → all ≡ closed fresh low high takes → low.taken ≡ [] → high.taken ≡ []
    → takes.taken ≡ taken → all.taken ≡ taken
queue_taken low high takes all taken is no_low no_high has =
    ap (λ (x : Hand). x.taken) is ∙ ap (λ l. (l ++ high.taken) ++ takes.taken) no_low ∙ ap (λ l. l ++ takes.taken) no_high ∙ has

-- entries of lists of buckets
logged_both : (xs ys : List Bucket) → all_logged xs ++ all_logged ys ≡ all_logged (xs ++ ys)
logged_both xs ys = sym (flat_map-append logged_in xs ys)

logged_five : (a b c d e f : List Bucket) → (((all_logged a ++ all_logged b) ++ (all_logged c ++ all_logged d)) ++ all_logged e) ++ all_logged f
    ≡ all_logged ((((a ++ b) ++ (c ++ d)) ++ e) ++ f)
logged_five a b c d e f =
    ap (λ l. ((l ++ (all_logged c ++ all_logged d)) ++ all_logged e) ++ all_logged f) (logged_both a b)
    ∙ ap (λ l. ((all_logged (a ++ b) ++ l) ++ all_logged e) ++ all_logged f) (logged_both c d)
    ∙ ap (λ l. (l ++ all_logged e) ++ all_logged f) (logged_both (a ++ b) (c ++ d))
    ∙ ap (λ l. l ++ all_logged f) (logged_both ((a ++ b) ++ (c ++ d)) e)
    ∙ logged_both (((a ++ b) ++ (c ++ d)) ++ e) f

-- what both mappers put and both reducers took, and what was left and kept back, are all that was made
pub gathered_all : (low_e high_e takes_e low_o high_o takes_o all_e all_o : Hand) (low_back high_back low_made high_made taken_e taken_o : List Bucket)
    (none_e kept_e none_o kept_o : Key → Option Logged) (run : List Entry)
    → HavePassed fresh low_e fresh low_o [] low_back low_made → HavePassed fresh high_e fresh high_o [] high_back high_made
    → HasTaken fresh takes_e none_e kept_e taken_e → HasTaken fresh takes_o none_o kept_o taken_o
    → ((key : Key) (f : Logged) → none_e key ≡ Some f → ⊥) → ((key : Key) (f : Logged) → none_o key ≡ Some f → ⊥)
    → all_e ≡ closed fresh low_e high_e takes_e → all_o ≡ closed fresh low_o high_o takes_o
    → HasGathered all_e all_o kept_e kept_o low_back high_back run → AreGathered (low_made ++ high_made) run
gathered_all low_e high_e takes_e low_o high_o takes_o all_e all_o low_back high_back low_made high_made taken_e taken_o none_e kept_e none_o kept_o run
    low high even odd empty_e empty_o is_e is_o has =
    let put_e : all_e.put ≡ low.to_even ++ high.to_even = queue_put low_e high_e takes_e all_e low.to_even high.to_even is_e (ap (λ (x : Hand). x.put) low.even_is) (ap (λ (x : Hand). x.put) high.even_is) (ap (λ (x : Hand). x.put) even.view_is) in
    let put_o : all_o.put ≡ low.to_odd ++ high.to_odd = queue_put low_o high_o takes_o all_o low.to_odd high.to_odd is_o (ap (λ (x : Hand). x.put) low.odd_is) (ap (λ (x : Hand). x.put) high.odd_is) (ap (λ (x : Hand). x.put) odd.view_is) in
    let got_e : all_e.taken ≡ taken_e = queue_taken low_e high_e takes_e all_e taken_e is_e (ap (λ (x : Hand). x.taken) low.even_is) (ap (λ (x : Hand). x.taken) high.even_is) (ap (λ (x : Hand). x.taken) even.view_is) in
    let got_o : all_o.taken ≡ taken_o = queue_taken low_o high_o takes_o all_o taken_o is_o (ap (λ (x : Hand). x.taken) low.odd_is) (ap (λ (x : Hand). x.taken) high.odd_is) (ap (λ (x : Hand). x.taken) odd.view_is) in
    let moved_e : IsPermutation (taken_e ++ has.left_even) (low.to_even ++ high.to_even) =
    subst (IsPermutation (taken_e ++ has.left_even)) put_e (IsPermutation-sym _ _ (subst (λ l. IsPermutation all_e.put (l ++ has.left_even)) got_e has.even_all)) in
    let moved_o : IsPermutation (taken_o ++ has.left_odd) (low.to_odd ++ high.to_odd) =
    subst (IsPermutation (taken_o ++ has.left_odd)) put_o (IsPermutation-sym _ _ (subst (λ l. IsPermutation all_o.put (l ++ has.left_odd)) got_o has.odd_all)) in
    let last = has.last (all_logged taken_e) (all_logged taken_o) (even.kept [] (keeps_none none_e empty_e)) (odd.kept [] (keeps_none none_o empty_o)) in
    let got : List Bucket = (taken_e ++ has.left_even) ++ (taken_o ++ has.left_odd) in
    let put : List Bucket = (low.to_even ++ high.to_even) ++ (low.to_odd ++ high.to_odd) in
    let backs : (got ++ low_back) ++ high_back ≡ got ++ (low.back ++ high.back) =
    append_assoc got low_back high_back ∙ ap (λ l. got ++ (l ++ high_back)) low.back_is ∙ ap (λ l. got ++ (low.back ++ l)) high.back_is in
    let moved : IsPermutation ((got ++ low_back) ++ high_back) (low_made ++ high_made) =
    subst (λ l. IsPermutation l (low_made ++ high_made)) (sym backs)
    (IsPermutation-trans _ (put ++ (low.back ++ high.back)) _ (IsPermutation-append_left (low.back ++ high.back) _ _ (IsPermutation-append _ _ _ _ moved_e moved_o))
    (IsPermutation-trans _ _ _ (IsPermutation-sym _ _ (three_parts low.to_even low.to_odd low.back high.to_even high.to_odd high.back))
    (IsPermutation-append _ _ _ _ (IsPermutation-sym _ _ low.all) (IsPermutation-sym _ _ high.all)))) in
    record {
      taken_even = taken_e;
      left_even = has.left_even;
      taken_odd = taken_o;
      left_odd = has.left_odd;
      low_back = low_back;
      high_back = high_back;
      each_once = IsPermutation-sym _ _ moved;
      last = subst (λ l. AreLast l run) (logged_five taken_e has.left_even taken_o has.left_odd low_back high_back) last;
    }

-- the run is that of all buckets that were made
pub gathered_last : (made : List Bucket) (run : List Entry) → AreGathered made run → AreLast (all_logged made) run
gathered_last made run has = run_moved _ _ run (IsPermutation-sym _ _ has.each_once) has.last

-- where nothing was put or taken before
pub from_fresh : (e e1 o o1 : Hand) (was is made : List Bucket) → e ≡ fresh → o ≡ fresh → was ≡ [] → HavePassed e e1 o o1 was is made
    → HavePassed fresh e1 fresh o1 [] is made
from_fresh e e1 o o1 was is made same_e same_o same has =
    subst (λ l. HavePassed fresh e1 fresh o1 l is made) same
    (subst (λ x. HavePassed fresh e1 x o1 was is made) same_o (subst (λ x. HavePassed x e1 o o1 was is made) same_e has))

-- what was taken since a pass was new
pub taken_fresh : (v w : Hand) (none kept : Key → Option Logged) (taken : List Bucket) → v ≡ fresh → HasTaken v w none kept taken
    → HasTaken fresh w none kept taken
taken_fresh v w none kept taken same has = subst (λ x. HasTaken x w none kept taken) same has
