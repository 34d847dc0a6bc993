-- What a transaction sees: the map without the removed keys.
use Rattle.std.proofs.Common.{◌≡◌, ◌∙◌, sym, ap, refl, ℕ, ◌<◌, length, arith, Bool, true, false, List, [], ◌∷◌, Option, Some, None}
use Rattle.std.specs.Prelude.{cond, not, ◌||◌}
use Rattle.std.specs.List.{list_any}
use Rattle.std.specs.Ordering.{eq_by_cmp}
use Rattle.std.specs.FinMap.{get, insert, remove, get-insert, get-remove, get-retain_keys}
use Rattle.serial_model.specs.KeyOrder.{keys_total, exact_keys}
use Rattle.serial_model.proofs.FromEntries.{same_state, either_way}
use Rattle.serial_model.specs.Keys.{key_cmp}
use Rattle.serial_model.specs.State.{State}
use Rattle.serial_model.specs.Draft.{is_kept, working}
use Rattle.serial_model.specs.declared.key.Key.{Key}

-- the key is among those removed
abbrev pub is_gone : List Key → Key → Bool
is_gone gone q = list_any (eq_by_cmp key_cmp q) gone

pub get-working : (s : State) (gone : List Key) (q : Key) → get (working s gone) q ≡ cond (not (is_gone gone q)) (get s q) None
get-working s gone q = get-retain_keys s (is_kept gone) q (λ x h. ap (is_kept gone) (sym (exact_keys q x h)))

-- without removed keys it is the map
pub working-none : (s : State) → working s [] ≡ s
working-none s = same_state _ _ (λ q. get-working s [] q)

put_again : (b g : Bool) (x y : Option ℕ) → cond (not (cond b false g)) (cond b x y) None ≡ cond b x (cond (not g) y None)
put_again true g x y = refl
put_again false g x y = refl

-- a value is put, and its key is no longer among the removed ones
pub working-put : (s : State) (k : Key) (v : ℕ) (old new : List Key)
    → ((q : Key) → is_gone new q ≡ cond (eq_by_cmp key_cmp k q) false (is_gone old q))
    → working (insert s k v) new ≡ insert (working s old) k v
working-put s k v old new h = same_state _ _ (λ q.
    get-working (insert s k v) new q
    ∙ ap (λ b. cond (not b) (get (insert s k v) q) None) (h q ∙ ap (λ b. cond b false (is_gone old q)) (either_way k q))
    ∙ ap (λ x. cond (not (cond (eq_by_cmp key_cmp q k) false (is_gone old q))) x None) (get-insert keys_total s k v q)
    ∙ put_again (eq_by_cmp key_cmp q k) (is_gone old q) (Some v) (get s q)
    ∙ sym (get-insert keys_total (working s old) k v q ∙ ap (cond (eq_by_cmp key_cmp q k) (Some v)) (get-working s old q)))

taken_out : (b g : Bool) (x : Option ℕ) → cond (not (cond b true g)) x None ≡ cond b None (cond (not g) x None)
taken_out true g x = refl
taken_out false g x = refl

-- a key joins the removed ones
pub working-removed : (s : State) (k : Key) (old new : List Key)
    → ((q : Key) → is_gone new q ≡ cond (eq_by_cmp key_cmp k q) true (is_gone old q))
    → working s new ≡ remove (working s old) k
working-removed s k old new h = same_state _ _ (λ q.
    get-working s new q
    ∙ ap (λ b. cond (not b) (get s q) None) (h q ∙ ap (λ b. cond b true (is_gone old q)) (either_way k q))
    ∙ taken_out (eq_by_cmp key_cmp q k) (is_gone old q) (get s q)
    ∙ sym (get-remove keys_total (working s old) k q ∙ ap (cond (eq_by_cmp key_cmp q k) None) (get-working s old q)))

taken_twice : (b g : Bool) (x : Option ℕ) → cond (not g) (cond b None x) None ≡ cond (not (b || g)) x None
taken_twice true true x = refl
taken_twice true false x = refl
taken_twice false g x = refl

-- a removed key leaves the map
pub working-left : (s : State) (k : Key) (gone : List Key) → working (remove s k) gone ≡ working s (k ∷ gone)
working-left s k gone = same_state _ _ (λ q.
    get-working (remove s k) gone q ∙ ap (λ x. cond (not (is_gone gone q)) x None) (get-remove keys_total s k q)
    ∙ taken_twice (eq_by_cmp key_cmp q k) (is_gone gone q) (get s q) ∙ sym (get-working s (k ∷ gone) q))

-- a list of no length is empty
pub none_left : (ks : List Key) → (0 < length ks → false ≡ true) → ks ≡ []
none_left [] h = refl
none_left (k ∷ ks) h = let e : false ≡ true = h (omega arith) in cc
