-- Lists of places and of what is looked up, item by item.
use Rattle.std.proofs.Common.{◌≡◌, ℕ, suc, ◌+◌, ◌<◌, Bool, cond, List, [], ◌∷◌, ◌++◌, length, map, set, get_or, take, drop, sym, ap, ◌∙◌, arith, Option, Some, None}
use Rattle.std.proofs.lemmas.Grind.{common_steps}
use Rattle.std.proofs.lemmas.List.{get_or_default, take_more}
use Rattle.std.proofs.lemmas.List.Edits.{map_over_more}
use Rattle.std.specs.List.{find}
use Rattle.std.specs.Option.{option_map_or}
use Rattle.serial_model.specs.declared.key.Key.{Key}
use Rattle.homes.specs.declared.places.Spot.{Spot}
use Rattle.homes.specs.declared.places.Home.{Home}
use Rattle.homes.specs.declared.places.Home.TheVariants.{InSlot}
use Rattle.homes.specs.Homes.{look}
use Rattle.homes.specs.Laws.{look-found}
use Rattle.commit_core.specs.declared.place.Place.{Place}
use Rattle.commit_core.specs.Opening.{opening_place, opening_places, opening_homes, opening_spot}

-- ---- one entry more has what it is to have

pub entry-more : (f : Spot → Bool) (g : Place → Place) (xs ys : List (Spot × Place)) (d x : Spot × Place) (i : ℕ) → i < length xs
    → ys ≡ map (λ e. cond (f e.0) (e.0, g e.1) e) (take i xs) ++ drop i xs
    → x ≡ cond (f (get_or ys i d).0) ((get_or ys i d).0, g (get_or ys i d).1) (get_or ys i d)
    → set ys i x ≡ map (λ e. cond (f e.0) (e.0, g e.1) e) (take (i + 1) xs) ++ drop (i + 1) xs
entry-more f g xs ys d x i lt so is =
    let whole : length ys ≡ length xs = grind (arith, common_steps) in
    let there : i < length ys = omega arith in
    ap (set ys i) is ∙ map_over_more (λ e. cond (f e.0) (e.0, g e.1) e) xs ys i (get_or ys i d) lt so (get_or_default ys i d (get_or ys i d) there)

-- ---- what was found

pub looked-up : {K V : Type 0} (same : K → K → Bool) (d : V) (xs : List (K × V)) (q : K) (e : K × V) → find (λ x. same x.0 q) xs ≡ Some e → e.1 ≡ look same d xs q
looked-up {K} {V} same d xs q e is = sym (look-found same d xs q ∙ ap (λ (o : Option (K × V)). option_map_or (λ x. x.1) o d) is)

pub looked-none : {K V : Type 0} (same : K → K → Bool) (d : V) (xs : List (K × V)) (q : K) → find (λ x. same x.0 q) xs ≡ None → d ≡ look same d xs q
looked-none {K} {V} same d xs q is = sym (look-found same d xs q ∙ ap (λ (o : Option (K × V)). option_map_or (λ x. x.1) o d) is)

-- what was found in an equal list
pub found_in : {A : Type 0} (test : A → Bool) {xs ys : List A} {o : Option A} → ys ≡ xs → find test ys ≡ o → find test xs ≡ o
found_in test same is = ap (find test) (sym same) ∙ is

-- ---- the places and homes of a start

and_none : (i : ℕ) → i ≡ i + 0
and_none i = omega arith

later : (i n : ℕ) → (i + 1) + n ≡ i + suc n
later i n = omega arith

places-more : (i : ℕ) (xs : List (Key × ℕ)) (e : Key × ℕ) → opening_places i (xs ++ e ∷ []) ≡ opening_places i xs ++ (opening_spot (i + length xs), opening_place e.1) ∷ []
places-more i [] e = ap (λ (n : ℕ). (opening_spot n, opening_place e.1) ∷ []) (and_none i)
places-more i (x ∷ xs) e =
    ap (λ (l : List (Spot × Place)). (opening_spot i, opening_place x.1) ∷ l)
    (places-more (i + 1) xs e ∙ ap (λ (n : ℕ). opening_places (i + 1) xs ++ (opening_spot n, opening_place e.1) ∷ []) (later i (length xs)))

homes-more : (i : ℕ) (xs : List (Key × ℕ)) (e : Key × ℕ) → opening_homes i (xs ++ e ∷ []) ≡ opening_homes i xs ++ (e.0, InSlot (opening_spot (i + length xs))) ∷ []
homes-more i [] e = ap (λ (n : ℕ). (e.0, InSlot (opening_spot n)) ∷ []) (and_none i)
homes-more i (x ∷ xs) e =
    ap (λ (l : List (Key × Home)). (x.0, InSlot (opening_spot i)) ∷ l)
    (homes-more (i + 1) xs e ∙ ap (λ (n : ℕ). opening_homes (i + 1) xs ++ (e.0, InSlot (opening_spot n)) ∷ []) (later i (length xs)))

front : (xs : List (Key × ℕ)) (i : ℕ) → i < length xs → 0 + length (take i xs) ≡ i
front xs i lt = grind (arith, common_steps)

-- one place more
pub places-join : (xs : List (Key × ℕ)) (i j : ℕ) (d : Key × ℕ) (old new : List (Spot × Place)) (x : Spot) (q : Place) → i ≡ j → j < length xs → old ≡ opening_places 0 (take i xs)
    → x ≡ opening_spot i → q ≡ opening_place (get_or xs j d).1 → new ≡ old ++ (x, q) ∷ [] → new ≡ opening_places 0 (take (i + 1) xs)
places-join xs i j d old new x q same lt so at is e =
    let under : i < length xs = omega (arith, same, lt) in
    let now : old ++ (x, q) ∷ [] ≡ opening_places 0 (take i xs) ++ (opening_spot i, opening_place (get_or xs i d).1) ∷ [] =
    ap (λ (l : List (Spot × Place)). l ++ (x, q) ∷ []) so
    ∙ ap (λ (y : Spot). opening_places 0 (take i xs) ++ (y, q) ∷ []) at
    ∙ ap (λ (r : Place). opening_places 0 (take i xs) ++ (opening_spot i, r) ∷ []) (is ∙ ap (λ (n : ℕ). opening_place (get_or xs n d).1) (sym same)) in
    let next : opening_places 0 (take (i + 1) xs) ≡ opening_places 0 (take i xs) ++ (opening_spot i, opening_place (get_or xs i d).1) ∷ [] =
    ap (opening_places 0) (take_more xs i d under) ∙ places-more 0 (take i xs) (get_or xs i d)
    ∙ ap (λ (n : ℕ). opening_places 0 (take i xs) ++ (opening_spot n, opening_place (get_or xs i d).1) ∷ []) (front xs i under) in
    e ∙ now ∙ sym next

-- one home more
pub homes-join : (xs : List (Key × ℕ)) (i j : ℕ) (d : Key × ℕ) (old new : List (Key × Home)) (x : Spot) → i ≡ j → j < length xs → old ≡ opening_homes 0 (take i xs)
    → x ≡ opening_spot i → new ≡ old ++ ((get_or xs j d).0, InSlot x) ∷ [] → new ≡ opening_homes 0 (take (i + 1) xs)
homes-join xs i j d old new x same lt so at e =
    let under : i < length xs = omega (arith, same, lt) in
    let now : old ++ ((get_or xs j d).0, InSlot x) ∷ [] ≡ opening_homes 0 (take i xs) ++ ((get_or xs i d).0, InSlot (opening_spot i)) ∷ [] =
    ap (λ (l : List (Key × Home)). l ++ ((get_or xs j d).0, InSlot x) ∷ []) so
    ∙ ap (λ (y : Spot). opening_homes 0 (take i xs) ++ ((get_or xs j d).0, InSlot y) ∷ []) at
    ∙ ap (λ (n : ℕ). opening_homes 0 (take i xs) ++ ((get_or xs n d).0, InSlot (opening_spot i)) ∷ []) (sym same) in
    let next : opening_homes 0 (take (i + 1) xs) ≡ opening_homes 0 (take i xs) ++ ((get_or xs i d).0, InSlot (opening_spot i)) ∷ [] =
    ap (opening_homes 0) (take_more xs i d under) ∙ homes-more 0 (take i xs) (get_or xs i d)
    ∙ ap (λ (n : ℕ). opening_homes 0 (take i xs) ++ ((get_or xs i d).0, InSlot (opening_spot n)) ∷ []) (front xs i under) in
    e ∙ now ∙ sym next
