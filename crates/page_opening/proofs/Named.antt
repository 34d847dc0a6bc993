-- Which pages have names at first: those that the roots lead to. Each of them stands, and what is below it has a name.
use Rattle.std.proofs.Common.{◌≡◌, ℕ, zero, suc, ◌<◌, ◌≤◌, Bool, true, false, true≢false, eqb, eq-eqb, ne_eqb, ◌&&◌, inl, inr}
use Rattle.std.proofs.Common.{List, [], ◌∷◌, ◌++◌, length, refl, sym, ap, ◌∙◌, subst, arith}
use Rattle.std.specs.Prelude.{if◌then◌else◌, nat_le}
use Rattle.std.proofs.lemmas.Bool.{and_from, cases_Bool, cases_eq, cond-true, cond-false}
use Rattle.std.specs.List.{flat_map, AllByRecursion, Contains}
use Rattle.lists.specs.Elements.{in_none, in_head, in_tail, in_cases}
use Rattle.serial_model.specs.declared.decl.Decl.{Decl}
use Rattle.serial_model.specs.declared.decl.Decl.TheVariants.{Array, Tree}
use Rattle.serial_model.specs.Keys.{id_of}
use Rattle.wire_form.specs.declared.records.Stored.{Stored}
use Rattle.snapshot_store.specs.declared.place.PagePlace.{PagePlace}
use Rattle.snapshot_store.specs.Places.{places_below}
use Rattle.snapshot_store.specs.Content.{deepest, format_of, root_place, RootStands}
use Rattle.engine_rule.specs.Reading.{is_place, led_places, name_from, name_of, named_places, page_in, storages}
use Rattle.engine_rule.proofs.ReadLists.{at_each, from_flat, in_either, in_flat, in_left, in_right}
use Rattle.engine_rule.proofs.ReadNames.{Stand, led_is}

-- a place of a storage
abbrev pub Named : Type 0
Named = Decl × PagePlace

-- ---- places that a place leads to

module _ (pages : List (List ℕ)) where
  -- What is known of one of these places that a place of this storage leads to, on ways of so many pages.
  pub record IsLed (decl : Decl) (d : ℕ) (all : List Named) (e : Named) : Type 0 where
    pub same : e.0 ≡ decl
    pub depth : ℕ
    pub most : depth ≤ d
    pub stands : Stand pages e.0 depth e.1
    pub some : 0 < (e.1).number
    pub below : (q : PagePlace) → Contains (places_below (format_of e.0) pages e.1) q → 0 < q.number
        → Contains all (e.0, q)

  pub wider : (decl : Decl) (d more : ℕ) (all among : List Named) (e : Named) → d ≤ more
      → ((x : Named) → Contains all x → Contains among x) → IsLed decl d all e → IsLed decl more among e
  wider decl d more all among e less into led = record {
    same = led.same;
    depth = led.depth;
    most = let most = led.most in omega arith;
    stands = led.stands;
    some = led.some;
    below = λ q at number. into (e.0, q) (led.below q at number);
  }

  -- a place without a page leads nowhere
  none_led : (decl : Decl) (d : ℕ) (p : PagePlace) → p.number ≡ 0 → led_places decl pages (suc d) p ≡ []
  none_led decl d p none =
      cond-true (eqb (page_in (length pages) p.number) 0) []
      (flat_map (led_places decl pages d) (places_below (format_of decl) pages p) ++ (decl, p) ∷ [])
      (ap (λ (n : ℕ). eqb (page_in (length pages) n) 0) none ∙ none_in (nat_le 0 (length pages)))
    where
      none_in : (b : Bool) → eqb (if b then 0 else 0) 0 ≡ true
      none_in true = refl
      none_in false = refl

  -- a place with a page is among its own
  pub last_led : (decl : Decl) (d : ℕ) (q : PagePlace) → Stand pages decl d q → 0 < q.number
      → Contains (led_places decl pages d q) (decl, q)
  last_led decl zero q stands some = absurd stands
  last_led decl (suc d) q stands some =
      subst (λ (l : List Named). Contains l (decl, q)) (sym (led_is pages decl d q stands (λ none. absurd (omega (arith, some, none)))))
      (in_right (flat_map (led_places decl pages d) (places_below (format_of decl) pages q)) ((decl, q) ∷ []) (decl, q)
      (in_head (decl, q) []))

  pub each_led : (decl : Decl) (d : ℕ) (p : PagePlace) → Stand pages decl d p → (e : Named)
      → Contains (led_places decl pages d p) e → IsLed decl d (led_places decl pages d p) e
  each_led decl zero p stands e there = absurd stands
  each_led decl (suc d) p stands e there =
      let below : List PagePlace = places_below (format_of decl) pages p in
      let flat : List Named = flat_map (led_places decl pages d) below in
      elim (cases_eq p.number 0) [
        | inl none ↦
            absurd (in_none e (subst (λ (l : List Named). Contains l e) (none_led decl d p none) there))
        | inr some ↦
            let is = led_is pages decl d p stands some in
            subst (λ (l : List Named). IsLed decl (suc d) l e) (sym is)
            (elim (in_either flat ((decl, p) ∷ []) e (subst (λ (l : List Named). Contains l e) is there)) [
              | inl first ↦
                  let r = from_flat (led_places decl pages d) below e first in
                  wider decl d (suc d) (led_places decl pages d r.0) (flat ++ (decl, p) ∷ []) e (omega arith)
                  (λ x has. in_left flat ((decl, p) ∷ []) x (in_flat (led_places decl pages d) below r.0 x r.1 has))
                  (each_led decl d r.0 (at_each (Stand pages decl d) below r.0 stands.below r.1) e r.2)
              | inr last ↦ elim (in_cases e (decl, p) [] last) [
                | inl same ↦ subst (IsLed decl (suc d) (flat ++ (decl, p) ∷ [])) same record {
                  same = refl;
                  depth = suc d;
                  most = omega arith;
                  stands = stands;
                  some = omega (arith, some);
                  below = λ q at number.
                      in_left flat ((decl, p) ∷ []) (decl, q) (in_flat (led_places decl pages d) below q (decl, q) at
                      (last_led decl d q (at_each (Stand pages decl d) below q stands.below at) number));
                }
                | inr none ↦ absurd (in_none e none)
              ]
            ])
      ]

  -- ---- those of all roots

  abbrev root_of : Stored → PagePlace
  root_of s = root_place s.decl s.root

  -- each of them is one of a storage's root
  pub record IsNamedIn (ss : List Stored) (e : Named) : Type 0 where
    pub of : Stored
    pub has : Contains ss of
    pub led : IsLed of.decl deepest (named_places pages ss) e

  pub each_named : (ss : List Stored) → AllByRecursion (RootStands pages) ss → (e : Named)
      → Contains (named_places pages ss) e → IsNamedIn ss e
  each_named ss stand e there =
      let places : Stored → List Named = λ s. led_places s.decl pages deepest (root_place s.decl s.root) in
      let r = from_flat places ss e there in record {
        of = r.0;
        has = r.1;
        led = wider (r.0).decl deepest deepest (places r.0) (named_places pages ss) e (omega arith)
            (λ x has. in_flat places ss r.0 x r.1 has)
            (each_led (r.0).decl deepest (root_place (r.0).decl (r.0).root) (at_each (RootStands pages) ss r.0 stand r.1) e r.2);
      }

  -- and so is each root with a page
  pub root_named : (ss : List Stored) → AllByRecursion (RootStands pages) ss → (s : Stored) → Contains ss s
      → 0 < (root_of s).number → Contains (named_places pages ss) (s.decl, root_of s)
  root_named ss stand s has some =
      in_flat (λ (x : Stored). led_places x.decl pages deepest (root_place x.decl x.root)) ss s (s.decl, root_of s) has
      (last_led s.decl deepest (root_of s) (at_each (RootStands pages) ss s stand has) some)

-- ---- names

itself : (decl : Decl) (p : PagePlace) → is_place decl p (decl, p) ≡ true
itself decl p =
    and_from (eqb (id_of decl) (id_of decl)) (eqb p.number p.number && (eqb p.low p.low && eqb p.high p.high))
    (eq-eqb (id_of decl) (id_of decl) refl)
    (and_from (eqb p.number p.number) (eqb p.low p.low && eqb p.high p.high) (eq-eqb p.number p.number refl)
    (and_from (eqb p.low p.low) (eqb p.high p.high) (eq-eqb p.low p.low refl) (eq-eqb p.high p.high refl)))

name_above : (i : ℕ) (xs : List Named) (decl : Decl) (p : PagePlace) → 0 < i → Contains xs (decl, p)
    → 0 < name_from i xs decl p
name_above i [] decl p low there = absurd (in_none (decl, p) there)
name_above i (x ∷ xs) decl p low there = elim (cases_Bool (is_place decl p x)) [
  | inl hit ↦ subst (λ n. 0 < n) (sym (cond-true (is_place decl p x) i (name_from (suc i) xs decl p) hit)) low
  | inr miss ↦ elim (in_cases (decl, p) x xs there) [
    | inl is ↦ absurd (true≢false (sym (itself decl p) ∙ (ap (is_place decl p) (sym is) ∙ miss)))
    | inr more ↦
        subst (λ n. 0 < n) (sym (cond-false (is_place decl p x) i (name_from (suc i) xs decl p) miss))
        (name_above (suc i) xs decl p (omega arith) more)
  ]
]

-- a place with a page that stands among these has a name
pub name_some : (places : List Named) (decl : Decl) (p : PagePlace) → 0 < p.number → Contains places (decl, p)
    → 0 < name_of places decl p
name_some places decl p some there =
    subst (λ n. 0 < n)
    (sym (cond-false (eqb p.number 0) 0 (name_from 1 places decl p) (ne_eqb p.number 0 (λ none. omega (arith, some, none)))))
    (name_above 1 places decl p (omega arith) there)

-- ---- storages

-- each storage with a root is declared
pub stored_declared : (decls : List Decl) (roots : List ℕ) (s : Stored) → Contains (storages decls roots) s
    → Contains decls s.decl
stored_declared [] roots s at = absurd (in_none s at)
stored_declared (d ∷ decls) [] s at = absurd (in_none s at)
stored_declared (d ∷ decls) (r ∷ roots) s at =
    elim (in_cases s (record { decl = d; root = r }) (storages decls roots) at) [
      | inl is ↦ subst (λ (x : Stored). Contains (d ∷ decls) x.decl) is (in_head d decls)
      | inr more ↦ in_tail s.decl d decls (stored_declared decls roots s more)
    ]

-- a root's place has the root's number
pub root_number : (decl : Decl) (root : ℕ) → (root_place decl root).number ≡ root
root_number (Array id size) root = refl
root_number (Tree id) root = refl
