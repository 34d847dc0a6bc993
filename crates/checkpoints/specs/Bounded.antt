-- Pages whose records, found from the root, have numbers up to an epoch are pages up to that epoch, and the other way.
use Rattle.std.proofs.Common.{◌≡◌, ℕ, zero, suc, ◌+◌, ◌<◌, ◌≤◌, true, false, List, [], ◌∷◌, Option}
use Rattle.std.proofs.Common.{inl, inr, refl, sym, ap, subst, ◌∙◌, arith}
use Rattle.std.specs.Prelude.{IfSome, nat_le, cond}
use Rattle.std.specs.List.{AllByRecursion}
use Rattle.std.proofs.lemmas.Bool.{cases_lt}
use Rattle.std.proofs.lemmas.Bool.Decides.{nat_tests}
use Rattle.lists.specs.Each.{all_weaker}
use Rattle.serial_model.specs.declared.decl.Decl.{Decl}
use Rattle.snapshot_store.specs.declared.place.PagePlace.{PagePlace}
use Rattle.snapshot_store.specs.Places.{Found, Format, words_at, places_below, at_key, find, here_or_below}
use Rattle.snapshot_store.specs.Places.{Cover, Tiles, Stands, StandsTo}
use Rattle.snapshot_store.specs.Content.{format_of, IsPageOf}
use Rattle.recovery_core.specs.SnapshotPages.{epoch_in, IsPageUpTo}

-- a number within another
pub le_yes : (a b : ℕ) → a ≤ b → nat_le a b ≡ true
le_yes a b h = grind (arith, nat_tests)

-- and one above it
pub le_no : (a b : ℕ) → b < a → nat_le a b ≡ false
le_no a b h = grind (arith, nat_tests)

-- ---- places in a row

module _ {X : Type 0} (f : PagePlace → Option X) where
  -- a place of the row, from one key to another: what is looked for in its range is looked for there
  pub record IsPart (low high : ℕ) (qs : List PagePlace) (q : PagePlace) : Type 0 where
    pub from : low ≤ q.low
    pub to : q.high ≤ high
    pub found : (key : ℕ) → q.low ≤ key → key ≤ q.high → at_key key f qs ≡ f q

  parts : (low high : ℕ) (qs : List PagePlace) → Cover low high qs → AllByRecursion (IsPart low high qs) qs
  parts low high [] cover = tt
  parts low high (q ∷ qs) cover = (
    record {
      from = omega (arith, cover.0);
      to = cover.2;
      found = λ key from to. ap (λ b. cond b (f q) (at_key key f qs)) (le_yes key q.high to);
    },
    all_weaker (IsPart (q.high + 1) high qs) (IsPart low high (q ∷ qs)) (λ r part. record {
      from = omega (arith, cover.1, part.from);
      to = part.to;
      found = λ key from to.
          let past : nat_le key q.high ≡ false = le_no key q.high (omega (arith, part.from, from)) in
          ap (λ b. cond b (f q) (at_key key f qs)) past ∙ part.found key from to;
    }) qs (parts (q.high + 1) high qs cover.3),
  )

  -- and what holds of what each has in its range holds of what is found
  found_in : (P : Option X → Type 0) (key low high : ℕ) (qs : List PagePlace) → Cover low high qs → low ≤ key → key ≤ high
      → AllByRecursion (λ q. q.low ≤ key → key ≤ q.high → P (f q)) qs → P (at_key key f qs)
  found_in P key low high [] cover from to all = absurd (omega (arith, cover, from, to))
  found_in P key low high (q ∷ qs) cover from to all =
      elim (cases_lt q.high key) [
        | inr within ↦ subst P (sym (ap (λ b. cond b (f q) (at_key key f qs)) (le_yes key q.high within)))
            (all.0 (omega (arith, cover.0, from)) within)
        | inl past ↦ subst P (sym (ap (λ b. cond b (f q) (at_key key f qs)) (le_no key q.high past)))
            (found_in P key (q.high + 1) high qs cover.3 (omega (arith, past)) to all.1)
      ]

-- what follows of two facts, of each
both_weaker : {X : Type 0} (P Q R : X → Type 0) → ((x : X) → P x → Q x → R x) → (xs : List X) → AllByRecursion P xs
    → AllByRecursion Q xs → AllByRecursion R xs
both_weaker P Q R to [] p q = tt
both_weaker P Q R to (x ∷ xs) p q = (to x p.0 q.0, both_weaker P Q R to xs p.1 q.1)

-- ---- pages

-- what was found has a number up to an epoch
abbrev pub IsUpTo : ℕ → Option Found → Type 0
IsUpTo epoch o = IfSome o (λ found. epoch_in found.number ≤ epoch)

module _ (epoch : ℕ) (decl : Decl) (pages : List (List ℕ)) where
  abbrev F : Format
  F = format_of decl

  -- a page's record is that of what is below it, where something is
  find_below : (d key : ℕ) (p : PagePlace) (qs : List PagePlace) → places_below F pages p ≡ qs
      → find F pages (suc d) key p ≡ here_or_below (F.look (words_at pages p) p.low key)
      (at_key key (find F pages d key) qs) qs
  find_below d key p qs is =
      ap (λ l. here_or_below (F.look (words_at pages p) p.low key) (at_key key (find F pages d key) l) l) is

  -- what is found at each of the places in a row
  every : (d low high : ℕ) (all qs : List PagePlace)
      → ((key : ℕ) → AllByRecursion (IsPart (find F pages d key) low high all) qs)
      → ((key : ℕ) → low ≤ key → key ≤ high → IsUpTo epoch (at_key key (find F pages d key) all))
      → AllByRecursion (λ q. (key : ℕ) → q.low ≤ key → key ≤ q.high → IsUpTo epoch (find F pages d key q)) qs
  every d low high all [] part found = tt
  every d low high all (q ∷ qs) part found = (
    λ key from to.
        let this = (part key).0 in
        subst (IsUpTo epoch) (this.found key from to)
        (found key (omega (arith, this.from, from)) (omega (arith, this.to, to))),
    every d low high all qs (λ key. (part key).1) found,
  )

  -- what is found at a page, by the places below it
  found_below : (d key : ℕ) (p : PagePlace)
      → ((r : PagePlace) → StandsTo F (IsPageUpTo epoch decl) pages d r → r.low ≤ key → key ≤ r.high
      → IsUpTo epoch (find F pages d key r))
      → Stands F (IsPageUpTo epoch decl) pages (StandsTo F (IsPageUpTo epoch decl) pages d) p → p.low ≤ key
      → key ≤ p.high → (qs : List PagePlace) → places_below F pages p ≡ qs → Tiles p.low p.high qs
      → AllByRecursion (StandsTo F (IsPageUpTo epoch decl) pages d) qs
      → IsUpTo epoch (here_or_below (F.look (words_at pages p) p.low key) (at_key key (find F pages d key) qs) qs)
  found_below d key p rest stands from to [] is tiles all = stands.right.numbers is key from to
  found_below d key p rest stands from to (q ∷ qs) is tiles all =
      found_in (find F pages d key) (IsUpTo epoch) key p.low p.high (q ∷ qs) tiles from to
      (all_weaker (StandsTo F (IsPageUpTo epoch decl) pages d)
      (λ r. r.low ≤ key → key ≤ r.high → IsUpTo epoch (find F pages d key r)) rest (q ∷ qs) all)

  -- pages up to an epoch have no later record
  pub found_up_to : (d : ℕ) (p : PagePlace) → StandsTo F (IsPageUpTo epoch decl) pages d p → (key : ℕ) → p.low ≤ key
      → key ≤ p.high → IsUpTo epoch (find F pages d key p)
  found_up_to zero p stands key from to = absurd stands
  found_up_to (suc d) p stands key from to =
      found_below d key p (λ r there low high. found_up_to d r there key low high) stands from to
      (places_below F pages p) refl stands.tiles stands.below

  -- no record that is found in the range of a place has a later number
  abbrev pub FoundUpTo : ℕ → PagePlace → Type 0
  FoundUpTo d p = (key : ℕ) → p.low ≤ key → key ≤ p.high → IsUpTo epoch (find F pages d key p)

  -- so it is of the places below
  each_up_to : (d : ℕ) (p : PagePlace) → FoundUpTo (suc d) p → (qs : List PagePlace) → places_below F pages p ≡ qs
      → Tiles p.low p.high qs → AllByRecursion (FoundUpTo d) qs
  each_up_to d p found [] is tiles = tt
  each_up_to d p found (q ∷ qs) is tiles = every d p.low p.high (q ∷ qs) (q ∷ qs)
      (λ key. parts (find F pages d key) p.low p.high (q ∷ qs) tiles)
      (λ key from to. subst (IsUpTo epoch) (find_below d key p (q ∷ qs) is) (found key from to))

  -- pages whose records have no later number are pages up to the epoch
  pub stands_up_to : (d : ℕ) (p : PagePlace) → StandsTo F (IsPageOf decl) pages d p → FoundUpTo d p
      → StandsTo F (IsPageUpTo epoch decl) pages d p
  stands_up_to zero p stands found = absurd stands
  stands_up_to (suc d) p stands found = record {
    there = stands.there;
    right = record {
      page = stands.right;
      numbers = λ leaf key from to. subst (IsUpTo epoch) (find_below d key p [] leaf) (found key from to);
    };
    tiles = stands.tiles;
    below = both_weaker (StandsTo F (IsPageOf decl) pages d) (FoundUpTo d) (StandsTo F (IsPageUpTo epoch decl) pages d)
        (stands_up_to d) (places_below F pages p) stands.below
        (each_up_to d p found (places_below F pages p) refl stands.tiles);
  }

  -- and pages up to an epoch are pages
  pub stands_plain : (d : ℕ) (p : PagePlace) → StandsTo F (IsPageUpTo epoch decl) pages d p
      → StandsTo F (IsPageOf decl) pages d p
  stands_plain zero p stands = absurd stands
  stands_plain (suc d) p stands = record {
    there = stands.there;
    right = stands.right.page;
    tiles = stands.tiles;
    below = all_weaker (StandsTo F (IsPageUpTo epoch decl) pages d) (StandsTo F (IsPageOf decl) pages d)
        (stands_plain d) (places_below F pages p) stands.below;
  }
