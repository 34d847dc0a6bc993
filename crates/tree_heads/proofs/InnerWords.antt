-- The words of a tree's interior page in a snapshot: its separators, and the pages below it.
use Rattle.std.proofs.Common.{◌≡◌, ℕ, zero, suc, ◌+◌, ◌-◌, ◌/◌, ◌%◌, ◌<◌, ◌≤◌, Bool, true, false, List, [], ◌∷◌, ◌++◌, length}
use Rattle.std.proofs.Common.{take, drop, replicate, get_or, Some, refl, sym, ap, ◌∙◌, arith, append_assoc}
use Rattle.std.specs.Prelude.{nat_lt, if◌then◌else◌}
use Rattle.std.specs.List.{slice_get}
use Rattle.std.proofs.lemmas.Bool.Decides.{nat_tests}
use Rattle.std.proofs.lemmas.List.{drop_at, get_or-append-add, get_or-append_right, get_or_append_left, take_at}
use Rattle.wire_form.specs.Bytes.{padded}
use Rattle.wire_form.specs.ByteLaws.{length-padded}
use Rattle.wire_form.specs.Pages.{Children, IsTreeInner, device_header, tree_inner_words}
use Rattle.homes.specs.declared.places.Span.{Span}
use Rattle.snapshot_store.specs.declared.place.PagePlace.{PagePlace}
use Rattle.snapshot_store.specs.TreePages.{Inner, children, node_below, node_of}
use Rattle.engine_pages.specs.Pages.{part_high, part_low}

-- ---- the children's places

-- the place with this index
abbrev pub child_place : Span → List ℕ → List ℕ → ℕ → PagePlace
child_place sp ss ns j = record { number = get_or ns j 0; low = part_low sp ss j; high = part_high sp ss j }

less_suc : (j n : ℕ) → nat_lt (suc j) (suc n) ≡ nat_lt j n
less_suc j n = by_test (nat_lt j n) refl
  where
    by_test : (c : Bool) → nat_lt j n ≡ c → nat_lt (suc j) (suc n) ≡ c
    by_test true e = grind (arith, nat_tests)
    by_test false e = grind (arith, nat_tests)

pub child_at : (sp : Span) (ss ns : List ℕ) (j : ℕ) → length ss + 1 ≡ length ns → j < length ns
    → slice_get (children sp.low sp.high ss ns) j ≡ Some (child_place sp ss ns j)
child_at sp ss [] j long less = absurd (omega (arith, less))
child_at sp [] (n ∷ []) zero long less = refl
child_at sp [] (n ∷ []) (suc j) long less = absurd (omega (arith, less))
child_at sp [] (n ∷ m ∷ ns) j long less = absurd (omega (arith, long))
child_at sp (s ∷ ss) (n ∷ ns) zero long less =
    let first : nat_lt 0 (suc (length ss)) ≡ true = grind (arith, nat_tests) in
    ap (λ c. Some (record { number = n; low = sp.low; high = if c then s - 1 else sp.high })) (sym first)
child_at sp (s ∷ ss) (n ∷ ns) (suc j) long less =
    let at : Span = record sp { low = s } in
    child_at at ss ns j (omega (arith, long)) (omega (arith, less))
    ∙ (ap (λ z. Some (record { number = get_or ns j 0; low = z; high = part_high at ss j })) (low_is j)
    ∙ ap (λ z. Some (record { number = get_or ns j 0; low = get_or (s ∷ ss) j 0; high = z }))
    (ap (λ c. if c then get_or ss j 0 - 1 else sp.high) (sym (less_suc j (length ss)))))
  where
    low_is : (j : ℕ) → part_low (record sp { low = s }) ss j ≡ get_or (s ∷ ss) j 0
    low_is zero = refl
    low_is (suc i) = refl

pub children_many : (low high : ℕ) (ss ns : List ℕ) → length ss + 1 ≡ length ns
    → length (children low high ss ns) ≡ length ns
children_many low high ss [] long = absurd (omega (arith, long))
children_many low high [] (n ∷ []) long = refl
children_many low high [] (n ∷ m ∷ ns) long = absurd (omega (arith, long))
children_many low high (s ∷ ss) (n ∷ ns) long =
    let rest = children_many s high ss ns (omega (arith, long)) in omega (arith, rest)

-- ---- the words

module _ (low high number : ℕ) (c : Children) (is : IsTreeInner low high number c) where
  abbrev ns : List ℕ
  ns = c.pointers

  abbrev ss : List ℕ
  ss = c.separators

  abbrev front : List ℕ
  front = padded 4 (device_header 2 (length ns) ∷ low ∷ high ∷ [])

  abbrev words : List ℕ
  words = tree_inner_words low high c

  many : length ns ≤ 30
  many = is.most

  fewer : length ss ≤ 30
  fewer = omega (arith, many, is.between)

  -- the pages below it
  pub below_is : node_below low high (node_of words) ≡ children low high ss ns
  below_is = ap (node_below low high) read
    where
      kind : device_header 2 (length ns) / 256 ≡ 2
      kind = omega (arith, many)

      count : device_header 2 (length ns) % 256 ≡ length ns
      count = omega (arith, many)

      one-less : length ns - 1 ≡ length ss
      one-less = omega (arith, is.between)

      numbers : take (length ns) (padded 30 ns ++ padded 30 ss) ≡ ns
      numbers =
          ap (take (length ns)) (append_assoc ns (replicate (30 - length ns) 0) (padded 30 ss))
          ∙ take_at ns (replicate (30 - length ns) 0 ++ padded 30 ss) (length ns) refl

      separators : take (length ns - 1) (drop 30 (padded 30 ns ++ padded 30 ss)) ≡ ss
      separators =
          ap (take (length ns - 1)) (drop_at (padded 30 ns) (padded 30 ss) 30 (length-padded 30 ns many))
          ∙ take_at ss (replicate (30 - length ss) 0) (length ns - 1) (sym one-less)

      read : node_of words ≡ Inner ss ns
      read =
          rw (kind, count)
          (ap (λ z. Inner z (take (length ns) (padded 30 ns ++ padded 30 ss))) separators ∙ ap (Inner ss) numbers)

  pub pointer_word : (j : ℕ) → j < length ns → get_or words (4 + j) 0 ≡ get_or ns j 0
  pointer_word j less =
      get_or-append-add front (padded 30 ns ++ padded 30 ss) j 0
      ∙ (get_or_append_left (padded 30 ns) (padded 30 ss) 0 j (omega (arith, less, many, length-padded 30 ns many))
      ∙ get_or_append_left ns (replicate (30 - length ns) 0) 0 j less)

  pub separator_word : (j : ℕ) → j < length ss → get_or words (34 + j) 0 ≡ get_or ss j 0
  separator_word j less =
      let at : 34 + j ≡ length front + (30 + j) = omega arith in
      let behind : (30 + j) - 30 ≡ j = omega arith in
      ap (λ i. get_or words i 0) at
      ∙ (get_or-append-add front (padded 30 ns ++ padded 30 ss) (30 + j) 0
      ∙ (get_or-append_right (padded 30 ns) (padded 30 ss) 30 (30 + j) 0 (length-padded 30 ns many) (omega arith)
      ∙ (ap (λ i. get_or (padded 30 ss) i 0) behind ∙ get_or_append_left ss (replicate (30 - length ss) 0) 0 j less)))
