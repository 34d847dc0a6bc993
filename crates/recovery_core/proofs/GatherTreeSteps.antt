-- The pages of a tree, gathered one after another.
use Rattle.std.proofs.Common.{◌≡◌, ◌≢◌, ℕ, ◌+◌, ◌-◌, ◌/◌, ◌<◌, ◌≤◌, suc, List, [], ◌∷◌, length, get_or, drop}
use Rattle.std.proofs.Common.{None, refl, sym, ap, subst, ◌∙◌, arith, inl, inr}
use Rattle.std.specs.Prelude.{cond}
use Rattle.std.proofs.lemmas.List.{get_or-drop, get_or-take}
use Rattle.std.proofs.lemmas.Bool.{cases_eq, cases_lt}
use Rattle.serial_model.specs.declared.decl.Decl.TheVariants.{Tree}
use Rattle.serial_model.specs.State.{State}
use Rattle.serial_model.specs.declared.key.Key.{Key}
use Rattle.wire_form.specs.declared.page.PageKind.TheVariants.{TreeLeaf}
use Rattle.wire_form.specs.Pages.{HasKind}
use Rattle.snapshot_store.specs.declared.place.PagePlace.{PagePlace}
use Rattle.snapshot_store.specs.Places.{words_at, places_below}
use Rattle.snapshot_store.specs.TreePages.{count_of, node_of, children, node_below, record_for, records_of, tree_format}
use Rattle.recovery_core.specs.Damage.{first_byte, BreaksTo}
use Rattle.recovery_core.specs.SnapshotPages.{IsPageUpTo}
use Rattle.recovery_core.specs.Gather.{Puts, is_from, tree_records, found_at, Gathered, Gathers}
use Rattle.recovery_core.proofs.GatherLaws.{le_yes, le_no, lt_yes, lt_no, eq_yes, eq_no, no_found, puts_none}
use Rattle.recovery_core.proofs.GatherLaws.{puts_same, gathers_begin, gathers_more, gathers_break}
use Rattle.recovery_core.proofs.GatherLaws.{inner_gathered, leaf_gathered, breaks_here, breaks_below}
use Rattle.recovery_core.proofs.GatherTreeLaws.{records_in, numbers_in, separators_in, IsInner, cover_inner}
use Rattle.recovery_core.proofs.GatherTreeLaws.{inner_is, leaf_is, node_inner, children_more, children_last}
use Rattle.recovery_core.proofs.GatherTreeLaws.{length-children, child_at, separator_some, record_outside}
use Rattle.recovery_core.proofs.GatherTreeLaws.{leaf_records, look_leaf, below_leaf}

-- ---- the words of the children

pub number_at : (words : List ℕ) (i : ℕ) → i < count_of words → get_or (numbers_in words) i 0 ≡ get_or words (4 + i) 0
number_at words i below = get_or-take (count_of words) (drop 4 words) i 0 below ∙ get_or-drop 4 words i 0

pub separator_at : (words : List ℕ) (i : ℕ) → i < count_of words - 1
    → get_or (separators_in words) i 0 ≡ get_or words (34 + i) 0
separator_at words i below = get_or-take (count_of words - 1) (drop 34 words) i 0 below ∙ get_or-drop 34 words i 0

-- pointers go down
pub child_below : (p : PagePlace) (words : List ℕ) (i : ℕ) → IsInner p words → i < count_of words
    → get_or words (4 + i) 0 < p.number
child_below p words i is below =
    subst (λ n. n < p.number) (number_at words i below)
    (child_at p.number (numbers_in words) i (omega (arith, is.children)) is.each)

-- separators are above the low fence
pub separator_above : (p : PagePlace) (words : List ℕ) (i : ℕ) → IsInner p words → i < count_of words - 1
    → 1 ≤ get_or words (34 + i) 0
separator_above p words i is below =
    subst (λ s. 1 ≤ s) (separator_at words i below)
    (separator_some p.low p.high (separators_in words) i (omega (arith, is.between)) is.within)

module _ (pages : List (List ℕ)) (epoch id : ℕ) where
  -- nothing is put of a tree without pages
  pub tree_empty : (d : ℕ) (p : PagePlace) (s : State) → 1 ≤ d → p.number ≡ 0
      → Gathered tree_format (IsPageUpTo epoch (Tree id)) pages d id p s s
  tree_empty d p s deep none =
      let same : record { number = 0; low = p.low; high = p.high }
      ≡ p = ap (λ n. record { number = n; low = p.low; high = p.high }) (sym none) in
      let deep_is : suc (d - 1) ≡ d = omega (arith, deep) in
      subst (λ k. Gathered tree_format (IsPageUpTo epoch (Tree id)) pages k id p s s) deep_is
      (subst (λ q. Gathered tree_format (IsPageUpTo epoch (Tree id)) pages (suc (d - 1)) id q s s) same
      (record {
        stands = record {
          there = omega arith;
          right = record {
            page = record { none = λ _. refl; page = λ some. absurd (omega (arith, some)) };
            numbers = λ leaf key from to. tt;
          };
          tiles = tt;
          below = tt;
        };
        puts = puts_none (found_at tree_format pages (suc (d - 1)) id
            (record { number = 0; low = p.low; high = p.high })) s
            (λ key. no_found (is_from id p.low (p.high + 1) key));
      }))

  -- a page that isn't right
  pub tree_wrong : (d : ℕ) (p : PagePlace) (words : List ℕ) (n : ℕ) → 1 ≤ d → words ≡ words_at pages p
      → (IsPageUpTo epoch (Tree id) p words → ⊥) → n ≡ first_byte p.number
      → BreaksTo tree_format (IsPageUpTo epoch (Tree id)) pages n d p
  tree_wrong d p words n deep is wrong at =
      let deep_is : suc (d - 1) ≡ d = omega (arith, deep) in
      subst (λ k. BreaksTo tree_format (IsPageUpTo epoch (Tree id)) pages n k p) deep_is
      (breaks_here tree_format (IsPageUpTo epoch (Tree id)) pages (d - 1) id p n
      (λ right. wrong (subst (IsPageUpTo epoch (Tree id) p) (sym is) right)) at)

  -- a page below 32 others is none
  pub tree_deep : (d : ℕ) (p : PagePlace) (n : ℕ) → d ≡ 0 → n ≡ first_byte p.number
      → BreaksTo tree_format (IsPageUpTo epoch (Tree id)) pages n d p
  tree_deep d p n none at = subst (λ k. BreaksTo tree_format (IsPageUpTo epoch (Tree id)) pages n k p) (sym none) at

  -- the records of a leaf are those in its range
  leaf_range : (p : PagePlace) (words : List ℕ) (key : Key) → HasKind (TreeLeaf p.low p.high) p.number words
      → tree_records (records_in words) id key
      ≡ cond (is_from id p.low (p.high + 1) key) (record_for (records_of (node_of words)) key.key) None
  leaf_range p words key leaf =
      let same = leaf_records p.low p.high leaf.0 words leaf.1.most leaf.2 in
      elim (cases_eq key.storage id) [
        | inl here ↦ elim (cases_lt key.key p.low) [
          | inl below ↦
              rw (eq_yes key.storage id here, le_no p.low key.key below)
              (ap (λ rs. record_for rs key.key) same
              ∙ record_outside p.low p.high key.key leaf.0 leaf.1.each (inl below))
          | inr from ↦ elim (cases_lt p.high key.key) [
            | inl above ↦
                rw (
                  eq_yes key.storage id here,
                  le_yes p.low key.key (omega arith),
                  lt_no key.key (p.high + 1)
                      (omega arith),
                )
                (ap (λ rs. record_for rs key.key) same
                ∙ record_outside p.low p.high key.key leaf.0 leaf.1.each (inr above))
            | inr to ↦
                rw (
                  eq_yes key.storage id here,
                  le_yes p.low key.key (omega arith),
                  lt_yes key.key (p.high + 1)
                      (omega arith),
                ) (sym (look_leaf p words key.key leaf))
          ]
        ]
        | inr other ↦ rw (eq_no key.storage id other) refl
      ]

  -- a leaf whose records were put
  pub leaf_put : (d : ℕ) (p : PagePlace) (words : List ℕ) (old now : State) → 1 ≤ d → 0 < p.number
      → p.number ≤ length pages → words ≡ words_at pages p → get_or words 0 0 / 256 ≢ 2
      → IsPageUpTo epoch (Tree id) p words → Puts (tree_records (records_in words) id) old now
      → Gathered tree_format (IsPageUpTo epoch (Tree id)) pages d id p old now
  leaf_put d p words old now deep some there is kind right puts =
      let leaf = leaf_is epoch id p words some kind right in
      let deep_is : suc (d - 1) ≡ d = omega (arith, deep) in
      subst (λ k. Gathered tree_format (IsPageUpTo epoch (Tree id)) pages k id p old now) deep_is
      (leaf_gathered tree_format (IsPageUpTo epoch (Tree id)) pages (d - 1) id p old now there
      (subst (IsPageUpTo epoch (Tree id) p) is right)
      (subst (λ ws. node_below p.low p.high (node_of ws) ≡ []) is (below_leaf p words leaf))
      (puts_same (tree_records (records_in words) id)
      (λ key. cond (is_from id p.low (p.high + 1) key)
      (record_for (records_of (node_of (words_at pages p))) key.key) None) old now
      (λ key. leaf_range p words key leaf
      ∙ ap (λ ws. cond (is_from id p.low (p.high + 1) key)
      (record_for (records_of (node_of ws)) key.key) None) is) puts))

  -- what the loop over the children keeps
  abbrev pub TreeGathers : ℕ → PagePlace → List ℕ → State → ℕ → ℕ → State → Type 0
  TreeGathers d p words old at i now =
      Gathers tree_format (IsPageUpTo epoch (Tree id)) pages d id p.low p.high
      (children p.low p.high (separators_in words) (numbers_in words)) old at
      (children at p.high (drop i (separators_in words)) (drop i (numbers_in words))) now

  pub tree_begins : (d : ℕ) (p : PagePlace) (words : List ℕ) (s : State) → IsInner p words
      → TreeGathers d p words s p.low 0 s
  tree_begins d p words s is =
      gathers_begin tree_format (IsPageUpTo epoch (Tree id)) pages d id p.low p.high
      (children p.low p.high (separators_in words) (numbers_in words)) s (cover_inner p words is)

  tree_next : (d : ℕ) (p : PagePlace) (words : List ℕ) (old : State) (at i : ℕ) (now : State) → IsInner p words
      → i < count_of words - 1 → TreeGathers d p words old at i now
      → Gathers tree_format (IsPageUpTo epoch (Tree id)) pages d id p.low p.high
      (children p.low p.high (separators_in words) (numbers_in words)) old at
      ((record { number = get_or words (4 + i) 0; low = at; high = get_or words (34 + i) 0 - 1 }) ∷ children
      (get_or words (34 + i) 0) p.high (drop (i + 1) (separators_in words)) (drop (i + 1) (numbers_in words))) now
  tree_next d p words old at i now is below g =
      subst (λ s. Gathers tree_format (IsPageUpTo epoch (Tree id)) pages d id p.low p.high
      (children p.low p.high (separators_in words) (numbers_in words)) old at
      ((record { number = get_or words (4 + i) 0; low = at; high = s - 1 }) ∷ children s p.high
      (drop (i + 1) (separators_in words)) (drop (i + 1) (numbers_in words))) now) (separator_at words i below)
      (subst (λ n. Gathers tree_format (IsPageUpTo epoch (Tree id)) pages d id p.low p.high
      (children p.low p.high (separators_in words) (numbers_in words)) old at
      ((record { number = n; low = at; high = get_or (separators_in words) i 0 - 1 }) ∷ children
      (get_or (separators_in words) i 0) p.high (drop (i + 1) (separators_in words))
      (drop (i + 1) (numbers_in words))) now) (number_at words i (omega (arith, below)))
      (subst (λ qs. Gathers tree_format (IsPageUpTo epoch (Tree id)) pages d id p.low p.high
      (children p.low p.high (separators_in words) (numbers_in words)) old at qs now)
      (children_more at p.high (separators_in words) (numbers_in words) i (omega (arith, is.between, below))
      (omega (arith, is.children, below))) g))

  -- the last child
  tree_last : (d : ℕ) (p : PagePlace) (words : List ℕ) (old : State) (at i : ℕ) (now : State) → IsInner p words
      → i ≡ count_of words - 1 → TreeGathers d p words old at i now
      → Gathers tree_format (IsPageUpTo epoch (Tree id)) pages d id p.low p.high
      (children p.low p.high (separators_in words) (numbers_in words)) old at
      ((record { number = get_or words (4 + i) 0; low = at; high = p.high }) ∷ []) now
  tree_last d p words old at i now is end g =
      subst (λ n. Gathers tree_format (IsPageUpTo epoch (Tree id)) pages d id p.low p.high
      (children p.low p.high (separators_in words) (numbers_in words)) old at
      ((record { number = n; low = at; high = p.high }) ∷ []) now) (number_at words i (omega (arith, end, is.some)))
      (subst (λ qs. Gathers tree_format (IsPageUpTo epoch (Tree id)) pages d id p.low p.high
      (children p.low p.high (separators_in words) (numbers_in words)) old at qs now)
      (children_last at p.high (separators_in words) (numbers_in words) i (omega (arith, is.between, end))
      (omega (arith, is.children, is.some, end))) g)

  pub tree_more : (d : ℕ) (p : PagePlace) (words : List ℕ) (old : State) (at i : ℕ) (now new : State) → IsInner p words
      → i < count_of words - 1 → TreeGathers d p words old at i now
      → Gathered tree_format (IsPageUpTo epoch (Tree id)) pages d id
      (record { number = get_or words (4 + i) 0; low = at; high = get_or words (34 + i) 0 - 1 }) now new
      → TreeGathers d p words old (get_or words (34 + i) 0) (i + 1) new
  tree_more d p words old at i now new is below g one =
      let above = separator_above p words i is below in
      let next : get_or words (34 + i) 0 - 1 + 1 ≡ get_or words (34 + i) 0 = omega (arith, above) in
      subst (λ k. Gathers tree_format (IsPageUpTo epoch (Tree id)) pages d id p.low p.high
      (children p.low p.high (separators_in words) (numbers_in words)) old k
      (children (get_or words (34 + i) 0) p.high (drop (i + 1) (separators_in words))
      (drop (i + 1) (numbers_in words))) new) next
      (gathers_more tree_format (IsPageUpTo epoch (Tree id)) pages d id p.low p.high
      (children p.low p.high (separators_in words) (numbers_in words)) old at
      (record { number = get_or words (4 + i) 0; low = at; high = get_or words (34 + i) 0 - 1 })
      (children (get_or words (34 + i) 0) p.high (drop (i + 1) (separators_in words))
      (drop (i + 1) (numbers_in words))) now new (tree_next d p words old at i now is below g) one)

  -- where the places below stand
  below_is : (p : PagePlace) (words : List ℕ) → words ≡ words_at pages p → get_or words 0 0 / 256 ≡ 2
      → places_below tree_format pages p ≡ children p.low p.high (separators_in words) (numbers_in words)
  below_is p words is kind = ap (λ ws. node_below p.low p.high (node_of ws)) (sym is)
      ∙ ap (node_below p.low p.high) (node_inner words kind)

  -- a child that breaks
  pub tree_break : (d : ℕ) (p : PagePlace) (words : List ℕ) (old : State) (at i : ℕ) (now : State) (n : ℕ) → 1 ≤ d
      → 0 < p.number → get_or words 0 0 / 256 ≡ 2 → words ≡ words_at pages p → IsPageUpTo epoch (Tree id) p words
      → i < count_of words - 1 → TreeGathers (d - 1) p words old at i now
      → BreaksTo tree_format (IsPageUpTo epoch (Tree id)) pages n (d - 1)
      (record { number = get_or words (4 + i) 0; low = at; high = get_or words (34 + i) 0 - 1 })
      → BreaksTo tree_format (IsPageUpTo epoch (Tree id)) pages n d p
  tree_break d p words old at i now n deep some kind is right below g breaks =
      let inner = inner_is epoch id p words some kind right in
      let deep_is : suc (d - 1) ≡ d = omega (arith, deep) in
      subst (λ k. BreaksTo tree_format (IsPageUpTo epoch (Tree id)) pages n k p) deep_is
      (breaks_below tree_format (IsPageUpTo epoch (Tree id)) pages (d - 1) id p
      (children p.low p.high (separators_in words) (numbers_in words)) n
      (subst (IsPageUpTo epoch (Tree id) p) is right) (below_is p words is kind)
      (gathers_break tree_format (IsPageUpTo epoch (Tree id)) pages (d - 1) id p.low p.high
      (children p.low p.high (separators_in words) (numbers_in words)) old at
      (record { number = get_or words (4 + i) 0; low = at; high = get_or words (34 + i) 0 - 1 })
      (children (get_or words (34 + i) 0) p.high (drop (i + 1) (separators_in words))
      (drop (i + 1) (numbers_in words))) now n (tree_next (d - 1) p words old at i now inner below g) breaks))

  -- or the last of them
  pub tree_last_break : (d : ℕ) (p : PagePlace) (words : List ℕ) (old : State) (at i : ℕ) (now : State) (n : ℕ) → 1 ≤ d
      → 0 < p.number → get_or words 0 0 / 256 ≡ 2 → words ≡ words_at pages p → IsPageUpTo epoch (Tree id) p words
      → i ≡ count_of words - 1 → TreeGathers (d - 1) p words old at i now
      → BreaksTo tree_format (IsPageUpTo epoch (Tree id)) pages n (d - 1)
      (record { number = get_or words (4 + i) 0; low = at; high = p.high })
      → BreaksTo tree_format (IsPageUpTo epoch (Tree id)) pages n d p
  tree_last_break d p words old at i now n deep some kind is right end g breaks =
      let inner = inner_is epoch id p words some kind right in
      let deep_is : suc (d - 1) ≡ d = omega (arith, deep) in
      subst (λ k. BreaksTo tree_format (IsPageUpTo epoch (Tree id)) pages n k p) deep_is
      (breaks_below tree_format (IsPageUpTo epoch (Tree id)) pages (d - 1) id p
      (children p.low p.high (separators_in words) (numbers_in words)) n
      (subst (IsPageUpTo epoch (Tree id) p) is right) (below_is p words is kind)
      (gathers_break tree_format (IsPageUpTo epoch (Tree id)) pages (d - 1) id p.low p.high
      (children p.low p.high (separators_in words) (numbers_in words)) old at
      (record { number = get_or words (4 + i) 0; low = at; high = p.high }) [] now n
      (tree_last (d - 1) p words old at i now inner end g) breaks))

  -- all children
  pub tree_end : (d : ℕ) (p : PagePlace) (words : List ℕ) (old : State) (at i : ℕ) (now new : State) → 1 ≤ d
      → 0 < p.number → p.number ≤ length pages → get_or words 0 0 / 256 ≡ 2 → words ≡ words_at pages p
      → IsPageUpTo epoch (Tree id) p words
      → i ≡ count_of words - 1 → TreeGathers (d - 1) p words old at i now
      → Gathered tree_format (IsPageUpTo epoch (Tree id)) pages (d - 1) id
      (record { number = get_or words (4 + i) 0; low = at; high = p.high }) now new
      → Gathered tree_format (IsPageUpTo epoch (Tree id)) pages d id p old new
  tree_end d p words old at i now new deep some there kind is right end g one =
      let inner = inner_is epoch id p words some kind right in
      let deep_is : suc (d - 1) ≡ d = omega (arith, deep) in
      subst (λ k. Gathered tree_format (IsPageUpTo epoch (Tree id)) pages k id p old new) deep_is
      (inner_gathered tree_format (IsPageUpTo epoch (Tree id)) pages (d - 1) id p
      (children p.low p.high (separators_in words) (numbers_in words)) old (p.high + 1) new there
      (subst (IsPageUpTo epoch (Tree id) p) is right) (below_is p words is kind)
      (length-children p.low p.high (separators_in words) (numbers_in words)
      (omega (arith, inner.some, inner.children))) (cover_inner p words inner)
      (gathers_more tree_format (IsPageUpTo epoch (Tree id)) pages (d - 1) id p.low p.high
      (children p.low p.high (separators_in words) (numbers_in words)) old at
      (record { number = get_or words (4 + i) 0; low = at; high = p.high }) [] now new
      (tree_last (d - 1) p words old at i now inner end g) one))
