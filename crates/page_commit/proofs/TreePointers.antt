-- A pointer that the pass knows, of a root, of an array's page or of a tree's: where its word stands.
use Rattle.std.proofs.Common.{◌≡◌, ◌⊎◌, inl, inr, ℕ, suc, ◌+◌, ◌-◌, ◌*◌, ◌/◌, ◌%◌, ◌<◌, ◌≤◌, false, length, sym, ap}
use Rattle.std.proofs.Common.{◌∙◌, subst, arith}
use Rattle.std.specs.Prelude.{nat_lt, ⊤}
use Rattle.std.proofs.lemmas.Bool.Decides.{nat_tests}
use Rattle.serial_model.specs.Decls.{AreDecls}
use Rattle.homes.specs.declared.places.At.{At}
use Rattle.homes.specs.declared.places.At.TheVariants.{Root, In}
use Rattle.homes.specs.declared.places.Span.{Span}
use Rattle.homes.specs.declared.places.Spot.{Spot}
use Rattle.engine_pages.specs.declared.view.View.{View}
use Rattle.engine_pages.specs.Layout.{page_at}
use Rattle.engine_pages.specs.Pages.{part_between}
use Rattle.engine_pages.specs.Pointers.{IsBranchAt, IsPointerAt, WaysAgree}
use Rattle.page_commit.specs.Places.{ground, is_array_page, pointer_for, slot_of, word_of, IsBranchIn, IsPointerIn}
use Rattle.page_commit.proofs.GrowLaws.{place_of_word, pointer_here}
use Rattle.page_commit.proofs.PlaceLaws.{in_page, tree_page}

-- the word of a pointer in a page lies in that page
abbrev pub LiesBelow : ℕ → At → ℕ → Type 0
LiesBelow slots (Root r) at = ⊤
LiesBelow slots (In y) at = at < page_at slots (suc y.slot) 0

module _ (v : View) (y : Spot) (sp : Span) (at : ℕ) (agree : WaysAgree v.ways) (b : IsBranchAt v y sp at)
    (inside : at < page_at v.layout.slots (suc y.slot) 0) where
  word : at ≡ ((32 + v.layout.slots) + 64 * y.slot) + (4 + y.index)
  word = b.word

  few : 4 + y.index < 64
  few =
      let is = word in
      let less : at < ((32 + v.layout.slots) + 64 * suc y.slot) + 0 = inside in omega (arith, is, less)

  slot : y.slot ≡ (at - (32 + v.layout.slots)) / 64
  slot = let is = word in let less = few in omega (arith, is, less)

  index : 4 + y.index ≡ (at - (32 + v.layout.slots)) % 64
  index = let is = word in let less = few in omega (arith, is, less)

  behind : y.index ≡ (at - (32 + v.layout.slots)) % 64 - 4
  behind = let is = index in omega (arith, is)

  pub branch_here : IsBranchIn (ground v) sp at
  branch_here = record {
    way = b.way;
    has = b.has;
    slot = b.slot ∙ slot;
    kind = b.kind;
    inner = b.inner;
    knows = b.knows;
    same = b.same ∙ slot;
    behind = let is = index in omega (arith, is);
    index = subst (λ (n : ℕ). n ≤ length b.inner.separators) behind b.index;
    span = b.span ∙ ap (λ (n : ℕ). part_between b.way.span b.inner.separators n) behind;
    word = b.word
        ∙ (ap (λ (n : ℕ). page_at v.layout.slots n (4 + y.index)) slot
        ∙ ap (λ (n : ℕ). page_at v.layout.slots ((at - (32 + v.layout.slots)) / 64) n) index);
  }

  pub branch_place : In y ≡ pointer_for (ground v) at
  branch_place =
      let is = word in
      let high : nat_lt at 32 ≡ false = grind (arith, nat_tests) in
      ap (λ (n : ℕ). let z : At = In (record { slot = n; index = y.index }) in z) slot
      ∙ (ap (λ (n : ℕ). let z : At = In (record { slot = (at - (32 + v.layout.slots)) / 64; index = n }) in z) behind
      ∙ sym (in_page (ground v) at false high
      (subst (λ (n : ℕ). is_array_page (ground v) n ≡ false) (b.slot ∙ slot)
      (tree_page (ground v) b.way agree b.has b.kind))))

-- so it is of each pointer that the pass knows
pub any_pointer_here : (v : View) (x : At) (sp : Span) (at : ℕ) → WaysAgree v.ways → AreDecls v.layout.decls
    → IsPointerAt v x sp at → LiesBelow v.layout.slots x at → IsPointerIn (ground v) sp at
any_pointer_here v (Root r) sp at agree are p inside = pointer_here v (Root r) sp at are p
any_pointer_here v (In y) sp at agree are (inl c) inside = pointer_here v (In y) sp at are c
any_pointer_here v (In y) sp at agree are (inr b) inside = inr (inr (branch_here v y sp at agree b inside))

pub any_place_of_word : (v : View) (x : At) (sp : Span) (at : ℕ) → WaysAgree v.ways → AreDecls v.layout.decls
    → IsPointerAt v x sp at → LiesBelow v.layout.slots x at → x ≡ pointer_for (ground v) at
any_place_of_word v (Root r) sp at agree are p inside = place_of_word v (Root r) sp at are p
any_place_of_word v (In y) sp at agree are (inl c) inside = place_of_word v (In y) sp at are c
any_place_of_word v (In y) sp at agree are (inr b) inside = branch_place v y sp at agree b inside
