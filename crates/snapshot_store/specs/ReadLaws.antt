-- Constants, roots and pages of a store, as laws for those who read snapshots.
use Rattle.std.proofs.Common.{◌≡◌, ℕ, ◌-◌, ◌<◌, ◌≤◌, zero, suc, true, false, List, [], ◌∷◌, length, get_or, Some, inl}
use Rattle.std.proofs.Common.{inr}
use Rattle.std.proofs.Common.{refl, ap, subst, arith}
use Rattle.std.specs.Prelude.{cond, nat_le, slice_get}
use Rattle.wire_form.specs.declared.page.Page.{Page}
use Rattle.wire_form.specs.ByteLaws.{length-bytes_of}
use Rattle.snapshot_store.specs.Store.{IsWhole}
use Rattle.snapshot_store.specs.Places.{page}
use Rattle.snapshot_store.specs.ArrayPages.{IsLevel, fan, leaf_room}
use Rattle.snapshot_store.specs.Content.{deepest, last_index, words_of}

-- ---- constants that goals don't compute

-- an array's interior page has 64 pointers
pub fan_is : fan ≡ 64
unfolding fan
fan_is = refl

-- a leaf of an array has 32 records
pub room_is : leaf_room ≡ 32
unfolding leaf_room
room_is = refl

-- no way down is longer than 32 pages
pub deepest_is : deepest ≡ 32
unfolding deepest
deepest_is = refl

-- ---- roots

-- an array's root stands for the range of a page
pub root_level : (d size : ℕ) → 3 ≤ d → IsLevel d 0 (last_index size)
root_level d size deep =
    elim (nat_le size 32) as (λ b. IsLevel d 0 (cond {A = ℕ} b 31 (cond {A = ℕ} (nat_le size 2048) 2047 131071))) [
      | true ↦ inl (omega (arith, deep), refl)
      | false ↦ elim (nat_le size 2048) as (λ b. IsLevel d 0 (cond {A = ℕ} b 2047 131071)) [
        | true ↦ inr (inl (omega (arith, deep), refl))
        | false ↦ inr (inr (deep, refl))
      ]
    ]

-- no array's root stands for more indexes than 32 bits count
pub last_small : (size : ℕ) → last_index size < 4294967296
last_small size =
    elim (nat_le size 32) as (λ b. cond {A = ℕ} b 31 (cond {A = ℕ} (nat_le size 2048) 2047 131071) < 4294967296) [
      | true ↦ omega arith
      | false ↦ elim (nat_le size 2048) as (λ b. cond {A = ℕ} b 2047 131071 < 4294967296) [
        | true ↦ omega arith
        | false ↦ omega arith
      ]
    ]

-- ---- pages of a store

at_index : (pages : List Page) (k : ℕ) (p : Page) → slice_get pages k ≡ Some p → get_or (words_of pages) k [] ≡ p.words
at_index [] k p e = absurd cc
at_index (x ∷ xs) zero p e = let same : x ≡ p = cc in ap (λ (q : Page). q.words) same
at_index (x ∷ xs) (suc k) p e = at_index xs k p e

-- the words of the page with a number
pub page_at : (pages : List Page) (n : ℕ) (p : Page) → 1 ≤ n → slice_get pages (n - 1) ≡ Some p
    → page (words_of pages) n ≡ p.words
page_at pages zero p h e = absurd (omega (arith, h))
page_at pages (suc n) p h e =
    let here : suc n - 1 ≡ n = omega arith in
    at_index pages n p (subst (λ (k : ℕ). slice_get pages k ≡ Some p) here e)

-- a whole page has 64 words
pub whole_words : (p : Page) → IsWhole p → length p.words ≡ 64
whole_words p whole = omega (arith, whole, length-bytes_of p.words)
