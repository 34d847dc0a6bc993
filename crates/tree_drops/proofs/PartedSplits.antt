-- A leaf that was split: the word that parts its keys, and those of its halves.
use Rattle.std.proofs.Common.{◌≡◌, ◌≢◌, ◌⊎◌, inl, inr, ℕ, ◌+◌, ◌-◌, ◌%◌, ◌<◌, ◌≤◌, refl, sym, ap, ◌∙◌, subst, arith}
use Rattle.std.specs.Prelude.{Ok, Err}
use Rattle.homes.specs.declared.places.Span.{Span}
use Rattle.engine_pages.specs.declared.view.KeptWhy.{KeptWhy}
use Rattle.engine_pages.specs.declared.view.KeptWhy.TheVariants.{Changed, Unlike}
use Rattle.engine_pages.specs.declared.view.View.{View}
use Rattle.engine_pages.specs.Layout.{page_at}
use Rattle.tree_heads.specs.Headers.{HasWord, MetAgain}
use Rattle.chain_steps.specs.declared.halves.Half.{Half}
use Rattle.page_drops.specs.declared.noting.Kept.{Kept}
use Rattle.page_drops.specs.Works.{HasSeenLast, IsNoted}
use Rattle.tree_drops.specs.declared.chains.Split.{Split}
use Rattle.tree_drops.specs.Chains.{half_at, split_header, CanPart, CanEnter, HasMetOther, HasParted, HasWordOf}
use Rattle.tree_drops.specs.Visits.{IsHeaderCause, IsPartedOut}
use Rattle.tree_drops.proofs.Chaining.{chained_glanced, chained_self, keeps_noted}
use Rattle.tree_drops.proofs.Works.{word_glanced}

-- ---- the word that parts the keys

-- why a split leaf isn't gone on with
abbrev IsPartCause : ℕ → ℕ → Span → KeptWhy → ℕ → ℕ → Type 0
IsPartCause slots t sp why word seen = IsHeaderCause slots t why word seen ⊎ IsPartedOut slots t sp why word seen

-- its header was seen last
pub part_last : (t here header : ℕ) (sp : Span) (why : KeptWhy) (v : View) → CanPart t sp header v → here ≡ page_at v.layout.slots t 0
    → HasSeenLast v (record { word = here; seen = header; why = why })
part_last t here header sp why v can place =
    subst (λ (at : ℕ). HasSeenLast v (record { word = at; seen = header; why = why })) (sym place) can.last

-- and isn't an open one
pub part_other : (t here header : ℕ) (sp : Span) (k : Kept) (v w : View) → CanPart t sp header v
    → here ≡ page_at v.layout.slots t 0 → header ≢ split_header → k ≡ record { word = here; seen = header; why = Unlike }
    → IsNoted k v w → HasParted t sp header (Err k) v w
part_other t here header sp k v w can place other is notes = (
  ap (λ (z : View). z.reads) notes.1,
  keeps_noted (IsPartCause v.layout.slots t sp) here header Unlike k v v w (chained_self v) is notes
      (inl (place, inr (can.split, other))),
)

-- the word that was loaded was seen last
pub word_last : (t i at n : ℕ) (why : KeptWhy) (v u : View) → HasWord t i at v n u
    → HasSeenLast u (record { word = at; seen = n; why = why })
word_last t i at n why v u word = (v.steps, ap (λ (z : View). z.last) word.is)

-- it is none of the keys but the first
pub part_out : (t header at n : ℕ) (sp : Span) (k : Kept) (v u w : View) → HasWord t 5 at v n u → at ≡ page_at v.layout.slots t 5
    → (n ≤ sp.low) ⊎ (sp.high < n) → k ≡ record { word = at; seen = n; why = Unlike } → IsNoted k u w
    → HasParted t sp header (Err k) v w
part_out t header at n sp k v u w word place out is notes = (
  ap (λ (z : View). z.reads) notes.1 ∙ ap (λ (z : View). z.reads) word.is,
  keeps_noted (IsPartCause v.layout.slots t sp) at n Unlike k v u w (chained_glanced v u (word_glanced t 5 at n v u word)) is
      notes (inr (refl, place, out)),
)

-- it parts them
pub parts_so : (t header at n : ℕ) (sp : Span) (v u : View) → HasWord t 5 at v n u → header ≡ split_header → sp.low < n → n ≤ sp.high
    → HasParted t sp header (Ok (record { slot = t; span = sp; separator = n })) v u
parts_so t header at n sp v u word full low high = (
  word_glanced t 5 at n v u word,
  record {
    slot = refl;
    span = refl;
    full = full;
    separator = λ x has same. word.parted x has same refl;
    low = low;
    high = high;
  },
)

-- ---- the halves

-- the slot that a word of a half names, which is below what a word's place is
module _ (split : Split) (word at n : ℕ) (v w : View) (can : CanEnter split v) (either : (word ≡ 4) ⊎ (word ≡ 3))
    (h : HasWord split.slot word at v n w) (fits : at < 4294967296) (place : at ≡ page_at v.layout.slots split.slot word) where
  small : v.layout.slots < 4294967296
  small = omega (arith, fits, place)

  pub word_fits : n < 4294967296
  word_fits = elim either [
    | inl is ↦
        let next = h.major can.moved can.has can.same is in
        let less = can.major in omega (arith, next, less, small)
    | inr is ↦
        let next = h.minor can.moved can.has can.same is in
        let less = can.minor in omega (arith, next, less, small)
  ]

  slot_before : (m : ℕ) → n ≡ m + 1 → (n + 4294967295) % 4294967296 ≡ m
  slot_before m is = omega (arith, is, word_fits)

  -- the upper one
  pub upper_half : word ≡ 4 → HasWordOf split word v (record { slot = (n + 4294967295) % 4294967296; low = split.separator; high = (split.span).high }) w
  upper_half is = (
    word_glanced split.slot word at n v w h,
    λ x has same.
        subst (λ k. (let y : Half = record { slot = (n + 4294967295) % 4294967296; low = split.separator; high = (split.span).high } in y) ≡ half_at x split k) (sym is)
        (ap (λ (u : ℕ). let z : Half = record { slot = u; low = split.separator; high = (split.span).high } in z)
        (slot_before x.major (h.major x has same is))),
  )

  -- and the lower one
  pub lower_half : (word ≡ 4 → ⊥) → HasWordOf split word v (record { slot = (n + 4294967295) % 4294967296; low = (split.span).low; high = split.separator - 1 }) w
  lower_half other =
      let is : word ≡ 3 = elim either [ inl upper ↦ absurd (other upper) | inr lower ↦ lower ] in (
        word_glanced split.slot word at n v w h,
        λ x has same.
            subst (λ k. (let y : Half = record { slot = (n + 4294967295) % 4294967296; low = (split.span).low; high = split.separator - 1 } in y) ≡ half_at x split k) (sym is)
            (ap (λ (u : ℕ). let z : Half = record { slot = u; low = (split.span).low; high = split.separator - 1 } in z)
            (slot_before x.minor (h.minor x has same is))),
      )

-- ---- a header that was loaded again

pub met_other : (split : Split) (at n : ℕ) (k : Kept) (v u w : View) → at ≡ page_at v.layout.slots split.slot 0
    → MetAgain split.slot split.span at v n u → n ≢ split_header → k ≡ record { word = at; seen = n; why = Changed split_header }
    → IsNoted k u w → HasMetOther split k v w
met_other split at n k v u w place again other is notes =
    subst (λ (a : ℕ). MetAgain split.slot split.span a v n u → k ≡ record { word = a; seen = n; why = Changed split_header } → HasMetOther split k v w) (sym place)
    (λ met told. record { found = n; over = u; other = other; again = met; is = told; notes = notes }) again is
