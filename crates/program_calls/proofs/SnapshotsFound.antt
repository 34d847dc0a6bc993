-- The catalogues of a chain: their epochs, their pages, and what the newest one has.
use Rattle.std.proofs.Common.{◌≡◌, ◌⊎◌, ◌∙◌, inl, inr, refl, sym, ap, subst, ℕ, zero, suc, ◌+◌, ◌<◌, ◌≤◌, arith}
use Rattle.std.proofs.Common.{List, [], ◌∷◌, ◌++◌, Option, Some, None, reverse}
use Rattle.std.specs.List.{AllByRecursion, Contains}
use Rattle.std.proofs.lemmas.List.{reverse-append}
use Rattle.lists.specs.Elements.{in_cases, in_head, in_none, in_push_cases, in_push_new, in_push_old, in_tail}
use Rattle.serial_model.specs.declared.decl.Decl.{Decl}
use Rattle.wire_form.specs.Pages.{Contents, decls_of}
use Rattle.snapshot_store.specs.Content.{CatalogueAt}
use Rattle.recovery_core.specs.Catalogues.{AreCatalogues, marks_of, newest_decls, newest_epoch}
use Rattle.recovery_core.specs.declared.chain.SnapshotMark.{SnapshotMark}

-- ---- lists from the other end

pub in_reversed : {X : Type 0} (x : X) (xs : List X) → Contains (reverse xs) x → Contains xs x
in_reversed x [] has = absurd (in_none x has)
in_reversed x (y ∷ ys) has =
    elim (in_push_cases x y (reverse ys) (subst (λ l. Contains l x) (reverse-append (y ∷ []) ys) has)) [
      | inl old ↦ in_tail x y ys (in_reversed x ys old)
      | inr new ↦ subst (λ z. Contains (y ∷ ys) z) new (in_head y ys)
    ]

pub reversed_in : {X : Type 0} (x : X) (xs : List X) → Contains xs x → Contains (reverse xs) x
reversed_in x [] has = absurd (in_none x has)
reversed_in x (y ∷ ys) has =
    subst (λ l. Contains l x) (sym (reverse-append (y ∷ []) ys)) (elim (in_cases x y ys has) [
      | inl here ↦ subst (λ z. Contains (reverse ys ++ y ∷ []) z) here (in_push_new y (reverse ys))
      | inr later ↦ in_push_old x y (reverse ys) (reversed_in x ys later)
    ])

-- ---- epochs fall along a chain

-- each is below the limit
pub epoch_below : (pages : List (List ℕ)) (limit : ℕ) (declared : Option (List Decl)) (number : ℕ) (cs : List Contents)
    (c : Contents) → AreCatalogues pages limit declared number cs → Contains cs c → c.epoch < limit
epoch_below pages limit declared number [] c chain has = absurd (in_none c has)
epoch_below pages limit declared number (d ∷ ds) c chain has = elim (in_cases c d ds has) [
  | inl here ↦ subst (λ (x : Contents). x.epoch < limit) here chain.1.epoch
  | inr later ↦ omega (
    arith,
    epoch_below pages d.epoch (Some (decls_of d)) d.previous ds c chain.2 later,
    chain.1.epoch,
  )
]

-- so one of an epoch is the only one
pub one_of_epoch : (pages : List (List ℕ)) (limit : ℕ) (declared : Option (List Decl)) (number : ℕ)
    (cs : List Contents) (c d : Contents) → AreCatalogues pages limit declared number cs → Contains cs c
    → Contains cs d → c.epoch ≡ d.epoch → c ≡ d
one_of_epoch pages limit declared number [] c d chain has other same = absurd (in_none c has)
one_of_epoch pages limit declared number (e ∷ es) c d chain has other same =
    elim (in_cases c e es has) [
      | inl here ↦ elim (in_cases d e es other) [
        | inl there ↦ sym here ∙ there
        | inr later ↦ absurd (omega (
          arith,
          epoch_below pages e.epoch (Some (decls_of e)) e.previous es d chain.2 later,
          same,
          ap (λ (x : Contents). x.epoch) here,
        ))
      ]
      | inr later ↦ elim (in_cases d e es other) [
        | inl there ↦ absurd (omega (
          arith,
          epoch_below pages e.epoch (Some (decls_of e)) e.previous es c chain.2 later,
          same,
          ap (λ (x : Contents). x.epoch) there,
        ))
        | inr both ↦ one_of_epoch pages e.epoch (Some (decls_of e)) e.previous es c d chain.2 later both same
      ]
    ]

-- ---- the storages are the same

decls_same : (pages : List (List ℕ)) (limit : ℕ) (decls : List Decl) (number : ℕ) (cs : List Contents) (c : Contents)
    → AreCatalogues pages limit (Some decls) number cs → Contains cs c → decls_of c ≡ decls
decls_same pages limit decls number [] c chain has = absurd (in_none c has)
decls_same pages limit decls number (d ∷ ds) c chain has = elim (in_cases c d ds has) [
  | inl here ↦ subst (λ (x : Contents). decls_of x ≡ decls) here chain.1.decls
  | inr later ↦ decls_same pages d.epoch (decls_of d) d.previous ds c chain.2 later ∙ chain.1.decls
]

pub decls_all : (pages : List (List ℕ)) (limit : ℕ) (declared : Option (List Decl)) (number : ℕ) (cs : List Contents)
    (c : Contents) → AreCatalogues pages limit declared number cs → Contains cs c → decls_of c ≡ newest_decls cs
decls_all pages limit declared number [] c chain has = absurd (in_none c has)
decls_all pages limit declared number (d ∷ ds) c chain has = elim (in_cases c d ds has) [
  | inl here ↦ subst (λ (x : Contents). decls_of x ≡ decls_of d) here refl
  | inr later ↦ decls_same pages d.epoch (decls_of d) d.previous ds c chain.2 later
]

-- ---- epochs and pages

-- the catalogue of a mark
pub record Marked (pages : List (List ℕ)) (cs : List Contents) (epoch number : ℕ) : Type 0 where
  pub catalogue : Contents
  pub has : Contains cs catalogue
  pub epoch_is : catalogue.epoch ≡ epoch
  pub here : CatalogueAt pages number catalogue

pub of_mark : (pages : List (List ℕ)) (limit : ℕ) (declared : Option (List Decl)) (number : ℕ) (cs : List Contents)
    (mark : SnapshotMark) → AreCatalogues pages limit declared number cs → Contains (marks_of number cs) mark
    → Marked pages cs mark.epoch mark.page
of_mark pages limit declared number [] mark chain has = absurd (in_none mark has)
of_mark pages limit declared number (c ∷ cs) mark chain has =
    elim (in_cases mark (record { epoch = c.epoch; page = number }) (marks_of c.previous cs) has) [
      | inl here ↦ subst (λ (m : SnapshotMark). Marked pages (c ∷ cs) m.epoch m.page) here (record {
        catalogue = c;
        has = in_head c cs;
        epoch_is = refl;
        here = chain.1.here;
      })
      | inr later ↦
          let rest = of_mark pages c.epoch (Some (decls_of c)) c.previous cs mark chain.2 later in
          record {
            catalogue = rest.catalogue;
            has = in_tail rest.catalogue c cs rest.has;
            epoch_is = rest.epoch_is;
            here = rest.here;
          }
    ]

-- each has one
pub marked : (number : ℕ) (cs : List Contents) (c : Contents) → Contains cs c
    → (page : ℕ) × Contains (marks_of number cs) (record { epoch = c.epoch; page = page })
marked number [] c has = absurd (in_none c has)
marked number (d ∷ ds) c has = elim (in_cases c d ds has) [
  | inl here ↦ (
    number,
    subst (λ (x : Contents). Contains (marks_of number (d ∷ ds)) (record { epoch = x.epoch; page = number })) here
        (in_head (let m : SnapshotMark = record { epoch = d.epoch; page = number } in m) (marks_of d.previous ds)),
  )
  | inr later ↦
      let rest = marked d.previous ds c later in (
        rest.0,
        in_tail (record { epoch = c.epoch; page = rest.0 }) (record { epoch = d.epoch; page = number })
            (marks_of d.previous ds) rest.1,
      )
]
