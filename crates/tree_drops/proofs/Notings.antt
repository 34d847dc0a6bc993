-- The pointers below the pages that were met are noted, as they were seen.
use Rattle.std.proofs.Common.{◌≡◌, inl, inr, ℕ, zero, suc, ◌<◌, List, [], ◌++◌}
use Rattle.std.proofs.Common.{Some, None, Option, refl, sym, ap, ◌∙◌, subst, arith}
use Rattle.std.proofs.lemmas.List.Elements.{Contains-append_left, Contains-append_right}
use Rattle.std.specs.List.{Contains}
use Rattle.lists.specs.Elements.{in_head}
use Rattle.engine_pages.specs.declared.layout.Layout.{Layout}
use Rattle.engine_pages.specs.declared.view.KeptPage.{KeptPage}
use Rattle.engine_pages.specs.declared.view.Read.{Read}
use Rattle.engine_pages.specs.declared.view.View.{View}
use Rattle.engine_pages.specs.Layout.{page_at}
use Rattle.engine_pages.specs.Steps.{seen_at}
use Rattle.page_drops.specs.Visits.{slot_here}
use Rattle.page_drops.proofs.Entries.{seen_of}
use Rattle.page_drops.proofs.Stays.{Goes, Spares}
use Rattle.tree_drops.specs.Branches.{IsLeft}
use Rattle.tree_drops.specs.Turns.{word_of_note}
use Rattle.tree_drops.specs.Visits.{AreNoted, IsNoted, IsNotedUnder, IsSight, MetPage, MetPages, NoPages, PageThen, WasSight, WasSplit}
use Rattle.tree_drops.specs.Visits.{met_at, row_length, slots_in}

-- ---- one pointer

-- how a pointer was seen, by what it was then
pub sight_was : (slot : Option ℕ) (kept : Option KeptPage) (at page : ℕ) (r : Read) → IsSight slot kept at page r
    → WasSight slot kept at page r.seen
sight_was None None at page r h = h
sight_was None (Some k) at page r h = h
sight_was (Some t) None at page r h = h.0
sight_was (Some t) (Some k) at page r h = elim h [
  | inl so ↦ inl so
  | inr turn ↦ inr (turn.0, (turn.1.0, turn.1.1, turn.1.2, turn.1.3))
]

-- what was seen of it before its page was closed
seen_before : (c : MetPage) (m : View) → (h : IsNoted m c) → seen_at m.reads c.at ≡ Some h.read.seen
seen_before c m h = seen_of m.reads c.at h.read h.is

-- it is noted, as its page was left
pub noted_left : (note : Option KeptPage) (c : MetPage) (m w : View) → IsNoted m c → IsLeft (word_of_note note) c.at c.page m w
    → IsNotedUnder note w c
noted_left None c m w h left =
    (left.0, left.1, left.2, (h.read.seen, left.3 ∙ seen_before c m h, sight_was c.slot c.kept c.at c.page h.read h.sight))
noted_left (Some k) c m w h left = elim left [
  | inl same ↦ (h.read, same.0 ∙ h.is, inl (h.sight, same.1))
  | inr more ↦ elim more [
    | inl own ↦ (
      own.0,
      own.1,
      inr
          (inl (
            own.2,
            sym own.3,
            (h.read.seen, own.4 ∙ seen_before c m h, sight_was c.slot c.kept c.at c.page h.read h.sight),
          )),
    )
    | inr opened ↦ (opened.0, opened.1, inr (inr (opened.2, opened.3, opened.4)))
  ]
]

-- ---- rows

-- an index of a row is below its length
pub met_less : (met : MetPages) (j : ℕ) (x : MetPage × MetPages) → met_at j met ≡ Some x → j < row_length met
met_less NoPages j x is = absurd (cc)
met_less (PageThen m below more) zero x is = omega arith
met_less (PageThen m below more) (suc j) x is = let rest = met_less more j x is in omega (arith, rest)

-- a page below which nothing was met
pub none_below : (w : View) (m : MetPage) → AreNoted w (PageThen m NoPages NoPages)
none_below w m = (λ t slot j c under at whole. absurd (cc), (tt, tt))

-- what is below a leaf that was split: halves, and nothing below them
pub halves_noted : (w : View) (below : MetPages) → ((j : ℕ) (c : MetPage) (under : MetPages) → met_at j below ≡ Some (c, under)
    → under ≡ NoPages) → AreNoted w below
halves_noted w NoPages each = tt
halves_noted w (PageThen c under more) each =
    let none = each 0 c under refl in (
      λ t slot j d u at whole.
          absurd (let no : met_at j NoPages ≡ Some (d, u) = subst (λ x. met_at j x ≡ Some (d, u)) none at in cc),
      (subst (λ x. AreNoted w x) (sym none) tt, halves_noted w more (λ j d u at. each (suc j) d u at)),
    )

pub chain_noted : (w : View) (m : MetPage) (below : MetPages) → ((j : ℕ) (c : MetPage) (under : MetPages) → met_at j below ≡ Some (c, under)
    → (under ≡ NoPages) × ((u : ℕ) × (c.half ≡ Some u))) → AreNoted w (PageThen m below NoPages)
chain_noted w m below each = (
  λ t slot j c under at whole. absurd (let half = (each j c under at).1.1 in let no : Some ((each j c under at).1.0) ≡ None = sym half ∙ whole in cc),
  (halves_noted w below (λ j c under at. (each j c under at).0), tt),
)

-- so it is where a chain was gone over
pub split_noted : (w : View) (slots t epoch : ℕ) (pages : List (List ℕ)) (m : MetPage) (below : MetPages)
    → WasSplit slots t epoch pages m below → AreNoted w (PageThen m below NoPages)
split_noted w slots t epoch pages m below h =
    chain_noted w m below (λ j c under at. let x = h.each j c under at in (x.end, (x.split, x.half)))

-- ---- more was gone over

module _ (P : ℕ → Type 0) (v w : View) (g : Goes P v w) where
  pub under_stays : (kept : Option KeptPage) (c : MetPage) → P c.at → IsNotedUnder kept v c → IsNotedUnder kept w c
  under_stays None c may h = (h.0, g.reads c.at may ∙ h.1, h.2, h.3)
  under_stays (Some k) c may h = (h.0, g.reads c.at may ∙ h.1, h.2)

  pub notes_stay : (met : MetPages) → Spares P v w (slots_in met) → AreNoted v met → AreNoted w met
  notes_stay NoPages spare are = tt
  notes_stay (PageThen m below more) spare are = (
    λ t slot j c under at whole.
        let h = are.0 t slot j c under at whole in (
          (h.0.0, h.0.1, h.0.2 ∙ ap (λ (l : Layout). page_at l.slots t h.0.0) (sym g.layout)),
          λ once.
              let s = spare t (own t slot) once in
              under_stays m.kept c (subst P (sym h.0.2) (s.1 h.0.0 h.0.1)) (h.1 s.0),
        ),
    (
      notes_stay below (λ t has once. spare t (low t has) once) are.1.0,
      notes_stay more (λ t has once. spare t (rest t has) once) are.1.1,
    ),
  )
    where
      own : (t : ℕ) → m.slot ≡ Some t → Contains ((slots_in below ++ slot_here m.slot) ++ slots_in more) t
      own t slot =
          Contains-append_left (slots_in below ++ slot_here m.slot) (slots_in more) t
          (Contains-append_right (slots_in below) (slot_here m.slot) t
          (subst (λ (o : Option ℕ). Contains (slot_here o) t) (sym slot) (in_head t [])))

      low : (t : ℕ) → Contains (slots_in below) t → Contains ((slots_in below ++ slot_here m.slot) ++ slots_in more) t
      low t has =
          Contains-append_left (slots_in below ++ slot_here m.slot) (slots_in more) t
          (Contains-append_left (slots_in below) (slot_here m.slot) t has)

      rest : (t : ℕ) → Contains (slots_in more) t → Contains ((slots_in below ++ slot_here m.slot) ++ slots_in more) t
      rest t has = Contains-append_right (slots_in below ++ slot_here m.slot) (slots_in more) t has
