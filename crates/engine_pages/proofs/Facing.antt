-- Who is in the way: what steps leave of it. A pass that saw a record's word locked, or other than it had seen or left it
-- before, saw what another seat did, which has taken a lock of that key.
use Rattle.std.proofs.Common.{◌≡◌, ◌≢◌, ◌⊎◌, inl, inr, ℕ, suc, ◌+◌, ◌*◌, ◌<◌, ◌≤◌, ◌^◌, Bool, true, false, true≢false}
use Rattle.std.proofs.Common.{cond, eqb, eqb-true, eq-eqb, ne_eqb, List, [], ◌∷◌, ◌++◌, get_or, set, refl, sym, ap, ◌∙◌}
use Rattle.std.proofs.Common.{subst, arith, Some}
use Rattle.std.specs.Prelude.{◌==◌, ◌&&◌, ◌||◌, not, filter}
use Rattle.std.specs.List.{AllByRecursion, Contains, find}
use Rattle.std.specs.Option.{option_map}
use Rattle.std.proofs.lemmas.Bool.{and_from, cases_Bool, or_right}
use mathlib.Core.Option.{some}
use lib.ListN.{get_elem?}
use Rattle.lists.specs.Elements.{in_none, in_head, in_tail, in_filter, in_filtered, filter_only, in_push_cases, in_push_new}
use Rattle.lists.specs.Elements.{any_in, any_push_old}
use Rattle.serial_model.specs.declared.key.Key.{Key}
use Rattle.homes.specs.declared.places.Spot.{Spot}
use Rattle.homes.specs.Homes.{has_key, same_key, same_spot}
use Rattle.homes.specs.Laws.{same_key-self, same_spot-self}
use Rattle.commit_core.specs.declared.seat.Seat.{Seat}
use Rattle.drop_core.specs.Table.{has_slot, is_never, slot_of}
use Rattle.views.specs.Sums.{total, total-append, total-set, term_at_most}
use Rattle.views.specs.Others.{both_hold, each_other}
use Rattle.engine_pages.specs.declared.layout.Layout.{Layout}
use Rattle.engine_pages.specs.declared.view.Read.{Read}
use Rattle.engine_pages.specs.declared.view.Role.TheVariants.{Worker}
use Rattle.engine_pages.specs.declared.view.Took.{Took}
use Rattle.engine_pages.specs.declared.view.Touch.{Touch}
use Rattle.engine_pages.specs.declared.view.View.{View}
use Rattle.engine_pages.specs.declared.view.Way.{Way}
use Rattle.engine_pages.specs.Layout.{page_at}
use Rattle.engine_pages.specs.Pages.{IsLaidOutFor, is_array}
use Rattle.engine_pages.specs.Pointers.{WaysAgree}
use Rattle.engine_pages.specs.Records.{IsRecordIn}
use Rattle.engine_pages.specs.Rule.{Shared, FitsPages, IsWay, RecordStands, Faces, Touching}
use Rattle.engine_pages.specs.Slots.{other_ways}
use Rattle.engine_pages.specs.Steps.{seen_at}
use Rattle.engine_pages.specs.Touches.{AreBlamed, IsFacing, Other, StaysTaken, Touched, has_took, is_touch, takes, touch}
use Rattle.engine_pages.specs.Views.{sits, sits_by}
use Rattle.engine_pages.proofs.Seats.{by_equal, put_seat, put_same, put_other, sits_here}

-- ---- the words that were met

-- what a word was seen or left as was met
seen_is : (reads : List Read) (at m : ℕ) → seen_at reads at ≡ Some m
    → (r : Read) × Contains reads r × (r.word ≡ at) × (r.seen ≡ m)
seen_is [] at m is = cc
seen_is (x ∷ reads) at m is = by_test (eqb x.word at) refl is (λ now. seen_is reads at m now)
  where
    by_test : (b : Bool) → eqb x.word at ≡ b
        → option_map (λ (r : Read). r.seen) (cond b (Some x) (find (λ r. r.word == at) reads)) ≡ Some m
        → (seen_at reads at ≡ Some m → (r : Read) × Contains reads r × (r.word ≡ at) × (r.seen ≡ m))
        → (r : Read) × Contains (x ∷ reads) r × (r.word ≡ at) × (r.seen ≡ m)
    by_test true here now rest = let same : x.seen ≡ m = cc in (x, in_head x reads, eqb-true x.word at here, same)
    by_test false here now rest = let in' = rest now in (in'.0, in_tail in'.0 x reads in'.1, in'.2, in'.3)

-- This word stands behind the others that were met: it was seen, or left, so.
pub record IsNoted (reads more : List Read) (at n : ℕ) : Type 0 where
  pub new : Read
  pub word : new.word ≡ at
  pub seen : new.seen ≡ n
  pub was : new.was ≡ seen_at reads at
  pub is : more ≡ filter (λ r. not (r.word == at)) reads ++ new ∷ []

apart_at : (r : Read) (at : ℕ) → not (r.word == at) ≡ true → r.word ≢ at
apart_at r at passed same = true≢false (sym passed ∙ ap not (eq-eqb r.word at same))

noted_cases : (reads more : List Read) (at n : ℕ) → (note : IsNoted reads more at n) → (r : Read) → Contains more r
    → (Contains reads r × (r.word ≢ at)) ⊎ (note.new ≡ r)
noted_cases reads more at n note r has =
    elim (in_push_cases r note.new (filter (λ (q : Read). not (q.word == at)) reads) (subst (λ (x : List Read). Contains x r) note.is has)) [
      | inl old ↦ inl (
        in_filter (λ (q : Read). not (q.word == at)) r reads old,
        apart_at r at (filter_only (λ (q : Read). not (q.word == at)) r reads old),
      )
      | inr is ↦ inr is
    ]

-- ---- steps of others

-- another one who took a lock has still taken it
pub other_grows : (took now : ℕ → Key → Type 0) (p : ℕ) (k : Key) → StaysTaken took now → Other took p k → Other now p k
other_grows took now p k grows o = record { by = o.by; apart = o.apart; taken = grows o.by k o.taken }

-- where a record's word changes another seat has taken a lock of the key
pub facing_other : (l : Layout) (words now : List ℕ) (took more : ℕ → Key → Type 0) (p : ℕ) (ways : List Way)
    (own : List Took) (reads : List Read) (gone : List ℕ) → StaysTaken took more
    → ((k : Key) (x : Spot) (at : ℕ) → IsRecordIn l.decls l.slots ways k x at
    → (get_or now at 0 ≡ get_or words at 0) ⊎ Other more p k)
    → IsFacing l words took p ways own reads gone → IsFacing l now more p ways own reads gone
facing_other l words now took more p ways own reads gone grows changes f = record {
  pages = f.pages;
  locked = λ k x at is high. by_lock k x at (changes k x at is) (f.locked k x at is) high;
  stands = λ k x r has is here. by_word k r (changes k x r.word is) (f.stands k x r has is here);
  unlike = λ k x r m has is here was small low other.
      other_grows took more p k grows (f.unlike k x r m has is here was small low other);
}
  where
    by_lock : (k : Key) (x : Spot) (at : ℕ) → (get_or now at 0 ≡ get_or words at 0) ⊎ Other more p k
        → (2 ^ 60 ≤ get_or words at 0 → (has_took own k x ≡ true) ⊎ Other took p k) → 2 ^ 60 ≤ get_or now at 0
        → (has_took own k x ≡ true) ⊎ Other more p k
    by_lock k x at (inr other) was high = inr other
    by_lock k x at (inl same) was high = elim (was (subst (λ y. 2 ^ 60 ≤ y) same high)) [
      | inl mine ↦ inl mine
      | inr other ↦ inr (other_grows took more p k grows other)
    ]

    by_word : (k : Key) (r : Read) → (get_or now r.word 0 ≡ get_or words r.word 0) ⊎ Other more p k
        → (get_or words r.word 0 ≡ r.seen) ⊎ Other took p k → (get_or now r.word 0 ≡ r.seen) ⊎ Other more p k
    by_word k r (inr other) was = inr other
    by_word k r (inl same) (inl stood) = inl (same ∙ stood)
    by_word k r (inl same) (inr other) = inr (other_grows took more p k grows other)

-- what a pass without ways that met nothing faces
pub facing_bare : (l : Layout) (words : List ℕ) (took : ℕ → Key → Type 0) (p : ℕ) (own : List Took) (gone : List ℕ)
    → IsFacing l words took p [] own [] gone
facing_bare l words took p own gone = record {
  pages = λ r has t i less few word here. absurd (in_none r has);
  locked = λ k x at is high. absurd (in_none is.way is.has);
  stands = λ k x r has is here. absurd (in_none r has);
  unlike = λ k x r m has is here was small low other. absurd (in_none r has);
}

-- where a transaction begins anew
pub facing_begun : (l : Layout) (words : List ℕ) (took : ℕ → Key → Type 0) (p : ℕ) (ways : List Way) (own : List Took)
    (reads : List Read) (gone : List ℕ) → IsFacing l words took p ways own reads gone
    → IsFacing l words took p ways own [] []
facing_begun l words took p ways own reads gone f = record {
  pages = λ r has t i less few word here. absurd (in_none r has);
  locked = f.locked;
  stands = λ k x r has is here. absurd (in_none r has);
  unlike = λ k x r m has is here was small low other. absurd (in_none r has);
}

-- ---- own steps at a word

-- what an own step at this word tells, which leaves it so
pub record TellsOfWord (l : Layout) (now : List ℕ) (took : ℕ → Key → Type 0) (p : ℕ) (ways : List Way) (own : List Took)
    (reads : List Read) (gone : List ℕ) (at n : ℕ) : Type 0 where
  pub page : (t i : ℕ) → t < l.slots → i < 64 → at ≡ page_at l.slots t i → has_slot gone t ≡ false
      → (y : Way) × Contains ways y × (y.slot ≡ t)
  pub locked : (k : Key) (x : Spot) → IsRecordIn l.decls l.slots ways k x at → 2 ^ 60 ≤ get_or now at 0
      → (has_took own k x ≡ true) ⊎ Other took p k
  pub stands : (k : Key) (x : Spot) → IsRecordIn l.decls l.slots ways k x at → (get_or now at 0 ≡ n) ⊎ Other took p k
  pub unlike : (k : Key) (x : Spot) (m : ℕ) → IsRecordIn l.decls l.slots ways k x at → has_slot gone x.slot ≡ false
      → seen_at reads at ≡ Some m → m < 2 ^ 60 → n < 2 ^ 60 → m ≢ n → Other took p k

module _ (l : Layout) (words now : List ℕ) (took : ℕ → Key → Type 0) (p : ℕ) (ways : List Way) (own then : List Took)
    (reads more : List Read) (gone : List ℕ) (at n : ℕ) (note : IsNoted reads more at n)
    (others : (k : Key) (x : Spot) (j : ℕ) → IsRecordIn l.decls l.slots ways k x j → j ≢ at
    → get_or now j 0 ≡ get_or words j 0)
    (keeps : (k : Key) (x : Spot) (j : ℕ) → IsRecordIn l.decls l.slots ways k x j → j ≢ at → has_took own k x ≡ true
    → has_took then k x ≡ true)
    (met : TellsOfWord l now took p ways then reads gone at n) (f : IsFacing l words took p ways own reads gone) where
  locked_old : (k : Key) (x : Spot) (j : ℕ) → IsRecordIn l.decls l.slots ways k x j → j ≢ at → 2 ^ 60 ≤ get_or now j 0
      → (has_took then k x ≡ true) ⊎ Other took p k
  locked_old k x j is other high =
      elim (f.locked k x j is (subst (λ y. 2 ^ 60 ≤ y) (others k x j is other) high)) [
        | inl mine ↦ inl (keeps k x j is other mine)
        | inr o ↦ inr o
      ]

  -- an own step that meets this word and leaves it so
  pub facing_own : IsFacing l now took p ways then more gone
  facing_own = record {
    pages = λ r has t i less few word here. pages_in r t i less few word here (noted_cases reads more at n note r has);
    locked = λ k x j is high.
        by_equal j at (λ y. IsRecordIn l.decls l.slots ways k x y → 2 ^ 60 ≤ get_or now y 0
        → (has_took then k x ≡ true) ⊎ Other took p k)
        (λ here up. met.locked k x here up) (λ other here up. locked_old k x j here other up) is high;
    stands = λ k x r has is here. stands_in k x r is here (noted_cases reads more at n note r has);
    unlike = λ k x r m has is here was small low other.
        unlike_in k x r m is here was small low other (noted_cases reads more at n note r has);
  }
    where
      pages_in : (r : Read) (t i : ℕ) → t < l.slots → i < 64 → r.word ≡ page_at l.slots t i → has_slot gone t ≡ false
          → (Contains reads r × (r.word ≢ at)) ⊎ (note.new ≡ r) → (y : Way) × Contains ways y × (y.slot ≡ t)
      pages_in r t i less few word here (inl old) = f.pages r old.0 t i less few word here
      pages_in r t i less few word here (inr new) =
          met.page t i less few (sym note.word ∙ (ap (λ (y : Read). y.word) new ∙ word)) here

      there : (r : Read) → note.new ≡ r → at ≡ r.word
      there r new = sym note.word ∙ ap (λ (y : Read). y.word) new

      stands_in : (k : Key) (x : Spot) (r : Read) → IsRecordIn l.decls l.slots ways k x r.word
          → has_slot gone x.slot ≡ false → (Contains reads r × (r.word ≢ at)) ⊎ (note.new ≡ r)
          → (get_or now r.word 0 ≡ r.seen) ⊎ Other took p k
      stands_in k x r is here (inl old) = elim (f.stands k x r old.0 is here) [
        | inl stood ↦ inl (others k x r.word is old.1 ∙ stood)
        | inr o ↦ inr o
      ]
      stands_in k x r is here (inr new) =
          elim (met.stands k x (subst (λ j. IsRecordIn l.decls l.slots ways k x j) (sym (there r new)) is)) [
            | inl stood ↦ inl (ap (λ j. get_or now j 0) (sym (there r new))
                ∙ (stood ∙ (sym note.seen ∙ ap (λ (y : Read). y.seen) new)))
            | inr o ↦ inr o
          ]

      unlike_in : (k : Key) (x : Spot) (r : Read) (m : ℕ) → IsRecordIn l.decls l.slots ways k x r.word
          → has_slot gone x.slot ≡ false → r.was ≡ Some m → m < 2 ^ 60 → r.seen < 2 ^ 60 → m ≢ r.seen
          → (Contains reads r × (r.word ≢ at)) ⊎ (note.new ≡ r) → Other took p k
      unlike_in k x r m is here was small low other (inl old) = f.unlike k x r m old.0 is here was small low other
      unlike_in k x r m is here was small low other (inr new) =
          let seen : n ≡ r.seen = sym note.seen ∙ ap (λ (y : Read). y.seen) new in
          met.unlike k x m (subst (λ j. IsRecordIn l.decls l.slots ways k x j) (sym (there r new)) is) here
          (sym note.was ∙ (ap (λ (y : Read). y.was) new ∙ was)) small (subst (λ y. y < 2 ^ 60) (sym seen) low)
          (λ e. other (e ∙ seen))

module _ (l : Layout) (words : List ℕ) (took : ℕ → Key → Type 0) (p : ℕ) (ways : List Way) (own : List Took)
    (reads : List Read) (gone : List ℕ) (at : ℕ) (f : IsFacing l words took p ways own reads gone) where
  -- what was last seen or left of a record's word stands there, or another one took a lock of the key
  last_stands : (k : Key) (x : Spot) (m : ℕ) → IsRecordIn l.decls l.slots ways k x at → has_slot gone x.slot ≡ false
      → seen_at reads at ≡ Some m → (get_or words at 0 ≡ m) ⊎ Other took p k
  last_stands k x m is here seen =
      let r = seen_is reads at m seen in
      elim (f.stands k x r.0 r.1 (subst (λ j. IsRecordIn l.decls l.slots ways k x j) (sym r.2) is) here) [
        | inl stood ↦ inl (ap (λ j. get_or words j 0) (sym r.2) ∙ (stood ∙ r.3))
        | inr o ↦ inr o
      ]

  -- a load of a word, or a compare_exchange that found another word than the expected one
  pub facing_load : (more : List Read) → IsNoted reads more at (get_or words at 0)
      → ((t i : ℕ) → t < l.slots → i < 64 → at ≡ page_at l.slots t i → has_slot gone t ≡ false
      → (y : Way) × Contains ways y × (y.slot ≡ t))
      → IsFacing l words took p ways own more gone
  facing_load more note page =
      facing_own l words words took p ways own own reads more gone at (get_or words at 0) note (λ k x j is other. refl)
      (λ k x j is other mine. mine) record {
        page = page;
        locked = λ k x is high. f.locked k x at is high;
        stands = λ k x is. inl refl;
        unlike = λ k x m is here seen small low other. unlike_by k m other (last_stands k x m is here seen);
      } f
    where
      unlike_by : (k : Key) (m : ℕ) → m ≢ get_or words at 0 → (get_or words at 0 ≡ m) ⊎ Other took p k → Other took p k
      unlike_by k m other (inl same) = absurd (other (sym same))
      unlike_by k m other (inr o) = o

  -- a word that is no record's was met or left
  pub facing_aside : (now : List ℕ) (more : List Read) (n : ℕ) → IsNoted reads more at n
      → ((k : Key) (x : Spot) → IsRecordIn l.decls l.slots ways k x at → ⊥)
      → ((k : Key) (x : Spot) (j : ℕ) → IsRecordIn l.decls l.slots ways k x j → j ≢ at
      → get_or now j 0 ≡ get_or words j 0)
      → ((t i : ℕ) → t < l.slots → i < 64 → at ≡ page_at l.slots t i → has_slot gone t ≡ false
      → (y : Way) × Contains ways y × (y.slot ≡ t))
      → IsFacing l now took p ways own more gone
  facing_aside now more n note none same page =
      facing_own l words now took p ways own own reads more gone at n note same (λ k x j is other mine. mine) record {
        page = page;
        locked = λ k x is high. absurd (none k x is);
        stands = λ k x is. absurd (none k x is);
        unlike = λ k x m is here seen small low other. absurd (none k x is);
      } f

  -- an own lock of the record whose word stands there, which left it with the lock bit
  pub facing_lock : (now : List ℕ) (t : Took) (more : List Read) (n : ℕ) → IsNoted reads more at n
      → ((t i : ℕ) → t < l.slots → i < 64 → at ≡ page_at l.slots t i → has_slot gone t ≡ false
      → (y : Way) × Contains ways y × (y.slot ≡ t))
      → ((q : Key) (y : Spot) → IsRecordIn l.decls l.slots ways q y at → (q ≡ t.key) × (y ≡ t.spot)) → 2 ^ 60 ≤ n
      → ((k : Key) (x : Spot) (j : ℕ) → IsRecordIn l.decls l.slots ways k x j → j ≢ at
      → get_or now j 0 ≡ get_or words j 0) → get_or now at 0 ≡ n
      → IsFacing l now took p ways (own ++ t ∷ []) more gone
  facing_lock now t more n note page one high others is =
      facing_own l words now took p ways own (own ++ t ∷ []) reads more gone at n note others
      (λ k x j there other mine. any_push_old (λ (z : Took). same_key z.key k && same_spot z.spot x) own t mine) record {
        page = page;
        locked = λ q y there up. inl (new_took q y (one q y there));
        stands = λ q y there. inl is;
        unlike = λ q y m there here seen small low other. absurd (omega (arith, high, low));
      } f
    where
      new_took : (q : Key) (y : Spot) → (q ≡ t.key) × (y ≡ t.spot) → has_took (own ++ t ∷ []) q y ≡ true
      new_took q y same =
          any_in (λ (z : Took). same_key z.key q && same_spot z.spot y) (own ++ t ∷ []) t (in_push_new t own)
          (and_from (same_key t.key q) (same_spot t.spot y)
          (subst (λ (k : Key). same_key t.key k ≡ true) (sym same.0) (same_key-self t.key))
          (subst (λ (x : Spot). same_spot t.spot x ≡ true) (sym same.1) (same_spot-self t.spot)))

  -- an own lock is opened, which leaves the word without the lock bit
  pub facing_open : (now : List ℕ) (then : List Took) (more : List Read) (n : ℕ) → IsNoted reads more at n
      → ((t i : ℕ) → t < l.slots → i < 64 → at ≡ page_at l.slots t i → has_slot gone t ≡ false
      → (y : Way) × Contains ways y × (y.slot ≡ t))
      → ((k : Key) (x : Spot) (j : ℕ) → IsRecordIn l.decls l.slots ways k x j → j ≢ at → has_took own k x ≡ true
      → has_took then k x ≡ true) → 2 ^ 60 ≤ get_or words at 0 → n < 2 ^ 60
      → ((k : Key) (x : Spot) (j : ℕ) → IsRecordIn l.decls l.slots ways k x j → j ≢ at
      → get_or now j 0 ≡ get_or words j 0) → get_or now at 0 ≡ n
      → IsFacing l now took p ways then more gone
  facing_open now then more n note page keeps high small others is =
      facing_own l words now took p ways own then reads more gone at n note others keeps record {
        page = page;
        locked = λ q y there up. absurd (omega (arith, is, up, small));
        stands = λ q y there. inl is;
        unlike = λ q y m there here seen low less other. unlike_by q m low (last_stands q y m there here seen);
      } f
    where
      unlike_by : (q : Key) (m : ℕ) → m < 2 ^ 60 → (get_or words at 0 ≡ m) ⊎ Other took p q → Other took p q
      unlike_by q m low (inl same) = absurd (omega (arith, low, high, same))
      unlike_by q m low (inr o) = o

-- ---- ways

-- the same, with more ways: where the pass had a way into the page already, the record was one by it
pub facing_ways : (l : Layout) (words : List ℕ) (took : ℕ → Key → Type 0) (p : ℕ) (ways more : List Way)
    (own : List Took) (reads : List Read) (gone : List ℕ) → ((y : Way) → Contains ways y → Contains more y)
    → ((k : Key) (x : Spot) (at : ℕ) → IsRecordIn l.decls l.slots more k x at → (y : Way) → Contains ways y
    → y.slot ≡ x.slot → IsRecordIn l.decls l.slots ways k x at)
    → ((k : Key) (x : Spot) (at : ℕ) → IsRecordIn l.decls l.slots more k x at → 2 ^ 60 ≤ get_or words at 0
    → (has_took own k x ≡ true) ⊎ Other took p k)
    → IsFacing l words took p ways own reads gone → IsFacing l words took p more own reads gone
facing_ways l words took p ways more own reads gone wide same locked f = record {
  pages = λ r has t i less few word here.
      let y = f.pages r has t i less few word here in (y.0, wide y.0 y.1, y.2);
  locked = locked;
  stands = λ k x r has is here.
      let y = way_of k x r has is here in f.stands k x r has (same k x r.word is y.0 y.1 y.2) here;
  unlike = λ k x r m has is here was small low other.
      let y = way_of k x r has is here in
      f.unlike k x r m has (same k x r.word is y.0 y.1 y.2) here was small low other;
}
  where
    way_of : (k : Key) (x : Spot) (r : Read) → Contains reads r → IsRecordIn l.decls l.slots more k x r.word
        → has_slot gone x.slot ≡ false → (y : Way) × Contains ways y × (y.slot ≡ x.slot)
    way_of k x r has is here =
        let index : x.index < 32 = is.index in
        f.pages r has x.slot (2 * x.index) is.there (omega arith) is.word here

-- so it is where two ways into one slot are over the same keys
pub facing_agree : (l : Layout) (words : List ℕ) (took : ℕ → Key → Type 0) (p : ℕ) (ways more : List Way)
    (own : List Took) (reads : List Read) (gone : List ℕ) → ((y : Way) → Contains ways y → Contains more y)
    → WaysAgree more
    → ((k : Key) (x : Spot) (at : ℕ) → IsRecordIn l.decls l.slots more k x at → 2 ^ 60 ≤ get_or words at 0
    → (has_took own k x ≡ true) ⊎ Other took p k)
    → IsFacing l words took p ways own reads gone → IsFacing l words took p more own reads gone
facing_agree l words took p ways more own reads gone wide agree locked f =
    facing_ways l words took p ways more own reads gone wide (λ k x at is y has slot.
    let alike = agree is.way y is.has (wide y has) (is.slot ∙ sym slot) in record {
      way = y;
      has = has;
      slot = slot;
      there = is.there;
      kind = ap (is_array l.decls) (sym alike.0) ∙ is.kind;
      leaf = sym alike.2 ∙ is.leaf;
      index = is.index;
      key = is.key
          ∙ (ap (λ (t : ℕ). let q : Key = record { storage = t; key = (is.way).span.low + x.index } in q) alike.0
          ∙ ap (λ (t : ℕ). let q : Key = record { storage = y.span.storage; key = t + x.index } in q) alike.1);
      word = is.word;
    }) locked f

-- a slot that isn't among these with one more is another one
gone_apart : (t u : ℕ) (gone : List ℕ) → has_slot (t ∷ gone) u ≡ false → (t ≢ u) × (has_slot gone u ≡ false)
gone_apart t u gone here = (
  (λ same. true≢false (sym (ap (λ (b : Bool). b || has_slot gone u) (eq-eqb t u same)) ∙ here)),
  elim (cases_Bool (has_slot gone u)) [
    | inl held ↦ absurd (true≢false (sym (or_right (eqb t u) (has_slot gone u) held) ∙ here))
    | inr free ↦ free
  ],
)

-- a slot is left
pub facing_left : (l : Layout) (words : List ℕ) (took : ℕ → Key → Type 0) (p t : ℕ) (ways : List Way) (own : List Took)
    (reads : List Read) (gone : List ℕ) → IsFacing l words took p ways own reads gone
    → IsFacing l words took p (other_ways t ways) own reads (t ∷ gone)
facing_left l words took p t ways own reads gone f = record {
  pages = λ r has u i less few word here.
      let apart = gone_apart t u gone here in
      let y = f.pages r has u i less few word apart.1 in (
        y.0,
        in_filtered (λ (z : Way). not (z.slot == t)) y.0 ways y.1
            (ap not (ne_eqb (y.0).slot t (λ e. apart.0 (sym e ∙ y.2)))),
        y.2,
      );
  locked = λ k x at is high. f.locked k x at (wide k x at is) high;
  stands = λ k x r has is here. f.stands k x r has (wide k x r.word is) (gone_apart t x.slot gone here).1;
  unlike = λ k x r m has is here was small low other.
      f.unlike k x r m has (wide k x r.word is) (gone_apart t x.slot gone here).1 was small low other;
}
  where
    wide : (k : Key) (x : Spot) (at : ℕ) → IsRecordIn l.decls l.slots (other_ways t ways) k x at
        → IsRecordIn l.decls l.slots ways k x at
    wide k x at is = record {
      way = is.way;
      has = in_filter (λ (z : Way). not (z.slot == t)) is.way ways is.has;
      slot = is.slot;
      there = is.there;
      kind = is.kind;
      leaf = is.leaf;
      index = is.index;
      key = is.key;
      word = is.word;
    }

-- ---- touches

pub takes_same : (q : ℕ) (k : Key) (v w : View) → w.touched ≡ v.touched → takes q k w ≡ takes q k v
takes_same q k v w same = ap (λ (l : List Touch). total (is_touch q k) l) same

pub takes_push : (q : ℕ) (k : Key) (t : Touch) (v w : View) → w.touched ≡ v.touched ++ t ∷ []
    → takes q k w ≡ takes q k v + is_touch q k t
takes_push q k t v w is =
    let more = total-append (is_touch q k) v.touched (t ∷ []) in
    let now : takes q k w ≡ total (is_touch q k) (v.touched ++ t ∷ []) = ap (λ (l : List Touch). total (is_touch q k) l) is in
    omega (arith, more, now)

pub is_own_touch : (q : ℕ) (k : Key) → is_touch q k (touch q k) ≡ 1
is_own_touch q k =
    ap (λ b. cond (b && same_key k k) 1 0) (eq-eqb q q refl) ∙ ap (λ b. cond b 1 0) (same_key-self k)

-- where a view that a step changes loses no touch, nobody loses one
pub touched_set : (views : List View) (id : ℕ) (v w : View) → get_elem? views id ≡ some v
    → ((q : ℕ) (k : Key) → takes q k v ≤ takes q k w) → StaysTaken (Touched views) (Touched (set views id w))
touched_set views id v w at more q k has = omega (arith, total-set (takes q k) views id v w at, more q k, has)

-- a touch of the view itself
touched_here : (views : List View) (id : ℕ) (v w : View) (q : ℕ) (k : Key) → get_elem? views id ≡ some v
    → 1 ≤ takes q k w → Touched (set views id w) q k
touched_here views id v w q k at one =
    omega (arith, total-set (takes q k) views id v w at, term_at_most (takes q k) views id v at, one)

pub blamed_grows : (took more : ℕ → Key → Type 0) (blamed : List Touch) → StaysTaken took more → AreBlamed took blamed
    → AreBlamed more blamed
blamed_grows took more blamed grows are b has = other_grows took more b.seat b.key grows (are b has)

-- ---- views

-- where more was taken, and no word changed
pub faces_grow : (l : Layout) (words : List ℕ) (views more : List View) (v : View)
    → StaysTaken (Touched views) (Touched more) → Faces l words views v → Faces l words more v
faces_grow l words views more v grows f worker is =
    facing_other l words words (Touched views) (Touched more) (suc worker) v.ways v.took v.reads v.gone grows
    (λ k x at there. inl refl) (f worker is)

-- a view without ways that met nothing
pub faces_bare : (l : Layout) (words : List ℕ) (views : List View) (v : View) → v.ways ≡ [] → v.reads ≡ []
    → Faces l words views v
faces_bare l words views v ways reads worker is =
    subst (λ (z : List Way). IsFacing l words (Touched views) (suc worker) z v.took v.reads v.gone) (sym ways)
    (subst (λ (z : List Read). IsFacing l words (Touched views) (suc worker) [] v.took z v.gone) (sym reads)
    (facing_bare l words (Touched views) (suc worker) v.took v.gone))

-- no worker's view faces anybody
pub faces_none : (l : Layout) (words : List ℕ) (views : List View) (v : View)
    → ((worker : ℕ) → v.role ≡ Worker worker → ⊥) → Faces l words views v
faces_none l words views v none worker is = absurd (none worker is)

-- ---- a step of one seat

-- No touch is lost. A lock that the seat has is one that it had or has touched now; so it is of the key of each record
-- whose word changed. What the pass knows of others, and whom it was refused for, it knows by what was taken before.
pub record Deals (l : Layout) (words words' : List ℕ) (s : Shared) (p : ℕ) (views : List View) (v w : View) : Type 0 where
  pub touched : (q : ℕ) (k : Key) → takes q k v ≤ takes q k w
  pub locks : (k : Key) → has_key w.seat.locks k ≡ true → (has_key v.seat.locks k ≡ true) ⊎ (1 ≤ takes p k w)
  pub changes : (k : Key) (x : Spot) (at : ℕ) → RecordStands l s k x at
      → (get_or words' at 0 ≡ get_or words at 0) ⊎ ((has_key v.seat.locks k ≡ true) ⊎ (1 ≤ takes p k w))
  pub facing : Faces l words' views w
  pub blamed : AreBlamed (Touched views) w.blamed

-- a record by a way of a view stands
pub stands_way : (l : Layout) (s : Shared) (holds : List ℕ) (ways : List Way) (k : Key) (x : Spot) (at : ℕ)
    → ((z : Way) → Contains ways z → IsWay l s.table s.trees holds z) → IsRecordIn l.decls l.slots ways k x at
    → RecordStands l s k x at
stands_way l s holds ways k x at each is =
    let way = each is.way is.has in record {
      within = is.there;
      known = subst (λ t. is_never (slot_of s.table t).led ≡ false) is.slot way.known;
      span = (is.way).span;
      kind = is.kind;
      leaf = is.leaf;
      over = subst (λ t. IsLaidOutFor l.decls s.trees s.table t (is.way).span) is.slot way.over;
      index = is.index;
      key = is.key;
      word = is.word;
    }

pub stands_by : (l : Layout) (words : List ℕ) (s : Shared) (u : View) (k : Key) (x : Spot) (at : ℕ)
    → FitsPages l words s u → IsRecordIn l.decls l.slots u.ways k x at → RecordStands l s k x at
stands_by l words s u k x at f is = stands_way l s u.grip.holds u.ways k x at f.ways is

-- a worker's seat is its pass's alone
sits_own : (worker : ℕ) (u : View) (p : ℕ) → u.role ≡ Worker worker → sits p u ≡ 0 → suc worker ≢ p
sits_own worker u p is none same =
    let here : sits p u ≡ sits_by p (Worker worker) = ap (sits_by p) is in
    absurd (omega (arith, none, here, sits_here p (Worker worker) (sym same)))

module _ (l : Layout) (words words' : List ℕ) (views : List View) (s t : Shared) (id p : ℕ) (v w : View) (few : p < 9)
    (at : get_elem? views id ≡ some v) (own : v.seat ≡ s.seats p)
    (seats : (q : ℕ) → t.seats q ≡ put_seat s.seats p w.seat q) (h : Touching l words views s)
    (d : Deals l words words' s p views v w) where
  grows : StaysTaken (Touched views) (Touched (set views id w))
  grows = touched_set views id v w at d.touched

  -- a lock that the seat had, or a touch that it has now
  taken_now : (k : Key) → (has_key v.seat.locks k ≡ true) ⊎ (1 ≤ takes p k w) → Touched (set views id w) p k
  taken_now k (inl had) = grows p k (h.taken p k few (subst (λ (x : Seat). has_key x.locks k ≡ true) own had))
  taken_now k (inr one) = touched_here views id v w p k at one

  taken_after : (q : ℕ) (k : Key) → q < 9 → has_key (t.seats q).locks k ≡ true → Touched (set views id w) q k
  taken_after q k less has =
      by_equal q p (λ y. y < 9 → has_key (put_seat s.seats p w.seat y).locks k ≡ true → Touched (set views id w) y k)
      (λ _ now. taken_now k (d.locks k (ap (λ (x : Seat). has_key x.locks k) (sym (put_same s.seats p w.seat p refl)) ∙ now)))
      (λ other low now. grows q k
      (h.taken q k low (ap (λ (x : Seat). has_key x.locks k) (sym (put_other s.seats p w.seat q other)) ∙ now)))
      less (ap (λ (x : Seat). has_key x.locks k) (sym (seats q)) ∙ has)

  -- another worker's view
  other_faces : (u : View) → sits p u ≡ 0 → FitsPages l words s u → Faces l words views u
      → Faces l words' (set views id w) u
  other_faces u none fits f worker is =
      facing_other l words words' (Touched views) (Touched (set views id w)) (suc worker) u.ways u.took u.reads u.gone
      grows (λ k x j there. by_change k j (d.changes k x j (stands_by l words s u k x j fits there))) (f worker is)
    where
      by_change : (k : Key) (j : ℕ)
          → (get_or words' j 0 ≡ get_or words j 0) ⊎ ((has_key v.seat.locks k ≡ true) ⊎ (1 ≤ takes p k w))
          → (get_or words' j 0 ≡ get_or words j 0) ⊎ Other (Touched (set views id w)) (suc worker) k
      by_change k j (inl same) = inl same
      by_change k j (inr took) =
          inr (record { by = p; apart = λ e. sits_own worker u p is none (sym e); taken = taken_now k took })

  -- the rule of touches after the step
  pub touches_after : total (sits p) views ≤ sits p v → AllByRecursion (FitsPages l words s) views
      → Touching l words' (set views id w) t
  touches_after alone pages = record {
    taken = taken_after;
    facing = each_other (sits p) (λ u. FitsPages l words s u × Faces l words views u) (Faces l words' (set views id w))
        (λ u none x. other_faces u none x.0 x.1) views id v w at alone
        (both_hold (FitsPages l words s) (Faces l words views) (λ u. FitsPages l words s u × Faces l words views u)
        (λ u x y. (x, y)) views pages h.facing)
        (faces_grow l words' views (set views id w) w grows d.facing);
    blamed = each_other (sits p) (λ u. AreBlamed (Touched views) u.blamed) (λ u. AreBlamed (Touched (set views id w)) u.blamed)
        (λ u none are. blamed_grows (Touched views) (Touched (set views id w)) u.blamed grows are)
        views id v w at alone h.blamed
        (blamed_grows (Touched views) (Touched (set views id w)) w.blamed grows d.blamed);
  }
