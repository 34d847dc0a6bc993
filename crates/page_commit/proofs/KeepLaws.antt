-- The parts that are kept behind one more, which takes the place of that of its word.
use Rattle.std.proofs.Common.{◌≡◌, ◌⊎◌, inl, inr, ℕ, Bool, true, false, true≢false, List, [], ◌∷◌, ◌++◌}
use Rattle.std.proofs.Common.{refl, sym, ap, ◌∙◌, subst, cond, Option, Some, None}
use Rattle.std.specs.Prelude.{Contains, filter, not, unwrap_or, ◌==◌}
use Rattle.std.specs.List.{find}
use Rattle.std.specs.Option.{option_map}
use Rattle.std.proofs.lemmas.Bool.{eqb-true, eq-eqb, false_from_ne_true}
use Rattle.lists.specs.Each.{AreDistinct}
use Rattle.lists.specs.Elements.{filter_only, in_filter, in_filtered, in_head, in_push_cases, in_push_new, in_push_old, in_tail}
use Rattle.serial_model.specs.declared.key.Key.{Key}
use Rattle.serial_model.specs.Decls.{AreDecls}
use Rattle.homes.specs.declared.places.Content.{Content}
use Rattle.homes.specs.declared.places.Span.{Span}
use Rattle.homes.specs.Homes.{in_span, same_at, same_spot}
use Rattle.homes.specs.Laws.{same_at-true, same_spot-true}
use Rattle.commit_core.specs.declared.part.Part.{Part}
use Rattle.commit_core.specs.declared.part.Word.{Word}
use Rattle.commit_core.specs.declared.part.Word.TheVariants.{Header, Pointer, Record}
use Rattle.commit_core.specs.Lemmas.Keys.{same_word-self, same_word-true}
use Rattle.commit_core.specs.Parts.{covers, found, record_part, same_word, with_part}
use Rattle.serial_bridge.specs.Transaction.{Vouched}
use Rattle.tx_sets.specs.declared.reads.ReadEntry.{ReadEntry}
use Rattle.tx_sets.specs.declared.seen.Seen.{Seen}
use Rattle.tx_sets.specs.declared.sets.Sets.{Sets}
use Rattle.tx_sets.specs.Entries.{places_of, word_at}
use Rattle.engine_pages.specs.declared.view.View.{View}
use Rattle.engine_pages.specs.Agreement.{TreesAgree}
use Rattle.engine_pages.specs.Pointers.{WaysAgree}
use Rattle.page_commit.specs.Places.{ground, pointer_for, slot_of, spot_for, Ground, IsAnyKeyAt}
use Rattle.page_commit.specs.HeaderParts.{IsMetHeader}
use Rattle.page_commit.specs.Live.{below_in, AreParts, IsMetPointer, IsReadPart, IsWordOf}
use Rattle.page_commit.proofs.AnyPlaces.{any_one_place}
use Rattle.page_commit.proofs.HeaderLaws.{header_grown}
use Rattle.page_commit.specs.Keeping.{MeetsPointer}
use Rattle.page_commit.specs.Turning.{PartsStay}
use Rattle.page_commit.proofs.GrowLaws.{met_pointer_grown, one_span, read_grown, KnowsMore}
use Rattle.page_commit.proofs.PlaceLaws.{one_pointer}
use Rattle.page_commit.proofs.PointerLaws.{pointer_word}

-- ---- one part more

not_true : (b : Bool) → not b ≡ true → b ≡ false
not_true true is = absurd (true≢false (sym is))
not_true false is = refl

-- a part of another word is kept
pub kept_old : (kept : List Part) (new part : Part) → Contains kept part → same_word part.word new.word ≡ false
    → Contains (with_part kept new) part
kept_old kept new part has other =
    in_push_old part new (filter (λ (q : Part). not (same_word q.word new.word)) kept)
    (in_filtered (λ (q : Part). not (same_word q.word new.word)) part kept has (ap not other))

pub kept_new : (kept : List Part) (new : Part) → Contains (with_part kept new) new
kept_new kept new = in_push_new new (filter (λ (q : Part). not (same_word q.word new.word)) kept)

-- what is kept now was kept, and is of another word, or is the new one
pub kept_cases : (kept : List Part) (new part : Part) → Contains (with_part kept new) part
    → (Contains kept part × (same_word part.word new.word ≡ false)) ⊎ (new ≡ part)
kept_cases kept new part has =
    elim (in_push_cases part new (filter (λ (q : Part). not (same_word q.word new.word)) kept) has) [
      | inl old ↦ inl (
        in_filter (λ (q : Part). not (same_word q.word new.word)) part kept old,
        not_true (same_word part.word new.word)
            (filter_only (λ (q : Part). not (same_word q.word new.word)) part kept old),
      )
      | inr is ↦ inr is
    ]

same_flip : (a b : Word) → same_word a b ≡ true → same_word b a ≡ true
same_flip a b same = subst (λ (x : Word). same_word x a ≡ true) (same_word-true a b same) (same_word-self a)

-- each is of another word still
pub kept_once : (kept : List Part) (new : Part)
    → ((a b : Part) → Contains kept a → Contains kept b → same_word a.word b.word ≡ true → a ≡ b)
    → (a b : Part) → Contains (with_part kept new) a → Contains (with_part kept new) b → same_word a.word b.word ≡ true
    → a ≡ b
kept_once kept new once a b has there same = by_sides (kept_cases kept new a has) (kept_cases kept new b there)
  where
    by_sides : (Contains kept a × (same_word a.word new.word ≡ false)) ⊎ (new ≡ a)
        → (Contains kept b × (same_word b.word new.word ≡ false)) ⊎ (new ≡ b) → a ≡ b
    by_sides (inl x) (inl y) = once a b x.0 y.0 same
    by_sides (inl x) (inr y) =
        absurd (true≢false (sym (ap (λ (z : Part). same_word a.word z.word) y ∙ same) ∙ x.1))
    by_sides (inr x) (inl y) =
        let flip : same_word b.word a.word ≡ true = same_flip a.word b.word same in
        absurd (true≢false (sym (ap (λ (z : Part). same_word b.word z.word) x ∙ flip) ∙ y.1))
    by_sides (inr x) (inr y) = sym x ∙ y

-- where each of the parts is of another word, what they had is had still
pub stay_apart : (kept : List Part) (new : Part)
    → ((part : Part) → Contains kept part → same_word part.word new.word ≡ false) → PartsStay kept (with_part kept new)
stay_apart kept new other k value v = record {
  part = v.part;
  among = kept_old kept new v.part v.among (other v.part v.among);
  over = v.over;
  has = v.has;
}

-- ---- a record was read

module _ (sets new : Sets) (v w : View) (e : ReadEntry) (c : Content) (are : AreDecls v.layout.decls)
    (agree : WaysAgree w.ways) (more : KnowsMore v w) (parts : AreParts sets v v.seat.kept)
    (place : IsAnyKeyAt w e.key e.at)
    (other : (f : ReadEntry) → Contains sets.reads f → f.at ≡ e.at → ⊥) where
  abbrev read_part : Part
  read_part = record_part e.key (spot_for w.layout e.key e.at) c

  -- no part is of its word
  pub entry_apart : (q : Part) → Contains v.seat.kept q
      → same_word q.word (Record (spot_for w.layout e.key e.at)) ≡ false
  entry_apart q has = by_side (parts.known q has)
    where
      by_side : ((f : ReadEntry) × Contains sets.reads f × IsReadPart (ground v) f q)
          ⊎ (((p : Seen) × Contains sets.pointers p × IsMetPointer v p q)
          ⊎ ((h : Seen) × Contains sets.headers h × IsMetHeader (ground v) h q))
          → same_word q.word (Record (spot_for w.layout e.key e.at)) ≡ false
      by_side (inl r) =
          let f : ReadEntry = r.0 in
          let now = read_grown v w f q more r.2 in
          let miss : same_spot (spot_for w.layout f.key f.at) (spot_for w.layout e.key e.at) ≡ false =
          false_from_ne_true (same_spot (spot_for w.layout f.key f.at) (spot_for w.layout e.key e.at)) (λ test.
          other f r.1 (any_one_place (ground w) f.key e.key f.at e.at agree now.place place
          (same_spot-true (spot_for w.layout f.key f.at) (spot_for w.layout e.key e.at) test))) in
          ap (λ (z : Part). same_word z.word (Record (spot_for w.layout e.key e.at))) now.is ∙ miss
      by_side (inr (inl r)) = ap (λ (z : Word). same_word z (Record (spot_for w.layout e.key e.at))) r.2.of.word
      by_side (inr (inr r)) = ap (λ (z : Part). same_word z.word (Record (spot_for w.layout e.key e.at))) r.2.is

  pub entry_part : IsWordOf w.layout.decls e.key c e.word → e.value ≡ unwrap_or c.value 0 → IsReadPart (ground w) e read_part
  entry_part shown value = record { place = place; content = c; shown = shown; value = value; is = refl }

  pub entry_parts : IsWordOf w.layout.decls e.key c e.word → e.value ≡ unwrap_or c.value 0 → new.reads ≡ sets.reads ++ e ∷ []
      → new.pointers ≡ sets.pointers → new.headers ≡ sets.headers → w.seat.kept ≡ with_part v.seat.kept read_part
      → AreParts new w w.seat.kept
  entry_parts shown value reads pointers headers kept = subst (AreParts new w) (sym kept) record {
    known = λ q has. by_case q (kept_cases v.seat.kept read_part q has);
    reads = λ f has. by_entry f (in_push_cases f e sets.reads (subst (λ (l : List ReadEntry). Contains l f) reads has));
    pointers = λ p has.
        let r = parts.pointers p (subst (λ (l : List Seen). Contains l p) pointers has) in
        (r.0, stays r.0 r.1, met_pointer_grown v w p r.0 are agree more r.2);
    headers = λ h has.
        let r = parts.headers h (subst (λ (l : List Seen). Contains l h) headers has) in
        (r.0, stays r.0 r.1, header_grown v w h r.0 more r.2);
    once = kept_once v.seat.kept read_part parts.once;
  }
    where
      stays : (q : Part) → Contains v.seat.kept q → Contains (with_part v.seat.kept read_part) q
      stays q has = kept_old v.seat.kept read_part q has (entry_apart q has)

      by_known : (q : Part) → ((f : ReadEntry) × Contains sets.reads f × IsReadPart (ground v) f q)
          ⊎ (((p : Seen) × Contains sets.pointers p × IsMetPointer v p q)
          ⊎ ((h : Seen) × Contains sets.headers h × IsMetHeader (ground v) h q))
          → ((f : ReadEntry) × Contains new.reads f × IsReadPart (ground w) f q)
          ⊎ (((p : Seen) × Contains new.pointers p × IsMetPointer w p q)
          ⊎ ((h : Seen) × Contains new.headers h × IsMetHeader (ground w) h q))
      by_known q (inl r) = inl (
        r.0,
        subst (λ (l : List ReadEntry). Contains l r.0) (sym reads) (in_push_old r.0 e sets.reads r.1),
        read_grown v w r.0 q more r.2,
      )
      by_known q (inr (inl r)) = inr (inl (
        r.0,
        subst (λ (l : List Seen). Contains l r.0) (sym pointers) r.1,
        met_pointer_grown v w r.0 q are agree more r.2,
      ))
      by_known q (inr (inr r)) = inr (inr (
        r.0,
        subst (λ (l : List Seen). Contains l r.0) (sym headers) r.1,
        header_grown v w r.0 q more r.2,
      ))

      by_case : (q : Part) → (Contains v.seat.kept q × (same_word q.word read_part.word ≡ false)) ⊎ (read_part ≡ q)
          → ((f : ReadEntry) × Contains new.reads f × IsReadPart (ground w) f q)
          ⊎ (((p : Seen) × Contains new.pointers p × IsMetPointer w p q)
          ⊎ ((h : Seen) × Contains new.headers h × IsMetHeader (ground w) h q))
      by_case q (inl old) = by_known q (parts.known q old.0)
      by_case q (inr is) = inl (
        e,
        subst (λ (l : List ReadEntry). Contains l e) (sym reads) (in_push_new e sets.reads),
        subst (IsReadPart (ground w) e) is (entry_part shown value),
      )

      by_entry : (f : ReadEntry) → Contains sets.reads f ⊎ (e ≡ f)
          → (q : Part) × Contains (with_part v.seat.kept read_part) q × IsReadPart (ground w) f q
      by_entry f (inl old) =
          let r = parts.reads f old in (r.0, stays r.0 r.1, read_grown v w f r.0 more r.2)
      by_entry f (inr is) = (
        read_part,
        kept_new v.seat.kept read_part,
        subst (λ (z : ReadEntry). IsReadPart (ground w) z read_part) is (entry_part shown value),
      )

  -- all that was had is had still
  pub entry_stays : w.seat.kept ≡ with_part v.seat.kept read_part → PartsStay v.seat.kept w.seat.kept
  entry_stays kept = subst (PartsStay v.seat.kept) (sym kept) (stay_apart v.seat.kept read_part entry_apart)

-- ---- a pointer was met

pub seen_is : (a b : Seen) → a.at ≡ b.at → a.word ≡ b.word → a ≡ b
seen_is a b at word =
    ap (λ (n : ℕ). let z : Seen = record { at = n; word = a.word } in z) at
    ∙ ap (λ (n : ℕ). let z : Seen = record { at = b.at; word = n } in z) word

some_is : (a c : ℕ) → Some a ≡ Some c → a ≡ c
some_is a c same = cc

-- what is found at a word of the set is in it
pub in_pointers : (pointers : List Seen) (p : Seen) → word_at p.at pointers ≡ Some p.word → Contains pointers p
in_pointers [] p is = absurd cc
in_pointers (f ∷ pointers) p is = by_test (f.at == p.at) refl is (in_pointers pointers p)
  where
    by_test : (b : Bool) → (f.at == p.at) ≡ b → word_at p.at (f ∷ pointers) ≡ Some p.word
        → (word_at p.at pointers ≡ Some p.word → Contains pointers p) → Contains (f ∷ pointers) p
    by_test true hit is rest =
        let word : f.word ≡ p.word =
        some_is f.word p.word (sym (ap (λ b. option_map (λ (x : Seen). x.word)
        (cond b (Some f) (find (λ (x : Seen). x.at == p.at) pointers))) hit) ∙ is) in
        subst (λ (z : Seen). Contains (f ∷ pointers) z) (seen_is f p (eqb-true f.at p.at hit) word) (in_head f pointers)
    by_test false miss is rest =
        in_tail p f pointers (rest (sym (ap (λ b. option_map (λ (x : Seen). x.word)
        (cond b (Some f) (find (λ (x : Seen). x.at == p.at) pointers))) miss) ∙ is))

module _ (sets new : Sets) (v w : View) (p : Seen) (part : Part) (are : AreDecls v.layout.decls)
    (agree : WaysAgree w.ways) (trees : TreesAgree w) (more : KnowsMore v w) (parts : AreParts sets v v.seat.kept)
    (once : AreDistinct (places_of sets.pointers)) (met : IsMetPointer w p part)
    (meets : MeetsPointer p sets.pointers new.pointers) where
  -- a pointer of the set at this word is this one
  pub same_pointer : (q : Seen) → Contains sets.pointers q → q.at ≡ p.at → q ≡ p
  same_pointer q has at = by_side meets
    where
      is_found : word_at p.at sets.pointers ≡ Some q.word
      is_found = ap (λ (n : ℕ). word_at n sets.pointers) (sym at) ∙ pointer_word sets.pointers q once has

      by_side : MeetsPointer p sets.pointers new.pointers → q ≡ p
      by_side (inl m) = seen_is q p at (some_is q.word p.word (sym is_found ∙ m.0))
      by_side (inr m) = let no : None ≡ Some q.word = sym m.0 ∙ is_found in absurd (cc)

  -- the set has it
  pub pointer_has : Contains new.pointers p
  pointer_has = by_side meets
    where
      by_side : MeetsPointer p sets.pointers new.pointers → Contains new.pointers p
      by_side (inl m) = subst (λ (l : List Seen). Contains l p) (sym m.1) (in_pointers sets.pointers p m.0)
      by_side (inr m) = subst (λ (l : List Seen). Contains l p) (sym m.1) (in_push_new p sets.pointers)

  -- with all that it had, and no other one
  pub pointer_old : (q : Seen) → Contains sets.pointers q → Contains new.pointers q
  pointer_old q has = by_side meets
    where
      by_side : MeetsPointer p sets.pointers new.pointers → Contains new.pointers q
      by_side (inl m) = subst (λ (l : List Seen). Contains l q) (sym m.1) has
      by_side (inr m) = subst (λ (l : List Seen). Contains l q) (sym m.1) (in_push_old q p sets.pointers has)

  pub pointer_cases : (q : Seen) → Contains new.pointers q → Contains sets.pointers q ⊎ (p ≡ q)
  pointer_cases q has = by_side meets
    where
      by_side : MeetsPointer p sets.pointers new.pointers → Contains sets.pointers q ⊎ (p ≡ q)
      by_side (inl m) = inl (subst (λ (l : List Seen). Contains l q) m.1 has)
      by_side (inr m) = in_push_cases q p sets.pointers (subst (λ (l : List Seen). Contains l q) m.1 has)

  -- the part of another pointer is of another word
  pointer_apart : (q : Seen) (old : Part) → IsMetPointer w q old → (q.at ≡ p.at → ⊥)
      → same_word old.word part.word ≡ false
  pointer_apart q old m other =
      let g : Ground = ground w in
      let miss : same_at (pointer_for g q.at) (pointer_for g p.at) ≡ false =
      false_from_ne_true (same_at (pointer_for g q.at) (pointer_for g p.at)) (λ test.
      other (one_pointer g m.span met.span q.at p.at agree m.place met.place
      (same_at-true (pointer_for g q.at) (pointer_for g p.at) test))) in
      ap (λ (z : Word). same_word z part.word) m.of.word
      ∙ (ap (λ (z : Word). same_word (Pointer (pointer_for g q.at)) z) met.of.word ∙ miss)

  -- so is that of an entry
  entry_other : (f : ReadEntry) (old : Part) → IsReadPart (ground w) f old → same_word old.word part.word ≡ false
  entry_other f old r =
      ap (λ (z : Part). same_word z.word part.word) r.is
      ∙ ap (λ (z : Word). same_word (Record (spot_for w.layout f.key f.at)) z) met.of.word

  -- and that of a header
  header_other : (h : Seen) (old : Part) → IsMetHeader (ground w) h old → same_word old.word part.word ≡ false
  header_other h old r =
      ap (λ (z : Part). same_word z.word part.word) r.is
      ∙ ap (λ (z : Word). same_word (Header (slot_of w.layout.slots h.at)) z) met.of.word

  pub pointer_parts : new.reads ≡ sets.reads → new.headers ≡ sets.headers → w.seat.kept ≡ with_part v.seat.kept part
      → AreParts new w w.seat.kept
  pointer_parts reads headers kept = subst (AreParts new w) (sym kept) record {
    known = λ q has. by_case q (kept_cases v.seat.kept part q has);
    reads = λ f has.
        let r = parts.reads f (subst (λ (l : List ReadEntry). Contains l f) reads has) in
        let now = read_grown v w f r.0 more r.2 in
        (r.0, kept_old v.seat.kept part r.0 r.1 (entry_other f r.0 now), now);
    pointers = λ q has. by_pointer q (pointer_cases q has);
    headers = λ h has.
        let r = parts.headers h (subst (λ (l : List Seen). Contains l h) headers has) in
        let now = header_grown v w h r.0 more r.2 in
        (r.0, kept_old v.seat.kept part r.0 r.1 (header_other h r.0 now), now);
    once = kept_once v.seat.kept part parts.once;
  }
    where
      by_known : (q : Part) → ((f : ReadEntry) × Contains sets.reads f × IsReadPart (ground v) f q)
          ⊎ (((s : Seen) × Contains sets.pointers s × IsMetPointer v s q)
          ⊎ ((h : Seen) × Contains sets.headers h × IsMetHeader (ground v) h q))
          → ((f : ReadEntry) × Contains new.reads f × IsReadPart (ground w) f q)
          ⊎ (((s : Seen) × Contains new.pointers s × IsMetPointer w s q)
          ⊎ ((h : Seen) × Contains new.headers h × IsMetHeader (ground w) h q))
      by_known q (inl r) = inl (
        r.0,
        subst (λ (l : List ReadEntry). Contains l r.0) (sym reads) r.1,
        read_grown v w r.0 q more r.2,
      )
      by_known q (inr (inl r)) = inr (inl (r.0, pointer_old r.0 r.1, met_pointer_grown v w r.0 q are agree more r.2))
      by_known q (inr (inr r)) = inr (inr (
        r.0,
        subst (λ (l : List Seen). Contains l r.0) (sym headers) r.1,
        header_grown v w r.0 q more r.2,
      ))

      by_case : (q : Part) → (Contains v.seat.kept q × (same_word q.word part.word ≡ false)) ⊎ (part ≡ q)
          → ((f : ReadEntry) × Contains new.reads f × IsReadPart (ground w) f q)
          ⊎ (((s : Seen) × Contains new.pointers s × IsMetPointer w s q)
          ⊎ ((h : Seen) × Contains new.headers h × IsMetHeader (ground w) h q))
      by_case q (inl old) = by_known q (parts.known q old.0)
      by_case q (inr is) = inr (inl (p, pointer_has, subst (IsMetPointer w p) is met))

      by_pointer : (q : Seen) → Contains sets.pointers q ⊎ (p ≡ q)
          → (x : Part) × Contains (with_part v.seat.kept part) x × IsMetPointer w q x
      by_pointer q (inr is) =
          (part, kept_new v.seat.kept part, subst (λ (z : Seen). IsMetPointer w z part) is met)
      by_pointer q (inl old) = by_test (q.at == p.at) refl
        where
          by_test : (b : Bool) → (q.at == p.at) ≡ b
              → (x : Part) × Contains (with_part v.seat.kept part) x × IsMetPointer w q x
          by_test true hit = (
            part,
            kept_new v.seat.kept part,
            subst (λ (z : Seen). IsMetPointer w z part) (sym (same_pointer q old (eqb-true q.at p.at hit))) met,
          )
          by_test false miss =
              let r = parts.pointers q old in
              let now = met_pointer_grown v w q r.0 are agree more r.2 in (
                r.0,
                kept_old v.seat.kept part r.0 r.1
                    (pointer_apart q r.0 now (λ same. true≢false (sym (eq-eqb q.at p.at same) ∙ miss))),
                now,
              )

  -- what its part had before, it has still
  pub pointer_stays : w.seat.kept ≡ with_part v.seat.kept part → PartsStay v.seat.kept w.seat.kept
  pointer_stays kept = subst (PartsStay v.seat.kept) (sym kept) stay
    where
      again : (q : Seen) (old : Part) (k : Key) (value : Option ℕ) → q ≡ p → IsMetPointer w q old → covers old k ≡ true
          → (found old k).value ≡ value → Vouched (with_part v.seat.kept part) k value
      again q old k value same m over has =
          let m' : IsMetPointer w p old = subst (λ (z : Seen). IsMetPointer w z old) same m in
          let span : m'.span ≡ met.span = one_span w m'.span met.span p.at agree trees m'.place met.place in
          let within : in_span met.span k ≡ true =
          ap (λ (s : Span). in_span s k) (sym span) ∙ m'.inside k over in
          let below : found part k ≡ found old k =
          met.says k within
          ∙ (ap (λ (s : Span). below_in w.layout.decls w.pages s p.word k) (sym span) ∙ sym (m'.says k (m'.inside k over))) in
          record {
            part = part;
            among = kept_new v.seat.kept part;
            over = met.all k within;
            has = ap (λ (c : Content). c.value) below ∙ has;
          }

      by_known : (k : Key) (value : Option ℕ) (x : Vouched v.seat.kept k value)
          → ((f : ReadEntry) × Contains sets.reads f × IsReadPart (ground v) f x.part)
          ⊎ (((s : Seen) × Contains sets.pointers s × IsMetPointer v s x.part)
          ⊎ ((h : Seen) × Contains sets.headers h × IsMetHeader (ground v) h x.part))
          → Vouched (with_part v.seat.kept part) k value
      by_known k value x (inl r) = record {
        part = x.part;
        among = kept_old v.seat.kept part x.part x.among (entry_other r.0 x.part (read_grown v w r.0 x.part more r.2));
        over = x.over;
        has = x.has;
      }
      by_known k value x (inr (inr r)) = record {
        part = x.part;
        among = kept_old v.seat.kept part x.part x.among
            (header_other r.0 x.part (header_grown v w r.0 x.part more r.2));
        over = x.over;
        has = x.has;
      }
      by_known k value x (inr (inl r)) = by_test (r.0.at == p.at) refl
        where
          by_test : (b : Bool) → (r.0.at == p.at) ≡ b → Vouched (with_part v.seat.kept part) k value
          by_test true hit =
              again r.0 x.part k value (same_pointer r.0 r.1 (eqb-true r.0.at p.at hit))
              (met_pointer_grown v w r.0 x.part are agree more r.2) x.over x.has
          by_test false miss = record {
            part = x.part;
            among = kept_old v.seat.kept part x.part x.among
                (pointer_apart r.0 x.part (met_pointer_grown v w r.0 x.part are agree more r.2)
                (λ same. true≢false (sym (eq-eqb r.0.at p.at same) ∙ miss)));
            over = x.over;
            has = x.has;
          }

      stay : PartsStay v.seat.kept (with_part v.seat.kept part)
      stay k value x = by_known k value x (parts.known x.part x.among)
