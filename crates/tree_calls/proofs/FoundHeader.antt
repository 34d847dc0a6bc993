-- A header that vouches that a leaf has no record of a key joins the sets.
use Rattle.std.proofs.Common.{◌≡◌, ◌⊎◌, inl, inr, ℕ, suc, ◌+◌, ◌-◌, ◌*◌, ◌/◌, ◌%◌, ◌<◌, ◌≤◌, Bool, true, false, true≢false, List, []}
use Rattle.std.proofs.Common.{◌∷◌, length, refl, sym, ap, ◌∙◌, subst, Option, Some, None, arith}
use Rattle.std.specs.Prelude.{Contains, ◌==◌}
use Rattle.std.specs.List.{slice_get}
use Rattle.std.proofs.lemmas.Bool.{eqb-true, eq-eqb, false_from_ne_true}
use Rattle.lists.specs.Each.{AreDistinct}
use Rattle.lists.specs.Elements.{any_is, in_push_cases, in_push_new, in_push_old}
use Rattle.serial_model.specs.Decls.{AreDecls}
use Rattle.serial_model.specs.declared.key.Key.{Key}
use Rattle.homes.specs.declared.places.Content.{Content}
use Rattle.homes.specs.declared.places.Span.{Span}
use Rattle.homes.specs.Laws.{in_span-parts}
use Rattle.commit_core.specs.declared.part.Part.{Part}
use Rattle.commit_core.specs.declared.part.Word.{Word}
use Rattle.commit_core.specs.declared.part.Word.TheVariants.{Header, Pointer, Record}
use Rattle.commit_core.specs.Parts.{covers, found, same_word, with_part}
use Rattle.serial_bridge.specs.Transaction.{Vouched}
use Rattle.tx_sets.specs.declared.reads.ReadEntry.{ReadEntry}
use Rattle.tx_sets.specs.declared.seen.Seen.{Seen}
use Rattle.tx_sets.specs.declared.sets.Sets.{Sets}
use Rattle.tx_sets.specs.Entries.{has_word, places_of, word_at}
use Rattle.engine_pages.specs.declared.view.Known.{Known}
use Rattle.engine_pages.specs.declared.view.View.{View}
use Rattle.engine_pages.specs.declared.view.Way.{Way}
use Rattle.engine_pages.specs.Agreement.{TreesAgree}
use Rattle.engine_pages.specs.Layout.{page_at}
use Rattle.engine_pages.specs.Pointers.{WaysAgree, one_kind}
use Rattle.engine_pages.specs.Pages.{is_tree}
use Rattle.engine_pages.specs.Steps.{kept_at, seen_at}
use Rattle.tree_heads.specs.Headers.{open_word}
use Rattle.tree_heads.specs.Keeps.{head_part}
use Rattle.tree_walks.specs.Finding.{IsAbsentIn}
use Rattle.tree_walks.specs.Walks.{AreLedTo, CanWalk, HasWalked, KeepsMet, OnlyTrees, OnlyWaysOn}
use Rattle.page_commit.specs.HeaderParts.{AreHeaders, IsMetHeader}
use Rattle.page_commit.specs.Keeping.{MeetsPointer}
use Rattle.page_commit.specs.Live.{entry_places, AreMet, AreParts, ArePointersKept, ArePointersMet, IsLive, IsMetPointer}
use Rattle.page_commit.specs.Live.{IsReadPart, KeepsOnly}
use Rattle.page_commit.specs.Places.{ground, pointer_for, slot_of, spot_for, IsPointerIn}
use Rattle.page_commit.specs.Turning.{IsHeaderOver, PartsStay}
use Rattle.page_commit.proofs.GrowLaws.{met_pointer_grown, read_grown, KnowsMore}
use Rattle.page_commit.proofs.HeaderLaws.{header_grown, no_head_pointer, one_head}
use Rattle.page_commit.proofs.KeepLaws.{in_pointers, kept_cases, kept_new, kept_old, kept_once}
use Rattle.page_commit.proofs.PointerLaws.{has_pointer, pointer_word}
use Rattle.page_commit.proofs.WalkedLaws.{held_to, inside_only, live_grown, met_only, pointers_push}
use Rattle.tree_calls.specs.Keeping.{HasValue}
use Rattle.tree_calls.proofs.TreeWalkLaws.{beside_trees, tree_headers, tree_knows_more, tree_points, tree_walked}
use Rattle.tree_calls.proofs.WalkedLaws.{ways_on}

-- two lists of keys that say the same at each place are the same
same_keys : (xs ys : List Key) → length xs ≡ length ys
    → ((i : ℕ) (a b : Key) → slice_get xs i ≡ Some a → slice_get ys i ≡ Some b → a ≡ b) → xs ≡ ys
same_keys [] [] long same = refl
same_keys [] (y ∷ ys) long same = absurd (omega (arith, long))
same_keys (x ∷ xs) [] long same = absurd (omega (arith, long))
same_keys (x ∷ xs) (y ∷ ys) long same =
    ap (λ (z : Key). z ∷ xs) (same 0 x y refl refl)
    ∙ ap (λ (l : List Key). y ∷ l) (same_keys xs ys (omega (arith, long)) (λ i a b. same (suc i) a b))

-- two parts of one header's word are one part, where both have the same word
pub one_part : (v : View) (h i : Seen) (p q : Part) → TreesAgree v → IsMetHeader (ground v) h p → IsMetHeader (ground v) i q
    → h ≡ i → p ≡ q
one_part v h i p q trees a b same =
    let slot : slot_of v.layout.slots h.at ≡ slot_of v.layout.slots i.at =
    ap (λ (z : Seen). slot_of v.layout.slots z.at) same in
    let one : Way = record { slot = slot_of v.layout.slots h.at; span = a.span } in
    let two : Way = record { slot = slot_of v.layout.slots i.at; span = b.span } in
    let span : a.span ≡ b.span = trees.spans one two a.has b.has slot a.tree in
    let first : Known = record { slot = slot_of v.layout.slots h.at; keys = a.keys } in
    let second : Known = record { slot = slot_of v.layout.slots i.at; keys = b.keys } in
    let word : open_word (length a.keys) ≡ open_word (length b.keys) = sym a.word ∙ (ap (λ (z : Seen). z.word) same ∙ b.word) in
    let keys : a.keys ≡ b.keys =
    same_keys a.keys b.keys (omega (arith, word)) (λ j x y hx hy. trees.known first second a.knows b.knows slot j x y hx hy) in
    a.is
    ∙ (ap (λ (t : ℕ). head_part t a.span a.keys) slot
    ∙ (ap (λ (s : Span). head_part (slot_of v.layout.slots i.at) s a.keys) span
    ∙ (ap (λ (l : List Key). head_part (slot_of v.layout.slots i.at) b.span l) keys ∙ sym b.is)))

seen_is : (a b : Seen) → a.at ≡ b.at → a.word ≡ b.word → a ≡ b
seen_is a b at word =
    ap (λ (n : ℕ). let z : Seen = record { at = n; word = a.word } in z) at
    ∙ ap (λ (n : ℕ). let z : Seen = record { at = b.at; word = n } in z) word

some_is : (a c : ℕ) → Some a ≡ Some c → a ≡ c
some_is a c same = cc

-- ---- the parts with that of one header more

module _ (sets new : Sets) (v w : View) (h : Seen) (part : Part) (are : AreDecls v.layout.decls) (agree : WaysAgree w.ways) (trees : TreesAgree w)
    (more : KnowsMore v w) (parts : AreParts sets v v.seat.kept) (once : AreDistinct (places_of sets.headers))
    (met : IsMetHeader (ground w) h part) (meets : MeetsPointer h sets.headers new.headers) where
  pub same_head : (q : Seen) → Contains sets.headers q → q.at ≡ h.at → q ≡ h
  same_head q has at = by_side meets
    where
      is_found : word_at h.at sets.headers ≡ Some q.word
      is_found = ap (λ (n : ℕ). word_at n sets.headers) (sym at) ∙ pointer_word sets.headers q once has

      by_side : MeetsPointer h sets.headers new.headers → q ≡ h
      by_side (inl m) = seen_is q h at (some_is q.word h.word (sym is_found ∙ m.0))
      by_side (inr m) = let no : None ≡ Some q.word = sym m.0 ∙ is_found in absurd (cc)

  pub head_has : Contains new.headers h
  head_has = by_side meets
    where
      by_side : MeetsPointer h sets.headers new.headers → Contains new.headers h
      by_side (inl m) = subst (λ (l : List Seen). Contains l h) (sym m.1) (in_pointers sets.headers h m.0)
      by_side (inr m) = subst (λ (l : List Seen). Contains l h) (sym m.1) (in_push_new h sets.headers)

  pub head_old : (q : Seen) → Contains sets.headers q → Contains new.headers q
  head_old q has = by_side meets
    where
      by_side : MeetsPointer h sets.headers new.headers → Contains new.headers q
      by_side (inl m) = subst (λ (l : List Seen). Contains l q) (sym m.1) has
      by_side (inr m) = subst (λ (l : List Seen). Contains l q) (sym m.1) (in_push_old q h sets.headers has)

  pub head_cases : (q : Seen) → Contains new.headers q → Contains sets.headers q ⊎ (h ≡ q)
  head_cases q has = by_side meets
    where
      by_side : MeetsPointer h sets.headers new.headers → Contains sets.headers q ⊎ (h ≡ q)
      by_side (inl m) = inl (subst (λ (l : List Seen). Contains l q) m.1 has)
      by_side (inr m) = in_push_cases q h sets.headers (subst (λ (l : List Seen). Contains l q) m.1 has)

  -- the part of another header is of another word
  head_apart : (q : Seen) (old : Part) → IsMetHeader (ground w) q old → (q.at ≡ h.at → ⊥)
      → same_word old.word part.word ≡ false
  head_apart q old m other =
      let slots = w.layout.slots in
      let miss : (slot_of slots q.at == slot_of slots h.at) ≡ false =
      false_from_ne_true (slot_of slots q.at == slot_of slots h.at) (λ test.
      other (one_head (ground w) q h old part m met (eqb-true (slot_of slots q.at) (slot_of slots h.at) test))) in
      ap (λ (z : Part). same_word z.word part.word) m.is
      ∙ (ap (λ (z : Part). same_word (Header (slot_of slots q.at)) z.word) met.is ∙ miss)

  -- so is that of an entry
  entry_other : (f : ReadEntry) (old : Part) → IsReadPart (ground w) f old → same_word old.word part.word ≡ false
  entry_other f old r =
      ap (λ (z : Part). same_word z.word part.word) r.is
      ∙ ap (λ (z : Part). same_word (Record (spot_for w.layout f.key f.at)) z.word) met.is

  -- and that of a pointer
  pointer_other : (p : Seen) (old : Part) → IsMetPointer w p old → same_word old.word part.word ≡ false
  pointer_other p old r =
      ap (λ (z : Word). same_word z part.word) (r.of).word
      ∙ ap (λ (z : Part). same_word (Pointer (pointer_for (ground w) p.at)) z.word) met.is

  pub head_parts : new.reads ≡ sets.reads → new.pointers ≡ sets.pointers → w.seat.kept ≡ with_part v.seat.kept part
      → AreParts new w w.seat.kept
  head_parts reads pointers kept = subst (AreParts new w) (sym kept) record {
    known = λ q has. by_case q (kept_cases v.seat.kept part q has);
    reads = λ f has.
        let r = parts.reads f (subst (λ (l : List ReadEntry). Contains l f) reads has) in
        let now = read_grown v w f r.0 more r.2 in
        (r.0, kept_old v.seat.kept part r.0 r.1 (entry_other f r.0 now), now);
    pointers = λ p has.
        let r = parts.pointers p (subst (λ (l : List Seen). Contains l p) pointers has) in
        let now = met_pointer_grown v w p r.0 are agree more r.2 in
        (r.0, kept_old v.seat.kept part r.0 r.1 (pointer_other p r.0 now), now);
    headers = λ q has. by_header q (head_cases q has);
    once = kept_once v.seat.kept part parts.once;
  }
    where
      by_known : (q : Part) → ((f : ReadEntry) × Contains sets.reads f × IsReadPart (ground v) f q)
          ⊎ (((s : Seen) × Contains sets.pointers s × IsMetPointer v s q)
          ⊎ ((i : Seen) × Contains sets.headers i × IsMetHeader (ground v) i q))
          → ((f : ReadEntry) × Contains new.reads f × IsReadPart (ground w) f q)
          ⊎ (((s : Seen) × Contains new.pointers s × IsMetPointer w s q)
          ⊎ ((i : Seen) × Contains new.headers i × IsMetHeader (ground w) i q))
      by_known q (inl r) = inl (
        r.0,
        subst (λ (l : List ReadEntry). Contains l r.0) (sym reads) r.1,
        read_grown v w r.0 q more r.2,
      )
      by_known q (inr (inl r)) = inr (inl (
        r.0,
        subst (λ (l : List Seen). Contains l r.0) (sym pointers) r.1,
        met_pointer_grown v w r.0 q are agree more r.2,
      ))
      by_known q (inr (inr r)) = inr (inr (r.0, head_old r.0 r.1, header_grown v w r.0 q more r.2))

      by_case : (q : Part) → (Contains v.seat.kept q × (same_word q.word part.word ≡ false)) ⊎ (part ≡ q)
          → ((f : ReadEntry) × Contains new.reads f × IsReadPart (ground w) f q)
          ⊎ (((s : Seen) × Contains new.pointers s × IsMetPointer w s q)
          ⊎ ((i : Seen) × Contains new.headers i × IsMetHeader (ground w) i q))
      by_case q (inl old) = by_known q (parts.known q old.0)
      by_case q (inr is) = inr (inr (h, head_has, subst (IsMetHeader (ground w) h) is met))

      by_header : (q : Seen) → Contains sets.headers q ⊎ (h ≡ q)
          → (x : Part) × Contains (with_part v.seat.kept part) x × IsMetHeader (ground w) q x
      by_header q (inr is) =
          (part, kept_new v.seat.kept part, subst (λ (z : Seen). IsMetHeader (ground w) z part) is met)
      by_header q (inl old) = by_test (q.at == h.at) refl
        where
          by_test : (b : Bool) → (q.at == h.at) ≡ b
              → (x : Part) × Contains (with_part v.seat.kept part) x × IsMetHeader (ground w) q x
          by_test true hit = (
            part,
            kept_new v.seat.kept part,
            subst (λ (z : Seen). IsMetHeader (ground w) z part) (sym (same_head q old (eqb-true q.at h.at hit))) met,
          )
          by_test false miss =
              let r = parts.headers q old in
              let now = header_grown v w q r.0 more r.2 in (
                r.0,
                kept_old v.seat.kept part r.0 r.1
                    (head_apart q r.0 now (λ same. true≢false (sym (eq-eqb q.at h.at same) ∙ miss))),
                now,
              )

  -- what its part had before, it has still
  pub head_stays : w.seat.kept ≡ with_part v.seat.kept part → PartsStay v.seat.kept w.seat.kept
  head_stays kept = subst (PartsStay v.seat.kept) (sym kept) stay
    where
      by_known : (k : Key) (value : Option ℕ) (x : Vouched v.seat.kept k value)
          → ((f : ReadEntry) × Contains sets.reads f × IsReadPart (ground v) f x.part)
          ⊎ (((s : Seen) × Contains sets.pointers s × IsMetPointer v s x.part)
          ⊎ ((i : Seen) × Contains sets.headers i × IsMetHeader (ground v) i x.part))
          → Vouched (with_part v.seat.kept part) k value
      by_known k value x (inl r) = record {
        part = x.part;
        among = kept_old v.seat.kept part x.part x.among (entry_other r.0 x.part (read_grown v w r.0 x.part more r.2));
        over = x.over;
        has = x.has;
      }
      by_known k value x (inr (inl r)) = record {
        part = x.part;
        among = kept_old v.seat.kept part x.part x.among
            (pointer_other r.0 x.part (met_pointer_grown v w r.0 x.part are agree more r.2));
        over = x.over;
        has = x.has;
      }
      by_known k value x (inr (inr r)) = by_test (r.0.at == h.at) refl
        where
          by_test : (b : Bool) → (r.0.at == h.at) ≡ b → Vouched (with_part v.seat.kept part) k value
          by_test true hit =
              let same : x.part ≡ part =
              one_part w r.0 h x.part part trees (header_grown v w r.0 x.part more r.2) met
              (same_head r.0 r.1 (eqb-true r.0.at h.at hit)) in
              record {
                part = part;
                among = kept_new v.seat.kept part;
                over = subst (λ (z : Part). covers z k ≡ true) same x.over;
                has = subst (λ (z : Part). (found z k).value ≡ value) same x.has;
              }
          by_test false miss = record {
            part = x.part;
            among = kept_old v.seat.kept part x.part x.among
                (head_apart r.0 x.part (header_grown v w r.0 x.part more r.2)
                (λ same. true≢false (sym (eq-eqb r.0.at h.at same) ∙ miss)));
            over = x.over;
            has = x.has;
          }

      stay : PartsStay v.seat.kept (with_part v.seat.kept part)
      stay k value x = by_known k value x (parts.known x.part x.among)

-- a header's word is no pointer's
pub no_head_word : (w : View) (t : ℕ) (sp tp : Span) (at : ℕ) → WaysAgree w.ways → AreDecls w.layout.decls
    → Contains w.ways (record { slot = t; span = sp }) → is_tree w.layout.decls sp.storage ≡ true
    → at ≡ page_at w.layout.slots t 0 → IsPointerIn (ground w) tp at → ⊥
no_head_word w t sp tp at agree are has tree word (inl r) =
    let few = r.few in
    let is : at ≡ 10 + r.root = r.word in
    let place : at ≡ ((32 + w.layout.slots) + 64 * t) + 0 = word in absurd (omega (arith, few, is, place))
no_head_word w t sp tp at agree are has tree word (inr (inl c)) =
    let place : at ≡ ((32 + w.layout.slots) + 64 * t) + 0 = word in
    let slot : (at - (32 + w.layout.slots)) / 64 ≡ t = omega (arith, place) in
    let way : Way = record { slot = t; span = sp } in
    let same = agree c.way way c.has has (c.slot ∙ slot) in
    one_kind _ c.kind (ap (λ (i : ℕ). is_tree w.layout.decls i) same.0 ∙ tree)
no_head_word w t sp tp at agree are has tree word (inr (inr b)) =
    let place : at ≡ ((32 + w.layout.slots) + 64 * t) + 0 = word in
    let behind : 4 ≤ (at - (32 + w.layout.slots)) % 64 = b.behind in absurd (omega (arith, place, behind))

-- ---- the transaction

-- the part that was kept is that of the header
pub absent_met : (k : Key) (headers : List Seen) (at word : ℕ) (v w : View) → (f : IsAbsentIn k headers at word v w)
    → IsMetHeader (ground w) (record { at = at; word = word }) (head_part f.slot f.span f.keys)
absent_met k headers at word v w f =
    let place : at ≡ ((32 + w.layout.slots) + 64 * f.slot) + 0 = f.place in
    let slot : (at - (32 + w.layout.slots)) / 64 ≡ f.slot = omega (arith, place) in record {
      span = f.span;
      keys = f.keys;
      has = subst (λ (t : ℕ). Contains w.ways (record { slot = t; span = f.span })) (sym slot) (f.on).way;
      tree = (f.on).tree;
      there = subst (λ (t : ℕ). t < w.layout.slots) (sym slot) (f.on).there;
      place = f.place ∙ ap (λ (t : ℕ). page_at w.layout.slots t 0) (sym slot);
      knows = subst (λ (t : ℕ). Contains w.known (record { slot = t; keys = f.keys })) (sym slot) f.knows;
      few = f.few;
      word = f.is;
      is = ap (λ (t : ℕ). head_part t f.span f.keys) (sym slot);
    }

module _ (sets new : Sets) (v w : View) (k : Key) (at word : ℕ) (live : IsLive sets v) (walk : HasWalked v w)
    (can : CanWalk new.holds w) (only : OnlyTrees v w) (keeps : KeepsMet sets.pointers sets.headers v w)
    (f : IsAbsentIn k sets.headers at word v w) (reads : new.reads ≡ sets.reads) (pointers : new.pointers ≡ sets.pointers)
    (meets : MeetsPointer (record { at = at; word = word }) sets.headers new.headers)
    (writes : new.writes ≡ sets.writes) (room : length new.reads + length new.headers ≤ 256) where
  abbrev h : Seen
  h = record { at = at; word = word }

  abbrev part : Part
  part = head_part f.slot f.span f.keys

  more : KnowsMore v w
  more = tree_knows_more v w walk

  met : IsMetHeader (ground w) h part
  met = absent_met k sets.headers at word v w f

  cases : (q : Seen) → Contains new.headers q → Contains sets.headers q ⊎ (h ≡ q)
  cases q has =
      head_cases sets new v w h part live.decls can.agree can.trees more live.parts (live.headers).once met meets q has

  once_heads : AreDistinct (places_of new.headers)
  once_heads = by_side meets
    where
      by_side : MeetsPointer h sets.headers new.headers → AreDistinct (places_of new.headers)
      by_side (inl m) = subst (λ (l : List Seen). AreDistinct (places_of l)) (sym m.1) (live.headers).once
      by_side (inr m) =
          subst (λ (l : List Seen). AreDistinct (places_of l)) (sym m.1)
          (pointers_push sets.headers h (live.headers).once (λ q has same.
          let there : word_at at sets.headers ≡ Some q.word =
          ap (λ (n : ℕ). word_at n sets.headers) (sym same) ∙ pointer_word sets.headers q (live.headers).once has in
          let no : None ≡ Some q.word = sym m.0 ∙ there in absurd (cc)))

  kept_other : (q : Seen) → Contains sets.headers q → kept_at w.reads q.at ≡ Some q.word
  kept_other q has = by_test (q.at == at) refl
    where
      by_test : (b : Bool) → (q.at == at) ≡ b → kept_at w.reads q.at ≡ Some q.word
      by_test true hit =
          subst (λ (z : Seen). kept_at w.reads z.at ≡ Some z.word)
          (sym (same_head sets new v w h part live.decls can.agree can.trees more live.parts (live.headers).once met meets q has
          (eqb-true q.at at hit))) f.word_kept
      by_test false miss =
          f.words q.at (λ same. true≢false (sym (eq-eqb q.at at same) ∙ miss)) ∙ (live.headers).kept q has

  heads_now : AreHeaders new.headers w
  heads_now = record {
    once = once_heads;
    met = λ q has. elim (cases q has) [
      | inl old ↦ tree_headers sets v w live keeps q old
      | inr same ↦ subst (λ (z : Seen). seen_at w.reads z.at ≡ Some z.word) same f.met
    ];
    kept = λ q has. elim (cases q has) [
      | inl old ↦ kept_other q old
      | inr same ↦ subst (λ (z : Seen). kept_at w.reads z.at ≡ Some z.word) same f.word_kept
    ];
  }

  -- a pointer of the set is another word
  point_other : (p : Seen) → Contains sets.pointers p → p.at ≡ at → ⊥
  point_other p has same =
      let r = (live.parts).pointers p has in
      let now = met_pointer_grown v w p r.0 live.decls can.agree more r.2 in
      no_head_pointer (ground w) h part now.span can.agree met
      (subst (λ (n : ℕ). IsPointerIn (ground w) now.span n) same now.place)

  kept_points : ArePointersKept sets.pointers w
  kept_points p has = f.words p.at (λ same. point_other p has same) ∙ live.kept p has

  only_heads : KeepsOnly new w
  only_heads a n is = by_test (a == at) refl
    where
      old_word : has_word a sets.headers ≡ true → has_word a new.headers ≡ true
      old_word has =
          let q = any_is (λ (s : Seen). s.at == a) sets.headers has in
          subst (λ (m : ℕ). has_word m new.headers ≡ true) (eqb-true q.0.at a q.2)
          (has_pointer new.headers q.0
          (head_old sets new v w h part live.decls can.agree can.trees more live.parts (live.headers).once met meets q.0 q.1))

      by_test : (b : Bool) → (a == at) ≡ b → (has_word a new.pointers ≡ true) ⊎ (has_word a new.headers ≡ true)
      by_test true hit =
          inr (subst (λ (m : ℕ). has_word m new.headers ≡ true) (sym (eqb-true a at hit))
          (has_pointer new.headers h
          (head_has sets new v w h part live.decls can.agree can.trees more live.parts (live.headers).once met meets)))
      by_test false miss =
          elim (live.only a n (sym (f.words a (λ same. true≢false (sym (eq-eqb a at same) ∙ miss))) ∙ is)) [
            | inl p ↦ inl (subst (λ (l : List Seen). has_word a l ≡ true) (sym pointers) p)
            | inr head ↦ inr (old_word head)
          ]

  pub live_header : IsLive new w
  live_header = live_grown sets new v w live (tree_walked v w walk) more can record {
    parts = head_parts sets new v w h part live.decls can.agree can.trees more live.parts (live.headers).once met meets reads pointers
        f.kept;
    places = subst (λ (l : List ReadEntry). AreDistinct (entry_places l)) (sym reads) live.places;
    once = subst (λ (l : List Seen). AreDistinct (places_of l)) (sym pointers) live.once;
    writes = writes;
    met = subst (λ (l : List ReadEntry). AreMet l [] w) (sym reads)
        (met_only sets v w live more can.agree can.trees can.declared (beside_trees v w can.declared only));
    points = subst (λ (l : List Seen). ArePointersMet l w) (sym pointers) (tree_points sets v w live keeps);
    kept = subst (λ (l : List Seen). ArePointersKept l w) (sym pointers) kept_points;
    headers = heads_now;
    only = only_heads;
    inside = inside_only sets v w live more can.declared (beside_trees v w can.declared only);
    room = room;
  }

  -- the header is on the way to the key
  head_over : IsHeaderOver w k at
  head_over =
      let place : at ≡ ((32 + w.layout.slots) + 64 * f.slot) + 0 = f.place in
      let slot : (at - (32 + w.layout.slots)) / 64 ≡ f.slot = omega (arith, place) in record {
        way = record { slot = f.slot; span = f.span };
        has = (f.on).way;
        slot = sym slot;
        tree = subst (λ (i : ℕ). is_tree w.layout.decls i ≡ true)
            (sym (in_span-parts f.span k (f.on).over).0) (f.on).tree;
        over = (f.on).over;
        word = f.place;
      }

  pub value_header : OnlyWaysOn k v w → AreLedTo k v w → HasValue k None sets new v w
  value_header paths led = record {
    live = live_header;
    only = tree_walked v w walk;
    paths = ways_on k v w paths;
    held = held_to k sets.holds new.holds v w live.holds can.holds led;
    keeps = head_stays sets new v w h part live.decls can.agree can.trees more live.parts (live.headers).once met meets f.kept;
    touched = ap (λ (y : View). y.touched) walk.is;
    reads = inl reads;
    pointers = inl pointers;
    headers = elim meets [ inl m ↦ inl m.1 | inr m ↦ inr (h, m.1, head_over) ];
    writes = writes;
    vouched = record {
      part = part;
      among = subst (λ (l : List Part). Contains l part) (sym f.kept) (kept_new v.seat.kept part);
      over = f.covered;
      has = none_found;
    };
  }
    where
      none_found : (found part k).value ≡ None
      none_found = elim (f.last k f.covered) [
        | inl same ↦ ap (λ (c : Content). c.value) same ∙ f.absent
        | inr both ↦ both.0
      ]
