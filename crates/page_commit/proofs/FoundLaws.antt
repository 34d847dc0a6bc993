-- A read of a key that was not met before: what was found, the sets with it, and the value.
use Rattle.std.proofs.Common.{◌≡◌, ◌⊎◌, inl, inr, ℕ, ◌+◌, ◌<◌, ◌≤◌, Bool, true, false, true≢false, List, [], ◌∷◌, ◌++◌, length}
use Rattle.std.proofs.Common.{refl, sym, ap, ◌∙◌, subst, cond, Option, Some, None, arith}
use Rattle.std.specs.Prelude.{Contains, unwrap_or, ◌==◌, ◌||◌, not, Result, Ok, Err, OnOk, IsOk, is_some}
use Rattle.std.specs.List.{find}
use Rattle.std.proofs.lemmas.Bool.{and_from, cases_Bool, eqb-true, eq-eqb, or_parts}
use Rattle.std.proofs.lemmas.Bool.Decides.{nat_tests}
use Rattle.lists.specs.Each.{AreDistinct}
use Rattle.lists.specs.Elements.{any_is, in_head, in_tail}
use Rattle.serial_model.specs.declared.key.Key.{Key}
use Rattle.serial_model.specs.Decls.{AreDecls}
use Rattle.homes.specs.declared.places.Content.{Content}
use Rattle.homes.specs.declared.places.Spot.{Spot}
use Rattle.homes.specs.Homes.{in_span, same_key}
use Rattle.homes.specs.Laws.{in_span-from, in_span-parts, same_key-self, same_key-true}
use Rattle.wire_form.specs.Words.{number_in}
use Rattle.commit_core.specs.declared.part.Part.{Part}
use Rattle.commit_core.specs.Keys.{nothing}
use Rattle.commit_core.specs.Parts.{covers, found, only, record_part, with_part}
use Rattle.serial_bridge.specs.Transaction.{Vouched}
use Rattle.tx_sets.specs.declared.reads.ReadEntry.{ReadEntry}
use Rattle.tx_sets.specs.declared.seen.Seen.{Seen}
use Rattle.tx_sets.specs.declared.sets.Sets.{Sets}
use Rattle.tx_sets.specs.Entries.{has_read, has_word, has_write, places_of, read_of, word_at, IsPushed}
use Rattle.tx_sets.specs.Gathered.{has_read_room}
use Rattle.engine_pages.specs.declared.layout.Layout.{Layout}
use Rattle.engine_pages.specs.declared.view.RefusalCause.TheVariants as refusals
use Rattle.engine_pages.specs.declared.view.SetName.TheVariants.{Reads}
use Rattle.engine_pages.specs.declared.view.View.{View}
use Rattle.engine_pages.specs.Pages.{is_array}
use Rattle.engine_pages.specs.Steps.{kept_at, seen_at}
use Rattle.dual_pointer.specs.Parts.{IsPointerPart}
use Rattle.array_pages.specs.declared.finding.Found.{Found}
use Rattle.array_pages.specs.declared.finding.Found.TheVariants as places
use Rattle.array_pages.specs.Finding.{IsFound, IsFoundBelow, IsFoundIn}
use Rattle.array_pages.specs.Spans.{IsArrayKey}
use Rattle.array_pages.specs.Walks.{AreLedTo, CanWalk, HasWalked, IsWayPlace, KeepsMet, MeetsSo, OnlyWaysTo}
use Rattle.array_pages.proofs.WalkLaws.{walked_self}
use Rattle.page_commit.specs.Places.{ground, spot_for, IsKeyAt, IsPointerIn}
use Rattle.page_records.specs.Locks.{array_absence}
use Rattle.page_commit.proofs.AnyPlaces.{array_spot}
use Rattle.page_commit.proofs.PlaceLaws.{key_array}
use Rattle.page_commit.specs.Live.{ArePointersKept, ArePointersMet, IsLive, IsMetPointer, IsReadPart, IsWordOf, KeepsOnly}
use Rattle.page_commit.specs.Calls.{RefusesRead}
use Rattle.page_commit.specs.HeaderParts.{AreHeaders}
use Rattle.page_commit.specs.Steps.{HasGivenUp}
use Rattle.page_commit.proofs.DueLaws.{entry_cause, Walked}
use Rattle.page_commit.specs.Keeping.{lacks_entry, HasRoomFor, HasValue, KeepsFound, MeetsFound, MeetsPointer}
use Rattle.page_commit.specs.Turning.{OnlyWalked}
use Rattle.page_commit.proofs.GrowLaws.{key_grown, key_here, knows_more, no_entry, place_of_word, pointer_here, spot_of_word}
use Rattle.page_commit.proofs.KeepLaws.{entry_parts, entry_stays, kept_new, pointer_cases, pointer_has, pointer_old}
use Rattle.page_commit.proofs.KeepLaws.{pointer_parts, pointer_stays}
use Rattle.page_commit.proofs.KeepLaws.{same_pointer}
use Rattle.page_commit.proofs.WalkedLaws.{held_same, held_to, inside_entry, inside_only, kept_walked, live_walked}
use Rattle.page_commit.proofs.WalkedLaws.{headers_beside, headers_walked, met_entry, met_only}
use Rattle.page_commit.proofs.HeaderLaws.{header_grown, no_head_pointer}
use Rattle.page_commit.proofs.RoomLaws.{room_entry, room_same}
use Rattle.page_commit.proofs.WalkedLaws.{beside_arrays, beside_but}
use Rattle.page_commit.proofs.BelowLaws.{below_array}
use Rattle.page_commit.proofs.WalkedLaws.{only_walked, only_walked_same, places_push, pointers_push, points_beside}
use Rattle.page_commit.proofs.WalkedLaws.{points_walked}

-- ---- keys that were read, or not

pub unread : (k : Key) (es : List ReadEntry) → has_read k es ≡ false → read_of k es ≡ None
unread k [] none = refl
unread k (e ∷ es) none =
    let parts = or_parts (same_key e.key k) (has_read k es) none in
    ap (λ b. cond b (Some e) (read_of k es)) parts.0 ∙ unread k es parts.1

pub not_read : (k : Key) (es : List ReadEntry) → read_of k es ≡ None → has_read k es ≡ false
not_read k [] none = refl
not_read k (e ∷ es) none =
    elim (cases_Bool (same_key e.key k)) [
      | inl hit ↦ absurd (some_none e (sym (ap (λ b. cond b (Some e) (read_of k es)) hit) ∙ none))
      | inr miss ↦ rw miss (not_read k es (sym (ap (λ b. cond b (Some e) (read_of k es)) miss) ∙ none))
    ]
  where
    some_none : (a : ReadEntry) → Some a ≡ None → ⊥
    some_none a same = absurd cc

-- the entry of a key is in the set
pub read_entry : (k : Key) (es : List ReadEntry) (e : ReadEntry) → read_of k es ≡ Some e → Contains es e × (e.key ≡ k)
read_entry k [] e is = absurd cc
read_entry k (f ∷ es) e is = by_test (same_key f.key k) refl is (read_entry k es e)
  where
    some_is : (a b : ReadEntry) → Some a ≡ Some b → a ≡ b
    some_is a b same = cc

    by_test : (b : Bool) → same_key f.key k ≡ b → read_of k (f ∷ es) ≡ Some e
        → (read_of k es ≡ Some e → Contains es e × (e.key ≡ k)) → Contains (f ∷ es) e × (e.key ≡ k)
    by_test true hit is rest =
        let same : f ≡ e = some_is f e (sym (ap (λ b. cond b (Some f) (read_of k es)) hit) ∙ is) in (
          subst (λ (z : ReadEntry). Contains (f ∷ es) z) same (in_head f es),
          ap (λ (z : ReadEntry). z.key) (sym same) ∙ same_key-true f.key k hit,
        )
    by_test false miss is rest =
        let r = rest (sym (ap (λ b. cond b (Some f) (read_of k es)) miss) ∙ is) in (in_tail e f es r.0, r.1)

-- ---- what the part of a record has

covers_own : (k : Key) (x : Spot) (c : Content) → covers (record_part k x c) k ≡ true
covers_own k x c =
    and_from (in_span (only k) k) true (in_span-from (only k) k refl (omega arith) (omega arith)) refl

found_own : (k : Key) (x : Spot) (c : Content) → (found (record_part k x c) k).value ≡ c.value
found_own k x c = ap (λ b. (cond b c nothing).value) (same_key-self k)

pub by_record : (ps : List Part) (k : Key) (x : Spot) (c : Content) → Contains ps (record_part k x c) → Vouched ps k c.value
by_record ps k x c among = record {
  part = record_part k x c;
  among = among;
  over = covers_own k x c;
  has = found_own k x c;
}

-- ---- a key that was read before

-- nothing was walked
pub nothing_walked : (v : View) → OnlyWalked v v
nothing_walked v = only_walked v v (walked_self v)

pub value_again : (sets : Sets) (v : View) (k : Key) (e : ReadEntry) → IsLive sets v → read_of k sets.reads ≡ Some e
    → HasValue k e.value sets sets v v
value_again sets v k e live is = record {
  live = live;
  only = nothing_walked v;
  paths = λ x has. inl has;
  held = held_same k sets.holds sets.holds v refl;
  again = λ x of. same x (sym is ∙ of);
  anew = λ none. absurd (none_some (sym none ∙ is));
  places = λ q a p. p;
  keeps = λ q value had. had;
  reads = inl refl;
  pointers = inl refl;
  writes = refl;
  headers = refl;
  touched = refl;
  content = part.2.content.value;
  value_is = part.2.value;
  vouched = subst (λ (q : Key). Vouched v.seat.kept q part.2.content.value) there.1
      (by_record v.seat.kept e.key (spot_for v.layout e.key e.at) part.2.content
      (subst (λ (q : Part). Contains v.seat.kept q) part.2.is part.1));
}
  where
    there : Contains sets.reads e × (e.key ≡ k)
    there = read_entry k sets.reads e is

    part : (q : Part) × Contains v.seat.kept q × IsReadPart (ground v) e q
    part = live.parts.reads e there.0

    same : (x : ReadEntry) → Some e ≡ Some x → e.value ≡ x.value
    same x both = let one : e ≡ x = cc in ap (λ (z : ReadEntry). z.value) one

    none_some : None ≡ Some e → ⊥
    none_some both = cc

-- ---- a record in a page in memory

module _ (sets new : Sets) (v w : View) (k : Key) (at word value : ℕ) (live : IsLive sets v) (walk : HasWalked v w)
    (can : CanWalk new.holds w) (paths : OnlyWaysTo k v w) (led : AreLedTo k v w) (keeps : KeepsMet sets.pointers v w)
    (f : IsFoundIn k at word value v w)
    (none : has_read k sets.reads ≡ false)
    (reads : new.reads ≡ sets.reads ++ record { key = k; at = at; word = word; value = value } ∷ [])
    (pointers : new.pointers ≡ sets.pointers) (writes : new.writes ≡ sets.writes)
    (headers : new.headers ≡ sets.headers) (room : length new.reads + length new.headers ≤ 256) where
  abbrev e : ReadEntry
  e = record { key = k; at = at; word = word; value = value }

  place : IsKeyAt w k at
  place = key_here w k f.spot at f.place

  other : (x : ReadEntry) → Contains sets.reads x → x.at ≡ at → ⊥
  other = no_entry sets v w k at live (knows_more v w walk) can.agree place none

  part_is : w.seat.kept ≡ with_part v.seat.kept (record_part k (spot_for w.layout k at) f.content)
  part_is =
      f.kept
      ∙ ap (λ (x : Spot). with_part v.seat.kept (record_part k x f.content))
      (spot_of_word w k f.spot at f.place ∙ sym (array_spot (ground w) k at place))

  -- the word of an array has no bit of absence
  shown_of : IsWordOf w.layout.decls k f.content word
  shown_of = record {
    small = f.shown.small;
    number =
        let number = f.shown.number in
        let none = array_absence w.layout.decls k f.content.value (key_array (ground w) k at place) in
        omega (arith, number, none);
  }

  pub live_entry : IsLive new w
  live_entry = live_walked sets new v w live walk can record {
    parts = entry_parts sets new v w e f.content live.decls can.agree (knows_more v w walk) live.parts (inl place) other
        shown_of f.has reads pointers headers part_is;
    places = subst (λ (l : List ReadEntry). AreDistinct (Rattle.page_commit.specs.Live.entry_places l)) (sym reads)
        (places_push sets.reads e live.places other);
    once = subst (λ (l : List Seen). AreDistinct (places_of l)) (sym pointers) live.once;
    writes = writes;
    met = subst (λ (l : List ReadEntry). Rattle.page_commit.specs.Live.AreMet l [] w) (sym reads)
        (met_entry sets v w e live (knows_more v w walk) can.agree can.trees can.declared (inl place) other f.met
        (beside_but at v w f.others));
    points = subst (λ (l : List Seen). ArePointersMet l w) (sym pointers) (points_beside sets v w k at live
        (knows_more v w walk) can.agree can.declared place f.others keeps);
    kept = subst (λ (l : List Seen). ArePointersKept l w) (sym pointers) (kept_walked sets v w live f.words);
    headers = subst (λ (l : List Seen). AreHeaders l w) (sym headers)
        (headers_beside sets v w k at live (knows_more v w walk) can.agree can.declared place f.others f.words);
    only = only_walked_same sets new v w live f.words pointers headers;
    inside = inside_entry sets v w e live (knows_more v w walk) can.agree can.trees can.declared (inl place) other f.met
        (beside_but at v w f.others);
    room = room;
  }

  pub value_in : HasValue k value sets new v w
  value_in = record {
    live = live_entry;
    only = only_walked v w walk;
    paths = paths;
    held = held_to k sets.holds new.holds v w live.holds can.holds led;
    again = λ x of. absurd (none_some x (sym (unread k sets.reads none) ∙ of));
    anew = λ fresh. f.has ∙ ap (λ (c : Content). unwrap_or c.value 0) f.last;
    places = λ q a p. key_grown v w q a (knows_more v w walk) p;
    keeps = entry_stays sets new v w e f.content live.decls can.agree (knows_more v w walk) live.parts (inl place) other
        part_is;
    reads = inr (e, refl, reads);
    pointers = inl pointers;
    writes = writes;
    headers = headers;
    touched = ap (λ (y : View). y.touched) walk.is;
    content = f.content.value;
    value_is = f.has;
    vouched = by_record w.seat.kept k (spot_for w.layout k at) f.content
        (subst (λ (l : List Part). Contains l (record_part k (spot_for w.layout k at) f.content)) (sym part_is)
        (kept_new v.seat.kept (record_part k (spot_for w.layout k at) f.content)));
  }
    where
      none_some : (x : ReadEntry) → None ≡ Some x → ⊥
      none_some x same = absurd cc

-- ---- or below a pointer

-- what was found there is the part of a pointer that was met
pub below_met : (k : Key) (c : Content) (pointers : List Seen) (p : Seen) (v w : View) → AreDecls w.layout.decls
    → IsArrayKey w.layout.decls k → (f : IsFoundBelow k c pointers p v w) → IsMetPointer w p f.part
below_met k c pointers p v w are fits f = record {
  span = f.span;
  place = pointer_here w f.place f.span p.at are f.is;
  within = f.within;
  bare = f.bare;
  of = subst (λ x. IsPointerPart w x f.span p.word f.part) (place_of_word w f.place f.span p.at are f.is) f.of;
  kind = inl array;
  stands = f.stands;
  inside = f.inside;
  all = f.covers_all;
  says = λ q over. f.says q over ∙ sym (below_array w.layout.decls w.pages f.span p.word q array);
}
  where
    array : is_array w.layout.decls f.span.storage ≡ true
    array = ap (λ (i : ℕ). is_array w.layout.decls i) (sym (in_span-parts f.span k f.over).0) ∙ fits.array

module _ (sets new : Sets) (v w : View) (k : Key) (c : Content) (p : Seen) (answer : ℕ) (live : IsLive sets v)
    (walk : HasWalked v w) (can : CanWalk new.holds w) (fits : IsArrayKey w.layout.decls k)
    (paths : OnlyWaysTo k v w) (led : AreLedTo k v w) (keeps : KeepsMet sets.pointers v w)
    (f : IsFoundBelow k c sets.pointers p v w)
    (none : has_read k sets.reads ≡ false) (reads : new.reads ≡ sets.reads) (writes : new.writes ≡ sets.writes)
    (headers : new.headers ≡ sets.headers)
    (meets : MeetsPointer p sets.pointers new.pointers) (is : answer ≡ unwrap_or c.value 0) where
  met : IsMetPointer w p f.part
  met = below_met k c sets.pointers p v w can.declared fits f

  pub once_below : AreDistinct (places_of new.pointers)
  once_below = by_side meets
    where
      by_side : MeetsPointer p sets.pointers new.pointers → AreDistinct (places_of new.pointers)
      by_side (inl m) = subst (λ (l : List Seen). AreDistinct (places_of l)) (sym m.1) live.once
      by_side (inr m) =
          subst (λ (l : List Seen). AreDistinct (places_of l)) (sym m.1)
          (pointers_push sets.pointers p live.once (λ q has at.
          let found : word_at p.at sets.pointers ≡ Some q.word =
          ap (λ (n : ℕ). word_at n sets.pointers) (sym at)
          ∙ Rattle.page_commit.proofs.PointerLaws.pointer_word sets.pointers q live.once has in
          let no : None ≡ Some q.word = sym m.0 ∙ found in absurd (cc)))

  cases : (q : Seen) → Contains new.pointers q → Contains sets.pointers q ⊎ (p ≡ q)
  cases q has = pointer_cases sets new v w p f.part live.decls can.agree can.trees (knows_more v w walk) live.parts live.once met meets
      q has

  pub points_below : ArePointersMet new.pointers w
  points_below q has = elim (cases q has) [
    | inl old ↦ points_walked sets v w live (knows_more v w walk) can.agree can.declared (λ sp x has b. f.others x.at)
        keeps q old
    | inr same ↦ subst (λ (z : Seen). seen_at w.reads z.at ≡ Some z.word) same f.saw
  ]

  pub kept_below : ArePointersKept new.pointers w
  kept_below q has = elim (cases q has) [
    | inl old ↦ by_test q old (q.at == p.at) refl
    | inr same ↦ subst (λ (z : Seen). kept_at w.reads z.at ≡ Some z.word) same f.word_kept
  ]
    where
      by_test : (q : Seen) → Contains sets.pointers q → (b : Bool) → (q.at == p.at) ≡ b
          → kept_at w.reads q.at ≡ Some q.word
      by_test q old true hit =
          subst (λ (z : Seen). kept_at w.reads z.at ≡ Some z.word)
          (sym (same_pointer sets new v w p f.part live.decls can.agree can.trees (knows_more v w walk) live.parts live.once met meets
          q old (eqb-true q.at p.at hit))) f.word_kept
      by_test q old false miss =
          f.words q.at (λ same. true≢false (sym (eq-eqb q.at p.at same) ∙ miss)) ∙ live.kept q old

  -- a header's word is another than the pointer's
  head_other : (h : Seen) → Contains sets.headers h → h.at ≡ p.at → ⊥
  head_other h has same =
      let r = live.parts.headers h has in
      no_head_pointer (ground w) h r.0 met.span can.agree (header_grown v w h r.0 (knows_more v w walk) r.2)
      (subst (λ (n : ℕ). IsPointerIn (ground w) met.span n) (sym same) met.place)

  -- of the words that are kept, one may be new: the pointer's
  only_below : KeepsOnly new w
  only_below a n is = by_test (a == p.at) refl
    where
      new_word : a ≡ p.at → has_word a new.pointers ≡ true
      new_word same =
          subst (λ (m : ℕ). has_word m new.pointers ≡ true) (sym same)
          (Rattle.page_commit.proofs.PointerLaws.has_pointer new.pointers p
          (pointer_has sets new v w p f.part live.decls can.agree can.trees (knows_more v w walk) live.parts live.once met meets))

      old_word : has_word a sets.pointers ≡ true → has_word a new.pointers ≡ true
      old_word has =
          let q = any_is (λ (s : Seen). s.at == a) sets.pointers has in
          subst (λ (m : ℕ). has_word m new.pointers ≡ true) (eqb-true q.0.at a q.2)
          (Rattle.page_commit.proofs.PointerLaws.has_pointer new.pointers q.0
          (pointer_old sets new v w p f.part live.decls can.agree can.trees (knows_more v w walk) live.parts live.once met meets
          q.0 q.1))

      by_test : (b : Bool) → (a == p.at) ≡ b → (has_word a new.pointers ≡ true) ⊎ (has_word a new.headers ≡ true)
      by_test true hit = inl (new_word (eqb-true a p.at hit))
      by_test false miss =
          elim (live.only a n (sym (f.words a (λ same. true≢false (sym (eq-eqb a p.at same) ∙ miss))) ∙ is)) [
            | inl old ↦ inl (old_word old)
            | inr head ↦ inr (subst (λ (l : List Seen). has_word a l ≡ true) (sym headers) head)
          ]

  pub live_below : IsLive new w
  live_below = live_walked sets new v w live walk can record {
    parts = pointer_parts sets new v w p f.part live.decls can.agree can.trees (knows_more v w walk) live.parts live.once met meets
        reads headers f.kept;
    places = subst (λ (l : List ReadEntry). AreDistinct (Rattle.page_commit.specs.Live.entry_places l)) (sym reads)
        live.places;
    once = once_below;
    writes = writes;
    met = subst (λ (l : List ReadEntry). Rattle.page_commit.specs.Live.AreMet l [] w) (sym reads)
        (met_only sets v w live (knows_more v w walk) can.agree can.trees can.declared (beside_arrays v w f.others));
    points = points_below;
    kept = kept_below;
    headers = subst (λ (l : List Seen). AreHeaders l w) (sym headers)
        (headers_walked sets v w live (knows_more v w walk) can.agree can.declared f.others (λ h has.
        f.words h.at (λ same. head_other h has same)));
    only = only_below;
    inside = inside_only sets v w live (knows_more v w walk) can.declared (beside_arrays v w f.others);
    room = room_same sets new reads headers live.room;
  }

  pub value_below : HasValue k answer sets new v w
  value_below = record {
    live = live_below;
    only = only_walked v w walk;
    paths = paths;
    held = held_to k sets.holds new.holds v w live.holds can.holds led;
    again = λ x of. absurd (none_some x (sym (unread k sets.reads none) ∙ of));
    anew = λ fresh. is ∙ ap (λ (o : Option ℕ). unwrap_or o 0) f.last;
    places = λ q a place. key_grown v w q a (knows_more v w walk) place;
    keeps = pointer_stays sets new v w p f.part live.decls can.agree can.trees (knows_more v w walk) live.parts live.once met meets
        f.kept;
    reads = inl reads;
    pointers = elim meets [ inl m ↦ inl m.1 | inr m ↦ inr (p, m.1, on_before) ];
    writes = writes;
    headers = headers;
    touched = ap (λ (y : View). y.touched) walk.is;
    content = c.value;
    value_is = is;
    vouched = record {
      part = f.part;
      among = subst (λ (l : List Part). Contains l f.part) (sym f.kept) (kept_new v.seat.kept f.part);
      over = f.covered;
      has = ap (λ (z : Content). z.value) f.has;
    };
  }
    where
      none_some : (x : ReadEntry) → None ≡ Some x → ⊥
      none_some x same = absurd cc

      on_before : IsWayPlace v.layout k p.at
      on_before = subst (λ (l : Layout). IsWayPlace l k p.at) (ap (λ (y : View). y.layout) walk.is) f.on

-- ---- wherever it was found

-- the key's storage is as it was
pub fits_now : (v w : View) (k : Key) → HasWalked v w → IsArrayKey v.layout.decls k → IsArrayKey w.layout.decls k
fits_now v w k walk fits =
    subst (λ (l : Rattle.engine_pages.specs.declared.layout.Layout.Layout). IsArrayKey l.decls k)
    (sym (ap (λ (y : View). y.layout) walk.is)) fits

-- the sets between have what those before have, and the holds behind the walk
pub value_found : (f : Found) (answer : ℕ) (sets mid new : Sets) (v w : View) (k : Key) → mid.reads ≡ sets.reads
    → mid.pointers ≡ sets.pointers → mid.writes ≡ sets.writes → mid.headers ≡ sets.headers → IsLive sets v → HasWalked v w → CanWalk mid.holds w
    → IsArrayKey v.layout.decls k → OnlyWaysTo k v w → AreLedTo k v w → KeepsMet sets.pointers v w
    → IsFound k sets.pointers f v w → has_read k sets.reads ≡ false → HasRoomFor sets f → KeepsFound k f answer mid new
    → HasValue k answer sets new v w
value_found (places.Volatile at word value) answer sets mid new v w k reads pointers writes headers live walk can fits paths led keeps f none room h =
    subst (λ (n : ℕ). HasValue k n sets new v w) (sym h.0)
    (value_in sets new v w k at word value live walk (subst (λ l. CanWalk l w) (sym h.1.holds) can) paths led keeps f none
    (h.3 ∙ ap (λ l. l ++ record { key = k; at = at; word = word; value = value } ∷ []) reads) (h.2 ∙ pointers)
    (h.1.writes ∙ writes) (h.1.headers ∙ headers)
    (room_entry sets new (record { key = k; at = at; word = word; value = value })
    (h.3 ∙ ap (λ l. l ++ record { key = k; at = at; word = word; value = value } ∷ []) reads)
    (ap (λ (l : List Seen). length l) (h.1.headers ∙ headers)) room))
value_found (places.Snapshot value number p) answer sets mid new v w k reads pointers writes headers live walk can fits paths led keeps f none room h =
    value_below sets new v w k (record { number = number_in number; value = Some value }) p answer live walk
    (subst (λ l. CanWalk l w) (sym h.1.holds) can) (fits_now v w k walk fits) paths led keeps f none (h.3 ∙ reads)
    (h.1.writes ∙ writes) (h.1.headers ∙ headers)
    (subst (λ (l : List Seen). MeetsPointer p l new.pointers) pointers h.2) h.0
value_found (places.Zero p) answer sets mid new v w k reads pointers writes headers live walk can fits paths led keeps f none room h =
    value_below sets new v w k nothing p answer live walk (subst (λ l. CanWalk l w) (sym h.1.holds) can)
    (fits_now v w k walk fits) paths led keeps f none (h.3 ∙ reads) (h.1.writes ∙ writes)
    (h.1.headers ∙ headers) (subst (λ (l : List Seen). MeetsPointer p l new.pointers) pointers h.2) h.0

-- what is kept of what was found so
pub keeps_as : (f g : Found) (k : Key) (answer : ℕ) (sets new : Sets) → f ≡ g → KeepsFound k g answer sets new
    → KeepsFound k f answer sets new
keeps_as f g k answer sets new same h = subst (λ (z : Found). KeepsFound k z answer sets new) (sym same) h

-- ---- rooms of the sets

-- what `find` told of the pointer, with the set as it is
pub meets_found : (f : Found) (pointers : List Seen) (k : Key) (v w : View) → IsFound k pointers f v w
    → MeetsFound pointers f
meets_found (places.Volatile at word value) pointers k v w f = tt
meets_found (places.Snapshot value number p) pointers k v w f = f.met
meets_found (places.Zero p) pointers k v w f = f.met

not_false : (b : Bool) → not b ≡ false → b ≡ true
not_false true none = refl
not_false false none = absurd (true≢false none)

pub room_found : (f : Found) (b : Bool) (sets : Sets) → b ≡ lacks_entry sets f → b ≡ false → HasRoomFor sets f
room_found (places.Volatile at word value) b sets test short = not_false (has_read_room sets) (sym test ∙ short)
room_found (places.Snapshot value number p) b sets test short = tt
room_found (places.Zero p) b sets test short = tt

-- with room for one of both there is room for a record
pub room_below : (sets : Sets) → has_read_room sets ≡ true → length sets.reads < 256
room_below sets room = grind (arith, nat_tests, room)

on_ok : {P E : Type 0} (r : Result (Unit {0}) E) → OnOk r P → IsOk r → P
on_ok (Ok x) p ok = p
on_ok (Err e) p ok = absurd cc

pub entry_pushed : (x : ReadEntry) (old new : List ReadEntry) (r : Result (Unit {0}) ReadEntry) → IsPushed 256 x old new r
    → length old < 256 → new ≡ old ++ x ∷ []
entry_pushed x old new r p room = on_ok r p.added (p.exactly.1 room)

-- ---- the set of pointers

some_none : (n : ℕ) → Some n ≡ None → ⊥
some_none n e = true≢false (ap (λ (o : Option ℕ). is_some o) e)

-- a word that is not there isn't found, and one that is there is
pub no_word : (at : ℕ) (seen : List Seen) → has_word at seen ≡ false → word_at at seen ≡ None
no_word at [] none = refl
no_word at (x ∷ seen) none =
    let parts = or_parts (x.at == at) (has_word at seen) none in
    ap (λ b. Rattle.std.specs.Option.option_map (λ (s : Seen). s.word) (cond b (Some x) (find (λ (s : Seen). s.at == at) seen)))
    parts.0
    ∙ no_word at seen parts.1

pub has_no_word : (at : ℕ) (seen : List Seen) → word_at at seen ≡ None → has_word at seen ≡ false
has_no_word at [] none = refl
has_no_word at (x ∷ seen) none = by_test (x.at == at) refl none (has_no_word at seen)
  where
    by_test : (b : Bool) → (x.at == at) ≡ b → word_at at (x ∷ seen) ≡ None
        → (word_at at seen ≡ None → has_word at seen ≡ false) → ((x.at == at) || has_word at seen) ≡ false
    by_test true hit none rest =
        absurd (some_none x.word (sym (ap (λ b. Rattle.std.specs.Option.option_map (λ (s : Seen). s.word)
        (cond b (Some x) (find (λ (s : Seen). s.at == at) seen))) hit) ∙ none))
    by_test false miss none rest =
        ap (λ b. b || has_word at seen) miss
        ∙ rest (sym (ap (λ b. Rattle.std.specs.Option.option_map (λ (s : Seen). s.word)
        (cond b (Some x) (find (λ (s : Seen). s.at == at) seen))) miss) ∙ none)

pub pointer_pushed : (r : Result (Unit {0}) Seen) (p : Seen) (old new : List Seen) → IsPushed 128 p old new r
    → has_word p.at old ≡ false → MeetsSo old p.at p.word → MeetsPointer p old new
pointer_pushed r p old new is none so = elim so [
  | inl word ↦ absurd (some_none p.word (sym word ∙ no_word p.at old none))
  | inr room ↦ inr (room.0, on_ok r is.added (is.exactly.1 room.1))
]

pub pointer_same : (p : Seen) (seen : List Seen) → has_word p.at seen ≡ true → MeetsSo seen p.at p.word
    → MeetsPointer p seen seen
pointer_same p seen has so = elim so [
  | inl word ↦ inl (word, refl)
  | inr room ↦ absurd (true≢false (sym has ∙ has_no_word p.at seen room.0))
]

-- ---- no room for an entry

not_true : (b : Bool) → not b ≡ true → b ≡ false
not_true true none = absurd (true≢false (sym none))
not_true false none = refl

-- only a record in a page in memory lacks its entry
pub wide_cause : (f : Found) (b : Bool) (sets new : Sets) (k : Key) (v w x : View) → Walked sets v w
    → has_read k sets.reads ≡ false → has_write k sets.writes ≡ false → IsFound k sets.pointers f v w
    → b ≡ lacks_entry sets f → b ≡ true → HasGivenUp [] (refusals.Wide Reads) w x
    → RefusesRead sets new k (refusals.Wide Reads) v x
wide_cause (places.Volatile at word value) b sets new k v w x h none unwritten f test full g =
    entry_cause sets new k at word value v w x h none unwritten f (not_true (has_read_room sets) (sym test ∙ full)) g
wide_cause (places.Snapshot value number p) b sets new k v w x h none unwritten f test full g =
    absurd (true≢false (sym full ∙ test))
wide_cause (places.Zero p) b sets new k v w x h none unwritten f test full g = absurd (true≢false (sym full ∙ test))
