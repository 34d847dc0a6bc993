-- Checks of the pointers that were met, behind those of the records.
use Rattle.std.proofs.Common.{◌≡◌, ◌≢◌, inl, inr, ℕ, zero, suc, ◌+◌, ◌<◌, ◌≤◌, Bool, true, false, eqb, List}
use Rattle.std.proofs.Common.{[], ◌∷◌, ◌++◌, length, take, get_or, Some, refl, sym, ap, ◌∙◌, subst}
use Rattle.std.proofs.Common.{arith, true≢false}
use Rattle.std.specs.Prelude.{MatchBool, Contains, filter, not, ◌==◌, unwrap_or, cond, Result, Ok, Err, OnOk}
use Rattle.std.specs.Prelude.{OnErr, IfErr}
use Rattle.std.specs.List.{list_any, list_all, find, AllByRecursion}
use Rattle.std.specs.Option.{option_map}
use Rattle.std.proofs.lemmas.Bool.{eq-eqb, ne_eqb, or_parts, or_from, or_left, or_right, and_from}
use Rattle.std.proofs.lemmas.Bool.{false_from_ne_true}
use Rattle.std.proofs.lemmas.List.{take_more}
use Rattle.lists.specs.Elements.{in_cases, in_head, in_none, in_push_new, in_tail}
use Rattle.lists.specs.Each.{AreDistinct}
use Rattle.homes.specs.declared.places.At.{At}
use Rattle.homes.specs.declared.places.At.TheVariants.{Root, In}
use Rattle.homes.specs.declared.places.Span.{Span}
use Rattle.homes.specs.Homes.{same_at}
use Rattle.homes.specs.Laws.{same_at-true, same_at-self}
use Rattle.commit_core.specs.declared.part.Part.{Part}
use Rattle.commit_core.specs.declared.part.Word.{Word}
use Rattle.commit_core.specs.declared.part.Word.TheVariants.{Pointer}
use Rattle.commit_core.specs.Parts.{same_word}
use Rattle.tx_sets.specs.declared.reads.ReadEntry.{ReadEntry}
use Rattle.tx_sets.specs.declared.seen.Seen.{Seen}
use Rattle.tx_sets.specs.declared.sets.Sets.{Sets}
use Rattle.tx_sets.specs.declared.writes.Write.{Write}
use Rattle.tx_sets.specs.Entries.{places_of, word_at, writes_at}
use Rattle.engine_pages.specs.declared.view.Read.{Read}
use Rattle.engine_pages.specs.declared.view.View.{View}
use Rattle.engine_pages.specs.Pointers.{IsPointerAt, WaysAgree}
use Rattle.engine_pages.specs.Rule.{has_word}
use Rattle.engine_pages.specs.Steps.{kept_at, seen_at}
use Rattle.dual_pointer.specs.Parts.{part_stays}
use Rattle.pointer_checks.specs.Checks.{pointer_checked, CanCheckPointer, CheckedPointer}
use Rattle.engine_pages.specs.declared.layout.Layout.{Layout}
use Rattle.engine_pages.specs.Layout.{words_of}
use Rattle.engine_pages.specs.Views.{IsActive}
use Rattle.page_records.specs.Attempts.{failed_at}
use Rattle.page_commit.specs.declared.locking.Conflict.{Conflict}
use Rattle.page_commit.specs.Places.{ground, pointer_for, Ground, IsAnyKeyIn, IsPointerIn}
use Rattle.page_commit.specs.Live.{reads_at, IsMetPointer, IsWriteOf}
use Rattle.page_commit.specs.Steps.{entry_words, pointer_words, CheckConflict, HasChecked, HasCheckedSome, HasFailed}
use Rattle.page_commit.specs.Steps.{HasTried}
use Rattle.page_commit.proofs.CheckLaws.{there}
use Rattle.page_commit.proofs.Lists.{in_at, map_push, take_all}
use Rattle.page_commit.proofs.AnyPlaces.{any_no_pointer}
use Rattle.page_commit.proofs.PlaceLaws.{one_pointer, pointer_there}
use Rattle.array_pages.proofs.ReadLaws.{kept_with}
use Rattle.page_commit.proofs.ReadLaws.{seen_at-other}
use Rattle.tx_sets.specs.Entries as sets_of

-- ---- pointers of the set, by their places

all_other : (at : ℕ) (l : List Seen) (p : Seen) → AllByRecursion (λ q. at ≢ q) (places_of l) → Contains l p → at ≢ p.at
all_other at [] p all in' = absurd (in_none p in')
all_other at (y ∷ l) p all in' =
    elim (in_cases p y l in') [
      | inl same ↦ subst (λ (z : Seen). at ≢ z.at) same all.0
      | inr later ↦ all_other at l p all.1 later
    ]

-- a pointer's word isn't among those before it
pub not_before_pointer : (ps : List Seen) (i : ℕ) (d : Seen) → AreDistinct (places_of ps) → i < length ps
    → sets_of.has_word (get_or ps i d).at (take i ps) ≡ false
not_before_pointer [] i d are lt = absurd (omega arith)
not_before_pointer (x ∷ xs) zero d are lt = refl
not_before_pointer (x ∷ xs) (suc i) d are lt =
    let one : Seen = get_or xs i d in
    or_from (x.at == one.at) (sets_of.has_word one.at (take i xs))
    (ne_eqb x.at one.at (all_other x.at xs one are.0 (in_at xs i d (omega arith))))
    (not_before_pointer xs i d are.1 (omega arith))

pub pointer_word : (ps : List Seen) (p : Seen) → AreDistinct (places_of ps) → Contains ps p → word_at p.at ps ≡ Some p.word
pointer_word [] p apart in' = absurd (in_none p in')
pointer_word (f ∷ ps) p apart in' =
    elim (in_cases p f ps in') [
      | inl same ↦ subst (λ (x : Seen). word_at x.at (f ∷ ps) ≡ Some x.word) same
          (ap (λ b. option_map (λ (x : Seen). x.word) (cond b (Some f) (find (λ (x : Seen). x.at == f.at) ps)))
          (eq-eqb f.at f.at refl))
      | inr later ↦ ap (λ b. option_map (λ (x : Seen). x.word)
          (cond b (Some f) (find (λ (x : Seen). x.at == p.at) ps)))
          (ne_eqb f.at p.at (all_other f.at ps p apart.0 later))
          ∙ pointer_word ps p apart.1 later
    ]

pub has_pointer : (ps : List Seen) (p : Seen) → Contains ps p → sets_of.has_word p.at ps ≡ true
has_pointer [] p in' = absurd (in_none p in')
has_pointer (f ∷ ps) p in' =
    elim (in_cases p f ps in') [
      | inl same ↦ or_left (f.at == p.at) (sets_of.has_word p.at ps)
          (subst (λ (x : Seen). (f.at == x.at) ≡ true) same (eq-eqb f.at f.at refl))
      | inr later ↦ or_right (f.at == p.at) (sets_of.has_word p.at ps) (has_pointer ps p later)
    ]

pub in_take : (xs : List Seen) (n : ℕ) (x : Seen) → Contains (take n xs) x → Contains xs x
in_take [] zero x in' = in'
in_take [] (suc n) x in' = in'
in_take (y ∷ xs) zero x in' = absurd (in_none x in')
in_take (y ∷ xs) (suc n) x in' =
    elim (in_cases x y (take n xs) in') [
      | inl same ↦ subst (λ z. Contains (y ∷ xs) z) same (in_head y xs)
      | inr later ↦ in_tail x y xs (in_take xs n x later)
    ]

-- ---- words of pointers

words_apart : (g : Ground) (ps : List Seen) (p : Seen) (sp : Span) → WaysAgree g.ways
    → ((q : Seen) → Contains ps q → (tp : Span) × IsPointerIn g tp q.at) → IsPointerIn g sp p.at
    → sets_of.has_word p.at ps ≡ false
    → has_word (pointer_words g ps) (Pointer (pointer_for g p.at)) ≡ false
words_apart g [] p sp agree all place none = refl
words_apart g (f ∷ ps) p sp agree all place none =
    let parts = or_parts (f.at == p.at) (sets_of.has_word p.at ps) none in
    let first = all f (in_head f ps) in
    let miss : same_at (pointer_for g f.at) (pointer_for g p.at) ≡ false =
    false_from_ne_true (same_at (pointer_for g f.at) (pointer_for g p.at)) (λ test.
    true≢false (sym (eq-eqb f.at p.at (one_pointer g first.0 sp f.at p.at agree first.1 place
    (same_at-true (pointer_for g f.at) (pointer_for g p.at) test))) ∙ parts.0)) in
    or_from (same_at (pointer_for g f.at) (pointer_for g p.at))
    (has_word (pointer_words g ps) (Pointer (pointer_for g p.at))) miss
    (words_apart g ps p sp agree (λ x in'. all x (in_tail x f ps in')) place parts.1)

no_records : (lay : Layout) (es : List ReadEntry) (x : At) → has_word (entry_words lay es) (Pointer x) ≡ false
no_records lay [] x = refl
no_records lay (e ∷ es) x = no_records lay es x

pub none_behind : (p : Word → Bool) (xs ys : List Word) → list_any p xs ≡ false → list_any p ys ≡ false
    → list_any p (xs ++ ys) ≡ false
none_behind p [] ys first second = second
none_behind p (x ∷ xs) ys first second =
    let parts = or_parts (p x) (list_any p xs) first in
    or_from (p x) (list_any p (xs ++ ys)) parts.0 (none_behind p xs ys parts.1 second)

pub word_of_pointer : (g : Ground) (ps : List Seen) (p : Seen) → Contains ps p
    → has_word (pointer_words g ps) (Pointer (pointer_for g p.at)) ≡ true
word_of_pointer g [] p in' = absurd (in_none p in')
word_of_pointer g (f ∷ ps) p in' =
    elim (in_cases p f ps in') [
      | inl same ↦ or_left (same_at (pointer_for g f.at) (pointer_for g p.at))
          (has_word (pointer_words g ps) (Pointer (pointer_for g p.at)))
          (subst (λ (x : Seen). same_at (pointer_for g f.at) (pointer_for g x.at) ≡ true) same
          (same_at-self (pointer_for g f.at)))
      | inr later ↦ or_right (same_at (pointer_for g f.at) (pointer_for g p.at))
          (has_word (pointer_words g ps) (Pointer (pointer_for g p.at))) (word_of_pointer g ps p later)
    ]

-- ---- the loop

pub pointer_in : (ps : List Seen) (sets : Sets) (done : ℕ) (d : Seen) → ps ≡ sets.pointers
    → done < length ps → Contains sets.pointers (get_or ps done d)
pointer_in ps sets done d same lt = subst (λ l. Contains l (get_or ps done d)) same (in_at ps done d lt)

abbrev with_checked : View → List Word → View → View
with_checked v checked w = record v {
  checked = checked;
  steps = w.steps;
  last = w.last;
  loaded = w.loaded;
  reads = w.reads;
}

pointer_later : (v w : View) (checked : List Word) (x : At) (sp : Span) (at : ℕ) → IsPointerAt v x sp at
    → IsPointerAt (with_checked v checked w) x sp at
pointer_later v w checked (Root r) sp at h = h
pointer_later v w checked (In y) sp at (inl c) = inl record {
  way = c.way;
  has = c.has;
  slot = c.slot;
  kind = c.kind;
  inner = c.inner;
  index = c.index;
  span = c.span;
  word = c.word;
}
pointer_later v w checked (In y) sp at (inr b) = inr record {
  way = b.way;
  has = b.has;
  slot = b.slot;
  kind = b.kind;
  inner = b.inner;
  knows = b.knows;
  same = b.same;
  index = b.index;
  span = b.span;
  word = b.word;
}

pub can_check_pointer : (ps : List Seen) (sets : Sets) (done : ℕ) (d : Seen) (v w : View)
    → HasTried sets v → AreDistinct (places_of sets.pointers) → ps ≡ sets.pointers
    → HasCheckedSome sets (length sets.reads) done v w → done < length ps
    → (sp : Span) × CanCheckPointer w (pointer_for (ground w) (get_or ps done d).at) sp (get_or ps done d).at
    (get_or ps done d).word
can_check_pointer ps sets done d v w h apart same p lt = by_part (h.parts.pointers one in')
  where
    one : Seen
    one = get_or ps done d

    in' : Contains sets.pointers (get_or ps done d)
    in' = pointer_in ps sets done d same lt

    by_part : (part : Part) × Contains h.attempt.parts part × IsMetPointer v (get_or ps done d) part
        → (sp : Span) × CanCheckPointer w (pointer_for (ground w) (get_or ps done d).at) sp (get_or ps done d).at
        (get_or ps done d).word
    by_part q =
        let m = q.2 in
        let q' : Seen = get_or ps done d in
        let x : At = pointer_for (ground v) q'.at in
        let clear : sets_of.has_word q'.at (take done sets.pointers) ≡ false =
        subst (λ (l : List Seen). sets_of.has_word q'.at (take done l) ≡ false) same
        (not_before_pointer ps done d (subst (λ l. AreDistinct (places_of l)) (sym same) apart) lt) in
        let words = words_apart (ground v) (take done sets.pointers) q' m.span h.agree
        (λ f has. placed f (in_take sets.pointers done f has)) m.place clear in (
          m.span,
          subst (λ (y : View). CanCheckPointer y (pointer_for (ground y) q'.at) m.span q'.at q'.word) (sym p.is) record {
            place = pointer_later v (record v { steps = p.steps; last = p.last; loaded = p.loaded; reads = p.reads })
                (entry_words v.layout (take (length sets.reads) sets.reads)
                ++ pointer_words (ground v) (take done sets.pointers)) x m.span q'.at
                (pointer_there v m.span q'.at h.agree m.place);
            bare = m.bare;
            index = h.index;
            attempt = h.attempt;
            part = q.0;
            stage = h.stage;
            stands = h.at;
            has = q.1;
            of = part_stays v (with_checked v (entry_words v.layout (take (length sets.reads) sets.reads)
                ++ pointer_words (ground v) (take done sets.pointers))
                (record v { steps = p.steps; last = p.last; loaded = p.loaded; reads = p.reads })) x m.span q'.word q.0
                (λ z has. has) m.of;
            one = λ y has match. h.parts.once y q.0 has q.1
                (subst (λ (z : Word). same_word y.word z ≡ true) (sym m.of.word) match);
            unchecked = none_behind (λ z. same_word z (Pointer x))
                (entry_words v.layout (take (length sets.reads) sets.reads))
                (pointer_words (ground v) (take done sets.pointers))
                (no_records v.layout (take (length sets.reads) sets.reads) x) words;
          },
        )
      where
        placed : (f : Seen) → Contains sets.pointers f → (tp : Span) × IsPointerIn (ground v) tp f.at
        placed f has = let r = (h.parts.pointers f has).2 in (r.span, r.place)

is_as : (x y z : View) (b : Bool) → MatchBool b (x ≡ y) (x ≡ z) → b ≡ true → x ≡ y
is_as x y z b c hit = subst (λ t. MatchBool t (x ≡ y) (x ≡ z)) hit c

is_else : (x y z : View) (b : Bool) → MatchBool b (x ≡ y) (x ≡ z) → b ≡ false → x ≡ z
is_else x y z b c miss = subst (λ t. MatchBool t (x ≡ y) (x ≡ z)) miss c

pub any_split : (p : Seen → Bool) (l : List Seen) (y : Seen) → list_any p (l ++ y ∷ []) ≡ false
    → (list_any p l ≡ false) × (p y ≡ false)
any_split p [] y none = (refl, (or_parts (p y) false none).0)
any_split p (z ∷ l) y none =
    let parts = or_parts (p z) (list_any p (l ++ y ∷ [])) none in
    let rest = any_split p l y parts.1 in (or_from (p z) (list_any p l) parts.0 rest.0, rest.1)

pub pointer_one : (ps : List Seen) (sets : Sets) (done : ℕ) (d : Seen) (k : ℕ) (v w x : View)
    → ps ≡ sets.pointers → HasCheckedSome sets (length sets.reads) done v w → done < length ps → k ≡ (get_or ps done d).word
    → CheckedPointer (pointer_for (ground w) (get_or ps done d).at) (get_or ps done d).at (get_or ps done d).word w k x
    → HasCheckedSome sets (length sets.reads) (done + 1) v x
pointer_one ps sets done d k v w x same p lt seen c =
    let q : Seen = get_or ps done d in
    let place : At = pointer_for (ground w) q.at in
    let is : x ≡ pointer_checked place q.at k w =
    is_as x (pointer_checked place q.at k w) (failed_at q.at k w) (k == q.word) c (eq-eqb k q.word seen) in
    let slots : ℕ = v.layout.slots in
    let lay : Layout = v.layout in
    let front : List Word = entry_words lay (take (length sets.reads) sets.reads) in
    let old : List Word = front ++ pointer_words (ground v) (take done sets.pointers) in
    let u : View = with_checked v old
    (record v { steps = p.steps; last = p.last; loaded = p.loaded; reads = p.reads }) in
    let y : View = pointer_checked (pointer_for (ground v) q.at) q.at k u in
    let more : take (done + 1) sets.pointers ≡ take done sets.pointers ++ q ∷ [] =
    subst (λ (l : List Seen). take (done + 1) l ≡ take done l ++ q ∷ []) same (take_more ps done d lt) in
    let words : old ++ Pointer (pointer_for (ground v) q.at) ∷ [] ≡ front ++ pointer_words (ground v) (take (done + 1) sets.pointers) =
    Rattle.std.proofs.Common.append_assoc front (pointer_words (ground v) (take done sets.pointers)) (Pointer (pointer_for (ground v) q.at) ∷ [])
    ∙ ap (λ l. front ++ l) (sym (map_push (λ (z : Seen). Pointer (pointer_for (ground v) z.at)) (take done sets.pointers) q)
    ∙ ap (pointer_words (ground v)) (sym more)) in record {
      steps = y.steps;
      since = omega (arith, p.since);
      last = y.last;
      loaded = y.loaded;
      reads = y.reads;
      aside = λ at clear none.
          let parts = any_split (λ (r : Seen). r.at == at) (take done sets.pointers) q
          (subst (λ (l : List Seen). sets_of.has_word at l ≡ false) more none) in
          seen_at-other p.reads q.at k at (λ hit. true≢false (sym (eq-eqb q.at at hit) ∙ parts.1))
          ∙ p.aside at clear parts.0;
      kept = λ at. kept_with p.reads q.at k at ∙ p.kept at;
      is = is ∙ (ap (λ (z : View). pointer_checked (pointer_for (ground z) q.at) q.at k z) p.is
          ∙ ap (λ l. with_checked v l y) words);
    }

pub pointer_failed_one : (sets : Sets) (n m at word k : ℕ) (v w x : View)
    → HasCheckedSome sets n m v w → k ≢ word
    → CheckedPointer (pointer_for (ground w) at) at word w k x → HasFailed v x
pointer_failed_one sets n m at word k v w x p other c =
    let place : At = pointer_for (ground w) at in
    let is : x ≡ failed_at at k w =
    is_else x (pointer_checked place at k w) (failed_at at k w) (k == word) c (ne_eqb k word other) in
    let slots : ℕ = v.layout.slots in
    let lay : Layout = v.layout in
    let u : View = with_checked v (entry_words lay (take n sets.reads) ++ pointer_words (ground v) (take m sets.pointers))
    (record v { steps = p.steps; last = p.last; loaded = p.loaded; reads = p.reads }) in
    let y : View = failed_at at k u in record {
      checked = y.checked;
      steps = y.steps;
      since = omega (arith, p.since);
      last = y.last;
      loaded = y.loaded;
      reads = y.reads;
      is = is ∙ ap (failed_at at k) p.is;
    }

-- a pointer's word is none that the transaction has locked
pub pointer_clear : (sets : Sets) (q : Seen) (v : View) → HasTried sets v → Contains sets.pointers q
    → writes_at q.at sets.writes ≡ false
pointer_clear sets q v h in' = by_place (h.parts.pointers q in')
  where
    all_clear : (sp : Span) (ws : List Write) → AllByRecursion (IsWriteOf (ground v)) ws → IsPointerIn (ground v) sp q.at
        → writes_at q.at ws ≡ false
    all_clear sp [] all place = refl
    all_clear sp (w ∷ ws) all place =
        or_from (w.at == q.at) (writes_at q.at ws)
        (ne_eqb w.at q.at (λ same. any_no_pointer v w.key sp q.at h.agree h.trees
        (subst (IsAnyKeyIn (ground v) w.key) same all.0.place) place))
        (all_clear sp ws all.1 place)

    by_place : (part : Part) × Contains h.attempt.parts part × IsMetPointer v q part → writes_at q.at sets.writes ≡ false
    by_place r = all_clear r.2.span sets.writes h.places r.2.place

pub pointer_conflict : (ps : List Seen) (sets : Sets) (done : ℕ) (d : Seen) (k : ℕ) (v w x : View)
    → HasTried sets v → AreDistinct (places_of sets.pointers) → ps ≡ sets.pointers
    → HasCheckedSome sets (length sets.reads) done v w → done < length ps → k ≢ (get_or ps done d).word
    → CheckedPointer (pointer_for (ground w) (get_or ps done d).at) (get_or ps done d).at (get_or ps done d).word w k x
    → CheckConflict sets (get_or ps done d).at (get_or ps done d).word k v x
pointer_conflict ps sets done d k v w x h apart same p lt other c = by_part (h.parts.pointers (get_or ps done d) in')
  where
    in' : Contains sets.pointers (get_or ps done d)
    in' = pointer_in ps sets done d same lt

    by_part : (part : Part) × Contains h.attempt.parts part × IsMetPointer v (get_or ps done d) part
        → CheckConflict sets (get_or ps done d).at (get_or ps done d).word k v x
    by_part m =
        let q : Seen = get_or ps done d in
        let place : At = pointer_for (ground w) q.at in
        let is : x ≡ failed_at q.at k w =
        is_else x (pointer_checked place q.at k w) (failed_at q.at k w) (k == q.word) c (ne_eqb k q.word other) in
        let clear : sets_of.has_word q.at (take done sets.pointers) ≡ false =
        subst (λ (l : List Seen). sets_of.has_word q.at (take done l) ≡ false) same
        (not_before_pointer ps done d (subst (λ l. AreDistinct (places_of l)) (sym same) apart) lt) in
        let was : seen_at w.reads q.at ≡ Some q.word =
        ap (λ (y : View). seen_at y.reads q.at) p.is
        ∙ (p.aside q.at (none_read sets.reads (length sets.reads)) clear ∙ h.points q in') in
        let steps : w.steps ≡ p.steps = ap (λ (y : View). y.steps) p.is in
        let r : Read = record { word = q.at; seen = k; was = seen_at w.reads q.at; kept = kept_at w.reads q.at } in
        let stands : Contains x.reads r =
        subst (λ (y : View). Contains y.reads r) (sym is)
        (in_push_new r (filter (λ (z : Read). not (z.word == q.at)) w.reads)) in
        inr (inl (
          has_pointer sets.pointers q in',
          record {
            step = w.steps;
            last = ap (λ (y : View). y.last) is;
            since = omega (arith, steps, p.since);
            was = seen_at w.reads q.at;
            kept = kept_at w.reads q.at;
            stands = stands;
            known = inl (pointer_word sets.pointers q apart in');
            cause = inr other;
          },
          record {
            span = m.2.span;
            place = subst (λ (y : View). IsPointerIn (ground y) m.2.span q.at) (sym (is ∙ ap (failed_at q.at k) p.is))
                m.2.place;
            step = w.steps;
            last = ap (λ (y : View). y.last) is;
            was = seen_at w.reads q.at;
            kept = kept_at w.reads q.at;
            stands = stands;
            known = inl (sym (ap (λ o. unwrap_or o k) was));
            cause = inr other;
          },
        ))
      where
        in_taken : (xs : List ReadEntry) (n : ℕ) (y : ReadEntry) → Contains (take n xs) y → Contains xs y
        in_taken [] zero y has = has
        in_taken [] (suc n) y has = has
        in_taken (z ∷ xs) zero y has = absurd (in_none y has)
        in_taken (z ∷ xs) (suc n) y has =
            elim (in_cases y z (take n xs) has) [
              | inl same' ↦ subst (λ u. Contains (z ∷ xs) u) same' (in_head z xs)
              | inr later ↦ in_tail y z xs (in_taken xs n y later)
            ]

        all_none : (es : List ReadEntry) → ((f : ReadEntry) → Contains es f → Contains sets.reads f)
            → reads_at (get_or ps done d).at es ≡ false
        all_none [] all = refl
        all_none (f ∷ es) all =
            or_from (f.at == (get_or ps done d).at) (reads_at (get_or ps done d).at es)
            (ne_eqb f.at (get_or ps done d).at (λ hit. any_no_pointer v f.key m.2.span (get_or ps done d).at h.agree h.trees
            (subst (IsAnyKeyIn (ground v) f.key) hit (there sets v f h (all f (in_head f es))).place) m.2.place))
            (all_none es (λ y has. all y (in_tail y f es has)))

        none_read : (es : List ReadEntry) (n : ℕ) → reads_at (get_or ps done d).at (take n sets.reads) ≡ false
        none_read es n = all_none (take n sets.reads) (λ f has. in_taken sets.reads n f has)

-- ---- all parts are checked

pub all_from : (f : Part → Bool) (parts : List Part) → ((x : Part) → Contains parts x → f x ≡ true) → list_all f parts
    ≡ true
all_from f [] h = refl
all_from f (x ∷ xs) h = and_from (f x) (list_all f xs) (h x (in_head x xs))
    (all_from f xs (λ y m. h y (in_tail y x xs m)))

-- all pointers are checked
pub pointers_checked : (ps : List Seen) (sets : Sets) (done : ℕ) (v w : View) → ps ≡ sets.pointers
    → HasCheckedSome sets (length sets.reads) done v w → length ps ≤ done
    → HasCheckedSome sets (length sets.reads) (length sets.pointers) v w
pointers_checked ps sets done v w same p le =
    let len : length sets.pointers ≤ done = subst (λ (l : List Seen). length l ≤ done) same le in
    let all : take done sets.pointers ≡ take (length sets.pointers) sets.pointers =
    take_all sets.pointers done len ∙ sym (take_all sets.pointers (length sets.pointers) (omega arith)) in record {
      steps = p.steps;
      since = p.since;
      last = p.last;
      loaded = p.loaded;
      reads = p.reads;
      aside = λ at clear none. p.aside at clear (subst (λ (l : List Seen). sets_of.has_word at l ≡ false) (sym all) none);
      kept = p.kept;
      is = p.is ∙ ap (λ (l : List Seen). with_checked v
          (entry_words v.layout (take (length sets.reads) sets.reads) ++ pointer_words (ground v) l)
          (record v { steps = p.steps; last = p.last; loaded = p.loaded; reads = p.reads })) all;
    }

-- ---- the pass, as it was

pub tried_worker : (sets : Sets) (n : ℕ) (v w : View) → IsActive w.role → HasCheckedSome sets n 0 v w → IsActive v.role
tried_worker sets n v w active p = subst IsActive (ap (λ (y : View). y.role) p.is) active

pub pointers_active : (sets : Sets) (v w x : View) → IsActive w.role → HasCheckedSome sets (length sets.reads) 0 v w
    → HasCheckedSome sets (length sets.reads) (length sets.pointers) v x → IsActive x.role
pointers_active sets v w x active p q =
    subst IsActive (sym (ap (λ (y : View). y.role) q.is)) (tried_worker sets (length sets.reads) v w active p)

-- ---- results that are handed on

-- headers are checked behind the pointers
pub heads_for : (r : Result (Unit {0}) Conflict) (sets : Sets) (w x y : View)
    → ((u : View) → HasTried sets u → HasCheckedSome sets (length sets.reads) 0 u w
    → HasCheckedSome sets (length sets.reads) (length sets.pointers) u x)
    → OnOk r ((u : View) → HasTried sets u → HasCheckedSome sets (length sets.reads) (length sets.pointers) u x
    → HasChecked u y)
    → OnOk r ((u : View) → HasTried sets u → HasCheckedSome sets (length sets.reads) 0 u w → HasChecked u y)
heads_for (Ok k) sets w x y first all = λ u h p. all u h (first u h p)
heads_for (Err e) sets w x y first all = tt

pub heads_failed : (r : Result (Unit {0}) Conflict) (sets : Sets) (w x y : View)
    → ((u : View) → HasTried sets u → HasCheckedSome sets (length sets.reads) 0 u w
    → HasCheckedSome sets (length sets.reads) (length sets.pointers) u x)
    → OnErr r ((u : View) → HasTried sets u → HasCheckedSome sets (length sets.reads) (length sets.pointers) u x
    → HasFailed u y)
    → OnErr r ((u : View) → HasTried sets u → HasCheckedSome sets (length sets.reads) 0 u w → HasFailed u y)
heads_failed (Ok k) sets w x y first all = tt
heads_failed (Err e) sets w x y first all = λ u h p. all u h (first u h p)

pub heads_caused : (r : Result (Unit {0}) Conflict) (sets : Sets) (w x y : View)
    → ((u : View) → HasTried sets u → HasCheckedSome sets (length sets.reads) 0 u w
    → HasCheckedSome sets (length sets.reads) (length sets.pointers) u x)
    → IfErr r (λ e. (u : View) → HasTried sets u
    → HasCheckedSome sets (length sets.reads) (length sets.pointers) u x
    → CheckConflict sets e.word e.expected e.seen u y)
    → IfErr r (λ e. (u : View) → HasTried sets u → HasCheckedSome sets (length sets.reads) 0 u w
    → CheckConflict sets e.word e.expected e.seen u y)
heads_caused (Ok k) sets w x y first all = tt
heads_caused (Err e) sets w x y first all = λ u h p. all u h (first u h p)

pub checked_for : (r : Result (Unit {0}) Conflict) (sets : Sets) (v w x : View) → HasTried sets v
    → HasCheckedSome sets (length sets.reads) 0 v w
    → OnOk r ((u : View) → HasTried sets u → HasCheckedSome sets (length sets.reads) 0 u w → HasChecked u x)
    → OnOk r (HasChecked v x)
checked_for (Ok k) sets v w x h p all = all v h p
checked_for (Err e) sets v w x h p all = tt

pub failed_for : (r : Result (Unit {0}) Conflict) (sets : Sets) (v w x : View) → HasTried sets v
    → HasCheckedSome sets (length sets.reads) 0 v w
    → OnErr r ((u : View) → HasTried sets u → HasCheckedSome sets (length sets.reads) 0 u w → HasFailed u x)
    → OnErr r (HasFailed v x)
failed_for (Ok k) sets v w x h p all = tt
failed_for (Err e) sets v w x h p all = all v h p

pub conflict_for : (r : Result (Unit {0}) Conflict) (sets : Sets) (v w x : View) → HasTried sets v
    → HasCheckedSome sets (length sets.reads) 0 v w
    → IfErr r (λ e. (u : View) → HasTried sets u → HasCheckedSome sets (length sets.reads) 0 u w
    → CheckConflict sets e.word e.expected e.seen u x)
    → IfErr r (λ e. CheckConflict sets e.word e.expected e.seen v x)
conflict_for (Ok k) sets v w x h p all = tt
conflict_for (Err e) sets v w x h p all = all v h p

pub steps_both : (r : Result (Unit {0}) Conflict) (reads pointers : ℕ) (v w x : View) → w.steps ≡ v.steps + reads
    → OnOk r (x.steps ≡ w.steps + pointers) → OnOk r (x.steps ≡ v.steps + (reads + pointers))
steps_both (Ok k) reads pointers v w x first second = omega (arith, first, second)
steps_both (Err e) reads pointers v w x first second = tt

pub most_both : (r : Result (Unit {0}) Conflict) (reads pointers : ℕ) (v w x : View) → w.steps ≡ v.steps + reads
    → OnErr r (x.steps ≤ w.steps + pointers) → OnErr r (x.steps ≤ v.steps + (reads + pointers))
most_both (Ok k) reads pointers v w x first second = tt
most_both (Err e) reads pointers v w x first second = omega (arith, first, second)

pub word_within : (ps : List Seen) (sets : Sets) (done : ℕ) (d : Seen) (v w : View) → HasTried sets v → ps ≡ sets.pointers
    → HasCheckedSome sets (length sets.reads) done v w → done < length ps → (get_or ps done d).at < words_of w.layout
word_within ps sets done d v w h same p lt =
    subst (λ (y : View). (get_or ps done d).at < words_of y.layout) (sym p.is)
    (h.parts.pointers (get_or ps done d) (pointer_in ps sets done d same lt)).2.within
