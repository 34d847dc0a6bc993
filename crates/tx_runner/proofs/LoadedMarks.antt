-- Marks that were loaded, one after another.
use Rattle.views.specs.Sums.{times}
use Rattle.std.proofs.Common.{get_or, ◌≡◌, ℕ, zero, suc, ◌≤◌, ◌+◌, ◌<◌, List, [], ◌∷◌, ◌++◌, length, take, set}
use Rattle.std.proofs.Common.{Option, Some, ◌⊎◌, inl, inr}
use Rattle.std.proofs.Common.{None, refl, sym, ap, ◌∙◌, subst}
use Rattle.std.proofs.Common.{arith, length-append, append_assoc}
use Rattle.std.specs.Prelude.{Contains, IfNone, slice_get}
use Rattle.std.proofs.lemmas.List.{append-nil, take_more_set, length-take-le}
use Rattle.std.proofs.lemmas.List.Elements.{Contains-append_left}
use Rattle.lists.specs.Each.{all_push}
use Rattle.wire_form.specs.declared.clock.Mark.{Mark}
use Rattle.wire_form.specs.Items.{Reads}
use Rattle.wire_form.specs.Words.{IsMark, mark_word}
use Rattle.commit_core.specs.declared.seat.Mark as core
use Rattle.engine_pages.specs.declared.view.Glance.{Glance}
use Rattle.engine_pages.specs.declared.view.Met.{Met}
use Rattle.engine_pages.specs.declared.view.Role.TheVariants.{Keeper}
use Rattle.engine_pages.specs.declared.view.View.{View}
use Rattle.engine_seats.specs.Clock.{met_at, HasMet, IsLast}
use Rattle.engine_pages.specs.Layout.{mark_at}
use Rattle.engine_pages.specs.Words.{IsSmallMark, word_of_mark}
use Rattle.engine_pages.specs.Steps.{glance}
use Rattle.engine_pages.specs.Views.{bare_seat, IsActive}
use Rattle.tx_runner.specs.Epochs.{last_of, mets_of, AreLast, HasMetAll, IsLastOf}

-- a mark that was set has a word that is read
pub no_mark : (mark : core.Mark) (word : ℕ) (read : Option Mark) → IsSmallMark mark → word ≡ word_of_mark mark
    → Reads IsMark mark_word word read → read ≡ None → ⊥
no_mark mark word read small is reads none =
    (subst (λ r. IfNone r ((v : Mark) → IsMark v → mark_word v ≡ word → ⊥)) none reads.1)
    (record { length = mark.length; epoch = mark.epoch }) (record { length = small.length; epoch = small.epoch })
    (sym is)

-- what stands at a place with one more at the end
at_push_cases : (xs : List ℕ) (y i x : ℕ) → slice_get (xs ++ y ∷ []) i ≡ Some x
    → (slice_get xs i ≡ Some x) ⊎ ((i ≡ length xs) × (y ≡ x))
at_push_cases [] y zero x there = let same : y ≡ x = cc in inr (refl, same)
at_push_cases [] y (suc i) x there = absurd cc
at_push_cases (z ∷ xs) y zero x there = inl there
at_push_cases (z ∷ xs) y (suc i) x there = elim (at_push_cases xs y i x there) [
  | inl older ↦ inl older
  | inr new ↦ inr (ap suc new.0, new.1)
]

taken_all : (marks : List Mark) (i : ℕ) → length marks ≤ i → take i marks ≡ marks
taken_all [] zero le = refl
taken_all [] (suc i) le = refl
taken_all (m ∷ marks) zero le = absurd (omega (arith, le))
taken_all (m ∷ marks) (suc i) le = ap (λ l. m ∷ l) (taken_all marks i (omega (arith, le)))

-- one mark more
mets_push : (from : ℕ) (marks : List Mark) (mark : Mark) (places : List ℕ) (place : ℕ) → length places ≡ length marks
    → mets_of from (marks ++ mark ∷ []) (places ++ place ∷ [])
    ≡ mets_of from marks places ++ met_at (from + length marks) (mark_word mark) place ∷ []
mets_push from [] mark [] place count =
    let same : from ≡ from + 0 = omega arith in ap (λ n. met_at n (mark_word mark) place ∷ []) same
mets_push from [] mark (p ∷ places) place count = absurd (omega (arith, count))
mets_push from (m ∷ marks) mark [] place count = absurd (omega (arith, count))
mets_push from (m ∷ marks) mark (p ∷ places) place count =
    let same : (from + 1) + length marks ≡ from + suc (length marks) = omega arith in
    ap (λ l. met_at from (mark_word m) p ∷ l)
    (mets_push (from + 1) marks mark places place (omega (arith, count))
    ∙ ap (λ n. mets_of (from + 1) marks places ++ met_at n (mark_word mark) place ∷ []) same)

last_push : (step from : ℕ) (marks : List Mark) (mark : Mark) (last : Option Glance)
    → last_of step from (marks ++ mark ∷ []) last
    ≡ Some (glance (step + length marks) (mark_at (from + length marks)) (mark_word mark))
last_push step from [] mark last =
    let at : from ≡ from + 0 = omega arith in let steps : step ≡ step + 0 = omega arith in
    ap (λ n. Some (glance n (mark_at from) (mark_word mark))) steps
    ∙ ap (λ n. Some (glance (step + 0) (mark_at n) (mark_word mark))) at
last_push step from (m ∷ marks) mark last =
    let at : (from + 1) + length marks ≡ from + suc (length marks) = omega arith in
    let steps : (step + 1) + length marks ≡ step + suc (length marks) = omega arith in
    last_push (step + 1) (from + 1) marks mark (Some (glance step (mark_at from) (mark_word m)))
    ∙ (ap (λ n. Some (glance n (mark_at ((from + 1) + length marks)) (mark_word mark))) steps
    ∙ ap (λ n. Some (glance (step + suc (length marks)) (mark_at n) (mark_word mark))) at)

pub none_met : (marks : List Mark) (v : View) → marks ≡ [] → HasMetAll marks v v
none_met marks v none = subst (λ l. HasMetAll l v v) (sym none) record {
  each = tt;
  parked = λ keeper. tt;
  places = [];
  count = refl;
  rises = λ x has place there. absurd cc;
  begun = λ keeper worker place there. absurd cc;
  is = let steps : v.steps ≡ v.steps + 0 = omega arith in
      ap (λ n. record v { steps = n; last = v.last; met = v.met }) steps
      ∙ ap (λ l. record v { steps = v.steps + 0; last = v.last; met = l }) (sym (append-nil v.met));
}

-- one mark more, of the next worker
last_more : (v : View) (from : ℕ) (marks : List Mark) (mark : Mark) → AreLast v from marks
    → (times (from + length marks) v.made ≡ 0
    → IsLastOf mark (get_or v.parked (from + length marks) bare_seat).marks)
    → AreLast v from (marks ++ mark ∷ [])
last_more v from [] mark all one =
    let at : from + 0 ≡ from = omega arith in
    (subst (λ n. times n v.made ≡ 0 → IsLastOf mark (get_or v.parked n bare_seat).marks) at one, tt)
last_more v from (m ∷ marks) mark all one =
    let at : from + suc (length marks) ≡ (from + 1) + length marks = omega arith in (
      all.0,
      last_more v (from + 1) marks mark all.1
          (subst (λ n. times n v.made ≡ 0 → IsLastOf mark (get_or v.parked n bare_seat).marks) at one),
    )

-- the mark that was loaded of a worker that isn't seated
one_last : (u v : View) (marks : List Mark) (mark : Mark) (at worker : ℕ) → at ≡ worker → (word : ℕ) {w : View}
    → HasMetAll marks u v → HasMet worker v word w → mark_word mark ≡ word → u.role ≡ Keeper
    → times at u.made ≡ 0 → IsLastOf mark (get_or u.parked at bare_seat).marks
one_last u v marks mark at worker same word h m spelled keeper unmade =
    let role : v.role ≡ Keeper = ap (λ (x : View). x.role) h.is ∙ keeper in
    let made : times worker v.made ≡ 0 =
    ap (λ (x : View). times worker x.made) h.is ∙ (ap (λ n. times n u.made) (sym same) ∙ unmade) in
    let last = m.parked role made in record {
      set = m.mark;
      last = subst (λ n. IsLast m.mark (get_or u.parked n bare_seat).marks) (sym same)
          (subst (λ (x : View). IsLast m.mark (get_or x.parked worker bare_seat).marks) h.is last);
      word = sym m.found ∙ sym spelled;
    }

at_end : (marks : List Mark) (worker : ℕ) → length marks ≡ worker → worker ≡ 0 + length marks
at_end marks worker count = omega (arith, count)

met_one : (marks : List Mark) (mark : Mark) (worker word : ℕ) (u v w : View) → length marks ≡ worker
    → HasMetAll marks u v → HasMet worker v word w → IsMark mark → mark_word mark ≡ word
    → HasMetAll (marks ++ mark ∷ []) u w
met_one marks mark worker word u v w count h m is spelled = record {
  each = all_push IsMark marks mark h.each is;
  parked = λ keeper. last_more u 0 marks mark (h.parked keeper) (λ unmade.
      one_last u v marks mark (0 + length marks) worker (sym (at_end marks worker count)) word h m spelled keeper
      unmade);
  places = h.places ++ m.place ∷ [];
  count = length-append h.places (m.place ∷ []) ∙ ap (λ n. n + 1) h.count ∙ sym (length-append marks (mark ∷ []));
  rises = λ x has place there. elim (at_push_cases h.places m.place x.worker place there) [
    | inl older ↦ h.rises x has place older
    | inr new ↦ subst (λ n. x.place ≤ n) new.1 (m.rises x (met_still x has) (new.0 ∙ many))
  ];
  begun = λ keeper at place there. elim (at_push_cases h.places m.place at place there) [
    | inl older ↦ h.begun keeper at place older
    | inr new ↦
        let role : v.role ≡ Keeper = ap (λ (x : View). x.role) h.is ∙ keeper in
        let low : length (get_or u.parked worker bare_seat).marks ≤ m.place + 1 =
        subst (λ (x : View). length (get_or x.parked worker bare_seat).marks ≤ m.place + 1) h.is (m.begun role) in
        subst (λ n. length (get_or u.parked at bare_seat).marks ≤ n + 1) new.1
        (subst (λ n. length (get_or u.parked n bare_seat).marks ≤ m.place + 1) (sym (new.0 ∙ many)) low)
  ];
  is = m.is ∙ (ap (λ (x : View). record x {
    steps = x.steps + 1;
    last = Some (glance x.steps (mark_at worker) word);
    met = x.met ++ met_at worker word m.place ∷ [];
  }) h.is ∙ (ap (λ n. record u {
    steps = n;
    last = Some (glance (u.steps + length marks) (mark_at worker) word);
    met = (u.met ++ mets_of 0 marks h.places) ++ met_at worker word m.place ∷ [];
  }) steps ∙ (ap (λ l. record u {
    steps = u.steps + length (marks ++ mark ∷ []);
    last = Some (glance (u.steps + length marks) (mark_at worker) word);
    met = l;
  }) met ∙ ap (λ g. record u {
    steps = u.steps + length (marks ++ mark ∷ []);
    last = g;
    met = u.met ++ mets_of 0 (marks ++ mark ∷ []) (h.places ++ m.place ∷ []);
  }) last)));
}
  where
    many : length h.places ≡ worker
    many = h.count ∙ count

    met_still : (x : Met) → Contains u.met x → Contains v.met x
    met_still x has = subst (λ (y : View). Contains y.met x) (sym h.is)
        (Contains-append_left u.met (mets_of 0 marks h.places) x has)

    last : Some (glance (u.steps + length marks) (mark_at worker) word) ≡ last_of u.steps 0 (marks ++ mark ∷ []) u.last
    last = ap (λ n. Some (glance (u.steps + length marks) (mark_at worker) n)) (sym spelled)
        ∙ (ap (λ n. Some (glance (u.steps + length marks) (mark_at n) (mark_word mark))) (at_end marks worker count)
        ∙ sym (last_push u.steps 0 marks mark u.last))

    steps : (u.steps + length marks) + 1 ≡ u.steps + length (marks ++ mark ∷ [])
    steps = let more = length-append marks (mark ∷ []) in omega arith

    met : (u.met ++ mets_of 0 marks h.places) ++ met_at worker word m.place ∷ []
        ≡ u.met ++ mets_of 0 (marks ++ mark ∷ []) (h.places ++ m.place ∷ [])
    met = append_assoc u.met (mets_of 0 marks h.places) (met_at worker word m.place ∷ [])
        ∙ ap (λ l. u.met ++ l) (ap (λ n. mets_of 0 marks h.places ++ met_at worker n m.place ∷ []) (sym spelled)
        ∙ (ap (λ n. mets_of 0 marks h.places ++ met_at n (mark_word mark) m.place ∷ []) (at_end marks worker count)
        ∙ sym (mets_push 0 marks mark h.places m.place h.count)))

-- the next worker's mark was loaded
pub met_more : (marks : List Mark) (mark : Mark) (worker word : ℕ) (u v w : View) → worker < length marks
    → HasMetAll (take worker marks) u v → HasMet worker v word w → IsMark mark → mark_word mark ≡ word
    → HasMetAll (take (worker + 1) (set marks worker mark)) u w
met_more marks mark worker word u v w less h m is spelled =
    subst (λ l. HasMetAll l u w) (sym (take_more_set marks worker mark less))
    (met_one (take worker marks) mark worker word u v w (length-take-le worker marks (omega arith)) h m is spelled)

-- it is still a pass that steps
pub met_active : (marks : List Mark) (v w : View) → IsActive v.role → HasMetAll marks v w → IsActive w.role
met_active marks v w active h = subst IsActive (sym (ap (λ (x : View). x.role) h.is)) active

-- all marks were loaded
pub met_all : (marks : List Mark) (count : ℕ) (v w : View) → length marks ≤ count → HasMetAll (take count marks) v w
    → HasMetAll marks v w
met_all marks count v w all h = subst (λ l. HasMetAll l v w) (taken_all marks count all) h
