-- Lines of the maintenance thread beside running workers, one after another.
use Rattle.std.proofs.Common.{◌≡◌, ◌∙◌, ◌≤◌, ◌+◌, ◌⊎◌, ◌++◌, ◌∷◌, inl, inr, sym, ap, subst, refl, ℕ, zero, suc, List, []}
use Rattle.std.proofs.Common.{get_or, length, Option, Some, None}
use Rattle.std.specs.Prelude.{replicate, slice_get}
use Rattle.std.proofs.Common.{append_assoc, arith}
use Rattle.std.specs.List.{Contains}
use Rattle.std.proofs.lemmas.List.{append-nil}
use Rattle.std.proofs.lemmas.Option.{same_Some}
use Rattle.lists.specs.Elements.{in_cases, in_head, in_none, in_tail}
use Rattle.lists.specs.Fronts.{IsFront, front_append, front_refl}
use Rattle.log_writer.specs.declared.vault.Vault.{Vault}
use Rattle.serial_model.specs.Decls.{AreDecls}
use Rattle.serial_model.specs.declared.decl.Decl.{Decl}
use Rattle.wire_form.specs.Words.{mark_word}
use Rattle.wire_form.specs.declared.clock.Mark.{Mark}
use Rattle.drop_core.specs.declared.grip.Grip.{Grip}
use Rattle.engine_pages.specs.Views.{IsResting, bare_seat}
use Rattle.engine_pages.specs.Times.{past_at}
use Rattle.engine_pages.specs.declared.layout.Layout.{Layout}
use Rattle.engine_pages.specs.declared.view.Dropped.{Dropped as Counts}
use Rattle.engine_pages.specs.declared.view.Met.{Met}
use Rattle.engine_pages.specs.declared.view.Role.{Role}
use Rattle.engine_pages.specs.declared.view.Role.TheVariants.{Keeper}
use Rattle.engine_pages.specs.declared.view.View.{View}
use Rattle.script_grammar.specs.declared.lines.KeeperLine.{KeeperLine}
use Rattle.tx_script.specs.Seen.{NeverBack, NoneBefore, first_places}
use Rattle.tx_script.specs.declared.answer.Answer.{Answer}
use Rattle.script_grammar.specs.Script.{Round, keeper_lines}
use Rattle.shared_rounds.specs.Below.{AreClaimed, HasMetAll, HasSeenEpoch, calls_for, met_at, mets_of}
use Rattle.shared_rounds.specs.Beside.{HoldsNothing, Went, went_none, went_then}
use Rattle.shared_rounds.specs.Published.{HasPages}
use Rattle.round_engine.specs.Keeping.{at_epoch, seen_unless, with_drops}
use Rattle.round_engine.specs.Sides.{growing_in}
use Rattle.round_engine.specs.Ends.{save_limited}
use Rattle.round_engine.specs.RoundCalls.{is_answered}
use Rattle.round_engine.specs.SideLines.{all_met, AllMetAt, bare_stands, CanKeepBeside, CanRunBeside, HasRunBeside}
use Rattle.round_engine.specs.SideLines.{HasSeenMarks, lent_at}
use Rattle.round_engine.specs.SideLines.{RunLinesBeside, StepsBeside, stands_in_view}
use Rattle.round_engine.specs.Standing.{RuntimeState}
use Rattle.round_engine.specs.declared.keeper.KeeperEnd.{KeeperEnd}
use Rattle.round_engine.specs.declared.keeper_side.Lent.{Lent}
use Rattle.round_engine.specs.declared.report.End.{End}
use Rattle.round_engine.proofs.KeeperSteps.{can_keep, keeper_begin, keeper_step}

-- ---- the pass

-- with somebody seated the keeper's load of the clock doesn't tell which epochs are past
pub past_stays : (role : Role) (made : List ℕ) (past epoch : ℕ) → role ≡ Keeper → (made ≡ [] → ⊥)
    → past_at role made past epoch ≡ past
past_stays role [] past epoch is some = absurd (some refl)
past_stays role (w ∷ more) past epoch is some = rw is refl

-- what the pass has claimed stays its own, where nothing of it changes
pub claimed_on : (v w : View) → w.layout ≡ v.layout → w.pages ≡ v.pages → w.fills ≡ v.fills → AreClaimed v → AreClaimed w
claimed_on v w layout pages fills c = record {
  has = λ n above most.
      let p = c.has n (omega (arith, above, ap length pages)) (omega (arith, most, ap (λ (x : Layout). x.resident) layout)) in
      (p.0, subst (λ l. Contains l p.0) (sym fills) p.1, p.2, p.3);
  long = λ x there. c.long x (subst (λ l. Contains l x) fills there);
}

-- the pass holds nothing still, where nothing of it changes
pub free_on : (v w : View) → w.grip ≡ v.grip → w.ways ≡ v.ways → w.took ≡ v.took → w.shuts ≡ v.shuts → w.heads ≡ v.heads
    → HoldsNothing v → HoldsNothing w
free_on v w grip ways took shuts heads f = record {
  holds = ap (λ (g : Grip). g.holds) grip ∙ f.holds;
  made = ap (λ (g : Grip). g.made) grip ∙ f.made;
  taken = ap (λ (g : Grip). g.taken) grip ∙ f.taken;
  ways = ways ∙ f.ways;
  took = took ∙ f.took;
  heads = heads ∙ f.heads;
  shuts = shuts ∙ f.shuts;
}

-- the clock was loaded
pub went_epoch : (v w : View) (epoch : ℕ) → v.role ≡ Keeper → HasSeenEpoch epoch v w → Went v w
went_epoch v w epoch keeper t = record {
  role = t.role;
  layout = t.layout;
  made = t.made;
  parked = t.parked;
  past = λ some. t.past ∙ past_stays v.role v.made v.past epoch keeper some;
  seat = t.seat;
  mine = t.mine;
  draws = t.draws;
  refused = t.refused;
  drops = subst (IsFront v.drops) (sym t.drops) (front_refl v.drops);
  touched = λ same. t.touched;
  blamed = t.blamed;
  seen = t.seen;
  epoch = omega (arith, t.now, t.rises);
  met = subst (IsFront v.met) (sym t.met) (front_refl v.met);
  claimed = claimed_on v w t.layout t.pages t.fills;
  free = free_on v w t.grip t.ways t.took t.shuts t.heads;
}

-- marks were met
pub went_met : (v w : View) (marks : List Mark) → HasMetAll marks v w → Went v w
went_met v w marks m = subst (Went v) (sym m.is) (record {
  role = refl;
  layout = refl;
  made = refl;
  parked = refl;
  past = λ some. refl;
  seat = refl;
  mine = refl;
  draws = refl;
  refused = refl;
  drops = front_refl v.drops;
  touched = λ same. refl;
  blamed = refl;
  seen = record { history = front_refl v.history; decided = front_refl v.decided };
  epoch = omega arith;
  met = front_append v.met (mets_of 0 marks m.places);
  claimed = λ c. record { has = c.has; long = c.long };
  free = λ f. record {
    holds = f.holds;
    made = f.made;
    taken = f.taken;
    ways = f.ways;
    took = f.took;
    heads = f.heads;
    shuts = f.shuts;
  };
})

-- pages were published
pub went_pages : (v w : View) (pages : List (List ℕ)) → HasPages pages v w → AreClaimed w → Went v w
went_pages v w pages is claimed = record {
  role = ap (λ (x : View). x.role) is;
  layout = ap (λ (x : View). x.layout) is;
  made = ap (λ (x : View). x.made) is;
  parked = ap (λ (x : View). x.parked) is;
  past = λ some. ap (λ (x : View). x.past) is;
  seat = ap (λ (x : View). x.seat) is;
  mine = ap (λ (x : View). x.mine) is;
  draws = ap (λ (x : View). x.draws) is;
  refused = ap (λ (x : View). x.refused) is;
  drops = subst (IsFront v.drops) (sym (ap (λ (x : View). x.drops) is)) (front_refl v.drops);
  touched = λ same. ap (λ (x : View). x.touched) is;
  blamed = ap (λ (x : View). x.blamed) is;
  seen = record {
    history = subst (IsFront v.history) (sym (ap (λ (x : View). x.history) is)) (front_refl v.history);
    decided = subst (IsFront v.decided) (sym (ap (λ (x : View). x.decided) is)) (front_refl v.decided);
  };
  epoch = omega (arith, ap (λ (x : View). x.epoch) is);
  met = subst (IsFront v.met) (sym (ap (λ (x : View). x.met) is)) (front_refl v.met);
  claimed = λ before. claimed;
  free = free_on v w (ap (λ (x : View). x.grip) is) (ap (λ (x : View). x.ways) is) (ap (λ (x : View). x.took) is)
      (ap (λ (x : View). x.shuts) is) (ap (λ (x : View). x.heads) is);
}

-- what is lent, where the engine has this epoch, so many slots, these pages, room for so many of them, and these counts
-- of drops
abbrev lent_on : List Decl → Lent → View → ℕ → ℕ → List (List ℕ) → ℕ → List Counts → RuntimeState
lent_on decls lent v epoch slots pages resident drops = record (lent_at decls lent v) {
  stands = bare_stands decls epoch slots pages resident drops;
}

-- what is lent stands the same where the pass knows the same of its engine
pub lent_same : (decls : List Decl) (lent : Lent) (v w : View) → w.epoch ≡ v.epoch → w.layout ≡ v.layout
    → w.pages ≡ v.pages → w.drops ≡ v.drops → lent_at decls lent w ≡ lent_at decls lent v
lent_same decls lent v w epoch layout pages drops =
    ap (λ (e : ℕ). lent_on decls lent v e w.layout.slots w.pages w.layout.resident w.drops) epoch
    ∙ ap (λ (l : List (List ℕ)). lent_on decls lent v v.epoch w.layout.slots l w.layout.resident w.drops) pages
    ∙ ap (λ (l : List Counts). lent_on decls lent v v.epoch w.layout.slots v.pages w.layout.resident l) drops
    ∙ ap (λ (l : Layout). lent_on decls lent v v.epoch l.slots v.pages l.resident v.drops) layout

-- so it does at a later epoch
pub lent_later : (decls : List Decl) (lent : Lent) (v w : View) → w.layout ≡ v.layout → w.pages ≡ v.pages
    → w.drops ≡ v.drops → at_epoch (lent_at decls lent v) w.epoch ≡ lent_at decls lent w
lent_later decls lent v w layout pages drops =
    ap (λ (l : List (List ℕ)). lent_on decls lent v w.epoch v.layout.slots l v.layout.resident v.drops) (sym pages)
    ∙ ap (λ (l : List Counts). lent_on decls lent v w.epoch v.layout.slots w.pages v.layout.resident l) (sym drops)
    ∙ ap (λ (l : Layout). lent_on decls lent v w.epoch l.slots w.pages l.resident w.drops) (sym layout)

-- and where some pages more are published
pub lent_published : (decls : List Decl) (lent : Lent) (v w : View) → w.epoch ≡ v.epoch → w.layout ≡ v.layout
    → w.drops ≡ v.drops
    → record (lent_at decls lent v) { stands = record (stands_in_view decls v) { pages = w.pages } } ≡ lent_at decls lent w
lent_published decls lent v w epoch layout drops =
    ap (λ (e : ℕ). lent_on decls lent v e v.layout.slots w.pages v.layout.resident v.drops) (sym epoch)
    ∙ ap (λ (l : List Counts). lent_on decls lent v w.epoch v.layout.slots w.pages v.layout.resident l) (sym drops)
    ∙ ap (λ (l : Layout). lent_on decls lent v w.epoch l.slots w.pages l.resident w.drops) (sym layout)

-- and where drops more are counted
pub lent_dropped : (decls : List Decl) (lent : Lent) (v w : View) → w.epoch ≡ v.epoch → w.layout ≡ v.layout
    → w.pages ≡ v.pages → with_drops (lent_at decls lent v) w.drops ≡ lent_at decls lent w
lent_dropped decls lent v w epoch layout pages =
    ap (λ (e : ℕ). lent_on decls lent v e v.layout.slots v.pages v.layout.resident w.drops) (sym epoch)
    ∙ ap (λ (l : List (List ℕ)). lent_on decls lent v w.epoch v.layout.slots l v.layout.resident w.drops) (sym pages)
    ∙ ap (λ (l : Layout). lent_on decls lent v w.epoch l.slots w.pages l.resident w.drops) (sym layout)

-- ---- marks that were met

-- what two lists one behind the other have
pub in_left : {A : Type 0} (xs ys : List A) (x : A) → Contains xs x → Contains (xs ++ ys) x
in_left [] ys x has = absurd (in_none x has)
in_left (y ∷ xs) ys x has = elim (in_cases x y xs has) [
  | inl same ↦ subst (Contains (y ∷ (xs ++ ys))) same (in_head y (xs ++ ys))
  | inr later ↦ in_tail x y (xs ++ ys) (in_left xs ys x later)
]

pub in_right : {A : Type 0} (xs ys : List A) (x : A) → Contains ys x → Contains (xs ++ ys) x
in_right [] ys x has = has
in_right (y ∷ xs) ys x has = in_tail x y (xs ++ ys) (in_right xs ys x has)

in_either : {A : Type 0} (xs ys : List A) (x : A) → Contains (xs ++ ys) x → Contains xs x ⊎ Contains ys x
in_either [] ys x has = inr has
in_either (y ∷ xs) ys x has = elim (in_cases x y (xs ++ ys) has) [
  | inl same ↦ inl (subst (Contains (y ∷ xs)) same (in_head y xs))
  | inr later ↦ elim (in_either xs ys x later) [ inl early ↦ inl (in_tail x y xs early) | inr late ↦ inr late ]
]

in_one : {A : Type 0} (y x : A) → Contains (y ∷ []) x → x ≡ y
in_one y x has = elim (in_cases x y [] has) [ inl same ↦ sym same | inr none ↦ absurd (in_none x none) ]

-- at each place of a list there is a mark of the same worker
met_in : (worker : ℕ) (marks : List Mark) (places : List ℕ) (j p : ℕ) → length marks ≡ length places
    → slice_get places j ≡ Some p
    → (x : Met) × Contains (mets_of worker marks places) x × (x.worker ≡ worker + j) × (x.place ≡ p)
met_in worker [] [] j p many at = absurd (let no = at in cc)
met_in worker [] (q ∷ places) j p many at = absurd (omega (arith, many))
met_in worker (m ∷ marks) [] j p many at = absurd (omega (arith, many))
met_in worker (m ∷ marks) (q ∷ places) zero p many at = (
  met_at worker (mark_word m) q,
  in_head (met_at worker (mark_word m) q) (mets_of (worker + 1) marks places),
  omega arith,
  same_Some q p at,
)
met_in worker (m ∷ marks) (q ∷ places) (suc j) p many at =
    let x = met_in (worker + 1) marks places j p (omega (arith, many)) at in
    (x.0, in_tail x.0 (met_at worker (mark_word m) q) (mets_of (worker + 1) marks places) x.1, omega (arith, x.2), x.3)

-- and so it is list by list
all_met_in : (v : View) (seen : List (List Mark)) (places : List (List ℕ)) (these : List ℕ) (j p : ℕ) → AllMetAt v seen places
    → Contains places these → slice_get these j ≡ Some p
    → (x : Met) × Contains (all_met seen places) x × (x.worker ≡ j) × (x.place ≡ p)
all_met_in v [] [] these j p all has at = absurd (in_none these has)
all_met_in v [] (t ∷ places) these j p all has at = absurd all
all_met_in v (m ∷ seen) [] these j p all has at = absurd all
all_met_in v (m ∷ seen) (t ∷ places) these j p all has at = elim (in_cases these t places has) [
  | inl same ↦
      let x = met_in 0 m t j p (all.0.eight ∙ sym all.0.count) (subst (λ l. slice_get l j ≡ Some p) (sym same) at) in
      (x.0, in_left (mets_of 0 m t) (all_met seen places) x.0 x.1, omega (arith, x.2), x.3)
  | inr later ↦
      let x = all_met_in v seen places these j p all.1 later at in
      (x.0, in_right (mets_of 0 m t) (all_met seen places) x.0 x.1, x.2, x.3)
]

met_append : (v : View) (seen more : List (List Mark)) (places others : List (List ℕ)) → AllMetAt v seen places
    → all_met (seen ++ more) (places ++ others) ≡ all_met seen places ++ all_met more others
met_append v [] more [] others all = refl
met_append v [] more (p ∷ places) others all = absurd all
met_append v (m ∷ seen) more [] others all = absurd all
met_append v (m ∷ seen) more (p ∷ places) others all =
    ap (λ l. mets_of 0 m p ++ l) (met_append v seen more places others all.1)
    ∙ sym (append_assoc (mets_of 0 m p) (all_met seen places) (all_met more others))

-- the same where the pass knew as many marks of each worker as it seated them
parked_met : (v u : View) (more : List (List Mark)) (others : List (List ℕ)) → u.parked ≡ v.parked
    → AllMetAt u more others → AllMetAt v more others
parked_met v u [] [] same next = tt
parked_met v u [] (t ∷ others) same next = next
parked_met v u (m ∷ more) [] same next = next
parked_met v u (m ∷ more) (t ∷ others) same next = (
  record {
    each = next.0.each;
    eight = next.0.eight;
    count = next.0.count;
    begun = λ worker place at. subst (λ l. length (get_or l worker bare_seat).marks ≤ place + 1) same
        (next.0.begun worker place at);
  },
  parked_met v u more others same next.1,
)

-- the marks that were met behind others
both_met : (v u : View) (seen more : List (List Mark)) (places others : List (List ℕ)) → u.parked ≡ v.parked
    → AllMetAt v seen places → AllMetAt u more others → AllMetAt v (seen ++ more) (places ++ others)
both_met v u [] more [] others same all next = parked_met v u more others same next
both_met v u [] more (t ∷ places) others same all next = absurd all
both_met v u (m ∷ seen) more [] others same all next = absurd all
both_met v u (m ∷ seen) more (t ∷ places) others same all next = (all.0, both_met v u seen more places others same all.1 next)

-- places that are none before others, one by one
pub none_before : (these others : List ℕ) → length these ≡ length others
    → ((j p q : ℕ) → slice_get these j ≡ Some p → slice_get others j ≡ Some q → p ≤ q) → NoneBefore these others
none_before [] [] many each = tt
none_before [] (q ∷ others) many each = absurd (omega (arith, many))
none_before (p ∷ these) [] many each = absurd (omega (arith, many))
none_before (p ∷ these) (q ∷ others) many each =
    (each 0 p q refl refl, none_before these others (omega (arith, many)) (λ j a b at there. each (suc j) a b at there))

-- the last places, or else those before them
abbrev pub last_places : List ℕ → List (List ℕ) → List ℕ
last_places low [] = low
last_places low (these ∷ more) = last_places these more

back_then : (low : List ℕ) (places others : List (List ℕ)) → NeverBack low places
    → NeverBack (last_places low places) others → NeverBack low (places ++ others)
back_then low [] others back next = next
back_then low (these ∷ places) others back next = (back.0, back_then these places others back.1 next)

-- from other places on, which are none behind the first
back_from : (low from : List ℕ) (places : List (List ℕ)) → NeverBack low places
    → ((these : List ℕ) → Contains places these → NoneBefore from these) → NeverBack from places
back_from low from [] back each = tt
back_from low from (these ∷ places) back each = (each these (in_head these places), back.1)

last_in : (low : List ℕ) (places : List (List ℕ)) → (last_places low places ≡ low) ⊎ Contains places (last_places low places)
last_in low [] = inl refl
last_in low (these ∷ places) = elim (last_in these places) [
  | inl same ↦ inr (subst (Contains (these ∷ places)) (sym same) (in_head these places))
  | inr later ↦ inr (in_tail (last_places these places) these places later)
]

each_many : (v : View) (seen : List (List Mark)) (places : List (List ℕ)) (these : List ℕ) → AllMetAt v seen places
    → Contains places these → length these ≡ 8
each_many v [] [] these all has = absurd (in_none these has)
each_many v [] (t ∷ places) these all has = absurd all
each_many v (m ∷ seen) [] these all has = absurd all
each_many v (m ∷ seen) (t ∷ places) these all has = elim (in_cases these t places has) [
  | inl same ↦ ap length (sym same) ∙ all.0.count
  | inr later ↦ each_many v seen places these all.1 later
]

-- no place is before the first
pub first_before : (n : ℕ) (these : List ℕ) → length these ≡ n → NoneBefore (replicate n 0) these
first_before zero [] many = tt
first_before zero (p ∷ these) many = absurd (omega (arith, many))
first_before (suc n) [] many = absurd (omega (arith, many))
first_before (suc n) (p ∷ these) many = (omega arith, first_before n these (omega (arith, many)))

-- none
pub saw_none : (v w : View) → w.met ≡ v.met → HasSeenMarks [] v w
saw_none v w same = record {
  places = [];
  all = tt;
  back = tt;
  rises = λ x has these in_these. absurd (in_none these in_these);
  met = same ∙ sym (append-nil v.met);
}

-- some, and then others
pub saw_then : (seen more : List (List Mark)) (v u w : View) → u.parked ≡ v.parked → HasSeenMarks seen v u
    → HasSeenMarks more u w → HasSeenMarks (seen ++ more) v w
saw_then seen more v u w parked first next = record {
  places = first.places ++ next.places;
  all = both_met v u seen more first.places next.places parked first.all next.all;
  back = back_then first_places first.places next.places first.back
      (back_from first_places (last_places first_places first.places) next.places next.back behind);
  rises = λ x has these in_these place at. elim (in_either first.places next.places these in_these) [
    | inl early ↦ first.rises x has these early place at
    | inr late ↦ next.rises x (known x has) these late place at
  ];
  met = next.met ∙ ap (λ l. l ++ all_met more next.places) first.met
      ∙ append_assoc v.met (all_met seen first.places) (all_met more next.places)
      ∙ ap (λ l. v.met ++ l) (sym (met_append v seen more first.places next.places first.all));
}
  where
    known : (x : Met) → Contains v.met x → Contains u.met x
    known x has = subst (λ l. Contains l x) (sym first.met) (in_left v.met (all_met seen first.places) x has)

    behind : (these : List ℕ) → Contains next.places these → NoneBefore (last_places first_places first.places) these
    behind these has =
        let many = each_many u more next.places these next.all has in
        elim (last_in first_places first.places) [
          | inl same ↦ subst (λ l. NoneBefore l these) (sym same) (first_before 8 these many)
          | inr there ↦ none_before (last_places first_places first.places) these
              (each_many v seen first.places (last_places first_places first.places) first.all there ∙ sym many)
              (λ j p q at then_at.
              let x = all_met_in v seen first.places (last_places first_places first.places) j p first.all there at in
              let met : Contains u.met x.0 = subst (λ l. Contains l x.0) (sym first.met)
              (in_right v.met (all_met seen first.places) x.0 x.1) in
              omega (
                arith,
                x.3,
                next.rises x.0 met these has q (ap (λ w. slice_get these w) x.2 ∙ then_at),
              ))
        ]

-- those of all workers, once
pub saw_marks : (marks : List Mark) (v u w : View) → v.role ≡ Keeper → u.role ≡ v.role → u.parked ≡ v.parked
    → length marks ≡ 8 → u.met ≡ v.met → HasMetAll marks u w → HasSeenMarks (marks ∷ []) v w
saw_marks marks v u w keeper role parked eight same m = record {
  places = m.places ∷ [];
  all = (
    record {
      each = m.each;
      eight = eight;
      count = m.count ∙ eight;
      begun = λ worker place at. subst (λ l. length (get_or l worker bare_seat).marks ≤ place + 1) parked
          (m.begun (role ∙ keeper) worker place at);
    },
    tt,
  );
  back = (first_before 8 m.places (m.count ∙ eight), tt);
  rises = λ x has these in_these place at.
      m.rises x (subst (λ l. Contains l x) (sym same) has) place
      (subst (λ l. slice_get l x.worker ≡ Some place) (in_one m.places these in_these) at);
  met = ap (λ (x : View). x.met) m.is ∙ ap (λ l. l ++ mets_of 0 marks m.places) same
      ∙ ap (λ l. v.met ++ l) (sym (append-nil (mets_of 0 marks m.places)));
}

-- ---- lines

module _ {D : Type 0} {tells : D → Option (List ℕ)} {clock : D → ℕ} {image_at : D → ℕ → List ℕ → Type 0} {faults : D → ℕ}
    (decls : List Decl) (old : Lent) (v : View) (before : Vault D)
    (ready : CanKeepBeside tells clock image_at decls old v before) where
  -- no line so far
  pub beside_begin : RunLinesBeside tells clock image_at faults decls [] [] None old old v v before before
  beside_begin = record {
    seen = [];
    runs = keeper_begin (lent_at decls old v) before ready.can;
    saw = saw_none v v refl;
    went = went_none v;
  }

  module _ {lines : List KeeperLine} {said : List Answer} {mid : Lent} {u : View} {between : Vault D} where
    -- lines that were not refused leave what the next one needs
    pub beside_can : RunLinesBeside tells clock image_at faults decls lines said None old mid v u before between
        → CanKeepBeside tells clock image_at decls mid u between
    beside_can b = record {
      apart = ap (λ s. growing_in s between) b.runs.leaves.side ∙ b.runs.leaves.over.growing ∙ ready.apart;
      can = can_keep ready.can b.runs;
      decls = ap (λ (x : Layout). x.decls) b.went.layout ∙ ready.decls;
      past = λ some.
          let before : v.made ≡ [] → ⊥ = λ none. some (b.went.made ∙ none) in
          let over = ready.past before in
          let same = b.went.past before in
          let shut = b.runs.leaves.closed_at in omega (arith, over, same, shut);
      few = omega (arith, ready.few, ap (λ (x : Layout). x.resident) b.went.layout);
      claimed = b.went.claimed ready.claimed;
      rests = subst IsResting (sym b.went.seat) ready.rests;
      free = b.went.free ready.free;
      declared = subst (λ (x : Layout). AreDecls x.decls) (sym b.went.layout) ready.declared;
    }

    -- A line is answered.
    pub beside_step : (refusal : Option End) (line : KeeperLine) (answer : Answer) (next : Option End) {new : Lent}
        {w : View} {now : Vault D}
        → RunLinesBeside tells clock image_at faults decls lines said refusal old mid v u before between
        → StepsBeside tells clock image_at faults decls refusal line answer next mid new u w between now
        → RunLinesBeside tells clock image_at faults decls (lines ++ line ∷ []) (said ++ answer ∷ []) next old new v w before
        now
    beside_step refusal line answer next {w = w} b step = record {
      seen = b.seen ++ seen_unless refusal line step.marks;
      runs = keeper_step ready.can step.marks refusal line answer next b.runs step.steps;
      saw = saw_then b.seen (seen_unless refusal line step.marks) v u w b.went.parked b.saw step.saw;
      went = went_then v u w b.went step.went;
    }

-- where there is no line, nothing was run
pub ran_none : {D : Type 0} {tells : D → Option (List ℕ)} {clock : D → ℕ} {image_at : D → ℕ → List ℕ → Type 0} {faults : D → ℕ}
    (round : Round) (lent : Lent) (vault : Vault D) (said : List Answer) (room : ℕ) (end : KeeperEnd) (v : View)
    → CanRunBeside tells clock image_at round lent vault said room end v → keeper_lines round ≡ []
    → HasRunBeside tells clock image_at faults round lent lent vault vault said end v v
ran_none {tells = tells} {clock} {image_at} {faults} round lent vault said room end v can none = record {
  runs = subst (λ lines. RunLinesBeside tells clock image_at faults v.layout.decls lines said end.refusal lent lent v v vault
      vault) (sym none)
      (subst (λ a. RunLinesBeside tells clock image_at faults v.layout.decls [] a end.refusal lent lent v v vault vault)
      (sym can.none)
      (subst (λ e. RunLinesBeside tells clock image_at faults v.layout.decls [] [] e lent lent v v vault vault)
      (sym can.refusal) (beside_begin v.layout.decls lent v vault can.ready)));
  limited = can.limited ∙ sym (ap (λ lines. save_limited lines said) none);
  calls = can.calls ∙ ap (calls_for is_answered 255 0) (sym can.none);
}
