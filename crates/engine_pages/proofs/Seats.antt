-- Seats by their numbers, and what an act of one seat leaves of the machine's state and of other views.
use Rattle.std.proofs.Common.{◌≡◌, ◌≢◌, ℕ, zero, suc, ◌+◌, ◌<◌, ◌≤◌, Bool, true, false, true≢false, cond, eq-eqb}
use Rattle.std.proofs.Common.{ne_eqb, ◌⊎◌, inl, inr, List, [], ◌∷◌, ◌++◌, length, drop, refl, sym, ap, ◌∙◌}
use Rattle.std.proofs.Common.{subst, arith, Option, Some, None, IfSome}
use Rattle.std.specs.Prelude.{◌||◌, not}
use Rattle.std.specs.List.{slice_get, Contains}
use Rattle.std.proofs.lemmas.Bool.Decides.{nat_tests}
use mathlib.Core.Logic.{dite}
use native.Mathlib.Decide.{ℕ_discrete}
use Rattle.lists.specs.Elements.{in_cases, in_head, in_tail, in_none, any_is, any_in}
use Rattle.lists.specs.Fronts.{IsFront, front_from, front_rest, front_then}
use Rattle.serial_model.specs.declared.decl.Decl.{Decl}
use Rattle.serial_model.specs.declared.key.Key.{Key}
use Rattle.serial_model.specs.declared.number.Number.{Number}
use Rattle.homes.specs.declared.places.Content.{Content}
use Rattle.homes.specs.declared.places.Holder.TheVariants.{Dead, Held}
use Rattle.homes.specs.declared.places.Home.{Home}
use Rattle.homes.specs.declared.places.Home.TheVariants.{InSlot, InPage, Nowhere}
use Rattle.homes.specs.declared.places.Spot.{Spot}
use Rattle.commit_core.specs.declared.place.Place.{Place}
use Rattle.commit_core.specs.declared.part.Word.{Word}
use Rattle.commit_core.specs.declared.part.Word.TheVariants.{Record}
use Rattle.commit_core.specs.declared.part.Part.{Part}
use Rattle.commit_core.specs.declared.attempt.Attempt.{Attempt}
use Rattle.commit_core.specs.declared.attempt.Check.{Check}
use Rattle.commit_core.specs.declared.seat.Mark.{Mark}
use Rattle.commit_core.specs.declared.seat.Seat.{Seat}
use Rattle.commit_core.specs.declared.seat.Stage.{Stage}
use Rattle.commit_core.specs.declared.seat.Stage.TheVariants.{Idle, Trying, Ended, Decided}
use Rattle.commit_core.specs.declared.story.Story.{Story}
use Rattle.commit_core.specs.Keys.{nothing, same_number}
use Rattle.commit_core.specs.Places.{place_of, home_of, stands_at, holder_is}
use Rattle.commit_core.specs.Parts.{record_part}
use Rattle.commit_core.specs.CoreState.{is_checked, is_decided, is_given_up, is_in_progress}
use Rattle.drop_core.specs.declared.table.Led.{Led}
use Rattle.drop_core.specs.declared.table.Led.TheVariants.{Never, From, Away}
use Rattle.drop_core.specs.declared.table.Table.{Table}
use Rattle.drop_core.specs.Table.{slot_of, page_of, header_of, leaf_place, leaf_home, is_led, is_never}
use Rattle.homes.specs.Homes.{same_key}
use Rattle.engine_rule.specs.Sound.{IsSound, HasRecords, FitsWord, IsHeld as WordHeld}
use Rattle.commit_core.specs.Opening.{IsPrefix, Grows}
use Rattle.commit_core.specs.Sound.Reads.{IsVersion}
use Rattle.commit_core.specs.Lemmas.Shows.{up_then_up}
use Rattle.wire_form.specs.Words.{number_word}
use Rattle.views.specs.Sums.{times}
use Rattle.engine_pages.specs.declared.layout.Layout.{Layout}
use Rattle.engine_pages.specs.declared.view.Loaded.{Loaded}
use Rattle.engine_pages.specs.declared.view.Met.{Met}
use Rattle.engine_pages.specs.declared.view.Took.{Took}
use Rattle.engine_pages.specs.declared.view.Version.{Version}
use Rattle.engine_pages.specs.declared.view.Role.{Role}
use Rattle.engine_pages.specs.declared.view.Role.TheVariants.{Keeper, Worker, Note, Spent}
use Rattle.engine_pages.specs.declared.view.View.{View}
use Rattle.engine_rule.specs.Stays.{IsPlaceOf, StoryStays}
use Rattle.engine_pages.specs.Pages.{is_array}
use Rattle.engine_pages.specs.Stays.{IsKnown}
use Rattle.engine_pages.specs.Views.{IsAt, IsActive, IsResting, HasPart, seat_number, sits, sits_by}
use Rattle.engine_pages.specs.Rule.{Shared, joint_of, KeptAreRecords, StillLoaded, Tried, IsHeld, IsOwn}
use Rattle.engine_pages.specs.Rule.{IsPast, IsBitAt, IsOneOf, WasMarked, Fits}
use Rattle.engine_pages.specs.Words.{IsOverwritten}
use Rattle.views.specs.ByNumber.{put_at}
use Rattle.engine_pages.proofs.Joint.{kept_sound}

-- ---- seats by their numbers

pub by_equal : (y i : ℕ) (P : ℕ → Type 0) → P i → (y ≢ i → P y) → P y
by_equal y i P same other = dite (ℕ_discrete y i) (λ e. subst P (sym e) same) other

-- the seats, where this one is now so
abbrev pub put_seat : (ℕ → Seat) → ℕ → Seat → ℕ → Seat
put_seat seats p s = put_at seats p s

pub put_same : {A : Type 0} (f : ℕ → A) (p : ℕ) (x : A) (q : ℕ) → q ≡ p → put_at f p x q ≡ x
put_same f p x q e = ap (λ (b : Bool). cond b x (f q)) (eq-eqb q p e)

pub put_other : {A : Type 0} (f : ℕ → A) (p : ℕ) (x : A) (q : ℕ) → q ≢ p → put_at f p x q ≡ f q
put_other f p x q e = ap (λ (b : Bool). cond b x (f q)) (ne_eqb q p e)

-- a seat's number is that of the keeper or of one of eight workers
pub few_seats : (role : Role) → IsActive role → (made : List ℕ) (due : Bool) (stage : Stage) (mine : List Attempt)
    → HasPart role made due stage mine → seat_number role < 9
few_seats Keeper active made due stage mine part = omega arith
few_seats (Worker w) active made due stage mine part = let few = part.0 in omega arith
few_seats Note active made due stage mine part = absurd active
few_seats Spent active made due stage mine part = absurd active

pub at_number : (p : ℕ) (role : Role) → IsAt p role → p ≡ seat_number role
at_number p Keeper at = at
at_number p (Worker w) at = at
at_number p Note at = absurd at
at_number p Spent at = absurd at

pub is_at : (role : Role) → IsActive role → IsAt (seat_number role) role
is_at Keeper active = refl
is_at (Worker w) active = refl
is_at Note active = absurd active
is_at Spent active = absurd active

pub sits_here : (p : ℕ) (role : Role) → IsAt p role → sits_by p role ≡ 1
sits_here p Keeper at = ap (λ (b : Bool). cond b 1 0) (eq-eqb 0 p (sym at))
sits_here p (Worker w) at = ap (λ (b : Bool). cond b 1 0) (eq-eqb (suc w) p (sym at))
sits_here p Note at = absurd at
sits_here p Spent at = absurd at

-- ---- what grows

pub front_of : {A : Type 0} (xs ys zs : List A) → IsFront xs ys → IsPrefix ys zs → IsFront xs zs
front_of xs ys zs front grown = front_then xs ys zs front (front_from ys grown.0 zs grown.1)

in_longer : {A : Type 0} (x : A) (xs zs : List A) → Contains xs x → Contains (xs ++ zs) x
in_longer x [] zs has = absurd (in_none x has)
in_longer x (y ∷ xs) zs has =
    elim (in_cases x y xs has) [
      | inl e ↦ subst (λ w. Contains (y ∷ (xs ++ zs)) w) e (in_head y (xs ++ zs))
      | inr more ↦ in_tail x y (xs ++ zs) (in_longer x xs zs more)
    ]

pub in_grown : {A : Type 0} (xs ys : List A) (x : A) → IsPrefix xs ys → Contains xs x → Contains ys x
in_grown xs ys x grown has = subst (λ l. Contains l x) grown.1 (in_longer x xs grown.0 has)

at_longer : {A : Type 0} (xs zs : List A) (i : ℕ) (x : A) → slice_get xs i ≡ Some x → slice_get (xs ++ zs) i ≡ Some x
at_longer [] zs i x e = cc
at_longer (y ∷ ys) zs zero x e = e
at_longer (y ∷ ys) zs (suc i) x e = at_longer ys zs i x e

pub in_front : {A : Type 0} (xs ys : List A) (x : A) → IsFront xs ys → Contains xs x → Contains ys x
in_front xs ys x front has =
    subst (λ l. Contains l x) (front_rest xs ys front) (in_longer x xs (drop (length xs) ys) has)

-- it stands at some place
pub in_at : {A : Type 0} (xs : List A) (x : A) → Contains xs x → (i : ℕ) × (slice_get xs i ≡ Some x)
in_at [] x has = absurd (in_none x has)
in_at (y ∷ xs) x has =
    elim (in_cases x y xs has) [
      | inl e ↦ (0, ap Some e)
      | inr more ↦ let there = in_at xs x more in (suc there.0, there.1)
    ]

pub named_front : (xs ys : List Number) (n : Number) → IsFront xs ys → is_decided xs n ≡ true → is_decided ys n ≡ true
named_front xs ys n front named =
    let one = any_is (λ m. same_number m n) xs named in
    any_in (λ m. same_number m n) ys one.0 (in_front xs ys one.0 front one.1) one.2

-- what is own stays so for who has seen more
pub own_longer : (role : Role) (h h' : List Attempt) (d d' : List Number) (a : Attempt) → IsFront h h' → IsFront d d'
    → IsOwn role h d a → IsOwn role h' d' a
own_longer role h h' d d' a history decided own = record {
  drawn = in_front h h' a history own.drawn;
  counts = named_front d d' a.number decided own.counts;
  by = own.by;
}

pub at_front : {A : Type 0} (xs ys : List A) (i : ℕ) (x : A) → IsFront xs ys → slice_get xs i ≡ Some x → slice_get ys i ≡ Some x
at_front xs ys i x front at =
    subst (λ l. slice_get l i ≡ Some x) (front_rest xs ys front)
    (at_longer xs (drop (length xs) ys) i x at)

-- what is decided or given up stays so
pub named_grown : (xs ys : List Number) (n : Number) → IsPrefix xs ys → is_decided xs n ≡ true → is_decided ys n ≡ true
named_grown xs ys n grown named =
    let one = any_is (λ m. same_number m n) xs named in
    any_in (λ m. same_number m n) ys one.0 (in_grown xs ys one.0 grown one.1) one.2

-- what is in progress was so before, if it was drawn
pub was_in_progress : (m n : Story) (a : Number) → Grows m n → is_in_progress n.decided n.given_up a ≡ true
    → is_in_progress m.decided m.given_up a ≡ true
was_in_progress m n a g now =
    by_tests (is_decided m.decided a) refl (is_given_up m.given_up a) refl
  where
    by_tests : (b : Bool) → is_decided m.decided a ≡ b → (d : Bool) → is_given_up m.given_up a ≡ d
        → is_in_progress m.decided m.given_up a ≡ true
    by_tests true is d given =
        let later = named_grown m.decided n.decided a g.decided is in
        absurd (true≢false (sym now ∙ ap (λ (x : Bool). not (x || is_given_up n.given_up a)) later))
    by_tests false is true given =
        let later = named_grown m.given_up n.given_up a g.given_up given in grind (arith, nat_tests)
    by_tests false is false given = grind (arith, nat_tests)

-- ---- slots of what is kept and locked

led_known : (led : Led) → is_led led ≡ true → is_never led ≡ false
led_known Never e = absurd (true≢false (sym e))
led_known (From y) e = refl
led_known Away e = refl

-- a home is in a slot that something leads to
pub home_known : (l : Layout) (s : Shared) (k : Key) (x : Spot) → IsSound (joint_of l s) → home_of s.story.homes k ≡ InSlot x
    → IsKnown s.table x.slot
home_known l s k x sound home =
    led_known (slot_of s.table x.slot).led (sound.pages.table.one_home_each.own k x home).led

-- something leads to a page whose header is held
pub locked_known : (l : Layout) (s : Shared) (t p : ℕ) → IsSound (joint_of l s) → header_of s.table t ≡ Held p
    → IsKnown s.table t
locked_known l s t p sound locked = led_known (slot_of s.table t).led (sound.pages.held.headers t p locked).1

-- the slot of a word, where it is a record's
held_known : (d : Table) (holds : List ℕ) (w : Word) (x : Spot) → w ≡ Record x → WordHeld d holds w → IsKnown d x.slot
held_known d holds w x is held =
    let there : WordHeld d holds (Record x) = subst (WordHeld d holds) is held in there.1

pub kept_known : (l : Layout) (s : Shared) (u : View) → IsSound (joint_of l s) → Fits l s.story s.seats u → (part : Part)
    → Contains u.seat.kept part → (x : Spot) → part.word ≡ Record x → IsKnown s.table x.slot
kept_known l s u sound f part has x is = by_role u.role refl
  where
    at_seat : IsActive u.role → IsKnown s.table x.slot
    at_seat active =
        let q = seat_number u.role in
        let few = few_seats u.role active u.made u.due u.seat.stage u.mine f.part in
        let own = f.own q (is_at u.role active) in
        held_known s.table (s.grips q).holds part.word x is
        ((kept_sound l s q few sound).kept_is_held part (subst (λ (t : Seat). Contains t.kept part) own.seat has))

    by_role : (r : Role) → u.role ≡ r → IsKnown s.table x.slot
    by_role Keeper e = at_seat (subst IsActive (sym e) tt)
    by_role (Worker w) e = at_seat (subst IsActive (sym e) tt)
    by_role Note e =
        absurd (in_none part (subst (λ (z : List Part). Contains z part) (ap (λ (z : Seat). z.kept) (f.unkept (λ active. subst IsActive e active)).0) has))
    by_role Spent e =
        absurd (in_none part (subst (λ (z : List Part). Contains z part) (ap (λ (z : Seat). z.kept) (f.unkept (λ active. subst IsActive e active)).0) has))

-- a home is a record's place
home_within : (t i : ℕ) (keys : List Key) (k : Key) (x : Spot) → leaf_home t i keys k ≡ InSlot x → x.index < i + length keys
home_within t i [] k x e = absurd (cc)
home_within t i (q ∷ keys) k x e = by_test (same_key q k) refl (λ rest. home_within t (suc i) keys k x rest)
  where
    index_of : Home → ℕ
    index_of (InSlot y) = y.index
    index_of (InPage n c) = 0
    index_of Nowhere = 0

    by_test : (c : Bool) → same_key q k ≡ c → (leaf_home t (suc i) keys k ≡ InSlot x → x.index < suc i + length keys)
        → x.index < i + length (q ∷ keys)
    by_test true hit rest =
        let same : InSlot (record { slot = t; index = i }) ≡ InSlot x =
        sym (ap (λ c. cond c (leaf_place t i) (leaf_home t (suc i) keys k)) hit) ∙ e in
        let index : i ≡ x.index = ap index_of same in omega arith
    by_test false miss rest =
        let low = rest (sym (ap (λ c. cond c (leaf_place t i) (leaf_home t (suc i) keys k)) miss) ∙ e) in omega arith

pub home_placed : (l : Layout) (s : Shared) (k : Key) (x : Spot) → IsSound (joint_of l s) → home_of s.story.homes k ≡ InSlot x
    → IsPlaceOf s.table x
home_placed l s k x sound home =
    let own = sound.pages.table.one_home_each.own k x home in
    let low = home_within x.slot 0 own.keys k x own.at in record {
      known = home_known l s k x sound home;
      there = inr (own.keys, own.page, (omega arith));
    }

pub kept_placed : (l : Layout) (s : Shared) (u : View) → IsSound (joint_of l s) → Fits l s.story s.seats u → (part : Part)
    → Contains u.seat.kept part → (x : Spot) → part.word ≡ Record x → IsPlaceOf s.table x
kept_placed l s u sound f part has x is =
    record { known = kept_known l s u sound f part has x is; there = by_role u.role refl }
  where
    at_seat : IsActive u.role → HasRecords (page_of s.table x.slot) (x.index + 1)
    at_seat active =
        let q = seat_number u.role in
        let few = few_seats u.role active u.made u.due u.seat.stage u.mine f.part in
        let own = f.own q (is_at u.role active) in
        subst (FitsWord s.table part) is
        ((kept_sound l s q few sound).kept_fits part (subst (λ (t : Seat). Contains t.kept part) own.seat has))

    by_role : (r : Role) → u.role ≡ r → HasRecords (page_of s.table x.slot) (x.index + 1)
    by_role Keeper e = at_seat (subst IsActive (sym e) tt)
    by_role (Worker w) e = at_seat (subst IsActive (sym e) tt)
    by_role Note e =
        absurd (in_none part (subst (λ (z : List Part). Contains z part) (ap (λ (z : Seat). z.kept) (f.unkept (λ active. subst IsActive e active)).0) has))
    by_role Spent e =
        absurd (in_none part (subst (λ (z : List Part). Contains z part) (ap (λ (z : Seat). z.kept) (f.unkept (λ active. subst IsActive e active)).0) has))

-- ---- a view of another seat stays true

pub tried_longer : (p : ℕ) (old new : List Attempt) (checks : List Check) (checked : List Word) (mine : List Attempt)
    (stage : Stage) → IsFront old new → Tried p old checks checked mine stage → Tried p new checks checked mine stage
tried_longer p old new checks checked mine Idle front h = tt
tried_longer p old new checks checked mine (Trying i) front h =
    (h.0, record { at = at_front old new i h.0 front h.1.at; own = h.1.own; exact = h.1.exact; above = h.1.above })
tried_longer p old new checks checked mine Ended front h = tt
tried_longer p old new checks checked mine (Decided i) front h = (h.0, at_front old new i h.0 front h.1)

-- the checks of the others' attempts stay
abbrev ChecksStay : ℕ → Story → Story → Type 0
ChecksStay p m n = (i : ℕ) (a : Attempt) → slice_get m.history i ≡ Some a → (a.seat ≡ p → ⊥) → (w : Word)
    → is_checked n.checks a.number w ≡ is_checked m.checks a.number w

tried_stays : (m n : Story) (p q : ℕ) (history : List Attempt) (checked : List Word) (mine : List Attempt) (stage : Stage)
    → ChecksStay p m n → q ≢ p → IsFront history m.history → Tried q history m.checks checked mine stage
    → Tried q history n.checks checked mine stage
tried_stays m n p q history checked mine Idle checks other front h = tt
tried_stays m n p q history checked mine (Trying i) checks other front h = (
  h.0,
  record {
    at = h.1.at;
    own = h.1.own;
    exact = λ w. checks i h.0 (at_front history m.history i h.0 front h.1.at) (λ e. other (sym h.1.own ∙ e)) w
        ∙ h.1.exact w;
    above = h.1.above;
  },
)
tried_stays m n p q history checked mine Ended checks other front h = tt
tried_stays m n p q history checked mine (Decided i) checks other front h = h

loaded_stays : (m n : Story) (kept : List Part) (o : Option Loaded) → Grows m n
    → ((k : Key) (x : Spot) (c : Content) → Contains kept (record_part k x c) → (place_of m.places x).holder ≡ Dead
    → place_of n.places x ≡ place_of m.places x)
    → IfSome o (StillLoaded m.history m.decided m.places kept) → IfSome o (StillLoaded n.history n.decided n.places kept)
loaded_stays m n kept None g dead h = tt
loaded_stays m n kept (Some l) g dead h = λ c has. elim (h c has) [
  | inl same ↦ inl same
  | inr later ↦ elim later [
    | inl over ↦ inr (inl (
      over.0,
      record {
        drawn = in_grown m.history n.history over.0 g.history over.1.drawn;
        counts = named_grown m.decided n.decided over.0.number g.decided over.1.counts;
        writes = over.1.writes;
        above = over.1.above;
      },
    ))
    | inr gone ↦ inr (inr (ap (λ (q : Place). q.holder) (dead l.key l.spot c has gone) ∙ gone))
  ]
]

pub version_grown : (opening : List (Key × Content)) (h h' : List Attempt) (k : Key) (c : Content) → IsPrefix h h'
    → IsVersion opening h k c → IsVersion opening h' k c
version_grown opening h h' k c grown (inl first) = inl first
version_grown opening h h' k c grown (inr a) = inr (a.0, in_grown h h' a.0 grown a.1, a.2, a.3)

lost_grown : (L : Type 0) (opening : List (Key × Content)) (h h' : List Attempt) (k : Key) (c : Content) → IsPrefix h h'
    → L ⊎ IsVersion opening h k c → L ⊎ IsVersion opening h' k c
lost_grown L opening h h' k c grown (inl lost) = inl lost
lost_grown L opening h h' k c grown (inr version) = inr (version_grown opening h h' k c grown version)

pub records_none : (decls : List Decl) (opening : List (Key × Content)) (h : List Attempt)
    → KeptAreRecords decls opening h []
records_none decls opening h part has = absurd (in_none part has)

pub records_longer : (decls : List Decl) (opening : List (Key × Content)) (h : List Attempt) (a : Attempt)
    (kept : List Part) → KeptAreRecords decls opening h kept → KeptAreRecords decls opening (h ++ a ∷ []) kept
records_longer decls opening h a kept records part has =
    elim (records part has) [
      | inl r ↦ inl (r.0, r.1, r.2, r.3, lost_grown ((r.2 ≡ nothing) × (is_array decls r.0.storage ≡ false)) opening h (h ++ a ∷ []) r.0 r.2 (a ∷ [], refl) r.4)
      | inr pointer ↦ inr pointer
    ]

records_stay : (decls : List Decl) (opening : List (Key × Content)) (m n : Story) (kept : List Part) → Grows m n
    → KeptAreRecords decls opening m.history kept → KeptAreRecords decls opening n.history kept
records_stay decls opening m n kept g records part has =
    elim (records part has) [
      | inl r ↦ inl (r.0, r.1, r.2, r.3, lost_grown ((r.2 ≡ nothing) × (is_array decls r.0.storage ≡ false)) opening m.history n.history r.0 r.2 g.history r.4)
      | inr pointer ↦ inr pointer
    ]

-- what was seen to have stood at a key still did, as more is written
pub version_stays : (decls : List Decl) (opening : List (Key × Content)) (h h' : List Attempt) (x : Version)
    → IsPrefix h h' → IsOneOf decls opening h x → IsOneOf decls opening h' x
version_stays decls opening h h' x grown =
    lost_grown ((x.content ≡ nothing) × (is_array decls x.key.storage ≡ false)) opening h h' x.key x.content grown

-- what was overwritten still is, as more is drawn and decided
pub over_grown : (m n : Story) → IsPrefix m.history n.history → IsPrefix m.decided n.decided → (k : Key) (i : Number)
    → IsOverwritten m k i → IsOverwritten n k i
over_grown m n history decided k i over = (
  over.0,
  record {
    drawn = in_grown m.history n.history over.0 history over.1.drawn;
    counts = named_grown m.decided n.decided over.0.number decided over.1.counts;
    writes = over.1.writes;
    above = over.1.above;
  },
)

-- so is a bit of absence that was left
pub held_bit_grown : (decls : List Decl) (m n : Story) (k : Key) (q : Place) (bit : ℕ) → IsPrefix m.history n.history
    → IsPrefix m.decided n.decided → IsBitAt decls m k q bit → IsBitAt decls n k q bit
held_bit_grown decls m n k q bit history decided (inl now) = inl now
held_bit_grown decls m n k q bit history decided (inr old) =
    let was = old.1 in
    inr (
      old.0,
      record {
        one = was.one;
        held = was.held;
        some = was.some;
        later = over_grown m n history decided k q.content.number was.later;
      },
    )

held_stays : (l : Layout) (s : Shared) (n : Story) (p q : ℕ) → IsSound (joint_of l s)
    → StoryStays p s.table s.story n → q ≢ p → (t : Took) (x : Spot) → IsHeld l.decls s.story q t x
    → IsHeld l.decls n q t x
held_stays l s n p q sound left other t x h =
    let m = s.story in
    let mine = subst (λ (home : Home). holder_is q (stands_at m.places home).holder ≡ true) (sym h.home) h.own in
    let same = left.held x q (home_placed l s t.key x sound h.home) h.own other in record {
      spot = h.spot;
      home = left.homes t.key q mine other ∙ h.home;
      own = subst (λ (place : Place). holder_is q place.holder ≡ true) (sym same) h.own;
      absent = h.absent;
      number = ap (λ (place : Place). number_word place.content.number + h.absent) same ∙ h.number;
      bit = held_bit_grown l.decls m n t.key (place_of n.places x) h.absent left.grows.history left.grows.decided
          (subst (λ (place : Place). IsBitAt l.decls m t.key place h.absent) (sym same) h.bit);
    }

-- the attempts drawn by an act have the clock's epoch
abbrev pub DrawnNow : Story → Story → Type 0
DrawnNow m n = (a : Attempt) → Contains n.history a → Contains m.history a ⊎ (a.number.epoch ≡ m.epoch)

pub past_stays : (m n : Story) (epoch : ℕ) → Grows m n → DrawnNow m n → IsPast m epoch → IsPast n epoch
past_stays m n epoch g drawn h = record {
  clock = omega (arith, h.clock, g.epoch);
  tried = λ a has now. elim (drawn a has) [
    | inl old ↦ h.tried a old (was_in_progress m n a.number g now)
    | inr new ↦ omega (arith, h.clock, new)
  ];
}

-- a list that has all of another at their places is no shorter
pub no_shorter : {A : Type 0} (xs ys : List A)
    → ((place : ℕ) (x : A) → slice_get xs place ≡ Some x → slice_get ys place ≡ Some x) → length xs ≤ length ys
no_shorter [] ys has = omega arith
no_shorter (x ∷ xs) [] has = let none : slice_get [] 0 ≡ Some x = has 0 x refl in absurd cc
no_shorter (x ∷ xs) (y ∷ ys) has =
    let rest = no_shorter xs ys (λ place z is. has (suc place) z is) in omega (arith, rest)

pub marks_longer : (seats : ℕ → Seat) (p : ℕ) (s : Seat)
    → ((place : ℕ) (mark : Mark) → slice_get (seats p).marks place ≡ Some mark → slice_get s.marks place ≡ Some mark)
    → (q : ℕ) → length (seats q).marks ≤ length (put_seat seats p s q).marks
marks_longer seats p s grow q =
    by_equal q p (λ k. length (seats k).marks ≤ length (put_seat seats p s k).marks)
    (subst (λ (t : Seat). length (seats p).marks ≤ length t.marks) (sym (put_same seats p s p refl))
    (no_shorter (seats p).marks s.marks grow))
    (λ other. subst (λ (t : Seat). length (seats q).marks ≤ length t.marks) (sym (put_other seats p s q other))
    (omega arith))

pub marked_stays : (seats : ℕ → Seat) (p : ℕ) (s : Seat) (met : Met)
    → ((place : ℕ) (mark : Mark) → slice_get (seats p).marks place ≡ Some mark → slice_get s.marks place ≡ Some mark)
    → WasMarked seats met → WasMarked (put_seat seats p s) met
marked_stays seats p s met grow was = (
  was.0,
  by_equal (suc met.worker) p
      (λ q. slice_get (seats q).marks met.place ≡ Some was.0 → slice_get (put_seat seats p s q).marks met.place ≡ Some was.0)
      (λ has. subst (λ (t : Seat). slice_get t.marks met.place ≡ Some was.0) (sym (put_same seats p s p refl)) (grow met.place was.0 has))
      (λ other has. subst (λ (t : Seat). slice_get t.marks met.place ≡ Some was.0) (sym (put_other seats p s (suc met.worker) other)) has)
      was.1,
  was.2,
)

pub fits_stays : (l : Layout) (s : Shared) (n : Story) (p : ℕ) (t : Seat) (u : View) → IsSound (joint_of l s)
    → StoryStays p s.table s.story n → DrawnNow s.story n
    → ((place : ℕ) (mark : Mark) → slice_get (s.seats p).marks place ≡ Some mark → slice_get t.marks place ≡ Some mark)
    → sits p u ≡ 0
    → (u.role ≡ Keeper → (worker : ℕ) → times worker u.made ≡ 0 → suc worker ≢ p)
    → Fits l s.story s.seats u → Fits l n (put_seat s.seats p t) u
fits_stays l s n p t u sound left drawn marks none apart f =
    let m = s.story in
    let seats = s.seats in
    let g = left.grows in
    let known : (k : Key) (x : Spot) (c : Content) → Contains u.seat.kept (record_part k x c) → IsPlaceOf s.table x =
    λ k x c has. kept_placed l s u sound f (record_part k x c) has x refl in
    let elsewhere : (q : ℕ) → IsAt q u.role → q ≢ p = λ q at e.
    let here : sits_by p u.role ≡ 1 = sits_here p u.role (subst (λ k. IsAt k u.role) e at) in absurd (omega arith) in record {
      history = front_of u.history m.history n.history f.history g.history;
      decided = front_of u.decided m.decided n.decided f.decided g.decided;
      heard = λ x has. (
        front_of x.history m.history n.history (f.heard x has).0 g.history,
        front_of x.decided m.decided n.decided (f.heard x has).1 g.decided,
        omega (arith, (f.heard x has).2, g.epoch),
      );
      mine = f.mine;
      mine_own = f.mine_own;
      records = records_stay l.decls l.opening m n u.seat.kept g f.records;
      kept = λ k x c has. up_then_up c.number _ _ (f.kept k x c has) (left.rise x (known k x c has));
      versions = λ x has. version_stays l.decls l.opening m.history n.history x g.history (f.versions x has);
      loaded = loaded_stays m n u.seat.kept u.loaded g (λ k x c has. left.dead x (known k x c has)) f.loaded;
      own = λ q at.
          let other = elsewhere q at in
          let w = f.own q at in record {
            layout = w.layout;
            seat = w.seat ∙ sym (put_other seats p t q other);
            tried = tried_stays m n p q u.history u.checked u.mine u.seat.stage left.checks other f.history w.tried;
            took = λ y has. let h = w.took y has in (h.0, held_stays l s n p q sound left other y h.0 h.1);
            locked = w.locked;
          };
      low = omega (arith, f.low, g.epoch);
      part = f.part;
      seatless = f.seatless;
      unkept = f.unkept;
      keepers = λ keeper.
          let was = f.keepers keeper in
          let zero-not : p ≡ 0 → ⊥ = λ e. elsewhere 0 (subst (IsAt 0) (sym keeper) refl) (sym e) in record {
            epoch = omega (arith, was.epoch, left.epoch zero-not);
            past = past_stays m n u.past g drawn was.past;
            parked_are = was.parked_are;
            begun = λ worker few.
                let more = marks_longer seats p t marks (suc worker) in omega (arith, was.begun worker few, more);
            parked = λ worker few unmade.
                let there = was.parked worker few unmade in
                let same = put_other seats p t (suc worker) (apart keeper worker unmade) in
                record { is = same ∙ there.is; resting = subst IsResting (sym same) there.resting };
          };
      met = λ met has. marked_stays seats p t met marks (f.met met has);
    }
