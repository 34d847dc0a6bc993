-- What stands where after a list of moves that may be made, and what it does to the horizon.
use Rattle.std.proofs.Common.{◌≡◌, ℕ, Bool, true, false, not, true≢false, cond, eqb, ltb, arith, ◌&&◌, ◌||◌, ◌⊎◌, inl, inr, List, [], ◌∷◌, refl, sym, ap, ◌∙◌, subst, Option, Some, None}
use Rattle.std.proofs.lemmas.Bool.{cases_Bool, false_from_ne_true, and_parts, or_cases, cond-true, cond-false}
use Rattle.std.proofs.lemmas.Bool.Decides.{nat_tests}
use Rattle.std.specs.List.{Contains, list_all}
use Rattle.std.specs.Prelude.{is_none}
use Rattle.serial_model.specs.declared.key.Key.{Key}
use Rattle.serial_model.specs.declared.number.Number.{Number}
use Rattle.serial_model.specs.Numbers.{is_below, IsBelow, below_from_test}
use Rattle.homes.specs.declared.places.Content.{Content}
use Rattle.homes.specs.declared.places.Holder.{Holder}
use Rattle.homes.specs.declared.places.Holder.TheVariants.{Free, Dead}
use Rattle.homes.specs.declared.places.Spot.{Spot}
use Rattle.homes.specs.declared.places.Home.{Home}
use Rattle.homes.specs.declared.places.Move.{Move}
use Rattle.homes.specs.Homes.{same_content}
use Rattle.homes.specs.Laws.{same_content-true}
use Rattle.commit_core.specs.declared.place.Place.{Place}
use Rattle.commit_core.specs.declared.part.Part.{Part}
use Rattle.commit_core.specs.declared.attempt.Attempt.{Attempt}
use Rattle.commit_core.specs.declared.story.Story.{Story}
use Rattle.commit_core.specs.Keys.{same_key, nothing, IsUpTo}
use Rattle.commit_core.specs.Places.{place_of, home_of, stands_at, stands, spot_of, is_free, holder_is}
use Rattle.commit_core.specs.CoreState.{is_decided, is_given_up, is_in_progress}
use Rattle.commit_core.specs.Moves.{Shows, moves_key, are_apart, is_nobodys, is_movable, is_below_all, may_go_for, can_move, can_rehome, is_left, buried, rehomed, later, horizon_over, horizon_after, MovedAt, Moves}
use Rattle.commit_core.specs.Sound.Locks.{HomesApart}
use Rattle.commit_core.specs.Sound.Reads.{KeptFits}
use Rattle.commit_core.specs.Lemmas.Keys.{same_key-true}
use Rattle.commit_core.specs.Lemmas.Moves.{home_of-rehomed, moved-not, move_of, moved-there, targets_apart, nobodys_not, place-left, place-stays, stands-stays, left-by, left-of}
use Rattle.commit_core.specs.Lemmas.Shows.{up_then_up}
use Rattle.lists.specs.Elements.{in_none, in_head, in_tail, in_cases, all_in, any_is}
use Rattle.commit_core.proofs.LockLaws.{is_free-free}
use Rattle.commit_core.proofs.KeptLaws.{fits_so}

-- ---- the horizon

-- the horizon does not fall
over_up : (horizon : Number) (new old : Content) → IsUpTo horizon (horizon_over horizon new old)
over_up horizon new old =
    elim (cases_Bool (same_content new old)) [
      | inl same ↦ subst (λ (n : Number). IsUpTo horizon n) (sym (cond-true (same_content new old) horizon (later horizon old.number) same)) (inl refl)
      | inr other ↦ subst (λ (n : Number). IsUpTo horizon n) (sym (cond-false (same_content new old) horizon (later horizon old.number) other)) (later_up (is_below horizon old.number) refl)
    ]
  where
    later_up : (b : Bool) → is_below horizon old.number ≡ b → IsUpTo horizon (cond b old.number horizon)
    later_up true e = inr (below_from_test horizon old.number e)
    later_up false e = inl refl

-- a number that isn't above another is up to it
not_below : (a b : Number) → is_below a b ≡ false → IsUpTo b a
not_below a b miss =
    elim (cases_Bool (is_below b a)) [
      | inl hit ↦ inr (below_from_test b a hit)
      | inr miss' ↦ inl (same_numbers b a (one_epoch a.epoch a.draw b.epoch b.draw miss miss') (one_draw a.epoch a.draw b.epoch b.draw miss miss'))
    ]
  where
    one_epoch : (e d f g : ℕ) → (ltb e f || (eqb e f && ltb d g)) ≡ false → (ltb f e || (eqb f e && ltb g d)) ≡ false → f ≡ e
    one_epoch e d f g a b = grind (arith, nat_tests)

    one_draw : (e d f g : ℕ) → (ltb e f || (eqb e f && ltb d g)) ≡ false → (ltb f e || (eqb f e && ltb g d)) ≡ false → g ≡ d
    one_draw e d f g a b = grind (arith, nat_tests)

    same_numbers : (b a : Number) → b.epoch ≡ a.epoch → b.draw ≡ a.draw → b ≡ a
    same_numbers b a e f =
        ap (λ (x : ℕ). let n : Number = record { epoch = x; draw = b.draw } in n) e ∙ ap (λ (x : ℕ). let n : Number = record { epoch = a.epoch; draw = x } in n) f

module _ (places : List (Spot × Place)) (homes : List (Key × Home)) where
  abbrev old_of : Move → Content
  old_of v = (stands places homes v.key).content

  abbrev new_of : Move → Content
  new_of v = (stands_at places v.home).content

  pub horizon_up : (horizon : Number) (moves : List Move) → IsUpTo horizon (horizon_after horizon places homes moves)
  horizon_up horizon [] = inl refl
  horizon_up horizon (v ∷ more) =
      let first = horizon_over horizon (new_of v) (old_of v) in
      up_then_up horizon first (horizon_after first places homes more) (over_up horizon (new_of v) (old_of v)) (horizon_up first more)

  -- a number that is below all of these stays above the horizon
  horizon_below : (horizon n : Number) (moves : List Move) → IsBelow horizon n → ((v : Move) → Contains moves v → same_content (new_of v) (old_of v) ≡ false → IsBelow (old_of v).number n)
      → IsBelow (horizon_after horizon places homes moves) n
  horizon_below horizon n [] below each = below
  horizon_below horizon n (v ∷ more) below each =
      horizon_below (horizon_over horizon (new_of v) (old_of v)) n more (first (same_content (new_of v) (old_of v)) refl) (λ u inside. each u (in_tail u v more inside))
    where
      one : (b : Bool) → IsBelow (old_of v).number n → IsBelow (cond b (old_of v).number horizon) n
      one true lost = lost
      one false lost = below

      first : (b : Bool) → same_content (new_of v) (old_of v) ≡ b → IsBelow (cond b horizon (later horizon (old_of v).number)) n
      first true e = below
      first false e = one (is_below horizon (old_of v).number) (each v (in_head v more) e)

  -- what is lost is at most the horizon
  horizon_least : (horizon : Number) (moves : List Move) (v : Move) → Contains moves v → same_content (new_of v) (old_of v) ≡ false → IsUpTo (old_of v).number (horizon_after horizon places homes moves)
  horizon_least horizon [] v inside lost = absurd (in_none v inside)
  horizon_least horizon (u ∷ more) v inside lost =
      let first = horizon_over horizon (new_of u) (old_of u) in
      elim (in_cases v u more inside) [
        | inl e ↦
            let lost_u : same_content (new_of u) (old_of u) ≡ false = subst (λ (y : Move). same_content (new_of y) (old_of y) ≡ false) (sym e) lost in
            subst (λ (y : Move). IsUpTo (old_of y).number (horizon_after first places homes more)) e
            (up_then_up (old_of u).number first (horizon_after first places homes more)
            (subst (λ (n : Number). IsUpTo (old_of u).number n) (sym (cond-false (same_content (new_of u) (old_of u)) horizon (later horizon (old_of u).number) lost_u)) (one (old_of u).number (is_below horizon (old_of u).number) refl))
            (horizon_up first more))
        | inr m ↦ horizon_least first more v m lost
      ]
    where
      one : (n : Number) (b : Bool) → is_below horizon n ≡ b → IsUpTo n (cond b n horizon)
      one n true e = inl refl
      one n false e = not_below horizon n e

-- ---- a list of moves that may be made

holder_movable : (p : ℕ) (begins : Bool) (h : Holder) → is_movable p begins h ≡ true → (h ≡ Free) ⊎ ((holder_is p h ≡ true) × (begins ≡ true))
holder_movable p begins h e =
    elim (or_cases (is_free h) (holder_is p h && begins) e) [
      | inl free ↦ inl (is_free-free h free)
      | inr mine ↦ inr (and_parts (holder_is p h) begins mine)
    ]

none_is : (v : Option ℕ) → is_none v ≡ true → v ≡ None
none_is None e = refl
none_is (Some x) e = absurd (true≢false (sym e))

-- one move may be made
record CanMove (p : ℕ) (begins : Bool) (m : Story) (v : Move) : Type 0 where
  was : ((stands m.places m.homes v.key).holder ≡ Free) ⊎ ((holder_is p (stands m.places m.homes v.key).holder ≡ true) × (begins ≡ true))
  free : (stands_at m.places v.home).holder ≡ Free
  nobodys : is_nobodys m.homes (spot_of v.home) ≡ true
  goes : may_go_for m (stands_at m.places v.home).content (stands m.places m.homes v.key).content ≡ true

can_move-is : (p : ℕ) (begins : Bool) (m : Story) (v : Move) → can_move p begins m v ≡ true → CanMove p begins m v
can_move-is p begins m v e =
    let h = (stands m.places m.homes v.key).holder in
    let free = is_free (stands_at m.places v.home).holder in
    let nobodys = is_nobodys m.homes (spot_of v.home) in
    let goes = may_go_for m (stands_at m.places v.home).content (stands m.places m.homes v.key).content in
    let a = and_parts (is_movable p begins h) (free && (nobodys && goes)) e in
    let b = and_parts free (nobodys && goes) a.1 in
    let c = and_parts nobodys goes b.1 in
    record { was = holder_movable p begins h a.0; free = is_free-free (stands_at m.places v.home).holder b.0; nobodys = c.0; goes = c.1 }

-- what goes for another, which is not the same, is nothing for an absence that is older than each attempt in progress
record IsLosing (m : Story) (new old : Content) : Type 0 where
  new_is : new ≡ nothing
  absent : old.value ≡ None
  older : is_below_all m.history m.decided m.given_up old.number ≡ true

losing : (m : Story) (new old : Content) → may_go_for m new old ≡ true → same_content new old ≡ false → IsLosing m new old
losing m new old goes other =
    elim (or_cases (same_content new old) (same_content new nothing && (is_none old.value && is_below_all m.history m.decided m.given_up old.number)) goes) [
      | inl same ↦ absurd (true≢false (sym same ∙ other))
      | inr lost ↦
          let a = and_parts (same_content new nothing) (is_none old.value && is_below_all m.history m.decided m.given_up old.number) lost in
          let b = and_parts (is_none old.value) (is_below_all m.history m.decided m.given_up old.number) a.1 in
          record { new_is = same_content-true new nothing a.0; absent = none_is old.value b.0; older = b.1 }
    ]

pub below_all : (h : List Attempt) (decided given_up : List Number) (n : Number) → is_below_all h decided given_up n ≡ true → (a : Attempt) → Contains h a
    → is_decided decided a.number ≡ false → is_given_up given_up a.number ≡ false → IsBelow n a.number
below_all h decided given_up n all a inside undecided goes_on =
    let here = all_in (λ b. not (is_in_progress decided given_up b.number) || is_below n b.number) h all a inside in
    below_from_test n a.number (in_progress (is_decided decided a.number) (is_given_up given_up a.number) (is_below n a.number) undecided goes_on here)
  where
    in_progress : (d g b : Bool) → d ≡ false → g ≡ false → (not (not (d || g)) || b) ≡ true → b ≡ true
    in_progress true g b e f h = absurd (true≢false e)
    in_progress false true b e f h = absurd (true≢false f)
    in_progress false false b e f h = h

module _ (p : ℕ) (begins : Bool) (m : Story) (moves : List Move) (apart : HomesApart (home_of m.homes)) (can : can_rehome p begins m moves ≡ true) where
  abbrev st : Key → Place
  st = stands m.places m.homes

  abbrev st' : Key → Place
  st' = stands (buried moves m.homes m.places) (rehomed moves m.homes)

  abbrev h' : Number
  h' = horizon_after m.horizon m.places m.homes moves

  moves_apart : are_apart moves ≡ true
  moves_apart = (and_parts (are_apart moves) (list_all (can_move p begins m) moves) can).0

  each : (v : Move) → Contains moves v → CanMove p begins m v
  each v inside = can_move-is p begins m v (all_in (can_move p begins m) moves (and_parts (are_apart moves) (list_all (can_move p begins m) moves) can).1 v inside)

  -- no key leaves the place that another goes to
  target_stays : (v : Move) → Contains moves v → (x : Spot) → spot_of v.home ≡ Some x → is_left moves m.homes x ≡ false
  target_stays v inside x at = false_from_ne_true (is_left moves m.homes x) (λ left.
      let u = left-of moves m.homes x left in
      nobodys_not m.homes x (ap (is_nobodys m.homes) (sym at) ∙ (each v inside).nobodys) u.0.key u.2)

  home-there : (v : Move) → Contains moves v → home_of (rehomed moves m.homes) v.key ≡ v.home
  home-there v inside = home_of-rehomed moves m.homes v.key ∙ moved-there moves (home_of m.homes) v moves_apart inside

  pub home-stays : (k : Key) → moves_key moves k ≡ false → home_of (rehomed moves m.homes) k ≡ home_of m.homes k
  home-stays k miss = home_of-rehomed moves m.homes k ∙ moved-not moves (home_of m.homes) k miss

  there : (v : Move) → Contains moves v → st' v.key ≡ stands_at m.places v.home
  there v inside = ap (stands_at (buried moves m.homes m.places)) (home-there v inside) ∙ stands-stays moves m.homes m.places v.home (target_stays v inside)

  shown : (v : Move) → Contains moves v → Shows h' (stands_at m.places v.home).content (st v.key).content
  shown v inside =
      elim (cases_Bool (same_content (stands_at m.places v.home).content (st v.key).content)) [
        | inl same ↦ inl (same_content-true (stands_at m.places v.home).content (st v.key).content same)
        | inr other ↦
            let l = losing m (stands_at m.places v.home).content (st v.key).content (each v inside).goes other in
            inr (l.new_is, record { absent = l.absent; past = horizon_least m.places m.homes m.horizon moves v inside other })
      ]

  pub rehome_moves : Moves p begins h' moves st st'
  rehome_moves = record {
    moved = λ k hit.
        let v = any_is (λ u. same_key u.key k) moves hit in
        subst (λ (x : Key). MovedAt p begins h' st st' x) (same_key-true v.0.key k v.2) (record {
          was = (each v.0 v.1).was;
          now = ap (λ (q : Place). q.holder) (there v.0 v.1) ∙ (each v.0 v.1).free;
          same = subst (λ (q : Place). Shows h' q.content (st v.0.key).content) (sym (there v.0 v.1)) (shown v.0 v.1);
        });
    others = λ k miss.
        ap (stands_at (buried moves m.homes m.places)) (home-stays k miss)
        ∙ stands-stays moves m.homes m.places (home_of m.homes k) (λ x at. false_from_ne_true (is_left moves m.homes x) (λ left.
        let u = left-of moves m.homes x left in
        let same : u.0.key ≡ k = apart u.0.key k x u.2 at in
        true≢false (sym (subst (λ (y : Key). moves_key moves y ≡ true) same (move_of moves u.0 u.1)) ∙ miss)));
  }

  -- ---- a place is still the home of one key at most

  home_new : (k : Key) (x : Spot) → moves_key moves k ≡ true → spot_of (home_of (rehomed moves m.homes) k) ≡ Some x → (v : Move) × Contains moves v × (v.key ≡ k) × (spot_of v.home ≡ Some x)
  home_new k x hit at =
      let v = any_is (λ u. same_key u.key k) moves hit in
      let e = same_key-true v.0.key k v.2 in
      (v.0, v.1, e, ap spot_of (sym (home-there v.0 v.1)) ∙ ap (λ (y : Key). spot_of (home_of (rehomed moves m.homes) y)) e ∙ at)

  -- a key that moves and one that doesn't have two places
  new_and_old : (a b : Key) (x : Spot) → moves_key moves a ≡ true → moves_key moves b ≡ false → spot_of (home_of (rehomed moves m.homes) a) ≡ Some x → spot_of (home_of (rehomed moves m.homes) b) ≡ Some x → ⊥
  new_and_old a b x hit miss at_a at_b =
      let v = home_new a x hit at_a in
      nobodys_not m.homes x (ap (is_nobodys m.homes) (sym v.3) ∙ (each v.0 v.1).nobodys) b (ap spot_of (sym (home-stays b miss)) ∙ at_b)

  pub rehome_apart : HomesApart (home_of (rehomed moves m.homes))
  rehome_apart = λ a b x at_a at_b.
      elim (cases_Bool (moves_key moves a)) [
        | inl hit_a ↦ elim (cases_Bool (moves_key moves b)) [
          | inl hit_b ↦
              let u = home_new a x hit_a at_a in
              let v = home_new b x hit_b at_b in
              sym u.2 ∙ targets_apart moves u.0 v.0 x moves_apart u.1 v.1 u.3 v.3 ∙ v.2
          | inr miss_b ↦ absurd (new_and_old a b x hit_a miss_b at_a at_b)
        ]
        | inr miss_a ↦ elim (cases_Bool (moves_key moves b)) [
          | inl hit_b ↦ absurd (new_and_old b a x hit_b miss_a at_b at_a)
          | inr miss_b ↦ apart a b x (ap spot_of (sym (home-stays a miss_a)) ∙ at_a) (ap spot_of (sym (home-stays b miss_b)) ∙ at_b)
        ]
      ]

  -- ---- what is kept is at its key's home, or dead

  pub rehome_fits : (kept : List Part) → KeptFits m.places m.homes kept → KeptFits (buried moves m.homes m.places) (rehomed moves m.homes) kept
  rehome_fits kept fits =
      fits_so m.places (buried moves m.homes m.places) m.homes (rehomed moves m.homes) kept (λ part x of_record. record {
        key = of_record.key;
        only = of_record.only;
        version = of_record.version;
        home = elim (of_record.home) [
          | inl at ↦ elim (cases_Bool (moves_key moves of_record.key)) [
            | inl hit ↦ inr (ap (λ (q : Place). q.holder) (place-left moves m.homes m.places x (left-by moves m.homes of_record.key x hit at)))
            | inr miss ↦ inl (ap spot_of (home-stays of_record.key miss) ∙ at)
          ]
          | inr dead ↦ inr (dead-stays x dead)
        ];
      }) fits
    where
      dead-stays : (x : Spot) → (place_of m.places x).holder ≡ Dead → (place_of (buried moves m.homes m.places) x).holder ≡ Dead
      dead-stays x dead =
          elim (cases_Bool (is_left moves m.homes x)) [
            | inl left ↦ ap (λ (q : Place). q.holder) (place-left moves m.homes m.places x left)
            | inr stays ↦ ap (λ (q : Place). q.holder) (place-stays moves m.homes m.places x stays) ∙ dead
          ]

  -- ---- the horizon

  pub rehome_horizon : IsUpTo m.horizon h'
  rehome_horizon = horizon_up m.places m.homes m.horizon moves

  -- it stays below what all contents that move, and the old one, are below
  pub rehome_below : (n : Number) → IsBelow m.horizon n → ((v : Move) → Contains moves v → IsBelow (st v.key).content.number n) → IsBelow h' n
  rehome_below n below old = horizon_below m.places m.homes m.horizon n moves below (λ v inside _. old v inside)

  -- and below each attempt in progress
  pub rehome_tries : (a : Attempt) → Contains m.history a → is_decided m.decided a.number ≡ false → is_given_up m.given_up a.number ≡ false → IsBelow m.horizon a.number → IsBelow h' a.number
  rehome_tries a inside undecided goes_on below = horizon_below m.places m.homes m.horizon a.number moves below (λ v moving other.
      below_all m.history m.decided m.given_up (st v.key).content.number (losing m (stands_at m.places v.home).content (st v.key).content (each v moving).goes other).older a inside undecided goes_on)

  -- who holds the home of a key that moves
  pub moving_was : (v : Move) → Contains moves v → ((st v.key).holder ≡ Free) ⊎ ((holder_is p (st v.key).holder ≡ true) × (begins ≡ true))
  moving_was v inside = (each v inside).was
