-- What a seat keeps once it has added a key, told of the state before.
use Rattle.std.proofs.Common.{◌≡◌, ℕ, Bool, true, false, true≢false, not, eqb, cond, ◌&&◌, ◌⊎◌, inl, inr, List, [], ◌∷◌, ◌++◌}
use Rattle.std.proofs.Common.{Err, length, refl, sym, ap, ◌∙◌}
use Rattle.std.specs.Prelude.{⊤}
use Rattle.std.proofs.lemmas.Bool.{and_from}
use Rattle.lists.specs.declared.memory.OrMemory.{OrMemory}
use Rattle.lists.specs.declared.memory.OrMemory.TheVariants.{Fault, Memory}
use Rattle.serial_model.specs.declared.key.Key.{Key}
use Rattle.homes.specs.declared.places.Spot.{Spot}
use Rattle.homes.specs.declared.places.Move.{Move}
use Rattle.commit_core.specs.declared.place.Place.{Place}
use Rattle.commit_core.specs.declared.part.Word.TheVariants.{Header}
use Rattle.commit_core.specs.declared.part.Version.TheVariants.{Counted}
use Rattle.commit_core.specs.declared.part.Part.{Part}
use Rattle.commit_core.specs.declared.event.Act.TheVariants.{Keep}
use Rattle.commit_core.specs.declared.event.NotAllowed.{NotAllowed}
use Rattle.commit_core.specs.declared.seat.Stage.{Stage}
use Rattle.commit_core.specs.declared.seat.Stage.TheVariants.{Idle, Trying, Ended, Decided}
use Rattle.commit_core.specs.declared.seat.Seat.{Seat}
use Rattle.commit_core.specs.declared.story.Story.{Story}
use Rattle.commit_core.specs.CoreState.{is_trying, settled_at, settled}
use Rattle.commit_core.specs.Places.{place_of, spot_at}
use Rattle.commit_core.specs.Parts.{record_part, with_part}
use Rattle.commit_core.specs.Event.{Moved, seen_at, effect as commit_effect}
use Rattle.drop_core.specs.declared.table.Table.{Table}
use Rattle.drop_core.specs.declared.grip.Grip.{Grip}
use Rattle.drop_core.specs.Table.{page_of}
use Rattle.drop_core.specs.Event.{leaf_keys, slot_span, grown, is_allowed as page_allows, effect as page_effect, moves}
use Rattle.engine_rule.specs.declared.event.JointAct.TheVariants.{AddKey}
use Rattle.engine_rule.specs.Answers.{Answers, IsLeft, Tells}
use Rattle.engine_rule.specs.JointState.{header_part, keeps_header_at}
use Rattle.engine_rule.specs.Event.{may_move, after_moves, next_spot, opening_with, and_seen, renewed, is_allowed, effect}
use Rattle.engine_rule.specs.Renewal.{part_with_key, kept_with_key, with_kept}
use Rattle.engine_rule.proofs.Adding.{Takes, takes}
use Rattle.engine_rule.proofs.Renewals.{grown_page, new_home, new_place, renewed_story}

-- a seat that comes to rest keeps what it kept, or nothing
kept_or_none : (s : Seat) → ((settled s).kept ≡ s.kept) ⊎ ((settled s).kept ≡ [])
kept_or_none s = by_locks (eqb (length s.locks) 0)
  where
    at_stage : (g : Stage) → ((settled_at g s).kept ≡ s.kept) ⊎ ((settled_at g s).kept ≡ [])
    at_stage Idle = inl refl
    at_stage (Trying i) = inl refl
    at_stage Ended = inr refl
    at_stage (Decided i) = inr refl

    by_locks : (b : Bool) → ((cond b (settled_at s.stage s) s).kept ≡ s.kept) ⊎ ((cond b (settled_at s.stage s) s).kept ≡ [])
    by_locks true = at_stage s.stage
    by_locks false = inl refl

-- the part of the header once the key is added
grown_part : (d : Table) (t : ℕ) (k : Key) → Takes d t k → header_part (grown d t k) t ≡ part_with_key d t k
grown_part d t k it =
    let keys : leaf_keys (page_of (grown d t k) t) ≡ leaf_keys (page_of d t) ++ k ∷ [] =
    ap leaf_keys (grown_page d t k it.keys it.page) ∙ ap (λ (l : List Key). l ++ k ∷ []) (sym (ap leaf_keys it.page)) in
    ap (λ (l : List Key). let q : Part = record { word = Header t; version = Counted (length l); span = slot_span d t; less = l; pairs = [] } in q) keys

module _ (p : ℕ) (m : Story) (s : Seat) (d : Table) (t : ℕ) (k : Key) (it : Takes d t k) (may : may_move p m s (moves d (opening_with t k)) ≡ true) where
  abbrev x : Spot
  x = next_spot d t

  abbrev n : Moved
  n = after_moves p m s (moves d (opening_with t k))

  abbrev count : ℕ
  count = length (leaf_keys (page_of d t))

  same_kept : keeps_header_at n.seat.kept t count ≡ true → n.seat.kept ≡ s.kept
  same_kept keeps = elim (kept_or_none _) [
    | inl same ↦ same
    | inr none ↦ absurd (true≢false (sym keeps ∙ ap (λ (l : List Part). keeps_header_at l t count) none))
  ]

  seen_kept : keeps_header_at n.seat.kept t count ≡ true
      → seen_at k n.story.places (with_part n.seat.kept (header_part (grown d t k) t)) (spot_at n.story.homes k) ≡ kept_with_key d m.places s.kept t k
  seen_kept keeps =
      ap (seen_at k n.story.places (with_part n.seat.kept (header_part (grown d t k) t))) (new_home p m s d t k may)
      ∙ ap (λ (q : Place). with_part (with_part n.seat.kept (header_part (grown d t k) t)) (record_part k x q.content)) (new_place p m s d t k may)
      ∙ ap (λ (q : Part). with_part (with_part n.seat.kept q) (record_part k x (place_of m.places x).content)) (grown_part d t k it)
      ∙ ap (λ (l : List Part). with_part (with_part l (part_with_key d t k)) (record_part k x (place_of m.places x).content)) (same_kept keeps)

  -- the seat after the renewal
  pub renewed_seat : (renewed p (grown d t k) t count k n).seat
      ≡ cond (keeps_header_at n.seat.kept t count) (record (n.seat) { kept = kept_with_key d m.places s.kept t k }) n.seat
  renewed_seat = by_kept (keeps_header_at n.seat.kept t count) (λ e. e)
    where
      by_kept : (b : Bool) → (b ≡ true → keeps_header_at n.seat.kept t count ≡ true)
          → (cond b (and_seen p k (commit_effect p n.story n.seat (Keep (header_part (grown d t k) t)))) n).seat
          ≡ cond b (record (n.seat) { kept = kept_with_key d m.places s.kept t k }) n.seat
      by_kept true so = ap (λ (l : List Part). let y : Seat = record (n.seat) { kept = l } in y) (seen_kept (so refl))
      by_kept false so = refl

-- what the steps of adding a key leave, one after another, is what the act leaves
pub add_key_leaves : (p : ℕ) (m : Story) (s : Seat) (d : Table) (g : Grip) (t : ℕ) (k : Key) → page_allows p d g (opening_with t k) ≡ true → is_trying s.stage ≡ false
    → may_move p m s (moves d (opening_with t k)) ≡ true → (list : List Move) → list ≡ moves d (opening_with t k)
    → (tale : Story) (r : Seat) → tale ≡ (after_moves p m s list).story → r ≡ (after_moves p m s list).seat → (keys : List Key) → keys ≡ leaf_keys (page_of d t)
    → (kept : List Part) → kept ≡ kept_with_key d m.places s.kept t k
    → (final : Seat) → final ≡ cond (keeps_header_at r.kept t (length keys)) (record r { kept = kept }) r
    → (e : Table) → e ≡ (page_effect p d g (opening_with t k)).table → (h : Grip) → h ≡ (page_effect p d g (opening_with t k)).grip
    → (is_allowed p m s d g (AddKey t k) ≡ true) × IsLeft (effect p m s d g (AddKey t k)) tale final e h
add_key_leaves p m s d g t k can rests may list are tale r story seat keys keys_are kept kept_is final final_is e table h grip =
    let x : Moved = after_moves p m s (moves d (opening_with t k)) in
    let seat_is : r ≡ x.seat = seat ∙ ap (λ (l : List Move). (after_moves p m s l).seat) are in
    let allowed = and_from (page_allows p d g (opening_with t k)) (not (is_trying s.stage) && may_move p m s (moves d (opening_with t k))) can
    (and_from (not (is_trying s.stage)) (may_move p m s (moves d (opening_with t k))) (ap not rests) may) in
    let told = story ∙ ap (λ (l : List Move). (after_moves p m s l).story) are ∙ sym (renewed_story p (grown d t k) t (length (leaf_keys (page_of d t))) k x) in
    let keeps = final_is ∙ ap (λ (y : Seat). cond (keeps_header_at y.kept t (length keys)) (record y { kept = kept }) y) seat_is
    ∙ ap (λ (l : List Key). cond (keeps_header_at (x.seat).kept t (length l)) (record (x.seat) { kept = kept }) x.seat) keys_are
    ∙ ap (λ (l : List Part). cond (keeps_header_at (x.seat).kept t (length (leaf_keys (page_of d t)))) (record (x.seat) { kept = l }) x.seat) kept_is
    ∙ sym (renewed_seat p m s d t k (takes p d t k can) may) in
    (allowed, (told, keeps, table, grip))

-- and what the renewal leaves
pub renewed_from : (t : ℕ) (r x u : Seat) (keys all : List Key) (kept made : List Part)
    → u ≡ cond (keeps_header_at r.kept t (length keys)) (record r { kept = kept }) r → r ≡ x → keys ≡ all → kept ≡ made
    → u ≡ with_kept x t (length all) made
renewed_from t r x u keys all kept made is seat keys_are kept_are =
    is ∙ ap (λ (y : Seat). cond (keeps_header_at y.kept t (length keys)) (record y { kept = kept }) y) seat
    ∙ ap (λ (l : List Key). cond (keeps_header_at x.kept t (length l)) (record x { kept = kept }) x) keys_are
    ∙ ap (λ (l : List Part). cond (keeps_header_at x.kept t (length all)) (record x { kept = l }) x) kept_are

-- moves that are allowed fail for want of memory alone, and leave all as it was
pub memory_left : {a : Bool} {same : Type 0} (e : OrMemory NotAllowed) → a ≡ true
    → Tells {X = ⊤} a true ⊤ same (Err e) → (e ≡ Memory) × same
memory_left (Fault r) may told = absurd (true≢false (sym may ∙ told.0))
memory_left Memory may told = (refl, told.2)

-- adding a key wants memory where it is allowed, and leaves all as it was
pub add_key_wants : (p : ℕ) (m : Story) (s : Seat) (d : Table) (g : Grip) (t : ℕ) (k : Key)
    → page_allows p d g (opening_with t k) ≡ true → is_trying s.stage ≡ false
    → may_move p m s (moves d (opening_with t k)) ≡ true → (tale : Story) (r : Seat) → tale ≡ m → r ≡ s
    → Answers {X = ⊤} p (AddKey t k) m s d g (Err Memory) tale r d g
add_key_wants p m s d g t k can rests may tale r story seat =
    let allowed = and_from (page_allows p d g (opening_with t k))
    (not (is_trying s.stage) && may_move p m s (moves d (opening_with t k))) can
    (and_from (not (is_trying s.stage)) (may_move p m s (moves d (opening_with t k))) (ap not rests) may) in
    (allowed, refl, (story, seat, refl, refl))
