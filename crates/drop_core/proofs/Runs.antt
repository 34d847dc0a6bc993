-- Each act keeps the pages sound, and so does each list of events.
use Rattle.std.proofs.Common.{◌≡◌, ℕ, zero, suc, ◌+◌, ◌<◌, ◌≤◌, Bool, true, false, true≢false, eqb, leb, ltb, cond, ◌&&◌, inl, inr, List, [], ◌∷◌, length, refl, sym, ap, ◌∙◌, subst, arith, set, Option, Some, None}
use Rattle.std.proofs.lemmas.Bool.{and_parts, cases_Bool, cond-true, cond-false, false_from_ne_true}
use Rattle.std.proofs.lemmas.Bool.Decides.{nat_tests}
use Rattle.std.proofs.lemmas.List.{length-set}
use Rattle.std.proofs.lemmas.List.Sums.{sum_by-cons}
use Rattle.std.specs.List.{slice_get, slice_set}
use Rattle.std.specs.Option.{option_map_or}
use Rattle.serial_model.specs.declared.key.Key.{Key}
use Rattle.homes.specs.declared.places.Holder.TheVariants.{Free, Held}
use Rattle.homes.specs.declared.places.At.TheVariants.{In}
use Rattle.homes.specs.declared.places.Span.{Span}
use Rattle.homes.specs.declared.places.Home.{Home}
use Rattle.homes.specs.Homes.{has_key, moved, moves_to}
use Rattle.homes.specs.Laws.{moved-there, moved-other}
use Rattle.drop_core.specs.declared.table.Page.{Page}
use Rattle.drop_core.specs.declared.table.Table.{Table}
use Rattle.drop_core.specs.declared.grip.Grip.{Grip}
use Rattle.drop_core.specs.declared.event.Act.{Act}
use Rattle.drop_core.specs.declared.event.Act.TheVariants.{Enter, Leave, Give, Publish, Retire, FillPage, FillPointer, FillSnapshot, Extend, Install, Swing, Renew, Shut, Reopen, FillHeader, LockHeader, OpenHeader, Twin, SwingChain}
use Rattle.drop_core.specs.declared.event.Event.{Event}
use Rattle.drop_core.specs.Table.{slot_of, page_of, snap_of, has_slot, leaf_place, counts_hold, holders}
use Rattle.drop_core.specs.Event.{DropState, is_owned, most_passes, all_below, leads_down, is_right, leaf_keys, slot_span, is_allowed, with_pointer, with_header, grown, twinned, without, effect, twin_home, next_place, moves, may_happen, with_turned, happened, next, next_homes, run, run_homes}
use Rattle.drop_core.specs.Sound.{IsSoundTable, IsRanked, HeldBySeats, IsSoundPages, IsSound}
use Rattle.drop_core.proofs.Aways.{headers_keep}
use Rattle.drop_core.proofs.ChainDrops.{chain_keeps}
use Rattle.drop_core.proofs.Grows.{has_key-head, only_key, grown_sound}
use Rattle.drop_core.proofs.Halves.{adds_key, grows, splits}
use Rattle.drop_core.proofs.Headers.{headers_sound}
use Rattle.drop_core.proofs.Splitting.{twin_sound}
use Rattle.drop_core.proofs.SlotTurns.{holders-set, enter_keeps, leave_keeps, give_keeps, publish_keeps, retire_keeps}
use Rattle.drop_core.proofs.Fills.{layout_sound, link_sound, snap_sound, count_sound}
use Rattle.drop_core.proofs.PointerTurns.{shut_keeps, reopen_keeps, renew_keeps}
use Rattle.drop_core.proofs.Swings.{install_keeps, swing_keeps, recount}
use Rattle.drop_core.proofs.Stays.{act_leaves}
use Rattle.drop_core.proofs.Owners.{held_over, act_over}
use Rattle.drop_core.proofs.Noted.{within_keeps, noted_keeps}
use Rattle.drop_core.proofs.Ranks.{ranked_keeps, rooted_keeps, right_keeps}

module _ (homes : Key → Home) (d : Table) (grips : List Grip) (p : ℕ) (g : Grip) (at : slice_get grips p ≡ Some g) (sound : IsSoundTable homes d grips)
    (ranked : IsRanked (λ s. (slot_of d s).led)) where
  stays : (d' : Table) → IsSoundTable homes d' grips → IsSoundTable homes d' (set grips p g)
  stays d' now = recount homes d' grips (set grips p g) (λ s. holders-set s p grips g g at refl) now

  abbrev Keeps : Act → Type 0
  Keeps act = is_allowed p d g act ≡ true → IsSoundTable (moved (moves d act) homes) (effect p d g act).table (set grips p (effect p d g act).grip)

  keeps : (act : Act) → Keeps act
  keeps (Enter s) can = enter_keeps homes d grips p g at sound s can
  keeps (Leave s) can = leave_keeps homes d grips p g at sound s can
  keeps (Give s) can = give_keeps homes d grips p g at sound s can
  keeps (Publish s) can = publish_keeps homes d grips p g at sound s can
  keeps (Retire s) can = retire_keeps homes d grips p g at sound s can
  keeps (FillPage s page) can =
      stays (record d { pages = (s, page) ∷ d.pages }) (layout_sound homes d grips sound s (and_parts (is_owned (slot_of d s).state) (has_slot g.made s) can).0 page)
  keeps (FillPointer x q) can =
      stays (with_pointer d (In x) q) (link_sound homes d grips sound x.slot (and_parts (is_owned (slot_of d x.slot).state) (has_slot g.made x.slot) can).0 x q refl)
  keeps (FillSnapshot n page) can =
      stays (record d { snaps = (n, page) ∷ d.snaps }) (snap_sound homes d grips sound n page (above d.published n (and_parts (eqb p 0) (ltb d.published n) can).1))
    where
      above : (a b : ℕ) → ltb a b ≡ true → a < b
      above a b e = grind (arith, nat_tests)
  keeps (Extend n) can =
      let down : Bool = all_below n (λ l. leads_down (l + 1) (snap_of d (l + 1))) in
      let right : Bool = all_below n (λ l. is_right (snap_of d) (snap_of d (l + 1))) in
      let more = and_parts (leb d.published n) (down && right) (and_parts (eqb p 0) (leb d.published n && (down && right)) can).1 in
      stays (record d { published = n }) (count_sound homes d grips sound n (at_most d.published n more.0) (and_parts down right more.1).0)
    where
      at_most : (a b : ℕ) → leb a b ≡ true → a ≤ b
      at_most a b e = grind (arith, nat_tests)
  keeps (Install x s) can = install_keeps homes d grips sound p g x s at can
  keeps (Swing x n) can = swing_keeps homes d grips sound p g x n can at
  keeps (Renew x n) can = renew_keeps homes d grips p g at sound x n can
  keeps (Shut x) can = shut_keeps homes d grips p g at sound x can
  keeps (Reopen x) can = reopen_keeps homes d grips p g at sound x can
  keeps (FillHeader s) can = stays (with_header d s Free) (headers_sound homes d grips ((s, Free) ∷ d.headers) sound)
  keeps (LockHeader s) can = stays (with_header d s (Held p)) (headers_sound homes d grips ((s, Held p) ∷ d.headers) sound)
  keeps (OpenHeader s None) can = stays (with_header d s Free) (headers_sound homes d grips ((s, Free) ∷ d.headers) sound)
  keeps (OpenHeader s (Some k)) can =
      let grow = grows homes d grips sound s k (adds_key p d s k can) in
      let to : Key → Home = λ _. next_place d s in
      let homes' : Key → Home = moved (moves_to to (k ∷ [])) homes in
      recount homes' (grown d s k) grips (set grips p g) (λ t. holders-set t p grips g g at refl)
      (grown_sound homes homes' d grips grow.0 s grow.2 k grow.3 sound
      (moved-there to (k ∷ []) homes k (has_key-head k []) ∙ ap (λ (q : Page). leaf_place s (length (leaf_keys q))) grow.3.page)
      (λ q other. moved-other to (k ∷ []) homes q (false_from_ne_true (has_key (k ∷ []) q) (λ hit. other (only_key k q hit)))))
  keeps (Twin w) can =
      let two = splits homes d grips sound p g w can in
      let span : Span = slot_span d w.slot in
      let g' : Grip = record g { made = without (without g.made w.minor) w.major } in
      recount (moved (moves_to (twin_home d span w) w.keys) homes) (twinned d span w) grips (set grips p g') (λ t. holders-set t p grips g g' at refl)
      (twin_sound homes d grips two.0 span w (leaf_keys (page_of d w.slot)) two.2 sound)
  keeps (SwingChain x n c) can = chain_keeps homes d grips sound p g x n c can ranked at

-- a seat that is there has a number below theirs
seat_within : (grips : List Grip) (p : ℕ) (g : Grip) → slice_get grips p ≡ Some g → p < length grips
seat_within [] p g e = cc
seat_within (x ∷ grips) zero g e = omega arith
seat_within (x ∷ grips) (suc p) g e = let more = seat_within grips p g e in omega (arith, more)

pub keeps_act : (homes : Key → Home) (d : Table) (grips : List Grip) (p : ℕ) (g : Grip) (act : Act) → slice_get grips p ≡ Some g → is_allowed p d g act ≡ true → IsSoundPages homes d grips
    → IsSoundPages (moved (moves d act) homes) (effect p d g act).table (slice_set grips p (effect p d g act).grip)
keeps_act homes d grips p g act at can sound = record {
  table = keeps homes d grips p g at sound.table sound.ranked act can;
  ranked = ranked_keeps homes d grips sound.table sound.ranked p g act can;
  rooted = rooted_keeps homes d grips sound.table sound.ranked p g act can (act_leaves homes d grips p g act at can sound.table) sound.rooted;
  published = right_keeps homes d grips sound.table sound.published p g act can;
  headers = headers_keep homes d grips sound.table p g sound.headers act can;
  held = subst (λ (n : ℕ). HeldBySeats (effect p d g act).table n) (sym (length-set grips p (effect p d g act).grip))
      (held_over p (length grips) d (effect p d g act).table (seat_within grips p g at) (act_over homes d grips sound.table p g act can) sound.held);
  within = within_keeps homes d grips sound.table sound.within p g at act can;
  noted = noted_keeps homes d grips sound.table sound.noted p g at act can;
}

-- ---- lists of events

by_seat : (homes : Key → Home) (c : DropState) (e : Event) (o : Option Grip) → slice_get c.grips e.seat ≡ o → option_map_or (λ g. is_allowed e.seat c.table g e.act) o false ≡ true → IsSound homes c
    → IsSound (moved (moves c.table e.act) homes) (option_map_or (λ g. with_turned c e.seat (effect e.seat c.table g e.act)) o c)
by_seat homes c e None at may sound = absurd (true≢false (sym may))
by_seat homes c e (Some g) at may sound = keeps_act homes c.table c.grips e.seat g e.act at may sound

pub happened_sound : (homes : Key → Home) (c : DropState) (e : Event) → may_happen c e ≡ true → IsSound homes c → IsSound (moved (moves c.table e.act) homes) (happened c e)
happened_sound homes c e may sound = by_seat homes c e (slice_get c.grips e.seat) refl may sound

pub next_sound : (homes : Key → Home) (c : DropState) (e : Event) → IsSound homes c → IsSound (next_homes c e homes) (next c e)
next_sound homes c e sound =
    elim (cases_Bool (may_happen c e)) [
      | inl may ↦ subst (λ (b : Bool). IsSound (cond b (moved (moves c.table e.act) homes) homes) (cond b (happened c e) c)) (sym may) (happened_sound homes c e may sound)
      | inr not_so ↦ subst (λ (b : Bool). IsSound (cond b (moved (moves c.table e.act) homes) homes) (cond b (happened c e) c)) (sym not_so) sound
    ]

pub run_sound : (events : List Event) (c : DropState) (homes : Key → Home) → IsSound homes c → IsSound (run_homes events c homes) (run events c)
run_sound [] c homes sound = sound
run_sound (e ∷ more) c homes sound = run_sound more (next c e) (next_homes c e homes) (next_sound homes c e sound)

-- ---- how many may hold a slot

at_most_one : (s : ℕ) (g : Grip) → counts_hold s g ≤ 1
at_most_one s g = elim (cases_Bool (has_slot g.holds s)) [
  | inl e ↦ let is : counts_hold s g ≡ 1 = cond-true (has_slot g.holds s) 1 0 e in omega arith
  | inr e ↦ let is : counts_hold s g ≡ 0 = cond-false (has_slot g.holds s) 1 0 e in omega arith
]

all_hold : (s : ℕ) (grips : List Grip) → holders s grips ≤ length grips
all_hold s [] = let none : holders s [] ≡ 0 = refl in omega (arith, none)
all_hold s (g ∷ grips) = omega (arith, sum_by-cons (counts_hold s) g grips, at_most_one s g, all_hold s grips)

one_not : (s p : ℕ) (grips : List Grip) (g : Grip) → slice_get grips p ≡ Some g → has_slot g.holds s ≡ false → holders s grips + 1 ≤ length grips
one_not s p [] g at e = cc
one_not s zero (x ∷ grips) g at e =
    let is : x ≡ g = cc in
    let none : counts_hold s x ≡ 0 = ap (counts_hold s) is ∙ cond-false (has_slot g.holds s) 1 0 e in
    omega (arith, sum_by-cons (counts_hold s) x grips, none, all_hold s grips)
one_not s (suc p) (x ∷ grips) g at e = omega (arith, sum_by-cons (counts_hold s) x grips, at_most_one s x, one_not s p grips g at e)

pub enters : (homes : Key → Home) (c : DropState) (p s : ℕ) (g : Grip) → IsSound homes c → slice_get c.grips p ≡ Some g → has_slot g.holds s ≡ false → length c.grips ≤ most_passes
    → (slot_of c.table s).passes + 1 ≤ most_passes
enters homes c p s g sound at e few =
    let count = sound.table.holds_counted.counted s in
    let one = one_not s p c.grips g at e in
    omega (arith, count, one, few)
