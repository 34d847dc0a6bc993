-- What the engine is behind a round, as between two rounds.
use Rattle.std.proofs.Common.{◌≡◌, ◌∙◌, sym, ap, subst, refl, ℕ, ◌+◌, ◌%◌, ◌^◌, ◌<◌, ◌≤◌}
use Rattle.std.proofs.Common.{List, [], ◌∷◌}
use Rattle.std.proofs.Common.{length, get_or, arith, Option, Some, None}
use Rattle.std.specs.Prelude.{unwrap_or}
use Rattle.std.specs.Option.{option_map_or}
use Rattle.std.specs.FinMap.{get}
use Rattle.serial_model.specs.declared.decl.Decl.{Decl}
use Rattle.serial_model.specs.declared.key.Key.{Key}
use Rattle.serial_model.specs.declared.number.Number.{Number}
use Rattle.serial_model.specs.Decls.{AreDecls}
use Rattle.serial_model.specs.Keys.{has_key, is_tree}
use Rattle.serial_model.specs.Numbers.{IsNumber}
use Rattle.serial_model.specs.State.{State}
use Rattle.serial_model.specs.Step.{reply_of}
use Rattle.homes.specs.declared.places.Content.{Content}
use Rattle.commit_core.specs.declared.attempt.Attempt.{Attempt}
use Rattle.commit_core.specs.Keys.{content_at, content_of, written}
use Rattle.commit_core.specs.Serial.{after_writes}
use Rattle.commit_core.specs.declared.seat.Seat.{Seat}
use Rattle.serial_bridge.specs.Bridge.{Agrees, after_attempts}
use Rattle.engine_seats.specs.Counts.{AreSerial}
use Rattle.engine_pages.specs.Views.{IsResting, bare_seat}
use Rattle.engine_pages.specs.declared.layout.Layout.{Layout}
use Rattle.engine_pages.specs.declared.view.View.{View}
use Rattle.resident_pages.specs.Fills.{AreClaimed}
use Rattle.shared_rounds.specs.Contents.{after_changes, after_commits}
use Rattle.shared_rounds.specs.Parts.{IsRound, Part, clock_number}
use Rattle.shared_rounds.specs.SharedState.{HoldsNothing, IsKept, opened, state_of}
use Rattle.shared_rounds.proofs.Contents.{changes_over, commits_append, opened_is}
use Rattle.shared_rounds.proofs.Counted.{now_counted, now_layout, split}
use Rattle.shared_rounds.proofs.Claimed.{claimed_still, free_still}
use Rattle.shared_rounds.proofs.Numbers.{epoch_of_word, later_epoch}
use Rattle.shared_rounds.proofs.Records.{records_stay}

-- ---- contents

-- after the writes of an attempt
agrees_then : (decls : List Decl) (s : State) (contents : Key → Content) (a : Attempt) → Agrees decls s contents
    → Agrees decls (after_changes s a.writes) (λ k. after_writes k a (contents k))
agrees_then decls s contents a agrees k =
    ap (reply_of (is_tree decls k.storage)) (changes_over s a.writes k) ∙ by_written (written k a.writes)
  where
    by_written : (o : Option (Option ℕ)) → reply_of (is_tree decls k.storage) (unwrap_or o (get s k))
        ≡ reply_of (is_tree decls k.storage) (option_map_or (λ v. content_of a.number v) o (contents k)).value
    by_written (Some v) = refl
    by_written None = agrees k

agrees_all : (decls : List Decl) (attempts : List Attempt) (s : State) (contents : Key → Content)
    → Agrees decls s contents
    → Agrees decls (after_commits s attempts) (after_attempts contents attempts)
agrees_all decls [] s contents agrees = agrees
agrees_all decls (a ∷ more) s contents agrees =
    agrees_all decls more (after_changes s a.writes) (λ k. after_writes k a (contents k))
    (agrees_then decls s contents a agrees)

-- the state is what the attempts leave of what stood at keys at first
pub state_agrees : (v : View) → Agrees v.layout.decls (state_of v) (after_attempts (content_at v.layout.opening) v.mine)
state_agrees v =
    agrees_all v.layout.decls v.mine (opened v.layout.opening) (content_at v.layout.opening)
    (λ k. ap (reply_of (is_tree v.layout.decls k.storage)) (opened_is v.layout.opening k))

-- ---- what is kept

module _ (tries : ℕ) (was now : View) (parts : List Part) (r : IsRound tries was now parts) where
  pub state_now : state_of now ≡ after_commits (state_of was) (split tries was now parts r).new
  state_now =
      ap (λ (l : Layout). after_commits (opened l.opening) now.mine) (now_layout tries was now parts r)
      ∙ ap (after_commits (opened was.layout.opening)) (split tries was now parts r).own
      ∙ commits_append (opened was.layout.opening) was.mine (split tries was now parts r).new

  pub kept_now : IsKept was → r.ended.seat ≡ was.seat → length r.ended.parked ≡ 8
      → ((worker : ℕ) → worker < 8 → IsResting (get_or r.ended.parked worker bare_seat)) → AreClaimed r.ended
      → HoldsNothing r.ended → IsKept now
  kept_now kept own parked_are parked claims nothing =
      let layout = now_layout tries was now parts r in record {
        role = ap (λ (v : View). v.role) r.audited.2.is ∙ ap (λ (v : View). v.role) r.audited.1.is ∙ r.role;
        made = ap (λ (v : View). v.made) r.audited.2.is ∙ ap (λ (v : View). v.made) r.audited.1.is ∙ r.made;
        decls = subst (λ (l : Layout). AreDecls l.decls) (sym layout) kept.decls;
        first = subst (λ (l : Layout). IsNumber l.first) (sym layout) kept.first;
        records = λ k none. ap (λ (t : State). get t k) state_now
            ∙ records_stay tries was now parts r (state_of was) k
            (ap (λ (l : Layout). has_key l.decls k) (sym layout) ∙ none)
            (kept.records k (ap (λ (l : Layout). has_key l.decls k) (sym layout) ∙ none));
        counted = now_counted tries was now parts r;
        draws = ap (λ (v : View). v.draws) r.audited.2.is
            ∙ r.audited.2.draws (ap (λ (v : View). v.role) r.audited.1.is ∙ r.role)
            (ap (λ (v : View). v.made) r.audited.1.is ∙ r.made);
        once = r.audited.2.once;
        serial = subst (λ (l : Layout). AreSerial l.opening now.history now.decided)
            (sym (ap (λ (v : View). v.layout) r.audited.2.is)) r.audited.2.serial;
        parked_are = parked_now (λ l. length l ≡ 8) parked_are;
        parked = λ worker less. parked_now (λ l. IsResting (get_or l worker bare_seat)) (parked worker less);
        rests = subst IsResting
            (sym (ap (λ (v : View). v.seat) r.audited.2.is ∙ ap (λ (v : View). v.seat) r.audited.1.is
            ∙ own)) kept.rests;
        some_slots = subst (λ (l : Layout). 0 < l.slots) (sym layout) kept.some_slots;
        few = subst (λ (l : Layout). l.resident ≤ 65536) (sym layout) kept.few;
        claimed = claimed_still r.ended now claims (layout ∙ sym r.layout)
            (ap (λ (v : View). v.fills) r.audited.2.is ∙ ap (λ (v : View). v.fills) r.audited.1.is)
            (ap (λ (v : View). v.pages) r.audited.2.is ∙ ap (λ (v : View). v.pages) r.audited.1.is);
        free = free_still r.ended now
            (ap (λ (v : View). v.grip) r.audited.2.is ∙ ap (λ (v : View). v.grip) r.audited.1.is)
            (ap (λ (v : View). v.ways) r.audited.2.is ∙ ap (λ (v : View). v.ways) r.audited.1.is)
            (ap (λ (v : View). v.took) r.audited.2.is ∙ ap (λ (v : View). v.took) r.audited.1.is)
            (ap (λ (v : View). v.shuts) r.audited.2.is ∙ ap (λ (v : View). v.shuts) r.audited.1.is)
            (ap (λ (v : View). v.heads) r.audited.2.is ∙ ap (λ (v : View). v.heads) r.audited.1.is) nothing;
      }
    where
      parked_now : (P : List Seat → Type 0) → P r.ended.parked → P now.parked
      parked_now P one =
          subst P (sym (ap (λ (v : View). v.parked) r.audited.2.is ∙ ap (λ (v : View). v.parked) r.audited.1.is)) one

  -- the clock's number
  pub clock_now : (clock : Number) → IsKept was → IsNumber clock → clock.epoch ≡ was.epoch
      → IsNumber (clock_number r.clock)
  clock_now clock kept number epoch =
      let first = kept.first.some_draw in
      let draws = r.audited.1.draws in
      let layout : r.ended.layout.first.draw ≡ was.layout.first.draw = ap (λ (l : Layout). l.first.draw) r.layout in
      let later = later_epoch tries was now parts r in
      let some = number.some_epoch in
      let word = epoch_of_word r.audited.1.number r.clock r.audited.1.found r.audited.1.small in
      let high = r.audited.1.small.epoch in record {
        some_epoch = omega arith;
        most_epoch = omega arith;
        some_draw = omega arith;
        most_draw = omega arith;
      }

  pub clock_stands : (clock_number r.clock).epoch ≡ now.epoch
  clock_stands = sym (ap (λ (v : View). v.epoch) r.audited.2.is ∙ ap (λ (v : View). v.epoch) r.audited.1.is)

  -- the clock counts the draws
  pub clock_draws : r.clock % 2 ^ 40 ≡ was.layout.first.draw + r.ended.draws
  clock_draws =
      let own = r.audited.1.own r.role r.made in
      let draws = r.audited.1.draws in
      let layout : r.ended.layout.first.draw ≡ was.layout.first.draw = ap (λ (l : Layout). l.first.draw) r.layout in
      omega (arith, own, draws, layout)

  pub now_draws : now.draws ≡ r.ended.draws
  now_draws = ap (λ (v : View). v.draws) r.audited.2.is ∙ ap (λ (v : View). v.draws) r.audited.1.is

  pub clock_now_draws : (clock_number r.clock).draw ≡ now.layout.first.draw + now.draws
  clock_now_draws =
      let first : now.layout.first.draw ≡ was.layout.first.draw =
      ap (λ (l : Layout). l.first.draw) (now_layout tries was now parts r) in
      omega (arith, clock_draws, now_draws, first)
