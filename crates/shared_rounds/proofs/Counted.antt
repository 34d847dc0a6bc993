-- What the count behind the lines tells of the one before them.
use Rattle.std.proofs.Common.{◌≡◌, ◌∙◌, sym, ap, subst, ℕ, List, ◌++◌}
use Rattle.std.specs.List.{filter}
use Rattle.serial_model.specs.declared.number.Number.{Number}
use Rattle.commit_core.specs.declared.attempt.Attempt.{Attempt}
use Rattle.commit_core.specs.Keys.{content_at, opening_number}
use Rattle.commit_core.specs.Serial.{ReadsAreSerial}
use Rattle.views.specs.Sums.{total}
use Rattle.engine_seats.specs.Between.{Between, Splits, counts, splits}
use Rattle.engine_seats.specs.Cuts.{HasSeen}
use Rattle.engine_pages.specs.declared.layout.Layout.{Layout}
use Rattle.engine_pages.specs.declared.view.View.{View}
use Rattle.shared_rounds.specs.Parts.{IsRound, Part}
use Rattle.shared_rounds.specs.SharedState.{IsCounted}
use Rattle.shared_rounds.proofs.Joined.{joined_made, joined_order, mines_of}
use Rattle.shared_rounds.proofs.Made.{in_front, seen_then}

module _ (tries : ℕ) (was now : View) (parts : List Part) (r : IsRound tries was now parts) where
  -- what stays from the end of the last seat on
  pub now_mine : now.mine ≡ r.ended.mine
  now_mine = ap (λ (v : View). v.mine) r.audited.2.is ∙ ap (λ (v : View). v.mine) r.audited.1.is

  pub timed_layout : r.audited.0.layout ≡ was.layout
  timed_layout = ap (λ (v : View). v.layout) r.audited.1.is ∙ r.layout

  pub now_layout : now.layout ≡ was.layout
  now_layout = ap (λ (v : View). v.layout) r.audited.2.is ∙ timed_layout

  pub ended_seen : HasSeen r.ended now
  ended_seen =
      seen_then r.ended r.audited.0 now
      (record { history = r.audited.1.history; decided = r.audited.1.decided })
      (record { history = r.audited.2.history; decided = r.audited.2.decided })

  pub was_seen : HasSeen was now
  was_seen = seen_then was r.ended now r.seen ended_seen

  pub now_all : (h : Number → ℕ) → total (λ (a : Attempt). h a.number) now.mine ≡ total h now.decided
  now_all h =
      ap (total (λ (a : Attempt). h a.number)) (ap (λ (v : View). v.mine) r.audited.2.is)
      ∙ r.audited.2.all (ap (λ (v : View). v.role) r.audited.1.is ∙ r.role)
      (ap (λ (v : View). v.made) r.audited.1.is ∙ r.made) h

  pub serial : ReadsAreSerial was.layout.opening (filter (counts now.decided) now.history)
  serial =
      subst (λ (l : Layout). ReadsAreSerial l.opening (filter (counts now.decided) now.history)) timed_layout
      r.audited.2.serial.run

  pub between : Between was.history now.history was.decided now.decided was.mine now.mine (mines_of parts)
  between = record {
    seen = was_seen.history;
    chosen = was_seen.decided;
    gathers = now_mine ∙ r.gathers;
    first = r.counted.all;
    first_drawn = r.counted.drawn;
    counted = now_all;
    once = r.audited.2.once;
    low = (content_at was.layout.opening (record { storage = 0; key = 0 })).number;
    rising = serial.rising (record { storage = 0; key = 0 });
    drawn = λ a has. in_front r.ended.history now.history a ended_seen.history
        (joined_made tries was r.ended 0 parts r.parts_are a has).drawn;
    above = λ b a there has. (joined_made tries was r.ended 0 parts r.parts_are a has).above b there;
    start = opening_number;
    ordered = joined_order tries was r.ended 0 parts r.parts_are;
  }

  pub split : Splits was.history now.history was.decided now.decided was.mine now.mine (mines_of parts)
  split = splits was.history now.history was.decided now.decided was.mine now.mine (mines_of parts) between

  -- what counts now: what counted before, and then the new ones
  pub counts_now : filter (counts now.decided) now.history ≡ was.mine ++ split.new
  counts_now = split.cut ∙ ap (λ (l : List Attempt). l ++ split.new) (sym r.counted.own)

  pub serial_now : ReadsAreSerial was.layout.opening (was.mine ++ split.new)
  serial_now = subst (ReadsAreSerial was.layout.opening) counts_now serial

  -- and the next round begins with this count
  pub now_counted : IsCounted now
  now_counted = record {
    own = split.own ∙ sym counts_now;
    all = now_all;
    drawn = r.audited.2.drawn;
  }
