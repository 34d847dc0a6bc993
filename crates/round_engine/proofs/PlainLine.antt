-- A line of the maintenance thread that stores nothing and makes no snapshot.
use Rattle.std.proofs.Common.{◌+◌, ◌++◌, ◌≡◌, ◌∙◌, ◌≤◌, ◌-◌, ◌∷◌, sym, ap, subst, refl, ℕ, List, [], length, map}
use Rattle.std.proofs.Common.{Bool, true, false, Option, None, arith}
use Rattle.std.specs.Prelude.{◌||◌, flat_map, fold, is_some, min, option_to_list, slice_get}
use Rattle.std.specs.List.{list_any}
use Rattle.std.proofs.lemmas.List.{append-nil}
use Rattle.std.proofs.lemmas.Option.{same_Some}
use Rattle.lists.specs.Elements.{in_none}
use Rattle.outside.specs.Disk.{Runs}
use Rattle.outside.specs.Moments.{runs_none}
use Rattle.outside.specs.Reads.{OnlyReads}
use Rattle.log_writer.specs.Points.{sequence_of}
use Rattle.log_writer.specs.declared.vault.Vault.{Vault}
use Rattle.lists.specs.Fronts.{IsFront}
use Rattle.script_grammar.specs.declared.lines.KeeperLine.{KeeperLine}
use Rattle.tx_script.specs.CausedBeside.{SavesSee, drops_told}
use Rattle.tx_script.specs.SeenLaws.{saved_no_less}
use Rattle.tx_script.specs.Run.{AdvancesTo, Ran}
use Rattle.tx_script.specs.Causes.{AnswerCause, keeper_after, some_counted}
use Rattle.tx_script.specs.declared.answer.Answer.{Answer}
use Rattle.wire_form.specs.declared.clock.Mark.{Mark}
use Rattle.snapshot_store.specs.Content.{SnapshotStands, words_of}
use Rattle.snapshot_store.specs.Store.{HoldsPages, StoreState}
use Rattle.worker_logs.specs.Saves.{saved_epoch}
use Rattle.worker_logs.specs.declared.savepoints.Beside.{Beside}
use Rattle.log_writer.specs.declared.saved.Saved.{Saved}
use Rattle.engine_pages.specs.declared.view.Dropped.{Dropped as Counts}
use Rattle.round_engine.specs.Drops.{counts_of}
use Rattle.round_engine.specs.Ends.{wants_memory}
use Rattle.round_engine.specs.Gleans.{GleansOver, LeaveGleans, RoundGleans}
use Rattle.round_engine.specs.Keeping.{AreByPlace, at_epoch, CanKeep, epoch_by, epochs_in, GoOn, is_refusal, keeper_on, last_seen}
use Rattle.round_engine.specs.Keeping.{NeedCounted, RunsKeeper, with_drops}
use Rattle.round_engine.specs.Saves.{AreSavedIn, beside_after, beside_at_save, saves_told}
use Rattle.round_engine.specs.Sides.{closed_in, growing_in}
use Rattle.round_engine.specs.Standing.{beside_of, RuntimeState}
use Rattle.round_engine.proofs.Beside.{keeps_none}
use Rattle.round_engine.proofs.GleansThen.{no_snap, snap_in}
use Rattle.round_engine.proofs.KeeperThen.{where_memory}
use Rattle.round_engine.proofs.Published.{SamePages, published_then}

-- ---- no glean

-- nothing that a glean touches changed
pub record Ungleaned {D : Type 0} (old new : RuntimeState) (before now : Vault D) : Type 0 where
  pub store : new.store ≡ old.store
  pub decls : new.stands.decls ≡ old.stands.decls
  pub pages : SamePages old.stands new.stands
  pub room : new.room ≡ old.room
  pub side : new.side ≡ old.side
  pub counted : new.counted ≡ old.counted
  pub closed_at : new.closed_at ≡ old.closed_at
  pub snaps : now.snaps ≡ before.snaps
  pub growing : growing_in old.side now ≡ growing_in old.side before
  pub closed : closed_in old.side now ≡ closed_in old.side before
  pub cuts : now.cuts.items ≡ before.cuts.items

-- the answer tells no snapshot
pub record TellsNone (answer : Answer) : Type 0 where
  pub none : snap_in (answer ∷ []) ≡ false
  pub beside : (b : Beside) → beside_after b answer ≡ b

pub reads_none : {D : Type 0} {tells : D → Option (List ℕ)} {clock : D → ℕ} {image_at : D → ℕ → List ℕ → Type 0}
    {faults : D → ℕ} (disk : D) → OnlyReads tells clock image_at faults disk disk
reads_none disk = record {
  told = refl;
  moments = record {
    later = omega arith;
    kept = λ m c le left. left;
    no_new = λ m c le left. left;
    from = λ m c gt le left. absurd (omega (arith, gt, le));
  };
  later = omega arith;
}

module _ {D : Type 0} (tells : D → Option (List ℕ)) (clock : D → ℕ) (image_at : D → ℕ → List ℕ → Type 0) (faults : D → ℕ)
    (answer : Answer) {old new : RuntimeState} {before now : Vault D} (is : TellsNone answer)
    (same : Ungleaned old new before now) where
  pub gleans_none : RoundGleans tells (answer ∷ []) [] None old new before now
  gleans_none = record {
    told = ap (λ d. is_some (tells d)) same.snaps;
    found = λ what has. absurd (in_none what has);
    made = λ epoch count has. absurd (no_snap (answer ∷ []) is.none epoch count has);
    kept = λ none up. (same.store, same.snaps);
    damage = λ device at no. absurd cc;
    undamaged = λ none. refl;
    many = λ up. ap (λ (s : StoreState). length s.pages) same.store ∙ ap (λ (b : Beside). b.count) (sym (is.beside (beside_of old)));
  }

  over_none : GleansOver tells clock image_at faults old before now
  over_none = record {
    growing = same.growing;
    cuts = same.cuts;
    front = λ front within begins. subst (λ d. Runs clock image_at before.snaps d (IsFront front)) (sym same.snaps)
        (runs_none before.snaps (IsFront front));
    told = ap (λ d. is_some (tells d)) same.snaps;
    many = ap length same.closed;
    reads = λ worker was file at there.
        let one : file ≡ was = same_Some file was (sym there ∙ ap (λ l. slice_get l worker) same.closed ∙ at) in
        subst (λ d. OnlyReads tells clock image_at faults was d) (sym one) (reads_none was);
  }

  pub leaves_none : LeaveGleans tells clock image_at faults (answer ∷ []) [] old new before now
  leaves_none = record {
    room = same.room;
    side = same.side;
    closed_at = same.closed_at;
    counted = same.counted ∙ ap (λ (b : Beside). b.closed) (sym (is.beside (beside_of old)));
    grows = ([], ap (λ (s : StoreState). s.pages) same.store ∙ sym (append-nil old.store.pages));
    sound = λ fine up. ap (λ (s : StoreState). s.sound) same.store ∙ up;
    snapshot = λ has up.
        let h = has (ap (λ (s : StoreState). s.sound) (sym same.store) ∙ up) in
        record {
          holds = subst (λ d. HoldsPages tells d new.store.pages) (sym same.snaps)
              (subst (λ (s : StoreState). HoldsPages tells before.snaps s.pages) (sym same.store) h.holds);
          contents = h.contents;
          stands = subst (λ (s : StoreState). SnapshotStands (words_of s.pages) (length s.pages) h.contents) (sym same.store) h.stands;
          decls = same.decls ∙ h.decls;
          up_to = omega (arith, h.up_to, same.closed_at);
          earlier = λ some. omega (arith, h.earlier (subst (λ l. some_counted l ≡ true) same.counted some), same.closed_at);
          let_in = omega (arith, h.let_in, same.room, ap (λ (s : StoreState). length s.pages) same.store);
          published = published_then old.stands new.stands old.store.pages new.store.pages old.room new.room same.pages same.room
              (ap (λ (s : StoreState). s.pages) same.store) h.published;
        };
    over = over_none;
    quietly = record {
      snaps = λ fine. ap faults same.snaps;
      files = λ worker was file at there fine.
          ap faults (same_Some file was (sym there ∙ ap (λ l. slice_get l worker) same.closed ∙ at));
    };
    fails = λ device no. absurd (in_none device no);
  }

  pub needs_none : NeedCounted old (answer ∷ []) [] [] None
  needs_none = record {
    found = λ what has. absurd (in_none what has);
    made = λ epoch count has. absurd (no_snap (answer ∷ []) is.none epoch count has);
    damage = λ no. absurd (let bad = no in cc);
    device = λ device has. absurd (in_none device has);
  }

-- ---- epochs

least_up : (m n : ℕ) (xs : List ℕ) → m ≤ n → fold min m xs ≤ fold min n xs
least_up m n [] le = le
least_up m n (x ∷ xs) le = least_up (min m x) (min n x) xs (omega (arith, le))

-- the epoch that would be saved rises with the clock's
pub saved_up : (a b : ℕ) (marks : List (Option ℕ)) → a ≤ b → saved_epoch a marks ≤ saved_epoch b marks
saved_up a b marks le = least_up (a - 1) (b - 1) (flat_map option_to_list marks) (omega (arith, le))

-- and with marks that go on
pub saved_on : (a b : ℕ) (from : List Mark) (seen : List (List Mark)) → a ≤ b → GoOn from seen
    → epoch_by a from ≤ epoch_by b (last_seen from seen)
saved_on a b from [] le going = saved_up a b (epochs_in from) le
saved_on a b from (marks ∷ seen) le going =
    let one = saved_no_less a b (epochs_in from) (epochs_in marks) le going.0 in
    let rest = saved_on b b marks seen (omega arith) going.1 in
    omega (arith, one, rest)

-- ---- a line at which at most the epoch is advanced, or a drop is counted

-- what such an answer is
pub record IsPlain (answer : Answer) : Type 1 where
  pub tells : TellsNone answer
  pub unsaved : saves_told (answer ∷ []) ≡ []
  pub none_in : (By : Beside → Saved → Type 0) (b : Beside) → AreSavedIn By b (answer ∷ []) []
  pub goes_on : is_refusal answer ≡ false
  pub remembers : wants_memory answer ≡ false

module _ {D : Type 0} {tells : D → Option (List ℕ)} {clock : D → ℕ} {image_at : D → ℕ → List ℕ → Type 0} {faults : D → ℕ}
    (r : RuntimeState) (vault : Vault D) (ready : CanKeep tells clock image_at r vault) where
  pub plain_line : (line : KeeperLine) (answer : Answer) (epoch : ℕ) (drops : List Counts) → IsPlain answer
      → r.stands.clock.epoch ≤ epoch → AdvancesTo r.stands.clock.epoch (answer ∷ []) epoch
      → drops ≡ r.stands.drops ++ map counts_of (drops_told (answer ∷ []))
      → keeper_after (keeper_on r false) answer ≡ keeper_on (at_epoch r epoch) false
      → ((ran : Ran) → AnswerCause ran (keeper_on r false) line answer)
      → (seen : List (List Mark)) → ((ran : Ran) (index : ℕ)
      → SavesSee ran index (keeper_on r false) (line ∷ []) (answer ∷ []) (index + length seen))
      → AreByPlace r.stands.clock.epoch epoch (beside_at_save (beside_of r) (answer ∷ [])) seen []
      (sequence_of r.save.newest) (sequence_of r.save.newest)
      → RunsKeeper tells clock image_at faults seen (line ∷ []) (answer ∷ []) None r (with_drops (at_epoch r epoch) drops) vault vault
  plain_line line answer epoch drops is le advances added after cause seen saw placed =
      let same : Ungleaned r (with_drops (at_epoch r epoch) drops) vault vault = record {
        store = refl;
        decls = refl;
        pages = record { pages = refl; resident = refl };
        room = refl;
        side = refl;
        counted = refl;
        closed_at = refl;
        snaps = refl;
        growing = refl;
        closed = refl;
        cuts = refl;
      } in
      let k = keeps_none {tells = tells} {clock = clock} {image_at = image_at} {faults = faults} r vault ready.up ready.stored in
      record {
        stored = [];
        failed = None;
        gleans = [];
        broken = [];
        damaged = None;
        keeps = record {
          newest = k.newest;
          down = k.down;
          stands = k.stands;
          told = k.told;
          snaps_told = k.snaps_told;
          later = k.later;
          quiet = k.quiet;
          rose = k.rose;
          ties_are = k.ties_are;
          ended = k.ended;
          ties_stay = k.ties_stay;
          grows = k.grows;
          counts = k.counts;
          keeper = k.keeper;
        };
        by_lines = is.none_in _ (beside_of r);
        by_failed = tt;
        by_place = placed;
        gleaned = gleans_none tells clock image_at faults answer is.tells same;
        leaves = leaves_none tells clock image_at faults answer is.tells same;
        needs = needs_none tells clock image_at faults answer is.tells same;
        rise = λ from going low. (
          tt,
          omega (
            arith,
            low,
            saved_on r.stands.clock.epoch epoch from seen le going,
          ),
        );
        later = le;
        stands = refl;
        dropped = added;
        logs = refl;
        is_down = refl;
        count = refl;
        advances = advances;
        at_end = after ∙ ap (λ b. keeper_on (at_epoch r epoch) b) (sym (no_more (is_refusal answer) is.goes_on))
            ∙ ap (λ (b : Beside). record (keeper_on (at_epoch r epoch) (list_any is_refusal (answer ∷ []))) { pages = b.count })
            (sym (is.tells.beside (beside_of r)));
        refused = sym (no_more (is_refusal answer) is.goes_on);
        refusal_is = sym (ap (λ b. where_memory b) (no_more (wants_memory answer) is.remembers));
        told = sym is.unsaved;
        caused = λ ran rests. (cause ran, tt);
        saw = λ ran index are. saw ran index;
        above = λ low. omega (arith, low, le);
        tie_room = omega arith;
        cut_room = refl;
      }
    where
      no_more : (b : Bool) → b ≡ false → (b || false) ≡ false
      no_more true is = is
      no_more false is = refl
