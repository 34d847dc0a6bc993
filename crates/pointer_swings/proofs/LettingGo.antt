-- What was seen is let go: the maintenance thread keeps nothing, and may leave each slot.
use Rattle.std.proofs.Common.{◌≡◌, inl, ℕ, ◌<◌, List, [], length, get_or, set, refl, sym, ap, ◌∙◌, subst, arith}
use Rattle.std.proofs.lemmas.List.{append-nil}
use Rattle.atomic_table.specs.Table.{Me, Allows}
use Rattle.commit_core.specs.declared.event.Act.TheVariants.{Forget}
use Rattle.commit_core.specs.declared.seat.Seat.{Seat}
use Rattle.commit_core.specs.declared.seat.Stage.TheVariants.{Idle}
use Rattle.commit_core.specs.CoreState.{can_begin, last_marked}
use Rattle.engine_pages.specs.declared.layout.Layout.{Layout}
use Rattle.engine_pages.specs.declared.view.Role.TheVariants.{Keeper}
use Rattle.engine_pages.specs.declared.view.View.{View}
use Rattle.engine_pages.specs.Rule.{Shows}
use Rattle.engine_pages.specs.Views.{HasPart, seat_number}
use Rattle.engine_pages.specs.Words.{ShowsWords}
use Rattle.engine_pages.proofs.CommitSteps.{commit_stride}
use Rattle.engine_pages.proofs.Dealing.{rests}
use Rattle.engine_pages.proofs.FirstWords.{FirstTen, first_kept}
use Rattle.engine_pages.proofs.Joint.{Laws}
use Rattle.engine_pages.proofs.OwnView.{own_fits}
use Rattle.engine_pages.proofs.PagesStay.{words_same}
use Rattle.engine_pages.proofs.Seats.{records_none}
use Rattle.engine_pages.proofs.Turns.{allows_at, marks_stay, tried_goes, unwritten}
use Rattle.page_records.proofs.Placing.{low_none}
use Rattle.pointer_swings.specs.Children.{let_go}
use Rattle.pointer_swings.proofs.Shutting.{keeper_active}

-- the maintenance thread's seat has no attempt
pub keeper_idle : (l : Layout) (v : View) → v.role ≡ Keeper → HasPart v.role v.made v.due v.seat.stage v.mine
    → v.seat.stage ≡ Idle
keeper_idle l v keeper part =
    let so = subst (λ r. HasPart r v.made v.due v.seat.stage v.mine) keeper part in so.1

pub lets_go : Laws → (l : Layout) (slots id : ℕ) (me : Me (Unit {0}) View) → me.0.role ≡ Keeper
    → Allows (λ s. Shows l s.words s.views) slots id me 0 (λ n. n)
    (λ n now. (now.1 ≡ me.1) × (now.0 ≡ let_go n me.0))
lets_go laws l slots id me keeper =
    let active = keeper_active me.0.role keeper in
    allows_at laws l slots id me 0 (λ n. n) (λ v n w. w ≡ let_go n v) active (λ words views s b.
    let v = me.0 in
    let p = seat_number v.role in
    let m = s.story in
    let h = b.sound in
    let f = b.fits in
    let own = b.own in
    let w = let_go (get_or words 0 0) v in
    let words' = set words 0 (get_or words 0 0) in
    let same : words' ≡ words = unwritten words 0 in
    let ten : FirstTen l words words' m m = record {
      long = ap (λ (z : List ℕ). length z) same;
      others = λ j low. ap (λ (z : List ℕ). get_or z j 0) same;
      clock = ap (λ (z : List ℕ). get_or z 0 0) same ∙ h.shown.clock;
      decisions = ap (λ (z : List ℕ). get_or z 1 0) same ∙ h.shown.decisions;
      places = refl;
      history = ([], append-nil m.history);
      decided = ([], append-nil m.decided);
    } in
    let pages = first_kept l words words' views s id v m active b ten in
    commit_stride laws l words views s id v active b 0 (λ n. n) Forget m w (λ v n w. w ≡ let_go n v) record {
      lets = refl;
      allowed = ap can_begin (keeper_idle l v keeper f.part);
      story-is = refl;
      seat-is = refl;
      grip = refl;
      role = refl;
      made = refl;
      small = h.small;
      valued = h.valued;
      shown = subst (λ (z : List ℕ). ShowsWords l z m s.table s.trees s.resident) (sym same) h.shown;
      marks = marks_stay words words' s.seats p v.seat w.seat h.marks own.seat refl
          (λ j lo hi. ap (λ y. get_or y j 0) same);
      marked = λ place mark has. has;
      marks_low = subst (λ (z : Seat). last_marked z.marks < m.epoch) (sym own.seat) (h.marked p);
      drawn = λ a has. inl has;
      tried = tried_goes m m s.seats p v.seat w.seat own.seat refl refl refl (inl refl) h.tried;
      fits = own_fits l m m s.seats v w active f f.part refl refl refl refl refl (λ place mark has. has) record {
        history = f.history;
        decided = f.decided;
        heard = f.heard;
        mine = f.mine;
        mine_own = f.mine_own;
        records = records_none l.decls l.opening m.history;
        kept = low_none m.places;
        versions = f.versions;
        loaded = tt;
        tried = own.tried;
        took = own.took;
        locked = own.locked;
        low = f.low;
        epoch = λ keeper. (f.keepers keeper).epoch;
        past = λ keeper. (f.keepers keeper).past;
      };
      mine = λ z. refl;
      drew = refl;
      few = omega arith;
      room = omega (arith, h.sums.room);
      now = record { within = pages.within; ways = pages.ways; drafts = pages.drafts; copies = pages.copies; blanks = pages.blanks; resident = pages.resident; leads = pages.leads; fills = pages.fills; known = pages.known; shuts = pages.shuts; heads = pages.heads; moved = pages.moved; sealed = pages.sealed; inners = pages.inners; new_leaves = pages.new_leaves; new_inners = pages.new_inners };
      frame = words_same l words words' s p (λ j low. ap (λ (z : List ℕ). get_or z j 0) same);
      deals = rests l words views s id v b words' w
          record { role = refl; ways = refl; took = refl; gone = refl; touched = refl; blamed = refl; locks = refl } refl
          (λ k x at is. ap (λ (z : List ℕ). get_or z at 0) same);
    } refl)
