-- The maintenance thread opens a pointer that it has shut.
use Rattle.std.proofs.Common.{◌≡◌, ℕ, true, true≢false, eq-eqb, not, List, []}
use Rattle.std.proofs.Common.{get_or, refl, sym, ap, ◌∙◌, subst, arith}
use Rattle.std.specs.Prelude.{◌&&◌}
use Rattle.std.proofs.lemmas.Bool.{and_from}
use Rattle.atomic_table.specs.Table.{Me, Allows}
use Rattle.lists.specs.Elements.{filter_only, in_filter}
use Rattle.homes.specs.declared.places.At.{At}
use Rattle.homes.specs.declared.places.Holder.TheVariants.{Free, Held}
use Rattle.homes.specs.declared.places.Span.{Span}
use Rattle.homes.specs.Homes.{same_at, holder_is}
use Rattle.homes.specs.Laws.{same_at-self}
use Rattle.commit_core.specs.declared.seat.Seat.{Seat}
use Rattle.drop_core.specs.declared.event.Act.TheVariants.{Reopen}
use Rattle.drop_core.specs.declared.grip.Grip.{Grip}
use Rattle.drop_core.specs.declared.table.Pointer.{Pointer}
use Rattle.drop_core.specs.declared.table.Table.{Table}
use Rattle.drop_core.specs.Event.{is_allowed as page_allows}
use Rattle.drop_core.specs.Table.{pointer_of}
use Rattle.engine_rule.specs.Event.{Joined, commit_lets, may_move}
use Rattle.engine_pages.specs.declared.layout.Layout.{Layout}
use Rattle.engine_pages.specs.declared.view.Shut.{Shut}
use Rattle.engine_pages.specs.declared.view.View.{View}
use Rattle.engine_pages.specs.Rule.{Shared, IsShut, Shows}
use Rattle.engine_pages.specs.Views.{IsActive, seat_number}
use Rattle.engine_pages.proofs.Joint.{Laws}
use Rattle.engine_pages.proofs.OwnView.{own_fits}
use Rattle.engine_pages.proofs.PointerLaws.{PointerIs, pointer_is}
use Rattle.engine_pages.proofs.Seats.{is_at}
use Rattle.engine_pages.proofs.Turns.{Stride, Begins, allows_at}
use Rattle.dual_pointer.proofs.Names.{number_same}
use Rattle.pointer_swings.specs.Shuts.{CanReopen, reopened, shut_of}
use Rattle.pointer_swings.proofs.Plain.{e as now_with, in_none_gone, repointed}
use Rattle.pointer_swings.proofs.Repoints.{Repointed}
use Rattle.pointer_swings.proofs.Steps.{old_now, pointer_stride, shut_still}
use Rattle.pointer_swings.proofs.Shutting.{keeper_active}

module _ (laws : Laws) (l : Layout) (words : List ℕ) (views : List View) (s : Shared) (id : ℕ) (v : View)
    (active : IsActive v.role) (b : Begins l words views s id v) (x : At) (sp : Span) (at value : ℕ)
    (c : CanReopen v x sp at value) where
  abbrev d : Table
  d = s.table

  abbrev p : ℕ
  p = seat_number v.role

  abbrev q : Pointer
  q = pointer_of d x

  facts : PointerIs l words s v x sp at
  facts = pointer_is l words views s id v x sp at b c.place

  was_shut : IsShut d s.resident p v.grip.holds (shut_of x value)
  was_shut = b.pages.shuts p (is_at v.role active) (shut_of x value) c.shut

  abbrev r : Pointer
  r = record q { holder = Free }

  abbrev e : Table
  e = now_with laws l words views s id v active b x sp at value c.place r

  abbrev w : View
  w = reopened x at value v

  open_point : Repointed laws l words views s id v active b x sp at value c.place s.story.places s.story.homes s.story.horizon e r []
  open_point = repointed laws l words views s id v active b x sp at value c.place r refl refl (λ ws is.
      let shows = facts.shows in
      let one : was_shut.number ≡ shows.number =
      number_same s.resident.places q.span was_shut.number shows.number q.page was_shut.named shows.named in record {
        number = shows.number;
        word = let a = was_shut.word in omega (arith, is, one);
        page = shows.page;
        slot = shows.slot;
        named = shows.named;
        keepers = λ o held. let no : Free ≡ Held o = held in absurd (cc);
      })

  pub open_stride : (f : ℕ → ℕ) → f (get_or words at 0) ≡ value → (tells : View → ℕ → View → Type 0)
      → tells v (get_or words at 0) w → Stride l words views s p v at f tells
  open_stride f f-is tells tells-so =
      let fv = b.fits in
      let old = old_now laws l words views s id v active b x sp at value c.place s.story.places s.story.homes s.story.horizon e r [] open_point in
      let held : holder_is p q.holder ≡ true = ap (holder_is p) was_shut.shut ∙ eq-eqb p p refl in
      pointer_stride laws l words views s id v active b x sp at value c.place s.story.places s.story.homes s.story.horizon e r [] open_point
      (Reopen x) w f tells c.keeper f-is
      (and_from (page_allows p d (s.grips p) (Reopen x)) (commit_lets p s.story (s.seats p) d (Reopen x) && may_move p s.story (s.seats p) [])
      held refl)
      (ap (λ (y : Seat). let j : Joined = record { story = s.story; seat = y; table = e; grip = s.grips p } in j) (sym b.own.seat)
      ∙ ap (λ (y : Grip). let j : Joined = record { story = s.story; seat = v.seat; table = e; grip = y } in j) (sym b.grip))
      record {
        role = refl;
        made = refl;
        marks = refl;
        stage = refl;
        mine = refl;
        draws = refl;
        due = refl;
        touched = refl;
        blamed = refl;
        locks = λ k has. has;
        fits = own_fits l s.story s.story s.seats v w active fv fv.part refl refl refl refl refl (λ place mark has. has) record {
          history = fv.history;
          decided = fv.decided;
          heard = fv.heard;
          mine = fv.mine;
          mine_own = fv.mine_own;
          records = fv.records;
          kept = fv.kept;
          versions = fv.versions;
          loaded = fv.loaded;
          tried = b.own.tried;
          took = b.own.took;
          locked = b.own.locked;
          low = fv.low;
          epoch = λ keeper. (fv.keepers keeper).epoch;
          past = λ keeper. (fv.keepers keeper).past;
        };
        now = record {
          within = b.pages.within;
          ways = old.ways;
          drafts = old.drafts;
          copies = old.copies;
          blanks = old.blanks;
          resident = b.pages.resident;
          leads = b.pages.leads;
          fills = old.fills;
          known = old.known;
          heads = λ z has. old.heads z has refl;
          moved = old.moved;
          sealed = λ u has. old.sealed u has refl;
          inners = old.inners;
          new_leaves = old.new_leaves;
          new_inners = old.new_inners;
          shuts = λ z has.
              let before = in_filter (λ (y : Shut). not (same_at y.at x)) z v.shuts has in
              let other = filter_only (λ (y : Shut). not (same_at y.at x)) z v.shuts has in
              shut_still laws l words views s id v active b x sp at value c.place s.story.places s.story.homes s.story.horizon e r [] open_point z
              (b.pages.shuts p (is_at v.role active) z before) (λ same. elsewhere z.at same other) (in_none_gone z.at);
        };
      } tells-so
    where
      elsewhere : (y : At) → x ≡ y → not (same_at y x) ≡ true → ⊥
      elsewhere y same other =
          true≢false (sym other ∙ ap not (subst (λ (z : At). same_at y z ≡ true) (sym same) (same_at-self y)))

pub reopens : Laws → (l : Layout) (slots id : ℕ) (me : Me (Unit {0}) View) (x : At) (sp : Span) (at word : ℕ)
    → CanReopen me.0 x sp at word
    → Allows (λ s. Shows l s.words s.views) slots id me at (λ _. word)
    (λ _ now. (now.1 ≡ me.1) × (now.0 ≡ reopened x at word me.0))
reopens laws l slots id me x sp at word can =
    allows_at laws l slots id me at (λ _. word) (λ v _ w. w ≡ reopened x at word v) (keeper_active me.0.role can.keeper)
    (λ words views s b.
    open_stride laws l words views s id me.0 (keeper_active me.0.role can.keeper) b x sp at word can (λ _. word) refl
    (λ v _ w. w ≡ reopened x at word v) refl)
