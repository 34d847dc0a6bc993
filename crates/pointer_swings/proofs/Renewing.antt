-- The maintenance thread leads a pointer's lower half to the newest snapshot page over its keys.
use Rattle.std.proofs.Common.{◌≡◌, ℕ, zero, suc, ◌+◌, ◌<◌, ◌≤◌, ◌^◌, Bool, true, false, eqb, eqb-true, eq-eqb, ltb, leb, not, List, [], ◌∷◌, length}
use Rattle.std.proofs.Common.{get_or, refl, sym, ap, ◌∙◌, subst, arith, Option, Some, None}
use Rattle.std.specs.Prelude.{◌&&◌, MatchBool, is_none}
use Rattle.std.proofs.lemmas.Bool.{and_from}
use Rattle.std.proofs.lemmas.Bool.Decides.{nat_tests}
use prog.Atomic.{either}
use Rattle.atomic_table.specs.Table.{Me, Allows}
use Rattle.lists.specs.Elements.{at_below}
use Rattle.serial_model.specs.declared.decl.Decl.{Decl}
use Rattle.serial_model.specs.Keys.{id_of}
use Rattle.homes.specs.declared.places.At.{At}
use Rattle.homes.specs.declared.places.Holder.TheVariants.{Free, Held}
use Rattle.homes.specs.declared.places.Span.{Span}
use Rattle.homes.specs.Homes.{is_free, same_span}
use Rattle.wire_form.specs.Words.{at_bit, slot_field}
use Rattle.snapshot_store.specs.declared.place.PagePlace.{PagePlace}
use Rattle.snapshot_store.specs.ArrayPages.{indexes_at, last_at}
use Rattle.snapshot_store.specs.Content.{format_of}
use Rattle.snapshot_store.specs.Places.{places_below, words_at}
use Rattle.commit_core.specs.declared.seat.Seat.{Seat}
use Rattle.drop_core.specs.declared.event.Act.TheVariants.{Renew}
use Rattle.drop_core.specs.declared.grip.Grip.{Grip}
use Rattle.drop_core.specs.declared.table.Pointer.{Pointer}
use Rattle.drop_core.specs.declared.table.Table.{Table}
use Rattle.drop_core.specs.Event.{is_open, is_page_over, is_allowed as page_allows}
use Rattle.drop_core.specs.Table.{page_span, pointer_of, is_live, snap_of}
use Rattle.engine_rule.specs.declared.event.JointAct.TheVariants.{Turn as TurnPages}
use Rattle.engine_rule.specs.Event.{Joined, commit_lets, may_move}
use Rattle.engine_rule.specs.Reading.{page_from, span_of}
use Rattle.engine_pages.specs.declared.layout.Layout.{Layout}
use Rattle.engine_pages.specs.declared.view.Lead.{Lead}
use Rattle.engine_pages.specs.declared.view.Shut.{Shut}
use Rattle.engine_pages.specs.declared.view.View.{View}
use Rattle.engine_pages.specs.Resident.{IsNamed, place_for}
use Rattle.engine_pages.specs.Rule.{Shared, IsLead, IsShut, Shows}
use Rattle.engine_pages.specs.Steps.{read_at}
use Rattle.engine_pages.specs.Views.{IsActive, seat_number}
use Rattle.engine_pages.specs.Words.{lock_field}
use Rattle.engine_pages.proofs.Joint.{Laws, may_do}
use Rattle.engine_pages.proofs.OwnView.{own_fits}
use Rattle.engine_pages.proofs.PointerLaws.{PointerIs, named_entry, open_pointer, pointer_is}
use Rattle.engine_pages.proofs.Seats.{is_at}
use Rattle.engine_pages.proofs.Turns.{Stride, Begins, allows_at}
use Rattle.pointer_swings.specs.Renewals.{CanRenew, HasRenewed, renewed, renewed_word}
use Rattle.pointer_swings.proofs.Misses.{missed}
use Rattle.pointer_swings.proofs.Plain.{e as now_with, in_none_gone, repointed}
use Rattle.pointer_swings.proofs.Shutting.{keeper_active}
use Rattle.pointer_swings.proofs.Repoints.{Repointed}
use Rattle.pointer_swings.proofs.Steps.{old_now, pointer_stride, shut_still}

-- a range of some height is not empty, and above the leaves it is wider than a leaf's
indexes_some : (height : ℕ) → 0 < indexes_at height
indexes_some zero = omega arith
indexes_some (suc height) = let some = indexes_some height in omega (arith, some)

pub last_more : (height : ℕ) → 31 < last_at (suc height)
last_more height = let some = indexes_some height in omega (arith, some)

-- ---- a page that a pointer may be led to

pub span_self : (z : Span) → same_span z z ≡ true
span_self z =
    and_from (eqb z.storage z.storage) _ (eq-eqb z.storage z.storage refl)
    (and_from (eqb z.low z.low) (eqb z.high z.high) (eq-eqb z.low z.low refl) (eq-eqb z.high z.high refl))

-- the page with a name is published, and over the keys that it is named for
pub record IsTargetPage (d : Table) (sp : Span) (name : ℕ) : Type 0 where
  pub some : 0 < name
  pub most : name ≤ d.published
  pub span : page_span (snap_of d name) ≡ sp

pub target_page : (l : Layout) (words : List ℕ) (views : List View) (s : Shared) (id : ℕ) (v : View)
    → Begins l words views s id v → (sp : Span) (number name : ℕ) → IsNamed s.resident.places sp number name
    → 0 < number → IsTargetPage s.table sp name
target_page l words views s id v b sp number name named some =
    let d = s.table in
    let r = s.resident in
    let there = named_entry r.places sp number name named some in
    let e : Decl × PagePlace = (there.decl, place_for sp number) in
    let less = at_below r.places there.index e there.at in
    let is = there.is in
    let count = b.sound.named.count in
    let says = b.sound.named.says there.index e there.at in record {
      some = omega arith;
      most = omega arith;
      span =
          ap (λ i. page_span (snap_of d i)) is
          ∙ (ap page_span says
          ∙ (page_over there.decl (words_at r.pages e.1) (places_below (format_of there.decl) r.pages e.1)
          ∙ ap (λ i. let z : Span = record { storage = i; low = sp.low; high = sp.high } in z) there.storage));
    }
  where
    -- a page is over the keys of its place
    page_over : (decl : Decl) (ws : List ℕ) (below : List PagePlace)
        → page_span (page_from s.resident.places decl ws (place_for sp number) below)
        ≡ span_of (id_of decl) (place_for sp number)
    page_over decl ws [] = refl
    page_over decl ws (q ∷ below) = refl

-- ---- the step

module _ (laws : Laws) (l : Layout) (words : List ℕ) (views : List View) (s : Shared) (id : ℕ) (v : View)
    (active : IsActive v.role) (b : Begins l words views s id v) (x : At) (sp : Span) (at number expected : ℕ)
    (c : CanRenew v x sp at number expected) (n-is : get_or words at 0 ≡ expected) where
  abbrev d : Table
  d = s.table

  abbrev p : ℕ
  p = seat_number v.role

  abbrev q : Pointer
  q = pointer_of d x

  there : PointerIs l words s v x sp at
  there = pointer_is l words views s id v x sp at b c.place

  free : q.holder ≡ Free
  free =
      let shows = there.shows in
      open_pointer (at_bit 0 shows.number + at_bit 32 (slot_field q.slot)) q.holder
      (subst (λ k. k < 2 ^ 60) shows.word (let a = n-is in let low = c.free in omega arith))

  -- the page that it is led to
  abbrev lead : Lead
  lead = c.lead.0

  lead-is : IsLead s.resident lead
  lead-is = b.pages.leads lead c.lead.1

  named : IsNamed s.resident.places sp number lead.name
  named =
      subst (λ (z : Span). IsNamed s.resident.places z number lead.name) c.lead.2
      (subst (λ k. IsNamed s.resident.places lead.span k lead.name) c.lead.3 lead-is.named)

  target : IsTargetPage d sp lead.name
  target = target_page l words views s id v b sp number lead.name named c.some

  abbrev r : Pointer
  r = record q { page = lead.name }

  abbrev value : ℕ
  value = renewed_word expected number

  abbrev e : Table
  e = now_with laws l words views s id v active b x sp at value c.place r

  abbrev w : View
  w = renewed at number (get_or words at 0) v

  few : number ≤ 65536
  few =
      let page : lead.page ≤ length s.resident.pages = lead-is.page in
      let same = c.lead.3 in
      let most = b.sound.within in
      let all = b.sound.few.2 in omega arith

  point : Repointed laws l words views s id v active b x sp at value c.place s.story.places s.story.homes s.story.horizon e r []
  point = repointed laws l words views s id v active b x sp at value c.place r refl refl (λ ws is.
      let shows = there.shows in record {
        number = number;
        word =
            let a = shows.word in
            let k : lock_field q.holder ≡ 0 = ap lock_field free in
            let low = shows.page in
            let z = n-is in omega (arith, is);
        page = few;
        slot = shows.slot;
        named = subst (λ (z : Span). IsNamed s.resident.places z number lead.name) (sym there.span) named;
        keepers = shows.keepers;
      })

  other_shut : (z : Shut) → IsShut d s.resident p v.grip.holds z → x ≡ z.at → ⊥
  other_shut z was same =
      let no : Free ≡ Held p = sym free ∙ (ap (λ y. (pointer_of d y).holder) same ∙ was.shut) in absurd (cc)

  slotted : is_none q.slot ≡ false
  slotted = by_slot q.slot refl
    where
      by_slot : (o : Option ℕ) → q.slot ≡ o → is_none o ≡ false
      by_slot None none =
          let shows = there.shows in
          let a = shows.word in
          let k : lock_field q.holder ≡ 0 = ap lock_field free in
          let no : slot_field q.slot ≡ 0 = ap slot_field none in
          let low = shows.page in
          let z = n-is in
          let much = c.leads in absurd (omega arith)
      by_slot (Some t) some = refl

  may : may_do s p (TurnPages (Renew x lead.name)) ≡ true
  may =
      let opened : is_open d x ≡ true = and_from (is_live d x) (is_free q.holder) (there.live free) (ap is_free free) in
      let some = target.some in
      let most = target.most in
      let over : is_page_over d lead.name q.span ≡ true =
      and_from (ltb 0 lead.name) (leb lead.name d.published && same_span (page_span (snap_of d lead.name)) q.span)
      (grind (arith, nat_tests))
      (and_from (leb lead.name d.published) (same_span (page_span (snap_of d lead.name)) q.span) (grind (arith, nat_tests))
      (ap (λ (z : Span). same_span z q.span) target.span ∙ (ap (same_span sp) there.span ∙ span_self sp))) in
      and_from (page_allows p d (s.grips p) (Renew x lead.name))
      (commit_lets p s.story (s.seats p) d (Renew x lead.name) && may_move p s.story (s.seats p) [])
      (and_from (is_open d x) (not (is_none q.slot) && is_page_over d lead.name q.span) opened
      (and_from (not (is_none q.slot)) (is_page_over d lead.name q.span) (ap not slotted) over)) refl

  pub renew_stride : (f : ℕ → ℕ) → f (get_or words at 0) ≡ value → (tells : View → ℕ → View → Type 0)
      → tells v (get_or words at 0) w → Stride l words views s p v at f tells
  renew_stride f f-is tells tells-so =
      let fv = b.fits in
      let old = old_now laws l words views s id v active b x sp at value c.place s.story.places s.story.homes s.story.horizon e r [] point in
      pointer_stride laws l words views s id v active b x sp at value c.place s.story.places s.story.homes s.story.horizon e r [] point
      (Renew x lead.name) w f tells c.keeper f-is may
      (ap (λ (y : Seat). let j : Joined = record { story = s.story; seat = y; table = e; grip = s.grips p } in j) (sym b.own.seat)
      ∙ ap (λ (y : Grip). let j : Joined = record { story = s.story; seat = v.seat; table = e; grip = y } in j) (sym b.grip))
      record {
        role = refl;
        made = refl;
        marks = refl;
        stage = refl;
        mine = refl;
        draws = refl;
        due = refl;
        touched = refl;
        blamed = refl;
        locks = λ k has. has;
        fits = own_fits l s.story s.story s.seats v w active fv fv.part refl refl refl refl refl (λ place mark has. has) record {
          history = fv.history;
          decided = fv.decided;
          heard = fv.heard;
          mine = fv.mine;
          mine_own = fv.mine_own;
          records = fv.records;
          kept = fv.kept;
          versions = fv.versions;
          loaded = fv.loaded;
          tried = b.own.tried;
          took = b.own.took;
          locked = b.own.locked;
          low = fv.low;
          epoch = λ keeper. (fv.keepers keeper).epoch;
          past = λ keeper. (fv.keepers keeper).past;
        };
        now = record {
          within = b.pages.within;
          ways = old.ways;
          drafts = old.drafts;
          copies = old.copies;
          blanks = old.blanks;
          resident = b.pages.resident;
          leads = b.pages.leads;
          fills = old.fills;
          known = old.known;
          heads = λ z has. old.heads z has refl;
          moved = old.moved;
          sealed = λ u has. old.sealed u has refl;
          inners = old.inners;
          new_leaves = old.new_leaves;
          new_inners = old.new_inners;
          shuts = λ z has.
              let was = b.pages.shuts p (is_at v.role active) z has in
              shut_still laws l words views s id v active b x sp at value c.place s.story.places s.story.homes s.story.horizon e r [] point z was
              (other_shut z was) (in_none_gone z.at);
        };
      } tells-so

pub renews : Laws → (l : Layout) (slots id : ℕ) (me : Me (Unit {0}) View) (x : At) (sp : Span) (at number expected : ℕ)
    → CanRenew me.0 x sp at number expected
    → Allows (λ s. Shows l s.words s.views) slots id me at (λ k. either (eqb k expected) (renewed_word expected number) k)
    (λ k now. (now.1 ≡ me.1) × HasRenewed at number expected me.0 k now.0)
renews laws l slots id me x sp at number expected can =
    allows_at laws l slots id me at (λ k. either (eqb k expected) (renewed_word expected number) k) (HasRenewed at number expected)
    (keeper_active me.0.role can.keeper)
    (λ words views s b. by_found words views s b (eqb (get_or words at 0) expected) refl)
  where
    by_found : (words : List ℕ) (views : List View) (s : Shared) → Begins l words views s id me.0 → (c : Bool)
        → eqb (get_or words at 0) expected ≡ c
        → Stride l words views s (seat_number me.0.role) me.0 at (λ k. either (eqb k expected) (renewed_word expected number) k)
        (HasRenewed at number expected)
    by_found words views s b true found =
        let n : ℕ = get_or words at 0 in
        renew_stride laws l words views s id me.0 (keeper_active me.0.role can.keeper) b x sp at number expected can
        (eqb-true n expected found) (λ k. either (eqb k expected) (renewed_word expected number) k)
        (ap (λ c. either c (renewed_word expected number) n) found) (HasRenewed at number expected)
        (subst (λ c. MatchBool c (renewed at number n me.0 ≡ renewed at number n me.0) (renewed at number n me.0 ≡ read_at at n me.0)) (sym found) refl)
    by_found words views s b false found =
        let n : ℕ = get_or words at 0 in
        missed l words views s id me.0 (keeper_active me.0.role can.keeper) b x sp at can.place
        (λ k. either (eqb k expected) (renewed_word expected number) k) (HasRenewed at number expected)
        (ap (λ c. either c (renewed_word expected number) n) found)
        (subst (λ c. MatchBool c (read_at at n me.0 ≡ renewed at number n me.0) (read_at at n me.0 ≡ read_at at n me.0)) (sym found) refl)
