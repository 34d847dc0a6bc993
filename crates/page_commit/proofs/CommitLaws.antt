-- A commit as its calls follow each other: by the slices of the sets, and where a lock or a check failed.
use Rattle.std.proofs.Common.{◌≡◌, ◌⊎◌, inl, inr, ℕ, zero, suc, ◌+◌, ◌≤◌, true, false, true≢false, List, [], ◌∷◌}
use Rattle.std.proofs.Common.{◌++◌, length, take, sym, ap, ◌∙◌, subst, arith, refl, Some, None}
use Rattle.std.specs.Prelude.{Contains, ◌||◌}
use Rattle.std.specs.List.{AllByRecursion}
use Rattle.std.proofs.lemmas.Bool.{cases_Bool, or_left, or_right}
use Rattle.lists.specs.Each.{AreDistinct}
use Rattle.lists.specs.Elements.{in_none, in_head, in_tail, in_cases}
use Rattle.serial_model.specs.declared.key.Key.{Key}
use Rattle.serial_model.specs.declared.number.Change.{Change}
use Rattle.serial_model.specs.declared.number.Number.{Number}
use Rattle.homes.specs.Homes.{same_key}
use Rattle.homes.specs.Laws.{same_key-self}
use Rattle.wire_form.specs.Words.{number_word}
use Rattle.tx_sets.specs.declared.reads.ReadEntry.{ReadEntry}
use Rattle.tx_sets.specs.declared.seen.Seen.{Seen}
use Rattle.tx_sets.specs.declared.sets.Sets.{Sets}
use Rattle.tx_sets.specs.declared.writes.Write.{Write}
use Rattle.tx_sets.specs.Entries.{has_write, writes_at, IsAscending}
use Rattle.engine_pages.specs.declared.view.Read.{Read}
use Rattle.engine_pages.specs.declared.view.RefusalCause.{RefusalCause}
use Rattle.engine_pages.specs.declared.view.RefusalCause.TheVariants.{Conflict}
use Rattle.engine_pages.specs.declared.view.Role.{Role}
use Rattle.engine_pages.specs.declared.view.Role.TheVariants.{Worker}
use Rattle.engine_pages.specs.declared.view.View.{View}
use Rattle.page_records.specs.Attempts.{CanDraw, HasDrawn, HasChosen}
use Rattle.page_records.specs.Ends.{worker_of, IsTreeWordAt}
use Rattle.engine_pages.specs.Words.{IsSmall}
use Rattle.engine_pages.specs.Touches.{touch}
use Rattle.engine_pages.specs.declared.view.Touch.{Touch}
use Rattle.engine_pages.specs.Views.{seat_number, IsActive}
use Rattle.page_commit.specs.Committing.{changes_of, touches_of, HasCommitted, RefusesCommit, TookOnly, IsRecordOf}
use Rattle.page_commit.specs.Live.{AreMet, IsWriteOf, IsLive, HasHolds}
use Rattle.page_commit.specs.Refusing.{HasRefused, IsConflictAt, IsHeaderConflict, IsPointerConflict, IsTreeConflict}
use Rattle.page_commit.specs.Steps.{AreAsRead, AreSmall, KeepOthers, CanCommit, HasLocked, HasLockedAll, HasLocks}
use Rattle.page_commit.specs.Steps.{HasGivenUp, HasTried, HasChecked, HasFailed, HasDecided, HasPublished}
use Rattle.page_commit.specs.Steps.{CheckConflict, HasLeft, HasMet, IsRecordConflict, IsUnkept, StaysAside, TellsOf}
use Rattle.page_commit.proofs.Lists.{take_all}
use Rattle.page_commit.proofs.LockLaws.{conflict_since, conflict_then, tree_then}
use Rattle.page_commit.proofs.DecisionLaws.{committed, is_chosen}
use Rattle.page_commit.proofs.DrawLaws.{active_locked, active_worker, are_small, are_unkept, can_draw, is_free, is_tried}
use Rattle.page_commit.proofs.GiveUpLaws.{failed_locks, failed_refused, has_locks}
use Rattle.std.proofs.lemmas.List.{append-nil}
use Rattle.homes.specs.declared.places.Span.{Span}
use Rattle.page_commit.specs.Places.{ground, slot_of, tree_spot, IsAnyKeyAt, IsKeyAt, IsPointerIn}
use Rattle.page_commit.proofs.AnyPlaces.{leaf_of, tree_kind}
use Rattle.page_commit.proofs.PlaceLaws.{key_array}
use Rattle.wire_form.specs.Leaves.{tree_leaf, word_in}
use Rattle.engine_pages.specs.declared.layout.Layout.{Layout}
use Rattle.engine_pages.specs.Pages.{is_array}
use Rattle.page_commit.proofs.LeaveLaws.{holds_stay, same_then, SamePages}
use Rattle.page_commit.proofs.PageLaws.{checked_pages, chosen_pages, drawn_pages, failed_pages, locked_pages}
use Rattle.page_commit.proofs.PageLaws.{published_pages}
use Rattle.page_commit.proofs.StayLaws.{writes_stay}

-- ---- by slices of the sets

pub sets_places : (sets : Sets) (ws : List Write) (v : View) → IsLive sets v → ws ≡ sets.writes
    → AllByRecursion (IsWriteOf (ground v)) ws
sets_places sets ws v live is = subst (AllByRecursion (IsWriteOf (ground v))) (sym is) live.writes

pub sets_ascending : (sets : Sets) (ws : List Write) → ws ≡ sets.writes → IsAscending sets.writes → IsAscending ws
sets_ascending sets ws is rises = subst IsAscending (sym is) rises

pub sets_few : (sets : Sets) (ws : List Write) → ws ≡ sets.writes → length sets.writes ≤ 16 → length ws ≤ 16
sets_few sets ws is few = subst (λ (l : List Write). length l ≤ 16) (sym is) few

pub can_commit : (sets : Sets) (ws : List Write) (found : List ℕ) (v w : View) → IsLive sets v
    → ws ≡ sets.writes → HasLockedAll sets.reads ws found v w → CanCommit sets found v w
can_commit sets ws found v w live is h = record {
  live = live;
  locked = subst (λ (l : List Write). HasLocked l found v w) is h.locked;
  read = subst (λ (l : List Write). AreAsRead sets.reads l found) is h.known;
  aside = subst (λ (l : List Write). StaysAside l v w) is h.aside;
}

pub each_slice : (sets : Sets) (holds : List ℕ) → holds ≡ sets.holds → AreDistinct sets.holds → AreDistinct holds
each_slice sets holds is each = subst AreDistinct (sym is) each

pub apart_slice : (sets : Sets) (ws : List Write) → ws ≡ sets.writes
    → AreDistinct (Rattle.tx_sets.specs.Entries.record_places_of sets.writes)
    → AreDistinct (Rattle.tx_sets.specs.Entries.record_places_of ws)
apart_slice sets ws is apart =
    subst (λ (l : List Write). AreDistinct (Rattle.tx_sets.specs.Entries.record_places_of l)) (sym is) apart

pub small_slice : (sets : Sets) (reads : List ReadEntry) (v : View) → IsLive sets v → reads ≡ sets.reads
    → AreSmall reads (ground v)
small_slice sets reads v live is =
    subst (λ (l : List ReadEntry). AreSmall l (ground v)) (sym is) (are_small sets v live)

pub unkept_slice : (sets : Sets) (ws : List Write) (v : View) → IsLive sets v → ws ≡ sets.writes
    → AllByRecursion (IsUnkept v) ws
unkept_slice sets ws v live is = subst (AllByRecursion (IsUnkept v)) (sym is) (are_unkept sets v live)

pub met_slice : (sets : Sets) (reads : List ReadEntry) (v : View) → IsLive sets v → reads ≡ sets.reads → AreMet reads [] v
met_slice sets reads v live is = subst (λ (l : List ReadEntry). AreMet l [] v) (sym is) live.met

pub locked_slice : (sets : Sets) (reads : List ReadEntry) (ws : List Write) (found : List ℕ) (v w : View)
    → reads ≡ sets.reads → HasLockedAll reads ws found v w → HasLockedAll sets.reads ws found v w
locked_slice sets reads ws found v w is h = subst (λ (l : List ReadEntry). HasLockedAll l ws found v w) is h

pub conflict_slice : (sets : Sets) (reads : List ReadEntry) (ws : List Write) (at expected seen : ℕ) (v w : View)
    → reads ≡ sets.reads
    → (one : Write) × Contains ws one × (one.at ≡ at) × IsRecordConflict reads one.key at expected seen v w
    → (one : Write) × Contains ws one × (one.at ≡ at) × IsRecordConflict sets.reads one.key at expected seen v w
conflict_slice sets reads ws at expected seen v w is c =
    (c.0, c.1, c.2, subst (λ (l : List ReadEntry). IsRecordConflict l (c.0).key at expected seen v w) is c.3)

-- ---- whose locks were taken

in_either : (xs ys : List Touch) (t : Touch) → Contains (xs ++ ys) t → Contains xs t ⊎ Contains ys t
in_either [] ys t has = inr has
in_either (x ∷ xs) ys t has = elim (in_cases t x (xs ++ ys) has) [
  | inl same ↦ inl (subst (λ (u : Touch). Contains (x ∷ xs) u) same (in_head x xs))
  | inr later ↦ elim (in_either xs ys t later) [ inl old ↦ inl (in_tail t x xs old) | inr new ↦ inr new ]
]

touch_in : (q : ℕ) (ws : List Write) (t : Touch) → Contains (touches_of q (changes_of ws)) t
    → (t.seat ≡ q) × (has_write t.key ws ≡ true)
touch_in q [] t has = absurd (in_none t has)
touch_in q (w ∷ ws) t has = elim (in_cases t (touch q w.key) (touches_of q (changes_of ws)) has) [
  | inl same ↦ (
    sym (ap (λ (u : Touch). u.seat) same),
    or_left (same_key w.key t.key) (has_write t.key ws)
        (subst (λ (u : Touch). same_key w.key u.key ≡ true) same (same_key-self w.key)),
  )
  | inr later ↦
      let rest = touch_in q ws t later in
      (rest.0, or_right (same_key w.key t.key) (has_write t.key ws) rest.1)
]

-- those of the first writes are those of all
write_in_take : (n : ℕ) (ws : List Write) (k : Key) → has_write k (take n ws) ≡ true → has_write k ws ≡ true
write_in_take zero ws k has = absurd (true≢false (sym has))
write_in_take (suc n) [] k has = absurd (true≢false (sym has))
write_in_take (suc n) (w ∷ ws) k has = elim (cases_Bool (same_key w.key k)) [
  | inl hit ↦ or_left (same_key w.key k) (has_write k ws) hit
  | inr miss ↦ or_right (same_key w.key k) (has_write k ws)
      (write_in_take n ws k (sym (ap (λ b. b || has_write k (take n ws)) miss) ∙ has))
]

took_only : (ws locked : List Write) (v x : View) → ((k : Key) → has_write k locked ≡ true → has_write k ws ≡ true)
    → x.touched ≡ v.touched ++ touches_of (seat_number v.role) (changes_of locked) → TookOnly ws v x
took_only ws locked v x within is t has =
    elim (in_either v.touched (touches_of (seat_number v.role) (changes_of locked)) t
    (subst (λ (l : List Touch). Contains l t) is has)) [
      | inl old ↦ inl old
      | inr new ↦ let r = touch_in (seat_number v.role) locked t new in inr (r.0, within t.key r.1)
    ]

-- ---- where a lock failed

pub stopped_worker : (sets : Sets) (ws : List Write) (found : List ℕ) (v w : View) → IsLive sets v
    → HasLocked ws found v w
    → w.role ≡ Worker (worker_of w.role)
stopped_worker sets ws found v w live h =
    subst (λ (r : Role). r ≡ Worker (worker_of r)) (sym (ap (λ (y : View). y.role) h.is)) live.worker

pub stopped_places : (sets : Sets) (ws all : List Write) (found : List ℕ) (v w : View) → IsLive sets v
    → HasLocked ws found v w
    → all ≡ sets.writes → AllByRecursion (IsWriteOf (ground w)) all
stopped_places sets ws all found v w live h is =
    writes_stay all v w (ap (λ (y : View). y.layout) h.is) (ap (λ (y : View). y.ways) h.is)
    (ap (λ (y : View). y.known) h.is) (ap (λ (y : View). y.inners) h.is) (sets_places sets all v live is)

pub stopped_locks : (sets : Sets) (ws : List Write) (found : List ℕ) (v w : View) → IsLive sets v
    → HasLocked ws found v w
    → HasLocks ws found w
stopped_locks sets ws found v w live h = has_locks ws found v w (is_free sets v live) h

all_in : (P : Write → Type 0) (xs : List Write) (x : Write) → AllByRecursion P xs → Contains xs x → P x
all_in P [] x all has = absurd (in_none x has)
all_in P (y ∷ xs) x all has = elim (in_cases x y xs has) [
  | inl same ↦ subst P same all.0
  | inr later ↦ all_in P xs x all.1 later
]

pub stopped_place : (sets : Sets) (ws all : List Write) (found : List ℕ) (one : Write) (at : ℕ) (v w : View)
    → IsLive sets v → HasLocked ws found v w → all ≡ sets.writes → Contains all one → one.at ≡ at
    → IsAnyKeyAt w one.key at
stopped_place sets ws all found one at v w live h is has same =
    subst (IsAnyKeyAt w one.key) same
    (all_in (IsWriteOf (ground w)) all one (stopped_places sets ws all found v w live h is) has).place

-- the key that is told of a conflict at a record
pub told_key : (ws : List Write) (why : RefusalCause) (k : Key) (at expected seen : ℕ) (v w x : View) → w.role ≡ v.role
    → w.blamed ≡ v.blamed → why ≡ Conflict at expected seen → IsKeyAt w k at → HasGivenUp ws why w x
    → x.blamed ≡ v.blamed ++ touch (seat_number v.role) k ∷ []
told_key ws why k at expected seen v w x role blamed same place g =
    let tells : TellsOf (Conflict at expected seen) g.met w = subst (λ (r : RefusalCause). TellsOf r g.met w) same g.of in
    ap (λ (y : View). y.blamed) g.left.is
    ∙ (ap (λ (y : View). y.blamed) g.forgot
    ∙ (ap (λ l. l ++ g.met) blamed
    ∙ (ap (λ l. v.blamed ++ l) (tells.0 k place)
    ∙ ap (λ (r : Role). v.blamed ++ touch (seat_number r) k ∷ []) role)))

-- and none of one at a pointer
pub told_none : (ws : List Write) (why : RefusalCause) (sp : Span) (at expected seen : ℕ) (v w x : View)
    → w.blamed ≡ v.blamed → why ≡ Conflict at expected seen → IsPointerIn (ground w) sp at → HasGivenUp ws why w x
    → x.blamed ≡ v.blamed
told_none ws why sp at expected seen v w x blamed same place g =
    let tells : TellsOf (Conflict at expected seen) g.met w = subst (λ (r : RefusalCause). TellsOf r g.met w) same g.of in
    ap (λ (y : View). y.blamed) g.left.is
    ∙ (ap (λ (y : View). y.blamed) g.forgot
    ∙ (ap (λ l. l ++ g.met) blamed ∙ (ap (λ l. v.blamed ++ l) (tells.1 sp place) ∙ append-nil v.blamed)))

-- nor of one at a word of a tree
pub told_tree : (ws : List Write) (why : RefusalCause) (t i at expected seen : ℕ) (v w x : View)
    → w.blamed ≡ v.blamed → why ≡ Conflict at expected seen → IsTreeWordAt w t i at → HasGivenUp ws why w x
    → x.blamed ≡ v.blamed
told_tree ws why t i at expected seen v w x blamed same place g =
    let tells : TellsOf (Conflict at expected seen) g.met w = subst (λ (r : RefusalCause). TellsOf r g.met w) same g.of in
    ap (λ (y : View). y.blamed) g.left.is
    ∙ (ap (λ (y : View). y.blamed) g.forgot
    ∙ (ap (λ l. l ++ g.met) blamed ∙ (ap (λ l. v.blamed ++ l) (tells.3 t i place) ∙ append-nil v.blamed)))

-- what was met of other words is still so
pub kept_others : (ws : List Write) (why : RefusalCause) (w x : View) → HasGivenUp ws why w x → KeepOthers ws w.reads x.reads
kept_others ws why w x g = λ r has free.
    subst (λ (l : List Read). Contains l r)
    (sym (ap (λ (y : View). y.reads) g.left.is ∙ ap (λ (y : View). y.reads) g.forgot)) (g.others r has free)

pub last_same : (ws : List Write) (why : RefusalCause) (w x : View) → HasGivenUp ws why w x → x.last ≡ w.last
last_same ws why w x g = ap (λ (y : View). y.last) g.left.is ∙ ap (λ (y : View). y.last) g.forgot

pub touched_same : (ws : List Write) (why : RefusalCause) (w x : View) → HasGivenUp ws why w x → x.touched ≡ w.touched
touched_same ws why w x g = ap (λ (y : View). y.touched) g.left.is ∙ ap (λ (y : View). y.touched) g.forgot

pub stopped_cause : (sets : Sets) (n : ℕ) (all : List Write) (found : List ℕ) (at expected seen : ℕ)
    (why : RefusalCause) (v w x : View) → IsLive sets v
    → all ≡ sets.writes → HasLocked (take n all) found v w → writes_at at (take n all) ≡ false
    → HasGivenUp (take n all) why w x
    → (one : Write) × Contains all one × (one.at ≡ at) × IsRecordConflict sets.reads one.key at expected seen v w
    → why ≡ Conflict at expected seen → RefusesCommit sets sets.writes why v x
stopped_cause sets n all found at expected seen why v w x live is h apart g c same =
    subst (λ (r : RefusalCause). RefusesCommit sets sets.writes r v x) (sym same) (
      by_side (stopped_place sets ws all found c.0 at v w live h is c.1 c.2) c.3,
      took_only sets.writes ws v x
          (λ k has. subst (λ (l : List Write). has_write k l ≡ true) is (write_in_take n all k has))
          (touched_same ws why w x g ∙ ap (λ (y : View). y.touched) h.is),
    )
  where
    ws : List Write
    ws = take n all

    inside : Contains sets.writes c.0
    inside = subst (λ (l : List Write). Contains l c.0) is c.1

    layout : w.layout ≡ v.layout
    layout = ap (λ (y : View). y.layout) h.is

    blamed : w.blamed ≡ v.blamed
    blamed = ap (λ (y : View). y.blamed) h.is

    by_side : IsAnyKeyAt w c.0.key at → IsRecordConflict sets.reads c.0.key at expected seen v w
        → ((k : Key) × IsRecordOf sets.reads sets.writes k at × IsConflictAt sets.reads k at expected seen v x
        × (is_array v.layout.decls k.storage ≡ true))
        ⊎ (((Rattle.tx_sets.specs.Entries.has_word at sets.pointers ≡ true)
        × IsPointerConflict sets.pointers at expected seen v x × (x.blamed ≡ v.blamed))
        ⊎ (((Rattle.tx_sets.specs.Entries.has_word at sets.headers ≡ true)
        × IsHeaderConflict sets.headers at expected seen v x × (x.blamed ≡ v.blamed))
        ⊎ ((k : Key) × IsRecordOf sets.reads sets.writes k at × IsTreeConflict sets.reads at expected seen v x
        × (x.blamed ≡ v.blamed) × (is_array v.layout.decls k.storage ≡ false))))
    by_side (inl p) (inl r) = inl (
      c.0.key,
      inr (c.0, inside, refl, c.2),
      record {
        conflict = conflict_then sets.reads ws at expected seen v w x (last_same ws why w x g)
            (kept_others ws why w x g) apart r.1;
        blamed = told_key ws why c.0.key at expected seen v w x (ap (λ (y : View). y.role) h.is) blamed same p g;
      },
      subst (λ (l : Layout). is_array l.decls c.0.key.storage ≡ true) layout (key_array (ground w) c.0.key at p),
    )
    by_side (inr p) (inr r) = inr (inr (inr (
      c.0.key,
      inr (c.0, inside, refl, c.2),
      tree_then sets.reads ws at expected seen v v w x (omega arith) (last_same ws why w x g)
          (kept_others ws why w x g) apart r.1,
      told_tree ws why (slot_of w.layout.slots at) (word_in tree_leaf (tree_spot w.layout.slots at).index) at expected seen
          v w x blamed same (leaf_of w c.0.key at p).word g,
      r.0,
    )))
    by_side (inl p) (inr r) =
        absurd (true≢false (sym (subst (λ (l : Layout). is_array l.decls c.0.key.storage ≡ true) layout
        (key_array (ground w) c.0.key at p)) ∙ r.0))
    by_side (inr p) (inl r) =
        absurd (true≢false (sym r.0 ∙ subst (λ (l : Layout). is_array l.decls c.0.key.storage ≡ false) layout
        (tree_kind (ground w) c.0.key at p)))

-- ---- where a check failed, or a lock: what was met

pub stopped_met : (sets : Sets) (ws all : List Write) (found : List ℕ) (at expected seen : ℕ) (v w : View)
    → IsLive sets v → all ≡ sets.writes → HasLocked ws found v w
    → (one : Write) × Contains all one × (one.at ≡ at) × IsRecordConflict sets.reads one.key at expected seen v w
    → HasMet at expected seen w
stopped_met sets ws all found at expected seen v w live is h c =
    by_side (stopped_place sets ws all found c.0 at v w live h is c.1 c.2) c.3
  where
    layout : w.layout ≡ v.layout
    layout = ap (λ (y : View). y.layout) h.is

    by_side : IsAnyKeyAt w c.0.key at → IsRecordConflict sets.reads c.0.key at expected seen v w → HasMet at expected seen w
    by_side (inl p) (inl r) =
        let f = r.1 in
        inl (
          c.0.key,
          record {
            place = p;
            step = f.step;
            last = f.last;
            was = f.was;
            kept = f.kept;
            stands = f.stands;
            known = f.known;
            cause = f.cause;
          },
        )
    by_side (inr p) (inr r) =
        let f = r.1 in
        inr (inr (
          slot_of w.layout.slots at,
          word_in tree_leaf (tree_spot w.layout.slots at).index,
          record {
            place = leaf_of w c.0.key at p;
            unheld = ap (λ (y : View). y.heads) h.is ∙ live.holds.heads;
            step = f.step;
            last = f.last;
            was = Some expected;
            kept = None;
            stands = f.stands;
            known = inr (refl, refl);
            cause = f.cause;
          },
        ))
    by_side (inl p) (inr r) =
        absurd (true≢false (sym (subst (λ (l : Layout). is_array l.decls c.0.key.storage ≡ true) layout
        (key_array (ground w) c.0.key at p)) ∙ r.0))
    by_side (inr p) (inl r) =
        absurd (true≢false (sym r.0 ∙ subst (λ (l : Layout). is_array l.decls c.0.key.storage ≡ false) layout
        (tree_kind (ground w) c.0.key at p)))

pub checked_met : (sets : Sets) (at expected seen : ℕ) (x y : View) → CheckConflict sets at expected seen x y
    → HasMet at expected seen y
checked_met sets at expected seen x y (inl c) = inl (c.0.key, c.4)
checked_met sets at expected seen x y (inr (inl c)) = inr (inl c.2)
checked_met sets at expected seen x y (inr (inr (inl c))) = inr (inr (slot_of x.layout.slots at, 0, c.2))
checked_met sets at expected seen x y (inr (inr (inr c))) = inr (inr (c.4, c.5, c.6))

-- ---- the commit of what is locked

pub sets_draw : (sets : Sets) (found : List ℕ) (ws : List Write) (changes : List Change) (v w : View)
    → CanCommit sets found v w → changes ≡ changes_of ws → ws ≡ sets.writes → CanDraw changes w
sets_draw sets found ws changes v w can is same = can_draw sets found changes v w can.live can.locked (is
    ∙ ap changes_of same)

pub sets_active : (sets : Sets) (found : List ℕ) (v w : View) → CanCommit sets found v w → IsActive w.role
sets_active sets found v w can =
    active_locked sets.writes found v w (active_worker v.role can.live.worker) can.locked

pub drawn_active : (changes : List Change) (n : ℕ) (w x : View) → IsActive w.role → HasDrawn changes w n x
    → IsActive x.role
drawn_active changes n w x active d = subst IsActive (sym (ap (λ (y : View). y.role) d.is)) active

pub sets_tried : (sets : Sets) (found : List ℕ) (changes : List Change) (n : ℕ) (v w x : View)
    → CanCommit sets found v w → HasDrawn changes w n x → HasTried sets x
sets_tried sets found changes n v w x can d =
    is_tried sets found changes n v w x can.live can.locked can.read can.aside d

pub checked_active : (x y : View) → IsActive x.role → HasChecked x y → IsActive y.role
checked_active x y active k = subst IsActive (sym (ap (λ (u : View). u.role) k.is)) active

pub failed_worker : (sets : Sets) (found : List ℕ) (changes : List Change) (n : ℕ) (v w x y : View)
    → CanCommit sets found v w → HasDrawn changes w n x → HasFailed x y → y.role ≡ Worker (worker_of y.role)
failed_worker sets found changes n v w x y can d f =
    subst (λ (r : Role). r ≡ Worker (worker_of r))
    (sym (ap (λ (u : View). u.role) f.is ∙ (ap (λ (u : View). u.role) d.is ∙ ap (λ (u : View). u.role) can.locked.is)))
    can.live.worker

pub chosen_active : (m : ℕ) (y z : View) → IsActive y.role → HasChosen y m z → IsActive z.role
chosen_active m y z active c = subst IsActive (sym (ap (λ (u : View). u.role) c.is)) active

-- the places of the writes, in each of the views
pub places_then : (ws : List Write) (x y : View) → SamePages x y → AllByRecursion (IsWriteOf (ground x)) ws
    → AllByRecursion (IsWriteOf (ground y)) ws
places_then ws x y same all = writes_stay ws x y same.layout same.ways same.known same.branches all

pub drawn_same : (sets : Sets) (found : List ℕ) (changes : List Change) (n : ℕ) (v w x : View)
    → CanCommit sets found v w → HasDrawn changes w n x → SamePages v x
drawn_same sets found changes n v w x can d =
    same_then v w x (locked_pages sets.writes found v w can.locked) (drawn_pages changes n w x d)

pub chosen_same : (sets : Sets) (found : List ℕ) (changes : List Change) (n m : ℕ) (v w x y z : View)
    → CanCommit sets found v w → HasDrawn changes w n x → HasChecked x y → HasChosen y m z → SamePages v z
chosen_same sets found changes n m v w x y z can d k c =
    same_then v x z (drawn_same sets found changes n v w x can d) (same_then x y z (checked_pages x y k) (chosen_pages m y z c))

pub chosen_places : (sets : Sets) (found : List ℕ) (ws : List Write) (changes : List Change) (n m : ℕ)
    (v w x y z : View)
    → CanCommit sets found v w → HasDrawn changes w n x → ws ≡ sets.writes → HasChecked x y → HasChosen y m z
    → AllByRecursion (IsWriteOf (ground z)) ws
chosen_places sets found ws changes n m v w x y z can d is k c =
    places_then ws v z (chosen_same sets found changes n m v w x y z can d k c) (sets_places sets ws v can.live is)

-- the slots that are held, in each of the views
pub published_holds : (sets : Sets) (found : List ℕ) (holds : List ℕ) (changes : List Change) (n m : ℕ)
    (v w x y z u : View) → CanCommit sets found v w → HasDrawn changes w n x → holds ≡ sets.holds → HasChecked x y
    → HasChosen y m z → HasPublished z u → HasHolds holds u
published_holds sets found holds changes n m v w x y z u can d is k c p =
    subst (λ l. HasHolds l u) (sym is)
    (holds_stay sets.holds v u (same_then v z u (chosen_same sets found changes n m v w x y z can d k c)
    (published_pages z u p)) can.live.holds)

pub published_active : (z u : View) → IsActive z.role → HasPublished z u → IsActive u.role
published_active z u active p = subst IsActive (sym (ap (λ (y : View). y.role) p.is)) active

pub published_kept : (z u : View) → HasPublished z u → u.seat.kept ≡ []
published_kept z u p = ap (λ (y : View). y.seat.kept) p.is ∙ p.kept

pub failed_holds : (sets : Sets) (found : List ℕ) (holds : List ℕ) (changes : List Change) (n : ℕ) (v w x y : View)
    → CanCommit sets found v w → HasDrawn changes w n x → holds ≡ sets.holds → HasFailed x y → HasHolds holds y
failed_holds sets found holds changes n v w x y can d is f =
    subst (λ l. HasHolds l y) (sym is)
    (holds_stay sets.holds v y (same_then v x y (drawn_same sets found changes n v w x can d) (failed_pages x y f))
    can.live.holds)

pub locked_holds : (sets : Sets) (ws : List Write) (found : List ℕ) (holds : List ℕ) (v w : View) → IsLive sets v
    → HasLocked ws found v w → holds ≡ sets.holds → HasHolds holds w
locked_holds sets ws found holds v w live h is =
    subst (λ l. HasHolds l w) (sym is) (holds_stay sets.holds v w (locked_pages ws found v w h) live.holds)

pub locked_gone : (sets : Sets) (ws : List Write) (found : List ℕ) (v w : View) → IsLive sets v → HasLocked ws found v w
    → w.gone ≡ []
locked_gone sets ws found v w live h = ap (λ (y : View). y.gone) h.is ∙ live.gone

pub failed_gone : (sets : Sets) (found : List ℕ) (changes : List Change) (n : ℕ) (v w x y : View)
    → CanCommit sets found v w → HasDrawn changes w n x → HasFailed x y → y.gone ≡ []
failed_gone sets found changes n v w x y can d f =
    ap (λ (z : View). z.gone) f.is
    ∙ (ap (λ (z : View). z.gone) d.is ∙ (ap (λ (z : View). z.gone) can.locked.is ∙ can.live.gone))

pub chosen_decided : (sets : Sets) (found : List ℕ) (ws : List Write) (changes : List Change) (n m : ℕ)
    (v w x y z : View)
    → CanCommit sets found v w → HasDrawn changes w n x → changes ≡ changes_of ws → ws ≡ sets.writes → HasChecked x y
    → HasChosen y m z → HasDecided ws found n z
chosen_decided sets found ws changes n m v w x y z can d is same k c =
    subst (λ (l : List Write). HasDecided l found n z) (sym same)
    (is_chosen sets found changes n m v w x y z can.live can.locked d (is ∙ ap changes_of same) k c).decided

pub all_committed : (sets : Sets) (found : List ℕ) (ws : List Write) (changes : List Change) (n m : ℕ) (number : Number)
    (v w x y z u t : View) → CanCommit sets found v w → HasDrawn changes w n x → changes ≡ changes_of ws → ws
    ≡ sets.writes
    → HasChecked x y → HasChosen y m z → HasPublished z u → HasLeft u t
    → ((k : Number) → IsSmall k → number_word k ≡ n → number ≡ k) → HasCommitted changes number v t
all_committed sets found ws changes n m number v w x y z u t can d is same k c p l of =
    committed sets found changes n number v w x z u t can.live can.locked d (of d.number d.small d.found)
    (is_chosen sets found changes n m v w x y z can.live can.locked d (is ∙ ap changes_of same) k c) p l

-- ---- where a check failed

take_found : (ws : List Write) (found : List ℕ) → length found ≡ length ws → take (length found) ws ≡ ws
take_found ws found same = take_all ws (length found) (omega (arith, same))

pub found_locks : (sets : Sets) (found : List ℕ) (ws : List Write) (v w : View) → CanCommit sets found v w → ws
    ≡ sets.writes
    → length found ≡ length ws
found_locks sets found ws v w can is = can.locked.count ∙ ap (λ (l : List Write). length l) (sym is)

pub found_apart : (sets : Sets) (found : List ℕ) (ws : List Write) (at : ℕ) (v w : View) → CanCommit sets found v w
    → ws ≡ sets.writes → writes_at at sets.writes ≡ false → writes_at at (take (length found) ws) ≡ false
found_apart sets found ws at v w can is apart =
    subst (λ (l : List Write). writes_at at l ≡ false)
    (sym (take_found ws found (found_locks sets found ws v w can is) ∙ is)) apart

pub found_within : (sets : Sets) (found : List ℕ) (ws : List Write) (v w : View) → CanCommit sets found v w → ws
    ≡ sets.writes
    → length found ≤ length ws
found_within sets found ws v w can is = let same = found_locks sets found ws v w can is in omega (arith, same)

pub check_locks : (sets : Sets) (found : List ℕ) (ws : List Write) (changes : List Change) (n : ℕ) (v w x y : View)
    → CanCommit sets found v w → HasDrawn changes w n x → ws ≡ sets.writes → HasFailed x y
    → HasLocks (take (length found) ws) found y
check_locks sets found ws changes n v w x y can d is f =
    subst (λ (l : List Write). HasLocks l found y) (sym (take_found ws found (found_locks sets found ws v w can is)
    ∙ is))
    (failed_locks sets.writes found changes n v w x y can.locked d f)

pub check_places : (sets : Sets) (found : List ℕ) (ws : List Write) (changes : List Change) (n : ℕ) (v w x y : View)
    → CanCommit sets found v w → HasDrawn changes w n x → ws ≡ sets.writes → HasFailed x y
    → AllByRecursion (IsWriteOf (ground y)) ws
check_places sets found ws changes n v w x y can d is f =
    places_then ws v y (same_then v x y (drawn_same sets found changes n v w x can d) (failed_pages x y f))
    (sets_places sets ws v can.live is)

pub check_refused : (sets : Sets) (found : List ℕ) (ws : List Write) (changes : List Change) (n at expected seen : ℕ)
    (why : RefusalCause)
    (v w x y z : View) → CanCommit sets found v w → HasDrawn changes w n x → HasFailed x y → why ≡ Conflict at expected seen
    → CheckConflict sets at expected seen x y → HasGivenUp ws why y z → HasRefused why v z
check_refused sets found ws changes n at expected seen why v w x y z can d f same c g =
    failed_refused why sets sets.writes ws found changes n at expected seen v w x y z can.live can.locked d f same
    (checked_met sets at expected seen x y c) g

pub check_cause : (sets : Sets) (found : List ℕ) (ws : List Write) (changes : List Change) (n : ℕ)
    (at expected seen : ℕ) (why : RefusalCause) (v w x y z : View) → CanCommit sets found v w → HasDrawn changes w n x
    → HasFailed x y → ws ≡ sets.writes → writes_at at sets.writes ≡ false
    → HasGivenUp (take (length found) ws) why y z
    → CheckConflict sets at expected seen x y → why ≡ Conflict at expected seen
    → RefusesCommit sets sets.writes why v z
check_cause sets found ws changes n at expected seen why v w x y z can d f is apart g c same =
    subst (λ (r : RefusalCause). RefusesCommit sets sets.writes r v z) (sym same) (
      by_conflict c,
      took_only sets.writes sets.writes v z (λ k has. has)
          (touched_same sets.writes why y z g' ∙ (ap (λ (u : View). u.touched) f.is
          ∙ (ap (λ (u : View). u.touched) d.is ∙ ap (λ (u : View). u.touched) can.locked.is))),
    )
  where
    g' : HasGivenUp sets.writes why y z
    g' = subst (λ (l : List Write). HasGivenUp l why y z)
        (take_found ws found (found_locks sets found ws v w can is) ∙ is) g

    since : v.steps ≤ x.steps
    since =
        let steps : x.steps ≡ w.steps + 1 = ap (λ (u : View). u.steps) d.is in
        let steps' : w.steps ≡ can.locked.steps = ap (λ (u : View). u.steps) can.locked.is in
        let low = can.locked.since in omega (arith, steps, steps', low)

    role : y.role ≡ v.role
    role = ap (λ (u : View). u.role) f.is ∙ (ap (λ (u : View). u.role) d.is ∙ ap (λ (u : View). u.role) can.locked.is)

    blamed : y.blamed ≡ v.blamed
    blamed = ap (λ (u : View). u.blamed) f.is
        ∙ (ap (λ (u : View). u.blamed) d.is ∙ ap (λ (u : View). u.blamed) can.locked.is)

    layout : y.layout ≡ v.layout
    layout = ap (λ (u : View). u.layout) f.is
        ∙ (ap (λ (u : View). u.layout) d.is ∙ ap (λ (u : View). u.layout) can.locked.is)

    on_word : (l : List Seen) → IsPointerConflict l at expected seen x y → IsPointerConflict l at expected seen v z
    on_word l m = record {
      step = m.step;
      last = last_same sets.writes why y z g' ∙ m.last;
      since = let low = m.since in let low' = since in omega (arith, low, low');
      was = m.was;
      kept = m.kept;
      stands = kept_others sets.writes why y z g'
          (record { word = at; seen = seen; was = m.was; kept = m.kept }) m.stands apart;
      known = m.known;
      cause = m.cause;
    }

    on_header : (l : List Seen) → IsHeaderConflict l at expected seen x y → IsHeaderConflict l at expected seen v z
    on_header l m = record {
      step = m.step;
      last = last_same sets.writes why y z g' ∙ m.last;
      since = let low = m.since in let low' = since in omega (arith, low, low');
      was = m.was;
      kept = m.kept;
      stands = kept_others sets.writes why y z g'
          (record { word = at; seen = seen; was = m.was; kept = m.kept }) m.stands apart;
      known = m.known;
      cause = m.cause;
    }

    by_conflict : CheckConflict sets at expected seen x y
        → ((k : Key) × IsRecordOf sets.reads sets.writes k at × IsConflictAt sets.reads k at expected seen v z
        × (is_array v.layout.decls k.storage ≡ true))
        ⊎ (((Rattle.tx_sets.specs.Entries.has_word at sets.pointers ≡ true)
        × IsPointerConflict sets.pointers at expected seen v z × (z.blamed ≡ v.blamed))
        ⊎ (((Rattle.tx_sets.specs.Entries.has_word at sets.headers ≡ true)
        × IsHeaderConflict sets.headers at expected seen v z × (z.blamed ≡ v.blamed))
        ⊎ ((k : Key) × IsRecordOf sets.reads sets.writes k at × IsTreeConflict sets.reads at expected seen v z
        × (z.blamed ≡ v.blamed) × (is_array v.layout.decls k.storage ≡ false))))
    by_conflict (inl m) = inl (
      m.0.key,
      inl (m.0, m.1, refl, m.2),
      record {
        conflict = conflict_then sets.reads sets.writes at expected seen v y z (last_same sets.writes why y z g')
            (kept_others sets.writes why y z g') apart (conflict_since sets.reads at expected seen v x y since m.3);
        blamed = told_key sets.writes why m.0.key at expected seen v y z role blamed same m.4.place g';
      },
      subst (λ (l : Layout). is_array l.decls m.0.key.storage ≡ true) layout (key_array (ground y) m.0.key at m.4.place),
    )
    by_conflict (inr (inl m)) = inr (inl (
      m.0,
      on_word sets.pointers m.1,
      told_none sets.writes why m.2.span at expected seen v y z blamed same m.2.place g',
    ))
    by_conflict (inr (inr (inl m))) = inr (inr (inl (
      m.0,
      on_header sets.headers m.1,
      told_tree sets.writes why (slot_of x.layout.slots at) 0 at expected seen v y z blamed same m.2.place.word g',
    )))
    by_conflict (inr (inr (inr m))) = inr (inr (inr (
      m.0.key,
      inl (m.0, m.1, refl, m.2),
      tree_then sets.reads sets.writes at expected seen v x y z since (last_same sets.writes why y z g')
          (kept_others sets.writes why y z g') apart m.3,
      told_tree sets.writes why m.4 m.5 at expected seen v y z blamed same m.6.place.word g',
      subst (λ (l : Layout). is_array l.decls m.0.key.storage ≡ false)
          (ap (λ (u : View). u.layout) d.is ∙ ap (λ (u : View). u.layout) can.locked.is) m.7,
    )))
