-- The results of a commit that are handed on, with the writes dropped or kept.
use Rattle.std.proofs.Common.{◌≡◌, inl, inr, ℕ, suc, ◌+◌, ◌*◌, ◌≤◌, Bool, true, false, List, [], ◌∷◌, map, length}
use Rattle.std.proofs.Common.{refl, sym, ap, ◌∙◌, subst, arith}
use Rattle.std.specs.Prelude.{Result, Ok, Err, IfOk, IfErr, OnOk, OnErr, Contains}
use Rattle.std.specs.List.{AllByRecursion}
use Rattle.serial_model.specs.declared.key.Key.{Key}
use Rattle.serial_model.specs.declared.number.Change.{Change}
use Rattle.serial_model.specs.Keys.{IsKeyBelow}
use Rattle.wire_form.specs.Items.{Rises}
use Rattle.serial_model.specs.declared.number.Number.{Number}
use Rattle.tx_sets.specs.declared.reads.ReadEntry.{ReadEntry}
use Rattle.tx_sets.specs.declared.sets.Sets.{Sets}
use Rattle.tx_sets.specs.declared.writes.Write.{Write}
use Rattle.tx_sets.specs.Entries.{places_of, IsAscending}
use Rattle.engine_pages.specs.declared.view.RefusalCause.{RefusalCause}
use Rattle.engine_pages.specs.declared.view.RefusalCause.TheVariants.{Conflict, Full, NumberLimit, Wide}
use Rattle.engine_pages.specs.declared.view.View.{View}
use Rattle.page_commit.specs.Committing.{changes_of, checks_of, commit_steps, kept_writes, AreChangesOf, HasCommitted}
use Rattle.page_commit.specs.Committing.{RefusesCommit, TookOnly, IsRecordOf, IsDropped}
use Rattle.page_commit.specs.HeaderParts.{AreHeaders}
use Rattle.page_commit.specs.Live.{AreParts, AreMet, IsWriteOf, IsLive, entry_places, ArePointersKept, ArePointersMet}
use Rattle.page_commit.specs.Live.{HasHolds, KeepsOnly}
use Rattle.page_commit.specs.Refusing.{HasRefused, IsConflictAt, IsHeaderConflict, IsPointerConflict, IsTreeConflict}
use Rattle.page_commit.specs.Steps.{CanCommit}
use Rattle.page_commit.proofs.RoomLaws.{room_same}
use Rattle.page_commit.proofs.StepLaws.{all_steps, all_most}
use Rattle.lists.specs.Each.{AreDistinct}
use Rattle.commit_core.specs.declared.part.Part.{Part}
use Rattle.tx_sets.specs.declared.seen.Seen.{Seen}
use Rattle.page_commit.specs.Places.{ground, Ground}

-- ---- with the writes dropped, or kept

kept_all : (g : Ground) (keep : Bool) (ws : List Write) → AllByRecursion (IsWriteOf g) ws
    → AllByRecursion (IsWriteOf g) (kept_writes keep ws)
kept_all g true ws all = all
kept_all g false ws all = tt

pub parts_dropped : (sets new : Sets) (v : View) (kept : List Part) → new.reads ≡ sets.reads → new.pointers ≡ sets.pointers
    → new.headers ≡ sets.headers → AreParts sets v kept → AreParts new v kept
parts_dropped sets new v kept reads pointers headers are = record {
  known = λ part has. elim (are.known part has) [
    | inl r ↦ inl (r.0, subst (λ (l : List ReadEntry). Contains l r.0) (sym reads) r.1, r.2)
    | inr o ↦ inr (elim o [
      | inl r ↦ inl (r.0, subst (λ (l : List Seen). Contains l r.0) (sym pointers) r.1, r.2)
      | inr r ↦ inr (r.0, subst (λ (l : List Seen). Contains l r.0) (sym headers) r.1, r.2)
    ])
  ];
  reads = λ e has. are.reads e (subst (λ (l : List ReadEntry). Contains l e) reads has);
  pointers = λ p has. are.pointers p (subst (λ (l : List Seen). Contains l p) pointers has);
  headers = λ h has. are.headers h (subst (λ (l : List Seen). Contains l h) headers has);
  once = are.once;
}

-- no more words are kept, where the pointers and headers are the same
pub keeps_only : (sets new : Sets) (v : View) → new.pointers ≡ sets.pointers → new.headers ≡ sets.headers
    → KeepsOnly sets v → KeepsOnly new v
keeps_only sets new v pointers headers only at n is = elim (only at n is) [
  | inl p ↦ inl (subst (λ (l : List Seen). Rattle.tx_sets.specs.Entries.has_word at l ≡ true) (sym pointers) p)
  | inr h ↦ inr (subst (λ (l : List Seen). Rattle.tx_sets.specs.Entries.has_word at l ≡ true) (sym headers) h)
]

pub live_dropped : (sets new : Sets) (keep : Bool) (v : View) → IsLive sets v → IsDropped keep sets new → IsLive new v
live_dropped sets new keep v live d = record {
  decls = live.decls;
  worker = live.worker;
  due = live.due;
  locks = live.locks;
  took = live.took;
  stage = live.stage;
  gone = live.gone;
  agree = live.agree;
  trees = live.trees;
  holds = subst (λ l. HasHolds l v) (sym d.holds) live.holds;
  parts = parts_dropped sets new v v.seat.kept d.reads d.pointers d.headers live.parts;
  places = subst (λ (l : List ReadEntry). AreDistinct (entry_places l)) (sym d.reads) live.places;
  once = subst (λ (l : List Seen). AreDistinct (places_of l)) (sym d.pointers) live.once;
  writes = subst (AllByRecursion (IsWriteOf (ground v))) (sym d.writes) (kept_all (ground v) keep sets.writes live.writes);
  met = subst (λ (l : List ReadEntry). AreMet l [] v) (sym d.reads) live.met;
  points = subst (λ (l : List Seen). ArePointersMet l v) (sym d.pointers) live.points;
  kept = subst (λ (l : List Seen). ArePointersKept l v) (sym d.pointers) live.kept;
  headers = subst (λ (l : List Seen). AreHeaders l v) (sym d.headers) live.headers;
  only = keeps_only sets new v d.pointers d.headers live.only;
  inside = live.inside;
  room = room_same sets new d.reads d.headers live.room;
}

pub refuses_dropped : (sets new : Sets) (ws : List Write) (why : RefusalCause) (v w : View) → new.reads ≡ sets.reads
    → new.pointers ≡ sets.pointers → new.headers ≡ sets.headers
    → new.writes ≡ ws → RefusesCommit new new.writes why v w → RefusesCommit sets ws why v w
refuses_dropped sets new ws (Conflict at expected seen) v w reads pointers headers writes r = (
  elim r.0 [
    | inl m ↦ inl (
      m.0,
      subst (λ (l : List Write). IsRecordOf sets.reads l m.0 at) writes
          (subst (λ (l : List ReadEntry). IsRecordOf l new.writes m.0 at) reads m.1),
      subst (λ (l : List ReadEntry). IsConflictAt l m.0 at expected seen v w) reads m.2,
      m.3,
    )
    | inr o ↦ inr (elim o [
      | inl m ↦ inl (
        subst (λ (l : List Seen). Rattle.tx_sets.specs.Entries.has_word at l ≡ true) pointers m.0,
        subst (λ (l : List Seen). IsPointerConflict l at expected seen v w) pointers m.1,
        m.2,
      )
      | inr n ↦ inr (elim n [
        | inl m ↦ inl (
          subst (λ (l : List Seen). Rattle.tx_sets.specs.Entries.has_word at l ≡ true) headers m.0,
          subst (λ (l : List Seen). IsHeaderConflict l at expected seen v w) headers m.1,
          m.2,
        )
        | inr m ↦ inr (
          m.0,
          subst (λ (l : List Write). IsRecordOf sets.reads l m.0 at) writes
              (subst (λ (l : List ReadEntry). IsRecordOf l new.writes m.0 at) reads m.1),
          subst (λ (l : List ReadEntry). IsTreeConflict l at expected seen v w) reads m.2,
          m.3,
          m.4,
        )
      ])
    ])
  ],
  subst (λ (l : List Write). TookOnly l v w) writes r.1,
)
refuses_dropped sets new ws (Full held) v w reads pointers headers writes r = r
refuses_dropped sets new ws (Wide set) v w reads pointers headers writes r = r
refuses_dropped sets new ws (NumberLimit clock) v w reads pointers headers writes r = r

-- ---- results that are handed on

pub commits_for : (r : Result Number RefusalCause) (sets : Sets) (found : List ℕ) (v w x : View)
    → CanCommit sets found v w
    → IfOk r (λ n. (u : View) → CanCommit sets found u w → HasCommitted (changes_of sets.writes) n u x)
    → IfOk r (λ n. HasCommitted (changes_of sets.writes) n v x)
commits_for (Ok k) sets found v w x can all = all v can
commits_for (Err why) sets found v w x can all = tt

pub refused_for_all : (r : Result Number RefusalCause) (sets : Sets) (found : List ℕ) (v w x : View)
    → CanCommit sets found v w
    → IfErr r (λ why. (u : View) → CanCommit sets found u w → HasRefused why u x) → IfErr r (λ why. HasRefused why v x)
refused_for_all (Ok k) sets found v w x can all = tt
refused_for_all (Err why) sets found v w x can all = all v can

pub caused_for : (r : Result Number RefusalCause) (sets : Sets) (found : List ℕ) (v w x : View)
    → CanCommit sets found v w
    → IfErr r (λ why. (u : View) → CanCommit sets found u w → RefusesCommit sets sets.writes why u x)
    → IfErr r (λ why. RefusesCommit sets sets.writes why v x)
caused_for (Ok k) sets found v w x can all = tt
caused_for (Err why) sets found v w x can all = all v can

pub commits_kept : (r : Result Number RefusalCause) (us ws : List Write) (v w : View) → us ≡ ws
    → IfOk r (λ n. HasCommitted (changes_of us) n v w) → IfOk r (λ n. HasCommitted (changes_of ws) n v w)
commits_kept (Ok k) us ws v w same is = subst (λ (l : List Write). HasCommitted (changes_of l) k v w) same is
commits_kept (Err why) us ws v w same is = tt

changes_keys : (ws : List Write) → map (λ (x : Change). x.key) (changes_of ws) ≡ map (λ (w : Write). w.key) ws
changes_keys [] = refl
changes_keys (w ∷ ws) = ap (λ (l : List Key). w.key ∷ l) (changes_keys ws)

changes_count : (ws : List Write) → length (changes_of ws) ≡ length ws
changes_count [] = refl
changes_count (w ∷ ws) = ap (λ n. suc n) (changes_count ws)

changes_rise : (changes : List Change) (ws : List Write) → changes ≡ changes_of ws → IsAscending ws
    → Rises IsKeyBelow (map (λ (x : Change). x.key) changes)
changes_rise changes ws is rises = subst (Rises IsKeyBelow)
    (sym (ap (λ (l : List Change). map (λ (x : Change). x.key) l) is ∙ changes_keys ws)) rises

changes_few : (changes : List Change) (ws : List Write) → changes ≡ changes_of ws → length ws ≤ 16
    → length changes ≤ 16
changes_few changes ws is few = omega (arith, few, ap (λ (l : List Change). length l) is, changes_count ws)

-- what is put down of the writes that were kept
pub changes_told : (changes : List Change) (ws kept : List Write) → changes ≡ changes_of ws → ws ≡ kept → IsAscending ws
    → length ws ≤ 16 → AreChangesOf kept changes
changes_told changes ws kept is same rises few = record {
  are = is ∙ ap changes_of same;
  rising = changes_rise changes ws is rises;
  few = changes_few changes ws is few;
}

pub dropped_for : (r : Result Number RefusalCause) (sets new : Sets) (ws : List Write) (v w : View)
    → new.reads ≡ sets.reads → new.pointers ≡ sets.pointers → new.headers ≡ sets.headers
    → new.writes ≡ ws → IfErr r (λ why. RefusesCommit new new.writes why v w)
    → IfErr r (λ why. RefusesCommit sets ws why v w)
dropped_for (Ok k) sets new ws v w reads pointers headers writes is = tt
dropped_for (Err why) sets new ws v w reads pointers headers writes is =
    refuses_dropped sets new ws why v w reads pointers headers writes is

pub steps_for : (r : Result Number RefusalCause) (sets : Sets) (ws : List Write) (holds : List ℕ) (v w x : View)
    → ws ≡ sets.writes → holds ≡ sets.holds → w.steps ≡ v.steps + 2 * length ws
    → OnOk r (x.steps ≡ w.steps + 2 * length ws + checks_of sets + length holds + 2)
    → OnOk r (x.steps ≡ v.steps + commit_steps sets sets.writes)
steps_for (Ok k) sets ws holds v w x same same' locks rest =
    all_steps (checks_of sets) (length ws) (length sets.writes) (length holds)
    (length sets.holds) v w x (ap (λ (l : List Write). length l) same) (ap (λ (l : List ℕ). length l) same') locks rest
steps_for (Err why) sets ws holds v w x same same' locks rest = tt

pub most_for : (r : Result Number RefusalCause) (sets : Sets) (ws : List Write) (holds : List ℕ) (v w x : View)
    → ws ≡ sets.writes → holds ≡ sets.holds → w.steps ≡ v.steps + 2 * length ws
    → OnErr r (x.steps ≤ w.steps + length ws + checks_of sets + length holds + 2)
    → OnErr r (x.steps ≤ v.steps + commit_steps sets sets.writes)
most_for (Ok k) sets ws holds v w x same same' locks rest = tt
most_for (Err why) sets ws holds v w x same same' locks rest =
    all_most (checks_of sets) (length ws) (length sets.writes) (length holds)
    (length sets.holds) v w x (ap (λ (l : List Write). length l) same) (ap (λ (l : List ℕ). length l) same') locks rest

counts_kept : (keep : Bool) (sets new : Sets) → IsDropped keep sets new
    → commit_steps new new.writes ≡ commit_steps sets (kept_writes keep sets.writes)
counts_kept keep sets new d =
    let reads = ap (λ (l : List ReadEntry). length l) d.reads in
    let writes = ap (λ (l : List Write). length l) d.writes in
    let pointers = ap (λ (l : List Seen). length l) d.pointers in
    let headers = ap (λ (l : List Seen). length l) d.headers in
    let holds = ap (λ (l : List ℕ). length l) d.holds in omega (arith, reads, writes, pointers, headers, holds)

pub kept_steps : (r : Result Number RefusalCause) (keep : Bool) (sets new : Sets) (v x : View) → IsDropped keep sets new
    → OnOk r (x.steps ≡ v.steps + commit_steps new new.writes)
    → OnOk r (x.steps ≡ v.steps + commit_steps sets (kept_writes keep sets.writes))
kept_steps (Ok k) keep sets new v x d rest = rest ∙ ap (λ n. v.steps + n) (counts_kept keep sets new d)
kept_steps (Err why) keep sets new v x d rest = tt

pub kept_most : (r : Result Number RefusalCause) (keep : Bool) (sets new : Sets) (v x : View) → IsDropped keep sets new
    → OnErr r (x.steps ≤ v.steps + commit_steps new new.writes)
    → OnErr r (x.steps ≤ v.steps + commit_steps sets (kept_writes keep sets.writes))
kept_most (Ok k) keep sets new v x d rest = tt
kept_most (Err why) keep sets new v x d rest =
    subst (λ n. x.steps ≤ n) (ap (λ n. v.steps + n) (counts_kept keep sets new d)) rest
