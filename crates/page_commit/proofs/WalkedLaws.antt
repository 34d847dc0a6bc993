-- A live transaction behind a walk: what it needs to walk, and what it is then.
use Rattle.std.proofs.Common.{◌≡◌, ◌≢◌, ◌⊎◌, inl, inr, ℕ, ◌+◌, Bool, true, false, true≢false, List, [], ◌∷◌, ◌++◌, map}
use Rattle.std.proofs.Common.{refl, sym, ap, ◌∙◌, subst, Some, length, ◌≤◌}
use Rattle.std.specs.Prelude.{Contains, ◌==◌}
use Rattle.std.specs.List.{AllByRecursion}
use Rattle.std.proofs.lemmas.Bool.{eqb-true, eq-eqb}
use Rattle.lists.specs.Each.{all_push, AreDistinct}
use Rattle.lists.specs.Elements.{in_cases, in_head, in_none, in_tail}
use Rattle.serial_model.specs.Decls.{AreDecls}
use Rattle.serial_model.specs.declared.key.Key.{Key}
use Rattle.homes.specs.declared.places.Span.{Span}
use Rattle.commit_core.specs.CoreState.{is_trying}
use Rattle.drop_core.specs.Table.{has_slot}
use Rattle.tx_sets.specs.declared.reads.ReadEntry.{ReadEntry}
use Rattle.tx_sets.specs.declared.seen.Seen.{Seen}
use Rattle.tx_sets.specs.declared.sets.Sets.{Sets}
use Rattle.tx_sets.specs.Entries.{has_word, places_of}
use Rattle.engine_pages.specs.declared.view.Role.{Role}
use Rattle.engine_pages.specs.declared.view.Role.TheVariants.{Keeper, Worker}
use Rattle.engine_pages.specs.declared.view.View.{View}
use Rattle.engine_pages.specs.Agreement.{TreesAgree}
use Rattle.engine_pages.specs.Pointers.{WaysAgree}
use Rattle.engine_pages.specs.Steps.{kept_at, seen_at}
use Rattle.page_records.specs.Ends.{worker_of}
use Rattle.array_pages.specs.Making.{CanMake}
use Rattle.array_pages.specs.Walks.{AreLedTo, CanWalk, HasWalked, HoldsAre, IsPointersWord, KeepsMet, OnlyMet}
use Rattle.page_commit.specs.Places.{ground, IsAnyKeyIn, IsBranchIn, IsKeyAt, IsKeyIn, IsTreeKeyIn}
use Rattle.page_commit.specs.Live.{entry_places, read_word, AreInside, AreMet, AreParts, ArePointersKept, ArePointersMet}
use Rattle.page_commit.specs.Live.{HasHolds, IsHeadIn, IsLive, IsWriteOf, KeepsOnly, StandsIn}
use Rattle.page_commit.specs.HeaderParts.{AreHeaders}
use Rattle.page_commit.specs.Turning.{as_walked, HoldsWaysTo, OnlyWalked}
use Rattle.page_commit.proofs.DrawLaws.{active_worker}
use Rattle.page_commit.proofs.AnyPlaces.{any_no_pointer, any_no_value, any_stands, any_value_stands, head_apart, head_stands}
use Rattle.page_commit.proofs.AnyPlaces.{met_tree}
use Rattle.page_commit.proofs.GrowLaws.{branch_apart, branch_grown, branch_no_value, knows_more, met_before}
use Rattle.page_commit.proofs.GrowLaws.{none_read, pointer_here, pointer_stands, points_here}
use Rattle.page_commit.proofs.GrowLaws.{stands_grown, word_push_new, word_push_old, writes_grown, KnowsMore}
use Rattle.page_commit.proofs.HeaderLaws.{head_only, header_grown, headers_aside, no_head_key, no_head_value}
use Rattle.page_commit.proofs.Lists.{map_push}
use Rattle.page_commit.proofs.PlaceLaws.{no_pointer}
use Rattle.page_commit.proofs.PointerLaws.{pointer_word}

-- ---- what a walk needs

pub can_walk : (sets : Sets) (v : View) → IsLive sets v → CanWalk sets.holds v
can_walk sets v live = record {
  active = active_worker v.role live.worker;
  rest = ap is_trying live.stage;
  holds = live.holds.holds;
  within = live.holds.within;
  agree = live.agree;
  trees = live.trees;
  declared = live.decls;
}

pub can_make : (sets : Sets) (v : View) → IsLive sets v → CanMake sets.holds v
can_make sets v live = record {
  walks = can_walk sets v live;
  worker = λ is. no_keeper is;
  idle = live.stage;
  unlocked = live.locks;
  made = live.holds.made;
  taken = live.holds.taken;
  drafts = live.holds.drafts;
  copies = live.holds.copies;
  blanks = live.holds.blanks;
  leaves = live.holds.leaves;
  inners = live.holds.inners;
  heads = live.holds.heads;
}
  where
    no_keeper : v.role ≡ Keeper → ⊥
    no_keeper is = let no : Keeper ≡ Worker (worker_of v.role) = sym is ∙ live.worker in absurd (cc)

-- ---- what it leaves

pub only_walked : (v w : View) → HasWalked v w → OnlyWalked v w
only_walked v w walk = record {
  drawn = walk.drawn;
  seen = walk.seen;
  since = walk.since;
  parts = λ part has. elim (walk.parts part has) [ inl old ↦ inl old | inr last ↦ inr (inl last) ];
  touches = λ t has. inl (subst (λ (y : View). Contains y.touched t) walk.is has);
  ways = walk.ways;
  known = λ x has. subst (λ (y : View). Contains y.known x) (sym walk.is) has;
  moved = λ x has. subst (λ (y : View). Contains y.moved x) (sym walk.is) has;
  inners = λ x has. subst (λ (y : View). Contains y.inners x) (sym walk.is) has;
  versions = λ x has. subst (λ (y : View). Contains y.versions x) (sym walk.is) has;
  is = subst (λ (y : View). y ≡ as_walked v y) (sym walk.is) refl;
}

pub holds_walked : (slots late : List ℕ) (v w : View) → HasHolds slots v → OnlyWalked v w → CanWalk late w
    → HasHolds late w
holds_walked slots late v w h walk can = record {
  holds = can.holds;
  within = can.within;
  made = ap (λ (y : View). y.grip.made) walk.is ∙ h.made;
  taken = ap (λ (y : View). y.grip.taken) walk.is ∙ h.taken;
  drafts = ap (λ (y : View). y.drafts) walk.is ∙ h.drafts;
  copies = ap (λ (y : View). y.copies) walk.is ∙ h.copies;
  blanks = ap (λ (y : View). y.blanks) walk.is ∙ h.blanks;
  leaves = ap (λ (y : View). y.new_leaves) walk.is ∙ h.leaves;
  inners = ap (λ (y : View). y.new_inners) walk.is ∙ h.inners;
  heads = ap (λ (y : View). y.heads) walk.is ∙ h.heads;
}

pub walked_holds : (slots late : List ℕ) (v w : View) → HasHolds slots v → HasWalked v w → CanWalk late w
    → HasHolds late w
walked_holds slots late v w h walk can = holds_walked slots late v w h (only_walked v w walk) can

-- the slots that are held newly, by the sets
pub held_to : (k : Key) (old new : List ℕ) (v w : View) → HasHolds old v → HoldsAre new w → AreLedTo k v w
    → HoldsWaysTo k old new w
held_to k old new v w before now led t has none = led t (sym (now t) ∙ has) (sym (before.holds t) ∙ none)

-- none is, where they are the same
pub held_same : (k : Key) (old new : List ℕ) (w : View) → new ≡ old → HoldsWaysTo k old new w
held_same k old new w same t has none =
    absurd (true≢false (sym has ∙ (ap (λ (l : List ℕ). has_slot l t) same ∙ none)))

-- what the sets have, and what was met of it, as the view behind a walk has it
pub record HasGrown (sets new : Sets) (w : View) : Type 0 where
  pub parts : AreParts new w w.seat.kept
  pub places : AreDistinct (entry_places new.reads)
  pub once : AreDistinct (places_of new.pointers)
  pub writes : new.writes ≡ sets.writes
  pub met : AreMet new.reads [] w
  pub points : ArePointersMet new.pointers w
  pub kept : ArePointersKept new.pointers w
  pub headers : AreHeaders new.headers w
  pub only : KeepsOnly new w
  pub inside : AreInside w
  pub room : length new.reads + length new.headers ≤ 256

-- so it is behind a walk of either kind
pub live_grown : (sets new : Sets) (v w : View) → IsLive sets v → OnlyWalked v w → KnowsMore v w
    → CanWalk new.holds w → HasGrown sets new w → IsLive new w
live_grown sets new v w live walk more can g = record {
  decls = can.declared;
  worker = subst (λ (r : Role). r ≡ Worker (worker_of r)) (sym (ap (λ (y : View). y.role) walk.is)) live.worker;
  due = ap (λ (y : View). y.due) walk.is ∙ live.due;
  locks = ap (λ (y : View). y.seat.locks) walk.is ∙ live.locks;
  took = ap (λ (y : View). y.took) walk.is ∙ live.took;
  stage = ap (λ (y : View). y.seat.stage) walk.is ∙ live.stage;
  gone = ap (λ (y : View). y.gone) walk.is ∙ live.gone;
  agree = can.agree;
  trees = can.trees;
  holds = holds_walked sets.holds new.holds v w live.holds walk can;
  parts = g.parts;
  places = g.places;
  once = g.once;
  writes = subst (AllByRecursion (IsWriteOf (ground w))) (sym g.writes)
      (writes_grown sets.writes v w more live.writes);
  met = g.met;
  points = g.points;
  kept = g.kept;
  headers = g.headers;
  only = g.only;
  inside = g.inside;
  room = g.room;
}

pub live_walked : (sets new : Sets) (v w : View) → IsLive sets v → HasWalked v w → CanWalk new.holds w
    → HasGrown sets new w → IsLive new w
live_walked sets new v w live walk can g =
    live_grown sets new v w live (only_walked v w walk) (knows_more v w walk) can g

-- ---- words, where none of records were met

-- the word is that of an array's pointer, or stands beside the records of trees
abbrev pub IsBeside : View → ℕ → Type 0
IsBeside w a = IsPointersWord w a ⊎ IsHeadIn (ground w) a

-- no words but such were met
abbrev pub OnlyBeside : View → View → Type 0
OnlyBeside v w = (a : ℕ) → (seen_at w.reads a ≡ seen_at v.reads a) ⊎ IsBeside w a

pub beside_arrays : (v w : View) → OnlyMet v w → OnlyBeside v w
beside_arrays v w only a = elim (only a) [ inl same ↦ inl same | inr p ↦ inr (inl p) ]

beside_apart : (w : View) (k : Key) (at : ℕ) → WaysAgree w.ways → TreesAgree w → AreDecls w.layout.decls
    → IsAnyKeyIn (ground w) k at → IsBeside w at → ⊥
beside_apart w k at agree trees are place (inl p) =
    any_no_pointer w k p.span at agree trees place (pointer_here w p.place p.span at are p.is)
beside_apart w k at agree trees are place (inr h) = head_apart w k at agree trees place h

beside_stands : (w : View) (at : ℕ) → AreDecls w.layout.decls → IsBeside w at → StandsIn (ground w) at
beside_stands w at are (inl p) = pointer_stands w at are p
beside_stands w at are (inr h) = head_stands w at h

pub met_only : (sets : Sets) (v w : View) → IsLive sets v → KnowsMore v w → WaysAgree w.ways → TreesAgree w
    → AreDecls w.layout.decls → OnlyBeside v w → AreMet sets.reads [] w
met_only sets v w live more agree trees are only = record {
  arrays = λ k at place clear. by_array k at place (only at);
  trees = λ k at n place clear read. by_tree k at n place read (only at);
}
  where
    by_array : (k : Key) (at : ℕ) → IsKeyIn (ground w) k at → (seen_at w.reads at ≡ seen_at v.reads at) ⊎ IsBeside w at
        → seen_at w.reads at ≡ read_word at sets.reads
    by_array k at place (inl same) = same ∙ met_before sets v w k at live more agree place
    by_array k at place (inr p) = absurd (beside_apart w k at agree trees are (inl place) p)

    by_tree : (k : Key) (at n : ℕ) → IsTreeKeyIn (ground w) k at → read_word at sets.reads ≡ Some n
        → (seen_at w.reads at ≡ seen_at v.reads at) ⊎ IsBeside w at → seen_at w.reads at ≡ Some n
    by_tree k at n place read (inl same) = same ∙ met_tree sets v w k at n live more agree place read
    by_tree k at n place read (inr p) = absurd (beside_apart w k at agree trees are (inr place) p)

pub inside_only : (sets : Sets) (v w : View) → IsLive sets v → KnowsMore v w → AreDecls w.layout.decls → OnlyBeside v w
    → AreInside w
inside_only sets v w live more are only at n seen = by_side (only at)
  where
    by_side : (seen_at w.reads at ≡ seen_at v.reads at) ⊎ IsBeside w at → StandsIn (ground w) at
    by_side (inl same) = stands_grown v w at more (live.inside at n (sym same ∙ seen))
    by_side (inr p) = beside_stands w at are p

-- ---- and where a record was read besides

-- no words were met but such, of this record, and of its value
abbrev pub OnlyMetBut : ℕ → View → View → Type 0
OnlyMetBut at v w = (a : ℕ) → a ≢ at → a ≢ at + 1 → (seen_at w.reads a ≡ seen_at v.reads a) ⊎ IsBeside w a

pub beside_but : (at : ℕ) (v w : View)
    → ((a : ℕ) → a ≢ at → a ≢ at + 1 → (seen_at w.reads a ≡ seen_at v.reads a) ⊎ IsPointersWord w a)
    → OnlyMetBut at v w
beside_but at v w only a one two = elim (only a one two) [ inl same ↦ inl same | inr p ↦ inr (inl p) ]

module _ (sets : Sets) (v w : View) (e : ReadEntry) (live : IsLive sets v) (more : KnowsMore v w)
    (agree : WaysAgree w.ways) (trees : TreesAgree w) (are : AreDecls w.layout.decls)
    (place : IsAnyKeyIn (ground w) e.key e.at)
    (other : (f : ReadEntry) → Contains sets.reads f → f.at ≡ e.at → ⊥)
    (seen : seen_at w.reads e.at ≡ Some e.word) (only : OnlyMetBut e.at v w) where
  pub met_entry : AreMet (sets.reads ++ e ∷ []) [] w
  met_entry = record {
    arrays = λ k at there clear. by_array k at there (e.at == at) refl;
    trees = λ k at n there clear read. by_tree k at n there read (e.at == at) refl;
  }
    where
      apart_of : (at : ℕ) → (e.at == at) ≡ false → e.at ≢ at
      apart_of at miss same = true≢false (sym (eq-eqb e.at at same) ∙ miss)

      by_hit : (at : ℕ) → e.at ≡ at → seen_at w.reads at ≡ read_word at (sets.reads ++ e ∷ [])
      by_hit at same =
          ap (λ (n : ℕ). seen_at w.reads n) (sym same)
          ∙ (seen ∙ sym (word_push_new sets.reads e at
          (none_read sets.reads at (λ f has is. other f has (is ∙ sym same))) same))

      array_side : (k : Key) (at : ℕ) → IsKeyIn (ground w) k at → e.at ≢ at
          → (seen_at w.reads at ≡ seen_at v.reads at) ⊎ IsBeside w at
          → seen_at w.reads at ≡ read_word at (sets.reads ++ e ∷ [])
      array_side k at there apart (inl same) =
          same ∙ (met_before sets v w k at live more agree there ∙ sym (word_push_old sets.reads e at apart))
      array_side k at there apart (inr p) = absurd (beside_apart w k at agree trees are (inl there) p)

      by_array : (k : Key) (at : ℕ) → IsKeyIn (ground w) k at → (b : Bool) → (e.at == at) ≡ b
          → seen_at w.reads at ≡ read_word at (sets.reads ++ e ∷ [])
      by_array k at there true hit = by_hit at (eqb-true e.at at hit)
      by_array k at there false miss =
          array_side k at there (apart_of at miss) (only at (λ same. apart_of at miss (sym same))
          (any_no_value w e.key k e.at at agree place (inl there)))

      tree_side : (k : Key) (at n : ℕ) → IsTreeKeyIn (ground w) k at
          → read_word at (sets.reads ++ e ∷ []) ≡ Some n → e.at ≢ at
          → (seen_at w.reads at ≡ seen_at v.reads at) ⊎ IsBeside w at → seen_at w.reads at ≡ Some n
      tree_side k at n there read apart (inl same) =
          same ∙ met_tree sets v w k at n live more agree there (sym (word_push_old sets.reads e at apart) ∙ read)
      tree_side k at n there read apart (inr p) = absurd (beside_apart w k at agree trees are (inr there) p)

      by_tree : (k : Key) (at n : ℕ) → IsTreeKeyIn (ground w) k at → read_word at (sets.reads ++ e ∷ []) ≡ Some n
          → (b : Bool) → (e.at == at) ≡ b → seen_at w.reads at ≡ Some n
      by_tree k at n there read true hit = by_hit at (eqb-true e.at at hit) ∙ read
      by_tree k at n there read false miss =
          tree_side k at n there read (apart_of at miss) (only at (λ same. apart_of at miss (sym same))
          (any_no_value w e.key k e.at at agree place (inr there)))

  pub inside_entry : AreInside w
  inside_entry at n found = by_test (e.at == at) refl
    where
      by_side : (seen_at w.reads at ≡ seen_at v.reads at) ⊎ IsBeside w at → StandsIn (ground w) at
      by_side (inl same) = stands_grown v w at more (live.inside at n (sym same ∙ found))
      by_side (inr p) = beside_stands w at are p

      by_value : (b : Bool) → (e.at + 1 == at) ≡ b → e.at ≢ at → StandsIn (ground w) at
      by_value true hit apart =
          subst (λ (m : ℕ). StandsIn (ground w) m) (eqb-true (e.at + 1) at hit) (any_value_stands w e.key e.at place)
      by_value false miss apart =
          by_side (only at (λ same. apart (sym same)) (λ same. true≢false (sym (eq-eqb (e.at + 1) at (sym same)) ∙ miss)))

      by_test : (b : Bool) → (e.at == at) ≡ b → StandsIn (ground w) at
      by_test true hit =
          subst (λ (m : ℕ). StandsIn (ground w) m) (eqb-true e.at at hit) (any_stands w e.key e.at place)
      by_test false miss = by_value (e.at + 1 == at) refl (λ same. true≢false (sym (eq-eqb e.at at same) ∙ miss))

-- ---- pointers of the set

-- each is the word of a root's pointer, or of one of an array's page, or of a tree's
pub set_points : (sets : Sets) (v : View) (p : Seen) → IsLive sets v → Contains sets.pointers p
    → IsPointersWord v p.at ⊎ ((sp : Span) × IsBranchIn (ground v) sp p.at)
set_points sets v p live has =
    let r = live.parts.pointers p has in
    elim (points_here v r.2.span p.at r.2.place) [ inl word ↦ inl word | inr b ↦ inr (r.2.span, b) ]

-- They were last seen as the set has them, where a walk over arrays met none of a tree's page.
pub points_walked : (sets : Sets) (v w : View) → IsLive sets v → KnowsMore v w → WaysAgree w.ways → AreDecls w.layout.decls
    → ((sp : Span) (p : Seen) → Contains sets.pointers p → IsBranchIn (ground w) sp p.at
    → (seen_at w.reads p.at ≡ seen_at v.reads p.at) ⊎ IsPointersWord w p.at)
    → KeepsMet sets.pointers v w → ArePointersMet sets.pointers w
points_walked sets v w live more agree are only keeps p has = by_kind (set_points sets v p live has)
  where
    by_side : (sp : Span) → IsBranchIn (ground w) sp p.at
        → (seen_at w.reads p.at ≡ seen_at v.reads p.at) ⊎ IsPointersWord w p.at → seen_at w.reads p.at ≡ Some p.word
    by_side sp b (inl same) = same ∙ live.points p has
    by_side sp b (inr word) = absurd (branch_apart w sp p.at agree are b word)

    by_kind : IsPointersWord v p.at ⊎ ((sp : Span) × IsBranchIn (ground v) sp p.at) → seen_at w.reads p.at ≡ Some p.word
    by_kind (inl word) =
        keeps p.at p.word (pointer_word sets.pointers p live.once has) word (live.points p has)
    by_kind (inr b) =
        let now = branch_grown v w b.0 p.at more b.1 in by_side b.0 now (only b.0 p has now)

-- so it is where a record of an array was read besides
pub points_beside : (sets : Sets) (v w : View) (k : Key) (at : ℕ) → IsLive sets v → KnowsMore v w → WaysAgree w.ways
    → AreDecls w.layout.decls → IsKeyAt w k at
    → ((a : ℕ) → a ≢ at → a ≢ at + 1 → (seen_at w.reads a ≡ seen_at v.reads a) ⊎ IsPointersWord w a)
    → KeepsMet sets.pointers v w → ArePointersMet sets.pointers w
points_beside sets v w k at live more agree are place only keeps =
    points_walked sets v w live more agree are (λ sp p has b. only p.at
    (λ same. no_pointer (ground w) k sp p.at agree (subst (IsKeyAt w k) (sym same) place) (inr (inr b)))
    (branch_no_value w k sp at p.at agree place b)) keeps

pub kept_walked : (sets : Sets) (v w : View) → IsLive sets v → ((a : ℕ) → kept_at w.reads a ≡ kept_at v.reads a)
    → ArePointersKept sets.pointers w
kept_walked sets v w live same p has = same p.at ∙ live.kept p has

-- no more words are kept
pub only_walked_same : (sets new : Sets) (v w : View) → IsLive sets v → ((a : ℕ) → kept_at w.reads a ≡ kept_at v.reads a)
    → new.pointers ≡ sets.pointers → new.headers ≡ sets.headers → KeepsOnly new w
only_walked_same sets new v w live same pointers headers a n is =
    elim (live.only a n (sym (same a) ∙ is)) [
      | inl p ↦ inl (subst (λ (l : List Seen). has_word a l ≡ true) (sym pointers) p)
      | inr h ↦ inr (subst (λ (l : List Seen). has_word a l ≡ true) (sym headers) h)
    ]

-- ---- headers of the set

-- they stand, where only words of pointers of arrays were met, and each is known as a part as it was
pub headers_walked : (sets : Sets) (v w : View) → IsLive sets v → KnowsMore v w → WaysAgree w.ways → AreDecls w.layout.decls
    → OnlyMet v w → ((h : Seen) → Contains sets.headers h → kept_at w.reads h.at ≡ kept_at v.reads h.at)
    → AreHeaders sets.headers w
headers_walked sets v w live more agree are only kept =
    headers_aside sets.headers v w (λ h has.
    let r = live.parts.headers h has in (head_only v w h r.0 more agree are r.2 (only h.at), kept h has)) live.headers

-- and where a record of an array was read besides
pub headers_beside : (sets : Sets) (v w : View) (k : Key) (at : ℕ) → IsLive sets v → KnowsMore v w → WaysAgree w.ways
    → AreDecls w.layout.decls → IsKeyAt w k at
    → ((a : ℕ) → a ≢ at → a ≢ at + 1 → (seen_at w.reads a ≡ seen_at v.reads a) ⊎ IsPointersWord w a)
    → ((a : ℕ) → kept_at w.reads a ≡ kept_at v.reads a) → AreHeaders sets.headers w
headers_beside sets v w k at live more agree are place only kept =
    headers_aside sets.headers v w (λ h has.
    let r = live.parts.headers h has in
    let m = header_grown v w h r.0 more r.2 in (
      head_only v w h r.0 more agree are r.2 (only h.at
          (λ same. no_head_key (ground w) h r.0 k agree m (subst (IsKeyAt w k) (sym same) place))
          (λ same. no_head_value (ground w) h r.0 k at agree m place same)),
      kept h.at,
    )) live.headers

-- ---- lists of places with one more

pub distinct_push : (xs : List ℕ) (x : ℕ) → AreDistinct xs → ((y : ℕ) → Contains xs y → y ≢ x) → AreDistinct (xs ++ x ∷ [])
distinct_push [] x are other = (tt, tt)
distinct_push (y ∷ xs) x are other = (
  all_push (λ (z : ℕ). y ≢ z) xs x are.0 (other y (in_head y xs)),
  distinct_push xs x are.1 (λ z has. other z (in_tail z y xs has)),
)

in_map : {A : Type 0} (f : A → ℕ) (xs : List A) (n : ℕ) → Contains (map f xs) n → (x : A) × Contains xs x × (f x ≡ n)
in_map f [] n has = absurd (in_none n has)
in_map f (x ∷ xs) n has = elim (in_cases n (f x) (map f xs) has) [
  | inl same ↦ (x, in_head x xs, same)
  | inr later ↦ let r = in_map f xs n later in (r.0, in_tail r.0 x xs r.1, r.2)
]

pub places_push : (reads : List ReadEntry) (e : ReadEntry) → AreDistinct (entry_places reads)
    → ((f : ReadEntry) → Contains reads f → f.at ≡ e.at → ⊥) → AreDistinct (entry_places (reads ++ e ∷ []))
places_push reads e are other =
    subst AreDistinct (sym (map_push (λ (f : ReadEntry). f.at) reads e))
    (distinct_push (entry_places reads) e.at are (λ n has same.
    let r = in_map (λ (f : ReadEntry). f.at) reads n has in other r.0 r.1 (r.2 ∙ same)))

pub pointers_push : (pointers : List Seen) (p : Seen) → AreDistinct (places_of pointers)
    → ((q : Seen) → Contains pointers q → q.at ≡ p.at → ⊥) → AreDistinct (places_of (pointers ++ p ∷ []))
pointers_push pointers p are other =
    subst AreDistinct (sym (map_push (λ (q : Seen). q.at) pointers p))
    (distinct_push (places_of pointers) p.at are (λ n has same.
    let r = in_map (λ (q : Seen). q.at) pointers n has in other r.0 r.1 (r.2 ∙ same)))
