-- A live transaction behind a key that it added to a leaf of a tree: whose header it keeps no part of, or whose header it
-- keeps and goes on with.
use Rattle.std.proofs.Common.{◌≡◌, ◌≢◌, ◌⊎◌, inl, inr, ℕ, ◌+◌, ◌-◌, ◌*◌, ◌/◌, ◌%◌, ◌<◌, ◌≤◌, Bool, true, false, true≢false}
use Rattle.std.proofs.Common.{List, [], ◌∷◌, ◌++◌, Some, refl, sym, ap, ◌∙◌, subst, arith, length}
use Rattle.std.specs.Prelude.{Contains, unwrap_or, ◌==◌}
use Rattle.std.proofs.lemmas.Bool.{eqb-true, eq-eqb}
use Rattle.lists.specs.Each.{AreDistinct}
use Rattle.lists.specs.Fronts.{front_refl}
use Rattle.serial_model.specs.Decls.{AreDecls}
use Rattle.serial_model.specs.declared.key.Key.{Key}
use Rattle.homes.specs.declared.places.Content.{Content}
use Rattle.homes.specs.declared.places.Span.{Span}
use Rattle.commit_core.specs.declared.part.Part.{Part}
use Rattle.commit_core.specs.Parts.{record_part, with_part}
use Rattle.tx_sets.specs.declared.reads.ReadEntry.{ReadEntry}
use Rattle.tx_sets.specs.declared.seen.Seen.{Seen}
use Rattle.tx_sets.specs.declared.sets.Sets.{Sets}
use Rattle.tx_sets.specs.Entries.{has_word, places_of, renewed}
use Rattle.engine_pages.specs.declared.layout.Layout.{Layout}
use Rattle.engine_pages.specs.declared.view.View.{View}
use Rattle.engine_pages.specs.Agreement.{KnownAgree, TreesAgree}
use Rattle.engine_pages.specs.Layout.{page_at}
use Rattle.engine_pages.specs.Pages.{is_tree}
use Rattle.engine_pages.specs.Pointers.{WaysAgree}
use Rattle.engine_pages.specs.Steps.{kept_at, seen_at}
use Rattle.array_pages.specs.Walks.{CanWalk}
use Rattle.page_commit.specs.HeaderParts.{AreHeaders, IsMetHeader}
use Rattle.page_commit.specs.Places.{ground, spot_for, IsAnyKeyAt, IsAnyKeyIn, IsKeyIn, IsPointerIn, IsTreeKeyIn}
use Rattle.page_commit.specs.Live.{entry_places, read_word, AreInside, AreMet, AreParts, ArePointersKept, ArePointersMet}
use Rattle.page_commit.specs.Live.{IsHeadIn, IsLive, IsWordOf, KeepsOnly, StandsIn}
use Rattle.page_commit.specs.Turning.{OnlyWalked}
use Rattle.page_commit.proofs.AnyPlaces.{any_no_pointer, any_stands, head_apart, head_stands, met_tree, no_both}
use Rattle.page_commit.proofs.AnyPlaces.{tree_storage}
use Rattle.page_commit.proofs.BroughtLaws.{parts_grown}
use Rattle.page_commit.proofs.GrowLaws.{entry_at, met_before, pointer_grown, stands_grown, KnowsMore}
use Rattle.page_commit.proofs.HeaderLaws.{header_grown, headers_aside, no_head_any}
use Rattle.page_commit.proofs.KeepLaws.{entry_parts}
use Rattle.page_commit.proofs.PointerLaws.{has_pointer}
use Rattle.page_commit.proofs.RenewLaws.{has_renewed, renewed_headers, renewed_parts}
use Rattle.page_commit.proofs.WalkedLaws.{inside_entry, kept_walked, live_grown, met_entry, only_walked_same, places_push}
use Rattle.page_commit.proofs.WalkedLaws.{IsBeside}

-- ---- the header of the leaf of a tree's record

-- its word
abbrev pub head_of : (w : View) (k : Key) (at : ℕ) → IsTreeKeyIn (ground w) k at → ℕ
head_of w k at p = page_at w.layout.slots p.way.slot 0

-- it stands before records
pub head_here : (w : View) (k : Key) (at : ℕ) → (p : IsTreeKeyIn (ground w) k at) → IsHeadIn (ground w) (head_of w k at p)
head_here w k at p =
    let slot : (((32 + w.layout.slots) + 64 * p.way.slot) + 0 - (32 + w.layout.slots)) / 64 ≡ p.way.slot = omega arith in
    let first : (((32 + w.layout.slots) + 64 * p.way.slot) + 0 - (32 + w.layout.slots)) % 64 < 16 = omega arith in inr (
      p.way,
      p.has,
      slot,
      subst (λ (s : ℕ). is_tree w.layout.decls s ≡ true) (sym (tree_storage (ground w) k at p)) p.kind,
      inl first,
    )

-- and is no pointer's
pub head_no_pointer : (w : View) (k : Key) (sp : Span) (at : ℕ) → WaysAgree w.ways → (p : IsTreeKeyIn (ground w) k at)
    → IsPointerIn (ground w) sp (head_of w k at p) → ⊥
head_no_pointer w k sp at agree p (inl r) =
    let few = r.few in
    let is : ((32 + w.layout.slots) + 64 * p.way.slot) + 0 ≡ 10 + r.root = r.word in absurd (omega (arith, few, is))
head_no_pointer w k sp at agree p (inr (inl c)) =
    let slot : (((32 + w.layout.slots) + 64 * p.way.slot) + 0 - (32 + w.layout.slots)) / 64 ≡ p.way.slot = omega arith in
    no_both (ground w) k at c.way agree p c.has (c.slot ∙ slot) c.kind
head_no_pointer w k sp at agree p (inr (inr b)) =
    let behind : 4 ≤ (((32 + w.layout.slots) + 64 * p.way.slot) + 0 - (32 + w.layout.slots)) % 64 = b.behind in
    absurd (omega (arith, behind))

-- ---- a key that was added

-- No words were met but the header's and that of the key's record, which was no record before; nothing more is kept.
pub record HasGrownBare (sets : Sets) (v w : View) (k : Key) (at : ℕ) : Type 0 where
  pub place : IsTreeKeyIn (ground w) k at
  pub fresh : (q : Key) → IsAnyKeyAt v q at → ⊥
  pub known : KnownAgree w.known
  pub lacks : has_word (head_of w k at place) sets.headers ≡ false
  pub only : (a : ℕ) → a ≢ at → (seen_at w.reads a ≡ seen_at v.reads a) ⊎ (a ≡ head_of w k at place)
  pub same : (a : ℕ) → kept_at w.reads a ≡ kept_at v.reads a
  pub kept : w.seat.kept ≡ v.seat.kept

module _ (sets : Sets) (v w : View) (k : Key) (at : ℕ) (live : IsLive sets v) (more : KnowsMore v w)
    (agree : WaysAgree w.ways) (trees : TreesAgree w) (g : HasGrownBare sets v w k at) where
  -- the header's word is no record's
  head_no_key : (q : Key) (a : ℕ) → IsAnyKeyIn (ground w) q a → a ≡ head_of w k at g.place → ⊥
  head_no_key q a there is =
      head_apart w q a agree trees there
      (subst (λ (n : ℕ). IsHeadIn (ground w) n) (sym is) (head_here w k at g.place))

  apart_of : (a : ℕ) → (at == a) ≡ false → a ≢ at
  apart_of a miss same = true≢false (sym (eq-eqb at a (sym same)) ∙ miss)

  pub met_bare : AreMet sets.reads [] w
  met_bare = record {
    arrays = λ q a there clear. by_array q a there (at == a) refl;
    trees = λ q a n there clear read. by_tree q a n there read (at == a) refl;
  }
    where
      no_array : (q : Key) (a : ℕ) → IsKeyIn (ground w) q a → at ≡ a → ⊥
      no_array q a there same =
          let tree : IsTreeKeyIn (ground w) k a = subst (λ (n : ℕ). IsTreeKeyIn (ground w) k n) same g.place in
          no_both (ground w) k a there.way agree tree there.has (there.slot ∙ sym tree.slot) there.kind

      array_side : (q : Key) (a : ℕ) → IsKeyIn (ground w) q a
          → (seen_at w.reads a ≡ seen_at v.reads a) ⊎ (a ≡ head_of w k at g.place)
          → seen_at w.reads a ≡ read_word a sets.reads
      array_side q a there (inl same) = same ∙ met_before sets v w q a live more agree there
      array_side q a there (inr is) = absurd (head_no_key q a (inl there) is)

      by_array : (q : Key) (a : ℕ) → IsKeyIn (ground w) q a → (b : Bool) → (at == a) ≡ b
          → seen_at w.reads a ≡ read_word a sets.reads
      by_array q a there true hit = absurd (no_array q a there (eqb-true at a hit))
      by_array q a there false miss = array_side q a there (g.only a (apart_of a miss))

      -- no record with this word was read
      none_there : (a n : ℕ) → read_word a sets.reads ≡ Some n → at ≡ a → ⊥
      none_there a n read same =
          let e = entry_at sets.reads a n read in
          g.fresh e.0.key
          (subst (IsAnyKeyAt v e.0.key) (e.2 ∙ sym same) (live.parts.reads e.0 e.1).2.place)

      tree_side : (q : Key) (a n : ℕ) → IsTreeKeyIn (ground w) q a → read_word a sets.reads ≡ Some n
          → (seen_at w.reads a ≡ seen_at v.reads a) ⊎ (a ≡ head_of w k at g.place) → seen_at w.reads a ≡ Some n
      tree_side q a n there read (inl same) = same ∙ met_tree sets v w q a n live more agree there read
      tree_side q a n there read (inr is) = absurd (head_no_key q a (inr there) is)

      by_tree : (q : Key) (a n : ℕ) → IsTreeKeyIn (ground w) q a → read_word a sets.reads ≡ Some n → (b : Bool)
          → (at == a) ≡ b → seen_at w.reads a ≡ Some n
      by_tree q a n there read true hit = absurd (none_there a n read (eqb-true at a hit))
      by_tree q a n there read false miss = tree_side q a n there read (g.only a (apart_of a miss))

  pub inside_bare : AreInside w
  inside_bare a n found = by_test (at == a) refl
    where
      by_side : (seen_at w.reads a ≡ seen_at v.reads a) ⊎ (a ≡ head_of w k at g.place) → StandsIn (ground w) a
      by_side (inl same) = stands_grown v w a more (live.inside a n (sym same ∙ found))
      by_side (inr is) =
          head_stands w a (subst (λ (m : ℕ). IsHeadIn (ground w) m) (sym is) (head_here w k at g.place))

      by_test : (b : Bool) → (at == a) ≡ b → StandsIn (ground w) a
      by_test true hit =
          subst (λ (m : ℕ). StandsIn (ground w) m) (eqb-true at a hit) (any_stands w k at (inr g.place))
      by_test false miss = by_side (g.only a (apart_of a miss))

  pub points_bare : ArePointersMet sets.pointers w
  points_bare p has =
      let r = live.parts.pointers p has in
      let now : IsPointerIn (ground w) r.2.span p.at = pointer_grown v w r.2.span p.at more r.2.place in
      by_side r.2.span now
      (g.only p.at
      (λ same. any_no_pointer w k r.2.span at agree trees (inr g.place)
      (subst (λ (n : ℕ). IsPointerIn (ground w) r.2.span n) same now)))
    where
      by_side : (sp : Span) → IsPointerIn (ground w) sp p.at
          → (seen_at w.reads p.at ≡ seen_at v.reads p.at) ⊎ (p.at ≡ head_of w k at g.place)
          → seen_at w.reads p.at ≡ Some p.word
      by_side sp now (inl same) = same ∙ live.points p has
      by_side sp now (inr is) =
          absurd (head_no_pointer w k sp at agree g.place (subst (λ (n : ℕ). IsPointerIn (ground w) sp n) is now))

  pub headers_bare : AreHeaders sets.headers w
  headers_bare =
      headers_aside sets.headers v w (λ h has. (by_side h has (g.only h.at (no_record h has)), g.same h.at)) live.headers
    where
      no_record : (h : Seen) → Contains sets.headers h → h.at ≢ at
      no_record h has same =
          let r = live.parts.headers h has in
          no_head_any (ground w) h r.0 k agree (header_grown v w h r.0 more r.2)
          (subst (λ (n : ℕ). IsAnyKeyIn (ground w) k n) (sym same) (inr g.place))

      by_side : (h : Seen) → Contains sets.headers h
          → (seen_at w.reads h.at ≡ seen_at v.reads h.at) ⊎ (h.at ≡ head_of w k at g.place)
          → seen_at w.reads h.at ≡ seen_at v.reads h.at
      by_side h has (inl same) = same
      by_side h has (inr is) =
          absurd (true≢false (sym (has_pointer sets.headers h has)
          ∙ (ap (λ (n : ℕ). has_word n sets.headers) is ∙ g.lacks)))

  -- the transaction goes on with the same sets
  pub live_bare : OnlyWalked v w → CanWalk sets.holds w → IsLive sets w
  live_bare walk can = live_grown sets sets v w live walk more can record {
    parts = parts_grown sets sets v w live agree more refl refl refl g.kept;
    places = live.places;
    once = live.once;
    writes = refl;
    met = met_bare;
    points = points_bare;
    kept = kept_walked sets v w live g.same;
    headers = headers_bare;
    only = only_walked_same sets sets v w live g.same refl refl;
    inside = inside_bare;
    room = live.room;
  }

-- ---- a key that was added under a header which is kept

-- The leaf's header is in the set, and its part is kept; now it is there as it was left, with the part that has one key
-- more, and the key's record is kept as it was put there. No words were met but these two.
pub record HasGrownKept (sets new : Sets) (v w : View) (h : Seen) (head : Part) (e : ReadEntry) (c : Content)
    : Type 0 where
  pub place : IsTreeKeyIn (ground w) e.key e.at
  pub fresh : (q : Key) → IsAnyKeyAt v q e.at → ⊥
  pub at : h.at ≡ head_of w e.key e.at place
  pub met : IsMetHeader (ground w) h head
  pub has : has_word h.at sets.headers ≡ true
  pub shown : IsWordOf w.layout.decls e.key c e.word
  pub value : e.value ≡ unwrap_or c.value 0
  pub reads : new.reads ≡ sets.reads ++ e ∷ []
  pub pointers : new.pointers ≡ sets.pointers
  pub writes : new.writes ≡ sets.writes
  pub headers : new.headers ≡ renewed h.at h.word sets.headers
  pub kept : w.seat.kept
      ≡ with_part (with_part v.seat.kept head) (record_part e.key (spot_for w.layout e.key e.at) c)
  pub seen : seen_at w.reads e.at ≡ Some e.word
  pub now : seen_at w.reads h.at ≡ Some h.word
  pub keeps : kept_at w.reads h.at ≡ Some h.word
  pub only : (a : ℕ) → a ≢ e.at → (seen_at w.reads a ≡ seen_at v.reads a) ⊎ (a ≡ h.at)
  pub same : (a : ℕ) → a ≢ h.at → kept_at w.reads a ≡ kept_at v.reads a
  pub room : length new.reads + length new.headers ≤ 256

module _ (sets new : Sets) (v w : View) (h : Seen) (head : Part) (e : ReadEntry) (c : Content) (live : IsLive sets v)
    (more : KnowsMore v w) (agree : WaysAgree w.ways) (trees : TreesAgree w)
    (g : HasGrownKept sets new v w h head e c) where
  -- no record was read whose word is that of the new one
  none_read_there : (f : ReadEntry) → Contains sets.reads f → f.at ≡ e.at → ⊥
  none_read_there f has same = g.fresh f.key (subst (IsAnyKeyAt v f.key) same (live.parts.reads f has).2.place)

  decls_now : AreDecls w.layout.decls
  decls_now = subst (λ (l : Layout). AreDecls l.decls) (sym more.layout) live.decls

  header_here : IsHeadIn (ground w) h.at
  header_here = subst (λ (n : ℕ). IsHeadIn (ground w) n) (sym g.at) (head_here w e.key e.at g.place)

  beside_one : (a : ℕ) → a ≢ e.at → a ≢ e.at + 1 → (seen_at w.reads a ≡ seen_at v.reads a) ⊎ IsBeside w a
  beside_one a one two = elim (g.only a one) [
    | inl same ↦ inl same
    | inr is ↦ inr (inr (subst (λ (n : ℕ). IsHeadIn (ground w) n) (sym is) header_here))
  ]

  -- a pointer of the set is neither of the two words
  pointer_apart : (p : Seen) → Contains sets.pointers p → (p.at ≢ e.at) × (p.at ≢ h.at)
  pointer_apart p has =
      let r = live.parts.pointers p has in
      let now : IsPointerIn (ground w) r.2.span p.at = pointer_grown v w r.2.span p.at more r.2.place in (
        λ same. any_no_pointer w e.key r.2.span e.at agree trees (inr g.place)
            (subst (λ (n : ℕ). IsPointerIn (ground w) r.2.span n) same now),
        λ same. head_no_pointer w e.key r.2.span e.at agree g.place
            (subst (λ (n : ℕ). IsPointerIn (ground w) r.2.span n) (same ∙ g.at) now),
      )

  pub points_kept : (p : Seen) → Contains sets.pointers p → seen_at w.reads p.at ≡ Some p.word
  points_kept p has = by_side (g.only p.at (pointer_apart p has).0)
    where
      by_side : (seen_at w.reads p.at ≡ seen_at v.reads p.at) ⊎ (p.at ≡ h.at) → seen_at w.reads p.at ≡ Some p.word
      by_side (inl same) = same ∙ live.points p has
      by_side (inr is) = absurd ((pointer_apart p has).1 is)

  header_apart : (x : Seen) → Contains sets.headers x → x.at ≢ e.at
  header_apart x has same =
      let r = live.parts.headers x has in
      no_head_any (ground w) x r.0 e.key agree (header_grown v w x r.0 more r.2)
      (subst (λ (n : ℕ). IsAnyKeyIn (ground w) e.key n) (sym same) (inr g.place))

  pub headers_kept : AreHeaders new.headers w
  headers_kept =
      renewed_headers sets new v w h head live.decls agree more g.met g.has g.headers live.headers g.now g.keeps
      (λ x has apart. (by_side x apart (g.only x.at (header_apart x has)), g.same x.at apart))
    where
      by_side : (x : Seen) → x.at ≢ h.at → (seen_at w.reads x.at ≡ seen_at v.reads x.at) ⊎ (x.at ≡ h.at)
          → seen_at w.reads x.at ≡ seen_at v.reads x.at
      by_side x apart (inl same) = same
      by_side x apart (inr is) = absurd (apart is)

  -- no words are kept but those of the sets
  pub only_kept : KeepsOnly new w
  only_kept a n is = by_test (a == h.at) refl
    where
      by_test : (b : Bool) → (a == h.at) ≡ b
          → (has_word a new.pointers ≡ true) ⊎ (has_word a new.headers ≡ true)
      by_test true hit = inr (ap (λ (l : List Seen). has_word a l) g.headers
          ∙ (has_renewed a h.at h.word sets.headers
          ∙ (ap (λ (m : ℕ). has_word m sets.headers) (eqb-true a h.at hit) ∙ g.has)))
      by_test false miss =
          elim (live.only a n (sym (g.same a (λ same. true≢false (sym (eq-eqb a h.at same) ∙ miss))) ∙ is)) [
            | inl p ↦ inl (ap (λ (l : List Seen). has_word a l) g.pointers ∙ p)
            | inr x ↦ inr (ap (λ (l : List Seen). has_word a l) g.headers ∙ (has_renewed a h.at h.word sets.headers ∙ x))
          ]

  -- the parts: that of the header first, and then that of the record
  pub parts_kept : AreParts new w w.seat.kept
  parts_kept =
      entry_parts mid new between w e c decls_now agree later first (inr g.place) none_read_there g.shown g.value g.reads
      g.pointers g.headers g.kept
    where
      mid : Sets
      mid = record sets { headers = renewed h.at h.word sets.headers }

      between : View
      between = record w { seat = record w.seat { kept = with_part v.seat.kept head } }

      knows : KnowsMore v between
      knows = record {
        layout = more.layout;
        ways = more.ways;
        known = more.known;
        inners = more.inners;
        leads = more.leads;
        pages = more.pages;
      }

      later : KnowsMore between w
      later = record {
        layout = refl;
        ways = λ x has. has;
        known = λ x has. has;
        inners = λ x has. has;
        leads = λ x has. has;
        pages = front_refl w.pages;
      }

      first : AreParts mid between (with_part v.seat.kept head)
      first =
          renewed_parts sets mid v between h head live.decls agree knows g.met g.has refl live.parts refl refl refl

  -- the transaction goes on, with the record among those that it read
  pub live_kept : OnlyWalked v w → CanWalk new.holds w → IsLive new w
  live_kept walk can = live_grown sets new v w live walk more can record {
    parts = parts_kept;
    places = subst (λ (l : List ReadEntry). AreDistinct (entry_places l)) (sym g.reads)
        (places_push sets.reads e live.places none_read_there);
    once = subst (λ (l : List Seen). AreDistinct (places_of l)) (sym g.pointers) live.once;
    writes = g.writes;
    met = subst (λ (l : List ReadEntry). AreMet l [] w) (sym g.reads)
        (met_entry sets v w e live more agree trees decls_now (inr g.place) none_read_there g.seen beside_one);
    points = subst (λ (l : List Seen). ArePointersMet l w) (sym g.pointers) points_kept;
    kept = subst (λ (l : List Seen). ArePointersKept l w) (sym g.pointers)
        (λ p has. g.same p.at (pointer_apart p has).1 ∙ live.kept p has);
    headers = headers_kept;
    only = only_kept;
    inside = inside_entry sets v w e live more agree trees decls_now (inr g.place) none_read_there g.seen beside_one;
    room = g.room;
  }
