-- A pointer of a tree below which a key was looked for joins the sets.
use Rattle.std.proofs.Common.{◌≡◌, ◌⊎◌, inl, inr, ℕ, Bool, true, false, true≢false, List, [], refl, sym, ap, ◌∙◌, subst}
use Rattle.std.proofs.Common.{Some, None}
use Rattle.std.specs.Prelude.{Contains, ◌==◌, cond}
use Rattle.std.proofs.lemmas.Bool.{eqb-true, eq-eqb}
use Rattle.lists.specs.Each.{AreDistinct}
use Rattle.lists.specs.Elements.{any_is}
use Rattle.serial_model.specs.declared.key.Key.{Key}
use Rattle.homes.specs.declared.places.At.{At}
use Rattle.homes.specs.declared.places.At.TheVariants.{Root, In}
use Rattle.homes.specs.declared.places.Content.{Content}
use Rattle.homes.specs.Laws.{in_span-parts}
use Rattle.commit_core.specs.declared.part.Part.{Part}
use Rattle.tx_sets.specs.declared.reads.ReadEntry.{ReadEntry}
use Rattle.tx_sets.specs.declared.seen.Seen.{Seen}
use Rattle.tx_sets.specs.declared.sets.Sets.{Sets}
use Rattle.tx_sets.specs.Entries.{has_word, places_of, word_at}
use Rattle.engine_pages.specs.declared.view.View.{View}
use Rattle.engine_pages.specs.Pages.{is_tree}
use Rattle.engine_pages.specs.Steps.{kept_at, seen_at}
use Rattle.dual_pointer.specs.Parts.{IsPointerPart, content_below, tree_content}
use Rattle.tree_walks.specs.Finding.{IsFoundBelow}
use Rattle.tree_walks.specs.Walks.{AreLedTo, CanWalk, HasWalked, KeepsMet, LiesInPage, OnlyTrees, OnlyWaysOn}
use Rattle.page_commit.specs.HeaderParts.{AreHeaders}
use Rattle.page_commit.specs.Keeping.{MeetsPointer}
use Rattle.page_commit.specs.Live.{entry_places, AreMet, ArePointersKept, ArePointersMet, IsLive, IsMetPointer, KeepsOnly}
use Rattle.page_commit.specs.Places.{ground, IsPointerIn}
use Rattle.page_commit.specs.Turning.{IsTreePointerOver}
use Rattle.page_commit.proofs.GrowLaws.{KnowsMore}
use Rattle.page_commit.proofs.HeaderLaws.{header_grown, no_head_pointer}
use Rattle.page_commit.proofs.KeepLaws.{kept_new, pointer_cases, pointer_has, pointer_old, pointer_parts, pointer_stays}
use Rattle.page_commit.proofs.KeepLaws.{same_pointer}
use Rattle.page_commit.proofs.PointerLaws.{has_pointer, pointer_word}
use Rattle.page_commit.proofs.RoomLaws.{room_same}
use Rattle.page_commit.proofs.TreePointers.{LiesBelow, any_place_of_word, any_pointer_here}
use Rattle.page_commit.proofs.WalkedLaws.{held_to, inside_only, live_grown, met_only, pointers_push}
use Rattle.tree_calls.specs.Keeping.{HasValue}
use Rattle.tree_calls.proofs.DoneLaws.{no_array}
use Rattle.tree_calls.proofs.TreeWalkLaws.{beside_trees, tree_headers, tree_knows_more, tree_points, tree_walked}
use Rattle.tree_calls.proofs.WalkedLaws.{ways_on}

-- a word that lies in its page lies in it
pub lies_so : (slots : ℕ) (x : At) (at : ℕ) → LiesInPage slots x at → LiesBelow slots x at
lies_so slots (Root r) at lies = tt
lies_so slots (In y) at lies = lies

-- what was found there is the part of a pointer that was met
pub below_met : (k : Key) (c : Content) (pointers : List Seen) (p : Seen) (slots : List ℕ) (v w : View) → CanWalk slots w
    → (f : IsFoundBelow k c pointers p v w) → IsMetPointer w p f.part
below_met k c pointers p slots v w can f = record {
  span = f.span;
  place = any_pointer_here w f.place f.span p.at can.agree can.declared (f.on).is lies;
  within = (f.on).within;
  bare = (f.on).bare;
  of = subst (λ (x : At). IsPointerPart w x f.span p.word f.part)
      (any_place_of_word w f.place f.span p.at can.agree can.declared (f.on).is lies) f.of;
  kind = inr (f.on).tree;
  stands = (f.on).stands;
  inside = f.inside;
  all = f.covers_all;
  says = λ q over. f.says q over
      ∙ ap (λ (b : Bool). cond b (content_below w.pages f.span p.word q) (tree_content w.pages f.span p.word q))
      (sym (no_array w.layout.decls (f.span).storage (f.on).tree));
}
  where
    lies : LiesBelow w.layout.slots f.place p.at
    lies = lies_so w.layout.slots f.place p.at (f.on).inside

module _ (sets new : Sets) (v w : View) (k : Key) (c : Content) (p : Seen) (live : IsLive sets v) (walk : HasWalked v w)
    (can : CanWalk new.holds w) (only : OnlyTrees v w) (keeps : KeepsMet sets.pointers sets.headers v w)
    (f : IsFoundBelow k c sets.pointers p v w) (reads : new.reads ≡ sets.reads)
    (meets : MeetsPointer p sets.pointers new.pointers) (headers : new.headers ≡ sets.headers)
    (writes : new.writes ≡ sets.writes) where
  more : KnowsMore v w
  more = tree_knows_more v w walk

  met : IsMetPointer w p f.part
  met = below_met k c sets.pointers p new.holds v w can f

  once_below : AreDistinct (places_of new.pointers)
  once_below = by_side meets
    where
      by_side : MeetsPointer p sets.pointers new.pointers → AreDistinct (places_of new.pointers)
      by_side (inl m) = subst (λ (l : List Seen). AreDistinct (places_of l)) (sym m.1) live.once
      by_side (inr m) =
          subst (λ (l : List Seen). AreDistinct (places_of l)) (sym m.1)
          (pointers_push sets.pointers p live.once (λ q has at.
          let there : word_at p.at sets.pointers ≡ Some q.word =
          ap (λ (n : ℕ). word_at n sets.pointers) (sym at) ∙ pointer_word sets.pointers q live.once has in
          let no : None ≡ Some q.word = sym m.0 ∙ there in absurd (cc)))

  cases : (q : Seen) → Contains new.pointers q → Contains sets.pointers q ⊎ (p ≡ q)
  cases q has =
      pointer_cases sets new v w p f.part live.decls can.agree can.trees more live.parts live.once met meets q has

  points_below : ArePointersMet new.pointers w
  points_below q has = elim (cases q has) [
    | inl old ↦ tree_points sets v w live keeps q old
    | inr same ↦ subst (λ (z : Seen). seen_at w.reads z.at ≡ Some z.word) same (f.on).met
  ]

  kept_below : ArePointersKept new.pointers w
  kept_below q has = elim (cases q has) [
    | inl old ↦ by_test q old (q.at == p.at) refl
    | inr same ↦ subst (λ (z : Seen). kept_at w.reads z.at ≡ Some z.word) same f.word_kept
  ]
    where
      by_test : (q : Seen) → Contains sets.pointers q → (b : Bool) → (q.at == p.at) ≡ b
          → kept_at w.reads q.at ≡ Some q.word
      by_test q old true hit =
          subst (λ (z : Seen). kept_at w.reads z.at ≡ Some z.word)
          (sym (same_pointer sets new v w p f.part live.decls can.agree can.trees more live.parts live.once met meets
          q old (eqb-true q.at p.at hit))) f.word_kept
      by_test q old false miss =
          f.words q.at (λ same. true≢false (sym (eq-eqb q.at p.at same) ∙ miss)) ∙ live.kept q old

  -- a header's word is another than the pointer's
  head_other : (h : Seen) → Contains sets.headers h → h.at ≡ p.at → ⊥
  head_other h has same =
      let r = (live.parts).headers h has in
      no_head_pointer (ground w) h r.0 met.span can.agree (header_grown v w h r.0 more r.2)
      (subst (λ (n : ℕ). IsPointerIn (ground w) met.span n) (sym same) met.place)

  heads_below : AreHeaders sets.headers w
  heads_below = record {
    once = (live.headers).once;
    met = λ h has. tree_headers sets v w live keeps h has;
    kept = λ h has. f.words h.at (λ same. head_other h has same) ∙ (live.headers).kept h has;
  }

  only_below : KeepsOnly new w
  only_below a n is = by_test (a == p.at) refl
    where
      old_word : has_word a sets.pointers ≡ true → has_word a new.pointers ≡ true
      old_word has =
          let q = any_is (λ (s : Seen). s.at == a) sets.pointers has in
          subst (λ (m : ℕ). has_word m new.pointers ≡ true) (eqb-true q.0.at a q.2)
          (has_pointer new.pointers q.0
          (pointer_old sets new v w p f.part live.decls can.agree can.trees more live.parts live.once met meets q.0 q.1))

      by_test : (b : Bool) → (a == p.at) ≡ b → (has_word a new.pointers ≡ true) ⊎ (has_word a new.headers ≡ true)
      by_test true hit =
          inl (subst (λ (m : ℕ). has_word m new.pointers ≡ true) (sym (eqb-true a p.at hit))
          (has_pointer new.pointers p
          (pointer_has sets new v w p f.part live.decls can.agree can.trees more live.parts live.once met meets)))
      by_test false miss =
          elim (live.only a n (sym (f.words a (λ same. true≢false (sym (eq-eqb a p.at same) ∙ miss))) ∙ is)) [
            | inl old ↦ inl (old_word old)
            | inr head ↦ inr (subst (λ (l : List Seen). has_word a l ≡ true) (sym headers) head)
          ]

  pub live_below : IsLive new w
  live_below = live_grown sets new v w live (tree_walked v w walk) more can record {
    parts = pointer_parts sets new v w p f.part live.decls can.agree can.trees more live.parts live.once met meets reads
        headers f.kept;
    places = subst (λ (l : List ReadEntry). AreDistinct (entry_places l)) (sym reads) live.places;
    once = once_below;
    writes = writes;
    met = subst (λ (l : List ReadEntry). AreMet l [] w) (sym reads)
        (met_only sets v w live more can.agree can.trees can.declared (beside_trees v w can.declared only));
    points = points_below;
    kept = kept_below;
    headers = subst (λ (l : List Seen). AreHeaders l w) (sym headers) heads_below;
    only = only_below;
    inside = inside_only sets v w live more can.declared (beside_trees v w can.declared only);
    room = room_same sets new reads headers live.room;
  }

  -- the pointer is on the way to the key
  point_over : IsTreePointerOver w k p.at
  point_over = record {
    place = f.place;
    span = f.span;
    is = (f.on).is;
    tree = subst (λ (i : ℕ). is_tree w.layout.decls i ≡ true) (sym (in_span-parts f.span k (f.on).over).0) (f.on).tree;
    over = (f.on).over;
  }

  pub value_below : OnlyWaysOn k v w → AreLedTo k v w → HasValue k c.value sets new v w
  value_below paths led = record {
    live = live_below;
    only = tree_walked v w walk;
    paths = ways_on k v w paths;
    held = held_to k sets.holds new.holds v w live.holds can.holds led;
    keeps = pointer_stays sets new v w p f.part live.decls can.agree can.trees more live.parts live.once met meets f.kept;
    touched = ap (λ (y : View). y.touched) walk.is;
    reads = inl reads;
    pointers = elim meets [ inl m ↦ inl m.1 | inr m ↦ inr (p, m.1, point_over) ];
    headers = inl headers;
    writes = writes;
    vouched = record {
      part = f.part;
      among = subst (λ (l : List Part). Contains l f.part) (sym f.kept) (kept_new v.seat.kept f.part);
      over = f.covers_all k (f.on).over;
      has = ap (λ (z : Content). z.value) f.has;
    };
  }
