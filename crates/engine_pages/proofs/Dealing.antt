-- What an own step leaves of who is in the way.
use Rattle.std.proofs.Common.{◌≡◌, ◌⊎◌, inl, inr, ℕ, suc, ◌+◌, ◌*◌, ◌<◌, ◌≤◌, ◌^◌, true, false, true≢false}
use Rattle.std.proofs.Common.{eqb, eqb-true, eq-eqb, List, get_or, refl, sym, ap, ◌∙◌, subst, arith}
use Rattle.std.specs.Prelude.{◌&&◌}
use Rattle.std.specs.List.{Contains}
use Rattle.std.proofs.lemmas.Bool.{and_from, cases_Bool}
use Rattle.lists.specs.Elements.{any_in}
use Rattle.serial_model.specs.declared.key.Key.{Key}
use Rattle.homes.specs.declared.places.Home.TheVariants.{InSlot}
use Rattle.homes.specs.declared.places.Spot.{Spot}
use Rattle.homes.specs.Homes.{has_key, same_key, same_spot}
use Rattle.homes.specs.Laws.{same_key-self, same_spot-self}
use Rattle.commit_core.specs.declared.seat.Seat.{Seat}
use Rattle.commit_core.specs.Places.{home_of}
use Rattle.drop_core.specs.Table.{has_slot}
use Rattle.views.specs.Changes.{each_at}
use Rattle.engine_pages.specs.declared.layout.Layout.{Layout}
use Rattle.engine_pages.specs.declared.view.Read.{Read}
use Rattle.engine_pages.specs.declared.view.Took.{Took}
use Rattle.engine_pages.specs.declared.view.Touch.{Touch}
use Rattle.engine_pages.specs.declared.view.View.{View}
use Rattle.engine_pages.specs.declared.view.Way.{Way}
use Rattle.engine_pages.specs.Layout.{page_at}
use Rattle.engine_pages.specs.Records.{IsRecordAt, IsRecordIn}
use Rattle.engine_pages.specs.Rule.{Shared, RecordStands, Faces}
use Rattle.engine_pages.specs.Touches.{AreBlamed, IsFacing, Other, Touched, has_took}
use Rattle.engine_pages.specs.Views.{seat_number}
use Rattle.engine_pages.proofs.Facing.{Deals, IsNoted, facing_load, facing_other, stands_by, takes_same}
use Rattle.engine_pages.proofs.Leaves.{held_by}
use Rattle.engine_pages.proofs.Turns.{Begins}

-- The view has the same locks, and met nobody since.
pub record SameLocks (v w : View) : Type 0 where
  pub role : w.role ≡ v.role
  pub ways : w.ways ≡ v.ways
  pub took : w.took ≡ v.took
  pub gone : w.gone ≡ v.gone
  pub touched : w.touched ≡ v.touched
  pub blamed : w.blamed ≡ v.blamed
  pub locks : w.seat.locks ≡ v.seat.locks

-- what a view of a seat faces, told of its parts
pub faces_as : (l : Layout) (words : List ℕ) (views : List View) (v w : View) (worker : ℕ) → SameLocks v w
    → IsFacing l words (Touched views) (suc worker) v.ways v.took w.reads v.gone
    → IsFacing l words (Touched views) (suc worker) w.ways w.took w.reads w.gone
faces_as l words views v w worker same f =
    let took : ℕ → Key → Type 0 = Touched views in
    subst (λ (z : List ℕ). IsFacing l words took (suc worker) w.ways w.took w.reads z) (sym same.gone)
    (subst (λ (z : List Took). IsFacing l words took (suc worker) w.ways z w.reads v.gone) (sym same.took)
    (subst (λ (z : List Way). IsFacing l words took (suc worker) z v.took w.reads v.gone) (sym same.ways) f))

module _ (l : Layout) (words : List ℕ) (views : List View) (s : Shared) (id : ℕ) (v : View)
    (b : Begins l words views s id v) where
  abbrev p : ℕ
  p = seat_number v.role

  -- a record that the pass has a way to
  pub record_here : (k : Key) (x : Spot) (at : ℕ) → IsRecordAt v k x at → IsRecordIn l.decls l.slots v.ways k x at
  record_here k x at is = subst (λ (y : Layout). IsRecordIn y.decls y.slots v.ways k x at) b.own.layout is

  pub stands_at : (k : Key) (x : Spot) (at : ℕ) → IsRecordIn l.decls l.slots v.ways k x at → RecordStands l s k x at
  stands_at k x at is = stands_by l words s v k x at b.pages is

  -- whom it faces, and met
  pub faces : Faces l words views v
  faces = each_at (Faces l words views) views id v b.sound.touching.facing b.at

  pub blamed : AreBlamed (Touched views) v.blamed
  blamed = each_at (λ u. AreBlamed (Touched views) u.blamed) views id v b.sound.touching.blamed b.at

  -- a lock that the seat has of a key that stands there is one that the view has there
  pub own_took : (k : Key) (x : Spot) → home_of s.story.homes k ≡ InSlot x → has_key v.seat.locks k ≡ true
      → has_took v.took k x ≡ true
  own_took k x here has =
      let t = b.own.locked k has in
      let held = b.own.took t.0 t.1 in
      let homes : InSlot held.0 ≡ InSlot x = sym held.1.home ∙ (ap (home_of s.story.homes) t.2 ∙ here) in
      let place : held.0 ≡ x = cc in
      any_in (λ (z : Took). same_key z.key k && same_spot z.spot x) v.took t.0 t.1
      (and_from (same_key (t.0).key k) (same_spot (t.0).spot x)
      (subst (λ (q : Key). same_key (t.0).key q ≡ true) t.2 (same_key-self (t.0).key))
      (subst (λ (y : Spot). same_spot (t.0).spot y ≡ true) (held.1.spot ∙ place) (same_spot-self (t.0).spot)))

  -- so a lock at a key's home is that, or another seat's
  pub lock_there : (k : Key) (x : Spot) (at : ℕ) → RecordStands l s k x at → home_of s.story.homes k ≡ InSlot x
      → 2 ^ 60 ≤ get_or words at 0 → (has_took v.took k x ≡ true) ⊎ Other (Touched views) p k
  lock_there k x at r here high =
      let q = held_by l words views s b.sound k x at r here high in
      elim (cases_Bool (eqb q.0 p)) [
        | inl same ↦ inl (own_took k x here
            (subst (λ (z : Seat). has_key z.locks k ≡ true) (sym b.own.seat)
            (subst (λ y. has_key (s.seats y).locks k ≡ true) (eqb-true q.0 p same) q.2)))
        | inr apart ↦ inr (record {
          by = q.0;
          apart = λ e. true≢false (sym (eq-eqb q.0 p e) ∙ apart);
          taken = b.sound.touching.taken q.0 k q.1 q.2;
        })
      ]

  -- ---- steps at no record's word

  -- no record's word changes, and nothing is met
  pub rests : (words' : List ℕ) (w : View) → SameLocks v w → w.reads ≡ v.reads
      → ((k : Key) (x : Spot) (at : ℕ) → RecordStands l s k x at → get_or words' at 0 ≡ get_or words at 0)
      → Deals l words words' s p views v w
  rests words' w same reads still = record {
    touched = λ q k. omega (arith, takes_same q k v w same.touched);
    locks = λ k has. inl (ap (λ (x : List Key). has_key x k) (sym same.locks) ∙ has);
    changes = λ k x at is. inl (still k x at is);
    facing = λ worker is.
        faces_as l words' views v w worker same
        (subst (λ (z : List Read). IsFacing l words' (Touched views) (suc worker) v.ways v.took z v.gone) (sym reads)
        (facing_other l words words' (Touched views) (Touched views) (suc worker) v.ways v.took v.reads v.gone (λ q k has. has)
        (λ k x at there. inl (still k x at (stands_at k x at there))) (faces worker (sym same.role ∙ is))));
    blamed = subst (λ (z : List Touch). AreBlamed (Touched views) z) (sym same.blamed) blamed;
  }

  -- so where no word of a page changes
  pub rests_low : (words' : List ℕ) (w : View) → SameLocks v w → w.reads ≡ v.reads
      → ((j : ℕ) → 32 + l.slots ≤ j → get_or words' j 0 ≡ get_or words j 0) → Deals l words words' s p views v w
  rests_low words' w same reads low =
      rests words' w same reads (λ k x at is.
      low at (let word : at ≡ page_at l.slots x.slot (2 * x.index) = is.word in omega arith))

  -- and where no word does
  pub rests_all : (w : View) → SameLocks v w → w.reads ≡ v.reads → Deals l words words s p views v w
  rests_all w same reads = rests words w same reads (λ k x at is. refl)

  -- ---- loads

  -- where a record is found, its two words are in a page that the pass has a way to
  pub way_there : (k : Key) (x : Spot) (at : ℕ) → IsRecordIn l.decls l.slots v.ways k x at → (j : ℕ) → at ≤ j → j ≤ at + 1
      → (t i : ℕ) → t < l.slots → i < 64 → j ≡ page_at l.slots t i → has_slot v.gone t ≡ false
      → (y : Way) × Contains v.ways y × (y.slot ≡ t)
  way_there k x at is j from to t i less few word here =
      let place : at ≡ page_at l.slots x.slot (2 * x.index) = is.word in
      let index : x.index < 32 = is.index in
      let same : x.slot ≡ t = omega arith in (is.way, is.has, is.slot ∙ same)

  -- a word is met as it stands
  pub meets : (w : View) (at : ℕ) → SameLocks v w → IsNoted v.reads w.reads at (get_or words at 0)
      → ((t i : ℕ) → t < l.slots → i < 64 → at ≡ page_at l.slots t i → has_slot v.gone t ≡ false
      → (y : Way) × Contains v.ways y × (y.slot ≡ t))
      → Deals l words words s p views v w
  meets w at same note page = record {
    touched = λ q k. omega (arith, takes_same q k v w same.touched);
    locks = λ k has. inl (ap (λ (x : List Key). has_key x k) (sym same.locks) ∙ has);
    changes = λ k x j is. inl refl;
    facing = λ worker is.
        faces_as l words views v w worker same
        (facing_load l words (Touched views) (suc worker) v.ways v.took v.reads v.gone at (faces worker (sym same.role ∙ is))
        w.reads note page);
    blamed = subst (λ (z : List Touch). AreBlamed (Touched views) z) (sym same.blamed) blamed;
  }
