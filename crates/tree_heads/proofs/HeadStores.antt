-- A word that no record has is stored in a leaf whose header the pass has locked: no act.
use Rattle.std.proofs.Common.{◌≡◌, ◌≢◌, inl, inr, ℕ, ◌+◌, ◌*◌, ◌<◌, ◌≤◌, Bool, true, false, true≢false, cond, eqb, eqb-true, eq-eqb}
use Rattle.std.proofs.Common.{List, [], ◌∷◌, length, get_or, set, refl, sym, ap, ◌∙◌, subst, arith, length-set, get_or-set_same, get_or-set_other}
use Rattle.std.specs.Prelude.{◌&&◌, ◌||◌, map, nat_le}
use Rattle.std.specs.List.{Contains}
use Rattle.std.proofs.lemmas.Bool.Decides.{nat_tests}
use Rattle.atomic_table.specs.Table.{Me, Allows}
use Rattle.lists.specs.Elements.{in_cases, in_head, in_none, in_tail}
use Rattle.lists.specs.Fronts.{front_refl}
use Rattle.serial_model.specs.declared.key.Key.{Key}
use Rattle.homes.specs.declared.places.Holder.{Holder}
use Rattle.homes.specs.declared.places.Holder.TheVariants.{Held}
use Rattle.drop_core.specs.declared.table.Page.TheVariants.{Leaf}
use Rattle.drop_core.specs.Table.{header_of, page_of}
use Rattle.engine_rule.specs.Sound.{IsSound}
use Rattle.engine_rule.specs.Stays.{Stays}
use Rattle.engine_pages.specs.declared.layout.Layout.{Layout}
use Rattle.engine_pages.specs.declared.view.Head.{Head}
use Rattle.engine_pages.specs.declared.view.View.{View}
use Rattle.engine_pages.specs.Layout.{page_at}
use Rattle.engine_pages.specs.Rule.{Shared, IsHead, Shows, is_spare, joint_of}
use Rattle.engine_pages.specs.Stays.{IsKnown}
use Rattle.engine_pages.specs.Views.{IsActive, seat_number}
use Rattle.engine_pages.proofs.Joint.{Laws, stays_none}
use Rattle.engine_pages.proofs.Looking.{seen_fits}
use Rattle.engine_pages.proofs.Looks.{same_joint}
use Rattle.engine_pages.proofs.Seats.{by_equal, is_at}
use Rattle.engine_pages.proofs.SlotSteps.{trees_same}
use Rattle.engine_pages.proofs.Turns.{Written, allows_at, written}
use Rattle.tree_heads.specs.Heads.{CanStore, head_stored, stored_in}
use Rattle.tree_heads.proofs.HeadSteps.{IsBeside, head_stride, records_beside, same_leaf, spare_high}
use Rattle.tree_heads.proofs.LeafSteps.{LeafStep, head_step}
use Rattle.tree_heads.proofs.TreeAt.{Says, at_head, known_shown}

-- a spare word is that of no record
pub spare_beside : (count i : ℕ) → is_spare count i ≡ true → IsBeside count i
spare_beside count i is = record {
  low = λ q. absurd (omega (arith, q, spare_high count i is));
  high = λ q. absurd (omega (arith, q, spare_high count i is));
  key = λ j less q. apart j 0 less (omega arith) (omega (arith, q));
  word = λ j less q. apart j 1 less (omega arith) (omega (arith, q));
  value = λ j less q. apart j 2 less (omega arith) (omega (arith, q));
}
  where
    apart : (j q : ℕ) → j < count → q ≤ 2 → i ≢ (16 + 3 * j) + q
    apart j q less low same = by_test (nat_le (16 + 3 * count) i) refl
      where
        by_test : (c : Bool) → nat_le (16 + 3 * count) i ≡ c → ⊥
        by_test true e = absurd (grind (arith, nat_tests))
        by_test false e = middle (nat_le 3 i) refl (nat_le i 5) refl
          where
            middle : (a : Bool) → nat_le 3 i ≡ a → (d : Bool) → nat_le i 5 ≡ d → ⊥
            middle true ea true eb = absurd (grind (arith, nat_tests))
            middle true ea false eb =
                true≢false (sym is ∙ (ap (λ z. (z && nat_le i 5) || nat_le (16 + 3 * count) i) ea
                ∙ (ap (λ z. z || nat_le (16 + 3 * count) i) eb ∙ e)))
            middle false ea d eb =
                true≢false (sym is ∙ (ap (λ z. (z && nat_le i 5) || nat_le (16 + 3 * count) i) ea ∙ e))

-- what a map gave comes of an element
pub in_mapped : {A B : Type 0} (f : A → B) (xs : List A) (y : B) → Contains (map f xs) y → (x : A) × Contains xs x × (f x ≡ y)
in_mapped f [] y has = absurd (in_none y has)
in_mapped f (x ∷ xs) y has = elim (in_cases y (f x) (map f xs) has) [
  | inl new ↦ (x, in_head x xs, new)
  | inr more ↦ let z = in_mapped f xs y more in (z.0, in_tail z.0 x xs z.1, z.2)
]

pub stores_spare : Laws → (l : Layout) (slots id : ℕ) (me : Me (Unit {0}) View) (t i value : ℕ) → IsActive me.0.role
    → CanStore me.0 t i
    → Allows (λ s. Shows l s.words s.views) slots id me (page_at l.slots t i) (λ _. value)
    (λ _ now. (now.1 ≡ me.1) × (now.0 ≡ head_stored t i value me.0))
stores_spare laws l slots id me t i value active can =
    allows_at laws l slots id me (page_at l.slots t i) (λ _. value) (λ v _ w. w ≡ head_stored t i value v) active
    (λ words views s b.
    let v = me.0 in
    let p = seat_number v.role in
    let m = s.story in
    let d = s.table in
    let x = can.head in
    let a = at_head l words views s id v x active b can.has in
    let at = page_at l.slots t i in
    let w : View = head_stored t i value v in
    let words' : List ℕ = set words at value in
    let within : t < l.slots = subst (λ y. y < l.slots) can.slot a.is.within in
    let index = can.index in
    let wr : Written words words' at value = written words at value (let all = b.sound.shown.long in omega arith) in
    let held : header_of d t ≡ Held p = ap (header_of d) (sym can.slot) ∙ a.is.locked in
    let there = ap s.trees (sym can.slot) ∙ a.is.there in
    let laid : page_of d t ≡ Leaf a.is.fence.keys =
    ap (page_of d) (sym can.slot) ∙ (a.is.leaf ∙ ap Leaf (sym a.is.keys)) in
    let spare : is_spare (length a.is.fence.keys) i ≡ true =
    ap (λ (q : List Key). is_spare (length q) i) a.is.keys ∙ can.spare in
    let high = spare_high (length a.is.fence.keys) i spare in
    let known : IsKnown d t = subst (λ y. IsKnown d y) can.slot a.known in
    let was : Says l words s t a.is.fence (Leaf a.is.fence.keys) =
    subst (Says l words s t a.is.fence) laid (b.sound.shown.treed t a.is.fence within (known_shown l words views s id v t b known) there) in
    let leaf : LeafStep l words words' s m d s.trees t i =
    same_leaf l words words' s t i within index wr.long wr.others known a.is.fence there laid
    (subst (Says l words' s t a.is.fence) (sym laid) (
      refl,
      wr.others (page_at l.slots t 0) (λ q. absurd (omega (arith, q, high))) ∙ was.1,
      records_beside l words words' s t i a.is.fence index (spare_beside (length a.is.fence.keys) i spare) wr.others was.2,
    )) in
    let joint = same_joint l s p w b.own.seat b.grip in
    head_stride laws l words views s id v active b t i (λ _. value) m d s.trees w (λ v _ w. w ≡ head_stored t i value v) record {
      leaf = leaf;
      sound = subst IsSound (sym joint) b.sound.joint;
      stays = subst (Stays p (joint_of l s)) (sym joint) (stays_none p (joint_of l s));
      trees-stay = trees_same p s;
      fits = seen_fits l m s.seats v w active b.fits refl refl refl refl refl refl refl refl refl refl refl b.fits.loaded refl refl
          b.fits.versions (front_refl v.history) (front_refl v.decided) b.fits.history b.fits.decided;
      seat = record { role = refl; made = refl; mine = refl; draws = refl; due = refl; marks = refl; stage = refl };
      part = record { grip = refl; ways = refl; drafts = refl; copies = refl; blanks = refl; pages = refl; leads = refl; fills = refl; moved = refl; sealed = refl; inners = refl; new_leaves = refl; new_inners = refl; shuts = refl };
      locks = record { role = refl; ways = refl; took = refl; gone = refl; touched = refl; blamed = refl; locks = refl };
      met = λ z has. inl has;
      spare = λ q holds other is. other (held_same (header_of d t) p q holds held);
      knows = b.pages.treed.known;
      heads = λ z has.
          let y = in_mapped (stored_in t i value) v.heads z has in
          subst (IsHead l words' d s.trees p) y.2
          (stored l words words' s p i value y.0 index (λ other was. head_step laws l words words' views s id v active b m d s.trees t i leaf w y.0 other was)
          wr held (b.pages.treed.heads p (is_at v.role active) y.0 y.1));
    } refl)
  where
    held_same : (h : Holder) (p o : ℕ) → h ≡ Held o → h ≡ Held p → o ≡ p
    held_same h p o a c = cc

    -- what is known of a header, where the word was stored
    stored : (l : Layout) (words words' : List ℕ) (s : Shared) (p i value : ℕ) (y : Head) → i < 64
        → (y.slot ≢ t → IsHead l words s.table s.trees p y → IsHead l words' s.table s.trees p y)
        → Written words words' (page_at l.slots t i) value → header_of s.table t ≡ Held p
        → IsHead l words s.table s.trees p y → IsHead l words' s.table s.trees p (stored_in t i value y)
    stored l words words' s p i value y index elsewhere wr held was = by_slot (eqb y.slot t) refl
      where
        as_is : (c : Bool) → eqb y.slot t ≡ c → record y { words = cond c (set y.words i value) y.words } ≡ stored_in t i value y
        as_is c e = ap (λ z. record y { words = cond z (set y.words i value) y.words }) (sym e)

        by_slot : (c : Bool) → eqb y.slot t ≡ c → IsHead l words' s.table s.trees p (stored_in t i value y)
        by_slot false e =
            subst (IsHead l words' s.table s.trees p) (as_is false e) (elsewhere (λ same. true≢false (sym (eq-eqb y.slot t same) ∙ e)) was)
        by_slot true e =
            subst (IsHead l words' s.table s.trees p) (as_is true e) record {
              within = was.within;
              locked = was.locked;
              leaf = was.leaf;
              fence = was.fence;
              there = was.there;
              keys = was.keys;
              long = length-set y.words i value ∙ was.long;
              is = λ j less is. stored_word j less is (eqb-true y.slot t e);
            }
          where
            stored_word : (j : ℕ) → j < 64 → is_spare (length y.keys) j ≡ true → y.slot ≡ t
                → get_or words' (page_at l.slots y.slot j) 0 ≡ get_or (set y.words i value) j 0
            stored_word j less is slot = by_equal j i
                (λ k. k ≡ j → get_or words' (page_at l.slots y.slot k) 0 ≡ get_or (set y.words i value) k 0)
                (λ same.
                ap (λ z. get_or words' (page_at l.slots z i) 0) slot ∙ (wr.here ∙ sym (get_or-set_same y.words i value 0 (let long = was.long in omega (arith, index, long)))))
                (λ other _.
                wr.others (page_at l.slots y.slot j) (λ q. other (omega (arith, q, slot)))
                ∙ (was.is j less is ∙ sym (get_or-set_other y.words i j value 0 other))) refl
