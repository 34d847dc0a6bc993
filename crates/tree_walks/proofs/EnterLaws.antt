-- A slot is entered.
use Rattle.std.proofs.Common.{◌≡◌, ℕ, ◌+◌, ◌<◌, Bool, true, false, true≢false, eqb, eqb-true, eq-eqb, List, [], ◌∷◌, ◌++◌}
use Rattle.std.proofs.Common.{length, refl, sym, ap, ◌∙◌, subst, arith, inl, inr}
use Rattle.std.specs.Prelude.{◌||◌, Ok, Err}
use Rattle.std.proofs.lemmas.Bool.{or_cases, or_left, or_right}
use Rattle.lists.specs.Fronts.{front_refl}
use Rattle.serial_model.specs.declared.key.Key.{Key}
use Rattle.drop_core.specs.Table.{has_slot}
use Rattle.engine_pages.specs.declared.view.RefusalCause.{RefusalCause}
use Rattle.engine_pages.specs.declared.view.RefusalCause.TheVariants as causes
use Rattle.engine_pages.specs.declared.view.SetName.TheVariants.{Holds}
use Rattle.engine_pages.specs.declared.view.View.{View}
use Rattle.engine_pages.specs.Pointers.{WaysAgree}
use Rattle.engine_pages.specs.Slots.{entered}
use Rattle.engine_pages.specs.Steps.{kept_at, seen_at}
use Rattle.tree_walks.specs.Steps.{EntersSo}
use Rattle.tree_walks.specs.Walks.{AreLedTo, CanWalk, HasWalked}
use Rattle.tree_walks.proofs.LoadLaws.{trees_by}
use Rattle.tree_walks.proofs.StepLaws.{can_by, went_more, went_self}

push_any : (slots : List ℕ) (t q : ℕ) → has_slot (slots ++ t ∷ []) q ≡ has_slot (t ∷ slots) q
push_any [] t q = refl
push_any (s ∷ slots) t q =
    ap (λ (b : Bool). eqb s q || b) (push_any slots t q) ∙ swap (eqb s q) (eqb t q) (has_slot slots q)
  where
    swap : (a b c : Bool) → (a || (b || c)) ≡ (b || (a || c))
    swap true true c = refl
    swap true false c = refl
    swap false true c = refl
    swap false false c = refl

-- it is held already
pub enter_same : (t : ℕ) (slots : List ℕ) (v : View) → CanWalk slots v → has_slot slots t ≡ true
    → EntersSo t slots (Ok tt) v v
enter_same t slots v can held = record {
  went = went_more 0 1 slots v v (omega arith) (went_self slots v can);
  held = sym (can.holds t) ∙ held;
  only = λ q now was. absurd (true≢false (sym now ∙ was));
  ways = refl;
  seen = λ a. refl;
  cause = tt;
}

-- the holds are full
pub enter_full : (t : ℕ) (slots : List ℕ) (v : View) → CanWalk slots v → has_slot slots t ≡ false → length slots ≡ 128
    → EntersSo t slots (Err (causes.Wide Holds)) v v
enter_full t slots v can unheld full = record {
  went = went_more 0 1 slots v v (omega arith) (went_self slots v can);
  held = tt;
  only = λ q now was. absurd (true≢false (sym now ∙ was));
  ways = refl;
  seen = λ a. refl;
  cause = (refl, full, unheld);
}

-- no slot is held newly then
pub enter_led : (k : Key) (t : ℕ) (slots : List ℕ) (why : RefusalCause) (v w : View) → EntersSo t slots (Err why) v w
    → has_slot slots t ≡ false → AreLedTo k v w
enter_led k t slots why v w h unheld q now was =
    let held : has_slot w.grip.holds t ≡ true =
    subst (λ (i : ℕ). has_slot w.grip.holds i ≡ true) (h.only q now was) now in
    absurd (true≢false (sym ((h.went.can).holds t ∙ held) ∙ unheld))

walked_entered : (t : ℕ) (v : View) → HasWalked v (entered t v)
walked_entered t v = record {
  since = omega arith;
  drawn = front_refl v.history;
  seen = front_refl v.decided;
  parts = λ part has. inl has;
  held = λ q h. or_right (eqb t q) (has_slot v.grip.holds q) h;
  ways = λ x h. h;
  known = λ x h. h;
  moved = λ x h. h;
  inners = λ x h. h;
  pages = front_refl v.pages;
  leads = λ x h. h;
  is = refl;
}

-- it is held from then on
pub enter_new : (t : ℕ) (slots : List ℕ) (v w : View) → CanWalk slots v → t < v.layout.slots → w ≡ entered t v
    → EntersSo t (slots ++ t ∷ []) (Ok tt) v w
enter_new t slots v w can there is =
    let walk : HasWalked v w = subst (HasWalked v) (sym is) (walked_entered t v) in
    let late : CanWalk (slots ++ t ∷ []) w =
    can_by slots (slots ++ t ∷ []) v w walk
    (λ q. push_any slots t q
    ∙ (ap (λ (b : Bool). eqb t q || b) (can.holds q) ∙ ap (λ (z : View). has_slot z.grip.holds q) (sym is)))
    (λ q has. within q (eqb t q) refl (sym (push_any slots t q) ∙ has))
    (subst (λ (z : View). WaysAgree z.ways) (sym is) can.agree)
    (trees_by v w (ap (λ (z : View). z.layout) is) (ap (λ (z : View). z.known) is) (ap (λ (z : View). z.inners) is)
    (ap (λ (z : View). z.ways) is) can.trees) can in
    record {
      went = record {
        can = late;
        walked = walk;
        most = let e = ap (λ (z : View). z.steps) is in omega (arith, e);
        kept = ap (λ (z : View). z.seat.kept) is;
        words = λ a. ap (λ (z : View). kept_at z.reads a) is;
        met = λ a. inl (ap (λ (z : View). seen_at z.reads a) is);
      };
      held = ap (λ (z : View). has_slot z.grip.holds t) is ∙ or_left (eqb t t) (has_slot v.grip.holds t) (eq-eqb t t refl);
      only = λ q now was. only q (sym (ap (λ (z : View). has_slot z.grip.holds q) is) ∙ now) was;
      ways = ap (λ (z : View). z.ways) is;
      seen = λ a. ap (λ (z : View). seen_at z.reads a) is;
      cause = tt;
    }
  where
    within : (q : ℕ) (b : Bool) → eqb t q ≡ b → (eqb t q || has_slot slots q) ≡ true → q < v.layout.slots
    within q true same h = subst (λ i. i < v.layout.slots) (eqb-true t q same) there
    within q false other h = can.within q (subst (λ (b : Bool). (b || has_slot slots q) ≡ true) other h)

    only : (q : ℕ) → has_slot (t ∷ v.grip.holds) q ≡ true → has_slot v.grip.holds q ≡ false → q ≡ t
    only q now was = elim (or_cases (eqb t q) (has_slot v.grip.holds q) now) [
      | inl same ↦ sym (eqb-true t q same)
      | inr old ↦ absurd (true≢false (sym old ∙ was))
    ]
