-- What the slots that a transaction holds are until it ends, and that all are left then.
use Rattle.std.proofs.Common.{◌≡◌, ◌≢◌, ℕ, zero, suc, ◌+◌, ◌<◌, ◌≤◌, Bool, true, false, true≢false, List, [], ◌∷◌, length, drop, get_or}
use Rattle.std.proofs.Common.{refl, sym, ap, ◌∙◌, subst, arith, cond}
use Rattle.std.specs.Prelude.{not, ◌==◌, ◌||◌, Contains}
use Rattle.std.specs.List.{AllByRecursion}
use Rattle.std.proofs.lemmas.Bool.{eq-eqb, ne_eqb, eqb-true, or_from, or_left, or_right}
use Rattle.lists.specs.Each.{AreDistinct}
use Rattle.lists.specs.Elements.{in_filter}
use Rattle.drop_core.specs.Event.{without}
use Rattle.drop_core.specs.Table.{has_slot}
use Rattle.drop_core.specs.declared.grip.Grip.{Grip}
use Rattle.engine_rule.specs.JointState.{keeps_word}
use Rattle.engine_pages.specs.Pages.{is_tree}
use Rattle.engine_pages.specs.Agreement.{KnownAgree, TreesAgree}
use Rattle.engine_pages.specs.declared.layout.Layout.{Layout}
use Rattle.engine_pages.specs.declared.view.Inner.{Inner}
use Rattle.engine_pages.specs.declared.view.Known.{Known}
use Rattle.engine_pages.specs.declared.view.Moved.{Moved}
use Rattle.engine_pages.specs.declared.view.Shut.{Shut}
use Rattle.engine_pages.specs.declared.view.View.{View}
use Rattle.engine_pages.specs.declared.view.Way.{Way}
use Rattle.engine_pages.specs.Pointers.{WaysAgree}
use Rattle.engine_pages.specs.Slots.{left, other_ways}
use Rattle.engine_pages.specs.Views.{IsActive}
use Rattle.page_commit.specs.Live.{HasHolds}
use Rattle.page_commit.specs.Steps.{HasLeft}
use Rattle.page_commit.proofs.Lists.{drop_one, drop_all}

-- ---- steps that don't touch pages

-- what the pass knows of pages is the same
pub record SamePages (v w : View) : Type 0 where
  pub layout : w.layout ≡ v.layout
  pub grip : w.grip ≡ v.grip
  pub ways : w.ways ≡ v.ways
  pub known : w.known ≡ v.known
  pub moved : w.moved ≡ v.moved
  pub branches : w.inners ≡ v.inners
  pub drafts : w.drafts ≡ v.drafts
  pub copies : w.copies ≡ v.copies
  pub blanks : w.blanks ≡ v.blanks
  pub leaves : w.new_leaves ≡ v.new_leaves
  pub inners : w.new_inners ≡ v.new_inners
  pub heads : w.heads ≡ v.heads

pub same_then : (u v w : View) → SamePages u v → SamePages v w → SamePages u w
same_then u v w a b = record {
  layout = b.layout ∙ a.layout;
  grip = b.grip ∙ a.grip;
  ways = b.ways ∙ a.ways;
  known = b.known ∙ a.known;
  moved = b.moved ∙ a.moved;
  branches = b.branches ∙ a.branches;
  drafts = b.drafts ∙ a.drafts;
  copies = b.copies ∙ a.copies;
  blanks = b.blanks ∙ a.blanks;
  leaves = b.leaves ∙ a.leaves;
  inners = b.inners ∙ a.inners;
  heads = b.heads ∙ a.heads;
}

pub holds_stay : (slots : List ℕ) (v w : View) → SamePages v w → HasHolds slots v → HasHolds slots w
holds_stay slots v w same h = record {
  holds = λ s. h.holds s ∙ ap (λ (g : Grip). has_slot g.holds s) (sym same.grip);
  within = λ s has. subst (λ (l : Layout). s < l.slots) (sym same.layout) (h.within s has);
  made = ap (λ (g : Grip). g.made) same.grip ∙ h.made;
  taken = ap (λ (g : Grip). g.taken) same.grip ∙ h.taken;
  drafts = same.drafts ∙ h.drafts;
  copies = same.copies ∙ h.copies;
  blanks = same.blanks ∙ h.blanks;
  leaves = same.leaves ∙ h.leaves;
  inners = same.inners ∙ h.inners;
  heads = same.heads ∙ h.heads;
}

-- what it knows of pages of trees agrees still
pub trees_stay : (v w : View) → SamePages v w → TreesAgree v → TreesAgree w
trees_stay v w same a = record {
  known = subst KnownAgree (sym same.known) a.known;
  inners = λ x y hx hy. a.inners x y (inner x hx) (inner y hy);
  apart = λ x y hx hy. a.apart x y (subst (λ (l : List Known). Contains l x) same.known hx) (inner y hy);
  spans = λ x y hx hy one tree. a.spans x y (subst (λ (l : List Way). Contains l x) same.ways hx)
      (subst (λ (l : List Way). Contains l y) same.ways hy) one
      (subst (λ (l : Layout). is_tree l.decls x.span.storage ≡ true) same.layout tree);
}
  where
    inner : (x : Inner) → Contains w.inners x → Contains v.inners x
    inner x has = subst (λ (l : List Inner). Contains l x) same.branches has

-- and with a slot less
trees_left : (t : ℕ) (v : View) → TreesAgree v → TreesAgree (left t v)
trees_left t v a = record {
  known = λ x y hx hy. a.known x y (in_filter (λ (z : Known). not (z.slot == t)) x v.known hx)
      (in_filter (λ (z : Known). not (z.slot == t)) y v.known hy);
  inners = λ x y hx hy. a.inners x y (in_filter (λ (z : Inner). not (z.slot == t)) x v.inners hx)
      (in_filter (λ (z : Inner). not (z.slot == t)) y v.inners hy);
  apart = λ x y hx hy. a.apart x y (in_filter (λ (z : Known). not (z.slot == t)) x v.known hx)
      (in_filter (λ (z : Inner). not (z.slot == t)) y v.inners hy);
  spans = λ x y hx hy. a.spans x y (in_filter (λ (z : Way). not (z.slot == t)) x v.ways hx)
      (in_filter (λ (z : Way). not (z.slot == t)) y v.ways hy);
}

-- ---- leaving

-- the first of these slots are left
pub record IsLeaving (slots : List ℕ) (v w : View) (done : ℕ) : Type 0 where
  pub steps : ℕ
  pub holds : List ℕ
  pub ways : List Way
  pub known : List Known
  pub moved : List Moved
  pub inners : List Inner
  pub shuts : List Shut
  pub gone : List ℕ
  pub agree : WaysAgree v.ways → WaysAgree ways
  pub trees : TreesAgree v → TreesAgree w
  pub are : (s : ℕ) → has_slot (drop done slots) s ≡ has_slot holds s
  pub is : w ≡ record v {
    steps = steps;
    grip = record v.grip { holds = holds };
    ways = ways;
    known = known;
    moved = moved;
    inners = inners;
    shuts = shuts;
    gone = gone;
  }

pub starts_leaving : (slots : List ℕ) (v : View) → HasHolds slots v → IsLeaving slots v v 0
starts_leaving slots v h = record {
  steps = v.steps;
  holds = v.grip.holds;
  ways = v.ways;
  known = v.known;
  moved = v.moved;
  inners = v.inners;
  shuts = v.shuts;
  gone = v.gone;
  agree = λ are. are;
  trees = λ are. are;
  are = λ s. by_list slots s (h.holds s);
  is = refl;
}
  where
    by_list : (l : List ℕ) (s : ℕ) → has_slot l s ≡ has_slot v.grip.holds s → has_slot (drop 0 l) s ≡ has_slot v.grip.holds s
    by_list [] s same = same
    by_list (x ∷ l) s same = same

-- a slot of these is none of those behind it
all_other : (s : ℕ) (l : List ℕ) → AllByRecursion (λ q. s ≢ q) l → has_slot l s ≡ false
all_other s [] all = refl
all_other s (x ∷ l) all = or_from (x == s) (has_slot l s) (ne_eqb x s (λ e. all.0 (sym e))) (all_other s l all.1)

distinct_drop : (l : List ℕ) (i : ℕ) → AreDistinct l → AreDistinct (drop i l)
distinct_drop [] zero are = are
distinct_drop [] (suc i) are = are
distinct_drop (x ∷ l) zero are = are
distinct_drop (x ∷ l) (suc i) are = distinct_drop l i are.1

without_is : (l : List ℕ) (t s : ℕ) → has_slot (without l t) s ≡ cond (t == s) false (has_slot l s)
without_is [] t s = by_test (t == s)
  where
    by_test : (b : Bool) → false ≡ cond b false false
    by_test true = refl
    by_test false = refl
without_is (x ∷ l) t s = by_test (x == t) refl (t == s) refl (without_is l t s)
  where
    by_test : (b : Bool) → (x == t) ≡ b → (c : Bool) → (t == s) ≡ c
        → has_slot (without l t) s ≡ cond (t == s) false (has_slot l s)
        → has_slot (cond (not b) (x ∷ without l t) (without l t)) s ≡ cond (t == s) false ((x == s) || has_slot l s)
    by_test true here true same rest =
        rest ∙ (ap (λ d. cond d false (has_slot l s)) same ∙ sym (ap (λ d. cond d false ((x == s) || has_slot l s)) same))
    by_test true here false apart rest =
        let other : (x == s) ≡ false = ap (λ n. n == s) (eqb-true x t here) ∙ apart in
        rest ∙ (ap (λ d. cond d false (has_slot l s)) apart
        ∙ sym (ap (λ d. cond d false ((x == s) || has_slot l s)) apart ∙ ap (λ d. d || has_slot l s) other))
    by_test false here true same rest =
        let other : (x == s) ≡ false = sym (ap (λ n. x == n) (eqb-true t s same)) ∙ here in
        ap (λ d. d || has_slot (without l t) s) other
        ∙ (rest ∙ (ap (λ d. cond d false (has_slot l s)) same ∙ sym (ap (λ d. cond d false ((x == s) || has_slot l s)) same)))
    by_test false here false apart rest =
        ap (λ d. (x == s) || d) (rest ∙ ap (λ d. cond d false (has_slot l s)) apart)
        ∙ sym (ap (λ d. cond d false ((x == s) || has_slot l s)) apart)

agree_fewer : (t : ℕ) (ways : List Way) → WaysAgree ways → WaysAgree (other_ways t ways)
agree_fewer t ways are a b has has' =
    are a b (in_filter (λ (x : Way). not (x.slot == t)) a ways has) (in_filter (λ (x : Way). not (x.slot == t)) b ways has')

pub leave_active : (slots : List ℕ) (v w : View) (done : ℕ) → IsActive v.role → IsLeaving slots v w done → IsActive w.role
leave_active slots v w done active p = subst IsActive (sym (ap (λ (y : View). y.role) p.is)) active

slot_at : (l : List ℕ) (i d : ℕ) → i < length l → has_slot l (get_or l i d) ≡ true
slot_at [] i d lt = absurd (omega arith)
slot_at (x ∷ l) zero d lt = or_left (x == x) (has_slot l x) (eq-eqb x x refl)
slot_at (x ∷ l) (suc i) d lt =
    or_right (x == get_or l i d) (has_slot l (get_or l i d)) (slot_at l i d (omega arith))

pub leave_within : (slots : List ℕ) (v w : View) (done d : ℕ) → HasHolds slots v → IsLeaving slots v w done
    → done < length slots → get_or slots done d < w.layout.slots
leave_within slots v w done d h p lt =
    subst (λ (y : View). get_or slots done d < y.layout.slots) (sym p.is) (h.within (get_or slots done d) (slot_at slots done d lt))

pub leave_held : (slots : List ℕ) (v w : View) (done d : ℕ) → IsLeaving slots v w done → done < length slots
    → has_slot w.grip.holds (get_or slots done d) ≡ true
leave_held slots v w done d p lt =
    let t : ℕ = get_or slots done d in
    ap (λ (y : View). has_slot y.grip.holds t) p.is
    ∙ (sym (p.are t) ∙ (ap (λ l. has_slot l t) (drop_one slots done d lt)
    ∙ or_left (t == t) (has_slot (drop (done + 1) slots) t) (eq-eqb t t refl)))

pub leave_unkept : (slots : List ℕ) (v w : View) (done t : ℕ) → IsLeaving slots v w done → v.seat.kept ≡ []
    → keeps_word w.seat.kept t ≡ false
leave_unkept slots v w done t p none =
    ap (λ (y : View). keeps_word y.seat.kept t) p.is ∙ ap (λ l. keeps_word l t) none

pub left_one : (slots : List ℕ) (v w x : View) (done d : ℕ) → AreDistinct slots → IsLeaving slots v w done
    → done < length slots → x ≡ left (get_or slots done d) w → IsLeaving slots v x (done + 1)
left_one slots v w x done d apart p lt is =
    let t : ℕ = get_or slots done d in
    let u : View = record v {
      steps = p.steps;
      grip = record v.grip { holds = p.holds };
      ways = p.ways;
      known = p.known;
      moved = p.moved;
      inners = p.inners;
      shuts = p.shuts;
      gone = p.gone;
    } in
    let y : View = left t u in
    let behind : has_slot (drop (done + 1) slots) t ≡ false =
    all_other t (drop (done + 1) slots) (subst AreDistinct (drop_one slots done d lt) (distinct_drop slots done apart)).0
    in record {
      steps = y.steps;
      holds = y.grip.holds;
      ways = y.ways;
      known = y.known;
      moved = y.moved;
      inners = y.inners;
      shuts = y.shuts;
      gone = y.gone;
      agree = λ are. agree_fewer t p.ways (p.agree are);
      trees = λ are. subst TreesAgree (sym is) (trees_left t w (p.trees are));
      are = λ s. by_slot s (t == s) refl behind
          (sym (ap (λ l. has_slot l s) (drop_one slots done d lt)) ∙ p.are s);
      is = is ∙ ap (left t) p.is;
    }
  where
    by_slot : (s : ℕ) (b : Bool) → (get_or slots done d == s) ≡ b
        → has_slot (drop (done + 1) slots) (get_or slots done d) ≡ false
        → ((get_or slots done d == s) || has_slot (drop (done + 1) slots) s) ≡ has_slot p.holds s
        → has_slot (drop (done + 1) slots) s ≡ has_slot (without p.holds (get_or slots done d)) s
    by_slot s true same behind was =
        subst (λ n. has_slot (drop (done + 1) slots) n ≡ false) (eqb-true (get_or slots done d) s same) behind
        ∙ sym (without_is p.holds (get_or slots done d) s ∙ ap (λ c. cond c false (has_slot p.holds s)) same)
    by_slot s false other behind was =
        sym (ap (λ c. c || has_slot (drop (done + 1) slots) s) other)
        ∙ (was ∙ sym (without_is p.holds (get_or slots done d) s ∙ ap (λ c. cond c false (has_slot p.holds s)) other))

none_left : (l : List ℕ) → ((s : ℕ) → false ≡ has_slot l s) → l ≡ []
none_left [] none = refl
none_left (x ∷ l) none = absurd (true≢false (sym (or_left (x == x) (has_slot l x) (eq-eqb x x refl)) ∙ sym (none x)))

pub left_all : (slots : List ℕ) (v w : View) (done : ℕ) → IsLeaving slots v w done → length slots ≤ done → HasLeft v w
left_all slots v w done p le =
    let none : p.holds ≡ [] = none_left p.holds (λ s. sym (ap (λ l. has_slot l s) (drop_all slots done le)) ∙ p.are s) in
    record {
      steps = p.steps;
      ways = p.ways;
      known = p.known;
      moved = p.moved;
      inners = p.inners;
      shuts = p.shuts;
      gone = p.gone;
      agree = p.agree;
      trees = p.trees;
      is = p.is ∙ ap (λ l. with_holds l) none;
    }
  where
    with_holds : List ℕ → View
    with_holds l = record v {
      steps = p.steps;
      grip = record v.grip { holds = l };
      ways = p.ways;
      known = p.known;
      moved = p.moved;
      inners = p.inners;
      shuts = p.shuts;
      gone = p.gone;
    }

-- ---- what is left

pub left_holds : (slots : List ℕ) (v w : View) → HasHolds slots v → HasLeft v w → HasHolds [] w
left_holds slots v w h l = record {
  holds = λ s. sym (ap (λ (y : View). has_slot y.grip.holds s) l.is);
  within = λ s has. absurd (true≢false (sym has));
  made = ap (λ (y : View). y.grip.made) l.is ∙ h.made;
  taken = ap (λ (y : View). y.grip.taken) l.is ∙ h.taken;
  drafts = ap (λ (y : View). y.drafts) l.is ∙ h.drafts;
  copies = ap (λ (y : View). y.copies) l.is ∙ h.copies;
  blanks = ap (λ (y : View). y.blanks) l.is ∙ h.blanks;
  leaves = ap (λ (y : View). y.new_leaves) l.is ∙ h.leaves;
  inners = ap (λ (y : View). y.new_inners) l.is ∙ h.inners;
  heads = ap (λ (y : View). y.heads) l.is ∙ h.heads;
}

pub left_trees : (v w : View) → TreesAgree v → HasLeft v w → TreesAgree w
left_trees v w are l = l.trees are

pub left_agree : (v w : View) → WaysAgree v.ways → HasLeft v w → WaysAgree w.ways
left_agree v w are l = subst WaysAgree (sym (ap (λ (y : View). y.ways) l.is)) (l.agree are)

pub leaves_steps : (slots : List ℕ) (v w x : View) (done d : ℕ) → w.steps ≡ v.steps + done
    → x ≡ left (get_or slots done d) w → x.steps ≡ v.steps + (done + 1)
leaves_steps slots v w x done d was is =
    let now : x.steps ≡ w.steps + 1 = ap (λ (y : View). y.steps) is in omega (arith, was, now)
