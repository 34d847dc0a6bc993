-- What it comes to that pages are put in one after another, down to the leaf.
use Rattle.std.proofs.Common.{◌≡◌, ◌≢◌, ℕ, zero, suc, ◌+◌, ◌*◌, ◌<◌, ◌≤◌, Bool, true, false, true≢false, eqb, eqb-true, eq-eqb}
use Rattle.std.proofs.Common.{List, refl, sym, ap, ◌∙◌, subst, arith}
use Rattle.std.specs.Prelude.{Result, Ok, Err, OnOk}
use Rattle.std.proofs.Math.Nat.{suc-mul}
use Rattle.std.proofs.lemmas.Nat.{mul-le}
use Rattle.serial_model.specs.declared.key.Key.{Key}
use Rattle.drop_core.specs.Table.{has_slot}
use Rattle.tx_sets.specs.declared.seen.Seen.{Seen}
use Rattle.engine_pages.specs.declared.layout.Layout.{Layout}
use Rattle.engine_pages.specs.declared.view.RefusalCause.{RefusalCause}
use Rattle.engine_pages.specs.declared.view.View.{View}
use Rattle.tree_walks.specs.declared.ways.Bare.{Bare}
use Rattle.tree_walks.specs.declared.ways.End.{End}
use Rattle.tree_walks.specs.declared.ways.End.TheVariants as ends
use Rattle.tree_walks.specs.declared.ways.Leaf.{Leaf}
use Rattle.tree_walks.specs.Walks.{walk_steps, HasWalked}
use Rattle.tree_walks.specs.Ways.{HasCome, IsBareOn, IsLeafOn}
use Rattle.tree_walks.proofs.StepLaws.{layout_stays}
use Rattle.tree_making.specs.Making.{page_steps, way_steps, MakesSo}
use Rattle.tree_making.specs.Pages.{HoldsMore}
use Rattle.tree_making.specs.Rounds.{is_free, unheld}
use Rattle.tree_making.proofs.BringLaws.{worked_more}
use Rattle.tree_making.proofs.MakeLaws.{makes_behind, makes_refused}

-- ---- slots that aren't held

free_less : (a b : Bool) → (a ≡ true → b ≡ true) → is_free b ≤ is_free a
free_less true true more = omega arith
free_less true false more = absurd (true≢false (sym (more refl)))
free_less false true more = omega arith
free_less false false more = omega arith

unheld_less : (n : ℕ) (old new : List ℕ) → ((t : ℕ) → has_slot old t ≡ true → has_slot new t ≡ true)
    → unheld n new ≤ unheld n old
unheld_less zero old new more = omega arith
unheld_less (suc n) old new more =
    let here = free_less (has_slot old n) (has_slot new n) (more n) in
    let rest = unheld_less n old new more in omega (arith, here, rest)

-- one slot more is held
unheld_more : (n : ℕ) (old new : List ℕ) (t : ℕ) → ((q : ℕ) → has_slot old q ≡ true → has_slot new q ≡ true) → t < n
    → has_slot old t ≡ false → has_slot new t ≡ true → unheld n new + 1 ≤ unheld n old
unheld_more zero old new t more less was now = absurd (omega (arith, less))
unheld_more (suc n) old new t more less was now = by_test (eqb t n) refl (λ below. unheld_more n old new t more below was now)
  where
    by_test : (b : Bool) → eqb t n ≡ b → (t < n → unheld n new + 1 ≤ unheld n old)
        → unheld (suc n) new + 1 ≤ unheld (suc n) old
    by_test true same rest =
        let is = eqb-true t n same in
        let free : is_free (has_slot old n) ≡ 1 = ap is_free (ap (λ (i : ℕ). has_slot old i) (sym is) ∙ was) in
        let held : is_free (has_slot new n) ≡ 0 = ap is_free (ap (λ (i : ℕ). has_slot new i) (sym is) ∙ now) in
        let others = unheld_less n old new more in omega (arith, free, held, others)
    by_test false other rest =
        let apart : t ≢ n = λ e. true≢false (sym (eq-eqb t n e) ∙ other) in
        let below : unheld n new + 1 ≤ unheld n old = rest (omega (arith, less, apart)) in
        let here = free_less (has_slot old n) (has_slot new n) (more n) in omega (arith, below, here)

free_most : (b : Bool) → is_free b ≤ 1
free_most true = omega arith
free_most false = omega arith

unheld_most : (n : ℕ) (holds : List ℕ) → unheld n holds ≤ n
unheld_most zero holds = omega arith
unheld_most (suc n) holds =
    let here = free_most (has_slot holds n) in let rest = unheld_most n holds in omega (arith, here, rest)

-- ---- so many steps for each

times_le : (a b c : ℕ) → a ≤ b → a * c ≤ b * c
times_le a b c le = mul-le a c b c le (omega arith)

one_less : (m k c : ℕ) → m + 1 ≤ k → c + m * c ≤ k * c
one_less m k c le =
    let some : suc m ≤ k = omega (arith, le) in
    let more = times_le (suc m) k c some in
    let is = suc-mul m c in omega (arith, more, is)

-- ---- what is left of the whole

-- Pages were put in, and the way to the key came to its end in memory; so many steps are left for the slots that aren't
-- held, and for one page more.
pub record HasMadeUp (k : Key) (pointers headers : List Seen) (slots : List ℕ) (end : End) (v w : View) : Type 0 where
  pub bound : ℕ
  pub room : bound + (unheld v.layout.slots w.grip.holds * page_steps v.layout.slots + page_steps v.layout.slots)
      ≤ way_steps v.layout.slots
  pub makes : MakesSo bound k pointers headers slots (HasCome k pointers headers) (Ok end) v w

first_room : (m n c w : ℕ) → m * c ≤ n * c → w + (m * c + c) ≤ (n * c + c) + w
first_room m n c w le = omega (arith, le)

-- the first walk
pub made_first : (k : Key) (pointers headers : List Seen) (slots : List ℕ) (end : End) (v w : View)
    → MakesSo walk_steps k pointers headers slots (HasCome k pointers headers) (Ok end) v w
    → HasMadeUp k pointers headers slots end v w
made_first k pointers headers slots end v w makes = record {
  bound = walk_steps;
  room = first_room (unheld v.layout.slots w.grip.holds) v.layout.slots (page_steps v.layout.slots) walk_steps
      (times_le (unheld v.layout.slots w.grip.holds) v.layout.slots (page_steps v.layout.slots)
      (unheld_most v.layout.slots w.grip.holds));
  makes = makes;
}

-- fewer slots aren't held
pub fewer_left : (v u w : View) → HasWalked v u → HasWalked u w → HoldsMore u w
    → unheld v.layout.slots w.grip.holds + 1 ≤ unheld v.layout.slots u.grip.holds
fewer_left v u w before walk more =
    unheld_more v.layout.slots u.grip.holds w.grip.holds more.slot walk.held
    (subst (λ (y : Layout). more.slot < y.slots) (layout_stays v u before) more.there) more.unheld more.held

-- the same behind one round more, by its bound
round_room : (b c m n total : ℕ) → b + (n * c + c) ≤ total → m + 1 ≤ n → (b + c) + (m * c + c) ≤ total
round_room b c m n total room less = let step = one_less m n c less in omega (arith, room, step)

-- a bound that is met whatever slots are held
bound_one : (b m c total : ℕ) → b + (m * c + c) ≤ total → b + c ≤ total
bound_one b m c total room = omega (arith, room)

bound_none : (b m c total : ℕ) → b + (m * c + c) ≤ total → b ≤ total
bound_none b m c total room = omega (arith, room)

module _ (k : Key) (pointers headers : List Seen) (slots : List ℕ) (end : End) (v u : View)
    (h : HasMadeUp k pointers headers slots end v u) where
  -- one page more was put in
  pub round_made : (late : List ℕ) (next : End) (w : View)
      → MakesSo (page_steps u.layout.slots) k pointers headers late (HasCome k pointers headers) (Ok next) u w
      → HoldsMore u w → HasMadeUp k pointers headers late next v w
  round_made late next w makes more = record {
    bound = h.bound + page_steps v.layout.slots;
    room = round_room h.bound (page_steps v.layout.slots) (unheld v.layout.slots w.grip.holds)
        (unheld v.layout.slots u.grip.holds) (way_steps v.layout.slots) h.room
        (fewer_left v u w h.makes.went.walked makes.went.walked more);
    makes = makes_behind h.bound (page_steps v.layout.slots) (h.bound + page_steps v.layout.slots) k pointers headers
        slots late (HasCome k pointers headers) (Ok next) v u w (omega arith) h.makes.went h.makes.led h.makes.paths
        h.makes.keeps
        (subst (λ (y : Layout). MakesSo (page_steps y.slots) k pointers headers late (HasCome k pointers headers) (Ok next)
        u w) (layout_stays v u h.makes.went.walked) makes);
  }

  -- it was refused
  pub round_refused : (late : List ℕ) (why : RefusalCause) (w : View)
      → MakesSo (page_steps u.layout.slots) k pointers headers late (HasCome k pointers headers) (Err why) u w
      → MakesSo (way_steps v.layout.slots) k pointers headers late (IsLeafOn k headers) (Err why) v w
  round_refused late why w makes =
      makes_refused h.bound (page_steps v.layout.slots) (way_steps v.layout.slots) k pointers headers slots late
      (HasCome k pointers headers) (IsLeafOn k headers) why v u w
      (bound_one h.bound (unheld v.layout.slots u.grip.holds) (page_steps v.layout.slots) (way_steps v.layout.slots) h.room)
      h.makes.went h.makes.led h.makes.paths
      (subst (λ (y : Layout). MakesSo (page_steps y.slots) k pointers headers late (HasCome k pointers headers) (Err why)
      u w) (layout_stays v u h.makes.went.walked) makes)

  -- the way has come to the leaf
  pub came_leaf : (x : Leaf) → end ≡ ends.Leaf x
      → MakesSo (way_steps v.layout.slots) k pointers headers slots (IsLeafOn k headers) (Ok x) v u
  came_leaf x is = record {
    went = worked_more h.bound (way_steps v.layout.slots) slots v u
        (bound_none h.bound (unheld v.layout.slots u.grip.holds) (page_steps v.layout.slots) (way_steps v.layout.slots)
        h.room) h.makes.went;
    led = h.makes.led;
    keeps = h.makes.keeps;
    paths = h.makes.paths;
    came = subst (λ (e : End). HasCome k pointers headers e u) is h.makes.came;
    cause = tt;
  }

  -- or to a pointer
  pub came_bare : (x : Bare) → end ≡ ends.Below x → IsBareOn k pointers x u
  came_bare x is = subst (λ (e : End). HasCome k pointers headers e u) is h.makes.came

-- ---- answers

pub on_ok : {A : Type 0} (r : Result A RefusalCause) (X : Type 0) → X → OnOk r X
on_ok (Ok a) X x = x
on_ok (Err why) X x = tt

pub more_then : (v u w : View) → HoldsMore v u → HasWalked u w → HoldsMore v w
more_then v u w more walk = record {
  slot = more.slot;
  there = more.there;
  unheld = more.unheld;
  held = walk.held more.slot more.held;
}
