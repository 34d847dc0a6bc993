-- What the loads of a walk tell, and what entering a slot does.
use Rattle.std.proofs.Common.{◌≡◌, ◌≢◌, inl, ℕ, zero, suc, ◌+◌, ◌-◌, ◌/◌, ◌^◌, ◌<◌, ◌≤◌, Bool, true, false}
use Rattle.std.proofs.Common.{cond, eqb, eq-eqb, ltb, List, refl, sym, ap, ◌∙◌, subst, arith}
use Rattle.std.proofs.Common.{Option, Some, None}
use Rattle.std.specs.Prelude.{MatchBool, Contains}
use Rattle.std.proofs.lemmas.Bool.Decides.{nat_tests}
use Rattle.lists.specs.Elements.{in_head, in_tail}
use Rattle.lists.specs.Fronts.{IsFront, front_refl}
use Rattle.homes.specs.declared.places.Span.{Span}
use Rattle.drop_core.specs.Table.{has_slot}
use Rattle.commit_core.specs.declared.seat.Seat.{Seat}
use Rattle.engine_pages.specs.declared.layout.Layout.{Layout}
use Rattle.engine_pages.specs.declared.view.Inner.{Inner}
use Rattle.engine_pages.specs.declared.view.Known.{Known}
use Rattle.engine_pages.specs.declared.view.Lead.{Lead}
use Rattle.engine_pages.specs.declared.view.Moved.{Moved}
use Rattle.engine_pages.specs.declared.view.View.{View}
use Rattle.engine_pages.specs.declared.view.Way.{Way}
use Rattle.engine_pages.specs.Agreement.{TreesAgree}
use Rattle.engine_pages.specs.Pages.{is_tree}
use Rattle.engine_pages.specs.Pointers.{HasFollowed, WaysAgree, half_of, is_open_word, leads_more, page_half}
use Rattle.engine_pages.specs.Pointers.{slot_half, ways_if, ways_more}
use Rattle.engine_pages.specs.Steps.{kept_at, read_at, seen_at}
use Rattle.engine_pages.specs.Views.{IsActive}
use Rattle.tree_heads.specs.Headers.{HasChildren, HasHeader, HasTwinWays, HasTwins, HasWord, Headed, MetAgain, kind_of}
use Rattle.tree_heads.specs.Headers.{moved_bit, moved_locked}
use Rattle.array_pages.specs.Finding.{HasGlanced}
use Rattle.array_pages.specs.Walks.{SawLast}
use Rattle.array_pages.proofs.LookLaws.{glanced_is}
use Rattle.array_pages.proofs.ReadLaws.{kept_here, kept_with, noted_in, seen_other, seen_same}
use Rattle.tree_walks.specs.Steps.{Went}
use Rattle.tree_walks.specs.Walks.{CanWalk, HasWalked, IsTreesWord, KeepsWords}
use Rattle.tree_walks.proofs.StepLaws.{can_after, only_but}

-- ---- one load of a word that counts as met

-- The word was loaded, and counts as met; nothing is newly kept, and what the pass knows of pages has grown.
pub record IsLoad (at : ℕ) (v : View) (n : ℕ) (u : View) : Type 0 where
  pub walked : HasWalked v u
  pub grip : u.grip ≡ v.grip
  pub seat : u.seat ≡ v.seat
  pub most : u.steps ≤ v.steps + 1
  pub agree : WaysAgree u.ways
  pub trees : TreesAgree u
  pub met : seen_at u.reads at ≡ Some n
  pub others : (a : ℕ) → a ≢ at → seen_at u.reads a ≡ seen_at v.reads a
  pub words : KeepsWords v u
  pub saw : SawLast at n (seen_at v.reads at) v u
  pub kept : saw.kept ≡ kept_at v.reads at

-- what the view knows of pages has grown
pub record Grows (v u : View) : Type 0 where
  ways : (x : Way) → Contains v.ways x → Contains u.ways x
  known : (x : Known) → Contains v.known x → Contains u.known x
  moved : (x : Moved) → Contains v.moved x → Contains u.moved x
  inners : (x : Inner) → Contains v.inners x → Contains u.inners x
  pages : IsFront v.pages u.pages
  leads : (x : Lead) → Contains v.leads x → Contains u.leads x

-- the load, with what the view knows of pages as u has it
abbrev pub grown : ℕ → ℕ → View → View → View
grown at n v u = record (read_at at n v) {
  ways = u.ways;
  known = u.known;
  moved = u.moved;
  inners = u.inners;
  pages = u.pages;
  leads = u.leads;
}

pub is_load : (at n : ℕ) (v u : View) → u ≡ grown at n v u → Grows v u → WaysAgree u.ways → TreesAgree u → IsLoad at v n u
is_load at n v u is more agree trees = record {
  walked = record {
    since = let e = ap (λ (z : View). z.steps) is in omega (arith, e);
    drawn = subst (λ (z : View). IsFront v.history z.history) (sym is) (front_refl v.history);
    seen = subst (λ (z : View). IsFront v.decided z.decided) (sym is) (front_refl v.decided);
    parts = λ part has. inl (subst (λ (z : View). Contains z.seat.kept part) is has);
    held = λ t h. subst (λ (z : View). has_slot z.grip.holds t ≡ true) (sym is) h;
    ways = more.ways;
    known = more.known;
    moved = more.moved;
    inners = more.inners;
    pages = more.pages;
    leads = more.leads;
    is = subst (λ (z : View). z ≡ record v {
      steps = z.steps;
      history = z.history;
      decided = z.decided;
      seat = record v.seat { kept = z.seat.kept };
      reads = z.reads;
      last = z.last;
      loaded = z.loaded;
      grip = record v.grip { holds = z.grip.holds };
      ways = z.ways;
      known = z.known;
      moved = z.moved;
      inners = z.inners;
      pages = z.pages;
      leads = z.leads;
      looked = z.looked;
    }) (sym is) refl;
  };
  grip = ap (λ (z : View). z.grip) is;
  seat = ap (λ (z : View). z.seat) is;
  most = let e = ap (λ (z : View). z.steps) is in omega (arith, e);
  agree = agree;
  trees = trees;
  met = subst (λ (z : View). seen_at z.reads at ≡ Some n) (sym is) (seen_same v.reads at n (kept_at v.reads at));
  others = λ a apart.
      subst (λ (z : View). seen_at z.reads a ≡ seen_at v.reads a) (sym is)
      (seen_other v.reads at n (kept_at v.reads at) a apart);
  words = λ a. subst (λ (z : View). kept_at z.reads a ≡ kept_at v.reads a) (sym is) (kept_with v.reads at n a);
  saw = record {
    step = v.steps;
    since = omega arith;
    last = ap (λ (z : View). z.last) is;
    kept = kept_at v.reads at;
    kept_is =
        sym (ap (λ (z : View). kept_at z.reads at) is ∙ kept_here v.reads at n (kept_at v.reads at));
    stands =
        subst (λ (z : View). Contains z.reads (record { word = at; seen = n; was = seen_at v.reads at; kept = kept_at v.reads at }))
        (sym is) (noted_in v.reads at n (kept_at v.reads at));
  };
  kept = refl;
}

-- the view agrees with itself where it knows the same
pub trees_by : (v w : View) → w.layout ≡ v.layout → w.known ≡ v.known → w.inners ≡ v.inners → w.ways ≡ v.ways
    → TreesAgree v → TreesAgree w
trees_by v w layout known inners ways t = record {
  known = λ a b ha hb. t.known a b (subst (λ (l : List Known). Contains l a) known ha)
      (subst (λ (l : List Known). Contains l b) known hb);
  inners = λ a b ha hb. t.inners a b (subst (λ (l : List Inner). Contains l a) inners ha)
      (subst (λ (l : List Inner). Contains l b) inners hb);
  apart = λ a b ha hb. t.apart a b (subst (λ (l : List Known). Contains l a) known ha)
      (subst (λ (l : List Inner). Contains l b) inners hb);
  spans = λ a b ha hb same kind. t.spans a b (subst (λ (l : List Way). Contains l a) ways ha)
      (subst (λ (l : List Way). Contains l b) ways hb) same
      (subst (λ (y : Layout). is_tree y.decls a.span.storage ≡ true) layout kind);
}

-- a plain load of a word that counts as met
pub read_load : (at n : ℕ) (v u : View) → WaysAgree v.ways → TreesAgree v → u ≡ read_at at n v → IsLoad at v n u
read_load at n v u agree trees is =
    is_load at n v u (subst (λ (z : View). z ≡ grown at n v z) (sym is) refl)
    (subst (Grows v) (sym is) record {
      ways = λ x h. h;
      known = λ x h. h;
      moved = λ x h. h;
      inners = λ x h. h;
      pages = front_refl v.pages;
      leads = λ x h. h;
    })
    (subst (λ (z : View). WaysAgree z.ways) (sym is) agree)
    (trees_by v u (ap (λ (z : View). z.layout) is) (ap (λ (z : View). z.known) is) (ap (λ (z : View). z.inners) is)
    (ap (λ (z : View). z.ways) is) trees)

-- ---- pointers

pub ways_kept : (b : Bool) (t : ℕ) (span : Span) (ways : List Way) (x : Way) → Contains ways x
    → Contains (ways_if b t span ways) x
ways_kept true t span ways x h = in_tail x (record { slot = t; span = span }) ways h
ways_kept false t span ways x h = h

pub more_ways : (o : Option ℕ) (holds : List ℕ) (span : Span) (ways : List Way) (x : Way) → Contains ways x
    → Contains (ways_more holds o span ways) x
more_ways None holds span ways x h = h
more_ways (Some t) holds span ways x h = ways_kept (has_slot holds t) t span ways x h

pub more_leads : (b : Bool) (span : Span) (n name : ℕ) (leads : List Lead) (x : Lead) → Contains leads x
    → Contains (leads_more b span n name leads) x
more_leads true span n name leads x h = in_tail x (record { span = span; page = n; name = name }) leads h
more_leads false span n name leads x h = h

pub follow_load : (span : Span) (at : ℕ) (v : View) (n : ℕ) (u : View) → HasFollowed span at v n u → IsLoad at v n u
follow_load span at v n u h =
    is_load at n v u (subst (λ (z : View). z ≡ grown at n v z) (sym h.is) refl)
    (subst (Grows v) (sym h.is) record {
      ways = λ x has. more_ways (half_of n) v.grip.holds span v.ways x has;
      known = λ x has. has;
      moved = λ x has. has;
      inners = λ x has. has;
      pages = h.front;
      leads = λ x has. more_leads (is_open_word n) span (page_half n) h.name v.leads x has;
    })
    h.agree h.trees

-- a pointer that leads to a slot which is held tells a way into it
pub follow_way : (span : Span) (at : ℕ) (v : View) (n : ℕ) (u : View) (t : ℕ) → HasFollowed span at v n u
    → half_of n ≡ Some t → has_slot v.grip.holds t ≡ true → Contains u.ways (record { slot = t; span = span })
follow_way span at v n u t h half held =
    subst (λ (z : View). Contains z.ways (record { slot = t; span = span })) (sym h.is)
    (subst (λ (o : Option ℕ). Contains (ways_more v.grip.holds o span v.ways) (record { slot = t; span = span })) (sym half)
    (subst (λ (b : Bool). Contains (ways_if b t span v.ways) (record { slot = t; span = span })) (sym held)
    (in_head (record { slot = t; span = span }) v.ways)))

pub half_is : (n : ℕ) → 2 ^ 32 ≤ n → n < 2 ^ 60 → half_of n ≡ Some (n / 2 ^ 32 - 1)
half_is n some less =
    let open-so : is_open_word n ≡ true = grind (arith, nat_tests) in
    ap (λ (b : Bool). let o : Option ℕ = cond b (slot_half (n / 2 ^ 32)) None in o) open-so
    ∙ by_half (n / 2 ^ 32) (omega (arith, some))
  where
    by_half : (h : ℕ) → 0 < h → slot_half h ≡ Some (h - 1)
    by_half zero some = absurd (omega (arith, some))
    by_half (suc t) some = ap (λ (i : ℕ). let o : Option ℕ = Some i in o) (let e : t ≡ suc t - 1 = omega arith in e)

-- ---- headers

pub header_load : (t : ℕ) (sp : Span) (at : ℕ) (v : View) (n : ℕ) (u : View) → WaysAgree v.ways → HasHeader t sp at v n u
    → IsLoad at v n u
header_load t sp at v n u agree h =
    is_load at n v u (subst (λ (z : View). z ≡ grown at n v z) (sym h.is) refl)
    (subst (Grows v) (sym h.is) record {
      ways = λ x has. has;
      known = λ x has. in_tail x (record { slot = t; keys = h.keys }) v.known has;
      moved = λ x has. has;
      inners = λ x has. has;
      pages = front_refl v.pages;
      leads = λ x has. has;
    })
    (subst (λ (z : View). WaysAgree z.ways) (sym h.is) agree) h.trees

pub twins_load : (t : ℕ) (sp : Span) (at : ℕ) (v : View) (n : ℕ) (u : View) → WaysAgree v.ways → HasTwins t sp at v n u
    → IsLoad at v n u
twins_load t sp at v n u agree h =
    is_load at n v u (subst (λ (z : View). z ≡ grown at n v z) (sym h.is) refl)
    (subst (Grows v) (sym h.is) record {
      ways = λ x has. has;
      known = λ x has. in_tail x (record { slot = t; keys = h.keys }) v.known has;
      moved = λ x has. in_tail x (record { slot = t; minor = h.minor; major = h.major; separator = h.separator }) v.moved has;
      inners = λ x has. has;
      pages = front_refl v.pages;
      leads = λ x has. has;
    })
    (subst (λ (z : View). WaysAgree z.ways) (sym h.is) agree) h.trees

pub children_load : (t at : ℕ) (v : View) (n : ℕ) (u : View) → WaysAgree v.ways → HasChildren t at v n u → IsLoad at v n u
children_load t at v n u agree h =
    is_load at n v u (subst (λ (z : View). z ≡ grown at n v z) (sym h.is) refl)
    (subst (Grows v) (sym h.is) record {
      ways = λ x has. has;
      known = λ x has. has;
      moved = λ x has. has;
      inners = λ x has. in_tail x (record { slot = t; separators = h.separators }) v.inners has;
      pages = front_refl v.pages;
      leads = λ x has. has;
    })
    (subst (λ (z : View). WaysAgree z.ways) (sym h.is) agree) h.trees

-- a header is loaded
pub head_load : (t : ℕ) (sp : Span) (at : ℕ) (v : View) (n : ℕ) (u : View) → WaysAgree v.ways → Headed t sp at v n u
    → IsLoad at v n u
head_load t sp at v n u agree = by_kind (eqb (kind_of n) 1) (ltb n moved_bit)
  where
    by_kind : (leaf low : Bool)
        → MatchBool leaf (MatchBool low (HasHeader t sp at v n u) (HasTwins t sp at v n u)) (HasChildren t at v n u)
        → IsLoad at v n u
    by_kind true true h = header_load t sp at v n u agree h
    by_kind true false h = twins_load t sp at v n u agree h
    by_kind false low h = children_load t at v n u agree h

-- what its word tells
pub leaf_headed : (t : ℕ) (sp : Span) (at : ℕ) (v : View) (n : ℕ) (u : View) → kind_of n ≡ 1 → n < moved_bit
    → Headed t sp at v n u → HasHeader t sp at v n u
leaf_headed t sp at v n u leaf low h =
    subst (λ c. MatchBool c (HasHeader t sp at v n u) (HasTwins t sp at v n u))
    (let e : ltb n (2 ^ 62) ≡ true = grind (arith, nat_tests) in e)
    (subst (λ c. MatchBool c (MatchBool (ltb n moved_bit) (HasHeader t sp at v n u) (HasTwins t sp at v n u))
    (HasChildren t at v n u))
    (eq-eqb (kind_of n) 1 leaf) h)

pub split_headed : (t : ℕ) (sp : Span) (at : ℕ) (v : View) (n : ℕ) (u : View) → kind_of n ≡ 1 → moved_bit ≤ n
    → Headed t sp at v n u → HasTwins t sp at v n u
split_headed t sp at v n u leaf high h =
    subst (λ c. MatchBool c (HasHeader t sp at v n u) (HasTwins t sp at v n u))
    (let e : ltb n (2 ^ 62) ≡ false = grind (arith, nat_tests) in e)
    (subst (λ c. MatchBool c (MatchBool (ltb n moved_bit) (HasHeader t sp at v n u) (HasTwins t sp at v n u))
    (HasChildren t at v n u))
    (eq-eqb (kind_of n) 1 leaf) h)

pub inner_headed : (t : ℕ) (sp : Span) (at : ℕ) (v : View) (n : ℕ) (u : View) → kind_of n ≢ 1 → Headed t sp at v n u
    → HasChildren t at v n u
inner_headed t sp at v n u other h =
    subst (λ c. MatchBool c (MatchBool (ltb n moved_bit) (HasHeader t sp at v n u) (HasTwins t sp at v n u))
    (HasChildren t at v n u))
    (let e : eqb (kind_of n) 1 ≡ false = grind (arith, nat_tests) in e) h

-- the header of a split leaf is loaded again
pub twin_grows : (x : Moved) (sp : Span) (holds : List ℕ) (ways : List Way) (y : Way) → Contains ways y
    → Contains (ways_if (has_slot holds x.minor) x.minor (record { storage = sp.storage; low = sp.low; high = x.separator - 1 })
    (ways_if (has_slot holds x.major) x.major (record { storage = sp.storage; low = x.separator; high = sp.high }) ways)) y
twin_grows x sp holds ways y h =
    ways_kept (has_slot holds x.minor) x.minor (record { storage = sp.storage; low = sp.low; high = x.separator - 1 })
    (ways_if (has_slot holds x.major) x.major (record { storage = sp.storage; low = x.separator; high = sp.high }) ways) y
    (ways_kept (has_slot holds x.major) x.major (record { storage = sp.storage; low = x.separator; high = sp.high }) ways y h)

pub again_load : (t : ℕ) (sp : Span) (at : ℕ) (v : View) (n : ℕ) (u : View) (x : Moved) → WaysAgree v.ways → TreesAgree v
    → Contains v.moved x → x.slot ≡ t → MetAgain t sp at v n u → IsLoad at v n u
again_load t sp at v n u x agree trees knows same m = by_low (ltb n moved_locked) m.1
  where
    by_low : (low : Bool) → MatchBool low (HasTwinWays t sp at v n u) (u ≡ read_at at n v) → IsLoad at v n u
    by_low true h =
        let is = h.is x knows same in
        is_load at n v u (subst (λ (z : View). z ≡ grown at n v z) (sym is) refl)
        (subst (Grows v) (sym is) record {
          ways = λ y has. twin_grows x sp v.grip.holds v.ways y has;
          known = λ y has. has;
          moved = λ y has. has;
          inners = λ y has. has;
          pages = front_refl v.pages;
          leads = λ y has. has;
        })
        h.agree h.trees
    by_low false is = read_load at n v u agree trees is

-- ---- a load as a part of a walk

pub load_went : (slots : List ℕ) (at : ℕ) (v : View) (n : ℕ) (u : View) → CanWalk slots v → IsTreesWord u at
    → IsLoad at v n u → Went 1 slots v u
load_went slots at v n u can word l = record {
  can = can_after slots v u l.walked l.grip l.agree l.trees can;
  walked = l.walked;
  most = l.most;
  kept = ap (λ (s : Seat). s.kept) l.seat;
  words = l.words;
  met = only_but at v u word l.others;
}

-- ---- loads that don't count as met

pub glanced_walked : (v w : View) → HasGlanced v w → HasWalked v w
glanced_walked v w g =
    subst (HasWalked v) (sym g.is) record {
      since = g.since;
      drawn = front_refl v.history;
      seen = front_refl v.decided;
      parts = λ part has. inl has;
      held = λ t h. h;
      ways = λ x h. h;
      known = λ x h. h;
      moved = λ x h. h;
      inners = λ x h. h;
      pages = front_refl v.pages;
      leads = λ x h. h;
      is = refl;
    }

pub glanced_went : (b : ℕ) (slots : List ℕ) (v w : View) → CanWalk slots v → HasGlanced v w → w.steps ≤ v.steps + b
    → Went b slots v w
glanced_went b slots v w can g most =
    let walk = glanced_walked v w g in record {
      can = can_after slots v w walk (ap (λ (z : View). z.grip) g.is)
          (subst (λ (z : View). WaysAgree z.ways) (sym g.is) can.agree)
          (trees_by v w (ap (λ (z : View). z.layout) g.is) (ap (λ (z : View). z.known) g.is)
          (ap (λ (z : View). z.inners) g.is) (ap (λ (z : View). z.ways) g.is) can.trees) can;
      walked = walk;
      most = most;
      kept = ap (λ (z : View). z.seat.kept) g.is;
      words = λ a. ap (λ (z : View). kept_at z.reads a) g.is;
      met = λ a. inl (ap (λ (z : View). seen_at z.reads a) g.is);
    }

pub glanced_seen : (v w : View) (a : ℕ) → HasGlanced v w → seen_at w.reads a ≡ seen_at v.reads a
glanced_seen v w a g = ap (λ (z : View). seen_at z.reads a) g.is

pub glanced_grip : (v w : View) → HasGlanced v w → w.grip ≡ v.grip
glanced_grip v w g = ap (λ (z : View). z.grip) g.is

pub glanced_active : (v w : View) → HasGlanced v w → IsActive v.role → IsActive w.role
glanced_active v w g active = subst (λ (z : View). IsActive z.role) (sym g.is) active

pub glanced_layout : (v w : View) → HasGlanced v w → w.layout ≡ v.layout
glanced_layout v w g = ap (λ (z : View). z.layout) g.is

-- one load more, of a word that the pass knows
pub word_glanced : (t i at : ℕ) (v : View) (n : ℕ) (w : View) → HasWord t i at v n w → HasGlanced v w
word_glanced t i at v n w h = glanced_is at n v w h.is

pub word_steps : (t i at : ℕ) (v : View) (n : ℕ) (w : View) → HasWord t i at v n w → w.steps ≡ v.steps + 1
word_steps t i at v n w h = ap (λ (z : View). z.steps) h.is

pub glanced_inners : (v w : View) (x : Inner) → HasGlanced v w → Contains v.inners x → Contains w.inners x
glanced_inners v w x g has = subst (λ (z : View). Contains z.inners x) (sym g.is) has

pub glanced_known : (v w : View) (x : Known) → HasGlanced v w → Contains v.known x → Contains w.known x
glanced_known v w x g has = subst (λ (z : View). Contains z.known x) (sym g.is) has

pub glanced_moved : (v w : View) (x : Moved) → HasGlanced v w → Contains v.moved x → Contains w.moved x
glanced_moved v w x g has = subst (λ (z : View). Contains z.moved x) (sym g.is) has
