-- A header is loaded and kept as a part: the leaf has just these keys.
use Rattle.std.proofs.Common.{◌≡◌, inl, inr, ℕ, ◌^◌, ◌<◌, Bool, true, false, eqb, ltb, not, filter, List, [], length, get_or}
use Rattle.std.proofs.Common.{set, refl, sym, ap, ◌∙◌, subst, arith, Some}
use Rattle.std.specs.Prelude.{◌&&◌, MatchBool}
use Rattle.std.proofs.lemmas.Bool.{and_from, and_parts}
use Rattle.std.proofs.lemmas.Bool.Decides.{nat_tests}
use Rattle.atomic_table.specs.Table.{Me, Allows}
use Rattle.lists.specs.Elements.{in_cases, in_filter, in_push_cases}
use Rattle.lists.specs.Fronts.{front_refl}
use Rattle.serial_model.specs.declared.decl.Decl.{Decl}
use Rattle.serial_model.specs.declared.key.Key.{Key}
use Rattle.serial_model.specs.declared.number.Number.{Number}
use Rattle.homes.specs.declared.places.Content.{Content}
use Rattle.homes.specs.declared.places.Home.TheVariants.{Nowhere}
use Rattle.homes.specs.declared.places.Span.{Span}
use Rattle.homes.specs.declared.places.Spot.{Spot}
use Rattle.homes.specs.Homes.{has_key, in_span, is_free}
use Rattle.commit_core.specs.declared.attempt.Attempt.{Attempt}
use Rattle.commit_core.specs.declared.event.Act.TheVariants.{Keep}
use Rattle.commit_core.specs.declared.part.Part.{Part}
use Rattle.commit_core.specs.declared.part.Version.TheVariants.{Counted}
use Rattle.commit_core.specs.declared.part.Word.TheVariants.{Record, Header}
use Rattle.commit_core.specs.declared.place.Place.{Place}
use Rattle.commit_core.specs.declared.seat.Seat.{Seat}
use Rattle.commit_core.specs.CoreState.{is_trying}
use Rattle.commit_core.specs.Event.{is_allowed as commit_allows}
use Rattle.commit_core.specs.Moves.{Shows as StandsFor}
use Rattle.commit_core.specs.Parts.{IsSameOrAbsent, Vouches, is_record, record_part, same_word, with_part}
use Rattle.commit_core.specs.Places.{stands, stands_at}
use Rattle.commit_core.specs.Serial.{last_write}
use Rattle.drop_core.specs.declared.grip.Grip.{Grip}
use Rattle.drop_core.specs.Event.{leaf_keys, slot_span}
use Rattle.drop_core.specs.Table.{has_slot, header_of, is_led, page_of, slot_of}
use Rattle.engine_rule.specs.declared.event.JointAct.TheVariants.{SeeHeader}
use Rattle.engine_rule.specs.Event.{Joined}
use Rattle.engine_rule.specs.JointState.{can_see_header, header_part, is_leaf}
use Rattle.engine_pages.specs.declared.layout.Layout.{Layout}
use Rattle.engine_pages.specs.declared.view.View.{View}
use Rattle.engine_pages.specs.Agreement.{TreesAgree}
use Rattle.engine_pages.specs.Layout.{page_at}
use Rattle.engine_pages.specs.Rule.{Shared, IsHead, IsKnownLeaf, KeptAreRecords, KeptIsLow, Shows}
use Rattle.engine_pages.specs.Steps.{kept_at, read_at}
use Rattle.engine_pages.specs.Views.{IsActive, seat_number}
use Rattle.engine_pages.proofs.Agreeing.{agreed}
use Rattle.engine_pages.proofs.Joint.{Laws, effect_of, joint_act, may_do}
use Rattle.engine_pages.proofs.Looks.{look_stride}
use Rattle.engine_pages.proofs.OwnView.{own_fits}
use Rattle.engine_pages.proofs.Seats.{is_at, own_longer, tried_longer}
use Rattle.engine_pages.proofs.SlotSteps.{acted_as, trees_same}
use Rattle.engine_pages.proofs.Turns.{Begins, Stride, Written, allows_at, unwritten, written}
use Rattle.tree_heads.specs.Headers.{IsTreeAt, kind_of}
use Rattle.tree_heads.specs.Keeps.{HasSeenHeader, SawHeader, head_part, is_open_leaf, saw_header}
use Rattle.tree_heads.proofs.HeadSteps.{head_stride, same_leaf, spare_high}
use Rattle.tree_heads.proofs.LeafHomes.{absent_home}
use Rattle.tree_heads.proofs.LeafSteps.{LeafStep, met_word}
use Rattle.tree_heads.proofs.TreeAt.{leaf_unmoved, AtTree, OpenLeaf, Says, at_tree, are_keys, fields, header_deals, is_noted, knows_keys, open_leaf, pages_same}
use Rattle.tree_heads.proofs.TreeAt.{span_is}

-- ---- what is kept

pub records_headed : (decls : List Decl) (opening : List (Key × Content)) (history : List Attempt) (kept : List Part)
    (part : Part) (t n : ℕ) → part.word ≡ Header t → part.version ≡ Counted n
    → KeptAreRecords decls opening history kept → KeptAreRecords decls opening history (with_part kept part)
records_headed decls opening history kept part t n word version records q has =
    elim (in_push_cases q part (filter (λ p. not (same_word p.word part.word)) kept) has) [
      | inl old ↦ records q (in_filter (λ (p : Part). not (same_word p.word part.word)) q kept old)
      | inr new ↦ inr (inr (
        t,
        n,
        ap (λ (p : Part). p.word) (sym new) ∙ word,
        ap (λ (p : Part). p.version) (sym new) ∙ version,
      ))
    ]

pub low_headed : (places : List (Spot × Place)) (kept : List Part) (part : Part) (t : ℕ) → part.word ≡ Header t
    → KeptIsLow places kept → KeptIsLow places (with_part kept part)
low_headed places kept part t word low k y c has =
    elim (in_push_cases (record_part k y c) part (filter (λ p. not (same_word p.word part.word)) kept) has) [
      | inl old ↦ low k y c (in_filter (λ (p : Part). not (same_word p.word part.word)) (record_part k y c) kept old)
      | inr new ↦ absurd (no_record y t (sym (ap (λ (p : Part). p.word) new) ∙ word))
    ]
  where
    no_record : (y : Spot) (t : ℕ) → Record y ≡ Header t → ⊥
    no_record y t e = absurd (cc)

-- what stands for a content is it, or an absence for one
same_or_absent : (horizon : Number) (c e : Content) → StandsFor horizon c e → IsSameOrAbsent c e
same_or_absent horizon c e (inl same) = inl same
same_or_absent horizon c e (inr lost) = inr (ap (λ (z : Content). z.value) lost.0, lost.1.absent)

not_so : (c : Bool) → not c ≡ true → c ≡ false
not_so true e = sym e
not_so false e = refl

-- ---- the header that is seen

module _ (l : Layout) (words : List ℕ) (views : List View) (s : Shared) (id : ℕ) (v : View) (active : IsActive v.role)
    (b : Begins l words views s id v) (t : ℕ) (sp : Span) (is : IsTreeAt v t sp)
    (low : get_or words (page_at l.slots t 0) 0 < 2 ^ 60) (leafy : kind_of (get_or words (page_at l.slots t 0) 0) ≡ 1) where
  abbrev at : ℕ
  at = page_at l.slots t 0

  abbrev n : ℕ
  n = get_or words at 0

  abbrev page : AtTree l words s v t sp
  page = at_tree l words views s id v b t sp is

  opn : OpenLeaf l words s v t sp page
  opn = open_leaf l words views s id v b t sp page low leafy

  abbrev keys : List Key
  keys = page.fence.keys

  span : slot_span s.table t ≡ sp
  span = span_is l words views s id v b t page.fence page.there opn.led ∙ page.span

  part-is : header_part s.table t ≡ head_part t sp keys
  part-is =
      ap (λ (q : List Key). let r : Part = record { word = Header t; version = Counted (length q); span = slot_span s.table t; less = q; pairs = [] } in r)
      (ap leaf_keys opn.leaf)
      ∙ ap (λ (q : Span). let r : Part = record { word = Header t; version = Counted (length keys); span = q; less = keys; pairs = [] } in r) span

  may : is_trying v.seat.stage ≡ false → may_do s (seat_number v.role) (SeeHeader t) ≡ true
  may resting =
      let p = seat_number v.role in
      let d = s.table in
      let can : can_see_header d (s.grips p) t ≡ true =
      and_from (is_led (slot_of d t).led) (is_leaf (page_of d t) && (is_free (header_of d t) && has_slot (s.grips p).holds t)) opn.led
      (and_from (is_leaf (page_of d t)) (is_free (header_of d t) && has_slot (s.grips p).holds t) (ap is_leaf opn.leaf)
      (and_from (is_free (header_of d t)) (has_slot (s.grips p).holds t) (ap is_free opn.free)
      (ap (λ (g : Grip). has_slot g.holds t) (sym b.grip) ∙ page.held))) in
      let allowed : commit_allows p s.story (s.seats p) (Keep (header_part d t)) ≡ true =
      and_from (not (is_trying (s.seats p).stage)) (not (is_record (header_part d t).word))
      (ap not (ap (λ (z : Seat). is_trying z.stage) (sym b.own.seat) ∙ resting)) refl in
      and_from (can_see_header d (s.grips p) t) (commit_allows p s.story (s.seats p) (Keep (header_part d t))) can allowed

  last : Vouches (last_write l.opening s.story.history s.story.decided) (head_part t sp keys)
  last k has =
      let m = s.story in
      let both = and_parts (in_span sp k) (not (has_key keys k)) has in
      let home = absent_home l words views s id v b t page.fence keys page.there opn.led opn.leaf k
      (ap (λ (z : Span). in_span z k) page.span ∙ both.0) (not_so (has_key keys k) both.1) in
      let here : stands m.places m.homes k ≡ stands_at m.places Nowhere = ap (stands_at m.places) home in
      let shows : StandsFor m.horizon (stands m.places m.homes k).content (last_write l.opening m.history m.decided k) =
      b.sound.joint.commits.story.unlocked_homes k (ap (λ (z : Place). z.holder) here) in
      same_or_absent m.horizon (stands_at m.places Nowhere).content (last_write l.opening m.history m.decided k)
      (subst (λ (z : Place). StandsFor m.horizon z.content (last_write l.opening m.history m.decided k)) here shows)

  abbrev w : View
  w = saw_header s.story.history s.story.decided t sp keys at n v

  told : TreesAgree w → HasSeenHeader t sp at v n w
  told trees = record {
    keys = keys;
    are = are_keys l words views s id v b t sp page opn.records;
    word = opn.word;
    count =
        let few = opn.records.few in
        sym (fields n (length keys) 1 0 false opn.word (omega arith) (omega arith) (inl refl)).count;
    unmoved = leaf_unmoved l words views s id v b t keys opn.leaf;
    trees = trees;
    history = s.story.history;
    decided = s.story.decided;
    drawn = b.fits.history;
    seen = b.fits.decided;
    last = subst (λ (y : Layout). Vouches (last_write y.opening s.story.history s.story.decided) (head_part t sp keys)) (sym b.own.layout) last;
    is = refl;
  }

  wr : Written words (set words at n) at n
  wr = written words at n (let long = b.sound.shown.long in let within = page.within in omega arith)

  leaf : LeafStep l words (set words at n) s s.story s.table s.trees t 0
  leaf =
      same_leaf l words (set words at n) s t 0 page.within (omega arith) wr.long wr.others page.known page.fence page.there opn.leaf
      (subst (λ (q : List ℕ). Says l q s t page.fence (page_of s.table t)) (sym (unwritten words at)) page.shows)

  see_stride : Laws → is_trying v.seat.stage ≡ false → (tells : View → ℕ → View → Type 0)
      → ((TreesAgree w → HasSeenHeader t sp at v n w) → tells v n w) → Stride l words views s (seat_number v.role) v at (λ k. k) tells
  see_stride laws resting tells tells-so =
      let p = seat_number v.role in
      let m = s.story in
      let f = b.fits in
      let part = head_part t sp keys in
      let was = b.pages.treed in
      let comes : effect_of s p (SeeHeader t) ≡ record { story = m; seat = w.seat; table = s.table; grip = w.grip } =
      ap (λ (q : Part). let j : Joined = record { story = m; seat = record (s.seats p) { kept = with_part (s.seats p).kept q }; table = s.table; grip = s.grips p } in j) part-is
      ∙ (ap (λ (q : Seat). let j : Joined = record { story = m; seat = record q { kept = with_part q.kept part }; table = s.table; grip = s.grips p } in j) (sym b.own.seat)
      ∙ ap (λ (g : Grip). let j : Joined = record { story = m; seat = w.seat; table = s.table; grip = g } in j) (sym b.grip)) in
      let done = acted_as l s p (effect_of s p (SeeHeader t)) m s.table w comes
      (joint_act laws l s p (SeeHeader t) b.few (may resting) b.sound.joint) in
      head_stride laws l words views s id v active b t 0 (λ k. k) m s.table s.trees w tells record {
        leaf = leaf;
        sound = done.sound;
        stays = done.stays;
        trees-stay = trees_same p s;
        fits = own_fits l m m s.seats v w active f f.part refl refl refl refl refl (λ place mark has. has) record {
          history = front_refl m.history;
          decided = front_refl m.decided;
          heard = f.heard;
          mine = f.mine;
          mine_own = λ a has.
              own_longer v.role v.history m.history v.decided m.decided a f.history f.decided (f.mine_own a has);
          records = records_headed l.decls l.opening m.history v.seat.kept part t (length keys) refl refl f.records;
          kept = low_headed m.places v.seat.kept part t refl f.kept;
          versions = f.versions;
          loaded = tt;
          tried = tried_longer p v.history m.history m.checks v.checked v.mine v.seat.stage f.history b.own.tried;
          took = b.own.took;
          locked = b.own.locked;
          low = f.low;
          epoch = λ keeper. (f.keepers keeper).epoch;
          past = λ keeper. (f.keepers keeper).past;
        };
        seat = record { role = refl; made = refl; mine = refl; draws = refl; due = refl; marks = refl; stage = refl };
        part = record { grip = refl; ways = refl; drafts = refl; copies = refl; blanks = refl; pages = refl; leads = refl; fills = refl; moved = refl; sealed = refl; inners = refl; new_leaves = refl; new_inners = refl; shuts = refl };
        locks = record { role = refl; ways = refl; took = refl; gone = refl; touched = refl; blamed = refl; locks = refl };
        met = met_word l v t sp v.reads at n (Some n) is (λ x has. inl has) 0 (omega arith) refl;
        spare = λ q held other spare. let high = spare_high (length leaf.keys) 0 spare in absurd (omega (arith, high));
        knows = λ x has. elim (in_cases x (record { slot = t; keys = keys }) v.known has) [
          | inl new ↦ subst (IsKnownLeaf l s.table s.trees v.grip.holds) new (knows_keys l words views s id v b t sp page)
          | inr old ↦ was.known x old
        ];
        heads = λ x has.
            subst (λ (q : List ℕ). IsHead l q s.table s.trees p x) (sym (unwritten words at)) (was.heads p (is_at v.role active) x has);
      }
      (tells-so told)

pub sees_header : Laws → (l : Layout) (slots id : ℕ) (me : Me (Unit {0}) View) (t : ℕ) (sp : Span) (expected : ℕ)
    → IsActive me.0.role
    → is_trying me.0.seat.stage ≡ false → IsTreeAt me.0 t sp
    → Allows (λ s. Shows l s.words s.views) slots id me (page_at l.slots t 0) (λ k. k)
    (λ k now. (now.1 ≡ me.1) × SawHeader t sp (page_at l.slots t 0) expected me.0 k now.0)
sees_header laws l slots id me t sp expected active resting is =
    allows_at laws l slots id me (page_at l.slots t 0) (λ k. k) (SawHeader t sp (page_at l.slots t 0) expected) active
    (λ words views s b. by_found words views s b
    (eqb (get_or words (page_at l.slots t 0) 0) expected && is_open_leaf (get_or words (page_at l.slots t 0) 0)) refl)
  where
    at : ℕ
    at = page_at l.slots t 0

    v : View
    v = me.0

    by_found : (words : List ℕ) (views : List View) (s : Shared) → Begins l words views s id v → (c : Bool)
        → (eqb (get_or words at 0) expected && is_open_leaf (get_or words at 0)) ≡ c
        → Stride l words views s (seat_number v.role) v at (λ k. k) (SawHeader t sp at expected)
    by_found words views s b true opn =
        let n : ℕ = get_or words at 0 in
        let both = and_parts (eqb n expected) (is_open_leaf n) opn in
        let parts = and_parts (ltb n (2 ^ 60)) (eqb (kind_of n) 1) both.1 in
        let low : n < 2 ^ 60 = (let is = parts.0 in grind (arith, nat_tests)) in
        let leafy : kind_of n ≡ 1 = (let is = parts.1 in grind (arith, nat_tests)) in
        let a = at_tree l words views s id v b t sp is in
        let w : View = saw_header s.story.history s.story.decided t sp a.fence.keys at n v in
        agreed l words views s v active at (λ k. k) (SawHeader t sp at expected)
        (see_stride l words views s id v active b t sp is low leafy laws resting
        (λ v n w. TreesAgree w → SawHeader t sp at expected v n w)
        (λ told trees. subst (λ c. MatchBool c (HasSeenHeader t sp at v n w) (w ≡ read_at at n v)) (sym opn) (told trees)))
    by_found words views s b false shut =
        let n : ℕ = get_or words at 0 in
        let w : View = read_at at n v in
        let was = pages_same l words views s id v b active in
        look_stride l words views s id v active b at (λ k. k) w (SawHeader t sp at expected) refl
        record { layout = refl; role = refl; made = refl; past = refl; parked = refl; epoch = refl; mine = refl; draws = refl; due = refl; seat = refl; checked = refl; took = refl; loaded = refl; met = refl; heard = refl; versions = refl; history = refl; decided = refl }
        refl
        record { within = was.within; ways = was.ways; drafts = was.drafts; copies = was.copies; blanks = was.blanks; resident = was.resident; leads = was.leads; fills = was.fills; known = was.known; heads = was.heads; moved = was.moved; sealed = was.sealed; inners = was.inners; new_leaves = was.new_leaves; new_inners = was.new_inners; shuts = was.shuts }
        (header_deals l words views s id v b t sp is w
        record { role = refl; ways = refl; took = refl; gone = refl; touched = refl; blamed = refl; locks = refl }
        (is_noted v at n (kept_at v.reads at)))
        (subst (λ c. MatchBool c (HasSeenHeader t sp at v n w) (w ≡ read_at at n v)) (sym shut) refl)
