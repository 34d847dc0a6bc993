-- A transaction that is to be refused behind its own split, at a word of the leaf that its sets name.
use Rattle.std.proofs.Common.{◌≡◌, ◌≢◌, ◌⊎◌, inl, inr, ℕ, ◌+◌, ◌*◌, ◌/◌, ◌%◌, ◌^◌, ◌<◌, ◌≤◌, Bool, true, false, List, refl}
use Rattle.std.proofs.Common.{sym, ap, ◌∙◌, subst, arith, eqb, ltb}
use Rattle.std.specs.Prelude.{Contains, MatchBool}
use Rattle.std.proofs.lemmas.Bool.Decides.{nat_tests}
use Rattle.lists.specs.Fronts.{front_then}
use Rattle.serial_model.specs.declared.key.Key.{Key}
use Rattle.homes.specs.declared.places.Span.{Span}
use Rattle.drop_core.specs.Table.{has_slot}
use Rattle.drop_core.specs.declared.grip.Grip.{Grip}
use Rattle.tx_sets.specs.declared.sets.Sets.{Sets}
use Rattle.tx_sets.specs.Entries.{has_word}
use Rattle.engine_pages.specs.declared.layout.Layout.{Layout}
use Rattle.engine_pages.specs.declared.view.Moved.{Moved}
use Rattle.engine_pages.specs.declared.view.RefusalCause.{RefusalCause}
use Rattle.engine_pages.specs.declared.view.RefusalCause.TheVariants as refusals
use Rattle.engine_pages.specs.declared.view.View.{View}
use Rattle.engine_pages.specs.Layout.{page_at}
use Rattle.engine_pages.specs.Pages.{is_tree}
use Rattle.engine_pages.specs.Steps.{seen_at}
use Rattle.tree_heads.specs.Headers.{kind_of, moved_bit, Headed, HasChildren, HasHeader, HasTwins}
use Rattle.tree_walks.specs.declared.ways.Leaf.{Leaf}
use Rattle.tree_walks.proofs.LoadLaws.{head_load, IsLoad}
use Rattle.page_commit.specs.Live.{HasHolds}
use Rattle.page_commit.specs.Needs.{names_record, IsRefusedOn, IsWordOver}
use Rattle.page_commit.specs.Turning.{OnlyWalked}
use Rattle.page_commit.proofs.GrowLaws.{KnowsMore}
use Rattle.page_commit.proofs.TurnLaws.{walks_then}
use Rattle.tree_calls.proofs.TreeWalkLaws.{tree_knows_more, tree_walked}
use Rattle.tree_writes.specs.Writing.{HasSplitFor, OtherHolds, TellsMoved}
use Rattle.tree_writes.proofs.Falling.{look_falls, Falls}
use Rattle.tree_writes.proofs.LeafStops.{kept_head_stops}
use Rattle.tree_writes.proofs.NamedLaws.{record_same}
use Rattle.tree_writes.proofs.NamedWords.{NamesWord}
use Rattle.tree_writes.proofs.SplitHere.{old_moved, split_holds, split_more, split_walked}
use Rattle.tree_writes.proofs.TakenLaws.{locks_leaf}

-- ---- a header that was loaded of a leaf that is known to be split

split_seen : (t : ℕ) (sp : Span) (at : ℕ) (v : View) (n : ℕ) (u : View) (m : Moved) → Contains v.moved m → m.slot ≡ t
    → Headed t sp at v n u → 2 ^ 62 ≤ n
split_seen t sp at v n u m has same = by_kind (eqb (kind_of n) 1) (ltb n moved_bit) refl
  where
    by_kind : (leaf low : Bool) → ltb n moved_bit ≡ low
        → MatchBool leaf (MatchBool low (HasHeader t sp at v n u) (HasTwins t sp at v n u)) (HasChildren t at v n u)
        → 2 ^ 62 ≤ n
    by_kind true true less h = absurd (h.unmoved m has same)
    by_kind true false more h = (let e : ltb n (2 ^ 62) ≡ false = more in grind (arith, nat_tests))
    by_kind false low test h = absurd (h.unmoved m has same)

-- the slots that are held are the same
holds_on : (slots : List ℕ) (v w : View) → HasHolds slots v → OnlyWalked v w → w.grip.holds ≡ v.grip.holds
    → HasHolds slots w
holds_on slots v w h only same = record {
  holds = λ q. h.holds q ∙ ap (λ (l : List ℕ). has_slot l q) (sym same);
  within = λ q has. subst (λ (y : Layout). q < y.slots) (sym (ap (λ (z : View). z.layout) only.is)) (h.within q has);
  made = ap (λ (y : View). y.grip.made) only.is ∙ h.made;
  taken = ap (λ (y : View). y.grip.taken) only.is ∙ h.taken;
  drafts = ap (λ (y : View). y.drafts) only.is ∙ h.drafts;
  copies = ap (λ (y : View). y.copies) only.is ∙ h.copies;
  blanks = ap (λ (y : View). y.blanks) only.is ∙ h.blanks;
  leaves = ap (λ (y : View). y.new_leaves) only.is ∙ h.leaves;
  inners = ap (λ (y : View). y.new_inners) only.is ∙ h.inners;
  heads = ap (λ (y : View). y.heads) only.is ∙ h.heads;
}

-- the pass knows more and more
more_then : (u v w : View) → KnowsMore u v → KnowsMore v w → KnowsMore u w
more_then u v w one two = record {
  layout = two.layout ∙ one.layout;
  ways = λ x has. two.ways x (one.ways x has);
  known = λ x has. two.known x (one.known x has);
  inners = λ x has. two.inners x (one.inners x has);
  leads = λ x has. two.leads x (one.leads x has);
  pages = front_then u.pages v.pages w.pages one.pages two.pages;
}

module _ (sets new : Sets) (k : Key) (x : Leaf) (at word seen : ℕ) (v w y : View) (s : HasSplitFor k x at sets new v w)
    (is : word ≡ page_at w.layout.slots x.slot 0) (has : has_word word sets.headers ≡ true)
    (h : Headed x.slot x.span word w seen y) where
  load : IsLoad word w seen y
  load = head_load x.slot x.span word w seen y s.split.agree h

  behind : OnlyWalked w y
  behind = tree_walked w y load.walked

  more : KnowsMore v y
  more = more_then v w y (split_more sets new v w k x at s.live s.on s.split s.now) (tree_knows_more w y load.walked)

  other : ((seen / 2 ^ 60) % 2 ≡ 1) ⊎ (seen ≢ x.header)
  other =
      let m = old_moved sets new v w k x at s.live s.on s.split s.now in
      let high : 2 ^ 62 ≤ seen = split_seen x.slot x.span word w seen y m.0 m.1 m.2 h in
      let low : x.header < 2 ^ 61 = s.on.leaf.small in
      inr (λ same. absurd (omega (arith, high, low, same)))

  pub head_falls : Falls sets new.holds k (refusals.Conflict word x.header seen) v y
  head_falls =
      let only : OnlyWalked v y =
      walks_then v w y (split_walked sets new v w k x at s.live s.on s.split s.now) behind in record {
        live = s.live;
        only = only;
        holds = holds_on new.holds w y (split_holds sets new v w k x at s.live s.on s.split s.now) behind
            (ap (λ (g : Grip). g.holds) load.grip);
        agree = load.agree;
        trees = load.trees;
        stopped = kept_head_stops sets new.holds k x v w y s.live s.on only more load.trees s.split.worked.since
            (λ n. load.words n ∙ s.split.worked.words n) word seen (seen_at w.reads word) has
            record {
              word = record {
                way = record { slot = x.slot; span = x.span };
                has = more.ways (record { slot = x.slot; span = x.span }) s.on.leaf.on.way;
                slot = refl;
                kind = subst (λ (l : Layout). is_tree l.decls x.span.storage ≡ true) (sym more.layout)
                    s.on.leaf.on.tree;
                there = subst (λ (l : Layout). x.slot < l.slots) (sym more.layout) s.on.leaf.on.there;
                index = omega arith;
                word = is ∙ ap (λ (l : Layout). page_at l.slots x.slot 0)
                    (sym (ap (λ (z : View). z.layout) load.walked.is));
              };
              leaf = record { slot = x.slot; keys = s.on.leaf.keys };
              knows = more.known (record { slot = x.slot; keys = s.on.leaf.keys }) s.on.leaf.knows;
              same = refl;
              is = inl refl;
            } load.saw other;
        locks = locks_leaf k sets.headers x 16 v y s.on s.full s.live.trees (omega arith) record {
          keys = s.split.taken.keys;
          knows = s.split.taken.knows;
          full = s.split.taken.full;
          is = ap (λ (z : View). z.touched) load.walked.is ∙ s.split.taken.is;
        };
      }

-- ---- either

-- the words of the header and of a record are others
no_record : (slots t word i : ℕ) → word ≡ page_at slots t 0 → word ≡ page_at slots t (1 + (16 + 3 * i)) → ⊥
no_record slots t word i head stands =
    let one : word ≡ ((32 + slots) + 64 * t) + 0 = head in
    let two : word ≡ ((32 + slots) + 64 * t) + (1 + (16 + 3 * i)) = stands in absurd (omega (arith, one, two))

head_named : (slots t word : ℕ) (sets : Sets) → word ≡ page_at slots t 0 → NamesWord slots t word sets
    → has_word word sets.headers ≡ true
head_named slots t word sets head (inl n) = n.1
head_named slots t word sets head (inr r) = absurd (no_record slots t word r.0 head r.2)

record_named : (slots t word i : ℕ) (sets : Sets) → word ≡ page_at slots t (1 + (16 + 3 * i)) → NamesWord slots t word sets
    → names_record word sets ≡ true
record_named slots t word i sets here (inl n) = absurd (no_record slots t word i n.0 here)
record_named slots t word i sets here (inr n) = n.3

module _ (why : RefusalCause) (sets new : Sets) (k : Key) (x : Leaf) (at word : ℕ) (v w y : View)
    (s : HasSplitFor k x at sets new v w) (named : NamesWord v.layout.slots x.slot word sets) where
  layout : w.layout ≡ v.layout
  layout = (split_more sets new v w k x at s.live s.on s.split s.now).layout

  -- the word at its place, as it was before the split
  placed : (i : ℕ) → word ≡ page_at w.layout.slots x.slot i → word ≡ page_at v.layout.slots x.slot i
  placed i is = is ∙ ap (λ (l : Layout). page_at l.slots x.slot i) layout

  pub moved_falls : TellsMoved x word why w y → Falls sets new.holds k why v y
  moved_falls (inl h) =
      subst (λ (r : RefusalCause). Falls sets new.holds k r v y) (sym h.1)
      (head_falls sets new k x at word h.0 v w y s h.2 (head_named v.layout.slots x.slot word sets (placed 0 h.2) named)
      h.3)
  moved_falls (inr r) =
      let here : word ≡ page_at v.layout.slots x.slot (1 + (16 + 3 * r.0)) = placed (1 + (16 + 3 * r.0)) r.2 in
      look_falls why sets new k x at r.0 word v w y s r.1 r.3 here
      (record_named v.layout.slots x.slot word r.0 sets here named)

-- a word is over the key by these sets as by those before, of which the slots that are held alone have grown
word_over : (sets new : Sets) (k : Key) (at : ℕ) (y : View) → OtherHolds sets new
    → IsWordOver k (record sets { holds = new.holds }) y at → IsWordOver k new y at
word_over sets new k at y others (inl pointer) = inl pointer
word_over sets new k at y others (inr (inl header)) = inr (inl header)
word_over sets new k at y others (inr (inr r)) = inr (inr record {
  key = r.key;
  place = r.place;
  over = r.over;
  which = r.which;
  whole = elim r.whole [
    | inl unsplit ↦ inl unsplit
    | inr named ↦ inr (record_same at sets new others.reads others.writes ∙ named)
  ];
})

pub moved_on : (why : RefusalCause) (sets new : Sets) (k : Key) (x : Leaf) (at word : ℕ) (v w y : View)
    → HasSplitFor k x at sets new v w → NamesWord v.layout.slots x.slot word sets → TellsMoved x word why w y
    → IsRefusedOn why k new y
moved_on (refusals.Conflict a expected seen) sets new k x at word v w y s named told =
    let on = (moved_falls (refusals.Conflict a expected seen) sets new k x at word v w y s named told).stopped.on in
    elim on [
      | inl over ↦ inl (word_over sets new k a y s.others over)
      | inr slot ↦ inr slot
    ]
moved_on (refusals.Full held) sets new k x at word v w y s named (inl h) = (let e = h.1 in absurd cc)
moved_on (refusals.Full held) sets new k x at word v w y s named (inr r) = absurd r.3.cause
moved_on (refusals.Wide set) sets new k x at word v w y s named (inl h) = (let e = h.1 in absurd cc)
moved_on (refusals.Wide set) sets new k x at word v w y s named (inr r) = absurd r.3.cause
moved_on (refusals.NumberLimit clock) sets new k x at word v w y s named (inl h) = (let e = h.1 in absurd cc)
moved_on (refusals.NumberLimit clock) sets new k x at word v w y s named (inr r) = absurd r.3.cause

pub moved_steps : (why : RefusalCause) (sets new : Sets) (k : Key) (x : Leaf) (at word : ℕ) (v w y : View)
    → HasSplitFor k x at sets new v w → TellsMoved x word why w y
    → y.steps ≤ v.steps + ((2 * v.layout.slots + 256) + 3)
moved_steps why sets new k x at word v w y s (inl h) =
    let one = s.split.most in
    let two = (head_load x.slot x.span word w h.0 y s.split.agree h.3).most in omega (arith, one, two)
moved_steps why sets new k x at word v w y s (inr r) =
    let one = s.split.most in let two = r.3.most in omega (arith, one, two)
