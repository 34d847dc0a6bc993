-- What it comes to that a full leaf leads to its halves.
use Rattle.std.proofs.Common.{◌≡◌, ◌≢◌, ℕ, ◌+◌, ◌^◌, ◌<◌, true, List, [], ◌∷◌, length, get_or, set}
use Rattle.std.proofs.Common.{take, drop, refl, sym, ap, ◌∙◌, subst, arith, Some}
use Rattle.std.specs.List.{Contains, slice_get}
use Rattle.std.proofs.lemmas.List.{get_or-set_other, get_or-set_same, length-drop, length-map, length-take-le}
use Rattle.std.proofs.lemmas.List.Elements.{Contains-get_or}
use Rattle.std.proofs.lemmas.List.Sorted.{Contains-permutation, IsPermutation-sym}
use Rattle.lists.specs.Elements.{any_push_old, in_head, in_tail}
use Rattle.serial_model.specs.declared.key.Key.{Key}
use Rattle.homes.specs.declared.places.Content.{Content}
use Rattle.homes.specs.declared.places.Span.{Span}
use Rattle.homes.specs.Homes.{has_key, same_key}
use Rattle.commit_core.specs.CoreState.{can_begin}
use Rattle.engine_pages.specs.declared.layout.Layout.{Layout}
use Rattle.engine_pages.specs.declared.view.Head.{Head}
use Rattle.engine_pages.specs.declared.view.NewLeaf.{NewLeaf}
use Rattle.engine_pages.specs.declared.view.Role.{Role}
use Rattle.engine_pages.specs.declared.view.Role.TheVariants.{Keeper}
use Rattle.engine_pages.specs.declared.view.View.{View}
use Rattle.engine_pages.specs.declared.view.Way.{Way}
use Rattle.engine_pages.specs.Pages.{is_tree}
use Rattle.engine_pages.specs.Slots.{entered}
use Rattle.tree_heads.specs.Headers.{open_word, IsTreeAt}
use Rattle.tree_heads.specs.Splits.{moved_word, AreMoving, CanSplit, IsMoving}
use Rattle.foster_tree.specs.declared.entries.Entry.{Entry}
use Rattle.foster_tree.specs.Adding.{restored, IsOneHead}
use Rattle.foster_tree.specs.Entries.{content_of, contents_of, key_of, keys_of}
use Rattle.foster_tree.specs.Filling.{leaf_of, no_entry}
use Rattle.foster_tree.specs.Splitting.{lower_of, separator_of, twin_words, upper_of, AreMoved, CanTurn}
use Rattle.foster_tree.proofs.FillLaws.{at_map}
use Rattle.foster_tree.proofs.LockLists.{take_in}
use Rattle.foster_tree.proofs.MoveLaws.{entry_keys, entry_moves, parted}
use Rattle.foster_tree.proofs.PartLaws.{drop_in, key_from, key_to, keys_are, separates, separator_there, AreParted}
use Rattle.foster_tree.proofs.StoreLaws.{head_of}
use Rattle.foster_tree.proofs.WordLaws.{long_set}

-- ---- the words of a split

-- they stand there
pub record HasTwinWords (words : List ℕ) (minor major separator : ℕ) : Type 0 where
  pub minor_is : get_or words 3 0 ≡ minor + 1
  pub major_is : get_or words 4 0 ≡ major + 1
  pub separator_is : get_or words 5 0 ≡ separator

pub twins_stand : (minor major separator : ℕ) (words : List ℕ) → length words ≡ 64
    → HasTwinWords (twin_words minor major separator words) minor major separator
twins_stand minor major separator words long =
    let first : length (set words 3 (minor + 1)) ≡ 64 = long_set words 3 (minor + 1) long in
    let second : length (set (set words 3 (minor + 1)) 4 (major + 1)) ≡ 64 =
    long_set (set words 3 (minor + 1)) 4 (major + 1) first in
    record {
      minor_is =
          get_or-set_other (set (set words 3 (minor + 1)) 4 (major + 1)) 5 3 separator 0 (λ same. absurd (omega (arith, same)))
          ∙ (get_or-set_other (set words 3 (minor + 1)) 4 3 (major + 1) 0 (λ same. absurd (omega (arith, same)))
          ∙ get_or-set_same words 3 (minor + 1) 0 (omega (arith, long)));
      major_is =
          get_or-set_other (set (set words 3 (minor + 1)) 4 (major + 1)) 5 4 separator 0 (λ same. absurd (omega (arith, same)))
          ∙ get_or-set_same (set words 3 (minor + 1)) 4 (major + 1) 0 (omega (arith, first));
      separator_is = get_or-set_same (set (set words 3 (minor + 1)) 4 (major + 1)) 5 separator 0 (omega (arith, second));
    }

pub moved_is : (word : ℕ) → word ≡ open_word 16 → word + 2 ^ 62 ≡ moved_word 16
moved_is word is = let e : word ≡ 256 + 16 = is ∙ (let f : open_word 16 ≡ 256 + 16 = omega arith in f) in omega (arith, e)

-- ---- what the split asks

module _ (t half minor major : ℕ) (sp : Span) (keys : List Key) (k : Key) (entries sorted : List Entry) (v p : View)
    (can : CanTurn v t sp keys k entries sorted minor major)
    (is : p ≡ restored t keys (twin_words minor major (separator_of sorted) can.words) 3 (entered half v)) where
  -- what is known of the records is known still
  moved_still : AreMoved (restored t keys (twin_words minor major (separator_of sorted) can.words) 3 (entered half v)) t sp keys k entries
  moved_still = record {
    many = can.moved.many;
    full = can.moved.full;
    once = can.moved.once;
    inside = can.moved.inside;
    new = can.moved.new;
    own = can.moved.own;
    read = λ i q less at.
        let r = can.moved.read i q less at in record { key = r.key; entry = r.entry; value = r.value };
    last = can.moved.last;
    locks = can.moved.locks;
    took = can.moved.took;
  }

  pub still_moved : AreMoved p t sp keys k entries
  still_moved = subst (λ (z : View). AreMoved z t sp keys k entries) (sym is) moved_still

  halves : AreParted sp sorted
  halves = parted v t sp keys k entries can.moved sorted can.order

  from_sorted : (e : Entry) → Contains sorted e → Contains entries e
  from_sorted e has = Contains-permutation sorted entries e (IsPermutation-sym entries sorted can.order.same) has

  -- each record of a part moves
  part_moves : (part : List Entry) (x : NewLeaf) → x.keys ≡ keys_of sp.storage part → x.contents ≡ contents_of part
      → ((e : Entry) → Contains part e → Contains sorted e) → AreMoving p keys x
  part_moves part x keys_is contents_is within i q c key content =
      let a = at_map (key_of sp.storage) part i no_entry q (sym (ap (λ (l : List Key). slice_get l i) keys_is) ∙ key) in
      let b = at_map content_of part i no_entry c (sym (ap (λ (l : List Content). slice_get l i) contents_is) ∙ content) in
      let has : Contains part (get_or part i no_entry) = Contains-get_or part i no_entry a.0 in
      subst (λ (z : Key). IsMoving p keys z c) a.1
      (subst (λ (d : Content). IsMoving p keys (key_of sp.storage (get_or part i no_entry)) d) b.1
      (entry_moves p t sp keys k entries still_moved (get_or part i no_entry)
      (from_sorted (get_or part i no_entry) (within (get_or part i no_entry) has))))

  -- each key of the leaf is one of the halves
  pub old_there : (q : Key) → has_key keys q ≡ true → has_key (keys_of sp.storage sorted) q ≡ true
  old_there q has =
      let r = key_from sp.storage entries q
      (ap (λ (l : List Key). has_key l q) (entry_keys v t sp keys k entries can.moved)
      ∙ any_push_old (λ x. same_key x q) keys k has) in
      subst (λ (z : Key). has_key (keys_of sp.storage sorted) z ≡ true) r.2
      (key_to sp.storage sorted r.0 (Contains-permutation entries sorted r.0 can.order.same r.1))

  pub can_split : (n : ℕ) → n ≡ moved_word 16
      → CanSplit p t sp (lower_of minor sp sorted) (upper_of major sp sorted) (keys_of sp.storage sorted)
      (separator_of sorted) n
  can_split n word =
      let leaves : p.new_leaves ≡ upper_of major sp sorted ∷ lower_of minor sp sorted ∷ [] =
      ap (λ (z : View). z.new_leaves) is ∙ can.leaves in
      let twins = twins_stand minor major (separator_of sorted) can.words can.one.long in
      let many = halves.order.many in
      record {
        page = record {
          way = subst (λ (l : List Way). Contains l (record { slot = t; span = sp })) (sym (ap (λ (z : View). z.ways) is)) can.page.way;
          tree = subst (λ (y : Layout). is_tree y.decls sp.storage ≡ true) (sym (ap (λ (z : View). z.layout) is)) can.page.tree;
        };
        head = head_of t keys (twin_words minor major (separator_of sorted) can.words);
        has = subst (λ (l : List Head). Contains l (head_of t keys (twin_words minor major (separator_of sorted) can.words)))
            (sym (ap (λ (z : View). z.heads) is))
            (in_head (head_of t keys (twin_words minor major (separator_of sorted) can.words)) []);
        slot = refl;
        full = can.moved.full;
        to_minor = twins.minor_is;
        to_major = twins.major_is;
        separates = twins.separator_is;
        lower_made = subst (λ (l : List NewLeaf). Contains l (lower_of minor sp sorted)) (sym leaves)
            (in_tail (lower_of minor sp sorted) (upper_of major sp sorted) (lower_of minor sp sorted ∷ [])
            (in_head (lower_of minor sp sorted) []));
        upper_made = subst (λ (l : List NewLeaf). Contains l (upper_of major sp sorted)) (sym leaves)
            (in_head (upper_of major sp sorted) (lower_of minor sp sorted ∷ []));
        apart = can.apart;
        parts = separates sp sorted halves;
        lower_span_is = refl;
        upper_span_is = refl;
        lower_keys = length-map (take 8 sorted) (key_of sp.storage) ∙ length-take-le 8 sorted (omega (arith, many));
        upper_keys = length-map (drop 8 sorted) (key_of sp.storage)
            ∙ (let left = length-drop 8 sorted in omega (arith, left, many));
        keys_are = keys_are sp keys sorted halves (λ q has. old_there q has);
        first = separator_there sp sorted halves;
        old = λ q has. ap (λ (l : List Key). has_key l q) (ap (λ (z : View). z.seat.locks) is ∙ can.moved.locks) ∙ has;
        lower_moves = part_moves (take 8 sorted) (lower_of minor sp sorted) refl refl (λ e has. take_in sorted 8 e has);
        upper_moves = part_moves (drop 8 sorted) (upper_of major sp sorted) refl refl (λ e has. drop_in sorted 8 e has);
        word = word;
        worker = subst (λ (r : Role). r ≡ Keeper → ⊥) (sym (ap (λ (z : View). z.role) is)) can.worker;
        idle = ap can_begin (ap (λ (z : View). z.seat.stage) is ∙ can.idle);
      }
