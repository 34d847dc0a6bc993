-- What is kept, with more entries and with what was kept of others.
use Rattle.std.proofs.Common.{◌≡◌, List, [], ◌∷◌, ◌++◌, Option, Some, None, inl, inr, refl, sym, ap, subst, ◌∙◌, map, arith}
use Rattle.std.specs.BTreeMap as tree
use Rattle.std.specs.BTreeMap.{BTreeMap}
use Rattle.std.specs.List.{Contains}
use Rattle.std.proofs.lemmas.List.Elements.{Contains-append_left, Contains-append_right, Contains-append_cases}
use Rattle.std.proofs.lemmas.Map.Views.{btree_map_get_iff}
use Rattle.lists.specs.Elements.{in_cases, in_head, in_none, in_tail}
use Rattle.serial_model.specs.Keys.{key_cmp}
use Rattle.serial_model.specs.KeyOrder.{keys_total, exact_keys}
use Rattle.serial_model.specs.declared.key.Key.{Key}
use Rattle.wire_form.specs.declared.bucket.Entry.{Entry}
use Rattle.log_reducer.specs.declared.latest.Logged.{Logged}
use Rattle.log_reducer.specs.Gathered.{KeepsLatest}
use Rattle.log_reducer.specs.Latest.{kept_of, entry_in}
use Rattle.log_reducer.specs.Reduced.{AreLast, IsNoLater, entry_key}
use Rattle.log_reducer.proofs.KeptLemmas.{kept_is, kept_some, kept_stays, no_later_then}
use Rattle.log_reducer.proofs.Lasts.{at_key, of_key, of_their_keys, rises}

-- more entries, one after another
pub keeps_more : (all more : List Logged) (was is : Key → Option Logged) → KeepsLatest all was
    → ((key : Key) → is key ≡ kept_of key (was key) more) → KeepsLatest (all ++ more) is
keeps_more all more was is keeps goes = record {
  each = λ e has. elim (Contains-append_cases all more e has) [
    | inl old ↦
        let one = keeps.each e old in
        let on = kept_stays e.entry.key one.0 more in
        (on.0, goes e.entry.key ∙ ap (λ o. kept_of e.entry.key o more) one.1 ∙ on.1)
    | inr new ↦ let one = kept_some e.entry.key (was e.entry.key) more e new refl in (one.0, goes e.entry.key ∙ one.1)
  ];
  latest = λ key f at.
      let kept = kept_is key (was key) more f (sym (goes key) ∙ at) in
      let has : Contains (all ++ more) f × (f.entry.key ≡ key) = elim kept.one [
        | inl old ↦ let one = keeps.latest key f old in (Contains-append_left all more f one.0, one.1)
        | inr new ↦ (Contains-append_right all more f new.0, new.1)
      ] in (
        has.0,
        has.1,
        λ e there same. elim (Contains-append_cases all more e there) [
          | inl old ↦
              let one = keeps.each e old in
              let at_last : was key ≡ Some one.0 = ap was (sym same) ∙ one.1 in
              no_later_then e one.0 f ((keeps.latest key one.0 at_last).2 e old same) (kept.old_is one.0 at_last)
          | inr new ↦ kept.new_are e new same
        ],
      );
}

-- a value of a map stands at some key
value_at : (es : List (Key × Logged)) (f : Logged) → Contains (map (λ e. e.1) es) f → (k : Key) × Contains es (k, f)
value_at [] f has = absurd (in_none f has)
value_at (e ∷ es) f has = elim (in_cases f e.1 (map (λ x. x.1) es) has) [
  | inl here ↦ (e.0, subst (λ x. Contains (e ∷ es) (e.0, x)) here (in_head e es))
  | inr later ↦ let rest = value_at es f later in (rest.0, in_tail (rest.0, f) e es rest.1)
]

at_value : (es : List (Key × Logged)) (k : Key) (f : Logged) → Contains es (k, f) → Contains (map (λ e. e.1) es) f
at_value [] k f has = absurd (in_none (k, f) has)
at_value (e ∷ es) k f has = elim (in_cases (k, f) e es has) [
  | inl here ↦ subst (λ (x : Key × Logged). Contains (e.1 ∷ map (λ y. y.1) es) x.1) here (in_head e.1 (map (λ y. y.1) es))
  | inr later ↦ in_tail f e.1 (map (λ y. y.1) es) (at_value es k f later)
]

-- what was kept of others stands for them
pub keeps_both : (all more : List Logged) (m : BTreeMap Key Logged) (is : Key → Option Logged) → tree.IsOrdered key_cmp m
    → KeepsLatest more (tree.get key_cmp m) → KeepsLatest (all ++ tree.values m) is → KeepsLatest (all ++ more) is
keeps_both all more m is ordered others keeps = record {
  each = λ e has. elim (Contains-append_cases all more e has) [
    | inl old ↦ keeps.each e (Contains-append_left all (tree.values m) e old)
    | inr new ↦
        let one = others.each e new in
        let at = (btree_map_get_iff keys_total exact_keys m ordered e.entry.key one.0).0 one.1 in
        let f = keeps.each one.0 (Contains-append_right all (tree.values m) one.0 (at_value m.entries e.entry.key one.0 at)) in
        (f.0, ap is (sym (others.latest e.entry.key one.0 one.1).1) ∙ f.1)
  ];
  latest = λ key f at.
      let kept = keeps.latest key f at in
      let has : Contains (all ++ more) f = elim (Contains-append_cases all (tree.values m) f kept.0) [
        | inl old ↦ Contains-append_left all more f old
        | inr new ↦
            let place = value_at m.entries f new in
            let there = (btree_map_get_iff keys_total exact_keys m ordered place.0 f).1 place.1 in
            Contains-append_right all more f (others.latest place.0 f there).0
      ] in (
        has,
        kept.1,
        λ e there same. elim (Contains-append_cases all more e there) [
          | inl old ↦ kept.2 e (Contains-append_left all (tree.values m) e old) same
          | inr new ↦
              let one = others.each e new in
              let last = others.latest e.entry.key one.0 one.1 in
              let place = (btree_map_get_iff keys_total exact_keys m ordered e.entry.key one.0).0 one.1 in
              no_later_then e one.0 f (last.2 e new refl)
              (kept.2 one.0 (Contains-append_right all (tree.values m) one.0 (at_value m.entries e.entry.key one.0 place)) (last.1 ∙ same))
        ],
      );
}

-- what is kept is a run
pub keeps_last : (m : BTreeMap Key Logged) (all : List Logged) → tree.IsOrdered key_cmp m → KeepsLatest all (tree.get key_cmp m)
    → AreLast all (map entry_in (tree.values m))
keeps_last m all ordered keeps = record {
  each = λ e has.
      let one = keeps.each e has in
      let at = (btree_map_get_iff keys_total exact_keys m ordered e.entry.key one.0).0 one.1 in
      (one.0.entry, of_key m.entries e.entry.key one.0 at, (keeps.latest e.entry.key one.0 one.1).1);
  latest = λ r has.
      let at = at_key m.entries r has in
      let kept = keeps.latest at.0 at.1 ((btree_map_get_iff keys_total exact_keys m ordered at.0 at.1).1 at.2) in
      (at.1, kept.0, at.3, λ e there same. kept.2 e there (same ∙ ap entry_key (sym at.3) ∙ kept.1));
  rising = rises None m.entries ordered (of_their_keys m.entries (λ k f has. (keeps.latest k f ((btree_map_get_iff keys_total exact_keys m ordered k f).1 has)).1)) (λ l none. absurd (cc));
}
