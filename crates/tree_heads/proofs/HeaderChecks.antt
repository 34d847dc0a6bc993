-- A check of a header: a load of its word.
use Rattle.std.proofs.Common.{◌≡◌, ◌≢◌, inl, ℕ, Bool, true, false, true≢false, eqb, eqb-true, eq-eqb, List, length, get_or}
use Rattle.std.proofs.Common.{refl, sym, ap, ◌∙◌, subst, arith}
use Rattle.std.specs.Prelude.{◌&&◌, MatchBool}
use Rattle.std.proofs.lemmas.Bool.{and_from, and_left}
use Rattle.atomic_table.specs.Table.{Me, Allows}
use Rattle.homes.specs.declared.places.Holder.{Holder}
use Rattle.homes.specs.declared.places.Holder.TheVariants.{Free, Held, Dead}
use Rattle.homes.specs.declared.places.Span.{Span}
use Rattle.homes.specs.Homes.{is_free}
use Rattle.commit_core.specs.declared.part.Part.{Part}
use Rattle.commit_core.specs.declared.part.Version.{Version}
use Rattle.commit_core.specs.declared.part.Version.TheVariants.{Counted}
use Rattle.commit_core.specs.declared.part.Word.TheVariants.{Header}
use Rattle.drop_core.specs.declared.table.Page.{Page}
use Rattle.drop_core.specs.declared.table.Page.TheVariants.{Blank, Leaf, Inner, Split}
use Rattle.drop_core.specs.Table.{header_of, page_of}
use Rattle.engine_rule.specs.declared.event.JointAct.TheVariants.{CheckHeader}
use Rattle.engine_rule.specs.JointState.{counts_so, is_header_so}
use Rattle.engine_pages.specs.declared.layout.Layout.{Layout}
use Rattle.engine_pages.specs.declared.view.View.{View}
use Rattle.engine_pages.specs.Layout.{page_at}
use Rattle.engine_pages.specs.Rule.{Shared, Shows}
use Rattle.engine_pages.specs.Views.{IsActive, seat_number}
use Rattle.engine_pages.specs.Words.{head_word, lock_field}
use Rattle.engine_pages.proofs.Joint.{Laws}
use Rattle.engine_pages.proofs.Turns.{Stride, Begins, allows_at}
use Rattle.page_records.specs.Attempts.{failed_at}
use Rattle.pointer_checks.proofs.CheckWords.{Tries, Confirms, word_checked, checked_stride, failed_stride}
use Rattle.tree_heads.specs.Checks.{CanCheckHeader, CheckedHeader, header_checked}
use Rattle.tree_heads.specs.Headers.{open_word}
use Rattle.tree_heads.proofs.TreeAt.{AtTree, Says, at_tree, fields, open_leaf, way_here}

no_more : (b : Bool) → (b && false) ≡ false
no_more true = refl
no_more false = refl

module _ (laws : Laws) (l : Layout) (words : List ℕ) (views : List View) (s : Shared) (id : ℕ) (v : View)
    (active : IsActive v.role) (b : Begins l words views s id v) (t : ℕ) (sp : Span) (word : ℕ)
    (can : CanCheckHeader v t sp word) where
  abbrev p : ℕ
  p = seat_number v.role

  abbrev at : ℕ
  at = page_at l.slots t 0

  abbrev n : ℕ
  n = get_or words at 0

  abbrev so : Version → Bool
  so = is_header_so s.table t

  abbrev version : Version
  version = Counted can.count

  a : AtTree l words s v t sp
  a = at_tree l words views s id v b t sp can.page

  -- the same word is an open leaf with as many records
  same_word_is : n ≡ word → so version ≡ true
  same_word_is same =
      let few = can.few in
      let seen : n ≡ open_word can.count = same ∙ can.seen in
      let fld = fields n can.count 1 0 false seen (omega arith) (omega arith) (inl refl) in
      let o = open_leaf l words views s id v b t sp a (omega (arith, seen, few)) fld.kind in
      let is = o.word in
      let many : length a.fence.keys ≡ can.count = omega (arith, seen, is) in
      and_from (is_free (header_of s.table t)) (counts_so (page_of s.table t) version) (ap is_free o.free)
      (ap (λ (y : Page). counts_so y version) o.leaf ∙ eq-eqb (length a.fence.keys) can.count many)

  -- another word is another count, or locked, or no leaf
  other_word_is : n ≢ word → so version ≡ false
  other_word_is other = by_page (page_of s.table t) refl a.shows
    where
      none : (page : Page) → page_of s.table t ≡ page → counts_so page version ≡ false → so version ≡ false
      none page laid other-count =
          ap (λ (y : Page). is_free (header_of s.table t) && counts_so y version) laid
          ∙ (ap (λ (c : Bool). is_free (header_of s.table t) && c) other-count ∙ no_more (is_free (header_of s.table t)))

      by_page : (page : Page) → page_of s.table t ≡ page → Says l words s t a.fence page → so version ≡ false
      by_page Blank laid shows = absurd shows
      by_page (Inner c) laid shows = none (Inner c) laid refl
      by_page Split laid shows = none Split laid refl
      by_page (Leaf keys) laid shows = by_count (eqb (length keys) can.count) refl
        where
          by_holder : (h : Holder) → header_of s.table t ≡ h → length keys ≡ can.count → so version ≡ false
          by_holder Free free many =
              let is : n ≡ head_word (length a.fence.keys) 1 (lock_field Free) false =
              shows.1 ∙ ap (λ (h : Holder). head_word (length a.fence.keys) 1 (lock_field h) false) free in
              absurd (other (is
              ∙ (ap (λ c. head_word c 1 0 false) (ap (λ q. length q) shows.0 ∙ many) ∙ sym can.seen)))
          by_holder (Held q) held many =
              and_left (is_free (header_of s.table t)) (counts_so (page_of s.table t) version) (ap is_free held)
          by_holder Dead dead many =
              and_left (is_free (header_of s.table t)) (counts_so (page_of s.table t) version) (ap is_free dead)

          by_count : (c : Bool) → eqb (length keys) can.count ≡ c → so version ≡ false
          by_count false e = none (Leaf keys) laid e
          by_count true e = by_holder (header_of s.table t) refl (eqb-true (length keys) can.count e)

  abbrev tries : Tries v (Header t) version
  tries = record {
    index = can.index;
    attempt = can.attempt;
    stage = can.stage;
    stands = can.stands;
    part = can.part;
    has = can.has;
    of = can.of;
    one = λ q in-parts same. ap (λ (z : Part). z.version) (can.one q in-parts same) ∙ can.version;
    unchecked = can.unchecked;
  }

  confirms : Confirms laws l words views s id v active b (Header t) (CheckHeader t) so version at tries
  confirms = record {
    allowed = refl;
    effect = refl;
    plain = refl;
    page = λ u i less few there here. way_here l words views s id v b t 0 sp can.page (omega arith) u i less few there here;
  }

  pub check_stride : (c : Bool) → eqb n word ≡ c → Stride l words views s p v at (λ k. k) (CheckedHeader t at word)
  check_stride true e =
      checked_stride laws l words views s id v active b (Header t) (CheckHeader t) so version at tries
      (same_word_is (eqb-true n word e)) confirms (CheckedHeader t at word)
      (subst (λ c. MatchBool c (word_checked (Header t) at n v ≡ header_checked t at n v) (word_checked (Header t) at n v ≡ failed_at at n v)) (sym e) refl)
  check_stride false e =
      failed_stride laws l words views s id v active b (Header t) (CheckHeader t) so version at tries
      (other_word_is (λ same. true≢false (sym (eq-eqb n word same) ∙ e))) confirms (CheckedHeader t at word)
      (subst (λ c. MatchBool c (failed_at at n v ≡ header_checked t at n v) (failed_at at n v ≡ failed_at at n v)) (sym e) refl)

pub checks_header : Laws → (l : Layout) (slots id : ℕ) (me : Me (Unit {0}) View) (t : ℕ) (sp : Span) (word : ℕ)
    → IsActive me.0.role → CanCheckHeader me.0 t sp word
    → Allows (λ s. Shows l s.words s.views) slots id me (page_at l.slots t 0) (λ k. k)
    (λ k now. (now.1 ≡ me.1) × CheckedHeader t (page_at l.slots t 0) word me.0 k now.0)
checks_header laws l slots id me t sp word active can =
    allows_at laws l slots id me (page_at l.slots t 0) (λ k. k) (CheckedHeader t (page_at l.slots t 0) word) active
    (λ words views s b. check_stride laws l words views s id me.0 active b t sp word can (eqb (get_or words (page_at l.slots t 0) 0) word) refl)
