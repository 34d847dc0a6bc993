-- What a pass knew of a word on the way to a key, before it came there, is over the key.
use Rattle.std.proofs.Common.{◌≡◌, ℕ, true, refl, sym, ap, ◌∙◌, subst}
use Rattle.std.specs.Prelude.{Contains}
use Rattle.lists.specs.Fronts.{front_refl}
use Rattle.serial_model.specs.declared.key.Key.{Key}
use Rattle.homes.specs.declared.places.Span.{Span}
use Rattle.homes.specs.Homes.{in_span}
use Rattle.homes.specs.Laws.{in_span-parts}
use Rattle.engine_pages.specs.declared.layout.Layout.{Layout}
use Rattle.engine_pages.specs.declared.view.View.{View}
use Rattle.engine_pages.specs.declared.view.Way.{Way}
use Rattle.engine_pages.specs.Agreement.{TreesAgree}
use Rattle.engine_pages.specs.Pages.{is_tree}
use Rattle.engine_pages.specs.Pointers.{WaysAgree}
use Rattle.page_commit.specs.Needs.{ArePointersOver, AreWaysOver}
use Rattle.page_commit.specs.Places.{ground, slot_of, IsPointerIn}
use Rattle.page_commit.specs.Turning.{IsHeaderOver, OnlyWalked}
use Rattle.page_commit.proofs.GrowLaws.{one_span, pointer_grown, KnowsMore}
use Rattle.page_commit.proofs.TurnLaws.{walks_layout}

-- ---- by what is known there

pub pointer_known : (k : Key) (at : ℕ) (v w : View) (sp : Span) → KnowsMore v w → WaysAgree w.ways → TreesAgree w
    → IsPointerIn (ground w) sp at → in_span sp k ≡ true → ArePointersOver k v at
pointer_known k at v w sp more agree trees place over tp here =
    let same : sp ≡ tp = one_span w sp tp at agree trees place (pointer_grown v w tp at more here) in
    subst (λ (s : Span). in_span s k ≡ true) same over

pub ways_known : (k : Key) (at : ℕ) (v w : View) (way : Way) → KnowsMore v w → TreesAgree w → Contains w.ways way
    → way.slot ≡ slot_of w.layout.slots at → is_tree w.layout.decls k.storage ≡ true → in_span way.span k ≡ true
    → AreWaysOver k v at
ways_known k at v w way more trees has slot tree over x old same =
    let kind : is_tree w.layout.decls way.span.storage ≡ true =
    subst (λ (i : ℕ). is_tree w.layout.decls i ≡ true) (in_span-parts way.span k over).0 tree in
    let here : way.slot ≡ x.slot = slot ∙ (ap (λ (l : Layout). slot_of l.slots at) more.layout ∙ sym same) in
    let spans : way.span ≡ x.span = trees.spans way x has (more.ways x old) here kind in
    subst (λ (s : Span). in_span s k ≡ true) spans over

pub header_known : (k : Key) (at : ℕ) (v w : View) → KnowsMore v w → TreesAgree w → IsHeaderOver w k at
    → AreWaysOver k v at
header_known k at v w more trees h = ways_known k at v w h.way more trees h.has h.slot h.tree h.over

-- ---- since before

-- a pointer that was known is known still
pointer_walked : (u v : View) (sp : Span) (at : ℕ) → OnlyWalked u v → IsPointerIn (ground u) sp at
    → IsPointerIn (ground v) sp at
pointer_walked u v sp at only here =
    let mid : View = record u { ways = v.ways; known = v.known; inners = v.inners } in
    let more : KnowsMore u mid =
    record {
      layout = refl;
      ways = only.ways;
      known = only.known;
      inners = only.inners;
      leads = λ x has. has;
      pages = front_refl u.pages;
    } in
    subst
    (λ (l : Layout). IsPointerIn (record { layout = l; ways = v.ways; known = v.known; inners = v.inners }) sp at)
    (sym (walks_layout u v only)) (pointer_grown u mid sp at more here)

pub pointers_before : (k : Key) (at : ℕ) (u v : View) → OnlyWalked u v → ArePointersOver k v at → ArePointersOver k u at
pointers_before k at u v only over sp here = over sp (pointer_walked u v sp at only here)

pub ways_before : (k : Key) (at : ℕ) (u v : View) → OnlyWalked u v → AreWaysOver k v at → AreWaysOver k u at
ways_before k at u v only over x has same =
    over x (only.ways x has) (same ∙ ap (λ (l : Layout). slot_of l.slots at) (sym (walks_layout u v only)))
