-- The halves of a leaf that was split are entered: they aren't held before, and their keys are known then.
use Rattle.std.proofs.Common.{◌≡◌, ◌⊎◌, inl, inr, ℕ, ◌-◌, ◌<◌, ◌≤◌, Bool, true, false, eqb, eq-eqb, List, ◌∷◌}
use Rattle.std.proofs.Common.{refl, sym, ap, ◌∙◌, subst, arith}
use Rattle.std.specs.Prelude.{◌||◌}
use Rattle.std.specs.List.{Contains}
use Rattle.lists.specs.Elements.{in_head, in_tail}
use Rattle.homes.specs.declared.places.Span.{Span}
use Rattle.drop_core.specs.Event.{lower_span, upper_span}
use Rattle.drop_core.specs.Table.{has_slot}
use Rattle.engine_pages.specs.declared.layout.Layout.{Layout}
use Rattle.engine_pages.specs.declared.view.Moved.{Moved}
use Rattle.engine_pages.specs.declared.view.View.{View}
use Rattle.engine_pages.specs.declared.view.Way.{Way}
use Rattle.engine_pages.specs.Pages.{is_tree}
use Rattle.engine_pages.specs.Pointers.{ways_if}
use Rattle.engine_pages.specs.Slots.{entered}
use Rattle.engine_pages.specs.Steps.{read_at}
use Rattle.tree_heads.specs.Headers.{HasTwinWays, IsTreeAt}
use Rattle.page_drops.specs.Calls.{slots_on}
use Rattle.tree_drops.specs.Visits.{IsNarrower}
use Rattle.tree_drops.proofs.TreeHolds.{narrower_apart, or_not, way_of}

-- The pass holds the slots on its way, the last of which is that of a leaf over these keys that was split, as it knows;
-- the separator is one of the keys, and not the first.
pub record AtSplit (t : ℕ) (sp : Span) (x : Moved) (v : View) : Type 0 where
  pub holds : v.grip.holds ≡ slots_on v.ways
  pub page : IsTreeAt v t sp
  pub narrow : (way : Way) → Contains v.ways way → (way.span ≡ sp) ⊎ IsNarrower way.span sp
  pub has : Contains v.moved x
  pub slot : x.slot ≡ t
  pub low : sp.low < x.separator
  pub high : x.separator ≤ sp.high

-- a half is narrower than each way
half_narrow : (wide sp part : Span) → (wide ≡ sp) ⊎ IsNarrower wide sp → sp.low ≤ part.low → part.high ≤ sp.high
    → (sp.low < part.low) ⊎ (part.high < sp.high) → IsNarrower wide part
half_narrow wide sp part (inl same) from to less =
    subst (λ (z : Span). IsNarrower z part) (sym same) record { from = from; to = to; less = less }
half_narrow wide sp part (inr n) from to less =
    let low = n.from in
    let high = n.to in record {
      from = omega (arith, from, low);
      to = omega (arith, to, high);
      less = elim less [ inl more ↦ inl (omega (arith, more, low)) | inr more ↦ inr (omega (arith, more, high)) ];
    }

module _ (t : ℕ) (sp : Span) (x : Moved) (v : View) (a : AtSplit t sp x v) where
  abbrev lower : Span
  lower = lower_span sp x.separator

  abbrev upper : Span
  upper = upper_span sp x.separator

  pub lower_narrow : (way : Way) → Contains v.ways way → IsNarrower way.span lower
  lower_narrow way has =
      let low = a.low in
      let high = a.high in
      half_narrow way.span sp lower (a.narrow way has) (omega arith) (omega (arith, low, high)) (inr (omega (arith, low, high)))

  pub upper_narrow : (way : Way) → Contains v.ways way → IsNarrower way.span upper
  upper_narrow way has =
      let low = a.low in
      half_narrow way.span sp upper (a.narrow way has) (omega (arith, low)) (omega arith) (inl (omega (arith, low)))

  -- where a half were held, the load would know two ways into it
  half_unheld : (u : ℕ) (part : Span) (w : View) → part.storage ≡ sp.storage → ((way : Way) → Contains v.ways way → IsNarrower way.span part)
      → ((way : Way) → Contains v.ways way → Contains w.ways way)
      → (has_slot v.grip.holds u ≡ true → Contains w.ways (record { slot = u; span = part }))
      → ((one two : Way) → Contains w.ways one → Contains w.ways two → one.slot ≡ two.slot
      → is_tree w.layout.decls one.span.storage ≡ true → one.span ≡ two.span)
      → w.layout ≡ v.layout → has_slot v.grip.holds u ≡ false
  half_unheld u part w storage narrow old new spans layout =
      or_not (has_slot v.grip.holds u) (λ held.
      let one = way_of v.ways u (sym (ap (λ (l : List ℕ). has_slot l u) a.holds) ∙ held) in
      let own : Way = record { slot = u; span = part } in
      narrower_apart (one.0).span part (narrow one.0 one.1)
      (spans own one.0 (new held) (old one.0 one.1) (sym one.2)
      (ap (λ (l : Layout). is_tree l.decls part.storage) layout
      ∙ (ap (λ n. is_tree v.layout.decls n) storage ∙ a.page.tree))))

  module _ (at n : ℕ) (w : View) (h : HasTwinWays t sp at v n w) where
    ways_are : w.ways ≡ ways_if (has_slot v.grip.holds x.minor) x.minor lower
        (ways_if (has_slot v.grip.holds x.major) x.major upper v.ways)
    ways_are = ap (λ (z : View). z.ways) (h.is x a.has a.slot)

    kept_way : (b c : Bool) (m k : ℕ) (one two : Span) (ways : List Way) (way : Way) → Contains ways way
        → Contains (ways_if b m one (ways_if c k two ways)) way
    kept_way true true m k one two ways way has =
        in_tail way (record { slot = m; span = one }) (record { slot = k; span = two } ∷ ways)
        (in_tail way (record { slot = k; span = two }) ways has)
    kept_way true false m k one two ways way has = in_tail way (record { slot = m; span = one }) ways has
    kept_way false true m k one two ways way has = in_tail way (record { slot = k; span = two }) ways has
    kept_way false false m k one two ways way has = has

    old_ways : (way : Way) → Contains v.ways way → Contains w.ways way
    old_ways way has =
        subst (λ ws. Contains ws way) (sym ways_are)
        (kept_way (has_slot v.grip.holds x.minor) (has_slot v.grip.holds x.major) x.minor x.major lower upper v.ways way has)

    -- neither half is held, before they are entered
    pub minor_unheld : has_slot v.grip.holds x.minor ≡ false
    minor_unheld =
        half_unheld x.minor lower w refl lower_narrow old_ways
        (λ held.
        subst (λ ws. Contains ws (record { slot = x.minor; span = lower })) (sym ways_are)
        (subst (λ b. Contains (ways_if b x.minor lower (ways_if (has_slot v.grip.holds x.major) x.major upper v.ways))
        (record { slot = x.minor; span = lower })) (sym held)
        (in_head (record { slot = x.minor; span = lower }) (ways_if (has_slot v.grip.holds x.major) x.major upper v.ways))))
        h.trees.spans h.layout

    pub major_unheld : has_slot v.grip.holds x.major ≡ false
    major_unheld =
        half_unheld x.major upper w refl upper_narrow old_ways
        (λ held.
        subst (λ ws. Contains ws (record { slot = x.major; span = upper })) (sym ways_are)
        (major_in (has_slot v.grip.holds x.minor) held))
        h.trees.spans h.layout
      where
        major_in : (b : Bool) → has_slot v.grip.holds x.major ≡ true
            → Contains (ways_if b x.minor lower (ways_if (has_slot v.grip.holds x.major) x.major upper v.ways))
            (record { slot = x.major; span = upper })
        major_in true held =
            in_tail (record { slot = x.major; span = upper }) (record { slot = x.minor; span = lower })
            (ways_if (has_slot v.grip.holds x.major) x.major upper v.ways) (major_own held)
          where
            major_own : has_slot v.grip.holds x.major ≡ true
                → Contains (ways_if (has_slot v.grip.holds x.major) x.major upper v.ways) (record { slot = x.major; span = upper })
            major_own held =
                subst (λ c. Contains (ways_if c x.major upper v.ways) (record { slot = x.major; span = upper })) (sym held)
                (in_head (record { slot = x.major; span = upper }) v.ways)
        major_in false held =
            subst (λ c. Contains (ways_if c x.major upper v.ways) (record { slot = x.major; span = upper })) (sym held)
            (in_head (record { slot = x.major; span = upper }) v.ways)

    -- so the load is one of a word, and no way more is known
    pub looked_again : w ≡ read_at at n v
    looked_again =
        h.is x a.has a.slot
        ∙ (ap (λ b. let z : View = record (read_at at n v) {
          ways = ways_if b x.minor lower (ways_if (has_slot v.grip.holds x.major) x.major upper v.ways);
        } in z) minor_unheld
        ∙ ap (λ b. let z : View = record (read_at at n v) { ways = ways_if b x.major upper v.ways } in z) major_unheld)

-- ---- both are entered, and the header is loaded again

module _ (t : ℕ) (sp : Span) (x : Moved) (v c u : View) (at n : ℕ) (w : View) (a : AtSplit t sp x v)
    (minor_free : has_slot v.grip.holds x.minor ≡ false) (major_free : has_slot v.grip.holds x.major ≡ false)
    (first : c ≡ entered x.major v) (second : u ≡ entered x.minor c) (h : HasTwinWays t sp at u n w) where
  holds_now : u.grip.holds ≡ x.minor ∷ x.major ∷ v.grip.holds
  holds_now =
      ap (λ (z : View). z.grip.holds) second ∙ ap (λ hs. x.minor ∷ hs) (ap (λ (z : View). z.grip.holds) first)

  minor_held : has_slot u.grip.holds x.minor ≡ true
  minor_held =
      ap (λ hs. has_slot hs x.minor) holds_now
      ∙ ap (λ (b : Bool). b || has_slot (x.major ∷ v.grip.holds) x.minor) (eq-eqb x.minor x.minor refl)

  major_held : has_slot u.grip.holds x.major ≡ true
  major_held = ap (λ hs. has_slot hs x.major) holds_now ∙ by_minor (eqb x.minor x.major)
    where
      by_minor : (b : Bool) → (b || (eqb x.major x.major || has_slot v.grip.holds x.major)) ≡ true
      by_minor true = refl
      by_minor false = ap (λ (b : Bool). b || has_slot v.grip.holds x.major) (eq-eqb x.major x.major refl)

  pub ways_now : w.ways ≡ record { slot = x.minor; span = lower_span sp x.separator }
      ∷ record { slot = x.major; span = upper_span sp x.separator } ∷ v.ways
  ways_now =
      ap (λ (z : View). z.ways)
      (h.is x (subst (λ (z : View). Contains z.moved x) (sym (second ∙ ap (λ (z : View). entered x.minor z) first)) a.has) a.slot)
      ∙ (ap (λ b. ways_if b x.minor (lower_span sp x.separator)
      (ways_if (has_slot u.grip.holds x.major) x.major (upper_span sp x.separator) u.ways)) minor_held
      ∙ (ap (λ b. record { slot = x.minor; span = lower_span sp x.separator }
      ∷ ways_if b x.major (upper_span sp x.separator) u.ways) major_held
      ∙ ap (λ ws. record { slot = x.minor; span = lower_span sp x.separator }
      ∷ record { slot = x.major; span = upper_span sp x.separator } ∷ ws)
      (ap (λ (z : View). z.ways) second ∙ ap (λ (z : View). z.ways) first)))

  -- the slots that are held are those on the ways still
  pub holds_ways : w.grip.holds ≡ slots_on w.ways
  holds_ways =
      ap (λ (z : View). z.grip.holds)
      (h.is x (subst (λ (z : View). Contains z.moved x) (sym (second ∙ ap (λ (z : View). entered x.minor z) first)) a.has) a.slot)
      ∙ (holds_now
      ∙ (ap (λ hs. x.minor ∷ x.major ∷ hs) a.holds ∙ sym (ap slots_on ways_now)))
