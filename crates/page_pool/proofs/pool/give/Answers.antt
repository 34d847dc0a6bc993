use Rattle.std.proofs.Common.{◌≡◌, ◌++◌, [], ◌∷◌, sym, ap, ◌∙◌, subst, arith}
use Rattle.std.specs.Option.{option_or}
use Rattle.engine_pages.specs.declared.layout.Layout.{Layout}
use Rattle.engine_pages.specs.Passes.{view}
use Rattle.engine_pages.specs.Views.{IsActive}
use Rattle.page_pool.specs.Pool.{retired_one}
use Rattle.page_pool.proofs.SearchLaws.{retired_more, looks_on, first_found, ends_found}
use Rattle.page_pool.proofs.pool.give.Goals as goal

pub loop-slot-preserved : goal.loop-slot-preserved
loop-slot-preserved c =
    let t = c.loop-slot.slot in
    let n = c.look-word.result in
    let v = view c.args.pass.now in
    let u = view c.loop-slot.pass in
    let w = view c.look-word.new.pass in
    let so = c.loop-slot.invariant in
    let free = c.is_usable.ensures in
    record {
      of = c.look-word.ensures.of;
      active = subst (λ z. IsActive z.role) (sym c.look-word.ensures.looks) so.active;
      within =
          let room : c.slots-slots.result ≡ v.layout.slots =
          c.slots-slots.ensures.value ∙ ap (λ (y : Layout). y.slots) (sym c.requires.of.layout) in
          let less = c.loop-slot-test.true in omega (arith, room, less);
      words = so.words ++ n ∷ [];
      below = looks_on so.words t n v u w c.look-word.ensures.looks so.below (sym free ∙ c.if-is_usable.false);
      retired = c.first_of-held.ensures
          ∙ (ap (λ h. option_or h (retired_one t n)) so.retired
          ∙ sym (retired_more so.words 0 n t (omega (arith, so.below.count))));
    }

pub returns-then-is_usable-clause-given : goal.returns-then-is_usable-clause-given
returns-then-is_usable-clause-given c =
    let v = view c.args.pass.now in
    let so = c.loop-slot.invariant in
    (ends_found c.loop-slot.slot c.look-word.result v (view c.look-word.new.pass) (view c.try_one.new.pass) c.try_one.result
    (first_found so.words c.loop-slot.slot c.look-word.result v (view c.loop-slot.pass) (view c.look-word.new.pass)
    c.look-word.ensures.looks so.below (sym c.is_usable.ensures ∙ c.if-is_usable.true)
    (let room : c.slots-slots.result ≡ v.layout.slots =
    c.slots-slots.ensures.value ∙ ap (λ (y : Layout). y.slots) (sym c.requires.of.layout) in
    let less = c.loop-slot-test.true in omega (arith, room, less)))
    c.try_one.ensures.found).0

pub returns-then-is_usable-clause-missed : goal.returns-then-is_usable-clause-missed
returns-then-is_usable-clause-missed c =
    let v = view c.args.pass.now in
    let so = c.loop-slot.invariant in
    (ends_found c.loop-slot.slot c.look-word.result v (view c.look-word.new.pass) (view c.try_one.new.pass) c.try_one.result
    (first_found so.words c.loop-slot.slot c.look-word.result v (view c.loop-slot.pass) (view c.look-word.new.pass)
    c.look-word.ensures.looks so.below (sym c.is_usable.ensures ∙ c.if-is_usable.true)
    (let room : c.slots-slots.result ≡ v.layout.slots =
    c.slots-slots.ensures.value ∙ ap (λ (y : Layout). y.slots) (sym c.requires.of.layout) in
    let less = c.loop-slot-test.true in omega (arith, room, less)))
    c.try_one.ensures.found).1
