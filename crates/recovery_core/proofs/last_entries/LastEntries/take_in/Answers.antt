use Rattle.std.proofs.Common.{◌≡◌, ◌∙◌, Some, None, sym, ap}
use Rattle.std.specs.Prelude.{cond}
use Rattle.std.specs.FinMap as finite
use Rattle.std.specs.Ordering.{is_eq}
use Rattle.serial_model.specs.Keys.{key_cmp}
use Rattle.recovery_core.specs.EntriesLast.{is_later}
use Rattle.recovery_core.proofs.EntriesGreatest.{get_key, put_back, replaced}
use Rattle.recovery_core.proofs.last_entries.LastEntries.take_in.Goals as goal

-- the key had no entry
pub returns-in_default : goal.returns-in_default
returns-in_default c so_far has =
    let was : finite.get c.args.self.now c.args.entry.key ≡ None =
    sym (ap (λ m. finite.get m c.args.entry.key) c.self.view_is) ∙ get_key c.self.inside.map.entries c.args.entry.key
    ∙ sym c.in_ok-so_far.ensures.old ∙ c.in_default.is in
    replaced (finite.get c.args.self.now) (finite.get
    (finite.from_entries c.insert.new.self.entries)) so_far c.args.entry
    (ap (λ o. is_later o c.args.entry) was)
    (λ key.
    get_key c.insert.new.self.entries key ∙ c.in_ok-so_far.ensures.updates.0 key
    ∙ ap (λ o. cond (is_eq (key_cmp c.args.entry.key key)) (Some c.args.entry) o)
    (sym (get_key c.self.inside.map.entries key) ∙ ap (λ m. finite.get m key) c.self.view_is))
    has

-- it had an earlier one
pub returns-then-is_below : goal.returns-then-is_below
returns-then-is_below c so_far has =
    let was : finite.get c.args.self.now c.args.entry.key ≡ Some c.in-Some.so_far =
    sym (ap (λ m. finite.get m c.args.entry.key) c.self.view_is) ∙ get_key c.self.inside.map.entries c.args.entry.key
    ∙ sym c.in_ok-so_far.ensures.old ∙ c.in-Some.is in
    replaced (finite.get c.args.self.now) (finite.get
    (finite.from_entries c.insert.new.self.entries)) so_far c.args.entry
    (ap (λ o. is_later o c.args.entry) was ∙ sym c.is_below.ensures ∙ c.if-is_below.true)
    (λ key.
    get_key c.insert.new.self.entries key ∙ c.in_ok-so_far.ensures.updates.0 key
    ∙ ap (λ o. cond (is_eq (key_cmp c.args.entry.key key)) (Some c.args.entry) o)
    (sym (get_key c.self.inside.map.entries key) ∙ ap (λ m. finite.get m key) c.self.view_is))
    has

-- it had one that isn't earlier
pub returns : goal.returns
returns c so_far has =
    let was : finite.get c.args.self.now c.args.entry.key ≡ Some c.in-Some.so_far =
    sym (ap (λ m. finite.get m c.args.entry.key) c.self.view_is) ∙ get_key c.self.inside.map.entries c.args.entry.key
    ∙ sym c.in_ok-so_far.ensures.old ∙ c.in-Some.is in
    put_back (finite.get c.args.self.now) (finite.get (finite.from_entries c.insert.new.self.entries))
    (finite.get (finite.from_entries c.insert-2.new.self.entries)) so_far c.args.entry c.in-Some.so_far was
    (sym c.is_below.ensures ∙ c.if-is_below.false)
    (λ key.
    get_key c.insert.new.self.entries key ∙ c.in_ok-so_far.ensures.updates.0 key
    ∙ ap (λ o. cond (is_eq (key_cmp c.args.entry.key key)) (Some c.args.entry) o)
    (sym (get_key c.self.inside.map.entries key) ∙ ap (λ m. finite.get m key) c.self.view_is))
    (λ key.
    get_key c.insert-2.new.self.entries key ∙ c.in_ok-insert.ensures.updates.0 key
    ∙ ap (λ o. cond (is_eq (key_cmp c.args.entry.key key)) (Some c.in-Some.so_far) o)
    (sym (get_key c.insert.new.self.entries key)))
    has
