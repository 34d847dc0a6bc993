use Rattle.std.proofs.Common.{◌≡◌, refl, sym, ap, subst, ◌∙◌, rules}
use Rattle.std.proofs.lemmas.Bool.{false≢true}
use Rattle.wire_form.specs.Savepoint.{IsSavepoint, body_words}
use Rattle.wire_form.proofs.SavepointLemmas.{same_point, equal_to_itself}
use Rattle.wire_form.proofs.savepoint.savepoint_of.Goals.{else-is_valid-via-then-is_valid+else-eq, else-is_valid-via-else-is_valid}
use Rattle.wire_form.proofs.savepoint.savepoint_of.Goals as goal

pub returns-then-eq : goal.returns-then-eq
returns-then-eq c = (
  record {
    valid = search rules;
    spelled = search rules;
    only = λ u is written. same_point u c.args.words.now _ _ _ _ _ is written refl c.field.ensures c.field-2.ensures c.field-3.ensures c.copy_from_slice.ensures.after;
  },
  tt,
)

pub returns-else-is_valid : goal.returns-else-is_valid
returns-else-is_valid c = (
  tt,
  λ u is written.
      let same = same_point u c.args.words.now _ c.field.result c.field-2.result c.field-3.result c.copy_from_slice.new.self is written refl c.field.ensures c.field-2.ensures c.field-3.ensures c.copy_from_slice.ensures.after in
      elim c.else-is_valid.branch [
        | else-is_valid-via-then-is_valid+else-eq w ↦
            let e : w.body.result ≡ c.args.words.now = w.body.ensures ∙ ap body_words (sym same) ∙ written in
            let f = rw e at w.if-eq.ensures in
            false≢true (f ∙ equal_to_itself c.args.words.now)
        | else-is_valid-via-else-is_valid w ↦ false≢true (w.if-is_valid.ensures.1 (subst IsSavepoint same is))
      ],
)
