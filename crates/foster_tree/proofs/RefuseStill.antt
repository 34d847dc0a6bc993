-- Why a record of a full leaf wasn't locked, told behind the opening of those that were.
use Rattle.std.proofs.Common.{◌≡◌, ℕ, ◌+◌, ◌*◌, ◌<◌, ◌≤◌, true, List, sym, ap, ◌∙◌, subst, arith, Some}
use Rattle.std.specs.List.{Contains}
use Rattle.engine_pages.specs.declared.layout.Layout.{Layout}
use Rattle.engine_pages.specs.declared.view.Known.{Known}
use Rattle.engine_pages.specs.declared.view.RefusalCause.{RefusalCause}
use Rattle.engine_pages.specs.declared.view.RefusalCause.TheVariants as causes
use Rattle.engine_pages.specs.declared.view.View.{View}
use Rattle.engine_pages.specs.declared.view.Way.{Way}
use Rattle.engine_pages.specs.Layout.{page_at}
use Rattle.engine_pages.specs.Pages.{is_tree}
use Rattle.page_records.specs.Ends.{IsLeafWordAt}
use Rattle.foster_tree.specs.Causes.{IsLeafWordChanged}
use Rattle.foster_tree.specs.Locking.{HasOpenedSome, RefusesOne}

-- the word is one of the leaf's still
pub leaf_word_still : (t j at : ℕ) (x w : View) → w.layout ≡ x.layout → w.ways ≡ x.ways → w.known ≡ x.known
    → IsLeafWordAt x t j at → IsLeafWordAt w t j at
leaf_word_still t j at x w layout ways known p = record {
  word = record {
    way = p.word.way;
    has = subst (λ (l : List Way). Contains l p.word.way) (sym ways) p.word.has;
    slot = p.word.slot;
    kind = subst (λ (y : Layout). is_tree y.decls p.word.way.span.storage ≡ true) (sym layout) p.word.kind;
    there = subst (λ (y : Layout). t < y.slots) (sym layout) p.word.there;
    index = p.word.index;
    word = p.word.word ∙ ap (λ (y : Layout). page_at y.slots t j) (sym layout);
  };
  leaf = p.leaf;
  knows = subst (λ (l : List Known). Contains l p.leaf) (sym known) p.knows;
  same = p.same;
  is = p.is;
}

-- so is what was seen there
pub changed_still : (t i at expected seen : ℕ) (v u x w : View) → v.steps ≤ u.steps
    → IsLeafWordChanged t (1 + (16 + 3 * i)) at expected seen u x → HasOpenedSome t i x w
    → IsLeafWordChanged t (1 + (16 + 3 * i)) at expected seen v w
changed_still t i at expected seen v u x w since changed open_again =
    let layout : w.layout ≡ x.layout = ap (λ (z : View). z.layout) open_again.is in
    let place = changed.place.word.word in
    record {
      place = leaf_word_still t (1 + (16 + 3 * i)) at x w layout (ap (λ (z : View). z.ways) open_again.is)
          (ap (λ (z : View). z.known) open_again.is) changed.place;
      saw = record {
        step = changed.saw.step;
        since = let a = changed.saw.since in omega (arith, a, since);
        last = open_again.last ∙ changed.saw.last;
        kept = changed.saw.kept;
        kept_is = changed.saw.kept_is ∙ sym (open_again.worked.words at);
        stands = open_again.still
            (record { word = at; seen = seen; was = Some expected; kept = changed.saw.kept }) changed.saw.stands
            (λ j less same.
            let e : page_at x.layout.slots t (1 + (16 + 3 * i)) ≡ page_at x.layout.slots t (1 + (16 + 3 * j)) =
            sym place ∙ same in absurd (omega (arith, e, less)));
      };
      cause = changed.cause;
    }

pub refused_still : (t i : ℕ) (why : RefusalCause) (v u x w : View) → v.steps ≤ u.steps → RefusesOne t i why u x
    → HasOpenedSome t i x w → RefusesOne t i why v w
refused_still t i (causes.Conflict at expected seen) v u x w since h opened =
    changed_still t i at expected seen v u x w since h opened
refused_still t i (causes.Full held) v u x w since h opened = absurd h
refused_still t i (causes.Wide set) v u x w since h opened = absurd h
refused_still t i (causes.NumberLimit clock) v u x w since h opened = absurd h
