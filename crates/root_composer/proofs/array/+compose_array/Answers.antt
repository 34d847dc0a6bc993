use Rattle.std.proofs.Common.{◌≡◌, ◌+◌, ◌-◌, ◌/◌, ◌++◌, true, List, ◌∷◌, [], length, sym, ap, ◌∙◌, arith}
use Rattle.std.proofs.lemmas.List.{length-set, length-append, length-map}
use Rattle.wire_form.specs.declared.page.Page.{Page}
use Rattle.snapshot_store.specs.Content.{words_of}
use Rattle.root_composer.specs.Overlaid.{touches}
use Rattle.root_composer.specs.declared.last.Last.{Last}
use Rattle.root_composer.specs.ArrayWriter.{put_all}
use Rattle.root_composer.specs.ArrayCode.{array_one}
use Rattle.root_composer.proofs.OverlayLemmas.{touched_range}
use Rattle.root_composer.proofs.RangeLemmas.{put_all-within}
use Rattle.snapshot_store.specs.ReadLaws.{fan_is}
use Rattle.root_composer.proofs.ArrayCode.{next_stands, one_more_composed, code_begins, leaf_end, inner_end, as_pushed, depth_some}
use Rattle.root_composer.proofs.array.+compose_array.Goals as goal
use Rattle.root_composer.proofs.array.+compose_array.Goals.{then-p-lt32, else-p-lt32+else-loop-i-test}

pub overflow_sub-p : goal.overflow_sub-p
overflow_sub-p t c = touched_range c.args.run.now c.args.p.low c.args.p.high (sym c.has_entry.ensures ∙ c.if-not-has_entry.false)

pub loop-i-init : goal.loop-i-init
loop-i-init t c =
    let some = touched_range c.args.run.now c.args.p.low c.args.p.high (sym c.has_entry.ensures ∙ c.if-not-has_entry.false) in
    let begun = code_begins c.args.run.now c.args.size (words_of c.args.store.now.pages) c.args.made.now.items c.args.depth c.args.p c.page_words-words.result c.requires.stands some c.if-p-lt32.false c.page_words-words.ensures.is in
    record { bound = omega arith; some = begun.0; long = c.page_words-words.ensures.long; composed = begun.1 }

pub compose_array-requires : goal.compose_array-requires
compose_array-requires t c =
    let next = next_stands c.args.run.now c.args.size (words_of c.args.store.now.pages) (c.args.depth - 1) ((c.args.p.high - c.args.p.low + 1) / 64) c.args.p.low c.args.p.high c.loop-i.i c.loop-i.low c.page_words-words.result c.loop-i.words c.args.made.now.items c.loop-i.made.items
    (omega (arith, c.loop-i.invariant.long)) (omega (arith, fan_is)) c.loop-i.invariant.some c.loop-i.invariant.composed in
    let deep = depth_some c.args.size (words_of c.args.store.now.pages) c.args.depth c.args.p c.requires.stands in
    (omega arith, (next.0, (omega (arith, next.1, c.requires.range), c.requires.order)))

pub loop-i-preserved : goal.loop-i-preserved
loop-i-preserved t c = record {
  bound = omega (arith, c.loop-i.invariant.bound, c.requires.range);
  some = c.loop-i.invariant.some;
  long = length-set c.loop-i.words c.loop-i.i c.in_ok-words.field-0 ∙ c.loop-i.invariant.long;
  composed = one_more_composed c.args.run.now c.args.size (words_of c.args.store.now.pages) (c.args.depth - 1) ((c.args.p.high - c.args.p.low + 1) / 64) c.args.p.low c.args.p.high c.loop-i.i c.loop-i.low c.page_words-words.result c.loop-i.words c.args.made.now.items c.loop-i.made.items c.compose_array.new.made.items c.in_ok-words.field-0
      (omega (arith, c.loop-i.invariant.long)) (omega (arith, fan_is)) c.loop-i.invariant.some c.loop-i.invariant.composed c.in_ok-words.ensures;
}

pub returns : goal.returns
returns t c =
    let touched : touches c.args.run.now c.args.p.low c.args.p.high ≡ true = sym c.has_entry.ensures ∙ c.if-not-has_entry.false in
    let some = touched_range c.args.run.now c.args.p.low c.args.p.high touched in
    let pushed : c.push.new.self.items ≡ c.if-p-lt32.made.items ++ c.if-p-lt32.words ∷ [] = c.in_ok-push.ensures.items in
    let count : c.count.result + c.len.result ≡ length (words_of c.args.store.now.pages) + (length c.if-p-lt32.made.items + 1) =
    omega (arith, c.count.ensures.count, length-map c.args.store.now.pages (λ p. Page.words p), c.len.ensures, ap length pushed, length-append c.if-p-lt32.made.items (c.if-p-lt32.words ∷ [])) in
    as_pushed (words_of c.args.store.now.pages) c.args.made.now.items c.push.new.self.items c.if-p-lt32.made.items c.if-p-lt32.words (c.count.result + c.len.result) (array_one c.args.run.now (words_of c.args.store.now.pages) c.args.depth c.args.p (length (words_of c.args.store.now.pages) + length c.args.made.now.items)) pushed count
    (elim c.if-p-lt32.branch [
      | then-p-lt32 w ↦
          let same : c.if-p-lt32.made.items ≡ c.args.made.now.items = ap (λ v. v.items) w.made-is in
          leaf_end c.args.run.now c.args.size (words_of c.args.store.now.pages) c.args.made.now.items c.if-p-lt32.made.items c.args.depth c.args.p c.if-p-lt32.words c.page_words-words.result c.requires.stands some touched w.if-p-lt32.true c.page_words-words.ensures.is
          (w.words-is ∙ w.put_records.ensures
          ∙ ap (λ (l : List Last). put_all c.args.p.low c.args.p.high l c.page_words-words.result) w.within.ensures
          ∙ put_all-within c.args.p.low c.args.p.high c.args.run.now c.page_words-words.result) same
      | else-p-lt32+else-loop-i-test w ↦
          let same : c.if-p-lt32.made.items ≡ w.loop-i.made.items = ap (λ v. v.items) w.made-is in
          inner_end c.args.run.now c.args.size (words_of c.args.store.now.pages) c.args.made.now.items w.loop-i.made.items c.if-p-lt32.made.items c.args.depth w.loop-i.i w.loop-i.low c.args.p c.page_words-words.result w.loop-i.words c.if-p-lt32.words c.requires.stands some touched w.if-p-lt32.false
          w.loop-i.invariant.long (omega arith) c.page_words-words.ensures.is w.loop-i.invariant.composed same w.words-is
    ])
