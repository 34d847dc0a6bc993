-- The pages of a snapshot are published that was made.
use Rattle.std.proofs.Common.{◌≡◌, ◌∙◌, ap, refl, subst, sym, ℕ, List}
use Rattle.snapshot_store.specs.Content.{words_of}
use Rattle.round_engine.specs.Gleans.{CanPublish, Gleans, counted_after, pages_after}
use Rattle.round_engine.specs.Standing.{RuntimeState, Standing}
use Rattle.round_engine.proofs.GleanLine.{can_publish}
use Rattle.round_engine.proofs.gleans.glean_closed.Goals as goal

pub publish_made-requires : goal.publish_made-requires
publish_made-requires g c =
    let old = c.args.runtime.now in
    let mid = c.glean_side-gleaned.new.runtime in
    let answer = c.glean_side-gleaned.result.answer in
    let pages = pages_after answer old.stands.pages (words_of mid.store.pages) in
    let same : mid.stands ≡ old.stands = c.glean_side-gleaned.ensures.stands in
    record {
      can = λ has. subst (λ (s : Standing). CanPublish mid.store.pages s) (sym same)
          (can_publish g.D.Disk.faults old c.args.vault.now c.requires.ready answer c.glean_side-gleaned.result.beside
          (c.glean_side-gleaned.ensures.gleans pages refl) has);
    }

pub returns : goal.returns
returns g c =
    let old = c.args.runtime.now in
    let mid = c.glean_side-gleaned.new.runtime in
    let answer = c.glean_side-gleaned.result.answer in
    let pages = c.publish_made.new.runtime.stands.pages in
    let same : mid.stands ≡ old.stands = c.glean_side-gleaned.ensures.stands in
    let gleaned = c.glean_side-gleaned.ensures.gleans pages (c.publish_made.ensures.published
    ∙ ap (λ (s : Standing). pages_after answer s.pages (words_of mid.store.pages)) same) in
    let is = c.runtime.view_is ∙ c.publish_made.ensures.alone in
    let count = c.counted_behind-runtime-inside.result in
    let counts = c.counted_behind-runtime-inside.ensures
    ∙ ap (counted_after answer) (ap (λ (r : RuntimeState). r.counted) is ∙ c.glean_side-gleaned.ensures.counted) in
    let all = ap (λ (r : RuntimeState). record r { counted = count }) is
    ∙ (ap (λ (s : Standing). record mid { stands = record s { pages = pages }; counted = count }) same
    ∙ ap (λ (l : List ℕ). record mid { stands = record old.stands { pages = pages }; counted = l }) counts) in
    record {
      gleans = subst (λ (r : RuntimeState). Gleans g.D.Disk.tells g.D.Disk.clock g.D.Disk.image_at g.D.Disk.faults old r
          c.args.vault.now c.glean_side-gleaned.new.vault answer c.glean_side-gleaned.result.beside) (sym all) gleaned;
    }
