use Rattle.std.proofs.Common.{◌∙◌, ◌++◌, [], append-nil, ap, refl, rules, subst, sym}
use Rattle.std.proofs.lemmas.List.{map-append}
use Rattle.outside.specs.declared.device.Device.TheVariants.{Snaps}
use Rattle.wire_form.specs.declared.page.Page.{Page}
use Rattle.snapshot_store.specs.Content.{words_of}
use Rattle.gleaner.specs.Glean.{Composes}
use Rattle.gleaner.proofs.Exits.{err_again, not_empty, not_err, not_ok, same_snap, words_within}
use Rattle.gleaner.proofs.gleaning.add.Goals as goal

-- ---- what is refused before a write

pub returns-in-Err-clause-some : goal.returns-in-Err-clause-some
returns-in-Err-clause-some g c is = not_ok _ _ is

pub returns-in-Err-clause-gleaned : goal.returns-in-Err-clause-gleaned
returns-in-Err-clause-gleaned g c at new is = absurd (not_ok _ _ is)

pub returns-in-Err-clause-device : goal.returns-in-Err-clause-device
returns-in-Err-clause-device g c device is = absurd (c.in-Err.ensures.only.0 device (err_again _ _ is))

pub returns-in-Err-clause-undamaged : goal.returns-in-Err-clause-undamaged
returns-in-Err-clause-undamaged g c device at is = c.in-Err.ensures.only.1 device at (err_again _ _ is)

pub returns-in-Err-clause-deep : goal.returns-in-Err-clause-deep
returns-in-Err-clause-deep g c is = c.in-Err.ensures.deep (err_again _ _ is)

pub returns-in-Err-clause-limit : goal.returns-in-Err-clause-limit
returns-in-Err-clause-limit g c have new most is = c.in-Err.ensures.limit have new most (err_again _ _ is)

pub returns-in-Err-clause-pages : goal.returns-in-Err-clause-pages
returns-in-Err-clause-pages g c = record {
  grows = ([], sym (append-nil c.args.store.now.pages));
  front = search rules;
  told = refl;
  sound = tt;
  holds = tt;
  kept = λ other. (refl, refl);
  unsound = λ is. absurd (c.in-Err.ensures.only.0 Snaps (err_again _ _ is));
  quiet = λ fine. refl;
}

-- ---- what was added

pub returns-clause-some : goal.returns-clause-some
returns-clause-some g c is = not_empty _ _ is

pub returns-clause-device : goal.returns-clause-device
returns-clause-device g c device is = absurd (not_err _ _ is)

pub returns-clause-undamaged : goal.returns-clause-undamaged
returns-clause-undamaged g c device at is = not_err _ _ is

pub returns-clause-deep : goal.returns-clause-deep
returns-clause-deep g c is = absurd (not_err _ _ is)

pub returns-clause-limit : goal.returns-clause-limit
returns-clause-limit g c have new most is = absurd (not_err _ _ is)

pub returns-clause-gleaned : goal.returns-clause-gleaned
returns-clause-gleaned g c at new is =
    let so = same_snap c.args.epoch c.len.result at new is in (
      so.0,
      words_of c.in-Ok.pages,
      ap words_of c.in-Ok-append_durably.ensures.pages ∙ map-append (λ (p : Page). p.words) c.args.store.now.pages
          c.as_slice.result.now
          ∙ ap (λ l. words_of c.args.store.now.pages ++ words_of l) c.as_slice.ensures,
      words_within c.args.store.now.pages new c.len.result _ c.args.room so.1 c.len.ensures.value
          c.in-Ok.ensures.within,
      λ buckets last. subst (λ n. Composes (words_of c.args.store.now.pages) c.args.newest buckets c.args.epoch
          (words_of c.in-Ok.pages) n)
          (sym (so.1 ∙ c.len.ensures.value)) (c.in-Ok.ensures.composed buckets last),
    )

pub returns-clause-pages : goal.returns-clause-pages
returns-clause-pages g c =
    let e = c.in-Ok-append_durably.ensures in record {
      grows = (c.as_slice.result.now, e.pages);
      front = c.append_durably.ensures.runs;
      told = c.append_durably.ensures.told;
      sound = e.sound;
      holds = e.holds;
      kept = tt;
      unsound = λ is. absurd (not_err _ _ is);
      quiet = λ fine. e.quiet;
    }
