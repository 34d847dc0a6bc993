use Rattle.std.proofs.Common.{◌≡◌, ◌≤◌, ◌+◌, ◌*◌, ◌++◌, List, length, refl, ap, sym, subst, ◌∙◌, arith, rules, length-append}
use Rattle.wire_form.specs.declared.page.Page.{Page}
use Rattle.outside.specs.Fronts.{keeps_torn}
use Rattle.snapshot_store.specs.Store.{StoreState, NumberedFrom, HoldsPages, bytes_of_pages}
use Rattle.snapshot_store.proofs.Pages.{numbered_append}
use Rattle.snapshot_store.proofs.Writes.{holds_written, holds_torn, writes_same}
use Rattle.snapshot_store.proofs.store.SnapStore.append.Goals as goal

pub invariant_of-self : goal.invariant_of-self
invariant_of-self g c =
    let there = c.self.inside.pages.items in
    let viewed : there ≡ c.args.self.now.pages = ap (λ (s : StoreState). s.pages) c.self.view_is in
    let more = subst (λ (l : List Page). NumberedFrom (length l + 1) c.args.pages.now) (sym viewed) c.requires.numbered in
    let numbered = numbered_append 1 (length there + 1) there c.args.pages.now (omega arith) c.self.invariant.numbered more in
    let is = c.in-Ok.ensures.pages in
    record {
      numbered = rw is numbered;
      whole = c.in-Ok.ensures.whole;
      few = rw is (omega (arith, length-append there c.args.pages.now, ap length viewed));
    }

pub returns-in-Ok : goal.returns-in-Ok
returns-in-Ok g c =
    let there = c.self.inside.pages.items in
    let viewed : there ≡ c.args.self.now.pages = ap (λ (s : StoreState). s.pages) c.self.view_is in
    let held : HoldsPages g.D.Disk.tells c.args.disk.now there =
    subst (λ (l : List Page). HoldsPages g.D.Disk.tells c.args.disk.now l) (sym viewed) c.requires.holds in
    record {
      pages = c.in-Ok.ensures.pages ∙ ap (λ (l : List Page). l ++ c.args.pages.now) viewed;
      first = search rules;
      kept = tt;
      sound = search rules;
      limit = search rules;
      never_short = λ at is. cc is;
      device = λ is. absurd (cc is);
      untouched = tt;
      writes = writes_same (512 * length there) _ (bytes_of_pages c.args.pages.now) _
          (ap (λ (l : List Page). 512 * length l) viewed) refl c.in-Ok.ensures.writes;
      holds = subst (λ (l : List Page). HoldsPages g.D.Disk.tells c.add.new.disk l) (sym c.in-Ok.ensures.pages)
          (holds_written there c.args.pages.now c.self.invariant.whole held c.in-Ok.ensures.writes);
      stays = λ since front within begun keeps.
          keeps_torn (subst (λ (l : List Page). length front ≤ 512 * length l) (sym viewed) within) begun
          c.in-Ok.ensures.writes.moments keeps;
    }

pub returns-in-Err-Fault : goal.returns-in-Err-Fault
returns-in-Err-Fault g c =
    let there = c.self.inside.pages.items in
    let viewed : there ≡ c.args.self.now.pages = ap (λ (s : StoreState). s.pages) c.self.view_is in
    let held : HoldsPages g.D.Disk.tells c.args.disk.now there =
    subst (λ (l : List Page). HoldsPages g.D.Disk.tells c.args.disk.now l) (sym viewed) c.requires.holds in
    record {
      pages = tt;
      first = tt;
      kept = c.in-Err-Fault.ensures.kept ∙ viewed;
      sound = search rules;
      limit = search rules;
      never_short = search rules;
      device = search rules;
      untouched = search rules;
      writes = writes_same (512 * length there) _ (bytes_of_pages c.args.pages.now) _
          (ap (λ (l : List Page). 512 * length l) viewed) refl c.in-Err-Fault.ensures.writes;
      holds = subst (λ (l : List Page). HoldsPages g.D.Disk.tells c.add.new.disk l) (sym c.in-Err-Fault.ensures.kept)
          (holds_torn there _ c.self.invariant.whole held c.in-Err-Fault.ensures.writes);
      stays = λ since front within begun keeps.
          keeps_torn (subst (λ (l : List Page). length front ≤ 512 * length l) (sym viewed) within) begun
          c.in-Err-Fault.ensures.writes.moments keeps;
    }
