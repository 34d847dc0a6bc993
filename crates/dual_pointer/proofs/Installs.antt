-- A slot is put in by a compare_exchange of a pointer.
use Rattle.std.proofs.Common.{◌≡◌, inl, inr, ℕ, Bool, true, false, eqb, eqb-true, List, ◌∷◌, get_or, refl, sym}
use Rattle.std.proofs.Common.{ap, subst}
use Rattle.std.specs.Prelude.{MatchBool}
use prog.Atomic.{either}
use Rattle.atomic_table.specs.Table.{Me, Allows}
use Rattle.lists.specs.Elements.{in_cases, in_tail}
use Rattle.homes.specs.declared.places.At.{At}
use Rattle.homes.specs.declared.places.Span.{Span}
use Rattle.drop_core.specs.Event.{installed as put_in}
use Rattle.drop_core.specs.Table.{has_slot}
use Rattle.engine_pages.specs.declared.layout.Layout.{Layout}
use Rattle.engine_pages.specs.declared.view.View.{View}
use Rattle.engine_pages.specs.declared.view.Way.{Way}
use Rattle.engine_pages.specs.Agreement.{TreesAgree}
use Rattle.engine_pages.specs.Pointers.{ways_if}
use Rattle.engine_pages.specs.Rule.{Shared, IsWay, Shows}
use Rattle.engine_pages.specs.Steps.{kept_at, read_at, seen_at}
use Rattle.engine_pages.specs.Views.{IsActive, seat_number}
use Rattle.engine_pages.proofs.Agreeing.{agreed}
use Rattle.engine_pages.proofs.Dealing.{meets}
use Rattle.engine_pages.proofs.Joint.{Laws}
use Rattle.engine_pages.proofs.Looks.{look_stride}
use Rattle.engine_pages.proofs.Seats.{is_at}
use Rattle.engine_pages.proofs.Turns.{Stride, Begins, allows_at}
use Rattle.dual_pointer.specs.Installs.{CanInstall, HasInstalled, Installed, leading_word, led_to}
use Rattle.dual_pointer.proofs.CopyInstalls.{copy_installs}
use Rattle.dual_pointer.proofs.InnerInstalls.{inner_installs}
use Rattle.dual_pointer.proofs.InstallFacts.{Installable}
use Rattle.dual_pointer.proofs.LeafInstalls.{leaf_installs}
use Rattle.dual_pointer.proofs.InstallStep.{HasWays, agree, install_stride, new_way, old_way}
use Rattle.dual_pointer.proofs.Stands.{way_to}

pub installs : Laws → (l : Layout) (slots id : ℕ) (me : Me (Unit {0}) View) (x : At) (sp : Span) (at t expected : ℕ)
    → IsActive me.0.role → CanInstall me.0 x sp at t expected
    → Allows (λ s. Shows l s.words s.views) slots id me at (λ k. either (eqb k expected) (leading_word expected t) k)
    (λ k now. (now.1 ≡ me.1) × Installed t at sp expected me.0 k now.0)
installs laws l slots id me x sp at t expected active can =
    allows_at laws l slots id me at (λ k. either (eqb k expected) (leading_word expected t) k) (Installed t at sp expected)
    active (λ words views s b. by_found words views s b (eqb (get_or words at 0) expected) refl)
  where
    by_found : (words : List ℕ) (views : List View) (s : Shared) → Begins l words views s id me.0 → (c : Bool)
        → eqb (get_or words at 0) expected ≡ c
        → Stride l words views s (seat_number me.0.role) me.0 at (λ k. either (eqb k expected) (leading_word expected t) k)
        (Installed t at sp expected)
    by_found words views s b true found = by_held (has_slot me.0.grip.holds t) refl
      where
        n-is : get_or words at 0 ≡ expected
        n-is = eqb-true (get_or words at 0) expected found

        ready : Installable laws l words views s id me.0 b x sp at expected can.place can.free n-is t
        ready = elim can.page [
          | inl copy ↦ copy_installs laws l words views s id me.0 b x sp at t expected can.place can.free n-is copy
          | inr tree ↦ elim tree [
            | inl leaf ↦ leaf_installs laws l words views s id me.0 b x sp at t expected can.place can.free n-is leaf
            | inr inner ↦ inner_installs laws l words views s id me.0 b x sp at t expected can.place can.free n-is inner
          ]
        ]

        f-is : either (eqb (get_or words at 0) expected) (leading_word expected t) (get_or words at 0) ≡ leading_word expected t
        f-is = ap (λ (c : Bool). either c (leading_word expected t) (get_or words at 0)) found

        by_held : (c : Bool) → has_slot me.0.grip.holds t ≡ c
            → Stride l words views s (seat_number me.0.role) me.0 at (λ k. either (eqb k expected) (leading_word expected t) k)
            (Installed t at sp expected)
        by_held true held =
            let v = me.0 in
            let n : ℕ = get_or words at 0 in
            let first : Way = record { slot = t; span = sp } in
            let ws : List Way = first ∷ v.ways in
            let w : View = record (led_to t at n v) { ways = ws } in
            let has : HasWays laws l words views s id v active b x sp at t expected can.place can.free n-is can.worker can.unlocked can.idle ready ws = record {
              ways = λ z there. elim (in_cases z first v.ways there) [
                | inl new ↦ subst (λ (y : Way). IsWay l (put_in s.table x t) s.trees v.grip.holds y) new
                    (new_way laws l words views s id v active b x sp at t expected can.place can.free n-is can.worker can.unlocked can.idle ready ws held)
                | inr old ↦ old_way laws l words views s id v active b x sp at t expected can.place can.free n-is can.worker can.unlocked can.idle ready ws z old
              ];
              old = λ z there. in_tail z first v.ways there;
              new = λ z there. elim (in_cases z first v.ways there) [
                | inl new ↦ inr (ap (λ (y : Way). y.slot) (sym new))
                | inr old ↦ inl old
              ];
            } in
            agreed l words views s v active at (λ k. either (eqb k expected) (leading_word expected t) k) (Installed t at sp expected)
            (install_stride laws l words views s id v active b x sp at t expected can.place can.free n-is can.worker can.unlocked can.idle ready ws
            (λ k. either (eqb k expected) (leading_word expected t) k) f-is has (λ v n w. TreesAgree w → Installed t at sp expected v n w)
            (λ trees. subst (λ c. MatchBool c (HasInstalled t at sp v n w) (w ≡ read_at at n v)) (sym found) record {
              is = ap (λ (c : Bool). let z : View = record (led_to t at n v) { ways = ways_if c t sp v.ways } in z) (sym held);
              agree = agree laws l words views s id v active b x sp at t expected can.place can.free n-is can.worker can.unlocked can.idle ready ws has;
              trees = trees;
            }))
        by_held false held =
            let v = me.0 in
            let n : ℕ = get_or words at 0 in
            let w : View = record (led_to t at n v) { ways = v.ways } in
            let has : HasWays laws l words views s id v active b x sp at t expected can.place can.free n-is can.worker can.unlocked can.idle ready v.ways = record {
              ways = λ z there. old_way laws l words views s id v active b x sp at t expected can.place can.free n-is can.worker can.unlocked can.idle ready v.ways z there;
              old = λ z there. there;
              new = λ z there. inl there;
            } in
            agreed l words views s v active at (λ k. either (eqb k expected) (leading_word expected t) k) (Installed t at sp expected)
            (install_stride laws l words views s id v active b x sp at t expected can.place can.free n-is can.worker can.unlocked can.idle ready v.ways
            (λ k. either (eqb k expected) (leading_word expected t) k) f-is has (λ v n w. TreesAgree w → Installed t at sp expected v n w)
            (λ trees. subst (λ c. MatchBool c (HasInstalled t at sp v n w) (w ≡ read_at at n v)) (sym found) record {
              is = ap (λ (c : Bool). let z : View = record (led_to t at n v) { ways = ways_if c t sp v.ways } in z) (sym held);
              agree = agree laws l words views s id v active b x sp at t expected can.place can.free n-is can.worker can.unlocked can.idle ready v.ways has;
              trees = trees;
            }))
    by_found words views s b false found =
        let v = me.0 in
        let n : ℕ = get_or words at 0 in
        let w = read_at at n v in
        look_stride l words views s id v active b at (λ k. either (eqb k expected) (leading_word expected t) k) w
        (Installed t at sp expected) (ap (λ c. either c (leading_word expected t) n) found)
        record { layout = refl; role = refl; made = refl; past = refl; parked = refl; epoch = refl; mine = refl; draws = refl; due = refl; seat = refl; checked = refl; took = refl; loaded = refl; met = refl; heard = refl; history = refl; decided = refl; versions = refl }
        refl
        record {
          within = b.pages.within;
          ways = b.pages.ways;
          drafts = b.pages.drafts;
          copies = b.pages.copies;
          blanks = b.pages.blanks;
          resident = b.pages.resident;
          leads = b.pages.leads;
          fills = b.pages.fills;
          known = b.pages.treed.known;
          heads = b.pages.treed.heads (seat_number v.role) (is_at v.role active);
          moved = b.pages.treed.moved;
          sealed = b.pages.treed.sealed (seat_number v.role) (is_at v.role active);
          inners = b.pages.treed.inners;
          new_leaves = b.pages.treed.new_leaves;
          new_inners = b.pages.treed.new_inners;
          shuts = b.pages.shuts (seat_number v.role) (is_at v.role active);
        }
        (meets l words views s id v b w at
        record { role = refl; ways = refl; took = refl; gone = refl; touched = refl; blamed = refl; locks = refl }
        record {
          new = record { word = at; seen = n; was = seen_at v.reads at; kept = kept_at v.reads at };
          word = refl;
          seen = refl;
          was = refl;
          is = refl;
        }
        (λ u i less few word here. way_to l words views s id v b x sp at can.place u i less few word))
        (subst (λ c. MatchBool c (HasInstalled t at sp v n w) (w ≡ read_at at n v)) (sym found) refl)
