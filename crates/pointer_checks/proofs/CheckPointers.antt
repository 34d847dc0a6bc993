-- A check of a pointer: a load of its word.
use Rattle.std.proofs.Common.{◌≡◌, ℕ, Bool, true, false, eqb, List, get_or, refl, sym, ap, ◌∙◌, subst}
use Rattle.std.specs.Prelude.{MatchBool}
use Rattle.atomic_table.specs.Table.{Me, Allows}
use Rattle.homes.specs.declared.places.At.{At}
use Rattle.homes.specs.declared.places.Span.{Span}
use Rattle.commit_core.specs.declared.part.Part.{Part}
use Rattle.commit_core.specs.declared.part.Version.{Version}
use Rattle.commit_core.specs.declared.part.Version.TheVariants.{Leads}
use Rattle.commit_core.specs.declared.part.Word.TheVariants.{Pointer as PointerOf}
use Rattle.drop_core.specs.Table.{pointer_of}
use Rattle.engine_rule.specs.declared.event.JointAct.TheVariants.{CheckPointer}
use Rattle.engine_rule.specs.JointState.{is_pointer_so}
use Rattle.engine_pages.specs.declared.layout.Layout.{Layout}
use Rattle.engine_pages.specs.declared.view.View.{View}
use Rattle.engine_pages.specs.Rule.{Shared, Shows}
use Rattle.engine_pages.specs.Views.{IsActive, seat_number}
use Rattle.engine_pages.proofs.Joint.{Laws}
use Rattle.engine_pages.proofs.Turns.{Stride, Begins, allows_at}
use Rattle.dual_pointer.proofs.Stands.{way_to}
use Rattle.page_records.specs.Attempts.{failed_at}
use Rattle.pointer_checks.specs.Checks.{CanCheckPointer, CheckedPointer, pointer_checked}
use Rattle.pointer_checks.proofs.CheckWords.{Tries, Confirms, word_checked, checked_stride, failed_stride}
use Rattle.pointer_checks.proofs.Comparisons.{decides}

module _ (laws : Laws) (l : Layout) (words : List ℕ) (views : List View) (s : Shared) (id : ℕ) (v : View)
    (active : IsActive v.role) (g : Begins l words views s id v) (x : At) (sp : Span) (at word : ℕ)
    (can : CanCheckPointer v x sp at word) where
  abbrev p : ℕ
  p = seat_number v.role

  abbrev n : ℕ
  n = get_or words at 0

  abbrev so : Version → Bool
  so = is_pointer_so p (pointer_of s.table x)

  abbrev version : Version
  version = Leads can.of.lead.name

  abbrev tries : Tries v (PointerOf x) version
  tries = record {
    index = can.index;
    attempt = can.attempt;
    stage = can.stage;
    stands = can.stands;
    part = can.part;
    has = can.has;
    of = can.of.word;
    one = λ q in-parts same. ap (λ (z : Part). z.version) (can.one q in-parts same) ∙ can.of.version;
    unchecked = can.unchecked;
  }

  confirms : Confirms laws l words views s id v active g (PointerOf x) (CheckPointer x) so version at tries
  confirms = record {
    allowed = refl;
    effect = refl;
    plain = refl;
    page = λ u i less few there here. way_to l words views s id v g x sp at can.place u i less few there;
  }

  pub check_stride : (b : Bool) → eqb n word ≡ b → Stride l words views s p v at (λ k. k) (CheckedPointer x at word)
  check_stride true e =
      checked_stride laws l words views s id v active g (PointerOf x) (CheckPointer x) so version at tries
      (decides l words views s id v active g x sp at word can true e) confirms (CheckedPointer x at word)
      (subst (λ b. MatchBool b (word_checked (PointerOf x) at n v ≡ pointer_checked x at n v) (word_checked (PointerOf x) at n v ≡ failed_at at n v)) (sym e) refl)
  check_stride false e =
      failed_stride laws l words views s id v active g (PointerOf x) (CheckPointer x) so version at tries
      (decides l words views s id v active g x sp at word can false e) confirms (CheckedPointer x at word)
      (subst (λ b. MatchBool b (failed_at at n v ≡ pointer_checked x at n v) (failed_at at n v ≡ failed_at at n v)) (sym e) refl)

pub checks_pointer : Laws → (l : Layout) (slots id : ℕ) (me : Me (Unit {0}) View) (x : At) (sp : Span) (at word : ℕ)
    → IsActive me.0.role → CanCheckPointer me.0 x sp at word
    → Allows (λ s. Shows l s.words s.views) slots id me at (λ k. k)
    (λ k now. (now.1 ≡ me.1) × CheckedPointer x at word me.0 k now.0)
checks_pointer laws l slots id me x sp at word active can =
    allows_at laws l slots id me at (λ k. k) (CheckedPointer x at word) active
    (λ words views s g. check_stride laws l words views s id me.0 active g x sp at word can (eqb (get_or words at 0) word) refl)
