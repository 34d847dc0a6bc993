-- Why a record of a full leaf isn't locked.
use Rattle.std.proofs.Common.{◌≡◌, ℕ, ◌+◌, ◌*◌, ◌<◌, List, refl, sym, ap, ◌∙◌, subst, arith}
use Rattle.std.proofs.Common.{inr, Some, Option}
use Rattle.std.specs.List.{Contains}
use Rattle.serial_model.specs.declared.key.Key.{Key}
use Rattle.homes.specs.declared.places.Span.{Span}
use Rattle.engine_pages.specs.declared.view.Read.{Read}
use Rattle.engine_pages.specs.declared.view.RefusalCause.{RefusalCause}
use Rattle.engine_pages.specs.declared.view.RefusalCause.TheVariants as causes
use Rattle.engine_pages.specs.declared.view.View.{View}
use Rattle.engine_pages.specs.Layout.{page_at}
use Rattle.engine_pages.specs.Steps.{glanced, kept_at, read_at, seen_at, with_read}
use Rattle.page_records.specs.Ends.{IsLeafWordAt}
use Rattle.foster_tree.specs.Locking.{HasNotLockedOne, KnowsFull, RefusesWord}
use Rattle.foster_tree.proofs.LockLaws.{met_word, worked_read, worked_same, worked_then}
use Rattle.array_pages.proofs.ReadLaws.{kept_with, noted_in, seen_same}

-- the view after the loads of a key, and of the record's word twice
abbrev met_twice : ℕ → ℕ → ℕ → ℕ → ℕ → View → View
met_twice place n at expected seen v = read_at at seen (read_at at expected (glanced place n v))

-- the word is one of the leaf's
leaf_word_at : (t i place n at expected seen : ℕ) (sp : Span) (keys : List Key) (v : View) → KnowsFull v t sp keys → i < 16
    → at ≡ page_at v.layout.slots t ((16 + 3 * i) + 1)
    → IsLeafWordAt (met_twice place n at expected seen v) t (1 + (16 + 3 * i)) at
leaf_word_at t i place n at expected seen sp keys v knows less placed = record {
  word = record {
    way = record { slot = t; span = sp };
    has = knows.page.way;
    slot = refl;
    kind = knows.page.tree;
    there = knows.there;
    index = omega (arith, less);
    word = placed ∙ (let e : page_at v.layout.slots t ((16 + 3 * i) + 1) ≡ page_at v.layout.slots t (1 + (16 + 3 * i)) = omega arith in e);
  };
  leaf = record { slot = t; keys = keys };
  knows = knows.knows;
  same = refl;
  is = inr (i, (let full = knows.full in omega (arith, full, less)), refl);
}

-- the last of two loads of a word, and what is kept of it
met_in : (reads : List Read) (at expected seen : ℕ)
    → Contains (with_read (with_read reads at expected) at seen)
    (record { word = at; seen = seen; was = Some expected; kept = kept_at reads at })
met_in reads at expected seen =
    subst (λ (o : Option ℕ). Contains (with_read (with_read reads at expected) at seen)
    (record { word = at; seen = seen; was = o; kept = kept_at reads at }))
    (seen_same reads at expected (kept_at reads at))
    (subst (λ (o : Option ℕ). Contains (with_read (with_read reads at expected) at seen)
    (record { word = at; seen = seen; was = seen_at (with_read reads at expected) at; kept = o }))
    (kept_with reads at expected at)
    (noted_in (with_read reads at expected) at seen (kept_at (with_read reads at expected) at)))

-- the record with this index wasn't locked
pub refused_one : (t i place n at : ℕ) (sp : Span) (keys : List Key) (why : RefusalCause) (v u w : View)
    → KnowsFull v t sp keys → i < 16 → at ≡ page_at v.layout.slots t ((16 + 3 * i) + 1) → u ≡ glanced place n v
    → RefusesWord at why u w → HasNotLockedOne t i why v w
refused_one t i place n at sp keys (causes.Conflict other expected seen) v u w knows less placed is h =
    let now : w ≡ met_twice place n at expected seen v =
    h.1 ∙ ap (λ (z : View). read_at at seen (read_at at expected z)) is in
    subst (λ (a : ℕ). HasNotLockedOne t i (causes.Conflict a expected seen) v w) (sym h.0)
    (subst (λ (z : View). HasNotLockedOne t i (causes.Conflict at expected seen) v z) (sym now)
    record {
      worked =
          worked_then t v (glanced place n v) (met_twice place n at expected seen v) refl
          (worked_same t v (glanced place n v) (omega arith) refl refl refl refl)
          (worked_then t (glanced place n v) (read_at at expected (glanced place n v))
          (met_twice place n at expected seen v) refl
          (worked_read t ((16 + 3 * i) + 1) at expected (glanced place n v) (read_at at expected (glanced place n v))
          (met_word i less) placed (omega arith) refl (λ x has. has) refl refl)
          (worked_read t ((16 + 3 * i) + 1) at seen (read_at at expected (glanced place n v))
          (met_twice place n at expected seen v) (met_word i less) placed (omega arith) refl (λ x has. has) refl refl));
      touched = refl;
      most = omega arith;
      is = refl;
      cause = record {
        place = leaf_word_at t i place n at expected seen sp keys v knows less placed;
        saw = record {
          step = (v.steps + 1) + 1;
          since = omega arith;
          last = refl;
          kept = kept_at v.reads at;
          kept_is =
              sym (kept_with (with_read v.reads at expected) at seen at ∙ kept_with v.reads at expected at);
          stands = met_in v.reads at expected seen;
        };
        cause = h.2;
      };
    })
refused_one t i place n at sp keys (causes.Full held) v u w knows less placed is h = absurd h
refused_one t i place n at sp keys (causes.Wide set) v u w knows less placed is h = absurd h
refused_one t i place n at sp keys (causes.NumberLimit clock) v u w knows less placed is h = absurd h
