-- A record of a leaf is compared with a snapshot's.
use Rattle.std.proofs.Common.{◌≡◌, ℕ, ◌+◌, ◌*◌, ◌<◌, ◌^◌, Bool, true, false, List}
use Rattle.std.proofs.Common.{filter, not, refl, sym, ap, ◌∙◌, subst, arith}
use Rattle.std.specs.Prelude.{MatchBool, nat_lt}
use Rattle.std.specs.List.{Contains}
use Rattle.std.proofs.lemmas.Bool.Decides.{nat_tests}
use Rattle.lists.specs.Elements.{in_filtered, in_push_new, in_push_old}
use Rattle.serial_model.specs.declared.key.Key.{Key}
use Rattle.homes.specs.declared.places.Content.{Content}
use Rattle.homes.specs.declared.places.Span.{Span}
use Rattle.homes.specs.declared.places.Spot.{Spot}
use Rattle.commit_core.specs.declared.part.Part.{Part}
use Rattle.commit_core.specs.declared.part.Word.TheVariants.{Record}
use Rattle.commit_core.specs.Lemmas.Keys.{same_word-true}
use Rattle.commit_core.specs.Parts.{record_part, same_word, with_part}
use Rattle.engine_pages.specs.declared.view.View.{View}
use Rattle.engine_pages.specs.Layout.{page_at}
use Rattle.engine_pages.specs.Records.{IsRecordAt}
use Rattle.engine_pages.specs.Resident.{array_value, array_word}
use Rattle.engine_pages.specs.Steps.{read_at}
use Rattle.engine_pages.specs.Words.{spot}
use Rattle.page_records.specs.Reads.{Confirmed, Saw, SawFree, saw, valued}
use Rattle.pointer_swings.specs.Swings.{key_in}
use Rattle.page_drops.specs.Leaves.{AtLeaf, HasCompared, IsSeenAs, KeepsOthers}
use Rattle.page_drops.specs.Works.{HasGlanced, OnlyLooked}
use Rattle.page_drops.proofs.Looks.{JustSaw, looked_then}

-- the record with an index stands there
pub record_here : (t page i at : ℕ) (sp : Span) (v : View) (x : Spot) → AtLeaf t sp page v → i < 32 → x ≡ spot t i
    → at ≡ page_at v.layout.slots t (2 * i) → (k : Key) → k ≡ key_in sp i → IsRecordAt v k x at
record_here t page i at sp v x h few is word k key =
    subst (λ (z : Spot). IsRecordAt v k z at) (sym is)
    (subst (λ (z : Key). IsRecordAt v z (spot t i) at) (sym key) record {
      way = record { slot = t; span = sp };
      has = h.way;
      slot = refl;
      there = h.slot;
      kind = h.array;
      leaf = h.leaf;
      index = few;
      key = refl;
      word = word;
    })

-- ---- the first load

-- what the load left, whether or not the record was locked
pub saw_it : (k : Key) (x : Spot) (at n : ℕ) (v u w : View) → OnlyLooked v u → Saw k x at u n w → JustSaw v w at n
saw_it k x at n v u w looked h = by_test (nat_lt n (2 ^ 60)) h
  where
    by_test : (c : Bool) → MatchBool c (SawFree k x at u n w) (w ≡ read_at at n u) → JustSaw v w at n
    by_test true free =
        let low = looked.later in
        subst (λ (z : View). JustSaw v z at n) (sym free.is) record {
          looked = looked_then v u (saw free.history free.decided k x free.content at n u) looked
              record { worked = refl; later = omega arith; locks = refl; took = refl; kept = refl };
          step = u.steps;
          last = refl;
          since = low;
          before = omega arith;
        }
    by_test false is =
        let low = looked.later in
        subst (λ (z : View). JustSaw v z at n) (sym is) record {
          looked = looked_then v u (read_at at n u) looked
              record { worked = refl; later = omega arith; locks = refl; took = refl; kept = refl };
          step = u.steps;
          last = refl;
          since = low;
          before = omega arith;
        }

-- an unlocked record is kept
pub saw_free : (k : Key) (x : Spot) (at n : ℕ) (u w : View) → n < 2 ^ 60 → Saw k x at u n w → SawFree k x at u n w
saw_free k x at n u w low h =
    let small : nat_lt n (2 ^ 60) ≡ true = grind (arith, nat_tests) in
    subst (λ c. MatchBool c (SawFree k x at u n w) (w ≡ read_at at n u)) small h

pub valued_it : (k : Key) (x : Spot) (at n : ℕ) (v u w : View) → OnlyLooked v u → w ≡ valued k x at n u → JustSaw v w at n
valued_it k x at n v u w looked is =
    let low = looked.later in
    subst (λ (z : View). JustSaw v z at n) (sym is) record {
      looked = looked_then v u (valued k x at n u) looked
          record { worked = refl; later = omega arith; locks = refl; took = refl; kept = refl };
      step = u.steps;
      last = refl;
      since = low;
      before = omega arith;
    }

pub confirmed_it : (k : Key) (x : Spot) (at n : ℕ) (v u w : View) → OnlyLooked v u → Confirmed k x at u n w → JustSaw v w at n
confirmed_it k x at n v u w looked h =
    let low = looked.later in
    subst (λ (z : View). JustSaw v z at n) (sym h.is) record {
      looked = looked_then v u (read_at at n u) looked
          record { worked = refl; later = omega arith; locks = refl; took = refl; kept = refl };
      step = u.steps;
      last = refl;
      since = low;
      before = omega arith;
    }

-- ---- what is kept

-- other parts stay
others_kept : (kept : List Part) (k : Key) (x : Spot) (c : Content) → KeepsOthers x kept (with_part kept (record_part k x c))
others_kept kept k x c part has other =
    in_push_old part (record_part k x c) (filter (λ q. not (same_word q.word (Record x))) kept)
    (in_filtered (λ q. not (same_word q.word (Record x))) part kept has (by_test (same_word part.word (Record x)) refl))
  where
    by_test : (b : Bool) → same_word part.word (Record x) ≡ b → not (same_word part.word (Record x)) ≡ true
    by_test true hit = absurd (other (same_word-true part.word (Record x) hit))
    by_test false miss = ap not miss

-- A record that was seen, with its value, and confirmed, is what these words say.
pub compared : (t i at number value : ℕ) (sp : Span) (words : List ℕ) (k : Key) (x : Spot) (v u a c w : View)
    → k ≡ key_in sp i → x ≡ spot t i → number ≡ array_word words i → value ≡ array_value words i → number < 2 ^ 60
    → HasGlanced v u → Saw k x at u number a → c ≡ valued k x (at + 1) value a → Confirmed k x at c number w
    → OnlyLooked v w → HasCompared t sp words i v w
compared t i at number value sp words k x v u a c w key place one two low glanced sees loads confirms looked =
    let free = saw_free k x at number u a low sees in
    let kept : a.seat.kept ≡ with_part v.seat.kept (record_part k x free.content) =
    ap (λ (z : View). z.seat.kept) free.is
    ∙ ap (λ (z : View). with_part z.seat.kept (record_part k x free.content)) glanced.is in
    let now : w.seat.kept ≡ a.seat.kept = ap (λ (z : View). z.seat.kept) confirms.is ∙ ap (λ (z : View). z.seat.kept) loads in
    let all : w.seat.kept ≡ with_part v.seat.kept (record_part k x free.content) = now ∙ kept in
    let has : Contains (with_part v.seat.kept (record_part k x free.content)) (record_part k x free.content) =
    in_push_new (record_part k x free.content) (filter (λ q. not (same_word q.word (Record x))) v.seat.kept) in
    let there : Contains c.seat.kept (record_part k x free.content) =
    subst (λ list. Contains list (record_part k x free.content)) (sym (ap (λ (z : View). z.seat.kept) loads ∙ kept)) has in
    let known = confirms.value free.content value there (ap (λ (z : View). z.loaded) loads) free.number in record {
      looked = looked;
      seen = subst (λ list. IsSeenAs list t sp words i) (sym all) record {
        content = free.content;
        has = subst (λ (z : Spot). Contains (with_part v.seat.kept (record_part k x free.content)) (record_part (key_in sp i) z free.content)) place
            (subst (λ (z : Key). Contains (with_part v.seat.kept (record_part k x free.content)) (record_part z x free.content)) key has);
        number = free.number ∙ one;
        value = sym known ∙ two;
        low = subst (λ n. n < 2 ^ 60) one low;
      };
      others = subst (KeepsOthers (spot t i) v.seat.kept) (sym all)
          (subst (λ (z : Spot). KeepsOthers z v.seat.kept (with_part v.seat.kept (record_part k x free.content))) place
          (others_kept v.seat.kept k x free.content));
    }
