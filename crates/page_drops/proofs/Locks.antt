-- Records of a leaf are locked and opened, one after another.
use Rattle.std.proofs.Common.{◌≡◌, ◌≢◌, ℕ, zero, suc, ◌+◌, Bool, true, cond, eqb, eq-eqb, ne_eqb, not, List, []}
use Rattle.std.proofs.Common.{◌∷◌, ◌++◌, filter, length, refl, sym, ap, ◌∙◌, subst, arith, None}
use Rattle.std.specs.Prelude.{MatchBool}
use Rattle.std.specs.List.{Contains}
use Rattle.lists.specs.Elements.{in_head}
use Rattle.serial_model.specs.declared.key.Key.{Key}
use Rattle.homes.specs.declared.places.Span.{Span}
use Rattle.homes.specs.declared.places.Spot.{Spot}
use Rattle.homes.specs.Homes.{has_key, same_key}
use Rattle.commit_core.specs.declared.seat.Seat.{Seat}
use Rattle.commit_core.specs.declared.seat.Stage.TheVariants.{Idle}
use Rattle.commit_core.specs.CoreState.{can_begin, settled, settled_at}
use Rattle.engine_pages.specs.declared.view.View.{View}
use Rattle.engine_pages.specs.Resident.{array_word}
use Rattle.engine_pages.specs.Steps.{read_at, with_read}
use Rattle.engine_pages.specs.Words.{spot}
use Rattle.page_records.specs.Locks.{CanOpenAgain, Locked, locked, not_at, opened, took_at}
use Rattle.pointer_swings.specs.Swings.{key_in}
use Rattle.page_drops.specs.Leaves.{HasFirst, HasMoved, HasOpened, HasRow, key_row, took_row}
use Rattle.page_drops.specs.Works.{HasGlanced}
use Rattle.page_drops.proofs.Looks.{JustSaw, glanced_looked, looked_then, worked_then}
use Rattle.page_drops.proofs.Rows.{first_there, keys_less, keys_push, tooks_less, tooks_push}

-- ---- a row that only looks leave

pub row_glanced : (t : ℕ) (sp : Span) (words : List ℕ) (j n : ℕ) (v u : View) → HasGlanced v u → HasRow t sp words j n v
    → HasRow t sp words j n u
row_glanced t sp words j n v u h row = record {
  locks = ap (λ (z : View). z.seat.locks) h.is ∙ row.locks;
  took = ap (λ (z : View). z.took) h.is ∙ row.took;
}

-- ---- a lock

-- a lock that was taken
pub locked_now : (t i at number : ℕ) (sp : Span) (words : List ℕ) (k : Key) (x : Spot) (v u w : View) (found : ℕ)
    → k ≡ key_in sp i → x ≡ spot t i → number ≡ array_word words i → found ≡ number → HasGlanced v u
    → HasRow t sp words 0 i v → Locked k x at number u found w → HasMoved v w × HasRow t sp words 0 (i + 1) w
locked_now t i at number sp words k x v u w found key place one same glanced row h =
    let is : w ≡ locked k x at found u =
    subst (λ c. MatchBool c (w ≡ locked k x at found u) (w ≡ read_at at found u)) (eq-eqb found number same) h in
    let looked = glanced_looked v u glanced in
    let low = looked.later in
    let before = row_glanced t sp words 0 i v u glanced row in (
      subst (λ (z : View). HasMoved v z) (sym is) record {
        worked = worked_then v u (locked k x at found u) looked.worked refl;
        later = omega arith;
        parts = ap (λ (z : View). z.seat.kept) glanced.is;
        kept = looked.kept;
      },
      record {
        locks =
            ap (λ (z : View). z.seat.locks) is
            ∙ (ap (λ list. list ++ k ∷ []) before.locks
            ∙ (ap (λ (z : Key). key_row sp 0 i ++ z ∷ []) key ∙ (ap (λ j. key_row sp 0 i ++ key_in sp j ∷ []) (plus i) ∙ sym (keys_push sp 0 i))));
        took =
            ap (λ (z : View). z.took) is
            ∙ (ap (λ list. list ++ took_at k x found ∷ []) before.took
            ∙ (ap (λ (z : Key). took_row t sp words 0 i ++ took_at z x found ∷ []) key
            ∙ (ap (λ (z : Spot). took_row t sp words 0 i ++ took_at (key_in sp i) z found ∷ []) place
            ∙ (ap (λ n. took_row t sp words 0 i ++ took_at (key_in sp i) (spot t i) n ∷ []) (same ∙ one)
            ∙ (ap (λ j. took_row t sp words 0 i ++ took_at (key_in sp j) (spot t j) (array_word words j) ∷ []) (plus i)
            ∙ sym (tooks_push t sp words 0 i))))));
      },
    )
  where
    plus : (i : ℕ) → i ≡ 0 + i
    plus i = omega arith

-- one that was not
pub not_locked : (at number found : ℕ) (k : Key) (x : Spot) (v u w : View) → found ≢ number → HasGlanced v u
    → Locked k x at number u found w → JustSaw v w at found
not_locked at number found k x v u w other glanced h =
    let is : w ≡ read_at at found u =
    subst (λ c. MatchBool c (w ≡ locked k x at found u) (w ≡ read_at at found u)) (ne_eqb found number other) h in
    let looked = glanced_looked v u glanced in
    let low = looked.later in
    subst (λ (z : View). JustSaw v z at found) (sym is) record {
      looked = looked_then v u (read_at at found u) looked
          record { worked = refl; later = omega arith; locks = refl; took = refl; kept = refl };
      step = u.steps;
      last = refl;
      since = low;
      before = omega arith;
    }

-- ---- it is opened

pub can_open : (t j : ℕ) (sp : Span) (words : List ℕ) (k : Key) (x : Spot) (number : ℕ) (v u : View) → k ≡ key_in sp j
    → x ≡ spot t j → number ≡ array_word words j → u.seat.stage ≡ Idle → HasGlanced v u → HasFirst t sp words j v
    → CanOpenAgain u k x number
can_open t j sp words k x number v u key place one idle glanced first =
    let row = row_glanced t sp words j (suc first.0) v u glanced first.1 in record {
      idle = ap can_begin idle;
      locked =
          subst (λ (z : Key). has_key u.seat.locks z ≡ true) (sym key)
          (ap (λ list. has_key list (key_in sp j)) row.locks ∙ first_there sp j first.0);
      took =
          subst (λ (z : Key). Contains u.took (took_at z x number)) (sym key)
          (subst (λ (z : Spot). Contains u.took (took_at (key_in sp j) z number)) (sym place)
          (subst (λ n. Contains u.took (took_at (key_in sp j) (spot t j) n)) (sym one)
          (subst (λ list. Contains list (took_at (key_in sp j) (spot t j) (array_word words j))) (sym row.took)
          (in_head (took_at (key_in sp j) (spot t j) (array_word words j)) (took_row t sp words (suc j) first.0)))));
    }

-- the seat without a lock, while it has no attempt
idle_open : (s : Seat) (locks : List Key) → s.stage ≡ Idle → settled (record s { locks = locks }) ≡ record s { locks = locks }
idle_open s locks idle = by_count (length locks) refl
  where
    by_stage : settled_at s.stage (record s { locks = locks }) ≡ record s { locks = locks }
    by_stage = ap (λ g. settled_at g (record s { locks = locks })) idle

    by_count : (n : ℕ) → length locks ≡ n → settled (record s { locks = locks }) ≡ record s { locks = locks }
    by_count zero none =
        ap (λ k. let z : Seat = cond (eqb k 0) (settled_at s.stage (record s { locks = locks })) (record s { locks = locks }) in z) none ∙ by_stage
    by_count (suc n) some =
        ap (λ k. let z : Seat = cond (eqb k 0) (settled_at s.stage (record s { locks = locks })) (record s { locks = locks }) in z) some
        ∙ ap (λ (c : Bool). let z : Seat = cond c (settled_at s.stage (record s { locks = locks })) (record s { locks = locks }) in z)
        (ne_eqb (suc n) 0 (λ e. absurd (omega (arith, e))))

pub opened_now : (t j at number : ℕ) (sp : Span) (words : List ℕ) (k : Key) (x : Spot) (v u w : View) → k ≡ key_in sp j
    → u.seat.stage ≡ Idle → HasGlanced v u → w ≡ opened k at number u → HasOpened t sp words j v w
opened_now t j at number sp words k x v u w key idle glanced is =
    let rest : List Key = filter (λ q. not (same_key q k)) u.seat.locks in
    let plain : w ≡ record u { reads = with_read u.reads at number; seat = record u.seat { locks = rest }; took = not_at k u.took; steps = u.steps + 1; loaded = None } =
    is ∙ ap (λ (s : Seat). let z : View = record u { reads = with_read u.reads at number; seat = s; took = not_at k u.took; steps = u.steps + 1; loaded = None } in z)
    (idle_open u.seat rest idle) in
    let looked = glanced_looked v u glanced in
    let low = looked.later in record {
      moved = subst (λ (z : View). HasMoved v z) (sym plain) record {
        worked = worked_then v u (record u { reads = with_read u.reads at number; seat = record u.seat { locks = rest }; took = not_at k u.took; steps = u.steps + 1; loaded = None }) looked.worked refl;
        later = omega arith;
        parts = ap (λ (z : View). z.seat.kept) glanced.is;
        kept = looked.kept;
      };
      row = λ n row.
          let before = row_glanced t sp words j (suc n) v u glanced row in record {
            locks =
                ap (λ (z : View). z.seat.locks) plain
                ∙ (ap (λ list. filter (λ q. not (same_key q k)) list) before.locks
                ∙ (ap (λ (y : Key). filter (λ q. not (same_key q y)) (key_row sp j (suc n))) key ∙ keys_less sp j n));
            took =
                ap (λ (z : View). z.took) plain
                ∙ (ap (λ list. not_at k list) before.took
                ∙ (ap (λ (y : Key). not_at y (took_row t sp words j (suc n))) key ∙ tooks_less t sp words j n));
          };
    }
