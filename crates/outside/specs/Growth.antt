-- How a log file grows from one cut to the next, whatever is saved meanwhile.
use Rattle.std.specs.Prelude.{◌≡◌, ◌≤◌, ◌<◌, ◌-◌, ◌++◌, ℕ, List, Option, Some}
use Rattle.std.proofs.Common.{inl, inr, sym, subst, arith}
use Rattle.std.proofs.lemmas.Bool.{cases_lt, cases_eq}
use Rattle.lists.specs.Fronts.{IsFront, front_refl, front_append, front_then}
use Rattle.outside.specs.Disk.{Torn, Goes, LeavesEach}
use Rattle.outside.specs.Ranges.{torn_same}
use Rattle.outside.specs.Fronts.{AllBegin, AgreesOn, KeepsSince, begins_less, agrees_by, agrees_more}

-- Calls of a log file with no cut among them: these bytes were durable before them, and those are afterwards.
pub record Grows {D : Type 0} (clock : D → ℕ) (image_at : D → ℕ → List ℕ → Type 0) (old new : D) (was now : List ℕ) : Type 0 where
  pub later : clock old ≤ clock new
  pub kept : (m : ℕ) (c : List ℕ) → m ≤ clock old → image_at old m c → image_at new m c
  pub no_new : (m : ℕ) (c : List ℕ) → m ≤ clock old → image_at new m c → image_at old m c
  pub more : IsFront was now
  -- no image loses what was durable
  pub begins : (m : ℕ) → clock old < m → m ≤ clock new → AllBegin (image_at new m) was
  -- and none of these moments could be taken for one at which more is durable than at the end
  pub agrees : (m : ℕ) → clock old < m → m ≤ clock new → AgreesOn (image_at new m) now
  pub end : AllBegin (image_at new (clock new)) now

module _ {D : Type 0} {clock : D → ℕ} {image_at : D → ℕ → List ℕ → Type 0} where
  -- no call
  pub grows_none : {disk : D} {made : List ℕ} → AllBegin (image_at disk (clock disk)) made → Grows clock image_at disk disk made made
  grows_none {made = made} now = record {
    later = omega arith;
    kept = λ m c within left. left;
    no_new = λ m c within left. left;
    more = front_refl made;
    begins = λ m after come. absurd (omega arith);
    agrees = λ m after come. absurd (omega arith);
    end = now;
  }

  -- some calls, and then more
  pub grows_then : {a b c : D} {x y z : List ℕ} → Grows clock image_at a b x y → Grows clock image_at b c y z → Grows clock image_at a c x z
  grows_then {b = b} {x = x} {y = y} {z = z} first next = record {
    later = omega (arith, first.later, next.later);
    kept = λ m c within left. next.kept m c (omega (arith, first.later)) (first.kept m c within left);
    no_new = λ m c within left. first.no_new m c within (next.no_new m c (omega (arith, first.later)) left);
    more = front_then x y z first.more next.more;
    begins = λ m after come. elim (cases_lt (clock b) m) [
      | inl late ↦ begins_less (image_at _ m) x y (next.begins m late come) first.more
      | inr early ↦ λ c left. first.begins m after early c (next.no_new m c early left)
    ];
    agrees = λ m after come. elim (cases_lt (clock b) m) [
      | inl late ↦ next.agrees m late come
      | inr early ↦ λ front all. front_then front y z (first.agrees m after early front (λ c left. all c (next.kept m c early left))) next.more
    ];
    end = next.end;
  }

-- Writes behind the durable bytes, of a log file that tells just those.
module _ {D : Type 0} {tells : D → Option (List ℕ)} {clock : D → ℕ} {image_at : D → ℕ → List ℕ → Type 0} (reads : (disk : D) (file : List ℕ) → tells disk ≡ Some file → image_at disk (clock disk) file) where
  -- a write that was synced
  pub grows_written : {at count : ℕ} {old new : D} (made lines : List ℕ) → tells old ≡ Some made → tells new ≡ Some (made ++ lines)
      → Goes clock image_at (Torn at count) old new → LeavesEach clock image_at (Torn at count) old new (clock new - 1)
      → KeepsSince clock image_at new (clock old) made → KeepsSince clock image_at new (clock new) (made ++ lines)
      → Grows clock image_at old new made (made ++ lines)
  grows_written {at = at} {count = count} {old = old} {new = new} made lines told_was told_now goes each stays ends = record {
    later = goes.later;
    kept = goes.kept;
    no_new = goes.no_new;
    more = front_append made lines;
    begins = λ m after come c image. stays m c (omega arith) come image;
    agrees = λ m after come. elim (cases_eq m (clock new)) [
      | inl now ↦ agrees_by (image_at new m) (made ++ lines) (subst (λ j. image_at new j (made ++ lines)) (sym now) (reads new (made ++ lines) told_now))
      | inr within ↦ agrees_more (image_at new m) made (made ++ lines)
          (agrees_by (image_at new m) made (each.each m made made after (omega arith) (reads old made told_was) (torn_same at count made)))
          (front_append made lines)
    ];
    end = λ c image. ends (clock new) c (omega arith) (omega arith) image;
  }

  -- and one that failed
  pub grows_failed : {at count : ℕ} {old new : D} (made : List ℕ) → tells old ≡ Some made → AllBegin (image_at old (clock old)) made
      → Goes clock image_at (Torn at count) old new → LeavesEach clock image_at (Torn at count) old new (clock new)
      → KeepsSince clock image_at new (clock old) made
      → Grows clock image_at old new made made
  grows_failed {at = at} {count = count} {old = old} {new = new} made told_was now goes each stays = record {
    later = goes.later;
    kept = goes.kept;
    no_new = goes.no_new;
    more = front_refl made;
    begins = λ m after come c image. stays m c (omega arith) come image;
    agrees = λ m after come. agrees_by (image_at new m) made (each.each m made made after come (reads old made told_was) (torn_same at count made));
    end = λ c image. stays (clock new) c goes.later (omega arith) image;
  }
