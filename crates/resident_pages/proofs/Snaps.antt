-- Snapshot pages get names, one after another, before the count rises.
use Rattle.std.proofs.Common.{◌≡◌, ◌≢◌, ℕ, zero, suc, ◌+◌, ◌<◌, ◌≤◌, Bool, true, false, true≢false, cond, eqb, eqb-true, eq-eqb, ne_eqb, ltb}
use Rattle.std.proofs.Common.{List, ◌∷◌, refl, sym, ap, ◌∙◌, arith}
use Rattle.std.specs.Prelude.{◌&&◌, nat_le}
use Rattle.std.proofs.lemmas.Bool.{and_from, lt-ltb, le-leb}
use Rattle.serial_model.specs.declared.key.Key.{Key}
use Rattle.homes.specs.declared.places.Home.{Home}
use Rattle.homes.specs.Homes.{look}
use Rattle.drop_core.specs.declared.event.Act.TheVariants.{FillSnapshot, Extend}
use Rattle.drop_core.specs.declared.table.SnapPage.{SnapPage}
use Rattle.drop_core.specs.declared.table.SnapPage.TheVariants.{Missing, Entries, Children}
use Rattle.drop_core.specs.declared.table.Table.{Table}
use Rattle.drop_core.specs.Event.{all_below, leads_down, is_right}
use Rattle.drop_core.specs.Sound.{LeadsWithin}
use Rattle.drop_core.specs.Table.{snap_of, child_of, snap_step, snap_walk}
use Rattle.engine_rule.specs.declared.event.JointAct.TheVariants.{Turn as TurnPages}
use Rattle.engine_rule.specs.Sound.{IsSound}
use Rattle.engine_pages.specs.declared.layout.Layout.{Layout}
use Rattle.engine_pages.specs.Rule.{Shared, joint_of}
use Rattle.engine_pages.proofs.Joint.{Laws, joint_act}
use Rattle.engine_pages.proofs.Records.{fill_joint}

-- the pages with these names, above the count
abbrev pub fill_snaps : ℕ → (ℕ → SnapPage) → ℕ → List (ℕ × SnapPage) → List (ℕ × SnapPage)
fill_snaps count f zero snaps = snaps
fill_snaps count f (suc k) snaps = (suc (count + k), f k) ∷ fill_snaps count f k snaps

-- what has a name
abbrev pub snap_in : List (ℕ × SnapPage) → ℕ → SnapPage
snap_in snaps n = look (λ a b. eqb a b) Missing snaps n

pub snap_filled : (count : ℕ) (f : ℕ → SnapPage) (k : ℕ) (snaps : List (ℕ × SnapPage)) (i : ℕ) → i < k
    → snap_in (fill_snaps count f k snaps) (suc (count + i)) ≡ f i
snap_filled count f zero snaps i less = absurd (omega arith)
snap_filled count f (suc k) snaps i less =
    by_test (eqb (suc (count + k)) (suc (count + i))) refl (λ low. snap_filled count f k snaps i low)
  where
    by_test : (b : Bool) → eqb (suc (count + k)) (suc (count + i)) ≡ b
        → (i < k → snap_in (fill_snaps count f k snaps) (suc (count + i)) ≡ f i)
        → cond (eqb (suc (count + k)) (suc (count + i))) (f k) (snap_in (fill_snaps count f k snaps) (suc (count + i))) ≡ f i
    by_test true e rest =
        let n = eqb-true (suc (count + k)) (suc (count + i)) e in
        let same : k ≡ i = omega arith in
        ap (λ (b : Bool). cond b (f k) (snap_in (fill_snaps count f k snaps) (suc (count + i)))) e ∙ ap (λ j. f j) same
    by_test false e rest =
        let other : k ≢ i =
        λ same. true≢false (sym (eq-eqb (suc (count + k)) (suc (count + i)) (ap (λ j. suc (count + j)) same)) ∙ e) in
        ap (λ (b : Bool). cond b (f k) (snap_in (fill_snaps count f k snaps) (suc (count + i)))) e ∙ rest (omega arith)

pub snap_unfilled : (count : ℕ) (f : ℕ → SnapPage) (k : ℕ) (snaps : List (ℕ × SnapPage)) (n : ℕ) → n ≤ count
    → snap_in (fill_snaps count f k snaps) n ≡ snap_in snaps n
snap_unfilled count f zero snaps n low = refl
snap_unfilled count f (suc k) snaps n low =
    ap (λ (b : Bool). cond b (f k) (snap_in (fill_snaps count f k snaps) n))
    (ne_eqb (suc (count + k)) n (λ e. absurd (omega (arith, e, low))))
    ∙ snap_unfilled count f k snaps n low

-- ---- where a page has a key

step_stable : (down down' : ℕ → Key → Home) (published n : ℕ) (k : Key) (q : SnapPage) → LeadsWithin published q
    → ((m : ℕ) → m ≤ published → down' m k ≡ down m k) → snap_step down' n k q ≡ snap_step down n k q
step_stable down down' published n k Missing within same = refl
step_stable down down' published n k (Entries span entries) within same = refl
step_stable down down' published n k (Children span children) within same = same (child_of children k) (within k)

pub walk_stable : (f : ℕ) (snaps snaps' : ℕ → SnapPage) (published : ℕ)
    → ((m : ℕ) → m ≤ published → snaps' m ≡ snaps m) → ((m : ℕ) → m ≤ published → LeadsWithin published (snaps m))
    → (n : ℕ) (k : Key) → n ≤ published → snap_walk f snaps' n k ≡ snap_walk f snaps n k
unfolding snap_walk
walk_stable zero snaps snaps' published same closed n k low = refl
walk_stable (suc f) snaps snaps' published same closed n k low =
    ap (λ (q : SnapPage). snap_step (λ b x. snap_walk f snaps' b x) n k q) (same n low)
    ∙ step_stable (λ b x. snap_walk f snaps b x) (λ b x. snap_walk f snaps' b x) published n k (snaps n) (closed n low)
    (λ b low. walk_stable f snaps snaps' published same closed b k low)

-- ---- the acts

-- the table with these pages
abbrev pub table_filled : Table → (ℕ → SnapPage) → ℕ → Table
table_filled d f k = record d { snaps = fill_snaps d.published f k d.snaps }

-- and with the count that has them
abbrev pub table_extended : Table → (ℕ → SnapPage) → ℕ → Table
table_extended d f k = record d { snaps = fill_snaps d.published f k d.snaps; published = d.published + k }

pub snaps_sound : Laws → (l : Layout) (s : Shared) (f : ℕ → SnapPage) → IsSound (joint_of l s) → (k : ℕ)
    → IsSound (joint_of l (record s { table = table_filled s.table f k }))
snaps_sound laws l s f sound zero = sound
snaps_sound laws l s f sound (suc k) =
    let before : Shared = record s { table = table_filled s.table f k } in
    fill_joint l before 0 s.story (table_filled s.table f (suc k))
    (joint_act laws l before 0 (TurnPages (FillSnapshot (suc (s.table.published + k)) (f k))) (omega arith)
    (and_from (ltb s.table.published (suc (s.table.published + k))) _
    (lt-ltb s.table.published (suc (s.table.published + k)) (omega arith)) refl)
    (snaps_sound laws l s f sound k)).sound

pub all_true : (n : ℕ) (test : ℕ → Bool) → ((i : ℕ) → i < n → test i ≡ true) → all_below n test ≡ true
all_true zero test each = refl
all_true (suc n) test each =
    and_from (test n) (all_below n test) (each n (omega arith)) (all_true n test (λ i low. each i (omega arith)))

pub extended_sound : Laws → (l : Layout) (s : Shared) (f : ℕ → SnapPage) (k : ℕ) → IsSound (joint_of l s)
    → ((i : ℕ) → i < s.table.published + k → leads_down (i + 1) (snap_of (table_filled s.table f k) (i + 1)) ≡ true)
    → ((i : ℕ) → i < s.table.published + k
    → is_right (snap_of (table_filled s.table f k)) (snap_of (table_filled s.table f k) (i + 1)) ≡ true)
    → IsSound (joint_of l (record s { table = table_extended s.table f k }))
extended_sound laws l s f k sound down right =
    let d : Table = table_filled s.table f k in
    let n : ℕ = s.table.published + k in
    let before : Shared = record s { table = d } in
    let downs : Bool = all_below n (λ i. leads_down (i + 1) (snap_of d (i + 1))) in
    let rights : Bool = all_below n (λ i. is_right (snap_of d) (snap_of d (i + 1))) in
    fill_joint l before 0 s.story (table_extended s.table f k)
    (joint_act laws l before 0 (TurnPages (Extend n)) (omega arith)
    (and_from (nat_le s.table.published n && (downs && rights)) _
    (and_from (nat_le s.table.published n) (downs && rights) (le-leb s.table.published n (omega arith))
    (and_from downs rights (all_true n (λ i. leads_down (i + 1) (snap_of d (i + 1))) down)
    (all_true n (λ i. is_right (snap_of d) (snap_of d (i + 1))) right))) refl)
    (snaps_sound laws l s f sound k)).sound
