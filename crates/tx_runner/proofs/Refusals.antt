-- Tries that were refused.
use Rattle.std.proofs.Common.{◌≡◌, inl, inr, Option, Some, None, true≢false, ℕ, Bool, true, false, ◌+◌, ◌*◌, ◌≤◌, ◌<◌}
use Rattle.std.proofs.Common.{length, List, [], ◌∷◌, ◌++◌}
use Rattle.std.proofs.Common.{refl, sym, ap, ◌∙◌, subst, arith, append_assoc, length-append}
use Rattle.std.specs.List.{AllByRecursion, Contains}
use Rattle.std.specs.Prelude.{◌==◌, IsTrue}
use Rattle.std.proofs.lemmas.Bool.{eqb-true}
use Rattle.std.proofs.lemmas.Grind.{flat_map-append}
use Rattle.std.proofs.lemmas.List.{append-nil, map-append}
use Rattle.std.proofs.lemmas.List.Sums.{sum_by-append, sum_by-cons}
use Rattle.lists.specs.Each.{all_push}
use Rattle.lists.specs.Elements.{any_in, any_is, in_cases, in_none}
use Rattle.lists.specs.Fronts.{front_refl}
use Rattle.homes.specs.Homes.{same_key}
use Rattle.homes.specs.Laws.{same_key-self}
use Rattle.serial_model.specs.declared.key.Key.{Key}
use Rattle.serial_model.specs.declared.op.Op.{Op}
use Rattle.serial_model.specs.Keys.{fits}
use Rattle.tx_sets.specs.declared.reads.ReadEntry.{ReadEntry}
use Rattle.tx_sets.specs.declared.seen.Seen.{Seen}
use Rattle.tx_sets.specs.declared.sets.Sets.{Sets}
use Rattle.tx_sets.specs.declared.writes.Write.{Write}
use Rattle.tx_sets.specs.Entries.{has_read, has_word, has_write}
use Rattle.engine_pages.specs.declared.layout.Layout.{Layout}
use Rattle.engine_pages.specs.Pages.{decl_of, is_array}
use Rattle.engine_pages.specs.Pointers.{one_kind}
use Rattle.engine_pages.specs.declared.view.RefusalCause.{RefusalCause}
use Rattle.engine_pages.specs.declared.view.RefusalCause.TheVariants as refusals
use Rattle.engine_pages.specs.declared.view.SetName.{SetName}
use Rattle.engine_pages.specs.declared.view.Touch.{Touch}
use Rattle.engine_pages.specs.declared.view.View.{View}
use Rattle.engine_pages.specs.Slots.{first_retired}
use Rattle.engine_pages.specs.Views.{seat_number}
use Rattle.page_commit.specs.Live.{IsLive, IsOver, IsWriteOf}
use Rattle.page_commit.specs.Places.{ground, spot_at, IsAnyKeyIn}
use Rattle.page_commit.proofs.PlaceLaws.{key_array}
use Rattle.page_commit.specs.Refusing.{HasRefused, RefusesBegin}
use Rattle.page_commit.specs.Committing.{IsRecordOf, RefusesCommit, TookOnly, kept_writes}
use Rattle.tx_runner.specs.declared.lines.LineEnd.{LineEnd}
use Rattle.tx_runner.specs.declared.lines.LineEnd.TheVariants as answers
use Rattle.tx_runner.specs.declared.room.LineRoom.{LineRoom}
use Rattle.tx_runner.specs.LineEnds.{RunsLine}
use Rattle.tx_runner.specs.Lines.{try_steps}
use Rattle.tx_runner.specs.Steps.{AreKeysOf, IsCauseAmong, IsMetBy, IsTryCause, IsWhyAmong, RefusesTry, end_of}
use Rattle.tx_runner.specs.Tries.{AreAllTaken, FillsSet, HasConflicted, HasDrawsLeft, HasTriedFor, IsAtSpot}
use Rattle.tx_runner.specs.Tries.{IsChangedAt, IsClash, IsConflicting, IsKeyOf, IsLeafWord, IsLostAt, IsMetOf, IsPlaced}
use Rattle.tx_runner.specs.Tries.{IsRecordWord, IsWayWord, IsWrittenBy, Lost, OfLeaf, OfRecord, OfSlot, OfWay, Spot}
use Rattle.tx_runner.specs.Tries.{ToClock, ToOther}
use Rattle.tx_runner.specs.Tries.{ToSet, ToSlots, TouchesOnly, Writes, blame_at, blame_of, blames_of, drawn_for}
use Rattle.tx_runner.specs.Tries.{why_of, whys_of}
use Rattle.tx_runner.proofs.Arrays.{written_at}
use Rattle.tx_runner.proofs.Causes.{record_word}
use Rattle.tx_runner.proofs.Standing.{StandsAs, left_before, seen_then, still}
use Rattle.tx_runner.proofs.Sums.{steps_more, steps_within}
use Rattle.tx_runner.proofs.Touched.{touches_then, untouched}

-- ---- one try

-- a refusal since the try began, for which so many numbers were drawn, and at which this one was met
tried_once : (ops : List Op) (why : RefusalCause) (lost : Lost) (u v w : View) → StandsAs ops u v → HasRefused why v w
    → why_of lost ≡ why → w.draws ≡ v.draws + drawn_for lost
    → w.blamed ≡ v.blamed ++ blame_of (seat_number v.role) lost → TouchesOnly ops u w → HasTriedFor ops (lost ∷ []) u w
tried_once ops why lost u v w s r is drawn blamed touched = record {
  over = r.over;
  layout = r.layout ∙ s.layout;
  role = r.role ∙ s.role;
  seen = seen_then u v w s.seen r.seen;
  since = let before = s.since in let later = r.since in omega (arith, before, later);
  mine = r.mine ∙ s.mine;
  draws = let same = s.draws in omega (arith, drawn, same, sum_by-cons drawn_for lost []);
  marks = r.marks ∙ s.marks;
  refused = r.refused ∙ ap (λ l. l ++ why ∷ []) s.refused ∙ ap (λ (x : RefusalCause). u.refused ++ x ∷ []) (sym is);
  blamed = blamed ∙ ap (λ (q : ℕ). v.blamed ++ blame_of q lost) (ap seat_number s.role)
      ∙ ap (λ l. l ++ blame_of (seat_number u.role) lost) s.blamed
      ∙ ap (λ l. u.blamed ++ l) (sym (append-nil (blame_of (seat_number u.role) lost)));
  touched = touched;
}

-- an entry of the key is in the read set
has_entry : (k : Key) (e : ReadEntry) (reads : List ReadEntry) → Contains reads e → e.key ≡ k → has_read k reads ≡ true
has_entry k e reads has is = any_in (λ (x : ReadEntry). same_key x.key k) reads e has
    (subst (λ (q : Key). same_key e.key q ≡ true) is (same_key-self e.key))

-- and one of the write set
has_written : (k : Key) (w : Write) (writes : List Write) → Contains writes w → w.key ≡ k → has_write k writes ≡ true
has_written k w writes has is = any_in (λ (x : Write). same_key x.key k) writes w has
    (subst (λ (q : Key). same_key w.key q ≡ true) is (same_key-self w.key))

-- the record of an entry of the read set stands there
read_place : (sets : Sets) (v : View) (e : ReadEntry) (k : Key) (at : ℕ) → IsLive sets v → Contains sets.reads e
    → e.key ≡ k → e.at ≡ at → IsAnyKeyIn (ground v) k at
read_place sets v e k at live has key place =
    let part = live.parts.reads e has in
    subst (λ (n : ℕ). IsAnyKeyIn (ground v) k n) place
    (subst (λ (q : Key). IsAnyKeyIn (ground v) q e.at) key part.2.place)

one_of : (P : Write → Type 0) (xs : List Write) (x : Write) → AllByRecursion P xs → Contains xs x → P x
one_of P [] x all has = absurd (in_none x has)
one_of P (y ∷ xs) x all has = elim (in_cases x y xs has) [
  | inl same ↦ subst P same all.0
  | inr later ↦ one_of P xs x all.1 later
]

-- and that of a write
write_place : (sets : Sets) (keep : Bool) (v : View) (w : Write) (k : Key) (at : ℕ) → IsLive sets v
    → Contains (kept_writes keep sets.writes) w → w.key ≡ k → w.at ≡ at → IsAnyKeyIn (ground v) k at
write_place sets true v w k at live has key place =
    let is = one_of (IsWriteOf (ground v)) sets.writes w live.writes has in
    subst (λ (n : ℕ). IsAnyKeyIn (ground v) k n) place
    (subst (λ (q : Key). IsAnyKeyIn (ground v) q w.at) key is.place)
write_place sets false v w k at live has key place = absurd (in_none w has)

-- the begin was refused
pub begin_refused : (ops : List Op) (why : RefusalCause) (v w : View) → RefusesBegin why v w → RefusesTry ops why v w
begin_refused ops why v w r =
    let lost : Lost = ToClock r.clock in record {
      lost = lost;
      is = sym r.is;
      tried = tried_once ops why lost v v w (still ops v) r.refused (sym r.is) (let none = r.undrawn in omega (
        arith,
        none,
      ))
          (r.blamed ∙ sym (append-nil v.blamed)) (untouched ops v w r.touched);
      cause = (r.high, r.draws, v.steps, r.last);
    }

-- a conflict, behind which so many numbers were drawn
clash_try : (ops : List Op) (at expected seen : ℕ) (spot : Spot) (u v w : View) → HasDrawsLeft u → StandsAs ops u v
    → HasRefused (refusals.Conflict at expected seen) v w → IsChangedAt spot expected seen → IsMetOf ops spot
    → IsAtSpot v.layout spot at → w.blamed ≡ v.blamed ++ blame_at (seat_number v.role) spot → TouchesOnly ops u w
    → RefusesTry ops (refusals.Conflict at expected seen) u w
clash_try ops at expected seen spot u v w left s r cause key place blamed touched =
    let why : RefusalCause = refusals.Conflict at expected seen in
    let lost : Lost = ToOther (record { why = why; spot = spot; drew = r.drew }) in record {
      lost = lost;
      is = refl;
      tried = tried_once ops why lost u v w s r refl r.draws blamed touched;
      cause = ((cause, key), left, subst (λ (y : Layout). IsAtSpot y spot at) s.layout place);
    }

-- no slot was usable
full_try : (ops : List Op) (told : Option (ℕ × ℕ)) (words : List ℕ) (u v w : View) → HasDrawsLeft u → StandsAs ops u v
    → HasRefused (refusals.Full told) v w → told ≡ first_retired 0 words → AreAllTaken words v w → Writes ops
    → w.draws ≡ v.draws → TouchesOnly ops u w → RefusesTry ops (refusals.Full told) u w
full_try ops told words u v w left s r is all writes draws touched =
    let why : RefusalCause = refusals.Full told in
    let lost : Lost = ToSlots words in record {
      lost = lost;
      is = ap refusals.Full (sym is);
      tried = tried_once ops why lost u v w s r (ap refusals.Full (sym is)) (omega (arith, draws))
          (r.blamed ∙ ap (λ l. v.blamed ++ l) r.told) touched;
      cause = (writes, taken_since, left);
    }
  where
    taken_since : AreAllTaken words u w
    taken_since = record {
      count = all.count ∙ ap (λ (l : Layout). l.slots) s.layout;
      taken = all.taken;
      step = all.step;
      since = let before = s.since in let later = all.since in omega (arith, before, later);
      looked = all.looked;
    }

-- a set was full
wide_try : (ops : List Op) (set : SetName) (u v w : View) → HasDrawsLeft u → StandsAs ops u v
    → HasRefused (refusals.Wide set) v w → FillsSet v.layout.decls ops set → w.draws ≡ v.draws → TouchesOnly ops u w
    → RefusesTry ops (refusals.Wide set) u w
wide_try ops set u v w left s r fills draws touched =
    let why : RefusalCause = refusals.Wide set in
    let lost : Lost = ToSet set in record {
      lost = lost;
      is = refl;
      tried = tried_once ops why lost u v w s r refl (omega (arith, draws)) (r.blamed ∙ ap (λ l. v.blamed ++ l) r.told)
          touched;
      cause = (subst (λ (l : Layout). FillsSet l.decls ops set) s.layout fills, left);
    }

-- an operation was refused
pub op_refused : (ops : List Op) (why : RefusalCause) (u v w : View) → HasDrawsLeft u → StandsAs ops u v
    → HasRefused why v w → IsCauseAmong ops why v w → RefusesTry ops why u w
op_refused ops why u v w left s r c =
    by_why why r c.op c.among c.draws (touches_then ops u v w s.layout s.role s.touched c.touched) c.cause
  where
    key_of : (op : Op) → Contains ops op → (spot : Spot) → IsMetBy op spot → IsMetOf ops spot
    key_of op among (OfRecord k) of = record { op = op; among = among; at = of }
    key_of op among (OfWay k) of = record { op = op; among = among; at = of }
    key_of op among (OfLeaf k) of = record { op = op; among = among; at = of }
    key_of op among OfSlot may = (may.0, record { op = op; among = among; writes = may.1 })

    by_why : (y : RefusalCause) → HasRefused y v w → (op : Op) → Contains ops op → w.draws ≡ v.draws
        → TouchesOnly ops u w → IsWhyAmong ops op y v w → RefusesTry ops y u w
    by_why (refusals.Conflict at expected seen) r op among draws touched c =
        clash_try ops at expected seen c.spot u v w left s r c.cause (key_of op among c.spot c.key) c.place c.blamed
        touched
    by_why (refusals.Full told) r op among draws touched c =
        full_try ops told c.words u v w left s r c.told_is c.all
        (c.key, record { op = op; among = among; writes = c.writes }) draws touched
    by_why (refusals.Wide set) r op among draws touched c = wide_try ops set u v w left s r c draws touched
    by_why (refusals.NumberLimit clock) r op among draws touched c = absurd c

-- the commit was refused
pub commit_refused : (ops : List Op) (why : RefusalCause) (sets : Sets) (keep : Bool) (u v w : View) → HasDrawsLeft u
    → StandsAs ops u v → AreKeysOf v.layout ops sets → IsLive sets v → HasRefused why v w
    → RefusesCommit sets (kept_writes keep sets.writes) why v w → RefusesTry ops why u w
commit_refused ops why sets keep u v w left s keys live r c = by_why why r c
  where
    kept : (k : Key) (b : Bool) → has_write k (kept_writes b sets.writes) ≡ true → IsWrittenBy ops k
    kept k true has = keys.writes k has
    kept k false has = absurd (true≢false (sym has))

    read_or_written : (k : Key) (at : ℕ) → IsRecordOf sets.reads (kept_writes keep sets.writes) k at → IsKeyOf ops k
    read_or_written k at (inl entry) = keys.reads k (has_entry k entry.0 sets.reads entry.1 entry.2)
    read_or_written k at (inr write) =
        let w = kept k keep (has_written k write.0 (kept_writes keep sets.writes) write.1 write.2) in
        record { op = w.op; among = w.among; at = written_at w.op k w.writes }

    pointer_way : (at : ℕ) → has_word at sets.pointers ≡ true → (k : Key) × IsKeyOf ops k × IsWayWord v.layout k at
    pointer_way at has =
        let p = any_is (λ (s : Seen). s.at == at) sets.pointers has in let x = keys.pointers p.0 p.1 in (
          x.0,
          x.1,
          subst (λ (n : ℕ). IsWayWord v.layout x.0 n) (eqb-true p.0.at at p.2) x.2,
        )

    -- the record of a key that is no array's is one of a tree
    tree_word : (k : Key) (at : ℕ) → IsAnyKeyIn (ground v) k at → is_array v.layout.decls k.storage ≡ false
        → IsLeafWord v.layout k at
    tree_word k at (inl here) other = absurd (true≢false (sym (key_array (ground v) k at here) ∙ other))
    tree_word k at (inr here) other = (here.kind, record_word v k at here)

    -- that of a key of an array stands in a leaf
    array_word : (k : Key) (at : ℕ) → IsAnyKeyIn (ground v) k at → is_array v.layout.decls k.storage ≡ true
        → IsRecordWord v.layout k at
    array_word k at (inl here) array = record {
      slot = (spot_at v.layout.slots at).slot;
      within = here.there;
      first = here.way.span.low;
      index = (spot_at v.layout.slots at).index;
      few = here.index;
      key = ap (λ (q : Key). q.key) here.key;
      word = here.word;
    }
    array_word k at (inr here) array = absurd (one_kind (decl_of v.layout.decls k.storage) array here.kind)

    -- and stands where the sets have it
    place_of : (k : Key) (at : ℕ) → IsRecordOf sets.reads (kept_writes keep sets.writes) k at
        → IsAnyKeyIn (ground v) k at
    place_of k at (inl entry) = read_place sets v entry.0 k at live entry.1 entry.2 entry.3
    place_of k at (inr write) = write_place sets keep v write.0 k at live write.1 write.2 write.3

    touches : TookOnly (kept_writes keep sets.writes) v w → TouchesOnly ops u w
    touches took t has = elim (took t has) [
      | inl before ↦ s.touched t before
      | inr own ↦ inr (own.0 ∙ ap seat_number s.role, inl (kept t.key keep own.1))
    ]

    by_why : (y : RefusalCause) → HasRefused y v w → RefusesCommit sets (kept_writes keep sets.writes) y v w
        → RefusesTry ops y u w
    by_why (refusals.Conflict at expected seen) r c = elim c.0 [
      | inl here ↦
          clash_try ops at expected seen (OfRecord here.0) u v w left s r here.2.conflict.cause
          (read_or_written here.0 at here.1)
          (here.3, array_word here.0 at (place_of here.0 at here.1) here.3) here.2.blamed (touches c.1)
      | inr other ↦ elim other [
        | inl pointer ↦
            let way = pointer_way at pointer.0 in
            clash_try ops at expected seen (OfWay way.0) u v w left s r pointer.1.cause way.1 way.2
            (pointer.2 ∙ sym (append-nil v.blamed)) (touches c.1)
        | inr rest ↦ elim rest [
          | inl header ↦
              let way = keys.headers at header.0 in
              clash_try ops at expected seen (OfLeaf way.0) u v w left s r header.1.cause way.1 way.2
              (header.2 ∙ sym (append-nil v.blamed)) (touches c.1)
          | inr tree ↦
              clash_try ops at expected seen (OfLeaf tree.0) u v w left s r tree.2.cause
              (read_or_written tree.0 at tree.1) (tree_word tree.0 at (place_of tree.0 at tree.1) tree.4)
              (tree.3 ∙ sym (append-nil v.blamed)) (touches c.1)
        ]
      ]
    ]
    by_why (refusals.Full told) r c = absurd c
    by_why (refusals.Wide set) r c = absurd c
    by_why (refusals.NumberLimit clock) r c = absurd c

-- ---- tries one after another

pub none_tried : (ops : List Op) (v : View) → IsOver v → HasConflicted ops 0 v v
none_tried ops v over = record {
  began = λ one. absurd (omega (arith, one));
  losts = [];
  count = refl;
  each = tt;
  placed = tt;
  tried = record {
    over = over;
    layout = refl;
    role = refl;
    seen = record { history = front_refl v.history; decided = front_refl v.decided };
    since = omega arith;
    mine = refl;
    draws = omega arith;
    marks = refl;
    refused = sym (append-nil v.refused);
    blamed = sym (append-nil v.blamed);
    touched = untouched ops v v refl;
  };
}

pub blames_then : (q : ℕ) (xs ys : List Lost) (u v w : List Touch) → v ≡ u ++ blames_of q xs → w ≡ v ++ blames_of q ys
    → w ≡ u ++ blames_of q (xs ++ ys)
blames_then q xs ys u v w a b =
    b ∙ ap (λ l. l ++ blames_of q ys) a ∙ append_assoc u (blames_of q xs) (blames_of q ys)
    ∙ ap (λ l. u ++ l) (sym (flat_map-append (blame_of q) xs ys))

pub tried_then : (ops : List Op) (xs ys : List Lost) (u v w : View) → HasTriedFor ops xs u v → HasTriedFor ops ys v w
    → HasTriedFor ops (xs ++ ys) u w
tried_then ops xs ys u v w a b = record {
  over = b.over;
  layout = b.layout ∙ a.layout;
  role = b.role ∙ a.role;
  seen = seen_then u v w a.seen b.seen;
  since = let before = a.since in let later = b.since in omega (arith, before, later);
  mine = b.mine ∙ a.mine;
  draws =
      let first = a.draws in
      let second = b.draws in
      let all = sum_by-append drawn_for xs ys in
      omega (arith, first, second, all);
  marks = b.marks ∙ a.marks;
  refused = b.refused ∙ ap (λ l. l ++ whys_of ys) a.refused ∙ append_assoc u.refused (whys_of xs) (whys_of ys)
      ∙ ap (λ l. u.refused ++ l) (sym (map-append why_of xs ys));
  blamed = blames_then (seat_number u.role) xs ys u.blamed v.blamed w.blamed a.blamed
      (b.blamed ∙ ap (λ (q : ℕ). v.blamed ++ blames_of q ys) (ap seat_number a.role));
  touched = touches_then ops u v w a.layout a.role a.touched b.touched;
}

-- one try more was refused with Conflict
pub conflicted_more : (ops : List Op) (done : ℕ) (why : RefusalCause) (u v w : View) → HasConflicted ops done u v
    → RefusesTry ops why v w → ((end : LineEnd) → end_of why ≡ Some end → ⊥) → HasConflicted ops (done + 1) u w
conflicted_more ops done why u v w h r goes = by_lost r.lost r.is r.tried r.cause
  where
    by_lost : (lost : Lost) → why_of lost ≡ why → HasTriedFor ops (lost ∷ []) v w → IsTryCause ops lost v w
        → HasConflicted ops (done + 1) u w
    by_lost (ToOther clash) is tried cause =
        let lost : Lost = ToOther clash in record {
          began = λ one. left_before u v h.tried.layout h.tried.seen cause.1;
          losts = h.losts ++ lost ∷ [];
          count = length-append h.losts (lost ∷ []) ∙ ap (λ n. n + 1) h.count;
          each = all_push (IsClash ops) h.losts lost h.each cause.0;
          placed = all_push (IsPlaced u.layout) h.losts lost h.placed
              (subst (λ (y : Layout). IsPlaced y (ToOther clash)) h.tried.layout cause.2);
          tried = tried_then ops h.losts (lost ∷ []) u v w h.tried tried;
        }
    by_lost (ToSlots words) is tried cause = absurd (goes answers.Full (ap end_of (sym is)))
    by_lost (ToSet set) is tried cause = absurd (goes answers.Wide (ap end_of (sym is)))
    by_lost (ToClock clock) is tried cause = absurd (goes answers.Limit (ap end_of (sym is)))

-- a conflict ends no line
conflict_goes_on : (why : RefusalCause) (spot : Spot) → IsConflicting why spot → end_of why ≡ None
conflict_goes_on (refusals.Conflict at expected seen) spot cause = refl
conflict_goes_on (refusals.Full told) spot cause = absurd cause
conflict_goes_on (refusals.Wide set) spot cause = absurd cause
conflict_goes_on (refusals.NumberLimit clock) spot cause = absurd cause

-- the try behind others was lost so
abbrev lost_behind : (ops : List Op) (done tries : ℕ) (lost : Lost) (u v w : View) → done < tries
    → HasConflicted ops done u v → HasTriedFor ops (lost ∷ []) v w → IsLostAt ops lost tries u w
lost_behind ops done tries lost u v w less h tried = record {
  losts = h.losts;
  fewer = omega (arith, less, h.count);
  each = h.each;
  placed = h.placed;
  tried = tried_then ops h.losts (lost ∷ []) u v w h.tried tried;
}

-- one try was refused so that the line isn't tried again
pub line_ended : (ops : List Op) (done tries : ℕ) (why : RefusalCause) (end : LineEnd) (room : LineRoom) (u v w : View)
    → done < tries → HasConflicted ops done u v → RefusesTry ops why v w → end_of why ≡ Some end
    → RunsLine ops tries end room u w
line_ended ops done tries why end room u v w less h r ends = by_lost r.lost r.is r.tried r.cause
  where
    as_end : (told : LineEnd) → end_of why ≡ Some told → RunsLine ops tries told room u w
        → RunsLine ops tries end room u w
    as_end told is runs =
        let same : told ≡ end = cc in subst (λ (x : LineEnd). RunsLine ops tries x room u w) same runs

    by_lost : (lost : Lost) → why_of lost ≡ why → HasTriedFor ops (lost ∷ []) v w → IsTryCause ops lost v w
        → RunsLine ops tries end room u w
    by_lost (ToOther clash) is tried cause =
        absurd (let goes = conflict_goes_on clash.why clash.spot cause.0.0 in let same = ap end_of is in cc)
    by_lost (ToSlots words) is tried cause = as_end answers.Full (ap end_of (sym is)) record {
      began = left_before u v h.tried.layout h.tried.seen cause.2;
      writes = cause.0;
      words = words;
      refused = lost_behind ops done tries (ToSlots words) u v w less h tried;
      last = v;
      before = h.tried;
      all = cause.1;
    }
    by_lost (ToSet set) is tried cause = as_end answers.Wide (ap end_of (sym is)) record {
      began = left_before u v h.tried.layout h.tried.seen cause.1;
      set = set;
      fills = subst (λ (l : Layout). FillsSet l.decls ops set) h.tried.layout cause.0;
      refused = lost_behind ops done tries (ToSet set) u v w less h tried;
    }
    by_lost (ToClock clock) is tried cause = as_end answers.Limit (ap end_of (sym is)) record {
      clock = clock;
      high = cause.0;
      draws = cause.1 ∙ ap (λ (l : Layout). l.first.draw + length w.history) h.tried.layout;
      step = cause.2;
      last = cause.3;
      refused = lost_behind ops done tries (ToClock clock) u v w less h tried;
    }

-- ---- the line's tries

-- all of them were refused with Conflict
pub all_tried : (ops : List Op) (tried tries : ℕ) (v w : View) → tried ≤ tries → tries ≤ tried
    → HasConflicted ops tried v w → HasConflicted ops tries v w
all_tried ops tried tries v w within all h =
    let same : tried ≡ tries = omega (arith, within, all) in subst (λ n. HasConflicted ops n v w) same h

-- the declarations are the same behind them
pub tried_fits : (ops : List Op) (tried : ℕ) (v w : View) → HasConflicted ops tried v w
    → AllByRecursion (λ op. IsTrue (fits v.layout.decls op)) ops
    → AllByRecursion (λ op. IsTrue (fits w.layout.decls op)) ops
tried_fits ops tried v w h all =
    subst (λ (l : Layout). AllByRecursion (λ op. IsTrue (fits l.decls op)) ops) (sym h.tried.layout) all

-- ---- steps

-- one more took no more steps than each may, as the storages and slots were before
pub more_took : (ops : List Op) (tried : ℕ) (u v w : View) → HasConflicted ops tried u v
    → v.steps ≤ u.steps + tried * try_steps u.layout.decls u.layout.slots ops
    → w.steps ≤ v.steps + try_steps v.layout.decls v.layout.slots ops
    → w.steps ≤ u.steps + (tried + 1) * try_steps u.layout.decls u.layout.slots ops
more_took ops tried u v w h before took =
    steps_more tried (try_steps u.layout.decls u.layout.slots ops) u.steps v.steps w.steps before
    (subst (λ (l : Layout). w.steps ≤ v.steps + try_steps l.decls l.slots ops) h.tried.layout took)

-- so a line that ends with it took no more than all its tries may
pub line_took : (ops : List Op) (tried tries : ℕ) (u v w : View) → tried < tries → HasConflicted ops tried u v
    → v.steps ≤ u.steps + tried * try_steps u.layout.decls u.layout.slots ops
    → w.steps ≤ v.steps + try_steps v.layout.decls v.layout.slots ops
    → w.steps ≤ u.steps + tries * try_steps u.layout.decls u.layout.slots ops
line_took ops tried tries u v w less h before took =
    steps_within (tried + 1) tries (try_steps u.layout.decls u.layout.slots ops) u.steps w.steps (omega (arith, less))
    (more_took ops tried u v w h before took)
