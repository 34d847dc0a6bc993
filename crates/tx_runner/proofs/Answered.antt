-- What operations come to, one after another.
use Rattle.std.proofs.Common.{◌≡◌, inl, inr, ℕ, zero, suc, ◌+◌, ◌*◌, ◌≤◌, ◌<◌, Bool, true, false, List, [], ◌∷◌, ◌++◌}
use Rattle.std.proofs.Common.{length, take, drop}
use Rattle.std.proofs.Common.{Option, Some, None, Result, Ok, Err, refl, sym, ap, ◌∙◌, subst, arith, get_or}
use Rattle.std.proofs.Common.{length-append, true≢false, ◌⊎◌, eqb-true}
use Rattle.std.specs.Prelude.{◌==◌, IfOk, IsTrue, OnOk, option_to_list, sum_by, ⊤}
use Rattle.std.specs.List.{AllByRecursion, Contains}
use Rattle.std.proofs.lemmas.List.{append-nil, take_more, take-append-drop}
use Rattle.std.proofs.lemmas.List.Elements.{Contains-append_cases, Contains-append_left}
use Rattle.lists.specs.Elements.{any_in, any_is, in_head, in_none, in_push_new, in_push_old}
use Rattle.homes.specs.Homes.{same_key}
use Rattle.homes.specs.Laws.{same_key-true}
use Rattle.serial_model.specs.declared.decl.Decl.{Decl}
use Rattle.serial_model.specs.declared.key.Key.{Key}
use Rattle.serial_model.specs.declared.number.Change.{Change}
use Rattle.serial_model.specs.declared.op.Op.{Op}
use Rattle.serial_model.specs.declared.reply.Reply.{Reply}
use Rattle.serial_model.specs.declared.reply.Verdict.{Verdict}
use Rattle.serial_model.specs.declared.reply.Verdict.TheVariants.{Done, Short, Over}
use Rattle.serial_model.specs.Keys.{fits}
use Rattle.commit_core.specs.declared.part.Part.{Part}
use Rattle.serial_bridge.specs.Transaction.{Turn, Continues, Stops, Finished, finished, FinishesBy, Runs}
use Rattle.tx_sets.specs.declared.reads.ReadEntry.{ReadEntry}
use Rattle.tx_sets.specs.declared.seen.Seen.{Seen}
use Rattle.tx_sets.specs.declared.sets.Sets.{Sets}
use Rattle.tx_sets.specs.declared.writes.Write.{Write}
use Rattle.tx_sets.specs.Entries.{has_read, has_word, has_write}
use Rattle.tx_sets.specs.Gathered.{AreEmpty}
use Rattle.engine_pages.specs.declared.layout.Layout.{Layout}
use Rattle.engine_pages.specs.declared.view.RefusalCause.{RefusalCause}
use Rattle.engine_pages.specs.declared.view.RefusalCause.TheVariants as refusals
use Rattle.engine_pages.specs.declared.view.SetName.{SetName}
use Rattle.engine_pages.specs.declared.view.SetName.TheVariants as names
use Rattle.engine_pages.specs.declared.view.View.{View}
use Rattle.engine_pages.specs.Pages.{is_tree}
use Rattle.engine_seats.specs.Cuts.{HasSeen}
use Rattle.serial_model.specs.Decls.{AreDecls}
use Rattle.page_commit.specs.Live.{IsLive}
use Rattle.page_commit.specs.Altering.{Alters}
use Rattle.page_commit.specs.Turning.{meets_most, HasDone, HasMore, HeadsOnly, IsPointerOf, IsReadBy}
use Rattle.page_commit.specs.Turning.{MeetsOnly, OnlyWalked, ReadsOnly, WritesOnly}
use Rattle.page_commit.proofs.FoundLaws.{nothing_walked}
use Rattle.page_commit.proofs.TurnLaws.{walks_then}
use Rattle.page_commit.specs.Calls.{op_holds}
use Rattle.page_commit.specs.Running.{HasRun, HasEnded}
use Rattle.page_commit.specs.RunLaws.{goes_on_run, ends_run}
use Rattle.tx_runner.specs.Lines.{keeps, op_steps, HasTreeOp, HasTreeScan, IsOfKey, IsOnTree, IsTreeScan}
use Rattle.tx_runner.specs.Steps.{AreCounted, AreFewMet, AreKeysOf, AreSized, AreWithin, HasAnswered, HasAnsweredAll}
use Rattle.tx_runner.specs.Steps.{IsCauseAmong, IsOpCause, IsOpWhy, IsOpWide, IsWhyAmong, OnlyLoaded, OpEndsIt}
use Rattle.tx_runner.specs.Steps.{OpGoesOn}
use Rattle.tx_runner.specs.Tries.{FillsSet, IsLeafWord, IsWayWord, TouchesOnly}
use Rattle.tx_runner.proofs.Arrays.{on_either, op_meets, op_no_tree, read_at_key, scans_or_meets, written_at}
use Rattle.tx_runner.proofs.Arrays.{IsOnArray}
use Rattle.tx_runner.proofs.Causes.{conflict_since, full_since, header_word, met_word}
use Rattle.tx_runner.proofs.Sums.{sum_more, sum_within}
use Rattle.tx_runner.proofs.Touched.{done_locked, only_one, touches_then, touches_wider, untouched}

-- ---- one operation

-- an operation without a reply
pub without_reply : (op : Op) (replies : List Reply) (sets new : Sets) (v w : View) → HasDone op None sets new v w
    → HasAnswered op Done replies replies sets new v w
without_reply op replies sets new v w done = record {
  reply = None;
  replies = sym (append-nil replies);
  done = done;
}

pub written_so : (r : Result ⊤ RefusalCause) (op : Op) (replies : List Reply) (sets new : Sets) (v w : View)
    → OnOk r (HasDone op None sets new v w) → OnOk r (HasAnswered op Done replies replies sets new v w)
written_so (Ok x) op replies sets new v w done = without_reply op replies sets new v w done
written_so (Err why) op replies sets new v w done = tt

-- one with a reply
pub with_reply : (op : Op) (reply : Reply) (old now : List Reply) (sets new : Sets) (v w : View)
    → HasDone op (Some reply) sets new v w → now ≡ old ++ reply ∷ [] → HasAnswered op Done old now sets new v w
with_reply op reply old now sets new v w done is = record { reply = Some reply; replies = is; done = done }

-- an addition or a subtraction, which may end the transaction
alters_so : (op : Op) (verdict : Verdict) (replies : List Reply) (sets new : Sets) (v w : View)
    → Alters op verdict sets new v w → HasAnswered op verdict replies replies sets new v w
alters_so op Done replies sets new v w a = without_reply op replies sets new v w a
alters_so op Short replies sets new v w a = record { replies = refl; stopped = a }
alters_so op Over replies sets new v w a = record { replies = refl; stopped = a }

pub alters_answered : (r : Result Verdict RefusalCause) (op : Op) (replies : List Reply) (sets new : Sets) (v w : View)
    → IfOk r (λ verdict. Alters op verdict sets new v w)
    → IfOk r (λ verdict. HasAnswered op verdict replies replies sets new v w)
alters_answered (Ok verdict) op replies sets new v w a = alters_so op verdict replies sets new v w a
alters_answered (Err why) op replies sets new v w a = tt

-- ---- how many keys there are, on arrays

none_within : (sets : Sets) → AreEmpty sets → AreWithin 0 sets
none_within sets empty = record {
  reads = omega (arith, ap (λ (l : List ReadEntry). length l) empty.reads);
  writes = omega (arith, ap (λ (l : List Write). length l) empty.writes);
  pointers = omega (arith, ap (λ (l : List Seen). length l) empty.pointers);
  headers = ap (λ (l : List Seen). length l) empty.headers;
  holds = omega (arith, ap (λ (l : List ℕ). length l) empty.holds);
}

more_than : {A : Type 0} (P : A → Type 0) (most : ℕ) (old new : List A) (n : ℕ) → HasMore A P most old new
    → most ≡ 1 → length old ≤ n → length new ≤ n + 1
more_than {A} P most old new n h is few =
    let count : length new ≡ length (old ++ h.more) = ap (λ (l : List A). length l) h.is in
    let sum : length (old ++ h.more) ≡ length old + length h.more = length-append old h.more in
    let more = h.few in omega (arith, few, is, count, sum, more)

-- a list without an element is empty
empty_where : {A : Type 0} (xs : List A) → ((x : A) → Contains xs x → ⊥) → xs ≡ []
empty_where [] none = refl
empty_where (x ∷ xs) none = absurd (none x (in_head x xs))

none_long : {A : Type 0} (xs : List A) → length xs ≡ 0 → xs ≡ []
none_long [] is = refl
none_long (x ∷ xs) is = absurd (omega (arith, is))

-- an operation on an array keeps no header
heads_none : (v w : View) (op : Op) (old new : List Seen) → w.layout ≡ v.layout → IsOnArray v.layout.decls op
    → HeadsOnly w op old new → old ≡ [] → new ≡ []
heads_none v w op old new same on h none = empty_where new (λ x has. elim (h.each x has) [
  | inl before ↦
      let no : has_word x.at old ≡ false = ap (has_word x.at) none in true≢false (sym before ∙ no)
  | inr over ↦ op_no_tree v.layout.decls op over.0 on (inl over.1)
      (subst (λ (l : Layout). is_tree l.decls over.0.storage ≡ true) same over.2.tree)
])

holds_more : (n old new : ℕ) → old ≤ op_holds * n → new ≤ old + op_holds → new ≤ op_holds * (n + 1)
holds_more n old new few more =
    let first : old ≤ 6 * n = few in let second : new ≤ old + 6 = more in
    let all : new ≤ 6 * (n + 1) = omega (arith, first, second) in all

sized_more : (op : Op) (sets new : Sets) (v w : View) (n : ℕ) → IsOnArray v.layout.decls op → OnlyWalked v w
    → ReadsOnly v.layout.decls op sets.reads new.reads → length new.writes ≤ length sets.writes + 1
    → MeetsOnly w op sets.pointers new.pointers → HeadsOnly w op sets.headers new.headers
    → length new.holds ≤ length sets.holds + op_holds → AreWithin n sets → AreWithin (n + 1) new
sized_more op sets new v w n on only reads writes pointers headers grows few = record {
  reads = more_than (IsReadBy v.layout.decls op) (meets_most op) sets.reads new.reads n reads
      (op_meets v.layout.decls op on) few.reads;
  writes = omega (arith, writes, few.writes);
  pointers = more_than (IsPointerOf w op) (meets_most op) sets.pointers new.pointers n pointers
      (op_meets v.layout.decls op on) few.pointers;
  headers = ap (λ (l : List Seen). length l) (heads_none v w op sets.headers new.headers
      (ap (λ (y : View). y.layout) only.is) on headers (none_long sets.headers few.headers));
  holds = holds_more n (length sets.holds) (length new.holds) few.holds grows;
}

pub within_more : (m n : ℕ) (sets : Sets) → m ≤ n → AreWithin m sets → AreWithin n sets
within_more m n sets le few = record {
  reads = omega (arith, le, few.reads);
  writes = omega (arith, le, few.writes);
  pointers = omega (arith, le, few.pointers);
  headers = few.headers;
  holds = let old : length sets.holds ≤ 6 * m = few.holds in
      let now : length sets.holds ≤ 6 * n = omega (arith, le, old) in now;
}

-- ---- how many there are, on arrays and trees

none_counted : (ops : List Op) (sets : Sets) (v : View) → AreEmpty sets → AreCounted ops 0 sets v
none_counted ops sets v empty =
    let none = none_within sets empty in
    let headers = none.headers in record {
      writes = none.writes;
      met = inr (record { reads = none.reads; pointers = none.pointers; headers = omega (arith, headers) });
    }

-- one that is no scan meets one of each kind at most
met_more : (op : Op) (sets new : Sets) (v w : View) (n : ℕ) → meets_most op ≡ 1
    → ReadsOnly v.layout.decls op sets.reads new.reads → MeetsOnly w op sets.pointers new.pointers
    → HeadsOnly w op sets.headers new.headers → AreFewMet n sets → AreFewMet (n + 1) new
met_more op sets new v w n one reads pointers headers few = record {
  reads = more_than (IsReadBy v.layout.decls op) (meets_most op) sets.reads new.reads n reads one few.reads;
  pointers = more_than (IsPointerOf w op) (meets_most op) sets.pointers new.pointers n pointers one few.pointers;
  headers = let most = headers.few in omega (arith, most, one, few.headers);
}

-- ---- which keys

-- an operation more is one of those up to it
among_take : (ops : List Op) (d : Op) (i : ℕ) → i < length ops → Contains (take (i + 1) ops) (get_or ops i d)
among_take ops d i less =
    subst (λ (l : List Op). Contains l (get_or ops i d)) (sym (take_more ops i d less))
    (in_push_new (get_or ops i d) (take i ops))

-- and those before it are so still
among_later : (ops : List Op) (d op : Op) (i : ℕ) → i < length ops → Contains (take i ops) op
    → Contains (take (i + 1) ops) op
among_later ops d op i less has =
    subst (λ (l : List Op). Contains l op) (sym (take_more ops i d less))
    (in_push_old op (get_or ops i d) (take i ops) has)

no_keys : (l : Layout) (ops : List Op) (sets : Sets) → AreEmpty sets → AreKeysOf l ops sets
no_keys l ops sets empty = record {
  reads = λ k has. absurd (let none : has_read k sets.reads ≡ false = ap (has_read k) empty.reads in
      true≢false (sym has ∙ none));
  writes = λ k has. absurd (let none : has_write k sets.writes ≡ false = ap (has_write k) empty.writes in
      true≢false (sym has ∙ none));
  pointers = λ p has. absurd (in_none p (subst (λ (y : List Seen). Contains y p) empty.pointers has));
  headers = λ at has. absurd (let none : has_word at sets.headers ≡ false = ap (has_word at) empty.headers in
      true≢false (sym has ∙ none));
}

read_among : (decls : List Decl) (op : Op) (old new : List ReadEntry) (k : Key) → ReadsOnly decls op old new
    → has_read k new ≡ true → (has_read k old ≡ true) ⊎ IsOfKey op k
read_among decls op old new k h has =
    let found = any_is (λ (e : ReadEntry). same_key e.key k) new has in
    elim (Contains-append_cases old h.more found.0 (subst (λ (l : List ReadEntry). Contains l found.0) h.is found.1)) [
      | inl before ↦ inl (any_in (λ (e : ReadEntry). same_key e.key k) old found.0 before found.2)
      | inr later ↦ elim (h.each found.0 later) [
        | inl may ↦ inr (subst (IsOfKey op) (same_key-true found.0.key k found.2) (read_at_key op found.0.key may))
        | inr added ↦ inr (subst (IsOfKey op) (same_key-true found.0.key k found.2)
            (written_at op found.0.key added.0))
      ]
    ]

-- such a word is one by the layout of before
way_word : (v w : View) (k : Key) (at : ℕ) → w.layout ≡ v.layout → IsWayWord w.layout k at → IsWayWord v.layout k at
way_word v w k at same word = subst (λ (l : Layout). IsWayWord l k at) same word

leaf_word : (v w : View) (k : Key) (at : ℕ) → w.layout ≡ v.layout → IsLeafWord w.layout k at
    → IsLeafWord v.layout k at
leaf_word v w k at same word = subst (λ (l : Layout). IsLeafWord l k at) same word

-- a pointer that was met is one of before, or on the way to a key of the operation
met_among : (v w : View) (op : Op) (old new : List Seen) (p : Seen) → w.layout ≡ v.layout → AreDecls w.layout.decls
    → MeetsOnly w op old new → Contains new p
    → Contains old p ⊎ ((k : Key) × IsOfKey op k × IsWayWord v.layout k p.at)
met_among v w op old new p same are h has =
    elim (Contains-append_cases old h.more p (subst (λ (y : List Seen). Contains y p) h.is has)) [
      | inl before ↦ inl before
      | inr later ↦ by_pointer (h.each p later)
    ]
  where
    by_pointer : IsPointerOf w op p → Contains old p ⊎ ((k : Key) × IsOfKey op k × IsWayWord v.layout k p.at)
    by_pointer x = elim x.2 [
      | inl place ↦ inr (x.0, read_at_key op x.0 x.1, way_word v w x.0 p.at same (inl place))
      | inr tree ↦ inr (
        x.0,
        read_at_key op x.0 x.1,
        way_word v w x.0 p.at same (inr (tree.tree, met_word w x.0 p.at are tree)),
      )
    ]

-- a header that is kept was kept before, or is that of a leaf over a key of the operation
head_among : (v w : View) (op : Op) (old new : List Seen) (at : ℕ) → w.layout ≡ v.layout → HeadsOnly w op old new
    → has_word at new ≡ true → (has_word at old ≡ true) ⊎ ((k : Key) × IsOfKey op k × IsLeafWord v.layout k at)
head_among v w op old new at same h has =
    let found = any_is (λ (s : Seen). s.at == at) new has in
    let here : found.0.at ≡ at = eqb-true found.0.at at found.2 in
    elim (h.each found.0 found.1) [
      | inl before ↦ inl (subst (λ (n : ℕ). has_word n old ≡ true) here before)
      | inr over ↦ inr (
        over.0,
        read_at_key op over.0 over.1,
        subst (λ (n : ℕ). IsLeafWord v.layout over.0 n) here
            (leaf_word v w over.0 found.0.at same (over.2.tree, header_word w over.0 found.0.at over.2)),
      )
    ]

-- the keys of one operation more
keys_more : (v w : View) (ops : List Op) (d : Op) (done : ℕ) (sets new : Sets) → done < length ops
    → w.layout ≡ v.layout → AreDecls w.layout.decls → AreKeysOf v.layout (take done ops) sets
    → ReadsOnly v.layout.decls (get_or ops done d) sets.reads new.reads
    → MeetsOnly w (get_or ops done d) sets.pointers new.pointers
    → WritesOnly (get_or ops done d) sets.writes new.writes → HeadsOnly w (get_or ops done d) sets.headers new.headers
    → AreKeysOf v.layout (take (done + 1) ops) new
keys_more v w ops d done sets new less same decls are reads met writes headers = record {
  reads = λ k has. elim (read_among v.layout.decls (get_or ops done d) sets.reads new.reads k reads has) [
    | inl before ↦
        let key = are.reads k before in
        record { op = key.op; among = among_later ops d key.op done less key.among; at = key.at }
    | inr here ↦ record { op = get_or ops done d; among = among_take ops d done less; at = here }
  ];
  writes = λ k has. elim (writes k has) [
    | inl before ↦
        let key = are.writes k before in
        record { op = key.op; among = among_later ops d key.op done less key.among; writes = key.writes }
    | inr here ↦ record { op = get_or ops done d; among = among_take ops d done less; writes = here }
  ];
  pointers = λ p has. elim (met_among v w (get_or ops done d) sets.pointers new.pointers p same decls met has) [
    | inl before ↦
        let x = are.pointers p before in (
          x.0,
          record { op = x.1.op; among = among_later ops d x.1.op done less x.1.among; at = x.1.at },
          x.2,
        )
    | inr here ↦
        (here.0, record { op = get_or ops done d; among = among_take ops d done less; at = here.1 }, here.2)
  ];
  headers = λ at has. elim (head_among v w (get_or ops done d) sets.headers new.headers at same headers has) [
    | inl before ↦
        let x = are.headers at before in (
          x.0,
          record { op = x.1.op; among = among_later ops d x.1.op done less x.1.among; at = x.1.at },
          x.2,
        )
    | inr here ↦
        (here.0, record { op = get_or ops done d; among = among_take ops d done less; at = here.1 }, here.2)
  ];
}

-- those of first operations are keys of all
in_taken : (ops : List Op) (op : Op) (i : ℕ) → Contains (take i ops) op → Contains ops op
in_taken ops op i has =
    subst (λ (l : List Op). Contains l op) (take-append-drop i ops)
    (Contains-append_left (take i ops) (drop i ops) op has)

keys_of_all : (l : Layout) (ops : List Op) (done : ℕ) (sets : Sets) → AreKeysOf l (take done ops) sets
    → AreKeysOf l ops sets
keys_of_all l ops done sets are = record {
  reads = λ k has. let key = are.reads k has in
      record { op = key.op; among = in_taken ops key.op done key.among; at = key.at };
  writes = λ k has. let key = are.writes k has in
      record { op = key.op; among = in_taken ops key.op done key.among; writes = key.writes };
  pointers = λ p has. let x = are.pointers p has in
      (x.0, record { op = x.1.op; among = in_taken ops x.1.op done x.1.among; at = x.1.at }, x.2);
  headers = λ at has. let x = are.headers at has in
      (x.0, record { op = x.1.op; among = in_taken ops x.1.op done x.1.among; at = x.1.at }, x.2);
}

-- ---- walks

pub nothing_loaded : (ops : List Op) (v : View) → OnlyLoaded ops v v
nothing_loaded ops v = record { walked = nothing_walked v; touched = untouched ops v v refl }

walked_layout : (v w : View) → OnlyWalked v w → w.layout ≡ v.layout
walked_layout v w l = ap (λ (x : View). x.layout) l.is

loaded_layout : (ops : List Op) (v w : View) → OnlyLoaded ops v w → w.layout ≡ v.layout
loaded_layout ops v w l = walked_layout v w l.walked

-- what was seen behind walks
pub loaded_seen : (ops : List Op) (v w : View) → OnlyLoaded ops v w → HasSeen v w
loaded_seen ops v w l = record { history = l.walked.drawn; decided = l.walked.seen }

-- and what operations of the list may lock more
loaded_more : (ops : List Op) (d : Op) (i : ℕ) (u v w : View) → i < length ops → OnlyLoaded ops u v → OnlyWalked v w
    → TouchesOnly (get_or ops i d ∷ []) v w → OnlyLoaded ops u w
loaded_more ops d i u v w less a walked locks = record {
  walked = walks_then u v w a.walked walked;
  touched = touches_then ops u v w (loaded_layout ops u v a) (ap (λ (x : View). x.role) a.walked.is) a.touched
      (touches_wider (get_or ops i d ∷ []) ops v w (only_one (get_or ops i d) ops
      (in_taken ops (get_or ops i d) (i + 1) (among_take ops d i less))) locks);
}

-- ---- one operation after others

-- The first operations were run, over what stood at the begin.
pub record HasRunSome (ops : List Op) (done : ℕ) (replies : List Reply) (sets : Sets) (v w : View) : Type 0 where
  pub within : done ≤ length ops
  pub few : length replies ≤ done
  pub live : IsLive sets w
  pub only : OnlyLoaded ops v w
  pub sized : AreSized ops done sets v
  pub counted : AreCounted ops done sets v
  pub steps : w.steps ≤ v.steps + sum_by (op_steps v.layout.decls v.layout.slots) (take done ops)
  pub run : HasRun (take done ops) replies sets w
  pub keys : AreKeysOf w.layout (take done ops) sets

pub run_none : (ops : List Op) (replies : List Reply) (sets : Sets) (v : View) → replies ≡ [] → IsLive sets v
    → AreEmpty sets → HasRun [] [] sets v → HasRunSome ops 0 replies sets v v
run_none ops replies sets v none live empty run = record {
  within = omega arith;
  few = let count : length replies ≡ 0 = ap length none in omega arith;
  live = live;
  only = nothing_loaded ops v;
  sized = inr (none_within sets empty);
  counted = none_counted ops sets v empty;
  steps = omega arith;
  run = subst (λ l. HasRun [] l sets v) (sym none) run;
  keys = no_keys v.layout (take 0 ops) sets empty;
}

few_more : (reply : Option Reply) → length (option_to_list reply) ≤ 1
few_more None = omega arith
few_more (Some r) = omega arith

-- an operation took so many steps, as the storages and slots were before
op_took : (ops : List Op) (op : Op) (u v w : View) → OnlyLoaded ops u v
    → w.steps ≤ v.steps + op_steps v.layout.decls v.layout.slots op
    → w.steps ≤ v.steps + op_steps u.layout.decls u.layout.slots op
op_took ops op u v w l most =
    subst (λ (y : Layout). w.steps ≤ v.steps + op_steps y.decls y.slots op) (loaded_layout ops u v l) most

-- one more took so many
took_more : (ops : List Op) (d : Op) (done : ℕ) (u v w : View) → done < length ops → OnlyLoaded ops u v
    → v.steps ≤ u.steps + sum_by (op_steps u.layout.decls u.layout.slots) (take done ops)
    → w.steps ≤ v.steps + op_steps v.layout.decls v.layout.slots (get_or ops done d)
    → w.steps ≤ u.steps + sum_by (op_steps u.layout.decls u.layout.slots) (take (done + 1) ops)
took_more ops d done u v w less l before most =
    let f : Op → ℕ = op_steps u.layout.decls u.layout.slots in
    let sum = sum_more f ops d done less in
    let more = op_took ops (get_or ops done d) u v w l most in
    omega (arith, before, more, sum)

-- the keys are the same behind walks
keys_later : (ops : List Op) (sets : Sets) (v w : View) → OnlyWalked v w → AreKeysOf v.layout ops sets
    → AreKeysOf w.layout ops sets
keys_later ops sets v w l are = subst (λ (y : Layout). AreKeysOf y ops sets) (sym (walked_layout v w l)) are

-- the line has an operation on a tree, if this one is
tree_op : (ops : List Op) (d : Op) (i : ℕ) (u v : View) → i < length ops → OnlyLoaded ops u v
    → IsOnTree v.layout.decls (get_or ops i d) → HasTreeOp u.layout.decls ops
tree_op ops d i u v less l on = (
  get_or ops i d,
  in_taken ops (get_or ops i d) (i + 1) (among_take ops d i less),
  subst (λ (y : Layout). IsOnTree y.decls (get_or ops i d)) (loaded_layout ops u v l) on,
)

-- so it scans one
tree_scan : (ops : List Op) (d : Op) (i : ℕ) (u v : View) → i < length ops → OnlyLoaded ops u v
    → IsTreeScan v.layout.decls (get_or ops i d) → HasTreeScan u.layout.decls ops
tree_scan ops d i u v less l scan = (
  get_or ops i d,
  in_taken ops (get_or ops i d) (i + 1) (among_take ops d i less),
  subst (λ (y : Layout). IsTreeScan y.decls (get_or ops i d)) (loaded_layout ops u v l) scan,
)

-- how many there are behind one operation more
counted_then : (ops : List Op) (d : Op) (done : ℕ) (sets new : Sets) (u v w : View) → done < length ops
    → OnlyLoaded ops u v → IsTrue (fits v.layout.decls (get_or ops done d))
    → ReadsOnly v.layout.decls (get_or ops done d) sets.reads new.reads
    → length new.writes ≤ length sets.writes + 1 → MeetsOnly w (get_or ops done d) sets.pointers new.pointers
    → HeadsOnly w (get_or ops done d) sets.headers new.headers → AreCounted ops done sets u
    → AreCounted ops (done + 1) new u
counted_then ops d done sets new u v w less l fit reads writes pointers headers few = record {
  writes = omega (arith, writes, few.writes);
  met = elim few.met [
    | inl scan ↦ inl scan
    | inr least ↦ elim (scans_or_meets v.layout.decls (get_or ops done d) fit) [
      | inl scan ↦ inl (tree_scan ops d done u v less l scan)
      | inr one ↦ inr (met_more (get_or ops done d) sets new v w done one reads pointers headers least)
    ]
  ];
}

-- the sizes of the sets behind one operation more
sized_then : (ops : List Op) (d : Op) (done : ℕ) (sets new : Sets) (u v w : View) → done < length ops
    → OnlyLoaded ops u v → IsTrue (fits v.layout.decls (get_or ops done d))
    → IsOnTree v.layout.decls (get_or ops done d) ⊎ (length new.holds ≤ length sets.holds + op_holds)
    → AreSized ops done sets u
    → (IsOnArray v.layout.decls (get_or ops done d) → length new.holds ≤ length sets.holds + op_holds
    → AreWithin done sets → AreWithin (done + 1) new) → AreSized ops (done + 1) new u
sized_then ops d done sets new u v w less l fit grows (inl tree) on_array = inl tree
sized_then ops d done sets new u v w less l fit (inl tree) (inr few) on_array = inl (tree_op ops d done u v less l tree)
sized_then ops d done sets new u v w less l fit (inr grows) (inr few) on_array =
    elim (on_either v.layout.decls (get_or ops done d) fit) [
      | inl tree ↦ inl (tree_op ops d done u v less l tree)
      | inr array ↦ inr (on_array array grows few)
    ]

run_more : (ops : List Op) (d : Op) (done : ℕ) (old now : List Reply) (sets new : Sets) (u v w : View)
    → done < length ops → IsTrue (fits v.layout.decls (get_or ops done d)) → HasRunSome ops done old sets u v
    → OpGoesOn (get_or ops done d) old now sets new v w
    → w.steps ≤ v.steps + op_steps v.layout.decls v.layout.slots (get_or ops done d)
    → IsOnTree v.layout.decls (get_or ops done d) ⊎ (length new.holds ≤ length sets.holds + op_holds)
    → HasRunSome ops (done + 1) now new u w
run_more ops d done old now sets new u v w less fit h g most grows =
    let op : Op = get_or ops done d in record {
      within = omega arith;
      few = let count : length now ≡ length old + length (option_to_list g.reply) =
          ap length g.replies ∙ length-append old (option_to_list g.reply) in
          omega (arith, h.few, few_more g.reply);
      live = g.done.live;
      only = loaded_more ops d done u v w less h.only g.done.only (done_locked op v w g.done.only g.done.locks);
      sized = sized_then ops d done sets new u v w less h.only fit grows h.sized (λ on more few.
          sized_more op sets new v w done on g.done.only g.done.reads g.done.grows g.done.pointers g.done.headers more
          few);
      counted = counted_then ops d done sets new u v w less h.only fit g.done.reads g.done.grows g.done.pointers
          g.done.headers h.counted;
      steps = took_more ops d done u v w less h.only h.steps most;
      run = subst (λ l. HasRun l now new w) (sym (take_more ops done d less))
          (subst (λ l. HasRun (take done ops ++ op ∷ []) l new w) (sym g.replies)
          (goes_on_run (take done ops) old op g.reply sets new v w h.run fit g.done));
      keys = keys_later (take (done + 1) ops) new v w g.done.only
          (keys_more v w ops d done sets new less (walked_layout v w g.done.only) g.done.live.decls h.keys g.done.reads
          g.done.pointers g.done.writes g.done.headers);
    }

-- an operation behind which the transaction goes on
pub run_on : (ops : List Op) (d : Op) (done : ℕ) (verdict : Verdict) (old now : List Reply) (sets new : Sets)
    (u v w : View) → done < length ops → keeps verdict ≡ true → IsTrue (fits v.layout.decls (get_or ops done d))
    → HasRunSome ops done old sets u v → HasAnswered (get_or ops done d) verdict old now sets new v w
    → w.steps ≤ v.steps + op_steps v.layout.decls v.layout.slots (get_or ops done d)
    → IsOnTree v.layout.decls (get_or ops done d) ⊎ (length new.holds ≤ length sets.holds + op_holds)
    → HasRunSome ops (done + 1) now new u w
run_on ops d done Done old now sets new u v w less goes fit h a most grows =
    run_more ops d done old now sets new u v w less fit h a most grows
run_on ops d done Short old now sets new u v w less goes fit h a most grows = absurd cc
run_on ops d done Over old now sets new u v w less goes fit h a most grows = absurd cc

-- ---- the end

by_turn : (decls : List Decl) (parts : List Part) (ops more : List Op) (turn : Turn) (f : Finished)
    → ((own : List Change) (g : Finished) → keeps g.verdict ≡ false → Runs decls parts ops own g
    → Runs decls parts (ops ++ more) own g)
    → keeps f.verdict ≡ false → FinishesBy turn (Runs decls parts ops) f
    → FinishesBy turn (Runs decls parts (ops ++ more)) f
by_turn decls parts ops more (Continues reply own) f rest stops by = (
  by.0,
  rest own by.0 (ap (λ (x : Finished). keeps x.verdict) (sym by.2) ∙ stops) by.1,
  by.2,
)
by_turn decls parts ops more (Stops verdict) f rest stops by = by

-- what is run to an end that isn't Done runs no more, whatever follows
ended_longer : (decls : List Decl) (parts : List Part) (ops more : List Op) (own : List Change) (f : Finished)
    → keeps f.verdict ≡ false → Runs decls parts ops own f → Runs decls parts (ops ++ more) own f
ended_longer decls parts [] more own f stops r = absurd (let is = ap (λ (x : Finished). keeps x.verdict) r in cc)
ended_longer decls parts (op ∷ ops) more own f stops r = (
  r.0,
  (
    r.1.0,
    r.1.1,
    by_turn decls parts ops more r.1.0 f (λ next g. ended_longer decls parts ops more next g) stops r.1.2,
  ),
)

ended_line : (ops : List Op) (done : ℕ) (verdict : Verdict) (replies : List Reply) (w : View) → keeps verdict ≡ false
    → HasEnded (take done ops) verdict replies w → HasEnded ops verdict replies w
ended_line ops done verdict replies w stops e = record {
  runs = subst (λ l. Runs w.layout.decls w.seat.kept l [] (finished verdict replies [])) (take-append-drop done ops)
      (ended_longer w.layout.decls w.seat.kept (take done ops) (drop done ops) [] (finished verdict replies []) stops
      e.runs);
}

sized_all : (ops : List Op) (i : ℕ) (sets : Sets) (u : View) → i ≤ length ops → AreSized ops i sets u
    → AreSized ops (length ops) sets u
sized_all ops i sets u le (inl tree) = inl tree
sized_all ops i sets u le (inr few) = inr (within_more i (length ops) sets le few)

stops_at : (ops : List Op) (d : Op) (done : ℕ) (verdict : Verdict) (old now : List Reply) (sets new : Sets)
    (u v w : View) → keeps verdict ≡ false → done < length ops → IsTrue (fits v.layout.decls (get_or ops done d))
    → HasRunSome ops done old sets u v → OpEndsIt (get_or ops done d) verdict old now sets new v w
    → IsOnTree v.layout.decls (get_or ops done d) ⊎ (length new.holds ≤ length sets.holds + op_holds)
    → HasEnded ops verdict now w × IsLive new w × OnlyLoaded ops u w × AreSized ops (length ops) new u
    × AreKeysOf w.layout ops new
stops_at ops d done verdict old now sets new u v w stops less fit h e grows =
    let op : Op = get_or ops done d in (
      ended_line ops (done + 1) verdict now w stops
          (subst (λ l. HasEnded l verdict now w) (sym (take_more ops done d less))
          (subst (λ l. HasEnded (take done ops ++ op ∷ []) verdict l w) (sym e.replies)
          (ends_run (take done ops) old op verdict sets new v w h.run fit e.stopped))),
      e.stopped.live,
      loaded_more ops d done u v w less h.only e.stopped.only (done_locked op v w e.stopped.only e.stopped.locks),
      sized_all ops (done + 1) new u (omega (arith, less))
          (sized_then ops d done sets new u v w less h.only fit grows h.sized (λ on more few.
          sized_more op sets new v w done on e.stopped.only e.stopped.reads e.stopped.grows e.stopped.pointers
          e.stopped.headers more few)),
      keys_later ops new v w e.stopped.only (keys_of_all v.layout ops (done + 1) new
          (keys_more v w ops d done sets new less (walked_layout v w e.stopped.only) e.stopped.live.decls h.keys
          e.stopped.reads e.stopped.pointers e.stopped.writes e.stopped.headers)),
    )

-- with one operation more they took no more steps than all may
pub all_took : (ops : List Op) (d : Op) (done : ℕ) (u v w : View) → done < length ops → OnlyLoaded ops u v
    → v.steps ≤ u.steps + sum_by (op_steps u.layout.decls u.layout.slots) (take done ops)
    → w.steps ≤ v.steps + op_steps v.layout.decls v.layout.slots (get_or ops done d)
    → w.steps ≤ u.steps + sum_by (op_steps u.layout.decls u.layout.slots) ops
all_took ops d done u v w less l before most =
    sum_within (op_steps u.layout.decls u.layout.slots) ops (done + 1) u.steps w.steps
    (took_more ops d done u v w less l before most)

-- an operation that ends the transaction
pub run_ended : (ops : List Op) (d : Op) (done : ℕ) (verdict : Verdict) (old now : List Reply) (sets new : Sets)
    (u v w : View) → done < length ops → keeps verdict ≡ false → IsTrue (fits v.layout.decls (get_or ops done d))
    → HasRunSome ops done old sets u v → HasAnswered (get_or ops done d) verdict old now sets new v w
    → IsOnTree v.layout.decls (get_or ops done d) ⊎ (length new.holds ≤ length sets.holds + op_holds)
    → HasAnsweredAll ops verdict now new u w
run_ended ops d done Done old now sets new u v w less stops fit h a grows = absurd cc
run_ended ops d done Short old now sets new u v w less stops fit h a grows =
    let e = stops_at ops d done Short old now sets new u v w refl less fit h a grows in record {
      live = e.1;
      only = e.2;
      sized = e.3;
      run = e.0;
      keys = e.4;
    }
run_ended ops d done Over old now sets new u v w less stops fit h a grows =
    let e = stops_at ops d done Over old now sets new u v w refl less fit h a grows in record {
      live = e.1;
      only = e.2;
      sized = e.3;
      run = e.0;
      keys = e.4;
    }

-- all operations were run
pub run_all : (ops : List Op) (done : ℕ) (replies : List Reply) (sets : Sets) (v w : View) → take done ops ≡ ops
    → HasRunSome ops done replies sets v w → HasAnsweredAll ops Done replies sets v w
run_all ops done replies sets v w all h = record {
  live = h.live;
  only = h.only;
  sized = sized_all ops done sets v h.within h.sized;
  run = subst (λ l. HasRun l replies sets w) all h.run;
  keys = keys_of_all w.layout ops done sets h.keys;
}

-- ---- a refusal among the operations

-- an operation was refused, behind others
pub cause_among : (ops : List Op) (d : Op) (i : ℕ) (sets : Sets) (why : RefusalCause) (u v w : View) → i < length ops
    → length ops ≤ 16 → OnlyLoaded ops u v → AreSized ops i sets u → AreCounted ops i sets u
    → IsOpCause (get_or ops i d) sets why v w → IsCauseAmong ops why u w
cause_among ops d i sets why u v w less most l sized counted c =
    let here : Contains ops (get_or ops i d) = in_taken ops (get_or ops i d) (i + 1) (among_take ops d i less) in
    record {
      op = get_or ops i d;
      among = here;
      draws = c.draws ∙ ap (λ (x : View). x.draws) l.walked.is;
      touched = touches_then ops u v w (loaded_layout ops u v l) (ap (λ (x : View). x.role) l.walked.is) l.touched
          (touches_wider (get_or ops i d ∷ []) ops v w (only_one (get_or ops i d) ops here) c.touched);
      cause = by_why why c.cause;
    }
  where
    wide_among : (set : SetName) → IsOpWide v.layout.decls (get_or ops i d) sets set → FillsSet u.layout.decls ops set
    wide_among names.Reads (inl scan) = tree_scan ops d i u v less l scan
    wide_among names.Reads (inr full) = elim counted.met [
      | inl scan ↦ scan
      | inr few ↦ absurd (omega (arith, full, less, most, few.reads, few.headers))
    ]
    wide_among names.Writes full = absurd (omega (arith, full, less, most, counted.writes))
    wide_among names.Pointers (inl scan) = tree_scan ops d i u v less l scan
    wide_among names.Pointers (inr full) = elim counted.met [
      | inl scan ↦ scan
      | inr few ↦ absurd (omega (arith, full, less, most, few.pointers))
    ]
    wide_among names.Holds (inl tree) = tree_op ops d i u v less l tree
    wide_among names.Holds (inr full) = elim sized [
      | inl tree ↦ tree
      | inr few ↦
          let high : 128 ≤ length sets.holds + 6 = full in
          let held : length sets.holds ≤ 6 * i = few.holds in absurd (omega (arith, high, held, less, most))
    ]

    by_why : (y : RefusalCause) → IsOpWhy (get_or ops i d) sets y v w → IsWhyAmong ops (get_or ops i d) y u w
    by_why (refusals.Conflict at expected seen) c =
        conflict_since (get_or ops i d) at expected seen u v w l.walked c
    by_why (refusals.Full told) c = full_since (get_or ops i d) told u v w l.walked c
    by_why (refusals.Wide set) c = wide_among set c
    by_why (refusals.NumberLimit clock) c = absurd c

-- ---- by index

fits_at : (decls : List Decl) (ops : List Op) (d : Op) (i : ℕ) → AllByRecursion (λ op. IsTrue (fits decls op)) ops
    → i < length ops → IsTrue (fits decls (get_or ops i d))
fits_at decls [] d i all less = absurd (omega (arith, less))
fits_at decls (op ∷ ops) d zero all less = all.0
fits_at decls (op ∷ ops) d (suc i) all less = fits_at decls ops d i all.1 (omega (arith, less))

-- behind walks the declarations are the same
pub loaded_fits : (ops : List Op) (d : Op) (i : ℕ) (v w : View)
    → AllByRecursion (λ op. IsTrue (fits v.layout.decls op)) ops → i < length ops → OnlyLoaded ops v w
    → IsTrue (fits w.layout.decls (get_or ops i d))
loaded_fits ops d i v w all less l =
    subst (λ (y : Layout). IsTrue (fits y.decls (get_or ops i d))) (sym (loaded_layout ops v w l))
    (fits_at v.layout.decls ops d i all less)

pub taken_all : (ops : List Op) (i : ℕ) → length ops ≤ i → take i ops ≡ ops
taken_all [] zero le = refl
taken_all [] (suc i) le = refl
taken_all (op ∷ ops) zero le = absurd (omega (arith, le))
taken_all (op ∷ ops) (suc i) le = ap (λ l. op ∷ l) (taken_all ops i (omega (arith, le)))

-- ---- by what was tested

pub kept_so : (verdict : Verdict) (test : Bool) → test ≡ keeps verdict → test ≡ true → keeps verdict ≡ true
kept_so verdict test is true-so = sym is ∙ true-so

pub dropped_so : (verdict : Verdict) (test : Bool) → test ≡ keeps verdict → test ≡ false → keeps verdict ≡ false
dropped_so verdict test is false-so = sym is ∙ false-so
