-- What one savepoint of a run counts, and what images stand for that have all of it.
use Rattle.std.proofs.Common.{◌≡◌, ◌⊎◌, ◌∙◌, ◌≤◌, ◌<◌, ◌+◌, ◌*◌, sym, ap, subst, refl, inl, inr, ℕ, zero, suc, arith}
use Rattle.std.proofs.Common.{List, [], length, Option, Some, None, take, drop, Bool, cond, eqb, eq-eqb}
use Rattle.std.specs.Prelude.{flat_map}
use Rattle.std.specs.List.{Contains}
use Rattle.std.proofs.lemmas.Bool.{cases_eq, ne_eqb}
use Rattle.std.proofs.lemmas.List.{take-append-drop}
use Rattle.std.proofs.lemmas.List.Elements.{Contains-append_cases}
use Rattle.std.proofs.lemmas.Grind.{flat_map-append}
use Rattle.lists.specs.Fronts.{IsFront}
use Rattle.serial_model.specs.History.{Entry, EpochsNeverFall, Rises, as_of}
use Rattle.serial_model.specs.State.{State}
use Rattle.serial_model.specs.declared.decl.Decl.{Decl}
use Rattle.serial_model.specs.declared.key.Key.{Key}
use Rattle.serial_model.specs.declared.number.Commit.{Commit}
use Rattle.serial_model.specs.declared.number.Number.{Number}
use Rattle.log_mapper.specs.Mapped.{entries_of}
use Rattle.wire_form.specs.LogFile.{lines_bytes}
use Rattle.wire_form.specs.declared.bucket.Entry.{Entry as LogEntry}
use Rattle.wire_form.specs.declared.page.Page.{Page}
use Rattle.wire_form.specs.declared.savepoint.Savepoint.{Savepoint}
use Rattle.log_writer.specs.Save.{Names}
use Rattle.snapshot_store.specs.Content.{words_of}
use Rattle.snapshot_store.specs.Store.{bytes_of_pages}
use Rattle.recovery_core.specs.Catalogues.{AreCatalogues, HasPages, newest_epoch}
use Rattle.joint_crashes.specs.Images.{Images, counted_of}
use Rattle.joint_crashes.specs.Marks.{Marks}
use Rattle.recovery_core.specs.Recoverable.{Reading}
use Rattle.recovery_core.specs.StoredPages.{has_pages, whole_size}
use Rattle.worker_logs.specs.Saves.{IsCounted, closed_number, growing_number}
use Rattle.worker_logs.specs.declared.savepoints.Side.{Side}
use Rattle.worker_logs.specs.declared.savepoints.Side.TheVariants.{Even, Odd}
use Rattle.program_calls.proofs.KeptFiles.{gone_rise, here_rise}
use Rattle.program_calls.proofs.KeptHere.{PagesOf}
use Rattle.program_calls.proofs.KeptIn.{FileOf, IsKept, IsKeptFile, StandsFor, stands_for}
use Rattle.program_calls.proofs.KeptLogged.{LoggedIn, entries_all, gone_written, here_written, where_written}
use Rattle.program_calls.proofs.KeptPages.{SnapshotsAt}
use Rattle.program_calls.proofs.KeptParts.{GoneCounts}
use Rattle.program_calls.proofs.KeptWrites.{Writes, entry_at}

-- A savepoint of a run: it is of these pages, the last of which is its newest catalogue; of each growing log file it
-- counts whole lines that cover its own epoch, and of each closed one all that its snapshots don't have.
pub record PointAt (was : Reading) (decls : List Decl) (saved : ℕ) (s : State) (ordered : List Entry) (side : Side)
    (closed_at : ℕ) (older gone commits : ℕ → List Commit) (durable closed : ℕ → List ℕ) (q : Savepoint)
    : Type 0 where
  pub closed_by : closed_at ≤ q.epoch
  pub pages : List Page
  pub count : q.count ≡ length pages
  pub catalogue : q.catalogue ≡ length pages
  pub store : PagesOf was decls saved s ordered pages older closed_at
  pub growing : (w : ℕ) → w < 8
      → IsCounted (commits w) (durable w) q.epoch (counted_of (Some q) (growing_number side w))
  pub gone_counts : (w : ℕ) → w < 8 → GoneCounts q.epoch (gone w) (closed w)
      (counted_of (Some q) (closed_number side w)) (newest_epoch store.at.catalogues)

-- what isn't in front is behind
in_drop : (n : ℕ) (commits : List Commit) (x : LogEntry) → Contains (flat_map entries_of commits) x
    → Contains (flat_map entries_of (take n commits)) x ⊎ Contains (flat_map entries_of (drop n commits)) x
in_drop n commits x has = Contains-append_cases (flat_map entries_of (take n commits))
    (flat_map entries_of (drop n commits)) x
    (subst (λ l. Contains l x) (flat_map-append entries_of (take n commits) (drop n commits))
    (subst (λ cs. Contains (flat_map entries_of cs) x) (sym (take-append-drop n commits)) has))

-- an entry that a mark's epoch covers is among what the mark counts
in_marks : (commits : List Commit) (epoch size : ℕ) (marks : Marks commits epoch size) (x : LogEntry)
    → Contains (flat_map entries_of commits) x → x.number.epoch ≤ epoch
    → Contains (flat_map entries_of (take marks.front commits)) x
in_marks commits epoch size marks x has within = elim (in_drop marks.front commits x has) [
  | inl here ↦ here
  | inr later ↦ absurd (omega (
    arith,
    entries_all (λ (n : Number). epoch < n.epoch) (drop marks.front commits) x marks.rest later,
    within,
  ))
]

-- a choice for each of the first numbers
choose : {A : Type 0} (P : ℕ → A → Type 0) (n : ℕ) → A → ((w : ℕ) → w < n → (a : A) × P w a)
    → (f : ℕ → A) × ((w : ℕ) → w < n → P w (f w))
choose P zero first each = (λ w. first, λ w below. absurd (omega (arith, below)))
choose {A} P (suc n) first each =
    let rest = choose P n first (λ w below. each w (omega (arith, below))) in
    let last = each n (omega arith) in (
      λ w. cond (eqb w n) last.0 (rest.0 w),
      λ w below. elim (cases_eq w n) [
        | inl same ↦ subst (λ v. P v (cond (eqb v n) last.0 (rest.0 v))) (sym same)
            (subst (λ (b : Bool). P n (cond b last.0 (rest.0 n))) (sym (eq-eqb n n refl)) last.1)
        | inr other ↦ subst (λ (b : Bool). P w (cond b last.0 (rest.0 w))) (sym (ne_eqb w n other))
            (rest.1 w (omega (arith, below, other)))
      ],
    )

module _ {was : Reading} {decls : List Decl} {saved : ℕ} {s : State} {ordered : List Entry} {side : Side}
    {since closed_at : ℕ} {older gone commits : ℕ → List Commit} {durable closed : ℕ → List ℕ} (q : Savepoint)
    (it : LoggedIn decls s ordered since closed_at older gone commits) (rises : Rises ordered)
    (falls : EpochsNeverFall ordered)
    (at : PointAt was decls saved s ordered side closed_at older gone commits durable closed q)
    (counted : ℕ → List ℕ) (sized : (n : ℕ) → n < 16 → length (counted n) ≡ counted_of (Some q) n)
    (grows : (w : ℕ) → w < 8 → IsFront (counted (growing_number side w)) (lines_bytes (commits w)))
    (shut : (w : ℕ) → w < 8 → IsFront (counted (closed_number side w)) (lines_bytes (gone w)))
    (left : Images) (names : Names left.save (Some q)) (pages : IsFront (bytes_of_pages at.pages) left.snaps)
    (found : (n : ℕ) → n < 16 → IsFront (counted n) (left.bank n)) where
  growing_below : (side : Side) (w : ℕ) → w < 8 → growing_number side w < 16
  growing_below Even w below = omega (arith, below)
  growing_below Odd w below = omega (arith, below)

  closed_below : (side : Side) (w : ℕ) → w < 8 → closed_number side w < 16
  closed_below Even w below = omega (arith, below)
  closed_below Odd w below = omega (arith, below)

  abbrev newest : ℕ
  newest = newest_epoch at.store.at.catalogues

  -- A log file has durable lines of these commits, and of those behind the newest snapshot each that is up to the
  -- savepoint's epoch counts.
  record OfWorker (these : List Commit) (n : ℕ) (file : FileOf) : Type 0 where
    is : IsKeptFile left decls q n file
    of : file.commits ≡ these
    covers : (x : LogEntry) → Contains (flat_map entries_of these) x → newest < x.number.epoch → x.number.epoch ≤ q.epoch
        → Contains (flat_map entries_of (take file.front file.commits)) x

  growing_file : (w : ℕ) → w < 8 → (file : FileOf) × OfWorker (commits w) (growing_number side w) file
  growing_file w below =
      let n = growing_number side w in
      let small : n < 16 = growing_below side w below in
      let marks = (at.growing w below).0 in (
        record { commits = commits w; durable = counted n; front = marks.front },
        record {
          is = record {
            within = omega (arith, sized n small);
            lines = marks.lines;
            begins = grows w below;
            reads = found n small;
            lines_are = it.lines_here w below;
            rise = here_rise it rises w below;
          };
          of = refl;
          covers = λ x has above within. in_marks (commits w) q.epoch (counted_of (Some q) n) marks x has within;
        },
      )

  -- how many lines of a closed one count
  record ClosedFront (w : ℕ) : Type 0 where
    front : ℕ
    lines : lines_bytes (take front (gone w)) ≡ take (counted_of (Some q) (closed_number side w)) (lines_bytes (gone w))
    covers : (x : LogEntry) → Contains (flat_map entries_of (gone w)) x → newest < x.number.epoch
        → x.number.epoch ≤ q.epoch → Contains (flat_map entries_of (take front (gone w))) x

  closed_front : (w : ℕ) → w < 8 → ClosedFront w
  closed_front w below = elim (at.gone_counts w below) [
    | inl counts ↦ record {
      front = counts.0.front;
      lines = counts.0.lines;
      covers = λ x has above within.
          in_marks (gone w) q.epoch (counted_of (Some q) (closed_number side w)) counts.0 x has within;
    }
    | inr none ↦ record {
      front = 0;
      lines = ap (λ k. take k (lines_bytes (gone w))) (sym none.0);
      covers = λ x has above within. absurd (omega (
        arith,
        entries_all (λ (n : Number). n.epoch ≤ newest) (gone w) x none.1 has,
        above,
      ));
    }
  ]

  closed_file : (w : ℕ) → w < 8 → (file : FileOf) × OfWorker (gone w) (closed_number side w) file
  closed_file w below =
      let n = closed_number side w in
      let small : n < 16 = closed_below side w below in
      let front = closed_front w below in (
        record { commits = gone w; durable = counted n; front = front.front },
        record {
          is = record {
            within = omega (arith, sized n small);
            lines = front.lines;
            begins = shut w below;
            reads = found n small;
            lines_are = it.lines_gone w below;
            rise = gone_rise it rises w below;
          };
          of = refl;
          covers = front.covers;
        },
      )

  no_file : FileOf
  no_file = record { commits = []; durable = []; front = 0 }

  growing : (file : ℕ → FileOf) × ((w : ℕ) → w < 8 → OfWorker (commits w) (growing_number side w) (file w))
  growing = choose (λ w file. OfWorker (commits w) (growing_number side w) file) 8 no_file growing_file

  closed_ones : (file : ℕ → FileOf) × ((w : ℕ) → w < 8 → OfWorker (gone w) (closed_number side w) (file w))
  closed_ones = choose (λ w file. OfWorker (gone w) (closed_number side w) file) 8 no_file closed_file

  -- what it has the run wrote
  growing_sound : (w : ℕ) (x : LogEntry) → w < 8 → Contains (flat_map entries_of (growing.0 w).commits) x
      → (worker : ℕ) × Writes decls s ordered worker x.key x.number x.value
  growing_sound w x below has = (
    w,
    here_written it w x below (subst (λ cs. Contains (flat_map entries_of cs) x) (growing.1 w below).of has),
  )

  closed_sound : (w : ℕ) (x : LogEntry) → w < 8 → Contains (flat_map entries_of (closed_ones.0 w).commits) x
      → (worker : ℕ) × Writes decls s ordered worker x.key x.number x.value
  closed_sound w x below has = (
    w,
    gone_written it w x below (subst (λ cs. Contains (flat_map entries_of cs) x) (closed_ones.1 w below).of has),
  )

  -- and what it wrote behind the newest snapshot counts in one of both
  all_there : (worker : ℕ) (key : Key) (number : Number) (value : Option ℕ)
      → Writes decls s ordered worker key number value → newest < number.epoch → number.epoch ≤ q.epoch
      → (w : ℕ) × (w < 8) × (Contains (flat_map entries_of (take (growing.0 w).front (growing.0 w).commits))
      (entry_at key number value)
      ⊎ Contains (flat_map entries_of (take (closed_ones.0 w).front (closed_ones.0 w).commits))
      (entry_at key number value))
  all_there worker key number value writes above within =
      let x : LogEntry = entry_at key number value in
      let wrote = where_written it worker key number value writes in
      let below = wrote.0 in
      elim wrote.1 [
        | inl early ↦ absurd (omega (
          arith,
          entries_all (λ (n : Number). n.epoch ≤ newest) (older worker) x (at.store.older_in worker below) early,
          above,
        ))
        | inr later ↦ elim later [
          | inl here ↦ (worker, below, inr ((closed_ones.1 worker below).covers x here above within))
          | inr there ↦ (worker, below, inl ((growing.1 worker below).covers x there above within))
        ]
      ]

  pages_are : HasPages left.snaps q.count (words_of at.pages)
  pages_are = has_pages at.pages q.count left.snaps at.store.whole at.store.fit (sym at.count)
      (sym pages ∙ ap (λ n. take n left.snaps) (whole_size at.pages at.store.whole ∙ ap (λ k. 512 * k) (sym at.count)))

  snapshots_are : SnapshotsAt was decls saved s ordered (words_of at.pages) q.catalogue
  snapshots_are =
      let own = at.store.at in
      record {
        catalogues = own.catalogues;
        some = omega (arith, own.some, at.catalogue);
        chain = subst (λ n. AreCatalogues (words_of at.pages) (newest_epoch own.catalogues + 1) None n own.catalogues)
            (sym at.catalogue) own.chain;
        stands = own.stands;
        decls_are = own.decls_are;
        content = own.content;
        each = own.each;
        stays = own.stays;
        as_was = own.as_was;
      }

  kept_by : (own : Side) → own ≡ side → IsKept was left decls saved s ordered q
  unfolding snapshots_are
  kept_by Even is = record {
    names = names;
    words = words_of at.pages;
    pages = pages_are;
    snapshots = snapshots_are;
    early = omega (arith, at.store.closed_in, at.closed_by);
    even = growing.0;
    odd = closed_ones.0;
    even_is = λ w below. subst (λ x. IsKeptFile left decls q (growing_number x w) (growing.0 w)) (sym is)
        (growing.1 w below).is;
    odd_is = λ w below. subst (λ x. IsKeptFile left decls q (closed_number x w) (closed_ones.0 w)) (sym is)
        (closed_ones.1 w below).is;
    sound_even = growing_sound;
    sound_odd = closed_sound;
    complete = λ worker key number value writes above within.
        all_there worker key number value writes above within;
  }
  kept_by Odd is = record {
    names = names;
    words = words_of at.pages;
    pages = pages_are;
    snapshots = snapshots_are;
    early = omega (arith, at.store.closed_in, at.closed_by);
    even = closed_ones.0;
    odd = growing.0;
    even_is = λ w below. subst (λ x. IsKeptFile left decls q (closed_number x w) (closed_ones.0 w)) (sym is)
        (closed_ones.1 w below).is;
    odd_is = λ w below. subst (λ x. IsKeptFile left decls q (growing_number x w) (growing.0 w)) (sym is)
        (growing.1 w below).is;
    sound_even = closed_sound;
    sound_odd = growing_sound;
    complete = λ worker key number value writes above within.
        let has = all_there worker key number value writes above within in
        (has.0, has.1, elim has.2 [ inl here ↦ inr here | inr here ↦ inl here ]);
  }

  stands_by : (own : Side) → own ≡ side
      → StandsFor left (words_of at.pages) at.store.at.catalogues q.epoch (as_of decls s ordered q.epoch)
  unfolding kept_by snapshots_are
  stands_by Even is = stands_for was left decls saved s ordered q (kept_by Even is) rises falls
  stands_by Odd is = stands_for was left decls saved s ordered q (kept_by Odd is) rises falls

  -- Images that name it, and have its pages and what it counts, stand for its epoch and the state as of it.
  pub point_stands : StandsFor left (words_of at.pages) at.store.at.catalogues q.epoch (as_of decls s ordered q.epoch)
  point_stands = stands_by side refl
