-- A savepoint that counts nothing of the log files stands for the same state, where no entry counted before it.
use Rattle.std.specs.Prelude.{◌≡◌, ℕ, zero, suc, ◌+◌, ◌*◌, ◌==◌, true}
use Rattle.std.specs.Prelude.{false, List, [], ◌∷◌, Option, Some, None, take, get_or, replicate, cond}
use Rattle.std.proofs.Common.{refl, sym, ap, ◌∙◌, subst, arith}
use Rattle.std.specs.FinMap.{get}
use Rattle.std.specs.List.{AllByRecursion}
use Rattle.lists.specs.Fronts.{IsFront}
use Rattle.serial_model.specs.Keys.{id_of}
use Rattle.serial_model.specs.State.{State}
use Rattle.serial_model.specs.declared.decl.Decl.{Decl}
use Rattle.serial_model.specs.declared.key.Key.{Key}
use Rattle.serial_model.specs.declared.number.Commit.{Commit}
use Rattle.wire_form.specs.Pages.{Contents, IsCatalogue, catalogue_words}
use Rattle.wire_form.specs.declared.records.Stored.{Stored}
use Rattle.wire_form.specs.declared.savepoint.Savepoint.{Savepoint}
use Rattle.log_writer.specs.Save.{Names}
use Rattle.snapshot_store.specs.Places.{Found}
use Rattle.snapshot_store.specs.Content.{record_in, value_of, value_at}
use Rattle.joint_crashes.specs.Images.{Images, epoch_of, counted_of}
use Rattle.recovery_core.specs.Catalogues.{HasPages, IsFirst, HasNoRoot}
use Rattle.recovery_core.specs.Catalogues.{AreCatalogues, newest_decls}
use Rattle.recovery_core.specs.SnapshotPages.{RootStandsUpTo}
use Rattle.recovery_core.specs.LogEntries.{IsCountedFile, AreCounted, last_of}
use Rattle.recovery_core.specs.Recoverable.{Reading, ReadsSaved, ReadsBy, IsReading}
use Rattle.recovery_core.specs.Recoverable.{counting, snapshot_value, value_over, IsRecoverable}
use Rattle.recovery_core.specs.RecoverableLaws.{same_pages}
use Rattle.recovery_core.specs.SnapshotsKept.{StandsAsRead, first_snapshot, same_snapshots}
use Rattle.recovery_core.specs.EmptyLaws.{empty_stands, empty_record}

-- no line of any log file
abbrev pub no_log : List (List Commit)
no_log = replicate 16 []

no_commits : (n count : ℕ) → ◌≡◌ {A = List Commit} (get_or (replicate count []) n []) []
no_commits n zero = refl
no_commits zero (suc count) = refl
no_commits (suc n) (suc count) = no_commits n count

-- nothing that is counted is no line
pub counts_nothing : (decls : List Decl) (q : Savepoint) (bank : ℕ → List ℕ)
    → ((n : ℕ) → counted_of (Some q) n ≡ 0) → AreCounted decls q bank no_log
counts_nothing decls q bank nothing = record {
  files = refl;
  each = λ n below.
      subst (λ k. IsCountedFile decls k (bank n) (get_or no_log n [])) (sym (nothing n))
      (subst (λ lines. IsCountedFile decls 0 (bank n) lines) (sym (no_commits n 16))
      (record { there = omega arith; lines_are = record { each = tt; rising = tt; spelled = refl } }));
}

-- what the next savepoint reads
abbrev pub settled_reading : Savepoint → Reading → Reading
settled_reading q reading = record
    { point = Some q; pages = reading.pages; catalogues = reading.catalogues; lines = no_log }

-- The next savepoint says the same and counts nothing of the log files.
pub record SaysSame (p q : Savepoint) : Type 0 where
  pub epoch : q.epoch ≡ p.epoch
  pub catalogue : q.catalogue ≡ p.catalogue
  pub count : q.count ≡ p.count
  pub nothing : (n : ℕ) → counted_of (Some q) n ≡ 0

-- devices that name it, and begin with the pages that counted, say this
pub settled_reads : (found other : Images) (p q : Savepoint) (reading : Reading) → IsReading found reading
    → reading.point ≡ Some p → SaysSame p q → Names other.save (Some q)
    → IsFront (take (512 * p.count) found.snaps) other.snaps → IsReading other (settled_reading q reading)
settled_reads found other p q reading is point same names front =
    let reads : ReadsSaved found p reading = subst (λ x. ReadsBy found x reading) point is.counts in
    let has = same_pages found.snaps other.snaps p.count reading.pages front reads.snapshot.has in
    record {
      names = names;
      counts = record {
        snapshot = record {
          has = subst (λ n. HasPages other.snaps n reading.pages) (sym same.count) has;
          chain = subst (λ n. AreCatalogues reading.pages (n + 1) None q.catalogue reading.catalogues)
              (sym same.epoch)
              (subst (λ n. AreCatalogues reading.pages (p.epoch + 1) None n reading.catalogues)
              (sym same.catalogue) reads.snapshot.chain);
          stands = reads.snapshot.stands;
        };
        files = counts_nothing (newest_decls reading.catalogues) q other.bank same.nothing;
      };
    }

-- and stand for the same epoch and state where no entry counted, with the same snapshots
pub settled_same : (found other : Images) (p q : Savepoint) (epoch : ℕ) (state : State)
    → (is : IsRecoverable found epoch state)
    → is.reading.point ≡ Some p → counting is.reading ≡ [] → SaysSame p q → Names other.save (Some q)
    → IsFront (take (512 * p.count) found.snaps) other.snaps → StandsAsRead is.reading other epoch state
settled_same found other p q epoch state is point none same names front = record {
  is = record {
    reading = settled_reading q is.reading;
    is = settled_reads found other p q is.reading is.is point same names front;
    epoch_is = is.epoch_is ∙ ap epoch_of point ∙ sym same.epoch;
    state_is = λ key. is.state_is key ∙ ap (λ es. value_over (last_of key es) (snapshot_value is.reading key)) none;
  };
  keeps = same_snapshots is.reading (settled_reading q is.reading) epoch state refl refl;
}

-- ---- a fresh vault

no_values : (at : Stored → ℕ → Option Found) (ss : List Stored) (key : Key)
    → AllByRecursion (λ s. at s key.key ≡ None) ss → value_at at ss key ≡ None
no_values at [] key all = refl
no_values at (s ∷ ss) key all =
    elim (id_of s.decl == key.storage) as (λ b. cond b (value_of (at s key.key)) (value_at at ss key) ≡ None) [
      | true ↦ ap value_of all.0
      | false ↦ no_values at ss key all.1
    ]

no_roots_stand : (pages : List (List ℕ)) (epoch : ℕ) (ss : List Stored) → AllByRecursion HasNoRoot ss
    → AllByRecursion (RootStandsUpTo epoch pages) ss
no_roots_stand pages epoch [] none = tt
no_roots_stand pages epoch (s ∷ ss) none = (
  subst (λ n. RootStandsUpTo epoch pages (record { decl = s.decl; root = n })) (sym none.0)
      (empty_stands pages epoch s.decl),
  no_roots_stand pages epoch ss none.1,
)

no_records : (pages : List (List ℕ)) (key : ℕ) (ss : List Stored) → AllByRecursion HasNoRoot ss
    → AllByRecursion (λ s. record_in pages s key ≡ None) ss
no_records pages key [] none = tt
no_records pages key (s ∷ ss) none = (
  subst (λ n. record_in pages (record { decl = s.decl; root = n }) key ≡ None) (sym none.0)
      (empty_record pages s.decl key),
  no_records pages key ss none.1,
)

-- The first savepoint counts the first catalogue, and nothing of the log files.
pub record IsFirstPoint (q : Savepoint) : Type 0 where
  pub epoch : q.epoch ≡ 0
  pub catalogue : q.catalogue ≡ 1
  pub count : q.count ≡ 1
  pub nothing : (n : ℕ) → counted_of (Some q) n ≡ 0

-- what the first savepoint reads
abbrev pub first_reading : Savepoint → Contents → Reading
first_reading q c =
    record { point = Some q; pages = catalogue_words c ∷ []; catalogues = c ∷ []; lines = no_log }

-- devices that name it, and begin with that catalogue's page, say this
pub first_reads : (found : Images) (q : Savepoint) (c : Contents) → IsFirstPoint q → Names found.save (Some q)
    → IsCatalogue 1 c → c.previous ≡ 0 → IsFirst c → HasPages found.snaps 1 (catalogue_words c ∷ [])
    → IsReading found (first_reading q c)
first_reads found q c first names is previous begins has =
    let pages : List (List ℕ) = catalogue_words c ∷ [] in
    record {
      names = names;
      counts = record {
        snapshot = record {
          has = subst (λ n. HasPages found.snaps n pages) (sym first.count) has;
          chain = subst (λ n. AreCatalogues pages (q.epoch + 1) None n (c ∷ [])) (sym first.catalogue) (
            omega arith,
            record {
              here = record { there = omega arith; catalogue = is; words = refl };
              epoch = omega (arith, begins.epoch);
              decls = tt;
              first = λ none. begins;
            },
            previous,
          );
          stands = no_roots_stand pages c.epoch c.storages begins.empty;
        };
        files = counts_nothing (newest_decls (c ∷ [])) q found.bank first.nothing;
      };
    }

-- which has no key
pub no_first_value : (q : Savepoint) (c : Contents) (key : Key) → IsFirst c
    → snapshot_value (first_reading q c) key ≡ None
no_first_value q c key begins =
    let pages : List (List ℕ) = catalogue_words c ∷ [] in
    no_values (record_in pages) c.storages key (no_records pages key.key c.storages begins.empty)

-- so they stand for epoch 0 and no key, with the first snapshot, where there was none
pub first_recoverable : (found : Images) (q : Savepoint) (c : Contents) (was : Reading) (state : State)
    → was.catalogues ≡ [] → IsFirstPoint q → Names found.save (Some q)
    → IsCatalogue 1 c → c.previous ≡ 0 → IsFirst c → HasPages found.snaps 1 (catalogue_words c ∷ [])
    → ((key : Key) → get state key ≡ None)
    → StandsAsRead was found 0 state
first_recoverable found q c was state none first names is previous begins has empty = record {
  is = record {
    reading = first_reading q c;
    is = first_reads found q c first names is previous begins has;
    epoch_is = sym first.epoch;
    state_is = λ key. empty key ∙ sym (no_first_value q c key begins);
  };
  keeps = first_snapshot was (first_reading q c) 0 state c none refl begins.epoch
      (λ key. empty key ∙ sym (no_first_value q c key begins));
}
