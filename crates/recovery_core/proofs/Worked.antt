-- Worked databases: what some bytes stand for, by hand.
use Rattle.std.specs.Prelude.{◌≡◌, ℕ, zero, suc, ◌^◌, ◌<◌, List, [], ◌∷◌, ◌++◌, Some, None, replicate, length}
use Rattle.std.specs.Prelude.{take, get_or}
use Rattle.std.proofs.Common.{refl, sym, ap, ◌∙◌, subst, arith, lit<, lit≤, append-nil}
use Rattle.std.proofs.lemmas.List.{length-append, take_at, drop_at, take_all}
use Rattle.std.specs.FinMap as finite
use Rattle.std.specs.FinMap.{get-empty}
use Rattle.std.specs.List.{AllByRecursion}
use Rattle.lists.specs.Each.{all_append, all_replicate}
use Rattle.serial_model.specs.Keys.{key_cmp}
use Rattle.serial_model.specs.declared.decl.Decl.TheVariants.{Array}
use Rattle.serial_model.specs.declared.number.Commit.{Commit}
use Rattle.wire_form.specs.Bytes.{bytes_of, padded}
use Rattle.wire_form.specs.ByteLaws.{length-bytes_of}
use Rattle.wire_form.specs.Device.{HasWords}
use Rattle.wire_form.specs.LineLaws.{length-line_bytes}
use Rattle.wire_form.specs.LogFile.{IsLineOf}
use Rattle.wire_form.specs.LogLine.{line_bytes}
use Rattle.wire_form.specs.Pages.{Contents, catalogue_words}
use Rattle.wire_form.specs.Savepoint.{body_words, place_bytes, valid_byte}
use Rattle.wire_form.specs.declared.records.Stored.{Stored}
use Rattle.wire_form.specs.declared.savepoint.Savepoint.{Savepoint}
use Rattle.log_writer.specs.Save.{Names}
use Rattle.snapshot_store.specs.ArrayPages.{leaf_room}
use Rattle.snapshot_store.specs.Content.{deepest}
use Rattle.snapshot_store.specs.Places.{page}
use Rattle.joint_crashes.specs.Images.{Images, counted_of}
use Rattle.recovery_core.specs.Catalogues.{HasPages, AreCatalogues}
use Rattle.recovery_core.specs.SnapshotPages.{RootStandsUpTo}
use Rattle.recovery_core.specs.LogEntries.{IsCountedFile}
use Rattle.recovery_core.specs.Recoverable.{Reading, IsReading, value_of_key, IsRecoverable}

-- the fresh database: 1,024 zeros in the save device, and nothing else
abbrev fresh : Images
fresh = record { save = replicate 1024 0; snaps = []; bank = λ n. [] }

-- it stands for epoch 0 and no key
pub fresh_vault : IsRecoverable fresh 0 finite.empty
fresh_vault = record {
  reading = record { point = None; pages = []; catalogues = []; lines = [] };
  is = record {
    names = record {
      size = refl;
      first = None;
      second = None;
      in_first = λ same. omega (arith, same);
      in_second = λ same. omega (arith, same);
      counts = refl;
    };
    counts = record { pages = refl; catalogues = refl; lines = refl };
  };
  epoch_is = refl;
  state_is = λ key. get-empty key_cmp key;
}

-- ---- one array of four values, and one commit that puts 7 at index 2

abbrev stored : Stored
stored = record { decl = Array 1 4; root = 0 }

abbrev catalogue : Contents
catalogue = record { epoch = 0; previous = 0; storages = stored ∷ [] }

abbrev commit : Commit
commit = record {
  number = record { epoch = 1; draw = 1 };
  changes = record { key = record { storage = 1; key = 2 }; value = Some 7 } ∷ [];
}

-- the first savepoint, in place 0, and the second one, which counts a log line of 40 bytes
abbrev first_point : Savepoint
first_point = record { sequence = 1; epoch = 0; catalogue = 1; count = 1; lengths = replicate 16 0 }

abbrev second_point : Savepoint
second_point = record { sequence = 2; epoch = 1; catalogue = 1; count = 1; lengths = 40 ∷ replicate 15 0 }

abbrev log_of : ℕ → List ℕ
log_of zero = line_bytes commit
log_of (suc n) = []

abbrev one_commit : Images
one_commit = record {
  save = place_bytes first_point ++ place_bytes second_point;
  snaps = bytes_of (catalogue_words catalogue);
  bank = log_of;
}

abbrev reading : Reading
reading = record {
  point = Some second_point;
  pages = catalogue_words catalogue ∷ [];
  catalogues = catalogue ∷ [];
  lines = (commit ∷ []) ∷ replicate 15 [];
}

-- index 2 has the value 7, and index 3 was never written
seven : value_of_key reading (record { storage = 1; key = 2 }) ≡ Some 7
unfolding deepest leaf_room
seven = refl

never : value_of_key reading (record { storage = 1; key = 3 }) ≡ None
unfolding deepest leaf_room
never = refl

-- before its epoch was saved the commit didn't count
unsaved : value_of_key (record reading { point = Some first_point }) (record { storage = 1; key = 2 }) ≡ None
unfolding deepest leaf_room
unsaved = refl

length-place : (p : Savepoint) → length (body_words p) ≡ 63 → length (place_bytes p) ≡ 512
length-place p size =
    omega (
      arith,
      length-append (padded 8 (valid_byte ∷ [])) (bytes_of (body_words p)),
      length-bytes_of (body_words p),
      size,
    )

each_length : (n : ℕ) (count : ℕ) → ◌≡◌ {A = ℕ} (get_or (replicate count 0) n 0) 0
each_length n zero = refl
each_length zero (suc count) = refl
each_length (suc n) (suc count) = each_length n count

no_commits : (n : ℕ) (count : ℕ) → ◌≡◌ {A = List Commit} (get_or (replicate count []) n []) []
no_commits n zero = refl
no_commits zero (suc count) = refl
no_commits (suc n) (suc count) = no_commits n count

names : Names one_commit.save (Some second_point)
names =
    let a = length-place first_point refl in
    let b = length-place second_point refl in
    record {
      size = omega (arith, length-append (place_bytes first_point) (place_bytes second_point), a, b);
      first = Some first_point;
      second = Some second_point;
      in_first = (
        record {
          point = record {
            first = lit≤ tt;
            last = lit< tt;
            epoch = lit< tt;
            catalogue = lit≤ tt;
            newest = refl;
            count = lit≤ tt;
            banks = refl;
            lengths = all_replicate (λ n. n < 2 ^ 40) 16 0 (lit< tt);
          };
          stands = refl;
        },
        take_at (place_bytes first_point) (place_bytes second_point) 512 a,
      );
      in_second = (
        record {
          point = record {
            first = lit≤ tt;
            last = lit< tt;
            epoch = lit< tt;
            catalogue = lit≤ tt;
            newest = refl;
            count = lit≤ tt;
            banks = refl;
            lengths =
                (lit< tt, all_replicate (λ n. n < 2 ^ 40) 15 0 (lit< tt));
          };
          stands = refl;
        },
        ap (take 512) (drop_at (place_bytes first_point) (place_bytes second_point) 512 a)
            ∙ take_all 512 (place_bytes second_point) (omega (arith, b)),
      );
      counts = refl;
    }

words_fit : AllByRecursion (λ w. w < 2 ^ 64) (catalogue_words catalogue)
words_fit =
    let P : ℕ → Type 0 = λ w. w < 2 ^ 64 in
    all_append P (padded 16 (0x4341_5400_0000_0001 ∷ 0 ∷ 0 ∷ [])) (padded 48 (257 ∷ 4 ∷ 0 ∷ []))
    (lit< tt, (lit< tt, (lit< tt, all_replicate P 13 0 (lit< tt))))
    (lit< tt, (lit< tt, (lit< tt, all_replicate P 45 0 (lit< tt))))

pages : HasPages one_commit.snaps 1 (catalogue_words catalogue ∷ [])
pages = record {
  count_is = refl;
  each = λ number first last.
      let is : number ≡ 1 = omega arith in
      let size : length (bytes_of (catalogue_words catalogue)) ≡ 512 = length-bytes_of (catalogue_words catalogue) in
      subst (λ n. HasWords one_commit.snaps n (page (catalogue_words catalogue ∷ []) n)) (sym is) (record {
        first = lit≤ tt;
        inside = omega (arith, size);
        fit = words_fit;
        spelled = take_all 512 (bytes_of (catalogue_words catalogue)) (omega (arith, size));
      });
}

chain : AreCatalogues (catalogue_words catalogue ∷ []) 2 None 1 (catalogue ∷ [])
chain = (
  lit≤ tt,
  record {
    here = record {
      there = lit≤ tt;
      catalogue = record {
        epoch = lit< tt;
        previous = lit< tt;
        most = lit≤ tt;
        each = (record { decl = (lit< tt, lit≤ tt, lit≤ tt); root = lit< tt }, tt);
        rising = (tt, tt);
      };
      words = refl;
    };
    epoch = lit< tt;
    decls = tt;
    first = λ none. record { epoch = refl; empty = (refl, tt) };
  },
  refl,
)

stands : RootStandsUpTo 0 (catalogue_words catalogue ∷ []) stored
unfolding deepest leaf_room
stands = record {
  there = lit≤ tt;
  right = record {
    page = record { none = λ _. refl; page = λ some. absurd (omega (arith, some)) };
    numbers = λ leaf key low high. tt;
  };
  tiles = tt;
  below = tt;
}

line : IsLineOf (Array 1 4 ∷ []) commit
line = record {
  line = record {
    loggable = record {
      number = record {
        some_epoch = lit≤ tt;
        most_epoch = lit≤ tt;
        some_draw = lit≤ tt;
        most_draw = lit< tt;
      };
      some = lit≤ tt;
      most = lit≤ tt;
      rising = (tt, tt);
    };
    each = (record { storage = lit< tt; key = lit< tt; value = lit< tt }, tt);
  };
  each = (refl, tt);
}

file : (n : ℕ) → n < 16
    → IsCountedFile (Array 1 4 ∷ []) (counted_of (Some second_point) n) (log_of n) (get_or reading.lines n [])
file zero below =
    let size : length (line_bytes commit) ≡ 40 = length-line_bytes commit in
    record {
      there = omega (arith, size);
      lines_are = record {
        each = (line, tt);
        rising = (tt, tt);
        spelled = take_all 40 (line_bytes commit) (omega (arith, size)) ∙ sym (append-nil (line_bytes commit));
      };
    }
file (suc n) below =
    subst (λ k. IsCountedFile (Array 1 4 ∷ []) k [] (get_or reading.lines (suc n) [])) (sym (each_length n 15))
    (subst (λ lines. IsCountedFile (Array 1 4 ∷ []) 0 [] lines) (sym (no_commits n 15))
    (record { there = lit≤ tt; lines_are = record { each = tt; rising = tt; spelled = refl } }))

-- the devices say that
pub one_commit_reads : IsReading one_commit reading
one_commit_reads = record {
  names = names;
  counts = record {
    snapshot = record { has = pages; chain = chain; stands = (stands, tt) };
    files = record { files = refl; each = file };
  };
}
