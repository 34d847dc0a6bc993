-- One log file more: its lines, and the last entries with its own.
use Rattle.std.proofs.Common.{◌≡◌, ℕ, ◌+◌, ◌<◌, List, [], ◌∷◌, ◌++◌, Some, length, get_or, map, inl, inr, refl}
use Rattle.std.proofs.Common.{sym, ap, subst, ◌∙◌, append-nil, arith}
use Rattle.std.specs.Prelude.{filter}
use Rattle.std.specs.FinMap.{get, empty, get-empty}
use Rattle.std.specs.List.{flat_map}
use Rattle.std.proofs.lemmas.Bool.{cases_lt}
use Rattle.std.proofs.lemmas.Grind.{flat_map-append}
use Rattle.std.proofs.lemmas.List.{length-append, get_or_append_left, get_or_push}
use Rattle.std.proofs.lemmas.List.Elements.{filter-append}
use Rattle.log_mapper.specs.Mapped.{entries_of, AreMapped, IsDamaged}
use Rattle.serial_model.specs.Keys.{key_cmp, id_of}
use Rattle.serial_model.specs.declared.decl.Decl.{Decl}
use Rattle.serial_model.specs.declared.key.Key.{Key}
use Rattle.serial_model.specs.declared.number.Commit.{Commit}
use Rattle.wire_form.specs.Items.{Rises}
use Rattle.wire_form.specs.declared.bucket.Bucket.{Bucket}
use Rattle.wire_form.specs.declared.bucket.Entry.{Entry}
use Rattle.wire_form.specs.declared.savepoint.Savepoint.{Savepoint}
use Rattle.recovery_core.specs.Damage.{FilesBreak, FilesReadBefore}
use Rattle.joint_crashes.specs.Images.{counted_of}
use Rattle.recovery_core.specs.LogEntries.{IsCountedFile, AreCounted, logged, counts, is_of, greatest, last_of}
use Rattle.recovery_core.specs.EntriesLast.{EntryMap, HasLast, TakesIn, all_entries}
use Rattle.recovery_core.proofs.EntriesBuckets.{counted_buckets}

-- the first n log files are whole lines, and the map has the last entries of those that count
pub record CountedSoFar (decls : List Decl) (p : Savepoint) (bank : ℕ → List ℕ) (from to n : ℕ)
    (last : EntryMap) : Type 0 where
  pub lines : List (List Commit)
  pub files : length lines ≡ n
  pub each : (m : ℕ) → m < n → IsCountedFile decls (counted_of (Some p) m) (bank m) (get_or lines m [])
  pub lasts : HasLast last (filter (counts from to) (logged lines))

-- the last entries are those of other entries, where each key has the same ones in the same order
has_last_alike : (last : EntryMap) (xs ys : List Entry)
    → ((key : Key) → filter (is_of key) xs ≡ filter (is_of key) ys) → HasLast last xs → HasLast last ys
has_last_alike last xs ys alike has key = has key ∙ ap greatest (alike key)

-- the log files, and one more
logged-push : (files : List (List Commit)) (lines : List Commit) → logged (files ++ lines ∷ [])
    ≡ logged files ++ flat_map entries_of lines
logged-push files lines =
    flat_map-append (flat_map entries_of) files (lines ∷ [])
    ∙ ap (λ l. logged files ++ l) (append-nil (flat_map entries_of lines))

module _ {decls : List Decl} {p : Savepoint} {bank : ℕ → List ℕ} {from to : ℕ} where
  -- before the first
  pub none_counted : (last : EntryMap) → last ≡ empty → CountedSoFar decls p bank from to 0 last
  none_counted last none = record {
    lines = [];
    files = refl;
    each = λ m below. absurd (omega arith);
    lasts = λ key. ap (λ m. get m key) none ∙ get-empty key_cmp key;
  }

  -- one more
  pub counted_more : (n count : ℕ) (last now : EntryMap) (buckets : List Bucket)
      → CountedSoFar decls p bank from to n last → Rises ◌<◌ (map id_of decls)
      → count ≡ counted_of (Some p) n → AreMapped n count decls from to (bank n) buckets
      → TakesIn last now (all_entries buckets)
      → CountedSoFar decls p bank from to (n + 1) now
  counted_more n count last now buckets so_far rising same mapped takes =
      let more = mapped.front.commits in
      let here : IsCountedFile decls (counted_of (Some p) n) (bank n) more =
      subst (λ c. IsCountedFile decls c (bank n) more) same
      (record { there = mapped.long; lines_are = mapped.front.lines }) in
      let all = filter (counts from to) (logged so_far.lines) in
      record {
        lines = so_far.lines ++ more ∷ [];
        files = length-append so_far.lines (more ∷ []) ∙ omega (arith, so_far.files);
        each = λ m below. elim (cases_lt m n) [
          | inl before ↦ subst (IsCountedFile decls (counted_of (Some p) m) (bank m))
              (sym (get_or_append_left so_far.lines (more ∷ []) [] m (omega (arith, so_far.files))))
              (so_far.each m before)
          | inr past ↦
              let is : n ≡ m = omega arith in
              subst (IsCountedFile decls (counted_of (Some p) m) (bank m))
              (sym (get_or_push so_far.lines more [] m (so_far.files ∙ is)))
              (subst (λ k. IsCountedFile decls (counted_of (Some p) k) (bank k) more) is here)
        ];
        lasts = has_last_alike now (all ++ all_entries buckets)
            (filter (counts from to) (logged (so_far.lines ++ more ∷ [])))
            (λ key.
            filter-append (is_of key) all (all_entries buckets)
            ∙ ap (λ bs. filter (is_of key) all ++ filter (is_of key) (all_entries bs)) mapped.front.mapped
            ∙ ap (λ l. filter (is_of key) all ++ l)
            (counted_buckets n from to decls more rising mapped.front.lines.each key)
            ∙ sym (filter-append (is_of key) all (filter (counts from to) (flat_map entries_of more)))
            ∙ ap (filter (is_of key)) (sym (filter-append (counts from to) (logged so_far.lines)
            (flat_map entries_of more)))
            ∙ ap (λ l. filter (is_of key) (filter (counts from to) l)) (sym (logged-push so_far.lines more)))
            (takes all so_far.lasts);
      }

  -- all 16
  pub counted_all : (last : EntryMap) → CountedSoFar decls p bank from to 16 last
      → (lines : List (List Commit)) × AreCounted decls p bank lines
      × ((key : Key) → get last key ≡ last_of key (filter (counts from to) (logged lines)))
  counted_all last so_far = (so_far.lines, record { files = so_far.files; each = so_far.each }, so_far.lasts)

  -- those before the next one are lines
  pub reads_next : (n : ℕ) (last : EntryMap) → CountedSoFar decls p bank from to n last → n < 16
      → FilesReadBefore decls p bank n
  reads_next n last so_far below = record {
    file = below;
    before = λ m lt. (get_or so_far.lines m [], so_far.each m lt);
  }

  -- the next one isn't lines
  pub breaks_next : (n count at : ℕ) (last : EntryMap) → CountedSoFar decls p bank from to n last → n < 16
      → count ≡ counted_of (Some p) n
      → IsDamaged count decls (bank n) at → FilesBreak decls p bank n at
  breaks_next n count at last so_far below same damaged = record {
    file = below;
    before = λ m lt. (get_or so_far.lines m [], so_far.each m lt);
    breaks = subst (λ c. IsDamaged c decls (bank n) at) same damaged;
  }
