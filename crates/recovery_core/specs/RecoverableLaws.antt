-- The devices say one thing at most, and what lies behind the counted pages and bytes says nothing.
use Rattle.std.specs.Prelude.{◌≡◌, ℕ, suc, ◌+◌, ◌-◌, ◌*◌, ◌<◌, ◌≤◌, List, [], ◌∷◌, ◌++◌, Option, Some, None}
use Rattle.std.specs.Prelude.{length, take, drop, get_or}
use Rattle.std.proofs.Common.{refl, sym, ap, ◌∙◌, subst, arith}
use Rattle.std.proofs.lemmas.List.{ext_get_or, length-drop, length-take-le, take-append-le, drop-append-le}
use Rattle.std.specs.FinMap.{get}
use Rattle.lists.specs.Fronts.{IsFront, front_rest, front_length, front_take}
use Rattle.serial_model.specs.State.{State}
use Rattle.serial_model.specs.declared.decl.Decl.{Decl}
use Rattle.serial_model.specs.declared.key.Key.{Key}
use Rattle.serial_model.specs.declared.number.Commit.{Commit}
use Rattle.wire_form.specs.ContentLaws.{one_catalogue}
use Rattle.wire_form.specs.Device.{page_bytes, HasWords}
use Rattle.wire_form.specs.DeviceLaws.{one_list_of_words, words_stay}
use Rattle.wire_form.specs.LogFile.{AreLinesOf, AreLogLines}
use Rattle.wire_form.specs.LogFileLaws.{are_log_lines, one_list}
use Rattle.wire_form.specs.Pages.{Contents, decls_of}
use Rattle.wire_form.specs.declared.savepoint.Savepoint.{Savepoint}
use Rattle.log_writer.specs.Newest.{names_one}
use Rattle.log_writer.specs.Save.{Names}
use Rattle.snapshot_store.specs.Places.{page}
use Rattle.joint_crashes.specs.Images.{Images, epoch_of, count_of, counted_of}
use Rattle.recovery_core.specs.Catalogues.{HasPages, AreCatalogues, newest_decls}
use Rattle.recovery_core.specs.LogEntries.{IsCountedFile, AreCounted}
use Rattle.recovery_core.specs.Recoverable.{Reading, ReadsBy, IsReading, value_of_key, IsRecoverable}

-- ---- one reading

-- pages are one list of words each
pub one_pages : (device : List ℕ) (count : ℕ) (a b : List (List ℕ)) → HasPages device count a → HasPages device count b
    → a ≡ b
one_pages device count a b p q =
    ext_get_or [] a b (p.count_is ∙ sym q.count_is)
    (λ i below. one_list_of_words device (suc i) (get_or a i []) (get_or b i [])
    (p.each (suc i) (omega arith) (omega (arith, below, p.count_is)))
    (q.each (suc i) (omega arith) (omega (arith, below, p.count_is))))

-- catalogues from a page back are one list
pub one_chain : (pages : List (List ℕ)) (limit : ℕ) (declared : Option (List Decl)) (number : ℕ) (a b : List Contents)
    → AreCatalogues pages limit declared number a → AreCatalogues pages limit declared number b → a ≡ b
one_chain pages limit declared number [] [] p q = refl
one_chain pages limit declared number [] (d ∷ ds) p q = absurd (omega (arith, p, q.0))
one_chain pages limit declared number (c ∷ cs) [] p q = absurd (omega (arith, q, p.0))
one_chain pages limit declared number (c ∷ cs) (d ∷ ds) p q =
    let same : c ≡ d = one_catalogue number c d p.1.here.catalogue q.1.here.catalogue
    (sym p.1.here.words ∙ q.1.here.words) in
    let rest = one_chain pages c.epoch (Some (decls_of c)) c.previous cs ds p.2
    (subst (λ (x : Contents). AreCatalogues pages x.epoch (Some (decls_of x)) x.previous ds) (sym same) q.2) in
    ap (λ x. x ∷ cs) same ∙ ap (λ xs. d ∷ xs) rest

-- lines of storages are log lines
lines_plain : (decls : List Decl) (bytes : List ℕ) (lines : List Commit) → AreLinesOf decls None bytes lines
    → AreLogLines None bytes lines
lines_plain decls bytes lines are =
    record { each = are_log_lines decls lines are.each; rising = are.rising; spelled = are.spelled }

-- counted bytes are one list of lines
pub one_file : (decls : List Decl) (count : ℕ) (bytes : List ℕ) (a b : List Commit) → IsCountedFile decls count bytes a
    → IsCountedFile decls count bytes b → a ≡ b
one_file decls count bytes a b p q =
    one_list None (take count bytes) a b (lines_plain decls (take count bytes) a p.lines_are)
    (lines_plain decls (take count bytes) b q.lines_are)

-- and so are those of all log files
pub one_log : (decls : List Decl) (p : Savepoint) (bank : ℕ → List ℕ) (a b : List (List Commit))
    → AreCounted decls p bank a → AreCounted decls p bank b → a ≡ b
one_log decls p bank a b first second =
    ext_get_or [] a b (first.files ∙ sym second.files)
    (λ n below. one_file decls (counted_of (Some p) n) (bank n) (get_or a n []) (get_or b n [])
    (first.each n (omega (arith, below, first.files))) (second.each n (omega (arith, below, first.files))))

-- a reading by its parts
abbrev reading_of : Option Savepoint → List (List ℕ) → List Contents → List (List Commit) → Reading
reading_of point pages catalogues lines =
    record { point = point; pages = pages; catalogues = catalogues; lines = lines }

-- what is read by a savepoint, or by none, is one
one_by : (found : Images) (point : Option Savepoint) (a b : Reading) → ReadsBy found point a → ReadsBy found point b
    → reading_of point a.pages a.catalogues a.lines ≡ reading_of point b.pages b.catalogues b.lines
one_by found None a b p q =
    ap (λ x. reading_of None x a.catalogues a.lines) (p.pages ∙ sym q.pages)
    ∙ ap (λ x. reading_of None b.pages x a.lines) (p.catalogues ∙ sym q.catalogues)
    ∙ ap (reading_of None b.pages b.catalogues) (p.lines ∙ sym q.lines)
one_by found (Some point) a b p q =
    let pages = one_pages found.snaps point.count a.pages b.pages p.snapshot.has q.snapshot.has in
    let chain = one_chain a.pages (point.epoch + 1) None point.catalogue a.catalogues b.catalogues p.snapshot.chain
    (subst (λ x. AreCatalogues x (point.epoch + 1) None point.catalogue b.catalogues) (sym pages) q.snapshot.chain) in
    let lines = one_log (newest_decls a.catalogues) point found.bank a.lines b.lines p.files
    (subst (λ x. AreCounted (newest_decls x) point found.bank b.lines) (sym chain) q.files) in
    ap (λ x. reading_of (Some point) x a.catalogues a.lines) pages
    ∙ ap (λ x. reading_of (Some point) b.pages x a.lines) chain
    ∙ ap (reading_of (Some point) b.pages b.catalogues) lines

-- the devices say one thing at most
pub one_reading : (found : Images) (a b : Reading) → IsReading found a → IsReading found b → a ≡ b
one_reading found a b p q =
    let point : a.point ≡ b.point = names_one found.save a.point b.point p.names q.names in
    one_by found a.point a b p.counts (subst (λ x. ReadsBy found x b) (sym point) q.counts)
    ∙ ap (λ x. reading_of x b.pages b.catalogues b.lines) point

-- and stand for one epoch, and for one value of each key
pub one_recoverable : (found : Images) (e f : ℕ) (s t : State) → IsRecoverable found e s → IsRecoverable found f t
    → (e ≡ f) × ((key : Key) → get s key ≡ get t key)
one_recoverable found e f s t p q =
    let same : p.reading ≡ q.reading = one_reading found p.reading q.reading p.is q.is in (
      p.epoch_is ∙ ap (λ (r : Reading). epoch_of r.point) same ∙ sym q.epoch_is,
      λ key. p.state_is key ∙ ap (λ r. value_of_key r key) same ∙ sym (q.state_is key),
    )

-- ---- what isn't counted

-- a page of a front of a device is a page of the device, and the other way
pub page_in_front : (front device : List ℕ) (number : ℕ) (words : List ℕ) → IsFront front device
    → HasWords front number words → HasWords device number words
page_in_front front device number words is has =
    subst (λ d. HasWords d number words) (front_rest front device is)
    (words_stay front (drop (length front) device) number words has)

-- and a page of the device that lies in its front is one of the front
pub page_of_front : (front device : List ℕ) (number : ℕ) (words : List ℕ) → IsFront front device
    → 512 * number ≤ length front → HasWords device number words → HasWords front number words
page_of_front front device number words is within has = record {
  first = has.first;
  inside = within;
  fit = has.fit;
  spelled = sym (bytes_same (drop (length front) device)) ∙ ap (page_bytes number) (front_rest front device is)
      ∙ has.spelled;
}
  where
    bytes_same : (more : List ℕ) → page_bytes number (front ++ more) ≡ page_bytes number front
    bytes_same more =
        ap (take 512) (drop-append-le (512 * (number - 1)) front more (omega (arith, within)))
        ∙ take-append-le 512 (drop (512 * (number - 1)) front) more
        (omega (arith, has.first, within, length-drop (512 * (number - 1)) front))

-- pages that are counted are those of another device that begins with the same bytes
pub same_pages : (device other : List ℕ) (count : ℕ) (pages : List (List ℕ))
    → IsFront (take (512 * count) device) other → HasPages device count pages → HasPages other count pages
same_pages device other count pages is has = record {
  count_is = has.count_is;
  each = λ number first last.
      let whole = (has.each number first last).inside in
      let all = (has.each count (omega (arith, first, last)) (omega arith)).inside in
      let size : length (take (512 * count) device) ≡ 512 * count = length-take-le (512 * count) device all in
      page_in_front (take (512 * count) device) other number (page pages number) is
      (page_of_front (take (512 * count) device) device number (page pages number) (front_take (512 * count) device)
      (omega (arith, size, last)) (has.each number first last));
}

-- the counted bytes of a log file are those of another that begins with the same bytes
pub same_file : (decls : List Decl) (count : ℕ) (bytes other : List ℕ) (lines : List Commit)
    → IsFront (take count bytes) other → IsCountedFile decls count bytes lines → IsCountedFile decls count other lines
same_file decls count bytes other lines is counted =
    let size : length (take count bytes) ≡ count = length-take-le count bytes counted.there in
    let same : take count other ≡ take count bytes = ap (λ n. take n other) (sym size) ∙ is in
    record {
      there = omega (arith, size, front_length (take count bytes) other is);
      lines_are = subst (λ b. AreLinesOf decls None b lines) (sym same) counted.lines_are;
    }

-- Other images name the same savepoint, and begin with the same counted pages and bytes.
pub record CountsSame (point : Option Savepoint) (found other : Images) : Type 0 where
  pub names : Names other.save point
  pub snaps : IsFront (take (512 * count_of point) found.snaps) other.snaps
  pub bank : (n : ℕ) → n < 16 → IsFront (take (counted_of point n) (found.bank n)) (other.bank n)

same_by : (found other : Images) (point : Option Savepoint) (reading : Reading) → CountsSame point found other
    → ReadsBy found point reading → ReadsBy other point reading
same_by found other None reading same reads = reads
same_by found other (Some p) reading same reads = record {
  snapshot = record {
    has = same_pages found.snaps other.snaps p.count reading.pages same.snaps reads.snapshot.has;
    chain = reads.snapshot.chain;
    stands = reads.snapshot.stands;
  };
  files = record {
    files = reads.files.files;
    each = λ n below. same_file (newest_decls reading.catalogues) (counted_of (Some p) n) (found.bank n) (other.bank n)
        (get_or reading.lines n []) (same.bank n below) (reads.files.each n below);
  };
}

-- such images say the same
pub same_reading : (found other : Images) (reading : Reading) → CountsSame reading.point found other
    → IsReading found reading → IsReading other reading
same_reading found other reading same is =
    record { names = same.names; counts = same_by found other reading.point reading same is.counts }

-- and stand for the same epoch and state
pub same_recoverable : (found other : Images) (epoch : ℕ) (state : State) → (is : IsRecoverable found epoch state)
    → CountsSame is.reading.point found other
    → IsRecoverable other epoch state
same_recoverable found other epoch state is same = record {
  reading = is.reading;
  is = same_reading found other is.reading same is.is;
  epoch_is = is.epoch_is;
  state_is = is.state_is;
}
