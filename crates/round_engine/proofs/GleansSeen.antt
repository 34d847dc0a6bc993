-- What a glean finds over closed log files that were only read before it is what it would have found at first.
use Rattle.std.proofs.Common.{◌≡◌, ◌∙◌, ap, subst, ℕ, List, length, Option, Some, None, arith}
use Rattle.std.specs.Prelude.{not, slice_get}
use Rattle.outside.specs.declared.device.Device.{Device}
use Rattle.log_writer.specs.declared.vault.Vault.{Vault}
use Rattle.serial_model.specs.declared.decl.Decl.{Decl}
use Rattle.wire_form.specs.Pages.{Contents}
use Rattle.wire_form.specs.declared.bucket.Bucket.{Bucket}
use Rattle.snapshot_store.specs.Content.{CatalogueAt, words_of}
use Rattle.snapshot_store.specs.Store.{StoreState}
use Rattle.gleaner.specs.Glean.{AreMappedFiles, IsDamagedFile, IsGleaned, IsMappedFile, WouldBeDeep, WouldBeMany}
use Rattle.gleaner.specs.declared.closed.Closed.{Closed}
use Rattle.gleaner.specs.declared.closed.Newest.{Newest}
use Rattle.worker_logs.specs.declared.savepoints.Side.{Side}
use Rattle.round_engine.specs.Gleans.{AddsSnapshot, ComesTo, ComesTooDeep, FindsDamage, IsFound}
use Rattle.round_engine.specs.Sides.{closed_in, is_odd}
use Rattle.round_engine.specs.Standing.{RuntimeState}
use Rattle.round_engine.proofs.Places.{item_at, within_of}

-- ---- files that tell the same

-- each file has one at its place that tells what it tells
pub record TellAlike {D : Type 0} (tells : D → Option (List ℕ)) (was is : List D) : Type 0 where
  pub many : length is ≡ length was
  pub same : (worker : ℕ) (one other : D) → slice_get was worker ≡ Some one → slice_get is worker ≡ Some other
      → tells other ≡ tells one

module _ {D : Type 0} {tells : D → Option (List ℕ)} (closed : Closed) (decls : List Decl) (after : ℕ) where
  mapped_file : (worker : ℕ) (one other : D) (buckets : List Bucket) → tells other ≡ tells one
      → IsMappedFile tells closed decls after worker other buckets → IsMappedFile tells closed decls after worker one buckets
  mapped_file worker one other buckets same is = record {
    told = λ bytes told. is.told bytes (same ∙ told);
    bytes = is.bytes;
    lines = is.lines;
  }

  mapped_alike : (count : ℕ) (was is : List D) (buckets : List Bucket) → TellAlike tells was is
      → AreMappedFiles tells closed decls after count is buckets → AreMappedFiles tells closed decls after count was buckets
  mapped_alike count was is buckets alike mapped = record {
    parts = mapped.parts;
    many = mapped.many;
    all = mapped.all;
    each = λ worker file part there at.
        let other = item_at is worker (omega (arith, within_of was worker file there, alike.many)) in
        mapped_file worker file other.0 part (alike.same worker file other.0 there other.1)
        (mapped.each worker other.0 part other.1 at);
  }

  damaged_alike : (was is : List D) (device : Device) (at : ℕ) → TellAlike tells was is
      → IsDamagedFile tells closed decls after is device at → IsDamagedFile tells closed decls after was device at
  damaged_alike was is device at alike bad =
      let file = bad.damaged in
      let one = item_at was bad.worker (omega (arith, within_of is bad.worker file.0 file.1, alike.many)) in
      let same = alike.same bad.worker one.0 file.0 one.1 file.1 in
      record {
        worker = bad.worker;
        damaged = (one.0, one.1, file.2, λ bytes told. file.3 bytes (same ∙ told));
        buckets = bad.buckets;
        before = mapped_alike bad.worker was is bad.buckets alike bad.before;
      }

-- ---- what a glean sees of a runtime

pub record Seen : Type 0 where
  pub store : StoreState
  pub decls : List Decl
  pub side : Side
  pub counted : List ℕ
  pub closed_at : ℕ
  pub room : ℕ

abbrev pub seen_of : RuntimeState → Seen
seen_of r = record {
  store = r.store;
  decls = r.stands.decls;
  side = r.side;
  counted = r.counted;
  closed_at = r.closed_at;
  room = r.room;
}

-- it is the same where its parts are
pub seen_same : (old mid : RuntimeState) → mid.store ≡ old.store → mid.stands.decls ≡ old.stands.decls → mid.side ≡ old.side
    → mid.counted ≡ old.counted → mid.closed_at ≡ old.closed_at → mid.room ≡ old.room → seen_of mid ≡ seen_of old
seen_same old mid store decls side counted closed_at room =
    ap (λ x. record (seen_of mid) { store = x }) store
    ∙ ap (λ x. record (seen_of mid) { store = old.store; decls = x }) decls
    ∙ ap (λ x. record (seen_of mid) { store = old.store; decls = old.stands.decls; side = x }) side
    ∙ ap (λ x. record (seen_of mid) { store = old.store; decls = old.stands.decls; side = old.side; counted = x }) counted
    ∙ ap (λ x. record (seen_of mid) {
      store = old.store;
      decls = old.stands.decls;
      side = old.side;
      counted = old.counted;
      closed_at = x;
    }) closed_at
    ∙ ap (λ x. record (seen_of mid) {
      store = old.store;
      decls = old.stands.decls;
      side = old.side;
      counted = old.counted;
      closed_at = old.closed_at;
      room = x;
    }) room

abbrev pub newest_seen : Seen → Contents → Newest
newest_seen s contents = record { page = length s.store.pages; epoch = contents.epoch }

abbrev pub closed_seen : Seen → Closed
closed_seen s = record { odd = not (is_odd s.side); lengths = s.counted; epoch = s.closed_at }

abbrev NewestIn : Seen → Contents → Type 0
NewestIn s contents = CatalogueAt (words_of s.store.pages) (length s.store.pages) contents

module _ {D : Type 0} (tells : D → Option (List ℕ)) where
  abbrev ManyIn : Seen → Contents → List D → ℕ → Type 0
  ManyIn s contents files new = WouldBeMany tells (words_of s.store.pages) s.decls (newest_seen s contents) (closed_seen s)
      files new

  abbrev DeepIn : Seen → Contents → List D → Type 0
  DeepIn s contents files = WouldBeDeep tells (words_of s.store.pages) s.decls (newest_seen s contents) (closed_seen s) files

  abbrev GleanedIn : Seen → Contents → List D → StoreState → ℕ → Type 0
  GleanedIn s contents files now new = IsGleaned tells (words_of s.store.pages) s.decls (newest_seen s contents)
      (closed_seen s) files (words_of now.pages) new s.room

  abbrev DamagedIn : Seen → Contents → List D → Device → ℕ → Type 0
  DamagedIn s contents files device at = IsDamagedFile tells (closed_seen s) s.decls contents.epoch files device at

module _ {D : Type 0} {tells : D → Option (List ℕ)} (old mid : RuntimeState) (before between : Vault D)
    (same : seen_of mid ≡ seen_of old) (alike : TellAlike tells (closed_in old.side before) (closed_in old.side between)) where
  comes_to : (new : ℕ) → ComesTo tells mid between new → ComesTo tells old before new
  comes_to new is =
      let many : ManyIn tells (seen_of old) is.contents (closed_in old.side between) new =
      subst (λ s. ManyIn tells s is.contents (closed_in s.side between) new) same is.many in
      record {
        contents = is.contents;
        newest = record { here = subst (λ s. NewestIn s is.contents) same is.newest.here };
        many = record {
          buckets = many.buckets;
          mapped = mapped_alike (closed_seen (seen_of old)) old.stands.decls is.contents.epoch 8 (closed_in old.side before)
              (closed_in old.side between) many.buckets alike many.mapped;
          many = many.many;
        };
      }

  comes_too_deep : ComesTooDeep tells mid between → ComesTooDeep tells old before
  comes_too_deep is =
      let deep : DeepIn tells (seen_of old) is.contents (closed_in old.side between) =
      subst (λ s. DeepIn tells s is.contents (closed_in s.side between)) same is.deep in
      record {
        contents = is.contents;
        newest = record { here = subst (λ s. NewestIn s is.contents) same is.newest.here };
        deep = record {
          buckets = deep.buckets;
          mapped = mapped_alike (closed_seen (seen_of old)) old.stands.decls is.contents.epoch 8 (closed_in old.side before)
              (closed_in old.side between) deep.buckets alike deep.mapped;
          deep = deep.deep;
        };
      }

  pub found_first : (what : Option ℕ) → IsFound tells mid between what → IsFound tells old before what
  found_first (Some new) is = comes_to new is
  found_first None is = comes_too_deep is

  pub adds_first : (now : StoreState) (new : ℕ) → AddsSnapshot tells mid between now new
      → AddsSnapshot tells old before now new
  adds_first now new is =
      let gleaned : GleanedIn tells (seen_of old) is.contents (closed_in old.side between) now new =
      subst (λ s. GleanedIn tells s is.contents (closed_in s.side between) now new) same is.gleaned in
      record {
        contents = is.contents;
        newest = record { here = subst (λ s. NewestIn s is.contents) same is.newest.here };
        gleaned = record {
          buckets = gleaned.buckets;
          mapped = mapped_alike (closed_seen (seen_of old)) old.stands.decls is.contents.epoch 8 (closed_in old.side before)
              (closed_in old.side between) gleaned.buckets alike gleaned.mapped;
          made = gleaned.made;
          added = gleaned.added;
          composes = gleaned.composes;
          within = gleaned.within;
        };
        whole = is.whole;
        fit = is.fit;
      }

  pub damage_first : (device : Device) (at : ℕ) → FindsDamage tells mid between device at → FindsDamage tells old before device at
  damage_first device at is =
      let bad : DamagedIn tells (seen_of old) is.contents (closed_in old.side between) device at =
      subst (λ s. DamagedIn tells s is.contents (closed_in s.side between) device at) same is.damaged in
      record {
        contents = is.contents;
        newest = record { here = subst (λ s. NewestIn s is.contents) same is.newest.here };
        damaged = damaged_alike (closed_seen (seen_of old)) old.stands.decls is.contents.epoch (closed_in old.side before)
            (closed_in old.side between) device at alike bad;
      }
