-- What an install asks and tells: a pointer leads from a snapshot page to the slot that says the same.
use Rattle.std.specs.Prelude.{◌≡◌, ◌⊎◌, ℕ, ◌+◌, ◌*◌, ◌^◌, ◌<◌, ◌≤◌, ◌==◌, true, List, [], length, map, MatchBool}
use Rattle.std.specs.Prelude.{Contains, Some}
use Rattle.atomic_table.specs.Table.{Step}
use Rattle.serial_model.specs.declared.key.Key.{Key}
use Rattle.homes.specs.declared.places.At.{At}
use Rattle.homes.specs.declared.places.Content.{Content}
use Rattle.homes.specs.declared.places.Span.{Span}
use Rattle.wire_form.specs.Words.{number_in}
use Rattle.snapshot_store.specs.ArrayPages.{last_at}
use Rattle.snapshot_store.specs.Places.{page}
use Rattle.snapshot_store.specs.TreePages.{Record, node_of, records_of}
use Rattle.commit_core.specs.declared.seat.Stage.TheVariants.{Idle}
use Rattle.drop_core.specs.Event.{without}
use Rattle.drop_core.specs.Table.{has_slot}
use Rattle.engine_pages.specs.declared.view.Role.TheVariants.{Keeper}
use Rattle.engine_pages.specs.declared.view.View.{View}
use Rattle.engine_pages.specs.Agreement.{TreesAgree}
use Rattle.engine_pages.specs.Pages.{is_array, is_tree}
use Rattle.engine_pages.specs.Pointers.{IsPointerAt, WaysAgree, page_half, ways_if}
use Rattle.engine_pages.specs.Resident.{tree_below}
use Rattle.engine_pages.specs.Slots.{other_copies, other_inners, other_leaves}
use Rattle.engine_pages.specs.Steps.{glanced, read_at, with_read}

-- The pass has published the slot as a copy of the page of an array with this number, for these keys, those of a page of
-- some height.
pub record IsCopyFor (v : View) (sp : Span) (t n : ℕ) : Type 0 where
  pub copied : Contains v.copies (record { slot = t; span = sp; page = n })
  pub array : is_array v.layout.decls sp.storage ≡ true
  pub height : ℕ
  pub exact : sp.high ≡ sp.low + last_at height

-- the records of the leaf of a tree with this number; there are none in no page
abbrev pub tree_records : List (List ℕ) → ℕ → List Record
tree_records pages n = records_of (node_of (page pages n))

-- their keys
abbrev pub keys_in : Span → List Record → List Key
keys_in sp records = map (λ r. record { storage = sp.storage; key = r.key }) records

-- and what they stand for
abbrev pub contents_in : List Record → List Content
contents_in records = map (λ r. record { number = number_in r.found.number; value = Some r.found.value }) records

-- as the leaf of a tree with this number, for these keys, or as an empty one for 0
pub record IsLeafFor (v : View) (sp : Span) (t n : ℕ) : Type 0 where
  pub has : Contains v.new_leaves (record {
    slot = t;
    span = sp;
    keys = keys_in sp (tree_records v.pages n);
    contents = contents_in (tree_records v.pages n);
  })
  pub tree : is_tree v.layout.decls sp.storage ≡ true
  pub there : n ≤ length v.pages
  pub leaf : tree_below v.pages sp n ≡ []

-- or as the interior page of a tree with this number
pub record IsInnerFor (v : View) (sp : Span) (t n : ℕ) : Type 0 where
  pub has : Contains v.new_inners (record { slot = t; span = sp; page = n })
  pub tree : is_tree v.layout.decls sp.storage ≡ true

-- The pass holds the slot, and has published it as the page that the pointer's word names, for the keys of the pointer;
-- the word is that of an open pointer which leads to no slot. The pass is a worker's, between transactions or before
-- their commit.
pub record CanInstall (v : View) (x : At) (sp : Span) (at t expected : ℕ) : Type 0 where
  pub place : IsPointerAt v x sp at
  pub held : has_slot v.grip.holds t ≡ true
  pub free : expected < 2 ^ 32
  pub page : IsCopyFor v sp t (page_half expected)
      ⊎ (IsLeafFor v sp t (page_half expected) ⊎ IsInnerFor v sp t (page_half expected))
  pub worker : v.role ≡ Keeper → ⊥
  pub idle : v.seat.stage ≡ Idle
  pub unlocked : v.seat.locks ≡ []

-- the word that leads to the slot
abbrev pub leading_word : ℕ → ℕ → ℕ
leading_word expected t = expected + (t + 1) * 2 ^ 32

-- something leads to the slot, which isn't the pass's own from then on
abbrev pub led_to : ℕ → ℕ → ℕ → View → View
led_to t at n v = record (glanced at n v) {
  reads = with_read v.reads at (leading_word n t);
  grip = record v.grip { made = without v.grip.made t };
  copies = other_copies t v.copies;
  blanks = without v.blanks t;
  new_leaves = other_leaves t v.new_leaves;
  new_inners = other_inners t v.new_inners;
}

-- and where the pass holds it, its page is known to stand for these keys
abbrev pub installed : ℕ → ℕ → Span → ℕ → View → View
installed t at sp n v = record (led_to t at n v) { ways = ways_if (has_slot v.grip.holds t) t sp v.ways }

-- the slot was put in
pub record HasInstalled (t at : ℕ) (sp : Span) (v : View) (n : ℕ) (w : View) : Type 0 where
  pub is : w ≡ installed t at sp n v
  pub agree : WaysAgree w.ways
  pub trees : TreesAgree w

-- the slot is put in exactly where the pointer's word was the one that was expected
abbrev pub Installed : ℕ → ℕ → Span → ℕ → View → ℕ → View → Type 0
Installed t at sp expected v n w = MatchBool (n == expected) (HasInstalled t at sp v n w) (w ≡ read_at at n v)

-- the same of the step, whose new word names the snapshot page still
abbrev pub Installs : ℕ → Span → Step (Unit {0}) → View → ℕ → View → Type 0
Installs t sp s v n w = (s.second ≡ leading_word s.first t) × Installed t s.word sp s.first v n w
