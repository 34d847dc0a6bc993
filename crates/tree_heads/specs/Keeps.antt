-- What a load tells that keeps the header of a leaf as a part, which vouches that no other key of its span is there.
use Rattle.std.specs.Prelude.{◌≡◌, ℕ, ◌^◌, ◌==◌, ◌&&◌, Bool, List, [], length, nat_lt, None, MatchBool}
use Rattle.atomic_table.specs.Table.{Step}
use Rattle.lists.specs.Fronts.{IsFront}
use Rattle.serial_model.specs.declared.key.Key.{Key}
use Rattle.serial_model.specs.declared.number.Number.{Number}
use Rattle.homes.specs.declared.places.Span.{Span}
use Rattle.commit_core.specs.declared.attempt.Attempt.{Attempt}
use Rattle.commit_core.specs.declared.part.Part.{Part}
use Rattle.commit_core.specs.declared.part.Version.TheVariants.{Counted}
use Rattle.commit_core.specs.declared.part.Word.TheVariants.{Header}
use Rattle.commit_core.specs.Parts.{Vouches, with_part}
use Rattle.commit_core.specs.Serial.{last_write}
use Rattle.engine_pages.specs.declared.view.View.{View}
use Rattle.engine_pages.specs.Agreement.{TreesAgree}
use Rattle.engine_pages.specs.Steps.{IsLoad, glanced, keep_read, read_at}
use Rattle.tree_heads.specs.Headers.{AreLeafKeys, IsUnmoved, count_of, kind_of, knew, open_word}

-- the part of the header of a leaf with these keys
abbrev pub head_part : ℕ → Span → List Key → Part
head_part t sp keys =
    record { word = Header t; version = Counted (length keys); span = sp; less = keys; pairs = [] }

-- the word is that of a leaf that is neither locked nor moved
abbrev pub is_open_leaf : ℕ → Bool
is_open_leaf n = nat_lt n (2 ^ 60) && (kind_of n == 1)

-- the header is kept as a part; with it these draws and decisions were seen
abbrev pub saw_header : List Attempt → List Number → ℕ → Span → List Key → ℕ → ℕ → View → View
saw_header all chosen t sp keys at n v = record (knew t keys (glanced at n v)) {
  reads = keep_read v.reads at n;
  history = all;
  decided = chosen;
  seat = record v.seat { kept = with_part v.seat.kept (head_part t sp keys) };
  loaded = None;
}

-- The leaf has just these keys. The part that is kept vouches for each other key of its span, which has no value: by
-- the last decided writes of all draws and decisions up to this step.
pub record HasSeenHeader (t : ℕ) (sp : Span) (at : ℕ) (v : View) (n : ℕ) (w : View) : Type 0 where
  pub keys : List Key
  pub are : AreLeafKeys v t sp keys
  pub word : n ≡ open_word (length keys)
  pub count : length keys ≡ count_of n
  pub unmoved : IsUnmoved v t
  pub trees : TreesAgree w
  pub history : List Attempt
  pub decided : List Number
  pub drawn : IsFront v.history history
  pub seen : IsFront v.decided decided
  pub last : Vouches (last_write v.layout.opening history decided) (head_part t sp keys)
  pub is : w ≡ saw_header history decided t sp keys at n v

-- the header of a leaf, neither locked nor moved, is kept where its word is the expected one; of any other one nothing
-- is
abbrev pub SawHeader : ℕ → Span → ℕ → ℕ → View → ℕ → View → Type 0
SawHeader t sp at expected v n w =
    MatchBool ((n == expected) && is_open_leaf n) (HasSeenHeader t sp at v n w) (w ≡ read_at at n v)

-- the same of the step
abbrev pub SeesHeader : ℕ → Span → ℕ → Step (Unit {0}) → View → ℕ → View → Type 0
SeesHeader t sp expected s v n w = IsLoad s × SawHeader t sp s.word expected v n w
