-- What is known of the pages of trees agrees with itself, at every step.
use Rattle.std.specs.Prelude.{◌≡◌, ℕ, true, List, [], Some, slice_get, Contains}
use Rattle.serial_model.specs.declared.key.Key.{Key}
use Rattle.engine_pages.specs.declared.view.Inner.{Inner}
use Rattle.engine_pages.specs.declared.view.Known.{Known}
use Rattle.engine_pages.specs.declared.view.View.{View}
use Rattle.engine_pages.specs.declared.view.Way.{Way}
use Rattle.engine_pages.specs.Pages.{is_tree}

-- two things that are known of one leaf say the same of its keys
abbrev pub KnownAgree : List Known → Type 0
KnownAgree known = (a b : Known) → Contains known a → Contains known b → a.slot ≡ b.slot → (i : ℕ) (k q : Key)
    → slice_get a.keys i ≡ Some k → slice_get b.keys i ≡ Some q → k ≡ q

-- What is known of pages of trees agrees: of one leaf the same keys, of one interior page the same separators, no interior
-- page has keys, and all ways into one slot are over the same keys.
pub record TreesAgree (v : View) : Type 0 where
  pub known : KnownAgree v.known
  pub inners : (a b : Inner) → Contains v.inners a → Contains v.inners b → a.slot ≡ b.slot
      → a.separators ≡ b.separators
  pub apart : (a : Known) (b : Inner) → Contains v.known a → Contains v.inners b → a.slot ≡ b.slot → a.keys ≡ []
  pub spans : (a b : Way) → Contains v.ways a → Contains v.ways b → a.slot ≡ b.slot
      → is_tree v.layout.decls a.span.storage ≡ true → a.span ≡ b.span
