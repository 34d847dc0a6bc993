-- What a walk down a tree leaves of the headers that are kept, and the ways that it learned of.
use Rattle.std.proofs.Common.{◌≡◌, inl, inr, ◌∙◌}
use Rattle.std.specs.Prelude.{Contains}
use Rattle.serial_model.specs.declared.key.Key.{Key}
use Rattle.tx_sets.specs.declared.seen.Seen.{Seen}
use Rattle.tx_sets.specs.declared.sets.Sets.{Sets}
use Rattle.engine_pages.specs.declared.view.View.{View}
use Rattle.engine_pages.specs.Steps.{kept_at}
use Rattle.tree_walks.specs.Walks.{KeepsMet, OnlyWaysOn}
use Rattle.page_commit.specs.HeaderParts.{AreHeaders}
use Rattle.page_commit.specs.Live.{IsLive}
use Rattle.tree_calls.specs.Keeping.{OnlyWaysOn as OnlyCallWays}
use Rattle.tree_calls.proofs.TreeWalkLaws.{tree_headers}

pub ways_on : (k : Key) (v w : View) → OnlyWaysOn k v w → OnlyCallWays k v w
ways_on k v w only x has = elim (only x has) [
  | inl old ↦ inl old
  | inr new ↦ inr (elim new [
    | inl over ↦ inl over
    | inr t ↦ inr (record {
      moved = t.moved;
      knows = t.knows;
      way = t.way;
      has = t.has;
      same = t.same;
      over = t.over;
      is = t.is;
    })
  ])
]

pub headers_walked : (sets : Sets) (v w : View) → IsLive sets v → KeepsMet sets.pointers sets.headers v w
    → ((h : Seen) → Contains sets.headers h → kept_at w.reads h.at ≡ kept_at v.reads h.at) → AreHeaders sets.headers w
headers_walked sets v w live keeps kept = record {
  once = live.headers.once;
  met = λ h has. tree_headers sets v w live keeps h has;
  kept = λ h has. kept h has ∙ live.headers.kept h has;
}
