-- What a leaf of the snapshot pages has for each of its keys.
use Rattle.std.proofs.Common.{◌≡◌, ℕ, ◌≤◌, List, map, sym, ap, ◌∙◌, arith, Some}
use Rattle.homes.specs.declared.places.Span.{Span}
use Rattle.snapshot_store.specs.Content.{deepest}
use Rattle.snapshot_store.specs.Places.{find, look_in, page as page_words}
use Rattle.snapshot_store.specs.StandLaws.{find-leaf_at}
use Rattle.snapshot_store.specs.TreePages.{Leaf, node_of, record_for, records_of, tree_format}
use Rattle.engine_pages.specs.Resident.{place_for}
use Rattle.tree_walks.specs.Snapshots.{read_so}
use Rattle.tree_walks.proofs.SnapLaws.{leaf_back}
use Rattle.tree_scans.specs.Below.{IsStoredLeaf}

-- from the key on up to the leaf's last one, its records are what the pages have
pub stored_content : (pages : List (List ℕ)) (sp : Span) (number key page many high n : ℕ)
    (s : IsStoredLeaf pages sp number key page many high) → key ≤ n → n ≤ high
    → find tree_format pages deepest n (place_for sp number) ≡ record_for (map read_so (s.is).records) n
stored_content pages sp number key page many high n s from to =
    let x = s.is in
    let q = s.place in
    let first = (s.leaf).from in
    let end = s.high-is in
    let most = (x.is).most in
    let node : node_of (page_words pages q.number) ≡ Leaf (map read_so x.records) =
    ap (λ (z : List ℕ). node_of z) (ap (page_words pages) s.number-is ∙ x.words) ∙ leaf_back x.low x.high x.records
    most in
    find-leaf_at tree_format pages deepest n (place_for sp number)
    ∙ (ap (look_in tree_format pages n) ((s.leaf).same n (omega (arith, first, from)) (omega (arith, end, to)))
    ∙ ap (λ z. record_for (records_of z) n) node)
