-- A live transaction behind a walk down a tree that kept nothing.
use Rattle.std.proofs.Common.{◌≡◌, inl, inr, ℕ, ◌+◌, ◌≤◌, List, refl, sym, ap, ◌∙◌, subst, arith, Option}
use Rattle.serial_model.specs.declared.key.Key.{Key}
use Rattle.serial_model.specs.declared.op.Op.TheVariants.{Scan}
use Rattle.commit_core.specs.declared.part.Part.{Part}
use Rattle.serial_bridge.specs.Transaction.{Vouched}
use Rattle.tx_sets.specs.declared.reads.ReadEntry.{ReadEntry}
use Rattle.tx_sets.specs.declared.seen.Seen.{Seen}
use Rattle.tx_sets.specs.declared.sets.Sets.{Sets}
use Rattle.engine_pages.specs.declared.view.View.{View}
use Rattle.tree_walks.specs.Walks.{AreLedTo, CanWalk, HasWalked, KeepsMet, KeepsWords, OnlyTrees, OnlyWaysOn}
use Rattle.page_commit.specs.Live.{IsLive}
use Rattle.page_commit.specs.Turning.{IsPointerOf, IsReadBy, MayRead}
use Rattle.page_commit.proofs.BroughtLaws.{parts_grown}
use Rattle.page_commit.proofs.GrowLaws.{KnowsMore}
use Rattle.page_commit.proofs.WalkedLaws.{held_to, inside_only, kept_walked, live_grown, met_only, only_walked_same}
use Rattle.tree_calls.proofs.OpLaws.{held_for, ways_for}
use Rattle.tree_calls.proofs.TreeWalkLaws.{beside_trees, tree_knows_more, tree_points, tree_walked}
use Rattle.tree_calls.proofs.WalkedLaws.{headers_walked, ways_on}
use Rattle.tree_ranges.specs.Going.{GoesIn, HasGone, IsHeaderOf}
use Rattle.tree_ranges.proofs.GivenLaws.{within_by}
use Rattle.tree_ranges.proofs.GoneLaws.{joined_none}

module _ (sets : Sets) (late : List ℕ) (v w : View) (live : IsLive sets v) (walk : HasWalked v w) (can : CanWalk late w)
    (kept : w.seat.kept ≡ v.seat.kept) (words : KeepsWords v w) (only : OnlyTrees v w)
    (keeps : KeepsMet sets.pointers sets.headers v w) where
  more : KnowsMore v w
  more = tree_knows_more v w walk

  pub live_walk : IsLive (record sets { holds = late }) w
  live_walk = live_grown sets (record sets { holds = late }) v w live (tree_walked v w walk) more can record {
    parts = parts_grown sets (record sets { holds = late }) v w live can.agree more refl refl refl kept;
    places = live.places;
    once = live.once;
    writes = refl;
    met = met_only sets v w live more can.agree can.trees can.declared (beside_trees v w can.declared only);
    points = tree_points sets v w live keeps;
    kept = kept_walked sets v w live words;
    headers = headers_walked sets v w live keeps (λ h has. words h.at);
    only = only_walked_same sets (record sets { holds = late }) v w live words refl refl;
    inside = inside_only sets v w live more can.declared (beside_trees v w can.declared only);
    room = live.room;
  }

  pub walk_goes : (k : Key) → OnlyWaysOn k v w → AreLedTo k v w
      → GoesIn k.storage k.key k.key sets (record sets { holds = late }) v w
  walk_goes k paths led low high from to =
      let may : MayRead (Scan k.storage low high) k = within_by k.storage low high k.key from to in record {
        live = live_walk;
        walked = walk;
        paths = ways_for (Scan k.storage low high) k v w (inl may) (ways_on k v w paths);
        held = held_for (Scan k.storage low high) k sets.holds late w (inl may)
            (held_to k sets.holds late v w live.holds can.holds led);
        keeps = λ q value had. subst (λ (l : List Part). Vouched l q value) (sym kept) had;
        reads = joined_none ReadEntry (IsReadBy v.layout.decls (Scan k.storage low high)) sets.reads sets.reads refl;
        pointers = joined_none Seen (IsPointerOf w (Scan k.storage low high)) sets.pointers sets.pointers refl;
        headers = joined_none Seen (IsHeaderOf w (Scan k.storage low high)) sets.headers sets.headers refl;
        writes = refl;
      }
