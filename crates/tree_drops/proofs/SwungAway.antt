-- The pointer is swung away from a chain all of which is locked, or was found to be another.
use Rattle.std.proofs.Common.{◌≡◌, ◌≢◌, inl, inr, ℕ, suc, ◌*◌, ◌<◌, List, length, refl, sym, ap, ◌∙◌, subst, arith, Some, eq-eqb, ne_eqb}
use Rattle.std.specs.Prelude.{Err, Ok, MatchBool}
use Rattle.std.specs.List.{Contains}
use Rattle.homes.specs.declared.places.Span.{Span}
use Rattle.engine_pages.specs.declared.view.Head.{Head}
use Rattle.engine_pages.specs.declared.view.KeptWhy.TheVariants.{Changed}
use Rattle.engine_pages.specs.declared.view.View.{View}
use Rattle.engine_pages.specs.Layout.{words_of}
use Rattle.engine_pages.specs.Steps.{kept_at, read_at}
use Rattle.chain_steps.specs.declared.halves.Half.{Half}
use Rattle.chain_steps.specs.Below.{IsStoredBelow}
use Rattle.chain_steps.specs.Swings.{swung_chain, CanSwingChain, HasSwungChain}
use Rattle.page_drops.specs.declared.noting.Kept.{Kept}
use Rattle.page_drops.specs.Works.{read_of, HasSeenLast, HasTurnedFrom, IsNoted}
use Rattle.page_drops.proofs.Dues.{turned_from}
use Rattle.page_drops.proofs.Entries.{entry_of, other_entry, own_entry}
use Rattle.tree_drops.specs.declared.taking.Root.{Root}
use Rattle.tree_drops.specs.Chains.{OnlyChains}
use Rattle.tree_drops.specs.Taking.{all_slots, keys_in, CanCover, CanTake, Covers, HasCovered, HasTaken, IsTakeCause}
use Rattle.tree_drops.proofs.BelowKeys.{take_on}
use Rattle.tree_drops.proofs.Chaining.{chained_read, chained_then, keeps_noted, pages_chained}
use Rattle.tree_drops.proofs.ChainSwung.{can_swing_chain}

covers_on : (root : Root) (halves : List Half) (sp : Span) (page : ℕ) (v w : View) → OnlyChains v w → Covers root halves sp page v
    → Covers root halves sp page w
covers_on root halves sp page v w only h d key f stored from to =
    let x = h d key f (subst (λ ps. IsStoredBelow d ps sp page key (Some f)) (pages_chained v w only.looks.on) stored) from to in record {
      head = x.head;
      has = subst (λ (l : List Head). Contains l x.head) (sym only.looks.heads) x.has;
      within = x.within;
      key = x.key;
    }

module _ (root : Root) (halves : List Half) (headers : List ℕ) (v : View)
    (can : CanTake root halves headers (17 * suc (length halves)) v) where
  abbrev at : ℕ
  at = (root.target).at

  abbrev page : ℕ
  page = (root.target).page

  abbrev slots : List ℕ
  slots = all_slots root halves

  pub can_cover : CanCover root halves headers (keys_in root) page v
  can_cover = record {
    take = can;
    below = record {
      keeper = can.chain.tree.keeper;
      tree = can.chain.tree.over.tree;
      there = can.chain.tree.there;
      room = can.chain.tree.room;
      lead = can.chain.lead;
    };
    storage = refl;
    from = omega arith;
    to = omega arith;
  }

  -- a record of the snapshot is in no leaf
  pub uncovered : (k : Kept) (w : View) → HasCovered root halves headers (keys_in root) page (Err k) v w
      → HasTaken root halves headers (Err k) v w
  uncovered k w (keeps, reads) = (
    record {
      looks = keeps.looks;
      holds = keeps.holds;
      kept = record {
        page = keeps.kept.page;
        is = keeps.kept.is;
        told = keeps.kept.told;
        so = inr (inr (inl keeps.kept.so));
      };
    },
    (inl (ap (λ l. read_of l at) reads), λ word other out. ap (λ l. read_of l word) reads),
  )

  module _ (w : View) (only : OnlyChains v w) (reads : w.reads ≡ v.reads) where
    can_now : CanTake root halves headers (17 * suc (length halves)) w
    can_now = take_on root halves headers (17 * suc (length halves)) v w only reads can

    pub can_swing_now : Covers root halves (keys_in root) page v
        → CanSwingChain w (root.target).place (keys_in root) at slots page root.word
    can_swing_now covers = can_swing_chain root halves headers w can_now (covers_on root halves (keys_in root) page v w only covers)

    pub word_now : at < words_of w.layout
    word_now = can_now.chain.inside

    -- ---- another word was found

    module _ (n : ℕ) (z : View) (swings : HasSwungChain slots at page root.word w n z) where
      not_now : n ≢ root.word → z ≡ read_at at n w
      not_now other =
          subst (λ c. MatchBool c (z ≡ swung_chain page slots at n w) (z ≡ read_at at n w)) (ne_eqb n root.word other) swings

      is_now : n ≡ root.word → z ≡ swung_chain page slots at n w
      is_now same =
          subst (λ c. MatchBool c (z ≡ swung_chain page slots at n w) (z ≡ read_at at n w)) (eq-eqb n root.word same) swings

      pub other_last : n ≢ root.word → HasSeenLast z (record { word = at; seen = n; why = Changed root.word })
      other_last other = (w.steps, ap (λ (y : View). y.last) (not_now other))

      pub other_turned : n ≢ root.word → HasTurnedFrom z at n root.word
      other_turned other = turned_from at root.word n w z other (not_now other) can_now.met

      pub other_kept : (k : Kept) (y : View) → n ≢ root.word → k ≡ record { word = at; seen = n; why = Changed root.word }
          → IsNoted k z y → HasTaken root halves headers (Err k) v y
      other_kept k y other told notes =
          let is = not_now other in (
            keeps_noted (IsTakeCause v.layout.slots root halves headers v.pages) at n (Changed root.word) k v z y
                (chained_then v w z only (chained_read at n w z is)) told notes (inr (inr (inr (refl, refl, other)))),
            (
              inr (
                ap (λ (x : Kept). x.word) told,
                ap (λ (x : Kept). x.why) told,
                (
                  entry_of w.reads at n (kept_at w.reads at),
                  ap (λ (x : View). read_of x.reads at) notes.1
                      ∙ (ap (λ (x : View). read_of x.reads at) is ∙ own_entry w.reads at n (kept_at w.reads at)),
                  sym (ap (λ (x : Kept). x.seen) told),
                  can_now.met,
                ),
              ),
              λ word apart out.
                  ap (λ (x : View). read_of x.reads word) notes.1
                  ∙ (ap (λ (x : View). read_of x.reads word) is
                  ∙ (other_entry w.reads at n (kept_at w.reads at) word apart ∙ ap (λ l. read_of l word) reads)),
            ),
          )

      -- ---- it is swung

      pub swung_away : n ≡ root.word → HasTaken root halves headers (Ok tt) v z
      swung_away same =
          let is = is_now same in (
            record {
              before = w;
              found = n;
              on = only.looks.on;
              holds = only.holds;
              kept = only.kept;
              met = can_now.met;
              is = is;
            },
            λ word apart out.
                ap (λ (x : View). read_of x.reads word) is
                ∙ (other_entry w.reads at page (kept_at w.reads at) word apart ∙ ap (λ l. read_of l word) reads),
          )
