-- A read of a key of a tree that was refused behind a walk which read and met nothing.
use Rattle.std.proofs.Common.{◌≡◌, ◌⊎◌, inl, inr, ℕ, ◌≤◌, false, List, length}
use Rattle.std.proofs.Common.{ap, ◌∙◌, subst, arith}
use Rattle.serial_model.specs.declared.key.Key.{Key}
use Rattle.tx_sets.specs.declared.reads.ReadEntry.{ReadEntry}
use Rattle.tx_sets.specs.declared.seen.Seen.{Seen}
use Rattle.tx_sets.specs.declared.sets.Sets.{Sets}
use Rattle.tx_sets.specs.declared.writes.Write.{Write}
use Rattle.tx_sets.specs.Entries.{has_read, has_write}
use Rattle.engine_pages.specs.declared.view.RefusalCause.{RefusalCause}
use Rattle.engine_pages.specs.declared.view.RefusalCause.TheVariants as refusals
use Rattle.engine_pages.specs.declared.view.View.{View}
use Rattle.tree_walks.specs.Finding as finding
use Rattle.page_commit.specs.Needs.{NeedsHeader, NeedsRecord}
use Rattle.page_commit.specs.Refusing.{IsHeaderConflict, IsPointerConflict, IsTreeConflict}
use Rattle.page_commit.specs.Turning.{OnlyWalked}
use Rattle.page_commit.proofs.KnownOver.{pointers_before, ways_before}
use Rattle.page_commit.proofs.TurnLaws.{walks_then}
use Rattle.tree_calls.specs.Causes.{IsWordConflict, NeedsEntry, NeedsPointer, NeedsSlot, RefusesTreeRead, WasLong}

pub pointer_since : (pointers : List Seen) (at expected seen : ℕ) (v w x : View) → v.steps ≤ w.steps
    → IsPointerConflict pointers at expected seen w x → IsPointerConflict pointers at expected seen v x
pointer_since pointers at expected seen v w x since c = record {
  step = c.step;
  last = c.last;
  since = let low = c.since in omega (arith, since, low);
  was = c.was;
  kept = c.kept;
  stands = c.stands;
  known = c.known;
  cause = c.cause;
}

pub head_since : (headers : List Seen) (at expected seen : ℕ) (v w x : View) → v.steps ≤ w.steps
    → IsHeaderConflict headers at expected seen w x → IsHeaderConflict headers at expected seen v x
head_since headers at expected seen v w x since c = record {
  step = c.step;
  last = c.last;
  since = let low = c.since in omega (arith, since, low);
  was = c.was;
  kept = c.kept;
  stands = c.stands;
  known = c.known;
  cause = c.cause;
}

pub record_since : (reads : List ReadEntry) (at expected seen : ℕ) (v w x : View) → v.steps ≤ w.steps
    → IsTreeConflict reads at expected seen w x → IsTreeConflict reads at expected seen v x
record_since reads at expected seen v w x since c = record {
  step = c.step;
  last = c.last;
  since = let low = c.since in omega (arith, since, low);
  stands = c.stands;
  read = c.read;
  cause = c.cause;
}

pub long_since : (k : Key) (v w : View) → OnlyWalked v w → WasLong k w → WasLong k v
long_since k v w only l = record { then = l.then; walked = walks_then v w l.then only l.walked; long = l.long }

pub hold_since : (k : Key) (slots : List ℕ) (v w x : View) → OnlyWalked v w → NeedsSlot k slots w x
    → NeedsSlot k slots v x
hold_since k slots v w x only n =
    record { then = n.then; walked = walks_then v w n.then only n.walked; met = n.met; needs = n.needs }

pub entry_since : (k : Key) (sets : Sets) (v w x : View) → OnlyWalked v w → NeedsEntry k sets w x
    → NeedsEntry k sets v x
entry_since k sets v w x only n =
    record { then = n.then; walked = walks_then v w n.then only n.walked; met = n.met; needs = n.needs }

pub needs_since : (k : Key) (sets : Sets) (v w x : View) → OnlyWalked v w → NeedsPointer k sets w x
    → NeedsPointer k sets v x
needs_since k sets v w x only n =
    record { then = n.then; walked = walks_then v w n.then only n.walked; met = n.met; needs = n.needs }

-- what differs of the sets is their holds alone
module _ (sets mid : Sets) (k : Key) (v w x : View) (only : OnlyWalked v w) (reads : mid.reads ≡ sets.reads)
    (pointers : mid.pointers ≡ sets.pointers) (headers : mid.headers ≡ sets.headers) where
  word_since : (at expected seen : ℕ) → IsWordConflict mid k at expected seen w x
      → IsWordConflict sets k at expected seen v x
  word_since at expected seen c = (
    c.0,
    walks_then v w c.0 only c.1,
    elim c.2 [
      | inl p ↦ inl (
        subst (λ (l : List Seen). IsPointerConflict l at expected seen v x) pointers
            (pointer_since mid.pointers at expected seen v w x only.since p.0),
        p.1,
        pointers_before k at v w only p.2,
      )
      | inr more ↦ inr (elim more [
        | inl h ↦ inl (
          subst (λ (l : List Seen). IsHeaderConflict l at expected seen v x) headers
              (head_since mid.headers at expected seen v w x only.since h.0),
          h.1,
          ways_before k at v w only h.2,
        )
        | inr r ↦ inr (
          subst (λ (l : List ReadEntry). IsTreeConflict l at expected seen v x) reads
              (record_since mid.reads at expected seen v w x only.since r.0),
          r.1,
          ways_before k at v w only r.2,
          r.3,
        )
      ])
    ],
  )

  entry_as : NeedsEntry k mid v x → NeedsEntry k sets v x
  entry_as n = record {
    then = n.then;
    walked = n.walked;
    met = n.met;
    needs = subst (λ (l : List Seen). NeedsRecord k sets.reads n.then ⊎ NeedsHeader k l n.then) headers
        (subst (λ (l : List ReadEntry). NeedsRecord k l n.then ⊎ NeedsHeader k mid.headers n.then) reads n.needs);
  }

  needs_as : NeedsPointer k mid v x → NeedsPointer k sets v x
  needs_as n = record {
    then = n.then;
    walked = n.walked;
    met = n.met;
    needs = subst (λ (l : List Seen). finding.NeedsPointer k l n.then) pointers n.needs;
  }

  pub tree_read_since : (why : RefusalCause) (new : Sets) → w.touched ≡ v.touched → mid.writes ≡ sets.writes
      → RefusesTreeRead mid new k why w x → RefusesTreeRead sets new k why v x
  tree_read_since (refusals.Conflict at expected seen) new touched writes r = (
    subst (λ (l : List ReadEntry). has_read k l ≡ false) reads r.0,
    subst (λ (l : List Write). has_write k l ≡ false) writes r.1,
    r.2 ∙ ap (λ (y : View). y.draws) only.is,
    word_since at expected seen r.3,
    r.4 ∙ ap (λ (y : View). y.blamed) only.is,
    r.5 ∙ touched,
  )
  tree_read_since (refusals.Full held) new touched writes r = absurd r
  tree_read_since (refusals.Wide set) new touched writes r = (
    subst (λ (l : List ReadEntry). has_read k l ≡ false) reads r.0,
    subst (λ (l : List Write). has_write k l ≡ false) writes r.1,
    r.2 ∙ ap (λ (y : View). y.draws) only.is,
    elim r.3 [
      | inl e ↦ inl (
        e.0,
        let many = e.1 in
            let one = ap (λ (l : List ReadEntry). length l) reads in
            let two = ap (λ (l : List Seen). length l) headers in
            omega (arith, many, one, two),
        entry_as (entry_since k mid v w x only e.2),
      )
      | inr more ↦ inr (elim more [
        | inl h ↦ inl (
          h.0,
          elim h.1 [
            | inl full ↦ inl (full.0, hold_since k new.holds v w x only full.1)
            | inr long ↦ inr (long_since k v w only long)
          ],
        )
        | inr p ↦ inr (
          p.0,
          subst (λ (l : List Seen). length l ≡ 128) pointers p.1,
          needs_as (needs_since k mid v w x only p.2),
        )
      ])
    ],
    r.4 ∙ touched,
  )
  tree_read_since (refusals.NumberLimit clock) new touched writes r = absurd r
