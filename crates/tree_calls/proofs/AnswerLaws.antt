-- What a read of a key of a tree answers: what was written, what was read before, or what was found.
use Rattle.std.proofs.Common.{◌≡◌, inl, inr, ℕ, false, sym, ap, ◌∙◌, Option, Some, None}
use Rattle.serial_model.specs.declared.key.Key.{Key}
use Rattle.homes.specs.declared.places.Content.{Content}
use Rattle.commit_core.specs.Serial.{last_write}
use Rattle.tx_sets.specs.declared.reads.ReadEntry.{ReadEntry}
use Rattle.tx_sets.specs.declared.sets.Sets.{Sets}
use Rattle.tx_sets.specs.Entries.{has_read, has_write, read_of, value_of}
use Rattle.engine_pages.specs.declared.view.View.{View}
use Rattle.tree_records.specs.Reads.{IsThat}
use Rattle.tree_walks.specs.declared.finding.Found.{Found}
use Rattle.tree_walks.specs.declared.finding.Found.TheVariants as places
use Rattle.tree_walks.specs.Finding.{IsFound}
use Rattle.page_commit.proofs.FoundLaws.{unread}
use Rattle.page_commit.proofs.WriteLaws.{value_none}
use Rattle.tree_calls.specs.Keeping.{entry_value, value_in, IsTreeValueRead}
use Rattle.tree_calls.proofs.FoundRecord.{value_told}

unwritten_apart : (x : Option ℕ) → None ≡ Some x → ⊥
unwritten_apart x same = absurd cc

unread_apart : (e : ReadEntry) → None ≡ Some e → ⊥
unread_apart e same = absurd cc

-- what the transaction wrote
pub own_answer : (sets : Sets) (k : Key) (own : Option ℕ) (v : View) → value_of k sets.writes ≡ Some own
    → IsTreeValueRead k own sets v v
own_answer sets k own v wrote = record {
  own = λ x is. same x (sym wrote ∙ is);
  again = λ e none read. absurd (unwritten_apart own (sym none ∙ wrote));
  anew = λ none fresh. absurd (unwritten_apart own (sym none ∙ wrote));
}
  where
    same : (x : Option ℕ) → Some own ≡ Some x → own ≡ x
    same x both = cc

-- what it first read
pub again_answer : (sets : Sets) (k : Key) (e : ReadEntry) (value : Option ℕ) (v : View) → read_of k sets.reads ≡ Some e
    → has_write k sets.writes ≡ false → value ≡ entry_value e → IsTreeValueRead k value sets v v
again_answer sets k e value v is unwritten same = record {
  own = λ x wrote. absurd (unwritten_apart x (sym (value_none k sets.writes unwritten) ∙ wrote));
  again = λ f none read. same ∙ ap entry_value (one f (sym is ∙ read));
  anew = λ none fresh. absurd (unread_apart e (sym fresh ∙ is));
}
  where
    one : (f : ReadEntry) → Some e ≡ Some f → e ≡ f
    one f both = cc

-- the content has the value of that one, also where it has lost its number
that_value : (c d : Content) → IsThat c d → c.value ≡ d.value
that_value c d (inl same) = ap (λ (x : Content). x.value) same
that_value c d (inr none) = ap (λ (x : Content). x.value) none.0 ∙ sym none.1

-- what was found is the last decided write, as the call saw it
found_last : (f : Found) (sets : Sets) (k : Key) (v w : View) → IsFound k sets.pointers sets.headers f v w
    → value_in f ≡ (last_write v.layout.opening w.history w.decided k).value
found_last (places.Volatile at word value) sets k v w f =
    value_told f.content word value f.small f.shown f.has
    ∙ that_value f.content (last_write v.layout.opening w.history w.decided k) f.last
found_last (places.Absent header word) sets k v w f = sym f.absent
found_last (places.Snapshot value number p) sets k v w f = f.last
found_last (places.Zero p) sets k v w f = f.last

pub found_answer : (f : Found) (value : Option ℕ) (sets : Sets) (k : Key) (v w : View)
    → IsFound k sets.pointers sets.headers f v w → has_read k sets.reads ≡ false → has_write k sets.writes ≡ false
    → value ≡ value_in f → IsTreeValueRead k value sets v w
found_answer f value sets k v w found none unwritten is = record {
  own = λ x wrote. absurd (unwritten_apart x (sym (value_none k sets.writes unwritten) ∙ wrote));
  again = λ e clear read. absurd (unread_apart e (sym (unread k sets.reads none) ∙ read));
  anew = λ clear fresh. is ∙ found_last f sets k v w found;
}
