-- Why an operation is refused that reads a key of a tree before it writes it.
use Rattle.std.proofs.Common.{◌≡◌, inl, inr, ℕ, ◌+◌, ◌<◌, ◌≤◌, false, List, [], ◌∷◌, ◌++◌, length, true, sym, ap, ◌∙◌, subst, arith}
use Rattle.std.proofs.Common.{Option}
use Rattle.serial_model.specs.declared.key.Key.{Key}
use Rattle.tx_sets.specs.declared.reads.ReadEntry.{ReadEntry}
use Rattle.tx_sets.specs.declared.seen.Seen.{Seen}
use Rattle.tx_sets.specs.declared.sets.Sets.{Sets}
use Rattle.tx_sets.specs.Entries.{has_write}
use Rattle.engine_pages.specs.declared.layout.Layout.{Layout}
use Rattle.engine_pages.specs.declared.view.RefusalCause.{RefusalCause}
use Rattle.engine_pages.specs.declared.view.View.{View}
use Rattle.engine_pages.specs.Pages.{is_tree}
use Rattle.page_commit.specs.Refusing.{HasRefused}
use Rattle.page_commit.specs.Turning.{OnlyWalked}
use Rattle.page_commit.proofs.RefuseLaws.{refused_since}
use Rattle.page_commit.proofs.TurnLaws.{walks_layout, walks_then}
use Rattle.tree_calls.specs.Causes.{RefusesTreeRead}
use Rattle.tree_calls.specs.Keeping.{HasValue}
use Rattle.tree_calls.proofs.SinceLaws.{tree_read_since}
use Rattle.tree_walks.specs.Finds.{find_steps}
use Rattle.page_commit.specs.Calls.{end_most}
use Rattle.tree_writes.specs.Causes.{alter_most, bring_most, write_most, RefusesTreeAlter, RefusesTreeWrite}
use Rattle.tree_writes.specs.Writing.{HasMade}

-- the key's storage is a tree's still
pub tree_stays : (v w : View) (k : Key) → OnlyWalked v w → is_tree v.layout.decls k.storage ≡ true
    → is_tree w.layout.decls k.storage ≡ true
tree_stays v w k only tree =
    subst (λ (l : Layout). is_tree l.decls k.storage ≡ true) (sym (walks_layout v w only)) tree

-- the read was refused, behind the pages that were brought into memory
pub read_cause : (why : RefusalCause) (sets mid late : Sets) (k : Key) (u v w : View) → HasMade k sets mid u v
    → length sets.writes < 16 → RefusesTreeRead mid late k why v w → RefusesTreeAlter sets late k why u w
read_cause why sets mid late k u v w m room r =
    inr (inl (
      room,
      tree_read_since sets mid k u v w m.only m.reads m.pointers m.headers why late m.touched m.writes r,
    ))

-- the place of its record was, behind the read
pub place_cause : {value : Option ℕ} (why : RefusalCause) (sets mid late last : Sets) (k : Key) (u v w x : View)
    → HasMade k sets mid u v → HasValue k value mid late v w → has_write k sets.writes ≡ false
    → RefusesTreeWrite late last k why w x → RefusesTreeAlter sets last k why u x
place_cause why sets mid late last k u v w x m h none r =
    inr (inr (
      none,
      record {
        then = w;
        walked = walks_then u v w m.only h.only;
        touched = h.touched ∙ m.touched;
        sets = late;
        live = h.live;
        reads = elim h.reads [
          | inl same ↦ inl (same ∙ m.reads)
          | inr e ↦ inr (e.0, e.1, e.2 ∙ ap (λ (l : List ReadEntry). l ++ e.0 ∷ []) m.reads)
        ];
        pointers = elim h.pointers [
          | inl same ↦ inl (same ∙ m.pointers)
          | inr p ↦ inr (p.0, p.1 ∙ ap (λ (l : List Seen). l ++ p.0 ∷ []) m.pointers)
        ];
        headers = elim h.headers [
          | inl same ↦ inl (same ∙ m.headers)
          | inr q ↦ inr (q.0, q.1 ∙ ap (λ (l : List Seen). l ++ q.0 ∷ []) m.headers)
        ];
        writes = h.writes ∙ m.writes;
        cause = r;
      },
    ))

pub behind_two : (why : RefusalCause) (u v w x : View) → OnlyWalked u v → OnlyWalked v w → HasRefused why w x
    → HasRefused why u x
behind_two why u v w x one two r = refused_since why u w x (walks_then u v w one two) r

-- ---- steps

sum_of_three : (u v w x b f e m : ℕ) → v ≤ u + b → w ≤ (v + f) + e → x ≤ w + m → x ≤ u + (b + ((f + e) + m))
sum_of_three u v w x b f e m one two three = omega (arith, one, two, three)

-- the pages, the read and the write behind it
pub steps_behind : (u v w x : View) → OnlyWalked u v → OnlyWalked v w → v.steps ≤ u.steps + bring_most u.layout.slots
    → w.steps ≤ (v.steps + find_steps) + end_most → x.steps ≤ w.steps + write_most w.layout.slots
    → x.steps ≤ u.steps + alter_most u.layout.slots
steps_behind u v w x a b one two three =
    sum_of_three u.steps v.steps w.steps x.steps (bring_most u.layout.slots) find_steps end_most
    (write_most u.layout.slots) one two
    (subst (λ (l : Layout). x.steps ≤ w.steps + write_most l.slots) (walks_layout v w b ∙ walks_layout u v a) three)
