-- A record of a tree that was read joins the sets.
use Rattle.std.proofs.Common.{◌≡◌, inl, inr, ℕ, ◌+◌, ◌^◌, ◌<◌, ◌≤◌, Bool, true, false, true≢false, ltb, List, [], ◌∷◌, ◌++◌}
use Rattle.std.proofs.Common.{refl, sym, ap, ◌∙◌, subst, Option, Some, None, arith, length}
use Rattle.std.specs.Prelude.{Contains, unwrap_or, if◌then◌else◌, nat_lt}
use Rattle.std.proofs.lemmas.Bool.Decides.{nat_tests}
use Rattle.lists.specs.Each.{AreDistinct}
use Rattle.lists.specs.Elements.{any_in}
use Rattle.serial_model.specs.declared.key.Key.{Key}
use Rattle.homes.specs.declared.places.Content.{Content}
use Rattle.homes.specs.declared.places.Span.{Span}
use Rattle.homes.specs.declared.places.Spot.{Spot}
use Rattle.homes.specs.Homes.{in_span, same_key}
use Rattle.homes.specs.Laws.{same_key-self}
use Rattle.wire_form.specs.Leaves.{tree_leaf}
use Rattle.wire_form.specs.Words.{absent_field, number_word}
use Rattle.commit_core.specs.declared.part.Part.{Part}
use Rattle.commit_core.specs.Parts.{record_part, with_part}
use Rattle.serial_bridge.specs.Transaction.{Vouched}
use Rattle.tx_sets.specs.declared.reads.ReadEntry.{ReadEntry}
use Rattle.tx_sets.specs.declared.seen.Seen.{Seen}
use Rattle.tx_sets.specs.declared.sets.Sets.{Sets}
use Rattle.tx_sets.specs.Entries.{has_read, places_of}
use Rattle.engine_pages.specs.declared.view.View.{View}
use Rattle.engine_pages.specs.declared.view.Way.{Way}
use Rattle.engine_pages.specs.Words.{IsSmall}
use Rattle.tree_walks.specs.Finding.{IsFoundIn}
use Rattle.tree_walks.specs.Walks.{AreLedTo, CanWalk, HasWalked, KeepsMet, OnlyTreesBut, OnlyWaysOn}
use Rattle.page_commit.specs.HeaderParts.{AreHeaders}
use Rattle.page_commit.specs.Live.{entry_places, AreMet, ArePointersKept, ArePointersMet, IsLive, IsWordOf}
use Rattle.page_commit.specs.Places.{ground, spot_for, IsAnyKeyIn, IsTreeKeyIn}
use Rattle.page_commit.proofs.AnyPlaces.{any_one_key, tree_key_here, tree_kind, tree_spot_of_word, trees_spot}
use Rattle.page_commit.proofs.FoundLaws.{by_record}
use Rattle.page_commit.proofs.GrowLaws.{any_grown, KnowsMore}
use Rattle.page_commit.proofs.KeepLaws.{entry_parts, entry_stays, kept_new}
use Rattle.page_commit.proofs.WalkedLaws.{held_to, inside_entry, kept_walked, live_grown, met_entry, only_walked_same}
use Rattle.page_commit.proofs.WalkedLaws.{places_push}
use Rattle.tree_calls.specs.Keeping.{HasValue, value_in}
use Rattle.tree_walks.specs.declared.finding.Found.TheVariants as places
use Rattle.tree_calls.proofs.TreeWalkLaws.{beside_trees_but, tree_knows_more, tree_points, tree_walked}
use Rattle.tree_calls.proofs.WalkedLaws.{headers_walked, ways_on}

-- the value that the word of a record tells is that of its content
pub value_told : (c : Content) (word value : ℕ) → IsSmall c.number
    → number_word c.number + absent_field tree_leaf c.value ≡ word → value ≡ unwrap_or c.value 0
    → (if nat_lt word (2 ^ 61) then Some value else None) ≡ c.value
value_told c word value small shown has = by_value c.value shown has
  where
    low : number_word c.number < 2 ^ 60
    low = let draw = small.draw in let epoch = small.epoch in omega (arith, draw, epoch)

    by_value : (o : Option ℕ) → number_word c.number + absent_field tree_leaf o ≡ word → value ≡ unwrap_or o 0
        → (if nat_lt word (2 ^ 61) then Some value else None) ≡ o
    by_value None shown has =
        let less = low in
        let high : 2 ^ 61 ≤ word = omega (arith, shown) in
        let test : ltb word (2 ^ 61) ≡ false = grind (arith, nat_tests) in
        ap (λ (b : Bool). let o : Option ℕ = if b then Some value else None in o) test
    by_value (Some i) shown has =
        let less = low in
        let under : word < 2 ^ 61 = omega (arith, shown, less) in
        let test : ltb word (2 ^ 61) ≡ true = grind (arith, nat_tests) in
        ap (λ (b : Bool). let o : Option ℕ = if b then Some value else None in o) test
        ∙ ap (λ (n : ℕ). let o : Option ℕ = Some n in o) has

module _ (sets new : Sets) (v w : View) (k : Key) (at word value : ℕ) (live : IsLive sets v) (walk : HasWalked v w)
    (can : CanWalk new.holds w) (only : OnlyTreesBut at v w) (keeps : KeepsMet sets.pointers sets.headers v w)
    (f : IsFoundIn k at word value v w) (none : has_read k sets.reads ≡ false)
    (reads : new.reads ≡ sets.reads ++ record { key = k; at = at; word = word; value = value } ∷ [])
    (pointers : new.pointers ≡ sets.pointers) (headers : new.headers ≡ sets.headers)
    (writes : new.writes ≡ sets.writes) (room : length new.reads + length new.headers ≤ 256) where
  abbrev e : ReadEntry
  e = record { key = k; at = at; word = word; value = value }

  more : KnowsMore v w
  more = tree_knows_more v w walk

  over : in_span ((f.place).way).span k ≡ true
  over =
      let way : Way = record { slot = f.slot; span = f.span } in
      let same = (can.trees).spans way (f.place).way (f.on).way (f.place).has (sym ((f.place).slot ∙ f.stands)) (f.on).tree in
      subst (λ (s : Span). in_span s k ≡ true) same (f.on).over

  place : IsTreeKeyIn (ground w) k at
  place = tree_key_here w k f.spot at f.place over

  other : (x : ReadEntry) → Contains sets.reads x → x.at ≡ at → ⊥
  other x has same =
      let there = any_grown v w x.key x.at more ((live.parts).reads x has).2.place in
      let key : x.key ≡ k =
      any_one_key (ground w) x.key k at can.agree (can.trees).known
      (subst (λ (n : ℕ). IsAnyKeyIn (ground w) x.key n) same there) (inr place) in
      true≢false (sym (any_in (λ (z : ReadEntry). same_key z.key k) sets.reads x has
      (ap (λ (q : Key). same_key q k) key ∙ same_key-self k)) ∙ none)

  part_is : w.seat.kept ≡ with_part v.seat.kept (record_part k (spot_for w.layout k at) f.content)
  part_is =
      f.kept
      ∙ ap (λ (x : Spot). with_part v.seat.kept (record_part k x f.content))
      (tree_spot_of_word w.layout.slots f.spot at (f.place).index (f.place).word ∙ sym (trees_spot (ground w) k at place))

  shown_of : IsWordOf w.layout.decls k f.content word
  shown_of = record {
    small = f.small;
    number = ap (λ (b : Bool). number_word (f.content).number + (if b then 0 else absent_field tree_leaf (f.content).value))
        (tree_kind (ground w) k at place)
        ∙ f.shown;
  }

  pub live_record : IsLive new w
  live_record = live_grown sets new v w live (tree_walked v w walk) more can record {
    parts = entry_parts sets new v w e f.content live.decls can.agree more live.parts (inr place) other shown_of f.has reads
        pointers headers part_is;
    places = subst (λ (l : List ReadEntry). AreDistinct (entry_places l)) (sym reads)
        (places_push sets.reads e live.places other);
    once = subst (λ (l : List Seen). AreDistinct (places_of l)) (sym pointers) live.once;
    writes = writes;
    met = subst (λ (l : List ReadEntry). AreMet l [] w) (sym reads)
        (met_entry sets v w e live more can.agree can.trees can.declared (inr place) other f.met
        (beside_trees_but at v w can.declared only));
    points = subst (λ (l : List Seen). ArePointersMet l w) (sym pointers) (tree_points sets v w live keeps);
    kept = subst (λ (l : List Seen). ArePointersKept l w) (sym pointers) (kept_walked sets v w live f.words);
    headers = subst (λ (l : List Seen). AreHeaders l w) (sym headers)
        (headers_walked sets v w live keeps (λ h has. f.words h.at));
    only = only_walked_same sets new v w live f.words pointers headers;
    inside = inside_entry sets v w e live more can.agree can.trees can.declared (inr place) other f.met
        (beside_trees_but at v w can.declared only);
    room = room;
  }

  pub value_record : OnlyWaysOn k v w → AreLedTo k v w → HasValue k (value_in (places.Volatile at word value)) sets new v w
  value_record paths led = record {
    live = live_record;
    only = tree_walked v w walk;
    paths = ways_on k v w paths;
    held = held_to k sets.holds new.holds v w live.holds can.holds led;
    keeps = entry_stays sets new v w e f.content live.decls can.agree more live.parts (inr place) other part_is;
    touched = ap (λ (y : View). y.touched) walk.is;
    reads = inr (e, refl, reads);
    pointers = inl pointers;
    headers = inl headers;
    writes = writes;
    vouched = subst (λ (o : Option ℕ). Vouched w.seat.kept k o) (sym (value_told f.content word value f.small f.shown f.has))
        (by_record w.seat.kept k (spot_for w.layout k at) f.content
        (subst (λ (l : List Part). Contains l (record_part k (spot_for w.layout k at) f.content)) (sym part_is)
        (kept_new v.seat.kept (record_part k (spot_for w.layout k at) f.content))));
  }
