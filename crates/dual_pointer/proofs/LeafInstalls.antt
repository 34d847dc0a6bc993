-- A slot with a leaf of a tree that says what a snapshot page does may be put in.
use Rattle.std.proofs.Common.{◌≡◌, ℕ, zero, suc, ◌<◌, ◌^◌, true, true≢false, List, [], ◌∷◌, length}
use Rattle.std.proofs.Common.{get_or, refl, sym, ap, ◌∙◌, subst, arith, Some, None}
use Rattle.std.specs.List.{slice_get}
use Rattle.std.proofs.lemmas.Bool.{and_from}
use Rattle.std.proofs.lemmas.Option.{slice_get_within}
use Rattle.serial_model.specs.declared.key.Key.{Key}
use Rattle.homes.specs.declared.places.At.{At}
use Rattle.homes.specs.declared.places.Content.{Content}
use Rattle.homes.specs.declared.places.Holder.TheVariants.{Free}
use Rattle.homes.specs.declared.places.Home.{Home}
use Rattle.homes.specs.declared.places.Move.{Move}
use Rattle.homes.specs.declared.places.Span.{Span}
use Rattle.homes.specs.Homes.{moves_to}
use Rattle.snapshot_store.specs.TreePages.{Record, node_of, node_below, records_of}
use Rattle.commit_core.specs.declared.place.Place.{Place}
use Rattle.commit_core.specs.declared.story.Story.{Story}
use Rattle.commit_core.specs.CoreState.{can_begin}
use Rattle.commit_core.specs.Moves.{is_left}
use Rattle.commit_core.specs.Places.{spot_of}
use Rattle.drop_core.specs.declared.event.Act.TheVariants.{Install}
use Rattle.drop_core.specs.declared.table.Page.{Page}
use Rattle.drop_core.specs.declared.table.Pointer.{Pointer}
use Rattle.drop_core.specs.declared.table.Table.{Table}
use Rattle.drop_core.specs.Event.{is_leaf_for, is_like, leaf_keys, moves, stands_for}
use Rattle.drop_core.specs.Table.{has_pointer, is_live, is_never, leaf_home, page_of, pointer_of, slot_of, snap_of}
use Rattle.engine_rule.specs.Event.{may_move}
use Rattle.engine_pages.specs.declared.layout.Layout.{Layout}
use Rattle.engine_pages.specs.declared.view.NewLeaf.{NewLeaf}
use Rattle.engine_pages.specs.declared.view.View.{View}
use Rattle.engine_pages.specs.Pages.{decl_of, is_array, Fenced, IsLaidOut}
use Rattle.engine_pages.specs.Pointers.{IsPointerAt, page_half}
use Rattle.engine_pages.specs.Resident.{tree_below}
use Rattle.engine_pages.specs.Rule.{Shared, IsNewLeaf}
use Rattle.engine_pages.specs.Views.{seat_number}
use Rattle.engine_pages.specs.Words.{spot}
use Rattle.engine_pages.proofs.Joint.{Laws}
use Rattle.engine_pages.proofs.Named.{page_longer}
use Rattle.engine_pages.proofs.PointerLaws.{PointerIs}
use Rattle.engine_pages.proofs.Seats.{home_known}
use Rattle.engine_pages.proofs.Turns.{Begins}
use Rattle.dual_pointer.specs.Installs.{IsLeafFor, contents_in, keys_in, tree_records}
use Rattle.dual_pointer.proofs.InstallFacts.{Installable, there, live, named, homes, made_never}
use Rattle.dual_pointer.proofs.Keyed.{CanMoveAll, left_at, may_move_all}
use Rattle.dual_pointer.proofs.Moves.{snap_unspotted}
use Rattle.dual_pointer.proofs.Stands.{array_over, over_tree}
use Rattle.dual_pointer.proofs.TreePages.{IsTreeLeaf, content_says, keys_once, keys_within, leaf_for, tree_leaf_is, within_of}

module _ (laws : Laws) (l : Layout) (words : List ℕ) (views : List View) (s : Shared) (id : ℕ) (v : View)
    (b : Begins l words views s id v) (x : At) (sp : Span) (at t expected : ℕ) (here : IsPointerAt v x sp at)
    (low : expected < 2 ^ 32) (n-is : get_or words at 0 ≡ expected) (c : IsLeafFor v sp t (page_half expected)) where
  abbrev m : Story
  m = s.story

  abbrev d : Table
  d = s.table

  abbrev p : ℕ
  p = seat_number v.role

  abbrev q : Pointer
  q = pointer_of d x

  abbrev number : ℕ
  number = page_half expected

  abbrev records : List Record
  records = tree_records v.pages number

  abbrev keys : List Key
  keys = keys_in sp records

  abbrev to : Key → Home
  to = leaf_home t 0 keys

  abbrev new : NewLeaf
  new = record { slot = t; span = sp; keys = keys; contents = contents_in records }

  is : IsNewLeaf l m d s.trees v.grip.made new
  is = b.pages.treed.new_leaves new c.has

  pointer-there : PointerIs l words s v x sp at
  pointer-there = there laws l words views s id v b x sp at expected here low n-is

  pointer-live : is_live d x ≡ true
  pointer-live = live laws l words views s id v b x sp at expected here low n-is

  never : is_never (slot_of d t).led ≡ true
  never = made_never laws l words views s id v b x sp at expected here low n-is t is.made

  -- ---- the page that the pointer names

  same_words : tree_records s.resident.pages number ≡ records
  same_words =
      ap (λ (ws : List ℕ). records_of (node_of ws)) (page_longer v.pages s.resident.pages number b.pages.resident c.there)

  same_below : tree_below s.resident.pages sp number ≡ []
  same_below =
      ap (λ (ws : List ℕ). node_below sp.low sp.high (node_of ws))
      (page_longer v.pages s.resident.pages number b.pages.resident c.there) ∙ c.leaf

  page : IsTreeLeaf d q.page sp records
  page =
      subst (λ (rs : List Record). IsTreeLeaf d q.page sp rs) same_words
      (tree_leaf_is l.decls s.resident d sp number q.page b.sound.declared b.sound.named b.sound.joint.pages.published
      (named laws l words views s id v b x sp at expected here low n-is)
      (b.sound.joint.pages.table.snapshots_fixed.pointers x pointer-live) is.kind same_below)

  -- ---- its keys

  -- each key has a content with its index
  content_there : (i : ℕ) (k : Key) → slice_get keys i ≡ Some k
      → (a : Content) × (slice_get (contents_in records) i ≡ Some a)
  content_there i k has =
      there_is i (contents_in records)
      (let less : i < length keys = slice_get_within keys i k has in let each = is.each in omega (arith, less, each))
    where
      there_is : (i : ℕ) (cs : List Content) → i < length cs → (a : Content) × (slice_get cs i ≡ Some a)
      there_is i [] less = absurd (omega arith)
      there_is zero (a ∷ cs) less = (a, refl)
      there_is (suc i) (a ∷ cs) less = there_is i cs (omega arith)

  can : CanMoveAll m d t keys q.page
  can = record {
    once = keys_once d q.page sp records page;
    homes = λ i k has.
        homes laws l words views s id v b x sp at expected here low n-is k
        (within_of sp keys i k (keys_within d q.page sp records page) has);
    places = λ i k has.
        let a = content_there i k has in
        is.records i a.0 a.1
        ∙ ap (λ (y : Content). let z : Place = record { content = y; holder = Free } in z)
        (sym (content_says d q.page sp records page i k a.0 has a.1));
    nobody = λ k i home. true≢false (sym never ∙ home_known l s k (spot t i) b.sound.joint home);
  }

  moves-are : moves d (Install x t) ≡ moves_to to keys
  moves-are = ap (λ (z : Page). moves_to (leaf_home t 0 (leaf_keys z)) (leaf_keys z)) is.page

  not_array : (span : Span) → is_array l.decls span.storage ≡ true
      → IsLaidOut (decl_of l.decls span.storage) s.trees d t span → s.trees t ≡ None
  not_array span kind over = (array_over (decl_of l.decls span.storage) s.trees d t span kind over).0

  no_tree : (f : Fenced) → s.trees t ≡ None → s.trees t ≡ Some f → ⊥
  no_tree f none some = let no : None ≡ Some f = sym none ∙ some in absurd (cc)

  pub leaf_installs : Installable laws l words views s id v b x sp at expected here low n-is t
  leaf_installs = record {
    slot = is.slot;
    made = is.made;
    state = is.state;
    laid = over_tree (decl_of l.decls sp.storage) s.trees d t sp is.kind (
      record { span = sp; keys = keys },
      is.there,
      refl,
    );
    fits = and_from (is_like d t (page_of d t) (snap_of d q.page)) (stands_for d t q.page q.span (page_of d t))
        (ap (λ (z : Page). is_like d t z (snap_of d q.page)) is.page ∙ page.leaf)
        (ap (λ (z : Page). stands_for d t q.page q.span z) is.page
        ∙ (ap (λ (z : Span). is_leaf_for d q.page z keys) pointer-there.span ∙ leaf_for d q.page sp records page));
    alone = λ j u has leads. absurd (true≢false (sym has ∙ ap (λ (z : Page). has_pointer z j) is.page));
    moving = ap (may_move p m (s.seats p)) moves-are
        ∙ may_move_all p (can_begin (s.seats p).stage) m d t keys q.page can;
    unleft = λ y.
        ap (λ (list : List Move). is_left list m.homes y) moves-are
        ∙ left_at to m.homes keys y (λ i k has. ap spot_of (can.homes i k has) ∙ snap_unspotted d q.page k);
    low_words = λ span i less kind leaf over. absurd (no_tree (record { span = sp; keys = keys }) (not_array span kind over) is.there);
  }
