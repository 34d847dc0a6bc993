-- What is found below a snapshot page stays where more pages are known.
use Rattle.std.proofs.Common.{◌≡◌, ◌⊎◌, inl, inr, ℕ, zero, suc, ◌<◌, ◌≤◌, Bool, true, false, true≢false, cond, List, []}
use Rattle.std.proofs.Common.{append-nil, drop, length, refl, sym, ap, ◌∙◌, subst, arith, Option, Some, None}
use Rattle.lists.specs.Fronts.{IsFront, front_rest}
use Rattle.serial_model.specs.declared.decl.Decl.{Decl}
use Rattle.serial_model.specs.declared.decl.Decl.TheVariants.{Array, Tree}
use Rattle.serial_model.specs.declared.key.Key.{Key}
use Rattle.serial_model.specs.Decls.{AreDecls}
use Rattle.homes.specs.declared.places.Span.{Span}
use Rattle.snapshot_store.specs.ArrayPages.{array_format, IsArrayPage}
use Rattle.snapshot_store.specs.Content.{deepest, format_of, IsPageOf}
use Rattle.snapshot_store.specs.Places.{find, StandsTo}
use Rattle.snapshot_store.specs.StandLaws.{find-append, stands-append}
use Rattle.snapshot_store.specs.TreePages.{tree_format, IsTreePage}
use Rattle.engine_pages.specs.Pages.{decl_of, is_array, is_array_kind, is_tree, is_tree_kind}
use Rattle.engine_pages.specs.Pointers.{one_kind, StandsFor}
use Rattle.engine_pages.specs.Resident.{found_content, place_for}
use Rattle.dual_pointer.specs.Parts.{content_below, tree_content}
use Rattle.dual_pointer.proofs.Below.{find_none}
use Rattle.array_pages.proofs.DeclLaws.{array_there, decl_in, stands_in}
use Rattle.page_commit.specs.Live.{below_in}

-- ---- by the kind of the storage

pub below_array : (decls : List Decl) (pages : List (List ℕ)) (sp : Span) (n : ℕ) (k : Key)
    → is_array decls sp.storage ≡ true → below_in decls pages sp n k ≡ content_below pages sp n k
below_array decls pages sp n k array =
    ap (λ (b : Bool). cond b (content_below pages sp n k) (tree_content pages sp n k)) array

not_array : (o : Option Decl) (b : Bool) → is_array_kind o ≡ b → is_tree_kind o ≡ true → b ≡ false
not_array o true array tree = absurd (one_kind o array tree)
not_array o false other tree = refl

pub below_tree : (decls : List Decl) (pages : List (List ℕ)) (sp : Span) (n : ℕ) (k : Key)
    → is_tree decls sp.storage ≡ true → below_in decls pages sp n k ≡ tree_content pages sp n k
below_tree decls pages sp n k tree =
    ap (λ (b : Bool). cond b (content_below pages sp n k) (tree_content pages sp n k))
    (not_array (decl_of decls sp.storage) (is_array decls sp.storage) refl tree)

-- ---- where more pages are known

-- a page that stands for keys stands for them still
pub stands_longer : (decls : List Decl) (pages later : List (List ℕ)) (sp : Span) (n : ℕ) → IsFront pages later
    → StandsFor decls pages sp n → StandsFor decls later sp n
stands_longer decls pages later sp n front h =
    let s = h.2 in (
      h.0,
      h.1,
      record {
        declared = s.declared;
        there = s.there;
        depth = s.depth;
        most = s.most;
        stands = subst (λ (l : List (List ℕ)). StandsTo (format_of h.0) (IsPageOf h.0) l s.depth (place_for sp n))
            (front_rest pages later front)
            (stands-append (format_of h.0) (IsPageOf h.0) pages (drop (length pages) later) s.depth s.depth
            (place_for sp n) s.stands (omega arith));
      },
    )

-- what is found below it is the same
pub content_longer : (decls : List Decl) (pages later : List (List ℕ)) (sp : Span) (n : ℕ) (k : Key) → AreDecls decls
    → is_array decls sp.storage ≡ true → IsFront pages later → (0 < n → StandsFor decls pages sp n)
    → content_below later sp n k ≡ content_below pages sp n k
content_longer decls pages later sp zero k are array front stands =
    ap found_content
    (find_none later deepest k.key sp.low sp.high ∙ sym (find_none pages deepest k.key sp.low sp.high))
content_longer decls pages later sp (suc m) k are array front stands =
    let there = array_there decls sp.storage array in
    let s = stands_in decls pages sp.storage there.0 there.1 sp (suc m) are there.2 refl (stands (omega arith)) in
    ap found_content (longer there.1 s.depth s.most s.stands)
  where
    longer : (size depth : ℕ) → depth ≤ deepest
        → StandsTo array_format (IsArrayPage size) pages depth (place_for sp (suc m))
        → find array_format later deepest k.key (place_for sp (suc m))
        ≡ find array_format pages deepest k.key (place_for sp (suc m))
    longer size depth most s =
        subst (λ (l : List (List ℕ)). find array_format l deepest k.key (place_for sp (suc m))
        ≡ find array_format pages deepest k.key (place_for sp (suc m)))
        (front_rest pages later front)
        (find-append array_format (IsArrayPage size) pages (drop (length pages) later) depth deepest k.key
        (place_for sp (suc m)) s most
        ∙ (sym (find-append array_format (IsArrayPage size) pages [] depth deepest k.key (place_for sp (suc m)) s most)
        ∙ ap (λ (l : List (List ℕ)). find array_format l deepest k.key (place_for sp (suc m))) (append-nil pages)))

-- nothing is found where there is no page
tree_none : (pages : List (List ℕ)) (depth key low high : ℕ)
    → find tree_format pages depth key (record { number = 0; low = low; high = high }) ≡ None
tree_none pages zero key low high = refl
tree_none pages (suc depth) key low high = refl

-- so it is below a page of a tree
pub tree_longer : (decls : List Decl) (pages later : List (List ℕ)) (sp : Span) (n : ℕ) (k : Key) → AreDecls decls
    → is_tree decls sp.storage ≡ true → IsFront pages later → (0 < n → StandsFor decls pages sp n)
    → tree_content later sp n k ≡ tree_content pages sp n k
tree_longer decls pages later sp zero k are tree front stands =
    ap found_content
    (tree_none later deepest k.key sp.low sp.high ∙ sym (tree_none pages deepest k.key sp.low sp.high))
tree_longer decls pages later sp (suc m) k are tree front stands =
    let h = stands (omega arith) in
    ap found_content (by_decl h.0 (sym (ap is_tree_kind (decl_in decls h.0 are.distinct h.2.declared))
    ∙ (ap (is_tree decls) h.1 ∙ tree)) h.2.depth h.2.most h.2.stands)
  where
    by_decl : (d : Decl) → is_tree_kind (Some d) ≡ true → (depth : ℕ) → depth ≤ deepest
        → StandsTo (format_of d) (IsPageOf d) pages depth (place_for sp (suc m))
        → find tree_format later deepest k.key (place_for sp (suc m))
        ≡ find tree_format pages deepest k.key (place_for sp (suc m))
    by_decl (Array id size) kind depth most s = absurd (true≢false (sym kind))
    by_decl (Tree id) kind depth most s =
        subst (λ (l : List (List ℕ)). find tree_format l deepest k.key (place_for sp (suc m))
        ≡ find tree_format pages deepest k.key (place_for sp (suc m)))
        (front_rest pages later front)
        (find-append tree_format IsTreePage pages (drop (length pages) later) depth deepest k.key
        (place_for sp (suc m)) s most
        ∙ (sym (find-append tree_format IsTreePage pages [] depth deepest k.key (place_for sp (suc m)) s most)
        ∙ ap (λ (l : List (List ℕ)). find tree_format l deepest k.key (place_for sp (suc m))) (append-nil pages)))

-- and below a page of either kind
pub below_longer : (decls : List Decl) (pages later : List (List ℕ)) (sp : Span) (n : ℕ) (k : Key) → AreDecls decls
    → (is_array decls sp.storage ≡ true) ⊎ (is_tree decls sp.storage ≡ true) → IsFront pages later
    → (0 < n → StandsFor decls pages sp n) → below_in decls later sp n k ≡ below_in decls pages sp n k
below_longer decls pages later sp n k are (inl array) front stands =
    below_array decls later sp n k array
    ∙ (content_longer decls pages later sp n k are array front stands ∙ sym (below_array decls pages sp n k array))
below_longer decls pages later sp n k are (inr tree) front stands =
    below_tree decls later sp n k tree
    ∙ (tree_longer decls pages later sp n k are tree front stands ∙ sym (below_tree decls pages sp n k tree))
