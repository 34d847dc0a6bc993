-- What a pass knows of words stays where its ways and leads stay.
use Rattle.std.proofs.Common.{◌≡◌, ◌⊎◌, inl, inr, ℕ, ◌<◌, true, List, sym, ap, ◌∙◌, subst}
use Rattle.std.specs.Prelude.{Contains}
use Rattle.std.specs.List.{AllByRecursion}
use Rattle.commit_core.specs.declared.part.Part.{Part}
use Rattle.tx_sets.specs.declared.reads.ReadEntry.{ReadEntry}
use Rattle.tx_sets.specs.declared.seen.Seen.{Seen}
use Rattle.tx_sets.specs.declared.sets.Sets.{Sets}
use Rattle.tx_sets.specs.declared.writes.Write.{Write}
use Rattle.engine_pages.specs.declared.view.Inner.{Inner}
use Rattle.engine_pages.specs.declared.view.Known.{Known}
use Rattle.engine_pages.specs.declared.layout.Layout.{Layout}
use Rattle.engine_pages.specs.declared.view.Lead.{Lead}
use Rattle.engine_pages.specs.declared.view.View.{View}
use Rattle.engine_pages.specs.declared.view.Way.{Way}
use Rattle.engine_pages.specs.Layout.{words_of}
use Rattle.engine_pages.specs.Pages.{is_array, is_tree}
use Rattle.engine_pages.specs.Pointers.{StandsFor}
use Rattle.dual_pointer.specs.Parts.{IsPointerPart, part_stays}
use Rattle.page_commit.specs.Places.{ground, pointer_for, Ground, IsPointerIn}
use Rattle.page_commit.specs.HeaderParts.{IsMetHeader}
use Rattle.page_commit.specs.Live.{below_in, AreParts, IsMetPointer, IsReadPart, IsWriteOf}

-- ---- the same ways

-- such a ground
abbrev ground_of : Layout → List Way → List Known → List Inner → Ground
ground_of layout ways known inners = record { layout = layout; ways = ways; known = known; inners = inners }

pub grounds : (v w : View) → v.layout ≡ w.layout → v.ways ≡ w.ways → v.known ≡ w.known → v.inners ≡ w.inners
    → ground v ≡ ground w
grounds v w layout ways known inners =
    ap (λ (l : Layout). ground_of l v.ways v.known v.inners) layout
    ∙ (ap (λ (l : List Way). ground_of w.layout l v.known v.inners) ways
    ∙ (ap (λ (l : List Known). ground_of w.layout w.ways l v.inners) known
    ∙ ap (λ (l : List Inner). ground_of w.layout w.ways w.known l) inners))

pub writes_stay : (ws : List Write) (v w : View) → w.layout ≡ v.layout → w.ways ≡ v.ways → w.known ≡ v.known → w.inners ≡ v.inners
    → AllByRecursion (IsWriteOf (ground v)) ws → AllByRecursion (IsWriteOf (ground w)) ws
writes_stay ws v w layout ways known inners all =
    subst (λ (g : Ground). AllByRecursion (IsWriteOf g) ws) (sym (grounds w v layout ways known inners)) all

pointer_stays : (v w : View) (p : Seen) (part : Part) → w.layout ≡ v.layout → w.ways ≡ v.ways → w.known ≡ v.known → w.inners ≡ v.inners
    → w.leads ≡ v.leads → w.pages ≡ v.pages → IsMetPointer v p part → IsMetPointer w p part
pointer_stays v w p part layout ways known inners leads pages m = record {
  span = m.span;
  place = subst (λ (g : Ground). IsPointerIn g m.span p.at) (sym (grounds w v layout ways known inners)) m.place;
  within = subst (λ (l : Layout). p.at < words_of l) (sym layout) m.within;
  bare = m.bare;
  of = subst (λ (g : Ground). IsPointerPart w (pointer_for g p.at) m.span p.word part)
      (sym (grounds w v layout ways known inners))
      (part_stays v w (pointer_for (ground v) p.at) m.span p.word part
      (λ z has. subst (λ (l : List Lead). Contains l z) (sym leads) has) m.of);
  kind = subst (λ (l : Layout). (is_array l.decls m.span.storage ≡ true) ⊎ (is_tree l.decls m.span.storage ≡ true))
      (sym layout) m.kind;
  stands = λ some.
      subst (λ (l : Layout). StandsFor l.decls w.pages m.span p.word) (sym layout)
      (subst (λ (l : List (List ℕ)). StandsFor v.layout.decls l m.span p.word) (sym pages) (m.stands some));
  inside = m.inside;
  all = m.all;
  says = λ k over. m.says k over
      ∙ (ap (λ (l : List (List ℕ)). below_in v.layout.decls l m.span p.word k) (sym pages)
      ∙ ap (λ (l : Layout). below_in l.decls w.pages m.span p.word k) (sym layout));
}

pub parts_stay : (sets : Sets) (v w : View) (parts : List Part) → parts ≡ v.seat.kept → w.layout ≡ v.layout
    → w.ways ≡ v.ways → w.known ≡ v.known → w.inners ≡ v.inners → w.leads ≡ v.leads → w.pages ≡ v.pages → AreParts sets v v.seat.kept → AreParts sets w parts
parts_stay sets v w parts same layout ways known inners leads pages are = subst (AreParts sets w) (sym same) record {
  known = λ part has. by_known part (are.known part has);
  reads = λ e has. let r = are.reads e has in (r.0, r.1, read_stays e r.0 r.2);
  pointers = λ p has. let r = are.pointers p has in (r.0, r.1, pointer_stays v w p r.0 layout ways known inners leads pages r.2);
  headers = λ h has. let r = are.headers h has in (r.0, r.1, header_stays h r.0 r.2);
  once = are.once;
}
  where
    read_stays : (e : ReadEntry) (part : Part) → IsReadPart (ground v) e part → IsReadPart (ground w) e part
    read_stays e part r = subst (λ (g : Ground). IsReadPart g e part) (sym (grounds w v layout ways known inners)) r

    header_stays : (h : Seen) (part : Part) → IsMetHeader (ground v) h part → IsMetHeader (ground w) h part
    header_stays h part r = subst (λ (g : Ground). IsMetHeader g h part) (sym (grounds w v layout ways known inners)) r

    by_known : (part : Part)
        → ((e : ReadEntry) × Contains sets.reads e × IsReadPart (ground v) e part)
        ⊎ (((p : Seen) × Contains sets.pointers p × IsMetPointer v p part)
        ⊎ ((h : Seen) × Contains sets.headers h × IsMetHeader (ground v) h part))
        → ((e : ReadEntry) × Contains sets.reads e × IsReadPart (ground w) e part)
        ⊎ (((p : Seen) × Contains sets.pointers p × IsMetPointer w p part)
        ⊎ ((h : Seen) × Contains sets.headers h × IsMetHeader (ground w) h part))
    by_known part (inl r) =
        inl (r.0, r.1, subst (λ (g : Ground). IsReadPart g r.0 part) (sym (grounds w v layout ways known inners)) r.2)
    by_known part (inr (inl r)) = inr (inl (r.0, r.1, pointer_stays v w r.0 part layout ways known inners leads pages r.2))
    by_known part (inr (inr r)) = inr (inr (r.0, r.1, header_stays r.0 part r.2))
