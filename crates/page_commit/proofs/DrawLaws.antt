-- What a commit draws with: the keys that are locked are those of its changes, and what it read is its attempt's.
use Rattle.std.proofs.Common.{◌≡◌, inl, inr, ℕ, Bool, true, false, true≢false, cond, List, [], ◌∷◌, map, length, Some, None}
use Rattle.std.proofs.Common.{refl, sym, ap, ◌∙◌, subst}
use Rattle.std.specs.Prelude.{Contains, ◌==◌, ◌<◌, ◌^◌, is_some}
use Rattle.std.specs.List.{slice_get, list_all, find, AllByRecursion}
use Rattle.std.specs.Option.{option_map}
use Rattle.std.proofs.lemmas.Bool.{cases_Bool, and_from, eqb-true, ne_eqb, or_from, or_left, or_right}
use Rattle.lists.specs.Elements.{in_none, in_head, in_tail, in_cases, at_push_new}
use Rattle.serial_model.specs.declared.number.Change.{Change}
use Rattle.homes.specs.Homes.{same_key, has_key}
use Rattle.homes.specs.Laws.{same_key-self}
use Rattle.commit_core.specs.declared.attempt.Attempt.{Attempt}
use Rattle.commit_core.specs.declared.part.Part.{Part}
use Rattle.commit_core.specs.Keys.{writes_key}
use Rattle.commit_core.specs.CoreState.{can_begin, same_keys}
use Rattle.tx_sets.specs.declared.reads.ReadEntry.{ReadEntry}
use Rattle.tx_sets.specs.declared.sets.Sets.{Sets}
use Rattle.tx_sets.specs.declared.writes.Write.{Write}
use Rattle.tx_sets.specs.Entries.{writes_at}
use Rattle.page_commit.proofs.LeaveLaws.{same_then, trees_stay}
use Rattle.page_commit.proofs.PageLaws.{drawn_pages, locked_pages}
use Rattle.engine_pages.specs.declared.layout.Layout.{Layout}
use Rattle.engine_pages.specs.declared.view.Role.{Role}
use Rattle.engine_pages.specs.declared.view.Role.TheVariants.{Worker}
use Rattle.engine_pages.specs.declared.view.View.{View}
use Rattle.page_records.specs.Attempts.{CanDraw, HasDrawn, attempt_of}
use Rattle.page_records.specs.Ends.{worker_of}
use Rattle.engine_pages.specs.Views.{IsActive}
use Rattle.page_commit.specs.Committing.{changes_of}
use Rattle.homes.specs.declared.places.Span.{Span}
use Rattle.engine_pages.specs.Pages.{is_array}
use Rattle.engine_pages.specs.Pointers.{WaysAgree}
use Rattle.page_records.specs.Locks.{IsOpenWord}
use Rattle.serial_model.specs.declared.key.Key.{Key}
use Rattle.engine_pages.specs.Steps.{kept_at, seen_at}
use Rattle.page_commit.specs.Places.{ground, Ground, IsAnyKeyIn, IsKeyIn, IsPointerIn, IsTreeKeyIn}
use Rattle.page_commit.specs.Live.{read_word, AreMet, ArePointersMet, IsLive, IsMetPointer, IsWriteOf}
use Rattle.page_commit.specs.Steps.{keys_of, tooks_of, AreAsRead, AreSmall, HasLocked, HasTried, IsFree, IsUnkept}
use Rattle.page_commit.specs.Steps.{StaysAside}
use Rattle.page_commit.proofs.CheckLaws.{number_open}
use Rattle.page_commit.specs.HeaderParts.{AreHeaders}
use Rattle.page_commit.proofs.HeaderLaws.{head_clear, headers_aside, tree_unkept}
use Rattle.page_commit.proofs.AnyPlaces.{any_no_pointer, any_one_key}
use Rattle.page_commit.proofs.PlaceLaws.{key_array}
use Rattle.page_commit.proofs.StayLaws.{grounds, parts_stay, writes_stay}

-- ---- before the locks

pub active_worker : (role : Role) → role ≡ Worker (worker_of role) → IsActive role
active_worker role is = subst IsActive (sym is) tt

pub is_free : (sets : Sets) (v : View) → IsLive sets v → IsFree v
is_free sets v live = record {
  worker = live.worker;
  locks = live.locks;
  took = live.took;
  stage = live.stage;
}

some_is : (a c : ℕ) → Some a ≡ Some c → a ≡ c
some_is a c same = cc

found_by : (f : ReadEntry) (reads : List ReadEntry) (at n : ℕ) (b : Bool) → (f.at == at) ≡ b
    → read_word at (f ∷ reads) ≡ Some n
    → (read_word at reads ≡ Some n → (e : ReadEntry) × Contains reads e × (e.word ≡ n) × (e.at ≡ at))
    → (e : ReadEntry) × Contains (f ∷ reads) e × (e.word ≡ n) × (e.at ≡ at)
found_by f reads at n true hit is rest = (
  f,
  in_head f reads,
  some_is f.word n (sym (ap (λ b. option_map (λ (x : ReadEntry). x.word)
      (cond b (Some f) (find (λ (x : ReadEntry). x.at == at) reads))) hit) ∙ is),
  eqb-true f.at at hit,
)
found_by f reads at n false miss is rest =
    let later = rest (sym (ap (λ b. option_map (λ (x : ReadEntry). x.word)
    (cond b (Some f) (find (λ (x : ReadEntry). x.at == at) reads))) miss) ∙ is) in
    (later.0, in_tail later.0 f reads later.1, later.2, later.3)

pub idle_live : (sets : Sets) (v : View) → IsLive sets v → can_begin v.seat.stage ≡ true
idle_live sets v live = ap can_begin live.stage

-- a word that was read is that of an entry
pub found_entry : (reads : List ReadEntry) (at n : ℕ) → read_word at reads ≡ Some n
    → (e : ReadEntry) × Contains reads e × (e.word ≡ n) × (e.at ≡ at)
found_entry [] at n is = absurd cc
found_entry (f ∷ reads) at n is = found_by f reads at n (f.at == at) refl is (found_entry reads at n)

-- the words that were read had no lock
pub are_small : (sets : Sets) (v : View) → IsLive sets v → AreSmall sets.reads (ground v)
are_small sets v live k at n place is =
    let e = found_entry sets.reads at n is in
    let p = live.parts.reads e.0 e.1 in
    let key : (e.0).key ≡ k =
    any_one_key (ground v) (e.0).key k at live.agree live.trees.known
    (subst (IsAnyKeyIn (ground v) (e.0).key) e.3 p.2.place) place in
    let small = number_open v.layout.decls (e.0).key p.2.content (e.0).word p.2.shown in (
      subst IsOpenWord e.2 small.0,
      λ array. subst (λ m. m < 2 ^ 60) e.2
          (small.1 (subst (λ (q : Key). is_array v.layout.decls q.storage ≡ true) (sym key) array)),
    )

-- nothing is kept of the words of trees' records that are to be written
pub are_unkept : (sets : Sets) (v : View) → IsLive sets v → AllByRecursion (IsUnkept v) sets.writes
are_unkept sets v live = each sets.writes live.writes
  where
    by_place : (w : Write) → IsAnyKeyIn (ground v) w.key w.at → is_array v.layout.decls w.key.storage ≡ false
        → kept_at v.reads w.at ≡ None
    by_place w (inl p) tree = absurd (true≢false (sym (key_array (ground v) w.key w.at p) ∙ tree))
    by_place w (inr p) tree = tree_unkept sets v v.seat.kept w.key w.at live.parts live.agree live.trees live.only p

    each : (ws : List Write) → AllByRecursion (IsWriteOf (ground v)) ws → AllByRecursion (IsUnkept v) ws
    each [] all = tt
    each (w ∷ ws) all = (by_place w all.0.place, each ws all.1)

-- ---- the locks are the keys of the changes

key_locked : (ws : List Write) (w : Write) → Contains ws w → has_key (keys_of ws) w.key ≡ true
key_locked [] w in' = absurd (in_none w in')
key_locked (x ∷ xs) w in' =
    elim (in_cases w x xs in') [
      | inl same ↦ or_left (same_key x.key w.key) (has_key (keys_of xs) w.key)
          (subst (λ (y : Write). same_key x.key y.key ≡ true) same (same_key-self x.key))
      | inr later ↦ or_right (same_key x.key w.key) (has_key (keys_of xs) w.key) (key_locked xs w later)
    ]

key_written : (ws : List Write) (w : Write) → Contains ws w → writes_key (changes_of ws) w.key ≡ true
key_written [] w in' = absurd (in_none w in')
key_written (x ∷ xs) w in' =
    elim (cases_Bool (same_key x.key w.key)) [
      | inl hit ↦ ap at hit
      | inr miss ↦ ap at miss ∙ elim (in_cases w x xs in') [
        | inl same ↦ absurd (true≢false
            (sym (subst (λ (y : Write). same_key x.key y.key ≡ true) same (same_key-self x.key)) ∙ miss))
        | inr later ↦ key_written xs w later
      ]
    ]
  where
    at : Bool → Bool
    at b = is_some (option_map (λ (y : Change). y.value) (cond b (Some (record { key = x.key; value = x.value }))
        (find (λ (y : Change). same_key y.key w.key) (changes_of xs))))

all_map : {A : Type 0} (f : A → Bool) (g : Write → A) (ws : List Write) → ((w : Write) → Contains ws w → f (g w) ≡ true)
    → list_all f (map g ws) ≡ true
all_map f g [] h = refl
all_map f g (x ∷ xs) h =
    and_from (f (g x)) (list_all f (map g xs)) (h x (in_head x xs)) (all_map f g xs (λ w m. h w (in_tail w x xs m)))

pub same_keys_of : (ws : List Write) → same_keys (keys_of ws) (changes_of ws) ≡ true
same_keys_of ws =
    and_from (list_all (λ k. writes_key (changes_of ws) k) (keys_of ws))
    (list_all (λ (w : Change). has_key (keys_of ws) w.key) (changes_of ws))
    (all_map (λ k. writes_key (changes_of ws) k) (λ (w : Write). w.key) ws (λ w m. key_written ws w m))
    (all_map (λ (x : Change). has_key (keys_of ws) x.key) (λ (w : Write). record { key = w.key; value = w.value }) ws
    (λ w m. key_locked ws w m))

values_are : (g : Ground) (ws : List Write) → AllByRecursion (IsWriteOf g) ws → (c : Change)
    → Contains (changes_of ws) c → is_array g.layout.decls c.key.storage ≡ true → is_some c.value ≡ true
values_are g [] all c in' = absurd (in_none c in')
values_are g (x ∷ xs) all c in' =
    elim (in_cases c (record { key = x.key; value = x.value }) (changes_of xs) in') [
      | inl same ↦ subst (λ (y : Change). is_array g.layout.decls y.key.storage ≡ true → is_some y.value ≡ true) same
          all.0.value
      | inr later ↦ values_are g xs all.1 c later
    ]

pub can_draw : (sets : Sets) (found : List ℕ) (changes : List Change) (v w : View) → IsLive sets v
    → HasLocked sets.writes found v w → changes ≡ changes_of sets.writes → CanDraw changes w
can_draw sets found changes v w live h is = record {
  due = ap (λ (y : View). y.due) h.is ∙ live.due;
  idle = ap (λ (y : View). can_begin y.seat.stage) h.is ∙ ap can_begin live.stage;
  locked = ap (λ (y : View). same_keys y.seat.locks changes) h.is
      ∙ (ap (same_keys (keys_of sets.writes)) is ∙ same_keys_of sets.writes);
  values = λ c in' array. values_are (ground v) sets.writes live.writes c
      (subst (λ (l : List Change). Contains l c) is in')
      (subst (λ (l : Layout). is_array l.decls c.key.storage ≡ true) (ap (λ (y : View). y.layout) h.is) array);
}

pub active_locked : (ws : List Write) (found : List ℕ) (v w : View) → IsActive v.role → HasLocked ws found v w
    → IsActive w.role
active_locked ws found v w active h = subst IsActive (sym (ap (λ (y : View). y.role) h.is)) active

-- ---- the draw

-- what is known of the words of records and pointers, behind the locks
still_met : (sets : Sets) (v w : View) → IsLive sets v → w.layout ≡ v.layout → w.ways ≡ v.ways → w.known ≡ v.known
    → w.inners ≡ v.inners
    → StaysAside sets.writes v w → AreMet sets.reads sets.writes w
still_met sets v w live layout ways known inners aside = record {
  arrays = λ k at place clear.
      aside at clear
      ∙ live.met.arrays k at
      (subst (λ (g : Ground). IsKeyIn g k at) (grounds w v layout ways known inners) place) refl;
  trees = λ k at n place clear read.
      aside at clear
      ∙ live.met.trees k at n
      (subst (λ (g : Ground). IsTreeKeyIn g k at) (grounds w v layout ways known inners) place) refl read;
}

still_points : (sets : Sets) (v w : View) → IsLive sets v → StaysAside sets.writes v w → ArePointersMet sets.pointers w
still_points sets v w live aside p in' =
    aside p.at (clear_of (live.parts.pointers p in')) ∙ live.points p in'
  where
    all_clear : (sp : Span) (ws : List Write) → AllByRecursion (IsWriteOf (ground v)) ws → IsPointerIn (ground v) sp p.at
        → writes_at p.at ws ≡ false
    all_clear sp [] all place = refl
    all_clear sp (q ∷ ws) all place =
        or_from (q.at == p.at) (writes_at p.at ws)
        (ne_eqb q.at p.at (λ same. any_no_pointer v q.key sp p.at live.agree live.trees
        (subst (IsAnyKeyIn (ground v) q.key) same all.0.place) place))
        (all_clear sp ws all.1 place)

    clear_of : (part : Part) × Contains v.seat.kept part × IsMetPointer v p part → writes_at p.at sets.writes ≡ false
    clear_of r = all_clear r.2.span sets.writes live.writes r.2.place

still_heads : (sets : Sets) (v w : View) → IsLive sets v → StaysAside sets.writes v w
    → ((at : ℕ) → kept_at w.reads at ≡ kept_at v.reads at) → AreHeaders sets.headers w
still_heads sets v w live aside kept =
    headers_aside sets.headers v w (λ h has.
    let r = live.parts.headers h has in (
      aside h.at (head_clear (ground v) h r.0 sets.writes live.agree r.2 live.writes),
      kept h.at,
    )) live.headers

pub is_tried : (sets : Sets) (found : List ℕ) (changes : List Change) (n : ℕ) (v w x : View) → IsLive sets v
    → HasLocked sets.writes found v w → AreAsRead sets.reads sets.writes found → StaysAside sets.writes v w
    → HasDrawn changes w n x → HasTried sets x
is_tried sets found changes n v w x live h are aside d =
    let a : Attempt = attempt_of w d.number changes in
    let layout : x.layout ≡ v.layout = ap (λ (y : View). y.layout) d.is ∙ ap (λ (y : View). y.layout) h.is in
    let ways : x.ways ≡ v.ways = ap (λ (y : View). y.ways) d.is ∙ ap (λ (y : View). y.ways) h.is in
    let known : x.known ≡ v.known = ap (λ (y : View). y.known) d.is ∙ ap (λ (y : View). y.known) h.is in
    let inners : x.inners ≡ v.inners = ap (λ (y : View). y.inners) d.is ∙ ap (λ (y : View). y.inners) h.is in
    let leads : x.leads ≡ v.leads = ap (λ (y : View). y.leads) d.is ∙ ap (λ (y : View). y.leads) h.is in
    let pages : x.pages ≡ v.pages = ap (λ (y : View). y.pages) d.is ∙ ap (λ (y : View). y.pages) h.is in
    let reads : x.reads ≡ w.reads = ap (λ (y : View). y.reads) d.is in
    let kept : w.seat.kept ≡ v.seat.kept = ap (λ (y : View). y.seat.kept) h.is in
    let aside' : StaysAside sets.writes v x = λ at clear. ap (λ l. seen_at l at) reads ∙ aside at clear in record {
      worker = subst (λ (r : Role). r ≡ Worker (worker_of r))
          (sym (ap (λ (y : View). y.role) d.is ∙ ap (λ (y : View). y.role) h.is)) live.worker;
      index = length d.all;
      attempt = a;
      stage = ap (λ (y : View). y.seat.stage) d.is;
      at = ap (λ (y : View). slice_get y.history (length d.all)) d.is ∙ at_push_new d.all a;
      gone = ap (λ (y : View). y.gone) d.is ∙ (ap (λ (y : View). y.gone) h.is ∙ live.gone);
      unheld = ap (λ (y : View). y.heads) d.is ∙ (ap (λ (y : View). y.heads) h.is ∙ live.holds.heads);
      agree = subst WaysAgree (sym ways) live.agree;
      trees = trees_stay v x (same_then v w x (locked_pages sets.writes found v w h) (drawn_pages changes n w x d)) live.trees;
      parts = parts_stay sets v x a.parts kept layout ways known inners leads pages live.parts;
      checked = ap (λ (y : View). y.checked) d.is;
      places = writes_stay sets.writes v x layout ways known inners live.writes;
      found = found;
      count = h.count;
      took = ap (λ (y : View). y.took) d.is ∙ (ap (λ (y : View). y.took) h.is
          ∙ ap (λ (l : Layout). tooks_of l sets.writes found) (sym layout));
      read = are;
      met = still_met sets v x live layout ways known inners aside';
      points = still_points sets v x live aside';
      heads = still_heads sets v x live aside' (λ at. ap (λ l. kept_at l at) reads
          ∙ (ap (λ (y : View). kept_at y.reads at) h.is ∙ h.kept at));
      only = λ at m is. live.only at m (sym (ap (λ l. kept_at l at) reads
          ∙ (ap (λ (y : View). kept_at y.reads at) h.is ∙ h.kept at)) ∙ is);
    }
