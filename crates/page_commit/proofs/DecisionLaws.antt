-- What is decided is the attempt that was drawn, and what a commit leaves behind it.
use Rattle.std.proofs.Common.{◌≡◌, inl, inr, ℕ, zero, suc, ◌+◌, ◌<◌, ◌≤◌, List, [], ◌∷◌, ◌++◌, length, Some, refl}
use Rattle.std.proofs.Common.{sym, ap, ◌∙◌, subst, arith}
use Rattle.std.specs.Prelude.{Contains}
use Rattle.std.specs.List.{slice_get}
use Rattle.lists.specs.Elements.{in_none, in_head, in_tail, in_cases, at_push_new, at_in}
use Rattle.lists.specs.Fronts.{IsFront, front_then, front_append}
use Rattle.serial_model.specs.declared.number.Change.{Change}
use Rattle.serial_model.specs.declared.number.Number.{Number}
use Rattle.serial_model.specs.Numbers.{IsBelow}
use Rattle.commit_core.specs.declared.attempt.Attempt.{Attempt}
use Rattle.commit_core.specs.declared.seat.Seat.{Seat}
use Rattle.commit_core.specs.declared.seat.Stage.{Stage}
use Rattle.commit_core.specs.declared.seat.Stage.TheVariants.{Trying, Decided}
use Rattle.commit_core.specs.CoreState.{mark_of, settled}
use Rattle.commit_core.specs.Event.{decided_stage}
use Rattle.commit_core.specs.Serial.{ReadsFrom, state_below}
use Rattle.tx_sets.specs.declared.sets.Sets.{Sets}
use Rattle.tx_sets.specs.declared.writes.Write.{Write}
use Rattle.engine_pages.specs.declared.layout.Layout.{Layout}
use Rattle.engine_pages.specs.declared.view.Role.{Role}
use Rattle.engine_pages.specs.declared.view.Role.TheVariants.{Worker}
use Rattle.engine_pages.specs.declared.view.View.{View}
use Rattle.page_records.specs.Attempts.{HasDrawn, HasChosen, attempt_of}
use Rattle.page_records.specs.Ends.{worker_of}
use Rattle.engine_pages.specs.Words.{IsSmall}
use Rattle.engine_pages.specs.Views.{seat_number, IsResting}
use Rattle.page_commit.specs.Committing.{changes_of, touches_of, HasCommitted}
use Rattle.page_commit.specs.Live.{IsLive}
use Rattle.page_commit.specs.Steps.{keys_of, HasLocked, HasChecked, HasDecided, HasPublished, tooks_of, HasLeft}
use Rattle.page_commit.proofs.Settling.{settled_locks, settled_marks, settled_open, settled_last}
use Rattle.engine_pages.specs.Pointers.{WaysAgree}
use Rattle.page_commit.proofs.LeaveLaws.{holds_stay, left_agree, left_holds, same_then, SamePages}
use Rattle.page_commit.proofs.LeaveLaws.{left_trees, trees_stay}
use Rattle.page_commit.proofs.PageLaws.{checked_pages, chosen_pages, drawn_pages, locked_pages, published_pages}

-- ---- the decision

-- what was decided is the attempt that was drawn
pub record IsChosen (changes : List Change) (found : List ℕ) (ws : List Write) (n : ℕ) (v x z : View) (a : Attempt) :
    Type 0 where
  pub decided : HasDecided ws found n z
  pub drawn : Contains z.history a
  pub front : IsFront x.history z.history
  pub fronts : IsFront x.decided z.decided
  pub earlier : List Number
  pub counts : z.decided ≡ earlier ++ a.number ∷ []
  pub mine : z.mine ≡ x.mine ++ a ∷ []
  pub draws : z.draws ≡ x.draws
  pub reads : ReadsFrom (state_below x.layout.opening z.history z.decided a.number) a
  pub layout : z.layout ≡ x.layout
  pub role : z.role ≡ x.role
  pub due : z.due ≡ x.due
  pub refused : z.refused ≡ x.refused
  pub touched : z.touched ≡ x.touched
  pub blamed : z.blamed ≡ x.blamed
  pub written : changes ≡ changes_of ws
  pub marks : z.seat.marks ≡ x.seat.marks
  pub pages : SamePages x z

trying_is : (i j : ℕ) (s : Stage) → s ≡ Trying i → s ≡ Trying j → i ≡ j
trying_is i j s is is' = cc

attempt_is : (h : List Attempt) (i j : ℕ) (a b : Attempt) → i ≡ j → slice_get h i ≡ Some a → slice_get h j ≡ Some b → a
    ≡ b
attempt_is h i j a b same at at' = cc

front_at : (h more : List Attempt) (i : ℕ) (a : Attempt) → slice_get h i ≡ Some a → slice_get (h ++ more) i ≡ Some a
front_at [] more i a at = absurd cc
front_at (x ∷ h) more zero a at = at
front_at (x ∷ h) more (suc i) a at = front_at h more i a at

at_front : (h l : List Attempt) (i : ℕ) (a : Attempt) → IsFront h l → slice_get h i ≡ Some a → slice_get l i ≡ Some a
at_front h l i a front at =
    subst (λ (y : List Attempt). slice_get y i ≡ Some a) (Rattle.lists.specs.Fronts.front_rest h l front)
    (front_at h (Rattle.std.proofs.Common.drop (length h) l) i a at)

pub is_chosen : (sets : Sets) (found : List ℕ) (changes : List Change) (n m : ℕ) (v w x y z : View) → IsLive sets v
    → HasLocked sets.writes found v w → (d : HasDrawn changes w n x) → changes ≡ changes_of sets.writes → HasChecked x y
    → HasChosen y m z → IsChosen changes found sets.writes n v x z (attempt_of w d.number changes)
is_chosen sets found changes n m v w x y z live h d is k c =
    let a : Attempt = attempt_of w d.number changes in
    let stage : y.seat.stage ≡ Trying (length d.all) =
    ap (λ (u : View). u.seat.stage) k.is ∙ ap (λ (u : View). u.seat.stage) d.is in
    let index : c.index ≡ length d.all = trying_is c.index (length d.all) y.seat.stage c.stage stage in
    let at : slice_get y.history (length d.all) ≡ Some a =
    ap (λ (u : View). slice_get u.history (length d.all)) k.is
    ∙ (ap (λ (u : View). slice_get u.history (length d.all)) d.is ∙ at_push_new d.all a) in
    let same : c.attempt ≡ a = attempt_is y.history c.index (length d.all) c.attempt a index c.at at in
    let s : Seat = record y.seat { put = []; stage = decided_stage y.seat.stage } in
    let locks : y.seat.locks ≡ keys_of sets.writes =
    ap (λ (u : View). u.seat.locks) k.is ∙ (ap (λ (u : View). u.seat.locks) d.is
    ∙ ap (λ (u : View). u.seat.locks) h.is) in
    let decided : s.stage ≡ Decided (length d.all) = ap decided_stage stage in
    let history : z.history ≡ c.history = ap (λ (u : View). u.history) c.is in
    let there : slice_get z.history (length d.all) ≡ Some a =
    ap (λ l. slice_get l (length d.all)) history ∙ at_front y.history c.history (length d.all) a c.drawn at in record {
      decided = record {
        index = length d.all;
        attempt = a;
        at = there;
        writes_are = is;
        word = sym d.found;
        small = d.small;
        locks = ap (λ (u : View). u.seat.locks) c.is ∙ (settled_locks s ∙ locks);
        took = ap (λ (u : View). u.took) c.is ∙ (ap (λ (u : View). u.took) k.is
            ∙ (ap (λ (u : View). u.took) d.is ∙ (ap (λ (u : View). u.took) h.is
            ∙ ap (λ (l : Layout). tooks_of l sets.writes found) (sym (ap (λ (u : View). u.layout) c.is
            ∙ (ap (λ (u : View). u.layout) k.is ∙ (ap (λ (u : View). u.layout) d.is ∙ ap (λ (u : View). u.layout) h.is)))))));
        count = h.count;
        begun = λ some. ap (λ (u : View). u.seat.stage) c.is ∙ (by_some sets.writes some s locks ∙ decided);
        over = λ none.
            let last = settled_last s (length d.all) (locks ∙ no_keys sets.writes none) decided in (
              ap (λ (u : View). u.seat.kept) c.is ∙ ap (λ (q : Seat). q.kept) last,
              ap (λ (u : View). u.seat.stage) c.is ∙ ap (λ (q : Seat). q.stage) last,
            );
      };
      drawn = at_in z.history (length d.all) a there;
      front = subst (λ (l : List Attempt). IsFront x.history l) (sym history)
          (subst (λ (l : List Attempt). IsFront l c.history) (ap (λ (u : View). u.history) k.is) c.drawn);
      fronts = subst (λ (u : View). IsFront x.decided u.decided) (sym c.is)
          (front_then x.decided c.decided (c.decided ++ c.attempt.number ∷ [])
          (subst (λ (l : List Number). IsFront l c.decided) (ap (λ (u : View). u.decided) k.is) c.seen)
          (front_append c.decided (c.attempt.number ∷ [])));
      earlier = c.decided;
      counts = ap (λ (u : View). u.decided) c.is ∙ ap (λ (b : Attempt). c.decided ++ b.number ∷ []) same;
      mine = ap (λ (u : View). u.mine) c.is ∙ (ap (λ l. l ++ c.attempt ∷ []) (ap (λ (u : View). u.mine) k.is)
          ∙ ap (λ (b : Attempt). x.mine ++ b ∷ []) same);
      draws = ap (λ (u : View). u.draws) c.is ∙ ap (λ (u : View). u.draws) k.is;
      reads =
          let was : ReadsFrom (state_below x.layout.opening c.history (c.decided ++ c.attempt.number ∷ [])
          c.attempt.number) c.attempt =
          subst (λ (l : Layout). ReadsFrom (state_below l.opening c.history (c.decided ++ c.attempt.number ∷ [])
          c.attempt.number) c.attempt)
          (ap (λ (u : View). u.layout) k.is) c.reads in
          subst (λ (u : View). ReadsFrom (state_below x.layout.opening u.history u.decided a.number) a) (sym c.is)
          (subst (λ (b : Attempt). ReadsFrom (state_below x.layout.opening c.history (c.decided
          ++ c.attempt.number ∷ []) b.number) b) same was);
      layout = ap (λ (u : View). u.layout) c.is ∙ ap (λ (u : View). u.layout) k.is;
      role = ap (λ (u : View). u.role) c.is ∙ ap (λ (u : View). u.role) k.is;
      due = ap (λ (u : View). u.due) c.is ∙ ap (λ (u : View). u.due) k.is;
      refused = ap (λ (u : View). u.refused) c.is ∙ ap (λ (u : View). u.refused) k.is;
      touched = ap (λ (u : View). u.touched) c.is ∙ ap (λ (u : View). u.touched) k.is;
      blamed = ap (λ (u : View). u.blamed) c.is ∙ ap (λ (u : View). u.blamed) k.is;
      written = is;
      marks = ap (λ (u : View). u.seat.marks) c.is ∙ (settled_marks s ∙ ap (λ (u : View). u.seat.marks) k.is);
      pages = same_then x y z (checked_pages x y k) (chosen_pages m y z c);
    }
  where
    no_keys : (l : List Write) → length l ≡ 0 → keys_of l ≡ []
    no_keys [] e = refl
    no_keys (q ∷ l) e = absurd (omega arith)

    by_some : (l : List Write) → 0 < length l → (s : Seat) → s.locks ≡ keys_of l → (settled s).stage ≡ s.stage
    by_some [] some s locks = absurd (omega arith)
    by_some (q ∷ l) some s locks = ap (λ (t : Seat). t.stage) (settled_open s q.key (keys_of l) locks)

-- ---- all of it

in_append : (f more : List Attempt) (b : Attempt) → Contains f b → Contains (f ++ more) b
in_append [] more b in' = absurd (in_none b in')
in_append (q ∷ f) more b in' =
    elim (in_cases b q f in') [
      | inl same ↦ subst (λ (y : Attempt). Contains (q ∷ (f ++ more)) y) same (in_head q (f ++ more))
      | inr later ↦ in_tail b q (f ++ more) (in_append f more b later)
    ]

pub committed : (sets : Sets) (found : List ℕ) (changes : List Change) (n : ℕ) (number : Number) (v w x z u t : View)
    → IsLive sets v → HasLocked sets.writes found v w → (d : HasDrawn changes w n x) → number ≡ d.number
    → IsChosen changes found sets.writes n v x z (attempt_of w d.number changes) → HasPublished z u → HasLeft u t
    → HasCommitted changes number v t
committed sets found changes n number v w x z u t live h d is c p l =
    let a : Attempt = attempt_of w d.number changes in
    let numbered : a.number ≡ number = sym is in
    let layout : x.layout ≡ v.layout = ap (λ (y : View). y.layout) d.is ∙ ap (λ (y : View). y.layout) h.is in
    let layout' : t.layout ≡ v.layout = ap (λ (y : View). y.layout) l.is ∙ (ap (λ (y : View). y.layout) p.is ∙ (c.layout ∙ layout)) in
    let role : x.role ≡ v.role = ap (λ (y : View). y.role) d.is ∙ ap (λ (y : View). y.role) h.is in
    let role' : t.role ≡ v.role = ap (λ (y : View). y.role) l.is ∙ (ap (λ (y : View). y.role) p.is ∙ (c.role ∙ role)) in
    let history : t.history ≡ z.history = ap (λ (y : View). y.history) l.is ∙ ap (λ (y : View). y.history) p.is in
    let decided : t.decided ≡ z.decided = ap (λ (y : View). y.decided) l.is ∙ ap (λ (y : View). y.decided) p.is in
    let pages : SamePages v u = same_then v w u (locked_pages sets.writes found v w h) (same_then w x u
    (drawn_pages changes n w x d) (same_then x z u c.pages (published_pages z u p))) in
    let was : IsFront v.history d.all = subst (λ (li : List Attempt). IsFront li d.all)
    (ap (λ (y : View). y.history) h.is) d.seen in
    let drawn : IsFront v.history x.history =
    subst (λ (y : View). IsFront v.history y.history) (sym d.is)
    (front_then v.history d.all (d.all ++ a ∷ []) was (front_append d.all (a ∷ []))) in record {
      over = record {
        decls = subst (λ (y : Layout). Rattle.serial_model.specs.Decls.AreDecls y.decls) (sym layout') live.decls;
        worker = subst (λ (r : Role). r ≡ Worker (worker_of r)) (sym role') live.worker;
        due = ap (λ (y : View). y.due) l.is ∙ (ap (λ (y : View). y.due) p.is ∙ (c.due ∙ ap (λ (y : View). y.due) d.is));
        took = ap (λ (y : View). y.took) l.is ∙ ap (λ (y : View). y.took) p.is;
        seat = subst (λ (y : View). IsResting y.seat) (sym l.is) (subst (λ (y : View). IsResting y.seat) (sym p.is) record {
          kept = p.kept;
          locks = p.locks;
          stage = p.stage;
        });
        agree = left_agree u t (subst WaysAgree (sym pages.ways) live.agree) l;
        trees = left_trees u t (trees_stay v u pages live.trees) l;
        holds = left_holds sets.holds u t (holds_stay sets.holds v u pages live.holds) l;
      };
      layout = layout';
      role = role';
      attempt = a;
      numbered = numbered;
      seat = ap (λ (y : View). seat_number y.role) h.is;
      parts = ap (λ (y : View). y.seat.kept) h.is;
      writes = refl;
      seen = record {
        history = subst (λ (li : List Attempt). IsFront v.history li) (sym history)
            (front_then v.history x.history z.history drawn c.front);
        decided = subst (λ (li : List Number). IsFront v.decided li) (sym decided)
            (subst (λ (li : List Number). IsFront li z.decided)
            (ap (λ (y : View). y.decided) d.is ∙ ap (λ (y : View). y.decided) h.is) c.fronts);
      };
      drawn = subst (λ (li : List Attempt). Contains li a) (sym history) c.drawn;
      all = d.all;
      order = subst (λ (li : List Attempt). IsFront (d.all ++ a ∷ []) li) (sym history)
          (subst (λ (li : List Attempt). IsFront li z.history) (ap (λ (y : View). y.history) d.is) c.front);
      draw = sym (ap (λ (m : Number). m.draw) numbered)
          ∙ (d.draw ∙ ap (λ (y : View). y.layout.first.draw + length d.all) h.is);
      earlier = c.earlier;
      decided = decided ∙ (c.counts ∙ ap (λ (m : Number). c.earlier ++ m ∷ []) numbered);
      mine = ap (λ (y : View). y.mine) l.is ∙ (ap (λ (y : View). y.mine) p.is ∙ (c.mine ∙ ap (λ li. li ++ a ∷ [])
          (ap (λ (y : View). y.mine) d.is ∙ ap (λ (y : View). y.mine) h.is)));
      draws = ap (λ (y : View). y.draws) l.is ∙ (ap (λ (y : View). y.draws) p.is ∙ (c.draws ∙ (ap (λ (y : View). y.draws) d.is
          ∙ ap (λ (y : View). y.draws + 1) h.is)));
      above = λ b in'. subst (IsBelow b.number) numbered (d.above b (in_front v.history d.all b was in'));
      reads =
          let base = subst (λ (y : Layout). ReadsFrom (state_below y.opening z.history z.decided a.number) a) layout
          c.reads in
          subst (λ (m : Number). ReadsFrom (state_below v.layout.opening t.history t.decided m) a) numbered
          (subst (λ (y : View). ReadsFrom (state_below v.layout.opening y.history y.decided a.number) a) (sym l.is)
          (subst (λ (y : View). ReadsFrom (state_below v.layout.opening y.history y.decided a.number) a) (sym p.is)
          base));
      epoch = subst (λ (m : Number). v.epoch ≤ m.epoch) (sym is)
          (subst (λ (y : View). y.epoch ≤ d.number.epoch) h.is d.epoch);
      small = subst IsSmall numbered d.small;
      marked = λ e known. subst (λ (m : Number). e < m.epoch) numbered
          (d.marked e (ap (λ (y : View). mark_of y.seat.marks) h.is ∙ known));
      marks = ap (λ (y : View). y.seat.marks) l.is ∙ (ap (λ (y : View). y.seat.marks) p.is ∙ (p.marks ∙ (c.marks
          ∙ (ap (λ (y : View). y.seat.marks) d.is ∙ ap (λ (y : View). y.seat.marks) h.is))));
      refused = ap (λ (y : View). y.refused) l.is ∙ (ap (λ (y : View). y.refused) p.is ∙ (c.refused
          ∙ (ap (λ (y : View). y.refused) d.is ∙ ap (λ (y : View). y.refused) h.is)));
      touched = ap (λ (y : View). y.touched) l.is ∙ (ap (λ (y : View). y.touched) p.is ∙ (c.touched
          ∙ (ap (λ (y : View). y.touched) d.is ∙ (ap (λ (y : View). y.touched) h.is
          ∙ ap (λ (li : List Change). v.touched ++ touches_of (seat_number v.role) li) (sym c.written)))));
      blamed = ap (λ (y : View). y.blamed) l.is ∙ (ap (λ (y : View). y.blamed) p.is ∙ (c.blamed
          ∙ (ap (λ (y : View). y.blamed) d.is ∙ ap (λ (y : View). y.blamed) h.is)));
    }
  where
    in_front : (f l : List Attempt) (b : Attempt) → IsFront f l → Contains f b → Contains l b
    in_front f l b front in' =
        subst (λ (y : List Attempt). Contains y b) (Rattle.lists.specs.Fronts.front_rest f l front)
        (in_append f (Rattle.std.proofs.Common.drop (length f) l) b in')
