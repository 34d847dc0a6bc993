-- The pass went over pages, one after another.
use Rattle.std.proofs.Common.{refl, sym, ap, ◌∙◌, arith}
use Rattle.lists.specs.Fronts.{front_refl, front_then}
use Rattle.engine_pages.specs.declared.view.View.{View}
use Rattle.page_drops.specs.Calls.{GoesOver, IsBare, WentOver, slots_on}
use Rattle.page_drops.proofs.Sights.{saw_self, saw_then}

pub went_then : (u v w : View) → WentOver u v → WentOver v w → WentOver u w
went_then u v w a b =
    b ∙ ap (λ (x : View). record x {
      steps = w.steps;
      last = w.last;
      reads = w.reads;
      history = w.history;
      decided = w.decided;
      touched = w.touched;
      loaded = w.loaded;
      known = w.known;
      moved = w.moved;
      inners = w.inners;
      swung = w.swung;
      copies = w.copies;
      blanks = w.blanks;
      new_leaves = w.new_leaves;
      new_inners = w.new_inners;
      pages = w.pages;
      leads = w.leads;
      gone = w.gone;
      kept = w.kept;
    }) a

pub over_self : (v : View) → GoesOver v v
over_self v =
    record { went = refl; later = omega arith; front = front_refl v.pages; leads = λ z has. has; more = saw_self v }

pub over_then : (u v w : View) → GoesOver u v → GoesOver v w → GoesOver u w
over_then u v w a b = record {
  went = went_then u v w a.went b.went;
  later = let one = a.later in let two = b.later in omega (arith, one, two);
  front = front_then u.pages v.pages w.pages a.front b.front;
  leads = λ z has. b.leads z (a.leads z has);
  more = saw_then u v w a.more b.more;
}

-- it has what it had
pub bare_over : (v w : View) → WentOver v w → IsBare v → IsBare w
bare_over v w went bare = record {
  keeper = ap (λ (x : View). x.role) went ∙ bare.keeper;
  idle = ap (λ (x : View). x.seat.stage) went ∙ bare.idle;
  holds = ap (λ (x : View). x.grip.holds) went ∙ (bare.holds ∙ sym (ap (λ (x : View). slots_on x.ways) went));
  made = ap (λ (x : View). x.grip.made) went ∙ bare.made;
  taken = ap (λ (x : View). x.grip.taken) went ∙ bare.taken;
  locks = ap (λ (x : View). x.seat.locks) went ∙ bare.locks;
  took = ap (λ (x : View). x.took) went ∙ bare.took;
  parts = ap (λ (x : View). x.seat.kept) went ∙ bare.parts;
  heads = ap (λ (x : View). x.heads) went ∙ bare.heads;
  shuts = ap (λ (x : View). x.shuts) went ∙ bare.shuts;
}
