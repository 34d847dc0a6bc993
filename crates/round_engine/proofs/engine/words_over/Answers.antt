-- Words open with the pages of the newest snapshot, which have the state.
use Rattle.std.proofs.lemmas.Result.{IfOk-weaker}
use Rattle.std.proofs.Common.{◌∙◌, ◌-◌, ap, false, subst, sym, List, [], Some, replicate, length}
use Rattle.serial_model.specs.State.{State}
use Rattle.serial_model.specs.declared.decl.Decl.{Decl}
use Rattle.wire_form.specs.declared.records.Stored.{Stored}
use Rattle.snapshot_store.specs.Content.{words_of}
use Rattle.commit_core.specs.Keys.{content_at}
use Rattle.engine_pages.specs.declared.layout.Layout.{Layout}
use Rattle.page_opening.specs.Making.{CanMake}
use Rattle.shared_rounds.specs.Lines.{standing}
use Rattle.shared_rounds.specs.SharedState.{SharedState, opened}
use Rattle.round_engine.specs.Begun.{begins_at}
use Rattle.round_engine.specs.FirstRecords.{first_layout, stands_in}
use Rattle.round_engine.proofs.Opened.{starts}
use Rattle.round_engine.proofs.engine.words_over.Goals as goal

pub newest_start-requires : goal.newest_start-requires
newest_start-requires c = (c.requires.snapshot.0, c.requires.snapshot.1.stands.here)

-- an engine over these, on which nothing was run
abbrev unused : Layout → SharedState
unused l = record {
  decls = l.decls;
  state = opened l.opening;
  opening = l.opening;
  clock = l.first;
  mine = [];
  refused = [];
  met = [];
  marks = replicate 8 (record { epoch = Some (l.first.epoch - 1); length = 0 });
  slots = l.slots;
  pages = l.pages;
  resident = l.resident;
  drops = [];
}

pub new-requires-clause-can : goal.new-requires-clause-can
new-requires-clause-can c =
    let is = c.requires.snapshot.1 in
    let made = c.in_ok-start.ensures in
    let contents = c.requires.snapshot.0 in
    let pages = c.args.store.now.pages in
    let same = made.start_is
    ∙ (ap (λ (ds : List Decl). first_layout c.args.first ds made.storages c.args.slots c.args.room pages)
    (c.in_ok-copy.ensures ∙ c.as_slice.ensures)
    ∙ ap (λ (ss : List Stored). first_layout c.args.first c.args.decls ss c.args.slots c.args.room pages) (made.are contents is.stands.here)) in
    let so = starts pages contents c.args.decls c.args.state c.args.first c.args.slots c.args.room c.requires.within
    c.requires.most_room c.requires.some_slots
    c.requires.most_slots c.requires.decls c.requires.first is in
    subst CanMake (sym same) so.can

pub new-requires-clause-decls : goal.new-requires-clause-decls
new-requires-clause-decls c =
    sym (ap (λ (l : Layout). l.decls) c.in_ok-start.ensures.start_is ∙ (c.in_ok-copy.ensures ∙ c.as_slice.ensures))

pub returns : goal.returns
returns c =
    let is = c.requires.snapshot.1 in
    let made = c.in_ok-start.ensures in
    let contents = c.requires.snapshot.0 in
    let pages = c.args.store.now.pages in
    let first = c.args.first in
    let decls = c.args.decls in
    let slots = c.args.slots in
    let room = c.args.room in
    let same = made.start_is
    ∙ (ap (λ (ds : List Decl). first_layout first ds made.storages slots room pages) (c.in_ok-copy.ensures ∙ c.as_slice.ensures)
    ∙ ap (λ (ss : List Stored). first_layout first decls ss slots room pages) (made.are contents is.stands.here)) in
    let so = starts pages contents decls c.args.state first slots room c.requires.within c.requires.most_room
    c.requires.some_slots c.requires.most_slots
    c.requires.decls c.requires.first is in
    let l : Layout = first_layout first decls contents.storages slots room pages in
    IfOk-weaker c.new.result _ _ (λ words begins. let engine = begins ∙ ap unused same in record {
      stands = ap (standing false) engine
          ∙ (ap (λ (s : State). begins_at decls s (standing false (unused l)) first) so.state_is
          ∙ ap (λ (e : SharedState). begins_at decls c.args.state (standing false e) first) (sym engine));
      opens = λ others stands key.
          ap (λ (e : SharedState). content_at e.opening key) engine
          ∙ (so.opens key
          ∙ ap (λ (ss : List Stored). stands_in (words_of pages) ss key)
          (sym (made.are contents is.stands.here) ∙ made.are others stands.here));
      slots_are = ap (λ (e : SharedState). e.slots) engine;
      pages_are = (
        ap (λ (e : SharedState). e.pages) engine,
        ap (λ (e : SharedState). e.resident) engine,
      );
    }) c.new.ensures.begins
