use Rattle.std.proofs.Common.{◌≡◌, ℕ, List, length, sym, ap, ◌∙◌, subst}
use Rattle.std.specs.Prelude.{OnOk, Err}
use Rattle.std.specs.List.{Contains}
use Rattle.sg_coord.specs.declared.coord.Coord.{Coord}
use Rattle.sg_layout.specs.declared.shape.Kind.TheVariants.{Dense, Dynamic}
use Rattle.sg_layout.specs.NeedLaws.{IsNumberedNode}
use Rattle.sg_layout.specs.Axes.{count_of}
use Rattle.sg_dynamic.specs.Chunks.{fit}
use Rattle.sg_dynamic.specs.Raising.{old_lengths, worker_of}
use Rattle.sg_store.specs.Opening.{lengths_of, CanSettleLengths, WantedAreBelow, NewLengthsAreWanted, OpensNode}
use Rattle.sg_activate.specs.steps.Finding.{found_in}
use Rattle.sg_activate.specs.steps.Lengths.{HasRaised, IsIndexOf}
use Rattle.sg_activate.proofs.LinkLevel.{node_there}
use Rattle.sg_activate.proofs.LengthLevel.{raised_here_are, can_settle_lengths, wanted_are_below, new_lengths_are_wanted, lengths_are_full, none_raised}
use Rattle.sg_activate.proofs.lengths.open_lengths.Goals as goal

pub settle_lengths-requires-clause-can : goal.settle_lengths-requires-clause-can
settle_lengths-requires-clause-can g c =
    let v = worker_of c.ask_all-seat.result.seat in
    let words = subst (λ (n : ℕ). c.in_ok-lengths.lengths ≡ lengths_of c.args.store.now n) c.requires.last c.in_ok-lengths.ensures.words in
    let are = raised_here_are (lengths_of c.args.store.now c.args.node) (old_lengths c.in_ok-pass.pass) c.in_ok-lengths.lengths c.in_ok-raised.raised v.raised c.in_ok-pass.ensures.given words c.in_ok-raised.ensures in
    let node = node_there c.args.store.now.shape.nodes c.args.node Dynamic c.requires.dynamic (λ (e : Dynamic ≡ Dense). (cc)) in
    subst (λ (l : List ℕ). CanSettleLengths c.args.store.now (length c.args.store.now.shape.nodes) l) (sym c.as_slice.ensures)
    (subst (λ (n : ℕ). CanSettleLengths c.args.store.now n c.in_ok-raised.raised) (sym c.requires.last)
    (can_settle_lengths c.args.store.now c.args.node v c.in_ok-raised.raised are node.0 c.layout.ensures.well_formed node.1 node.2 c.ask_all-seat.ensures.own.1))

pub returns-in-Ok-clause-opened : goal.returns-in-Ok-clause-opened
returns-in-Ok-clause-opened g c =
    let wanted = found_in c.args.work.now.axes c.args.work.now.found.now in
    let v = worker_of c.ask_all-seat.result.seat in
    let words = subst (λ (n : ℕ). c.in_ok-lengths.lengths ≡ lengths_of c.args.store.now n) c.requires.last c.in_ok-lengths.ensures.words in
    let are = raised_here_are (lengths_of c.args.store.now c.args.node) (old_lengths c.in_ok-pass.pass) c.in_ok-lengths.lengths c.in_ok-raised.raised v.raised c.in_ok-pass.ensures.given words c.in_ok-raised.ensures in
    let met : (at : Coord) → Contains wanted at → HasRaised c.args.store.now c.args.node at v =
    subst (λ r. OnOk r ((at : Coord) → Contains wanted at → HasRaised c.args.store.now c.args.node at v)) c.in_ok-done.was c.ask_all-seat.ensures.met in
    subst (λ (n : ℕ). OpensNode c.args.store.now c.settle_lengths.new.self n wanted) c.requires.last
    (c.in-Ok.ensures.opened wanted
    (subst (λ (n : ℕ). WantedAreBelow c.args.store.now n c.as_slice.result.now wanted) (sym c.requires.last)
    (subst (λ (l : List ℕ). WantedAreBelow c.args.store.now c.args.node l wanted) (sym c.as_slice.ensures) (wanted_are_below c.args.store.now c.args.node v c.in_ok-raised.raised are wanted met)))
    (subst (λ (n : ℕ). NewLengthsAreWanted c.args.store.now n c.as_slice.result.now wanted) (sym c.requires.last)
    (subst (λ (l : List ℕ). NewLengthsAreWanted c.args.store.now c.args.node l wanted) (sym c.as_slice.ensures) (new_lengths_are_wanted c.args.store.now c.args.node v c.in_ok-raised.raised are wanted
    c.ask_all-seat.ensures.made))))

pub returns-clause-full : goal.returns-clause-full
returns-clause-full g c =
    let wanted = found_in c.args.work.now.axes c.args.work.now.found.now in
    let v = worker_of c.ask_all-seat.result.seat in
    let words = subst (λ (n : ℕ). c.in_ok-lengths.lengths ≡ lengths_of c.args.store.now n) c.requires.last c.in_ok-lengths.ensures.words in
    let are = raised_here_are (lengths_of c.args.store.now c.args.node) (old_lengths c.in_ok-pass.pass) c.in_ok-lengths.lengths c.in_ok-raised.raised v.raised c.in_ok-pass.ensures.given words c.in_ok-raised.ensures in
    let node = node_there c.args.store.now.shape.nodes c.args.node Dynamic c.requires.dynamic (λ (e : Dynamic ≡ Dense). (cc)) in
    let there : IsNumberedNode c.args.store.now.shape c.args.node node.0 = record { first = c.requires.first; there = node.1 } in
    let met : (at : Coord) → Contains wanted at → HasRaised c.args.store.now c.args.node at v =
    subst (λ r. OnOk r ((at : Coord) → Contains wanted at → HasRaised c.args.store.now c.args.node at v)) c.in_ok-done.was c.ask_all-seat.ensures.met in
    let past : fit (count_of node.0.chunk) c.in_ok-raised.raised (count_of node.0.cap) ≡ Err c.in-Err._full =
    ap (λ (l : List ℕ). fit (count_of node.0.chunk) l (count_of node.0.cap)) (sym c.as_slice.ensures)
    ∙ sym (c.settle_lengths.ensures.answer node.0 (subst (λ (n : ℕ). IsNumberedNode c.args.store.now.shape n node.0) (sym c.requires.last) there)) ∙ c.in-Err.is in
    lengths_are_full c.args.store.now c.args.node v c.in_ok-raised.raised are (c.opening_by_nodes.ensures.lengths c.args.store.now) c.layout.ensures.well_formed node.0 there node.2 c.cap_at-cap.result (c.cap_at-cap.ensures node.0 there)
    c.ask_all-seat.ensures.own.1 wanted met c.ask_all-seat.ensures.made c.in-Err._full past

pub ask_all-seat-requires-clause-made : goal.ask_all-seat-requires-clause-made
ask_all-seat-requires-clause-made g c κs within = none_raised (IsIndexOf c.args.store.now c.args.node (found_in c.args.work.now.axes c.args.work.now.found.now)) (worker_of c.in_ok-pass.seat) _ 16 c.in_ok-pass.ensures.worker
