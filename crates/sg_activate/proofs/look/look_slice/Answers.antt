use Rattle.std.proofs.Common.{◌≡◌, ◌+◌, ◌<◌, ◌≤◌, ◌++◌, ◌∙◌, inl, inr, refl, ap, subst, sym, arith, ℕ}
use Rattle.std.specs.Prelude.{Some, None}
use Rattle.std.specs.List.{Contains}
use Rattle.sg_activate.specs.steps.Finding.{coords_found, found_in}
use Rattle.sg_coord.specs.Slices.{slice_start}
use Rattle.sg_activate.specs.steps.Looked.{noted, IsNew}
use Rattle.sg_activate.proofs.Looking.{one_piece_more, closed_own, closed_known}
use Rattle.sg_activate.proofs.look.look_slice.Goals as goal

pub loop-piece-preserved : goal.loop-piece-preserved
loop-piece-preserved g c =
    let before = c.loop-piece.invariant in
    let after = c.in_ok-look_piece.ensures in
    record {
      hand = after.hand;
      axes = after.axes;
      worker = after.worker ∙ before.worker;
      last = after.last;
      wanted = λ at has. elim (after.only at has) [ inl old ↦ before.wanted at old | inr new ↦ new ];
      of_workers = after.of_workers (subst (λ (n : ℕ). n < c.args.look.now.workers) (sym before.worker) c.requires.within) before.of_workers;
      known = one_piece_more c.args.look.now.store.now (g.W.Wanted.Means c.args.look.now.want.now) c.slice_of-from.result.0 c.loop-piece.piece (noted c.loop-piece.notes) (noted c.look_piece.new.notes) after.stays before.known after.known;
    }

pub returns-clause-own : goal.returns-clause-own
returns-clause-own g c =
    let end = c.loop-piece.invariant in
    closed_own c.close.result c.loop-piece.notes (IsNew c.args.look.now.store.now (g.W.Wanted.Means c.args.look.now.want.now) (g.W.Wanted.count c.args.look.now.want.now)) c.args.look.now.axes c.args.look.now.workers
    end.axes (subst (λ (n : ℕ). n < c.args.look.now.workers) (sym end.worker) c.requires.within) end.wanted end.of_workers c.close.ensures.same c.close.ensures.of_workers

pub returns-clause-known : goal.returns-clause-known
returns-clause-known g c =
    let end = c.loop-piece.invariant in
    let len = g.W.Wanted.count c.args.look.now.want.now in
    let workers = c.args.look.now.workers in
    let from : c.slice_of-from.result.0 ≡ slice_start len workers c.args.worker = ap (λ p. p.0) c.slice_of-from.ensures.value ∙ ap (λ n. slice_start n workers c.args.worker) c.pieces.ensures in
    let to : c.slice_of-from.result.1 ≡ slice_start len workers (c.args.worker + 1) = ap (λ p. p.1) c.slice_of-from.ensures.value ∙ ap (λ n. slice_start n workers (c.args.worker + 1)) c.pieces.ensures in
    let past : c.slice_of-from.result.1 ≤ c.loop-piece.piece = c.loop-piece-test.false in
    closed_known c.close.result c.loop-piece.notes c.args.look.now.store.now (g.W.Wanted.Means c.args.look.now.want.now) (slice_start len workers c.args.worker) (slice_start len workers (c.args.worker + 1)) c.args.look.now.axes end.axes
    (λ list means piece low high at is. end.known list means piece (omega arith) (omega arith) at is) c.close.ensures.same

pub loop-piece-init : goal.loop-piece-init
loop-piece-init g c = record {
  hand = c.in_ok-hand.ensures;
  axes = refl;
  worker = refl;
  last = λ at is. (let e : None ≡ Some at = is in cc);
  wanted = λ at has. c.requires.own.says at (subst (λ l. Contains (coords_found c.args.look.now.axes l ++ found_in c.args.look.now.axes c.args.found) at) c.new.ensures has);
  of_workers = c.requires.own.of_workers;
  known = λ list means piece low high at is. absurd (omega (arith, low, high));
}
