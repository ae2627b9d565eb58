use Rattle.std.proofs.Common.{inl, inr, sym, ap, ◌∙◌, subst}
use Rattle.std.specs.List.{Contains}
use Rattle.std.proofs.lemmas.List.Elements.{All-contains}
use Rattle.sg_coord.specs.Bounds.{Bounds}
use Rattle.sg_coord.specs.Coord.{Inside}
use Rattle.sg_activate.proofs.Looking.{in_below, of_empty, all_of_none, ok_of, ok_so, ok_two}
use Rattle.sg_activate.proofs.look.look_piece.Goals as goal

pub look_each-requires-clause-axes : goal.look_each-requires-clause-axes
look_each-requires-clause-axes g c = λ at has.
    let all = c.in_ok-wanted.ensures.inside (all_of_none (Inside (g.W.Wanted.bounds c.args.look.now.want.now)) _ c.clear.ensures.items) in
    let inside = All-contains (Inside (g.W.Wanted.bounds c.args.look.now.want.now)) _ at all (subst (λ l. Contains l at) c.as_slice.ensures.value has) in
    inside.same_axes ∙ ap (λ (b : Bounds). b.n) c.args.look.now.inside ∙ sym c.args.look.now.axes_are ∙ sym c.requires.axes

pub returns-clause-hand : goal.returns-clause-hand
returns-clause-hand g c = ok_of c.look_each.result c.in_ok-wanted.ensures.own

pub returns-clause-axes : goal.returns-clause-axes
returns-clause-axes g c = ok_so c.look_each.result c.look_each.ensures.grew (λ grew. grew.same_axes ∙ c.requires.axes)

pub returns-clause-worker : goal.returns-clause-worker
returns-clause-worker g c = ok_so c.look_each.result c.look_each.ensures.grew (λ grew. grew.same_worker)

pub returns-clause-stays : goal.returns-clause-stays
returns-clause-stays g c = ok_so c.look_each.result c.look_each.ensures.grew (λ grew. grew.stays)

pub returns-clause-only : goal.returns-clause-only
returns-clause-only g c = ok_two c.look_each.result c.look_each.ensures.grew c.look_each.ensures.new (λ grew new at has. elim (new at has) [
  | inl old ↦ inl old
  | inr none ↦ elim (grew.only at has) [
    | inl old ↦ inl old
    | inr is ↦
        let all = c.in_ok-wanted.ensures.inside (all_of_none (Inside (g.W.Wanted.bounds c.args.look.now.want.now)) _ c.clear.ensures.items) in
        let inside = All-contains (Inside (g.W.Wanted.bounds c.args.look.now.want.now)) _ at all (subst (λ l. Contains l at) c.as_slice.ensures.value is) in
        inr (
          subst (λ (b : Bounds). Inside b at) c.args.look.now.inside inside,
          λ list means.
              in_below list (g.W.Wanted.count c.args.look.now.want.now) c.args.piece c.requires.piece at
              (subst (λ l. Contains l at) (c.as_slice.ensures.value ∙ of_empty _ _ (list c.args.piece) c.clear.ensures.items (c.in_ok-wanted.ensures.list list means)) is),
          none,
        )
  ]
])

pub returns-clause-of_workers : goal.returns-clause-of_workers
returns-clause-of_workers g c = ok_so c.look_each.result c.look_each.ensures.grew (λ grew. grew.of_workers c.args.look.now.workers)

pub returns-clause-known : goal.returns-clause-known
returns-clause-known g c = ok_so c.look_each.result c.look_each.ensures.known (λ known list means at has.
    known at (subst (λ l. Contains l at) (sym (c.as_slice.ensures.value ∙ of_empty _ _ (list c.args.piece) c.clear.ensures.items (c.in_ok-wanted.ensures.list list means))) has))
