use Rattle.std.proofs.Common.{◌≡◌, ◌+◌, ◌++◌, ◌∙◌, ℕ, List, map, take, drop, sym, ap, subst, arith}
use Rattle.std.specs.List.{range_with_len}
use Rattle.sg_coord.specs.declared.coord.Coord.{Coord}
use Rattle.sg_exec.specs.steps.Boxes.{IsForm, region_point}
use Rattle.sg_exec.specs.declared.workers.points.Form.TheVariants.{Within}
use Rattle.sg_exec.proofs.BoxPoints.{within_list, within_long, cut, on_ok_more}
use Rattle.sg_exec.proofs.workers.points.Points.fill.Goals as goal

pub overflow_cast-first : goal.overflow_cast-first
overflow_cast-first c =
    let long = within_long c.self.inside.form c.in-Within.region c.args.self.now c.in-Within.is c.self.view_is in
    let is : IsForm (Within c.in-Within.region) = subst IsForm c.in-Within.is c.self.invariant in
    record { fits = omega (arith, is.few, long, c.requires.within) }

pub overflow_cast-count : goal.overflow_cast-count
overflow_cast-count c =
    let long = within_long c.self.inside.form c.in-Within.region c.args.self.now c.in-Within.is c.self.view_is in
    let is : IsForm (Within c.in-Within.region) = subst IsForm c.in-Within.is c.self.invariant in
    record { fits = omega (arith, is.few, long, c.requires.within) }

pub push_some-requires-clause-within : goal.push_some-requires-clause-within
push_some-requires-clause-within c =
    let long = within_long c.self.inside.form c.in-Within.region c.args.self.now c.in-Within.is c.self.view_is in
    omega (arith, long, c.requires.within)

pub returns-in-Within : goal.returns-in-Within
returns-in-Within c =
    let region = c.in-Within.region in
    let f = region_point region in
    let first = c.args.first in
    let count = c.args.count in
    let long = within_long c.self.inside.form region c.args.self.now c.in-Within.is c.self.view_is in
    let here : 0 + first ≡ first = omega arith in
    on_ok_more _ _ c.push_some.result (λ made.
    made ∙ ap (λ (l : List Coord). l ++ map f (range_with_len first count)) c.clear.ensures.items
    ∙ sym (cut f 0 first count region.count (omega (arith, long, c.requires.within)) ∙ ap (λ (n : ℕ). map f (range_with_len n count)) here)
    ∙ ap (λ (l : List Coord). take count (drop first l)) (within_list c.self.inside.form region c.args.self.now c.in-Within.is c.self.view_is)) c.push_some.ensures
