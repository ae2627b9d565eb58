use Rattle.std.proofs.Common.{◌≡◌, ◌++◌, ◌∷◌, [], ◌+◌, ℕ, List, map, refl, sym, ap, ◌∙◌, subst, arith, append_assoc, append-nil}
use Rattle.std.specs.List.{range_with_len}
use Rattle.std.proofs.lemmas.List.FromFn.{map-range_with_len_more}
use Rattle.sg_coord.specs.declared.coord.Coord.{Coord}
use Rattle.sg_exec.specs.steps.Boxes.{AreAlong, region_point}
use Rattle.sg_exec.proofs.BoxPoints.{number_inside, point_is}
use Rattle.sg_exec.proofs.workers.region.Region.push_some.Goals as goal

pub loop-number-init : goal.loop-number-init
loop-number-init c = record {
  row = sym (append-nil c.args.row.now.items);
  far = subst (λ (n : ℕ). AreAlong c.args.self n c.along-along.result) (let same : c.args.first ≡ c.args.first + 0 = omega arith in same) c.along-along.ensures;
}

pub point-requires-clause-inside : goal.point-requires-clause-inside
point-requires-clause-inside c =
    number_inside c.args.self (c.args.first + c.loop-number._number) c.loop-number.along c.requires.region (omega (arith, c.requires.within)) c.loop-number.invariant.far

pub next-along-requires : goal.next-along-requires
next-along-requires c =
    number_inside c.args.self (c.args.first + c.loop-number._number) c.loop-number.along c.requires.region (omega (arith, c.requires.within)) c.loop-number.invariant.far

pub loop-number-preserved : goal.loop-number-preserved
loop-number-preserved c =
    let f = region_point c.args.self in
    let first = c.args.first in
    let k = c.loop-number._number in
    let old = c.args.row.now.items in
    record {
      row = c.in_ok-push.ensures.items
          ∙ ap (λ (at : Coord). c.loop-number.row.items ++ at ∷ []) (c.point.ensures ∙ point_is c.args.self (first + k) c.loop-number.along c.loop-number.invariant.far)
          ∙ ap (λ (items : List Coord). items ++ f (first + k) ∷ []) c.loop-number.invariant.row
          ∙ append_assoc old (map f (range_with_len first k)) (f (first + k) ∷ [])
          ∙ ap (λ (items : List Coord). old ++ items) (sym (map-range_with_len_more f first k (first + k) refl));
      far = subst (λ (n : ℕ). AreAlong c.args.self n c.next-along.result) (let same : first + k + 1 ≡ first + (k + 1) = omega arith in same) (c.next-along.ensures (first + k) c.loop-number.invariant.far);
    }

pub returns : goal.returns
returns c =
    let all : c.loop-number._number ≡ c.args.count = omega arith in
    c.loop-number.invariant.row ∙ ap (λ (n : ℕ). c.args.row.now.items ++ map (region_point c.args.self) (range_with_len c.args.first n)) all
