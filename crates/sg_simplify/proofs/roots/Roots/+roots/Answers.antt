use Rattle.std.proofs.Common.{◌≡◌, ◌+◌, ◌∷◌, [], List, map, drop, sym, ap, ◌∙◌, arith}
use Rattle.std.proofs.lemmas.Grind.{common_steps}
use Rattle.std.proofs.lemmas.Result.{on_ok_weaker}
use Rattle.sg_ir.specs.declared.code.Inst.{Inst}
use Rattle.sg_ir.specs.Blocks.{End, chained, link, block_of}
use Rattle.sg_simplify.specs.steps.Pass.{roots_in}
use Rattle.sg_simplify.proofs.Rooting.{if_roots, for_roots}
use Rattle.sg_simplify.proofs.roots.Roots.+roots.Goals as goal

pub block-loop-inst-preserved : goal.block-loop-inst-preserved
block-loop-inst-preserved t c = λ types rest.
    let xs = c.args.block.now in
    let i = c.loop-inst.inst-index in
    let more : drop i xs ≡ c.inst-item.result ∷ drop (i + 1) xs = grind (arith, common_steps) in
    c.loop-inst.invariant types rest
    ∙ (ap (λ (ys : List Inst). roots_in c.loop-inst.self.layouts.entries (chained (map (link types) ys) rest)) more ∙ c.in_ok-inst.ensures types (chained (map (link types) (drop (i + 1) xs)) rest))

pub block-returns : goal.block-returns
block-returns t c = λ types rest.
    let none : drop c.loop-inst.inst-index c.args.block.now ≡ [] = grind (arith, common_steps) in
    c.loop-inst.invariant types rest ∙ ap (λ (ys : List Inst). roots_in c.loop-inst.self.layouts.entries (chained (map (link types) ys) rest)) none

pub inst-returns-in_ok-block-in-If : goal.inst-returns-in_ok-block-in-If
inst-returns-in_ok-block-in-If t c =
    let is = c.in-If in
    let first = c.block.new.self in
    on_ok_weaker c.block-in-If.result
    (λ second types rest. if_roots types c.args.inst.now is._cond is.yes is.no c.args.self.now.layouts.entries first.layouts.entries c.block-in-If.new.self.layouts.entries rest is.is
    (ap (λ (xs : List Inst). roots_in c.args.self.now.layouts.entries (block_of types xs)) (sym c.as_slice.ensures) ∙ c.in_ok-block-in-If.ensures types End)
    (ap (λ (xs : List Inst). roots_in first.layouts.entries (block_of types xs)) (sym c.as_slice-in-If.ensures) ∙ second types End))
    c.block-in-If.ensures

pub inst-returns-in-For : goal.inst-returns-in-For
inst-returns-in-For t c =
    let is = c.in-For in
    on_ok_weaker c.block-in-For.result
    (λ turn types rest. for_roots types c.args.inst.now is._var is._lo is._hi is.body c.args.self.now.layouts.entries c.block-in-For.new.self.layouts.entries rest is.is
    (ap (λ (xs : List Inst). roots_in c.args.self.now.layouts.entries (block_of types xs)) (sym c.as_slice-in-For.ensures) ∙ turn types End))
    c.block-in-For.ensures
