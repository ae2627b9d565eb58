use Rattle.std.proofs.Common.{◌≡◌, ◌+◌, ◌++◌, ◌∷◌, [], List, map, drop, sym, ap, ◌∙◌, arith}
use Rattle.std.proofs.lemmas.Grind.{common_steps}
use Rattle.sg_ir.specs.declared.code.Inst.{Inst}
use Rattle.sg_ir.specs.Blocks.{End, chained, link, block_of}
use Rattle.sg_simplify.specs.steps.Needed.{link_all, needs_of, blocks_in}
use Rattle.sg_simplify.proofs.KeptLinks.{if_needs, if_count, for_needs, for_count}
use Rattle.sg_simplify.proofs.needs.Needs.+needs.Goals as goal

pub block-loop-inst-preserved : goal.block-loop-inst-preserved
block-loop-inst-preserved t c =
    let xs = c.args.block.now in
    let i = c.loop-inst.inst-index in
    let inst = c.inst-item.result in
    let mid = c.loop-inst.self in
    let more : drop i xs ≡ inst ∷ drop (i + 1) xs = grind (arith, common_steps) in
    let done = c.in_ok-inst.ensures in (
      λ types rest. c.loop-inst.invariant.0 types rest ∙ (ap (λ (ys : List Inst). mid.links ++ needs_of c.args.inside mid.blocks (chained (map (link types) ys) rest)) more ∙ done.links types (chained (map (link types) (drop (i + 1) xs)) rest)),
      λ types rest. done.count types (chained (map (link types) (drop (i + 1) xs)) rest) ∙ (ap (λ (ys : List Inst). mid.blocks + blocks_in (chained (map (link types) ys) rest)) (sym more) ∙ c.loop-inst.invariant.1 types rest),
    )

pub block-returns-clause-links : goal.block-returns-clause-links
block-returns-clause-links t c = λ types rest.
    let none : drop c.loop-inst.inst-index c.args.block.now ≡ [] = grind (arith, common_steps) in
    c.loop-inst.invariant.0 types rest ∙ ap (λ (ys : List Inst). c.loop-inst.self.links ++ needs_of c.args.inside c.loop-inst.self.blocks (chained (map (link types) ys) rest)) none

pub block-returns-clause-count : goal.block-returns-clause-count
block-returns-clause-count t c = λ types rest.
    let none : drop c.loop-inst.inst-index c.args.block.now ≡ [] = grind (arith, common_steps) in
    ap (λ (ys : List Inst). c.loop-inst.self.blocks + blocks_in (chained (map (link types) ys) rest)) (sym none) ∙ c.loop-inst.invariant.1 types rest

pub inst-returns-in_ok-block-in-If-2-clause-links : goal.inst-returns-in_ok-block-in-If-2-clause-links
inst-returns-in_ok-block-in-If-2-clause-links t c =
    let is = c.in-If in
    let here = c.in_ok-here-in-If.here in
    let first = c.all-in-If.new.self in
    let second = c.block.new.self in
    λ types rest. if_needs types c.args.inst.now is.cond is.yes is.no c.args.self.now.links first.links second.links c.block-in-If.new.self.links c.args.inside here c.args.self.now.blocks first.blocks second.blocks c.block-in-If.new.self.blocks rest is.is
    c.in_ok-here-in-If.ensures.node (c.all-in-If.ensures.count ∙ c.in_ok-here-in-If.ensures.count)
    (c.in_ok-all-in-If.ensures.links ∙ (ap (λ ls. ls ++ link_all here (c.reg_node-in-If.result ∷ c.args.inside ∷ [])) c.inner.ensures.links ∙ ap (λ r. c.args.self.now.links ++ link_all here (r ∷ c.args.inside ∷ [])) c.reg_node-in-If.ensures))
    (ap (λ (xs : List Inst). first.links ++ needs_of here first.blocks (block_of types xs)) (sym c.as_slice-in-If.ensures) ∙ c.in_ok-block-in-If.ensures.links types End)
    (c.in_ok-block-in-If.ensures.count types End ∙ ap (λ (xs : List Inst). first.blocks + blocks_in (block_of types xs)) c.as_slice-in-If.ensures)
    (ap (λ (xs : List Inst). second.links ++ needs_of here second.blocks (block_of types xs)) (sym c.as_slice-in-If-2.ensures) ∙ c.in_ok-block-in-If-2.ensures.links types End)
    (c.in_ok-block-in-If-2.ensures.count types End ∙ ap (λ (xs : List Inst). second.blocks + blocks_in (block_of types xs)) c.as_slice-in-If-2.ensures)

pub inst-returns-in_ok-block-in-If-2-clause-count : goal.inst-returns-in_ok-block-in-If-2-clause-count
inst-returns-in_ok-block-in-If-2-clause-count t c =
    let is = c.in-If in
    let first = c.all-in-If.new.self in
    let second = c.block.new.self in
    λ types rest. if_count types c.args.inst.now is.cond is.yes is.no c.args.self.now.blocks first.blocks second.blocks c.block-in-If.new.self.blocks rest is.is
    (c.all-in-If.ensures.count ∙ c.in_ok-here-in-If.ensures.count)
    (c.in_ok-block-in-If.ensures.count types End ∙ ap (λ (xs : List Inst). first.blocks + blocks_in (block_of types xs)) c.as_slice-in-If.ensures)
    (c.in_ok-block-in-If-2.ensures.count types End ∙ ap (λ (xs : List Inst). second.blocks + blocks_in (block_of types xs)) c.as_slice-in-If-2.ensures)

pub inst-returns-in_ok-block-in-For-clause-links : goal.inst-returns-in_ok-block-in-For-clause-links
inst-returns-in_ok-block-in-For-clause-links t c =
    let is = c.in-For in
    let here = c.in_ok-here-in-For.here in
    let first = c.all-in-For.new.self in
    let second = c.all-in-For-2.new.self in
    λ types rest. for_needs types c.args.inst.now is.var is._lo is._hi is.body c.args.self.now.links first.links second.links c.block-in-For.new.self.links c.args.inside here c.args.self.now.blocks second.blocks c.block-in-For.new.self.blocks rest is.is
    c.in_ok-here-in-For.ensures.node (c.all-in-For-2.ensures.count ∙ (c.all-in-For.ensures.count ∙ c.in_ok-here-in-For.ensures.count))
    (c.in_ok-all-in-For.ensures.links ∙ (ap (λ ls. ls ++ link_all here (c.var_node-var.result ∷ c.args.inside ∷ [])) c.inner-in-For.ensures.links ∙ ap (λ n. c.args.self.now.links ++ link_all here (n ∷ c.args.inside ∷ [])) c.var_node-var.ensures))
    (c.in_ok-all-in-For-2.ensures.links ∙ ap (λ n. first.links ++ link_all n (c.args.inside ∷ [])) c.var_node-var.ensures)
    (ap (λ (xs : List Inst). second.links ++ needs_of here second.blocks (block_of types xs)) (sym c.as_slice-in-For.ensures) ∙ c.in_ok-block-in-For.ensures.links types End)
    (c.in_ok-block-in-For.ensures.count types End ∙ ap (λ (xs : List Inst). second.blocks + blocks_in (block_of types xs)) c.as_slice-in-For.ensures)

pub inst-returns-in_ok-block-in-For-clause-count : goal.inst-returns-in_ok-block-in-For-clause-count
inst-returns-in_ok-block-in-For-clause-count t c =
    let is = c.in-For in
    let second = c.all-in-For-2.new.self in
    λ types rest. for_count types c.args.inst.now is.var is._lo is._hi is.body c.args.self.now.blocks second.blocks c.block-in-For.new.self.blocks rest is.is
    (c.all-in-For-2.ensures.count ∙ (c.all-in-For.ensures.count ∙ c.in_ok-here-in-For.ensures.count))
    (c.in_ok-block-in-For.ensures.count types End ∙ ap (λ (xs : List Inst). second.blocks + blocks_in (block_of types xs)) c.as_slice-in-For.ensures)
