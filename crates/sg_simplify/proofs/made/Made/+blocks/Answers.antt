use Rattle.std.proofs.Common.{◌≡◌, ◌+◌, ◌++◌, ◌∷◌, [], List, ℕ, drop, reverse, map, sym, ap, ◌∙◌, refl, subst, ℤ, to_z, of_z, w32, take, arith}
use Rattle.std.proofs.lemmas.Int.{to_z-of_z}
use Rattle.std.proofs.lemmas.Result.{on_ok_weaker}
use Rattle.std.proofs.lemmas.List.{drop_more}
use Rattle.sg_ir.specs.declared.code.Inst.{Inst}
use Rattle.sg_ir.specs.declared.code.Inst.TheVariants as v
use Rattle.sg_ir.specs.Blocks.{Value, Activity, Block, Link, Cell, Do, SetVar, WriteOwn, Contribute, Wish, Branch, Loop, link_step, link, block_of}
use Rattle.sg_ir.proofs.Uses.{fold-ReadCell, fold-IsActive, fold-Set, fold-OwnWrite, fold-Acc, fold-Want, fold-If, fold-For}
use Rattle.sg_ir.specs.declared.span.Span.{Span}
use Rattle.sg_ir.specs.Span.{range_span}
use Rattle.sg_simplify.specs.steps.Pass.{Pass, simplified}
use Rattle.sg_simplify.specs.steps.Made.{given_in, span_in_loop, pass_of, Goes}
use Rattle.sg_simplify.proofs.Reading.{drop-none}
use Rattle.sg_simplify.proofs.Making.{longer-none, goes-here, goes-from}
use Rattle.sg_simplify.proofs.Passing.{linked-goes, next-goes, IsMade, truncated, block-made, branch-goes, loops-more, popped, left-out, with_loops, turn-goes}
use Rattle.sg_simplify.proofs.made.Made.+blocks.Goals as goal

pub block-loop-inst-init : goal.block-loop-inst-init
block-loop-inst-init t c =
    let making = simplified (given_in c.args.given.now) (block_of c.args.given.now.code.now.regs c.args.insts.now) in
    subst (λ (out : List Inst). Goes c.args.self.now c.args.self.now [] out making making) (sym c.new-out.ensures) (goes-here c.args.self.now c.args.self.now [] making making (longer-none c.args.self.now) refl)

pub block-loop-inst-preserved : goal.block-loop-inst-preserved
block-loop-inst-preserved t c =
    let insts = c.args.insts.now in
    let i = c.loop-inst.inst-index in
    next-goes (given_in c.args.given.now) c.args.given.now.code.now.regs insts i c.inst-item.result c.args.self.now c.loop-inst.self c.inst.new.self [] c.loop-inst.out c.inst.new.out _
    (drop_more insts i c.inst-item.result c.loop-inst-test.true ∙ ap (λ it. it ∷ drop (i + 1) insts) (sym c.inst-item.is)) c.loop-inst.invariant c.in_ok-inst.ensures

pub block-returns : goal.block-returns
block-returns t c =
    let old = c.args.self.now in
    let goes = c.loop-inst.invariant in
    let known = truncated (pass_of old) (pass_of c.loop-inst.self) goes.longer.ops goes.longer.steps goes.longer.more_ops goes.longer.more_steps goes.longer.loops
    c.truncate.new.self.entries c.truncate-2.new.self.entries (c.truncate.ensures.entries ∙ ap (λ n. take n c.loop-inst.self.ops.entries) c.len-ops.ensures.len) (c.truncate-2.ensures.entries ∙ ap (λ n. take n c.loop-inst.self.steps.entries) c.len-steps.ensures.len) in
    let made = block-made (given_in c.args.given.now) c.args.given.now.code.now.regs c.args.insts.now c.loop-inst.out c.loop-inst.inst-index old c.loop-inst.self _ (drop-none c.args.insts.now c.loop-inst.inst-index c.loop-inst-test.false) goes refl known in
    record { longer = made.longer; known = made.known; puts = made.puts }

pub inst-returns-in-Some : goal.inst-returns-in-Some
inst-returns-in-Some t c =
    on_ok_weaker c.word.result
    (λ goes rest. goes-from c.args.self.now c.word.new.self c.args.out.now c.word.new.out (simplified (given_in c.args.given.now) (link c.args.given.now.code.now.regs c.args.inst.now rest)) _ (simplified (given_in c.args.given.now) rest)
    (sym (c.in-Some.ensures.operation rest)) (goes rest))
    c.word.ensures

pub inst-returns-in-ReadCell : goal.inst-returns-in-ReadCell
inst-returns-in-ReadCell t c =
    let is = c.in-ReadCell in
    let regs = c.args.given.now.code.now.regs in
    on_ok_weaker c.read.result
    (λ goes. linked-goes (given_in c.args.given.now) regs c.args.inst.now (Cell is.to is._place (Value is.layout is.field) is.index) c.args.self.now c.read.new.self c.args.out.now c.read.new.out
    (λ rest. ap (λ it. link regs it rest) is.is ∙ ap (λ (l : Link). l rest) (fold-ReadCell (link_step regs) is.to is._place is.layout is.field is.index))
    (subst (λ (index : List ℕ). (rest : Block) → Goes c.args.self.now c.read.new.self c.args.out.now c.read.new.out (simplified (given_in c.args.given.now) (Cell is.to is._place (Value is.layout is.field) index rest)) (simplified (given_in c.args.given.now) rest)) c.as_slice.ensures (goes is._place)))
    c.read.ensures

pub inst-returns-in-IsActive : goal.inst-returns-in-IsActive
inst-returns-in-IsActive t c =
    let is = c.in-IsActive in
    let regs = c.args.given.now.code.now.regs in
    on_ok_weaker c.active.result
    (λ goes. linked-goes (given_in c.args.given.now) regs c.args.inst.now (Cell is.to is.place Activity is.index) c.args.self.now c.active.new.self c.args.out.now c.active.new.out
    (λ rest. ap (λ it. link regs it rest) is.is ∙ ap (λ (l : Link). l rest) (fold-IsActive (link_step regs) is.to is.place is.index))
    (subst (λ (index : List ℕ). (rest : Block) → Goes c.args.self.now c.active.new.self c.args.out.now c.active.new.out (simplified (given_in c.args.given.now) (Cell is.to is.place Activity index rest)) (simplified (given_in c.args.given.now) rest)) c.as_slice-in-IsActive.ensures goes))
    c.active.ensures

pub inst-returns-in-Set : goal.inst-returns-in-Set
inst-returns-in-Set t c =
    let is = c.in-Set in
    let regs = c.args.given.now.code.now.regs in
    on_ok_weaker c.set.result
    (λ goes. linked-goes (given_in c.args.given.now) regs c.args.inst.now (Do (SetVar is.var is.from)) c.args.self.now c.set.new.self c.args.out.now c.set.new.out
    (λ rest. ap (λ it. link regs it rest) is.is ∙ ap (λ (l : Link). l rest) (fold-Set (link_step regs) is.var is.from)) goes)
    c.set.ensures

pub inst-returns-in-OwnWrite : goal.inst-returns-in-OwnWrite
inst-returns-in-OwnWrite t c =
    let is = c.in-OwnWrite in
    let regs = c.args.given.now.code.now.regs in
    on_ok_weaker c.own_write.result
    (λ goes. linked-goes (given_in c.args.given.now) regs c.args.inst.now (Do (WriteOwn is.layout is.field is.from is.stmt)) c.args.self.now c.own_write.new.self c.args.out.now c.own_write.new.out
    (λ rest. ap (λ it. link regs it rest) is.is ∙ ap (λ (l : Link). l rest) (fold-OwnWrite (link_step regs) is.layout is.field is.from is.stmt)) goes)
    c.own_write.ensures

pub inst-returns-in-Acc : goal.inst-returns-in-Acc
inst-returns-in-Acc t c =
    let is = c.in-Acc in
    let regs = c.args.given.now.code.now.regs in
    on_ok_weaker c.contribute.result
    (λ goes. linked-goes (given_in c.args.given.now) regs c.args.inst.now (Do (Contribute is.op is.layout is.field is._place is.from is.index is.stmt)) c.args.self.now c.contribute.new.self c.args.out.now c.contribute.new.out
    (λ rest. ap (λ it. link regs it rest) is.is ∙ ap (λ (l : Link). l rest) (fold-Acc (link_step regs) is.op is.layout is.field is._place is.from is.index is.stmt))
    (subst (λ (index : List ℕ). (rest : Block) → Goes c.args.self.now c.contribute.new.self c.args.out.now c.contribute.new.out (simplified (given_in c.args.given.now) (Do (Contribute is.op is.layout is.field is._place is.from index is.stmt) rest)) (simplified (given_in c.args.given.now) rest)) c.as_slice-in-Acc.ensures (goes is._place)))
    c.contribute.ensures

pub inst-returns-in-Want : goal.inst-returns-in-Want
inst-returns-in-Want t c =
    let is = c.in-Want in
    let regs = c.args.given.now.code.now.regs in
    on_ok_weaker c.want.result
    (λ goes. linked-goes (given_in c.args.given.now) regs c.args.inst.now (Do (Wish is.layout is.index is.stmt)) c.args.self.now c.want.new.self c.args.out.now c.want.new.out
    (λ rest. ap (λ it. link regs it rest) is.is ∙ ap (λ (l : Link). l rest) (fold-Want (link_step regs) is.layout is.index is.stmt))
    (subst (λ (index : List ℕ). (rest : Block) → Goes c.args.self.now c.want.new.self c.args.out.now c.want.new.out (simplified (given_in c.args.given.now) (Do (Wish is.layout index is.stmt) rest)) (simplified (given_in c.args.given.now) rest)) c.as_slice-in-Want.ensures goes))
    c.want.ensures

pub inst-returns-in_ok-push-in-If : goal.inst-returns-in_ok-push-in-If
inst-returns-in_ok-push-in-If t c =
    let is = c.in-If in
    let given = given_in c.args.given.now in
    let regs = c.args.given.now.code.now.regs in
    let first = c.in_ok-yes-in-If.ensures in
    let second = c.in_ok-no-in-If.ensures in
    let one : IsMade given regs is.yes c.in_ok-yes-in-If.yes c.args.self.now c.block.new.self =
    subst (λ (insts : List Inst). IsMade given regs insts c.in_ok-yes-in-If.yes c.args.self.now c.block.new.self) c.as_slice-in-If.ensures (record { longer = first.longer; known = first.known; puts = first.puts }) in
    let two : IsMade given regs is.no c.in_ok-no-in-If.no c.block.new.self c.block-in-If.new.self =
    subst (λ (insts : List Inst). IsMade given regs insts c.in_ok-no-in-If.no c.block.new.self c.block-in-If.new.self) c.as_slice-in-If-2.ensures (record { longer = second.longer; known = second.known; puts = second.puts }) in
    linked-goes given regs c.args.inst.now (Branch is.cond (block_of regs is.yes) (block_of regs is.no)) c.args.self.now c.block-in-If.new.self c.args.out.now c.push.new.self
    (λ rest. ap (λ it. link regs it rest) is.is ∙ ap (λ (l : Link). l rest) (fold-If (link_step regs) is.cond is.yes is.no))
    (branch-goes given regs is.cond c.name-cond.result is.yes is.no c.in_ok-yes-in-If.yes c.in_ok-no-in-If.no c.args.self.now c.block.new.self c.block-in-If.new.self c.args.out.now c.push.new.self
    c.name-cond.ensures one two c.in_ok-push-in-If.ensures.ok)

pub inst-returns-in-For : goal.inst-returns-in-For
inst-returns-in-For t c =
    let is = c.in-For in
    let given = given_in c.args.given.now in
    let regs = c.args.given.now.code.now.regs in
    let lo : to_z w32 (of_z w32 is.lo) ≡ is.lo = grind (arith, to_z-of_z) in
    let hi : to_z w32 (of_z w32 is.hi) ≡ is.hi = grind (arith, to_z-of_z) in
    on_ok_weaker c.turn.result
    (λ goes. linked-goes given regs c.args.inst.now (Loop is.var is.lo is.hi (block_of regs is.body)) c.args.self.now c.turn.new.self c.args.out.now c.turn.new.out
    (λ rest. ap (λ it. link regs it rest) is.is ∙ ap (λ (l : Link). l rest) (fold-For (link_step regs) is.var is.lo is.hi is.body))
    (subst (λ (z : ℤ). (rest : Block) → Goes c.args.self.now c.turn.new.self c.args.out.now c.turn.new.out (simplified given (Loop is.var z is.hi (block_of regs is.body) rest)) (simplified given rest)) lo
    (subst (λ (z : ℤ). (rest : Block) → Goes c.args.self.now c.turn.new.self c.args.out.now c.turn.new.out (simplified given (Loop is.var (to_z w32 (of_z w32 is.lo)) z (block_of regs is.body) rest)) (simplified given rest)) hi
    (subst (λ (body : List Inst). (rest : Block) → Goes c.args.self.now c.turn.new.self c.args.out.now c.turn.new.out (simplified given (Loop is.var (to_z w32 (of_z w32 is.lo)) (to_z w32 (of_z w32 is.hi)) (block_of regs body) rest)) (simplified given rest)) c.as_slice-in-For.ensures goes))))
    c.turn.ensures

pub inst-returns-in_default-inst : goal.inst-returns-in_default-inst
inst-returns-in_default-inst t c =
    let it = c.in_default-inst in
    left-out (given_in c.args.given.now) c.args.given.now.code.now.regs c.args.self.now c.args.out.now c.args.inst.now c.in_default.ensures.none
    it.not-ReadCell it.not-IsActive it.not-Set it.not-OwnWrite it.not-Acc it.not-Want it.not-If it.not-For

pub turn-returns : goal.turn-returns
turn-returns t c =
    let old = c.args.self.now in
    let mid = c.block.new.self in
    let lo : to_z w32 (of_z w32 c.args.lo) ≡ c.args.lo = grind (arith, to_z-of_z) in
    let hi : to_z w32 (of_z w32 c.args.hi) ≡ c.args.hi = grind (arith, to_z-of_z) in
    let span : c.range.result ≡ range_span c.args.lo c.args.hi = c.range.ensures ∙ ap (λ z. range_span z (to_z w32 (of_z w32 c.args.hi))) lo ∙ ap (range_span c.args.lo) hi in
    let body = c.in_ok-body.ensures in
    let looping = ap (with_loops (pass_of old)) (loops-more old.loops c.push.new.self _ c.in_ok-push.ensures.ok ∙ ap (λ (s : Span). (c.args.var, s) ∷ reverse (map span_in_loop old.loops)) span) in
    let inside = body.known ∙ looping in
    let left = popped c.pop.result mid.loops c.pop.new.self _ (reverse (map span_in_loop old.loops)) c.pop.ensures (ap (λ (pass : Pass). pass.loops) inside) in
    let known = ap (with_loops (pass_of mid)) left ∙ ap (λ (pass : Pass). with_loops pass (reverse (map span_in_loop old.loops))) inside in
    let put = c.in_ok-push-2.ensures.ok ∙ ap (λ z. c.args.out.now ++ v.For c.args.var z (to_z w32 (of_z w32 c.args.hi)) c.in_ok-body.body ∷ []) lo ∙ ap (λ z. c.args.out.now ++ v.For c.args.var c.args.lo z c.in_ok-body.body ∷ []) hi in
    turn-goes (given_in c.args.given.now) c.args.given.now.code.now.regs c.args.var c.args.lo c.args.hi c.args.body.now c.in_ok-body.body old _ mid _ c.args.out.now c.push-2.new.self refl looping
    (record { longer = body.longer; known = body.known; puts = body.puts }) refl known put
