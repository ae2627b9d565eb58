use Rattle.std.proofs.Common.{◌≡◌, ◌==◌, Bool, true, false, if◌then◌else◌, ◌∙◌, sym, ap}
use Rattle.std.proofs.lemmas.Bool.{true≢false}
use Rattle.sg_ir.specs.declared.span.Span.{Span}
use Rattle.sg_ir.specs.Blocks.{block_of}
use Rattle.sg_ir.specs.Span.{sets, whole_i32, walk_span, domain_span}
use Rattle.sg_simplify.proofs.given.Given.var_span.Goals as goal

-- by whether no instruction sets the variable
chosen : (result given other : Span) (test is : Bool) → is ≡ test → (is ≡ true → result ≡ given) → (is ≡ false → result ≡ other) → result ≡ (if test then given else other)
chosen result given other true is same one two = one same
chosen result given other false is same one two = two same

pub returns-then-not-has_none : goal.returns-then-not-has_none
returns-then-not-has_none c =
    let block = block_of c.args.self.now.code.now.regs c.args.self.now.code.now.body in
    chosen c.whole.result (domain_span c.args.self.now.layouts.now.list c.args.self.now.domain c.args.var) whole_i32 (sets c.args.var block == 0) c.has_none.result
    (c.has_none.ensures (λ v. sets v block) c.args.self.now.counted) (λ some. absurd (true≢false (sym some ∙ c.if-not-has_none.true))) (λ some. c.whole.ensures)

pub returns-in-Some : goal.returns-in-Some
returns-in-Some c =
    let block = block_of c.args.self.now.code.now.regs c.args.self.now.code.now.body in
    chosen c.extent_span.result (domain_span c.args.self.now.layouts.now.list c.args.self.now.domain c.args.var) whole_i32 (sets c.args.var block == 0) c.has_none.result
    (c.has_none.ensures (λ v. sets v block) c.args.self.now.counted) (λ some. c.extent_span.ensures ∙ ap (λ there. walk_span there c.args.var) c.in-Some.ensures ∙ ap (λ domain. domain_span c.args.self.now.layouts.now.list domain c.args.var) (sym c.in-Walk.is)) (λ some. absurd (true≢false (sym c.if-not-has_none.false ∙ some)))

pub returns-in-Range : goal.returns-in-Range
returns-in-Range c =
    let block = block_of c.args.self.now.code.now.regs c.args.self.now.code.now.body in
    chosen c.box_span.result (domain_span c.args.self.now.layouts.now.list c.args.self.now.domain c.args.var) whole_i32 (sets c.args.var block == 0) c.has_none.result
    (c.has_none.ensures (λ v. sets v block) c.args.self.now.counted) (λ some. c.box_span.ensures ∙ ap (λ domain. domain_span c.args.self.now.layouts.now.list domain c.args.var) (sym c.in-Range.is)) (λ some. absurd (true≢false (sym c.if-not-has_none.false ∙ some)))
