use Rattle.std.proofs.Common.{◌≡◌, ◌++◌, ◌∷◌, [], None, sym, ap, ◌∙◌, refl}
use Rattle.std.specs.Map.{lookup}
use Rattle.indexmap.proofs.CallerLemmas.{insert_entry-new}
use Rattle.sg_ir.specs.Shared.{same_op}
use Rattle.sg_simplify.specs.steps.Pass.{Pass}
use Rattle.sg_simplify.specs.steps.Made.{given_in, pass_of}
use Rattle.sg_simplify.proofs.Taking.{known-goes, taken-goes, with_ops}
use Rattle.sg_simplify.proofs.made.Made.looked_up.Goals as goal

pub returns-in-Some : goal.returns-in-Some
returns-in-Some c =
    known-goes (given_in c.args.given.now) c.args.ty c.args.op c.args.index c.in-Some.known c.args.self.now c.args.out.now (sym c.get.ensures.value ∙ sym c.in-Some.ensures)

pub returns : goal.returns
returns c =
    let how = c.args.op in
    let mid = c.fresh.new.self in
    let none : lookup (same_op how) c.args.self.now.ops.entries ≡ None = sym c.get.ensures.value ∙ sym c.copied.ensures ∙ c.in_default.is in
    let none_mid : lookup (same_op how) mid.ops.entries ≡ None = ap (λ (pass : Pass). lookup (same_op how) pass.ops) c.in_ok-to.ensures.known ∙ none in
    let more : c.insert.new.self.entries ≡ mid.ops.entries ++ (how, c.in_ok-to.to) ∷ [] = c.in_ok-insert.ensures.entries ∙ insert_entry-new same_op mid.ops how c.in_ok-to.to none_mid in
    taken-goes (given_in c.args.given.now) c.args.ty how c.args.index c.in_ok-to.to c.args.self.now mid _ c.args.out.now c.fresh.new.out none c.in_ok-to.ensures.puts refl (ap (with_ops (pass_of mid)) more)
