use Rattle.std.proofs.Common.{◌≡◌, ◌++◌, ◌∷◌, [], suc, None, sym, ap, ◌∙◌, arith}
use Rattle.std.specs.Map.{lookup}
use Rattle.indexmap.proofs.CallerLemmas.{insert_entry-new}
use Rattle.sg_ir.specs.Shared.{same_step}
use Rattle.sg_simplify.specs.steps.Made.{pass_of, next_of}
use Rattle.sg_simplify.proofs.Taking.{found-goes, stepped-goes, with_steps, with_places}
use Rattle.sg_simplify.proofs.made.Made.stepped.Goals as goal

pub returns-in-Some : goal.returns-in-Some
returns-in-Some c = found-goes c.args.step c.in-Some.known c.args.self.now c.args.out.now (sym c.get.ensures.value ∙ sym c.in-Some.ensures)

pub returns : goal.returns
returns c =
    let how = c.args.step in
    let old = c.args.self.now in
    let none : lookup (same_step how) old.steps.entries ≡ None = sym c.get.ensures.value ∙ sym c.copied.ensures ∙ c.in_default.is in
    let more : c.insert.new.self.entries ≡ old.steps.entries ++ (how, old.places) ∷ [] = c.in_ok-insert.ensures.entries ∙ insert_entry-new same_step old.steps how old.places none in
    let next : c.in-Some-checked_add.next ≡ suc old.places = omega (arith, c.in-Some-checked_add.ensures.1) in
    stepped-goes how old _ c.args.out.now c.push.new.self c.step_inst.result none c.in_ok-push.ensures.ok c.step_inst.ensures (ap (with_places (next_of old)) next) (ap (with_steps (pass_of old)) more)
