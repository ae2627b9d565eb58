use Rattle.std.proofs.Common.{ℕ, ◌-◌, refl, subst, arith}
use Rattle.sg_flat.specs.steps.Blocks.{HasPlace}
use Rattle.sg_flat.proofs.blocks.Blocks.has_before.Goals as goal

pub returns-then-place-eq0 : goal.returns-then-place-eq0
returns-then-place-eq0 c = (λ _. λ earlier is. absurd (let none = c.if-place-eq0.true in omega arith), λ _. refl)

pub returns : goal.returns
returns c =
    let place = c.args.place in (
      λ is. λ earlier before. subst (λ (p : ℕ). HasPlace c.args.self.now c.args.rows.now c.args.at p) (omega arith) (c.has_place.ensures.0 is),
      λ has. c.has_place.ensures.1 (has (place - 1) (let some = c.if-place-eq0.false in omega arith)),
    )
