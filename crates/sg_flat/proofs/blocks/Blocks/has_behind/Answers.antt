use Rattle.std.proofs.Common.{ℕ, refl, sym, subst, arith, add-one}
use Rattle.sg_flat.specs.steps.Blocks.{HasPlace}
use Rattle.sg_flat.proofs.blocks.Blocks.has_behind.Goals as goal

pub returns-then-next-reach : goal.returns-then-next-reach
returns-then-next-reach c = (λ _. λ more. absurd (let past = c.if-next-reach.true in omega arith), λ _. refl)

pub returns : goal.returns
returns c =
    let place = c.args.place in
    let At : ℕ → Type 0 = λ p. HasPlace c.args.self.now c.args.rows.now c.args.at p in (
      λ is. λ more. subst At (add-one place) (c.has_place.ensures.0 is),
      λ has. c.has_place.ensures.1 (subst At (sym (add-one place)) (has (let below = c.if-next-reach.false in omega arith))),
    )
