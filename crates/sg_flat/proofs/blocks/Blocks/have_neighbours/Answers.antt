use Rattle.std.proofs.Common.{◌≡◌, ℕ, inl, inr, false, get_or, refl, ap, ◌∙◌, subst, arith}
use Rattle.std.proofs.lemmas.Bool.{both_ways, cases_lt}
use Rattle.sg_flat.specs.steps.Blocks.{HasNeighbours}
use Rattle.sg_flat.proofs.Neighbours.{get_same}
use Rattle.sg_flat.proofs.blocks.Blocks.have_neighbours.Goals as goal

pub loop-index-init : goal.loop-index-init
loop-index-init c = λ k d below. absurd (omega arith)

pub loop-index-preserved : goal.loop-index-preserved
loop-index-preserved c = λ k d below.
    let rows = c.args.rows.now in
    let i = c.loop-index.index in
    elim (cases_lt k i) [
      | inl before ↦ c.loop-index.invariant k d before
      | inr past ↦
          let at : i ≡ k = omega arith in
          subst (λ (row : ℕ). HasNeighbours c.args.self.now rows row) (get_same rows i 0 d c.loop-index-test.true ∙ ap (λ (n : ℕ). get_or rows n d) at) (c.if-not-has_neighbours.ensures.0 refl)
    ]

pub returns-then-not-has_neighbours : goal.returns-then-not-has_neighbours
returns-then-not-has_neighbours c = (
  λ no. absurd (both_ways false refl no),
  λ all. absurd (both_ways false refl (c.if-not-has_neighbours.ensures.1 (all c.loop-index.index 0 c.loop-index-test.true))),
)

pub returns : goal.returns
returns c = (λ _. λ k d below. c.loop-index.invariant k d (let past = c.loop-index-test.false in omega arith), λ _. refl)
