use Rattle.std.proofs.Common.{ℕ, ◌++◌, [], ◌∷◌, List, map, take, sym, ap, ◌∙◌}
use Rattle.std.proofs.lemmas.List.{map_more}
use Rattle.sg_words.specs.declared.operators.Ty.{Ty}
use Rattle.sg_words.specs.declared.operators.Ty.TheVariants as ty
use Rattle.sg_flat.proofs.state.zero_fields.Goals as goal

pub loop-preserved : goal.loop-preserved
loop-preserved c =
    let zero : Ty → List (ℕ × ℕ) = λ _. [] in
    c.in_ok-push.ensures.ok
    ∙ ap (λ (fields : List (List (ℕ × ℕ))). fields ++ c.new.result ∷ []) c.loop.invariant
    ∙ ap (λ (field : List (ℕ × ℕ)). map zero (take c.loop.index c.args.types.now) ++ field ∷ []) c.new.ensures
    ∙ sym (map_more zero c.args.types.now c.loop.index ty.I32 c.loop-test.true)
