use Rattle.std.proofs.Common.{◌≡◌, to_z, of_z, w32, w64, arith}
use Rattle.std.proofs.lemmas.Int.{to_z-of_z}
use Rattle.sg_grid.proofs.GoingOn.{goes-trans, coordinate-pieces}
use Rattle.sg_grid.proofs.writing.push_coordinate.Goals as goal

pub returns-in_err-push_number-clause-on : goal.returns-in_err-push_number-clause-on
returns-in_err-push_number-clause-on c = c.push_number.ensures.on

pub returns-in_err-push_further-clause-on : goal.returns-in_err-push_further-clause-on
returns-in_err-push_further-clause-on c = goes-trans _ _ _ c.push_number.ensures.on c.push_further.ensures.on

pub returns-clause-on : goal.returns-clause-on
returns-clause-on c = goes-trans _ _ _ c.push_number.ensures.on (goes-trans _ _ _ c.push_further.ensures.on c.push_further-2.ensures.on)

pub returns-clause-parts : goal.returns-clause-parts
returns-clause-parts c =
    let a : to_z w64 (of_z w64 (to_z w32 (of_z w32 c.args.at.a))) ≡ c.args.at.a = grind (arith, to_z-of_z) in
    let b : to_z w64 (of_z w64 (to_z w32 (of_z w32 c.args.at.b))) ≡ c.args.at.b = grind (arith, to_z-of_z) in
    let d : to_z w64 (of_z w64 (to_z w32 (of_z w32 c.args.at.c))) ≡ c.args.at.c = grind (arith, to_z-of_z) in
    coordinate-pieces c.push_further-2.result c.args.at _ _ _ _ _ _ _ a b d c.in_ok-push_number.ensures.digits c.in_ok-push_further.ensures.part c.push_further-2.ensures.part
