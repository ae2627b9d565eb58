use Rattle.std.proofs.Common.{◌≡◌, ◌∙◌, to_z, of_z, w64, arith}
use Rattle.std.proofs.lemmas.Int.{to_z-of_z}
use Rattle.sg_grid.proofs.GoingOn.{goes-trans, row-pieces}
use Rattle.sg_grid.proofs.writing.push_row.Goals as goal

pub returns-in_err-push_coordinate-clause-on : goal.returns-in_err-push_coordinate-clause-on
returns-in_err-push_coordinate-clause-on c = c.push_coordinate.ensures.on

pub returns-in_err-push_text-clause-on : goal.returns-in_err-push_text-clause-on
returns-in_err-push_text-clause-on c = goes-trans _ _ _ c.push_coordinate.ensures.on c.push_text.ensures.on

pub returns-in_err-push_number-clause-on : goal.returns-in_err-push_number-clause-on
returns-in_err-push_number-clause-on c = goes-trans _ _ _ c.push_coordinate.ensures.on (goes-trans _ _ _ c.push_text.ensures.on c.push_number.ensures.on)

pub returns-clause-on : goal.returns-clause-on
returns-clause-on c =
    goes-trans _ _ _ c.push_coordinate.ensures.on (goes-trans _ _ _ c.push_text.ensures.on (goes-trans _ _ _ c.push_number.ensures.on c.push_text-2.ensures.on))

pub returns-clause-line : goal.returns-clause-line
returns-clause-line c =
    let low = c.number.ensures.low in
    let high = c.number.ensures.high in
    let same : to_z w64 (of_z w64 c.number.result) ≡ c.number.result = grind (arith, to_z-of_z, low, high) in
    row-pieces c.push_text-2.result c.args.ty c.args.row _ _ _ _ _ _ (same ∙ c.number.ensures.value) c.in_ok-push_coordinate.ensures.parts c.in_ok-push_text.ensures.piece c.in_ok-push_number.ensures.digits c.push_text-2.ensures.piece
