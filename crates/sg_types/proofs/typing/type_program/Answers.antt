use Rattle.std.proofs.Common.{ap, map, length, List, arith}
use Rattle.sg_ast.specs.declared.program.Item.{Item}
use Rattle.sg_ast.specs.Stmt.{joined_lists}
use Rattle.sg_ast.specs.Program.{item_tokens}
use Rattle.sg_types.proofs.Stands.{tables_stand}
use Rattle.sg_types.proofs.Sizes.{items_within, size_within}
use Rattle.sg_types.proofs.typing.type_program.Goals as goal

pub take_item-requires-clause-stand : goal.take_item-requires-clause-stand
take_item-requires-clause-stand c = tables_stand c.args.program.now c.args.names.now c.requires.names

pub take_item-requires-clause-size : goal.take_item-requires-clause-size
take_item-requires-clause-size c =
    let items = c.as_slice-item-items.result.now in
    let same = ap (λ (xs : List Item). length (joined_lists (map item_tokens xs))) c.as_slice-item-items.ensures in
    omega (arith, c.requires.tokens, same, size_within items c.loop-item.item-index c.item-item.result c.loop-item-test.true c.item-item.is)

pub take_item-requires-clause-few_kernels : goal.take_item-requires-clause-few_kernels
take_item-requires-clause-few_kernels c =
    let items = c.as_slice-item-items.result.now in
    let same = ap (λ (xs : List Item). length (joined_lists (map item_tokens xs))) c.as_slice-item-items.ensures in
    omega (arith, c.requires.tokens, same, items_within items, c.loop-item.invariant.few_kernels, c.loop-item-test.true)

pub take_item-requires-clause-few_constants : goal.take_item-requires-clause-few_constants
take_item-requires-clause-few_constants c =
    let items = c.as_slice-item-items.result.now in
    let same = ap (λ (xs : List Item). length (joined_lists (map item_tokens xs))) c.as_slice-item-items.ensures in
    omega (arith, c.requires.tokens, same, items_within items, c.loop-item.invariant.few_constants, c.loop-item-test.true)
