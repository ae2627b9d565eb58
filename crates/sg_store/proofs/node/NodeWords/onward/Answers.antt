use Rattle.std.proofs.Common.{◌+◌, ◌*◌, ◌∙◌}
use Rattle.sg_store.proofs.NodeSteps.{dense_step, bit_step, link_step, key_step, element_step, table_there, chain_there}
use Rattle.sg_store.proofs.node.NodeWords.onward.Goals as goal

pub returns-in-Dense : goal.returns-in-Dense
returns-in-Dense c = dense_step c.args.bits c.args.node.now c.args.self.now (c.args.place * c.args.size + c.args.offset) c.in-Dense.is

pub returns-in-Bitmasked : goal.returns-in-Bitmasked
returns-in-Bitmasked c = c.past_bit.ensures ∙ bit_step c.args.bits c.args.node.now c.args.self.now (c.args.place * c.args.size + c.args.offset) c.in-Bitmasked.is

pub returns-in-Pointer : goal.returns-in-Pointer
returns-in-Pointer c = c.link_at.ensures ∙ link_step c.args.bits c.args.node.now c.args.self.now (c.args.place * c.args.size + c.args.offset) c.in-Pointer.is

pub beside-requires : goal.beside-requires
beside-requires c = table_there c.args.node.now c.args.self.now (c.args.place * c.args.size + c.args.offset) c.in-Hash.is c.requires.find

pub returns-in-Hash : goal.returns-in-Hash
returns-in-Hash c = c.beside.ensures ∙ key_step c.args.bits c.args.node.now c.args.self.now (c.args.place * c.args.size + c.args.offset) c.in-Hash.is

pub element-requires : goal.element-requires
element-requires c = chain_there c.args.node.now c.args.self.now c.args.size c.args.place c.args.offset c.chunk_of.result c.in-Dynamic.is c.requires.sized c.requires.below c.chunk_of.ensures c.requires.find

pub returns-in-Dynamic : goal.returns-in-Dynamic
returns-in-Dynamic c = c.element.ensures ∙ element_step c.args.bits c.args.node.now c.args.self.now c.args.size c.args.place c.args.offset c.chunk_of.result c.in-Dynamic.is c.requires.sized c.requires.below c.chunk_of.ensures
