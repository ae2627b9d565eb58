use Rattle.sg_layout.proofs.SlotNumbers as laws
use Rattle.sg_layout.proofs.laws.slots_numbered.Goals as goal

pub returns-clause-has_number : goal.returns-clause-has_number
returns-clause-has_number c = laws.slot_has_number

pub returns-clause-has_slot : goal.returns-clause-has_slot
returns-clause-has_slot c = laws.number_has_slot

pub returns-clause-listed : goal.returns-clause-listed
returns-clause-listed c = laws.slots_are_listed

pub returns-clause-counted : goal.returns-clause-counted
returns-clause-counted c = laws.slots_are_counted

pub returns-clause-in_order : goal.returns-clause-in_order
returns-clause-in_order c = laws.slots_are_in_order
