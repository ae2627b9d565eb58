use Rattle.std.proofs.Common.{◌≡◌, ℕ, sym, ap, ◌∙◌, subst}
use Rattle.sg_store.specs.declared.node.NodeWords.{NodeWords}
use Rattle.sg_store.specs.declared.node_plan.StayingWords.{StayingWords}
use Rattle.sg_store.specs.steps.Trimming.{IsTrimmed}
use Rattle.sg_store.specs.steps.KeptWords.{in_row}
use Rattle.sg_store.specs.steps.Planning.{AreStaying, HasCutLengths}
use Rattle.sg_store.proofs.NodesTrimmed.{link_is, table_has_links, table_links_once, new_lengths_short, whole_trims, masks_trim, links_trim, table_trims, lengths_trim}
use Rattle.sg_store.proofs.node.NodeWords.trim.Goals as goal
use Rattle.sg_store.proofs.node.NodeWords.trim.Goals.{in-Whole, in-Masks, in-Linked, in-Table, in-Lengths}

pub cut_table-requires-clause-linked : goal.cut_table-requires-clause-linked
cut_table-requires-clause-linked c =
    let plan = subst (λ (s : StayingWords). AreStaying s c.args.node.now.kind c.args.node.now c.args.self.now c.args.plan.now.row) c.in-Table.is c.requires.plan in
    table_has_links c.args.node.now c.args.self.now plan.0 c.requires.node

pub cut_table-requires-clause-once : goal.cut_table-requires-clause-once
cut_table-requires-clause-once c =
    let plan = subst (λ (s : StayingWords). AreStaying s c.args.node.now.kind c.args.node.now c.args.self.now c.args.plan.now.row) c.in-Table.is c.requires.plan in
    table_links_once c.args.node.now c.args.self.now plan.0 c.requires.node

pub cut_table-requires-clause-stays : goal.cut_table-requires-clause-stays
cut_table-requires-clause-stays c =
    let plan = subst (λ (s : StayingWords). AreStaying s c.args.node.now.kind c.args.node.now c.args.self.now c.args.plan.now.row) c.in-Table.is c.requires.plan in
    link_is c.args.plan.now.row c.args.self.now.links c.in-Table.links plan.1

pub cut_lengths-requires-clause-short : goal.cut_lengths-requires-clause-short
cut_lengths-requires-clause-short c =
    let plan = subst (λ (s : StayingWords). AreStaying s c.args.node.now.kind c.args.node.now c.args.self.now c.args.plan.now.row) c.in-Lengths.is c.requires.plan in
    new_lengths_short c.args.plan.now.row c.args.node.now c.args.self.now c.in-Lengths.lengths plan.0 c.requires.node plan.1

pub returns-clause-trimmed : goal.returns-clause-trimmed
returns-clause-trimmed c = elim c.match-plan.branch [
  | in-Whole w ↦
      let plan = subst (λ (s : StayingWords). AreStaying s c.args.node.now.kind c.args.node.now c.args.self.now c.args.plan.now.row) w.in-Whole.is c.requires.plan in
      (whole_trims c.args.plan.now.row c.args.node.now c.args.self.now c.match-plan.self plan).0
  | in-Masks w ↦
      let plan = subst (λ (s : StayingWords). AreStaying s c.args.node.now.kind c.args.node.now c.args.self.now c.args.plan.now.row) w.in-Masks.is c.requires.plan in
      let now : c.match-plan.self.masks ≡ w.in-Masks.masks = ap (λ (k : NodeWords). k.masks) w.self-is ∙ w.become_like.ensures in
      (masks_trim c.args.plan.now.row c.args.node.now c.args.self.now c.match-plan.self w.in-Masks.masks plan.0 plan.1 now).0
  | in-Linked w ↦
      let plan = subst (λ (s : StayingWords). AreStaying s c.args.node.now.kind c.args.node.now c.args.self.now c.args.plan.now.row) w.in-Linked.is c.requires.plan in
      subst (λ (after : NodeWords). IsTrimmed (in_row c.args.plan.now.row) c.args.node.now c.args.self.now after) (sym w.self-is)
      (links_trim c.args.plan.now.row c.args.node.now c.args.self.now w.cut_links.new.self w.in-Linked.links plan.0 c.requires.node plan.1
      w.cut_links.ensures).0
  | in-Table w ↦
      let plan = subst (λ (s : StayingWords). AreStaying s c.args.node.now.kind c.args.node.now c.args.self.now c.args.plan.now.row) w.in-Table.is c.requires.plan in
      subst (λ (after : NodeWords). IsTrimmed (in_row c.args.plan.now.row) c.args.node.now c.args.self.now after) (sym w.self-is)
      (table_trims c.args.plan.now.row c.args.node.now c.args.self.now w.cut_table.new.self w.in-Table.links w.in-Table.table plan.0 c.requires.node plan.1 plan.2
      w.cut_table.ensures).0
  | in-Lengths w ↦
      let plan = subst (λ (s : StayingWords). AreStaying s c.args.node.now.kind c.args.node.now c.args.self.now c.args.plan.now.row) w.in-Lengths.is c.requires.plan in
      subst (λ (after : NodeWords). IsTrimmed (in_row c.args.plan.now.row) c.args.node.now c.args.self.now after) (sym w.self-is)
      (lengths_trim c.args.plan.now.row c.args.node.now c.args.self.now w.cut_lengths.new.self w.in-Lengths.lengths plan.0 c.requires.node plan.1
      (subst (λ (chunk : ℕ). HasCutLengths w.in-Lengths.lengths chunk c.args.self.now w.cut_lengths.new.self) w.chunk_of.ensures w.cut_lengths.ensures)).0
]
