use Rattle.std.proofs.Common.{◌≡◌, ◌≤◌, take}
use Rattle.sg_layout.specs.StorageWords.{total_words}
use Rattle.sg_layout.proofs.words.check_total.Given as goal

abbrev pub invariant-loop-layout : goal.invariant-loop-layout
invariant-loop-layout l = (l.total ≡ total_words (take l.layout-index l.layouts.list)) × (l.total ≤ 4194304)
