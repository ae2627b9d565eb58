use Rattle.std.proofs.Common.{ℕ, List, [], Result, Ok, Err, ap, subst, ◌∙◌}
use Rattle.std.specs.Result.{IfOk}
use Rattle.sg_words.specs.declared.spreads.Link.{Link}
use Rattle.sg_admit.specs.declared.hangs.Hangs.{Hangs}
use Rattle.sg_admit.specs.Lines.{block_lines}
use Rattle.sg_words.specs.Spread.{IsLeastSpread}
use Rattle.sg_admit.proofs.LeastGiven.{least_given}
use Rattle.sg_admit.proofs.hangs.dirty_vars.Goals as goal

if_ok : {A E : Type 0} (P Q : A → Type 0) (result : Result A E) → ((x : A) → P x → Q x) → IfOk result P → IfOk result Q
if_ok P Q (Ok x) h p = h x p
if_ok P Q (Err e) h p = p

abbrev hangs_with : List Link → List ℕ → Hangs
hangs_with links start = record { links = record { links = links; start = start }; ifs = 1 }

pub returns : goal.returns
returns c =
    let begun = ap (λ (links : List Link). hangs_with links c.new-2.result) c.new.ensures ∙ ap (hangs_with []) c.new-2.ensures in
    let links = subst (λ (links : List Link). IsLeastSpread links c.as_slice-2.result.now c.in_ok-marks.marks) c.as_slice.ensures c.in_ok-marks.ensures in
    let spread = subst (λ (start : List ℕ). IsLeastSpread c.block.new.self.links.links start c.in_ok-marks.marks) c.as_slice-2.ensures links in
    if_ok _ _ c.marks_from.result
    (λ dirty same. least_given c.args.text.now (block_lines c.args.body.now) (hangs_with c.new.result c.new-2.result) c.block.new.self c.in_ok-marks.marks dirty c.in_ok-block.ensures begun c.requires spread same)
    c.marks_from.ensures
