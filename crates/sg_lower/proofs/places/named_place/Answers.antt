use Rattle.std.proofs.Common.{ℕ, List, ◌++◌, [], ap}
use Rattle.std.proofs.lemmas.Result.{IfOk-weaker}
use Rattle.std.specs.List.{flat_map}
use Rattle.sg_ir.specs.WellTyped.{sets_step, var_number}
use Rattle.sg_ir.specs.Trimmed.{Ways}
use Rattle.sg_ir.proofs.Uses.{fold-Root, trail-Root}
use Rattle.sg_lower.proofs.SettingVars.{vars_kept_place}
use Rattle.sg_lower.proofs.AskingForms.{quiet_place}
use Rattle.sg_lower.proofs.places.named_place.Goals as goal

pub returns-in-None-clause-vars : goal.returns-in-None-clause-vars
returns-in-None-clause-vars c = vars_kept_place c.root.result _ _ _ _ _ (λ to. ap (λ ss. flat_map var_number (ss ++ [])) (fold-Root sets_step to c.args.layout)) c.root.ensures.puts

pub returns-in-Some-clause-asks : goal.returns-in-Some-clause-asks
returns-in-Some-clause-asks c = IfOk-weaker c.place.result _ _ (λ to typed. (typed c.args.layouts.now.list c.in-Some.ensures.there).plain.asks) c.place.ensures.typed

pub returns-in-Some-clause-comes : goal.returns-in-Some-clause-comes
returns-in-Some-clause-comes c = IfOk-weaker c.place.result _ _ (λ to leads. (leads c.args.layouts.now.list c.in-Some.ensures.there).comes) c.place.ensures.leads

pub returns-in-None-clause-asks : goal.returns-in-None-clause-asks
returns-in-None-clause-asks c = quiet_place c.root.result _ _ _ _ _ (λ to ways. ap (λ (t : List ℕ × Ways). t.0) (trail-Root to c.args.layout ways)) c.root.ensures.puts

pub returns-in-None-clause-comes : goal.returns-in-None-clause-comes
returns-in-None-clause-comes c = IfOk-weaker c.root.result _ _ (λ to reached. (reached []).comes) c.root.ensures.reaches
