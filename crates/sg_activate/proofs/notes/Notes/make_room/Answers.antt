use Rattle.std.proofs.Common.{◌++◌, [], ◌∷◌, List, refl, ap, ◌∙◌}
use Rattle.sg_activate.specs.declared.found.Found.{Found}
use Rattle.sg_activate.proofs.Looking.{grew_moved}
use Rattle.sg_activate.proofs.notes.Notes.make_room.Goals as goal

pub returns-clause-grew : goal.returns-clause-grew
returns-clause-grew c = grew_moved c.args.self.now _ refl refl (c.replace-list.ensures.after ∙ c.new.ensures)
    (c.in_ok-push.ensures.ok ∙ ap (λ (l : List Found). c.args.self.now.found ++ (record { worker = c.args.self.now.worker; list = l }) ∷ []) c.replace-list.ensures.value)
