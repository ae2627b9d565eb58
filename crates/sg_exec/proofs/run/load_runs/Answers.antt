use Rattle.std.proofs.Common.{List, sym, subst}
use Rattle.std.specs.List.{AllZip}
use Rattle.sg_layout.specs.declared.shape.Shape.{Shape}
use Rattle.sg_store.specs.StoreWords.{StoreWords}
use Rattle.sg_store.specs.Links.{GrowsLinks}
use Rattle.sg_exec.specs.Runs.{writes_of_runs}
use Rattle.sg_exec.specs.Running.{load_meaning}
use Rattle.sg_exec.proofs.Answering.{ran_ok}
use Rattle.sg_exec.proofs.LinksKept.{links_itself}
use Rattle.sg_exec.proofs.run.load_runs.Goals as goal

pub returns-in-Ok-Some-clause-answer : goal.returns-in-Ok-Some-clause-answer
returns-in-Ok-Some-clause-answer g c = λ state stand.
    let ran = rw c.in-Ok-Some.field-0-is at c.in-Ok-Some.ensures.ran in
    ran_ok (λ (shapes : List Shape). load_meaning shapes state (writes_of_runs c.args.layout c.args.place c.args.runs.now)) c.args.layouts.now.list c.args.stores.now.list _ _ stand.shapes_are c.settle.ensures
    (ran state stand.stand)

pub returns-in-Ok-Some-clause-links : goal.returns-in-Ok-Some-clause-links
returns-in-Ok-Some-clause-links g c =
    let links = rw c.in-Ok-Some.field-0-is at c.in-Ok-Some.ensures.links in
    subst (λ (after : List StoreWords). AllZip GrowsLinks c.args.stores.now.list after) (sym c.settle.ensures) links

pub returns-in-Err-clause-links : goal.returns-in-Err-clause-links
returns-in-Err-clause-links g c = links_itself c.args.stores.now.list
