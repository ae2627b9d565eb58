use Rattle.std.proofs.Common.{[], List, sym, subst}
use Rattle.sg_layout.specs.declared.shape.Shape.{Shape}
use Rattle.sg_exec.specs.Running.{load_meaning}
use Rattle.std.specs.List.{AllZip}
use Rattle.sg_store.specs.StoreWords.{StoreWords}
use Rattle.sg_store.specs.Links.{GrowsLinks}
use Rattle.sg_exec.proofs.Answering.{ran_ok, ran_err}
use Rattle.sg_exec.proofs.LinksKept.{links_itself}
use Rattle.sg_exec.proofs.run.load_rows.Goals as goal

pub returns-in_err-copies-clause-answer : goal.returns-in_err-copies-clause-answer
returns-in_err-copies-clause-answer g c = λ state stand.
    ran_err {A = Unit {0}} (λ _. []) (λ (shapes : List Shape). load_meaning shapes state c.args.rows.now) c.args.layouts.now.list c.args.stores.now.list _ c.from_residual.result c.in_err-copies.field-0.0 stand.shapes_are c.from_residual.ensures.1
    (c.in_err-copies.ensures.ran state stand.stand)

pub returns-clause-answer : goal.returns-clause-answer
returns-clause-answer g c = λ state stand.
    ran_ok (λ (shapes : List Shape). load_meaning shapes state c.args.rows.now) c.args.layouts.now.list c.args.stores.now.list _ _ stand.shapes_are c.settle.ensures
    (c.in_ok-copies.ensures.ran state stand.stand)

pub returns-in_err-copies-clause-links : goal.returns-in_err-copies-clause-links
returns-in_err-copies-clause-links g c = links_itself c.args.stores.now.list

pub returns-clause-links : goal.returns-clause-links
returns-clause-links g c = subst (λ (ss : List StoreWords). AllZip GrowsLinks c.args.stores.now.list ss) (sym c.settle.ensures) c.in_ok-copies.ensures.links
