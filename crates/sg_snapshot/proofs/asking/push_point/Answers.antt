use Rattle.std.proofs.Common.{◌++◌, ℕ, List, Option, sym, ap, ◌∙◌, subst}
use Rattle.std.specs.Prelude.{All}
use Rattle.std.proofs.lemmas.List.{append-nil}
use Rattle.std.proofs.lemmas.List.Elements.{All-push}
use Rattle.sg_store.specs.WellFormed.{IsReached}
use Rattle.sg_snapshot.specs.Numbers.{number_bytes, bytes_of}
use Rattle.sg_snapshot.specs.steps.Asking.{row_if, cell_if}
use Rattle.sg_snapshot.proofs.asking.push_point.Goals as goal

pub returns-in-None : goal.returns-in-None
returns-in-None c =
    let bytes = c.args.bytes.now.items in
    let cells = c.args.cells.now.items in
    record {
      reached = λ all. all;
      rows = sym (append-nil bytes) ∙ ap (λ (o : Option ℕ). bytes ++ bytes_of (row_if o c.args.row)) c.in-None.ensures.value;
      cells = sym (append-nil cells) ∙ ap (λ (o : Option ℕ). cells ++ cell_if o) c.in-None.ensures.value;
    }

pub returns-in_ok-push_number-in-Some : goal.returns-in_ok-push_number-in-Some
returns-in_ok-push_number-in-Some c =
    let bytes = c.args.bytes.now.items in
    let cells = c.args.cells.now.items in
    record {
      reached = λ all. subst (λ (l : List ℕ). All (IsReached c.args.store.now) l) (sym c.in_ok-push-in-Some.ensures.items) (All-push (IsReached c.args.store.now) cells c.in-Some.cell all c.in-Some.ensures.reached);
      rows = c.in_ok-push_number-in-Some.ensures
          ∙ ap (λ (l : List ℕ). bytes ++ l) (sym (append-nil (number_bytes c.args.row)))
          ∙ ap (λ (o : Option ℕ). bytes ++ bytes_of (row_if o c.args.row)) c.in-Some.ensures.value;
      cells = c.in_ok-push-in-Some.ensures.items ∙ ap (λ (o : Option ℕ). cells ++ cell_if o) c.in-Some.ensures.value;
    }
