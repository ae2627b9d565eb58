use Rattle.std.proofs.Common.{◌++◌, ◌∷◌, [], ℕ, false, List, Option, Some, map, refl, sym, ap, ◌∙◌, subst}
use Rattle.std.specs.Prelude.{All}
use Rattle.std.proofs.lemmas.Bool.{both_ways}
use Rattle.std.proofs.lemmas.List.{map-append}
use Rattle.std.proofs.lemmas.List.Elements.{All-push}
use Rattle.sg_store.specs.WellFormed.{IsReached}
use Rattle.sg_snapshot.proofs.writing.push_cell.Goals as goal

abbrev some_cell : ℕ → Option ℕ
some_cell cell = Some cell

pub returns-in-None : goal.returns-in-None
returns-in-None c = record {
  reached = λ all. all;
  cells = λ flat stands has. absurd (both_ways false refl ((c.in-None.ensures.active flat stands).1 has));
}

pub returns-in_ok-push-in-Some : goal.returns-in_ok-push-in-Some
returns-in_ok-push-in-Some c =
    let cells = c.args.cells.now.items in
    record {
      reached = λ all. subst (λ (l : List ℕ). All (IsReached c.args.store.now) l) (sym c.in_ok-push-in-Some.ensures.items) (All-push (IsReached c.args.store.now) cells c.in-Some.cell all c.in-Some.ensures.reached);
      cells = λ flat stands has.
          ap (map some_cell) c.in_ok-push-in-Some.ensures.items ∙ map-append some_cell cells (c.in-Some.cell ∷ []) ∙ ap (λ (o : Option ℕ). map some_cell cells ++ o ∷ []) c.in-Some.ensures.value;
    }
