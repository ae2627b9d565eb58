use Rattle.std.proofs.Common.{ℕ, List, [], ◌∷◌, ◌++◌, map, sym, ap, ◌∙◌, append_assoc, arith}
use Rattle.std.specs.List.{range_with_len}
use Rattle.std.proofs.lemmas.List.FromFn.{map-range_with_len_more}
use Rattle.std.proofs.lemmas.List.{map_push}
use Rattle.sg_flat.specs.declared.effects.Write.{Write}
use Rattle.sg_grid.specs.declared.grid.GridRow.{GridRow}
use Rattle.sg_grid.specs.Runs.{along}
use Rattle.sg_session.specs.Commands.{row_write}
use Rattle.sg_session.proofs.grids.push_run.Goals as goal

pub loop-k-preserved : goal.loop-k-preserved
loop-k-preserved c =
    let before = c.args.writes.now in
    let k = c.loop-k.k in
    let write = row_write c.args.at.layout c.args.at.place in
    let row : ℕ → GridRow = λ k. record { at = along k c.args.run.at; word = c.args.run.word } in
    let rows = map row (range_with_len 0 k) in
    c.in_ok-push.ensures.ok
    ∙ ap (λ (it : GridRow). c.loop-k.writes ++ write it ∷ []) c.row_of_run-row.ensures
    ∙ ap (λ (writes : List Write). writes ++ write (row k) ∷ []) c.loop-k.invariant
    ∙ append_assoc before (map write rows) (write (row k) ∷ [])
    ∙ ap (λ (writes : List Write). before ++ writes) (sym (map_push write rows (row k)))
    ∙ ap (λ (rows : List GridRow). before ++ map write rows) (sym (map-range_with_len_more row 0 k k (omega arith)))
