use Rattle.std.proofs.Common.{◌≡◌, ℕ, ◌+◌, ◌-◌, ◌<◌, [], ◌∷◌, ◌++◌, Some, refl, sym, ap, ◌∙◌, arith}
use Rattle.sg_layout.specs.Slots.{coordinate_of}
use Rattle.sg_store.specs.Walks.{cell_in}
use Rattle.sg_exec.specs.Runs.{along, run_write}
use Rattle.sg_exec.proofs.RowsLand.{landed_one}
use Rattle.sg_exec.proofs.loads.landing_runs.land_row.Goals as goal

pub returns : goal.returns
returns c = λ _.
    let store = c.args.store.now in
    let run = c.args.run in
    let block = c.requires.is in
    let j = c.args.k - c.args.block.from in
    let low : j < c.args.block.room = omega (arith, c.requires.from, c.requires.to) in
    let number : c.args.block.from + j ≡ c.args.k = omega (arith, c.requires.from) in
    let path = block.path ++ (c.args.block.offset + j) ∷ [] in
    let is_at : along c.args.k run.at ≡ coordinate_of store.shape path = ap (λ (k : ℕ). along k run.at) (sym number) ∙ sym (block.rows j low) in
    let cell_is : cell_in store (along c.args.k run.at) ≡ Some c.cell_at-cell.result =
    ap (cell_in store) is_at ∙ c.cell_at-cell.ensures.at path (c.in-Some.ensures.below block.path block.leads) in
    let write = run_write c.args.layout c.args.place run c.args.k in
    landed_one store c.put_cell.new.store write c.cell_at-cell.result (c.cells_are_active.ensures.active store) c.layout.ensures.well_formed c.put_cell.ensures.same cell_is
    (λ flat stands active. c.put_cell.ensures.lands flat stands write (record { place = refl; way = refl; value = refl; cell = λ inside. sym cell_is }) active)
