use Rattle.std.proofs.Common.{◌≡◌, ℕ, List, length, get_or, sym, ap, subst, arith}
use Rattle.std.specs.Vec.{with_items}
use Rattle.sg_exec.specs.steps.Rows.{On, IsPut}
use Rattle.sg_exec.proofs.RowsMoved.{whole_items}
use Rattle.sg_exec.proofs.lanes.held_rows.put_words.Goals as goal

pub returns : goal.returns
returns c =
    let Words : ℕ → ℕ → Type 0 = λ k word. word ≡ get_or c.args.words k 0 in
    let wrote : (with_items c.args.items.now c.put_row.new.items).items ≡ c.put_row.new.items =
    whole_items c.args.items.now.len c.put_row.new.items c.args.items.now.items (omega (arith, c.put_row.ensures.long, ap length c.as_mut_slice.ensures.value, c.args.items.now.ok.0)) (omega (arith, c.args.items.now.ok.0)) in
    subst (λ (old : List ℕ). IsPut Words (On c.args.columns.now.on) c.args.to 0 old (with_items c.args.items.now c.put_row.new.items).items) c.as_mut_slice.ensures.value
    (subst (λ (new : List ℕ). IsPut Words (On c.args.columns.now.on) c.args.to 0 c.as_mut_slice.result.now new) (sym wrote) c.put_row.ensures)
