use Rattle.std.proofs.Common.{◌≡◌, ℕ, List, length, replicate, sym, ap, ◌∙◌, subst, arith}
use Rattle.sg_store.specs.steps.KeptTables.{IsKeptSoFar}
use Rattle.sg_store.proofs.TablesKept.{none_put, all_put}
use Rattle.sg_store.proofs.WordsInUse.{table_next, table_end}
use Rattle.sg_store.proofs.kept_table.kept_table.Goals as goal

pub loop-next-init : goal.loop-next-init
loop-next-init c =
    let kept : c.in_ok-kept.kept ≡ replicate (length c.args.keys.now) 0 = c.in_ok-kept.ensures ∙ ap (λ n. replicate n 0) c.len.ensures in
    let beside : c.in_ok-beside.beside ≡ replicate (length c.args.keys.now) 0 = c.in_ok-beside.ensures ∙ ap (λ n. replicate n 0) c.len-2.ensures in (
      subst (λ (k : List ℕ). IsKeptSoFar c.args.keys.now c.args.links.now c.args.row.now k c.in_ok-beside.beside 0) (sym kept)
          (subst (λ (b : List ℕ). IsKeptSoFar c.args.keys.now c.args.links.now c.args.row.now (replicate (length c.args.keys.now) 0) b 0) (sym beside)
          (none_put c.args.keys.now c.args.links.now c.args.row.now)),
      omega arith,
    )

pub put_kept-requires-clause-so_far : goal.put_kept-requires-clause-so_far
put_kept-requires-clause-so_far c =
    let at = c.in-Some.ensures.next in
    table_next c.args.keys.now c.args.links.now c.args.row.now c.loop-next.kept c.loop-next.beside c.loop-next.place c.in-Some.next c.requires at.0 at.1 at.3 c.loop-next.invariant.0

pub returns : goal.returns
returns c =
    all_put c.args.keys.now c.args.links.now c.args.row.now c.loop-next.kept c.loop-next.beside (length c.args.keys.now) c.requires (omega arith)
    (table_end c.args.keys.now c.args.links.now c.args.row.now c.loop-next.kept c.loop-next.beside c.loop-next.place c.requires c.loop-next.invariant.1 c.in_default.ensures.next c.loop-next.invariant.0)
