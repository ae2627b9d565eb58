use Rattle.std.proofs.Common.{◌≡◌, ◌*◌, ℕ, List, Bool, eqb, get_or, refl, sym, subst, arith, w32}
use Rattle.std.specs.Prelude.{replicate}
use Rattle.std.proofs.lemmas.Simd.{tops_compared}
use lib.Lanes.{sel_l, chunk, put_chunk}
use Rattle.sg_exec.specs.steps.Rows.{On, IsPut}
use Rattle.sg_exec.proofs.Rows.{stored_all, stored_on}
use Rattle.sg_exec.proofs.lanes.row.put_row.Goals as goal

pub returns-then-columns : goal.returns-then-columns
returns-then-columns c =
    stored_all (λ k word. word ≡ get_or c.args.words k 0) (On c.args.columns.now.on) c.args.words c.args.items.now c.args.to c.fits-words.0 (omega (arith, c.requires)) (c.args.columns.now.whole c.if-columns.true) (λ k small. refl)

pub returns-else-columns : goal.returns-else-columns
returns-else-columns c =
    let old = c.args.items.now in
    let to = c.args.to in
    subst (λ (ms : List Bool). IsPut (λ k word. word ≡ get_or c.args.words k 0) (On c.args.columns.now.on) to 0 old (put_chunk (to * 32) old (sel_l {A = ℕ} ms (chunk (to * 32) 32 old) c.args.words))) (sym (tops_compared w32 eqb c.args.columns.now.on (replicate 32 0)))
    (stored_on (λ k word. word ≡ get_or c.args.words k 0) c.args.columns.now.on c.args.words old to c.args.columns.now.long c.fits-words.0 (omega (arith, c.requires)) (λ k small. refl))
