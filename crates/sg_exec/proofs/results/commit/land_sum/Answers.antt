use Rattle.std.proofs.Common.{◌≡◌, length, refl, sym, ap, ◌∙◌, subst, arith}
use Rattle.std.specs.Prelude.{Some, slice_get}
use Rattle.std.proofs.lemmas.Option.{slice_get_read, slice_get_within}
use Rattle.sg_store.specs.StoreWords.{StoreWords}
use Rattle.sg_exec.specs.steps.Landing.{HasTree}
use Rattle.sg_exec.specs.steps.Made.{words_of}
use Rattle.sg_exec.proofs.SumsStand.{lands_field}
use Rattle.sg_exec.proofs.SumsPut.{tree_row}
use Rattle.sg_exec.proofs.TreesKept.{trees_itself, trees_long, tree_there, trees_set, set_other}
use Rattle.sg_exec.proofs.SumsLanded.{fresh_put}
use Rattle.sg_exec.proofs.results.commit.land_sum.Goals as goal

pub returns-then-len-number-clause-trees : goal.returns-then-len-number-clause-trees
returns-then-len-number-clause-trees c = trees_itself c.args.stores.now.items

pub returns-then-len-number-clause-lands : goal.returns-then-len-number-clause-lands
returns-then-len-number-clause-lands c = λ base writes trees is fresh.
    let layout = c.args.sum.now.layout in
    let long = trees_long base c.args.stores.now.items trees in
    let there : slice_get base layout ≡ Some is.pass.store = ap (slice_get base) (sym is.layout_is) ∙ is.pass.there in
    let below = slice_get_within base layout is.pass.store there in
    absurd (omega (arith, long, below))

pub put_sum-requires : goal.put_sum-requires
put_sum-requires c =
    let olds = c.args.stores.now.items in
    let layout = c.args.sum.now.layout in
    let at : slice_get olds layout ≡ Some c.index_mut-store.result.now = slice_get_read olds (length olds) layout c.index_mut-store.result.now refl (omega arith) c.index_mut-store.ensures.value in
    let both = c.requires.row c.index_mut-store.result.now at in
    record { field = both.0; row = both.1 }

pub returns-clause-trees : goal.returns-clause-trees
returns-clause-trees c =
    let olds = c.args.stores.now.items in
    let layout = c.args.sum.now.layout in
    let old = c.index_mut-store.result.now in
    let at : slice_get olds layout ≡ Some old = slice_get_read olds (length olds) layout old refl (omega arith) c.index_mut-store.ensures.value in
    trees_set olds layout old c.put_sum.new.store at (subst (λ (s : StoreWords). HasTree old s) (sym c.put_sum.ensures.set) (tree_row old old c.args.sum.now.field (words_of c.args.sum.now) refl))

pub returns-clause-fresh : goal.returns-clause-fresh
returns-clause-fresh c = λ base layout field apart fresh.
    let olds = c.args.stores.now.items in
    let sum = c.args.sum.now in
    let old = c.index_mut-store.result.now in
    let at : slice_get olds sum.layout ≡ Some old = slice_get_read olds (length olds) sum.layout old refl (omega arith) c.index_mut-store.ensures.value in
    fresh_put base olds sum.layout sum.field layout field old c.put_sum.new.store (words_of sum) c.put_sum.ensures.set at apart fresh

pub returns-clause-lands : goal.returns-clause-lands
returns-clause-lands c = λ base writes trees is fresh.
    let olds = c.args.stores.now.items in
    let sum = c.args.sum.now in
    let old = c.index_mut-store.result.now in
    let now = c.put_sum.new.store in
    let at : slice_get olds sum.layout ≡ Some old = slice_get_read olds (length olds) sum.layout old refl (omega arith) c.index_mut-store.ensures.value in
    let found = tree_there base olds sum.layout old trees at in
    lands_field olds sum.layout sum.field old now writes at (ap (λ (s : StoreWords). s.shape) c.put_sum.ensures.set)
    (λ flat stands active. c.put_sum.ensures.lands base found.0 writes is found.1.0 found.1.1 (fresh found.0 old found.1.0 at) flat stands active)

pub returns-clause-kept : goal.returns-clause-kept
returns-clause-kept c = λ layout apart. set_other c.args.stores.now.items c.args.sum.now.layout layout c.put_sum.new.store apart
