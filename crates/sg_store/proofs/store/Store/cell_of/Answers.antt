use Rattle.std.proofs.Common.{◌≡◌, ap, ◌∙◌, sym, subst, arith, true}
use Rattle.std.specs.Prelude.{Some, None, IsSome, ◌↔◌}
use Rattle.std.specs.List.{Contains}
use Rattle.sg_store.specs.StoreWords.{StoreWords}
use Rattle.sg_store.specs.Walks.{cell_in}
use Rattle.sg_store.specs.WellFormed.{IsWellFormed}
use Rattle.sg_store.proofs.CellWords as lemmas
use Rattle.sg_store.proofs.store.Store.cell_of.Goals as goal

pub returns-then-not-inside-clause-active : goal.returns-then-not-inside-clause-active
returns-then-not-inside-clause-active c = λ flat stands.
    let store : StoreWords = c.args.self.now in
    let well : IsWellFormed store = subst IsWellFormed c.self.view_is c.self.invariant in
    let none : cell_in store c.args.at ≡ None =
    lemmas.none_outside store _ _ c.args.at c.extents.ensures.value (ap (λ (s : StoreWords). s.shape) c.self.view_is) (sym c.inside.ensures.value ∙ c.if-not-inside.true) in
    subst (λ cell. IsSome cell ↔ Contains flat.active c.args.at) none (c.cells_are_active.ensures.active store well flat stands c.args.at)

pub returns-in_err-cell-clause-active : goal.returns-in_err-cell-clause-active
returns-in_err-cell-clause-active c = λ flat stands.
    let store : StoreWords = c.args.self.now in
    let well : IsWellFormed store = subst IsWellFormed c.self.view_is c.self.invariant in
    let inside : c.inside.result ≡ true = c.if-not-inside.false in
    let led = lemmas.cell_inside store _ _ c.args.at c.nodes.result c.place_of.result (c.paths_tell.ensures.whole store.shape) c.extents.ensures.value
    (ap (λ (s : StoreWords). s.shape) c.self.view_is) (sym c.inside.ensures.value ∙ inside) c.nodes.ensures.value c.place_of.ensures in
    let none : cell_in store c.args.at ≡ c.from_residual.result = sym led ∙ c.in_err-cell.was ∙ sym c.from_residual.ensures in
    subst (λ cell. IsSome cell ↔ Contains flat.active c.args.at) none (c.cells_are_active.ensures.active store well flat stands c.args.at)

found : (c : goal.In_ok-cell) → cell_in c.args.self.now c.args.at ≡ Some c.in_ok-cell.cell
found c =
    let store : StoreWords = c.args.self.now in
    let inside : c.inside.result ≡ true = c.if-not-inside.false in
    let led = lemmas.cell_inside store _ _ c.args.at c.nodes.result c.place_of.result (c.paths_tell.ensures.whole store.shape) c.extents.ensures.value
    (ap (λ (s : StoreWords). s.shape) c.self.view_is) (sym c.inside.ensures.value ∙ inside) c.nodes.ensures.value c.place_of.ensures in
    sym led ∙ c.in_ok-cell.was

pub overflow_cast-result : goal.overflow_cast-result
overflow_cast-result c =
    let store : StoreWords = c.args.self.now in
    let well : IsWellFormed store = subst IsWellFormed c.self.view_is c.self.invariant in
    omega (arith, lemmas.cell_small store (c.paths_tell.ensures.is_slot store.shape) (c.paths_tell.ensures.whole store.shape) well c.args.at c.in_ok-cell.cell (found c))

pub returns-clause-active : goal.returns-clause-active
returns-clause-active c = λ flat stands.
    let store : StoreWords = c.args.self.now in
    let well : IsWellFormed store = subst IsWellFormed c.self.view_is c.self.invariant in
    subst (λ cell. IsSome cell ↔ Contains flat.active c.args.at) (found c) (c.cells_are_active.ensures.active store well flat stands c.args.at)

pub returns-clause-differs : goal.returns-clause-differs
returns-clause-differs c = λ other cell mine theirs.
    let store : StoreWords = c.args.self.now in
    let well : IsWellFormed store = subst IsWellFormed c.self.view_is c.self.invariant in
    c.cells_are_active.ensures.differ store well other c.args.at cell theirs (found c ∙ mine)
