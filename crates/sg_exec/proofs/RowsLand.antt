-- Rows of runs that land in a store: what stays, one row after another, and all of them in the stores.
use Rattle.std.proofs.Common.{◌≡◌, ℕ, zero, suc, ◌+◌, List, [], ◌∷◌, ◌++◌, Option, Some, inl, inr, refl, sym, ap, ◌∙◌, subst, arith}
use Rattle.std.specs.Prelude.{filter, slice_get, slice_set, is_some, Contains, IsSome}
use Rattle.std.specs.List.{AllZip, range_with_len}
use Rattle.std.proofs.lemmas.Bool.{cond-false}
use Rattle.std.proofs.lemmas.Option.{same_Some}
use Rattle.std.proofs.lemmas.List.Elements.{Contains-append_cases}
use Rattle.sg_words.proofs.Uses.{contains_none, contains_head, contains_rest, contains_cases, from_map}
use Rattle.sg_coord.specs.Bounds.{Bounds}
use Rattle.sg_layout.specs.declared.shape.Shape.{Shape}
use Rattle.sg_layout.specs.Axes.{bounds_of_shape}
use Rattle.sg_flat.specs.declared.effects.Write.{Write}
use Rattle.sg_flat.specs.declared.state.FlatLayout.{FlatLayout}
use Rattle.sg_flat.specs.Effects.{is_to}
use Rattle.sg_store.specs.declared.spot.Spot.{Spot}
use Rattle.sg_store.specs.StoreWords.{StoreWords}
use Rattle.sg_store.specs.StoreLaws.{CellsAreActive}
use Rattle.sg_store.specs.StandsFor.{StandsFor}
use Rattle.sg_store.specs.Spots.{LeadsAlong}
use Rattle.sg_store.specs.Walks.{cell_in}
use Rattle.sg_store.specs.WellFormed.{IsWellFormed}
use Rattle.sg_exec.specs.declared.loads.row_run.RowRun.{RowRun}
use Rattle.sg_exec.specs.declared.loads.blocks.Block.{Block}
use Rattle.sg_exec.specs.Standing.{shapes_of}
use Rattle.sg_exec.specs.Runs.{run_write, run_writes, writes_of_runs}
use Rattle.sg_exec.specs.steps.Blocks.{IsBlock, RowsLanded}
use Rattle.sg_exec.specs.steps.Landing.{landed_layout, landed_layouts, HasTree, Lands}
use Rattle.sg_exec.proofs.CellsLanded.{tree_then, tree_shape}
use Rattle.sg_exec.proofs.FieldsLanded.{landed_more, layout_kept}
use Rattle.sg_exec.proofs.OneWrite.{not_to}
use Rattle.sg_exec.proofs.StoresLanded.{others_stand, shapes_set}

-- ---- places stay where nothing but fields changes

leads_with : (store : StoreWords) (fields : List (List ℕ)) (spot : Spot) (path : List ℕ) → LeadsAlong store spot path → LeadsAlong (record store { fields = fields }) spot path
leads_with store fields spot path is = record { node = is.node; is_slot = is.is_slot; within = is.within; leads = is.leads }

block_with : (store : StoreWords) (fields : List (List ℕ)) (run : RowRun) (block : Block) → IsBlock store run block → IsBlock (record store { fields = fields }) run block
block_with store fields run block is = record {
  path = is.path;
  leads = leads_with store fields block.front is.path is.leads;
  last = is.last;
  few = is.few;
  rows = is.rows;
}

pub block_tree : (store copy : StoreWords) (run : RowRun) (block : Block) → HasTree store copy → IsBlock store run block → IsBlock copy run block
block_tree store copy run block tree is = subst (λ (s : StoreWords). IsBlock s run block) (sym tree) (block_with store copy.fields run block is)

-- ---- one row after another

abbrev made : FlatLayout → List (List (ℕ × ℕ)) → FlatLayout
made flat fields = record { active = flat.active; fields = fields }

pub landed_nothing : (store : StoreWords) (layout : ℕ) → RowsLanded store store layout []
landed_nothing store layout = record {
  tree = refl;
  active = λ flat stands write has. absurd (contains_none write has);
  stand = λ flat stands. subst (λ (l : FlatLayout). StandsFor store l) (sym (layout_kept layout store.shape flat [] stands.is_flat (λ other row. refl))) stands;
}

pub landed_then : (old mid now : StoreWords) (layout : ℕ) (earlier later : List Write) → RowsLanded old mid layout earlier → RowsLanded mid now layout later → RowsLanded old now layout (earlier ++ later)
landed_then old mid now layout earlier later first second = record {
  tree = tree_then old mid now first.tree second.tree;
  active = λ flat stands write has. elim (Contains-append_cases earlier later write has) [
    | inl before ↦ first.active flat stands write before
    | inr after ↦ second.active (landed_layout layout old.shape flat earlier) (first.stand flat stands) write after
  ];
  stand = λ flat stands.
      let end : StandsFor now (landed_layout layout old.shape (landed_layout layout old.shape flat earlier) later) =
      subst (λ (shape : Shape). StandsFor now (landed_layout layout shape (landed_layout layout old.shape flat earlier) later)) (tree_shape old mid first.tree)
      (second.stand (landed_layout layout old.shape flat earlier) (first.stand flat stands)) in
      subst (λ (fields : List (List (ℕ × ℕ))). StandsFor now (made flat fields)) (landed_more (bounds_of_shape old.shape) layout 0 old.shape.fields flat.fields earlier later) end;
}

pub landed_next : (old mid now : StoreWords) (layout : ℕ) (earlier later all : List Write) → all ≡ earlier ++ later → RowsLanded old mid layout earlier → RowsLanded mid now layout later → RowsLanded old now layout all
landed_next old mid now layout earlier later all same first second =
    subst (λ (writes : List Write). RowsLanded old now layout writes) (sym same) (landed_then old mid now layout earlier later first second)

pub landed_one : (old now : StoreWords) (write : Write) (cell : ℕ) → CellsAreActive old → IsWellFormed old → HasTree old now → cell_in old write.at ≡ Some cell
    → ((flat : FlatLayout) → StandsFor old flat → Contains flat.active write.at → StandsFor now (landed_layout write.layout old.shape flat (write ∷ [])))
    → RowsLanded old now write.layout (write ∷ [])
landed_one old now write cell cells well tree is step = record {
  tree = tree;
  active = λ flat stands other has. elim (contains_cases other write [] has) [
    | inl same ↦ subst (λ (x : Write). Contains flat.active x.at) same (here flat stands)
    | inr none ↦ absurd (contains_none other none)
  ];
  stand = λ flat stands. step flat stands (here flat stands);
}
  where
    some : IsSome (cell_in old write.at)
    some = ap (λ (o : Option ℕ). is_some o) is

    here : (flat : FlatLayout) → StandsFor old flat → Contains flat.active write.at
    here flat stands = (cells well flat stands write.at).0 some

-- ---- all rows are writes into one layout

pub run_layout : (layout place : ℕ) (runs : List RowRun) (write : Write) → Contains (writes_of_runs layout place runs) write → write.layout ≡ layout
run_layout layout place [] write has = absurd (contains_none write has)
run_layout layout place (run ∷ runs) write has = elim (Contains-append_cases (run_writes layout place run) (writes_of_runs layout place runs) write has) [
  | inl here ↦ (
      let found = from_map (run_write layout place run) (range_with_len 0 run.len) write here in
      ap (λ (w : Write). w.layout) (sym found.2)
      )
  | inr later ↦ run_layout layout place runs write later
]

none_there : (bounds : Bounds) (layout place row : ℕ) (writes : List Write) → ((write : Write) → Contains writes write → write.layout ≡ layout → ⊥) → filter (is_to bounds layout place row) writes ≡ []
none_there bounds layout place row [] apart = refl
none_there bounds layout place row (write ∷ writes) apart =
    cond-false (is_to bounds layout place row write) (write ∷ filter (is_to bounds layout place row) writes) (filter (is_to bounds layout place row) writes)
    (not_to bounds layout place row write (λ same other_place other_row. apart write (contains_head write write writes refl) same))
    ∙ none_there bounds layout place row writes (λ other has. apart other (contains_rest other write writes has))

many_stand : (k i layout : ℕ) (stores : List StoreWords) (flats : List FlatLayout) (now : StoreWords) (writes : List Write) → AllZip StandsFor stores flats → layout ≡ k + i
    → ((write : Write) → Contains writes write → write.layout ≡ layout)
    → ((old : StoreWords) (flat : FlatLayout) → slice_get stores i ≡ Some old → slice_get flats i ≡ Some flat → StandsFor old flat → StandsFor now (landed_layout layout old.shape flat writes))
    → AllZip StandsFor (slice_set stores i now) (landed_layouts k (shapes_of stores) flats writes)
many_stand k i layout [] [] now writes stand at all step = tt
many_stand k i layout [] (flat ∷ flats) now writes stand at all step = absurd stand
many_stand k i layout (store ∷ stores) [] now writes stand at all step = absurd stand
many_stand k zero layout (store ∷ stores) (flat ∷ flats) now writes stand at all step = (
  subst (λ (l : ℕ). StandsFor now (landed_layout l store.shape flat writes)) (omega arith) (step store flat refl refl stand.0),
  others_stand (suc k) stores flats writes stand.1
      (λ bounds other place row from below. none_there bounds other place row writes (λ write has same. omega (arith, at, from, all write has, same))),
)
many_stand k (suc i) layout (store ∷ stores) (flat ∷ flats) now writes stand at all step = (
  subst (λ (l : FlatLayout). StandsFor store l)
      (sym (layout_kept k store.shape flat writes stand.0.is_flat (λ place row. none_there (bounds_of_shape store.shape) k place row writes (λ write has same. omega (arith, at, all write has, same)))))
      stand.0,
  many_stand (suc k) i layout stores flats now writes stand.1 (omega (arith, at)) all step,
)

pub lands_rows : (olds : List StoreWords) (layout : ℕ) (old now : StoreWords) (writes : List Write) → slice_get olds layout ≡ Some old
    → ((write : Write) → Contains writes write → write.layout ≡ layout) → RowsLanded old now layout writes → Lands olds (slice_set olds layout now) writes
lands_rows olds layout old now writes is all landed = record {
  same_shapes = shapes_set olds layout old now is (tree_shape old now landed.tree);
  stand = λ flats stand active.
      many_stand 0 layout layout olds flats now writes stand (let same : layout ≡ 0 + layout = omega arith in same) all
      (λ it flat is_it is_flat stands.
      let same : old ≡ it = same_Some _ _ (sym is ∙ is_it) in
      subst (λ (s : StoreWords). StandsFor now (landed_layout layout s.shape flat writes)) same
      (landed.stand flat (subst (λ (s : StoreWords). StandsFor s flat) (sym same) stands)));
}
