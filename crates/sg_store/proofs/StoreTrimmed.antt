-- A store whose nodes are trimmed to cells that are reached: it is well-formed, has only lost links, and what it stands for.
use Rattle.std.proofs.Common.{◌≡◌, ℕ, Bool, true, false, List, [], length, sym, ap, ◌∙◌, subst}
use Rattle.std.specs.List.{All}
use Rattle.std.proofs.lemmas.Bool.{false≢true}
use Rattle.sg_coord.specs.Bounds.{IsBounds}
use Rattle.sg_layout.specs.declared.shape.NodeShape.{NodeShape}
use Rattle.sg_layout.specs.declared.shape.Shape.{Shape}
use Rattle.sg_layout.specs.Axes.{bounds_of_shape}
use Rattle.sg_layout.specs.PathLaws.{SlotsFillVolume}
use Rattle.sg_layout.specs.RuleLaws.{AcceptedKeepsRules}
use Rattle.sg_store.specs.declared.node.NodeWords.{NodeWords}
use Rattle.sg_store.specs.declared.node_plan.NodePlan.{NodePlan}
use Rattle.sg_store.specs.StoreWords.{StoreWords}
use Rattle.sg_store.specs.WellFormed.{IsReached, IsWellFormed, cell_count}
use Rattle.sg_store.specs.Links.{GrowsLinks}
use Rattle.sg_store.specs.steps.Fresh.{IsZeroRow}
use Rattle.sg_store.specs.steps.KeptWords.{in_row}
use Rattle.sg_store.specs.steps.StorePlans.{ArePlans, ArePlanned, AreTrimmedTo}
use Rattle.sg_store.proofs.RowTests.{same_test}
use Rattle.sg_store.proofs.TrimmedWalks.{AreSized}
use Rattle.sg_store.proofs.TrimmedStore.{TrimsStore, with_words, AreKeptRows, trimmed_well_formed}
use Rattle.sg_store.proofs.StorePlans.{store_long}
use Rattle.sg_store.proofs.StoreTrims.{planned, all_trimmed, all_capped, all_parted, links_shrink}
use Rattle.sg_store.proofs.SizedNodes.{store_sized}

-- nodes that are trimmed by their plans
pub record HasTrimmed (store : StoreWords) (cells : ℕ → Bool) (plans : List NodePlan) (afters : List NodeWords) : Type 0 where
  pub well : IsWellFormed store
  pub sized : AreSized store.shape.nodes
  pub reached : (cell : ℕ) → cells cell ≡ true → IsReached store cell
  pub planned : ArePlans store cells plans
  pub done : AreTrimmedTo store.shape.nodes store.nodes afters plans (length store.shape.nodes)

-- the laws that tell it
pub record TrimLaws (shape : Shape) : Type 0 where
  pub rules : AcceptedKeepsRules shape
  pub fill : SlotsFillVolume shape
  pub bounds : IsBounds (bounds_of_shape shape)

laws_sized : (store : StoreWords) → TrimLaws store.shape → IsWellFormed store → AreSized store.shape.nodes
laws_sized store laws well = store_sized store well laws.rules laws.fill laws.bounds

-- as the code has it: by plans that are read, of a store whose value is `store`
pub fit_plans : (inside store : StoreWords) (row : List Bool) (plans read : List NodePlan) (shapes : List NodeShape) → inside ≡ store → IsWellFormed inside → TrimLaws inside.shape → ArePlans store (in_row row) plans → read ≡ plans → shapes ≡ inside.shape.nodes → ArePlanned shapes inside.nodes read
fit_plans inside store row plans read shapes view well laws are same_plans same_shapes =
    subst (λ (ns : List NodeShape). ArePlanned ns inside.nodes read) (sym same_shapes)
    (subst (ArePlanned inside.shape.nodes inside.nodes) (sym same_plans)
    (planned inside (in_row row) plans well laws.rules (laws_sized inside laws well) (subst (λ (s : StoreWords). ArePlans s (in_row row) plans) (sym view) are)))

pub as_many : (inside : StoreWords) (shapes : List NodeShape) → IsWellFormed inside → shapes ≡ inside.shape.nodes → length inside.nodes ≡ length shapes
as_many inside shapes well same = store_long inside well ∙ ap length (sym same)

pub run : (inside store : StoreWords) (cells : ℕ → Bool) (row : List Bool) (plans read : List NodePlan) (shapes : List NodeShape) (afters : List NodeWords) → inside ≡ store → IsWellFormed inside → TrimLaws inside.shape → ((cell : ℕ) → in_row row cell ≡ cells cell) → ((cell : ℕ) → cells cell ≡ true → IsReached inside cell) → ArePlans store (in_row row) plans → read ≡ plans → shapes ≡ inside.shape.nodes → AreTrimmedTo shapes inside.nodes afters read (length shapes) → HasTrimmed inside cells plans afters
run inside store cells row plans read shapes afters view well laws is reached are same_plans same_shapes trimmed = record {
  well = well;
  sized = laws_sized inside laws well;
  reached = reached;
  planned = subst (λ (f : ℕ → Bool). ArePlans inside f plans) (same_test (in_row row) cells is) (subst (λ (s : StoreWords). ArePlans s (in_row row) plans) (sym view) are);
  done = subst (λ (ns : List NodeShape). AreTrimmedTo ns inside.nodes afters plans (length ns)) same_shapes (subst (λ (ps : List NodePlan). AreTrimmedTo shapes inside.nodes afters ps (length shapes)) same_plans trimmed);
}

pub run_trims : (store : StoreWords) (cells : ℕ → Bool) (plans : List NodePlan) (afters : List NodeWords) → HasTrimmed store cells plans afters → TrimsStore store afters cells
run_trims store cells plans afters has = record {
  well = has.well;
  sized = has.sized;
  reached = has.reached;
  trimmed = all_trimmed store cells plans afters has.well has.planned has.done;
}

pub run_well : (store : StoreWords) (cells : ℕ → Bool) (plans : List NodePlan) (afters : List NodeWords) (fields : List (List ℕ)) → HasTrimmed store cells plans afters → length fields ≡ length store.shape.fields → AreKeptRows store cells fields → IsWellFormed (with_words store afters fields)
run_well store cells plans afters fields has many rows =
    trimmed_well_formed store afters fields cells (run_trims store cells plans afters has)
    (all_capped store cells plans afters has.well has.planned has.done) (all_parted store cells plans afters has.well has.planned has.done) many rows

pub run_links : (store : StoreWords) (cells : ℕ → Bool) (plans : List NodePlan) (afters : List NodeWords) (fields : List (List ℕ)) → HasTrimmed store cells plans afters → IsWellFormed (with_words store afters fields) → GrowsLinks (with_words store afters fields) store
run_links store cells plans afters fields has now =
    links_shrink store afters fields cells has.well (all_trimmed store cells plans afters has.well has.planned has.done) now

-- ── Rows of zeros ──

pub zero_kept : (store : StoreWords) (cells : ℕ → Bool) (fields : List (List ℕ)) → All (IsZeroRow (cell_count store.shape)) fields → AreKeptRows store cells fields
zero_kept store cells fields zeros k d below =
    let row = zeros k d below in (row.long, λ cell some. absurd (some (row.zero cell)))

pub none_in_row : (row : List Bool) → row ≡ [] → (cell : ℕ) → in_row row cell ≡ false
none_in_row row none cell = ap (λ (r : List Bool). in_row r cell) none

pub none_reached : (store : StoreWords) (cell : ℕ) → false ≡ true → IsReached store cell
none_reached store cell on = absurd (false≢true on)
