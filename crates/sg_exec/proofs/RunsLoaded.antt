-- The load of runs: from what their heads have made of the stores and the rows that have landed to what the load means.
use Rattle.std.proofs.Common.{◌≡◌, ℕ, List, map, Option, Some, sym, subst}
use Rattle.std.specs.Prelude.{slice_get, slice_set, unwrap_or, Contains}
use Rattle.std.specs.List.{AllZip}
use Rattle.std.specs.Result.{IsOkAnd}
use Rattle.sg_flat.specs.declared.effects.Write.{Write}
use Rattle.sg_flat.specs.declared.state.FlatState.{FlatState}
use Rattle.sg_store.specs.StoreWords.{StoreWords}
use Rattle.sg_store.specs.StandsFor.{StandsFor}
use Rattle.sg_store.specs.Links.{GrowsLinks}
use Rattle.sg_exec.specs.Standing.{shapes_of, StandForState}
use Rattle.sg_exec.specs.Running.{turn_of, load_meaning}
use Rattle.sg_exec.specs.steps.Asked.{HasAsked}
use Rattle.sg_exec.specs.steps.Blocks.{RowsLanded}
use Rattle.sg_exec.specs.steps.Landing.{current}
use Rattle.sg_exec.proofs.Covered.{CoverLaws, covered}
use Rattle.sg_exec.proofs.LinksKept.{links_over, links_then}
use Rattle.sg_exec.proofs.RowsLand.{lands_rows}
use Rattle.sg_exec.proofs.StoresLanded.{current_at, current_set}
use Rattle.sg_exec.proofs.TreesKept.{trees_set}
use Rattle.sg_exec.proofs.Turning.{are_wants}

module _ (stores : List StoreWords) (copies : List (Option StoreWords)) (rows : List Write) (layout : ℕ) (store : StoreWords) (slot now : Option StoreWords)
    (asked : HasAsked stores rows copies) (there : slice_get stores layout ≡ Some store) (copy : slice_get copies layout ≡ Some slot)
    (landed : RowsLanded (unwrap_or slot store) (unwrap_or now store) layout rows) where
  -- the copy in the place of its store
  copied : slice_get (current copies stores) layout ≡ Some (unwrap_or slot store)
  copied = current_at copies stores layout slot store copy there

  pub rows_ran : CoverLaws → ((write : Write) → Contains rows write → write.layout ≡ layout) → (state : FlatState) → AllZip StandsFor stores state.layouts
      → IsOkAnd (load_meaning (shapes_of stores) state rows) (StandForState (shapes_of stores) (current (slice_set copies layout now) stores))
  rows_ran laws in_layout state all =
      let mids = current copies stores in
      let news = slice_set mids layout (unwrap_or now store) in
      let turns = map turn_of asked.heads in
      let ran = asked.ran state all in
      let reached = ran.1 state.layouts turns all (are_wants stores state.layouts turns ran.0) in
      subst (λ (after : List StoreWords). IsOkAnd (load_meaning (shapes_of stores) state rows) (StandForState (shapes_of stores) after))
      (sym (current_set copies stores layout now store asked.room there))
      (covered laws stores mids state asked.heads rows layout store (unwrap_or slot store) all asked.of_rows in_layout there copied reached.1 landed.active news reached.0 asked.shapes
      (lands_rows mids layout (unwrap_or slot store) (unwrap_or now store) rows copied in_layout landed))

  pub rows_links : AllZip GrowsLinks stores (current (slice_set copies layout now) stores)
  rows_links =
      let mids = current copies stores in
      let news = slice_set mids layout (unwrap_or now store) in
      subst (λ (after : List StoreWords). AllZip GrowsLinks stores after) (sym (current_set copies stores layout now store asked.room there))
      (links_then stores mids news asked.links (links_over mids news (trees_set mids layout (unwrap_or slot store) (unwrap_or now store) copied landed.tree)))
