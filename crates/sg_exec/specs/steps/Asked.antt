-- What heads of rows have made of the stores.
use Rattle.std.specs.Prelude.{◌≡◌, List, All, Contains, Option, Ok, length, map}
use Rattle.std.specs.List.{AllZip}
use Rattle.sg_flat.specs.declared.effects.Write.{Write}
use Rattle.sg_flat.specs.declared.state.FlatState.{FlatState}
use Rattle.sg_store.specs.StoreWords.{StoreWords}
use Rattle.sg_store.specs.StandsFor.{StandsFor}
use Rattle.sg_store.specs.Links.{GrowsLinks}
use Rattle.sg_exec.specs.Running.{turn_of}
use Rattle.sg_exec.specs.Standing.{shapes_of}
use Rattle.sg_exec.specs.steps.Landing.{current}
use Rattle.sg_exec.specs.steps.Turning.{TurnsActivated}

-- some of these writes, as turns of their own, are active in copies of the stores
pub record HasAsked (stores : List StoreWords) (rows : List Write) (copies : List (Option StoreWords)) : Type 0 where
  pub heads : List Write
  pub of_rows : All (Contains rows) heads
  pub ran : (state : FlatState) → AllZip StandsFor stores state.layouts →
      TurnsActivated (λ (made : List (Option StoreWords)). current made stores) stores (map turn_of heads) (Ok copies)
  pub shapes : shapes_of (current copies stores) ≡ shapes_of stores
  pub room : length copies ≡ length stores
  pub links : AllZip GrowsLinks stores (current copies stores)
