-- What the code's own types stand for, and the room that its counters have.
use Rattle.std.specs.Prelude.{ℕ, ◌+◌, ◌<◌, ◌^◌, length}
use Rattle.sg_types.specs.declared.known.Known as code_known
use Rattle.sg_types.specs.declared.reached.Reached as code_reached
use Rattle.sg_types.specs.Scopes.{Known}
use Rattle.sg_types.specs.Statements.{Reached}

-- what the code knows, as the definitions have it
abbrev pub known_view : code_known.Known → Known
known_view known = record { kernel = known.kernel; tables = known.names.now; constants = known.constants }

-- how far the code has come, as the definitions have it
abbrev pub reached_of : code_reached.Reached → Reached
reached_of at = record { number = at.number; types = at.types; scope = at.scope }

-- so many more statements can be numbered, and as many more variables
pub record HasRoom (at : Reached) (more : ℕ) : Type 0 where
  pub numbers : at.number + more < 2 ^ 32
  pub vars : length at.types + more < 2 ^ 32
