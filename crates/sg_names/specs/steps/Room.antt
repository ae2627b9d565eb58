-- The room that tables have.
use Rattle.std.specs.Prelude.{◌<◌, ◌^◌, length}
use Rattle.sg_names.specs.Tables.{Tables}

-- the numbers of things fit 32 bits
pub record AreFew (tables : Tables) : Type 0 where
  pub constants : length tables.constants < 2 ^ 32
  pub layouts : length tables.layouts < 2 ^ 32
  pub fields : length tables.fields < 2 ^ 32
  pub kernels : length tables.kernels < 2 ^ 32
