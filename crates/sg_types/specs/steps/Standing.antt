-- Fields stand in layouts that are there.
use Rattle.std.specs.Prelude.{Bool, length, nat_lt}
use Rattle.std.specs.List.{list_all}
use Rattle.sg_names.specs.Tables.{Tables}

-- the layout of each field is in the tables
abbrev pub fields_stand : Tables → Bool
fields_stand tables = list_all (λ named. nat_lt named.at.layout (length tables.layouts)) tables.fields
