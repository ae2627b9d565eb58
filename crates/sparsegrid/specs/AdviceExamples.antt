-- Advice, worked: what a line of 64 keeps, beside blocks of four with room for four and for one of them.
use Rattle.std.specs.Prelude.{◌≡◌, refl, ℕ, List, [], ◌∷◌, ◌++◌, codes}
use Rattle.std.specs.Fmt.{digits}
use Rattle.sg_layout.specs.declared.shape.Shape.{Shape}
use Rattle.sg_layout.specs.Closure.{closure}
use Rattle.sg_convert.specs.Examples.{flat_line, blocks_of}
use Rattle.sg_flat.specs.declared.state.FlatLayout.{FlatLayout}
use Rattle.sg_flat.specs.declared.state.FlatState.{FlatState}
use Rattle.sg_names.specs.Tables.{Tables}
use Rattle.sg_names.specs.declared.tables.NamedLayout.{NamedLayout}
use Rattle.sparsegrid.specs.Advice.{advice_text}

-- layout A(i) { dense(i: 64); .. } layout B(i) { pointer(i: 16) cap 4; dense(i: 4); .. } layout C(i) { pointer(i: 16) cap 1; dense(i: 4); .. }
abbrev three_lines : List Shape
three_lines = flat_line ∷ blocks_of 4 ∷ blocks_of 1 ∷ []

abbrev named : List ℕ → NamedLayout
named text = record { name = record { text = text }; axes = 1 }

abbrev three_names : Tables
three_names = record { constants = []; layouts = named (codes "A") ∷ named (codes "B") ∷ named (codes "C") ∷ []; fields = []; kernels = [] }

-- A has 7 at 5 and 1 at 40, and nothing is active in the others
abbrev nothing_kept : FlatLayout
nothing_kept = record { active = []; fields = [] ∷ [] }

abbrev two_values : FlatState
two_values = record { layouts = record { active = closure flat_line []; fields = ((5, 7) ∷ (40, 1) ∷ []) ∷ [] } ∷ nothing_kept ∷ nothing_kept ∷ [] }

advice_of_three : advice_text three_names three_lines two_values
    ≡ codes "advise A A 64\nadvise A B 24\nadvise A C full\nbest A B 24\nstats B active 8 node 1 live 2\n"
    ++ (codes "advise B A 64\nadvise B B 16\nadvise B C 16\nbest B B 16\nstats B active 0 node 1 live 0\n"
    ++ codes "advise C A 64\nadvise C B 16\nadvise C C 16\nbest C B 16\nstats B active 0 node 1 live 0\n")
unfolding digits
advice_of_three = refl
