-- Names that are the same bytes are the same name.
use Rattle.std.specs.Prelude.{◌≡◌, ℕ, true, List}
use Rattle.std.specs.Cmp.Lexicographic.{nat_list_eq_equiv}
use Rattle.std.proofs.Common.{ap}
use Rattle.std.proofs.lemmas.Slice.Eq.{bytes_eq-Decides}
use Rattle.sg_ast.specs.declared.token.Name.{Name}
use Rattle.sg_ast.specs.Token.{same_name}

abbrev named_by : List ℕ → Name
named_by text = record { text = text }

pub same_name-is : (x y : Name) → same_name x y ≡ true → x ≡ y
same_name-is x y same = ap named_by ((bytes_eq-Decides x.text y.text).0 same)

pub same_name-self : (x : Name) → same_name x x ≡ true
same_name-self x = nat_list_eq_equiv.refl x.text

pub same_name-symm : (x y : Name) → same_name x y ≡ same_name y x
same_name-symm x y = nat_list_eq_equiv.symm x.text y.text
