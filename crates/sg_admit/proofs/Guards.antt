-- The names in guards and reads are those of the indices.
use Rattle.std.proofs.Common.{◌≡◌, ℕ, Bool, true, ◌&&◌, ◌==◌, List, [], ◌∷◌, map, Option, sym, ap, ◌∙◌, refl}
use Rattle.sg_types.specs.declared.typed.TypedExpr.{TypedExpr}
use Rattle.sg_types.specs.declared.typed.Form.{Form}
use Rattle.sg_types.specs.declared.typed.Form.TheVariants as form
use Rattle.sg_types.specs.declared.typed.Form.TheOpen.{TypedExpr-F}
use Rattle.sg_admit.specs.Rules.{name_step, name_of, are_names, SeenPart}
use Rattle.sg_admit.specs.Neutral.{Guard, guard_step, guard_of}
use Rattle.sg_types.proofs.Uses as folds
use Rattle.sg_types.proofs.Uses.{by_exprs}

abbrev its_name : TypedExpr-F (Option ℕ) (Option ℕ) → Option ℕ
its_name expr = expr.form

abbrev its_guard : TypedExpr-F Guard Guard → Guard
its_guard expr = expr.form

abbrev its_reads : TypedExpr-F SeenPart SeenPart → SeenPart
its_reads expr = expr.form

pub each_same : {X Y : Type 0} (f g : X → Y) → ((x : X) → f x ≡ g x) → (xs : List X) → map f xs ≡ map g xs
each_same f g h [] = refl
each_same f g h (x ∷ xs) = ap (λ y. y ∷ map f xs) (h x) ∙ ap (λ ys. g x ∷ ys) (each_same f g h xs)

map_twice : {X Y Z : Type 0} (g : Y → Z) (f : X → Y) (xs : List X) → map g (map f xs) ≡ map (λ x. g (f x)) xs
map_twice g f [] = refl
map_twice g f (x ∷ xs) = ap (λ zs. g (f x) ∷ zs) (map_twice g f xs)

module _ (walked vars : ℕ) where
  guard_name : (expr : TypedExpr) → (guard_of walked vars expr).name ≡ name_of expr
  guard_name = by_exprs (λ expr. (guard_of walked vars expr).name ≡ name_of expr)
      (λ ty word. name (folds.fold-Literal (guard_step walked vars) its_guard ty word) ∙ sym (folds.fold-Literal name_step its_name ty word))
      (λ ty word. name (folds.fold-Constant (guard_step walked vars) its_guard ty word) ∙ sym (folds.fold-Constant name_step its_name ty word))
      (λ ty var. name (folds.fold-Var (guard_step walked vars) its_guard ty var) ∙ sym (folds.fold-Var name_step its_name ty var))
      (λ ty layout place index h. name (folds.fold-Read (guard_step walked vars) its_guard ty layout place index) ∙ sym (folds.fold-Read name_step its_name ty layout place index))
      (λ ty inner h. name (folds.fold-Paren (guard_step walked vars) its_guard ty inner) ∙ sym (folds.fold-Paren name_step its_name ty inner))
      (λ ty op operand h. name (folds.fold-Un (guard_step walked vars) its_guard ty op operand) ∙ sym (folds.fold-Un name_step its_name ty op operand))
      (λ ty op left right h k. name (folds.fold-Bin (guard_step walked vars) its_guard ty op left right) ∙ sym (folds.fold-Bin name_step its_name ty op left right))
      (λ ty a b shift h k l. name (folds.fold-Mulq (guard_step walked vars) its_guard ty a b shift) ∙ sym (folds.fold-Mulq name_step its_name ty a b shift))
      (λ ty inner h. name (folds.fold-Convert (guard_step walked vars) its_guard ty inner) ∙ sym (folds.fold-Convert name_step its_name ty inner))
      (λ ty layout index h. name (folds.fold-Active (guard_step walked vars) its_guard ty layout index) ∙ sym (folds.fold-Active name_step its_name ty layout index))
    where
      name : {x y : Guard} → x ≡ y → x.name ≡ y.name
      name e = ap (λ (guard : Guard). guard.name) e

  -- a read of the walked layout is the own cell where its indices are the loop's variables
  pub cell_read : (expr : TypedExpr) (layout place : ℕ) (index : List TypedExpr) → expr.form ≡ form.Read layout place index → (layout == walked) ≡ true
      → (guard_of walked vars expr).is_cell ≡ are_names vars 0 (map name_of index)
  cell_read expr layout place index is same =
      ap (λ (it : Form). (guard_of walked vars (record { ty = expr.ty; form = it })).is_cell) is
      ∙ (ap (λ (guard : Guard). guard.is_cell) (folds.fold-Read (guard_step walked vars) its_guard expr.ty layout place index)
      ∙ (ap (λ (b : Bool). b && are_names vars 0 (map (λ (guard : Guard). guard.name) (map (guard_of walked vars) index))) same
      ∙ ap (are_names vars 0) (map_twice (λ (guard : Guard). guard.name) (guard_of walked vars) index ∙ each_same (λ (x : TypedExpr). (guard_of walked vars x).name) name_of guard_name index)))
