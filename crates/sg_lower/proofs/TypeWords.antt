-- Types of typed expressions, as the judgement of code sees them.
use Rattle.std.proofs.Common.{◌≡◌, Bool, true, false, ◌&&◌, List, [], ◌∷◌, map, Option, Some, None, refl, sym, ap, ◌∙◌}
use Rattle.std.specs.List.{list_all}
use Rattle.std.proofs.lemmas.Bool.{and_parts, both_ways}
use Rattle.sg_words.specs.declared.operators.Ty.{Ty}
use Rattle.sg_words.specs.declared.operators.Ty.TheVariants as ty
use Rattle.sg_words.specs.declared.operators.BinOp.{BinOp}
use Rattle.sg_words.specs.declared.operators.BinOp.TheVariants as b
use Rattle.sg_words.specs.declared.operators.UnOp.{UnOp}
use Rattle.sg_words.specs.declared.operators.UnOp.TheVariants as u
use Rattle.sg_types.specs.declared.typed.TypedExpr.{TypedExpr}
use Rattle.sg_types.specs.declared.typed.Form.TheOpen.{TypedExpr-F}
use Rattle.sg_types.specs.TypeTable as table
use Rattle.sg_types.specs.TypeTable.{is_numeric, is_signed, same_ty, given_if, arithmetic_ty, shift_ty, comparison_ty, logic_ty, bin_ty, un_ty}
use Rattle.sg_types.specs.WellTyped.{Surroundings, Judged, form_step, judged_expr, is_ty, is_index}
use Rattle.sg_types.proofs.Uses as folds
use Rattle.sg_types.proofs.Uses.{by_exprs}
use Rattle.sg_ir.specs.WellTyped.{is_truth, is_truth_as, takes_truth, gives_truth, is_lnot}
use Rattle.sg_lower.specs.steps.Typing.{is_part}

pub same_is : (x y : Ty) → same_ty x y ≡ true → x ≡ y
same_is ty.I32 ty.I32 h = refl
same_is ty.I32 ty.U32 h = absurd (cc)
same_is ty.I32 ty.Bool h = absurd (cc)
same_is ty.U32 ty.I32 h = absurd (cc)
same_is ty.U32 ty.U32 h = refl
same_is ty.U32 ty.Bool h = absurd (cc)
same_is ty.Bool ty.I32 h = absurd (cc)
same_is ty.Bool ty.U32 h = absurd (cc)
same_is ty.Bool ty.Bool h = refl

pub ty_is : (found : Option Ty) (given : Ty) → is_ty found given ≡ true → found ≡ Some given
ty_is None given h = absurd (both_ways false refl h)
ty_is (Some it) given h = ap Some (same_is it given h)

pub numeric_is : (x : Ty) → is_numeric x ≡ true → is_truth x ≡ false
numeric_is ty.I32 h = refl
numeric_is ty.U32 h = refl
numeric_is ty.Bool h = absurd (cc)

pub signed_is : (x : Ty) → is_signed x ≡ true → x ≡ ty.I32
signed_is ty.I32 h = refl
signed_is ty.U32 h = absurd (cc)
signed_is ty.Bool h = absurd (cc)

pub truth_is : (x : Ty) → table.is_truth x ≡ true → is_truth x ≡ true
truth_is ty.I32 h = absurd (cc)
truth_is ty.U32 h = absurd (cc)
truth_is ty.Bool h = refl

pub condition_is : (x : Ty) → table.is_truth x ≡ true → is_truth x ≡ true
condition_is = truth_is

pub of_itself : (x : Ty) → is_truth_as (is_truth x) (Some x) ≡ true
of_itself ty.I32 = refl
of_itself ty.U32 = refl
of_itself ty.Bool = refl

given_is : (c : Bool) (x t : Ty) → is_ty (given_if c x) t ≡ true → (c ≡ true) × (x ≡ t)
given_is true x t h = (refl, same_is x t h)
given_is false x t h = absurd (both_ways false refl h)

-- what an operator's operands and its result are
pub record OpTruths (takes gives : Bool) (l r t : Ty) : Type 0 where
  pub left : is_truth l ≡ takes
  pub right : is_truth r ≡ takes
  pub result : is_truth t ≡ gives

arithmetic_is : (l r t : Ty) → is_ty (arithmetic_ty l r) t ≡ true → OpTruths false false l r t
arithmetic_is l r t h =
    let g = given_is (is_numeric l && same_ty l r) l t h in
    let p = and_parts (is_numeric l) (same_ty l r) g.0 in
    let left = numeric_is l p.0 in
    record { left = left; right = ap is_truth (sym (same_is l r p.1)) ∙ left; result = ap is_truth (sym g.1) ∙ left }

shift_is : (l r t : Ty) → is_ty (shift_ty l r) t ≡ true → OpTruths false false l r t
shift_is l r t h =
    let g = given_is (is_numeric l && is_numeric r) l t h in
    let p = and_parts (is_numeric l) (is_numeric r) g.0 in
    let left = numeric_is l p.0 in
    record { left = left; right = numeric_is r p.1; result = ap is_truth (sym g.1) ∙ left }

comparison_is : (l r t : Ty) → is_ty (comparison_ty l r) t ≡ true → OpTruths false true l r t
comparison_is l r t h =
    let g = given_is (is_numeric l && same_ty l r) ty.Bool t h in
    let p = and_parts (is_numeric l) (same_ty l r) g.0 in
    let left = numeric_is l p.0 in
    record { left = left; right = ap is_truth (sym (same_is l r p.1)) ∙ left; result = ap is_truth (sym g.1) }

logic_is : (l r t : Ty) → is_ty (logic_ty l r) t ≡ true → OpTruths true true l r t
logic_is l r t h =
    let g = given_is (table.is_truth l && table.is_truth r) ty.Bool t h in
    let p = and_parts (table.is_truth l) (table.is_truth r) g.0 in
    record { left = truth_is l p.0; right = truth_is r p.1; result = ap is_truth (sym g.1) }

pub bin_truths : (op : BinOp) (l r t : Ty) → is_ty (bin_ty op l r) t ≡ true → OpTruths (takes_truth op) (gives_truth op) l r t
bin_truths b.Add = arithmetic_is
bin_truths b.Sub = arithmetic_is
bin_truths b.Mul = arithmetic_is
bin_truths b.Div = arithmetic_is
bin_truths b.Rem = arithmetic_is
bin_truths b.And = arithmetic_is
bin_truths b.Or = arithmetic_is
bin_truths b.Xor = arithmetic_is
bin_truths b.LAnd = logic_is
bin_truths b.LOr = logic_is
bin_truths b.Shl = shift_is
bin_truths b.Shr = shift_is
bin_truths b.Min = arithmetic_is
bin_truths b.Max = arithmetic_is
bin_truths b.Eq = comparison_is
bin_truths b.Ne = comparison_is
bin_truths b.Lt = comparison_is
bin_truths b.Le = comparison_is
bin_truths b.Gt = comparison_is
bin_truths b.Ge = comparison_is

pub un_truths : (op : UnOp) (x t : Ty) → is_ty (un_ty op x) t ≡ true → (is_truth x ≡ is_lnot op) × (is_truth t ≡ is_lnot op)
un_truths u.Neg x t h = let g = given_is (is_numeric x) x t h in (numeric_is x g.0, ap is_truth (sym g.1) ∙ numeric_is x g.0)
un_truths u.Not x t h = let g = given_is (is_numeric x) x t h in (numeric_is x g.0, ap is_truth (sym g.1) ∙ numeric_is x g.0)
un_truths u.LNot x t h = let g = given_is (table.is_truth x) ty.Bool t h in (truth_is x g.0, ap is_truth (sym g.1))

-- the type in a judgement is the expression's own
abbrev pub its_judged : TypedExpr-F (Ty → Bool) Judged → Judged
its_judged expr = (expr.ty, expr.form expr.ty)

abbrev type_in : Judged → Ty
type_in part = part.0

pub judged_ty : (at : Surroundings) (expr : TypedExpr) → (judged_expr at expr).0 ≡ expr.ty
judged_ty at = by_exprs (λ expr. (judged_expr at expr).0 ≡ expr.ty)
    (λ ty word. ap type_in (folds.fold-Literal (form_step at) its_judged ty word))
    (λ ty word. ap type_in (folds.fold-Constant (form_step at) its_judged ty word))
    (λ ty var. ap type_in (folds.fold-Var (form_step at) its_judged ty var))
    (λ ty layout place index all. ap type_in (folds.fold-Read (form_step at) its_judged ty layout place index))
    (λ ty inner h. ap type_in (folds.fold-Paren (form_step at) its_judged ty inner))
    (λ ty op operand h. ap type_in (folds.fold-Un (form_step at) its_judged ty op operand))
    (λ ty op left right h k. ap type_in (folds.fold-Bin (form_step at) its_judged ty op left right))
    (λ ty x y w h k l. ap type_in (folds.fold-Mulq (form_step at) its_judged ty x y w))
    (λ ty inner h. ap type_in (folds.fold-Convert (form_step at) its_judged ty inner))
    (λ ty layout index all. ap type_in (folds.fold-Active (form_step at) its_judged ty layout index))

pub part_is : (at : Surroundings) (expr : TypedExpr) → is_index (judged_expr at expr) ≡ is_part at expr
part_is at expr = ap (λ (t : Ty). is_signed t && (judged_expr at expr).1) (judged_ty at expr)

pub parts_are : (at : Surroundings) (index : List TypedExpr) → list_all is_index (map (judged_expr at) index) ≡ list_all (is_part at) index
parts_are at [] = refl
parts_are at (expr ∷ index) = ap (λ (b : Bool). b && list_all is_index (map (judged_expr at) index)) (part_is at expr) ∙ ap (λ (b : Bool). is_part at expr && b) (parts_are at index)
