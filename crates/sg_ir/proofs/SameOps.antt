-- Operations and steps that compare equal are equal.
use Rattle.std.specs.Prelude.{◌≡◌, refl, ◌==◌, Bool, true, false, ◌&&◌}
use Rattle.std.proofs.Common.{ap, ◌∙◌}
use Rattle.std.proofs.lemmas.Bool.{and_parts, eqb-true}
use Rattle.sg_words.specs.declared.operators.Ty.{Ty}
use Rattle.sg_words.specs.declared.operators.Ty.TheVariants as ty
use Rattle.sg_words.specs.declared.operators.BinOp.{BinOp}
use Rattle.sg_words.specs.declared.operators.BinOp.TheVariants as bin
use Rattle.sg_words.specs.declared.operators.UnOp.{UnOp}
use Rattle.sg_words.specs.declared.operators.UnOp.TheVariants as un
use Rattle.sg_words.specs.contracts.operators.TyPartialEq.TheImpl as ty_eq
use Rattle.sg_words.specs.contracts.operators.BinOpPartialEq.TheImpl as bin_eq
use Rattle.sg_words.specs.contracts.operators.UnOpPartialEq.TheImpl as un_eq
use Rattle.sg_ir.specs.declared.op.Op.{Op}
use Rattle.sg_ir.specs.declared.op.Op.TheVariants as op
use Rattle.sg_ir.specs.declared.op.Step.{Step}
use Rattle.sg_ir.specs.declared.op.Step.TheVariants as step
use Rattle.sg_ir.specs.declared.op.Descent.{Descent}
use Rattle.sg_ir.specs.declared.op.Descent.TheVariants as by
use Rattle.sg_ir.specs.contracts.op.DescentPartialEq.TheImpl as by_eq
use Rattle.sg_ir.specs.Shared.{same_op, same_step}

abbrev same_ty : Ty → Ty → Bool
same_ty = (ty_eq.eq-value).it

abbrev same_bin : BinOp → BinOp → Bool
same_bin = (bin_eq.eq-value).it

abbrev same_un : UnOp → UnOp → Bool
same_un = (un_eq.eq-value).it

abbrev same_descent : Descent → Descent → Bool
same_descent = (by_eq.eq-value).it

ty_exact : (a b : Ty) → same_ty a b ≡ true → a ≡ b
ty_exact ty.I32 ty.I32 e = refl
ty_exact ty.U32 ty.U32 e = refl
ty_exact ty.Bool ty.Bool e = refl
ty_exact a b e = absurd (cc)

bin_exact : (a b : BinOp) → same_bin a b ≡ true → a ≡ b
bin_exact bin.Add bin.Add e = refl
bin_exact bin.Sub bin.Sub e = refl
bin_exact bin.Mul bin.Mul e = refl
bin_exact bin.Div bin.Div e = refl
bin_exact bin.Rem bin.Rem e = refl
bin_exact bin.And bin.And e = refl
bin_exact bin.Or bin.Or e = refl
bin_exact bin.Xor bin.Xor e = refl
bin_exact bin.LAnd bin.LAnd e = refl
bin_exact bin.LOr bin.LOr e = refl
bin_exact bin.Shl bin.Shl e = refl
bin_exact bin.Shr bin.Shr e = refl
bin_exact bin.Min bin.Min e = refl
bin_exact bin.Max bin.Max e = refl
bin_exact bin.Eq bin.Eq e = refl
bin_exact bin.Ne bin.Ne e = refl
bin_exact bin.Lt bin.Lt e = refl
bin_exact bin.Le bin.Le e = refl
bin_exact bin.Gt bin.Gt e = refl
bin_exact bin.Ge bin.Ge e = refl
bin_exact a b e = absurd (cc)

un_exact : (a b : UnOp) → same_un a b ≡ true → a ≡ b
un_exact un.Neg un.Neg e = refl
un_exact un.Not un.Not e = refl
un_exact un.LNot un.LNot e = refl
un_exact a b e = absurd (cc)

descent_exact : (a b : Descent) → same_descent a b ≡ true → a ≡ b
descent_exact by.Child by.Child e = refl
descent_exact by.HashChild by.HashChild e = refl
descent_exact by.MaskBit by.MaskBit e = refl
descent_exact by.DynCell by.DynCell e = refl
descent_exact a b e = absurd (cc)

pub op_exact : (a b : Op) → same_op a b ≡ true → a ≡ b
op_exact (op.Const w true) (op.Const v true) e = ap (λ n. op.Const n true) (eqb-true w v (and_parts (w == v) true e).0)
op_exact (op.Const w true) (op.Const v false) e = absurd (clash (and_parts (w == v) false e).1)
  where
    clash : false ≡ true → ⊥
    clash h = absurd (cc)
op_exact (op.Const w false) (op.Const v true) e = absurd (clash (and_parts (w == v) false e).1)
  where
    clash : false ≡ true → ⊥
    clash h = absurd (cc)
op_exact (op.Const w false) (op.Const v false) e = ap (λ n. op.Const n false) (eqb-true w v (and_parts (w == v) true e).0)
op_exact (op.Var x) (op.Var y) e = ap (λ n. op.Var n) (eqb-true x y e)
op_exact (op.Bin how kind a b) (op.Bin how' kind' a' b') e =
    let first = and_parts (same_bin how how') (same_ty kind kind' && ((a == a') && (b == b'))) e in
    let second = and_parts (same_ty kind kind') ((a == a') && (b == b')) first.1 in
    let third = and_parts (a == a') (b == b') second.1 in
    ap (λ x. op.Bin x kind a b) (bin_exact how how' first.0) ∙ ap (λ x. op.Bin how' x a b) (ty_exact kind kind' second.0)
    ∙ ap (λ x. op.Bin how' kind' x b) (eqb-true a a' third.0) ∙ ap (λ x. op.Bin how' kind' a' x) (eqb-true b b' third.1)
op_exact (op.Un how kind a) (op.Un how' kind' a') e =
    let first = and_parts (same_un how how') (same_ty kind kind' && (a == a')) e in
    let second = and_parts (same_ty kind kind') (a == a') first.1 in
    ap (λ x. op.Un x kind a) (un_exact how how' first.0) ∙ ap (λ x. op.Un how' x a) (ty_exact kind kind' second.0) ∙ ap (λ x. op.Un how' kind' x) (eqb-true a a' second.1)
op_exact (op.Mulq a b s) (op.Mulq a' b' s') e =
    let first = and_parts (a == a') ((b == b') && (s == s')) e in
    let second = and_parts (b == b') (s == s') first.1 in
    ap (λ x. op.Mulq x b s) (eqb-true a a' first.0) ∙ ap (λ x. op.Mulq a' x s) (eqb-true b b' second.0) ∙ ap (λ x. op.Mulq a' b' x) (eqb-true s s' second.1)
op_exact (op.Extract a b s) (op.Extract a' b' s') e =
    let first = and_parts (a == a') ((b == b') && (s == s')) e in
    let second = and_parts (b == b') (s == s') first.1 in
    ap (λ x. op.Extract x b s) (eqb-true a a' first.0) ∙ ap (λ x. op.Extract a' x s) (eqb-true b b' second.0) ∙ ap (λ x. op.Extract a' b' x) (eqb-true s s' second.1)
op_exact (op.Offset a b s) (op.Offset a' b' s') e =
    let first = and_parts (a == a') ((b == b') && (s == s')) e in
    let second = and_parts (b == b') (s == s') first.1 in
    ap (λ x. op.Offset x b s) (eqb-true a a' first.0) ∙ ap (λ x. op.Offset a' x s) (eqb-true b b' second.0) ∙ ap (λ x. op.Offset a' b' x) (eqb-true s s' second.1)
op_exact (op.Read a b s) (op.Read a' b' s') e =
    let first = and_parts (a == a') ((b == b') && (s == s')) e in
    let second = and_parts (b == b') (s == s') first.1 in
    ap (λ x. op.Read x b s) (eqb-true a a' first.0) ∙ ap (λ x. op.Read a' x s) (eqb-true b b' second.0) ∙ ap (λ x. op.Read a' b' x) (eqb-true s s' second.1)
op_exact (op.Active a) (op.Active a') e = ap (λ n. op.Active n) (eqb-true a a' e)
op_exact (op.OwnRead a b) (op.OwnRead a' b') e =
    let first = and_parts (a == a') (b == b') e in
    ap (λ x. op.OwnRead x b) (eqb-true a a' first.0) ∙ ap (λ x. op.OwnRead a' x) (eqb-true b b' first.1)
op_exact a b e = absurd (cc)

pub step_exact : (a b : Step) → same_step a b ≡ true → a ≡ b
step_exact (step.Root x) (step.Root y) e = ap (λ n. step.Root n) (eqb-true x y e)
step_exact (step.Check a b c d) (step.Check a' b' c' d') e =
    let first = and_parts (a == a') ((b == b') && ((c == c') && (d == d'))) e in
    let second = and_parts (b == b') ((c == c') && (d == d')) first.1 in
    let third = and_parts (c == c') (d == d') second.1 in
    ap (λ x. step.Check x b c d) (eqb-true a a' first.0) ∙ ap (λ x. step.Check a' x c d) (eqb-true b b' second.0)
    ∙ ap (λ x. step.Check a' b' x d) (eqb-true c c' third.0) ∙ ap (λ x. step.Check a' b' c' x) (eqb-true d d' third.1)
step_exact (step.Down way b c d) (step.Down way' b' c' d') e =
    let first = and_parts (same_descent way way') ((b == b') && ((c == c') && (d == d'))) e in
    let second = and_parts (b == b') ((c == c') && (d == d')) first.1 in
    let third = and_parts (c == c') (d == d') second.1 in
    ap (λ x. step.Down x b c d) (descent_exact way way' first.0) ∙ ap (λ x. step.Down way' x c d) (eqb-true b b' second.0)
    ∙ ap (λ x. step.Down way' b' x d) (eqb-true c c' third.0) ∙ ap (λ x. step.Down way' b' c' x) (eqb-true d d' third.1)
step_exact a b e = absurd (cc)
