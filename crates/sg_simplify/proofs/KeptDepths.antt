-- How deep blocks nest along a list of instructions that is taken apart from its end.
use Rattle.std.specs.Prelude.{◌≡◌, refl, ℕ, suc, ◌≤◌, ◌<◌, max, List, [], ◌∷◌, ◌++◌, ℤ, map, reverse}
use Rattle.std.proofs.Common.{arith, ap, ◌∙◌}
use Rattle.std.proofs.lemmas.List.{reverse-append}
use Rattle.sg_ir.specs.declared.code.Inst.{Inst}
use Rattle.sg_ir.specs.declared.code.Inst.TheVariants as v
use Rattle.sg_ir.proofs.Uses.{largest, depth_step, depth, fold-If, fold-For}

abbrev pub depths : List Inst → ℕ
depths insts = largest (map depth insts)

depths-append : (xs ys : List Inst) → depths (xs ++ ys) ≡ max (depths xs) (depths ys)
depths-append [] ys = omega arith
depths-append (x ∷ xs) ys = let more = depths-append xs ys in omega (arith, more)

pub depths-reverse : (xs : List Inst) → depths (reverse xs) ≡ depths xs
depths-reverse [] = refl
depths-reverse (x ∷ xs) =
    let turned : depths (reverse (x ∷ xs)) ≡ max (depths (reverse xs)) (max (depth x) 0) = ap depths (reverse-append (x ∷ []) xs) ∙ depths-append (reverse xs) (x ∷ []) in
    let more = depths-reverse xs in
    omega (arith, turned, more)

-- the last, and those before it, nest no deeper than all
pub popped : (all before : List Inst) (inst : Inst) (most : ℕ) → all ≡ before ++ inst ∷ [] → depths all ≤ most → (depth inst ≤ most) × (depths before ≤ most)
popped all before inst most is within =
    let whole : depths all ≡ max (depths before) (max (depth inst) 0) = ap depths is ∙ depths-append before (inst ∷ []) in
    (omega (arith, whole, within), omega (arith, whole, within))

pub in_if : (inst : Inst) (cond : ℕ) (block otherwise : List Inst) → inst ≡ v.If cond block otherwise → (depths block < depth inst) × (depths otherwise < depth inst)
in_if inst cond block otherwise is =
    let deep : depth inst ≡ suc (max (depths block) (depths otherwise)) = ap depth is ∙ fold-If depth_step cond block otherwise in
    (omega (arith, deep), omega (arith, deep))

pub in_for : (inst : Inst) (var : ℕ) (lo hi : ℤ) (body : List Inst) → inst ≡ v.For var lo hi body → depths body < depth inst
in_for inst var lo hi body is =
    let deep : depth inst ≡ suc (depths body) = ap depth is ∙ fold-For depth_step var lo hi body in
    omega (arith, deep)
