-- A block's chain uses fields as its instructions do.
use Rattle.std.specs.Prelude.{◌≡◌, refl, Bool, true, false, ◌||◌, List, [], ◌∷◌, ◌++◌, map}
use Rattle.std.specs.List.{list_any, flat_map}
use Rattle.std.proofs.Common.{sym, ap, subst, ◌∙◌}
use Rattle.sg_words.specs.declared.operators.Ty.{Ty}
use Rattle.sg_layout.specs.declared.shape.Shape.{Shape}
use Rattle.sg_flat.specs.declared.effects.Domain.{Domain}
use Rattle.sg_flat.specs.declared.effects.Way.TheVariants.{Own, Acc}
use Rattle.sg_ir.specs.declared.code.Inst.{Inst, fold-Inst}
use Rattle.sg_ir.specs.Apt.{Use, Writes, Reads, ReadsOwn, uses_step, uses_in}
use Rattle.sg_ir.specs.Blocks.{Block, End, Link, chained, link_step, link, block_of}
use Rattle.sg_ir.proofs.Uses.{fold-Const, fold-Var, fold-Set, fold-Bin, fold-Un, fold-Mulq, fold-Root, fold-Check, fold-Extract, fold-Offset, fold-Child, fold-HashChild, fold-MaskBit, fold-DynCell, fold-ReadCell, fold-IsActive, fold-OwnRead, fold-OwnWrite, fold-Acc, fold-Want, fold-If, fold-For}
use Rattle.sg_simplify.specs.steps.Pass.{given_of, first_pass, first_next, simple}
use Rattle.sg_simplify.specs.steps.Serves.{EachByRecursion}
use Rattle.sg_simplify.specs.steps.Only.{has_use}
use Rattle.sg_simplify.proofs.Inducting.{inductively}
use Rattle.sg_simplify.proofs.OnlyUses.{simplified_only}

any_append : (test : Use → Bool) (xs ys : List Use) → list_any test (xs ++ ys) ≡ (list_any test xs || list_any test ys)
any_append test [] ys = refl
any_append test (x ∷ xs) ys = ap (λ (b : Bool). test x || b) (any_append test xs ys) ∙ or_assoc (test x) (list_any test xs) (list_any test ys)
  where
    or_assoc : (a b c : Bool) → (a || (b || c)) ≡ ((a || b) || c)
    or_assoc true b c = refl
    or_assoc false b c = refl

or_one : (a b : Bool) → (a || b) ≡ ((a || false) || b)
or_one true b = refl
or_one false b = refl

or_ends : (a b c : Bool) → ((a || false) || ((b || false) || c)) ≡ ((a || b) || c)
or_ends true b c = refl
or_ends false true c = refl
or_ends false false c = refl

or_end : (a c : Bool) → ((a || false) || c) ≡ (a || c)
or_end true c = refl
or_end false c = refl

or_more : (a b c : Bool) → (a || (b || c)) ≡ ((a || b) || c)
or_more true b c = refl
or_more false b c = refl

in_order : (xs : List Inst) (f : Inst → List Use) → flat_map (λ (uses : List Use). uses) (map f xs) ≡ flat_map f xs
in_order [] f = refl
in_order (x ∷ xs) f = ap (λ more. f x ++ more) (in_order xs f)

module _ (types : List Ty) (test : Use → Bool) where
  abbrev Same : Link → List Use → Type 0
  Same l uses = (rest : Block) → has_use test (l rest) ≡ (list_any test uses || has_use test rest)

  abbrev inst_uses : Inst → List Use
  inst_uses = fold-Inst (List Use) uses_step

  abbrev SameOf : Inst → Type 0
  SameOf inst = Same (link types inst) (inst_uses inst)

  carry : (l k : Link) (uses other : List Use) → l ≡ k → uses ≡ other → Same k other → Same l uses
  carry l k uses other e f h = subst (λ (m : Link). Same m uses) (sym e) (subst (λ (us : List Use). Same k us) (sym f) h)

  list_same : (insts : List Inst) → EachByRecursion SameOf insts → Same (chained (map (link types) insts)) (uses_in insts)
  list_same [] each rest = refl
  list_same (inst ∷ insts) each rest =
      each.0 (chained (map (link types) insts) rest)
      ∙ (ap (λ (b : Bool). list_any test (inst_uses inst) || b) (list_same insts each.1 rest)
      ∙ (or_more (list_any test (inst_uses inst)) (list_any test (uses_in insts)) (has_use test rest)
      ∙ ap (λ (b : Bool). b || has_use test rest) (sym (any_append test (inst_uses inst) (uses_in insts)))))

  every_same : (inst : Inst) → SameOf inst
  every_same = inductively SameOf
      (λ to word. carry _ _ _ _ (fold-Const (link_step types) to word) (fold-Const uses_step to word) (λ rest. refl))
      (λ to var. carry _ _ _ _ (fold-Var (link_step types) to var) (fold-Var uses_step to var) (λ rest. refl))
      (λ var from. carry _ _ _ _ (fold-Set (link_step types) var from) (fold-Set uses_step var from) (λ rest. refl))
      (λ to how kind a b. carry _ _ _ _ (fold-Bin (link_step types) to how kind a b) (fold-Bin uses_step to how kind a b) (λ rest. refl))
      (λ to how kind a. carry _ _ _ _ (fold-Un (link_step types) to how kind a) (fold-Un uses_step to how kind a) (λ rest. refl))
      (λ to a b s. carry _ _ _ _ (fold-Mulq (link_step types) to a b s) (fold-Mulq uses_step to a b s) (λ rest. refl))
      (λ to layout. carry _ _ _ _ (fold-Root (link_step types) to layout) (fold-Root uses_step to layout) (λ rest. refl))
      (λ to place axis extent index. carry _ _ _ _ (fold-Check (link_step types) to place axis extent index) (fold-Check uses_step to place axis extent index) (λ rest. refl))
      (λ to div size from. carry _ _ _ _ (fold-Extract (link_step types) to div size from) (fold-Extract uses_step to div size from) (λ rest. refl))
      (λ to high size low. carry _ _ _ _ (fold-Offset (link_step types) to high size low) (fold-Offset uses_step to high size low) (λ rest. refl))
      (λ to place node offset. carry _ _ _ _ (fold-Child (link_step types) to place node offset) (fold-Child uses_step to place node offset) (λ rest. refl))
      (λ to place node offset. carry _ _ _ _ (fold-HashChild (link_step types) to place node offset) (fold-HashChild uses_step to place node offset) (λ rest. refl))
      (λ to place node offset. carry _ _ _ _ (fold-MaskBit (link_step types) to place node offset) (fold-MaskBit uses_step to place node offset) (λ rest. refl))
      (λ to place node offset. carry _ _ _ _ (fold-DynCell (link_step types) to place node offset) (fold-DynCell uses_step to place node offset) (λ rest. refl))
      (λ to place layout field index. carry _ _ _ _ (fold-ReadCell (link_step types) to place layout field index) (fold-ReadCell uses_step to place layout field index) (λ rest. or_one (test (Reads layout field)) (has_use test rest)))
      (λ to place index. carry _ _ _ _ (fold-IsActive (link_step types) to place index) (fold-IsActive uses_step to place index) (λ rest. refl))
      (λ to layout field. carry _ _ _ _ (fold-OwnRead (link_step types) to layout field) (fold-OwnRead uses_step to layout field) (λ rest. or_one (test (ReadsOwn layout field)) (has_use test rest)))
      (λ layout field from stmt. carry _ _ _ _ (fold-OwnWrite (link_step types) layout field from stmt) (fold-OwnWrite uses_step layout field from stmt) (λ rest. or_one (test (Writes layout field Own)) (has_use test rest)))
      (λ how layout field place from index stmt. carry _ _ _ _ (fold-Acc (link_step types) how layout field place from index stmt) (fold-Acc uses_step how layout field place from index stmt) (λ rest. or_one (test (Writes layout field (Acc how))) (has_use test rest)))
      (λ layout index stmt. carry _ _ _ _ (fold-Want (link_step types) layout index stmt) (fold-Want uses_step layout index stmt) (λ rest. refl))
      (λ cond block otherwise first second. carry _ _ _ _ (fold-If (link_step types) cond block otherwise)
      (fold-If uses_step cond block otherwise ∙ (ap (λ uses. uses ++ flat_map (λ (us : List Use). us) (map inst_uses otherwise)) (in_order block inst_uses) ∙ ap (λ uses. uses_in block ++ uses) (in_order otherwise inst_uses)))
      (λ rest. ap (λ (b : Bool). b || (has_use test (chained (map (link types) otherwise) End) || has_use test rest)) (list_same block first End)
      ∙ (ap (λ (b : Bool). (list_any test (uses_in block) || false) || (b || has_use test rest)) (list_same otherwise second End)
      ∙ (or_ends (list_any test (uses_in block)) (list_any test (uses_in otherwise)) (has_use test rest)
      ∙ ap (λ (b : Bool). b || has_use test rest) (sym (any_append test (uses_in block) (uses_in otherwise)))))))
      (λ var lo hi body each. carry _ _ _ _ (fold-For (link_step types) var lo hi body) (fold-For uses_step var lo hi body ∙ in_order body inst_uses)
      (λ rest. ap (λ (b : Bool). b || has_use test rest) (list_same body each End) ∙ or_end (list_any test (uses_in body)) (has_use test rest)))

  of_every : (insts : List Inst) → EachByRecursion SameOf insts
  of_every [] = tt
  of_every (inst ∷ insts) = (every_same inst, of_every insts)

  plain : (a : Bool) → (a || false) ≡ a
  plain true = refl
  plain false = refl

  pub code_uses : (insts : List Inst) → has_use test (block_of types insts) ≡ list_any test (uses_in insts)
  code_uses insts = list_same insts (of_every insts) End ∙ plain (list_any test (uses_in insts))

-- whatever test: if no use of the given code passes, none of what is put out does
pub simple_only : (shapes : List Shape) (domain : Domain) (types made_types : List Ty) (given made : List Inst) → block_of made_types made ≡ simple shapes domain types (block_of types given)
    → (test : Use → Bool) → list_any test (uses_in given) ≡ false → list_any test (uses_in made) ≡ false
simple_only shapes domain types made_types given made is test off =
    sym (code_uses made_types test made) ∙ (ap (has_use test) is
    ∙ simplified_only (given_of shapes domain types (block_of types given)) test (block_of types given) (code_uses types test given ∙ off) first_pass first_next)
