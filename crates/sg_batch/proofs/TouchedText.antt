-- What the text of an instruction and of a block touches: the layouts of its places, and those that it wants or uses.
use Rattle.std.proofs.Common.{◌≡◌, ℕ, ◌==◌, ℤ, true, false, inl, inr, ◌⊎◌, List, [], ◌∷◌, ◌++◌, map, refl, sym, ap, ◌∙◌, subst, eq-eqb}
use Rattle.std.specs.Prelude.{Contains}
use Rattle.std.specs.List.{flat_map}
use Rattle.std.proofs.lemmas.Bool.{both_ways, eqb-true}
use Rattle.std.proofs.lemmas.List.Elements.{Contains-append_left, Contains-append_right, Contains-append_cases}
use Rattle.sg_words.specs.declared.operators.AccOp.{AccOp}
use Rattle.sg_words.proofs.Uses.{contains_none, contains_head, contains_cases}
use Rattle.sg_ir.specs.declared.code.Inst.{Inst}
use Rattle.sg_ir.specs.declared.code.Inst.TheVariants as v
use Rattle.sg_ir.specs.Apt.{uses_step}
use Rattle.sg_ir.specs.Touches.{layout_touched, wanted_step, rooted_step, rooted_by, touched_by}
use Rattle.sg_ir.proofs.Uses.{by_inst, fold-Const, fold-Var, fold-Set, fold-Bin, fold-Un, fold-Mulq, fold-Root, fold-Check, fold-Extract, fold-Offset, fold-Child, fold-HashChild, fold-MaskBit, fold-DynCell, fold-ReadCell, fold-IsActive, fold-OwnRead, fold-OwnWrite, fold-Acc, fold-Want, fold-If, fold-For}
use Rattle.sg_batch.proofs.TextLayouts.{from_flat, into_flat, flat_of_map, named, named_is, named_want, named_read, named_own, named_write, named_acc, named_else, for_from, for_into, if_from, if_into, NoWant, NoWrite, NoAcc, NoRead, NoOwn, NoIf, NoFor}

-- the layouts that an instruction wants or uses
abbrev used_by : Inst → List ℕ
used_by = named layout_touched

touched_is : (inst : Inst) (roots others : List ℕ) → rooted_by inst ≡ roots → used_by inst ≡ others → touched_by inst ≡ roots ++ others
touched_is inst roots others is is' = ap (λ (ls : List ℕ). ls ++ used_by inst) is ∙ ap (λ (ls : List ℕ). roots ++ ls) is'

pub touched_want : (inst : Inst) (layout : ℕ) (index : List ℕ) (stmt : ℕ) → inst ≡ v.Want layout index stmt → touched_by inst ≡ layout ∷ []
touched_want inst layout index stmt is =
    ap touched_by is ∙ touched_is _ [] (layout ∷ []) (fold-Want rooted_step layout index stmt) (named_want layout_touched _ layout index stmt refl)

pub touched_root : (inst : Inst) (to layout : ℕ) → inst ≡ v.Root to layout → touched_by inst ≡ layout ∷ []
touched_root inst to layout is =
    ap touched_by is ∙ touched_is _ (layout ∷ []) [] (fold-Root rooted_step to layout) (named_is layout_touched _ [] [] (fold-Root wanted_step to layout) (fold-Root uses_step to layout))

pub touched_read : (inst : Inst) (to place layout field : ℕ) (index : List ℕ) → inst ≡ v.ReadCell to place layout field index → touched_by inst ≡ layout ∷ []
touched_read inst to place layout field index is =
    ap touched_by is ∙ touched_is _ [] (layout ∷ []) (fold-ReadCell rooted_step to place layout field index) (named_read layout_touched _ to place layout field index refl)

pub touched_own : (inst : Inst) (to layout field : ℕ) → inst ≡ v.OwnRead to layout field → touched_by inst ≡ layout ∷ []
touched_own inst to layout field is =
    ap touched_by is ∙ touched_is _ [] (layout ∷ []) (fold-OwnRead rooted_step to layout field) (named_own layout_touched _ to layout field refl)

pub touched_write : (inst : Inst) (layout field from stmt : ℕ) → inst ≡ v.OwnWrite layout field from stmt → touched_by inst ≡ layout ∷ []
touched_write inst layout field from stmt is =
    ap touched_by is ∙ touched_is _ [] (layout ∷ []) (fold-OwnWrite rooted_step layout field from stmt) (named_write layout_touched _ layout field from stmt refl)

pub touched_acc : (inst : Inst) (op : AccOp) (layout field place from : ℕ) (index : List ℕ) (stmt : ℕ) → inst ≡ v.Acc op layout field place from index stmt → touched_by inst ≡ layout ∷ []
touched_acc inst op layout field place from index stmt is =
    ap touched_by is
    ∙ touched_is _ [] (layout ∷ []) (fold-Acc rooted_step op layout field place from index stmt) (named_acc layout_touched _ op layout field place from index stmt refl)

-- ---- the other instructions

abbrev NoRoot : Inst → Type 0
NoRoot inst = (to layout : ℕ) → inst ≡ v.Root to layout → ⊥

abbrev RootsNone : Inst → Type 0
RootsNone inst = NoRoot inst → NoIf inst → NoFor inst → rooted_by inst ≡ []

roots_none : (inst : Inst) → RootsNone inst
roots_none =
    by_inst RootsNone
    (λ to word nr ni nf. fold-Const rooted_step to word)
    (λ to var nr ni nf. fold-Var rooted_step to var)
    (λ var from nr ni nf. fold-Set rooted_step var from)
    (λ to op given a b nr ni nf. fold-Bin rooted_step to op given a b)
    (λ to op given a nr ni nf. fold-Un rooted_step to op given a)
    (λ to a b s nr ni nf. fold-Mulq rooted_step to a b s)
    (λ to layout nr ni nf. absurd (nr to layout refl))
    (λ to place axis extent index nr ni nf. fold-Check rooted_step to place axis extent index)
    (λ to div size from nr ni nf. fold-Extract rooted_step to div size from)
    (λ to high size low nr ni nf. fold-Offset rooted_step to high size low)
    (λ to place node offset nr ni nf. fold-Child rooted_step to place node offset)
    (λ to place node offset nr ni nf. fold-HashChild rooted_step to place node offset)
    (λ to place node offset nr ni nf. fold-MaskBit rooted_step to place node offset)
    (λ to place node offset nr ni nf. fold-DynCell rooted_step to place node offset)
    (λ to place layout field index nr ni nf. fold-ReadCell rooted_step to place layout field index)
    (λ to place index nr ni nf. fold-IsActive rooted_step to place index)
    (λ to layout field nr ni nf. fold-OwnRead rooted_step to layout field)
    (λ layout field from stmt nr ni nf. fold-OwnWrite rooted_step layout field from stmt)
    (λ op layout field place from index stmt nr ni nf. fold-Acc rooted_step op layout field place from index stmt)
    (λ layout index stmt nr ni nf. fold-Want rooted_step layout index stmt)
    (λ cond block otherwise nr ni nf. absurd (ni cond block otherwise refl))
    (λ var lo hi body nr ni nf. absurd (nf var lo hi body refl))

pub touched_else : (inst : Inst) → NoRoot inst → NoRead inst → NoOwn inst → NoWant inst → NoWrite inst → NoAcc inst → NoIf inst → NoFor inst → touched_by inst ≡ []
touched_else inst no_root no_read no_own no_want no_write no_acc no_if no_for =
    touched_is inst [] [] (roots_none inst no_root no_if no_for) (named_else layout_touched inst (λ layout field. inr no_read) (λ layout field. inr no_own) no_want no_write no_acc no_if no_for)

-- the one layout of an instruction, by the test of it
pub arm_some : (inst : Inst) (it layout : ℕ) → touched_by inst ≡ it ∷ [] → (it == layout) ≡ true → Contains (touched_by inst) layout
arm_some inst it layout is same = subst (λ (list : List ℕ). Contains list layout) (sym is) (contains_head layout it [] (eqb-true it layout same))

pub arm_none : (inst : Inst) (it layout : ℕ) → touched_by inst ≡ it ∷ [] → (it == layout) ≡ false → Contains (touched_by inst) layout → ⊥
arm_none inst it layout is differ has = by (contains_cases layout it [] (subst (λ (list : List ℕ). Contains list layout) is has))
  where
    by : (it ≡ layout) ⊎ Contains [] layout → ⊥
    by (inl same) = both_ways (it == layout) differ (eq-eqb it layout same)
    by (inr none) = contains_none layout none

-- no layout of an instruction
pub else_none : (inst : Inst) (layout : ℕ) → touched_by inst ≡ [] → Contains (touched_by inst) layout → ⊥
else_none inst layout is has = contains_none layout (subst (λ (list : List ℕ). Contains list layout) is has)

-- ---- those of a block

abbrev touched_in : List Inst → List ℕ
touched_in block = flat_map touched_by block

block_from : (block : List Inst) (n : ℕ) → Contains (touched_in block) n → Contains (flat_map rooted_by block ++ flat_map used_by block) n
block_from block n has =
    let inst = from_flat touched_by block n has in
    by inst.0 inst.1.0 (Contains-append_cases (rooted_by inst.0) (used_by inst.0) n inst.1.1)
  where
    by : (inst : Inst) → Contains block inst → Contains (rooted_by inst) n ⊎ Contains (used_by inst) n → Contains (flat_map rooted_by block ++ flat_map used_by block) n
    by inst there (inl rooted) = Contains-append_left (flat_map rooted_by block) (flat_map used_by block) n (into_flat rooted_by block inst n there rooted)
    by inst there (inr used) = Contains-append_right (flat_map rooted_by block) (flat_map used_by block) n (into_flat used_by block inst n there used)

rooted_into : (block : List Inst) (n : ℕ) → Contains (flat_map rooted_by block) n → Contains (touched_in block) n
rooted_into block n has =
    let inst = from_flat rooted_by block n has in
    into_flat touched_by block inst.0 n inst.1.0 (Contains-append_left (rooted_by inst.0) (used_by inst.0) n inst.1.1)

used_into : (block : List Inst) (n : ℕ) → Contains (flat_map used_by block) n → Contains (touched_in block) n
used_into block n has =
    let inst = from_flat used_by block n has in
    into_flat touched_by block inst.0 n inst.1.0 (Contains-append_right (rooted_by inst.0) (used_by inst.0) n inst.1.1)

-- ---- what an instruction with blocks touches

rooted_for : (inst : Inst) (var : ℕ) (lo hi : ℤ) (body : List Inst) → inst ≡ v.For var lo hi body → rooted_by inst ≡ flat_map rooted_by body
rooted_for inst var lo hi body is = ap rooted_by is ∙ fold-For rooted_step var lo hi body ∙ flat_of_map rooted_by body

rooted_if : (inst : Inst) (cond : ℕ) (block otherwise : List Inst) → inst ≡ v.If cond block otherwise → rooted_by inst ≡ flat_map rooted_by block ++ flat_map rooted_by otherwise
rooted_if inst cond block otherwise is =
    ap rooted_by is ∙ fold-If rooted_step cond block otherwise
    ∙ ap (λ (ls : List ℕ). ls ++ flat_map (λ (ms : List ℕ). ms) (map rooted_by otherwise)) (flat_of_map rooted_by block)
    ∙ ap (λ (ls : List ℕ). flat_map rooted_by block ++ ls) (flat_of_map rooted_by otherwise)

body_from : (inst : Inst) (var : ℕ) (lo hi : ℤ) (body : List Inst) (n : ℕ) → inst ≡ v.For var lo hi body → Contains (touched_by inst) n → Contains (touched_in body) n
body_from inst var lo hi body n is has = by (Contains-append_cases (rooted_by inst) (used_by inst) n has)
  where
    by : Contains (rooted_by inst) n ⊎ Contains (used_by inst) n → Contains (touched_in body) n
    by (inl rooted) = rooted_into body n (subst (λ (list : List ℕ). Contains list n) (rooted_for inst var lo hi body is) rooted)
    by (inr used) = used_into body n (for_from layout_touched inst var lo hi body n is used)

body_into : (inst : Inst) (var : ℕ) (lo hi : ℤ) (body : List Inst) (n : ℕ) → inst ≡ v.For var lo hi body → Contains (touched_in body) n → Contains (touched_by inst) n
body_into inst var lo hi body n is has = by (Contains-append_cases (flat_map rooted_by body) (flat_map used_by body) n (block_from body n has))
  where
    by : Contains (flat_map rooted_by body) n ⊎ Contains (flat_map used_by body) n → Contains (touched_by inst) n
    by (inl rooted) = Contains-append_left (rooted_by inst) (used_by inst) n (subst (λ (list : List ℕ). Contains list n) (sym (rooted_for inst var lo hi body is)) rooted)
    by (inr used) = Contains-append_right (rooted_by inst) (used_by inst) n (for_into layout_touched inst var lo hi body n is used)

module _ (inst : Inst) (cond : ℕ) (block otherwise : List Inst) (is : inst ≡ v.If cond block otherwise) (n : ℕ) where
  branches_from : Contains (touched_by inst) n → Contains (touched_in block) n ⊎ Contains (touched_in otherwise) n
  branches_from has = by (Contains-append_cases (rooted_by inst) (used_by inst) n has)
    where
      by_root : Contains (flat_map rooted_by block) n ⊎ Contains (flat_map rooted_by otherwise) n → Contains (touched_in block) n ⊎ Contains (touched_in otherwise) n
      by_root (inl here) = inl (rooted_into block n here)
      by_root (inr there) = inr (rooted_into otherwise n there)

      by_use : Contains (flat_map used_by block) n ⊎ Contains (flat_map used_by otherwise) n → Contains (touched_in block) n ⊎ Contains (touched_in otherwise) n
      by_use (inl here) = inl (used_into block n here)
      by_use (inr there) = inr (used_into otherwise n there)

      by : Contains (rooted_by inst) n ⊎ Contains (used_by inst) n → Contains (touched_in block) n ⊎ Contains (touched_in otherwise) n
      by (inl rooted) = by_root (Contains-append_cases (flat_map rooted_by block) (flat_map rooted_by otherwise) n (subst (λ (list : List ℕ). Contains list n) (rooted_if inst cond block otherwise is) rooted))
      by (inr used) = by_use (Contains-append_cases (flat_map used_by block) (flat_map used_by otherwise) n (if_from layout_touched inst cond block otherwise n is used))

  rooted_both : Contains (flat_map rooted_by block ++ flat_map rooted_by otherwise) n → Contains (touched_by inst) n
  rooted_both has = Contains-append_left (rooted_by inst) (used_by inst) n (subst (λ (list : List ℕ). Contains list n) (sym (rooted_if inst cond block otherwise is)) has)

  used_both : Contains (flat_map used_by block ++ flat_map used_by otherwise) n → Contains (touched_by inst) n
  used_both has = Contains-append_right (rooted_by inst) (used_by inst) n (if_into layout_touched inst cond block otherwise n is has)

  first_into : Contains (touched_in block) n → Contains (touched_by inst) n
  first_into has = by (Contains-append_cases (flat_map rooted_by block) (flat_map used_by block) n (block_from block n has))
    where
      by : Contains (flat_map rooted_by block) n ⊎ Contains (flat_map used_by block) n → Contains (touched_by inst) n
      by (inl rooted) = rooted_both (Contains-append_left (flat_map rooted_by block) (flat_map rooted_by otherwise) n rooted)
      by (inr used) = used_both (Contains-append_left (flat_map used_by block) (flat_map used_by otherwise) n used)

  second_into : Contains (touched_in otherwise) n → Contains (touched_by inst) n
  second_into has = by (Contains-append_cases (flat_map rooted_by otherwise) (flat_map used_by otherwise) n (block_from otherwise n has))
    where
      by : Contains (flat_map rooted_by otherwise) n ⊎ Contains (flat_map used_by otherwise) n → Contains (touched_by inst) n
      by (inl rooted) = rooted_both (Contains-append_right (flat_map rooted_by block) (flat_map rooted_by otherwise) n rooted)
      by (inr used) = used_both (Contains-append_right (flat_map used_by block) (flat_map used_by otherwise) n used)

pub if_first : (inst : Inst) (cond : ℕ) (block otherwise : List Inst) → inst ≡ v.If cond block otherwise → (first : List Inst) (layout : ℕ) → first ≡ block → Contains (flat_map touched_by first) layout → Contains (touched_by inst) layout
if_first inst cond block otherwise is first layout is_first has =
    first_into inst cond block otherwise is layout (subst (λ (list : List Inst). Contains (touched_in list) layout) is_first has)

pub if_second : (inst : Inst) (cond : ℕ) (block otherwise : List Inst) → inst ≡ v.If cond block otherwise → (second : List Inst) (layout : ℕ) → second ≡ otherwise → Contains (flat_map touched_by second) layout → Contains (touched_by inst) layout
if_second inst cond block otherwise is second layout is_second has =
    second_into inst cond block otherwise is layout (subst (λ (list : List Inst). Contains (touched_in list) layout) is_second has)

pub if_neither : (inst : Inst) (cond : ℕ) (block otherwise : List Inst) → inst ≡ v.If cond block otherwise → (first second : List Inst) (layout : ℕ) → first ≡ block → second ≡ otherwise
    → (Contains (flat_map touched_by first) layout → ⊥) → (Contains (flat_map touched_by second) layout → ⊥) → Contains (touched_by inst) layout → ⊥
if_neither inst cond block otherwise is first second layout is_first is_second no_first no_second has =
    by (branches_from inst cond block otherwise is layout has)
  where
    by : Contains (touched_in block) layout ⊎ Contains (touched_in otherwise) layout → ⊥
    by (inl here) = no_first (subst (λ (list : List Inst). Contains (touched_in list) layout) (sym is_first) here)
    by (inr there) = no_second (subst (λ (list : List Inst). Contains (touched_in list) layout) (sym is_second) there)

pub for_some : (inst : Inst) (var : ℕ) (lo hi : ℤ) (body : List Inst) → inst ≡ v.For var lo hi body → (block : List Inst) (layout : ℕ) → block ≡ body → Contains (flat_map touched_by block) layout → Contains (touched_by inst) layout
for_some inst var lo hi body is block layout is_block has = body_into inst var lo hi body layout is (subst (λ (list : List Inst). Contains (touched_in list) layout) is_block has)

pub for_none : (inst : Inst) (var : ℕ) (lo hi : ℤ) (body : List Inst) → inst ≡ v.For var lo hi body → (block : List Inst) (layout : ℕ) → block ≡ body → (Contains (flat_map touched_by block) layout → ⊥) → Contains (touched_by inst) layout → ⊥
for_none inst var lo hi body is block layout is_block none has =
    none (subst (λ (list : List Inst). Contains (touched_in list) layout) (sym is_block) (body_from inst var lo hi body layout is has))
