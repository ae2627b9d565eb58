-- Instruction by instruction: what stays of a block.
use Rattle.std.specs.Prelude.{◌≡◌, ◌↔◌, IsTrue, refl, ℕ, ℤ, Bool, true, false, not, ◌&&◌, ◌||◌, List, [], ◌∷◌, ◌++◌, map, get_or}
use Rattle.std.proofs.Common.{sym, ap, ◌∙◌}
use Rattle.sg_words.specs.declared.operators.Ty.{Ty}
use Rattle.sg_words.specs.declared.operators.Ty.TheVariants as ty
use Rattle.sg_ir.specs.declared.code.Inst.{Inst}
use Rattle.sg_ir.specs.declared.code.Inst.TheVariants as v
use Rattle.sg_ir.specs.declared.op.Op.TheVariants as op
use Rattle.sg_ir.specs.declared.op.Step.TheVariants as step
use Rattle.sg_ir.specs.declared.op.Descent.TheVariants as by
use Rattle.sg_ir.specs.WellTyped.{is_truth}
use Rattle.sg_ir.specs.Blocks.{Value, Activity, Block, End, Word, Spot, Cell, Do, Branch, Loop, SetVar, WriteOwn, Contribute, Wish, Link, chained, link_step, link, block_of}
use Rattle.sg_ir.specs.steps.Frames.{without_blocks_step, is_without_blocks}
use Rattle.sg_ir.proofs.Uses.{by_inst}
use Rattle.sg_ir.proofs.Uses.{fold-Const, fold-Var, fold-Set, fold-Bin, fold-Un, fold-Mulq, fold-Root, fold-Check, fold-Extract, fold-Offset, fold-Child, fold-HashChild, fold-MaskBit, fold-DynCell, fold-ReadCell, fold-IsActive, fold-OwnRead, fold-OwnWrite, fold-Acc, fold-Want, fold-If, fold-For}
use Rattle.sg_simplify.specs.Kept.{Keep, behind_where, is_end, kept_part}
use Rattle.sg_simplify.specs.steps.Left.{stays_step, stays}
use Rattle.sg_simplify.proofs.KeptTests.{none_set}

chained-append : (before behind : List Link) (rest : Block) → chained (before ++ behind) rest ≡ chained before (chained behind rest)
chained-append [] behind rest = refl
chained-append (first ∷ before) behind rest = ap first (chained-append before behind rest)

map-append : {A B : Type 0} (f : A → B) (xs ys : List A) → map f (xs ++ ys) ≡ map f xs ++ map f ys
map-append f [] ys = refl
map-append f (x ∷ xs) ys = ap (λ zs. f x ∷ zs) (map-append f xs ys)

-- a list without instructions
abbrev pub is_none : List Inst → Bool
is_none [] = true
is_none (inst ∷ insts) = false

pub none_tested : (test : Bool) (insts : List Inst) → IsTrue test ↔ (insts ≡ []) → test ≡ is_none insts
none_tested true [] e = refl
none_tested true (inst ∷ insts) e = let no_such : inst ∷ insts ≡ [] = e.0 refl in absurd (cc)
none_tested false [] e = none_set (e.1 refl)
none_tested false (inst ∷ insts) e = refl

-- what is neither an `if` nor a loop has no blocks
abbrev NoIf : Inst → Type 0
NoIf inst = (cond : ℕ) (block otherwise : List Inst) → inst ≡ v.If cond block otherwise → ⊥

abbrev NoFor : Inst → Type 0
NoFor inst = (var : ℕ) (lo hi : ℤ) (body : List Inst) → inst ≡ v.For var lo hi body → ⊥

pub plain_by : (inst : Inst) → NoIf inst → NoFor inst → is_without_blocks inst ≡ true
plain_by = by_inst (λ inst. NoIf inst → NoFor inst → is_without_blocks inst ≡ true)
    (λ to word a b. fold-Const without_blocks_step to word)
    (λ to var a b. fold-Var without_blocks_step to var)
    (λ var from a b. fold-Set without_blocks_step var from)
    (λ to how kind x y a b. fold-Bin without_blocks_step to how kind x y)
    (λ to how kind x a b. fold-Un without_blocks_step to how kind x)
    (λ to x y s a b. fold-Mulq without_blocks_step to x y s)
    (λ to layout a b. fold-Root without_blocks_step to layout)
    (λ to place axis extent index a b. fold-Check without_blocks_step to place axis extent index)
    (λ to div size from a b. fold-Extract without_blocks_step to div size from)
    (λ to high size low a b. fold-Offset without_blocks_step to high size low)
    (λ to place node offset a b. fold-Child without_blocks_step to place node offset)
    (λ to place node offset a b. fold-HashChild without_blocks_step to place node offset)
    (λ to place node offset a b. fold-MaskBit without_blocks_step to place node offset)
    (λ to place node offset a b. fold-DynCell without_blocks_step to place node offset)
    (λ to place layout field index a b. fold-ReadCell without_blocks_step to place layout field index)
    (λ to place index a b. fold-IsActive without_blocks_step to place index)
    (λ to layout field a b. fold-OwnRead without_blocks_step to layout field)
    (λ layout field from stmt a b. fold-OwnWrite without_blocks_step layout field from stmt)
    (λ how layout field place from index stmt a b. fold-Acc without_blocks_step how layout field place from index stmt)
    (λ layout index stmt a b. fold-Want without_blocks_step layout index stmt)
    (λ cond block otherwise a b. absurd (a cond block otherwise refl))
    (λ var lo hi body a b. absurd (b var lo hi body refl))

module _ (keep : Keep) (types : List Ty) where
  abbrev StaysWhole : Inst → Type 0
  StaysWhole inst = is_without_blocks inst ≡ true → (rest : Block) → kept_part keep (link types inst rest) ≡ behind_where (stays keep inst) (link types inst) (kept_part keep rest)

  carry : (inst : Inst) (l : Link) (s : Bool) → link types inst ≡ l → stays keep inst ≡ s → ((rest : Block) → kept_part keep (l rest) ≡ behind_where s l (kept_part keep rest)) → StaysWhole inst
  carry inst l s e f h plain rest =
      ap (λ (k : Link). kept_part keep (k rest)) e
      ∙ (h rest ∙ sym (ap (λ (k : Link). behind_where (stays keep inst) k (kept_part keep rest)) e ∙ ap (λ t. behind_where t l (kept_part keep rest)) f))

  -- an instruction without blocks stays or not
  pub plain_stays : (inst : Inst) → StaysWhole inst
  plain_stays = by_inst StaysWhole
      (λ to word. carry (v.Const to word) (Word to (op.Const word (is_truth (get_or types to ty.U32)))) (keep.regs to) (fold-Const (link_step types) to word) (fold-Const (stays_step keep) to word) (λ rest. refl))
      (λ to var. carry (v.Var to var) (Word to (op.Var var)) (keep.regs to) (fold-Var (link_step types) to var) (fold-Var (stays_step keep) to var) (λ rest. refl))
      (λ var from. carry (v.Set var from) (Do (SetVar var from)) (keep.vars var) (fold-Set (link_step types) var from) (fold-Set (stays_step keep) var from) (λ rest. refl))
      (λ to how kind a b. carry (v.Bin to how kind a b) (Word to (op.Bin how kind a b)) (keep.regs to) (fold-Bin (link_step types) to how kind a b) (fold-Bin (stays_step keep) to how kind a b) (λ rest. refl))
      (λ to how kind a. carry (v.Un to how kind a) (Word to (op.Un how kind a)) (keep.regs to) (fold-Un (link_step types) to how kind a) (fold-Un (stays_step keep) to how kind a) (λ rest. refl))
      (λ to a b s. carry (v.Mulq to a b s) (Word to (op.Mulq a b s)) (keep.regs to) (fold-Mulq (link_step types) to a b s) (fold-Mulq (stays_step keep) to a b s) (λ rest. refl))
      (λ to layout. carry (v.Root to layout) (Spot to (step.Root layout)) (keep.places to) (fold-Root (link_step types) to layout) (fold-Root (stays_step keep) to layout) (λ rest. refl))
      (λ to place axis extent index. carry (v.Check to place axis extent index) (Spot to (step.Check place axis extent index)) (keep.places to) (fold-Check (link_step types) to place axis extent index) (fold-Check (stays_step keep) to place axis extent index) (λ rest. refl))
      (λ to div size from. carry (v.Extract to div size from) (Word to (op.Extract div size from)) (keep.regs to) (fold-Extract (link_step types) to div size from) (fold-Extract (stays_step keep) to div size from) (λ rest. refl))
      (λ to high size low. carry (v.Offset to high size low) (Word to (op.Offset high size low)) (keep.regs to) (fold-Offset (link_step types) to high size low) (fold-Offset (stays_step keep) to high size low) (λ rest. refl))
      (λ to place node offset. carry (v.Child to place node offset) (Spot to (step.Down by.Child place node offset)) (keep.places to) (fold-Child (link_step types) to place node offset) (fold-Child (stays_step keep) to place node offset) (λ rest. refl))
      (λ to place node offset. carry (v.HashChild to place node offset) (Spot to (step.Down by.HashChild place node offset)) (keep.places to) (fold-HashChild (link_step types) to place node offset) (fold-HashChild (stays_step keep) to place node offset) (λ rest. refl))
      (λ to place node offset. carry (v.MaskBit to place node offset) (Spot to (step.Down by.MaskBit place node offset)) (keep.places to) (fold-MaskBit (link_step types) to place node offset) (fold-MaskBit (stays_step keep) to place node offset) (λ rest. refl))
      (λ to place node offset. carry (v.DynCell to place node offset) (Spot to (step.Down by.DynCell place node offset)) (keep.places to) (fold-DynCell (link_step types) to place node offset) (fold-DynCell (stays_step keep) to place node offset) (λ rest. refl))
      (λ to place layout field index. carry (v.ReadCell to place layout field index) (Cell to place (Value layout field) index) (keep.regs to) (fold-ReadCell (link_step types) to place layout field index) (fold-ReadCell (stays_step keep) to place layout field index) (λ rest. refl))
      (λ to place index. carry (v.IsActive to place index) (Cell to place Activity index) (keep.regs to) (fold-IsActive (link_step types) to place index) (fold-IsActive (stays_step keep) to place index) (λ rest. refl))
      (λ to layout field. carry (v.OwnRead to layout field) (Word to (op.OwnRead layout field)) (keep.regs to) (fold-OwnRead (link_step types) to layout field) (fold-OwnRead (stays_step keep) to layout field) (λ rest. refl))
      (λ layout field from stmt. carry (v.OwnWrite layout field from stmt) (Do (WriteOwn layout field from stmt)) (true) (fold-OwnWrite (link_step types) layout field from stmt) (fold-OwnWrite (stays_step keep) layout field from stmt) (λ rest. refl))
      (λ how layout field place from index stmt. carry (v.Acc how layout field place from index stmt) (Do (Contribute how layout field place from index stmt)) (true) (fold-Acc (link_step types) how layout field place from index stmt) (fold-Acc (stays_step keep) how layout field place from index stmt) (λ rest. refl))
      (λ layout index stmt. carry (v.Want layout index stmt) (Do (Wish layout index stmt)) (true) (fold-Want (link_step types) layout index stmt) (fold-Want (stays_step keep) layout index stmt) (λ rest. refl))
      (λ cond block otherwise plain rest. none_set (sym (fold-If without_blocks_step cond block otherwise) ∙ plain))
      (λ var lo hi body plain rest. none_set (sym (fold-For without_blocks_step var lo hi body) ∙ plain))

  no_end : (inst : Inst) → (rest : Block) → is_end (link types inst rest) ≡ false
  no_end = by_inst (λ inst. (rest : Block) → is_end (link types inst rest) ≡ false)
      (λ to word rest. ap (λ (k : Link). is_end (k rest)) (fold-Const (link_step types) to word))
      (λ to var rest. ap (λ (k : Link). is_end (k rest)) (fold-Var (link_step types) to var))
      (λ var from rest. ap (λ (k : Link). is_end (k rest)) (fold-Set (link_step types) var from))
      (λ to how kind a b rest. ap (λ (k : Link). is_end (k rest)) (fold-Bin (link_step types) to how kind a b))
      (λ to how kind a rest. ap (λ (k : Link). is_end (k rest)) (fold-Un (link_step types) to how kind a))
      (λ to a b s rest. ap (λ (k : Link). is_end (k rest)) (fold-Mulq (link_step types) to a b s))
      (λ to layout rest. ap (λ (k : Link). is_end (k rest)) (fold-Root (link_step types) to layout))
      (λ to place axis extent index rest. ap (λ (k : Link). is_end (k rest)) (fold-Check (link_step types) to place axis extent index))
      (λ to div size from rest. ap (λ (k : Link). is_end (k rest)) (fold-Extract (link_step types) to div size from))
      (λ to high size low rest. ap (λ (k : Link). is_end (k rest)) (fold-Offset (link_step types) to high size low))
      (λ to place node offset rest. ap (λ (k : Link). is_end (k rest)) (fold-Child (link_step types) to place node offset))
      (λ to place node offset rest. ap (λ (k : Link). is_end (k rest)) (fold-HashChild (link_step types) to place node offset))
      (λ to place node offset rest. ap (λ (k : Link). is_end (k rest)) (fold-MaskBit (link_step types) to place node offset))
      (λ to place node offset rest. ap (λ (k : Link). is_end (k rest)) (fold-DynCell (link_step types) to place node offset))
      (λ to place layout field index rest. ap (λ (k : Link). is_end (k rest)) (fold-ReadCell (link_step types) to place layout field index))
      (λ to place index rest. ap (λ (k : Link). is_end (k rest)) (fold-IsActive (link_step types) to place index))
      (λ to layout field rest. ap (λ (k : Link). is_end (k rest)) (fold-OwnRead (link_step types) to layout field))
      (λ layout field from stmt rest. ap (λ (k : Link). is_end (k rest)) (fold-OwnWrite (link_step types) layout field from stmt))
      (λ how layout field place from index stmt rest. ap (λ (k : Link). is_end (k rest)) (fold-Acc (link_step types) how layout field place from index stmt))
      (λ layout index stmt rest. ap (λ (k : Link). is_end (k rest)) (fold-Want (link_step types) layout index stmt))
      (λ cond block otherwise rest. ap (λ (k : Link). is_end (k rest)) (fold-If (link_step types) cond block otherwise))
      (λ var lo hi body rest. ap (λ (k : Link). is_end (k rest)) (fold-For (link_step types) var lo hi body))

  pub none_is_end : (insts : List Inst) → is_end (block_of types insts) ≡ is_none insts
  none_is_end [] = refl
  none_is_end (inst ∷ insts) = no_end inst (chained (map (link types) insts) End)

  -- ---- a list that was put out, and one more instruction where it stays
  pushed : (before : List Inst) (inst : Inst) (rest : Block) → chained (map (link types) before) (link types inst rest) ≡ chained (map (link types) (before ++ inst ∷ [])) rest
  pushed before inst rest = sym (ap (λ (ls : List Link). chained ls rest) (map-append (link types) before (inst ∷ [])) ∙ chained-append (map (link types) before) (link types inst ∷ []) rest)

  pub pushed_plain : (before behind : List Inst) (inst : Inst) (rest : Block) → is_without_blocks inst ≡ true → stays keep inst ≡ true → behind ≡ before ++ inst ∷ []
      → chained (map (link types) before) (kept_part keep (link types inst rest)) ≡ chained (map (link types) behind) (kept_part keep rest)
  pushed_plain before behind inst rest plain on is =
      ap (chained (map (link types) before)) (plain_stays inst plain rest ∙ ap (λ t. behind_where t (link types inst) (kept_part keep rest)) on)
      ∙ (pushed before inst (kept_part keep rest) ∙ ap (λ insts. chained (map (link types) insts) (kept_part keep rest)) (sym is))

  pub left_plain : (before : List Inst) (inst : Inst) (rest : Block) → is_without_blocks inst ≡ true → stays keep inst ≡ false
      → chained (map (link types) before) (kept_part keep (link types inst rest)) ≡ chained (map (link types) before) (kept_part keep rest)
  left_plain before inst rest plain off =
      ap (chained (map (link types) before)) (plain_stays inst plain rest ∙ ap (λ t. behind_where t (link types inst) (kept_part keep rest)) off)

  -- an `if`, of whose blocks so much is left
  pub if_left : (cond : ℕ) (whole otherwise some other : List Inst) (rest : Block) → block_of types some ≡ kept_part keep (block_of types whole) → block_of types other ≡ kept_part keep (block_of types otherwise)
      → kept_part keep (link types (v.If cond whole otherwise) rest) ≡ behind_where (not (is_none some && is_none other)) (link types (v.If cond some other)) (kept_part keep rest)
  if_left cond whole otherwise some other rest e f =
      ap (λ (k : Link). kept_part keep (k rest)) (fold-If (link_step types) cond whole otherwise)
      ∙ (ap (λ x. behind_where (not (is_end x && is_end (kept_part keep (block_of types otherwise)))) (Branch cond x (kept_part keep (block_of types otherwise))) (kept_part keep rest)) (sym e)
      ∙ (ap (λ x. behind_where (not (is_end (block_of types some) && is_end x)) (Branch cond (block_of types some) x) (kept_part keep rest)) (sym f)
      ∙ (ap (λ t. behind_where (not (t && is_end (block_of types other))) (Branch cond (block_of types some) (block_of types other)) (kept_part keep rest)) (none_is_end some)
      ∙ (ap (λ t. behind_where (not (is_none some && t)) (Branch cond (block_of types some) (block_of types other)) (kept_part keep rest)) (none_is_end other)
      ∙ ap (λ (k : Link). behind_where (not (is_none some && is_none other)) k (kept_part keep rest)) (sym (fold-If (link_step types) cond some other))))))

  -- a loop, of whose body so much is left
  pub for_left : (var : ℕ) (lo hi : ℤ) (body some : List Inst) (rest : Block) → block_of types some ≡ kept_part keep (block_of types body)
      → kept_part keep (link types (v.For var lo hi body) rest) ≡ behind_where (keep.vars var || not (is_none some)) (link types (v.For var lo hi some)) (kept_part keep rest)
  for_left var lo hi body some rest e =
      ap (λ (k : Link). kept_part keep (k rest)) (fold-For (link_step types) var lo hi body)
      ∙ (ap (λ x. behind_where (keep.vars var || not (is_end x)) (Loop var lo hi x) (kept_part keep rest)) (sym e)
      ∙ (ap (λ t. behind_where (keep.vars var || not t) (Loop var lo hi (block_of types some)) (kept_part keep rest)) (none_is_end some)
      ∙ ap (λ (k : Link). behind_where (keep.vars var || not (is_none some)) k (kept_part keep rest)) (sym (fold-For (link_step types) var lo hi some))))

  pub pushed_where : (before behind : List Inst) (inst some : Inst) (rest : Block) (test : Bool) → kept_part keep (link types inst rest) ≡ behind_where test (link types some) (kept_part keep rest) → test ≡ true → behind ≡ before ++ some ∷ []
      → chained (map (link types) before) (kept_part keep (link types inst rest)) ≡ chained (map (link types) behind) (kept_part keep rest)
  pushed_where before behind inst some rest test e on is =
      ap (chained (map (link types) before)) (e ∙ ap (λ t. behind_where t (link types some) (kept_part keep rest)) on)
      ∙ (pushed before some (kept_part keep rest) ∙ ap (λ insts. chained (map (link types) insts) (kept_part keep rest)) (sym is))

  pub left_where : (before : List Inst) (inst some : Inst) (rest : Block) (test : Bool) → kept_part keep (link types inst rest) ≡ behind_where test (link types some) (kept_part keep rest) → test ≡ false
      → chained (map (link types) before) (kept_part keep (link types inst rest)) ≡ chained (map (link types) before) (kept_part keep rest)
  left_where before inst some rest test e off = ap (chained (map (link types) before)) (e ∙ ap (λ t. behind_where t (link types some) (kept_part keep rest)) off)
