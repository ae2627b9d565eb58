-- The layouts that the text of an instruction and of a block wants or uses.
use Rattle.std.proofs.Common.{◌≡◌, ℕ, ◌+◌, ◌<◌, ◌≤◌, ℤ, inl, inr, ◌⊎◌, List, [], ◌∷◌, ◌++◌, map, length, take, drop, get_or, Option, refl, sym, ap, ◌∙◌, subst, append-nil, append_assoc}
use Rattle.std.specs.Prelude.{Contains}
use Rattle.std.specs.List.{flat_map}
use Rattle.std.proofs.lemmas.List.{take_more, drop_all, drop_more}
use Rattle.std.proofs.lemmas.List.Elements.{Contains-append_left, Contains-append_right, Contains-append_cases}
use Rattle.sg_words.specs.declared.operators.AccOp.{AccOp}
use Rattle.sg_words.proofs.Uses.{contains_none, contains_head, contains_rest, contains_cases}
use Rattle.sg_flat.specs.declared.effects.Way.TheVariants.{Own, Acc}
use Rattle.sg_ir.specs.declared.code.Inst.{Inst}
use Rattle.sg_ir.specs.declared.code.Inst.TheVariants as v
use Rattle.sg_ir.specs.Apt.{Use, Writes, Reads, ReadsOwn, uses_in, uses_step}
use Rattle.sg_ir.specs.Touches.{layout_written, wanted_step, wanted_by, layouts_wanted, uses_by, written_by}
use Rattle.sg_batch.specs.steps.Next.{IsNext}
use Rattle.sg_batch.proofs.Finding.{next_same}
use Rattle.sg_ir.proofs.Uses.{by_inst, fold-Const, fold-Var, fold-Set, fold-Bin, fold-Un, fold-Mulq, fold-Root, fold-Check, fold-Extract, fold-Offset, fold-Child, fold-HashChild, fold-MaskBit, fold-DynCell, fold-ReadCell, fold-IsActive, fold-OwnRead, fold-OwnWrite, fold-Acc, fold-Want, fold-If, fold-For}

-- ---- lists made of lists

pub from_flat : {X Y : Type 0} (f : X → List Y) (xs : List X) (y : Y) → Contains (flat_map f xs) y → (x : X) × (Contains xs x × Contains (f x) y)
from_flat f [] y has = absurd (contains_none y has)
from_flat {X} {Y} f (x ∷ xs) y has = by (λ later. from_flat f xs y later) (Contains-append_cases (f x) (flat_map f xs) y has)
  where
    by : (Contains (flat_map f xs) y → (z : X) × (Contains xs z × Contains (f z) y)) → Contains (f x) y ⊎ Contains (flat_map f xs) y → (z : X) × (Contains (x ∷ xs) z × Contains (f z) y)
    by rest (inl here) = (x, (contains_head x x xs refl, here))
    by rest (inr later) = let is = rest later in (is.0, (contains_rest is.0 x xs is.1.0, is.1.1))

pub into_flat : {X Y : Type 0} (f : X → List Y) (xs : List X) (x : X) (y : Y) → Contains xs x → Contains (f x) y → Contains (flat_map f xs) y
into_flat f [] x y has there = absurd (contains_none x has)
into_flat {X} {Y} f (z ∷ xs) x y has there = by (λ later. into_flat f xs x y later there) (contains_cases x z xs has)
  where
    by : (Contains xs x → Contains (flat_map f xs) y) → (z ≡ x) ⊎ Contains xs x → Contains (f z ++ flat_map f xs) y
    by rest (inl same) = Contains-append_left (f z) (flat_map f xs) y (subst (λ (w : X). Contains (f w) y) (sym same) there)
    by rest (inr later) = Contains-append_right (f z) (flat_map f xs) y (rest later)

pub flat_of_map : {X Y : Type 0} (f : X → List Y) (xs : List X) → flat_map (λ (ys : List Y). ys) (map f xs) ≡ flat_map f xs
flat_of_map f [] = refl
flat_of_map {X} {Y} f (x ∷ xs) = ap (λ (ys : List Y). f x ++ ys) (flat_of_map f xs)

flat_append : {X Y : Type 0} (f : X → List Y) (xs ys : List X) → flat_map f (xs ++ ys) ≡ flat_map f xs ++ flat_map f ys
flat_append f [] ys = refl
flat_append {X} {Y} f (x ∷ xs) ys = ap (λ (zs : List Y). f x ++ zs) (flat_append f xs ys) ∙ sym (append_assoc (f x) (flat_map f xs) (flat_map f ys))

-- one item more
pub flat_more : {X Y : Type 0} (f : X → List Y) (xs : List X) (i : ℕ) (d x : X) → i < length xs → x ≡ get_or xs i d → flat_map f (take (i + 1) xs) ≡ flat_map f (take i xs) ++ f x
flat_more {X} {Y} f xs i d x below is =
    ap (flat_map f) (take_more xs i d below ∙ ap (λ (y : X). take i xs ++ y ∷ []) (sym is)) ∙ flat_append f (take i xs) (x ∷ []) ∙ ap (λ (ys : List Y). flat_map f (take i xs) ++ ys) (append-nil (f x))

-- one item less, from behind
pub flat_next : {X Y : Type 0} (f : X → List Y) (xs : List X) (i : ℕ) (x : X) (y : Y) → i < length xs → x ≡ get_or xs i x → (Contains (f x) y → ⊥) → Contains (flat_map f (drop i xs)) y → Contains (flat_map f (drop (i + 1) xs)) y
flat_next {X} {Y} f xs i x y below is none has =
    by (Contains-append_cases (f x) (flat_map f (drop (i + 1) xs)) y (subst (λ (zs : List X). Contains (flat_map f zs) y) split has))
  where
    split : drop i xs ≡ x ∷ drop (i + 1) xs
    split = drop_more xs i x below ∙ ap (λ (z : X). z ∷ drop (i + 1) xs) (sym is)

    by : Contains (f x) y ⊎ Contains (flat_map f (drop (i + 1) xs)) y → Contains (flat_map f (drop (i + 1) xs)) y
    by (inl here) = absurd (none here)
    by (inr later) = later

pub flat_end : {X Y : Type 0} (f : X → List Y) (xs : List X) (i : ℕ) (y : Y) → length xs ≤ i → Contains (flat_map f (drop i xs)) y → ⊥
flat_end {X} f xs i y past has = contains_none y (subst (λ (zs : List X). Contains (flat_map f zs) y) (drop_all i xs past) has)

-- ---- instructions

-- the layouts of an instruction: those of its wants, and those that a function tells of its uses
abbrev pub named : (Use → List ℕ) → Inst → List ℕ
named f inst = wanted_by inst ++ flat_map f (uses_by inst)

module _ (f : Use → List ℕ) where
  pub named_is : (inst : Inst) (wants : List ℕ) (uses : List Use) → wanted_by inst ≡ wants → uses_by inst ≡ uses → named f inst ≡ wants ++ flat_map f uses
  named_is inst wants uses is is' = ap (λ (ws : List ℕ). ws ++ flat_map f (uses_by inst)) is ∙ ap (λ (us : List Use). wants ++ flat_map f us) is'

  pub named_want : (inst : Inst) (layout : ℕ) (index : List ℕ) (stmt : ℕ) → inst ≡ v.Want layout index stmt → named f inst ≡ layout ∷ []
  named_want inst layout index stmt is = ap (named f) is ∙ named_is _ (layout ∷ []) [] (fold-Want wanted_step layout index stmt) (fold-Want uses_step layout index stmt)

  pub named_read : (inst : Inst) (to place layout field : ℕ) (index : List ℕ) → inst ≡ v.ReadCell to place layout field index → named f inst ≡ f (Reads layout field)
  named_read inst to place layout field index is =
      ap (named f) is ∙ named_is _ [] (Reads layout field ∷ []) (fold-ReadCell wanted_step to place layout field index) (fold-ReadCell uses_step to place layout field index) ∙ append-nil (f (Reads layout field))

  pub named_own : (inst : Inst) (to layout field : ℕ) → inst ≡ v.OwnRead to layout field → named f inst ≡ f (ReadsOwn layout field)
  named_own inst to layout field is =
      ap (named f) is ∙ named_is _ [] (ReadsOwn layout field ∷ []) (fold-OwnRead wanted_step to layout field) (fold-OwnRead uses_step to layout field) ∙ append-nil (f (ReadsOwn layout field))

  pub named_write : (inst : Inst) (layout field from stmt : ℕ) → inst ≡ v.OwnWrite layout field from stmt → named f inst ≡ f (Writes layout field Own)
  named_write inst layout field from stmt is =
      ap (named f) is ∙ named_is _ [] (Writes layout field Own ∷ []) (fold-OwnWrite wanted_step layout field from stmt) (fold-OwnWrite uses_step layout field from stmt) ∙ append-nil (f (Writes layout field Own))

  pub named_acc : (inst : Inst) (op : AccOp) (layout field place from : ℕ) (index : List ℕ) (stmt : ℕ) → inst ≡ v.Acc op layout field place from index stmt → named f inst ≡ f (Writes layout field (Acc op))
  named_acc inst op layout field place from index stmt is =
      ap (named f) is ∙ named_is _ [] (Writes layout field (Acc op) ∷ []) (fold-Acc wanted_step op layout field place from index stmt) (fold-Acc uses_step op layout field place from index stmt)
      ∙ append-nil (f (Writes layout field (Acc op)))

  -- ---- those of a block, by its wants and its uses

  block_from : (block : List Inst) (n : ℕ) → Contains (flat_map (named f) block) n → Contains (layouts_wanted block ++ flat_map f (uses_in block)) n
  block_from block n has =
      let inst = from_flat (named f) block n has in
      by inst.0 inst.1.0 (Contains-append_cases (wanted_by inst.0) (flat_map f (uses_by inst.0)) n inst.1.1)
    where
      by : (inst : Inst) → Contains block inst → Contains (wanted_by inst) n ⊎ Contains (flat_map f (uses_by inst)) n → Contains (layouts_wanted block ++ flat_map f (uses_in block)) n
      by inst there (inl wanted) = Contains-append_left (layouts_wanted block) (flat_map f (uses_in block)) n (into_flat wanted_by block inst n there wanted)
      by inst there (inr used) =
          let it = from_flat f (uses_by inst) n used in
          Contains-append_right (layouts_wanted block) (flat_map f (uses_in block)) n (into_flat f (uses_in block) it.0 n (into_flat uses_by block inst it.0 there it.1.0) it.1.1)

  block_into : (block : List Inst) (n : ℕ) → Contains (layouts_wanted block ++ flat_map f (uses_in block)) n → Contains (flat_map (named f) block) n
  block_into block n has = by (Contains-append_cases (layouts_wanted block) (flat_map f (uses_in block)) n has)
    where
      by : Contains (layouts_wanted block) n ⊎ Contains (flat_map f (uses_in block)) n → Contains (flat_map (named f) block) n
      by (inl wanted) =
          let inst = from_flat wanted_by block n wanted in
          into_flat (named f) block inst.0 n inst.1.0 (Contains-append_left (wanted_by inst.0) (flat_map f (uses_by inst.0)) n inst.1.1)
      by (inr used) =
          let it = from_flat f (uses_in block) n used in
          let inst = from_flat uses_by block it.0 it.1.0 in
          into_flat (named f) block inst.0 n inst.1.0 (Contains-append_right (wanted_by inst.0) (flat_map f (uses_by inst.0)) n (into_flat f (uses_by inst.0) it.0 n inst.1.1 it.1.1))

  for_is : (inst : Inst) (var : ℕ) (lo hi : ℤ) (body : List Inst) → inst ≡ v.For var lo hi body → named f inst ≡ layouts_wanted body ++ flat_map f (uses_in body)
  for_is inst var lo hi body is =
      ap (named f) is ∙ named_is _ (layouts_wanted body) (uses_in body) (fold-For wanted_step var lo hi body ∙ flat_of_map wanted_by body) (fold-For uses_step var lo hi body ∙ flat_of_map uses_by body)

  pub for_from : (inst : Inst) (var : ℕ) (lo hi : ℤ) (body : List Inst) (n : ℕ) → inst ≡ v.For var lo hi body → Contains (named f inst) n → Contains (flat_map (named f) body) n
  for_from inst var lo hi body n is has = block_into body n (subst (λ (list : List ℕ). Contains list n) (for_is inst var lo hi body is) has)

  pub for_into : (inst : Inst) (var : ℕ) (lo hi : ℤ) (body : List Inst) (n : ℕ) → inst ≡ v.For var lo hi body → Contains (flat_map (named f) body) n → Contains (named f inst) n
  for_into inst var lo hi body n is has = subst (λ (list : List ℕ). Contains list n) (sym (for_is inst var lo hi body is)) (block_from body n has)

  -- those of two blocks, the wanted ones first
  abbrev of_both : List Inst → List Inst → List ℕ
  of_both block otherwise = (layouts_wanted block ++ layouts_wanted otherwise) ++ flat_map f (uses_in block ++ uses_in otherwise)

  if_is : (inst : Inst) (cond : ℕ) (block otherwise : List Inst) → inst ≡ v.If cond block otherwise
      → named f inst ≡ (layouts_wanted block ++ layouts_wanted otherwise) ++ flat_map f (uses_in block ++ uses_in otherwise)
  if_is inst cond block otherwise is =
      ap (named f) is
      ∙ named_is _ (layouts_wanted block ++ layouts_wanted otherwise) (uses_in block ++ uses_in otherwise)
      (fold-If wanted_step cond block otherwise ∙ ap (λ (ws : List ℕ). ws ++ flat_map (λ (vs : List ℕ). vs) (map wanted_by otherwise)) (flat_of_map wanted_by block)
      ∙ ap (λ (ws : List ℕ). layouts_wanted block ++ ws) (flat_of_map wanted_by otherwise))
      (fold-If uses_step cond block otherwise ∙ ap (λ (us : List Use). us ++ flat_map (λ (vs : List Use). vs) (map uses_by otherwise)) (flat_of_map uses_by block)
      ∙ ap (λ (us : List Use). uses_in block ++ us) (flat_of_map uses_by otherwise))

  pub if_from : (inst : Inst) (cond : ℕ) (block otherwise : List Inst) (n : ℕ) → inst ≡ v.If cond block otherwise → Contains (named f inst) n
      → Contains (flat_map (named f) block ++ flat_map (named f) otherwise) n
  if_from inst cond block otherwise n is has =
      by (Contains-append_cases (layouts_wanted block ++ layouts_wanted otherwise) (flat_map f (uses_in block ++ uses_in otherwise)) n (subst (λ (list : List ℕ). Contains list n) (if_is inst cond block otherwise is) has))
    where
      left : Contains (layouts_wanted block ++ flat_map f (uses_in block)) n → Contains (flat_map (named f) block ++ flat_map (named f) otherwise) n
      left there = Contains-append_left (flat_map (named f) block) (flat_map (named f) otherwise) n (block_into block n there)

      right : Contains (layouts_wanted otherwise ++ flat_map f (uses_in otherwise)) n → Contains (flat_map (named f) block ++ flat_map (named f) otherwise) n
      right there = Contains-append_right (flat_map (named f) block) (flat_map (named f) otherwise) n (block_into otherwise n there)

      by_want : Contains (layouts_wanted block) n ⊎ Contains (layouts_wanted otherwise) n → Contains (flat_map (named f) block ++ flat_map (named f) otherwise) n
      by_want (inl here) = left (Contains-append_left (layouts_wanted block) (flat_map f (uses_in block)) n here)
      by_want (inr there) = right (Contains-append_left (layouts_wanted otherwise) (flat_map f (uses_in otherwise)) n there)

      by_use : (it : Use) → Contains (f it) n → Contains (uses_in block) it ⊎ Contains (uses_in otherwise) it → Contains (flat_map (named f) block ++ flat_map (named f) otherwise) n
      by_use it told (inl here) = left (Contains-append_right (layouts_wanted block) (flat_map f (uses_in block)) n (into_flat f (uses_in block) it n here told))
      by_use it told (inr there) = right (Contains-append_right (layouts_wanted otherwise) (flat_map f (uses_in otherwise)) n (into_flat f (uses_in otherwise) it n there told))

      by : Contains (layouts_wanted block ++ layouts_wanted otherwise) n ⊎ Contains (flat_map f (uses_in block ++ uses_in otherwise)) n → Contains (flat_map (named f) block ++ flat_map (named f) otherwise) n
      by (inl wanted) = by_want (Contains-append_cases (layouts_wanted block) (layouts_wanted otherwise) n wanted)
      by (inr used) =
          let it = from_flat f (uses_in block ++ uses_in otherwise) n used in
          by_use it.0 it.1.1 (Contains-append_cases (uses_in block) (uses_in otherwise) it.0 it.1.0)

  pub if_into : (inst : Inst) (cond : ℕ) (block otherwise : List Inst) (n : ℕ) → inst ≡ v.If cond block otherwise
      → Contains (flat_map (named f) block ++ flat_map (named f) otherwise) n → Contains (named f inst) n
  if_into inst cond block otherwise n is has =
      subst (λ (list : List ℕ). Contains list n) (sym (if_is inst cond block otherwise is)) (by (Contains-append_cases (flat_map (named f) block) (flat_map (named f) otherwise) n has))
    where
      wanted_there : Contains (layouts_wanted block ++ layouts_wanted otherwise) n → Contains (of_both block otherwise) n
      wanted_there there = Contains-append_left (layouts_wanted block ++ layouts_wanted otherwise) (flat_map f (uses_in block ++ uses_in otherwise)) n there

      used_there : (it : Use) → Contains (uses_in block ++ uses_in otherwise) it → Contains (f it) n → Contains (of_both block otherwise) n
      used_there it there told = Contains-append_right (layouts_wanted block ++ layouts_wanted otherwise) (flat_map f (uses_in block ++ uses_in otherwise)) n (into_flat f (uses_in block ++ uses_in otherwise) it n there told)

      first : Contains (layouts_wanted block) n ⊎ Contains (flat_map f (uses_in block)) n → Contains (of_both block otherwise) n
      first (inl wanted) = wanted_there (Contains-append_left (layouts_wanted block) (layouts_wanted otherwise) n wanted)
      first (inr used) = let it = from_flat f (uses_in block) n used in used_there it.0 (Contains-append_left (uses_in block) (uses_in otherwise) it.0 it.1.0) it.1.1

      second : Contains (layouts_wanted otherwise) n ⊎ Contains (flat_map f (uses_in otherwise)) n → Contains (of_both block otherwise) n
      second (inl wanted) = wanted_there (Contains-append_right (layouts_wanted block) (layouts_wanted otherwise) n wanted)
      second (inr used) = let it = from_flat f (uses_in otherwise) n used in used_there it.0 (Contains-append_right (uses_in block) (uses_in otherwise) it.0 it.1.0) it.1.1

      by : Contains (flat_map (named f) block) n ⊎ Contains (flat_map (named f) otherwise) n → Contains (of_both block otherwise) n
      by (inl here) = first (Contains-append_cases (layouts_wanted block) (flat_map f (uses_in block)) n (block_from block n here))
      by (inr there) = second (Contains-append_cases (layouts_wanted otherwise) (flat_map f (uses_in otherwise)) n (block_from otherwise n there))

-- ---- the other instructions

abbrev pub NoWant : Inst → Type 0
NoWant inst = (layout : ℕ) (index : List ℕ) (stmt : ℕ) → inst ≡ v.Want layout index stmt → ⊥

abbrev pub NoWrite : Inst → Type 0
NoWrite inst = (layout field from stmt : ℕ) → inst ≡ v.OwnWrite layout field from stmt → ⊥

abbrev pub NoAcc : Inst → Type 0
NoAcc inst = (op : AccOp) (layout field place from : ℕ) (index : List ℕ) (stmt : ℕ) → inst ≡ v.Acc op layout field place from index stmt → ⊥

abbrev pub NoRead : Inst → Type 0
NoRead inst = (to place layout field : ℕ) (index : List ℕ) → inst ≡ v.ReadCell to place layout field index → ⊥

abbrev pub NoOwn : Inst → Type 0
NoOwn inst = (to layout field : ℕ) → inst ≡ v.OwnRead to layout field → ⊥

abbrev pub NoIf : Inst → Type 0
NoIf inst = (cond : ℕ) (block otherwise : List Inst) → inst ≡ v.If cond block otherwise → ⊥

abbrev pub NoFor : Inst → Type 0
NoFor inst = (var : ℕ) (lo hi : ℤ) (body : List Inst) → inst ≡ v.For var lo hi body → ⊥

-- an instruction that neither wants, writes nor has blocks names no layout, if it doesn't by a read
abbrev Else : (Use → List ℕ) → Inst → Type 0
Else f inst = ((layout field : ℕ) → (f (Reads layout field) ≡ []) ⊎ NoRead inst) → ((layout field : ℕ) → (f (ReadsOwn layout field) ≡ []) ⊎ NoOwn inst) → NoWant inst → NoWrite inst → NoAcc inst → NoIf inst → NoFor inst → named f inst ≡ []

pub named_else : (f : Use → List ℕ) (inst : Inst) → Else f inst
named_else f =
    by_inst (Else f)
    (λ to word nr nown nw ns na ni nf. named_is f _ [] [] (fold-Const wanted_step to word) (fold-Const uses_step to word))
    (λ to var nr nown nw ns na ni nf. named_is f _ [] [] (fold-Var wanted_step to var) (fold-Var uses_step to var))
    (λ var from nr nown nw ns na ni nf. named_is f _ [] [] (fold-Set wanted_step var from) (fold-Set uses_step var from))
    (λ to op given a b nr nown nw ns na ni nf. named_is f _ [] [] (fold-Bin wanted_step to op given a b) (fold-Bin uses_step to op given a b))
    (λ to op given a nr nown nw ns na ni nf. named_is f _ [] [] (fold-Un wanted_step to op given a) (fold-Un uses_step to op given a))
    (λ to a b s nr nown nw ns na ni nf. named_is f _ [] [] (fold-Mulq wanted_step to a b s) (fold-Mulq uses_step to a b s))
    (λ to layout nr nown nw ns na ni nf. named_is f _ [] [] (fold-Root wanted_step to layout) (fold-Root uses_step to layout))
    (λ to place axis extent index nr nown nw ns na ni nf. named_is f _ [] [] (fold-Check wanted_step to place axis extent index) (fold-Check uses_step to place axis extent index))
    (λ to div size from nr nown nw ns na ni nf. named_is f _ [] [] (fold-Extract wanted_step to div size from) (fold-Extract uses_step to div size from))
    (λ to high size low nr nown nw ns na ni nf. named_is f _ [] [] (fold-Offset wanted_step to high size low) (fold-Offset uses_step to high size low))
    (λ to place node offset nr nown nw ns na ni nf. named_is f _ [] [] (fold-Child wanted_step to place node offset) (fold-Child uses_step to place node offset))
    (λ to place node offset nr nown nw ns na ni nf. named_is f _ [] [] (fold-HashChild wanted_step to place node offset) (fold-HashChild uses_step to place node offset))
    (λ to place node offset nr nown nw ns na ni nf. named_is f _ [] [] (fold-MaskBit wanted_step to place node offset) (fold-MaskBit uses_step to place node offset))
    (λ to place node offset nr nown nw ns na ni nf. named_is f _ [] [] (fold-DynCell wanted_step to place node offset) (fold-DynCell uses_step to place node offset))
    (λ to place layout field index nr nown nw ns na ni nf. elim (nr layout field) [
      | inl none ↦ named_read f _ to place layout field index refl ∙ none
      | inr never ↦ absurd (never to place layout field index refl)
    ])
    (λ to place index nr nown nw ns na ni nf. named_is f _ [] [] (fold-IsActive wanted_step to place index) (fold-IsActive uses_step to place index))
    (λ to layout field nr nown nw ns na ni nf. elim (nown layout field) [
      | inl none ↦ named_own f _ to layout field refl ∙ none
      | inr never ↦ absurd (never to layout field refl)
    ])
    (λ layout field from stmt nr nown nw ns na ni nf. absurd (ns layout field from stmt refl))
    (λ op layout field place from index stmt nr nown nw ns na ni nf. absurd (na op layout field place from index stmt refl))
    (λ layout index stmt nr nown nw ns na ni nf. absurd (nw layout index stmt refl))
    (λ cond block otherwise nr nown nw ns na ni nf. absurd (ni cond block otherwise refl))
    (λ var lo hi body nr nown nw ns na ni nf. absurd (nf var lo hi body refl))

-- ---- the next layout that an instruction with blocks writes

pub next_if : (inst : Inst) (cond : ℕ) (block otherwise : List Inst) → inst ≡ v.If cond block otherwise → (first second : List Inst) (from : ℕ) (next : Option ℕ) → first ≡ block → second ≡ otherwise
    → IsNext (flat_map written_by first ++ flat_map written_by second) from next → IsNext (written_by inst) from next
next_if inst cond block otherwise is first second from next is_first is_second found =
    next_same (flat_map written_by block ++ flat_map written_by otherwise) (written_by inst) from next
    (λ n has. if_into layout_written inst cond block otherwise n is has)
    (λ n has. if_from layout_written inst cond block otherwise n is has)
    (subst (λ (list : List Inst). IsNext (flat_map written_by block ++ flat_map written_by list) from next) is_second
    (subst (λ (list : List Inst). IsNext (flat_map written_by list ++ flat_map written_by second) from next) is_first found))

pub next_for : (inst : Inst) (var : ℕ) (lo hi : ℤ) (body : List Inst) → inst ≡ v.For var lo hi body → (block : List Inst) (from : ℕ) (next : Option ℕ) → block ≡ body
    → IsNext (flat_map written_by block) from next → IsNext (written_by inst) from next
next_for inst var lo hi body is block from next is_block found =
    next_same (flat_map written_by body) (written_by inst) from next (λ n has. for_into layout_written inst var lo hi body n is has) (λ n has. for_from layout_written inst var lo hi body n is has)
    (subst (λ (list : List Inst). IsNext (flat_map written_by list) from next) is_block found)
