-- A block's chain sets registers, places and variables as often as its instructions do.
use Rattle.std.specs.Prelude.{◌≡◌, refl, ℕ, ◌+◌, ◌≤◌, ◌==◌, Bool, true, false, not, ◌||◌, cond, count_by, List, [], ◌∷◌, ◌++◌, map, get_or, ℤ}
use Rattle.std.specs.List.{list_any, flat_map}
use Rattle.std.proofs.Common.{arith, sym, ap, subst, ◌∙◌, append_assoc}
use Rattle.std.proofs.lemmas.Bool.{and_parts, eqb-true}
use Rattle.std.proofs.lemmas.List.Sums.{sum_by-append, sum_by-cons}
use Rattle.sg_words.specs.declared.operators.Ty.{Ty}
use Rattle.sg_ir.specs.declared.code.Inst.{Inst, fold-Inst}
use Rattle.sg_ir.specs.declared.code.Inst.TheVariants as v
use Rattle.sg_words.specs.declared.operators.Ty.TheVariants as ty
use Rattle.sg_ir.specs.declared.op.Op.{Op}
use Rattle.sg_ir.specs.declared.op.Op.TheVariants as op
use Rattle.sg_ir.specs.declared.op.Step.{Step}
use Rattle.sg_ir.specs.declared.op.Step.TheVariants as step
use Rattle.sg_ir.specs.declared.op.Descent.TheVariants as by
use Rattle.sg_ir.specs.Blocks.{Sight, Value, Activity, Block, End, Word, Spot, Cell, Do, Branch, Loop, SetVar, WriteOwn, Contribute, Wish, Link, chained, link_step, link, block_of}
use Rattle.sg_ir.specs.Span.{sets}
use Rattle.sg_ir.specs.WellTyped.{is_truth, SetName, SetsReg, SetsPlace, SetsVar, sets_step, settings, in_order, reg_number, place_number, var_number, set_regs, set_places, set_vars, setters_in, has_no_twice}
use Rattle.sg_ir.proofs.Uses.{fold-Const, fold-Var, fold-Set, fold-Bin, fold-Un, fold-Mulq, fold-Root, fold-Check, fold-Extract, fold-Offset, fold-Child, fold-HashChild, fold-MaskBit, fold-DynCell, fold-ReadCell, fold-IsActive, fold-OwnRead, fold-OwnWrite, fold-Acc, fold-Want, fold-If, fold-For}
use Rattle.sg_simplify.specs.steps.Serves.{EachByRecursion}
use Rattle.sg_simplify.specs.steps.Counted.{one_where, regs_set, places_set}
use Rattle.sg_simplify.proofs.Inducting.{inductively}
use Rattle.sg_simplify.proofs.Reading.{map-append, chained-append}

abbrev inst_settings : Inst → List SetName
inst_settings = fold-Inst (List SetName) sets_step

in_order_map : {X : Type 0} (f : X → List SetName) (xs : List X) → in_order (map f xs) ≡ flat_map f xs
in_order_map f [] = refl
in_order_map f (x ∷ xs) = ap (λ more. f x ++ more) (in_order_map f xs)

settings_if : (cond : ℕ) (block otherwise : List Inst) → inst_settings (v.If cond block otherwise) ≡ settings block ++ settings otherwise
settings_if cond block otherwise =
    fold-If sets_step cond block otherwise
    ∙ ap (λ set. set ++ in_order (map inst_settings otherwise)) (in_order_map inst_settings block)
    ∙ ap (λ set. settings block ++ set) (in_order_map inst_settings otherwise)

settings_for : (var : ℕ) (lo hi : ℤ) (body : List Inst) → inst_settings (v.For var lo hi body) ≡ SetsVar var ∷ settings body
settings_for var lo hi body = fold-For sets_step var lo hi body ∙ ap (λ set. SetsVar var ∷ set) (in_order_map inst_settings body)

count_cons : {X : Type 0} (p : X → Bool) (x : X) (xs : List X) → count_by p (x ∷ xs) ≡ cond (p x) 1 0 + count_by p xs
count_cons p x xs = sum_by-cons (λ y. cond (p y) 1 0) x xs

-- how often a number stands in a list
abbrev count_of : ℕ → List ℕ → ℕ
count_of n xs = count_by (λ x. x == n) xs

count_append : (n : ℕ) (xs ys : List ℕ) → count_of n (xs ++ ys) ≡ count_of n xs + count_of n ys
count_append n xs ys = sum_by-append (λ (x : ℕ). cond (x == n) 1 0) xs ys

flat_append : (f : SetName → List ℕ) (xs ys : List SetName) → flat_map f (xs ++ ys) ≡ flat_map f xs ++ flat_map f ys
flat_append f [] ys = refl
flat_append f (x ∷ xs) ys = ap (λ more. f x ++ more) (flat_append f xs ys) ∙ sym (append_assoc (f x) (flat_map f xs) (flat_map f ys))

count_both : (f : SetName → List ℕ) (n : ℕ) (xs ys : List SetName) → count_of n (flat_map f (xs ++ ys)) ≡ count_of n (flat_map f xs) + count_of n (flat_map f ys)
count_both f n xs ys = ap (count_of n) (flat_append f xs ys) ∙ count_append n (flat_map f xs) (flat_map f ys)

count_one : (n to : ℕ) → count_of n (to ∷ []) ≡ one_where (to == n)
count_one n to = count_cons (λ x. x == n) to [] ∙ by_test (to == n)
  where
    by_test : (test : Bool) → cond test 1 0 + count_of n [] ≡ one_where test
    by_test true = refl
    by_test false = refl

-- a link that sets what settings say
record Tallies (l : Link) (set : List SetName) : Type 0 where
  regs : (rest : Block) (r : ℕ) → regs_set r (l rest) ≡ count_of r (flat_map reg_number set) + regs_set r rest
  places : (rest : Block) (p : ℕ) → places_set p (l rest) ≡ count_of p (flat_map place_number set) + places_set p rest
  vars : (rest : Block) (x : ℕ) → sets x (l rest) ≡ count_of x (flat_map var_number set) + sets x rest

nothing_more : (n : ℕ) → n ≡ 0 + n
nothing_more n = omega arith

word_tallies : (to : ℕ) (how : Op) → Tallies (Word to how) (SetsReg to ∷ [])
word_tallies to how = record {
  regs = λ rest r. ap (λ n. n + regs_set r rest) (sym (count_one r to));
  places = λ rest p. nothing_more (places_set p rest);
  vars = λ rest x. nothing_more (sets x rest);
}

cell_tallies : (to place : ℕ) (sight : Sight) (index : List ℕ) → Tallies (Cell to place sight index) (SetsReg to ∷ [])
cell_tallies to place sight index = record {
  regs = λ rest r. ap (λ n. n + regs_set r rest) (sym (count_one r to));
  places = λ rest p. nothing_more (places_set p rest);
  vars = λ rest x. nothing_more (sets x rest);
}

spot_tallies : (to : ℕ) (how : Step) → Tallies (Spot to how) (SetsPlace to ∷ [])
spot_tallies to how = record {
  regs = λ rest r. nothing_more (regs_set r rest);
  places = λ rest p. ap (λ n. n + places_set p rest) (sym (count_one p to));
  vars = λ rest x. nothing_more (sets x rest);
}

set_tallies : (var from : ℕ) → Tallies (Do (SetVar var from)) (SetsVar var ∷ [])
set_tallies var from = record {
  regs = λ rest r. nothing_more (regs_set r rest);
  places = λ rest p. nothing_more (places_set p rest);
  vars = λ rest x. ap (λ n. n + sets x rest) (sym (count_one x var));
}

ownwrite_tallies : (layout field from stmt : ℕ) → Tallies (Do (WriteOwn layout field from stmt)) []
ownwrite_tallies layout field from stmt = record {
  regs = λ rest r. nothing_more (regs_set r rest);
  places = λ rest p. nothing_more (places_set p rest);
  vars = λ rest x. refl;
}

acc_tallies : (how : _) (layout field place from : ℕ) (index : List ℕ) (stmt : ℕ) → Tallies (Do (Contribute how layout field place from index stmt)) []
acc_tallies how layout field place from index stmt = record {
  regs = λ rest r. nothing_more (regs_set r rest);
  places = λ rest p. nothing_more (places_set p rest);
  vars = λ rest x. refl;
}

want_tallies : (layout : ℕ) (index : List ℕ) (stmt : ℕ) → Tallies (Do (Wish layout index stmt)) []
want_tallies layout index stmt = record {
  regs = λ rest r. nothing_more (regs_set r rest);
  places = λ rest p. nothing_more (places_set p rest);
  vars = λ rest x. refl;
}

module _ (types : List Ty) where
  abbrev TalliesOf : Inst → Type 0
  TalliesOf inst = Tallies (link types inst) (inst_settings inst)

  carry : (l k : Link) (set other : List SetName) → l ≡ k → set ≡ other → Tallies k other → Tallies l set
  carry l k set other e f h = subst (λ (m : Link). Tallies m set) (sym e) (subst (λ (s : List SetName). Tallies k s) (sym f) h)

  list_tallies : (insts : List Inst) → EachByRecursion TalliesOf insts → Tallies (chained (map (link types) insts)) (settings insts)
  list_tallies [] each = record { regs = λ rest r. nothing_more (regs_set r rest); places = λ rest p. nothing_more (places_set p rest); vars = λ rest x. nothing_more (sets x rest) }
  list_tallies (inst ∷ insts) each =
      let more = list_tallies insts each.1 in
      record {
        regs = λ rest r. join (count_of r (flat_map reg_number (inst_settings inst))) (count_of r (flat_map reg_number (settings insts))) (regs_set r rest) (each.0.regs (chained (map (link types) insts) rest) r) (more.regs rest r) (count_both reg_number r (inst_settings inst) (settings insts));
        places = λ rest p. join (count_of p (flat_map place_number (inst_settings inst))) (count_of p (flat_map place_number (settings insts))) (places_set p rest) (each.0.places (chained (map (link types) insts) rest) p) (more.places rest p) (count_both place_number p (inst_settings inst) (settings insts));
        vars = λ rest x. join (count_of x (flat_map var_number (inst_settings inst))) (count_of x (flat_map var_number (settings insts))) (sets x rest) (each.0.vars (chained (map (link types) insts) rest) x) (more.vars rest x) (count_both var_number x (inst_settings inst) (settings insts));
      }
    where
      join : (a b c : ℕ) {whole middle both : ℕ} → whole ≡ a + middle → middle ≡ b + c → both ≡ a + b → whole ≡ both + c
      join a b c first second sum = omega (arith, first, second, sum)

  branch_tallies : (cond : ℕ) (block otherwise : List Inst) → EachByRecursion TalliesOf block → EachByRecursion TalliesOf otherwise → Tallies (Branch cond (chained (map (link types) block) End) (chained (map (link types) otherwise) End)) (settings block ++ settings otherwise)
  branch_tallies cond block otherwise yes_each no_each =
      let first = list_tallies block yes_each in
      let second = list_tallies otherwise no_each in
      record {
        regs = λ rest r. join (count_of r (set_regs block)) (count_of r (set_regs otherwise)) (regs_set r rest) (first.regs End r) (second.regs End r) (count_both reg_number r (settings block) (settings otherwise));
        places = λ rest p. join (count_of p (set_places block)) (count_of p (set_places otherwise)) (places_set p rest) (first.places End p) (second.places End p) (count_both place_number p (settings block) (settings otherwise));
        vars = λ rest x. join (count_of x (set_vars block)) (count_of x (set_vars otherwise)) (sets x rest) (first.vars End x) (second.vars End x) (count_both var_number x (settings block) (settings otherwise));
      }
    where
      join : (a b c : ℕ) {left right both : ℕ} → left ≡ a + 0 → right ≡ b + 0 → both ≡ a + b → left + (right + c) ≡ both + c
      join a b c first second sum = omega (arith, first, second, sum)

  loop_tallies : (var : ℕ) (lo hi : ℤ) (body : List Inst) → EachByRecursion TalliesOf body → Tallies (Loop var lo hi (chained (map (link types) body) End)) (SetsVar var ∷ settings body)
  loop_tallies var lo hi body each =
      let first = list_tallies body each in
      record {
        regs = λ rest r. join (count_of r (set_regs body)) (regs_set r rest) (first.regs End r);
        places = λ rest p. join (count_of p (set_places body)) (places_set p rest) (first.places End p);
        vars = λ rest x. join_var (one_where (var == x)) (count_of x (set_vars body)) (sets x rest) (first.vars End x)
            (count_append x (var ∷ []) (set_vars body) ∙ ap (λ n. n + count_of x (set_vars body)) (count_one x var));
      }
    where
      join : (a c : ℕ) {left : ℕ} → left ≡ a + 0 → left + c ≡ a + c
      join a c first = omega (arith, first)

      join_var : (f a c : ℕ) {left both : ℕ} → left ≡ a + 0 → both ≡ f + a → f + (left + c) ≡ both + c
      join_var f a c first sum = omega (arith, first, sum)

  every_tallies : (inst : Inst) → TalliesOf inst
  every_tallies = inductively TalliesOf
      (λ to word. carry _ _ _ _ (fold-Const (link_step types) to word) (fold-Const sets_step to word) (word_tallies to (op.Const word (is_truth (get_or types to ty.U32)))))
      (λ to var. carry _ _ _ _ (fold-Var (link_step types) to var) (fold-Var sets_step to var) (word_tallies to (op.Var var)))
      (λ var from. carry _ _ _ _ (fold-Set (link_step types) var from) (fold-Set sets_step var from) (set_tallies var from))
      (λ to how kind a b. carry _ _ _ _ (fold-Bin (link_step types) to how kind a b) (fold-Bin sets_step to how kind a b) (word_tallies to (op.Bin how kind a b)))
      (λ to how kind a. carry _ _ _ _ (fold-Un (link_step types) to how kind a) (fold-Un sets_step to how kind a) (word_tallies to (op.Un how kind a)))
      (λ to a b s. carry _ _ _ _ (fold-Mulq (link_step types) to a b s) (fold-Mulq sets_step to a b s) (word_tallies to (op.Mulq a b s)))
      (λ to layout. carry _ _ _ _ (fold-Root (link_step types) to layout) (fold-Root sets_step to layout) (spot_tallies to (step.Root layout)))
      (λ to place axis extent index. carry _ _ _ _ (fold-Check (link_step types) to place axis extent index) (fold-Check sets_step to place axis extent index) (spot_tallies to (step.Check place axis extent index)))
      (λ to div size from. carry _ _ _ _ (fold-Extract (link_step types) to div size from) (fold-Extract sets_step to div size from) (word_tallies to (op.Extract div size from)))
      (λ to high size low. carry _ _ _ _ (fold-Offset (link_step types) to high size low) (fold-Offset sets_step to high size low) (word_tallies to (op.Offset high size low)))
      (λ to place node offset. carry _ _ _ _ (fold-Child (link_step types) to place node offset) (fold-Child sets_step to place node offset) (spot_tallies to (step.Down by.Child place node offset)))
      (λ to place node offset. carry _ _ _ _ (fold-HashChild (link_step types) to place node offset) (fold-HashChild sets_step to place node offset) (spot_tallies to (step.Down by.HashChild place node offset)))
      (λ to place node offset. carry _ _ _ _ (fold-MaskBit (link_step types) to place node offset) (fold-MaskBit sets_step to place node offset) (spot_tallies to (step.Down by.MaskBit place node offset)))
      (λ to place node offset. carry _ _ _ _ (fold-DynCell (link_step types) to place node offset) (fold-DynCell sets_step to place node offset) (spot_tallies to (step.Down by.DynCell place node offset)))
      (λ to place layout field index. carry _ _ _ _ (fold-ReadCell (link_step types) to place layout field index) (fold-ReadCell sets_step to place layout field index) (cell_tallies to place (Value layout field) index))
      (λ to place index. carry _ _ _ _ (fold-IsActive (link_step types) to place index) (fold-IsActive sets_step to place index) (cell_tallies to place Activity index))
      (λ to layout field. carry _ _ _ _ (fold-OwnRead (link_step types) to layout field) (fold-OwnRead sets_step to layout field) (word_tallies to (op.OwnRead layout field)))
      (λ layout field from stmt. carry _ _ _ _ (fold-OwnWrite (link_step types) layout field from stmt) (fold-OwnWrite sets_step layout field from stmt) (ownwrite_tallies layout field from stmt))
      (λ how layout field place from index stmt. carry _ _ _ _ (fold-Acc (link_step types) how layout field place from index stmt) (fold-Acc sets_step how layout field place from index stmt) (acc_tallies how layout field place from index stmt))
      (λ layout index stmt. carry _ _ _ _ (fold-Want (link_step types) layout index stmt) (fold-Want sets_step layout index stmt) (want_tallies layout index stmt))
      (λ cond block otherwise first second. carry _ _ _ _ (fold-If (link_step types) cond block otherwise) (settings_if cond block otherwise) (branch_tallies cond block otherwise first second))
      (λ var lo hi body each. carry _ _ _ _ (fold-For (link_step types) var lo hi body) (settings_for var lo hi body) (loop_tallies var lo hi body each))

  of_every : (insts : List Inst) → EachByRecursion TalliesOf insts
  of_every [] = tt
  of_every (inst ∷ insts) = (every_tallies inst, of_every insts)

  no_rest : (n k : ℕ) → n ≡ k + 0 → n ≡ k
  no_rest n k h = omega (arith, h)

  -- a whole code
  pub code_regs : (insts : List Inst) (r : ℕ) → regs_set r (block_of types insts) ≡ count_of r (set_regs insts)
  code_regs insts r = no_rest _ _ ((list_tallies insts (of_every insts)).regs End r)

  pub code_places : (insts : List Inst) (p : ℕ) → places_set p (block_of types insts) ≡ count_of p (set_places insts)
  code_places insts p = no_rest _ _ ((list_tallies insts (of_every insts)).places End p)

  pub code_vars : (insts : List Inst) (x : ℕ) → sets x (block_of types insts) ≡ setters_in insts x
  code_vars insts x = no_rest _ _ ((list_tallies insts (of_every insts)).vars End x)

  -- one instruction more
  pub block_more : (insts : List Inst) (inst : Inst) (x : ℕ) → sets x (block_of types (insts ++ inst ∷ [])) ≡ sets x (block_of types insts) + sets x (link types inst End)
  block_more insts inst x =
      ap (λ (links : List Link). sets x (chained links End)) (map-append (link types) insts (inst ∷ []))
      ∙ ap (sets x) (chained-append (map (link types) insts) (link types inst ∷ []) End)
      ∙ (list_tallies insts (of_every insts)).vars (link types inst End) x
      ∙ ap (λ n. n + sets x (link types inst End)) (sym (code_vars insts x))

-- a list in which no number stands twice has each at most once
absent : (n : ℕ) (xs : List ℕ) → list_any (λ y. y == n) xs ≡ false → count_of n xs ≡ 0
absent n [] h = refl
absent n (x ∷ xs) h = count_cons (λ y. y == n) x xs ∙ by_test (x == n) h (absent n xs)
  where
    by_test : (test : Bool) → (test || list_any (λ y. y == n) xs) ≡ false → (list_any (λ y. y == n) xs ≡ false → count_of n xs ≡ 0) → cond test 1 0 + count_of n xs ≡ 0
    by_test true e more = absurd (cc)
    by_test false e more = let none = more e in omega arith

not_false : (b : Bool) → not b ≡ true → b ≡ false
not_false true h = absurd (cc)
not_false false h = refl

pub once_at_most : (xs : List ℕ) → has_no_twice xs ≡ true → (n : ℕ) → count_of n xs ≤ 1
once_at_most [] h n = omega arith
once_at_most (x ∷ xs) h n =
    let parts = and_parts (not (list_any (λ y. y == x) xs)) (has_no_twice xs) h in
    by_test (x == n) refl (count_cons (λ y. y == n) x xs) (once_at_most xs parts.1 n) (not_false _ parts.0)
  where
    by_test : (test : Bool) → (x == n) ≡ test → count_of n (x ∷ xs) ≡ cond test 1 0 + count_of n xs → count_of n xs ≤ 1 → list_any (λ y. y == x) xs ≡ false → count_of n (x ∷ xs) ≤ 1
    by_test true is e few none =
        let gone : count_of n xs ≡ 0 = absent n xs (subst (λ k. list_any (λ y. y == k) xs ≡ false) (eqb-true x n is) none) in
        let both : count_of n (x ∷ xs) ≡ 1 + count_of n xs = e in
        omega arith
    by_test false is e few none = let both : count_of n (x ∷ xs) ≡ 0 + count_of n xs = e in omega arith
