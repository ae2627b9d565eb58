-- A block's chain is judged as its instructions are.
use Rattle.std.specs.Prelude.{◌≡◌, refl, ℕ, zero, suc, Bool, true, false, ◌&&◌, ◌==◌, nat_lt, List, [], ◌∷◌, length, map, get_or, slice_get, Option, Some, None, option_map}
use Rattle.std.specs.List.{fold}
use Rattle.std.proofs.Common.{arith, sym, ap, subst, ◌∙◌}
use Rattle.std.proofs.lemmas.Bool.Decides.{nat_tests}
use Rattle.sg_words.specs.declared.operators.Ty.{Ty}
use Rattle.sg_words.specs.declared.operators.Ty.TheVariants as ty
use Rattle.sg_ir.specs.declared.code.Inst.{Inst}
use Rattle.sg_ir.specs.Blocks.{Block, End, Link, chained, link_step, link, block_of}
use Rattle.sg_ir.specs.WellTyped.{KnownPlace, Scope, Frame, is_truth, is_truth_as, joins, reads, is_i32, takes_truth, gives_truth, with_var, holds_of, is_cell, field_type_at, goes_on, Judge, judge_step, judge_all, inst_fits, judges, judged, indexes}
use Rattle.sg_ir.proofs.Uses.{fold-Const, fold-Var, fold-Set, fold-Bin, fold-Un, fold-Mulq, fold-Root, fold-Check, fold-Extract, fold-Offset, fold-Child, fold-HashChild, fold-MaskBit, fold-DynCell, fold-ReadCell, fold-IsActive, fold-OwnRead, fold-OwnWrite, fold-Acc, fold-Want, fold-If, fold-For}
use Rattle.sg_simplify.specs.steps.Serves.{EachByRecursion}
use Rattle.sg_simplify.specs.steps.Judged.{gives_type, and_known, index_fits, fits_scope}
use Rattle.sg_simplify.proofs.Inducting.{inductively}

and_assoc : (a b c : Bool) → ((a && b) && c) ≡ (a && (b && c))
and_assoc true b c = refl
and_assoc false b c = refl

and_three : (a b c d : Bool) → ((a && (b && c)) && d) ≡ (a && (b && (c && d)))
and_three true true c d = refl
and_three true false c d = refl
and_three false b c d = refl

pub and_end : (a : Bool) → (a && true) ≡ a
and_end true = refl
and_end false = refl

none_below : (n : ℕ) → false ≡ nat_lt n 0
none_below n = grind (arith, nat_tests)

first_below : (n : ℕ) → true ≡ nat_lt 0 (suc n)
first_below n = grind (arith, nat_tests)

next_below : (n k : ℕ) → nat_lt n k ≡ nat_lt (suc n) (suc k)
next_below n k = by_test (nat_lt n k) refl
  where
    by_test : (test : Bool) → nat_lt n k ≡ test → test ≡ nat_lt (suc n) (suc k)
    by_test true e = grind (arith, nat_tests)
    by_test false e = grind (arith, nat_tests)

-- a constant may have a register of any type that is there
const_type : (regs : List Ty) (to : ℕ) → is_truth_as (is_truth (get_or regs to ty.U32)) (slice_get regs to) ≡ nat_lt to (length regs)
const_type [] zero = none_below 0
const_type [] (suc to) = none_below (suc to)
const_type (t ∷ regs) zero = by_type t ∙ first_below (length regs)
  where
    by_type : (t : Ty) → is_truth_as (is_truth t) (Some t) ≡ true
    by_type ty.I32 = refl
    by_type ty.U32 = refl
    by_type ty.Bool = refl
const_type (t ∷ regs) (suc to) = const_type regs to ∙ next_below to (length regs)

gives_joins : (a b : Option Ty) → gives_type (option_map is_truth a) b ≡ joins a b
gives_joins None b = refl
gives_joins (Some t) b = refl

goes_on_is : (to passed : ℕ) (o : Option KnownPlace) (scope : Scope) → and_known to (option_map (λ (known : KnownPlace). record { layout = known.layout; passed = passed }) o) scope ≡ goes_on to passed o scope
goes_on_is to passed None scope = refl
goes_on_is to passed (Some known) scope = refl

-- judgements one after the other, from one that is known so far
fold_from : (judges_of : List Judge) (b : Bool) (scope : Scope) → fold judge_step (b, scope) judges_of ≡ (b && (judge_all judges_of scope).0, (judge_all judges_of scope).1)
fold_from [] b scope = ap (λ (x : Bool). (x, scope)) (sym (and_end b))
fold_from (judge ∷ more) b scope =
    fold_from more (b && (judge scope).0) (judge scope).1
    ∙ (ap (λ (x : Bool). (x, (judge_all more (judge scope).1).1)) (and_assoc b (judge scope).0 (judge_all more (judge scope).1).0)
    ∙ ap (λ (all : Bool × Scope). (b && all.0, all.1)) (sym (fold_from more (judge scope).0 (judge scope).1)))

judge_first : (judge : Judge) (more : List Judge) (scope : Scope) → judge_all (judge ∷ more) scope ≡ ((judge scope).0 && (judge_all more (judge scope).1).0, (judge_all more (judge scope).1).1)
judge_first judge more scope = fold_from more (judge scope).0 (judge scope).1

-- a question's tests, by what is known of its place: in code all at once, along a chain one after the other
asks_apart : (at : Frame) (scope : Scope) (to : ℕ) (index : List ℕ) (found : Option KnownPlace)
    → (holds_of (λ known. is_cell at known.layout known) found && (gives_type (Some true) (slice_get at.regs to) && holds_of (λ known. index_fits at scope known.layout index) found))
    ≡ holds_of (λ known. is_cell at known.layout known && (holds_of (λ shape. indexes at scope shape index) (slice_get at.shapes known.layout) && is_truth_as true (slice_get at.regs to))) found
asks_apart at scope to index None = refl
asks_apart at scope to index (Some known) =
    ap (λ (b : Bool). is_cell at known.layout known && b) (and_turned (is_truth_as true (slice_get at.regs to)) (holds_of (λ shape. indexes at scope shape index) (slice_get at.shapes known.layout)))
  where
    and_turned : (a b : Bool) → (a && b) ≡ (b && a)
    and_turned true true = refl
    and_turned true false = refl
    and_turned false true = refl
    and_turned false false = refl

module _ (at : Frame) where
  abbrev Same : Link → Judge → Type 0
  Same l judge = (scope : Scope) (rest : Block) → fits_scope at scope (l rest) ≡ ((judge scope).0 && fits_scope at (judge scope).1 rest)

  abbrev SameOf : Inst → Type 0
  SameOf inst = Same (link at.regs inst) (judges at inst)

  carry : (l k : Link) (judge other : Judge) → l ≡ k → judge ≡ other → Same k other → Same l judge
  carry l k judge other e f h = subst (λ (m : Link). Same m judge) (sym e) (subst (λ (j : Judge). Same k j) (sym f) h)

  both : (rest : Block) {a b : Bool} {s u : Scope} → a ≡ b → s ≡ u → (a && fits_scope at s rest) ≡ (b && fits_scope at u rest)
  both rest {a} {b} {s} {u} e f = ap (λ (x : Bool). x && fits_scope at s rest) e ∙ ap (λ (v : Scope). b && fits_scope at v rest) f

  list_same : (insts : List Inst) → EachByRecursion SameOf insts → Same (chained (map (link at.regs) insts)) (judged at insts)
  list_same [] each scope rest = refl
  list_same (inst ∷ insts) each scope rest =
      let here = judges at inst scope in
      let more = judged at insts here.1 in
      each.0 scope (chained (map (link at.regs) insts) rest)
      ∙ (ap (λ (b : Bool). here.0 && b) (list_same insts each.1 here.1 rest)
      ∙ (sym (and_assoc here.0 more.0 (fits_scope at more.1 rest))
      ∙ ap (λ (all : Bool × Scope). all.0 && fits_scope at all.1 rest) (sym (judge_first (judges at inst) (map (judges at) insts) scope))))

  block_same : (insts : List Inst) → EachByRecursion SameOf insts → (scope : Scope) → fits_scope at scope (chained (map (link at.regs) insts) End) ≡ (judged at insts scope).0
  block_same insts each scope = list_same insts each scope End ∙ and_end (judged at insts scope).0

  every_same : (inst : Inst) → SameOf inst
  every_same = inductively SameOf
      (λ to word. carry _ _ _ _ (fold-Const (link_step at.regs) to word) (fold-Const (inst_fits at) to word) (λ scope rest. both rest (const_type at.regs to) refl))
      (λ to var. carry _ _ _ _ (fold-Var (link_step at.regs) to var) (fold-Var (inst_fits at) to var) (λ scope rest. both rest (ap (λ (b : Bool). scope.vars var && b) (gives_joins (slice_get at.vars var) (slice_get at.regs to))) refl))
      (λ var from. carry _ _ _ _ (fold-Set (link_step at.regs) var from) (fold-Set (inst_fits at) var from) (λ scope rest. both rest (ap (λ (b : Bool). scope.regs from && b) (gives_joins (slice_get at.vars var) (slice_get at.regs from))) refl))
      (λ to how kind a b. carry _ _ _ _ (fold-Bin (link_step at.regs) to how kind a b) (fold-Bin (inst_fits at) to how kind a b) (λ scope rest. both rest (and_assoc (reads at scope (takes_truth how) a) (reads at scope (takes_truth how) b) (is_truth_as (gives_truth how) (slice_get at.regs to))) refl))
      (λ to how kind a. carry _ _ _ _ (fold-Un (link_step at.regs) to how kind a) (fold-Un (inst_fits at) to how kind a) (λ scope rest. refl))
      (λ to a b s. carry _ _ _ _ (fold-Mulq (link_step at.regs) to a b s) (fold-Mulq (inst_fits at) to a b s) (λ scope rest. both rest (and_three (reads at scope false a) (reads at scope false b) (reads at scope false s) (is_truth_as false (slice_get at.regs to))) refl))
      (λ to layout. carry _ _ _ _ (fold-Root (link_step at.regs) to layout) (fold-Root (inst_fits at) to layout) (λ scope rest. refl))
      (λ to place axis extent index. carry _ _ _ _ (fold-Check (link_step at.regs) to place axis extent index) (fold-Check (inst_fits at) to place axis extent index) (λ scope rest. both rest refl (goes_on_is to 0 (scope.places place) scope)))
      (λ to div size from. carry _ _ _ _ (fold-Extract (link_step at.regs) to div size from) (fold-Extract (inst_fits at) to div size from) (λ scope rest. both rest (and_three (nat_lt 0 div) (nat_lt 0 size) (reads at scope false from) (is_truth_as false (slice_get at.regs to))) refl))
      (λ to high size low. carry _ _ _ _ (fold-Offset (link_step at.regs) to high size low) (fold-Offset (inst_fits at) to high size low) (λ scope rest. both rest (and_three (nat_lt 0 size) (reads at scope false high) (reads at scope false low) (is_truth_as false (slice_get at.regs to))) refl))
      (λ to place node offset. carry _ _ _ _ (fold-Child (link_step at.regs) to place node offset) (fold-Child (inst_fits at) to place node offset) (λ scope rest. both rest refl (goes_on_is to node (scope.places place) scope)))
      (λ to place node offset. carry _ _ _ _ (fold-HashChild (link_step at.regs) to place node offset) (fold-HashChild (inst_fits at) to place node offset) (λ scope rest. both rest refl (goes_on_is to node (scope.places place) scope)))
      (λ to place node offset. carry _ _ _ _ (fold-MaskBit (link_step at.regs) to place node offset) (fold-MaskBit (inst_fits at) to place node offset) (λ scope rest. both rest refl (goes_on_is to node (scope.places place) scope)))
      (λ to place node offset. carry _ _ _ _ (fold-DynCell (link_step at.regs) to place node offset) (fold-DynCell (inst_fits at) to place node offset) (λ scope rest. both rest refl (goes_on_is to node (scope.places place) scope)))
      (λ to place layout field index. carry _ _ _ _ (fold-ReadCell (link_step at.regs) to place layout field index) (fold-ReadCell (inst_fits at) to place layout field index)
      (λ scope rest. both rest (ap (λ (b : Bool). holds_of (is_cell at layout) (scope.places place) && (b && index_fits at scope layout index)) (gives_joins (field_type_at at layout field) (slice_get at.regs to))) refl))
      (λ to place index. carry _ _ _ _ (fold-IsActive (link_step at.regs) to place index) (fold-IsActive (inst_fits at) to place index)
      (λ scope rest. both rest (asks_apart at scope to index (scope.places place)) refl))
      (λ to layout field. carry _ _ _ _ (fold-OwnRead (link_step at.regs) to layout field) (fold-OwnRead (inst_fits at) to layout field) (λ scope rest. both rest (gives_joins (field_type_at at layout field) (slice_get at.regs to)) refl))
      (λ layout field from stmt. carry _ _ _ _ (fold-OwnWrite (link_step at.regs) layout field from stmt) (fold-OwnWrite (inst_fits at) layout field from stmt)
      (λ scope rest. ap (λ (b : Bool). (scope.regs from && b) && fits_scope at scope rest) (gives_joins (field_type_at at layout field) (slice_get at.regs from))))
      (λ how layout field place from index stmt. carry _ _ _ _ (fold-Acc (link_step at.regs) how layout field place from index stmt) (fold-Acc (inst_fits at) how layout field place from index stmt)
      (λ scope rest. ap (λ (b : Bool). (holds_of (is_cell at layout) (scope.places place) && (scope.regs from && (b && index_fits at scope layout index))) && fits_scope at scope rest) (gives_joins (field_type_at at layout field) (slice_get at.regs from))))
      (λ layout index stmt. carry _ _ _ _ (fold-Want (link_step at.regs) layout index stmt) (fold-Want (inst_fits at) layout index stmt) (λ scope rest. refl))
      (λ cond block otherwise first second. carry _ _ _ _ (fold-If (link_step at.regs) cond block otherwise) (fold-If (inst_fits at) cond block otherwise)
      (λ scope rest. ap (λ (b : Bool). (reads at scope true cond && (b && fits_scope at scope (chained (map (link at.regs) otherwise) End))) && fits_scope at scope rest) (block_same block first scope)
      ∙ ap (λ (b : Bool). (reads at scope true cond && ((judged at block scope).0 && b)) && fits_scope at scope rest) (block_same otherwise second scope)))
      (λ var lo hi body each. carry _ _ _ _ (fold-For (link_step at.regs) var lo hi body) (fold-For (inst_fits at) var lo hi body)
      (λ scope rest. ap (λ (b : Bool). (holds_of is_i32 (slice_get at.vars var) && ((at.setters var == 1) && b)) && fits_scope at scope rest) (block_same body each (with_var var scope))))

  of_every : (insts : List Inst) → EachByRecursion SameOf insts
  of_every [] = tt
  of_every (inst ∷ insts) = (every_same inst, of_every insts)

  -- the chain of a block is judged as the block is
  pub code_fits : (insts : List Inst) (scope : Scope) → fits_scope at scope (block_of at.regs insts) ≡ (judged at insts scope).0
  code_fits insts scope = block_same insts (of_every insts) scope
